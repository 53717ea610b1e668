-- What keeps the promise of a channel with room.
use Rattle.std.proofs.Common.{◌≡◌, ◌||◌, ◌&&◌, ◌<◌, ◌++◌, ◌∷◌, ℕ, zero, suc, Bool, true, false, not, List, [], Option, Some, None, length, map, take, drop, get_or, slice_get, slice_set, refl, subst, sym, ap, ◌∙◌, arith}
use Rattle.std.specs.List.{list_any}
use Rattle.std.proofs.lemmas.Option.{none-some}
use Rattle.channels.specs.declared.pulls.Pull.{Pull}
use Rattle.channels.specs.declared.waiting.Side.{Side}
use Rattle.channels.specs.declared.waiting.Side.TheVariants.{Send, Receive}
use Rattle.channels.specs.declared.waiting.Waiting.{Waiting}
use Rattle.channels.specs.Lines.{IsIn}
use Rattle.channels.specs.States.{Promise, State, line, with_line}
use Rattle.channels.specs.Buffers.{Buffer, Promises, is_missed, is_reached, is_ready}

-- what stands on each side stood there before, where that is so of one side and the other stays
pub fewer-sends : (side : Side) (old new : State) → new ≡ with_line side old (line side new) → ((w : Waiting) → IsIn (line side new) w → IsIn (line side old) w) → (w : Waiting) → IsIn new.sends w → IsIn old.sends w
fewer-sends Send old new is fewer w h = fewer w h
fewer-sends Receive old new is fewer w h = subst (λ (s : State). IsIn s.sends w) is h

pub fewer-receives : (side : Side) (old new : State) → new ≡ with_line side old (line side new) → ((w : Waiting) → IsIn (line side new) w → IsIn (line side old) w) → (w : Waiting) → IsIn new.receives w → IsIn old.receives w
fewer-receives Send old new is fewer w h = subst (λ (s : State). IsIn s.receives w) is h
fewer-receives Receive old new is fewer w h = fewer w h

-- some left their line
pub promises-fewer : (side : Side) (old : Buffer) (new : State) → new ≡ with_line side old.lines (line side new) → ((w : Waiting) → IsIn (line side new) w → IsIn (line side old.lines) w) → Promise new → Promises old →
    Promises (record { lines = new; held = old.held; pulls = old.pulls })
promises-fewer side old new is fewer promise p = record {
  lines = promise;
  within = p.within;
  full = λ w h. p.full w (fewer-sends side old.lines new is fewer w h);
  empty = λ w h. p.empty w (fewer-receives side old.lines new is fewer w h);
}

-- TELLING

-- the beginning of a list, changed, and the rest of it as it was
pub changed-one-more : (f : Pull → Pull) (xs : List Pull) (i : ℕ) (d : Pull) → i < length xs → slice_set (map f (take i xs) ++ drop i xs) i (f (get_or (map f (take i xs) ++ drop i xs) i d)) ≡ map f (take (suc i) xs) ++ drop (suc i) xs
changed-one-more f [] i d lt = absurd (omega arith)
changed-one-more f (x ∷ xs) zero d lt = refl
changed-one-more f (x ∷ xs) (suc i) d lt = ap (λ (l : List Pull). f x ∷ l) (changed-one-more f xs i d (omega arith))

or-true : (a : Bool) {b : Bool} → b ≡ true → a || b ≡ true
or-true true e = refl
or-true false e = e

-- one of them is so
pub set-any : (f : Pull → Bool) (xs : List Pull) (i : ℕ) (old new : Pull) → slice_get xs i ≡ Some old → f new ≡ true → list_any f (slice_set xs i new) ≡ true
set-any f [] i old new at is = absurd (none-some old at)
set-any f (x ∷ xs) zero old new at is = rw is refl
set-any f (x ∷ xs) (suc i) old new at is = or-true (f x) (set-any f xs i old new at is)

pub and-right : (a b : Bool) → a && b ≡ true → b ≡ true
and-right true b e = e
and-right false b e = absurd cc

abbrev or-else : Pull → Option Pull → Pull
or-else d None = d
or-else d (Some x) = x

pub one-pull : (o : Option Pull) (a b : Pull) → o ≡ Some a → o ≡ Some b → a ≡ b
one-pull o a b p q = ap (or-else a) (sym p ∙ q)

-- who was not told is told now, and so is reached
pub reached-when-told : (b : Buffer) (i : ℕ) (old missed : Pull) (told : Waiting) (now : List Pull) → slice_get b.pulls i ≡ Some old → slice_get b.pulls i ≡ Some missed → is_missed b missed ≡ true → told ≡ old.waiting →
    now ≡ slice_set b.pulls i (record { waiting = told; told = true }) → list_any (is_reached (record b { pulls = now })) now ≡ true
reached-when-told b i old missed told now at at-missed is who set =
    let same : old ≡ missed = one-pull (slice_get b.pulls i) old missed at at-missed in
    let waits : missed.waiting ≡ told = sym (who ∙ ap (λ (p : Pull). p.waiting) same) in
    let ready : is_ready b Receive told ≡ true = subst (λ (w : Waiting). is_ready b Receive w ≡ true) waits (and-right (not missed.told) (is_ready b Receive missed.waiting) is) in
    subst (λ (l : List Pull). list_any (is_reached (record b { pulls = now })) l ≡ true) (sym set)
    (set-any (is_reached (record b { pulls = now })) b.pulls i old (record { waiting = told; told = true }) at ready)
