-- The processes of a script by their numbers, the names of their variables, and answers for channels.
use Rattle.std.proofs.Common.{◌≡◌, ◌==◌, ◌&&◌, ℕ, zero, suc, ◌<◌, Bool, true, false, List, [], ◌∷◌, ◌++◌, Contains, Some, None, ap, get_or, length, map, refl, sym, subst, slice_get, ◌∙◌, ⊎_elim}
use Rattle.std.proofs.lemmas.Bool.{eqb-true, false≢true}
use Rattle.std.proofs.lemmas.List.{get_or-map, length-map}
use Rattle.std.proofs.lemmas.Option.{none-some, slice_get-get_or}
use Rattle.script_tree.specs.Processes.{Proc}
use Rattle.configurations.specs.Serving.{nobody_serves}
use Rattle.protocol_values.specs.declared.Side.{Side}
use Rattle.protocol_values.specs.declared.Side.TheVariants.{Sends, Receives}
use Rattle.journal_replay.proofs.Lists.{contains-cases}
use Rattle.pcml_why_sites.specs.Writing.{same_side}
use Rattle.pcml_why.specs.Served.{AreAnswers, is_for}
use Rattle.pcml_why.specs.declared.served.Answer.{Answer}
use Rattle.pcml_why.specs.Whys.{variables_at, variables_in}

map-at : {A : Type 0} (f : A → Proc) (xs : List A) (t : ℕ) (d : A) → t < length xs → slice_get (map f xs) t ≡ Some (f (get_or xs t d))
map-at f xs t d lt =
    slice_get-get_or (map f xs) t (f d) (subst (λ (n : ℕ). t < n) (sym (length-map xs f)) lt) ∙ ap Some (get_or-map f xs t d (f d) lt)

-- the names of its variables
pub variables-at : {A : Type 0} (f : A → Proc) (xs : List A) (ps : List Proc) (t : ℕ) (x : A) → map f xs ≡ ps → t < length xs → x ≡ get_or xs t x → (f x).variables ≡ variables_at ps t
variables-at {A = A} f xs ps t x are lt is =
    ap (λ (y : A). (f y).variables) is ∙ ap variables_in (sym (map-at f xs t x lt)) ∙ ap (λ (qs : List Proc). variables_in (slice_get qs t)) are

pub no-name : (names : List (List ℕ)) (v : ℕ) → None ≡ slice_get names v → [] ≡ get_or names v []
no-name [] v e = refl
no-name (n ∷ names) zero e = absurd (none-some n e)
no-name (n ∷ names) (suc v) e = no-name names v e

-- ANSWERS

pub one-more-answer : (ps : List Proc) (answers more : List Answer) (side : Side) (chan : ℕ) (b : Bool) → b ≡ nobody_serves ps side chan → more ≡ answers ++ record { side = side; chan = chan; is_by_nobody = b } ∷ [] →
    AreAnswers ps answers → AreAnswers ps more
one-more-answer ps answers more side chan b is grown are a there =
    let new : Answer = record { side = side; chan = chan; is_by_nobody = b } in
    ⊎_elim
    (λ before. are a before)
    (λ (last : new ≡ a). subst (λ (x : Answer). x.is_by_nobody ≡ nobody_serves ps x.side x.chan) last is)
    (contains-cases answers new a (subst (λ (l : List Answer). Contains l a) grown there))

sides-same : (a b : Side) → same_side a b ≡ true → a ≡ b
sides-same Sends Sends e = refl
sides-same Receives Receives e = refl
sides-same Sends Receives e = absurd (false≢true e)
sides-same Receives Sends e = absurd (false≢true e)

parted : (x y : Bool) → (x && y) ≡ true → (x ≡ true) × (y ≡ true)
parted true y e = (refl, e)
parted false y e = absurd (false≢true e)

-- an answer for this side of the channel
pub answer-is : (ps : List Proc) (a : Answer) (side : Side) (chan : ℕ) → is_for side chan a ≡ true → a.is_by_nobody ≡ nobody_serves ps a.side a.chan → a.is_by_nobody ≡ nobody_serves ps side chan
answer-is ps a side chan for is =
    let e = parted (same_side a.side side) (a.chan == chan) for in
    is ∙ ap (λ (s : Side). nobody_serves ps s a.chan) (sides-same a.side side e.0) ∙ ap (λ (c : ℕ). nobody_serves ps side c) (eqb-true a.chan chan e.1)
