-- Reading a schedule line by line, as the loop does.
use Rattle.std.proofs.Common.{◌≡◌, ◌≢◌, ℕ, ◌+◌, ◌<◌, List, [], ◌∷◌, ◌++◌, length, Some, None, refl, sym, ap, ◌∙◌, append_assoc, arith, inr, length-append}
use Rattle.std.specs.List.{flat_map, AllByRecursion}
use Rattle.std.proofs.lemmas.List.{append-nil}
use Rattle.std.proofs.lemmas.List.Concat.{flat_map-append}
use Rattle.protocol_values.specs.declared.Seat.{Seat}
use Rattle.protocol_values.specs.declared.Step.{Step}
use Rattle.protocol.specs.declared.schedule.Size.{Size}
use Rattle.protocol.specs.Schedule.{text_of, step_line, world_line, IsPlan, IsSeatStep, Spells, NoWorldLineBegins, NoStepLineBegins, IsFirstBadLine}
use Rattle.protocol.specs.Reading.{step_line_at, world_line_at}
use Rattle.protocol.proofs.Steps.{line_takes, line_again, world_takes, world_again}

-- ---- a line begins the bytes exactly where reading finds it

pub no_world : (bytes : List ℕ) → world_line_at bytes ≡ None → NoWorldLineBegins bytes
no_world bytes e w after fits same =
    let found = ap world_line_at same ∙ world_again w after fits in absurd cc

pub no_step : (bytes : List ℕ) → step_line_at bytes ≡ None → NoStepLineBegins bytes
no_step bytes e s after fits same =
    let found = ap step_line_at same ∙ line_again s after fits in absurd cc

pub shorter : (s : Seat × Step) (rest : List ℕ) → length rest < length (step_line s ++ rest)
shorter s rest = simp length-append (omega arith)

pub not_empty : (s : Seat × Step) (rest : List ℕ) → step_line s ++ rest ≡ [] → ⊥
not_empty s rest e = let h = shorter s rest in let z : length (step_line s ++ rest) ≡ 0 = ap length e in absurd (omega arith)

-- ---- what was read so far: a schedule, and the rest of the bytes

pub record IsSoFar (bytes : List ℕ) (size : Size) (steps : List (Seat × Step)) (rest : List ℕ) : Type 0 where
  pub fits : IsPlan (record { size = size; steps = steps })
  pub text : bytes ≡ text_of (record { size = size; steps = steps }) ++ rest

all_push : (xs : List (Seat × Step)) (x : Seat × Step) → AllByRecursion IsSeatStep xs → IsSeatStep x → AllByRecursion IsSeatStep (xs ++ x ∷ [])
all_push [] x h k = (k, tt)
all_push (y ∷ xs) x h k = (h.0, all_push xs x h.1 k)

pub begun : (bytes : List ℕ) (size : Size) (rest : List ℕ) → world_line_at bytes ≡ Some (size, rest) → IsSoFar bytes size [] rest
begun bytes size rest e =
    let t = world_takes bytes size rest e in
    let whole : bytes ≡ text_of (record { size = size; steps = [] }) ++ rest = t.parts ∙ ap (λ (x : List ℕ). x ++ rest) (sym (append-nil (world_line size))) in
    record { fits = record { size = t.fits; steps = tt }; text = whole }

regroup : (w f l r : List ℕ) → (w ++ f) ++ (l ++ r) ≡ (w ++ (f ++ l)) ++ r
regroup w f l r = simp append_assoc

pub goes_on : (bytes : List ℕ) (size : Size) (steps : List (Seat × Step)) (rest : List ℕ) (s : Seat × Step) (after : List ℕ) → IsSoFar bytes size steps rest → step_line_at rest ≡ Some (s, after)
    → IsSoFar bytes size (steps ++ s ∷ []) after
goes_on bytes size steps rest s after h e =
    let t = line_takes rest s after e in
    let pushed : flat_map step_line (steps ++ s ∷ []) ≡ flat_map step_line steps ++ step_line s = flat_map-append step_line steps (s ∷ []) ∙ ap (λ (x : List ℕ). flat_map step_line steps ++ x) (append-nil (step_line s)) in
    let whole : bytes ≡ text_of (record { size = size; steps = steps ++ s ∷ [] }) ++ after = h.text ∙ ap (λ (x : List ℕ). text_of (record { size = size; steps = steps }) ++ x) t.parts ∙ regroup (world_line size) (flat_map step_line steps) (step_line s) after ∙ ap (λ (x : List ℕ). (world_line size ++ x) ++ after) (sym pushed) in
    record { fits = record { size = h.fits.size; steps = all_push steps s h.fits.steps t.fits }; text = whole }

pub falls : (rest : List ℕ) (s : Seat × Step) (after : List ℕ) → step_line_at rest ≡ Some (s, after) → length after < length rest
falls rest s after e = let t = line_takes rest s after e in let less = shorter s after in omega (arith, ap length t.parts)

pub ends : (bytes : List ℕ) (size : Size) (steps : List (Seat × Step)) (rest : List ℕ) → IsSoFar bytes size steps rest → rest ≡ [] → Spells bytes (record { size = size; steps = steps })
ends bytes size steps rest h e = record { fits = h.fits; text = h.text ∙ rw e (append-nil (text_of (record { size = size; steps = steps }))) }

pub breaks : (bytes : List ℕ) (size : Size) (steps : List (Seat × Step)) (rest : List ℕ) → IsSoFar bytes size steps rest → rest ≢ [] → step_line_at rest ≡ None → IsFirstBadLine bytes (length steps + 2)
breaks bytes size steps rest h more e =
    inr (record { size = size; steps = steps }, rest, refl, record { fits = h.fits; text = h.text; more = more; bad = no_step rest e })
