-- Bytes spell one schedule at most, or break off at one line.
use Rattle.std.proofs.Common.{◌≡◌, ℕ, ◌+◌, List, [], ◌∷◌, ◌++◌, length, refl, sym, ap, ◌∙◌, append_assoc, inl, inr}
use Rattle.std.specs.List.{flat_map, AllByRecursion}
use Rattle.std.proofs.lemmas.List.{append-nil}
use Rattle.std.proofs.lemmas.Option.{some_pair_parts}
use Rattle.protocol_values.specs.declared.Seat.{Seat}
use Rattle.protocol_values.specs.declared.Step.{Step}
use Rattle.protocol.specs.declared.schedule.Size.{Size}
use Rattle.protocol.specs.Schedule.{Plan, text_of, step_line, world_line, IsPlan, IsSize, IsSeatStep, BreaksOffAfter, NoWorldLineBegins, NoStepLineBegins, SpellsOnlyOne, SpellsOrIsBad, HasOneFirstBadLine}
use Rattle.protocol.specs.Reading.{step_line_at, world_line_at}
use Rattle.protocol.proofs.Steps.{line_again, world_again}
use Rattle.protocol.proofs.Plans.{not_empty}

same_world : (v w : Size) (a b : List ℕ) → IsSize v → IsSize w → world_line v ++ a ≡ world_line w ++ b → (v ≡ w) × (a ≡ b)
same_world v w a b p q e = some_pair_parts v w a b (sym (world_again v a p) ∙ ap world_line_at e ∙ world_again w b q)

same_step : (x y : Seat × Step) (a b : List ℕ) → IsSeatStep x → IsSeatStep y → step_line x ++ a ≡ step_line y ++ b → (x ≡ y) × (a ≡ b)
same_step x y a b p q e = some_pair_parts x y a b (sym (line_again x a p) ∙ ap step_line_at e ∙ line_again y b q)

same_steps : (xs ys : List (Seat × Step)) (a b : List ℕ) → AllByRecursion IsSeatStep xs → AllByRecursion IsSeatStep ys → NoStepLineBegins a → NoStepLineBegins b
    → flat_map step_line xs ++ a ≡ flat_map step_line ys ++ b → (xs ≡ ys) × (a ≡ b)
same_steps [] [] a b p q h k e = (refl, e)
same_steps [] (y ∷ ys) a b p q h k e = absurd (h y (flat_map step_line ys ++ b) q.0 (e ∙ append_assoc (step_line y) (flat_map step_line ys) b))
same_steps (x ∷ xs) [] a b p q h k e = absurd (k x (flat_map step_line xs ++ a) p.0 (sym e ∙ append_assoc (step_line x) (flat_map step_line xs) a))
same_steps (x ∷ xs) (y ∷ ys) a b p q h k e =
    let first = same_step x y (flat_map step_line xs ++ a) (flat_map step_line ys ++ b) p.0 q.0
    (sym (append_assoc (step_line x) (flat_map step_line xs) a) ∙ e ∙ append_assoc (step_line y) (flat_map step_line ys) b) in
    let others = same_steps xs ys a b p.1 q.1 h k first.1 in
    (ap (λ (z : Seat × Step). z ∷ xs) first.0 ∙ ap (λ (zs : List (Seat × Step)). y ∷ zs) others.0, others.1)

same_plan : (p q : Plan) (a b : List ℕ) → IsPlan p → IsPlan q → NoStepLineBegins a → NoStepLineBegins b → text_of p ++ a ≡ text_of q ++ b → (p ≡ q) × (a ≡ b)
same_plan p q a b f g h k e =
    let world = same_world p.size q.size (flat_map step_line p.steps ++ a) (flat_map step_line q.steps ++ b) f.size g.size
    (sym (append_assoc (world_line p.size) (flat_map step_line p.steps) a) ∙ e ∙ append_assoc (world_line q.size) (flat_map step_line q.steps) b) in
    let steps = same_steps p.steps q.steps a b f.steps g.steps h k world.1 in
    let made : Size → List (Seat × Step) → Plan = λ size steps. record { size = size; steps = steps } in
    (ap (λ (s : Size). made s p.steps) world.0 ∙ ap (λ (s : List (Seat × Step)). made q.size s) steps.0, steps.1)

nothing_begins : NoStepLineBegins []
nothing_begins s after fits e = not_empty s after (sym e)

pub spells_only_one : SpellsOnlyOne
spells_only_one bytes p q h k =
    let r = same_plan p q [] [] h.fits k.fits nothing_begins nothing_begins (append-nil (text_of p) ∙ sym h.text ∙ k.text ∙ sym (append-nil (text_of q))) in r.0

pub spells_or_is_bad : SpellsOrIsBad
spells_or_is_bad bytes p k h bad =
    elim bad [
      | inl w ↦ w.1 p.size (flat_map step_line p.steps) h.fits.size h.text
      | inr b ↦
          let off = b.3 in
          let r = same_plan p b.0 [] b.1 h.fits off.fits nothing_begins off.bad (append-nil (text_of p) ∙ sym h.text ∙ off.text) in
          off.more (sym r.1)
    ]

not_both : (bytes : List ℕ) (p : Plan) (rest : List ℕ) → NoWorldLineBegins bytes → BreaksOffAfter bytes p rest → ⊥
not_both bytes p rest none off =
    none p.size (flat_map step_line p.steps ++ rest) off.fits.size (off.text ∙ append_assoc (world_line p.size) (flat_map step_line p.steps) rest)

pub has_one_first_bad_line : HasOneFirstBadLine
has_one_first_bad_line bytes j k h g =
    elim h [
      | inl w ↦ elim g [ inl v ↦ w.0 ∙ sym v.0 | inr b ↦ absurd (not_both bytes b.0 b.1 w.1 b.3) ]
      | inr a ↦
          elim g [
            | inl v ↦ absurd (not_both bytes a.0 a.1 v.1 a.3)
            | inr b ↦
                let r = same_plan a.0 b.0 a.1 b.1 a.3.fits b.3.fits a.3.bad b.3.bad (sym a.3.text ∙ b.3.text) in
                a.2 ∙ ap (λ (p : Plan). length p.steps + 2) r.0 ∙ sym b.2
          ]
    ]
