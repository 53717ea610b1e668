use Rattle.std.proofs.Common.{◌≡◌, ◌∙◌, ◌+◌, ◌*◌, ◌-◌, ◌≤◌, ◌<◌, ℕ, List, ap, arith, drop, get_or, length, min, sym, take, ⊎_elim}
use Rattle.std.proofs.lemmas.Bool.{cases_lt}
use Rattle.std.proofs.lemmas.List.{get_or-drop, get_or-take, get_or_past, length-take}
use Rattle.protocol_ledger.specs.declared.opening.NackState.{NackState}
use Rattle.protocol_ledger.specs.declared.opening.NackState.TheVariants.{Unbound}
use Rattle.journal.proofs.concluding.nacks_of.Goals as goal

-- the elements from a place on, as far as there are any
within : (xs : List NackState) (at first count k : ℕ) → first ≡ min at (length xs) → count ≡ min (first + 64) (length xs) - first → k < 64 → get_or (take count (drop first xs)) k Unbound ≡ get_or xs (at + k) Unbound
within xs at first count k begin size low = ⊎_elim
    (λ (less : k < count). get_or-take count (drop first xs) k Unbound less ∙ get_or-drop first xs k Unbound ∙ ap (λ (n : ℕ). get_or xs n Unbound) (let same : first + k ≡ at + k = omega arith in same))
    (λ (more : count ≤ k).
    get_or_past (take count (drop first xs)) k Unbound (let short = length-take count (drop first xs) in omega (arith, short)) ∙ sym (get_or_past xs (at + k) Unbound (omega arith)))
    (cases_lt k count)

pub returns-clause-states : goal.returns-clause-states
returns-clause-states c = λ k low.
    let whole = c.deref.result.now in
    let count : c.len-count.result ≡ length whole = c.len-count.ensures ∙ sym c.deref.ensures.len in
    within whole (c.args.thread * 64) c.min-first.result (c.min-end.result - c.min-first.result) k (c.min-first.ensures ∙ ap (min (c.args.thread * 64)) count)
    (ap (λ (n : ℕ). n - c.min-first.result) (c.min-end.ensures ∙ ap (min (c.min-first.result + 64)) count)) low
    ∙ ap (λ (xs : List NackState). get_or xs (c.args.thread * 64 + k) Unbound) c.deref.ensures.value
