use Rattle.std.proofs.Common.{◌≡◌, ℕ, Option, Some, None, IfNone, sym, ◌∙◌, ⊎_elim}
use Rattle.protocol_values.specs.declared.Joined.{Joined}
use Rattle.protocol_values.specs.declared.NackWord.TheVariants.{Bound, Carried}
use Rattle.cell_table.specs.Nacks.{SawCarried, SawEnabled}
use Rattle.cell.proofs.Alone.{enabled_more}
use Rattle.cell.proofs.nacks.enabled_at.Goals as goal

none_then : {A P Q : Type 0} (o : Option A) → (P → Q) → IfNone o P → IfNone o Q
none_then None f h = f h
none_then (Some x) f h = h

-- a nack that is bound was not seen carried
pub returns-in-Bound-clause-none : goal.returns-in-Bound-clause-none
returns-in-Bound-clause-none g c = none_then c.enabled_by.result
    (λ none ready. ⊎_elim
    (λ (e : (j : Joined) × SawEnabled c.args.seat.now.me.0.seen c.args.nack j). none e.0 (enabled_more _ _ _ c.args.nack e.0 c.word_of.ensures.learns e.1))
    (λ (h : (stamp : ℕ) × SawCarried c.args.seat.now.me.0.seen c.args.nack stamp).
    let bad : Bound c.in-Bound.bound ≡ Carried h.0 = sym c.in-Bound.is ∙ c.word_of.ensures.same_stamp h.0 h.1.0 in cc)
    ready)
    c.enabled_by.ensures.none
