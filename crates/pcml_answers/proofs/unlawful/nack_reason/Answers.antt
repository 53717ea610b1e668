use Rattle.std.proofs.Common.{◌≡◌, ℕ, true, false, not, Option, None, Some, is_some, sym, ap, ◌∙◌}
use Rattle.std.proofs.lemmas.Bool.{false≢true}
use Rattle.protocol_values.specs.declared.NackName.{NackName}
use Rattle.journal_replay.specs.Replays.{TellsFired}
use Rattle.journal_replay.specs.declared.state.State.{State}
use Rattle.pcml_answers.specs.Telling.{TellsNack}
use Rattle.pcml_answers.specs.declared.reason.Reason.TheVariants.{NotFired}
use Rattle.pcml_answers.proofs.unlawful.nack_reason.Goals as goal

unfired : (s : State) (n : NackName) (fired : Option ℕ) → TellsFired s n fired → is_some fired ≡ false → TellsNack s n (Some (NotFired n))
unfired s n None tells e = λ ps rows earlier c stands stands-for. (stands-for, tells ps rows earlier stands)
unfired s n (Some stamp) tells e = absurd (false≢true (sym e))

fired : (s : State) (n : NackName) (fired : Option ℕ) → TellsFired s n fired → is_some fired ≡ true → TellsNack s n None
fired s n None tells e = absurd (false≢true e)
fired s n (Some stamp) tells e = λ ps rows earlier stands. (tells ps rows earlier stands).0

pub returns-then-is_none : goal.returns-then-is_none
returns-then-is_none c = unfired c.args.state.now c.args.nack c.fired.result c.fired.ensures.told (c.is_none.ensures ∙ ap not c.if-is_none.true)

pub returns-else-is_none : goal.returns-else-is_none
returns-else-is_none c = fired c.args.state.now c.args.nack c.fired.result c.fired.ensures.told (c.is_none.ensures ∙ ap not c.if-is_none.false)
