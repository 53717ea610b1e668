use Rattle.std.proofs.Common.{◌≡◌, ℕ, true, false, not, Option, None, Some, is_some, sym, ap, ◌∙◌}
use Rattle.std.proofs.lemmas.Bool.{false≢true}
use Rattle.journal_replay.specs.Replays.{TellsEnded}
use Rattle.journal_replay.specs.declared.state.State.{State}
use Rattle.pcml_answers.specs.Telling.{TellsEnd}
use Rattle.pcml_answers.specs.declared.reason.Reason.TheVariants.{NotEnded}
use Rattle.pcml_answers.proofs.unlawful.end_reason.Goals as goal

going : (s : State) (t : ℕ) (ended : Option ℕ) → TellsEnded s t ended → is_some ended ≡ false → TellsEnd s t (Some (NotEnded t))
going s t None tells e = λ ps rows earlier c stands stands-for. (stands-for, tells ps rows earlier stands)
going s t (Some stamp) tells e = absurd (false≢true (sym e))

ended : (s : State) (t : ℕ) (ended : Option ℕ) → TellsEnded s t ended → is_some ended ≡ true → TellsEnd s t None
ended s t None tells e = absurd (false≢true e)
ended s t (Some stamp) tells e = λ ps rows earlier stands. (tells ps rows earlier stands).0

pub returns-then-is_none : goal.returns-then-is_none
returns-then-is_none c = going c.args.state.now c.args.thread c.ended.result c.ended.ensures.told (c.is_none.ensures ∙ ap not c.if-is_none.true)

pub returns-else-is_none : goal.returns-else-is_none
returns-else-is_none c = ended c.args.state.now c.args.thread c.ended.result c.ended.ensures.told (c.is_none.ensures ∙ ap not c.if-is_none.false)
