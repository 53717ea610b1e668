use Rattle.std.proofs.Common.{◌∙◌, ℕ, List, ap, ap₂, sym, subst}
use Rattle.script_reader.specs.Places.{texts}
use Rattle.script.specs.Scripts.{script_of}
use Rattle.script.proofs.Declared.{declares_names}
use Rattle.journal_text.specs.Slots.{AreApart}
use Rattle.journal_text.proofs.Chains.{are_apart}
use Rattle.journal_text.proofs.names.Names.new.Goals as goal

pub new-requires-clause-apart : goal.new-requires-clause-apart
new-requires-clause-apart c = (let s = c.args.script.now in subst AreApart (sym c.in_ok-threads.ensures.value) (are_apart _ (declares_names (script_of s) s.spelled).1.1))

pub new-requires-2-clause-apart : goal.new-requires-2-clause-apart
new-requires-2-clause-apart c = (let s = c.args.script.now in subst AreApart (sym c.in_ok-channels.ensures.value) (are_apart _ (declares_names (script_of s) s.spelled).0.1))

pub returns : goal.returns
returns c = ap₂ (λ (threads channels : List (List ℕ)). record { threads = threads; channels = channels }) (ap texts c.in_ok-new.ensures ∙ c.in_ok-threads.ensures.value) (ap texts c.in_ok-new-2.ensures ∙ c.in_ok-channels.ensures.value)
