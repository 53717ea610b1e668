-- What is asked for of the outcomes, and what a finding says of it.
use Rattle.std.specs.Prelude.{◌||◌, Bool, not, if◌then◌else◌}
use Rattle.std.specs.Option.{option_copied}
use Rattle.script.specs.Sources.{Script}
use Rattle.outcomes.specs.declared.asked.Asked.{Asked}
use Rattle.pcml_request.specs.declared.request.OutcomesAsked.{OutcomesAsked}
use Rattle.pcml_outcomes.specs.declared.finding.Finding.{Finding}
use Rattle.pcml_outcomes.specs.declared.finding.Finding.TheVariants.{Clear, Open, Stranded, Stuck}
use Rattle.pcml_outcomes.specs.Searching.{IsAskedOf, MisnamesAsked}
use Rattle.pcml_tool.specs.declared.fault.Fault.{Fault}
use Rattle.pcml_tool.specs.declared.fault.Fault.TheVariants as faults
use Rattle.pcml_tool.specs.declared.answer.Verdict.{Verdict}
use Rattle.pcml_tool.specs.declared.answer.Verdict.TheVariants.{Denied, Done, Lacking as TheLacking}

-- what a search asks for
abbrev pub IsAskedBy : Script → OutcomesAsked → Asked → Type 0
IsAskedBy s search asked = IsAskedOf s search.wanted (option_copied search.only) search.first asked

-- want of memory, or the first name that no process has: of those that are needed, or else of the others
abbrev pub FailsAsked : Script → OutcomesAsked → Fault → Type 0
FailsAsked s search (faults.Names fault) = MisnamesAsked s search.wanted (option_copied search.only) fault
FailsAsked s search fault = ⊥

-- what a finding says where the journal of an outcome was asked for or not, and is there or not
abbrev pub verdict_of : Finding → Bool → Bool → Verdict
verdict_of Stuck asked there = TheLacking
verdict_of Stranded asked there = TheLacking
verdict_of Clear asked there = if not asked || there then Done else Denied
verdict_of Open asked there = Denied
