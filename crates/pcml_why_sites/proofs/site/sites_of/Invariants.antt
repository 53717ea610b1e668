use Rattle.std.proofs.Common.{map}
use Rattle.script_tree.specs.Processes.{proc_of}
use Rattle.journal_replay.proofs.Telling.{HoldsOf}
use Rattle.pcml_why_sites.specs.Sites.{TellsSite}
use Rattle.pcml_why_sites.proofs.site.sites_of.Given as goal

abbrev pub invariant-loop-thread : goal.invariant-loop-thread
invariant-loop-thread l = HoldsOf (TellsSite (map proc_of l.processes) l.commits l.state) l.thread l.sites.items
