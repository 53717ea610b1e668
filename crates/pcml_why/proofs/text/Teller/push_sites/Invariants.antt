use Rattle.std.proofs.Common.{◌≡◌, ◌++◌}
use Rattle.std.specs.String.{string_bytes}
use Rattle.script.specs.Scripts.{script_of}
use Rattle.pcml_why.specs.Whys.{facts_of, site_text, texts_of}
use Rattle.journal_text.specs.Names.{named}
use Rattle.pcml_why.proofs.text.Teller.push_sites.Given as goal

abbrev pub invariant-loop-thread : goal.invariant-loop-thread
invariant-loop-thread l = string_bytes l.out ≡ string_bytes l.fn.out ++ texts_of (site_text (named (script_of l.self.script.now)) (facts_of (script_of l.self.script.now).processes l.self.state.now) l.rows l.self.sites.now) l.self.sites.now l.thread
