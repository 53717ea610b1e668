use Rattle.std.specs.String.{string_bytes}
use Rattle.script.specs.Scripts.{script_of}
use Rattle.pcml_why.specs.Whys.{facts_of, site_text}
use Rattle.pcml_why.proofs.Telling.{texts_of-more}
use Rattle.journal_text.specs.Names.{named}
use Rattle.pcml_why.proofs.text.Teller.push_sites.Goals as goal

pub loop-thread-preserved : goal.loop-thread-preserved
loop-thread-preserved c =
    texts_of-more (site_text (named (script_of c.args.self.now.script.now)) (facts_of (script_of c.args.self.now.script.now).processes c.args.self.now.state.now) c.args.rows c.args.self.now.sites.now) c.args.self.now.sites.now c.loop-thread.thread _
    (string_bytes c.args.out.now) (string_bytes c.loop-thread.out) (string_bytes c.push_site.new.out) c.loop-thread-test.true c.loop-thread.invariant c.in_ok-push_site.ensures
