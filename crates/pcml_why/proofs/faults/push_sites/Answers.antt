use Rattle.std.proofs.Common.{◌≡◌, ◌++◌, subst}
use Rattle.std.specs.String.{string_bytes}
use Rattle.script.specs.Scripts.{script_of}
use Rattle.journal_text.specs.Names.{named}
use Rattle.pcml_why.specs.Faults.{fault_line}
use Rattle.pcml_why.proofs.Telling.{texts_of-more}
use Rattle.pcml_why_sites.specs.declared.site.Site.{Site}
use Rattle.pcml_why.proofs.faults.push_sites.Goals as goal

pub loop-thread-preserved : goal.loop-thread-preserved
loop-thread-preserved c =
    let s = script_of c.args.script.now in
    let site = c.index-sites-thread.result in
    texts_of-more (fault_line (named s) s.processes) c.args.sites.now c.loop-thread.thread site (string_bytes c.args.out.now) (string_bytes c.loop-thread.out) (string_bytes c.push_site.new.out) c.loop-thread-test.true c.loop-thread.invariant
    (subst (λ (x : Site). string_bytes c.push_site.new.out ≡ string_bytes c.loop-thread.out ++ fault_line (named s) s.processes c.loop-thread.thread x) c.index-sites-thread.is c.in_ok-push_site.ensures)
