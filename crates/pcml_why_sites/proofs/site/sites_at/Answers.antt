use Rattle.std.proofs.Common.{List, subst, sym}
use Rattle.std.proofs.lemmas.Result.{IfOk-weaker}
use Rattle.script_tree.specs.Processes.{Proc}
use Rattle.journal_replay.specs.Replays.{StandsAfter}
use Rattle.pcml_why_sites.specs.Sites.{AreSites}
use Rattle.pcml_why_sites.proofs.site.sites_at.Goals as goal

pub returns : goal.returns
returns c =
    IfOk-weaker c.sites_of.result _ _
    (λ sites is. subst (λ (ps : List Proc). AreSites ps c.args.commits.now c.args.state.now sites.items) c.processes.ensures.value is)
    c.sites_of.ensures

pub sites_of-requires-clause-stands : goal.sites_of-requires-clause-stands
sites_of-requires-clause-stands c =
    let stands = c.requires.stands in
    (stands.0, subst (λ (ps : List Proc). StandsAfter ps stands.0 c.args.commits.now c.args.state.now) (sym c.processes.ensures.value) stands.1)
