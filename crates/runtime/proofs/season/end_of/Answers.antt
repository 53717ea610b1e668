use Rattle.runtime.proofs.LeadingOn.{kept_gone, left_gone, played_is, resting_gone, run_is, tells_is}
use Rattle.runtime.proofs.Keeping.{kept_trees}
use Rattle.runtime.proofs.season.end_of.Goals as goal

pub returns-clause-trees : goal.returns-clause-trees
returns-clause-trees c trees runs = kept_trees trees c.args.closed.resting.items c.args.closed.machines.items c.keep_all.new.kept.items c.keep_all.ensures runs.1 runs.0

pub returns-clause-leads : goal.returns-clause-leads
returns-clause-leads c ps seasons closed =
    let x = c.args.closed in (
      (
        run_is ps x closed,
        tells_is ps x closed,
        kept_gone ps x.journal.items x.resting.items x.machines.items c.keep_all.new.kept.items (resting_gone ps x closed) (left_gone ps x closed x.machines.items closed.left) c.keep_all.ensures,
      ),
      played_is ps x closed,
    )
