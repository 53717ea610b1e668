use Rattle.std.proofs.Common.{subst, sym}
use Rattle.script.specs.Scripts.{script_of}
use Rattle.runtime.specs.Played.{HasSpent}
use Rattle.runtime_run.proofs.Completed.{free}
use Rattle.runtime.proofs.seasons.concluded.Goals as goal

pub returns-then-has_spent-clause-refuses : goal.returns-then-has_spent-clause-refuses
returns-then-has_spent-clause-refuses c = (c.in-Ok.record, c.in-Ok.ensures.completes, subst HasSpent c.deref.ensures.value (c.has_spent.ensures.0 c.if-has_spent.true))

pub returns-else-has_spent-clause-headline : goal.returns-else-has_spent-clause-headline
returns-else-has_spent-clause-headline c =
    free (script_of c.args.script.now).processes c.args.rows c.args.commits.items c.in-Ok.record c.in-Ok.ensures.completes
    (λ t spent. let told = c.has_spent.ensures.1 (subst HasSpent (sym c.deref.ensures.value) (t, spent)) in cc (told, c.if-has_spent.false))
