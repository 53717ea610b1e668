use Rattle.std.proofs.Common.{rules, ◌≡◌, Bool, true, subst}
use Rattle.cell.specs.Attempts.{Bound}
use Rattle.test_journal.proofs.Nacks.{has_one}
use Rattle.test_journal.proofs.tests.fetched.bind.Goals as goal

pub returns-in-0-clause-nacks : goal.returns-in-0-clause-nacks
returns-in-0-clause-nacks g c =
    let yes : c.bind.result ≡ true = (search rules) in
    let bound : Bound c.args.pass.now.seen c.bind.new.pass.seen 0 c.args.row 0 true = subst (λ (b : Bool). Bound c.args.pass.now.seen c.bind.new.pass.seen 0 c.args.row 0 b) yes c.bind.ensures.bound in
    has_one c.args.pass.now.seen c.bind.new.pass.seen c.args.row bound.0 c.requires.free
