use Rattle.std.proofs.Common.{◌≡◌, ◌⊎◌, ℕ, ⊎_elim, subst}
use Rattle.protocol_values.specs.declared.Direction.{Direction}
use Rattle.protocol_values.specs.declared.Direction.TheVariants.{Never, Recv, Send}
use Rattle.protocol_values.specs.declared.Row.{Row}
use Rattle.cell.specs.Calls.{GridOf, IsPassOf, PassOf}
use Rattle.cell_table.specs.Nacks.{CanStandAlone}
use Rattle.cell_table.specs.Sight.{SeesDirection}
use Rattle.meet_scan.proofs.Growing.{NeedsPartner, stands_never}
use Rattle.meet_scan.proofs.Reading.{if_none}
use Rattle.meet.proofs.Choosing.{meets_within}
use Rattle.meet.proofs.Putting.{each_on_nothing}
use Rattle.meet.proofs.meet.Search.look.Goals as goal

-- an offer in such a direction does not let its row stand alone
never : {M : Type 0} (g : GridOf M) (p : PassOf M) (mine : Row × ℕ) (d e : Direction) → IsPassOf g p → SeesDirection p.seen mine.0 mine.1 d → d ≡ e → NeedsPartner e → ¬ CanStandAlone p.seen mine.0 mine.1
never g p mine d e here sees is needs = stands_never _ _ p.seen mine.0 mine.1 e here.4 (subst (SeesDirection p.seen mine.0 mine.1) is sees) needs

of_pair : {M : Type 0} (g : GridOf M) (p : PassOf M) (mine : Row × ℕ) (d : Direction) → IsPassOf g p → SeesDirection p.seen mine.0 mine.1 d
    → ((chan : ℕ) × (atoms : ℕ) × (d ≡ Send chan atoms)) ⊎ ((chan : ℕ) × (d ≡ Recv chan)) → ¬ CanStandAlone p.seen mine.0 mine.1
of_pair g p mine d here sees is =
    ⊎_elim (λ w. never g p mine d (Send w.0 w.1) here sees w.2 (λ s x y z h. h)) (λ w. never g p mine d (Recv w.0) here sees w.1 (λ s x y z h. h)) is

pub look_at-requires-clause-lanes : goal.look_at-requires-clause-lanes
look_at-requires-clause-lanes g c = (c.requires.lanes, meets_within c.args.self.now.meet.now c.args.direction c.in-Some.at c.requires.lanes.1 c.in-Some.ensures)

pub returns-in_default-clause-none : goal.returns-in_default-clause-none
returns-in_default-clause-none g c = of_pair c.args.self.now.cells.now c.args.pass.now c.args.mine c.args.direction c.requires.here.0 c.requires.read c.in-Send.is

pub returns-in-Some-clause-none : goal.returns-in-Some-clause-none
returns-in-Some-clause-none g c =
    if_none c.look_at.result (of_pair c.args.self.now.cells.now c.args.pass.now c.args.mine c.args.direction c.requires.here.0 c.requires.read c.in-Send.is)

pub returns-in-Never-clause-none : goal.returns-in-Never-clause-none
returns-in-Never-clause-none g c = never c.args.self.now.cells.now c.args.pass.now c.args.mine c.args.direction Never c.requires.here.0 c.requires.read c.in-Never.is (λ s x y z h. h)

pub returns-in_default-clause-more : goal.returns-in_default-clause-more
returns-in_default-clause-more g c = each_on_nothing c.args.lanes.now.passes.items

pub returns-in-Always-clause-more : goal.returns-in-Always-clause-more
returns-in-Always-clause-more g c = each_on_nothing c.args.lanes.now.passes.items

pub returns-in-Never-clause-more : goal.returns-in-Never-clause-more
returns-in-Never-clause-more g c = each_on_nothing c.args.lanes.now.passes.items
