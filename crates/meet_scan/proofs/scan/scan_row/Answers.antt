use Rattle.std.proofs.Common.{◌∙◌, inl, inr, subst, sym}
use Rattle.cell.proofs.Learning.{learns_look}
use Rattle.cell_table.specs.declared.view.Seen.{Seen}
use Rattle.meet_scan.specs.Searches.{Grows}
use Rattle.meet_scan.specs.declared.found.Found.TheVariants.{Waits, Met}
use Rattle.meet_scan.proofs.Growing.{grows_by, grows_then}
use Rattle.meet_scan.proofs.Making.{looked_first, made_looks, made_then, one_try}
use Rattle.meet_scan.proofs.Scanning.{have_more}
use Rattle.meet_scan.proofs.scan.scan_row.Goals as goal

-- both heads were read, and meet
pub unreachable-requires : goal.unreachable-requires
unreachable-requires g c =
    let t = c.meeting_offer.new.pass.seen in
    let u = c.attempt.new.pass.seen in
    let last = grows_by _ _ t u c.attempt.ensures.learns in
    let first = subst (λ (s : Seen). Grows c.args.pass.now.seen s) (sym c.look.ensures.saw) (grows_by _ _ c.args.pass.now.seen _ (learns_look c.args.other c.look.result c.args.pass.now.seen)) in
    let all = grows_then c.args.pass.now.seen t u (grows_then c.args.pass.now.seen c.look.new.pass.seen t first c.meeting_offer.ensures.grows) last in
    c.in-Unfit.ensures.attempted (c.requires.apart, c.args.direction, c.in-Some.ensures.some.0, inl (have_more c.args.pass.now.seen u c.args.mine.0 c.args.mine.1 c.args.direction all c.requires.read), inl (have_more t u c.args.other c.in-Some.partner c.in-Some.ensures.some.0 last c.in-Some.ensures.some.1), c.in-Some.ensures.some.2)

pub returns-in-Met-clause-made : goal.returns-in-Met-clause-made
returns-in-Met-clause-made g c =
    let first = looked_first c.args.mine.0 c.args.pass.now.made c.meeting_offer.new.pass.made (c.meeting_offer.ensures.looks.0 ∙ c.look.ensures.made) in
    made_then c.args.mine.0 (Met c.args.other) c.args.pass.now.made c.meeting_offer.new.pass.made c.attempt.new.pass.made first (0, c.args.mine.1, c.in-Some.partner, c.in-Met.ensures.made)

pub returns-in-Mine-clause-made : goal.returns-in-Mine-clause-made
returns-in-Mine-clause-made g c =
    let first = looked_first c.args.mine.0 c.args.pass.now.made c.meeting_offer.new.pass.made (c.meeting_offer.ensures.looks.0 ∙ c.look.ensures.made) in
    made_looks c.args.mine.0 Waits c.args.pass.now.made c.meeting_offer.new.pass.made c.attempt.new.pass.made first c.in-Mine.ensures.made

pub returns-in-Gone-clause-made : goal.returns-in-Gone-clause-made
returns-in-Gone-clause-made g c =
    let first = looked_first c.args.mine.0 c.args.pass.now.made c.meeting_offer.new.pass.made (c.meeting_offer.ensures.looks.0 ∙ c.look.ensures.made) in
    one_try c.args.mine.0 c.args.pass.now.made c.meeting_offer.new.pass.made c.attempt.new.pass.made first c.in-Gone.ensures.made

pub returns-in-Busy-clause-made : goal.returns-in-Busy-clause-made
returns-in-Busy-clause-made g c =
    let first = looked_first c.args.mine.0 c.args.pass.now.made c.meeting_offer.new.pass.made (c.meeting_offer.ensures.looks.0 ∙ c.look.ensures.made) in
    one_try c.args.mine.0 c.args.pass.now.made c.meeting_offer.new.pass.made c.attempt.new.pass.made first c.in-Busy.ensures.made

-- the two can meet, and it was claimed
pub returns-in-Busy-clause-again : goal.returns-in-Busy-clause-again
returns-in-Busy-clause-again g c = inr (inr (inr (c.args.mine.1, c.in-Some.partner, c.in-Busy.ensures.fits)))
