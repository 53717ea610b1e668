use Rattle.std.proofs.Common.{refl, subst}
use Rattle.std.specs.Prelude.{IfNone, IfSome}
use Rattle.meet_scan.specs.Leaving.{IsHeldUp, TriesFirst}
use Rattle.cell_hand.specs.Hands.{HandOf}
use Rattle.cell_hand.specs.Calls.{IsSearched}
use Rattle.cell_hand.specs.contracts.hand.Hand.{the_view}
use Rattle.cell_hand.specs.declared.hand.Table.{Table}
use Rattle.cell_hand.proofs.hand.Hand.search_opened.Goals as goal

pub returns : goal.returns
returns c =
    let k = the_view (record { table = c.self.inside.table; pass = c.search_once.new.pass; scan = c.search_once.new.scan }) in
    subst (λ (h : HandOf). IsSearched h k c.args.row c.args.first c.args.alone c.search_once.result) c.self.view_is
    (record {
      table = (refl, refl);
      grows = c.search_once.ensures.grows;
      more = c.search_once.ensures.more;
      made = c.search_once.ensures.made;
      found = c.search_once.ensures.found;
      granted = c.search_once.ensures.alone;
      tried = subst (λ (t : Table). IfSome c.search_once.result (TriesFirst t.cells k.scan.me.0 c.self.inside.pass.seen k.pass.seen c.args.row c.args.first)) c.deref-2.ensures c.search_once.ensures.first;
      again = subst (λ (t : Table). IfNone c.search_once.result (IsHeldUp t.cells k.scan.me.0 c.self.inside.pass.seen k.pass.seen c.args.row)) c.deref-2.ensures c.search_once.ensures.again;
    })
