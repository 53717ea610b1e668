use Rattle.std.proofs.Common.{rules, true, ◌≡◌, ◌<◌, ◌≤◌, ℕ, length, unwrap_or, sym, subst, arith}
use Rattle.std.proofs.lemmas.Option.{slice_get-get_or}
use Rattle.protocol_values.specs.Words.{count_of, is_word_for}
use Rattle.cell_table.specs.declared.view.View.{View}
use Rattle.cell.specs.Attempts.{OnlyDrafts}
use Rattle.cell_table.specs.Views.{drafted_word}
use Rattle.cell.proofs.Redrafting.{IsDraftedTo, told_count, count_place, drafted_none, drafted_more, drafted_all, drafts_then, one_draft}
use Rattle.cell.proofs.drafting.draft_offers.Goals as goal

pub draft-requires-clause-place : goal.draft-requires-clause-place
draft-requires-clause-place g c = (omega arith, omega arith, subst (λ (n : ℕ). is_word_for 1 n ≡ true) (sym c.pack_count.ensures) (count_place _ c.requires.offers.0))

pub draft-requires-clause-few : goal.draft-requires-clause-few
draft-requires-clause-few g c = λ first. subst (λ (n : ℕ). unwrap_or (count_of n) 0 ≤ c.args.board.now.shape.layout.offers) (sym c.pack_count.ensures) (told_count _ _ c.requires.offers.0 c.requires.room)

pub loop-n-init : goal.loop-n-init
loop-n-init g c =
    record {
      same = (search rules);
      out = (search rules);
      sits = (search rules);
      stays = (search rules);
      made = subst (λ (v : View _). OnlyDrafts c.args.row c.args.seat.now.me.0.made v.made) (sym c.draft.ensures.drafted) (one_draft c.args.row 1 _ c.args.seat.now.me.0.made);
      drafted = subst (λ (v : View _). IsDraftedTo c.args.row c.args.offers.now 0 c.args.seat.now.me.0.seen v.seen) (sym c.draft.ensures.drafted)
          (subst (λ (n : ℕ). IsDraftedTo c.args.row c.args.offers.now 0 c.args.seat.now.me.0.seen (drafted_word c.args.row 1 n c.args.seat.now.me.0).seen) (sym c.pack_count.ensures)
          (drafted_none c.args.row c.args.offers.now c.args.seat.now.me.0.seen));
    }

pub draft_offer-requires-clause-offer : goal.draft_offer-requires-clause-offer
draft_offer-requires-clause-offer g c =
    let few = c.requires.offers.0 in
    let below : c.loop-n.n < length c.args.offers.now = (search rules) in
    (omega arith, c.requires.offers.1 c.loop-n.n _ (slice_get-get_or c.args.offers.now c.loop-n.n _ below))

pub loop-n-preserved : goal.loop-n-preserved
loop-n-preserved g c =
    let below : c.loop-n.n < length c.args.offers.now = (search rules) in
    record {
      same = (search rules);
      out = (search rules);
      sits = (search rules);
      stays = (search rules);
      made = drafts_then c.args.row c.args.seat.now.me.0.made _ _ c.loop-n.invariant.made c.draft_offer.ensures.made;
      drafted = drafted_more c.args.row c.args.offers.now c.loop-n.n _ _ _ _ c.requires.offers.0 below (slice_get-get_or c.args.offers.now c.loop-n.n _ below) c.loop-n.invariant.drafted c.draft_offer.ensures.others c.draft_offer.ensures.drafted;
    }

pub returns-clause-drafted : goal.returns-clause-drafted
returns-clause-drafted g c = drafted_all c.args.row c.args.offers.now c.loop-n.n c.args.seat.now.me.0.seen c.loop-n.seat.me.0.seen (search rules) c.loop-n.invariant.drafted
