use Rattle.std.proofs.Common.{ℕ, ◌≡◌, ◌+◌, ◌*◌, sym, subst, inl, refl, arith}
use Rattle.cell_table.specs.declared.view.View.{View}
use Rattle.cell_table.specs.Sight.{Has}
use Rattle.protocol_values.specs.declared.Row.{Row}
use Rattle.cell.specs.Attempts.{OnlyDrafts}
use Rattle.cell_table.specs.Views.{word_drafted}
use Rattle.cell_table.proofs.Offers.{offer_parts, offer_places}
use Rattle.cell.proofs.Redrafting.{DraftsAt, drafted_offer, drafts_then, one_draft, redrafts_offer, redrafts_word}
use Rattle.cell.proofs.drafting.draft_offer.Goals as goal

pub read_head-requires : goal.read_head-requires
read_head-requires g c = (offer_parts _ _ _ _ c.args.offer c.pack_offer.ensures.back).0

pub draft-requires-clause-place : goal.draft-requires-clause-place
draft-requires-clause-place g c = let low = c.requires.offer.0 in (omega arith, omega arith, (offer_places c.args.n _ _ _ _ c.args.offer c.pack_offer.ensures.back).0)

pub draft_atom-requires-clause-atom : goal.draft_atom-requires-clause-atom
draft_atom-requires-clause-atom g c = (c.requires.offer.0, omega arith, omega arith, (offer_parts _ _ _ _ c.args.offer c.pack_offer.ensures.back).1)

pub draft_atom-requires-2-clause-atom : goal.draft_atom-requires-2-clause-atom
draft_atom-requires-2-clause-atom g c = (c.requires.offer.0, omega arith, omega arith, (offer_parts _ _ _ _ c.args.offer c.pack_offer.ensures.back).2)

pub draft_atom-requires-3-clause-atom : goal.draft_atom-requires-3-clause-atom
draft_atom-requires-3-clause-atom g c = (c.requires.offer.0, omega arith, omega arith, (offer_parts _ _ _ _ c.args.offer c.pack_offer.ensures.back).3)

there : {M : Type 0} (r : Row) (p x : ℕ) (v w : View M) → w ≡ word_drafted r p x v → Has w.seen.drafts (r, p, x)
there r p x v w e = subst (λ (u : View _). Has u.seen.drafts (r, p, x)) (sym e) (inl refl)

head_drafted : (g : _) (c : goal.After-draft_atom-3 g) → DraftsAt c.args.row (2 + 4 * c.args.n) c.args.seat.now.me.0.seen c.draft.new.seat.me.0.seen
head_drafted g c = subst (λ (v : View _). DraftsAt c.args.row (2 + 4 * c.args.n) c.args.seat.now.me.0.seen v.seen) (sym c.draft.ensures.drafted) (redrafts_word c.args.row (2 + 4 * c.args.n) _ c.args.seat.now.me.0.seen)

pub returns-clause-others : goal.returns-clause-others
returns-clause-others g c =
    redrafts_offer c.args.row c.args.n _ _ _ _ _ (head_drafted g c) c.draft_atom.ensures.others c.draft_atom-2.ensures.others c.draft_atom-3.ensures.others

pub returns-clause-made : goal.returns-clause-made
returns-clause-made g c =
    let r = c.args.row in
    let head = subst (λ (v : View _). OnlyDrafts r c.args.seat.now.me.0.made v.made) (sym c.draft.ensures.drafted) (one_draft r (2 + 4 * c.args.n) _ c.args.seat.now.me.0.made) in
    drafts_then r _ _ _ (drafts_then r _ _ _ (drafts_then r _ _ _ head c.draft_atom.ensures.made) c.draft_atom-2.ensures.made) c.draft_atom-3.ensures.made

pub returns-clause-drafted : goal.returns-clause-drafted
returns-clause-drafted g c =
    let r = c.args.row in
    let n = c.args.n in
    drafted_offer r n c.args.offer _ _ _ _ _ _ _ _ c.atoms_told-atoms.result c.read_head.result
    c.draft_atom.ensures.others c.draft_atom-2.ensures.others c.draft_atom-3.ensures.others
    (there r _ _ _ _ c.draft.ensures.drafted) c.draft_atom.ensures.drafted c.draft_atom-2.ensures.drafted c.draft_atom-3.ensures.drafted
    c.read_head.ensures c.atoms_told-atoms.ensures c.pack_offer.ensures.back
