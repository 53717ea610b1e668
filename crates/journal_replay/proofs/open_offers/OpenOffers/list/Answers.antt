use Rattle.std.proofs.Common.{◌≡◌, ◌<◌, ◌++◌, ◌∷◌, [], ℕ, List, Contains, length, get_or, set, refl, sym, ap, ◌∙◌, subst, rules}
use Rattle.std.specs.Vec.{with_item}
use Rattle.std.proofs.lemmas.List.{length-set, get_or_default}
use Rattle.journal_replay.specs.declared.open_offers.OpenOffers.{OpenOffers}
use Rattle.journal_replay.specs.Searching.{IsListed, Places}
use Rattle.journal_replay.proofs.Covering.{lanes-last, listed-recv, listed-send}
use Rattle.journal_replay.proofs.open_offers.OpenOffers.list.Goals as goal

pub returns-in_ok-add-in-Send : goal.returns-in_ok-add-in-Send
returns-in_ok-add-in-Send c =
    let o = c.args.self.now in
    let lanes : List Places = o.senders.items in
    let p : OpenOffers = record { senders = with_item o.senders c.from.result c.add.new.self; receivers = o.receivers; brought = o.brought; untried = o.untried } in
    let i : ℕ = c.from.result in
    let now : Places = c.index_mut.result.now in
    let within : i < length lanes = search rules in
    let added : c.add.new.self ≡ get_or lanes i [] ++ c.args.at ∷ [] =
    c.in_ok-add-in-Send.ensures ∙ ap (λ (xs : Places). xs ++ c.args.at ∷ []) (c.index_mut.ensures.value ∙ get_or_default lanes i now [] within) in
    let sends : set lanes i c.add.new.self ≡ set lanes i (get_or lanes i [] ++ c.args.at ∷ []) = ap (λ (xs : Places). set lanes i xs) added in
    record {
      channels = λ h. (length-set lanes i c.add.new.self ∙ h.0, h.1);
      kept = listed-send o p c.args.at i within sends refl refl;
      there = subst (IsListed p c.args.at) (sym c.in-Send.is)
          (subst (λ (n : ℕ). Contains (get_or (set lanes i c.add.new.self) n []) c.args.at) c.from.ensures
          (subst (λ (ls : List Places). Contains (get_or ls i []) c.args.at) (sym sends) (lanes-last lanes i c.args.at within)));
      untried = refl;
    }

pub returns-in_ok-add-in-Recv : goal.returns-in_ok-add-in-Recv
returns-in_ok-add-in-Recv c =
    let o = c.args.self.now in
    let lanes : List Places = o.receivers.items in
    let p : OpenOffers = record { senders = o.senders; receivers = with_item o.receivers c.from-in-Recv.result c.add-in-Recv.new.self; brought = o.brought; untried = o.untried } in
    let i : ℕ = c.from-in-Recv.result in
    let now : Places = c.index_mut-in-Recv.result.now in
    let within : i < length lanes = search rules in
    let added : c.add-in-Recv.new.self ≡ get_or lanes i [] ++ c.args.at ∷ [] =
    c.in_ok-add-in-Recv.ensures ∙ ap (λ (xs : Places). xs ++ c.args.at ∷ []) (c.index_mut-in-Recv.ensures.value ∙ get_or_default lanes i now [] within) in
    let receives : set lanes i c.add-in-Recv.new.self ≡ set lanes i (get_or lanes i [] ++ c.args.at ∷ []) = ap (λ (xs : Places). set lanes i xs) added in
    record {
      channels = λ h. (h.0, length-set lanes i c.add-in-Recv.new.self ∙ h.1);
      kept = listed-recv o p c.args.at i within receives refl refl;
      there = subst (IsListed p c.args.at) (sym c.in-Recv.is)
          (subst (λ (n : ℕ). Contains (get_or (set lanes i c.add-in-Recv.new.self) n []) c.args.at) c.from-in-Recv.ensures
          (subst (λ (ls : List Places). Contains (get_or ls i []) c.args.at) (sym receives) (lanes-last lanes i c.args.at within)));
      untried = refl;
    }
