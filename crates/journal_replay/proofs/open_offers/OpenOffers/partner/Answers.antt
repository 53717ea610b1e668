use Rattle.std.proofs.Common.{◌≡◌, ◌<◌, [], ℕ, Contains, length, get_or, refl, sym, ap, ◌∙◌, subst, rules}
use Rattle.std.specs.Vec.{with_item}
use Rattle.std.proofs.lemmas.List.{get_or_default}
use Rattle.protocol_values.specs.declared.Base.TheVariants.{Send, Recv}
use Rattle.protocol_values.specs.declared.Message.{Message}
use Rattle.protocol_values.specs.declared.Row.{Row}
use Rattle.journal_replay.specs.declared.open_offers.OpenOffers.{OpenOffers}
use Rattle.protocol_values.specs.declared.Side.{Side}
use Rattle.protocol_values.specs.declared.Side.TheVariants.{Sends, Receives}
use Rattle.journal_replay.specs.Searching.{KeepsSide, Places, base_on}
use Rattle.journal_replay.specs.Standing.{Finds}
use Rattle.journal_replay.proofs.Covering.{covers-receives, covers-sends, finds-other}
use Rattle.journal_replay.proofs.open_offers.OpenOffers.partner.Goals as goal

pub returns-in-Sends-clause-covers : goal.returns-in-Sends-clause-covers
returns-in-Sends-clause-covers c =
    let s = c.args.threads.now in
    let o = c.args.self.now in
    let i : ℕ = c.from-channel.result in
    let now : Places = c.index_mut.result.now in
    let new : Places = c.partner.new.self in
    let within : i < length o.senders.items = search rules in
    let was : now ≡ get_or o.senders.items i [] = c.index_mut.ensures.value ∙ get_or_default o.senders.items i now [] within in
    let p : OpenOffers = record { senders = with_item o.senders i new; receivers = o.receivers; brought = o.brought; untried = o.untried } in
    covers-sends s.strands.items s.rows o p c.requires refl i new within
    (subst (λ (xs : Places). KeepsSide s.strands.items s.rows Sends i xs new) was
    (subst (λ (n : ℕ). KeepsSide s.strands.items s.rows Sends n now new) (sym c.from-channel.ensures)
    (subst (λ (side : Side). KeepsSide s.strands.items s.rows side c.args.chan now new) c.in-Sends.is c.partner.ensures.kept)))
    refl refl refl

pub returns-in-Sends-clause-found : goal.returns-in-Sends-clause-found
returns-in-Sends-clause-found c =
    let s = c.args.threads.now in
    let o = c.args.self.now in
    let i : ℕ = c.from-channel.result in
    let now : Places = c.index_mut.result.now in
    let within : i < length o.senders.items = search rules in
    let was : get_or o.senders.items c.args.chan [] ≡ now =
    ap (λ (n : ℕ). get_or o.senders.items n []) (sym c.from-channel.ensures) ∙ sym (c.index_mut.ensures.value ∙ get_or_default o.senders.items i now [] within) in
    let all : (at : Row × ℕ) (m : Message) → Finds s.strands.items s.rows at (base_on Sends c.args.chan m) → Contains now at =
    λ at m finds. subst (λ (xs : Places). Contains xs at) was (c.requires.listed at (Send c.args.chan m) finds) in
    finds-other s.strands.items s.rows c.args.side c.args.chan c.args.thread now c.partner.result
    (subst (λ (side : Side). (at : Row × ℕ) (m : Message) → Finds s.strands.items s.rows at (base_on side c.args.chan m) → Contains now at) (sym c.in-Sends.is) all)
    c.partner.ensures.found

pub returns-in-Receives-clause-covers : goal.returns-in-Receives-clause-covers
returns-in-Receives-clause-covers c =
    let s = c.args.threads.now in
    let o = c.args.self.now in
    let i : ℕ = c.from-channel.result in
    let now : Places = c.index_mut-in-Receives.result.now in
    let new : Places = c.partner-in-Receives.new.self in
    let within : i < length o.receivers.items = search rules in
    let was : now ≡ get_or o.receivers.items i [] = c.index_mut-in-Receives.ensures.value ∙ get_or_default o.receivers.items i now [] within in
    let p : OpenOffers = record { senders = o.senders; receivers = with_item o.receivers i new; brought = o.brought; untried = o.untried } in
    covers-receives s.strands.items s.rows o p c.requires refl i new within
    (subst (λ (xs : Places). KeepsSide s.strands.items s.rows Receives i xs new) was
    (subst (λ (n : ℕ). KeepsSide s.strands.items s.rows Receives n now new) (sym c.from-channel.ensures)
    (subst (λ (side : Side). KeepsSide s.strands.items s.rows side c.args.chan now new) c.in-Receives.is c.partner-in-Receives.ensures.kept)))
    refl refl refl

pub returns-in-Receives-clause-found : goal.returns-in-Receives-clause-found
returns-in-Receives-clause-found c =
    let s = c.args.threads.now in
    let o = c.args.self.now in
    let i : ℕ = c.from-channel.result in
    let now : Places = c.index_mut-in-Receives.result.now in
    let within : i < length o.receivers.items = search rules in
    let was : get_or o.receivers.items c.args.chan [] ≡ now =
    ap (λ (n : ℕ). get_or o.receivers.items n []) (sym c.from-channel.ensures) ∙ sym (c.index_mut-in-Receives.ensures.value ∙ get_or_default o.receivers.items i now [] within) in
    let all : (at : Row × ℕ) (m : Message) → Finds s.strands.items s.rows at (base_on Receives c.args.chan m) → Contains now at =
    λ at m finds. subst (λ (xs : Places). Contains xs at) was (c.requires.listed at (Recv c.args.chan) finds) in
    finds-other s.strands.items s.rows c.args.side c.args.chan c.args.thread now c.partner-in-Receives.result
    (subst (λ (side : Side). (at : Row × ℕ) (m : Message) → Finds s.strands.items s.rows at (base_on side c.args.chan m) → Contains now at) (sym c.in-Receives.is) all)
    c.partner-in-Receives.ensures.found
