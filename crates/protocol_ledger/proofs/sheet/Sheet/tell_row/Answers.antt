-- In a lawful ledger the offer that a committed row chose is there, and its partner is opened.
use Rattle.std.proofs.Common.{◌≡◌, ℕ, ◌++◌, List, Option, Some, None, true, false, is_some, refl, sym, ap, ◌∙◌}
use Rattle.std.specs.Prelude.{is_none, option_and_then, option_to_list}
use Rattle.std.proofs.lemmas.List.{append-nil}
use Rattle.protocol_values.specs.declared.Base.{Base}
use Rattle.protocol_values.specs.declared.Base.TheVariants.{Send, Recv, Always, OnNack, OnEnd, Never}
use Rattle.protocol_values.specs.declared.Commit.{Commit}
use Rattle.protocol_values.specs.declared.Joined.{Joined}
use Rattle.protocol_values.specs.declared.Message.{Message}
use Rattle.protocol_values.specs.declared.Message.TheVariants.{One}
use Rattle.protocol_values.specs.declared.Offer.{Offer}
use Rattle.protocol_values.specs.declared.Row.{Row}
use Rattle.protocol_ledger.specs.Ledgers.{commit_by, commit_named, is_send, named_at, pair_by, sends, told_at}
use Rattle.protocol_ledger.specs.Tables.{joined_at, offer_at}
use Rattle.protocol_ledger.specs.Sheets.{table_of}
use Rattle.protocol_ledger.proofs.CellWords.{joined_word}
use Rattle.protocol_ledger.proofs.Chosen.{chosen, partner_is_open, told_paired, told_single}
use Rattle.protocol_ledger.proofs.Linking.{none_from, some_parts}
use Rattle.protocol_ledger.proofs.sheet.Sheet.tell_row.Goals as goal

no_send : (b : Base) → ((chan : ℕ) (m : Message) → b ≡ Send chan m → ⊥) → sends b ≡ false
no_send (Send chan m) not = absurd (not chan m refl)
no_send (Recv chan) not = refl
no_send (Always m) not = refl
no_send (OnNack n) not = refl
no_send (OnEnd p) not = refl
no_send Never not = refl

-- a row that sent names the pair, by its own offer alone
sent_names : (offer : Row → ℕ → Option Offer) (r : Row) (j : Joined) (p : Row × ℕ) (o : Offer) (chan : ℕ) (m : Message) → j.partner ≡ Some p → offer r j.own ≡ Some o → o.base ≡ Send chan m → commit_named offer r j ≡ Some (Commit.Pair (r, j.own) p chan m j.stamp)
unfolding commit_named
sent_names offer r j p o chan m partner own sent =
    (λ i. commit_by offer r j (partner i) (own i))
    ∙ ap (λ (b : Base). pair_by r j p b (offer p.0 p.1)) sent

-- and it tells it
told_sent : (joined : Row → Option Joined) (offer : Row → ℕ → Option Offer) (r : Row) (j : Joined) (p : Row × ℕ) (o : Offer) (chan : ℕ) (m : Message) → joined r ≡ Some j → j.partner ≡ Some p → offer r j.own ≡ Some o → o.base ≡ Send chan m → told_at joined offer r ≡ Some (Commit.Pair (r, j.own) p chan m j.stamp)
told_sent joined offer r j p o chan m is partner own sent =
    told_paired joined offer r j p true (is_none (joined p.0)) is partner (ap is_send own ∙ ap sends sent) refl
    ∙ sent_names offer r j p o chan m partner own sent

-- what is told is added
adds : (before : List Commit) (told : Option Commit) (o : Option Commit) → told ≡ o → before ++ option_to_list o ≡ before ++ option_to_list told
adds before told o e = ap (λ (x : Option Commit). before ++ option_to_list x) (sym e)

pub returns-then-not-is_of_pair : goal.returns-then-not-is_of_pair
returns-then-not-is_of_pair c = λ ok.
    let t = table_of c.args.self.now in
    c.tell_named.ensures ok
    ∙ adds c.args.commits.now.items (told_at (joined_at t) (offer_at t) c.args.row) _
    (told_single (joined_at t) (offer_at t) c.args.row
    (ap (λ (o : Option Joined). is_some (option_and_then (λ (j : Joined). j.partner) o)) (joined_word t c.args.row c.args.word c.requires.row c.requires.word)
    ∙ sym c.is_of_pair.ensures
    ∙ c.if-not-is_of_pair.true))

pub known_offer-requires : goal.known_offer-requires
known_offer-requires c =
    chosen (table_of c.args.self.now) c.args.row _ c.requires.lawful (joined_word (table_of c.args.self.now) c.args.row c.args.word c.requires.row c.requires.word ∙ c.read_pair-own.ensures)

pub is_committed-requires : goal.is_committed-requires
is_committed-requires c =
    partner_is_open (table_of c.args.self.now) c.args.row _ c.read_pair-own.result.1 c.requires.lawful (joined_word (table_of c.args.self.now) c.args.row c.args.word c.requires.row c.requires.word ∙ c.read_pair-own.ensures) refl

pub returns-in-One : goal.returns-in-One
returns-in-One c = λ ok.
    let t = table_of c.args.self.now in
    let joined = joined_word t c.args.row c.args.word c.requires.row c.requires.word ∙ c.read_pair-own.ensures in
    c.add_pair.ensures ok
    ∙ adds c.args.commits.now.items (told_at (joined_at t) (offer_at t) c.args.row) _
    (told_sent (joined_at t) (offer_at t) c.args.row _ c.read_pair-own.result.1 c.known_offer.result c.in-Send.chan (One c.in-One.atom) joined refl c.known_offer.ensures (c.in-Send.is ∙ ap (Send c.in-Send.chan) c.in-One.is))

pub returns-in_default-msg : goal.returns-in_default-msg
returns-in_default-msg c = λ ok.
    let t = table_of c.args.self.now in
    let joined = joined_word t c.args.row c.args.word c.requires.row c.requires.word ∙ c.read_pair-own.ensures in
    c.add_pair-in_default-msg.ensures ok
    ∙ adds c.args.commits.now.items (told_at (joined_at t) (offer_at t) c.args.row) _
    (told_sent (joined_at t) (offer_at t) c.args.row _ c.read_pair-own.result.1 c.known_offer.result c.in-Send.chan c.in-Send.msg joined refl c.known_offer.ensures c.in-Send.is)

pub returns-in_default : goal.returns-in_default
returns-in_default c = λ ok.
    let t = table_of c.args.self.now in
    let p = c.read_pair-own.result in
    let joined = joined_word t c.args.row c.args.word c.requires.row c.requires.word ∙ c.read_pair-own.ensures in
    let received : is_send (offer_at t c.args.row p.0) ≡ false = ap is_send c.known_offer.ensures ∙ no_send c.known_offer.result.base c.in_default.not-Send in
    let other = some_parts (joined_at t p.1.0) (sym c.is_committed.ensures ∙ c.if-is_committed.true) in
    sym (append-nil c.args.commits.now.items)
    ∙ adds c.args.commits.now.items (told_at (joined_at t) (offer_at t) c.args.row) None
    (told_paired (joined_at t) (offer_at t) c.args.row _ p.1 false false joined refl received (ap (λ (o : Option Joined). is_none o) other.1))

pub returns-in_default-2 : goal.returns-in_default-2
returns-in_default-2 c = λ ok.
    let t = table_of c.args.self.now in
    let p = c.read_pair-own.result in
    let joined = joined_word t c.args.row c.args.word c.requires.row c.requires.word ∙ c.read_pair-own.ensures in
    let received : is_send (offer_at t c.args.row p.0) ≡ false = ap is_send c.known_offer.ensures ∙ no_send c.known_offer.result.base c.in_default-2.not-Send in
    let other = none_from (joined_at t p.1.0) (sym c.is_committed.ensures ∙ c.if-is_committed.false) in
    c.tell_named-in_default-2.ensures ok
    ∙ adds c.args.commits.now.items (told_at (joined_at t) (offer_at t) c.args.row) (named_at (joined_at t) (offer_at t) c.args.row)
    (told_paired (joined_at t) (offer_at t) c.args.row _ p.1 false true joined refl received (ap (λ (o : Option Joined). is_none o) other)
    ∙ sym (ap (option_and_then (commit_named (offer_at t) c.args.row)) joined))
