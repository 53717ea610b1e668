use Rattle.std.proofs.Common.{◌≡◌, cond, unwrap_or, sym, ap, ◌∙◌, true}
use Rattle.protocol_values.specs.Words.{nack_of}
use Rattle.protocol_values.specs.declared.NackWord.TheVariants.{Unbound}
use Rattle.protocol_values.proofs.WordLemmas.{nack_of-zero}
use Rattle.protocol_ledger.specs.Sheets.{table_of}
use Rattle.protocol_ledger.specs.Tables.{is_nack, nack_says}
use Rattle.protocol_ledger.proofs.Sheets.{sheet_nack}
use Rattle.protocol_ledger.proofs.sheet.Sheet.nack.Goals as goal

pub returns-clause-value : goal.returns-clause-value
unfolding nack_says
returns-clause-value c =
    let s = c.args.self.now in
    let its : is_nack (table_of s) c.args.nack ≡ true = sym c.contains_nack.ensures ∙ c.if-not-contains_nack.false in
    c.unwrap_or.ensures
    ∙ (λ i. cond (sym its i) (unwrap_or ((c.unpack_nack.ensures.value ∙ ap nack_of (sheet_nack s c.args.nack c.nack_place-at.result c.index-word.result.now its c.nack_place-at.ensures.value c.index-word.ensures)) i) Unbound) Unbound)

pub returns-then-word-eq0-clause-value : goal.returns-then-word-eq0-clause-value
unfolding nack_says
returns-then-word-eq0-clause-value c =
    let s = c.args.self.now in
    let its : is_nack (table_of s) c.args.nack ≡ true = sym c.contains_nack.ensures ∙ c.if-not-contains_nack.false in
    λ i. cond (sym its i) (unwrap_or ((sym nack_of-zero ∙ ap nack_of (sym c.if-word-eq0.true ∙ sheet_nack s c.args.nack c.nack_place-at.result c.index-word.result.now its c.nack_place-at.ensures.value c.index-word.ensures)) i) Unbound) Unbound
