use Rattle.std.proofs.Common.{sym, arith}
use Rattle.protocol_ledger.specs.Sheets.{table_of}
use Rattle.protocol_ledger.proofs.Places.{row_inside}
use Rattle.protocol_ledger.proofs.Sheets.{sheet_none, sheet_past, sheet_word}
use Rattle.protocol_ledger.proofs.sheet.Sheet.word.Goals.{then-not-has_words-via-then-not-has_words, then-not-has_words-via-else-not-has_words+then-place-row_len}
use Rattle.protocol_ledger.proofs.sheet.Sheet.word.Goals as goal

pub returns-then-not-has_words : goal.returns-then-not-has_words
returns-then-not-has_words c =
    let s = c.args.self.now in
    let its = row_inside (table_of s) c.args.row c.requires.row in
    elim c.then-not-has_words.branch [
      | then-not-has_words-via-then-not-has_words w ↦ sym (sheet_none s c.args.row c.args.place c.requires.row (c.has_words.ensures.lacks w.if-not-has_words.true its.0) c.requires.place)
      | then-not-has_words-via-else-not-has_words+then-place-row_len w ↦
          let there = c.has_words.ensures.has w.if-not-has_words.false in
          let high = w.if-place-row_len.true in
          sym (sheet_past s c.args.row c.args.place c.requires.row there.1 (omega (arith, w.row_len.ensures, high)) c.requires.place)
    ]

pub returns : goal.returns
returns c =
    let there = c.has_words.ensures.has c.if-not-has_words.false in
    let low = c.if-place-row_len.false in
    sheet_word c.args.self.now c.args.row c.args.place c.place-at.result c.index.result.now c.requires.row there.1 (omega (arith, c.row_len.ensures, low)) c.place-at.ensures.value c.index.ensures
