use Rattle.std.proofs.Common.{◌∙◌, ◌+◌, ◌-◌, ℕ, List, ap, arith, drop, get_or, take}
use Rattle.protocol_ledger.proofs.Sheets.{sheet_has_nack, sheet_nack_word, sheet_nacks_inside}
use Rattle.protocol_ledger.proofs.sheet.Sheet.nack_words.Goals as goal

pub nack_place-first-requires : goal.nack_place-first-requires
nack_place-first-requires c = sheet_has_nack c.args.self.now c.args.thread 0 c.requires (omega arith)

pub slice_bounds-result-end : goal.slice_bounds-result-end
slice_bounds-result-end c =
    let inside = sheet_nacks_inside c.args.self.now c.args.thread c.nack_place-first.result c.requires c.nack_place-first.ensures.value in
    omega (arith, inside)

pub returns-clause-words : goal.returns-clause-words
returns-clause-words c k low =
    let first = c.nack_place-first.result in
    ap (λ (words : List ℕ). get_or (take (first + 64 - first) (drop first words)) k 0) c.deref.ensures.value
    ∙ sheet_nack_word c.args.self.now c.args.thread first (first + 64 - first) k c.requires c.nack_place-first.ensures.value (omega (arith, low)) low
