use Rattle.std.proofs.Common.{◌≡◌, ◌++◌, ◌+◌, ◌-◌, ◌∙◌, ℕ, List, length, take, drop, ap, append_assoc, arith, subst, sym}
use Rattle.std.proofs.lemmas.List.{length-take-le}
use Rattle.std.proofs.lemmas.Slice.{drop-put_mid, take-put_mid}
use Rattle.journal_text.proofs.Blocks.{block_end, from_parts}
use Rattle.journal_text.proofs.writing.put_block.Goals as goal

pub returns-clause-text : goal.returns-clause-text
returns-clause-text c =
    let line : List ℕ = c.args.line.now in
    let block : List ℕ = c.args.block.now in
    let written : List ℕ = c.copy_from_slice.new.self in
    let is : written ≡ block = c.copy_from_slice.ensures.after in
    let at = c.args.at in
    let from = at - 32 in
    let front : List ℕ = take from line in
    let behind : List ℕ = drop at line in
    let size : length front ≡ from = length-take-le from line (omega arith) in
    let place : length front + (32 - c.args.len) ≡ at - c.args.len = omega (arith, size) in
    let wide : length written ≡ 32 = ap length is ∙ c.told-block in
    let first = take-put_mid from (at - from) line written at (omega (arith, wide)) (omega arith) in
    let last = drop-put_mid from (at - from) line written at (omega arith) (omega arith) (omega (arith, wide)) in
    let parts = ap (λ (b : List ℕ). front ++ (b ++ behind)) (sym is) ∙ sym (append_assoc front written behind) in
    let whole = parts ∙ from_parts _ (front ++ written) behind at first last in
    subst (λ (l : List ℕ). drop (at - c.args.len) l ≡ drop (32 - c.args.len) block ++ behind) whole
    (subst (λ (n : ℕ). drop n (front ++ (block ++ behind)) ≡ drop (32 - c.args.len) block ++ behind) place (block_end front block behind c.args.len c.told-block c.requires.2))
