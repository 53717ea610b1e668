use Rattle.std.proofs.Common.{◌≡◌, ◌≤◌, ◌-◌, ◌++◌, ◌∷◌, ◌+◌, ◌∙◌, [], ℕ, List, ap, arith, drop, length, subst, sym, take}
use Rattle.std.proofs.lemmas.List.{length-append, length-map, length-take-le, map-append, take_more}
use Rattle.script_reader.specs.Places.{texts}
use Rattle.journal_text.specs.Blocks.{AreEnds}
use Rattle.journal_text.proofs.Blocks.{one_more}
use Rattle.journal_text.proofs.labels.blocks.Goals as goal

pub loop-name-preserved : goal.loop-name-preserved
loop-name-preserved c =
    let names = c.args.names.now in
    let n = c.loop-name.name-index in
    let less = c.loop-name-test.true in
    let name : List ℕ = c.as_bytes.result.now in
    let block : List ℕ = c.block_of.result in
    let blocks : List (List ℕ) = c.loop-name.blocks.items in
    let items : c.push.new.self.items ≡ blocks ++ block ∷ [] = c.in_ok-push.ensures.items in
    let before : List (List ℕ) = texts (take n names) in
    let more : texts (take (n + 1) names) ≡ before ++ name ∷ [] =
    ap texts (take_more names n (record { ref_ptr = (0, 0); now = [] }) less) ∙ map-append (λ name. name.now) (take n names) _
    ∙ ap (λ (x : List ℕ). before ++ x ∷ []) (sym c.as_bytes.ensures.value) in
    let count : length before ≡ length blocks = length-map (take n names) (λ name. name.now) ∙ length-take-le n names (omega (arith, less)) ∙ sym c.loop-name.invariant.0 in
    let ends = one_more before blocks name block count c.loop-name.invariant.1 c.block_of.ensures in (
      ap length items ∙ length-append blocks (block ∷ []) ∙ ap (λ (k : ℕ). k + 1) c.loop-name.invariant.0,
      subst (λ (z : List (List ℕ) × List (List ℕ)). AreEnds z.0 z.1) (λ i. (sym more i, sym items i)) ends,
    )
