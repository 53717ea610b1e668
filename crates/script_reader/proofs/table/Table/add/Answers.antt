use Rattle.std.proofs.Common.{◌≡◌, ℕ, List, [], ◌∷◌, ◌++◌, length, Bor, Some, sym, ap, ◌∙◌, subst, arith}
use Rattle.std.specs.BTreeMap.{UpdatesBy}
use Rattle.std.specs.Cmp.Lexicographic.{slice_cmp}
use Rattle.std.specs.Ordering.{nat_cmp}
use Rattle.script_reader.specs.Places.{texts}
use Rattle.script_grammar.specs.Meaning.{place}
use Rattle.std.proofs.lemmas.Grind.{common_steps}
use Rattle.std.proofs.lemmas.List.{length-map}
use Rattle.script_reader.proofs.Placing.{linked-more}
use Rattle.script_reader.proofs.table.Table.add.Goals as goal

pub invariant_of-self-2 : goal.invariant_of-self-2
invariant_of-self-2 c =
    let name = c.args.name in
    let names = c.args.self.now.names.items in
    let old = c.args.self.now.numbers in
    let items : c.push.new.self.items ≡ names ++ name ∷ [] = (let a = c.push.ensures.items in let b = c.push.ensures.succeeds in let nesting = b (omega (arith, c.in_ok-reserve.ensures.ok, c.in_ok-reserve.ensures.len)) in let same = c.in_ok-reserve.ensures.items in grind (arith, common_steps)) in
    let count : c.len.result ≡ length (texts names) =
    omega (arith, c.len.ensures, c.in_ok-reserve.ensures.len, c.args.self.now.names.ok.0, length-map names (λ (n : Bor (List ℕ)). n.now)) in
    let updates : UpdatesBy (λ x y. slice_cmp nat_cmp x.now y.now) (λ k. slice_cmp nat_cmp name.now k.now) old c.insert.new.self (Some (length (texts names))) =
    subst (λ (n : ℕ). UpdatesBy (λ x y. slice_cmp nat_cmp x.now y.now) (λ k. slice_cmp nat_cmp name.now k.now) old c.insert.new.self (Some n)) count c.in_ok-insert.ensures.updates in
    record {
      linked = λ q. linked-more name names old c.insert.new.self q c.args.self.now.linked updates c.requires ∙ ap (λ (x : List (Bor (List ℕ))). place q (texts x)) (sym items);
    }
