use Rattle.std.proofs.Common.{◌≡◌, ℕ, suc, ◌+◌, List, [], ◌∷◌, ◌++◌, take, take_all, get_or, Vec, Global, subst, sym, ap, ◌∙◌, IsTrue, ◌↔◌, arith}
use Rattle.std.proofs.Math.Seq.{take-suc}
use Rattle.std.proofs.lemmas.Bool.{false≢true}
use Rattle.script_token.specs.declared.lexeme.Placed.{Placed}
use Rattle.script_reader.specs.Steps.{bare}
use Rattle.script_mistakes.specs.Expected.{MayStand}
use Rattle.script_mistakes.specs.declared.kind.Kind.{Kind}
use Rattle.script_mistakes.specs.declared.kind.Kind.TheVariants as variants
use Rattle.script_mistakes.specs.declared.kind.TheConstants.{KINDS}
use Rattle.script_mistakes.proofs.Listing.{AreTold, all_told, none_more, one_more}
use Rattle.script_mistakes.proofs.trying.kinds_behind.Goals.{then-branch+in_ok-push, else-branch}
use Rattle.script_mistakes.proofs.trying.kinds_behind.Goals as goal

pub loop-number-preserved : goal.loop-number-preserved
loop-number-preserved c =
    let before = bare c.args.before.now.items in
    let n = c.loop-number.number in
    let kind = get_or KINDS n variants.Name in
    let same = c.loop-number.invariant.same in
    let told = c.loop-number.invariant.told in
    let kinds = c.loop-number.kinds.items in
    let next : take n KINDS ++ kind ∷ [] ≡ take (n + 1) KINDS = sym (take-suc KINDS n variants.Name c.loop-number-test.true) ∙ ap (λ (k : ℕ). take k KINDS) (let more : suc n ≡ n + 1 = omega arith in more) in
    let may : IsTrue c.in_ok-may_stand.field-0 ↔ MayStand kind before =
    subst (λ (k : Kind). IsTrue c.in_ok-may_stand.field-0 ↔ MayStand k before) c.kind_at-kind.ensures (subst (λ (x : List Placed). IsTrue c.in_ok-may_stand.field-0 ↔ MayStand c.kind_at-kind.result (bare x)) same c.in_ok-may_stand.ensures.may) in
    record {
      same = c.in_ok-may_stand.ensures.kept ∙ same;
      told = elim c.if-branch.branch [
        | then-branch+in_ok-push w ↦
            let items : c.if-branch.kinds.items ≡ kinds ++ kind ∷ [] = ap (λ (v : Vec Kind Global). v.items) w.kinds-is ∙ w.in_ok-push.ensures.items ∙ ap (λ (k : Kind). kinds ++ k ∷ []) c.kind_at-kind.ensures in
            subst (λ (ks : List Kind). AreTold ks (take (n + 1) KINDS) before) (sym items) (subst (λ (tried : List Kind). AreTold (kinds ++ kind ∷ []) tried before) next (one_more kinds (take n KINDS) kind before told (may.0 w.if-branch.true)))
        | else-branch w ↦
            subst (λ (v : Vec Kind Global). AreTold v.items (take (n + 1) KINDS) before) (sym w.kinds-is) (subst (λ (tried : List Kind). AreTold kinds tried before) next (none_more kinds (take n KINDS) kind before told (λ m. false≢true (sym w.if-branch.false ∙ may.1 m))))
      ];
    }

pub returns : goal.returns
returns c =
    let before = bare c.args.before.now.items in
    let all : take c.loop-number.number KINDS ≡ KINDS = take_all c.loop-number.number KINDS c.loop-number-test.false in
    all_told c.loop-number.kinds.items before (subst (λ (tried : List Kind). AreTold c.loop-number.kinds.items tried before) all c.loop-number.invariant.told)
