use Rattle.std.proofs.Common.{◌≡◌, List, [], ◌∷◌, ◌++◌, map, sym, ap, ◌∙◌, arith}
use Rattle.std.proofs.lemmas.List.{map-append, nil_from_length}
use Rattle.script_tree.specs.Trees.{More, terms_of, term_of}
use Rattle.script_reader.specs.Exprs.{signed_of}
use Rattle.script_tree.specs.declared.tree.Terms.{Terms as SeenTerms}
use Rattle.script_tree.specs.declared.tree.Term.{Term as SeenTerm}
use Rattle.script_tree.specs.declared.tree.Sign.{Sign}
use Rattle.script_reader.proofs.Linking.{linked_on, linked_on-nothing, linked_on-more}
use Rattle.script_reader.proofs.expr.link.Goals as goal

pub loop-sign-init : goal.loop-sign-init
loop-sign-init c = linked_on-nothing (map signed_of c.args.terms.items)

pub loop-sign-preserved : goal.loop-sign-preserved
loop-sign-preserved c =
    let sign = c.in-Some.sign in
    let term = c.in-Some.term in
    let left = c.pop.new.self.items in
    let items : c.loop-sign.terms.items ≡ left ++ (sign, term) ∷ [] = c.in-Some.ensures.items in
    let step = ap (λ (e : SeenTerms). linked_on (More sign (term_of term) (terms_of e)) (map signed_of left)) c.in_ok-new.ensures.ok in
    let front = linked_on-more (terms_of c.loop-sign.linked) (map signed_of left) (sign, term_of term) in
    let split = map-append signed_of left ((sign, term) ∷ []) in
    step ∙ sym front ∙ ap (linked_on (terms_of c.loop-sign.linked)) (sym split ∙ ap (map signed_of) (sym items)) ∙ c.loop-sign.invariant

pub returns : goal.returns
returns c =
    let none : c.loop-sign.terms.items ≡ [] = nil_from_length c.loop-sign.terms.items (omega (arith, c.in_default.ensures.cases.0, c.loop-sign.terms.ok.0)) in
    ap (λ (xs : List (Sign × SeenTerm)). linked_on (terms_of c.loop-sign.linked) (map signed_of xs)) (sym none) ∙ c.loop-sign.invariant
