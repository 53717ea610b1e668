use Rattle.std.proofs.Common.{◌≡◌, ◌<◌, ℕ, Bool, true, false, List, ap, sym, subst, ◌∙◌, length, get_or}
use Rattle.std.proofs.lemmas.List.{length-set}
use Rattle.std.proofs.lemmas.Result.{IfOk-weaker}
use Rattle.pcml_why_sites.specs.Knots.{is_held, members_below}
use Rattle.pcml_why_sites.proofs.Knotting.{is-knot, still-wide}
use Rattle.pcml_why_sites.proofs.knot.greatest_knot.Goals as goal

pub loop-a-preserved : goal.loop-a-preserved
loop-a-preserved c = record {
  count = length-set c.loop-a.members.items c.in-Some.a false ∙ c.loop-a.invariant.count;
  wide =
      still-wide c.args.count c.args.pairs.now c.loop-a.members.items c.in-Some.a
      (ap (λ (l : List Bool). is_held c.args.pairs.now l c.in-Some.a) (sym c.deref.ensures.value) ∙ c.in-Some.ensures.2) c.loop-a.invariant.wide;
}

pub returns : goal.returns
returns c =
    IfOk-weaker c.listed.result _ _
    (λ knot is.
    is-knot c.args.count c.args.pairs.now c.loop-a.members.items knot.items c.loop-a.invariant.count c.loop-a.invariant.wide
    (subst (λ (l : List Bool). (a : ℕ) → a < length l → get_or l a false ≡ true → is_held c.args.pairs.now l a ≡ true) c.deref.ensures.value c.in_default.ensures)
    (is ∙ ap (λ (l : List Bool). members_below (λ a. get_or l a false) (length l)) c.deref-2.ensures.value))
    c.listed.ensures
