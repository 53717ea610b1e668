use Rattle.std.proofs.Common.{ℕ, List, refl, subst, sym}
use Rattle.script.specs.Scripts.{script_of}
use Rattle.pcml_why.specs.Whys.{IsWhy}
use Rattle.pcml_texts.proofs.why.why_standing.Goals as goal

pub returns : goal.returns
returns c = record {
  state = c.args.state.now;
  stands = c.requires;
  runs = refl;
  is = subst (λ (told : List ℕ). IsWhy (script_of c.args.script.now) c.args.state.now c.args.commits.now c.args.text.now c.args.rows told) (λ i. (sym c.into_bytes.ensures.value i).items) c.in_ok-told.ensures;
}
