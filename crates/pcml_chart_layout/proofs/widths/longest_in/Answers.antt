use Rattle.std.proofs.Common.{◌≡◌, ℕ, ◌++◌, List, length, take, drop, get_or, ap, ◌∙◌, arith}
use Rattle.std.proofs.lemmas.Grind.{common_steps}
use Rattle.script.specs.Scripts.{script_of}
use Rattle.journal_text.specs.Names.{named}
use Rattle.pcml_chart_layout.specs.Labels.{label_text}
use Rattle.pcml_chart_layout.specs.Widths.{commit_length}
use Rattle.pcml_chart_layout.proofs.Labelling.{label_more}
use Rattle.pcml_chart_layout.proofs.Raising.{one_more}
use Rattle.pcml_chart_layout.proofs.widths.longest_in.Goals as goal

pub loop-commit-preserved : goal.loop-commit-preserved
loop-commit-preserved c =
    let names = named (script_of c.args.script.now) in
    let own = c.args.columns.now.own.now in
    let new = c.raise_commit.new.lengths in
    let old = c.loop-commit.lengths.items in
    let whole : take c.loop-commit.lengths.len (new ++ drop (length new) old) ≡ new = grind (arith, common_steps) in
    let same : c.deref_mut.result.now ≡ old = c.deref_mut.ensures.value in
    record {
      long = grind (arith, common_steps);
      lengths =
          λ k. ap (λ (xs : List ℕ). get_or xs k 0) whole
          ∙ one_more (λ (k : ℕ). commit_length names own k) c.args.commits.now c.loop-commit.commit-index _ old new c.loop-commit-test.true c.loop-commit.invariant.lengths
          (rw same at c.in_ok-raise_commit.ensures.raised) k;
      labels =
          label_more (label_text names own) c.args.commits.now c.loop-commit.commit-index _ c.loop-commit.labels.items _ _ c.loop-commit-test.true c.loop-commit.invariant.labels
          c.in_ok-raise_commit.ensures.label c.in_ok-push.ensures.items;
    }
