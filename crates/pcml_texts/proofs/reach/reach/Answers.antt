use Rattle.std.proofs.Common.{◌≡◌, ◌≤◌, ◌⊎◌, ℕ, List, length, take, inl, inr, subst, arith, ⊎_elim, ◌∙◌}
use Rattle.std.proofs.lemmas.List.{take_all}
use Rattle.script.specs.Scripts.{script_of}
use Rattle.script_tree.specs.Processes.{Proc, proc_of}
use Rattle.std.proofs.Common.{map}
use Rattle.protocol_values.specs.declared.Commit.{Commit}
use Rattle.journal_replay.specs.Replays.{StandsAfter}
use Rattle.journal_replay.specs.Runs.{BreaksOffAt}
use Rattle.pcml_texts.proofs.reach.reach.Goals as goal

pub returns-then-index-len-clause-reached : goal.returns-then-index-len-clause-reached
returns-then-index-len-clause-reached c =
    let commits : List Commit = c.in_ok-commits.commits.items in
    let told = c.in_ok-state.ensures in
    let past : length commits ≤ c.in_ok-state.index = omega (arith, c.if-index-len.true, c.len.ensures) in
    record {
      spells = c.in_ok-commits.ensures.found;
      stands = subst (λ (z : List Proc × List Commit). StandsAfter z.0 c.args.rows z.1 c.in_ok-state.state)
          (λ i. (c.processes.ensures.value i, (subst (λ (cs : List Commit). take c.in_ok-state.index c.as_slice.result.now ≡ cs) (take_all c.in_ok-state.index commits past) (λ j. take c.in_ok-state.index (c.as_slice.ensures.value j))) i)) told.stands;
    }

pub returns-then-index-len-clause-trees : goal.returns-then-index-len-clause-trees
returns-then-index-len-clause-trees c = c.in_ok-state.ensures.trees ∙ c.processes.ensures.trees

pub returns-clause-reached : goal.returns-clause-reached
returns-clause-reached c =
    let s = script_of c.args.script.now in
    let commits : List Commit = c.in_ok-commits.commits.items in
    let index : ℕ = c.in_ok-state.index in
    let told = c.in_ok-state.ensures in
    let far = subst (λ (z : List Proc × List Commit). (index ≡ length z.1) ⊎ BreaksOffAt z.0 c.args.rows z.1 index) (λ i. (c.processes.ensures.value i, c.as_slice.ensures.value i)) told.far in (
      c.in_ok-commits.ensures.found,
      record {
        stands = subst (λ (z : List Proc × List Commit). StandsAfter z.0 c.args.rows (take index z.1) c.in_ok-state.state) (λ i. (c.processes.ensures.value i, c.as_slice.ensures.value i)) told.stands;
        breaks = ⊎_elim (λ whole. absurd (omega (arith, whole, c.if-index-len.false, c.len.ensures))) (λ breaks. breaks) far;
        is = c.in_ok-text.ensures;
      },
    )
