use Rattle.std.proofs.Common.{◌≤◌, List, length, map, subst, arith, ⊎_elim}
use Rattle.std.proofs.lemmas.List.{take_all}
use Rattle.script_tree.specs.Processes.{proc_of}
use Rattle.protocol_values.specs.declared.Commit.{Commit}
use Rattle.journal_replay.specs.Replays.{StandsAfter}
use Rattle.journal_replay.proofs.runs.replay.Goals as goal

pub returns-then-lawful-commits-clause-stands : goal.returns-then-lawful-commits-clause-stands
returns-then-lawful-commits-clause-stands c =
    ⊎_elim (λ whole. absurd (omega (arith, whole, c.if-lawful-commits.true))) (λ breaks. breaks) c.in_ok-state.ensures.far

pub returns-clause-stands : goal.returns-clause-stands
returns-clause-stands c =
    let past : length c.args.commits.now ≤ c.in_ok-state.lawful = omega (arith, c.if-lawful-commits.false) in
    subst (λ (cs : List Commit). StandsAfter (map proc_of c.args.processes.now) c.args.rows cs c.in_ok-state.state) (take_all c.in_ok-state.lawful c.args.commits.now past) c.in_ok-state.ensures.stands
