use Rattle.std.proofs.Common.{List, map, subst}
use Rattle.std.proofs.lemmas.Result.{err_from_is_err_and}
use Rattle.script_tree.specs.Processes.{proc_of}
use Rattle.protocol_values.specs.declared.Commit.{Commit}
use Rattle.journal_replay.specs.Replays.{Refuses, StandsAfter}
use Rattle.journal.proofs.record.complete_ordered.Goals as goal

pub returns-in_err-replayed : goal.returns-in_err-replayed
returns-in_err-replayed c =
    let ps = map proc_of c.args.processes.now in
    let refused = subst (λ (cs : List Commit). Refuses ps c.args.rows cs c.in_err-replayed.field-0.0) c.deref.ensures.value c.in_err-replayed.ensures.stands in
    let p = err_from_is_err_and c.from_residual.result c.from_residual.ensures.1 in
    rw (p.1, p.2) refused

pub returns : goal.returns
returns c =
    let ps = map proc_of c.args.processes.now in
    let stands = subst (λ (cs : List Commit). StandsAfter ps c.args.rows cs c.in_ok-replayed.replayed) c.deref.ensures.value c.in_ok-replayed.ensures.stands in
    c.in_ok-record_of.ensures.records ps c.args.rows stands
