use Rattle.std.proofs.Common.{◌∙◌, map, ap, arith}
use Rattle.std.proofs.lemmas.List.{take_all}
use Rattle.script_tree.specs.Processes.{proc_of}
use Rattle.journal_text.proofs.Lookup.{map_twice}
use Rattle.journal_text.proofs.names.thread_names.Goals as goal

pub returns-clause-value : goal.returns-clause-value
returns-clause-value c =
    let processes = c.processes-process-items.result.now in
    let all = take_all c.loop-process.process-index processes (omega (arith, c.loop-process-test.false)) in
    c.loop-process.invariant ∙ ap (map (λ p. (proc_of p).name)) all ∙ map_twice proc_of (λ p. p.name) processes ∙ ap (map (λ p. p.name)) c.processes-process-items.ensures.value
