use Rattle.std.proofs.Common.{◌≡◌, ℕ, ◌++◌, List, length, take, drop, get_or, ap, ◌∙◌, arith}
use Rattle.std.proofs.lemmas.Grind.{common_steps}
use Rattle.script.specs.Scripts.{script_of}
use Rattle.journal_text.specs.Names.{named}
use Rattle.pcml_chart_layout.specs.Widths.{process_length}
use Rattle.pcml_chart_layout.proofs.Raising.{next_more}
use Rattle.pcml_chart_layout.proofs.widths.longest_round.Goals as goal

pub loop-thread-preserved : goal.loop-thread-preserved
loop-thread-preserved c =
    let new = c.raise_process.new.lengths in
    let old = c.loop-thread.lengths.items in
    let whole : take c.loop-thread.lengths.len (new ++ drop (length new) old) ≡ new = grind (arith, common_steps) in
    let same : c.deref_mut.result.now ≡ old = c.deref_mut.ensures.value in (
      grind (arith, common_steps),
      λ k. ap (λ (xs : List ℕ). get_or xs k 0) whole
          ∙ next_more (process_length (named (script_of c.args.script.now)) c.args.columns.now.own.now c.args.feet.now) c.loop-thread.thread old new c.loop-thread.invariant.1 (rw same at c.in_ok-raise_process.ensures) k,
    )
