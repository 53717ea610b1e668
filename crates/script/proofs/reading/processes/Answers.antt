use Rattle.std.proofs.Common.{◌≡◌, ◌+◌, ◌-◌, List, [], map, length, sym, ap, ◌∙◌, arith}
use Rattle.script_reader.specs.Steps.{Here, bare, here, repeated}
use Rattle.script_tree.specs.Processes.{Proc, proc_of}
use Rattle.script.specs.Lining.{count_all, lined_all, trees_in}
use Rattle.script.proofs.Given.{no_ok}
use Rattle.script.specs.Scripts.{drawn, process_step, processes_at}
use Rattle.script_reader.proofs.Giving.{gives_err, fails_same, fails_bind, repeated_step, repeated_none, repeated_all, goes_on}
use Rattle.script.proofs.Declaring.{process_step-some, process_step-none}
use Rattle.script.proofs.reading.processes.Goals as goal

pub loop-turn-init : goal.loop-turn-init
unfolding processes_at
loop-turn-init c =
    let ts = bare c.args.tokens.now in
    let rest : bare c.begin-count.result.0.now ≡ ts = ap bare c.begin-count.ensures.rest in
    let none : length ts - 0 ≡ length ts = omega arith in
    record {
      same = rw (rest, none) (
          ap (λ (p : List Proc). repeated process_step (length ts) (p, here c.new-2.result, ts)) (ap (map proc_of) c.new.ensures.items)
          ∙ ap (λ (h : Here). repeated process_step (length ts) ([], h, ts)) c.new-2.ensures);
      count = c.begin-count.ensures.count;
      lined = record { trees = ap trees_in c.new.ensures.items ∙ ap (λ ps. lined_all c.args.lines.now 0 (map proc_of ps)) (sym c.new.ensures.items); next = ap (λ ps. count_all (map proc_of ps)) (sym c.new.ensures.items) };
    }

pub loop-turn-preserved : goal.loop-turn-preserved
loop-turn-preserved c =
    let s = drawn c.loop-turn.draft (bare c.loop-turn.rest.now) in
    let whole = repeated_step process_step (length (bare c.args.tokens.now)) c.loop-turn._turn s _ _ (omega (arith, c.loop-turn.invariant.count, c.loop-turn-test.true)) (process_step-some s c.if-is_end.ensures) c.loop-turn.invariant.same in
    record {
      same = goes_on process_step (length (bare c.args.tokens.now) - (c.loop-turn._turn + 1)) _ _ _ c.in_ok-after.ensures.value whole;
      count = c.loop-turn.invariant.count;
      lined = c.in_ok-after.ensures.lined c.loop-turn.invariant.lined;
    }

pub returns-then-is_end : goal.returns-then-is_end
returns-then-is_end c =
    let s = drawn c.loop-turn.draft (bare c.loop-turn.rest.now) in
    record {
      value = repeated_none process_step (length (bare c.args.tokens.now) - c.loop-turn._turn) s _ (process_step-none s c.if-is_end.ensures) c.loop-turn.invariant.same;
      lined = c.loop-turn.invariant.lined;
    }

pub returns-in_err-after : goal.returns-in_err-after
returns-in_err-after c =
    let e = c.in_err-after.field-0.0 in
    let s = drawn c.loop-turn.draft (bare c.loop-turn.rest.now) in
    let whole = repeated_step process_step (length (bare c.args.tokens.now)) c.loop-turn._turn s _ _ (omega (arith, c.loop-turn.invariant.count, c.loop-turn-test.true)) (process_step-some s c.if-is_end.ensures) c.loop-turn.invariant.same in
    record {
      value = gives_err _ c.from_residual.result e _ c.from_residual.ensures.1 (fails_same e _ _ whole (fails_bind e _ _ c.in_err-after.ensures.value));
      lined = no_ok c.from_residual.result _ e c.from_residual.ensures.1;
    }

pub returns : goal.returns
returns c =
    let s = drawn c.loop-turn.draft (bare c.loop-turn.rest.now) in
    record {
      value = repeated_all process_step (length (bare c.args.tokens.now)) c.loop-turn._turn s _ (omega (arith, c.loop-turn.invariant.count, c.loop-turn-test.false)) c.loop-turn.invariant.same;
      lined = c.loop-turn.invariant.lined;
    }
