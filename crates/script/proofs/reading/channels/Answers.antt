use Rattle.std.proofs.Common.{◌≡◌, ◌+◌, ◌-◌, ℕ, List, length, ap, arith}
use Rattle.script_reader.specs.Places.{texts}
use Rattle.script_token.specs.Tokens.{Token}
use Rattle.script_reader.specs.Steps.{bare, repeated}
use Rattle.script.specs.Scripts.{channel_step, channels_at}
use Rattle.script_reader.proofs.Giving.{gives_err, fails_same, fails_bind, repeated_step, repeated_none, repeated_all, goes_on}
use Rattle.script.proofs.Declaring.{channel_step-some, channel_step-none}
use Rattle.script.proofs.reading.channels.Goals as goal

pub loop-turn-init : goal.loop-turn-init
unfolding channels_at
loop-turn-init c =
    let ts = bare c.args.tokens.now in
    let rest : bare c.begin-count.result.0.now ≡ ts = ap bare c.begin-count.ensures.rest in
    let none : length ts - 0 ≡ length ts = omega arith in
    record {
      same = rw (rest, none) (ap (λ (ns : List (List ℕ)). repeated channel_step (length ts) (ns, ts)) (ap texts c.new-table.ensures));
      count = c.begin-count.ensures.count;
    }

pub loop-turn-preserved : goal.loop-turn-preserved
loop-turn-preserved c =
    let s : List (List ℕ) × List Token = (texts c.loop-turn.table.names.items, bare c.loop-turn.rest.now) in
    let whole = repeated_step channel_step (length (bare c.args.tokens.now)) c.loop-turn._turn s _ _ (omega (arith, c.loop-turn.invariant.count, c.loop-turn-test.true)) (channel_step-some s c.if-not-is_next.ensures) c.loop-turn.invariant.same in
    record {
      same = goes_on channel_step (length (bare c.args.tokens.now) - (c.loop-turn._turn + 1)) _ _ _ c.in_ok-after.ensures whole;
      count = c.loop-turn.invariant.count;
    }

pub returns-then-not-is_next : goal.returns-then-not-is_next
returns-then-not-is_next c =
    let s : List (List ℕ) × List Token = (texts c.loop-turn.table.names.items, bare c.loop-turn.rest.now) in
    repeated_none channel_step (length (bare c.args.tokens.now) - c.loop-turn._turn) s _ (channel_step-none s c.if-not-is_next.ensures) c.loop-turn.invariant.same

pub returns-in_err-after : goal.returns-in_err-after
returns-in_err-after c =
    let e = c.in_err-after.field-0.0 in
    let s : List (List ℕ) × List Token = (texts c.loop-turn.table.names.items, bare c.loop-turn.rest.now) in
    let whole = repeated_step channel_step (length (bare c.args.tokens.now)) c.loop-turn._turn s _ _ (omega (arith, c.loop-turn.invariant.count, c.loop-turn-test.true)) (channel_step-some s c.if-not-is_next.ensures) c.loop-turn.invariant.same in
    gives_err _ c.from_residual.result e _ c.from_residual.ensures.1 (fails_same e _ _ whole (fails_bind e _ _ c.in_err-after.ensures))

pub returns : goal.returns
returns c =
    let s : List (List ℕ) × List Token = (texts c.loop-turn.table.names.items, bare c.loop-turn.rest.now) in
    repeated_all channel_step (length (bare c.args.tokens.now)) c.loop-turn._turn s _ (omega (arith, c.loop-turn.invariant.count, c.loop-turn-test.false)) c.loop-turn.invariant.same
