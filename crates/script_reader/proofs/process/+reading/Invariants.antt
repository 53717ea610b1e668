use Rattle.std.proofs.Common.{◌≡◌, ◌+◌, ◌-◌, ◌*◌, length, map}
use Rattle.script_reader.specs.Steps.{bare, here, repeated}
use Rattle.script_tree.specs.Trees.{event_of, stmt_of}
use Rattle.script_reader.specs.Blocks.{event_at, stmt_at, member_step, stmt_step, members_with, stmts_with}
use Rattle.script_reader.proofs.process.+reading.Given as goal

abbrev pub decreases-read_block : goal.decreases-read_block
decreases-read_block l = 10 * l.nesting + 0

abbrev pub decreases-read_stmt : goal.decreases-read_stmt
decreases-read_stmt l = 10 * l.nesting + 8

abbrev pub decreases-statements : goal.decreases-statements
decreases-statements l = 10 * l.nesting + 9

abbrev pub decreases-branch : goal.decreases-branch
decreases-branch l = 10 * l.nesting + 7

abbrev pub decreases-counted : goal.decreases-counted
decreases-counted l = 10 * l.nesting + 7

abbrev pub decreases-read_turn : goal.decreases-read_turn
decreases-read_turn l = 10 * l.nesting + 6

abbrev pub decreases-synced : goal.decreases-synced
decreases-synced l = 10 * l.nesting + 6

abbrev pub decreases-read_event : goal.decreases-read_event
decreases-read_event l = 10 * l.nesting + 5

abbrev pub decreases-choose : goal.decreases-choose
decreases-choose l = 10 * l.nesting + 4

abbrev pub decreases-wrap : goal.decreases-wrap
decreases-wrap l = 10 * l.nesting + 4

abbrev pub decreases-guard : goal.decreases-guard
decreases-guard l = 10 * l.nesting + 4

abbrev pub decreases-nack : goal.decreases-nack
decreases-nack l = 10 * l.nesting + 4

abbrev pub decreases-members : goal.decreases-members
decreases-members l = 10 * l.nesting + 6

abbrev pub decreases-read_sync : goal.decreases-read_sync
decreases-read_sync l = 10 * l.nesting + 7

abbrev pub decreases-forever : goal.decreases-forever
decreases-forever l = 10 * l.nesting + 7

abbrev pub invariant-members-loop-turn : goal.invariant-members-loop-turn
invariant-members-loop-turn l =
    repeated (member_step (event_at l.nesting) l.nesting) (length (bare l.tokens) - l._turn) (map event_of l.events.items, here l.scope, bare l.rest)
    ≡ members_with (event_at l.nesting) l.nesting (here l.fn.scope) (bare l.tokens)

abbrev pub invariant-statements-loop-turn : goal.invariant-statements-loop-turn
invariant-statements-loop-turn l = record {
  same :
      repeated (stmt_step (stmt_at l.nesting) l.loops) (length (bare l.tokens) - l._turn) (map stmt_of l.stmts.items, here l.scope, bare l.rest)
      ≡ stmts_with (stmt_at l.nesting) l.loops (here l.fn.scope) (bare l.tokens);
  count : l.count ≡ length (bare l.tokens);
}
