use Rattle.std.specs.Option.{option_map}
use Rattle.script_tree.specs.Trees.{exprs_of, names_of}
use Rattle.thread.specs.After.{Wrapping}
use Rattle.thread.specs.Stacks.{state_of}
use Rattle.thread.proofs.Commits.{wrap_gives, wrap_fails}
use Rattle.thread.proofs.commit.wrap.Goals as goal

pub returns-in-Ok-clause-does : goal.returns-in-Ok-clause-does
returns-in-Ok-clause-does c = λ rs.
    let w : Wrapping = record { names = option_map names_of c.args.names; list = exprs_of c.args.list.now } in
    wrap_gives w c.args.message (state_of c.args.memory.now rs) c.set_names.new.self rs c.message_of.result (c.in-Ok.ensures.does rs)
    (rw c.deref.ensures.value at c.message_of.ensures)

pub returns-in-Err-clause-does : goal.returns-in-Err-clause-does
returns-in-Err-clause-does c = λ rs.
    let w : Wrapping = record { names = option_map names_of c.args.names; list = exprs_of c.args.list.now } in
    wrap_fails w c.args.message (state_of c.args.memory.now rs) c.in-Err.fault (state_of c.set_names.new.self rs) (c.in-Err.ensures.does rs)
