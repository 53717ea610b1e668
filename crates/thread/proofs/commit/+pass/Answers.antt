use Rattle.std.proofs.Common.{◌∙◌, Ok, sym, ap, subst}
use Rattle.std.specs.Option.{option_map}
use Rattle.script_tree.specs.Trees.{exprs_of, names_of}
use Rattle.script_tree.specs.Lined.{event_of}
use Rattle.thread.specs.Passages.{Passes}
use Rattle.thread.specs.Passing.{pass}
use Rattle.thread.specs.Stacks.{state_of}
use Rattle.thread.proofs.Passing.{wrap_passes}
use Rattle.thread.proofs.commit.+pass.Goals as goal

pub returns-in-Ok-clause-does : goal.returns-in-Ok-clause-does
returns-in-Ok-clause-does t c = λ rs.
    let s = state_of c.args.memory.now rs in
    let through = subst (λ p. Passes (event_of c.deref-in-Wrap.result.now) c.args.n c.args.message c.args.memory.now c.pass-in-Wrap.new.memory (Ok p)) c.in-Through-2.is c.in_ok-inner-in-Wrap.ensures.does in
    ap (λ e. pass e c.args.n c.args.message s) (ap event_of c.in-Wrap.is)
    ∙ wrap_passes (event_of c.in-Wrap.inner.value) (record { names = option_map names_of c.in-Wrap.names; list = exprs_of c.in-Wrap.list }) c.args.n c.args.message c.in-Through-2.inner s (state_of c.pass-in-Wrap.new.memory rs) _
    (ap (λ e. pass (event_of e) c.args.n c.args.message s) (sym c.deref-in-Wrap.ensures) ∙ through rs) (c.in-Ok.ensures.does rs)

pub returns-in-Err-clause-does : goal.returns-in-Err-clause-does
returns-in-Err-clause-does t c = λ rs.
    let s = state_of c.args.memory.now rs in
    let through = subst (λ p. Passes (event_of c.deref-in-Wrap.result.now) c.args.n c.args.message c.args.memory.now c.pass-in-Wrap.new.memory (Ok p)) c.in-Through-2.is c.in_ok-inner-in-Wrap.ensures.does in
    ap (λ e. pass e c.args.n c.args.message s) (ap event_of c.in-Wrap.is)
    ∙ wrap_passes (event_of c.in-Wrap.inner.value) (record { names = option_map names_of c.in-Wrap.names; list = exprs_of c.in-Wrap.list }) c.args.n c.args.message c.in-Through-2.inner s (state_of c.pass-in-Wrap.new.memory rs) _
    (ap (λ e. pass (event_of e) c.args.n c.args.message s) (sym c.deref-in-Wrap.ensures) ∙ through rs) (c.in-Err.ensures.does rs)
