use Rattle.std.proofs.Common.{[], length, inl, inr, ⊎_elim, refl, sym, subst}
use Rattle.std.specs.Io.KnownBytes.{Appends}
use Rattle.pcml_request.specs.declared.request.Request.TheVariants.{Meet}
use Rattle.pcml_tool.specs.Command.{Began}
use Rattle.pcml_tool.specs.declared.answer.Verdict.TheVariants.{Done}
use Rattle.pcml_files.proofs.Emitting.{all_taken, nothing_taken}
use Rattle.pcml_tool.proofs.program.command.Goals as goal

-- memory lacked before anything was asked: nothing of any answer was written
pub returns-in-Err-Memory-clause-fault : goal.returns-in-Err-Memory-clause-fault
returns-in-Err-Memory-clause-fault g c one = (Meet 0, (0, Done, [], inl refl, nothing_taken (g.O.Write.contents c.args.out.now)))

pub returns-in-Ok-Unlawful-clause-fault : goal.returns-in-Ok-Unlawful-clause-fault
returns-in-Ok-Unlawful-clause-fault g c one =
    let done = c.in-Ok-Unlawful.ensures.done in
    (c.in-Ok.asked, (length done.0, c.in-Ok-Unlawful.field-0, done.0, inr done.1, all_taken (g.O.Write.contents c.args.out.now) (g.O.Write.contents c.respond.new.out) done.0 done.2))

pub returns-in-Ok-Denied-clause-fault : goal.returns-in-Ok-Denied-clause-fault
returns-in-Ok-Denied-clause-fault g c one =
    let done = c.in-Ok-Denied.ensures.done in
    (c.in-Ok.asked, (length done.0, c.in-Ok-Denied.field-0, done.0, inr done.1, all_taken (g.O.Write.contents c.args.out.now) (g.O.Write.contents c.respond.new.out) done.0 done.2))

pub returns-in-Err-clause-fault : goal.returns-in-Err-clause-fault
returns-in-Err-clause-fault g c one = ⊎_elim
    (λ unwritten. (c.in-Ok.asked, subst (λ s. Began (g.S.Source.holds c.args.source.now) (g.S.Source.holds s) c.in-Ok.asked (g.O.Write.contents c.args.out.now) (g.O.Write.contents c.respond.new.out)) (sym (c.tell_whole.ensures.kept unwritten.0)) unwritten.1))
    (λ untouched. (c.in-Ok.asked, (0, Done, [], inl refl, subst (λ o. Appends (g.O.Write.contents c.args.out.now) (g.O.Write.contents o) []) (sym untouched.1) (nothing_taken (g.O.Write.contents c.args.out.now)))))
    c.in-Err.ensures.fault
