use Rattle.std.proofs.Common.{rules, ℕ, List, ◌≤◌, ◌+◌, length, subst, take}
use Rattle.std.proofs.lemmas.List.{take_rest}
use Rattle.std.specs.Io.KnownBytes.{Appends}
use Rattle.pcml_files.proofs.Emitting.{taken_more}
use Rattle.pcml_files.proofs.output.emit.Goals as goal

pub loop-taken-preserved : goal.loop-taken-preserved
loop-taken-preserved g c =
    let low : c.loop-taken.taken + c.in-Some.count ≤ length c.args.text.now = (search rules) in (
      low,
      taken_more _ _ _ c.args.text.now c.loop-taken.taken c.in-Some.count c.loop-taken.invariant.1
          (subst (λ (l : List ℕ). Appends (g.O.Write.contents c.loop-taken.out) (g.O.Write.contents c.write_some.new.out) (take c.in-Some.count l)) (take_rest c.args.text.now c.loop-taken.taken) c.in-Some.ensures.some.2),
    )
