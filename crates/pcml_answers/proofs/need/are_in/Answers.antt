use Rattle.std.proofs.Common.{◌≡◌, List, [], ◌∷◌, Bool, ap, map, refl, ◌∙◌, arith}
use Rattle.std.proofs.lemmas.List.{take_all}
use Rattle.script_tree.specs.Processes.{Proc, proc_of}
use Rattle.script_tree.specs.declared.process.Proc.{Proc as Process}
use Rattle.pcml_answers.specs.Needs.{is_in}
use Rattle.pcml_answers.proofs.need.are_in.Goals as goal

both : {A B : Type 0} (f : A → B) (g : B → Bool) (xs : List A) → map (λ x. g (f x)) xs ≡ map g (map f xs)
both f g [] = refl
both f g (x ∷ xs) = ap (λ (ys : List Bool). g (f x) ∷ ys) (both f g xs)

pub returns : goal.returns
returns c =
    let named = λ (p : Proc). is_in p.name c.args.names.now in
    let processes = c.processes-processes.result.now in
    c.loop-process.invariant
    ∙ ap (λ (ps : List Process). map (λ p. named (proc_of p)) ps) (take_all c.loop-process.process-index processes (omega (arith, c.loop-process-test.false)))
    ∙ both proc_of named processes
    ∙ ap (map named) c.processes-processes.ensures.value
