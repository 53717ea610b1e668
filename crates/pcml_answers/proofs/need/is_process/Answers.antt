use Rattle.std.proofs.Common.{◌≡◌, ◌||◌, ◌<◌, ℕ, zero, suc, List, [], ◌∷◌, Bool, true, false, ap, map, length, get_or, refl, sym, ◌∙◌, arith}
use Rattle.std.specs.List.{list_any}
use Rattle.std.proofs.lemmas.List.{take_all}
use Rattle.script_tree.specs.Processes.{Proc, proc_of}
use Rattle.script_tree.specs.declared.process.Proc.{Proc as Process}
use Rattle.script_token.specs.Tokens.{same}
use Rattle.pcml_answers.proofs.need.is_process.Goals as goal

any-map : {A B : Type 0} (f : A → B) (g : B → Bool) (xs : List A) → list_any (λ x. g (f x)) xs ≡ list_any g (map f xs)
any-map f g [] = refl
any-map f g (x ∷ xs) = ap (λ (b : Bool). g (f x) || b) (any-map f g xs)

any-at : {A : Type 0} (test : A → Bool) (xs : List A) (k : ℕ) (x : A) → k < length xs → x ≡ get_or xs k x → test x ≡ true → list_any test xs ≡ true
any-at test [] k x within is holds = absurd (omega (arith, within))
any-at test (y ∷ xs) zero x within is holds = ap (λ (b : Bool). b || list_any test xs) (sym (ap test is) ∙ holds)
any-at test (y ∷ xs) (suc k) x within is holds = later (test y) (list_any test xs) (any-at test xs k x (omega (arith, within)) is holds)
  where
    later : (a b : Bool) → b ≡ true → (a || b) ≡ true
    later true b e = refl
    later false b e = e

pub returns-then-eq : goal.returns-then-eq
returns-then-eq c =
    let processes = c.processes-processes.result.now in
    let test : Proc → Bool = λ p. same p.name c.args.name.now in
    let k = c.loop-process.process-index in
    let here : test (proc_of c.process-item.result) ≡ true = ap (λ (name : List ℕ). same name c.args.name.now) (sym (c.as_bytes.ensures.value ∙ c.name.ensures)) ∙ sym c.eq.ensures ∙ c.if-eq.true in
    sym (any-at (λ (p : Process). test (proc_of p)) processes k c.process-item.result (omega (arith, c.loop-process-test.true)) c.process-item.is here) ∙ any-map proc_of test processes
    ∙ ap (list_any test) c.processes-processes.ensures.value

pub returns : goal.returns
returns c =
    let processes = c.processes-processes.result.now in
    let test : Proc → Bool = λ p. same p.name c.args.name.now in
    sym c.loop-process.invariant
    ∙ ap (list_any (λ (p : Process). test (proc_of p))) (take_all c.loop-process.process-index processes (omega (arith, c.loop-process-test.false)))
    ∙ any-map proc_of test processes
    ∙ ap (list_any test) c.processes-processes.ensures.value
