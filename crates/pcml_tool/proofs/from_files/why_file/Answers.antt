use Rattle.std.proofs.Common.{inl, inr, ℕ, List, length, Option, Some, None, ap, subst, arith}
use Rattle.std.specs.Option.{option_map}
use Rattle.pcml_files.specs.Files.{IsReadOf}
use Rattle.script_mistakes.specs.Telling.{TellsWhyNot}
use Rattle.pcml_tool.proofs.Wholes.{take_shorter, with_ok}
use Rattle.pcml_tool.proofs.from_files.why_file.Goals as goal

-- what is told of a beginning that is too large is told of the whole file
whole_tells : (whole bytes : List ℕ) (told : Option (List ℕ)) → IsReadOf whole bytes → TellsWhyNot bytes told → TellsWhyNot whole told
whole_tells whole bytes told (inl same) h = subst (λ (bs : List ℕ). TellsWhyNot bs told) same h
whole_tells whole bytes None (inr large) h = absurd (omega (arith, large.0, h.0))
whole_tells whole bytes (Some text) (inr large) (inl h) =
    let shorter = take_shorter large.1 whole in
    let size = ap length large.2 in
    inl (omega (arith, h.0, shorter, size), h.1)
whole_tells whole bytes (Some text) (inr large) (inr fault) = absurd (omega (arith, large.0, fault.fits))

pub returns-clause-done : goal.returns-clause-done
returns-clause-done g c =
    let told = option_map (λ t. t.items) c.in_ok-why_not.field-0 in
    let file = c.in_ok-bytes.ensures.file in
    let tells : TellsWhyNot c.in_ok-bytes.bytes.items told = subst (λ (bs : List ℕ). TellsWhyNot bs told) c.deref.ensures.value c.in_ok-why_not.ensures in
    with_ok c.told_why_not.result _ _ c.told_why_not.ensures.told (λ answer is. (file.0, file.1, told, whole_tells file.0 c.in_ok-bytes.bytes.items told file.2 tells, is))
