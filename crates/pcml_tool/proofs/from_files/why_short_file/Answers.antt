use Rattle.std.proofs.Common.{inl, inr, ℕ, List, length, Option, Some, None, ap, subst, arith}
use Rattle.std.specs.Option.{option_map}
use Rattle.pcml_files.specs.Files.{IsReadOf}
use Rattle.script_mistakes.specs.Short.{TellsWhyShort}
use Rattle.pcml_tool.proofs.Wholes.{take_shorter}
use Rattle.pcml_tool.proofs.from_files.why_short_file.Goals as goal

-- what is told of a beginning that is too large is told of the whole file
whole_tells : (name whole bytes : List ℕ) (told : Option (List ℕ)) → IsReadOf whole bytes → TellsWhyShort name bytes told → TellsWhyShort name whole told
whole_tells name whole bytes told (inl same) h = subst (λ (bs : List ℕ). TellsWhyShort name bs told) same h
whole_tells name whole bytes None (inr large) h = absurd (omega (arith, large.0, h.0))
whole_tells name whole bytes (Some text) (inr large) (inl h) =
    let shorter = take_shorter large.1 whole in
    let size = ap length large.2 in
    inl (omega (arith, h.0, shorter, size), h.1)
whole_tells name whole bytes (Some text) (inr large) (inr fault) = absurd (omega (arith, large.0, fault.fits))

pub returns-clause-done : goal.returns-clause-done
returns-clause-done g c =
    let name = c.args.name.now in
    let told = option_map (λ t. t.items) c.in_ok-why_short.field-0 in
    let file = c.in_ok-bytes.ensures.file in
    let tells : TellsWhyShort name c.in_ok-bytes.bytes.items told = subst (λ (bs : List ℕ). TellsWhyShort name bs told) c.deref.ensures.value c.in_ok-why_short.ensures in
    (file.0, file.1, told, whole_tells name file.0 c.in_ok-bytes.bytes.items told file.2 tells, c.told_short.ensures)
