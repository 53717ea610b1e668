-- What a text is answered is its first fault, told with its line.
use Rattle.std.proofs.Common.{◌≡◌, ◌⊎◌, inl, inr, ℕ, ◌≤◌, Bool, true, false, ltb, List, length, Result, Ok, Err, IfErr, refl, sym, ap, ◌∙◌, arith, tests}
use Rattle.script_reader.specs.Steps.{Told}
use Rattle.script.specs.Scripts.{Script, script_of, script_at, text_at, tokens_of, with_line, IsFault, Answers}
use Rattle.script.specs.FirstFaults.{IsFirstFault, told_fault, TellsFirst, Tells, FirstIsTold}
use Rattle.script.specs.declared.script.Script.{Script as SeenScript}
use Rattle.script.specs.declared.fault.ScriptFault.{ScriptFault}
use Rattle.script.specs.declared.fault.ScriptFault.TheVariants as faults
use Rattle.std.proofs.lemmas.Bool.Decides.{nat_tests}
use Rattle.script.proofs.Spelled.{too_long}
use Rattle.script.proofs.Wholes.{scripts_are_answered}

-- the text is read, as it is not too long
short_text : (bytes : List ℕ) → ltb 65536 (length bytes) ≡ false → text_at bytes ≡ with_line bytes (script_at (tokens_of bytes))
unfolding text_at
short_text bytes e = rw e refl

long_text : (bytes : List ℕ) → ltb 65536 (length bytes) ≡ true → text_at bytes ≡ Err faults.TooLong
unfolding text_at
long_text bytes e = rw e refl

err_is : (a b : ScriptFault) → ◌≡◌ {A = Result Script ScriptFault} (Err a) (Err b) → a ≡ b
err_is a b e = cc

-- WHAT IS TOLD IS FIRST

told_first : (bytes : List ℕ) (fault : ScriptFault) (read : Result Script Told) → length bytes ≤ 65536 → script_at (tokens_of bytes) ≡ read → with_line bytes read ≡ Err fault → TellsFirst bytes fault
told_first bytes fault (Ok s) fits e f = absurd cc
told_first bytes fault (Err told) fits e f = record { told = told; is = sym (err_is _ _ f); first = scripts_are_answered.demanded (tokens_of bytes) told e; fits = fits }

fault_first : (bytes : List ℕ) (fault : ScriptFault) → (faults.TooLong ≡ fault → ⊥) → text_at bytes ≡ Err fault → TellsFirst bytes fault
fault_first bytes fault other e = at_length (ltb 65536 (length bytes)) refl
  where
    at_length : (b : Bool) → ltb 65536 (length bytes) ≡ b → TellsFirst bytes fault
    at_length true long = absurd (other (err_is _ _ (sym (long_text bytes long) ∙ e)))
    at_length false short = told_first bytes fault (script_at (tokens_of bytes)) (let fits : length bytes ≤ 65536 = grind (arith, nat_tests) in fits) refl (sym (short_text bytes short) ∙ e)

pub fault_tells : (bytes : List ℕ) (fault : ScriptFault) → IsFault fault (text_at bytes) → Tells bytes fault
fault_tells bytes faults.Memory e = tt
fault_tells bytes faults.TooLong e = too_long bytes e
fault_tells bytes (faults.Syntax line) e = fault_first bytes (faults.Syntax line) (λ same. absurd cc) e
fault_tells bytes (faults.UnknownName line) e = fault_first bytes (faults.UnknownName line) (λ same. absurd cc) e
fault_tells bytes (faults.Twice line) e = fault_first bytes (faults.Twice line) (λ same. absurd cc) e
fault_tells bytes (faults.TooMany line) e = fault_first bytes (faults.TooMany line) (λ same. absurd cc) e
fault_tells bytes (faults.LoopWithoutSync line) e = fault_first bytes (faults.LoopWithoutSync line) (λ same. absurd cc) e

-- WHAT IS FIRST IS TOLD

first_text : (bytes : List ℕ) (told : Told) → IsFirstFault bytes told → length bytes ≤ 65536 → text_at bytes ≡ Err (told_fault bytes told)
first_text bytes told first short =
    let fits : ltb 65536 (length bytes) ≡ false = search (arith, tests) in
    short_text bytes fits ∙ ap (with_line bytes) (scripts_are_answered.alone (tokens_of bytes) told first)

same_fault : (bytes : List ℕ) (fault first : ScriptFault) → text_at bytes ≡ Err first → text_at bytes ≡ Err fault → ◌≡◌ {A = Result SeenScript ScriptFault} (Err fault) (Err first)
same_fault bytes fault first e f = ap (λ (x : ScriptFault). Err x) (err_is _ _ (sym f ∙ e))

is_told : (bytes : List ℕ) (first : ScriptFault) (answer : Result SeenScript ScriptFault) → text_at bytes ≡ Err first → Answers answer (text_at bytes) → (answer ≡ Err first) ⊎ (answer ≡ Err faults.Memory)
is_told bytes first (Ok s) e a = (let both : ◌≡◌ {A = Result Script ScriptFault} (Ok (script_of s)) (Err first) = sym a ∙ e in absurd cc)
is_told bytes first (Err faults.Memory) e a = inr refl
is_told bytes first (Err faults.TooLong) e a = inl (same_fault bytes faults.TooLong first e a)
is_told bytes first (Err (faults.Syntax line)) e a = inl (same_fault bytes (faults.Syntax line) first e a)
is_told bytes first (Err (faults.UnknownName line)) e a = inl (same_fault bytes (faults.UnknownName line) first e a)
is_told bytes first (Err (faults.Twice line)) e a = inl (same_fault bytes (faults.Twice line) first e a)
is_told bytes first (Err (faults.TooMany line)) e a = inl (same_fault bytes (faults.TooMany line) first e a)
is_told bytes first (Err (faults.LoopWithoutSync line)) e a = inl (same_fault bytes (faults.LoopWithoutSync line) first e a)

pub answers_first : (bytes : List ℕ) (answer : Result SeenScript ScriptFault) → Answers answer (text_at bytes) → FirstIsTold bytes answer
answers_first bytes answer a told first short = is_told bytes (told_fault bytes told) answer (first_text bytes told first short) a

pub answers_tell : (bytes : List ℕ) (answer : Result SeenScript ScriptFault) → Answers answer (text_at bytes) → IfErr answer (Tells bytes)
answers_tell bytes (Ok s) a = tt
answers_tell bytes (Err fault) a = fault_tells bytes fault a
