-- What goes out to C: a code, a fault, a line, and a text in the caller's buffer.
use Rattle.std.specs.Prelude.{◌≡◌, ℕ, List, [], ◌∷◌, ◌++◌, length, take, drop, Result, Ok, Err}
use Rattle.std.specs.String.{string_bytes}
use Rattle.script.specs.declared.fault.ScriptFault.{ScriptFault}
use Rattle.script.specs.declared.fault.ScriptFault.TheVariants as scripts
use Rattle.journal_text.specs.declared.JournalFault.{JournalFault}
use Rattle.journal_text.specs.declared.JournalFault.TheVariants as journals
use Rattle.pcml_answers.specs.declared.need.NamesFault.{NamesFault}
use Rattle.pcml_answers.specs.declared.need.NamesFault.TheVariants as names
use Rattle.pcml_answers.specs.declared.prints.PrintsFault.{PrintsFault}
use Rattle.pcml_answers.specs.declared.prints.PrintsFault.TheVariants as prints
use Rattle.pcml_check_c.specs.declared.answer.Answer.{Answer}
use Rattle.pcml_check_c.specs.declared.told.Code.{Code}
use Rattle.pcml_check_c.specs.declared.told.Code.TheVariants.{Done, Found, NoScript, Open, Stranded, Stuck, Unlawful}
use Rattle.pcml_check_c.specs.declared.told.Told.{Told}
use Rattle.pcml_check_c.specs.declared.refusal.Refusal.{Refusal}
use Rattle.pcml_check_c.specs.declared.refusal.Refusal.TheVariants.{BadLine, Form, Limit, Memory, NoText, Rows, Script, Unnamed, Unprinted}

-- NUMBERS

abbrev pub code_of : Code → ℕ
code_of Done = 0
code_of Open = 1
code_of Unlawful = 2
code_of Stuck = 3
code_of NoScript = 4
code_of Stranded = 5
code_of Found = 6

abbrev pub code_of_refusal : Refusal → ℕ
code_of_refusal Memory = 16
code_of_refusal (Script scripts.Memory) = 16
code_of_refusal (Script fault) = 17
code_of_refusal (BadLine line) = 18
code_of_refusal Rows = 19
code_of_refusal Limit = 20
code_of_refusal Form = 21
code_of_refusal NoText = 22
code_of_refusal (Unnamed name) = 23
code_of_refusal (Unprinted text) = 24

-- the numbers that the program tells the faults of scripts by
abbrev pub fault_of_script : ScriptFault → ℕ
fault_of_script scripts.Memory = 0
fault_of_script (scripts.Syntax line) = 11
fault_of_script (scripts.UnknownName line) = 12
fault_of_script (scripts.Twice line) = 13
fault_of_script (scripts.TooMany line) = 14
fault_of_script (scripts.LoopWithoutSync line) = 15
fault_of_script scripts.TooLong = 16

abbrev pub line_of_script : ScriptFault → ℕ
line_of_script scripts.Memory = 0
line_of_script (scripts.Syntax line) = line
line_of_script (scripts.UnknownName line) = line
line_of_script (scripts.Twice line) = line
line_of_script (scripts.TooMany line) = line
line_of_script (scripts.LoopWithoutSync line) = line
line_of_script scripts.TooLong = 0

abbrev pub fault_of : Refusal → ℕ
fault_of (Script fault) = fault_of_script fault
fault_of (BadLine line) = 21
fault_of refusal = 0

abbrev pub line_of : Refusal → ℕ
line_of (Script fault) = line_of_script fault
line_of (BadLine line) = line
line_of refusal = 0

-- the name that no process has, or the text that names no process and value
abbrev pub text_of : Refusal → List ℕ
text_of (Unnamed name) = string_bytes name
text_of (Unprinted text) = string_bytes text
text_of refusal = []

-- FAULTS OF OTHER CRATES

abbrev pub of_journal : JournalFault → Refusal
of_journal journals.Memory = Memory
of_journal (journals.BadLine line) = BadLine line

abbrev pub of_names : NamesFault → Refusal
of_names names.Memory = Memory
of_names (names.Unnamed name) = Unnamed name

abbrev pub of_prints : PrintsFault → Refusal
of_prints prints.Memory = Memory
of_prints (prints.Unprinted text) = Unprinted text

-- WHAT GOES OUT

-- A buffer with as much of a text as fits before a NUL; what it had behind that stays. One of no bytes stays so.
abbrev pub filled : List ℕ → List ℕ → List ℕ
filled [] text = []
filled (first ∷ rest) text = take (length rest) text ++ 0 ∷ drop (length text) rest

-- the answer has these numbers and the length of the text, and the buffer its beginning
pub record Gives (code fault line : ℕ) (text before after : List ℕ) (a : Answer) : Type 0 where
  pub code_is : a.code ≡ code
  pub fault_is : a.fault ≡ fault
  pub line_is : a.line ≡ line
  pub len_is : a.text_len ≡ length text
  pub text_is : after ≡ filled before text

abbrev pub IsHandedOut : Result Told Refusal → List ℕ → List ℕ → Answer → Type 0
IsHandedOut (Ok told) before after a = Gives (code_of told.code) 0 told.line told.text.items before after a
IsHandedOut (Err refusal) before after a = Gives (code_of_refusal refusal) (fault_of refusal) (line_of refusal) (text_of refusal) before after a
