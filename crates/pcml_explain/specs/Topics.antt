-- What can be explained: the faults of the program, by their numbers, and words that it tells; and the manual page.
use Rattle.std.specs.Prelude.{IsTrue, nat_eq, ℕ, List, [], ◌∷◌, ◌++◌, codes, Bool, true, ◌||◌, ◌&&◌, ◌==◌, nat_le, if◌then◌else◌}
use Rattle.std.specs.List.{list_any, starts_with, ends_with}
use Rattle.std.specs.Fmt.{decimal}
use Rattle.pcml_explain.specs.declared.Topic.{Topic}
use Rattle.pcml_explain.specs.declared.Topic.TheVariants as topics
use Rattle.pcml_explain.specs.declared.Topic.TheVariants.{Contents, Fault, Manual}
use Rattle.pcml_explain.specs.declared.Word.{Word}
use Rattle.pcml_explain.specs.declared.Word.TheVariants.{Unset, Kind, Range, Shape, Waiting, Spent, Unstarted, Stranded, Left, Faulted, Printed, Deadlock, Nack, Journal, Stamp, Tail, Lawful, Maximal, Outcome, Configuration}

abbrev pub fault_numbers : List ℕ
fault_numbers = 1 ∷ 2 ∷ 3 ∷ 4 ∷ 5 ∷ 6 ∷ 7 ∷ 8 ∷ 11 ∷ 12 ∷ 13 ∷ 14 ∷ 15 ∷ 16 ∷ 21 ∷ 22 ∷ 23 ∷ 31 ∷ 32 ∷ []

abbrev pub is_fault : ℕ → Bool
is_fault n = list_any (λ m. n == m) fault_numbers

-- the faults that are told with a line of a file
abbrev pub has_line : ℕ → Bool
has_line n = (nat_le 11 n && nat_le n 15) || n == 21 || n == 22

-- what a fault is told with, beside its number
abbrev pub place : ℕ → List ℕ
place n = if n == 2 then codes " step K" else (if has_line n then codes " line L" else [])

abbrev pub letters : Word → List ℕ
letters Unset = codes "unset"
letters Kind = codes "kind"
letters Range = codes "range"
letters Shape = codes "shape"
letters Waiting = codes "waiting"
letters Spent = codes "spent"
letters Unstarted = codes "unstarted"
letters Stranded = codes "stranded"
letters Left = codes "left"
letters Faulted = codes "faulted"
letters Printed = codes "printed"
letters Deadlock = codes "deadlock"
letters Nack = codes "nack"
letters Journal = codes "journal"
letters Stamp = codes "stamp"
letters Tail = codes "tail"
letters Lawful = codes "lawful"
letters Maximal = codes "maximal"
letters Outcome = codes "outcome"
letters Configuration = codes "configuration"

-- how the text of a topic begins
abbrev pub heading : Topic → List ℕ
heading Contents = codes "pcml explain "
heading Manual = codes "PCML(1)"
heading (Fault n) = codes "fault " ++ decimal n ++ place n ++ codes ": "
heading (topics.Word word) = letters word ++ codes ": "

abbrev pub is_topic : Topic → Bool
is_topic Contents = true
is_topic Manual = true
is_topic (Fault n) = is_fault n
is_topic (topics.Word word) = true

-- the text of a topic
abbrev pub Explains : Topic → List ℕ → Type 0
Explains topic text = IsTrue (is_topic topic) × IsTrue (starts_with nat_eq text (heading topic)) × IsTrue (ends_with nat_eq text (10 ∷ []))
