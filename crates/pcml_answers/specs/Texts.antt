-- The words of a reason.
use Rattle.std.specs.Prelude.{ℕ, List, [], ◌∷◌, ◌++◌, codes}
use Rattle.std.specs.Fmt.{decimal}
use Rattle.protocol_values.specs.declared.Base.{Base}
use Rattle.protocol_values.specs.declared.Row.{Row}
use Rattle.journal_text.specs.Names.{Naming}
use Rattle.journal_text.specs.Texts.{nack_text}
use Rattle.journal_text.specs.Endings.{syncs_text}
use Rattle.journal_text.specs.Offers.{offer_text}
use Rattle.pcml_answers.specs.declared.reason.Reason.{Reason}
use Rattle.pcml_answers.specs.declared.reason.Reason.TheVariants.{OneThread, Unstarted, Ended, Faulted, Spent, Sync, NoOffer, OtherOffer, NotFired, NotEnded, Stamp}

-- a row, by its thread and its number
abbrev pub row_text : Naming → ℕ → ℕ → List ℕ
row_text names t sync = names.thread t ++ codes "." ++ decimal sync

-- that a row is not the next sync of a thread
abbrev pub late_text : Naming → Row → List ℕ
late_text names row = row_text names row.thread row.sync ++ codes " is not the next sync of " ++ names.thread row.thread

-- and which one is
abbrev pub next_text : Naming → Row → ℕ → List ℕ
next_text names row next = late_text names row ++ codes ", " ++ row_text names row.thread next ++ codes " is\n"

-- how many offers a row has, where it has none of a number
abbrev pub count_text : Naming → Row × ℕ → ℕ → List ℕ
count_text names at count =
    row_text names at.0.thread at.0.sync ++ codes " has no offer " ++ decimal at.1 ++ codes ": it has " ++ decimal count ++ 10 ∷ []

-- what a row offers under a number, and what it does not
abbrev pub other_text : Naming → Row × ℕ → Base → Base → List ℕ
other_text names at offered needed =
    codes "offer " ++ decimal at.1 ++ codes " of " ++ row_text names at.0.thread at.0.sync ++ codes " is " ++ offer_text names offered ++ codes ", not " ++ offer_text names needed ++ 10 ∷ []

-- the line that tells a reason, of so many rows a process
abbrev pub reason_text : Naming → ℕ → Reason → List ℕ
reason_text names rows (OneThread t) = names.thread t ++ codes " would meet itself\n"
reason_text names rows (Unstarted t) = names.thread t ++ codes " has not started\n"
reason_text names rows (Ended t) = names.thread t ++ codes " ended before\n"
reason_text names rows (Faulted t) = names.thread t ++ codes " faulted before\n"
reason_text names rows (Spent t) = names.thread t ++ codes " is spent" ++ syncs_text rows
reason_text names rows (Sync row next) = next_text names row next
reason_text names rows (NoOffer at count) = count_text names at count
reason_text names rows (OtherOffer at offered needed) = other_text names at offered needed
reason_text names rows (NotFired n) = codes "the nack " ++ nack_text names n ++ codes " is not enabled\n"
reason_text names rows (NotEnded t) = names.thread t ++ codes " has not ended\n"
reason_text names rows (Stamp stamp) = codes "the stamp has to be " ++ decimal stamp ++ 10 ∷ []
