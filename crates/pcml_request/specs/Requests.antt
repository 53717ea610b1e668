-- What can be asked for.
use Rattle.std.specs.Prelude.{ℕ, ◌*◌, ◌≤◌, IsTrue, Option, None, Some, IfSome}
use Rattle.pcml_explain.specs.Topics.{is_topic}
use Rattle.pcml_request.specs.declared.request.Request.{Request}
use Rattle.pcml_request.specs.declared.request.Request.TheVariants.{Explain, OfJournal, Outcomes, Run, Seek}

-- so many rows in each of so many seasons, and in one where no number of seasons is named
abbrev pub all_rows : ℕ → Option ℕ → ℕ
all_rows rows None = rows
all_rows rows (Some seasons) = seasons * rows

-- Of a fault that is to be explained there is one. Processes that are run or whose journal is followed have at most 1024 rows a season, and so
-- have those whose outcomes are looked for, where a number of rows is named. Outcomes, and what is sought in all runs, are looked for in 1 to
-- 4194304 configurations; outcomes are numbered from 1.
abbrev pub CanBeAnswered : Request → Type 0
CanBeAnswered (Explain topic) = IsTrue (is_topic topic)
CanBeAnswered (Run asked) = asked.rows ≤ 1024
CanBeAnswered (OfJournal asked) = asked.rows ≤ 1024
CanBeAnswered (Outcomes search) = IfSome search.rows (λ rows. rows ≤ 1024) × (1 ≤ search.limit) × (search.limit ≤ 4194304) × IfSome search.of (λ number. 1 ≤ number)
CanBeAnswered (Seek seeking) = (1 ≤ seeking.limit) × (seeking.limit ≤ 4194304)
CanBeAnswered asked = Unit {0}
