-- How many workers, rows and seasons a run may have.
use Rattle.std.specs.Prelude.{ℕ, ◌≤◌}

abbrev pub AreWorkers : ℕ → Type 0
AreWorkers workers = (1 ≤ workers) × (workers ≤ 16)

-- rows a thread
abbrev pub AreRows : ℕ → Type 0
AreRows rows = (1 ≤ rows) × (rows ≤ 1024)

-- the most seasons that a run may take
abbrev pub AreSeasons : ℕ → Type 0
AreSeasons seasons = (1 ≤ seasons) × (seasons ≤ 65535)
