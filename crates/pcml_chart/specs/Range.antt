-- Which commits a chart shows: those of a range of stamps, 1,250 at most.
use Rattle.std.specs.Prelude.{◌≡◌, ◌⊎◌, ◌&&◌, ℕ, ◌+◌, ◌<◌, ◌≤◌, List, length, filter, nat_le, nat_lt}
use Rattle.protocol_values.specs.declared.Commit.{Commit}
use Rattle.protocol_values.specs.Commits.{stamp_of}
use Rattle.pcml_chart_layout.specs.Most.{most_by}

-- the commits with a stamp from `from` on and below `below`, in their order
abbrev pub shown : ℕ → ℕ → List Commit → List Commit
shown from below commits = filter (λ c. nat_le from (stamp_of c) && nat_lt (stamp_of c) below) commits

-- how many there are
abbrev pub count_shown : ℕ → ℕ → List Commit → ℕ
count_shown from below commits = length (shown from below commits)

-- The end of the range is one past `to` where that shows few enough. Else it is the last stamp for which they are few enough.
pub record IsEnd (from to : ℕ) (commits : List Commit) (below : ℕ) : Type 0 where
  pub within : below ≤ to + 1
  pub few : count_shown from below commits ≤ 1250
  pub most : (below ≡ to + 1) ⊎ (1250 < count_shown from (below + 1) commits)

abbrev pub greatest : List Commit → ℕ
greatest commits = most_by stamp_of commits
