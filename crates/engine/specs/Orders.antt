-- In which order so many are tried.
use Rattle.std.specs.Prelude.{◌≡◌, ◌<◌, ◌≤◌, ◌+◌, ◌*◌, ◌%◌, ℕ, suc}
use Rattle.engine.specs.declared.order.Order.{Order}

-- which is tried after so many others
unfoldable pub tried : Order → ℕ → ℕ
tried o time = (o.at + time * o.step) % o.count

-- where it stands there is one to try
pub record IsWithin (o : Order) : Type 0 where
  pub at : o.at < o.count
  pub step : o.step ≤ o.count

-- as many as there are, are tried one after another, and each of them once
pub record TriesEach (o : Order) : Type 0 where
  pub within : (time : ℕ) → time < o.count → tried o time < o.count
  pub once : (one other : ℕ) → one < o.count → other < o.count → tried o one ≡ tried o other → one ≡ other
  pub each : (place : ℕ) → place < o.count → (time : ℕ) × (time < o.count) × (tried o time ≡ place)

-- what was tried next is tried now
pub record GoesOn (old new : Order) : Type 0 where
  pub count : new.count ≡ old.count
  pub next : (time : ℕ) → tried new time ≡ tried old (suc time)

-- so many steps around the count go on by 1
abbrev pub HasInverse : ℕ → ℕ → Type 0
HasInverse step count = (times : ℕ) × ((step * times) % count ≡ 1 % count)
