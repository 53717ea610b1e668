-- Which process of a script stands where.
use Rattle.std.specs.Prelude.{◌≡◌, ℕ, List, Some, slice_get}
use Rattle.std.specs.Coded.{Coded-set, coded_ℕ, Π_prop, le_prop}
use Rattle.script_tree.specs.Processes.{Proc}
use Rattle.script_tree.specs.Spawning.{AreSpawnedOnce, IsPlaced}

-- each process says how many stand before it
abbrev pub AreInOrder : List Proc → Type 0
AreInOrder ps = (s : ℕ) (p : Proc) → slice_get ps s ≡ Some p → p.earlier ≡ s

pub AreInOrder-prop : (ps : List Proc) → IsProp (AreInOrder ps)
AreInOrder-prop ps = Π_prop (λ s. Π_prop (λ p. Π_prop (λ e. Coded-set coded_ℕ p.earlier s)))

pub IsPlaced-prop : (ps : List Proc) → IsProp (IsPlaced ps)
IsPlaced-prop ps = Π_prop (λ t. Π_prop (λ s. Π_prop (λ e. le_prop)))

pub AreSpawnedOnce-prop : (ps : List Proc) → IsProp (AreSpawnedOnce ps)
AreSpawnedOnce-prop ps = Π_prop (λ t. Π_prop (λ s. Π_prop (λ u. Π_prop (λ p. Π_prop (λ q. Π_prop (λ e. Π_prop (λ f. Π_prop (λ g. Π_prop (λ h. Coded-set coded_ℕ s u)))))))))
