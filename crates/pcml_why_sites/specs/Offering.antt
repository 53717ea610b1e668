-- Who offers what.
use Rattle.std.specs.Prelude.{◌==◌, ◌&&◌, ℕ, zero, suc, Bool, true, false, not, if◌then◌else◌, List, [], ◌∷◌, ◌++◌, length, Option, Some, None, slice_get}
use Rattle.std.specs.List.{list_any}
use Rattle.protocol_values.specs.Values.{is_on}
use Rattle.protocol_values.specs.declared.NackName.{NackName}
use Rattle.thread.specs.Ends.{is_waiting}
use Rattle.pcml_why_sites.specs.declared.site.Site.{Site}
use Rattle.protocol_values.specs.declared.Side.{Side}

-- the process waits with such an offer
abbrev pub offers_on : Side → ℕ → Site → Bool
offers_on side chan s = is_waiting s.end && list_any (λ o. is_on side chan o.base) s.offers.now

abbrev pub is_other_on : Side → ℕ → ℕ → ℕ → Option Site → Bool
is_other_on side chan t u None = false
is_other_on side chan t u (Some s) = not (u == t) && offers_on side chan s

-- of the first so many processes those with such an offer, but for process t
abbrev pub others_below : List Site → Side → ℕ → ℕ → ℕ → List ℕ
others_below sites side chan t zero = []
others_below sites side chan t (suc u) =
    if is_other_on side chan t u (slice_get sites u) then others_below sites side chan t u ++ u ∷ [] else others_below sites side chan t u

abbrev pub others : List Site → Side → ℕ → ℕ → List ℕ
others sites side chan t = others_below sites side chan t (length sites)

-- the process waits in a sync that has this nack; a process that is spent has not opened the sync that it came to
abbrev pub has_nack : ℕ → Option Site → Bool
has_nack k None = false
has_nack k (Some s) = is_waiting s.end && list_any (λ n. n == k) s.nacks.now

-- the nack is of a sync that is open
abbrev pub is_open : List Site → NackName → Bool
is_open sites n = has_nack n.k (slice_get sites n.thread)
