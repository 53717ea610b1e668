-- Which processes wait for one another.
use Rattle.std.specs.Prelude.{◌≡◌, ◌==◌, ◌&&◌, ℕ, ◌<◌, zero, suc, Bool, true, false, not, if◌then◌else◌, List, [], ◌∷◌, ◌++◌, Option, Some, None, get_or, slice_get}
use Rattle.std.specs.List.{list_any}
use Rattle.journal_text.specs.Names.{Naming}
use Rattle.protocol_values.specs.declared.Base.{Base}
use Rattle.protocol_values.specs.declared.Base.TheVariants.{Send, Recv, Always, OnNack, OnEnd, Never}
use Rattle.protocol_values.specs.declared.Offer.{Offer}
use Rattle.pcml_why_sites.specs.Offering.{is_open}
use Rattle.thread.specs.Ends.{is_waiting}
use Rattle.pcml_why_sites.specs.Writing.{Written, could_offer}
use Rattle.pcml_why_sites.specs.declared.site.Site.{Site}
use Rattle.protocol_values.specs.declared.Side.TheVariants.{Sends, Receives}

-- WHO WAITS FOR WHOM

-- process b could meet the offer, by what its text writes; or the offer waits for a nack of b, and its sync is open, or for the end of b
abbrev pub could_serve : Naming → List (List Written) → List Site → ℕ → Base → Bool
could_serve names texts sites b (Send c m) = could_offer Receives (names.channel c) (get_or texts b [])
could_serve names texts sites b (Recv c) = could_offer Sends (names.channel c) (get_or texts b [])
could_serve names texts sites b (OnNack n) = (n.thread == b) && is_open sites n
could_serve names texts sites b (OnEnd t) = t == b
could_serve names texts sites b (Always m) = false
could_serve names texts sites b Never = false

-- the offers of a process that waits
abbrev pub offers_at : Option Site → List Offer
offers_at None = []
offers_at (Some s) = if is_waiting s.end then s.offers.now else []

abbrev pub waits_at : Option Site → Bool
waits_at None = false
waits_at (Some s) = is_waiting s.end

-- process a waits for process b, another, that waits too and could serve some offer of a
abbrev pub waits_for : Naming → List (List Written) → List Site → ℕ → ℕ → Bool
waits_for names texts sites a b =
    not (a == b) && (waits_at (slice_get sites b) && list_any (λ o. could_serve names texts sites b o.base) (offers_at (slice_get sites a)))

-- WHO WAIT FOR ONE ANOTHER

-- each member is one of so many, waits for a member, and is waited for by a member
pub record IsClosed (count : ℕ) (waits : ℕ → ℕ → Bool) (is_member : ℕ → Bool) : Type 0 where
  pub within : (a : ℕ) → is_member a ≡ true → a < count
  pub next : (a : ℕ) → is_member a ≡ true → (b : ℕ) × (is_member b ≡ true) × (waits a b ≡ true)
  pub former : (a : ℕ) → is_member a ≡ true → (b : ℕ) × (is_member b ≡ true) × (waits b a ≡ true)

-- the members below a number, in their order
abbrev pub members_below : (ℕ → Bool) → ℕ → List ℕ
members_below is_member zero = []
members_below is_member (suc a) = if is_member a then members_below is_member a ++ a ∷ [] else members_below is_member a

-- the members of the greatest set that is closed, in their order
pub record IsKnot (count : ℕ) (waits : ℕ → ℕ → Bool) (knot : List ℕ) : Type 0 where
  pub is_member : ℕ → Bool
  pub closed : IsClosed count waits is_member
  pub greatest : (is_other : ℕ → Bool) → IsClosed count waits is_other → (a : ℕ) → is_other a ≡ true → is_member a ≡ true
  pub are : knot ≡ members_below is_member count

-- a relation, as the pairs of which it holds
abbrev pub is_pair : List (ℕ × ℕ) → ℕ → ℕ → Bool
is_pair pairs a b = list_any (λ p. (p.0 == a) && (p.1 == b)) pairs

-- the pairs of a with those below a number for which it waits
abbrev pub pairs_of : (ℕ → ℕ → Bool) → ℕ → ℕ → List (ℕ × ℕ)
pairs_of waits a zero = []
pairs_of waits a (suc b) = if waits a b then pairs_of waits a b ++ (a, b) ∷ [] else pairs_of waits a b

-- those of each below a number
abbrev pub pairs_below : (ℕ → ℕ → Bool) → ℕ → ℕ → List (ℕ × ℕ)
pairs_below waits count zero = []
pairs_below waits count (suc a) = pairs_below waits count a ++ pairs_of waits a count

-- a waits for a member, and a member waits for it
abbrev pub has_next : List (ℕ × ℕ) → List Bool → ℕ → Bool
has_next pairs members a = list_any (λ p. (p.0 == a) && get_or members p.1 false) pairs

abbrev pub has_former : List (ℕ × ℕ) → List Bool → ℕ → Bool
has_former pairs members a = list_any (λ p. (p.1 == a) && get_or members p.0 false) pairs

abbrev pub is_held : List (ℕ × ℕ) → List Bool → ℕ → Bool
is_held pairs members a = has_next pairs members a && has_former pairs members a
