-- Event trees: their base events from left to right, what stands round each, and the offers that they make.
use Rattle.std.specs.Prelude.{◌≡◌, ℕ, ◌+◌, ◌^◌, ◌↔◌, List, [], ◌∷◌, ◌++◌, map, length, Contains, Option, slice_get, bit_or}
use Rattle.std.specs.Int.{bit_at}
use Rattle.std.specs.Option.{option_map}
use Rattle.protocol_values.specs.declared.Base.{Base}
use Rattle.protocol_values.specs.declared.Offer.{Offer}

-- An event whose guards have run: a base event, a choice of nothing, a choice between two, a wrap round an event
-- (by its number in the process's text), or a scope round one (by the number of its nack).
pub data Tree : Type 0 where
  Single : (base : Base) → Tree
  Nothing : Tree
  Or : (first second : Tree) → Tree
  Wrap : (wrap : ℕ) (event : Tree) → Tree
  Scope : (nack : ℕ) (event : Tree) → Tree

-- The scopes, each by the number of its nack, in the order in which they begin. A scope's number is its place here.
abbrev pub scope_nacks : Tree → List ℕ
scope_nacks (Single base) = []
scope_nacks Nothing = []
scope_nacks (Or first second) = scope_nacks first ++ scope_nacks second
scope_nacks (Wrap wrap event) = scope_nacks event
scope_nacks (Scope nack event) = nack ∷ scope_nacks event

abbrev pub scope_count : Tree → ℕ
scope_count event = length (scope_nacks event)

-- a base event, the wraps round it, innermost first, and the numbers of the scopes round it, outermost first
pub record BaseEvent : Type 0 where
  pub base : Base
  pub wraps : List ℕ
  pub scopes : List ℕ

abbrev pub with_wrap : ℕ → BaseEvent → BaseEvent
with_wrap wrap b = record b { wraps = b.wraps ++ wrap ∷ [] }

abbrev pub with_scope : ℕ → BaseEvent → BaseEvent
with_scope scope b = record b { scopes = scope ∷ b.scopes }

-- the base events, from left to right, of a part of an event: `next` is the number of its first scope
abbrev pub bases_from : ℕ → Tree → List BaseEvent
bases_from next (Single base) = record { base = base; wraps = []; scopes = [] } ∷ []
bases_from next Nothing = []
bases_from next (Or first second) = bases_from next first ++ bases_from (next + scope_count first) second
bases_from next (Wrap wrap event) = map (with_wrap wrap) (bases_from next event)
bases_from next (Scope nack event) = map (with_scope next) (bases_from (next + 1) event)

-- The base events of a whole event. The number of an offer is the place of its base event here.
abbrev pub bases : Tree → List BaseEvent
bases event = bases_from 0 event

abbrev pub base_count : Tree → ℕ
base_count event = length (bases event)

-- the mask of a list of scope numbers
abbrev pub mask : List ℕ → ℕ
mask [] = 0
mask (scope ∷ scopes) = bit_or (2 ^ scope) (mask scopes)

-- bit s is set exactly where s is one of the scopes
abbrev pub IsMaskOf : List ℕ → ℕ → Type 0
IsMaskOf scopes m = (scope : ℕ) → (bit_at m scope ≡ 1) ↔ Contains scopes scope

abbrev pub offer_of : BaseEvent → Offer
offer_of b = record { base = b.base; scopes = mask b.scopes }

abbrev pub offers : Tree → List Offer
offers event = map offer_of (bases event)

-- the wraps round base event n, if there is one
abbrev pub wraps_at : Tree → ℕ → Option (List ℕ)
wraps_at event n = option_map (λ b. b.wraps) (slice_get (bases event) n)
