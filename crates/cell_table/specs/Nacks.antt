-- What a pass knows of nacks, and of a row before it grants it.
use Rattle.std.specs.Prelude.{◌≡◌, ◌⊎◌, ◌≤◌, ⊤, ℕ, false, None}
use Rattle.protocol_values.specs.declared.Base.{Base}
use Rattle.protocol_values.specs.declared.Base.TheVariants.{Send, Recv, Always, OnNack, OnEnd, Never}
use Rattle.protocol_values.specs.declared.NackName.{NackName}
use Rattle.protocol_values.specs.declared.Binding.{Binding}
use Rattle.protocol_values.specs.declared.Offer.{Offer}
use Rattle.protocol_values.specs.declared.Row.{Row}
use Rattle.protocol_values.specs.declared.Joined.{Joined}
use Rattle.protocol_values.specs.Scopes.{has_scope}
use Rattle.protocol_ledger.specs.Tables.{bound_row}
use Rattle.cell_table.specs.declared.view.Seen.{Seen}
use Rattle.cell_table.specs.Sight.{Has, HaveOffer, IsBefore, SawEnded, SeesOffer, HasSeenLast, next_stamp}

-- the nack was seen bound to this row and scope
abbrev pub IsSeenBound : Seen → NackName → Row → ℕ → Type 0
IsSeenBound s n r scope = (r.thread ≡ n.thread) × Has s.bound (n, record { sync = r.sync; scope = scope })

-- the nack was seen bound to a row that was seen committed as j, by an offer outside the nack's scope
pub record SawEnabled (s : Seen) (n : NackName) (j : Joined) : Type 0 where
  pub binding : Binding
  pub bound : Has s.bound (n, binding)
  pub joined : Has s.joined (bound_row n binding, j)
  pub offer : Offer
  pub chosen : SeesOffer s (bound_row n binding) j.own offer
  pub outside : has_scope offer.scopes binding.scope ≡ false

-- the nack was seen carried as one that was enabled, at this stamp
abbrev pub SawCarried : Seen → NackName → ℕ → Type 0
SawCarried s n stamp = Has s.carried (n, stamp) × (1 ≤ stamp)

-- what lets a base event commit its row alone was seen, with its stamp: 0 for an always, for a nack the stamp of the row
-- that enabled it, in this table or in an earlier one, and for the end of a thread the last stamp of the thread
abbrev pub SawCause : Seen → Base → ℕ → Type 0
SawCause s (Send c m) stamp = ⊥
SawCause s (Recv c) stamp = ⊥
SawCause s (Always m) stamp = stamp ≡ 0
SawCause s (OnNack n) stamp = ((j : Joined) × SawEnabled s n j × (stamp ≡ j.stamp)) ⊎ SawCarried s n stamp
SawCause s (OnEnd p) stamp = (g : ℕ) × Has s.ended (p, g) × HasSeenLast s (record { thread = p; sync = g }) stamp
SawCause s Never stamp = ⊥

-- what lets it do so was seen, if not the stamp
abbrev pub IsReadyAlone : Seen → Base → Type 0
IsReadyAlone s (Send c m) = ⊥
IsReadyAlone s (Recv c) = ⊥
IsReadyAlone s (Always m) = ⊤
IsReadyAlone s (OnNack n) = ((j : Joined) × SawEnabled s n j) ⊎ ((stamp : ℕ) × SawCarried s n stamp)
IsReadyAlone s (OnEnd p) = SawEnded s p
IsReadyAlone s Never = ⊥

-- offer n of the row was seen, and what lets it commit the row alone
abbrev pub CanStandAlone : Seen → Row → ℕ → Type 0
CanStandAlone s r n = (o : Offer) × SeesOffer s r n o × IsReadyAlone s o.base

-- the row, committed alone as j by its offer n, at the stamp that its last stamp and the cause's give
pub record CanGrant (s : Seen) (r : Row) (n : ℕ) (j : Joined) : Type 0 where
  pub offer : Offer
  pub read : HaveOffer s.words r n offer
  pub cause : ℕ
  pub caused : SawCause s offer.base cause
  pub last : ℕ
  pub seen_last : HasSeenLast s r last
  pub is : j ≡ record { own = n; partner = None; stamp = next_stamp last cause }

-- the row at which the cause of a base event is read: that to which its nack was seen bound, or the one before the end of its thread
abbrev pub IsCauseRow : Seen → Base → Row → Type 0
IsCauseRow s base q =
    ((n : NackName) × (b : Binding) × (base ≡ OnNack n) × Has s.bound (n, b) × (q ≡ bound_row n b))
    ⊎ ((p g : ℕ) × (base ≡ OnEnd p) × Has s.ended (p, g) × IsBefore (record { thread = p; sync = g }) q)
