-- What a pass has seen grows.
use Rattle.std.proofs.Common.{◌≡◌, ℕ, ap, subst, ◌∙◌}
use Rattle.std.specs.Prelude.{⊤, IfNone, IfOk, None, Option, Result, Some, Ok, Err}
use Rattle.protocol_values.specs.Words.{base_of}
use Rattle.protocol_values.specs.declared.Atom.{Atom}
use Rattle.protocol_values.specs.declared.Direction.{Direction}
use Rattle.protocol_values.specs.declared.NackName.{NackName}
use Rattle.protocol_values.specs.declared.Row.{Row}
use Rattle.cell_table.specs.declared.view.Seen.{Seen}
use Rattle.protocol_values.specs.declared.Offer.{Offer}
use Rattle.protocol_values.specs.declared.Base.{Base}
use Rattle.cell_table.specs.Nacks.{CanStandAlone, IsReadyAlone}
use Rattle.cell_table.specs.Sight.{Coherent, LearnsOf, SawCommitted, SeesDirection, SeesOffer}
use Rattle.cell_table.proofs.Directions.{one_direction, sees_direction, sees_direction_more}
use Rattle.cell.proofs.Alone.{ready_more}
use Rattle.cell_table.proofs.Offers.{sees_more}
use Rattle.cell.proofs.Learning.{learns_then, learns_wider, lives_wider, nacks_wider, learns_nothing}
use Rattle.meet_scan.specs.Searches.{Grows}

pub grows_nothing : (s : Seen) → Grows s s
grows_nothing s = learns_nothing (λ q. ⊤) (λ n. ⊤) (λ p. ⊤) s

pub grows_then : (s t u : Seen) → Grows s t → Grows t u → Grows s u
grows_then s t u f g = learns_then (λ q. ⊤) s t u f g

pub grows_by : {Lives : ℕ → Type 0} (About : Row → Type 0) (Nacks : NackName → Type 0) (s t : Seen) → LearnsOf About Nacks Lives s t → Grows s t
grows_by {Lives} About Nacks s t l =
    lives_wider (λ q. ⊤) Lives (λ p. ⊤) s t (λ p h. tt) (nacks_wider (λ q. ⊤) Nacks (λ n. ⊤) s t (λ n h. tt) (learns_wider About (λ q. ⊤) s t (λ q h. tt) l))

pub saw_more : (s t : Seen) (r : Row) → Grows s t → SawCommitted s r → SawCommitted t r
saw_more s t r g c = (c.0, g.joined.0 (r, c.0) c.1)

pub offer_more : (s t : Seen) (r : Row) (n : ℕ) (o : Offer) → Grows s t → SeesOffer s r n o → SeesOffer t r n o
offer_more s t r n o g sees = sees_more (λ q. ⊤) s t r n o g sees

pub seen_more : (s t : Seen) (r : Row) (n : ℕ) (d : Direction) → Grows s t → SeesDirection s r n d → SeesDirection t r n d
seen_more s t r n d g sees = sees_direction_more (λ q. ⊤) s t r n d g sees

-- WHAT COMMITS A ROW ALONE is not forgotten
pub stands_more : (s t : Seen) (r : Row) (n : ℕ) → Grows s t → CanStandAlone s r n → CanStandAlone t r n
stands_more s t r n g (o, sees, ready) = (o, offer_more s t r n o g sees, ready_more (λ q. ⊤) s t o.base g ready)

-- nothing commits a row alone by an offer in this direction
abbrev pub NeedsPartner : Direction → Type 0
NeedsPartner d = (s : Seen) (x y z : Atom) → ¬ IsReadyAlone s (base_of d x y z)

pub stands_never : (threads rows : ℕ) (s : Seen) (r : Row) (n : ℕ) (d : Direction) → Coherent threads rows s → SeesDirection s r n d → NeedsPartner d → ¬ CanStandAlone s r n
stands_never threads rows s r n d agree sees needs (o, seen, ready) =
    let told = sees_direction s r n o seen in
    let way = told.2 in
    let same : told.0 ≡ d = one_direction threads rows s r n told.0 d agree told.1 sees in
    needs s way.0 way.1 way.2 (subst (λ (b : Base). IsReadyAlone s b) (way.3 ∙ ap (λ (e : Direction). base_of e way.0 way.1 way.2) same) ready)

-- where nothing was found, what holds anyway holds
pub ok_none : {X E : Type 0} {P : Type 0} (r : Result (Option X) E) → P → IfOk r (λ f. IfNone f P)
ok_none (Ok None) p = p
ok_none (Ok (Some x)) p = tt
ok_none (Err e) p = tt
