-- What a machine offers has room in the words of a row.
use Rattle.std.proofs.Common.{◌≡◌, ℕ, zero, suc, ◌+◌, ◌<◌, ◌≤◌, ◌^◌, List, [], ◌∷◌, length, lit<, slice_get, Option, Some, ap, sym, subst, ⊎_elim, arith}
use Rattle.std.proofs.Math.Pow.{pow-lt}
use Rattle.std.proofs.lemmas.List.{length-append}
use Rattle.std.proofs.lemmas.List.Elements.{All-nil, All-cons, All-append, All-head, All-map, All-tail}
use Rattle.std.proofs.lemmas.Option.{none-some, same_Some, slice_get_within}
use Rattle.std.proofs.lemmas.Nat.{or_lt}
use Rattle.std.specs.Prelude.{⊤, All}
use Rattle.event.specs.Tree.{Tree, Single, Nothing, Or, Wrap, Scope, BaseEvent, bases, bases_from, mask, offers, offer_of, scope_count, scope_nacks, with_scope, with_wrap}
use Rattle.protocol_values.specs.Words.{IsAtomInRange, IsBaseInRange, IsMessageInRange, IsOfferInRange}
use Rattle.protocol_values.proofs.WordLemmas.{IsOfferInRange-offer_of}
use Rattle.protocol_values.specs.declared.Atom.{Atom}
use Rattle.protocol_values.specs.declared.Atom.TheVariants.{Num, Chan, Nack}
use Rattle.protocol_values.specs.declared.Base.{Base}
use Rattle.protocol_values.specs.declared.Base.TheVariants.{Send, Recv, Always, OnNack, OnEnd, Never}
use Rattle.protocol_values.specs.declared.Joined.{Joined}
use Rattle.protocol_values.specs.declared.Message.{Message}
use Rattle.protocol_values.specs.declared.Message.TheVariants.{Empty, One, Two, Three}
use Rattle.protocol_values.specs.declared.Offer.{Offer}
use Rattle.protocol_values.specs.declared.Row.{Row}
use Rattle.script_tree.specs.Limits.{BlockIsIn}
use Rattle.script_tree.specs.Processes.{Proc, known_in}
use Rattle.script_tree.specs.Trees.{block_of}
use Rattle.thread.specs.After.{Chosen}
use Rattle.thread.specs.Ranges.{AtomIsIn, BaseIsIn, MessageIsIn, OffersAreIn}
use Rattle.thread.proofs.Ranging.{machine_in_range}
use Rattle.cell.specs.Calls.{GridOf}
use Rattle.cell_table.specs.declared.view.Seen.{Seen}
use Rattle.runtime_worker.specs.declared.resident.Suspended.{Suspended}
use Rattle.runtime_worker.specs.Machines.{AreFirst, IsTable, NamesInRange, StandsFor}
use Rattle.runtime_worker.proofs.Processes.{offers_as, process_of}
use Rattle.runtime_worker.proofs.Machines.{offers_of_open}
use Rattle.cell_table.specs.Sight.{Gets, HaveOffer, IsResult, SeesOffer}

-- MESSAGES that were read from words

atom_from : (a : Atom) → IsAtomInRange a → AtomIsIn a
atom_from (Num n) h = tt
atom_from (Chan c) h = tt
atom_from (Nack n) h = h

message_from : (m : Message) → IsMessageInRange m → MessageIsIn m
message_from Empty h = tt
message_from (One a) h = atom_from a h
message_from (Two a b) h = (atom_from a h.0, atom_from b h.1)
message_from (Three a b c) h = (atom_from a h.0, (atom_from b h.1, atom_from c h.2))

offer_seen : (s : Seen) (r : Row) (n : ℕ) (o : Offer) → SeesOffer s r n o → IsOfferInRange o
offer_seen s r n o seen = ⊎_elim
    (λ (h : HaveOffer s.words r n o). IsOfferInRange-offer_of h.head h.first h.second h.third o h.is)
    (λ h. IsOfferInRange-offer_of h.1.head h.1.first h.1.second h.1.third o h.1.is)
    seen

gets_from : (s : Seen) (j : Joined) (base : Base) (m : Message) → IsBaseInRange base → Gets s j base m → IsMessageInRange m
gets_from s j (Send c sent) m h e = subst IsMessageInRange (sym e) tt
gets_from s j (Recv c) m h e = (subst IsBaseInRange e.5 (offer_seen s e.0.0 e.0.1 e.2 e.4).base).1
gets_from s j (Always told) m h e = subst IsMessageInRange (sym e) h
gets_from s j (OnNack n) m h e = subst IsMessageInRange (sym e) tt
gets_from s j (OnEnd t) m h e = subst IsMessageInRange (sym e) tt
gets_from s j Never m h e = subst IsMessageInRange (sym e) tt

-- what a row gets
pub result_in_range : (s : Seen) (r : Row) (m : Message) → IsResult s r m → MessageIsIn m
result_in_range s r m got = message_from m (gets_from s got.0 got.1.base m (offer_seen s r got.0.own got.1 got.3).base got.4)

-- MASKS of scopes, of which an event has few

abbrev Below : ℕ → List ℕ → Type 0
Below top [] = ⊤
Below top (s ∷ scopes) = (s < top) × Below top scopes

bases_below : (top n : ℕ) (t : Tree) → n + scope_count t ≤ top → All (λ b. Below top b.scopes) (bases_from n t)
bases_below top n (Single base) h = All-cons (λ b. Below top b.scopes) _ [] tt (All-nil (λ b. Below top b.scopes))
bases_below top n Nothing h = All-nil (λ b. Below top b.scopes)
bases_below top n (Or first second) h =
    let both = length-append (scope_nacks first) (scope_nacks second) in
    All-append (λ b. Below top b.scopes) (bases_from n first) _ (bases_below top n first (omega (arith, h, both))) (bases_below top (n + scope_count first) second (omega (arith, h, both)))
bases_below top n (Wrap wrap event) h = All-map (λ b. Below top b.scopes) (with_wrap wrap) (bases_from n event) (bases_below top n event h)
bases_below top n (Scope nack event) h = All-map (λ b. Below top b.scopes) (with_scope n) (bases_from (n + 1) event) (scoped (bases_from (n + 1) event) (bases_below top (n + 1) event (omega (arith, h))))
  where
    scoped : (bs : List BaseEvent) → All (λ b. Below top b.scopes) bs → All (λ b. Below top (with_scope n b).scopes) bs
    scoped [] k = All-nil (λ b. Below top (with_scope n b).scopes)
    scoped (b ∷ bs) k =
        All-cons (λ b. Below top (with_scope n b).scopes) b bs (omega (arith, h), All-head (λ b. Below top b.scopes) b bs k)
        (scoped bs (All-tail (λ b. Below top b.scopes) b bs k))

mask_below : (scopes : List ℕ) → Below 4 scopes → mask scopes < 2 ^ 4
mask_below [] h = lit< tt
mask_below (s ∷ scopes) h = or_lt 4 (2 ^ s) (mask scopes) (pow-lt {i = s} {j = 4} h.0) (mask_below scopes h.1)

masks_of : (bs : List BaseEvent) → All (λ b. Below 4 b.scopes) bs → All (λ b. (offer_of b).scopes < 16) bs
masks_of [] h = All-nil (λ b. (offer_of b).scopes < 16)
masks_of (b ∷ bs) h =
    All-cons (λ b. (offer_of b).scopes < 16) b bs (mask_below b.scopes (All-head (λ b. Below 4 b.scopes) b bs h))
    (masks_of bs (All-tail (λ b. Below 4 b.scopes) b bs h))

pub masks_in_range : (t : Tree) → scope_count t ≤ 4 → All (λ o. o.scopes < 16) (offers t)
masks_in_range t few = All-map (λ o. o.scopes < 16) offer_of (bases t) (masks_of (bases t) (bases_below 4 0 t (omega (arith, few))))

-- THE OFFERS of a machine that stands for a thread

at_place : {A : Type 0} (P : A → Type 0) (xs : List A) (n : ℕ) (x : A) → All P xs → slice_get xs n ≡ Some x → P x
at_place P [] n x h e = absurd (none-some x e)
at_place P (y ∷ xs) zero x h e = subst P (same_Some y x e) (All-head P y xs h)
at_place P (y ∷ xs) (suc n) x h e = at_place P xs n x (All-tail P y xs h) e

pub bases_in_range : (ps : List Proc) (first : List (Option Suspended)) (t : ℕ) (m : Suspended) (results : List Chosen) (os : List Offer) (ns : List ℕ) → AreFirst ps first → length ps ≤ 64 → StandsFor first m t results os ns → OffersAreIn os
bases_in_range ps first t m results os ns are few stands =
    let is = stands.0 in
    let w = process_of ps first t m results are is in
    let runs = w.2 in
    let text : BlockIsIn (known_in w.0) (block_of m.machine.value.body) = subst (BlockIsIn (known_in w.0)) (sym runs.body) runs.limits.names in
    let place = runs.place in
    let low : m.machine.value.thread < 64 =
    (let number = runs.thread in
    let within = slice_get_within ps t w.0 w.1 in
    omega (arith, number, within, few)) in
    subst OffersAreIn (offers_of_open m.machine.value.phase os ns stands.1)
    (machine_in_range m.machine.value (known_in w.0) is.after low (omega (arith, place)) text is.in_range)

pub base_in_range : (ps : List Proc) (first : List (Option Suspended)) (t : ℕ) (m : Suspended) (results : List Chosen) (os : List Offer) (ns : List ℕ) → AreFirst ps first → length ps ≤ 64 → StandsFor first m t results os ns
    → (n : ℕ) (o : Offer) → slice_get os n ≡ Some o → BaseIsIn o.base
base_in_range ps first t m results os ns are few stands n o e = at_place (λ o. BaseIsIn o.base) os n o (bases_in_range ps first t m results os ns are few stands) e

pub names_in_range : (cells : GridOf Suspended) (t : ℕ) (m : Suspended) (results : List Chosen) (os : List Offer) (ns : List ℕ) → IsTable cells → StandsFor cells.first m t results os ns → length ns ≤ 4 → NamesInRange os
names_in_range cells t m results os ns table stands few n o e =
    let p = offers_as table.processes cells.first t m results os ns table.first stands in
    let size : scope_count p.event ≡ length ns = ap (λ (l : List ℕ). length l) p.scopes in
    let masks : All (λ o. o.scopes < 16) os = subst (λ (l : List Offer). All (λ o. o.scopes < 16) l) p.are (masks_in_range p.event (omega (arith, size, few))) in
    (base_in_range table.processes cells.first t m results os ns table.first table.few stands n o e, at_place (λ o. o.scopes < 16) os n o masks e)
