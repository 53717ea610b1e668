-- What keeps the lines right.
use Rattle.std.proofs.Common.{◌≡◌, ◌≢◌, ◌⊎◌, ◌+◌, ◌≤◌, ℕ, true, List, [], ◌∷◌, Option, Some, None, length, refl, sym, ◌∙◌, subst, ap, arith, inl, inr}
use Rattle.std.specs.List.{slice_get}
use Rattle.std.proofs.lemmas.Bool.{cases_eq, false≢true}
use Rattle.std.proofs.lemmas.Option.{same_Some, slice_get_within}
use Rattle.channels.specs.declared.waiting.Waiting.{Waiting}
use Rattle.channels.specs.Lines.{IsIn}
use Rattle.channels.proofs.Members.{in-append, in-left, in-right}
use Rattle.engine.specs.declared.offers.ChannelKey.{ChannelKey}
use Rattle.engine.specs.declared.offers.LatchKey.{LatchKey}
use Rattle.engine.specs.declared.offers.Offer.{Offer}
use Rattle.engine.specs.declared.offers.Offer.TheVariants.{Send, Receive, Latch, Always}
use Rattle.engine.specs.States.{Sync}
use Rattle.engine.specs.Lines.{Adds, ChangesOnly, IsFirstLive, IsOrdered, Lined, OffersAt, Pops, Sifts, WaitsAt, lives}
use Rattle.engine.proofs.Listing.{lives-waits, ordered-push, ordered-rest, waits-lives}
use Rattle.engine.proofs.Promises.{channel-cases, latch-cases}

pub offer-cases : (a b : Offer) → (a ≡ b) ⊎ (a ≢ b)
offer-cases (Send c) (Send d) = elim (channel-cases c d) [ inl e ↦ inl (ap (λ (k : ChannelKey). Send k) e) | inr ne ↦ inr (λ e. ne cc) ]
offer-cases (Receive c) (Receive d) = elim (channel-cases c d) [ inl e ↦ inl (ap (λ (k : ChannelKey). Receive k) e) | inr ne ↦ inr (λ e. ne cc) ]
offer-cases (Latch c) (Latch d) = elim (latch-cases c d) [ inl e ↦ inl (ap (λ (k : LatchKey). Latch k) e) | inr ne ↦ inr (λ e. ne cc) ]
offer-cases Always Always = inl refl
offer-cases a b = inr (λ e. absurd cc)

-- the line of each offer has what that of this offer has, or what it had
pub line-cases : (old new : Offer → List Waiting) (offer : Offer) → ChangesOnly old new offer → (o : Offer) → (o ≡ offer) ⊎ ((o ≢ offer) × (new o ≡ old o))
line-cases old new offer c o = elim (offer-cases o offer) [ inl e ↦ inl e | inr ne ↦ inr (ne, c o ne) ]

-- one sync waits in a slot
pub once : (places : List (Option Sync)) (i : ℕ) (a b : Sync) → WaitsAt places i a → WaitsAt places i b → a ≡ b
once places i a b x y = same_Some _ _ (same_Some _ _ (sym x ∙ y))

pub offers-live : (places : List (Option Sync)) (i own g : ℕ) (o : Offer) (e : Waiting) → OffersAt places i own o g → e.who.place ≡ i → e.ticket ≡ g → lives places e ≡ true
offers-live places i own g o e x is age =
    let w : WaitsAt places e.who.place (record { generation = e.ticket; offers = x.offers }) =
    subst (λ (n : ℕ). WaitsAt places n (record { generation = e.ticket; offers = x.offers })) (sym is) (subst (λ (n : ℕ). WaitsAt places i (record { generation = n; offers = x.offers })) (sym age) x.waits) in
    waits-lives places e x.offers w

-- each that waits now waited before
abbrev pub FewerAt : List (Option Sync) → List (Option Sync) → Type 0
FewerAt old new = (i : ℕ) (sync : Sync) → WaitsAt new i sync → WaitsAt old i sync

pub offers-fewer : (old new : List (Option Sync)) (i own g : ℕ) (o : Offer) → FewerAt old new → OffersAt new i own o g → OffersAt old i own o g
offers-fewer old new i own g o fewer x = record { offers = x.offers; waits = fewer i _ x.waits; at = x.at }

pub lives-fewer : (old new : List (Option Sync)) (e : Waiting) → FewerAt old new → lives new e ≡ true → lives old e ≡ true
lives-fewer old new e fewer h = let w = lives-waits new e h in waits-lives old e w.0 (fewer e.who.place _ w.1)

-- what was right of a sync that still waits is right
pub right-fewer : (old new : List (Option Sync)) (e : Waiting) (o : Offer) → FewerAt old new → lives new e ≡ true → OffersAt old e.who.place e.who.own o e.ticket → OffersAt new e.who.place e.who.own o e.ticket
right-fewer old new e o fewer h x =
    let w = lives-waits new e h in
    let same = once old e.who.place _ _ x.waits (fewer e.who.place _ w.1) in
    record { offers = w.0; waits = w.1; at = subst (λ (s : Sync). slice_get s.offers e.who.own ≡ Some o) same x.at }

-- some syncs left, and with them that of the slot whose offers were not all listed
pub lined-left : (old new : List (Option Sync)) (next : ℕ) (ls : Offer → List Waiting) (index from j k : ℕ) → FewerAt old new → ((sync : Sync) → WaitsAt new index sync → ⊥) → Lined old next ls index from → Lined new next ls j k
lined-left old new next ls index from j k fewer gone l = record {
  listed = λ i own g o x unlisted. l.listed i own g o (offers-fewer old new i own g o fewer x) (λ is. absurd (gone _ (subst (λ (n : ℕ). WaitsAt new n (record { generation = g; offers = x.offers })) is x.waits)));
  right = λ o e h live. right-fewer old new e o fewer live (l.right o e h (lives-fewer old new e fewer live));
  ordered = l.ordered;
  older = l.older;
}

pub lined-older : (places : List (Option Sync)) (next later : ℕ) (ls : Offer → List Waiting) (index from : ℕ) → next ≤ later → Lined places next ls index from → Lined places later ls index from
lined-older places next later ls index from le l = record {
  listed = l.listed;
  right = l.right;
  ordered = l.ordered;
  older = λ o e h. let was = l.older o e h in omega arith;
}

pub lined-same : (places : List (Option Sync)) (next : ℕ) (old new : Offer → List Waiting) (index from : ℕ) → ((o : Offer) → new o ≡ old o) → Lined places next old index from → Lined places next new index from
lined-same places next old new index from same l = record {
  listed = λ i own g o x listed. subst (λ (es : List Waiting). IsIn es (record { ticket = g; who = record { place = i; own = own } })) (sym (same o)) (l.listed i own g o x listed);
  right = λ o e h live. l.right o e (subst (λ (es : List Waiting). IsIn es e) (same o) h) live;
  ordered = λ o. subst (λ (es : List Waiting). IsOrdered 0 es) (sym (same o)) (l.ordered o);
  older = λ o e h. l.older o e (subst (λ (es : List Waiting). IsIn es e) (same o) h);
}

-- a line was sifted
pub lined-sifts : (places : List (Option Sync)) (next : ℕ) (old new : Offer → List Waiting) (offer : Offer) (index from : ℕ) → ChangesOnly old new offer → Sifts places (old offer) (new offer)
    → Lined places next old index from → Lined places next new index from
lined-sifts places next old new offer index from only sifts l =
    let from-line : (o : Offer) (e : Waiting) → IsIn (new o) e → IsIn (old o) e = λ o e h.
    elim (line-cases old new offer only o) [
      | inl is ↦ subst (λ (p : Offer). IsIn (old p) e) (sym is) (sifts.from e (subst (λ (p : Offer). IsIn (new p) e) is h))
      | inr other ↦ subst (λ (es : List Waiting). IsIn es e) other.1 h
    ] in
    record {
      listed = λ i own g o x listed.
          let e : Waiting = record { ticket = g; who = record { place = i; own = own } } in
          let was = l.listed i own g o x listed in
          elim (line-cases old new offer only o) [
            | inl is ↦ subst (λ (p : Offer). IsIn (new p) e) (sym is) (sifts.live e (subst (λ (p : Offer). IsIn (old p) e) is was) (offers-live places i own g o e x refl refl))
            | inr other ↦ subst (λ (es : List Waiting). IsIn es e) (sym other.1) was
          ];
      right = λ o e h live. l.right o e (from-line o e h) live;
      ordered = λ o.
          elim (line-cases old new offer only o) [
            | inl is ↦ subst (λ (p : Offer). IsOrdered 0 (new p)) (sym is) (sifts.order 0 (l.ordered offer))
            | inr other ↦ subst (λ (es : List Waiting). IsOrdered 0 es) (sym other.1) (l.ordered o)
          ];
      older = λ o e h. l.older o e (from-line o e h);
    }

-- the next offer of the sync in the slot was listed
pub lined-adds : (places : List (Option Sync)) (g : ℕ) (old new : Offer → List Waiting) (offers : List Offer) (offer : Offer) (index own : ℕ) → WaitsAt places index (record { generation = g; offers = offers })
    → slice_get offers own ≡ Some offer → ChangesOnly old new offer → Adds places (old offer) (new offer) (record { ticket = g; who = record { place = index; own = own } })
    → Lined places (g + 1) old index own → Lined places (g + 1) new index (own + 1)
lined-adds places g old new offers offer index own waits at only adds l =
    let entry : Waiting = record { ticket = g; who = record { place = index; own = own } } in
    let here : OffersAt places index own offer g = record { offers = offers; waits = waits; at = at } in
    let from-line : (o : Offer) (e : Waiting) → IsIn (new o) e → IsIn (old o) e ⊎ ((o ≡ offer) × (entry ≡ e)) = λ o e h.
    elim (line-cases old new offer only o) [
      | inl is ↦ elim (in-append adds.left (entry ∷ []) e (subst (λ (es : List Waiting). IsIn es e) adds.parts (subst (λ (p : Offer). IsIn (new p) e) is h))) [
        | inl was ↦ inl (subst (λ (p : Offer). IsIn (old p) e) (sym is) (adds.sifts.from e was))
        | inr last ↦ elim last [ inl same ↦ inr (is, same) | inr none ↦ absurd none ]
      ]
      | inr other ↦ inl (subst (λ (es : List Waiting). IsIn es e) other.1 h)
    ] in
    record {
      listed = λ i j age o x listed.
          let e : Waiting = record { ticket = age; who = record { place = i; own = j } } in
          elim (line-cases old new offer only o) [
            | inl is ↦
                subst (λ (p : Offer). IsIn (new p) e) (sym is) (subst (λ (es : List Waiting). IsIn es e) (sym adds.parts)
                (elim (cases_eq i index) [
                  | inl same ↦ elim (cases_eq j own) [
                    | inl own_same ↦
                        let one = once places i _ _ x.waits (subst (λ (n : ℕ). WaitsAt places n (record { generation = g; offers = offers })) (sym same) waits) in
                        let ages : age ≡ g = ap (λ (s : Sync). s.generation) one in
                        let is_entry : entry ≡ e = cc in
                        in-right adds.left (entry ∷ []) e (inl is_entry)
                    | inr other ↦
                        in-left adds.left (entry ∷ []) e (adds.sifts.live e (subst (λ (p : Offer). IsIn (old p) e) is (l.listed i j age o x (λ s. let lt = listed s in omega arith))) (offers-live places i j age o e x refl refl))
                  ]
                  | inr apart ↦
                      in-left adds.left (entry ∷ []) e (adds.sifts.live e (subst (λ (p : Offer). IsIn (old p) e) is (l.listed i j age o x (λ s. absurd (apart s)))) (offers-live places i j age o e x refl refl))
                ]))
            | inr other ↦
                subst (λ (es : List Waiting). IsIn es e) (sym other.1) (l.listed i j age o x (λ s.
                elim (cases_eq j own) [
                  | inl own_same ↦
                      let one = once places i _ _ x.waits (subst (λ (n : ℕ). WaitsAt places n (record { generation = g; offers = offers })) (sym s) waits) in
                      let there : slice_get offers j ≡ Some o = subst (λ (y : Sync). slice_get y.offers j ≡ Some o) one x.at in
                      absurd (other.0 (same_Some _ _ (sym there ∙ (ap (λ (n : ℕ). slice_get offers n) own_same ∙ at))))
                  | inr apart ↦ let lt = listed s in omega arith
                ]))
          ];
      right = λ o e h live.
          elim (from-line o e h) [
            | inl was ↦ l.right o e was live
            | inr new ↦ subst (λ (y : Waiting). OffersAt places y.who.place y.who.own o y.ticket) new.1 (subst (λ (p : Offer). OffersAt places index own p g) (sym new.0) here)
          ];
      ordered = λ o.
          elim (line-cases old new offer only o) [
            | inl is ↦
                subst (λ (p : Offer). IsOrdered 0 (new p)) (sym is) (subst (λ (es : List Waiting). IsOrdered 0 es) (sym adds.parts)
                (ordered-push 0 adds.left entry (adds.sifts.order 0 (l.ordered offer)) (omega arith) (λ x h. let was = l.older offer x (adds.sifts.from x h) in omega arith)))
            | inr other ↦ subst (λ (es : List Waiting). IsOrdered 0 es) (sym other.1) (l.ordered o)
          ];
      older = λ o e h.
          elim (from-line o e h) [
            | inl was ↦ l.older o e was
            | inr new ↦ let age = ap (λ (y : Waiting). y.ticket) new.1 in omega arith
          ];
    }

-- the first of a line was taken, and its sync left
pub lined-taken : (places left : List (Option Sync)) (next : ℕ) (old new : Offer → List Waiting) (offer : Offer) (e : Waiting) (index from j k : ℕ) → ChangesOnly old new offer → IsFirstLive places (old offer) (new offer) e
    → FewerAt places left → ((sync : Sync) → WaitsAt left e.who.place sync → ⊥) → ((sync : Sync) → WaitsAt places index sync → ⊥) → Lined places next old index from → Lined left next new j k
lined-taken places left next old new offer e index from j k only first fewer gone none l =
    let from-line : (o : Offer) (x : Waiting) → IsIn (new o) x → IsIn (old o) x = λ o x h.
    elim (line-cases old new offer only o) [
      | inl is ↦
          subst (λ (p : Offer). IsIn (old p) x) (sym is) (subst (λ (es : List Waiting). IsIn es x) (sym first.parts)
          (in-right first.dead (e ∷ new offer) x (inr (subst (λ (p : Offer). IsIn (new p) x) is h))))
      | inr other ↦ subst (λ (es : List Waiting). IsIn es x) other.1 h
    ] in
    record {
      listed = λ i own g o x listed.
          let y : Waiting = record { ticket = g; who = record { place = i; own = own } } in
          let before = offers-fewer places left i own g o fewer x in
          let was = l.listed i own g o before (λ is. absurd (none _ (subst (λ (n : ℕ). WaitsAt places n (record { generation = g; offers = before.offers })) is before.waits))) in
          elim (line-cases old new offer only o) [
            | inl is ↦
                subst (λ (p : Offer). IsIn (new p) y) (sym is)
                (elim (in-append first.dead (e ∷ new offer) y (subst (λ (es : List Waiting). IsIn es y) first.parts (subst (λ (p : Offer). IsIn (old p) y) is was))) [
                  | inl dead ↦ absurd (false≢true (sym (first.all_dead y dead) ∙ offers-live places i own g o y before refl refl))
                  | inr rest ↦ elim rest [
                    | inl same ↦ absurd (gone _ (subst (λ (n : ℕ). WaitsAt left n (record { generation = g; offers = x.offers })) (sym (ap (λ (z : Waiting). z.who.place) same)) x.waits))
                    | inr later ↦ later
                  ]
                ])
            | inr other ↦ subst (λ (es : List Waiting). IsIn es y) (sym other.1) was
          ];
      right = λ o x h live. right-fewer places left x o fewer live (l.right o x (from-line o x h) (lives-fewer places left x fewer live));
      ordered = λ o.
          elim (line-cases old new offer only o) [
            | inl is ↦
                subst (λ (p : Offer). IsOrdered 0 (new p)) (sym is)
                (ordered-rest 0 (e ∷ []) (new offer) (ordered-rest 0 first.dead (e ∷ new offer) (subst (λ (es : List Waiting). IsOrdered 0 es) first.parts (l.ordered offer))))
            | inr other ↦ subst (λ (es : List Waiting). IsOrdered 0 es) (sym other.1) (l.ordered o)
          ];
      older = λ o x h. l.older o x (from-line o x h);
    }

-- nobody waits with the offer
pub lined-none : (places : List (Option Sync)) (next : ℕ) (old new : Offer → List Waiting) (offer : Offer) (index from : ℕ) → ChangesOnly old new offer → Pops places (old offer) (new offer) None
    → Lined places next old index from → Lined places next new index from
lined-none places next old new offer index from only none l =
    lined-sifts places next old new offer index from only
    (record {
      from = λ e h. absurd (subst (λ (es : List Waiting). IsIn es e) none.0 h);
      live = λ e h live. absurd (false≢true (sym (none.1 e h) ∙ live));
      order = λ low h. subst (λ (es : List Waiting). IsOrdered low es) (sym none.0) tt;
    }) l

-- lines were emptied of offers with which nobody waits
pub lined-cleared : (places : List (Option Sync)) (next : ℕ) (old new : Offer → List Waiting) (index from : ℕ) → ((o : Offer) → (new o ≡ old o) ⊎ ((new o ≡ []) × ((i own g : ℕ) → OffersAt places i own o g → ⊥)))
    → Lined places next old index from → Lined places next new index from
lined-cleared places next old new index from cases l =
    let from-line : (o : Offer) (e : Waiting) → IsIn (new o) e → IsIn (old o) e = λ o e h.
    elim (cases o) [
      | inl same ↦ subst (λ (es : List Waiting). IsIn es e) same h
      | inr none ↦ absurd (subst (λ (es : List Waiting). IsIn es e) none.0 h)
    ] in
    record {
      listed = λ i own g o x listed.
          elim (cases o) [
            | inl same ↦ subst (λ (es : List Waiting). IsIn es (record { ticket = g; who = record { place = i; own = own } })) (sym same) (l.listed i own g o x listed)
            | inr none ↦ absurd (none.1 i own g x)
          ];
      right = λ o e h live. l.right o e (from-line o e h) live;
      ordered = λ o.
          elim (cases o) [
            | inl same ↦ subst (λ (es : List Waiting). IsOrdered 0 es) (sym same) (l.ordered o)
            | inr none ↦ subst (λ (es : List Waiting). IsOrdered 0 es) (sym none.0) tt
          ];
      older = λ o e h. l.older o e (from-line o e h);
    }

-- A SYNC COMES

pub lined-filled : (old new : List (Option Sync)) (g : ℕ) (ls : Offer → List Waiting) (index k : ℕ) (offers : List Offer) → ((i : ℕ) (sync : Sync) → i ≢ index → WaitsAt new i sync → WaitsAt old i sync)
    → WaitsAt new index (record { generation = g; offers = offers }) → ((sync : Sync) → WaitsAt old k sync → ⊥) → Lined old g ls k 0 → Lined new (g + 1) ls index 0
lined-filled old new g ls index k offers before here none l = record {
  listed = λ i own age o x listed.
      elim (cases_eq i index) [
        | inl e ↦ let lt = listed e in absurd (omega arith)
        | inr ne ↦
            let was = before i _ ne x.waits in
            l.listed i own age o (record { offers = x.offers; waits = was; at = x.at }) (λ is. absurd (none _ (subst (λ (n : ℕ). WaitsAt old n (record { generation = age; offers = x.offers })) is was)))
      ];
  right = λ o e h live.
      let w = lives-waits new e live in
      elim (cases_eq e.who.place index) [
        | inl is ↦
            let same = once new index _ _ (subst (λ (n : ℕ). WaitsAt new n (record { generation = e.ticket; offers = w.0 })) is w.1) here in
            let age : e.ticket ≡ g = ap (λ (s : Sync). s.generation) same in
            let lt = l.older o e h in absurd (omega arith)
        | inr ne ↦
            let was = before e.who.place _ ne w.1 in
            let x = l.right o e h (waits-lives old e w.0 was) in
            let same = once old e.who.place _ _ x.waits was in
            record { offers = w.0; waits = w.1; at = subst (λ (s : Sync). slice_get s.offers e.who.own ≡ Some o) same x.at }
      ];
  ordered = l.ordered;
  older = λ o e h. let lt = l.older o e h in omega arith;
}

-- past the last place nobody waits
pub none-past : (places : List (Option Sync)) (sync : Sync) → WaitsAt places (length places) sync → ⊥
none-past places sync w = let lt = slice_get_within places (length places) _ w in omega arith

-- all offers of the sync in the place are listed
pub lined-full : (places : List (Option Sync)) (next : ℕ) (ls : Offer → List Waiting) (index g : ℕ) (offers : List Offer) → WaitsAt places index (record { generation = g; offers = offers }) → Lined places next ls index (length offers)
    → Lined places next ls (length places) 0
lined-full places next ls index g offers here l = record {
  listed = λ i own age o x listed. l.listed i own age o x (λ is.
      let same = once places index _ _ (subst (λ (n : ℕ). WaitsAt places n (record { generation = age; offers = x.offers })) is x.waits) here in
      slice_get_within offers own o (subst (λ (s : Sync). slice_get s.offers own ≡ Some o) same x.at));
  right = l.right;
  ordered = l.ordered;
  older = l.older;
}
