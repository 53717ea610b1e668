-- Schedules: one step more, the first step that is refused, and that a schedule has one answer.
use Rattle.std.proofs.Common.{◌≡◌, ℕ, suc, ◌+◌, ◌<◌, List, [], ◌∷◌, ◌++◌, length, get_or, take, drop, sym, refl, ap, ◌∙◌, subst, arith}
use Rattle.std.proofs.lemmas.List.{take_more, drop_more, take-append-drop, length-take-le}
use Rattle.protocol_values.specs.declared.Seat.{Seat}
use Rattle.protocol_values.specs.declared.Step.{Step}
use Rattle.protocol_ledger.specs.Worlds.{World, Allowed, after_step, Plays, IsRefused}

pub plays_more : (w v : World) (xs : List (Seat × Step)) (s : Seat × Step) → Plays w xs v → Allowed v s.0 s.1 → Plays w (xs ++ s ∷ []) (after_step v s.0 s.1)
plays_more w v [] s p a = (subst (λ (u : World). Allowed u s.0 s.1) p a, ap (λ (u : World). after_step u s.0 s.1) p)
plays_more w v (x ∷ xs) s p a = (p.0, plays_more (after_step w x.0 x.1) v xs s p.1 a)

-- what is played leads to one world
pub plays_one : (w u v : World) (xs : List (Seat × Step)) → Plays w xs u → Plays w xs v → u ≡ v
plays_one w u v [] p q = p ∙ sym q
plays_one w u v (x ∷ xs) p q = plays_one (after_step w x.0 x.1) u v xs p.1 q.1

-- a schedule that is played is refused nowhere
played_on : (w v u : World) (front : List (Seat × Step)) (s : Seat × Step) (back : List (Seat × Step)) → Plays w (front ++ s ∷ back) v → Plays w front u → Allowed u s.0 s.1
played_on w v u [] s back p q = subst (λ (x : World). Allowed x s.0 s.1) (sym q) p.0
played_on w v u (x ∷ xs) s back p q = played_on (after_step w x.0 x.1) v u xs s back p.1 q.1

pub played_not_refused : (w v : World) (xs : List (Seat × Step)) (index : ℕ) → Plays w xs v → IsRefused w xs index → ⊥
played_not_refused w v xs index p r =
    r.refused (played_on w v r.world r.before r.step r.behind (subst (λ (ys : List (Seat × Step)). Plays w ys v) r.is p) r.played)

-- the loop's next step, with a default for the element that is read
pub plays_next : (w v u : World) (xs : List (Seat × Step)) (i : ℕ) (d : Seat × Step) → i < length xs → Plays w (take i xs) v → Allowed v (get_or xs i d).0 (get_or xs i d).1 × (u ≡ after_step v (get_or xs i d).0 (get_or xs i d).1) → Plays w (take (i + 1) xs) u
plays_next w v u xs i d h p a =
    subst (λ (z : List (Seat × Step) × World). Plays w z.0 z.1) (λ j. (sym (take_more xs i d h) j, sym a.1 j)) (plays_more w v (take i xs) (get_or xs i d) p a.0)

pub refused_at : (w v : World) (xs : List (Seat × Step)) (i : ℕ) (d : Seat × Step) → i < length xs → Plays w (take i xs) v → ¬ Allowed v (get_or xs i d).0 (get_or xs i d).1 → IsRefused w xs i
refused_at w v xs i d h p a = record {
  before = take i xs;
  step = get_or xs i d;
  behind = drop (i + 1) xs;
  is = sym (take-append-drop i xs) ∙ ap (λ (ys : List (Seat × Step)). take i xs ++ ys) (drop_more xs i d h);
  count = length-take-le i xs (omega arith);
  world = v;
  played = p;
  refused = a;
}

-- a schedule is refused at one step
one_refusal : (w u v : World) (f g : List (Seat × Step)) (s t : Seat × Step) (x y : List (Seat × Step)) → f ++ s ∷ x ≡ g ++ t ∷ y → Plays w f u → Plays w g v → ¬ Allowed u s.0 s.1 → ¬ Allowed v t.0 t.1 → length f ≡ length g
one_refusal w u v [] [] s t x y e p q a b = refl
one_refusal w u v [] (h ∷ g) s t x y e p q a b =
    let same : s ≡ h = cc in
    absurd (a (subst (λ (z : World × (Seat × Step)). Allowed z.0 z.1.0 z.1.1) (λ i. (sym p i, sym same i)) q.0))
one_refusal w u v (h ∷ f) [] s t x y e p q a b =
    let same : t ≡ h = cc in
    absurd (b (subst (λ (z : World × (Seat × Step)). Allowed z.0 z.1.0 z.1.1) (λ i. (sym q i, sym same i)) p.0))
one_refusal w u v (h ∷ f) (k ∷ g) s t x y e p q a b =
    let same : h ≡ k = cc in
    let rest : f ++ s ∷ x ≡ g ++ t ∷ y = cc in
    let next : after_step w h.0 h.1 ≡ after_step w k.0 k.1 = ap (λ (z : Seat × Step). after_step w z.0 z.1) same in
    ap suc (one_refusal (after_step w h.0 h.1) u v f g s t x y rest p.1 (subst (λ (z : World). Plays z g v) (sym next) q.1) a b)

pub one_refused : (w : World) (xs : List (Seat × Step)) (i j : ℕ) → IsRefused w xs i → IsRefused w xs j → i ≡ j
one_refused w xs i j r s =
    sym r.count ∙ one_refusal w r.world s.world r.before s.before r.step s.step r.behind s.behind (sym r.is ∙ s.is) r.played s.played r.refused s.refused ∙ s.count
