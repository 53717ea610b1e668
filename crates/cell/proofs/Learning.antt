-- What is learnt in two calls, and of more rows.
use Rattle.std.proofs.Common.{inl, rules, ℕ, ◌≡◌, ◌∷◌, ◌⊎◌, List, ap, sym, refl, ◌∙◌, inr, ⊎_elim}
use Rattle.protocol_values.specs.declared.NackName.{NackName}
use Rattle.protocol_values.specs.declared.Binding.{Binding}
use Rattle.protocol_values.specs.declared.NackWord.{NackWord}
use Rattle.protocol_values.specs.declared.NackWord.TheVariants.{Bound, Carried, Unbound}
use Rattle.protocol_values.specs.declared.Row.{Row}
use Rattle.cell_table.specs.declared.view.Seen.{Seen}
use Rattle.cell_table.specs.Sight.{Has, Adds, Learns, LearnsOf, see_bound, see_carried, see_cell, see_course}
use Rattle.cell_table.specs.declared.view.View.{View}
use Rattle.cell_table.specs.Views.{saw_nack}
use Rattle.protocol_values.specs.declared.Course.{Course}
use Rattle.protocol_values.specs.declared.Course.TheVariants.{Unstarted, Running, Ended}
use Rattle.protocol_values.specs.declared.Cell.{Cell}
use Rattle.protocol_values.specs.declared.Cell.TheVariants.{Fresh, Waiting, Claimed, Synched, Taken}

adds_then : {A : Type 0} (About : A → Type 0) (xs ys zs : List A) → Adds About xs ys → Adds About ys zs → Adds About xs zs
adds_then About xs ys zs f g = (λ x h. g.0 x (f.0 x h), λ x h. ⊎_elim (λ (i : Has ys x). f.1 x i) (λ (a : About x). inr a) (g.1 x h))

pub learns_then : {Nacks : NackName → Type 0} {Lives : ℕ → Type 0} (About : Row → Type 0) (s t u : Seen) → LearnsOf About Nacks Lives s t → LearnsOf About Nacks Lives t u → LearnsOf About Nacks Lives s u
learns_then {Nacks} {Lives} About s t u f g = record {
  held = g.held ∙ f.held;
  drafts = g.drafts ∙ f.drafts;
  lasts = g.lasts ∙ f.lasts;
  opened = adds_then About s.opened t.opened u.opened f.opened g.opened;
  words = adds_then (λ x. About x.0) s.words t.words u.words f.words g.words;
  joined = adds_then (λ x. About x.0) s.joined t.joined u.joined f.joined g.joined;
  taken = adds_then About s.taken t.taken u.taken f.taken g.taken;
  bound = adds_then (λ x. Nacks x.0) s.bound t.bound u.bound f.bound g.bound;
  carried = adds_then (λ x. Nacks x.0) s.carried t.carried u.carried f.carried g.carried;
  begun = g.begun ∙ f.begun;
  started = adds_then (λ x. Lives x.0) s.started t.started u.started f.started g.started;
  ended = adds_then (λ x. Lives x.0) s.ended t.ended u.ended f.ended g.ended;
}

-- what is learnt of some rows is learnt of more
adds_wider : {A : Type 0} (About About' : A → Type 0) (xs ys : List A) → ((x : A) → About x → About' x) → Adds About xs ys → Adds About' xs ys
adds_wider About About' xs ys w f = (f.0, λ x h. ⊎_elim (λ (i : Has xs x). inl i) (λ (a : About x). inr (w x a)) (f.1 x h))

pub learns_wider : {Nacks : NackName → Type 0} {Lives : ℕ → Type 0} (About About' : Row → Type 0) (s t : Seen) → ((r : Row) → About r → About' r) → LearnsOf About Nacks Lives s t → LearnsOf About' Nacks Lives s t
learns_wider About About' s t w l = record {
  held = l.held;
  drafts = l.drafts;
  lasts = l.lasts;
  opened = adds_wider About About' s.opened t.opened w l.opened;
  words = adds_wider (λ x. About x.0) (λ x. About' x.0) s.words t.words (λ x. w x.0) l.words;
  joined = adds_wider (λ x. About x.0) (λ x. About' x.0) s.joined t.joined (λ x. w x.0) l.joined;
  taken = adds_wider About About' s.taken t.taken w l.taken;
  bound = l.bound;
  carried = l.carried;
  begun = l.begun;
  started = l.started;
  ended = l.ended;
}

-- and of more nacks
pub nacks_wider : {Lives : ℕ → Type 0} (About : Row → Type 0) (Nacks Nacks' : NackName → Type 0) (s t : Seen) → ((n : NackName) → Nacks n → Nacks' n) → LearnsOf About Nacks Lives s t → LearnsOf About Nacks' Lives s t
nacks_wider About Nacks Nacks' s t w l = record {
  held = l.held;
  drafts = l.drafts;
  lasts = l.lasts;
  opened = l.opened;
  words = l.words;
  joined = l.joined;
  taken = l.taken;
  bound = adds_wider (λ x. Nacks x.0) (λ x. Nacks' x.0) s.bound t.bound (λ x. w x.0) l.bound;
  carried = adds_wider (λ x. Nacks x.0) (λ x. Nacks' x.0) s.carried t.carried (λ x. w x.0) l.carried;
  begun = l.begun;
  started = l.started;
  ended = l.ended;
}

-- and of more lives
pub lives_wider : {Nacks : NackName → Type 0} (About : Row → Type 0) (Lives Lives' : ℕ → Type 0) (s t : Seen) → ((p : ℕ) → Lives p → Lives' p) → LearnsOf About Nacks Lives s t → LearnsOf About Nacks Lives' s t
lives_wider About Lives Lives' s t w l = record {
  held = l.held;
  drafts = l.drafts;
  lasts = l.lasts;
  opened = l.opened;
  words = l.words;
  joined = l.joined;
  taken = l.taken;
  bound = l.bound;
  carried = l.carried;
  begun = l.begun;
  started = adds_wider (λ x. Lives x.0) (λ x. Lives' x.0) s.started t.started (λ x. w x.0) l.started;
  ended = adds_wider (λ x. Lives x.0) (λ x. Lives' x.0) s.ended t.ended (λ x. w x.0) l.ended;
}

-- nothing is learnt
pub learns_nothing : (About : Row → Type 0) (Nacks : NackName → Type 0) (Lives : ℕ → Type 0) (s : Seen) → LearnsOf About Nacks Lives s s
learns_nothing About Nacks Lives s = record {
  held = refl;
  drafts = refl;
  lasts = refl;
  opened = ((λ x h. h), λ x h. inl h);
  words = ((λ x h. h), λ x h. inl h);
  joined = ((λ x h. h), λ x h. inl h);
  taken = ((λ x h. h), λ x h. inl h);
  bound = ((λ x h. h), λ x h. inl h);
  carried = ((λ x h. h), λ x h. inl h);
  begun = refl;
  started = ((λ x h. h), λ x h. inl h);
  ended = ((λ x h. h), λ x h. inl h);
}

only_its : (p n : ℕ) (xs : List (ℕ × ℕ)) (x : ℕ × ℕ) → Has ((p, n) ∷ xs) x → Has xs x ⊎ (x.0 ≡ p)
only_its p n xs x (inl e) = inr (ap (λ (z : ℕ × ℕ). z.0) (sym e))
only_its p n xs x (inr h) = inl h

-- a nack is seen bound
pub learns_bound : (n : NackName) (b : Binding) (s : Seen) → LearnsOf (λ q. ⊥) (λ m. m ≡ n) (λ p. ⊥) s (see_bound n b s)
learns_bound n b s = record {
  held = refl;
  drafts = refl;
  lasts = refl;
  opened = ((λ x h. h), λ x h. inl h);
  words = ((λ x h. h), λ x h. inl h);
  joined = ((λ x h. h), λ x h. inl h);
  taken = ((λ x h. h), λ x h. inl h);
  bound = ((λ x h. inr h), λ x h. only x h);
  carried = ((λ x h. h), λ x h. inl h);
  begun = refl;
  started = ((λ x h. h), λ x h. inl h);
  ended = ((λ x h. h), λ x h. inl h);
}
  where
    only : (x : NackName × Binding) → Has ((n, b) ∷ s.bound) x → Has s.bound x ⊎ (x.0 ≡ n)
    only x (inl e) = inr (ap (λ (z : NackName × Binding). z.0) (sym e))
    only x (inr h) = inl h

-- or carried
pub learns_carried : (n : NackName) (stamp : ℕ) (s : Seen) → LearnsOf (λ q. ⊥) (λ m. m ≡ n) (λ p. ⊥) s (see_carried n stamp s)
learns_carried n stamp s = record {
  held = refl;
  drafts = refl;
  lasts = refl;
  opened = ((λ x h. h), λ x h. inl h);
  words = ((λ x h. h), λ x h. inl h);
  joined = ((λ x h. h), λ x h. inl h);
  taken = ((λ x h. h), λ x h. inl h);
  bound = ((λ x h. h), λ x h. inl h);
  carried = ((λ x h. inr h), λ x h. only x h);
  begun = refl;
  started = ((λ x h. h), λ x h. inl h);
  ended = ((λ x h. h), λ x h. inl h);
}
  where
    only : (x : NackName × ℕ) → Has ((n, stamp) ∷ s.carried) x → Has s.carried x ⊎ (x.0 ≡ n)
    only x (inl e) = inr (ap (λ (z : NackName × ℕ). z.0) (sym e))
    only x (inr h) = inl h

module _ {M : Type 0} where
  pub learns_nack : (n : NackName) (says : NackWord) (v : View M) → LearnsOf (λ q. ⊥) (λ m. m ≡ n) (λ p. ⊥) v.seen (saw_nack n says v).seen
  learns_nack n Unbound v = learns_nothing (λ q. ⊥) (λ m. m ≡ n) (λ p. ⊥) v.seen
  learns_nack n (Bound b) v = learns_bound n b v.seen
  learns_nack n (Carried stamp) v = learns_carried n stamp v.seen

-- a look adds what it finds of its row
pub learns_look : (r : Row) (c : Cell) (s : Seen) → Learns (λ q. q ≡ r) s (see_cell r c s)
learns_look r Fresh s = search rules
learns_look r Waiting s = search rules
learns_look r Claimed s = search rules
learns_look r (Synched j) s = search rules
learns_look r (Taken j) s = search rules

-- the thread was seen so on its course
pub learns_course : (p : ℕ) (c : Course) (s : Seen) → LearnsOf (λ q. ⊥) (λ n. ⊥) (λ t. t ≡ p) s (see_course p c s)
learns_course p Unstarted s = learns_nothing (λ q. ⊥) (λ n. ⊥) (λ t. t ≡ p) s
learns_course p (Running start) s = record {
  held = refl;
  drafts = refl;
  lasts = refl;
  opened = ((λ x h. h), λ x h. inl h);
  words = ((λ x h. h), λ x h. inl h);
  joined = ((λ x h. h), λ x h. inl h);
  taken = ((λ x h. h), λ x h. inl h);
  bound = ((λ x h. h), λ x h. inl h);
  carried = ((λ x h. h), λ x h. inl h);
  begun = refl;
  started = ((λ x h. inr h), λ x h. only_its p start s.started x h);
  ended = ((λ x h. h), λ x h. inl h);
}
learns_course p (Ended start sync) s = record {
  held = refl;
  drafts = refl;
  lasts = refl;
  opened = ((λ x h. h), λ x h. inl h);
  words = ((λ x h. h), λ x h. inl h);
  joined = ((λ x h. h), λ x h. inl h);
  taken = ((λ x h. h), λ x h. inl h);
  bound = ((λ x h. h), λ x h. inl h);
  carried = ((λ x h. h), λ x h. inl h);
  begun = refl;
  started = ((λ x h. inr h), λ x h. only_its p start s.started x h);
  ended = ((λ x h. inr h), λ x h. only_its p sync s.ended x h);
}
