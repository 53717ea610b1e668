-- What the rule allows a pass at its directory.
use Rattle.std.proofs.Common.{ℕ, ◌+◌, ◌<◌, ◌≤◌, subst, sym, max, bit_or, arith}
use mathlib.Core.Option.{none}
use Rattle.atomic_table.specs.Table.{Allows, step, Splits, Joins}
use Rattle.atomic_table.specs.declared.shared.Seat.{Seat}
use Rattle.meet_directory.specs.declared.directory.Directory.{Directory}
use Rattle.meet_directory.specs.declared.view.View.{View}
use Rattle.meet_directory.specs.Directory.{Keeps, heard, nothing, has_glanced, has_marked, has_seen}
use Rattle.meet_directory.proofs.Keeping.{see_allowed, glance_allowed, mark_allowed, raises, sets, tell_allowed, hear_allowed, enter_allowed}

module _ (b : Directory) where
  pub within : (i : ℕ) → i < 64 + b.sides → i < b.words.shared.table_id.words
  within i h = subst (λ (n : ℕ). i < n) (sym b.sized) h

  pub some_words : 0 < b.words.shared.table_id.words
  some_words = within 0 (omega arith)

  module _ (p : Seat (Unit {0}) View) where
    slots : ℕ
    slots = b.words.shared.table_id.slots

    pub sees : (i : ℕ) → i < 64 + b.sides → Allows (Keeps b.words.shared.key) b.words.shared.table_id.slots p.id p.me i (λ n. n) (has_seen (step b.words.shared.table_id.slots i 0 0 none) p.me)
    sees i h = subst (λ (z : ℕ). Allows (Keeps z) b.words.shared.table_id.slots p.id p.me i (λ n. n) (has_seen (step b.words.shared.table_id.slots i 0 0 none) p.me)) (sym b.keyed) (see_allowed b.sides b.words.shared.table_id.slots p.id p.me i h)

    pub glances : (i : ℕ) → i < 64 + b.sides → Allows (Keeps b.words.shared.key) b.words.shared.table_id.slots p.id p.me i (λ n. n) (has_glanced (step b.words.shared.table_id.slots i 0 0 none) p.me)
    glances i h = subst (λ (z : ℕ). Allows (Keeps z) b.words.shared.table_id.slots p.id p.me i (λ n. n) (has_glanced (step b.words.shared.table_id.slots i 0 0 none) p.me)) (sym b.keyed) (glance_allowed b.sides b.words.shared.table_id.slots p.id p.me i h)

    pub raises_it : (i k : ℕ) → i < 64 → Allows (Keeps b.words.shared.key) b.words.shared.table_id.slots p.id p.me i (λ n. max n k) (has_marked (step b.words.shared.table_id.slots i k 0 none) p.me)
    raises_it i k h = let r = raises i k h in subst (λ (z : ℕ). Allows (Keeps z) b.words.shared.table_id.slots p.id p.me i (λ n. max n k) (has_marked (step b.words.shared.table_id.slots i k 0 none) p.me)) (sym b.keyed)
        (mark_allowed b.sides b.words.shared.table_id.slots p.id p.me i k (λ n. max n k) (omega arith) r.0 r.1)

    pub sets_it : (i k : ℕ) → 64 ≤ i → i < 64 + b.sides → Allows (Keeps b.words.shared.key) b.words.shared.table_id.slots p.id p.me i (λ n. bit_or n k) (has_marked (step b.words.shared.table_id.slots i k 0 none) p.me)
    sets_it i k high h = let r = sets i k high in subst (λ (z : ℕ). Allows (Keeps z) b.words.shared.table_id.slots p.id p.me i (λ n. bit_or n k) (has_marked (step b.words.shared.table_id.slots i k 0 none) p.me)) (sym b.keyed)
        (mark_allowed b.sides b.words.shared.table_id.slots p.id p.me i k (λ n. bit_or n k) h r.0 r.1)

    pub enters : Splits {S = Unit {0}} (Keeps b.words.shared.key) p.id p.me.0 p.me.0 nothing
    enters = subst (λ (z : ℕ). Splits {S = Unit {0}} (Keeps z) p.id p.me.0 p.me.0 nothing) (sym b.keyed) (enter_allowed b.sides p.id p.me.0)

    pub tells : Splits {S = Unit {0}} (Keeps b.words.shared.key) p.id p.me.0 p.me.0 p.me.0
    tells = subst (λ (z : ℕ). Splits {S = Unit {0}} (Keeps z) p.id p.me.0 p.me.0 p.me.0) (sym b.keyed) (tell_allowed b.sides p.id p.me.0)

    pub hears : (q : Seat (Unit {0}) View) → Joins {S = Unit {0}} (Keeps b.words.shared.key) p.id p.me.0 q.id q.me.0 (heard p.me.0 q.me.0) nothing
    hears q = subst (λ (z : ℕ). Joins {S = Unit {0}} (Keeps z) p.id p.me.0 q.id q.me.0 (heard p.me.0 q.me.0) nothing) (sym b.keyed) (hear_allowed b.sides p.id p.me.0 q.id q.me.0)
