-- The words of a table that goes on from an opening, written thread by thread and then nack by nack; and the world that
-- has them.
use Rattle.std.proofs.Common.{◌≡◌, ℕ, ◌+◌, ◌*◌, ◌/◌, ◌%◌, ◌<◌, true, List, length, get_or, map, set, replicate, sym, ap, ◌∙◌, ⊎_elim, Option, None, arith}
use Rattle.std.proofs.lemmas.Bool.{and_from, cases_eq, lt-ltb}
use Rattle.std.proofs.lemmas.List.{get_or-set_other, get_or-set_same, length-map, length-replicate, length-set}
use Rattle.protocol_values.specs.declared.NackName.{NackName}
use Rattle.protocol_values.specs.Words.{course_word, nack_word}
use Rattle.protocol_ledger.specs.declared.opening.NackState.TheVariants as state
use Rattle.protocol_ledger.specs.Openings.{AreFirstWords, Begins, Opening, course_for, greatest, held_first, nack_numbered, table_with, thread_in, word_for}
use Rattle.protocol_ledger.specs.Tables.{all_rows, course_place, is_nack, nack_at, nack_place, number_of, place_of, thread_len, word_at}
use Rattle.protocol_ledger.specs.Worlds.{World}
use Rattle.protocol_ledger.proofs.Closing.{numbered}
use Rattle.protocol_ledger.proofs.Keeping.{held_inside, length_all}
use Rattle.protocol_ledger.proofs.LedgerLemmas.{at_number, zeros}
use Rattle.protocol_ledger.proofs.Places.{course_apart, course_nack_apart, course_place_inside, nack_apart, nack_inside, nack_place_inside, row_inside, same_course_place, same_nack_place}

module _ (o : Opening) (rows : ℕ) where
  size : ℕ
  size = length o.threads * thread_len rows

  -- the life of the thread, and the word of the nack with this number
  life_word : ℕ → ℕ
  life_word p = course_word (course_for (thread_in o p).0 (thread_in o p).1)

  state_word : ℕ → ℕ
  state_word k = nack_word (word_for (get_or o.nacks k state.Unbound))

  -- the lives of the threads below this one, and the words of the nacks below this number, and nothing else
  pub record HaveWritten (threads nacks : ℕ) (words : List ℕ) : Type 0 where
    pub sized : length words ≡ length o.threads * thread_len rows
    pub lives : (p : ℕ) → p < threads → get_or words (course_place rows p) 0 ≡ course_word (course_for (thread_in o p).0 (thread_in o p).1)
    pub states : (k : ℕ) → k < nacks → get_or words (nack_place rows (nack_numbered k)) 0 ≡ nack_word (word_for (get_or o.nacks k state.Unbound))
    pub blank : (at : ℕ) → ((p : ℕ) → p < threads → at ≡ course_place rows p → ⊥) → ((k : ℕ) → k < nacks → at ≡ nack_place rows (nack_numbered k) → ⊥) → get_or words at 0 ≡ 0

  pub written_none : HaveWritten 0 0 (replicate (length o.threads * thread_len rows) 0)
  written_none = record {
    sized = length-replicate (length o.threads * thread_len rows) 0;
    lives = λ p h. absurd (omega arith);
    states = λ k h. absurd (omega arith);
    blank = λ at a b. zeros (length o.threads * thread_len rows) at;
  }

  -- the table of the right size
  is_numbered : (words : List ℕ) (k : ℕ) → k < length o.threads * 64 → is_nack (table_with o rows words) (nack_numbered k) ≡ true
  unfolding is_nack
  is_numbered words k h =
      let thread : k / 64 < length o.threads = omega (arith, h) in
      let low : k % 64 < 64 = omega arith in
      and_from _ _ (lt-ltb (k / 64) (length o.threads) thread) (lt-ltb (k % 64) 64 low)

  pub course_inside : (words : List ℕ) (i : ℕ) → i < length o.threads → length words ≡ length o.threads * thread_len rows → course_place rows i < length words
  course_inside words i h e = let b = course_place_inside (table_with o rows words) i h in omega arith

  pub state_inside : (words : List ℕ) (k : ℕ) → k < length o.threads * 64 → length words ≡ length o.threads * thread_len rows → nack_place rows (nack_numbered k) < length words
  state_inside words k h e = let b = nack_place_inside (table_with o rows words) (nack_numbered k) (is_numbered words k h) in omega arith

  -- a life more
  pub written_life : (i : ℕ) (words : List ℕ) → HaveWritten i 0 words → i < length o.threads
      → HaveWritten (i + 1) 0 (set words (course_place rows i) (course_word (course_for (thread_in o i).0 (thread_in o i).1)))
  written_life i words w h =
      let value : ℕ = course_word (course_for (thread_in o i).0 (thread_in o i).1) in
      let place : ℕ = course_place rows i in
      record {
        sized = length-set words place value ∙ w.sized;
        lives = λ p b. ⊎_elim
            (λ (e : p ≡ i).
            ap (λ n. get_or (set words place value) (course_place rows n) 0) e
            ∙ get_or-set_same words place value 0 (course_inside words i h w.sized)
            ∙ ap (λ n. course_word (course_for (thread_in o n).0 (thread_in o n).1)) (sym e))
            (λ (n : p ≡ i → ⊥).
            get_or-set_other words place (course_place rows p) value 0 (λ e. n (same_course_place rows p i e))
            ∙ w.lives p (omega (arith, n)))
            (cases_eq p i);
        states = λ k b. absurd (omega arith);
        blank = λ at a b.
            get_or-set_other words place at value 0 (λ e. a i (omega arith) e)
            ∙ w.blank at (λ p c e. a p (omega arith) e) b;
      }

  -- a nack more
  pub written_state : (k : ℕ) (words : List ℕ) → HaveWritten (length o.threads) k words → k < length o.threads * 64
      → HaveWritten (length o.threads) (k + 1) (set words (nack_place rows (nack_numbered k)) (nack_word (word_for (get_or o.nacks k state.Unbound))))
  written_state k words w h =
      let value : ℕ = nack_word (word_for (get_or o.nacks k state.Unbound)) in
      let place : ℕ = nack_place rows (nack_numbered k) in
      let nack = is_numbered words k h in
      record {
        sized = length-set words place value ∙ w.sized;
        lives = λ p b.
            get_or-set_other words place (course_place rows p) value 0 (λ e. course_nack_apart (table_with o rows words) (nack_numbered k) p nack e)
            ∙ w.lives p b;
        states = λ q b. ⊎_elim
            (λ (e : q ≡ k).
            ap (λ n. get_or (set words place value) (nack_place rows (nack_numbered n)) 0) e
            ∙ get_or-set_same words place value 0 (state_inside words k h w.sized)
            ∙ ap (λ n. nack_word (word_for (get_or o.nacks n state.Unbound))) (sym e))
            (λ (n : q ≡ k → ⊥).
            get_or-set_other words place (nack_place rows (nack_numbered q)) value 0 (λ e.
            let same = same_nack_place (table_with o rows words) (nack_numbered q) (nack_numbered k) (is_numbered words q (omega (arith, b, h))) nack e in
            let thread : q / 64 ≡ k / 64 = same.0 in
            let low : q % 64 ≡ k % 64 = same.1 in
            n (omega arith))
            ∙ w.states q (omega (arith, n)))
            (cases_eq q k);
        blank = λ at a b.
            get_or-set_other words place at value 0 (λ e. b k (omega arith) e)
            ∙ w.blank at a (λ q c e. b q (omega arith) e);
      }

  pub written_all : (words : List ℕ) → HaveWritten (length o.threads) (length o.threads * 64) words → AreFirstWords o (table_with o rows words)
  unfolding word_at nack_at
  written_all words w = record {
    sized = w.sized;
    blank = λ r place h b. w.blank (place_of rows r place)
        (λ p c e. course_apart (table_with o rows words) r place p h b (sym e))
        (λ k c e. nack_apart (table_with o rows words) r place (nack_numbered k) h (is_numbered words k c) b (sym e));
    nacks = λ n h.
        let inside = nack_inside (table_with o rows words) n h in
        let low = inside.1 in
        let thread = inside.0 in
        ap (λ (m : NackName). get_or words (nack_place rows m) 0) (sym (numbered n low))
        ∙ w.states (n.thread * 64 + n.k) (omega (arith, thread, low));
    lives = λ p h. w.lives p h;
  }

-- a world with the first words of an opening, and the holders of its first rows
pub next_begins : (o : Opening) (rows seats : ℕ) (w : World) → w.table.threads ≡ length o.threads → w.table.rows ≡ rows → w.seats ≡ seats → w.table.opening ≡ greatest o → AreFirstWords o w.table
    → w.holders ≡ map (held_first o seats) (all_rows w.table.threads w.table.rows) → w.lasts ≡ replicate w.table.threads None → Begins o rows seats w
next_begins o rows seats w threads rows_are seats_are opening words holders lasts = record {
  threads = threads;
  rows_are = rows_are;
  seats_are = seats_are;
  opening = opening;
  words = words;
  all_rows = ap (λ (hs : List (Option ℕ)). length hs) holders ∙ length-map (all_rows w.table.threads w.table.rows) (held_first o seats) ∙ length_all w.table.threads w.table.rows;
  held = λ r e.
      let inside = row_inside w.table r e in
      held_inside w r e
      ∙ ap (λ (hs : List (Option ℕ)). get_or hs (number_of w.table.rows r) None) holders
      ∙ at_number (held_first o seats) w.table.threads w.table.rows r None inside.0 inside.1;
  lasts = lasts ∙ ap (λ n. replicate n None) threads;
}
