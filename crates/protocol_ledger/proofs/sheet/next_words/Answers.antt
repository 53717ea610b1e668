use Rattle.std.proofs.Common.{◌≡◌, ◌+◌, ◌*◌, ◌/◌, ◌%◌, ◌<◌, ◌∙◌, ℕ, List, length, get_or, replicate, rules, set, ap, arith, subst, sym}
use Rattle.std.proofs.lemmas.List.{length-replicate, length-set}
use Rattle.protocol_values.specs.Words.{course_word, nack_word}
use Rattle.protocol_ledger.specs.declared.opening.Life.{Life}
use Rattle.protocol_ledger.specs.declared.opening.Life.TheVariants.{Unstarted}
use Rattle.protocol_ledger.specs.declared.opening.NackState.{NackState}
use Rattle.protocol_ledger.specs.declared.opening.NackState.TheVariants.{Unbound}
use Rattle.protocol_ledger.specs.Openings.{Opening, course_for, nack_numbered, opening_of, word_for}
use Rattle.protocol_ledger.specs.Short.{short_course_place, short_nack_place, widen, words_below}
use Rattle.protocol_ledger.proofs.FirstWords.{HaveWritten, written_all, written_life, written_none, written_state}
use Rattle.protocol_ledger.proofs.Short.{set_course, set_nack, short_course_inside, short_nack_inside, zero_wide}
use Rattle.protocol_ledger.proofs.sheet.next_words.Goals as goal

-- the number of a nack of the table
its_thread : (threads k : ℕ) → k < threads * 64 → k / 64 < threads
its_thread threads k h = omega (arith, h)

pub loop-thread-init : goal.loop-thread-init
loop-thread-init c =
    let o : Opening = opening_of c.args.opening.now in
    let rows : ℕ = c.args.rows in
    let y = c.args.layout in
    let count : c.len.result ≡ length o.threads = omega (arith, c.len.ensures, c.args.opening.now.threads.ok) in
    let few = c.requires.opening.few in
    let all : get_or c.starts-starts.result c.len.result 0 ≡ words_below y (length o.threads) = c.starts-starts.ensures c.len.result (omega (arith, count)) ∙ ap (words_below y) count in
    let items : c.in_ok-words.words.items ≡ replicate (words_below y (length o.threads)) 0 = c.in_ok-words.ensures.items_if_clones_equal (λ x h. search rules) ∙ ap (λ n. replicate n 0) all in (
      ap (λ (xs : List ℕ). length xs) items ∙ length-replicate (words_below y (length o.threads)) 0,
      subst (HaveWritten o rows 0 0) (sym (ap (widen y rows (length o.threads)) items ∙ zero_wide y rows c.requires.fits (length o.threads))) (written_none o rows),
    )

pub index_mut-requires : goal.index_mut-requires
index_mut-requires c =
    let o : Opening = opening_of c.args.opening.now in
    let below : c.loop-thread.thread < length o.threads = subst (λ (ts : List (Life × ℕ)). c.loop-thread.thread < length ts) c.deref-life-items.ensures.value c.loop-thread-test.true in
    let inside = short_course_inside c.args.layout (length o.threads) c.loop-thread.thread below in
    let place = c.behind-behind.ensures in
    let size = c.loop-thread.invariant.0 in
    omega (arith, c.loop-thread.words.ok)

pub loop-thread-preserved : goal.loop-thread-preserved
loop-thread-preserved c =
    let o : Opening = opening_of c.args.opening.now in
    let rows : ℕ = c.args.rows in
    let y = c.args.layout in
    let i : ℕ = c.loop-thread.thread in
    let words : List ℕ = c.loop-thread.words.items in
    let below : i < length o.threads = subst (λ (ts : List (Life × ℕ)). i < length ts) c.deref-life-items.ensures.value c.loop-thread-test.true in
    let life : c.course.result ≡ course_for (get_or o.threads i (Unstarted, 0)).0 (get_or o.threads i (Unstarted, 0)).1 =
    c.course.ensures ∙ ap (λ (ts : List (Life × ℕ)). course_for (get_or ts i (Unstarted, 0)).0 (get_or ts i (Unstarted, 0)).1) c.deref-life-items.ensures.value in
    let place : c.behind-behind.result + 64 ≡ short_course_place y i = omega (arith, c.behind-behind.ensures) in
    let word : ℕ = course_word (course_for (get_or o.threads i (Unstarted, 0)).0 (get_or o.threads i (Unstarted, 0)).1) in (
      length-set words _ _ ∙ c.loop-thread.invariant.0,
      subst (λ (z : ℕ × ℕ). HaveWritten o rows (i + 1) 0 (widen y rows (length o.threads) (set words z.0 z.1)))
          (λ j. (sym place j, sym (c.pack_course.ensures ∙ ap course_word life) j))
          (subst (HaveWritten o rows (i + 1) 0) (sym (set_course y rows c.requires.fits (length o.threads) words c.loop-thread.invariant.0 i word below))
          (written_life o rows i (widen y rows (length o.threads) words) c.loop-thread.invariant.1 below)),
    )

pub loop-number-init : goal.loop-number-init
loop-number-init c =
    let o : Opening = opening_of c.args.opening.now in
    let same : length c.deref-life-items.result.now ≡ length o.threads = ap (λ (ts : List (Life × ℕ)). length ts) c.deref-life-items.ensures.value in
    let within = c.loop-thread.auto.thread-end in
    let over = c.loop-thread-test.false in (
      c.loop-thread.invariant.0,
      subst (λ n. HaveWritten o c.args.rows n 0 (widen c.args.layout c.args.rows (length o.threads) c.loop-thread.words.items)) (omega arith) c.loop-thread.invariant.1,
    )

pub index_mut-requires-in-loop-number : goal.index_mut-requires-in-loop-number
index_mut-requires-in-loop-number c =
    let o : Opening = opening_of c.args.opening.now in
    let k : ℕ = c.loop-number.number in
    let below : k < length o.nacks = subst (λ (ss : List NackState). k < length ss) c.deref-state-items.ensures.value c.loop-number-test.true in
    let all = c.requires.opening.all_nacks in
    let inside = short_nack_inside c.args.layout (length o.threads) (nack_numbered k) (its_thread (length o.threads) k (omega arith)) (omega arith) in
    let place = c.behind-behind-in-loop-number.ensures in
    let size = c.loop-number.invariant.0 in
    omega (arith, c.loop-number.words.ok)

pub loop-number-preserved : goal.loop-number-preserved
loop-number-preserved c =
    let o : Opening = opening_of c.args.opening.now in
    let rows : ℕ = c.args.rows in
    let y = c.args.layout in
    let k : ℕ = c.loop-number.number in
    let words : List ℕ = c.loop-number.words.items in
    let below : k < length o.nacks = subst (λ (ss : List NackState). k < length ss) c.deref-state-items.ensures.value c.loop-number-test.true in
    let all = c.requires.opening.all_nacks in
    let inside : k < length o.threads * 64 = omega arith in
    let state : c.word.result ≡ word_for (get_or o.nacks k Unbound) =
    c.word.ensures ∙ ap (λ (ss : List NackState). word_for (get_or ss k Unbound)) c.deref-state-items.ensures.value in
    let place : c.behind-behind-in-loop-number.result + k % 64 ≡ short_nack_place y (nack_numbered k) = omega (arith, c.behind-behind-in-loop-number.ensures) in
    let word : ℕ = nack_word (word_for (get_or o.nacks k Unbound)) in (
      length-set words _ _ ∙ c.loop-number.invariant.0,
      subst (λ (z : ℕ × ℕ). HaveWritten o rows (length o.threads) (k + 1) (widen y rows (length o.threads) (set words z.0 z.1)))
          (λ j. (sym place j, sym (c.pack_nack.ensures ∙ ap nack_word state) j))
          (subst (HaveWritten o rows (length o.threads) (k + 1)) (sym (set_nack y rows c.requires.fits (length o.threads) words c.loop-number.invariant.0 (nack_numbered k) word (its_thread (length o.threads) k inside) (omega arith)))
          (written_state o rows k (widen y rows (length o.threads) words) c.loop-number.invariant.1 inside)),
    )

pub returns-clause-sized : goal.returns-clause-sized
returns-clause-sized c = c.loop-number.invariant.0

pub returns-clause-first : goal.returns-clause-first
returns-clause-first c =
    let o : Opening = opening_of c.args.opening.now in
    let same : length c.deref-state-items.result.now ≡ length o.nacks = ap (λ (ss : List NackState). length ss) c.deref-state-items.ensures.value in
    let all = c.requires.opening.all_nacks in
    let within = c.loop-number.auto.number-end in
    let over = c.loop-number-test.false in
    let wide : List ℕ = widen c.args.layout c.args.rows (length o.threads) c.loop-number.words.items in
    written_all o c.args.rows wide (subst (λ n. HaveWritten o c.args.rows (length o.threads) n wide) (omega arith) c.loop-number.invariant.1)
