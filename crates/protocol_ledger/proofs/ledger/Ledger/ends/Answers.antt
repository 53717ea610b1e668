use Rattle.std.proofs.Common.{◌≡◌, ◌∙◌, ◌+◌, ℕ, List, ap, arith, get_or, length, slice_get, subst, sym}
use Rattle.std.proofs.lemmas.List.{length-append}
use Rattle.std.proofs.lemmas.Option.{none-some, slice_get-get_or}
use Rattle.protocol_ledger.specs.Ledgers.{Ledger, course_in, ledger_of}
use Rattle.protocol_ledger.specs.Openings.{IsLastStamp, life_of}
use Rattle.protocol_ledger.specs.Sheets.{table_of}
use Rattle.protocol_ledger.specs.declared.opening.Life.{Life}
use Rattle.protocol_ledger.proofs.Closing.{each_pushed}
use Rattle.protocol_ledger.proofs.LedgerLemmas.{course_in_ledger}
use Rattle.protocol_ledger.proofs.ledger.Ledger.ends.Goals as goal

pub loop-thread-init : goal.loop-thread-init
loop-thread-init c = (
  ap (λ (l : List (Life × ℕ)). length l) c.in_ok-ends.ensures.items,
  λ t end e. absurd (none-some end (sym (ap (λ (l : List (Life × ℕ)). slice_get l t) c.in_ok-ends.ensures.items) ∙ e)),
)

pub overflow_cast-thread : goal.overflow_cast-thread
unfolding ledger_of
overflow_cast-thread c =
    let threads : c.args.self.now.threads ≡ c.self.inside.sheet.threads = sym (ap (λ (l : Ledger). l.threads) c.self.view_is) in
    let count = c.requires.0 in
    let low = c.loop-thread-test.true in
    let few = c.self.inside.sheet.few_threads in
    omega (arith, threads, count, low, few)

pub loop-thread-preserved : goal.loop-thread-preserved
loop-thread-preserved c =
    let inv = c.loop-thread.invariant in
    let l = c.args.self.now in
    let at = c.loop-thread.thread in
    let reached = get_or c.args.reached.now at (record { stamp = 0; rows = 0 }) in
    let P = λ (t : ℕ) (end : Life × ℕ). (end.0 ≡ life_of (course_in l t)) × IsLastStamp l t end.1 in
    let life : c.life_of-life.result ≡ life_of (course_in l at) =
    c.life_of-life.ensures ∙ ap life_of (c.course.ensures ∙ (λ i. sym (course_in_ledger (table_of c.self.inside.sheet)) i at) ∙ ap (λ (z : Ledger). course_in z at) c.self.view_is) in
    let last : IsLastStamp l at reached.stamp = (c.requires.1 at reached (slice_get-get_or c.args.reached.now at (record { stamp = 0; rows = 0 }) c.loop-thread-test.true)).last in
    let items = c.in_ok-push.ensures.items in (
      ap (λ (ends : List (Life × ℕ)). length ends) items ∙ length-append c.loop-thread.ends.items _ ∙ ap (λ (n : ℕ). n + 1) inv.0,
      λ t end e. each_pushed P c.loop-thread.ends.items (c.life_of-life.result, reached.stamp) inv.1 (subst (λ (n : ℕ). P n (c.life_of-life.result, reached.stamp)) (sym inv.0) (life, last)) t end
          (sym (ap (λ (ends : List (Life × ℕ)). slice_get ends t) items) ∙ e),
    )

pub returns : goal.returns
returns c =
    let inv = c.loop-thread.invariant in
    let size = inv.0 in
    let count = c.requires.0 in
    let over = c.loop-thread-test.false in
    let within = c.loop-thread.auto.thread-end in
    (omega (arith, count, size, over, within), λ t life stamp e. inv.1 t (life, stamp) e)
