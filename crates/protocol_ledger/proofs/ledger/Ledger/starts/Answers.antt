use Rattle.std.proofs.Common.{◌≡◌, ◌∙◌, ◌+◌, ℕ, List, ap, arith, length, slice_get, subst, sym}
use Rattle.std.proofs.lemmas.List.{length-append}
use Rattle.std.proofs.lemmas.Option.{none-some}
use Rattle.protocol_ledger.specs.Ledgers.{Ledger, course_in, ledger_of}
use Rattle.protocol_ledger.specs.Sheets.{table_of}
use Rattle.protocol_ledger.specs.Tables.{start_of}
use Rattle.protocol_ledger.specs.declared.reached.Reached.{Reached}
use Rattle.protocol_ledger.proofs.Closing.{each_pushed}
use Rattle.protocol_ledger.proofs.LedgerLemmas.{course_in_ledger}
use Rattle.protocol_ledger.proofs.ledger.Ledger.starts.Goals as goal

pub loop-thread-init : goal.loop-thread-init
loop-thread-init c = (
  ap (λ (l : List Reached). length l) c.in_ok-starts.ensures.items,
  λ t reached e. absurd (none-some reached (sym (ap (λ (l : List Reached). slice_get l t) c.in_ok-starts.ensures.items) ∙ e)),
)

pub loop-thread-preserved : goal.loop-thread-preserved
loop-thread-preserved c =
    let inv = c.loop-thread.invariant in
    let l = c.args.self.now in
    let P = λ (t : ℕ) (reached : Reached). reached ≡ record { stamp = start_of (course_in l t); rows = 0 } in
    let first : Reached = record { stamp = c.start_of-stamp.result; rows = 0 } in
    let start : c.start_of-stamp.result ≡ start_of (course_in l c.loop-thread.thread) =
    c.start_of-stamp.ensures ∙ ap start_of (c.course.ensures ∙ (λ i. sym (course_in_ledger (table_of c.self.inside.sheet)) i c.loop-thread.thread) ∙ ap (λ (z : Ledger). course_in z c.loop-thread.thread) c.self.view_is) in
    let items = c.in_ok-push.ensures.items in (
      ap (λ (starts : List Reached). length starts) items ∙ length-append c.loop-thread.starts.items _ ∙ ap (λ (n : ℕ). n + 1) inv.0,
      λ t reached e. each_pushed P c.loop-thread.starts.items first inv.1 (subst (λ (n : ℕ). P n first) (sym inv.0) (λ i. record { stamp = start i; rows = 0 })) t reached
          (sym (ap (λ (starts : List Reached). slice_get starts t) items) ∙ e),
    )

pub returns-clause-starts : goal.returns-clause-starts
unfolding ledger_of
returns-clause-starts c =
    let inv = c.loop-thread.invariant in
    let threads : c.args.self.now.threads ≡ c.self.inside.sheet.threads = sym (ap (λ (l : Ledger). l.threads) c.self.view_is) in
    let size = inv.0 in
    let over = c.loop-thread-test.false in
    let within = c.loop-thread.auto.thread-end in
    (omega (arith, threads, size, over, within), inv.1)
