use Rattle.std.proofs.Common.{◌≡◌, ℕ, List, Some, get_or, length, slice_get, refl, sym, ap, ◌∙◌, arith, ⊎_elim}
use Rattle.std.proofs.lemmas.Bool.{cases_eq, false≢true}
use Rattle.std.proofs.lemmas.Option.{slice_get_read}
use Rattle.thread_strand.specs.declared.strand.Strand.{Strand}
use Rattle.journal_replay.specs.Gathering.{waits_in}
use Rattle.journal_replay.proofs.Gathered.{early-at, none-early}
use Rattle.journal_replay.proofs.threads.Threads.is_early.Goals as goal

pub loop-other-init : goal.loop-other-init
loop-other-init c = λ i lt. absurd (omega (arith, lt))

pub returns-then-waits : goal.returns-then-waits
returns-then-waits c =
    let strands = c.args.self.now.strands.items in
    let strand : Strand = c.in-Some.strand.now in
    let found = c.in-Some.ensures.lookup in
    let there : slice_get strands c.args.thread ≡ Some strand =
    ap (λ (xs : List Strand). slice_get xs c.args.thread) (sym c.deref.ensures.value) ∙ slice_get_read c.deref.result.now (length c.deref.result.now) c.args.thread strand refl found.3.0 found.1 in (
      λ e. early-at strands c.args.thread strand c.spawned-other-items.result.now c.loop-other.other-index there c.if-not-strand.false c.spawned-other-items.ensures c.loop-other-test.true
          (sym c.waits.ensures ∙ c.if-waits.true),
      λ e. refl,
    )

pub loop-other-preserved : goal.loop-other-preserved
loop-other-preserved c = λ i lt. ⊎_elim
    (λ e. ap (λ (n : ℕ). waits_in c.args.self.now.strands.items (get_or c.spawned-other-items.result.now n 0)) e ∙ sym c.waits.ensures ∙ c.if-waits.false)
    (λ ne. c.loop-other.invariant i (omega (arith, lt, ne)))
    (cases_eq i c.loop-other.other-index)

pub returns : goal.returns
returns c =
    let strands = c.args.self.now.strands.items in
    let strand : Strand = c.in-Some.strand.now in
    let found = c.in-Some.ensures.lookup in
    let there : slice_get strands c.args.thread ≡ Some strand =
    ap (λ (xs : List Strand). slice_get xs c.args.thread) (sym c.deref.ensures.value) ∙ slice_get_read c.deref.result.now (length c.deref.result.now) c.args.thread strand refl found.3.0 found.1 in (
      λ e. absurd (false≢true e),
      λ early. absurd (none-early strands c.args.thread strand c.spawned-other-items.result.now there c.spawned-other-items.ensures (λ i lt. c.loop-other.invariant i (omega (arith, lt, c.loop-other-test.false))) early),
    )
