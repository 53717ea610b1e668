use Rattle.std.proofs.Common.{rules, ◌≡◌, ◌<◌, ℕ, List, get_or, length, refl, slice_set, Some, inr, sym, ap, subst, ◌∙◌}
use Rattle.std.proofs.lemmas.Option.{slice_get-get_or}
use Rattle.std.proofs.Common.{slice_get}
use Rattle.thread_strand.specs.declared.strand.Strand.{Strand}
use Rattle.journal_replay.specs.Gathering.{IsEarly}
use Rattle.journal_replay.proofs.threads.Threads.give_row.Goals as goal

pub returns-clause-gives : goal.returns-clause-gives
returns-clause-gives c =
    let items : List Strand = c.args.self.now.strands.items in
    let t : ℕ = c.from-thread.result in
    let own : Strand = c.index_mut.result.now in
    let seen = c.in-Some.ensures.lookup in
    let whole : c.deref.result.now ≡ items = c.deref.ensures.value in
    let low : t < length items = subst (λ (xs : List Strand). t < length xs) whole seen.3.0 in
    inr (record {
      before = own;
      behind = c.go_on.new.self;
      was = ap (slice_get items) (sym c.from-thread.ensures) ∙ slice_get-get_or items t own low ∙ ap (λ (s : Strand). Some s) (sym c.index_mut.ensures.value);
      next =
          sym c.if-syncs-given.true ∙ c.syncs.ensures
          ∙ ap (λ (s : Strand). length s.machine.results) (seen.3.1 own ∙ ap (λ (xs : List Strand). get_or xs t own) whole ∙ sym c.index_mut.ensures.value);
      ready = (search rules);
      goes = c.in_ok-go_on.ensures;
      is = ap (λ (n : ℕ). slice_set items n c.go_on.new.self) c.from-thread.ensures;
    })

pub returns-then-is_early-clause-gives : goal.returns-then-is_early-clause-gives
returns-then-is_early-clause-gives c = subst (IsEarly c.args.self.now.strands.items) c.from-thread.ensures (c.if-is_early.ensures.0 refl)

-- the thread's next sync has the offer
pub go_on-requires : goal.go_on-requires
go_on-requires c =
    let items : List Strand = c.args.self.now.strands.items in
    let t : ℕ = c.from-thread.result in
    let own : Strand = c.index_mut.result.now in
    let seen = c.in-Some.ensures.lookup in
    let whole : c.deref.result.now ≡ items = c.deref.ensures.value in
    let low : t < length items = subst (λ (xs : List Strand). t < length xs) whole seen.3.0 in
    c.requires own
    (ap (slice_get items) (sym c.from-thread.ensures) ∙ slice_get-get_or items t own low ∙ ap (λ (s : Strand). Some s) (sym c.index_mut.ensures.value))
    (sym c.if-syncs-given.true ∙ c.syncs.ensures
    ∙ ap (λ (s : Strand). length s.machine.results) (seen.3.1 own ∙ ap (λ (xs : List Strand). get_or xs t own) whole ∙ sym c.index_mut.ensures.value))
