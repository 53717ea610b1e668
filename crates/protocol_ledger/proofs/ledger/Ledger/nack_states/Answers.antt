use Rattle.std.proofs.Common.{◌≡◌, ◌∙◌, ◌+◌, ◌*◌, ◌<◌, ◌++◌, ℕ, List, ap, arith, drop, length, replicate, rules, slice_get, subst, sym, take}
use Rattle.std.proofs.lemmas.List.{get_or-replicate, length-replicate, take-append-le, take_all}
use Rattle.std.proofs.lemmas.Option.{get_or_from_slice_get, slice_get-get_or, slice_get_within}
use Rattle.protocol_values.specs.declared.NackName.{NackName}
use Rattle.protocol_ledger.specs.Ledgers.{Ledger, ledger_of}
use Rattle.protocol_ledger.specs.Openings.{TellsNack}
use Rattle.protocol_ledger.specs.declared.opening.NackState.{NackState}
use Rattle.protocol_ledger.specs.declared.opening.NackState.TheVariants.{Unbound}
use Rattle.protocol_ledger.proofs.Closing.{numbered}
use Rattle.protocol_ledger.proofs.ledger.Ledger.nack_states.Goals as goal

pub overflow_mul-reached : goal.overflow_mul-reached
unfolding ledger_of
overflow_mul-reached c =
    let threads : c.args.self.now.threads ≡ c.self.inside.sheet.threads = sym (ap (λ (l : Ledger). l.threads) c.self.view_is) in
    let count = c.requires.0 in
    let few = c.self.inside.sheet.few_threads in
    omega (arith, threads, count, few)

pub overflow_cast-thread : goal.overflow_cast-thread
unfolding ledger_of
overflow_cast-thread c =
    let threads : c.args.self.now.threads ≡ c.self.inside.sheet.threads = sym (ap (λ (l : Ledger). l.threads) c.self.view_is) in
    let count = c.requires.0 in
    let low = c.loop-thread-test.true in
    let few = c.self.inside.sheet.few_threads in
    omega (arith, threads, count, low, few)

pub tell_nacks-requires-clause-past : goal.tell_nacks-requires-clause-past
tell_nacks-requires-clause-past c = (c.requires.1 c.loop-thread.thread _ (slice_get-get_or c.args.reached.now c.loop-thread.thread (record { stamp = 0; rows = 0 }) c.loop-thread-test.true)).past

pub tell_nacks-requires-clause-told : goal.tell_nacks-requires-clause-told
tell_nacks-requires-clause-told c = λ i state e. c.loop-thread.invariant.1 i state (sym (ap (λ (l : List NackState). slice_get l i) c.deref_mut.ensures.value) ∙ e)

pub loop-thread-init : goal.loop-thread-init
loop-thread-init c =
    let size : ℕ = length c.args.reached.now * 64 in
    let items : c.in_ok-states.states.items ≡ replicate size Unbound = c.in_ok-states.ensures.items_if_clones_equal (λ y h. search rules) in (
      ap (λ (l : List NackState). length l) items ∙ length-replicate size Unbound,
      λ i state e. (
        λ h. absurd (omega arith),
        λ h. let within : i < size = let low = slice_get_within c.in_ok-states.states.items i state e in let count = ap (λ (l : List NackState). length l) items ∙ length-replicate size Unbound in omega (arith, low, count) in
            sym (get_or_from_slice_get (replicate size Unbound) i state Unbound (sym (ap (λ (l : List NackState). slice_get l i) items) ∙ e)) ∙ get_or-replicate size i Unbound Unbound within,
      ),
    )

pub loop-thread-preserved : goal.loop-thread-preserved
loop-thread-preserved c =
    let inv = c.loop-thread.invariant in
    let new = c.tell_nacks.new.states in
    let old = c.loop-thread.states.items in
    let count : length new ≡ length old = c.tell_nacks.ensures.count ∙ ap (λ (l : List NackState). length l) c.deref_mut.ensures.value in
    let back : take c.loop-thread.states.len (new ++ drop (length new) old) ≡ new = take-append-le c.loop-thread.states.len new (drop (length new) old) (omega (arith, count, c.loop-thread.states.ok)) ∙ take_all c.loop-thread.states.len new (omega (arith, count, c.loop-thread.states.ok)) in (
      ap (λ (l : List NackState). length l) back ∙ count ∙ inv.0,
      λ i state e.
          let told = c.tell_nacks.ensures.told i state (sym (ap (λ (l : List NackState). slice_get l i) back) ∙ e) in
          (λ h. told.0 (omega arith), λ h. told.1 (omega arith)),
    )

pub returns : goal.returns
returns c =
    let inv = c.loop-thread.invariant in
    let count = c.requires.0 in
    let over = c.loop-thread-test.false in
    let within = c.loop-thread.auto.thread-end in (
      inv.0 ∙ ap (λ (n : ℕ). n * 64) count,
      λ n state low e.
          let inside = slice_get_within c.loop-thread.states.items (n.thread * 64 + n.k) state e in
          let size = inv.0 in
          subst (λ (x : NackName). TellsNack c.args.self.now x state) (numbered n low) ((inv.1 (n.thread * 64 + n.k) state e).0 (omega (arith, inside, size, over, within))),
    )
