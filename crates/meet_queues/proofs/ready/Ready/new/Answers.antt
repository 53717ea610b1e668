use Rattle.std.proofs.Common.{rules, ◌≡◌, ◌+◌, ◌<◌, ℕ, [], All, map, ap, sym, subst, ◌∙◌, List, arith}
use Rattle.std.proofs.Math.Seq.{map-set_same}
use Rattle.std.proofs.lemmas.List.Elements.{All-nil, All-same}
use Rattle.std.proofs.lemmas.Option.{slice_get_read, slice_get_within}
use Rattle.atomic_blocks.specs.Lent.{RowsId}
use Rattle.std.specs.declared.alloc.Global.{Global}
use Rattle.crossbeam_deque.specs.Handles.{stealer_deque, worker_flavor}
use Rattle.meet_queues.specs.declared.ends.ReadyEnd.{ReadyEnd}
use Rattle.meet_queues.specs.declared.ready.Ready.{Ready}
use Rattle.meet_queues.specs.Positions.{AllAt}
use Rattle.meet_queues.specs.Ends.{IsAlone, IsEndOf, IsFresh, IsNewOther, all_but, deque_of, own_deque_of}
use Rattle.meet_queues.proofs.Keeping.{begins}
use Rattle.meet_queues.proofs.Positioning.{all_at_pushed, all_at_set, all_from_at}
use Rattle.meet_queues.proofs.Beginning.{end_of, new_end}
use Rattle.meet_queues.proofs.ready.Ready.new.Goals as goal

pub new_as-requires : goal.new_as-requires
new_as-requires c = begins

pub loop-number-preserved : goal.loop-number-preserved
loop-number-preserved c =
    let ready : Ready = record { inlet = c.in_ok-inlet.inlet } in (
      c.in_ok-lone_end.ensures.dealer.0,
      c.in_ok-lone_end.ensures.dealer.1,
      search rules,
      search rules,
      subst (AllAt (IsAlone ready)) (sym c.in_ok-push.ensures.items)
          (all_at_pushed (IsAlone ready) c.loop-number.ends.items c.in_ok-lone_end.field-0 c.loop-number.invariant.4
          (subst (λ (n : ℕ). IsAlone ready n c.in_ok-lone_end.field-0) (sym c.loop-number.invariant.2) c.in_ok-lone_end.ensures.alone)),
    )

pub all_thieves-requires : goal.all_thieves-requires
all_thieves-requires c =
    let ready : Ready = record { inlet = c.in_ok-inlet.inlet } in
    let Fifo : ReadyEnd → Type 0 = λ e. worker_flavor e.own ≡ 0 in
    All-same Fifo c.deref.result.now c.loop-number.ends.items c.deref.ensures.value
    (all_from_at (IsAlone ready) Fifo c.loop-number.ends.items c.loop-number.invariant.4 (λ n e alone. alone.0.fifo))

pub loop-number-2-init : goal.loop-number-2-init
loop-number-2-init c = (
  λ n e is. let alone = c.loop-number.invariant.4 n e is in (
    alone.0,
    All-same IsNewOther e.others.items [] alone.1 (All-nil IsNewOther),
    λ less. absurd (omega arith),
  ),
  c.in_ok-thieves.ensures.fifo,
  sym (c.in_ok-thieves.ensures.deques.0 ∙ ap (λ (l : List ReadyEnd). map own_deque_of l) c.deref.ensures.value),
  search rules,
  search rules,
  search rules,
)

abbrev Steals : Ready → List (RowsId × Global) → ℕ → ℕ → ReadyEnd → Type 0
Steals ready ds number n e = IsFresh ready n e × All IsNewOther e.others.items × (n < number → map deque_of e.others.items ≡ all_but n ds)

pub loop-number-2-preserved : goal.loop-number-2-preserved
loop-number-2-preserved c =
    let ready : Ready = record { inlet = c.in_ok-inlet.inlet } in
    let number : ℕ = c.loop-number-2.number in
    let found : ReadyEnd = c.index_mut.result.now in
    let made : ReadyEnd = record found { others = c.in_ok-others.others } in
    let ends : List ReadyEnd = c.loop-number-2.ends.items in
    let was = c.loop-number-2.invariant.0 number found (slice_get_read ends c.args.workers number found (search rules) (search rules) c.index_mut.ensures.value) in (
      all_at_set (Steals ready (map stealer_deque c.in_ok-thieves.thieves.items) number) (Steals ready (map stealer_deque c.in_ok-thieves.thieves.items) (number + 1)) ends number made c.loop-number-2.invariant.0 (
        record {
          number = was.0.number;
          count = was.0.count;
          fifo = was.0.fifo;
          own = was.0.own;
          inlet = was.0.inlet;
          shared = was.0.shared;
        },
        c.in_ok-others.ensures.others,
        λ less. c.in_ok-others.ensures.deques ∙ ap (λ l. all_but number (map stealer_deque l)) c.deref-in-loop-number-2.ensures.value,
      )
          (λ n e apart p. (p.0, p.1, λ less. p.2 (omega arith))),
      c.loop-number-2.invariant.1,
      map-set_same own_deque_of ends number made found (ap own_deque_of c.index_mut.ensures.value) ∙ c.loop-number-2.invariant.2,
      search rules,
      search rules,
      search rules,
    )

pub returns-clause-ends : goal.returns-clause-ends
returns-clause-ends c =
    let ready : Ready = record { inlet = c.in_ok-inlet.inlet } in (
      c.loop-number-2.invariant.3,
      all_from_at (Steals ready (map stealer_deque c.in_ok-thieves.thieves.items) c.loop-number-2.number) (IsEndOf ready) c.loop-number-2.ends.items c.loop-number-2.invariant.0
          (λ n e p. end_of ready n e p.0 p.1),
    )

pub returns-clause-new : goal.returns-clause-new
returns-clause-new c =
    let ready : Ready = record { inlet = c.in_ok-inlet.inlet } in
    let ends : List ReadyEnd = c.loop-number-2.ends.items in
    λ n e is. let p = c.loop-number-2.invariant.0 n e is in
    let within = slice_get_within ends n e is in
    new_end ready ends (map stealer_deque c.in_ok-thieves.thieves.items) n e p.0 p.1 (p.2 (search rules)) c.loop-number-2.invariant.2
