-- Where a reason holds, the commit may not come next.
use Rattle.std.proofs.Common.{◌≡◌, ℕ, ◌+◌, List, length, slice_get, sym, ap, ◌∙◌, subst, arith}
use Rattle.std.proofs.lemmas.Option.{same_Some, slice_get_within}
use Rattle.event.specs.Tree.{Tree, BaseEvent, bases}
use Rattle.script_tree.specs.Processes.{Proc}
use Rattle.protocol_values.specs.declared.Base.{Base}
use Rattle.protocol_values.specs.declared.Commit.{Commit}
use Rattle.protocol_values.specs.declared.Commit.TheVariants.{Pair, Alone}
use Rattle.protocol_values.specs.declared.Row.{Row}
use Rattle.journal_replay.specs.Runs.{Config, CountsFor, IsLegal, MayTake, config_of}
use Rattle.journal_replay.specs.Starting.{HasRow, HasThread}
use Rattle.thread.specs.declared.end.End.{End}
use Rattle.thread.specs.declared.end.End.TheVariants as ends
use Rattle.journal_replay.proofs.Greatest.{greatest-one}
use Rattle.journal_replay.proofs.Opening.{offering-one}
use Rattle.journal_replay.proofs.Telling.{ends-one}
use Rattle.pcml_answers.specs.Reasons.{HasOffer, IsOpen, IsWithin, ReasonRefuses, StandsAs}
use Rattle.pcml_answers.specs.declared.reason.Reason.TheVariants.{OneThread, Unstarted, Ended, Faulted, Spent, Sync, NoOffer, OtherOffer, NotFired, NotEnded, Stamp}
use Rattle.pcml_answers.proofs.Needing.{needs-take, row-needs, stands-ended, stands-fired, thread-row}
use Rattle.pcml_answers.proofs.Rows.{take-waits}

module _ (ps : List Proc) (rows : ℕ) (config : Config) where
  not-within : (c : Commit) (t : ℕ) → IsWithin c t → IsLegal ps rows config c → ⊥
  not-within (Pair sender receiver chan msg stamp) t within legal = legal.0 (within.0 ∙ sym within.1)
  not-within (Alone at why stamp) t within legal = within

  -- a thread of a commit that may come next waits
  it-waits : (c : Commit) (t : ℕ) (end : End) → HasThread c t → StandsAs ps rows config t end → IsLegal ps rows config c → end ≡ ends.Waiting
  it-waits c t end has stands legal =
      let row = thread-row c t has in
      let n = row-needs c t row.0 row.1 in
      let w = take-waits ps rows config n.at n.base (needs-take ps rows config c n.at n.base n.needs legal) in
      let here = subst (λ (u : ℕ). StandsAs ps rows config u ends.Waiting) n.is_row.0 w in
      (ends-one ps rows t config end ends.Waiting stands.0 here.0 stands.1 here.1).0

  -- its rows are next
  row-next : (c : Commit) (t g : ℕ) → HasRow c t g → IsLegal ps rows config c → g ≡ length (config t)
  row-next c t g has legal =
      let n = row-needs c t g has in
      let take = needs-take ps rows config c n.at n.base n.needs legal in
      sym n.is_row.1 ∙ take.can.next ∙ ap (λ (u : ℕ). length (config u)) n.is_row.0

  -- what it needs is offered
  offer-there : (at : Row × ℕ) (b : Base) (event : Tree) → MayTake ps rows config at b → IsOpen ps config at.0 event → HasOffer event at.1 b
  offer-there at b event take row =
      let same : take.can.event ≡ event = offering-one ps at.0.thread (config at.0.thread) take.can.event event take.can.offered row.offered in
      (take.can.base, ap (λ (e : Tree). slice_get (bases e) at.1) (sym same) ∙ take.can.is, take.can.same)

one-offer : (event : Tree) (n : ℕ) (a b : Base) → HasOffer event n a → HasOffer event n b → a ≡ b
one-offer event n a b one two = sym one.2 ∙ ap (λ (x : BaseEvent). x.base) (same_Some one.0 two.0 (sym one.1 ∙ two.1)) ∙ two.2

pub reason_refuses : ReasonRefuses
reason_refuses ps rows earlier c (OneThread t) is f = not-within ps rows (config_of earlier) c t is f.legal
reason_refuses ps rows earlier c (Unstarted t) is f = let e = it-waits ps rows (config_of earlier) c t ends.Unstarted is.0 is.1 f.legal in cc
reason_refuses ps rows earlier c (Ended t) is f = let e = it-waits ps rows (config_of earlier) c t ends.Ended is.0 is.1 f.legal in cc
reason_refuses ps rows earlier c (Faulted t) is f = let e = it-waits ps rows (config_of earlier) c t (ends.Faulted is.1.0) is.0 is.1.1 f.legal in cc
reason_refuses ps rows earlier c (Spent t) is f = let e = it-waits ps rows (config_of earlier) c t ends.Spent is.0 is.1 f.legal in cc
reason_refuses ps rows earlier c (Sync row next) is f = is.2 (row-next ps rows (config_of earlier) c row.thread row.sync is.0 f.legal ∙ sym is.1)
reason_refuses ps rows earlier c (NoOffer at count) is f =
    let take = needs-take ps rows (config_of earlier) c at is.0.0 is.0.1 f.legal in
    let there = offer-there ps rows (config_of earlier) at is.0.0 is.1.0 take is.1.1 in
    let within = slice_get_within (bases is.1.0) at.1 there.0 there.1 in
    omega (arith, within, is.1.2, is.2)
reason_refuses ps rows earlier c (OtherOffer at offered needed) is f =
    let take = needs-take ps rows (config_of earlier) c at needed is.0 f.legal in
    is.2 (one-offer is.1.0 at.1 offered needed is.1.2 (offer-there ps rows (config_of earlier) at needed is.1.0 take is.1.1))
reason_refuses ps rows earlier c (NotFired n) is f = is.1 (stands-fired ps rows (config_of earlier) c n is.0 f.legal)
reason_refuses ps rows earlier c (NotEnded t) is f = is.1 (stands-ended ps rows (config_of earlier) c t is.0 f.legal)
reason_refuses ps rows earlier c (Stamp stamp) is f =
    let same = greatest-one earlier (CountsFor ps (config_of earlier) c) f.greatest is.0.greatest f.is is.0.is in
    is.1 (f.stamp ∙ ap (λ (n : ℕ). n + 1) same ∙ sym is.0.due)
