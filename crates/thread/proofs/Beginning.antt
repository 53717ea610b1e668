-- A sync that begins.
use Rattle.std.proofs.Common.{◌≡◌, ℕ, ◌+◌, ◌^◌, List, [], ◌∷◌, ◌++◌, length, map, refl, sym, ap, ap₂, ◌∙◌, arith}
use Rattle.std.proofs.Math.Seq.{drop-length, take-length}
use Rattle.std.specs.Prelude.{bit_or}
use Rattle.thread_code.specs.Stages.{Stage, Offered, Performed, Made, stages, stages_of_all}
use Rattle.thread_code.specs.declared.Code.{Code}
use Rattle.script_tree.specs.Lined.{nack_count}
use Rattle.script_tree.specs.Lined.{Event, Sends, Receives, IsReady, IsNever, IsCancelled, IsJoined, Chooses, Wraps, Guards, Nacks, Events, NoMembers, Members, LoopBody}
use Rattle.protocol_values.specs.declared.Offer.{Offer}
use Rattle.thread.specs.declared.stack.Offered.{Offered as OfferedSync}
use Rattle.thread.specs.Standing.{at_line, State, Goes, ◌>>=◌, run_block, synced}
use Rattle.thread.specs.Fitting.{HasSync, IsOffered}
use Rattle.thread.specs.Reaches.{event_reach, members_reach, stages_reach}
use Rattle.thread.specs.Resolving.{Lists, formed_as, no_lists, run_stages}
use Rattle.thread.specs.Stacks.{Further, offered, reopened_on, others, own, sync_at, turn_on}
use Rattle.thread.proofs.Going.{bind_assoc}
use Rattle.thread.proofs.Staging.{resolves_whole}

-- a sync of this plan that begins behind these lists
abbrev pub begun : ℕ → Lists → OfferedSync
begun plan l = record { plan = plan; stage = 0; offers = length l.offers; nacks = length l.nacks }

own_none : (plan : ℕ) (l : Lists) → own (begun plan l) l ≡ no_lists
own_none plan l = ap₂ (λ os ns. record { offers = os; nacks = ns }) (drop-length l.offers) (drop-length l.nacks)

pub others_all : (plan : ℕ) (l : Lists) → others (begun plan l) l ≡ l
others_all plan l = ap₂ (λ os ns. record { offers = os; nacks = ns }) (take-length l.offers) (take-length l.nacks)

-- a turn, stage by stage
pub turn_begins : (t : LoopBody) (s : State) → turn_on t s ≡ (run_stages t.line (stages 0 0 t.event) no_lists (at_line t.line s) >>= offered t)
turn_begins t s =
    let r = run_stages t.line (stages 0 0 t.event) no_lists (at_line t.line s) in
    ap (λ x. x >>= synced t.names >>= run_block t.rest) (resolves_whole t.line t.event (at_line t.line s))
    ∙ ap (λ x. x >>= run_block t.rest) (bind_assoc r (λ q. Goes (formed_as t.event q.lists q.state)) (synced t.names))
    ∙ bind_assoc r (λ q. synced t.names (formed_as t.event q.lists q.state)) (run_block t.rest)

pub offered_begins : (c : Code) (plan : ℕ) (below : Further) (l : Lists) (s : State) → reopened_on c (begun plan l) below l s ≡ (turn_on (sync_at c plan) s >>= below l)
offered_begins c plan below l s =
    ap₂ (λ m k. run_stages (sync_at c plan).line (stages 0 0 (sync_at c plan).event) m (at_line (sync_at c plan).line s) >>= offered (sync_at c plan) >>= below k) (own_none plan l) (others_all plan l)
    ∙ ap (λ x. x >>= below l) (sym (turn_begins (sync_at c plan) s))

pub offered_fits : (c : Code) (plan : ℕ) (l : Lists) → HasSync c plan → IsOffered c l (begun plan l)
offered_fits c plan l sync = record {
  sync = sync;
  stage = omega arith;
  first_offer = omega arith;
  first_nack = omega arith;
  masks = ap (map (λ (o : Offer). o.scopes)) (drop-length l.offers);
  nacks = ap length (drop-length l.nacks);
}

-- STEPS TO THE NEXT STOP

reach-append : (ss more : List Stage) → stages_reach (ss ++ more) ≡ stages_reach ss + stages_reach more
reach-append [] more = omega arith
reach-append (Offered event scopes ∷ ss) more = omega (arith, reach-append ss more)
reach-append (Performed body ∷ ss) more = omega (arith, reach-append ss more)
reach-append (Made name ∷ ss) more = omega (arith, reach-append ss more)

mutual
  pub reach_of : (a n : ℕ) (e : Event) → stages_reach (stages a n e) ≡ event_reach e
  reach_of a n (Sends channel list) = refl
  reach_of a n (Receives channel) = refl
  reach_of a n (IsReady list) = refl
  reach_of a n IsNever = refl
  reach_of a n (IsCancelled nack) = refl
  reach_of a n (IsJoined process) = refl
  reach_of a n (Chooses members) = reach_of_all a n members
  reach_of a n (Wraps e names list) = reach_of a n e
  reach_of a n (Guards body e) = omega (arith, reach_of a n e)
  reach_of a n (Nacks name body e) = omega (arith, reach_of (bit_or a (2 ^ n)) (n + 1) e)

  pub reach_of_all : (a n : ℕ) (es : Events) → stages_reach (stages_of_all a n es) ≡ members_reach es
  reach_of_all a n NoMembers = refl
  reach_of_all a n (Members e es) =
      omega (arith, reach-append (stages a n e) (stages_of_all a (n + nack_count e) es), reach_of a n e, reach_of_all a (n + nack_count e) es)
