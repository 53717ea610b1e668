-- What a state tells of a thread, as what a row of it can take.
use Rattle.std.proofs.Common.{◌≡◌, ◌≢◌, ℕ, ◌<◌, ◌≤◌, Bool, true, false, cond, ltb, List, [], ◌∷◌, length, slice_get, Option, None, Some, refl, sym, ap, ◌∙◌, subst, count_by, arith, inl, ⊎_elim}
use Rattle.std.specs.Option.{option_map}
use Rattle.std.proofs.lemmas.Bool.{ltb-true, lt-ltb}
use Rattle.std.proofs.lemmas.List.{length-map}
use Rattle.std.proofs.lemmas.Option.{none-some, same_Some, slice_get-map, slice_get_cases, some_pair_parts}
use Rattle.event.specs.Tree.{Tree, BaseEvent, bases, offer_of, offers}
use Rattle.script_tree.specs.Processes.{Proc}
use Rattle.thread.specs.After.{Said, State as Thread, Outcome, Goes, Offers, Finishes, Fails, Strays, after}
use Rattle.protocol_values.specs.declared.Atom.{Atom}
use Rattle.protocol_values.specs.declared.Base.{Base}
use Rattle.protocol_values.specs.declared.Commit.{Commit}
use Rattle.protocol_values.specs.declared.Offer.{Offer}
use Rattle.protocol_values.specs.declared.Row.{Row}
use Rattle.journal_replay.specs.Replays.{OpensAs, StandsAfter, TellsEnd, TellsOpen, offered}
use Rattle.journal_replay.specs.Runs.{Config, EndsAs, IsOffering, MayTake, Starts, config_of, end_of}
use Rattle.thread.specs.declared.end.End.{End}
use Rattle.thread.specs.declared.end.End.TheVariants as ends
use Rattle.journal_replay.specs.declared.state.State.{State}
use Rattle.pcml_answers.specs.Reasons.{IsOpen, IsReason, Needs}
use Rattle.journal_replay.specs.Parts.{takes_part}
use Rattle.pcml_answers.specs.Telling.{TellsOffers, TellsRow, stopped_reason}
use Rattle.pcml_answers.specs.declared.reason.Reason.{Reason}
use Rattle.pcml_answers.specs.declared.reason.Reason.TheVariants.{Unstarted, Ended, Faulted, Spent, Sync, NoOffer, OtherOffer}
use Rattle.pcml_answers.proofs.Counting.{counted}
use Rattle.pcml_answers.proofs.Needing.{needs-row, needs-thread}

-- A THREAD THAT WAITS

-- it has started, may make one sync more, and offers an event
pub record Waits (ps : List Proc) (rows : ℕ) (config : Config) (t : ℕ) : Type 0 where
  pub started : Starts ps config t
  pub few : length (config t) < rows
  pub event : Tree
  pub offered : IsOffering ps t (config t) event

waiting-test : (b : Bool) → cond b ends.Waiting ends.Spent ≡ ends.Waiting → b ≡ true
waiting-test true e = refl
waiting-test false e = absurd cc

waiting-offers : (rows count : ℕ) (o : Outcome Thread) (printed : List Atom) → end_of rows count o ≡ Some (ends.Waiting, printed) → (count < rows) × ((event : Tree) × (said : Said) × (o ≡ Offers event said))
waiting-offers rows count (Goes value) printed e = absurd (none-some _ e)
waiting-offers rows count (Offers event said) printed e =
    let parts = some_pair_parts (cond (ltb count rows) ends.Waiting ends.Spent) ends.Waiting said.printed printed e in
    (ltb-true count rows (waiting-test (ltb count rows) parts.0), (event, said, refl))
waiting-offers rows count (Finishes said []) printed e = let differ = (some_pair_parts ends.Ended ends.Waiting said.printed printed e).0 in absurd cc
waiting-offers rows count (Finishes said (r ∷ left)) printed e = absurd (none-some _ e)
waiting-offers rows count (Fails fault said []) printed e = let differ = (some_pair_parts (ends.Faulted fault) ends.Waiting said.printed printed e).0 in absurd cc
waiting-offers rows count (Fails fault said (r ∷ left)) printed e = absurd (none-some _ e)
waiting-offers rows count Strays printed e = absurd (none-some _ e)

waits : (ps : List Proc) (rows : ℕ) (config : Config) (t : ℕ) (printed : List Atom) → EndsAs ps rows t config ends.Waiting printed → Waits ps rows config t
waits ps rows config t printed is = ⊎_elim
    (λ h.
    let w = waiting-offers rows (length (config t)) (after is.process.body (length is.process.variables) t (config t)) printed h.1 in
    record { started = h.0; few = w.0; event = w.1.0; offered = record { process = is.process; is_its = is.is_its; said = w.1.1; offers = w.1.2 } })
    (λ h. absurd (let e = h.1 in cc))
    is.ends

-- a thread that may take something waits
pub take-waits : (ps : List Proc) (rows : ℕ) (config : Config) (at : Row × ℕ) (b : Base) → MayTake ps rows config at b → (printed : List Atom) × EndsAs ps rows at.0.thread config ends.Waiting printed
take-waits ps rows config at b take =
    let t = at.0.thread in
    let o = take.can.offered in
    let few : ltb (length (config t)) rows ≡ true = lt-ltb (length (config t)) rows take.can.few in (
      o.said.printed,
      record {
        process = o.process;
        is_its = o.is_its;
        ends = inl (
          take.started,
          ap (λ (x : Outcome Thread). end_of rows (length (config t)) x) o.offers
              ∙ ap (λ (x : Bool). Some (cond x ends.Waiting ends.Spent, o.said.printed)) few,
        );
      },
    )

-- what is told of its open sync are the offers of its event
offers-told : (ps : List Proc) (rows : ℕ) (config : Config) (t : ℕ) (os : List Offer) (nacks : List ℕ) (w : Waits ps rows config t) → OpensAs ps t config os nacks → os ≡ offers w.event
offers-told ps rows config t os nacks w is = ⊎_elim
    (λ h.
    let process : is.process ≡ w.offered.process = same_Some is.process w.offered.process (sym is.is_its ∙ w.offered.is_its) in
    h.1 ∙ ap (λ (p : Proc). offered (after p.body (length p.variables) t (config t))) process ∙ ap offered w.offered.offers)
    (λ h. absurd (h.0 w.started))
    is.opens

base-at : (event : Tree) (n : ℕ) (o : Offer) → slice_get (offers event) n ≡ Some o → (base : BaseEvent) × (slice_get (bases event) n ≡ Some base) × (base.base ≡ o.base)
base-at event n o is =
    let at = slice_get-map offer_of (bases event) n in
    ⊎_elim
    (λ h. (h.0, h.2, ap (λ (x : Offer). x.base) (same_Some (offer_of h.0) o (sym (at ∙ ap (option_map offer_of) h.2) ∙ is))))
    (λ h. absurd (none-some o (sym (at ∙ ap (option_map offer_of) h.1) ∙ is)))
    (slice_get_cases (bases event) n).1

-- ITS ROWS

module _ (s : State) (earlier : List Commit) (at : Row × ℕ) (b : Base) where
  -- the thread does not wait
  pub stopped-row : (end : End) (reason : Reason) → TellsEnd s at.0.thread end → stopped_reason at.0.thread end ≡ Some reason → TellsRow s earlier at b (Some reason)
  stopped-row ends.Waiting reason tells e = absurd (none-some reason e)
  stopped-row ends.Unstarted reason tells e = λ ps rows c stands needs.
      subst (IsReason ps rows earlier c) (same_Some (Unstarted at.0.thread) reason e) (needs-thread c at b needs, tells ps rows earlier stands)
  stopped-row ends.Ended reason tells e = λ ps rows c stands needs.
      subst (IsReason ps rows earlier c) (same_Some (Ended at.0.thread) reason e) (needs-thread c at b needs, tells ps rows earlier stands)
  stopped-row (ends.Faulted fault) reason tells e = λ ps rows c stands needs.
      subst (IsReason ps rows earlier c) (same_Some (Faulted at.0.thread) reason e) (needs-thread c at b needs, (fault, tells ps rows earlier stands))
  stopped-row ends.Spent reason tells e = λ ps rows c stands needs.
      subst (IsReason ps rows earlier c) (same_Some (Spent at.0.thread) reason e) (needs-thread c at b needs, tells ps rows earlier stands)

  pub goes-on : (end : End) → stopped_reason at.0.thread end ≡ None → end ≡ ends.Waiting
  goes-on ends.Waiting e = refl
  goes-on ends.Unstarted e = absurd cc
  goes-on ends.Ended e = absurd cc
  goes-on (ends.Faulted fault) e = absurd cc
  goes-on ends.Spent e = absurd cc

  -- the row is not its next sync
  pub other-row : (next : ℕ) → next ≡ count_by (takes_part at.0.thread) earlier → at.0.sync ≢ next → TellsRow s earlier at b (Some (Sync at.0 next))
  other-row next is ne = λ ps rows c stands needs. (needs-row c at b needs, is ∙ counted ps rows earlier at.0.thread stands.run, ne)

  -- The row is its next sync, with these offers.
  pub record Stands (os : List Offer) : Type 0 where
    pub nacks : List ℕ
    pub end : TellsEnd s at.0.thread ends.Waiting
    pub opens : TellsOpen s at.0.thread os nacks
    pub next : at.0.sync ≡ count_by (takes_part at.0.thread) earlier

  -- where its run leads: the event that it offers
  record Here (ps : List Proc) (rows : ℕ) (os : List Offer) : Type 0 where
    waits : Waits ps rows (config_of earlier) at.0.thread
    row : IsOpen ps (config_of earlier) at.0 waits.event
    are : os ≡ offers waits.event

  here : (ps : List Proc) (rows : ℕ) (os : List Offer) → Stands os → StandsAfter ps rows earlier s → Here ps rows os
  here ps rows os stands after =
      let t = at.0.thread in
      let told = stands.end ps rows earlier after in
      let w = waits ps rows (config_of earlier) t told.0 told.1 in
      record {
        waits = w;
        row = record { next = stands.next ∙ counted ps rows earlier t after.run; offered = w.offered };
        are = offers-told ps rows (config_of earlier) t os stands.nacks w (stands.opens ps rows earlier after);
      }

  can-take : (ps : List Proc) (rows : ℕ) (os : List Offer) (o : Offer) → Here ps rows os → slice_get os at.1 ≡ Some o → o.base ≡ b → MayTake ps rows (config_of earlier) at b
  can-take ps rows os o h is base =
      let w = h.waits in
      let there = base-at w.event at.1 o (ap (λ (l : List Offer). slice_get l at.1) (sym h.are) ∙ is) in
      record {
        started = w.started;
        can = record { few = w.few; next = h.row.next; event = w.event; offered = w.offered; base = there.0; is = there.1; same = there.2 ∙ base };
      }

  too-few : (ps : List Proc) (rows : ℕ) (os : List Offer) (count : ℕ) (c : Commit) → Here ps rows os → count ≡ length os → length os ≤ at.1 → Needs c at b → IsReason ps rows earlier c (NoOffer at count)
  too-few ps rows os count c h is past needs =
      let w = h.waits in
      let many : count ≡ length (bases w.event) = is ∙ ap length h.are ∙ length-map (bases w.event) offer_of in
      ((b, needs), (w.event, h.row, many), omega (arith, is, past))

  other-offer : (ps : List Proc) (rows : ℕ) (os : List Offer) (offered : Base) (c : Commit) → Here ps rows os → (o : Offer) × (slice_get os at.1 ≡ Some o) × (o.base ≡ offered) → offered ≢ b → Needs c at b →
      IsReason ps rows earlier c (OtherOffer at offered b)
  other-offer ps rows os offered c h o ne needs =
      let w = h.waits in
      let there = base-at w.event at.1 o.0 (ap (λ (l : List Offer). slice_get l at.1) (sym h.are) ∙ o.1) in
      (needs, (w.event, h.row, (there.0, there.1, there.2 ∙ o.2)), ne)

  -- the offers decide
  pub open-row : (os : List Offer) (found : Option Reason) → Stands os → TellsOffers os at b found → TellsRow s earlier at b found
  open-row os None stands told = λ ps rows after. can-take ps rows os told.0 (here ps rows os stands after) told.1 told.2
  open-row os (Some (NoOffer place count)) stands told = λ ps rows c after needs.
      subst (λ (p : Row × ℕ). IsReason ps rows earlier c (NoOffer p count)) (sym told.0) (too-few ps rows os count c (here ps rows os stands after) told.1 told.2 needs)
  open-row os (Some (OtherOffer place offered needed)) stands told = λ ps rows c after needs.
      subst (λ (p : (Row × ℕ) × Base). IsReason ps rows earlier c (OtherOffer p.0 offered p.1)) (λ i. (sym told.0 i, sym told.1 i))
      (other-offer ps rows os offered c (here ps rows os stands after) told.2 told.3 needs)
  open-row os (Some other) stands told = absurd told
