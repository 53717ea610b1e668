-- A sync that goes through its next stage.
use Rattle.std.proofs.Common.{◌≡◌, ℕ, zero, suc, ◌+◌, ◌<◌, ◌≤◌, List, [], ◌∷◌, ◌++◌, None, Some, Ok, Err, drop, take, length, map, slice_get, refl, sym, ap, ap₂, ◌∙◌, subst, append-nil, arith, length-append}
use Rattle.std.proofs.lemmas.List.{drop-append-le, map-append, take-append-le}
use Rattle.std.proofs.lemmas.Option.{none-some, same_Some}
use Rattle.thread_code.specs.Codes.{AreStages, IsAt, IsStage}
use Rattle.thread_code.specs.Stages.{Stage, Offered, Performed, Made, stages}
use Rattle.thread_code.specs.declared.Code.{Code}
use Rattle.thread_code.specs.declared.Plan.{Plan}
use Rattle.thread_code.specs.declared.Stage.{Stage as SeenStage}
use Rattle.thread_code.specs.declared.Stage.TheVariants as seen
use Rattle.script_tree.specs.Lined.{Block, event_of}
use Rattle.protocol_values.specs.declared.Base.{Base}
use Rattle.protocol_values.specs.declared.Offer.{Offer}
use Rattle.thread.specs.declared.Fault.{Fault}
use Rattle.thread.specs.declared.stack.Frame.{Frame}
use Rattle.thread.specs.declared.stack.Frame.TheVariants.{Event}
use Rattle.thread.specs.declared.stack.Offered.{Offered as OfferedSync}
use Rattle.thread.specs.Standing.{set_line, State, Outcome, Goes, Fails, ◌>>=◌, given, run_block, with_nack}
use Rattle.thread.specs.Fitting.{FramesFit, HasPlace, IsOffered, masks, nacks_made}
use Rattle.thread.specs.Reaches.{frames_reach, offered_reach, stages_reach, stmts_reach}
use Rattle.thread.specs.Resolving.{Lists, Listed, base_value, run_stage, run_stages, with_offer, with_scope}
use Rattle.thread.specs.Stacks.{Further, frames_on, offered, offered_on, others, own, place_block, sync_at}
use Rattle.thread.proofs.Going.{bind_assoc, bind_each}
use Rattle.thread.proofs.Stacking.{at_is, at_there, frame_put, reach_pushed, with_frame_on}
use Rattle.thread.proofs.Staging.{masks-append, nacks_made-append}

-- STAGES OF A PLAN

-- a stage that is there
pub record StageAt (c : Code) (ss : List Stage) (i : ℕ) (x : SeenStage) : Type 0 where
  pub stage : Stage
  pub is : IsStage c x stage
  pub here : drop i ss ≡ stage ∷ drop (i + 1) ss
  pub taken : take (i + 1) ss ≡ take i ss ++ stage ∷ []
  pub within : i < length ss

pub stage_at : (c : Code) (xs : List SeenStage) (ss : List Stage) (i : ℕ) (x : SeenStage) → AreStages c xs ss → slice_get xs i ≡ Some x → StageAt c ss i x
stage_at c [] ss i x are there = absurd (none-some x there)
stage_at c (y ∷ xs) [] i x are there = absurd are
stage_at c (y ∷ xs) (stage ∷ ss) zero x are there = record {
  stage = stage;
  is = subst (λ z. IsStage c z stage) (same_Some y x there) are.0;
  here = refl;
  taken = refl;
  within = omega arith;
}
stage_at c (y ∷ xs) (stage ∷ ss) (suc i) x are there =
    let more = stage_at c xs ss i x are.1 there in
    let same : suc (i + 1) ≡ suc i + 1 = omega arith in
    record {
      stage = more.stage;
      is = more.is;
      here = more.here ∙ ap (λ n. more.stage ∷ drop n (stage ∷ ss)) same;
      taken = ap (λ n. take n (stage ∷ ss)) (sym same) ∙ ap (λ l. stage ∷ l) more.taken;
      within = omega (arith, more.within);
    }

no_stage : (c : Code) (xs : List SeenStage) (ss : List Stage) (i : ℕ) → AreStages c xs ss → slice_get xs i ≡ None → (length ss ≤ i) × (drop i ss ≡ [])
no_stage c [] [] zero are there = (omega arith, refl)
no_stage c [] [] (suc i) are there = (omega arith, refl)
no_stage c [] (stage ∷ ss) i are there = absurd are
no_stage c (y ∷ xs) [] i are there = absurd are
no_stage c (y ∷ xs) (stage ∷ ss) zero are there = absurd (none-some y (sym there))
no_stage c (y ∷ xs) (stage ∷ ss) (suc i) are there =
    let more = no_stage c xs ss i are.1 there in
    (omega (arith, more.0), more.1)

pub offer_stage : (c : Code) (event : _) (mask : ℕ) (stage : Stage) → IsStage c (seen.Offer event mask) stage → stage ≡ Offered (event_of event.value) mask
offer_stage c event mask (Offered base scopes) h = ap₂ Offered (sym h.0) (sym h.1)
offer_stage c event mask (Performed body) h = absurd h
offer_stage c event mask (Made name) h = absurd h

pub body_stage : (c : Code) (at : ℕ) (stage : Stage) → IsStage c (seen.Body at) stage → (body : Block) × (stage ≡ Performed body) × IsAt c at body
body_stage c at (Offered base scopes) h = absurd h
body_stage c at (Performed body) h = (body, refl, h)
body_stage c at (Made name) h = absurd h

pub nack_stage : (c : Code) (variable : ℕ) (stage : Stage) → IsStage c (seen.Nack variable) stage → stage ≡ Made variable
nack_stage c variable (Offered base scopes) h = absurd h
nack_stage c variable (Performed body) h = absurd h
nack_stage c variable (Made name) h = ap Made (sym h)

-- LISTS

own_offer : (o : OfferedSync) (l : Lists) (x : Offer) → o.offers ≤ length l.offers → own o (record l { offers = l.offers ++ x ∷ [] }) ≡ record (own o l) { offers = (own o l).offers ++ x ∷ [] }
own_offer o l x h = ap (λ os. record { offers = os; nacks = drop o.nacks l.nacks }) (drop-append-le o.offers l.offers (x ∷ []) h)

others_offer : (o : OfferedSync) (l : Lists) (x : Offer) → o.offers ≤ length l.offers → others o (record l { offers = l.offers ++ x ∷ [] }) ≡ others o l
others_offer o l x h = ap (λ os. record { offers = os; nacks = take o.nacks l.nacks }) (take-append-le o.offers l.offers (x ∷ []) h)

own_scope : (o : OfferedSync) (l : Lists) (k : ℕ) → o.nacks ≤ length l.nacks → own o (with_scope k l) ≡ with_scope k (own o l)
own_scope o l k h = ap (λ ns. record { offers = drop o.offers l.offers; nacks = ns }) (drop-append-le o.nacks l.nacks (k ∷ []) h)

others_scope : (o : OfferedSync) (l : Lists) (k : ℕ) → o.nacks ≤ length l.nacks → others o (with_scope k l) ≡ others o l
others_scope o l k h = ap (λ ns. record { offers = take o.offers l.offers; nacks = ns }) (take-append-le o.nacks l.nacks (k ∷ []) h)

-- the next stage
abbrev pub next : OfferedSync → OfferedSync
next o = record o { stage = o.stage + 1 }

-- what a stage that goes on leads to
abbrev as_offered : Lists → ℕ → State → Base → Outcome Listed
as_offered l mask s base = Goes (record { lists = with_offer base mask l; state = s })

abbrev as_scoped : Lists → ℕ → State → Outcome Listed
as_scoped l k t = Goes (record { lists = with_scope k l; state = t })

-- STEPS

module _ (c : Code) (o : OfferedSync) (l : Lists) (plan : Plan) (fits : IsOffered c l o) (there : slice_get c.plans.items o.plan ≡ Some plan) where
  abbrev line : ℕ
  line = (sync_at c o.plan).line

  abbrev whole : List Stage
  whole = stages 0 0 (sync_at c o.plan).event

  are : AreStages c plan.stages.items whole
  are = subst (λ (p : Plan). AreStages c p.stages.items whole) (same_Some fits.sync.plan plan (sym fits.sync.there ∙ there)) fits.sync.is.stages

  -- behind the last one the sync is open
  pub open_does : (below : Further) (s : State) → slice_get plan.stages.items o.stage ≡ None → (offered (sync_at c o.plan) (record { lists = own o l; state = s }) >>= below (others o l)) ≡ offered_on c o below l s
  open_does below s none = ap (λ ss. run_stages line ss (own o l) s >>= offered (sync_at c o.plan) >>= below (others o l)) (sym (no_stage c plan.stages.items whole o.stage are none).1)

  pub open_whole : slice_get plan.stages.items o.stage ≡ None → o.stage ≡ length whole
  open_whole none = omega (arith, fits.stage, (no_stage c plan.stages.items whole o.stage are none).0)

  module _ (x : SeenStage) (at : slice_get plan.stages.items o.stage ≡ Some x) where
    here : StageAt c whole o.stage x
    here = stage_at c plan.stages.items whole o.stage x are at

    -- what a stage and those behind it do
    stage_does : (below : Further) (s : State) (stage : Stage) → here.stage ≡ stage →
        offered_on c o below l s ≡ (run_stage line stage (own o l) s >>= (λ r. run_stages line (drop (o.stage + 1) whole) r.lists r.state) >>= offered (sync_at c o.plan) >>= below (others o l))
    stage_does below s stage is =
        ap (λ ss. run_stages line ss (own o l) s >>= offered (sync_at c o.plan) >>= below (others o l)) (here.here ∙ ap (λ st. st ∷ drop (o.stage + 1) whole) is)

    stage_falls : (stage : Stage) → here.stage ≡ stage → offered_reach c o ≡ 1 + stages_reach (stage ∷ drop (o.stage + 1) whole)
    stage_falls stage is = ap (λ ss. 1 + stages_reach ss) (here.here ∙ ap (λ st. st ∷ drop (o.stage + 1) whole) is)

    masks_so_far : (stage : Stage) → here.stage ≡ stage → masks (take (o.stage + 1) whole) ≡ masks (take o.stage whole) ++ masks (stage ∷ [])
    masks_so_far stage is = ap masks (here.taken ∙ ap (λ st. take o.stage whole ++ st ∷ []) is) ∙ masks-append (take o.stage whole) (stage ∷ [])

    nacks_so_far : (stage : Stage) → here.stage ≡ stage → nacks_made (take (o.stage + 1) whole) ≡ nacks_made (take o.stage whole) + nacks_made (stage ∷ [])
    nacks_so_far stage is = ap nacks_made (here.taken ∙ ap (λ st. take o.stage whole ++ st ∷ []) is) ∙ nacks_made-append (take o.stage whole) (stage ∷ [])

  -- a base event
  module _ (event : _) (mask : ℕ) (at : slice_get plan.stages.items o.stage ≡ Some (seen.Offer event mask)) where
    offers : (here (seen.Offer event mask) at).stage ≡ Offered (event_of event.value) mask
    offers = offer_stage c event mask _ (here (seen.Offer event mask) at).is

    pub offer_fails : (below : Further) (s : State) (fault : Fault) → base_value s.store (event_of event.value) ≡ Err fault → Fails fault s ≡ offered_on c o below l s
    offer_fails below s fault is =
        sym (stage_does (seen.Offer event mask) at below s _ offers
        ∙ ap (λ v. given s v >>= as_offered (own o l) mask s >>= (λ r. run_stages line (drop (o.stage + 1) whole) r.lists r.state) >>= offered (sync_at c o.plan) >>= below (others o l)) is)

    module _ (base : Base) (m : Lists) (put : m ≡ with_offer base mask l) where
      pub offer_does : (below : Further) (s : State) → base_value s.store (event_of event.value) ≡ Ok base → offered_on c (next o) below m s ≡ offered_on c o below l s
      offer_does below s is =
          ap₂ (λ (p q : Lists). run_stages line (drop (o.stage + 1) whole) p s >>= offered (sync_at c o.plan) >>= below q)
          (ap (own o) put ∙ own_offer o l (record { base = base; scopes = mask }) fits.first_offer) (ap (others o) put ∙ others_offer o l (record { base = base; scopes = mask }) fits.first_offer)
          ∙ sym (stage_does (seen.Offer event mask) at below s _ offers
          ∙ ap (λ v. given s v >>= as_offered (own o l) mask s >>= (λ r. run_stages line (drop (o.stage + 1) whole) r.lists r.state) >>= offered (sync_at c o.plan) >>= below (others o l)) is)

      pub offer_falls : offered_reach c (next o) < offered_reach c o
      offer_falls = omega (arith, stage_falls (seen.Offer event mask) at _ offers)

      pub offer_fits : (frames : List Frame) → FramesFit c frames (others o l) → IsOffered c m (next o) × FramesFit c frames (others (next o) m)
      offer_fits frames h =
          let x : Offer = record { base = base; scopes = mask } in
          let mine = ap (own o) put ∙ own_offer o l x fits.first_offer in (
            record {
              sync = fits.sync;
              stage = omega (arith, (here (seen.Offer event mask) at).within);
              first_offer = omega (arith, ap (λ (k : Lists). length k.offers) put, length-append l.offers (x ∷ []), fits.first_offer);
              first_nack = omega (arith, ap (λ (k : Lists). length k.nacks) put, fits.first_nack);
              masks =
                  ap (λ (k : Lists). map (λ (p : Offer). p.scopes) k.offers) mine ∙ map-append (λ (p : Offer). p.scopes) (own o l).offers (x ∷ [])
                  ∙ ap (λ ms. ms ++ mask ∷ []) fits.masks ∙ sym (masks_so_far (seen.Offer event mask) at _ offers);
              nacks = ap (λ (k : Lists). length k.nacks) mine ∙ omega (arith, fits.nacks, nacks_so_far (seen.Offer event mask) at _ offers);
            },
            subst (FramesFit c frames) (sym (ap (others o) put ∙ others_offer o l x fits.first_offer)) h,
          )

  -- a block
  module _ (q : ℕ) (at : slice_get plan.stages.items o.stage ≡ Some (seen.Body q)) (new old : List Frame) (put : new ≡ old ++ Event (next o) ∷ []) where
    body : (b : Block) × ((here (seen.Body q) at).stage ≡ Performed b) × IsAt c q b
    body = body_stage c q _ (here (seen.Body q) at).is

    pub body_does : (s : State) → (run_block (place_block c q) s >>= frames_on c new l) ≡ offered_on c o (frames_on c old) l s
    body_does s =
        let b = body.0 in
        let performed = run_block b s >>= set_line line in
        let more : Listed → Outcome Listed = λ r. run_stages line (drop (o.stage + 1) whole) r.lists r.state in
        let entered : State → Outcome Listed = λ t. Goes (record { lists = own o l; state = t }) in
        ap (λ b. run_block b s >>= frames_on c new l) (at_is c q b body.2)
        ∙ bind_each (run_block b s) _ _ (λ t. with_frame_on c new old (Event (next o)) l t put)
        ∙ sym (bind_assoc (run_block b s) (set_line line) (offered_on c (next o) (frames_on c old) l))
        ∙ sym (stage_does (seen.Body q) at (frames_on c old) s _ body.1
        ∙ ap (λ x. x >>= offered (sync_at c o.plan) >>= frames_on c old (others o l)) (bind_assoc performed entered more)
        ∙ ap (λ x. x >>= frames_on c old (others o l)) (bind_assoc performed (λ t. more (record { lists = own o l; state = t })) (offered (sync_at c o.plan)))
        ∙ bind_assoc performed (λ t. more (record { lists = own o l; state = t }) >>= offered (sync_at c o.plan)) (frames_on c old (others o l)))

    pub body_falls : stmts_reach (place_block c q) + frames_reach c new < offered_reach c o
    body_falls = omega (arith, ap stmts_reach (at_is c q body.0 body.2), reach_pushed c new old (Event (next o)) put, stage_falls (seen.Body q) at _ body.1)

    pub body_fits : FramesFit c old (others o l) → HasPlace c q × FramesFit c new l
    body_fits h = (
      at_there c q body.0 body.2,
      frame_put c new old (Event (next o)) l put (
        record {
          sync = fits.sync;
          stage = omega (arith, (here (seen.Body q) at).within);
          first_offer = fits.first_offer;
          first_nack = fits.first_nack;
          masks = fits.masks ∙ sym (masks_so_far (seen.Body q) at _ body.1 ∙ append-nil _);
          nacks = omega (arith, fits.nacks, nacks_so_far (seen.Body q) at _ body.1);
        },
        h,
      ),
    )

  -- a nack
  module _ (name : ℕ) (at : slice_get plan.stages.items o.stage ≡ Some (seen.Nack name)) where
    makes : (here (seen.Nack name) at).stage ≡ Made name
    makes = nack_stage c name _ (here (seen.Nack name) at).is

    pub nack_fails : (below : Further) (s : State) (fault : Fault) → with_nack name s ≡ Fails fault s → Fails fault s ≡ offered_on c o below l s
    nack_fails below s fault is =
        sym (stage_does (seen.Nack name) at below s _ makes
        ∙ ap (λ x. x >>= as_scoped (own o l) s.nacks >>= (λ r. run_stages line (drop (o.stage + 1) whole) r.lists r.state) >>= offered (sync_at c o.plan) >>= below (others o l)) is)

    module _ (k : ℕ) (m : Lists) (put : m ≡ with_scope k l) where
      pub nack_does : (below : Further) (s t : State) → s.nacks ≡ k → with_nack name s ≡ Goes t → offered_on c (next o) below m t ≡ offered_on c o below l s
      nack_does below s t same is =
          ap₂ (λ (p q : Lists). run_stages line (drop (o.stage + 1) whole) p t >>= offered (sync_at c o.plan) >>= below q)
          (ap (own o) put ∙ own_scope o l k fits.first_nack ∙ ap (λ n. with_scope n (own o l)) (sym same)) (ap (others o) put ∙ others_scope o l k fits.first_nack)
          ∙ sym (stage_does (seen.Nack name) at below s _ makes
          ∙ ap (λ x. x >>= as_scoped (own o l) s.nacks >>= (λ r. run_stages line (drop (o.stage + 1) whole) r.lists r.state) >>= offered (sync_at c o.plan) >>= below (others o l)) is)

      pub nack_falls : offered_reach c (next o) < offered_reach c o
      nack_falls = omega (arith, stage_falls (seen.Nack name) at _ makes)

      pub nack_fits : (frames : List Frame) → FramesFit c frames (others o l) → IsOffered c m (next o) × FramesFit c frames (others (next o) m)
      nack_fits frames h =
          let mine = ap (own o) put ∙ own_scope o l k fits.first_nack in (
            record {
              sync = fits.sync;
              stage = omega (arith, (here (seen.Nack name) at).within);
              first_offer = omega (arith, ap (λ (j : Lists). length j.offers) put, fits.first_offer);
              first_nack = omega (arith, ap (λ (j : Lists). length j.nacks) put, length-append l.nacks (k ∷ []), fits.first_nack);
              masks = ap (λ (j : Lists). map (λ (p : Offer). p.scopes) j.offers) mine ∙ fits.masks ∙ sym (masks_so_far (seen.Nack name) at _ makes ∙ append-nil _);
              nacks = omega (arith, ap (λ (j : Lists). length j.nacks) mine, length-append (own o l).nacks (k ∷ []), fits.nacks, nacks_so_far (seen.Nack name) at _ makes);
            },
            subst (FramesFit c frames) (sym (ap (others o) put ∙ others_scope o l k fits.first_nack)) h,
          )
