-- An open sync: what it offers, and what a commit of it does.
use Rattle.std.proofs.Common.{◌≡◌, ℕ, ◌<◌, ◌≤◌, ◌∷◌, Some, length, slice_get, sym, ap, ◌∙◌, arith}
use Rattle.std.proofs.lemmas.List.{length-map, take_all}
use Rattle.std.specs.Option.{option_map}
use Rattle.thread_code.specs.Stages.{stages}
use Rattle.thread_code.specs.declared.Code.{Code}
use Rattle.thread_code.specs.declared.Plan.{Plan}
use Rattle.event.specs.Tree.{offers, scope_nacks}
use Rattle.script_tree.specs.Lined.{base_count}
use Rattle.script_tree.specs.Trees.{names_of}
use Rattle.script_tree.specs.Lined.{LoopBody, event_of}
use Rattle.protocol_values.specs.declared.Message.{Message}
use Rattle.protocol_values.specs.declared.Offer.{Offer}
use Rattle.thread.specs.declared.stack.Offered.{Offered}
use Rattle.thread.specs.Standing.{State, Outcome, ◌>>=◌, Having, received, run_block}
use Rattle.thread.specs.Fitting.{IsOffered, masks, nacks_made}
use Rattle.thread.specs.Passing.{Through, Past, pass}
use Rattle.thread.specs.Resolving.{Lists, tree_as}
use Rattle.thread.specs.Stacks.{offered, own, place_block, planned, sync_at}
use Rattle.thread.proofs.Passing.{pass_commits, passes_through}
use Rattle.thread.proofs.Shaping.{scopes, tree_nacks, tree_offers}
use Rattle.thread.proofs.Staging.{nacks_of, offers_of}

module _ (c : Code) (l : Lists) (o : Offered) (fits : IsOffered c l o) (whole : o.stage ≡ length (stages 0 0 (sync_at c o.plan).event)) where
  all_masks : scopes (own o l).offers ≡ masks (stages 0 0 (sync_at c o.plan).event)
  all_masks = fits.masks ∙ ap masks (take_all o.stage _ (omega (arith, whole)))

  all_nacks : length (own o l).nacks ≡ nacks_made (stages 0 0 (sync_at c o.plan).event)
  all_nacks = fits.nacks ∙ ap nacks_made (take_all o.stage _ (omega (arith, whole)))

  -- its offers and nacks are those of its tree
  pub own_offers : offers (tree_as (sync_at c o.plan).event (own o l)) ≡ (own o l).offers
  own_offers = tree_offers (sync_at c o.plan).event (own o l) all_masks all_nacks

  pub own_nacks : scope_nacks (tree_as (sync_at c o.plan).event (own o l)) ≡ (own o l).nacks
  own_nacks = tree_nacks (sync_at c o.plan).event (own o l) all_masks all_nacks

  -- there are few of them
  own_count : length (own o l).offers ≡ base_count (sync_at c o.plan).event
  own_count = sym (length-map (own o l).offers (λ (x : Offer). x.scopes)) ∙ ap length all_masks ∙ offers_of 0 0 (sync_at c o.plan).event

  pub few_offers : length (own o l).offers ≤ 8
  few_offers = omega (arith, own_count, fits.sync.is.small.0)

  pub few_nacks : length (own o l).nacks ≤ 4
  few_nacks = omega (arith, all_nacks, nacks_of 0 0 (sync_at c o.plan).event, fits.sync.is.small.1)

  module _ (plan : Plan) (there : slice_get c.plans.items o.plan ≡ Some plan) where
    is : sync_at c o.plan ≡ planned c (Some plan)
    is = ap (planned c) there

    -- a message from one of its offers comes through
    pub comes_through : (n k : ℕ) (m : Message) (s : State) → n < length (own o l).offers → pass (event_of plan.event.value) n m s ≡ Past k → ⊥
    comes_through n k m s less past =
        omega (arith, less, own_count, ap (λ (t : LoopBody). base_count t.event) is, passes_through (event_of plan.event.value) n k m s past)

    -- and is what its names are set to
    pub commit_does : (n : ℕ) (m : Message) (s : State) (left : Outcome Having) → pass (event_of plan.event.value) n m s ≡ Through left →
        offered (sync_at c o.plan) (record { lists = own o l; state = record s { left = (n, m) ∷ s.left } }) ≡ ((left >>= λ h. received (option_map names_of plan.names) h.message h.state) >>= run_block (place_block c plan.then))
    commit_does n m s left through =
        ap (λ t. offered t (record { lists = own o l; state = record s { left = (n, m) ∷ s.left } })) is
        ∙ ap (λ x. x >>= run_block (place_block c plan.then)) (pass_commits (option_map names_of plan.names) (event_of plan.event.value) (own o l) (record s { left = (n, m) ∷ s.left }) n m s left through)
