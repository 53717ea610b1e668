use Rattle.std.proofs.Common.{rules, ◌≡◌, ◌+◌, ◌≤◌, [], ◌∷◌, ◌++◌, All, Global, Some, arith, refl, sym, subst, subst₂, ap, ◌∙◌, ⊎_elim}
use Rattle.std.proofs.lemmas.List.Elements.{All-pop, All-push}
use Rattle.std.proofs.lemmas.Nat.{one_shl}
use Rattle.std.specs.declared.sync.Arc.{Arc}
use Rattle.script_tree.specs.declared.tree.Block.{Block as SeenBlock, size-Block, the_lemmas}
use Rattle.script_tree.specs.declared.tree.Event.{Event as SeenEvent}
use Rattle.script_tree.specs.Lined.{block_of, event_of, nack_count}
use Rattle.thread_code.specs.declared.Stage.TheVariants as seen
use Rattle.thread_code.specs.Codes.{AreStages, IsAt}
use Rattle.thread_code.specs.Stages.{Made, Offered, Performed, stages}
use Rattle.thread_code.proofs.Chains.{Chain, behind, chain_fits, chain_last, chain_then, leads_behind}
use Rattle.thread_code.proofs.Growing.{are_stages_on, are_stages_then, grows_on, is_at_on, stages_behind}
use Rattle.thread_code.proofs.compiling.+adding.Goals as goal

pub add_block-loop-behind-preserved : goal.add_block-loop-behind-preserved
add_block-loop-behind-preserved t c =
    let whole = c.args.block.now.value in
    let rest = c.loop-behind.rest.now.value in
    let Below : Arc SeenBlock Global → Type 0 = λ p. size-Block p.value ≤ size-Block whole in
    let chain = chain_then c.loop-behind.parts.items c.in_ok-try_clone.field-0 whole rest c.loop-behind.invariant.chain c.in_ok-try_clone.ensures in
    let size : Below c.in_ok-try_clone.field-0 = subst (λ b. size-Block b ≤ size-Block whole) (sym c.in_ok-try_clone.ensures) c.loop-behind.invariant.size in
    record {
      chain = subst₂ (λ parts r. Chain parts whole r) (sym c.in_ok-push.ensures.items) (ap behind (sym c.deref.ensures ∙ c.in-Then.is)) chain;
      sizes = subst (λ parts. All Below parts) (sym c.in_ok-push.ensures.items) (All-push Below c.loop-behind.parts.items c.in_ok-try_clone.field-0 c.loop-behind.invariant.sizes size);
      size = search (rules, the_lemmas);
    }

pub add_block-add_statement-requires : goal.add_block-add_statement-requires
add_block-add_statement-requires t c =
    let whole = c.args.block.now.value in
    let part = c.in-Some.part in
    let Below : Arc SeenBlock Global → Type 0 = λ p. size-Block p.value ≤ size-Block whole in
    let i = c.loop-part.invariant in
    let size : Below part = (All-pop Below c.loop-part.parts.items c.pop.new.self.items (Some part) c.in-Some.ensures.items i.sizes).1 in
    let last = chain_last c.pop.new.self.items part whole i.rest (subst (λ parts. Chain parts whole i.rest) c.in-Some.ensures.items i.chain) in
    let fits = chain_fits c.pop.new.self.items whole part.value last.0 c.requires.fits in
    (omega (arith, size, c.decreases), (i.linked, (fits, leads_behind c.loop-part.code c.loop-part.at part.value (subst (λ b. IsAt c.loop-part.code c.loop-part.at (block_of b)) (sym last.1) i.there))))

pub add_block-loop-part-preserved : goal.add_block-loop-part-preserved
add_block-loop-part-preserved t c =
    let whole = c.args.block.now.value in
    let part = c.in-Some.part in
    let Below : Arc SeenBlock Global → Type 0 = λ p. size-Block p.value ≤ size-Block whole in
    let i = c.loop-part.invariant in
    let last = chain_last c.pop.new.self.items part whole i.rest (subst (λ parts. Chain parts whole i.rest) c.in-Some.ensures.items i.chain) in
    record {
      rest = part.value;
      chain = last.0;
      sizes = (All-pop Below c.loop-part.parts.items c.pop.new.self.items _ c.pop.ensures.items i.sizes).0;
      there = c.in_ok-at-2.ensures.there;
      grows = grows_on _ _ _ i.grows c.in_ok-at-2.ensures.grows;
      linked = c.in_ok-at-2.ensures.linked;
    }

pub add_stages-returns-in_ok-next-in-Guard-clause-stages : goal.add_stages-returns-in_ok-next-in-Guard-clause-stages
add_stages-returns-in_ok-next-in-Guard-clause-stages t c before h =
    let code = c.add_block.new.code in
    let body = block_of c.in-Guard.body.value in
    let grown = are_stages_on c.args.code.now code c.args.list.now.items before c.in_ok-body-in-Guard.ensures.grows h in
    let pushed = are_stages_then code c.args.list.now.items before (seen.Body c.in_ok-body-in-Guard.body) (Performed body) grown c.in_ok-body-in-Guard.ensures.there in
    stages_behind c.add_stages-in-Guard.new.code _ before (Performed body) _ _ (ap (λ e. stages c.args.around c.args.next (event_of e)) (sym c.deref.ensures ∙ c.in-Guard.is))
    (c.in_ok-next-in-Guard.ensures.stages (before ++ Performed body ∷ []) (subst (λ l. AreStages code l (before ++ Performed body ∷ [])) (sym c.in_ok-push-in-Guard.ensures.items) pushed))

pub add_stages-returns-in_ok-next-in-Nack-clause-stages : goal.add_stages-returns-in_ok-next-in-Nack-clause-stages
add_stages-returns-in_ok-next-in-Nack-clause-stages t c before h =
    let code = c.add_block-in-Nack.new.code in
    let body = block_of c.in-Nack.body.value in
    let made = before ++ Made c.in-Nack.name ∷ [] in
    let first = c.push-in-Nack.new.self.items in
    let grown = are_stages_on c.args.code.now code c.args.list.now.items before c.in_ok-body-in-Nack.ensures.grows h in
    let named = subst (λ l. AreStages code l made) (sym c.in_ok-push-in-Nack.ensures.items) (are_stages_then code c.args.list.now.items before (seen.Nack c.in-Nack.name) (Made c.in-Nack.name) grown refl) in
    let pushed = are_stages_then code first made (seen.Body c.in_ok-body-in-Nack.body) (Performed body) named c.in_ok-body-in-Nack.ensures.there in
    let behind = c.in_ok-next-in-Nack.ensures.stages (made ++ Performed body ∷ []) (subst (λ l. AreStages code l (made ++ Performed body ∷ [])) (sym c.in_ok-push-in-Nack-2.ensures.items) pushed) in
    let is = ap event_of (sym c.deref.ensures ∙ c.in-Nack.is) in
    let few = subst (λ e. c.args.next + nack_count e ≤ 8) is c.requires.few in
    let masked = rw (one_shl c.args.next 8 (omega (arith, few))) at behind in
    let new = c.add_stages-in-Nack.new.code in
    let items = c.add_stages-in-Nack.new.list.items in
    stages_behind new items before (Made c.in-Nack.name) _ _ (ap (λ e. stages c.args.around c.args.next e) is) (stages_behind new items made (Performed body) _ _ refl masked)

pub add_sync-returns-clause-plan : goal.add_sync-returns-clause-plan
add_sync-returns-clause-plan t c rest at = record {
  plan = _;
  there = c.in_ok-number.ensures.there;
  is = record {
    line_is = refl;
    names = refl;
    event = ap event_of c.in_ok-try_clone.ensures;
    stages =
        subst (λ l. AreStages c.add_plan.new.code l (stages 0 0 (event_of c.args.event.now.value))) (sym c.shrink_to_fit.ensures.items)
        (are_stages_on c.add_stages.new.code c.add_plan.new.code c.add_stages.new.list.items _ c.in_ok-number.ensures.grows (c.in_ok-add_stages.ensures.stages [] (subst (λ l. AreStages c.args.code.now l []) (sym c.new-stages.ensures.items) tt)));
    small = c.requires.fits.1;
    then = is_at_on _ _ c.args.then rest (grows_on _ _ _ c.in_ok-add_stages.ensures.grows c.in_ok-number.ensures.grows) at;
  };
}

pub add_stages-returns-in_ok-push-in-Send-clause-stages : goal.add_stages-returns-in_ok-push-in-Send-clause-stages
add_stages-returns-in_ok-push-in-Send-clause-stages t c before h =
    let code = c.args.code.now in
    let event = event_of c.args.event.now.value in
    let IsBase : SeenEvent → Type 0 = λ e. stages c.args.around c.args.next (event_of e) ≡ Offered (event_of e) c.args.around ∷ [] in
    let at : (e : SeenEvent) → c.deref.result.now ≡ e → IsBase e → IsBase c.args.event.now.value = λ e is base. subst IsBase (sym (sym c.deref.ensures ∙ is)) base in
    let base : IsBase c.args.event.now.value = ⊎_elim (λ w. at _ w.2 refl) (⊎_elim (λ w. at _ w.1 refl) (⊎_elim (λ w. at _ w.1 refl) (⊎_elim (λ w. at _ w refl) (⊎_elim (λ w. at _ w.1 refl) (λ w. at _ w.1 refl))))) c.in-Send.is in
    let pushed = are_stages_then code c.args.list.now.items before (seen.Offer c.in_ok-try_clone-in-Send.field-0 c.args.around) (Offered event c.args.around) h (ap event_of c.in_ok-try_clone-in-Send.ensures, refl) in
    subst₂ (λ l stages. AreStages code l (before ++ stages)) (sym c.in_ok-push-in-Send.ensures.items) (sym base) pushed
