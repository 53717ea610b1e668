-- What is added to a code leaves what it has.
use Rattle.std.proofs.Common.{◌≡◌, ℕ, zero, suc, List, [], ◌∷◌, ◌++◌, Option, Some, None, ◌⊎◌, inl, inr, ⊎_elim, length, slice_get, refl, sym, ◌∙◌, ap, subst, append_assoc}
use Rattle.std.proofs.lemmas.Option.{none-some, same_Some}
use Rattle.std.specs.Option.{option_map}
use Rattle.script_tree.specs.Lined.{Event, Stmt, Lets, Prints, Syncs, Branches, Loops, LoopsForever, Ends, Spawns, Block, Stops, Runs, block_of}
use Rattle.thread_code.specs.declared.Place.{Place}
use Rattle.thread_code.specs.declared.Plan.{Plan}
use Rattle.thread_code.specs.declared.Stage.{Stage as SeenStage}
use Rattle.thread_code.specs.declared.Stage.TheVariants as seen
use Rattle.thread_code.specs.declared.Code.{Code}
use Rattle.thread_code.specs.Stages.{Stage, Offered, Performed, Made}
use Rattle.thread_code.specs.Codes.{AreStages, BlockLeads, Grows, HasPlan, IsAt, IsLinked, IsPlan, IsStage, Leads, StmtLeads}

-- LISTS

get_before : {A : Type 0} (xs ys : List A) (i : ℕ) (x : A) → slice_get xs i ≡ Some x → slice_get (xs ++ ys) i ≡ Some x
get_before [] ys i x h = absurd (none-some x h)
get_before (a ∷ xs) ys zero x h = h
get_before (a ∷ xs) ys (suc i) x h = get_before xs ys i x h

get_last : {A : Type 0} (xs : List A) (y : A) → slice_get (xs ++ y ∷ []) (length xs) ≡ Some y
get_last [] y = refl
get_last (a ∷ xs) y = get_last xs y

get_either : {A : Type 0} (xs : List A) (y : A) (i : ℕ) (x : A) → slice_get (xs ++ y ∷ []) i ≡ Some x → (slice_get xs i ≡ Some x) ⊎ (y ≡ x)
get_either [] y zero x h = inr (same_Some y x h)
get_either [] y (suc i) x h = absurd (none-some x h)
get_either (a ∷ xs) y zero x h = inl h
get_either (a ∷ xs) y (suc i) x h = get_either xs y i x h

-- CODES

pub grows_on : (a b c : Code) → Grows a b → Grows b c → Grows a c
grows_on a b c g h = record {
  places = λ at p i. h.places at p (g.places at p i);
  plans = λ number plan i. h.plans number plan (g.plans number plan i);
}

pub grows_by_place : (a b : Code) (p : Place) → b.places.items ≡ a.places.items ++ p ∷ [] → b.plans.items ≡ a.plans.items → Grows a b
grows_by_place a b p places plans = record {
  places = λ at q h. ap (λ l. slice_get l at) places ∙ get_before a.places.items (p ∷ []) at q h;
  plans = λ number plan h. ap (λ l. slice_get l number) plans ∙ h;
}

pub grows_by_plan : (a b : Code) (plan : Plan) → b.places.items ≡ a.places.items → b.plans.items ≡ a.plans.items ++ plan ∷ [] → Grows a b
grows_by_plan a b plan places plans = record {
  places = λ at q h. ap (λ l. slice_get l at) places ∙ h;
  plans = λ number p h. ap (λ l. slice_get l number) plans ∙ get_before a.plans.items (plan ∷ []) number p h;
}

-- WHAT STAYS

mapped : {A B : Type 0} (f : A → B) (x y : Option A) (b : B) → ((a : A) → x ≡ Some a → y ≡ Some a) → option_map f x ≡ Some b → option_map f y ≡ Some b
mapped f (Some a) y b keeps h = ap (option_map f) (keeps a refl) ∙ h
mapped f None y b keeps h = absurd (none-some b h)

pub is_at_on : (c d : Code) (at : ℕ) (block : Block) → Grows c d → IsAt c at block → IsAt d at block
is_at_on c d at block g h =
    mapped (λ p. block_of p.block.value) (slice_get c.places.items at) (slice_get d.places.items at) block (λ p. g.places at p) h

is_stage_on : (c d : Code) (s : SeenStage) (stage : Stage) → Grows c d → IsStage c s stage → IsStage d s stage
is_stage_on c d (seen.Offer event mask) (Offered base scopes) g h = h
is_stage_on c d (seen.Body at) (Performed body) g h = is_at_on c d at body g h
is_stage_on c d (seen.Nack variable) (Made name) g h = h
is_stage_on c d (seen.Offer event mask) (Performed body) g h = h
is_stage_on c d (seen.Offer event mask) (Made name) g h = h
is_stage_on c d (seen.Body at) (Offered base scopes) g h = h
is_stage_on c d (seen.Body at) (Made name) g h = h
is_stage_on c d (seen.Nack variable) (Offered base scopes) g h = h
is_stage_on c d (seen.Nack variable) (Performed body) g h = h

pub are_stages_on : (c d : Code) (ss : List SeenStage) (stages : List Stage) → Grows c d → AreStages c ss stages → AreStages d ss stages
are_stages_on c d [] [] g h = tt
are_stages_on c d [] (stage ∷ stages) g h = h
are_stages_on c d (s ∷ ss) [] g h = h
are_stages_on c d (s ∷ ss) (stage ∷ stages) g h = (is_stage_on c d s stage g h.0, are_stages_on c d ss stages g h.1)

pub are_stages_then : (c : Code) (ss : List SeenStage) (stages : List Stage) (s : SeenStage) (stage : Stage) → AreStages c ss stages → IsStage c s stage → AreStages c (ss ++ s ∷ []) (stages ++ stage ∷ [])
are_stages_then c [] [] s stage h is = (is, tt)
are_stages_then c [] (other ∷ stages) s stage h is = absurd h
are_stages_then c (other ∷ ss) [] s stage h is = absurd h
are_stages_then c (other ∷ ss) (another ∷ stages) s stage h is = (h.0, are_stages_then c ss stages s stage h.1 is)

pub stages_behind : (c : Code) (ss : List SeenStage) (before : List Stage) (stage : Stage) (behind whole : List Stage) → whole ≡ stage ∷ behind → AreStages c ss ((before ++ stage ∷ []) ++ behind) → AreStages c ss (before ++ whole)
stages_behind c ss before stage behind whole is h =
    subst (λ l. AreStages c ss l) (append_assoc before (stage ∷ []) behind ∙ ap (λ l. before ++ l) (sym is)) h

is_plan_on : (c d : Code) (line : ℕ) (names : Option (List ℕ)) (event : Event) (rest : Block) (plan : Plan) → Grows c d → IsPlan c line names event rest plan → IsPlan d line names event rest plan
is_plan_on c d line names event rest plan g h = record {
  line_is = h.line_is;
  names = h.names;
  event = h.event;
  stages = are_stages_on c d _ _ g h.stages;
  small = h.small;
  then = is_at_on c d plan.then rest g h.then;
}

pub has_plan_on : (c d : Code) (number line : ℕ) (names : Option (List ℕ)) (event : Event) (rest : Block) → Grows c d → HasPlan c number line names event rest → HasPlan d number line names event rest
has_plan_on c d number line names event rest g h = record {
  plan = h.plan;
  there = g.plans number h.plan h.there;
  is = is_plan_on c d line names event rest h.plan g h.is;
}

stmt_leads_on : (c d : Code) (p : Place) (line : ℕ) (stmt : Stmt) (rest : Block) → Grows c d → StmtLeads c p line stmt rest → StmtLeads d p line stmt rest
stmt_leads_on c d p line (Lets name value) rest g h = tt
stmt_leads_on c d p line (Prints value) rest g h = tt
stmt_leads_on c d p line (Syncs names event) rest g h = has_plan_on c d p.first line names event rest g h
stmt_leads_on c d p line (Branches test first second) rest g h = (is_at_on c d p.first first g h.0, is_at_on c d p.second second g h.1)
stmt_leads_on c d p line (Loops times at names event body) rest g h = has_plan_on c d p.first at names event body g h
stmt_leads_on c d p line (LoopsForever at names event body) rest g h = has_plan_on c d p.first at names event body g h
stmt_leads_on c d p line Ends rest g h = tt
stmt_leads_on c d p line (Spawns process) rest g h = tt

block_leads_on : (c d : Code) (p : Place) (block : Block) → Grows c d → BlockLeads c p block → BlockLeads d p block
block_leads_on c d p Stops g h = tt
block_leads_on c d p (Runs stmt line rest) g h = (is_at_on c d p.next rest g h.0, stmt_leads_on c d p line stmt rest g h.1)

-- PUTTING IN

pub linked_by_place : (a b : Code) (p : Place) → IsLinked a → Leads a p → b.places.items ≡ a.places.items ++ p ∷ [] → b.plans.items ≡ a.plans.items → IsLinked b
linked_by_place a b p linked leads places plans at q h =
    let grows = grows_by_place a b p places plans in
    ⊎_elim
    (λ before. block_leads_on a b q _ grows (linked at q before))
    (λ same. subst (Leads b) same (block_leads_on a b p _ grows leads))
    (get_either a.places.items p at q (sym (ap (λ l. slice_get l at) places) ∙ h))

pub linked_by_plan : (a b : Code) (plan : Plan) → IsLinked a → b.places.items ≡ a.places.items → b.plans.items ≡ a.plans.items ++ plan ∷ [] → IsLinked b
linked_by_plan a b plan linked places plans at q h =
    block_leads_on a b q _ (grows_by_plan a b plan places plans) (linked at q (sym (ap (λ l. slice_get l at) places) ∙ h))

pub place_there : (a b : Code) (p : Place) → b.places.items ≡ a.places.items ++ p ∷ [] → IsAt b (length a.places.items) (block_of p.block.value)
place_there a b p places = ap (option_map (λ q. block_of q.block.value)) (ap (λ l. slice_get l (length a.places.items)) places ∙ get_last a.places.items p)

pub plan_there : (a b : Code) (plan : Plan) → b.plans.items ≡ a.plans.items ++ plan ∷ [] → slice_get b.plans.items (length a.plans.items) ≡ Some plan
plan_there a b plan plans = ap (λ l. slice_get l (length a.plans.items)) plans ∙ get_last a.plans.items plan

-- where a code begins is no part of how it is linked
pub linked_alike : (a b : Code) → IsLinked a → b.places.items ≡ a.places.items → b.plans.items ≡ a.plans.items → IsLinked b
linked_alike a b linked places plans at p h = block_leads_on a b p _ grows (linked at p (sym (ap (λ l. slice_get l at) places) ∙ h))
  where
    grows : Grows a b
    grows = record {
      places = λ at p h. ap (λ l. slice_get l at) places ∙ h;
      plans = λ number plan h. ap (λ l. slice_get l number) plans ∙ h;
    }
