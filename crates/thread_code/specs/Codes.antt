-- When a code is that of a block: each place knows where its block goes on, and what each sync is to do.
use Rattle.std.specs.Prelude.{◌≡◌, ℕ, List, [], ◌∷◌, Option, Some, slice_get, ⊤}
use Rattle.std.specs.Option.{option_map}
use Rattle.script_tree.specs.Trees.{names_of}
use Rattle.script_tree.specs.Lined.{Event, Stmt, Lets, Prints, Syncs, Branches, Loops, LoopsForever, Ends, Spawns, Block, Stops, Runs, IsSmall, block_of, event_of}
use Rattle.thread_code.specs.declared.Place.{Place}
use Rattle.thread_code.specs.declared.Plan.{Plan}
use Rattle.thread_code.specs.declared.Stage.{Stage as SeenStage}
use Rattle.thread_code.specs.declared.Stage.TheVariants as seen
use Rattle.thread_code.specs.declared.Code.{Code}
use Rattle.thread_code.specs.Stages.{Stage, Offered, Performed, Made, stages}

-- what is left of a block at a place
abbrev pub block_at : Code → ℕ → Option Block
block_at c at = option_map (λ p. block_of p.block.value) (slice_get c.places.items at)

abbrev pub IsAt : Code → ℕ → Block → Type 0
IsAt c at block = block_at c at ≡ Some block

abbrev pub IsStage : Code → SeenStage → Stage → Type 0
IsStage c (seen.Offer event mask) (Offered base scopes) = (event_of event.value ≡ base) × (mask ≡ scopes)
IsStage c (seen.Body at) (Performed body) = IsAt c at body
IsStage c (seen.Nack variable) (Made name) = variable ≡ name
IsStage c s stage = ⊥

abbrev pub AreStages : Code → List SeenStage → List Stage → Type 0
AreStages c [] [] = ⊤
AreStages c (s ∷ more) (stage ∷ others) = IsStage c s stage × AreStages c more others
AreStages c some others = ⊥

-- the plan of a sync at a line, which is small, and behind which a block stands
pub record IsPlan (c : Code) (line : ℕ) (binds : Option (List ℕ)) (e : Event) (rest : Block) (plan : Plan) : Type 0 where
  pub line_is : plan.line ≡ line
  pub names : option_map names_of plan.names ≡ binds
  pub event : event_of plan.event.value ≡ e
  pub stages : AreStages c plan.stages.items (stages 0 0 e)
  pub small : IsSmall e
  pub then : IsAt c plan.then rest

pub record HasPlan (c : Code) (number line : ℕ) (binds : Option (List ℕ)) (e : Event) (rest : Block) : Type 0 where
  pub plan : Plan
  pub there : slice_get c.plans.items number ≡ Some plan
  pub is : IsPlan c line binds e rest plan

-- a place leads where its block goes on, whose statement stands at a line
abbrev pub StmtLeads : Code → Place → ℕ → Stmt → Block → Type 0
StmtLeads c p line (Lets name value) rest = ⊤
StmtLeads c p line (Prints value) rest = ⊤
StmtLeads c p line (Syncs names event) rest = HasPlan c p.first line names event rest
StmtLeads c p line (Branches test first second) rest = IsAt c p.first first × IsAt c p.second second
StmtLeads c p line (Loops times at names event body) rest = HasPlan c p.first at names event body
StmtLeads c p line (LoopsForever at names event body) rest = HasPlan c p.first at names event body
StmtLeads c p line Ends rest = ⊤
StmtLeads c p line (Spawns process) rest = ⊤

abbrev pub BlockLeads : Code → Place → Block → Type 0
BlockLeads c p Stops = ⊤
BlockLeads c p (Runs stmt line rest) = IsAt c p.next rest × StmtLeads c p line stmt rest

-- what is behind the block's first statement stands at a place
abbrev pub LeadsTo : Code → ℕ → Block → Type 0
LeadsTo c next Stops = ⊤
LeadsTo c next (Runs stmt line rest) = IsAt c next rest

abbrev pub Leads : Code → Place → Type 0
Leads c p = BlockLeads c p (block_of p.block.value)

-- each place of the code leads where it should
abbrev pub IsLinked : Code → Type 0
IsLinked c = (at : ℕ) (p : Place) → slice_get c.places.items at ≡ Some p → Leads c p

-- the code of a block, which begins at the place `start`
pub record IsCodeOf (c : Code) (body : Block) : Type 0 where
  pub start : IsAt c c.start body
  pub linked : IsLinked c

-- what is added to a code leaves what it has where it is
pub record Grows (old new : Code) : Type 0 where
  pub places : (at : ℕ) (p : Place) → slice_get old.places.items at ≡ Some p → slice_get new.places.items at ≡ Some p
  pub plans : (number : ℕ) (plan : Plan) → slice_get old.plans.items number ≡ Some plan → slice_get new.plans.items number ≡ Some plan
