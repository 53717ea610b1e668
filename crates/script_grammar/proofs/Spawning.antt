-- What is written spawns processes that stand before, and none that is spawned already; a process that is
-- spawned stays so.
use Rattle.std.proofs.Common.{◌≡◌, ◌⊎◌, inl, inr, ⊎_elim, ℕ, ◌<◌, Bool, true, false, ◌||◌, eqb, ltb, leb, List, [], ◌∷◌, ◌++◌, length, Option, Some, None, is_some, refl, sym, ap, ◌∙◌, subst, tests, arith}
use Rattle.std.proofs.lemmas.Bool.Decides.{nat_tests}
use Rattle.script_grammar.specs.Meaning.{place, if_some, is_among, is_listed, Names, name_meaning, expr_meaning, test_meaning, list_meaning, bound, bind, bind_all, bind_names, is_small, as_turn, event_meaning, events_meaning, stmt_meaning, block_meaning}
use Rattle.script_tree.specs.Trees as trees
use Rattle.script_tree.specs.Trees.{LoopBody}
use Rattle.script_tree.specs.Spawning.{spawns_block, spawns_stmt, spawns_event, spawns_members}
use Rattle.script_grammar.specs.Written as written
use Rattle.script_grammar.proofs.Parts.{part, some_is, if_else_some, unless_some}
use Rattle.script_grammar.proofs.Places.{place_in}

-- WHAT IS AMONG NUMBERS

either : (a b : Bool) → (a || b) ≡ true → (a ≡ true) ⊎ (b ≡ true)
either true b e = inl refl
either false b e = inr e

not_both : {A : Type 0} (a : Bool) → a ≡ true → a ≡ false → A
not_both a e f = (let same : true ≡ false = sym e ∙ f in absurd cc)

among_first : (xs ys : List ℕ) (t : ℕ) → is_among xs t ≡ true → is_among (xs ++ ys) t ≡ true
among_first [] ys t e = absurd cc
among_first (x ∷ xs) ys t e = at_test (λ f. among_first xs ys t f) (eqb t x) e
  where
    at_test : (is_among xs t ≡ true → is_among (xs ++ ys) t ≡ true) → (b : Bool) → (b || is_among xs t) ≡ true → (b || is_among (xs ++ ys) t) ≡ true
    at_test next true f = refl
    at_test next false f = next f

among_last : (xs : List ℕ) (t : ℕ) → is_among (xs ++ t ∷ []) t ≡ true
among_last [] t = (let same : eqb t t ≡ true = search (arith, tests) in rw same refl)
among_last (x ∷ xs) t = at_test (among_last xs t) (eqb t x)
  where
    at_test : is_among (xs ++ t ∷ []) t ≡ true → (b : Bool) → (b || is_among (xs ++ t ∷ []) t) ≡ true
    at_test next true = refl
    at_test next false = next

same_number : (a b : ℕ) → eqb a b ≡ true → a ≡ b
same_number a b e = grind (arith, nat_tests)

-- WHAT IS SPAWNED

-- between these names what is written spawns those of which `spawns` is true
pub record Spawning (spawns : ℕ → Bool) (ns ns' : Names) : Type 0 where
  pub processes : ns'.processes ≡ ns.processes
  pub stays : (t : ℕ) → is_among ns.spawned t ≡ true → is_among ns'.spawned t ≡ true
  pub new : (t : ℕ) → spawns t ≡ true → is_among ns.spawned t ≡ false
  pub told : (t : ℕ) → spawns t ≡ true → is_among ns'.spawned t ≡ true
  pub before : (t : ℕ) → spawns t ≡ true → t < length ns.processes

abbrev nothing : ℕ → Bool
nothing t = false

-- names that bind alone
record Keeps (ns ns' : Names) : Type 0 where
  processes : ns'.processes ≡ ns.processes
  spawned : ns'.spawned ≡ ns.spawned

keeps_on : (a b c : Names) → Keeps a b → Keeps b c → Keeps a c
keeps_on a b c f g = record { processes = g.processes ∙ f.processes; spawned = g.spawned ∙ f.spawned }

spawns_none : (ns ns' : Names) → Keeps ns ns' → Spawning nothing ns ns'
spawns_none ns ns' k = record {
  processes = k.processes;
  stays = λ t e. ap (λ (xs : List ℕ). is_among xs t) k.spawned ∙ e;
  new = λ t e. absurd cc;
  told = λ t e. absurd cc;
  before = λ t e. absurd cc;
}

spawns_both : (f g : ℕ → Bool) (a b c : Names) → Spawning f a b → Spawning g b c → Spawning (λ t. f t || g t) a c
spawns_both f g a b c p q = record {
  processes = q.processes ∙ p.processes;
  stays = λ t e. q.stays t (p.stays t e);
  new = λ t e. ⊎_elim (λ first. p.new t first) (λ second. not_before t (is_among a.spawned t) refl (q.new t second)) (either (f t) (g t) e);
  told = λ t e. ⊎_elim (λ first. q.stays t (p.told t first)) (λ second. q.told t second) (either (f t) (g t) e);
  before = λ t e. ⊎_elim (λ first. p.before t first) (λ second. subst (λ (xs : List (List ℕ)). t < length xs) p.processes (q.before t second)) (either (f t) (g t) e);
}
  where
    not_before : (t : ℕ) (v : Bool) → is_among a.spawned t ≡ v → is_among b.spawned t ≡ false → is_among a.spawned t ≡ false
    not_before t true e k = not_both (is_among b.spawned t) (p.stays t e) k
    not_before t false e k = e

-- behind names that are bound
spawns_behind : (f : ℕ → Bool) (a b c : Names) → Keeps a b → Spawning f b c → Spawning f a c
spawns_behind f a b c k p = spawns_both nothing f a b c (spawns_none a b k) p

-- and in front of them
spawns_before : (f : ℕ → Bool) (a b c : Names) → Spawning f a b → Keeps b c → Spawning f a c
spawns_before f a b c p k = record {
  processes = k.processes ∙ p.processes;
  stays = λ t e. ap (λ (xs : List ℕ). is_among xs t) k.spawned ∙ p.stays t e;
  new = p.new;
  told = λ t e. ap (λ (xs : List ℕ). is_among xs t) k.spawned ∙ p.told t e;
  before = p.before;
}

spawns_one : (ns : Names) (p : ℕ) → p < length ns.processes → is_among ns.spawned p ≡ false → Spawning (λ t. eqb p t) ns (record ns { spawned = ns.spawned ++ p ∷ [] })
spawns_one ns p known new = record {
  processes = refl;
  stays = λ t e. among_first ns.spawned (p ∷ []) t e;
  new = λ t e. subst (λ (n : ℕ). is_among ns.spawned n ≡ false) (same_number p t e) new;
  told = λ t e. subst (λ (n : ℕ). is_among (ns.spawned ++ p ∷ []) n ≡ true) (same_number p t e) (among_last ns.spawned p);
  before = λ t e. subst (λ (n : ℕ). n < length ns.processes) (same_number p t e) known;
}

-- NAMES THAT ARE BOUND

kept : (ns : Names) → Keeps ns ns
kept ns = record { processes = refl; spawned = refl }

bound_keeps : (ns : Names) (text : List ℕ) → Keeps ns (bound ns text).1
bound_keeps ns text = at_place (place text ns.variables)
  where
    at_place : (o : Option ℕ) → Keeps ns (if_some {B = ℕ × Names} o (λ v. (v, ns)) (length ns.variables, record ns { variables = ns.variables ++ text ∷ [] })).1
    at_place (Some v) = kept ns
    at_place None = record { processes = refl; spawned = refl }

bind_keeps : (list : List ℕ) (ns : Names) (text : List ℕ) (b : ℕ × Names) → bind list ns text ≡ Some b → Keeps ns b.1
unfolding bind
bind_keeps list ns text b e =
    unless_some (is_some (place text ns.channels) || is_listed list (place text ns.variables)) _ b e
    (λ _ f. unless_some (ltb 32 (length text)) _ b f
    (λ _ g. subst (λ (y : ℕ × Names). Keeps ns y.1) (some_is _ _ g) (bound_keeps ns text)))

bind_all_keeps : (texts : List (List ℕ)) (list : List ℕ) (ns : Names) (b : List ℕ × Names) → bind_all list ns texts ≡ Some b → Keeps ns b.1
unfolding bind_all
bind_all_keeps [] list ns b e = subst (λ (y : List ℕ × Names). Keeps ns y.1) (some_is _ _ e) (kept ns)
bind_all_keeps (text ∷ texts) list ns b e =
    let a = part (bind list ns text) _ b e in
    keeps_on ns a.first.1 b.1 (bind_keeps list ns text a.first a.is) (bind_all_keeps texts (list ++ a.first.0 ∷ []) a.first.1 b a.then)

bind_names_keeps : (texts : List (List ℕ)) (ns : Names) (b : Option (List ℕ) × Names) → bind_names ns texts ≡ Some b → Keeps ns b.1
unfolding bind_names
bind_names_keeps [] ns b e = subst (λ (y : Option (List ℕ) × Names). Keeps ns y.1) (some_is _ _ e) (kept ns)
bind_names_keeps (text ∷ texts) ns b e =
    if_else_some (leb (length texts) 2) _ b e
    (λ _ f.
    let a = part (bind_all [] ns (text ∷ texts)) _ b f in
    subst (λ (y : Option (List ℕ) × Names). Keeps ns y.1) (some_is _ _ a.then) (bind_all_keeps (text ∷ texts) [] ns a.first a.is))

-- EVENTS, STATEMENTS AND BLOCKS

abbrev EventSpawns : Names → trees.Event × Names → Type 0
EventSpawns ns x = Spawning (λ t. spawns_event t x.0) ns x.1

abbrev EventsSpawn : Names → trees.Events × Names → Type 0
EventsSpawn ns x = Spawning (λ t. spawns_members t x.0) ns x.1

abbrev StmtSpawns : Names → trees.Stmt × Names → Type 0
StmtSpawns ns x = Spawning (λ t. spawns_stmt t x.0) ns x.1

abbrev pub BlockSpawns : Names → trees.Block × Names → Type 0
BlockSpawns ns x = Spawning (λ t. spawns_block t x.0) ns x.1

-- what a loop spawns is what its body does
turn_spawns : (b : trees.Block) (t : LoopBody) (n : ℕ) → as_turn b ≡ Some t → (spawns_event n t.event || spawns_block n t.rest) ≡ spawns_block n b
turn_spawns trees.Stops t n e = absurd cc
turn_spawns (trees.Runs (trees.Syncs names event) rest) t n e = (let same = some_is _ _ e in ap (λ (y : LoopBody). spawns_event n y.event || spawns_block n y.rest) (sym same))
turn_spawns (trees.Runs (trees.Lets name value) rest) t n e = absurd cc
turn_spawns (trees.Runs (trees.Prints value) rest) t n e = absurd cc
turn_spawns (trees.Runs (trees.Branches test first second) rest) t n e = absurd cc
turn_spawns (trees.Runs (trees.Loops times names event body) rest) t n e = absurd cc
turn_spawns (trees.Runs (trees.LoopsForever names event body) rest) t n e = absurd cc
turn_spawns (trees.Runs trees.Ends rest) t n e = absurd cc
turn_spawns (trees.Runs (trees.Spawns process) rest) t n e = absurd cc

-- the same, otherwise given
spawns_as : (f g : ℕ → Bool) (a b : Names) → ((t : ℕ) → g t ≡ f t) → Spawning f a b → Spawning g a b
spawns_as f g a b same p = record {
  processes = p.processes;
  stays = p.stays;
  new = λ t e. p.new t (sym (same t) ∙ e);
  told = λ t e. p.told t (sym (same t) ∙ e);
  before = λ t e. p.before t (sym (same t) ∙ e);
}

mutual
  unfolding event_meaning events_meaning stmt_meaning block_meaning

  event_spawns : (w : written.Event) (ns : Names) (x : trees.Event × Names) → event_meaning ns w ≡ Some x → EventSpawns ns x
  event_spawns (written.Send channel list) ns x e =
      let c = part (name_meaning ns channel) _ x e in
      let l = part (list_meaning ns list) _ x c.then in
      subst (EventSpawns ns) (some_is _ _ l.then) (spawns_none ns ns (kept ns))
  event_spawns (written.Recv channel) ns x e =
      let c = part (name_meaning ns channel) _ x e in
      subst (EventSpawns ns) (some_is _ _ c.then) (spawns_none ns ns (kept ns))
  event_spawns (written.Always list) ns x e =
      let l = part (list_meaning ns list) _ x e in
      subst (EventSpawns ns) (some_is _ _ l.then) (spawns_none ns ns (kept ns))
  event_spawns written.Never ns x e = subst (EventSpawns ns) (some_is _ _ e) (spawns_none ns ns (kept ns))
  event_spawns (written.Cancelled nack) ns x e =
      let n = part (name_meaning ns nack) _ x e in
      subst (EventSpawns ns) (some_is _ _ n.then) (spawns_none ns ns (kept ns))
  event_spawns (written.Joined process) ns x e =
      let p = part (place process ns.processes) _ x e in
      subst (EventSpawns ns) (some_is _ _ p.then) (spawns_none ns ns (kept ns))
  event_spawns (written.Choose members) ns x e =
      let m = part (events_meaning ns members) _ x e in
      subst (EventSpawns ns) (some_is _ _ m.then) (events_spawn members ns m.first m.is)
  event_spawns (written.Wrap event names list) ns x e =
      let a = part (event_meaning ns event) _ x e in
      let b = part (bind_names a.first.1 names) _ x a.then in
      let l = part (list_meaning b.first.1 list) _ x b.then in
      subst (EventSpawns ns) (some_is _ _ l.then)
      (spawns_before (λ t. spawns_event t a.first.0) ns a.first.1 b.first.1 (event_spawns event ns a.first a.is) (bind_names_keeps names a.first.1 b.first b.is))
  event_spawns (written.Guard body event) ns x e =
      let b = part (block_meaning false ns body) _ x e in
      let a = part (event_meaning b.first.1 event) _ x b.then in
      subst (EventSpawns ns) (some_is _ _ a.then)
      (spawns_both (λ t. spawns_block t b.first.0) (λ t. spawns_event t a.first.0) ns b.first.1 a.first.1 (block_spawns body false ns b.first b.is) (event_spawns event b.first.1 a.first a.is))
  event_spawns (written.Nack name body event) ns x e =
      let n = part (bind [] ns name) _ x e in
      let b = part (block_meaning false n.first.1 body) _ x n.then in
      let a = part (event_meaning b.first.1 event) _ x b.then in
      subst (EventSpawns ns) (some_is _ _ a.then)
      (spawns_both (λ t. spawns_block t b.first.0) (λ t. spawns_event t a.first.0) ns b.first.1 a.first.1
      (spawns_behind (λ t. spawns_block t b.first.0) ns n.first.1 b.first.1 (bind_keeps [] ns name n.first n.is) (block_spawns body false n.first.1 b.first b.is)) (event_spawns event b.first.1 a.first a.is))

  events_spawn : (w : written.Events) (ns : Names) (x : trees.Events × Names) → events_meaning ns w ≡ Some x → EventsSpawn ns x
  events_spawn written.NoEvents ns x e = subst (EventsSpawn ns) (some_is _ _ e) (spawns_none ns ns (kept ns))
  events_spawn (written.Another event others) ns x e =
      let a = part (event_meaning ns event) _ x e in
      let m = part (events_meaning a.first.1 others) _ x a.then in
      subst (EventsSpawn ns) (some_is _ _ m.then)
      (spawns_both (λ t. spawns_event t a.first.0) (λ t. spawns_members t m.first.0) ns a.first.1 m.first.1 (event_spawns event ns a.first a.is) (events_spawn others a.first.1 m.first m.is))

  stmt_spawns : (w : written.Stmt) (loops : Bool) (ns : Names) (x : trees.Stmt × Names) → stmt_meaning loops ns w ≡ Some x → StmtSpawns ns x
  stmt_spawns (written.Let name value) loops ns x e =
      let n = part (bind [] ns name) _ x e in
      let v = part (expr_meaning n.first.1 value) _ x n.then in
      subst (StmtSpawns ns) (some_is _ _ v.then) (spawns_none ns n.first.1 (bind_keeps [] ns name n.first n.is))
  stmt_spawns (written.Print value) loops ns x e =
      let v = part (expr_meaning ns value) _ x e in
      subst (StmtSpawns ns) (some_is _ _ v.then) (spawns_none ns ns (kept ns))
  stmt_spawns (written.Sync names event) loops ns x e =
      let b = part (bind_names ns names) _ x e in
      let a = part (event_meaning b.first.1 event) _ x b.then in
      if_else_some (is_small a.first.0) _ x a.then
      (λ _ f. subst (StmtSpawns ns) (some_is _ _ f)
      (spawns_behind (λ t. spawns_event t a.first.0) ns b.first.1 a.first.1 (bind_names_keeps names ns b.first b.is) (event_spawns event b.first.1 a.first a.is)))
  stmt_spawns (written.If test first second) loops ns x e =
      let t = part (test_meaning ns test) _ x e in
      let a = part (block_meaning loops ns first) _ x t.then in
      let b = part (block_meaning loops a.first.1 second) _ x a.then in
      subst (StmtSpawns ns) (some_is _ _ b.then)
      (spawns_both (λ t. spawns_block t a.first.0) (λ t. spawns_block t b.first.0) ns a.first.1 b.first.1 (block_spawns first loops ns a.first a.is) (block_spawns second loops a.first.1 b.first b.is))
  stmt_spawns (written.Loop times body) loops ns x e =
      if_else_some loops _ x e
      (λ _ f.
      let b = part (block_meaning true ns body) _ x f in
      let t = part (as_turn b.first.0) _ x b.then in
      subst (StmtSpawns ns) (some_is _ _ t.then)
      (spawns_as (λ n. spawns_block n b.first.0) (λ n. spawns_event n t.first.event || spawns_block n t.first.rest) ns b.first.1 (λ n. turn_spawns b.first.0 t.first n t.is) (block_spawns body true ns b.first b.is)))
  stmt_spawns (written.Forever body) loops ns x e =
      if_else_some loops _ x e
      (λ _ f.
      let b = part (block_meaning true ns body) _ x f in
      let t = part (as_turn b.first.0) _ x b.then in
      subst (StmtSpawns ns) (some_is _ _ t.then)
      (spawns_as (λ n. spawns_block n b.first.0) (λ n. spawns_event n t.first.event || spawns_block n t.first.rest) ns b.first.1 (λ n. turn_spawns b.first.0 t.first n t.is) (block_spawns body true ns b.first b.is)))
  stmt_spawns written.End loops ns x e = subst (StmtSpawns ns) (some_is _ _ e) (spawns_none ns ns (kept ns))
  stmt_spawns (written.Spawn process) loops ns x e =
      let p = part (place process ns.processes) _ x e in
      unless_some (is_among ns.spawned p.first) _ x p.then
      (λ new f. subst (StmtSpawns ns) (some_is _ _ f) (spawns_one ns p.first (place_in process ns.processes p.first p.is) new))

  pub block_spawns : (w : written.Block) (loops : Bool) (ns : Names) (x : trees.Block × Names) → block_meaning loops ns w ≡ Some x → BlockSpawns ns x
  block_spawns written.Done loops ns x e = subst (BlockSpawns ns) (some_is _ _ e) (spawns_none ns ns (kept ns))
  block_spawns (written.Then stmt others) loops ns x e =
      let a = part (stmt_meaning loops ns stmt) _ x e in
      let b = part (block_meaning loops a.first.1 others) _ x a.then in
      subst (BlockSpawns ns) (some_is _ _ b.then)
      (spawns_both (λ t. spawns_stmt t a.first.0) (λ t. spawns_block t b.first.0) ns a.first.1 b.first.1 (stmt_spawns stmt loops ns a.first a.is) (block_spawns others loops a.first.1 b.first b.is))
