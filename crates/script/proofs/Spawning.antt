-- What is written for a script spawns each process from one text alone, which stands behind it.
use Rattle.std.proofs.Common.{◌≡◌, ℕ, zero, suc, ◌+◌, ◌<◌, Bool, true, false, cond, ◌||◌, ltb, leb, List, [], ◌∷◌, length, Option, Some, is_some, refl, sym, ap, ◌∙◌, subst, arith, length-append}
use Rattle.std.specs.Prelude.{slice_get}
use Rattle.script_tree.specs.Processes.{Proc}
use Rattle.script_tree.specs.Spawning.{AreSpawnedOnce, IsPlaced, spawner_from, spawns_block}
use Rattle.script_grammar.specs.Written as written
use Rattle.script_grammar.specs.Meaning.{place, is_among, Names, first_names, block_meaning, declare, channels_meaning, processes_meaning}
use Rattle.script_grammar.proofs.Parts.{part, some_is, unless_some}
use Rattle.script_grammar.proofs.Spawning.{Spawning, block_spawns}
use Rattle.script.specs.Sources.{Script}
use Rattle.script.specs.Spelling.{script_meaning}
use Rattle.script.specs.Spawned.{AreInOrder}

declared_count : (limit : ℕ) (names new : List (List ℕ)) (text : List ℕ) → declare limit names text ≡ Some new → length new ≡ length names + 1
unfolding declare
declared_count limit names new text e =
    unless_some (is_some (place text names) || (leb limit (length names) || ltb 32 (length text))) _ new e
    (λ _ f. ap length (sym (some_is _ _ f)) ∙ length-append names (text ∷ []))

-- processes behind so many others, some of which are spawned
record AreNew (count : ℕ) (spawned : List ℕ) (ps : List Proc) : Type 0 where
  new : (t s : ℕ) (p : Proc) → slice_get ps s ≡ Some p → spawns_block t p.body ≡ true → is_among spawned t ≡ false
  order : (s : ℕ) (p : Proc) → slice_get ps s ≡ Some p → p.earlier ≡ count + s
  placed : (t s : ℕ) → spawner_from t count ps ≡ Some s → t < s
  once : AreSpawnedOnce ps

both_ways : {A : Type 0} (b : Bool) → b ≡ true → b ≡ false → A
both_ways b e f = (let same : true ≡ false = sym e ∙ f in absurd cc)

none_new : (count : ℕ) (spawned : List ℕ) → AreNew count spawned []
none_new count spawned = record { new = λ t s p e f. absurd cc; order = λ s p e. absurd cc; placed = λ t s e. absurd cc; once = λ t s u p q e f a b. absurd cc }

module _ (count : ℕ) (a b : Names) (p : Proc) (ps : List Proc) (first : Spawning (λ t. spawns_block t p.body) a b) (known : length a.processes ≡ count) (counted : p.earlier ≡ count) (rest : AreNew (count + 1) b.spawned ps) where
  not_before : (t : ℕ) (v : Bool) → is_among a.spawned t ≡ v → is_among b.spawned t ≡ false → is_among a.spawned t ≡ false
  not_before t true e k = both_ways (is_among b.spawned t) (first.stays t e) k
  not_before t false e k = e

  more_new : (t s : ℕ) (q : Proc) → slice_get (p ∷ ps) s ≡ Some q → spawns_block t q.body ≡ true → is_among a.spawned t ≡ false
  more_new t zero q e f = (let same : p ≡ q = some_is _ _ e in first.new t (ap (λ (y : Proc). spawns_block t y.body) same ∙ f))
  more_new t (suc s) q e f = not_before t (is_among a.spawned t) refl (rest.new t s q e f)

  more_order : (s : ℕ) (q : Proc) → slice_get (p ∷ ps) s ≡ Some q → q.earlier ≡ count + s
  more_order zero q e = (let same : p ≡ q = some_is _ _ e in let is = ap (λ (y : Proc). y.earlier) same in omega (arith, is, counted))
  more_order (suc s) q e = (let is = rest.order s q e in omega (arith, is))

  more_placed : (t s : ℕ) → spawner_from t count (p ∷ ps) ≡ Some s → t < s
  more_placed t s e = at_first (spawns_block t p.body) refl e
    where
      at_first : (v : Bool) → spawns_block t p.body ≡ v → cond v (Some count) (spawner_from t (count + 1) ps) ≡ Some s → t < s
      at_first true is f = (let same : count ≡ s = some_is _ _ f in omega (arith, first.before t is, known, same))
      at_first false is f = rest.placed t s f

  -- what the first spawns none of the others does
  not_again : {A : Type 0} (t s : ℕ) (p' q : Proc) → ◌≡◌ {A = Option Proc} (Some p) (Some p') → slice_get ps s ≡ Some q → spawns_block t p'.body ≡ true → spawns_block t q.body ≡ true → A
  not_again t s p' q e f g h =
      let same : p ≡ p' = some_is _ _ e in
      both_ways (is_among b.spawned t) (first.told t (ap (λ (y : Proc). spawns_block t y.body) same ∙ g)) (rest.new t s q f h)

  more_once : AreSpawnedOnce (p ∷ ps)
  more_once t zero zero p' q e f g h = refl
  more_once t zero (suc u) p' q e f g h = not_again t u p' q e f g h
  more_once t (suc s) zero p' q e f g h = not_again t s q p' f e h g
  more_once t (suc s) (suc u) p' q e f g h = ap suc (rest.once t s u p' q e f g h)

  one_more : AreNew count a.spawned (p ∷ ps)
  one_more = record { new = more_new; order = more_order; placed = more_placed; once = more_once }

processes_spawn : (ws : List written.Process) (channels names : List (List ℕ)) (spawned : List ℕ) (ps : List Proc) → processes_meaning channels names spawned ws ≡ Some ps → AreNew (length names) spawned ps
unfolding processes_meaning
processes_spawn [] channels names spawned ps e = subst (AreNew (length names) spawned) (some_is _ _ e) (none_new (length names) spawned)
processes_spawn (w ∷ ws) channels names spawned ps e =
    let a = first_names channels names spawned in
    let d = part (declare 64 names w.name) _ ps e in
    let b = part (block_meaning true a w.body) _ ps d.then in
    let o = part (processes_meaning channels d.first b.first.1.spawned ws) _ ps b.then in
    let first = block_spawns w.body true a b.first b.is in
    let rest = processes_spawn ws channels d.first b.first.1.spawned o.first o.is in
    let counted : AreNew (length names + 1) b.first.1.spawned o.first = subst (λ (n : ℕ). AreNew n b.first.1.spawned o.first) (declared_count 64 names d.first w.name d.is) rest in
    subst (AreNew (length names) spawned) (some_is _ _ o.then)
    (one_more (length names) a b.first.1 (record { name = w.name; body = b.first.0; variables = b.first.1.variables; channels = length channels; earlier = length names }) o.first first refl refl counted)

pub record ScriptSpawns (s : Script) : Type 0 where
  pub order : AreInOrder s.processes
  pub placed : IsPlaced s.processes
  pub once : AreSpawnedOnce s.processes

pub script_spawns : (w : written.Script) (s : Script) → script_meaning w ≡ Some s → ScriptSpawns s
unfolding script_meaning
script_spawns w s e =
    let c = part (channels_meaning [] w.channels) _ s e in
    let p = part (processes_meaning c.first [] [] w.processes) _ s c.then in
    let new = processes_spawn w.processes c.first [] [] p.first p.is in
    subst ScriptSpawns (some_is _ _ p.then) (record { order = λ n q f. (let is = new.order n q f in omega (arith, is)); placed = new.placed; once = new.once })
