-- The names that a script declares are names, and no two are the same.
use Rattle.std.proofs.Common.{◌≡◌, ◌≢◌, ℕ, true, false, ◌||◌, ltb, leb, List, [], ◌∷◌, ◌++◌, length, map, Option, Some, None, is_some, refl, sym, ap, ◌∙◌, subst, append_assoc}
use Rattle.std.specs.List.{AllByRecursion, AllByRecursion-prop}
use Rattle.std.specs.Str.{bytes_eq}
use Rattle.std.specs.Coded.{×_prop, Unit-prop, Coded-set, coded_bool}
use Rattle.std.proofs.lemmas.List.{append-nil}
use Rattle.std.proofs.lemmas.Slice.Eq.{bytes_eq-Decides}
use Rattle.script_grammar.specs.Meaning.{place, first_names, block_meaning, declare, channels_meaning, processes_meaning}
use Rattle.script_reader.specs.Steps.{start}
use Rattle.script_token.specs.Tokens.{Token, is_name}
use Rattle.script_tree.specs.Processes.{Proc}
use Rattle.script_grammar.specs.Written as written
use Rattle.script_grammar.specs.Written.{channels_tokens, processes_tokens}
use Rattle.script_reader.proofs.Placing.{not_first}
use Rattle.script_grammar.proofs.Parts.{part, some_is, unless_some}
use Rattle.script_reader.proofs.ReadNames.{neither}
use Rattle.script_faults.proofs.Shapes.{block_shape}
use Rattle.script.specs.Scripts.{Script}
use Rattle.script.specs.Spelling.{script_meaning, Spells}
use Rattle.script.specs.Names.{AreDistinct, AreNames, DeclaresNames}
use Rattle.script.proofs.Good.{Good, AllGood, texts_are_good}

-- ALL DIFFERENT

absent : (o : Option ℕ) → is_some o ≡ false → o ≡ None
absent None e = refl
absent (Some n) e = absurd cc

others : (text : List ℕ) (names : List (List ℕ)) → place text names ≡ None → AllByRecursion (λ x. x ≢ text) names
others text [] e = tt
others text (x ∷ names) e =
    let p = not_first (bytes_eq text x) (place text names) e in
    (λ same. let met : true ≡ false = sym ((bytes_eq-Decides text x).1 (sym same)) ∙ p.0 in absurd cc, others text names p.1)

all_more : (P : List ℕ → Type 0) (names : List (List ℕ)) (text : List ℕ) → AllByRecursion P names → P text → AllByRecursion P (names ++ text ∷ [])
all_more P [] text h p = (p, tt)
all_more P (x ∷ names) text h p = (h.0, all_more P names text h.1 p)

distinct_more : (names : List (List ℕ)) (text : List ℕ) → AreDistinct names → AllByRecursion (λ x. x ≢ text) names → AreDistinct (names ++ text ∷ [])
distinct_more [] text h k = (tt, tt)
distinct_more (x ∷ names) text h k = (all_more (λ other. x ≢ other) names text h.0 k.0, distinct_more names text h.1 k.1)

declared : (limit : ℕ) (names new : List (List ℕ)) (text : List ℕ) → declare limit names text ≡ Some new → AreDistinct names → (names ++ text ∷ [] ≡ new) × AreDistinct new
unfolding declare
declared limit names new text e h =
    unless_some (is_some (place text names) || (leb limit (length names) || ltb 32 (length text))) _ new e
    (λ may f.
    let is : names ++ text ∷ [] ≡ new = some_is _ _ f in
    let free : place text names ≡ None = absent (place text names) (neither _ _ may).0 in
    (is, subst AreDistinct is (distinct_more names text h (others text names free))))

channels_distinct : (texts names new : List (List ℕ)) → channels_meaning names texts ≡ Some new → AreDistinct names → (names ++ texts ≡ new) × AreDistinct new
unfolding channels_meaning
channels_distinct [] names new e h = (append-nil names ∙ some_is _ _ e, subst AreDistinct (some_is _ _ e) h)
channels_distinct (text ∷ texts) names new e h =
    let d = part (declare 256 names text) _ new e in
    let one = declared 256 names d.first text d.is h in
    let more = channels_distinct texts d.first new d.then one.1 in
    (sym (append_assoc names (text ∷ []) texts) ∙ ap (λ (y : List (List ℕ)). y ++ texts) one.0 ∙ more.0, more.1)

-- the names of processes, behind others
record Follow (names texts : List (List ℕ)) (ps : List Proc) : Type 0 where
  same : map (λ p. p.name) ps ≡ texts
  distinct : AreDistinct (names ++ texts)

abbrev names_written : List written.Process → List (List ℕ)
names_written [] = []
names_written (p ∷ ps) = p.name ∷ names_written ps

processes_distinct : (ws : List written.Process) (channels names : List (List ℕ)) (spawned : List ℕ) (ps : List Proc) → processes_meaning channels names spawned ws ≡ Some ps → AreDistinct names → Follow names (names_written ws) ps
unfolding processes_meaning
processes_distinct [] channels names spawned ps e h =
    subst (Follow names []) (some_is _ _ e) (record { same = refl; distinct = subst AreDistinct (sym (append-nil names)) h })
processes_distinct (w ∷ ws) channels names spawned ps e h =
    let d = part (declare 64 names w.name) _ ps e in
    let one = declared 64 names d.first w.name d.is h in
    let b = part (block_meaning true (first_names channels names spawned) w.body) _ ps d.then in
    let o = part (processes_meaning channels d.first b.first.1.spawned ws) _ ps b.then in
    let more = processes_distinct ws channels d.first b.first.1.spawned o.first o.is one.1 in
    subst (Follow names (w.name ∷ names_written ws)) (some_is _ _ o.then) (record {
      same = ap (λ (y : List (List ℕ)). w.name ∷ y) more.same;
      distinct = subst AreDistinct (ap (λ (y : List (List ℕ)). y ++ names_written ws) (sym one.0) ∙ append_assoc names (w.name ∷ []) (names_written ws)) more.distinct;
    })

-- NAMES

good_behind : (ts us : List Token) → AllGood (ts ++ us) → AllGood us
unfolding AllGood
good_behind [] us h = h
good_behind (t ∷ ts) us h = good_behind ts us h.1

abbrev AllNames : List (List ℕ) → Type 0
AllNames texts = AllByRecursion (λ text. is_name text ≡ true) texts

channels_named : (texts : List (List ℕ)) (rest : List Token) → AllGood (channels_tokens texts rest) → AllNames texts × AllGood rest
unfolding AllGood Good
channels_named [] rest h = (tt, h)
channels_named (text ∷ texts) rest h = (let m = channels_named texts rest h.1.1.1 in ((h.1.0.0, m.0), m.1))

processes_named : (ws : List written.Process) → AllGood (processes_tokens ws) → AllNames (names_written ws)
unfolding AllGood Good
processes_named [] h = tt
processes_named (w ∷ ws) h =
    let s = block_shape w.body true 49 (start [] [] []) in
    (h.1.0.0, processes_named ws (good_behind s.text (processes_tokens ws) (subst AllGood (s.is (processes_tokens ws)) h.1.1)))

-- SCRIPTS

names_of_text : (bytes : List ℕ) (s : Script) → Spells bytes s → AreNames s.channels × AreNames (map (λ p. p.name) s.processes)
unfolding script_meaning
names_of_text bytes s h =
    let w = h.written in
    let c = part (channels_meaning [] w.channels) _ s h.meaning in
    let p = part (processes_meaning c.first [] [] w.processes) _ s c.then in
    let channels = channels_distinct w.channels [] c.first c.is tt in
    let processes = processes_distinct w.processes c.first [] [] p.first p.is tt in
    let good = channels_named w.channels (processes_tokens w.processes) (subst AllGood h.tokens (texts_are_good bytes)) in
    subst (λ (x : Script). AreNames x.channels × AreNames (map (λ p. p.name) x.processes)) (some_is _ _ p.then)
    ((subst AllNames channels.0 good.0, channels.1), subst AreNames (sym processes.same) (processes_named w.processes good.1, processes.distinct))

not_same_prop : (x y : List ℕ) → IsProp (x ≢ y)
not_same_prop x y = hlevel

distinct_prop : (texts : List (List ℕ)) → IsProp (AreDistinct texts)
distinct_prop [] = Unit-prop
distinct_prop (text ∷ texts) = ×_prop (AllByRecursion-prop (λ other. text ≢ other) (λ other. not_same_prop text other) texts) (distinct_prop texts)

names_prop : (texts : List (List ℕ)) → IsProp (AreNames texts)
names_prop texts = ×_prop (AllByRecursion-prop (λ text. is_name text ≡ true) (λ text. Coded-set coded_bool (is_name text) true) texts) (distinct_prop texts)

pub declares_names : DeclaresNames
declares_names s h = ∥∥₁_rec (×_prop (names_prop s.channels) (names_prop (map (λ p. p.name) s.processes))) (λ t. names_of_text t.0 s t.1) h
