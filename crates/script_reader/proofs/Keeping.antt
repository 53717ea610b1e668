-- What is read keeps the limits: names and expressions.
use Rattle.std.proofs.Common.{◌≡◌, ℕ, zero, suc, ◌<◌, ◌≤◌, Bool, true, false, cond, ltb, List, [], ◌∷◌, ◌++◌, length, Option, Some, None, Result, Ok, Err, refl, ap, ◌∙◌, subst, arith, length-append}
use Rattle.script_token.specs.Tokens.{Token}
use Rattle.script_token.specs.declared.kind.Symbol.{Symbol}
use Rattle.script_tree.specs.declared.tree.Name.{Name}
use Rattle.script_tree.specs.declared.tree.Name.TheVariants.{Variable, Channel}
use Rattle.script_tree.specs.Limits.{Known, NameIsIn}
use Rattle.std.specs.List.{AllByRecursion}
use Rattle.script_token.specs.declared.kind.Symbol.TheVariants.{Comma}
use Rattle.script_grammar.specs.Meaning.{place, if_some, channel_of, is_among}
use Rattle.script_grammar.proofs.Places.{place_in}
use Rattle.script_reader.specs.Steps.{Told, Here, ◌>>=◌, repeated, name_at, next_is, accept_at, expect_at, meaning, read_name_at, read_process_at, spawn_process_at, bound, is_taken, bind_name_at, bind_names_at}

-- WHAT AN OK SAYS OF ITS STEPS

pub record Bound {A B : Type 0} (r : Result A Told) (f : A → Result B Told) (y : B) : Type 0 where
  pub first : A
  pub is : r ≡ Ok first
  pub then : f first ≡ Ok y

pub bound_ok : {A B : Type 0} (r : Result A Told) (f : A → Result B Told) (y : B) → (r >>= f) ≡ Ok y → Bound r f y
bound_ok (Ok x) f y e = record { first = x; is = refl; then = e }
bound_ok (Err t) f y e = absurd cc

pub ok_is : {A : Type 0} (x y : A) → ◌≡◌ {A = Result A Told} (Ok x) (Ok y) → x ≡ y
ok_is x y e = cc

pub no_ok : {P A : Type 0} (told : Told) (x : A) → ◌≡◌ {A = Result A Told} (Err told) (Ok x) → P
no_ok told x e = absurd cc

pub if_ok : {P B : Type 0} (b : Bool) (x y : Result B Told) (z : B) → cond b x y ≡ Ok z → (b ≡ true → x ≡ Ok z → P) → (b ≡ false → y ≡ Ok z → P) → P
if_ok true x y z e f g = f refl e
if_ok false x y z e f g = g refl e

pub some_ok : {P A B : Type 0} (o : Option A) (f : A → Result B Told) (other : Result B Told) (z : B) → if_some o f other ≡ Ok z → ((x : A) → o ≡ Some x → f x ≡ Ok z → P) → (other ≡ Ok z → P) → P
some_ok (Some x) f other z e g h = g x refl e
some_ok None f other z e g h = h e

pub repeated_keeps : {S : Type 0} (P : S → Type 0) (step : S → Option (Result S Told)) → ((s t : S) → P s → step s ≡ Some (Ok t) → P t) → (n : ℕ) (s t : S) → P s → repeated step n s ≡ Ok t → P t
unfolding repeated
repeated_keeps {S} P step keeps zero s t h e = (let same : s ≡ t = cc in subst P same h)
repeated_keeps {S} P step keeps (suc n) s t h e = at_step (λ x p more. repeated_keeps P step keeps n x t p more) (step s) refl e
  where
    at_result : ((x : S) → P x → repeated step n x ≡ Ok t → P t) → (r : Result S Told) → step s ≡ Some r → (r >>= repeated step n) ≡ Ok t → P t
    at_result next (Ok x) is more = next x (keeps s x h is) more
    at_result next (Err told) is more = absurd cc

    at_step : ((x : S) → P x → repeated step n x ≡ Ok t → P t) → (o : Option (Result S Told)) → step s ≡ o → if_some o (λ r. r >>= repeated step n) (Ok s) ≡ Ok t → P t
    at_step next None is more = (let same : s ≡ t = cc in subst P same h)
    at_step next (Some r) is more = at_result next r is more

pub accept_room : (nesting : ℕ) (ts rest : List Token) → accept_at nesting ts ≡ Ok rest → 0 < nesting
unfolding accept_at
accept_room nesting [] rest e = absurd cc
accept_room zero (t ∷ ts) rest e = absurd cc
accept_room (suc nesting) (t ∷ ts) rest e = omega arith

pub expect_room : (nesting : ℕ) (symbol : Symbol) (ts rest : List Token) → expect_at nesting symbol ts ≡ Ok rest → 0 < nesting
unfolding expect_at
expect_room nesting symbol ts rest e = if_ok (next_is symbol ts) _ _ rest e (λ _ f. accept_room nesting ts rest f) (λ _ f. absurd cc)

-- NAMES

-- what can be named at the end of a process, from some token on
pub record Later (h : Here) (k : Known) : Type 0 where
  pub channels : k.channels ≡ length h.channels
  pub processes : k.processes ≡ length h.processes
  pub variables : length h.variables ≤ k.variables

channel_in : (c : ℕ) (name : Name) (k : Known) → c < k.channels → channel_of c ≡ Some name → NameIsIn k name
channel_in c name k h e = at_test (ltb c 256) e
  where
    at_test : (b : Bool) → cond b (Some (Channel c)) None ≡ Some name → NameIsIn k name
    at_test true f = (let same : Channel c ≡ name = cc in subst (NameIsIn k) same h)
    at_test false f = absurd cc

meaning_in : (h : Here) (text : List ℕ) (name : Name) (k : Known) → Later h k → meaning h text ≡ Some name → NameIsIn k name
unfolding meaning
meaning_in h text name k later e = at_channel (place text h.channels) refl e
  where
    at_variable : (o : Option ℕ) → place text h.variables ≡ o → if_some o (λ v. Some (Variable v)) None ≡ Some name → NameIsIn k name
    at_variable None is f = absurd cc
    at_variable (Some v) is f =
        let same : Variable v ≡ name = cc in
        subst (NameIsIn k) same (omega (arith, place_in text h.variables v is, later.variables))

    at_channel : (o : Option ℕ) → place text h.channels ≡ o → if_some o channel_of (if_some (place text h.variables) (λ v. Some (Variable v)) None) ≡ Some name → NameIsIn k name
    at_channel None is f = at_variable (place text h.variables) refl f
    at_channel (Some c) is f = channel_in c name k (omega (arith, place_in text h.channels c is, later.channels)) f

pub record NameRead (nesting : ℕ) (h : Here) (name : Name) : Type 0 where
  pub some : 0 < nesting
  pub is_in : (k : Known) → Later h k → NameIsIn k name

pub name_read : (nesting : ℕ) (h : Here) (ts : List Token) (x : Name × List Token) → read_name_at nesting h ts ≡ Ok x → NameRead nesting h x.0
unfolding read_name_at
name_read nesting h ts x e =
    some_ok (name_at ts) _ _ x e
    (λ text _ f. some_ok (meaning h text) _ _ x f
    (λ name is g.
    let b = bound_ok (accept_at nesting ts) _ x g in
    let same : name ≡ x.0 = ap (λ (p : Name × List Token). p.0) (let q : (name, b.first) ≡ x = cc in q) in
    record { some = accept_room nesting ts b.first b.is; is_in = λ k later. meaning_in h text x.0 k later (is ∙ ap Some same) })
    (λ g. absurd cc))
    (λ f. absurd cc)

-- a process that is named
pub record ProcessRead (nesting : ℕ) (h : Here) (p : ℕ) : Type 0 where
  pub some : 0 < nesting
  pub is_in : (k : Known) → Later h k → p < k.processes

pub process_named : (nesting : ℕ) (h : Here) (ts : List Token) (x : ℕ × List Token) → read_process_at nesting h ts ≡ Ok x → ProcessRead nesting h x.0
unfolding read_process_at
process_named nesting h ts x e =
    some_ok (name_at ts) _ _ x e
    (λ text _ f. some_ok (place text h.processes) _ _ x f
    (λ p is g.
    let b = bound_ok (accept_at nesting ts) _ x g in
    subst (λ (y : ℕ × List Token). ProcessRead nesting h y.0) (ok_is _ _ b.then)
    (record { some = accept_room nesting ts b.first b.is; is_in = λ k later. omega (arith, place_in text h.processes p is, later.processes) }))
    (λ g. no_ok _ _ g))
    (λ f. no_ok _ _ f)

-- a process that is spawned
pub record IsSpawned (nesting : ℕ) (h h' : Here) (p : ℕ) : Type 0 where
  pub some : 0 < nesting
  pub later : (k : Known) → Later h' k → Later h k
  pub is_in : (k : Known) → Later h' k → p < k.processes
  pub counts : h'.counts ≡ h.counts

pub process_spawned : (nesting : ℕ) (h : Here) (ts : List Token) (x : ℕ × Here × List Token) → spawn_process_at nesting h ts ≡ Ok x → IsSpawned nesting h x.1 x.0
unfolding spawn_process_at
process_spawned nesting h ts x e =
    some_ok (name_at ts) _ _ x e
    (λ text _ f. some_ok (place text h.processes) _ _ x f
    (λ p is g. if_ok (is_among h.spawned p) _ _ x g
    (λ _ k. no_ok _ _ k)
    (λ _ k.
    let b = bound_ok (accept_at nesting ts) _ x k in
    subst (λ (y : ℕ × Here × List Token). IsSpawned nesting h y.1 y.0) (ok_is _ _ b.then)
    (record {
      some = accept_room nesting ts b.first b.is;
      later = λ k later. record { channels = later.channels; processes = later.processes; variables = later.variables };
      is_in = λ k later. omega (arith, place_in text h.processes p is, later.processes);
      counts = refl;
    })))
    (λ g. no_ok _ _ g))
    (λ f. no_ok _ _ f)

-- a variable that is bound
pub record IsBound (nesting : ℕ) (h h' : Here) (v : ℕ) : Type 0 where
  pub some : 0 < nesting
  pub later : (k : Known) → Later h' k → Later h k
  pub is_in : (k : Known) → Later h' k → v < k.variables
  pub counts : h'.counts ≡ h.counts

bound_in : (nesting : ℕ) (h : Here) (text : List ℕ) → 0 < nesting → IsBound nesting h (bound h text).1 (bound h text).0
bound_in nesting h text some = at_place (place text h.variables) refl
  where
    at_place : (o : Option ℕ) → place text h.variables ≡ o
        → IsBound nesting h (if_some {B = ℕ × Here} o (λ v. (v, h)) (length h.variables, record h { variables = h.variables ++ text ∷ [] })).1 (if_some {B = ℕ × Here} o (λ v. (v, h)) (length h.variables, record h { variables = h.variables ++ text ∷ [] })).0
    at_place (Some v) is = record { some = some; later = λ k later. later; is_in = λ k later. omega (arith, place_in text h.variables v is, later.variables); counts = refl }
    at_place None is = record {
      some = some;
      later = λ k later. record { channels = later.channels; processes = later.processes; variables = omega (arith, later.variables, length-append h.variables (text ∷ [])) };
      is_in = λ k later. omega (arith, later.variables, length-append h.variables (text ∷ []));
      counts = refl;
    }

pub bind_name_reads : (nesting : ℕ) (list : List ℕ) (h : Here) (ts : List Token) (x : ℕ × Here × List Token) → bind_name_at nesting list h ts ≡ Ok x → IsBound nesting h x.1 x.0
unfolding bind_name_at
bind_name_reads nesting list h ts x e =
    some_ok (name_at ts) _ _ x e
    (λ text _ f. if_ok (is_taken list h text) _ _ x f
    (λ _ g. absurd cc)
    (λ _ g. if_ok (ltb 32 (length text)) _ _ x g
    (λ _ k. absurd cc)
    (λ _ k.
    let b = bound_ok (accept_at nesting ts) _ x k in
    let is : ((bound h text).0, (bound h text).1, b.first) ≡ x = (let q = b.then in cc) in
    subst (λ (y : ℕ × Here × List Token). IsBound nesting h y.1 y.0) is (bound_in nesting h text (accept_room nesting ts b.first b.is)))))
    (λ f. absurd cc)

-- a list of variables that are bound
pub record AreBound (nesting : ℕ) (h h' : Here) (names : List ℕ) : Type 0 where
  pub some : 0 < nesting
  pub later : (k : Known) → Later h' k → Later h k
  pub is_in : (k : Known) → Later h' k → AllByRecursion (λ v. v < k.variables) names
  pub counts : h'.counts ≡ h.counts

one_bound : (nesting : ℕ) (h h' : Here) (a : ℕ) → IsBound nesting h h' a → AreBound nesting h h' (a ∷ [])
one_bound nesting h h' a b = record { some = b.some; later = b.later; is_in = λ k later. (b.is_in k later, tt); counts = b.counts }

more_bound : (nesting : ℕ) (h h' h'' : Here) (a : ℕ) (names : List ℕ) → IsBound nesting h h' a → AreBound nesting h' h'' names → AreBound nesting h h'' (a ∷ names)
more_bound nesting h h' h'' a names first others = record {
  some = first.some;
  later = λ k later. first.later k (others.later k later);
  is_in = λ k later. (first.is_in k (others.later k later), others.is_in k later);
  counts = others.counts ∙ first.counts;
}

pub bind_names_read : (nesting : ℕ) (h : Here) (ts : List Token) (x : List ℕ × Here × List Token) → bind_names_at nesting h ts ≡ Ok x → AreBound nesting h x.1 x.0
unfolding bind_names_at
bind_names_read nesting h ts x e =
    let a = bound_ok (bind_name_at nesting [] h ts) _ x e in
    let a-read = bind_name_reads nesting [] h ts a.first a.is in
    if_ok (next_is Comma a.first.2) _ _ x a.then
    (λ _ f.
    let r = bound_ok (accept_at nesting a.first.2) _ x f in
    let b = bound_ok (bind_name_at nesting (a.first.0 ∷ []) a.first.1 r.first) _ x r.then in
    let b-read = bind_name_reads nesting _ a.first.1 r.first b.first b.is in
    if_ok (next_is Comma b.first.2) _ _ x b.then
    (λ _ g.
    let q = bound_ok (accept_at nesting b.first.2) _ x g in
    let c = bound_ok (bind_name_at nesting (a.first.0 ∷ b.first.0 ∷ []) b.first.1 q.first) _ x q.then in
    let c-read = bind_name_reads nesting _ b.first.1 q.first c.first c.is in
    if_ok (next_is Comma c.first.2) _ _ x c.then
    (λ _ k.
    let p = bound_ok (accept_at nesting c.first.2) _ x k in
    no_ok _ _ p.then)
    (λ _ k.
    let is : (a.first.0 ∷ b.first.0 ∷ c.first.0 ∷ [], c.first.1, c.first.2) ≡ x = ok_is _ _ k in
    subst (λ (y : List ℕ × Here × List Token). AreBound nesting h y.1 y.0) is (more_bound _ _ _ _ _ _ a-read (more_bound _ _ _ _ _ _ b-read (one_bound _ _ _ _ c-read)))))
    (λ _ g.
    let is : (a.first.0 ∷ b.first.0 ∷ [], b.first.1, b.first.2) ≡ x = ok_is _ _ g in
    subst (λ (y : List ℕ × Here × List Token). AreBound nesting h y.1 y.0) is (more_bound _ _ _ _ _ _ a-read (one_bound _ _ _ _ b-read))))
    (λ _ f.
    let is : (a.first.0 ∷ [], a.first.1, a.first.2) ≡ x = ok_is _ _ f in
    subst (λ (y : List ℕ × Here × List Token). AreBound nesting h y.1 y.0) is (one_bound _ _ _ _ a-read))
