-- Names: what is written is read, and what is read was written.
use Rattle.std.proofs.Common.{◌≡◌, ℕ, ◌<◌, ◌≤◌, Bool, true, false, ◌||◌, ltb, leb, List, [], ◌∷◌, ◌++◌, length, Option, Some, None, Ok, refl, sym, ap, ◌∙◌, subst, arith}
use Rattle.std.proofs.lemmas.Bool.Decides.{nat_tests}
use Rattle.script_token.specs.Tokens.{Token, Name}
use Rattle.script_token.specs.Tokens as tokens
use Rattle.script_token.specs.declared.kind.Symbol.TheVariants.{Comma}
use Rattle.script_grammar.specs.Meaning.{place, if_some, is_among, Names, name_meaning, bound, bind, bind_all}
use Rattle.script_reader.specs.Steps.{Here, name_at, next_is, accept_at, meaning, read_name_at, read_process_at, spawn_process_at, is_taken, bind_name_at, bind_names_at}
use Rattle.script_reader.specs.Steps as steps
use Rattle.script_reader.specs.declared.scope.Counts.{Counts}
use Rattle.script_reader.proofs.Keeping.{bound_ok, ok_is, no_ok, if_ok, some_ok}
use Rattle.script_tree.specs.declared.tree.Name.{Name as Meaning}
use Rattle.script_grammar.specs.Written.{more_names_tokens}
use Rattle.script_grammar.proofs.Parts.{part, some_is, unless_some}
use Rattle.script_reader.specs.Laws.{names_at, at}
use Rattle.script_reader.proofs.ReadFronts.{accept_ok, is_next, next_found, name_found, accept_found}

-- A NAME THAT IS READ

pub means : (h : Here) (text : List ℕ) → meaning h text ≡ name_meaning (names_at h) text
unfolding meaning name_meaning
means h text = refl

pub name_again : (nesting : ℕ) (ns : Names) (counts : Counts) (text : List ℕ) (name : Meaning) (rest : List Token) → 0 < nesting → name_meaning ns text ≡ Some name
    → read_name_at nesting (at ns counts) (Name text ∷ rest) ≡ Ok (name, rest)
unfolding read_name_at
name_again nesting ns counts text name rest some e = rw (means (at ns counts) text ∙ e, accept_ok nesting (Name text) rest some) refl

pub record SpellsName (nesting : ℕ) (ns : Names) (ts : List Token) (name : Meaning) (rest : List Token) : Type 0 where
  pub text : List ℕ
  pub tokens : ts ≡ Name text ∷ rest
  pub some : 0 < nesting
  pub meaning : name_meaning ns text ≡ Some name

pub name_is_found : (nesting : ℕ) (h : Here) (ts : List Token) (x : Meaning × List Token) → read_name_at nesting h ts ≡ Ok x → SpellsName nesting (names_at h) ts x.0 x.1
unfolding read_name_at
name_is_found nesting h ts x e =
    some_ok (name_at ts) _ _ x e
    (λ text named f. some_ok (meaning h text) _ _ x f
    (λ name is g.
    let b = bound_ok (accept_at nesting ts) _ x g in
    let taken = accept_found nesting (Name text) ts b.first (name_found ts text named) b.is in
    subst (λ (y : Meaning × List Token). SpellsName nesting (names_at h) ts y.0 y.1) (ok_is _ _ b.then)
    (record { text = text; tokens = taken.is; some = taken.some; meaning = sym (means h text) ∙ is }))
    (λ g. no_ok _ _ g))
    (λ f. no_ok _ _ f)

-- A PROCESS THAT IS NAMED

pub process_again : (nesting : ℕ) (ns : Names) (counts : Counts) (text : List ℕ) (p : ℕ) (rest : List Token) → 0 < nesting → place text ns.processes ≡ Some p
    → read_process_at nesting (at ns counts) (Name text ∷ rest) ≡ Ok (p, rest)
unfolding read_process_at
process_again nesting ns counts text p rest some e = rw (e, accept_ok nesting (Name text) rest some) refl

pub record SpellsProcess (nesting : ℕ) (ns : Names) (ts : List Token) (p : ℕ) (rest : List Token) : Type 0 where
  pub text : List ℕ
  pub tokens : ts ≡ Name text ∷ rest
  pub some : 0 < nesting
  pub place : place text ns.processes ≡ Some p

pub process_is_found : (nesting : ℕ) (h : Here) (ts : List Token) (x : ℕ × List Token) → read_process_at nesting h ts ≡ Ok x → SpellsProcess nesting (names_at h) ts x.0 x.1
unfolding read_process_at
process_is_found nesting h ts x e =
    some_ok (name_at ts) _ _ x e
    (λ text named f. some_ok (place text h.processes) _ _ x f
    (λ p is g.
    let b = bound_ok (accept_at nesting ts) _ x g in
    let taken = accept_found nesting (Name text) ts b.first (name_found ts text named) b.is in
    subst (λ (y : ℕ × List Token). SpellsProcess nesting (names_at h) ts y.0 y.1) (ok_is _ _ b.then)
    (record { text = text; tokens = taken.is; some = taken.some; place = is }))
    (λ g. no_ok _ _ g))
    (λ f. no_ok _ _ f)

pub spawn_again : (nesting : ℕ) (ns : Names) (counts : Counts) (text : List ℕ) (p : ℕ) (rest : List Token) → 0 < nesting → place text ns.processes ≡ Some p → is_among ns.spawned p ≡ false
    → spawn_process_at nesting (at ns counts) (Name text ∷ rest) ≡ Ok (p, at (record ns { spawned = ns.spawned ++ p ∷ [] }) counts, rest)
unfolding spawn_process_at
spawn_again nesting ns counts text p rest some e new = rw (e, new, accept_ok nesting (Name text) rest some) refl

pub record SpellsSpawned (nesting : ℕ) (h h' : Here) (ts : List Token) (p : ℕ) (rest : List Token) : Type 0 where
  pub text : List ℕ
  pub tokens : ts ≡ Name text ∷ rest
  pub some : 0 < nesting
  pub place : place text h.processes ≡ Some p
  pub new : is_among h.spawned p ≡ false
  pub names : names_at h' ≡ record (names_at h) { spawned = h.spawned ++ p ∷ [] }

pub spawn_is_found : (nesting : ℕ) (h : Here) (ts : List Token) (x : ℕ × Here × List Token) → spawn_process_at nesting h ts ≡ Ok x → SpellsSpawned nesting h x.1 ts x.0 x.2
unfolding spawn_process_at
spawn_is_found nesting h ts x e =
    some_ok (name_at ts) _ _ x e
    (λ text named f. some_ok (place text h.processes) _ _ x f
    (λ p is g. if_ok (is_among h.spawned p) _ _ x g
    (λ _ k. no_ok _ _ k)
    (λ new k.
    let b = bound_ok (accept_at nesting ts) _ x k in
    let taken = accept_found nesting (Name text) ts b.first (name_found ts text named) b.is in
    subst (λ (y : ℕ × Here × List Token). SpellsSpawned nesting h y.1 ts y.0 y.2) (ok_is _ _ b.then)
    (record { text = text; tokens = taken.is; some = taken.some; place = is; new = new; names = refl })))
    (λ g. no_ok _ _ g))
    (λ f. no_ok _ _ f)

-- A NAME THAT IS BOUND

bound_same : (ns : Names) (counts : Counts) (text : List ℕ) → steps.bound (at ns counts) text ≡ ((bound ns text).0, at (bound ns text).1 counts)
bound_same ns counts text = at_place (place text ns.variables)
  where
    at_place : (o : Option ℕ) → if_some {B = ℕ × Here} o (λ v. (v, at ns counts)) (length ns.variables, at (record ns { variables = ns.variables ++ text ∷ [] }) counts)
        ≡ ((if_some {B = ℕ × Names} o (λ v. (v, ns)) (length ns.variables, record ns { variables = ns.variables ++ text ∷ [] })).0, at (if_some {B = ℕ × Names} o (λ v. (v, ns)) (length ns.variables, record ns { variables = ns.variables ++ text ∷ [] })).1 counts)
    at_place (Some v) = refl
    at_place None = refl

pub bind_again : (nesting : ℕ) (list : List ℕ) (ns : Names) (counts : Counts) (text : List ℕ) (b : ℕ × Names) (rest : List Token) → 0 < nesting → bind list ns text ≡ Some b
    → bind_name_at nesting list (at ns counts) (Name text ∷ rest) ≡ Ok (b.0, at b.1 counts, rest)
unfolding bind bind_name_at
bind_again nesting list ns counts text b rest some e =
    unless_some (is_taken list (at ns counts) text) _ b e
    (λ new f. unless_some (ltb 32 (length text)) _ b f
    (λ small g.
    let same = bound_same ns counts text in
    let is : bound ns text ≡ b = some_is _ _ g in
    rw (new, small, accept_ok nesting (Name text) rest some)
    (ap (λ (x : ℕ × Here). Ok (x.0, x.1, rest)) same ∙ ap (λ (x : ℕ × Names). Ok (x.0, at x.1 counts, rest)) is)))

pub record SpellsBound (nesting : ℕ) (list : List ℕ) (h h' : Here) (ts : List Token) (v : ℕ) (rest : List Token) : Type 0 where
  pub text : List ℕ
  pub tokens : ts ≡ Name text ∷ rest
  pub some : 0 < nesting
  pub binds : bind list (names_at h) text ≡ Some (v, names_at h')

pub neither : (a b : Bool) → (a || b) ≡ false → (a ≡ false) × (b ≡ false)
neither false b e = (refl, e)
neither true b e = absurd cc

pub bind_is_found : (nesting : ℕ) (list : List ℕ) (h : Here) (ts : List Token) (x : ℕ × Here × List Token) → bind_name_at nesting list h ts ≡ Ok x → SpellsBound nesting list h x.1 ts x.0 x.2
unfolding bind bind_name_at
bind_is_found nesting list h ts x e =
    some_ok (name_at ts) _ _ x e
    (λ text named f. if_ok (is_taken list h text) _ _ x f
    (λ _ g. no_ok _ _ g)
    (λ new g. if_ok (ltb 32 (length text)) _ _ x g
    (λ _ k. no_ok _ _ k)
    (λ small k.
    let b = bound_ok (accept_at nesting ts) _ x k in
    let taken = accept_found nesting (Name text) ts b.first (name_found ts text named) b.is in
    let same = bound_same (names_at h) h.counts text in
    let is : bind list (names_at h) text ≡ Some ((steps.bound h text).0, names_at (steps.bound h text).1) = rw (new, small) (sym (ap (λ (y : ℕ × Here). Some (y.0, names_at y.1)) same)) in
    subst (λ (y : ℕ × Here × List Token). SpellsBound nesting list h y.1 ts y.0 y.2) (ok_is _ _ b.then)
    (record { text = text; tokens = taken.is; some = taken.some; binds = is }))))
    (λ f. no_ok _ _ f)

-- A LIST OF NAMES THAT ARE BOUND

too_many : (a b c : List ℕ) (more : List (List ℕ)) → leb (length (a ∷ b ∷ c ∷ more)) 2 ≡ true → ⊥
too_many a b c more e = (let small : length (a ∷ b ∷ c ∷ more) ≤ 2 = grind (arith, nat_tests) in omega arith)

pub names_again : (nesting : ℕ) (ns : Names) (counts : Counts) (text : List ℕ) (texts : List (List ℕ)) (b : List ℕ × Names) (rest : List Token)
    → 0 < nesting → leb (length texts) 2 ≡ true → bind_all [] ns (text ∷ texts) ≡ Some b → next_is Comma rest ≡ false
    → bind_names_at nesting (at ns counts) (Name text ∷ more_names_tokens texts rest) ≡ Ok (b.0, at b.1 counts, rest)
unfolding bind_all bind_names_at
names_again nesting ns counts text [] b rest some few e last =
    let x = part (bind [] ns text) _ b e in
    let is = some_is _ _ x.then in
    rw (bind_again nesting [] ns counts text x.first rest some x.is, last) (ap (λ (y : List ℕ × Names). Ok (y.0, at y.1 counts, rest)) is)
names_again nesting ns counts text (text' ∷ []) b rest some few e last =
    let x = part (bind [] ns text) _ b e in
    let y = part (bind (x.first.0 ∷ []) x.first.1 text') _ b x.then in
    let is = some_is _ _ y.then in
    rw (
      bind_again nesting [] ns counts text x.first (tokens.Fixed Comma ∷ Name text' ∷ rest) some x.is,
      is_next Comma (Name text' ∷ rest),
      accept_ok nesting (tokens.Fixed Comma) (Name text' ∷ rest) some,
      bind_again nesting (x.first.0 ∷ []) x.first.1 counts text' y.first rest some y.is,
      last,
    ) (ap (λ (y : List ℕ × Names). Ok (y.0, at y.1 counts, rest)) is)
names_again nesting ns counts text (text' ∷ text'' ∷ []) b rest some few e last =
    let x = part (bind [] ns text) _ b e in
    let y = part (bind (x.first.0 ∷ []) x.first.1 text') _ b x.then in
    let z = part (bind (x.first.0 ∷ y.first.0 ∷ []) y.first.1 text'') _ b y.then in
    let is = some_is _ _ z.then in
    let behind = tokens.Fixed Comma ∷ Name text'' ∷ rest in
    rw (
      bind_again nesting [] ns counts text x.first (tokens.Fixed Comma ∷ Name text' ∷ behind) some x.is,
      is_next Comma (Name text' ∷ behind),
      accept_ok nesting (tokens.Fixed Comma) (Name text' ∷ behind) some,
      bind_again nesting (x.first.0 ∷ []) x.first.1 counts text' y.first behind some y.is,
      is_next Comma (Name text'' ∷ rest),
      accept_ok nesting (tokens.Fixed Comma) (Name text'' ∷ rest) some,
      bind_again nesting (x.first.0 ∷ y.first.0 ∷ []) y.first.1 counts text'' z.first rest some z.is,
      last,
    ) (ap (λ (y : List ℕ × Names). Ok (y.0, at y.1 counts, rest)) is)
names_again nesting ns counts text (text' ∷ text'' ∷ text''' ∷ more) b rest some few e last = absurd (too_many text' text'' text''' more few)

pub record SpellsNames (nesting : ℕ) (h h' : Here) (ts : List Token) (list : List ℕ) (rest : List Token) : Type 0 where
  pub text : List ℕ
  pub texts : List (List ℕ)
  pub tokens : ts ≡ Name text ∷ more_names_tokens texts rest
  pub some : 0 < nesting
  pub few : leb (length texts) 2 ≡ true
  pub binds : bind_all [] (names_at h) (text ∷ texts) ≡ Some (list, names_at h')

pub names_found : (nesting : ℕ) (h : Here) (ts : List Token) (x : List ℕ × Here × List Token) → bind_names_at nesting h ts ≡ Ok x → SpellsNames nesting h x.1 ts x.0 x.2
unfolding bind_all bind_names_at
names_found nesting h ts x e =
    let a = bound_ok (bind_name_at nesting [] h ts) _ x e in
    let p = bind_is_found nesting [] h ts a.first a.is in
    if_ok (next_is Comma a.first.2) _ _ x a.then
    (λ comma f.
    let r = bound_ok (accept_at nesting a.first.2) _ x f in
    let r-is = accept_found nesting (tokens.Fixed Comma) a.first.2 r.first (next_found Comma a.first.2 comma) r.is in
    let b = bound_ok (bind_name_at nesting (a.first.0 ∷ []) a.first.1 r.first) _ x r.then in
    let q = bind_is_found nesting _ a.first.1 r.first b.first b.is in
    if_ok (next_is Comma b.first.2) _ _ x b.then
    (λ comma' g.
    let s = bound_ok (accept_at nesting b.first.2) _ x g in
    let s-is = accept_found nesting (tokens.Fixed Comma) b.first.2 s.first (next_found Comma b.first.2 comma') s.is in
    let c = bound_ok (bind_name_at nesting (a.first.0 ∷ b.first.0 ∷ []) b.first.1 s.first) _ x s.then in
    let w = bind_is_found nesting _ b.first.1 s.first c.first c.is in
    if_ok (next_is Comma c.first.2) _ _ x c.then
    (λ _ k.
    let o = bound_ok (accept_at nesting c.first.2) _ x k in
    no_ok _ _ o.then)
    (λ _ k.
    subst (λ (y : List ℕ × Here × List Token). SpellsNames nesting h y.1 ts y.0 y.2) (ok_is _ _ k)
    (record {
      text = p.text;
      texts = q.text ∷ w.text ∷ [];
      tokens = p.tokens ∙ ap (λ (y : List Token). Name p.text ∷ y) (r-is.is ∙ ap (λ (y : List Token). tokens.Fixed Comma ∷ y) (q.tokens ∙ ap (λ (y : List Token). Name q.text ∷ y) (s-is.is ∙ ap (λ (y : List Token). tokens.Fixed Comma ∷ y) w.tokens)));
      some = p.some;
      few = refl;
      binds = rw (p.binds, q.binds, w.binds) refl;
    })))
    (λ _ g.
    subst (λ (y : List ℕ × Here × List Token). SpellsNames nesting h y.1 ts y.0 y.2) (ok_is _ _ g)
    (record {
      text = p.text;
      texts = q.text ∷ [];
      tokens = p.tokens ∙ ap (λ (y : List Token). Name p.text ∷ y) (r-is.is ∙ ap (λ (y : List Token). tokens.Fixed Comma ∷ y) q.tokens);
      some = p.some;
      few = refl;
      binds = rw (p.binds, q.binds) refl;
    })))
    (λ _ f.
    subst (λ (y : List ℕ × Here × List Token). SpellsNames nesting h y.1 ts y.0 y.2) (ok_is _ _ f)
    (record { text = p.text; texts = []; tokens = p.tokens; some = p.some; few = refl; binds = rw p.binds refl }))
