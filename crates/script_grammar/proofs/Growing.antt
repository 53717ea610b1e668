-- What is written binds further variables behind those that are bound, and leaves the channels and the
-- processes. To those behind a process others may be added.
use Rattle.std.proofs.Common.{◌≡◌, ℕ, Bool, true, false, ◌||◌, ltb, leb, List, [], ◌∷◌, ◌++◌, length, Option, Some, None, is_some, refl, sym, ap, ◌∙◌, subst, append_assoc}
use Rattle.std.proofs.lemmas.List.{append-nil}
use Rattle.script_grammar.specs.Meaning.{place, if_some, is_among, is_listed, Names, name_meaning, expr_meaning, test_meaning, list_meaning, bound, bind, bind_all, bind_names, is_small, as_turn, event_meaning, events_meaning, stmt_meaning, block_meaning}
use Rattle.script_tree.specs.Trees as trees
use Rattle.script_grammar.specs.Written as written
use Rattle.script_grammar.proofs.Parts.{part, some_is, if_else_some, unless_some}

pub record Grows (ns ns' : Names) : Type 0 where
  pub channels : ns'.channels ≡ ns.channels
  pub later : List (List ℕ)
  pub processes : ns'.processes ≡ ns.processes ++ later
  pub more : List (List ℕ)
  pub variables : ns'.variables ≡ ns.variables ++ more

pub stays : (ns : Names) → Grows ns ns
stays ns = record { channels = refl; later = []; processes = sym (append-nil ns.processes); more = []; variables = sym (append-nil ns.variables) }

pub grows_on : (a b c : Names) → Grows a b → Grows b c → Grows a c
grows_on a b c f g = record {
  channels = g.channels ∙ f.channels;
  later = f.later ++ g.later;
  processes = g.processes ∙ ap (λ (x : List (List ℕ)). x ++ g.later) f.processes ∙ append_assoc a.processes f.later g.later;
  more = f.more ++ g.more;
  variables = g.variables ∙ ap (λ (x : List (List ℕ)). x ++ g.more) f.variables ∙ append_assoc a.variables f.more g.more;
}

pub bound_grows : (ns : Names) (text : List ℕ) → Grows ns (bound ns text).1
bound_grows ns text = at_place (place text ns.variables)
  where
    at_place : (o : Option ℕ) → Grows ns (if_some {B = ℕ × Names} o (λ v. (v, ns)) (length ns.variables, record ns { variables = ns.variables ++ text ∷ [] })).1
    at_place (Some v) = stays ns
    at_place None = record { channels = refl; later = []; processes = sym (append-nil ns.processes); more = text ∷ []; variables = refl }

pub bind_grows : (list : List ℕ) (ns : Names) (text : List ℕ) (b : ℕ × Names) → bind list ns text ≡ Some b → Grows ns b.1
unfolding bind
bind_grows list ns text b e =
    unless_some (is_some (place text ns.channels) || is_listed list (place text ns.variables)) _ b e
    (λ _ f. unless_some (ltb 32 (length text)) _ b f
    (λ _ g. subst (λ (y : ℕ × Names). Grows ns y.1) (some_is _ _ g) (bound_grows ns text)))

pub bind_all_grows : (texts : List (List ℕ)) (list : List ℕ) (ns : Names) (b : List ℕ × Names) → bind_all list ns texts ≡ Some b → Grows ns b.1
unfolding bind_all
bind_all_grows [] list ns b e = subst (λ (y : List ℕ × Names). Grows ns y.1) (some_is _ _ e) (stays ns)
bind_all_grows (text ∷ texts) list ns b e =
    let a = part (bind list ns text) _ b e in
    grows_on ns a.first.1 b.1 (bind_grows list ns text a.first a.is) (bind_all_grows texts (list ++ a.first.0 ∷ []) a.first.1 b a.then)

pub bind_names_grows : (texts : List (List ℕ)) (ns : Names) (b : Option (List ℕ) × Names) → bind_names ns texts ≡ Some b → Grows ns b.1
unfolding bind_names
bind_names_grows [] ns b e = subst (λ (y : Option (List ℕ) × Names). Grows ns y.1) (some_is _ _ e) (stays ns)
bind_names_grows (text ∷ texts) ns b e =
    if_else_some (leb (length texts) 2) _ b e
    (λ _ f.
    let a = part (bind_all [] ns (text ∷ texts)) _ b f in
    subst (λ (y : Option (List ℕ) × Names). Grows ns y.1) (some_is _ _ a.then) (bind_all_grows (text ∷ texts) [] ns a.first a.is))

mutual
  unfolding event_meaning events_meaning stmt_meaning block_meaning

  pub event_grows : (w : written.Event) (ns : Names) (x : trees.Event × Names) → event_meaning ns w ≡ Some x → Grows ns x.1
  event_grows (written.Send channel list) ns x e =
      let c = part (name_meaning ns channel) _ x e in
      let l = part (list_meaning ns list) _ x c.then in
      subst (λ (y : trees.Event × Names). Grows ns y.1) (some_is _ _ l.then) (stays ns)
  event_grows (written.Recv channel) ns x e =
      let c = part (name_meaning ns channel) _ x e in
      subst (λ (y : trees.Event × Names). Grows ns y.1) (some_is _ _ c.then) (stays ns)
  event_grows (written.Always list) ns x e =
      let l = part (list_meaning ns list) _ x e in
      subst (λ (y : trees.Event × Names). Grows ns y.1) (some_is _ _ l.then) (stays ns)
  event_grows written.Never ns x e = subst (λ (y : trees.Event × Names). Grows ns y.1) (some_is _ _ e) (stays ns)
  event_grows (written.Cancelled nack) ns x e =
      let n = part (name_meaning ns nack) _ x e in
      subst (λ (y : trees.Event × Names). Grows ns y.1) (some_is _ _ n.then) (stays ns)
  event_grows (written.Joined process) ns x e =
      let p = part (place process ns.processes) _ x e in
      subst (λ (y : trees.Event × Names). Grows ns y.1) (some_is _ _ p.then) (stays ns)
  event_grows (written.Choose members) ns x e =
      let m = part (events_meaning ns members) _ x e in
      subst (λ (y : trees.Event × Names). Grows ns y.1) (some_is _ _ m.then) (events_grow members ns m.first m.is)
  event_grows (written.Wrap event names list) ns x e =
      let a = part (event_meaning ns event) _ x e in
      let b = part (bind_names a.first.1 names) _ x a.then in
      let l = part (list_meaning b.first.1 list) _ x b.then in
      subst (λ (y : trees.Event × Names). Grows ns y.1) (some_is _ _ l.then)
      (grows_on ns a.first.1 b.first.1 (event_grows event ns a.first a.is) (bind_names_grows names a.first.1 b.first b.is))
  event_grows (written.Guard body event) ns x e =
      let b = part (block_meaning false ns body) _ x e in
      let a = part (event_meaning b.first.1 event) _ x b.then in
      subst (λ (y : trees.Event × Names). Grows ns y.1) (some_is _ _ a.then)
      (grows_on ns b.first.1 a.first.1 (block_grows body false ns b.first b.is) (event_grows event b.first.1 a.first a.is))
  event_grows (written.Nack name body event) ns x e =
      let n = part (bind [] ns name) _ x e in
      let b = part (block_meaning false n.first.1 body) _ x n.then in
      let a = part (event_meaning b.first.1 event) _ x b.then in
      subst (λ (y : trees.Event × Names). Grows ns y.1) (some_is _ _ a.then)
      (grows_on ns n.first.1 a.first.1 (bind_grows [] ns name n.first n.is)
      (grows_on n.first.1 b.first.1 a.first.1 (block_grows body false n.first.1 b.first b.is) (event_grows event b.first.1 a.first a.is)))

  pub events_grow : (w : written.Events) (ns : Names) (x : trees.Events × Names) → events_meaning ns w ≡ Some x → Grows ns x.1
  events_grow written.NoEvents ns x e = subst (λ (y : trees.Events × Names). Grows ns y.1) (some_is _ _ e) (stays ns)
  events_grow (written.Another event others) ns x e =
      let a = part (event_meaning ns event) _ x e in
      let m = part (events_meaning a.first.1 others) _ x a.then in
      subst (λ (y : trees.Events × Names). Grows ns y.1) (some_is _ _ m.then)
      (grows_on ns a.first.1 m.first.1 (event_grows event ns a.first a.is) (events_grow others a.first.1 m.first m.is))

  pub stmt_grows : (w : written.Stmt) (loops : Bool) (ns : Names) (x : trees.Stmt × Names) → stmt_meaning loops ns w ≡ Some x → Grows ns x.1
  stmt_grows (written.Let name value) loops ns x e =
      let n = part (bind [] ns name) _ x e in
      let v = part (expr_meaning n.first.1 value) _ x n.then in
      subst (λ (y : trees.Stmt × Names). Grows ns y.1) (some_is _ _ v.then) (bind_grows [] ns name n.first n.is)
  stmt_grows (written.Print value) loops ns x e =
      let v = part (expr_meaning ns value) _ x e in
      subst (λ (y : trees.Stmt × Names). Grows ns y.1) (some_is _ _ v.then) (stays ns)
  stmt_grows (written.Sync names event) loops ns x e =
      let b = part (bind_names ns names) _ x e in
      let a = part (event_meaning b.first.1 event) _ x b.then in
      if_else_some (is_small a.first.0) _ x a.then
      (λ _ f. subst (λ (y : trees.Stmt × Names). Grows ns y.1) (some_is _ _ f)
      (grows_on ns b.first.1 a.first.1 (bind_names_grows names ns b.first b.is) (event_grows event b.first.1 a.first a.is)))
  stmt_grows (written.If test first second) loops ns x e =
      let t = part (test_meaning ns test) _ x e in
      let a = part (block_meaning loops ns first) _ x t.then in
      let b = part (block_meaning loops a.first.1 second) _ x a.then in
      subst (λ (y : trees.Stmt × Names). Grows ns y.1) (some_is _ _ b.then)
      (grows_on ns a.first.1 b.first.1 (block_grows first loops ns a.first a.is) (block_grows second loops a.first.1 b.first b.is))
  stmt_grows (written.Loop times body) loops ns x e =
      if_else_some loops _ x e
      (λ _ f.
      let b = part (block_meaning true ns body) _ x f in
      let t = part (as_turn b.first.0) _ x b.then in
      subst (λ (y : trees.Stmt × Names). Grows ns y.1) (some_is _ _ t.then) (block_grows body true ns b.first b.is))
  stmt_grows (written.Forever body) loops ns x e =
      if_else_some loops _ x e
      (λ _ f.
      let b = part (block_meaning true ns body) _ x f in
      let t = part (as_turn b.first.0) _ x b.then in
      subst (λ (y : trees.Stmt × Names). Grows ns y.1) (some_is _ _ t.then) (block_grows body true ns b.first b.is))
  stmt_grows written.End loops ns x e = subst (λ (y : trees.Stmt × Names). Grows ns y.1) (some_is _ _ e) (stays ns)
  stmt_grows (written.Spawn process) loops ns x e =
      let p = part (place process ns.processes) _ x e in
      unless_some (is_among ns.spawned p.first) _ x p.then
      (λ _ f. subst (λ (y : trees.Stmt × Names). Grows ns y.1) (some_is _ _ f)
      (record { channels = refl; later = []; processes = sym (append-nil ns.processes); more = []; variables = sym (append-nil ns.variables) }))

  pub block_grows : (w : written.Block) (loops : Bool) (ns : Names) (x : trees.Block × Names) → block_meaning loops ns w ≡ Some x → Grows ns x.1
  block_grows written.Done loops ns x e = subst (λ (y : trees.Block × Names). Grows ns y.1) (some_is _ _ e) (stays ns)
  block_grows (written.Then stmt others) loops ns x e =
      let a = part (stmt_meaning loops ns stmt) _ x e in
      let b = part (block_meaning loops a.first.1 others) _ x a.then in
      subst (λ (y : trees.Block × Names). Grows ns y.1) (some_is _ _ b.then)
      (grows_on ns a.first.1 b.first.1 (stmt_grows stmt loops ns a.first a.is) (block_grows others loops a.first.1 b.first b.is))
