-- What is meant is meant when it is written plainly, no deeper, and with good tokens if they were good.
use Rattle.std.proofs.Common.{◌≡◌, ℕ, zero, suc, ◌+◌, ◌≤◌, max, Bool, true, false, cond, ◌||◌, ltb, leb, List, [], ◌∷◌, ◌++◌, length, map, Option, Some, None, is_some, refl, sym, ap, ◌∙◌, subst, arith, add-one, append_assoc}
use Rattle.std.specs.Prelude.{slice_get}
use Rattle.std.specs.Option.{option_map}
use Rattle.std.specs.Str.{bytes_eq}
use Rattle.std.proofs.lemmas.List.{append-nil, map-append}
use Rattle.std.proofs.lemmas.Slice.Eq.{bytes_eq-Decides}
use Rattle.script_token.specs.Tokens.{Token, Fixed, Name}
use Rattle.script_token.specs.declared.kind.Symbol.TheVariants as symbols
use Rattle.script_grammar.specs.Meaning.{place, if_some, channel_of, is_listed, Parts, linked, parts_term, whole, Names, name_meaning, term_meaning, terms_meaning, expr_meaning, bound, bind, bind_all, bind_names}
use Rattle.script_tree.specs.declared.tree.Name.{Name as Meaning}
use Rattle.script_tree.specs.declared.tree.Name.TheVariants.{Variable, Channel}
use Rattle.script_tree.specs.declared.tree.Operand.{Operand}
use Rattle.script_tree.specs.declared.tree.Operand.TheVariants as operands
use Rattle.script_tree.specs.declared.tree.Sign.{Sign}
use Rattle.script_tree.specs.Trees as trees
use Rattle.script_grammar.specs.Written.{Term, OfNumber, OfName, Grouped, Terms, NoMore, Further, Expr, sign_symbol, term_tokens, terms_tokens, expr_tokens}
use Rattle.script_grammar.specs.Depths.{term_depth, terms_depth, expr_depth}
use Rattle.script_grammar.proofs.Parts.{part, some_is, if_else_some, unless_some}
use Rattle.script_grammar.proofs.Growing.{Grows, grows_on, bind_all_grows}
use Rattle.script_writer.specs.Plain.{text_or_none, variable, name_of, process_name, names_of, plain_operand, plain_term, plain_terms, plain_expr}
use Rattle.script.proofs.Good.{Good, AllGood}

-- NAMES

same_bytes : (a b : List ℕ) → bytes_eq a b ≡ true → a ≡ b
same_bytes a b e = (bytes_eq-Decides a b).0 e

pub placed : (text : List ℕ) (names : List (List ℕ)) (n : ℕ) → place text names ≡ Some n → slice_get names n ≡ Some text
placed text [] n e = absurd cc
placed text (x ∷ names) n e = at_test (λ m is. placed text names m is) (bytes_eq text x) refl e
  where
    at_rest : ((m : ℕ) → place text names ≡ Some m → slice_get names m ≡ Some text) → (o : Option ℕ) → place text names ≡ o → option_map (λ n. n + 1) o ≡ Some n → slice_get (x ∷ names) n ≡ Some text
    at_rest next None is f = absurd cc
    at_rest next (Some m) is f = (let same : m + 1 ≡ n = cc in ap (slice_get (x ∷ names)) (sym same ∙ add-one m) ∙ next m is)

    at_test : ((m : ℕ) → place text names ≡ Some m → slice_get names m ≡ Some text) → (v : Bool) → bytes_eq text x ≡ v → cond v (Some 0) (option_map (λ n. n + 1) (place text names)) ≡ Some n → slice_get (x ∷ names) n ≡ Some text
    at_test next true is f = (let same : 0 ≡ n = cc in ap (slice_get (x ∷ names)) (sym same) ∙ ap Some (sym (same_bytes text x is)))
    at_test next false is f = at_rest next (place text names) refl f

still_there : (xs ys : List (List ℕ)) (n : ℕ) (x : List ℕ) → slice_get xs n ≡ Some x → slice_get (xs ++ ys) n ≡ Some x
still_there [] ys n x e = absurd cc
still_there (y ∷ xs) ys zero x e = e
still_there (y ∷ xs) ys (suc n) x e = still_there xs ys n x e

last_there : (xs : List (List ℕ)) (x : List ℕ) → slice_get (xs ++ x ∷ []) (length xs) ≡ Some x
last_there [] x = refl
last_there (y ∷ xs) x = last_there xs x

variable_is : (ns V : Names) (v : ℕ) (text : List ℕ) → Grows ns V → slice_get ns.variables v ≡ Some text → variable V v ≡ text
variable_is ns V v text g e =
    let there : slice_get V.variables v ≡ Some text = ap (λ (xs : List (List ℕ)). slice_get xs v) g.variables ∙ still_there ns.variables g.more v text e in
    ap text_or_none there

pub named : (ns V : Names) (text : List ℕ) (name : Meaning) → Grows ns V → name_meaning ns text ≡ Some name → name_of V name ≡ text
unfolding name_meaning
named ns V text name g e = at_channel (place text ns.channels) refl e
  where
    at_number : (c : ℕ) → place text ns.channels ≡ Some c → (v : Bool) → cond v (Some (Channel c)) None ≡ Some name → name_of V name ≡ text
    at_number c is false f = absurd cc
    at_number c is true f =
        let same : Channel c ≡ name = some_is _ _ f in
        let there : slice_get V.channels c ≡ Some text = ap (λ (xs : List (List ℕ)). slice_get xs c) g.channels ∙ placed text ns.channels c is in
        ap (name_of V) (sym same) ∙ ap text_or_none there

    at_variable : (o : Option ℕ) → place text ns.variables ≡ o → if_some o (λ v. Some (Variable v)) None ≡ Some name → name_of V name ≡ text
    at_variable None is f = absurd cc
    at_variable (Some v) is f = (let same : Variable v ≡ name = some_is _ _ f in ap (name_of V) (sym same) ∙ variable_is ns V v text g (placed text ns.variables v is))

    at_channel : (o : Option ℕ) → place text ns.channels ≡ o → if_some o channel_of (if_some (place text ns.variables) (λ v. Some (Variable v)) None) ≡ Some name → name_of V name ≡ text
    at_channel None is f = at_variable (place text ns.variables) refl f
    at_channel (Some c) is f = at_number c is (ltb c 256) f

pub process_named : (ns V : Names) (text : List ℕ) (p : ℕ) → Grows ns V → place text ns.processes ≡ Some p → process_name V p ≡ text
process_named ns V text p g e =
    let there : slice_get V.processes p ≡ Some text = ap (λ (xs : List (List ℕ)). slice_get xs p) g.processes ∙ still_there ns.processes g.later p text (placed text ns.processes p e) in
    ap text_or_none there

bound_there : (ns : Names) (text : List ℕ) → slice_get (bound ns text).1.variables (bound ns text).0 ≡ Some text
bound_there ns text = at_place (place text ns.variables) refl
  where
    at_place : (o : Option ℕ) → place text ns.variables ≡ o
        → slice_get (if_some {B = ℕ × Names} o (λ v. (v, ns)) (length ns.variables, record ns { variables = ns.variables ++ text ∷ [] })).1.variables (if_some {B = ℕ × Names} o (λ v. (v, ns)) (length ns.variables, record ns { variables = ns.variables ++ text ∷ [] })).0 ≡ Some text
    at_place (Some v) is = placed text ns.variables v is
    at_place None is = last_there ns.variables text

pub bound_named : (list : List ℕ) (ns V : Names) (text : List ℕ) (b : ℕ × Names) → bind list ns text ≡ Some b → Grows b.1 V → variable V b.0 ≡ text
unfolding bind
bound_named list ns V text b e g =
    unless_some (is_some (place text ns.channels) || is_listed list (place text ns.variables)) _ b e
    (λ _ f. unless_some (ltb 32 (length text)) _ b f
    (λ _ h.
    let there : slice_get b.1.variables b.0 ≡ Some text = subst (λ (y : ℕ × Names). slice_get y.1.variables y.0 ≡ Some text) (some_is _ _ h) (bound_there ns text) in
    variable_is b.1 V b.0 text g there))

all_named : (texts olds : List (List ℕ)) (list : List ℕ) (ns V : Names) (b : List ℕ × Names) → bind_all list ns texts ≡ Some b → Grows b.1 V → map (variable V) list ≡ olds → map (variable V) b.0 ≡ olds ++ texts
unfolding bind_all
all_named [] olds list ns V b e g h = ap (λ (y : List ℕ × Names). map (variable V) y.0) (sym (some_is _ _ e)) ∙ h ∙ sym (append-nil olds)
all_named (text ∷ texts) olds list ns V b e g h =
    let a = part (bind list ns text) _ b e in
    let here = bound_named list ns V text a.first a.is (grows_on a.first.1 b.1 V (bind_all_grows texts (list ++ a.first.0 ∷ []) a.first.1 b a.then) g) in
    let longer : map (variable V) (list ++ a.first.0 ∷ []) ≡ olds ++ text ∷ [] = map-append (variable V) list (a.first.0 ∷ []) ∙ rw (h, here) refl in
    all_named texts (olds ++ text ∷ []) (list ++ a.first.0 ∷ []) a.first.1 V b a.then g longer ∙ append_assoc olds (text ∷ []) texts

pub names_named : (texts : List (List ℕ)) (ns V : Names) (b : Option (List ℕ) × Names) → bind_names ns texts ≡ Some b → Grows b.1 V → names_of V b.0 ≡ texts
unfolding bind_names
names_named [] ns V b e g = ap (λ (y : Option (List ℕ) × Names). names_of V y.0) (sym (some_is _ _ e))
names_named (text ∷ texts) ns V b e g =
    if_else_some (leb (length texts) 2) _ b e
    (λ _ f.
    let a = part (bind_all [] ns (text ∷ texts)) _ b f in
    let same = some_is _ _ a.then in
    ap (λ (y : Option (List ℕ) × Names). names_of V y.0) (sym same) ∙ all_named (text ∷ texts) [] [] ns V a.first a.is (subst (λ (y : Option (List ℕ) × Names). Grows y.1 V) (sym same) g) refl)

-- EXPRESSIONS

-- a sum that is meant, and how it is written plainly
record PlainSum (ns V : Names) (write : List Token → List Token) (depth : ℕ) (p : Parts) : Type 0 where
  operand : term_meaning ns (plain_operand V p.0) ≡ Some (p.0, [])
  terms : terms_meaning ns (plain_terms V (linked p.1)) ≡ Some p.1
  shallow : terms_depth (plain_terms V (linked p.1)) ≤ depth
  term_shallow : term_depth (plain_term V (parts_term p)) ≤ depth
  good : (rest rest' : List Token) → AllGood (write rest) → (AllGood rest → AllGood rest') → AllGood (term_tokens (plain_operand V p.0) (terms_tokens (plain_terms V (linked p.1)) rest'))

-- terms behind a sum
record PlainTerms (ns V : Names) (write : List Token → List Token) (depth : ℕ) (ts : List (Sign × trees.Term)) : Type 0 where
  meaning : terms_meaning ns (plain_terms V (linked ts)) ≡ Some ts
  shallow : terms_depth (plain_terms V (linked ts)) ≤ depth
  good : (rest rest' : List Token) → AllGood (write rest) → (AllGood rest → AllGood rest') → AllGood (terms_tokens (plain_terms V (linked ts)) rest')

operand_flat : (V : Names) (o : Operand) → term_depth (plain_operand V o) ≡ 0
operand_flat V (operands.Number n) = refl
operand_flat V (operands.Named name) = refl

-- a sum as a term behind a sign
term_means : (ns V : Names) (p : Parts) → term_meaning ns (plain_operand V p.0) ≡ Some (p.0, []) → terms_meaning ns (plain_terms V (linked p.1)) ≡ Some p.1 → term_meaning ns (plain_term V (parts_term p)) ≡ Some p
unfolding linked term_meaning
term_means ns V (o, []) e f = e
term_means ns V (o, t ∷ ts) e f = rw (e, f) refl

term_good : (V : Names) (p : Parts) (rest : List Token) → ((rest' : List Token) → (AllGood rest → AllGood rest') → AllGood (term_tokens (plain_operand V p.0) (terms_tokens (plain_terms V (linked p.1)) rest')))
    → (rest' : List Token) → (AllGood rest → AllGood rest') → AllGood (term_tokens (plain_term V (parts_term p)) rest')
unfolding linked AllGood Good
term_good V (o, []) rest h rest' k = h rest' k
term_good V (o, t ∷ ts) rest h rest' k = (tt, h (Fixed symbols.CloseParen ∷ rest') (λ g. (tt, k g)))

joined_means : (ns V : Names) (ts us : List (Sign × trees.Term)) → terms_meaning ns (plain_terms V (linked ts)) ≡ Some ts → terms_meaning ns (plain_terms V (linked us)) ≡ Some us → terms_meaning ns (plain_terms V (linked (ts ++ us))) ≡ Some (ts ++ us)
unfolding linked terms_meaning
joined_means ns V [] us e f = f
joined_means ns V (t ∷ ts) us e f =
    let a = part (term_meaning ns (plain_term V t.1)) _ (t ∷ ts) e in
    let b = part (terms_meaning ns (plain_terms V (linked ts))) _ (t ∷ ts) a.then in
    let same : (t.0, parts_term a.first) ∷ b.first ≡ t ∷ ts = some_is _ _ b.then in
    let head : (t.0, parts_term a.first) ≡ t = cc in
    let tail : b.first ≡ ts = cc in
    let more = joined_means ns V ts us (b.is ∙ ap Some tail) f in
    rw (a.is, more) (ap (λ (y : Sign × trees.Term). Some (y ∷ (ts ++ us))) head)

joined_depth : (V : Names) (ts us : List (Sign × trees.Term)) → terms_depth (plain_terms V (linked (ts ++ us))) ≡ max (terms_depth (plain_terms V (linked ts))) (terms_depth (plain_terms V (linked us)))
unfolding linked
joined_depth V [] us = omega arith
joined_depth V (t ∷ ts) us = omega (arith, joined_depth V ts us)

joined_tokens : (V : Names) (ts us : List (Sign × trees.Term)) (rest : List Token) → terms_tokens (plain_terms V (linked (ts ++ us))) rest ≡ terms_tokens (plain_terms V (linked ts)) (terms_tokens (plain_terms V (linked us)) rest)
unfolding linked
joined_tokens V [] us rest = refl
joined_tokens V (t ∷ ts) us rest = ap (λ (y : List Token). Fixed (sign_symbol t.0) ∷ term_tokens (plain_term V t.1) y) (joined_tokens V ts us rest)

term_depth_of : (V : Names) (p : Parts) → term_depth (plain_term V (parts_term p)) ≤ 1 + terms_depth (plain_terms V (linked p.1))
unfolding linked
term_depth_of V (o, []) = omega (arith, operand_flat V o)
term_depth_of V (o, t ∷ ts) = omega (arith, operand_flat V o)

name_means : (ns : Names) (text text' : List ℕ) (name : Meaning) → text' ≡ text → name_meaning ns text ≡ Some name → term_meaning ns (OfName text') ≡ Some (operands.Named name, [])
unfolding term_meaning
name_means ns text text' name same e = rw same (rw e refl)

mutual
  unfolding term_meaning terms_meaning linked AllGood Good

  term_plain : (t : Term) (ns V : Names) (p : Parts) → term_meaning ns t ≡ Some p → Grows ns V → PlainSum ns V (term_tokens t) (term_depth t) p
  term_plain (OfNumber n) ns V p e g = subst (PlainSum ns V (term_tokens (OfNumber n)) 0) (some_is _ _ e) (record { operand = refl; terms = refl; shallow = omega arith; term_shallow = omega arith; good = λ rest rest' h k. (h.0, k h.1) })
  term_plain (OfName text) ns V p e g =
      let name = part (name_meaning ns text) _ p e in
      let is = named ns V text name.first g name.is in
      subst (PlainSum ns V (term_tokens (OfName text)) 0) (some_is _ _ name.then) (record {
        operand = name_means ns text (name_of V name.first) name.first is name.is;
        terms = refl;
        shallow = omega arith;
        term_shallow = omega arith;
        good = λ rest rest' h k. (subst (λ (y : List ℕ). Good (Name y)) (sym is) h.0, k h.1);
      })
  term_plain (Grouped first more) ns V p e g =
      let a = part (term_meaning ns first) _ p e in
      let b = part (terms_meaning ns more) _ p a.then in
      let x = term_plain first ns V a.first a.is g in
      let y = terms_plain more ns V b.first b.is g in
      let sum : Parts = (a.first.0, a.first.1 ++ b.first) in
      let deep = joined_depth V a.first.1 b.first in
      let term = term_depth_of V sum in
      subst (PlainSum ns V (term_tokens (Grouped first more)) (term_depth (Grouped first more))) (some_is _ _ b.then) (record {
        operand = x.operand;
        terms = joined_means ns V a.first.1 b.first x.terms y.meaning;
        shallow = omega (arith, deep, x.shallow, y.shallow);
        term_shallow = omega (arith, term, deep, x.shallow, y.shallow);
        good = λ rest rest' h k.
            subst (λ (z : List Token). AllGood (term_tokens (plain_operand V a.first.0) z)) (sym (joined_tokens V a.first.1 b.first rest'))
            (x.good (terms_tokens more (Fixed symbols.CloseParen ∷ rest)) (terms_tokens (plain_terms V (linked b.first)) rest') h.1 (λ i. y.good (Fixed symbols.CloseParen ∷ rest) rest' i (λ j. k j.1)));
      })

  terms_plain : (m : Terms) (ns V : Names) (ts : List (Sign × trees.Term)) → terms_meaning ns m ≡ Some ts → Grows ns V → PlainTerms ns V (terms_tokens m) (terms_depth m) ts
  terms_plain NoMore ns V ts e g = subst (PlainTerms ns V (terms_tokens NoMore) 0) (some_is _ _ e) (record { meaning = refl; shallow = omega arith; good = λ rest rest' h k. k h })
  terms_plain (Further sign term more) ns V ts e g =
      let a = part (term_meaning ns term) _ ts e in
      let b = part (terms_meaning ns more) _ ts a.then in
      let x = term_plain term ns V a.first a.is g in
      let y = terms_plain more ns V b.first b.is g in
      let is = term_means ns V a.first x.operand x.terms in
      subst (PlainTerms ns V (terms_tokens (Further sign term more)) (terms_depth (Further sign term more))) (some_is _ _ b.then) (record {
        meaning = rw (is, y.meaning) refl;
        shallow = omega (arith, x.term_shallow, y.shallow);
        good = λ rest rest' h k.
            (tt, term_good V a.first (terms_tokens more rest) (λ rest'' k'. x.good (terms_tokens more rest) rest'' h.1 k') (terms_tokens (plain_terms V (linked b.first)) rest') (λ i. y.good rest rest' i k));
      })

-- what is meant, and how it is written plainly
pub record PlainExpr (ns V : Names) (e : Expr) (x : trees.Expr) : Type 0 where
  pub meaning : expr_meaning ns (plain_expr V x) ≡ Some x
  pub shallow : expr_depth (plain_expr V x) ≤ expr_depth e
  pub good : (rest rest' : List Token) → AllGood (expr_tokens e rest) → (AllGood rest → AllGood rest') → AllGood (expr_tokens (plain_expr V x) rest')

pub expr_plain : (e : Expr) (ns V : Names) (x : trees.Expr) → expr_meaning ns e ≡ Some x → Grows ns V → PlainExpr ns V e x
unfolding expr_meaning term_meaning
expr_plain e ns V x is g =
    let s = part (term_meaning ns (Grouped e.first e.more)) _ x is in
    let a = part (term_meaning ns e.first) _ s.first s.is in
    let b = part (terms_meaning ns e.more) _ s.first a.then in
    let p = term_plain e.first ns V a.first a.is g in
    let q = terms_plain e.more ns V b.first b.is g in
    let sum : Parts = (a.first.0, a.first.1 ++ b.first) in
    let same : whole sum ≡ x = ap whole (some_is _ _ b.then) ∙ some_is _ _ s.then in
    let terms = joined_means ns V a.first.1 b.first p.terms q.meaning in
    let deep = joined_depth V a.first.1 b.first in
    subst (PlainExpr ns V e) same (record {
      meaning = rw (p.operand, terms) refl;
      shallow = omega (arith, deep, p.shallow, q.shallow, operand_flat V a.first.0);
      good = λ rest rest' h k.
          subst (λ (z : List Token). AllGood (term_tokens (plain_operand V a.first.0) z)) (sym (joined_tokens V a.first.1 b.first rest'))
          (p.good (terms_tokens e.more rest) (terms_tokens (plain_terms V (linked b.first)) rest') h (λ i. q.good rest rest' i k));
    })
