-- Expressions: what is written, and where reading it stops.
use Rattle.std.proofs.Common.{◌≡◌, ◌⊎◌, inl, inr, ⊎_elim, ℕ, zero, suc, ◌+◌, ◌-◌, ◌<◌, ◌≤◌, Bool, true, false, cond, List, [], ◌∷◌, ◌++◌, length, Option, Some, None, Result, Ok, Err, is_some, refl, sym, ap, ◌∙◌, subst, arith}
use Rattle.std.specs.Option.{option_map}
use Rattle.script_token.specs.Tokens.{Token, Fixed}
use Rattle.script_token.specs.Tokens as tokens
use Rattle.script_token.specs.declared.kind.Symbol.TheVariants.{OpenParen, CloseParen, Plus, Minus}
use Rattle.script_tree.specs.Trees as trees
use Rattle.script_tree.specs.declared.tree.Operand.TheVariants.{Number, Named}
use Rattle.script_tree.specs.declared.tree.Sign.{Sign}
use Rattle.script_tree.specs.declared.tree.Sign.TheVariants as signs
use Rattle.script_reader.specs.Steps.{Told, ◌>>=◌, stop_at, repeated, name_at, number_at, name_in, number_in, next_is, accept_at, expect_at, Here, read_name_at}
use Rattle.script_grammar.specs.Meaning.{if_some, Parts, whole}
use Rattle.script_reader.specs.Exprs.{operand_with, sign_at, with_term, term_step, sum_with, operand_at, sum_at, expr_at}
use Rattle.script_reader.specs.declared.fault.Problem.TheVariants.{Syntax}
use Rattle.script_grammar.specs.Written.{Term, OfNumber, OfName, Grouped, Terms, NoMore, Further, Expr, sign_symbol, term_tokens, terms_tokens, expr_tokens}
use Rattle.script_reader.proofs.ReadFronts.{is_next}
use Rattle.script_faults.specs.Notes.{Note, SameFront, plain, term_notes, terms_notes, expr_notes}
use Rattle.script_faults.specs.Laws.{NoSign, Any}
use Rattle.script_faults.proofs.Facts.{Shape, shape_one, shape_seq, shape_none, Lang, Facts, LooksInFront, seq, bind, then, turned, giving, give, either, choose, or_stop, next_same, fine_of, one_clean, spelled_length, under, same_front}
use Rattle.script_faults.proofs.Words.{some_room, word, accept_facts, expect_facts, name, name_facts, number, number_facts, number_at_room}
use Rattle.script_faults.proofs.Loops.{spell_all, notes_all, all_lang, all_facts, same_steps}

-- WHAT IS WRITTEN HAS ITS NOTES

mutual
  unfolding term_notes

  pub term_shape : (t : Term) (nesting : ℕ) (h : Here) → Shape (term_tokens t) (term_notes nesting h t)
  term_shape (OfNumber n) nesting h = shape_one (tokens.Number n) _
  term_shape (OfName text) nesting h = shape_one (tokens.Name text) _
  term_shape (Grouped first more) nesting h =
      shape_seq (λ r. Fixed OpenParen ∷ r) (λ r. term_tokens first (terms_tokens more (Fixed CloseParen ∷ r))) (plain nesting ∷ []) _ (shape_one (Fixed OpenParen) _)
      (shape_seq (λ r. term_tokens first (terms_tokens more r)) (λ r. Fixed CloseParen ∷ r) _ _
      (shape_seq (term_tokens first) (terms_tokens more) _ _ (term_shape first (nesting - 1) h) (terms_shape more (nesting - 1) h))
      (shape_one (Fixed CloseParen) _))

  pub terms_shape : (m : Terms) (nesting : ℕ) (h : Here) → Shape (terms_tokens m) (terms_notes nesting h m)
  terms_shape NoMore nesting h = shape_none
  terms_shape (Further sign term more) nesting h =
      shape_seq (λ r. Fixed (sign_symbol sign) ∷ term_tokens term r) (terms_tokens more) (plain nesting ∷ term_notes nesting h term) _
      (shape_seq (λ r. Fixed (sign_symbol sign) ∷ r) (term_tokens term) (plain nesting ∷ []) _ (shape_one (Fixed (sign_symbol sign)) _) (term_shape term nesting h))
      (terms_shape more nesting h)

pub expr_shape : (e : Expr) (nesting : ℕ) (h : Here) → Shape (expr_tokens e) (expr_notes nesting h e)
unfolding expr_notes
expr_shape e nesting h = shape_seq (term_tokens e.first) (terms_tokens e.more) _ _ (term_shape e.first nesting h) (terms_shape e.more nesting h)

-- LANGUAGES

abbrev pub term_lang : ℕ → Here → Lang Parts (Parts × List Token) Any
term_lang nesting h = record { W = Term; default = OfNumber 0; spell = term_tokens; notes = term_notes nesting h; join = λ w x rest. (x, rest); shape = λ w. term_shape w nesting h }

abbrev pub sum_lang : ℕ → Here → Lang Parts (Parts × List Token) NoSign
sum_lang nesting h = record {
  W = Term × Terms;
  default = (OfNumber 0, NoMore);
  spell = λ w rest. term_tokens w.0 (terms_tokens w.1 rest);
  notes = λ w. term_notes nesting h w.0 ++ terms_notes nesting h w.1;
  join = λ w x rest. (x, rest);
  shape = λ w. shape_seq (term_tokens w.0) (terms_tokens w.1) _ _ (term_shape w.0 nesting h) (terms_shape w.1 nesting h);
}

-- TESTS OF THE TOKEN IN FRONT

pub name_looks : LooksInFront (λ ts. is_some (name_at ts))
name_looks [] [] h = refl
name_looks [] (u ∷ us) h = absurd h
name_looks (t ∷ ts) [] h = absurd h
name_looks (t ∷ ts) (u ∷ us) h = ap (λ (x : Token). is_some (name_in x)) h

pub number_looks : LooksInFront (λ ts. is_some (number_at ts))
number_looks [] [] h = refl
number_looks [] (u ∷ us) h = absurd h
number_looks (t ∷ ts) [] h = absurd h
number_looks (t ∷ ts) (u ∷ us) h = ap (λ (x : Token). is_some (number_in x)) h

pub sign_looks : LooksInFront (λ ts. is_some (sign_at ts))
sign_looks a b h = rw (next_same Plus a b h, next_same Minus a b h) refl

pub sign_ends : (a b : List Token) → SameFront a b → NoSign a → NoSign b
sign_ends a b h e = sym (sign_looks a b h) ∙ e

close_ends : (rest : List Token) → NoSign (Fixed CloseParen ∷ rest)
unfolding next_is
close_ends rest = refl

-- OPERANDS

abbrev Read : Type 0
Read = Result (Parts × List Token) Told

abbrev number_reader : ℕ → List Token → Read
number_reader nesting ts = number_at_room nesting ts >>= λ y. Ok ((Number y.0, []), y.1)

abbrev name_reader : ℕ → Here → List Token → Read
name_reader nesting h ts = read_name_at nesting h ts >>= λ x. Ok ((Named x.0, []), x.1)

abbrev group_rest : (List Token → Read) → ℕ → List Token → Read
group_rest inner nesting rest = inner rest >>= λ x. expect_at (nesting - 1) CloseParen x.1 >>= λ rest. Ok (x.0, rest)

abbrev group_reader : (List Token → Read) → ℕ → List Token → Read
group_reader inner nesting ts = accept_at nesting ts >>= group_rest inner nesting

abbrev number_lang : ℕ → Lang Parts (Parts × List Token) Any
number_lang nesting = giving (number nesting) (λ n x rest. (x, rest))

abbrev name_lang : ℕ → Here → Lang Parts (Parts × List Token) Any
name_lang nesting h = giving (name nesting h) (λ w x rest. (x, rest))

abbrev close_lang : ℕ → Lang Parts (Parts × List Token) Any
close_lang nesting = giving (word CloseParen (nesting - 1)) (λ w x rest. (x, rest))

abbrev group_lang : ℕ → Here → Lang Parts (Parts × List Token) Any
group_lang nesting h = seq (word OpenParen nesting) (λ w. seq (sum_lang (nesting - 1) h) (λ v. close_lang nesting))

number_reads : {P : List Token → Type 0} (nesting : ℕ) → Facts P (number_lang nesting) (number_reader nesting)
number_reads nesting = give (number nesting) (λ n x rest. (x, rest)) (λ ts. number_at_room nesting ts) (λ y. ((Number y.0, []), y.1)) (λ n x. (Number n, [])) (λ n x rest. refl) (number_facts nesting)

name_reads : {P : List Token → Type 0} (nesting : ℕ) (h : Here) → Facts P (name_lang nesting h) (name_reader nesting h)
name_reads nesting h = give (name nesting h) (λ w x rest. (x, rest)) (λ ts. read_name_at nesting h ts) (λ x. ((Named x.0, []), x.1)) (λ w x. (Named x, [])) (λ w x rest. refl) (name_facts nesting h)

group_reads : {P : List Token → Type 0} (inner : List Token → Read) (nesting : ℕ) (h : Here) → ((ts : List Token) → P ts → next_is OpenParen ts ≡ true) → (0 < nesting → Facts Any (sum_lang (nesting - 1) h) inner) → Facts P (group_lang nesting h) (group_reader inner nesting)
group_reads inner nesting h is inners =
    then (word OpenParen nesting) (λ w. seq (sum_lang (nesting - 1) h) (λ v. close_lang nesting)) (λ ts. accept_at nesting ts) (group_rest inner nesting)
    (accept_facts nesting OpenParen is)
    (λ w x clean.
    bind (sum_lang (nesting - 1) h) (λ v. close_lang nesting) inner (λ x. expect_at (nesting - 1) CloseParen x.1 >>= λ rest. Ok (x.0, rest)) sign_ends (λ v u rest e. close_ends rest)
    (inners (some_room nesting (one_clean (plain nesting) clean)))
    (λ v y c. give (word CloseParen (nesting - 1)) (λ w x rest. (x, rest)) (λ ts. expect_at (nesting - 1) CloseParen ts) (λ rest. (y, rest)) (λ w u. y) (λ w u rest. refl) (expect_facts (nesting - 1) CloseParen)))

abbrev operand_lang : ℕ → Here → Lang Parts (Parts × List Token) Any
operand_lang nesting h = either (number_lang nesting) (either (name_lang nesting h) (group_lang nesting h))

abbrev operand_reader : (List Token → Read) → ℕ → Here → List Token → Read
operand_reader inner nesting h ts = cond (is_some (number_at ts)) (number_reader nesting ts) (cond (is_some (name_at ts)) (name_reader nesting h ts) (cond (next_is OpenParen ts) (group_reader inner nesting ts) (stop_at Syntax ts)))

no_number : (nesting : ℕ) (h : Here) (w : List ℕ ⊎ (group_lang nesting h).W) (rest : List Token) → is_some (number_at ((either (name_lang nesting h) (group_lang nesting h)).spell w rest)) ≡ false
no_number nesting h (inl text) rest = refl
no_number nesting h (inr w) rest = refl

operand_reads : (inner : List Token → Read) (nesting : ℕ) (h : Here) → (0 < nesting → Facts Any (sum_lang (nesting - 1) h) inner) → Facts Any (operand_lang nesting h) (operand_reader inner nesting h)
operand_reads inner nesting h inners =
    choose (λ ts. is_some (number_at ts)) number_looks (number_lang nesting) (either (name_lang nesting h) (group_lang nesting h)) (number_reader nesting) _ (λ w rest e. refl) (λ w rest e. no_number nesting h w rest)
    (number_reads nesting)
    (choose (λ ts. is_some (name_at ts)) name_looks (name_lang nesting h) (group_lang nesting h) (name_reader nesting h) _ (λ w rest e. refl) (λ w rest e. refl)
    (name_reads nesting h)
    (or_stop (next_is OpenParen) (next_same OpenParen) (group_lang nesting h) (group_reader inner nesting) (λ w rest. is_next OpenParen _) (group_reads inner nesting h (λ ts p. p.1) inners)))

abbrev to_term : (nesting : ℕ) (h : Here) → (operand_lang nesting h).W → Term
to_term nesting h (inl n) = OfNumber n
to_term nesting h (inr (inl text)) = OfName text
to_term nesting h (inr (inr w)) = Grouped w.1.0.0 w.1.0.1

abbrev from_term : (nesting : ℕ) (h : Here) → Term → (operand_lang nesting h).W
from_term nesting h (OfNumber n) = inl n
from_term nesting h (OfName text) = inr (inl text)
from_term nesting h (Grouped first more) = inr (inr (tt, ((first, more), tt)))

module _ (nesting : ℕ) (h : Here) where
  spell_to : (w : (operand_lang nesting h).W) (rest : List Token) → term_tokens (to_term nesting h w) rest ≡ (operand_lang nesting h).spell w rest
  spell_to (inl n) rest = refl
  spell_to (inr (inl text)) rest = refl
  spell_to (inr (inr w)) rest = refl

  notes_to : (w : (operand_lang nesting h).W) → term_notes nesting h (to_term nesting h w) ≡ (operand_lang nesting h).notes w
  unfolding term_notes
  notes_to (inl n) = refl
  notes_to (inr (inl text)) = refl
  notes_to (inr (inr w)) = refl

  spell_from : (t : Term) (rest : List Token) → term_tokens t rest ≡ (operand_lang nesting h).spell (from_term nesting h t) rest
  spell_from (OfNumber n) rest = refl
  spell_from (OfName text) rest = refl
  spell_from (Grouped first more) rest = refl

  notes_from : (t : Term) → term_notes nesting h t ≡ (operand_lang nesting h).notes (from_term nesting h t)
  unfolding term_notes
  notes_from (OfNumber n) = refl
  notes_from (OfName text) = refl
  notes_from (Grouped first more) = refl

  joined : (t : Term) (x : Parts) (rest : List Token) → (operand_lang nesting h).join (from_term nesting h t) x rest ≡ (x, rest)
  joined (OfNumber n) x rest = refl
  joined (OfName text) x rest = refl
  joined (Grouped first more) x rest = refl

-- the test of a number, and its reading, in one
number_read : (o : Option ℕ) (r : Result (List Token) Told) (s : Result (ℕ × List Token) Told) (other : Read)
    → cond (is_some o) ((if_some o (λ n. r >>= λ rest. Ok (n, rest)) s) >>= λ y. Ok ((Number y.0, []), y.1)) other ≡ if_some o (λ n. r >>= λ rest. Ok ((Number n, []), rest)) other
number_read None r s other = refl
number_read (Some n) (Ok x) s other = refl
number_read (Some n) (Err t) s other = refl

operand_is : (inner : List Token → Read) (nesting : ℕ) (h : Here) (ts : List Token) → operand_reader inner nesting h ts ≡ operand_with inner nesting h ts
unfolding operand_with number_at_room
operand_is inner nesting h ts = number_read (number_at ts) (accept_at nesting ts) _ _

pub operand_facts : (inner : List Token → Read) (nesting : ℕ) (h : Here) → (0 < nesting → Facts Any (sum_lang (nesting - 1) h) inner) → Facts Any (term_lang nesting h) (operand_with inner nesting h)
operand_facts inner nesting h inners = turned (operand_lang nesting h) (term_lang nesting h) (operand_reader inner nesting h) (operand_with inner nesting h) (record {
  to = to_term nesting h;
  spell_to = spell_to nesting h;
  notes_to = notes_to nesting h;
  from = from_term nesting h;
  spell_from = spell_from nesting h;
  notes_from = notes_from nesting h;
  value = λ w x. x;
  oks = λ ts w x rest e. sym (operand_is inner nesting h ts) ∙ e ∙ ap (λ (y : Parts × List Token). Ok y) (joined nesting h w x rest);
  errs = λ ts t e. sym (operand_is inner nesting h ts) ∙ e;
}) (operand_reads inner nesting h inners)

-- ONE MORE TERM

module _ (operand : List Token → Read) (nesting : ℕ) (h : Here) (operands : Facts Any (term_lang nesting h) operand) where
  abbrev Signed : Type 0
  Signed = Sign × Term

  abbrev signed_spell : Signed → List Token → List Token
  signed_spell w rest = Fixed (sign_symbol w.0) ∷ term_tokens w.1 rest

  abbrev signed_notes : Unit {0} → Signed → List Note
  signed_notes u w = plain nesting ∷ term_notes nesting h w.1

  abbrev signed_after : Unit {0} → Signed → Unit {0}
  signed_after u w = tt

  abbrev signed_at : Parts → Unit {0} → List Token → Parts × List Token
  signed_at x u ts = (x, ts)

  signed_shape : (u : Unit {0}) (w : Signed) → Shape (signed_spell w) (signed_notes u w)
  signed_shape u w = shape_seq (λ r. Fixed (sign_symbol w.0) ∷ r) (term_tokens w.1) (plain nesting ∷ []) _ (shape_one (Fixed (sign_symbol w.0)) _) (term_shape w.1 nesting h)

  abbrev branch_rest : Parts → Sign → List Token → Read
  branch_rest x sign rest = operand rest >>= λ t. Ok (with_term x sign t.0, t.1)

  abbrev branch : Parts → Sign → List Token → Read
  branch x sign ts = accept_at nesting ts >>= branch_rest x sign

  abbrev branch_lang : Sign → Lang Parts (Parts × List Token) Any
  branch_lang sign = seq (word (sign_symbol sign) nesting) (λ w. giving (term_lang nesting h) (λ t x rest. (x, rest)))

  branch_reads : {P : List Token → Type 0} (x : Parts) (sign : Sign) → ((ts : List Token) → P ts → next_is (sign_symbol sign) ts ≡ true) → Facts P (branch_lang sign) (branch x sign)
  branch_reads x sign is =
      then (word (sign_symbol sign) nesting) (λ w. giving (term_lang nesting h) (λ t x rest. (x, rest))) (λ ts. accept_at nesting ts) (branch_rest x sign)
      (accept_facts nesting (sign_symbol sign) is)
      (λ w u clean. give (term_lang nesting h) (λ t x rest. (x, rest)) operand (λ t. (with_term x sign t.0, t.1)) (λ t y. with_term x sign y) (λ t y rest. refl) operands)

  abbrev signs_lang : Lang Parts (Parts × List Token) Any
  signs_lang = either (branch_lang signs.Plus) (branch_lang signs.Minus)

  abbrev signs_reader : Parts → List Token → Read
  signs_reader x ts = cond (next_is Plus ts) (branch x signs.Plus ts) (cond (next_is Minus ts) (branch x signs.Minus ts) (stop_at Syntax ts))

  minus_first : (w : (branch_lang signs.Minus).W) (rest : List Token) → next_is Plus ((branch_lang signs.Minus).spell w rest) ≡ false
  unfolding next_is
  minus_first w rest = refl

  signs_read : (x : Parts) → Facts Any signs_lang (signs_reader x)
  signs_read x =
      choose (next_is Plus) (next_same Plus) (branch_lang signs.Plus) (branch_lang signs.Minus) (branch x signs.Plus) _ (λ w rest e. is_next Plus _) (λ w rest e. minus_first w rest)
      (branch_reads x signs.Plus (λ ts p. p.1))
      (or_stop (next_is Minus) (next_same Minus) (branch_lang signs.Minus) (branch x signs.Minus) (λ w rest. is_next Minus _) (branch_reads x signs.Minus (λ ts p. p.1)))

  abbrev signed_lang : Unit {0} → Lang Parts (Parts × List Token) Any
  signed_lang u = record { W = Signed; default = (signs.Plus, OfNumber 0); spell = signed_spell; notes = signed_notes u; join = λ w x ts. (x, ts); shape = signed_shape u }

  abbrev signed_next : Parts → Unit {0} → List Token → Read
  signed_next x u ts = if_some (sign_at ts) (λ sign. branch x sign ts) (stop_at Syntax ts)

  sign_read : (a b : Bool) (f : Sign → Read) (other : Read) → cond a (f signs.Plus) (cond b (f signs.Minus) other) ≡ if_some (cond a (Some signs.Plus) (cond b (Some signs.Minus) None)) f other
  sign_read true b f other = refl
  sign_read false true f other = refl
  sign_read false false f other = refl

  signed_is : (x : Parts) (u : Unit {0}) (ts : List Token) → signs_reader x ts ≡ signed_next x u ts
  signed_is x u ts = sign_read (next_is Plus ts) (next_is Minus ts) (λ sign. branch x sign ts) (stop_at Syntax ts)

  abbrev to_signed : signs_lang.W → Signed
  to_signed (inl w) = (signs.Plus, w.1)
  to_signed (inr w) = (signs.Minus, w.1)

  abbrev of_sign : Sign → Term → signs_lang.W
  of_sign signs.Plus t = inl (tt, t)
  of_sign signs.Minus t = inr (tt, t)

  signed_spell_to : (w : signs_lang.W) (rest : List Token) → signed_spell (to_signed w) rest ≡ signs_lang.spell w rest
  signed_spell_to (inl w) rest = refl
  signed_spell_to (inr w) rest = refl

  signed_notes_to : (w : signs_lang.W) → signed_notes tt (to_signed w) ≡ signs_lang.notes w
  signed_notes_to (inl w) = refl
  signed_notes_to (inr w) = refl

  signed_spell_from : (sign : Sign) (t : Term) (rest : List Token) → signed_spell (sign, t) rest ≡ signs_lang.spell (of_sign sign t) rest
  signed_spell_from signs.Plus t rest = refl
  signed_spell_from signs.Minus t rest = refl

  signed_notes_from : (sign : Sign) (t : Term) → signed_notes tt (sign, t) ≡ signs_lang.notes (of_sign sign t)
  signed_notes_from signs.Plus t = refl
  signed_notes_from signs.Minus t = refl

  signed_joined : (sign : Sign) (t : Term) (x : Parts) (rest : List Token) → signs_lang.join (of_sign sign t) x rest ≡ (x, rest)
  signed_joined signs.Plus t x rest = refl
  signed_joined signs.Minus t x rest = refl

  signed_facts : {P : List Token → Type 0} (x : Parts) (u : Unit {0}) → Facts P (signed_lang u) (signed_next x u)
  signed_facts x u = under (signed_lang u) (signed_next x u) (λ ts p. tt) (turned signs_lang (signed_lang u) (signs_reader x) (signed_next x u) (record {
    to = to_signed;
    spell_to = signed_spell_to;
    notes_to = signed_notes_to;
    from = λ w. of_sign w.0 w.1;
    spell_from = λ w rest. signed_spell_from w.0 w.1 rest;
    notes_from = λ w. signed_notes_from w.0 w.1;
    value = λ w x. x;
    oks = λ ts w y rest e. sym (signed_is x u ts) ∙ e ∙ ap (λ (z : Parts × List Token). Ok z) (signed_joined w.0 w.1 y rest);
    errs = λ ts t e. sym (signed_is x u ts) ∙ e;
  }) (signs_read x))

  -- TERMS BEHIND THE FIRST

  abbrev has_sign : List Token → Bool
  has_sign ts = is_some (sign_at ts)

  signed_stepped : (x : Parts) (u : Unit {0}) (ts : List Token) → term_step operand nesting (signed_at x u ts) ≡ cond (has_sign ts) (Some (signed_next x u ts)) None
  signed_stepped x u ts = at_sign (sign_at ts)
    where
      at_sign : (o : Option Sign) → option_map (λ sign. branch x sign ts) o ≡ cond (is_some o) (Some (if_some o (λ sign. branch x sign ts) (stop_at Syntax ts))) None
      at_sign None = refl
      at_sign (Some sign) = refl

  signed_starts : (w : Signed) (rest : List Token) → has_sign (signed_spell w rest) ≡ true
  unfolding next_is
  signed_starts w rest = at_sign w.0
    where
      at_sign : (sign : Sign) → is_some (sign_at (Fixed (sign_symbol sign) ∷ term_tokens w.1 rest)) ≡ true
      at_sign signs.Plus = refl
      at_sign signs.Minus = refl

  term_long : (t : Term) → 1 ≤ length (term_notes nesting h t)
  unfolding term_notes
  term_long (OfNumber n) = omega arith
  term_long (OfName text) = omega arith
  term_long (Grouped first more) = omega arith

  signed_long : (u : Unit {0}) (w : Signed) → 2 ≤ length (signed_notes u w)
  signed_long u w = (let n = term_long w.1 in omega (arith, n))

  abbrev terms_all : Lang Parts (Parts × List Token) NoSign
  terms_all = all_lang signed_at signed_spell signed_notes signed_after (signs.Plus, OfNumber 0) signed_shape has_sign sign_looks (term_step operand nesting) signed_next signed_stepped signed_starts signed_long tt

  abbrev terms_reader : Parts × List Token → Read
  terms_reader s = repeated (term_step operand nesting) (suc (length s.1)) s

  terms_read : {P : List Token → Type 0} (x : Parts) → Facts P terms_all (λ ts. terms_reader (x, ts))
  terms_read x = all_facts signed_at signed_spell signed_notes signed_after (signs.Plus, OfNumber 0) signed_shape has_sign sign_looks (term_step operand nesting) signed_next signed_stepped signed_starts signed_long (λ x u. signed_facts x u) x tt

  terms_same : (n m : ℕ) (ts : List Token) (x : Parts) → length ts < n + n → length ts < m + m → repeated (term_step operand nesting) n (x, ts) ≡ repeated (term_step operand nesting) m (x, ts)
  terms_same n m ts x = same_steps signed_at signed_spell signed_notes signed_after (signs.Plus, OfNumber 0) signed_shape has_sign sign_looks (term_step operand nesting) signed_next signed_stepped signed_starts signed_long (λ x u. signed_facts x u) n m ts x tt

  -- THE WHOLE SUM

  abbrev sum_parts : Lang Parts (Parts × List Token) NoSign
  sum_parts = seq (term_lang nesting h) (λ w. terms_all)

  sum_reads : {P : List Token → Type 0} → ((ts : List Token) → P ts → Unit {0}) → Facts P sum_parts (λ ts. operand ts >>= terms_reader)
  sum_reads p = then (term_lang nesting h) (λ w. terms_all) operand terms_reader (under (term_lang nesting h) operand p operands) (λ w x clean. terms_read x)

  shorter : (ts : List Token) (y : Parts × List Token) → operand ts ≡ Ok y → length y.1 + 1 ≤ length ts
  shorter ts y e = ⊎_elim
      (λ one.
      let fine = fine_of (term_lang nesting h) operand one.w one.clean (operands.reads one.w) in
      let same : Ok (fine.value, one.rest) ≡ Ok y = sym (fine.reads one.rest tt) ∙ ap operand (sym one.is) ∙ e in
      let rest : length one.rest ≡ length y.1 = ap (λ (r : Read). length_of r) same in
      let all : length ts ≡ length (term_tokens one.w one.rest) = ap length one.is in
      let n = spelled_length (term_tokens one.w) (term_notes nesting h one.w) one.rest (term_shape one.w nesting h) in
      let m = term_long one.w in
      omega (arith, rest, all, n, m))
      (λ s.
      let same : Err (s.problem, s.back + length s.behind) ≡ Ok y = sym (s.same s.behind (same_front s.behind)) ∙ ap operand (sym s.is) ∙ e in
      absurd (no_err same))
      (operands.takes ts tt)
    where
      length_of : Read → ℕ
      length_of (Ok z) = length z.1
      length_of (Err t) = 0

      no_err : {t : Told} → ◌≡◌ {A = Read} (Err t) (Ok y) → ⊥
      no_err e = cc

  sum_is : (ts : List Token) → (operand ts >>= terms_reader) ≡ sum_with operand nesting ts
  unfolding sum_with
  sum_is ts = at_result (operand ts) refl
    where
      at_result : (r : Read) → operand ts ≡ r → (r >>= terms_reader) ≡ (r >>= repeated (term_step operand nesting) (length ts))
      at_result (Err t) e = refl
      at_result (Ok y) e = (let n = shorter ts y e in terms_same (suc (length y.1)) (length ts) y.1 y.0 (omega arith) (omega (arith, n)))

  abbrev to_terms : List Signed → Terms
  to_terms [] = NoMore
  to_terms (w ∷ ws) = Further w.0 w.1 (to_terms ws)

  abbrev from_terms : Terms → List Signed
  from_terms NoMore = []
  from_terms (Further sign term more) = (sign, term) ∷ from_terms more

  terms_spell_to : (ws : List Signed) (rest : List Token) → terms_tokens (to_terms ws) rest ≡ spell_all signed_spell ws rest
  terms_spell_to [] rest = refl
  terms_spell_to (w ∷ ws) rest = ap (λ (x : List Token). Fixed (sign_symbol w.0) ∷ term_tokens w.1 x) (terms_spell_to ws rest)

  terms_notes_to : (ws : List Signed) → terms_notes nesting h (to_terms ws) ≡ notes_all signed_notes signed_after tt ws
  unfolding terms_notes
  terms_notes_to [] = refl
  terms_notes_to (w ∷ ws) = ap (λ (x : List Note). (plain nesting ∷ term_notes nesting h w.1) ++ x) (terms_notes_to ws)

  terms_spell_from : (m : Terms) (rest : List Token) → terms_tokens m rest ≡ spell_all signed_spell (from_terms m) rest
  terms_spell_from NoMore rest = refl
  terms_spell_from (Further sign term more) rest = ap (λ (x : List Token). Fixed (sign_symbol sign) ∷ term_tokens term x) (terms_spell_from more rest)

  terms_notes_from : (m : Terms) → terms_notes nesting h m ≡ notes_all signed_notes signed_after tt (from_terms m)
  unfolding terms_notes
  terms_notes_from NoMore = refl
  terms_notes_from (Further sign term more) = ap (λ (x : List Note). (plain nesting ∷ term_notes nesting h term) ++ x) (terms_notes_from more)

  pub sum_facts : Facts Any (sum_lang nesting h) (sum_with operand nesting)
  sum_facts = turned sum_parts (sum_lang nesting h) (λ ts. operand ts >>= terms_reader) (sum_with operand nesting) (record {
    to = λ w. (w.0, to_terms w.1);
    spell_to = λ w rest. ap (term_tokens w.0) (terms_spell_to w.1 rest);
    notes_to = λ w. ap (λ (x : List Note). term_notes nesting h w.0 ++ x) (terms_notes_to w.1);
    from = λ w. (w.0, from_terms w.1);
    spell_from = λ w rest. ap (term_tokens w.0) (terms_spell_from w.1 rest);
    notes_from = λ w. ap (λ (x : List Note). term_notes nesting h w.0 ++ x) (terms_notes_from w.1);
    value = λ w x. x;
    oks = λ ts w x rest e. sym (sum_is ts) ∙ e;
    errs = λ ts t e. sym (sum_is ts) ∙ e;
  }) (sum_reads (λ ts p. tt))

-- ALL LEVELS

operands_facts : (nesting : ℕ) (h : Here) → Facts Any (term_lang nesting h) (operand_at nesting h)
unfolding operand_at
operands_facts zero h = operand_facts (λ ts. stop_at Syntax ts) zero h (λ some. absurd (omega (arith, some)))
operands_facts (suc r) h =
    let one : r ≡ suc r - 1 = omega arith in
    let inner = sum_facts (operand_at r h) r h (operands_facts r h) in
    operand_facts (sum_with (operand_at r h) r) (suc r) h (λ some. subst (λ (n : ℕ). Facts Any (sum_lang n h) (sum_with (operand_at r h) r)) one inner)

abbrev pub expr_lang : ℕ → Here → Lang trees.Expr (trees.Expr × List Token) NoSign
expr_lang nesting h = record {
  W = Expr;
  default = record { first = OfNumber 0; more = NoMore };
  spell = expr_tokens;
  notes = expr_notes nesting h;
  join = λ w x rest. (x, rest);
  shape = λ w. expr_shape w nesting h;
}

pub expr_facts : (nesting : ℕ) (h : Here) → Facts Any (expr_lang nesting h) (λ ts. expr_at nesting h ts)
unfolding expr_at sum_at expr_notes
expr_facts nesting h = turned (sum_lang nesting h) (expr_lang nesting h) (sum_with (operand_at nesting h) nesting) (λ ts. expr_at nesting h ts) (record {
  to = λ w. record { first = w.0; more = w.1 };
  spell_to = λ w rest. refl;
  notes_to = λ w. refl;
  from = λ w. (w.first, w.more);
  spell_from = λ w rest. refl;
  notes_from = λ w. refl;
  value = λ w x. whole x;
  oks = λ ts w x rest e. ap (λ (r : Read). ◌>>=◌ {B = trees.Expr × List Token} r (λ y. Ok (whole y.0, y.1))) e;
  errs = λ ts t e. ap (λ (r : Read). ◌>>=◌ {B = trees.Expr × List Token} r (λ y. Ok (whole y.0, y.1))) e;
}) (sum_facts (operand_at nesting h) nesting h (operands_facts nesting h))
