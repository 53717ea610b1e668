-- Lists of names that are bound: what is written, and where reading it stops.
use Rattle.std.proofs.Common.{◌≡◌, ◌⊎◌, inl, inr, ℕ, zero, suc, ◌+◌, true, false, cond, leb, List, [], ◌∷◌, ◌++◌, length, Result, Ok, refl, sym, ap, ◌∙◌, arith, tests, length-append}
use Rattle.script_token.specs.Tokens.{Token, Fixed, Name}
use Rattle.script_token.specs.declared.kind.Symbol.TheVariants.{Comma}
use Rattle.script_reader.specs.Steps.{Told, ◌>>=◌, stop_at, next_is, accept_at, Here, bound, bind_name_at, fourth_name_at, bind_names_at}
use Rattle.script_reader.specs.declared.fault.Problem.TheVariants.{TooMany}
use Rattle.script_grammar.specs.Written.{more_names_tokens}
use Rattle.script_reader.proofs.ReadFronts.{is_next}
use Rattle.script_faults.specs.Notes.{SameFront, plain, bind_note, names_after, more_names_notes, names_notes}
use Rattle.script_faults.specs.Laws.{NoComma, Any}
use Rattle.script_faults.proofs.Facts.{Shape, shape_one, shape_seq, shape_none, Lang, Facts, seq, then, under, turned, nothing, gives, either, choose, next_same}
use Rattle.script_faults.proofs.Words.{word, accept_facts, bound_name, bound_name_facts, fourth_name_facts, no_fourth}

abbrev pub NamesRead : Type 0
NamesRead = List ℕ × Here × List Token

pub comma_looks : (a b : List Token) → SameFront a b → NoComma a → NoComma b
comma_looks a b h e = sym (next_same Comma a b h) ∙ e

pub more_names_shape : (texts : List (List ℕ)) (nesting : ℕ) (list : List ℕ) (h : Here) → Shape (more_names_tokens texts) (more_names_notes nesting list h texts)
unfolding more_names_notes
more_names_shape [] nesting list h = shape_none
more_names_shape (text ∷ texts) nesting list h =
    shape_seq (λ r. Fixed Comma ∷ r) (λ r. Name text ∷ more_names_tokens texts r) (plain nesting ∷ []) _ (shape_one (Fixed Comma) _)
    (shape_seq (λ r. Name text ∷ r) (more_names_tokens texts) (bind_note nesting list h text ∷ []) _ (shape_one (Name text) _) (more_names_shape texts nesting (list ++ (bound h text).0 ∷ []) (bound h text).1))

-- names behind those of the list
abbrev more_names : ℕ → List ℕ → Here → Lang (List ℕ) NamesRead NoComma
more_names nesting list h = record { W = List (List ℕ); default = []; spell = more_names_tokens; notes = more_names_notes nesting list h; join = λ w x rest. (x, names_after h w, rest); shape = λ w. more_names_shape w nesting list h }

module _ (nesting : ℕ) where
  abbrev next_names : List ℕ → Here → Lang (List ℕ) NamesRead NoComma
  next_names list h = seq (bound_name nesting list h) (λ text. more_names nesting (list ++ (bound h text).0 ∷ []) (bound h text).1)

  abbrev none_left : List ℕ → Here → Lang (List ℕ) NamesRead NoComma
  none_left list h = nothing {X = List ℕ} {Y = NamesRead} {E = NoComma} (λ x rest. (x, h, rest))

  abbrev tail_names : List ℕ → Here → Lang (List ℕ) NamesRead NoComma
  tail_names list h = either (seq (word Comma nesting) (λ w. next_names list h)) (none_left list h)

  abbrev names_reader : ℕ → List ℕ → Here → List Token → Result NamesRead Told
  names_reader zero list h us = cond (next_is Comma us) (accept_at nesting us >>= λ rest. stop_at (fourth_name_at list h rest) rest) (Ok (list, h, us))
  names_reader (suc n) list h us = cond (next_is Comma us) (accept_at nesting us >>= λ rest. bind_name_at nesting list h rest >>= λ b. names_reader n (list ++ b.0 ∷ []) b.1 b.2) (Ok (list, h, us))

  abbrev Names : Type 0
  Names = (Unit {0} × (List ℕ × List (List ℕ))) ⊎ Unit {0}

  abbrev to_names : Names → List (List ℕ)
  to_names (inl w) = w.1.0 ∷ w.1.1
  to_names (inr w) = []

  abbrev from_names : List (List ℕ) → Names
  from_names [] = inr tt
  from_names (text ∷ texts) = inl (tt, (text, texts))

  names_spell_to : (list : List ℕ) (h : Here) (w : Names) (rest : List Token) → more_names_tokens (to_names w) rest ≡ (tail_names list h).spell w rest
  names_spell_to list h (inl w) rest = refl
  names_spell_to list h (inr w) rest = refl

  names_notes_to : (list : List ℕ) (h : Here) (w : Names) → more_names_notes nesting list h (to_names w) ≡ (tail_names list h).notes w
  unfolding more_names_notes
  names_notes_to list h (inl w) = refl
  names_notes_to list h (inr w) = refl

  names_spell_from : (list : List ℕ) (h : Here) (w : List (List ℕ)) (rest : List Token) → more_names_tokens w rest ≡ (tail_names list h).spell (from_names w) rest
  names_spell_from list h [] rest = refl
  names_spell_from list h (text ∷ texts) rest = refl

  names_notes_from : (list : List ℕ) (h : Here) (w : List (List ℕ)) → more_names_notes nesting list h w ≡ (tail_names list h).notes (from_names w)
  unfolding more_names_notes
  names_notes_from list h [] = refl
  names_notes_from list h (text ∷ texts) = refl

  names_joined : (list : List ℕ) (h : Here) (w : List (List ℕ)) (x : List ℕ) (rest : List Token) → (tail_names list h).join (from_names w) x rest ≡ (x, names_after h w, rest)
  names_joined list h [] x rest = refl
  names_joined list h (text ∷ texts) x rest = refl

  tail_reads : (f : List Token → Result NamesRead Told) (list : List ℕ) (h : Here) → Facts Any (next_names list h) f → Facts Any (tail_names list h) (λ us. cond (next_is Comma us) (accept_at nesting us >>= f) (Ok (list, h, us)))
  tail_reads f list h F =
      choose (next_is Comma) (next_same Comma) (seq (word Comma nesting) (λ w. next_names list h)) (none_left list h) (λ us. accept_at nesting us >>= f) (λ us. Ok (list, h, us)) (λ w rest e. is_next Comma _) (λ w rest e. e)
      (then (word Comma nesting) (λ w. next_names list h) (λ ts. accept_at nesting ts) f (accept_facts nesting Comma (λ ts p. p.1)) (λ w x c. F))
      (under (none_left list h) (λ us. Ok (list, h, us)) (λ ts p. p.1) (gives NoComma (λ x rest. (x, h, rest)) list))

  full : (list : List ℕ) → length list ≡ 3 → leb 3 (length list) ≡ true
  full list three = (let n = length list in let e : leb 3 n ≡ true = search (arith, tests) in e)

  few : (n : ℕ) (list : List ℕ) → suc n + length list ≡ 3 → leb 3 (length list) ≡ false
  few n list three = (let m = length list in let e : leb 3 m ≡ false = search (arith, tests) in e)

  -- the fourth name is one too many
  fourth_reads : (list : List ℕ) (h : Here) → length list ≡ 3 → Facts Any (next_names list h) (λ rest. stop_at (fourth_name_at list h rest) rest)
  fourth_reads list h three =
      then (bound_name nesting list h) (λ text. more_names nesting (list ++ (bound h text).0 ∷ []) (bound h text).1) (λ ts. stop_at (fourth_name_at list h ts) ts) (λ d. stop_at TooMany []) (fourth_name_facts nesting list h (full list three))
      (λ text x clean. absurd (no_fourth nesting list h text (full list three) clean))

  more_names_facts : (n : ℕ) (list : List ℕ) (h : Here) → n + length list ≡ 3 → Facts Any (more_names nesting list h) (names_reader n list h)
  more_names_facts zero list h three = turned (tail_names list h) (more_names nesting list h) (names_reader 0 list h) (names_reader 0 list h) (record {
    to = to_names;
    spell_to = names_spell_to list h;
    notes_to = names_notes_to list h;
    from = from_names;
    spell_from = names_spell_from list h;
    notes_from = names_notes_from list h;
    value = λ w x. x;
    oks = λ ts w x rest e. e ∙ ap (λ (y : NamesRead). Ok y) (names_joined list h w x rest);
    errs = λ ts t e. e;
  }) (tail_reads (λ rest. stop_at (fourth_name_at list h rest) rest) list h (fourth_reads list h (omega (arith, three))))
  more_names_facts (suc n) list h three = turned (tail_names list h) (more_names nesting list h) (names_reader (suc n) list h) (names_reader (suc n) list h) (record {
    to = to_names;
    spell_to = names_spell_to list h;
    notes_to = names_notes_to list h;
    from = from_names;
    spell_from = names_spell_from list h;
    notes_from = names_notes_from list h;
    value = λ w x. x;
    oks = λ ts w x rest e. e ∙ ap (λ (y : NamesRead). Ok y) (names_joined list h w x rest);
    errs = λ ts t e. e;
  }) (tail_reads (λ rest. bind_name_at nesting list h rest >>= λ b. names_reader n (list ++ b.0 ∷ []) b.1 b.2) list h
      (then (bound_name nesting list h) (λ text. more_names nesting (list ++ (bound h text).0 ∷ []) (bound h text).1) (λ ts. bind_name_at nesting list h ts) (λ b. names_reader n (list ++ b.0 ∷ []) b.1 b.2) (bound_name_facts nesting list h (few n list three))
      (λ text x clean. more_names_facts n (list ++ (bound h text).0 ∷ []) (bound h text).1 (let v = (bound h text).0 in let e : length (list ++ v ∷ []) ≡ length list + 1 = length-append list (v ∷ []) in omega (arith, three, e)))))

pub names_shape : (text : List ℕ) (texts : List (List ℕ)) (nesting : ℕ) (h : Here) → Shape (λ r. Name text ∷ more_names_tokens texts r) (names_notes nesting h text texts)
unfolding names_notes
names_shape text texts nesting h =
    shape_seq (λ r. Name text ∷ r) (more_names_tokens texts) (bind_note nesting [] h text ∷ []) _ (shape_one (Name text) _) (more_names_shape texts nesting ((bound h text).0 ∷ []) (bound h text).1)

-- at least one name
abbrev pub names_lang : ℕ → Here → Lang (List ℕ) NamesRead NoComma
names_lang nesting h = record {
  W = List ℕ × List (List ℕ);
  default = ([], []);
  spell = λ w rest. Name w.0 ∷ more_names_tokens w.1 rest;
  notes = λ w. names_notes nesting h w.0 w.1;
  join = λ w x rest. (x, names_after h (w.0 ∷ w.1), rest);
  shape = λ w. names_shape w.0 w.1 nesting h;
}

pub names_facts : {P : List Token → Type 0} (nesting : ℕ) (h : Here) → Facts P (names_lang nesting h) (λ ts. bind_names_at nesting h ts)
unfolding names_notes bind_names_at
names_facts nesting h = turned (next_names nesting [] h) (names_lang nesting h) (λ ts. bind_names_at nesting h ts) (λ ts. bind_names_at nesting h ts) (record {
  to = λ w. w;
  spell_to = λ w rest. refl;
  notes_to = λ w. refl;
  from = λ w. w;
  spell_from = λ w rest. refl;
  notes_from = λ w. refl;
  value = λ w x. x;
  oks = λ ts w x rest e. e;
  errs = λ ts t e. e;
}) (then (bound_name nesting [] h) (λ text. more_names nesting ((bound h text).0 ∷ []) (bound h text).1) (λ ts. bind_name_at nesting [] h ts) (λ a. names_reader nesting 2 (a.0 ∷ []) a.1 a.2) (bound_name_facts nesting [] h refl)
    (λ text x clean. more_names_facts nesting 2 ((bound h text).0 ∷ []) (bound h text).1 refl))
