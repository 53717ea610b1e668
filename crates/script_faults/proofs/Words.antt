-- Readers of one token.
use Rattle.std.proofs.Common.{◌≡◌, ◌⊎◌, inl, inr, ⊎_elim, ℕ, zero, suc, ◌<◌, Bool, true, false, ◌||◌, eqb, ltb, leb, List, [], ◌∷◌, length, Option, Some, None, Result, Ok, Err, refl, sym, ap, ◌∙◌, arith, tests}
use Rattle.script_token.specs.Tokens.{Token, Fixed, Name, Number, Bad}
use Rattle.script_token.specs.declared.kind.Symbol.{Symbol}
use Rattle.script_tree.specs.declared.tree.Name.{Name as Meaning}
use Rattle.script_reader.specs.Steps.{Told, ◌>>=◌, stop_at, number_at, next_is, accept_at, expect_at, Here, meaning, read_name_at, read_process_at, spawn_process_at, bound, is_taken, bind_name_at, fourth_name_at}
use Rattle.script_grammar.specs.Meaning.{place, if_some, is_among}
use Rattle.script_reader.specs.declared.fault.Problem.{Problem}
use Rattle.script_reader.specs.declared.fault.Problem.TheVariants.{Syntax, UnknownName, Twice, TooMany}
use Rattle.script_reader.proofs.ReadFronts.{accept_ok, is_next, next_found}
use Rattle.script_faults.specs.Notes.{Note, first_fault, plain, read_note, process_note, spawn_note, spawned_after, bind_note}
use Rattle.script_faults.specs.Laws.{Any}
use Rattle.script_faults.proofs.Facts.{Lang, Facts, Takes, Faults, token, one_clean, one_token, or_stop, next_same}

-- A TOKEN THAT MAY LIE TOO DEEP

pub some_room : (nesting : ℕ) → plain nesting ≡ None → 0 < nesting
unfolding plain
some_room zero e = absurd cc
some_room (suc nesting) e = omega arith

pub plain_left : (nesting : ℕ) → plain (suc nesting) ≡ None
unfolding plain
plain_left nesting = (let no : eqb (suc nesting) 0 ≡ false = search (arith, tests) in rw no refl)

pub accept_both : (nesting : ℕ) (t : Token) → ((plain nesting ≡ None) × ((ts : List Token) → accept_at nesting (t ∷ ts) ≡ Ok ts)) ⊎ ((plain nesting ≡ Some (TooMany, 0)) × ((ts : List Token) → accept_at nesting (t ∷ ts) ≡ Err (TooMany, suc (length ts))))
unfolding plain accept_at
accept_both zero t = inr (refl, λ ts. refl)
accept_both (suc nesting) t = inl (plain_left nesting, λ ts. accept_ok (suc nesting) t ts (omega arith))

-- KEYWORDS AND MARKS

abbrev pub word : Symbol → ℕ → Lang (Unit {0}) (List Token) Any
word symbol nesting = token {W = Unit {0}} {X = Unit {0}} {Y = List Token} tt (λ w. Fixed symbol) (λ w. plain nesting) (λ w x rest. rest)

pub no_next : (symbol : Symbol) → next_is symbol [] ≡ true → ⊥
unfolding next_is
no_next symbol e = cc

pub first_is : (symbol : Symbol) (t : Token) (ts : List Token) → next_is symbol (t ∷ ts) ≡ true → t ≡ Fixed symbol
first_is symbol t ts e = (let front = next_found symbol (t ∷ ts) e in let same : t ∷ ts ≡ Fixed symbol ∷ front.rest = front.is in cc)

pub accept_facts : {P : List Token → Type 0} (nesting : ℕ) (symbol : Symbol) → ((ts : List Token) → P ts → next_is symbol ts ≡ true) → Facts P (word symbol nesting) (λ ts. accept_at nesting ts)
accept_facts nesting symbol h =
    one_token {W = Unit {0}} {X = Unit {0}} {Y = List Token} tt (λ w. Fixed symbol) (λ w. plain nesting) (λ w x rest. rest) (λ ts. accept_at nesting ts)
    (λ p. absurd (no_next symbol (h [] p)))
    (λ w. ⊎_elim (λ a. inl (record { none = a.0; value = tt; reads = a.1 })) (λ b. inr (record { problem = TooMany; some = b.0; fails = b.1 })) (accept_both nesting (Fixed symbol)))
    (λ t ts p. inl (tt, first_is symbol t ts (h (t ∷ ts) p)))

pub expect_facts : {P : List Token → Type 0} (nesting : ℕ) (symbol : Symbol) → Facts P (word symbol nesting) (λ ts. expect_at nesting symbol ts)
unfolding expect_at
expect_facts nesting symbol = or_stop (next_is symbol) (next_same symbol) (word symbol nesting) (λ ts. accept_at nesting ts) (λ w rest. is_next symbol rest) (accept_facts nesting symbol (λ ts q. q.1))

-- NAMES THAT ARE READ

abbrev pub name : ℕ → Here → Lang Meaning (Meaning × List Token) Any
name nesting h = token {W = List ℕ} {X = Meaning} {Y = Meaning × List Token} [] (λ text. Name text) (λ text. read_note nesting h text) (λ w x rest. (x, rest))

known : (nesting : ℕ) (h : Here) (text : List ℕ) (x : Meaning) → meaning h text ≡ Some x → read_note nesting h text ≡ plain nesting
unfolding read_note
known nesting h text x e = rw e refl

unknown : (nesting : ℕ) (h : Here) (text : List ℕ) → meaning h text ≡ None → read_note nesting h text ≡ Some (UnknownName, 0)
unfolding read_note
unknown nesting h text e = rw e refl

read_known : (nesting : ℕ) (h : Here) (text : List ℕ) (x : Meaning) (ts : List Token) (r : Result (List Token) Told) → meaning h text ≡ Some x → accept_at nesting (Name text ∷ ts) ≡ r → read_name_at nesting h (Name text ∷ ts) ≡ (r >>= λ rest. Ok (x, rest))
unfolding read_name_at
read_known nesting h text x ts r e f = rw (e, f) refl

read_unknown : (nesting : ℕ) (h : Here) (text : List ℕ) (ts : List Token) → meaning h text ≡ None → read_name_at nesting h (Name text ∷ ts) ≡ Err (UnknownName, suc (length ts))
unfolding read_name_at
read_unknown nesting h text ts e = rw e refl

name_on : (nesting : ℕ) (h : Here) (text : List ℕ) (o : Option Meaning) → meaning h text ≡ o
    → Takes {W = List ℕ} {X = Meaning} {Y = Meaning × List Token} [] (λ text. Name text) (λ text. read_note nesting h text) (λ w x rest. (x, rest)) (λ ts. read_name_at nesting h ts) text
    ⊎ Faults {W = List ℕ} {X = Meaning} {Y = Meaning × List Token} [] (λ text. Name text) (λ text. read_note nesting h text) (λ w x rest. (x, rest)) (λ ts. read_name_at nesting h ts) text
name_on nesting h text None e = inr (record { problem = UnknownName; some = unknown nesting h text e; fails = λ ts. read_unknown nesting h text ts e })
name_on nesting h text (Some x) e = ⊎_elim
    (λ a. inl (record { none = known nesting h text x e ∙ a.0; value = x; reads = λ ts. read_known nesting h text x ts (Ok ts) e (a.1 ts) }))
    (λ b. inr (record { problem = TooMany; some = known nesting h text x e ∙ b.0; fails = λ ts. read_known nesting h text x ts (Err (TooMany, suc (length ts))) e (b.1 ts) }))
    (accept_both nesting (Name text))

name_off : (nesting : ℕ) (h : Here) (t : Token) → ((w : List ℕ) × (t ≡ Name w)) ⊎ ((us : List Token) → read_name_at nesting h (t ∷ us) ≡ Err (Syntax, suc (length us)))
unfolding read_name_at
name_off nesting h (Fixed s) = inr (λ us. refl)
name_off nesting h (Name text) = inl (text, refl)
name_off nesting h (Number n) = inr (λ us. refl)
name_off nesting h Bad = inr (λ us. refl)

no_name : (nesting : ℕ) (h : Here) → read_name_at nesting h [] ≡ Err (Syntax, 0)
unfolding read_name_at
no_name nesting h = refl

pub name_facts : {P : List Token → Type 0} (nesting : ℕ) (h : Here) → Facts P (name nesting h) (λ ts. read_name_at nesting h ts)
name_facts nesting h = one_token {W = List ℕ} {X = Meaning} {Y = Meaning × List Token} [] (λ text. Name text) (λ text. read_note nesting h text) (λ w x rest. (x, rest)) (λ ts. read_name_at nesting h ts) (λ p. no_name nesting h) (λ w. name_on nesting h w (meaning h w) refl) (λ t ts p. name_off nesting h t)

-- PROCESSES THAT ARE NAMED

abbrev pub process_name : ℕ → Here → Lang ℕ (ℕ × List Token) Any
process_name nesting h = token {W = List ℕ} {X = ℕ} {Y = ℕ × List Token} [] (λ text. Name text) (λ text. process_note nesting h text) (λ w x rest. (x, rest))

module _ (nesting : ℕ) (h : Here) where
  abbrev ProcessTakes : List ℕ → Type 0
  ProcessTakes text = Takes {W = List ℕ} {X = ℕ} {Y = ℕ × List Token} [] (λ text. Name text) (λ text. process_note nesting h text) (λ w x rest. (x, rest)) (λ ts. read_process_at nesting h ts) text

  abbrev ProcessFaults : List ℕ → Type 0
  ProcessFaults text = Faults {W = List ℕ} {X = ℕ} {Y = ℕ × List Token} [] (λ text. Name text) (λ text. process_note nesting h text) (λ w x rest. (x, rest)) (λ ts. read_process_at nesting h ts) text

  known_process : (text : List ℕ) (p : ℕ) → place text h.processes ≡ Some p → process_note nesting h text ≡ plain nesting
  unfolding process_note
  known_process text p e = rw e refl

  unknown_process : (text : List ℕ) → place text h.processes ≡ None → process_note nesting h text ≡ Some (UnknownName, 0)
  unfolding process_note
  unknown_process text e = rw e refl

  reads_known : (text : List ℕ) (p : ℕ) (ts : List Token) (r : Result (List Token) Told) → place text h.processes ≡ Some p → accept_at nesting (Name text ∷ ts) ≡ r → read_process_at nesting h (Name text ∷ ts) ≡ (r >>= λ rest. Ok (p, rest))
  unfolding read_process_at
  reads_known text p ts r e f = rw (e, f) refl

  reads_unknown : (text : List ℕ) (ts : List Token) → place text h.processes ≡ None → read_process_at nesting h (Name text ∷ ts) ≡ Err (UnknownName, suc (length ts))
  unfolding read_process_at
  reads_unknown text ts e = rw e refl

  process_on : (text : List ℕ) (o : Option ℕ) → place text h.processes ≡ o → ProcessTakes text ⊎ ProcessFaults text
  process_on text None e = inr (record { problem = UnknownName; some = unknown_process text e; fails = λ ts. reads_unknown text ts e })
  process_on text (Some p) e = ⊎_elim
      (λ a. inl (record { none = known_process text p e ∙ a.0; value = p; reads = λ ts. reads_known text p ts (Ok ts) e (a.1 ts) }))
      (λ b. inr (record { problem = TooMany; some = known_process text p e ∙ b.0; fails = λ ts. reads_known text p ts (Err (TooMany, suc (length ts))) e (b.1 ts) }))
      (accept_both nesting (Name text))

  process_off : (t : Token) → ((w : List ℕ) × (t ≡ Name w)) ⊎ ((us : List Token) → read_process_at nesting h (t ∷ us) ≡ Err (Syntax, suc (length us)))
  unfolding read_process_at
  process_off (Fixed s) = inr (λ us. refl)
  process_off (Name text) = inl (text, refl)
  process_off (Number n) = inr (λ us. refl)
  process_off Bad = inr (λ us. refl)

  no_process_name : read_process_at nesting h [] ≡ Err (Syntax, 0)
  unfolding read_process_at
  no_process_name = refl

  pub process_name_facts : {P : List Token → Type 0} → Facts P (process_name nesting h) (λ ts. read_process_at nesting h ts)
  process_name_facts = one_token {W = List ℕ} {X = ℕ} {Y = ℕ × List Token} [] (λ text. Name text) (λ text. process_note nesting h text) (λ w x rest. (x, rest)) (λ ts. read_process_at nesting h ts) (λ p. no_process_name) (λ w. process_on w (place w h.processes) refl) (λ t ts p. process_off t)

-- PROCESSES THAT ARE SPAWNED

abbrev pub Spawned : Type 0
Spawned = ℕ × Here × List Token

abbrev pub spawned_name : ℕ → Here → Lang ℕ Spawned Any
spawned_name nesting h = token {W = List ℕ} {X = ℕ} {Y = Spawned} [] (λ text. Name text) (λ text. spawn_note nesting h text) (λ w x rest. (x, spawned_after h w, rest))

module _ (nesting : ℕ) (h : Here) where
  abbrev SpawnTakes : List ℕ → Type 0
  SpawnTakes text = Takes {W = List ℕ} {X = ℕ} {Y = Spawned} [] (λ text. Name text) (λ text. spawn_note nesting h text) (λ w x rest. (x, spawned_after h w, rest)) (λ ts. spawn_process_at nesting h ts) text

  abbrev SpawnFaults : List ℕ → Type 0
  SpawnFaults text = Faults {W = List ℕ} {X = ℕ} {Y = Spawned} [] (λ text. Name text) (λ text. spawn_note nesting h text) (λ w x rest. (x, spawned_after h w, rest)) (λ ts. spawn_process_at nesting h ts) text

  new_note : (text : List ℕ) (p : ℕ) → place text h.processes ≡ Some p → is_among h.spawned p ≡ false → spawn_note nesting h text ≡ plain nesting
  unfolding spawn_note
  new_note text p e f = rw (e, f) refl

  again_note : (text : List ℕ) (p : ℕ) → place text h.processes ≡ Some p → is_among h.spawned p ≡ true → spawn_note nesting h text ≡ Some (Twice, 0)
  unfolding spawn_note
  again_note text p e f = rw (e, f) refl

  none_note : (text : List ℕ) → place text h.processes ≡ None → spawn_note nesting h text ≡ Some (UnknownName, 0)
  unfolding spawn_note
  none_note text e = rw e refl

  spawns_new : (text : List ℕ) (p : ℕ) (ts : List Token) → place text h.processes ≡ Some p → is_among h.spawned p ≡ false → accept_at nesting (Name text ∷ ts) ≡ Ok ts → spawn_process_at nesting h (Name text ∷ ts) ≡ Ok (p, spawned_after h text, ts)
  unfolding spawn_process_at
  spawns_new text p ts e f g = rw (e, f, g) refl

  spawns_deep : (text : List ℕ) (p : ℕ) (ts : List Token) (t : Told) → place text h.processes ≡ Some p → is_among h.spawned p ≡ false → accept_at nesting (Name text ∷ ts) ≡ Err t → spawn_process_at nesting h (Name text ∷ ts) ≡ Err t
  unfolding spawn_process_at
  spawns_deep text p ts t e f g = rw (e, f, g) refl

  spawns_again : (text : List ℕ) (p : ℕ) (ts : List Token) → place text h.processes ≡ Some p → is_among h.spawned p ≡ true → spawn_process_at nesting h (Name text ∷ ts) ≡ Err (Twice, suc (length ts))
  unfolding spawn_process_at
  spawns_again text p ts e f = rw (e, f) refl

  spawns_none : (text : List ℕ) (ts : List Token) → place text h.processes ≡ None → spawn_process_at nesting h (Name text ∷ ts) ≡ Err (UnknownName, suc (length ts))
  unfolding spawn_process_at
  spawns_none text ts e = rw e refl

  known_on : (text : List ℕ) (p : ℕ) → place text h.processes ≡ Some p → (b : Bool) → is_among h.spawned p ≡ b → SpawnTakes text ⊎ SpawnFaults text
  known_on text p e true f = inr (record { problem = Twice; some = again_note text p e f; fails = λ ts. spawns_again text p ts e f })
  known_on text p e false f = ⊎_elim
      (λ a. inl (record { none = new_note text p e f ∙ a.0; value = p; reads = λ ts. spawns_new text p ts e f (a.1 ts) }))
      (λ b. inr (record { problem = TooMany; some = new_note text p e f ∙ b.0; fails = λ ts. spawns_deep text p ts (TooMany, suc (length ts)) e f (b.1 ts) }))
      (accept_both nesting (Name text))

  spawn_on : (text : List ℕ) (o : Option ℕ) → place text h.processes ≡ o → SpawnTakes text ⊎ SpawnFaults text
  spawn_on text None e = inr (record { problem = UnknownName; some = none_note text e; fails = λ ts. spawns_none text ts e })
  spawn_on text (Some p) e = known_on text p e (is_among h.spawned p) refl

  spawn_off : (t : Token) → ((w : List ℕ) × (t ≡ Name w)) ⊎ ((us : List Token) → spawn_process_at nesting h (t ∷ us) ≡ Err (Syntax, suc (length us)))
  unfolding spawn_process_at
  spawn_off (Fixed s) = inr (λ us. refl)
  spawn_off (Name text) = inl (text, refl)
  spawn_off (Number n) = inr (λ us. refl)
  spawn_off Bad = inr (λ us. refl)

  no_spawned_name : spawn_process_at nesting h [] ≡ Err (Syntax, 0)
  unfolding spawn_process_at
  no_spawned_name = refl

  pub spawned_name_facts : {P : List Token → Type 0} → Facts P (spawned_name nesting h) (λ ts. spawn_process_at nesting h ts)
  spawned_name_facts = one_token {W = List ℕ} {X = ℕ} {Y = Spawned} [] (λ text. Name text) (λ text. spawn_note nesting h text) (λ w x rest. (x, spawned_after h w, rest)) (λ ts. spawn_process_at nesting h ts) (λ p. no_spawned_name) (λ w. spawn_on w (place w h.processes) refl) (λ t ts p. spawn_off t)

-- NUMBERS

unfoldable pub number_at_room : ℕ → List Token → Result (ℕ × List Token) Told
number_at_room nesting ts = if_some (number_at ts) (λ n. accept_at nesting ts >>= λ rest. Ok (n, rest)) (stop_at Syntax ts)

abbrev pub number : ℕ → Lang (Unit {0}) (ℕ × List Token) Any
number nesting = token {W = ℕ} {X = Unit {0}} {Y = ℕ × List Token} 0 (λ n. Number n) (λ n. plain nesting) (λ n x rest. (n, rest))

read_number : (nesting n : ℕ) (ts : List Token) (r : Result (List Token) Told) → accept_at nesting (Number n ∷ ts) ≡ r → number_at_room nesting (Number n ∷ ts) ≡ (r >>= λ rest. Ok (n, rest))
unfolding number_at_room
read_number nesting n ts r f = rw f refl

number_off : (nesting : ℕ) (t : Token) → ((w : ℕ) × (t ≡ Number w)) ⊎ ((us : List Token) → number_at_room nesting (t ∷ us) ≡ Err (Syntax, suc (length us)))
unfolding number_at_room
number_off nesting (Fixed s) = inr (λ us. refl)
number_off nesting (Name text) = inr (λ us. refl)
number_off nesting (Number n) = inl (n, refl)
number_off nesting Bad = inr (λ us. refl)

no_number : (nesting : ℕ) → number_at_room nesting [] ≡ Err (Syntax, 0)
unfolding number_at_room
no_number nesting = refl

pub number_facts : {P : List Token → Type 0} (nesting : ℕ) → Facts P (number nesting) (λ ts. number_at_room nesting ts)
number_facts nesting =
    one_token {W = ℕ} {X = Unit {0}} {Y = ℕ × List Token} 0 (λ n. Number n) (λ n. plain nesting) (λ n x rest. (n, rest)) (λ ts. number_at_room nesting ts)
    (λ p. no_number nesting)
    (λ n. ⊎_elim
    (λ a. inl (record { none = a.0; value = tt; reads = λ ts. read_number nesting n ts (Ok ts) (a.1 ts) }))
    (λ b. inr (record { problem = TooMany; some = b.0; fails = λ ts. read_number nesting n ts (Err (TooMany, suc (length ts))) (b.1 ts) }))
    (accept_both nesting (Number n)))
    (λ t ts p. number_off nesting t)

-- NAMES THAT ARE BOUND

abbrev pub Binds : Type 0
Binds = ℕ × Here × List Token

abbrev pub bound_name : ℕ → List ℕ → Here → Lang (Unit {0}) Binds Any
bound_name nesting list h = token {W = List ℕ} {X = Unit {0}} {Y = Binds} [] (λ text. Name text) (λ text. bind_note nesting list h text) (λ text x rest. ((bound h text).0, (bound h text).1, rest))

module _ (nesting : ℕ) (list : List ℕ) (h : Here) (text : List ℕ) where
  abbrev pub are_many : Bool
  are_many = ltb 32 (length text) || leb 3 (length list)

  pub twice : is_taken list h text ≡ true → bind_note nesting list h text ≡ Some (Twice, 0)
  unfolding bind_note
  twice e = rw e refl

  pub many : is_taken list h text ≡ false → are_many ≡ true → bind_note nesting list h text ≡ Some (TooMany, 0)
  unfolding bind_note
  many e f = rw (e, f) refl

  free : is_taken list h text ≡ false → are_many ≡ false → bind_note nesting list h text ≡ plain nesting
  unfolding bind_note
  free e f = rw (e, f) refl

  bind_twice : (ts : List Token) → is_taken list h text ≡ true → bind_name_at nesting list h (Name text ∷ ts) ≡ Err (Twice, suc (length ts))
  unfolding bind_name_at
  bind_twice ts e = rw e refl

  bind_long : (ts : List Token) → is_taken list h text ≡ false → ltb 32 (length text) ≡ true → bind_name_at nesting list h (Name text ∷ ts) ≡ Err (TooMany, suc (length ts))
  unfolding bind_name_at
  bind_long ts e f = rw (e, f) refl

  bind_free : (ts : List Token) (r : Result (List Token) Told) → is_taken list h text ≡ false → ltb 32 (length text) ≡ false → accept_at nesting (Name text ∷ ts) ≡ r → bind_name_at nesting list h (Name text ∷ ts) ≡ (r >>= λ rest. Ok ((bound h text).0, (bound h text).1, rest))
  unfolding bind_name_at
  bind_free ts r e f g = rw (e, f, g) refl

  abbrev BindTakes : Type 0
  BindTakes = Takes {W = List ℕ} {X = Unit {0}} {Y = Binds} [] (λ text. Name text) (λ text. bind_note nesting list h text) (λ text x rest. ((bound h text).0, (bound h text).1, rest)) (λ ts. bind_name_at nesting list h ts) text

  abbrev BindFaults : Type 0
  BindFaults = Faults {W = List ℕ} {X = Unit {0}} {Y = Binds} [] (λ text. Name text) (λ text. bind_note nesting list h text) (λ text x rest. ((bound h text).0, (bound h text).1, rest)) (λ ts. bind_name_at nesting list h ts) text

  -- behind fewer than three
  module _ (few : leb 3 (length list) ≡ false) where
    count_alone : are_many ≡ ltb 32 (length text)
    count_alone = at_length (ltb 32 (length text))
      where
        at_length : (b : Bool) → (b || leb 3 (length list)) ≡ b
        at_length true = refl
        at_length false = few

    bind_room : is_taken list h text ≡ false → ltb 32 (length text) ≡ false → BindTakes ⊎ BindFaults
    bind_room e f = ⊎_elim
        (λ a. inl (record { none = free e (count_alone ∙ f) ∙ a.0; value = tt; reads = λ ts. bind_free ts (Ok ts) e f (a.1 ts) }))
        (λ b. inr (record { problem = TooMany; some = free e (count_alone ∙ f) ∙ b.0; fails = λ ts. bind_free ts (Err (TooMany, suc (length ts))) e f (b.1 ts) }))
        (accept_both nesting (Name text))

    bind_count : (b : Bool) → is_taken list h text ≡ false → ltb 32 (length text) ≡ b → BindTakes ⊎ BindFaults
    bind_count true e f = inr (record { problem = TooMany; some = many e (count_alone ∙ f); fails = λ ts. bind_long ts e f })
    bind_count false e f = bind_room e f

    bind_on : (b : Bool) → is_taken list h text ≡ b → BindTakes ⊎ BindFaults
    bind_on true e = inr (record { problem = Twice; some = twice e; fails = λ ts. bind_twice ts e })
    bind_on false e = bind_count (ltb 32 (length text)) e refl

    pub bind_name_on : BindTakes ⊎ BindFaults
    bind_name_on = bind_on (is_taken list h text) refl

  -- behind three
  abbrev FourthFaults : Type 0
  FourthFaults = Faults {W = List ℕ} {X = Unit {0}} {Y = Binds} [] (λ text. Name text) (λ text. bind_note nesting list h text) (λ text x rest. ((bound h text).0, (bound h text).1, rest)) (λ ts. stop_at (fourth_name_at list h ts) ts) text

  fourth_taken : (ts : List Token) → is_taken list h text ≡ true → fourth_name_at list h (Name text ∷ ts) ≡ Twice
  unfolding fourth_name_at
  fourth_taken ts e = rw e refl

  fourth_free : (ts : List Token) → is_taken list h text ≡ false → fourth_name_at list h (Name text ∷ ts) ≡ TooMany
  unfolding fourth_name_at
  fourth_free ts e = rw e refl

  module _ (full : leb 3 (length list) ≡ true) where
    full_many : are_many ≡ true
    full_many = at_length (ltb 32 (length text))
      where
        at_length : (b : Bool) → (b || leb 3 (length list)) ≡ true
        at_length true = refl
        at_length false = full

    fourth_on : (b : Bool) → is_taken list h text ≡ b → FourthFaults
    fourth_on true e = record { problem = Twice; some = twice e; fails = λ ts. ap (λ (p : Problem). Err (p, suc (length ts))) (fourth_taken ts e) }
    fourth_on false e = record { problem = TooMany; some = many e full_many; fails = λ ts. ap (λ (p : Problem). Err (p, suc (length ts))) (fourth_free ts e) }

    pub fourth_name_on : FourthFaults
    fourth_name_on = fourth_on (is_taken list h text) refl

    pub no_fourth : first_fault (bind_note nesting list h text ∷ []) ≡ None → ⊥
    no_fourth clean = (let one = fourth_name_on in let same : ◌≡◌ {A = Note} None (Some (one.problem, 0)) = sym (one_clean (bind_note nesting list h text) clean) ∙ one.some in absurd cc)

bind_off : (nesting : ℕ) (list : List ℕ) (h : Here) (t : Token) → ((w : List ℕ) × (t ≡ Name w)) ⊎ ((us : List Token) → bind_name_at nesting list h (t ∷ us) ≡ Err (Syntax, suc (length us)))
unfolding bind_name_at
bind_off nesting list h (Fixed s) = inr (λ us. refl)
bind_off nesting list h (Name text) = inl (text, refl)
bind_off nesting list h (Number n) = inr (λ us. refl)
bind_off nesting list h Bad = inr (λ us. refl)

no_bound : (nesting : ℕ) (list : List ℕ) (h : Here) → bind_name_at nesting list h [] ≡ Err (Syntax, 0)
unfolding bind_name_at
no_bound nesting list h = refl

pub bound_name_facts : {P : List Token → Type 0} (nesting : ℕ) (list : List ℕ) (h : Here) → leb 3 (length list) ≡ false → Facts P (bound_name nesting list h) (λ ts. bind_name_at nesting list h ts)
bound_name_facts nesting list h few =
    one_token {W = List ℕ} {X = Unit {0}} {Y = Binds} [] (λ text. Name text) (λ text. bind_note nesting list h text) (λ text x rest. ((bound h text).0, (bound h text).1, rest)) (λ ts. bind_name_at nesting list h ts)
    (λ p. no_bound nesting list h) (λ w. bind_name_on nesting list h w few) (λ t ts p. bind_off nesting list h t)

fourth_off : (list : List ℕ) (h : Here) (t : Token) → ((w : List ℕ) × (t ≡ Name w)) ⊎ ((us : List Token) → stop_at {A = Binds} (fourth_name_at list h (t ∷ us)) (t ∷ us) ≡ Err (Syntax, suc (length us)))
unfolding fourth_name_at
fourth_off list h (Fixed s) = inr (λ us. refl)
fourth_off list h (Name text) = inl (text, refl)
fourth_off list h (Number n) = inr (λ us. refl)
fourth_off list h Bad = inr (λ us. refl)

no_fourth_there : (list : List ℕ) (h : Here) → stop_at {A = Binds} (fourth_name_at list h []) [] ≡ Err (Syntax, 0)
unfolding fourth_name_at
no_fourth_there list h = refl

-- a name behind three others is one too many
pub fourth_name_facts : {P : List Token → Type 0} (nesting : ℕ) (list : List ℕ) (h : Here) → leb 3 (length list) ≡ true → Facts P (bound_name nesting list h) (λ ts. stop_at (fourth_name_at list h ts) ts)
fourth_name_facts nesting list h full =
    one_token {W = List ℕ} {X = Unit {0}} {Y = Binds} [] (λ text. Name text) (λ text. bind_note nesting list h text) (λ text x rest. ((bound h text).0, (bound h text).1, rest)) (λ ts. stop_at (fourth_name_at list h ts) ts)
    (λ p. no_fourth_there list h) (λ w. inr (fourth_name_on nesting list h w full)) (λ t ts p. fourth_off list h t)
