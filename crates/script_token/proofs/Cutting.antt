-- The first lexeme of a text.
use Rattle.std.proofs.Common.{◌≡◌, ◌≢◌, ℕ, ◌+◌, ◌<◌, ◌≤◌, Bool, true, false, ◌&&◌, eqb, List, [], ◌∷◌, ◌++◌, length, take, drop, get_or, refl, sym, ap, subst, ◌∙◌, arith, tests}
use Rattle.std.specs.List.{list_all}
use Rattle.std.proofs.lemmas.Bool.{and_parts}
use Rattle.std.proofs.lemmas.List.{take-append-drop, at_drop_more, drop_all, length-take-le}
use Rattle.script_token.specs.Tokens.{is_word}
use Rattle.script_token.specs.Lexemes.{lexemes, put, joins, tokens_from, token_at, line_after, line_behind, starts_from, start_at}

-- the first lexeme begins with the first byte
pub record Begins (b : ℕ) (ws : List (List ℕ)) : Type 0 where
  pub more : List ℕ
  pub others : List (List ℕ)
  pub is : put b ws ≡ (b ∷ more) ∷ others

pub put_begins : (b : ℕ) (ws : List (List ℕ)) → Begins b ws
put_begins b [] = record { more = []; others = []; is = refl }
put_begins b (w ∷ ws) = at_test (joins b w) refl
  where
    at_test : (v : Bool) → joins b w ≡ v → Begins b (w ∷ ws)
    at_test true h = record { more = w; others = ws; is = rw h refl }
    at_test false h = record { more = []; others = w ∷ ws; is = rw h refl }

abbrev pub Stops : List ℕ → Type 0
Stops [] = Unit {0}
Stops (c ∷ rest) = is_word c ≡ false

not_less : (b : ℕ) → is_word b ≡ true → eqb b 60 ≡ false
not_less b h = at_test (eqb b 60) refl
  where
    at_test : (v : Bool) → eqb b 60 ≡ v → eqb b 60 ≡ false
    at_test true e = (let same : b ≡ 60 = search (arith, tests) in let no : is_word 60 ≡ true = subst (λ n. is_word n ≡ true) same h in absurd cc)
    at_test false e = e

-- what is no longer joined to a byte behind it
apart : (b : ℕ) (rest : List ℕ) → is_word b ≡ true → Stops rest → put b (lexemes rest) ≡ (b ∷ []) ∷ lexemes rest
unfolding lexemes
apart b [] h stop = refl
apart b (c ∷ rest) h stop =
    let first = put_begins c (lexemes rest) in
    let other = not_less b h in
    rw (first.is, h, stop, other) refl

pub run_first : (b : ℕ) (w rest : List ℕ) → list_all is_word (b ∷ w) ≡ true → Stops rest → lexemes ((b ∷ w) ++ rest) ≡ (b ∷ w) ∷ lexemes rest
unfolding lexemes
run_first b [] rest h stop = apart b rest (and_parts (is_word b) true h).0 stop
run_first b (c ∷ w) rest h stop =
    let p = and_parts (is_word b) (list_all is_word (c ∷ w)) h in
    let q = and_parts (is_word c) (list_all is_word w) p.1 in
    let is = run_first c w rest p.1 stop in
    let b-word : is_word b ≡ true = p.0 in
    let c-word : is_word c ≡ true = q.0 in
    ap (put b) is ∙ rw (b-word, c-word) refl

pub run_parts : (w rest : List ℕ) → 0 < length w → list_all is_word w ≡ true → Stops rest → lexemes (w ++ rest) ≡ w ∷ lexemes rest
run_parts [] rest some h stop = absurd (omega (arith, some))
run_parts (b ∷ w) rest some h stop = run_first b w rest h stop

run_at : (bytes : List ℕ) (n : ℕ) → 0 < n → n ≤ length bytes → list_all is_word (take n bytes) ≡ true → Stops (drop n bytes)
    → lexemes bytes ≡ take n bytes ∷ lexemes (drop n bytes)
run_at bytes n some within h stop =
    let len : length (take n bytes) ≡ n = length-take-le n bytes within in
    ap lexemes (sym (take-append-drop n bytes)) ∙ run_parts (take n bytes) (drop n bytes) (omega arith) h stop

-- a run that ends before a byte of no word
pub run_before : (bytes : List ℕ) (n : ℕ) → 0 < n → n < length bytes → list_all is_word (take n bytes) ≡ true → is_word (get_or bytes n 0) ≡ false
    → lexemes bytes ≡ take n bytes ∷ lexemes (drop n bytes)
run_before bytes n some within h end =
    let more : drop n bytes ≡ get_or bytes n 0 ∷ drop (n + 1) bytes = at_drop_more (λ (x : List ℕ). x) bytes n 0 within in
    run_at bytes n some (omega arith) h (subst Stops (sym more) end)

-- a run up to the end
pub run_whole : (bytes : List ℕ) → 0 < length bytes → list_all is_word (take (length bytes) bytes) ≡ true
    → lexemes bytes ≡ take (length bytes) bytes ∷ lexemes (drop (length bytes) bytes)
run_whole bytes some h =
    let none : drop (length bytes) bytes ≡ [] = drop_all (length bytes) bytes (omega arith) in
    run_at bytes (length bytes) some (omega arith) h (subst Stops (sym none) tt)

alone_before : (b : ℕ) (ws : List (List ℕ)) → ((c : ℕ) (w : List ℕ) (vs : List (List ℕ)) → ws ≡ (c ∷ w) ∷ vs → joins b (c ∷ w) ≡ false) → ((vs : List (List ℕ)) → ws ≢ [] ∷ vs) → put b ws ≡ (b ∷ []) ∷ ws
alone_before b [] h k = refl
alone_before b ([] ∷ ws) h k = refl
alone_before b ((c ∷ w) ∷ ws) h k = (let e : joins b (c ∷ w) ≡ false = h c w ws refl in rw e refl)

not_empty : (bytes : List ℕ) (vs : List (List ℕ)) → lexemes bytes ≢ [] ∷ vs
unfolding lexemes
not_empty [] vs e = absurd cc
not_empty (b ∷ bytes) vs e = (let first = put_begins b (lexemes bytes) in let no : (b ∷ first.more) ∷ first.others ≡ [] ∷ vs = sym first.is ∙ e in absurd cc)

begins_with : (b : ℕ) (bytes : List ℕ) (c : ℕ) (w : List ℕ) (vs : List (List ℕ)) → lexemes (b ∷ bytes) ≡ (c ∷ w) ∷ vs → c ≡ b
unfolding lexemes
begins_with b bytes c w vs e = (let first = put_begins b (lexemes bytes) in let same : (b ∷ first.more) ∷ first.others ≡ (c ∷ w) ∷ vs = sym first.is ∙ e in cc)

-- a mark or white space that is no `<`, or that no `-` follows
pub mark_one : (bytes : List ℕ) → 0 < length bytes → is_word (get_or bytes 0 0) ≡ false → (eqb (get_or bytes 0 0) 60 && eqb (get_or bytes 1 0) 45) ≡ false
    → lexemes bytes ≡ take 1 bytes ∷ lexemes (drop 1 bytes)
unfolding lexemes
mark_one [] some mark other = absurd (omega (arith, some))
mark_one (b ∷ []) some mark other = refl
mark_one (b ∷ c ∷ rest) some mark other =
    alone_before b (lexemes (c ∷ rest))
    (λ d w vs e.
    let same : d ≡ c = begins_with c rest d w vs e in
    let m : is_word b ≡ false = mark in
    let o : (eqb b 60 && eqb c 45) ≡ false = other in
    rw (same, m) o)
    (not_empty (c ∷ rest))

pub mark_arrow : (bytes : List ℕ) → 1 < length bytes → get_or bytes 0 0 ≡ 60 → get_or bytes 1 0 ≡ 45
    → lexemes bytes ≡ take 2 bytes ∷ lexemes (drop 2 bytes)
unfolding lexemes
mark_arrow [] some p q = absurd (omega (arith, some))
mark_arrow (b ∷ []) some p q = absurd (omega (arith, some))
mark_arrow (b ∷ c ∷ rest) some p q =
    let p2 : b ≡ 60 = p in
    let q2 : c ≡ 45 = q in
    let second : put 45 (lexemes rest) ≡ (45 ∷ []) ∷ lexemes rest =
    alone_before 45 (lexemes rest) (λ d w vs e. refl) (not_empty rest) in
    rw (p2, q2) (ap (put 60) second)

-- the tokens and the last line of a text, from its first lexeme on
pub tokens_front : (line : ℕ) (bytes w rest : List ℕ) → lexemes bytes ≡ w ∷ lexemes rest → tokens_from line (lexemes bytes) ≡ token_at line w ++ tokens_from (line_after line w) (lexemes rest)
unfolding tokens_from
tokens_front line bytes w rest e = ap (tokens_from line) e

pub line_front : (line : ℕ) (bytes w rest : List ℕ) → lexemes bytes ≡ w ∷ lexemes rest → line_behind line (lexemes bytes) ≡ line_behind (line_after line w) (lexemes rest)
unfolding line_behind
line_front line bytes w rest e = ap (line_behind line) e

pub tokens_end : (line : ℕ) (bytes : List ℕ) → length bytes ≡ 0 → tokens_from line (lexemes bytes) ≡ []
unfolding tokens_from lexemes
tokens_end line [] h = refl
tokens_end line (b ∷ bytes) h = absurd (omega (arith, h))

pub line_end : (line : ℕ) (bytes : List ℕ) → length bytes ≡ 0 → line_behind line (lexemes bytes) ≡ line
unfolding line_behind lexemes
line_end line [] h = refl
line_end line (b ∷ bytes) h = absurd (omega (arith, h))

pub line_step : (line : ℕ) (w : List ℕ) → line_after line w ≤ line + 1
line_step line w = at_test (eqb (get_or w 0 0) 10) refl
  where
    at_test : (v : Bool) → eqb (get_or w 0 0) 10 ≡ v → line_after line w ≤ line + 1
    at_test true e = rw e (omega arith)
    at_test false e = rw e (omega arith)

pub starts_front : (at : ℕ) (bytes w rest : List ℕ) → lexemes bytes ≡ w ∷ lexemes rest → starts_from at (lexemes bytes) ≡ start_at at w ++ starts_from (at + length w) (lexemes rest)
unfolding starts_from
starts_front at bytes w rest e = ap (starts_from at) e

pub starts_end : (at : ℕ) (bytes : List ℕ) → length bytes ≡ 0 → starts_from at (lexemes bytes) ≡ []
unfolding starts_from lexemes
starts_end at [] h = refl
starts_end at (b ∷ bytes) h = absurd (omega (arith, h))
