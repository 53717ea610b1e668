-- Names that are declared, and the channels of a script: what is written, and where reading it stops.
use Rattle.std.proofs.Common.{◌≡◌, ◌⊎◌, inl, inr, ℕ, suc, ◌≤◌, Bool, true, false, cond, ◌||◌, leb, ltb, List, [], ◌∷◌, ◌++◌, length, Some, None, Result, Ok, Err, is_some, refl, sym, ap, ◌∙◌, arith, append_assoc, append-nil}
use Rattle.script_token.specs.Tokens.{Token, Fixed, Name, Number}
use Rattle.script_token.specs.Tokens as tokens
use Rattle.script_token.specs.declared.kind.Symbol.TheVariants.{Channel, Semicolon}
use Rattle.script_grammar.specs.Meaning.{place}
use Rattle.script_reader.specs.Steps.{Told, ◌>>=◌, repeated, next_is, accept_at, expect_at}
use Rattle.script_reader.specs.declared.fault.Problem.TheVariants.{Syntax, Twice, TooMany}
use Rattle.script_grammar.specs.Written.{channels_tokens}
use Rattle.script_reader.proofs.ReadFronts.{is_next, accept_ok}
use Rattle.script.specs.Scripts.{declare_at, channel_next, channel_step, channels_at}
use Rattle.script_faults.specs.Laws.{Any}
use Rattle.script_faults.specs.Notes.{Note, plain}
use Rattle.script_faults.specs.BlockNotes.{declare_note, channels_notes}
use Rattle.script_faults.proofs.Facts.{Shape, shape_none, shape_one, shape_seq, Lang, Facts, Takes, Faults, token, one_token, seq, then, turned, giving, give, next_same}
use Rattle.script_faults.proofs.Words.{word, accept_facts, expect_facts}
use Rattle.script_faults.proofs.Loops.{spell_all, notes_all, after_all, all_lang, all_facts, same_steps}
use Rattle.script_faults.proofs.Shapes.{in_front}

-- A NAME THAT IS DECLARED

abbrev pub Declared : Type 0
Declared = List ℕ × List (List ℕ) × List Token

abbrev pub declared : ℕ → List (List ℕ) → Lang (Unit {0}) Declared Any
declared limit names = token {W = List ℕ} {X = Unit {0}} {Y = Declared} [] (λ text. Name text) (λ text. declare_note limit names text) (λ text x rest. (text, names ++ text ∷ [], rest))

module _ (limit : ℕ) (names : List (List ℕ)) (text : List ℕ) where
  abbrev is_twice : Bool
  is_twice = is_some (place text names)

  abbrev are_many : Bool
  are_many = leb limit (length names) || ltb 32 (length text)

  twice : is_twice ≡ true → declare_note limit names text ≡ Some (Twice, 0)
  unfolding declare_note
  twice e = rw e refl

  many : is_twice ≡ false → are_many ≡ true → declare_note limit names text ≡ Some (TooMany, 0)
  unfolding declare_note
  many e f = rw (e, f) refl

  free : is_twice ≡ false → are_many ≡ false → declare_note limit names text ≡ None
  unfolding declare_note
  free e f = rw (e, f) refl

  declare_twice : (ts : List Token) → is_twice ≡ true → declare_at limit names (Name text ∷ ts) ≡ Err (Twice, suc (length ts))
  unfolding declare_at
  declare_twice ts e = rw e refl

  declare_many : (ts : List Token) → is_twice ≡ false → are_many ≡ true → declare_at limit names (Name text ∷ ts) ≡ Err (TooMany, suc (length ts))
  unfolding declare_at
  declare_many ts e f = rw (e, f) refl

  declare_free : (ts : List Token) → is_twice ≡ false → are_many ≡ false → declare_at limit names (Name text ∷ ts) ≡ Ok (text, names ++ text ∷ [], ts)
  unfolding declare_at
  declare_free ts e f = rw (e, f) (ap (λ (x : Result (List Token) Told). x >>= λ rest. Ok (text, names ++ text ∷ [], rest)) (accept_ok 49 (Name text) ts (omega arith)))

  abbrev DeclareTakes : Type 0
  DeclareTakes = Takes {W = List ℕ} {X = Unit {0}} {Y = Declared} [] (λ text. Name text) (λ text. declare_note limit names text) (λ text x rest. (text, names ++ text ∷ [], rest)) (λ ts. declare_at limit names ts) text

  abbrev DeclareFaults : Type 0
  DeclareFaults = Faults {W = List ℕ} {X = Unit {0}} {Y = Declared} [] (λ text. Name text) (λ text. declare_note limit names text) (λ text x rest. (text, names ++ text ∷ [], rest)) (λ ts. declare_at limit names ts) text

  declare_count : (b : Bool) → is_twice ≡ false → are_many ≡ b → DeclareTakes ⊎ DeclareFaults
  declare_count true e f = inr (record { problem = TooMany; some = many e f; fails = λ ts. declare_many ts e f })
  declare_count false e f = inl (record { none = free e f; value = tt; reads = λ ts. declare_free ts e f })

  declare_on : (b : Bool) → is_twice ≡ b → DeclareTakes ⊎ DeclareFaults
  declare_on true e = inr (record { problem = Twice; some = twice e; fails = λ ts. declare_twice ts e })
  declare_on false e = declare_count are_many e refl

declare_off : (limit : ℕ) (names : List (List ℕ)) (t : Token) → ((w : List ℕ) × (t ≡ Name w)) ⊎ ((us : List Token) → declare_at limit names (t ∷ us) ≡ Err (Syntax, suc (length us)))
unfolding declare_at
declare_off limit names (Fixed s) = inr (λ us. refl)
declare_off limit names (Name text) = inl (text, refl)
declare_off limit names (Number n) = inr (λ us. refl)
declare_off limit names tokens.Bad = inr (λ us. refl)

none_declared : (limit : ℕ) (names : List (List ℕ)) → declare_at limit names [] ≡ Err (Syntax, 0)
unfolding declare_at
none_declared limit names = refl

pub declared_facts : {P : List Token → Type 0} (limit : ℕ) (names : List (List ℕ)) → Facts P (declared limit names) (λ ts. declare_at limit names ts)
declared_facts limit names =
    one_token {W = List ℕ} {X = Unit {0}} {Y = Declared} [] (λ text. Name text) (λ text. declare_note limit names text) (λ text x rest. (text, names ++ text ∷ [], rest)) (λ ts. declare_at limit names ts)
    (λ p. none_declared limit names) (λ text. declare_on limit names text (is_some (place text names)) refl) (λ t ts p. declare_off limit names t)

-- CHANNELS

abbrev pub Channels : Type 0
Channels = List (List ℕ) × List Token

abbrev pub channel_spell : List ℕ → List Token → List Token
channel_spell text rest = Fixed Channel ∷ Name text ∷ Fixed Semicolon ∷ rest

abbrev pub channel_notes : List (List ℕ) → List ℕ → List Note
channel_notes names text = None ∷ declare_note 256 names text ∷ None ∷ []

abbrev pub one_more : List (List ℕ) → List ℕ → List (List ℕ)
one_more names text = names ++ text ∷ []

abbrev channels_so : Unit {0} → List (List ℕ) → List Token → Channels
channels_so x names ts = (names, ts)

pub channel_shape : (names : List (List ℕ)) (text : List ℕ) → Shape (channel_spell text) (channel_notes names text)
channel_shape names text = in_front (Fixed Channel) _ _ _ (in_front (Name text) _ _ _ (shape_one (Fixed Semicolon) _))

abbrev channel_reader : Unit {0} → List (List ℕ) → List Token → Result Channels Told
channel_reader x names ts = channel_next (names, ts)

abbrev has_channel : List Token → Bool
has_channel ts = next_is Channel ts

channel_starts : (text : List ℕ) (rest : List Token) → has_channel (channel_spell text rest) ≡ true
channel_starts text rest = is_next Channel _

channel_long : (names : List (List ℕ)) (text : List ℕ) → 2 ≤ length (channel_notes names text)
channel_long names text = omega arith

channel_stepped : (x : Unit {0}) (names : List (List ℕ)) (ts : List Token) → channel_step (channels_so x names ts) ≡ cond (has_channel ts) (Some (channel_reader x names ts)) None
channel_stepped x names ts = refl

abbrev channel_lang : List (List ℕ) → Lang (Unit {0}) Channels Any
channel_lang names = record { W = List ℕ; default = []; spell = channel_spell; notes = channel_notes names; join = λ w x ts. (one_more names w, ts); shape = channel_shape names }

abbrev channel_end : List (List ℕ) → Lang (Unit {0}) Channels Any
channel_end names = giving (word Semicolon 49) (λ w x rest. (names, rest))

channel_reads : (names : List (List ℕ)) → Facts (λ ts. has_channel ts ≡ true) (seq (word Channel 49) (λ w. seq (declared 256 names) (λ t. channel_end (one_more names t)))) (λ ts. channel_next (names, ts))
unfolding channel_next
channel_reads names =
    then (word Channel 49) (λ w. seq (declared 256 names) (λ t. channel_end (one_more names t))) (λ ts. accept_at 49 ts) (λ rest. declare_at 256 names rest >>= λ c. expect_at 49 Semicolon c.2 >>= λ rest. Ok (c.1, rest)) (accept_facts 49 Channel (λ ts p. p))
    (λ w u clean. then (declared 256 names) (λ t. channel_end (one_more names t)) (λ ts. declare_at 256 names ts) (λ c. expect_at 49 Semicolon c.2 >>= λ rest. Ok (c.1, rest)) (declared_facts 256 names)
    (λ t v clean'. give (word Semicolon 49) (λ w x rest. (one_more names t, rest)) (λ ts. expect_at 49 Semicolon ts) (λ rest. (one_more names t, rest)) (λ w u. tt) (λ w u rest. refl) (expect_facts 49 Semicolon)))

channel_facts : (x : Unit {0}) (names : List (List ℕ)) → Facts (λ ts. has_channel ts ≡ true) (channel_lang names) (channel_reader x names)
unfolding plain
channel_facts x names = turned (seq (word Channel 49) (λ w. seq (declared 256 names) (λ t. channel_end (one_more names t)))) (channel_lang names) (λ ts. channel_next (names, ts)) (channel_reader x names) (record {
  to = λ w. w.1.0;
  spell_to = λ w rest. refl;
  notes_to = λ w. refl;
  from = λ w. (tt, (w, tt));
  spell_from = λ w rest. refl;
  notes_from = λ w. refl;
  value = λ w x. x;
  oks = λ ts w x rest e. e;
  errs = λ ts t e. e;
}) (channel_reads names)

abbrev pub NoChannel : List Token → Type 0
NoChannel rest = next_is Channel rest ≡ false

abbrev channels_all : Lang (Unit {0}) Channels NoChannel
channels_all = all_lang channels_so channel_spell channel_notes one_more [] channel_shape has_channel (next_same Channel) channel_step channel_reader channel_stepped channel_starts channel_long []

channels_read : Facts Any channels_all (λ ts. repeated channel_step (suc (length ts)) ([], ts))
channels_read = all_facts channels_so channel_spell channel_notes one_more [] channel_shape has_channel (next_same Channel) channel_step channel_reader channel_stepped channel_starts channel_long channel_facts tt []

channels_is : (ts : List Token) → repeated channel_step (suc (length ts)) ([], ts) ≡ channels_at ts
unfolding channels_at repeated next_is
channels_is [] = refl
channels_is (t ∷ us) =
    let n = length us in
    same_steps channels_so channel_spell channel_notes one_more [] channel_shape has_channel (next_same Channel) channel_step channel_reader channel_stepped channel_starts channel_long channel_facts (suc (suc n)) (suc n) (t ∷ us) tt [] (omega arith) (omega arith)

channels_spelled : (texts : List (List ℕ)) (rest : List Token) → channels_tokens texts rest ≡ spell_all channel_spell texts rest
channels_spelled [] rest = refl
channels_spelled (text ∷ texts) rest = ap (channel_spell text) (channels_spelled texts rest)

channels_noted : (texts names : List (List ℕ)) → channels_notes names texts ≡ notes_all channel_notes one_more names texts
unfolding channels_notes
channels_noted [] names = refl
channels_noted (text ∷ texts) names = ap (λ (x : List Note). channel_notes names text ++ x) (channels_noted texts (one_more names text))

channels_after : (texts names : List (List ℕ)) → after_all one_more names texts ≡ names ++ texts
channels_after [] names = sym (append-nil names)
channels_after (text ∷ texts) names = channels_after texts (one_more names text) ∙ append_assoc names (text ∷ []) texts

pub channels_shape : (texts names : List (List ℕ)) → Shape (channels_tokens texts) (channels_notes names texts)
unfolding channels_notes
channels_shape [] names = shape_none
channels_shape (text ∷ texts) names = shape_seq (channel_spell text) (channels_tokens texts) (channel_notes names text) (channels_notes (one_more names text) texts) (channel_shape names text) (channels_shape texts (one_more names text))

abbrev pub channels_lang : Lang (Unit {0}) Channels NoChannel
channels_lang = record { W = List (List ℕ); default = []; spell = channels_tokens; notes = λ w. channels_notes [] w; join = λ w x rest. (w, rest); shape = λ w. channels_shape w [] }

pub channels_facts : Facts Any channels_lang (λ ts. channels_at ts)
channels_facts = turned channels_all channels_lang (λ ts. repeated channel_step (suc (length ts)) ([], ts)) (λ ts. channels_at ts) (record {
  to = λ w. w;
  spell_to = channels_spelled;
  notes_to = λ w. channels_noted w [];
  from = λ w. w;
  spell_from = channels_spelled;
  notes_from = λ w. channels_noted w [];
  value = λ w x. x;
  oks = λ ts w x rest e. sym (channels_is ts) ∙ e ∙ ap (λ (names : List (List ℕ)). Ok (names, rest)) (channels_after w []);
  errs = λ ts t e. sym (channels_is ts) ∙ e;
}) channels_read
