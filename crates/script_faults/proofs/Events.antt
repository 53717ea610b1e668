-- Events: what is written, and where reading it stops, with what reads the events and blocks inside.
use Rattle.std.proofs.Common.{◌≡◌, ◌⊎◌, inl, inr, ⊎_elim, ℕ, suc, ◌+◌, ◌-◌, ◌<◌, ◌≤◌, Bool, true, false, cond, leb, List, [], ◌∷◌, ◌++◌, length, Option, Some, None, Result, Ok, Err, refl, sym, ap, ◌∙◌, arith}
use Rattle.script_token.specs.Tokens.{Token, Fixed}
use Rattle.script_token.specs.declared.kind.Symbol.{Symbol}
use Rattle.script_token.specs.declared.kind.Symbol.TheVariants.{Send, Recv, Always, Never, Cancelled, Choose, Wrap, As, To, Guard, Nack, Joined, Comma, OpenBracket, CloseBracket}
use Rattle.script_tree.specs.Trees as trees
use Rattle.script_reader.specs.Steps.{Told, ◌>>=◌, stop_at, repeated, next_is, accept_at, expect_at, Here, bound, read_name_at, read_process_at, bind_name_at, bind_names_at}
use Rattle.script_reader.specs.Exprs.{list_at}
use Rattle.script_reader.specs.declared.fault.Problem.TheVariants.{Syntax, TooMany}
use Rattle.script_grammar.specs.Written as written
use Rattle.script_grammar.specs.Written.{as_tokens, event_tokens, events_tokens, more_events_tokens, block_tokens}
use Rattle.script_reader.proofs.ReadFronts.{is_next}
use Rattle.script_reader.specs.Blocks.{base_at, nack_word_at, send_at, recv_at, always_at, never_at, cancelled_at, joined_at, as_names_at, chain, ReadsEvent, ReadsBlock, member_step, members_with, choose_with, wrap_with, guard_with, nack_with, event_with}
use Rattle.script_reader.specs.declared.process.Loops.TheVariants.{Forbidden}
use Rattle.script_faults.specs.Laws.{Any, NoComma}
use Rattle.script_faults.specs.Notes.{Note, first_fault, plain, names_after}
use Rattle.script_faults.specs.BlockNotes.{base_note, nack_note, as_notes, one_base, one_nack, event_after, events_after, block_after, event_notes, events_notes, more_events_notes, block_notes}
use Rattle.script_faults.proofs.Facts.{Shape, Lang, Facts, seq, bind, then, under, turned, instead, giving, give, either, neither, choose, or_stop, next_same, same_front, fine_of, one_clean, one_token, token, Takes, Faults, spelled_length}
use Rattle.script_faults.proofs.Words.{some_room, accept_both, first_is, no_next, word, accept_facts, expect_facts, name, name_facts, process_name, process_name_facts, bound_name, bound_name_facts}
use Rattle.script_faults.proofs.Loops.{spell_all, notes_all, after_all, all_lang, all_facts, same_steps}
use Rattle.script_faults.proofs.Lists.{list_lang, list_facts}
use Rattle.script_faults.proofs.NameLists.{names_lang, names_facts, comma_looks}
use Rattle.script_faults.proofs.Shapes.{as_shape, in_front, behind, event_shape, events_shape, block_shape}

-- LANGUAGES

abbrev pub EventRead : Type 0
EventRead = trees.Event × Here × List Token

abbrev pub event_lang : ℕ → Here → Lang trees.Event EventRead Any
event_lang nesting h = record { W = written.Event; default = written.Never; spell = event_tokens; notes = event_notes nesting h; join = λ w x rest. (x, event_after h w, rest); shape = λ w. event_shape w nesting h }

abbrev pub block_lang : Bool → ℕ → Here → Lang trees.Block (trees.Block × Here × List Token) Any
block_lang loops nesting h = record { W = written.Block; default = written.Done; spell = block_tokens; notes = block_notes loops nesting h; join = λ w x rest. (x, block_after h w, rest); shape = λ w. block_shape w loops nesting h }

-- WORDS THAT ARE COUNTED

abbrev base : Symbol → ℕ → Here → Lang (Unit {0}) (Here × List Token) Any
base symbol nesting h = token {W = Unit {0}} {X = Unit {0}} {Y = Here × List Token} tt (λ w. Fixed symbol) (λ w. base_note nesting h) (λ w x rest. (one_base h, rest))

abbrev nack_word : ℕ → Here → Lang (Unit {0}) (Here × List Token) Any
nack_word nesting h = token {W = Unit {0}} {X = Unit {0}} {Y = Here × List Token} tt (λ w. Fixed Nack) (λ w. nack_note nesting h) (λ w x rest. (one_nack h, rest))

module _ (nesting : ℕ) (h : Here) where
  base_full : leb 8 h.counts.bases ≡ true → base_note nesting h ≡ Some (TooMany, 0)
  unfolding base_note
  base_full e = rw e refl

  base_left : leb 8 h.counts.bases ≡ false → base_note nesting h ≡ plain nesting
  unfolding base_note
  base_left e = rw e refl

  base_stops : (ts : List Token) → leb 8 h.counts.bases ≡ true → base_at nesting h ts ≡ Err (TooMany, length ts)
  unfolding base_at
  base_stops ts e = rw e refl

  base_goes : (ts : List Token) (r : Result (List Token) Told) → leb 8 h.counts.bases ≡ false → accept_at nesting ts ≡ r → base_at nesting h ts ≡ (r >>= λ rest. Ok (one_base h, rest))
  unfolding base_at
  base_goes ts r e f = rw (e, f) refl

  nack_full : leb 4 h.counts.nacks ≡ true → nack_note nesting h ≡ Some (TooMany, 0)
  unfolding nack_note
  nack_full e = rw e refl

  nack_left : leb 4 h.counts.nacks ≡ false → nack_note nesting h ≡ plain nesting
  unfolding nack_note
  nack_left e = rw e refl

  nack_stops : (ts : List Token) → leb 4 h.counts.nacks ≡ true → nack_word_at nesting h ts ≡ Err (TooMany, length ts)
  unfolding nack_word_at
  nack_stops ts e = rw e refl

  nack_goes : (ts : List Token) (r : Result (List Token) Told) → leb 4 h.counts.nacks ≡ false → accept_at nesting ts ≡ r → nack_word_at nesting h ts ≡ (r >>= λ rest. Ok (one_nack h, rest))
  unfolding nack_word_at
  nack_goes ts r e f = rw (e, f) refl

  base_facts : {P : List Token → Type 0} (symbol : Symbol) → ((ts : List Token) → P ts → next_is symbol ts ≡ true) → Facts P (base symbol nesting h) (λ ts. base_at nesting h ts)
  base_facts symbol is =
      one_token {W = Unit {0}} {X = Unit {0}} {Y = Here × List Token} tt (λ w. Fixed symbol) (λ w. base_note nesting h) (λ w x rest. (one_base h, rest)) (λ ts. base_at nesting h ts)
      (λ p. absurd (no_next symbol (is [] p))) (λ w. on (leb 8 h.counts.bases) refl) (λ t ts p. inl (tt, first_is symbol t ts (is (t ∷ ts) p)))
    where
      on : (b : Bool) → leb 8 h.counts.bases ≡ b → Takes {W = Unit {0}} {X = Unit {0}} {Y = Here × List Token} tt (λ w. Fixed symbol) (λ w. base_note nesting h) (λ w x rest. (one_base h, rest)) (λ ts. base_at nesting h ts) tt
          ⊎ Faults {W = Unit {0}} {X = Unit {0}} {Y = Here × List Token} tt (λ w. Fixed symbol) (λ w. base_note nesting h) (λ w x rest. (one_base h, rest)) (λ ts. base_at nesting h ts) tt
      on true e = inr (record { problem = TooMany; some = base_full e; fails = λ ts. base_stops (Fixed symbol ∷ ts) e })
      on false e = ⊎_elim
          (λ a. inl (record { none = base_left e ∙ a.0; value = tt; reads = λ ts. base_goes (Fixed symbol ∷ ts) (Ok ts) e (a.1 ts) }))
          (λ b. inr (record { problem = TooMany; some = base_left e ∙ b.0; fails = λ ts. base_goes (Fixed symbol ∷ ts) (Err (TooMany, suc (length ts))) e (b.1 ts) }))
          (accept_both nesting (Fixed symbol))

  nack_word_facts : {P : List Token → Type 0} → ((ts : List Token) → P ts → next_is Nack ts ≡ true) → Facts P (nack_word nesting h) (λ ts. nack_word_at nesting h ts)
  nack_word_facts is =
      one_token {W = Unit {0}} {X = Unit {0}} {Y = Here × List Token} tt (λ w. Fixed Nack) (λ w. nack_note nesting h) (λ w x rest. (one_nack h, rest)) (λ ts. nack_word_at nesting h ts)
      (λ p. absurd (no_next Nack (is [] p))) (λ w. on (leb 4 h.counts.nacks) refl) (λ t ts p. inl (tt, first_is Nack t ts (is (t ∷ ts) p)))
    where
      on : (b : Bool) → leb 4 h.counts.nacks ≡ b → Takes {W = Unit {0}} {X = Unit {0}} {Y = Here × List Token} tt (λ w. Fixed Nack) (λ w. nack_note nesting h) (λ w x rest. (one_nack h, rest)) (λ ts. nack_word_at nesting h ts) tt
          ⊎ Faults {W = Unit {0}} {X = Unit {0}} {Y = Here × List Token} tt (λ w. Fixed Nack) (λ w. nack_note nesting h) (λ w x rest. (one_nack h, rest)) (λ ts. nack_word_at nesting h ts) tt
      on true e = inr (record { problem = TooMany; some = nack_full e; fails = λ ts. nack_stops (Fixed Nack ∷ ts) e })
      on false e = ⊎_elim
          (λ a. inl (record { none = nack_left e ∙ a.0; value = tt; reads = λ ts. nack_goes (Fixed Nack ∷ ts) (Ok ts) e (a.1 ts) }))
          (λ b. inr (record { problem = TooMany; some = nack_left e ∙ b.0; fails = λ ts. nack_goes (Fixed Nack ∷ ts) (Err (TooMany, suc (length ts))) e (b.1 ts) }))
          (accept_both nesting (Fixed Nack))

-- BASE EVENTS

module _ (nesting : ℕ) (h : Here) where
  abbrev h' : Here
  h' = one_base h

  abbrev list_end : Lang trees.Event EventRead Any
  list_end = giving (list_lang nesting h') (λ w x rest. (x, h', rest))

  abbrev name_end : Lang trees.Event EventRead Any
  name_end = giving (name nesting h') (λ w x rest. (x, h', rest))

  abbrev send_lang : Lang trees.Event EventRead Any
  send_lang = seq (base Send nesting h) (λ w. seq (name nesting h') (λ t. list_end))

  abbrev recv_lang : Lang trees.Event EventRead Any
  recv_lang = seq (base Recv nesting h) (λ w. name_end)

  abbrev always_lang : Lang trees.Event EventRead Any
  always_lang = seq (base Always nesting h) (λ w. list_end)

  abbrev never_lang : Lang trees.Event EventRead Any
  never_lang = giving (base Never nesting h) (λ w x rest. (x, h', rest))

  abbrev cancelled_lang : Lang trees.Event EventRead Any
  cancelled_lang = seq (base Cancelled nesting h) (λ w. name_end)

  abbrev process_end : Lang trees.Event EventRead Any
  process_end = giving (process_name nesting h') (λ w x rest. (x, h', rest))

  abbrev joined_lang : Lang trees.Event EventRead Any
  joined_lang = seq (base Joined nesting h) (λ w. process_end)

  send_facts : {P : List Token → Type 0} → ((ts : List Token) → P ts → next_is Send ts ≡ true) → Facts P send_lang (λ ts. send_at nesting h ts)
  unfolding send_at
  send_facts is =
      then (base Send nesting h) (λ w. seq (name nesting h') (λ t. list_end)) (λ ts. base_at nesting h ts) (λ b. read_name_at nesting b.0 b.1 >>= λ c. list_at nesting b.0 c.1 >>= λ l. Ok (trees.Sends c.0 l.0, b.0, l.1)) (base_facts nesting h Send is)
      (λ w x clean. then (name nesting h') (λ t. list_end) (λ ts. read_name_at nesting h' ts) (λ c. list_at nesting h' c.1 >>= λ l. Ok (trees.Sends c.0 l.0, h', l.1)) (name_facts nesting h')
      (λ t c clean'. give (list_lang nesting h') (λ w x rest. (x, h', rest)) (λ ts. list_at nesting h' ts) (λ l. (trees.Sends c l.0, h', l.1)) (λ w l. trees.Sends c l) (λ w l rest. refl) (list_facts nesting h')))

  recv_facts : {P : List Token → Type 0} → ((ts : List Token) → P ts → next_is Recv ts ≡ true) → Facts P recv_lang (λ ts. recv_at nesting h ts)
  unfolding recv_at
  recv_facts is =
      then (base Recv nesting h) (λ w. name_end) (λ ts. base_at nesting h ts) (λ b. read_name_at nesting b.0 b.1 >>= λ c. Ok (trees.Receives c.0, b.0, c.1)) (base_facts nesting h Recv is)
      (λ w x clean. give (name nesting h') (λ w x rest. (x, h', rest)) (λ ts. read_name_at nesting h' ts) (λ c. (trees.Receives c.0, h', c.1)) (λ w c. trees.Receives c) (λ w c rest. refl) (name_facts nesting h'))

  always_facts : {P : List Token → Type 0} → ((ts : List Token) → P ts → next_is Always ts ≡ true) → Facts P always_lang (λ ts. always_at nesting h ts)
  unfolding always_at
  always_facts is =
      then (base Always nesting h) (λ w. list_end) (λ ts. base_at nesting h ts) (λ b. list_at nesting b.0 b.1 >>= λ l. Ok (trees.IsReady l.0, b.0, l.1)) (base_facts nesting h Always is)
      (λ w x clean. give (list_lang nesting h') (λ w x rest. (x, h', rest)) (λ ts. list_at nesting h' ts) (λ l. (trees.IsReady l.0, h', l.1)) (λ w l. trees.IsReady l) (λ w l rest. refl) (list_facts nesting h'))

  never_facts : {P : List Token → Type 0} → ((ts : List Token) → P ts → next_is Never ts ≡ true) → Facts P never_lang (λ ts. never_at nesting h ts)
  unfolding never_at
  never_facts is = give (base Never nesting h) (λ w x rest. (x, h', rest)) (λ ts. base_at nesting h ts) (λ b. (trees.IsNever, b.0, b.1)) (λ w x. trees.IsNever) (λ w x rest. refl) (base_facts nesting h Never is)

  cancelled_facts : {P : List Token → Type 0} → ((ts : List Token) → P ts → next_is Cancelled ts ≡ true) → Facts P cancelled_lang (λ ts. cancelled_at nesting h ts)
  unfolding cancelled_at
  cancelled_facts is =
      then (base Cancelled nesting h) (λ w. name_end) (λ ts. base_at nesting h ts) (λ b. read_name_at nesting b.0 b.1 >>= λ n. Ok (trees.IsCancelled n.0, b.0, n.1)) (base_facts nesting h Cancelled is)
      (λ w x clean. give (name nesting h') (λ w x rest. (x, h', rest)) (λ ts. read_name_at nesting h' ts) (λ n. (trees.IsCancelled n.0, h', n.1)) (λ w n. trees.IsCancelled n) (λ w n rest. refl) (name_facts nesting h'))

  joined_facts : {P : List Token → Type 0} → ((ts : List Token) → P ts → next_is Joined ts ≡ true) → Facts P joined_lang (λ ts. joined_at nesting h ts)
  unfolding joined_at
  joined_facts is =
      then (base Joined nesting h) (λ w. process_end) (λ ts. base_at nesting h ts) (λ b. read_process_at nesting b.0 b.1 >>= λ p. Ok (trees.IsJoined p.0, b.0, p.1)) (base_facts nesting h Joined is)
      (λ w x clean. give (process_name nesting h') (λ w x rest. (x, h', rest)) (λ ts. read_process_at nesting h' ts) (λ p. (trees.IsJoined p.0, h', p.1)) (λ w p. trees.IsJoined p) (λ w p rest. refl) (process_name_facts nesting h'))

-- NAMES BEHIND `as`, AND `to`

abbrev NamesTo : Type 0
NamesTo = Option (List ℕ) × Here × List Token

abbrev as_lang : ℕ → Here → Lang (Option (List ℕ)) NamesTo Any
as_lang nesting h = record { W = List (List ℕ); default = []; spell = λ w rest. as_tokens w (Fixed To ∷ rest); notes = as_notes nesting h; join = λ w x rest. (x, names_after h w, rest); shape = λ w. as_shape w nesting h }

module _ (nesting : ℕ) (h : Here) where
  abbrev to_with : NamesTo → Result NamesTo Told
  to_with n = expect_at nesting To n.2 >>= λ rest. Ok (n.0, n.1, rest)

  abbrev to_end : Here → Lang (Option (List ℕ)) NamesTo Any
  to_end h' = giving (word To nesting) (λ w x rest. (x, h', rest))

  abbrev named_lang : Lang (Option (List ℕ)) NamesTo Any
  named_lang = seq (word As nesting) (λ w. seq (names_lang nesting h) (λ ns. to_end (names_after h (ns.0 ∷ ns.1))))

  abbrev as_parts : Lang (Option (List ℕ)) NamesTo Any
  as_parts = either named_lang (to_end h)

  abbrev named_rest : List Token → Result NamesTo Told
  named_rest rest = bind_names_at nesting h rest >>= λ n. to_with (Some n.0, n.1, n.2)

  to_facts : {P : List Token → Type 0} (x : Option (List ℕ)) (h' : Here) → Facts P (to_end h') (λ ts. to_with (x, h', ts))
  to_facts x h' = give (word To nesting) (λ w x rest. (x, h', rest)) (λ ts. expect_at nesting To ts) (λ rest. (x, h', rest)) (λ w u. x) (λ w u rest. refl) (expect_facts nesting To)

  to_no_comma : (rest : List Token) → NoComma (Fixed To ∷ rest)
  unfolding next_is
  to_no_comma rest = refl

  to_no_as : (rest : List Token) → next_is As (Fixed To ∷ rest) ≡ false
  unfolding next_is
  to_no_as rest = refl

  abbrev as_reader : List Token → Result NamesTo Told
  as_reader ts = cond (next_is As ts) (accept_at nesting ts >>= named_rest) (to_with (None, h, ts))

  as_reads : Facts Any as_parts as_reader
  as_reads =
      choose (next_is As) (next_same As) named_lang (to_end h) (λ ts. accept_at nesting ts >>= named_rest) (λ ts. to_with (None, h, ts)) (λ w rest e. is_next As _) (λ w rest e. to_no_as rest)
      (then (word As nesting) (λ w. seq (names_lang nesting h) (λ ns. to_end (names_after h (ns.0 ∷ ns.1)))) (λ ts. accept_at nesting ts) named_rest (accept_facts nesting As (λ ts p. p.1))
      (λ w x clean. bind (names_lang nesting h) (λ ns. to_end (names_after h (ns.0 ∷ ns.1))) (λ ts. bind_names_at nesting h ts) (λ n. to_with (Some n.0, n.1, n.2)) comma_looks (λ w v rest e. to_no_comma rest) (names_facts nesting h)
      (λ ns y clean'. to_facts (Some y) (names_after h (ns.0 ∷ ns.1)))))
      (to_facts None h)

  as_is : (ts : List Token) → as_reader ts ≡ (as_names_at nesting h ts >>= to_with)
  unfolding as_names_at
  as_is ts = at_as (next_is As ts) (accept_at nesting ts)
    where
      at_names : (r : Result (List ℕ × Here × List Token) Told) → (r >>= λ n. to_with (Some n.0, n.1, n.2)) ≡ ((r >>= λ n. Ok (Some n.0, n.1, n.2)) >>= to_with)
      at_names (Ok n) = refl
      at_names (Err t) = refl

      at_word : (r : Result (List Token) Told) → (r >>= named_rest) ≡ ((r >>= λ rest. bind_names_at nesting h rest >>= λ n. Ok (Some n.0, n.1, n.2)) >>= to_with)
      at_word (Ok rest) = at_names (bind_names_at nesting h rest)
      at_word (Err t) = refl

      at_as : (b : Bool) (r : Result (List Token) Told) → cond b (r >>= named_rest) (to_with (None, h, ts)) ≡ (cond b (r >>= λ rest. bind_names_at nesting h rest >>= λ n. Ok (Some n.0, n.1, n.2)) (Ok (None, h, ts)) >>= to_with)
      at_as true r = at_word r
      at_as false r = refl

  abbrev AsParts : Type 0
  AsParts = (Unit {0} × ((List ℕ × List (List ℕ)) × Unit {0})) ⊎ Unit {0}

  abbrev to_as : AsParts → List (List ℕ)
  to_as (inl w) = w.1.0.0 ∷ w.1.0.1
  to_as (inr w) = []

  abbrev from_as : List (List ℕ) → AsParts
  from_as [] = inr tt
  from_as (text ∷ texts) = inl (tt, ((text, texts), tt))

  as_spell_to : (w : AsParts) (rest : List Token) → as_tokens (to_as w) (Fixed To ∷ rest) ≡ as_parts.spell w rest
  as_spell_to (inl w) rest = refl
  as_spell_to (inr w) rest = refl

  as_notes_to : (w : AsParts) → as_notes nesting h (to_as w) ≡ as_parts.notes w
  unfolding as_notes
  as_notes_to (inl w) = refl
  as_notes_to (inr w) = refl

  as_spell_from : (w : List (List ℕ)) (rest : List Token) → as_tokens w (Fixed To ∷ rest) ≡ as_parts.spell (from_as w) rest
  as_spell_from [] rest = refl
  as_spell_from (text ∷ texts) rest = refl

  as_notes_from : (w : List (List ℕ)) → as_notes nesting h w ≡ as_parts.notes (from_as w)
  unfolding as_notes
  as_notes_from [] = refl
  as_notes_from (text ∷ texts) = refl

  as_joined : (w : List (List ℕ)) (x : Option (List ℕ)) (rest : List Token) → as_parts.join (from_as w) x rest ≡ (x, names_after h w, rest)
  as_joined [] x rest = refl
  as_joined (text ∷ texts) x rest = refl

  as_facts : Facts Any (as_lang nesting h) (λ ts. as_names_at nesting h ts >>= to_with)
  as_facts = turned as_parts (as_lang nesting h) as_reader (λ ts. as_names_at nesting h ts >>= to_with) (record {
    to = to_as;
    spell_to = as_spell_to;
    notes_to = as_notes_to;
    from = from_as;
    spell_from = as_spell_from;
    notes_from = as_notes_from;
    value = λ w x. x;
    oks = λ ts w x rest e. sym (as_is ts) ∙ e ∙ ap (λ (y : NamesTo). Ok y) (as_joined w x rest);
    errs = λ ts t e. sym (as_is ts) ∙ e;
  }) as_reads

-- MEMBERS OF A CHOICE

abbrev Members : Type 0
Members = List trees.Event × Here × List Token

abbrev pub members_lang : ℕ → Here → Lang trees.Event EventRead Any
members_lang r h = record {
  W = written.Events;
  default = written.NoEvents;
  spell = λ w rest. events_tokens w (Fixed CloseBracket ∷ rest);
  notes = λ w. events_notes r h w ++ plain r ∷ [];
  join = λ w x rest. (x, events_after h w, rest);
  shape = λ w. behind (Fixed CloseBracket) (plain r) (events_tokens w) (events_notes r h w) (events_shape w r h);
}

module _ (event : ReadsEvent) (r : ℕ) (events : (h : Here) → Facts Any (event_lang r h) (event h)) where
  abbrev member_spell : written.Event → List Token → List Token
  member_spell w rest = Fixed Comma ∷ event_tokens w rest

  abbrev member_notes : Here → written.Event → List Note
  member_notes h w = plain r ∷ event_notes r h w

  abbrev member_at : List trees.Event → Here → List Token → Members
  member_at x h ts = (x, h, ts)

  member_shape : (h : Here) (w : written.Event) → Shape (member_spell w) (member_notes h w)
  member_shape h w = in_front (Fixed Comma) (plain r) (event_tokens w) (event_notes r h w) (event_shape w r h)

  abbrev has_comma : List Token → Bool
  has_comma ts = next_is Comma ts

  abbrev member_reader : List trees.Event → Here → List Token → Result Members Told
  member_reader x h ts = accept_at r ts >>= λ rest. event h rest >>= λ e. Ok (x ++ e.0 ∷ [], e.1, e.2)

  member_stepped : (x : List trees.Event) (h : Here) (ts : List Token) → member_step event r (member_at x h ts) ≡ cond (has_comma ts) (Some (member_reader x h ts)) None
  member_stepped x h ts = refl

  member_starts : (w : written.Event) (rest : List Token) → has_comma (member_spell w rest) ≡ true
  member_starts w rest = is_next Comma _

  event_long : (w : written.Event) (h : Here) → 1 ≤ length (event_notes r h w)
  unfolding event_notes
  event_long (written.Send channel list) h = omega arith
  event_long (written.Recv channel) h = omega arith
  event_long (written.Always list) h = omega arith
  event_long written.Never h = omega arith
  event_long (written.Cancelled nack) h = omega arith
  event_long (written.Joined process) h = omega arith
  event_long (written.Choose members) h = omega arith
  event_long (written.Wrap event names list) h = omega arith
  event_long (written.Guard body event) h = omega arith
  event_long (written.Nack name body event) h = omega arith

  member_long : (h : Here) (w : written.Event) → 2 ≤ length (member_notes h w)
  member_long h w = (let n = event_long w h in omega (arith, n))

  abbrev member_lang : Here → Lang (List trees.Event) Members Any
  member_lang h = record { W = written.Event; default = written.Never; spell = member_spell; notes = member_notes h; join = λ w x ts. (x, event_after h w, ts); shape = member_shape h }

  member_facts : (x : List trees.Event) (h : Here) → Facts (λ ts. has_comma ts ≡ true) (member_lang h) (member_reader x h)
  member_facts x h = turned (seq (word Comma r) (λ w. giving (event_lang r h) (λ w x rest. (x, event_after h w, rest)))) (member_lang h) (member_reader x h) (member_reader x h) (record {
    to = λ w. w.1;
    spell_to = λ w rest. refl;
    notes_to = λ w. refl;
    from = λ w. (tt, w);
    spell_from = λ w rest. refl;
    notes_from = λ w. refl;
    value = λ w x. x;
    oks = λ ts w x rest e. e;
    errs = λ ts t e. e;
  }) (then (word Comma r) (λ w. giving (event_lang r h) (λ w x rest. (x, event_after h w, rest))) (λ ts. accept_at r ts) (λ rest. event h rest >>= λ e. Ok (x ++ e.0 ∷ [], e.1, e.2)) (accept_facts r Comma (λ ts p. p))
      (λ w u clean. give (event_lang r h) (λ w x rest. (x, event_after h w, rest)) (event h) (λ e. (x ++ e.0 ∷ [], e.1, e.2)) (λ w e. x ++ e ∷ []) (λ w e rest. refl) (events h)))

  abbrev members_all : Here → Lang (List trees.Event) Members NoComma
  members_all h = all_lang member_at member_spell member_notes event_after written.Never member_shape has_comma (next_same Comma) (member_step event r) member_reader member_stepped member_starts member_long h

  abbrev all_reader : Members → Result Members Told
  all_reader s = repeated (member_step event r) (suc (length s.2)) s

  all_read : {P : List Token → Type 0} (x : List trees.Event) (h : Here) → Facts P (members_all h) (λ ts. all_reader (x, h, ts))
  all_read x h = all_facts member_at member_spell member_notes event_after written.Never member_shape has_comma (next_same Comma) (member_step event r) member_reader member_stepped member_starts member_long member_facts x h

  all_same : (n m : ℕ) (ts : List Token) (x : List trees.Event) (h : Here) → length ts < n + n → length ts < m + m → repeated (member_step event r) n (x, h, ts) ≡ repeated (member_step event r) m (x, h, ts)
  all_same n m ts x h = same_steps member_at member_spell member_notes event_after written.Never member_shape has_comma (next_same Comma) (member_step event r) member_reader member_stepped member_starts member_long member_facts n m ts x h

  abbrev some_lang : Here → Lang (List trees.Event) Members NoComma
  some_lang h = seq (event_lang r h) (λ e. members_all (event_after h e))

  abbrev some_reader : Here → List Token → Result Members Told
  some_reader h ts = event h ts >>= λ e. all_reader (e.0 ∷ [], e.1, e.2)

  some_read : {P : List Token → Type 0} (h : Here) → ((ts : List Token) → P ts → Unit {0}) → Facts P (some_lang h) (some_reader h)
  some_read h p = then (event_lang r h) (λ e. members_all (event_after h e)) (event h) (λ e. all_reader (e.0 ∷ [], e.1, e.2)) (under (event_lang r h) (event h) p (events h)) (λ w x clean. all_read (x ∷ []) (event_after h w))

  shorter : (h : Here) (ts : List Token) (y : EventRead) → event h ts ≡ Ok y → length y.2 + 1 ≤ length ts
  shorter h ts y e = ⊎_elim
      (λ one.
      let fine = fine_of (event_lang r h) (event h) one.w one.clean ((events h).reads one.w) in
      let same : Ok (fine.value, event_after h one.w, one.rest) ≡ Ok y = sym (fine.reads one.rest tt) ∙ ap (event h) (sym one.is) ∙ e in
      let rest : length one.rest ≡ length y.2 = ap length_of same in
      let all : length ts ≡ length (event_tokens one.w one.rest) = ap length one.is in
      let n = spelled_length (event_tokens one.w) (event_notes r h one.w) one.rest (event_shape one.w r h) in
      let m = event_long one.w h in
      omega (arith, rest, all, n, m))
      (λ s.
      let same : Err (s.problem, s.back + length s.behind) ≡ Ok y = sym (s.same s.behind (same_front s.behind)) ∙ ap (event h) (sym s.is) ∙ e in
      absurd (no_err (s.problem, s.back + length s.behind) same))
      ((events h).takes ts tt)
    where
      length_of : Result EventRead Told → ℕ
      length_of (Ok z) = length z.2
      length_of (Err t) = 0

      no_err : (t : Told) → ◌≡◌ {A = Result EventRead Told} (Err t) (Ok y) → ⊥
      no_err t e' = cc

  some_is : (h : Here) (ts : List Token) → some_reader h ts ≡ (event h ts >>= λ e. repeated (member_step event r) (length ts) (e.0 ∷ [], e.1, e.2))
  some_is h ts = at_result (event h ts) refl
    where
      at_result : (x : Result EventRead Told) → event h ts ≡ x → (x >>= λ e. all_reader (e.0 ∷ [], e.1, e.2)) ≡ (x >>= λ e. repeated (member_step event r) (length ts) (e.0 ∷ [], e.1, e.2))
      at_result (Err t) e = refl
      at_result (Ok y) e = (let n = shorter h ts y e in all_same (suc (length y.2)) (length ts) y.2 (y.0 ∷ []) y.1 (omega arith) (omega (arith, n)))

  -- up to the closing bracket

  abbrev close_with : Members → Result EventRead Told
  close_with m = expect_at r CloseBracket m.2 >>= λ rest. Ok (trees.Chooses (chain m.0), m.1, rest)

  abbrev closing : Here → Lang trees.Event EventRead Any
  closing h = giving (word CloseBracket r) (λ w x rest. (x, h, rest))

  closes : {P : List Token → Type 0} (x : List trees.Event) (h : Here) → Facts P (closing h) (λ ts. close_with (x, h, ts))
  closes x h = give (word CloseBracket r) (λ w x rest. (x, h, rest)) (λ ts. expect_at r CloseBracket ts) (λ rest. (trees.Chooses (chain x), h, rest)) (λ w u. trees.Chooses (chain x)) (λ w u rest. refl) (expect_facts r CloseBracket)

  abbrev rest_lang : Here → Lang trees.Event EventRead Any
  rest_lang h = seq (some_lang h) (λ w. closing (after_all event_after (event_after h w.0) w.1))

  abbrev body_lang : Here → Lang trees.Event EventRead Any
  body_lang h = either (closing h) (rest_lang h)

  abbrev body_reader : Here → List Token → Result EventRead Told
  body_reader h ts = cond (next_is CloseBracket ts) (close_with ([], h, ts)) (some_reader h ts >>= close_with)

  close_no_comma : (rest : List Token) → NoComma (Fixed CloseBracket ∷ rest)
  unfolding next_is
  close_no_comma rest = refl

  no_close : (w : written.Event) (rest : List Token) → next_is CloseBracket (event_tokens w rest) ≡ false
  unfolding next_is
  no_close (written.Send channel list) rest = refl
  no_close (written.Recv channel) rest = refl
  no_close (written.Always list) rest = refl
  no_close written.Never rest = refl
  no_close (written.Cancelled nack) rest = refl
  no_close (written.Joined process) rest = refl
  no_close (written.Choose members) rest = refl
  no_close (written.Wrap event names list) rest = refl
  no_close (written.Guard body event) rest = refl
  no_close (written.Nack name body event) rest = refl

  body_reads : (h : Here) → Facts Any (body_lang h) (body_reader h)
  body_reads h =
      choose (next_is CloseBracket) (next_same CloseBracket) (closing h) (rest_lang h) (λ ts. close_with ([], h, ts)) (λ ts. some_reader h ts >>= close_with) (λ w rest e. is_next CloseBracket rest) (λ w rest e. no_close w.0.0 _)
      (closes [] h)
      (bind (some_lang h) (λ w. closing (after_all event_after (event_after h w.0) w.1)) (some_reader h) close_with comma_looks (λ w v rest e. close_no_comma rest) (some_read h (λ ts p. tt)) (λ w x clean. closes x (after_all event_after (event_after h w.0) w.1)))

  members_is : (h : Here) (ts : List Token) → body_reader h ts ≡ (members_with event r h ts >>= close_with)
  unfolding members_with
  members_is h ts = ap (λ (y : Result Members Told). cond (next_is CloseBracket ts) (close_with ([], h, ts)) (y >>= close_with)) (some_is h ts) ∙ at_close (next_is CloseBracket ts) (Ok ([], h, ts)) _
    where
      at_close : (b : Bool) (x y : Result Members Told) → cond b (x >>= close_with) (y >>= close_with) ≡ (cond b x y >>= close_with)
      at_close true x y = refl
      at_close false x y = refl

  abbrev to_list : List written.Event → written.Events
  to_list [] = written.NoEvents
  to_list (w ∷ ws) = written.Another w (to_list ws)

  abbrev from_list : written.Events → List written.Event
  from_list written.NoEvents = []
  from_list (written.Another event others) = event ∷ from_list others

  list_spell_to : (ws : List written.Event) (rest : List Token) → more_events_tokens (to_list ws) rest ≡ spell_all member_spell ws rest
  list_spell_to [] rest = refl
  list_spell_to (w ∷ ws) rest = ap (λ (x : List Token). Fixed Comma ∷ event_tokens w x) (list_spell_to ws rest)

  list_notes_to : (ws : List written.Event) (h : Here) → more_events_notes r h (to_list ws) ≡ notes_all member_notes event_after h ws
  unfolding more_events_notes
  list_notes_to [] h = refl
  list_notes_to (w ∷ ws) h = ap (λ (x : List Note). (plain r ∷ event_notes r h w) ++ x) (list_notes_to ws (event_after h w))

  list_spell_from : (m : written.Events) (rest : List Token) → more_events_tokens m rest ≡ spell_all member_spell (from_list m) rest
  list_spell_from written.NoEvents rest = refl
  list_spell_from (written.Another event others) rest = ap (λ (x : List Token). Fixed Comma ∷ event_tokens event x) (list_spell_from others rest)

  list_notes_from : (m : written.Events) (h : Here) → more_events_notes r h m ≡ notes_all member_notes event_after h (from_list m)
  unfolding more_events_notes
  list_notes_from written.NoEvents h = refl
  list_notes_from (written.Another event others) h = ap (λ (x : List Note). (plain r ∷ event_notes r h event) ++ x) (list_notes_from others (event_after h event))

  list_after : (m : written.Events) (h : Here) → after_all event_after h (from_list m) ≡ events_after h m
  unfolding events_after
  list_after written.NoEvents h = refl
  list_after (written.Another event others) h = list_after others (event_after h event)

  abbrev MemberParts : Type 0
  MemberParts = Unit {0} ⊎ ((written.Event × List written.Event) × Unit {0})

  abbrev to_members : MemberParts → written.Events
  to_members (inl w) = written.NoEvents
  to_members (inr w) = written.Another w.0.0 (to_list w.0.1)

  abbrev from_members : written.Events → MemberParts
  from_members written.NoEvents = inl tt
  from_members (written.Another event others) = inr ((event, from_list others), tt)

  members_spell_to : (h : Here) (w : MemberParts) (rest : List Token) → (members_lang r h).spell (to_members w) rest ≡ (body_lang h).spell w rest
  members_spell_to h (inl w) rest = refl
  members_spell_to h (inr w) rest = ap (event_tokens w.0.0) (list_spell_to w.0.1 (Fixed CloseBracket ∷ rest))

  members_notes_to : (h : Here) (w : MemberParts) → (members_lang r h).notes (to_members w) ≡ (body_lang h).notes w
  unfolding events_notes
  members_notes_to h (inl w) = refl
  members_notes_to h (inr w) = ap (λ (x : List Note). (event_notes r h w.0.0 ++ x) ++ plain r ∷ []) (list_notes_to w.0.1 (event_after h w.0.0))

  members_spell_from : (h : Here) (w : written.Events) (rest : List Token) → (members_lang r h).spell w rest ≡ (body_lang h).spell (from_members w) rest
  members_spell_from h written.NoEvents rest = refl
  members_spell_from h (written.Another event others) rest = ap (event_tokens event) (list_spell_from others (Fixed CloseBracket ∷ rest))

  members_notes_from : (h : Here) (w : written.Events) → (members_lang r h).notes w ≡ (body_lang h).notes (from_members w)
  unfolding events_notes
  members_notes_from h written.NoEvents = refl
  members_notes_from h (written.Another event others) = ap (λ (x : List Note). (event_notes r h event ++ x) ++ plain r ∷ []) (list_notes_from others (event_after h event))

  members_joined : (h : Here) (w : written.Events) (x : trees.Event) (rest : List Token) → (body_lang h).join (from_members w) x rest ≡ (x, events_after h w, rest)
  unfolding events_after
  members_joined h written.NoEvents x rest = refl
  members_joined h (written.Another event others) x rest = ap (λ (y : Here). (x, y, rest)) (list_after others (event_after h event))

  pub members_facts : (h : Here) → Facts Any (members_lang r h) (λ ts. members_with event r h ts >>= close_with)
  members_facts h = turned (body_lang h) (members_lang r h) (body_reader h) (λ ts. members_with event r h ts >>= close_with) (record {
    to = to_members;
    spell_to = members_spell_to h;
    notes_to = members_notes_to h;
    from = from_members;
    spell_from = members_spell_from h;
    notes_from = members_notes_from h;
    value = λ w x. x;
    oks = λ ts w x rest e. sym (members_is h ts) ∙ e ∙ ap (λ (y : EventRead). Ok y) (members_joined h w x rest);
    errs = λ ts t e. sym (members_is h ts) ∙ e;
  }) (body_reads h)

-- EVENTS WITH OTHERS INSIDE

module _ (event : ReadsEvent) (block : ReadsBlock) (nesting : ℕ) (events : 0 < nesting → (h : Here) → Facts Any (event_lang (nesting - 1) h) (event h))
    (blocks : 0 < nesting → (h : Here) → Facts Any (block_lang false (nesting - 1) h) (block Forbidden h)) (h : Here) where
  abbrev r : ℕ
  r = nesting - 1

  -- an event as the last of the parts
  abbrev last_event : Here → Lang trees.Event EventRead Any
  last_event g = giving (event_lang r g) (λ w x rest. (x, event_after g w, rest))

  abbrev choose_lang : Lang trees.Event EventRead Any
  choose_lang = seq (word Choose nesting) (λ w. seq (word OpenBracket nesting) (λ v. members_lang r h))

  choose_facts : {P : List Token → Type 0} → ((ts : List Token) → P ts → next_is Choose ts ≡ true) → Facts P choose_lang (λ ts. choose_with event nesting h ts)
  unfolding choose_with
  choose_facts is =
      then (word Choose nesting) (λ w. seq (word OpenBracket nesting) (λ v. members_lang r h)) (λ ts. accept_at nesting ts) (λ rest. expect_at nesting OpenBracket rest >>= λ rest. members_with event r h rest >>= λ m. expect_at r CloseBracket m.2 >>= λ rest. Ok (trees.Chooses (chain m.0), m.1, rest)) (accept_facts nesting Choose is)
      (λ w x clean. then (word OpenBracket nesting) (λ v. members_lang r h) (λ ts. expect_at nesting OpenBracket ts) (λ rest. members_with event r h rest >>= λ m. expect_at r CloseBracket m.2 >>= λ rest. Ok (trees.Chooses (chain m.0), m.1, rest)) (expect_facts nesting OpenBracket)
      (λ v y clean'. members_facts event r (events (some_room nesting (one_clean (plain nesting) clean))) h))

  abbrev wrap_list : Here → Lang trees.Event EventRead Any
  wrap_list g = giving (list_lang r g) (λ w x rest. (x, g, rest))

  abbrev wrap_lang : Lang trees.Event EventRead Any
  wrap_lang = seq (word Wrap nesting) (λ w. seq (event_lang r h) (λ e. seq (as_lang r (event_after h e)) (λ ns. wrap_list (names_after (event_after h e) ns))))

  abbrev wrap_names : EventRead → Result EventRead Told
  wrap_names e = (as_names_at r e.1 e.2 >>= to_with r h) >>= λ n. list_at r n.1 n.2 >>= λ l. Ok (trees.Wraps e.0 n.0 l.0, n.1, l.1)

  wrap_is : (ts : List Token) → (accept_at nesting ts >>= λ rest. event h rest >>= wrap_names) ≡ wrap_with event nesting h ts
  unfolding wrap_with
  wrap_is ts = at_word (accept_at nesting ts)
    where
      wrapped : EventRead → NamesTo → Result EventRead Told
      wrapped e n = list_at r n.1 n.2 >>= λ l. Ok (trees.Wraps e.0 n.0 l.0, n.1, l.1)

      at_to : (e : EventRead) (n : NamesTo) (x : Result (List Token) Told) → (◌>>=◌ {B = NamesTo} x (λ rest. Ok (n.0, n.1, rest)) >>= wrapped e) ≡ (x >>= λ rest. wrapped e (n.0, n.1, rest))
      at_to e n (Ok rest) = refl
      at_to e n (Err t) = refl

      at_as : (e : EventRead) (x : Result NamesTo Told) → ((x >>= to_with r h) >>= wrapped e) ≡ (x >>= λ n. expect_at r To n.2 >>= λ rest. wrapped e (n.0, n.1, rest))
      at_as e (Ok n) = at_to e n (expect_at r To n.2)
      at_as e (Err t) = refl

      named : EventRead → Result EventRead Told
      named e = as_names_at r e.1 e.2 >>= λ n. expect_at r To n.2 >>= λ rest. wrapped e (n.0, n.1, rest)

      at_event : (x : Result EventRead Told) → (x >>= wrap_names) ≡ (x >>= named)
      at_event (Ok e) = at_as e (as_names_at r e.1 e.2)
      at_event (Err t) = refl

      at_word : (x : Result (List Token) Told) → (x >>= λ rest. event h rest >>= wrap_names) ≡ (x >>= λ rest. event h rest >>= named)
      at_word (Ok rest) = at_event (event h rest)
      at_word (Err t) = refl

  wrap_facts : {P : List Token → Type 0} → ((ts : List Token) → P ts → next_is Wrap ts ≡ true) → Facts P wrap_lang (λ ts. wrap_with event nesting h ts)
  wrap_facts is = instead wrap_lang (λ ts. accept_at nesting ts >>= λ rest. event h rest >>= wrap_names) (λ ts. wrap_with event nesting h ts) wrap_is
      (then (word Wrap nesting) (λ w. seq (event_lang r h) (λ e. seq (as_lang r (event_after h e)) (λ ns. wrap_list (names_after (event_after h e) ns)))) (λ ts. accept_at nesting ts) (λ rest. event h rest >>= wrap_names) (accept_facts nesting Wrap is)
      (λ w x clean. then (event_lang r h) (λ e. seq (as_lang r (event_after h e)) (λ ns. wrap_list (names_after (event_after h e) ns))) (event h) wrap_names (events (some_room nesting (one_clean (plain nesting) clean)) h)
      (λ e y c. then (as_lang r (event_after h e)) (λ ns. wrap_list (names_after (event_after h e) ns)) (λ ts. as_names_at r (event_after h e) ts >>= to_with r h) (λ n. list_at r n.1 n.2 >>= λ l. Ok (trees.Wraps y n.0 l.0, n.1, l.1)) (as_facts r (event_after h e))
      (λ ns z c'. let g = names_after (event_after h e) ns in give (list_lang r g) (λ w x rest. (x, g, rest)) (λ ts. list_at r g ts) (λ l. (trees.Wraps y z l.0, g, l.1)) (λ w l. trees.Wraps y z l) (λ w l rest. refl) (list_facts r g)))))

  abbrev guard_lang : Lang trees.Event EventRead Any
  guard_lang = seq (word Guard nesting) (λ w. seq (block_lang false r h) (λ b. last_event (block_after h b)))

  guard_facts : {P : List Token → Type 0} → ((ts : List Token) → P ts → next_is Guard ts ≡ true) → Facts P guard_lang (λ ts. guard_with event block nesting h ts)
  unfolding guard_with
  guard_facts is =
      then (word Guard nesting) (λ w. seq (block_lang false r h) (λ b. last_event (block_after h b))) (λ ts. accept_at nesting ts) (λ rest. block Forbidden h rest >>= λ b. event b.1 b.2 >>= λ e. Ok (trees.Guards b.0 e.0, e.1, e.2)) (accept_facts nesting Guard is)
      (λ w x clean.
      let some = some_room nesting (one_clean (plain nesting) clean) in
      then (block_lang false r h) (λ b. last_event (block_after h b)) (block Forbidden h) (λ b. event b.1 b.2 >>= λ e. Ok (trees.Guards b.0 e.0, e.1, e.2)) (blocks some h)
      (λ b y c. let g = block_after h b in give (event_lang r g) (λ w x rest. (x, event_after g w, rest)) (event g) (λ e. (trees.Guards y e.0, e.1, e.2)) (λ w e. trees.Guards y e) (λ w e rest. refl) (events some g)))

  abbrev nack_lang : Lang trees.Event EventRead Any
  nack_lang = seq (nack_word nesting h) (λ w. seq (bound_name r [] (one_nack h)) (λ n. seq (block_lang false r (bound (one_nack h) n).1) (λ b. last_event (block_after (bound (one_nack h) n).1 b))))

  nack_room : first_fault (nack_note nesting h ∷ []) ≡ None → 0 < nesting
  nack_room clean = at_count (leb 4 h.counts.nacks) refl
    where
      at_count : (b : Bool) → leb 4 h.counts.nacks ≡ b → 0 < nesting
      at_count true e = (let same : ◌≡◌ {A = Note} None (Some (TooMany, 0)) = sym (one_clean (nack_note nesting h) clean) ∙ nack_full nesting h e in absurd cc)
      at_count false e = some_room nesting (sym (nack_left nesting h e) ∙ one_clean (nack_note nesting h) clean)

  nack_facts : {P : List Token → Type 0} → ((ts : List Token) → P ts → next_is Nack ts ≡ true) → Facts P nack_lang (λ ts. nack_with event block nesting h ts)
  unfolding nack_with
  nack_facts is =
      then (nack_word nesting h) (λ w. seq (bound_name r [] (one_nack h)) (λ n. seq (block_lang false r (bound (one_nack h) n).1) (λ b. last_event (block_after (bound (one_nack h) n).1 b)))) (λ ts. nack_word_at nesting h ts)
      (λ w. bind_name_at r [] w.0 w.1 >>= λ n. block Forbidden n.1 n.2 >>= λ b. event b.1 b.2 >>= λ e. Ok (trees.Nacks n.0 b.0 e.0, e.1, e.2)) (nack_word_facts nesting h is)
      (λ w x clean.
      let some = nack_room clean in
      then (bound_name r [] (one_nack h)) (λ n. seq (block_lang false r (bound (one_nack h) n).1) (λ b. last_event (block_after (bound (one_nack h) n).1 b))) (λ ts. bind_name_at r [] (one_nack h) ts)
      (λ n. block Forbidden n.1 n.2 >>= λ b. event b.1 b.2 >>= λ e. Ok (trees.Nacks n.0 b.0 e.0, e.1, e.2)) (bound_name_facts r [] (one_nack h) refl)
      (λ n y c.
      let v = (bound (one_nack h) n).0 in
      let k = (bound (one_nack h) n).1 in
      then (block_lang false r k) (λ b. last_event (block_after k b)) (block Forbidden k) (λ b. event b.1 b.2 >>= λ e. Ok (trees.Nacks v b.0 e.0, e.1, e.2)) (blocks some k)
      (λ b z c'. let g = block_after k b in give (event_lang r g) (λ w x rest. (x, event_after g w, rest)) (event g) (λ e. (trees.Nacks v z e.0, e.1, e.2)) (λ w e. trees.Nacks v z e) (λ w e rest. refl) (events some g))))

  -- ONE OF ALL

  abbrev langs8 : Lang trees.Event EventRead Any
  langs8 = either guard_lang nack_lang

  abbrev langs7 : Lang trees.Event EventRead Any
  langs7 = either wrap_lang langs8

  abbrev langs6 : Lang trees.Event EventRead Any
  langs6 = either choose_lang langs7

  abbrev langs5 : Lang trees.Event EventRead Any
  langs5 = either (joined_lang nesting h) langs6

  abbrev langs4 : Lang trees.Event EventRead Any
  langs4 = either (cancelled_lang nesting h) langs5

  abbrev langs3 : Lang trees.Event EventRead Any
  langs3 = either (never_lang nesting h) langs4

  abbrev langs2 : Lang trees.Event EventRead Any
  langs2 = either (always_lang nesting h) langs3

  abbrev langs1 : Lang trees.Event EventRead Any
  langs1 = either (recv_lang nesting h) langs2

  abbrev langs0 : Lang trees.Event EventRead Any
  langs0 = either (send_lang nesting h) langs1

  abbrev reader9 : List Token → Result EventRead Told
  reader9 ts = cond (next_is Nack ts) (nack_with event block nesting h ts) (stop_at Syntax ts)

  abbrev reader8 : List Token → Result EventRead Told
  reader8 ts = cond (next_is Guard ts) (guard_with event block nesting h ts) (reader9 ts)

  abbrev reader7 : List Token → Result EventRead Told
  reader7 ts = cond (next_is Wrap ts) (wrap_with event nesting h ts) (reader8 ts)

  abbrev reader6 : List Token → Result EventRead Told
  reader6 ts = cond (next_is Choose ts) (choose_with event nesting h ts) (reader7 ts)

  abbrev reader5 : List Token → Result EventRead Told
  reader5 ts = cond (next_is Joined ts) (joined_at nesting h ts) (reader6 ts)

  abbrev reader4 : List Token → Result EventRead Told
  reader4 ts = cond (next_is Cancelled ts) (cancelled_at nesting h ts) (reader5 ts)

  abbrev reader3 : List Token → Result EventRead Told
  reader3 ts = cond (next_is Never ts) (never_at nesting h ts) (reader4 ts)

  abbrev reader2 : List Token → Result EventRead Told
  reader2 ts = cond (next_is Always ts) (always_at nesting h ts) (reader3 ts)

  abbrev reader1 : List Token → Result EventRead Told
  reader1 ts = cond (next_is Recv ts) (recv_at nesting h ts) (reader2 ts)

  abbrev reader0 : List Token → Result EventRead Told
  reader0 ts = cond (next_is Send ts) (send_at nesting h ts) (reader1 ts)

  others0 : (w : (langs1).W) (rest : List Token) → next_is Send ((langs1).spell w rest) ≡ false
  unfolding next_is
  others0 = neither (next_is Send) (recv_lang nesting h) langs2 (λ w rest. refl) (neither (next_is Send) (always_lang nesting h) langs3 (λ w rest. refl) (neither (next_is Send) (never_lang nesting h) langs4 (λ w rest. refl) (neither (next_is Send) (cancelled_lang nesting h) langs5 (λ w rest. refl) (neither (next_is Send) (joined_lang nesting h) langs6 (λ w rest. refl) (neither (next_is Send) choose_lang langs7 (λ w rest. refl) (neither (next_is Send) wrap_lang langs8 (λ w rest. refl) (neither (next_is Send) guard_lang nack_lang (λ w rest. refl) (λ w rest. refl))))))))

  others1 : (w : (langs2).W) (rest : List Token) → next_is Recv ((langs2).spell w rest) ≡ false
  unfolding next_is
  others1 = neither (next_is Recv) (always_lang nesting h) langs3 (λ w rest. refl) (neither (next_is Recv) (never_lang nesting h) langs4 (λ w rest. refl) (neither (next_is Recv) (cancelled_lang nesting h) langs5 (λ w rest. refl) (neither (next_is Recv) (joined_lang nesting h) langs6 (λ w rest. refl) (neither (next_is Recv) choose_lang langs7 (λ w rest. refl) (neither (next_is Recv) wrap_lang langs8 (λ w rest. refl) (neither (next_is Recv) guard_lang nack_lang (λ w rest. refl) (λ w rest. refl)))))))

  others2 : (w : (langs3).W) (rest : List Token) → next_is Always ((langs3).spell w rest) ≡ false
  unfolding next_is
  others2 = neither (next_is Always) (never_lang nesting h) langs4 (λ w rest. refl) (neither (next_is Always) (cancelled_lang nesting h) langs5 (λ w rest. refl) (neither (next_is Always) (joined_lang nesting h) langs6 (λ w rest. refl) (neither (next_is Always) choose_lang langs7 (λ w rest. refl) (neither (next_is Always) wrap_lang langs8 (λ w rest. refl) (neither (next_is Always) guard_lang nack_lang (λ w rest. refl) (λ w rest. refl))))))

  others3 : (w : (langs4).W) (rest : List Token) → next_is Never ((langs4).spell w rest) ≡ false
  unfolding next_is
  others3 = neither (next_is Never) (cancelled_lang nesting h) langs5 (λ w rest. refl) (neither (next_is Never) (joined_lang nesting h) langs6 (λ w rest. refl) (neither (next_is Never) choose_lang langs7 (λ w rest. refl) (neither (next_is Never) wrap_lang langs8 (λ w rest. refl) (neither (next_is Never) guard_lang nack_lang (λ w rest. refl) (λ w rest. refl)))))

  others4 : (w : (langs5).W) (rest : List Token) → next_is Cancelled ((langs5).spell w rest) ≡ false
  unfolding next_is
  others4 = neither (next_is Cancelled) (joined_lang nesting h) langs6 (λ w rest. refl) (neither (next_is Cancelled) choose_lang langs7 (λ w rest. refl) (neither (next_is Cancelled) wrap_lang langs8 (λ w rest. refl) (neither (next_is Cancelled) guard_lang nack_lang (λ w rest. refl) (λ w rest. refl))))

  others5 : (w : (langs6).W) (rest : List Token) → next_is Joined ((langs6).spell w rest) ≡ false
  unfolding next_is
  others5 = neither (next_is Joined) choose_lang langs7 (λ w rest. refl) (neither (next_is Joined) wrap_lang langs8 (λ w rest. refl) (neither (next_is Joined) guard_lang nack_lang (λ w rest. refl) (λ w rest. refl)))

  others6 : (w : (langs7).W) (rest : List Token) → next_is Choose ((langs7).spell w rest) ≡ false
  unfolding next_is
  others6 = neither (next_is Choose) wrap_lang langs8 (λ w rest. refl) (neither (next_is Choose) guard_lang nack_lang (λ w rest. refl) (λ w rest. refl))

  others7 : (w : (langs8).W) (rest : List Token) → next_is Wrap ((langs8).spell w rest) ≡ false
  unfolding next_is
  others7 = neither (next_is Wrap) guard_lang nack_lang (λ w rest. refl) (λ w rest. refl)

  others8 : (w : (nack_lang).W) (rest : List Token) → next_is Guard ((nack_lang).spell w rest) ≡ false
  unfolding next_is
  others8 = λ w rest. refl

  reads9 : {P : List Token → Type 0} → Facts P nack_lang reader9
  reads9 = or_stop (next_is Nack) (next_same Nack) nack_lang (λ ts. nack_with event block nesting h ts) (λ w rest. is_next Nack _) (nack_facts (λ ts p. p.1))

  reads8 : {P : List Token → Type 0} → Facts P langs8 reader8
  reads8 = choose (next_is Guard) (next_same Guard) guard_lang nack_lang (λ ts. guard_with event block nesting h ts) reader9 (λ w rest e. is_next Guard _) (λ w rest e. others8 w rest) (guard_facts (λ ts p. p.1)) reads9

  reads7 : {P : List Token → Type 0} → Facts P langs7 reader7
  reads7 = choose (next_is Wrap) (next_same Wrap) wrap_lang langs8 (λ ts. wrap_with event nesting h ts) reader8 (λ w rest e. is_next Wrap _) (λ w rest e. others7 w rest) (wrap_facts (λ ts p. p.1)) reads8

  reads6 : {P : List Token → Type 0} → Facts P langs6 reader6
  reads6 = choose (next_is Choose) (next_same Choose) choose_lang langs7 (λ ts. choose_with event nesting h ts) reader7 (λ w rest e. is_next Choose _) (λ w rest e. others6 w rest) (choose_facts (λ ts p. p.1)) reads7

  reads5 : {P : List Token → Type 0} → Facts P langs5 reader5
  reads5 = choose (next_is Joined) (next_same Joined) (joined_lang nesting h) langs6 (λ ts. joined_at nesting h ts) reader6 (λ w rest e. is_next Joined _) (λ w rest e. others5 w rest) (joined_facts nesting h (λ ts p. p.1)) reads6

  reads4 : {P : List Token → Type 0} → Facts P langs4 reader4
  reads4 = choose (next_is Cancelled) (next_same Cancelled) (cancelled_lang nesting h) langs5 (λ ts. cancelled_at nesting h ts) reader5 (λ w rest e. is_next Cancelled _) (λ w rest e. others4 w rest) (cancelled_facts nesting h (λ ts p. p.1)) reads5

  reads3 : {P : List Token → Type 0} → Facts P langs3 reader3
  reads3 = choose (next_is Never) (next_same Never) (never_lang nesting h) langs4 (λ ts. never_at nesting h ts) reader4 (λ w rest e. is_next Never _) (λ w rest e. others3 w rest) (never_facts nesting h (λ ts p. p.1)) reads4

  reads2 : {P : List Token → Type 0} → Facts P langs2 reader2
  reads2 = choose (next_is Always) (next_same Always) (always_lang nesting h) langs3 (λ ts. always_at nesting h ts) reader3 (λ w rest e. is_next Always _) (λ w rest e. others2 w rest) (always_facts nesting h (λ ts p. p.1)) reads3

  reads1 : {P : List Token → Type 0} → Facts P langs1 reader1
  reads1 = choose (next_is Recv) (next_same Recv) (recv_lang nesting h) langs2 (λ ts. recv_at nesting h ts) reader2 (λ w rest e. is_next Recv _) (λ w rest e. others1 w rest) (recv_facts nesting h (λ ts p. p.1)) reads2

  reads0 : {P : List Token → Type 0} → Facts P langs0 reader0
  reads0 = choose (next_is Send) (next_same Send) (send_lang nesting h) langs1 (λ ts. send_at nesting h ts) reader1 (λ w rest e. is_next Send _) (λ w rest e. others0 w rest) (send_facts nesting h (λ ts p. p.1)) reads1

  abbrev to_event : langs0.W → written.Event
  to_event (inl w) = written.Send w.1.0 w.1.1
  to_event (inr (inl w)) = written.Recv w.1
  to_event (inr (inr (inl w))) = written.Always w.1
  to_event (inr (inr (inr (inl w)))) = written.Never
  to_event (inr (inr (inr (inr (inl w))))) = written.Cancelled w.1
  to_event (inr (inr (inr (inr (inr (inl w)))))) = written.Joined w.1
  to_event (inr (inr (inr (inr (inr (inr (inl w))))))) = written.Choose w.1.1
  to_event (inr (inr (inr (inr (inr (inr (inr (inl w)))))))) = written.Wrap w.1.0 w.1.1.0 w.1.1.1
  to_event (inr (inr (inr (inr (inr (inr (inr (inr (inl w))))))))) = written.Guard w.1.0 w.1.1
  to_event (inr (inr (inr (inr (inr (inr (inr (inr (inr w))))))))) = written.Nack w.1.0 w.1.1.0 w.1.1.1

  abbrev from_event : written.Event → langs0.W
  from_event (written.Send channel list) = inl (tt, (channel, list))
  from_event (written.Recv channel) = inr (inl (tt, channel))
  from_event (written.Always list) = inr (inr (inl (tt, list)))
  from_event written.Never = inr (inr (inr (inl tt)))
  from_event (written.Cancelled nack) = inr (inr (inr (inr (inl (tt, nack)))))
  from_event (written.Joined process) = inr (inr (inr (inr (inr (inl (tt, process))))))
  from_event (written.Choose members) = inr (inr (inr (inr (inr (inr (inl (tt, (tt, members))))))))
  from_event (written.Wrap inner names list) = inr (inr (inr (inr (inr (inr (inr (inl (tt, (inner, (names, list))))))))))
  from_event (written.Guard body inner) = inr (inr (inr (inr (inr (inr (inr (inr (inl (tt, (body, inner))))))))))
  from_event (written.Nack name body inner) = inr (inr (inr (inr (inr (inr (inr (inr (inr (tt, (name, (body, inner)))))))))))

  event_spell_to : (w : langs0.W) (rest : List Token) → event_tokens (to_event w) rest ≡ langs0.spell w rest
  event_spell_to (inl w) rest = refl
  event_spell_to (inr (inl w)) rest = refl
  event_spell_to (inr (inr (inl w))) rest = refl
  event_spell_to (inr (inr (inr (inl w)))) rest = refl
  event_spell_to (inr (inr (inr (inr (inl w))))) rest = refl
  event_spell_to (inr (inr (inr (inr (inr (inl w)))))) rest = refl
  event_spell_to (inr (inr (inr (inr (inr (inr (inl w))))))) rest = refl
  event_spell_to (inr (inr (inr (inr (inr (inr (inr (inl w)))))))) rest = refl
  event_spell_to (inr (inr (inr (inr (inr (inr (inr (inr (inl w))))))))) rest = refl
  event_spell_to (inr (inr (inr (inr (inr (inr (inr (inr (inr w))))))))) rest = refl

  event_notes_to : (w : langs0.W) → event_notes nesting h (to_event w) ≡ langs0.notes w
  unfolding event_notes
  event_notes_to (inl w) = refl
  event_notes_to (inr (inl w)) = refl
  event_notes_to (inr (inr (inl w))) = refl
  event_notes_to (inr (inr (inr (inl w)))) = refl
  event_notes_to (inr (inr (inr (inr (inl w))))) = refl
  event_notes_to (inr (inr (inr (inr (inr (inl w)))))) = refl
  event_notes_to (inr (inr (inr (inr (inr (inr (inl w))))))) = refl
  event_notes_to (inr (inr (inr (inr (inr (inr (inr (inl w)))))))) = refl
  event_notes_to (inr (inr (inr (inr (inr (inr (inr (inr (inl w))))))))) = refl
  event_notes_to (inr (inr (inr (inr (inr (inr (inr (inr (inr w))))))))) = refl

  event_spell_from : (w : written.Event) (rest : List Token) → event_tokens w rest ≡ langs0.spell (from_event w) rest
  event_spell_from (written.Send channel list) rest = refl
  event_spell_from (written.Recv channel) rest = refl
  event_spell_from (written.Always list) rest = refl
  event_spell_from written.Never rest = refl
  event_spell_from (written.Cancelled nack) rest = refl
  event_spell_from (written.Joined process) rest = refl
  event_spell_from (written.Choose members) rest = refl
  event_spell_from (written.Wrap inner names list) rest = refl
  event_spell_from (written.Guard body inner) rest = refl
  event_spell_from (written.Nack name body inner) rest = refl

  event_notes_from : (w : written.Event) → event_notes nesting h w ≡ langs0.notes (from_event w)
  unfolding event_notes
  event_notes_from (written.Send channel list) = refl
  event_notes_from (written.Recv channel) = refl
  event_notes_from (written.Always list) = refl
  event_notes_from written.Never = refl
  event_notes_from (written.Cancelled nack) = refl
  event_notes_from (written.Joined process) = refl
  event_notes_from (written.Choose members) = refl
  event_notes_from (written.Wrap inner names list) = refl
  event_notes_from (written.Guard body inner) = refl
  event_notes_from (written.Nack name body inner) = refl

  event_joined : (w : written.Event) (x : trees.Event) (rest : List Token) → langs0.join (from_event w) x rest ≡ (x, event_after h w, rest)
  unfolding event_after
  event_joined (written.Send channel list) x rest = refl
  event_joined (written.Recv channel) x rest = refl
  event_joined (written.Always list) x rest = refl
  event_joined written.Never x rest = refl
  event_joined (written.Cancelled nack) x rest = refl
  event_joined (written.Joined process) x rest = refl
  event_joined (written.Choose members) x rest = refl
  event_joined (written.Wrap inner names list) x rest = refl
  event_joined (written.Guard body inner) x rest = refl
  event_joined (written.Nack name body inner) x rest = refl

  pub event_facts : Facts Any (event_lang nesting h) (λ ts. event_with event block nesting h ts)
  unfolding event_with
  event_facts = turned langs0 (event_lang nesting h) reader0 (λ ts. event_with event block nesting h ts) (record {
    to = to_event;
    spell_to = event_spell_to;
    notes_to = event_notes_to;
    from = from_event;
    spell_from = event_spell_from;
    notes_from = event_notes_from;
    value = λ w x. x;
    oks = λ ts w x rest e. e ∙ ap (λ (y : EventRead). Ok y) (event_joined w x rest);
    errs = λ ts t e. e;
  }) reads0
