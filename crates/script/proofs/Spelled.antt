-- Declarations, processes and texts: what is written is read, and what is read was written.
use Rattle.std.proofs.Common.{◌≡◌, ℕ, zero, suc, ◌<◌, ◌≤◌, Bool, true, false, cond, ◌||◌, eqb, ltb, leb, List, [], ◌∷◌, ◌++◌, length, Some, None, Result, Ok, Err, IfOk, IfErr, OnOk, is_some, refl, sym, ap, ap₂, ◌∙◌, subst, arith, tests, append_assoc}
use Rattle.std.proofs.lemmas.Bool.Decides.{nat_tests}
use Rattle.std.proofs.lemmas.List.{append-nil}
use Rattle.script_token.specs.Tokens.{Token, Fixed, Name}
use Rattle.script_token.specs.declared.kind.Symbol.TheVariants.{Channel, Process, Semicolon}
use Rattle.script_tree.specs.Trees as trees
use Rattle.script_tree.specs.Processes.{Proc}
use Rattle.script_grammar.specs.Meaning.{place, if_some, Names, block_meaning, declare, channels_meaning, processes_meaning, first_names}
use Rattle.script_reader.specs.Steps.{Told, ◌>>=◌, repeated, name_at, next_is, accept_at, expect_at, Here, start}
use Rattle.script_reader.proofs.Keeping.{bound_ok, ok_is, no_ok, if_ok, some_ok}
use Rattle.script_grammar.specs.Written as written
use Rattle.script_grammar.specs.Written.{block_tokens, channels_tokens, processes_tokens, script_tokens}
use Rattle.script_grammar.specs.Depths.{block_depth, processes_depth, script_depth}
use Rattle.script_reader.specs.Laws.{names_at, at}
use Rattle.script_reader.proofs.ReadFronts.{accept_ok, expect_ok, is_next, next_found, name_found, accept_found, expect_found, no_step, one_step}
use Rattle.script_grammar.proofs.Parts.{part, some_is, unless_some}
use Rattle.script_reader.proofs.ReadNames.{neither}
use Rattle.script_grammar.proofs.Growing.{block_grows}
use Rattle.script_reader.specs.Blocks.{block_at}
use Rattle.script.specs.Scripts.{Script, proc_from, declare_at, channel_next, channel_step, channels_at, Drawn, process_next, process_step, processes_at, script_at, tokens_of, with_line, text_at, script_of, Answers}
use Rattle.script.specs.Spelling.{script_meaning, Spells, SpellsOnlyOne, SpellsNothing, Refuses}
use Rattle.script.specs.declared.script.Script.{Script as SeenScript}
use Rattle.script_reader.specs.declared.fault.Problem.TheVariants.{Syntax, UnknownName, Twice, TooMany, LoopWithoutSync}
use Rattle.script_reader.specs.declared.process.Loops.TheVariants.{Allowed}
use Rattle.script.specs.declared.fault.ScriptFault.{ScriptFault}
use Rattle.script.specs.declared.fault.ScriptFault.TheVariants as faults
use Rattle.script_grammar.proofs.Spawning.{block_spawns}
use Rattle.script_reader.proofs.Found.{blocks_found}
use Rattle.script_reader.proofs.Again.{no_counts, block_again, body_longer}

le_self : (n : ℕ) → n ≤ n
le_self n = omega arith

-- DECLARED NAMES

declare_again : (limit : ℕ) (names : List (List ℕ)) (text : List ℕ) (new : List (List ℕ)) (rest : List Token) → declare limit names text ≡ Some new → declare_at limit names (Name text ∷ rest) ≡ Ok (text, new, rest)
unfolding declare declare_at
declare_again limit names text new rest e =
    unless_some (is_some (place text names) || (leb limit (length names) || ltb 32 (length text))) _ new e
    (λ may f.
    let parts = neither (is_some (place text names)) (leb limit (length names) || ltb 32 (length text)) may in
    rw (parts.0, parts.1, accept_ok 49 (Name text) rest (omega arith)) (ap (λ (y : List (List ℕ)). Ok (text, y, rest)) (some_is _ _ f)))

record SpellsDeclared (limit : ℕ) (names : List (List ℕ)) (ts : List Token) (text : List ℕ) (new : List (List ℕ)) (rest : List Token) : Type 0 where
  tokens : ts ≡ Name text ∷ rest
  meaning : declare limit names text ≡ Some new

declared_found : (limit : ℕ) (names : List (List ℕ)) (ts : List Token) (x : List ℕ × List (List ℕ) × List Token) → declare_at limit names ts ≡ Ok x → SpellsDeclared limit names ts x.0 x.1 x.2
unfolding declare declare_at
declared_found limit names ts x e =
    some_ok (name_at ts) _ _ x e
    (λ text is f. if_ok (is_some (place text names)) _ _ x f
    (λ _ g. no_ok _ _ g)
    (λ new g. if_ok (leb limit (length names) || ltb 32 (length text)) _ _ x g
    (λ _ k. no_ok _ _ k)
    (λ few k.
    let a = bound_ok (accept_at 49 ts) _ x k in
    let t = accept_found 49 (Name text) ts a.first (name_found ts text is) a.is in
    subst (λ (y : List ℕ × List (List ℕ) × List Token). SpellsDeclared limit names ts y.0 y.1 y.2) (ok_is _ _ a.then) (record { tokens = t.is; meaning = rw (new, few) refl }))))
    (λ f. no_ok _ _ f)

-- CHANNELS

abbrev Channels : Type 0
Channels = List (List ℕ) × List Token

record SpellsChannels (s x : Channels) : Type 0 where
  texts : List (List ℕ)
  tokens : s.1 ≡ channels_tokens texts x.1
  meaning : channels_meaning s.0 texts ≡ Some x.0

no_channels : (s : Channels) → SpellsChannels s s
unfolding channels_meaning
no_channels s = record { texts = []; tokens = refl; meaning = refl }

one_channel : (s t x : Channels) → next_is Channel s.1 ≡ true → channel_next s ≡ Ok t → SpellsChannels t x → SpellsChannels s x
unfolding channels_meaning channel_next
one_channel s t x is e more =
    let a = bound_ok (accept_at 49 s.1) _ t e in
    let word = accept_found 49 (Fixed Channel) s.1 a.first (next_found Channel s.1 is) a.is in
    let c = bound_ok (declare_at 256 s.0 a.first) _ t a.then in
    let name = declared_found 256 s.0 a.first c.first c.is in
    let r = bound_ok (expect_at 49 Semicolon c.first.2) _ t c.then in
    let close = expect_found 49 Semicolon c.first.2 r.first r.is in
    let same : (c.first.1, r.first) ≡ t = ok_is _ _ r.then in
    record {
      texts = c.first.0 ∷ more.texts;
      tokens = word.is ∙ ap (λ (y : List Token). Fixed Channel ∷ y) (name.tokens ∙ ap (λ (y : List Token). Name c.first.0 ∷ y) (close.is ∙ ap (λ (y : List Token). Fixed Semicolon ∷ y) (ap (λ (y : Channels). y.1) same ∙ more.tokens)));
      meaning = rw name.meaning (ap (λ (y : Channels). channels_meaning y.0 more.texts) same ∙ more.meaning);
    }

channels_found : (n : ℕ) (s x : Channels) → repeated channel_step n s ≡ Ok x → SpellsChannels s x
unfolding repeated
channels_found zero s x e = subst (SpellsChannels s) (ok_is _ _ e) (no_channels s)
channels_found (suc n) s x e = at_word (λ t f. channels_found n t x f) (next_is Channel s.1) refl e
  where
    at_word : ((t : Channels) → repeated channel_step n t ≡ Ok x → SpellsChannels t x)
        → (v : Bool) → next_is Channel s.1 ≡ v → if_some (cond v (Some (channel_next s)) None) (λ r. r >>= repeated channel_step n) (Ok s) ≡ Ok x → SpellsChannels s x
    at_word next true is f = (let m = bound_ok (channel_next s) _ x f in one_channel s m.first x is m.is (next m.first m.then))
    at_word next false is f = subst (SpellsChannels s) (ok_is _ _ f) (no_channels s)

channels_longer : (texts : List (List ℕ)) (rest : List Token) → length rest ≤ length (channels_tokens texts rest)
channels_longer [] rest = omega arith
channels_longer (text ∷ texts) rest = (let a = channels_longer texts rest in omega (arith, a))

no_channel : (ps : List written.Process) → next_is Channel (processes_tokens ps) ≡ false
unfolding next_is
no_channel [] = refl
no_channel (p ∷ ps) = refl

channels_again : (texts : List (List ℕ)) (names new : List (List ℕ)) (rest : List Token) (n : ℕ) → channels_meaning names texts ≡ Some new → next_is Channel rest ≡ false → length (channels_tokens texts rest) ≤ n
    → repeated channel_step n (names, channels_tokens texts rest) ≡ Ok (new, rest)
unfolding channels_meaning channel_next
channels_again [] names new rest n e last fuel = no_step channel_step n (names, rest) (rw last refl) ∙ ap (λ (y : List (List ℕ)). Ok (y, rest)) (some_is _ _ e)
channels_again (text ∷ texts) names new rest zero e last fuel = absurd (omega (arith, fuel))
channels_again (text ∷ texts) names new rest (suc n) e last fuel =
    let a = part (declare 256 names text) _ new e in
    let behind = channels_tokens texts rest in
    let step : channel_step (names, channels_tokens (text ∷ texts) rest) ≡ Some (Ok (a.first, behind)) =
    rw (is_next Channel (Name text ∷ Fixed Semicolon ∷ behind), accept_ok 49 (Fixed Channel) (Name text ∷ Fixed Semicolon ∷ behind) (omega arith), declare_again 256 names text a.first (Fixed Semicolon ∷ behind) a.is, expect_ok 49 Semicolon behind (omega arith)) refl in
    one_step channel_step n _ _ _ step (channels_again texts a.first new rest n a.then last (omega (arith, fuel)))

-- PROCESSES

record SpellsProcesses (channels : List (List ℕ)) (s x : Drawn) : Type 0 where
  written : List written.Process
  list : List Proc
  tokens : s.2 ≡ processes_tokens written
  depth : processes_depth written ≤ 48
  meaning : processes_meaning channels s.1.processes s.1.spawned written ≡ Some list
  value : s.0 ++ list ≡ x.0
  same : x.1.channels ≡ channels

is_empty : (ts : List Token) → length ts ≤ 0 → ts ≡ []
is_empty [] h = refl
is_empty (t ∷ ts) h = absurd (omega (arith, h))

no_processes : (channels : List (List ℕ)) (s : Drawn) → length s.2 ≤ 0 → s.1.channels ≡ channels → SpellsProcesses channels s s
unfolding processes_meaning
no_processes channels s h e = record { written = []; list = []; tokens = is_empty s.2 h; depth = omega arith; meaning = refl; value = append-nil s.0; same = e }

processes_more : (channels names new : List (List ℕ)) (spawned : List ℕ) (p : written.Process) (ps : List written.Process) (b : trees.Block × Names) (qs : List Proc)
    → declare 64 names p.name ≡ Some new → block_meaning true (first_names channels names spawned) p.body ≡ Some b → processes_meaning channels new b.1.spawned ps ≡ Some qs
    → processes_meaning channels names spawned (p ∷ ps) ≡ Some (record { name = p.name; body = b.0; variables = b.1.variables; channels = length channels; earlier = length names } ∷ qs)
unfolding processes_meaning
processes_more channels names new spawned p ps b qs declared meant more = rw (declared, meant, more) refl

one_process : (channels : List (List ℕ)) (n : ℕ) (s x : Drawn) → length s.2 ≤ suc n → s.1.channels ≡ channels → (t : Drawn) → process_next s ≡ Ok t
    → (length t.2 ≤ n → t.1.channels ≡ channels → SpellsProcesses channels t x) → SpellsProcesses channels s x
unfolding processes_meaning process_next
one_process channels n s x fuel same t e next =
    let names = s.1.processes in
    let spawned = s.1.spawned in
    let a = bound_ok (expect_at 49 Process s.2) _ t e in
    let word = expect_found 49 Process s.2 a.first a.is in
    let c = bound_ok (declare_at 64 names a.first) _ t a.then in
    let name = declared_found 64 names a.first c.first c.is in
    let b = bound_ok (block_at 49 Allowed (start s.1.channels names spawned) c.first.2) _ t c.then in
    let body' = blocks_found 49 Allowed (start s.1.channels names spawned) c.first.2 b.first b.is in
    let meant : block_meaning true (first_names channels names spawned) body'.body ≡ Some (b.first.0, names_at b.first.1) = ap (λ (y : List (List ℕ)). block_meaning true (first_names y names spawned) body'.body) (sym same) ∙ body'.meaning in
    let grows = block_grows body'.body true (first_names channels names spawned) (b.first.0, names_at b.first.1) meant in
    let stay = block_spawns body'.body true (first_names channels names spawned) (b.first.0, names_at b.first.1) meant in
    let whole : (s.0 ++ proc_from c.first.0 b.first.0 b.first.1 ∷ [], record b.first.1 { processes = c.first.1 }, b.first.2) ≡ t = ok_is _ _ b.then in
    let tokens : s.2 ≡ Fixed Process ∷ Name c.first.0 ∷ block_tokens body'.body b.first.2 = word.is ∙ ap (λ (y : List Token). Fixed Process ∷ y) (name.tokens ∙ ap (λ (y : List Token). Name c.first.0 ∷ y) body'.tokens) in
    let shorter : length b.first.2 ≤ n = omega (arith, fuel, ap length tokens, body_longer body'.body b.first.2) in
    let proc = proc_from c.first.0 b.first.0 b.first.1 in
    let next' : length b.first.2 ≤ n → b.first.1.channels ≡ channels → SpellsProcesses channels (s.0 ++ proc ∷ [], record b.first.1 { processes = c.first.1 }, b.first.2) x =
    subst (λ (y : Drawn). length y.2 ≤ n → y.1.channels ≡ channels → SpellsProcesses channels y x) (sym whole) next in
    let more = next' shorter grows.channels in
    record {
      written = record { name = c.first.0; body = body'.body } ∷ more.written;
      list = proc ∷ more.list;
      tokens = tokens ∙ ap (λ (y : List Token). Fixed Process ∷ Name c.first.0 ∷ block_tokens body'.body y) more.tokens;
      depth = omega (arith, body'.depth, more.depth);
      meaning = processes_more channels names c.first.1 spawned (record { name = c.first.0; body = body'.body }) more.written (b.first.0, names_at b.first.1) more.list name.meaning meant more.meaning
          ∙ (ap₂ (λ (y z : List (List ℕ)). Some (record { name = c.first.0; body = b.first.0; variables = b.first.1.variables; channels = length y; earlier = length z } ∷ more.list)) (sym grows.channels) (sym stay.processes));
      value = sym (append_assoc s.0 (proc ∷ []) more.list) ∙ more.value;
      same = more.same;
    }

empty_is : (n : ℕ) → eqb n 0 ≡ true → n ≤ 0
empty_is n e = grind (arith, nat_tests)

processes_found : (channels : List (List ℕ)) (n : ℕ) (s x : Drawn) → length s.2 ≤ n → s.1.channels ≡ channels → repeated process_step n s ≡ Ok x → SpellsProcesses channels s x
unfolding repeated
processes_found channels zero s x fuel same e = subst (SpellsProcesses channels s) (ok_is _ _ e) (no_processes channels s fuel same)
processes_found channels (suc n) s x fuel same e = at_end (λ t f g h. processes_found channels n t x f g h) (eqb (length s.2) 0) refl e
  where
    at_end : ((t : Drawn) → length t.2 ≤ n → t.1.channels ≡ channels → repeated process_step n t ≡ Ok x → SpellsProcesses channels t x)
        → (v : Bool) → eqb (length s.2) 0 ≡ v → if_some (cond v None (Some (process_next s))) (λ r. r >>= repeated process_step n) (Ok s) ≡ Ok x → SpellsProcesses channels s x
    at_end next true is f = subst (SpellsProcesses channels s) (ok_is _ _ f) (no_processes channels s (empty_is (length s.2) is) same)
    at_end next false is f =
        let m = bound_ok (process_next s) _ x f in
        one_process channels n s x fuel same m.first m.is (λ g h. next m.first g h m.then)

process_reads : (acc : List Proc) (new channels : List (List ℕ)) (h : Here) (p : written.Process) (b : trees.Block × Names) (rest : List Token)
    → h.channels ≡ channels → declare 64 h.processes p.name ≡ Some new → block_meaning true (first_names channels h.processes h.spawned) p.body ≡ Some b → block_depth p.body < 49
    → process_step (acc, h, Fixed Process ∷ Name p.name ∷ block_tokens p.body rest) ≡ Some (Ok (acc ++ proc_from p.name b.0 (at b.1 no_counts) ∷ [], record (at b.1 no_counts) { processes = new }, rest))
unfolding process_next
process_reads acc new channels h p b rest same declared meant deep =
    let block : block_at 49 Allowed (start h.channels h.processes h.spawned) (block_tokens p.body rest) ≡ Ok (b.0, at b.1 no_counts, rest) =
    ap (λ (y : List (List ℕ)). block_at 49 Allowed (start y h.processes h.spawned) (block_tokens p.body rest)) same ∙ block_again p.body (first_names channels h.processes h.spawned) no_counts b rest deep meant in
    rw (some_left p rest, expect_ok 49 Process (Name p.name ∷ block_tokens p.body rest) (omega arith), declare_again 64 h.processes p.name new (block_tokens p.body rest) declared, block) refl
  where
    some_left : (p : written.Process) (rest : List Token) → eqb (length (Fixed Process ∷ Name p.name ∷ block_tokens p.body rest)) 0 ≡ false
    some_left p rest = (let n = length (Name p.name ∷ block_tokens p.body rest) in let is : eqb (suc n) 0 ≡ false = search (arith, tests) in is)

record ProcessesAgain (channels : List (List ℕ)) (n : ℕ) (s : Drawn) (qs : List Proc) : Type 0 where
  after : Drawn
  reads : repeated process_step n s ≡ Ok after
  value : s.0 ++ qs ≡ after.0
  same : after.1.channels ≡ channels

processes_again : (ps : List written.Process) (channels : List (List ℕ)) (acc qs : List Proc) (h : Here) (n : ℕ) → h.channels ≡ channels → processes_depth ps ≤ 48 → processes_meaning channels h.processes h.spawned ps ≡ Some qs → length (processes_tokens ps) ≤ n
    → ProcessesAgain channels n (acc, h, processes_tokens ps) qs
unfolding processes_meaning
processes_again [] channels acc qs h n same deep e fuel = record {
  after = (acc, h, []);
  reads = no_step process_step n (acc, h, []) refl;
  value = ap (λ (y : List Proc). acc ++ y) (sym (some_is _ _ e)) ∙ append-nil acc;
  same = same;
}
processes_again (p ∷ ps) channels acc qs h zero same deep e fuel = absurd (omega (arith, fuel))
processes_again (p ∷ ps) channels acc qs h (suc n) same deep e fuel =
    let names = h.processes in
    let first = first_names channels names h.spawned in
    let d = part (declare 64 names p.name) _ qs e in
    let b = part (block_meaning true first p.body) _ qs d.then in
    let o = part (processes_meaning channels d.first b.first.1.spawned ps) _ qs b.then in
    let rest = processes_tokens ps in
    let grows = block_grows p.body true first b.first b.is in
    let stay = block_spawns p.body true first b.first b.is in
    let proc = proc_from p.name b.first.0 (at b.first.1 no_counts) in
    let step = process_reads acc d.first channels h p b.first rest same d.is b.is (omega (arith, deep)) in
    let more = processes_again ps channels (acc ++ proc ∷ []) o.first (record (at b.first.1 no_counts) { processes = d.first }) n grows.channels (omega (arith, deep)) o.is (omega (arith, fuel, body_longer p.body rest)) in
    let counted : proc ∷ o.first ≡ qs = ap₂ (λ (y z : List (List ℕ)). record { name = p.name; body = b.first.0; variables = b.first.1.variables; channels = length y; earlier = length z } ∷ o.first) grows.channels stay.processes ∙ some_is _ _ o.then in
    record {
      after = more.after;
      reads = one_step process_step n _ _ _ step more.reads;
      value = ap (λ (y : List Proc). acc ++ y) (sym counted) ∙ sym (append_assoc acc (proc ∷ []) o.first) ∙ more.value;
      same = more.same;
    }

-- SCRIPTS

pub record SpellsScript (ts : List Token) (s : Script) : Type 0 where
  pub written : written.Script
  pub tokens : ts ≡ script_tokens written
  pub depth : script_depth written ≤ 48
  pub meaning : script_meaning written ≡ Some s

pub script_found : (ts : List Token) (s : Script) → script_at ts ≡ Ok s → SpellsScript ts s
unfolding script_at channels_at processes_at script_meaning
script_found ts s e =
    let c = bound_ok (repeated channel_step (length ts) ([], ts)) _ s e in
    let channels = channels_found (length ts) ([], ts) c.first c.is in
    let p = bound_ok (repeated process_step (length c.first.1) ([], start c.first.0 [] [], c.first.1)) _ s c.then in
    let processes = processes_found c.first.0 (length c.first.1) ([], start c.first.0 [] [], c.first.1) p.first (le_self (length c.first.1)) refl p.is in
    subst (SpellsScript ts) (ok_is _ _ p.then) (record {
      written = record { channels = channels.texts; processes = processes.written };
      tokens = channels.tokens ∙ ap (channels_tokens channels.texts) processes.tokens;
      depth = processes.depth;
      meaning = rw (channels.meaning, processes.meaning) (ap₂ (λ (cs : List (List ℕ)) (ps : List Proc). Some (record { channels = cs; processes = ps })) (sym processes.same) processes.value);
    })

script_again : (w : written.Script) (s : Script) → script_depth w ≤ 48 → script_meaning w ≡ Some s → script_at (script_tokens w) ≡ Ok s
unfolding script_at channels_at processes_at script_meaning
script_again w s deep e =
    let c = part (channels_meaning [] w.channels) _ s e in
    let p = part (processes_meaning c.first [] [] w.processes) _ s c.then in
    let rest = processes_tokens w.processes in
    let channels = channels_again w.channels [] c.first rest (length (script_tokens w)) c.is (no_channel w.processes) (le_self (length (script_tokens w))) in
    let processes = processes_again w.processes c.first [] p.first (start c.first [] []) (length rest) refl deep p.is (le_self (length rest)) in
    rw (channels, processes.reads) (ap₂ (λ (cs : List (List ℕ)) (ps : List Proc). Ok (record { channels = cs; processes = ps })) processes.same (sym processes.value) ∙ ap Ok (some_is _ _ p.then))

-- TEXTS

is_ok : (bytes : List ℕ) (r : Result Script Told) (s : Script) → with_line bytes r ≡ Ok s → r ≡ Ok s
is_ok bytes (Ok t) s e = (let same : t ≡ s = cc in ap Ok same)
is_ok bytes (Err told) s e = absurd cc

pub spells_found : (bytes : List ℕ) (s : Script) → text_at bytes ≡ Ok s → Spells bytes s
unfolding text_at
spells_found bytes s e =
    at_length (ltb 65536 (length bytes)) e
  where
    at_length : (v : Bool) → cond v (Err faults.TooLong) (with_line bytes (script_at (tokens_of bytes))) ≡ Ok s → Spells bytes s
    at_length true f = absurd cc
    at_length false f = (let w = script_found (tokens_of bytes) s (is_ok bytes (script_at (tokens_of bytes)) s f) in record { written = w.written; tokens = w.tokens; depth = w.depth; meaning = w.meaning })

pub short_text : (bytes : List ℕ) (s : Script) → text_at bytes ≡ Ok s → length bytes ≤ 65536
unfolding text_at
short_text bytes s e =
    at_length (ltb 65536 (length bytes)) refl e
  where
    at_length : (v : Bool) → ltb 65536 (length bytes) ≡ v → cond v (Err faults.TooLong) (with_line bytes (script_at (tokens_of bytes))) ≡ Ok s → length bytes ≤ 65536
    at_length true is f = absurd cc
    at_length false is f = (let n = length bytes in let few : n ≤ 65536 = grind (arith, nat_tests) in few)

spelled : (bytes : List ℕ) (s : Script) → Spells bytes s → script_at (tokens_of bytes) ≡ Ok s
spelled bytes s h = ap script_at h.tokens ∙ script_again h.written s h.depth h.meaning

pub spells_again : (bytes : List ℕ) (s : Script) → length bytes ≤ 65536 → Spells bytes s → text_at bytes ≡ Ok s
unfolding text_at
spells_again bytes s short h =
    let n = length bytes in
    let fits : ltb 65536 n ≡ false = search (arith, tests) in
    rw fits (ap (with_line bytes) (spelled bytes s h))

pub spells_only_one : SpellsOnlyOne
spells_only_one bytes s t h k = ok_is s t (sym (spelled bytes s h) ∙ spelled bytes t k)

-- WHAT A READING ANSWERS

pub answers_found : (bytes : List ℕ) (r : Result SeenScript ScriptFault) → Answers r (text_at bytes) → IfOk r (λ s. Spells bytes (script_of s))
answers_found bytes (Ok s) h = spells_found bytes (script_of s) h
answers_found bytes (Err fault) h = tt

pub answers_fits : (bytes : List ℕ) (r : Result SeenScript ScriptFault) → Answers r (text_at bytes) → OnOk r (length bytes ≤ 65536)
answers_fits bytes (Ok s) h = short_text bytes (script_of s) h
answers_fits bytes (Err fault) h = tt

pub too_long : (bytes : List ℕ) → text_at bytes ≡ Err faults.TooLong → 65536 < length bytes
unfolding text_at
too_long bytes e = at_length (ltb 65536 (length bytes)) refl e
  where
    at_told : (told : Told) → with_line bytes (Err told) ≡ Err faults.TooLong → ⊥
    at_told (Syntax, left) f = absurd cc
    at_told (UnknownName, left) f = absurd cc
    at_told (Twice, left) f = absurd cc
    at_told (TooMany, left) f = absurd cc
    at_told (LoopWithoutSync, left) f = absurd cc

    at_read : (r : Result Script Told) → with_line bytes r ≡ Err faults.TooLong → ⊥
    at_read (Ok s) f = absurd cc
    at_read (Err told) f = at_told told f

    at_length : (v : Bool) → ltb 65536 (length bytes) ≡ v → cond v (Err faults.TooLong) (with_line bytes (script_at (tokens_of bytes))) ≡ Err faults.TooLong → 65536 < length bytes
    at_length true is f = (let n = length bytes in let long : 65536 < n = grind (arith, nat_tests) in long)
    at_length false is f = absurd (at_read (script_at (tokens_of bytes)) f)

-- a fault of a short text
is_long : ScriptFault → Bool
is_long faults.TooLong = true
is_long faults.Memory = false
is_long (faults.Syntax line) = false
is_long (faults.UnknownName line) = false
is_long (faults.Twice line) = false
is_long (faults.TooMany line) = false
is_long (faults.LoopWithoutSync line) = false

is_long_answer : Result Script ScriptFault → Bool
is_long_answer (Ok s) = false
is_long_answer (Err fault) = is_long fault

nothing : (bytes : List ℕ) (fault : ScriptFault) → is_long fault ≡ false → text_at bytes ≡ Err fault → SpellsNothing bytes
unfolding text_at is_long is_long_answer
nothing bytes fault short e s h = at_length (ltb 65536 (length bytes)) e
  where
    at_length : (v : Bool) → cond v (Err faults.TooLong) (with_line bytes (script_at (tokens_of bytes))) ≡ Err fault → ⊥
    at_length true f = (let same : true ≡ false = ap is_long_answer f ∙ short in absurd cc)
    at_length false f = (let both : Ok s ≡ Err fault = sym (ap (with_line bytes) (spelled bytes s h)) ∙ f in absurd cc)

pub answers_refuses : (bytes : List ℕ) (r : Result SeenScript ScriptFault) → Answers r (text_at bytes) → IfErr r (Refuses bytes)
unfolding is_long
answers_refuses bytes (Ok s) h = tt
answers_refuses bytes (Err faults.Memory) h = tt
answers_refuses bytes (Err faults.TooLong) h = tt
answers_refuses bytes (Err (faults.Syntax line)) h = nothing bytes (faults.Syntax line) refl h
answers_refuses bytes (Err (faults.UnknownName line)) h = nothing bytes (faults.UnknownName line) refl h
answers_refuses bytes (Err (faults.Twice line)) h = nothing bytes (faults.Twice line) refl h
answers_refuses bytes (Err (faults.TooMany line)) h = nothing bytes (faults.TooMany line) refl h
answers_refuses bytes (Err (faults.LoopWithoutSync line)) h = nothing bytes (faults.LoopWithoutSync line) refl h
