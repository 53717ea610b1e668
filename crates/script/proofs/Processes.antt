-- The processes of a script, and whole scripts: what is written, and where reading it stops.
use Rattle.std.proofs.Common.{◌≡◌, ℕ, suc, ◌≤◌, Bool, true, false, cond, eqb, List, [], ◌∷◌, ◌++◌, length, Option, Some, None, Result, Ok, refl, sym, ◌∙◌, arith, tests}
use Rattle.script_token.specs.Tokens.{Token, Fixed, Name}
use Rattle.script_token.specs.declared.kind.Symbol.TheVariants.{Process}
use Rattle.script_tree.specs.Processes.{Proc}
use Rattle.script_grammar.specs.Meaning.{place, if_some}
use Rattle.script_reader.specs.Steps.{Told, ◌>>=◌, repeated, expect_at, Here, start, bound}
use Rattle.script_grammar.specs.Written as written
use Rattle.script_grammar.specs.Written.{block_tokens}
use Rattle.script_reader.specs.Blocks.{block_at}
use Rattle.script_reader.specs.declared.process.Loops.TheVariants.{Allowed}
use Rattle.script.specs.Scripts.{Drawn, proc_from, declare_at, process_next, process_step, processes_at}
use Rattle.script_faults.specs.Laws.{Any}
use Rattle.script_faults.specs.Notes.{Note, SameFront, plain, spawned_after, names_after}
use Rattle.script_faults.specs.BlockNotes.{declare_note, one_nack, uncounted, event_after, events_after, stmt_after, block_after, block_notes}
use Rattle.script_faults.proofs.Facts.{Shape, Lang, Facts, seq, then, turned, instead, giving, give}
use Rattle.script_faults.proofs.Words.{word, expect_facts}
use Rattle.script_faults.proofs.Loops.{all_lang, all_facts, same_steps}
use Rattle.script_faults.proofs.Shapes.{in_front, block_shape}
use Rattle.script_faults.proofs.Events.{block_lang}
use Rattle.script_faults.proofs.Knots.{blocks_together}
use Rattle.script.proofs.Declares.{declared, declared_facts, NoChannel}

-- THE CHANNELS STAY

spawned_channels : (h : Here) (text : List ℕ) → (spawned_after h text).channels ≡ h.channels
spawned_channels h text = at_place (place text h.processes)
  where
    at_place : (o : Option ℕ) → (if_some {B = Here} o (λ p. record h { spawned = h.spawned ++ p ∷ [] }) h).channels ≡ h.channels
    at_place (Some p) = refl
    at_place None = refl

bound_channels : (h : Here) (text : List ℕ) → ((bound h text).1).channels ≡ h.channels
bound_channels h text = at_place (place text h.variables)
  where
    at_place : (o : Option ℕ) → ((if_some {B = ℕ × Here} o (λ v. (v, h)) (length h.variables, record h { variables = h.variables ++ text ∷ [] })).1).channels ≡ h.channels
    at_place (Some v) = refl
    at_place None = refl

names_channels : (texts : List (List ℕ)) (h : Here) → (names_after h texts).channels ≡ h.channels
names_channels [] h = refl
names_channels (text ∷ texts) h = names_channels texts (bound h text).1 ∙ bound_channels h text

mutual
  unfolding event_after

  event_channels : (e : written.Event) (h : Here) → (event_after h e).channels ≡ h.channels
  event_channels (written.Send channel list) h = refl
  event_channels (written.Recv channel) h = refl
  event_channels (written.Always list) h = refl
  event_channels written.Never h = refl
  event_channels (written.Cancelled nack) h = refl
  event_channels (written.Joined process) h = refl
  event_channels (written.Choose members) h = events_channels members h
  event_channels (written.Wrap event names list) h = names_channels names (event_after h event) ∙ event_channels event h
  event_channels (written.Guard body event) h = event_channels event (block_after h body) ∙ block_channels body h
  event_channels (written.Nack name body event) h = event_channels event (block_after (bound (one_nack h) name).1 body) ∙ block_channels body (bound (one_nack h) name).1 ∙ bound_channels (one_nack h) name

  events_channels : (es : written.Events) (h : Here) → (events_after h es).channels ≡ h.channels
  events_channels written.NoEvents h = refl
  events_channels (written.Another event others) h = events_channels others (event_after h event) ∙ event_channels event h

  stmt_channels : (s : written.Stmt) (h : Here) → (stmt_after h s).channels ≡ h.channels
  stmt_channels (written.Let name value) h = bound_channels h name
  stmt_channels (written.Print value) h = refl
  stmt_channels (written.Sync names event) h = event_channels event (uncounted (names_after h names)) ∙ names_channels names h
  stmt_channels (written.If test first second) h = block_channels second (block_after h first) ∙ block_channels first h
  stmt_channels (written.Loop times body) h = block_channels body h
  stmt_channels (written.Forever body) h = block_channels body h
  stmt_channels written.End h = refl
  stmt_channels (written.Spawn process) h = spawned_channels h process

  pub block_channels : (b : written.Block) (h : Here) → (block_after h b).channels ≡ h.channels
  block_channels written.Done h = refl
  block_channels (written.Then stmt others) h = block_channels others (stmt_after h stmt) ∙ stmt_channels stmt h

-- ONE PROCESS

-- the first token of a process behind these names
abbrev pub first_of : Here → Here
first_of h = start h.channels h.processes h.spawned

abbrev pub process_spell : written.Process → List Token → List Token
process_spell w rest = Fixed Process ∷ Name w.name ∷ block_tokens w.body rest

abbrev pub process_notes : Here → written.Process → List Note
process_notes h w = None ∷ declare_note 64 h.processes w.name ∷ block_notes true 49 (first_of h) w.body

abbrev pub process_after : Here → written.Process → Here
process_after h w = record (block_after (first_of h) w.body) { processes = h.processes ++ w.name ∷ [] }

abbrev pub drawn_so : List Proc → Here → List Token → Drawn
drawn_so x h ts = (x, h, ts)

abbrev pub no_process : written.Process
no_process = record { name = []; body = written.Done }

pub process_shape : (h : Here) (w : written.Process) → Shape (process_spell w) (process_notes h w)
process_shape h w = in_front (Fixed Process) _ _ _ (in_front (Name w.name) _ _ _ (block_shape w.body true 49 (first_of h)))

abbrev pub process_reader : List Proc → Here → List Token → Result Drawn Told
process_reader x h ts = process_next (x, h, ts)

-- whether a token is left
pub some_left : List Token → Bool
some_left ts = cond (eqb (length ts) 0) false true

pub left_looks : (a b : List Token) → SameFront a b → some_left a ≡ some_left b
unfolding some_left
left_looks [] [] k = refl
left_looks [] (u ∷ us) k = absurd k
left_looks (t ∷ ts) [] k = absurd k
left_looks (t ∷ ts) (u ∷ us) k = (let m = length ts in let n = length us in let no : eqb (suc m) 0 ≡ false = search (arith, tests) in let none : eqb (suc n) 0 ≡ false = search (arith, tests) in rw (no, none) refl)

left_some : (t : Token) (ts : List Token) → some_left (t ∷ ts) ≡ true
unfolding some_left
left_some t ts = (let n = length ts in let no : eqb (suc n) 0 ≡ false = search (arith, tests) in rw no refl)

pub left_none : (ts : List Token) → some_left ts ≡ false → ts ≡ []
left_none [] e = refl
left_none (t ∷ ts) e = (let same : true ≡ false = sym (left_some t ts) ∙ e in absurd cc)

pub none_left : (ts : List Token) → ts ≡ [] → some_left ts ≡ false
unfolding some_left
none_left [] e = refl
none_left (t ∷ ts) e = absurd cc

pub process_starts : (w : written.Process) (rest : List Token) → some_left (process_spell w rest) ≡ true
process_starts w rest = left_some (Fixed Process) _

pub process_long : (h : Here) (w : written.Process) → 2 ≤ length (process_notes h w)
process_long h w = omega arith

pub process_stepped : (x : List Proc) (h : Here) (ts : List Token) → process_step (drawn_so x h ts) ≡ cond (some_left ts) (Some (process_reader x h ts)) None
unfolding some_left
process_stepped x h ts = at_end (eqb (length ts) 0) (process_reader x h ts)
  where
    at_end : (b : Bool) (y : Result Drawn Told) → ◌≡◌ {A = Option (Result Drawn Told)} (cond b None (Some y)) (cond (cond b false true) (Some y) None)
    at_end true y = refl
    at_end false y = refl

abbrev process_lang : Here → Lang (List Proc) Drawn Any
process_lang h = record { W = written.Process; default = no_process; spell = process_spell; notes = process_notes h; join = λ w x ts. (x, process_after h w, ts); shape = process_shape h }

-- with one name more
abbrev declaring : Here → List ℕ → Here → Here
declaring h text g = record g { processes = h.processes ++ text ∷ [] }

abbrev process_end : Here → List ℕ → Lang (List Proc) Drawn Any
process_end h text = giving (block_lang true 49 (first_of h)) (λ w x rest. (x, declaring h text (block_after (first_of h) w), rest))

abbrev process_parts : Here → Lang (List Proc) Drawn Any
process_parts h = seq (word Process 49) (λ w. seq (declared 64 h.processes) (λ t. process_end h t))

process_reads : {P : List Token → Type 0} (x : List Proc) (h : Here) → Facts P (process_parts h) (λ ts. process_next (x, h, ts))
unfolding process_next
process_reads x h =
    then (word Process 49) (λ w. seq (declared 64 h.processes) (λ t. process_end h t)) (λ ts. expect_at 49 Process ts) (λ rest. declare_at 64 h.processes rest >>= λ n. block_at 49 Allowed (first_of h) n.2 >>= λ b. Ok (x ++ proc_from n.0 b.0 b.1 ∷ [], record b.1 { processes = n.1 }, b.2)) (expect_facts 49 Process)
    (λ w u clean. then (declared 64 h.processes) (λ t. process_end h t) (λ ts. declare_at 64 h.processes ts) (λ n. block_at 49 Allowed (first_of h) n.2 >>= λ b. Ok (x ++ proc_from n.0 b.0 b.1 ∷ [], record b.1 { processes = n.1 }, b.2)) (declared_facts 64 h.processes)
    (λ t v clean'. give (block_lang true 49 (first_of h)) (λ w x rest. (x, declaring h t (block_after (first_of h) w), rest)) (λ ts. block_at 49 Allowed (first_of h) ts) (λ b. (x ++ proc_from t b.0 b.1 ∷ [], declaring h t b.1, b.2))
    (λ w b. x ++ proc_from t b (block_after (first_of h) w) ∷ []) (λ w b rest. refl) (blocks_together 49 Allowed (first_of h))))

process_facts : (x : List Proc) (h : Here) → Facts (λ ts. some_left ts ≡ true) (process_lang h) (process_reader x h)
unfolding plain
process_facts x h = turned (process_parts h) (process_lang h) (λ ts. process_next (x, h, ts)) (process_reader x h) (record {
  to = λ w. record { name = w.1.0; body = w.1.1 };
  spell_to = λ w rest. refl;
  notes_to = λ w. refl;
  from = λ w. (tt, (w.name, w.body));
  spell_from = λ w rest. refl;
  notes_from = λ w. refl;
  value = λ w x. x;
  oks = λ ts w x rest e. e;
  errs = λ ts t e. e;
}) (process_reads x h)

-- ALL OF THEM

abbrev pub AtEnd : List Token → Type 0
AtEnd rest = some_left rest ≡ false

abbrev pub all_processes : List (List ℕ) → Lang (List Proc) Drawn AtEnd
all_processes channels = all_lang drawn_so process_spell process_notes process_after no_process process_shape some_left left_looks process_step process_reader process_stepped process_starts process_long (start channels [] [])

processes_read : (channels : List (List ℕ)) → Facts NoChannel (all_processes channels) (λ ts. repeated process_step (suc (length ts)) ([], start channels [] [], ts))
processes_read channels = all_facts drawn_so process_spell process_notes process_after no_process process_shape some_left left_looks process_step process_reader process_stepped process_starts process_long process_facts [] (start channels [] [])

processes_is : (channels : List (List ℕ)) (ts : List Token) → repeated process_step (suc (length ts)) ([], start channels [] [], ts) ≡ processes_at channels ts
unfolding processes_at repeated
processes_is channels [] = refl
processes_is channels (t ∷ us) =
    let n = length us in
    same_steps drawn_so process_spell process_notes process_after no_process process_shape some_left left_looks process_step process_reader process_stepped process_starts process_long process_facts (suc (suc n)) (suc n) (t ∷ us) [] (start channels [] []) (omega arith) (omega arith)

pub process_facts_all : (channels : List (List ℕ)) → Facts NoChannel (all_processes channels) (λ ts. processes_at channels ts)
process_facts_all channels = instead (all_processes channels) (λ ts. repeated process_step (suc (length ts)) ([], start channels [] [], ts)) (λ ts. processes_at channels ts) (processes_is channels) (processes_read channels)
