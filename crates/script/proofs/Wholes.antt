-- Whole scripts: the fault that reading tells is the one that is demanded.
use Rattle.std.proofs.Common.{◌≡◌, ℕ, true, false, cond, ◌||◌, leb, ltb, List, [], ◌∷◌, ◌++◌, length, Some, None, Result, Ok, is_some, refl, sym, ap, ◌∙◌, subst, arith, length-append, append_assoc}
use Rattle.script_token.specs.Tokens.{Token, Fixed, Name}
use Rattle.script_token.specs.declared.kind.Symbol.TheVariants.{Channel, Process}
use Rattle.script_tree.specs.Processes.{Proc}
use Rattle.script_grammar.specs.Meaning.{place}
use Rattle.script_reader.specs.Steps.{Told, ◌>>=◌, next_is, Here, start}
use Rattle.script_reader.specs.declared.fault.Problem.TheVariants.{Twice, TooMany}
use Rattle.script_grammar.specs.Written as written
use Rattle.script_grammar.specs.Written.{block_tokens, channels_tokens, processes_tokens, script_tokens}
use Rattle.script.specs.Scripts.{Script, Drawn, channels_at, processes_at, script_at}
use Rattle.script_faults.specs.Laws.{Any}
use Rattle.script_faults.specs.Notes.{Note, SameFront}
use Rattle.script_faults.specs.BlockNotes.{declare_note, block_after, block_notes, channels_notes, processes_notes, script_notes}
use Rattle.script_faults.proofs.Facts.{Shape, Lang, Facts, seq, bind, turned, ending, ended, giving, give, next_same, spelled_length}
use Rattle.script_faults.proofs.Loops.{spell_all, notes_all, after_all}
use Rattle.script_faults.proofs.Shapes.{block_shape}
use Rattle.script_faults.proofs.Places.{Agree, Agrees, IsHere, agrees_none, agrees_seq, here_agrees, either_here}
use Rattle.script_faults.proofs.Agreeing.{front, block_agrees}
use Rattle.script_faults.proofs.Demanding.{answered}
use Rattle.script.specs.FirstFaults.{Ended, script_spell, ScriptsAreAnswered}
use Rattle.script.proofs.Declares.{NoChannel, channel_spell, channel_notes, one_more, channel_shape, channels_lang, channels_facts}
use Rattle.script.proofs.Processes.{first_of, AtEnd, process_spell, process_notes, process_after, all_processes, process_facts_all, left_none, none_left, block_channels}

-- WHAT IS WRITTEN

channels_on : (texts : List (List ℕ)) (ts rest : List Token) → channels_tokens texts ts ++ rest ≡ channels_tokens texts (ts ++ rest)
channels_on [] ts rest = refl
channels_on (text ∷ texts) ts rest = ap (channel_spell text) (channels_on texts ts rest)

block_on : (b : written.Block) (ts rest : List Token) → block_tokens b ts ++ rest ≡ block_tokens b (ts ++ rest)
block_on b ts rest = (let s = block_shape b true 49 (start [] [] []) in ap (λ (x : List Token). x ++ rest) (s.is ts) ∙ append_assoc s.text ts rest ∙ sym (s.is (ts ++ rest)))

processes_on : (ps : List written.Process) (rest : List Token) → processes_tokens ps ++ rest ≡ spell_all process_spell ps rest
processes_on [] rest = refl
processes_on (p ∷ ps) rest = ap (λ (x : List Token). Fixed Process ∷ Name p.name ∷ x) (block_on p.body (processes_tokens ps) rest ∙ ap (block_tokens p.body) (processes_on ps rest))

script_on : (s : written.Script) (rest : List Token) → script_tokens s ++ rest ≡ channels_tokens s.channels (spell_all process_spell s.processes rest)
script_on s rest = channels_on s.channels (processes_tokens s.processes) rest ∙ ap (channels_tokens s.channels) (processes_on s.processes rest)

processes_noted : (ps : List written.Process) (channels : List (List ℕ)) (h : Here) → h.channels ≡ channels → processes_notes channels h.processes h.spawned ps ≡ notes_all process_notes process_after h ps
unfolding processes_notes
processes_noted [] channels h e = refl
processes_noted (p ∷ ps) channels h e =
    let first = λ (c : List (List ℕ)). start c h.processes h.spawned in
    ap (λ (c : List (List ℕ)). (None ∷ declare_note 64 h.processes p.name ∷ block_notes true 49 (first c) p.body) ++ processes_notes channels (h.processes ++ p.name ∷ []) (block_after (first c) p.body).spawned ps) (sym e)
    ∙ ap (λ (y : List Note). process_notes h p ++ y) (processes_noted ps channels (process_after h p) (block_channels p.body (first_of h) ∙ e))

-- WHAT READS IT

after_channels : (ps : List written.Process) (h : Here) → (after_all process_after h ps).channels ≡ h.channels
after_channels [] h = refl
after_channels (p ∷ ps) h = after_channels ps (process_after h p) ∙ block_channels p.body (first_of h)

abbrev script_end : List (List ℕ) → Lang (List Proc) Script AtEnd
script_end channels = giving (all_processes channels) (λ ws x rest. record { channels = (after_all process_after (start channels [] []) ws).channels; processes = x })

abbrev script_parts : Lang (List Proc) Script AtEnd
script_parts = seq channels_lang script_end

no_channel_looks : (a b : List Token) → SameFront a b → NoChannel a → NoChannel b
no_channel_looks a b k e = sym (next_same Channel a b k) ∙ e

no_channel_follows : (ps : List written.Process) (rest : List Token) → AtEnd rest → NoChannel (spell_all process_spell ps rest)
unfolding next_is
no_channel_follows [] rest e = (let none : next_is Channel [] ≡ false = refl in ap (next_is Channel) (left_none rest e) ∙ none)
no_channel_follows (p ∷ ps) rest e = refl

abbrev finished : Drawn → Result Script Told
finished p = Ok (record { channels = p.1.channels; processes = p.0 })

script_reads : Facts Any script_parts (λ ts. script_at ts)
unfolding script_at
script_reads =
    bind channels_lang script_end (λ ts. channels_at ts) (λ c. processes_at c.0 c.1 >>= finished) no_channel_looks (λ w ps rest e. no_channel_follows ps rest e) channels_facts
    (λ cs x clean. give (all_processes cs) (λ ws x rest. record { channels = (after_all process_after (start cs [] []) ws).channels; processes = x }) (λ ts. processes_at cs ts) (λ p. record { channels = p.1.channels; processes = p.0 }) (λ ws x. x) (λ ws x rest. refl) (process_facts_all cs))

script_noted : (s : written.Script) → script_notes s ≡ script_parts.notes (s.channels, s.processes)
unfolding script_notes
script_noted s = ap (λ (x : List Note). channels_notes [] s.channels ++ x) (processes_noted s.processes s.channels (start s.channels [] []) refl)

script_shape : (s : written.Script) → Shape (λ rest. script_tokens s ++ rest) (script_notes s)
script_shape s = record {
  text = script_tokens s;
  is = λ rest. refl;
  count = (let a = spelled_length (script_parts.spell (s.channels, s.processes)) (script_parts.notes (s.channels, s.processes)) [] (script_parts.shape (s.channels, s.processes)) in
      let b = ap length (script_on s []) in
      let c = length-append (script_tokens s) [] in
      let d = ap length (script_noted s) in
      omega (arith, a, b, c, d));
}

abbrev script_lang : Lang (List Proc) Script Ended
script_lang = record {
  W = written.Script;
  default = record { channels = []; processes = [] };
  spell = script_spell;
  notes = script_notes;
  join = λ s x rest. record { channels = s.channels; processes = x };
  shape = script_shape;
}

script_facts : Facts Any script_lang (λ ts. script_at ts)
script_facts = turned (ending {E' = Ended} script_parts) script_lang (λ ts. script_at ts) (λ ts. script_at ts) (record {
  to = λ w. record { channels = w.0; processes = w.1 };
  spell_to = λ w rest. script_on (record { channels = w.0; processes = w.1 }) rest;
  notes_to = λ w. script_noted (record { channels = w.0; processes = w.1 });
  from = λ s. (s.channels, s.processes);
  spell_from = script_on;
  notes_from = script_noted;
  value = λ w x. x;
  oks = λ ts s x rest e. e ∙ ap (λ (c : List (List ℕ)). Ok (record { channels = c; processes = x })) (after_channels s.processes (start s.channels [] []));
  errs = λ ts t e. e;
}) (ended script_parts (λ ts. script_at ts) (λ rest e. none_left rest e) (λ rest e. left_none rest e) script_reads)

-- WHERE ITS FAULTS ARE TOLD

declare_here : (limit : ℕ) (names : List (List ℕ)) (text : List ℕ) → IsHere (declare_note limit names text)
unfolding declare_note
declare_here limit names text =
    let few : IsHere (cond (leb limit (length names) || ltb 32 (length text)) (Some (TooMany, 0)) None) = either_here (leb limit (length names) || ltb 32 (length text)) (Some (TooMany, 0)) None (λ prior. refl) (λ prior. tt) in
    either_here (is_some (place text names)) (Some (Twice, 0)) (cond (leb limit (length names) || ltb 32 (length text)) (Some (TooMany, 0)) None) (λ prior. refl) few

channels_agree : (texts names : List (List ℕ)) → Agrees (channels_tokens texts) (channels_notes names texts)
unfolding channels_notes
channels_agree [] names = agrees_none
channels_agree (text ∷ texts) names =
    agrees_seq (channel_spell text) (channels_tokens texts) (channel_notes names text) (channels_notes (one_more names text) texts)
    (here_agrees (channel_spell text) (channel_notes names text) (channel_shape names text) (λ prior. tt, (declare_here 256 names text, (λ prior. tt, tt)))) (channels_agree texts (one_more names text))

processes_agree : (ps : List written.Process) (channels names : List (List ℕ)) (spawned : List ℕ) → Agrees (spell_all process_spell ps) (processes_notes channels names spawned ps)
unfolding processes_notes
processes_agree [] channels names spawned = agrees_none
processes_agree (p ∷ ps) channels names spawned =
    agrees_seq (process_spell p) (spell_all process_spell ps) _ _ (front (Fixed Process) _ _ _ (λ prior. tt) (front (Name p.name) _ (block_tokens p.body) _ (declare_here 64 names p.name) (block_agrees p.body true 49 (start channels names spawned)))) (processes_agree ps channels (names ++ p.name ∷ []) (block_after (start channels names spawned) p.body).spawned)

pub script_agrees : (s : written.Script) → Agrees (λ rest. script_tokens s ++ rest) (script_notes s)
unfolding script_notes
script_agrees s =
    let parts = agrees_seq (channels_tokens s.channels) (spell_all process_spell s.processes) _ _ (channels_agree s.channels []) (processes_agree s.processes s.channels [] []) in
    record { agree = λ prior rest others k. subst (λ (x : List Token). Agree prior x (script_notes s ++ others)) (sym (script_on s rest)) (parts.agree prior rest others k) }

pub scripts_are_answered : ScriptsAreAnswered
scripts_are_answered = answered script_lang (λ ts. script_at ts) script_facts script_agrees [] refl
