use Rattle.std.proofs.Common.{◌≡◌, ℕ, List, length, map, Ok, Err, sym, ap, ◌∙◌, subst, arith}
use Rattle.std.proofs.lemmas.List.{length-map}
use Rattle.script_tree.specs.Processes.{proc_of, string_texts, ShareChannels}
use Rattle.script_tree.proofs.Texts.{length_texts}
use Rattle.script_token.specs.Lexemes.{placed_tokens, last_line, seen}
use Rattle.script.specs.Lines.{line_of, text_words}
use Rattle.script.specs.Lining.{lined_all}
use Rattle.script_reader.specs.Steps.{bare}
use Rattle.script.specs.Scripts.{Script, script_at, line_left}
use Rattle.script.proofs.KeepingScripts.{script_keeps}
use Rattle.script.proofs.Spelled.{spells_found}
use Rattle.script_token.specs.Tokens.{Token}
use Rattle.script_token.specs.declared.lexeme.Placed.{Placed}
use Rattle.script.proofs.Telling.{text_ok, text_err}
use Rattle.script.proofs.reading.read_text.Goals as goal

pub invariant_of-result : goal.invariant_of-result
invariant_of-result c =
    let ps = c.in-Ok.tokens.placed.items in
    let channels = c.in-Ok-whole.channels.items in
    let processes = c.in-Ok-whole.processes.items in
    let s : Script = record { channels = string_texts channels; processes = map proc_of processes } in
    let read : script_at (bare ps) ≡ Ok s = ap (λ (x : List Placed). script_at (bare x)) (sym c.deref.ensures.value) ∙ c.in-Ok-whole.ensures.value in
    let keeps = script_keeps (bare ps) s read in
    let text = text_ok c.args.bytes.now ps s (omega (arith, c.if-bytes-gt-TEXT_LEN.false)) c.in-Ok.ensures.tokens read in
    let count : length (string_texts channels) ≡ length channels = length_texts channels in
    record {
      few_channels = omega (arith, count, keeps.channels);
      few_processes = omega (arith, keeps.processes, length-map processes proc_of);
      spelled = ∣ (c.args.bytes.now, spells_found c.args.bytes.now s text) ∣₁;
      shared = subst (λ (n : ℕ). ShareChannels n (map proc_of processes)) count keeps.shared;
      order = keeps.order;
      placed = keeps.placed;
      once = keeps.once;
    }

pub returns-in-Ok-whole : goal.returns-in-Ok-whole
returns-in-Ok-whole c =
    let ps = c.in-Ok.tokens.placed.items in
    let s : Script = record { channels = string_texts c.in-Ok-whole.channels.items; processes = map proc_of c.in-Ok-whole.processes.items } in
    let read : script_at (bare ps) ≡ Ok s = ap (λ (x : List Placed). script_at (bare x)) (sym c.deref.ensures.value) ∙ c.in-Ok-whole.ensures.value in
    record {
      text = text_ok c.args.bytes.now ps s (omega (arith, c.if-bytes-gt-TEXT_LEN.false)) c.in-Ok.ensures.tokens read;
      lined =
          c.in-Ok-whole.ensures.lined
          ∙ ap (λ (x : List Placed). lined_all (map line_of (text_words (seen x))) 0 s.processes) c.deref.ensures.value
          ∙ ap (λ (x : List (Token × ℕ)). lined_all (map line_of (text_words x)) 0 s.processes) c.in-Ok.ensures.tokens;
    }

pub returns : goal.returns
returns c =
    let ps = c.in-Ok.tokens.placed.items in
    let read : script_at (bare ps) ≡ Err (c.in-Err-At.fault.problem, c.in-Err-At.fault.left) = ap (λ (x : List Placed). script_at (bare x)) (sym c.deref.ensures.value) ∙ (rw c.in-Err-At.field-0-is at c.in-Err-At.ensures.value) in
    let line : c.line_left.result ≡ line_left (placed_tokens c.args.bytes.now) (last_line c.args.bytes.now) c.in-Err-At.fault.left =
    c.line_left.ensures ∙ ap (λ (x : List (Token × ℕ)). line_left x c.in-Ok.tokens.last_line c.in-Err-At.fault.left) c.in-Ok.ensures.tokens ∙ ap (λ (n : ℕ). line_left (placed_tokens c.args.bytes.now) n c.in-Err-At.fault.left) c.in-Ok.ensures.last in
    record {
      text = text_err c.args.bytes.now ps c.in-Err-At.fault.problem c.in-Err-At.fault.left c.line_left.result c.fault_at.result (omega (arith, c.if-bytes-gt-TEXT_LEN.false)) c.in-Ok.ensures.tokens read line c.fault_at.ensures;
      lined = tt;
    }
