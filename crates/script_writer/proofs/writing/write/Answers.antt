use Rattle.std.proofs.Common.{◌≡◌, ℕ, List, [], ◌++◌, sym, ◌∙◌, ap, subst, rules}
use Rattle.std.specs.String.{string_bytes}
use Rattle.script.specs.Scripts.{script_of}
use Rattle.script_writer.specs.Canon.{Canon}
use Rattle.script_writer.specs.Laws.{IsSpelledBy, IsReadFrom}
use Rattle.script_writer.specs.Plain.{process_names}
use Rattle.script_writer.specs.Texts.{channels_text, processes_text}
use Rattle.script_writer.proofs.Canonical.{canon_is}
use Rattle.script_writer.proofs.PlainTrees.{spelled_by_canon, read_again}
use Rattle.script_writer.proofs.writing.write.Goals as goal

pub returns : goal.returns
returns c =
    let s = script_of c.args.script.now in
    let spelled = c.args.script.now.spelled in
    let empty : string_bytes c.new-out.result ≡ [] = search rules in
    let canon : string_bytes c.put_processes.new.out ≡ Canon s =
    c.in_ok-put_processes.ensures ∙ ap (λ (y : List ℕ). y ++ processes_text s.channels (process_names s.processes) s.processes) (c.in_ok-put_channels.ensures ∙ ap (λ (y : List ℕ). y ++ channels_text s.channels) empty) ∙ canon_is s in
    record {
      canon = canon;
      spelled = subst (λ (y : List ℕ). IsSpelledBy y s) (sym canon) (spelled_by_canon s spelled);
      again = subst (λ (y : List ℕ). IsReadFrom y s) (sym canon) (read_again s spelled);
    }
