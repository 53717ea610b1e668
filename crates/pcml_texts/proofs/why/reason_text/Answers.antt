use Rattle.std.proofs.Common.{◌≡◌, ◌<◌, ℕ, List, Some, length, slice_get, map, ap, subst, sym, ◌∙◌, ⊎_elim}
use Rattle.std.proofs.lemmas.List.{length-map}
use Rattle.script.specs.Scripts.{script_of}
use Rattle.script_tree.specs.Processes.{Proc}
use Rattle.protocol_values.specs.declared.Commit.{Commit}
use Rattle.protocol_values.specs.declared.Commit.TheVariants.{Alone, Pair}
use Rattle.journal_replay.specs.Starting.{HasThread}
use Rattle.journal_text.specs.Journals.{HasLine}
use Rattle.journal_text.specs.Names.{Declared, names_of}
use Rattle.journal_text.proofs.Running.{all_at}
use Rattle.pcml_texts.proofs.why.reason_text.Goals as goal

-- the threads of a commit that has a line are the script's
declared : (d : Declared) (c : Commit) (t : ℕ) → HasLine d c → HasThread c t → t < length d.threads
declared d (Pair sender receiver chan msg stamp) t line has = ⊎_elim
    (λ sends. subst (λ (n : ℕ). n < length d.threads) sends line.0.1.0)
    (λ receives. subst (λ (n : ℕ). n < length d.threads) receives line.1.0.0)
    has
declared d (Alone at why stamp) t line has = subst (λ (n : ℕ). n < length d.threads) has line.0.1.0

pub find_reason-reason-requires-clause-threads : goal.find_reason-reason-requires-clause-threads
find_reason-reason-requires-clause-threads c d t is has =
    let s = script_of c.args.script.now in
    let commits : List Commit = c.args.broken.commits.items in
    let there : slice_get commits c.args.broken.index ≡ Some d = subst (λ (cs : List Commit). slice_get cs c.args.broken.index ≡ Some d) c.deref.ensures.value is in
    subst (λ (n : ℕ). t < n) (length-map s.processes (λ (p : Proc). p.name) ∙ sym c.requires.breaks.stands.strands.stands.count)
    (declared (names_of s) d t (all_at (HasLine (names_of s)) commits c.args.broken.index d c.requires.lines there) has)
