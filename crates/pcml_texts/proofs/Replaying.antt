-- What the text of a replay says: of the state that a journal leads to, and of the journal itself.
use Rattle.std.proofs.Common.{◌≡◌, ℕ, Bool, true, false, not, List, length, Option, Some, None, is_none, is_some, ◌∙◌, refl, subst, sym}
use Rattle.std.proofs.lemmas.Bool.{false≢true, true≢false}
use Rattle.protocol_values.specs.declared.Commit.{Commit}
use Rattle.script.specs.Sources.{Script}
use Rattle.journal_text.specs.Journals.{Spells}
use Rattle.journal_text.specs.Names.{Naming, named}
use Rattle.script_tree.specs.Processes.{Proc}
use Rattle.journal_replay.specs.Replays.{StandsAfter, TellsEnabled, TellsEnd, TellsOutput, thread_count}
use Rattle.journal_replay.specs.Runs.{config_of}
use Rattle.journal_replay.specs.declared.state.State.{State}
use Rattle.journal_replay.proofs.Telling.{ends-both}
use Rattle.pcml_answers.specs.Standings.{Standing, StandAs}
use Rattle.pcml_texts.specs.Replay.{TellsStanding, TellsProcesses, TellsState, IsAt, IsReplayed}
use Rattle.pcml_answers.proofs.Lines.{LinesTo}

-- PROCESS BY PROCESS

-- what is told of one thread
abbrev pub TellsOne : State → ℕ → Standing → Type 0
TellsOne s t p = (p.thread ≡ t) × TellsEnd s t p.end × TellsOutput s t p.printed

pub all_processes : (names : Naming) (s : State) (n : ℕ) (text : List ℕ) → LinesTo names (TellsOne s) n text → n ≡ thread_count s → TellsProcesses names s text
all_processes names s n text (standing, holds, is) all = record {
  standing = standing;
  tells = record { count = holds.0 ∙ all; each = holds.1 };
  is = is;
}

-- WHERE THE JOURNAL LEADS

stand_as : (ps : List Proc) (rows : ℕ) (journal : List Commit) (s : State) (standing : List Standing) → StandsAfter ps rows journal s → TellsStanding s standing → StandAs ps rows (config_of journal) standing
stand_as ps rows journal s standing stands tells = record {
  count = tells.count ∙ stands.strands.stands.count;
  each = λ t p is.
      let told = tells.each t p is in
      let end = told.1 ps rows journal stands in
      let printed = told.2 ps rows journal stands in
      (told.0, ends-both ps rows t (config_of journal) p.end printed.0 p.printed end.0 end.1 printed.1);
}

is_at : (ps : List Proc) (rows : ℕ) (journal : List Commit) (s : State) (next : Option Commit) → StandsAfter ps rows journal s → TellsEnabled s next → IsAt ps rows (config_of journal) (is_none next)
is_at ps rows journal s None stands tells = tells ps rows journal stands
is_at ps rows journal s (Some c) stands tells = (c, (tells ps rows journal stands).legal)

-- no commit may come next where there is none, as it is asked
none_or_not : (next : Option Commit) (maximal : Bool) → is_some next ≡ not maximal → maximal ≡ is_none next
none_or_not None true so = refl
none_or_not None false so = absurd (false≢true so)
none_or_not (Some c) true so = absurd (true≢false so)
none_or_not (Some c) false so = refl

pub is_replayed : (s : Script) (rows : ℕ) (bytes text : List ℕ) (commits : List Commit) (state : State) (next : Option Commit) (maximal : Bool)
    → Spells s bytes commits → StandsAfter s.processes rows commits state → TellsEnabled state next → is_some next ≡ not maximal
    → TellsState (named s) state (length commits) maximal text → (replayed : IsReplayed s rows bytes text) × (replayed.maximal ≡ maximal)
is_replayed s rows bytes text commits state next maximal spells stands enabled so tells = (
  record {
    commits = commits;
    spells = spells;
    run = stands.run;
    standing = tells.standing;
    stand = stand_as s.processes rows commits state tells.standing stands tells.tells;
    maximal = maximal;
    is_at = subst (λ (m : Bool). IsAt s.processes rows (config_of commits) m) (sym (none_or_not next maximal so)) (is_at s.processes rows commits state next stands enabled);
    is = tells.is;
  },
  refl,
)
