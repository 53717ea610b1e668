-- What a state tells of a nack, and of a thread's end.
use Rattle.std.proofs.Common.{◌≡◌, ℕ, ◌<◌, List, length, Option, Some, None, slice_get, refl, sym, ◌∙◌, arith, ⊎_elim}
use Rattle.std.specs.Prelude.{option_and_then, slice_index_or}
use Rattle.std.proofs.lemmas.Option.{none-some, slice_get_cases, slice_get_within}
use Rattle.script_tree.specs.Processes.{Proc}
use Rattle.protocol_values.specs.declared.Commit.{Commit}
use Rattle.protocol_values.specs.declared.NackName.{NackName}
use Rattle.journal_replay.specs.declared.state.State.{State}
use Rattle.thread_strand.specs.declared.strand.Strand.{Strand}
use Rattle.journal_replay.specs.Replays.{StandsAfter, TellsEnded, TellsFired, ended_by, fired_by}
use Rattle.journal_replay.specs.Runs.{config_of}
use Rattle.journal_replay.specs.Standing.{KnowsNack}
use Rattle.journal_replay.proofs.Finding.{ended-is, ended-known}

-- what a run says of a nack, by what the state has for it
abbrev pub Knows : List Proc → List Commit → NackName → Option ℕ → Type 0
Knows ps journal n known = KnowsNack ps n.thread (config_of journal n.thread) journal n.k known

told : (s : State) (n : NackName) (known : Option ℕ) → ((ps : List Proc) (rows : ℕ) (journal : List Commit) → StandsAfter ps rows journal s → Knows ps journal n known) → TellsFired s n known
told s n None knows = λ ps rows journal stands fired. knows ps rows journal stands fired.0 fired.1
told s n (Some stamp) knows = λ ps rows journal stands. knows ps rows journal stands

-- no thread has the nack
absent : (s : State) (n : NackName) (ps : List Proc) (rows : ℕ) (journal : List Commit) → slice_get s.threads.strands.items n.thread ≡ None → StandsAfter ps rows journal s → Knows ps journal n None
absent s n ps rows journal none stands g fired =
    let within : n.thread < length ps = slice_get_within ps n.thread fired.offered.process fired.offered.is_its in
    ⊎_elim
    (λ there. none-some there.0 (sym none ∙ there.2))
    (λ past. let count = stands.strands.stands.count in absurd (omega (arith, within, past.0, count)))
    (slice_get_cases s.threads.strands.items n.thread).1

knows-at : (s : State) (n : NackName) (ps : List Proc) (rows : ℕ) (journal : List Commit) (there : Option Strand) → slice_get s.threads.strands.items n.thread ≡ there → StandsAfter ps rows journal s
    → Knows ps journal n (option_and_then (λ t. slice_index_or t.fired n.k None) there)
knows-at s n ps rows journal None e stands = absent s n ps rows journal e stands
knows-at s n ps rows journal (Some strand) e stands = (stands.strands.stands.each n.thread strand e).fired n.k

pub tells-fired : (s : State) (n : NackName) → TellsFired s n (fired_by s n)
tells-fired s n = told s n (fired_by s n) (λ ps rows journal stands. knows-at s n ps rows journal (slice_get s.threads.strands.items n.thread) refl stands)

ended-at : (s : State) (t : ℕ) (known : Option ℕ) → ended_by s t ≡ known → TellsEnded s t known
ended-at s t None e = λ ps rows journal stands has.
    let w = ended-known ps journal s.threads.strands.items t stands.strands has.0 has.1 in none-some w.0 (sym e ∙ w.1)
ended-at s t (Some stamp) e = λ ps rows journal stands. ended-is ps journal s.threads.strands.items t stamp stands.strands e

pub tells-ended : (s : State) (t : ℕ) → TellsEnded s t (ended_by s t)
tells-ended s t = ended-at s t (ended_by s t) refl
