-- What is told of how often processes and channels took part.
use Rattle.std.specs.Prelude.{ℕ, zero, suc, List, [], ◌∷◌, ◌++◌, codes, length}
use Rattle.std.specs.Fmt.{decimal}
use Rattle.protocol_values.specs.declared.Commit.{Commit}
use Rattle.script.specs.Sources.{Script}
use Rattle.journal_text.specs.Names.{Naming}
use Rattle.pcml_answers.specs.declared.counts.Kind.TheVariants.{Sends, Receives, Alone, Uses, Of, All}
use Rattle.pcml_answers.specs.Counts.{count, greatest}

-- what is told of each number below n
abbrev pub each_below : ℕ → (ℕ → List ℕ) → List ℕ
each_below zero f = []
each_below (suc n) f = each_below n f ++ f n

abbrev pub counts_text : ℕ → ℕ → ℕ → ℕ → List ℕ
counts_text sends receives alone last = codes " sends " ++ decimal sends ++ codes " receives " ++ decimal receives ++ codes " alone " ++ decimal alone ++ codes " last " ++ decimal last ++ 10 ∷ []

-- how often a process sent, received, and was committed alone, and the stamp of its last commit
abbrev pub process_line : Naming → List Commit → ℕ → List ℕ
process_line names journal t = names.thread t ++ counts_text (count (Sends t) journal) (count (Receives t) journal) (count (Alone t) journal) (greatest (Of t) journal)

abbrev pub uses_text : ℕ → List ℕ
uses_text uses = codes " " ++ decimal uses ++ 10 ∷ []

-- how many messages went over a channel
abbrev pub channel_line : Naming → List Commit → ℕ → List ℕ
channel_line names journal c = codes "channel " ++ names.channel c ++ uses_text (count (Uses c) journal)

abbrev pub total_text : ℕ → ℕ → List ℕ
total_text commits stamps = codes "commits " ++ decimal commits ++ codes " stamps " ++ decimal stamps ++ 10 ∷ []

abbrev pub last_line : List Commit → List ℕ
last_line journal = total_text (length journal) (greatest All journal)

abbrev pub stats_text : Naming → Script → List Commit → List ℕ
stats_text names s journal =
    each_below (length s.processes) (process_line names journal) ++ each_below (length s.channels) (channel_line names journal) ++ last_line journal
