-- The numbers of a journal by process and by channel, and what one commit more does to them.
use Rattle.std.specs.Prelude.{◌≡◌, ℕ, ◌+◌, ◌<◌, List, ◌++◌, codes, if◌then◌else◌, length, max, slice_index, slice_index_or}
use Rattle.protocol_values.specs.Commits.{stamp_of}
use Rattle.protocol_values.specs.declared.Commit.{Commit}
use Rattle.journal_text.specs.Names.{Naming}
use Rattle.pcml_answers.specs.declared.counts.Kind.{Kind}
use Rattle.pcml_answers.specs.declared.counts.Kind.TheVariants.{Sends, Receives, Alone, Uses, Of, All}
use Rattle.pcml_answers.specs.declared.tallying.Tallies.{Tallies}
use Rattle.pcml_answers.specs.declared.tallying.Tally.{Tally}
use Rattle.pcml_answers.specs.Counts.{count, greatest, is_of}
use Rattle.pcml_answers.specs.Stats.{counts_text, uses_text}

-- WHAT A TALLY IS

-- what a process has of a journal
abbrev pub tally_of : List Commit → ℕ → Tally
tally_of journal t = record { sends = count (Sends t) journal; receives = count (Receives t) journal; alone = count (Alone t) journal; last = greatest (Of t) journal }

-- that of no commit
abbrev pub nothing : Tally
nothing = record { sends = 0; receives = 0; alone = 0; last = 0 }

-- these are the numbers of the first so many processes and channels
pub record IsTally (threads channels : ℕ) (journal : List Commit) (tallies : Tallies) : Type 0 where
  pub process_count : length tallies.processes.items ≡ threads
  pub channel_count : length tallies.uses.items ≡ channels
  pub processes : (t : ℕ) → t < threads → slice_index_or tallies.processes.items t nothing ≡ tally_of journal t
  pub uses : (c : ℕ) → c < channels → slice_index tallies.uses.items c ≡ count (Uses c) journal
  pub stamps : tallies.stamps ≡ greatest All journal

-- ONE COMMIT MORE

abbrev pub counted : Kind → Commit → ℕ → ℕ
counted kind commit before = (if is_of kind commit then before + 1 else before)

abbrev pub greater : Kind → Commit → ℕ → ℕ
greater kind commit before = (if is_of kind commit then max (stamp_of commit) before else before)

abbrev pub with_commit : ℕ → Commit → Tally → Tally
with_commit t commit tally = record { sends = counted (Sends t) commit tally.sends; receives = counted (Receives t) commit tally.receives; alone = counted (Alone t) commit tally.alone; last = greater (Of t) commit tally.last }

-- the greatest number that counts commits
abbrev pub most : ℕ
most = 18446744073709551615

-- each number of commits can grow
abbrev pub HasRoom : Tally → Type 0
HasRoom tally = (tally.sends < most) × (tally.receives < most) × (tally.alone < most)

-- they are the numbers of some commits, fewer than that
abbrev pub MayGrow : Tallies → Type 0
MayGrow tallies = (seen : List Commit) × (IsTally (length tallies.processes.items) (length tallies.uses.items) seen tallies × (length seen < most))

-- AS TEXT

abbrev pub process_text : Naming → ℕ → Tally → List ℕ
process_text names t tally = names.thread t ++ counts_text tally.sends tally.receives tally.alone tally.last

abbrev pub channel_text : Naming → ℕ → ℕ → List ℕ
channel_text names c uses = codes "channel " ++ names.channel c ++ uses_text uses
