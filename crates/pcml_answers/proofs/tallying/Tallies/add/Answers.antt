use Rattle.std.proofs.Common.{◌≡◌, ℕ, List, length, get_or, ap, sym, ◌∙◌}
use Rattle.std.proofs.lemmas.List.{with_items_is}
use Rattle.std.specs.Prelude.{max}
use Rattle.protocol_values.specs.Commits.{stamp_of}
use Rattle.pcml_answers.specs.declared.counts.Kind.TheVariants.{All}
use Rattle.pcml_answers.specs.declared.tallying.Tally.{Tally}
use Rattle.pcml_answers.specs.Tallies.{nothing}
use Rattle.pcml_answers.proofs.Steps.{processes_more, processes_room, uses_more, uses_room, greatest_more}
use Rattle.pcml_answers.proofs.tallying.Tallies.add.Goals as goal

pub add_processes-requires : goal.add_processes-requires
add_processes-requires c = rw c.deref_mut.ensures.value (processes_room c.args.self.now.processes.items c.requires.0 c.requires.1.0.processes c.requires.1.1)

pub add_use-requires : goal.add_use-requires
add_use-requires c = rw c.deref_mut-2.ensures.value (uses_room c.args.self.now.uses.items c.requires.0 c.requires.1.0.uses c.requires.1.1)

pub returns : goal.returns
returns c threads channels seen is =
    let processes = with_items_is c.args.self.now.processes c.add_processes.new.tallies (c.add_processes.auto.tallies ∙ c.deref_mut.ensures.len) in
    let uses = with_items_is c.args.self.now.uses c.add_use.new.uses (c.add_use.auto.uses ∙ c.deref_mut-2.ensures.len) in
    let threads_are : length c.deref_mut.result.now ≡ threads = ap length c.deref_mut.ensures.value ∙ is.process_count in
    let channels_are : length c.deref_mut-2.result.now ≡ channels = ap length c.deref_mut-2.ensures.value ∙ is.channel_count in
    record {
      process_count = ap length processes ∙ c.add_processes.auto.tallies ∙ threads_are;
      channel_count = ap length uses ∙ c.add_use.auto.uses ∙ channels_are;
      processes =
          λ t lt.
          ap (λ (ps : List Tally). get_or ps t nothing) processes
          ∙ processes_more threads c.deref_mut.result.now c.add_processes.new.tallies seen c.args.commit.now threads_are
          (λ u below. rw c.deref_mut.ensures.value (is.processes u below)) c.add_processes.ensures t lt;
      uses =
          λ x lt.
          ap (λ (us : List ℕ). get_or us x 0) uses
          ∙ uses_more channels c.deref_mut-2.result.now c.add_use.new.uses seen c.args.commit.now channels_are
          (λ y below. rw c.deref_mut-2.ensures.value (is.uses y below)) c.add_use.ensures x lt;
      stamps = c.greater-self.ensures ∙ ap (max (stamp_of c.args.commit.now)) is.stamps ∙ sym (greatest_more All seen c.args.commit.now);
    }
