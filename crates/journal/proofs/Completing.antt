-- Commits, led on to their end and put in order.
use Rattle.std.proofs.Common.{◌≡◌, ℕ, ◌+◌, ◌≤◌, List, ◌++◌, length, refl, sym, ◌∙◌, subst}
use Rattle.std.specs.Prelude.{IsPermutation}
use Rattle.std.proofs.lemmas.List.Sorted.{IsPermutation-append_left, IsPermutation-trans}
use Rattle.script_tree.specs.Processes.{Proc}
use Rattle.protocol_values.specs.declared.Atom.{Atom}
use Rattle.protocol_values.specs.declared.Commit.{Commit}
use Rattle.protocol_values.specs.Commits.{IsInOrder}
use Rattle.protocol_ledger.specs.Ledgers.{Ledger, IsLawful}
use Rattle.thread.specs.declared.end.End.{End}
use Rattle.journal_replay.specs.declared.state.State.{State}
use Rattle.journal_replay.specs.declared.state.ReplayFault.{ReplayFault}
use Rattle.journal_replay.specs.declared.state.ReplayFault.TheVariants.{Memory, Unlawful}
use Rattle.journal_replay.specs.Replays.{EndsOf, OutputsOf, Refuses, StandsAfter}
use Rattle.journal_replay.specs.Runs.{Config, IsMaximal, IsRun, TellsEnds, config_of}
use Rattle.journal_replay.proofs.Telling.{ends-both}
use Rattle.journal_ledger.specs.Ledgers.{IsLedgerOf, IsOrderOf}
use Rattle.journal_order.proofs.Sending.{named-is-received, received-is-sent}
use Rattle.journal_ledger.proofs.Leading.{ledger-is-run}
use Rattle.journal_order.proofs.Ordering.{ordered-is-run}
use Rattle.journal_order.proofs.Runs.{run-front}
use Rattle.journal.proofs.Reordering.{stands-reordered}
use Rattle.journal.specs.Records.{IsCompletion, IsOrdering, RefusesRun}

tells-ends : (ps : List Proc) (rows : ℕ) (journal : List Commit) (s : State) (ends : List End) (outputs : List (List Atom)) → StandsAfter ps rows journal s → EndsOf s ends → OutputsOf s outputs →
    TellsEnds ps rows (config_of journal) ends outputs
tells-ends ps rows journal s ends outputs stands ended printed = record {
  ends_count = ended.count ∙ stands.strands.stands.count;
  outputs_count = printed.count ∙ stands.strands.stands.count;
  each = λ t end told at_end at_output.
      let one = ended.each t end at_end ps rows journal stands in
      let two = printed.each t told at_output ps rows journal stands in
      ends-both ps rows t (config_of journal) end two.0 told one.0 one.1 two.1;
}

pub completes : (ps : List Proc) (rows : ℕ) (given commits added journal : List Commit) (s : State) (ends : List End) (outputs : List (List Atom)) (tail : ℕ) →
    IsOrdering given commits → IsRun ps rows commits → StandsAfter ps rows (commits ++ added) s → IsMaximal ps rows (config_of (commits ++ added)) →
    IsPermutation (commits ++ added) journal → IsInOrder journal → EndsOf s ends → OutputsOf s outputs → length added ≡ tail → IsCompletion ps rows given journal s ends outputs tail
completes ps rows given commits added journal s ends outputs tail order run stands maximal moved sorted ended printed count =
    let ordered = ordered-is-run ps rows (commits ++ added) journal stands.run moved sorted in
    record {
      run = ordered.0;
      in_order = sorted;
      maximal = subst (IsMaximal ps rows) (sym ordered.1) maximal;
      stands = stands-reordered ps rows (commits ++ added) journal s moved ordered.1 ordered.0 stands;
      ends_are = subst (λ (config : Config). TellsEnds ps rows config ends outputs) (sym ordered.1) (tells-ends ps rows (commits ++ added) s ends outputs stands ended printed);
      given_run = (commits, order, run);
      received = λ t chan. named-is-received ps rows journal ordered.0 t chan ∙ received-is-sent ps rows journal ordered.0 t chan;
      added = added;
      whole = IsPermutation-trans (given ++ added) (commits ++ added) journal (IsPermutation-append_left added given commits order.all) moved;
      tail_is = count;
    }

pub refuses : (ps : List Proc) (rows : ℕ) (given commits : List Commit) (fault : ReplayFault) → IsOrdering given commits → Refuses ps rows commits fault → RefusesRun ps rows given fault
refuses ps rows given commits Memory order h = tt
refuses ps rows given commits (Unlawful index) order h = (commits, order, h)

-- a ledger of these processes is a run of them, whatever part of it is looked at
pub never-refuses : (ps : List Proc) (rows : ℕ) (l : Ledger) (commits : List Commit) (fault : ReplayFault) → IsLawful l → IsOrderOf l commits → Refuses ps rows commits fault →
    IsLedgerOf ps l → l.rows ≤ rows → fault ≡ Memory
never-refuses ps rows l commits Memory law order h of enough = refl
never-refuses ps rows l commits (Unlawful index) law order h of enough = absurd (h.broken (run-front ps rows commits (index + 1) (ledger-is-run ps rows l commits law of enough order)))
