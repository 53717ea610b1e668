-- How the threads of a run stand.
use Rattle.std.proofs.Common.{◌≡◌, ℕ, Bool, true, false, cond, List, [], length, slice_get, Some, refl, sym, ap, ◌∙◌, subst, inl, inr}
use Rattle.std.proofs.lemmas.Bool.{false≢true}
use Rattle.script_tree.specs.Processes.{Proc}
use Rattle.script_tree.specs.Trees.{block_of}
use Rattle.thread.specs.After.{Chosen, after}
use Rattle.thread.specs.declared.machine.Turn.{Turn}
use Rattle.thread.specs.declared.machine.Turn.TheVariants.{Offering, Ended, Faulted}
use Rattle.thread.specs.Machines.{Thread, Phase, Ready, Open, Over, Stuck, Broken, IsAfterAt, HasStopped, Tells, nacks_in, offers_in}
use Rattle.protocol_values.specs.declared.Commit.{Commit}
use Rattle.thread.specs.declared.end.End.TheVariants.{Unstarted}
use Rattle.journal_replay.specs.declared.state.State.{State}
use Rattle.thread_strand.specs.declared.strand.Strand.{Strand}
use Rattle.journal_replay.specs.Replays.{OpensAs, StandsAfter}
use Rattle.journal_replay.specs.Runs.{Config, EndsAs, Starts, config_of, end_of}
use Rattle.journal_replay.specs.Standing.{StrandStands}
use Rattle.thread_strand.specs.Strands.{end_after, end_at, nacks_at, offers_at, printed_at}
use Rattle.journal_replay.proofs.Opening.{moved, opens-as}

pub end-in : (rows n : ℕ) (m : Thread) (p : Phase) (turn : Turn) → IsAfterAt m p → HasStopped p → Tells turn p →
    end_of rows n (after (block_of m.body) m.variables m.thread m.results) ≡ Some (end_after rows n turn, m.output)
end-in rows n m Ready turn is stopped tells = absurd stopped
end-in rows n m (Open os ns) Offering is stopped tells = ap (end_of rows n) is.after
end-in rows n m (Open os ns) Ended is stopped tells = absurd tells
end-in rows n m (Open os ns) (Faulted fault) is stopped tells = absurd tells
end-in rows n m Over Offering is stopped tells = absurd tells
end-in rows n m Over Ended is stopped tells = ap (end_of rows n) is
end-in rows n m Over (Faulted fault) is stopped tells = absurd tells
end-in rows n m (Stuck found) Offering is stopped tells = absurd tells
end-in rows n m (Stuck found) Ended is stopped tells = absurd tells
end-in rows n m (Stuck found) (Faulted fault) is stopped tells = rw tells (ap (end_of rows n) is)
end-in rows n m Broken turn is stopped tells = absurd stopped

strand-ends : (ps : List Proc) (rows t : ℕ) (config : Config) (earlier : List Commit) (s : Strand) → StrandStands ps config t earlier s → (Starts ps config t → s.started ≡ true) → (b : Bool) → s.started ≡ b →
    EndsAs ps rows t config (end_at rows s) (printed_at s)
strand-ends ps rows t config earlier s stands marked true e =
    let m = stands.machine in
    let count : length (config t) ≡ length s.machine.results = ap (λ (rs : List Chosen). length rs) (sym m.given) in
    let here = end-in rows (length s.machine.results) s.machine s.machine.phase s.turn m.after m.stopped stands.turn in
    record {
      process = m.process;
      is_its = m.is_its;
      ends = inl (
        stands.started e,
        ap (λ (n : ℕ). end_of rows n (after m.process.body (length m.process.variables) t (config t))) count
            ∙ ap (end_of rows (length s.machine.results)) (sym (moved ps t (config t) s.machine m)) ∙ here
            ∙ ap (λ (b : Bool). Some (cond b (end_after rows (length s.machine.results) s.turn) Unstarted, cond b s.machine.output [])) (sym e),
      );
    }
strand-ends ps rows t config earlier s stands marked false e =
    let m = stands.machine in
    record {
      process = m.process;
      is_its = m.is_its;
      ends = inr (
        λ starts. false≢true (sym e ∙ marked starts),
        ap (λ (b : Bool). cond b (end_after rows (length s.machine.results) s.turn) Unstarted) e,
        ap (λ (b : Bool). cond b s.machine.output []) e,
      );
    }

-- a thread's end and its output, as its strand tells them
pub thread-ends : (ps : List Proc) (rows t : ℕ) (journal : List Commit) (state : State) (s : Strand) → StandsAfter ps rows journal state → slice_get state.threads.strands.items t ≡ Some s →
    EndsAs ps rows t (config_of journal) (end_at state.threads.rows s) (printed_at s)
thread-ends ps rows t journal state s stands is =
    subst (λ (n : ℕ). EndsAs ps rows t (config_of journal) (end_at n s) (printed_at s)) (sym stands.rows_are)
    (strand-ends ps rows t (config_of journal) journal s (stands.strands.stands.each t s is) (stands.strands.marked t s is) s.started refl)

-- what a thread offers, as its strand tells it
strand-opens : (ps : List Proc) (t : ℕ) (config : Config) (earlier : List Commit) (s : Strand) → StrandStands ps config t earlier s → (Starts ps config t → s.started ≡ true) → (b : Bool) → s.started ≡ b →
    OpensAs ps t config (offers_at s) (nacks_at s)
strand-opens ps t config earlier s stands marked true e =
    let m = stands.machine in
    let is = opens-as ps t (config t) s.machine m in
    record {
      process = m.process;
      is_its = m.is_its;
      opens = inl (
        stands.started e,
        ap (λ (b : Bool). cond b (offers_in s.machine.phase) []) e ∙ is.0,
        ap (λ (b : Bool). cond b (nacks_in s.machine.phase) []) e ∙ is.1,
      );
    }
strand-opens ps t config earlier s stands marked false e =
    let m = stands.machine in
    record {
      process = m.process;
      is_its = m.is_its;
      opens = inr (
        λ starts. false≢true (sym e ∙ marked starts),
        ap (λ (b : Bool). cond b (offers_in s.machine.phase) []) e,
        ap (λ (b : Bool). cond b (nacks_in s.machine.phase) []) e,
      );
    }

pub thread-opens : (ps : List Proc) (rows t : ℕ) (journal : List Commit) (state : State) (s : Strand) → StandsAfter ps rows journal state → slice_get state.threads.strands.items t ≡ Some s →
    OpensAs ps t (config_of journal) (offers_at s) (nacks_at s)
thread-opens ps rows t journal state s stands is =
    strand-opens ps t (config_of journal) journal s (stands.strands.stands.each t s is) (stands.strands.marked t s is) s.started refl
