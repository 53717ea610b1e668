-- A state tells the variables with which threads stand.
use Rattle.std.proofs.Common.{◌≡◌, ℕ, List, [], ◌∷◌, Bool, true, false, if◌then◌else◌, Some, length, slice_get, sym, ap, refl, ◌∙◌, inl, inr, subst}
use Rattle.std.proofs.lemmas.Bool.{false≢true}
use Rattle.std.proofs.lemmas.Option.{same_Some, slice_get-map}
use Rattle.std.specs.Option.{option_map}
use Rattle.event.specs.Tree.{Tree as Event}
use Rattle.script_tree.specs.Processes.{Proc}
use Rattle.script_tree.specs.Trees as plain
use Rattle.script_tree.specs.declared.tree.Block.{Block as Tree}
use Rattle.thread.specs.After.{Chosen, Said, State as Here, Outcome, Goes, Offers, Finishes, Fails, Strays, after}
use Rattle.thread.specs.Machines.{Thread, Phase, HasStopped, Ready, Open, Over, Stuck, Broken}
use Rattle.thread.specs.Standing as lined
use Rattle.thread.specs.Standing.{variables_after, variables_of}
use Rattle.thread.specs.Values.{Store}
use Rattle.protocol_values.specs.declared.Atom.{Atom}
use Rattle.protocol_values.specs.declared.Commit.{Commit}
use Rattle.journal_replay.specs.Lines.{trees_in, trees_of}
use Rattle.journal_replay.specs.Replays.{StandsAfter}
use Rattle.journal_replay.specs.Runs.{Config, EndsAs, Starts, config_of, end_of}
use Rattle.journal_replay.specs.Standing.{MachineStands, StrandStands}
use Rattle.journal_replay.specs.Variables.{StandsWith}
use Rattle.thread_strand.specs.Strands.{variables_at}
use Rattle.thread.specs.declared.end.End.{End}
use Rattle.thread.specs.declared.end.End.TheVariants.{Ended, Faulted, Unstarted, Waiting}
use Rattle.journal_replay.specs.declared.state.State.{State}
use Rattle.thread_strand.specs.declared.strand.Strand.{Strand}

stopped_variables : (m : Thread) (p : Phase) → HasStopped p → lined.variables_at m p ≡ variables_after m.body m.variables m.thread m.results
stopped_variables m Ready h = absurd h
stopped_variables m (Open os ns) h = refl
stopped_variables m Over h = refl
stopped_variables m (Stuck fault) h = refl
stopped_variables m Broken h = absurd h

variables_if : (b : Bool) (s : Strand) → s.started ≡ b → variables_at s ≡ (if b then variables_of s.machine else [])
variables_if b s is = ap (λ c. if c then variables_of s.machine else []) is

machine_variables : (ps : List Proc) (t : ℕ) (results : List Chosen) (m : Thread) (h : MachineStands ps t results m) → variables_of m ≡ variables_after m.body (length h.process.variables) t results
machine_variables ps t results m h =
    stopped_variables m m.phase h.stopped
    ∙ ap (λ n. variables_after m.body n m.thread m.results) h.variables
    ∙ ap (λ n. variables_after m.body (length h.process.variables) n m.results) h.thread
    ∙ ap (variables_after m.body (length h.process.variables) t) h.given

strand_variables : (ps : List Proc) (strands : List Strand) (t : ℕ) (config : Config) (journal : List Commit) (s : Strand) → StrandStands ps config t journal s → (Starts ps config t → s.started ≡ true) → slice_get strands t ≡ Some s → (b : Bool) → s.started ≡ b
    → StandsWith ps (trees_of strands) t config (variables_at s)
strand_variables ps strands t config journal s h marked is true e = record {
  process = h.machine.process;
  is_its = h.machine.is_its;
  tree = s.machine.body;
  written = slice_get-map (λ (x : Strand). x.machine.body) strands t ∙ ap (option_map (λ (x : Strand). x.machine.body)) is;
  same = h.machine.body;
  stands = inl (h.started e, variables_if true s e ∙ machine_variables ps t (config t) s.machine h.machine);
}
strand_variables ps strands t config journal s h marked is false e = record {
  process = h.machine.process;
  is_its = h.machine.is_its;
  tree = s.machine.body;
  written = slice_get-map (λ (x : Strand). x.machine.body) strands t ∙ ap (option_map (λ (x : Strand). x.machine.body)) is;
  same = h.machine.body;
  stands = inr ((λ starts. false≢true (sym e ∙ marked starts)), variables_if false s e);
}

pub thread_variables : (ps : List Proc) (rows t : ℕ) (journal : List Commit) (state : State) (s : Strand) → StandsAfter ps rows journal state → slice_get state.threads.strands.items t ≡ Some s →
    StandsWith ps (trees_in state) t (config_of journal) (variables_at s)
thread_variables ps rows t journal state s stands is =
    strand_variables ps state.threads.strands.items t (config_of journal) journal s (stands.strands.stands.each t s is) (stands.strands.marked t s is) is s.started refl

-- PROCESSES THAT HAVE STARTED

-- the machine of the process, which runs this tree, has these variables
pub record RunsWith (p : Proc) (t : ℕ) (results : List Chosen) (variables : Store) : Type 0 where
  pub tree : Tree
  pub same : plain.block_of tree ≡ p.body
  pub are : variables ≡ variables_after tree (length p.variables) t results

pub runs_with : (ps : List Proc) (t : ℕ) (config : Config) (trees : List Tree) (variables : Store) (p : Proc) → slice_get ps t ≡ Some p → Starts ps config t → StandsWith ps trees t config variables → RunsWith p t (config t) variables
runs_with ps t config trees variables p is started stands =
    let its : stands.process ≡ p = same_Some stands.process p (sym stands.is_its ∙ is) in
    elim stands.stands [
      | inr w ↦ absurd (w.0 started)
      | inl w ↦ record {
        tree = stands.tree;
        same = stands.same ∙ ap (λ (q : Proc). q.body) its;
        are = w.1 ∙ ap (λ (q : Proc). variables_after stands.tree (length q.variables) t (config t)) its;
      }
    ]

pub has_started : (ps : List Proc) (rows t : ℕ) (config : Config) (end : End) (printed : List Atom) → (end ≡ Unstarted → ⊥) → EndsAs ps rows t config end printed → Starts ps config t
has_started ps rows t config end printed other ends = elim ends.ends [ inl w ↦ w.0 | inr w ↦ absurd (other w.1) ]

-- PROCESSES THAT WAIT

-- the process offers an event
pub record WaitsWith (p : Proc) (t : ℕ) (results : List Chosen) (variables : Store) : Type 0 where
  pub tree : Tree
  pub same : plain.block_of tree ≡ p.body
  pub event : Event
  pub said : Said
  pub offers : after p.body (length p.variables) t results ≡ Offers event said
  pub are : variables ≡ variables_after tree (length p.variables) t results

same_end : (x y : End × List Atom) → Some x ≡ Some y → x.0 ≡ y.0
same_end x y is = ap (λ (p : End × List Atom). p.0) (same_Some x y is)

waits_at : (rows count : ℕ) (x : Outcome Here) (printed : List Atom) → end_of rows count x ≡ Some (Waiting, printed) → (event : Event) × (said : Said) × (x ≡ Offers event said)
waits_at rows count (Goes value) printed is = absurd (cc (is))
waits_at rows count (Offers event said) printed is = (event, said, refl)
waits_at rows count (Finishes said []) printed is = absurd (cc (same_end (Ended, said.printed) (Waiting, printed) is))
waits_at rows count (Finishes said (r ∷ left)) printed is = absurd (cc (is))
waits_at rows count (Fails fault said []) printed is = absurd (cc (same_end (Faulted fault, said.printed) (Waiting, printed) is))
waits_at rows count (Fails fault said (r ∷ left)) printed is = absurd (cc (is))
waits_at rows count Strays printed is = absurd (cc (is))

pub waits_with : (ps : List Proc) (rows t : ℕ) (config : Config) (trees : List Tree) (printed : List Atom) (variables : Store) (p : Proc) → slice_get ps t ≡ Some p → EndsAs ps rows t config Waiting printed → StandsWith ps trees t config variables → WaitsWith p t (config t) variables
waits_with ps rows t config trees printed variables p is ends stands = elim ends.ends [
  | inr w ↦ absurd (cc (w.1))
  | inl w ↦
      let its : ends.process ≡ p = same_Some ends.process p (sym ends.is_its ∙ is) in
      let x = after p.body (length p.variables) t (config t) in
      let at = waits_at rows (length (config t)) x printed (subst (λ (q : Proc). end_of rows (length (config t)) (after q.body (length q.variables) t (config t)) ≡ Some (Waiting, printed)) its w.1) in
      let runs = runs_with ps t config trees variables p is w.0 stands in
      record { tree = runs.tree; same = runs.same; event = at.0; said = at.1; offers = at.2; are = runs.are }
]
