-- A thread's memory of a run, as the run grows by a commit.
use Rattle.std.proofs.Common.{◌≡◌, ℕ, ◌<◌, ◌≤◌, true, false, List, [], ◌∷◌, ◌++◌, length, get_or, slice_get, Option, Some, None, Contains, sym, ap, ◌∙◌, subst, arith, inl, inr, ⊎_elim}
use Rattle.std.proofs.lemmas.Bool.{false≢true, eq-eqb, eqb-true}
use Rattle.std.proofs.lemmas.Option.{same_Some, slice_get_within}
use Rattle.event.proofs.TreeLemmas.{mask-bits}
use Rattle.event.specs.Tree.{Tree, BaseEvent, bases, mask, scope_nacks}
use Rattle.script_tree.specs.Processes.{Proc}
use Rattle.script_tree.specs.Trees.{block_of}
use Rattle.thread.specs.After.{Chosen}
use Rattle.thread.specs.Machines.{nacks_in}
use Rattle.protocol_values.specs.declared.Commit.{Commit}
use Rattle.protocol_values.specs.declared.Offer.{Offer}
use Rattle.protocol_values.specs.Scopes.{has_scope}
use Rattle.protocol_values.specs.Commits.{stamp_of}
use Rattle.thread_strand.specs.declared.strand.Strand.{Strand}
use Rattle.journal_replay.specs.Runs.{Config, CountsOf, FiredAt, HasRow, HasThread, IsGreatest, Starts}
use Rattle.journal_replay.specs.Standing.{FiresOf, KnowsNack, MachineStands, StrandStands}
use Rattle.thread_strand.specs.Strands.{Grows}
use Rattle.journal_replay.proofs.Firing.{FiredNow, AllPass, decide, fired-kept, fired-cases, fired-now}
use Rattle.journal_replay.proofs.Greatest.{more, more-cases, greatest-other, greatest-this, greatest-same}
use Rattle.journal_replay.proofs.Opening.{OpenAt, open-at, offering-one}
use Rattle.journal_replay.proofs.Starting.{Touches, counts-back, counts-on, starts-on, uncounted}

-- what the strand of a thread has to know of the commit that it takes part in
pub record TakesPart (earlier : List Commit) (t g stamp : ℕ) (c : Commit) : Type 0 where
  pub row : HasRow c t g
  pub only : (h : ℕ) → HasRow c t h → h ≡ g
  pub thread : HasThread c t
  pub stamp_is : stamp_of c ≡ stamp
  pub above : (d : Commit) → Contains earlier d → HasThread d t → stamp_of d ≤ stamp
  pub rows_are : (d : Commit) (h : ℕ) → HasRow d t h → HasThread d t

pub outside-mask : (scopes : List ℕ) (s : ℕ) → has_scope (mask scopes) s ≡ false → Contains scopes s → ⊥
outside-mask scopes s e h = false≢true (sym e ∙ eq-eqb _ 1 ((mask-bits scopes s).1 h))

pub inside-mask : (scopes : List ℕ) (s : ℕ) → has_scope (mask scopes) s ≡ true → Contains scopes s
inside-mask scopes s e = (mask-bits scopes s).0 (eqb-true _ 1 e)

-- NACKS

abbrev grown : List Chosen → Chosen → List Chosen
grown results r = results ++ r ∷ []

-- a nack that is fired by the last sync
knows-fired : (ps : List Proc) (t : ℕ) (results : List Chosen) (earlier : List Commit) (r : Chosen) (c : Commit) (k stamp : ℕ) →
    TakesPart earlier t (length results) stamp c → FiredNow ps t results r k → KnowsNack ps t (grown results r) (more earlier c) k (Some stamp)
knows-fired ps t results earlier r c k stamp part now =
    let f = fired-now ps t results r k now in (
      (length results, f),
      greatest-this earlier c (FiresOf ps t (grown results r) k) stamp
          (λ d there w. part.above d there (part.rows_are d w.0 w.2)) (length results, f, part.row) part.stamp_is,
    )

fired-within : (ps : List Proc) (t : ℕ) (results : List Chosen) (k g : ℕ) → FiredAt ps t results k g → g < length results
fired-within ps t results k g f = slice_get_within results g f.chosen f.result

-- a nack that the last sync did not fire was fired before
fired-then : (ps : List Proc) (t : ℕ) (results : List Chosen) (r : Chosen) (k g : ℕ) → (FiredNow ps t results r k → ⊥) → FiredAt ps t (grown results r) k g → FiredAt ps t results k g
fired-then ps t results r k g none f = ⊎_elim (λ old. old) (λ now. absurd (none now.1)) (fired-cases ps t results r k g f)

-- what was known of a nack that the last sync did not fire stays so
knows-kept : (ps : List Proc) (t : ℕ) (results : List Chosen) (earlier : List Commit) (r : Chosen) (c : Commit) (k stamp : ℕ) (o : Option ℕ) →
    TakesPart earlier t (length results) stamp c → (FiredNow ps t results r k → ⊥) → KnowsNack ps t results earlier k o → KnowsNack ps t (grown results r) (more earlier c) k o
knows-kept ps t results earlier r c k stamp None part none knows = λ g f. knows g (fired-then ps t results r k g none f)
knows-kept ps t results earlier r c k stamp (Some last) part none knows =
    let same = greatest-same earlier (FiresOf ps t results k) (FiresOf ps t (grown results r) k) last
    (λ d w. (w.0, fired-kept ps t results r k w.0 w.1, w.2))
    (λ d w. (w.0, fired-then ps t results r k w.0 none w.1, w.2)) knows.1 in
    let late : FiresOf ps t (grown results r) k c → ⊥ = λ w.
    omega (arith, fired-within ps t results k w.0 (fired-then ps t results r k w.0 none w.1), part.only w.0 w.2) in
    ((knows.0.0, fired-kept ps t results r k knows.0.0 knows.0.1), greatest-other earlier c (FiresOf ps t (grown results r) k) last same late)

fires-now : (ps : List Proc) (t : ℕ) (results : List Chosen) (r : Chosen) (k s : ℕ) (o : Offer) (nacks : List ℕ) →
    OpenAt ps t results r.0 o nacks → slice_get nacks s ≡ Some k → has_scope o.scopes s ≡ false → FiredNow ps t results r k
fires-now ps t results r k s o nacks w nack out =
    let scopes : mask w.base.scopes ≡ o.scopes = ap (λ (x : Offer). x.scopes) w.made in (
      w.event,
      w.offered,
      (
        s,
        w.base,
        ap (λ (ns : List ℕ). slice_get ns s) (sym w.nacks_are) ∙ nack,
        w.is,
        outside-mask w.base.scopes s (ap (λ (m : ℕ). has_scope m s) scopes ∙ out),
      ),
    )

fires-not : (ps : List Proc) (t : ℕ) (results : List Chosen) (r : Chosen) (k : ℕ) (o : Offer) (nacks : List ℕ) →
    OpenAt ps t results r.0 o nacks → AllPass nacks (has_scope o.scopes) k → FiredNow ps t results r k → ⊥
fires-not ps t results r k o nacks w all now =
    let event : now.0 ≡ w.event = offering-one ps t results now.0 w.event now.1 w.offered in
    let nack : slice_get nacks now.2.0 ≡ Some k =
    ap (λ (ns : List ℕ). slice_get ns now.2.0) (w.nacks_are ∙ ap scope_nacks (sym event)) ∙ now.2.2 in
    let base : now.2.1 ≡ w.base =
    same_Some now.2.1 w.base (sym now.2.3 ∙ ap (λ (e : Tree). slice_get (bases e) r.0) event ∙ w.is) in
    let scopes : o.scopes ≡ mask now.2.1.scopes =
    ap (λ (x : Offer). x.scopes) (sym w.made) ∙ ap (λ (b : BaseEvent). mask b.scopes) (sym base) in
    now.2.4 (inside-mask now.2.1.scopes now.2.0 (ap (λ (m : ℕ). has_scope m now.2.0) (sym scopes) ∙ all now.2.0 nack))

-- STRANDS

abbrev Knows : List Proc → ℕ → List Chosen → List Commit → Chosen → Commit → ℕ → Option ℕ → Type 0
Knows ps t results earlier r c k o = KnowsNack ps t (grown results r) (more earlier c) k o

knows-next : (ps : List Proc) (t : ℕ) (results : List Chosen) (earlier : List Commit) (r : Chosen) (c : Commit) (stamp : ℕ) (old new : Strand) →
    MachineStands ps t results old.machine → Grows r stamp old new → TakesPart earlier t (length results) stamp c →
    (k : ℕ) → KnowsNack ps t results earlier k (get_or old.fired k None) → Knows ps t results earlier r c k (get_or new.fired k None)
knows-next ps t results earlier r c stamp old new stands grows part k knows =
    let w = open-at ps t results old.machine r.0 grows.offer stands grows.was in
    let nacks = nacks_in old.machine.phase in
    ⊎_elim
    (λ fires. subst (Knows ps t results earlier r c k) (sym (grows.fired.fires k fires.0 fires.1 fires.2))
    (knows-fired ps t results earlier r c k stamp part (fires-now ps t results r k fires.0 grows.offer nacks w fires.1 fires.2)))
    (λ all. subst (Knows ps t results earlier r c k) (sym (grows.fired.stays k all))
    (knows-kept ps t results earlier r c k stamp (get_or old.fired k None) part (fires-not ps t results r k grows.offer nacks w all) knows))
    (decide nacks (has_scope grows.offer.scopes) k)

machine-grows : (ps : List Proc) (t stamp : ℕ) (results : List Chosen) (r : Chosen) (old new : Strand) →
    MachineStands ps t results old.machine → Grows r stamp old new → MachineStands ps t (grown results r) new.machine
machine-grows ps t stamp results r old new stands grows = record {
  process = stands.process;
  is_its = stands.is_its;
  body = ap block_of grows.process.body ∙ stands.body;
  variables = grows.process.variables ∙ stands.variables;
  thread = grows.process.thread ∙ stands.thread;
  given = grows.results ∙ ap (λ (rs : List Chosen). grown rs r) stands.given;
  stopped = grows.stopped;
  after = grows.after;
}

knows-still : (ps : List Proc) (t : ℕ) (results : List Chosen) (earlier : List Commit) (c : Commit) (k : ℕ) →
    ((g : ℕ) → HasRow c t g → ⊥) → (o : Option ℕ) → KnowsNack ps t results earlier k o → KnowsNack ps t results (more earlier c) k o
knows-still ps t results earlier c k apart None knows = knows
knows-still ps t results earlier c k apart (Some last) knows =
    (knows.0, greatest-other earlier c (FiresOf ps t results k) last knows.1 (λ w. apart w.0 w.2))

module _ (ps : List Proc) (config later : Config) (earlier : List Commit) (c : Commit) (touches : Touches config later c) where
  -- what counts for a thread that has started counts as before
  counted-on : (t : ℕ) (d : Commit) → CountsOf ps config t d → CountsOf ps later t d
  counted-on t d h = ⊎_elim (λ x. inl x) (λ x. inr (counts-on ps config later c touches d x)) h

  counted-back : (t : ℕ) → Starts ps config t → (d : Commit) → CountsOf ps later t d → CountsOf ps config t d
  counted-back t started d h = ⊎_elim (λ x. inl x) (λ x. inr (counts-back ps config later c touches d x started)) h

  -- a thread that takes part in the commit
  pub strand-grows : (t stamp : ℕ) (r : Chosen) (old new : Strand) → StrandStands ps config t earlier old → Grows r stamp old new →
      TakesPart earlier t (length (config t)) stamp c → later t ≡ grown (config t) r → old.started ≡ true →
      ((d : Commit) → Contains earlier d → CountsOf ps config t d → stamp_of d ≤ stamp) → StrandStands ps later t (more earlier c) new
  strand-grows t stamp r old new stands grows part is runs above = record {
    machine = subst (λ (rs : List Chosen). MachineStands ps t rs new.machine) (sym is) (machine-grows ps t stamp (config t) r old new stands.machine grows);
    turn = grows.turn;
    spawner = grows.spawner ∙ stands.spawner;
    free = λ e. grows.started ∙ runs;
    started = λ e. starts-on ps config later c touches (stands.started runs);
    idle = λ e. absurd (false≢true (sym e ∙ grows.started ∙ runs));
    last = λ e. subst (IsGreatest (more earlier c) (CountsOf ps later t)) (sym grows.last)
        (greatest-this earlier c (CountsOf ps later t) stamp
        (λ d there h. above d there (counted-back t (stands.started runs) d h)) (inl part.thread) part.stamp_is);
    fired = λ k.
        subst (λ (rs : List Chosen). KnowsNack ps t rs (more earlier c) k (get_or new.fired k None)) (sym is)
        (knows-next ps t (config t) earlier r c stamp old new stands.machine grows part k (stands.fired k));
  }

  -- a thread that does not
  pub strand-stays : (t : ℕ) (s : Strand) → StrandStands ps config t earlier s → later t ≡ config t → (HasThread c t → ⊥) →
      ((u g : ℕ) → HasRow c u g → (g ≡ length (config u)) × HasThread c u) → StrandStands ps later t (more earlier c) s
  strand-stays t s stands is other rows = record {
    machine = subst (λ (rs : List Chosen). MachineStands ps t rs s.machine) (sym is) stands.machine;
    turn = stands.turn;
    spawner = stands.spawner;
    free = stands.free;
    started = λ e. starts-on ps config later c touches (stands.started e);
    idle = λ e. let w = stands.idle e in (
      is ∙ w.0,
      λ d there has. ⊎_elim (λ old. w.1 d old has) (λ same. other (subst (λ (x : Commit). HasThread x t) (sym same) has)) (more-cases earlier c d there),
    );
    last = λ e.
        let run = stands.started e in
        greatest-other earlier c (CountsOf ps later t) s.last
        (greatest-same earlier (CountsOf ps config t) (CountsOf ps later t) s.last (counted-on t) (counted-back t run) (stands.last e))
        (λ h. ⊎_elim other (λ x. uncounted ps config later c touches (λ u g row. (rows u g row).0) x run) h);
    fired = λ k.
        subst (λ (rs : List Chosen). KnowsNack ps t rs (more earlier c) k (get_or s.fired k None)) (sym is)
        (knows-still ps t (config t) earlier c k (λ g row. other (rows t g row).1) (get_or s.fired k None) (stands.fired k));
  }
