-- The strands stand after each commit of a run.
use Rattle.std.proofs.Common.{◌≡◌, ◌⊎◌, ◌==◌, ℕ, zero, suc, Bool, true, false, cond, Contains, is_none, option_and_then, List, [], ◌∷◌, ◌++◌, length, get_or, set, slice_get, Option, Some, None, refl, sym, ap, ◌∙◌, subst, arith, inl, inr, ⊎_elim}
use Rattle.std.specs.List.{list_any}
use Rattle.std.proofs.lemmas.Bool.{and_from, and_parts, cases_eq, eq-eqb, false≢true, ne_eqb}
use Rattle.std.proofs.lemmas.List.{length-append, length-set, take_all}
use Rattle.std.proofs.lemmas.Option.{none-some, same_Some, slice_get_within}
use Rattle.script_tree.specs.Processes.{Proc}
use Rattle.script_tree.specs.Spawning.{spawner}
use Rattle.script_tree.specs.Trees.{block_of}
use Rattle.thread.specs.After.{Chosen, after}
use Rattle.thread.specs.Machines.{Thread, Phase, Ready, Open, Over, Stuck, Broken, HasStopped, IsAfterAt}
use Rattle.protocol_values.specs.declared.Cause.{Cause}
use Rattle.protocol_values.specs.declared.Cause.TheVariants as cause
use Rattle.protocol_values.specs.declared.Commit.{Commit}
use Rattle.protocol_values.specs.declared.Commit.TheVariants.{Pair, Alone}
use Rattle.protocol_values.specs.declared.Message.TheVariants.{Empty}
use Rattle.protocol_values.specs.declared.Row.{Row}
use Rattle.protocol_values.specs.Commits.{stamp_of}
use Rattle.thread_strand.specs.declared.strand.Strand.{Strand}
use Rattle.journal_replay.specs.Runs.{Config, applied, with_result, message_by, IsCaused, IsLegal, HasRow, HasThread, CountsFor, CountsOf, IsGreatest, Follows, Starts, config_of, config_from, no_results}
use Rattle.journal_replay.specs.Starting.{AtOnce, Spawned, CountsForStart, InRow, InStart, HasSpawned, SpawnsAt, spawned_in}
use Rattle.journal_replay.specs.Standing.{AllStarted, AreMade, KnowsNack, MachineStands, StrandStands, Stands, StandsIn, OneGrows, OneStarts, SomeStart, NoneStarts, Start, Commits, Takes, Wakes, stamp_of_start, start_stamp}
use Rattle.thread_strand.specs.Strands.{Begins, Grows, has_run, stamp_from}
use Rattle.journal_replay.proofs.Finding.{if-some, strand-at}
use Rattle.journal_replay.proofs.Greatest.{more, more-cases, greatest-none, greatest-within}
use Rattle.journal_replay.proofs.Lists.{nothing-there, slice_get-more}
use Rattle.journal_replay.proofs.Growing.{TakesPart, strand-grows, strand-stays}
use Rattle.journal_replay.proofs.Opening.{moved}
use Rattle.journal_replay.proofs.Starting.{Touches, among-from, among-to, first-spawned, spawns-back}

-- CONFIGURATIONS

pub config_from-append : (config : Config) (cs ds : List Commit) → config_from config (cs ++ ds) ≡ config_from (config_from config cs) ds
config_from-append config [] ds = refl
config_from-append config (c ∷ cs) ds = config_from-append (applied config c) cs ds

pub config_of-more : (journal : List Commit) (c : Commit) → config_of (more journal c) ≡ applied (config_of journal) c
config_of-more journal c = config_from-append no_results journal (c ∷ [])

pub result-at : (t u : ℕ) (r : Chosen) (config : Config) → u ≡ t → with_result t r config u ≡ config u ++ r ∷ []
result-at t u r config e = ap (λ (b : Bool). cond b (config u ++ r ∷ []) (config u)) (eq-eqb u t e)

result-same : (t : ℕ) (r : Chosen) (config : Config) → with_result t r config t ≡ config t ++ r ∷ []
result-same t r config = result-at t t r config refl

pub result-other : (t u : ℕ) (r : Chosen) (config : Config) → (u ≡ t → ⊥) → with_result t r config u ≡ config u
result-other t u r config ne = ap (λ (b : Bool). cond b (config u ++ r ∷ []) (config u)) (ne_eqb u t ne)

-- STRANDS

pub set-same : (xs : List Strand) (t : ℕ) (x y : Strand) → slice_get xs t ≡ Some x → slice_get (set xs t y) t ≡ Some y
set-same [] t x y e = absurd (none-some x e)
set-same (z ∷ xs) zero x y e = refl
set-same (z ∷ xs) (suc t) x y e = set-same xs t x y e

pub set-other : (xs : List Strand) (t u : ℕ) (y : Strand) → (u ≡ t → ⊥) → slice_get (set xs t y) u ≡ slice_get xs u
set-other [] t u y ne = refl
set-other (z ∷ xs) zero zero y ne = absurd (ne refl)
set-other (z ∷ xs) zero (suc u) y ne = refl
set-other (z ∷ xs) (suc t) zero y ne = refl
set-other (z ∷ xs) (suc t) (suc u) y ne = set-other xs t u y (λ e. ne (omega (arith, e)))

pub row-thread : (c : Commit) (t g : ℕ) → HasRow c t g → HasThread c t
row-thread (Pair sender receiver chan msg stamp) t g h = ⊎_elim (λ s. inl s.0) (λ r. inr r.0) h
row-thread (Alone at why stamp) t g h = h.0

-- ONE THREAD OF A COMMIT

pub at-same : (t stamp : ℕ) (r : Chosen) (old new : List Strand) (w : OneGrows t r stamp old new) → slice_get new t ≡ Some w.behind
at-same t stamp r old new w = ap (λ (xs : List Strand). slice_get xs t) w.is ∙ set-same old t w.before w.behind w.was

pub at-other : (t u stamp : ℕ) (r : Chosen) (old new : List Strand) → OneGrows t r stamp old new → (u ≡ t → ⊥) → slice_get new u ≡ slice_get old u
at-other t u stamp r old new w ne = ap (λ (xs : List Strand). slice_get xs u) w.is ∙ set-other old t u w.behind ne

pub as-many : (t stamp : ℕ) (r : Chosen) (old new : List Strand) → OneGrows t r stamp old new → length new ≡ length old
as-many t stamp r old new w = ap (λ (xs : List Strand). length xs) w.is ∙ length-set old t w.behind

-- LEGAL COMMITS: each of their rows is its thread's next sync

pub next-alone : (ps : List Proc) (rows : ℕ) (config : Config) (at : Row × ℕ) (why : Cause) → IsCaused ps rows config at why → at.0.sync ≡ length (config at.0.thread)
next-alone ps rows config at (cause.Always m) h = h.can.next
next-alone ps rows config at (cause.Nack n) h = h.0.can.next
next-alone ps rows config at (cause.End t) h = h.0.can.next

pub started-alone : (ps : List Proc) (rows : ℕ) (config : Config) (at : Row × ℕ) (why : Cause) → IsCaused ps rows config at why → Starts ps config at.0.thread
started-alone ps rows config at (cause.Always m) h = h.started
started-alone ps rows config at (cause.Nack n) h = h.0.started
started-alone ps rows config at (cause.End t) h = h.0.started

row-here : (config : Config) (at : Row × ℕ) (t : ℕ) → at.0.thread ≡ t → at.0.sync ≡ length (config at.0.thread) → at.0.sync ≡ length (config t)
row-here config at t e next = next ∙ ap (λ (u : ℕ). length (config u)) e

pub rows-are : (ps : List Proc) (rows : ℕ) (config : Config) (c : Commit) → IsLegal ps rows config c → (t g : ℕ) → HasRow c t g → (g ≡ length (config t)) × HasThread c t
rows-are ps rows config (Pair sender receiver chan msg stamp) legal t g h = ⊎_elim
    (λ s. (sym s.1 ∙ row-here config sender t s.0 legal.1.can.next, inl s.0))
    (λ r. (sym r.1 ∙ row-here config receiver t r.0 legal.2.can.next, inr r.0)) h
rows-are ps rows config (Alone at why stamp) legal t g h = (sym h.1 ∙ row-here config at t h.0 (next-alone ps rows config at why legal), h.0)

pub starts-are : (ps : List Proc) (rows : ℕ) (config : Config) (c : Commit) → IsLegal ps rows config c → (t : ℕ) → HasThread c t → Starts ps config t
starts-are ps rows config (Pair sender receiver chan msg stamp) legal t h = ⊎_elim
    (λ s. subst (Starts ps config) s legal.1.started)
    (λ r. subst (Starts ps config) r legal.2.started) h
starts-are ps rows config (Alone at why stamp) legal t h = subst (Starts ps config) h (started-alone ps rows config at why legal)

-- what a thread of a commit takes
pub record Took (config : Config) (c : Commit) (t : ℕ) : Type 0 where
  pub result : Chosen
  pub is : applied config c t ≡ config t ++ result ∷ []
  pub row : HasRow c t (length (config t))

pub took-or-not : (ps : List Proc) (rows : ℕ) (config : Config) (c : Commit) → IsLegal ps rows config c → (t : ℕ) → Took config c t ⊎ ((applied config c t ≡ config t) × (HasThread c t → ⊥))
took-or-not ps rows config (Pair sender receiver chan msg stamp) legal t =
    let one = sender.0.thread in
    let two = receiver.0.thread in
    ⊎_elim
    (λ e. inl (record {
      result = (receiver.1, msg);
      is = result-at two t (receiver.1, msg) (with_result one (sender.1, Empty) config) e
          ∙ ap (λ (rs : List Chosen). rs ++ (receiver.1, msg) ∷ []) (result-other one t (sender.1, Empty) config (λ same. legal.0 (sym same ∙ e)));
      row = inr (sym e, row-here config receiver t (sym e) legal.2.can.next);
    }))
    (λ ne. ⊎_elim
    (λ e. inl (record {
      result = (sender.1, Empty);
      is = result-other two t (receiver.1, msg) (with_result one (sender.1, Empty) config) ne ∙ result-at one t (sender.1, Empty) config e;
      row = inl (sym e, row-here config sender t (sym e) legal.1.can.next);
    }))
    (λ other. inr (
      result-other two t (receiver.1, msg) (with_result one (sender.1, Empty) config) ne ∙ result-other one t (sender.1, Empty) config other,
      λ h. ⊎_elim (λ s. other (sym s)) (λ r. ne (sym r)) h,
    ))
    (cases_eq t one))
    (cases_eq t two)
took-or-not ps rows config (Alone at why stamp) legal t = ⊎_elim
    (λ e. inl (record {
      result = (at.1, message_by why);
      is = result-at at.0.thread t (at.1, message_by why) config e;
      row = (sym e, row-here config at t (sym e) (next-alone ps rows config at why legal));
    }))
    (λ ne. inr (result-other at.0.thread t (at.1, message_by why) config ne, λ h. ne (sym h)))
    (cases_eq t at.0.thread)

pub touches : (ps : List Proc) (rows : ℕ) (config : Config) (c : Commit) → IsLegal ps rows config c → Touches config (applied config c) c
touches ps rows config c legal t = ⊎_elim
    (λ w. inr (w.result, w.is, w.row))
    (λ no. inl no.0)
    (took-or-not ps rows config c legal t)

-- the results that a commit gives are made by it
pub made-more : (ps : List Proc) (rows : ℕ) (journal : List Commit) (c : Commit) → AreMade (config_of journal) journal → Follows ps rows journal c → AreMade (applied (config_of journal) c) (more journal c)
made-more ps rows journal c were f d t there has =
    let config = config_of journal in
    ⊎_elim
    (λ before.
    let k = were d t before has in (
      k.0,
      ⊎_elim
          (λ same. omega (arith, k.1, ap (λ (rs : List Chosen). length rs) same))
          (λ grew. omega (arith, k.1, ap (λ (rs : List Chosen). length rs) grew.1, length-append (config t) (grew.0 ∷ [])))
          (touches ps rows config c f.legal t),
      k.2,
    ))
    (λ same.
    let mine : HasThread c t = subst (λ (x : Commit). HasThread x t) (sym same) has in
    ⊎_elim
    (λ k. (length (config t), omega (arith, ap (λ (rs : List Chosen). length rs) k.is, length-append (config t) (k.result ∷ [])), subst (λ (x : Commit). HasRow x t (length (config t))) same k.row))
    (λ no. absurd (no.1 mine))
    (took-or-not ps rows config c f.legal t))
    (more-cases journal c d there)

-- THE STRANDS OF A COMMIT

-- a strand that took its result, and what its thread took
record TookStrand (config : Config) (c : Commit) (old taken : List Strand) (t : ℕ) : Type 0 where
  pub result : Chosen
  pub is : applied config c t ≡ config t ++ result ∷ []
  pub row : HasRow c t (length (config t))
  pub before : Strand
  pub behind : Strand
  pub was : slice_get old t ≡ Some before
  pub there : slice_get taken t ≡ Some behind
  pub grows : Grows result (stamp_of c) before behind

strand-took : (ps : List Proc) (rows : ℕ) (config : Config) (c : Commit) (old taken : List Strand) → IsLegal ps rows config c → Takes c old taken → (t : ℕ) →
    TookStrand config c old taken t ⊎ ((applied config c t ≡ config t) × (HasThread c t → ⊥) × (slice_get taken t ≡ slice_get old t))
strand-took ps rows config (Pair sender receiver chan msg stamp) old taken legal w t =
    let one = sender.0.thread in
    let two = receiver.0.thread in
    let middle = with_result one (sender.1, Empty) config in
    let apart : two ≡ one → ⊥ = λ e. legal.0 (sym e) in
    ⊎_elim
    (λ e. inl (subst (TookStrand config (Pair sender receiver chan msg stamp) old taken) (sym e) (record {
      result = (receiver.1, msg);
      is = result-at two two (receiver.1, msg) middle refl ∙ ap (λ (rs : List Chosen). rs ++ (receiver.1, msg) ∷ []) (result-other one two (sender.1, Empty) config apart);
      row = inr (refl, legal.2.can.next);
      before = w.2.before;
      behind = w.2.behind;
      was = sym (at-other one two stamp (sender.1, Empty) old w.0 w.1 apart) ∙ w.2.was;
      there = at-same two stamp (receiver.1, msg) w.0 taken w.2;
      grows = w.2.grows;
    })))
    (λ ne. ⊎_elim
    (λ e. inl (subst (TookStrand config (Pair sender receiver chan msg stamp) old taken) (sym e) (record {
      result = (sender.1, Empty);
      is = result-other two one (receiver.1, msg) middle legal.0 ∙ result-at one one (sender.1, Empty) config refl;
      row = inl (refl, legal.1.can.next);
      before = w.1.before;
      behind = w.1.behind;
      was = w.1.was;
      there = at-other two one stamp (receiver.1, msg) w.0 taken w.2 legal.0 ∙ at-same one stamp (sender.1, Empty) old w.0 w.1;
      grows = w.1.grows;
    })))
    (λ other. inr (
      result-other two t (receiver.1, msg) middle ne ∙ result-other one t (sender.1, Empty) config other,
      λ h. ⊎_elim (λ s. other (sym s)) (λ r. ne (sym r)) h,
      at-other two t stamp (receiver.1, msg) w.0 taken w.2 ne ∙ at-other one t stamp (sender.1, Empty) old w.0 w.1 other,
    ))
    (cases_eq t one))
    (cases_eq t two)
strand-took ps rows config (Alone at why stamp) old taken legal w t =
    let u = at.0.thread in
    ⊎_elim
    (λ e. inl (subst (TookStrand config (Alone at why stamp) old taken) (sym e) (record {
      result = (at.1, message_by why);
      is = result-at u u (at.1, message_by why) config refl;
      row = (refl, next-alone ps rows config at why legal);
      before = w.before;
      behind = w.behind;
      was = w.was;
      there = at-same u stamp (at.1, message_by why) old taken w;
      grows = w.grows;
    })))
    (λ ne. inr (
      result-other u t (at.1, message_by why) config ne,
      λ h. ne (sym h),
      at-other u t stamp (at.1, message_by why) old taken w ne,
    ))
    (cases_eq t u)

pub takes-count : (c : Commit) (old taken : List Strand) → Takes c old taken → length taken ≡ length old
takes-count (Pair sender receiver chan msg stamp) old taken w = as-many receiver.0.thread stamp (receiver.1, msg) w.0 taken w.2 ∙ as-many sender.0.thread stamp (sender.1, Empty) old w.0 w.1
takes-count (Alone at why stamp) old taken w = as-many at.0.thread stamp (at.1, message_by why) old taken w

-- a commit counts what counts for each of its threads
pub counts : (ps : List Proc) (config : Config) (c d : Commit) (t : ℕ) → HasThread c t → CountsOf ps config t d → CountsFor ps config c d
counts ps config (Pair sender receiver chan msg stamp) d t has h = ⊎_elim
    (λ s. inl (subst (λ (u : ℕ). CountsOf ps config u d) (sym s) h))
    (λ r. inr (subst (λ (u : ℕ). CountsOf ps config u d) (sym r) h)) has
counts ps config (Alone at why stamp) d t has h = inl (subst (λ (u : ℕ). CountsOf ps config u d) (sym has) h)

-- A spawn that its strand does not yet know of stands after all results of the spawner.
abbrev pub Whole : List Proc → Config → List Strand → Type 0
Whole ps config strands =
    (t from n : ℕ) (x z : Strand) → slice_get strands t ≡ Some x → x.started ≡ false → slice_get strands from ≡ Some z → z.started ≡ true →
    SpawnsAt ps from (config from) t n → x.spawner ≡ Some from → n ≡ length (config from)

module _ (ps : List Proc) (rows : ℕ) (journal : List Commit) (c : Commit) (old taken : List Strand) (stands : Stands ps journal old) (f : Follows ps rows journal c) (w : Takes c old taken) where
  abbrev config : Config
  config = config_of journal

  abbrev later : Config
  later = applied config c

  moves : Touches config later c
  moves = touches ps rows config c f.legal

  were : StandsIn ps config journal old
  were = stands.stands

  one-strand : (t : ℕ) (s : Strand) → slice_get taken t ≡ Some s → StrandStands ps later t (more journal c) s
  one-strand t s is = ⊎_elim
      (λ k.
      let same : k.behind ≡ s = same_Some k.behind s (sym k.there ∙ is) in
      let has = (rows-are ps rows config c f.legal t (length (config t)) k.row).1 in
      let began = starts-are ps rows config c f.legal t has in
      let part : TakesPart journal t (length (config t)) (stamp_of c) c = record {
        row = k.row;
        only = λ h r. (rows-are ps rows config c f.legal t h r).0;
        thread = has;
        stamp_is = refl;
        above = λ d there h. omega (arith, f.is.above d there (counts ps config c d t has (inl h)), f.stamp);
        rows_are = λ d h r. row-thread d t h r;
      } in
      subst (StrandStands ps later t (more journal c)) same
      (strand-grows ps config later journal c moves t (stamp_of c) k.result k.before k.behind (were.each t k.before k.was) k.grows part k.is
      (stands.marked t k.before k.was began)
      (λ d there h. omega (arith, f.is.above d there (counts ps config c d t has h), f.stamp))))
      (λ no. strand-stays ps config later journal c moves t s (were.each t s (sym no.2 ∙ is)) no.0 no.1 (rows-are ps rows config c f.legal))
      (strand-took ps rows config c old taken f.legal w t)

  pub stands-taken : StandsIn ps later (more journal c) taken
  stands-taken = record {
    count = takes-count c old taken w ∙ were.count;
    each = one-strand;
    made = made-more ps rows journal c were.made f;
  }

  -- whether a strand is marked has not changed
  marks-same : (t : ℕ) (s : Strand) → slice_get taken t ≡ Some s → (x : Strand) × (slice_get old t ≡ Some x) × (s.started ≡ x.started) × (s.spawner ≡ x.spawner)
  marks-same t s is = ⊎_elim
      (λ k.
      let same : k.behind ≡ s = same_Some k.behind s (sym k.there ∙ is) in
      (k.before, k.was, ap (λ (y : Strand). y.started) (sym same) ∙ k.grows.started, ap (λ (y : Strand). y.spawner) (sym same) ∙ k.grows.spawner))
      (λ no. (s, sym no.2 ∙ is, refl, refl))
      (strand-took ps rows config c old taken f.legal w t)

  pub whole-taken : Whole ps later taken
  whole-taken t from n x z is waits there runs at by =
      let a = marks-same t x is in
      let b = marks-same from z there in
      let old_x = were.each t a.0 a.1 in
      let old_z = were.each from b.0 b.1 in
      let z_runs : b.0.started ≡ true = sym b.2 ∙ runs in
      let spawner_is : spawner ps t ≡ Some from = sym old_x.spawner ∙ sym a.3 ∙ by in
      ⊎_elim
      (λ before. absurd (false≢true (sym waits ∙ a.2 ∙ stands.marked t a.0 a.1 (Spawned from n spawner_is before (old_z.started z_runs)))))
      (λ new. ⊎_elim
      (λ same. absurd (omega (arith, new.0, at.within, ap (λ (rs : List Chosen). length rs) same)))
      (λ grew. omega (arith, new.0, at.within, ap (λ (rs : List Chosen). length rs) grew.1, length-append (config from) (grew.0 ∷ [])))
      (moves from))
      (spawns-back ps config later c moves from t n at)

-- THREADS THAT START

-- what a machine that stands has spawned, its process has
spawned-at : (m : Thread) (p : Phase) → HasStopped p → IsAfterAt m p → spawned_in (after (block_of m.body) m.variables m.thread m.results) ≡ m.spawned
spawned-at m Ready stopped is = absurd stopped
spawned-at m (Open os ns) stopped is = ap spawned_in is.after
spawned-at m Over stopped is = ap spawned_in is
spawned-at m (Stuck fault) stopped is = ap spawned_in is
spawned-at m Broken stopped is = absurd stopped

pub spawned-is : (ps : List Proc) (t : ℕ) (results : List Chosen) (m : Thread) (s : MachineStands ps t results m) →
    spawned_in (after s.process.body (length s.process.variables) t results) ≡ m.spawned
spawned-is ps t results m s = ap spawned_in (sym (moved ps t results m s)) ∙ spawned-at m m.phase s.stopped s.after

pub machine-spawned : (ps : List Proc) (s t : ℕ) (results : List Chosen) (m : Thread) → MachineStands ps s results m → list_any (λ p. p == t) m.spawned ≡ true → HasSpawned ps s results t
machine-spawned ps s t results m stands h = record {
  process = stands.process;
  is_its = stands.is_its;
  spawned = subst (λ (xs : List ℕ). Contains xs t) (sym (spawned-is ps s results m stands)) (among-from m.spawned t h);
}

pub spawned-machine : (ps : List Proc) (s t : ℕ) (results : List Chosen) (m : Thread) → MachineStands ps s results m → HasSpawned ps s results t → list_any (λ p. p == t) m.spawned ≡ true
spawned-machine ps s t results m stands h =
    let process : h.process ≡ stands.process = same_Some h.process stands.process (sym h.is_its ∙ stands.is_its) in
    let here = subst (λ (q : Proc). Contains (spawned_in (after q.body (length q.variables) s results)) t) process h.spawned in
    among-to m.spawned t (subst (λ (xs : List ℕ). Contains xs t) (spawned-is ps s results m stands) here)

-- what it takes to start
pub record Due (t stamp : ℕ) (strands : List Strand) (x : Strand) : Type 0 where
  pub waits : x.started ≡ false
  pub from : ℕ
  pub by : x.spawner ≡ Some from
  pub spawner : Strand
  pub there : slice_get strands from ≡ Some spawner
  pub runs : spawner.started ≡ true
  pub spawned : list_any (λ p. p == t) spawner.machine.spawned ≡ true
  pub last : spawner.last ≡ stamp

due-from : (t stamp : ℕ) (o : Option Strand) → stamp_from t o ≡ Some stamp → (y : Strand) × (o ≡ Some y) × (y.started ≡ true) × (list_any (λ p. p == t) y.machine.spawned ≡ true) × (y.last ≡ stamp)
due-from t stamp None e = absurd (none-some stamp e)
due-from t stamp (Some y) e =
    let w = if-some (has_run y t) (Some y.last) stamp e in
    let both = and_parts y.started (list_any (λ p. p == t) y.machine.spawned) w.0 in
    (y, refl, both.0, both.1, same_Some y.last stamp w.1)

due-of : (t stamp : ℕ) (strands : List Strand) (x : Strand) (b : Bool) (o : Option ℕ) → x.started ≡ b → x.spawner ≡ o →
    cond b None (option_and_then (λ from. stamp_from t (slice_get strands from)) o) ≡ Some stamp → Due t stamp strands x
due-of t stamp strands x true o is by e = absurd (none-some stamp e)
due-of t stamp strands x false None is by e = absurd (none-some stamp e)
due-of t stamp strands x false (Some from) is by e =
    let w = due-from t stamp (slice_get strands from) e in
    record { waits = is; from = from; by = by; spawner = w.0; there = w.1; runs = w.2; spawned = w.3; last = w.4 }

pub due : (t stamp : ℕ) (strands : List Strand) (x : Strand) → slice_get strands t ≡ Some x → start_stamp strands t ≡ Some stamp → Due t stamp strands x
due t stamp strands x is e =
    due-of t stamp strands x x.started x.spawner refl refl (sym (ap (option_and_then (stamp_of_start strands t)) is) ∙ e)

-- the strand of a thread that starts, and the others
abbrev pub started-now : (t : ℕ) (old new : List Strand) → OneStarts t old new → Strand
started-now t old new w = record w.before { started = true; last = w.stamp }

pub started-same : (t : ℕ) (old new : List Strand) (w : OneStarts t old new) → slice_get new t ≡ Some (started-now t old new w)
started-same t old new w = ap (λ (xs : List Strand). slice_get xs t) w.is ∙ set-same old t w.before (started-now t old new w) w.was

pub started-other : (t u : ℕ) (old new : List Strand) → OneStarts t old new → (u ≡ t → ⊥) → slice_get new u ≡ slice_get old u
started-other t u old new w ne = ap (λ (xs : List Strand). slice_get xs u) w.is ∙ set-other old t u (started-now t old new w) ne

module _ (ps : List Proc) (config : Config) (journal : List Commit) (t : ℕ) (old new : List Strand) (stands : StandsIn ps config journal old) (whole : Whole ps config old) (w : OneStarts t old new) where
  is-due : Due t w.stamp old w.before
  is-due = due t w.stamp old w.before w.was w.due

  abbrev behind : Strand
  behind = started-now t old new w

  at-t : slice_get new t ≡ Some behind
  at-t = started-same t old new w

  at-u : (u : ℕ) → (u ≡ t → ⊥) → slice_get new u ≡ slice_get old u
  at-u u ne = started-other t u old new w ne

  waited : StrandStands ps config t journal w.before
  waited = stands.each t w.before w.was

  source : StrandStands ps config is-due.from journal is-due.spawner
  source = stands.each is-due.from is-due.spawner is-due.there

  by : spawner ps t ≡ Some is-due.from
  by = sym waited.spawner ∙ is-due.by

  spawned-here : (n : ℕ) × SpawnsAt ps is-due.from (config is-due.from) t n
  spawned-here = first-spawned ps is-due.from (config is-due.from) t (machine-spawned ps is-due.from t (config is-due.from) is-due.spawner.machine source.machine is-due.spawned)

  is-whole : spawned-here.0 ≡ length (config is-due.from)
  is-whole = whole t is-due.from spawned-here.0 w.before is-due.spawner w.was is-due.waits is-due.there is-due.runs spawned-here.1 is-due.by

  starts-now : Starts ps config t
  starts-now = Spawned is-due.from spawned-here.0 by spawned-here.1 (source.started is-due.runs)

  -- what counts for the thread is what counts for its spawner
  counts-to : (d : Commit) → Contains journal d → CountsOf ps config t d → CountsOf ps config is-due.from d
  counts-to d there (inl has) = absurd ((waited.idle is-due.waits).1 d there has)
  counts-to d there (inr (InRow s n g by' at below row)) =
      let same : s ≡ is-due.from = same_Some s is-due.from (sym by' ∙ by) in
      inl (subst (HasThread d) same (row-thread d s g row))
  counts-to d there (inr (InStart s by' h)) =
      inr (subst (CountsForStart ps config d) (same_Some s is-due.from (sym by' ∙ by)) h)

  counts-fro : (d : Commit) → Contains journal d → CountsOf ps config is-due.from d → CountsOf ps config t d
  counts-fro d there (inl has) =
      let k = stands.made d is-due.from there has in
      inr (InRow is-due.from spawned-here.0 k.0 by spawned-here.1 (omega (arith, k.1, is-whole)) k.2)
  counts-fro d there (inr h) = inr (InStart is-due.from by h)

  started-strand : StrandStands ps config t journal behind
  started-strand = record {
    machine = waited.machine;
    turn = waited.turn;
    spawner = waited.spawner;
    free = λ e. refl;
    started = λ e. starts-now;
    idle = λ e. absurd (false≢true (sym e));
    last = λ e. subst (IsGreatest journal (CountsOf ps config t)) is-due.last
        (greatest-within journal (CountsOf ps config is-due.from) (CountsOf ps config t) is-due.spawner.last counts-fro counts-to (source.last is-due.runs));
    fired = waited.fired;
  }

  pub stands-started : StandsIn ps config journal new
  stands-started = record {
    count = ap (λ (xs : List Strand). length xs) w.is ∙ length-set old t behind ∙ stands.count;
    each = λ u s is. ⊎_elim
        (λ e.
        let same : behind ≡ s = same_Some behind s (sym at-t ∙ ap (slice_get new) (sym e) ∙ is) in
        subst (λ (v : ℕ). StrandStands ps config v journal s) (sym e) (subst (StrandStands ps config t journal) same started-strand))
        (λ ne. stands.each u s (sym (at-u u ne) ∙ is))
        (cases_eq u t);
    made = stands.made;
  }

  -- the thread made no sync before it started
  pub whole-started : Whole ps config new
  whole-started u from n x z is waits there runs at by' = ⊎_elim
      (λ e. absurd (false≢true (sym waits ∙ ap (λ (y : Strand). y.started) (sym (same_Some behind x (sym at-t ∙ ap (slice_get new) (sym e) ∙ is))))))
      (λ ne. ⊎_elim
      (λ e.
      let none : config from ≡ [] = ap config e ∙ (waited.idle is-due.waits).0 in
      omega (arith, at.within, ap (λ (rs : List Chosen). length rs) none))
      (λ other. whole u from n x z (sym (at-u u ne) ∙ is) waits (sym (at-u from other) ∙ there) runs at by')
      (cases_eq from t))
      (cases_eq u t)

-- all that start
pub some-start : (ps : List Proc) (now : Config) (journal : List Commit) {old new : List Strand} → StandsIn ps now journal old → Whole ps now old → SomeStart old new →
    StandsIn ps now journal new × Whole ps now new
some-start ps now journal stands whole NoneStarts = (stands, whole)
some-start ps now journal stands whole (Start {old} {middle} {new} t first last) =
    let k = some-start ps now journal stands whole first in
    (stands-started ps now journal t middle new k.0 k.1 last, whole-started ps now journal t middle new k.0 k.1 last)

-- each process has a strand
strand-in : (ps : List Proc) (config : Config) (journal : List Commit) (strands : List Strand) (t : ℕ) (p : Proc) → StandsIn ps config journal strands → slice_get ps t ≡ Some p → (s : Strand) × (slice_get strands t ≡ Some s)
strand-in ps config journal strands t p stands is = strand-at strands t (omega (arith, slice_get_within ps t p is, stands.count))

-- where none is left that could start, each that has started is marked
module _ (ps : List Proc) (config : Config) (journal : List Commit) (strands : List Strand) (stands : StandsIn ps config journal strands) (whole : Whole ps config strands) (all : AllStarted strands) where
  not-due : (t from : ℕ) (x z : Strand) → slice_get strands t ≡ Some x → slice_get strands from ≡ Some z → z.started ≡ true → list_any (λ p. p == t) z.machine.spawned ≡ true → x.spawner ≡ Some from → (b : Bool) → x.started ≡ b → b ≡ true
  not-due t from x z is there runs spawned whose true e = refl
  not-due t from x z is there runs spawned whose false e =
      let inner : stamp_from t (slice_get strands from) ≡ Some z.last =
      ap (stamp_from t) there ∙ ap (λ (b : Bool). cond b (Some z.last) None) (and_from z.started (list_any (λ p. p == t) z.machine.spawned) runs spawned) in
      let outer : stamp_of_start strands t x ≡ Some z.last =
      ap (λ (b : Bool). cond b None (option_and_then (λ from. stamp_from t (slice_get strands from)) x.spawner)) e
      ∙ ap (option_and_then (λ from. stamp_from t (slice_get strands from))) whose ∙ inner in
      absurd (none-some z.last (sym (all t) ∙ ap (option_and_then (stamp_of_start strands t)) is ∙ outer))

  pub marked : {t : ℕ} (s : Strand) → slice_get strands t ≡ Some s → Starts ps config t → s.started ≡ true
  marked {t} s is (AtOnce none) = (stands.each t s is).free ((stands.each t s is).spawner ∙ none)
  marked {t} s is (Spawned from n by at started) =
      let z = strand-in ps config journal strands from at.there.process stands at.there.is_its in
      let runs = marked z.0 z.1 started in
      let here = stands.each from z.0 z.1 in
      let mine = stands.each t s is in
      by-mark z.0 z.1 runs here mine s.started refl
    where
      by-mark : (z : Strand) → slice_get strands from ≡ Some z → z.started ≡ true → StrandStands ps config from journal z → StrandStands ps config t journal s → (b : Bool) → s.started ≡ b → s.started ≡ true
      by-mark z there runs here mine true e = e
      by-mark z there runs here mine false e =
          let spawner_is = mine.spawner ∙ by in
          let n_is = whole t from n s z is e there runs at spawner_is in
          let last : HasSpawned ps from (config from) t = subst (λ (rs : List Chosen). HasSpawned ps from rs t) (take_all n (config from) (omega (arith, n_is))) at.there in
          not-due t from s z is there runs (spawned-machine ps from t (config from) z.machine here.machine last) spawner_is s.started refl

-- the strands of a run stand after the commit that follows
pub stands-more : (ps : List Proc) (rows : ℕ) (journal : List Commit) (c : Commit) (old new : List Strand) →
    Stands ps journal old → Follows ps rows journal c → Commits c old new → Stands ps (more journal c) new
stands-more ps rows journal c old new stands f w =
    let later = applied (config_of journal) c in
    let taken = stands-taken ps rows journal c old w.0 stands f w.1 in
    let whole = whole-taken ps rows journal c old w.0 stands f w.1 in
    let k = some-start ps later (more journal c) taken whole w.2.some in
    let is : later ≡ config_of (more journal c) = sym (config_of-more journal c) in
    record {
      stands = subst (λ (x : Config). StandsIn ps x (more journal c) new) is k.0;
      marked = λ t s there starts. marked ps later (more journal c) new k.0 k.1 w.2.all s there (subst (λ (x : Config). Starts ps x t) (sym is) starts);
    }

-- THE BEGINNING

knows-nothing : (ps : List Proc) (t k : ℕ) (o : Option ℕ) → o ≡ None → KnowsNack ps t [] [] k o
knows-nothing ps t k None e = λ g f. none-some f.chosen f.result
knows-nothing ps t k (Some x) e = absurd (none-some x (sym e))

pub nobody : (o : Option ℕ) → is_none o ≡ true → o ≡ None
nobody None e = refl
nobody (Some x) e = absurd (false≢true e)

somebody : (o : Option ℕ) → o ≡ None → is_none o ≡ true
somebody None e = refl
somebody (Some x) e = absurd (none-some x (sym e))

begin-strand : (ps : List Proc) (p : Proc) (t : ℕ) (s : Strand) → slice_get ps t ≡ Some p → Begins p (spawner ps t) t s → StrandStands ps no_results t [] s
begin-strand ps p t s is b = record {
  machine = record { process = p; is_its = is; body = b.body; variables = b.variables; thread = b.thread; given = b.results; stopped = b.stopped; after = b.after };
  turn = b.turn;
  spawner = b.spawner;
  free = λ e. b.started ∙ somebody (spawner ps t) (sym b.spawner ∙ e);
  started = λ e. AtOnce (nobody (spawner ps t) (sym b.started ∙ e));
  idle = λ e. (refl, λ d there has. absurd (omega (arith, there.1)));
  last = λ e. subst (IsGreatest [] (CountsOf ps no_results t)) (sym b.last) (greatest-none (CountsOf ps no_results t));
  fired = λ k. knows-nothing ps t k (get_or s.fired k None) (ap (λ (xs : List (Option ℕ)). get_or xs k None) b.fired ∙ nothing-there k);
}

-- the strands so far, one for each of the first processes
pub record BeginsEach (ps : List Proc) (strands : List Strand) : Type 0 where
  pub each : (t : ℕ) (s : Strand) → slice_get strands t ≡ Some s → (p : Proc) × (slice_get ps t ≡ Some p) × Begins p (spawner ps t) t s

pub begins-none : (ps : List Proc) → BeginsEach ps []
begins-none ps = record { each = λ t s e. absurd (none-some s e) }

pub begins-more : (ps : List Proc) (strands : List Strand) (p : Proc) (s : Strand) → slice_get ps (length strands) ≡ Some p → BeginsEach ps strands → Begins p (spawner ps (length strands)) (length strands) s → BeginsEach ps (strands ++ s ∷ [])
begins-more ps strands p s is before b = record {
  each = λ t x e. ⊎_elim
      (λ h. before.each t x h.1)
      (λ h. (p, ap (slice_get ps) h.0 ∙ is, subst (λ (n : ℕ). Begins p (spawner ps n) n x) (sym h.0) (subst (λ (y : Strand). Begins p (spawner ps (length strands)) (length strands) y) h.1 b)))
      (slice_get-more strands s x t e);
}

-- before the first commit: those that no text spawns have started, and those that they spawn before their first syncs
pub begins-all : (ps : List Proc) (strands new : List Strand) → length strands ≡ length ps → BeginsEach ps strands → Wakes strands new → Stands ps [] new
begins-all ps strands new count begins wakes =
    let first : StandsIn ps no_results [] strands = record {
      count = count;
      each = λ t s e. let w = begins.each t s e in begin-strand ps w.0 t s w.1 w.2;
      made = λ d t there has. absurd (omega (arith, there.1));
    } in
    let k = some-start ps no_results [] first (λ t from n x z is waits there runs at by. let low = at.within in omega (arith, low)) wakes.some in
    record { stands = k.0; marked = λ t s is starts. marked ps no_results [] new k.0 k.1 wakes.all s is starts }

-- a thread that begins made no sync, and no stamp is remembered
pub begins-low : (ps : List Proc) (strands : List Strand) → BeginsEach ps strands → (t : ℕ) (s : Strand) → slice_get strands t ≡ Some s →
    (s.machine.results ≡ []) × (s.last ≡ 0) × ((k : ℕ) → get_or s.fired k None ≡ None)
begins-low ps strands begins t s is =
    let w = begins.each t s is in
    (w.2.results, w.2.last, λ k. ap (λ (xs : List (Option ℕ)). get_or xs k None) w.2.fired ∙ nothing-there k)
