-- Threads that are gathered go on to where the commits lead.
use Rattle.std.proofs.Common.{◌≡◌, ◌||◌, ℕ, zero, suc, ◌+◌, ◌<◌, ◌≤◌, Bool, true, false, List, [], ◌∷◌, ◌++◌, length, get_or, take, drop, slice_get, is_none, is_some, Option, Some, None, Contains, IfSome, MatchOption, refl, sym, ap, ◌∙◌, subst, arith, inl, inr, ⊎_elim}
use Rattle.std.specs.Prelude.{not, unwrap_or}
use Rattle.std.proofs.lemmas.Bool.{cases_eq, cases_lt, false≢true}
use Rattle.std.proofs.lemmas.List.{get_or_default, length-map, length-set, length_push, take-append-drop, take-append-le, take_all, take_at, take_more}
use Rattle.std.proofs.lemmas.List.Elements.{Contains-append_left}
use Rattle.std.proofs.lemmas.List.Sums.{sum_by-cons}
use Rattle.std.proofs.lemmas.Option.{get_or_from_slice_get, none-some, same_Some, slice_get_within}
use Rattle.event.specs.Tree.{bases, offer_of}
use Rattle.script_tree.specs.Processes.{Proc}
use Rattle.script_tree.specs.Spawning.{IsPlaced, spawner}
use Rattle.script_tree.specs.Trees.{block_of}
use Rattle.thread.specs.After.{Chosen}
use Rattle.thread.specs.Machines.{HasStopped, Thread, Tells}
use Rattle.protocol_values.specs.declared.Base.{Base}
use Rattle.protocol_values.specs.declared.Base.TheVariants.{Send, Recv, Always, OnNack, OnEnd}
use Rattle.protocol_values.specs.declared.Cause.{Cause}
use Rattle.protocol_values.specs.declared.Cause.TheVariants as cause
use Rattle.protocol_values.specs.declared.Commit.{Commit}
use Rattle.protocol_values.specs.declared.Commit.TheVariants.{Pair, Alone}
use Rattle.protocol_values.specs.declared.Message.TheVariants.{Empty}
use Rattle.protocol_values.specs.declared.Row.{Row}
use Rattle.protocol_values.specs.declared.RowResult.{RowResult}
use Rattle.protocol_values.specs.Commits.{gives, stamp_of}
use Rattle.thread_strand.specs.declared.strand.Known.{Known}
use Rattle.thread_strand.specs.declared.strand.Strand.{Strand}
use Rattle.journal_replay.specs.declared.threads.Threads.{Threads}
use Rattle.journal_replay.specs.Gathering.{AreGathered, AreHad, AreKnown, CanGive, GivesAll, GivesOne, GivesRow, HasGone, IsEarly, IsHad, IsKnown, IsOpenFor, KnowsLast, OneGoesOn, waits_if, waits_in}
use Rattle.thread_strand.specs.Strands.{Gathers, GoesOn, HasBegun}
use Rattle.journal_replay.specs.Reaching.{AreAfter}
use Rattle.journal_replay.specs.Runs.{Config, CanTake, CountsOf, HasThread, IsCaused, IsGreatest, IsLegal, IsRun, Starts, applied, config_from, config_of, message_by, no_results, with_result}
use Rattle.journal_replay.specs.Searching.{Bounded, total}
use Rattle.journal_replay.specs.Standing.{IsOrdered, KnowsNack, MachineStands, StandsIn, StrandStands, Wakes}
use Rattle.journal_replay.specs.Starting.{AtOnce, HasSpawned, InRow, InStart}
use Rattle.journal_replay.proofs.Bounding.{bounded-starts}
use Rattle.journal_replay.proofs.Counting.{all_syncs, syncs_of}
use Rattle.journal_replay.proofs.Extending.{Extends, config-extends, none-from, result-stays}
use Rattle.journal_replay.proofs.Lists.{slice_get-more}
use Rattle.journal_replay.proofs.Opening.{offers-are}
use Rattle.journal_replay.proofs.Sounding.{run-sound, take-one}
use Rattle.journal_replay.proofs.Standing.{Whole, config_from-append, config_of-more, marked, next-alone, nobody, result-at, result-other, set-other, set-same, some-start, spawned-machine}
use Rattle.journal_replay.proofs.Starting.{among-from}

-- STRANDS

-- the thread's strand has gone part of the run, and knows of the rest where that leads
pub record GoneOn (ps : List Proc) (commits : List Commit) (t : ℕ) (s : Strand) : Type 0 where
  pub gone : HasGone ps t (config_of commits t) s.machine
  pub turn : Tells s.turn s.machine.phase
  pub spawner : s.spawner ≡ spawner ps t
  pub started : s.started ≡ true → Starts ps (config_of commits) t × IsGreatest commits (CountsOf ps (config_of commits) t) s.last
  pub idle : s.started ≡ false → ((d : Commit) → Contains commits d → HasThread d t → ⊥) × (s.last ≡ 0) × (s.spawner ≡ None → ⊥)
  pub fired : (k : ℕ) → KnowsNack ps t (config_of commits t) commits k (get_or s.fired k None)

-- so it is with all of them, each has had these results at least, and none had spawned before its last one a thread that has not started
pub record Together (ps : List Proc) (commits : List Commit) (config : Config) (strands : List Strand) : Type 0 where
  pub count : length strands ≡ length ps
  pub each : (t : ℕ) (s : Strand) → slice_get strands t ≡ Some s → GoneOn ps commits t s
  pub reached : (t : ℕ) (s : Strand) → slice_get strands t ≡ Some s → length (config t) ≤ length s.machine.results
  pub ready : (t u n : ℕ) (z x : Strand) → slice_get strands t ≡ Some z → z.started ≡ true → slice_get strands u ≡ Some x → x.started ≡ false →
      n < length z.machine.results → HasSpawned ps t (take n z.machine.results) u → ⊥

-- A RESULT MORE

waits-there : (strands : List Strand) (t : ℕ) (s : Strand) → slice_get strands t ≡ Some s → s.started ≡ false → waits_in strands t ≡ true
waits-there strands t s is waits = ap waits_if is ∙ ap not waits

kept-spawned : (xs ys : List ℕ) (u : ℕ) (added : List ℕ) → ys ≡ xs ++ added → Contains xs u → Contains ys u
kept-spawned xs ys u added e h = subst (λ (l : List ℕ). Contains l u) (sym e) (Contains-append_left xs added u h)

machine-goes : (ps : List Proc) (t : ℕ) (r : Chosen) (old new : Strand) → MachineStands ps t old.machine.results old.machine → GoesOn r old new → MachineStands ps t new.machine.results new.machine
machine-goes ps t r old new s goes = record {
  process = s.process;
  is_its = s.is_its;
  body = ap block_of goes.process.body ∙ s.body;
  variables = goes.process.variables ∙ s.variables;
  thread = goes.process.thread ∙ s.thread;
  given = refl;
  stopped = goes.stopped;
  after = goes.after;
}

spawned-by : (ps : List Proc) (t u : ℕ) (m : Thread) → MachineStands ps t m.results m → HasSpawned ps t m.results u → Contains m.spawned u
spawned-by ps t u m stands h = among-from m.spawned u (spawned-machine ps t u m.results m stands h)

goes-size : (r : Chosen) (old new : Strand) → GoesOn r old new → length new.machine.results ≡ length old.machine.results + 1
goes-size r old new goes = ap (λ (rs : List Chosen). length rs) goes.results ∙ length_push old.machine.results r

goes-front : (r : Chosen) (old new : Strand) (n : ℕ) → GoesOn r old new → n ≤ length old.machine.results → take n new.machine.results ≡ take n old.machine.results
goes-front r old new n goes le = ap (take n) goes.results ∙ take-append-le n old.machine.results (r ∷ []) le

goes-gone : (ps : List Proc) (t : ℕ) (rs : List Chosen) (r : Chosen) (old new : Strand) → HasGone ps t rs old.machine → GoesOn r old new → slice_get rs (length old.machine.results) ≡ Some r → HasGone ps t rs new.machine
goes-gone ps t rs r old new gone goes is =
    let g = length old.machine.results in
    let within = slice_get_within rs g r is in
    let size = goes-size r old new goes in
    let stands = machine-goes ps t r old new gone.stands goes in
    record {
      stands = stands;
      part = goes.results ∙ ap (λ (xs : List Chosen). xs ++ r ∷ []) gone.part ∙ ap (λ (x : Chosen). take g rs ++ x ∷ []) (sym (get_or_from_slice_get rs g r r is))
          ∙ sym (take_more rs g r within) ∙ ap (λ (n : ℕ). take n rs) (sym size);
      told = λ n u le has. ⊎_elim
          (λ lt.
          let low : n ≤ g = omega (arith, lt) in
          kept-spawned old.machine.spawned new.machine.spawned u goes.spawned.0 goes.spawned.1
          (gone.told n u low (subst (λ (xs : List Chosen). HasSpawned ps t xs u) (goes-front r old new n goes low) has)))
          (λ ge. spawned-by ps t u new.machine stands (subst (λ (xs : List Chosen). HasSpawned ps t xs u) (take_all n new.machine.results (omega (arith, ge, size))) has))
          (cases_lt n (g + 1));
    }

goes-on : (ps : List Proc) (commits : List Commit) (t : ℕ) (r : Chosen) (old new : Strand) → GoneOn ps commits t old → GoesOn r old new → slice_get (config_of commits t) (length old.machine.results) ≡ Some r → GoneOn ps commits t new
goes-on ps commits t r old new before goes is = record {
  gone = goes-gone ps t (config_of commits t) r old new before.gone goes is;
  turn = goes.turn;
  spawner = goes.spawner ∙ before.spawner;
  started = λ e.
      let w = before.started (sym goes.started ∙ e) in
      (w.0, subst (IsGreatest commits (CountsOf ps (config_of commits) t)) (sym goes.last) w.1);
  idle = λ e. let w = before.idle (sym goes.started ∙ e) in (w.0, goes.last ∙ w.1, λ none. w.2 (sym goes.spawner ∙ none));
  fired = λ k. subst (λ (xs : List (Option ℕ)). KnowsNack ps t (config_of commits t) commits k (get_or xs k None)) (sym goes.fired) (before.fired k);
}

longer : (t u : ℕ) (r : Chosen) (config : Config) → u ≡ t → length (with_result t r config u) ≡ length (config u) + 1
longer t u r config e = ap (λ (rs : List Chosen). length rs) (result-at t u r config e) ∙ length_push (config u) r

no-longer : (t u : ℕ) (r : Chosen) (config : Config) → (u ≡ t → ⊥) → length (with_result t r config u) ≡ length (config u)
no-longer t u r config ne = ap (λ (rs : List Chosen). length rs) (result-other t u r config ne)

-- a row whose thread has had its result
row-had : (ps : List Proc) (commits : List Commit) (config : Config) (at : Row × ℕ) (r : Chosen) (strands : List Strand) → Together ps commits config strands → at.0.sync ≡ length (config at.0.thread) →
    IsHad at strands → Together ps commits (with_result at.0.thread r config) strands
row-had ps commits config at r strands all next had = record {
  count = all.count;
  each = all.each;
  reached = λ t s is. ⊎_elim
      (λ e. ⊎_elim
      (λ lt. omega (arith, lt, longer at.0.thread t r config e))
      (λ ge.
      let here = all.reached t s is in
      absurd (had s (ap (slice_get strands) (sym e) ∙ is) (omega (arith, ge, here, next, ap (λ (u : ℕ). length (config u)) e))))
      (cases_lt (length (config t)) (length s.machine.results)))
      (λ ne. omega (arith, all.reached t s is, no-longer at.0.thread t r config ne))
      (cases_eq t at.0.thread);
  ready = all.ready;
}

module _ (ps : List Proc) (commits : List Commit) (config : Config) (at : Row × ℕ) (r : Chosen) (old new : List Strand) (all : Together ps commits config old)
    (next : at.0.sync ≡ length (config at.0.thread)) (is_its : slice_get (config_of commits at.0.thread) at.0.sync ≡ Some r) (w : OneGoesOn at r old new) where
  abbrev thread : ℕ
  thread = at.0.thread

  here : slice_get new thread ≡ Some w.behind
  here = ap (λ (xs : List Strand). slice_get xs thread) w.is ∙ set-same old thread w.before w.behind w.was

  other : (u : ℕ) → (u ≡ thread → ⊥) → slice_get new u ≡ slice_get old u
  other u ne = ap (λ (xs : List Strand). slice_get xs u) w.is ∙ set-other old thread u w.behind ne

  is-behind : (u : ℕ) (s : Strand) → slice_get new u ≡ Some s → u ≡ thread → w.behind ≡ s
  is-behind u s is e = same_Some w.behind s (sym here ∙ ap (slice_get new) (sym e) ∙ is)

  gone-behind : GoneOn ps commits thread w.behind
  gone-behind = goes-on ps commits thread r w.before w.behind (all.each thread w.before w.was) w.goes (ap (slice_get (config_of commits thread)) (sym w.next) ∙ is_its)

  size : length w.behind.machine.results ≡ at.0.sync + 1
  size = omega (arith, goes-size r w.before w.behind w.goes, w.next)

  -- a strand that waits waited before
  waited : (u : ℕ) (x : Strand) → slice_get new u ≡ Some x → x.started ≡ false → (y : Strand) × (slice_get old u ≡ Some y) × (y.started ≡ false)
  waited u x is waits = ⊎_elim
      (λ e. (w.before, ap (slice_get old) e ∙ w.was, sym w.goes.started ∙ ap (λ (s : Strand). s.started) (is-behind u x is e) ∙ waits))
      (λ ne. (x, sym (other u ne) ∙ is, waits))
      (cases_eq u thread)

  early : (u n : ℕ) (y : Strand) → w.before.started ≡ true → slice_get old u ≡ Some y → y.started ≡ false → n < length w.behind.machine.results → HasSpawned ps thread (take n w.behind.machine.results) u → ⊥
  early u n y runs there waits lt has =
      let low : n ≤ length w.before.machine.results = omega (arith, lt, goes-size r w.before w.behind w.goes) in
      let told = (all.each thread w.before w.was).gone.told n u low (subst (λ (xs : List Chosen). HasSpawned ps thread xs u) (goes-front r w.before w.behind n w.goes low) has) in
      w.ready (record { strand = w.before; is_its = w.was; started = runs; other = u; spawned = told; waits = waits-there old u y there waits })

  row-goes : Together ps commits (with_result thread r config) new
  row-goes = record {
    count = ap (λ (xs : List Strand). length xs) w.is ∙ length-set old thread w.behind ∙ all.count;
    each = λ u s is. ⊎_elim
        (λ e. subst (λ (v : ℕ). GoneOn ps commits v s) (sym e) (subst (GoneOn ps commits thread) (is-behind u s is e) gone-behind))
        (λ ne. all.each u s (sym (other u ne) ∙ is))
        (cases_eq u thread);
    reached = λ u s is. ⊎_elim
        (λ e. omega (arith, longer thread u r config e, ap (λ (v : ℕ). length (config v)) e, next, size, ap (λ (x : Strand). length x.machine.results) (is-behind u s is e)))
        (λ ne. omega (arith, all.reached u s (sym (other u ne) ∙ is), no-longer thread u r config ne))
        (cases_eq u thread);
    ready = λ t u n z x is runs there waits lt has.
        let y = waited u x there waits in
        ⊎_elim
        (λ e.
        let same : w.behind ≡ z = is-behind t z is e in
        early u n y.0 (sym w.goes.started ∙ ap (λ (s : Strand). s.started) same ∙ runs) y.1 y.2
        (omega (arith, lt, ap (λ (s : Strand). length s.machine.results) same))
        (subst (λ (v : ℕ). HasSpawned ps v (take n w.behind.machine.results) u) e (subst (λ (s : Strand). HasSpawned ps t (take n s.machine.results) u) (sym same) has)))
        (λ ne. all.ready t u n z y.0 (sym (other t ne) ∙ is) runs y.1 y.2 lt has)
        (cases_eq t thread);
  }

row-given : (ps : List Proc) (commits : List Commit) (config : Config) (at : Row × ℕ) (r : Chosen) (old new : List Strand) → Together ps commits config old → at.0.sync ≡ length (config at.0.thread) →
    slice_get (config_of commits at.0.thread) at.0.sync ≡ Some r → GivesRow at r old new true → Together ps commits (with_result at.0.thread r config) new
row-given ps commits config at r old new all next is (inl (had, same)) = subst (Together ps commits (with_result at.0.thread r config)) (sym same) (row-had ps commits config at r old all next had)
row-given ps commits config at r old new all next is (inr w) = row-goes ps commits config at r old new all next is w

-- A COMMIT MORE

abbrev pub Leads : Config → List Commit → Type 0
Leads config commits = (t : ℕ) → Extends (config t) (config_of commits t)

given : (ps : List Proc) (rows : ℕ) (commits : List Commit) (config : Config) (c : Commit) (old new : List Strand) → Together ps commits config old → IsLegal ps rows config c → Leads (applied config c) commits →
    GivesAll c old new → Together ps commits (applied config c) new
given ps rows commits config (Pair sender receiver chan msg stamp) old new all legal later w =
    let s = sender.0.thread in
    let u = receiver.0.thread in
    let sent : Chosen = (sender.1, Empty) in
    let got : Chosen = (receiver.1, msg) in
    let middle = with_result s sent config in
    let apart : u ≡ s → ⊥ = λ e. legal.0 (sym e) in
    let is_s : with_result u got middle s ≡ config s ++ sent ∷ [] = result-other u s got middle legal.0 ∙ result-at s s sent config refl in
    let is_u : with_result u got middle u ≡ config u ++ got ∷ [] = result-at u u got middle refl ∙ ap (λ (rs : List Chosen). rs ++ got ∷ []) (result-other s u sent config apart) in
    let at_s = result-stays (config s) (config_of commits s) sent sender.0.sync legal.1.can.next (subst (λ (rs : List Chosen). Extends rs (config_of commits s)) is_s (later s)) in
    let at_u = result-stays (config u) (config_of commits u) got receiver.0.sync legal.2.can.next (subst (λ (rs : List Chosen). Extends rs (config_of commits u)) is_u (later u)) in
    let first = row-given ps commits config sender sent old w.0 all legal.1.can.next at_s w.1 in
    row-given ps commits middle receiver got w.0 new first (legal.2.can.next ∙ ap (λ (rs : List Chosen). length rs) (sym (result-other s u sent config apart))) at_u w.2
given ps rows commits config (Alone at why stamp) old new all legal later w =
    let t = at.0.thread in
    let r : Chosen = (at.1, message_by why) in
    let next = next-alone ps rows config at why legal in
    let is_t : with_result t r config t ≡ config t ++ r ∷ [] = result-at t t r config refl in
    let at_t = result-stays (config t) (config_of commits t) r at.0.sync next (subst (λ (rs : List Chosen). Extends rs (config_of commits t)) is_t (later t)) in
    row-given ps commits config at r old new all next at_t w

open-for : (ps : List Proc) (rows : ℕ) (commits : List Commit) (config : Config) (at : Row × ℕ) (b : Base) (strands : List Strand) → Together ps commits config strands → Leads config commits →
    CanTake ps rows (config at.0.thread) at b → IsOpenFor strands at
open-for ps rows commits config at b strands all leads can s is next =
    let t = at.0.thread in
    let gone = (all.each t s is).gone in
    let whole : s.machine.results ≡ config t = gone.part ∙ ap (λ (n : ℕ). take n (config_of commits t)) (sym next ∙ can.next) ∙ ap (take (length (config t))) (leads t).1
    ∙ take_at (config t) (leads t).0 (length (config t)) refl in
    let are = offers-are ps t (config t) s.machine can.event (subst (λ (rs : List Chosen). MachineStands ps t rs s.machine) whole gone.stands) can.offered in
    omega (arith, ap (λ os. length os) are, length-map (bases can.event) offer_of, slice_get_within (bases can.event) at.1 can.base can.is)

alone-open : (ps : List Proc) (rows : ℕ) (commits : List Commit) (config : Config) (at : Row × ℕ) (why : Cause) (strands : List Strand) → Together ps commits config strands → Leads config commits →
    IsCaused ps rows config at why → IsOpenFor strands at
alone-open ps rows commits config at (cause.Always m) strands all leads legal = open-for ps rows commits config at (Always m) strands all leads legal.can
alone-open ps rows commits config at (cause.Nack n) strands all leads legal = open-for ps rows commits config at (OnNack n) strands all leads legal.0.can
alone-open ps rows commits config at (cause.End t) strands all leads legal = open-for ps rows commits config at (OnEnd t) strands all leads legal.0.can

can-give-at : (ps : List Proc) (rows : ℕ) (commits : List Commit) (config : Config) (c : Commit) (strands : List Strand) → Together ps commits config strands → Leads config commits → IsLegal ps rows config c → CanGive strands c
can-give-at ps rows commits config (Pair sender receiver chan msg stamp) strands all leads legal = (
  legal.0,
  open-for ps rows commits config sender (Send chan msg) strands all leads legal.1.can,
  open-for ps rows commits config receiver (Recv chan) strands all leads legal.2.can,
)
can-give-at ps rows commits config (Alone at why stamp) strands all leads legal = alone-open ps rows commits config at why strands all leads legal

-- ALL COMMITS

-- the threads behind so many of the commits
pub record Gathering (ps : List Proc) (rows : ℕ) (commits : List Commit) (i : ℕ) (s : Threads) : Type 0 where
  pub rows_are : s.rows ≡ rows
  pub low : rows ≤ 67107840
  pub later : s.later ≡ false → (t : ℕ) → t < length ps → spawner ps t ≡ None
  pub together : Together ps commits (config_of (take i commits)) s.strands.items

leads-on : (commits : List Commit) (i : ℕ) → Leads (config_of (take i commits)) commits
leads-on commits i t =
    let w = config-extends (config_of (take i commits)) (drop i commits) t in
    let is : config_of commits t ≡ config_from (config_of (take i commits)) (drop i commits) t =
    ap (λ (cs : List Commit). config_of cs t) (sym (take-append-drop i commits)) ∙ ap (λ (f : Config). f t) (config_from-append no_results (take i commits) (drop i commits)) in
    (w.0, is ∙ w.1)

-- the receiver of a pair is still open, once its sender was given its result
receiver-open : (sender receiver : Row × ℕ) (chosen : Chosen) (old middle : List Strand) → (sender.0.thread ≡ receiver.0.thread → ⊥) → IsOpenFor old receiver → GivesRow sender chosen old middle true → IsOpenFor middle receiver
receiver-open sender receiver chosen old middle apart ready given s at next = ⊎_elim
    (λ had. ready s (sym (ap (λ (l : List Strand). slice_get l receiver.0.thread) had.1) ∙ at) next)
    (λ goes. ready s (sym (ap (λ (l : List Strand). slice_get l receiver.0.thread) goes.is ∙ set-other old sender.0.thread receiver.0.thread goes.behind (λ e. apart (sym e))) ∙ at) next)
    given

-- nothing is given where all was had
pub gives-nothing : (c : Commit) (strands : List Strand) → AreHad c strands → GivesAll c strands strands
gives-nothing (Pair sender receiver chan msg stamp) strands had = (strands, inl (had.0, refl), inl (had.1, refl))
gives-nothing (Alone at why stamp) strands had = inl (had, refl)

pub open-still : (c : Commit) (first second : RowResult) (old middle : List Strand) → gives c ≡ (first, Some second) → CanGive old c → GivesOne first old middle true → IsOpenFor middle second.at
open-still (Pair sender receiver chan msg stamp) first second old middle is can given =
    subst (λ (r : RowResult). IsOpenFor middle r.at) (same_Some _ second (ap (λ (z : RowResult × Option RowResult). z.1) is))
    (receiver-open sender receiver (sender.1, Empty) old middle can.0 can.2 (subst (λ (r : RowResult). GivesOne r old middle true) (sym (ap (λ (z : RowResult × Option RowResult). z.0) is)) given))
open-still (Alone at why stamp) first second old middle is can given = absurd (none-some second (ap (λ (z : RowResult × Option RowResult). z.1) is))

pub can-give : (ps : List Proc) (rows : ℕ) (commits : List Commit) (i : ℕ) (d : Commit) (s : Threads) → IsRun ps rows commits → Gathering ps rows commits i s → i < length commits → slice_get commits i ≡ Some d → CanGive s.strands.items d
can-give ps rows commits i d s run g lt is = can-give-at ps rows commits (config_of (take i commits)) d s.strands.items g.together (leads-on commits i) (run i d is).legal

pub gives-one : (ps : List Proc) (rows : ℕ) (commits : List Commit) (i : ℕ) (d : Commit) (s t : Threads) → IsRun ps rows commits → Gathering ps rows commits i s → i < length commits → slice_get commits i ≡ Some d →
    GivesAll d s.strands.items t.strands.items → t.rows ≡ s.rows → t.later ≡ s.later → Gathering ps rows commits (i + 1) t
gives-one ps rows commits i d s t run g lt is w rows_same later_same =
    let config = config_of (take i commits) in
    let next : config_of (take (i + 1) commits) ≡ applied config d = ap config_of (take-one commits i d is lt) ∙ config_of-more (take i commits) d in
    let leads : Leads (applied config d) commits = λ u. subst (λ (f : Config). Extends (f u) (config_of commits u)) next (leads-on commits (i + 1) u) in
    record {
      rows_are = rows_same ∙ g.rows_are;
      low = g.low;
      later = λ quiet. g.later (sym later_same ∙ quiet);
      together = subst (λ (f : Config). Together ps commits f t.strands.items) (sym next)
          (given ps rows commits config d s.strands.items t.strands.items g.together (run i d is).legal leads w);
    }

-- THE BEGINNING

gone-begun : (ps : List Proc) (t : ℕ) (p : Proc) (rs : List Chosen) (m : Thread) → slice_get ps t ≡ Some p → HasBegun p t m → HasGone ps t rs m
gone-begun ps t p rs m is b =
    let stands : MachineStands ps t m.results m = record { process = p; is_its = is; body = b.body; variables = b.variables; thread = b.thread; given = refl; stopped = b.stopped; after = b.after } in
    record {
      stands = stands;
      part = b.results ∙ sym (ap (λ (xs : List Chosen). take (length xs) rs) b.results);
      told = λ n u le has.
          spawned-by ps t u m stands
          (subst (λ (xs : List Chosen). HasSpawned ps t xs u) (ap (take n) b.results ∙ take_all n [] (omega arith) ∙ sym b.results) has);
    }

gone-known : (ps : List Proc) (t : ℕ) (p : Proc) (rs : List Chosen) (m : Thread) (o : Option Thread) → slice_get ps t ≡ Some p → MatchOption o (HasBegun p t m) (λ x. m ≡ x) → IfSome o (HasGone ps t rs) → HasGone ps t rs m
gone-known ps t p rs m None is w h = gone-begun ps t p rs m is w
gone-known ps t p rs m (Some x) is w h = subst (HasGone ps t rs) (sym w) h

-- what counts for a thread that no text spawns is of the thread
counts-own : (ps : List Proc) (commits : List Commit) (t : ℕ) → spawner ps t ≡ None → ((d : Commit) → Contains commits d → HasThread d t → ⊥) → (d : Commit) → Contains commits d → CountsOf ps (config_of commits) t d → ⊥
counts-own ps commits t none never d there (inl has) = never d there has
counts-own ps commits t none never d there (inr (InRow s n g by at below row)) = none-some s (sym none ∙ by)
counts-own ps commits t none never d there (inr (InStart s by counts)) = none-some s (sym none ∙ by)

known-started : (ps : List Proc) (commits : List Commit) (t last : ℕ) (o : Option ℕ) (b : Bool) → KnowsLast ps commits t o → b ≡ (is_some o || is_none (spawner ps t)) → last ≡ unwrap_or o 0 → b ≡ true →
    Starts ps (config_of commits) t × IsGreatest commits (CountsOf ps (config_of commits) t) last
known-started ps commits t last (Some stamp) b h e is runs = (h.0, subst (IsGreatest commits (CountsOf ps (config_of commits) t)) (sym is) h.1)
known-started ps commits t last None b h e is runs =
    let none = nobody (spawner ps t) (sym e ∙ runs) in (
      AtOnce none,
      record { above = λ d there counts. absurd (counts-own ps commits t none h d there counts); there = inl is },
    )

known-idle : (ps : List Proc) (commits : List Commit) (t last : ℕ) (o from : Option ℕ) (b : Bool) → KnowsLast ps commits t o → b ≡ (is_some o || is_none from) → last ≡ unwrap_or o 0 → b ≡ false →
    ((d : Commit) → Contains commits d → HasThread d t → ⊥) × (last ≡ 0) × (from ≡ None → ⊥)
known-idle ps commits t last (Some stamp) from b h e is waits = absurd (false≢true (sym waits ∙ e))
known-idle ps commits t last None from b h e is waits = (h, is, λ none. false≢true (sym waits ∙ e ∙ ap is_none none))

gathered-one : (ps : List Proc) (commits : List Commit) (t : ℕ) (p : Proc) (k : Known) (s : Strand) → slice_get ps t ≡ Some p → IsKnown ps commits t k → Gathers p (spawner ps t) t k s → GoneOn ps commits t s
gathered-one ps commits t p k s is known g = record {
  gone = gone-known ps t p (config_of commits t) s.machine k.machine is g.machine known.machine;
  turn = g.turn;
  spawner = g.spawner;
  started = known-started ps commits t s.last k.last s.started known.last g.started g.last;
  idle = λ waits.
      let w = known-idle ps commits t s.last k.last (spawner ps t) s.started known.last g.started g.last waits in
      (w.0, w.1, λ none. w.2 (sym g.spawner ∙ none));
  fired = λ n. subst (λ (xs : List (Option ℕ)). KnowsNack ps t (config_of commits t) commits n (get_or xs n None)) (sym g.fired) (known.fired n);
}

pub gathering-none : (ps : List Proc) (rows : ℕ) (commits : List Commit) (known : List Known) (s : Threads) → AreKnown ps commits known → AreGathered ps rows known s → ((t : ℕ) → IsEarly s.strands.items t → ⊥) →
    Gathering ps rows commits 0 s
gathering-none ps rows commits known s are g none =
    let each : (t : ℕ) (x : Strand) → slice_get s.strands.items t ≡ Some x → GoneOn ps commits t x =
    λ t x is. let w = g.each t x is in gathered-one ps commits t w.0 w.1 x w.2 (are.each t w.1 w.3) w.4 in
    record {
      rows_are = g.rows_are;
      low = g.low;
      later = g.later;
      together = record {
        count = g.count;
        each = each;
        reached = λ t x is. omega arith;
        ready = λ t u n z x is runs there waits lt has.
            let told = (each t z is).gone.told n u (omega (arith, lt)) has in
            none t (record { strand = z; is_its = is; started = runs; other = u; spawned = told; waits = waits-there s.strands.items u x there waits });
      };
    }

-- THE END

module _ (ps : List Proc) (rows : ℕ) (commits : List Commit) (strands : List Strand) (run : IsRun ps rows commits) (all : Together ps commits (config_of commits) strands) where
  abbrev final : Config
  final = config_of commits

  whole : (t : ℕ) (s : Strand) → slice_get strands t ≡ Some s → s.machine.results ≡ final t
  whole t s is = (all.each t s is).gone.part ∙ take_all (length s.machine.results) (final t) (all.reached t s is)

  started-or : (b : Bool) → (b ≡ false → ⊥) → b ≡ true
  started-or true never = refl
  started-or false never = absurd (never refl)

  strand-stands : (t : ℕ) (s : Strand) → slice_get strands t ≡ Some s → StrandStands ps final t commits s
  strand-stands t s is =
      let g = all.each t s is in
      record {
        machine = subst (λ (rs : List Chosen). MachineStands ps t rs s.machine) (whole t s is) g.gone.stands;
        turn = g.turn;
        spawner = g.spawner;
        free = λ none. started-or s.started (λ waits. (g.idle waits).2 none);
        started = λ runs. (g.started runs).0;
        idle = λ waits. (none-from no_results commits t (g.idle waits).0, (g.idle waits).0);
        last = λ runs. (g.started runs).1;
        fired = g.fired;
      }

  all-stand : StandsIn ps final commits strands
  all-stand = record { count = all.count; each = strand-stands; made = (run-sound ps rows commits run).made }

  all-whole : Whole ps final strands
  all-whole t from n x z is waits there runs at by = ⊎_elim
      (λ lt.
      let same = whole from z there in
      absurd (all.ready from t n z x there runs is waits (omega (arith, lt, ap (λ (rs : List Chosen). length rs) same))
      (subst (λ (rs : List Chosen). HasSpawned ps from (take n rs) t) (sym same) at.there)))
      (λ ge. omega (arith, ge, at.within))
      (cases_lt n (length (final from)))

front : (n : ℕ) (config : Config) → syncs_of (suc n) config ≡ length (config 0) + syncs_of n (λ t. config (suc t))
unfolding syncs_of
front zero config = omega arith
front (suc n) config = omega (arith, front n config)

sums : (strands : List Strand) (config : Config) → ((t : ℕ) (s : Strand) → slice_get strands t ≡ Some s → length s.machine.results ≡ length (config t)) → total strands ≡ syncs_of (length strands) config
unfolding syncs_of
sums [] config are = refl
sums (s ∷ ss) config are =
    let step : total (s ∷ ss) ≡ length s.machine.results + total ss = sum_by-cons (λ (x : Strand). length x.machine.results) s ss in
    omega (arith, step, are 0 s refl, sums ss (λ t. config (suc t)) (λ t x is. are (suc t) x is), front (length ss) config)

greatest-low : (commits : List Commit) (Kind : Commit → Type 0) (stamp limit : ℕ) → ((c : Commit) → Contains commits c → stamp_of c ≤ limit) → IsGreatest commits Kind stamp → stamp ≤ limit
greatest-low commits Kind stamp limit low g = ⊎_elim (λ z. omega (arith, z)) (λ w. omega (arith, low w.0 w.1, w.3)) g.there

fired-low : (ps : List Proc) (t : ℕ) (results : List Chosen) (commits : List Commit) (k stamp limit : ℕ) (o : Option ℕ) → ((c : Commit) → Contains commits c → stamp_of c ≤ limit) → KnowsNack ps t results commits k o → o ≡ Some stamp → stamp ≤ limit
fired-low ps t results commits k stamp limit None low knows e = absurd (none-some stamp e)
fired-low ps t results commits k stamp limit (Some x) low knows e = omega (arith, greatest-low commits _ x limit low knows.1, same_Some x stamp e)

all-bounded : (ps : List Proc) (rows : ℕ) (commits : List Commit) (strands : List Strand) → IsRun ps rows commits → Together ps commits (config_of commits) strands → Bounded rows strands
all-bounded ps rows commits strands run all =
    let sound = run-sound ps rows commits run in
    let size : (t : ℕ) (s : Strand) → slice_get strands t ≡ Some s → length s.machine.results ≡ length (config_of commits t) =
    λ t s is. ap (λ (rs : List Chosen). length rs) (whole ps rows commits strands run all t s is) in
    let sum : total strands ≡ all_syncs ps rows (config_of commits) = sums strands (config_of commits) size ∙ ap (λ (n : ℕ). syncs_of n (config_of commits)) all.count in
    let low : (c : Commit) → Contains commits c → stamp_of c ≤ total strands = λ c there. omega (arith, sound.stamps c there, sum) in
    record {
      few = λ t s is. omega (arith, size t s is, sound.short t);
      last = λ t s is. last-low t s is s.started refl low;
      fired = λ t k stamp s is known. fired-low ps t (config_of commits t) commits k stamp (total strands) (get_or s.fired k None) low ((all.each t s is).fired k) known;
    }
  where
    last-low : (t : ℕ) (s : Strand) → slice_get strands t ≡ Some s → (b : Bool) → s.started ≡ b → ((c : Commit) → Contains commits c → stamp_of c ≤ total strands) → s.last ≤ total strands
    last-low t s is true e low = greatest-low commits (CountsOf ps (config_of commits) t) s.last (total strands) low ((all.each t s is).started e).1
    last-low t s is false e low = omega (arith, ((all.each t s is).idle e).1)

together-all : (ps : List Proc) (rows : ℕ) (commits : List Commit) (i : ℕ) (s : Threads) → Gathering ps rows commits i s → length commits ≤ i → Together ps commits (config_of commits) s.strands.items
together-all ps rows commits i s g le = subst (λ (cs : List Commit). Together ps commits (config_of cs) s.strands.items) (take_all i commits le) g.together

none-of : (o p : Option ℕ) → o ≡ p → p ≡ None → o ≡ None
none-of o p e none = e ∙ none

pub gathered-order : (ps : List Proc) (rows : ℕ) (commits : List Commit) (i : ℕ) (s : Threads) → Gathering ps rows commits i s → length ps ≤ 64 → IsPlaced ps → IsOrdered s
gathered-order ps rows commits i s g few placed = record {
  few = omega (arith, g.together.count, few);
  placed = λ t from x is by. placed t from (sym (g.together.each t x is).spawner ∙ by);
  later = λ quiet t x is.
      let lt : t < length ps = omega (arith, slice_get_within s.strands.items t x is, g.together.count) in
      (g.together.each t x is).spawner ∙ g.later quiet t lt;
}

pub gathered-after : (ps : List Proc) (rows : ℕ) (commits : List Commit) (i : ℕ) (s t : Threads) → IsRun ps rows commits → Gathering ps rows commits i s → length commits ≤ i → length ps ≤ 64 → IsPlaced ps →
    Wakes s.strands.items t.strands.items → t.rows ≡ s.rows → t.later ≡ s.later → AreAfter ps rows commits t
gathered-after ps rows commits i s t run g le few placed wakes rows_same later_same =
    let all = together-all ps rows commits i s g le in
    let stands = all-stand ps rows commits s.strands.items run all in
    let spawns = all-whole ps rows commits s.strands.items run all in
    let k = some-start ps (config_of commits) commits stands spawns wakes.some in
    record {
      rows_are = rows_same ∙ g.rows_are;
      few = few;
      low = g.low;
      placed = placed;
      later = λ quiet. g.later (sym later_same ∙ quiet);
      run = run;
      strands = record { stands = k.0; marked = λ u x is starts. marked ps (config_of commits) commits t.strands.items k.0 k.1 wakes.all x is starts };
      bounded = bounded-starts rows (all-bounded ps rows commits s.strands.items run all) wakes.some;
    }

pub stopped-if : (ps : List Proc) (t : ℕ) (rs : List Chosen) (o : Option Thread) → IfSome o (HasGone ps t rs) → IfSome o (λ m. HasStopped m.phase)
stopped-if ps t rs None h = tt
stopped-if ps t rs (Some m) h = h.stands.stopped

-- what is known of the first so many threads, one for each
pub record GatheredSo (ps : List Proc) (known : List Known) (strands : List Strand) : Type 0 where
  pub each : (t : ℕ) (x : Strand) → slice_get strands t ≡ Some x → (p : Proc) × (k : Known) × (slice_get ps t ≡ Some p) × (slice_get known t ≡ Some k) × Gathers p (spawner ps t) t k x

pub gathered-none : (ps : List Proc) (known : List Known) → GatheredSo ps known []
gathered-none ps known = record { each = λ t x e. absurd (none-some x e) }

pub gathered-more : (ps : List Proc) (known : List Known) (strands : List Strand) (p : Proc) (k : Known) (s : Strand) → slice_get ps (length strands) ≡ Some p → slice_get known (length strands) ≡ Some k → GatheredSo ps known strands →
    Gathers p (spawner ps (length strands)) (length strands) k s → GatheredSo ps known (strands ++ s ∷ [])
gathered-more ps known strands p k s is there before g = record {
  each = λ t x e. ⊎_elim
      (λ h. before.each t x h.1)
      (λ h. (
        p,
        k,
        ap (slice_get ps) h.0 ∙ is,
        ap (slice_get known) h.0 ∙ there,
        subst (λ (n : ℕ). Gathers p (spawner ps n) n k x) (sym h.0) (subst (λ (y : Strand). Gathers p (spawner ps (length strands)) (length strands) k y) h.1 g),
      ))
      (slice_get-more strands s x t e);
}

-- WHO IS EARLY

pub early-at : (strands : List Strand) (t : ℕ) (s : Strand) (spawned : List ℕ) (i : ℕ) → slice_get strands t ≡ Some s → s.started ≡ true → spawned ≡ s.machine.spawned → i < length spawned →
    waits_in strands (get_or spawned i 0) ≡ true → IsEarly strands t
early-at strands t s spawned i there runs same lt waits = record {
  strand = s;
  is_its = there;
  started = runs;
  other = get_or spawned i 0;
  spawned = subst (λ (xs : List ℕ). Contains xs (get_or spawned i 0)) same (i, lt, get_or_default spawned i (get_or spawned i 0) 0 lt);
  waits = waits;
}

pub none-early : (strands : List Strand) (t : ℕ) (s : Strand) (spawned : List ℕ) → slice_get strands t ≡ Some s → spawned ≡ s.machine.spawned →
    ((i : ℕ) → i < length spawned → waits_in strands (get_or spawned i 0) ≡ false) → IsEarly strands t → ⊥
none-early strands t s spawned there same none early =
    let is : early.strand ≡ s = same_Some early.strand s (sym early.is_its ∙ there) in
    let has : Contains spawned early.other = subst (λ (xs : List ℕ). Contains xs early.other) (sym same) (subst (λ (x : Strand). Contains x.machine.spawned early.other) is early.spawned) in
    let number : get_or spawned has.0 0 ≡ early.other = get_or_default spawned has.0 0 early.other has.1 ∙ has.2 in
    false≢true (sym (none has.0 has.1) ∙ ap (waits_in strands) number ∙ early.waits)
