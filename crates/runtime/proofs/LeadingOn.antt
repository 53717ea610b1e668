-- A season leads the run on: its commits, numbered on, are a run behind those of the seasons before, and the next season begins where they lead.
use Rattle.std.proofs.Common.{◌≡◌, ◌⊎◌, ◌+◌, ◌*◌, ◌<◌, ◌≤◌, ℕ, suc, List, [], ◌∷◌, ◌++◌, length, map, take, get_or, Contains, Option, None, Some, Vec, slice_get, refl, sym, ap, ◌∙◌, subst, inl, inr, arith, ⊎_elim}
use Rattle.std.specs.Global.{Global}
use Rattle.std.specs.List.{fold}
use Rattle.std.specs.Prelude.{max, min}
use Rattle.std.proofs.Math.Nat.{add-mul, one-mul}
use Rattle.std.proofs.lemmas.Nat.{mul-le}
use Rattle.std.proofs.lemmas.Bool.{cases_lt}
use Rattle.std.proofs.lemmas.List.{length-append, length-take, take-append-le, take_all}
use Rattle.std.proofs.lemmas.List.Elements.{All-from_get_or, Contains-append_right}
use Rattle.std.proofs.lemmas.Option.{get_or_from_slice_get, none-some, same_Some, slice_get-get_or, slice_get_within}
use Rattle.protocol_values.specs.declared.Commit.{Commit}
use Rattle.protocol_values.specs.declared.Commit.TheVariants.{Pair, Alone}
use Rattle.protocol_values.specs.declared.Message.TheVariants.{Empty}
use Rattle.protocol_values.specs.declared.Offer.{Offer}
use Rattle.protocol_values.specs.declared.Row.{Row}
use Rattle.script_tree.specs.Processes.{Proc}
use Rattle.script_tree.specs.Spawning.{AreSpawnedOnce}
use Rattle.thread.specs.After.{Chosen}
use Rattle.thread.specs.Machines.{Broken, HasStopped, IsAfterAt, IsOpen, Open, Over, Phase, Ready, Stuck, Thread, said_in}
use Rattle.protocol_ledger.specs.Acting.{ActsAs, before_of}
use Rattle.protocol_ledger.specs.Ledgers.{HasCommit, Ledger, Takes}
use Rattle.protocol_ledger.specs.Openings.{HadEnded, HadStarted, IsOpening, Opening, greatest, opening_of, thread_in}
use Rattle.protocol_ledger.specs.declared.opening.Life.{Life}
use Rattle.protocol_ledger.specs.declared.opening.Life.TheVariants as life
use Rattle.protocol_ledger.proofs.Beginning.{thread_below}
use Rattle.protocol_ledger.proofs.Results.{gives-involves}
use Rattle.cell.specs.Calls.{GridOf, opening_at}
use Rattle.journal_replay.specs.Gathering.{HasGone}
use Rattle.journal_replay.specs.Runs.{Config, HasRow, IsRun, config_of, no_results}
use Rattle.journal_replay.specs.Standing.{MachineStands}
use Rattle.journal_replay.specs.Starting.{HasEnded}
use Rattle.journal_replay.proofs.Extending.{Extends, config-extends, none-from}
use Rattle.journal_replay.proofs.Opening.{moved}
use Rattle.journal_replay.proofs.Sounding.{run-sound}
use Rattle.journal_replay.proofs.Standing.{config_from-append}
use Rattle.journal_ledger.specs.Behind as behind
use Rattle.journal_ledger.specs.Behind.{GoesOn, TellsRun, WentOn, acts_behind, run_on}
use Rattle.journal_ledger.specs.Ledgers.{IsOrderOf, ProcessOffers}
use Rattle.journal_ledger.proofs.Leading.{ledger-goes-on, results-go-on, rows-go-on}
use Rattle.journal_ledger.proofs.Opening.{opening-leads, placed-at, tells-run-on}
use Rattle.journal_order.proofs.Results.{rows-within}
use Rattle.journal_order.proofs.Runs.{run-wider}
use Rattle.journal.specs.Concluding.{AreGone}
use Rattle.runtime_worker.proofs.Processes.{process_of, spawned_fewer}
use Rattle.runtime_worker.specs.declared.resident.Suspended.{Suspended}
use Rattle.runtime_worker.specs.Machines.{AreFirst, IsAtEnd}
use Rattle.runtime.specs.Between.{AreHad, AreKept, CatchesUpAll, GoOnBelow, GoesOnFrom, HasResults, SomeIsSpent, had_by, numbered, renumbered}
use Rattle.runtime_run.specs.Machines.{AreLeftBy, StandsOver}
use Rattle.runtime.specs.Played.{ArePlayed, NeedsOneMore, OneMore, PlaysSeason}
use Rattle.runtime.specs.Season.{EndsRun, HaveCaughtUp, HaveResultsOf, IsClosed, IsLedgerOver, IsTableOf, LeadsTo}
use Rattle.runtime.specs.declared.season.ClosedSeason.{ClosedSeason}
use Rattle.runtime_run.specs.Syncs.{AllSyncAtMost}
use Rattle.runtime.specs.declared.season.Next.{Next}
use Rattle.runtime.specs.declared.season.Next.TheVariants as following
use Rattle.runtime.specs.declared.season.AtEnd.{AtEnd}
use Rattle.runtime.proofs.CatchingUp.{give_in_range}
use Rattle.runtime.proofs.GoingOn.{contains_at, place_of_commit, stands_first, takes_offered, waited}
use Rattle.runtime_run.proofs.Ledgers.{acts_as, ends_as}
use Rattle.runtime_run.proofs.Resting.{contains_map}
use Rattle.runtime_run.proofs.Syncs.{offers_below}

-- THE NUMBERS of a table's syncs, which have room
small : (a b : ℕ) → a + b ≤ 4294967295 → min (a + b) 4294967295 ≡ a + b
small a b low = omega (arith, low)

maps-same : (f g : Commit → Commit) (cs : List Commit) → ((c : Commit) → Contains cs c → f c ≡ g c) → map f cs ≡ map g cs
maps-same f g [] same = refl
maps-same f g (c ∷ cs) same = λ i. same c (0, omega arith, refl) i ∷ maps-same f g cs (λ d there. same d (suc there.0, omega (arith, there.1), there.2)) i

-- BEHIND THE WORKERS
module _ (ps : List Proc) (cells : GridOf Suspended) (of : IsTableOf ps cells) (before : List Commit) (done : ℕ) (had : List ℕ) (counts : AreHad cells.first had) (few : done < 65535)
    (run : IsRun ps (done * cells.rows) before) (tells : TellsRun ps before (opening_at cells)) (given : HaveResultsOf before cells.first)
    (l : Ledger) (over : IsLedgerOver cells l) (rows : l.rows ≡ cells.rows) (commits : List Commit) (order : IsOrderOf l commits) where
  firsts : AreFirst ps cells.first
  firsts = subst (λ (qs : List Proc). AreFirst qs cells.first) of.processes of.table.first

  once : AreSpawnedOnce ps
  once = subst AreSpawnedOnce of.processes of.table.once

  short : (t : ℕ) → length (config_of before t) ≤ done * cells.rows
  short = (run-sound ps (done * cells.rows) before run).short

  further : (done + 1) * l.rows ≡ done * cells.rows + l.rows
  further = add-mul done 1 l.rows ∙ (λ i. done * rows i + one-mul l.rows i)

  acts : ActsAs (before_of (opening_at cells)) (acts_behind ps (config_of before)) l
  acts = acts_as ps cells.first (config_of before) l firsts once given (before_of (opening_at cells)) over.acts

  went : WentOn (opening_at cells) l
  went = record {
    threads = of.lives ∙ sym over.size;
    states = of.states ∙ ap (λ (n : ℕ). n * 64) (sym over.size);
    before = over.before;
    carried = λ n low small_k. over.carried n (omega (arith, low, over.size), small_k);
  }

  pub goes_on : GoesOn ps ((done + 1) * l.rows) before (before_of (opening_at cells)) l commits
  goes_on = record {
    run = run-wider ps (done * cells.rows) ((done + 1) * l.rows) before (omega (arith, further)) run;
    lawful = over.lawful;
    behind = opening-leads ps before (opening_at cells) l tells went;
    acts = acts;
    room = λ t low. omega (arith, short t, further);
    order = order;
  }

  pub leads_on : IsRun ps ((done + 1) * l.rows) (run_on before commits)
  leads_on = ledger-goes-on ps ((done + 1) * l.rows) before (opening_at cells) l commits goes_on

  -- a row of the ledger's commits is numbered on, which has room
  low : (t : ℕ) → length (config_of (run_on before commits) t) ≤ 67108864
  low t =
      let most = mul-le (done + 1) l.rows 65536 1024 (omega (arith, few)) (omega (arith, of.table.rows.1, rows)) in
      let least = (run-sound ps ((done + 1) * l.rows) (run_on before commits) leads_on).short t in
      omega (arith, least, most)

  same-number : (at : Row × ℕ) (c : Commit) → Contains commits c → HasCommit l c → Takes c at.0 at.1 → HasRow (behind.renumbered (config_of before) c) at.0.thread (length (config_of before at.0.thread) + at.0.sync) → numbered had at ≡ behind.numbered (config_of before) at
  same-number at c there has takes row =
      let o = takes_offered l c at.0 at.1 over.lawful has takes in
      let s = over.acts.offers at.0 at.1 o.0 o.1 in
      let start = s.standing.1.0.start in
      let is = s.standing.1.0.is_first in
      let count : had_by had at.0.thread ≡ length (config_of before at.0.thread) = counts at.0.thread start is ∙ ap (λ (rs : List Chosen). length rs) (given at.0.thread start is) in
      let placed : Contains (run_on before commits) (behind.renumbered (config_of before) c) =
      Contains-append_right before (map (behind.renumbered (config_of before)) commits) (behind.renumbered (config_of before) c) (contains_map (behind.renumbered (config_of before)) commits c there) in
      let within = rows-within ps ((done + 1) * l.rows) (run_on before commits) leads_on (behind.renumbered (config_of before) c) at.0.thread (length (config_of before at.0.thread) + at.0.sync) placed row in
      let most = low at.0.thread in
      let number : min (had_by had at.0.thread + at.0.sync) 4294967295 ≡ length (config_of before at.0.thread) + at.0.sync =
      ap (λ (n : ℕ). min (n + at.0.sync) 4294967295) count ∙ small (length (config_of before at.0.thread)) at.0.sync (omega (arith, within, most)) in
      λ i. (record { thread = at.0.thread; sync = number i }, at.1)

  same-commit : (c : Commit) → Contains commits c → HasCommit l c → renumbered had c ≡ behind.renumbered (config_of before) c
  same-commit (Pair sender receiver chan msg stamp) there has = λ i.
      Pair (same-number sender (Pair sender receiver chan msg stamp) there has (inl refl) (inl (refl, refl)) i)
      (same-number receiver (Pair sender receiver chan msg stamp) there has (inr refl) (inr (refl, refl)) i) chan msg stamp
  same-commit (Alone at why stamp) there has = λ i. Alone (same-number at (Alone at why stamp) there has refl (refl, refl) i) why stamp

  -- it counts no more stamps than it has rows
  pub stamps_on : (greatest_now : ℕ) → greatest (opening_at cells) ≤ done * 65536 → greatest_now ≤ l.opening + l.threads * l.rows → greatest_now ≤ (done + 1) * 65536
  stamps_on greatest_now low told =
      let most = mul-le l.threads l.rows 64 1024 (omega (arith, of.table.few, ap (λ (qs : List Proc). length qs) of.processes, of.threads, over.size)) (omega (arith, of.table.rows.1, rows)) in
      omega (arith, low, told, most, over.acts.stamps)

  pub same-journal : ((c : Commit) → Contains commits c → HasCommit l c) → before ++ map (renumbered had) commits ≡ run_on before commits
  same-journal members = ap (λ (cs : List Commit). before ++ cs) (maps-same (renumbered had) (behind.renumbered (config_of before)) commits (λ c there. same-commit c there (members c there)))

-- MACHINES that have gone part of a run have gone part of what it leads on to
gone_later : (ps : List Proc) (t : ℕ) (before later : List Chosen) (m : Thread) → Extends before later → HasGone ps t before m → HasGone ps t later m
gone_later ps t before later m longer gone =
    let n = length m.results in
    let few : n ≤ length before = (let size = ap (λ (rs : List Chosen). length rs) gone.part ∙ length-take n before in omega (arith, size)) in
    record { stands = gone.stands; part = gone.part ∙ sym (ap (take n) longer.1 ∙ take-append-le n before longer.0 few); told = gone.told }

pub kept_gone : (ps : List Proc) (journal : List Commit) (old machines new : List (Option Thread)) → AreGone ps journal old → AreGone ps journal machines → AreKept old machines new → AreGone ps journal new
kept_gone ps journal old machines new gone more kept = (kept.count ∙ gone.0, λ t m is. ⊎_elim (λ before. gone.1 t m before) (λ now. more.1 t m now) (kept.each t m is))

-- WHERE A THREAD GOES ON

-- it keeps its last stamp
same_stamp : (process : Proc) (t : ℕ) (was : Life × ℕ) (m : Option Thread) (is : Life × ℕ) (s : Option Suspended) (end : Option Thread) → GoesOnFrom process t was m is s end → is.1 ≡ was.1
same_stamp process t (life.Unstarted, stamp) m is s end goes = ap (λ (y : Life × ℕ). y.1) goes.0
same_stamp process t (life.Running, stamp) m is s end goes = ⊎_elim (λ on. ap (λ (y : Life × ℕ). y.1) on.0) (λ over. ap (λ (y : Life × ℕ). y.1) over.0) goes
same_stamp process t (life.Ended, stamp) m is s end goes = ap (λ (y : Life × ℕ). y.1) goes.0

-- who waited waits
waits_on : (process : Proc) (t : ℕ) (was : Life × ℕ) (m : Option Thread) (is : Life × ℕ) (s : Option Suspended) (end : Option Thread) → GoesOnFrom process t was m is s end → was.0 ≡ life.Unstarted → is.0 ≡ life.Unstarted
waits_on process t (life.Unstarted, stamp) m is s end goes e = ap (λ (y : Life × ℕ). y.0) goes.0
waits_on process t (life.Running, stamp) m is s end goes e = let bad : life.Running ≡ life.Unstarted = e in cc
waits_on process t (life.Ended, stamp) m is s end goes e = let bad : life.Ended ≡ life.Unstarted = e in cc

-- who has ended had done so, or its machine offers nothing
ended_so : (process : Proc) (t : ℕ) (was : Life × ℕ) (m : Option Thread) (is : Life × ℕ) (s : Option Suspended) (end : Option Thread) → GoesOnFrom process t was m is s end → is.0 ≡ life.Ended
    → (was.0 ≡ life.Ended) ⊎ ((y : Thread) × (m ≡ Some y) × (IsOpen y.phase → ⊥))
ended_so process t (life.Unstarted, stamp) m is s end goes e = let bad : life.Unstarted ≡ life.Ended = sym (ap (λ (y : Life × ℕ). y.0) goes.0) ∙ e in cc
ended_so process t (life.Running, stamp) m is s end goes e = ⊎_elim
    (λ on. let bad : life.Running ≡ life.Ended = sym (ap (λ (y : Life × ℕ). y.0) on.0) ∙ e in cc)
    (λ over. inr (over.2.0, over.2.1, over.2.2))
    goes
ended_so process t (life.Ended, stamp) m is s end goes e = inl refl

-- what is kept of a thread is its machine
kept_of : (process : Proc) (t : ℕ) (was : Life × ℕ) (m : Option Thread) (is : Life × ℕ) (s : Option Suspended) (end : Option Thread) (y : Thread) → GoesOnFrom process t was m is s end → end ≡ Some y → m ≡ Some y
kept_of process t (life.Unstarted, stamp) m is s end y goes e = absurd (none-some y (sym goes.2 ∙ e))
kept_of process t (life.Running, stamp) m is s end y goes e = ⊎_elim (λ on. absurd (none-some y (sym on.2 ∙ e))) (λ over. sym over.3 ∙ e) goes
kept_of process t (life.Ended, stamp) m is s end y goes e = sym goes.2 ∙ e

-- a machine that has stopped and offers nothing is at its end
at_its_end : (phase : Phase) → HasStopped phase → (IsOpen phase → ⊥) → IsAtEnd phase
at_its_end Ready stopped no_offer = stopped
at_its_end (Open os ns) stopped no_offer = no_offer tt
at_its_end Over stopped no_offer = tt
at_its_end (Stuck fault) stopped no_offer = tt
at_its_end Broken stopped no_offer = stopped

-- a machine that offers stands at a sync of its process
pub record StandsOffering (ps : List Proc) (t : ℕ) (results : List Chosen) : Type 0 where
  pub offers : List Offer
  pub nacks : List ℕ
  pub stands : ProcessOffers ps t results offers nacks

offering_at : (ps : List Proc) (t : ℕ) (results : List Chosen) (m : Thread) (phase : Phase) → MachineStands ps t results m → IsOpen phase → IsAfterAt m phase → StandsOffering ps t results
offering_at ps t results m Ready s open_now is = absurd open_now
offering_at ps t results m (Open os ns) s open_now is = record {
  offers = os;
  nacks = ns;
  stands = record {
    event = is.tree;
    offered = record { process = s.process; is_its = s.is_its; said = said_in m; offers = sym (moved ps t results m s) ∙ is.after };
    are = is.offers;
    scopes = is.nacks;
  };
}
offering_at ps t results m Over s open_now is = absurd open_now
offering_at ps t results m (Stuck fault) s open_now is = absurd open_now
offering_at ps t results m Broken s open_now is = absurd open_now

-- no number is above a bound of all
fold_below : {X : Type 0} (h : X → ℕ) (top a : ℕ) (xs : List X) → a ≤ top → ((i : ℕ) (x : X) → slice_get xs i ≡ Some x → h x ≤ top) → fold (λ most x. max most (h x)) a xs ≤ top
fold_below h top a [] low each = low
fold_below h top a (x ∷ xs) low each = fold_below h top (max a (h x)) xs (let here = each 0 x refl in omega arith) (λ i y e. each (suc i) y e)

-- BEHIND A SEASON
module _ (ps : List Proc) (x : ClosedSeason) (closed : IsClosed ps x) where
  abbrev journal : List Commit
  journal = x.journal.items

  abbrev rows_in : ℕ
  rows_in = (x.done + 1) * x.ledger.rows

  abbrev start : Opening
  start = opening_at closed.cells

  pub first_are : AreFirst ps closed.cells.first
  first_are = subst (λ (qs : List Proc). AreFirst qs closed.cells.first) closed.of.processes closed.of.table.first

  pub run_is : IsRun ps rows_in journal
  run_is = subst (IsRun ps rows_in) (sym closed.whole) (ledger-goes-on ps rows_in closed.before start x.ledger x.commits.items closed.on)

  pub season_is : PlaysSeason ps x.ledger.rows (x.done + 1) closed.before journal
  season_is = record { opening = start; ledger = x.ledger; commits = x.commits.items; size = refl; on = closed.on; whole = closed.whole }

  pub played_is : ArePlayed ps x.ledger.rows (x.done + 1) journal
  played_is = OneMore closed.earlier season_is

  pub tells_is : TellsRun ps journal (opening_of x.opening)
  tells_is = subst (λ (cs : List Commit). TellsRun ps cs (opening_of x.opening)) (sym closed.whole) (tells-run-on ps rows_in closed.before start x.ledger x.commits.items closed.on (opening_of x.opening) closed.tells)

  config_is : (t : ℕ) → config_of journal t ≡ config_of (run_on closed.before x.commits.items) t
  config_is t = ap (λ (cs : List Commit). config_of cs t) closed.whole

  longer : (t : ℕ) → Extends (config_of closed.before t) (config_of journal t)
  longer t =
      let moved = map (behind.renumbered (config_of closed.before)) x.commits.items in
      let w = config-extends (config_of closed.before) moved t in
      (w.0, config_is t ∙ ap (λ (config : Config). config t) (config_from-append no_results closed.before moved) ∙ w.1)

  pub resting_gone : AreGone ps journal x.resting.items
  resting_gone = (closed.resting.0, λ t m is. gone_later ps t (config_of closed.before t) (config_of journal t) m (longer t) (closed.resting.1 t m is))

  pub from_size : length x.opening.threads.items ≡ length ps
  from_size = closed.tells.0.0 ∙ closed.over.size ∙ closed.of.threads

  -- machines that have caught up with its commits have the results of all of them
  pub caught_all : (machines : List (Option Thread)) → CatchesUpAll x.had.items x.commits.items x.machines.items machines → AreLeftBy closed.cells.first x.ledger machines × ((d : Commit) → HasCommit x.ledger d → HasResults x.had.items machines d)
  caught_all machines catches =
      let few : length ps ≤ 64 = subst (λ (qs : List Proc). length qs ≤ 64) closed.of.processes closed.of.table.few in
      let ranges = give_in_range ps closed.cells.first (before_of start) x.ledger first_are few closed.over.lawful closed.over.acts in
      let over = catches ps closed.cells.first x.ledger first_are closed.had ranges (λ k d e. (closed.members d).0 (contains_at x.commits.items k d e)) closed.left in (
        over.0,
        λ d has. let at = place_of_commit x.commits.items d ((closed.members d).1 has) in over.1 at.0 d at.1,
      )

  pub caught_is : (machines : Vec (Option Thread) Global) → CatchesUpAll x.had.items x.commits.items x.machines.items machines.items → IsClosed ps (record x { machines = machines }) × HaveCaughtUp (record x { machines = machines })
  caught_is machines catches =
      let all = caught_all machines.items catches in (
        record {
          few = closed.few;
          cells = closed.cells;
          of = closed.of;
          over = closed.over;
          had = closed.had;
          left = all.0;
          before = closed.before;
          earlier = closed.earlier;
          on = closed.on;
          members = closed.members;
          whole = closed.whole;
          given = closed.given;
          tells = closed.tells;
          leads = closed.leads;
          stamps = closed.stamps;
          resting = closed.resting;
        },
        all.1,
      )

  module _ (machines : List (Option Thread)) (left : AreLeftBy closed.cells.first x.ledger machines) where
    -- a machine's results stand behind those of the thread's first one
    whole_of : (t : ℕ) (m : Thread) (over : StandsOver closed.cells.first x.ledger t m) → m.results ≡ config_of closed.before t ++ over.results
    whole_of t m over =
        ap (λ (y : Thread). y.results) (sym over.value) ∙ over.machine.given ∙ ap (λ (rs : List Chosen). rs ++ over.results) (closed.given t over.machine.start over.machine.is_first)

    one_gone : (t : ℕ) (m : Thread) → StandsOver closed.cells.first x.ledger t m → HasGone ps t (config_of journal t) m
    one_gone t m over =
        let s = over.suspended in
        let p = process_of ps closed.cells.first t s over.results first_are over.machine in
        let runs = p.2 in
        let stopped : HasStopped s.machine.value.phase = subst (λ (y : Thread). HasStopped y.phase) (sym over.value) over.stopped in
        let pre = config_of closed.before t ++ over.results in
        let is : s.machine.value.results ≡ pre = ap (λ (y : Thread). y.results) over.value ∙ whole_of t m over in
        let law : pre ≡ take (length pre) (config_of (run_on closed.before x.commits.items) t) = results-go-on ps rows_in closed.before start x.ledger x.commits.items closed.on t over.results over.are in
        subst (HasGone ps t (config_of journal t)) over.value (record {
          stands = record { process = p.0; is_its = p.1; body = runs.body; variables = runs.variables; thread = runs.thread; given = refl; stopped = stopped; after = over.machine.after };
          part = is ∙ law ∙ (λ i. take (length (sym is i)) (sym (config_is t) i));
          told = λ n u few has. over.machine.told n u few (spawned_fewer ps t u s.machine.value (take n s.machine.value.results) p.0 p.1 runs has);
        })

    pub left_gone : AreGone ps journal machines
    left_gone = (left.0 ∙ first_are.0, λ t m is. one_gone t m (left.1 t m is))

    -- a machine that has the results of all commits has all of the run's
    module _ (results : (d : Commit) → HasCommit x.ledger d → HasResults x.had.items machines d) where
      all_had : (t : ℕ) (m : Thread) → slice_get machines t ≡ Some (Some m) → m.results ≡ config_of journal t
      all_had t m is =
          let over = left.1 t m is in
          let gone = one_gone t m over in
          gone.part ∙ take_all (length m.results) (config_of journal t) (⊎_elim (λ less. absurd (missing over less)) (λ enough. enough) (cases_lt (length m.results) (length (config_of journal t))))
        where
          missing : StandsOver closed.cells.first x.ledger t m → length m.results < length (config_of journal t) → ⊥
          missing over less =
              let n = length m.results in
              let base = config_of closed.before t in
              let size : n ≡ length base + length over.results = ap (λ (rs : List Chosen). length rs) (whole_of t m over) ∙ length-append base over.results in
              let r = get_or (config_of journal t) n (0, Empty) in
              let there : slice_get (config_of (run_on closed.before x.commits.items) t) (length base + length over.results) ≡ Some r =
              (λ i. slice_get (sym (config_is t) i) (sym size i)) ∙ slice_get-get_or (config_of journal t) n (0, Empty) less in
              let c = rows-go-on ps rows_in closed.before start x.ledger x.commits.items closed.on t (length over.results) r there in
              let had_it = results c.0 c.1 t (length over.results) (gives-involves c.0 (record { thread = t; sync = length over.results }) r c.2) in
              let same : had_it.0 ≡ m = same_Some had_it.0 m (same_Some (Some had_it.0) (Some m) (sym had_it.1 ∙ is)) in
              let count : had_by x.had.items t ≡ length base = closed.had t over.machine.start over.machine.is_first ∙ ap (λ (rs : List Chosen). length rs) (closed.given t over.machine.start over.machine.is_first) in
              let more = subst (λ (y : Thread). had_by x.had.items t + length over.results < length y.results) same had_it.2 in
              omega (arith, more, count, size)

      -- a thread whose machine is spent needs one more season
      pub one_more : SomeIsSpent x.had.items x.ledger.rows machines → NeedsOneMore ps x.ledger.rows (x.done + 1)
      one_more (t, m, is, spent) =
          let over = left.1 t m is in
          let all : m.results ≡ config_of journal t = all_had t m is in
          let start_is : had_by x.had.items t ≡ length (config_of closed.before t) =
          closed.had t over.machine.start over.machine.is_first ∙ ap (λ (rs : List Chosen). length rs) (closed.given t over.machine.start over.machine.is_first) in
          let at = offering_at ps t m.results m m.phase (one_gone t m over).stands spent.0 (one_gone t m over).stands.after in
          record {
            done = x.done;
            before = closed.before;
            journal = journal;
            count = refl;
            earlier = closed.earlier;
            last = season_is;
            thread = t;
            offers = at.offers;
            nacks = at.nacks;
            stands = subst (λ (rs : List Chosen). ProcessOffers ps t rs at.offers at.nacks) all at.stands;
            spent = (let size = ap (λ (rs : List Chosen). length rs) all in let enough = spent.1 in omega (arith, size, enough, start_is));
          }

      module _ (lives : List (Life × ℕ)) (first : List (Option Suspended)) (ended : List (Option Thread)) (goes : GoOnBelow ps x.opening.threads.items machines (length ps) lives first ended) where
        abbrev from : Opening
        from = opening_of x.opening

        abbrev next : Opening
        next = record { threads = lives; nacks = x.opening.nacks.items }

        -- a thread's place in both
        was_there : (t : ℕ) (low : t < length ps) → thread_in from t ≡ (goes.each t low).1
        was_there t low = get_or_from_slice_get from.threads t (goes.each t low).1 (life.Unstarted, 0) (goes.each t low).6

        is_there : (t : ℕ) (low : t < length ps) → thread_in next t ≡ (goes.each t low).3
        is_there t low = get_or_from_slice_get lives t (goes.each t low).3 (life.Unstarted, 0) (goes.each t low).8

        begun_before : (t stamp : ℕ) → HadStarted next t stamp → HadStarted from t stamp
        begun_before t stamp had =
            let low : t < length ps = omega (arith, placed-at next t had.0, goes.lives_are) in
            let g = goes.each t low in
            let was = was_there t low in
            let is = is_there t low in (
              (λ e. had.0 (ap (λ (y : Life × ℕ). y.0) is ∙ waits_on g.0 t g.1 g.2 g.3 g.4 g.10 g.12 (sym (ap (λ (y : Life × ℕ). y.0) was) ∙ e))),
              ap (λ (y : Life × ℕ). y.1) was ∙ sym (same_stamp g.0 t g.1 g.2 g.3 g.4 g.10 g.12) ∙ sym (ap (λ (y : Life × ℕ). y.1) is) ∙ had.1,
            )

        begun_behind : (t stamp : ℕ) → HadStarted from t stamp → HadStarted next t (thread_in next t).1
        begun_behind t stamp had =
            let low : t < length ps = omega (arith, placed-at from t had.0, from_size) in
            let g = goes.each t low in
            ((λ e. had.0 (ap (λ (y : Life × ℕ). y.0) (was_there t low) ∙ waited g.0 t g.1 g.2 g.3 g.4 g.10 g.12 (sym (ap (λ (y : Life × ℕ). y.0) (is_there t low)) ∙ e))), refl)

        -- a machine that offers nothing, and has all results, has ended
        ended_there : (t : ℕ) (m : Thread) → slice_get machines t ≡ Some (Some m) → (IsOpen m.phase → ⊥) → HasEnded ps t (config_of journal t)
        ended_there t m is closed_phase =
            let over = left.1 t m is in
            let stopped : HasStopped over.suspended.machine.value.phase = subst (λ (y : Thread). HasStopped y.phase) (sym over.value) over.stopped in
            let at_end = at_its_end over.suspended.machine.value.phase stopped (λ offers. closed_phase (subst (λ (y : Thread). IsOpen y.phase) over.value offers)) in
            subst (HasEnded ps t) (ap (λ (y : Thread). y.results) over.value ∙ all_had t m is) (ends_as ps closed.cells.first t over.results first_are over.suspended (over.machine, at_end))

        over_before : (t : ℕ) → HadEnded next t → HasEnded ps t (config_of journal t)
        over_before t had =
            let low : t < length ps = omega (arith, placed-at next t (λ e. let bad : life.Unstarted ≡ life.Ended = sym e ∙ had in cc), goes.lives_are) in
            let g = goes.each t low in
            ⊎_elim
            (λ was. tells_is.ended t (ap (λ (y : Life × ℕ). y.0) (was_there t low) ∙ was))
            (λ now. ended_there t now.0 (g.7 ∙ ap Some now.1) now.2)
            (ended_so g.0 t g.1 g.2 g.3 g.4 g.10 g.12 (sym (ap (λ (y : Life × ℕ). y.0) (is_there t low)) ∙ had))

        kept_stamp : (t : ℕ) → t < length ps → (thread_in next t).1 ≡ (thread_in from t).1
        kept_stamp t within =
            let g = goes.each t within in
            ap (λ (y : Life × ℕ). y.1) (is_there t within) ∙ same_stamp g.0 t g.1 g.2 g.3 g.4 g.10 g.12 ∙ sym (ap (λ (y : Life × ℕ). y.1) (was_there t within))

        pub stamps_next : greatest next ≤ greatest from
        stamps_next =
            let lasts = fold_below (λ (y : Life × ℕ). y.1) (greatest from) 0 lives (omega arith) (λ t y is.
            let within : t < length ps = omega (arith, slice_get_within lives t y is, goes.lives_are) in
            let here = ap (λ (z : Life × ℕ). z.1) (get_or_from_slice_get lives t y (life.Unstarted, 0) is) in
            let same = kept_stamp t within in
            let below = thread_below from t in
            omega (arith, here, same, below)) in
            omega (arith, lasts)

        -- the stamps of the next table have room
        pub opens_next : (rows : ℕ) → rows ≤ 1024 → x.done < 65534 → IsOpening next rows
        opens_next rows small few =
            let size : x.ledger.threads ≡ length ps = closed.over.size ∙ closed.of.threads in
            let some : 1 ≤ length ps = subst (λ (qs : List Proc). 1 ≤ length qs) closed.of.processes closed.of.table.some in
            let most : length ps ≤ 64 = subst (λ (qs : List Proc). length qs ≤ 64) closed.of.processes closed.of.table.few in
            let low = closed.stamps in
            let kept = stamps_next in
            let was : IsOpening from 0 = closed.leads 0 (omega (arith, some, size)) (omega (arith, most, size)) (omega (arith, low, few)) in
            let all_rows = mul-le (length lives) rows 64 1024 (omega (arith, most, goes.lives_are)) small in
            record {
              some = omega (arith, some, goes.lives_are);
              few = omega (arith, most, goes.lives_are);
              all_nacks = closed.tells.1.0 ∙ ap (λ (n : ℕ). n * 64) (size ∙ sym goes.lives_are);
              unstarted = All-from_get_or (λ (y : Life × ℕ). y.0 ≡ life.Unstarted → y.1 ≡ 0) lives (life.Unstarted, 0) (λ t h waits.
                  let within : t < length ps = omega (arith, h, goes.lives_are) in
                  let g = goes.each t within in
                  let waited_so : (thread_in from t).0 ≡ life.Unstarted = ap (λ (y : Life × ℕ). y.0) (was_there t within) ∙ waited g.0 t g.1 g.2 g.3 g.4 g.10 g.12 (sym (ap (λ (y : Life × ℕ). y.0) (is_there t within)) ∙ waits) in
                  kept_stamp t within ∙ was.unstarted t (life.Unstarted, 0) (omega (arith, within, from_size)) waited_so);
              enabled = was.enabled;
              room = omega (arith, kept, low, few, all_rows);
            }

        pub tells_next : TellsRun ps journal next
        tells_next = record {
          started = λ t stamp had. tells_is.started t stamp (begun_before t stamp had);
          ended = over_before;
          threads = λ d t there has. let w = tells_is.threads d t there has in ((thread_in next t).1, begun_behind t w.0 w.1);
          nacks = tells_is.nacks;
          positive = tells_is.positive;
        }

        -- the machines that stand there at first have all results of the run
        pub given_next : HaveResultsOf journal first
        given_next t s is =
            let low : t < length ps = omega (arith, slice_get_within first t (Some s) is, goes.machines_are) in
            let g = goes.each t low in
            ⊎_elim
            (λ new.
            let waits : (thread_in from t).0 ≡ life.Unstarted = ap (λ (y : Life × ℕ). y.0) (was_there t low) ∙ new.0 in
            new.1.results ∙ sym (none-from no_results journal t (λ d there has. let w = tells_is.threads d t there has in w.1.0 waits)))
            (λ kept. all_had t s.machine.value (g.7 ∙ ap Some kept.0))
            (stands_first g.0 t g.1 g.2 g.3 g.4 g.10 s g.12 (same_Some g.4 (Some s) (sym g.9 ∙ is)))

        -- and those of who has ended have gone part of it
        pub ended_gone : AreGone ps journal ended
        ended_gone = (
          goes.ended_are,
          λ t m is.
              let low : t < length ps = omega (arith, slice_get_within ended t (Some m) is, goes.ended_are) in
              let g = goes.each t low in
              left_gone.1 t m (g.7 ∙ ap Some (kept_of g.0 t g.1 g.2 g.3 g.4 g.10 m g.12 (same_Some g.10 (Some m) (sym g.11 ∙ is)))),
        )

-- THE END OF A RUN
pub ends_run : (ps : List Proc) (rows : ℕ) (commits : List Commit) (standing : Option AtEnd) → EndsRun ps rows commits standing → IsRun ps rows commits
ends_run ps rows commits None ends = ends
ends_run ps rows commits (Some s) ends = ends.0

pub ends_wider : (ps : List Proc) (rows more : ℕ) (commits : List Commit) (standing : Option AtEnd) → rows ≤ more → EndsRun ps rows commits standing → EndsRun ps more commits standing
ends_wider ps rows more commits None wider ends = run-wider ps rows more commits wider ends
ends_wider ps rows more commits (Some s) wider ends = (run-wider ps rows more commits wider ends.0, ends.1, ends.2)

-- WHICH SEASONS A RUN NEEDS

-- where the rows used are fewer than those stated, no process makes as many syncs
pub all_rows : (ps : List Proc) (used rows seasons : ℕ) → used ≤ rows → (used < rows → AllSyncAtMost used ps) → NeedsOneMore ps used seasons → NeedsOneMore ps rows seasons
all_rows ps used rows seasons fits enough needs = ⊎_elim
    (λ (less : used < rows).
    let few = offers_below used ps needs.thread (config_of needs.journal needs.thread) needs.offers needs.nacks (enough less) needs.stands in
    let spent = needs.spent in
    absurd (omega (arith, few, spent)))
    (λ (all : rows ≤ used). let same : used ≡ rows = omega (arith, all, fits) in subst (λ (n : ℕ). NeedsOneMore ps n seasons) same needs)
    (cases_lt used rows)

-- of more seasons
pub leads_further : (ps : List Proc) (done rows seasons : ℕ) (n : Next) → done + 1 < seasons → LeadsTo ps done rows (done + 2) n → LeadsTo ps done rows seasons n
leads_further ps done rows seasons (following.Season s) more leads = (leads.0, leads.1, (let is = leads.1 in omega (arith, is, more)), leads.3)
leads_further ps done rows seasons (following.End journal standing) more leads = leads
leads_further ps done rows seasons following.Spent more leads = let bad = leads.1 in absurd (omega (arith, bad))
