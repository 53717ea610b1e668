-- The commits of a lawful ledger of processes, in order, are a run of them, also behind a run that led to where its table began.
use Rattle.std.proofs.Common.{◌≡◌, ◌⊎◌, ℕ, zero, suc, ◌+◌, ◌-◌, ◌<◌, ◌≤◌, Bool, true, false, cond, eqb, ltb, List, [], ◌∷◌, ◌++◌, length, take, drop, map, get_or, slice_get, Option, Some, None, Contains, refl, sym, ap, ◌∙◌, append_assoc, subst, arith, inl, inr, ⊎_elim}
use Rattle.std.specs.Int.{bit_at}
use Rattle.std.proofs.lemmas.Bool.{and_parts, cases_eq, cases_lt, cases_order, eqb-true, false≢true, ltb-true}
use Rattle.std.proofs.Math.Seq.{drop-append_seam, take-append-add}
use Rattle.std.proofs.lemmas.List.{append-nil, length-append, length-take-le, map-append, take-take, take_all}
use Rattle.std.proofs.lemmas.List.Elements.{Contains-append_cases, Contains-append_left, Contains-append_right}
use Rattle.std.proofs.lemmas.List.Sorted.{Contains-permutation, IsPermutation-sym}
use Rattle.std.proofs.lemmas.Option.{none-some, same_Some, slice_get-get_or, slice_get_within, get_or_from_slice_get}
use Rattle.event.specs.Tree.{Tree, BaseEvent, bases, mask, offer_of, offers, scope_nacks}
use Rattle.event.proofs.TreeLemmas.{mask-bits}
use Rattle.script_tree.specs.Processes.{Proc}
use Rattle.thread.specs.After.{Chosen, State, Outcome, Goes, Offers as OffersTree, Finishes, Fails, Strays, after}
use Rattle.protocol_values.specs.declared.Base.{Base}
use Rattle.protocol_values.specs.declared.Base.TheVariants.{Send, Recv, Always, OnNack, OnEnd}
use Rattle.protocol_values.specs.declared.Binding.{Binding}
use Rattle.protocol_values.specs.declared.Cause.{Cause}
use Rattle.protocol_values.specs.declared.Cause.TheVariants as cause
use Rattle.protocol_values.specs.declared.Commit.{Commit}
use Rattle.protocol_values.specs.declared.Course.{Course}
use Rattle.protocol_values.specs.declared.Course.TheVariants.{Unstarted, Running, Ended}
use Rattle.protocol_values.specs.declared.Commit.TheVariants.{Pair, Alone}
use Rattle.protocol_values.specs.declared.Joined.{Joined}
use Rattle.protocol_values.specs.declared.Message.TheVariants.{Empty}
use Rattle.protocol_values.specs.declared.NackName.{NackName}
use Rattle.protocol_values.specs.declared.Offer.{Offer}
use Rattle.protocol_values.specs.declared.Row.{Row}
use Rattle.protocol_values.specs.Commits.{Gives, stamp_of}
use Rattle.protocol_values.specs.Scopes.{has_scope}
use Rattle.protocol_ledger.specs.Acting as acting
use Rattle.protocol_ledger.specs.Acting.{ActsAs, Before, DoesAt, EndsAt, HasStart, IsStampBehind, IsStarted, StartedBy, before_of}
use Rattle.protocol_ledger.specs.Ledgers as ledgers
use Rattle.protocol_ledger.specs.Ledgers.{CountsThread, Ledger, LivesAt, HasCommit, Involves, IsEnabled, IsEnabledHere, IsLawful, Takes, binding_in, carried_in, commits_in, course_in, has_row, joined_in, marks_in, no_entry, offer_in}
use Rattle.protocol_ledger.specs.Openings.{IsDead}
use Rattle.protocol_ledger.specs.Tables.{bound_row, number_of, start_of}
use Rattle.protocol_ledger.proofs.Acting.{start_is}
use Rattle.protocol_ledger.proofs.Closing.{carried_unbound}
use Rattle.protocol_ledger.proofs.CommitLemmas.{commit_members}
use Rattle.protocol_ledger.proofs.Lawfulness.{counts_own}
use Rattle.protocol_ledger.proofs.Ordering.{causal_ledger, lower_first}
use Rattle.protocol_ledger.proofs.Results.{gift, gives-involves, one-list, one-result}
use Rattle.journal_replay.specs.Runs.{CausedBy, Config, CountsFor, CountsOf, FiredAt, Follows, HasRow, HasThread, IsCaused, IsFiredAt, IsGreatest, IsLegal, IsOffering, IsRow, IsRun, MayTake, applied, config_of, no_results}
use Rattle.journal_replay.specs.Starting.{AtOnce, CountsForStart, HasEnded, HasSpawned, InRow, InStart, Spawned, SpawnsAt, Starts}
use Rattle.journal_replay.specs.Standing.{KnowsNack}
use Rattle.journal_replay.proofs.Extending.{Extends, applied-other}
use Rattle.journal_replay.proofs.Firing.{fired-behind, fired-front}
use Rattle.journal_replay.proofs.Greatest.{greatest-none, in-more, last-more, more, more-cases}
use Rattle.journal_replay.proofs.Running.{run-none}
use Rattle.journal_replay.proofs.Lists.{slice_get-first, slice_get-middle, slice_get-more}
use Rattle.journal_replay.proofs.Starting.{counts-earlier, counts-later, spawns-once, starts-later}
use Rattle.journal_replay.proofs.Standing.{config_of-more, counts, row-thread}
use Rattle.journal_ledger.specs.Behind.{GoesOn, IsBehind, OfEach, RunsBehind, TellsEndsOn, TellsNacksOn, TellsResultsOn, TellsRowsOn, TellsStampsOn, TellsStartsOn, TellsThreadsOn, acts_behind, fired_before, numbered, renumbered, run_on}
use Rattle.journal_ledger.specs.Ledgers.{IsLedgerOf, IsOrderOf, LedgerIsRun, LedgersTell, ProcessSpawns, TellsNacks, TellsResults, TellsStamps, TellsStarts, fired_as, nothing_before}
use Rattle.protocol_ledger.specs.Standing.{AreResults, OffersAs, binding_of}
use Rattle.protocol_ledger.specs.declared.opening.NackState.TheVariants.{Dead, Enabled, Unbound, Unsettled}
use Rattle.journal_order.proofs.Nacks.{fired-once}
use Rattle.journal_order.proofs.Results.{rows-within}
use Rattle.journal_order.proofs.Runs.{RunsOn, get-take, run-from}
use Rattle.journal_order.proofs.Swapping.{grows, has-or-not}

abbrev row : ℕ → ℕ → Row
row t g = record { thread = t; sync = g }

-- THE ROWS OF A COMMIT

-- a thread of a commit is that of one of its rows
pub thread-involves : (c : Commit) (t : ℕ) → HasThread c t → (g : ℕ) × Involves c (row t g)
thread-involves (Pair sender receiver chan msg stamp) t (inl e) = (sender.0.sync, (sender.1, inl (λ i. (record { thread = e i; sync = sender.0.sync }, sender.1))))
thread-involves (Pair sender receiver chan msg stamp) t (inr e) = (receiver.0.sync, (receiver.1, inr (λ i. (record { thread = e i; sync = receiver.0.sync }, receiver.1))))
thread-involves (Alone at why stamp) t e = (at.0.sync, (at.1, λ i. (record { thread = e i; sync = at.0.sync }, at.1)))

row-involves : (c : Commit) (t g : ℕ) → HasRow c t g → Involves c (row t g)
row-involves (Pair sender receiver chan msg stamp) t g (inl e) = (sender.1, inl (λ i. (record { thread = e.0 i; sync = e.1 i }, sender.1)))
row-involves (Pair sender receiver chan msg stamp) t g (inr e) = (receiver.1, inr (λ i. (record { thread = e.0 i; sync = e.1 i }, receiver.1)))
row-involves (Alone at why stamp) t g e = (at.1, λ i. (record { thread = e.0 i; sync = e.1 i }, at.1))

is-row : (at : Row × ℕ) (t g n : ℕ) → at ≡ (row t g, n) → IsRow at t g
is-row at t g n e = (ap (λ (z : Row × ℕ). z.0.thread) e, ap (λ (z : Row × ℕ). z.0.sync) e)

involves-row : (c : Commit) (t g : ℕ) → Involves c (row t g) → HasRow c t g
involves-row (Pair sender receiver chan msg stamp) t g (n, inl e) = inl (is-row sender t g n e)
involves-row (Pair sender receiver chan msg stamp) t g (n, inr e) = inr (is-row receiver t g n e)
involves-row (Alone at why stamp) t g (n, e) = is-row at t g n e

involves-thread : (c : Commit) (t g : ℕ) → Involves c (row t g) → HasThread c t
involves-thread c t g h = row-thread c t g (involves-row c t g h)

-- the base event of an offer
record OfferedBase (bs : List BaseEvent) (n : ℕ) (o : Offer) : Type 0 where
  base : BaseEvent
  there : slice_get bs n ≡ Some base
  is : offer_of base ≡ o

offered-base : (bs : List BaseEvent) (n : ℕ) (o : Offer) → slice_get (map offer_of bs) n ≡ Some o → OfferedBase bs n o
offered-base [] n o e = absurd (none-some o e)
offered-base (b ∷ bs) zero o e = record { base = b; there = refl; is = same_Some (offer_of b) o e }
offered-base (b ∷ bs) (suc n) o e = let w = offered-base bs n o e in record { base = w.base; there = w.there; is = w.is }

-- a scope that is not in the mask is not among the scopes
outside-mask : (scopes : List ℕ) (scope : ℕ) → has_scope (mask scopes) scope ≡ false → Contains scopes scope → ⊥
outside-mask scopes scope out has = false≢true (sym out ∙ ap (λ (n : ℕ). eqb n 1) ((mask-bits scopes scope).1 has))

-- and one that is in the mask is
inside-mask : (scopes : List ℕ) (scope : ℕ) → has_scope (mask scopes) scope ≡ true → Contains scopes scope
inside-mask scopes scope inside = (mask-bits scopes scope).0 (eqb-true (bit_at (mask scopes) scope) 1 inside)

-- WHAT A THREAD OFFERS is one event
abbrev tree-in : Outcome State → Tree → Tree
tree-in (Goes value) other = other
tree-in (OffersTree event printed) other = event
tree-in (Finishes printed left) other = other
tree-in (Fails fault printed left) other = other
tree-in Strays other = other

one-event : (ps : List Proc) (t : ℕ) (xs ys : List Chosen) (d e : Tree) → xs ≡ ys → IsOffering ps t xs d → IsOffering ps t ys e → d ≡ e
one-event ps t xs ys d e same one two =
    let process : one.process ≡ two.process = same_Some one.process two.process (sym one.is_its ∙ two.is_its) in
    let both : after one.process.body (length one.process.variables) t xs ≡ after two.process.body (length two.process.variables) t ys =
    λ i. after ((process i).body) (length ((process i).variables)) t (same i) in
    ap (λ (o : Outcome State). tree-in o d) (sym one.offers ∙ both ∙ two.offers)

-- a thread that lives has started
lives-start : (c : Course) (g : ℕ) → LivesAt c g → HasStart c (start_of c)
lives-start Unstarted g h = absurd h
lives-start (Running start) g h = refl
lives-start (Ended start sync) g h = refl

start-case : (c : Course) → (c ≡ Unstarted) ⊎ HasStart c (start_of c)
start-case Unstarted = inl refl
start-case (Running start) = inr refl
start-case (Ended start sync) = inr refl

-- A LEDGER has what it tells of its own rows alone
in-table : (l : Ledger) (r : Row) → has_row l r ≡ true → (r.thread < l.threads) × (r.sync < l.rows)
in-table l r h =
    let p = and_parts (ltb r.thread l.threads) (ltb r.sync l.rows) h in
    (ltb-true r.thread l.threads p.0, ltb-true r.sync l.rows p.1)

joined-inside : (l : Ledger) (r : Row) (j : Joined) → joined_in l r ≡ Some j → (r.thread < l.threads) × (r.sync < l.rows)
unfolding joined_in
joined-inside l r j h = by (has_row l r) refl h
  where
    by : (b : Bool) → has_row l r ≡ b → (cond b (get_or l.entries (number_of l.rows r) no_entry) no_entry).joined ≡ Some j → (r.thread < l.threads) × (r.sync < l.rows)
    by true e k = in-table l r e
    by false e k = absurd (none-some j k)

offer-inside : (l : Ledger) (r : Row) (n : ℕ) (o : Offer) → offer_in l r n ≡ Some o → (r.thread < l.threads) × (r.sync < l.rows)
unfolding offer_in
offer-inside l r n o h = by (has_row l r) refl h
  where
    by : (b : Bool) → has_row l r ≡ b → get_or ((cond b (get_or l.entries (number_of l.rows r) no_entry) no_entry).offers) n None ≡ Some o → (r.thread < l.threads) × (r.sync < l.rows)
    by true e k = in-table l r e
    by false e k = absurd (none-some o k)

-- LISTS

slice_get-behind : {A : Type 0} (xs ys : List A) (g h : ℕ) → h ≡ length xs + g → slice_get (xs ++ ys) h ≡ slice_get ys g
slice_get-behind [] ys g h e = ap (slice_get ys) (omega (arith, e))
slice_get-behind (x ∷ xs) ys g zero e = absurd (omega (arith, e))
slice_get-behind (x ∷ xs) ys g (suc h) e = slice_get-behind xs ys g h (omega (arith, e))

contains-map : (f : Commit → Commit) (es : List Commit) (d : Commit) → Contains (map f es) d → (e : Commit) × Contains es e × (f e ≡ d)
contains-map f [] d h = absurd (omega (arith, h.1))
contains-map f (e ∷ es) d (zero, lt, same) = (e, (0, omega arith, refl), same)
contains-map f (e ∷ es) d (suc i, lt, same) = let w = contains-map f es d (i, omega (arith, lt), same) in (w.0, (suc w.1.0, omega (arith, w.1.1), w.1.2), w.2)

map-contains : (f : Commit → Commit) (es : List Commit) (e : Commit) → Contains es e → Contains (map f es) (f e)
map-contains f [] e h = absurd (omega (arith, h.1))
map-contains f (x ∷ es) e (zero, lt, same) = (0, omega arith, ap f same)
map-contains f (x ∷ es) e (suc i, lt, same) = let w = map-contains f es e (i, omega (arith, lt), same) in (suc w.0, omega (arith, w.1), w.2)

-- THE RUN'S NUMBERS

module _ (base : Config) where
  moved-stamp : (c : Commit) → stamp_of (renumbered base c) ≡ stamp_of c
  moved-stamp (Pair sender receiver chan msg stamp) = refl
  moved-stamp (Alone at why stamp) = refl

  moved-thread : (c : Commit) (t : ℕ) → HasThread c t → HasThread (renumbered base c) t
  moved-thread (Pair sender receiver chan msg stamp) t h = h
  moved-thread (Alone at why stamp) t h = h

  thread-moved : (c : Commit) (t : ℕ) → HasThread (renumbered base c) t → HasThread c t
  thread-moved (Pair sender receiver chan msg stamp) t h = h
  thread-moved (Alone at why stamp) t h = h

  moved-at : (at : Row × ℕ) (t g : ℕ) → IsRow at t g → IsRow (numbered base at) t (length (base t) + g)
  moved-at at t g h = (h.0, omega (arith, ap (λ (u : ℕ). length (base u)) h.0, h.1))

  at-moved : (at : Row × ℕ) (t h : ℕ) → IsRow (numbered base at) t h → (g : ℕ) × (h ≡ length (base t) + g) × IsRow at t g
  at-moved at t h is = (at.0.sync, omega (arith, ap (λ (u : ℕ). length (base u)) is.0, is.1), (is.0, refl))

  moved-row : (c : Commit) (t g : ℕ) → HasRow c t g → HasRow (renumbered base c) t (length (base t) + g)
  moved-row (Pair sender receiver chan msg stamp) t g (inl h) = inl (moved-at sender t g h)
  moved-row (Pair sender receiver chan msg stamp) t g (inr h) = inr (moved-at receiver t g h)
  moved-row (Alone at why stamp) t g h = moved-at at t g h

  row-moved : (c : Commit) (t h : ℕ) → HasRow (renumbered base c) t h → (g : ℕ) × (h ≡ length (base t) + g) × HasRow c t g
  row-moved (Pair sender receiver chan msg stamp) t h (inl is) = let w = at-moved sender t h is in (w.0, w.1, inl w.2)
  row-moved (Pair sender receiver chan msg stamp) t h (inr is) = let w = at-moved receiver t h is in (w.0, w.1, inr w.2)
  row-moved (Alone at why stamp) t h is = at-moved at t h is

  moved-place : (at : Row × ℕ) (t g : ℕ) → (numbered base at).0 ≡ row t (length (base t) + g) → at.0 ≡ row t g
  moved-place at t g e =
      let thread = ap (λ (r : Row). r.thread) e in
      let sync : at.0.sync ≡ g = omega (arith, ap (λ (r : Row). r.sync) e, ap (λ (u : ℕ). length (base u)) thread) in
      λ i. record { thread = thread i; sync = sync i }

  gives-moved : (c : Commit) (t g : ℕ) (x : Chosen) → Gives (renumbered base c) (row t (length (base t) + g)) x → Gives c (row t g) x
  gives-moved (Pair sender receiver chan msg stamp) t g x (inl h) = inl (moved-place sender t g h.0, h.1)
  gives-moved (Pair sender receiver chan msg stamp) t g x (inr h) = inr (moved-place receiver t g h.0, h.1)
  gives-moved (Alone at (cause.Always m) stamp) t g x h = (moved-place at t g h.0, h.1)
  gives-moved (Alone at (cause.Nack n) stamp) t g x h = (moved-place at t g h.0, h.1)
  gives-moved (Alone at (cause.End p) stamp) t g x h = (moved-place at t g h.0, h.1)

module _ (ps : List Proc) (rows : ℕ) (run : List Commit) (had : Before) (l : Ledger) (commits : List Commit) (on : GoesOn ps rows run had l commits) where
  law : IsLawful l
  law = on.lawful

  of : ActsAs had (acts_behind ps (config_of run)) l
  of = on.acts

  order : IsOrderOf l commits
  order = on.order

  -- WHERE THE RUN LED, and where it leads with commits of the ledger behind it
  abbrev base : Config
  base = config_of run

  abbrev moved : Commit → Commit
  moved = renumbered base

  abbrev whole : List Commit → List Commit
  whole = run_on run

  abbrev later : List Commit → Config
  later es = config_of (whole es)

  parts : (es : List Commit) (d : Commit) → Contains (whole es) d → Contains run d ⊎ ((e : Commit) × Contains es e × (moved e ≡ d))
  parts es d h = ⊎_elim (λ old. inl old) (λ new. inr (contains-map moved es d new)) (Contains-append_cases run (map moved es) d h)

  in-front : (es : List Commit) (d : Commit) → Contains run d → Contains (whole es) d
  in-front es d h = Contains-append_left run (map moved es) d h

  in-whole : (es : List Commit) (e : Commit) → Contains es e → Contains (whole es) (moved e)
  in-whole es e h = Contains-append_right run (map moved es) (moved e) (map-contains moved es e h)

  whole-more : (es : List Commit) (c : Commit) → whole (more es c) ≡ more (whole es) (moved c)
  whole-more es c = ap (λ (cs : List Commit). run ++ cs) (map-append moved es (c ∷ [])) ∙ sym (append_assoc run (map moved es) (moved c ∷ []))

  -- WHAT WENT BEFORE

  -- a thread of the run had started, and its start here is no lower
  start-above : (d : Commit) (t : ℕ) → Contains run d → HasThread d t → stamp_of d ≤ start_of (course_in l t)
  start-above d t there has = let w = on.behind.below d t there has in omega (arith, w.3, start_is (course_in l t) w.1 w.2)

  -- a nack that was settled with a stamp was fired by the commit of that stamp
  carried-known : (n : NackName) (stamp : ℕ) → 1 ≤ stamp → carried_in l n ≡ Some stamp → KnowsNack ps n.thread (base n.thread) run n.k (Some stamp)
  carried-known n zero positive is = absurd (omega (arith, positive))
  carried-known n (suc stamp) positive is = subst (λ (o : Option ℕ). KnowsNack ps n.thread (base n.thread) run n.k (fired_before o)) is (on.behind.nacks n)

  -- and one that the run fired was settled with a stamp
  fired-carried : (n : NackName) (g : ℕ) → FiredAt ps n.thread (base n.thread) n.k g → (stamp : ℕ) × (1 ≤ stamp) × (carried_in l n ≡ Some stamp)
  fired-carried n g f = by (carried_in l n) refl
    where
      by : (o : Option ℕ) → carried_in l n ≡ o → (stamp : ℕ) × (1 ≤ stamp) × (carried_in l n ≡ Some stamp)
      by None is = absurd (subst (λ (o : Option ℕ). KnowsNack ps n.thread (base n.thread) run n.k (fired_before o)) is (on.behind.nacks n) g f)
      by (Some zero) is = absurd (subst (λ (o : Option ℕ). KnowsNack ps n.thread (base n.thread) run n.k (fired_before o)) is (on.behind.nacks n) g f)
      by (Some (suc stamp)) is = (suc stamp, omega arith, is)

  -- what counts for a start in the run is of a row that was made there
  no-late : (e d : Commit) {t : ℕ} → CountsForStart ps base d t → moved e ≡ d → ⊥
  no-late e d (InRow {t} s n g by at below has) is =
      let w = row-moved base e s g (subst (λ (z : Commit). HasRow z s g) (sym is) has) in
      let within = at.within in
      omega (arith, within, below, w.1)
  no-late e d (InStart s by counts) is = no-late e d counts is

  -- THE COMMITS

  in-ledger : (c : Commit) → Contains commits c → HasCommit l c
  in-ledger c h = (commit_members l.threads l.rows (joined_in l) (offer_in l) (marks_in l) law (joined-inside l) c).0
      (Contains-permutation commits (commits_in l) c (IsPermutation-sym (commits_in l) commits order.all) h)

  in-commits : (c : Commit) → HasCommit l c → Contains commits c
  in-commits c h = Contains-permutation (commits_in l) commits c order.all ((commit_members l.threads l.rows (joined_in l) (offer_in l) (marks_in l) law (joined-inside l) c).1 h)

  -- what is taken was offered
  offer-at : (at : Row × ℕ) (b : Base) (r : Row) (n : ℕ) → ledgers.Offers (offer_in l) at b → at ≡ (r, n) → (o : Offer) × (offer_in l r n ≡ Some o)
  offer-at at b r n h e = (h.0, ap (λ (z : Row × ℕ). offer_in l z.0 z.1) (sym e) ∙ h.1)

  offered-alone : (at : Row × ℕ) (why : Cause) (r : Row) (n : ℕ) → ledgers.IsCaused (joined_in l) (offer_in l) (marks_in l) at why → at ≡ (r, n) → (o : Offer) × (offer_in l r n ≡ Some o)
  offered-alone at (cause.Always m) r n h e = offer-at at (Always m) r n h e
  offered-alone at (cause.Nack k) r n h e = offer-at at (OnNack k) r n h.0 e
  offered-alone at (cause.End t) r n h e = offer-at at (OnEnd t) r n h.0 e

  offered-by : (c : Commit) (r : Row) (n : ℕ) → HasCommit l c → Takes c r n → (o : Offer) × (offer_in l r n ≡ Some o)
  offered-by (Pair sender receiver chan msg stamp) r n h (inl e) = offer-at sender (Send chan msg) r n (law.fits (Pair sender receiver chan msg stamp) h).1 e
  offered-by (Pair sender receiver chan msg stamp) r n h (inr e) = offer-at receiver (Recv chan) r n (law.fits (Pair sender receiver chan msg stamp) h).2 e
  offered-by (Alone at why stamp) r n h e = offered-alone at why r n (law.fits (Alone at why stamp) h) e

  abbrev Off : Row → Type 0
  Off r = OffersAs (acts_behind ps base).offers l r

  -- an offer of the row is one of its process's event
  shown : (r : Row) (off : Off r) (n : ℕ) (o : Offer) → offer_in l r n ≡ Some o → slice_get (offers off.standing.event) n ≡ Some o
  shown r off n o h = ap (λ (os : List Offer). slice_get os n) off.standing.are ∙ off.offered n o h

  -- THESE COMMITS LEAD to the results of the rows that they have, behind those of the run
  record Leads (es : List Commit) : Type 0 where
    members : (c : Commit) → Contains es c → HasCommit l c
    made : Config
    is : (t : ℕ) → later es t ≡ base t ++ made t
    given : (t g : ℕ) (x : Chosen) → slice_get (made t) g ≡ Some x → (c : Commit) × Contains es c × Gives c (row t g) x
    inside : (c : Commit) (t g : ℕ) → Contains es c → Involves c (row t g) → g < length (made t)

  are : (es : List Commit) (k : Leads es) (t : ℕ) → AreResults l t (k.made t)
  are es k t g x h = let c = k.given t g x h in (c.0, k.members c.0 c.1, c.2)

  are-first : (es : List Commit) (k : Leads es) (t n : ℕ) → AreResults l t (take n (k.made t))
  are-first es k t n g x h = are es k t g x (get-take n (k.made t) g x h).1

  module _ (es : List Commit) (k : Leads es) where
    extends : (t : ℕ) → Extends (base t) (later es t)
    extends t = (k.made t, k.is t)

    size : (t : ℕ) → length (later es t) ≡ length (base t) + length (k.made t)
    size t = ap (λ (xs : List Chosen). length xs) (k.is t) ∙ length-append (base t) (k.made t)

    front-of : (t n : ℕ) → take (length (base t) + n) (later es t) ≡ base t ++ take n (k.made t)
    front-of t n = ap (take (length (base t) + n)) (k.is t) ∙ take-append-add (base t) (k.made t) n

    result-of : (t g : ℕ) → slice_get (later es t) (length (base t) + g) ≡ slice_get (k.made t) g
    result-of t g = ap (λ (xs : List Chosen). slice_get xs (length (base t) + g)) (k.is t) ∙ slice_get-behind (base t) (k.made t) g (length (base t) + g) refl

    -- a nack that the run fired is fired, and by no other sync of it
    fired-on : (n : NackName) (g : ℕ) → FiredAt ps n.thread (base n.thread) n.k g → IsFiredAt ps (later es) n g
    fired-on n g f = subst (λ (xs : List Chosen). FiredAt ps n.thread xs n.k g) (sym (k.is n.thread)) (fired-behind ps n.thread (base n.thread) (k.made n.thread) n.k g f)

    fired-then : (n : NackName) (g : ℕ) → IsFiredAt ps (later es) n g → g < length (base n.thread) → FiredAt ps n.thread (base n.thread) n.k g
    fired-then n g f low = fired-front ps n.thread (base n.thread) (k.made n.thread) n.k g (subst (λ (xs : List Chosen). FiredAt ps n.thread xs n.k g) (k.is n.thread) f) low

    counts-on : (t : ℕ) (d : Commit) → CountsOf ps base t d → CountsOf ps (later es) t d
    counts-on t d h = ⊎_elim (λ has. inl has) (λ start. inr (counts-later ps base (later es) extends d start)) h

    -- the row's process stands there, where the thread has as many results
    before : (r : Row) (off : Off r) → r.sync ≤ length (k.made r.thread) → off.results ≡ take r.sync (k.made r.thread)
    before r off low = one-list l law r.thread off.results (take r.sync (k.made r.thread)) (off.count ∙ sym (length-take-le r.sync (k.made r.thread) low)) off.are (are-first es k r.thread r.sync)

    stood : (r : Row) (off : Off r) → r.sync ≤ length (k.made r.thread) → base r.thread ++ off.results ≡ take (length (base r.thread) + r.sync) (later es r.thread)
    stood r off low = ap (λ (xs : List Chosen). base r.thread ++ xs) (before r off low) ∙ sym (front-of r.thread r.sync)

    now : (r : Row) (off : Off r) → r.sync ≡ length (k.made r.thread) → base r.thread ++ off.results ≡ later es r.thread
    now r off next = ap (λ (xs : List Chosen). base r.thread ++ xs) (one-list l law r.thread off.results (k.made r.thread) (off.count ∙ next) off.are (are es k r.thread)) ∙ sym (k.is r.thread)

    can-take : (at : Row × ℕ) (b : Base) → Starts ps (later es) at.0.thread → ledgers.Offers (offer_in l) at b → at.0.sync ≡ length (k.made at.0.thread) → MayTake ps rows (later es) (numbered base at) b
    can-take at b started h next =
        let off = of.offers at.0 at.1 h.0 h.1 in
        let base_event = offered-base (bases off.standing.event) at.1 h.0 (shown at.0 off at.1 h.0 h.1) in
        let low = offer-inside l at.0 at.1 h.0 h.1 in record {
          started = started;
          can = record {
            few = omega (arith, next, low.1, on.room at.0.thread low.0, size at.0.thread);
            next = omega (arith, next, size at.0.thread);
            event = off.standing.event;
            offered = subst (λ (xs : List Chosen). IsOffering ps at.0.thread xs off.standing.event) (now at.0 off next) off.standing.offered;
            base = base_event.base;
            is = base_event.there;
            same = ap (λ (o : Offer). o.base) base_event.is ∙ h.2;
          };
        }

    -- a nack that the ledger calls enabled here is fired
    fired : (n : NackName) (en : IsEnabledHere (joined_in l) (offer_in l) (marks_in l) n) → Contains es en.commit → IsFiredAt ps (later es) n (length (base n.thread) + en.binding.sync)
    fired n en there =
        let g = en.binding.sync in
        let r = row n.thread g in
        let config = k.made n.thread in
        let low : g < length config = k.inside en.commit n.thread g there (en.chosen, en.takes) in
        let gave = gift en.commit r en.chosen en.takes in
        let x = get_or config g gave.result in
        let at : slice_get config g ≡ Some x = slice_get-get_or config g gave.result low in
        let giver = are es k n.thread g x at in
        let same : x ≡ gave.result = one-result l law giver.0 en.commit r x gave.result giver.1 en.inside giver.2 gave.gives in
        let number : en.chosen ≡ x.0 = sym (ap (λ (z : Chosen). z.0) same ∙ gave.number) in
        let offer = offered-by en.commit r en.chosen en.inside en.takes in
        let off = of.offers r en.chosen offer.0 offer.1 in
        let base_event = offered-base (bases off.standing.event) en.chosen offer.0 (shown r off en.chosen offer.0 offer.1) in record {
          chosen = x;
          result = result-of n.thread g ∙ at;
          event = off.standing.event;
          offered = subst (λ (xs : List Chosen). IsOffering ps n.thread xs off.standing.event) (stood r off (omega (arith, low))) off.standing.offered;
          scope = en.binding.scope;
          nack = ap (λ (ns : List ℕ). slice_get ns en.binding.scope) off.standing.scopes ∙ off.no_others en.binding.scope n.k en.is_bound;
          base = base_event.base;
          took = ap (slice_get (bases off.standing.event)) (sym number) ∙ base_event.there;
          outside = λ has. outside-mask base_event.base.scopes en.binding.scope (ap (λ (o : Offer). has_scope o.scopes en.binding.scope) base_event.is ∙ en.outside offer.0 offer.1) has;
        }

    -- and one that a row of the ledger fired is bound to the scope and the sync that fired it
    bound-scope : (n : NackName) (g : ℕ) (d : Commit) → Contains es d → Involves d (row n.thread g) → (f : IsFiredAt ps (later es) n (length (base n.thread) + g)) → binding_in l n ≡ Some (binding_of (row n.thread g) f.scope)
    bound-scope n g d there has f =
        let r = row n.thread g in
        let offer = offered-by d r has.0 (k.members d there) has.1 in
        let off = of.offers r has.0 offer.0 offer.1 in
        let low = k.inside d n.thread g there has in
        let same : f.event ≡ off.standing.event =
        one-event ps n.thread (take (length (base n.thread) + g) (later es n.thread)) (base n.thread ++ off.results) f.event off.standing.event (sym (stood r off (omega (arith, low)))) f.offered off.standing.offered in
        off.bound f.scope n.k (ap (λ (ns : List ℕ). slice_get ns f.scope) (sym off.standing.scopes) ∙ ap (λ (e : Tree). slice_get (scope_nacks e) f.scope) (sym same) ∙ f.nack)

    bound-where : (n : NackName) (g h : ℕ) (d : Commit) → Contains es d → Involves d (row n.thread g) → h ≡ length (base n.thread) + g → IsFiredAt ps (later es) n h → (b : Binding) × (binding_in l n ≡ Some b) × (b.sync ≡ g)
    bound-where n g h d there has is f =
        let f' = subst (IsFiredAt ps (later es) n) is f in
        (binding_of (row n.thread g) f'.scope, bound-scope n g d there has f', refl)

    -- a thread that has ended did so behind the results of these rows, or behind none of them
    did_end : (t g : ℕ) → (had.ended t × (g ≡ 0)) ⊎ DoesAt l (row t g) ((acts_behind ps base).ends t) → DoesAt l (row t g) ((acts_behind ps base).ends t)
    did_end t g (inl was) = record {
      results = [];
      count = sym was.1;
      are = λ h x e. absurd (none-some x e);
      does = subst (HasEnded ps t) (sym (append-nil (base t))) (on.behind.ended t was.0);
    }
    did_end t g (inr does) = does

    -- it has ended behind the results that it has, where all commits of its rows are there
    ended-with : (t start sync : ℕ) → course_in l t ≡ Ended start sync → ((d : Commit) (g : ℕ) → HasCommit l d → Involves d (row t g) → Contains es d) → HasEnded ps t (later es t)
    ended-with t start sync e all =
        let end = did_end t sync (of.ends t sync (subst (λ (x : Course). EndsAt x sync) (sym e) refl)) in
        let same : length (k.made t) ≡ sync = ⊎_elim (λ same. same) (λ other. ⊎_elim (λ less. absurd (missing end less)) (λ more-than. absurd (further more-than)) other) (cases_order (length (k.made t)) sync) in
        subst (HasEnded ps t) (ap (λ (xs : List Chosen). base t ++ xs) (one-list l law t end.results (k.made t) (end.count ∙ sym same) end.are (are es k t)) ∙ sym (k.is t)) end.does
      where
        missing : (end : DoesAt l (row t sync) ((acts_behind ps base).ends t)) → length (k.made t) < sync → ⊥
        missing end less =
            let h = length (k.made t) in
            let x = get_or end.results h (0, Empty) in
            let d = end.are h x (slice_get-get_or end.results h (0, Empty) (omega (arith, less, end.count))) in
            let has = gives-involves d.0 (row t h) x d.2 in
            let low = k.inside d.0 t h (all d.0 h d.1 has) has in
            omega (arith, low)

        further : sync < length (k.made t) → ⊥
        further more-than =
            let x = get_or (k.made t) sync (0, Empty) in
            let d = k.given t sync x (slice_get-get_or (k.made t) sync (0, Empty) more-than) in
            let lived = subst (λ (y : Course). LivesAt y sync) e (law.lived d.0 (row t sync) (k.members d.0 d.1) (gives-involves d.0 (row t sync) x d.2)) in
            omega (arith, lived)

    -- STARTS in the ledger
    abbrev Begun : ℕ → ℕ → Type 0
    Begun t stamp = IsStarted had.started (acts_behind ps base).starts l t stamp

    -- a thread's start is not above what stands behind it
    start-below : (s start n stamp : ℕ) → HasStart (course_in l s) start → IsStampBehind l s start n stamp → start ≤ stamp
    start-below s start zero stamp running is = omega (arith, is)
    start-below s start (suc g) stamp running is =
        let above = (law.stamps is.0 is.1).after_start s (counts_own is.0 (row s g) is.2) in
        omega (arith, above, start_is (course_in l s) start running, is.3)

    -- a row behind which a thread was started has at most the start's stamp
    row-below : (s start n stamp g : ℕ) (d : Commit) → IsStampBehind l s start n stamp → g < n → HasCommit l d → Involves d (row s g) → stamp_of d ≤ stamp
    row-below s start zero stamp g d is below in_d has = absurd (omega (arith, below))
    row-below s start (suc h) stamp g d is below in_d has = ⊎_elim
        (λ (same : g ≡ h).
        let one : d ≡ is.0 = law.once (row s h) d is.0 in_d is.1 (subst (λ (n : ℕ). Involves d (row s n)) same has) is.2 in
        omega (arith, ap stamp_of one, is.3))
        (λ (ne : g ≡ h → ⊥).
        let above = (law.stamps is.0 is.1).above d in_d (inl (s, h, g, omega (arith, below, ne), has, is.2)) in
        omega (arith, above, is.3))
        (cases_eq g h)

    -- of the commits that count for what a thread did at its start one has just its stamp, where that is not 0
    abbrev Told : ℕ → ℕ → Type 0
    Told t stamp = (stamp ≡ 0) ⊎ ((d : Commit) × Contains (whole es) d × CountsOf ps (later es) t d × (stamp_of d ≡ stamp))

    -- WHO STARTED BELOW A STAMP has started in the run, where the commits below it are there
    module _ (top : ℕ) (lower : (d : Commit) → HasCommit l d → stamp_of d < top → Contains es d) where
      reached : (s start n stamp : ℕ) → IsStampBehind l s start n stamp → stamp < top → n ≤ length (k.made s)
      reached s start zero stamp is less = omega arith
      reached s start (suc g) stamp is less = let low = k.inside is.0 s g (lower is.0 is.1 (omega (arith, less, is.3))) is.2 in omega (arith, low)

      -- so many results of the thread stand behind those that it had
      abbrev pre : ℕ → List Chosen → List Chosen
      pre s results = base s ++ results

      pre-size : (s : ℕ) (results : List Chosen) → length (pre s results) ≡ length (base s) + length results
      pre-size s results = length-append (base s) results

      spawned-at : (s t start stamp : ℕ) (results : List Chosen) → AreResults l s results → ProcessSpawns ps s (pre s results) t → IsStampBehind l s start (length results) stamp → stamp < top → SpawnsAt ps s (later es s) t (length (pre s results))
      spawned-at s t start stamp results of-s by is less =
          let n = length (pre s results) in
          let low = reached s start (length results) stamp is less in
          let same : results ≡ take (length results) (k.made s) = one-list l law s results (take (length results) (k.made s)) (sym (length-take-le (length results) (k.made s) low)) of-s (are-first es k s (length results)) in
          let front : pre s results ≡ take n (later es s) = ap (λ (xs : List Chosen). base s ++ xs) same ∙ sym (front-of s (length results)) ∙ ap (λ (m : ℕ). take m (later es s)) (sym (pre-size s results)) in record {
            within = omega (arith, low, size s, pre-size s results);
            there = subst (λ (xs : List Chosen). HasSpawned ps s xs t) (take_all n (pre s results) (omega arith) ∙ front) by.at.there;
            first = λ m below has. by.at.first m below (subst (λ (xs : List Chosen). HasSpawned ps s xs t) (sym (take-take m n (later es s) (omega (arith, below))) ∙ ap (take m) (sym front)) has);
          }

      starts-in : {t stamp : ℕ} → Begun t stamp → stamp < top → Starts ps (later es) t
      starts-in (acting.StartedBefore {t} {stamp} first) less = starts-later ps base (later es) extends (on.behind.started t stamp first).0
      starts-in (StartedBy {t} {stamp} s start running started results of-s does is) less =
          Spawned s (length (pre s results)) does.by (spawned-at s t start stamp results of-s does is less)
          (starts-in started (let low = start-below s start (length results) stamp running is in omega (arith, low, less)))

      -- what counts for a start has at most its stamp
      start-counts : {t stamp : ℕ} → Begun t stamp → stamp < top → (d : Commit) → Contains (whole es) d → CountsForStart ps (later es) d t → stamp_of d ≤ stamp
      start-counts (acting.StartedBefore {t} {stamp} first) less d there counts =
          let h = on.behind.started t stamp first in
          let old = counts-earlier ps base (later es) extends d counts h.0 in
          ⊎_elim
          (λ in_run. h.1.above d in_run (inr old))
          (λ new. absurd (no-late new.0 d old new.2))
          (parts es d there)
      start-counts (StartedBy {t} {stamp} s start running started results of-s does is) less d there (InRow u n g by at below has) =
          let same : u ≡ s = same_Some u s (sym by ∙ does.by) in
          let one : n ≡ length (pre s results) = spawns-once ps s (later es s) t n (length (pre s results)) (subst (λ (z : ℕ). SpawnsAt ps z (later es z) t n) same at) (spawned-at s t start stamp results of-s does is less) in
          let mine : HasRow d s g = subst (λ (z : ℕ). HasRow d z g) same has in
          let least = start-below s start (length results) stamp running is in
          ⊎_elim
          (λ in_run. let low = start-above d s in_run (row-thread d s g mine) in omega (arith, low, least, start_is (course_in l s) start running))
          (λ new.
          let w = row-moved base new.0 s g (subst (λ (z : Commit). HasRow z s g) (sym new.2) mine) in
          let low = row-below s start (length results) stamp w.0 new.0 is (omega (arith, below, one, pre-size s results, w.1)) (k.members new.0 new.1) (row-involves new.0 s w.0 w.2) in
          omega (arith, low, moved-stamp base new.0, ap stamp_of new.2))
          (parts es d there)
      start-counts (StartedBy {t} {stamp} s start running started results of-s does is) less d there (InStart u by counts) =
          let low = start-below s start (length results) stamp running is in
          let below = start-counts started (omega (arith, low, less)) d there (subst (CountsForStart ps (later es) d) (same_Some u s (sym by ∙ does.by)) counts) in
          omega (arith, low, below)

      start-there : {t stamp : ℕ} → Begun t stamp → stamp < top → Told t stamp
      start-there (acting.StartedBefore {t} {stamp} first) less = ⊎_elim
          (λ none. inl none)
          (λ w. inr (w.0, in-front es w.0 w.1, counts-on t w.0 w.2, w.3))
          (on.behind.started t stamp first).1.there
      start-there (StartedBy {t} {stamp} s start running started results of-s does is) less = by-count (length results) refl (λ below. start-there started below)
        where
          at-start : length results ≡ 0 → (d : Commit) → Contains (whole es) d → stamp_of d ≡ start → CountsOf ps (later es) s d → CountsForStart ps (later es) d t
          at-start none d there has_start (inr counts) = InStart s does.by counts
          at-start none d there has_start (inl has) = ⊎_elim
              (λ in_run.
              let w = run-row d s in_run has in
              InRow s (length (pre s results)) w.0 does.by (spawned-at s t start stamp results of-s does is less) (omega (arith, w.1, pre-size s results)) w.2)
              (λ new.
              let mine = thread-involves new.0 s (thread-moved base new.0 s (subst (λ (z : Commit). HasThread z s) (sym new.2) has)) in
              let above = (law.stamps new.0 (k.members new.0 new.1)).after_start s (counts_own new.0 (row s mine.0) mine.1) in
              absurd (omega (arith, above, start_is (course_in l s) start running, has_start, moved-stamp base new.0, ap stamp_of new.2)))
              (parts es d there)
            where
              run-row : (d : Commit) (s : ℕ) → Contains run d → HasThread d s → (g : ℕ) × (g < length (base s)) × HasRow d s g
              run-row d s in_run has =
                  let g = thread-involves d s has in
                  let mine = involves-row d s g.0 g.1 in
                  (g.0, rows-within ps rows run on.run d s g.0 in_run mine, mine)

          by-count : (n : ℕ) → length results ≡ n → (start < top → Told s start) → Told t stamp
          by-count zero e earlier =
              let same : stamp ≡ start = subst (λ (n : ℕ). IsStampBehind l s start n stamp) e is in
              ⊎_elim
              (λ none. inl (same ∙ none))
              (λ w. inr (w.0, w.1, inr (at-start e w.0 w.1 w.3 w.2), w.3 ∙ sym same))
              (earlier (omega (arith, same, less)))
          by-count (suc h) e earlier =
              let w = subst (λ (n : ℕ). IsStampBehind l s start n stamp) e is in
              let there = lower w.0 w.1 (omega (arith, w.3, less)) in
              inr (
                moved w.0,
                in-whole es w.0 there,
                inr (InRow s (length (pre s results)) (length (base s) + h) does.by (spawned-at s t start stamp results of-s does is less) (omega (arith, e, pre-size s results)) (moved-row base w.0 s h (involves-row w.0 s h w.2))),
                moved-stamp base w.0 ∙ w.3,
              )

    -- THE NEXT COMMIT: those of lower stamps are there already, and it is not
    module _ (c : Commit) (in_c : HasCommit l c) (anew : Contains es c → ⊥) (lower : (d : Commit) → HasCommit l d → stamp_of d < stamp_of c → Contains es d) where
      behind : (d : Commit) → HasCommit l d → ledgers.CountsFor (marks_in l) d c → Contains es d
      behind d in_d h = lower d in_d ((law.stamps c in_c).above d in_d h)

      -- THREADS OF THE COMMIT, and one for whose end it stands
      lives : (t : ℕ) → HasThread c t → Begun t (start_of (course_in l t))
      lives t mine = let g = thread-involves c t mine in of.starts t (start_of (course_in l t)) (lives-start (course_in l t) g.0 (law.lived c (row t g.0) in_c g.1))

      counts-thread : (t : ℕ) → HasThread c t → CountsThread c t
      counts-thread t mine = let g = thread-involves c t mine in counts_own c (row t g.0) g.1

      started : (t : ℕ) → HasThread c t → Starts ps (later es) t
      started t mine = starts-in (stamp_of c) lower (lives t mine) ((law.stamps c in_c).after_start t (counts-thread t mine))

      next-row : (t g : ℕ) → Involves c (row t g) → g ≡ length (k.made t)
      next-row t g has = ⊎_elim
          (λ e. e)
          (λ other. ⊎_elim (λ lt. absurd (taken lt)) (λ gt. absurd (missing gt)) other)
          (cases_order g (length (k.made t)))
        where
          taken : g < length (k.made t) → ⊥
          taken lt =
              let x = get_or (k.made t) g (0, Empty) in
              let d = k.given t g x (slice_get-get_or (k.made t) g (0, Empty) lt) in
              let same : d.0 ≡ c = law.once (row t g) d.0 c (k.members d.0 d.1) in_c (gives-involves d.0 (row t g) x d.2) has in
              anew (subst (Contains es) same d.1)

          missing : length (k.made t) < g → ⊥
          missing gt =
              let h = length (k.made t) in
              let d = law.in_turn c t g h in_c has gt in
              let low = k.inside d.0 t h (behind d.0 d.1 (inl (t, g, h, gt, d.2, has))) d.2 in
              omega (arith, low)

      next-at : (at : Row × ℕ) → Takes c at.0 at.1 → at.0.sync ≡ length (k.made at.0.thread)
      next-at at h = next-row at.0.thread at.0.sync (at.1, h)

      alone-started : (at : Row × ℕ) (why : Cause) (stamp : ℕ) → c ≡ Alone at why stamp → Starts ps (later es) at.0.thread
      alone-started at why stamp is = started at.0.thread (subst (λ (z : Commit). HasThread z at.0.thread) (sym is) refl)

      -- the start of a thread for whose end it stands is below it
      end-above : (at : Row × ℕ) (t stamp start sync : ℕ) → c ≡ Alone at (cause.End t) stamp → course_in l t ≡ Ended start sync → start < stamp_of c
      end-above at t stamp start sync is e =
          let above = (law.stamps c in_c).after_start t (subst (λ (z : Commit). CountsThread z t) (sym is) (inr refl)) in
          omega (arith, above, ap start_of e)

      fired-by-then : (at : Row × ℕ) (n : NackName) (stamp : ℕ) → c ≡ Alone at (cause.Nack n) stamp → IsEnabled (joined_in l) (offer_in l) (marks_in l) n → (g : ℕ) × IsFiredAt ps (later es) n g
      fired-by-then at n stamp is (inl en) = (
        length (base n.thread) + en.binding.sync,
        fired n en (behind en.commit en.inside (subst (λ (z : Commit). ledgers.CountsFor (marks_in l) en.commit z) (sym is) (inr (en.binding, en.is_bound, (en.chosen, en.takes))))),
      )
      fired-by-then at n stamp is (inr carried) = let f = (carried-known n carried.0 carried.1 carried.2).0 in (f.0, fired-on n f.0 f.1)

      caused : (at : Row × ℕ) (why : Cause) (stamp : ℕ) → c ≡ Alone at why stamp → ledgers.IsCaused (joined_in l) (offer_in l) (marks_in l) at why → at.0.sync ≡ length (k.made at.0.thread) → IsCaused ps rows (later es) (numbered base at) why
      caused at (cause.Always m) stamp is h next = can-take at (Always m) (alone-started at (cause.Always m) stamp is) h next
      caused at (cause.Nack n) stamp is h next = (can-take at (OnNack n) (alone-started at (cause.Nack n) stamp is) h.0 next, fired-by-then at n stamp is h.1)
      caused at (cause.End t) stamp is h next = (
        can-take at (OnEnd t) (alone-started at (cause.End t) stamp is) h.0 next,
        starts-in (stamp_of c) lower (of.starts t h.1.0 (subst (λ (x : Course). HasStart x h.1.0) (sym h.1.2) refl)) (end-above at t stamp h.1.0 h.1.1 is h.1.2),
        ended-with t h.1.0 h.1.1 h.1.2 (λ d g in_d has. behind d in_d (subst (λ (z : Commit). ledgers.CountsFor (marks_in l) d z) (sym is) (inr (g, has)))),
      )

      legal-as : (d : Commit) → c ≡ d → IsLegal ps rows (later es) (moved d)
      legal-as (Pair sender receiver chan msg stamp) is =
          let fits = subst (ledgers.Fits (joined_in l) (offer_in l) (marks_in l)) is (law.fits c in_c) in (
            fits.0,
            can-take sender (Send chan msg) (started sender.0.thread (subst (λ (z : Commit). HasThread z sender.0.thread) (sym is) (inl refl))) fits.1 (next-at sender (subst (λ (z : Commit). Takes z sender.0 sender.1) (sym is) (inl refl))),
            can-take receiver (Recv chan) (started receiver.0.thread (subst (λ (z : Commit). HasThread z receiver.0.thread) (sym is) (inr refl))) fits.2 (next-at receiver (subst (λ (z : Commit). Takes z receiver.0 receiver.1) (sym is) (inr refl))),
          )
      legal-as (Alone at why stamp) is =
          caused at why stamp is (subst (ledgers.Fits (joined_in l) (offer_in l) (marks_in l)) is (law.fits c in_c)) (next-at at (subst (λ (z : Commit). Takes z at.0 at.1) (sym is) refl))

      legal : IsLegal ps rows (later es) (moved c)
      legal = legal-as c refl

      -- WHICH COMMITS COUNT, in the ledger as in the run
      earlier-counts : (d : Commit) (t : ℕ) → Contains es d → HasThread d t → HasThread c t → ledgers.CountsFor (marks_in l) d c
      earlier-counts d t there has mine =
          let h = thread-involves d t has in
          let g = thread-involves c t mine in
          let low = k.inside d t h.0 there h.1 in
          inl (t, g.0, h.0, omega (arith, low, next-row t g.0 g.1), h.1, g.1)

      -- a commit of the ledger that counts has a lower stamp, as the run numbers it too
      moved-below : (e d : Commit) → Contains es e → moved e ≡ d → ledgers.CountsFor (marks_in l) e c → stamp_of d < stamp_of c
      moved-below e d there is counts = let less = (law.stamps c in_c).above e (k.members e there) counts in omega (arith, less, moved-stamp base e, ap stamp_of is)

      of-below : (d : Commit) (t : ℕ) → Contains (whole es) d → CountsOf ps (later es) t d → HasThread c t → stamp_of d < stamp_of c
      of-below d t there h mine =
          let less = (law.stamps c in_c).after_start t (counts-thread t mine) in
          ⊎_elim
          (λ has. ⊎_elim
          (λ in_run. let low = start-above d t in_run has in omega (arith, low, less))
          (λ new. moved-below new.0 d new.1 new.2 (earlier-counts new.0 t new.1 (thread-moved base new.0 t (subst (λ (z : Commit). HasThread z t) (sym new.2) has)) mine))
          (parts es d there))
          (λ start. let low = start-counts (stamp_of c) lower (lives t mine) less d there start in omega (arith, low, less))
          h

      enables-below : (at : Row × ℕ) (why : Cause) (stamp : ℕ) (d : Commit) → c ≡ Alone at why stamp → ledgers.IsCaused (joined_in l) (offer_in l) (marks_in l) at why → Contains (whole es) d → CausedBy ps (later es) why d → stamp_of d < stamp_of c
      enables-below at (cause.Always m) stamp d is fits there h = absurd h
      enables-below at (cause.Nack n) stamp d is fits there h = ⊎_elim
          (λ in_run.
          let f = fired-then n h.0 h.1 (rows-within ps rows run on.run d n.thread h.0 in_run h.2) in
          let carried = fired-carried n h.0 f in
          let low = (carried-known n carried.0 carried.1 carried.2).1.above d in_run (h.0, f, h.2) in
          let less = (law.stamps c in_c).after_carried carried.0 (subst (λ (z : Commit). ledgers.IsCarriedBy (marks_in l) z carried.0) (sym is) carried.2) in
          omega (arith, low, less))
          (λ new.
          let w = row-moved base new.0 n.thread h.0 (subst (λ (z : Commit). HasRow z n.thread h.0) (sym new.2) h.2) in
          let has = row-involves new.0 n.thread w.0 w.2 in
          let b = bound-where n w.0 h.0 new.0 new.1 has w.1 h.1 in
          moved-below new.0 d new.1 new.2
          (subst (λ (z : Commit). ledgers.CountsFor (marks_in l) new.0 z) (sym is)
          (inr (b.0, b.1, subst (λ (g : ℕ). Involves new.0 (row n.thread g)) (sym b.2) has))))
          (parts es d there)
      enables-below at (cause.End t) stamp d is fits there h =
          let less = end-above at t stamp fits.1.0 fits.1.1 is fits.1.2 in
          ⊎_elim
          (λ has. ⊎_elim
          (λ in_run. let low = start-above d t in_run has in omega (arith, low, less, ap start_of fits.1.2))
          (λ new.
          let g = thread-involves new.0 t (thread-moved base new.0 t (subst (λ (z : Commit). HasThread z t) (sym new.2) has)) in
          moved-below new.0 d new.1 new.2 (subst (λ (z : Commit). ledgers.CountsFor (marks_in l) new.0 z) (sym is) (inr (g.0, g.1))))
          (parts es d there))
          (λ start.
          let low = start-counts (stamp_of c) lower (of.starts t fits.1.0 (subst (λ (x : Course). HasStart x fits.1.0) (sym fits.1.2) refl)) less d there start in
          omega (arith, low, less))
          h

      counted-as : (e d : Commit) → c ≡ e → Contains (whole es) d → CountsFor ps (later es) (moved e) d → stamp_of d < stamp_of c
      counted-as (Pair sender receiver chan msg stamp) d is there (inl h) = of-below d sender.0.thread there h (subst (λ (z : Commit). HasThread z sender.0.thread) (sym is) (inl refl))
      counted-as (Pair sender receiver chan msg stamp) d is there (inr h) = of-below d receiver.0.thread there h (subst (λ (z : Commit). HasThread z receiver.0.thread) (sym is) (inr refl))
      counted-as (Alone at why stamp) d is there (inl h) = of-below d at.0.thread there h (subst (λ (z : Commit). HasThread z at.0.thread) (sym is) refl)
      counted-as (Alone at why stamp) d is there (inr h) = enables-below at why stamp d is (subst (ledgers.Fits (joined_in l) (offer_in l) (marks_in l)) is (law.fits c in_c)) there h

      fires : (at : Row × ℕ) (why : Cause) (d : Commit) → ledgers.IsCaused (joined_in l) (offer_in l) (marks_in l) at why → Contains es d → ledgers.CausedBy (marks_in l) d why → CausedBy ps (later es) why (moved d)
      fires at (cause.Always m) d h there by = absurd by
      fires at (cause.Nack n) d h there (b, is_bound, has) = by h.1
        where
          by : IsEnabled (joined_in l) (offer_in l) (marks_in l) n → CausedBy ps (later es) (cause.Nack n) (moved d)
          by (inr carried) = absurd (none-some b (sym (carried_unbound l n carried.0 carried.2) ∙ is_bound))
          by (inl en) =
              let same : en.binding ≡ b = same_Some en.binding b (sym en.is_bound ∙ is_bound) in
              let sync : en.binding.sync ≡ b.sync = ap (λ (z : Binding). z.sync) same in
              let mine : Involves en.commit (row n.thread b.sync) = subst (λ (g : ℕ). Involves en.commit (row n.thread g)) sync (en.chosen, en.takes) in
              let one : d ≡ en.commit = law.once (row n.thread b.sync) d en.commit (k.members d there) en.inside has mine in (
                length (base n.thread) + b.sync,
                subst (λ (g : ℕ). IsFiredAt ps (later es) n (length (base n.thread) + g)) sync (fired n en (subst (Contains es) one there)),
                moved-row base d n.thread b.sync (involves-row d n.thread b.sync has),
              )
      fires at (cause.End t) d h there (g, has) = inl (moved-thread base d t (involves-thread d t g has))

      counting-as : (e d : Commit) → c ≡ e → Contains es d → ledgers.CountsFor (marks_in l) d e → CountsFor ps (later es) (moved e) (moved d)
      counting-as e d is there (inl (t, g, h, lt, has_d, has_e)) =
          counts ps (later es) (moved e) (moved d) t (moved-thread base e t (involves-thread e t g has_e)) (inl (moved-thread base d t (involves-thread d t h has_d)))
      counting-as (Pair sender receiver chan msg stamp) d is there (inr h) = absurd h
      counting-as (Alone at why stamp) d is there (inr h) = inr (fires at why d (subst (ledgers.Fits (joined_in l) (offer_in l) (marks_in l)) is (law.fits c in_c)) there h)

      -- what counts for a thread that counts for the commit
      starting-as : (e d : Commit) (t : ℕ) → CountsThread e t → CountsOf ps (later es) t d → CountsFor ps (later es) (moved e) d
      starting-as (Pair sender receiver chan msg stamp) d t (inl is) h = inl (subst (λ (u : ℕ). CountsOf ps (later es) u d) (sym is) h)
      starting-as (Pair sender receiver chan msg stamp) d t (inr is) h = inr (subst (λ (u : ℕ). CountsOf ps (later es) u d) (sym is) h)
      starting-as (Alone at why stamp) d t (inl is) h = inl (subst (λ (u : ℕ). CountsOf ps (later es) u d) (sym is) h)
      starting-as (Alone at (cause.Always m) stamp) d t (inr is) h = absurd is
      starting-as (Alone at (cause.Nack n) stamp) d t (inr is) h = absurd is
      starting-as (Alone at (cause.End p) stamp) d t (inr is) h = inr (subst (λ (u : ℕ). CountsOf ps (later es) u d) (sym is) h)

      -- one of them has just the stamp that is due
      abbrev Below : ℕ → Type 0
      Below below = (below ≡ 0) ⊎ ((d : Commit) × Contains (whole es) d × CountsFor ps (later es) (moved c) d × (stamp_of d ≡ below))

      by-start : (t : ℕ) → CountsThread c t → stamp_of c ≡ start_of (course_in l t) + 1 → Below (stamp_of c - 1)
      by-start t counts is = ⊎_elim
          (λ none. inl (omega (arith, is, ap start_of none)))
          (λ has. ⊎_elim
          (λ first. inl (omega (arith, is, first)))
          (λ w. inr (w.0, w.1, starting-as c w.0 t counts w.2, omega (arith, is, w.3)))
          (start-there (stamp_of c) lower (of.starts t (start_of (course_in l t)) has) ((law.stamps c in_c).after_start t counts)))
          (start-case (course_in l t))

      by-nack : (at : Row × ℕ) (n : NackName) (stamp : ℕ) → c ≡ Alone at (cause.Nack n) stamp → (carried : ℕ) → 1 ≤ carried → carried_in l n ≡ Some carried → stamp_of c ≡ carried + 1 → Below (stamp_of c - 1)
      by-nack at n stamp is carried positive settled due =
          let known = carried-known n carried positive settled in
          ⊎_elim
          (λ none. inl (omega (arith, due, none)))
          (λ w. inr (
            w.0,
            in-front es w.0 w.1,
            subst (λ (z : Commit). CountsFor ps (later es) (moved z) w.0) (sym is) (inr (w.2.0, fired-on n w.2.0 w.2.1, w.2.2)),
            omega (arith, due, w.3),
          ))
          known.1.there

      by-carried : (e : Commit) (carried : ℕ) → c ≡ e → ledgers.IsCarriedBy (marks_in l) e carried → stamp_of c ≡ carried + 1 → Below (stamp_of c - 1)
      by-carried (Pair sender receiver chan msg stamp) carried is h due = absurd h
      by-carried (Alone at (cause.Always m) stamp) carried is h due = absurd h
      by-carried (Alone at (cause.End t) stamp) carried is h due = absurd h
      by-carried (Alone at (cause.Nack n) stamp) zero is h due = inl (omega (arith, due))
      by-carried (Alone at (cause.Nack n) stamp) (suc carried) is h due = by-nack at n stamp is (suc carried) (omega arith) h due

      greatest-is : IsGreatest (whole es) (CountsFor ps (later es) (moved c)) (stamp_of c - 1)
      greatest-is =
          let due = law.stamps c in_c in record {
            above = λ d there h. let below = counted-as c d refl there h in omega (arith, below);
            there = ⊎_elim
                (λ e. inl (omega (arith, e)))
                (λ other. ⊎_elim
                (λ h. inr (moved h.0, in-whole es h.0 (behind h.0 h.1 h.2), counting-as c h.0 refl (behind h.0 h.1 h.2) h.2, moved-stamp base h.0 ∙ omega (arith, h.3)))
                (λ rest. ⊎_elim
                (λ h. by-start h.0 h.1 h.2)
                (λ h. by-carried c h.0 refl h.1 h.2)
                rest)
                other)
                due.next;
          }

      positive : 1 ≤ stamp_of c
      positive = ⊎_elim (λ e. omega (arith, e)) (λ other. ⊎_elim (λ h. omega (arith, h.3)) (λ rest. ⊎_elim (λ h. omega (arith, h.2)) (λ h. omega (arith, h.2)) rest) other) (law.stamps c in_c).next

      follows : Follows ps rows (whole es) (moved c)
      follows = record { legal = legal; greatest = stamp_of c - 1; is = greatest-is; stamp = omega (arith, positive, moved-stamp base c) }

      -- WITH IT
      goes : (t : ℕ) → later (more es c) t ≡ applied (later es) (moved c) t
      goes t = ap (λ (cs : List Commit). config_of cs t) (whole-more es c) ∙ ap (λ (config : Config). config t) (config_of-more (whole es) (moved c))

      -- a thread of the commit has one result more, and no other has
      grew-by : (t : ℕ) → HasThread c t → (x : Chosen) × (later (more es c) t ≡ base t ++ (k.made t ++ x ∷ [])) × Gives c (row t (length (k.made t))) x
      grew-by t has =
          let grew = grows ps rows (later es) (moved c) t legal (moved-thread base c t has) in (
            grew.result,
            goes t ∙ grew.is ∙ ap (λ (xs : List Chosen). xs ++ grew.result ∷ []) (k.is t) ∙ append_assoc (base t) (k.made t) (grew.result ∷ []),
            gives-moved base c t (length (k.made t)) grew.result (subst (λ (g : ℕ). Gives (moved c) (row t g) grew.result) (size t) grew.gives),
          )

      same-for : (t : ℕ) → (HasThread c t → ⊥) → later (more es c) t ≡ base t ++ k.made t
      same-for t apart = goes t ∙ applied-other (later es) (moved c) t (λ has. apart (thread-moved base c t has)) ∙ k.is t

      abbrev made-now : Config
      made-now t = drop (length (base t)) (later (more es c) t)

      made-is : (t : ℕ) (rest : List Chosen) → later (more es c) t ≡ base t ++ rest → made-now t ≡ rest
      made-is t rest is = ap (drop (length (base t))) is ∙ drop-append_seam (base t) rest

      made-more : (t : ℕ) → ((x : Chosen) × (made-now t ≡ k.made t ++ x ∷ []) × HasThread c t × Gives c (row t (length (k.made t))) x) ⊎ ((made-now t ≡ k.made t) × (HasThread c t → ⊥))
      made-more t = ⊎_elim
          (λ has. let w = grew-by t has in inl (w.0, made-is t (k.made t ++ w.0 ∷ []) w.1, has, w.2))
          (λ no. inr (made-is t (k.made t) (same-for t no), no))
          (has-or-not c t)

      leads-more : Leads (more es c)
      leads-more = record {
        members = λ d h. ⊎_elim (λ old. k.members d old) (λ e. subst (HasCommit l) e in_c) (more-cases es c d h);
        made = made-now;
        is = λ t. ⊎_elim
            (λ has. let w = grew-by t has in w.1 ∙ ap (λ (xs : List Chosen). base t ++ xs) (sym (made-is t (k.made t ++ w.0 ∷ []) w.1)))
            (λ no. same-for t no ∙ ap (λ (xs : List Chosen). base t ++ xs) (sym (made-is t (k.made t) (same-for t no))))
            (has-or-not c t);
        given = λ t g x h. ⊎_elim
            (λ w. ⊎_elim
            (λ old. let d = k.given t g x old.1 in (d.0, in-more es c d.0 d.1, d.2))
            (λ new. (c, last-more es c, subst (λ (z : ℕ × Chosen). Gives c (row t z.0) z.1) (λ i. (sym new.0 i, new.1 i)) w.3))
            (slice_get-more (k.made t) w.0 x g (ap (λ (xs : List Chosen). slice_get xs g) (sym w.1) ∙ h)))
            (λ same. let d = k.given t g x (ap (λ (xs : List Chosen). slice_get xs g) (sym same.0) ∙ h) in (d.0, in-more es c d.0 d.1, d.2))
            (made-more t);
        inside = λ d t g h has. ⊎_elim
            (λ old. older d t g old has)
            (λ e. newest t g (subst (λ (z : Commit). Involves z (row t g)) (sym e) has))
            (more-cases es c d h);
      }
        where
          longer : (t : ℕ) → (length (k.made t) ≤ length (made-now t)) × (HasThread c t → length (k.made t) < length (made-now t))
          longer t = ⊎_elim
              (λ w.
              let count = ap (λ (xs : List Chosen). length xs) w.1 ∙ length-append (k.made t) (w.0 ∷ []) in
              (omega (arith, count), λ h. omega (arith, count)))
              (λ same. (omega (arith, ap (λ (xs : List Chosen). length xs) same.0), λ h. absurd (same.1 h)))
              (made-more t)

          older : (d : Commit) (t g : ℕ) → Contains es d → Involves d (row t g) → g < length (made-now t)
          older d t g there has = let low = k.inside d t g there has in omega (arith, low, (longer t).0)

          newest : (t g : ℕ) → Involves c (row t g) → g < length (made-now t)
          newest t g has = omega (arith, next-row t g has, (longer t).1 (involves-thread c t g has))

  leads-none : Leads []
  leads-none = record {
    members = λ c h. absurd (omega (arith, h.1));
    made = λ t. [];
    is = λ t. ap (λ (cs : List Commit). config_of cs t) (append-nil run) ∙ sym (append-nil (base t));
    given = λ t g x h. absurd (none-some x h);
    inside = λ c t g h has. absurd (omega (arith, h.1));
  }

  -- commit by commit: they run on, and lead to the results of all
  runs : (es cs : List Commit) → commits ≡ es ++ cs → Leads es → RunsOn ps rows (whole es) (map moved cs) × Leads commits
  runs es [] all k = (tt, subst Leads (sym (all ∙ append-nil es)) k)
  runs es (c ∷ cs) all k =
      let causal = causal_ledger l law commits order.all order.ordered in
      let at_c : slice_get commits (length es) ≡ Some c = ap (λ (xs : List Commit). slice_get xs (length es)) all ∙ slice_get-middle es cs c in
      let in_c : HasCommit l c = in-ledger c (place (length es) c at_c) in
      let anew : Contains es c → ⊥ = λ h. let same : h.0 ≡ length es = causal.once h.0 (length es) c (at-front h.0 c h) at_c in omega (arith, h.1, same) in
      let lower : (d : Commit) → HasCommit l d → stamp_of d < stamp_of c → Contains es d = λ d in_d less.
      let w = in-commits d in_d in
      let at_d : slice_get commits w.0 ≡ Some d = slice_get-get_or commits w.0 d w.1 ∙ ap (λ (z : Commit). Some z) w.2 in
      let lt : w.0 < length es = lower_first commits order.ordered w.0 (length es) c d at_d at_c less in
      place-in es w.0 d (sym (slice_get-first es (c ∷ cs) w.0 lt) ∙ ap (λ (xs : List Commit). slice_get xs w.0) (sym all) ∙ at_d) in
      let rest = runs (more es c) cs (all ∙ sym (append_assoc es (c ∷ []) cs)) (leads-more es k c in_c anew lower) in
      ((follows es k c in_c anew lower, subst (λ (xs : List Commit). RunsOn ps rows xs (map moved cs)) (whole-more es c) rest.0), rest.1)
    where
      place-in : (xs : List Commit) (i : ℕ) (d : Commit) → slice_get xs i ≡ Some d → Contains xs d
      place-in xs i d h = (i, slice_get_within xs i d h, get_or_from_slice_get xs i d d h)

      place : (i : ℕ) (d : Commit) → slice_get commits i ≡ Some d → Contains commits d
      place = place-in commits

      at-front : (i : ℕ) (d : Commit) (h : Contains es d) → slice_get commits h.0 ≡ Some d
      at-front i d h = ap (λ (xs : List Commit). slice_get xs h.0) all ∙ slice_get-first es (c ∷ cs) h.0 h.1 ∙ slice_get-get_or es h.0 d h.1 ∙ ap (λ (z : Commit). Some z) h.2

  pub ledger-runs-on : IsRun ps rows (whole commits)
  ledger-runs-on =
      let rest = subst (λ (xs : List Commit). RunsOn ps rows xs (map moved commits)) (append-nil run) (runs [] commits refl leads-none).0 in
      run-from ps rows run (map moved commits) on.run rest

  ledger-leads : Leads commits
  ledger-leads = (runs [] commits refl leads-none).1

  -- WHAT THE LEDGER TELLS OF ITS END

  -- the results of a thread's first rows are the first that its commits gave, behind those that it had
  pub tells-results-on : TellsResultsOn ps rows run l commits
  tells-results-on t results h =
      let made = ledger-leads.made t in
      let same : results ≡ take (length results) made = one-list l law t results (take (length results) made) (sym (length-take-le (length results) made (few results h))) h (are-first commits ledger-leads t (length results)) in
      ap (λ (xs : List Chosen). base t ++ xs) same ∙ sym (front-of commits ledger-leads t (length results)) ∙ ap (λ (m : ℕ). take m (later commits t)) (sym (length-append (base t) results))
    where
      few : (rs : List Chosen) → AreResults l t rs → length rs ≤ length (ledger-leads.made t)
      few [] a = omega arith
      few (x ∷ xs) a =
          let last = length xs in
          let there : slice_get (x ∷ xs) last ≡ Some (get_or (x ∷ xs) last x) = slice_get-get_or (x ∷ xs) last x (omega arith) in
          let c = a last (get_or (x ∷ xs) last x) there in
          let low = ledger-leads.inside c.0 t last (in-commits c.0 c.1) (gives-involves c.0 (row t last) (get_or (x ∷ xs) last x) c.2) in
          omega (arith, low)

  -- and each result behind those is one of its rows
  pub tells-rows-on : TellsRowsOn ps rows run l commits
  tells-rows-on t g x is =
      let d = ledger-leads.given t g x (sym (result-of commits ledger-leads t g) ∙ is) in
      (d.0, ledger-leads.members d.0 d.1, d.2)

  -- a nack that the ledger calls enabled here was fired by the commit that has its stamp
  tells-enabled : (n : NackName) (e : IsEnabledHere (joined_in l) (offer_in l) (marks_in l) n) → KnowsNack ps n.thread (later commits n.thread) (whole commits) n.k (Some (stamp_of e.commit))
  tells-enabled n e =
      let g = e.binding.sync in
      let there = in-commits e.commit e.inside in
      let f = fired commits ledger-leads n e there in (
        (length (base n.thread) + g, f),
        record {
          above = λ d in_d fires.
              let once = fired-once ps n.thread (later commits n.thread) n.k fires.0 (length (base n.thread) + g) fires.1 f in
              ⊎_elim
              (λ in_run. let low = rows-within ps rows run on.run d n.thread fires.0 in_run fires.2 in absurd (omega (arith, low, once)))
              (λ new.
              let w = row-moved base new.0 n.thread fires.0 (subst (λ (z : Commit). HasRow z n.thread fires.0) (sym new.2) fires.2) in
              let sync : w.0 ≡ g = omega (arith, once, w.1) in
              let one : new.0 ≡ e.commit = law.once (row n.thread g) new.0 e.commit (ledger-leads.members new.0 new.1) e.inside (subst (λ (h : ℕ). Involves new.0 (row n.thread h)) sync (row-involves new.0 n.thread w.0 w.2)) (e.chosen, e.takes) in
              omega (arith, ap stamp_of one, moved-stamp base new.0, ap stamp_of new.2))
              (parts commits d in_d);
          there = inr (
            moved e.commit,
            in-whole commits e.commit there,
            (length (base n.thread) + g, f, moved-row base e.commit n.thread g (involves-row e.commit n.thread g (e.chosen, e.takes))),
            moved-stamp base e.commit,
          );
        },
      )

  -- what was fired was fired in the run, or by a row of the ledger, to which it is bound
  abbrev FiredHere : NackName → ℕ → Type 0
  FiredHere n h =
      (g : ℕ) × (x : Chosen) × (d : Commit) × (h ≡ length (base n.thread) + g) × (slice_get (ledger-leads.made n.thread) g ≡ Some x) × Contains commits d × Gives d (row n.thread g) x

  fired-where : (n : NackName) (h : ℕ) → IsFiredAt ps (later commits) n h → FiredAt ps n.thread (base n.thread) n.k h ⊎ FiredHere n h
  fired-where n h f = ⊎_elim
      (λ low. inl (fired-then commits ledger-leads n h f low))
      (λ high.
      let g = h - length (base n.thread) in
      let place : h ≡ length (base n.thread) + g = omega (arith, high) in
      let got : slice_get (ledger-leads.made n.thread) g ≡ Some f.chosen = sym (result-of commits ledger-leads n.thread g) ∙ ap (slice_get (later commits n.thread)) (sym place) ∙ f.result in
      let d = ledger-leads.given n.thread g f.chosen got in
      inr (g, f.chosen, d.0, place, got, d.1, d.2))
      (cases_lt h (length (base n.thread)))

  -- a nack that was not settled with a stamp, and is bound to nothing, was not fired
  tells-unbound : (n : NackName) → binding_in l n ≡ None → ((stamp : ℕ) → 1 ≤ stamp → carried_in l n ≡ Some stamp → ⊥) → (h : ℕ) → IsFiredAt ps (later commits) n h → ⊥
  tells-unbound n none unsettled h f = ⊎_elim
      (λ old. let carried = fired-carried n h old in unsettled carried.0 carried.1 carried.2)
      (λ new.
      let f' = subst (IsFiredAt ps (later commits) n) new.3 f in
      none-some (binding_of (row n.thread new.0) f'.scope) (sym none ∙ bound-scope commits ledger-leads n new.0 new.2 new.5 (gives-involves new.2 (row n.thread new.0) new.1 new.6) f'))
      (fired-where n h f)

  tells-unsettled : (n : NackName) (b : Binding) → binding_in l n ≡ Some b → ((c : Commit) → HasCommit l c → Involves c (bound_row n b) → ⊥) → (h : ℕ) → IsFiredAt ps (later commits) n h → ⊥
  tells-unsettled n b is none h f = ⊎_elim
      (λ old. let carried = fired-carried n h old in none-some b (sym (carried_unbound l n carried.0 carried.2) ∙ is))
      (λ new.
      let involved = gives-involves new.2 (row n.thread new.0) new.1 new.6 in
      let bound = bound-where commits ledger-leads n new.0 h new.2 new.5 involved new.3 f in
      let sync : new.0 ≡ b.sync = sym bound.2 ∙ ap (λ (x : Binding). x.sync) (same_Some bound.0 b (sym bound.1 ∙ is)) in
      none new.2 (ledger-leads.members new.2 new.5) (subst (λ (g : ℕ). Involves new.2 (row n.thread g)) sync involved))
      (fired-where n h f)

  -- nor one whose row took an offer inside its scope
  inside-unfired : (n : NackName) → IsDead l n → (h : ℕ) → IsFiredAt ps (later commits) n h → FiredHere n h → ⊥
  inside-unfired n dead h fired-at new =
      let g = new.0 in
      let r = row n.thread g in
      let f = subst (IsFiredAt ps (later commits) n) new.3 fired-at in
      let result-is : slice_get (ledger-leads.made n.thread) g ≡ Some f.chosen = sym (result-of commits ledger-leads n.thread g) ∙ f.result in
      let chose : f.chosen ≡ new.1 = same_Some f.chosen new.1 (sym result-is ∙ new.4) in
      let involved = gives-involves new.2 r new.1 new.6 in
      let bound : dead.binding ≡ binding_of r f.scope = same_Some dead.binding (binding_of r f.scope) (sym dead.is_bound ∙ bound-scope commits ledger-leads n g new.2 new.5 involved f) in
      let at : bound_row n dead.binding ≡ r = ap (λ (b : Binding). bound_row n b) bound in
      let took = subst (λ (x : Row). Takes dead.commit x dead.chosen) at dead.takes in
      let gave = gift dead.commit r dead.chosen took in
      let result : new.1 ≡ gave.result = one-result l law new.2 dead.commit r new.1 gave.result (ledger-leads.members new.2 new.5) dead.inside new.6 gave.gives in
      let number : f.chosen.0 ≡ dead.chosen = ap (λ (x : Chosen). x.0) (chose ∙ result) ∙ gave.number in
      let offered = subst (λ (x : Row). offer_in l x dead.chosen ≡ Some dead.offer) at dead.offered in
      let off = of.offers r dead.chosen dead.offer offered in
      let base_event = offered-base (bases off.standing.event) dead.chosen dead.offer (shown r off dead.chosen dead.offer offered) in
      let low = ledger-leads.inside new.2 n.thread g new.5 involved in
      let event : f.event ≡ off.standing.event =
      one-event ps n.thread (take (length (base n.thread) + g) (later commits n.thread)) (base n.thread ++ off.results) f.event off.standing.event (sym (stood commits ledger-leads r off (omega (arith, low)))) f.offered off.standing.offered in
      let same : f.base ≡ base_event.base = same_Some f.base base_event.base (sym f.took ∙ (λ i. slice_get (bases (event i)) (number i)) ∙ base_event.there) in
      let scope : dead.binding.scope ≡ f.scope = ap (λ (b : Binding). b.scope) bound in
      f.outside (subst (λ (z : BaseEvent × ℕ). Contains z.0.scopes z.1) (λ i. (sym same i, scope i)) (inside-mask base_event.base.scopes dead.binding.scope (ap (λ (o : Offer). has_scope o.scopes dead.binding.scope) base_event.is ∙ dead.enclosed)))

  tells-dead : (n : NackName) → IsDead l n → (h : ℕ) → IsFiredAt ps (later commits) n h → ⊥
  tells-dead n dead h f = ⊎_elim
      (λ old. let carried = fired-carried n h old in none-some dead.binding (sym (carried_unbound l n carried.0 carried.2) ∙ dead.is_bound))
      (λ new. inside-unfired n dead h f new)
      (fired-where n h f)

  -- one that was settled with a stamp was fired by the commit of that stamp, which is of the run
  tells-carried : (n : NackName) (stamp : ℕ) → 1 ≤ stamp → carried_in l n ≡ Some stamp → KnowsNack ps n.thread (later commits n.thread) (whole commits) n.k (Some stamp)
  tells-carried n stamp positive settled =
      let known = carried-known n stamp positive settled in
      let f = fired-on commits ledger-leads n known.0.0 known.0.1 in (
        (known.0.0, f),
        record {
          above = λ d there fires.
              let once = fired-once ps n.thread (later commits n.thread) n.k fires.0 known.0.0 fires.1 f in
              let low = slice_get_within (base n.thread) known.0.0 known.0.1.chosen known.0.1.result in
              ⊎_elim
              (λ in_run. known.1.above d in_run (fires.0, fired-then commits ledger-leads n fires.0 fires.1 (omega (arith, low, once)), fires.2))
              (λ new.
              let w = row-moved base new.0 n.thread fires.0 (subst (λ (z : Commit). HasRow z n.thread fires.0) (sym new.2) fires.2) in
              absurd (omega (arith, low, once, w.1)))
              (parts commits d there);
          there = ⊎_elim
              (λ none. inl none)
              (λ w. inr (w.0, in-front commits w.0 w.1, (w.2.0, fired-on commits ledger-leads n w.2.0 w.2.1, w.2.2), w.3))
              known.1.there;
        },
      )

  pub tells-nacks-on : TellsNacksOn ps rows run l commits
  tells-nacks-on n Unbound none = tells-unbound n none.0 (λ stamp positive is. none-some stamp (sym none.1 ∙ is))
  tells-nacks-on n Unsettled h = tells-unsettled n h.0 h.1 h.2
  tells-nacks-on n Dead (inl carried) =
      tells-unbound n (carried_unbound l n 0 carried) (λ stamp positive is. let same = same_Some 0 stamp (sym carried ∙ is) in omega (arith, same, positive))
  tells-nacks-on n Dead (inr dead) = tells-dead n dead
  tells-nacks-on n (Enabled stamp) (some, inl carried) = tells-carried n stamp some carried
  tells-nacks-on n (Enabled stamp) (some, inr h) =
      subst (λ (s : ℕ). KnowsNack ps n.thread (later commits n.thread) (whole commits) n.k (Some s)) h.1 (tells-enabled n h.0)

  all-below : (top : ℕ) (d : Commit) → HasCommit l d → stamp_of d < top → Contains commits d
  all-below top d in_d less = in-commits d in_d

  pub tells-starts-on : TellsStartsOn ps rows run l commits
  tells-starts-on t start running = starts-in commits ledger-leads (start + 1) (all-below (start + 1)) (of.starts t start running) (omega arith)

  -- the last stamp of a thread that has started is the greatest that counts for what it does next
  pub tells-stamps-on : TellsStampsOn ps rows run l commits
  tells-stamps-on t start stamp running last =
      let begun = of.starts t start running in
      let same : start_of (course_in l t) ≡ start = start_is (course_in l t) start running in
      let low : start ≤ stamp = (let least = last.started in omega (arith, least, same)) in record {
        above = λ d there counts. ⊎_elim
            (λ own. ⊎_elim
            (λ in_run. let least = start-above d t in_run own in omega (arith, least, same, low))
            (λ new.
            let g = thread-involves new.0 t (thread-moved base new.0 t (subst (λ (z : Commit). HasThread z t) (sym new.2) own)) in
            let least = last.above new.0 g.0 (ledger-leads.members new.0 new.1) g.1 in
            omega (arith, least, moved-stamp base new.0, ap stamp_of new.2))
            (parts commits d there))
            (λ before_it. let least = start-counts commits ledger-leads (start + 1) (all-below (start + 1)) begun (omega arith) d there before_it in omega (arith, least, low))
            counts;
        there = ⊎_elim
            (λ at_start. ⊎_elim
            (λ none. inl (at_start ∙ same ∙ none))
            (λ told. inr (told.0, told.1, told.2, told.3 ∙ sym (at_start ∙ same)))
            (start-there commits ledger-leads (start + 1) (all-below (start + 1)) begun (omega arith)))
            (λ last_one. inr (
              moved last_one.0,
              in-whole commits last_one.0 (in-commits last_one.0 last_one.2),
              inl (moved-thread base last_one.0 t (involves-thread last_one.0 t last_one.1 last_one.3)),
              moved-stamp base last_one.0 ∙ last_one.4,
            ))
            last.there;
      }

  pub tells-ends-on : TellsEndsOn ps rows run l commits
  tells-ends-on t g ends = by (course_in l t) refl ends
    where
      by : (c : Course) → course_in l t ≡ c → EndsAt c g → HasEnded ps t (later commits t)
      by Unstarted e h = absurd h
      by (Running start) e h = absurd h
      by (Ended start sync) e h = ended-with commits ledger-leads t start sync e (λ d g in_d has. in-commits d in_d)

  in-threads : (e : Commit) (t g : ℕ) → HasCommit l e → Involves e (row t g) → t < l.threads
  in-threads e t g in_e has = let o = offered-by e (row t g) has.0 in_e has.1 in (offer-inside l (row t g) has.0 o.0 o.1).0

  pub tells-threads-on : TellsThreadsOn ps rows run l commits
  tells-threads-on d t there has = ⊎_elim
      (λ in_run. let w = on.behind.below d t in_run has in (w.0, w.1, w.2))
      (λ new.
      let g = thread-involves new.0 t (thread-moved base new.0 t (subst (λ (z : Commit). HasThread z t) (sym new.2) has)) in
      let in_l = ledger-leads.members new.0 new.1 in
      (in-threads new.0 t g.0 in_l g.1, start_of (course_in l t), lives-start (course_in l t) g.0 (law.lived new.0 (row t g.0) in_l g.1)))
      (parts commits d there)

pub ledger-goes-on : OfEach RunsBehind
ledger-goes-on ps rows run o l commits on = ledger-runs-on ps rows run (before_of o) l commits on

pub results-go-on : OfEach TellsResultsOn
results-go-on ps rows run o l commits on = tells-results-on ps rows run (before_of o) l commits on

pub rows-go-on : OfEach TellsRowsOn
rows-go-on ps rows run o l commits on = tells-rows-on ps rows run (before_of o) l commits on

-- A FIRST TABLE goes on behind no commits

-- where no thread has a result, the run's numbers are the table's
pub first-numbers : (cs : List Commit) → map (renumbered no_results) cs ≡ cs
first-numbers [] = refl
first-numbers (c ∷ cs) = λ i. same c i ∷ first-numbers cs i
  where
    same-row : (at : Row × ℕ) → numbered no_results at ≡ at
    same-row at = let e : 0 + at.0.sync ≡ at.0.sync = omega arith in λ i. (record { thread = at.0.thread; sync = e i }, at.1)

    same : (c : Commit) → renumbered no_results c ≡ c
    same (Pair sender receiver chan msg stamp) = λ i. Pair (same-row sender i) (same-row receiver i) chan msg stamp
    same (Alone at why stamp) = λ i. Alone (same-row at i) why stamp

module _ (ps : List Proc) (rows : ℕ) (l : Ledger) (commits : List Commit) (law : IsLawful l) (of : IsLedgerOf ps l) (enough : l.rows ≤ rows) (order : IsOrderOf l commits) where
  behind-nothing : IsBehind ps [] (nothing_before ps) l
  behind-nothing = record {
    started = λ t stamp first. (AtOnce first.0, subst (IsGreatest [] (CountsOf ps no_results t)) (sym first.1) (greatest-none (CountsOf ps no_results t)));
    ended = λ t none. absurd none;
    below = λ d t there has. absurd (omega (arith, there.1));
    nacks = λ n. nothing-known n (carried_in l n) refl;
  }
    where
      unfired : (n : NackName) (g : ℕ) → FiredAt ps n.thread [] n.k g → ⊥
      unfired n g f = none-some f.chosen f.result

      nothing-known : (n : NackName) (o : Option ℕ) → carried_in l n ≡ o → KnowsNack ps n.thread [] [] n.k (fired_before (carried_in l n))
      nothing-known n None is = subst (λ (o : Option ℕ). KnowsNack ps n.thread [] [] n.k (fired_before o)) (sym is) (unfired n)
      nothing-known n (Some zero) is = subst (λ (o : Option ℕ). KnowsNack ps n.thread [] [] n.k (fired_before o)) (sym is) (unfired n)
      nothing-known n (Some (suc stamp)) is = let low = law.carried n (suc stamp) is in let none = of.stamps in absurd (omega (arith, low, none))

  pub first-goes-on : GoesOn ps rows [] (nothing_before ps) l commits
  first-goes-on = record { run = run-none ps rows; lawful = law; behind = behind-nothing; acts = of; room = λ t low. omega (arith, enough); order = order }

  these : run_on [] commits ≡ commits
  these = first-numbers commits

  first-run : IsRun ps rows commits
  first-run = subst (IsRun ps rows) these (ledger-runs-on ps rows [] (nothing_before ps) l commits first-goes-on)

  first-results : TellsResults ps l commits
  first-results t results h = subst (λ (cs : List Commit). results ≡ take (length results) (config_of cs t)) these (tells-results-on ps rows [] (nothing_before ps) l commits first-goes-on t results h)

  first-nacks : TellsNacks ps l commits
  first-nacks n state told = subst (λ (cs : List Commit). KnowsNack ps n.thread (config_of cs n.thread) cs n.k (fired_as state)) these (tells-nacks-on ps rows [] (nothing_before ps) l commits first-goes-on n state told)

  first-stamps : TellsStamps ps l commits
  first-stamps t start stamp running last =
      subst (λ (cs : List Commit). IsGreatest cs (CountsOf ps (config_of cs) t) stamp) these (tells-stamps-on ps rows [] (nothing_before ps) l commits first-goes-on t start stamp running last)

  first-starts : TellsStarts ps l commits
  first-starts t start running = subst (λ (cs : List Commit). Starts ps (config_of cs) t) these (tells-starts-on ps rows [] (nothing_before ps) l commits first-goes-on t start running)

  first-has : (d : Commit) → Contains commits d → HasCommit l d
  first-has d there = in-ledger ps rows [] (nothing_before ps) l commits first-goes-on d there

  first-threads : (d : Commit) (t : ℕ) → Contains commits d → HasThread d t → t < l.threads
  first-threads d t there has = let w = thread-involves d t has in in-threads ps rows [] (nothing_before ps) l commits first-goes-on d t w.0 (first-has d there) w.1

pub ledger-is-run : LedgerIsRun
ledger-is-run ps rows l commits law of enough order = first-run ps rows l commits law of enough order

pub tells-thread : LedgersTell TellsResults
tells-thread ps rows l commits law of enough order = first-results ps rows l commits law of enough order

pub tells-nack : LedgersTell TellsNacks
tells-nack ps rows l commits law of enough order = first-nacks ps rows l commits law of enough order

pub tells-stamp : LedgersTell TellsStamps
tells-stamp ps rows l commits law of enough order = first-stamps ps rows l commits law of enough order

pub tells-started : LedgersTell TellsStarts
tells-started ps rows l commits law of enough order = first-starts ps rows l commits law of enough order

-- a commit of the list is one of the ledger
pub ledger-has : (ps : List Proc) (rows : ℕ) (l : Ledger) (commits : List Commit) → IsLawful l → IsLedgerOf ps l → l.rows ≤ rows → IsOrderOf l commits → (d : Commit) → Contains commits d → HasCommit l d
ledger-has ps rows l commits law of enough order d there = first-has ps rows l commits law of enough order d there

-- and of its threads
pub ledger-threads : (ps : List Proc) (rows : ℕ) (l : Ledger) (commits : List Commit) → IsLawful l → IsLedgerOf ps l → l.rows ≤ rows → IsOrderOf l commits → (d : Commit) (t : ℕ) → Contains commits d → HasThread d t → t < l.threads
ledger-threads ps rows l commits law of enough order d t there has = first-threads ps rows l commits law of enough order d t there has
