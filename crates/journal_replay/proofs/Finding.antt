-- What the strands of a run find at the front of a thread is what the thread may take.
use Rattle.std.proofs.Common.{◌≡◌, ◌⊎◌, ◌&&◌, ℕ, zero, suc, ◌+◌, ◌<◌, max, Bool, true, false, cond, List, [], ◌∷◌, length, get_or, slice_get, option_and_then, eqb, ltb, Option, Some, None, refl, sym, ap, ◌∙◌, subst, arith, inl, ⊎_elim}
use Rattle.std.proofs.lemmas.Bool.{eq-eqb, eqb-true, false≢true, lt-ltb, ltb-true, and_parts, and_from}
use Rattle.std.proofs.lemmas.Option.{none-some, same_Some, slice_get_within, slice_get-map, option_and_then_some}
use Rattle.std.specs.Option.{option_map}
use Rattle.event.specs.Tree.{bases, offer_of, offers}
use Rattle.script_tree.specs.Processes.{Proc}
use Rattle.script_tree.specs.Trees.{block_of}
use Rattle.thread.specs.After.{Chosen, after}
use Rattle.thread.specs.Machines.{Thread, Phase, Ready, Open, Over, Stuck, Broken, HasStopped, IsAfterAt, Tells, offers_in}
use Rattle.thread.specs.declared.machine.Turn.{Turn}
use Rattle.thread.specs.declared.machine.Turn.TheVariants.{Offering, Ended, Faulted}
use Rattle.protocol_values.specs.declared.Base.{Base}
use Rattle.protocol_values.specs.declared.Base.TheVariants.{Send, Recv, Always, OnNack, OnEnd}
use Rattle.protocol_values.specs.declared.Cause.{Cause}
use Rattle.protocol_values.specs.declared.Cause.TheVariants as cause
use Rattle.protocol_values.specs.declared.Commit.{Commit}
use Rattle.protocol_values.specs.declared.Commit.TheVariants.{Pair, Alone}
use Rattle.protocol_values.specs.declared.NackName.{NackName}
use Rattle.protocol_values.specs.declared.Offer.{Offer}
use Rattle.protocol_values.specs.declared.Row.{Row}
use Rattle.protocol_values.specs.Commits.{stamp_of}
use Rattle.thread_strand.specs.declared.strand.Strand.{Strand}
use Rattle.journal_replay.specs.Runs.{Config, FiredAt, IsFiredAt, CanTake, MayTake, IsLegal, IsCaused, Fires, CausedBy, CountsFor, CountsOf, HasEnded, IsGreatest, Follows, Starts, config_of}
use Rattle.journal_replay.specs.Starting.{IsOver}
use Rattle.journal_replay.specs.Standing.{KnowsNack, FiresOf, StrandStands, Stands, last_of, last_in, ended_in, fired_in, Finds, base_for, CauseIsAt, MayFollow}
use Rattle.thread_strand.specs.Strands.{next_offer, end_stamp, is_over}
use Rattle.journal_replay.proofs.Greatest.{greatest-either, greatest-one, greatest-same}
use Rattle.journal_replay.proofs.Opening.{moved, open-at, offers-are}

pub if-some : {A : Type 0} (b : Bool) (o : Option A) (x : A) → cond b o None ≡ Some x → (b ≡ true) × (o ≡ Some x)
if-some true o x e = (refl, e)
if-some false o x e = absurd (none-some x e)

pub both-tests : (a b c d : ℕ) → (eqb a b) && (ltb c d) ≡ true → (a ≡ b) × (c < d)
both-tests a b c d e = let h = and_parts (eqb a b) (ltb c d) e in (eqb-true a b h.0, ltb-true c d h.1)

pub tests-both : (a b c d : ℕ) → a ≡ b → c < d → (eqb a b) && (ltb c d) ≡ true
tests-both a b c d e lt = and_from (eqb a b) (ltb c d) (eq-eqb a b e) (lt-ltb c d lt)

-- OFFERS

-- the tests of an offer that is found
pub offer-tests : (rows : ℕ) (at : Row × ℕ) (s : Strand) (o : Offer) → next_offer rows at s ≡ Some o →
    (s.started ≡ true) × (at.0.sync ≡ length s.machine.results) × (at.0.sync < rows) × (slice_get (offers_in s.machine.phase) at.1 ≡ Some o)
offer-tests rows at s o is =
    let found = if-some (s.started && ((eqb at.0.sync (length s.machine.results)) && (ltb at.0.sync rows))) (slice_get (offers_in s.machine.phase) at.1) o is in
    let parts = and_parts s.started _ found.0 in
    let tests = both-tests at.0.sync (length s.machine.results) at.0.sync rows parts.1 in
    (parts.0, tests.0, tests.1, found.1)

may-take-at : (ps : List Proc) (rows : ℕ) (config : Config) (at : Row × ℕ) (b : Base) (o : Offer) (earlier : List Commit) (s : Strand) →
    StrandStands ps config at.0.thread earlier s → next_offer rows at s ≡ Some o → o.base ≡ b → MayTake ps rows config at b
may-take-at ps rows config at b o earlier s stands is base =
    let results = config at.0.thread in
    let tests = offer-tests rows at s o is in
    let count : length s.machine.results ≡ length results = ap (λ (rs : List Chosen). length rs) stands.machine.given in
    let w = open-at ps at.0.thread results s.machine at.1 o stands.machine tests.3 in
    record {
      started = stands.started tests.0;
      can = record {
        few = omega (arith, tests.1, tests.2, count);
        next = tests.1 ∙ count;
        event = w.event;
        offered = w.offered;
        base = w.base;
        is = w.is;
        same = ap (λ (x : Offer). x.base) w.made ∙ base;
      };
    }

pub may-take : (ps : List Proc) (journal : List Commit) (strands : List Strand) (rows : ℕ) (at : Row × ℕ) (b : Base) →
    Stands ps journal strands → Finds strands rows at b → MayTake ps rows (config_of journal) at b
may-take ps journal strands rows at b stands finds =
    option_and_then_some (next_offer rows at) (slice_get strands at.0.thread) finds.offer finds.is
    (λ s there is. may-take-at ps rows (config_of journal) at b finds.offer journal s (stands.stands.each at.0.thread s there) is finds.base)

pub strand-at : (strands : List Strand) (t : ℕ) → t < length strands → (s : Strand) × (slice_get strands t ≡ Some s)
strand-at [] t lt = absurd (omega (arith, lt))
strand-at (s ∷ strands) zero lt = (s, refl)
strand-at (s ∷ strands) (suc t) lt = strand-at strands t (omega (arith, lt))

-- each process of the script has a strand
pub strand-of : (ps : List Proc) (journal : List Commit) (strands : List Strand) (t : ℕ) (p : Proc) →
    Stands ps journal strands → slice_get ps t ≡ Some p → (s : Strand) × (slice_get strands t ≡ Some s)
strand-of ps journal strands t p stands is = strand-at strands t (omega (arith, slice_get_within ps t p is, stands.stands.count))

finds-at : (ps : List Proc) (rows : ℕ) (config : Config) (at : Row × ℕ) (b : Base) (earlier : List Commit) (s : Strand) →
    StrandStands ps config at.0.thread earlier s → s.started ≡ true → (c : CanTake ps rows (config at.0.thread) at b) → next_offer rows at s ≡ Some (offer_of c.base)
finds-at ps rows config at b earlier s stands runs c =
    let results = config at.0.thread in
    let count : length s.machine.results ≡ length results = ap (λ (rs : List Chosen). length rs) stands.machine.given in
    let tests : s.started && ((eqb at.0.sync (length s.machine.results)) && (ltb at.0.sync rows)) ≡ true =
    and_from s.started _ runs (tests-both at.0.sync (length s.machine.results) at.0.sync rows (c.next ∙ sym count) (omega (arith, c.next, c.few))) in
    let are : offers_in s.machine.phase ≡ offers c.event = offers-are ps at.0.thread results s.machine c.event stands.machine c.offered in
    let there : slice_get (offers_in s.machine.phase) at.1 ≡ Some (offer_of c.base) =
    ap (λ (os : List Offer). slice_get os at.1) are ∙ slice_get-map offer_of (bases c.event) at.1 ∙ ap (option_map offer_of) c.is in
    ap (λ (t : Bool). cond t (slice_get (offers_in s.machine.phase) at.1) None) tests ∙ there

pub finds : (ps : List Proc) (journal : List Commit) (strands : List Strand) (rows : ℕ) (at : Row × ℕ) (b : Base) →
    Stands ps journal strands → MayTake ps rows (config_of journal) at b → Finds strands rows at b
finds ps journal strands rows at b stands c =
    let w = strand-of ps journal strands at.0.thread c.can.offered.process stands c.can.offered.is_its in
    let runs = stands.marked at.0.thread w.0 w.1 c.started in
    let found = finds-at ps rows (config_of journal) at b journal w.0 (stands.stands.each at.0.thread w.0 w.1) runs c.can in
    record {
      offer = offer_of c.can.base;
      is = ap (option_and_then (next_offer rows at)) w.1 ∙ found;
      base = c.can.same;
    }

-- STAMPS

last-at : (ps : List Proc) (journal : List Commit) (strands : List Strand) (t : ℕ) (o : Option Strand) → Stands ps journal strands → slice_get strands t ≡ o → Starts ps (config_of journal) t →
    (s : Strand) × (o ≡ Some s) → IsGreatest journal (CountsOf ps (config_of journal) t) (last_of o)
last-at ps journal strands t None stands e started w = absurd (none-some w.0 w.1)
last-at ps journal strands t (Some s) stands e started w = (stands.stands.each t s e).last (stands.marked t s e started)

-- a thread that may take an offer has a process
pub last-is : (ps : List Proc) (journal : List Commit) (strands : List Strand) (t : ℕ) (p : Proc) → Stands ps journal strands → slice_get ps t ≡ Some p → Starts ps (config_of journal) t →
    IsGreatest journal (CountsOf ps (config_of journal) t) (last_in strands t)
last-is ps journal strands t p stands is started =
    last-at ps journal strands t (slice_get strands t) stands refl started (strand-of ps journal strands t p stands is)

last-of : (ps : List Proc) (journal : List Commit) (strands : List Strand) (rows : ℕ) (at : Row × ℕ) (b : Base) → Stands ps journal strands → MayTake ps rows (config_of journal) at b →
    IsGreatest journal (CountsOf ps (config_of journal) at.0.thread) (last_in strands at.0.thread)
last-of ps journal strands rows at b stands take = last-is ps journal strands at.0.thread take.can.offered.process stands take.can.offered.is_its take.started

-- ENDS

-- a machine that has stopped is over where its turn says so
pub over-at : (m : Thread) (p : Phase) (turn : Turn) → HasStopped p → IsAfterAt m p → Tells turn p → is_over turn ≡ true → IsOver (after (block_of m.body) m.variables m.thread m.results)
over-at m Ready turn stopped is tells over = absurd stopped
over-at m (Open os ns) Offering stopped is tells over = absurd (false≢true over)
over-at m (Open os ns) Ended stopped is tells over = absurd tells
over-at m (Open os ns) (Faulted fault) stopped is tells over = absurd tells
over-at m Over turn stopped is tells over = subst IsOver (sym is) tt
over-at m (Stuck fault) turn stopped is tells over = subst IsOver (sym is) tt
over-at m Broken turn stopped is tells over = absurd stopped

pub at-over : (m : Thread) (p : Phase) (turn : Turn) → HasStopped p → IsAfterAt m p → Tells turn p → IsOver (after (block_of m.body) m.variables m.thread m.results) → is_over turn ≡ true
at-over m Ready turn stopped is tells over = absurd stopped
at-over m (Open os ns) turn stopped is tells over = absurd (subst IsOver is.after over)
at-over m Over Offering stopped is tells over = absurd tells
at-over m Over Ended stopped is tells over = refl
at-over m Over (Faulted fault) stopped is tells over = absurd tells
at-over m (Stuck found) Offering stopped is tells over = absurd tells
at-over m (Stuck found) Ended stopped is tells over = absurd tells
at-over m (Stuck found) (Faulted fault) stopped is tells over = refl
at-over m Broken turn stopped is tells over = absurd stopped

-- the stamp for the end of a thread
pub ended-is : (ps : List Proc) (journal : List Commit) (strands : List Strand) (t ended : ℕ) → Stands ps journal strands → ended_in strands t ≡ Some ended →
    (Starts ps (config_of journal) t × HasEnded ps t (config_of journal t)) × IsGreatest journal (CountsOf ps (config_of journal) t) ended
ended-is ps journal strands t ended stands e =
    option_and_then_some end_stamp (slice_get strands t) ended e
    (λ s there is.
    let found = if-some (s.started && is_over s.turn) (Some s.last) ended is in
    let parts = and_parts s.started (is_over s.turn) found.0 in
    let here = stands.stands.each t s there in
    let m = here.machine in
    let over = over-at s.machine s.machine.phase s.turn m.stopped m.after here.turn parts.1 in (
      (here.started parts.0, record { process = m.process; is_its = m.is_its; over = subst IsOver (moved ps t (config_of journal t) s.machine m) over }),
      subst (IsGreatest journal (CountsOf ps (config_of journal) t)) (same_Some s.last ended found.1) (here.last parts.0),
    ))

pub ended-known : (ps : List Proc) (journal : List Commit) (strands : List Strand) (t : ℕ) → Stands ps journal strands → Starts ps (config_of journal) t → HasEnded ps t (config_of journal t) →
    (ended : ℕ) × (ended_in strands t ≡ Some ended)
ended-known ps journal strands t stands started has =
    let w = strand-of ps journal strands t has.process stands has.is_its in
    let here = stands.stands.each t w.0 w.1 in
    let m = here.machine in
    let process : has.process ≡ m.process = same_Some has.process m.process (sym has.is_its ∙ m.is_its) in
    let mine = subst (λ (q : Proc). IsOver (after q.body (length q.variables) t (config_of journal t))) process has.over in
    let over = at-over w.0.machine w.0.machine.phase w.0.turn m.stopped m.after here.turn (subst IsOver (sym (moved ps t (config_of journal t) w.0.machine m)) mine) in (
      w.0.last,
      ap (option_and_then end_stamp) w.1
          ∙ ap (λ (b : Bool). cond b (Some w.0.last) None) (and_from w.0.started (is_over w.0.turn) (stands.marked t w.0 w.1 started) over),
    )

nack-at : (ps : List Proc) (t : ℕ) (results : List Chosen) (earlier : List Commit) (k fired : ℕ) (o : Option ℕ) → KnowsNack ps t results earlier k o → o ≡ Some fired →
    ((g : ℕ) × FiredAt ps t results k g) × IsGreatest earlier (FiresOf ps t results k) fired
nack-at ps t results earlier k fired o knows e = subst (KnowsNack ps t results earlier k) e knows

pub fired-is : (ps : List Proc) (journal : List Commit) (strands : List Strand) (n : NackName) (fired : ℕ) → Stands ps journal strands → fired_in strands n ≡ Some fired →
    ((g : ℕ) × IsFiredAt ps (config_of journal) n g) × IsGreatest journal (Fires ps (config_of journal) n) fired
fired-is ps journal strands n fired stands e =
    option_and_then_some (λ (s : Strand). get_or s.fired n.k None) (slice_get strands n.thread) fired e
    (λ s there is. nack-at ps n.thread (config_of journal n.thread) journal n.k fired _ ((stands.stands.each n.thread s there).fired n.k) is)

known : (ps : List Proc) (t : ℕ) (results : List Chosen) (earlier : List Commit) (k g : ℕ) (o : Option ℕ) → KnowsNack ps t results earlier k o → FiredAt ps t results k g → (stamp : ℕ) × (o ≡ Some stamp)
known ps t results earlier k g None knows f = absurd (knows g f)
known ps t results earlier k g (Some stamp) knows f = (stamp, refl)

pub fired-known : (ps : List Proc) (journal : List Commit) (strands : List Strand) (n : NackName) (g : ℕ) → Stands ps journal strands → IsFiredAt ps (config_of journal) n g →
    (fired : ℕ) × (fired_in strands n ≡ Some fired)
fired-known ps journal strands n g stands f =
    let w = strand-of ps journal strands n.thread f.offered.process stands f.offered.is_its in
    let k = known ps n.thread (config_of journal n.thread) journal n.k g (get_or w.0.fired n.k None) ((stands.stands.each n.thread w.0 w.1).fired n.k) f in
    (k.0, ap (option_and_then (λ (s : Strand). get_or s.fired n.k None)) w.1 ∙ k.1)

-- WHOLE COMMITS

cause-legal : (ps : List Proc) (journal : List Commit) (strands : List Strand) (rows : ℕ) (at : Row × ℕ) (why : Cause) (below : ℕ) →
    Stands ps journal strands → Finds strands rows at (base_for why) → CauseIsAt strands (last_in strands at.0.thread) why below →
    IsCaused ps rows (config_of journal) at why × IsGreatest journal (λ d. CountsOf ps (config_of journal) at.0.thread d ⊎ CausedBy ps (config_of journal) why d) below
cause-legal ps journal strands rows at (cause.Always m) below stands found is =
    let take = may-take ps journal strands rows at (Always m) stands found in
    let last = last-of ps journal strands rows at (Always m) stands take in
    let Own : Commit → Type 0 = CountsOf ps (config_of journal) at.0.thread in (
      take,
      subst (IsGreatest journal (λ d. Own d ⊎ CausedBy ps (config_of journal) (cause.Always m) d)) (sym is)
          (greatest-same journal Own _ _ (λ d h. inl h) (λ d h. ⊎_elim (λ x. x) (λ x. absurd x) h) last),
    )
cause-legal ps journal strands rows at (cause.Nack n) below stands found w =
    let take = may-take ps journal strands rows at (OnNack n) stands found in
    let last = last-of ps journal strands rows at (OnNack n) stands take in
    let fired = fired-is ps journal strands n w.0 stands w.1 in
    let Own : Commit → Type 0 = CountsOf ps (config_of journal) at.0.thread in (
      (take, fired.0),
      subst (IsGreatest journal (λ d. Own d ⊎ CausedBy ps (config_of journal) (cause.Nack n) d)) (sym w.2)
          (greatest-either journal Own (Fires ps (config_of journal) n) _ _ last fired.1),
    )
cause-legal ps journal strands rows at (cause.End t) below stands found w =
    let take = may-take ps journal strands rows at (OnEnd t) stands found in
    let last = last-of ps journal strands rows at (OnEnd t) stands take in
    let ended = ended-is ps journal strands t w.0 stands w.1 in
    let Own : Commit → Type 0 = CountsOf ps (config_of journal) at.0.thread in (
      (take, ended.0.0, ended.0.1),
      subst (IsGreatest journal (λ d. Own d ⊎ CausedBy ps (config_of journal) (cause.End t) d)) (sym w.2)
          (greatest-either journal Own (CountsOf ps (config_of journal) t) _ _ last ended.1),
    )

-- a commit that the strands find is legal, and they know the stamp that counts
pub found-is : (ps : List Proc) (journal : List Commit) (strands : List Strand) (rows : ℕ) (c : Commit) (below : ℕ) →
    Stands ps journal strands → MayFollow strands rows c below →
    IsLegal ps rows (config_of journal) c × IsGreatest journal (CountsFor ps (config_of journal) c) below
found-is ps journal strands rows (Pair sender receiver chan msg stamp) below stands w =
    let send = may-take ps journal strands rows sender (Send chan msg) stands w.1 in
    let recv = may-take ps journal strands rows receiver (Recv chan) stands w.2 in
    let first = last-of ps journal strands rows sender (Send chan msg) stands send in
    let second = last-of ps journal strands rows receiver (Recv chan) stands recv in
    let One : Commit → Type 0 = CountsOf ps (config_of journal) sender.0.thread in
    let Two : Commit → Type 0 = CountsOf ps (config_of journal) receiver.0.thread in (
      (w.0, send, recv),
      subst (IsGreatest journal (λ d. One d ⊎ Two d)) (sym w.3) (greatest-either journal One Two _ _ first second),
    )
found-is ps journal strands rows (Alone at why stamp) below stands w = cause-legal ps journal strands rows at why below stands w.0 w.1

found-cause : (ps : List Proc) (journal : List Commit) (strands : List Strand) (rows : ℕ) (at : Row × ℕ) (why : Cause) →
    Stands ps journal strands → IsCaused ps rows (config_of journal) at why →
    Finds strands rows at (base_for why) × ((below : ℕ) × CauseIsAt strands (last_in strands at.0.thread) why below)
found-cause ps journal strands rows at (cause.Always m) stands take =
    (finds ps journal strands rows at (Always m) stands take, (last_in strands at.0.thread, refl))
found-cause ps journal strands rows at (cause.Nack n) stands w =
    let k = fired-known ps journal strands n w.1.0 stands w.1.1 in
    (finds ps journal strands rows at (OnNack n) stands w.0, (max (last_in strands at.0.thread) k.0, (k.0, k.1, refl)))
found-cause ps journal strands rows at (cause.End t) stands w =
    let k = ended-known ps journal strands t stands w.1 w.2 in
    (finds ps journal strands rows at (OnEnd t) stands w.0, (max (last_in strands at.0.thread) k.0, (k.0, k.1, refl)))

pub found-legal : (ps : List Proc) (journal : List Commit) (strands : List Strand) (rows : ℕ) (c : Commit) →
    Stands ps journal strands → IsLegal ps rows (config_of journal) c → (below : ℕ) × MayFollow strands rows c below
found-legal ps journal strands rows (Pair sender receiver chan msg stamp) stands legal = (
  max (last_in strands sender.0.thread) (last_in strands receiver.0.thread),
  (legal.0, finds ps journal strands rows sender (Send chan msg) stands legal.1, finds ps journal strands rows receiver (Recv chan) stands legal.2, refl),
)
found-legal ps journal strands rows (Alone at why stamp) stands legal =
    let h = found-cause ps journal strands rows at why stands legal in (h.1.0, (h.0, h.1.1))

-- THE DECISION

pub follows-from : (ps : List Proc) (journal : List Commit) (strands : List Strand) (rows : ℕ) (c : Commit) (below : ℕ) →
    Stands ps journal strands → MayFollow strands rows c below → stamp_of c ≡ below + 1 → Follows ps rows journal c
follows-from ps journal strands rows c below stands w is =
    let h = found-is ps journal strands rows c below stands w in
    record { legal = h.0; greatest = below; is = h.1; stamp = is }

pub follows-to : (ps : List Proc) (journal : List Commit) (strands : List Strand) (rows : ℕ) (c : Commit) →
    Stands ps journal strands → Follows ps rows journal c → (below : ℕ) × MayFollow strands rows c below × (stamp_of c ≡ below + 1)
follows-to ps journal strands rows c stands f =
    let w = found-legal ps journal strands rows c stands f.legal in
    let h = found-is ps journal strands rows c w.0 stands w.1 in
    let same : w.0 ≡ f.greatest = greatest-one journal (CountsFor ps (config_of journal) c) w.0 f.greatest h.1 f.is in
    (w.0, w.1, omega (arith, same, f.stamp))
