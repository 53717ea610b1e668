-- No stamp is above the number of all syncs that were made.
use Rattle.std.proofs.Common.{◌≡◌, ◌&&◌, ℕ, ◌+◌, ◌*◌, ◌<◌, ◌≤◌, List, [], length, get_or, set, slice_get, Option, Some, None, refl, sym, ap, ◌∙◌, subst, arith, ⊎_elim}
use Rattle.std.proofs.lemmas.Bool.{cases_eq}
use Rattle.std.proofs.lemmas.List.{length_push}
use Rattle.std.proofs.lemmas.List.Sums.{sum_by-set, sum_by-le}
use Rattle.std.proofs.lemmas.Option.{none-some, same_Some, slice_get_within, slice_get-get_or, get_or_from_slice_get, option_and_then_some}
use Rattle.thread.specs.After.{Chosen}
use Rattle.thread.specs.Machines.{nacks_in}
use Rattle.protocol_values.specs.declared.Cause.{Cause}
use Rattle.protocol_values.specs.declared.Cause.TheVariants as cause
use Rattle.protocol_values.specs.declared.Commit.{Commit}
use Rattle.protocol_values.specs.declared.Commit.TheVariants.{Pair, Alone}
use Rattle.protocol_values.specs.declared.Message.TheVariants.{Empty}
use Rattle.protocol_values.specs.declared.Base.{Base}
use Rattle.protocol_values.specs.declared.Row.{Row}
use Rattle.protocol_values.specs.Scopes.{has_scope}
use Rattle.thread_strand.specs.declared.strand.Strand.{Strand}
use Rattle.journal_replay.specs.Runs.{message_by}
use Rattle.journal_replay.specs.Standing.{CauseIsAt, Commits, Finds, MayBe, MayFollow, NoneStarts, OneGrows, OneStarts, SomeStart, Start, Takes, ended_in, last_in, last_of}
use Rattle.thread_strand.specs.Strands.{Grows, end_stamp, is_over}
use Rattle.journal_replay.specs.Searching.{Bounded, HasRoom, total}
use Rattle.journal_replay.proofs.Finding.{if-some}
use Rattle.journal_replay.proofs.Firing.{decide}
use Rattle.journal_replay.proofs.Listing.{found-of}
use Rattle.journal_replay.proofs.Standing.{at-same, at-other, due, started-now, started-other, started-same}

abbrev syncs : Strand → ℕ
syncs s = length s.machine.results

more-total : (t stamp : ℕ) (r : Chosen) (old new : List Strand) → OneGrows t r stamp old new → total new ≡ total old + 1
more-total t stamp r old new w =
    let within : t < length old = slice_get_within old t w.before w.was in
    let here : get_or old t w.before ≡ w.before = get_or_from_slice_get old t w.before w.before w.was in
    let sums = sum_by-set syncs old t w.behind w.before within in
    let count : syncs w.behind ≡ syncs w.before + 1 = ap (λ (rs : List Chosen). length rs) w.grows.results ∙ length_push w.before.machine.results r in
    let total_is : total new ≡ total (set old t w.behind) = ap (λ (xs : List Strand). total xs) w.is in
    let same : syncs (get_or old t w.before) ≡ syncs w.before = ap syncs here in
    omega (arith, sums, count, total_is, same)

fired-one : (t k stamp : ℕ) (r : Chosen) (old new : Strand) (limit : ℕ) → Grows r stamp old new → stamp ≤ limit →
    ((s : ℕ) → get_or old.fired k None ≡ Some s → s ≤ limit) → (s : ℕ) → get_or new.fired k None ≡ Some s → s ≤ limit
fired-one t k stamp r old new limit grows le known s is = ⊎_elim
    (λ fires. let same : stamp ≡ s = same_Some stamp s (sym (grows.fired.fires k fires.0 fires.1 fires.2) ∙ is) in omega (arith, same, le))
    (λ all. known s (sym (grows.fired.stays k all) ∙ is))
    (decide (nacks_in old.machine.phase) (has_scope grows.offer.scopes) k)

at-thread : (t u stamp : ℕ) (r : Chosen) (old new : List Strand) (s : Strand) (w : OneGrows t r stamp old new) → slice_get new u ≡ Some s → u ≡ t → w.behind ≡ s
at-thread t u stamp r old new s w is e = same_Some w.behind s (sym (at-same t stamp r old new w) ∙ ap (slice_get new) (sym e) ∙ is)

pub bounded-one : (rows t stamp : ℕ) (r : Chosen) (old new : List Strand) → Bounded rows old → (w : OneGrows t r stamp old new) → stamp ≤ total old + 1 → syncs w.before < rows → Bounded rows new
bounded-one rows t stamp r old new b w le few =
    let more = more-total t stamp r old new w in
    let count : syncs w.behind ≡ syncs w.before + 1 = ap (λ (rs : List Chosen). length rs) w.grows.results ∙ length_push w.before.machine.results r in
    record {
      few = λ u s is. ⊎_elim
          (λ e. subst (λ (x : Strand). syncs x ≤ rows) (at-thread t u stamp r old new s w is e) (omega (arith, count, few)))
          (λ ne. b.few u s (sym (at-other t u stamp r old new w ne) ∙ is))
          (cases_eq u t);
      last = λ u s is. ⊎_elim
          (λ e. subst (λ (x : Strand). x.last ≤ total new) (at-thread t u stamp r old new s w is e) (omega (arith, w.grows.last, le, more)))
          (λ ne. omega (arith, b.last u s (sym (at-other t u stamp r old new w ne) ∙ is), more))
          (cases_eq u t);
      fired = λ u k st s is known. ⊎_elim
          (λ e.
          let same : w.behind ≡ s = at-thread t u stamp r old new s w is e in
          fired-one t k stamp r w.before w.behind (total new) w.grows (omega (arith, le, more))
          (λ x old_is. omega (arith, b.fired t k x w.before w.was old_is, more)) st
          (ap (λ (y : Strand). get_or y.fired k None) same ∙ known))
          (λ ne. omega (arith, b.fired u k st s (sym (at-other t u stamp r old new w ne) ∙ is) known, more))
          (cases_eq u t);
    }

-- a thread that starts makes no sync, and remembers a stamp that another remembers
start-total : (t : ℕ) (old new : List Strand) → OneStarts t old new → total new ≡ total old
start-total t old new w =
    let within : t < length old = slice_get_within old t w.before w.was in
    let here : get_or old t w.before ≡ w.before = get_or_from_slice_get old t w.before w.before w.was in
    let sums = sum_by-set syncs old t (started-now t old new w) w.before within in
    let total_is : total new ≡ total (set old t (started-now t old new w)) = ap (λ (xs : List Strand). total xs) w.is in
    let same : syncs (get_or old t w.before) ≡ syncs w.before = ap syncs here in
    omega (arith, sums, total_is, same)

at-start : (t u : ℕ) (old new : List Strand) (s : Strand) (w : OneStarts t old new) → slice_get new u ≡ Some s → u ≡ t → started-now t old new w ≡ s
at-start t u old new s w is e = same_Some (started-now t old new w) s (sym (started-same t old new w) ∙ ap (slice_get new) (sym e) ∙ is)

bounded-start : (rows t : ℕ) (old new : List Strand) → Bounded rows old → OneStarts t old new → Bounded rows new
bounded-start rows t old new b w =
    let same = start-total t old new w in
    let d = due t w.stamp old w.before w.was w.due in
    let low : w.stamp ≤ total new = omega (arith, b.last d.from d.spawner d.there, d.last, same) in
    record {
      few = λ u s is. ⊎_elim
          (λ e. subst (λ (x : Strand). syncs x ≤ rows) (at-start t u old new s w is e) (b.few t w.before w.was))
          (λ ne. b.few u s (sym (started-other t u old new w ne) ∙ is))
          (cases_eq u t);
      last = λ u s is. ⊎_elim
          (λ e. subst (λ (x : Strand). x.last ≤ total new) (at-start t u old new s w is e) low)
          (λ ne. omega (arith, b.last u s (sym (started-other t u old new w ne) ∙ is), same))
          (cases_eq u t);
      fired = λ u k st s is known. ⊎_elim
          (λ e. omega (arith, b.fired t k st w.before w.was (ap (λ (y : Strand). get_or y.fired k None) (at-start t u old new s w is e) ∙ known), same))
          (λ ne. omega (arith, b.fired u k st s (sym (started-other t u old new w ne) ∙ is) known, same))
          (cases_eq u t);
    }

starts-total : {old new : List Strand} → SomeStart old new → total new ≡ total old
starts-total NoneStarts = refl
starts-total (Start {old} {middle} {new} t first last) = start-total t middle new last ∙ starts-total first

pub bounded-starts : (rows : ℕ) {old new : List Strand} → Bounded rows old → SomeStart old new → Bounded rows new
bounded-starts rows b NoneStarts = b
bounded-starts rows b (Start {old} {middle} {new} t first last) = bounded-start rows t middle new (bounded-starts rows b first) last

-- WHAT IS FOUND IS WITHIN THE BOUNDS

last-within : (rows : ℕ) (strands : List Strand) (t : ℕ) (o : Option Strand) → Bounded rows strands → slice_get strands t ≡ o → last_of o ≤ total strands
last-within rows strands t None b e = omega arith
last-within rows strands t (Some s) b e = b.last t s e

last-bound : (rows : ℕ) (strands : List Strand) (t : ℕ) → Bounded rows strands → last_in strands t ≤ total strands
last-bound rows strands t b = last-within rows strands t (slice_get strands t) b refl

ended-bound : (rows : ℕ) (strands : List Strand) (t stamp : ℕ) → Bounded rows strands → ended_in strands t ≡ Some stamp → stamp ≤ total strands
ended-bound rows strands t stamp b e =
    option_and_then_some end_stamp (slice_get strands t) stamp e (λ s there is.
    let found = if-some (s.started && is_over s.turn) (Some s.last) stamp is in
    omega (arith, b.last t s there, same_Some s.last stamp found.1))

cause-bound : (rows t : ℕ) (strands : List Strand) (why : Cause) (below : ℕ) → Bounded rows strands → CauseIsAt strands (last_in strands t) why below → below ≤ total strands
cause-bound rows t strands (cause.Always m) below b e = omega (arith, e, last-bound rows strands t b)
cause-bound rows t strands (cause.Nack n) below b w =
    let fired : w.0 ≤ total strands =
    option_and_then_some (λ (s : Strand). get_or s.fired n.k None) (slice_get strands n.thread) w.0 w.1
    (λ s there is. b.fired n.thread n.k w.0 s there is) in
    omega (arith, w.2, fired, last-bound rows strands t b)
cause-bound rows t strands (cause.End u) below b w = omega (arith, w.2, ended-bound rows strands u w.0 b w.1, last-bound rows strands t b)

pub below-bound : (rows : ℕ) (strands : List Strand) (c : Commit) (below : ℕ) → Bounded rows strands → MayFollow strands rows c below → below ≤ total strands
below-bound rows strands (Pair sender receiver chan msg stamp) below b w =
    omega (arith, w.3, last-bound rows strands sender.0.thread b, last-bound rows strands receiver.0.thread b)
below-bound rows strands (Alone at why stamp) below b w = cause-bound rows at.0.thread strands why below b w.1

few-found : (rows : ℕ) (strands : List Strand) (at : Row × ℕ) (b : Base) (s : Strand) → Finds strands rows at b → slice_get strands at.0.thread ≡ Some s → syncs s < rows
few-found rows strands at b s finds there =
    let f = found-of strands rows at b s finds there in omega (arith, f.sync, f.few)

bounded-taken : (rows : ℕ) (c : Commit) (old new : List Strand) → Bounded rows old → MayBe old rows c → Takes c old new → Bounded rows new
bounded-taken rows (Pair sender receiver chan msg stamp) old new b m w =
    let le : stamp ≤ total old + 1 = omega (arith, m.stamp, below-bound rows old (Pair sender receiver chan msg stamp) m.below b m.may) in
    let t = sender.0.thread in
    let u = receiver.0.thread in
    let first = bounded-one rows t stamp (sender.1, Empty) old w.0 b w.1 le (few-found rows old sender _ w.1.before m.may.1 w.1.was) in
    let was = sym (at-other t u stamp (sender.1, Empty) old w.0 w.1 (λ e. m.may.0 (sym e))) ∙ w.2.was in
    let count = more-total t stamp (sender.1, Empty) old w.0 w.1 in
    bounded-one rows u stamp (receiver.1, msg) w.0 new first w.2 (omega (arith, le, count)) (few-found rows old receiver _ w.2.before m.may.2 was)
bounded-taken rows (Alone at why stamp) old new b m w =
    let le : stamp ≤ total old + 1 = omega (arith, m.stamp, below-bound rows old (Alone at why stamp) m.below b m.may) in
    bounded-one rows at.0.thread stamp (at.1, message_by why) old new b w le (few-found rows old at _ w.before m.may.0 w.was)

pub bounded-more : (rows : ℕ) (c : Commit) (old new : List Strand) → Bounded rows old → MayBe old rows c → Commits c old new → Bounded rows new
bounded-more rows c old new b m w = bounded-starts rows (bounded-taken rows c old w.0 b m w.1) w.2.some

-- each commit makes a sync more
taken-grows : (c : Commit) (old new : List Strand) → Takes c old new → total old < total new
taken-grows (Pair sender receiver chan msg stamp) old new w =
    omega (arith, more-total sender.0.thread stamp (sender.1, Empty) old w.0 w.1, more-total receiver.0.thread stamp (receiver.1, msg) w.0 new w.2)
taken-grows (Alone at why stamp) old new w = omega (arith, more-total at.0.thread stamp (at.1, message_by why) old new w)

pub total-grows : (c : Commit) (old new : List Strand) → Commits c old new → total old < total new
total-grows c old new w = omega (arith, taken-grows c old w.0 w.1, starts-total w.2.some)

pub total-bound : (rows : ℕ) (strands : List Strand) → Bounded rows strands → total strands ≤ length strands * rows
total-bound rows strands b = sum_by-le syncs rows strands (λ k d within. b.few k (get_or strands k d) (slice_get-get_or strands k d within))

-- there is room for one more stamp
pub room : (rows : ℕ) (strands : List Strand) → Bounded rows strands → length strands ≤ 64 → rows ≤ 67107840 → HasRoom strands
room rows strands b few low =
    let product : length strands * rows ≤ 64 * 67107840 = grind arith in
    let most = total-bound rows strands b in
    record {
      last = λ t. omega (arith, last-bound rows strands t b, most, product);
      fired = λ n stamp e.
          let le : stamp ≤ total strands = option_and_then_some (λ (s : Strand). get_or s.fired n.k None) (slice_get strands n.thread) stamp e
          (λ s there is. b.fired n.thread n.k stamp s there is) in
          omega (arith, le, most, product);
      ended = λ t stamp e. omega (arith, ended-bound rows strands t stamp b e, most, product);
    }

-- at the beginning
pub bounded-none : (rows : ℕ) (strands : List Strand) → ((t : ℕ) (s : Strand) → slice_get strands t ≡ Some s → (s.machine.results ≡ []) × (s.last ≡ 0) × ((k : ℕ) → get_or s.fired k None ≡ None)) → Bounded rows strands
bounded-none rows strands begins = record {
  few = λ t s is. let w = begins t s is in omega (arith, ap (λ (rs : List Chosen). length rs) w.0);
  last = λ t s is. let w = begins t s is in omega (arith, w.1);
  fired = λ t k stamp s is known. let w = begins t s is in absurd (none-some stamp (sym (w.2 k) ∙ known));
}
