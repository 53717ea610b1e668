-- An opening tells of a run, where a ledger that went on behind one tells it of its end; and a ledger that goes on from it is behind it.
use Rattle.std.proofs.Common.{◌≡◌, ◌*◌, ◌+◌, ◌<◌, ◌≤◌, ◌&&◌, ℕ, zero, suc, Bool, true, false, cond, ltb, List, [], length, get_or, None, refl, sym, ap, ◌∙◌, subst, arith, inl, ⊎_elim}
use Rattle.std.proofs.lemmas.Bool.{cases_lt, le-ltb, ltb-true, lt-ltb}
use Rattle.std.proofs.lemmas.List.{get_or_past}
use Rattle.std.proofs.lemmas.Option.{slice_get-get_or}
use Rattle.script_tree.specs.Processes.{Proc}
use Rattle.protocol_values.specs.declared.Commit.{Commit}
use Rattle.protocol_values.specs.declared.Course.{Course}
use Rattle.protocol_values.specs.declared.Course.TheVariants as course
use Rattle.protocol_values.specs.declared.NackName.{NackName}
use Rattle.protocol_values.specs.declared.NackWord.TheVariants as word
use Rattle.protocol_ledger.specs.Acting.{Before, EndsAt, HasStart, before_of}
use Rattle.protocol_ledger.specs.Ledgers.{Ledger, binding_in, carried_in, course_in, nack_in}
use Rattle.protocol_ledger.specs.Openings.{IsLastStamp, Opening, TellsEnd, TellsNack, life_of, state_in, thread_in, word_for}
use Rattle.protocol_ledger.specs.Tables.{bound_by, carried_by, start_of}
use Rattle.protocol_ledger.specs.declared.opening.Life.{Life}
use Rattle.protocol_ledger.specs.declared.opening.Life.TheVariants.{Ended, Running, Unstarted}
use Rattle.protocol_ledger.specs.declared.opening.NackState.{NackState}
use Rattle.protocol_ledger.specs.declared.opening.NackState.TheVariants.{Dead, Enabled, Unbound, Unsettled}
use Rattle.journal_replay.specs.Runs.{config_of}
use Rattle.journal_replay.specs.Standing.{KnowsNack}
use Rattle.journal_replay.specs.Starting.{HasEnded}
use Rattle.journal_ledger.specs.Behind.{GoesOn, IsBehind, OfEach, OpeningsLead, TellsRun, TellsRunFirst, TellsRunOn, WentOn, fired_before, nack_state, run_on}
use Rattle.journal_ledger.specs.Ledgers.{LedgersTell, fired_as, nothing_before}
use Rattle.journal_ledger.proofs.Leading.{first-goes-on, first-numbers, tells-ends-on, tells-nacks-on, tells-stamps-on, tells-starts-on, tells-threads-on}

-- NACKS OF NO TABLE: a ledger says nothing of a nack of another thread than its own, nor of one above 63
unbound-outside : (l : Ledger) (n : NackName) → l.threads ≤ n.thread → nack_in l n ≡ word.Unbound
unfolding nack_in
unbound-outside l n ge = by (ltb n.thread l.threads) refl
  where
    by : (b : Bool) → ltb n.thread l.threads ≡ b → cond (b && ltb n.k 64) (get_or l.nacks (n.thread * 64 + n.k) word.Unbound) word.Unbound ≡ word.Unbound
    by true e = absurd (omega (arith, ltb-true n.thread l.threads e, ge))
    by false e = refl

unbound-above : (l : Ledger) (n : NackName) → ltb n.k 64 ≡ false → nack_in l n ≡ word.Unbound
unfolding nack_in
unbound-above l n e = by (ltb n.thread l.threads) (ltb n.k 64) e
  where
    by : (a b : Bool) → b ≡ false → cond (a && b) (get_or l.nacks (n.thread * 64 + n.k) word.Unbound) word.Unbound ≡ word.Unbound
    by true b none = ap (λ (x : Bool). cond x (get_or l.nacks (n.thread * 64 + n.k) word.Unbound) word.Unbound) none
    by false b none = refl

-- such a nack is bound to nothing, and no earlier table settled it
untold : (l : Ledger) (n : NackName) → nack_in l n ≡ word.Unbound → (binding_in l n ≡ None) × (carried_in l n ≡ None)
unfolding binding_in carried_in
untold l n e = (ap bound_by e, ap carried_by e)

-- what an opening says of a nack below 64, and of one above
state-inside : (o : Opening) (n : NackName) → n.k < 64 → nack_state o n ≡ state_in o n
state-inside o n low = ap (λ (b : Bool). cond b (state_in o n) Unbound) (lt-ltb n.k 64 low)

state-above : (o : Opening) (n : NackName) → ltb n.k 64 ≡ false → nack_state o n ≡ Unbound
state-above o n e = ap (λ (b : Bool). cond b (state_in o n) Unbound) e

-- and of one of another thread
state-outside : (o : Opening) (n : NackName) (threads : ℕ) → length o.nacks ≡ threads * 64 → threads ≤ n.thread → nack_state o n ≡ Unbound
state-outside o n threads states ge = by (ltb n.k 64) refl
  where
    by : (b : Bool) → ltb n.k 64 ≡ b → cond b (state_in o n) Unbound ≡ Unbound
    by true e = get_or_past o.nacks (n.thread * 64 + n.k) Unbound (omega (arith, states, ge))
    by false e = refl

-- a thread that an opening calls started has a place there
pub placed-at : (o : Opening) (t : ℕ) → ((thread_in o t).0 ≡ Unstarted → ⊥) → t < length o.threads
placed-at o t started = ⊎_elim
    (λ low. low)
    (λ past. absurd (started (ap (λ (x : Life × ℕ). x.0) (get_or_past o.threads t (Unstarted, 0) past))))
    (cases_lt t (length o.threads))

-- A LEDGER THAT WENT ON from an opening which tells of a run
fired-so : (state : NackState) → ((stamp : ℕ) → state ≡ Enabled stamp → 1 ≤ stamp) → fired_before (carried_by (word_for state)) ≡ fired_as state
fired-so Unbound positive = refl
fired-so Unsettled positive = refl
fired-so Dead positive = refl
fired-so (Enabled zero) positive = absurd (omega (arith, positive 0 refl))
fired-so (Enabled (suc stamp)) positive = refl

module _ (ps : List Proc) (before : List Commit) (o : Opening) (l : Ledger) (tells : TellsRun ps before o) (went : WentOn o l) where
  fired-there : (n : NackName) → fired_before (carried_in l n) ≡ fired_as (nack_state o n)
  fired-there n = ⊎_elim
      (λ low. ⊎_elim
      (λ inside.
      let same = state-inside o n inside in
      ap fired_before (went.carried n low inside) ∙ fired-so (state_in o n) (λ stamp is. tells.positive n stamp (same ∙ is)) ∙ ap fired_as (sym same))
      (λ above.
      let high = le-ltb n.k 64 above in
      ap fired_before (untold l n (unbound-above l n high)).1 ∙ ap fired_as (sym (state-above o n high)))
      (cases_lt n.k 64))
      (λ outside. ap fired_before (untold l n (unbound-outside l n outside)).1 ∙ ap fired_as (sym (state-outside o n l.threads went.states outside)))
      (cases_lt n.thread l.threads)

  is-behind : IsBehind ps before (before_of o) l
  is-behind = record {
    started = tells.started;
    ended = tells.ended;
    below = λ d t there has.
        let w = tells.threads d t there has in
        (omega (arith, placed-at o t w.1.0, went.threads), w.0, went.before t w.0 w.1, (tells.started t w.0 w.1).1.above d there (inl has));
    nacks = λ n. subst (KnowsNack ps n.thread (config_of before n.thread) before n.k) (sym (fired-there n)) (tells.nacks n);
  }

pub opening-leads : OpeningsLead
opening-leads ps before o l tells went = is-behind ps before o l tells went

-- WHAT A LEDGER TELLS OF ITS END
module _ (ps : List Proc) (rows : ℕ) (before : List Commit) (had : Before) (l : Ledger) (commits : List Commit) (on : GoesOn ps rows before had l commits)
    (o : Opening) (told : TellsEnd l o.threads o.nacks) where
  -- a thread that has a place there
  thread-told : (t : ℕ) → t < length o.threads → ((thread_in o t).0 ≡ life_of (course_in l t)) × IsLastStamp l t (thread_in o t).1
  thread-told t low = told.0.1 t (thread_in o t).0 (thread_in o t).1 (slice_get-get_or o.threads t (Unstarted, 0) low)

  has-begun : (c : Course) → (life_of c ≡ Unstarted → ⊥) → HasStart c (start_of c)
  has-begun course.Unstarted started = absurd (started refl)
  has-begun (course.Running start) started = refl
  has-begun (course.Ended start sync) started = refl

  begun : (t : ℕ) → ((thread_in o t).0 ≡ Unstarted → ⊥) → HasStart (course_in l t) (start_of (course_in l t)) × IsLastStamp l t (thread_in o t).1
  begun t started =
      let w = thread-told t (placed-at o t started) in
      (has-begun (course_in l t) (λ e. started (w.0 ∙ e)), w.1)

  ended-so : (t : ℕ) (c : Course) → course_in l t ≡ c → life_of c ≡ Ended → HasEnded ps t (config_of (run_on before commits) t)
  ended-so t course.Unstarted e is = absurd (not-ended is)
    where
      not-ended : ◌≡◌ {A = Life} Unstarted Ended → ⊥
      not-ended x = let bad : Unstarted ≡ Ended = x in absurd cc
  ended-so t (course.Running start) e is = absurd (not-ended is)
    where
      not-ended : ◌≡◌ {A = Life} Running Ended → ⊥
      not-ended x = let bad : Running ≡ Ended = x in absurd cc
  ended-so t (course.Ended start sync) e is = tells-ends-on ps rows before had l commits on t sync (subst (λ (c : Course). EndsAt c sync) (sym e) refl)

  has-life : (c : Course) (start : ℕ) → HasStart c start → life_of c ≡ Unstarted → ⊥
  has-life course.Unstarted start has is = has
  has-life (course.Running start) s has is = let bad : Running ≡ Unstarted = is in absurd cc
  has-life (course.Ended start sync) s has is = let bad : Ended ≡ Unstarted = is in absurd cc

  state-told : (n : NackName) → TellsNack l n (nack_state o n)
  state-told n = ⊎_elim
      (λ low. ⊎_elim
      (λ inside. subst (TellsNack l n) (sym (state-inside o n inside)) (told.1.1 n (state_in o n) inside (slice_get-get_or o.nacks (n.thread * 64 + n.k) Unbound (omega (arith, low, inside, told.1.0)))))
      (λ above.
      let high = le-ltb n.k 64 above in
      subst (TellsNack l n) (sym (state-above o n high)) (untold l n (unbound-above l n high)))
      (cases_lt n.k 64))
      (λ outside. subst (TellsNack l n) (sym (state-outside o n l.threads told.1.0 outside)) (untold l n (unbound-outside l n outside)))
      (cases_lt n.thread l.threads)

  told-run : TellsRun ps (run_on before commits) o
  told-run = record {
    started = λ t stamp was.
        let w = begun t was.0 in (
          tells-starts-on ps rows before had l commits on t (start_of (course_in l t)) w.0,
          tells-stamps-on ps rows before had l commits on t (start_of (course_in l t)) stamp w.0 (subst (IsLastStamp l t) was.1 w.1),
        );
    ended = λ t was.
        let w = thread-told t (placed-at o t (λ e. let bad : Unstarted ≡ Ended = sym e ∙ was in absurd cc)) in
        ended-so t (course_in l t) refl (sym w.0 ∙ was);
    threads = λ d t there has.
        let w = tells-threads-on ps rows before had l commits on d t there has in
        let told_so = thread-told t (omega (arith, w.0, told.0.0)) in
        ((thread_in o t).1, (λ e. has-life (course_in l t) w.1 w.2 (sym told_so.0 ∙ e), refl));
    nacks = λ n. tells-nacks-on ps rows before had l commits on n (nack_state o n) (state-told n);
    positive = λ n stamp is. (subst (TellsNack l n) is (state-told n)).0;
  }

pub tells-run-on : OfEach TellsRunOn
tells-run-on ps rows before from l commits on o told = told-run ps rows before (before_of from) l commits on o told

pub first-tells-run : LedgersTell TellsRunFirst
first-tells-run ps rows l commits law of enough order o told =
    subst (λ (cs : List Commit). TellsRun ps cs o) (first-numbers commits) (told-run ps rows [] (nothing_before ps) l commits (first-goes-on ps rows l commits law of enough order) o told)
