-- What an opening and machines tell of each thread is known where its run leads.
use Rattle.std.proofs.Common.{◌≡◌, ◌≢◌, ◌*◌, ◌+◌, ◌<◌, ◌≤◌, ℕ, zero, suc, Bool, true, false, cond, ltb, List, [], ◌∷◌, ◌++◌, length, replicate, get_or, slice_get, Option, Some, None, IfSome, refl, sym, ap, ◌∙◌, subst, arith, inl, inr, ⊎_elim}
use Rattle.std.proofs.lemmas.Bool.{cases_eq, cases_lt, le-ltb, lt-ltb}
use Rattle.std.proofs.lemmas.Option.{slice_get_within}
use Rattle.std.proofs.lemmas.List.{get_or_past, length_push}
use Rattle.std.proofs.lemmas.List.Sorted.{Contains-permutation, IsPermutation-sym}
use Rattle.std.specs.Prelude.{IsPermutation, option_and_then}
use Rattle.script_tree.specs.Processes.{Proc}
use Rattle.script_tree.specs.declared.tree.Block.{Block as Tree}
use Rattle.journal_replay.specs.Lines.{RunTheirs}
use Rattle.thread.specs.After.{Chosen}
use Rattle.thread.specs.Machines.{Thread}
use Rattle.protocol_values.specs.declared.Commit.{Commit}
use Rattle.protocol_ledger.specs.Ledgers.{IsLawful, Ledger}
use Rattle.protocol_ledger.specs.Openings.{Opening, thread_in}
use Rattle.protocol_ledger.specs.declared.opening.Life.{Life}
use Rattle.protocol_ledger.specs.declared.opening.Life.TheVariants.{Ended, Running, Unstarted}
use Rattle.protocol_ledger.specs.declared.opening.NackState.{NackState}
use Rattle.protocol_ledger.specs.declared.opening.NackState.TheVariants.{Dead, Enabled, Unbound, Unsettled}
use Rattle.journal_ledger.specs.Behind.{TellsRun, nack_state}
use Rattle.journal_ledger.specs.Ledgers.{IsLedgerOf, IsOrderOf, fired_as}
use Rattle.journal_ledger.proofs.Leading.{tells-thread}
use Rattle.thread_strand.specs.declared.strand.Known.{Known}
use Rattle.journal_replay.proofs.Lists.{nothing-there, slice_get-first, slice_get-last, slice_get-more}
use Rattle.journal_replay.specs.Gathering.{AreKnown, HasGone, IsKnown, KnowsLast}
use Rattle.journal_replay.specs.Runs.{Config, CountsOf, IsGreatest, Starts, config_of}
use Rattle.journal_replay.specs.Starting.{HasEnded}
use Rattle.journal_replay.specs.Standing.{KnowsNack}
use Rattle.journal.specs.Concluding.{AreGone, AreStanding, EachKnownBy, KnownBy, RunTrees, fired_in, last_if, last_in}

-- what is known runs the trees that the machines run
known-tree : (trees : List Tree) (machines : List (Option Thread)) (t : ℕ) (o : Option Thread) → slice_get machines t ≡ Some o → RunTrees trees machines → IfSome o (λ m. slice_get trees t ≡ Some m.body)
known-tree trees machines t None is run = tt
known-tree trees machines t (Some m) is run = run t m is

pub known-trees : (threads : List (Life × ℕ)) (states : List NackState) (trees : List Tree) (machines : List (Option Thread)) (known : List Known) → EachKnownBy threads states machines known → RunTrees trees machines → RunTheirs trees known
known-trees threads states trees machines known are run t k at =
    let w = are.1 t k at in
    subst (λ (o : Option Thread). IfSome o (λ m. slice_get trees t ≡ Some m.body)) (sym w.2.machine) (known-tree trees machines t w.0 w.1 run)

-- what is known of one thread more
pub known-more : (threads : List (Life × ℕ)) (states : List NackState) (machines : List (Option Thread)) (known : List Known) (m : Option Thread) (k : Known) → EachKnownBy threads states machines known → KnownBy threads states (length known) m k →
    EachKnownBy threads states (machines ++ m ∷ []) (known ++ k ∷ [])
known-more threads states machines known m k before is = (
  length_push known k ∙ ap (λ (n : ℕ). n + 1) before.0 ∙ sym (length_push machines m),
  λ t x at. ⊎_elim
      (λ old.
      let w = before.1 t x old.1 in
      (w.0, slice_get-first machines (m ∷ []) t (slice_get_within machines t w.0 w.1) ∙ w.1, w.2))
      (λ new. (
        m,
        ap (slice_get (machines ++ m ∷ [])) (new.0 ∙ before.0) ∙ slice_get-last machines m,
        subst (λ (n : ℕ). KnownBy threads states n m x) (sym new.0) (subst (KnownBy threads states (length known) m) new.1 is),
      ))
      (slice_get-more known k x t at),
)

-- what is known of one nack more
pub record FiredSo (states : List NackState) (t k : ℕ) (fired : List (Option ℕ)) : Type 0 where
  pub few : k ≤ 64
  pub done : (n : ℕ) → n < k → get_or fired n None ≡ fired_in states t n
  pub rest : (n : ℕ) → k ≤ n → get_or fired n None ≡ None

pub fired-none : (states : List NackState) (t : ℕ) → FiredSo states t 0 (replicate 256 None)
fired-none states t = record { few = omega arith; done = λ n lt. absurd (omega (arith, lt)); rest = λ n le. nothing-there n }

fired-there : (states : List NackState) (i : ℕ) → option_and_then fired_as (slice_get states i) ≡ fired_as (get_or states i Unbound)
fired-there [] i = refl
fired-there (s ∷ ss) zero = refl
fired-there (s ∷ ss) (suc i) = fired-there ss i

pub unfired : (s : NackState) → ((stamp : ℕ) → s ≡ Enabled stamp → ⊥) → fired_as s ≡ None
unfired Unbound other = refl
unfired Unsettled other = refl
unfired Dead other = refl
unfired (Enabled stamp) other = absurd (other stamp refl)

fired-at : (states : List NackState) (t k : ℕ) → k < 64 → fired_in states t k ≡ fired_as (get_or states (t * 64 + k) Unbound)
fired-at states t k low = ap (λ (b : Bool). cond b (option_and_then fired_as (slice_get states (t * 64 + k))) None) (lt-ltb k 64 low) ∙ fired-there states (t * 64 + k)

-- by the states that are told of its nacks
pub fired-more : (states own : List NackState) (t k : ℕ) (fired now : List (Option ℕ)) → FiredSo states t k fired → k < 64 → get_or own k Unbound ≡ get_or states (t * 64 + k) Unbound → get_or now k None ≡ fired_as (get_or own k Unbound) →
    ((n : ℕ) → n ≢ k → get_or now n None ≡ get_or fired n None) → FiredSo states t (k + 1) now
fired-more states own t k fired now so low told here others = record {
  few = omega (arith, low);
  done = λ n lt. ⊎_elim
      (λ e. ap (λ (i : ℕ). get_or now i None) e ∙ here ∙ ap fired_as told ∙ sym (fired-at states t k low) ∙ ap (fired_in states t) (sym e))
      (λ ne. others n ne ∙ so.done n (omega (arith, lt, ne)))
      (cases_eq n k);
  rest = λ n le. others n (λ e. omega (arith, le, e)) ∙ so.rest n (omega (arith, le));
}

pub fired-all : (states own : List NackState) (t k : ℕ) (fired : List (Option ℕ)) → FiredSo states t k fired → length own ≤ k → ((n : ℕ) → n < 64 → get_or own n Unbound ≡ get_or states (t * 64 + n) Unbound) → (n : ℕ) → get_or fired n None ≡ fired_in states t n
fired-all states own t k fired so le told n = ⊎_elim
    (λ lt. so.done n lt)
    (λ ge. so.rest n ge ∙ ⊎_elim
    (λ low. ap fired_as (sym (get_or_past own n Unbound (omega (arith, le, ge))) ∙ told n low) ∙ sym (fired-at states t n low))
    (λ high. sym (above n high))
    (cases_lt n 64))
    (cases_lt n k)
  where
    above : (n : ℕ) → 64 ≤ n → fired_in states t n ≡ None
    above n ge = ap (λ (b : Bool). cond b (option_and_then fired_as (slice_get states (t * 64 + n))) None) (le-ltb n 64 ge)

-- IN ANOTHER ORDER an opening tells of the same run
greatest-moved : (es fs : List Commit) (Kind : Commit → Type 0) (n : ℕ) → IsPermutation es fs → IsGreatest es Kind n → IsGreatest fs Kind n
greatest-moved es fs Kind n moved g = record {
  above = λ d there. g.above d (Contains-permutation fs es d (IsPermutation-sym es fs moved) there);
  there = ⊎_elim (λ none. inl none) (λ w. inr (w.0, Contains-permutation es fs w.0 moved w.1, w.2, w.3)) g.there;
}

knows-moved : (ps : List Proc) (t : ℕ) (results : List Chosen) (es fs : List Commit) (k : ℕ) (o : Option ℕ) → IsPermutation es fs → KnowsNack ps t results es k o → KnowsNack ps t results fs k o
knows-moved ps t results es fs k None moved knows = knows
knows-moved ps t results es fs k (Some stamp) moved knows = (knows.0, greatest-moved es fs _ stamp moved knows.1)

pub told-moved : (ps : List Proc) (es fs : List Commit) (o : Opening) → IsPermutation es fs → config_of fs ≡ config_of es → TellsRun ps es o → TellsRun ps fs o
told-moved ps es fs o moved same tells = record {
  started = λ t stamp had.
      let w = tells.started t stamp had in
      subst (λ (config : Config). Starts ps config t × IsGreatest fs (CountsOf ps config t) stamp) (sym same) (w.0, greatest-moved es fs (CountsOf ps (config_of es) t) stamp moved w.1);
  ended = λ t had. subst (λ (config : Config). HasEnded ps t (config t)) (sym same) (tells.ended t had);
  threads = λ d t there has. tells.threads d t (Contains-permutation fs es d (IsPermutation-sym es fs moved) there) has;
  nacks = λ n.
      subst (λ (config : Config). KnowsNack ps n.thread (config n.thread) fs n.k (fired_as (nack_state o n))) (sym same)
      (knows-moved ps n.thread (config_of es n.thread) es fs n.k (fired_as (nack_state o n)) moved (tells.nacks n));
  positive = tells.positive;
}

pub gone-moved : (ps : List Proc) (es fs : List Commit) (machines : List (Option Thread)) → config_of fs ≡ config_of es → AreGone ps es machines → AreGone ps fs machines
gone-moved ps es fs machines same gone = (gone.0, λ t m is. subst (λ (config : Config). HasGone ps t (config t) m) (sym same) (gone.1 t m is))

-- A LEDGER'S MACHINES have gone part of its commits
pub gone-of : (ps : List Proc) (rows : ℕ) (l : Ledger) (commits : List Commit) (machines : List (Option Thread)) → IsLawful l → IsLedgerOf ps l → l.rows ≤ rows → IsOrderOf l commits → AreStanding ps l machines → AreGone ps commits machines
gone-of ps rows l commits machines law of enough order standing = (
  standing.0,
  λ t m is. let s = standing.1 t m is in record { stands = s.stands; part = tells-thread ps rows l commits law of enough order t m.results s.are; told = s.told },
)

-- WHAT IS KNOWN of each thread
last-there : (threads : List (Life × ℕ)) (t : ℕ) → last_in threads t ≡ last_if (get_or threads t (Unstarted, 0))
last-there [] t = refl
last-there (w ∷ ws) zero = refl
last-there (w ∷ ws) (suc t) = last-there ws t

module _ (ps : List Proc) (commits : List Commit) (o : Opening) (tells : TellsRun ps commits o) where
  knows-last : (t : ℕ) (x : Life × ℕ) → thread_in o t ≡ x → KnowsLast ps commits t (last_if x)
  knows-last t (Unstarted, stamp) is = λ d there has. let w = tells.threads d t there has in w.1.0 (ap (λ (y : Life × ℕ). y.0) is)
  knows-last t (Running, stamp) is = tells.started t stamp ((λ e. let bad : Running ≡ Unstarted = sym (ap (λ (y : Life × ℕ). y.0) is) ∙ e in absurd cc), ap (λ (y : Life × ℕ). y.1) is)
  knows-last t (Ended, stamp) is = tells.started t stamp ((λ e. let bad : Ended ≡ Unstarted = sym (ap (λ (y : Life × ℕ). y.0) is) ∙ e in absurd cc), ap (λ (y : Life × ℕ). y.1) is)

  fired-known : (t k : ℕ) → fired_in o.nacks t k ≡ fired_as (nack_state o (record { thread = t; k = k }))
  fired-known t k = by (ltb k 64)
    where
      by : (b : Bool) → cond b (option_and_then fired_as (slice_get o.nacks (t * 64 + k))) None ≡ fired_as (cond b (get_or o.nacks (t * 64 + k) Unbound) Unbound)
      by true = fired-there o.nacks (t * 64 + k)
      by false = refl

  known-one : (t : ℕ) (m : Option Thread) (k : Known) → IfSome m (HasGone ps t (config_of commits t)) → KnownBy o.threads o.nacks t m k → IsKnown ps commits t k
  known-one t m k gone by = record {
    machine = subst (λ (x : Option Thread). IfSome x (HasGone ps t (config_of commits t))) (sym by.machine) gone;
    last = subst (KnowsLast ps commits t) (sym (by.last ∙ last-there o.threads t)) (knows-last t (thread_in o t) refl);
    fired = λ n. subst (KnowsNack ps t (config_of commits t) commits n) (sym (by.fired n ∙ fired-known t n)) (tells.nacks (record { thread = t; k = n }));
  }

  pub are-known : (machines : List (Option Thread)) (known : List Known) → AreGone ps commits machines → EachKnownBy o.threads o.nacks machines known → AreKnown ps commits known
  are-known machines known gone by = record {
    count = by.0 ∙ gone.0;
    each = λ t k is. let w = by.1 t k is in known-one t w.0 k (gone-at t w.0 w.1) w.2;
  }
    where
      gone-at : (t : ℕ) (m : Option Thread) → slice_get machines t ≡ Some m → IfSome m (HasGone ps t (config_of commits t))
      gone-at t None e = tt
      gone-at t (Some m) e = gone.1 t m e
