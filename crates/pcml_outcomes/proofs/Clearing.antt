-- What a finding means for the runs of the script.
use Rattle.std.proofs.Common.{◌≡◌, ◌≢◌, ◌<◌, ℕ, zero, suc, ◌+◌, Bool, true, false, not, ◌&&◌, ◌||◌, ◌==◌, if◌then◌else◌, List, [], ◌∷◌, Contains, get_or, length, slice_get, Some, refl, sym, ap, ◌∙◌, arith}
use Rattle.std.specs.Global.{Vec}
use Rattle.std.specs.List.{enumerate_from, filter, list_any, zip}
use Rattle.std.proofs.lemmas.Bool.{eqb-true, false≢true}
use Rattle.std.proofs.lemmas.Option.{none-some, same_Some}
use Rattle.protocol_values.specs.declared.Atom.{Atom}
use Rattle.protocol_values.specs.declared.Commit.{Commit}
use Rattle.script.specs.Sources.{Script}
use Rattle.thread.specs.declared.end.End.{End}
use Rattle.thread.specs.declared.end.End.TheVariants.{Ended, Faulted, Spent, Unstarted, Waiting}
use Rattle.thread.specs.Ends.{is_ended, is_spent, is_waiting}
use Rattle.journal_replay.specs.Runs.{TellsEnds, config_of, no_results}
use Rattle.configurations.specs.Alike.{AllRowsLeft}
use Rattle.outcomes.specs.Asking.{has_unended, has_waiting, leaves_spent, marked, tells}
use Rattle.outcomes.specs.Outcomes.{Has, LeadsTo, ends_in, outputs_in}
use Rattle.outcomes.specs.States.{LeadsFreelyTo}
use Rattle.outcomes.specs.declared.Extent.{Extent}
use Rattle.outcomes.specs.declared.Extent.TheVariants.{Cut, First, Whole}
use Rattle.outcomes.specs.declared.Outcome.{Outcome}
use Rattle.outcomes.specs.declared.Outcomes.{Outcomes}
use Rattle.outcomes.specs.declared.asked.Asked.{Asked}
use Rattle.outcomes.specs.declared.asked.Told.TheVariants.{Lacking, Waiting as TheWaiting}
use Rattle.configurations.proofs.Fewer.{leads_count}
use Rattle.configurations.proofs.Leading.{run-leads}
use Rattle.outcomes.proofs.Resting.{nobody-spent}
use Rattle.pcml_outcomes.specs.declared.finding.Finding.TheVariants.{Clear, Open, Stuck}
use Rattle.pcml_outcomes.specs.Told.{AreFound, AreFoundFreely, ClearAlwaysEnds, ClearNeverWaits, FreeClearAlwaysEnds, FreeClearNeverWaits, FreeNeverSpends, FreeStuckIsLeft, IsMarked, NamesNeeded, StuckIsLeft, clears, finding, has_stuck, is_clear, is_shown, is_stuck, is_whole, shown}

-- TESTS over lists

later : (a b : Bool) → b ≡ true → (a || b) ≡ true
later true b e = refl
later false b e = e

none-first : (a b : Bool) → (a || b) ≡ false → a ≡ false
none-first true b e = absurd (false≢true (sym e))
none-first false b e = refl

none-later : (a b : Bool) → (a || b) ≡ false → b ≡ false
none-later true b e = absurd (false≢true (sym e))
none-later false b e = e

pub both : (a b : Bool) → (a && b) ≡ true → (a ≡ true) × (b ≡ true)
both true b e = (refl, e)
both false b e = absurd (false≢true e)

pub any-at : {A : Type 0} (test : A → Bool) (xs : List A) (k : ℕ) (x : A) → slice_get xs k ≡ Some x → test x ≡ true → list_any test xs ≡ true
any-at test [] k x is holds = absurd (none-some x is)
any-at test (y ∷ xs) zero x is holds = ap (λ (b : Bool). b || list_any test xs) (ap test (same_Some y x is) ∙ holds)
any-at test (y ∷ xs) (suc k) x is holds = later (test y) (list_any test xs) (any-at test xs k x is holds)

pub none-at : {A : Type 0} (test : A → Bool) (xs : List A) (k : ℕ) (x : A) → list_any test xs ≡ false → slice_get xs k ≡ Some x → test x ≡ false
none-at test [] k x none is = absurd (none-some x is)
none-at test (y ∷ xs) zero x none is = ap test (sym (same_Some y x is)) ∙ none-first (test y) (list_any test xs) none
none-at test (y ∷ xs) (suc k) x none is = none-at test xs k x (none-later (test y) (list_any test xs) none) is

-- one of which it holds
abbrev Holding : {A : Type 0} → (A → Bool) → List A → Type 0
Holding {A} test xs = (k : ℕ) × (x : A) × (slice_get xs k ≡ Some x) × (test x ≡ true)

one-more : {A : Type 0} (test : A → Bool) (y : A) (xs : List A) (b : Bool) → test y ≡ b → list_any test (y ∷ xs) ≡ true → (list_any test xs ≡ true → Holding test xs) → Holding test (y ∷ xs)
one-more test y xs true holds any rest = (0, y, refl, holds)
one-more test y xs false fails any rest = let w = rest (sym (ap (λ (b : Bool). b || list_any test xs) fails) ∙ any) in (suc w.0, w.1, w.2, w.3)

some-holds : {A : Type 0} (test : A → Bool) (xs : List A) → list_any test xs ≡ true → Holding test xs
some-holds test [] any = absurd (false≢true any)
some-holds test (y ∷ xs) any = one-more test y xs (test y) refl any (some-holds test xs)

-- MARKS

pub zip-at : {A : Type 0} (xs : List A) (marks : List Bool) (t : ℕ) (x : A) (m : Bool) → slice_get xs t ≡ Some x → slice_get marks t ≡ Some m → slice_get (zip xs marks) t ≡ Some (x, m)
zip-at [] marks t x m is mark = absurd (none-some x is)
zip-at (y ∷ xs) [] t x m is mark = absurd (none-some m mark)
zip-at (y ∷ xs) (n ∷ marks) zero x m is mark = λ i. Some (same_Some y x is i, same_Some n m mark i)
zip-at (y ∷ xs) (n ∷ marks) (suc t) x m is mark = zip-at xs marks t x m is mark

zip-back : {A : Type 0} (xs : List A) (marks : List Bool) (t : ℕ) (x : A) (m : Bool) → slice_get (zip xs marks) t ≡ Some (x, m) → (slice_get xs t ≡ Some x) × (slice_get marks t ≡ Some m)
zip-back [] marks t x m is = absurd (none-some (x, m) is)
zip-back (y ∷ xs) [] t x m is = absurd (none-some (x, m) is)
zip-back (y ∷ xs) (n ∷ marks) zero x m is = let same = same_Some (y, n) (x, m) is in (ap (λ p. Some p.0) same, ap (λ p. Some p.1) same)
zip-back (y ∷ xs) (n ∷ marks) (suc t) x m is = zip-back xs marks t x m is

-- a test of those that are marked
any-marked : {A : Type 0} (test : A → Bool) (marks : List Bool) (xs : List A) → list_any (λ p. p.1 && test p.0) (zip xs marks) ≡ list_any test (marked marks xs)
any-marked test [] [] = refl
any-marked test [] (x ∷ xs) = refl
any-marked test (true ∷ marks) [] = refl
any-marked test (false ∷ marks) [] = refl
any-marked test (true ∷ marks) (x ∷ xs) = ap (λ (b : Bool). test x || b) (any-marked test marks xs)
any-marked test (false ∷ marks) (x ∷ xs) = any-marked test marks xs

abbrev behind-first : {A : Type 0} → List A → List A
behind-first [] = []
behind-first (z ∷ zs) = zs

tail-of : {A : Type 0} (x y : A) (xs ys : List A) → x ∷ xs ≡ y ∷ ys → xs ≡ ys
tail-of x y xs ys e = ap behind-first e

head-of : {A : Type 0} (x y : A) (xs ys : List A) → x ∷ xs ≡ y ∷ ys → x ≡ y
head-of x y xs ys e = same_Some x y (ap (λ l. slice_get l 0) e)

-- where the same is marked in two lists, they are the same there
marked-at : {A : Type 0} (marks : List Bool) (xs ys : List A) (t : ℕ) (y : A) → length xs ≡ length ys → marked marks xs ≡ marked marks ys → slice_get marks t ≡ Some true → slice_get ys t ≡ Some y → slice_get xs t ≡ Some y
marked-at [] xs ys t y count same mark is = absurd (none-some true mark)
marked-at (m ∷ marks) [] [] t y count same mark is = is
marked-at (m ∷ marks) [] (z ∷ ys) t y count same mark is = absurd (omega (arith, count))
marked-at (m ∷ marks) (x ∷ xs) [] t y count same mark is = absurd (omega (arith, count))
marked-at (true ∷ marks) (x ∷ xs) (z ∷ ys) zero y count same mark is = ap Some (head-of x z (marked marks xs) (marked marks ys) same) ∙ is
marked-at (false ∷ marks) (x ∷ xs) (z ∷ ys) zero y count same mark is = absurd (false≢true (same_Some false true mark))
marked-at (true ∷ marks) (x ∷ xs) (z ∷ ys) (suc t) y count same mark is = marked-at marks xs ys t y (omega (arith, count)) (tail-of x z (marked marks xs) (marked marks ys) same) mark is
marked-at (false ∷ marks) (x ∷ xs) (z ∷ ys) (suc t) y count same mark is = marked-at marks xs ys t y (omega (arith, count)) same mark is

-- WHAT IS TOLD

abbrev pub shown_from : Asked → ℕ → List Outcome → List (ℕ × Outcome)
shown_from asked n outcomes = filter (λ (m : ℕ × Outcome). is_shown asked m.1) (enumerate_from n outcomes)

-- where none is told, none is
abbrev pub NoneShown : Asked → List Outcome → Type 0
NoneShown asked outcomes = (k : ℕ) (o : Outcome) → slice_get outcomes k ≡ Some o → is_shown asked o ≡ false

none-more : (asked : Asked) (p : Outcome) (outcomes : List Outcome) → is_shown asked p ≡ false → NoneShown asked outcomes → NoneShown asked (p ∷ outcomes)
none-more asked p outcomes hidden rest zero o is = ap (is_shown asked) (sym (same_Some p o is)) ∙ hidden
none-more asked p outcomes hidden rest (suc k) o is = rest k o is

none-first-shown : (asked : Asked) (n : ℕ) (p : Outcome) (more : List (ℕ × Outcome)) (b : Bool) → length (if b then (n, p) ∷ more else more) ≡ 0 → (b ≡ false) × (length more ≡ 0)
none-first-shown asked n p more true none = absurd (omega (arith, none))
none-first-shown asked n p more false none = (refl, none)

pub none-shown : (asked : Asked) (n : ℕ) (outcomes : List Outcome) → length (shown_from asked n outcomes) ≡ 0 → NoneShown asked outcomes
none-shown asked n [] none = λ k o is. absurd (none-some o is)
none-shown asked n (p ∷ outcomes) none =
    let w = none-first-shown asked n p (shown_from asked (n + 1) outcomes) (is_shown asked p) none in
    none-more asked p outcomes w.0 (none-shown asked (n + 1) outcomes w.1)

stuck-clear : Stuck ≡ Clear → ⊥
stuck-clear e = cc

open-clear : Open ≡ Clear → ⊥
open-clear e = cc

clear-stuck : Clear ≡ Stuck → ⊥
clear-stuck e = cc

open-stuck : Open ≡ Stuck → ⊥
open-stuck e = cc

is-clear : (stuck clear : Bool) → (if stuck then Stuck else (if clear then Clear else Open)) ≡ Clear → clear ≡ true
is-clear true clear e = absurd (stuck-clear e)
is-clear false true e = refl
is-clear false false e = absurd (open-clear e)

is-stuck : (stuck clear : Bool) → (if stuck then Stuck else (if clear then Clear else Open)) ≡ Stuck → stuck ≡ true
is-stuck true clear e = refl
is-stuck false true e = absurd (clear-stuck e)
is-stuck false false e = absurd (open-stuck e)

pub whole : (extent : Extent) → is_whole extent ≡ true → extent ≡ Whole
whole Whole e = refl
whole Cut e = absurd (false≢true e)
whole First e = absurd (false≢true e)

unbounded : (b : Bool) → not b ≡ true → b ≡ false
unbounded true e = absurd (false≢true e)
unbounded false e = refl

-- WHAT WAS FOUND SAYS OF A RUN that comes to these ends and this output: where all was seen it has one that is as it, and all have as many
-- ends

module _ (asked : Asked) (found : Outcomes) (ends : List End) (outputs : List (List Atom)) (all : found.extent ≡ Whole → Has asked.named.items found.outcomes.items ends outputs)
    (count : (k : ℕ) (o : Outcome) → slice_get found.outcomes.items k ≡ Some o → length (ends_in o) ≡ length ends) where
  abbrev outcomes : List Outcome
  outcomes = found.outcomes.items

  abbrev nothing : Bool
  nothing = is_whole found.extent && (length (shown asked outcomes) == 0)

  there : nothing ≡ true → Has asked.named.items outcomes ends outputs
  there holds = all (whole found.extent (both (is_whole found.extent) (length (shown asked outcomes) == 0) holds).0)

  hidden : (holds : nothing ≡ true) → is_shown asked (there holds).outcome ≡ false
  hidden holds = none-shown asked 1 outcomes (eqb-true (length (shown asked outcomes)) 0 (both (is_whole found.extent) (length (shown asked outcomes) == 0) holds).1) (there holds).number (there holds).outcome (there holds).is_its

  never-waits : asked.told ≡ TheWaiting → nothing ≡ true → (t : ℕ) → IsMarked asked.named.items t → slice_get ends t ≢ Some Waiting
  never-waits waits holds t mark is =
      let has = there holds in
      let named = asked.named.items in
      let none : has_waiting named (ends_in has.outcome) ≡ false = sym (ap (λ told. tells told named (ends_in has.outcome)) waits) ∙ hidden holds in
      let some : has_waiting named ends ≡ true = any-at (λ p. p.1 && is_waiting p.0) (zip ends named) t (Waiting, true) (zip-at ends named t Waiting true is mark) refl in
      false≢true (sym none ∙ any-marked is_waiting named (ends_in has.outcome) ∙ ap (list_any is_waiting) has.same_ends ∙ sym (any-marked is_waiting named ends) ∙ some)

  always-ends : (needed : Vec Bool) → asked.told ≡ Lacking needed → NamesNeeded asked → nothing ≡ true → (t : ℕ) (end : End) → IsMarked needed.items t → slice_get ends t ≡ Some end → end ≡ Ended
  always-ends needed lacks names holds t end mark is =
      let has = there holds in
      let at = marked-at asked.named.items (ends_in has.outcome) ends t end (count has.number has.outcome has.is_its) has.same_ends (names needed lacks t mark) is in
      let none : has_unended needed.items (ends_in has.outcome) ≡ false = sym (ap (λ told. tells told asked.named.items (ends_in has.outcome)) lacks) ∙ hidden holds in
      ended end (none-at (λ p. p.1 && not (is_ended p.0)) (zip (ends_in has.outcome) needed.items) t (end, true) none (zip-at (ends_in has.outcome) needed.items t end true at mark))
    where
      ended : (e : End) → not (is_ended e) ≡ false → e ≡ Ended
      ended Ended e = refl
      ended Waiting e = absurd (false≢true (sym e))
      ended Spent e = absurd (false≢true (sym e))
      ended (Faulted fault) e = absurd (false≢true (sym e))
      ended Unstarted e = absurd (false≢true (sym e))

-- what is said where nothing is told
pub nothing-waits : (asked : Asked) (found : Outcomes) → asked.told ≡ TheWaiting → finding asked found ≡ Clear → ((is_whole found.extent && (length (shown asked found.outcomes.items) == 0)) ≡ true) × (not found.is_bounded ≡ true)
nothing-waits asked found waits clear =
    let nothing = is_whole found.extent && (length (shown asked found.outcomes.items) == 0) in
    both nothing (not found.is_bounded) (sym (ap (λ told. clears told nothing found.is_bounded) waits) ∙ is-clear (list_any (has_stuck asked.told) found.outcomes.items) (is_clear asked found) clear)

pub nothing-lacks : (asked : Asked) (found : Outcomes) (needed : Vec Bool) → asked.told ≡ Lacking needed → finding asked found ≡ Clear → (is_whole found.extent && (length (shown asked found.outcomes.items) == 0)) ≡ true
nothing-lacks asked found needed lacks clear =
    let nothing = is_whole found.extent && (length (shown asked found.outcomes.items) == 0) in
    sym (ap (λ told. clears told nothing found.is_bounded) lacks) ∙ is-clear (list_any (has_stuck asked.told) found.outcomes.items) (is_clear asked found) clear

-- an outcome in which a process that has to end is stuck
pub record StuckIn (found : Outcomes) (needed : List Bool) : Type 0 where
  pub number : ℕ
  pub outcome : Outcome
  pub is_its : slice_get found.outcomes.items number ≡ Some outcome
  pub thread : ℕ
  pub end : End
  pub needed_is : IsMarked needed thread
  pub ends_so : slice_get (ends_in outcome) thread ≡ Some end
  pub stuck : is_stuck end ≡ true

pub stuck-in : (asked : Asked) (found : Outcomes) (needed : Vec Bool) → asked.told ≡ Lacking needed → finding asked found ≡ Stuck → StuckIn found needed.items
stuck-in asked found needed lacks stuck =
    let holds = is-stuck (list_any (has_stuck asked.told) found.outcomes.items) (is_clear asked found) stuck in
    let w = some-holds (has_stuck asked.told) found.outcomes.items holds in
    let test = λ (p : End × Bool). p.1 && is_stuck p.0 in
    let v = some-holds test (zip (ends_in w.1) needed.items) (sym (ap (λ told. has_stuck told w.1) lacks) ∙ w.3) in
    let parts = both v.1.1 (is_stuck v.1.0) v.3 in
    let at = zip-back (ends_in w.1) needed.items v.0 v.1.0 v.1.1 v.2 in
    record {
      number = w.0;
      outcome = w.1;
      is_its = w.2;
      thread = v.0;
      end = v.1.0;
      needed_is = at.1 ∙ ap Some parts.0;
      ends_so = at.0;
      stuck = parts.1;
    }

-- PROCESSES THAT ARE SPENT

any-contained : (test : End → Bool) (end : End) → test end ≡ true → (es : List End) (k : ℕ) → k < length es → get_or es k end ≡ end → list_any test es ≡ true
any-contained test end holds [] k within is = absurd (omega (arith, within))
any-contained test end holds (first ∷ es) zero within is = ap (λ (e : End). test e || list_any test es) is ∙ ap (λ (b : Bool). b || list_any test es) holds
any-contained test end holds (first ∷ es) (suc k) within is = later (test first) (list_any test es) (any-contained test end holds es k (omega (arith, within)) is)

any-spent : (ends : List End) → Contains ends Spent → leaves_spent ends ≡ true
any-spent ends spent = any-contained is_spent Spent refl ends spent.0 spent.1 spent.2

-- OF SO MANY ROWS

module _ (s : Script) (rows limit : ℕ) (asked : Asked) (found : Outcomes) (are : AreFound s rows limit asked found) (journal : List Commit) (ends : List End) (outputs : List (List Atom)) (leads : LeadsTo s.processes rows journal ends outputs) where
  its : found.extent ≡ Whole → Has asked.named.items found.outcomes.items ends outputs
  its seen = are.all seen journal ends outputs leads

  as-many : (k : ℕ) (o : Outcome) → slice_get found.outcomes.items k ≡ Some o → length (ends_in o) ≡ length ends
  as-many k o is = (are.outcomes k o is).leads.tells.ends_count ∙ sym leads.tells.ends_count

  never-spent : found.extent ≡ Whole → found.is_bounded ≡ false → Contains ends Spent → ⊥
  never-spent seen free spent = are.unbounded seen free (record {
    commits = journal;
    config = _;
    leads = run-leads s.processes rows journal leads.run;
    maximal = leads.maximal;
    ends = ends;
    outputs = outputs;
    tells = leads.tells;
    spent = any-spent ends spent;
  })

pub clear_never_waits : ClearNeverWaits
clear_never_waits s rows limit asked found are waits clear journal ends outputs leads =
    let parts = nothing-waits asked found waits clear in
    let seen = whole found.extent (both (is_whole found.extent) (length (shown asked found.outcomes.items) == 0) parts.0).0 in (
      never-waits asked found ends outputs (its s rows limit asked found are journal ends outputs leads) (as-many s rows limit asked found are journal ends outputs leads) waits parts.0,
      never-spent s rows limit asked found are journal ends outputs leads seen (unbounded found.is_bounded parts.1),
    )

pub clear_always_ends : ClearAlwaysEnds
clear_always_ends s rows limit asked found needed are lacks names clear journal ends outputs leads =
    always-ends asked found ends outputs (its s rows limit asked found are journal ends outputs leads) (as-many s rows limit asked found are journal ends outputs leads) needed lacks names
    (nothing-lacks asked found needed lacks clear)

pub stuck_is_left : StuckIsLeft
stuck_is_left s rows limit asked found needed are lacks stuck =
    let w = stuck-in asked found needed lacks stuck in
    record {
      journal = w.outcome.journal.items;
      ends = ends_in w.outcome;
      outputs = _;
      leads = (are.outcomes w.number w.outcome w.is_its).leads;
      thread = w.thread;
      end = w.end;
      needed_is = w.needed_is;
      ends_so = w.ends_so;
      stuck = w.stuck;
    }

-- OF ANY LENGTH

module _ (s : Script) (journal : List Commit) (ends : List End) (outputs : List (List Atom)) (leads : LeadsFreelyTo s.processes journal ends outputs) where
  left : AllRowsLeft (suc (length journal)) (config_of journal)
  left t = omega (arith, leads_count s.processes leads.rows no_results journal (config_of journal) t (run-leads s.processes leads.rows journal leads.run))

  pub free-tells : TellsEnds s.processes (suc (length journal)) (config_of journal) ends outputs
  free-tells = leads.tells (suc (length journal)) left

pub free_never_spends : FreeNeverSpends
free_never_spends s journal ends outputs leads spent =
    let none = nobody-spent s.processes (suc (length journal)) (config_of journal) ends outputs (left s journal ends outputs leads) (free-tells s journal ends outputs leads) in
    false≢true (sym none ∙ any-spent ends spent)

module _ (s : Script) (limit : ℕ) (asked : Asked) (found : Outcomes) (are : AreFoundFreely s limit asked found) (journal : List Commit) (ends : List End) (outputs : List (List Atom)) (leads : LeadsFreelyTo s.processes journal ends outputs) where
  free-its : found.extent ≡ Whole → Has asked.named.items found.outcomes.items ends outputs
  free-its seen = are.all seen journal ends outputs leads

  free-as-many : (k : ℕ) (o : Outcome) → slice_get found.outcomes.items k ≡ Some o → length (ends_in o) ≡ length ends
  free-as-many k o is =
      (free-tells s o.journal.items (ends_in o) (outputs_in o) (are.outcomes k o is).leads).ends_count ∙ sym (free-tells s journal ends outputs leads).ends_count

pub free_clear_never_waits : FreeClearNeverWaits
free_clear_never_waits s limit asked found are waits clear journal ends outputs leads =
    never-waits asked found ends outputs (free-its s limit asked found are journal ends outputs leads) (free-as-many s limit asked found are journal ends outputs leads) waits
    (nothing-waits asked found waits clear).0

pub free_clear_always_ends : FreeClearAlwaysEnds
free_clear_always_ends s limit asked found needed are lacks names clear journal ends outputs leads =
    always-ends asked found ends outputs (free-its s limit asked found are journal ends outputs leads) (free-as-many s limit asked found are journal ends outputs leads) needed lacks names
    (nothing-lacks asked found needed lacks clear)

pub free_stuck_is_left : FreeStuckIsLeft
free_stuck_is_left s limit asked found needed are lacks stuck =
    let w = stuck-in asked found needed lacks stuck in
    record {
      journal = w.outcome.journal.items;
      ends = ends_in w.outcome;
      outputs = _;
      leads = (are.outcomes w.number w.outcome w.is_its).leads;
      thread = w.thread;
      end = w.end;
      needed_is = w.needed_is;
      ends_so = w.ends_so;
      stuck = w.stuck;
    }
