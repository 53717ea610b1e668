-- What is said of who may be stranded, of all runs.
use Rattle.std.proofs.Common.{◌≡◌, ◌<◌, ◌==◌, ◌&&◌, ℕ, suc, Bool, true, false, not, if◌then◌else◌, List, [], ◌∷◌, Contains, Option, None, Some, length, slice_get, refl, sym, ap, ◌∙◌, subst, arith, ⊎_elim}
use Rattle.std.specs.Global.{Vec}
use Rattle.std.specs.List.{zip}
use Rattle.std.proofs.lemmas.Bool.{eqb-true, false≢true}
use Rattle.std.proofs.lemmas.Option.{slice_get_within}
use Rattle.protocol_values.specs.declared.Commit.{Commit}
use Rattle.script.specs.Sources.{Script}
use Rattle.thread.specs.Ends.{is_ended, is_waiting}
use Rattle.thread.specs.declared.end.End.{End}
use Rattle.thread.specs.declared.end.End.TheVariants.{Ended, Faulted, Spent, Unstarted, Waiting}
use Rattle.journal_replay.specs.Runs.{Config, config_of, no_results}
use Rattle.journal_replay.proofs.Sounding.{some-at}
use Rattle.configurations.specs.Alike.{IsAtRest}
use Rattle.configurations.specs.Full.{HasFinished}
use Rattle.configurations.specs.Leading.{Leads}
use Rattle.configurations.proofs.Leading.{run-leads}
use Rattle.outcomes.specs.Asking.{has_unended, has_waiting, tells}
use Rattle.outcomes.specs.Outcomes.{ends_in, outputs_in}
use Rattle.outcomes.specs.States.{EndsWithin}
use Rattle.outcomes.specs.declared.Ending.{Ending}
use Rattle.outcomes.specs.declared.Ending.TheVariants.{ForEver, Unknown, Within}
use Rattle.outcomes.specs.declared.Extent.TheVariants.{Whole}
use Rattle.outcomes.specs.declared.Outcome.{Outcome}
use Rattle.outcomes.specs.declared.Outcomes.{Outcomes}
use Rattle.outcomes.specs.declared.asked.Asked.{Asked}
use Rattle.outcomes.specs.declared.asked.Told.TheVariants.{Lacking, Waiting as TheWaiting}
use Rattle.outcomes.proofs.Finishing.{finished-ended}
use Rattle.reachable.specs.declared.stranded.AllStranded.{AllStranded}
use Rattle.reachable.specs.declared.stranded.Stranded.{Stranded as OneStranded}
use Rattle.reachable.proofs.Stranding.{never-stranded, never-waits, stranded-at-rest}
use Rattle.pcml_outcomes.specs.declared.finding.Finding.{Finding}
use Rattle.pcml_outcomes.specs.declared.finding.Finding.TheVariants.{Clear, Open, Stranded, Stuck}
use Rattle.pcml_outcomes.specs.Forever.{ClearNeverStrands, ClearNeverWaitsForEver, LeadsToStranded, StuckIsStranded}
use Rattle.pcml_outcomes.specs.Stranding.{AreLostIn, asks_who_waits, judged, looks_on, nobody, sought}
use Rattle.pcml_outcomes.specs.Told.{AreFoundFreely, IsMarked, NamesNeeded, finding, is_stuck, is_whole, looks, shown}
use Rattle.pcml_outcomes.proofs.Clearing.{any-at, both, free-tells, none-at, none-shown, nothing-lacks, nothing-waits, stuck-in, whole, zip-at}

-- WHAT IS JUDGED

clear-open : Open ≡ Clear → ⊥
clear-open e = cc

clear-stranded : Stranded ≡ Clear → ⊥
clear-stranded e = cc

-- where all is clear, so were the outcomes; and where it was looked for, all was seen and nobody is stranded
abbrev Settled : Option AllStranded → Type 0
Settled None = Unit {0}
Settled (Some all) = (all.is_whole ≡ true) × (nobody all ≡ true)

waiting-settled : (first : Finding) (stranded : Option AllStranded) → judged TheWaiting first stranded ≡ Clear → (first ≡ Clear) × Settled stranded
waiting-settled Stuck stranded e = absurd (let f : Stuck ≡ Clear = e in cc)
waiting-settled Clear None e = (refl, tt)
waiting-settled Open None e = absurd (clear-open e)
waiting-settled Stranded None e = absurd (clear-stranded e)
waiting-settled Clear (Some all) e = by all.is_whole (nobody all) refl refl e
  where
    by : (w n : Bool) → all.is_whole ≡ w → nobody all ≡ n → (if w && n then Clear else Open) ≡ Clear → (Clear ≡ Clear) × ((all.is_whole ≡ true) × (nobody all ≡ true))
    by true true all_seen none e = (refl, (all_seen, none))
    by true false all_seen none e = absurd (clear-open e)
    by false n all_seen none e = absurd (clear-open e)
waiting-settled Open (Some all) e = absurd (by (all.is_whole && nobody all) e)
  where
    by : (b : Bool) → (if b then Open else Open) ≡ Clear → ⊥
    by true e = clear-open e
    by false e = clear-open e
waiting-settled Stranded (Some all) e = absurd (by (all.is_whole && nobody all) e)
  where
    by : (b : Bool) → (if b then Stranded else Open) ≡ Clear → ⊥
    by true e = clear-stranded e
    by false e = clear-open e

needed-all : (w n : Bool) → (if n then (if w then Clear else Open) else Stranded) ≡ Clear → (w ≡ true) × (n ≡ true)
needed-all true true e = (refl, refl)
needed-all false true e = absurd (clear-open e)
needed-all w false e = absurd (clear-stranded e)

-- of those that have to end either the outcomes said so, or a search that saw all
abbrev NeededSettled : Finding → Option AllStranded → Type 0
NeededSettled first None = first ≡ Clear
NeededSettled first (Some all) = (all.is_whole ≡ true) × (nobody all ≡ true)

needed-settled : (needed : Vec Bool) (first : Finding) (stranded : Option AllStranded) → judged (Lacking needed) first stranded ≡ Clear → NeededSettled first stranded
needed-settled needed Stuck stranded e = absurd (let f : Stuck ≡ Clear = e in cc)
needed-settled needed Clear None e = e
needed-settled needed Open None e = e
needed-settled needed Stranded None e = e
needed-settled needed Clear (Some all) e = needed-all all.is_whole (nobody all) e
needed-settled needed Open (Some all) e = needed-all all.is_whole (nobody all) e
needed-settled needed Stranded (Some all) e = needed-all all.is_whole (nobody all) e

-- nobody is told
nobody-told : (all : AllStranded) → nobody all ≡ true → (one : OneStranded) → Contains all.stranded.items one → ⊥
nobody-told all none one has = omega (arith, eqb-true (length all.stranded.items) 0 none, has.1)

-- WHERE IT WAS NOT LOOKED FOR, all runs end

ends-within : (s : Script) (limit : ℕ) (asked : Asked) (found : Outcomes) → AreFoundFreely s limit asked found → found.extent ≡ Whole → looks None asked found ≡ false → (n : ℕ) × EndsWithin s.processes n
ends-within s limit asked found are seen unlooked = by found.ending refl
  where
    looked : (e : Ending) → found.ending ≡ e → looks_on None asked.told Whole e (finding asked found) ≡ false
    looked e is = ap (looks_on None asked.told Whole e) refl ∙ sym (ap (λ x. looks_on None asked.told x found.ending (finding asked found)) seen ∙ ap (λ x. looks_on None asked.told Whole x (finding asked found)) is) ∙ unlooked

    by : (e : Ending) → found.ending ≡ e → (n : ℕ) × EndsWithin s.processes n
    by (Within n) is = (n, are.ends n is)
    by Unknown is = absurd (are.known seen is)
    by (ForEver round) is = absurd (false≢true (sym (looked (ForEver round) is)))

-- WHO HAS TO END

module _ (s : Script) (limit : ℕ) (asked : Asked) (found : Outcomes) (needed : Vec Bool) (are : AreFoundFreely s limit asked found) (lacks : asked.told ≡ Lacking needed) (names : NamesNeeded asked) (nothing : (is_whole found.extent && (length (shown asked found.outcomes.items) == 0)) ≡ true) where
  seen-all : found.extent ≡ Whole
  seen-all = whole found.extent (both (is_whole found.extent) (length (shown asked found.outcomes.items) == 0) nothing).0

  all-ended : (k : ℕ) (o : Outcome) → slice_get found.outcomes.items k ≡ Some o → (t : ℕ) (end : End) → IsMarked needed.items t → slice_get (ends_in o) t ≡ Some end → end ≡ Ended
  all-ended k o is t end mark at =
      let hidden = none-shown asked 1 found.outcomes.items (eqb-true (length (shown asked found.outcomes.items)) 0 (both (is_whole found.extent) (length (shown asked found.outcomes.items) == 0) nothing).1) k o is in
      let none : has_unended needed.items (ends_in o) ≡ false = sym (ap (λ told. tells told asked.named.items (ends_in o)) lacks) ∙ hidden in
      ended end (none-at (λ p. p.1 && not (is_ended p.0)) (zip (ends_in o) needed.items) t (end, true) none (zip-at (ends_in o) needed.items t end true at mark))
    where
      ended : (e : End) → not (is_ended e) ≡ false → e ≡ Ended
      ended Ended e = refl
      ended Waiting e = absurd (false≢true (sym e))
      ended Spent e = absurd (false≢true (sym e))
      ended (Faulted fault) e = absurd (false≢true (sym e))
      ended Unstarted e = absurd (false≢true (sym e))

  rest-finished : (t : ℕ) → t < length s.processes → IsMarked needed.items t → (rows : ℕ) (cs : List Commit) (to : Config) → Leads s.processes rows no_results cs to → IsAtRest s.processes to → HasFinished s.processes to t
  rest-finished t low mark rows cs to leads rest =
      let r = are.rests seen-all rows cs to leads rest in
      let o = r.outcome in
      let tells = free-tells s o.journal.items (ends_in o) (outputs_in o) (are.outcomes r.number o r.is_its).leads in
      let end = some-at (ends_in o) t (omega (arith, low, tells.ends_count)) in
      r.finished t (names needed lacks t mark) (end.1 ∙ ap (λ (e : End). Some e) (all-ended r.number o r.is_its t end.0 mark end.1))

pub clear_never_strands : ClearNeverStrands
clear_never_strands s limit asked found stranded needed are lost lacks names clear rows journal run t low mark is_stranded =
    by stranded lost (needed-settled needed (finding asked found) stranded (sym (ap (λ told. judged told (finding asked found) stranded) lacks) ∙ clear))
  where
    by : (stranded : Option AllStranded) → AreLostIn s limit asked (looks None asked found) stranded → NeededSettled (finding asked found) stranded → ⊥
    by (Some all) lost settled =
        let tell = lost.1.whole settled.0 in
        let marked : slice_get (sought asked.told asked.named.items) t ≡ Some true = ap (λ told. slice_get (sought told asked.named.items) t) lacks ∙ mark in
        tell.others t marked (λ told. nobody-told all settled.1 told.0 told.1) rows journal run
        (record { stranded = is_stranded; waiting = λ yes. absurd (false≢true (sym (ap asks_who_waits lacks) ∙ yes)) })
    by None lost first =
        let nothing = nothing-lacks asked found needed lacks first in
        let n = ends-within s limit asked found are (seen-all s limit asked found needed are lacks names nothing) lost in
        never-stranded s.processes t n.0 n.1.ways (rest-finished s limit asked found needed are lacks names nothing t low mark) (suc n.0) rows journal (config_of journal) (omega arith)
        (run-leads s.processes rows journal run) is_stranded

-- WHO IS STUCK OR STRANDED

needed-never : (w n : Bool) → (if n then (if w then Clear else Open) else Stranded) ≡ Stuck → ⊥
needed-never true true e = cc
needed-never false true e = cc
needed-never w false e = cc

first-stuck : (needed : Vec Bool) (first : Finding) (stranded : Option AllStranded) → judged (Lacking needed) first stranded ≡ Stuck → first ≡ Stuck
first-stuck needed Stuck stranded e = refl
first-stuck needed Clear None e = e
first-stuck needed Open None e = e
first-stuck needed Stranded None e = e
first-stuck needed Clear (Some all) e = absurd (needed-never all.is_whole (nobody all) e)
first-stuck needed Open (Some all) e = absurd (needed-never all.is_whole (nobody all) e)
first-stuck needed Stranded (Some all) e = absurd (needed-never all.is_whole (nobody all) e)

-- what the outcomes say alone is never that one is stranded
never-first : (stuck clear : Bool) → (if stuck then Stuck else (if clear then Clear else Open)) ≡ Stranded → ⊥
never-first true clear e = cc
never-first false true e = cc
never-first false false e = cc

some-first : (all : AllStranded) → nobody all ≡ false → (one : OneStranded) × Contains all.stranded.items one
some-first all some = by all.stranded.items some
  where
    by : (xs : List OneStranded) → (length xs == 0) ≡ false → (one : OneStranded) × Contains xs one
    by [] e = absurd (false≢true (sym e))
    by (x ∷ xs) e = (x, (0, omega arith, refl))

needed-some : (w n : Bool) → (if n then (if w then Clear else Open) else Stranded) ≡ Stranded → n ≡ false
needed-some true true e = absurd (let f : Clear ≡ Stranded = e in cc)
needed-some false true e = absurd (let f : Open ≡ Stranded = e in cc)
needed-some w false e = refl

some-stranded : (needed : Vec Bool) (first : Finding) (stranded : Option AllStranded) → (first ≡ Stranded → ⊥) → judged (Lacking needed) first stranded ≡ Stranded → (all : AllStranded) × (stranded ≡ Some all) × (nobody all ≡ false)
some-stranded needed Stuck stranded never e = absurd (let f : Stuck ≡ Stranded = e in cc)
some-stranded needed Clear None never e = absurd (never e)
some-stranded needed Open None never e = absurd (never e)
some-stranded needed Stranded None never e = absurd (never e)
some-stranded needed Clear (Some all) never e = (all, refl, needed-some all.is_whole (nobody all) e)
some-stranded needed Open (Some all) never e = (all, refl, needed-some all.is_whole (nobody all) e)
some-stranded needed Stranded (Some all) never e = absurd (never refl)

pub stuck_is_stranded : StuckIsStranded
stuck_is_stranded s limit asked found stranded needed are lost lacks says = ⊎_elim stuck lies says
  where
    over : (f : Finding) → judged asked.told (finding asked found) stranded ≡ f → judged (Lacking needed) (finding asked found) stranded ≡ f
    over f e = sym (ap (λ told. judged told (finding asked found) stranded) lacks) ∙ e

    stuck : judged asked.told (finding asked found) stranded ≡ Stuck → LeadsToStranded s needed.items
    stuck e =
        let w = stuck-in asked found needed lacks (first-stuck needed (finding asked found) stranded (over Stuck e)) in
        let o = w.outcome in
        let leads = (are.outcomes w.number o w.is_its).leads in
        let tells = free-tells s o.journal.items (ends_in o) (outputs_in o) leads in
        let printed = some-at (outputs_in o) w.thread (omega (arith, slice_get_within (ends_in o) w.thread w.end w.ends_so, tells.ends_count, tells.outputs_count)) in
        let ends = tells.each w.thread w.end printed.0 w.ends_so printed.1 in
        record {
          rows = leads.rows;
          journal = o.journal.items;
          run = leads.run;
          thread = w.thread;
          needed_is = w.needed_is;
          stranded = stranded-at-rest s.processes w.thread (config_of o.journal.items) leads.rest
              (λ finished. false≢true (ap is_stuck (sym (finished-ended s.processes _ w.thread (config_of o.journal.items) w.end printed.0 finished ends)) ∙ w.stuck));
        }

    lies : judged asked.told (finding asked found) stranded ≡ Stranded → LeadsToStranded s needed.items
    lies e =
        let w = some-stranded needed (finding asked found) stranded (never-first _ _) (over Stranded e) in
        let all = w.0 in
        let one = some-first all w.2 in
        let its = (subst (AreLostIn s limit asked (looks None asked found)) w.1 lost).1.told one.0 one.1 in
        record {
          rows = its.rows;
          journal = one.0.journal.items;
          run = its.run;
          thread = one.0.process;
          needed_is = sym (ap (λ told. slice_get (sought told asked.named.items) one.0.process) lacks) ∙ its.marked;
          stranded = its.lost.stranded;
        }

-- WHO WAITS FOR EVER

pub clear_never_waits_for_ever : ClearNeverWaitsForEver
clear_never_waits_for_ever s limit asked found stranded are lost waits clear rows journal run t mark is_lost =
    let w = waiting-settled (finding asked found) stranded (sym (ap (λ told. judged told (finding asked found) stranded) waits) ∙ clear) in
    by stranded lost w.1 (nothing-waits asked found waits w.0).0
  where
    by : (stranded : Option AllStranded) → AreLostIn s limit asked (looks None asked found) stranded → Settled stranded → (is_whole found.extent && (length (shown asked found.outcomes.items) == 0)) ≡ true → ⊥
    by (Some all) lost settled nothing =
        let tell = lost.1.whole settled.0 in
        let marked : slice_get (sought asked.told asked.named.items) t ≡ Some true = ap (λ told. slice_get (sought told asked.named.items) t) waits ∙ mark in
        tell.others t marked (λ told. nobody-told all settled.1 told.0 told.1) rows journal run
        (record { stranded = is_lost.stranded; waiting = λ yes. is_lost.waiting refl })
    by None lost settled nothing =
        let parts = both (is_whole found.extent) (length (shown asked found.outcomes.items) == 0) nothing in
        let seen = whole found.extent parts.0 in
        let n = ends-within s limit asked found are seen lost in
        never-waits s.processes t n.0 n.1.ways
        (λ more cs to leads rest at.
        let r = are.rests seen more cs to leads rest in
        let o = r.outcome in
        let hidden = none-shown asked 1 found.outcomes.items (eqb-true (length (shown asked found.outcomes.items)) 0 parts.1) r.number o r.is_its in
        let none : has_waiting asked.named.items (ends_in o) ≡ false = sym (ap (λ told. tells told asked.named.items (ends_in o)) waits) ∙ hidden in
        let some : has_waiting asked.named.items (ends_in o) ≡ true = any-at (λ p. p.1 && is_waiting p.0) (zip (ends_in o) asked.named.items) t (Waiting, true) (zip-at (ends_in o) asked.named.items t Waiting true (r.waiting t mark at) mark) refl in
        false≢true (sym none ∙ some))
        (suc n.0) rows journal (config_of journal) (omega arith) (run-leads s.processes rows journal run) is_lost
