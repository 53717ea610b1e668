-- The run that is kept, and whether runs end.
use Rattle.std.proofs.Common.{◌≡◌, ◌⊎◌, ℕ, suc, ◌++◌, Bool, true, false, if◌then◌else◌, List, [], ◌∷◌, Option, Some, None, length, slice_get, refl, ap, ◌∙◌, inl, inr, ⊎_elim}
use Rattle.std.specs.Prelude.{IfSome, codes, nat_le}
use Rattle.std.specs.Fmt.{decimal}
use Rattle.std.specs.List.{AllByRecursion}
use Rattle.std.proofs.lemmas.Option.{none-some, same_Some}
use Rattle.script.specs.Sources.{Script}
use Rattle.journal_text.specs.Journals.{HasLine}
use Rattle.journal_text.specs.Names.{names_of}
use Rattle.outcomes.specs.States.{EndsWithin, GoesOnForEver}
use Rattle.outcomes.specs.declared.Ending.{Ending}
use Rattle.outcomes.specs.declared.Ending.TheVariants.{ForEver, Unknown, Within}
use Rattle.outcomes.specs.declared.Extent.{Extent}
use Rattle.outcomes.specs.declared.Extent.TheVariants.{Cut, First, Whole}
use Rattle.outcomes.specs.declared.Outcome.{Outcome}
use Rattle.outcomes.specs.declared.Round.{Round}
use Rattle.outcomes.specs.declared.asked.Asked.{Asked}
use Rattle.reachable.specs.declared.stranded.AllStranded.{AllStranded}
use Rattle.reachable.specs.declared.stranded.Stranded.{Stranded}
use Rattle.pcml_outcomes.specs.Stranding.{is_told, nearer, soonest, soonest_in, sooner}
use Rattle.pcml_outcomes.specs.Told.{AllSaysWhetherRunsEnd, HaveLines, HaveRunsIn, HasRoundOf, asked_for, ending_of, ending_text, round_for, round_in, run_of, stranded_for, told_ending}
use Rattle.pcml_outcomes.proofs.Asking.{asked-in}

-- A RUN THAT COMES ROUND

-- it is told of runs of any length, where they go on for ever
pub round-is : (extent : Extent) (ending : Ending) (r : Round) → round_in (ending_of None extent ending) ≡ Some r → ending ≡ ForEver (Some r)
round-is Whole (ForEver round) r is = ap (λ (x : Option Round). ForEver x) is
round-is Whole (Within most) r is = absurd (none-some r is)
round-is Whole Unknown r is = absurd (none-some r is)
round-is Cut ending r is = absurd (none-some r is)
round-is First ending r is = absurd (none-some r is)

round-kept : (of : Option ℕ) (o : Option Outcome) (x : Option Stranded) (round : Option Round) (r : Round) → round_for of o x round ≡ Some r → round ≡ Some r
round-kept None None None round r is = is
round-kept None None (Some x) round r is = absurd (none-some r is)
round-kept None (Some o) x round r is = absurd (none-some r is)
round-kept (Some number) o x round r is = absurd (none-some r is)

stranded-kept : (of : Option ℕ) (o : Option Outcome) (stranded : Option Stranded) (x : Stranded) → stranded_for of o stranded ≡ Some x → stranded ≡ Some x
stranded-kept None None stranded x is = is
stranded-kept None (Some o) stranded x is = absurd (none-some x is)
stranded-kept (Some number) o stranded x is = absurd (none-some x is)

-- THE ONE THAT IS STRANDED SOONEST is one of them

nearer-one : (one x : Stranded) (other : Option Stranded) → nearer one other ≡ Some x → (one ≡ x) ⊎ (other ≡ Some x)
nearer-one one x None is = inl (same_Some one x is)
nearer-one one x (Some other) is = by (nat_le (length one.journal.items) (length other.journal.items)) is
  where
    by : (b : Bool) → (if b then Some one else Some other) ≡ Some x → (one ≡ x) ⊎ (Some other ≡ Some x)
    by true e = inl (same_Some one x e)
    by false e = inr e

sooner-one : (alone : Bool) (one x : Stranded) (other : Option Stranded) → sooner alone one other ≡ Some x → (one ≡ x) ⊎ (other ≡ Some x)
sooner-one alone one x other is = by (is_told alone one) is
  where
    by : (b : Bool) → (if b then nearer one other else other) ≡ Some x → (one ≡ x) ⊎ (other ≡ Some x)
    by true e = nearer-one one x other e
    by false e = inr e

pub soonest-there : (alone : Bool) (xs : List Stranded) (x : Stranded) → soonest alone xs ≡ Some x → (k : ℕ) × (slice_get xs k ≡ Some x)
soonest-there alone [] x is = absurd (none-some x is)
soonest-there alone (one ∷ xs) x is = ⊎_elim
    (λ same. (0, ap (λ (y : Stranded). Some y) same))
    (λ rest. let w = soonest-there alone xs x rest in (suc w.0, w.1))
    (sooner-one alone one x (soonest alone xs) is)

soonest-lines : (s : Script) (alone : Bool) (stranded : Option AllStranded) (x : Stranded) → HaveRunsIn s stranded → soonest_in alone stranded ≡ Some x → AllByRecursion (HasLine (names_of s)) x.journal.items
soonest-lines s alone None x lines is = absurd (none-some x is)
soonest-lines s alone (Some all) x lines is = let w = soonest-there alone all.stranded.items x is in lines w.0 x w.1

-- THE RUN THAT IS KEPT

pub kept-has-lines : (s : Script) (of : Option ℕ) (asked : Asked) (outcomes : List Outcome) (alone : Bool) (stranded : Option AllStranded) (ending : Option Ending) → HaveLines s outcomes → HaveRunsIn s stranded → HasRoundOf s ending
    → (o : Option Outcome) → asked_for of asked outcomes ≡ o → (x : Option Stranded) → stranded_for of o (soonest_in alone stranded) ≡ x → (r : Option Round) → round_for of o x (round_in ending) ≡ r → IfSome (run_of o x r) (AllByRecursion (HasLine (names_of s)))
kept-has-lines s of asked outcomes alone stranded ending lines runs has (Some o) found x at r is = let place = asked-in of asked outcomes o found in lines place.0 o place.1
kept-has-lines s of asked outcomes alone stranded ending lines runs has None found (Some x) at r is = soonest-lines s alone stranded x runs (stranded-kept of None (soonest_in alone stranded) x at)
kept-has-lines s of asked outcomes alone stranded ending lines runs has None found None at (Some r) is = (has r (round-kept of None None (round_in ending) r is)).lines
kept-has-lines s of asked outcomes alone stranded ending lines runs has None found None at None is = tt

-- THE LAST LINE

pub all_says_whether_runs_end : AllSaysWhetherRunsEnd
all_says_whether_runs_end s limit asked found are whole = says found.ending refl
  where
    told : (e : Ending) → found.ending ≡ e → ending_text (told_ending None found) ≡ ending_text (Some e)
    told e is = ap (λ (x : Extent). ending_text (ending_of None x found.ending)) whole ∙ ap (λ (x : Ending). ending_text (Some x)) is

    says : (e : Ending) → found.ending ≡ e
        → ((most : ℕ) × (ending_text (told_ending None found) ≡ codes ", every run ends within " ++ decimal most ++ codes " commits") × EndsWithin s.processes most)
        ⊎ ((ending_text (told_ending None found) ≡ codes ", some runs go on for ever") × GoesOnForEver s.processes)
    says Unknown is = absurd (are.known whole is)
    says (Within most) is = inl (most, told (Within most) is, are.ends most is)
    says (ForEver round) is = inr (told (ForEver round) is, are.goes_on round is)
