-- What is asked for of the outcomes.
use Rattle.std.specs.Prelude.{◌≡◌, ◌⊎◌, ◌||◌, ℕ, Bool, List, Option, None, Some, map}
use Rattle.std.specs.List.{zip}
use Rattle.std.specs.Global.{Vec}
use Rattle.script.specs.Sources.{Script}
use Rattle.outcomes.specs.declared.asked.Asked.{Asked}
use Rattle.outcomes.specs.declared.asked.Told.{Told}
use Rattle.outcomes.specs.declared.asked.Told.TheVariants as told
use Rattle.pcml_answers.specs.Needs.{MisnamesAny, Names, NamesOrAll, named_or_all, unnamed_of}
use Rattle.pcml_answers.specs.declared.need.NamesFault.{NamesFault}
use Rattle.pcml_answers.specs.declared.need.NamesFault.TheVariants as names
use Rattle.pcml_request.specs.declared.request.Wanted.{Wanted}
use Rattle.pcml_request.specs.declared.request.Wanted.TheVariants.{Each, Lacking, Waiting}

abbrev pub either : List Bool → List Bool → List Bool
either first second = map (λ p. p.0 || p.1) (zip first second)

-- Which processes are named, and which outcomes told. Who has to end is named too.
abbrev pub Asks : Script → Wanted → Option (List ℕ) → List Bool → Told → Type 0
Asks s Each only named which = NamesOrAll s only named × (which ≡ told.Each)
Asks s Waiting only named which = NamesOrAll s only named × (which ≡ told.Waiting)
Asks s (Lacking needs) only named which =
    (needed : Vec Bool) × (which ≡ told.Lacking needed) × Names s needs.now needed.items × (unnamed_of s only ≡ None) × (named ≡ either (named_or_all s only) needed.items)

pub record IsAskedOf (s : Script) (wanted : Wanted) (only : Option (List ℕ)) (stops : Bool) (asked : Asked) : Type 0 where
  pub asks : Asks s wanted only asked.named.items asked.told
  pub first : asked.first ≡ stops

-- the names that are needed, where some are
abbrev pub needs : Wanted → Option (List ℕ)
needs (Lacking names) = Some names.now
needs wanted = None

-- want of memory, or the first name that no process has: of those that are needed, or else of the others
abbrev pub MisnamesAsked : Script → Wanted → Option (List ℕ) → NamesFault → Type 0
MisnamesAsked s wanted only names.Memory = Unit {0}
MisnamesAsked s wanted only (names.Unnamed name) =
    MisnamesAny s (needs wanted) (names.Unnamed name)
    ⊎ ((unnamed_of s (needs wanted) ≡ None) × MisnamesAny s only (names.Unnamed name))
