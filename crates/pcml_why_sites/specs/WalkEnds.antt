-- What is told at the end of a walk.
use Rattle.std.specs.Prelude.{◌≡◌, ◌<◌, [], length, ⊤}
use Rattle.pcml_why_sites.specs.Walks.{Walked, On, Halts}
use Rattle.pcml_why_sites.specs.declared.stand.Stand.{Stand}
use Rattle.pcml_why_sites.specs.declared.stand.Stand.TheVariants.{Offers, Finishes, Fails, Strays}
use Rattle.pcml_why_sites.specs.declared.walk.Stop.TheVariants as stop

abbrev pub IsTold : {A : Type 0} → Walked A → Stand → Type 0
IsTold (On value v) Finishes = v.left ≡ []
IsTold (On value v) Strays = 0 < length v.left
IsTold (Halts stop.Finishes v) Finishes = v.left ≡ []
IsTold (Halts stop.Finishes v) Strays = 0 < length v.left
IsTold (Halts stop.Offers v) (Offers variables) = variables.items ≡ v.store
IsTold (Halts (stop.Fails trouble) v) (Fails variables told) = (variables.items ≡ v.store) × (told ≡ trouble) × (v.left ≡ [])
IsTold (Halts (stop.Fails trouble) v) Strays = 0 < length v.left
IsTold (Halts stop.Strays v) Strays = ⊤
IsTold one other = ⊥
