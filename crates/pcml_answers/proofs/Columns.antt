-- A mark for each process.
use Rattle.std.proofs.Common.{◌≡◌, List, ℕ, Bool, Option, Some, None, if◌then◌else◌, length, true, false}
use Rattle.std.specs.Prelude.{replicate}
use Rattle.std.proofs.lemmas.List.{length-map, length-replicate}
use Rattle.script.specs.Sources.{Script}
use Rattle.pcml_answers.specs.Needs.{are_in, is_in, named_by, named_or_all, names_all}

either-way : (s : Script) (names : List ℕ) (b : Bool) → length (if b then replicate (length s.processes) true else are_in s names) ≡ length s.processes
either-way s names true = length-replicate (length s.processes) true
either-way s names false = length-map s.processes (λ p. is_in p.name names)

pub each-named : (s : Script) (names : List ℕ) → length (named_by s names) ≡ length s.processes
each-named s names = either-way s names (names_all names)

pub each-column : (s : Script) (only : Option (List ℕ)) → length (named_or_all s only) ≡ length s.processes
each-column s None = length-replicate (length s.processes) true
each-column s (Some names) = each-named s names
