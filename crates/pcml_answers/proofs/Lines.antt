-- Lines of processes, one after another.
use Rattle.std.proofs.Common.{◌≡◌, ℕ, ◌+◌, List, [], ◌∷◌, ◌++◌, refl, ap, ◌∙◌}
use Rattle.std.proofs.lemmas.List.{flat_map_more}
use Rattle.journal_text.specs.Names.{Naming}
use Rattle.journal_replay.proofs.Telling.{HoldsOf, holds-more}
use Rattle.pcml_answers.specs.Standings.{Standing, process_line, process_lines}

-- the lines of the first so many, of each of which P holds by its number
abbrev pub LinesTo : Naming → (ℕ → Standing → Type 0) → ℕ → List ℕ → Type 0
LinesTo names P n text = (standing : List Standing) × HoldsOf P n standing × (text ≡ process_lines names standing)

pub no_line : (names : Naming) (P : ℕ → Standing → Type 0) → LinesTo names P 0 []
no_line names P = ([], (refl, λ t p e. absurd cc), refl)

pub one_line : (names : Naming) (P : ℕ → Standing → Type 0) (n : ℕ) (text more : List ℕ) (p : Standing) → LinesTo names P n text → P n p → more ≡ text ++ process_line names p → LinesTo names P (n + 1) more
one_line names P n text more p (standing, holds, is) told grown = (
  standing ++ p ∷ [],
  holds-more P n standing (standing ++ p ∷ []) p holds told refl,
  grown ∙ ap (λ (l : List ℕ). l ++ process_line names p) is ∙ flat_map_more (process_line names) [] standing p,
)
