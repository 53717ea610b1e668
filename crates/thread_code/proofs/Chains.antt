-- The statements of a block, one behind another.
use Rattle.std.proofs.Common.{◌≡◌, ℕ, List, [], ◌∷◌, ◌++◌, sym, ◌∙◌, ap, subst}
use Rattle.std.specs.declared.sync.Arc.{Arc}
use Rattle.script_tree.specs.Lined.{block_of}
use Rattle.script_tree.specs.declared.tree.Block.{Block as SeenBlock, Done, Then'}
use Rattle.thread_code.specs.declared.Code.{Code}
use Rattle.thread_code.specs.Codes.{IsAt, LeadsTo}
use Rattle.thread_code.specs.Fitting.{BlockFits}

-- what stands behind a block's first statement
abbrev pub behind : SeenBlock → SeenBlock
behind Done = Done
behind (Then' stmt line p rest) = rest

-- the parts of a block, from its whole to what is left
abbrev pub Chain : {Z : Type 0} → List (Arc SeenBlock Z) → SeenBlock → SeenBlock → Type 0
Chain [] whole rest = whole ≡ rest
Chain (part ∷ parts) whole rest = (part.value ≡ whole) × Chain parts (behind whole) rest

pub chain_then : {Z : Type 0} (parts : List (Arc SeenBlock Z)) (part : Arc SeenBlock Z) (whole rest : SeenBlock) → Chain parts whole rest → part.value ≡ rest → Chain (parts ++ part ∷ []) whole (behind rest)
chain_then [] part whole rest h is = (is ∙ sym h, ap behind h)
chain_then (other ∷ parts) part whole rest h is = (h.0, chain_then parts part (behind whole) rest h.1 is)

pub chain_last : {Z : Type 0} (parts : List (Arc SeenBlock Z)) (part : Arc SeenBlock Z) (whole rest : SeenBlock) → Chain (parts ++ part ∷ []) whole rest → Chain parts whole part.value × (behind part.value ≡ rest)
chain_last [] part whole rest h = (sym h.0, ap behind h.0 ∙ h.1)
chain_last (other ∷ parts) part whole rest h =
    let more = chain_last parts part (behind whole) rest h.1 in
    ((h.0, more.0), more.1)

fits_behind : (b : SeenBlock) → BlockFits (block_of b) → BlockFits (block_of (behind b))
fits_behind Done fits = fits
fits_behind (Then' stmt line p rest) fits = fits.1

pub chain_fits : {Z : Type 0} (parts : List (Arc SeenBlock Z)) (whole rest : SeenBlock) → Chain parts whole rest → BlockFits (block_of whole) → BlockFits (block_of rest)
chain_fits [] whole rest h fits = subst (λ b. BlockFits (block_of b)) h fits
chain_fits (part ∷ parts) whole rest h fits = chain_fits parts (behind whole) rest h.1 (fits_behind whole fits)

pub leads_behind : (c : Code) (next : ℕ) (b : SeenBlock) → IsAt c next (block_of (behind b)) → LeadsTo c next (block_of b)
leads_behind c next Done h = tt
leads_behind c next (Then' stmt line p rest) h = h
