-- A list of what the threads offer.
use Rattle.std.proofs.Common.{◌≡◌, ℕ, ◌<◌, true, List, length, slice_get, option_and_then, Some, sym, ap, ◌∙◌}
use Rattle.thread.specs.Machines.{offers_in}
use Rattle.protocol_values.specs.declared.Base.{Base}
use Rattle.protocol_values.specs.declared.Offer.{Offer}
use Rattle.protocol_values.specs.declared.Row.{Row}
use Rattle.thread_strand.specs.declared.strand.Strand.{Strand}
use Rattle.journal_replay.specs.Standing.{Finds}
use Rattle.thread_strand.specs.Strands.{next_offer}
use Rattle.journal_replay.proofs.Finding.{offer-tests}

-- what is found of a thread
pub record FoundOf (s : Strand) (rows : ℕ) (at : Row × ℕ) (b : Base) : Type 0 where
  pub runs : s.started ≡ true
  pub sync : at.0.sync ≡ length s.machine.results
  pub few : at.0.sync < rows
  pub offer : Offer
  pub is : slice_get (offers_in s.machine.phase) at.1 ≡ Some offer
  pub base : offer.base ≡ b

pub found-of : (strands : List Strand) (rows : ℕ) (at : Row × ℕ) (b : Base) (s : Strand) → Finds strands rows at b → slice_get strands at.0.thread ≡ Some s → FoundOf s rows at b
found-of strands rows at b s finds there =
    let here : next_offer rows at s ≡ Some finds.offer = ap (option_and_then (next_offer rows at)) (sym there) ∙ finds.is in
    let tests = offer-tests rows at s finds.offer here in
    record { runs = tests.0; sync = tests.1; few = tests.2; offer = finds.offer; is = tests.3; base = finds.base }
