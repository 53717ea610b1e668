use Rattle.std.proofs.Common.{◌≡◌, take}
use Rattle.script_reader.specs.Steps.{bare}
use Rattle.script_mistakes.specs.declared.kind.TheConstants.{KINDS}
use Rattle.script_mistakes.proofs.Listing.{AreTold}
use Rattle.script_mistakes.proofs.trying.kinds_behind.Given as goal

abbrev pub invariant-loop-number : goal.invariant-loop-number
invariant-loop-number l = record {
  same : l.before.items ≡ l.fn.before.items;
  told : AreTold l.kinds.items (take l.number KINDS) (bare l.fn.before.items);
}
