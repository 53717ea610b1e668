use Rattle.std.proofs.Common.{◌≡◌, ◌≤◌, drop}
use Rattle.script_token.specs.Tokens.{numeral_from}
use Rattle.script_token.proofs.kind.numeral.Given as goal

abbrev pub invariant-loop-byte : goal.invariant-loop-byte
invariant-loop-byte l = record {
  same : numeral_from l.value (drop l.byte-index l.text) ≡ numeral_from 0 l.text;
  small : l.value ≤ 4294967295;
}
