use Rattle.std.proofs.Common.{◌≡◌, vec_len, map}
use Rattle.script_tree.specs.Trees.{terms_of}
use Rattle.script_reader.specs.Exprs.{signed_of}
use Rattle.script_grammar.specs.Meaning.{linked}
use Rattle.script_reader.proofs.Linking.{linked_on}
use Rattle.script_reader.proofs.expr.link.Given as goal

abbrev pub invariant-loop-sign : goal.invariant-loop-sign
invariant-loop-sign l = linked_on (terms_of l.linked) (map signed_of l.terms.items) ≡ linked (map signed_of l.fn.terms.items)

abbrev pub decreases-loop-sign : goal.decreases-loop-sign
decreases-loop-sign l = vec_len l.terms
