use Rattle.std.proofs.Common.{◌≡◌, ◌++◌, ◌≤◌}
use Rattle.std.specs.String.{string_bytes}
use Rattle.script_tree.specs.declared.tree.Terms.{size-Terms}
use Rattle.script_tree.specs.Trees.{terms_of}
use Rattle.script_writer.specs.Texts.{terms_text}
use Rattle.script_writer.specs.Sources.{source_names}
use Rattle.script_writer.proofs.exprs.+sum.Given as goal

abbrev pub invariant-put_terms-loop-rest : goal.invariant-put_terms-loop-rest
invariant-put_terms-loop-rest l = record {
  size : size-Terms l.rest ≤ size-Terms l.fn.terms;
  text : string_bytes l.out ++ terms_text (source_names l.source) (terms_of l.rest) ≡ string_bytes l.fn.out ++ terms_text (source_names l.source) (terms_of l.fn.terms);
}
