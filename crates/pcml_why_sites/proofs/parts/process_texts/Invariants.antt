use Rattle.std.proofs.Common.{◌≡◌}
use Rattle.script_token.specs.Lexemes.{seen}
use Rattle.pcml_why_sites.specs.Writing.{behind, seen_texts, texts_below}
use Rattle.pcml_why_sites.proofs.parts.process_texts.Given as goal

abbrev pub invariant-loop-process : goal.invariant-loop-process
invariant-loop-process l = record {
  rest : seen l.rest ≡ behind (seen l.fn.tokens) l._process;
  texts : seen_texts l.texts.items ≡ texts_below (seen l.fn.tokens) l._process;
}
