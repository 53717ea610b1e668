use Rattle.std.specs.String.{string_bytes}
use Rattle.script.specs.Scripts.{script_of}
use Rattle.pcml_answers.proofs.Lines.{LinesTo}
use Rattle.pcml_texts.proofs.Replaying.{TellsOne}
use Rattle.journal_text.specs.Names.{named}
use Rattle.pcml_texts.proofs.replay.process_lines.Given as goal

abbrev pub invariant-loop-thread : goal.invariant-loop-thread
invariant-loop-thread l = LinesTo (named (script_of l.script)) (TellsOne l.state) l.thread (string_bytes l.lines)
