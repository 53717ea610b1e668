-- Of the text nothing was taken so far.
use Rattle.std.specs.Io.KnownBytes.{Keeps}
use Rattle.pcml_files.proofs.output.write_some.Given as goal

abbrev pub invariant-loop : goal.invariant-loop
invariant-loop g l = Keeps (g.O.Write.contents l.fn.out) (g.O.Write.contents l.out)
