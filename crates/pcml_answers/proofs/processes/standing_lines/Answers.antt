use Rattle.std.proofs.Common.{◌≡◌, ◌∙◌, ap, arith, get_or, length, refl, sym, Some, Vec}
use Rattle.std.specs.Prelude.{map, slice_get}
use Rattle.std.specs.Global.{Global}
use Rattle.std.specs.Option.{option_map}
use Rattle.std.specs.String.{string_bytes}
use Rattle.std.proofs.lemmas.Option.{slice_get-get_or, slice_get-map, slice_get_read}
use Rattle.protocol_values.specs.declared.Atom.{Atom}
use Rattle.script.specs.Scripts.{script_of}
use Rattle.thread.specs.declared.end.End.TheVariants.{Ended}
use Rattle.pcml_answers.specs.Standings.{IsStandingOf}
use Rattle.pcml_answers.proofs.Lines.{one_line}
use Rattle.journal_text.specs.Names.{named}
use Rattle.pcml_answers.proofs.processes.standing_lines.Goals as goal

pub loop-thread-preserved : goal.loop-thread-preserved
loop-thread-preserved c =
    let ends = c.args.ends.now in
    let outputs = c.args.outputs.now in
    let thread = c.loop-thread.thread in
    let items = λ (v : Vec Atom Global). v.items in
    let printed = c.as_slice-printed.result.now in
    let told : slice_get outputs thread ≡ Some c.index-outputs-thread.result = slice_get_read outputs (length outputs) thread c.index-outputs-thread.result refl (omega arith) c.index-outputs-thread.is in
    one_line (named (script_of c.args.script.now)) (IsStandingOf ends (map items outputs)) thread (string_bytes c.loop-thread.lines) (string_bytes c.push_process.new.out)
    (record { thread = thread; end = get_or ends thread Ended; printed = printed })
    c.loop-thread.invariant
    (refl, slice_get-get_or ends thread Ended (omega arith), slice_get-map items outputs thread ∙ ap (option_map items) told ∙ ap Some (sym c.as_slice-printed.ensures.value))
    c.in_ok-push_process.ensures

pub returns : goal.returns
returns c = record {
  standing = c.loop-thread.invariant.0;
  are = record { count = c.loop-thread.invariant.1.0 ∙ omega arith; each = c.loop-thread.invariant.1.1 };
  is = c.loop-thread.invariant.2;
}
