use Rattle.std.proofs.Common.{◌≡◌, ◌+◌, ◌++◌, ◌<◌, ◌∙◌, List, ℕ, Vec, append_assoc, ap, arith, drop, get_or, length, refl, sym, true, false, []}
use Rattle.std.specs.Prelude.{Some, slice_get}
use Rattle.std.specs.Global.{Global}
use Rattle.std.specs.Option.{option_map}
use Rattle.std.specs.String.{string_bytes}
use Rattle.std.proofs.lemmas.List.{length-map}
use Rattle.std.proofs.lemmas.Option.{slice_get-get_or, slice_get-map, slice_get_read}
use Rattle.protocol_values.specs.declared.Atom.{Atom}
use Rattle.script.specs.Scripts.{script_of}
use Rattle.thread.specs.declared.end.End.TheVariants.{Ended}
use Rattle.journal_text.specs.Names.{named}
use Rattle.outcomes.specs.Asking.{marked}
use Rattle.outcomes.specs.Outcomes.{ends_in, outputs_in}
use Rattle.pcml_answers.specs.Standings.{process_line, process_lines}
use Rattle.pcml_outcomes.specs.Told.{standings}
use Rattle.pcml_outcomes.proofs.Marking.{marked-from}
use Rattle.pcml_outcomes.proofs.shown.push_named.Goals.{then-marks-thread+in_ok-push_process, else-marks-thread}
use Rattle.pcml_outcomes.proofs.shown.push_named.Goals as goal

pub loop-thread-preserved : goal.loop-thread-preserved
loop-thread-preserved c =
    let names = named (script_of c.args.script.now) in
    let marks = c.args.marks.now in
    let o = c.args.outcome.now in
    let ends = ends_in o in
    let outputs = outputs_in o in
    let thread = c.loop-thread.thread in
    let items = λ (v : Vec Atom Global). v.items in
    let rest = process_lines names (marked (drop (thread + 1) marks) (drop (thread + 1) (standings ends outputs))) in
    let before = string_bytes c.loop-thread.out in
    let inside : thread < length ends = omega arith in
    let end = slice_get-get_or ends thread Ended inside in
    let within : thread < length o.outputs.items = omega (arith, c.requires.of.outputs, c.requires.of.ends, length-map o.outputs.items items) in
    let none = slice_get-get_or outputs thread [] (omega (arith, c.requires.of.outputs, c.requires.of.ends)) in
    let mark = slice_get-get_or marks thread false (omega (arith, c.requires.marks, c.requires.of.ends)) in
    elim c.if-marks-thread.branch [
      | then-marks-thread+in_ok-push_process w ↦
          let stands = w.index-then-marks-thread.result.now in
          let ends_so : slice_get ends thread ≡ Some stands = slice_get_read ends (length ends) thread stands refl inside w.index-then-marks-thread.ensures in
          let printed = w.as_slice-printed.result.now in
          let here = slice_get_read o.outputs.items (length o.outputs.items) thread w.index.result.now refl within w.index.ensures in
          let output : slice_get outputs thread ≡ Some printed = slice_get-map items o.outputs.items thread ∙ ap (option_map items) here ∙ ap Some (sym w.as_slice-printed.ensures.value) in
          let shown : slice_get marks thread ≡ Some true = mark ∙ ap Some w.if-marks-thread.true in
          let line = process_line names (record { thread = thread; end = stands; printed = printed }) in
          let from = marked-from names marks ends outputs thread true stands printed shown ends_so output in
          ap (λ (t : List ℕ). t ++ rest) (ap string_bytes w.out-is ∙ w.in_ok-push_process.ensures) ∙ append_assoc before line rest ∙ sym (ap (λ (t : List ℕ). before ++ t) from) ∙ c.loop-thread.invariant
      | else-marks-thread w ↦
          let hidden : slice_get marks thread ≡ Some false = mark ∙ ap Some w.if-marks-thread.false in
          let from = marked-from names marks ends outputs thread false (get_or ends thread Ended) (get_or outputs thread []) hidden end none in
          ap (λ (t : List ℕ). t ++ rest) (ap string_bytes w.out-is) ∙ sym (ap (λ (t : List ℕ). before ++ t) from) ∙ c.loop-thread.invariant
    ]
