use Rattle.std.proofs.Common.{◌≡◌, ℕ, ◌∷◌, [], ◌++◌, List, Option, ap, append_assoc, length, refl, subst, sym, ◌∙◌, arith}
use Rattle.std.proofs.lemmas.List.{length-append}
use Rattle.thread.specs.Machines.{Thread}
use Rattle.thread_strand.specs.declared.strand.Known.{Known}
use Rattle.journal.specs.Concluding.{EachKnownBy, KnownBy, fired_in, last_in}
use Rattle.journal.proofs.Telling.{known-more}
use Rattle.journal.proofs.concluding.known_by.Goals as goal

pub loop-machine-preserved : goal.loop-machine-preserved
loop-machine-preserved c =
    let i = c.loop-machine.invariant in
    let threads = c.args.opening.now.threads.items in
    let states = c.args.opening.now.nacks.items in
    let yielded = c.loop-machine.yielded in
    let known = c.loop-machine.known.items in
    let machine = c.in-Some.machine in
    let rest = c.loop-machine.machine-iterator.rest.items in
    let left = c.next.new.self.rest.items in
    let count : c.len-thread.result ≡ length known = omega (arith, c.len-thread.ensures, c.loop-machine.known.ok) in
    let k : Known = record { machine = machine; last = c.last_in.result; fired = c.in_ok-fired_in.field-0 } in
    let is : KnownBy threads states (length known) machine k = record {
      machine = refl;
      last = c.last_in.ensures ∙ ap (last_in threads) count;
      fired = λ n. c.in_ok-fired_in.ensures n ∙ ap (λ (t : ℕ). fired_in states t n) count;
    } in
    record {
      whole = i.whole ∙ ap (λ (xs : List (Option Thread)). yielded ++ xs) c.in-Some.ensures.steps.0 ∙ sym (append_assoc yielded (machine ∷ []) left);
      known = subst (λ (xs : List Known). EachKnownBy threads states (yielded ++ machine ∷ []) xs) (sym c.in_ok-push.ensures.items) (known-more threads states yielded known machine k i.known is);
    }

pub fired_in-requires : goal.fired_in-requires
fired_in-requires c =
    let i = c.loop-machine.invariant in
    let size = length-append c.loop-machine.yielded c.loop-machine.machine-iterator.rest.items in
    omega (arith, c.len-thread.ensures, c.loop-machine.known.ok, i.known.0, ap (λ (xs : List (Option Thread)). length xs) i.whole, size, ap (λ (xs : List (Option Thread)). length xs) c.in-Some.ensures.steps.0, c.requires)
