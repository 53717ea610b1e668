use Rattle.std.proofs.Common.{◌+◌, None, drop, get_or, refl, sym, ap, ◌∙◌}
use Rattle.thread_strand.specs.Fired.{places_of}
use Rattle.thread_strand.proofs.Noting.{found_in, found-all, found-here, found-past}
use Rattle.thread_strand.proofs.fired.Fired.get.Goals as goal
use Rattle.thread_strand.proofs.fired.Fired.get.Goals.{then-noted-nack, else-noted-nack}

pub loop-noted-init : goal.loop-noted-init
loop-noted-init c = refl

pub loop-noted-preserved : goal.loop-noted-preserved
loop-noted-preserved c =
    let list = c.deref-noted-items.result.now in
    let i = c.loop-noted.noted-index in
    elim c.if-noted-nack.branch [
      | then-noted-nack w ↦
          ap (λ found. found_in c.args.nack found (drop (i + 1) list)) w.found-is
          ∙ sym (found-here c.args.nack c.loop-noted.found list i (0, 0) c.loop-noted-test.true w.if-noted-nack.true) ∙ c.loop-noted.invariant
      | else-noted-nack w ↦
          ap (λ found. found_in c.args.nack found (drop (i + 1) list)) w.found-is
          ∙ sym (found-past c.args.nack c.loop-noted.found list i (0, 0) c.loop-noted-test.true w.if-noted-nack.false) ∙ c.loop-noted.invariant
    ]

pub returns : goal.returns
returns c =
    found-all c.args.nack c.loop-noted.found c.deref-noted-items.result.now c.loop-noted.noted-index c.loop-noted-test.false c.loop-noted.invariant c.ranges.nack.fits
    ∙ ap (λ list. get_or (places_of list) c.args.nack None) c.deref-noted-items.ensures.value
    ∙ ap (λ places. get_or places c.args.nack None) c.self.view_is
