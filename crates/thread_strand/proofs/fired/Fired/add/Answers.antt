use Rattle.std.proofs.Common.{None, Some, get_or, ap, ◌∙◌, arith, get_or-set_same, get_or-set_other}
use Rattle.thread_strand.specs.Fired.{places_of}
use Rattle.thread_strand.proofs.Noting.{noted-last, places-length}
use Rattle.thread_strand.proofs.fired.Fired.add.Goals as goal

pub returns-clause-here : goal.returns-clause-here
returns-clause-here c =
    let places = places_of c.self.inside.list.items in
    let size = places-length c.self.inside.list.items in
    ap (λ list. get_or (places_of list) c.args.nack None) c.in_ok-push.ensures.items
    ∙ ap (λ list. get_or list c.args.nack None) (noted-last _ c.self.inside.list.items (c.args.nack, c.args.stamp))
    ∙ get_or-set_same places c.args.nack (Some c.args.stamp) None (omega (arith, size, c.ranges.nack.fits))

pub returns-clause-others : goal.returns-clause-others
returns-clause-others c = λ k ne.
    ap (λ list. get_or (places_of list) k None) c.in_ok-push.ensures.items
    ∙ ap (λ list. get_or list k None) (noted-last _ c.self.inside.list.items (c.args.nack, c.args.stamp))
    ∙ get_or-set_other (places_of c.self.inside.list.items) c.args.nack k (Some c.args.stamp) None ne
    ∙ ap (λ list. get_or list k None) c.self.view_is
