use Rattle.std.proofs.Common.{arith, refl, subst}
use Rattle.script_tree.specs.Lined.{block_of}
use Rattle.thread_code.specs.Codes.{IsAt}
use Rattle.thread_code.proofs.Growing.{grows_by_place, linked_by_place, place_there}
use Rattle.thread_code.proofs.compiling.add_place.Goals as goal

pub returns-clause-grows : goal.returns-clause-grows
returns-clause-grows c = grows_by_place c.args.code.now _ c.args.place c.in_ok-push.ensures.items refl

pub returns-clause-linked : goal.returns-clause-linked
returns-clause-linked c = linked_by_place c.args.code.now _ c.args.place c.requires.linked c.requires.leads c.in_ok-push.ensures.items refl

pub returns-clause-there : goal.returns-clause-there
returns-clause-there c =
    subst (λ at. IsAt (record { places = c.push.new.self; plans = c.args.code.now.plans; start = c.args.code.now.start }) at (block_of c.args.place.block.value)) (omega (arith, c.in_ok-at.ensures, c.len.ensures, c.args.code.now.places.ok.0)) (place_there c.args.code.now (record { places = c.push.new.self; plans = c.args.code.now.plans; start = c.args.code.now.start }) c.args.place c.in_ok-push.ensures.items)
