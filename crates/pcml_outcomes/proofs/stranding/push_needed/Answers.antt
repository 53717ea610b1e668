use Rattle.std.proofs.Common.{◌≡◌, Some, ap, sym, ◌∙◌}
use Rattle.std.specs.Option.{option_copied}
use Rattle.pcml_outcomes.specs.Stranding.{soonest}
use Rattle.pcml_outcomes.proofs.Endings.{soonest-there}
use Rattle.pcml_outcomes.proofs.stranding.push_needed.Goals as goal

pub push_name-requires : goal.push_name-requires
push_name-requires c =
    let all = c.args.all.now.stranded.items in
    let one = c.in-Some.one.now in
    let is : soonest c.args.is_alone all ≡ Some one = ap (soonest c.args.is_alone) (sym c.deref.ensures.value) ∙ sym c.soonest.ensures ∙ ap option_copied c.in-Some.is in
    let w = soonest-there c.args.is_alone all one is in
    c.requires w.0 one w.1
