use Rattle.std.proofs.Common.{◌∙◌, arith}
use Rattle.std.proofs.lemmas.List.{get_or_read}
use Rattle.pcml_chart_layout.proofs.Lining.{line_there, lines_within}
use Rattle.pcml_chart_layout.proofs.lines.Lines.at.Goals as goal

pub index-requires : goal.index-requires
index-requires c =
    let self = c.args.self.now in
    let there = lines_within self.gaps.items self.lines.items c.args.place c.min.result self.summed (omega arith) in
    omega arith

pub returns-clause-value : goal.returns-clause-value
returns-clause-value c =
    let self = c.args.self.now in
    let there = lines_within self.gaps.items self.lines.items c.args.place c.min.result self.summed (omega arith) in
    c.from.ensures
    ∙ get_or_read self.lines.items c.min.result _ (omega arith) c.index.ensures 0
    ∙ line_there self.gaps.items self.lines.items c.args.place c.min.result self.summed (omega arith)
