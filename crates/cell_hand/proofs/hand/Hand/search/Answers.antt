use Rattle.std.proofs.Common.{rules}
use Rattle.cell_hand.proofs.Looking.{searches}
use Rattle.cell_hand.proofs.hand.Hand.search.Goals as goal

pub returns : goal.returns
returns c =
    searches c.args.self.now c.test_opened.new.self c.search_opened.new.self c.args.row c.args.first c.args.alone c.search_opened.result c.test_opened.ensures.looked (search rules) c.search_opened.ensures
