use Rattle.std.proofs.Common.{Bool, ap, subst, sym, ◌∙◌}
use Rattle.journal_replay.specs.Gathering.{GivesOne}
use Rattle.journal_replay.proofs.Gathered.{open-still}
use Rattle.journal_replay.proofs.threads.Threads.give.Goals as goal

pub give_row-requires-then-branch : goal.give_row-requires-then-branch
give_row-requires-then-branch c =
    let first = c.gives.result.0 in
    let second = c.in_default-Some.receiver in
    let old = c.args.self.now.strands.items in
    let middle = c.give_row.new.self.strands.items in
    open-still c.args.commit.now first second old middle (sym c.gives.ensures ∙ ap (λ o. (first, o)) c.in_default-Some.is-1) c.requires
    (subst (λ (b : Bool). GivesOne first old middle b) c.if-branch.true c.in_ok-give_row-in_default-Some.ensures.gives)
