use Rattle.std.proofs.Common.{◌≡◌, ◌-◌, Option, Some, MatchOption, length, slice_get, refl, sym, ap, ◌∙◌, subst}
use Rattle.protocol_values.specs.declared.Commit.{Commit}
use Rattle.journal_replay.specs.Searching.{NoneMayWith, Places}
use Rattle.journal_replay.specs.Standing.{MayBe}
use Rattle.journal_replay.proofs.Covering.{covers-brought, covers-tried, finds-left}
use Rattle.journal_replay.proofs.open_offers.OpenOffers.find.Goals as goal

pub loop-at-preserved : goal.loop-at-preserved
loop-at-preserved c =
    let s = c.args.threads.now in
    let tried = c.commit_with.new.self in
    let none : NoneMayWith s.strands.items s.rows c.in-Some.at =
    subst (λ (o : Option Commit). MatchOption o (NoneMayWith s.strands.items s.rows c.in-Some.at) (MayBe s.strands.items s.rows)) c.in_default-commit_with.is c.commit_with.ensures.found in
    let last : slice_get tried.untried (length tried.untried - 1) ≡ Some c.in-Some.at =
    ap (λ (xs : Places). slice_get xs (length xs - 1)) c.commit_with.ensures.untried ∙ sym c.last.ensures ∙ c.in-Some.is in
    covers-tried s.strands.items s.rows tried _ c.in-Some.at c.commit_with.ensures.covers last none refl refl refl c.remove_last.ensures

pub returns-clause-covers : goal.returns-clause-covers
returns-clause-covers c =
    let s = c.args.threads.now in
    covers-brought s.strands.items s.rows c.loop-at.self _ c.loop-at.invariant refl c.by_cause.ensures.kept refl refl

pub returns-clause-found : goal.returns-clause-found
returns-clause-found c =
    let s = c.args.threads.now in
    finds-left s.strands.items s.rows c.loop-at.self c.by_cause.result c.loop-at.invariant (sym c.last.ensures ∙ c.in_default.is) c.by_cause.ensures.found
