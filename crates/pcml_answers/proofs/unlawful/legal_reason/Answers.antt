use Rattle.std.proofs.Common.{◌≡◌, ℕ, ◌<◌, List, Option, None, Some, refl, sym, ap, ◌∙◌, subst, inl, inr}
use Rattle.protocol_values.specs.declared.Base.TheVariants.{Send, OnNack, OnEnd}
use Rattle.protocol_values.specs.declared.Cause.{Cause}
use Rattle.protocol_values.specs.declared.Cause.TheVariants.{Nack}
use Rattle.protocol_values.specs.declared.Commit.{Commit}
use Rattle.protocol_values.specs.declared.Commit.TheVariants.{Alone}
use Rattle.protocol_values.specs.declared.NackName.{NackName}
use Rattle.protocol_values.specs.declared.Row.{Row}
use Rattle.journal_replay.specs.Starting.{HasThread}
use Rattle.journal_replay.specs.declared.state.State.{State}
use Rattle.pcml_answers.specs.Reasons.{Needs}
use Rattle.pcml_answers.specs.Telling.{TellsLegal, TellsNack, TellsRow}
use Rattle.pcml_answers.specs.declared.reason.Reason.{Reason}
use Rattle.pcml_answers.proofs.unlawful.legal_reason.Goals as goal

within : (c d : Commit) (n t : ℕ) → ((u : ℕ) → HasThread c u → u < n) → c ≡ d → HasThread d t → t < n
within c d n t all is has = all t (subst (λ (x : Commit). HasThread x t) (sym is) has)

-- what is found of the row and of the nack, as what is found of the commit
nack-told : (s : State) (earlier : List Commit) (at : Row × ℕ) (n : NackName) (stamp : ℕ) (found : Option Reason) → TellsRow s earlier at (OnNack n) None → TellsNack s n found → TellsLegal s earlier (Alone at (Nack n) stamp) found
nack-told s earlier at n stamp None row nack = λ ps rows stands. (row ps rows stands, nack ps rows earlier stands)
nack-told s earlier at n stamp (Some reason) row nack = λ ps rows stands. nack ps rows earlier (Alone at (Nack n) stamp) stands refl

pub row_reason-requires : goal.row_reason-requires
row_reason-requires c = within c.args.commit.now _ _ c.in-Pair.sender.0.thread c.requires c.in-Pair.is (inl refl)

pub row_reason-requires-in-Pair : goal.row_reason-requires-in-Pair
row_reason-requires-in-Pair c = within c.args.commit.now _ _ c.in-Pair.receiver.0.thread c.requires c.in-Pair.is (inr refl)

pub row_reason-requires-in-Always : goal.row_reason-requires-in-Always
row_reason-requires-in-Always c = within c.args.commit.now _ _ c.in-Alone.at.0.thread c.requires c.in-Alone.is refl

pub row_reason-requires-in-Nack : goal.row_reason-requires-in-Nack
row_reason-requires-in-Nack c = within c.args.commit.now _ _ c.in-Alone.at.0.thread c.requires c.in-Alone.is refl

pub row_reason-requires-in-End : goal.row_reason-requires-in-End
row_reason-requires-in-End c = within c.args.commit.now _ _ c.in-Alone.at.0.thread c.requires c.in-Alone.is refl

pub returns-in-Some : goal.returns-in-Some
returns-in-Some c =
    let needs : Needs c.args.commit.now c.in-Pair.sender (Send c.in-Pair.chan c.in-Pair.msg) =
    subst (λ (x : Commit). Needs x c.in-Pair.sender (Send c.in-Pair.chan c.in-Pair.msg)) (sym c.in-Pair.is) (inl (refl, refl)) in
    λ ps rows stands. c.in-Some.ensures ps rows c.args.commit.now stands needs

pub returns-in-Some-row_reason : goal.returns-in-Some-row_reason
returns-in-Some-row_reason c =
    let is = c.in-Alone.is ∙ ap (λ (why : Cause). Alone c.in-Alone.at why c.in-Alone.stamp) c.in-Nack.is in
    let needs : Needs c.args.commit.now c.in-Alone.at (OnNack c.in-Nack.nack) =
    subst (λ (x : Commit). Needs x c.in-Alone.at (OnNack c.in-Nack.nack)) (sym is) (refl, refl) in
    λ ps rows stands. c.in-Some-row_reason.ensures ps rows c.args.commit.now stands needs

pub returns-in-Some-row_reason-2 : goal.returns-in-Some-row_reason-2
returns-in-Some-row_reason-2 c =
    let is = c.in-Alone.is ∙ ap (λ (why : Cause). Alone c.in-Alone.at why c.in-Alone.stamp) c.in-End.is in
    let needs : Needs c.args.commit.now c.in-Alone.at (OnEnd c.in-End.thread) =
    subst (λ (x : Commit). Needs x c.in-Alone.at (OnEnd c.in-End.thread)) (sym is) (refl, refl) in
    λ ps rows stands. c.in-Some-row_reason-2.ensures ps rows c.args.commit.now stands needs

pub returns-in-None : goal.returns-in-None
returns-in-None c =
    let is = c.in-Alone.is ∙ ap (λ (why : Cause). Alone c.in-Alone.at why c.in-Alone.stamp) c.in-Nack.is in
    subst (λ (x : Commit). TellsLegal c.args.state.now c.args.earlier.now x c.nack_reason.result) (sym is)
    (nack-told c.args.state.now c.args.earlier.now c.in-Alone.at c.in-Nack.nack c.in-Alone.stamp c.nack_reason.result c.in-None.ensures c.nack_reason.ensures)
