use Rattle.std.proofs.Common.{Option, MatchOption, sym, ◌∙◌, subst}
use Rattle.protocol_values.specs.declared.Base.TheVariants.{Send, Recv}
use Rattle.protocol_values.specs.declared.Commit.{Commit}
use Rattle.journal_replay.specs.Searching.{NoneMayWith}
use Rattle.journal_replay.specs.Standing.{Finds, MayBe}
use Rattle.journal_replay.proofs.Covering.{may-pair, none-with-recv, none-with-send}
use Rattle.journal_replay.proofs.open_offers.OpenOffers.commit_with.Goals as goal

pub returns-in_err-receiver-in-Send-clause-found : goal.returns-in_err-receiver-in-Send-clause-found
returns-in_err-receiver-in-Send-clause-found c =
    let s = c.args.threads.now in
    let finds : Finds s.strands.items s.rows c.args.at (Send c.in-Send.chan c.in-Send.msg) =
    record { offer = c.in_ok-chan.field-0; is = sym c.offer.ensures ∙ c.in_ok-chan.was; base = c.in-Send.is } in
    subst (λ (o : Option Commit). MatchOption o (NoneMayWith s.strands.items s.rows c.args.at) (MayBe s.strands.items s.rows)) (sym c.from_residual-in_err-receiver-in-Send.ensures)
    (none-with-send s.strands.items s.rows c.args.at c.in-Send.chan c.in-Send.msg finds c.in_err-receiver-in-Send.ensures.found)

pub returns-in_err-sender-in-Recv-clause-found : goal.returns-in_err-sender-in-Recv-clause-found
returns-in_err-sender-in-Recv-clause-found c =
    let s = c.args.threads.now in
    let finds : Finds s.strands.items s.rows c.args.at (Recv c.in-Recv.chan) =
    record { offer = c.in_ok-chan.field-0; is = sym c.offer.ensures ∙ c.in_ok-chan.was; base = c.in-Recv.is } in
    subst (λ (o : Option Commit). MatchOption o (NoneMayWith s.strands.items s.rows c.args.at) (MayBe s.strands.items s.rows)) (sym c.from_residual-in_err-sender-in-Recv.ensures)
    (none-with-recv s.strands.items s.rows c.args.at c.in-Recv.chan finds c.in_err-sender-in-Recv.ensures.found)

pub returns-in_ok-receiver-in-Send-clause-found : goal.returns-in_ok-receiver-in-Send-clause-found
returns-in_ok-receiver-in-Send-clause-found c =
    let s = c.args.threads.now in
    let finds : Finds s.strands.items s.rows c.args.at (Send c.in-Send.chan c.in-Send.msg) =
    record { offer = c.in_ok-chan.field-0; is = sym c.offer.ensures ∙ c.in_ok-chan.was; base = c.in-Send.is } in
    let found = c.in_ok-receiver-in-Send.ensures.found in
    subst (MayBe s.strands.items s.rows) (sym c.pair.ensures)
    (may-pair s.strands.items s.rows c.args.at c.in_ok-receiver-in-Send.receiver c.in-Send.chan c.in-Send.msg finds found.0 (λ e. found.1 (sym e)))

pub returns-in_ok-sender-in-Recv-clause-found : goal.returns-in_ok-sender-in-Recv-clause-found
returns-in_ok-sender-in-Recv-clause-found c =
    let s = c.args.threads.now in
    let finds : Finds s.strands.items s.rows c.args.at (Recv c.in-Recv.chan) =
    record { offer = c.in_ok-chan.field-0; is = sym c.offer.ensures ∙ c.in_ok-chan.was; base = c.in-Recv.is } in
    let found = c.in_ok-sender-in-Recv.ensures.found in
    subst (MayBe s.strands.items s.rows) (sym c.pair-in-Recv.ensures)
    (may-pair s.strands.items s.rows c.in_ok-sender-in-Recv.sender c.args.at c.in-Recv.chan c.in_ok-sender-in-Recv.msg found.0 finds found.1)
