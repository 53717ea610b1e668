use Rattle.std.proofs.Common.{ap, ◌∙◌}
use Rattle.pcml_tool.specs.Meet.{send_of}
use Rattle.journal_text.specs.Names.{numbers}
use Rattle.journal_text.specs.Texts.{commits_text}
use Rattle.pcml_tool.proofs.MeetingLedger.{prints_meeting}
use Rattle.pcml_tool.proofs.meeting.meet_text.Goals as goal

pub end-ledger-requires : goal.end-ledger-requires
end-ledger-requires g c = record { here = ((c.try_again.ensures (send_of c.args.value) c.in_ok-sender.ensures.0).0, c.in_ok-sender.ensures.1.0) }

pub returns : goal.returns
returns g c =
    prints_meeting c.args.value c.end-ledger.result c.in_ok-commits.commits.items c.in_ok-write_numbered.field-0.items
    (c.end-ledger.ensures c.args.value c.in_ok-cells.ensures.size (c.try_again.ensures (send_of c.args.value) c.in_ok-sender.ensures.0) c.in_ok-sender.ensures.1)
    c.in_ok-commits.ensures.once
    (c.in_ok-write_numbered.ensures ∙ ap (commits_text numbers) c.as_slice.ensures.value)
