use Rattle.std.proofs.Common.{sym, ◌∙◌, subst}
use Rattle.protocol_ledger.proofs.Acting.{start_is}
use Rattle.protocol_ledger.specs.Openings.{HadStarted, Opening}
use Rattle.protocol_ledger.specs.Ledgers.{course_in}
use Rattle.cell_table.specs.declared.view.Seen.{Seen}
use Rattle.cell_table.specs.Rule.{heard, told_of}
use Rattle.cell_table.specs.Sight.{SeesOffer, SeesNoOffer}
use Rattle.pcml_tool.specs.Meet.{first_row, send_of, receive_offer}
use Rattle.pcml_tool.proofs.MeetingLedger.{both_start}
use Rattle.pcml_tool.proofs.Parts.{sees_own, sees_no_more, still_opened}
use Rattle.pcml_tool.proofs.meeting.end.Goals as goal

pub returns : goal.returns
returns c value size sends receives =
    record {
      threads = c.close.ensures.size.0 ∙ size.0;
      rows = c.close.ensures.size.1 ∙ size.1;
      lawful = c.close.ensures.lawful;
      starts = λ t below. start_is (course_in c.close.result t) 0 (c.close.ensures.before t 0 (subst (λ (o : Opening). HadStarted o t 0) (sym size.2) (both_start t below)));
      sends = c.close.ensures.offers (first_row 0) 0 (send_of value)
          (subst (λ (s : Seen). SeesOffer s (first_row 0) 0 (send_of value)) (sym c.tell.ensures.told)
          (sees_own (heard c.args.sender.seen (told_of c.args.receiver.seen)) (first_row 0) (send_of value) (still_opened c.args.sender.seen (told_of c.args.receiver.seen) (first_row 0) sends.2) sends.3));
      sends_alone = λ n low. c.close.ensures.lacks (first_row 0) n
          (subst (λ (s : Seen). SeesNoOffer s (first_row 0) n) (sym c.tell.ensures.told)
          (sees_no_more (heard c.args.sender.seen (told_of c.args.receiver.seen)) (first_row 0) (send_of value) n (still_opened c.args.sender.seen (told_of c.args.receiver.seen) (first_row 0) sends.2) sends.3 low));
      receives = c.close.ensures.offers (first_row 1) 0 receive_offer (c.tell.ensures.offers (first_row 1) 0 receive_offer (sees_own c.args.receiver.seen (first_row 1) receive_offer receives.2 receives.3));
      receives_alone = λ n low. c.close.ensures.lacks (first_row 1) n (c.tell.ensures.lacks (first_row 1) n (sees_no_more c.args.receiver.seen (first_row 1) receive_offer n receives.2 receives.3 low));
    }
