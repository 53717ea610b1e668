use contract.Lifetimes.{Lfts}
use denote.Param.Send.{IsSend, sendable, param_send}
use Rattle.std.proofs.Crossing.{crosses}
use Rattle.std.proofs.Common.{rules, ◌≡◌, sym, ap, ◌∙◌, subst}
use Rattle.protocol_values.specs.declared.Offer.{Offer}
use Rattle.protocol_values.specs.declared.Row.{Row}
use Rattle.cell.specs.Calls.{Grid, PassView}
use Rattle.pcml_tool.specs.declared.meeting.TookPart.{TookPart}
use Rattle.pcml_tool.specs.Meet.{first_row, HasTakenPart}
use Rattle.pcml_tool.proofs.Crossing.{bare_cells_sync, bare_pass_send}
use Rattle.pcml_tool.proofs.meeting.fn.both_take_part.scope.Given.{Over}
use Rattle.pcml_tool.proofs.meeting.fn.both_take_part.scope.Lts as lts
use Rattle.pcml_tool.proofs.meeting.fn.both_take_part.scope.Goals as goal

-- the closures of the two threads may be sent
send_sending : (g : Over) (κs : Lfts 6) → IsSend (lts.arg-0-2 g.row.R g.R.laws g.R.Threads-dict g.R.Wait-dict κs)
send_sending g κs = search (sendable, crosses, bare_cells_sync, bare_pass_send) depth 40 fits 5000

send_receiving : (g : Over) (κs : Lfts 6) → IsSend (lts.arg-5-2 g.row.R g.R.laws g.R.Threads-dict g.R.Wait-dict κs)
send_receiving g κs = search (sendable, crosses, bare_cells_sync, bare_pass_send) depth 40 fits 5000

pub spawn_with-sending-requires-send-F : goal.spawn_with-sending-requires-send-F
spawn_with-sending-requires-send-F g c κs = param_send 2 (lts.arg-0-2 g.row.R g.R.laws g.R.Threads-dict g.R.Wait-dict κs) (send_sending g κs)

pub spawn_with-receiving-requires-send-F : goal.spawn_with-receiving-requires-send-F
spawn_with-receiving-requires-send-F g c κs = param_send 2 (lts.arg-5-2 g.row.R g.R.laws g.R.Threads-dict g.R.Wait-dict κs) (send_receiving g κs)

-- what is promised of a pass, and what is known of the promise
kept : (promise side : TookPart) (cells : Grid) (row : Row) (offer : Offer) (pass : PassView) → promise ≡ side → (side.cells.value ≡ cells) × (side.row ≡ row) × (side.offer ≡ offer)
    → HasTakenPart promise.cells.value pass promise.row promise.offer → HasTakenPart cells pass row offer
kept promise side cells row offer pass same is h =
    subst (λ (z : Grid × Row × Offer). HasTakenPart z.0 pass z.1 z.2)
    (λ i. ((ap (λ (s : TookPart). s.cells.value) same ∙ is.0) i, (ap (λ (s : TookPart). s.row) same ∙ is.1) i, (ap (λ (s : TookPart). s.offer) same ∙ is.2) i)) h

pub spawn_with-sending-requires-clause-keeps : goal.spawn_with-sending-requires-clause-keeps
spawn_with-sending-requires-clause-keeps g c κs r h =
    let is = c.requires.sends in
    subst (λ (z : Grid × Row × Offer). HasTakenPart z.0 r z.1 z.2) (λ i. (sym is.0 i, sym is.1 i, sym is.2 i)) h

pub spawn_with-receiving-requires-clause-keeps : goal.spawn_with-receiving-requires-clause-keeps
spawn_with-receiving-requires-clause-keeps g c κs r h =
    let is = c.requires.receives in
    subst (λ (z : Grid × Row × Offer). HasTakenPart z.0 r z.1 z.2) (λ i. (sym is.0 i, sym is.1 i, sym is.2 i)) h

pub returns : goal.returns
returns g c = (
  kept c.in-Ok.sending.promise c.captures.sends c.captures.cells.now (first_row 0) c.captures.send c.join.result (search rules) c.requires.sends c.join.ensures,
  kept c.in-Ok-receiving.receiving.promise c.captures.receives c.captures.cells.now (first_row 1) c.captures.receive c.join-2.result (search rules) c.requires.receives c.join-2.ensures,
)
