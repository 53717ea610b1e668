use Rattle.std.proofs.Common.{◌≡◌, Some, true, subst, sym, slice_get}
use Rattle.channels.specs.Buffers.{Buffer, is_missed}
use Rattle.channels.proofs.Buffering.{reached-when-told}
use Rattle.channels.proofs.buffered.Buffered.tell.Goals as goal

pub returns-clause-served : goal.returns-clause-served
returns-clause-served c =
    let told = c.tell.ensures in
    let found = c.in_ok-index.ensures.some in
    let b : Buffer = record { lines = c.self.inside.lines; held = c.self.inside.held; pulls = c.self.inside.pulls } in
    let pull = found.1.0 in
    let at = subst (λ (s : Buffer). slice_get s.pulls c.in_ok-index.index ≡ Some pull) (sym c.self.view_is) found.1.1 in
    let missed = subst (λ (s : Buffer). is_missed s pull ≡ true) (sym c.self.view_is) found.1.2 in
    λ some. reached-when-told b c.in_ok-index.index told.0 pull c.tell.result c.tell.new.self told.1 at missed told.2 told.3
