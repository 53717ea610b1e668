-- What is found of a row, of a cause and of a commit where a state stands.
use Rattle.std.specs.Prelude.{◌≡◌, ◌≢◌, ℕ, ◌≤◌, List, length, Option, None, Some, slice_get}
use Rattle.script_tree.specs.Processes.{Proc}
use Rattle.protocol_values.specs.declared.Base.{Base}
use Rattle.protocol_values.specs.declared.Cause.TheVariants as cause
use Rattle.protocol_values.specs.declared.Commit.{Commit}
use Rattle.protocol_values.specs.declared.NackName.{NackName}
use Rattle.protocol_values.specs.declared.Offer.{Offer}
use Rattle.protocol_values.specs.declared.Row.{Row}
use Rattle.journal_replay.specs.Replays.{IsEnded, StandsAfter}
use Rattle.journal_replay.specs.Runs.{IsFiredAt, IsLegal, MayTake, config_of}
use Rattle.thread.specs.declared.end.End.{End}
use Rattle.thread.specs.declared.end.End.TheVariants as end
use Rattle.journal_replay.specs.declared.state.State.{State}
use Rattle.pcml_answers.specs.Reasons.{IsReason, Needs, StandsFor}
use Rattle.pcml_answers.specs.declared.reason.Reason.{Reason}
use Rattle.pcml_answers.specs.declared.reason.Reason.TheVariants.{Unstarted, Ended, Faulted, Spent, NoOffer, OtherOffer}

-- the reason for which a thread that stands so makes no sync
abbrev pub stopped_reason : ℕ → End → Option Reason
stopped_reason t end.Waiting = None
stopped_reason t end.Unstarted = Some (Unstarted t)
stopped_reason t end.Ended = Some (Ended t)
stopped_reason t (end.Faulted fault) = Some (Faulted t)
stopped_reason t end.Spent = Some (Spent t)

-- one of the offers is this, by its number, or else a reason
abbrev pub TellsOffers : List Offer → Row × ℕ → Base → Option Reason → Type 0
TellsOffers os at b None = (o : Offer) × (slice_get os at.1 ≡ Some o) × (o.base ≡ b)
TellsOffers os at b (Some (NoOffer place count)) = (place ≡ at) × (count ≡ length os) × (length os ≤ at.1)
TellsOffers os at b (Some (OtherOffer place offered needed)) =
    (place ≡ at) × (needed ≡ b) × ((o : Offer) × (slice_get os at.1 ≡ Some o) × (o.base ≡ offered)) × (offered ≢ b)
TellsOffers os at b (Some other) = ⊥

-- where the state stands the row can take this, or else there is a reason for each commit that needs it
abbrev pub TellsRow : State → List Commit → Row × ℕ → Base → Option Reason → Type 0
TellsRow s earlier at b None = (ps : List Proc) (rows : ℕ) → StandsAfter ps rows earlier s → MayTake ps rows (config_of earlier) at b
TellsRow s earlier at b (Some reason) =
    (ps : List Proc) (rows : ℕ) (c : Commit) → StandsAfter ps rows earlier s → Needs c at b → IsReason ps rows earlier c reason

-- the nack is fired, or else there is a reason for each commit that stands for it
abbrev pub TellsNack : State → NackName → Option Reason → Type 0
TellsNack s n None = (ps : List Proc) (rows : ℕ) (earlier : List Commit) → StandsAfter ps rows earlier s → (g : ℕ) × IsFiredAt ps (config_of earlier) n g
TellsNack s n (Some reason) =
    (ps : List Proc) (rows : ℕ) (earlier : List Commit) (c : Commit) → StandsAfter ps rows earlier s → StandsFor c (cause.Nack n) → IsReason ps rows earlier c reason

-- the thread has ended, or else there is a reason for each commit that stands for its end
abbrev pub TellsEnd : State → ℕ → Option Reason → Type 0
TellsEnd s t None = (ps : List Proc) (rows : ℕ) (earlier : List Commit) → StandsAfter ps rows earlier s → IsEnded ps (config_of earlier) t
TellsEnd s t (Some reason) =
    (ps : List Proc) (rows : ℕ) (earlier : List Commit) (c : Commit) → StandsAfter ps rows earlier s → StandsFor c (cause.End t) → IsReason ps rows earlier c reason

-- the commit may come next but for its stamp, or else there is a reason
abbrev pub TellsLegal : State → List Commit → Commit → Option Reason → Type 0
TellsLegal s earlier c None = (ps : List Proc) (rows : ℕ) → StandsAfter ps rows earlier s → IsLegal ps rows (config_of earlier) c
TellsLegal s earlier c (Some reason) = (ps : List Proc) (rows : ℕ) → StandsAfter ps rows earlier s → IsReason ps rows earlier c reason
