-- On which sides of which channels nobody ever offers, as it was found.
use Rattle.std.specs.Prelude.{◌≡◌, ◌==◌, ◌&&◌, ℕ, Bool, List, Contains, Option, Some, None}
use Rattle.std.specs.List.{list_any}
use Rattle.script_tree.specs.Processes.{Proc}
use Rattle.configurations.specs.Serving.{nobody_serves}
use Rattle.protocol_values.specs.declared.Base.{Base}
use Rattle.protocol_values.specs.declared.Base.TheVariants.{Send, Recv, Always, OnNack, OnEnd, Never}
use Rattle.protocol_values.specs.declared.Side.{Side}
use Rattle.protocol_values.specs.declared.Side.TheVariants.{Sends, Receives}
use Rattle.pcml_why_sites.specs.Offering.{offers_on}
use Rattle.pcml_why_sites.specs.Writing.{same_side}
use Rattle.pcml_why_sites.specs.declared.site.Site.{Site}
use Rattle.pcml_why.specs.declared.served.Answer.{Answer}

-- the side of the channel on which an offer would be met
abbrev pub partner_of : Base → Option (Side × ℕ)
partner_of (Send c m) = Some (Receives, c)
partner_of (Recv c) = Some (Sends, c)
partner_of (Always m) = None
partner_of (OnNack n) = None
partner_of (OnEnd t) = None
partner_of Never = None

-- some process waits with an offer there
abbrev pub is_offered : Side → ℕ → List Site → Bool
is_offered side chan sites = list_any (offers_on side chan) sites

abbrev pub is_for : Side → ℕ → Answer → Bool
is_for side chan a = same_side a.side side && (a.chan == chan)

-- each answer is what the texts give
abbrev pub AreAnswers : List Proc → List Answer → Type 0
AreAnswers ps answers = (a : Answer) → Contains answers a → a.is_by_nobody ≡ nobody_serves ps a.side a.chan
