-- Who waits for whom among those that wait for one another, at which lines.
use Rattle.std.specs.Prelude.{ℕ, if◌then◌else◌, List, [], ◌∷◌, ◌++◌, Option, Some, None, codes, get_or, slice_get}
use Rattle.std.specs.Fmt.{decimal}
use Rattle.std.specs.List.{flat_map}
use Rattle.journal_text.specs.Names.{Naming}
use Rattle.protocol_values.specs.declared.Base.{Base}
use Rattle.protocol_values.specs.declared.Base.TheVariants.{Send, Recv, Always, OnNack, OnEnd, Never}
use Rattle.protocol_values.specs.declared.Offer.{Offer}
use Rattle.protocol_values.specs.declared.Side.{Side}
use Rattle.protocol_values.specs.declared.Side.TheVariants.{Sends, Receives}
use Rattle.pcml_why_sites.specs.Knots.{could_serve, offers_at, waits_for}
use Rattle.pcml_why_sites.specs.Writing.{Written, is_on}
use Rattle.pcml_why_sites.specs.declared.site.Site.{Site}

-- the line of the first offer that is written on this side of a channel; 0 where there is none
abbrev pub line_offering : Side → List ℕ → List Written → ℕ
line_offering side name [] = 0
line_offering side name (w ∷ ws) = if is_on side name w then w.line else line_offering side name ws

-- the line at which the process stands
abbrev pub line_in : Option Site → ℕ
line_in None = 0
line_in (Some s) = s.line

unfoldable pub at_line : ℕ → List ℕ
at_line line = codes " at line " ++ decimal line

-- with what process b could serve an offer, and at which line of its text: with an offer of the other side, at the first place
-- where it has one; with its sync that is open, or with its end, where it stands
abbrev pub service_text : Naming → List (List Written) → List Site → ℕ → Base → List ℕ
service_text names texts sites b (Send c m) = codes "recv " ++ names.channel c ++ at_line (line_offering Receives (names.channel c) (get_or texts b []))
service_text names texts sites b (Recv c) = codes "send " ++ names.channel c ++ at_line (line_offering Sends (names.channel c) (get_or texts b []))
service_text names texts sites b (OnNack n) = codes "its sync" ++ at_line (line_in (slice_get sites b))
service_text names texts sites b (OnEnd t) = codes "its end, it waits" ++ at_line (line_in (slice_get sites b))
service_text names texts sites b (Always m) = []
service_text names texts sites b Never = []

-- that of the first of these offers that process b could serve
abbrev pub first_service : Naming → List (List Written) → List Site → ℕ → List Offer → List ℕ
first_service names texts sites b [] = []
first_service names texts sites b (o ∷ os) =
    if could_serve names texts sites b o.base then service_text names texts sites b o.base else first_service names texts sites b os

-- process a waits for process b: the lines of both
abbrev pub edge_text : Naming → List (List Written) → List Site → ℕ → ℕ → List ℕ
edge_text names texts sites a b =
    codes "  " ++ names.thread a ++ at_line (line_in (slice_get sites a)) ++ codes " for " ++ names.thread b ++ codes ": "
    ++ first_service names texts sites b (offers_at (slice_get sites a)) ++ 10 ∷ []

abbrev pub edge_if : Naming → List (List Written) → List Site → ℕ → ℕ → List ℕ
edge_if names texts sites a b = if waits_for names texts sites a b then edge_text names texts sites a b else []

abbrev pub edges_of : Naming → List (List Written) → List Site → List ℕ → ℕ → List ℕ
edges_of names texts sites knot a = flat_map (edge_if names texts sites a) knot

-- a line for each two members of which the one waits for the other
abbrev pub edges_text : Naming → List (List Written) → List Site → List ℕ → List ℕ
edges_text names texts sites knot = flat_map (edges_of names texts sites knot) knot
