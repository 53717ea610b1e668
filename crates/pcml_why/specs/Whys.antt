-- Where each process stands, and with whom it could go on: what is told of a run.
use Rattle.std.specs.Prelude.{◌≡◌, ◌==◌, ℕ, zero, suc, Bool, true, false, if◌then◌else◌, List, [], ◌∷◌, ◌++◌, length, codes, Option, Some, None, slice_get}
use Rattle.std.specs.Fmt.{decimal}
use Rattle.std.specs.List.{flat_map}
use Rattle.pcml_why_sites.specs.declared.stand.Stand.{Stand}
use Rattle.script_tree.specs.Processes.{Proc}
use Rattle.configurations.specs.Serving.{nobody_serves}
use Rattle.protocol_values.specs.declared.Base.{Base}
use Rattle.protocol_values.specs.declared.Base.TheVariants.{Send, Recv, Always, OnNack, OnEnd, Never}
use Rattle.protocol_values.specs.declared.Commit.{Commit}
use Rattle.protocol_values.specs.declared.NackName.{NackName}
use Rattle.protocol_values.specs.declared.Offer.{Offer}
use Rattle.script.specs.Sources.{Script}
use Rattle.journal_text.specs.Names.{Naming, named}
use Rattle.journal_text.specs.Offers.{offer_text}
use Rattle.journal_text.specs.Endings.{syncs_text}
use Rattle.journal_replay.specs.Replays.{TellsEnabled, TellsEnded, TellsFired, ended_by, fired_by}
use Rattle.thread.specs.declared.end.End.{End}
use Rattle.thread.specs.declared.end.End.TheVariants.{Ended, Waiting, Spent, Faulted, Unstarted}
use Rattle.journal_replay.specs.declared.state.State.{State}
use Rattle.script_token.specs.Lexemes.{placed_tokens}
use Rattle.pcml_why_sites.specs.Edges.{edges_text}
use Rattle.pcml_why_sites.specs.Knots.{IsKnot, waits_for}
use Rattle.pcml_why_sites.specs.Sites.{AreSites}
use Rattle.pcml_why_sites.specs.Writing.{Written, texts_below}
use Rattle.pcml_why_sites.specs.Offering.{is_open, others}
use Rattle.thread.specs.Ends.{is_waiting}
use Rattle.pcml_why.specs.Variables.{variables_text, wrong_text}
use Rattle.pcml_why_sites.specs.declared.site.Site.{Site}
use Rattle.protocol_values.specs.declared.Side.{Side}
use Rattle.protocol_values.specs.declared.Side.TheVariants.{Sends, Receives}

-- WHAT IS KNOWN OF A RUN

-- the stamps of the nacks that are fired, and of the processes that ended; and the script's processes
pub record Facts : Type 0 where
  pub fired : NackName → Option ℕ
  pub ended : ℕ → Option ℕ
  pub processes : List Proc

abbrev pub facts_of : List Proc → State → Facts
facts_of ps s = record { fired = fired_by s; ended = ended_by s; processes = ps }

abbrev pub variables_in : Option Proc → List (List ℕ)
variables_in None = []
variables_in (Some p) = p.variables

-- the names of the variables of a process
abbrev pub variables_at : List Proc → ℕ → List (List ℕ)
variables_at ps t = variables_in (slice_get ps t)

-- THE TEXT OF AN OFFER

-- each name behind a space
abbrev pub listed : Naming → List ℕ → List ℕ
listed names threads = flat_map (λ t. codes " " ++ names.thread t) threads

unfoldable pub nobody_words : List ℕ
nobody_words = codes "nobody offers"

unfoldable pub same_words : List ℕ
same_words = codes "the same is offered by"

unfoldable pub also_words : List ℕ
also_words = codes ", the same is offered by"

-- where nobody could meet the offer: who makes the same
abbrev pub lone_text : Naming → List ℕ → List ℕ
lone_text names same = if length same == 0 then nobody_words else same_words ++ listed names same

abbrev pub also_text : Naming → List ℕ → List ℕ
also_text names same = if length same == 0 then [] else also_words ++ listed names same

unfoldable pub receives_words : List ℕ
receives_words = codes ", and no process receives on "

unfoldable pub sends_words : List ℕ
sends_words = codes ", and no process sends on "

-- that by no text anybody ever offers on this side of a channel
abbrev pub never_text : Naming → Side → ℕ → List ℕ
never_text names Sends c = sends_words ++ names.channel c
never_text names Receives c = receives_words ++ names.channel c

abbrev pub never_if : Naming → Facts → Side → ℕ → List ℕ
never_if names facts side c = if nobody_serves facts.processes side c then never_text names side c else []

-- who could meet the offer on the other side, and who makes the same; where nobody could, also whether nobody ever can
abbrev pub partners_text : Naming → Facts → Side → ℕ → List ℕ → List ℕ → List ℕ
partners_text names facts side c partners same =
    if length partners == 0 then lone_text names same ++ never_if names facts side c else codes "may meet" ++ listed names partners ++ also_text names same

unfoldable pub sync_words : List ℕ
sync_words = codes "the sync of "

abbrev pub unfired_text : Bool → List ℕ
unfired_text true = codes " is open"
unfired_text false = codes " is not open"

-- whether the sync of a nack is open, or enabled it at a stamp
abbrev pub nack_state_text : Naming → List Site → NackName → Option ℕ → List ℕ
nack_state_text names sites n (Some stamp) = codes "enabled by " ++ names.thread n.thread ++ codes " at " ++ decimal stamp
nack_state_text names sites n None = sync_words ++ names.thread n.thread ++ unfired_text (is_open sites n)

-- how a process stands that has not ended
abbrev pub unended_text : End → List ℕ
unended_text Ended = codes " ended"
unended_text Waiting = codes " waits"
unended_text Spent = codes " is spent"
unended_text (Faulted fault) = codes " faulted"
unended_text Unstarted = codes " has not started"

abbrev pub unended_at : Option Site → List ℕ
unended_at None = []
unended_at (Some s) = unended_text s.end

-- whether a process ended, by a stamp, or how it stands
abbrev pub end_state_text : Naming → List Site → ℕ → Option ℕ → List ℕ
end_state_text names sites u (Some stamp) = codes "ended at " ++ decimal stamp
end_state_text names sites u None = names.thread u ++ unended_at (slice_get sites u)

-- what would let the offer be taken
abbrev pub chance_text : Naming → Facts → List Site → ℕ → Base → List ℕ
chance_text names facts sites t (Send c m) = partners_text names facts Receives c (others sites Receives c t) (others sites Sends c t)
chance_text names facts sites t (Recv c) = partners_text names facts Sends c (others sites Sends c t) (others sites Receives c t)
chance_text names facts sites t (Always m) = codes "may be taken"
chance_text names facts sites t (OnNack n) = nack_state_text names sites n (facts.fired n)
chance_text names facts sites t (OnEnd u) = end_state_text names sites u (facts.ended u)
chance_text names facts sites t Never = codes "is never taken"

abbrev pub offer_line : Naming → Facts → List Site → ℕ → Offer → List ℕ
offer_line names facts sites t o = codes "  " ++ offer_text names o.base ++ codes ": " ++ chance_text names facts sites t o.base ++ 10 ∷ []

-- THE TEXT OF A PROCESS

unfoldable pub spent_text : ℕ → List ℕ
spent_text line = codes " is spent at line " ++ decimal line

-- how a process stands, at a line, of so many syncs at most
abbrev pub stand_text : Naming → List (List ℕ) → ℕ → ℕ → End → Stand → List ℕ
stand_text names variables rows line Ended stand = codes " ended\n"
stand_text names variables rows line Waiting stand = codes " waits at line " ++ decimal line ++ 10 ∷ []
stand_text names variables rows line Spent stand = spent_text line ++ syncs_text rows
stand_text names variables rows line Unstarted stand = codes " has not started\n"
stand_text names variables rows line (Faulted fault) stand = codes " faulted at line " ++ decimal line ++ codes ": " ++ wrong_text names variables fault stand ++ 10 ∷ []

-- the offers of a process that waits, each on a line of its own
abbrev pub offers_text : Naming → Facts → List Site → ℕ → Site → List ℕ
offers_text names facts sites t s = if is_waiting s.end then flat_map (offer_line names facts sites t) s.offers.now else []

-- the variables of a process that waits
abbrev pub known_at : Naming → List (List ℕ) → Site → List ℕ
known_at names variables s = if is_waiting s.end then variables_text names variables s.variables.now else []

-- by the names of its variables
abbrev pub process_text : Naming → List (List ℕ) → Facts → ℕ → List Site → ℕ → Site → List ℕ
process_text names variables facts rows sites t s =
    names.thread t ++ stand_text names variables rows s.line s.end s.stand ++ known_at names variables s ++ offers_text names facts sites t s

abbrev pub site_text : Naming → Facts → ℕ → List Site → ℕ → Site → List ℕ
site_text names facts rows sites t s = process_text names (variables_at facts.processes t) facts rows sites t s

abbrev pub text_if : (Site → List ℕ) → Option Site → List ℕ
text_if text None = []
text_if text (Some s) = text s

-- the texts of the first so many processes
abbrev pub texts_of : (ℕ → Site → List ℕ) → List Site → ℕ → List ℕ
texts_of text sites zero = []
texts_of text sites (suc t) = texts_of text sites t ++ text_if (text t) (slice_get sites t)

abbrev pub all_texts : (ℕ → Site → List ℕ) → List Site → List ℕ
all_texts text sites = texts_of text sites (length sites)

abbrev pub why_text : Naming → Facts → ℕ → List Site → List ℕ
why_text names facts rows sites = all_texts (site_text names facts rows sites) sites

-- THE LAST LINES

unfoldable pub knot_words : List ℕ
knot_words = codes "waiting for one another:"

-- who wait for one another, where some do, and who of them for whom, by what the text of each process writes
abbrev pub knot_text : Naming → List (List Written) → List Site → List ℕ → List ℕ
knot_text names texts sites knot =
    if length knot == 0 then [] else knot_words ++ listed names knot ++ 10 ∷ [] ++ edges_text names texts sites knot

-- told only where no commit may come next
abbrev pub last_text : Naming → List (List Written) → List Site → Option Commit → List ℕ → List ℕ
last_text names texts sites (Some commit) knot = []
last_text names texts sites None knot = knot_text names texts sites knot

-- WHAT IS TOLD

-- The text tells of each process of the state, in the names of the script, whose source is given, after these commits; and where no
-- commit may come next, who wait for one another, and who of them for whom.
pub record IsWhy (script : Script) (state : State) (commits : List Commit) (source : List ℕ) (rows : ℕ) (text : List ℕ) : Type 0 where
  pub sites : List Site
  pub are : AreSites script.processes commits state sites
  pub facts : Facts
  pub tells_fired : (n : NackName) → TellsFired state n (facts.fired n)
  pub tells_ended : (t : ℕ) → TellsEnded state t (facts.ended t)
  pub processes : facts.processes ≡ script.processes
  pub next : Option Commit
  pub tells_next : TellsEnabled state next
  pub texts : List (List Written)
  pub are_texts : texts ≡ texts_below (placed_tokens source) (length sites)
  pub knot : List ℕ
  pub is_knot : IsKnot (length sites) (waits_for (named script) texts sites) knot
  pub is : text ≡ why_text (named script) facts rows sites ++ last_text (named script) texts sites next knot
