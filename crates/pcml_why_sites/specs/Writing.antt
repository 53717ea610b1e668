-- The offers that the text of a process writes.
use Rattle.std.specs.Prelude.{ℕ, zero, suc, Bool, true, false, ◌&&◌, ◌||◌, List, [], ◌∷◌, ◌++◌, map, Option, Some, None}
use Rattle.std.specs.Global.{Vec}
use Rattle.std.specs.List.{after_first, before_first}
use Rattle.script_token.specs.Tokens.{Token, Fixed, Name, same}
use Rattle.script_token.specs.declared.kind.Symbol.TheVariants.{Process, Send, Recv}
use Rattle.protocol_values.specs.declared.Side.{Side}
use Rattle.protocol_values.specs.declared.Side.TheVariants.{Sends, Receives}
use Rattle.pcml_why_sites.specs.declared.writing.WrittenOffer.{WrittenOffer}

-- THE TEXT OF A PROCESS

abbrev pub is_process : Token → Bool
is_process (Fixed Process) = true
is_process token = false

-- the tokens behind so many words `process`
abbrev pub behind : List (Token × ℕ) → ℕ → List (Token × ℕ)
behind tokens zero = tokens
behind tokens (suc n) = after_first (λ p. is_process p.0) (behind tokens n)

-- the tokens of a process: behind its word `process`, and before the next one
abbrev pub part : List (Token × ℕ) → ℕ → List (Token × ℕ)
part tokens t = before_first (λ p. is_process p.0) (behind tokens (suc t))

-- WHAT IT WRITES

-- an offer that is written: its side, the name of its channel, and the line of its word
pub record Written : Type 0 where
  pub side : Side
  pub name : List ℕ
  pub line : ℕ

-- the side of the offers that begin with a word
abbrev pub side_of : Token → Option Side
side_of (Fixed Send) = Some Sends
side_of (Fixed Recv) = Some Receives
side_of token = None

abbrev pub written_on : Side → ℕ → Token → List Written
written_on side line (Name name) = record { side = side; name = name; line = line } ∷ []
written_on side line token = []

-- the word of a side directly before the name of a channel
abbrev pub written_at : Option Side → ℕ → List (Token × ℕ) → List Written
written_at None line tokens = []
written_at (Some side) line [] = []
written_at (Some side) line (p ∷ tokens) = written_on side line p.0

-- the offers that are written there, in their order
abbrev pub written_in : List (Token × ℕ) → List Written
written_in [] = []
written_in (p ∷ tokens) = written_at (side_of p.0) p.1 tokens ++ written_in tokens

-- those of each of the first so many processes
abbrev pub texts_below : List (Token × ℕ) → ℕ → List (List Written)
texts_below tokens zero = []
texts_below tokens (suc t) = texts_below tokens t ++ written_in (part tokens t) ∷ []

-- an offer without where its name lies in memory
abbrev pub seen_offer : WrittenOffer → Written
seen_offer o = record { side = o.side; name = o.name.now; line = o.line }

abbrev pub seen_offers : List WrittenOffer → List Written
seen_offers os = map seen_offer os

abbrev pub seen_texts : List (Vec WrittenOffer) → List (List Written)
seen_texts texts = map (λ v. seen_offers v.items) texts

-- WHICH OF THEM IS ON A CHANNEL

abbrev pub same_side : Side → Side → Bool
same_side Sends Sends = true
same_side Receives Receives = true
same_side Sends Receives = false
same_side Receives Sends = false

-- it is written on this side of the channel of this name
abbrev pub is_on : Side → List ℕ → Written → Bool
is_on side name w = same_side w.side side && same w.name name

-- one of them is: a channel that a variable holds is not seen
abbrev pub could_offer : Side → List ℕ → List Written → Bool
could_offer side name [] = false
could_offer side name (w ∷ ws) = is_on side name w || could_offer side name ws
