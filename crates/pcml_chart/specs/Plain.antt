-- Which texts cannot break out of the markup.
use Rattle.std.specs.Prelude.{◌≡◌, ◌==◌, ◌||◌, ℕ, Bool, true, List, not, ⊤}
use Rattle.std.specs.List.{AllByRecursion, list_all}
use Rattle.protocol_values.specs.declared.Atom.{Atom}
use Rattle.protocol_values.specs.declared.Base.{Base}
use Rattle.protocol_values.specs.declared.Base.TheVariants.{Send, Recv, Always, OnNack, OnEnd, Never}
use Rattle.protocol_values.specs.declared.Cause.{Cause}
use Rattle.protocol_values.specs.declared.Message.{Message}
use Rattle.script.specs.Sources.{Script}
use Rattle.script.specs.Spelling.{IsSpelled}
use Rattle.journal_text.specs.Journals.{HasAtom, HasCause, HasMessage, HasNack}
use Rattle.journal_text.specs.Names.{Declared, names_of, named}
use Rattle.journal_text.specs.Texts.{cause_text, message_text}
use Rattle.journal_text.specs.Offers.{offer_text}
use Rattle.journal_text.specs.Endings.{printed_text}

-- no mark of SVG: neither `<` nor `>` nor `&`, and no quote; and none that ends or leaves a line of a Mermaid diagram: no `;`, `%` or line end
abbrev pub is_plain : ℕ → Bool
is_plain b = not (b == 60 || b == 62 || b == 38 || b == 34 || b == 39 || b == 59 || b == 37 || b == 10)

abbrev pub IsPlain : List ℕ → Type 0
IsPlain text = list_all is_plain text ≡ true

-- LAWS, of a script that some text spells

abbrev pub NamesArePlain : Type 0
NamesArePlain = (s : Script) → IsSpelled s → (n : ℕ) → IsPlain ((named s).thread n) × IsPlain ((named s).channel n)

abbrev pub MessagesArePlain : Type 0
MessagesArePlain = (s : Script) → IsSpelled s → (m : Message) → HasMessage (names_of s) m → IsPlain (message_text (named s) m)

abbrev pub CausesArePlain : Type 0
CausesArePlain = (s : Script) → IsSpelled s → (why : Cause) → HasCause (names_of s) why → IsPlain (cause_text (named s) why)

abbrev pub PrintedIsPlain : Type 0
PrintedIsPlain = (s : Script) → IsSpelled s → (printed : List Atom) → AllByRecursion (HasAtom (names_of s)) printed → IsPlain (printed_text (named s) printed)

-- an offer's channel or thread may have any number, and its values are those of a line
abbrev pub HasBase : Declared → Base → Type 0
HasBase d (Send c m) = HasMessage d m
HasBase d (Recv c) = ⊤
HasBase d (Always m) = HasMessage d m
HasBase d (OnNack n) = HasNack d n
HasBase d (OnEnd t) = ⊤
HasBase d Never = ⊤

abbrev pub OffersArePlain : Type 0
OffersArePlain = (s : Script) → IsSpelled s → (b : Base) → HasBase (names_of s) b → IsPlain (offer_text (named s) b)
