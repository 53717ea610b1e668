-- Reading from left to right: the commit whose line stands at the front of the bytes, and the bytes after it.
use Rattle.std.specs.Prelude.{◌≡◌, ℕ, List, [], ◌∷◌, ◌++◌, codes, Option, Some, None, nat_lt, ◌==◌, if◌then◌else◌}
use Rattle.digits.specs.Reading.{◌>>=◌, or_else, leading_at, ended_by, number_at, count_at, after_word}
use Rattle.script_grammar.specs.Meaning.{place}
use Rattle.protocol_values.specs.declared.NackName.{NackName}
use Rattle.protocol_values.specs.declared.Row.{Row}
use Rattle.protocol_values.specs.declared.Atom.{Atom}
use Rattle.protocol_values.specs.declared.Atom.TheVariants.{Num, Chan, Nack}
use Rattle.protocol_values.specs.declared.Message.{Message}
use Rattle.protocol_values.specs.declared.Message.TheVariants.{Empty, One, Two, Three}
use Rattle.protocol_values.specs.declared.Cause.TheVariants as causes
use Rattle.protocol_values.specs.declared.Commit.{Commit}
use Rattle.protocol_values.specs.declared.Commit.TheVariants as commits
use Rattle.journal_text.specs.Names.{Declared}
use Rattle.journal_text.specs.declared.line.Deed.{Deed}
use Rattle.journal_text.specs.declared.line.Deed.TheVariants.{Meets, Alone}

-- what is read, and the bytes behind it
abbrev pub Reads : Type 0 → Type 0
Reads A = Option (A × List ℕ)

-- What a function read, and what it left, are what reading gives.
abbrev pub Leads : {X : Type 0} → Option X → List ℕ → Reads X → Type 0
Leads None left read = read ≡ None
Leads (Some x) left read = read ≡ Some (x, left)

-- the same, where nothing is read but what is expected
abbrev pub Passes : Option (Unit {0}) → List ℕ → Option (List ℕ) → Type 0
Passes None left read = read ≡ None
Passes (Some done) left read = read ≡ Some left

-- NAMES

-- the byte stands in front
abbrev pub after_byte : ℕ → List ℕ → Option (List ℕ)
after_byte end [] = None
after_byte end (b ∷ bytes) = if b == end then Some bytes else None

-- more in front of a word
abbrev pub before_word : List ℕ → Reads (List ℕ × ℕ) → Reads (List ℕ × ℕ)
before_word front read = read >>= λ w. Some ((front ++ w.0.0, w.0.1), w.1)

-- what may be a name, and the byte behind it, the first of those before `0`
unfoldable pub word_at : List ℕ → Reads (List ℕ × ℕ)
word_at [] = None
word_at (b ∷ bytes) = if nat_lt b 48 then Some (([], b), bytes) else before_word (b ∷ []) (word_at bytes)

-- the number of the name in front, and the byte behind it
unfoldable pub named_at : List (List ℕ) → List ℕ → Reads (ℕ × ℕ)
named_at names bytes = do
  word ← word_at bytes
  n ← place word.0.0 names
  Some ((n, word.0.1), word.1)

-- PLACES AND NACKS

-- a thread's name and the number of its sync, each ended by a `.`
unfoldable pub row_at : Declared → List ℕ → Reads Row
row_at d bytes = do
  thread ← ended_by 46 (named_at d.threads bytes)
  sync ← number_at 67107839 46 thread.1
  Some (record { thread = thread.0; sync = sync.0 }, sync.1)

-- a row and the number of an offer, ended by a space
unfoldable pub place_at : Declared → List ℕ → Reads (Row × ℕ)
place_at d bytes = do
  row ← row_at d bytes
  offer ← number_at 7 32 row.1
  Some ((row.0, offer.0), offer.1)

-- a nack, and the byte behind it
unfoldable pub nack_at : Declared → List ℕ → Reads (NackName × ℕ)
nack_at d bytes = do
  thread ← ended_by 46 (named_at d.threads bytes)
  k ← leading_at 63 thread.1
  Some ((record { thread = thread.0; k = k.0.0 }, k.0.1), k.1)

-- ATOMS AND MESSAGES: an atom is read with the byte behind it

unfoldable pub num_at : List ℕ → Reads (Atom × ℕ)
num_at bytes = leading_at 4294967295 bytes >>= λ n. Some ((Num n.0.0, n.0.1), n.1)

unfoldable pub chan_at : Declared → List ℕ → Reads (Atom × ℕ)
chan_at d bytes = do
  rest ← after_word (codes "#") bytes
  c ← named_at d.channels rest
  Some ((Chan c.0.0, c.0.1), c.1)

unfoldable pub cancel_at : Declared → List ℕ → Reads (Atom × ℕ)
cancel_at d bytes = do
  rest ← after_word (codes "!") bytes
  n ← nack_at d rest
  Some ((Nack n.0.0, n.0.1), n.1)

unfoldable pub atom_at : Declared → List ℕ → Reads (Atom × ℕ)
atom_at d bytes = or_else (num_at bytes) (or_else (chan_at d bytes) (cancel_at d bytes))

-- one more atom, where a comma stood behind the one before it: behind a space
unfoldable pub later_at : Declared → ℕ → List ℕ → Reads (Atom × ℕ)
later_at d behind bytes = if behind == 44 then (after_word (codes " ") bytes >>= λ rest. atom_at d rest) else None

-- one atom, or two or three with `, ` between them, up to the parenthesis
unfoldable pub three_at : Declared → Atom × Atom → ℕ → List ℕ → Reads Message
three_at d p behind bytes = later_at d behind bytes >>= λ c. if c.0.1 == 41 then Some (Three p.0 p.1 c.0.0, c.1) else None

unfoldable pub two_at : Declared → Atom → ℕ → List ℕ → Reads Message
two_at d a behind bytes = later_at d behind bytes >>= λ b. if b.0.1 == 41 then Some (Two a b.0.0, b.1) else three_at d (a, b.0.0) b.0.1 b.1

unfoldable pub one_at : Declared → List ℕ → Reads Message
one_at d bytes = atom_at d bytes >>= λ a. if a.0.1 == 41 then Some (One a.0.0, a.1) else two_at d a.0.0 a.0.1 a.1

unfoldable pub none_at : List ℕ → Reads Message
none_at bytes = after_byte 41 bytes >>= λ rest. Some (Empty, rest)

unfoldable pub atoms_at : Declared → List ℕ → Reads Message
atoms_at d bytes = or_else (one_at d bytes) (none_at bytes)

-- a message behind its parenthesis, and the line's end
unfoldable pub closed_at : Declared → List ℕ → Reads Message
closed_at d bytes = do
  m ← atoms_at d bytes
  rest ← after_byte 10 m.1
  Some (m.0, rest)

-- the rest of a line that a message ends
unfoldable pub message_at : Declared → List ℕ → Reads Message
message_at d bytes = do
  rest ← after_word (codes "(") bytes
  m ← closed_at d rest
  Some (m.0, m.1)

-- LINES

-- a receiver and the channel
unfoldable pub partner_at : Declared → List ℕ → Reads ((Row × ℕ) × ℕ)
partner_at d bytes = do
  receiver ← place_at d bytes
  chan ← ended_by 32 (named_at d.channels receiver.1)
  Some ((receiver.0, chan.0), chan.1)

unfoldable pub told_at : Declared → List ℕ → Reads Deed
told_at d bytes = do
  p ← partner_at d bytes
  m ← message_at d p.1
  Some (Meets p.0.0 p.0.1 m.0, m.1)

unfoldable pub meets_at : Declared → List ℕ → Reads Deed
meets_at d bytes = do
  rest ← after_word (codes "-> ") bytes
  m ← told_at d rest
  Some (m.0, m.1)

unfoldable pub always_at : Declared → List ℕ → Reads Deed
always_at d bytes = do
  rest ← after_word (codes "always ") bytes
  m ← message_at d rest
  Some (Alone (causes.Always m.0), m.1)

unfoldable pub cancelled_at : Declared → List ℕ → Reads Deed
cancelled_at d bytes = do
  rest ← after_word (codes "cancelled ") bytes
  n ← ended_by 10 (nack_at d rest)
  Some (Alone (causes.Nack n.0), n.1)

unfoldable pub joined_at : Declared → List ℕ → Reads Deed
joined_at d bytes = do
  rest ← after_word (codes "joined ") bytes
  t ← ended_by 10 (named_at d.threads rest)
  Some (Alone (causes.End t.0), t.1)

-- what happened to the row, up to the line's end
unfoldable pub deed_at : Declared → List ℕ → Reads Deed
deed_at d bytes = or_else (meets_at d bytes) (or_else (always_at d bytes) (or_else (cancelled_at d bytes) (joined_at d bytes)))

unfoldable pub head_at : Declared → List ℕ → Reads (ℕ × (Row × ℕ))
head_at d bytes = do
  stamp ← count_at 4294967295 32 bytes
  place ← place_at d stamp.1
  Some ((stamp.0, place.0), place.1)

abbrev pub commit_of : ℕ × (Row × ℕ) → Deed → Commit
commit_of head (Meets receiver chan msg) = commits.Pair head.1 receiver chan msg head.0
commit_of head (Alone cause) = commits.Alone head.1 cause head.0

unfoldable pub line_at : Declared → List ℕ → Reads Commit
line_at d bytes = do
  head ← head_at d bytes
  deed ← deed_at d head.1
  Some (commit_of head.0 deed.0, deed.1)
