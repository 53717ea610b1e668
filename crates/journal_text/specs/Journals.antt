-- Which commits have a line in the names of a script, and what the bytes of a journal say.
use Rattle.std.specs.Prelude.{◌≡◌, ◌≢◌, ℕ, ◌+◌, ◌<◌, ◌≤◌, List, [], ◌++◌, length}
use Rattle.std.specs.List.{AllByRecursion}
use Rattle.protocol_values.specs.declared.NackName.{NackName}
use Rattle.protocol_values.specs.declared.Row.{Row}
use Rattle.protocol_values.specs.declared.Atom.{Atom}
use Rattle.protocol_values.specs.declared.Atom.TheVariants.{Num, Chan, Nack}
use Rattle.protocol_values.specs.declared.Message.{Message}
use Rattle.protocol_values.specs.declared.Message.TheVariants.{Empty, One, Two, Three}
use Rattle.protocol_values.specs.declared.Cause.{Cause}
use Rattle.protocol_values.specs.declared.Cause.TheVariants as causes
use Rattle.protocol_values.specs.declared.Commit.{Commit}
use Rattle.protocol_values.specs.declared.Commit.TheVariants.{Pair, Alone}
use Rattle.script.specs.Sources.{Script}
use Rattle.script.specs.Spelling.{IsSpelled}
use Rattle.journal_text.specs.Names.{Declared, names_of, named}
use Rattle.journal_text.specs.Texts.{commit_line, commits_text}

-- WHAT HAS A LINE

abbrev pub HasPlace : Declared → Row × ℕ → Type 0
HasPlace d p = (p.0.thread < length d.threads) × (p.0.sync ≤ 67107839) × (p.1 ≤ 7)

abbrev pub HasNack : Declared → NackName → Type 0
HasNack d n = (n.thread < length d.threads) × (n.k ≤ 63)

abbrev pub HasAtom : Declared → Atom → Type 0
HasAtom d (Num n) = n ≤ 4294967295
HasAtom d (Chan c) = c < length d.channels
HasAtom d (Nack n) = HasNack d n

abbrev pub HasMessage : Declared → Message → Type 0
HasMessage d Empty = Unit {0}
HasMessage d (One a) = HasAtom d a
HasMessage d (Two a b) = HasAtom d a × HasAtom d b
HasMessage d (Three a b c) = (HasAtom d a × HasAtom d b) × HasAtom d c

abbrev pub HasCause : Declared → Cause → Type 0
HasCause d (causes.Always m) = HasMessage d m
HasCause d (causes.Nack n) = HasNack d n
HasCause d (causes.End t) = t < length d.threads

-- a stamp from 1 on
abbrev pub IsStamp : ℕ → Type 0
IsStamp n = (1 ≤ n) × (n ≤ 4294967295)

-- its threads and channels are declared, and its numbers are in range
abbrev pub HasLine : Declared → Commit → Type 0
HasLine d (Pair sender receiver chan msg stamp) = (IsStamp stamp × HasPlace d sender) × (HasPlace d receiver × (chan < length d.channels) × HasMessage d msg)
HasLine d (Alone at cause stamp) = (IsStamp stamp × HasPlace d at) × HasCause d cause

-- WHAT BYTES SAY

-- the bytes are the text of these commits, all of them
pub record Spells (s : Script) (bytes : List ℕ) (cs : List Commit) : Type 0 where
  pub lines : AllByRecursion (HasLine (names_of s)) cs
  pub text : bytes ≡ commits_text (named s) cs

-- no commit's line begins the bytes
abbrev pub NoLineBegins : Script → List ℕ → Type 0
NoLineBegins s bytes = (c : Commit) (after : List ℕ) → HasLine (names_of s) c → bytes ≢ commit_line (named s) c ++ after

-- the bytes are the text of these commits, and then a rest with which no commit's line begins
pub record BreaksOffAfter (s : Script) (bytes : List ℕ) (cs : List Commit) (rest : List ℕ) : Type 0 where
  pub lines : AllByRecursion (HasLine (names_of s)) cs
  pub text : bytes ≡ commits_text (named s) cs ++ rest
  pub more : rest ≢ []
  pub bad : NoLineBegins s rest

-- Line k, from 1, is the first that is not of the form: those before it are good, and the bytes do not end
-- before it.
abbrev pub IsFirstBadLine : Script → List ℕ → ℕ → Type 0
IsFirstBadLine s bytes k = (cs : List Commit) × (rest : List ℕ) × (k ≡ length cs + 1) × BreaksOffAfter s bytes cs rest

-- LAWS, of a script that some text spells

-- no bytes spell two lists of commits
abbrev pub SpellsOnlyOne : Type 0
SpellsOnlyOne = (s : Script) → IsSpelled s → (bytes : List ℕ) (cs ds : List Commit) → Spells s bytes cs → Spells s bytes ds → cs ≡ ds

-- bytes that spell commits have no bad line
abbrev pub SpellsOrIsBad : Type 0
SpellsOrIsBad = (s : Script) → IsSpelled s → (bytes : List ℕ) (cs : List Commit) (k : ℕ) → Spells s bytes cs → IsFirstBadLine s bytes k → ⊥

-- at most one line is the first bad one
abbrev pub HasOneFirstBadLine : Type 0
HasOneFirstBadLine = (s : Script) → IsSpelled s → (bytes : List ℕ) (j k : ℕ) → IsFirstBadLine s bytes j → IsFirstBadLine s bytes k → j ≡ k
