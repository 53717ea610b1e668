-- The text of commits: a line a commit.
use Rattle.std.specs.Prelude.{ℕ, List, [], ◌∷◌, ◌++◌, codes}
use Rattle.std.specs.Fmt.{decimal}
use Rattle.std.specs.List.{flat_map}
use Rattle.protocol_values.specs.declared.NackName.{NackName}
use Rattle.protocol_values.specs.declared.Row.{Row}
use Rattle.protocol_values.specs.declared.Atom.{Atom}
use Rattle.protocol_values.specs.declared.Atom.TheVariants.{Num, Chan, Nack}
use Rattle.protocol_values.specs.declared.Message.{Message}
use Rattle.protocol_values.specs.declared.Message.TheVariants.{Empty, One, Two, Three}
use Rattle.protocol_values.specs.declared.Cause.{Cause}
use Rattle.protocol_values.specs.declared.Cause.TheVariants as causes
use Rattle.protocol_values.specs.declared.Commit.{Commit}
use Rattle.protocol_values.specs.declared.Commit.TheVariants.{Pair, Alone}
use Rattle.journal_text.specs.Names.{Naming}

-- a row and the number of its offer
abbrev pub place_text : Naming → Row × ℕ → List ℕ
place_text names p = names.thread p.0.thread ++ codes "." ++ decimal p.0.sync ++ codes "." ++ decimal p.1

abbrev pub nack_text : Naming → NackName → List ℕ
nack_text names n = names.thread n.thread ++ codes "." ++ decimal n.k

-- a number in its digits, a channel behind a `#`, a nack behind a `!`
abbrev pub atom_text : Naming → Atom → List ℕ
atom_text names (Num n) = decimal n
atom_text names (Chan c) = codes "#" ++ names.channel c
atom_text names (Nack n) = codes "!" ++ nack_text names n

-- the atoms in parentheses, with `, ` between them
abbrev pub message_text : Naming → Message → List ℕ
message_text names Empty = codes "()"
message_text names (One a) = codes "(" ++ atom_text names a ++ codes ")"
message_text names (Two a b) = codes "(" ++ atom_text names a ++ codes ", " ++ atom_text names b ++ codes ")"
message_text names (Three a b c) = codes "(" ++ atom_text names a ++ codes ", " ++ atom_text names b ++ codes ", " ++ atom_text names c ++ codes ")"

-- why a row was committed alone
abbrev pub cause_text : Naming → Cause → List ℕ
cause_text names (causes.Always m) = codes "always " ++ message_text names m
cause_text names (causes.Nack n) = codes "cancelled " ++ nack_text names n
cause_text names (causes.End t) = codes "joined " ++ names.thread t

-- The stamp comes first. Of a pair the sender stands before the receiver, then the channel and the message.
abbrev pub commit_text : Naming → Commit → List ℕ
commit_text names (Pair sender receiver chan msg stamp) =
    decimal stamp ++ codes " " ++ place_text names sender ++ codes " -> " ++ place_text names receiver ++ codes " " ++ names.channel chan ++ codes " " ++ message_text names msg
commit_text names (Alone at cause stamp) = decimal stamp ++ codes " " ++ place_text names at ++ codes " " ++ cause_text names cause

abbrev pub commit_line : Naming → Commit → List ℕ
commit_line names c = commit_text names c ++ 10 ∷ []

-- each commit on a line of its own, in the order of the list
abbrev pub commits_text : Naming → List Commit → List ℕ
commits_text names cs = flat_map (commit_line names) cs
