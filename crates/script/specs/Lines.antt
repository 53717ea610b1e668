-- At which lines of a text the statements of its processes stand.
use Rattle.std.specs.Prelude.{◌≡◌, ℕ, List, [], ◌∷◌, ◌++◌, map, Bool, true, false, if◌then◌else◌}
use Rattle.std.specs.List.{flat_map}
use Rattle.script_token.specs.Tokens.{Token, Fixed, Name, Number, Bad}
use Rattle.script_token.specs.Lexemes.{placed_tokens}
use Rattle.script_token.specs.declared.kind.Symbol.{Symbol}
use Rattle.script_token.specs.declared.kind.Symbol.TheVariants as symbols
use Rattle.script_tree.specs.Lined.{Event, Sends, Receives, IsReady, IsNever, IsCancelled, IsJoined, Chooses, Wraps, Guards, Nacks, Events, NoMembers, Members, Stmt, Lets, Prints, Syncs, Branches, Loops, LoopsForever, Ends, Spawns, Block, Stops, Runs, block_of}
use Rattle.script_tree.specs.Processes.{tree_of}
use Rattle.script_tree.specs.declared.tree.Block.{Block as Tree}
use Rattle.script.specs.declared.script.Script.{Script as SeenScript}

-- THE WORDS OF A TEXT

-- the words with which statements are written: each statement has one of them
abbrev pub is_statement : Symbol → Bool
is_statement symbols.Let = true
is_statement symbols.Print = true
is_statement symbols.Sync = true
is_statement symbols.If = true
is_statement symbols.Loop = true
is_statement symbols.Forever = true
is_statement symbols.End = true
is_statement symbols.Spawn = true
is_statement symbol = false

-- a word of a statement, with its line
abbrev pub Word : Type 0
Word = Symbol × ℕ

abbrev pub line_of : Word → ℕ
line_of w = w.1

abbrev pub word_in : Token → ℕ → List Word
word_in (Fixed symbol) line = if is_statement symbol then (symbol, line) ∷ [] else []
word_in (Name text) line = []
word_in (Number n) line = []
word_in Bad line = []

abbrev pub word_at : Token × ℕ → List Word
word_at p = word_in p.0 p.1

-- those of a text, in their order
abbrev pub text_words : List (Token × ℕ) → List Word
text_words tokens = flat_map word_at tokens

-- THE WORDS OF A TREE
-- They come in the order in which the tree is written.

abbrev mutual
  pub event_words : Event → List Word
  event_words (Sends channel list) = []
  event_words (Receives channel) = []
  event_words (IsReady list) = []
  event_words IsNever = []
  event_words (IsCancelled nack) = []
  event_words (IsJoined process) = []
  event_words (Chooses members) = members_words members
  event_words (Wraps event names list) = event_words event
  event_words (Guards body event) = block_words body ++ event_words event
  event_words (Nacks name body event) = block_words body ++ event_words event

  pub members_words : Events → List Word
  members_words NoMembers = []
  members_words (Members event others) = event_words event ++ members_words others

  -- the statement at this line; a loop begins with a sync, which has a line of its own
  pub stmt_words : ℕ → Stmt → List Word
  stmt_words line (Lets name value) = (symbols.Let, line) ∷ []
  stmt_words line (Prints value) = (symbols.Print, line) ∷ []
  stmt_words line (Syncs names event) = (symbols.Sync, line) ∷ event_words event
  stmt_words line (Branches test first second) = (symbols.If, line) ∷ block_words first ++ block_words second
  stmt_words line (Loops times at names event rest) = (symbols.Loop, line) ∷ (symbols.Sync, at) ∷ event_words event ++ block_words rest
  stmt_words line (LoopsForever at names event rest) = (symbols.Forever, line) ∷ (symbols.Sync, at) ∷ event_words event ++ block_words rest
  stmt_words line Ends = (symbols.End, line) ∷ []
  stmt_words line (Spawns process) = (symbols.Spawn, line) ∷ []

  pub block_words : Block → List Word
  block_words Stops = []
  block_words (Runs stmt line rest) = stmt_words line stmt ++ block_words rest

abbrev pub tree_words : Tree → List Word
tree_words tree = block_words (block_of tree)

-- THE LINES OF A SCRIPT

-- The statements of the trees are those that the text has, each with its word, in the same order and at the same lines.
abbrev pub AreLined : List ℕ → List Tree → Type 0
AreLined bytes trees = flat_map tree_words trees ≡ text_words (placed_tokens bytes)

-- the trees of a script's processes
abbrev pub trees_of_script : SeenScript → List Tree
trees_of_script s = map tree_of s.processes.items
