-- Lines that are given out one after another: each word gets the next.
use Rattle.std.proofs.Common.{◌≡◌, ℕ, suc, ◌+◌, ◌<◌, List, take, [], ◌∷◌, ◌++◌, length, map, get_or, Result, IfOk, IsErrAnd, refl, sym, ap, ap₂, ◌∙◌, arith, length-append, append-nil, append_assoc}
use Rattle.std.specs.List.{flat_map}
use Rattle.script_token.specs.declared.kind.Symbol.{Symbol}
use Rattle.script_token.specs.declared.kind.Symbol.TheVariants as symbols
use Rattle.script_tree.specs.Trees as trees
use Rattle.script_tree.specs.Lined as lined
use Rattle.script_tree.specs.Lined.{plain_block, plain_event, plain_members, plain_stmt}
use Rattle.script_tree.specs.Processes.{Proc, proc_of}
use Rattle.script_tree.specs.declared.process.Proc.{Proc as SeenProc}
use Rattle.script_reader.specs.declared.fault.Stop.{Stop}
use Rattle.std.proofs.lemmas.Result.{err_from_is_err_and}
use Rattle.std.proofs.lemmas.List.{map-append, take_more}
use Rattle.script_tree.specs.declared.tree.Block.{Block as Tree}
use Rattle.script_tree.proofs.Lines.{block_plain as tree_is_plain}
use Rattle.script_token.specs.Lexemes.{seen, seen_at}
use Rattle.script_token.specs.declared.lexeme.Placed.{Placed}
use Rattle.script.specs.Lines.{Word, event_words, members_words, stmt_words, block_words, line_of, text_words, word_at}
use Rattle.script.specs.Lining.{count_event, count_members, count_stmt, count_block, lined_event, lined_members, lined_stmt, lined_block, lined_all, count_all, lined_of, trees_in}
use Rattle.script.proofs.Symbols.{event_symbols, members_symbols, stmt_symbols, block_symbols, all_symbols}

-- the words with the lines from line n on
abbrev pub given : List ℕ → ℕ → List Symbol → List Word
given lines n [] = []
given lines n (s ∷ said) = (s, get_or lines n 0) ∷ given lines (n + 1) said

given_append : (lines : List ℕ) (n m : ℕ) (xs ys : List Symbol) → m ≡ n + length xs → given lines n (xs ++ ys) ≡ given lines n xs ++ given lines m ys
given_append lines n m [] ys is = (let same : n ≡ m = omega (arith, is) in ap (λ k. given lines k ys) same)
given_append lines n m (x ∷ xs) ys is = ap (λ zs. (x, get_or lines n 0) ∷ zs) (given_append lines (n + 1) m xs ys (omega (arith, is)))

-- HOW MANY THEY ARE

mutual
  event_count : (e : trees.Event) → length (event_symbols e) ≡ count_event e
  event_count (trees.Sends channel list) = refl
  event_count (trees.Receives channel) = refl
  event_count (trees.IsReady list) = refl
  event_count trees.IsNever = refl
  event_count (trees.IsCancelled nack) = refl
  event_count (trees.IsJoined process) = refl
  event_count (trees.Chooses members) = members_count members
  event_count (trees.Wraps event names list) = event_count event
  event_count (trees.Guards body event) = length-append (block_symbols body) (event_symbols event) ∙ ap₂ (λ a b. a + b) (block_count body) (event_count event)
  event_count (trees.Nacks name body event) = length-append (block_symbols body) (event_symbols event) ∙ ap₂ (λ a b. a + b) (block_count body) (event_count event)

  members_count : (es : trees.Events) → length (members_symbols es) ≡ count_members es
  members_count trees.NoMembers = refl
  members_count (trees.Members event others) = length-append (event_symbols event) (members_symbols others) ∙ ap₂ (λ a b. a + b) (event_count event) (members_count others)

  stmt_count : (s : trees.Stmt) → length (stmt_symbols s) ≡ 1 + count_stmt s
  stmt_count (trees.Lets name value) = refl
  stmt_count (trees.Prints value) = refl
  stmt_count (trees.Syncs names event) = omega (arith, event_count event)
  stmt_count (trees.Branches test first second) = omega (arith, length-append (block_symbols first) (block_symbols second), block_count first, block_count second)
  stmt_count (trees.Loops times names event rest) = omega (arith, length-append (event_symbols event) (block_symbols rest), event_count event, block_count rest)
  stmt_count (trees.LoopsForever names event rest) = omega (arith, length-append (event_symbols event) (block_symbols rest), event_count event, block_count rest)
  stmt_count trees.Ends = refl
  stmt_count (trees.Spawns process) = refl

  block_count : (b : trees.Block) → length (block_symbols b) ≡ count_block b
  block_count trees.Stops = refl
  block_count (trees.Runs stmt rest) = omega (arith, length-append (stmt_symbols stmt) (block_symbols rest), stmt_count stmt, block_count rest)

-- THE WORDS OF TREES WITH LINES

mutual
  event_given : (lines : List ℕ) (n : ℕ) (e : trees.Event) → event_words (lined_event lines n e) ≡ given lines n (event_symbols e)
  event_given lines n (trees.Sends channel list) = refl
  event_given lines n (trees.Receives channel) = refl
  event_given lines n (trees.IsReady list) = refl
  event_given lines n trees.IsNever = refl
  event_given lines n (trees.IsCancelled nack) = refl
  event_given lines n (trees.IsJoined process) = refl
  event_given lines n (trees.Chooses members) = members_given lines n members
  event_given lines n (trees.Wraps event names list) = event_given lines n event
  event_given lines n (trees.Guards body event) =
      ap₂ (λ (xs ys : List Word). xs ++ ys) (block_given lines n body) (event_given lines (n + count_block body) event)
      ∙ sym (given_append lines n (n + count_block body) (block_symbols body) (event_symbols event) (omega (arith, block_count body)))
  event_given lines n (trees.Nacks name body event) =
      ap₂ (λ (xs ys : List Word). xs ++ ys) (block_given lines n body) (event_given lines (n + count_block body) event)
      ∙ sym (given_append lines n (n + count_block body) (block_symbols body) (event_symbols event) (omega (arith, block_count body)))

  members_given : (lines : List ℕ) (n : ℕ) (es : trees.Events) → members_words (lined_members lines n es) ≡ given lines n (members_symbols es)
  members_given lines n trees.NoMembers = refl
  members_given lines n (trees.Members event others) =
      ap₂ (λ (xs ys : List Word). xs ++ ys) (event_given lines n event) (members_given lines (n + count_event event) others)
      ∙ sym (given_append lines n (n + count_event event) (event_symbols event) (members_symbols others) (omega (arith, event_count event)))

  stmt_given : (lines : List ℕ) (n : ℕ) (s : trees.Stmt) → stmt_words (get_or lines n 0) (lined_stmt lines (n + 1) s) ≡ given lines n (stmt_symbols s)
  stmt_given lines n (trees.Lets name value) = refl
  stmt_given lines n (trees.Prints value) = refl
  stmt_given lines n (trees.Syncs names event) = ap (λ zs. (symbols.Sync, get_or lines n 0) ∷ zs) (event_given lines (n + 1) event)
  stmt_given lines n (trees.Branches test first second) =
      ap (λ zs. (symbols.If, get_or lines n 0) ∷ zs)
      (ap₂ (λ (xs ys : List Word). xs ++ ys) (block_given lines (n + 1) first) (block_given lines (n + 1 + count_block first) second)
      ∙ sym (given_append lines (n + 1) (n + 1 + count_block first) (block_symbols first) (block_symbols second) (omega (arith, block_count first))))
  stmt_given lines n (trees.Loops times names event rest) =
      ap (λ zs. (symbols.Loop, get_or lines n 0) ∷ (symbols.Sync, get_or lines (n + 1) 0) ∷ zs)
      (ap₂ (λ (xs ys : List Word). xs ++ ys) (event_given lines (n + 1 + 1) event) (block_given lines (n + 1 + 1 + count_event event) rest)
      ∙ sym (given_append lines (n + 1 + 1) (n + 1 + 1 + count_event event) (event_symbols event) (block_symbols rest) (omega (arith, event_count event))))
  stmt_given lines n (trees.LoopsForever names event rest) =
      ap (λ zs. (symbols.Forever, get_or lines n 0) ∷ (symbols.Sync, get_or lines (n + 1) 0) ∷ zs)
      (ap₂ (λ (xs ys : List Word). xs ++ ys) (event_given lines (n + 1 + 1) event) (block_given lines (n + 1 + 1 + count_event event) rest)
      ∙ sym (given_append lines (n + 1 + 1) (n + 1 + 1 + count_event event) (event_symbols event) (block_symbols rest) (omega (arith, event_count event))))
  stmt_given lines n trees.Ends = refl
  stmt_given lines n (trees.Spawns process) = refl

  block_given : (lines : List ℕ) (n : ℕ) (b : trees.Block) → block_words (lined_block lines n b) ≡ given lines n (block_symbols b)
  block_given lines n trees.Stops = refl
  block_given lines n (trees.Runs stmt rest) =
      ap₂ (λ (xs ys : List Word). xs ++ ys) (stmt_given lines n stmt) (block_given lines (n + 1 + count_stmt stmt) rest)
      ∙ sym (given_append lines n (n + 1 + count_stmt stmt) (stmt_symbols stmt) (block_symbols rest) (omega (arith, stmt_count stmt)))

all_given : (lines : List ℕ) (n : ℕ) (ps : List Proc) → flat_map block_words (lined_all lines n ps) ≡ given lines n (all_symbols ps)
all_given lines n [] = refl
all_given lines n (p ∷ ps) =
    ap₂ (λ (xs ys : List Word). xs ++ ys) (block_given lines n p.body) (all_given lines (n + count_block p.body) ps)
    ∙ sym (given_append lines n (n + count_block p.body) (block_symbols p.body) (all_symbols ps) (omega (arith, block_count p.body)))

-- words that get their own lines
given_own : (lines : List ℕ) (n : ℕ) (ws : List Word) → ((k : ℕ) → get_or (map line_of ws) k 0 ≡ get_or lines (n + k) 0) → given lines n (map (λ (w : Word). w.0) ws) ≡ ws
given_own lines n [] same = refl
given_own lines n (w ∷ ws) same =
    let first : get_or lines n 0 ≡ w.1 = (let none : n + 0 ≡ n = omega arith in ap (λ k. get_or lines k 0) (sym none) ∙ sym (same 0)) in
    ap₂ (λ (line : ℕ) (zs : List Word). (w.0, line) ∷ zs) first
    (given_own lines (n + 1) ws (λ k. let next : n + suc k ≡ n + 1 + k = omega arith in same (suc k) ∙ ap (λ m. get_or lines m 0) next))

-- The trees with the lines of these words have these words, if their statements are written with them.
pub lined_words : (ws : List Word) (ps : List Proc) → map (λ (w : Word). w.0) ws ≡ all_symbols ps → flat_map block_words (lined_all (map line_of ws) 0 ps) ≡ ws
lined_words ws ps said =
    let lines = map line_of ws in
    all_given lines 0 ps
    ∙ ap (given lines 0) (sym said)
    ∙ given_own lines 0 ws (λ k. let none : k ≡ 0 + k = omega arith in ap (λ m. get_or lines m 0) none)

-- WITHOUT THEIR LINES

mutual
  event_plain : (lines : List ℕ) (n : ℕ) (e : trees.Event) → plain_event (lined_event lines n e) ≡ e
  event_plain lines n (trees.Sends channel list) = refl
  event_plain lines n (trees.Receives channel) = refl
  event_plain lines n (trees.IsReady list) = refl
  event_plain lines n trees.IsNever = refl
  event_plain lines n (trees.IsCancelled nack) = refl
  event_plain lines n (trees.IsJoined process) = refl
  event_plain lines n (trees.Chooses members) = ap trees.Chooses (members_plain lines n members)
  event_plain lines n (trees.Wraps event names list) = ap (λ e. trees.Wraps e names list) (event_plain lines n event)
  event_plain lines n (trees.Guards body event) = ap₂ trees.Guards (block_plain lines n body) (event_plain lines (n + count_block body) event)
  event_plain lines n (trees.Nacks name body event) = ap₂ (trees.Nacks name) (block_plain lines n body) (event_plain lines (n + count_block body) event)

  members_plain : (lines : List ℕ) (n : ℕ) (es : trees.Events) → plain_members (lined_members lines n es) ≡ es
  members_plain lines n trees.NoMembers = refl
  members_plain lines n (trees.Members event others) = ap₂ trees.Members (event_plain lines n event) (members_plain lines (n + count_event event) others)

  stmt_plain : (lines : List ℕ) (n : ℕ) (s : trees.Stmt) → plain_stmt (lined_stmt lines n s) ≡ s
  stmt_plain lines n (trees.Lets name value) = refl
  stmt_plain lines n (trees.Prints value) = refl
  stmt_plain lines n (trees.Syncs names event) = ap (trees.Syncs names) (event_plain lines n event)
  stmt_plain lines n (trees.Branches test first second) = ap₂ (trees.Branches test) (block_plain lines n first) (block_plain lines (n + count_block first) second)
  stmt_plain lines n (trees.Loops times names event rest) = ap₂ (trees.Loops times names) (event_plain lines (n + 1) event) (block_plain lines (n + 1 + count_event event) rest)
  stmt_plain lines n (trees.LoopsForever names event rest) = ap₂ (trees.LoopsForever names) (event_plain lines (n + 1) event) (block_plain lines (n + 1 + count_event event) rest)
  stmt_plain lines n trees.Ends = refl
  stmt_plain lines n (trees.Spawns process) = refl

  pub block_plain : (lines : List ℕ) (n : ℕ) (b : trees.Block) → plain_block (lined_block lines n b) ≡ b
  block_plain lines n trees.Stops = refl
  block_plain lines n (trees.Runs stmt rest) = ap₂ trees.Runs (stmt_plain lines (n + 1) stmt) (block_plain lines (n + 1 + count_stmt stmt) rest)

-- a tree that has these lines is the block
pub tree_plain : (lines : List ℕ) (n : ℕ) (tree : Tree) (b : trees.Block) → lined.block_of tree ≡ lined_block lines n b → trees.block_of tree ≡ b
tree_plain lines n tree b is = sym (tree_is_plain tree) ∙ ap plain_block is ∙ block_plain lines n b

-- one process more
pub all_more : (lines : List ℕ) (n : ℕ) (ps : List Proc) (p : Proc) → lined_all lines n (ps ++ p ∷ []) ≡ lined_all lines n ps ++ lined_block lines (n + count_all ps) p.body ∷ []
all_more lines n [] p = (let none : n ≡ n + 0 = omega arith in ap (λ k. lined_block lines k p.body ∷ []) none)
all_more lines n (q ∷ ps) p =
    let next : n + count_block q.body + count_all ps ≡ n + (count_block q.body + count_all ps) = omega arith in
    ap (λ zs. lined_block lines n q.body ∷ zs) (all_more lines (n + count_block q.body) ps p ∙ ap (λ k. lined_all lines (n + count_block q.body) ps ++ lined_block lines k p.body ∷ []) next)

pub count_more : (ps : List Proc) (p : Proc) → count_all (ps ++ p ∷ []) ≡ count_all ps + count_block p.body
count_more [] p = omega arith
count_more (q ∷ ps) p = omega (arith, count_more ps p)

-- what was read, with one process more
pub line_one_more : (lines : List ℕ) (old new : List SeenProc) (p : SeenProc) (n m : ℕ) (body : trees.Block) (read : Proc) → new ≡ old ++ p ∷ [] → proc_of p ≡ read → read.body ≡ body → lined_of p ≡ lined_block lines n body → m ≡ n + count_block body
    → trees_in old ≡ lined_all lines 0 (map proc_of old) → n ≡ count_all (map proc_of old) → (trees_in new ≡ lined_all lines 0 (map proc_of new)) × (m ≡ count_all (map proc_of new))
line_one_more lines old new p n m body read is reads has tree next before taken =
    let ps = map proc_of old in
    let all : map proc_of new ≡ ps ++ read ∷ [] = ap (map proc_of) is ∙ map-append proc_of old (p ∷ []) ∙ ap (λ q. ps ++ q ∷ []) reads in
    let one : lined_of p ≡ lined_block lines (0 + count_all ps) read.body = (let from : n ≡ 0 + count_all ps = omega (arith, taken) in tree ∙ ap₂ (λ k b. lined_block lines k b) from (sym has)) in (
      ap trees_in is
          ∙ map-append lined_of old (p ∷ [])
          ∙ ap₂ (λ (xs : List lined.Block) x. xs ++ x ∷ []) before one
          ∙ sym (all_more lines 0 ps read)
          ∙ ap (lined_all lines 0) (sym all),
      omega (arith, next, taken, count_more ps read, ap count_all all, ap count_block has),
    )

-- an error is no value
pub no_ok : {X : Type 0} (r : Result X Stop) (P : X → Type 0) (e : Stop) → IsErrAnd r (λ y. y ≡ e) → IfOk r P
no_ok r P e left = (let p = err_from_is_err_and r left in rw p.1 tt)

-- the lines of the words of a text, with one token more
lines_more : (ps : List Placed) (p : Placed) → map line_of (text_words (seen (ps ++ p ∷ []))) ≡ map line_of (text_words (seen ps)) ++ map line_of (word_at (seen_at p))
lines_more [] p = ap (map line_of) (append-nil (word_at (seen_at p)))
lines_more (q ∷ ps) p =
    map-append line_of (word_at (seen_at q)) (text_words (seen (ps ++ p ∷ [])))
    ∙ ap (λ zs. map line_of (word_at (seen_at q)) ++ zs) (lines_more ps p)
    ∙ sym (append_assoc (map line_of (word_at (seen_at q))) (map line_of (text_words (seen ps))) (map line_of (word_at (seen_at p))))
    ∙ ap (λ zs. zs ++ map line_of (word_at (seen_at p))) (sym (map-append line_of (word_at (seen_at q)) (text_words (seen ps))))

-- the lines of the words of the first tokens, with the next token
pub lines_step : (tokens : List Placed) (i : ℕ) (none : Placed) (old new : List ℕ) → i < length tokens → old ≡ map line_of (text_words (seen (take i tokens)))
    → new ≡ old ++ map line_of (word_at (seen_at (get_or tokens i none))) → new ≡ map line_of (text_words (seen (take (i + 1) tokens)))
lines_step tokens i none old new low before is =
    let p = get_or tokens i none in
    is
    ∙ ap (λ zs. zs ++ map line_of (word_at (seen_at p))) before
    ∙ sym (lines_more (take i tokens) p)
    ∙ ap (λ (ps : List Placed). map line_of (text_words (seen ps))) (sym (take_more tokens i none low))
