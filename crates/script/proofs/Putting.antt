-- Blocks and choices that are put together from the end.
use Rattle.std.proofs.Common.{◌≡◌, ℕ, ◌+◌, List, [], ◌∷◌, ◌++◌, Global, get_or, refl, sym, ap, ◌∙◌}
use Rattle.std.specs.declared.sync.Arc.{Arc}
use Rattle.script_tree.specs.declared.tree.Event.{Event as SeenEvent}
use Rattle.script_tree.specs.declared.tree.Stmt.{Stmt as SeenStmt}
use Rattle.script_tree.specs.Lined.{Block, Runs, Events, Members, event_of, stmt_of}
use Rattle.script_tree.specs.Trees as plain
use Rattle.script.specs.Lining.{count_event, count_stmt, lined_block, lined_event, lined_members, lined_stmt}

-- the statements with their lines, and then the block
abbrev pub before : List (SeenStmt × ℕ) → Block → Block
before [] block = block
before (s ∷ stmts) block = Runs (stmt_of s.0) s.1 (before stmts block)

pub before_last : (stmts : List (SeenStmt × ℕ)) (s : SeenStmt) (line : ℕ) (block : Block) → before (stmts ++ (s, line) ∷ []) block ≡ before stmts (Runs (stmt_of s) line block)
before_last [] s line block = refl
before_last (t ∷ stmts) s line block = ap (Runs (stmt_of t.0) t.1) (before_last stmts s line block)

-- the events, and then the other members
abbrev pub members_before : List (Arc SeenEvent Global) → Events → Events
members_before [] others = others
members_before (e ∷ es) others = Members (event_of e.value) (members_before es others)

pub members_before_last : (es : List (Arc SeenEvent Global)) (e : Arc SeenEvent Global) (others : Events) → members_before (es ++ e ∷ []) others ≡ members_before es (Members (event_of e.value) others)
members_before_last [] e others = refl
members_before_last (d ∷ es) e others = ap (Members (event_of d.value)) (members_before_last es e others)

-- one statement more
pub block_step : (lines : List ℕ) (parts one : List (SeenStmt × ℕ)) (done : SeenStmt) (line n m : ℕ) (stmt : plain.Stmt) (block rest : plain.Block) (whole : Block) → one ≡ parts ++ (done, line) ∷ [] → line ≡ get_or lines n 0 → stmt_of done ≡ lined_stmt lines (n + 1) stmt → m ≡ n + 1 + count_stmt stmt
    → block ≡ plain.Runs stmt rest → before parts (lined_block lines n block) ≡ whole → before one (lined_block lines m rest) ≡ whole
block_step lines parts one done line n m stmt block rest whole first at does_it next is same =
    ap (λ l. before l (lined_block lines m rest)) first
    ∙ before_last parts done line (lined_block lines m rest)
    ∙ ap (before parts) (λ i. Runs (does_it i) (at i) (lined_block lines (next i) rest))
    ∙ ap (λ b. before parts (lined_block lines n b)) (sym is)
    ∙ same

-- one member more
pub members_step : (lines : List ℕ) (parts one : List (Arc SeenEvent Global)) (done : Arc SeenEvent Global) (n m : ℕ) (event : plain.Event) (choice others : plain.Events) (whole : Events) → one ≡ parts ++ done ∷ [] → event_of done.value ≡ lined_event lines n event → m ≡ n + count_event event
    → choice ≡ plain.Members event others → members_before parts (lined_members lines n choice) ≡ whole → members_before one (lined_members lines m others) ≡ whole
members_step lines parts one done n m event choice others whole first does_it next is same =
    ap (λ l. members_before l (lined_members lines m others)) first
    ∙ members_before_last parts done (lined_members lines m others)
    ∙ ap (members_before parts) (λ i. Members (does_it i) (lined_members lines (next i) others))
    ∙ ap (λ e. members_before parts (lined_members lines n e)) (sym is)
    ∙ same
