-- Blocks, and events, statements, blocks and turns together: each is read by the readers of what lies
-- inside, with less nesting.
use Rattle.std.proofs.Common.{◌≡◌, ℕ, zero, suc, ◌+◌, ◌-◌, ◌<◌, List, [], length, Ok, Err, refl, arith}
use Rattle.script_token.specs.Tokens.{Token}
use Rattle.script_token.specs.declared.kind.Symbol.TheVariants.{OpenBrace, CloseBrace}
use Rattle.script_tree.specs.Trees as trees
use Rattle.script_reader.specs.Steps.{◌>>=◌, next_is, expect_at, Here}
use Rattle.script_reader.specs.declared.fault.Problem.TheVariants.{Syntax}
use Rattle.script_reader.specs.Blocks.{body, ReadsEvent, ReadsBlock, ReadsStmt, ReadsTurn, are_allowed, stmt_with, stmts_with, block_with, none_there, event_at, block_at, turn_at, stmt_at}
use Rattle.script_reader.specs.declared.process.Loops.{Loops as Place}
use Rattle.script_reader.specs.declared.process.Loops.TheVariants.{Allowed, Forbidden}
use Rattle.script_reader.proofs.KeepingBlocks.{deeper}
use Rattle.script_faults.specs.Laws.{Any}
use Rattle.script_faults.specs.Notes.{plain}
use Rattle.script_faults.proofs.Facts.{Lang, Facts, seq, then, turned, one_clean}
use Rattle.script_faults.proofs.Words.{some_room, word, expect_facts}
use Rattle.script_faults.proofs.Events.{event_lang, block_lang, event_facts}
use Rattle.script_faults.proofs.Stmts.{stmt_lang, turn_lang, body_lang, stmt_facts, body_facts}
use Rattle.script_faults.proofs.Turns.{turn_facts}

-- BLOCKS

module _ (stmt : ReadsStmt) (nesting : ℕ) (place : Place) (stmts : 0 < nesting → (h : Here) → Facts Any (stmt_lang (are_allowed place) (nesting - 1) h) (stmt place h)) (ends : (h : Here) → stmt place h [] ≡ Err (Syntax, 0)) (h : Here) where
  abbrev block_parts : Lang trees.Block (trees.Block × Here × List Token) Any
  block_parts = seq (word OpenBrace nesting) (λ w. body_lang (are_allowed place) (nesting - 1) h)

  block_reads : Facts Any block_parts (λ ts. block_with stmt nesting place h ts)
  unfolding block_with
  block_reads =
      then (word OpenBrace nesting) (λ w. body_lang (are_allowed place) (nesting - 1) h) (λ ts. expect_at nesting OpenBrace ts) (λ rest. stmts_with stmt place h rest >>= λ s. expect_at (nesting - 1) CloseBrace s.2 >>= λ rest. Ok (body s.0, s.1, rest)) (expect_facts nesting OpenBrace)
      (λ w x clean. body_facts stmt (nesting - 1) place (stmts (some_room nesting (one_clean (plain nesting) clean))) ends (λ (b : trees.Block). b) h)

  block_facts : Facts Any (block_lang (are_allowed place) nesting h) (λ ts. block_with stmt nesting place h ts)
  block_facts = turned block_parts (block_lang (are_allowed place) nesting h) (λ ts. block_with stmt nesting place h ts) (λ ts. block_with stmt nesting place h ts) (record {
    to = λ w. w.1;
    spell_to = λ w rest. refl;
    notes_to = λ w. refl;
    from = λ w. (tt, w);
    spell_from = λ w rest. refl;
    notes_from = λ w. refl;
    value = λ w x. x;
    oks = λ ts w x rest e. e;
    errs = λ ts t e. e;
  }) block_reads

-- STATEMENTS

stmt_ends : (event : ReadsEvent) (block : ReadsBlock) (turn : ReadsTurn) (nesting : ℕ) (place : Place) (h : Here) → stmt_with event block turn nesting place h [] ≡ Err (Syntax, 0)
unfolding stmt_with next_is
stmt_ends event block turn nesting Allowed h = refl
stmt_ends event block turn nesting Forbidden h = refl

-- TOGETHER

abbrev EventFacts : ReadsEvent → ℕ → Type 0
EventFacts event nesting = (h : Here) → Facts Any (event_lang nesting h) (λ ts. event h ts)

abbrev BlockFacts : ReadsBlock → ℕ → Type 0
BlockFacts block nesting = (place : Place) (h : Here) → Facts Any (block_lang (are_allowed place) nesting h) (λ ts. block place h ts)

abbrev StmtFacts : ReadsStmt → ℕ → Type 0
StmtFacts stmt nesting = (place : Place) (h : Here) → Facts Any (stmt_lang (are_allowed place) nesting h) (λ ts. stmt place h ts)

abbrev TurnFacts : ReadsTurn → ℕ → Type 0
TurnFacts turn nesting = (k : ℕ) (h : Here) → Facts Any (turn_lang (suc k) nesting h) (λ ts. turn (k + length ts) h ts)

stmts_together : (event : ReadsEvent) (block : ReadsBlock) (turn : ReadsTurn) (nesting : ℕ) → EventFacts event nesting → BlockFacts block nesting → TurnFacts turn nesting → StmtFacts (λ place h ts. stmt_with event block turn nesting place h ts) nesting
stmts_together event block turn nesting events blocks turns place h = stmt_facts event block turn nesting place events (blocks place) h (λ k. turns k h)

no_room : {P : Type 0} → 0 < 0 → P
no_room small = absurd (omega (arith, small))

mutual
  unfolding event_at block_at turn_at

  pub events_together : (nesting : ℕ) → EventFacts (event_at nesting) nesting
  events_together zero h = event_facts (λ h ts. none_there ts) (λ place h ts. none_there ts) zero no_room no_room h
  events_together (suc r) h = event_facts (event_at r) (block_at r) (suc r) (λ some. deeper (EventFacts (event_at r)) r (events_together r)) (λ some. deeper (BlockFacts (block_at r)) r (blocks_together r) Forbidden) h

  pub blocks_together : (nesting : ℕ) → BlockFacts (block_at nesting) nesting
  blocks_together zero place h = block_facts (λ place h ts. none_there ts) zero place no_room (λ h. refl) h
  blocks_together (suc r) place h =
      block_facts (λ place h ts. stmt_with (event_at r) (block_at r) (turn_at r) r place h ts) (suc r) place
      (λ some. deeper (StmtFacts (λ place h ts. stmt_with (event_at r) (block_at r) (turn_at r) r place h ts)) r (stmts_together (event_at r) (block_at r) (turn_at r) r (events_together r) (blocks_together r) (turns_together r)) place)
      (stmt_ends (event_at r) (block_at r) (turn_at r) r place) h

  pub turns_together : (nesting : ℕ) → TurnFacts (turn_at nesting) nesting
  turns_together zero k h = turn_facts (λ h ts. none_there ts) (λ place h ts. none_there ts) zero no_room no_room (λ h. refl) k h
  turns_together (suc r) k h =
      turn_facts (event_at r) (λ place h ts. stmt_with (event_at r) (block_at r) (turn_at r) r place h ts) (suc r)
      (λ some. deeper (EventFacts (event_at r)) r (events_together r))
      (λ some. deeper (StmtFacts (λ place h ts. stmt_with (event_at r) (block_at r) (turn_at r) r place h ts)) r (stmts_together (event_at r) (block_at r) (turn_at r) r (events_together r) (blocks_together r) (turns_together r)) Allowed)
      (stmt_ends (event_at r) (block_at r) (turn_at r) r Allowed) k h

pub stmts_facts : (nesting : ℕ) → StmtFacts (λ place h ts. stmt_at nesting place h ts) nesting
unfolding stmt_at
stmts_facts nesting = stmts_together (event_at nesting) (block_at nesting) (turn_at nesting) nesting (events_together nesting) (blocks_together nesting) (turns_together nesting)
