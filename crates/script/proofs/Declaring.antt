-- Declarations and processes, one after another.
use Rattle.std.proofs.Common.{◌≡◌, ℕ, true, false, eqb, List, [], ◌∷◌, ◌++◌, length, Some, None, Ok, refl, sym}
use Rattle.script_token.specs.Tokens.{Token}
use Rattle.script_tree.specs.Trees.{Block}
use Rattle.script_reader.specs.Steps.{next_is, expect_at, Here, start}
use Rattle.script_reader.specs.Blocks.{block_at}
use Rattle.script_reader.specs.declared.process.Loops.TheVariants.{Allowed}
use Rattle.script.specs.Scripts.{Drawn, proc_from, declare_at, channel_step, channel_next, process_step, process_next}
use Rattle.script_token.specs.declared.kind.Symbol.TheVariants.{Channel, Process}

pub channel_step-some : (s : List (List ℕ) × List Token) → true ≡ next_is Channel s.1 → channel_step s ≡ Some (channel_next s)
channel_step-some s e = rw (sym e) refl

pub channel_step-none : (s : List (List ℕ) × List Token) → false ≡ next_is Channel s.1 → channel_step s ≡ None
channel_step-none s e = rw (sym e) refl

pub process_step-some : (s : Drawn) → false ≡ eqb (length s.2) 0 → process_step s ≡ Some (process_next s)
process_step-some s e = rw (sym e) refl

pub process_step-none : (s : Drawn) → true ≡ eqb (length s.2) 0 → process_step s ≡ None
process_step-none s e = rw (sym e) refl

pub process_next-ok : (s : Drawn) (rest behind : List Token) (name : List ℕ) (new : List (List ℕ)) (b : Block × Here × List Token)
    → expect_at 49 Process s.2 ≡ Ok rest → declare_at 64 s.1.processes rest ≡ Ok (name, new, behind) → block_at 49 Allowed (start s.1.channels s.1.processes s.1.spawned) behind ≡ Ok b
    → process_next s ≡ Ok (s.0 ++ proc_from name b.0 b.1 ∷ [], record b.1 { processes = new }, b.2)
unfolding process_next
process_next-ok s rest behind name new b e f g = rw (e, f, g) refl
