use Rattle.std.proofs.Common.{◌≡◌, ℕ, ◌<◌, List, [], ◌∷◌, ◌++◌, map, length, Bor, Ok, refl, sym, ap, ap₂, ◌∙◌, subst, arith}
use Rattle.script_token.specs.Tokens.{Token}
use Rattle.script_tree.specs.Trees.{Block, block_of}
use Rattle.script_tree.specs.Processes.{Proc, proc_of}
use Rattle.script_grammar.specs.Meaning.{place}
use Rattle.script_reader.specs.Places.{texts}
use Rattle.script_reader.specs.Steps.{Here, bare, here, start}
use Rattle.script_reader.specs.Blocks.{block_at}
use Rattle.script_reader.specs.declared.process.Loops.TheVariants.{Allowed}
use Rattle.script_reader.proofs.Giving.{map_more}
use Rattle.script_reader.proofs.KeepingBlocks.{process_read}
use Rattle.script.specs.Scripts.{drawn}
use Rattle.script.specs.Scripts.{proc_from}
use Rattle.script.proofs.Given.{line_one_more}
use Rattle.script.proofs.Declaring.{process_next-ok}
use Rattle.script.proofs.KeepingScripts.{processes_stay}
use Rattle.script.proofs.reading.process.Goals as goal

pub proc_with-requires-clause-limits : goal.proc_with-requires-clause-limits
proc_with-requires-clause-limits c = process_read _ _ _ c.in_ok-block.ensures

pub proc_with-requires-clause-place : goal.proc_with-requires-clause-place
proc_with-requires-clause-place c =
    let stay : texts c.read_block.new.scope.processes.names.items ≡ texts c.args.draft.now.scope.processes.names.items = processes_stay _ _ _ c.in_ok-block.ensures in
    subst (λ (ns : List (List ℕ)). length ns < 64) (sym stay) c.in_ok-name.ensures.few

pub add-requires : goal.add-requires
add-requires c = ap (place c.in_ok-name.name.now) (processes_stay _ _ _ c.in_ok-block.ensures) ∙ c.in_ok-name.ensures.new

pub invariant_of-scope-3 : goal.invariant_of-scope-3
invariant_of-scope-3 c =
    let stay : texts c.read_block.new.scope.processes.names.items ≡ texts c.args.draft.now.scope.processes.names.items = processes_stay _ _ _ c.in_ok-block.ensures in
    record { few = omega (arith, c.add.ensures.count, ap length stay, c.in_ok-name.ensures.few) }

pub returns : goal.returns
returns c =
    let d = c.args.draft.now in
    let s = drawn d (bare c.args.tokens.now) in
    let b : Block × Here × List Token = (block_of c.in_ok-block.block, here c.read_block.new.scope, bare c.in_ok-block.rest.now) in
    let name = c.in_ok-name.name.now in
    let stay : texts c.read_block.new.scope.processes.names.items ≡ s.1.processes = processes_stay _ _ _ c.in_ok-block.ensures in
    let block : block_at 49 Allowed (start s.1.channels s.1.processes s.1.spawned) (bare c.in_ok-name.rest.now) ≡ Ok b =
    ap (λ (vs : List (Bor (List ℕ))). block_at 49 Allowed (record (start s.1.channels s.1.processes s.1.spawned) { variables = texts vs }) (bare c.in_ok-name.rest.now)) (sym c.new.ensures) ∙ c.in_ok-block.ensures in
    let next = process_next-ok s (bare c.in_ok-rest.rest.now) (bare c.in_ok-name.rest.now) name (s.1.processes ++ name ∷ []) b c.in_ok-rest.ensures.value c.in_ok-name.ensures.value block in
    let added : texts c.add.new.self.names.items ≡ s.1.processes ++ name ∷ [] = c.in_ok-add.ensures.value ∙ ap (λ (ns : List (List ℕ)). ns ++ name ∷ []) stay in
    let pushed : map proc_of c.push.new.self.items ≡ s.0 ++ proc_of c.in_ok-process.process ∷ [] = map_more proc_of d.processes.items c.push.new.self.items c.in_ok-process.process c.in_ok-push.ensures.items in
    let processes = pushed ∙ ap (λ (p : Proc). s.0 ++ p ∷ []) c.in_ok-process.ensures.value in
    record {
      value = next ∙ ap₂ (λ (ps : List Proc) (ns : List (List ℕ)). Ok (ps, record b.1 { processes = ns }, b.2)) (sym processes) (sym added);
      lined = λ old. let more = line_one_more c.args.lines.now d.processes.items c.push.new.self.items c.in_ok-process.process d.next c.proc_with.new.next (block_of c.in_ok-block.block) (proc_from name (block_of c.in_ok-block.block) (here c.read_block.new.scope)) c.in_ok-push.ensures.items c.in_ok-process.ensures.value refl c.in_ok-process.ensures.lined c.in_ok-process.ensures.next old.trees old.next in record { trees = more.0; next = more.1 };
    }
