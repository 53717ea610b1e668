-- The lines in the trees of a script are those of its text.
use Rattle.std.proofs.Common.{◌≡◌, ℕ, List, map, Result, Ok, Err, IfOk, sym, ap, ◌∙◌}
use Rattle.std.specs.List.{flat_map}
use Rattle.std.proofs.lemmas.List.Folds.{flat_map-map}
use Rattle.script_token.specs.Lexemes.{placed_tokens}
use Rattle.script_tree.specs.Lined.{Block}
use Rattle.script_tree.specs.Processes.{tree_of}
use Rattle.script.specs.declared.script.Script.{Script as SeenScript}
use Rattle.script.specs.declared.fault.ScriptFault.{ScriptFault}
use Rattle.script.specs.Lines.{AreLined, line_of, text_words, trees_of_script, tree_words, block_words}
use Rattle.script.specs.Lining.{lined_all, lined_of, trees_in}
use Rattle.script.specs.Scripts.{script_of}
use Rattle.script.specs.Spelling.{Spells}
use Rattle.script.proofs.Symbols.{text_says, words_symbols}
use Rattle.script.proofs.Given.{lined_words}

script_lined : (bytes : List ℕ) (s : SeenScript) → Spells bytes (script_of s) → trees_in s.processes.items ≡ lined_all (map line_of (text_words (placed_tokens bytes))) 0 (script_of s).processes → AreLined bytes (trees_of_script s)
script_lined bytes s h trees =
    let ps = s.processes.items in
    let ws = text_words (placed_tokens bytes) in
    flat_map-map tree_words tree_of ps
    ∙ sym (flat_map-map block_words lined_of ps)
    ∙ ap (λ (ts : List Block). flat_map block_words ts) trees
    ∙ lined_words ws (script_of s).processes (words_symbols (placed_tokens bytes) ∙ text_says bytes (script_of s) h)

pub answers_lined : (bytes : List ℕ) (r : Result SeenScript ScriptFault) → IfOk r (λ s. Spells bytes (script_of s))
    → IfOk r (λ s. trees_in s.processes.items ≡ lined_all (map line_of (text_words (placed_tokens bytes))) 0 (script_of s).processes) → IfOk r (λ s. AreLined bytes (trees_of_script s))
answers_lined bytes (Ok s) h trees = script_lined bytes s h trees
answers_lined bytes (Err e) h trees = tt
