use Rattle.std.proofs.Common.{◌≡◌, ◌++◌, Global, ap, ap₂, ◌∙◌, subst, List, ℕ}
use Rattle.std.specs.String.{string_bytes}
use Rattle.std.specs.declared.string.String.{String}
use Rattle.script_token.specs.Tokens.{Token}
use Rattle.script_token.specs.Lexemes.{last_line, placed_tokens}
use Rattle.script.specs.Scripts.{line_left}
use Rattle.script_mistakes.specs.Places.{column_at, place_left}
use Rattle.script_mistakes.specs.Telling.{fault_line, problem_words}
use Rattle.script_mistakes.proofs.telling.head.Goals as goal

-- the text is this
abbrev Says : String Global → List ℕ → Type 0
Says made text = string_bytes made ≡ text

pub returns : goal.returns
returns c =
    let bytes = c.args.bytes.now in
    let left = c.args.fault.left in
    let line : c.line_left-line.result ≡ line_left (placed_tokens bytes) (last_line bytes) left =
    c.line_left-line.ensures ∙ ap₂ (λ (ps : List (Token × ℕ)) (last : ℕ). line_left ps last left) c.requires.tokens.0 c.requires.tokens.1 in
    let column : c.column_at-column.result ≡ column_at bytes (place_left bytes left) = c.column_at-column.ensures.column ∙ ap (column_at bytes) c.requires.at in
    let p = c.args.fault.problem in
    let a = subst (λ (w : List ℕ). Says c.push_fault.new.out (fault_line c.number_of-number.result c.line_left-line.result c.column_at-column.result w)) c.problem_words-words.ensures (c.in_ok-push_fault.ensures ∙ ap (λ (x : List ℕ). x ++ fault_line c.number_of-number.result c.line_left-line.result c.column_at-column.result c.problem_words-words.result.now) c.new-text.ensures.bytes) in
    let b = subst (λ (n : ℕ). Says c.push_fault.new.out (fault_line c.number_of-number.result c.line_left-line.result n (problem_words p left))) column a in
    let d = subst (λ (n : ℕ). Says c.push_fault.new.out (fault_line c.number_of-number.result n (column_at bytes (place_left bytes left)) (problem_words p left))) line b in
    subst (λ (n : ℕ). Says c.push_fault.new.out (fault_line n (line_left (placed_tokens bytes) (last_line bytes) left) (column_at bytes (place_left bytes left)) (problem_words p left))) c.number_of-number.ensures d
