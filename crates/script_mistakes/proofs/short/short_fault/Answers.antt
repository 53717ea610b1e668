use Rattle.std.proofs.Common.{◌≡◌, ◌++◌, Err, Global, ap, ap₂, ◌∙◌, subst, List, ℕ}
use Rattle.std.specs.String.{string_bytes}
use Rattle.std.specs.declared.string.String.{String}
use Rattle.script_token.specs.Tokens.{Token}
use Rattle.script_token.specs.Lexemes.{last_line, placed_tokens}
use Rattle.script_reader.specs.Steps.{told}
use Rattle.script.specs.Scripts.{line_left, script_at, tokens_of}
use Rattle.script_mistakes.specs.Places.{column_at, place_left}
use Rattle.script_mistakes.specs.Short.{short_line}
use Rattle.script_mistakes.specs.Telling.{problem_words}
use Rattle.script_mistakes.proofs.Bare.{bare_is}
use Rattle.script_mistakes.proofs.short.short_fault.Goals as goal

-- the text is this
abbrev Says : String Global → List ℕ → Type 0
Says made text = string_bytes made ≡ text

pub returns : goal.returns
returns c =
    let bytes = c.args.bytes.now in
    let name = c.args.name.now in
    let left = c.args.fault.left in
    let p = c.args.fault.problem in
    let tokens = bare_is c.args.tokens.now.placed.items bytes c.requires.tokens.0 in
    let line : c.line_left-line.result ≡ line_left (placed_tokens bytes) (last_line bytes) left =
    c.line_left-line.ensures ∙ ap₂ (λ (ps : List (Token × ℕ)) (last : ℕ). line_left ps last left) c.requires.tokens.0 c.requires.tokens.1 in
    let column : c.column_at-column.result ≡ column_at bytes (place_left bytes left) = c.column_at-column.ensures.column ∙ ap (column_at bytes) c.place_left-at.ensures in
    let a = subst (λ (w : List ℕ). Says c.push_short.new.out (short_line name c.line_left-line.result c.column_at-column.result c.number_of-number.result w)) c.problem_words-words.ensures
    (c.in_ok-push_short.ensures ∙ ap (λ (x : List ℕ). x ++ short_line name c.line_left-line.result c.column_at-column.result c.number_of-number.result c.problem_words-words.result.now) c.new-text.ensures.bytes) in
    let b = subst (λ (n : ℕ). Says c.push_short.new.out (short_line name c.line_left-line.result n c.number_of-number.result (problem_words p left))) column a in
    let d = subst (λ (n : ℕ). Says c.push_short.new.out (short_line name n (column_at bytes (place_left bytes left)) c.number_of-number.result (problem_words p left))) line b in
    let e = subst (λ (n : ℕ). Says c.push_short.new.out (short_line name (line_left (placed_tokens bytes) (last_line bytes) left) (column_at bytes (place_left bytes left)) n (problem_words p left))) c.number_of-number.ensures d in
    record {
      fits = c.requires.fits;
      told = told c.args.fault;
      is = subst (λ (x : List Token). script_at x ≡ Err (told c.args.fault)) tokens c.requires.fault;
      text_is = ap (λ v. v.items) c.into_bytes.ensures.value ∙ e;
    }
