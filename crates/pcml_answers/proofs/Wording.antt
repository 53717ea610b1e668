-- What a text of a name, `=` and a value names.
use Rattle.std.proofs.Common.{◌≡◌, ◌≢◌, ℕ, zero, suc, ◌<◌, ◌++◌, true, false, List, [], ◌∷◌, length, get_or, map, sym, ap, ◌∙◌, append_assoc, arith}
use Rattle.std.specs.Prelude.{IfSome, codes}
use Rattle.std.specs.Fmt.{decimal}
use Rattle.std.specs.List.{AllByRecursion, list_all}
use Rattle.std.proofs.lemmas.Bool.{and_parts}
use Rattle.std.proofs.lemmas.Fmt.{decimal_digit}
use Rattle.std.proofs.lemmas.List.{append-nil, length-map}
use Rattle.script_token.specs.Tokens.{is_letter, is_name, is_word}
use Rattle.script.specs.Sources.{Script}
use Rattle.script.specs.Spelling.{IsSpelled}
use Rattle.script.proofs.Declared.{declares_names}
use Rattle.protocol_values.specs.declared.Cause.TheVariants as causes
use Rattle.protocol_values.specs.declared.Message.TheVariants.{Empty, One, Three, Two}
use Rattle.protocol_values.specs.declared.Commit.{Commit}
use Rattle.protocol_values.specs.declared.Commit.TheVariants.{Alone, Pair}
use Rattle.journal_text.specs.Journals.{HasLine, Spells}
use Rattle.journal_text.specs.Names.{names_of, named}
use Rattle.journal_text.specs.Texts.{atom_text, commits_text}
use Rattle.journal_text.proofs.Chains.{at_place}
use Rattle.pcml_answers.specs.Prints.{HasWords, IsProcess, NamesPrint, only_value, value_line}
use Rattle.pcml_answers.specs.declared.prints.Print.{Print}

-- NAMES

-- a word has no `=`
no-equals : (word : List ℕ) → list_all is_word word ≡ true → (i : ℕ) → i < length word → get_or word i 0 ≢ 61
no-equals [] h i low e = absurd (omega (arith, low))
no-equals (b ∷ word) h zero low e =
    let is : is_word b ≡ true = (and_parts (is_word b) (list_all is_word word) h).0 in
    let clash : true ≡ false = sym is ∙ ap is_word e in absurd cc
no-equals (b ∷ word) h (suc i) low e = no-equals word (and_parts (is_word b) (list_all is_word word) h).1 i (omega (arith, low)) e

-- so a process's name has none
pub name-has-none : (s : Script) → IsSpelled s → (print : Print) → IsProcess s print → (i : ℕ) → i < length ((named s).thread print.process) → get_or ((named s).thread print.process) i 0 ≢ 61
name-has-none s spelled print is =
    let names = map (λ p. p.name) s.processes in
    let name = get_or names print.process [] in
    let within : print.process < length names = omega (arith, is, length-map s.processes (λ p. p.name)) in
    let its : is_name name ≡ true = at_place (λ text. is_name text ≡ true) names print.process (declares_names s spelled).1.0 within in
    no-equals name (and_parts (is_letter (get_or name 0 0)) (list_all is_word name) its).1

-- what is told behind its name
pub print-parts : (s : Script) (text : List ℕ) (print : Print) → NamesPrint s text print → text ≡ (named s).thread print.process ++ 61 ∷ atom_text (named s) print.value
print-parts s text print names = sym names.1 ∙ append_assoc ((named s).thread print.process) (61 ∷ []) (atom_text (named s) print.value)

-- AS A JOURNAL HAS IT

one-is : decimal 1 ≡ codes "1"
one-is = decimal_digit 1 (omega arith)

none-is : decimal 0 ≡ codes "0"
none-is = decimal_digit 0 (omega arith)

abbrev pub value_commit : Print → Commit
value_commit print = Alone (record { thread = print.process; sync = 0 }, 0) (causes.Always (One print.value)) 1

pub spells-value : (s : Script) (name value : List ℕ) (print : Print) → HasWords s name value print → Spells s (value_line name value) (value_commit print ∷ [])
spells-value s name value print has = record {
  lines = ((((omega arith, omega arith), (omega (arith, has.process, length-map s.processes (λ p. p.name)), omega arith, omega arith)), has.atom), tt);
  text = text;
}
  where
    text : value_line name value ≡ commits_text (named s) (value_commit print ∷ [])
    text =
        sym (ap (λ (n : List ℕ). value_line n (atom_text (named s) print.value)) has.name_is ∙ ap (λ (v : List ℕ). value_line name v) has.value_is)
        ∙ simp (one-is, none-is, append_assoc, append-nil)

-- what is read is of a process that is declared
pub value-is-of-process : (s : Script) (commits : List Commit) → AllByRecursion (HasLine (names_of s)) commits → IfSome (only_value commits) (IsProcess s)
value-is-of-process s [] lines = tt
value-is-of-process s (Pair sender receiver chan msg stamp ∷ more) lines = tt
value-is-of-process s (Alone at (causes.Nack n) stamp ∷ more) lines = tt
value-is-of-process s (Alone at (causes.End t) stamp ∷ more) lines = tt
value-is-of-process s (Alone at (causes.Always Empty) stamp ∷ more) lines = tt
value-is-of-process s (Alone at (causes.Always (Two a b)) stamp ∷ more) lines = tt
value-is-of-process s (Alone at (causes.Always (Three a b c)) stamp ∷ more) lines = tt
value-is-of-process s (Alone at (causes.Always (One value)) stamp ∷ []) lines = omega (arith, lines.0.0.1.0, length-map s.processes (λ p. p.name))
value-is-of-process s (Alone at (causes.Always (One value)) stamp ∷ next ∷ more) lines = tt
