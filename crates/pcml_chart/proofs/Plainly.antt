-- Names, messages, causes, what was printed and offers are plain.
use Rattle.std.proofs.Common.{◌≡◌, ℕ, zero, suc, ◌+◌, ◌%◌, ◌<◌, ◌≤◌, ◌^◌, Bool, true, ◌&&◌, List, [], ◌∷◌, ◌++◌, get_or, refl, ap₂, ◌∙◌, arith}
use Rattle.std.specs.Prelude.{codes, map}
use Rattle.std.specs.Fmt.{decimal}
use Rattle.std.specs.List.{AllByRecursion, list_all}
use Rattle.std.proofs.lemmas.Bool.Decides.{nat_tests}
use Rattle.std.proofs.lemmas.Fmt.{decimal_by_steps}
use Rattle.std.proofs.lemmas.List.Folds.{list_all-append}
use Rattle.script_token.specs.Tokens.{is_name, is_word}
use Rattle.protocol_values.specs.declared.Atom.{Atom}
use Rattle.protocol_values.specs.declared.Atom.TheVariants.{Num, Chan, Nack}
use Rattle.protocol_values.specs.declared.Base.TheVariants as base
use Rattle.protocol_values.specs.declared.Cause.TheVariants as causes
use Rattle.protocol_values.specs.declared.Message.TheVariants.{Empty, One, Two, Three}
use Rattle.protocol_values.specs.declared.NackName.{NackName}
use Rattle.script.specs.Sources.{Script}
use Rattle.script.specs.Spelling.{IsSpelled}
use Rattle.script.proofs.Declared.{declares_names}
use Rattle.journal_text.specs.Journals.{HasAtom, HasNack}
use Rattle.journal_text.specs.Names.{names_of, named}
use Rattle.journal_text.specs.Texts.{atom_text, message_text, nack_text}
use Rattle.journal_text.specs.Endings.{printed_text}
use Rattle.pcml_chart.specs.Plain.{is_plain, IsPlain, NamesArePlain, MessagesArePlain, CausesArePlain, PrintedIsPlain, OffersArePlain}

plain_both : (xs ys : List ℕ) → IsPlain xs → IsPlain ys → IsPlain (xs ++ ys)
plain_both xs ys first second = list_all-append is_plain xs ys ∙ ap₂ (λ (a b : Bool). a && b) first second

-- NUMBERS

digit_plain : (n : ℕ) → n < 10 → IsPlain ((48 + n) ∷ [])
digit_plain n small = grind (arith, nat_tests)

digits_plain : (n : ℕ) (ds : List ℕ) → 10 ≤ n → IsPlain ds → IsPlain (ds ++ ((48 + n % 10) ∷ []))
digits_plain n ds large first = plain_both ds ((48 + n % 10) ∷ []) first (digit_plain (n % 10) (omega arith))

decimal_plain : (n : ℕ) → n < 2 ^ 64 → IsPlain (decimal n)
decimal_plain n small = decimal_by_steps (λ n bs. IsPlain bs) digit_plain digits_plain n small

-- NAMES

word_plain : (w : List ℕ) → list_all is_word w ≡ true → IsPlain w
word_plain [] h = refl
word_plain (b ∷ w) h = let later : list_all is_word w ≡ true → IsPlain w = word_plain w in grind (arith, nat_tests, later)

name_plain : (w : List ℕ) → is_name w ≡ true → IsPlain w
name_plain w h = word_plain w (grind (arith, nat_tests))

one_plain : (texts : List (List ℕ)) → AllByRecursion (λ text. is_name text ≡ true) texts → (n : ℕ) → IsPlain (get_or texts n [])
one_plain [] all n = refl
one_plain (w ∷ texts) all zero = name_plain w all.0
one_plain (w ∷ texts) all (suc n) = one_plain texts all.1 n

pub names_plain : NamesArePlain
names_plain s spelled n =
    let names = declares_names s spelled in
    (one_plain (map (λ p. p.name) s.processes) names.1.0 n, one_plain s.channels names.0.0 n)

-- MESSAGES AND CAUSES

nack_plain : (s : Script) → IsSpelled s → (n : NackName) → HasNack (names_of s) n → IsPlain (nack_text (named s) n)
nack_plain s spelled n has =
    let name = (names_plain s spelled n.thread).0 in
    let few : n.k ≤ 63 = has.1 in
    plain_both ((named s).thread n.thread ++ codes ".") (decimal n.k) (plain_both ((named s).thread n.thread) (codes ".") name refl) (decimal_plain n.k (omega arith))

atom_plain : (s : Script) → IsSpelled s → (a : Atom) → HasAtom (names_of s) a → IsPlain (atom_text (named s) a)
atom_plain s spelled (Num n) has = let low : n ≤ 4294967295 = has in decimal_plain n (omega arith)
atom_plain s spelled (Chan c) has = plain_both (codes "#") ((named s).channel c) refl (names_plain s spelled c).1
atom_plain s spelled (Nack n) has = plain_both (codes "!") (nack_text (named s) n) refl (nack_plain s spelled n has)

-- one more atom behind others
behind : (s : Script) (front : List ℕ) (a : Atom) (text : List ℕ) → IsSpelled s → HasAtom (names_of s) a → IsPlain front → IsPlain text → IsPlain (front ++ atom_text (named s) a ++ text)
behind s front a text spelled has first last =
    plain_both (front ++ atom_text (named s) a) text (plain_both front (atom_text (named s) a) first (atom_plain s spelled a has)) last

pub messages_plain : MessagesArePlain
messages_plain s spelled Empty has = refl
messages_plain s spelled (One a) has = behind s (codes "(") a (codes ")") spelled has refl refl
messages_plain s spelled (Two a b) has =
    behind s (codes "(" ++ atom_text (named s) a ++ codes ", ") b (codes ")") spelled has.1 (behind s (codes "(") a (codes ", ") spelled has.0 refl refl) refl
messages_plain s spelled (Three a b c) has =
    let two = behind s (codes "(" ++ atom_text (named s) a ++ codes ", ") b (codes ", ") spelled has.0.1 (behind s (codes "(") a (codes ", ") spelled has.0.0 refl refl) refl in
    behind s (codes "(" ++ atom_text (named s) a ++ codes ", " ++ atom_text (named s) b ++ codes ", ") c (codes ")") spelled has.1 two refl

pub causes_plain : CausesArePlain
causes_plain s spelled (causes.Always m) has = plain_both (codes "always ") (message_text (named s) m) refl (messages_plain s spelled m has)
causes_plain s spelled (causes.Nack n) has = plain_both (codes "cancelled ") (nack_text (named s) n) refl (nack_plain s spelled n has)
causes_plain s spelled (causes.End t) has = plain_both (codes "joined ") ((named s).thread t) refl (names_plain s spelled t).0

-- WHAT WAS PRINTED, AND OFFERS

pub printed_plain : PrintedIsPlain
printed_plain s spelled [] all = refl
printed_plain s spelled (a ∷ printed) all =
    plain_both (codes " " ++ atom_text (named s) a) (printed_text (named s) printed) (plain_both (codes " ") (atom_text (named s) a) refl (atom_plain s spelled a all.0)) (printed_plain s spelled printed all.1)

pub offers_plain : OffersArePlain
offers_plain s spelled (base.Send c m) has =
    plain_both (codes "send " ++ (named s).channel c ++ codes " ") (message_text (named s) m)
    (plain_both (codes "send " ++ (named s).channel c) (codes " ") (plain_both (codes "send ") ((named s).channel c) refl (names_plain s spelled c).1) refl)
    (messages_plain s spelled m has)
offers_plain s spelled (base.Recv c) has = plain_both (codes "recv ") ((named s).channel c) refl (names_plain s spelled c).1
offers_plain s spelled (base.Always m) has = causes_plain s spelled (causes.Always m) has
offers_plain s spelled (base.OnNack n) has = causes_plain s spelled (causes.Nack n) has
offers_plain s spelled (base.OnEnd t) has = plain_both (codes "joined ") ((named s).thread t) refl (names_plain s spelled t).0
offers_plain s spelled base.Never has = refl
