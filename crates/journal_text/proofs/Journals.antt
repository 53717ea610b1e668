-- Reading a journal line by line, as the loop does; and bytes spell one list of commits at most, or break off
-- at one line.
use Rattle.std.proofs.Common.{◌≡◌, ◌≢◌, ℕ, ◌+◌, ◌<◌, List, [], ◌∷◌, ◌++◌, length, Some, None, refl, sym, ap, ◌∙◌, subst, append_assoc, arith, length-append}
use Rattle.std.specs.List.{AllByRecursion}
use Rattle.std.proofs.lemmas.List.{append-nil}
use Rattle.std.proofs.lemmas.List.Concat.{flat_map-append}
use Rattle.std.proofs.lemmas.Option.{some_pair_parts}
use Rattle.protocol_values.specs.declared.Commit.{Commit}
use Rattle.script.specs.Sources.{Script}
use Rattle.script.specs.Spelling.{IsSpelled}
use Rattle.digits.proofs.Forms.{Reads}
use Rattle.script.proofs.Declared.{declares_names}
use Rattle.journal_text.specs.Names.{names_of, named}
use Rattle.journal_text.specs.Texts.{commit_line, commits_text}
use Rattle.journal_text.specs.Journals.{HasLine, Spells, NoLineBegins, IsFirstBadLine, SpellsOnlyOne, SpellsOrIsBad, HasOneFirstBadLine}
use Rattle.journal_text.specs.Reading.{line_at}
use Rattle.journal_text.proofs.Lines.{lines}

-- what was read so far, and the rest of the bytes
pub record IsSoFar (s : Script) (bytes : List ℕ) (cs : List Commit) (rest : List ℕ) : Type 0 where
  pub lines : AllByRecursion (HasLine (names_of s)) cs
  pub text : bytes ≡ commits_text (named s) cs ++ rest

pub begun : (s : Script) (bytes : List ℕ) → IsSoFar s bytes [] bytes
begun s bytes = record { lines = tt; text = refl }

all_push : (P : Commit → Type 0) (xs : List Commit) (x : Commit) → AllByRecursion P xs → P x → AllByRecursion P (xs ++ x ∷ [])
all_push P [] x h k = (k, tt)
all_push P (y ∷ xs) x h k = (h.0, all_push P xs x h.1 k)

module _ (s : Script) (spelled : IsSpelled s) where
  line_reads : Reads {X = Commit} (λ c. c) (line_at (names_of s)) (commit_line (named s)) (HasLine (names_of s))
  line_reads = (let n = declares_names s spelled in lines (names_of s) n.1 n.0)

  abbrev line : Commit → List ℕ
  line c = commit_line (named s) c

  abbrev text : List Commit → List ℕ
  text cs = commits_text (named s) cs

  -- LINE BY LINE

  pub no_line : (bytes : List ℕ) → line_at (names_of s) bytes ≡ None → NoLineBegins s bytes
  no_line bytes e c after fits same = (let found = ap (line_at (names_of s)) same ∙ line_reads.again c after fits in absurd cc)

  shorter : (c : Commit) (rest : List ℕ) → length rest < length (line c ++ rest)
  shorter c rest = simp length-append (omega arith)

  not_empty : (c : Commit) (rest : List ℕ) → line c ++ rest ≡ [] → ⊥
  not_empty c rest e = (let h = shorter c rest in let z : length (line c ++ rest) ≡ 0 = ap length e in absurd (omega arith))

  pub goes_on : (bytes : List ℕ) (cs : List Commit) (rest : List ℕ) (c : Commit) (after : List ℕ) → IsSoFar s bytes cs rest → line_at (names_of s) rest ≡ Some (c, after) → IsSoFar s bytes (cs ++ c ∷ []) after
  goes_on bytes cs rest c after h e =
      let t = line_reads.takes rest c after e in
      let read : rest ≡ line c ++ after = t.parts ∙ ap (λ (x : Commit). line x ++ after) (sym t.value) in
      let pushed : text (cs ++ c ∷ []) ≡ text cs ++ line c = flat_map-append line cs (c ∷ []) ∙ ap (λ (x : List ℕ). text cs ++ x) (append-nil (line c)) in
      record {
        lines = all_push (HasLine (names_of s)) cs c h.lines (subst (HasLine (names_of s)) (sym t.value) t.fits);
        text = h.text ∙ ap (λ (x : List ℕ). text cs ++ x) read ∙ sym (append_assoc (text cs) (line c) after) ∙ ap (λ (x : List ℕ). x ++ after) (sym pushed);
      }

  pub falls : (rest : List ℕ) (c : Commit) (after : List ℕ) → line_at (names_of s) rest ≡ Some (c, after) → length after < length rest
  falls rest c after e = (let t = line_reads.takes rest c after e in let less = shorter t.from after in omega (arith, ap length t.parts))

  pub ends : (bytes : List ℕ) (cs : List Commit) (rest : List ℕ) → IsSoFar s bytes cs rest → rest ≡ [] → Spells s bytes cs
  ends bytes cs rest h e = record { lines = h.lines; text = h.text ∙ rw e (append-nil (text cs)) }

  pub breaks : (bytes : List ℕ) (cs : List Commit) (rest : List ℕ) → IsSoFar s bytes cs rest → rest ≢ [] → line_at (names_of s) rest ≡ None → IsFirstBadLine s bytes (length cs + 1)
  breaks bytes cs rest h more e = (cs, rest, refl, record { lines = h.lines; text = h.text; more = more; bad = no_line rest e })

  -- ONE LIST OF COMMITS

  same_line : (x y : Commit) (a b : List ℕ) → HasLine (names_of s) x → HasLine (names_of s) y → line x ++ a ≡ line y ++ b → (x ≡ y) × (a ≡ b)
  same_line x y a b p q e = some_pair_parts x y a b (sym (line_reads.again x a p) ∙ ap (line_at (names_of s)) e ∙ line_reads.again y b q)

  pub same_lines : (xs ys : List Commit) (a b : List ℕ) → AllByRecursion (HasLine (names_of s)) xs → AllByRecursion (HasLine (names_of s)) ys → NoLineBegins s a → NoLineBegins s b
      → text xs ++ a ≡ text ys ++ b → (xs ≡ ys) × (a ≡ b)
  same_lines [] [] a b p q h k e = (refl, e)
  same_lines [] (y ∷ ys) a b p q h k e = absurd (h y (text ys ++ b) q.0 (e ∙ append_assoc (line y) (text ys) b))
  same_lines (x ∷ xs) [] a b p q h k e = absurd (k x (text xs ++ a) p.0 (sym e ∙ append_assoc (line x) (text xs) a))
  same_lines (x ∷ xs) (y ∷ ys) a b p q h k e =
      let first = same_line x y (text xs ++ a) (text ys ++ b) p.0 q.0 (sym (append_assoc (line x) (text xs) a) ∙ e ∙ append_assoc (line y) (text ys) b) in
      let others = same_lines xs ys a b p.1 q.1 h k first.1 in
      (ap (λ (z : Commit). z ∷ xs) first.0 ∙ ap (λ (zs : List Commit). y ∷ zs) others.0, others.1)

  pub nothing_begins : NoLineBegins s []
  nothing_begins c after fits e = not_empty c after (sym e)

pub spells_only_one : SpellsOnlyOne
spells_only_one s spelled bytes cs ds h k =
    let n = nothing_begins s spelled in
    let r = same_lines s spelled cs ds [] [] h.lines k.lines n n (append-nil _ ∙ sym h.text ∙ k.text ∙ sym (append-nil _)) in r.0

pub spells_or_is_bad : SpellsOrIsBad
spells_or_is_bad s spelled bytes cs k h bad =
    let off = bad.3 in
    let r = same_lines s spelled cs bad.0 [] bad.1 h.lines off.lines (nothing_begins s spelled) off.bad (append-nil _ ∙ sym h.text ∙ off.text) in
    off.more (sym r.1)

pub has_one_first_bad_line : HasOneFirstBadLine
has_one_first_bad_line s spelled bytes j k a b =
    let r = same_lines s spelled a.0 b.0 a.1 b.1 a.3.lines b.3.lines a.3.bad b.3.bad (sym a.3.text ∙ b.3.text) in
    a.2 ∙ ap (λ (cs : List Commit). length cs + 1) r.0 ∙ sym b.2
