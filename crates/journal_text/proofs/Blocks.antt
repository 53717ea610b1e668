-- Names at the ends of blocks, and a block that is put into a line.
use Rattle.std.proofs.Common.{◌≡◌, ◌≤◌, ◌<◌, ℕ, ◌+◌, ◌-◌, List, [], ◌∷◌, ◌++◌, length, drop, take, get_or, slice_get, ltb, Option, None, Some, is_some, IfSome, sym, ap, ◌∙◌, subst, arith, ⊎_elim}
use Rattle.std.proofs.Math.Seq.{drop-append-add}
use Rattle.std.proofs.lemmas.Bool.{cases_eq, ltb-true}
use Rattle.std.proofs.lemmas.List.{drop-append-le, length-append, take-append-drop}
use Rattle.std.proofs.lemmas.Option.{same_Some, slice_get-get_or, slice_get_within}
use Rattle.journal_replay.proofs.Lists.{slice_get-first, slice_get-last}
use Rattle.script_reader.specs.Places.{texts}
use Rattle.journal_text.specs.Blocks.{AreEnds}
use Rattle.journal_text.proofs.Chains.{texts_length}
use denote.Bor.{Bor}

-- a list is its two parts
pub from_parts : (whole first last : List ℕ) (at : ℕ) → take at whole ≡ first → drop at whole ≡ last → first ++ last ≡ whole
from_parts whole first last at is_first is_last =
    ap (λ (l : List ℕ). l ++ last) (sym is_first) ∙ ap (λ (l : List ℕ). take at whole ++ l) (sym is_last) ∙ take-append-drop at whole

-- the end of a block that stands in a line
pub block_end : (front block behind : List ℕ) (len : ℕ) → length block ≡ 32 → len ≤ 32 → drop (length front + (32 - len)) (front ++ (block ++ behind)) ≡ drop (32 - len) block ++ behind
block_end front block behind len size few =
    drop-append-add front (block ++ behind) (32 - len) ∙ drop-append-le (32 - len) block behind (omega (arith, size))

-- one more name, with its block
pub one_more : (names blocks : List (List ℕ)) (name block : List ℕ) → length names ≡ length blocks → AreEnds names blocks →
    (length name ≤ 32 → drop (32 - length name) block ≡ name) → AreEnds (names ++ name ∷ []) (blocks ++ block ∷ [])
one_more names blocks name block same ends last k other its is has few = ⊎_elim
    (λ (here : k ≡ length names).
    let name_is : name ≡ other = same_Some name other (sym (slice_get-last names name) ∙ ap (slice_get (names ++ name ∷ [])) (sym here) ∙ is) in
    let block_is : block ≡ its = same_Some block its (sym (slice_get-last blocks block) ∙ ap (slice_get (blocks ++ block ∷ [])) (sym (here ∙ same)) ∙ has) in
    subst (λ (p : List ℕ × List ℕ). drop (32 - length p.0) p.1 ≡ p.0) (λ i. (name_is i, block_is i)) (last (subst (λ (n : List ℕ). length n ≤ 32) (sym name_is) few)))
    (λ ne.
    let within = slice_get_within (names ++ name ∷ []) k other is in
    let first : k < length names = omega (arith, within, ne, length-append names (name ∷ [])) in
    let firsts : k < length blocks = omega (arith, first, same) in
    ends k other its (sym (slice_get-first names (name ∷ []) k first) ∙ is) (sym (slice_get-first blocks (block ∷ []) k firsts) ∙ has) few)
    (cases_eq k (length names))

-- a block that is found under a name's number ends with the name
pub ends_at : (names : List (Bor (List ℕ))) (blocks : List (List ℕ)) (k : ℕ) (name : List ℕ) (found : Option (Bor (List ℕ))) → AreEnds (texts names) blocks →
    k < length names → get_or (texts names) k [] ≡ name → is_some found ≡ ltb k (length blocks) → IfSome found (λ b. b.now ≡ get_or blocks k b.now) →
    IfSome found (λ b. length name ≤ 32 → drop (32 - length name) b.now ≡ name)
ends_at names blocks k name None ends less is there read = tt
ends_at names blocks k name (Some b) ends less is there read =
    let within : k < length blocks = ltb-true k (length blocks) (sym there) in
    let here : k < length (texts names) = omega (arith, less, texts_length names) in
    ends k name b.now (slice_get-get_or (texts names) k [] here ∙ ap Some is) (slice_get-get_or blocks k b.now within ∙ ap Some (sym read))
