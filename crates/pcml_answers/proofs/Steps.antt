-- The numbers of a journal, one commit more at a time.
use Rattle.std.proofs.Common.{◌≡◌, ℕ, ◌<◌, ◌≤◌, ◌+◌, Bool, true, false, if◌then◌else◌, List, [], ◌∷◌, ◌++◌, length, get_or, refl, sym, ap, ◌∙◌, subst, arith, ⊎_elim}
use Rattle.std.proofs.lemmas.List.{append-nil, get_or_past, length-append}
use Rattle.std.proofs.lemmas.List.Elements.{filter-append}
use Rattle.std.proofs.lemmas.Bool.{cases_lt}
use Rattle.std.proofs.lemmas.Bool.Decides.{nat_tests}
use Rattle.std.specs.List.{filter}
use Rattle.std.specs.Prelude.{max}
use Rattle.protocol_values.specs.declared.Commit.{Commit}
use Rattle.protocol_values.specs.Commits.{stamp_of}
use Rattle.pcml_answers.specs.declared.counts.Kind.{Kind}
use Rattle.pcml_answers.specs.declared.counts.Kind.TheVariants.{Sends, Receives, Alone, Uses, Of}
use Rattle.pcml_answers.specs.declared.tallying.Tally.{Tally}
use Rattle.pcml_answers.specs.Counts.{count, greatest, greatest_stamp, is_of}
use Rattle.pcml_answers.specs.Tallies.{HasRoom, counted, greater, most, nothing, tally_of, with_commit}

-- THE NUMBERS OF A KIND

length_one : (b : Bool) (cs : List Commit) (c : Commit) → length (cs ++ (if b then c ∷ [] else [])) ≡ (if b then length cs + 1 else length cs)
length_one true cs c = length-append cs (c ∷ [])
length_one false cs c = ap length (append-nil cs)

pub count_more : (kind : Kind) (cs : List Commit) (c : Commit) → count kind (cs ++ c ∷ []) ≡ counted kind c (count kind cs)
count_more kind cs c = ap length (filter-append (is_of kind) cs (c ∷ [])) ∙ length_one (is_of kind c) (filter (is_of kind) cs) c

count_le : (kind : Kind) (cs : List Commit) → count kind cs ≤ length cs
count_le kind [] = omega arith
count_le kind (c ∷ cs) = let rest = count_le kind cs in grind (arith, rest)

greatest-last : (cs : List Commit) (c : Commit) → greatest_stamp (cs ++ c ∷ []) ≡ max (stamp_of c) (greatest_stamp cs)
greatest-last [] c = refl
greatest-last (d ∷ cs) c = let later = greatest-last cs c in grind (arith, nat_tests, later)

-- behind others a commit counts where it is of the kind
greatest-one : (b : Bool) (cs : List Commit) (c : Commit) → greatest_stamp (cs ++ (if b then c ∷ [] else [])) ≡ (if b then max (stamp_of c) (greatest_stamp cs) else greatest_stamp cs)
greatest-one true cs c = greatest-last cs c
greatest-one false cs c = ap greatest_stamp (append-nil cs)

pub greatest_more : (kind : Kind) (cs : List Commit) (c : Commit) → greatest kind (cs ++ c ∷ []) ≡ greater kind c (greatest kind cs)
greatest_more kind cs c = ap greatest_stamp (filter-append (is_of kind) cs (c ∷ [])) ∙ greatest-one (is_of kind c) (filter (is_of kind) cs) c

-- THOSE OF A PROCESS

tally_more : (cs : List Commit) (c : Commit) (t : ℕ) → tally_of (cs ++ c ∷ []) t ≡ with_commit t c (tally_of cs t)
tally_more cs c t =
    let sends = count_more (Sends t) cs c in
    let receives = count_more (Receives t) cs c in
    let alone = count_more (Alone t) cs c in
    let last = greatest_more (Of t) cs c in
    rw (sends, receives, alone, last) refl

pub processes_more : (threads : ℕ) (before after : List Tally) (seen : List Commit) (c : Commit) → length before ≡ threads →
    ((t : ℕ) → t < threads → get_or before t nothing ≡ tally_of seen t) →
    ((t : ℕ) → t < length before → get_or after t nothing ≡ with_commit t c (get_or before t nothing)) →
    (t : ℕ) → t < threads → get_or after t nothing ≡ tally_of (seen ++ c ∷ []) t
processes_more threads before after seen c long is step t lt =
    step t (omega (arith, long, lt)) ∙ ap (with_commit t c) (is t lt) ∙ sym (tally_more seen c t)

room_seen : (seen : List Commit) (t : ℕ) → length seen < most → HasRoom (tally_of seen t)
room_seen seen t short = (omega (arith, count_le (Sends t) seen, short), omega (arith, count_le (Receives t) seen, short), omega (arith, count_le (Alone t) seen, short))

pub processes_room : (tallies : List Tally) (seen : List Commit) → ((t : ℕ) → t < length tallies → get_or tallies t nothing ≡ tally_of seen t) → length seen < most →
    (t : ℕ) → HasRoom (get_or tallies t nothing)
processes_room tallies seen is short t =
    ⊎_elim
    (λ lt. subst HasRoom (sym (is t lt)) (room_seen seen t short))
    (λ past. subst HasRoom (sym (get_or_past tallies t nothing past)) (omega arith, omega arith, omega arith))
    (cases_lt t (length tallies))

-- THOSE OF A CHANNEL

pub uses_more : (channels : ℕ) (before after : List ℕ) (seen : List Commit) (c : Commit) → length before ≡ channels →
    ((x : ℕ) → x < channels → get_or before x 0 ≡ count (Uses x) seen) →
    ((x : ℕ) → x < length before → get_or after x 0 ≡ counted (Uses x) c (get_or before x 0)) →
    (x : ℕ) → x < channels → get_or after x 0 ≡ count (Uses x) (seen ++ c ∷ [])
uses_more channels before after seen c long is step x lt =
    step x (omega (arith, long, lt)) ∙ ap (counted (Uses x) c) (is x lt) ∙ sym (count_more (Uses x) seen c)

pub uses_room : (uses : List ℕ) (seen : List Commit) → ((x : ℕ) → x < length uses → get_or uses x 0 ≡ count (Uses x) seen) → length seen < most →
    (x : ℕ) → get_or uses x 0 < most
uses_room uses seen is short x =
    ⊎_elim
    (λ lt. omega (arith, is x lt, count_le (Uses x) seen, short))
    (λ past. omega (arith, get_or_past uses x 0 past))
    (cases_lt x (length uses))
