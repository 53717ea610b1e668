-- Lists of what was got, of which one grows.
use Rattle.std.proofs.Common.{◌≡◌, ℕ, zero, suc, List, [], ◌∷◌, ◌++◌, sym, refl, ap, ◌∙◌, subst, map, set, slice_get, slice_set, get_or, length, ◌<◌, Some, arith}
use Rattle.std.proofs.Math.Seq.{map-set_same}
use Rattle.std.proofs.lemmas.List.{map-set}
use Rattle.protocol_values.specs.declared.Row.{Row}
use Rattle.meet_queues.specs.declared.entries.Entry.{Entry}
use Rattle.meet_queues.specs.declared.ends.Other.{Other}
use Rattle.meet_queues.specs.Ends.{GotOne, got_of}

-- the first list grew
pub got_first : (before after : List (Entry Row)) (rest more : List (List (Entry Row))) (e : Entry Row) → after ≡ before ++ e ∷ [] → rest ≡ more → GotOne (before ∷ rest) (after ∷ more) e
got_first before after rest more e grew same = (0, before, refl, (λ i. grew i ∷ sym same i))

-- another than the first grew
pub got_later : (before after : List (Entry Row)) (rest more : List (List (Entry Row))) (e : Entry Row) → after ≡ before → GotOne rest more e → GotOne (before ∷ rest) (after ∷ more) e
got_later before after rest more e same got = (suc got.0, got.1, got.2, (λ i. same i ∷ got.3 i))

get_map : (others : List Other) (at : ℕ) (o : Other) → at < length others → o ≡ get_or others at o → slice_get (map got_of others) at ≡ Some (got_of o)
get_map [] at o less is = absurd (omega arith)
get_map (x ∷ xs) zero o less is = ap (λ (y : Other). Some (got_of y)) (sym is)
get_map (x ∷ xs) (suc at) o less is = get_map xs at o (omega arith) is

-- an entry was got from one of the others
pub stolen : (before others : List Other) (at : ℕ) (o p : Other) (e : Entry Row) → map got_of others ≡ map got_of before → at < length others → o ≡ get_or others at o → got_of p ≡ got_of o ++ e ∷ []
    → GotOne (map got_of before) (map got_of (slice_set others at p)) e
stolen before others at o p e same less is grew =
    subst (λ (l : List (List (Entry Row))). GotOne l (map got_of (slice_set others at p)) e) same
    (at, got_of o, get_map others at o less is, map-set got_of others at p ∙ ap (λ (l : List (Entry Row)). set (map got_of others) at l) grew)

-- nothing was got from it
pub not_stolen : (others : List Other) (at : ℕ) (o p : Other) → o ≡ get_or others at o → got_of p ≡ got_of o → map got_of (slice_set others at p) ≡ map got_of others
not_stolen others at o p is same = map-set_same got_of others at p o (same ∙ ap got_of is)
