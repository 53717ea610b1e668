-- Stamps rise in each thread.
use Rattle.std.proofs.Common.{◌≡◌, ℕ, ◌<◌, List, length, take, slice_get, Some, Contains, ◌∙◌, arith, inl, ⊎_elim}
use Rattle.std.proofs.lemmas.Bool.{cases_order}
use Rattle.std.proofs.lemmas.List.{length-take-le, get_or-take}
use Rattle.std.proofs.lemmas.Option.{slice_get_within, get_or_from_slice_get}
use Rattle.protocol_values.specs.declared.Commit.{Commit}
use Rattle.journal_replay.specs.Runs.{config_of}
use Rattle.journal_replay.proofs.Standing.{counts}
use Rattle.journal_order.specs.Laws.{StampsRise, OneStampOneThread}

-- a commit with a smaller number stands in the commits before
pub earlier : (journal : List Commit) (i j : ℕ) (c d : Commit) → slice_get journal i ≡ Some c → slice_get journal j ≡ Some d → i < j → Contains (take j journal) c
earlier journal i j c d at_i at_j lt =
    let within : j < length journal = slice_get_within journal j d at_j in
    let count : length (take j journal) ≡ j = length-take-le j journal (omega (arith, within)) in
    (i, omega (arith, lt, count), get_or-take j journal i c lt ∙ get_or_from_slice_get journal i c c at_i)

pub stamps-rise : StampsRise
stamps-rise ps rows journal run i j c d t at_i at_j lt h k =
    let f = run j d at_j in
    omega (arith, f.is.above c (earlier journal i j c d at_i at_j lt) (counts ps (config_of (take j journal)) d c t k (inl h)), f.stamp)

pub one-stamp : OneStampOneThread
one-stamp ps rows journal run i j c d t at_i at_j h k same = ⊎_elim
    (λ e. e)
    (λ other. ⊎_elim
    (λ lt. absurd (omega (arith, same, stamps-rise ps rows journal run i j c d t at_i at_j lt h k)))
    (λ gt. absurd (omega (arith, same, stamps-rise ps rows journal run j i d c t at_j at_i gt k h)))
    other)
    (cases_order i j)
