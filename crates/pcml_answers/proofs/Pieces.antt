-- A text, one number more at a time.
use Rattle.std.proofs.Common.{◌≡◌, ℕ, zero, suc, ◌<◌, ◌+◌, add-one, List, ◌++◌, append_assoc, refl, ap, ◌∙◌, arith, length, get_or, []}
use Rattle.protocol_values.specs.declared.Commit.{Commit}
use Rattle.script.specs.Sources.{Script}
use Rattle.journal_text.specs.Names.{Naming}
use Rattle.pcml_answers.specs.declared.tallying.Tallies.{Tallies}
use Rattle.pcml_answers.specs.declared.tallying.Tally.{Tally}
use Rattle.pcml_answers.specs.Stats.{channel_line, each_below, process_line, stats_text, total_text}
use Rattle.pcml_answers.specs.Tallies.{IsTally, channel_text, nothing, process_text}

each_below-one : (f : ℕ → List ℕ) (n : ℕ) → each_below n f ++ f n ≡ each_below (n + 1) f
each_below-one f n = rw add-one refl

-- what is told of one number more
pub each_below-more : (f : ℕ → List ℕ) (n : ℕ) (before text more : List ℕ) → text ≡ before ++ each_below n f → more ≡ text ++ f n → more ≡ before ++ each_below (n + 1) f
each_below-more f n before text more is grown =
    grown ∙ ap (λ (l : List ℕ). l ++ f n) is ∙ append_assoc before (each_below n f) (f n) ∙ ap (λ (l : List ℕ). before ++ l) (each_below-one f n)

-- texts that agree at each number below n agree together
pub each_below_same : (n : ℕ) (f g : ℕ → List ℕ) → ((t : ℕ) → t < n → f t ≡ g t) → each_below n f ≡ each_below n g
each_below_same zero f g same = refl
each_below_same (suc n) f g same =
    ap (λ (l : List ℕ). l ++ f n) (each_below_same n f g (λ t lt. same t (omega (arith, lt)))) ∙ ap (λ (l : List ℕ). each_below n g ++ l) (same n (omega arith))

-- what is told of the numbers of a journal is what is told of the journal
pub all_told : (names : Naming) (s : Script) (journal : List Commit) (tallies : Tallies) (processes : List Tally) (uses start first second third : List ℕ) →
    IsTally (length s.processes) (length s.channels) journal tallies → processes ≡ tallies.processes.items → uses ≡ tallies.uses.items → start ≡ [] →
    first ≡ start ++ each_below (length s.processes) (λ t. process_text names t (get_or processes t nothing)) →
    second ≡ first ++ each_below (length s.channels) (λ c. channel_text names c (get_or uses c 0)) →
    third ≡ second ++ total_text (length journal) tallies.stamps →
    third ≡ stats_text names s journal
all_told names s journal tallies processes uses start first second third is same-processes same-uses none one two three =
    let lines = each_below_same (length s.processes) (λ t. process_text names t (get_or processes t nothing)) (process_line names journal)
    (λ t lt. ap (λ (ps : List Tally). process_text names t (get_or ps t nothing)) same-processes ∙ ap (process_text names t) (is.processes t lt)) in
    let more = each_below_same (length s.channels) (λ c. channel_text names c (get_or uses c 0)) (channel_line names journal)
    (λ c lt. ap (λ (us : List ℕ). channel_text names c (get_or us c 0)) same-uses ∙ ap (channel_text names c) (is.uses c lt)) in
    let begun : first ≡ each_below (length s.processes) (process_line names journal) =
    one ∙ ap (λ (l : List ℕ). l ++ each_below (length s.processes) (λ t. process_text names t (get_or processes t nothing))) none ∙ lines in
    three
    ∙ ap (λ (l : List ℕ). l ++ total_text (length journal) tallies.stamps)
    (two ∙ ap (λ (l : List ℕ). l ++ each_below (length s.channels) (λ c. channel_text names c (get_or uses c 0))) begun
    ∙ ap (λ (l : List ℕ). each_below (length s.processes) (process_line names journal) ++ l) more)
    ∙ ap (λ (n : ℕ). each_below (length s.processes) (process_line names journal) ++ each_below (length s.channels) (channel_line names journal) ++ total_text (length journal) n) is.stamps
