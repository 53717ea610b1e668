-- The bytes of a journal are judged in one way: replayed to one text, or refused at one line.
use Rattle.std.proofs.Common.{◌≡◌, ℕ, ◌+◌, ◌<◌, Bool, true, false, List, ◌++◌, length, get_or, refl, sym, ap, ◌∙◌, subst, arith}
use Rattle.std.proofs.lemmas.List.{same_lists}
use Rattle.std.proofs.lemmas.Option.{slice_get-get_or}
use Rattle.script_tree.specs.Processes.{Proc}
use Rattle.protocol_values.specs.declared.Commit.{Commit}
use Rattle.journal_text.proofs.Journals.{spells_only_one}
use Rattle.journal_replay.specs.Runs.{BreaksOffAt, Config, config_of}
use Rattle.journal_replay.proofs.Fronts.{breaks-not-run, breaks-once}
use Rattle.journal_replay.proofs.Telling.{ends-one}
use Rattle.pcml_answers.specs.Standings.{Standing, StandAs, process_lines}
use Rattle.pcml_texts.specs.Replay.{IsAt, IsReplayedToOne, IsReplayedOrNoRun, HasOneUnlawfulLine, lawful_line, unlawful_line}
use Rattle.journal_text.specs.Names.{named}

same_standing : (p q : Standing) → p.thread ≡ q.thread → (p.end ≡ q.end) × (p.printed ≡ q.printed) → p ≡ q
same_standing p q thread rest = λ i. record { thread = thread i; end = rest.0 i; printed = rest.1 i }

one_standing : (ps : List Proc) (rows : ℕ) (config : Config) (xs ys : List Standing) → StandAs ps rows config xs → StandAs ps rows config ys → xs ≡ ys
one_standing ps rows config xs ys one two = same_lists xs ys count each
  where
    count : length xs ≡ length ys
    count = one.count ∙ sym two.count

    each : (k : ℕ) (d : Standing) → k < length xs → get_or xs k d ≡ get_or ys k d
    each k d within =
        let p = get_or xs k d in
        let q = get_or ys k d in
        let a = one.each k p (slice_get-get_or xs k d within) in
        let b = two.each k q (slice_get-get_or ys k d (omega (arith, within, count))) in
        same_standing p q (a.0 ∙ sym b.0) (ends-one ps rows k config p.end q.end p.printed q.printed a.1 b.1)

one_reach : (ps : List Proc) (rows : ℕ) (config : Config) (a b : Bool) → IsAt ps rows config a → IsAt ps rows config b → a ≡ b
one_reach ps rows config true true p q = refl
one_reach ps rows config true false p q = absurd (p q.0 q.1)
one_reach ps rows config false true p q = absurd (q p.0 p.1)
one_reach ps rows config false false p q = refl

pub replayed_to_one : IsReplayedToOne
replayed_to_one s spelled rows bytes text other one two =
    let same : two.commits ≡ one.commits = spells_only_one s spelled bytes two.commits one.commits two.spells one.spells in
    let stand = subst (λ (cs : List Commit). StandAs s.processes rows (config_of cs) two.standing) same two.stand in
    let reach = subst (λ (cs : List Commit). IsAt s.processes rows (config_of cs) two.maximal) same two.is_at in
    let standing = one_standing s.processes rows (config_of one.commits) one.standing two.standing one.stand stand in
    let maximal = one_reach s.processes rows (config_of one.commits) one.maximal two.maximal one.is_at reach in
    let count : length one.commits ≡ length two.commits = ap length (sym same) in
    one.is ∙ (λ i. process_lines (named s) (standing i) ++ lawful_line (count i) (maximal i)) ∙ sym two.is

pub replayed_or_no_run : IsReplayedOrNoRun
replayed_or_no_run s spelled rows bytes text other one two =
    let same : two.commits ≡ one.commits = spells_only_one s spelled bytes two.commits one.commits two.spells one.spells in
    breaks-not-run s.processes rows one.commits two.index (subst (λ (cs : List Commit). BreaksOffAt s.processes rows cs two.index) same two.breaks) one.run

pub one_unlawful_line : HasOneUnlawfulLine
one_unlawful_line s spelled rows bytes text other one two =
    let same : two.commits ≡ one.commits = spells_only_one s spelled bytes two.commits one.commits two.spells one.spells in
    let breaks = subst (λ (cs : List Commit). BreaksOffAt s.processes rows cs two.index) same two.breaks in
    let index = breaks-once s.processes rows one.commits one.index two.index one.breaks breaks in
    one.is ∙ ap (λ (k : ℕ). unlawful_line (k + 1)) index ∙ sym two.is
