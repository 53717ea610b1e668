-- The results that a run gives to its threads: they only grow, and each row has its own.
use Rattle.std.proofs.Common.{◌≡◌, ℕ, ◌+◌, ◌<◌, ◌≤◌, List, [], ◌∷◌, ◌++◌, length, take, drop, slice_get, Some, Contains, refl, sym, ap, ◌∙◌, subst, arith, ⊎_elim}
use Rattle.std.specs.Prelude.{⊤}
use Rattle.std.specs.List.{AllByRecursion}
use Rattle.std.proofs.lemmas.Bool.{cases_order}
use Rattle.std.proofs.lemmas.List.{length-append, take-append-drop, take-take, take_all, take_more}
use Rattle.std.proofs.lemmas.Option.{get_or_from_slice_get, slice_get-get_or, slice_get_within}
use Rattle.script_tree.specs.Processes.{Proc}
use Rattle.thread.specs.After.{Chosen}
use Rattle.protocol_values.specs.declared.Commit.{Commit}
use Rattle.protocol_values.specs.declared.Commit.TheVariants.{Pair, Alone}
use Rattle.protocol_values.specs.declared.Message.TheVariants.{Empty}
use Rattle.journal_replay.specs.Runs.{Config, HasRow, HasThread, IsLegal, IsRun, applied, with_result, config_from, config_of, no_results}
use Rattle.journal_replay.proofs.Extending.{Extends, config-extends, result-stays}
use Rattle.journal_replay.proofs.Greatest.{more}
use Rattle.journal_replay.proofs.Standing.{config_from-append, config_of-more, result-at, result-other, row-thread, rows-are}
use Rattle.journal_order.specs.Laws.{OneRowOneCommit}
use Rattle.journal_order.proofs.Runs.{RunsOn}
use Rattle.journal_order.proofs.Swapping.{grows}

-- the receiver of a pair got its message
abbrev pub Got : Config → Commit → Type 0
Got config (Pair sender receiver chan msg stamp) = slice_get (config receiver.0.thread) receiver.0.sync ≡ Some (receiver.1, msg)
Got config (Alone at why stamp) = ⊤

got : (ps : List Proc) (rows : ℕ) (config final : Config) (c : Commit) → IsLegal ps rows config c → ((t : ℕ) → Extends (applied config c t) (final t)) → Got final c
got ps rows config final (Pair sender receiver chan msg stamp) legal later =
    let s = sender.0.thread in
    let u = receiver.0.thread in
    let is : applied config (Pair sender receiver chan msg stamp) u ≡ config u ++ (receiver.1, msg) ∷ [] =
    result-at u u (receiver.1, msg) (with_result s (sender.1, Empty) config) refl
    ∙ ap (λ (rs : List Chosen). rs ++ (receiver.1, msg) ∷ []) (result-other s u (sender.1, Empty) config (λ e. legal.0 (sym e))) in
    result-stays (config u) (final u) (receiver.1, msg) receiver.0.sync legal.2.can.next (subst (λ (rs : List Chosen). Extends rs (final u)) is (later u))
got ps rows config final (Alone at why stamp) legal later = tt

pub got-each : (ps : List Proc) (rows : ℕ) (es cs : List Commit) → RunsOn ps rows es cs → AllByRecursion (Got (config_from (config_of es) cs)) cs
got-each ps rows es [] run = tt
got-each ps rows es (c ∷ cs) run = (
  got ps rows (config_of es) (config_from (config_of es) (c ∷ cs)) c run.0.legal (config-extends (applied (config_of es) c) cs),
  subst (λ (config : Config). AllByRecursion (Got (config_from config cs)) cs) (config_of-more es c) (got-each ps rows (more es c) cs run.1),
)

-- ROWS

extends-length : (xs ys : List Chosen) → Extends xs ys → length xs ≤ length ys
extends-length xs ys h = omega (arith, ap (λ (zs : List Chosen). length zs) h.1, length-append xs h.0)

-- behind a commit of the thread there are more results than before it
longer : (ps : List Proc) (rows : ℕ) (es later : List Commit) (c : Commit) (t : ℕ) → IsLegal ps rows (config_of es) c → HasThread c t → length (config_of es t) < length (config_of (more es c ++ later) t)
longer ps rows es later c t legal has =
    let grew = grows ps rows (config_of es) c t legal has in
    let now : config_of (more es c) t ≡ config_of es t ++ grew.result ∷ [] = ap (λ (config : Config). config t) (config_of-more es c) ∙ grew.is in
    let whole : config_of (more es c ++ later) t ≡ config_from (config_of (more es c)) later t = ap (λ (config : Config). config t) (config_from-append no_results (more es c) later) in
    let grown = extends-length (config_of (more es c) t) (config_from (config_of (more es c)) later t) (config-extends (config_of (more es c)) later t) in
    omega (arith, grown, ap (λ (zs : List Chosen). length zs) now, ap (λ (zs : List Chosen). length zs) whole, length-append (config_of es t) (grew.result ∷ []))

-- the commits before place j are those before place i, the one there, and others
pub before-later : (journal : List Commit) (i j : ℕ) (c : Commit) → slice_get journal i ≡ Some c → i < j → j ≤ length journal → (later : List Commit) × (take j journal ≡ more (take i journal) c ++ later)
before-later journal i j c is lt within = (
  drop (i + 1) (take j journal),
  sym (take-append-drop (i + 1) (take j journal))
      ∙ ap (λ (cs : List Commit). cs ++ drop (i + 1) (take j journal))
      (take-take (i + 1) j journal (omega (arith, lt)) ∙ take_more journal i c (omega (arith, lt, within)) ∙ ap (λ (x : Commit). take i journal ++ x ∷ []) (get_or_from_slice_get journal i c c is)),
)

-- each row of a run's commits is a sync that its thread made
pub rows-within : (ps : List Proc) (rows : ℕ) (journal : List Commit) → IsRun ps rows journal → (c : Commit) (t g : ℕ) → Contains journal c → HasRow c t g → g < length (config_of journal t)
rows-within ps rows journal run c t g there has =
    let i = there.0 in
    let at : slice_get journal i ≡ Some c = slice_get-get_or journal i c there.1 ∙ ap (λ (z : Commit). Some z) there.2 in
    let legal = (run i c at).legal in
    let next = rows-are ps rows (config_of (take i journal)) c legal t g has in
    let w = before-later journal i (length journal) c at there.1 (omega arith) in
    let grown = longer ps rows (take i journal) w.0 c t legal next.1 in
    let whole : journal ≡ more (take i journal) c ++ w.0 = sym (take_all (length journal) journal (omega arith)) ∙ w.1 in
    omega (arith, grown, next.0, ap (λ (zs : List Commit). length (config_of zs t)) whole)

rows-rise : (ps : List Proc) (rows : ℕ) (journal : List Commit) → IsRun ps rows journal → (i j : ℕ) (c d : Commit) (t g h : ℕ) →
    slice_get journal i ≡ Some c → slice_get journal j ≡ Some d → i < j → HasRow c t g → HasRow d t h → g < h
rows-rise ps rows journal run i j c d t g h at_i at_j lt has_g has_h =
    let f = run i c at_i in
    let k = run j d at_j in
    let w = before-later journal i j c at_i lt (omega (arith, slice_get_within journal j d at_j)) in
    let more_results = longer ps rows (take i journal) w.0 c t f.legal (row-thread c t g has_g) in
    let first : g ≡ length (config_of (take i journal) t) = (rows-are ps rows (config_of (take i journal)) c f.legal t g has_g).0 in
    let last : h ≡ length (config_of (take j journal) t) = (rows-are ps rows (config_of (take j journal)) d k.legal t h has_h).0 in
    omega (arith, more_results, first, last, ap (λ (cs : List Commit). length (config_of cs t)) w.1)

pub one-row : OneRowOneCommit
one-row ps rows journal run i j c d t g at_i at_j has_c has_d = ⊎_elim
    (λ e. e)
    (λ other. ⊎_elim
    (λ lt. absurd (omega (arith, rows-rise ps rows journal run i j c d t g g at_i at_j lt has_c has_d)))
    (λ gt. absurd (omega (arith, rows-rise ps rows journal run j i d c t g g at_j at_i gt has_d has_c)))
    other)
    (cases_order i j)
