-- As many rows as each process needs: a list that is written thread by thread.
use Rattle.std.proofs.Common.{◌≡◌, ◌≢◌, ◌∙◌, ◌+◌, ◌<◌, ◌≤◌, ℕ, List, Option, Some, ap, arith, get_or, length, replicate, set, slice_get, subst, sym, ⊎_elim}
use Rattle.std.proofs.lemmas.Bool.{cases_eq, cases_lt}
use Rattle.std.proofs.lemmas.List.{get_or_past, length-append, get_or-replicate, get_or-set_other, get_or-set_same, length-replicate}
use Rattle.std.proofs.lemmas.Option.{same_Some}
use Rattle.script_tree.specs.Processes.{Proc}
use Rattle.runtime_run.specs.Syncs.{AreRowsFor, BlockSyncsAtMost}
use Rattle.protocol_values.specs.declared.Offer.{Offer}
use Rattle.protocol_ledger.specs.declared.layout.Layout.{Layout}
use Rattle.protocol_ledger.specs.Short.{rows_of}
use Rattle.cell.specs.Calls.{GridOf}
use Rattle.thread.specs.After.{Chosen}
use Rattle.runtime_worker.specs.Machines.{AreFirst, StandsFor, SyncsHaveWords}
use Rattle.runtime_worker.specs.declared.resident.Suspended.{Suspended}
use Rattle.runtime_worker.proofs.Processes.{offers_as}
use Rattle.runtime_run.proofs.Syncs.{offers_within}

-- what is enough of the threads before this one
abbrev pub AreEnoughBelow : List Proc → List ℕ → ℕ → List ℕ → ℕ → Type 0
AreEnoughBelow ps had stated rows n = (s : ℕ) (p : Proc) → s < n → slice_get ps s ≡ Some p → get_or rows s 0 < stated → BlockSyncsAtMost (get_or had s 0 + get_or rows s 0) p.body

pub enough_next : (ps : List Proc) (had : List ℕ) (stated : ℕ) (rows : List ℕ) (n v : ℕ) (p : Proc) → length rows ≡ 64 → n < 64 → slice_get ps n ≡ Some p → (v < stated → BlockSyncsAtMost (get_or had n 0 + v) p.body)
    → AreEnoughBelow ps had stated rows n → AreEnoughBelow ps had stated (set rows n v) (n + 1)
enough_next ps had stated rows n v p size inside there new before s q below is less = ⊎_elim
    (λ (same : s ≡ n).
    let written : get_or (set rows n v) s 0 ≡ v = ap (λ m. get_or (set rows n v) m 0) same ∙ get_or-set_same rows n v 0 (omega (arith, size, inside)) in
    let one : p ≡ q = same_Some p q (sym there ∙ ap (slice_get ps) (sym same) ∙ is) in
    subst (λ m. BlockSyncsAtMost (get_or had s 0 + m) q.body) (sym written)
    (subst (λ m. BlockSyncsAtMost (get_or had m 0 + v) q.body) (sym same) (subst (λ (r : Proc). BlockSyncsAtMost (get_or had n 0 + v) r.body) one (new (omega (arith, less, written))))))
    (λ (other : s ≢ n).
    let kept : get_or (set rows n v) s 0 ≡ get_or rows s 0 = get_or-set_other rows n s v 0 other in
    subst (λ m. BlockSyncsAtMost (get_or had s 0 + m) q.body) (sym kept) (before s q (omega (arith, below, other)) is (omega (arith, less, kept))))
    (cases_eq s n)

-- and each is one at least, and no more than are stated
abbrev pub AreSome : List ℕ → Type 0
AreSome rows = (t : ℕ) → t < 64 → 1 ≤ get_or rows t 0

abbrev pub AreFew : ℕ → List ℕ → Type 0
AreFew stated rows = (t : ℕ) → get_or rows t 0 ≤ stated

pub some_next : (rows : List ℕ) (n v : ℕ) → length rows ≡ 64 → n < 64 → 1 ≤ v → AreSome rows → AreSome (set rows n v)
some_next rows n v size inside new before t low = ⊎_elim
    (λ (same : t ≡ n). subst (λ m. 1 ≤ m) (sym (ap (λ m. get_or (set rows n v) m 0) same ∙ get_or-set_same rows n v 0 (omega (arith, size, inside)))) new)
    (λ (other : t ≢ n). subst (λ m. 1 ≤ m) (sym (get_or-set_other rows n t v 0 other)) (before t low))
    (cases_eq t n)

pub few_next : (stated : ℕ) (rows : List ℕ) (n v : ℕ) → length rows ≡ 64 → n < 64 → v ≤ stated → AreFew stated rows → AreFew stated (set rows n v)
few_next stated rows n v size inside new before t = ⊎_elim
    (λ (same : t ≡ n). subst (λ m. m ≤ stated) (sym (ap (λ m. get_or (set rows n v) m 0) same ∙ get_or-set_same rows n v 0 (omega (arith, size, inside)))) new)
    (λ (other : t ≢ n). subst (λ m. m ≤ stated) (sym (get_or-set_other rows n t v 0 other)) (before t))
    (cases_eq t n)

-- so many for each at first
pub few_at_first : (stated t : ℕ) → get_or (replicate 64 stated) t 0 ≤ stated
few_at_first stated t = ⊎_elim
    (λ (low : t < 64). subst (λ m. m ≤ stated) (sym (get_or-replicate 64 t stated 0 low)) (omega arith))
    (λ (high : 64 ≤ t). subst (λ m. m ≤ stated) (sym (get_or_past (replicate 64 stated) t 0 (let size = length-replicate 64 stated in omega (arith, size, high)))) (omega arith))
    (cases_lt t 64)

-- EACH MACHINE has words for the syncs that it comes to, where its thread had made so many before the table
pub each_has_words : (cells : GridOf Suspended) (ps : List Proc) (had rows : List ℕ) → AreFirst ps cells.first → AreRowsFor ps had cells.rows rows
    → ((t : ℕ) (start : Suspended) → slice_get cells.first t ≡ Some (Some start) → get_or had t 0 ≤ length start.machine.value.results) → cells.layout.lens ≡ rows → SyncsHaveWords cells
each_has_words cells ps had rows first each made laid t m results os ns stands below =
    let offers = offers_as ps cells.first t m results os ns first stands in
    let start = stands.0.start in
    let before : get_or had t 0 ≤ length start.machine.value.results = made t start stands.0.is_first in
    let given : length m.machine.value.results ≡ length start.machine.value.results + length results = ap (λ (rs : List Chosen). length rs) stands.0.given ∙ length-append start.machine.value.results results in
    let all : rows_of cells.layout t ≡ get_or rows t 0 = ap (λ (l : List ℕ). get_or l t 0) laid in
    ⊎_elim
    (λ (few : get_or rows t 0 < cells.rows).
    let less = offers_within (get_or had t 0 + get_or rows t 0) ps t m.machine.value.results os ns (λ p is. each.enough t p is few) offers in
    let there : length results < rows_of cells.layout t = omega (arith, given, all, before, less) in
    there)
    (λ (enough : cells.rows ≤ get_or rows t 0). let there : length results < rows_of cells.layout t = omega (arith, all, enough, below) in there)
    (cases_lt (get_or rows t 0) cells.rows)
