-- In a run each commit of a thread gives it one result.
use Rattle.std.proofs.Common.{◌≡◌, ◌≢◌, ◌||◌, ℕ, suc, ◌+◌, Bool, true, false, cond, eqb, List, [], ◌∷◌, ◌++◌, length, slice_get, Some, refl, sym, ◌∙◌, arith, count_by}
use Rattle.std.proofs.lemmas.Bool.{eqb-true}
use Rattle.std.proofs.lemmas.List.{length-append}
use Rattle.std.proofs.lemmas.List.Sums.{sum_by-cons}
use Rattle.script_tree.specs.Processes.{Proc}
use Rattle.thread.specs.After.{Chosen}
use Rattle.protocol_values.specs.declared.Commit.{Commit}
use Rattle.protocol_values.specs.declared.Commit.TheVariants.{Pair, Alone}
use Rattle.protocol_values.specs.declared.Message.TheVariants.{Empty}
use Rattle.journal_replay.specs.Runs.{Config, IsLegal, IsRun, applied, config_from, config_of, message_by, no_results, with_result}
use Rattle.journal_replay.specs.Parts.{takes_part}

-- its rows are of different threads
abbrev IsApart : Commit → Type 0
IsApart (Pair sender receiver chan msg stamp) = sender.0.thread ≢ receiver.0.thread
IsApart (Alone at why stamp) = Unit {0}

apart : (ps : List Proc) (rows : ℕ) (config : Config) (c : Commit) → IsLegal ps rows config c → IsApart c
apart ps rows config (Pair sender receiver chan msg stamp) legal = legal.0
apart ps rows config (Alone at why stamp) legal = tt

with-length : (b : Bool) (results : List Chosen) (r : Chosen) → length (cond b (results ++ r ∷ []) results) ≡ length results + cond b 1 0
with-length true results r = length-append results (r ∷ [])
with-length false results r = omega arith

one-length : (t u : ℕ) (r : Chosen) (config : Config) → length (with_result t r config u) ≡ length (config u) + cond (eqb u t) 1 0
one-length t u r config = with-length (eqb u t) (config u) r

either : (a b : Bool) → (a ≡ true → b ≡ true → ⊥) → cond a 1 0 + cond b 1 0 ≡ cond (a || b) 1 0
either true true apart = absurd (apart refl refl)
either true false apart = refl
either false true apart = refl
either false false apart = refl

applied-length : (config : Config) (c : Commit) (t : ℕ) → IsApart c → length (applied config c t) ≡ length (config t) + cond (takes_part t c) 1 0
applied-length config (Pair sender receiver chan msg stamp) t ne =
    let s = sender.0.thread in
    let r = receiver.0.thread in
    let first = one-length s t (sender.1, Empty) config in
    let second = one-length r t (receiver.1, msg) (with_result s (sender.1, Empty) config) in
    let both = either (eqb t s) (eqb t r) (λ a b. ne (sym (eqb-true t s a) ∙ eqb-true t r b)) in
    omega (arith, first, second, both)
applied-length config (Alone at why stamp) t ne = one-length at.0.thread t (at.1, message_by why) config

from-length : (config : Config) (cs : List Commit) (t : ℕ) → ((i : ℕ) (c : Commit) → slice_get cs i ≡ Some c → IsApart c) → length (config_from config cs t) ≡ length (config t) + count_by (takes_part t) cs
from-length config [] t all = omega arith
from-length config (c ∷ cs) t all =
    let first = applied-length config c t (all 0 c refl) in
    let rest = from-length (applied config c) cs t (λ i d is. all (suc i) d is) in
    let here : length (config_from config (c ∷ cs) t) ≡ length (config_from (applied config c) cs t) = refl in
    let count : count_by (takes_part t) (c ∷ cs) ≡ cond (takes_part t c) 1 0 + count_by (takes_part t) cs = sum_by-cons (λ d. cond (takes_part t d) 1 0) c cs in
    omega (arith, first, rest, here, count)

-- a thread has made as many syncs as commits of the run are of it
pub counted : (ps : List Proc) (rows : ℕ) (journal : List Commit) (t : ℕ) → IsRun ps rows journal → count_by (takes_part t) journal ≡ length (config_of journal t)
counted ps rows journal t run =
    let is = from-length no_results journal t (λ i c at. apart ps rows _ c (run i c at).legal) in
    omega (arith, is)
