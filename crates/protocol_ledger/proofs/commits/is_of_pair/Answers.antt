use Rattle.std.proofs.Common.{◌≡◌, ℕ, ◌<◌, ◌≤◌, ◌%◌, ◌/◌, ◌^◌, true, false, ◌⊎◌, ⊎_elim, sym, ◌∙◌, arith, is_some}
use Rattle.std.proofs.lemmas.Bool.{cases_Bool, cases_lt, le-ltb, eq-eqb, ne_eqb}
use Rattle.protocol_ledger.specs.CellWords.{partner_by}
use Rattle.protocol_ledger.proofs.CellWords.{IsPairWord, pair_word, pair_only}
use Rattle.protocol_ledger.proofs.commits.is_of_pair.Goals as goal
use Rattle.protocol_ledger.proofs.commits.is_of_pair.Goals.{then-state-lt3-via-then-state-lt3, then-state-lt3-via-else-state-lt3+then-state-gt4, then-state-lt3-via-else-state-lt3+else-state-gt4+then-word-eq0}

-- a word of which one part is not so has no partner
none_by : (w : ℕ) → (IsPairWord w → ⊥) → false ≡ is_some (partner_by w)
none_by w not = ⊎_elim
    (λ (e : is_some (partner_by w) ≡ true). absurd (not (pair_only w e)))
    (λ (e : is_some (partner_by w) ≡ false). sym e)
    (cases_Bool (is_some (partner_by w)))

of_state : (s : ℕ) → 3 ≤ s → s ≤ 4 → (s ≡ 3) ⊎ (s ≡ 4)
of_state s low high = ⊎_elim
    (λ (e : s < 4). ◌⊎◌.inl (omega arith))
    (λ (e : 4 ≤ s). ◌⊎◌.inr (omega arith))
    (cases_lt s 4)

pub returns-then-state-lt3 : goal.returns-then-state-lt3
returns-then-state-lt3 c = none_by c.args.word (λ h. elim c.then-state-lt3.branch [
  | then-state-lt3-via-then-state-lt3 w ↦ let low = w.if-state-lt3.true in ⊎_elim (λ (e : c.args.word % 8 ≡ 3). absurd (omega arith)) (λ (e : c.args.word % 8 ≡ 4). absurd (omega arith)) h.state
  | then-state-lt3-via-else-state-lt3+then-state-gt4 w ↦ let high = w.if-state-gt4.true in ⊎_elim (λ (e : c.args.word % 8 ≡ 3). absurd (omega arith)) (λ (e : c.args.word % 8 ≡ 4). absurd (omega arith)) h.state
  | then-state-lt3-via-else-state-lt3+else-state-gt4+then-word-eq0 w ↦ let none = w.if-word-eq0.true in absurd (omega (arith, h.paired))
])

pub returns-then-stamp-gt0 : goal.returns-then-stamp-gt0
returns-then-stamp-gt0 c = ⊎_elim
    (λ (low : c.args.word / 2 ^ 26 < 2 ^ 32). eq-eqb _ _ (omega arith) ∙ sym (pair_word c.args.word (record {
      state = of_state (c.args.word % 8) c.if-state-lt3.false c.if-state-gt4.false;
      paired = (let some = c.if-word-eq0.false in omega arith);
      stamp_low = (let some = c.if-stamp-gt0.true in omega arith);
      stamp_high = low;
    })))
    (λ (high : 2 ^ 32 ≤ c.args.word / 2 ^ 26). ne_eqb _ _ (λ e. absurd (omega arith)) ∙ none_by c.args.word (λ h. let low = h.stamp_high in absurd (omega arith)))
    (cases_lt (c.args.word / 2 ^ 26) (2 ^ 32))

pub returns-else-stamp-gt0 : goal.returns-else-stamp-gt0
returns-else-stamp-gt0 c = let none = c.if-stamp-gt0.false in le-ltb 0 _ (omega arith) ∙ none_by c.args.word (λ h. let some = h.stamp_low in absurd (omega arith))
