use Rattle.std.proofs.Common.{◌≡◌, ◌∙◌, ◌+◌, ◌*◌, ◌<◌, ◌≤◌, ℕ, List, ap, arith, length, refl, set, slice_get, subst, sym}
use Rattle.std.proofs.lemmas.List.{length-set}
use Rattle.protocol_values.specs.declared.NackName.{NackName}
use Rattle.protocol_values.specs.declared.NackWord.TheVariants as word
use Rattle.protocol_ledger.specs.Ledgers.{Ledger, ledger_of}
use Rattle.protocol_ledger.specs.Openings.{TellsNack, nack_numbered}
use Rattle.protocol_ledger.specs.Sheets.{table_of}
use Rattle.protocol_ledger.specs.declared.opening.NackState.{NackState}
use Rattle.protocol_ledger.specs.declared.opening.NackState.TheVariants.{Unbound}
use Rattle.protocol_ledger.proofs.Closing.{each_kept, each_set, nack_told, numbered, zero_says}
use Rattle.protocol_ledger.proofs.ledger.Ledger.tell_nacks.Goals as goal
use Rattle.protocol_ledger.proofs.ledger.Ledger.tell_nacks.Goals.{then-word-ne0, else-word-ne0}

pub nack_words-word-items-requires : goal.nack_words-word-items-requires
unfolding ledger_of
nack_words-word-items-requires c =
    let threads : c.args.self.now.threads ≡ c.self.inside.sheet.threads = sym (ap (λ (l : Ledger). l.threads) c.self.view_is) in
    omega (arith, threads, c.requires.thread)

pub loop-k-init : goal.loop-k-init
loop-k-init c = (refl, λ i state e. let told = c.requires.told i state e in (λ h. told.0 (omega arith), λ h. told.1 (omega arith)))

pub loop-k-preserved : goal.loop-k-preserved
loop-k-preserved c =
    let inv = c.loop-k.invariant in
    let l = c.args.self.now in
    let t = table_of c.self.inside.sheet in
    let states = c.loop-k.states in
    let at : ℕ = c.args.thread * 64 + c.loop-k.k in
    let nack : NackName = record { thread = c.args.thread; k = c.loop-k.k } in
    let low : c.loop-k.k < 64 = let test = c.loop-k-test.true in let count = c.nack_words-word-items.ensures.count in omega (arith, test, count) in
    let Told = λ (i : ℕ) (state : NackState). TellsNack l (nack_numbered i) state in
    let Blank = λ (i : ℕ) (state : NackState). state ≡ Unbound in
    elim c.if-word-ne0.branch [
      | then-word-ne0 w ↦
          let state = w.nack_state.result in
          let place : c.from-first.result * 64 + c.loop-k.k ≡ at = omega (arith, c.from-first.ensures) in
          let is : c.if-word-ne0.states ≡ set states at state = w.states-is ∙ ap (λ (n : ℕ). set states n state) place in
          let here : TellsNack l (nack_numbered at) state = subst (λ (n : NackName). TellsNack l n state) (sym (numbered nack low)) w.nack_state.ensures in (
            ap (λ (s : List NackState). length s) is ∙ length-set states at state ∙ inv.0,
            λ i s e. each_set (λ (n : ℕ) (x : NackState). (n < c.args.thread * 64 + (c.loop-k.k + 1) → Told n x) × (c.args.thread * 64 + (c.loop-k.k + 1) ≤ n → Blank n x)) states at state
                (λ n x has apart. let before = inv.1 n x has in (λ h. before.0 (omega (arith, apart)), λ h. before.1 (omega arith)))
                (λ h. here, λ h. absurd (omega arith))
                i s (sym (ap (λ (x : List NackState). slice_get x i) is) ∙ e),
          )
      | else-word-ne0 w ↦
          let zero : TellsNack l nack Unbound = nack_told t l nack word.Unbound c.self.view_is (sym (zero_says t nack (sym (c.nack_words-word-items.ensures.words c.loop-k.k low) ∙ w.if-word-ne0.false))) in
          let here : TellsNack l (nack_numbered at) Unbound = subst (λ (n : NackName). TellsNack l n Unbound) (sym (numbered nack low)) zero in (
            ap (λ (s : List NackState). length s) w.states-is ∙ inv.0,
            λ i s e.
                let told = each_kept Told Blank states at inv.1 (λ x blank. subst (λ (y : NackState). Told at y) (sym blank) here) i s (sym (ap (λ (x : List NackState). slice_get x i) w.states-is) ∙ e) in
                (λ h. told.0 (omega arith), λ h. told.1 (omega arith)),
          )
    ]

pub returns-clause-told : goal.returns-clause-told
returns-clause-told c = λ i state e.
    let told = c.loop-k.invariant.1 i state e in
    let all : c.loop-k.k ≡ 64 = omega (arith, c.nack_words-word-items.ensures.count, c.loop-k-test.false, c.loop-k.auto.k-end) in
    (λ h. told.0 (omega (arith, all)), λ h. told.1 (omega (arith, all)))
