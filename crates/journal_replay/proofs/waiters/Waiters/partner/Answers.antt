use Rattle.std.proofs.Common.{◌≡◌, ◌+◌, ◌-◌, ◌<◌, ℕ, length, swap_remove, Contains, sym, ap, ◌∙◌, subst, arith}
use Rattle.protocol_values.specs.declared.Message.{Message}
use Rattle.protocol_values.specs.declared.Row.{Row}
use Rattle.journal_replay.specs.Searching.{Places, base_on}
use Rattle.journal_replay.specs.Standing.{Finds}
use Rattle.journal_replay.proofs.Removing.{Behind, contains-swapped, behind-swapped, behind-more, behind-all, length-swap}
use Rattle.journal_replay.proofs.waiters.Waiters.partner.Goals as goal

pub loop-index-preserved-in-None : goal.loop-index-preserved-in-None
loop-index-preserved-in-None c =
    let s = c.args.threads.now in
    let Own : Row × ℕ → Type 0 = λ x. (n : Message) → Finds s.strands.items s.rows x (base_on c.args.side c.args.chan n) → x.0.thread ≡ c.args.thread in
    let items = c.loop-index.self-inside.places.items in
    let i : ℕ = c.loop-index.index - 1 in
    let at : Row × ℕ = c.index-at.result.now in
    let d : Row × ℕ = c.swap_remove.result in
    let within : i < length items = omega (arith, c.loop-index-test.true, c.loop-index.invariant.within) in
    let next : c.loop-index.index ≡ i + 1 = omega (arith, c.loop-index-test.true) in
    let is : c.swap_remove.new.self.items ≡ swap_remove items i d = c.swap_remove.ensures.items in
    record {
      within = omega (arith, within, length-swap items i d, ap (λ (xs : Places). length xs) is);
      kept = λ x m finds there.
          subst (λ (xs : Places). Contains xs x) (sym is)
          (contains-swapped items i d at x within (c.loop-index.invariant.kept x m finds there)
          (λ same. c.in-None.ensures m (subst (λ (y : Row × ℕ). Finds s.strands.items s.rows y (base_on c.args.side c.args.chan m)) (sym (c.index-at.ensures ∙ same)) finds)));
      own = subst (λ (xs : Places). Behind Own xs i) (sym is)
          (behind-swapped Own items i d within (subst (Behind Own items) next c.loop-index.invariant.own));
    }

pub loop-index-preserved : goal.loop-index-preserved
loop-index-preserved c =
    let s = c.args.threads.now in
    let Own : Row × ℕ → Type 0 = λ x. (n : Message) → Finds s.strands.items s.rows x (base_on c.args.side c.args.chan n) → x.0.thread ≡ c.args.thread in
    let items = c.loop-index.self-inside.places.items in
    let i : ℕ = c.loop-index.index - 1 in
    let at : Row × ℕ = c.index-at.result.now in
    let next : c.loop-index.index ≡ i + 1 = omega (arith, c.loop-index-test.true) in
    record {
      within = omega (arith, c.loop-index.invariant.within);
      kept = c.loop-index.invariant.kept;
      own = behind-more Own items i at (subst Own c.index-at.ensures (λ n finds. c.if-at-thread.false)) (subst (Behind Own items) next c.loop-index.invariant.own);
    }

pub returns-clause-found : goal.returns-clause-found
returns-clause-found c = λ at m finds there.
    let s = c.args.threads.now in
    let Own : Row × ℕ → Type 0 = λ x. (n : Message) → Finds s.strands.items s.rows x (base_on c.args.side c.args.chan n) → x.0.thread ≡ c.args.thread in
    let items = c.loop-index.self-inside.places.items in
    behind-all Own items at (subst (Behind Own items) (omega (arith, c.loop-index-test.false)) c.loop-index.invariant.own)
    (c.loop-index.invariant.kept at m finds there) m finds
