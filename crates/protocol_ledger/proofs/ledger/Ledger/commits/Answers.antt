use Rattle.std.proofs.Common.{subst, rules, IsPermutation}
use Rattle.std.specs.Prelude.{Contains, ◌↔◌}
use Rattle.std.proofs.lemmas.List.Sorted.{Contains-permutation, IsPermutation-sym, answers_always}
use Rattle.protocol_values.specs.Commits.{order_of}
use Rattle.protocol_ledger.specs.Ledgers.{Ledger, commits_in, HasCommit, IsLawful}
use Rattle.protocol_ledger.specs.Sheets.{table_of}
use Rattle.protocol_ledger.proofs.LedgerReadings.{members_in_ledger}
use Rattle.protocol_ledger.proofs.StampLemmas.{moved_in_ledger}
use Rattle.protocol_ledger.proofs.Ordering.{causal_ledger}
use Rattle.protocol_ledger.proofs.ledger.Ledger.commits.Goals as goal

pub returns-clause-once : goal.returns-clause-once
returns-clause-once c =
    moved_in_ledger (table_of c.self.inside.sheet) c.args.self.now c.self.view_is _ _ _ c.in_ok-told.ensures c.in_ok-commits.ensures c.sort_by_key.ensures.permutation

pub returns-clause-members : goal.returns-clause-members
returns-clause-members c = λ d.
    let t = table_of c.self.inside.sheet in
    let moved : IsPermutation (commits_in c.args.self.now) c.sort_by_key.new.self.items =
    moved_in_ledger t c.args.self.now c.self.view_is _ _ _ c.in_ok-told.ensures c.in_ok-commits.ensures c.sort_by_key.ensures.permutation in
    let members = subst (λ (l : Ledger). Contains (commits_in l) d ↔ HasCommit l d) c.self.view_is (members_in_ledger t c.self.invariant d) in (
      λ h. members.0 (Contains-permutation c.sort_by_key.new.self.items (commits_in c.args.self.now) d (IsPermutation-sym _ _ moved) h),
      λ h. Contains-permutation (commits_in c.args.self.now) c.sort_by_key.new.self.items d moved (members.1 h),
    )

pub returns-clause-in_order : goal.returns-clause-in_order
returns-clause-in_order c = c.in_ok-sort_by_key.ensures.sorted order_of (answers_always _ _ _ (λ f a r g h. search rules))

pub returns-clause-causal : goal.returns-clause-causal
returns-clause-causal c =
    let moved : IsPermutation (commits_in c.args.self.now) c.sort_by_key.new.self.items =
    moved_in_ledger (table_of c.self.inside.sheet) c.args.self.now c.self.view_is _ _ _ c.in_ok-told.ensures c.in_ok-commits.ensures c.sort_by_key.ensures.permutation in
    let sorted = c.in_ok-sort_by_key.ensures.sorted order_of (answers_always _ _ _ (λ f a r g h. search rules)) in
    causal_ledger c.args.self.now (subst IsLawful c.self.view_is c.self.invariant) c.sort_by_key.new.self.items moved sorted

pub returns-clause-lawful : goal.returns-clause-lawful
returns-clause-lawful c = subst IsLawful c.self.view_is c.self.invariant
