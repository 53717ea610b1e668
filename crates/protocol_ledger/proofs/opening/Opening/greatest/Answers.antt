-- The greatest of the threads' stamps, and of those of the nacks.
use Rattle.std.proofs.Common.{◌≡◌, ◌∙◌, ℕ, List, max, ap, rules, tests}
use Rattle.std.specs.Prelude.{unwrap_or}
use Rattle.std.specs.List.{fold}
use Rattle.std.proofs.lemmas.Iterator.{YieldsList-from_map, YieldsList-from_slice}
use Rattle.std.proofs.lemmas.Iterator.Consumers.{reduce_from_yields_List}
use Rattle.std.proofs.lemmas.List.Folds.{max_of_map}
use Rattle.protocol_ledger.specs.declared.opening.Life.{Life}
use Rattle.protocol_ledger.specs.declared.opening.NackState.{NackState}
use Rattle.protocol_ledger.specs.Openings.{stamp_in}
use Rattle.protocol_ledger.proofs.opening.Opening.greatest.Goals as goal

pub returns : goal.returns
returns c =
    let ts : List (Life × ℕ) = c.args.self.now.threads.items in
    let ss : List NackState = c.args.self.now.nacks.items in
    let last : c.unwrap_or-last.result ≡ fold (λ most (t : Life × ℕ). max most t.1) 0 ts =
    c.unwrap_or-last.ensures
    ∙ ap (λ o. unwrap_or o 0) (reduce_from_yields_List _ c.map.result _ c.max.ensures.ran (YieldsList-from_map _ (λ (t : Life × ℕ). t.1) (YieldsList-from_slice ts cc) c.map.ensures.closure (λ x b q k. search (rules, tests))))
    ∙ max_of_map (λ (t : Life × ℕ). t.1) ts in
    let enabled : c.unwrap_or-enabled.result ≡ fold (λ most s. max most (stamp_in s)) 0 ss =
    c.unwrap_or-enabled.ensures
    ∙ ap (λ o. unwrap_or o 0) (reduce_from_yields_List _ c.map-2.result _ c.max-2.ensures.ran (YieldsList-from_map _ stamp_in (YieldsList-from_slice ss cc) c.map-2.ensures.closure (λ x b q k. search (rules, tests))))
    ∙ max_of_map stamp_in ss in
    c.max-3.ensures ∙ (λ i. max (last i) (enabled i))
