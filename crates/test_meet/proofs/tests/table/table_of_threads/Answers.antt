use Rattle.std.proofs.Common.{◌<◌, ℕ, List, sym, ap, subst}
use Rattle.std.proofs.lemmas.Option.{slice_get_within}
use Rattle.protocol_values.specs.declared.Row.{Row}
use Rattle.cell_table.specs.Sight.{Has}
use Rattle.protocol_ledger.specs.Worlds.{first_row}
use Rattle.cell.proofs.Playing.{own_row}
use Rattle.test_meet.proofs.tests.table.table_of_threads.Goals as goal

pub returns-clause-passes : goal.returns-clause-passes
returns-clause-passes c = λ number pass e.
    let dealt = c.in_ok-cells.ensures.passes number pass e in
    let below : number < c.args.threads = subst (λ (n : ℕ). number < n) c.in_ok-cells.ensures.size.3 (slice_get_within _ number pass e) in
    (dealt.0, subst (λ (rows : List Row). Has rows (first_row number)) (sym (ap (λ s. s.held) dealt.1)) (own_row c.args.threads number below), ap (λ s. s.opened) dealt.1, ap (λ s. s.ended) dealt.1)
