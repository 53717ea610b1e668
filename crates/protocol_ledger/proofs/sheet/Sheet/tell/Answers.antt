use Rattle.std.proofs.Common.{◌≡◌, ℕ, ◌<◌, ◌≤◌, ◌++◌, true, refl, sym, ap, ◌∙◌, subst, arith, get_or, List}
use Rattle.std.specs.Prelude.{option_to_list}
use Rattle.std.proofs.lemmas.List.{append_assoc}
use Rattle.protocol_values.specs.declared.Row.{Row}
use Rattle.protocol_values.specs.declared.Commit.{Commit}
use Rattle.protocol_ledger.specs.Tables.{rows_below, is_fresh, cell_at, joined_at, offer_at}
use Rattle.protocol_ledger.specs.Ledgers.{commits_of, told_at}
use Rattle.protocol_ledger.specs.Sheets.{table_of}
use Rattle.protocol_ledger.proofs.Loops.{commits_row}
use Rattle.protocol_ledger.proofs.CellWords.{zero_fresh}
use Rattle.protocol_ledger.proofs.Chosen.{commits_end}
use Rattle.protocol_ledger.proofs.Sheets.{sheet_fresh, sheet_row}
use Rattle.protocol_ledger.proofs.sheet.Sheet.tell.Goals as goal

pub loop-sync-preserved : goal.loop-sync-preserved
loop-sync-preserved c =
    let t = table_of c.args.self.now in
    let r : Row = record { thread = c.args.thread; sync = c.loop-sync.sync } in
    let before = commits_of (rows_below c.args.thread c.loop-sync.sync) (joined_at t) (offer_at t) in
    c.in_ok-tell_row.ensures refl
    ∙ ap (λ (cs : List Commit). cs ++ option_to_list (told_at (joined_at t) (offer_at t) r)) c.loop-sync.invariant
    ∙ append_assoc c.args.commits.now.items before (option_to_list (told_at (joined_at t) (offer_at t) r))
    ∙ ap (λ (cs : List Commit). c.args.commits.now.items ++ cs) (sym (commits_row c.args.thread c.loop-sync.sync (joined_at t) (offer_at t)))

pub tell_row-requires-clause-row : goal.tell_row-requires-clause-row
tell_row-requires-clause-row c =
    let there = sheet_row c.args.self.now (record { thread = c.args.thread; sync = c.loop-sync.sync }) c.requires.thread in
    there (subst (λ (n : ℕ). c.loop-sync.sync < n) (c.from-rows.ensures ∙ ap (λ (n : ℕ). get_or c.args.self.now.layout.lens n 0) c.from.ensures) c.loop-sync-test.true)

pub returns-then-word-eq0 : goal.returns-then-word-eq0
returns-then-word-eq0 c = λ ok.
    let s = c.args.self.now in
    let t = table_of s in
    let r : Row = record { thread = c.args.thread; sync = c.loop-sync.sync } in
    let low = subst (λ (n : ℕ). c.loop-sync.sync < n) (c.from-rows.ensures ∙ ap (λ (n : ℕ). get_or s.layout.lens n 0) c.from.ensures) c.loop-sync-test.true in
    let row = sheet_row s r c.requires.thread low in
    let fresh : is_fresh (cell_at t r) ≡ true = zero_fresh t r row (sym c.cell_word-word.ensures ∙ c.if-word-eq0.true) in
    let few = s.fits.1 c.args.thread in
    c.loop-sync.invariant
    ∙ ap (λ (cs : List Commit). c.args.commits.now.items ++ cs) (sym (commits_end t c.args.thread c.loop-sync.sync t.rows c.requires.lawful fresh (omega (arith, few, low))))

-- a row without words is Fresh
pub returns : goal.returns
returns c = λ ok.
    let s = c.args.self.now in
    let t = table_of s in
    let r : Row = record { thread = c.args.thread; sync = c.loop-sync.sync } in
    let len = c.from-rows.ensures ∙ ap (λ (n : ℕ). get_or s.layout.lens n 0) c.from.ensures in
    let past = subst (λ (n : ℕ). n ≤ c.loop-sync.sync) len c.loop-sync-test.false in
    let inside = subst (λ (n : ℕ). c.loop-sync.sync ≤ n) len c.loop-sync.auto.sync-end in
    let few = s.fits.1 c.args.thread in
    let fresh : is_fresh (cell_at t r) ≡ true = ap is_fresh (sheet_fresh s r (λ its. past)) in
    c.loop-sync.invariant
    ∙ ap (λ (cs : List Commit). c.args.commits.now.items ++ cs) (sym (commits_end t c.args.thread c.loop-sync.sync t.rows c.requires.lawful fresh (omega (arith, few, inside))))
