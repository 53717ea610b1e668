-- Tables whose threads have words for all rows.
use Rattle.std.proofs.Common.{◌≤◌, ◌<◌, ℕ, arith}
use Rattle.protocol_ledger.specs.Short.{Fits, even, rows_of}
use Rattle.protocol_ledger.proofs.Short.{even_fits, even_rows}
use Rattle.cell.specs.Calls.{AllHaveWords}

pub even_some : (offers rows threads : ℕ) → threads ≤ 64 → offers ≤ 8 → 1 ≤ rows → Fits (even offers rows) rows × ((t : ℕ) → t < threads → 1 ≤ rows_of (even offers rows) t)
even_some offers rows threads few narrow some = (even_fits offers rows narrow, λ t below. let all = even_rows offers rows t (omega arith) in omega arith)

pub even_all : (offers rows threads : ℕ) → threads ≤ 64 → AllHaveWords (even offers rows) threads rows
even_all offers rows threads few r its row = let all = even_rows offers rows r.thread (omega arith) in omega arith
