-- The ledger of a schedule whose steps do as the processes do is one of the processes.
use Rattle.std.proofs.Common.{◌≡◌, ℕ, refl, ◌∙◌, arith}
use Rattle.protocol_ledger.specs.Ledgers.{ledger_of}
use Rattle.protocol_ledger.specs.Tables.{Table}
use Rattle.protocol_ledger.specs.Worlds.{start_world}
use Rattle.protocol_ledger.proofs.LedgerLemmas.{kept_start, lawful_from_start}
use Rattle.protocol_ledger.proofs.Onward.{grows-schedule}
use Rattle.protocol_ledger.proofs.Acting.{schedule-acts}
use Rattle.journal_ledger.specs.Ledgers.{ScheduleHasLedger, ScheduleIsRun, acts_of, nothing_before}
use Rattle.journal_ledger.proofs.Leading.{ledger-is-run}

pub schedule-has-ledger : ScheduleHasLedger
schedule-has-ledger ps threads rows seats later steps w few_threads few_rows wait plays acts =
    schedule-acts threads rows seats later (nothing_before ps) (acts_of ps) steps w few_threads few_rows refl (λ t low free. (wait t low free, refl)) plays acts

ledger-rows : (t : Table) → (ledger_of t).rows ≡ t.rows
unfolding ledger_of
ledger-rows t = refl

start-rows : (threads rows seats later : ℕ) → (start_world threads rows seats later).table.rows ≡ rows
unfolding start_world
start-rows threads rows seats later = refl

pub schedule-is-run : ScheduleIsRun
schedule-is-run ps threads rows seats later steps w commits few_threads few_rows wait plays acts order =
    let size : (ledger_of w.table).rows ≡ rows = ledger-rows w.table ∙ (grows-schedule (start_world threads rows seats later) w steps (kept_start threads rows seats later few_threads few_rows) plays).rows ∙ start-rows threads rows seats later in
    ledger-is-run ps rows (ledger_of w.table) commits (lawful_from_start threads rows seats later steps w few_threads few_rows plays)
    (schedule-has-ledger ps threads rows seats later steps w few_threads few_rows wait plays acts)
    (omega (arith, size)) order
