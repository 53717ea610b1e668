pub mod LedgerOrder
pub mod Leading
pub mod Schedules
pub mod Opening
