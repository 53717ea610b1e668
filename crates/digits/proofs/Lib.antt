pub mod Numbers
pub mod Forms
