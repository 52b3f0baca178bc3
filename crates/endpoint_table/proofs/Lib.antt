pub mod RecordLemmas
pub mod EventLemmas
pub mod DebtLemmas
pub mod OrderLemmas
pub mod NameLemmas
pub mod IndexLemmas
pub mod TableLemmas
pub mod SearchLemmas
