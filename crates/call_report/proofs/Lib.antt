mod ListLemmas
mod CellLines
pub mod GotsText
