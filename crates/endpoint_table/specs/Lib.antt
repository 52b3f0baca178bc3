pub mod Table
pub mod InTable
