-- Laws of records put one after another, and of tables of factors.
pub mod PutRecords
pub mod PutLoops
pub mod Tables
