-- Laws of parts of lists and of runs of stores.
pub mod Parts
pub mod Sets
pub mod Fronts
