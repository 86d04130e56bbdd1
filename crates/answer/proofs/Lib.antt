-- Laws of what is put over the front of an area.
pub mod Fronts
