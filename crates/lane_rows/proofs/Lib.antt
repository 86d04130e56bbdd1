-- Laws of lanes as keys, of placing them in rows and of sorting the rows.
pub mod KeyParts
pub mod Placing
pub mod PlacingWalk
pub mod SortingRows
