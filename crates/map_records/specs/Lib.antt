-- Records put one after another, and the bytes of the map that the words hold.
pub mod Puts
