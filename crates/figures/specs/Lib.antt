pub mod OnePart
pub mod Pasts
pub mod TwoWindows
pub mod Worked
