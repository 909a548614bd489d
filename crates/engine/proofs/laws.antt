pub mod Numbers
pub mod Widths
pub mod Fits
pub mod Finish
pub mod Draw
