mod Fronts
pub mod Moments
