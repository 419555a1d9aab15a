pub mod Lists
pub mod Padding
pub mod Shapes
pub mod Reasons
pub mod Cuts
pub mod Fronts
