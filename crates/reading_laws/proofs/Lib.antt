pub mod Tools
pub mod Cuts
mod NumberLaws
pub mod NameLaws
mod DataLaws
pub mod PeerLaws
mod AnswerLaws
mod FilterLaws
mod HeadLaws
mod EffectLaws
pub mod Spaces
pub mod LineLaws
pub mod PrintedLaws
pub mod ImageLaws
pub mod FitLaws
