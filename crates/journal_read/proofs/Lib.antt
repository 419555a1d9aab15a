pub mod StepLaws
pub mod TextLaws
pub mod CallLaws
pub mod LogLaws
pub mod PrintedLaws
mod AgreeLaws
