mod Differing
mod ToldLaws
mod OtherLaws
mod NumberingLaws
mod FirstWordLaws
mod Renaming
mod AloneLaws
