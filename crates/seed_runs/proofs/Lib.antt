mod Decided
