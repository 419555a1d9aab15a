-- A state with a way back: as it was when an event began, and as it is now.

-- what was when an event began, and what is now: a change moves the latter alone, and then it
-- stays, or what was comes back
pub record Both (X : Type 0) : Type 0 where
  pub was : X
  pub is : X

-- nothing has changed since the event began
abbrev pub still : {X : Type 0} → X → Both X
still x = record { was = x; is = x }
