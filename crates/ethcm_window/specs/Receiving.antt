-- What a receiver is seen as, and what it does with a frame.
use Rattle.std.specs.Prelude.{◌≡◌, ℕ, suc, ◌+◌, ◌-◌, ◌<◌, ◌≤◌, ◌==◌, nat_lt, min, if◌then◌else◌}
use Rattle.std.specs.Prelude.{Bool, true, false, List, [], ◌∷◌, ◌++◌, filter, find, option_map}
use Rattle.std.specs.Prelude.{Option}
use Rattle.std.specs.List.{list_any}
use Rattle.linx_base.specs.declared.frame.Frame.{Frame}
use Rattle.linx_base.specs.declared.frame.SentFrame.{SentFrame}
use Rattle.ethcm_window.specs.declared.rx.Accept.{Accept}
use Rattle.ethcm_window.specs.declared.rx.Accept.TheVariants.{Taken, Early, Old}
use Rattle.ethcm_window.specs.Sending.{number_limit}

-- a receiver: the number that it expects, and the frames that came early and are kept, in order of
-- their numbers
pub record Receiver : Type 0 where
  pub expected : ℕ
  pub kept : List SentFrame

-- a receiver in a session that begins
abbrev pub empty_receiver : Receiver
empty_receiver = record { expected = 0; kept = [] }

-- an early frame is kept where its number is less than this much above the expected one
abbrev pub early_limit : ℕ
early_limit = 256

-- the numbers of these frames rise from `low` on, and are below `high`
abbrev pub RisesWithin : ℕ → ℕ → List SentFrame → Type 0
RisesWithin low high [] = Unit {0}
RisesWithin low high (s ∷ kept) =
    (low ≤ s.number) × ((s.number < high) × RisesWithin (suc s.number) high kept)

-- the numbers of these frames rise
abbrev pub NumbersRise : List SentFrame → Type 0
NumbersRise kept = RisesWithin 0 number_limit kept

-- what is kept is in order, not below the expected number, and less than 256 above it
abbrev pub KeepsInOrder : ℕ → List SentFrame → Type 0
KeepsInOrder expected kept = RisesWithin expected (min (expected + early_limit) number_limit) kept

-- the frame has this number
abbrev pub has_number : ℕ → SentFrame → Bool
has_number n s = s.number == n

-- a frame of this number is kept
abbrev pub keeps_number : ℕ → List SentFrame → Bool
keeps_number n kept = list_any (has_number n) kept

-- the frame that is kept with this number
abbrev pub kept_at : ℕ → List SentFrame → Option Frame
kept_at n kept = option_map (λ s. s.frame) (find (has_number n) kept)

-- the kept frames below a number
abbrev pub kept_below : ℕ → List SentFrame → List SentFrame
kept_below n kept = filter (λ s. nat_lt s.number n) kept

-- the kept frames above a number
abbrev pub kept_above : ℕ → List SentFrame → List SentFrame
kept_above n kept = filter (λ s. nat_lt n s.number) kept

-- what is kept with one more frame; nothing changes where one of its number is kept already
abbrev pub kept_with : SentFrame → List SentFrame → List SentFrame
kept_with s kept =
    if keeps_number s.number kept then kept
    else kept_below s.number kept ++ s ∷ kept_above s.number kept

-- what is kept after a frame came early: it is kept where it is less than 256 above the expected
-- number
abbrev pub kept_early : ℕ → List SentFrame → SentFrame → List SentFrame
kept_early expected kept s =
    if nat_lt s.number (expected + early_limit) then kept_with s kept else kept

-- how far it is from the expected number to the first of these frames; 256 where there is none
abbrev pub distance_to : ℕ → List SentFrame → ℕ
distance_to expected [] = early_limit
distance_to expected (s ∷ above) = s.number - expected

-- how far it is from the expected number to the least kept one above it; 256 where none is
abbrev pub missing_count : ℕ → List SentFrame → ℕ
missing_count expected kept = distance_to expected (kept_above expected kept)

-- the receiver after it took the expected number: what is kept above it stays
abbrev pub after_taking : Receiver → Receiver
after_taking rx = record { expected = rx.expected + 1; kept = kept_above rx.expected rx.kept }

-- the receiver after a frame
abbrev pub after_frame : Receiver → SentFrame → Receiver
after_frame rx s =
    if s.number == rx.expected then after_taking rx
    else (if nat_lt s.number rx.expected then rx
    else record rx { kept = kept_early rx.expected rx.kept s })

-- what a receiver does with a frame
abbrev pub acceptance_of : Receiver → SentFrame → Accept
acceptance_of rx s =
    if s.number == rx.expected then Taken s.frame
    else (if nat_lt s.number rx.expected then Old
    else Early (missing_count rx.expected (kept_early rx.expected rx.kept s)))

-- the frame of this number is to be kept: it comes early, is near, and isn't kept yet
pub record IsToKeep (rx : Receiver) (n : ℕ) : Type 0 where
  pub early : rx.expected < n
  pub near : n < rx.expected + early_limit
  pub missing : keeps_number n rx.kept ≡ false

-- the least kept number above the expected one is `count` above it; at 256 none is kept above it
pub record CountsMissing (rx : Receiver) (count : ℕ) : Type 0 where
  pub at_least : 1 ≤ count
  pub at_most : count ≤ early_limit
  pub missing :
      (n : ℕ) → rx.expected < n → n < rx.expected + count → keeps_number n rx.kept ≡ false
  pub next : count < early_limit → keeps_number (rx.expected + count) rx.kept ≡ true

-- an early frame's count is of the missing numbers
abbrev pub CountsIfEarly : Receiver → Accept → Type 0
CountsIfEarly rx (Taken frame) = Unit {0}
CountsIfEarly rx (Early count) = CountsMissing rx count
CountsIfEarly rx Old = Unit {0}
