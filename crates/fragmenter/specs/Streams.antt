-- Messages that are cut one after the other, and joined again.
use Rattle.std.specs.Prelude.{◌≡◌, ◌≢◌, ℕ, Option, None, Some, List, [], ◌∷◌, ◌++◌, length, All}
use Rattle.std.specs.List.{flat_map}
use Rattle.linx_base.specs.declared.frame.Message.{Message}
use Rattle.linx_base.specs.declared.frame.Frame.{Frame}
use Rattle.linx_base.specs.Frames.{payload_of}
use Rattle.fragmenter.specs.declared.joiner.Joined.{Joined}
use Rattle.fragmenter.specs.declared.joiner.Joined.TheVariants.{More, Whole, Broken}
use Rattle.fragmenter.specs.Pieces.{pieces_of}
use Rattle.fragmenter.specs.Joining.{Begun, answers_to, held_after_all}

-- the frames of some messages, with p bytes each
abbrev pub frames_of : ℕ → List Message → List Frame
frames_of p messages = flat_map (λ m. pieces_of m p) messages

-- the messages that were made whole
abbrev pub wholes : List Joined → List Message
wholes [] = []
wholes (Whole m ∷ answers) = m ∷ wholes answers
wholes (More ∷ answers) = wholes answers
wholes (Broken ∷ answers) = wholes answers

-- some of the next message's pieces, not all; and none where there is no next message
abbrev pub BeginsNext : ℕ → List Message → List Frame → Type 0
BeginsNext p [] part = part ≡ []
BeginsNext p (m ∷ ms) part =
    (frame : Frame) × (rest : List Frame) × (pieces_of m p ≡ part ++ frame ∷ rest)

-- the message that has begun by some pieces of the next one
abbrev pub begun_by : List Message → List Frame → Option Begun
begun_by [] part = None
begun_by (m ∷ ms) [] = None
begun_by (m ∷ ms) (f ∷ fs) =
    Some (record {
      from = m.from;
      to = m.to;
      size = length m.body;
      bytes = flat_map payload_of (f ∷ fs);
    })

-- what a joiner made of the first frames of some messages
pub record JoinsInOrder (p : ℕ) (messages : List Message) (taken : List Frame) : Type 0 where
  -- the messages that were made whole, and those that follow
  pub whole : List Message
  pub later : List Message
  -- the pieces of the next message that were taken
  pub part : List Frame
  pub in_order : messages ≡ whole ++ later
  pub frames : taken ≡ frames_of p whole ++ part
  pub begins_next : BeginsNext p later part
  -- each of those messages was answered, and nothing else, and no frame broke them
  pub answered : wholes (answers_to None taken) ≡ whole
  pub unbroken : All (λ answer. answer ≢ Broken) (answers_to None taken)
  -- the joiner holds the rest
  pub holds : held_after_all None taken ≡ begun_by later part

-- whichever front of their frames was taken
abbrev pub AllJoinInOrder : ℕ → List Message → Type 0
AllJoinInOrder p messages =
    (taken rest : List Frame) → frames_of p messages ≡ taken ++ rest → JoinsInOrder p messages taken
