-- A message cut into frames.
use Rattle.std.specs.Prelude.{◌≡◌, ℕ, suc, zero, ◌≤◌, Bool, true, false, List, [], ◌∷◌, length}
use Rattle.std.specs.Prelude.{take, drop, All}
use Rattle.std.specs.Int.{div_ceil}
use Rattle.std.specs.List.{flat_map}
use Rattle.linx_base.specs.declared.frame.Message.{Message}
use Rattle.linx_base.specs.declared.frame.Frame.{Frame}
use Rattle.linx_base.specs.declared.frame.Frame.TheVariants.{First, Next}
use Rattle.linx_base.specs.Frames.{payload_of, has_more}

-- further elements stand in the list
abbrev pub is_more : {X : Type 0} → List X → Bool
is_more [] = false
is_more (x ∷ xs) = true

-- bytes cut into at most n payloads of p bytes, the last of which may be shorter
unfoldable pub cut : ℕ → ℕ → List ℕ → List (List ℕ)
cut zero p bytes = []
cut (suc n) p [] = []
cut (suc n) p (b ∷ bs) = take p (b ∷ bs) ∷ cut n p (drop p (b ∷ bs))

-- the frames that carry these payloads behind a first frame
unfoldable pub followers : List (List ℕ) → List Frame
followers [] = []
followers (payload ∷ rest) = Next (is_more rest) payload ∷ followers rest

-- the frames that carry these payloads of a message
unfoldable pub framed : Message → List (List ℕ) → List Frame
framed m [] = []
framed m (payload ∷ rest) =
    First (is_more rest) m.from m.to (length m.body) payload ∷ followers rest

-- the frames of a message, with p bytes each
unfoldable pub pieces_of : Message → ℕ → List Frame
pieces_of m p = framed m (cut (length m.body) p m.body)

-- a frame begins the message: it has its addresses and its size
abbrev pub Begins : Message → Frame → Type 0
Begins m (First more from to size payload) = (from ≡ m.from) × (to ≡ m.to) × (size ≡ length m.body)
Begins m (Next more payload) = ⊥

-- a frame goes on with a message
abbrev pub IsNextFrame : Frame → Type 0
IsNextFrame (First more from to size payload) = ⊥
IsNextFrame (Next more payload) = Unit {0}

-- the first frame begins the message, and the others go on with it
abbrev pub IsHeaded : Message → List Frame → Type 0
IsHeaded m [] = ⊥
IsHeaded m (f ∷ fs) = Begins m f × All IsNextFrame fs

-- this holds of all frames but the last
abbrev pub AllButLast : (Frame → Type 0) → List Frame → Type 0
AllButLast P [] = Unit {0}
AllButLast P (f ∷ []) = Unit {0}
AllButLast P (f ∷ g ∷ fs) = P f × AllButLast P (g ∷ fs)

-- the last frame alone has no more behind it
abbrev pub IsMarked : List Frame → Type 0
IsMarked [] = ⊥
IsMarked (f ∷ []) = has_more f ≡ false
IsMarked (f ∷ g ∷ fs) = (has_more f ≡ true) × IsMarked (g ∷ fs)

-- the frames are the message cut into pieces of p bytes
pub record IsCutInto (m : Message) (p : ℕ) (frames : List Frame) : Type 0 where
  -- the payloads joined are the body
  pub joined : flat_map payload_of frames ≡ m.body
  pub headed : IsHeaded m frames
  -- all but the last have p bytes
  pub full : AllButLast (λ f. length (payload_of f) ≡ p) frames
  -- no piece is empty, and none is longer than p bytes
  pub sized : All (λ f. (1 ≤ length (payload_of f)) × (length (payload_of f) ≤ p)) frames
  -- `more` is false on the last alone
  pub marked : IsMarked frames
  -- they are as many as the body's length divided by p, rounded up
  pub counted : length frames ≡ div_ceil (length m.body) p
