-- How a joiner holds the message so far: its progress, and its pieces.
use Rattle.std.specs.Prelude.{◌≡◌, ℕ, ◌+◌, ◌<◌, ◌==◌, nat_lt, if◌then◌else◌, Bool, true, false}
use Rattle.std.specs.Prelude.{Option, None, Some, List, [], ◌∷◌, ◌++◌, length}
use Rattle.std.specs.List.{flat_map}
use Rattle.linx_base.specs.declared.frame.Frame.{Frame}
use Rattle.linx_base.specs.Frames.{payload_of}
use Rattle.fragmenter.specs.declared.joiner.Joined.TheVariants.{More, Whole, Broken}
use Rattle.fragmenter.specs.declared.joiner.Progress.{Progress}
use Rattle.fragmenter.specs.declared.joiner.Fate.{Fate}
use Rattle.fragmenter.specs.declared.joiner.Fate.TheVariants.{GoesOn, Completes, Breaks}
use Rattle.fragmenter.specs.Joining.{Begun, held_after, joiner_answer}

-- the bytes of some pieces, joined
abbrev pub joined : List (List ℕ) → List ℕ
joined parts = flat_map (λ part. part) parts

-- the message that has come so far in these pieces
abbrev pub begun_in : Option Progress → List (List ℕ) → Option Begun
begun_in None parts = None
begun_in (Some p) parts =
    Some (record { from = p.from; to = p.to; size = p.size; bytes = joined parts })

-- the progress counts the bytes of the pieces, which are fewer than the message's; no pieces are
-- held outside a message
abbrev pub Counts : Option Progress → List (List ℕ) → Type 0
Counts None parts = parts ≡ []
Counts (Some p) parts = (p.came ≡ length (joined parts)) × (p.came < p.size)

-- a payload of this many bytes goes on with a message, is its last piece, or breaks it
abbrev pub judged_by : Progress → Bool → ℕ → Fate
judged_by p true count =
    if nat_lt (p.came + count) p.size then GoesOn (record p { came = p.came + count }) else Breaks
judged_by p false count = if p.came + count == p.size then Completes p else Breaks

-- what a joiner answers and holds, where this becomes of a message by a frame
abbrev pub IsFate : Fate → List (List ℕ) → Option Begun → Frame → Type 0
IsFate (GoesOn p) parts begun frame =
    let held : List (List ℕ) = parts ++ payload_of frame ∷ [] in
    (joiner_answer begun frame ≡ More) × (held_after begun frame ≡ begun_in (Some p) held)
    × Counts (Some p) held
IsFate (Completes p) parts begun frame =
    let body : List ℕ = joined (parts ++ payload_of frame ∷ []) in
    (joiner_answer begun frame ≡ Whole (record { from = p.from; to = p.to; body = body }))
    × (held_after begun frame ≡ None)
IsFate Breaks parts begun frame =
    (joiner_answer begun frame ≡ Broken) × (held_after begun frame ≡ None)
