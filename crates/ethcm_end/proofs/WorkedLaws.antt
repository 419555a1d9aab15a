-- The words of the laws of an end computed on worked rows.
use Rattle.std.proofs.Common.{◌≡◌, true, false, Some, None, [], ◌∷◌, refl, arith}
use Rattle.linx_base.specs.Numbers.{first_session}
use Rattle.linx_base.specs.declared.frame.Frame.{Frame}
use Rattle.linx_base.specs.declared.frame.Frame.TheVariants.{First, Next}
use Rattle.ethcm_headers.specs.declared.packets.Part.TheVariants.{Nack}
use Rattle.ethcm_window.specs.Sending.{Sender}
use Rattle.fragmenter.specs.declared.joiner.Joined.TheVariants.{More, Broken}
use Rattle.ethcm_end.specs.Windows.{HasFrame, acknowledged_in, peer_or_unknown}
use Rattle.ethcm_end.specs.Taking.{made_at_the_last}

-- three frames, the first of which is number 5
abbrev first : Frame
first = First true 7 9 3 (10 ∷ [])

abbrev middle : Frame
middle = Next true (11 ∷ [])

abbrev last : Frame
last = Next false (12 ∷ [])

abbrev sender : Sender
sender = record { window = 2; base = 5; frames = first ∷ middle ∷ last ∷ [] }

has_middle : HasFrame sender 6 middle
has_middle = (omega arith, refl)

made : made_at_the_last Broken (first ∷ middle ∷ last ∷ []) ≡ More ∷ More ∷ Broken ∷ []
unfolding made_at_the_last
made = refl

nack_acknowledges : acknowledged_in (Nack 4 2) ≡ Some 4
nack_acknowledges = refl

to_unknown : (peer_or_unknown None).0 ≡ 0
to_unknown = refl

to_peer : peer_or_unknown (Some (first_session 3)) ≡ first_session 3
to_peer = refl
