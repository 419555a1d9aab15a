-- The functions of a link computed on worked rows.
use Rattle.std.proofs.Common.{◌≡◌, true, false, Some, [], ◌∷◌, refl}
use Rattle.linx_base.specs.Numbers.{first_session, session_of}
use Rattle.linx_base.specs.declared.identity.Side.TheVariants.{First, Second}
use Rattle.linx_base.specs.declared.frame.Message.{Message}
use Rattle.ethcm_window.specs.Sending.{numbered_from}
use Rattle.fragmenter.specs.Pieces.{cut, followers, framed, pieces_of}
use Rattle.ethcm_end.specs.States.{peer_of}
use Rattle.ethcm_end.specs.Rules.{data_in, input_of, offer_of, take_kept, tick_of}
use Rattle.carrier.specs.declared.handed.Handed.TheVariants.{Nothing, WentUp, WentDown, Got}
use Rattle.carrier.specs.Events.{LinkState, delivered, handed_by, is_quiet, new_link, offered_to}
use Rattle.carrier.specs.Events.{restarted_at, ticked_at}

-- both sides are up with each other
abbrev connected : LinkState
connected =
    delivered First 0 false (delivered Second 0 false (delivered First 0 false
    (ticked_at First (new_link 32 64))))

both_up : (peer_of connected.first.end ≡ Some (first_session 1))
    × (peer_of connected.second.end ≡ Some (first_session 1))
unfolding input_of tick_of
both_up = (refl, refl)

-- a message of five bytes comes, and its packet stays in flight
abbrev hello : Message
hello = record { from = 1; to = 1; body = 104 ∷ 101 ∷ 108 ∷ 108 ∷ 111 ∷ [] }

abbrev offered : LinkState
offered = offered_to First hello connected

abbrev kept : LinkState
kept = delivered First 0 true offered

message_comes : handed_by First 0 offered ≡ Got hello
unfolding input_of tick_of offer_of data_in take_kept pieces_of framed cut followers numbered_from
message_comes = refl

-- it comes again: it was taken, and both acknowledgements make the link quiet
abbrev acknowledged : LinkState
acknowledged = delivered Second 0 false (delivered Second 0 false (delivered First 0 false kept))

comes_again : (handed_by First 0 kept ≡ Nothing) × (is_quiet acknowledged ≡ true)
unfolding input_of tick_of offer_of data_in take_kept pieces_of framed cut followers numbered_from
comes_again = (refl, refl)

-- the second side boots again, and both sides connect again, the old packet still in flight
abbrev restarted : LinkState
restarted = delivered Second 0 false (ticked_at Second (restarted_at Second 2 kept))

goes_down : handed_by Second 0 restarted ≡ WentDown (first_session 1)
unfolding input_of tick_of offer_of data_in take_kept pieces_of framed cut followers numbered_from
goes_down = refl

abbrev asked : LinkState
asked = delivered First 1 false (ticked_at First (delivered Second 0 false restarted))

goes_up : handed_by Second 0 asked ≡ WentUp (session_of 1 2) (first_session 2)
unfolding input_of tick_of offer_of data_in take_kept pieces_of framed cut followers numbered_from
goes_up = refl

abbrev again : LinkState
again = delivered Second 0 false asked

-- the old packet means nothing then
abbrev reconnected : LinkState
reconnected = delivered First 1 false again

old_packet : (handed_by First 1 again ≡ WentUp (first_session 2) (session_of 1 2))
    × (handed_by First 0 reconnected ≡ Nothing)
unfolding input_of tick_of offer_of data_in take_kept pieces_of framed cut followers numbered_from
old_packet = (refl, refl)

-- the record of the second side: its message was handed up in the session that ended
record_kept : reconnected.second.past
    ≡ record {
      number = first_session 1;
      peer = Some (first_session 1);
      offered = [];
      handed = hello ∷ [];
    } ∷ []
unfolding input_of tick_of offer_of data_in take_kept pieces_of framed cut followers numbered_from
record_kept = refl
