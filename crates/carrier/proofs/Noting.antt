-- One more note of what became of a side.
use Rattle.std.proofs.Common.{◌≡◌, Some, List, [], ◌∷◌, ◌++◌, refl, ap, sym, subst, ◌∙◌}
use Rattle.linx_base.specs.declared.identity.Session.{Session}
use Rattle.linx_base.specs.declared.frame.Message.{Message}
use Rattle.ethcm_headers.specs.declared.packets.Packet.{Packet}
use Rattle.ethcm_end.specs.declared.answers.Input.{Input}
use Rattle.ethcm_end.specs.declared.answers.Input.TheVariants as inputs
use Rattle.ethcm_end.specs.declared.answers.Ticked.{Ticked}
use Rattle.ethcm_end.specs.declared.answers.Ticked.TheVariants as ticks
use Rattle.ethcm_end.specs.States.{EndState, Reaction, gives, peer_of}
use Rattle.ethcm_end.specs.Rules.{input_of, tick_of}
use Rattle.ethcm_end.specs.Sessions.{GoesBy, GoesUp}
use Rattle.ethcm_end.proofs.Rising.{sessions_rise}
use Rattle.carrier.specs.declared.handed.Handed.{Handed as AnyHanded}
use Rattle.carrier.specs.declared.note.Note.{Note}
use Rattle.carrier.specs.declared.note.Note.TheVariants.{Offered, Handed, Ended}
use Rattle.carrier.specs.Notes.{Sessions, half_of_sessions, half_with, no_sessions, noted}
use Rattle.carrier.specs.Notes.{noted_all}
use Rattle.carrier.specs.Events.{drained, handed_as, recorded, recorded_tick}
use Rattle.carrier.specs.Events.{with_handed, with_next, with_offered}

noted_more : (s : Sessions) (notes : List Note) (note : Note)
    → noted_all s (notes ++ note ∷ []) ≡ noted (noted_all s notes) note
unfolding noted_all
noted_more s [] note = refl
noted_more s (n ∷ notes) note = noted_more (noted s n) notes note

module _ (old new : EndState) (notes : List Note) where
  more : (note : Note) → half_with new (notes ++ note ∷ [])
      ≡ half_of_sessions new (noted (noted_all no_sessions notes) note)
  more note = ap (half_of_sessions new) (noted_more no_sessions notes note)

  -- a message was offered
  pub noted_offered : (m : Message)
      → half_with new (notes ++ Offered m ∷ []) ≡ with_offered (half_with old notes) new m
  noted_offered m = more (Offered m)

  -- a message was handed up
  pub noted_handed : (m : Message)
      → half_with new (notes ++ Handed m ∷ []) ≡ with_handed (half_with old notes) new m
  noted_handed m = more (Handed m)

  -- the session ended
  pub noted_ended : half_with new (notes ++ Ended old.talk.mine (peer_of old) ∷ [])
      ≡ with_next (half_with old notes) new
  noted_ended = more (Ended old.talk.mine (peer_of old))

-- ---- what the end answered, and the notes of it

-- the notes after the end in this session answered this to a packet
abbrev pub notes_of : EndState → List Note → Input → List Note
notes_of old notes inputs.Nothing = notes
notes_of old notes inputs.WentUp = notes
notes_of old notes inputs.WentDown = notes ++ Ended old.talk.mine (peer_of old) ∷ []
notes_of old notes (inputs.Got m) = notes ++ Handed m ∷ []

noted_input : (old new : EndState) (notes : List Note) (input : Input)
    → half_with new (notes_of old notes input) ≡ recorded (half_with old notes) new input
noted_input old new notes inputs.Nothing = refl
noted_input old new notes inputs.WentUp = refl
noted_input old new notes inputs.WentDown = noted_ended old new notes
noted_input old new notes (inputs.Got m) = noted_handed old new notes m

module _ (old mid new : EndState) (p : Packet) (input : Input)
    (reaction : gives mid input ≡ input_of old p) (sent : new ≡ drained mid) where
  -- the side is as it is to be
  pub received : (notes later : List Note) → later ≡ notes_of old notes input
      → half_with new later
      ≡ recorded (half_with old notes) (drained (input_of old p).state) (input_of old p).answer
  received notes later e =
      subst (λ (r : Reaction Input).
      half_with new later ≡ recorded (half_with old notes) (drained r.state) r.answer) reaction
      (rw (e, sent) (noted_input old (drained mid) notes input))

  -- and what is handed up
  pub told : (mine : Session) (handed : AnyHanded) → handed ≡ handed_as mine p.src input
      → handed ≡ handed_as mine p.src (input_of old p).answer
  told mine handed e =
      subst (λ (r : Reaction Input). handed ≡ handed_as mine p.src r.answer) reaction e

-- where a packet brings an end up, its sender is the peer
pub up_peer : (old mid new : EndState) (p : Packet) → gives mid inputs.WentUp ≡ input_of old p
    → new ≡ drained mid → peer_of new ≡ Some p.src
up_peer old mid new p reaction sent =
    let goes : GoesUp old mid p.src =
    subst (λ (r : Reaction Input). GoesBy old r.state p.src r.answer) (sym reaction)
    (sessions_rise.input_goes old p) in
    ap peer_of sent ∙ goes.peer

-- ---- what the end answered to a tick

abbrev pub notes_of_tick : EndState → List Note → Ticked → List Note
notes_of_tick old notes ticks.Stays = notes
notes_of_tick old notes ticks.WentDown = notes ++ Ended old.talk.mine (peer_of old) ∷ []

noted_tick : (old new : EndState) (notes : List Note) (ticked : Ticked)
    → half_with new (notes_of_tick old notes ticked)
    ≡ recorded_tick (half_with old notes) new ticked
noted_tick old new notes ticks.Stays = refl
noted_tick old new notes ticks.WentDown = noted_ended old new notes

module _ (old mid new : EndState) (ticked : Ticked)
    (reaction : gives mid ticked ≡ tick_of old) (sent : new ≡ drained mid) where
  pub beaten : (notes later : List Note) → later ≡ notes_of_tick old notes ticked
      → half_with new later
      ≡ recorded_tick (half_with old notes) (drained (tick_of old).state) (tick_of old).answer
  beaten notes later e =
      subst (λ (r : Reaction Ticked).
      half_with new later ≡ recorded_tick (half_with old notes) (drained r.state) r.answer) reaction
      (rw (e, sent) (noted_tick old (drained mid) notes ticked))
