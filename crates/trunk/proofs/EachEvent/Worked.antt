-- The functions of a trunk computed on worked rows.
use Rattle.std.proofs.Common.{◌≡◌, false, List, ℕ, [], ◌∷◌, refl}
use Rattle.linx_base.specs.Numbers.{first_session, inc_of}
use Rattle.linx_base.specs.declared.identity.Side.TheVariants.{First, Second}
use Rattle.linx_base.specs.SigNotes.{SigNote}
use Rattle.link_addresses.specs.Meanings.{address_of, lowest_free, with_lowest}
use Rattle.rlnh_messages.specs.Messages.{spelling_of}
use Rattle.rlnh_messages.specs.declared.rlnh.Rlnh.TheVariants as rlnh
use Rattle.fragmenter.specs.Pieces.{cut, followers, framed, pieces_of}
use Rattle.ethcm_window.specs.Sending.{numbered_from}
use Rattle.ethcm_end.specs.Rules.{data_in, input_of, offer_of, take_kept, tick_of}
use Rattle.carrier.specs.Events.{handed_by}
use Rattle.carrier.specs.declared.handed.Handed.TheVariants as links
use Rattle.trunk_record.specs.Sayings.{arrived, asked, asked_for, freed, met, published}
use Rattle.trunk_record.specs.Sayings.{unpublished}
use Rattle.rlnh_end.specs.declared.heard.Heard.TheVariants.{Control, Garbage, Signal}
use Rattle.rlnh_end.specs.States.{no_tables}
use Rattle.rlnh_end.specs.Words.{announce, hello, message_of, question}
use Rattle.rlnh_end.specs.Hearing.{hears}
use Rattle.trunk.specs.Events.{TrunkState, asked_at, closed_at, delivered, kept_of, new_trunk}
use Rattle.trunk.specs.Events.{published_at, restarted_at, sent_at, tables_of, ticked_at, told_by}
use Rattle.trunk.specs.declared.up.TrunkUp.TheVariants.{Nothing, WentUp, Arrived, Met, Gone, Asked}

-- the first side asks for a connection, and each side goes up with the other's first session
abbrev asking : TrunkState
asking = ticked_at First (new_trunk 32 64)

abbrev answering : TrunkState
answering = delivered First 0 false Garbage asking

abbrev confirming : TrunkState
confirming = delivered Second 0 false Garbage answering

abbrev connected : TrunkState
connected = delivered First 0 false Garbage confirming

both_up : (told_by First 0 Garbage asking ≡ Nothing)
    × (told_by Second 0 Garbage answering ≡ WentUp (first_session 1) (first_session 1))
    × (told_by First 0 Garbage confirming ≡ WentUp (first_session 1) (first_session 1))
unfolding input_of tick_of offer_of data_in take_kept pieces_of framed cut followers numbered_from
    spelling_of
both_up = (refl, refl, refl)

-- the first side asks for a name: INIT comes, and then the question
abbrev name : List ℕ
name = 98 ∷ []

abbrev questioned : TrunkState
questioned = asked_at First name connected

abbrev greeted : TrunkState
greeted = delivered First 0 false (Control rlnh.Init) questioned

abbrev noted : TrunkState
noted = delivered First 0 false (Control (rlnh.QueryName name)) greeted

asked_by_name : (told_by First 0 (Control rlnh.Init) questioned ≡ Nothing)
    × (told_by First 0 (Control (rlnh.QueryName name)) greeted ≡ Asked name)
    × (kept_of First noted).now.said ≡ asked name ∷ []
unfolding input_of tick_of offer_of data_in take_kept pieces_of framed cut followers numbered_from
    spelling_of hears
asked_by_name = (refl, refl, refl)

-- the second side publishes an endpoint of that name: INIT, its reply and the acknowledgements come
-- before it, and then it is met
abbrev opened : TrunkState
opened = published_at Second (inc_of 2 1) name noted

abbrev replied : TrunkState
replied =
    delivered Second 0 false Garbage (delivered Second 0 false (Control rlnh.InitReply)
    (delivered Second 0 false Garbage (delivered Second 0 false (Control rlnh.Init) opened)))

abbrev publishing : TrunkState
publishing =
    delivered Second 0 false (Control (rlnh.Publish 1 (inc_of 2 1) name)) replied

is_met : (told_by Second 0 (Control (rlnh.Publish 1 (inc_of 2 1) name)) replied
    ≡ Met (inc_of 2 1) name)
    × ((kept_of First publishing).now.given ≡ met (inc_of 2 1) name ∷ [])
    × ((kept_of Second publishing).now.said ≡ published (inc_of 2 1) name ∷ [])
    × ((kept_of Second publishing).now.given ≡ asked_for name ∷ [])
unfolding input_of tick_of offer_of data_in take_kept pieces_of framed cut followers numbered_from
    spelling_of hears address_of lowest_free with_lowest
is_met = (refl, refl, refl, refl)

-- what came is the message of the reading that stands beside it
read_so : (handed_by First 0 questioned.link ≡ links.Got (message_of hello))
    × (handed_by First 0 greeted.link ≡ links.Got (message_of (question name)))
    × (handed_by Second 0 opened.link ≡ links.Got (message_of hello))
    × (handed_by Second 0 replied.link
    ≡ links.Got (message_of (announce 1 (inc_of 2 1) name)))
unfolding input_of tick_of offer_of data_in take_kept pieces_of framed cut followers numbered_from
    spelling_of hears address_of lowest_free with_lowest
read_so = (refl, refl, refl, refl)

-- the first side sends from an endpoint that it publishes thereby; acknowledgements and the reply
-- to INIT come before
abbrev note : SigNote
note = record { number = 7; bytes = [] }

abbrev sending : TrunkState
sending = sent_at First (inc_of 1 1) (97 ∷ []) (inc_of 2 1) note publishing

abbrev introduced : TrunkState
introduced =
    delivered First 0 false Garbage (delivered First 0 false Garbage
    (delivered First 0 false (Control rlnh.InitReply) (delivered First 0 false Garbage sending)))

abbrev meeting : TrunkState
meeting =
    delivered First 0 false (Control (rlnh.Publish 1 (inc_of 1 1) (97 ∷ []))) introduced

abbrev arriving : TrunkState
arriving = delivered First 0 false (Signal 1 1 note) meeting

signal_arrives : (told_by First 0 (Control (rlnh.Publish 1 (inc_of 1 1) (97 ∷ []))) introduced
    ≡ Met (inc_of 1 1) (97 ∷ []))
    × (told_by First 0 (Signal 1 1 note) meeting ≡ Arrived (inc_of 1 1) (inc_of 2 1) note)
    × ((kept_of Second arriving).now.given
    ≡ arrived (inc_of 1 1) (inc_of 2 1) note ∷ met (inc_of 1 1) (97 ∷ []) ∷ asked_for name ∷ [])
unfolding input_of tick_of offer_of data_in take_kept pieces_of framed cut followers numbered_from
    spelling_of hears address_of lowest_free with_lowest
signal_arrives = (refl, refl, refl)

-- another signal is under way while the receiver closes: it is freed, and then the sender hears
-- of the close
abbrev late : TrunkState
late =
    delivered First 0 false (Signal 1 1 note)
    (closed_at Second (inc_of 2 1)
    (sent_at First (inc_of 1 1) (97 ∷ []) (inc_of 2 1) note arriving))

abbrev acknowledged : TrunkState
acknowledged =
    delivered Second 0 false Garbage (delivered Second 0 false Garbage
    (delivered Second 0 false Garbage late))

receiver_closes : ((kept_of Second late).now.given
    ≡ freed (inc_of 1 1) (inc_of 2 1) note ∷ arrived (inc_of 1 1) (inc_of 2 1) note
    ∷ met (inc_of 1 1) (97 ∷ []) ∷ asked_for name ∷ [])
    × ((kept_of Second late).now.said
    ≡ unpublished (inc_of 2 1) ∷ published (inc_of 2 1) name ∷ [])
    × (told_by Second 0 (Control (rlnh.Unpublish 1)) acknowledged ≡ Gone (inc_of 2 1))
unfolding input_of tick_of offer_of data_in take_kept pieces_of framed cut followers numbered_from
    spelling_of hears address_of lowest_free with_lowest
receiver_closes = (refl, refl, refl)

-- the second side boots again: its session is recorded, and the next one has said nothing
abbrev booted : TrunkState
booted = restarted_at Second 2 late

session_is_recorded : ((kept_of Second booted).earlier ≡ (kept_of Second late).now ∷ [])
    × ((kept_of Second booted).now.said ≡ [])
    × (tables_of Second booted ≡ no_tables)
unfolding input_of tick_of offer_of data_in take_kept pieces_of framed cut followers numbered_from
    spelling_of hears address_of lowest_free with_lowest
session_is_recorded = (refl, refl, refl)
