-- A worked run with trunks, step by step: two endpoints open, a name is hunted over the link, the
-- link goes up, the name is asked for, published, and met.
use Rattle.std.proofs.Common.{◌≡◌, ◌<◌, ℕ, zero, suc, true, false, List, [], ◌∷◌, length, refl, sym}
use Rattle.std.proofs.Common.{◌∙◌, arith, subst, ◌==◌, codes, nat_lt, ltb-true, true≢false}
use Rattle.linx_base.specs.Sides.{other_of}
use Rattle.linx_base.specs.declared.frame.Verdict.TheVariants.{Deliver}
use Rattle.linx_base.specs.declared.identity.LinkNo.{LinkNo}
use Rattle.linx_base.specs.declared.identity.Peer.TheVariants.{There}
use Rattle.linx_base.specs.declared.identity.Side.{Side}
use Rattle.linx_base.specs.declared.identity.Side.TheVariants.{First, Second}
use Rattle.linx_base.specs.declared.name.Path.TheVariants.{Over}
use Rattle.link_addresses.specs.Meanings.{address_of, lowest_free, with_lowest}
use Rattle.rlnh_messages.specs.Messages.{spelling_of}
use Rattle.rlnh_messages.specs.declared.rlnh.Rlnh.TheVariants as rlnh
use Rattle.rlnh_end.specs.Hearing.{hears}
use Rattle.rlnh_end.specs.declared.heard.Heard.{Heard}
use Rattle.rlnh_end.specs.declared.heard.Heard.TheVariants.{Control, Garbage}
use Rattle.fragmenter.specs.Pieces.{cut, followers, framed, pieces_of}
use Rattle.ethcm_window.specs.Sending.{numbered_from}
use Rattle.ethcm_end.specs.Rules.{data_in, input_of, offer_of, take_kept, tick_of}
use Rattle.carrier.specs.Events.{flight_from, handed_by}
use Rattle.journal.specs.declared.effect.Effect.{Effect}
use Rattle.journal.specs.declared.effect.Effect.TheVariants.{Found}
use Rattle.journal.specs.declared.effect.Step.{Step}
use Rattle.journal.specs.declared.head.Head.TheVariants.{Hunt, Tick, Wire}
use Rattle.journal.proofs.Playing.{made, note, opens}
use Rattle.link_laws.specs.Ends.{HasTwoEnds, node_at}
use Rattle.link_laws.specs.Sessions.{is_cut}
use Rattle.link_laws.proofs.Worked.Playing.{a, b, back, each, keeps_laws, l, met_at, one_of}
use Rattle.link_laws.proofs.Worked.Playing.{only_link}
use Rattle.link_laws.proofs.Worked.Playing.{pump, there, tick_laws, two_ends, up, wire_laws, x11}
use Rattle.trunk.specs.Events.{IsReading, TrunkState, delivered, new_trunk, ticked_at, told_by}
use Rattle.trunk_moves.specs.Laws.{KeepsAll}
use Rattle.trunk_moves.specs.Packets.{answered, told_at}
use Rattle.trunk_moves.specs.Steps.{IsTrunkRun, IsTrunkStep}
use Rattle.trunk_moves.specs.Trunks.{Become, NodesFit, RunTrunks}
use Rattle.trunk_moves.proofs.Runs.{trunk_runs_keep_all}

-- a run goes on with a step
infixl 1 ◌▹◌
◌▹◌ : {P : List Step} {s : Step} {before after : RunTrunks} → IsTrunkRun two_ends P before
    → IsTrunkStep two_ends P before s after → IsTrunkRun two_ends (s ∷ P) after
◌▹◌ {P} {s} {before} {after} run step = (before, (run, step))

-- what the trunk of the one link becomes, all become
all_of : (after made_so : RunTrunks) → after 1 ≡ made_so 1 → Become two_ends after made_so
all_of after made_so same k of_shape =
    subst (λ (h : LinkNo). after h.0 ≡ made_so h.0) (only_link k of_shape) same

-- both endpoints open, and a name is hunted while the link is down
abbrev opened_a : List Step
opened_a = opens 1 (codes "a") a ∷ []

abbrev both_open : List Step
both_open = opens 2 (codes "b") b ∷ opened_a

abbrev hunted : List Step
hunted = made 1 (Hunt (Over l (codes "b")) (note 251 [])) [] ∷ both_open

abbrev fresh : TrunkState
fresh = new_trunk 32 64

begins : IsTrunkRun two_ends [] (λ k. fresh)
begins k of_shape = record {
  window = 32;
  piece = 64;
  has_window = omega arith;
  has_piece = omega arith;
  made = refl;
}

opens_a : IsTrunkStep two_ends [] (λ k. fresh) (opens 1 (codes "a") a) (λ k. fresh)
opens_a = record {
  laws = keeps_laws refl refl refl tt tt;
  makes = all_of _ _ refl;
}

opens_b : IsTrunkStep two_ends opened_a (λ k. fresh) (opens 2 (codes "b") b) (λ k. fresh)
opens_b = record {
  laws = keeps_laws refl refl refl tt tt;
  makes = all_of _ _ refl;
}

hunts_b : IsTrunkStep two_ends both_open (λ k. fresh)
    (made 1 (Hunt (Over l (codes "b")) (note 251 [])) []) (λ k. fresh)
hunts_b = record {
  laws = keeps_laws refl (refl, omega arith) refl tt tt;
  makes = record { at = First; of_shape = one_of; node = refl; makes = all_of _ _ refl };
}

hunted_run : IsTrunkRun two_ends hunted (λ k. fresh)
hunted_run = begins ▹ opens_a ▹ opens_b ▹ hunts_b

-- ---- the pump

-- the trunk after a packet of this reading from a side, and what is told of it then
abbrev comes : List Step → Side → Heard → TrunkState → TrunkState
comes P from heard t =
    answered P (node_at two_ends l (other_of from)) l (other_of from) (told_by from 0 heard t)
    (delivered from 0 false heard t)

abbrev brings : List Step → Side → Heard → TrunkState → List Effect
brings P from heard t =
    told_at P (node_at two_ends l (other_of from)) l (other_of from) t (told_by from 0 heard t)

-- a packet that is in flight comes while the link is whole
came : {P : List Step} {from : Side} {es : List Effect} {t : TrunkState} → is_cut P 1 ≡ false
    → nat_lt 0 (length (flight_from from t.link)) ≡ true
    → (heard : Heard) → IsReading (handed_by from 0 t.link) heard → es ≡ brings P from heard t
    → IsTrunkStep two_ends P (λ k. t) (pump (Wire l from Deliver) es) (λ k. comes P from heard t)
came {P} {from} {es} {t} whole flies heard read effects = record {
  laws = wire_laws;
  makes = record {
    of_shape = one_of;
    flies = ltb-true 0 (length (flight_from from t.link)) flies;
    cuts = λ cut. absurd (true≢false (sym cut ∙ whole));
    trunk = comes P from heard t;
    meets = record { heard = heard; reading = read; effects = effects; makes = refl };
    makes = all_of _ _ refl;
  };
}

-- the first side asks for a connection, and the second one answers
abbrev ticked : List Step
ticked = pump (Tick l First) [] ∷ hunted

abbrev asking : TrunkState
asking = ticked_at First fresh

ticks_first : IsTrunkStep two_ends hunted (λ k. fresh) (pump (Tick l First) []) (λ k. asking)
unfolding tick_of
ticks_first = record {
  laws = tick_laws;
  makes = record {
    of_shape = one_of;
    trunk = asking;
    beat = record { effects = refl; makes = refl };
    makes = all_of _ _ refl;
  };
}

abbrev answered_then : List Step
answered_then = there [] ∷ ticked

abbrev answering : TrunkState
answering = comes ticked First Garbage asking

answers : IsTrunkStep two_ends ticked (λ k. asking) (there []) (λ k. answering)
unfolding input_of tick_of
answers = came refl refl Garbage tt refl

-- each side goes up, and the first one asks for the hunted name
abbrev first_up : List Step
first_up = back (up 1 x11 x11 ∷ []) ∷ answered_then

abbrev confirming : TrunkState
confirming = comes answered_then Second Garbage answering

goes_up : IsTrunkStep two_ends answered_then (λ k. answering) (back (up 1 x11 x11 ∷ []))
    (λ k. confirming)
unfolding input_of tick_of offer_of data_in take_kept pieces_of framed cut followers numbered_from
    spelling_of
goes_up = came refl refl Garbage tt refl

abbrev both_up : List Step
both_up = there (up 2 x11 x11 ∷ []) ∷ first_up

abbrev connected : TrunkState
connected = comes first_up First Garbage confirming

goes_up_too : IsTrunkStep two_ends first_up (λ k. confirming) (there (up 2 x11 x11 ∷ []))
    (λ k. connected)
unfolding input_of tick_of offer_of data_in take_kept pieces_of framed cut followers numbered_from
    spelling_of
goes_up_too = came refl refl Garbage tt refl

-- what connects them is a run
pub connected_run : IsTrunkRun two_ends both_up (λ k. connected)
connected_run = hunted_run ▹ ticks_first ▹ answers ▹ goes_up ▹ goes_up_too

-- the second side hears of the name, and publishes its endpoint
abbrev greeted_then : List Step
greeted_then = there [] ∷ both_up

abbrev greeted : TrunkState
greeted = comes both_up First (Control rlnh.Init) connected

greets : IsTrunkStep two_ends both_up (λ k. connected) (there []) (λ k. greeted)
unfolding input_of tick_of offer_of data_in take_kept pieces_of framed cut followers numbered_from
    spelling_of hears
greets =
    came refl refl (Control rlnh.Init)
    (record {
      from = refl;
      to = refl;
      spelled = record {
        is_message = record { has_address = tt; fits_fields = tt };
        spelled = refl;
      };
    }) refl

abbrev questioned : List Step
questioned = there [] ∷ greeted_then

abbrev published : TrunkState
published = comes greeted_then First (Control (rlnh.QueryName (codes "b"))) greeted

publishes : IsTrunkStep two_ends greeted_then (λ k. greeted) (there []) (λ k. published)
unfolding input_of tick_of offer_of data_in take_kept pieces_of framed cut followers numbered_from
    spelling_of hears address_of lowest_free with_lowest
publishes =
    came refl refl (Control (rlnh.QueryName (codes "b")))
    (record {
      from = refl;
      to = refl;
      spelled = record {
        is_message = record { has_address = tt; fits_fields = refl };
        spelled = refl;
      };
    }) refl

-- the replies come, and the answer to the question: the hunted name is met, and found
abbrev replied : ℕ → List Step
replied zero = questioned
replied (suc k) = back [] ∷ replied k

abbrev greeted_back : TrunkState
greeted_back = comes (replied 0) Second (Control rlnh.Init) published

greets_back : IsTrunkStep two_ends (replied 0) (λ k. published) (back []) (λ k. greeted_back)
unfolding input_of tick_of offer_of data_in take_kept pieces_of framed cut followers numbered_from
    spelling_of hears address_of lowest_free with_lowest
greets_back =
    came refl refl (Control rlnh.Init)
    (record {
      from = refl;
      to = refl;
      spelled = record {
        is_message = record { has_address = tt; fits_fields = tt };
        spelled = refl;
      };
    }) refl

abbrev acknowledged : TrunkState
acknowledged = comes (replied 1) Second Garbage greeted_back

acknowledges : IsTrunkStep two_ends (replied 1) (λ k. greeted_back) (back []) (λ k. acknowledged)
unfolding input_of tick_of offer_of data_in take_kept pieces_of framed cut followers numbered_from
    spelling_of hears address_of lowest_free with_lowest
acknowledges = came refl refl Garbage tt refl

abbrev introduced : TrunkState
introduced = comes (replied 2) Second (Control rlnh.InitReply) acknowledged

introduces : IsTrunkStep two_ends (replied 2) (λ k. acknowledged) (back []) (λ k. introduced)
unfolding input_of tick_of offer_of data_in take_kept pieces_of framed cut followers numbered_from
    spelling_of hears address_of lowest_free with_lowest
introduces =
    came refl refl (Control rlnh.InitReply)
    (record {
      from = refl;
      to = refl;
      spelled = record {
        is_message = record { has_address = tt; fits_fields = tt };
        spelled = refl;
      };
    }) refl

abbrev acknowledged_too : TrunkState
acknowledged_too = comes (replied 3) Second Garbage introduced

acknowledges_too : IsTrunkStep two_ends (replied 3) (λ k. introduced) (back [])
    (λ k. acknowledged_too)
unfolding input_of tick_of offer_of data_in take_kept pieces_of framed cut followers numbered_from
    spelling_of hears address_of lowest_free with_lowest
acknowledges_too = came refl refl Garbage tt refl

abbrev answer : Heard
answer = Control (rlnh.Publish 1 b (codes "b"))

abbrev found_then : List Step
found_then =
    back (met_at 1 x11 b (codes "b") ∷ Found a (There l x11 b) (note 251 []) 3 ∷ []) ∷ replied 4

abbrev found : TrunkState
found = comes (replied 4) Second answer acknowledged_too

finds : IsTrunkStep two_ends (replied 4) (λ k. acknowledged_too)
    (back (met_at 1 x11 b (codes "b") ∷ Found a (There l x11 b) (note 251 []) 3 ∷ []))
    (λ k. found)
unfolding input_of tick_of offer_of data_in take_kept pieces_of framed cut followers numbered_from
    spelling_of hears address_of lowest_free with_lowest
finds =
    came refl refl answer
    (record {
      from = refl;
      to = refl;
      spelled = record {
        is_message = record {
          has_address = omega arith;
          fits_fields = (omega arith, omega arith, refl);
        };
        spelled = refl;
      };
    }) refl

-- what finds the name is a run
pub found_run : IsTrunkRun two_ends found_then (λ k. found)
found_run =
    connected_run ▹ greets ▹ publishes ▹ greets_back ▹ acknowledges ▹ introduces
    ▹ acknowledges_too ▹ finds

-- ---- the whole run

two : HasTwoEnds two_ends
two = each (λ h at. (node_at two_ends h at == node_at two_ends h (other_of at)) ≡ false) refl refl

fit : NodesFit two_ends
fit = each (λ h at. node_at two_ends h at < 4294967296) (omega arith) (omega arith)

-- so it is a run of moves, is legal, and keeps what is promised
pub found_keeps_all : KeepsAll two_ends found_then (λ k. found)
found_keeps_all =
    trunk_runs_keep_all two_ends found_then (λ k. found)
    (record { two_ends = two; nodes = fit; fits = omega arith; run = found_run })
