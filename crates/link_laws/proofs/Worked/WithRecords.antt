-- A worked run, move by move, with the records of both sides of its link: a name is hunted over the
-- link, asked for, published and met; a signal is sent and arrives; its sender closes and goes.
use Rattle.std.proofs.Common.{◌≡◌, ℕ, suc, true, false, ◌&&◌, List, [], ◌∷◌, Some, refl, sym, ◌∙◌}
use Rattle.std.proofs.Common.{arith, subst, codes, ◌==◌, bytes_eq, true≢false}
use Rattle.std.specs.List.{list_any}
use Rattle.linx_base.specs.Sides.{other_of}
use Rattle.linx_base.specs.declared.identity.LinkNo.{LinkNo}
use Rattle.linx_base.specs.declared.identity.Peer.TheVariants.{There}
use Rattle.linx_base.specs.declared.identity.Session.{Session}
use Rattle.linx_base.specs.declared.identity.Side.{Side}
use Rattle.linx_base.specs.declared.identity.Side.TheVariants.{First, Second}
use Rattle.linx_base.specs.declared.name.Path.TheVariants.{Over}
use Rattle.sigsel.specs.declared.sigsel.Sigsel.TheVariants.{Only}
use Rattle.trunk_record.specs.Changes.{beginning, going_up}
use Rattle.trunk_record.specs.Sayings.{Given, Said, arrived, asked, asked_for, gone, met, published}
use Rattle.trunk_record.specs.Sayings.{signaled, unpublished}
use Rattle.journal.specs.Traffic.{arrived_from, sent_to}
use Rattle.journal.specs.declared.effect.Effect.{Effect}
use Rattle.journal.specs.declared.effect.Effect.TheVariants.{Arrived, Closed, Found}
use Rattle.journal.specs.declared.effect.Step.{Step}
use Rattle.journal.specs.declared.head.Head.TheVariants.{Cut, Hunt, Restart, TakeNone, Tick}
use Rattle.journal.proofs.Playing.{at_rest, closes, ends, made, note, opens}
use Rattle.link_laws.specs.Ends.{IsLinkOf, node_at}
use Rattle.link_laws.specs.Sides.{Links, SideState}
use Rattle.link_laws.specs.Laws.{IsLegal}
use Rattle.link_laws.specs.Linked.{is_hunted}
use Rattle.link_laws.specs.Moves.{IsResting, quiet, ClosesAt, Delivers, IsLeft, IsMove, OpensAt}
use Rattle.link_laws.specs.Moves.{OthersLeft, RestartsAt, brings_down, brings_up, gives, loses_it}
use Rattle.link_laws.specs.Moves.{publishes, ticks_on}
use Rattle.link_laws.specs.Runs.{IsRun, IsBoundedRun, first_state}
use Rattle.link_laws.specs.Sessions.{is_cut}
use Rattle.link_laws.specs.Still.{IsStill, whole}
use Rattle.link_laws.proofs.Worked.Playing.{a, b, back, down, each, gone_at, keeps_laws, l, met_at}
use Rattle.link_laws.proofs.Worked.Playing.{one_of, only_link, posts, pump, there, tick_laws}
use Rattle.link_laws.proofs.Worked.Playing.{two_ends, up, wire_laws, x11, x12, x21}
use Rattle.link_laws.proofs.Runs.{runs_are_legal}

-- THE STATES of the two sides of the one link
abbrev pair : SideState → SideState → Links
pair first second k First = first
pair first second k Second = second

-- a side in its first session, up with that of the other side, heard of late and with no name noted
abbrev up_with : List Said → List Given → SideState
up_with said given = record {
  side = record {
    now = record { session = x11; peer = Some x11; said = said; given = given };
    earlier = [];
  };
  noted = [];
  silent = 0;
}

itself : (C : SideState) → IsLeft C C
itself C = record { side = refl; noted = refl; silent = omega arith }

-- one side changes, and the other is left
is_one : (k : LinkNo) → IsLinkOf two_ends k → ((k.0 == 1) && true) ≡ true
is_one k of_shape =
    subst (λ (h : LinkNo). ((h.0 == 1) && true) ≡ true) (only_link k of_shape) refl

first_only : (C D E : SideState) → OthersLeft two_ends (pair C E) (pair D E) l First
first_only C D E h of_h First apart = absurd (true≢false (sym (is_one h of_h) ∙ apart))
first_only C D E h of_h Second apart = itself E

second_only : (C D E : SideState) → OthersLeft two_ends (pair E C) (pair E D) l Second
second_only C D E h of_h First apart = itself E
second_only C D E h of_h Second apart = absurd (true≢false (sym (is_one h of_h) ∙ apart))

-- a run goes on with a move
infixl 1 ◌▹◌
◌▹◌ : {P : List Step} {s : Step} {before after : Links} → IsRun two_ends P before
    → IsMove two_ends P before s after → IsRun two_ends (s ∷ P) after
◌▹◌ {P} {s} {before} {after} run move = (before, (run, move))

-- a packet is handed over while the link is whole: to the second side, and to the first
second_hears : {P : List Step} {es : List Effect} (C D E : SideState) → is_cut P 1 ≡ false
    → Delivers P 2 l C D E es → IsMove two_ends P (pair E C) (there es) (pair E D)
second_hears {P} {es} C D E uncut delivered = record {
  laws = wire_laws;
  moves = record {
    of_shape = one_of;
    cuts = λ cut. absurd (true≢false (sym cut ∙ uncut));
    handed = (delivered, second_only C D E);
  };
}

first_hears : {P : List Step} {es : List Effect} (C D E : SideState) → is_cut P 1 ≡ false
    → Delivers P 1 l C D E es → IsMove two_ends P (pair C E) (back es) (pair D E)
first_hears {P} {es} C D E uncut delivered = record {
  laws = wire_laws;
  moves = record {
    of_shape = one_of;
    cuts = λ cut. absurd (true≢false (sym cut ∙ uncut));
    handed = (delivered, first_only C D E);
  };
}

-- THE RUN. Both endpoints open, and a name is hunted while the link is down
abbrev both_open : List Step
both_open = opens 2 (codes "b") b ∷ opens 1 (codes "a") a ∷ []

abbrev hunted_first : List Step
hunted_first = made 1 (Hunt (Over l (codes "b")) (note 251 [])) [] ∷ both_open

abbrev both_down : Links
both_down = pair first_state first_state

begins : IsRun two_ends [] both_down
begins = each (λ k side. IsLeft first_state (both_down k.0 side)) (itself first_state)
    (itself first_state)

opens_a : IsMove two_ends [] both_down (opens 1 (codes "a") a) both_down
opens_a = record {
  laws = keeps_laws refl refl refl tt tt;
  moves = each (λ k side. OpensAt (node_at two_ends k side == 1) a (codes "a") (both_down k.0 side)
      (both_down k.0 side))
      (record { side = refl; noted = λ w apart is. is; silent = omega arith })
      (itself first_state);
}

opens_b : IsMove two_ends (opens 1 (codes "a") a ∷ []) both_down (opens 2 (codes "b") b) both_down
opens_b = record {
  laws = keeps_laws refl refl refl tt tt;
  moves = each (λ k side. OpensAt (node_at two_ends k side == 2) b (codes "b") (both_down k.0 side)
      (both_down k.0 side)) (itself first_state)
      (record { side = refl; noted = λ w apart is. is; silent = omega arith });
}

hunts_b : IsMove two_ends both_open both_down
    (made 1 (Hunt (Over l (codes "b")) (note 251 [])) []) both_down
hunts_b = record {
  laws = keeps_laws refl (refl, omega arith) refl tt tt;
  moves = record {
    at = First;
    of_shape = one_of;
    node = refl;
    side = refl;
    noted = refl;
    silent = omega arith;
    others = first_only first_state first_state first_state;
  };
}

hunted_run : IsRun two_ends hunted_first both_down
hunted_run = begins ▹ opens_a ▹ opens_b ▹ hunts_b

-- the link goes up, the name is asked for, published, and met
abbrev second_up : List Step
second_up = there (up 2 x11 x11 ∷ []) ∷ hunted_first

abbrev both_up : List Step
both_up = back (up 1 x11 x11 ∷ []) ∷ second_up

abbrev question_heard : List Step
question_heard = there [] ∷ both_up

abbrev found_then : List Step
found_then =
    back (met_at 1 x11 b (codes "b") ∷ Found a (There l x11 b) (note 251 []) 3 ∷ [])
    ∷ question_heard

abbrev asking : SideState
asking = up_with (asked (codes "b") ∷ []) []

abbrev answering : SideState
answering = up_with (published b (codes "b") ∷ []) (asked_for (codes "b") ∷ [])

abbrev answered : SideState
answered = up_with (asked (codes "b") ∷ []) (met b (codes "b") ∷ [])

second_goes_up : IsMove two_ends hunted_first both_down (there (up 2 x11 x11 ∷ []))
    (pair first_state (up_with [] []))
second_goes_up =
    second_hears first_state (up_with [] []) first_state refl
    (brings_up (record {
      y = x11;
      down = refl;
      other_has = refl;
      forward = (tt, tt);
      effects = refl;
      names = [];
      asks_all = λ v is. absurd (true≢false (sym is));
      side = refl;
      noted = refl;
      silent = refl;
    }))

asks_b : (v : List ℕ) → is_hunted second_up 1 l v ≡ true
    → list_any (bytes_eq v) (codes "b" ∷ []) ≡ true
asks_b v is = is

first_goes_up : IsMove two_ends second_up (pair first_state (up_with [] []))
    (back (up 1 x11 x11 ∷ [])) (pair asking (up_with [] []))
first_goes_up =
    first_hears first_state asking (up_with [] []) refl
    (brings_up (record {
      y = x11;
      down = refl;
      other_has = refl;
      forward = (tt, tt);
      effects = refl;
      names = codes "b" ∷ [];
      asks_all = asks_b;
      side = refl;
      noted = refl;
      silent = refl;
    }))

question_comes : IsMove two_ends both_up (pair asking (up_with [] [])) (there [])
    (pair asking answering)
question_comes =
    second_hears (up_with [] []) answering asking refl
    (gives (record {
      g = asked_for (codes "b");
      told = record { y = x11; pair = refl; back = refl; later = []; said = refl };
      fits = tt;
      effects = refl;
      receives = publishes b refl refl refl (λ w apart is. is);
      silent = refl;
    }))

answer_comes : IsMove two_ends question_heard (pair asking answering)
    (back (met_at 1 x11 b (codes "b") ∷ Found a (There l x11 b) (note 251 []) 3 ∷ []))
    (pair answered answering)
answer_comes =
    first_hears asking answered answering refl
    (gives (record {
      g = met b (codes "b");
      told = record { y = x11; pair = refl; back = refl; later = []; said = refl };
      fits = tt;
      effects = refl;
      receives = record { side = refl; noted = refl };
      silent = refl;
    }))

found_run : IsRun two_ends found_then (pair answered answering)
found_run = hunted_run ▹ second_goes_up ▹ first_goes_up ▹ question_comes ▹ answer_comes

-- a signal is sent, its sender is met, and it arrives
abbrev one_sent : List Step
one_sent = posts x11 b (note 1 []) ∷ found_then

abbrev sender_met : List Step
sender_met = there (met_at 2 x11 a (codes "a") ∷ []) ∷ one_sent

abbrev one_arrived : List Step
one_arrived = there (Arrived b (There l x11 a) (note 1 []) ∷ []) ∷ sender_met

abbrev sent_words : List Said
sent_words = signaled a b (note 1 []) ∷ published a (codes "a") ∷ asked (codes "b") ∷ []

abbrev having_sent : SideState
having_sent = up_with sent_words (met b (codes "b") ∷ [])

abbrev having_met : SideState
having_met = up_with (published b (codes "b") ∷ [])
    (met a (codes "a") ∷ asked_for (codes "b") ∷ [])

abbrev having_got : SideState
having_got = up_with (published b (codes "b") ∷ [])
    (arrived a b (note 1 []) ∷ met a (codes "a") ∷ asked_for (codes "b") ∷ [])

sends_one : IsMove two_ends found_then (pair answered answering) (posts x11 b (note 1 []))
    (pair having_sent answering)
sends_one = record {
  laws = keeps_laws refl (omega arith) refl refl tt;
  moves = record {
    at = First;
    of_shape = one_of;
    node = refl;
    side = refl;
    noted = λ w apart is. is;
    silent = omega arith;
    others = first_only answered having_sent answering;
  };
}

sender_comes : IsMove two_ends one_sent (pair having_sent answering)
    (there (met_at 2 x11 a (codes "a") ∷ [])) (pair having_sent having_met)
sender_comes =
    second_hears answering having_met having_sent refl
    (gives (record {
      g = met a (codes "a");
      told = record {
        y = x11;
        pair = refl;
        back = refl;
        later = signaled a b (note 1 []) ∷ [];
        said = refl;
      };
      fits = tt;
      effects = refl;
      receives = record { side = refl; noted = refl };
      silent = refl;
    }))

signal_comes : IsMove two_ends sender_met (pair having_sent having_met)
    (there (Arrived b (There l x11 a) (note 1 []) ∷ [])) (pair having_sent having_got)
signal_comes =
    second_hears having_met having_got having_sent refl
    (gives (record {
      g = arrived a b (note 1 []);
      told = record { y = x11; pair = refl; back = refl; later = []; said = refl };
      fits = refl;
      effects = refl;
      receives = record { side = refl; noted = refl };
      silent = refl;
    }))

arrived_run : IsRun two_ends one_arrived (pair having_sent having_got)
arrived_run = found_run ▹ sends_one ▹ sender_comes ▹ signal_comes

-- the sender closes, and goes
abbrev one_closed : List Step
one_closed = closes 1 a ∷ one_arrived

abbrev one_gone : List Step
one_gone = there (gone_at 2 x11 a ∷ []) ∷ one_closed

abbrev having_closed : SideState
having_closed = up_with (unpublished a ∷ sent_words) (met b (codes "b") ∷ [])

abbrev having_parted : SideState
having_parted = up_with (published b (codes "b") ∷ [])
    (gone a ∷ arrived a b (note 1 []) ∷ met a (codes "a") ∷ asked_for (codes "b") ∷ [])

closes_a : IsMove two_ends one_arrived (pair having_sent having_got) (closes 1 a)
    (pair having_closed having_got)
closes_a = record {
  laws = keeps_laws refl tt refl tt tt;
  moves = each (λ k side. ClosesAt 1 (node_at two_ends k side) a
      (pair having_sent having_got k.0 side) (pair having_closed having_got k.0 side))
      (record { side = refl; noted = refl; silent = omega arith })
      (record { side = refl; noted = refl; silent = omega arith });
}

parting_comes : IsMove two_ends one_closed (pair having_closed having_got)
    (there (gone_at 2 x11 a ∷ [])) (pair having_closed having_parted)
parting_comes =
    second_hears having_got having_parted having_closed refl
    (gives (record {
      g = gone a;
      told = record { y = x11; pair = refl; back = refl; later = []; said = refl };
      fits = tt;
      effects = refl;
      receives = record { side = refl; noted = refl };
      silent = refl;
    }))

-- SO IT IS A RUN, and is legal
whole_run : IsBoundedRun two_ends one_gone (pair having_closed having_parted)
whole_run = record {
  two_ends = λ k of_shape side. each (λ h at. (node_at two_ends h at
      == node_at two_ends h (other_of at)) ≡ false) refl refl k of_shape side;
  fits = omega arith;
  run = arrived_run ▹ closes_a ▹ parting_comes;
}

run_is_legal : IsLegal two_ends one_gone
run_is_legal = (runs_are_legal two_ends one_gone (pair having_closed having_parted) whole_run).legal

one_arrives : arrived_from one_gone b (There l x11 a) ≡ note 1 [] ∷ []
one_arrives = refl

-- NOW THE LINK RESTS: once the other actor has ended, a receive of what never came finds none
abbrev one_ended : List Step
one_ended = ends 1 [] ∷ one_gone

abbrev all_heard : Links
all_heard = pair having_closed having_parted

abbrev finds_it_none : Step
finds_it_none = made 2 (TakeNone (Only (7 ∷ []))) []

leaves_all : (k : LinkNo) → IsLinkOf two_ends k → (side : Side)
    → IsLeft (all_heard k.0 side) (all_heard k.0 side)
leaves_all = each (λ k side. IsLeft (all_heard k.0 side) (all_heard k.0 side))
    (itself having_closed) (itself having_parted)

ends_one : IsMove two_ends one_gone all_heard (ends 1 []) all_heard
ends_one = record {
  laws = keeps_laws refl tt refl tt tt;
  moves = leaves_all;
}

rests : IsResting one_ended l having_closed having_parted
rests = quiet refl (record { pair = refl; back = refl; said = refl; answered = refl })

none_is_found : IsMove two_ends one_ended all_heard finds_it_none all_heard
none_is_found = record {
  laws = keeps_laws refl tt refl tt (refl, at_rest refl);
  moves = record {
    resting = λ k of_shape. each (λ h side. IsResting one_ended h having_closed having_parted) rests
        rests k of_shape First;
    left = leaves_all;
  };
}

resting_run : IsBoundedRun two_ends (finds_it_none ∷ one_ended) all_heard
resting_run = record {
  two_ends = whole_run.two_ends;
  fits = omega arith;
  run = whole_run.run ▹ ends_one ▹ none_is_found;
}

-- A RESTART of the sender's node: its side begins the first session of the next boot, the other
-- side learns it from the greater session, and goes up anew
abbrev one_restarted : List Step
one_restarted = made 1 (Restart (record { 0 = 1 })) (down 1 x11 ∷ Closed a ∷ []) ∷ one_arrived

abbrev other_down : List Step
other_down = there (down 2 x11 ∷ []) ∷ one_restarted

abbrev up_again : List Step
up_again = there (up 2 x12 x21 ∷ []) ∷ other_down

-- a side that began a session behind another state
abbrev begun_after : Session → SideState → SideState
begun_after x C = record { side = beginning x C.side; noted = []; silent = 0 }

abbrev again_up : SideState
again_up = record { side = going_up x21 (beginning x12 having_got.side); noted = []; silent = 0 }

restarts_one : IsMove two_ends one_arrived (pair having_sent having_got)
    (made 1 (Restart (record { 0 = 1 })) (down 1 x11 ∷ Closed a ∷ []))
    (pair (begun_after x21 having_sent) having_got)
restarts_one = record {
  laws = keeps_laws refl tt refl tt tt;
  moves = each (λ k side. RestartsAt (node_at two_ends k side == 1) x21
      (pair having_sent having_got k.0 side)
      (pair (begun_after x21 having_sent) having_got k.0 side))
      (record { side = refl; silent = omega arith }) (itself having_got);
}

other_learns : IsMove two_ends one_restarted (pair (begun_after x21 having_sent) having_got)
    (there (down 2 x11 ∷ []))
    (pair (begun_after x21 having_sent) (begun_after x12 having_got))
other_learns =
    second_hears having_got (begun_after x12 having_got) (begun_after x21 having_sent) refl
    (brings_down (record {
      y = x11;
      pair = refl;
      passed = omega arith;
      effects = refl;
      begins = record { side = refl; silent = omega arith };
    }))

other_goes_up : IsMove two_ends other_down
    (pair (begun_after x21 having_sent) (begun_after x12 having_got)) (there (up 2 x12 x21 ∷ []))
    (pair (begun_after x21 having_sent) again_up)
other_goes_up =
    second_hears (begun_after x12 having_got) again_up (begun_after x21 having_sent) refl
    (brings_up (record {
      y = x21;
      down = refl;
      other_has = refl;
      forward = (tt, (omega arith, tt));
      effects = refl;
      names = [];
      asks_all = λ v is. absurd (true≢false (sym is));
      side = refl;
      noted = refl;
      silent = refl;
    }))

again_run : IsRun two_ends up_again (pair (begun_after x21 having_sent) again_up)
again_run = arrived_run ▹ restarts_one ▹ other_learns ▹ other_goes_up

-- A CUT: the side is lost at its third tick in silence
abbrev heard_ago : ℕ → SideState → SideState
heard_ago ticks C = record C { silent = ticks }

abbrev link_cut : List Step
link_cut = made 1 (Cut l) [] ∷ one_arrived

abbrev first_ticks : List Step
first_ticks = pump (Tick l First) [] ∷ link_cut

abbrev two_ticks : List Step
two_ticks = pump (Tick l First) [] ∷ first_ticks

abbrev three_ticks : List Step
three_ticks = pump (Tick l First) (down 1 x11 ∷ []) ∷ two_ticks

cuts_it : IsMove two_ends one_arrived (pair having_sent having_got) (made 1 (Cut l) [])
    (pair having_sent having_got)
cuts_it = record {
  laws = keeps_laws refl tt refl tt tt;
  moves = each (λ k side. IsLeft (pair having_sent having_got k.0 side)
      (pair having_sent having_got k.0 side)) (itself having_sent) (itself having_got);
}

ticks_one : (P : List Step) (n : ℕ) → IsMove two_ends P (pair (heard_ago n having_sent) having_got)
    (pump (Tick l First) []) (pair (heard_ago (suc n) having_sent) having_got)
ticks_one P n = record {
  laws = tick_laws;
  moves = record {
    of_shape = one_of;
    ticked = ticks_on (record {
      effects = refl;
      side = refl;
      noted = refl;
      silent = omega arith;
    });
    others = first_only (heard_ago n having_sent) (heard_ago (suc n) having_sent) having_got;
  };
}

loses_first : IsMove two_ends two_ticks (pair (heard_ago 2 having_sent) having_got)
    (pump (Tick l First) (down 1 x11 ∷ [])) (pair (begun_after x12 having_sent) having_got)
loses_first = record {
  laws = tick_laws;
  moves = record {
    of_shape = one_of;
    ticked = loses_it (record {
      y = x11;
      pair = refl;
      silence = omega arith;
      effects = refl;
      begins = record { side = refl; silent = omega arith };
    });
    others = first_only (heard_ago 2 having_sent) (begun_after x12 having_sent) having_got;
  };
}

lost_run : IsRun two_ends three_ticks (pair (begun_after x12 having_sent) having_got)
lost_run = arrived_run ▹ cuts_it ▹ ticks_one link_cut 0 ▹ ticks_one first_ticks 1 ▹ loses_first

-- WHY NOTHING VANISHES SPEAKS OF A QUIET TRUNK: the laws let a link be still, by what is open,
-- while the signal of one that closed before it was met is on its way
abbrev closed_early : List Step
closed_early = closes 1 a ∷ one_sent

still_too_soon : IsStill two_ends closed_early l
still_too_soon = whole refl x11 x11 (record {
  there = record {
    up = refl;
    pair = refl;
    all_got = (tt, tt);
    peers_open = (refl, tt);
    hunts_answered = (refl, tt);
  };
  back = record {
    up = refl;
    pair = refl;
    all_got = tt;
    peers_open = tt;
    hunts_answered = tt;
  };
})

one_was_sent : sent_to closed_early a (There l x11 b) ≡ note 1 [] ∷ []
one_was_sent = refl

none_has_come : arrived_from closed_early b (There l x11 a) ≡ []
none_has_come = refl
