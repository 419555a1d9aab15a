-- The definitions computed on worked runs of two nodes and a link, each of which is legal.
use Rattle.std.proofs.Common.{ℕ, true, false, List, [], ◌∷◌, length, ◌≡◌, ◌≤◌, refl, arith, codes}
use Rattle.std.specs.List.{AllByRecursion}
use Rattle.linx_base.specs.Content.{data_limit}
use Rattle.linx_base.specs.declared.frame.Verdict.TheVariants.{Lose, Repeat, Swap}
use Rattle.linx_base.specs.declared.identity.Peer.TheVariants.{There}
use Rattle.linx_base.specs.declared.identity.Side.TheVariants.{First}
use Rattle.linx_base.specs.declared.name.Path.TheVariants.{Over}
use Rattle.sigsel.specs.declared.sigsel.Sigsel.TheVariants.{Any, Only}
use Rattle.journal.specs.Living.{is_alive}
use Rattle.journal.specs.Pending.{owed, hunting}
use Rattle.journal.specs.Traffic.{arrived_from, sent_to}
use Rattle.journal.specs.declared.effect.Effect.TheVariants.{Closed, Arrived, Found, Notified}
use Rattle.journal.specs.declared.effect.Step.{Step}
use Rattle.journal.specs.declared.head.Head.TheVariants.{Send, TakeNone, Hunt, Attach, Wire}
use Rattle.journal.specs.declared.head.SentTo.TheVariants.{Link}
use Rattle.journal.proofs.Playing.{at_rest, made, note, at, ref, opens, closes, takes, ends}
use Rattle.link_laws.specs.Brought.{nothing, goes_up, arrives, meets, parts}
use Rattle.link_laws.specs.Laws.{IsLegal}
use Rattle.link_laws.specs.NotifiedCloses.{HasAllOf, IsOfUntold, was_told_closed}
use Rattle.link_laws.specs.Runs.{IsBetweenLiving}
use Rattle.link_laws.specs.Still.{whole as whole_link, IsStill}
use Rattle.link_laws.proofs.Worked.Playing.{acts, l, a, b, c, pump, there, back, posts, up, brings}
use Rattle.link_laws.proofs.Worked.Playing.{passes, goes_through, finds_none, two_ends, x11, met_at}
use Rattle.link_laws.proofs.Worked.Playing.{gone_at, one_still, ◌▸◌}
use Rattle.linx_base.specs.declared.signal.Reason.TheVariants as reasons

-- A HUNT OVER A LINK: the link goes up, the hunted name is met, and the hunt is answered
abbrev pub hunted_over : List Step
hunted_over =
    back (up 1 x11 x11 ∷ []) ∷ there (up 2 x11 x11 ∷ [])
    ∷ made 1 (Hunt (Over l (codes "b")) (note 251 [])) [] ∷ opens 2 (codes "b") b
    ∷ opens 1 (codes "a") a ∷ []

abbrev pub found_over : List Step
found_over =
    takes 1 (Only (251 ∷ [])) (at 6 2)
    ∷ back (met_at 1 x11 b (codes "b") ∷ Found a (There l x11 b) (note 251 []) 3 ∷ [])
    ∷ hunted_over

pub found_over_is_legal : IsLegal two_ends found_over
found_over_is_legal =
    tt ▸ acts refl refl refl tt tt
    ▸ acts refl refl refl tt tt
    ▸ acts refl (refl, omega arith) refl tt tt
    ▸ brings (goes_up x11 x11) refl refl (record { down = refl; own = refl; other_had = refl })
    ▸ brings (goes_up x11 x11) refl refl (record { down = refl; own = refl; other_had = refl })
    ▸ brings (meets x11 b (codes "b")) refl refl
    (record { up = refl; opened = refl; named = refl; new = refl })
    ▸ acts refl tt refl tt refl

hunt_is_pending : hunting hunted_over 1 ≡ record {
  at = a;
  path = Over l (codes "b");
  signal = note 251 [];
  number = 3;
} ∷ []
hunt_is_pending = refl

hunt_is_answered : hunting found_over 1 ≡ []
hunt_is_answered = refl

found_is_alive : is_alive found_over 1 (There l x11 b) ≡ true
found_is_alive = refl

-- A LARGE SIGNAL, of any bytes within the bounds, arrives once and whole
abbrev large : List ℕ → List Step
large bytes =
    takes 2 (Only (9 ∷ [])) (at 10 1) ∷ there (Arrived b (There l x11 a) (note 9 bytes) ∷ [])
    ∷ there (met_at 2 x11 a (codes "a") ∷ []) ∷ posts x11 b (note 9 bytes) ∷ found_over

large_is_legal : (bytes : List ℕ) → length bytes ≤ data_limit → IsLegal two_ends (large bytes)
large_is_legal bytes bounded =
    found_over_is_legal
    ▸ acts refl bounded refl refl tt
    ▸ brings (meets x11 a (codes "a")) refl refl
    (record { up = refl; opened = refl; named = refl; new = refl })
    ▸ brings (arrives x11 a b (note 9 bytes)) refl refl
    (record { receiver = refl; sender = refl; alive = refl; front = ([], refl) })
    ▸ acts refl tt refl tt refl

large_arrives : (bytes : List ℕ) → arrived_from (large bytes) b (There l x11 a) ≡ note 9 bytes ∷ []
large_arrives bytes = refl

-- FIVE SIGNALS, through loss, repeat and reorder
abbrev five_sent : List Step
five_sent =
    there (met_at 2 x11 a (codes "a") ∷ []) ∷ posts x11 b (note 5 []) ∷ posts x11 b (note 4 [])
    ∷ posts x11 b (note 3 []) ∷ posts x11 b (note 2 []) ∷ posts x11 b (note 1 []) ∷ found_over

abbrev five_arrived : List Step
five_arrived =
    there (Arrived b (There l x11 a) (note 5 []) ∷ [])
    ∷ there (Arrived b (There l x11 a) (note 4 []) ∷ [])
    ∷ there (Arrived b (There l x11 a) (note 3 []) ∷ []) ∷ pump (Wire l First (Swap 2)) []
    ∷ there [] ∷ pump (Wire l First Repeat) (Arrived b (There l x11 a) (note 2 []) ∷ [])
    ∷ pump (Wire l First Lose) [] ∷ there (Arrived b (There l x11 a) (note 1 []) ∷ []) ∷ five_sent

abbrev five_taken : List Step
five_taken =
    takes 2 Any (at 21 1) ∷ takes 2 Any (at 20 1) ∷ takes 2 Any (at 19 1) ∷ takes 2 Any (at 16 1)
    ∷ takes 2 Any (at 14 1) ∷ five_arrived

five_sent_is_legal : IsLegal two_ends five_sent
five_sent_is_legal =
    found_over_is_legal
    ▸ acts refl (omega arith) refl refl tt
    ▸ acts refl (omega arith) refl refl tt
    ▸ acts refl (omega arith) refl refl tt
    ▸ acts refl (omega arith) refl refl tt
    ▸ acts refl (omega arith) refl refl tt
    ▸ brings (meets x11 a (codes "a")) refl refl
    (record { up = refl; opened = refl; named = refl; new = refl })

five_arrived_is_legal : IsLegal two_ends five_arrived
five_arrived_is_legal =
    five_sent_is_legal
    ▸ brings (arrives x11 a b (note 1 [])) refl refl
    (record {
      receiver = refl;
      sender = refl;
      alive = refl;
      front = (note 2 [] ∷ note 3 [] ∷ note 4 [] ∷ note 5 [] ∷ [], refl);
    })
    ▸ passes (λ cut. refl) refl
    ▸ goes_through refl (record {
      what = arrives x11 a b (note 2 []);
      effects = refl;
      may = record {
        receiver = refl;
        sender = refl;
        alive = refl;
        front = (note 3 [] ∷ note 4 [] ∷ note 5 [] ∷ [], refl);
      };
    })
    ▸ brings nothing refl refl tt
    ▸ goes_through refl refl
    ▸ brings (arrives x11 a b (note 3 [])) refl refl
    (record {
      receiver = refl;
      sender = refl;
      alive = refl;
      front = (note 4 [] ∷ note 5 [] ∷ [], refl);
    })
    ▸ brings (arrives x11 a b (note 4 [])) refl refl
    (record { receiver = refl; sender = refl; alive = refl; front = (note 5 [] ∷ [], refl) })
    ▸ brings (arrives x11 a b (note 5 [])) refl refl
    (record { receiver = refl; sender = refl; alive = refl; front = ([], refl) })

five_taken_is_legal : IsLegal two_ends five_taken
five_taken_is_legal =
    five_arrived_is_legal
    ▸ acts refl tt refl tt refl
    ▸ acts refl tt refl tt refl
    ▸ acts refl tt refl tt refl
    ▸ acts refl tt refl tt refl
    ▸ acts refl tt refl tt refl

five_in_order : arrived_from five_taken b (There l x11 a) ≡ note 1 [] ∷ note 2 [] ∷ note 3 []
    ∷ note 4 [] ∷ note 5 [] ∷ []
five_in_order = refl

five_were_sent : sent_to five_taken a (There l x11 b) ≡ note 1 [] ∷ note 2 [] ∷ note 3 []
    ∷ note 4 [] ∷ note 5 [] ∷ []
five_were_sent = refl

-- A CLOSE IS NOTIFIED AFTER ALL DATA
abbrev pub one_answered : List Step
one_answered =
    takes 1 (Only (9 ∷ [])) (at 14 1) ∷ back (Arrived a (There l x11 b) (note 9 []) ∷ [])
    ∷ made 2 (Send (There l x11 a) (note 9 []) Link) []
    ∷ made 2 (Attach (There l x11 a) (note 252 [])) [] ∷ takes 2 (Only (1 ∷ [])) (at 10 1)
    ∷ there (Arrived b (There l x11 a) (note 1 []) ∷ []) ∷ there (met_at 2 x11 a (codes "a") ∷ [])
    ∷ posts x11 b (note 1 []) ∷ found_over

abbrev pub closed_behind_data : List Step
closed_behind_data =
    closes 1 a ∷ posts x11 b (note 4 []) ∷ posts x11 b (note 3 []) ∷ posts x11 b (note 2 [])
    ∷ one_answered

abbrev told_of_close : List Step
told_of_close =
    takes 2 (Only (252 ∷ [])) (at 23 2)
    ∷ there (gone_at 2 x11 a ∷ Notified b (There l x11 a) (note 252 (0 ∷ [])) (ref 12)
    reasons.Closed ∷ [])
    ∷ there (Arrived b (There l x11 a) (note 4 []) ∷ [])
    ∷ there (Arrived b (There l x11 a) (note 3 []) ∷ [])
    ∷ there (Arrived b (There l x11 a) (note 2 []) ∷ []) ∷ closed_behind_data

pub one_answered_is_legal : IsLegal two_ends one_answered
one_answered_is_legal =
    found_over_is_legal
    ▸ acts refl (omega arith) refl refl tt
    ▸ brings (meets x11 a (codes "a")) refl refl
    (record { up = refl; opened = refl; named = refl; new = refl })
    ▸ brings (arrives x11 a b (note 1 [])) refl refl
    (record { receiver = refl; sender = refl; alive = refl; front = ([], refl) })
    ▸ acts refl tt refl tt refl
    ▸ acts refl (omega arith) refl tt tt
    ▸ acts refl (omega arith) refl refl tt
    ▸ brings (arrives x11 b a (note 9 [])) refl refl
    (record { receiver = refl; sender = refl; alive = refl; front = ([], refl) })
    ▸ acts refl tt refl tt refl

pub closed_behind_data_is_legal : IsLegal two_ends closed_behind_data
closed_behind_data_is_legal =
    one_answered_is_legal
    ▸ acts refl (omega arith) refl refl tt
    ▸ acts refl (omega arith) refl refl tt
    ▸ acts refl (omega arith) refl refl tt
    ▸ acts refl tt refl tt tt

told_of_close_is_legal : IsLegal two_ends told_of_close
told_of_close_is_legal =
    closed_behind_data_is_legal
    ▸ brings (arrives x11 a b (note 2 [])) refl refl
    (record {
      receiver = refl;
      sender = refl;
      alive = refl;
      front = (note 3 [] ∷ note 4 [] ∷ [], refl);
    })
    ▸ brings (arrives x11 a b (note 3 [])) refl refl
    (record { receiver = refl; sender = refl; alive = refl; front = (note 4 [] ∷ [], refl) })
    ▸ brings (arrives x11 a b (note 4 [])) refl refl
    (record { receiver = refl; sender = refl; alive = refl; front = ([], refl) })
    ▸ brings (parts x11 a) refl refl (record { alive = refl; closed = refl; all_got = (refl, tt) })
    ▸ acts refl tt refl tt refl

told_after_all_data : arrived_from told_of_close b (There l x11 a) ≡ note 1 [] ∷ note 2 []
    ∷ note 3 [] ∷ note 4 [] ∷ []
told_after_all_data = refl

attached_between_living : AllByRecursion (IsBetweenLiving one_answered 2) (owed one_answered 2)
attached_between_living = (record { holder = refl; peer = refl }, tt)

close_told_whole : HasAllOf told_of_close b (There l x11 a)
close_told_whole = refl

close_was_told : was_told_closed told_of_close b (There l x11 a) ≡ true
close_was_told = refl

none_arrives_after : IsOfUntold told_of_close (Arrived b (There l x11 a) (note 5 [])) → ⊥
none_arrives_after is = cc

-- told before the last signal arrived
abbrev told_early : List Step
told_early =
    there (gone_at 2 x11 a ∷ Notified b (There l x11 a) (note 252 (0 ∷ [])) (ref 12)
    reasons.Closed ∷ [])
    ∷ there (Arrived b (There l x11 a) (note 3 []) ∷ [])
    ∷ there (Arrived b (There l x11 a) (note 2 []) ∷ []) ∷ closed_behind_data

early_lacks_one : HasAllOf told_early b (There l x11 a) → ⊥
early_lacks_one is = cc

told_once : owed told_of_close 2 ≡ []
told_once = refl

closed_peer_is_dead : is_alive told_of_close 2 (There l x11 a) ≡ false
closed_peer_is_dead = refl

-- SIGNALS TO A CLOSED ENDPOINT ARE FREED, and who opens after it finds none
abbrev freed_signals : List Step
freed_signals =
    there (gone_at 2 x11 a ∷ []) ∷ ends 1 (Closed a ∷ []) ∷ back (gone_at 1 x11 b ∷ [])
    ∷ there [] ∷ there [] ∷ opens 2 (codes "c") c ∷ closes 2 b ∷ takes 2 (Only (1 ∷ [])) (at 12 1)
    ∷ there (Arrived b (There l x11 a) (note 1 []) ∷ []) ∷ there (met_at 2 x11 a (codes "a") ∷ [])
    ∷ posts x11 b (note 3 []) ∷ posts x11 b (note 2 []) ∷ posts x11 b (note 1 []) ∷ found_over

abbrev found_none : List Step
found_none = ends 2 (Closed c ∷ []) ∷ made 2 (TakeNone Any) [] ∷ freed_signals

freed_signals_are_legal : IsLegal two_ends freed_signals
freed_signals_are_legal =
    found_over_is_legal
    ▸ acts refl (omega arith) refl refl tt
    ▸ acts refl (omega arith) refl refl tt
    ▸ acts refl (omega arith) refl refl tt
    ▸ brings (meets x11 a (codes "a")) refl refl
    (record { up = refl; opened = refl; named = refl; new = refl })
    ▸ brings (arrives x11 a b (note 1 [])) refl refl
    (record {
      receiver = refl;
      sender = refl;
      alive = refl;
      front = (note 2 [] ∷ note 3 [] ∷ [], refl);
    })
    ▸ acts refl tt refl tt refl
    ▸ acts refl tt refl tt tt
    ▸ acts refl refl refl tt tt
    ▸ brings nothing refl refl tt
    ▸ brings nothing refl refl tt
    ▸ brings (parts x11 b) refl refl (record { alive = refl; closed = refl; all_got = (refl, tt) })
    ▸ acts refl tt refl tt tt
    ▸ brings (parts x11 a) refl refl (record { alive = refl; closed = refl; all_got = (refl, tt) })

link_is_still : IsStill two_ends freed_signals l
link_is_still = whole_link refl x11 x11 (record {
  there = record {
    up = refl;
    pair = refl;
    all_got = (tt, tt);
    peers_open = tt;
    hunts_answered = (refl, tt);
  };
  back = record {
    up = refl;
    pair = refl;
    all_got = tt;
    peers_open = tt;
    hunts_answered = tt;
  };
})

found_none_is_legal : IsLegal two_ends found_none
found_none_is_legal =
    freed_signals_are_legal
    ▸ finds_none refl (refl, at_rest refl) (one_still link_is_still)
    ▸ acts refl tt refl tt tt

only_one_arrived : arrived_from found_none b (There l x11 a) ≡ note 1 [] ∷ []
only_one_arrived = refl
