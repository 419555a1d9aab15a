-- The sessions of the link's record and their peers are those of a side's record.
use Rattle.std.proofs.Common.{◌≡◌, ◌≤◌, Bool, true, false, List, [], ◌∷◌, map, sym, ◌∙◌, ap, subst}
use Rattle.std.proofs.Common.{◌==◌, if◌then◌else◌}
use Rattle.std.proofs.lemmas.Bool.{or_left, or_right}
use Rattle.std.specs.List.{AllByRecursion, list_any}
use Rattle.std.specs.Option.{ForSome}
use Rattle.linx_base.specs.declared.identity.Session.{Session}
use Rattle.carrier.specs.Records as links
use Rattle.carrier.specs.Records.{Entry, HalfState, entries}
use Rattle.carrier.specs.Keeping as link_keeping
use Rattle.trunk_record.specs.Records.{all, has_session}
use Rattle.rlnh_laws.specs.Ties.{Talk}
use Rattle.trunk.specs.Keeping.{AllMirror}
use Rattle.trunk.specs.Promises.{IsPeerHeld, PeersRise, PeersUpTo}
use Rattle.trunk.specs.Talks.{Talks, all_talks, record_of, side_record}

-- a session that the link has had is recorded
pub session_had : (y : Session) (es : List Entry) (ts : List Talk) → AllMirror es ts
    → links.has_session y.0 es ≡ true → list_any (has_session y) (map record_of ts) ≡ true
session_had y [] [] m h = h
session_had y [] (t ∷ ts) m h = absurd m
session_had y (e ∷ es) [] m h = absurd m
session_had y (e ∷ es) (t ∷ ts) m h =
    by_test (e.number.0 == y.0) (ap (λ (s : Session). s.0 == y.0) m.0.number) h
    (session_had y es ts m.1)
  where
    by_test : (b : Bool) → b ≡ (t.number.0 == y.0)
        → (if b then true else links.has_session y.0 es) ≡ true
        → (links.has_session y.0 es ≡ true → list_any (has_session y) (map record_of ts) ≡ true)
        → list_any (has_session y) (map record_of (t ∷ ts)) ≡ true
    by_test true same is later = or_left (t.number.0 == y.0)
        (list_any (has_session y) (map record_of ts)) (sym same)
    by_test false same is later = or_right (t.number.0 == y.0)
        (list_any (has_session y) (map record_of ts)) (later is)

pub peers_upto : (y : Session) (es : List Entry) (ts : List Talk) → AllMirror es ts
    → link_keeping.PeersUpTo y.0 es → PeersUpTo y (map record_of ts)
peers_upto y [] [] m h = tt
peers_upto y [] (t ∷ ts) m h = absurd m
peers_upto y (e ∷ es) [] m h = absurd m
peers_upto y (e ∷ es) (t ∷ ts) m h = (
  subst (λ o. ForSome o (λ z. z.0 ≤ y.0)) m.0.peer h.0,
  peers_upto y es ts m.1 h.1,
)

peers_rise : (es : List Entry) (ts : List Talk) → AllMirror es ts → link_keeping.PeersRise es
    → PeersRise (map record_of ts)
peers_rise [] [] m h = tt
peers_rise [] (t ∷ ts) m h = absurd m
peers_rise (e ∷ es) [] m h = absurd m
peers_rise (e ∷ es) (t ∷ ts) m h = (
  (λ z is. peers_upto z es ts m.1 (h.0 z (m.0.peer ∙ is))),
  peers_rise es ts m.1 h.1,
)

peers_held : (others : List Entry) (B : Talks) (es : List Entry) (ts : List Talk)
    → AllMirror others (all_talks B) → AllMirror es ts → link_keeping.PeersHeld others es
    → AllByRecursion (IsPeerHeld (side_record B)) (map record_of ts)
peers_held others B [] [] n m h = tt
peers_held others B [] (t ∷ ts) n m h = absurd m
peers_held others B (e ∷ es) [] n m h = absurd m
peers_held others B (e ∷ es) (t ∷ ts) n m h = (
  (λ z is. session_had z others (all_talks B) n (h.0 z (m.0.peer ∙ is))),
  peers_held others B es ts n m.1 h.1,
)

pub side_peers_rise : (h : HalfState) (A : Talks) → AllMirror (entries h) (all_talks A)
    → link_keeping.PeersRise (entries h) → PeersRise (all (side_record A))
side_peers_rise h A m is = peers_rise (entries h) (all_talks A) m is

pub side_peers_held : (h o : HalfState) (A B : Talks) → AllMirror (entries h) (all_talks A)
    → AllMirror (entries o) (all_talks B) → link_keeping.PeersHeld (entries o) (entries h)
    → AllByRecursion (IsPeerHeld (side_record B)) (all (side_record A))
side_peers_held h o A B m n is = peers_held (entries o) B (entries h) (all_talks A) n m is
