-- EFFECTS THAT ARE CALM: no session goes up by them, and nothing arrives over a link. All are but
-- those of a packet that brings one of the two.
use Rattle.std.proofs.Common.{◌≡◌, ℕ, zero, suc, Bool, true, false, ◌&&◌, ◌||◌, ◌==◌, List, [], ◌∷◌}
use Rattle.std.proofs.Common.{◌++◌, length, map, filter, Option, Some, None, inl, inr, ◌⊎◌, refl}
use Rattle.std.proofs.Common.{◌∙◌, fold, if◌then◌else◌}
use Rattle.std.specs.List.{list_any, filter_map, AllByRecursion}
use Rattle.linx_base.specs.Peers.{same_inc}
use Rattle.linx_base.specs.Pending.{is_of_session}
use Rattle.linx_base.specs.declared.identity.Inc.{Inc}
use Rattle.linx_base.specs.declared.identity.LinkNo.{LinkNo}
use Rattle.linx_base.specs.declared.identity.Peer.{Peer}
use Rattle.linx_base.specs.declared.identity.Peer.TheVariants.{Here, There}
use Rattle.linx_base.specs.declared.identity.Session.{Session}
use Rattle.linx_base.specs.declared.pending.PendingAttach.{PendingAttach}
use Rattle.linx_base.specs.declared.pending.PendingHunt.{PendingHunt}
use Rattle.linx_base.specs.declared.signal.Reason.{Reason}
use Rattle.linx_base.specs.declared.signal.Reason.TheVariants as reasons
use Rattle.journal.specs.declared.effect.Effect.{Effect}
use Rattle.journal.specs.declared.effect.Effect.TheVariants.{Arrived, Down, Up}
use Rattle.journal.specs.declared.effect.Step.{Step}
use Rattle.journal.specs.Effects.{closings, found, losing, notice}
use Rattle.journal.specs.History.{open_endpoints}
use Rattle.journal.specs.Pending.{owed}
use Rattle.journal.specs.Sessions.{session_past, up_session}
use Rattle.journal.specs.Shapes.{Shape}
use Rattle.journal.specs.Traffic.{arrival_in}
use Rattle.link_laws.specs.Laws.{down_if, downs_of, restarting}
use Rattle.link_laws.specs.Sessions.{ends_session, paired_after}
use Rattle.link_check.proofs.Heads.{AreHere, here-closings, here-founds, here-notices}

abbrev pub IsCalm : Effect → Type 0
IsCalm (Arrived b (There l x a) note) = ⊥
IsCalm (Up n l x y) = ⊥
IsCalm _ = Unit {0}

abbrev pub AreCalm : List Effect → Type 0
AreCalm es = AllByRecursion IsCalm es

pub calm-more : (es fs : List Effect) → AreCalm es → AreCalm fs → AreCalm (es ++ fs)
calm-more [] fs first rest = rest
calm-more (e ∷ es) fs first rest = (first.0, calm-more es fs first.1 rest)

-- what speaks of no link is
pub calm-here : (es : List Effect) → AreHere es → AreCalm es
calm-here [] here = tt
calm-here (Arrived b (There l x a) note ∷ es) here = absurd here.0
calm-here (Arrived b (Here i) note ∷ es) here = (tt, calm-here es here.1)
calm-here (Up n l x y ∷ es) here = absurd here.0
calm-here (_ ∷ es) here = (tt, calm-here es here.1)

pub calm-founds : (q : Peer) (hunts : List PendingHunt) → AreCalm (map (found q) hunts)
calm-founds q hunts = calm-here (map (found q) hunts) (here-founds q hunts)

pub calm-notices : (reason : Reason) (attaches : List PendingAttach)
    → AreCalm (map (notice reason) attaches)
calm-notices reason attaches = calm-here (map (notice reason) attaches) (here-notices reason attaches)

module _ (P : List Step) (node : ℕ) where
  -- so are the effects of a restart
  calm-down : (k : ℕ) (up : Option Session) → AreCalm (down_if node k up)
  calm-down k None = tt
  calm-down k (Some x) = (tt, tt)

  pub calm-downs : (k : ℕ) → AreCalm (downs_of P node k)
  calm-downs zero = tt
  calm-downs (suc k) =
      calm-more (downs_of P node k) (down_if node (suc k) (up_session P node (suc k)))
      (calm-downs k) (calm-down (suc k) (up_session P node (suc k)))

  pub calm-restart : (shape : Shape) → AreCalm (restarting shape P node)
  calm-restart shape =
      calm-more (downs_of P node (length shape.links)) (closings (open_endpoints P node))
      (calm-downs (length shape.links))
      (calm-here (closings (open_endpoints P node)) (here-closings (open_endpoints P node)))

  pub calm-losing : (l : LinkNo) (x : Session)
      → AreCalm (losing (record { 0 = node }) l x (owed P node))
  calm-losing l x = (
    tt,
    calm-notices reasons.Lost (filter (λ (a : PendingAttach). is_of_session l x a.peer)
        (owed P node)),
  )

-- CALM EFFECTS bring nothing over a link, and leave the pair of each session; and where they change
-- what is up, they end a session
module _ (n l : ℕ) where
  pub calm-pairs : (x : Session) (es : List Effect) → AreCalm es → (pair : Option Session)
      → fold (paired_after n l x) pair es ≡ pair
  calm-pairs x [] calm pair = refl
  calm-pairs x (Arrived b (There k y a) note ∷ es) calm pair = absurd calm.0
  calm-pairs x (Up k h y z ∷ es) calm pair = absurd calm.0
  calm-pairs x (_ ∷ es) calm pair = calm-pairs x es calm.1 pair

  abbrev pub EndsOrStays : Option Session → List Effect → Type 0
  EndsOrStays up es = (session_past n l up es ≡ up) ⊎ (list_any (ends_session n l) es ≡ true)

  more-ends : (e : Effect) (es : List Effect) → list_any (ends_session n l) es ≡ true
      → list_any (ends_session n l) (e ∷ es) ≡ true
  more-ends e es is = go (ends_session n l e)
    where
      go : (b : Bool) → (b || list_any (ends_session n l) es) ≡ true
      go true = refl
      go false = is

  past : (e : Effect) (es : List Effect) (up : Option Session) → session_past n l up (e ∷ es)
      ≡ session_past n l up es → EndsOrStays up es → EndsOrStays up (e ∷ es)
  past e es up same (inl stays) = inl (same ∙ stays)
  past e es up same (inr ends) = inr (more-ends e es ends)

  pub calm-ends : (es : List Effect) → AreCalm es → (up : Option Session) → EndsOrStays up es
  calm-ends [] calm up = inl refl
  calm-ends (Arrived b (There k y a) note ∷ es) calm up = absurd calm.0
  calm-ends (Up k h y z ∷ es) calm up = absurd calm.0
  calm-ends (Down k h y ∷ es) calm up =
      go (k.0 == n && h.0 == l) refl (calm-ends es calm.1 up)
    where
      go : (b : Bool) → (k.0 == n && h.0 == l) ≡ b → EndsOrStays up es
          → EndsOrStays up (Down k h y ∷ es)
      go true is rest = inr (rw is refl)
      go false is rest = past (Down k h y) es up (rw is refl) rest
  calm-ends (Arrived b (Here a) note ∷ es) calm up =
      past (Arrived b (Here a) note) es up refl (calm-ends es calm.1 up)
  calm-ends (e ∷ es) calm up = past e es up refl (calm-ends es calm.1 up)

  -- what is up after them was up before them
  pub calm-up : (es : List Effect) → AreCalm es → (up : Option Session) (x : Session)
      → session_past n l up es ≡ Some x → up ≡ Some x
  calm-up [] calm up x is = is
  calm-up (Arrived b (There k y a) note ∷ es) calm up x is = absurd calm.0
  calm-up (Up k h y z ∷ es) calm up x is = absurd calm.0
  calm-up (Down k h y ∷ es) calm up x is =
      go (k.0 == n && h.0 == l) (calm-up es calm.1 _ x is)
    where
      go : (b : Bool) → (if b then None else up) ≡ Some x → up ≡ Some x
      go true none = cc none
      go false same = same
  calm-up (Arrived b (Here a) note ∷ es) calm up x is = calm-up es calm.1 up x is
  calm-up (_ ∷ es) calm up x is = calm-up es calm.1 up x is

pub calm-arrived : (b : Inc) (l : LinkNo) (x : Session) (a : Inc) (es : List Effect) → AreCalm es
    → filter_map (arrival_in b (There l x a)) es ≡ []
calm-arrived b l x a [] calm = refl
calm-arrived b l x a (Arrived c (There k y i) note ∷ es) calm = absurd calm.0
calm-arrived b l x a (Up k h y z ∷ es) calm = absurd calm.0
calm-arrived b l x a (Arrived c (Here i) note ∷ es) calm =
    go (same_inc c b) refl (calm-arrived b l x a es calm.1)
  where
    go : (t : Bool) → same_inc c b ≡ t → filter_map (arrival_in b (There l x a)) es ≡ []
        → filter_map (arrival_in b (There l x a)) (Arrived c (Here i) note ∷ es) ≡ []
    go true is rest = rw is rest
    go false is rest = rw is rest
calm-arrived b l x a (_ ∷ es) calm = calm-arrived b l x a es calm.1
