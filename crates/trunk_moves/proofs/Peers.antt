-- What a whole run with trunks tells of its nodes' peers and sessions: it is legal, a living peer
-- over a link is over one that its node is an end of, and what is up at a node is what its side is.
use Rattle.std.proofs.Common.{◌≡◌, ℕ, ◌+◌, true, List, Option, Some, None, refl, sym, ◌∙◌, ap}
use Rattle.linx_base.specs.Numbers.{boot_of}
use Rattle.linx_base.specs.declared.identity.Inc.{Inc}
use Rattle.linx_base.specs.declared.identity.LinkNo.{LinkNo}
use Rattle.linx_base.specs.declared.identity.Peer.TheVariants.{There}
use Rattle.linx_base.specs.declared.identity.Session.{Session}
use Rattle.linx_base.specs.declared.identity.Side.{Side}
use Rattle.trunk_record.specs.Records.{SideRecord, session_if, up_in}
use Rattle.journal.specs.Living.{is_alive}
use Rattle.journal.specs.Sessions.{up_session}
use Rattle.journal.specs.Shapes.{Shape}
use Rattle.journal.specs.declared.effect.Step.{Step}
use Rattle.link_laws.specs.Ends.{IsLinkOf, node_at}
use Rattle.link_laws.specs.Laws.{IsLegal}
use Rattle.link_laws.specs.Linked.{IsLinked}
use Rattle.link_laws.specs.Runs.{IsSoundRun}
use Rattle.link_laws.specs.Sessions.{boots}
use Rattle.link_laws.proofs.Peers.OverItsLinks.{IsEndOf, living-reached}
use Rattle.trunk.specs.Events.{kept_of}
use Rattle.trunk_moves.specs.Steps.{IsBoundedTrunkRun}
use Rattle.trunk_moves.specs.Trunks.{RunTrunks, links_of}
use Rattle.trunk_moves.proofs.Facts.{own_boot}
use Rattle.trunk_moves.proofs.Runs.{trunk_runs_keep_all}

-- a side is up in this session
pub record IsUpIn (x : Session) (A : SideRecord) : Type 0 where
  pub session : A.now.session ≡ x
  pub peer : Session
  pub up : A.now.peer ≡ Some peer

-- that is where its session has a peer
up-is : (A : SideRecord) (x : Session) → up_in A ≡ Some x → IsUpIn x A
up-is A x is = by_peer A.now.peer refl is
  where
    by_peer : (p : Option Session) → A.now.peer ≡ p → session_if p A.now.session ≡ Some x
        → IsUpIn x A
    by_peer None down none = absurd cc
    by_peer (Some y) up some = record { session = cc; peer = y; up = up }

-- A WHOLE RUN WITH TRUNKS
module _ (shape : Shape) (P : List Step) (trunks : RunTrunks)
    (whole : IsBoundedTrunkRun shape P trunks) where
  run-sound : IsSoundRun shape P (links_of trunks)
  run-sound = (trunk_runs_keep_all shape P trunks whole).sound

  -- is legal
  pub run-legal : IsLegal shape P
  run-legal = run-sound.legal

  -- its sides are what its history tells
  pub run-linked : (l : LinkNo) → IsLinkOf shape l → (side : Side)
      → IsLinked P (node_at shape l side) l (kept_of side (trunks l.0))
  run-linked = run-sound.linked.linked

  -- whom a node reaches over a link is over one of the shape with a side on the node
  pub peer-end : (n : ℕ) (l : LinkNo) (x : Session) (b : Inc) → is_alive P n (There l x b) ≡ true
      → IsEndOf shape n l
  peer-end = living-reached shape P run-legal

  -- A SIDE OF A LINK. What is up at its node is its own session, if that has a peer
  module _ (l : LinkNo) (of_shape : IsLinkOf shape l) (side : Side) where
    pub up-of_side : up_session P (node_at shape l side) l.0 ≡ up_in (kept_of side (trunks l.0))
    up-of_side = (run-linked l of_shape side).up

    -- so the session that is up at a node is the one of its side, which is up
    pub up-own : (n : ℕ) → node_at shape l side ≡ n → (x : Session)
        → up_session P n l.0 ≡ Some x → IsUpIn x (kept_of side (trunks l.0))
    up-own n home x up =
        up-is (kept_of side (trunks l.0)) x
        (sym up-of_side ∙ ap (λ (k : ℕ). up_session P k l.0) home ∙ up)

    -- and a side that is up is so at its node
    pub own-up : (n : ℕ) → node_at shape l side ≡ n → (y : Session)
        → (kept_of side (trunks l.0)).now.peer ≡ Some y
        → up_session P n l.0 ≡ Some (kept_of side (trunks l.0)).now.session
    own-up n home y up =
        ap (λ (k : ℕ). up_session P k l.0) (sym home) ∙ up-of_side
        ∙ ap (λ p. session_if p (kept_of side (trunks l.0)).now.session) up

    -- its session is of the boot that its node is in
    pub own-boot : boot_of (kept_of side (trunks l.0)).now.session
        ≡ 1 + boots P (node_at shape l side)
    own-boot =
        ap boot_of (sym (run-linked l of_shape side).own)
        ∙ own_boot P (node_at shape l side) l.0 whole.fits
