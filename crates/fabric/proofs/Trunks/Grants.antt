-- What a fabric's trunks grant to an actor's step on its node.
use Rattle.std.proofs.Common.{◌≡◌, ℕ, ◌+◌, ◌<◌, ◌≤◌, Bool, true, false, List, [], length, Some}
use Rattle.std.proofs.Common.{get_or, refl, sym, ◌∙◌, ap, subst, arith, ◌==◌, ◌-◌, IsTrue, eqb-true}
use Rattle.linx_base.specs.NameText.{is_name}
use Rattle.linx_base.specs.Numbers.{boot_of}
use Rattle.linx_base.specs.declared.identity.Inc.{Inc}
use Rattle.linx_base.specs.declared.identity.LinkNo.{LinkNo}
use Rattle.linx_base.specs.declared.identity.NodeNo.{NodeNo}
use Rattle.linx_base.specs.declared.identity.Peer.{Peer}
use Rattle.linx_base.specs.declared.identity.Peer.TheVariants.{Here, There}
use Rattle.linx_base.specs.declared.identity.Session.{Session}
use Rattle.linx_base.specs.declared.identity.Side.{Side}
use Rattle.linx_base.specs.declared.identity.Side.TheVariants.{First, Second}
use Rattle.linx_base.specs.declared.name.Path.{Path}
use Rattle.linx_base.specs.declared.name.Path.TheVariants.{Local, Over}
use Rattle.linx_base.specs.SigNotes.{SigNote}
use Rattle.carrier.specs.Events.{half_of}
use Rattle.journal.specs.History.{endpoint_of, name_of, next_inc, opened_on}
use Rattle.journal.specs.Living.{is_alive}
use Rattle.journal.specs.Logs.{step_limit}
use Rattle.journal.specs.Shapes.{Shape, node_by}
use Rattle.journal.specs.declared.by.By.TheVariants.{Actor}
use Rattle.link_laws.specs.Ends.{node_at}
use Rattle.link_laws.specs.Sessions.{boots}
use Rattle.node_kernel.specs.Nodes.{NodeState, is_living, is_open}
use Rattle.run_trunks.specs.Changes.{AllGrant}
use Rattle.run_trunks.specs.States.{TrunksState, over, trunks_of}
use Rattle.trunk.specs.Events.{HasNumbersLeft, TrunkState, side_of}
use Rattle.trunk.specs.Laws.{MayPublish}
use Rattle.trunk_moves.specs.Trunks.{side_if, side_on}
use Rattle.trunk_moves.proofs.Peers.{peer-end}
use Rattle.fabric.specs.Asks.{FitsEvent}
use Rattle.fabric.specs.Fits.{HasSideOn, LeavesBy}
use Rattle.fabric.specs.Calls.{event_of_call, hand_of_call}
use Rattle.fabric.specs.declared.call.Call.{Call}
use Rattle.fabric.specs.declared.call.Call.TheVariants.{Attach, Close, Detach, End, Hunt, Send}
use Rattle.fabric.specs.Machine.{signal_in}
use Rattle.fabric.specs.Remains.{IsKept, Parts, node_left}
use Rattle.fabric.specs.Run.{Layout}
use Rattle.fabric.specs.Tellings.{HasSide, MaySendTo, MayTell, MayTellHunt, MayTellSend}
use Rattle.fabric.proofs.AfterStep.NodeOffTheLinks.{living-left}
use Rattle.fabric.proofs.Standings.KernelAndStanding.{Acts, own_kernel-is, own_open}
use Rattle.fabric.proofs.Methods.Runs.{grants-numbers, grants-side, whole-run}
use Rattle.fabric.proofs.Methods.Restarts.{boot-of}
use Rattle.fabric.proofs.Trunks.ToldOfCalls.{named-is, node-over, side-over, side-there}

-- a side that is on a node is at that node
side-at : (shape : Shape) (n : ℕ) (l : LinkNo) (side : Side) → side_on shape n l ≡ Some side
    → node_at shape l side ≡ n
side-at shape n l side is = go (node_at shape l First == n) (node_at shape l Second == n) refl
    refl is
  where
    go : (a b : Bool) → (node_at shape l First == n) ≡ a → (node_at shape l Second == n) ≡ b
        → side_if a b ≡ Some side → node_at shape l side ≡ n
    go true b first second e =
        let same : First ≡ side = cc in
        subst (λ (s : Side). node_at shape l s ≡ n) same
        (eqb-true (node_at shape l First) n first)
    go false true first second e =
        let same : Second ≡ side = cc in
        subst (λ (s : Side). node_at shape l s ≡ n) same
        (eqb-true (node_at shape l Second) n second)
    go false false first second e = cc

module _ (f : Layout) (parts : Parts) (kept : IsKept f parts) (room : length f.log.steps <
    step_limit)
  where
    open f use {log.{steps as P}}

    -- an opening, on each side of its node
    pub granted-open : (n : ℕ) (i : Inc) → i ≡ next_inc n (opened_on P n) → (name : List ℕ)
        → IsTrue (is_name name)
        → AllGrant f.shape.links n f.trunks (λ side t. MayPublish (side_of side t) i name)
    granted-open n i is name named l of_shape side on =
        let there : node_at f.shape l side ≡ n = sym (node-over f.shape l side) ∙ on in
        subst (λ (j : Inc). MayPublish (side_of side (trunks_of f.trunks l.0)) j name)
        (ap (λ (m : ℕ). next_inc m (opened_on P m)) there ∙ sym is)
        ((grants-side f parts kept room l of_shape side).opens name named)

    -- each side of a node has numbers left
    pub granted-numbers : (n : ℕ) → AllGrant f.shape.links n f.trunks HasNumbersLeft
    granted-numbers n l of_shape side on = (grants-numbers f parts kept room l of_shape side).frames

    -- a restart of a node, on each side of it
    pub granted-restart : (n : NodeNo) → 0 < n.0 → n.0 ≤ length f.log.names.nodes → (d boot : ℕ)
        → boot ≡ get_or parts.booted (n.0 - 1) d + 1
        → AllGrant f.shape.links n.0 f.trunks
        (λ side t. boot_of (half_of side t.link).end.talk.mine < boot)
    granted-restart n above below d boot is l of_shape side on =
        let there : node_at f.shape l side ≡ n.0 = sym (node-over f.shape l side) ∙ on in
        let was : get_or parts.booted (n.0 - 1) d ≡ 1 + boots P n.0 =
        boot-of kept n above below d in
        let same : boots P (node_at f.shape l side) ≡ boots P n.0 = ap (boots P) there in
        let earlier : boot_of (half_of side (trunks_of f.trunks l.0).link).end.talk.mine
        < 2 + boots P (node_at f.shape l side) =
        (grants-side f parts kept room l of_shape side).boots in
        omega (arith, is, was, same, earlier)

    -- a signal from an open endpoint of a node to a living peer over a link
    pub granted-send : (n : ℕ) (i : Inc) → is_alive P n (Here i) ≡ true → (l : LinkNo) (x : Session)
        (b : Inc) → is_alive P n (There l x b) ≡ true → (side : Side)
        → side_on (over f.shape.links) n l ≡ Some side
        → MaySendTo (trunks_of f.trunks l.0) side i (name_of P i) b
    granted-send n i open_it l x b lives side on =
        let ended = peer-end f.shape P (trunks_of f.trunks) (whole-run f parts kept) n l x b
        lives in
        let there : node_at f.shape l side ≡ n =
        side-at f.shape n l side (sym (side-over f.shape n l) ∙ on) in
        let note : SigNote = record { number = 0; bytes = [] } in
        let may = (grants-side f parts kept room l ended.0 side).sends i x b note
        (subst (λ (m : ℕ). is_alive P m (Here i) ≡ true) (sym there) open_it)
        (subst (λ (m : ℕ). is_alive P m (There l x b) ≡ true) (sym there) lives)
        (record { number_fits = omega arith; data_fit = omega arith }) in
        record {
          sender = may.sender;
          receiver = may.receiver;
          numbers = (grants-numbers f parts kept room l ended.0 side).frames;
        }

-- WHAT AN ACTOR'S CALL may tell the trunks
module _ {f : Layout} {parts : Parts} {actor place home : ℕ} (acts : Acts f parts actor place home)
    (j : Inc) (mine : endpoint_of f.log.steps actor ≡ Some j) (kernel : NodeState)
    (is : kernel ≡ get_or parts.kernels home kernel) (was : List TrunkState) where
  open f use {log.{steps as Q}}

  abbrev n : ℕ
  n = node_by f.shape (Actor actor)

  abbrev node : NodeNo
  node = record { 0 = n }

  -- the trunks, whatever they were when the event began
  abbrev pub at_rest : TrunksState
  at_rest = record { links = f.shape.links; was = was; is = f.trunks }

  left : kernel ≡ node_left Q node
  left = own_kernel-is acts.at kernel is

  node-is : kernel.node.0 ≡ n
  node-is = ap (λ (k : NodeState). k.node.0) left

  open_it : is_open kernel.endpoints j ≡ true
  open_it = own_open acts.at kernel is j mine

  -- a link with a side on the node
  has-side : (l : LinkNo) → HasSideOn f.shape n l → HasSide f.shape.links kernel.node.0 l
  has-side l has =
      let side = side-there f.shape n l has in (
        has.of_shape,
        rw (node-is, side-over f.shape n l, side.1.0) refl,
      )

  may-send : (q : Peer) (alive : Bool) → is_living kernel q ≡ alive
      → MayTellSend at_rest kernel j alive q
  may-send (Here i) true lives = tt
  may-send (Here i) false lives = tt
  may-send (There l x b) false lives = tt
  may-send (There l x b) true lives =
      let alive : is_alive Q n (There l x b) ≡ true =
      sym (living-left Q node (There l x b))
      ∙ ap (λ (k : NodeState). is_living k (There l x b)) (sym left) ∙ lives in
      let ended = peer-end f.shape Q (trunks_of f.trunks) (whole-run f parts acts.at.kept) n l x b
      alive in
      let mine_open : is_alive Q n (Here j) ≡ true =
      sym (living-left Q node (Here j))
      ∙ ap (λ (k : NodeState). is_living k (Here j)) (sym left) ∙ open_it in (
        has-side l (record { of_shape = ended.0; at = ended.1.0; node_is = ended.1.1 }),
        λ side on. rw (named-is Q node kernel left j open_it)
            (granted-send f parts acts.at.kept acts.short n j mine_open l x b alive side
            (rw (node-is) at on)),
      )

  may-hunt : (path : Path) → LeavesBy f.shape n path → MayTellHunt at_rest kernel path
  may-hunt (Local v) leaves = tt
  may-hunt (Over l v) leaves = (
    has-side l leaves,
    λ side on. (grants-numbers f parts acts.at.kept acts.short l leaves.of_shape side).frames,
  )

  pub may-tell : (call : Call) → FitsEvent f n (event_of_call call) (signal_in (hand_of_call call))
      → MayTell at_rest kernel j call
  may-tell Close fits = granted-numbers f parts acts.at.kept acts.short kernel.node.0
  may-tell End fits = granted-numbers f parts acts.at.kept acts.short kernel.node.0
  may-tell (Send q signal) fits = may-send q (is_living kernel q) refl
  may-tell (Hunt path signal) fits = may-hunt path fits
  may-tell (Attach q signal) fits = tt
  may-tell (Detach r) fits = tt
