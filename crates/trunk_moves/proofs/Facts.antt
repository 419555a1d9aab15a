-- What a run so far tells of the endpoints, names and sessions that its next step hands to trunks:
-- that they may be handed there.
use Rattle.std.proofs.Common.{◌≡◌, ◌≤◌, ◌<◌, ◌+◌, ℕ, suc, Bool, true, false, cond, inl, inr, List}
use Rattle.std.proofs.Common.{[], ◌∷◌, ◌++◌, Option, Some, None, length, refl, sym, ◌∙◌, ap, subst}
use Rattle.std.proofs.Common.{arith, ◌==◌, ◌||◌, not, IsTrue, filter_map, eqb-true, true≢false}
use Rattle.std.specs.List.{list_any, AllByRecursion}
use Rattle.std.proofs.lemmas.Bool.{false_from_ne_true, or_cases}
use Rattle.std.proofs.lemmas.List.Elements.{filter_map-append}
use Rattle.std.proofs.lemmas.List.Folds.{list_any-append}
use Rattle.linx_base.specs.NameText.{is_name}
use Rattle.linx_base.specs.Numbers.{boot_of, is_on, node_of}
use Rattle.linx_base.specs.Peers.{same_inc}
use Rattle.linx_base.specs.declared.identity.Inc.{Inc}
use Rattle.linx_base.specs.declared.identity.LinkNo.{LinkNo}
use Rattle.linx_base.specs.declared.identity.Peer.{Peer}
use Rattle.linx_base.specs.declared.identity.Peer.TheVariants.{Here, There}
use Rattle.linx_base.specs.declared.identity.Session.{Session}
use Rattle.linx_base.specs.declared.identity.Side.{Side}
use Rattle.linx_base.specs.declared.name.Path.{Path}
use Rattle.linx_base.specs.declared.name.Path.TheVariants.{Local, Over}
use Rattle.linx_base.specs.declared.pending.PendingHunt.{PendingHunt}
use Rattle.trunk_record.specs.Records.{SideRecord}
use Rattle.trunk_record.specs.Sayings.{is_live, was_unpublished}
use Rattle.trunk_record.proofs.Sayings.{live-published, same_inc-itself}
use Rattle.journal.specs.Effects.{send_answer}
use Rattle.journal.specs.History.{effects_of, endpoint_by, name_in, name_of, name_or_none}
use Rattle.journal.specs.History.{opened_in, openings, opening_name, opens}
use Rattle.journal.specs.Laws.{IsBounded, is_opening, name_of_path}
use Rattle.journal.specs.Living.{is_alive}
use Rattle.journal.specs.Logs.{step_limit}
use Rattle.journal.specs.Pending.{ends_hunt, hunt_in, hunting}
use Rattle.journal.specs.Shapes.{Shape, node_by}
use Rattle.journal.specs.declared.effect.Step.{Step}
use Rattle.journal.specs.declared.head.Head.{Head}
use Rattle.journal.specs.declared.head.Head.TheVariants.{Hunt, Open}
use Rattle.journal.specs.declared.head.SentTo.TheVariants.{Link}
use Rattle.journal.proofs.Lists.{all-append, all-filter}
use Rattle.journal.proofs.Openings.{IsShort, next_on}
use Rattle.carrier.specs.Events.{half_of}
use Rattle.link_laws.proofs.Moves.Restarts.{few-downs}
use Rattle.link_laws.specs.Brought.{was_opened}
use Rattle.link_laws.specs.Ends.{HasTwoEnds, IsLinkOf, node_at}
use Rattle.link_laws.specs.Laws.{IsLegal}
use Rattle.link_laws.specs.Fits.{CanSend}
use Rattle.link_laws.specs.Linked.{IsLinked}
use Rattle.link_laws.specs.Runs.{IsRun, IsSoundRun}
use Rattle.link_laws.specs.Sessions.{boots, own_session}
use Rattle.link_laws.proofs.Sides.Brings.{published-opened, unpublished-closed}
use Rattle.link_laws.proofs.Endpoints.Fresh.{opens-new, step-opens}
use Rattle.link_laws.proofs.Peers.Living.{alive-known, open-not_unpublished}
use Rattle.link_laws.proofs.Endpoints.OpenAfterStep.{both_true, open-on, open-opened, opened-any}
use Rattle.link_laws.proofs.Endpoints.Places.{opened_on-few}
use Rattle.trunk.specs.Events.{TrunkState, kept_of, side_of}
use Rattle.trunk.specs.Laws.{MayPublish}
use Rattle.trunk.proofs.EachEvent.Trunks.{agree}
use Rattle.trunk_moves.specs.Grants.{AreNames}
use Rattle.linx_base.specs.Pending.{name_over}
use Rattle.trunk_moves.specs.Packets.{names_hunted}
use Rattle.trunk_moves.specs.Trunks.{AllKept, AllUseUpTo, NodesFit, RunTrunks, links_of}
use Rattle.trunk_moves.proofs.Told.{with_name}

-- what is known before a step
pub record IsKnown (shape : Shape) (P : List Step) (trunks : RunTrunks) : Type 0 where
  pub two : HasTwoEnds shape
  pub nodes : NodesFit shape
  pub room : length P < step_limit
  pub run : IsRun shape P (links_of trunks)
  pub sound : IsSoundRun shape P (links_of trunks)
  pub kept : AllKept shape trunks
  pub used : AllUseUpTo shape (length P) trunks

-- ---- names

-- what opens an endpoint has its name
opens_named : (head : Head) → is_opening head ≡ true → IsBounded head
    → IsTrue (is_name (name_or_none (name_in head)))
opens_named (Open name) is bounded = bounded
opens_named head is bounded = absurd cc

-- an opened endpoint has a name
pub opened_named : (shape : Shape) (P : List Step) → IsLegal shape P → (i : Inc)
    → list_any (same_inc i) (openings P) ≡ true → IsTrue (is_name (name_of P i))
opened_named shape [] legal i is = absurd cc
opened_named shape (s ∷ P) legal i is =
    by_test (list_any (opens i) s.effects) refl (opened_named shape P legal.0 i)
  where
    among : (list_any (same_inc i) (openings P)
        || list_any (same_inc i) (filter_map opened_in s.effects)) ≡ true
    among = sym (list_any-append (same_inc i) (openings P) (filter_map opened_in s.effects))
        ∙ sym (ap (list_any (same_inc i)) (filter_map-append opened_in (effects_of P) s.effects))
        ∙ is

    by_opening : (t : Bool) → is_opening s.head ≡ t → list_any (opens i) s.effects ≡ true
        → IsTrue (is_name (name_or_none (name_in s.head)))
    by_opening true opening here = opens_named s.head opening legal.1.nodes.bounds
    by_opening false none here =
        let nothing : list_any (opens i) s.effects ≡ false = sym (opened-any i s.effects)
        ∙ ap (list_any (same_inc i)) (step-opens shape P s legal.1
        ∙ ap (λ (t : Bool). cond t (next_on P (node_by shape s.by) ∷ []) []) none) in
        absurd cc

    by_test : (t : Bool) → list_any (opens i) s.effects ≡ t
        → (list_any (same_inc i) (openings P) ≡ true → IsTrue (is_name (name_of P i)))
        → IsTrue (is_name (name_or_none (cond t (name_in s.head) (opening_name P i))))
    by_test true here rest = by_opening (is_opening s.head) refl here
    by_test false elsewhere rest =
        elim (or_cases (list_any (same_inc i) (openings P))
        (list_any (same_inc i) (filter_map opened_in s.effects)) among) [
          | inl was ↦ rest was
          | inr new ↦
              let not_here : list_any (same_inc i) (filter_map opened_in s.effects) ≡ false =
              opened-any i s.effects ∙ elsewhere in
              absurd cc
        ]

-- a hunt is for a name
abbrev IsNamed : PendingHunt → Type 0
IsNamed h = IsTrue (is_name (name_of_path h.path))

-- what a legal step hunts for is one
hunt_named : (node k : ℕ) (me : Option Inc) (head : Head) → IsBounded head
    → AllByRecursion IsNamed (hunt_in node k me head)
hunt_named node k None (Hunt path note) bounded = tt
hunt_named node k (Some j) (Hunt path note) bounded = by_node (is_on node j)
  where
    by_node : (t : Bool) → AllByRecursion IsNamed
        (cond t ((record { at = j; path = path; signal = note; number = k }) ∷ []) [])
    by_node true = (bounded.0, tt)
    by_node false = tt
hunt_named node k me head bounded = tt

-- so each pending hunt is for a name
hunts_named : (shape : Shape) (P : List Step) → IsLegal shape P → (n : ℕ)
    → AllByRecursion IsNamed (hunting P n)
hunts_named shape [] legal n = tt
hunts_named shape (s ∷ P) legal n =
    all-filter IsNamed (λ h. not (ends_hunt s.effects h))
    (hunting P n ++ hunt_in n (suc (length P)) (endpoint_by P s.by) s.head)
    (all-append IsNamed (hunting P n)
    (hunt_in n (suc (length P)) (endpoint_by P s.by) s.head) (hunts_named shape P legal.0 n)
    (hunt_named n (suc (length P)) (endpoint_by P s.by) s.head legal.1.nodes.bounds))

-- and the names that a side asks for when it went up are names
paths_named : (l : LinkNo) (hunts : List PendingHunt) → AllByRecursion IsNamed hunts
    → AreNames (filter_map (λ (h : PendingHunt). name_over l h.path) hunts)
paths_named l [] all = tt
paths_named l (h ∷ hunts) all = by_path h.path all.0 (paths_named l hunts all.1)
  where
    over : (v : List ℕ) (t : Bool) → IsTrue (is_name v)
        → AreNames (filter_map (λ (k : PendingHunt). name_over l k.path) hunts)
        → AreNames (with_name (cond t (Some v) None)
        (filter_map (λ (k : PendingHunt). name_over l k.path) hunts))
    over v true named rest = (named, rest)
    over v false named rest = rest

    by_path : (path : Path) → IsTrue (is_name (name_of_path path))
        → AreNames (filter_map (λ (k : PendingHunt). name_over l k.path) hunts)
        → AreNames (with_name (name_over l path)
        (filter_map (λ (k : PendingHunt). name_over l k.path) hunts))
    by_path (Local v) named rest = rest
    by_path (Over m v) named rest = over v (m.0 == l.0) named rest

pub hunted_named : (shape : Shape) (P : List Step) → IsLegal shape P → (n : ℕ) (l : LinkNo)
    → AreNames (names_hunted P n l)
hunted_named shape P legal n l = paths_named l (hunting P n) (hunts_named shape P legal n)

-- ---- boots

-- the boot of the side's own session is one more than the restarts so far
pub own_boot : (P : List Step) (n l : ℕ) → length P ≤ step_limit
    → boot_of (own_session P n l) ≡ 1 + boots P n
own_boot P n l room = let few = few-downs P n l in omega arith

-- ---- a side of a link of the shape, on node n

module _ (shape : Shape) (P : List Step) (trunks : RunTrunks) (known : IsKnown shape P trunks)
    (l : LinkNo) (of_shape : IsLinkOf shape l) (at : Side) (n : ℕ)
    (on_node : (node_at shape l at == n) ≡ true) where
  abbrev t : TrunkState
  t = trunks l.0

  abbrev A : SideRecord
  A = kept_of at (trunks l.0)

  home : node_at shape l at ≡ n
  home = eqb-true (node_at shape l at) n on_node

  fits : n < 4294967296
  fits = subst (λ (k : ℕ). k < 4294967296) home (known.nodes l of_shape at)

  pub short : IsShort P
  short = let room = known.room in omega arith

  linked : IsLinked P n l A
  linked = subst (λ (k : ℕ). IsLinked P k l A) home (known.sound.linked.linked l of_shape at)

  -- the next endpoint that opens on the node was neither published nor unpublished
  not_opened : list_any (same_inc (next_on P n)) (openings P) ≡ true → ⊥
  not_opened was =
      let off = opens-new shape P known.sound.legal short n (next_on P n) was in
      let itself = same_inc-itself (next_on P n) in
      true≢false (ap (λ b. b || false) (sym itself) ∙ off)

  was_there : (i : Inc) → was_opened P n i ≡ true → list_any (same_inc i) (openings P) ≡ true
  was_there i was = (both_true (is_on n i) (list_any (same_inc i) (openings P)) was).1

  pub new_not_live : is_live (next_on P n) A.now.said ≡ false
  new_not_live = false_from_ne_true (is_live (next_on P n) A.now.said) (λ live.
      not_opened (was_there (next_on P n) (published-opened P n (next_on P n) A.now.said
      linked.truly.0 (live-published (next_on P n) A.now.said live))))

  pub new_may : (name : List ℕ) → IsTrue (is_name name)
      → MayPublish (side_of at t) (next_on P n) name
  new_may name named = record {
    has_address =
        let used = known.used l of_shape at in
        let room = known.room in
        omega arith;
    numbered =
        let few = opened_on-few shape P known.sound.legal n in
        let room = known.room in
        let node = fits in
        omega arith;
    named = named;
    goes_on = false_from_ne_true (was_unpublished (next_on P n) A.now.said) (λ was.
        not_opened (was_there (next_on P n) (unpublished-closed P n (next_on P n) A.now.said
        linked.truly.0 was).opened));
  }

  -- an open endpoint of the node may be published
  pub open_may : (i : Inc) → is_alive P n (Here i) ≡ true
      → MayPublish (side_of at t) i (name_of P i)
  open_may i alive = record {
    has_address =
        let used = known.used l of_shape at in
        let room = known.room in
        omega arith;
    numbered =
        let on : node_of i ≡ n = eqb-true (node_of i) n (open-on P n i alive) in
        let node = fits in
        omega arith;
    named = opened_named shape P known.sound.legal i
        (was_there i (open-opened P n i alive));
    goes_on = open-not_unpublished P n l A linked i alive;
  }

  -- it boots later than its present session
  pub boots_later : boot_of (half_of at t.link).end.talk.mine < 2 + boots P n
  boots_later =
      let mine : (half_of at t.link).end.talk.mine ≡ own_session P n l.0 =
      (agree at t (known.kept l of_shape)).session ∙ sym linked.own in
      let room = known.room in
      let boot = ap boot_of mine ∙ own_boot P n l.0 (omega arith) in
      omega arith

  -- a peer over the link that is alive can be sent to
  pub peer_sent : (x : Session) (b : Inc) → is_alive P n (There l x b) ≡ true → CanSend A x b
  peer_sent x b lives = alive-known P n l A linked x b lives

-- a send that is answered by a link has a living peer
pub sent_lives : (alive : Bool) (q : Peer) → Link ≡ send_answer alive q → alive ≡ true
sent_lives true q is = refl
sent_lives false q is = absurd cc
