-- A LINK IS STILL, as what is known at its ends tells it, exactly where the law says so.
use Rattle.std.proofs.Common.{◌≡◌, ℕ, ◌<◌, Bool, true, false, not, ◌&&◌, ◌||◌, ◌==◌, List, [], ◌∷◌}
use Rattle.std.proofs.Common.{◌++◌, length, filter, Option, Some, None, is_some, inl, inr, ◌⊎◌}
use Rattle.std.proofs.Common.{slice_get, refl, sym, ◌∙◌, ap, subst, fold, bytes_eq, eq-eqb}
use Rattle.std.proofs.Common.{eqb-true, true≢false, if◌then◌else◌}
use Rattle.std.specs.List.{list_any, AllByRecursion}
use Rattle.std.proofs.lemmas.Bool.{and_parts, or_cases, or_left, or_right, not-true}
use Rattle.std.proofs.lemmas.Bool.{false_from_ne_true}
use Rattle.std.proofs.lemmas.List.Folds.{list_any-append}
use Rattle.linx_base.specs.Peers.{same_inc, same_path, same_peer}
use Rattle.linx_base.specs.Pending.{is_for, is_of_session, name_over}
use Rattle.linx_base.specs.Sides.{other_of}
use Rattle.linx_base.specs.SigNotes.{SigNote}
use Rattle.linx_base.specs.declared.identity.Inc.{Inc}
use Rattle.linx_base.specs.declared.identity.LinkNo.{LinkNo}
use Rattle.linx_base.specs.declared.identity.NodeNo.{NodeNo}
use Rattle.linx_base.specs.declared.identity.Peer.{Peer}
use Rattle.linx_base.specs.declared.identity.Peer.TheVariants.{Here, There}
use Rattle.linx_base.specs.declared.identity.Session.{Session}
use Rattle.linx_base.specs.declared.identity.Side.{Side}
use Rattle.linx_base.specs.declared.name.Path.{Path}
use Rattle.linx_base.specs.declared.name.Path.TheVariants.{Local, Over}
use Rattle.linx_base.specs.declared.pending.MetPeer.{MetPeer}
use Rattle.linx_base.specs.declared.pending.PendingHunt.{PendingHunt}
use Rattle.journal.specs.declared.effect.Effect.{Effect}
use Rattle.journal.specs.declared.effect.Effect.TheVariants as effects
use Rattle.journal.specs.declared.effect.Step.{Step}
use Rattle.journal.specs.History.{effects_of, name_of, open_endpoints}
use Rattle.journal.specs.Living.{is_alive, is_met, living, living_after}
use Rattle.journal.specs.Pending.{hunting}
use Rattle.journal.specs.Sessions.{up_session}
use Rattle.journal.specs.Traffic.{arrived_from, sent_to}
use Rattle.link_laws.specs.Brought.{meets_peer, was_met}
use Rattle.link_laws.specs.Sessions.{paired_session}
use Rattle.link_laws.specs.Still.{AllGot, HuntsAnswered, IsStillHalf, PeersOpen, is_open_there}
use Rattle.node_kernel.specs.Nodes.{NodeState, first_named, is_living, is_open}
use Rattle.link_tables.specs.Arrivals.{count_in, counts_left}
use Rattle.link_tables.specs.Marks.{is_meeting_in, is_meeting_of, marks_left}
use Rattle.link_tables.specs.Sent.{flows_of, is_in, sent_left}
use Rattle.link_tables.specs.Sides.{up_pair}
use Rattle.link_tables.specs.declared.marks.Mark.{Mark}
use Rattle.link_tables.specs.declared.marks.Mark.TheVariants.{Closed, Met, Opened}
use Rattle.link_tables.specs.declared.sent.Flow.{Flow}
use Rattle.link_tables.proofs.Marked.{met-told}
use Rattle.link_check.specs.Deliveries.{Known, flow_of, is_session, is_to_come, known_left}
use Rattle.link_check.specs.Deliveries.{next_sent}
use Rattle.link_check.specs.Orderly.{IsOrderly, TellsAlive, TellsNames}
use Rattle.link_check.specs.Stillness.{any_findable, any_left_over, any_under_way, is_findable}
use Rattle.link_check.specs.Rest.{IsSettledHalf}
use Rattle.link_check.specs.Stillness.{is_left_over, is_open_name, is_still_half, is_stirred}
use Rattle.link_check.specs.Stillness.{is_under_way}
use Rattle.link_check.specs.declared.rest.Stir.{Stir}
use Rattle.link_check.specs.declared.rest.Stir.TheVariants.{Sent, Doubted, Hunted, Offered}
use Rattle.link_check.proofs.Deliveries.{next-same, pair-is}
use Rattle.link_check.proofs.Fronts.{all-behind, front-all}
use Rattle.link_check.proofs.Off.{and-false}
use Rattle.link_check.proofs.Ones.{One, any-both, any-kept, any-one, none-filtered}
use Rattle.link_check.proofs.Sendings.{among, each-all, noted-flow}
use Rattle.link_check.proofs.Tests.{both, bytes-is, inc-is, inc-same, is-bytes, link-is, session-is}
use Rattle.link_check.proofs.Tests.{session-up, up-session}

-- WHO LIVES over a link was met
module _ (node : ℕ) (q : Peer) where
  met-after : (e : Effect) (before : List MetPeer) → is_met (living_after node before e) q ≡ true
      → (is_met before q ≡ true) ⊎ (meets_peer node q e ≡ true)
  met-after (effects.Met n p name) before is = go (n.0 == node) is
    where
      go : (b : Bool)
          → is_met (if b then before ++ (record { peer = p; name = name }) ∷ [] else before) q ≡ true
          → (is_met before q ≡ true) ⊎ ((b && same_peer q p) ≡ true)
      go true more =
          elim (or_cases (is_met before q) (same_peer q p || false)
          (sym (list_any-append (λ (m : MetPeer). same_peer q m.peer) before
          ((record { peer = p; name = name }) ∷ [])) ∙ more)) [
            | inl e ↦ inl e
            | inr e ↦ inr (elim (or_cases (same_peer q p) false e) [
              | inl f ↦ f
              | inr f ↦ absurd (true≢false (sym f))
            ])
          ]
      go false same = inl same
  met-after (effects.Gone n p) before is = go (n.0 == node) is
    where
      go : (b : Bool)
          → is_met (if b then filter (λ (m : MetPeer). not (same_peer p m.peer)) before
          else before) q ≡ true
          → (is_met before q ≡ true) ⊎ (false ≡ true)
      go true fewer =
          inl (any-kept (λ (m : MetPeer). same_peer q m.peer) (λ m. not (same_peer p m.peer)) before
          fewer)
      go false same = inl same
  met-after (effects.Down n l x) before is = go (n.0 == node) is
    where
      go : (b : Bool)
          → is_met (if b then filter (λ (m : MetPeer). not (is_of_session l x m.peer)) before
          else before) q ≡ true
          → (is_met before q ≡ true) ⊎ (false ≡ true)
      go true fewer =
          inl (any-kept (λ (m : MetPeer). same_peer q m.peer) (λ m. not (is_of_session l x m.peer))
          before fewer)
      go false same = inl same
  met-after _ before is = inl is

  pub met-past : (es : List Effect) (before : List MetPeer)
      → is_met (fold (living_after node) before es) q ≡ true
      → (is_met before q ≡ true) ⊎ (list_any (meets_peer node q) es ≡ true)
  met-past [] before is = inl is
  met-past (e ∷ es) before is =
      elim (met-past es (living_after node before e) is) [
        | inl now ↦ elim (met-after e before now) [
          | inl was ↦ inl was
          | inr met ↦ inr (or_left (meets_peer node q e) (list_any (meets_peer node q) es) met)
        ]
        | inr met ↦ inr (or_right (meets_peer node q e) (list_any (meets_peer node q) es) met)
      ]

  pub living-met : (P : List Step) → is_met (living P node) q ≡ true → was_met P node q ≡ true
  living-met [] is = absurd (true≢false (sym is))
  living-met (s ∷ P) is =
      list_any-append (meets_peer node q) (effects_of P) s.effects
      ∙ elim (met-past s.effects (living P node) is) [
        | inl was ↦ or_left (list_any (meets_peer node q) (effects_of P))
            (list_any (meets_peer node q) s.effects) (living-met P was)
        | inr met ↦ or_right (list_any (meets_peer node q) (effects_of P))
            (list_any (meets_peer node q) s.effects) met
      ]

same-peer : (q : Peer) → same_peer q q ≡ true
same-peer (Here i) = inc-same i
same-peer (There l x i) =
    both (l.0 == l.0 && x.0 == x.0) (same_inc i i)
    (both (l.0 == l.0) (x.0 == x.0) (eq-eqb l.0 l.0 refl) (eq-eqb x.0 x.0 refl)) (inc-same i)

-- what holds of each that is among met peers holds of all
pub each-met : (Q : Peer → Type 0) (met : List MetPeer) → ((q : Peer) → is_met met q ≡ true → Q q)
    → AllByRecursion (λ (p : MetPeer). Q p.peer) met
each-met Q [] each = tt
each-met Q (p ∷ met) each = (
  each p.peer (or_left (same_peer p.peer p.peer) (is_met met p.peer) (same-peer p.peer)),
  each-met Q met (λ q is. each q (or_right (same_peer q p.peer) (is_met met q) is)),
)

and-rest : (a b : Bool) → a ≡ true → (a && b) ≡ false → b ≡ false
and-rest true b is none = none
and-rest false b is none = absurd (true≢false (sym is))

no-test : (b : Bool) → not b ≡ true → b ≡ true → ⊥
no-test true is on = true≢false (sym is)
no-test false is on = true≢false (sym on)

-- one who lives is open where all are
module _ (P : List Step) (m : ℕ) (l : LinkNo) (x : Session) where
  pub open-among : (i : Inc) (met : List MetPeer)
      → AllByRecursion (λ (p : MetPeer). is_open_there P m l p.peer ≡ true) met
      → is_met met (There l x i) ≡ true → is_alive P m (Here i) ≡ true
  open-among i [] all is = absurd (true≢false (sym is))
  open-among i (p ∷ met) all is =
      elim (or_cases (same_peer (There l x i) p.peer) (is_met met (There l x i)) is) [
        | inl same ↦ this p.peer same all.0
        | inr rest ↦ open-among i met all.1 rest
      ]
    where
      this : (q : Peer) → same_peer (There l x i) q ≡ true → is_open_there P m l q ≡ true → is_alive P m (Here i) ≡ true
      this (Here j) same open_ = absurd (true≢false (sym same))
      this (There k z j) same open_ =
          let parts = and_parts (l.0 == k.0 && x.0 == z.0) (same_inc i j) same in
          let others = and_parts (l.0 == k.0) (x.0 == z.0) parts.0 in
          let flip : (k.0 == l.0) ≡ true = eq-eqb k.0 l.0 (sym (eqb-true l.0 k.0 others.0)) in
          subst (λ (v : Inc). is_alive P m (Here v) ≡ true) (sym (inc-is i j parts.1))
          (elim (or_cases (not (k.0 == l.0)) (is_alive P m (Here j)) open_) [
            | inl off ↦ absurd (no-test (k.0 == l.0) off flip)
            | inr on ↦ on
          ])

module _ (P : List Step) (near far : NodeState) (at other : NodeNo) (l : LinkNo) (side : Side)
    (arrived : List (Flow × ℕ)) (counted : (f : Flow) → count_in arrived f ≡ counts_left P f)
    (short : length P < 4294967294) (tells : TellsAlive P at.0 l near)
    (orderly : IsOrderly P at.0 l) (across : TellsAlive P other.0 l far)
    (names : TellsNames P other.0 far) (hunts : near.hunts ≡ hunting P at.0)
    (x y : Session) (up : up_session P at.0 l.0 ≡ Some x) where
  abbrev n : ℕ
  n = at.0

  abbrev m : ℕ
  m = other.0

  abbrev d : Known
  d = known_left P near at other l side arrived

  abbrev e : Known
  e = known_left P far other at l (other_of side) arrived

  -- SIGNALS
  abbrev HasGot : Inc → Inc → Type 0
  HasGot a b = arrived_from P b (There l x a) ≡ sent_to P a (There l y b)

  next-is : (a b : Inc) → next_sent d x y a b
      ≡ slice_get (sent_to P a (There l y b)) (length (arrived_from P b (There l x a)))
  next-is = next-same P near at other l side arrived counted short tells orderly x y

  looked-at : (a b : Inc) → is_alive P m (Here a) ≡ true → is_alive P n (Here b) ≡ true
      → (note : SigNote) → next_sent d x y a b ≡ Some note
      → (is_in l y (flow_of a l y b) && is_under_way d e x (flow_of a l y b)) ≡ true
  looked-at a b sender receiver note is =
      both (l.0 == l.0 && y.0 == y.0) ((is_some (next_sent d x y a b)
      && is_open near.endpoints b) && is_open far.endpoints a)
      (both (l.0 == l.0) (y.0 == y.0) (eq-eqb l.0 l.0 refl) (eq-eqb y.0 y.0 refl))
      (both (is_some (next_sent d x y a b) && is_open near.endpoints b)
      (is_open far.endpoints a)
      (both (is_some (next_sent d x y a b)) (is_open near.endpoints b)
      (ap (λ (o : Option SigNote). is_some o) is) (tells.here b ∙ receiver))
      (across.here a ∙ sender))

  got-of : paired_session P n l.0 x ≡ Some y → any_under_way d e x y ≡ false → (a : Inc)
      → is_alive P m (Here a) ≡ true → (b : Inc) → is_alive P n (Here b) ≡ true → HasGot a b
  got-of paired none a sender b receiver = go (next_sent d x y a b) refl
    where
      go : (o : Option SigNote) → next_sent d x y a b ≡ o → HasGot a b
      go None is =
          front-all (arrived_from P b (There l x a)) (sent_to P a (There l y b))
          (orderly.fronts x y up paired a b receiver) (sym (next-is a b) ∙ is)
      go (Some note) is =
          absurd (true≢false (sym (noted-flow (flow_of a l y b) (is_under_way d e x) (is_in l y)
          (looked-at a b sender receiver note is) (count_in arrived (flow_of b l x a)) note
          (sent_left P) is) ∙ none))

  all-got : paired_session P n l.0 x ≡ Some y → any_under_way d e x y ≡ false
      → AllGot P n m l x y
  all-got paired none =
      each-all (λ (a : Inc). AllByRecursion (HasGot a) (open_endpoints P n)) (open_endpoints P m)
      (λ a sender. each-all (HasGot a) (open_endpoints P n)
      (λ b receiver. got-of paired none a sender b receiver))

  under-way : AllGot P n m l x y → (f : Flow) → is_in l y f ≡ true → is_under_way d e x f ≡ true
      → ⊥
  under-way all f over due =
      let one = and_parts (l.0 == f.link.0) (y.0 == f.session.0) over in
      let two = and_parts (is_to_come d x f) (is_open far.endpoints f.at) due in
      let three = and_parts (is_some (next_sent d x f.session f.at f.peer))
      (is_open near.endpoints f.peer) two.0 in
      let a : Inc = f.at in
      let b : Inc = f.peer in
      let there : is_some (next_sent d x y a b) ≡ true =
      subst (λ (z : Session). is_some (next_sent d x z a b) ≡ true)
      (sym (session-is y f.session one.1)) three.0 in
      let of_a : AllByRecursion (HasGot a) (open_endpoints P n) =
      among (λ (i : Inc). AllByRecursion (HasGot i) (open_endpoints P n)) a (open_endpoints P m) all
      (sym (across.here a) ∙ two.1) in
      let got : HasGot a b =
      among (HasGot a) b (open_endpoints P n) of_a (sym (tells.here b) ∙ three.1) in
      let none : next_sent d x y a b ≡ None =
      next-is a b
      ∙ ap (λ (notes : List SigNote). slice_get (sent_to P a (There l y b)) (length notes)) got
      ∙ all-behind (sent_to P a (There l y b)) in
      true≢false (sym there ∙ ap (λ (o : Option SigNote). is_some o) none)

  got-all : AllGot P n m l x y → any_under_way d e x y ≡ false
  got-all all =
      none-filtered (is_under_way d e x) (is_in l y) (flows_of (sent_left P)) (under-way all)

  -- PEERS
  abbrev IsOpen : Peer → Type 0
  IsOpen q = is_open_there P m l q ≡ true

  -- a meeting with one who lives and isn't open is looked at
  left-over : (i : Inc) → is_living near (There l x i) ≡ true → is_open far.endpoints i ≡ false
      → (mark : Mark) → is_meeting_of n (There l x i) mark ≡ true
      → (is_meeting_in at l x mark && is_left_over d e mark) ≡ true
  left-over i lives closed (Opened j name) is = absurd (true≢false (sym is))
  left-over i lives closed (Closed j) is = absurd (true≢false (sym is))
  left-over i lives closed (Met node link session j) is =
      let halves = and_parts (node.0 == n) (same_peer (There l x i) (There link session j)) is in
      let parts = and_parts (l.0 == link.0 && x.0 == session.0) (same_inc i j) halves.1 in
      let others = and_parts (l.0 == link.0) (x.0 == session.0) parts.0 in
      let peer : i ≡ j = inc-is i j parts.1 in
      let same_link : l ≡ link = link-is l link others.0 in
      let same_session : x ≡ session = session-is x session others.1 in
      let same_node : n ≡ node.0 = sym (eqb-true node.0 n halves.0) in
      both (is_meeting_in at l x (Met node link session j)) (is_left_over d e
      (Met node link session j))
      (both (n == node.0) (l.0 == link.0 && x.0 == session.0) (eq-eqb n node.0 same_node) parts.0)
      (both (is_living near (There link session j)) (not (is_open far.endpoints j))
      (subst (λ (q : LinkNo). is_living near (There q session j) ≡ true) same_link
      (subst (λ (z : Session). is_living near (There l z j) ≡ true) same_session
      (subst (λ (k : Inc). is_living near (There l x k) ≡ true) peer lives)))
      (ap not (subst (λ (k : Inc). is_open far.endpoints k ≡ false) peer closed)))

  open-of : any_left_over d e x ≡ false → (q : Peer) → is_met (living P n) q ≡ true → IsOpen q
  open-of none (Here i) is = refl
  open-of none (There k z i) is = go (k.0 == l.0) refl
    where
      here : k ≡ l → is_alive P m (Here i) ≡ true
      here same =
          let met : is_met (living P n) (There l z i) ≡ true =
          subst (λ (h : LinkNo). is_met (living P n) (There h z i) ≡ true) same is in
          let is_x : (let o : Option Session = Some x in o) ≡ Some z =
          sym up ∙ orderly.living z i met in
          let one : z ≡ x = cc in
          let alive : is_met (living P n) (There l x i) ≡ true =
          subst (λ (v : Session). is_met (living P n) (There l v i) ≡ true) one met in
          by_test (is_open far.endpoints i) refl alive
        where
          by_test : (b : Bool) → is_open far.endpoints i ≡ b
              → is_met (living P n) (There l x i) ≡ true → is_alive P m (Here i) ≡ true
          by_test true open_ alive = sym (across.here i) ∙ open_
          by_test false closed alive =
              let one = any-one (is_meeting_of n (There l x i)) (marks_left P)
              (met-told n l x i P ∙ living-met n (There l x i) P alive) in
              absurd (true≢false (sym (any-both (is_left_over d e) (is_meeting_in at l x)
              (marks_left P) (one.among (λ (k : Mark). is_meeting_in at l x k && is_left_over d e k)
              (left-over i (tells.there x i ∙ alive) closed one.it one.passes))) ∙ none))

      go : (b : Bool) → (k.0 == l.0) ≡ b → (not (k.0 == l.0) || is_alive P m (Here i)) ≡ true
      go true same = or_right (not (k.0 == l.0)) (is_alive P m (Here i)) (here (link-is k l same))
      go false same = or_left (not (k.0 == l.0)) (is_alive P m (Here i)) (ap not same)

  peers-open : any_left_over d e x ≡ false → PeersOpen P n m l
  peers-open none = each-met IsOpen (living P n) (open-of none)

  -- and where they are open, none is left over
  not-left : PeersOpen P n m l → (mark : Mark) → is_meeting_in at l x mark ≡ true
      → is_left_over d e mark ≡ true → ⊥
  not-left all (Opened j name) is over = true≢false (sym is)
  not-left all (Closed j) is over = true≢false (sym is)
  not-left all (Met node link session i) is over =
      let one = and_parts (n == node.0) (l.0 == link.0 && x.0 == session.0) is in
      let two = and_parts (l.0 == link.0) (x.0 == session.0) one.1 in
      let halves = and_parts (is_living near (There link session i)) (not (is_open far.endpoints i))
      over in
      let lives : is_living near (There l x i) ≡ true =
      subst (λ (q : LinkNo). is_living near (There q x i) ≡ true) (sym (link-is l link two.0))
      (subst (λ (z : Session). is_living near (There link z i) ≡ true)
      (sym (session-is x session two.1)) halves.0) in
      let open_ : is_alive P m (Here i) ≡ true =
      open-among P m l x i (living P n) all (sym (tells.there x i) ∙ lives) in
      no-test (is_open far.endpoints i) halves.1 (across.here i ∙ open_)

  none-left : PeersOpen P n m l → any_left_over d e x ≡ false
  none-left all =
      none-filtered (is_left_over d e) (is_meeting_in at l x) (marks_left P) (not-left all)

  -- HUNTS
  abbrev IsAnswered : Inc → Type 0
  IsAnswered i = list_any (is_for (Over l (name_of P i))) (hunting P n) ≡ false

  -- a hunt for the name of an open endpoint is looked at
  findable : (i : Inc) → is_alive P m (Here i) ≡ true → (h : PendingHunt)
      → is_for (Over l (name_of P i)) h ≡ true
      → (is_some (name_over l h.path) && is_findable d e h) ≡ true
  findable i open_ h is = by_path h.path is
    where
      by_path : (path : Path) → same_path (Over l (name_of P i)) path ≡ true
          → (is_some (name_over l path) && is_open_name far.endpoints (name_over l path)) ≡ true
      by_path (Local w) same = absurd (true≢false (sym same))
      by_path (Over k w) same =
          let parts = and_parts (l.0 == k.0) (bytes_eq (name_of P i) w) same in
          let flip : (k.0 == l.0) ≡ true = eq-eqb k.0 l.0 (sym (eqb-true l.0 k.0 parts.0)) in
          let named : bytes_eq w (name_of P i) ≡ true =
          is-bytes w (name_of P i) (sym (bytes-is (name_of P i) w parts.1)) in
          let one = any-one (same_inc i) (open_endpoints P m) open_ in
          let found : is_some (first_named far.endpoints w) ≡ true =
          names w ∙ one.among (λ (j : Inc). bytes_eq w (name_of P j))
          (subst (λ (j : Inc). bytes_eq w (name_of P j) ≡ true) (inc-is i one.it one.passes) named) in
          rw flip found

  answered-of : any_findable d e ≡ false → (i : Inc) → is_alive P m (Here i) ≡ true → IsAnswered i
  answered-of none i open_ =
      false_from_ne_true (list_any (is_for (Over l (name_of P i))) (hunting P n)) (λ any.
      let one = any-one (is_for (Over l (name_of P i))) near.hunts
      (ap (λ (hs : List PendingHunt). list_any (is_for (Over l (name_of P i))) hs) hunts ∙ any) in
      true≢false (sym (any-both (is_findable d e) (λ (h : PendingHunt). is_some (name_over l h.path))
      near.hunts (one.among (λ (h : PendingHunt). is_some (name_over l h.path) && is_findable d e h)
      (findable i open_ one.it one.passes))) ∙ none))

  hunts-answered : any_findable d e ≡ false → HuntsAnswered P n m l
  hunts-answered none = each-all IsAnswered (open_endpoints P m) (answered-of none)

  -- and where they are answered, none is findable
  not-findable : HuntsAnswered P n m l → One (is_findable d e) near.hunts → ⊥
  not-findable all one = by_path one.it.path refl one.passes
    where
      by_path : (path : Path) → one.it.path ≡ path → is_open_name far.endpoints (name_over l path)
          ≡ true → ⊥
      by_path (Local w) is found = true≢false (sym found)
      by_path (Over k w) is found = by_link (k.0 == l.0) refl found
        where
          by_link : (b : Bool) → (k.0 == l.0) ≡ b
              → is_open_name far.endpoints (if b then Some w else None) ≡ true → ⊥
          by_link true same named =
              let holder = any-one (λ (i : Inc). bytes_eq w (name_of P i)) (open_endpoints P m)
              (sym (names w) ∙ named) in
              let i : Inc = holder.it in
              let answered : IsAnswered i =
              among IsAnswered i (open_endpoints P m) all (holder.among (same_inc i) (inc-same i)) in
              let hunted : is_for (Over l (name_of P i)) one.it ≡ true =
              subst (λ (p : Path). same_path (Over l (name_of P i)) p ≡ true) (sym is)
              (both (l.0 == k.0) (bytes_eq (name_of P i) w)
              (eq-eqb l.0 k.0 (sym (eqb-true k.0 l.0 same)))
              (is-bytes (name_of P i) w (sym (bytes-is w (name_of P i) holder.passes)))) in
              true≢false (sym (ap (λ (hs : List PendingHunt).
              list_any (is_for (Over l (name_of P i))) hs) (sym hunts)
              ∙ one.among (is_for (Over l (name_of P i))) hunted) ∙ answered)
          by_link false same named = true≢false (sym named)

  none-findable : HuntsAnswered P n m l → any_findable d e ≡ false
  none-findable all =
      false_from_ne_true (any_findable d e) (λ any. not-findable all
      (any-one (is_findable d e) near.hunts (any-kept (is_findable d e)
      (λ (h : PendingHunt). is_some (name_over l h.path)) near.hunts any)))

  -- ONE DIRECTION
  pub half-told : is_still_half d e x y ≡ true → IsStillHalf P n m l x y
  half-told is =
      let one = and_parts (is_session d.here.pair y) (not (any_under_way d e x y)
      && (not (any_left_over d e x) && not (any_findable d e))) is in
      let two = and_parts (not (any_under_way d e x y)) (not (any_left_over d e x)
      && not (any_findable d e)) one.1 in
      let three = and_parts (not (any_left_over d e x)) (not (any_findable d e)) two.1 in
      let pair : paired_session P n l.0 x ≡ Some y =
      pair-is P near at other l side arrived counted short tells orderly x up
      ∙ session-up (up_pair P n l.0) y one.0 in
      record {
        up = up;
        pair = pair;
        all_got = all-got pair (not-true _ two.0);
        peers_open = peers-open (not-true _ three.0);
        hunts_answered = hunts-answered (not-true _ three.1);
      }

  pub told-half : IsStillHalf P n m l x y → is_still_half d e x y ≡ true
  told-half half =
      both (is_session d.here.pair y) (not (any_under_way d e x y)
      && (not (any_left_over d e x) && not (any_findable d e)))
      (up-session (up_pair P n l.0) y
      (sym (pair-is P near at other l side arrived counted short tells orderly x up) ∙ half.pair))
      (both (not (any_under_way d e x y)) (not (any_left_over d e x) && not (any_findable d e))
      (ap not (got-all half.all_got))
      (both (not (any_left_over d e x)) (not (any_findable d e)) (ap not (none-left half.peers_open))
      (ap not (none-findable half.hunts_answered))))

  -- WHAT WAS STIRRED. It is told whether a flow is settled
  sent-told : (a b : Inc) → is_under_way d e x (flow_of a l y b) ≡ false
      → paired_session P n l.0 x ≡ Some y → IsSettledHalf P n m l x y (Sent a b)
  sent-told a b none paired sender receiver = go (next_sent d x y a b) refl
    where
      go : (o : Option SigNote) → next_sent d x y a b ≡ o → HasGot a b
      go None is =
          front-all (arrived_from P b (There l x a)) (sent_to P a (There l y b))
          (orderly.fronts x y up paired a b receiver) (sym (next-is a b) ∙ is)
      go (Some note) is =
          absurd (true≢false (sym (and_parts (is_in l y (flow_of a l y b))
          (is_under_way d e x (flow_of a l y b)) (looked-at a b sender receiver note is)).1 ∙ none))

  -- a peer
  doubted-told : (i : Inc)
      → (is_living near (There l x i) && not (is_open far.endpoints i)) ≡ false
      → IsSettledHalf P n m l x y (Doubted i)
  doubted-told i none z met =
      let is_x : (let o : Option Session = Some x in o) ≡ Some z =
      sym up ∙ orderly.living z i met in
      let one : z ≡ x = cc in
      let alive : is_met (living P n) (There l x i) ≡ true =
      subst (λ (v : Session). is_met (living P n) (There l v i) ≡ true) one met in
      by_test (is_open far.endpoints i) refl alive
    where
      by_test : (b : Bool) → is_open far.endpoints i ≡ b
          → is_met (living P n) (There l x i) ≡ true → is_alive P m (Here i) ≡ true
      by_test true open_ alive = sym (across.here i) ∙ open_
      by_test false closed alive =
          absurd (true≢false (sym (both (is_living near (There l x i)) (not (is_open far.endpoints i))
          (tells.there x i ∙ alive) (ap not closed)) ∙ none))

  -- and a name
  hunted-told : (name : List ℕ)
      → (is_open_name far.endpoints (Some name) && any_findable d e) ≡ false
      → IsSettledHalf P n m l x y (Hunted name)
  hunted-told name none i open_ named =
      let one = any-one (same_inc i) (open_endpoints P m) open_ in
      let found : is_some (first_named far.endpoints name) ≡ true =
      names name ∙ one.among (λ (j : Inc). bytes_eq name (name_of P j))
      (is-bytes name (name_of P one.it)
      (sym named ∙ ap (name_of P) (inc-is i one.it one.passes))) in
      answered-of (and-rest (is_some (first_named far.endpoints name)) (any_findable d e) found none)
      i open_

  pub settled-told : paired_session P n l.0 x ≡ Some y → (stir : Stir)
      → is_stirred d e x y stir ≡ false → IsSettledHalf P n m l x y stir
  settled-told paired (Sent a b) none = sent-told a b none paired
  settled-told paired (Doubted i) none = doubted-told i none
  settled-told paired (Hunted name) none = hunted-told name none
  settled-told paired (Offered i) none = λ open_. answered-of
      (and-rest (is_open far.endpoints i) (any_findable d e) (across.here i ∙ open_) none) i open_

  -- and all are where the direction is still
  pub told-settled : IsStillHalf P n m l x y → (stir : Stir) → is_stirred d e x y stir ≡ false
  told-settled half (Sent a b) =
      false_from_ne_true (is_under_way d e x (flow_of a l y b)) (λ due.
      under-way half.all_got (flow_of a l y b)
      (both (l.0 == l.0) (y.0 == y.0) (eq-eqb l.0 l.0 refl) (eq-eqb y.0 y.0 refl)) due)
  told-settled half (Doubted i) =
      false_from_ne_true (is_living near (There l x i) && not (is_open far.endpoints i)) (λ over.
      let halves = and_parts (is_living near (There l x i)) (not (is_open far.endpoints i)) over in
      no-test (is_open far.endpoints i) halves.1
      (across.here i ∙ open-among P m l x i (living P n) half.peers_open
      (sym (tells.there x i) ∙ halves.0)))
  told-settled half (Hunted name) =
      and-false 0 (is_some (first_named far.endpoints name)) (any_findable d e)
      (none-findable half.hunts_answered)
  told-settled half (Offered i) =
      and-false 0 (is_open far.endpoints i) (any_findable d e) (none-findable half.hunts_answered)
