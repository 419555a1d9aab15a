-- A close and a send over a link, over all links of a run.
use Rattle.std.proofs.Common.{◌≡◌, ℕ, Bool, true, false, cond, ◌&&◌, List, [], ◌∷◌, Option, Some}
use Rattle.std.proofs.Common.{None, refl, sym, ◌∙◌, ap, ◌==◌, true≢false, eq-eqb, eqb-true}
use Rattle.std.proofs.lemmas.Bool.{false_from_ne_true}
use Rattle.linx_base.specs.Numbers.{node_of, is_on}
use Rattle.linx_base.specs.Peers.{same_peer}
use Rattle.linx_base.specs.declared.identity.Inc.{Inc}
use Rattle.linx_base.specs.declared.identity.LinkNo.{LinkNo}
use Rattle.linx_base.specs.declared.identity.Peer.TheVariants.{Here, There}
use Rattle.linx_base.specs.declared.identity.Session.{Session}
use Rattle.linx_base.specs.declared.identity.Side.{Side}
use Rattle.linx_base.specs.declared.pending.PendingAttach.{PendingAttach}
use Rattle.linx_base.specs.SigNotes.{SigNote}
use Rattle.trunk_record.specs.Changes.{saying, says_sending}
use Rattle.trunk_record.specs.Records.{SideRecord}
use Rattle.trunk_record.specs.Sayings.{is_live, signaled, unpublished}
use Rattle.journal.specs.Effects.{notices, held_elsewhere, closing}
use Rattle.journal.specs.History.{endpoint_by, name_of}
use Rattle.journal.specs.Living.{is_alive}
use Rattle.journal.specs.Shapes.{Shape, node_by}
use Rattle.journal.specs.declared.by.By.TheVariants.{Actor}
use Rattle.journal.specs.declared.effect.Effect.{Effect}
use Rattle.journal.specs.declared.effect.Effect.TheVariants.{Closed}
use Rattle.journal.specs.declared.effect.Step.{Step}
use Rattle.journal.specs.declared.head.Head.TheVariants.{Send}
use Rattle.journal.specs.declared.head.SentTo.TheVariants.{Link}
use Rattle.link_laws.specs.Came.{signal_over}
use Rattle.link_laws.specs.Ends.{node_at, IsLinkOf, HasTwoEnds}
use Rattle.link_laws.specs.Sides.{Trunks, AllLinked}
use Rattle.link_laws.specs.Linked.{IsLinked}
use Rattle.link_laws.specs.Moves.{closing_side}
use Rattle.link_laws.specs.Sessions.{restarts}
use Rattle.link_laws.proofs.Sides.Acts.{keeps_close, keeps_close_elsewhere, keeps_quiet, keeps_send}
use Rattle.link_laws.proofs.Sides.WordsAfterStep.{IsDone}
use Rattle.link_laws.proofs.Endpoints.OpenAfterStep.{open-on}
use Rattle.link_laws.proofs.AllLinks.OthersStay.{notices-items, one_side, with_side}
use Rattle.linx_base.specs.declared.signal.Reason.TheVariants as reasons

-- A CLOSE: every link of the node on which the endpoint is live is told
abbrev pub closed_on : Shape → Trunks → ℕ → Inc → Trunks
closed_on shape trunks n j k at = closing_side n (node_at shape (record { 0 = k }) at) j
    (trunks k at)

-- a step that closes endpoint j of node n, with the notifications of it
module _ (shape : Shape) (P : List Step) (trunks : Trunks) (s : Step) (n : ℕ) (j : Inc)
    (linked : AllLinked shape P trunks) (attaches : List PendingAttach) (effects : s.effects
    ≡ closing j attaches) (stays : (k : ℕ) → restarts k s.head ≡ false)
    (says : (k h : ℕ) (x : Session) → signal_over k h x (endpoint_by P s.by) s.head ≡ []) where
  done : IsDone s (Closed j ∷ []) (notices reasons.Closed (same_peer (Here j))
      (held_elsewhere j attaches))
  done = record {
    effects = effects;
    items_only =
        notices-items reasons.Closed (same_peer (Here j)) (held_elsewhere j attaches);
  }

  abbrev items : List Effect
  items = notices reasons.Closed (same_peer (Here j)) (held_elsewhere j attaches)

  pub whole_close : is_on n j ≡ true → AllLinked shape (s ∷ P) (closed_on shape trunks n j)
  whole_close on h of_h side = by_node (node_at shape h side == n) refl
    where
      by_node : (t : Bool) → (node_at shape h side == n) ≡ t
          → IsLinked (s ∷ P) (node_at shape h side) h
          (cond (t && is_live j (trunks h.0 side).now.said)
          (saying (unpublished j ∷ []) (trunks h.0 side)) (trunks h.0 side))
      by_node true e = by_life (is_live j (trunks h.0 side).now.said) refl
        where
          by_life : (t : Bool) → is_live j (trunks h.0 side).now.said ≡ t
              → IsLinked (s ∷ P) (node_at shape h side) h
              (cond t (saying (unpublished j ∷ []) (trunks h.0 side)) (trunks h.0 side))
          by_life true live = keeps_close P s j items done (node_at shape h side) h
              (trunks h.0 side) (linked h of_h side) live (stays (node_at shape h side))
              (λ x. says (node_at shape h side) h.0 x)
          by_life false dead = keeps_close_elsewhere P s j items done (node_at shape h side) h
              (trunks h.0 side) (linked h of_h side) (stays (node_at shape h side))
              (λ x. says (node_at shape h side) h.0 x) dead
      by_node false e =
          keeps_close_elsewhere P s j items done (node_at shape h side) h (trunks h.0 side)
          (linked h of_h side) (stays (node_at shape h side))
          (λ x. says (node_at shape h side) h.0 x)
          (false_from_ne_true (is_live j (trunks h.0 side).now.said) (λ live.
          let there : is_on (node_at shape h side) j ≡ true =
          open-on P (node_at shape h side) j ((linked h of_h side).live j live) in
          true≢false (sym (eq-eqb (node_at shape h side) n
          (sym (eqb-true (node_of j) (node_at shape h side) there)
          ∙ eqb-true (node_of j) n on)) ∙ e)))

-- A SEND over a link: the peer is alive, so its session is the side's own
module _ (shape : Shape) (P : List Step) (trunks : Trunks) (a : ℕ) (j b : Inc) (note : SigNote)
    (l : LinkNo) (at : Side) (two : HasTwoEnds shape) (of_shape : IsLinkOf shape l)
    (linked : AllLinked shape P trunks) (mine : endpoint_by P (Actor a) ≡ Some j)
    (open_ : is_alive P (node_by shape (Actor a)) (Here j) ≡ true) (node : node_at shape l at
    ≡ node_by shape (Actor a)) where
  abbrev A : SideRecord
  A = trunks l.0 at

  abbrev sent : Step
  sent = record { by = Actor a; head = Send (There l A.now.session b) note Link; effects = [] }

  says_there : (k h : ℕ) (x : Session) (me : Option Inc) → me ≡ Some j
      → ((node_at shape l at == k) && (l.0 == h)) ≡ false
      → signal_over k h x me (Send (There l A.now.session b) note Link) ≡ []
  says_there k h x None is apart = refl
  says_there k h x (Some i) is apart =
      let same : i ≡ j = cc in
      let here : is_on (node_at shape l at) j ≡ true =
      open-on P (node_at shape l at) j (ap (λ m. is_alive P m (Here j)) node ∙ open_) in
      let on : is_on k i ≡ (node_at shape l at == k) = ap (λ (z : Inc). is_on k z) same
      ∙ ap (λ m. m == k) (eqb-true (node_of j) (node_at shape l at) here) in
      ap (λ t. cond ((t && l.0 == h) && A.now.session.0 == x.0) (signaled i b note ∷ []) []) on
      ∙ ap (λ t. cond (t && A.now.session.0 == x.0) (signaled i b note ∷ []) []) apart

  pub whole_send : AllLinked shape (sent ∷ P) (with_side trunks l.0 at
      (saying (says_sending j (name_of P j) b note A) A))
  whole_send =
      let here : IsLinked (sent ∷ P) (node_at shape l at) l
      (saying (says_sending j (name_of P j) b note A) A) =
      keeps_send P sent j b note (node_at shape l at) l A refl refl mine
      (ap (λ k. is_alive P k (Here j)) node ∙ open_) (linked l of_shape at) in
      one_side shape (sent ∷ P) trunks l at (saying (says_sending j (name_of P j) b note A) A) two
      of_shape here
      (λ h side of_h apart.
      keeps_quiet P sent [] [] (record { effects = refl; items_only = tt }) (node_at shape h side)
      h (trunks h.0 side) (linked h of_h side) refl refl (λ i was. refl)
      (λ x. says_there (node_at shape h side) h.0 x (endpoint_by P (Actor a)) mine apart)
      (λ i live. refl))
