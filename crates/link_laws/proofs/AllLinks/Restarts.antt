-- The restart of a node, over all links of a run.
use Rattle.std.proofs.Common.{◌≡◌, ℕ, suc, Bool, true, false, cond, ◌||◌, ◌&&◌, List, [], ◌∷◌, ◌++◌}
use Rattle.std.proofs.Common.{length, Option, Some, None, refl, sym, ◌∙◌, ap, subst, arith, zero}
use Rattle.std.proofs.Common.{◌+◌, ◌/◌, append-nil, ◌==◌, true≢false, eq-eqb, eqb-true}
use Rattle.std.specs.List.{list_any, AllByRecursion}
use Rattle.std.proofs.lemmas.Bool.{false_from_ne_true, or_left, or_right}
use Rattle.std.proofs.lemmas.Bool.Decides.{nat_tests}
use Rattle.std.proofs.lemmas.List.Folds.{list_any-append}
use Rattle.linx_base.specs.Numbers.{first_session}
use Rattle.linx_base.specs.Peers.{same_inc}
use Rattle.linx_base.specs.declared.identity.Inc.{Inc}
use Rattle.linx_base.specs.declared.identity.LinkNo.{LinkNo}
use Rattle.linx_base.specs.declared.identity.Peer.TheVariants.{Here}
use Rattle.linx_base.specs.declared.identity.Session.{Session}
use Rattle.linx_base.specs.declared.identity.Side.{Side}
use Rattle.trunk_record.specs.Changes.{beginning}
use Rattle.trunk_record.specs.Records.{all}
use Rattle.trunk_record.specs.Sayings.{is_live}
use Rattle.trunk_record.specs.Trunks.{IsBelow}
use Rattle.journal.specs.Effects.{closings}
use Rattle.journal.specs.History.{endpoint_by, closes, open_endpoints, opens}
use Rattle.journal.specs.Living.{is_alive}
use Rattle.journal.specs.Sessions.{up_session}
use Rattle.journal.specs.Shapes.{Shape}
use Rattle.journal.specs.declared.by.By.{By}
use Rattle.journal.specs.declared.effect.Effect.{Effect}
use Rattle.journal.specs.declared.effect.Effect.TheVariants.{Closed, Down}
use Rattle.journal.specs.declared.effect.Step.{Step}
use Rattle.journal.specs.declared.head.Head.TheVariants.{Restart}
use Rattle.link_laws.specs.Came.{signal_over}
use Rattle.link_laws.specs.Ends.{node_at, IsLinkOf}
use Rattle.link_laws.specs.Sides.{Trunks, AllLinked}
use Rattle.link_laws.specs.Laws.{down_if, downs_of}
use Rattle.link_laws.specs.Linked.{IsLinked}
use Rattle.link_laws.specs.Sessions.{boots}
use Rattle.link_laws.proofs.Sides.Acts.{keeps_quiet}
use Rattle.link_laws.proofs.Sides.Untouched.{touches}
use Rattle.link_laws.proofs.Endpoints.OpenAfterStep.{open-on}
use Rattle.link_laws.proofs.Sides.Restarts.{keeps_restart}
use Rattle.link_laws.proofs.AllLinks.OthersStay.{no_signal}
use Rattle.link_laws.proofs.Sides.Turns.{keeps_beginning}

-- THE RESTART of a node, over all links
abbrev pub restarted : Shape → Trunks → ℕ → Session → Trunks
restarted shape trunks n x k at = cond (node_at shape (record { 0 = k }) at == n)
    (beginning x (trunks k at)) (trunks k at)

module _ (shape : Shape) (P : List Step) (trunks : Trunks) (by : By) (n : ℕ)
    (linked : AllLinked shape P trunks) where
  abbrev es : List Effect
  es = downs_of P n (length shape.links) ++ closings (open_endpoints P n)

  abbrev restart : Step
  restart = record { by = by; head = Restart (record { 0 = n }); effects = es }

  abbrev fresh_session : Session
  fresh_session = first_session (2 + boots P n)

  no_signal_here : (k h : ℕ) (x : Session) (me : Option Inc)
      → signal_over k h x me (Restart (record { 0 = n })) ≡ []
  no_signal_here k h x me = no_signal k h x me (Restart (record { 0 = n })) (λ j. refl)

  -- the effects are this node's
  downs_of_it : (p : Effect → Bool) → ((k : ℕ) (x : Session)
      → p (Down (record { 0 = n }) (record { 0 = k }) x) ≡ false) → (k : ℕ)
      → list_any p (downs_of P n k) ≡ false
  downs_of_it p none zero = refl
  downs_of_it p none (suc k) =
      list_any-append p (downs_of P n k) (down_if n (suc k) (up_session P n (suc k)))
      ∙ ap (λ t. t || list_any p (down_if n (suc k) (up_session P n (suc k))))
      (downs_of_it p none k)
      ∙ one (up_session P n (suc k))
    where
      one : (u : Option Session) → list_any p (down_if n (suc k) u) ≡ false
      one None = refl
      one (Some x) = ap (λ t. t || false) (none (suc k) x)

  closings_of_it : (p : Effect → Bool) (is : List Inc)
      → ((j : Inc) → list_any (same_inc j) is ≡ true → p (Closed j) ≡ false)
      → list_any p (closings is) ≡ false
  closings_of_it p [] none = refl
  closings_of_it p (j ∷ is) none =
      ap (λ t. t || list_any p (closings is)) (none j
      (or_left (same_inc j j) (list_any (same_inc j) is) (eq-eqb j.0 j.0 refl)))
      ∙ closings_of_it p is (λ k e. none k (or_right (same_inc k j) (list_any (same_inc k) is) e))

  none_of_it : (p : Effect → Bool) → ((k : ℕ) (x : Session)
      → p (Down (record { 0 = n }) (record { 0 = k }) x) ≡ false)
      → ((j : Inc) → is_alive P n (Here j) ≡ true → p (Closed j) ≡ false) → list_any p es ≡ false
  none_of_it p no_downs no_closings =
      list_any-append p (downs_of P n (length shape.links)) (closings (open_endpoints P n))
      ∙ ap (λ t. t || list_any p (closings (open_endpoints P n)))
      (downs_of_it p no_downs (length shape.links))
      ∙ closings_of_it p (open_endpoints P n) no_closings

  pub whole_restart : ((h : LinkNo) (side : Side) → IsLinkOf shape h → node_at shape h side ≡ n
      → AllByRecursion (IsBelow fresh_session) (all (trunks h.0 side)))
      → AllLinked shape (restart ∷ P) (restarted shape trunks n fresh_session)
  whole_restart below h of_h side = by_node (node_at shape h side == n) refl
    where
      k : ℕ
      k = node_at shape h side

      by_node : (t : Bool) → (node_at shape h side == n) ≡ t
          → IsLinked (restart ∷ P) (node_at shape h side) h
          (cond t (beginning fresh_session (trunks h.0 side)) (trunks h.0 side))
      by_node true e =
          let same : node_at shape h side ≡ n = eqb-true (node_at shape h side) n e in
          subst (λ (j : ℕ). IsLinked (restart ∷ P) j h (beginning fresh_session (trunks h.0 side)))
          (sym same)
          (keeps_beginning P restart n h (trunks h.0 side) fresh_session (link same)
          (keeps_restart P restart n h (trunks h.0 side) (length shape.links) refl of_h.0 of_h.1
          (link same) (eq-eqb n n refl) (λ x. no_signal_here n h.0 x (endpoint_by P by)))
          (below h side of_h same))
        where
          link : node_at shape h side ≡ n → IsLinked P n h (trunks h.0 side)
          link same = subst (λ (j : ℕ). IsLinked P j h (trunks h.0 side)) same (linked h of_h side)
      by_node false e =
          keeps_quiet P restart es [] (record { effects = sym (append-nil es); items_only = tt })
          (node_at shape h side) h (trunks h.0 side) (linked h of_h side)
          (none_of_it (touches (node_at shape h side) h.0)
          (λ j x. off (n == node_at shape h side) (j == h.0) apart) (λ j open_. refl)) apart
          (λ i was. none_of_it (opens i) (λ j x. refl) (λ j open_. refl))
          (λ x. no_signal_here (node_at shape h side) h.0 x (endpoint_by P by))
          (λ i live. none_of_it (closes i) (λ j x. refl)
          (λ j open_. false_from_ne_true (same_inc i j)
          (λ is. true≢false (sym (there i j live open_ is) ∙ apart))))
        where
          apart : (n == node_at shape h side) ≡ false
          apart = turned e
            where
              turned : (node_at shape h side == n) ≡ false → (n == node_at shape h side) ≡ false
              turned f = grind (arith, nat_tests)

          off : (t u : Bool) → t ≡ false → (t && u) ≡ false
          off t u f = ap (λ w. w && u) f

          there : (i j : Inc) → is_live i (trunks h.0 side).now.said ≡ true
              → is_alive P n (Here j) ≡ true → same_inc i j ≡ true
              → (n == node_at shape h side) ≡ true
          there i j live open_ is =
              let here = open-on P (node_at shape h side) i ((linked h of_h side).live i live) in
              let mine = open-on P n j open_ in
              let number : i.0 / 4294967296 ≡ node_at shape h side =
              eqb-true (i.0 / 4294967296) (node_at shape h side) here in
              let own : j.0 / 4294967296 ≡ n = eqb-true (j.0 / 4294967296) n mine in
              let same : i.0 ≡ j.0 = eqb-true i.0 j.0 is in
              eq-eqb n (node_at shape h side) (sym own ∙ ap (λ z. z / 4294967296) (sym same)
              ∙ number)
