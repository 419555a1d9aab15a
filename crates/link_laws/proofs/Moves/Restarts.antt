-- A restart of a node.
use Rattle.std.proofs.Common.{◌≡◌, ℕ, suc, ◌+◌, ◌<◌, ◌≤◌, Bool, true, false, cond, ◌||◌, List, []}
use Rattle.std.proofs.Common.{◌∷◌, length, refl, sym, ◌∙◌, ap, subst, arith, ◌==◌, eqb-true}
use Rattle.std.proofs.Common.{true≢false}
use Rattle.std.specs.List.{list_any, AllByRecursion}
use Rattle.linx_base.specs.Numbers.{first_session}
use Rattle.linx_base.specs.Sides.{other_of}
use Rattle.linx_base.specs.declared.identity.Inc.{Inc}
use Rattle.linx_base.specs.declared.identity.LinkNo.{LinkNo}
use Rattle.linx_base.specs.declared.identity.NodeNo.{NodeNo}
use Rattle.linx_base.specs.declared.identity.Session.{Session}
use Rattle.linx_base.specs.declared.identity.Side.{Side}
use Rattle.trunk_record.specs.Changes.{beginning}
use Rattle.trunk_record.specs.Records.{SessionRecord, SideRecord, all}
use Rattle.trunk_record.specs.Trunks.{IsBelow, IsHalf}
use Rattle.trunk_record.proofs.Changes.{half_beginning, half_of_beginning}
use Rattle.journal.specs.Effects.{closings}
use Rattle.journal.specs.History.{open_endpoints}
use Rattle.journal.specs.Shapes.{Shape}
use Rattle.journal.specs.declared.by.By.{By}
use Rattle.journal.specs.declared.effect.Effect.{Effect}
use Rattle.journal.specs.declared.effect.Effect.TheVariants.{Closed, Down}
use Rattle.journal.specs.declared.effect.Step.{Step}
use Rattle.journal.specs.declared.head.Head.TheVariants.{Restart}
use Rattle.journal.proofs.Lists.{all-impl}
use Rattle.link_laws.specs.Ends.{IsLinkOf, node_at}
use Rattle.link_laws.specs.Sides.{AllPublishedOpen, AllTrunks, Links, records_of}
use Rattle.link_laws.specs.Laws.{KeepsNodeLaws, downs_of, restarting}
use Rattle.link_laws.specs.Moves.{Restarts, RestartsAt}
use Rattle.link_laws.specs.Promises.{ArePublishedOpen, ups}
use Rattle.link_laws.specs.Sessions.{boots, downs, ends_session, own_session, restarts, tells_heard}
use Rattle.link_laws.proofs.AllLinks.SameSides.{linked-alike}
use Rattle.link_laws.proofs.Endpoints.Fresh.{restarting-opens_none}
use Rattle.link_laws.proofs.Moves.Shown.{IsGood, IsKnown, step_of}
use Rattle.link_laws.proofs.Hunts.EachStep.{IsCalm}
use Rattle.link_laws.proofs.Hunts.ManySides.{hunted_restarting}
use Rattle.link_laws.proofs.Legal.{legal_plain}
use Rattle.link_laws.proofs.AllLinks.OneSideKept.{silence-side}
use Rattle.link_laws.proofs.AllLinks.Publishings.{RaisesNone, opened_step}
use Rattle.link_laws.proofs.AllLinks.Restarts.{restarted, whole_restart}
use Rattle.link_laws.proofs.Sides.Restarts.{AreEndings, closings-end, downs-end, endings-append}

-- a test that no ending of an endpoint or a session passes
none-ends : (p : Effect → Bool) → ((i : Inc) → p (Closed i) ≡ false)
    → ((n : NodeNo) (l : LinkNo) (x : Session) → p (Down n l x) ≡ false) → (es : List Effect)
    → AreEndings es → list_any p es ≡ false
none-ends p c d [] ends = refl
none-ends p c d (Closed i ∷ es) ends = ap (λ t. t || list_any p es) (c i)
    ∙ none-ends p c d es ends.1
none-ends p c d (Down n l x ∷ es) ends = ap (λ t. t || list_any p es) (d n l x)
    ∙ none-ends p c d es ends.1
none-ends p c d (_ ∷ es) ends = absurd (true≢false (sym ends.0))

-- a side goes down at most once a step
pub few-downs : (P : List Step) (n l : ℕ) → downs P n l ≤ length P
few-downs [] n l = omega arith
few-downs (s ∷ P) n l =
    by_restart (restarts n s.head) (list_any (ends_session n l) s.effects) (few-downs P n l)
  where
    by_restart : (t u : Bool) → downs P n l ≤ length P
        → cond t 0 (cond u (suc (downs P n l)) (downs P n l)) ≤ suc (length P)
    by_restart true u few = omega arith
    by_restart false true few = omega arith
    by_restart false false few = omega arith

-- and a node boots at most once a step
pub few-boots : (P : List Step) (n : ℕ) → boots P n ≤ length P
few-boots [] n = omega arith
few-boots (s ∷ P) n = by_restart (restarts n s.head) (few-boots P n)
  where
    by_restart : (t : Bool) → boots P n ≤ length P
        → cond t (suc (boots P n)) (boots P n) ≤ suc (length P)
    by_restart true few = omega arith
    by_restart false few = omega arith

module _ (shape : Shape) (P : List Step) (before after : Links) (known : IsKnown shape P before)
    (by : By) (node : NodeNo) (begins : Restarts shape P before after node.0) where
  abbrev n : ℕ
  n = node.0

  abbrev x : Session
  x = first_session (2 + boots P node.0)

  abbrev es : List Effect
  es = restarting shape P node.0

  abbrev s : Step
  s = step_of by (Restart node) (restarting shape P node.0)

  ends : AreEndings es
  ends = endings-append (downs_of P n (length shape.links)) (closings (open_endpoints P n))
      (downs-end P n (length shape.links)) (closings-end (open_endpoints P n))

  -- the first session of the next boot is above all of a side
  below : (h : LinkNo) (side : Side) → IsLinkOf shape h → node_at shape h side ≡ n
      → AllByRecursion (IsBelow x) (all (before h.0 side).side)
  below h side of_h at = (
    own,
    all-impl (IsBelow (before h.0 side).side.now.session) (IsBelow x) (λ e under. more e under)
        (before h.0 side).side.earlier (known.kept.trunks h of_h side).rising.0,
  )
    where
      own : (before h.0 side).side.now.session.0 < x.0
      own =
          let few = few-downs P node.0 h.0 in
          let room = known.room in
          let number : (own_session P node.0 h.0).0 ≡ (before h.0 side).side.now.session.0 =
          ap (λ (k : ℕ). (own_session P k h.0).0) (sym at)
          ∙ ap (λ (z : Session). z.0) (known.kept.linked h of_h side).own in
          omega arith

      more : (e : SessionRecord) → IsBelow (before h.0 side).side.now.session e → IsBelow x e
      more e under = let top = own in omega arith

  made : (l : LinkNo) → IsLinkOf shape l → (side : Side)
      → (after l.0 side).side ≡ restarted shape (records_of before) n x l.0 side
  made l of_shape side = by_node (node_at shape l side == n) (begins l of_shape side)
    where
      by_node : (t : Bool) → RestartsAt t x (before l.0 side) (after l.0 side)
          → (after l.0 side).side ≡ cond t (beginning x (before l.0 side).side)
          (before l.0 side).side
      by_node true it = it.side
      by_node false it = it.side

  less : (l : LinkNo) → IsLinkOf shape l → (side : Side)
      → (after l.0 side).silent ≤ (before l.0 side).silent
  less l of_shape side = by_node (node_at shape l side == n) (begins l of_shape side)
    where
      by_node : (t : Bool) → RestartsAt t x (before l.0 side) (after l.0 side)
          → (after l.0 side).silent ≤ (before l.0 side).silent
      by_node true it = it.silent
      by_node false it = it.silent

  -- THE TRUNKS
  near_half : (t : Bool) (A B : SideRecord) → (t ≡ true → AllByRecursion (IsBelow x) (all A))
      → IsHalf A B → IsHalf (cond t (beginning x A) A) B
  near_half true A B above half = half_beginning A B x half (above refl)
  near_half false A B above half = half

  far_half : (t : Bool) (A B : SideRecord) → (t ≡ true → AllByRecursion (IsBelow x) (all B))
      → IsHalf A B → IsHalf A (cond t (beginning x B) B)
  far_half true A B above half = half_of_beginning B A x half (above refl)
  far_half false A B above half = half

  begun_trunks : AllTrunks shape (records_of after)
  begun_trunks l of_shape side =
      let A : SideRecord = (before l.0 side).side in
      let B : SideRecord = (before l.0 (other_of side)).side in
      subst (λ (X : SideRecord). IsHalf X (after l.0 (other_of side)).side)
      (sym (made l of_shape side))
      (subst (λ (X : SideRecord). IsHalf (restarted shape (records_of before) n x l.0 side) X)
      (sym (made l of_shape (other_of side)))
      (far_half (node_at shape l (other_of side) == n)
      (cond (node_at shape l side == n) (beginning x A) A) B
      (λ e. below l (other_of side) of_shape (eqb-true (node_at shape l (other_of side)) n e))
      (near_half (node_at shape l side == n) A B
      (λ e. below l side of_shape (eqb-true (node_at shape l side) n e))
      (known.kept.trunks l of_shape side))))

  raises : RaisesNone s
  raises k h z = none-ends (ups k h z) (λ i. refl) (λ m l y. refl) es ends

  begun_opened : AllPublishedOpen shape (s ∷ P) (records_of after)
  begun_opened l of_shape side =
      subst (λ (X : SideRecord). ArePublishedOpen (s ∷ P) (node_at shape l side) l X)
      (sym (made l of_shape side))
      (by_node (node_at shape l side == n)
      (opened_step shape P (records_of before) s known.kept.opened raises l of_shape side))
    where
      by_node : (t : Bool)
          → ArePublishedOpen (s ∷ P) (node_at shape l side) l (before l.0 side).side
          → ArePublishedOpen (s ∷ P) (node_at shape l side) l
          (cond t (beginning x (before l.0 side).side) (before l.0 side).side)
      by_node true was = (tt, was)
      by_node false was = was

  calm : IsCalm P s
  calm = record {
    begins_none = λ k l w. refl;
    opens_none = restarting-opens_none shape P n;
  }

  restart_good : KeepsNodeLaws shape P s → IsGood shape P s after
  restart_good laws = record {
    legal = legal_plain shape P by (Restart node) es refl laws;
    kept = record {
      trunks = begun_trunks;
      linked = linked-alike shape (s ∷ P) (restarted shape (records_of before) n x)
          (records_of after) made
          (whole_restart shape P (records_of before) by n known.kept.linked below);
      opened = begun_opened;
      hunted = hunted_restarting shape P before after s known.kept.trunks known.kept.hunted calm n
          x begins;
      silent = λ l of_shape side.
          silence-side P s (node_at shape l side) l.0 side (before l.0 side).silent
          (after l.0 side).silent (known.kept.silent l of_shape side) (less l of_shape side)
          (none-ends (tells_heard (node_at shape l side) l.0) (λ i. refl) (λ m h y. refl) es ends);
    };
    promised = tt;
  }

  pub restarting_good : (effects : List Effect)
      → KeepsNodeLaws shape P (step_of by (Restart node) effects)
      → IsGood shape P (step_of by (Restart node) effects) after
  restarting_good effects laws =
      subst (λ (fs : List Effect). IsGood shape P (step_of by (Restart node) fs) after)
      (sym laws.effects)
      (restart_good (subst (λ (fs : List Effect). KeepsNodeLaws shape P
      (step_of by (Restart node) fs)) laws.effects laws))
