-- What was published stays open when its session went up, over all links of a run.
use Rattle.std.proofs.Common.{◌≡◌, ℕ, Bool, true, false, ◌&&◌, ◌||◌, List, [], ◌∷◌, refl, ◌∙◌, ap}
use Rattle.std.proofs.Common.{◌==◌}
use Rattle.std.specs.List.{list_any, AllByRecursion}
use Rattle.linx_base.specs.declared.identity.LinkNo.{LinkNo}
use Rattle.linx_base.specs.declared.identity.Session.{Session}
use Rattle.linx_base.specs.declared.identity.Side.{Side}
use Rattle.trunk_record.specs.Changes.{beginning, giving, going_up, saying}
use Rattle.trunk_record.specs.Records.{SideRecord}
use Rattle.trunk_record.specs.Sayings.{Given, Said}
use Rattle.trunk_record.specs.Trunks.{IsBelow}
use Rattle.journal.specs.Shapes.{Shape}
use Rattle.journal.specs.declared.effect.Effect.TheVariants.{Up}
use Rattle.journal.specs.declared.effect.Step.{Step}
use Rattle.link_laws.specs.Ends.{HasTwoEnds, IsLinkOf, node_at}
use Rattle.link_laws.specs.Sides.{AllPublishedOpen, Trunks}
use Rattle.link_laws.specs.Promises.{ArePublishedOpen, ups}
use Rattle.link_laws.proofs.Promises.FromRecords.{IsOpenNow, earlier-stay, published-saying}
use Rattle.link_laws.proofs.Promises.FromRecords.{published-step, published-up}
use Rattle.link_laws.proofs.AllLinks.OthersStay.{one_side_of, with_side}

-- a step in which nothing goes up
abbrev pub RaisesNone : Step → Type 0
RaisesNone s = (n l : ℕ) (x : Session) → list_any (ups n l x) s.effects ≡ false

-- where nothing goes up, all sides keep it
pub opened_step : (shape : Shape) (P : List Step) (trunks : Trunks) (s : Step)
    → AllPublishedOpen shape P trunks → RaisesNone s → AllPublishedOpen shape (s ∷ P) trunks
opened_step shape P trunks s kept none l of_shape side =
    published-step P s (node_at shape l side) l (trunks l.0 side)
    (none (node_at shape l side) l.0) (kept l of_shape side)

module _ (shape : Shape) (P : List Step) (trunks : Trunks) (s : Step)
    (kept : AllPublishedOpen shape P trunks) (l : LinkNo) (at : Side) (two : HasTwoEnds shape)
    (of_shape : IsLinkOf shape l) where
  abbrev A : SideRecord
  A = trunks l.0 at

  abbrev m : ℕ
  m = node_at shape l at

  abbrev IsOpened : LinkNo → Side → SideRecord → Type 0
  IsOpened h side C = ArePublishedOpen (s ∷ P) (node_at shape h side) h C

  stays_here : RaisesNone s → ArePublishedOpen (s ∷ P) m l A
  stays_here none = opened_step shape P trunks s kept none l of_shape at

  one_opened : (B : SideRecord) → RaisesNone s → ArePublishedOpen (s ∷ P) m l B
      → AllPublishedOpen shape (s ∷ P) (with_side trunks l.0 at B)
  one_opened B none here =
      one_side_of shape IsOpened trunks l at B two of_shape here
      (λ h side of_h apart. opened_step shape P trunks s kept none h of_h side)

  -- one side is given something, says more of which what is published is open, or begins a session
  pub opened_giving : (g : Given) → RaisesNone s
      → AllPublishedOpen shape (s ∷ P) (with_side trunks l.0 at (giving g A))
  opened_giving g none = one_opened (giving g A) none (stays_here none)

  pub opened_saying : (ws : List Said) → RaisesNone s → AllByRecursion (IsOpenNow (s ∷ P)) ws
      → AllPublishedOpen shape (s ∷ P) (with_side trunks l.0 at (saying ws A))
  opened_saying ws none open_now =
      one_opened (saying ws A) none (published-saying (s ∷ P) m l A ws open_now (stays_here none))

  pub opened_beginning : (x : Session) → RaisesNone s
      → AllPublishedOpen shape (s ∷ P) (with_side trunks l.0 at (beginning x A))
  opened_beginning x none = one_opened (beginning x A) none (tt, stays_here none)

  -- the side goes up, with nothing said in its session as yet
  pub opened_up : (y : Session)
      → s.effects ≡ Up (record { 0 = m }) l A.now.session y ∷ [] → A.now.said ≡ []
      → AllByRecursion (IsBelow A.now.session) A.earlier
      → AllPublishedOpen shape (s ∷ P) (with_side trunks l.0 at (going_up y A))
  opened_up y effects none below =
      one_side_of shape IsOpened trunks l at (going_up y A) two of_shape
      (published-up P s m l A y none
      (earlier-stay s m l A.now.session y A.earlier effects below) (kept l of_shape at))
      (λ h side of_h apart. published-step P s (node_at shape h side) h (trunks h.0 side)
      (λ x. ap (list_any (ups (node_at shape h side) h.0 x)) effects
      ∙ away (m == node_at shape h side) (l.0 == h.0) (A.now.session.0 == x.0) apart)
      (kept h of_h side))
    where
      away : (t u v : Bool) → (t && u) ≡ false → ((t && u && v) || false) ≡ false
      away true true v e = ap (λ w. (w && v) || false) e
      away true false v e = refl
      away false u v e = refl
