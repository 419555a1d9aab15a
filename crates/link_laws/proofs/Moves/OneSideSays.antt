-- A side that says more in a step that touches no side.
use Rattle.std.proofs.Common.{◌≡◌, ◌≢◌, ℕ, ◌≤◌, Bool, true, false, cond, ◌⊎◌, inl, inr, List, []}
use Rattle.std.proofs.Common.{◌∷◌, ◌++◌, None, refl, sym, ◌∙◌, subst, filter}
use Rattle.std.specs.List.{list_any, AllByRecursion}
use Rattle.linx_base.specs.Sides.{other_of}
use Rattle.linx_base.specs.declared.identity.Inc.{Inc}
use Rattle.linx_base.specs.declared.identity.LinkNo.{LinkNo}
use Rattle.linx_base.specs.declared.identity.Peer.TheVariants.{Here}
use Rattle.linx_base.specs.declared.identity.Side.{Side}
use Rattle.trunk_record.specs.Changes.{saying}
use Rattle.trunk_record.specs.Records.{SideRecord, has_session}
use Rattle.trunk_record.specs.Sayings.{IsProper, Said, is_live, is_signal}
use Rattle.trunk_record.specs.Trunks.{IsHalf}
use Rattle.trunk_record.proofs.Changes.{half_of_saying, half_saying}
use Rattle.journal.specs.Living.{is_alive}
use Rattle.journal.specs.Shapes.{Shape}
use Rattle.journal.specs.declared.effect.Step.{Step}
use Rattle.link_laws.specs.Ends.{HasTwoEnds, IsLinkOf, node_at}
use Rattle.link_laws.specs.Sides.{AllHunted, AllLinked, AreLinksKept, Links, records_of}
use Rattle.link_laws.specs.Linked.{IsTrueOf}
use Rattle.link_laws.specs.Moves.{OthersLeft}
use Rattle.link_laws.specs.Sessions.{tells_heard}
use Rattle.link_laws.proofs.Sides.Acts.{keeps_quiet}
use Rattle.link_laws.proofs.Moves.Shown.{TouchesNone, opens-nothing}
use Rattle.link_laws.proofs.Hunts.ManySides.{back_half}
use Rattle.link_laws.proofs.Sides.Keeps.{keeps_saying}
use Rattle.link_laws.proofs.AllLinks.OneSideKept.{one_kept, silence-side}
use Rattle.link_laws.proofs.Promises.FromRecords.{IsOpenNow}
use Rattle.link_laws.proofs.AllLinks.Publishings.{RaisesNone, opened_saying}
use Rattle.link_laws.proofs.AllLinks.OthersStay.{one_side, with_side}

-- a side says nothing, or is up and says what is proper
abbrev pub SaysWell : SideRecord → List Said → Type 0
SaysWell A ws = (ws ≡ []) ⊎ ((A.now.peer ≢ None) × IsProper (ws ++ A.now.said))

-- that keeps its half
pub says_half : (A B : SideRecord) (ws : List Said) → SaysWell A ws → IsHalf A B
    → IsHalf (saying ws A) B
says_half A B ws (inl none) half = subst (λ (k : List Said). IsHalf (saying k A) B) (sym none) half
says_half A B ws (inr both) half = half_saying A B ws half both.1 both.0

module _ (shape : Shape) (P : List Step) (s : Step) (before after : Links) (l : LinkNo) (at : Side)
    (two : HasTwoEnds shape) (of_shape : IsLinkOf shape l)
    (others : OthersLeft shape before after l at) (kept : AreLinksKept shape P before)
    (ws : List Said) where
  abbrev n : ℕ
  n = node_at shape l at

  abbrev A : SideRecord
  A = (before l.0 at).side

  abbrev B : SideRecord
  B = (before l.0 (other_of at)).side

  -- what has to be known of the side and of the step
  pub record IsSaidOn : Type 0 where
    pub made : (after l.0 at).side ≡ saying ws A
    pub well : SaysWell A ws
    pub linked : AllLinked shape (s ∷ P) (with_side (records_of before) l.0 at (saying ws A))
    pub raises_none : RaisesNone s
    pub open_now : AllByRecursion (IsOpenNow (s ∷ P)) ws
    pub hunted : AllHunted shape (s ∷ P) after
    pub silent : (after l.0 at).silent ≤ (before l.0 at).silent
    pub quiet : (k h : ℕ) → list_any (tells_heard k h) s.effects ≡ false

  pub said_kept : IsSaidOn → AreLinksKept shape (s ∷ P) after
  said_kept it = one_kept shape P s before after l at two of_shape others kept (saying ws A)
      (record {
        made = it.made;
        near = says_half A B ws it.well (kept.trunks l of_shape at);
        far = half_of_saying A B ws (back_half shape (records_of before) kept.trunks l of_shape at);
        linked = it.linked;
        opened = opened_saying shape P (records_of before) s kept.opened l at two of_shape ws
            it.raises_none it.open_now;
        hunted = it.hunted;
        silent = silence-side P s n l.0 at (before l.0 at).silent (after l.0 at).silent
            (kept.silent l of_shape at) it.silent (it.quiet n l.0);
        quiet = λ h side apart. it.quiet (node_at shape h side) h.0;
      })

  -- what it says without a signal is true and leaves live who is open
  pub linked_says : TouchesNone P s → filter is_signal ws ≡ []
      → AllByRecursion (IsTrueOf (s ∷ P) n) ws
      → ((i : Inc) → is_live i (ws ++ A.now.said) ≡ true → is_alive (s ∷ P) n (Here i) ≡ true)
      → AllLinked shape (s ∷ P) (with_side (records_of before) l.0 at (saying ws A))
  linked_says quiet none truly live =
      one_side shape (s ∷ P) (records_of before) l at (saying ws A) two of_shape
      (keeps_saying P s quiet.es quiet.items quiet.done n l A ws (kept.linked l of_shape at)
      (quiet.touches_none n l.0) (quiet.stays n) (opens-nothing P quiet.es quiet.opens_none)
      (λ x. quiet.says_none n l.0 x ∙ no_signals (has_session x A.now)) truly live)
      (λ h side of_h apart.
      keeps_quiet P s quiet.es quiet.items quiet.done (node_at shape h side) h
      (records_of before h.0 side) (kept.linked h of_h side)
      (quiet.touches_none (node_at shape h side) h.0) (quiet.stays (node_at shape h side))
      (opens-nothing P quiet.es quiet.opens_none)
      (λ x. quiet.says_none (node_at shape h side) h.0 x) (λ i lives. quiet.closes_none i))
    where
      no_signals : (t : Bool) → (let nothing : List Said = [] in nothing)
          ≡ cond t (filter is_signal ws) []
      no_signals true = sym none
      no_signals false = refl
