-- What links are asked for is answered alike where their trunks are alike.
use Rattle.std.proofs.Common.{◌≡◌, ℕ, zero, suc, ◌≤◌, Bool, true, false, cond, not, List, length}
use Rattle.std.proofs.Common.{Option, Some, None, refl, ◌∙◌, ap, subst, arith, ◌&&◌, nat_le, nat_lt}
use Rattle.std.proofs.Common.{leb-true, ltb-true}
use Rattle.std.proofs.lemmas.Bool.{and_parts}
use Rattle.linx_base.specs.declared.identity.LinkNo.{LinkNo}
use Rattle.journal.specs.Shapes.{Shape}
use Rattle.journal.specs.declared.effect.Step.{Step}
use Rattle.link_laws.specs.Ends.{IsLinkOf}
use Rattle.link_laws.specs.Sessions.{is_cut}
use Rattle.script_lang.specs.Parts.{ScriptParts}
use Rattle.trunk.specs.Events.{TrunkState}
use Rattle.trunk_moves.specs.Trunks.{Become, RunTrunks}
use Rattle.fabric.specs.Links.{no_link_stirs, none_stirs, stirs, stirs_if}
use Rattle.stage.specs.Pumps.{flying_side, next_ticking, pump_event, settling_event}
use Rattle.stage.specs.Settlings.{Settler, if_stirs, settler_now, settler_of, stirs_on}

-- a number is one of the first so many
abbrev there : LinkNo → ℕ → Bool
there l links = nat_lt 0 l.0 && nat_le l.0 links

there-is : (shape : Shape) (l : LinkNo) → there l (length shape.links) ≡ true → IsLinkOf shape l
there-is shape l is =
    let parts = and_parts (nat_lt 0 l.0) (nat_le l.0 (length shape.links)) is in
    (ltb-true 0 l.0 parts.0, leb-true l.0 (length shape.links) parts.1)

-- who settles a link settles one of the shape
pub settled_there : (shape : Shape) (P : List Step) (trunks : RunTrunks) (o : Option Settler)
    (w : Settler) → if_stirs shape P trunks o ≡ Some w → IsLinkOf shape w.link
settled_there shape P trunks None w is = cc
settled_there shape P trunks (Some v) w is = go (stirs_on shape P trunks v.link) refl is
  where
    go : (b : Bool) → stirs_on shape P trunks v.link ≡ b → cond b (Some v) None ≡ Some w
        → IsLinkOf shape w.link
    go false e is = cc
    go true e is =
        let it : v ≡ w = cc in
        let both = and_parts (there v.link (length shape.links)) (stirs P trunks v.link.0) e in
        subst (λ (x : Settler). IsLinkOf shape x.link) it (there-is shape v.link both.0)

module _ (shape : Shape) (P : List Step) (one two : RunTrunks) (same : Become shape one two) where
  -- ---- of a link of the shape

  module _ (l : LinkNo) (of_shape : IsLinkOf shape l) where
    -- whether it stirs
    pub stirs_alike : stirs P one l.0 ≡ stirs P two l.0
    stirs_alike = ap (stirs_if (is_cut P l.0)) (same l of_shape)

    -- whose packet comes next
    pub flying_alike : flying_side (one l.0) ≡ flying_side (two l.0)
    flying_alike = ap flying_side (same l of_shape)

    -- which side ticks next
    pub ticking_alike : next_ticking P one l ≡ next_ticking P two l
    ticking_alike = ap (λ (t : TrunkState). next_ticking P (λ (k : ℕ). t) l) (same l of_shape)

    -- what its pump asks for
    pub pump_alike : (script : ScriptParts) → pump_event script P one l ≡ pump_event script P two l
    pump_alike script =
        ap (λ (t : TrunkState). pump_event script P (λ (k : ℕ). t) l) (same l of_shape)

    -- what it asks for where the link is settled
    pub settling_alike : settling_event P one l ≡ settling_event P two l
    settling_alike = ap (λ (t : TrunkState). settling_event P (λ (k : ℕ). t) l) (same l of_shape)

  -- ---- of all of them

  -- whether it is one that stirs
  pub stirs_on_alike : (l : LinkNo) → stirs_on shape P one l ≡ stirs_on shape P two l
  stirs_on_alike l = go (there l (length shape.links)) refl
    where
      go : (b : Bool) → there l (length shape.links) ≡ b
          → stirs_on shape P one l ≡ stirs_on shape P two l
      go false is = rw is refl
      go true is =
          ap (λ (b : Bool). there l (length shape.links) && b) (stirs_alike l (there-is shape l is))

  pub if_stirs_alike : (o : Option Settler) → if_stirs shape P one o ≡ if_stirs shape P two o
  if_stirs_alike None = refl
  if_stirs_alike (Some w) = ap (λ (b : Bool). cond b (Some w) None) (stirs_on_alike w.link)

  -- who settles one
  pub settler_alike : settler_now shape P one ≡ settler_now shape P two
  settler_alike = if_stirs_alike (settler_of P)

  none_alike : (n : ℕ) → n ≤ length shape.links → none_stirs P one n ≡ none_stirs P two n
  none_alike zero within = refl
  none_alike (suc n) within =
      ap (λ (b : Bool). b && not (stirs P one (suc n))) (none_alike n (omega arith))
      ∙ ap (λ (b : Bool). none_stirs P two n && not b)
      (stirs_alike (record { 0 = suc n }) (omega arith, within))

  -- whether none stirs
  pub still_alike : no_link_stirs shape P one ≡ no_link_stirs shape P two
  still_alike = none_alike (length shape.links) (omega arith)
