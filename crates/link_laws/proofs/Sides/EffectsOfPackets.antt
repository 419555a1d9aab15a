-- What the effects of a packet tell of what it brought.
use Rattle.std.proofs.Common.{◌≡◌, ℕ, List, ◌∷◌, refl, sym, ap, ◌∙◌, subst}
use Rattle.linx_base.specs.declared.identity.LinkNo.{LinkNo}
use Rattle.linx_base.specs.declared.identity.Peer.TheVariants.{There}
use Rattle.journal.specs.declared.effect.Effect.{Effect}
use Rattle.journal.specs.declared.effect.Effect.TheVariants.{Arrived, Down, Gone, Met, Up}
use Rattle.journal.specs.declared.effect.Step.{Step}
use Rattle.link_laws.specs.Brought.{Brought, MayBring, arrives, brought_at, goes_down, goes_up}
use Rattle.link_laws.specs.Brought.{meets, nothing, parts}
use Rattle.link_laws.specs.Laws.{ArePacketEffects}

-- what effects tell of what was brought: the first of them decides
abbrev pub brought_by : List Effect → Brought
brought_by (Up n l x y ∷ rest) = goes_up x y
brought_by (Down n l x ∷ rest) = goes_down x
brought_by (Arrived b (There l x a) note ∷ rest) = arrives x a b note
brought_by (Met n (There l x a) name ∷ rest) = meets x a name
brought_by (Gone n (There l x a) ∷ rest) = parts x a
brought_by _ = nothing

-- what was brought is told by its effects
pub told_back : (P : List Step) (n : ℕ) (l : LinkNo) (what : Brought)
    → brought_by (brought_at P n l what) ≡ what
told_back P n l nothing = refl
told_back P n l _ = refl

-- so the law of what it brought is that of what is told
module _ {P : List Step} {n m : ℕ} {l : LinkNo} {es : List Effect}
    (packet : ArePacketEffects P n m l es)
  where
    pub tells : packet.what ≡ brought_by es
    tells = sym (ap brought_by packet.effects ∙ told_back P n l packet.what)

    pub may_told : MayBring P n m l (brought_by es)
    may_told = subst (MayBring P n m l) tells packet.may
