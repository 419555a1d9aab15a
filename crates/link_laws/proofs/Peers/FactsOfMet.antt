-- What is known of each peer that a node meets, is known of its living peers.
use Rattle.std.proofs.Common.{◌≡◌, ℕ, Bool, true, false, cond, List, [], ◌∷◌, ◌++◌, refl, subst}
use Rattle.std.proofs.Common.{◌==◌, filter, fold, eqb-true, true≢false}
use Rattle.std.specs.List.{AllByRecursion}
use Rattle.linx_base.specs.declared.pending.MetPeer.{MetPeer}
use Rattle.journal.specs.Living.{living_after}
use Rattle.journal.specs.declared.effect.Effect.{Effect}
use Rattle.journal.specs.declared.effect.Effect.TheVariants.{Down, Gone, Met}
use Rattle.journal.proofs.Lists.{all-append, all-filter}
use Rattle.link_laws.proofs.Sides.WordsAfterStep.{AreItems, any-items}
use Rattle.link_laws.proofs.Peers.Meetings.{MeetsNone, is_meeting, items-meet_none}

-- a fact of a node and a peer that it meets
module _ (Known : ℕ → MetPeer → Type 0) where
  -- it is known of whom this effect meets
  abbrev pub MeetsKnown : Effect → Type 0
  MeetsKnown (Met n q name) = Known n.0 (record { peer = q; name = name })
  MeetsKnown _ = Unit {0}

  pub living-known : (n : ℕ) (z : List MetPeer) (es : List Effect) → AllByRecursion (Known n) z
      → AllByRecursion MeetsKnown es → AllByRecursion (Known n) (fold (living_after n) z es)
  living-known n z [] was new = was
  living-known n z (e ∷ es) was new =
      living-known n (living_after n z e) es (one e new.0) new.1
    where
      fewer : (t : Bool) (p : MetPeer → Bool) → AllByRecursion (Known n) (cond t (filter p z) z)
      fewer true p = all-filter (Known n) p z was
      fewer false p = was

      more : (t : Bool) (m : MetPeer) → (t ≡ true → Known n m)
          → AllByRecursion (Known n) (cond t (z ++ m ∷ []) z)
      more true m is = all-append (Known n) z (m ∷ []) was (is refl, tt)
      more false m is = was

      one : (e : Effect) → MeetsKnown e → AllByRecursion (Known n) (living_after n z e)
      one (Met k q name) is =
          let m : MetPeer = record { peer = q; name = name } in
          more (k.0 == n) m (λ on. subst (λ (h : ℕ). Known h m) (eqb-true k.0 n on) is)
      one (Gone k q) is = fewer (k.0 == n) _
      one (Down k l x) is = fewer (k.0 == n) _
      one _ is = was

  pub meets_none-known : (es : List Effect) → MeetsNone es → AllByRecursion MeetsKnown es
  meets_none-known [] none = tt
  meets_none-known (Met k q name ∷ es) none = absurd (true≢false none)
  meets_none-known (_ ∷ es) none = (tt, meets_none-known es none)

  pub items-known : (es : List Effect) → AreItems es → AllByRecursion MeetsKnown es
  items-known es are = meets_none-known es (any-items is_meeting items-meet_none es are)
