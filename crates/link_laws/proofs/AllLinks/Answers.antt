-- What a side says in answer to what a step brought, over all links of a run.
use Rattle.std.proofs.Common.{◌≡◌, ℕ, ◌||◌, inl, inr, List, [], ◌∷◌, ◌++◌, true, false, Bool, cond}
use Rattle.std.proofs.Common.{refl, sym, ◌∙◌, subst, filter}
use Rattle.std.specs.List.{AllByRecursion}
use Rattle.std.proofs.lemmas.Bool.{or_cases}
use Rattle.linx_base.specs.Peers.{same_inc}
use Rattle.linx_base.specs.declared.identity.Inc.{Inc}
use Rattle.linx_base.specs.declared.identity.LinkNo.{LinkNo}
use Rattle.linx_base.specs.declared.identity.Peer.TheVariants.{Here}
use Rattle.linx_base.specs.declared.identity.Side.{Side}
use Rattle.trunk_record.specs.Changes.{saying}
use Rattle.trunk_record.specs.Records.{SideRecord}
use Rattle.trunk_record.specs.Sayings.{Said, is_live, is_signal, published}
use Rattle.journal.specs.History.{name_of}
use Rattle.journal.specs.Living.{is_alive}
use Rattle.journal.specs.Shapes.{Shape}
use Rattle.journal.specs.declared.effect.Step.{Step}
use Rattle.journal.proofs.Openings.{same_inc-true}
use Rattle.link_laws.specs.Ends.{IsLinkOf, node_at}
use Rattle.link_laws.specs.Sides.{AllLinked, AllPublishedOpen, Trunks}
use Rattle.link_laws.specs.Linked.{IsLinked, IsTrueOf}
use Rattle.link_laws.specs.Moves.{questions}
use Rattle.link_laws.specs.Promises.{ArePublishedOpen}
use Rattle.link_laws.proofs.Sides.Keeps.{says_now}
use Rattle.link_laws.proofs.AllLinks.OneSideKept.{one_restated}
use Rattle.link_laws.proofs.Endpoints.OpenAfterStep.{open-opened}
use Rattle.link_laws.proofs.Promises.FromRecords.{IsOpenNow, published-saying}
use Rattle.link_laws.proofs.AllLinks.OthersStay.{with_side}

questions-no_signal : (names : List (List ℕ)) → filter is_signal (questions names) ≡ []
questions-no_signal [] = refl
questions-no_signal (v ∷ names) = questions-no_signal names

questions-true : (Q : List Step) (n : ℕ) (names : List (List ℕ))
    → AllByRecursion (IsTrueOf Q n) (questions names)
questions-true Q n [] = tt
questions-true Q n (v ∷ names) = (tt, questions-true Q n names)

questions-open : (Q : List Step) (names : List (List ℕ))
    → AllByRecursion (IsOpenNow Q) (questions names)
questions-open Q [] = tt
questions-open Q (v ∷ names) = (tt, questions-open Q names)

questions-live : (i : Inc) (names : List (List ℕ)) (said : List Said)
    → is_live i (questions names ++ said) ≡ is_live i said
questions-live i [] said = refl
questions-live i (v ∷ names) said = questions-live i names said

module _ (shape : Shape) (Q : List Step) (trunks : Trunks) (l : LinkNo) (at : Side)
    (of_shape : IsLinkOf shape l) (A : SideRecord) where
  abbrev n : ℕ
  n = node_at shape l at

  -- the side asks for names
  pub asks_linked : (names : List (List ℕ)) → AllLinked shape Q (with_side trunks l.0 at A)
      → AllLinked shape Q (with_side trunks l.0 at (saying (questions names) A))
  asks_linked names linked =
      one_restated shape (λ h side C. IsLinked Q (node_at shape h side) h C) trunks l at A
      (saying (questions names) A) of_shape linked
      (λ it. says_now Q n l A (questions names) it (questions-no_signal names)
      (questions-true Q n names)
      (λ i is. it.live i (sym (questions-live i names A.now.said) ∙ is)))

  pub asks_opened : (names : List (List ℕ)) → AllPublishedOpen shape Q (with_side trunks l.0 at A)
      → AllPublishedOpen shape Q (with_side trunks l.0 at (saying (questions names) A))
  asks_opened names opened =
      one_restated shape (λ h side C. ArePublishedOpen Q (node_at shape h side) h C) trunks l at A
      (saying (questions names) A) of_shape opened
      (λ it. published-saying Q n l A (questions names) (questions-open Q names) it)

  -- the side publishes an open endpoint by its name, or says nothing
  abbrev pub answer_if : Bool → Inc → List ℕ → List Said
  answer_if live i v = cond live [] (published i v ∷ [])

  pub offers_linked : (i : Inc) (v : List ℕ) (t : Bool) → is_alive Q n (Here i) ≡ true
      → name_of Q i ≡ v → AllLinked shape Q (with_side trunks l.0 at A)
      → AllLinked shape Q (with_side trunks l.0 at (saying (answer_if t i v) A))
  offers_linked i v true open_now named linked = linked
  offers_linked i v false open_now named linked =
      one_restated shape (λ h side C. IsLinked Q (node_at shape h side) h C) trunks l at A
      (saying (published i v ∷ []) A) of_shape linked
      (λ it. says_now Q n l A (published i v ∷ []) it refl
      ((open-opened Q n i open_now, named), tt) (live it))
    where
      live : IsLinked Q (node_at shape l at) l A → (j : Inc)
          → (same_inc j i || is_live j A.now.said) ≡ true
          → is_alive Q (node_at shape l at) (Here j) ≡ true
      live it j is =
          elim (or_cases (same_inc j i) (is_live j A.now.said) is) [
            | inl same ↦ subst (λ (k : Inc). is_alive Q (node_at shape l at) (Here k) ≡ true)
                (sym (same_inc-true j i same)) open_now
            | inr was ↦ it.live j was
          ]

  pub offers_opened : (i : Inc) (v : List ℕ) (t : Bool) → IsOpenNow Q (published i v)
      → AllPublishedOpen shape Q (with_side trunks l.0 at A)
      → AllPublishedOpen shape Q (with_side trunks l.0 at (saying (answer_if t i v) A))
  offers_opened i v true open_now opened = opened
  offers_opened i v false open_now opened =
      one_restated shape (λ h side C. ArePublishedOpen Q (node_at shape h side) h C) trunks l at A
      (saying (published i v ∷ []) A) of_shape opened
      (λ it. published-saying Q n l A (published i v ∷ []) (open_now, tt) it)
