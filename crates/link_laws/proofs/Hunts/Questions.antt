-- Where pending hunts stand, when the other side hears a question.
use Rattle.std.proofs.Common.{◌≡◌, ℕ, Bool, true, false, cond, not, ◌||◌, ◌&&◌, ◌⊎◌, inl, inr, List}
use Rattle.std.proofs.Common.{[], ◌∷◌, ◌++◌, map, refl, sym, ◌∙◌, ap, subst, append_assoc, bytes_eq}
use Rattle.std.proofs.Common.{true≢false, eq-eqb}
use Rattle.std.specs.List.{list_any, AllByRecursion}
use Rattle.std.proofs.Math.Bool.{or-false}
use Rattle.std.proofs.lemmas.Bool.{or_cases, or_left, or_right}
use Rattle.std.proofs.lemmas.List.{append_cancel_right}
use Rattle.std.proofs.lemmas.List.Folds.{list_any-append}
use Rattle.linx_base.specs.Peers.{same_inc}
use Rattle.linx_base.specs.Pending.{is_for}
use Rattle.linx_base.specs.declared.name.Path.TheVariants.{Over}
use Rattle.linx_base.specs.declared.identity.Inc.{Inc}
use Rattle.linx_base.specs.declared.identity.LinkNo.{LinkNo}
use Rattle.linx_base.specs.declared.identity.Peer.TheVariants.{Here, There}
use Rattle.trunk_record.specs.Changes.{giving, saying}
use Rattle.trunk_record.specs.Records.{SideRecord, given_in, session_if}
use Rattle.trunk_record.specs.Sayings.{Said, published, asked, signaled, unpublished, asked_for}
use Rattle.trunk_record.specs.Sayings.{heard_as, is_live}
use Rattle.journal.specs.History.{name_of}
use Rattle.journal.specs.Living.{is_alive}
use Rattle.journal.specs.Pending.{hunting}
use Rattle.journal.specs.declared.effect.Step.{Step}
use Rattle.link_laws.specs.Linked.{IsLinked, IsTrueOf, is_session, IsTalking, asks, offers}
use Rattle.link_laws.specs.Linked.{HuntStands, asking, waiting, coming, AreHunted, HasNone}
use Rattle.link_laws.specs.Linked.{IsUnfound}
use Rattle.trunk_record.proofs.Lookups.{given-now}
use Rattle.trunk_record.proofs.Sayings.{same_inc-is}
use Rattle.link_laws.proofs.Endpoints.Names.{bytes_eq-is, bytes_eq-itself}

-- an incarnation that is live was published lately, by its name, or is live in what was heard
pub live-parts : (P : List Step) (m : ℕ) (i : Inc) (later before : List Said)
    → AllByRecursion (IsTrueOf P m) (later ++ before) → is_live i (later ++ before) ≡ true
    → (list_any (offers (name_of P i)) later ≡ true) ⊎ (is_live i before ≡ true)
live-parts P m i [] before truly is = inr is
live-parts P m i (published j name ∷ later) before truly is =
    elim (or_cases (same_inc i j) (is_live i (later ++ before)) is) [
      | inl e ↦
          let same : i ≡ j = same_inc-is i j e in
          let named : name_of P i ≡ name = ap (name_of P) same ∙ truly.0.1 in
          inl (or_left (bytes_eq (name_of P i) name) (list_any (offers (name_of P i)) later)
          (ap (bytes_eq (name_of P i)) (sym named) ∙ bytes_eq-itself (name_of P i)))
      | inr e ↦ elim (live-parts P m i later before truly.1 e) [
        | inl f ↦ inl (or_right (bytes_eq (name_of P i) name)
            (list_any (offers (name_of P i)) later) f)
        | inr f ↦ inr f
      ]
    ]
live-parts P m i (asked name ∷ later) before truly is = live-parts P m i later before truly.1 is
live-parts P m i (signaled a b note ∷ later) before truly is =
    live-parts P m i later before truly.1 is
live-parts P m i (unpublished j ∷ later) before truly is =
    live-parts P m i later before truly.1 (second (same_inc i j) is)
  where
    second : (t : Bool) → (not t && is_live i (later ++ before)) ≡ true
        → is_live i (later ++ before) ≡ true
    second true e = absurd (true≢false (sym e))
    second false e = e

-- a step after which no hunt over a link and no open name is new
pub record IsSameHere (P Q : List Step) (n m : ℕ) (l : LinkNo) : Type 0 where
  pub hunts : (w : List ℕ) → list_any (is_for (Over l w)) (hunting Q n) ≡ true
      → list_any (is_for (Over l w)) (hunting P n) ≡ true
  pub none : (v : List ℕ) → HasNone P m v → HasNone Q m v

-- the last to be heard of what was said
pub end-parts : (p : Said → Bool) (later : List Said) (w : Said)
    → list_any p (later ++ w ∷ []) ≡ true → (list_any p later ≡ true) ⊎ (p w ≡ true)
end-parts p later w is =
    elim (or_cases (list_any p later) (p w || false)
    (sym (list_any-append p later (w ∷ [])) ∙ is)) [
      | inl e ↦ inl e
      | inr e ↦ inr (sym (or-false (p w)) ∙ e)
    ]

module _ (P Q : List Step) (n m : ℕ) (l : LinkNo) (A B : SideRecord) (noted : List (List ℕ))
    (v : List ℕ) (same : IsSameHere P Q n m l) (hunts : AreHunted P n m l A B noted) where
  hunts_were : (w : List ℕ) → list_any (is_for (Over l w)) (hunting Q n) ≡ true
      → list_any (is_for (Over l w)) (hunting P n) ≡ true
  hunts_were w is = same.hunts w is

  -- before the question was heard it was on its way
  abbrev before_asked : (ws : List Said) → (talk : IsTalking A (saying ws (giving (asked_for v) B)))
      → (to_near : List Said) → B.now.said ≡ to_near ++ map heard_as A.now.given → IsTalking A B
  before_asked ws talk to_near answered = record {
    pair = talk.pair;
    back = talk.back;
    to_far = talk.to_far ++ asked v ∷ [];
    to_near = to_near;
    said = talk.said ∙ sym (append_assoc talk.to_far (asked v ∷ []) (map heard_as B.now.given));
    answered = answered;
  }

  -- THE QUESTION IS HEARD where no endpoint has the name: it is noted
  pub hunts_noted : HasNone P m v → AreHunted Q n m l A (giving (asked_for v) B) (v ∷ noted)
  hunts_noted none = record {
    asked_all = λ w up is. hunts.asked_all w up (hunts_were w is);
    stand = λ talk w is. stands talk w (hunts.stand
        (before_asked [] talk talk.to_near talk.answered) w (hunts_were w is));
  }
    where
      stands : (talk : IsTalking A (giving (asked_for v) B)) (w : List ℕ)
          → HuntStands P m noted w (talk.to_far ++ asked v ∷ []) talk.to_near
          → HuntStands Q m (v ∷ noted) w talk.to_far talk.to_near
      stands talk w (asking is) =
          elim (end-parts (asks w) talk.to_far (asked v) is) [
            | inl e ↦ asking e
            | inr e ↦ waiting (or_left (bytes_eq w v) (list_any (bytes_eq w) noted) e)
                (same.none w (subst (HasNone P m) (sym (bytes_eq-is w v e)) none))
          ]
      stands talk w (waiting is has_none) = waiting
          (or_right (bytes_eq w v) (list_any (bytes_eq w) noted) is) (same.none w has_none)
      stands talk w (coming is) = coming is

  -- and where an open endpoint has it, that one is published, or was already
  pub hunts_offered : (i : Inc) (near_before : List Said)
      → B.now.said ≡ near_before ++ map heard_as A.now.given → is_alive P m (Here i) ≡ true
      → name_of P i ≡ v → IsLinked P n l A → IsLinked P m l B
      → ((w : List ℕ) → list_any (is_for (Over l w)) (hunting P n) ≡ true → IsUnfound P n l w)
      → (noted' : List (List ℕ)) → ((w : List ℕ) → bytes_eq w v ≡ false
      → list_any (bytes_eq w) noted ≡ true → list_any (bytes_eq w) noted' ≡ true) →
      AreHunted Q n m l A (saying (cond (is_live i B.now.said) [] (published i v ∷ []))
      (giving (asked_for v) B)) noted'
  hunts_offered i near_before answered open_ named near far unfound noted' noted_still = record {
    asked_all = λ w up is. hunts.asked_all w up (hunts_were w is);
    stand = λ talk w is. by_life (is_live i B.now.said) refl talk w (hunts_were w is);
  }
    where
      B' : Bool → SideRecord
      B' t = saying (cond t [] (published i v ∷ [])) (giving (asked_for v) B)

      -- a name that waits is another one
      waits : (to_far to_near : List Said) (w : List ℕ) → list_any (bytes_eq w) noted ≡ true
          → HasNone P m w → HuntStands Q m noted' w to_far to_near
      waits to_far to_near w is none =
          let other_name : bytes_eq w v ≡ false = ap (bytes_eq w) (sym named) ∙ none i open_ in
          waiting (noted_still w other_name is) (same.none w none)

      by_life : (t : Bool) → is_live i B.now.said ≡ t
          → (talk : IsTalking A (saying (cond t [] (published i v ∷ [])) (giving (asked_for v) B)))
          (w : List ℕ) → list_any (is_for (Over l w)) (hunting P n) ≡ true
          → HuntStands Q m noted' w talk.to_far talk.to_near
      by_life true live talk w is = stands (hunts.stand
          (before_asked [] talk talk.to_near talk.answered) w is)
        where
          offered : bytes_eq w v ≡ true → list_any (offers w) talk.to_near ≡ true
          offered e =
              let same_name : w ≡ name_of P i = bytes_eq-is w v e ∙ sym named in
              elim (live-parts P m i talk.to_near (map heard_as A.now.given)
              (subst (AllByRecursion (IsTrueOf P m)) talk.answered far.truly.0)
              (ap (is_live i) (sym talk.answered) ∙ live)) [
                | inl late ↦ ap (λ u. list_any (offers u) talk.to_near) same_name ∙ late
                | inr heard ↦ absurd (true≢false (sym (ap (bytes_eq w) (sym same_name)
                    ∙ bytes_eq-itself w) ∙ unfound w is A.now.session i (alive heard)))
              ]
            where
              alive : is_live i (map heard_as A.now.given) ≡ true
                  → is_alive P n (There l A.now.session i) ≡ true
              alive heard =
                  near.living A.now.session i
                  ∙ ap (λ p. is_session A.now.session (session_if p A.now.session) && is_live i
                  (map heard_as (given_in A A.now.session))) talk.pair
                  ∙ ap (λ t. t && is_live i (map heard_as (given_in A A.now.session)))
                  (eq-eqb A.now.session.0 A.now.session.0 refl)
                  ∙ ap (λ given. is_live i (map heard_as given)) (given-now A) ∙ heard

          stands : HuntStands P m noted w (talk.to_far ++ asked v ∷ []) talk.to_near
              → HuntStands Q m noted' w talk.to_far talk.to_near
          stands (asking on_way) =
              elim (end-parts (asks w) talk.to_far (asked v) on_way) [
                | inl e ↦ asking e
                | inr e ↦ coming (offered e)
              ]
          stands (waiting in_notes none) = waits talk.to_far talk.to_near w in_notes none
          stands (coming on_way) = coming on_way
      by_life false unknown talk w is = stands (hunts.stand
          (before_asked (published i v ∷ []) talk near_before answered) w is)
        where
          more : talk.to_near ≡ published i v ∷ near_before
          more = append_cancel_right talk.to_near (published i v ∷ near_before)
              (map heard_as A.now.given) (sym talk.answered ∙ ap (λ k. published i v ∷ k) answered)

          stands : HuntStands P m noted w (talk.to_far ++ asked v ∷ []) near_before
              → HuntStands Q m noted' w talk.to_far talk.to_near
          stands (asking on_way) =
              elim (end-parts (asks w) talk.to_far (asked v) on_way) [
                | inl e ↦ asking e
                | inr e ↦ coming (ap (list_any (offers w)) more
                    ∙ or_left (bytes_eq w v) (list_any (offers w) near_before) e)
              ]
          stands (waiting in_notes none) = waits talk.to_far talk.to_near w in_notes none
          stands (coming on_way) = coming (ap (list_any (offers w)) more
              ∙ or_right (bytes_eq w v) (list_any (offers w) near_before) on_way)
