-- A LINK IS STILL exactly where both its ends tell so.
use Rattle.std.proofs.Common.{◌≡◌, ℕ, ◌<◌, Bool, true, false, not, ◌&&◌, List, [], ◌∷◌}
use Rattle.std.proofs.Common.{length, Option, Some, ◌∙◌, None, is_none, refl, sym, ap, subst, true≢false, if◌then◌else◌}
use Rattle.std.specs.List.{list_any, AllByRecursion}
use Rattle.std.proofs.lemmas.Bool.{and_parts, not-true}
use Rattle.linx_base.specs.declared.identity.LinkNo.{LinkNo}
use Rattle.linx_base.specs.declared.identity.NodeNo.{NodeNo}
use Rattle.linx_base.specs.declared.identity.Session.{Session}
use Rattle.linx_base.specs.declared.identity.Side.TheVariants.{First, Second}
use Rattle.journal.specs.declared.effect.Step.{Step}
use Rattle.journal.specs.Pending.{hunting}
use Rattle.journal.specs.Sessions.{up_session}
use Rattle.journal.specs.Shapes.{Shape}
use Rattle.link_laws.specs.Ends.{node_at}
use Rattle.link_laws.specs.Sessions.{is_cut}
use Rattle.link_laws.specs.Still.{IsStill, IsStillWhole, cut, whole}
use Rattle.node_kernel.specs.Nodes.{NodeState}
use Rattle.link_tables.specs.Arrivals.{count_in, counts_left}
use Rattle.link_tables.specs.declared.sent.Flow.{Flow}
use Rattle.link_check.specs.Deliveries.{Known, known_left}
use Rattle.link_check.specs.Orderly.{IsOrderly, TellsAlive, TellsNames}
use Rattle.link_check.specs.Rest.{IsSettledHalf}
use Rattle.link_check.specs.Stillness.{Ends, is_settled, is_still, is_still_half, is_still_whole}
use Rattle.link_check.specs.Stillness.{is_stirred, is_unsettled_by}
use Rattle.link_check.specs.declared.rest.Stir.{Stir}
use Rattle.link_check.proofs.Rests.{IsHalfBut, IsStillBut, cut_but, half-settled, whole_but}
use Rattle.link_check.proofs.Stillness.{half-told, settled-told, told-half, told-settled}
use Rattle.link_check.proofs.Stirs.{none-first, none-rest}
use Rattle.link_check.proofs.Tests.{both}

none-up : (o : Option Session) → is_none o ≡ true → o ≡ None
none-up None is = refl
none-up (Some x) is = absurd (true≢false (sym is))

-- what is known of the node at one end
pub record TellsEnd (P : List Step) (l : LinkNo) (at : NodeNo) (node : NodeState) : Type 0 where
  pub alive : TellsAlive P at.0 l node
  pub names : TellsNames P at.0 node
  pub hunts : node.hunts ≡ hunting P at.0
  pub orderly : IsOrderly P at.0 l

module _ (shape : Shape) (P : List Step) (l : LinkNo) (near far : NodeState) (at other : NodeNo)
    (arrived : List (Flow × ℕ)) (counted : (f : Flow) → count_in arrived f ≡ counts_left P f)
    (short : length P < 4294967294) (first : node_at shape l First ≡ at.0)
    (second : node_at shape l Second ≡ other.0) (here : TellsEnd P l at near)
    (there : TellsEnd P l other far) where
  abbrev d : Known
  d = known_left P near at other l First arrived

  abbrev e : Known
  e = known_left P far other at l Second arrived

  abbrev n : ℕ
  n = at.0

  abbrev m : ℕ
  m = other.0

  abbrev pub ends : Ends
  ends = record { first = d; second = e; cut = is_cut P l.0 }

  by-sessions : (first_up second_up : Option Session) → up_session P n l.0 ≡ first_up
      → up_session P m l.0 ≡ second_up → is_still_whole d e first_up second_up ≡ true
      → (x : Session) × ((y : Session) × IsStillWhole P n m l x y)
  by-sessions None o up other_up is = absurd (true≢false (sym is))
  by-sessions (Some x) None up other_up is = absurd (true≢false (sym is))
  by-sessions (Some x) (Some y) up other_up is =
      let halves = and_parts (is_still_half d e x y) (is_still_half e d y x) is in (
        x,
        (
          y,
          record {
            there = half-told P near far at other l First arrived counted short here.alive
                here.orderly there.alive there.names here.hunts x y up halves.0;
            back = half-told P far near other at l Second arrived counted short there.alive
                there.orderly here.alive here.names there.hunts y x other_up halves.1;
          },
        ),
      )

  pub still-told : is_still ends ≡ true → IsStill shape P l
  still-told is = go (is_cut P l.0) refl is
    where
      go : (b : Bool) → is_cut P l.0 ≡ b
          → (if b then is_none (up_session P n l.0) && is_none (up_session P m l.0)
          else is_still_whole d e (up_session P n l.0) (up_session P m l.0)) ≡ true
          → IsStill shape P l
      go true off down =
          let halves = and_parts (is_none (up_session P n l.0)) (is_none (up_session P m l.0)) down in
          cut off
          (subst (λ (i : ℕ). up_session P i l.0 ≡ None) (sym first)
          (none-up (up_session P n l.0) halves.0))
          (subst (λ (i : ℕ). up_session P i l.0 ≡ None) (sym second)
          (none-up (up_session P m l.0) halves.1))
      go false on told =
          let all = by-sessions (up_session P n l.0) (up_session P m l.0) refl refl told in
          whole on all.0 all.1.0
          (subst (λ (i : ℕ). IsStillWhole P i (node_at shape l Second) l all.0 all.1.0) (sym first)
          (subst (λ (i : ℕ). IsStillWhole P n i l all.0 all.1.0) (sym second) all.1.1))

  told-whole : (x y : Session) → IsStillWhole P n m l x y
      → is_still_whole d e (up_session P n l.0) (up_session P m l.0) ≡ true
  told-whole x y all =
      subst (λ (o : Option Session). is_still_whole d e o (up_session P m l.0) ≡ true)
      (sym all.there.up)
      (subst (λ (o : Option Session). is_still_whole d e (Some x) o ≡ true) (sym all.back.up)
      (both (is_still_half d e x y) (is_still_half e d y x)
      (told-half P near far at other l First arrived counted short here.alive here.orderly
      there.alive there.names here.hunts x y all.there.up all.there)
      (told-half P far near other at l Second arrived counted short there.alive there.orderly
      here.alive here.names there.hunts y x all.back.up all.back)))

  pub told-still : IsStill shape P l → is_still ends ≡ true
  told-still (cut off down other_down) =
      subst (λ (b : Bool). (if b then is_none (up_session P n l.0) && is_none (up_session P m l.0)
      else is_still_whole d e (up_session P n l.0) (up_session P m l.0)) ≡ true) (sym off)
      (both (is_none (up_session P n l.0)) (is_none (up_session P m l.0))
      (ap (λ (o : Option Session). is_none o)
      (subst (λ (i : ℕ). up_session P i l.0 ≡ None) first down))
      (ap (λ (o : Option Session). is_none o)
      (subst (λ (i : ℕ). up_session P i l.0 ≡ None) second other_down)))
  told-still (whole on x y all) =
      subst (λ (b : Bool). (if b then is_none (up_session P n l.0) && is_none (up_session P m l.0)
      else is_still_whole d e (up_session P n l.0) (up_session P m l.0)) ≡ true) (sym on)
      (told-whole x y
      (subst (λ (i : ℕ). IsStillWhole P n i l x y) second
      (subst (λ (i : ℕ). IsStillWhole P i (node_at shape l Second) l x y) first all)))

  -- WHAT WAS STIRRED. Where the link is still but for that, it is still where all is settled
  module _ (stirs : List Stir) where
    settled-half : (p : Stir → Bool) (x y : Session) (i j : ℕ)
        → ((stir : Stir) → p stir ≡ false → IsSettledHalf P i j l x y stir) → (vs : List Stir)
        → list_any p vs ≡ false → AllByRecursion (IsSettledHalf P i j l x y) vs
    settled-half p x y i j each [] none = tt
    settled-half p x y i j each (v ∷ vs) none = (
      each v (none-first (p v) (list_any p vs) none),
      settled-half p x y i j each vs (none-rest (p v) (list_any p vs) none),
    )

    whole-settled : (x y : Session) → IsHalfBut P n m l x y stirs → IsHalfBut P m n l y x stirs
        → list_any (is_unsettled_by d e (Some x) (Some y)) stirs ≡ false → IsStillWhole P n m l x y
    whole-settled x y out back none = record {
      there = half-settled P n m l x y stirs out
          (settled-half (is_unsettled_by d e (Some x) (Some y)) x y n m
          (λ stir calm. settled-told P near far at other l First arrived counted short here.alive
          here.orderly there.alive there.names here.hunts x y out.up out.pair stir
          (none-first (is_stirred d e x y stir) (is_stirred e d y x stir) calm)) stirs none);
      back = half-settled P m n l y x stirs back
          (settled-half (is_unsettled_by d e (Some x) (Some y)) y x m n
          (λ stir calm. settled-told P far near other at l Second arrived counted short there.alive
          there.orderly here.alive here.names there.hunts y x back.up back.pair stir
          (none-rest (is_stirred d e x y stir) (is_stirred e d y x stir) calm)) stirs none);
    }

    pub settled-still : IsStillBut shape l P stirs → is_settled ends stirs ≡ true
        → IsStill shape P l
    settled-still (cut_but off down other_down) is = cut off down other_down
    settled-still (whole_but on x y out back) is =
        whole on x y
        (subst (λ (i : ℕ). IsStillWhole P i (node_at shape l Second) l x y) (sym first)
        (subst (λ (i : ℕ). IsStillWhole P n i l x y) (sym second)
        (whole-settled x y out_is back_is
        (subst (λ (o : Option Session). list_any (is_unsettled_by d e (Some x) o) stirs ≡ false)
        back_is.up
        (subst (λ (o : Option Session).
        list_any (is_unsettled_by d e o (up_session P m l.0)) stirs ≡ false) out_is.up
        (not-true _ is))))))
      where
        out_is : IsHalfBut P n m l x y stirs
        out_is =
            subst (λ (i : ℕ). IsHalfBut P n i l x y stirs) second
            (subst (λ (i : ℕ). IsHalfBut P i (node_at shape l Second) l x y stirs) first out)

        back_is : IsHalfBut P m n l y x stirs
        back_is =
            subst (λ (i : ℕ). IsHalfBut P i n l y x stirs) second
            (subst (λ (i : ℕ). IsHalfBut P (node_at shape l Second) i l y x stirs) first back)

    -- and all is settled where it is still
    none-unsettled : (p : Stir → Bool) → ((stir : Stir) → p stir ≡ false) → (vs : List Stir)
        → list_any p vs ≡ false
    none-unsettled p each [] = refl
    none-unsettled p each (v ∷ vs) = rw (each v) (none-unsettled p each vs)

    settled-in : (x y : Session) → IsStillWhole P n m l x y → (stir : Stir)
        → is_unsettled_by d e (Some x) (Some y) stir ≡ false
    settled-in x y all stir =
        rw (told-settled P near far at other l First arrived counted short here.alive here.orderly
        there.alive there.names here.hunts x y all.there.up all.there stir)
        (told-settled P far near other at l Second arrived counted short there.alive there.orderly
        here.alive here.names there.hunts y x all.back.up all.back stir)

    pub still-settled : IsStill shape P l → is_settled ends stirs ≡ true
    still-settled (cut off down other_down) =
        ap not (none-unsettled (is_unsettled_by d e (up_session P n l.0) (up_session P m l.0))
        (λ stir. ap (λ (o : Option Session). is_unsettled_by d e o (up_session P m l.0) stir)
        (subst (λ (i : ℕ). up_session P i l.0 ≡ None) first down)) stirs)
    still-settled (whole on x y all) =
        ap not (none-unsettled (is_unsettled_by d e (up_session P n l.0) (up_session P m l.0))
        (λ stir. (λ i. is_unsettled_by d e (all_is.there.up i) (all_is.back.up i) stir)
        ∙ settled-in x y all_is stir) stirs)
      where
        all_is : IsStillWhole P n m l x y
        all_is =
            subst (λ (i : ℕ). IsStillWhole P n i l x y) second
            (subst (λ (i : ℕ). IsStillWhole P i (node_at shape l Second) l x y) first all)
