-- A link that isn't cut comes to rest.
use Rattle.std.proofs.Common.{◌≡◌, ◌⊎◌, ◌+◌, ◌-◌, ◌<◌, ◌≤◌, ℕ, zero, suc, Bool, true, false, List}
use Rattle.std.proofs.Common.{◌∷◌, length, refl, ap, ◌∙◌, subst, arith, inl, inr}
use Rattle.linx_base.specs.Sides.{other_of}
use Rattle.linx_base.specs.declared.frame.Verdict.TheVariants.{Deliver}
use Rattle.linx_base.specs.declared.identity.LinkNo.{LinkNo}
use Rattle.linx_base.specs.declared.identity.Side.{Side}
use Rattle.linx_base.specs.declared.identity.Side.TheVariants.{First, Second}
use Rattle.journal.specs.Logs.{is_full}
use Rattle.journal.specs.Shapes.{Shape}
use Rattle.journal.specs.declared.effect.Step.{Step}
use Rattle.journal.specs.declared.head.Head.TheVariants.{Tick, Wire}
use Rattle.link_laws.specs.Ends.{IsLinkOf}
use Rattle.link_laws.specs.Sessions.{cut_after, is_cut}
use Rattle.link_settling.specs.Measure.{Falls, Measure}
use Rattle.link_settling.proofs.Flights.Counting.{no_length}
use Rattle.link_settling.proofs.Flights.Measures.{falls_inducts}
use Rattle.trunk_moves.specs.Steps.{IsBoundedTrunkRun}
use Rattle.trunk_moves.specs.Trunks.{RunTrunks}
use Rattle.run_settling.specs.Laws.{LinkSettlesIn, LinksComeToRest}
use Rattle.run_settling.proofs.Settling.{runs_settle}
use Rattle.run_settling.specs.Asking.{left_over}
use Rattle.run_settling.specs.Resting.{ComesToRest, IsJoined, IsMadeAs, NoneFlies, Settles}
use Rattle.run_settling.specs.Resting.{after_ticks, comes, over, ticks}
use Rattle.run_settling.proofs.Elsewhere.{elsewhere}
use Rattle.run_settling.proofs.Falling.{falls}
use Rattle.run_settling.proofs.Going.{CanMake, can_come, can_tick, goes_on, still_bounded}
use Rattle.run_settling.proofs.InRounds.{rests_in_rounds}

either_le : (n m : ℕ) → (n ≤ m) ⊎ (m < n)
either_le n m = grind arith

module _ (shape : Shape) (l : LinkNo) (of_shape : IsLinkOf shape l) where
  -- a run in which the link settles in n ticks, the next of which is of this side
  record Within (n : ℕ) (side : Side) (P : List Step) (trunks : RunTrunks) : Type 0 where
    pub whole : IsBoundedTrunkRun shape P trunks
    pub settles : LinkSettlesIn n side l trunks

  begins_within : (side : Side) (P : List Step) (trunks : RunTrunks)
      → IsBoundedTrunkRun shape P trunks → Within 6 side P trunks
  begins_within side P trunks whole =
      record { whole = whole; settles = runs_settle.begins shape P trunks whole l of_shape side }

  -- ---- a step of it

  module _ (P : List Step) (before : RunTrunks) (s : Step) (after : RunTrunks) where
    came_within : (n : ℕ) (side from : Side) → Within n side P before
        → IsMadeAs shape P before s after (Wire l from Deliver) → Within n side (s ∷ P) after
    came_within n side from h made =
        record {
          whole = still_bounded shape P before s after (Wire l from Deliver) h.whole made;
          settles =
              runs_settle.comes shape P before s after
              (goes_on shape P before s after (Wire l from Deliver) h.whole made) l from made.is n
              side h.settles;
        }

    came_uncut : (from : Side) → IsMadeAs shape P before s after (Wire l from Deliver)
        → is_cut P l.0 ≡ false → is_cut (s ∷ P) l.0 ≡ false
    came_uncut from made uncut =
        ap (λ head. cut_after l.0 (is_cut P l.0) head) made.is ∙ uncut

    ticked_within : (n : ℕ) (side : Side) → NoneFlies l before → Within (suc n) side P before
        → IsMadeAs shape P before s after (Tick l side)
        → Within n (other_of side) (s ∷ P) after
    ticked_within n side none h made =
        record {
          whole = still_bounded shape P before s after (Tick l side) h.whole made;
          settles =
              runs_settle.ticked shape P before s after
              (goes_on shape P before s after (Tick l side) h.whole made) l side made.is none n
              h.settles;
        }

    ticked_uncut : (side : Side) → IsMadeAs shape P before s after (Tick l side)
        → is_cut P l.0 ≡ false → is_cut (s ∷ P) l.0 ≡ false
    ticked_uncut side made uncut =
        ap (λ head. cut_after l.0 (is_cut P l.0) head) made.is ∙ uncut

  joined : (side : Side) (P : List Step) (trunks : RunTrunks) → Within 0 side P trunks
      → NoneFlies l trunks → IsJoined l trunks
  joined side P trunks h none =
      let quiet = runs_settle.quiet l trunks side none h.settles in
      record {
        quiet = quiet;
        sides = runs_settle.joined shape P trunks h.whole l of_shape quiet;
      }

  -- ---- what was settled so far

  module _ (Q : List Step) (last : RunTrunks) where
    reached : (n count : ℕ) (side : Side) (P : List Step) (trunks : RunTrunks)
        → Settles shape l Q last count side P trunks → Within (count + n) side P trunks
        → Within n (after_ticks count side) Q last
    reached n count side P trunks settling =
        elim settling as (λ k at R now x. Within (k + n) at R now
        → Within n (after_ticks k at) Q last) [
          | over at ↦ λ h. subst (λ k. Within k at Q last) (omega arith) h
          | comes k at from R before s after made (rest → reaches) ↦ λ h.
              reaches (came_within R before s after (k + n) at from h made)
          | ticks k at R before s after none made (rest → reaches) ↦ λ h.
              reaches (ticked_within R before s after (k + n) at none
              (subst (λ m. Within m at R before) (omega arith) h) made)
        ]

    still_uncut : (count : ℕ) (side : Side) (P : List Step) (trunks : RunTrunks)
        → Settles shape l Q last count side P trunks → is_cut P l.0 ≡ false
        → is_cut Q l.0 ≡ false
    still_uncut count side P trunks settling =
        elim settling as (λ k at R now x. is_cut R l.0 ≡ false → is_cut Q l.0 ≡ false) [
          | over at ↦ λ h. h
          | comes k at from R before s after made (rest → stays) ↦ λ h.
              stays (came_uncut R before s after from made h)
          | ticks k at R before s after none made (rest → stays) ↦ λ h.
              stays (ticked_uncut R before s after at made h)
        ]

    -- six ticks are enough, and of more the last six
    rests_after : (count : ℕ) (side : Side) (P : List Step) (trunks : RunTrunks)
        → Settles shape l Q last count side P trunks → IsBoundedTrunkRun shape P trunks
        → NoneFlies l last → 6 ≤ count → IsJoined l last
    rests_after count side P trunks settling =
        elim settling as (λ k at R now x. IsBoundedTrunkRun shape R now → NoneFlies l last → 6 ≤ k
        → IsJoined l last) [
          | over at ↦ λ h still enough. absurd (omega arith)
          | comes k at from R before s after made (rest → rests) ↦ λ h still enough.
              rests (still_bounded shape R before s after (Wire l from Deliver) h made) still enough
          | ticks k at R before s after none made (rest → rests) ↦ λ h still enough.
              elim (either_le 6 k) [
                | inl more ↦
                    rests (still_bounded shape R before s after (Tick l at) h made) still more
                | inr six ↦
                    joined (after_ticks (suc k) at) Q last
                    (reached 0 (suc k) at R before (ticks k at R before s after none made rest)
                    (subst (λ m. Within m at R before) (omega arith) (begins_within at R before h)))
                    still
              ]
        ]

  -- ---- and what is left of it

  -- what follows of a run with this left to do over the link
  abbrev Rests : ℕ → Measure → Type 0
  Rests n e =
      (side : Side) (P : List Step) (trunks : RunTrunks) → left_over l trunks ≡ e
      → Within n side P trunks → is_cut P l.0 ≡ false → ComesToRest shape l n side P trunks

  -- once nothing is in flight, while the journal has room
  abbrev RestsStill : ℕ → Type 0
  RestsStill n =
      (side : Side) (P : List Step) (trunks : RunTrunks) → Within n side P trunks
      → is_cut P l.0 ≡ false → is_full P ≡ false → NoneFlies l trunks
      → ComesToRest shape l n side P trunks

  module _ (n : ℕ) (still : RestsStill n) (e : Measure)
      (less : (f : Measure) → Falls f e → Rests n f) (side : Side) (P : List Step)
      (trunks : RunTrunks) (is : left_over l trunks ≡ e) (h : Within n side P trunks)
      (uncut : is_cut P l.0 ≡ false) where
    -- a packet from this side comes
    by_coming : (from : Side) → CanMake shape P trunks (Wire l from Deliver)
        → ComesToRest shape l n side P trunks
    by_coming from can =
        let fewer = falls shape P trunks can.step can.after
        (goes_on shape P trunks can.step can.after (Wire l from Deliver) h.whole can.made) l from
        can.made.is in
        let rest = less (left_over l can.after)
        (subst (λ f. Falls (left_over l can.after) f) is fewer) side (can.step ∷ P) can.after refl
        (came_within P trunks can.step can.after n side from h can.made)
        (came_uncut P trunks can.step can.after from can.made uncut) in
        record {
          count = rest.count;
          steps = rest.steps;
          last = rest.last;
          made = comes rest.count side from P trunks can.step can.after can.made rest.made;
          few = rest.few;
          rests = rest.rests;
        }

    by_flight : is_full P ≡ false → ComesToRest shape l n side P trunks
    by_flight room =
        elim (either_le (length (trunks l.0).link.there) 0) [
          | inr some ↦
              by_coming First (can_come shape P trunks h.whole room l of_shape First uncut some)
          | inl there ↦ elim (either_le (length (trunks l.0).link.back) 0) [
            | inr some ↦
                by_coming Second (can_come shape P trunks h.whole room l of_shape Second uncut some)
            | inl back ↦
                still side P trunks h uncut room (
                  no_length (trunks l.0).link.there (omega arith),
                  no_length (trunks l.0).link.back (omega arith),
                )
          ]
        ]

    by_room : (full : Bool) → is_full P ≡ full → ComesToRest shape l n side P trunks
    by_room true full =
        record {
          count = 0;
          steps = P;
          last = trunks;
          made = over side;
          few = omega arith;
          rests = inr full;
        }
    by_room false room = by_flight room

  rests_by : (n : ℕ) → RestsStill n → (e : Measure) → Rests n e
  rests_by n still =
      falls_inducts (Rests n) (λ e less side P trunks is h uncut.
      by_room n still e less side P trunks is h uncut (is_full P) refl)

  rests_within : (n : ℕ) (e : Measure) → Rests n e
  rests_within zero =
      rests_by zero (λ side P trunks h uncut room none.
      record {
        count = 0;
        steps = P;
        last = trunks;
        made = over side;
        few = omega arith;
        rests = inl (joined side P trunks h none);
      })
  rests_within (suc n) =
      rests_by (suc n) (λ side P trunks h uncut room none.
      let can = can_tick shape P trunks h.whole room l of_shape side in
      let rest = rests_within n (left_over l can.after) (other_of side) (can.step ∷ P) can.after refl
      (ticked_within P trunks can.step can.after n side none h can.made)
      (ticked_uncut P trunks can.step can.after side can.made uncut) in
      let few = rest.few in
      record {
        count = suc rest.count;
        steps = rest.steps;
        last = rest.last;
        made = ticks rest.count side P trunks can.step can.after none can.made rest.made;
        few = omega arith;
        rests = rest.rests;
      })

-- ---- what is left to do doesn't get less for ever

-- nothing that gets less from each to the next begins with this
abbrev NeverFrom : Measure → Type 0
NeverFrom m =
    (left : ℕ → Measure) → left 0 ≡ m → ¬ ((n : ℕ) → Falls (left (suc n)) (left n))

never_from : (m : Measure) → NeverFrom m
never_from =
    falls_inducts NeverFrom (λ m rest left is falls.
    rest (left 1) (subst (λ k. Falls (left 1) k) is (falls 0)) (λ n. left (suc n)) refl
    (λ n. falls (suc n)))

ends : (left : ℕ → Measure) → ¬ ((n : ℕ) → Falls (left (suc n)) (left n))
ends left = never_from (left 0) left refl

-- ---- all of it

pub links_come_to_rest : LinksComeToRest
links_come_to_rest =
    record {
      ends = record { falls = falls; elsewhere = elsewhere; ends = ends };
      settles = λ shape P trunks whole l of_shape uncut side count Q last settling few.
          rests_within shape l of_shape (6 - count) (left_over l last) (after_ticks count side) Q
          last refl
          (reached shape l of_shape Q last (6 - count) count side P trunks settling
          (subst (λ n. Within shape l of_shape n side P trunks) (omega arith)
          (begins_within shape l of_shape side P trunks whole)))
          (still_uncut shape l of_shape Q last count side P trunks settling uncut);
      rests = λ shape P trunks whole l of_shape side count Q last settling enough none.
          rests_after shape l of_shape Q last count side P trunks settling whole none enough;
      rests_in_rounds = λ shape P trunks whole l of_shape rounds Q last settling enough none.
          rests_in_rounds shape l of_shape Q last rounds P trunks settling whole enough none;
    }
