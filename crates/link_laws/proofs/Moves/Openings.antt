-- An opening.
use Rattle.std.proofs.Common.{◌≡◌, ◌≤◌, ℕ, Bool, true, false, cond, ◌||◌, ◌&&◌, inl, inr, List, []}
use Rattle.std.proofs.Common.{◌∷◌, Option, Some, None, refl, sym, ◌∙◌, ap, subst, arith, ◌==◌}
use Rattle.std.proofs.Common.{is_some, filter, filter_map, bytes_eq, eq-eqb, true≢false}
use Rattle.std.specs.List.{list_any, AllByRecursion}
use Rattle.std.proofs.Math.Bool.{or-false}
use Rattle.std.proofs.lemmas.Bool.{false_from_ne_true, or_left}
use Rattle.std.proofs.lemmas.Bool.Decides.{nat_tests}
use Rattle.linx_base.specs.Numbers.{is_on, node_of}
use Rattle.linx_base.specs.Peers.{same_inc}
use Rattle.linx_base.specs.Sides.{other_of}
use Rattle.linx_base.specs.declared.identity.Inc.{Inc}
use Rattle.linx_base.specs.declared.identity.LinkNo.{LinkNo}
use Rattle.linx_base.specs.declared.identity.Peer.TheVariants.{Here}
use Rattle.linx_base.specs.declared.identity.Session.{Session}
use Rattle.linx_base.specs.declared.identity.Side.{Side}
use Rattle.linx_base.specs.declared.name.Path.TheVariants.{Local}
use Rattle.trunk_record.specs.Changes.{saying}
use Rattle.trunk_record.specs.Sayings.{Said, published, was_published}
use Rattle.trunk_record.specs.Trunks.{IsHalf}
use Rattle.trunk_record.proofs.Sayings.{same_inc-itself}
use Rattle.journal.specs.Effects.{founds, opening}
use Rattle.journal.specs.History.{name_of, name_or_none, opened_in, opening_name, openings}
use Rattle.journal.specs.Living.{is_alive}
use Rattle.journal.specs.Pending.{hunting}
use Rattle.journal.specs.Shapes.{Shape, node_by}
use Rattle.journal.specs.declared.by.By.{By}
use Rattle.journal.specs.declared.effect.Effect.{Effect}
use Rattle.journal.specs.declared.effect.Effect.TheVariants.{Opened}
use Rattle.journal.specs.declared.effect.Step.{Step}
use Rattle.journal.specs.declared.head.Head.TheVariants.{Open}
use Rattle.journal.proofs.Openings.{next_on, same_inc-true}
use Rattle.link_laws.specs.Ends.{IsLinkOf, node_at}
use Rattle.link_laws.specs.Sides.{Links, records_of}
use Rattle.link_laws.specs.Laws.{IsLegalStep, KeepsNodeLaws}
use Rattle.link_laws.specs.Linked.{HasNone}
use Rattle.link_laws.specs.Moves.{Opens, OpensAt, is_up, is_wanted}
use Rattle.link_laws.proofs.AllLinks.SameSides.{linked-alike}
use Rattle.link_laws.proofs.Sides.Brings.{published-opened}
use Rattle.link_laws.proofs.Endpoints.Closings.{open-unclosed}
use Rattle.link_laws.proofs.Sides.WordsAfterStep.{IsDone, name-done, opened-items}
use Rattle.link_laws.proofs.Endpoints.Fresh.{next_on-home, opens-new}
use Rattle.link_laws.proofs.Moves.Shown.{IsGood, IsKnown, short, short_after, step_of}
use Rattle.link_laws.proofs.Hunts.ManySides.{OpensOne, hunted_opening}
use Rattle.link_laws.proofs.Legal.{legal_plain}
use Rattle.link_laws.proofs.Moves.OneSideSays.{SaysWell}
use Rattle.link_laws.proofs.Moves.ManySidesSay.{opened-say, trunks-say}
use Rattle.link_laws.proofs.AllLinks.OneSideKept.{raises-none, silence-side, tells-none}
use Rattle.link_laws.proofs.Endpoints.OpenAfterStep.{OpensNew, both_true, name-same, open-new}
use Rattle.link_laws.proofs.Endpoints.OpenAfterStep.{open-opened, was_open_or_opened}
use Rattle.link_laws.proofs.Promises.FromRecords.{IsOpenNow}
use Rattle.link_laws.proofs.AllLinks.QuietSteps.{opened_to, whole_open}
use Rattle.link_laws.proofs.AllLinks.OthersStay.{founds-items}

module _ (shape : Shape) (P : List Step) (before after : Links) (known : IsKnown shape P before)
    (by : By) (name : List ℕ)
    (opens : Opens shape before after (node_by shape by) (next_on P (node_by shape by)) name) where
  abbrev n : ℕ
  n = node_by shape by

  abbrev i : Inc
  i = next_on P (node_by shape by)

  abbrev s : Step
  s = step_of by (Open name) (opening (next_on P (node_by shape by)) name
      (hunting P (node_by shape by)))

  abbrev items : List Effect
  items = founds (Local name) (Here (next_on P (node_by shape by))) (hunting P (node_by shape by))

  done : IsDone s (Opened i ∷ []) items
  done = record { effects = refl; items_only = founds-items (Local name) (Here i) (hunting P n) }

  home : node_of i ≡ n
  home = next_on-home shape P known.legal (short shape P before known) n

  on : is_on n i ≡ true
  on = eq-eqb (node_of i) n home

  new : OpensNew P (Opened i ∷ [])
  new = opens-new shape P known.legal (short shape P before known) n

  itself : (same_inc i i || false) ≡ true
  itself = or_left (same_inc i i) false (same_inc-itself i)

  opens_i : filter_map opened_in s.effects ≡ i ∷ []
  opens_i = ap (λ (incs : List Inc). i ∷ incs) (opened-items items done.items_only)

  named : name_of (s ∷ P) i ≡ name
  named = ap name_or_none (name-done P s (Opened i ∷ []) items done i
      ∙ ap (λ w. cond w (Some name) (opening_name P i)) itself)

  lives : is_alive (s ∷ P) n (Here i) ≡ true
  lives = open-new P s (Opened i ∷ []) items done n i on itself refl

  -- what a side says
  abbrev wanted : ℕ → Side → Bool
  wanted k side = is_wanted name (before k side)

  abbrev is_asked : LinkNo → Side → Bool
  is_asked l side = node_at shape l side == n && is_wanted name (before l.0 side)

  abbrev ws : LinkNo → Side → List Said
  ws l side = cond (is_asked l side) (published i name ∷ []) []

  said : (l : LinkNo) → IsLinkOf shape l → (side : Side)
      → (after l.0 side).side ≡ saying (ws l side) (before l.0 side).side
  said l of_shape side = by_node (node_at shape l side == n) (opens l of_shape side)
    where
      by_node : (t : Bool) → OpensAt t i name (before l.0 side) (after l.0 side)
          → (after l.0 side).side
          ≡ saying (cond (t && is_wanted name (before l.0 side)) (published i name ∷ []) [])
          (before l.0 side).side
      by_node true it = it.side
      by_node false it = it.side

  less : (l : LinkNo) → IsLinkOf shape l → (side : Side)
      → (after l.0 side).silent ≤ (before l.0 side).silent
  less l of_shape side = by_node (node_at shape l side == n) (opens l of_shape side)
    where
      by_node : (t : Bool) → OpensAt t i name (before l.0 side) (after l.0 side)
          → (after l.0 side).silent ≤ (before l.0 side).silent
      by_node true it = it.silent
      by_node false it = it.silent

  some-none : (p : Option Session) → is_some p ≡ true → p ≡ None → ⊥
  some-none p is none = true≢false (sym is ∙ ap is_some none)

  well : (l : LinkNo) → IsLinkOf shape l → (side : Side)
      → SaysWell (before l.0 side).side (ws l side)
  well l of_shape side = by_asked (is_asked l side) refl
    where
      half : IsHalf (before l.0 side).side (before l.0 (other_of side)).side
      half = known.kept.trunks l of_shape side

      not_yet : was_published i (before l.0 side).side.now.said ≡ false
      not_yet = false_from_ne_true (was_published i (before l.0 side).side.now.said) (λ was.
          let opened = both_true (is_on (node_at shape l side) i)
          (list_any (same_inc i) (openings P))
          (published-opened P (node_at shape l side) i (before l.0 side).side.now.said
          (known.kept.linked l of_shape side).truly.0 was) in
          true≢false (sym itself ∙ new i opened.1))

      by_asked : (t : Bool) → is_asked l side ≡ t
          → SaysWell (before l.0 side).side (cond t (published i name ∷ []) [])
      by_asked false e = inl refl
      by_asked true e =
          let there = both_true (node_at shape l side == n) (is_wanted name (before l.0 side)) e in
          let up = both_true (is_up (before l.0 side).side)
          (list_any (bytes_eq name) (before l.0 side).noted) there.1 in
          inr (some-none (before l.0 side).side.now.peer up.0, (not_yet, half.proper.0))

  -- one endpoint of this name opens, and no other name
  turned : (m : ℕ) → (m == n) ≡ false → (n == m) ≡ false
  turned m off = grind (arith, nat_tests)

  opens_one : OpensOne P s n name
  opens_one = record {
    begins_none = λ k l w. refl;
    elsewhere = λ m off. ap (filter (is_on m)) opens_i
        ∙ ap (λ t. cond t (i ∷ []) []) (ap (λ k. k == m) home ∙ turned m off);
    names = names;
  }
    where
      names : (w : List ℕ) → bytes_eq w name ≡ false → HasNone P n w → HasNone (s ∷ P) n w
      names w apart none j alive =
          elim (was_open_or_opened P s n j alive) [
            | inl was ↦
                let opened = both_true (is_on n j) (list_any (same_inc j) (openings P))
                (open-opened P n j was) in
                ap (bytes_eq w) (name-same P s (Opened i ∷ []) items done n new j opened.1)
                ∙ none j was
            | inr opened ↦
                let among : (same_inc j i || false) ≡ true =
                sym (ap (list_any (same_inc j)) (ap (filter (is_on n)) opens_i
                ∙ ap (λ t. cond t (i ∷ []) []) on)) ∙ opened in
                let same : j ≡ i = same_inc-true j i (sym (or-false (same_inc j i)) ∙ among) in
                ap (bytes_eq w) (ap (name_of (s ∷ P)) same ∙ named) ∙ apart
          ]

  module _ (laws : KeepsNodeLaws shape P s) where
    legal : IsLegalStep shape P s
    legal = legal_plain shape P by (Open name) s.effects refl laws

    open_now : (t : Bool) → AllByRecursion (IsOpenNow (s ∷ P)) (cond t (published i name ∷ []) [])
    open_now true = (
      open-unclosed shape (s ∷ P) (known.legal, legal) (short_after shape P before s known) n i
          lives,
      tt,
    )
    open_now false = tt

    open_good : IsGood shape P s after
    open_good = record {
      legal = legal;
      kept = record {
        trunks = trunks-say shape (records_of before) (records_of after) ws said well
            known.kept.trunks;
        linked = linked-alike shape (s ∷ P) (opened_to shape (records_of before) n wanted i name)
            (records_of after) said
            (whole_open shape P (records_of before) by n i name wanted known.kept.linked on new);
        opened = opened-say shape (records_of before) (records_of after) ws said P s
            (raises-none s (Opened i ∷ []) items done (λ k h x. refl))
            (λ l of_shape side. open_now (is_asked l side)) known.kept.opened;
        hunted = hunted_opening shape P before after s known.kept.trunks known.kept.hunted known.two
            n i name opens_one opens;
        silent = λ l of_shape side.
            silence-side P s (node_at shape l side) l.0 side (before l.0 side).silent
            (after l.0 side).silent (known.kept.silent l of_shape side) (less l of_shape side)
            (tells-none s (Opened i ∷ []) items done (node_at shape l side) l.0 refl);
      };
      promised = tt;
    }

  pub opening_good : (es : List Effect) → KeepsNodeLaws shape P (step_of by (Open name) es)
      → IsGood shape P (step_of by (Open name) es) after
  opening_good es laws =
      subst (λ (fs : List Effect). IsGood shape P (step_of by (Open name) fs) after)
      (sym laws.effects)
      (open_good (subst (λ (fs : List Effect). KeepsNodeLaws shape P (step_of by (Open name) fs))
      laws.effects laws))
