-- THE VERDICT that the tables tell is the verdict: a step is legal, or breaks this law first.
use Rattle.std.proofs.Common.{◌≡◌, ℕ, suc, ◌<◌, true, List, ◌∷◌, length, Option, Some, None, refl}
use Rattle.std.proofs.Common.{sym, ◌∙◌, ap, subst}
use Rattle.linx_base.specs.Sides.{other_of}
use Rattle.linx_base.specs.declared.identity.LinkNo.{LinkNo}
use Rattle.linx_base.specs.declared.identity.NodeNo.{NodeNo}
use Rattle.linx_base.specs.declared.identity.Side.{Side}
use Rattle.journal.specs.declared.by.By.{By}
use Rattle.journal.specs.declared.by.By.TheVariants.{Actor, Pump}
use Rattle.journal.specs.declared.effect.Effect.{Effect}
use Rattle.journal.specs.declared.effect.Step.{Step}
use Rattle.journal.specs.declared.head.Head.{Head}
use Rattle.journal.specs.declared.head.Head.TheVariants.{Tick, Wire}
use Rattle.journal.specs.Shapes.{Shape}
use Rattle.link_laws.specs.Laws.{IsLegal, IsLegalStep}
use Rattle.node_kernel.specs.Nodes.{NodeState}
use Rattle.link_check.specs.Books.{IsBookLeft}
use Rattle.link_check.specs.Links.{is_link, is_of_link}
use Rattle.link_check.specs.Told.{IsThere}
use Rattle.link_check.proofs.AtLinks.{there-of}
use Rattle.link_check.proofs.Books.{pass-left}
use Rattle.fabric.specs.Remains.{AreNodesLeft, IsLaidOut}
use Rattle.journal_check.specs.Brought.{side_reached}
use Rattle.journal_check.specs.Faults.{Breaks, told_beside}
use Rattle.journal_check.specs.Tables.{AreLeft, IsPast, Known, effects_there, endpoint_of_maker}
use Rattle.journal_check.specs.Tables.{is_made_by_maker, kernel_of, kernels_past, kernels_reached}
use Rattle.journal_check.specs.Tables.{restarted_in, restarted_node}
use Rattle.journal_check.specs.Told.{ArePacketsTold, AreTicksTold, IsAllTold}
use Rattle.journal_check.specs.Told.{IsToldVerdict, Told}
use Rattle.journal_check.specs.declared.law.Broken.{Broken}
use Rattle.journal_check.specs.declared.law.Law.TheVariants as laws
use Rattle.journal_check.proofs.Actors.{actor-there, endpoint-of, pump-reaches}
use Rattle.journal_check.proofs.Bringing.{brought-next, some-one}
use Rattle.journal_check.proofs.Laws.{actor-answers, agrees, all-kept, short, tells-beside}
use Rattle.journal_check.proofs.Lists.{length-set}
use Rattle.journal_check.proofs.Onward.{kernels-next, standings-next}

-- how many kernels there are stays
length-restarted : (o : Option NodeState) (kernels : List NodeState) (n : ℕ)
    → length (restarted_in o kernels n) ≡ length kernels
length-restarted None kernels n = refl
length-restarted (Some k) kernels n = length-set kernels _ _

length-past : (o : Option NodeNo) (t : Known) (k : ℕ) (by : By) (head : Head)
    → length (kernels_past o t k by head) ≡ length t.kernels
length-past (Some m) t k by head = length-restarted (kernel_of t.kernels m.0) t.kernels m.0
length-past None t k by head = length-set t.kernels _ _

length-reached : (o : Option (LinkNo × Side)) (t : Known) (k : ℕ) (s : Step)
    → length (kernels_reached o t k s) ≡ length t.kernels
length-reached None t k s = length-past (restarted_node s.head) t k s.by s.head
length-reached (Some at) t k s = length-set t.kernels _ _

-- A PACKET'S AND A TICK'S EFFECTS are exact where both laws are kept
exact-told : (t : Known) (head : Head) (es : List Effect) (at : LinkNo × Side)
    → side_reached head ≡ Some at → ArePacketsTold t head es → AreTicksTold t head es
    → es ≡ effects_there t at.0 at.1 es
exact-told t (Wire l from verdict) es at reached packets ticks =
    subst (λ (p : LinkNo × Side). es ≡ effects_there t p.0 p.1 es)
    (some-one (l, other_of from) at reached) packets.1
exact-told t (Tick l side) es at reached packets ticks =
    subst (λ (p : LinkNo × Side). es ≡ effects_there t p.0 p.1 es)
    (some-one (l, side) at reached) ticks.1
exact-told t _ es at reached packets ticks = cc reached

-- and its link is there
pub link-reached : (links : ℕ) (head : Head) (at : LinkNo × Side) → side_reached head ≡ Some at
    → is_of_link links head ≡ true → is_link links at.0 ≡ true
link-reached links (Wire l from verdict) at reached is =
    subst (λ (p : LinkNo × Side). is_link links p.0 ≡ true) (some-one (l, other_of from) at reached)
    is
link-reached links (Tick l side) at reached is =
    subst (λ (p : LinkNo × Side). is_link links p.0 ≡ true) (some-one (l, side) at reached) is
link-reached links _ at reached is = cc reached

module _ (P : List Step) (t : Known) (left : AreLeft P t) (few : length P < 4294967294) where
  abbrev k : ℕ
  k = suc (length P)

  -- A LEGAL STEP
  pub legal-step : (s : Step) → IsAllTold t k s → IsLegalStep t.shape P s
  legal-step s told =
      let kept = all-kept P t left few s laws.Ticks told.earlier in
      record {
        nodes = record {
          makers = kept.1.1.1.1.1.1.1.1.1.0;
          endpoints = kept.1.1.1.1.1.1.1.1.0;
          bounds = kept.1.1.1.1.1.1.1.0;
          effects = kept.1.1.1.1.1.1.0;
          sends = kept.1.1.1.1.1.0;
          receives = kept.1.1.1.1.0;
          links = kept.1.1.1.0;
        };
        rest = kept.1.1.0;
        packets = kept.1.0;
        cuts = kept.0;
        ticks = (agrees P t left few s laws.Ticks told.earlier).0 told.ticks;
      }

  -- A BROKEN LAW
  pub verdict-broken : (s : Step) (new : Known) (wrong : Broken)
      → IsToldVerdict t k s new (Some wrong) → Breaks t.shape P s wrong.law
  verdict-broken s new wrong told = record {
    earlier = all-kept P t left few s wrong.law told.earlier;
    broken = λ kept. told.broken ((agrees P t left few s wrong.law told.earlier).1 kept);
  }

  -- and what is told beside it
  pub verdict-beside : (s : Step) (new : Known) (wrong : Broken)
      → IsToldVerdict t k s new (Some wrong) → wrong.earliest ≡ told_beside wrong.law P s
  verdict-beside s new wrong told =
      told.earliest ∙ tells-beside P t left few s wrong.law told.earlier

  -- THE KERNELS AFTER IT
  module _ (s : Step) (told : IsAllTold t k s) where
    made : is_made_by_maker t s.by s.head ≡ true
    made = told.earlier.1.1.1.1.1.1.1.1.1.0

    off-links : (by : By) → s.by ≡ by → side_reached s.head ≡ None
        → AreNodesLeft (s ∷ P) (kernels_reached None t k s)
    off-links (Actor a) by_is off =
        let at = actor-there P t left a
        (subst (λ (by : By). is_made_by_maker t by s.head ≡ true) by_is made) in
        subst (λ (by : By). AreNodesLeft (record { by = by; head = s.head; effects = s.effects } ∷ P)
        (kernels_reached None t k (record { by = by; head = s.head; effects = s.effects })))
        (sym by_is)
        (kernels-next P t left (short P t left few) a at.0 at.1 s.effects s.head off
        (subst (λ (by : By).
        IsLegalStep t.shape P (record { by = by; head = s.head; effects = s.effects })) by_is
        (legal-step s told))
        (actor-answers P t left few a at.0 at.1 s.head
        (subst (λ (by : By).
        Told t k (record { by = by; head = s.head; effects = s.effects }) laws.Receives) by_is
        told.earlier.1.1.1.1.0).0))
    off-links (Pump l) by_is off =
        absurd (pump-reaches P t left l s.head
        (subst (λ (by : By). is_made_by_maker t by s.head ≡ true) by_is made) off)

    kernels-left : (o : Option (LinkNo × Side)) → side_reached s.head ≡ o
        → AreNodesLeft (s ∷ P) (kernels_reached o t k s)
    kernels-left None reached = off-links s.by refl reached
    kernels-left (Some at) reached =
        let there : IsThere t.book at.0 = there-of t.book at.0
        (link-reached (length t.book.links) s.head at reached told.earlier.1.1.1.0) in
        brought-next P t left few at.0 there at.1 (short P t left few) s.by s.head s.effects reached
        (exact-told t s.head s.effects at reached told.earlier.1.0 told.ticks) (legal-step s told)

    -- AND WHAT IS KNOWN
    pub left-next : (new : Known) → IsPast k s t new → AreLeft (s ∷ P) new
    left-next new past =
        let counted : length new.kernels ≡ length t.kernels =
        ap (λ (xs : List NodeState). length xs) past.kernels
        ∙ length-reached (side_reached s.head) t k s in
        record {
          laid_out =
              subst (λ (n : ℕ). IsLaidOut n new.shape) (sym counted)
              (subst (IsLaidOut (length t.kernels)) (sym past.shape) left.laid_out);
          counted = past.standings.counted ∙ left.counted
              ∙ ap (λ (x : Shape). length x.actors) (sym past.shape);
          kernels =
              subst (λ (xs : List NodeState). AreNodesLeft (s ∷ P) xs) (sym past.kernels)
              (kernels-left (side_reached s.head) refl);
          standings = standings-next P s t.standings new.standings left.standings past.standings;
          book =
              subst (λ (x : Shape). IsBookLeft (s ∷ P) x.links new.book) (sym past.shape)
              (pass-left t.shape s P (legal-step s told) t.book new.book left.book
              (endpoint_of_maker t s.by) (endpoint-of P t left s.by s.head made) past.book);
          legal =
              subst (λ (x : Shape). IsLegal x (s ∷ P)) (sym past.shape)
              (left.legal, legal-step s told);
        }

  pub verdict-legal : (s : Step) (new : Known) → IsToldVerdict t k s new None
      → IsLegalStep t.shape P s × AreLeft (s ∷ P) new
  verdict-legal s new told = (legal-step s told.0, left-next s told.0 new told.1)
