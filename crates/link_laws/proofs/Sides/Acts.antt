-- Acts of a node of its own: a close that unpublishes, a send over a link.
use Rattle.std.proofs.Common.{◌≡◌, ℕ, Bool, true, false, cond, not, ◌||◌, ◌&&◌, inl, inr, List, []}
use Rattle.std.proofs.Common.{◌∷◌, ◌++◌, Some, refl, sym, ◌∙◌, ap, subst, filter, true≢false}
use Rattle.std.proofs.Common.{eq-eqb}
use Rattle.std.specs.List.{list_any, AllByRecursion}
use Rattle.std.proofs.lemmas.Bool.{or_cases, or_left, or_right, false_from_ne_true}
use Rattle.linx_base.specs.Numbers.{is_on}
use Rattle.linx_base.specs.Peers.{same_inc}
use Rattle.linx_base.specs.declared.identity.Inc.{Inc}
use Rattle.linx_base.specs.declared.identity.LinkNo.{LinkNo}
use Rattle.linx_base.specs.declared.identity.Peer.TheVariants.{Here, There}
use Rattle.linx_base.specs.declared.identity.Session.{Session}
use Rattle.linx_base.specs.SigNotes.{SigNote}
use Rattle.trunk_record.specs.Changes.{saying, says_sending}
use Rattle.trunk_record.specs.Records.{SideRecord, has_session}
use Rattle.trunk_record.specs.Sayings.{published, signaled, unpublished, is_live, is_signal}
use Rattle.journal.specs.History.{is_closed, closes, endpoint_by, name_of}
use Rattle.journal.specs.Living.{is_alive}
use Rattle.journal.specs.declared.effect.Effect.{Effect}
use Rattle.journal.specs.declared.effect.Effect.TheVariants.{Closed}
use Rattle.journal.specs.declared.effect.Step.{Step}
use Rattle.journal.specs.declared.head.Head.TheVariants.{Send}
use Rattle.journal.specs.declared.head.SentTo.TheVariants.{Link}
use Rattle.link_laws.specs.Brought.{was_opened}
use Rattle.link_laws.specs.Came.{signal_over}
use Rattle.link_laws.specs.Linked.{IsLinked, IsTrueOf, IsClosedOn}
use Rattle.link_laws.specs.Sessions.{restarts}
use Rattle.trunk_record.proofs.Sayings.{same_inc-is, same_inc-itself}
use Rattle.link_laws.proofs.Sides.Untouched.{touches}
use Rattle.link_laws.proofs.Sides.WordsAfterStep.{IsDone, closed-done, closes-done}
use Rattle.link_laws.proofs.Sides.Keeps.{keeps_saying}
use Rattle.link_laws.proofs.Endpoints.OpenAfterStep.{OpensNew, both_true, closed-dead, open-on}
use Rattle.link_laws.proofs.Endpoints.OpenAfterStep.{open-opened}
use Rattle.link_laws.proofs.Endpoints.OpenAfterStep.{open-more, opened-more, still-true}

pub cond-nil : {X : Type 0} (t : Bool) → (let none : List X = [] in none) ≡ cond t [] []
cond-nil true = refl
cond-nil false = refl

-- a step that says nothing on a side, touches it not and closes none of its published endpoints
pub keeps_quiet : (P : List Step) (s : Step) (es items : List Effect) → IsDone s es items
    → (n : ℕ) (l : LinkNo) (A : SideRecord) → IsLinked P n l A → list_any (touches n l.0) es ≡ false
    → restarts n s.head ≡ false → OpensNew P es → ((x : Session)
    → signal_over n l.0 x (endpoint_by P s.by) s.head ≡ [])
    → ((i : Inc) → is_live i A.now.said ≡ true → list_any (closes i) es ≡ false)
    → IsLinked (s ∷ P) n l A
keeps_quiet P s es items done n l A link away stays new says open_ =
    keeps_saying P s es items done n l A [] link away stays new (λ x. says x
    ∙ cond-nil (has_session x A.now)) tt (λ i is. open-more P s es items done n new i
    (link.live i is) (open_ i is))

-- THE CLOSE of an endpoint that is live on the side: it is unpublished there
pub keeps_close : (P : List Step) (s : Step) (j : Inc) (items : List Effect)
    → IsDone s (Closed j ∷ []) items → (n : ℕ) (l : LinkNo) (A : SideRecord) → IsLinked P n l A
    → is_live j A.now.said ≡ true → restarts n s.head ≡ false
    → ((x : Session) → signal_over n l.0 x (endpoint_by P s.by) s.head ≡ [])
    → IsLinked (s ∷ P) n l (saying (unpublished j ∷ []) A)
keeps_close P s j items done n l A link lives stays says =
    keeps_saying P s (Closed j ∷ []) items done n l A (unpublished j ∷ []) link refl stays
    (λ i was. refl) (λ x. says x ∙ cond-nil (has_session x A.now)) (gone_there, tt) live
  where
    itself : (same_inc j j || false) ≡ true
    itself = or_left (same_inc j j) false (same_inc-itself j)

    gone_there : IsClosedOn (s ∷ P) n j
    gone_there = record {
      opened = opened-more P s (Closed j ∷ []) items done n (λ i was. refl) j
          (open-opened P n j (link.live j lives));
      closed = closed-done P s (Closed j ∷ []) items done j
          ∙ or_right (is_closed P j) (same_inc j j || false) itself;
      dead = closed-dead P s n j (closes-done P s (Closed j ∷ []) items done j ∙ itself);
    }

    live : (i : Inc) → (not (same_inc i j) && is_live i A.now.said) ≡ true
        → is_alive (s ∷ P) n (Here i) ≡ true
    live i is =
        let both = both_true (not (same_inc i j)) (is_live i A.now.said) is in
        open-more P s (Closed j ∷ []) items done n (λ k was. refl) i (link.live i both.1)
        (ap (λ t. t || false) (apart (same_inc i j) both.0))
      where
        apart : (t : Bool) → not t ≡ true → t ≡ false
        apart true e = absurd (true≢false (sym e))
        apart false e = refl

-- and on a side where it isn't live nothing is said
pub keeps_close_elsewhere : (P : List Step) (s : Step) (j : Inc) (items : List Effect)
    → IsDone s (Closed j ∷ []) items → (n : ℕ) (l : LinkNo) (A : SideRecord) → IsLinked P n l A
    → restarts n s.head ≡ false → ((x : Session)
    → signal_over n l.0 x (endpoint_by P s.by) s.head ≡ []) → is_live j A.now.said ≡ false
    → IsLinked (s ∷ P) n l A
keeps_close_elsewhere P s j items done n l A link stays says unknown =
    keeps_quiet P s (Closed j ∷ []) items done n l A link refl stays (λ i was. refl) says (λ i is.
    ap (λ t. t || false) (false_from_ne_true (same_inc i j)
    (λ e. true≢false (sym is ∙ subst (λ (k : Inc). is_live k A.now.said ≡ false)
    (sym (same_inc-is i j e)) unknown))))

-- THE SEND to a living peer of the side's session, by an endpoint of the node
pub keeps_send : (P : List Step) (s : Step) (j b : Inc) (note : SigNote) (n : ℕ) (l : LinkNo)
    (A : SideRecord) → s.effects ≡ [] → s.head ≡ Send (There l A.now.session b) note Link
    → endpoint_by P s.by ≡ Some j → is_alive P n (Here j) ≡ true → IsLinked P n l A
    → IsLinked (s ∷ P) n l (saying (says_sending j (name_of P j) b note A) A)
keeps_send P s j b note n l A effects head mine open_ link =
    keeps_saying P s [] [] done n l A (says_sending j (name_of P j) b note A) link refl
    (rw head refl)
    (λ i was. refl) says (tt, truly (is_live j A.now.said)) live
  where
    done : IsDone s [] []
    done = record { effects = effects; items_only = tt }

    on : is_on n j ≡ true
    on = open-on P n j open_

    opened : was_opened P n j ≡ true
    opened = open-opened P n j open_

    signals : (t u : Bool) → cond t (signaled j b note ∷ []) []
        ≡ cond t (filter is_signal (signaled j b note ∷ cond u [] (published j (name_of P j) ∷ [])))
        []
    signals true true = refl
    signals true false = refl
    signals false u = refl

    says : (x : Session) → signal_over n l.0 x (endpoint_by P s.by) s.head
        ≡ cond (has_session x A.now) (filter is_signal (says_sending j (name_of P j) b note A)) []
    says x =
        rw (mine, head) (rw (on, eq-eqb l.0 l.0 refl)
        (signals (has_session x A.now) (is_live j A.now.said)))

    truly : (t : Bool) → AllByRecursion (IsTrueOf (s ∷ P) n)
        (cond t [] (published j (name_of P j) ∷ []))
    truly true = tt
    truly false = (
      still-true P s [] [] done n (λ i was. refl) (published j (name_of P j)) (
        opened,
        refl,
      ),
      tt,
    )

    live : (i : Inc) → is_live i (says_sending j (name_of P j) b note A ++ A.now.said) ≡ true
        → is_alive (s ∷ P) n (Here i) ≡ true
    live i is = open-more P s [] [] done n (λ k was. refl) i (was (is_live j A.now.said) is) refl
      where
        was : (t : Bool) → is_live i (cond t [] (published j (name_of P j) ∷ []) ++ A.now.said)
            ≡ true → is_alive P n (Here i) ≡ true
        was true e = link.live i e
        was false e =
            elim (or_cases (same_inc i j) (is_live i A.now.said) e) [
              | inl here ↦ subst (λ (k : Inc). is_alive P n (Here k) ≡ true)
                  (sym (same_inc-is i j here)) open_
              | inr before ↦ link.live i before
            ]
