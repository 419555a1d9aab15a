-- WHO WASN'T OPENED sent nothing, and nothing was sent to it over a link.
use Rattle.std.proofs.Common.{◌≡◌, ℕ, ◌<◌, Bool, true, false, ◌&&◌, ◌||◌, ◌==◌, List, [], ◌∷◌, ◌++◌}
use Rattle.std.proofs.Common.{length, Option, Some, None, inl, inr, ◌⊎◌, refl, sym, ◌∙◌, ap, subst, arith}
use Rattle.std.proofs.Common.{true≢false, if◌then◌else◌, cond}
use Rattle.std.specs.List.{list_any, filter_map, AllByRecursion}
use Rattle.std.proofs.lemmas.Bool.{and_parts, or_cases, or_left, false_from_ne_true}
use Rattle.std.proofs.lemmas.List.Elements.{filter_map-append}
use Rattle.std.proofs.lemmas.List.Folds.{list_any-append}
use Rattle.linx_base.specs.Numbers.{is_on}
use Rattle.linx_base.specs.Peers.{same_inc, same_peer}
use Rattle.linx_base.specs.SigNotes.{SigNote}
use Rattle.linx_base.specs.declared.identity.Inc.{Inc}
use Rattle.linx_base.specs.declared.identity.LinkNo.{LinkNo}
use Rattle.linx_base.specs.declared.identity.Peer.{Peer}
use Rattle.linx_base.specs.declared.identity.Peer.TheVariants.{Here, There}
use Rattle.linx_base.specs.declared.identity.Session.{Session}
use Rattle.linx_base.specs.declared.name.Path.TheVariants.{Over}
use Rattle.linx_base.specs.declared.pending.MetPeer.{MetPeer}
use Rattle.journal.specs.declared.effect.Step.{Step}
use Rattle.journal.specs.declared.head.Head.{Head}
use Rattle.journal.specs.declared.head.Head.TheVariants as heads
use Rattle.journal.specs.declared.head.SentTo.{SentTo}
use Rattle.journal.specs.History.{effects_of, endpoint_by, opened_in, openings, opens}
use Rattle.journal.specs.Effects.{send_answer}
use Rattle.journal.specs.Laws.{KeepsSends, is_opening}
use Rattle.journal.specs.Living.{is_alive, is_met, living}
use Rattle.journal.specs.Pending.{hunting}
use Rattle.journal.specs.Shapes.{Shape, node_by}
use Rattle.journal.specs.Traffic.{is_endpoint, sent_by, sent_to, was_sent}
use Rattle.journal.proofs.Openings.{next_on}
use Rattle.link_laws.specs.Laws.{IsLegal, IsLegalStep}
use Rattle.link_laws.proofs.AllLinks.OthersStay.{founds-items}
use Rattle.link_laws.proofs.Endpoints.Fresh.{opens-new, step-opens}
use Rattle.link_laws.proofs.Endpoints.Makers.{maker-open}
use Rattle.link_laws.proofs.Endpoints.OpenAfterStep.{open-opened, opened-any}
use Rattle.link_laws.proofs.Peers.FactsOfMet.{MeetsKnown, items-known, living-known, meets_none-known}
use Rattle.link_laws.proofs.Peers.Meetings.{step-meets}
use Rattle.link_check.proofs.Stirs.{map-all, never, no-notes, none-first}
use Rattle.link_check.proofs.Tests.{inc-is}

-- an incarnation was opened
abbrev pub is_opened : List Step → Inc → Bool
is_opened P i = list_any (same_inc i) (openings P)

opened-split : (s : Step) (P : List Step) (i : Inc)
    → is_opened (s ∷ P) i ≡ (is_opened P i || list_any (same_inc i) (filter_map opened_in s.effects))
opened-split s P i =
    ap (λ (incs : List Inc). list_any (same_inc i) incs)
    (filter_map-append opened_in (effects_of P) s.effects)
    ∙ list_any-append (same_inc i) (openings P) (filter_map opened_in s.effects)

opened-more : (s : Step) (P : List Step) (i : Inc) → is_opened P i ≡ true
    → is_opened (s ∷ P) i ≡ true
opened-more s P i was =
    opened-split s P i
    ∙ or_left (is_opened P i) (list_any (same_inc i) (filter_map opened_in s.effects)) was

opened-fewer : (s : Step) (P : List Step) (i : Inc) → is_opened (s ∷ P) i ≡ false
    → is_opened P i ≡ false
opened-fewer s P i none =
    none-first (is_opened P i) (list_any (same_inc i) (filter_map opened_in s.effects))
    (sym (opened-split s P i) ∙ none)

-- A LIVING PEER over a link was opened
abbrev IsMetOpened : List Step → Peer → Type 0
IsMetOpened P (Here i) = Unit {0}
IsMetOpened P (There l x i) = is_opened P i ≡ true

abbrev IsKnown : List Step → ℕ → MetPeer → Type 0
IsKnown P n m = IsMetOpened P m.peer

known-more : (s : Step) (P : List Step) (q : Peer) → IsMetOpened P q → IsMetOpened (s ∷ P) q
known-more s P (Here i) was = tt
known-more s P (There l x i) was = opened-more s P i was

module _ (shape : Shape) where
  step-known : (s : Step) (P : List Step) → IsLegalStep shape P s
      → AllByRecursion (MeetsKnown (IsKnown P)) s.effects
  step-known s P legal =
      elim (step-meets shape P s legal) [
        | inl none ↦ meets_none-known (IsKnown P) s.effects none
        | inr one ↦ subst (AllByRecursion (MeetsKnown (IsKnown P))) (sym one.effects) (
          (and_parts (is_on one.m one.a) (is_opened P one.a) one.may.opened).1,
          items-known (IsKnown P) _
              (founds-items (Over one.l one.name) (There one.l one.x one.a) (hunting P one.n)),
        )
      ]

  all-known : (P : List Step) → IsLegal shape P → (n : ℕ)
      → AllByRecursion (IsKnown P n) (living P n)
  all-known [] legal n = tt
  all-known (s ∷ P) legal n =
      map-all (IsKnown P n) (IsKnown (s ∷ P) n) (living (s ∷ P) n)
      (λ m was. known-more s P m.peer was)
      (living-known (IsKnown P) n (living P n) s.effects (all-known P legal.0 n)
      (step-known s P legal.1))

  among-known : (P : List Step) (l : LinkNo) (x : Session) (i : Inc) (met : List MetPeer)
      → AllByRecursion (λ (m : MetPeer). IsMetOpened P m.peer) met
      → is_met met (There l x i) ≡ true → is_opened P i ≡ true
  among-known P l x i [] all is = absurd (true≢false (sym is))
  among-known P l x i (m ∷ met) all is =
      elim (or_cases (same_peer (There l x i) m.peer) (is_met met (There l x i)) is) [
        | inl same ↦ this m.peer same all.0
        | inr rest ↦ among-known P l x i met all.1 rest
      ]
    where
      this : (q : Peer) → same_peer (There l x i) q ≡ true → IsMetOpened P q
          → is_opened P i ≡ true
      this (Here j) same was = absurd (true≢false (sym same))
      this (There k z j) same was =
          subst (λ (h : Inc). is_opened P h ≡ true)
          (sym (inc-is i j (and_parts (l.0 == k.0 && x.0 == z.0) (same_inc i j) same).1)) was

  living-opened : (P : List Step) → IsLegal shape P → (n : ℕ) (l : LinkNo) (x : Session) (i : Inc)
      → is_alive P n (There l x i) ≡ true → is_opened P i ≡ true
  living-opened P legal n l x i lives =
      among-known P l x i (living P n) (all-known P legal n) lives

  -- SO IT SENT NOTHING
  not-sent : (i : Inc) (q : Peer) (P : List Step) → IsLegal shape P → length P < 4294967295
      → is_opened P i ≡ false → sent_to P i q ≡ []
  not-sent i q [] legal short none = refl
  not-sent i q (s ∷ P) legal short none =
      ap (λ (notes : List SigNote). notes
      ++ (if is_endpoint i (endpoint_by P s.by) then sent_by q s.head else []))
      (not-sent i q P legal.0 (omega (arith, short)) (opened-fewer s P i none))
      ∙ ap (λ (b : Bool). if b then sent_by q s.head else [])
      (by_maker (omega (arith, short)) (endpoint_by P s.by) refl)
    where
      by_maker : length P < 4294967295 → (me : Option Inc) → endpoint_by P s.by ≡ me
          → is_endpoint i me ≡ false
      by_maker few None is = refl
      by_maker few (Some j) is =
          false_from_ne_true (same_inc i j) (λ same.
          true≢false (sym (subst (λ (h : Inc). is_opened P h ≡ true) (sym (inc-is i j same))
          (and_parts (is_on (node_by shape s.by) j) (is_opened P j)
          (open-opened P (node_by shape s.by) j
          (maker-open shape P legal.0 few s.by j is))).1) ∙ opened-fewer s P i none))

  -- and nothing was sent to it
  not-sent-to : (a : Inc) (l : LinkNo) (y : Session) (i : Inc) (P : List Step) → IsLegal shape P
      → is_opened P i ≡ false → sent_to P a (There l y i) ≡ []
  not-sent-to a l y i [] legal none = refl
  not-sent-to a l y i (s ∷ P) legal none =
      ap (λ (notes : List SigNote). notes
      ++ (if is_endpoint a (endpoint_by P s.by) then sent_by (There l y i) s.head else []))
      (not-sent-to a l y i P legal.0 (opened-fewer s P i none))
      ∙ ap (λ (notes : List SigNote). if is_endpoint a (endpoint_by P s.by) then notes else [])
      (by_head s.head legal.1.nodes.sends)
      ∙ no-notes (is_endpoint a (endpoint_by P s.by))
    where
      dead : (p : Peer) (alive : Bool) (answer : SentTo) → alive ≡ false
          → answer ≡ send_answer alive p → was_sent answer ≡ false
      dead p alive answer not_alive is =
          ap was_sent (is ∙ ap (λ (b : Bool). send_answer b p) not_alive)

      by_head : (head : Head) → KeepsSends P (node_by shape s.by) head
          → sent_by (There l y i) head ≡ []
      by_head (heads.Send (Here j) note answer) keeps = rw (never (was_sent answer)) refl
      by_head (heads.Send (There k z j) note answer) keeps =
          go (same_inc j i) refl
        where
          go : (b : Bool) → same_inc j i ≡ b
              → (if was_sent answer && ((k.0 == l.0 && z.0 == y.0) && same_inc j i)
              then note ∷ [] else []) ≡ []
          go true same =
              rw (dead (There k z j) (is_alive P (node_by shape s.by) (There k z j)) answer
              (false_from_ne_true (is_alive P (node_by shape s.by) (There k z j)) (λ lives.
              true≢false (sym (subst (λ (h : Inc). is_opened P h ≡ true) (inc-is j i same)
              (living-opened P legal.0 (node_by shape s.by) k z j lives))
              ∙ opened-fewer s P i none))) keeps) refl
          go false other =
              rw (other, never (k.0 == l.0 && z.0 == y.0), never (was_sent answer)) refl
      by_head _ keeps = refl

  -- what a step opens wasn't opened before
  pub opens-fresh : (s : Step) (P : List Step) → IsLegal shape (s ∷ P) → length P < 4294967295
      → (i : Inc) → list_any (opens i) s.effects ≡ true → is_opened P i ≡ false
  opens-fresh s P legal short i is =
      false_from_ne_true (is_opened P i) (λ was. true≢false (sym is ∙ sym (opened-any i s.effects)
      ∙ ap (list_any (same_inc i)) (step-opens shape P s legal.1)
      ∙ by_opening was (is_opening s.head)))
    where
      by_opening : is_opened P i ≡ true → (b : Bool) → list_any (same_inc i)
          (cond b (next_on P (node_by shape s.by) ∷ []) []) ≡ false
      by_opening was true = opens-new shape P legal.0 short (node_by shape s.by) i was
      by_opening was false = refl

  -- so nothing was sent by one that a step opens, nor to one
  pub unsent : (s : Step) (P : List Step) → IsLegal shape (s ∷ P) → length P < 4294967295
      → (l : LinkNo) (a b : Inc) (y : Session)
      → (list_any (opens a) s.effects ≡ true) ⊎ (list_any (opens b) s.effects ≡ true)
      → sent_to P a (There l y b) ≡ []
  unsent s P legal short l a b y (inl new) =
      not-sent a (There l y b) P legal.0 short (opens-fresh s P legal short a new)
  unsent s P legal short l a b y (inr new) =
      not-sent-to a l y b P legal.0 (opens-fresh s P legal short b new)
