-- In a legal journal a pending hunt for a name of its own node names no open endpoint of it: else
-- it had been found.
use Rattle.std.proofs.Common.{◌≡◌, ℕ, suc, Bool, true, false, cond, not, inl, inr, List, [], ◌∷◌}
use Rattle.std.proofs.Common.{length, Option, Some, None, refl, sym, ◌∙◌, ap, subst, arith}
use Rattle.std.proofs.Common.{filter_map, bytes_eq, eqb-true, true≢false}
use Rattle.std.specs.List.{list_any, AllByRecursion}
use Rattle.std.proofs.lemmas.Bool.{false_from_ne_true, or_left, or_right}
use Rattle.linx_base.specs.Numbers.{is_on, node_of}
use Rattle.linx_base.specs.Peers.{same_inc, same_path}
use Rattle.linx_base.specs.Pending.{is_for}
use Rattle.linx_base.specs.declared.identity.Inc.{Inc}
use Rattle.linx_base.specs.declared.identity.Peer.{Peer}
use Rattle.linx_base.specs.declared.identity.Peer.TheVariants.{Here}
use Rattle.linx_base.specs.declared.name.Path.{Path}
use Rattle.linx_base.specs.declared.name.Path.TheVariants.{Local, Over}
use Rattle.linx_base.specs.declared.pending.PendingHunt.{PendingHunt}
use Rattle.journal.specs.Effects.{found, founds, hunted, opening}
use Rattle.journal.specs.History.{endpoint_by, name_in, name_of, name_or_none, open_endpoints}
use Rattle.journal.specs.History.{opened_by, opened_in, opening_name, opens}
use Rattle.journal.specs.Living.{find, here, is_alive}
use Rattle.journal.specs.Pending.{answers_hunt, ends_hunt, hunt_in, hunting}
use Rattle.journal.specs.Shapes.{Shape, node_by}
use Rattle.journal.specs.declared.effect.Effect.TheVariants.{Opened}
use Rattle.journal.specs.declared.effect.Step.{Step}
use Rattle.journal.specs.declared.head.Head.{Head}
use Rattle.journal.specs.declared.head.Head.TheVariants.{Hunt, Open}
use Rattle.journal.proofs.Lists.{all-append, all-impl, list_any-filter, list_any-one}
use Rattle.journal.proofs.Lists.{list_any-wider}
use Rattle.journal.proofs.Openings.{IsShort, list_any-passed, next_on, same_inc-true}
use Rattle.link_laws.specs.Laws.{HasEffects, IsLegal, IsLegalStep}
use Rattle.link_laws.specs.Linked.{HasNone}
use Rattle.link_laws.specs.Runs.{AllUnfoundHere}
use Rattle.link_laws.proofs.Endpoints.Fresh.{open-name, step-opens}
use Rattle.link_laws.proofs.Endpoints.Names.{bytes_eq-is}
use Rattle.link_laws.proofs.Endpoints.OpenAfterStep.{opened-any, was_open_or_opened}
use Rattle.link_laws.proofs.Endpoints.Orderly.{opened_next}
use Rattle.link_laws.proofs.Endpoints.Places.{next_on-one_node}
use Rattle.link_laws.proofs.Hunts.UnfoundPeers.{all-answered, all-both, all-each, all-kept}
use Rattle.link_laws.proofs.Hunts.UnfoundPeers.{any-match, any-one}
use Rattle.link_laws.proofs.Hunts.UnfoundPeers.{found-answers, maker-home, unanswered}

-- AN OPEN ENDPOINT of the name is found by its path
find-open : (P : List Step) (n : ℕ) (v : List ℕ) (path : Path) (i : Inc)
    → same_path (Local v) path ≡ true → is_alive P n (Here i) ≡ true → bytes_eq v (name_of P i) ≡ true
    → (q : Peer) × (find P n path ≡ Some q)
find-open P n v (Over l w) i same open_ named = absurd (true≢false (sym same))
find-open P n v (Local w) i same open_ named =
    let has_name : Inc → Bool = λ k. bytes_eq w (name_of P k) in
    let one = any-match has_name (open_endpoints P n) (list_any-wider (same_inc i) has_name
    (λ k is. ap (λ u. bytes_eq u (name_of P k)) (sym (bytes_eq-is v w same))
    ∙ ap (λ j. bytes_eq v (name_of P j)) (sym (same_inc-true i k is)) ∙ named)
    (open_endpoints P n) open_) in
    (Here one.0, ap here one.1)

-- a hunt names no open endpoint of the node
abbrev IsSeeking : List Step → ℕ → PendingHunt → Type 0
IsSeeking P n h = (v : List ℕ) → is_for (Local v) h ≡ true → HasNone P n v

module _ (shape : Shape) (P : List Step) (s : Step) (n : ℕ) (legal : IsLegal shape P)
    (short : IsShort P) (step : IsLegalStep shape P s) where
  abbrev node : ℕ
  node = node_by shape s.by

  -- the step opens this incarnation on the node
  abbrev IsOpened : Inc → Type 0
  IsOpened i = list_any (same_inc i) (opened_by n s.effects) ≡ true

  opens-next : (i : Inc) → IsOpened i → list_any (same_inc i) (opened_next P node s.head) ≡ true
  opens-next i opened = sym (ap (list_any (same_inc i)) (step-opens shape P s step))
      ∙ list_any-filter (same_inc i) (is_on n) (filter_map opened_in s.effects) opened

  -- AN OPENING ANSWERS the hunts for its name, and no other step opens an endpoint
  abbrev IsAnswered : PendingHunt → Type 0
  IsAnswered h = (i : Inc) → IsOpened i → is_for (Local (name_of (s ∷ P) i)) h ≡ true
      → list_any (answers_hunt h) s.effects ≡ true

  opening-answers : (name : List ℕ) → s.head ≡ Open name
      → AllByRecursion IsAnswered (hunting P n)
  opening-answers name head =
      all-impl _ IsAnswered (λ h is i opened for_it.
      ap (list_any (answers_hunt h)) effects ∙ or_right (answers_hunt h (Opened new)) _
      (ap (λ (k : ℕ). list_any (answers_hunt h) (founds (Local name) (Here new) (hunting P k)))
      (sym (at i opened)) ∙ is (ap (λ v. is_for (Local v) h) (sym (named i opened)) ∙ for_it)))
      (hunting P n) (all-answered (Here new) (Local name) (hunting P n))
    where
      new : Inc
      new = next_on P node

      effects : s.effects ≡ opening new name (hunting P node)
      effects = subst (λ (t : Head). HasEffects shape P node (endpoint_by P s.by) t s.effects) head
          step.nodes.effects

      is_new : (i : Inc) → IsOpened i → i ≡ new
      is_new i opened = same_inc-true i new
          (list_any-one (same_inc i) new _ (ap (opened_next P node) head) (opens-next i opened))

      at : (i : Inc) → IsOpened i → n ≡ node
      at i opened = next_on-one_node shape P legal short node n
          (ap (is_on n) (sym (is_new i opened))
          ∙ list_any-passed (is_on n) i (filter_map opened_in s.effects) opened)

      named : (i : Inc) → IsOpened i → name_of (s ∷ P) i ≡ name
      named i opened =
          let opens_it : list_any (opens i) s.effects ≡ true = sym (opened-any i s.effects)
          ∙ list_any-filter (same_inc i) (is_on n) (filter_map opened_in s.effects) opened in
          ap (λ t. name_or_none (cond t (name_in s.head) (opening_name P i))) opens_it
          ∙ ap (λ (h : Head). name_or_none (name_in h)) head

  -- where the head opens nothing, no endpoint is new
  opens-none : (i : Inc) → opened_next P node s.head ≡ [] → IsOpened i → ⊥
  opens-none i none opened =
      true≢false (sym (opens-next i opened) ∙ ap (list_any (same_inc i)) none)

  answers : (head : Head) → s.head ≡ head → AllByRecursion IsAnswered (hunting P n)
  answers (Open name) head = opening-answers name head
  answers _ head = all-each IsAnswered
      (λ h i opened. absurd (opens-none i (ap (opened_next P node) head) opened)) (hunting P n)

  -- who is open after the step and isn't new was open before, by the same name
  was-none : (v : List ℕ) (i : Inc) → HasNone P n v → is_alive P n (Here i) ≡ true
      → bytes_eq v (name_of (s ∷ P) i) ≡ false
  was-none v i none was = ap (bytes_eq v) (open-name shape P s legal short step n i was)
      ∙ none i was

  -- a hunt that was pending goes on seeking, or is answered
  abbrev Goes : PendingHunt → Type 0
  Goes h = not (ends_hunt s.effects h) ≡ true → IsSeeking (s ∷ P) n h

  goes_on : (h : PendingHunt) → IsSeeking P n h → IsAnswered h → Goes h
  goes_on h seeks answered kept v for_v i alive =
      elim (was_open_or_opened P s n i alive) [
        | inl was ↦ was-none v i (seeks v for_v) was
        | inr new ↦ false_from_ne_true (bytes_eq v (name_of (s ∷ P) i)) (λ named.
            unanswered s.effects h kept (answered i new
            (ap (λ u. is_for (Local u) h) (sym (bytes_eq-is v (name_of (s ∷ P) i) named)) ∙ for_v)))
      ]

  -- the hunt that the step begins finds nothing, or is answered at once
  begun : (head : Head) → s.head ≡ head → (me : Option Inc) → endpoint_by P s.by ≡ me
      → AllByRecursion Goes (hunt_in n (suc (length P)) me head)
  begun (Hunt path note) head None me = tt
  begun (Hunt path note) head (Some j) me = by_node (is_on n j) refl
    where
      h : PendingHunt
      h = record { at = j; path = path; signal = note; number = suc (length P) }

      effects : s.effects ≡ hunted (find P node path) h
      effects = subst (λ (t : Head). HasEffects shape P node (Some j) t s.effects) head
          (subst (λ (m : Option Inc). HasEffects shape P node m s.head s.effects) me
          step.nodes.effects)

      seeks : node ≡ n → Goes h
      seeks at kept v for_v i alive =
          elim (was_open_or_opened P s n i alive) [
            | inl was ↦ false_from_ne_true (bytes_eq v (name_of (s ∷ P) i)) (λ named.
                let there = find-open P n v path i for_v was
                (ap (bytes_eq v) (sym (open-name shape P s legal short step n i was)) ∙ named) in
                unanswered s.effects h kept (ap (list_any (answers_hunt h))
                (effects ∙ ap (λ (k : ℕ). hunted (find P k path) h) at
                ∙ ap (λ q. hunted q h) there.1)
                ∙ or_left (answers_hunt h (found there.0 h)) false (found-answers there.0 h)))
            | inr new ↦ absurd (opens-none i (ap (opened_next P node) head) new)
          ]

      by_node : (t : Bool) → is_on n j ≡ t → AllByRecursion Goes (cond t (h ∷ []) [])
      by_node true on =
          let home : is_on node j ≡ true = maker-home shape P legal short s.by j me in
          (seeks (sym (eqb-true (node_of j) node home) ∙ eqb-true (node_of j) n on), tt)
      by_node false off = tt
  begun _ head me is = tt

-- NO PENDING HUNT names an open endpoint of its node
all-seeking : (shape : Shape) (P : List Step) → IsLegal shape P → IsShort P → (n : ℕ)
    → AllByRecursion (IsSeeking P n) (hunting P n)
all-seeking shape [] legal short n = tt
all-seeking shape (s ∷ P) legal short n =
    let before : IsShort P = omega arith in
    all-kept (IsSeeking (s ∷ P) n) (λ h. not (ends_hunt s.effects h)) _
    (all-append (Goes shape P s n legal.0 before legal.1) (hunting P n) _
    (all-both (IsSeeking P n) (IsAnswered shape P s n legal.0 before legal.1)
    (Goes shape P s n legal.0 before legal.1) (goes_on shape P s n legal.0 before legal.1)
    (hunting P n) (all-seeking shape P legal.0 before n)
    (answers shape P s n legal.0 before legal.1 s.head refl))
    (begun shape P s n legal.0 before legal.1 s.head refl (endpoint_by P s.by) refl))

pub unfound_here : (shape : Shape) (P : List Step) → IsLegal shape P → IsShort P
    → AllUnfoundHere P
unfound_here shape P legal short n v is =
    let one = any-one (IsSeeking P n) (is_for (Local v)) (hunting P n)
    (all-seeking shape P legal short n) is in
    one.1.1 v one.1.0
