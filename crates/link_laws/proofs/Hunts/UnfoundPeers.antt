-- In a legal journal a pending hunt over a link names no living peer: else it had been found.
use Rattle.std.proofs.Common.{◌≡◌, ℕ, suc, Bool, true, false, cond, not, ◌||◌, ◌&&◌, ◌⊎◌, inl, inr}
use Rattle.std.proofs.Common.{List, [], ◌∷◌, ◌++◌, length, map, Option, Some, None, refl, sym, ◌∙◌}
use Rattle.std.proofs.Common.{ap, subst, arith, append-nil, ◌==◌, filter, fold, bytes_eq}
use Rattle.std.proofs.Common.{true≢false, eq-eqb, eqb-true}
use Rattle.std.specs.List.{list_any, AllByRecursion}
use Rattle.std.proofs.Math.Bool.{or-false}
use Rattle.std.proofs.lemmas.Bool.{false_from_ne_true, or_cases, or_left, or_right}
use Rattle.std.proofs.lemmas.List.Folds.{list_any-append}
use Rattle.linx_base.specs.FirstMatch.{first_match}
use Rattle.linx_base.specs.Numbers.{is_on, node_of}
use Rattle.linx_base.specs.Peers.{same_inc, same_path, same_peer}
use Rattle.linx_base.specs.Pending.{is_for}
use Rattle.linx_base.specs.declared.identity.Inc.{Inc}
use Rattle.linx_base.specs.declared.identity.LinkNo.{LinkNo}
use Rattle.linx_base.specs.declared.identity.Peer.{Peer}
use Rattle.linx_base.specs.declared.identity.Peer.TheVariants.{Here, There}
use Rattle.linx_base.specs.declared.identity.Session.{Session}
use Rattle.linx_base.specs.declared.name.Path.{Path}
use Rattle.linx_base.specs.declared.name.Path.TheVariants.{Local, Over}
use Rattle.linx_base.specs.declared.pending.MetPeer.{MetPeer}
use Rattle.linx_base.specs.declared.pending.PendingHunt.{PendingHunt}
use Rattle.trunk_record.specs.Sayings.{published}
use Rattle.journal.specs.Effects.{found, founds, hunted, meeting}
use Rattle.journal.specs.History.{endpoint_by, name_of}
use Rattle.journal.specs.Laws.{is_opening}
use Rattle.journal.specs.Living.{find, is_named_over, is_peer_over, living, living_after, met_peer}
use Rattle.journal.specs.Pending.{answers_hunt, ends_hunt, hunt_in, hunting}
use Rattle.journal.specs.Shapes.{Shape, node_by}
use Rattle.journal.specs.declared.by.By.{By}
use Rattle.journal.specs.declared.by.By.TheVariants.{Actor, Pump}
use Rattle.journal.specs.declared.effect.Effect.{Effect}
use Rattle.journal.specs.declared.effect.Effect.TheVariants.{Down, Gone, Met}
use Rattle.journal.specs.declared.effect.Step.{Step}
use Rattle.journal.specs.declared.head.Head.{Head}
use Rattle.journal.specs.declared.head.Head.TheVariants.{Hunt}
use Rattle.journal.proofs.Lists.{all-append, all-impl, list_any-filter, list_any-wider}
use Rattle.journal.proofs.Openings.{IsShort, next_on}
use Rattle.link_laws.specs.Laws.{HasEffects, IsLegal, IsLegalStep}
use Rattle.link_laws.specs.Linked.{IsTrueOf, IsUnfound, is_hunted}
use Rattle.trunk_record.proofs.Sayings.{same_inc-itself}
use Rattle.link_laws.proofs.Sides.Untouched.{same_peer-is}
use Rattle.link_laws.proofs.Sides.WordsAfterStep.{IsDone, any-items, is_item}
use Rattle.link_laws.proofs.Endpoints.Fresh.{opens-new, step-opens}
use Rattle.link_laws.proofs.Peers.Meetings.{MeetsNone, MeetsOne, hunted-meets_none, is_meeting}
use Rattle.link_laws.proofs.Peers.Meetings.{step-meets}
use Rattle.link_laws.proofs.Peers.FactsOfMet.{MeetsKnown, items-known, living-known}
use Rattle.link_laws.proofs.Peers.FactsOfMet.{meets_none-known}
use Rattle.link_laws.proofs.Endpoints.Names.{bytes_eq-is, bytes_eq-itself}
use Rattle.link_laws.proofs.Endpoints.OpenAfterStep.{OpensNew, both_true, opened-any, still-true}
use Rattle.link_laws.proofs.Endpoints.Places.{endpoint-on}
use Rattle.link_laws.proofs.AllLinks.OthersStay.{founds-items}

-- THE ENDPOINT OF A MAKER is on its node
pub maker-home : (shape : Shape) (P : List Step) → IsLegal shape P → IsShort P → (by : By) (j : Inc)
    → endpoint_by P by ≡ Some j → is_on (node_by shape by) j ≡ true
maker-home shape P legal short (Actor k) j is = endpoint-on shape P legal short k j is
maker-home shape P legal short (Pump l) j is = absurd cc

-- LISTS
module _ {X : Type 0} where
  pub all-each : (G : X → Type 0) → ((x : X) → G x) → (xs : List X) → AllByRecursion G xs
  all-each G each [] = tt
  all-each G each (x ∷ xs) = (each x, all-each G each xs)

  pub all-both : (F G H : X → Type 0) → ((x : X) → F x → G x → H x) → (xs : List X)
      → AllByRecursion F xs → AllByRecursion G xs → AllByRecursion H xs
  all-both F G H both [] fs gs = tt
  all-both F G H both (x ∷ xs) fs gs = (both x fs.0 gs.0, all-both F G H both xs fs.1 gs.1)

  -- what holds of each that passes holds of all that a filter keeps
  pub all-kept : (G : X → Type 0) (p : X → Bool) (xs : List X)
      → AllByRecursion (λ x. p x ≡ true → G x) xs → AllByRecursion G (filter p xs)
  all-kept G p [] each = tt
  all-kept G p (x ∷ xs) each = by_test (p x) refl (all-kept G p xs each.1)
    where
      by_test : (t : Bool) → p x ≡ t → AllByRecursion G (filter p xs)
          → AllByRecursion G (cond t (x ∷ filter p xs) (filter p xs))
      by_test true e rest = (each.0 e, rest)
      by_test false e rest = rest

  -- a test that one passes, of whom this holds
  any-with : (G : X → Type 0) (p q : X → Bool) → ((x : X) → G x → p x ≡ true → q x ≡ true)
      → (xs : List X) → AllByRecursion G xs → list_any p xs ≡ true → list_any q xs ≡ true
  any-with G p q passes [] all is = is
  any-with G p q passes (x ∷ xs) all is =
      elim (or_cases (p x) (list_any p xs) is) [
        | inl e ↦ or_left (q x) (list_any q xs) (passes x all.0 e)
        | inr e ↦ or_right (q x) (list_any q xs) (any-with G p q passes xs all.1 e)
      ]

  pub any-one : (G : X → Type 0) (p : X → Bool) (xs : List X) → AllByRecursion G xs
      → list_any p xs ≡ true → (x : X) × ((p x ≡ true) × G x)
  any-one G p [] all is = absurd (true≢false (sym is))
  any-one G p (x ∷ xs) all is =
      elim (or_cases (p x) (list_any p xs) is) [
        | inl e ↦ (x, (e, all.0))
        | inr e ↦ any-one G p xs all.1 e
      ]

  pub any-match : (p : X → Bool) (xs : List X) → list_any p xs ≡ true
      → (x : X) × (first_match p xs ≡ Some x)
  any-match p [] is = absurd (true≢false (sym is))
  any-match p (x ∷ xs) is = by_test (p x) (any-match p xs) is
    where
      by_test : (t : Bool) → (list_any p xs ≡ true → (y : X) × (first_match p xs ≡ Some y))
          → (t || list_any p xs) ≡ true → (y : X) × (cond t (Some x) (first_match p xs) ≡ Some y)
      by_test true rest e = (x, refl)
      by_test false rest e = rest e

  -- an image passes the test of what it is of: so does one of all that a filter keeps
  pub all-passed : {Y : Type 0} (p : X → Y → Bool) (f : X → Y) → ((x : X) → p x (f x) ≡ true)
      → (q : X → Bool) (xs : List X)
      → AllByRecursion (λ x. q x ≡ true → list_any (p x) (map f (filter q xs)) ≡ true) xs
  all-passed p f passes q [] = tt
  all-passed p f passes q (x ∷ xs) = (
    first (q x),
    all-impl _ _ (λ y is kept. later y (q x) (is kept)) xs (all-passed p f passes q xs),
  )
    where
      first : (t : Bool) → t ≡ true
          → list_any (p x) (map f (cond t (x ∷ filter q xs) (filter q xs))) ≡ true
      first true is = or_left (p x (f x)) _ (passes x)
      first false is = absurd (true≢false (sym is))

      later : (y : X) (t : Bool) → list_any (p y) (map f (filter q xs)) ≡ true
          → list_any (p y) (map f (cond t (x ∷ filter q xs) (filter q xs))) ≡ true
      later y true is = or_right (p y (f x)) _ is
      later y false is = is

-- a met peer is one of a path over its link
abbrev pub is_at_path : Path → MetPeer → Bool
is_at_path (Local v) m = false
is_at_path (Over l v) m = is_named_over l v m

-- an effect meets such a peer at the node
abbrev meets_at : ℕ → Path → Effect → Bool
meets_at n path (Met k q name) = k.0 == n && is_at_path path (record { peer = q; name = name })
meets_at n path _ = false

-- who lives after effects lived before, or was met by one of them
living-from : (n : ℕ) (path : Path) (z : List MetPeer) (es : List Effect)
    → list_any (is_at_path path) (fold (living_after n) z es) ≡ true
    → (list_any (is_at_path path) z ≡ true) ⊎ (list_any (meets_at n path) es ≡ true)
living-from n path z [] is = inl is
living-from n path z (e ∷ es) is =
    elim (living-from n path (living_after n z e) es is) [
      | inl was ↦ elim (one e was) [
        | inl had ↦ inl had
        | inr met ↦ inr (or_left (meets_at n path e) (list_any (meets_at n path) es) met)
      ]
      | inr met ↦ inr (or_right (meets_at n path e) (list_any (meets_at n path) es) met)
    ]
  where
    more : (t : Bool) (m : MetPeer) → list_any (is_at_path path) (cond t (z ++ m ∷ []) z) ≡ true
        → (list_any (is_at_path path) z ≡ true) ⊎ ((t && is_at_path path m) ≡ true)
    more true m is = elim (or_cases (list_any (is_at_path path) z) (is_at_path path m || false)
        (sym (list_any-append (is_at_path path) z (m ∷ [])) ∙ is)) [
          | inl e ↦ inl e
          | inr e ↦ inr (sym (or-false (is_at_path path m)) ∙ e)
        ]
    more false m is = inl is

    fewer : (t : Bool) (p : MetPeer → Bool)
        → list_any (is_at_path path) (cond t (filter p z) z) ≡ true
        → list_any (is_at_path path) z ≡ true
    fewer true p is = list_any-filter (is_at_path path) p z is
    fewer false p is = is

    one : (e : Effect) → list_any (is_at_path path) (living_after n z e) ≡ true
        → (list_any (is_at_path path) z ≡ true) ⊎ (meets_at n path e ≡ true)
    one (Met k q name) is = more (k.0 == n) (record { peer = q; name = name }) is
    one (Gone k q) is = inl (fewer (k.0 == n) _ is)
    one (Down k l x) is = inl (fewer (k.0 == n) _ is)
    one _ is = inl is

-- a found hunt is answered
pub found-answers : (q : Peer) (h : PendingHunt) → answers_hunt h (found q h) ≡ true
found-answers q h = ap (λ t. t && same_inc h.at h.at) (eq-eqb h.number h.number refl)
    ∙ same_inc-itself h.at

pub all-answered : (q : Peer) (path : Path) (hs : List PendingHunt)
    → AllByRecursion (λ h. is_for path h ≡ true
    → list_any (answers_hunt h) (founds path q hs) ≡ true) hs
all-answered q path hs = all-passed answers_hunt (found q) (found-answers q) (is_for path) hs

-- the met peer is one of the path of a hunt: the hunt is for its name
path-same : (l : LinkNo) (x : Session) (a : Inc) (name : List ℕ) (path : Path)
    → is_at_path path (record { peer = There l x a; name = name }) ≡ true
    → same_path (Over l name) path ≡ true
path-same l x a name (Local v) is = absurd (true≢false (sym is))
path-same l x a name (Over k v) is =
    let both = both_true (l.0 == k.0) (bytes_eq v name) is in
    let same : v ≡ name = bytes_eq-is v name both.1 in
    ap (λ t. t && bytes_eq name v) both.0 ∙ ap (bytes_eq name) same ∙ bytes_eq-itself name

none-met : (n : ℕ) (path : Path) (es : List Effect) → MeetsNone es
    → list_any (meets_at n path) es ≡ true → ⊥
none-met n path es none is =
    true≢false (sym (list_any-wider (meets_at n path) is_meeting wider es is) ∙ none)
  where
    wider : (e : Effect) → meets_at n path e ≡ true → is_meeting e ≡ true
    wider (Met k q name) is = refl
    wider _ is = absurd (true≢false (sym is))

-- a hunt of which a step meets a peer is answered by it
abbrev IsAnswered : ℕ → List Effect → PendingHunt → Type 0
IsAnswered n es h = list_any (meets_at n h.path) es ≡ true → list_any (answers_hunt h) es ≡ true

met-answers : (n k : ℕ) (l : LinkNo) (x : Session) (a : Inc) (name : List ℕ)
    (hs : List PendingHunt) → (k == n) ≡ true
    → AllByRecursion (IsAnswered n (meeting (record { 0 = k }) l (There l x a) name hs)) hs
met-answers n k l x a name hs here =
    all-impl _ _ (λ h is met. is (path-same l x a name h.path (at h met))) hs
    (all-answered (There l x a) (Over l name) hs)
  where
    items : (path : Path) (e : Effect) → is_item e ≡ true → meets_at n path e ≡ false
    items path (Met i q v) is = absurd (true≢false (sym is))
    items path _ is = refl

    at : (h : PendingHunt)
        → list_any (meets_at n h.path) (meeting (record { 0 = k }) l (There l x a) name hs) ≡ true
        → is_at_path h.path (record { peer = There l x a; name = name }) ≡ true
    at h met =
        let m : MetPeer = record { peer = There l x a; name = name } in
        elim (or_cases (k == n && is_at_path h.path m)
        (list_any (meets_at n h.path) (founds (Over l name) (There l x a) hs)) met) [
          | inl e ↦ (both_true (k == n) (is_at_path h.path m) e).1
          | inr e ↦ absurd (true≢false (sym e ∙ any-items (meets_at n h.path) (items h.path) _
              (founds-items (Over l name) (There l x a) hs)))
        ]

step-answers : (shape : Shape) (P : List Step) (s : Step) → IsLegalStep shape P s → (n : ℕ)
    → AllByRecursion (IsAnswered n s.effects) (hunting P n)
step-answers shape P s legal n =
    elim (step-meets shape P s legal) [
      | inl none ↦ all-each (IsAnswered n s.effects)
          (λ h met. absurd (none-met n h.path s.effects none met)) (hunting P n)
      | inr one ↦ by_node one (one.n == n) refl
    ]
  where
    by_node : (one : MeetsOne P s.effects) (t : Bool) → (one.n == n) ≡ t
        → AllByRecursion (IsAnswered n s.effects) (hunting P n)
    by_node one true here =
        subst (λ (es : List Effect). AllByRecursion (IsAnswered n es) (hunting P n))
        (sym one.effects)
        (subst (λ (k : ℕ). AllByRecursion (IsAnswered n
        (meeting (record { 0 = one.n }) one.l (There one.l one.x one.a) one.name (hunting P one.n)))
        (hunting P k)) (eqb-true one.n n here)
        (met-answers n one.n one.l one.x one.a one.name (hunting P one.n) here))
    by_node one false elsewhere =
        all-each (IsAnswered n s.effects) (λ h met. absurd (true≢false
        (sym (sym (ap (list_any (meets_at n h.path)) one.effects) ∙ met) ∙ off h))) (hunting P n)
      where
        items : (path : Path) (e : Effect) → is_item e ≡ true → meets_at n path e ≡ false
        items path (Met i q v) is = absurd (true≢false (sym is))
        items path _ is = refl

        off : (h : PendingHunt) → list_any (meets_at n h.path)
            (meeting (record { 0 = one.n }) one.l (There one.l one.x one.a) one.name
            (hunting P one.n)) ≡ false
        off h =
            ap (λ t. (t && is_at_path h.path
            (record { peer = There one.l one.x one.a; name = one.name }))
            || list_any (meets_at n h.path)
            (founds (Over one.l one.name) (There one.l one.x one.a) (hunting P one.n))) elsewhere
            ∙ any-items (meets_at n h.path) (items h.path) _
            (founds-items (Over one.l one.name) (There one.l one.x one.a) (hunting P one.n))

-- NO PENDING HUNT has found its peer
abbrev IsSeeking : List Step → ℕ → PendingHunt → Type 0
IsSeeking P n h = list_any (is_at_path h.path) (living P n) ≡ false

find-over : (P : List Step) (n : ℕ) (path : Path)
    → list_any (is_at_path path) (living P n) ≡ true → (q : Peer) × (find P n path ≡ Some q)
find-over P n (Local v) is = absurd (true≢false (sym is ∙ none (living P n)))
  where
    none : (z : List MetPeer) → list_any (is_at_path (Local v)) z ≡ false
    none [] = refl
    none (m ∷ z) = none z
find-over P n (Over l v) is =
    let one = any-match (is_named_over l v) (living P n) is in
    (one.0.peer, ap met_peer one.1)

-- a hunt that a step leaves is one that it doesn't answer
pub unanswered : (es : List Effect) (h : PendingHunt) → not (ends_hunt es h) ≡ true
    → list_any (answers_hunt h) es ≡ true → ⊥
unanswered es h kept answered =
    true≢false (sym (or_left (list_any (answers_hunt h) es) _ answered)
    ∙ un (ends_hunt es h) kept)
  where
    un : (t : Bool) → not t ≡ true → t ≡ false
    un true e = absurd (true≢false (sym e))
    un false e = refl

-- the hunt that a step begins finds nothing, or is answered at once
module _ (shape : Shape) (P : List Step) (s : Step) (n : ℕ) (legal : IsLegal shape P)
    (short : IsShort P) (step : IsLegalStep shape P s) where
  abbrev node : ℕ
  node = node_by shape s.by

  begun : (head : Head) → s.head ≡ head → (me : Option Inc) → endpoint_by P s.by ≡ me
      → AllByRecursion (λ h. not (ends_hunt s.effects h) ≡ true → IsSeeking (s ∷ P) n h)
      (hunt_in n (suc (length P)) me head)
  begun (Hunt path note) head None me = tt
  begun (Hunt path note) head (Some j) me = by_node (is_on n j) refl
    where
      h : PendingHunt
      h = record { at = j; path = path; signal = note; number = suc (length P) }

      effects : s.effects ≡ hunted (find P node path) h
      effects = subst (λ (t : Head). HasEffects shape P node (Some j) t s.effects) head
          (subst (λ (m : Option Inc). HasEffects shape P node m s.head s.effects) me
          step.nodes.effects)

      seeks : node ≡ n → not (ends_hunt s.effects h) ≡ true → IsSeeking (s ∷ P) n h
      seeks at kept = false_from_ne_true (list_any (is_at_path path) (living (s ∷ P) n)) (λ is.
          elim (living-from n path (living P n) s.effects is) [
            | inl was ↦
                let there = find-over P n path was in
                let is_found : s.effects ≡ found there.0 h ∷ [] =
                effects ∙ ap (λ (k : ℕ). hunted (find P k path) h) at
                ∙ ap (λ q. hunted q h) there.1 in
                unanswered s.effects h kept (ap (list_any (answers_hunt h)) is_found
                ∙ or_left (answers_hunt h (found there.0 h)) false
                (found-answers there.0 h))
            | inr met ↦ none-met n path s.effects
                (ap (list_any is_meeting) effects ∙ hunted-meets_none (find P node path) h) met
          ])

      by_node : (t : Bool) → is_on n j ≡ t
          → AllByRecursion (λ k. not (ends_hunt s.effects k) ≡ true → IsSeeking (s ∷ P) n k)
          (cond t (h ∷ []) [])
      by_node true on =
          let home : is_on node j ≡ true = maker-home shape P legal short s.by j me in (
            seeks (sym (eqb-true (node_of j) node home) ∙ eqb-true (node_of j) n on),
            tt,
          )
      by_node false off = tt
  begun _ head me is = tt

pub all-seeking : (shape : Shape) (P : List Step) → IsLegal shape P → IsShort P → (n : ℕ)
    → AllByRecursion (IsSeeking P n) (hunting P n)
all-seeking shape [] legal short n = tt
all-seeking shape (s ∷ P) legal short n =
    all-kept (IsSeeking (s ∷ P) n) (λ h. not (ends_hunt s.effects h)) _
    (all-append Goes (hunting P n) _
    (all-both (IsSeeking P n) (IsAnswered n s.effects) Goes goes_on (hunting P n)
    (all-seeking shape P legal.0 before n) (step-answers shape P s legal.1 n))
    (begun shape P s n legal.0 before legal.1 s.head refl (endpoint_by P s.by) refl))
  where
    before : IsShort P
    before = omega arith

    Goes : PendingHunt → Type 0
    Goes h = not (ends_hunt s.effects h) ≡ true → IsSeeking (s ∷ P) n h

    goes_on : (h : PendingHunt) → IsSeeking P n h → IsAnswered n s.effects h → Goes h
    goes_on h seeks answered kept =
        false_from_ne_true (list_any (is_at_path h.path) (living (s ∷ P) n)) (λ is.
        elim (living-from n h.path (living P n) s.effects is) [
          | inl was ↦ true≢false (sym was ∙ seeks)
          | inr met ↦ unanswered s.effects h kept (answered met)
        ])

-- THE NAME OF A LIVING PEER is that of its incarnation
abbrev pub IsNamed : List Step → Peer → List ℕ → Type 0
IsNamed P (Here i) name = Unit {0}
IsNamed P (There l x a) name = (m : ℕ) × IsTrueOf P m (published a name)

abbrev IsTrulyNamed : List Step → MetPeer → Type 0
IsTrulyNamed P m = IsNamed P m.peer m.name

pub all-named : (shape : Shape) (P : List Step) → IsLegal shape P → IsShort P → (n : ℕ)
    → AllByRecursion (IsTrulyNamed P) (living P n)
all-named shape [] legal short n = tt
all-named shape (s ∷ P) legal short n =
    living-known After n (living P n) s.effects
    (all-impl (IsTrulyNamed P) (IsTrulyNamed (s ∷ P)) (λ m is. still m.peer m.name is) (living P n)
    (all-named shape P legal.0 before n))
    (elim (step-meets shape P s legal.1) [
      | inl none ↦ meets_none-known After s.effects none
      | inr one ↦ subst (AllByRecursion (MeetsKnown After)) (sym one.effects) (
        still (There one.l one.x one.a) one.name (one.m, (one.may.opened, one.may.named)),
        items-known After _ (founds-items (Over one.l one.name) (There one.l one.x one.a)
            (hunting P one.n)),
      )
    ])
  where
    After : ℕ → MetPeer → Type 0
    After k m = IsTrulyNamed (s ∷ P) m

    before : IsShort P
    before = omega arith

    done : IsDone s s.effects []
    done = record { effects = sym (append-nil s.effects); items_only = tt }

    new : OpensNew P s.effects
    new i was = sym (opened-any i s.effects)
        ∙ ap (list_any (same_inc i)) (step-opens shape P s legal.1) ∙ by_opening (is_opening s.head)
      where
        by_opening : (t : Bool) → list_any (same_inc i)
            (cond t (next_on P (node_by shape s.by) ∷ []) []) ≡ false
        by_opening true = opens-new shape P legal.0 before (node_by shape s.by) i was
        by_opening false = refl

    still : (q : Peer) (name : List ℕ) → IsNamed P q name → IsNamed (s ∷ P) q name
    still (Here i) name is = tt
    still (There l x a) name is = (
      is.0,
      still-true P s s.effects [] done is.0 new (published a name) is.1,
    )

-- A PENDING HUNT over a link names no living peer
pub unfound : (shape : Shape) (P : List Step) → IsLegal shape P → IsShort P → (n : ℕ) (l : LinkNo)
    (v : List ℕ) → is_hunted P n l v ≡ true → IsUnfound P n l v
unfound shape P legal short n l v hunted_for x a lives =
    false_from_ne_true (bytes_eq v (name_of P a)) (λ same.
    let one = any-one (IsSeeking P n) (is_for (Over l v)) (hunting P n)
    (all-seeking shape P legal short n) hunted_for in
    true≢false (sym (any-with (IsTrulyNamed P) (λ m. same_peer (There l x a) m.peer)
    (is_at_path one.0.path) (λ m named is. passes one.0.path one.1.0 m.peer m.name named is same)
    (living P n) (all-named shape P legal short n) lives) ∙ one.1.1))
  where
    passes : (path : Path) → same_path (Over l v) path ≡ true → (q : Peer) (name : List ℕ)
        → IsNamed P q name → same_peer (There l x a) q ≡ true → bytes_eq v (name_of P a) ≡ true
        → is_at_path path (record { peer = q; name = name }) ≡ true
    passes (Local u) on q name named is same = absurd (true≢false (sym on))
    passes (Over k u) on q name named is same =
        let peer : q ≡ There l x a = same_peer-is l x a q is in
        let both = both_true (l.0 == k.0) (bytes_eq v u) on in
        let there : IsNamed P (There l x a) name =
        subst (λ (p : Peer). IsNamed P p name) peer named in
        let name_is : u ≡ name =
        sym (bytes_eq-is v u both.1) ∙ bytes_eq-is v (name_of P a) same ∙ there.1.1 in
        ap (λ p. is_peer_over k p && bytes_eq u name) peer
        ∙ ap (λ t. t && bytes_eq u name) both.0 ∙ ap (bytes_eq u) (sym name_is) ∙ bytes_eq-itself u
