-- The openings of a history: what a head opens, and who is open and has what was opened. They need
-- no legality; what a legal history adds, link_laws shows.
use Rattle.std.proofs.Common.{◌≡◌, ℕ, suc, ◌<◌, ◌≤◌, Bool, true, false, not, cond, ◌⊎◌, inl, inr}
use Rattle.std.proofs.Common.{List, [], ◌∷◌, ◌++◌, length, map, Option, Some, None, refl, sym, ap}
use Rattle.std.proofs.Common.{◌∙◌, subst, if◌then◌else◌, filter, filter_map, eqb-true, eq-eqb}
use Rattle.std.proofs.Common.{true≢false}
use Rattle.std.specs.List.{list_any, AllByRecursion}
use Rattle.std.proofs.lemmas.Bool.{cond_both, or_cases, or_left, or_right}
use Rattle.std.proofs.lemmas.List.Folds.{list_any-append}
use Rattle.linx_base.specs.Numbers.{is_on}
use Rattle.linx_base.specs.Peers.{same_inc, same_peer}
use Rattle.linx_base.specs.declared.identity.Inc.{Inc}
use Rattle.linx_base.specs.declared.identity.Peer.{Peer}
use Rattle.linx_base.specs.declared.identity.Peer.TheVariants.{Here, There}
use Rattle.linx_base.specs.declared.name.Path.{Path}
use Rattle.linx_base.specs.declared.name.Path.TheVariants.{Local}
use Rattle.linx_base.specs.declared.pending.PendingAttach.{PendingAttach}
use Rattle.linx_base.specs.declared.pending.PendingHunt.{PendingHunt}
use Rattle.linx_base.specs.declared.signal.Reason.{Reason}
use Rattle.linx_base.specs.declared.signal.Reason.TheVariants as reasons
use Rattle.linx_base.specs.SigNotes.{SigNote}
use Rattle.journal.specs.declared.by.By.{By}
use Rattle.journal.specs.declared.by.By.TheVariants.{Actor, Pump}
use Rattle.journal.specs.declared.head.Head.{Head}
use Rattle.journal.specs.declared.head.Head.TheVariants.{Open, Close, Send}
use Rattle.journal.specs.declared.head.Head.TheVariants.{Hunt, Attach}
use Rattle.journal.specs.declared.head.Head.TheVariants.{Restart, Ended}
use Rattle.journal.specs.declared.effect.Effect.{Effect}
use Rattle.journal.specs.declared.effect.Effect.TheVariants.{Opened, Closed}
use Rattle.journal.specs.declared.effect.Step.{Step}
use Rattle.journal.specs.Effects.{hunts_for, found, founds, notice, notices, held_elsewhere, ending}
use Rattle.journal.specs.Effects.{closings, arrivals_of, hunted, attached}
use Rattle.journal.specs.History.{is_by, opened_in, closes, last_opened, unless_closed, endpoint_of}
use Rattle.journal.specs.History.{endpoint_by, opened_by, open_endpoints, opened_on, next_inc}
use Rattle.journal.specs.Living.{find, is_alive}
use Rattle.journal.specs.Pending.{attach_at, attach_in, hunt_at, hunt_in, hunting, owed}
use Rattle.journal.specs.Shapes.{Shape, node_by}
use Rattle.journal.specs.Laws.{is_opening, effects_by, sending, hunting_by, attaching}
use Rattle.journal.proofs.Lists.{all-append, all-filter}

-- the test of incarnations is their equality
pub same_inc-refl : (i : Inc) → same_inc i i ≡ true
same_inc-refl i = eq-eqb i.0 i.0 refl

pub same_inc-true : (i j : Inc) → same_inc i j ≡ true → i ≡ j
same_inc-true i j is = ap (λ (n : ℕ). record { 0 = n }) (eqb-true i.0 j.0 is)

-- the incarnation of the next opening on a node
abbrev pub next_on : List Step → ℕ → Inc
next_on P node = next_inc node (opened_on P node)

-- effects of which none is an opening
abbrev OpenNone : List Effect → Type 0
OpenNone es = filter_map opened_in es ≡ []

module _ {X : Type 0} (f : X → Effect) (none : (x : X) → opened_in (f x) ≡ None) where
  map-open_none : (xs : List X) → OpenNone (map f xs)
  map-open_none [] = refl
  map-open_none (x ∷ xs) = rw (none x) (map-open_none xs)

founds-open_none : (path : Path) (q : Peer) (hunts : List PendingHunt)
    → OpenNone (founds path q hunts)
founds-open_none path q hunts = map-open_none (found q) (λ h. refl) (hunts_for path hunts)

notices-open_none : (reason : Reason) (ended : Peer → Bool) (attaches : List PendingAttach)
    → OpenNone (notices reason ended attaches)
notices-open_none reason ended attaches =
    map-open_none (notice reason) (λ a. refl) (filter (λ a. ended a.peer) attaches)

ending-open_none : (me : Option Inc) (attaches : List PendingAttach)
    → OpenNone (ending me attaches)
ending-open_none None attaches = refl
ending-open_none (Some j) attaches =
    notices-open_none reasons.Closed (same_peer (Here j)) (held_elsewhere j attaches)

closings-open_none : (incs : List Inc) → OpenNone (closings incs)
closings-open_none incs = map-open_none Closed (λ i. refl) incs

arrivals-open_none : (j : Inc) (note : SigNote) (alive : Bool) (q : Peer)
    → OpenNone (arrivals_of j note alive q)
arrivals-open_none j note false q = refl
arrivals-open_none j note true (Here i) = refl
arrivals-open_none j note true (There link session i) = refl

hunted-open_none : (q : Option Peer) (h : PendingHunt) → OpenNone (hunted q h)
hunted-open_none None h = refl
hunted-open_none (Some q) h = refl

attached-open_none : (alive : Bool) (a : PendingAttach) → OpenNone (attached alive a)
attached-open_none true a = refl
attached-open_none false a = refl

module _ (P : List Step) (node : ℕ) where
  sending-open_none : (me : Option Inc) (q : Peer) (note : SigNote)
      → OpenNone (sending P node me q note)
  sending-open_none None q note = refl
  sending-open_none (Some j) q note = arrivals-open_none j note (is_alive P node q) q

  hunting-open_none : (me : Option Inc) (path : Path) (note : SigNote)
      → OpenNone (hunting_by P node me path note)
  hunting-open_none None path note = refl
  hunting-open_none (Some j) path note =
      hunted-open_none (find P node path)
      (record { at = j; path = path; signal = note; number = suc (length P) })

  attaching-open_none : (me : Option Inc) (q : Peer) (note : SigNote)
      → OpenNone (attaching P node me q note)
  attaching-open_none None q note = refl
  attaching-open_none (Some j) q note =
      attached-open_none (is_alive P node q)
      (record { at = j; peer = q; signal = note; reference = record { 0 = suc (length P) } })

  -- an opening opens the next incarnation of its node, and no other step opens one
  pub effects-open : (me : Option Inc) (head : Head)
      → filter_map opened_in (effects_by P node me head) ≡
      (if is_opening head then next_on P node ∷ [] else [])
  effects-open me (Open name) =
      ap (λ incs. next_on P node ∷ incs)
      (founds-open_none (Local name) (Here (next_on P node)) (hunting P node))
  effects-open me Close = ending-open_none me (owed P node)
  effects-open me (Send q note answer) = sending-open_none me q note
  effects-open me (Hunt path note) = hunting-open_none me path note
  effects-open me (Attach q note) = attaching-open_none me q note
  effects-open me (Restart n) = closings-open_none (open_endpoints P n.0)
  effects-open me Ended = ending-open_none me (owed P node)
  effects-open me _ = refl

-- the last of these incarnations, or else this one
abbrev pub last_in : Option Inc → List Inc → Option Inc
last_in e [] = e
last_in e (i ∷ incs) = last_in (Some i) incs

-- what effects open last is the last of what they open
pub last_opened-opens : (e : Option Inc) (es : List Effect)
    → last_opened e es ≡ last_in e (filter_map opened_in es)
last_opened-opens e [] = refl
last_opened-opens e (Opened i ∷ es) = last_opened-opens (Some i) es
last_opened-opens e (_ ∷ es) = last_opened-opens e es

-- so few steps that the number of each opening fits into the lower half of an incarnation
abbrev pub IsShort : List Step → Type 0
IsShort P = length P < 4294967295

-- an incarnation of a node below its next one
abbrev pub IsBelow : List Step → ℕ → Inc → Type 0
IsBelow P node i = (is_on node i ≡ true) × (i.0 < (next_on P node).0)

-- each is below those behind it
abbrev pub Rising : List Inc → Type 0
Rising [] = Unit {0}
Rising (i ∷ incs) = AllByRecursion (λ j. i.0 < j.0) incs × Rising incs

-- one incarnation among those that pass a test
pub list_any-passing : (p : Inc → Bool) (i : Inc) (incs : List Inc)
    → list_any (same_inc i) incs ≡ true → p i ≡ true → list_any (same_inc i) (filter p incs) ≡ true
list_any-passing p i [] is passes = is
list_any-passing p i (j ∷ incs) is passes =
    let kept : List Inc = filter p incs in
    let either = or_cases (same_inc i j) (list_any (same_inc i) incs) is in
    cond_both (p j) (j ∷ kept) kept (λ l. list_any (same_inc i) l ≡ true)
    (λ stays. elim either [
      | inl e ↦ or_left (same_inc i j) (list_any (same_inc i) kept) e
      | inr e ↦ or_right (same_inc i j) (list_any (same_inc i) kept)
          (list_any-passing p i incs e passes)
    ])
    (λ goes. elim either [
      | inl e ↦ absurd (true≢false (sym passes ∙ ap p (same_inc-true i j e) ∙ goes))
      | inr e ↦ list_any-passing p i incs e passes
    ])

pub list_any-passed : (p : Inc → Bool) (i : Inc) (incs : List Inc)
    → list_any (same_inc i) (filter p incs) ≡ true → p i ≡ true
list_any-passed p i [] is = absurd (true≢false (sym is))
list_any-passed p i (j ∷ incs) is =
    let kept : List Inc = filter p incs in
    cond_both (p j) (j ∷ kept) kept (λ l. list_any (same_inc i) l ≡ true → p i ≡ true)
    (λ stays among. elim (or_cases (same_inc i j) (list_any (same_inc i) kept) among) [
      | inl e ↦ ap p (same_inc-true i j e) ∙ stays
      | inr e ↦ list_any-passed p i incs e
    ])
    (λ goes among. list_any-passed p i incs among) is

-- an endpoint is one of the open ones of a node
abbrev pub IsOpenAt : List Step → ℕ → Inc → Type 0
IsOpenAt P node i = list_any (same_inc i) (open_endpoints P node) ≡ true

-- an incarnation is open after a step: it was, or the step opened it, and the step didn't close it
module _ (P : List Step) (s : Step) (node : ℕ) (i : Inc) where
  pub open-after : list_any (closes i) s.effects ≡ false
      → (list_any (same_inc i) (open_endpoints P node) ≡ true)
      ⊎ (list_any (same_inc i) (opened_by node s.effects) ≡ true)
      → list_any (same_inc i) (open_endpoints (s ∷ P) node) ≡ true
  open-after stays is =
      let before : List Inc = open_endpoints P node in
      let new : List Inc = opened_by node s.effects in
      list_any-passing (λ j. not (list_any (closes j) s.effects)) i (before ++ new)
      (list_any-append (same_inc i) before new
      ∙ elim is [
        | inl e ↦ or_left (list_any (same_inc i) before) (list_any (same_inc i) new) e
        | inr e ↦ or_right (list_any (same_inc i) before) (list_any (same_inc i) new) e
      ])
      (ap not stays)

-- the actor made what it is said to have made
pub is_by-actor : (by : By) (k : ℕ) → is_by by k ≡ true → by ≡ Actor k
is_by-actor (Actor a) k is = ap Actor (eqb-true a k is)
is_by-actor (Pump link) k is = absurd (true≢false (sym is))

-- what effects leave of an endpoint is all of it, and they don't close it
pub unless_closed-some : (es : List Effect) (e : Option Inc) (j : Inc)
    → unless_closed es e ≡ Some j → (e ≡ Some j) × (list_any (closes j) es ≡ false)
unless_closed-some es None j is = absurd cc
unless_closed-some es (Some i) j is =
    cond_both (list_any (closes i) es) None (Some i)
    (λ e. e ≡ Some j → (Some i ≡ Some j) × (list_any (closes j) es ≡ false))
    (λ closed none. absurd cc)
    (λ stays some.
    let same : i ≡ j = cc in (some, subst (λ x. list_any (closes x) es ≡ false) same stays))
    is

-- the endpoint of an actor before the effects of a step close any
abbrev pub endpoint_opened : List Step → Step → ℕ → Option Inc
endpoint_opened P s k =
    cond (is_by s.by k) (last_opened (endpoint_of P k) s.effects) (endpoint_of P k)

-- a step of actor k opens this incarnation
pub record OpensBy (shape : Shape) (P : List Step) (s : Step) (k : ℕ) (j : Inc) : Type 0 where
  pub by : s.by ≡ Actor k
  pub opens : is_opening s.head ≡ true
  pub next : j ≡ next_on P (node_by shape (Actor k))

-- what holds of all holds of one among them
pub all-among : (Q : Inc → Type 0) (i : Inc) (incs : List Inc) → AllByRecursion Q incs
    → list_any (same_inc i) incs ≡ true → Q i
all-among Q i [] all is = absurd (true≢false (sym is))
all-among Q i (j ∷ incs) all is =
    elim (or_cases (same_inc i j) (list_any (same_inc i) incs) is) [
      | inl e ↦ subst Q (sym (same_inc-true i j e)) all.0
      | inr e ↦ all-among Q i incs all.1 e
    ]

-- who owns an endpoint: an actor of the shape, whose endpoint it is
abbrev pub Owner : Shape → List Step → Inc → Type 0
Owner shape P i = (k : ℕ) × (0 < k) × (k ≤ length shape.actors) × (endpoint_of P k ≡ Some i)

-- what is pending at a node is of its own endpoints
hunt_at-on : (node k : ℕ) (me : Option Inc) (path : Path) (note : SigNote)
    → AllByRecursion (λ h. is_on node h.at ≡ true) (hunt_at node k me path note)
hunt_at-on node k None path note = tt
hunt_at-on node k (Some j) path note =
    cond_both (is_on node j) (record { at = j; path = path; signal = note; number = k } ∷ []) []
    (AllByRecursion (λ h. is_on node h.at ≡ true)) (λ on. (on, tt)) (λ off. tt)

hunt_in-on : (node k : ℕ) (me : Option Inc) (head : Head)
    → AllByRecursion (λ h. is_on node h.at ≡ true) (hunt_in node k me head)
hunt_in-on node k me (Hunt path note) = hunt_at-on node k me path note
hunt_in-on node k me _ = tt

pub hunting-on : (P : List Step) (node : ℕ)
    → AllByRecursion (λ h. is_on node h.at ≡ true) (hunting P node)
hunting-on [] node = tt
hunting-on (s ∷ P) node =
    let On : PendingHunt → Type 0 = λ h. is_on node h.at ≡ true in
    let me : Option Inc = endpoint_by P s.by in
    let new : List PendingHunt = hunt_in node (suc (length P)) me s.head in
    all-filter On _ (hunting P node ++ new)
    (all-append On (hunting P node) new (hunting-on P node)
    (hunt_in-on node (suc (length P)) me s.head))

attach_at-on : (node k : ℕ) (me : Option Inc) (q : Peer) (note : SigNote)
    → AllByRecursion (λ a. is_on node a.at ≡ true) (attach_at node k me q note)
attach_at-on node k None q note = tt
attach_at-on node k (Some j) q note =
    cond_both (is_on node j)
    (record { at = j; peer = q; signal = note; reference = record { 0 = k } } ∷ []) []
    (AllByRecursion (λ a. is_on node a.at ≡ true)) (λ on. (on, tt)) (λ off. tt)

attach_in-on : (node k : ℕ) (me : Option Inc) (head : Head)
    → AllByRecursion (λ a. is_on node a.at ≡ true) (attach_in node k me head)
attach_in-on node k me (Attach q note) = attach_at-on node k me q note
attach_in-on node k me _ = tt

pub owed-on : (P : List Step) (node : ℕ)
    → AllByRecursion (λ a. is_on node a.at ≡ true) (owed P node)
owed-on [] node = tt
owed-on (s ∷ P) node =
    let On : PendingAttach → Type 0 = λ a. is_on node a.at ≡ true in
    let me : Option Inc = endpoint_by P s.by in
    let new : List PendingAttach = attach_in node (suc (length P)) me s.head in
    all-filter On _ (owed P node ++ new)
    (all-append On (owed P node) new (owed-on P node)
    (attach_in-on node (suc (length P)) me s.head))
