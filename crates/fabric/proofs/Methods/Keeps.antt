-- What a fabric keeps over one step.
use Rattle.std.proofs.Common.{◌≡◌, ◌≢◌, ℕ, zero, suc, ◌<◌, Bool, true, false, ◌||◌, List, [], ◌∷◌}
use Rattle.std.proofs.Common.{length, filter, Option, Some, None, refl, sym, ◌∙◌, ap, subst, arith}
use Rattle.std.proofs.Common.{◌==◌, slice_get, slice_set, eqb-true, eq-eqb, ne_eqb, true≢false}
use Rattle.std.specs.List.{list_any}
use Rattle.std.proofs.Math.Bool.{or-false}
use Rattle.std.proofs.lemmas.Bool.{false_from_ne_true}
use Rattle.linx_base.specs.Peers.{same_inc, same_peer}
use Rattle.linx_base.specs.declared.identity.Inc.{Inc}
use Rattle.linx_base.specs.declared.identity.Peer.TheVariants.{Here}
use Rattle.linx_base.specs.declared.name.Path.TheVariants.{Local}
use Rattle.linx_base.specs.declared.pending.PendingAttach.{PendingAttach}
use Rattle.linx_base.specs.declared.signal.Reason.TheVariants as reasons
use Rattle.journal.specs.declared.by.By.{By}
use Rattle.journal.specs.declared.by.By.TheVariants.{Actor}
use Rattle.journal.specs.declared.effect.Step.{Step}
use Rattle.journal.specs.declared.head.Head.{Head}
use Rattle.journal.specs.declared.head.Head.TheVariants.{Open, Close, Send}
use Rattle.journal.specs.declared.head.Head.TheVariants.{Hunt, Attach}
use Rattle.journal.specs.declared.head.Head.TheVariants.{Restart, Ended}
use Rattle.journal.specs.Effects.{closing, ending, held_elsewhere, hunts_for}
use Rattle.journal.specs.History.{closes, endpoint_by, endpoint_of, is_by, is_lost, next_inc}
use Rattle.journal.specs.History.{opened_on}
use Rattle.journal.specs.Laws.{effects_by}
use Rattle.journal.specs.Living.{find, is_alive}
use Rattle.journal.specs.Logs.{step_limit}
use Rattle.journal.specs.Pending.{hunting, owed}
use Rattle.journal.specs.Shapes.{Shape, node_by}
use Rattle.journal.proofs.Openings.{IsShort, same_inc-true}
use Rattle.link_laws.specs.Laws.{IsLegal}
use Rattle.link_laws.proofs.Endpoints.Places.{endpoints-differ}
use Rattle.run_trunks.specs.States.{trunks_of}
use Rattle.trunk.specs.Events.{TrunkState}
use Rattle.trunk_moves.specs.Steps.{IsTrunkStep}
use Rattle.fabric.specs.declared.standing.Standing.{Standing}
use Rattle.fabric.specs.Remains.{AreCounted, AreLeft, AreStandingsLeft, IsKept, Parts}
use Rattle.fabric.specs.Remains.{standing_left}
use Rattle.fabric.specs.Run.{IsMade, Layout}
use Rattle.fabric.proofs.AfterStep.Effects.{only-arrivals, only-attached, only-founds, only-hunted}
use Rattle.fabric.proofs.AfterStep.Effects.{only-notices}
use Rattle.fabric.proofs.Methods.Legal.{is_restart}
use Rattle.fabric.proofs.Standings.AfterStep.{standing-other, standing_past}

-- a closing closes its endpoint alone
own-closing : (i j : Inc) (owes : List PendingAttach) → list_any (closes i) (closing j owes) ≡ true
    → (let e : Option Inc = Some j in e) ≡ Some i
own-closing i j owes is =
    let told = only-notices reasons.Closed (filter (λ a. same_peer (Here j) a.peer)
    (held_elsewhere j owes)) in
    let same : same_inc i j ≡ true =
    sym (or-false (same_inc i j)) ∙ sym (ap (λ b. same_inc i j || b) (told.closes_none i)) ∙ is in
    ap (λ (x : Inc). Some x) (sym (same_inc-true i j same))

-- LISTS with one place changed
pub get-set : {X : Type 0} (xs : List X) (i : ℕ) (x : X) → i < length xs
    → slice_get (slice_set xs i x) i ≡ Some x
get-set [] i x within = absurd (omega arith)
get-set (y ∷ xs) zero x within = refl
get-set (y ∷ xs) (suc i) x within = get-set xs i x (omega arith)

pub get-set-other : {X : Type 0} (xs : List X) (i j : ℕ) (x : X) → i ≢ j
    → slice_get (slice_set xs i x) j ≡ slice_get xs j
get-set-other [] i j x other = refl
get-set-other (y ∷ xs) zero zero x other = absurd (other refl)
get-set-other (y ∷ xs) zero (suc j) x other = refl
get-set-other (y ∷ xs) (suc i) zero x other = refl
get-set-other (y ∷ xs) (suc i) (suc j) x other = get-set-other xs i j x (λ e. other (ap suc e))

pub length-set : {X : Type 0} (xs : List X) (i : ℕ) (x : X) → length (slice_set xs i x) ≡ length xs
length-set [] i x = refl
length-set (y ∷ xs) zero x = refl
length-set (y ∷ xs) (suc i) x = ap suc (length-set xs i x)

-- LISTS of what is left of each number from 1 on: f before a step, g after it
module _ {X : Type 0} (f g : ℕ → X) (xs : List X)
    (left : (n : ℕ) → n < length xs → slice_get xs n ≡ Some (f (suc n))) where
  -- where one of them changes, it is set
  pub set-left : (place : ℕ) → ((n : ℕ) → place ≢ n → g (suc n) ≡ f (suc n)) → (x : X)
      → place < length xs → x ≡ g (suc place)
      → (n : ℕ) → n < length (slice_set xs place x)
      → slice_get (slice_set xs place x) n ≡ Some (g (suc n))
  set-left place elsewhere x within is n under = go (place == n) refl
    where
      go : (b : Bool) → (place == n) ≡ b → slice_get (slice_set xs place x) n ≡ Some (g (suc n))
      go true e =
          let same : place ≡ n = eqb-true place n e in
          subst (λ (m : ℕ). slice_get (slice_set xs place x) m ≡ Some (g (suc m))) same
          (get-set xs place x within ∙ ap (λ (y : X). Some y) is)
      go false e =
          let other : place ≢ n = λ same. true≢false (sym (eq-eqb place n same) ∙ e) in
          get-set-other xs place n x other
          ∙ left n (omega (arith, under, length-set xs place x))
          ∙ ap (λ (y : X). Some y) (sym (elsewhere n other))

  -- where none changes, they are as they were
  pub same-left : ((n : ℕ) → g (suc n) ≡ f (suc n)) → (n : ℕ) → n < length xs
      → slice_get xs n ≡ Some (g (suc n))
  same-left all n under = left n under ∙ ap (λ (y : X). Some y) (sym (all n))

-- THE STANDINGS after a step that closes no other actor's endpoint
module _ (P : List Step) (s : Step) where
  -- one that the step isn't of, and whose endpoint it doesn't close
  pub standing-stays : (m : ℕ) → is_by s.by m ≡ false → is_lost s.effects (endpoint_of P m) ≡ false
      → standing_left (s ∷ P) m ≡ standing_left P m
  standing-stays m apart kept =
      ap (λ (b : Bool). standing_past b (suc (length P)) s.head s.effects (standing_left P m)) apart
      ∙ standing-other (suc (length P)) s.head s.effects (standing_left P m) kept

  -- actor k's own is set
  pub standings-next : (k : ℕ) → s.by ≡ Actor (suc k)
      → ((m : ℕ) → suc k ≢ m → is_lost s.effects (endpoint_of P m) ≡ false)
      → (standings : List Standing) → AreStandingsLeft P standings → k < length standings
      → (standing : Standing)
      → standing ≡ standing_past true (suc (length P)) s.head s.effects (standing_left P (suc k))
      → AreStandingsLeft (s ∷ P) (slice_set standings k standing)
  standings-next k by others standings left within standing is =
      set-left (standing_left P) (standing_left (s ∷ P)) standings left k
      (λ n other.
      let apart : suc k ≢ suc n = λ same. other (omega arith) in
      standing-stays (suc n)
      (ap (λ (b : By). is_by b (suc n)) by ∙ ne_eqb (suc k) (suc n) apart)
      (others (suc n) apart))
      standing within
      (is ∙ ap (λ (b : Bool). standing_past b (suc (length P)) s.head s.effects
      (standing_left P (suc k))) (sym (ap (λ (b : By). is_by b (suc k)) by
      ∙ eq-eqb (suc k) (suc k) refl)))

  -- a step of no actor
  pub standings-same : ((m : ℕ) → is_by s.by m ≡ false)
      → ((m : ℕ) → is_lost s.effects (endpoint_of P m) ≡ false)
      → (standings : List Standing) → AreStandingsLeft P standings
      → AreStandingsLeft (s ∷ P) standings
  standings-same apart others standings left =
      same-left (standing_left P) (standing_left (s ∷ P)) standings left
      (λ n. standing-stays (suc n) (apart (suc n)) (others (suc n)))

-- A STEP OF ACTOR k that restarts no node, and is no pump's, closes at most that actor's endpoint
module _ (shape : Shape) (P : List Step) (legal : IsLegal shape P) (short : IsShort P)
    (s : Step) (k : ℕ) (by : s.by ≡ Actor (suc k))
    (effects : s.effects ≡ effects_by P (node_by shape s.by) (endpoint_by P s.by) s.head) where
  -- what a head may close is the maker's endpoint, unless it restarts a node
  closes-own : (head : Head) → is_restart head ≡ false → (i : Inc) (me : Option Inc)
      → list_any (closes i) (effects_by P (node_by shape s.by) me head) ≡ true → me ≡ Some i
  closes-own (Open name) calm i me is = absurd (true≢false (sym is
      ∙ (only-founds (Here (next_inc (node_by shape s.by) (opened_on P (node_by shape s.by))))
      (hunts_for (Local name) (hunting P (node_by shape s.by)))).closes_none i))
  closes-own Close calm i me is = ending-own me is
    where
      ending-own : (e : Option Inc) → list_any (closes i) (ending e (owed P
          (node_by shape s.by))) ≡ true → e ≡ Some i
      ending-own None is = absurd (true≢false (sym is))
      ending-own (Some j) is = own-closing i j (owed P (node_by shape s.by)) is
  closes-own (Send q note answer) calm i (Some j) is = absurd (true≢false (sym is
      ∙ (only-arrivals j note (is_alive P (node_by shape s.by) q) q).closes_none i))
  closes-own (Hunt path note) calm i (Some j) is = absurd (true≢false (sym is
      ∙ (only-hunted (find P (node_by shape s.by) path) (record {
        at = j;
        path = path;
        signal =
            note;
        number = suc (length P);
      })).closes_none i))
  closes-own (Attach q note) calm i (Some j) is = absurd (true≢false (sym is
      ∙ (only-attached (is_alive P (node_by shape s.by) q) (record {
        at = j;
        peer = q;
        signal =
            note;
        reference = record { 0 = suc (length P) };
      })).closes_none i))
  closes-own (Restart n) calm i me is = absurd (true≢false calm)
  closes-own Ended calm i me is = ending-own me is
    where
      ending-own : (e : Option Inc) → list_any (closes i) (ending e (owed P
          (node_by shape s.by))) ≡ true → e ≡ Some i
      ending-own None is = absurd (true≢false (sym is))
      ending-own (Some j) is = own-closing i j (owed P (node_by shape s.by)) is
  closes-own _ calm i _ is = absurd (true≢false (sym is))

  pub other-not_lost : is_restart s.head ≡ false → (m : ℕ) → suc k ≢ m → (e : Option Inc)
      → endpoint_of P m ≡ e
      → is_lost s.effects e ≡ false
  other-not_lost calm m other None is = refl
  other-not_lost calm m other (Some i) is =
      false_from_ne_true (list_any (closes i) s.effects)
      (λ closed.
      let mine : endpoint_by P s.by ≡ Some i =
      closes-own s.head calm i (endpoint_by P s.by) (sym (ap (list_any (closes i)) effects)
      ∙ closed) in
      let owns : endpoint_of P (suc k) ≡ Some i = subst (λ (b : By). endpoint_by P b
      ≡ Some i) by mine in
      other (endpoints-differ shape P legal short (suc k) m i owns is))

-- WHAT A FABRIC KEEPS over a step
pub kept-next : (f : Layout) (parts : Parts) (s : Step) (after : List TrunkState) (next : Parts)
    → IsKept f parts → length f.log.steps < step_limit
    → IsTrunkStep f.shape f.log.steps (trunks_of f.trunks) s (trunks_of after)
    → IsMade (length f.log.names.nodes) f.shape f.log.steps (trunks_of f.trunks) s
    → (let g : Layout = record f { log = record f.log { steps = s ∷ f.log.steps }; trunks = after }
    in AreCounted g next → AreLeft (s ∷ f.log.steps) next → IsKept g next)
kept-next f parts s after next kept short step made counted left = record {
  laid_out = kept.laid_out;
  reached = (trunks_of f.trunks, (kept.reached, (step, made)));
  counted = counted;
  left = left;
  short = short;
}
