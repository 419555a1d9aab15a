-- The effects of the image of a head are the image of its effects.
use Rattle.std.proofs.Common.{◌≡◌, ℕ, suc, ◌-◌, Bool, true, false, not, List, [], ◌∷◌, ◌++◌, map}
use Rattle.std.proofs.Common.{length, Option, Some, None, refl, sym, ap, ◌∙◌, arith, filter}
use Rattle.std.proofs.Common.{length-append}
use Rattle.std.proofs.Math.Seq.{drop-append_seam, take-append_seam}
use Rattle.linx_base.specs.Content.{reason_byte, with_reason}
use Rattle.linx_base.specs.Peers.{same_inc, same_peer}
use Rattle.linx_base.specs.Pending.{is_for, is_of_session}
use Rattle.linx_base.specs.declared.identity.Inc.{Inc}
use Rattle.linx_base.specs.declared.identity.LinkNo.{LinkNo}
use Rattle.linx_base.specs.declared.identity.NodeNo.{NodeNo}
use Rattle.linx_base.specs.declared.identity.Peer.{Peer}
use Rattle.linx_base.specs.declared.identity.Peer.TheVariants.{Here, There}
use Rattle.linx_base.specs.declared.identity.Session.{Session}
use Rattle.linx_base.specs.declared.name.Path.{Path}
use Rattle.linx_base.specs.declared.name.Path.TheVariants.{Local, Over}
use Rattle.linx_base.specs.declared.pending.PendingAttach.{PendingAttach}
use Rattle.linx_base.specs.declared.pending.PendingHunt.{PendingHunt}
use Rattle.linx_base.specs.declared.signal.Reason.{Reason}
use Rattle.linx_base.specs.declared.signal.Reason.TheVariants as reasons
use Rattle.linx_base.specs.SigNotes.{SigNote}
use Rattle.journal.specs.Effects.{arrivals_of, attached, closings, ending, found, founds}
use Rattle.journal.specs.Effects.{held_elsewhere, hunted, hunts_for, losing, meeting, notice}
use Rattle.journal.specs.Effects.{notices, opening, parting}
use Rattle.journal.specs.History.{next_inc, open_endpoints, opened_on}
use Rattle.journal.specs.Laws.{attaching, effects_by, hunting_by, sending}
use Rattle.journal.specs.Living.{find, is_alive}
use Rattle.journal.specs.Pending.{hunting, owed}
use Rattle.journal.specs.declared.head.Head.{Head}
use Rattle.journal.specs.declared.head.Head.TheVariants.{Open, Close, Send, Hunt, Attach, Restart}
use Rattle.journal.specs.declared.head.Head.TheVariants.{Ended}
use Rattle.journal.specs.declared.effect.Effect.{Effect}
use Rattle.journal.specs.declared.effect.Effect.TheVariants.{Closed, Down, Gone, Met, Opened}
use Rattle.journal.specs.declared.effect.Step.{Step}
use Rattle.image_laws.specs.Images.{attach_by, effect_by, head_by, hunt_by, journal_by, note_by}
use Rattle.image_laws.specs.Images.{told_data}
use Rattle.image_laws.proofs.Endpoints.{open_endpoints-by, opened_on-by, steps-by}
use Rattle.image_laws.proofs.Lists.{filter-by}
use Rattle.image_laws.proofs.Peers.{find-by, is_alive-by}
use Rattle.image_laws.proofs.Pendings.{hunting-by, owed-by}

-- two ways round a square
pub map-square : {X Y Z W : Type 0} (h : X → Y) (g : Y → W) (k : X → Z) (l : Z → W)
    → ((x : X) → g (h x) ≡ l (k x)) → (xs : List X) → map g (map h xs) ≡ map l (map k xs)
map-square h g k l same [] = refl
map-square h g k l same (x ∷ xs) = rw (same x, map-square h g k l same xs) refl

-- what is told of data with a byte behind them is the image of the data, with the byte behind
pub told-behind : (f : List ℕ → List ℕ) (bytes : List ℕ) (b : ℕ)
    → told_data f (bytes ++ b ∷ []) ≡ f bytes ++ b ∷ []
told-behind f bytes b =
    let before : length (bytes ++ b ∷ []) - 1 ≡ length bytes =
    omega (arith, length-append bytes (b ∷ [])) in
    rw (before, take-append_seam bytes (b ∷ []), drop-append_seam bytes (b ∷ [])) refl

module _ (f : List ℕ → List ℕ) where
  pub reason-by : (reason : Reason) (note : SigNote)
      → with_reason reason (note_by f note) ≡ note_by (told_data f) (with_reason reason note)
  reason-by reason note =
      ap (λ (bytes : List ℕ). let n : SigNote = record note { bytes = bytes } in n)
      (sym (told-behind f note.bytes (reason_byte reason)))

  founds-by : (path : Path) (q : Peer) (hunts : List PendingHunt)
      → founds path q (map (hunt_by f) hunts) ≡ map (effect_by f) (founds path q hunts)
  founds-by path q hunts =
      ap (map (found q)) (filter-by (hunt_by f) (is_for path) (is_for path) (λ h. refl) hunts)
      ∙ map-square (hunt_by f) (found q) (found q) (effect_by f) (λ h. refl) (hunts_for path hunts)

  notice-by : (reason : Reason) (a : PendingAttach)
      → notice reason (attach_by f a) ≡ effect_by f (notice reason a)
  notice-by reason a = rw (reason-by reason a.signal) refl

  notices-by : (reason : Reason) (ended : Peer → Bool) (attaches : List PendingAttach)
      → notices reason ended (map (attach_by f) attaches)
      ≡ map (effect_by f) (notices reason ended attaches)
  notices-by reason ended attaches =
      ap (map (notice reason))
      (filter-by (attach_by f) (λ a. ended a.peer) (λ a. ended a.peer) (λ a. refl) attaches)
      ∙ map-square (attach_by f) (notice reason) (notice reason) (effect_by f) (notice-by reason)
      (filter (λ a. ended a.peer) attaches)

  ending-by : (me : Option Inc) (attaches : List PendingAttach)
      → ending me (map (attach_by f) attaches) ≡ map (effect_by f) (ending me attaches)
  ending-by None attaches = refl
  ending-by (Some j) attaches =
      ap (λ (es : List Effect). Closed j ∷ es)
      (ap (notices reasons.Closed (same_peer (Here j)))
      (filter-by (attach_by f) (λ a. not (same_inc j a.at)) (λ a. not (same_inc j a.at))
      (λ a. refl) attaches)
      ∙ notices-by reasons.Closed (same_peer (Here j)) (held_elsewhere j attaches))

  pub closings-by : (incs : List Inc) → closings incs ≡ map (effect_by f) (closings incs)
  closings-by [] = refl
  closings-by (i ∷ incs) = ap (λ (es : List Effect). Closed i ∷ es) (closings-by incs)

  pub meeting-by : (node : NodeNo) (link : LinkNo) (q : Peer) (name : List ℕ)
      (hunts : List PendingHunt)
      → meeting node link q name (map (hunt_by f) hunts)
      ≡ map (effect_by f) (meeting node link q name hunts)
  meeting-by node link q name hunts =
      ap (λ (es : List Effect). Met node q name ∷ es) (founds-by (Over link name) q hunts)

  pub parting-by : (node : NodeNo) (q : Peer) (attaches : List PendingAttach)
      → parting node q (map (attach_by f) attaches) ≡ map (effect_by f) (parting node q attaches)
  parting-by node q attaches =
      ap (λ (es : List Effect). Gone node q ∷ es) (notices-by reasons.Closed (same_peer q) attaches)

  pub losing-by : (node : NodeNo) (link : LinkNo) (x : Session) (attaches : List PendingAttach)
      → losing node link x (map (attach_by f) attaches)
      ≡ map (effect_by f) (losing node link x attaches)
  losing-by node link x attaches =
      ap (λ (es : List Effect). Down node link x ∷ es)
      (notices-by reasons.Lost (is_of_session link x) attaches)

  -- what one signal brings
  arrivals-by : (j : Inc) (note : SigNote) (alive : Bool) (q : Peer)
      → arrivals_of j (note_by f note) alive q ≡ map (effect_by f) (arrivals_of j note alive q)
  arrivals-by j note false q = refl
  arrivals-by j note true (Here i) = refl
  arrivals-by j note true (There l x i) = refl

  sending-by : (P : List Step) (node : ℕ) (me : Option Inc) (q : Peer) (note : SigNote)
      → sending (journal_by f P) node me q (note_by f note)
      ≡ map (effect_by f) (sending P node me q note)
  sending-by P node None q note = refl
  sending-by P node (Some j) q note =
      rw (is_alive-by f P node q) (arrivals-by j note (is_alive P node q) q)

  hunted-by : (q : Option Peer) (h : PendingHunt)
      → hunted q (hunt_by f h) ≡ map (effect_by f) (hunted q h)
  hunted-by None h = refl
  hunted-by (Some q) h = refl

  hunts-by : (P : List Step) (node : ℕ) (me : Option Inc) (path : Path) (note : SigNote)
      → hunting_by (journal_by f P) node me path (note_by f note)
      ≡ map (effect_by f) (hunting_by P node me path note)
  hunts-by P node None path note = refl
  hunts-by P node (Some j) path note =
      rw (find-by f P node path, steps-by f P)
      (hunted-by (find P node path)
      (record { at = j; path = path; signal = note; number = suc (length P) }))

  attached-by : (alive : Bool) (a : PendingAttach)
      → attached alive (attach_by f a) ≡ map (effect_by f) (attached alive a)
  attached-by true a = refl
  attached-by false a = ap (λ (e : Effect). e ∷ []) (notice-by reasons.Dead a)

  attaches-by : (P : List Step) (node : ℕ) (me : Option Inc) (q : Peer) (note : SigNote)
      → attaching (journal_by f P) node me q (note_by f note)
      ≡ map (effect_by f) (attaching P node me q note)
  attaches-by P node None q note = refl
  attaches-by P node (Some j) q note =
      rw (is_alive-by f P node q, steps-by f P)
      (attached-by (is_alive P node q)
      (record { at = j; peer = q; signal = note; reference = record { 0 = suc (length P) } }))

  opens-by : (P : List Step) (node : ℕ) (name : List ℕ)
      → opening (next_inc node (opened_on (journal_by f P) node)) name (hunting (journal_by f P) node)
      ≡ map (effect_by f) (opening (next_inc node (opened_on P node)) name (hunting P node))
  opens-by P node name =
      rw (opened_on-by f P node, hunting-by f P node)
      (ap (λ (es : List Effect). Opened opened ∷ es)
      (founds-by (Local name) (Here opened) (hunting P node)))
    where
      opened : Inc
      opened = next_inc node (opened_on P node)

  pub effects_by-by : (P : List Step) (node : ℕ) (me : Option Inc) (head : Head)
      → effects_by (journal_by f P) node me (head_by f head)
      ≡ map (effect_by f) (effects_by P node me head)
  effects_by-by P node me (Open name) = opens-by P node name
  effects_by-by P node me Close = ap (ending me) (owed-by f P node) ∙ ending-by me (owed P node)
  effects_by-by P node me (Send q note answer) = sending-by P node me q note
  effects_by-by P node me (Hunt path note) = hunts-by P node me path note
  effects_by-by P node me (Attach q note) = attaches-by P node me q note
  effects_by-by P node me (Restart n) =
      ap closings (open_endpoints-by f P n.0) ∙ closings-by (open_endpoints P n.0)
  effects_by-by P node me Ended = ap (ending me) (owed-by f P node) ∙ ending-by me (owed P node)
  effects_by-by P node me _ = refl
