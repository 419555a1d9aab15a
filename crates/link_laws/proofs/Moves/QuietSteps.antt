-- Steps that leave all sides: takes, waits, attaches, detaches, cuts, mends, settlings and
-- refusals; and a receive that finds none, where all links rest.
use Rattle.std.proofs.Common.{◌≡◌, ℕ, suc, Bool, true, false, List, [], length, Option, Some, None}
use Rattle.std.proofs.Common.{refl, sym, ◌∙◌, ap, subst, true≢false}
use Rattle.std.specs.List.{list_any}
use Rattle.linx_base.specs.Pending.{is_for}
use Rattle.linx_base.specs.declared.name.Path.TheVariants.{Over}
use Rattle.linx_base.specs.declared.identity.Inc.{Inc}
use Rattle.linx_base.specs.declared.identity.Peer.{Peer}
use Rattle.linx_base.specs.declared.identity.Session.{Session}
use Rattle.linx_base.specs.declared.identity.Side.{Side}
use Rattle.linx_base.specs.declared.identity.Side.TheVariants.{First, Second}
use Rattle.linx_base.specs.declared.pending.PendingAttach.{PendingAttach}
use Rattle.linx_base.specs.SigNotes.{SigNote}
use Rattle.sigsel.specs.declared.sigsel.Sigsel.{Sigsel}
use Rattle.trunk_record.specs.Records.{SideRecord, session_if}
use Rattle.trunk_record.specs.Trunks.{IsQuiet}
use Rattle.journal.specs.Effects.{attached}
use Rattle.journal.specs.History.{endpoint_by}
use Rattle.journal.specs.Laws.{attaching}
use Rattle.journal.specs.Living.{is_alive}
use Rattle.journal.specs.Pending.{hunt_in}
use Rattle.journal.specs.Sessions.{up_session}
use Rattle.journal.specs.Shapes.{Shape, node_by}
use Rattle.journal.specs.declared.by.By.{By}
use Rattle.journal.specs.declared.effect.Effect.{Effect}
use Rattle.journal.specs.declared.effect.Step.{Step}
use Rattle.journal.specs.declared.head.Head.{Head}
use Rattle.journal.specs.declared.head.Head.TheVariants.{Attach, Cut, Detach, Hunt}
use Rattle.journal.specs.declared.head.Head.TheVariants.{Mend, Refused, Restart, Send, Settle}
use Rattle.journal.specs.declared.head.Head.TheVariants.{Take, TakeNone, Waits, Wire}
use Rattle.link_laws.specs.Came.{signal_over}
use Rattle.link_laws.specs.Ends.{node_at}
use Rattle.link_laws.specs.Sides.{AreLinksKept, Links}
use Rattle.link_laws.specs.Laws.{HasEffects, IsLegalStep, KeepsNodeLaws}
use Rattle.link_laws.specs.Moves.{AllLeft, FindsNone, IsResting}
use Rattle.link_laws.specs.Moves.{cut as rests_cut, quiet as rests_quiet}
use Rattle.link_laws.specs.Promises.{PromisesOf}
use Rattle.link_laws.specs.Runs.{RestsAreStill}
use Rattle.link_laws.specs.Sessions.{restarts}
use Rattle.link_laws.specs.Still.{IsStill, cut as still_cut, whole as still_whole}
use Rattle.link_laws.proofs.Sides.WordsAfterStep.{AreItems, opened-items}
use Rattle.link_laws.proofs.Moves.Shown.{IsGood, IsKnown, TouchesNone, left_kept, step_of}
use Rattle.link_laws.proofs.Hunts.EachStep.{IsCalm, calm_here}
use Rattle.link_laws.proofs.AllLinks.OthersStay.{no_signal}
use Rattle.link_laws.proofs.Promises.Stillness.{still_half}

-- the head is that of such a step
abbrev pub is_quiet_head : Head → Bool
is_quiet_head (Take filter position) = true
is_quiet_head (TakeNone filter) = true
is_quiet_head (Waits filter) = true
is_quiet_head (Attach q note) = true
is_quiet_head (Detach r answer) = true
is_quiet_head (Cut l) = true
is_quiet_head (Mend l) = true
is_quiet_head (Settle l) = true
is_quiet_head (Refused reason) = true
is_quiet_head _ = false

quiet-stays : (head : Head) → is_quiet_head head ≡ true → (n : ℕ) → restarts n head ≡ false
quiet-stays (Restart k) is n = absurd (true≢false (sym is))
quiet-stays head is n = refl

quiet-says : (head : Head) → is_quiet_head head ≡ true → (n h : ℕ) (x : Session) (me : Option Inc)
    → signal_over n h x me head ≡ []
quiet-says (Send q note answer) is n h x me = absurd (true≢false (sym is))
quiet-says head is n h x me = no_signal n h x me head (λ j. refl)

quiet-hunts : (head : Head) → is_quiet_head head ≡ true → (n k : ℕ) (me : Option Inc)
    → hunt_in n k me head ≡ []
quiet-hunts (Hunt path note) is n k me = absurd (true≢false (sym is))
quiet-hunts head is n k me = refl

quiet-promised : (shape : Shape) (P : List Step) (head : Head) (es : List Effect)
    → is_quiet_head head ≡ true → PromisesOf shape P head es
quiet-promised shape P (Wire l from verdict) es is = absurd (true≢false (sym is))
quiet-promised shape P head es is = tt

attached-items : (t : Bool) (a : PendingAttach) → AreItems (attached t a)
attached-items true a = tt
attached-items false a = (refl, tt)

attaching-items : (P : List Step) (node : ℕ) (me : Option Inc) (q : Peer) (note : SigNote)
    → AreItems (attaching P node me q note)
attaching-items P node None q note = tt
attaching-items P node (Some j) q note = attached-items (is_alive P node q)
    (record { at = j; peer = q; signal = note; reference = record { 0 = suc (length P) } })

-- their effects are notifications, or none
quiet-items : (shape : Shape) (P : List Step) (node : ℕ) (me : Option Inc) (head : Head)
    (es : List Effect) → is_quiet_head head ≡ true → HasEffects shape P node me head es
    → AreItems es
quiet-items shape P node me (Attach q note) es is has = subst AreItems (sym has)
    (attaching-items P node me q note)
quiet-items shape P node me (Take filter position) es is has = subst AreItems (sym has) tt
quiet-items shape P node me (TakeNone filter) es is has = subst AreItems (sym has) tt
quiet-items shape P node me (Waits filter) es is has = subst AreItems (sym has) tt
quiet-items shape P node me (Detach r answer) es is has = subst AreItems (sym has) tt
quiet-items shape P node me (Cut l) es is has = subst AreItems (sym has) tt
quiet-items shape P node me (Mend l) es is has = subst AreItems (sym has) tt
quiet-items shape P node me (Settle l) es is has = subst AreItems (sym has) tt
quiet-items shape P node me (Refused reason) es is has = subst AreItems (sym has) tt
quiet-items shape P node me head es is has = absurd (true≢false (sym is))

module _ (shape : Shape) (P : List Step) (before after : Links) (known : IsKnown shape P before)
    (by : By) (head : Head) (es : List Effect) (is : is_quiet_head head ≡ true)
    (legal : IsLegalStep shape P (step_of by head es)) (left : AllLeft shape before after) where
  abbrev s : Step
  s = step_of by head es

  items : AreItems es
  items = quiet-items shape P (node_by shape by) (endpoint_by P by) head es is
      legal.nodes.effects

  untouched : TouchesNone P s
  untouched = record {
    es = [];
    items = es;
    done = record { effects = refl; items_only = items };
    touches_none = λ n l. refl;
    opens_none = refl;
    closes_none = λ i. refl;
    stays = quiet-stays head is;
    says_none = λ n h x. quiet-says head is n h x (endpoint_by P by);
  }

  calm : IsCalm P s
  calm = record {
    begins_none = λ n l w. ap (list_any (is_for (Over l w)))
        (quiet-hunts head is n (suc (length P)) (endpoint_by P by));
    opens_none = opened-items es items;
  }

  pub quiet_good : IsGood shape P s after
  quiet_good = record {
    legal = legal;
    kept = left_kept shape P s before after untouched (λ n m l. calm_here P s calm n m l) left
        known.kept;
    promised = quiet-promised shape P head es is;
  }

-- A QUIET TRUNK is quiet seen from its other side
pub quiet_back : (A B : SideRecord) → IsQuiet A B → IsQuiet B A
quiet_back A B quiet = record {
  pair = quiet.back;
  back = quiet.pair;
  said = quiet.answered;
  answered = quiet.said;
}

-- LINKS THAT REST are still
pub resting_still : (shape : Shape) (P : List Step) (links : Links) → AreLinksKept shape P links
    → RestsAreStill shape P links
resting_still shape P links kept l of_shape resting = by_rest resting
  where
    down : (side : Side) → (links l.0 side).side.now.peer ≡ None
        → up_session P (node_at shape l side) l.0 ≡ None
    down side none = (kept.linked l of_shape side).up
        ∙ ap (λ p. session_if p (links l.0 side).side.now.session) none

    by_rest : IsResting P l (links l.0 First) (links l.0 Second) → IsStill shape P l
    by_rest (rests_cut is first second) = still_cut is (down First first) (down Second second)
    by_rest (rests_quiet uncut quiet) =
        let A : SideRecord = (links l.0 First).side in
        let B : SideRecord = (links l.0 Second).side in
        still_whole uncut A.now.session B.now.session (record {
          there = still_half P (node_at shape l First) (node_at shape l Second) l A B
              (links l.0 Second).noted (kept.linked l of_shape First)
              (kept.linked l of_shape Second)
              (kept.trunks l of_shape First).frees_closed.0 quiet (kept.hunted l of_shape First);
          back = still_half P (node_at shape l Second) (node_at shape l First) l B A
              (links l.0 First).noted (kept.linked l of_shape Second)
              (kept.linked l of_shape First)
              (kept.trunks l of_shape Second).frees_closed.0 (quiet_back A B quiet)
              (kept.hunted l of_shape Second);
        })

-- A RECEIVE FINDS NONE where they do
pub finding_good : (shape : Shape) (P : List Step) (before after : Links)
    → IsKnown shape P before → (by : By) (filter : Sigsel) (es : List Effect)
    → KeepsNodeLaws shape P (step_of by (TakeNone filter) es) → FindsNone shape P before after
    → IsGood shape P (step_of by (TakeNone filter) es) after
finding_good shape P before after known by filter es laws finds =
    quiet_good shape P before after known by (TakeNone filter) es refl (record {
      nodes = laws;
      rest = λ l of_shape. resting_still shape P before known.kept l of_shape
          (finds.resting l of_shape);
      packets = tt;
      cuts = tt;
      ticks = tt;
    }) finds.left
