-- What a step on a link leaves of the parts of a fabric, whoever makes it.
use Rattle.std.proofs.Common.{◌≡◌, ◌≢◌, ℕ, zero, suc, ◌+◌, ◌<◌, false, List, [], ◌∷◌, length}
use Rattle.std.proofs.Common.{Option, Some, None, inl, inr, refl, sym, ◌∙◌, ap, subst, arith, ◌-◌}
use Rattle.std.proofs.Common.{slice_get, slice_set}
use Rattle.std.proofs.lemmas.Bool.{cases_eq}
use Rattle.linx_base.specs.Peers.{same_peer}
use Rattle.linx_base.specs.declared.frame.LinkDecl.{LinkDecl}
use Rattle.linx_base.specs.declared.frame.Verdict.{Verdict}
use Rattle.linx_base.specs.declared.identity.LinkNo.{LinkNo}
use Rattle.linx_base.specs.declared.identity.NodeNo.{NodeNo}
use Rattle.linx_base.specs.declared.identity.Peer.TheVariants.{There}
use Rattle.linx_base.specs.declared.identity.Side.{Side}
use Rattle.linx_base.specs.declared.identity.Side.TheVariants.{First, Second}
use Rattle.linx_base.specs.declared.signal.Reason.TheVariants as reasons
use Rattle.linx_base.specs.declared.name.Path.TheVariants.{Over}
use Rattle.sigsel.specs.declared.sigsel.Sigsel.{Sigsel}
use Rattle.journal.specs.declared.by.By.{By}
use Rattle.journal.specs.declared.by.By.TheVariants.{Actor, Pump}
use Rattle.journal.specs.declared.effect.Effect.{Effect}
use Rattle.journal.specs.declared.effect.Step.{Step}
use Rattle.journal.specs.declared.head.Head.{Head}
use Rattle.journal.specs.declared.head.Head.TheVariants as heads
use Rattle.journal.specs.Effects.{notices, founds}
use Rattle.journal.specs.History.{endpoint_of, is_by, is_end}
use Rattle.journal.specs.Laws.{IsMaker}
use Rattle.linx_base.specs.Pending.{is_of_session}
use Rattle.journal.specs.Logs.{Log, step_limit}
use Rattle.journal.specs.Pending.{hunting, owed}
use Rattle.journal.specs.Rest.{waits_in}
use Rattle.journal.specs.Shapes.{Shape}
use Rattle.journal.proofs.Openings.{IsShort}
use Rattle.link_laws.specs.Brought.{Brought, arrives, brought_at, goes_down, goes_up, meets}
use Rattle.link_laws.specs.Brought.{nothing, parts as parts_from}
use Rattle.link_laws.specs.Ends.{IsLinkOf, end_of, node_at}
use Rattle.link_laws.specs.Laws.{IsLegal}
use Rattle.link_laws.specs.Sessions.{boots}
use Rattle.node_kernel.specs.declared.answers.StepAnswer.TheVariants as answers
use Rattle.node_kernel.specs.Answers.{answer_of}
use Rattle.node_kernel.specs.Nodes.{NodeState}
use Rattle.run_trunks.specs.Laws.{AreTrunksOf}
use Rattle.run_trunks.specs.States.{TrunksState, resting, trunks_of}
use Rattle.trunk.specs.Events.{TrunkState}
use Rattle.trunk_moves.specs.Steps.{IsTrunkStep}
use Rattle.fabric.specs.declared.line.Line.{Line}
use Rattle.fabric.specs.declared.line.Mark.{Mark}
use Rattle.fabric.specs.declared.line.Mark.TheVariants.{Cut, Mend, Settle}
use Rattle.fabric.specs.declared.standing.Standing.{Standing}
use Rattle.fabric.specs.Links.{line_left}
use Rattle.fabric.specs.Remains.{AreBootsLeft, AreNodesLeft, AreStandingsLeft, IsKept, IsLaidOut}
use Rattle.fabric.specs.Remains.{IsLink, IsNode, Parts, node_left, standing_left}
use Rattle.fabric.specs.Run.{IsStepOf, Layout}
use Rattle.fabric.specs.Standings.{IsStanding, waiting_no_more, waiting_none}
use Rattle.fabric.specs.Lines.{head_of_mark}
use Rattle.fabric.proofs.AfterStep.LinkSteps.{leaves_down, leaves_gone, leaves_met, only-up}
use Rattle.fabric.proofs.AfterStep.Effects.{LeavesOpen, leaves-none, leaves_open, only-arrived}
use Rattle.fabric.proofs.AfterStep.Effects.{only-founds, only-none, only-notices}
use Rattle.fabric.proofs.AfterStep.OtherNodes.{changed_node, node_left-elsewhere, step-about}
use Rattle.fabric.proofs.Methods.Keeps.{kept-next, length-set, same-left, set-left, standings-next}
use Rattle.fabric.proofs.Methods.Keeps.{standings-same}
use Rattle.fabric.proofs.Methods.Legal.{IsLawful, boots-none, is_restart}
use Rattle.fabric.proofs.Trunks.Lines.{IsApart, line-apart}
use Rattle.fabric.proofs.Standings.MakerAfterStep.{loses-none, own-quiet}
use Rattle.fabric.proofs.Methods.Runs.{declared-at, legal-kept, legal-next}
use Rattle.fabric.proofs.Methods.FieldsOfFabric.{seen, parts_of, refilled}
use Rattle.fabric.specs.declared.fabric.Fabric.TheInside.{Inside}

-- THE EFFECTS of what is brought open and close none
pub brought-leaves : (P : List Step) (n : ℕ) (l : LinkNo) (what : Brought)
    → LeavesOpen (brought_at P n l what)
brought-leaves P n l nothing = leaves-none
brought-leaves P n l (goes_up x y) = leaves_open (only-up (record { 0 = n }) l x y)
brought-leaves P n l (goes_down x) =
    leaves_down (record { 0 = n }) l x (notices reasons.Lost (is_of_session l x) (owed P n))
    (only-notices reasons.Lost _)
brought-leaves P n l (arrives x a b note) =
    leaves_open (only-arrived [] only-none b (There l x a) note)
brought-leaves P n l (meets x a name) =
    leaves_met (record { 0 = n }) (There l x a) name
    (founds (Over l name) (There l x a) (hunting P n)) (only-founds (There l x a) _)
brought-leaves P n l (parts_from x a) =
    leaves_gone (record { 0 = n }) (There l x a)
    (notices reasons.Closed (same_peer (There l x a)) (owed P n)) (only-notices reasons.Closed _)

-- THE NODE AT A SIDE of a link is one of the layout
module _ (nodes : ℕ) (shape : Shape) (laid : IsLaidOut nodes shape) where
  pub end-is : (l : LinkNo) → IsLinkOf shape l → (side : Side)
      → IsNode nodes (record { 0 = node_at shape l side })
  end-is l of_shape side =
      let at = declared-at nodes shape laid l.0 of_shape.0 of_shape.1 in
      rw (at.1.0) (ends at.0 at.1.1 side)
    where
      ends : (link : LinkDecl) → IsLink nodes link → (s : Side)
          → IsNode nodes (record { 0 = end_of link s })
      ends link is First = is.first
      ends link is Second = is.second

-- THE STANDINGS once the maker of a step waits no more
pub length-waiting : (by : By) (standings : List Standing)
    → length (waiting_no_more by standings) ≡ length standings
length-waiting (Pump link) standings = refl
length-waiting (Actor k) standings = go (slice_get standings (k - 1))
  where
    go : (o : Option Standing)
        → length (waiting_none o standings (k - 1)) ≡ length standings
    go None = refl
    go (Some s) = length-set standings (k - 1) (record s { waits = None })

-- after a step that opens and closes none, that doesn't wait and doesn't end its maker
module _ (P : List Step) (s : Step) (leaves : LeavesOpen s.effects) (quiet : waits_in s.head ≡ None)
    (goes_on : is_end s.head ≡ false) (standings : List Standing)
    (left : AreStandingsLeft P standings) where
  own-waiting : (k : ℕ) → s.by ≡ Actor (suc k) → k < length standings
      → AreStandingsLeft (s ∷ P) (waiting_no_more (Actor (suc k)) standings)
  own-waiting k by within =
      let back : k ≡ suc k - 1 = omega arith in
      subst (λ (j : ℕ). AreStandingsLeft (s ∷ P)
      (waiting_none (slice_get standings j) standings j)) back
      (subst (λ (o : Option Standing). AreStandingsLeft (s ∷ P) (waiting_none o standings k))
      (sym (left k within))
      (standings-next P s k by
      (λ m other. loses-none s.effects leaves (endpoint_of P m)) standings left within
      (record (standing_left P (suc k)) { waits = None })
      (ap (λ (w : Option Sigsel). let t : Standing = record (standing_left P (suc k))
      { waits = w } in t) (sym quiet)
      ∙ sym (own-quiet s.effects leaves (suc (length P)) s.head (standing_left P (suc k))
      goes_on))))

  pub standings-waiting : (by : By) → s.by ≡ by → IsStanding (length standings) by
      → AreStandingsLeft (s ∷ P) (waiting_no_more by standings)
  standings-waiting (Pump link) is maker =
      standings-same P s (λ m. ap (λ (b : By). is_by b m) is)
      (λ m. loses-none s.effects leaves (endpoint_of P m)) standings left
  standings-waiting (Actor zero) is maker = absurd (omega (arith, maker.0))
  standings-waiting (Actor (suc k)) is maker = own-waiting k is (omega (arith, maker.1))

-- A HEAD ON A LINK: it restarts no node, its maker doesn't wait or end, it is answered so, and it
-- leaves the lines of other links
pub record IsOnLink (l : LinkNo) (head : Head) : Type 0 where
  pub calm : is_restart head ≡ false
  pub quiet : waits_in head ≡ None
  pub goes_on : is_end head ≡ false
  pub done : (P : List Step) (es : List Effect) → answer_of P head es ≡ answers.Done
  pub others : (n : ℕ) → l.0 ≢ n → IsApart n head

on-link : (l : LinkNo) (head : Head) → is_restart head ≡ false → waits_in head ≡ None
    → is_end head ≡ false
    → ((P : List Step) (es : List Effect) → answer_of P head es ≡ answers.Done)
    → ((n : ℕ) → l.0 ≢ n → IsApart n head) → IsOnLink l head
on-link l head calm quiet goes_on done others =
    record { calm = calm; quiet = quiet; goes_on = goes_on; done = done; others = others }

pub wire-on : (l : LinkNo) (from : Side) (verdict : Verdict)
    → IsOnLink l (heads.Wire l from verdict)
wire-on l from verdict =
    on-link l (heads.Wire l from verdict) refl refl refl (λ P es. refl) (λ n other. other)

pub tick-on : (l : LinkNo) (side : Side) → IsOnLink l (heads.Tick l side)
tick-on l side = on-link l (heads.Tick l side) refl refl refl (λ P es. refl) (λ n other. other)

pub mark-on : (l : LinkNo) (mark : Mark) → IsOnLink l (head_of_mark mark l)
mark-on l Cut = on-link l (heads.Cut l) refl refl refl (λ P es. refl) (λ n other. other)
mark-on l Mend = on-link l (heads.Mend l) refl refl refl (λ P es. refl) (λ n other. other)
mark-on l Settle = on-link l (heads.Settle l) refl refl refl (λ P es. refl) (λ n other. other)

-- THE FABRIC after a step
abbrev pub laid : Layout → Log → List TrunkState → Layout
laid f new after = record { shape = f.shape; log = new; trunks = after }

-- its parts, after one on a link
abbrev pub with_line : Parts → By → LinkNo → List NodeState → Line → Parts
with_line parts by l kernels line =
    record parts {
      kernels = kernels;
      standings = waiting_no_more by parts.standings;
      lines = slice_set parts.lines (l.0 - 1) line;
    }

-- A STEP ON A LINK AS ITS METHOD SEES IT: by its trunks, which are at rest
pub record IsMadeThere (f old : Layout) (new : Log) (after : TrunksState) (next : Parts) (by : By)
    (head : Head) : Type 0 where
  pub keeps : IsKept (seen f.shape new after) next × (after.was ≡ after.is)
  pub steps : IsStepOf old (seen f.shape new after) by head answers.Done

-- with these kernels, this line, and the standings that are there now
abbrev pub parts_there : Inside → List NodeState → LinkNo → Line → List Standing → Parts
parts_there s kernels l line now =
    record (parts_of s) {
      kernels = kernels;
      standings = refilled s.standings.len s.standings.items now;
      lines = slice_set s.lines.items (l.0 - 1) line;
    }

pub made-there : {f old : Layout} → f ≡ old → (new : Log) (after : TrunksState)
    (ts : List TrunkState) → after ≡ resting f.shape.links ts
    → (next : Parts) (by : By) (head : Head)
    → IsKept (laid f new after.is) next × IsStepOf f (laid f new after.is) by head answers.Done
    → (ss : List Standing) → ss ≡ next.standings
    → IsMadeThere f old new after (record next { standings = ss }) by head
made-there {f = f} {old = old} view_is new after ts rests next by head made ss ss_are =
    let same : laid f new after.is ≡ seen f.shape new after =
    ap (λ (ls : List LinkDecl). let g : Layout = record {
      shape = record { links = ls; actors = f.shape.actors };
      log = new;
      trunks = after.is;
    } in g) (sym (ap (λ (s : TrunksState). s.links) rests)) in
    record {
      keeps = (
        subst (λ (g : Layout). IsKept g (record next { standings = ss })) same
            (subst (λ (xs : List Standing). IsKept (laid f new after.is)
            (record next { standings = xs })) (sym ss_are) made.0),
        ap (λ (s : TrunksState). s.was) rests ∙ sym (ap (λ (s : TrunksState). s.is) rests),
      );
      steps = subst (λ (g : Layout). IsStepOf old g by head answers.Done) same
          (subst (λ (g : Layout). IsStepOf g (laid f new after.is) by head answers.Done) view_is
          made.1);
    }

-- A STEP OF A KEPT FABRIC
module _ {f : Layout} {parts : Parts} (kept : IsKept f parts)
    (room : length f.log.steps < step_limit) where
  open f use {shape, log.{steps as P}}

  legal_log : IsLegal shape P
  legal_log = legal-kept f parts kept

  fits : IsShort P
  fits = omega arith

  -- its maker stands among the actors
  pub maker-stands : (by : By) → IsMaker shape P by → IsStanding (length parts.standings) by
  maker-stands (Actor k) maker = (maker.0, omega (arith, maker.1, kept.counted.standings))
  maker-stands (Pump link) maker = tt

  module _ (s : Step) (after : List TrunkState)
      (step : IsTrunkStep shape P (trunks_of f.trunks) s (trunks_of after)) where
    elsewhere : (n : ℕ) → changed_node shape s.by s.head ≢ suc n
        → node_left (s ∷ P) (record { 0 = suc n }) ≡ node_left P (record { 0 = suc n })
    elsewhere n other =
        node_left-elsewhere shape P legal_log fits s
        (step-about shape P legal_log fits s
        (legal-next f parts kept s (trunks_of after) room step))
        (record { 0 = suc n }) other

    -- THE KERNELS, where the one of the node that it changes is set
    pub kernels-set : (home : ℕ) → changed_node shape s.by s.head ≡ suc home
        → home < length parts.kernels → (next : NodeState)
        → next ≡ node_left (s ∷ P) (record { 0 = suc home })
        → AreNodesLeft (s ∷ P) (slice_set parts.kernels home next)
    kernels-set home changed there next is =
        set-left (λ n. node_left P (record { 0 = n })) (λ n. node_left (s ∷ P) (record { 0 = n }))
        parts.kernels kept.left.kernels home
        (λ n other. elsewhere n (λ same. let e : suc home ≡ suc n = sym changed ∙ same in
        other (omega arith)))
        next there is

    -- where none changes
    pub kernels-same : (node : NodeNo) → changed_node shape s.by s.head ≡ node.0
        → node_left (s ∷ P) node ≡ node_left P node → AreNodesLeft (s ∷ P) parts.kernels
    kernels-same node changed same =
        same-left (λ n. node_left P (record { 0 = n })) (λ n. node_left (s ∷ P) (record { 0 = n }))
        parts.kernels kept.left.kernels
        (λ n. elim (cases_eq node.0 (suc n)) [
          | inl e ↦ subst (λ (m : ℕ). node_left (s ∷ P) (record { 0 = m })
              ≡ node_left P (record { 0 = m })) e same
          | inr other ↦ elsewhere n (λ e. other (sym changed ∙ e))
        ])

    -- THE LINES, where the one of a link is set
    pub lines-set : (l : LinkNo) → IsLinkOf shape l
        → ((n : ℕ) → l.0 ≢ n → line_left (s ∷ P) n ≡ line_left P n)
        → (line : Line) → line ≡ line_left (s ∷ P) l.0
        → (n : ℕ) → n < length (slice_set parts.lines (l.0 - 1) line)
        → slice_get (slice_set parts.lines (l.0 - 1) line) n ≡ Some (line_left (s ∷ P) (suc n))
    lines-set l of_shape others line is =
        let above : 0 < l.0 = of_shape.0 in
        let back : l.0 ≡ suc (l.0 - 1) = omega arith in
        set-left (line_left P) (line_left (s ∷ P)) parts.lines kept.left.lines (l.0 - 1)
        (λ n other. others (suc n) (λ same. other (omega (arith, same)))) line
        (omega (arith, of_shape.0, of_shape.1, kept.counted.lines))
        (is ∙ ap (line_left (s ∷ P)) back)

    -- THE BOOTS, where it restarts no node
    pub boots-same : is_restart s.head ≡ false → AreBootsLeft (s ∷ P) parts.booted
    boots-same calm =
        same-left (λ n. 1 + boots P n) (λ n. 1 + boots (s ∷ P) n) parts.booted kept.left.booted
        (λ n. ap (λ (x : ℕ). 1 + x) (boots-none P s.by s.effects (suc n) s.head calm))

    -- WHAT IS KEPT after a step on a link that opens and closes none, and after which its maker
    -- waits no more
    pub made-on_link : IsLawful (length f.log.names.nodes) shape P (trunks_of f.trunks) s
        → IsMaker shape P s.by
        → AreTrunksOf shape after → (l : LinkNo) → IsLinkOf shape l → IsOnLink l s.head
        → LeavesOpen s.effects → (line : Line) → line ≡ line_left (s ∷ P) l.0
        → (kernels : List NodeState) → length kernels ≡ length parts.kernels
        → AreNodesLeft (s ∷ P) kernels
        → (new : Log) → new ≡ record f.log { steps = s ∷ P }
        → (is : List TrunkState) → is ≡ after
        → IsKept (laid f new is) (with_line parts s.by l kernels line)
        × IsStepOf f (laid f new is) s.by s.head answers.Done
    made-on_link lawful maker count l of_shape on leaves line line_is kernels counted nodes new
        new_eq is is_eq = (
          subst (λ (x : Log). IsKept (laid f x is) (with_line parts s.by l kernels line))
              (sym new_eq)
              (subst (λ (x : List TrunkState). IsKept (laid f (record f.log { steps = s ∷ P }) x)
              (with_line parts s.by l kernels line)) (sym is_eq)
              (kept-next f parts s after _ kept room step lawful.made
              (record {
                kernels = counted ∙ kept.counted.kernels;
                booted = kept.counted.booted;
                standings = length-waiting s.by parts.standings ∙ kept.counted.standings;
                lines = length-set parts.lines (l.0 - 1) line ∙ kept.counted.lines;
                trunks = count;
              })
              (record {
                kernels = nodes;
                booted = boots-same on.calm;
                standings = standings-waiting P s leaves on.quiet on.goes_on parts.standings
                    kept.left.standings s.by refl (maker-stands s.by maker);
                lines = lines-set l of_shape (λ n other. line-apart P s.by s.effects n s.head
                    (on.others n other)) line line_is;
              }))),
          record {
            effects = s.effects;
            steps = ap (λ (x : Log). x.steps) new_eq;
            makes = subst (λ (x : List TrunkState). IsTrunkStep shape P (trunks_of f.trunks) s
                (trunks_of x)) (sym is_eq) step;
            answered = sym (on.done P s.effects);
          },
        )
