-- A step of an actor that the machine makes keeps the laws of nodes, and is the one that it makes
-- of what the step names.
use Rattle.std.proofs.Common.{◌≡◌, ◌≢◌, ℕ, zero, suc, ◌<◌, ◌≤◌, Bool, true, false, cond, ◌&&◌, ◌||◌}
use Rattle.std.proofs.Common.{List, ◌∷◌, length, Option, Some, None, is_none, inl, inr, refl, sym}
use Rattle.std.proofs.Common.{◌∙◌, ap, subst, arith, ◌==◌, is_some, eqb-true, true≢false}
use Rattle.std.proofs.lemmas.Bool.{and_parts, or_cases}
use Rattle.linx_base.specs.Content.{data_limit}
use Rattle.linx_base.specs.NameText.{is_name}
use Rattle.linx_base.specs.declared.frame.Verdict.{Verdict}
use Rattle.linx_base.specs.declared.identity.Inc.{Inc}
use Rattle.linx_base.specs.declared.identity.LinkNo.{LinkNo}
use Rattle.linx_base.specs.declared.identity.Side.{Side}
use Rattle.linx_base.specs.declared.item.Item.{Item}
use Rattle.linx_base.specs.SigNotes.{SigNote}
use Rattle.sigsel.specs.Selection.{first_selected}
use Rattle.sigsel.specs.declared.sigsel.Sigsel.{Sigsel}
use Rattle.journal.specs.declared.by.By.{By}
use Rattle.journal.specs.declared.by.By.TheVariants.{Actor, Pump}
use Rattle.journal.specs.declared.effect.Effect.{Effect}
use Rattle.journal.specs.declared.effect.Step.{Step}
use Rattle.journal.specs.declared.event.Event.{Event}
use Rattle.journal.specs.declared.event.Event.TheVariants as asks
use Rattle.journal.specs.declared.head.Head.{Head}
use Rattle.journal.specs.declared.head.Head.TheVariants as heads
use Rattle.journal.specs.declared.head.Refusal.{Refusal}
use Rattle.journal.specs.History.{closed_step, endpoint_by, endpoint_of}
use Rattle.journal.specs.Laws.{IsBounded, IsMaker, KeepsReceives, KeepsSends, detached_as}
use Rattle.journal.specs.Laws.{effects_by, is_endpoints, is_opening, may_make, name_of_path}
use Rattle.journal.specs.Living.{is_alive}
use Rattle.journal.specs.Logs.{is_full}
use Rattle.journal.specs.Rest.{leaves_at_rest, queue_of, waits_with}
use Rattle.journal.specs.Shapes.{Shape, node_by}
use Rattle.node_kernel.specs.declared.ask.Ask.{Ask}
use Rattle.node_kernel.specs.Answers.{asks_to_open, event_of, granted_by, hand_of, named}
use Rattle.node_kernel.specs.Answers.{needs_endpoint, refused}
use Rattle.fabric.specs.Fits.{FitsRun, MayMeetIn}
use Rattle.fabric.specs.Links.{no_link_stirs}
use Rattle.fabric.specs.Machine.{all_leave_at_rest, granted_head, head_for, head_of}
use Rattle.fabric.specs.Machine.{is_at_rest, look, pumped_head, signal_in, vain_look}
use Rattle.fabric.specs.Run.{IsMade}
use Rattle.link_laws.specs.Ends.{IsLinkOf}
use Rattle.link_laws.specs.Laws.{HasEffects, KeepsLinks, KeepsNodeLaws, restarting}
use Rattle.link_laws.specs.Sessions.{boots}
use Rattle.trunk_moves.specs.Trunks.{RunTrunks}

-- what the types of an event tell: its name is one, and its signal has at most 65,532 bytes
abbrev pub IsNamedEvent : Event → Type 0
IsNamedEvent (asks.Open name) = is_name name ≡ true
IsNamedEvent (asks.Hunt path) = is_name (name_of_path path) ≡ true
IsNamedEvent _ = Unit {0}

pub record IsTyped (ask : Ask) : Type 0 where
  pub name : IsNamedEvent ask.event
  pub signal : length (signal_in ask.hand).bytes ≤ data_limit

-- where all leave at rest, each does
pub rest-others : (P : List Step) (k n other : ℕ) → all_leave_at_rest P k n ≡ true
    → 0 < other → other ≤ n → other ≢ k → leaves_at_rest P k other ≡ true
rest-others P k zero other all above within different = absurd (omega arith)
rest-others P k (suc n) other all above within different =
    let parts = and_parts (all_leave_at_rest P k n) ((k ==
    suc n) || leaves_at_rest P k (suc n)) all in
    let go : (b : Bool) → (other == suc n) ≡ b → leaves_at_rest P k other ≡ true = λ b.
    elim b as (λ c. (other == suc n) ≡ c → leaves_at_rest P k other ≡ true) [
      | true ↦ λ is.
          let same : other ≡ suc n = eqb-true other (suc n) is in
          let last : leaves_at_rest P k (suc n) ≡ true =
          elim (or_cases (k == suc n) (leaves_at_rest P k (suc n)) parts.1) [
            | inl e ↦ absurd (different (same ∙ sym (eqb-true k (suc n) e)))
            | inr e ↦ e
          ]
          in
          subst (λ (x : ℕ). leaves_at_rest P k x ≡ true) (sym same) last
      | false ↦ λ no.
          let less : other ≢ suc n = λ e. true≢false (sym
          (Rattle.std.proofs.lemmas.Bool.eq-eqb other (suc n) e) ∙ no) in
          rest-others P k n other parts.0 above (omega (arith, less)) different
    ]
    in
    go (other == suc n) refl

-- the effects of a head off the links' pumps, by the node and the endpoint of its maker
abbrev pub effects_for : Shape → List Step → ℕ → Option Inc → Head → List Effect
effects_for shape P node me (heads.Restart n) = restarting shape P n.0
effects_for shape P node me head = effects_by P node me head

pub has-effects : (shape : Shape) (P : List Step) (node : ℕ) (me : Option Inc) (head : Head)
    → HasEffects shape P node me head (effects_for shape P node me head)
has-effects shape P node me (heads.Wire link from verdict) = tt
has-effects shape P node me (heads.Tick link side) = tt
has-effects shape P node me _ = refl

-- the head restarts a node
abbrev pub is_restart : Head → Bool
is_restart (heads.Restart n) = true
is_restart _ = false

-- any other head's effects are those of its node
pub effects-plain : (shape : Shape) (P : List Step) (node : ℕ) (me : Option Inc) (head : Head)
    → is_restart head ≡ false → effects_for shape P node me head ≡ effects_by P node me head
effects-plain shape P node me (heads.Restart n) off = absurd (true≢false off)
effects-plain shape P node me _ off = refl

-- and it boots none
pub boots-none : (P : List Step) (by : By) (es : List Effect) (n : ℕ) (head : Head)
    → is_restart head ≡ false
    → boots (record { by = by; head = head; effects = es } ∷ P) n ≡ boots P n
boots-none P by es n (heads.Restart k) off = absurd (true≢false off)
boots-none P by es n _ off = refl

-- where what a head names is there, the link that it speaks of is one of the shape
links-there : (nodes : ℕ) (shape : Shape) (P : List Step) (trunks : RunTrunks) (node : ℕ)
    → (head : Head) → FitsRun nodes shape P trunks node (event_of head) (signal_in (hand_of head))
    → KeepsLinks shape head
links-there nodes shape P trunks node (heads.Wire l from verdict) fits = fits.of_shape
links-there nodes shape P trunks node (heads.Tick l side) fits = fits
links-there nodes shape P trunks node (heads.Cut l) fits = fits
links-there nodes shape P trunks node (heads.Mend l) fits = fits
links-there nodes shape P trunks node (heads.Settle l) fits = fits
links-there nodes shape P trunks node _ fits = tt

-- A STEP keeps the laws of nodes, and is made of what it names
pub record IsLawful (nodes : ℕ) (shape : Shape) (P : List Step) (trunks : RunTrunks) (s : Step)
    : Type 0 where
  pub laws : KeepsNodeLaws shape P s
  pub made : IsMade nodes shape P trunks s

-- it is so, whoever makes it, by what each law says of its head
lawful-by : (nodes : ℕ) (shape : Shape) (P : List Step) (trunks : RunTrunks) (es : List Effect)
    (by : By)
    → IsMaker shape P by → (head : Head) → may_make by head ≡ true
    → (is_opening head ≡ true → is_none (endpoint_by P by) ≡ true)
    → (is_endpoints head ≡ true → is_some (endpoint_by P by) ≡ true) → IsBounded head
    → HasEffects shape P (node_by shape by) (endpoint_by P by) head es
    → KeepsSends P (node_by shape by) head
    → KeepsReceives shape P (node_by shape by) by (endpoint_by P by) head
    → IsMade nodes shape P trunks (record { by = by; head = head; effects = es })
    → IsLawful nodes shape P trunks (record { by = by; head = head; effects = es })
lawful-by nodes shape P trunks es by maker head may opens_one needs_one bounds effects sends
    receives made = record {
      laws = record {
        makers = record { maker = maker; may = may };
        endpoints = record { opens = opens_one; needs = needs_one };
        bounds = bounds;
        effects = effects;
        sends = sends;
        receives = receives;
        links = links-there nodes shape P trunks (node_by shape by) head made.fits;
      };
      made = made;
    }

-- a test that fails isn't met
fails : {A : Type 0} {b : Bool} → b ≡ false → b ≡ true → A
fails off on = absurd (true≢false (sym on ∙ off))

-- the event is one for an actor with this endpoint, or none
pub record IsGranted (me : Option Inc) (event : Event) : Type 0 where
  pub opening : asks_to_open event ≡ true → is_none me ≡ true
  pub needing : needs_endpoint event ≡ true → is_some me ≡ true

-- one that needs no endpoint and opens none is
pub granted-plain : (me : Option Inc) (event : Event) → asks_to_open event ≡ false
    → needs_endpoint event ≡ false → IsGranted me event
granted-plain me event opens_not needs_not = record {
  opening = fails opens_not;
  needing = fails needs_not;
}

-- what such an event asks is done
granted-is : (me : Option Inc) (at : ℕ) (ask : Ask) → IsGranted me ask.event
    → granted_by me at ask ≡ ask
granted-is None at ask g = go (needs_endpoint ask.event) refl
  where
    go : (b : Bool) → needs_endpoint ask.event ≡ b → cond b (refused (Refusal.NotOpen at)) ask ≡ ask
    go true needs = absurd (true≢false (sym (g.needing needs)))
    go false needs = refl
granted-is (Some i) at ask g = go (asks_to_open ask.event) refl
  where
    go : (b : Bool) → asks_to_open ask.event ≡ b → cond b (refused (Refusal.IsOpen i)) ask ≡ ask
    go true is = absurd (true≢false (sym (g.opening is)))
    go false is = refl

-- a head opens, and needs an endpoint, exactly where what it names does
named-alike : (head : Head) → (asks_to_open (event_of head) ≡ is_opening head)
    × (needs_endpoint (event_of head) ≡ is_endpoints head)
named-alike (heads.Open name) = (refl, refl)
named-alike _ = (refl, refl)

-- the head is the one that the machine gives to what it names
abbrev pub IsOfNamed : Shape → List Step → Bool → ℕ → Head → Type 0
IsOfNamed shape P still k head =
    head_of shape P still k (node_by shape (Actor k)) (endpoint_of P k) (event_of head)
    (signal_in (hand_of head)) ≡ Some head

-- and so it is where the event is granted
pub made-of_named : (shape : Shape) (P : List Step) (still : Bool) (k : ℕ) (head : Head)
    → (is_opening head ≡ true → is_none (endpoint_of P k) ≡ true)
    → (is_endpoints head ≡ true → is_some (endpoint_of P k) ≡ true)
    → IsOfNamed shape P still k head
    → head_for shape P still (Actor k) (named head) ≡ Some head
made-of_named shape P still k head opens_one needs_one of_named =
    ap (granted_head shape P still k) (granted-is (endpoint_of P k) (closed_step P k) (named head)
    (record {
      opening = λ is. opens_one (sym (named-alike head).0 ∙ is);
      needing = λ is. needs_one (sym (named-alike head).1 ∙ is);
    }))
    ∙ of_named

module _ (nodes : ℕ) (shape : Shape) (P : List Step) (trunks : RunTrunks) (k : ℕ)
    (maker : IsMaker shape P (Actor k)) (room : is_full P ≡ false) where
  abbrev home : ℕ
  home = node_by shape (Actor k)

  abbrev me : Option Inc
  me = endpoint_of P k

  abbrev still : Bool
  still = no_link_stirs shape P trunks

  -- the step with this head
  abbrev pub made_by : Head → Step
  made_by head = record { by = Actor k; head = head; effects = effects_for shape P home me head }

  -- a step, if there is one, is lawful
  abbrev pub LawfulIf : Option Head → Type 0
  LawfulIf None = Unit {0}
  LawfulIf (Some head) = IsLawful nodes shape P trunks (made_by head)

  -- what it names fits the run
  abbrev NamesFitting : Head → Type 0
  NamesFitting head =
      FitsRun nodes shape P trunks home (event_of head) (signal_in (hand_of head))

  -- it is lawful, by what the laws say of its head, what the machine makes of what it names, and
  -- that what it speaks of is there
  made-lawful : (head : Head) → (is_opening head ≡ true → is_none me ≡ true)
      → (is_endpoints head ≡ true → is_some me ≡ true) → IsBounded head → KeepsSends P home head
      → KeepsReceives shape P home (Actor k) me head → IsOfNamed shape P still k head
      → NamesFitting head → LawfulIf (Some head)
  made-lawful head opens_one needs_one bounds sends receives of_named fits =
      lawful-by nodes shape P trunks (effects_for shape P home me head) (Actor k) maker head refl
      opens_one needs_one bounds (has-effects shape P home me head) sends receives
      (record {
        room = room;
        given = made-of_named shape P still k head opens_one needs_one of_named;
        fits = fits;
      })

  vain : (f : Sigsel) → is_some me ≡ true → first_selected f (queue_of P me) ≡ None
      → (rest waits : Bool) → (is_at_rest shape P k && still) ≡ rest
      → is_some (waits_with P k) ≡ waits → LawfulIf (vain_look rest waits f)
  vain f mine none true waits at_rest has =
      made-lawful (heads.TakeNone f) (fails refl) (λ is. mine) tt tt (
        none,
        record {
          others = λ other above within different. rest-others P k (length shape.actors) other
              (and_parts (is_at_rest shape P k) still at_rest).0 above within different;
        },
      ) (rw (none, at_rest) refl) tt
  vain f mine none false true at_rest has = tt
  vain f mine none false false at_rest has =
      made-lawful (heads.Waits f) (fails refl) (λ is. mine) tt tt
      (none, no_filter (waits_with P k) has) (rw (none, at_rest, has) refl) tt
    where
      no_filter : (w : Option Sigsel) → is_some w ≡ false → w ≡ None
      no_filter None is = refl
      no_filter (Some g) is = absurd (true≢false is)

  looks : (f : Sigsel) → is_some me ≡ true → (item : Option Item)
      → first_selected f (queue_of P me) ≡ item → LawfulIf (look shape P still k f item)
  looks f mine None is =
      vain f mine is (is_at_rest shape P k && still) (is_some (waits_with P k)) refl refl
  looks f mine (Some item) is =
      made-lawful (heads.Take f item.pos) (fails refl) (λ is. mine) tt tt (rw is refl)
      (rw is refl) tt

  -- WHAT IS GRANTED makes a lawful step
  pub granted-lawful : (event : Event) (note : SigNote) → IsGranted me event → IsNamedEvent event
      → length note.bytes ≤ data_limit → FitsRun nodes shape P trunks home event note
      → LawfulIf (head_of shape P still k home me event note)
  granted-lawful (asks.Open name) note g named short fits =
      made-lawful (heads.Open name) (λ is. g.opening refl) (fails refl) named tt tt refl tt
  granted-lawful asks.Close note g named short fits =
      made-lawful heads.Close (fails refl) g.needing tt tt tt refl tt
  granted-lawful (asks.Send q) note g named short fits =
      made-lawful
      (heads.Send q note (Rattle.journal.specs.Effects.send_answer (is_alive P home q) q))
      (fails refl) g.needing short refl tt refl tt
  granted-lawful (asks.Look filter) note g named short fits =
      looks filter (g.needing refl) (first_selected filter (queue_of P me)) refl
  granted-lawful (asks.Hunt path) note g named short fits =
      made-lawful (heads.Hunt path note) (fails refl) g.needing (named, short) tt tt refl fits
  granted-lawful (asks.Attach q) note g named short fits =
      made-lawful (heads.Attach q note) (fails refl) g.needing fits tt tt refl fits
  granted-lawful (asks.Detach r) note g named short fits =
      made-lawful (heads.Detach r (detached_as P home me r)) (fails refl) g.needing tt tt refl
      refl tt
  granted-lawful (asks.Cut link) note g named short fits =
      made-lawful (heads.Cut link) (fails refl) (fails refl) tt tt tt refl fits
  granted-lawful (asks.Mend link) note g named short fits =
      made-lawful (heads.Mend link) (fails refl) (fails refl) tt tt tt refl fits
  granted-lawful (asks.Restart n) note g named short fits =
      made-lawful (heads.Restart n) (fails refl) (fails refl) tt tt tt refl fits
  granted-lawful (asks.Settle link) note g named short fits =
      made-lawful (heads.Settle link) (fails refl) (fails refl) tt tt tt refl fits
  granted-lawful (asks.Refuse reason) note g named short fits =
      made-lawful (heads.Refused reason) (fails refl) (fails refl) tt tt tt refl tt
  granted-lawful asks.End note g named short fits =
      made-lawful heads.Ended (fails refl) (fails refl) tt tt tt refl tt
  granted-lawful (asks.Wire link from verdict) note g named short fits =
      made-lawful (heads.Wire link from verdict) (fails refl) (fails refl) tt tt tt refl fits
  granted-lawful (asks.Tick link side) note g named short fits =
      made-lawful (heads.Tick link side) (fails refl) (fails refl) tt tt tt refl fits

  -- a refusal
  pub refused-lawful : (reason : Refusal)
      → IsLawful nodes shape P trunks (made_by (heads.Refused reason))
  refused-lawful reason =
      made-lawful (heads.Refused reason) (fails refl) (fails refl) tt tt tt refl tt

-- A STEP OF A LINK, by a maker that may make it, whatever its effects are
module _ (nodes : ℕ) (shape : Shape) (P : List Step) (trunks : RunTrunks) (es : List Effect)
    (by : By) (maker : IsMaker shape P by) (room : is_full P ≡ false) where
  -- a head that needs no endpoint is given to an actor by what it names, and to a pump
  given : (head : Head) → is_opening head ≡ false → is_endpoints head ≡ false
      → ((k : ℕ) → IsOfNamed shape P (no_link_stirs shape P trunks) k head)
      → pumped_head (named head).event ≡ Some head
      → (b : By) → head_for shape P (no_link_stirs shape P trunks) b (named head) ≡ Some head
  given head opens_not needs_not of_named pumped (Actor k) =
      made-of_named shape P (no_link_stirs shape P trunks) k head (fails opens_not)
      (fails needs_not) (of_named k)
  given head opens_not needs_not of_named pumped (Pump link) = pumped

  pub wire-lawful : (l : LinkNo) (from : Side) (verdict : Verdict)
      → may_make by (heads.Wire l from verdict) ≡ true → MayMeetIn shape P trunks l from verdict
      → IsLawful nodes shape P trunks
      (record { by = by; head = heads.Wire l from verdict; effects = es })
  wire-lawful l from verdict may meets =
      lawful-by nodes shape P trunks es by maker (heads.Wire l from verdict) may (fails refl)
      (fails refl) tt tt tt tt (record {
        room = room;
        given = given (heads.Wire l from verdict) refl refl (λ k. refl) refl by;
        fits = meets;
      })

  pub tick-lawful : (l : LinkNo) (side : Side) → may_make by (heads.Tick l side) ≡ true
      → IsLinkOf shape l
      → IsLawful nodes shape P trunks (record { by = by; head = heads.Tick l side; effects = es })
  tick-lawful l side may of_shape =
      lawful-by nodes shape P trunks es by maker (heads.Tick l side) may (fails refl) (fails refl)
      tt tt tt tt (record {
        room = room;
        given = given (heads.Tick l side) refl refl (λ k. refl) refl by;
        fits = of_shape;
      })
