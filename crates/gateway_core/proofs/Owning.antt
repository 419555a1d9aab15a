-- Which endpoints a step of a client leaves open.
use Rattle.std.proofs.Common.{◌≡◌, ◌≢◌, ℕ, zero, suc, ◌<◌, Bool, true, false, cond, List, [], ◌∷◌}
use Rattle.std.proofs.Common.{length, refl, sym, ◌∙◌, ap, subst, arith, Option, Some, None, IsSome}
use Rattle.std.proofs.Common.{ne_eqb}
use Rattle.std.specs.List.{list_any}
use Rattle.linx_base.specs.declared.identity.Inc.{Inc}
use Rattle.linx_base.specs.declared.identity.Peer.TheVariants.{Here}
use Rattle.linx_base.specs.declared.name.Path.TheVariants.{Local}
use Rattle.journal.specs.declared.by.By.{By}
use Rattle.journal.specs.declared.by.By.TheVariants.{Actor}
use Rattle.journal.specs.declared.effect.Effect.{Effect}
use Rattle.journal.specs.declared.effect.Effect.TheVariants.{Opened}
use Rattle.journal.specs.declared.effect.Step.{Step}
use Rattle.journal.specs.declared.head.Head.{Head}
use Rattle.journal.specs.declared.head.Head.TheVariants as heads
use Rattle.journal.specs.Effects.{hunts_for}
use Rattle.journal.specs.History.{closes, endpoint_by, endpoint_of, is_by, is_lost, last_opened}
use Rattle.journal.specs.History.{next_inc, opened_on, unless_closed}
use Rattle.journal.specs.Laws.{effects_by}
use Rattle.journal.specs.Living.{find, is_alive}
use Rattle.journal.specs.Pending.{hunting}
use Rattle.journal.specs.Shapes.{Shape, node_by}
use Rattle.journal.proofs.Openings.{IsShort}
use Rattle.link_laws.specs.Laws.{HasEffects, IsLegal, KeepsNodeLaws}
use Rattle.node_kernel.specs.declared.answers.StepAnswer.{StepAnswer}
use Rattle.node_kernel.specs.declared.ask.Ask.{Ask}
use Rattle.node_kernel.specs.Answers.{event_of}
use Rattle.fabric.specs.Run.{IsStepped, Layout}
use Rattle.fabric.proofs.AfterStep.Effects.{only-arrivals, only-attached, only-founds, only-hunted}
use Rattle.fabric.proofs.Methods.Keeps.{other-not_lost}
use Rattle.fabric.proofs.Methods.Legal.{is_restart}
use Rattle.gateway_core.specs.Handling.{leaves_open}
use Rattle.gateway_core.proofs.Running.{after_ask, is_clients, leaving-client}

-- A STEP OF A CLIENT restarts nothing, and has the effects of its head
no_restart : (head : Head) → is_clients (event_of head) ≡ true → is_restart head ≡ false
no_restart (heads.Restart n) client = cc
no_restart _ client = refl

plain : (shape : Shape) (P : List Step) (node : ℕ) (me : Option Inc) (head : Head)
    (es : List Effect) → is_clients (event_of head) ≡ true → HasEffects shape P node me head es
    → es ≡ effects_by P node me head
plain shape P node me (heads.Restart n) es client has = cc
plain shape P node me (heads.Wire l from verdict) es client has = cc
plain shape P node me (heads.Tick l side) es client has = cc
plain shape P node me _ es client has = has

-- but for a close, it closes no endpoint
closes_none : (P : List Step) (node : ℕ) (me : Option Inc) (head : Head)
    → leaves_open (event_of head) ≡ true → (i : Inc)
    → list_any (closes i) (effects_by P node me head) ≡ false
closes_none P node me (heads.Open name) leaves i =
    (only-founds (Here (next_inc node (opened_on P node))) (hunts_for (Local name)
    (hunting P node))).closes_none i
closes_none P node (Some j) (heads.Send q note answer) leaves i =
    (only-arrivals j note (is_alive P node q) q).closes_none i
closes_none P node (Some j) (heads.Hunt path note) leaves i = (only-hunted (find P node path)
    (record {
      at = j;
      path = path;
      signal = note;
      number = suc (length P);
    })).closes_none i
closes_none P node (Some j) (heads.Attach q note) leaves i = (only-attached (is_alive P node q)
    (record {
      at = j;
      peer = q;
      signal = note;
      reference = record { 0 = suc (length P) };
    })).closes_none i
closes_none P node me heads.Close leaves i = cc
closes_none P node me (heads.Restart n) leaves i = cc
closes_none P node me heads.Ended leaves i = cc
closes_none P node _ _ leaves i = refl

-- AN ENDPOINT THAT IS OPEN stays so where the effects don't close it
unless_closed-same : (es : List Effect) (e : Option Inc) → is_lost es e ≡ false
    → unless_closed es e ≡ e
unless_closed-same es None lost = refl
unless_closed-same es (Some i) lost = rw lost refl

last-some : (i : Inc) (es : List Effect) → IsSome (last_opened (Some i) es)
last-some i [] = refl
last-some i (Opened j ∷ es) = last-some j es
last-some i (_ ∷ es) = last-some i es

past-some : (es : List Effect) → ((i : Inc) → list_any (closes i) es ≡ false) → (own : Bool)
    (e : Option Inc) → IsSome e → IsSome (unless_closed es (cond own (last_opened e es) e))
past-some es none own None some = cc
past-some es none true (Some i) some = kept (last_opened (Some i) es) (last-some i es)
  where
    kept : (e : Option Inc) → IsSome e → IsSome (unless_closed es e)
    kept None some = cc
    kept (Some j) some = rw (none j) refl
past-some es none false (Some i) some = rw (none i) refl

-- after a step that leaves them open
pub all-open : (old new : Layout) (k : ℕ) (ask : Ask) (answer : StepAnswer)
    → IsStepped old new (Actor k) ask answer → leaves_open ask.event ≡ true
    → (c : ℕ) → IsSome (endpoint_of old.log.steps c) → IsSome (endpoint_of new.log.steps c)
all-open old new k ask answer stepped leaves c some =
    after_ask old new k ask answer stepped leaves_open (λ r. refl) leaves
    (λ P. IsSome (endpoint_of P c)) some
    (λ s by open_then laws. past-some s.effects (λ i.
    ap (list_any (closes i)) (plain old.shape old.log.steps (node_by old.shape s.by)
    (endpoint_by old.log.steps s.by) s.head s.effects
    (leaving-client (event_of s.head) open_then) laws.effects)
    ∙ closes_none old.log.steps (node_by old.shape s.by) (endpoint_by old.log.steps s.by) s.head
    open_then i) (is_by s.by c) (endpoint_of old.log.steps c) some)

-- after any step of a client, those of the others
other-open : (shape : Shape) (P : List Step) → IsLegal shape P → IsShort P → (s : Step) (k : ℕ)
    → 0 < k → s.by ≡ Actor k → is_clients (event_of s.head) ≡ true → KeepsNodeLaws shape P s
    → (c : ℕ) → c ≢ k → IsSome (endpoint_of P c) → IsSome (endpoint_of (s ∷ P) c)
other-open shape P legal short s zero above by client laws c other some = absurd (omega arith)
other-open shape P legal short s (suc k) above by client laws c other some =
    let apart : suc k ≢ c = λ same. other (sym same) in
    let lost : is_lost s.effects (endpoint_of P c) ≡ false =
    other-not_lost shape P legal short s k by
    (plain shape P (node_by shape s.by) (endpoint_by P s.by) s.head s.effects client laws.effects)
    (no_restart s.head client) c apart (endpoint_of P c) refl in
    let off : is_by s.by c ≡ false = ap (λ (b : By). is_by b c) by ∙ ne_eqb (suc k) c apart in
    subst (λ (e : Option Inc). IsSome e) (sym (ap (λ (b : Bool). unless_closed s.effects
    (cond b (last_opened (endpoint_of P c) s.effects) (endpoint_of P c))) off
    ∙ unless_closed-same s.effects (endpoint_of P c) lost)) some

pub others-open : (old new : Layout) (k : ℕ) (ask : Ask) (answer : StepAnswer)
    → IsStepped old new (Actor k) ask answer → is_clients ask.event ≡ true → 0 < k
    → IsLegal old.shape old.log.steps → IsShort old.log.steps
    → (c : ℕ) → c ≢ k → IsSome (endpoint_of old.log.steps c)
    → IsSome (endpoint_of new.log.steps c)
others-open old new k ask answer stepped client above legal short c other some =
    after_ask old new k ask answer stepped is_clients (λ r. refl) client
    (λ P. IsSome (endpoint_of P c)) some
    (λ s by clients laws.
    other-open old.shape old.log.steps legal short s k above by clients laws c other some)
