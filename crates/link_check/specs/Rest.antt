-- What was stirred on a link since it was last seen still: what has to be looked at again, so as to
-- know that it is still.
use Rattle.std.specs.Prelude.{ℕ, ◌≡◌, ◌==◌, Bool, true, false, ◌||◌, List, [], ◌∷◌, ◌++◌, Option, Some}
use Rattle.std.specs.Prelude.{None, if◌then◌else◌, option_to_list}
use Rattle.std.specs.List.{filter_map, list_any}
use Rattle.linx_base.specs.Numbers.{is_on}
use Rattle.linx_base.specs.Pending.{is_for}
use Rattle.linx_base.specs.declared.frame.LinkDecl.{LinkDecl}
use Rattle.linx_base.specs.declared.identity.Inc.{Inc}
use Rattle.linx_base.specs.declared.identity.LinkNo.{LinkNo}
use Rattle.linx_base.specs.declared.identity.Peer.{Peer}
use Rattle.linx_base.specs.declared.identity.Peer.TheVariants.{Here, There}
use Rattle.linx_base.specs.declared.identity.Session.{Session}
use Rattle.linx_base.specs.declared.name.Path.{Path}
use Rattle.linx_base.specs.declared.name.Path.TheVariants.{Local, Over}
use Rattle.journal.specs.History.{endpoint_by, name_of}
use Rattle.journal.specs.Living.{is_alive, is_met, living}
use Rattle.journal.specs.Pending.{hunting}
use Rattle.journal.specs.Traffic.{arrived_from, sent_to}
use Rattle.journal.specs.declared.effect.Effect.{Effect}
use Rattle.journal.specs.declared.effect.Effect.TheVariants as effects
use Rattle.journal.specs.declared.effect.Step.{Step}
use Rattle.journal.specs.declared.head.Head.{Head}
use Rattle.journal.specs.declared.head.Head.TheVariants.{Cut, Hunt, Mend, Send, TakeNone}
use Rattle.link_check.specs.declared.rest.Stir.{Stir}
use Rattle.link_check.specs.declared.rest.Stir.TheVariants.{Sent, Doubted, Hunted, Offered}

-- the incarnation is of a node of the link
abbrev pub is_at_end : LinkDecl → Inc → Bool
is_at_end ends i = is_on ends.first.0 i || is_on ends.second.0 i

-- the incarnation of a peer over the link
abbrev pub across : ℕ → Peer → Option Inc
across l (Here i) = None
across l (There k x i) = if k.0 == l then Some i else None

-- ROUGH STEPS, of which no stir tells what they change. A session of the link goes up or down
abbrev pub changes : ℕ → Effect → Bool
changes l (effects.Up n k x y) = k.0 == l
changes l (effects.Down n k x) = k.0 == l
changes l _ = false

-- a head cuts or mends the link
abbrev pub moves : ℕ → Head → Bool
moves l (Cut k) = k.0 == l
moves l (Mend k) = k.0 == l
moves l _ = false

-- a step does so, by its head or an effect
abbrev pub is_rough : ℕ → Step → Bool
is_rough l s = moves l s.head || list_any (changes l) s.effects

-- WHAT A HEAD STIRS in a step of an endpoint. It sends to an incarnation over the link
abbrev pub send_over : Option Inc → Option Inc → Option Stir
send_over (Some a) (Some b) = Some (Sent a b)
send_over _ _ = None

-- it hunts over the link
abbrev pub hunt_over : ℕ → Path → Option Stir
hunt_over l (Local name) = None
hunt_over l (Over k name) = if k.0 == l then Some (Hunted name) else None

abbrev pub stir_by : ℕ → Option Inc → Head → Option Stir
stir_by l me (Send q note answer) = send_over me (across l q)
stir_by l me (Hunt path note) = hunt_over l path
stir_by l me _ = None

-- WHAT AN EFFECT STIRS. A peer over the link is met
abbrev pub doubt_of : Option Inc → Option Stir
doubt_of None = None
doubt_of (Some i) = Some (Doubted i)

-- or an endpoint of a node of the link closes or opens
abbrev pub stir_in : ℕ → LinkDecl → Effect → Option Stir
stir_in l ends (effects.Closed i) = if is_at_end ends i then Some (Doubted i) else None
stir_in l ends (effects.Opened i) = if is_at_end ends i then Some (Offered i) else None
stir_in l ends (effects.Met n q name) = doubt_of (across l q)
stir_in l ends _ = None

-- WHAT A STEP STIRS, whose maker has this endpoint
abbrev pub stirs_of : ℕ → LinkDecl → Option Inc → Step → List Stir
stirs_of l ends me s =
    option_to_list (stir_by l me s.head) ++ filter_map (stir_in l ends) s.effects

-- a receive finds none
abbrev pub finds_none : Head → Bool
finds_none (TakeNone filter) = true
finds_none _ = false

-- what was stirred, where it is known, and more
abbrev pub with_more : Option (List Stir) → List Stir → Option (List Stir)
with_more None more = None
with_more (Some stirs) more = Some (stirs ++ more)

-- WHAT WAS STIRRED after a step: it is known from a receive that finds none on, until a rough step
abbrev pub stirred_past : ℕ → LinkDecl → Option Inc → Step → Option (List Stir)
    → Option (List Stir)
stirred_past l ends me s before =
    if is_rough l s then None
    else with_more (if finds_none s.head then Some [] else before) (stirs_of l ends me s)

-- after all steps so far
abbrev pub stirred_left : List Step → ℕ → LinkDecl → Option (List Stir)
stirred_left [] l ends = None
stirred_left (s ∷ P) l ends =
    stirred_past l ends (endpoint_by P s.by) s (stirred_left P l ends)

-- WHAT WAS STIRRED IS SETTLED. All that incarnation a sent to b came, where session x of b's node is
-- up with session y of a's
abbrev pub HasGot : List Step → LinkNo → (x y : Session) → (a b : Inc) → Type 0
HasGot P l x y a b = arrived_from P b (There l x a) ≡ sent_to P a (There l y b)

-- no hunt of node n over the link for the name of an endpoint is pending
abbrev pub IsAnswered : List Step → ℕ → LinkNo → Inc → Type 0
IsAnswered P n l i = list_any (is_for (Over l (name_of P i))) (hunting P n) ≡ false

-- in one direction, where session x of node n is up with session y of node m: what was sent to an open
-- endpoint from an open one came, a peer that lives is open, and no hunt is pending for the name of
-- one that is open
abbrev pub IsSettledHalf : List Step → (n m : ℕ) → LinkNo → (x y : Session) → Stir → Type 0
IsSettledHalf P n m l x y (Sent a b) =
    is_alive P m (Here a) ≡ true → is_alive P n (Here b) ≡ true → HasGot P l x y a b
IsSettledHalf P n m l x y (Doubted i) =
    (z : Session) → is_met (living P n) (There l z i) ≡ true → is_alive P m (Here i) ≡ true
IsSettledHalf P n m l x y (Hunted name) =
    (i : Inc) → is_alive P m (Here i) ≡ true → name_of P i ≡ name → IsAnswered P n l i
IsSettledHalf P n m l x y (Offered i) = is_alive P m (Here i) ≡ true → IsAnswered P n l i
