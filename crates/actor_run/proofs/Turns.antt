-- The turns of an actor: what holds between two turns holds after the next.
use Rattle.std.proofs.Common.{◌≡◌, ℕ, ◌+◌, ◌<◌, ◌≤◌, arith, length-drop, Bool, true, false, List}
use Rattle.std.proofs.Common.{[], ◌∷◌, length, Option, None, refl, sym, ◌∙◌, ap, eq-eqb, inl, inr}
use Rattle.std.proofs.Common.{◌⊎◌, slice_get, drop}
use Rattle.linx_base.specs.declared.identity.Inc.{Inc}
use Rattle.journal.specs.declared.by.By.{By}
use Rattle.journal.specs.declared.by.By.TheVariants.{Actor}
use Rattle.journal.specs.declared.effect.Step.{Step}
use Rattle.journal.specs.History.{is_by, is_end, last_opened, last_endpoint, endpoint_of}
use Rattle.journal.specs.History.{closed_step}
use Rattle.script_words.specs.declared.command.Command.{Command}
use Rattle.node_kernel.specs.Answers.{answer_of, granted, is_pump_event, is_pumped, is_waits}
use Rattle.node_kernel.specs.Answers.{is_end_event, is_not_yet, named}
use Rattle.node_kernel.specs.declared.answers.StepAnswer.{StepAnswer}
use Rattle.node_kernel.specs.declared.answers.StepAnswer.TheVariants.{NotYet}
use Rattle.node_kernel.specs.declared.ask.Ask.{Ask}
use Rattle.actor_run.specs.Knowing.{Knows, told, learned, moved_on, knows_nothing, stopped_with}
use Rattle.actor_run.specs.Asking.{asked_by, handed, is_sending}
use Rattle.actor_run.specs.Following.{is_own, knows, endpoint_after, Follows, FollowsWhole, Playing}
use Rattle.actor_run.specs.Following.{IsTurned, last_waits}
use Rattle.actor_run.proofs.Keeps.{past}
use Rattle.actor_run.proofs.Heads.{is_look, granted_end, granted_pump, granted_look}
use Rattle.actor_run.proofs.Heads.{is_end_by_event, waits_look, waits_by_answer, waits_by_filter}
use Rattle.actor_run.proofs.Heads.{pumped_waits, pumped_end}
use Rattle.actor_run.proofs.Commands.{asks_well, some_left, handed_place, handed_back}

-- the step was made after P for what actor k asked, and was answered so
pub record IsMadeFor (P : List Step) (k : ℕ) (ask : Ask) (answer : StepAnswer) (s : Step)
    : Type 0 where
  pub maker : s.by ≡ Actor k
  pub names : named s.head ≡ granted P k ask
  pub answered : answer ≡ answer_of P s.head s.effects
  pub opened : (me : Option Inc) → last_opened me s.effects ≡ endpoint_after me answer
  pub once : is_waits s.head ≡ true → last_waits P k ≡ false

-- an ask that makes no step: a receive that has said that it waits, and finds nothing yet
pub record MakesNone (P : List Step) (k : ℕ) (ask : Ask) (answer : StepAnswer) (new : List Step)
    : Type 0 where
  pub same : new ≡ P
  pub answered : answer ≡ NotYet
  pub goes_on : is_end_event ask.event ≡ false
  pub keeps : is_sending ask.event ≡ false
  pub waits : last_waits P k ≡ true

-- what an ask makes of the history P: one step more, or none
abbrev pub MakesAsked : List Step → ℕ → Ask → StepAnswer → List Step → Type 0
MakesAsked P k ask answer new =
    ((s : Step) × (new ≡ s ∷ P) × IsMadeFor P k ask answer s) ⊎ MakesNone P k ask answer new

by_itself : (by : By) (k : ℕ) → by ≡ Actor k → is_by by k ≡ true
by_itself by k is = ap (λ b. is_by b k) is ∙ eq-eqb k k refl

-- a step that was made of what the actor asked is its own
own_step : (commands : List Command) (k : ℕ) (P : List Step) (mind : Knows) (me : Option Inc)
    (answer : StepAnswer) (s : Step)
    → IsMadeFor P k (asked_by commands mind me) answer s → is_own s k ≡ true
own_step commands k P mind me answer s made =
    let unpumped : is_pumped s.head ≡ false =
    ap (λ (a : Ask). is_pump_event a.event) made.names
    ∙ granted_pump (endpoint_of P k) (closed_step P k)
    (asked_by commands mind me)
    ((asks_well mind me (slice_get commands mind.place)).unpumped) in
    rw (by_itself s.by k made.maker, unpumped) refl

-- A STEP MADE OF WHAT WAS ASKED follows the commands
pub follows_more : (commands : List Command) (k : ℕ) (P : List Step) (mind : Knows)
    (me : Option Inc) (answer : StepAnswer) (s : Step)
    → Playing commands k P mind me → IsMadeFor P k (asked_by commands mind me) answer s
    → Follows commands k (s ∷ P)
follows_more commands k P mind me answer s playing made = (
  playing.follows,
  λ _. record {
    running = playing.running;
    names = made.names ∙ ap (granted P k) (rw (playing.known, playing.mine) refl);
    once = λ w.
        sym (ap (λ (m : Knows). m.waiting) playing.known) ∙ (playing.waits ∙ made.once w);
  },
)

-- what the actor knows after it
knows_more : (commands : List Command) (k : ℕ) (P : List Step) (mind : Knows) (me : Option Inc)
    (answer : StepAnswer) (s : Step)
    → Playing commands k P mind me → IsMadeFor P k (asked_by commands mind me) answer s
    → told commands (handed commands mind me) answer ≡ knows commands k (s ∷ P)
knows_more commands k P mind me answer s playing made =
    let own = own_step commands k P mind me answer s made in
    rw (own, made.answered, playing.known, playing.mine) refl

-- WHAT AN ANSWER LEAVES, by whether it says that the receive waits
record IsTold (commands : List Command) (m new : Knows) (yet : Bool) : Type 0 where
  pub waiting : new.waiting ≡ yet
  pub home : (yet ≡ true → m.lent ≡ false) → new.lent ≡ false
  pub within : m.place < length commands → new.place ≤ length commands

left_after : {X : Type 0} (xs : List X) (i : ℕ) → i < length xs
    → i + 1 + length (drop (i + 1) xs) ≤ length xs
left_after xs i less = omega (arith, less, length-drop (i + 1) xs)

is_told : (commands : List Command) (m : Knows) (answer : StepAnswer) (yet : Bool)
    → is_not_yet answer ≡ yet → IsTold commands m (told commands m answer) yet
is_told commands m answer true e = rw e (record {
  waiting = refl;
  home = λ home. home refl;
  within = λ less. omega (arith, less);
})
is_told commands m answer false e =
    let now : Knows = moved_on (learned (slice_get commands m.place) answer m) in
    let kept = past (drop (m.place + 1) commands) now.last now in
    rw e (record {
      waiting = kept.waiting;
      home = λ _. kept.lent;
      within = λ less.
          let end = left_after commands m.place less in
          let far = kept.within in
          omega (arith, end, far);
    })

-- so the place stays within the commands, but after the end
pub told_within : (commands : List Command) (mind : Knows) (me : Option Inc) (answer : StepAnswer)
    → is_end_event (asked_by commands mind me).event ≡ false
    → (told commands (handed commands mind me) answer).place ≤ length commands
told_within commands mind me answer goes_on =
    let less = some_left commands mind.place mind me goes_on in
    (is_told commands (handed commands mind me) answer (is_not_yet answer) refl).within
    (omega (arith, less, handed_place commands mind me))

-- the step ends the actor where it asked for its end
ends_by_ask : (P : List Step) (k : ℕ) (ask : Ask) (answer : StepAnswer) (s : Step)
    → IsMadeFor P k ask answer s → is_end s.head ≡ is_end_event ask.event
ends_by_ask P k ask answer s made =
    is_end_by_event s.head
    ∙ (ap (λ (a : Ask). is_end_event a.event) made.names
    ∙ granted_end (endpoint_of P k) (closed_step P k) ask)

-- a step that waits was asked for by no send
waits_unsent : (P : List Step) (k : ℕ) (ask : Ask) (answer : StepAnswer) (s : Step)
    → IsMadeFor P k ask answer s → is_waits s.head ≡ true → is_sending ask.event ≡ false
waits_unsent P k ask answer s made w =
    granted_look (endpoint_of P k) (closed_step P k) ask
    (sym (ap (λ (a : Ask). is_look a.event) made.names) ∙ waits_look s.head w)

-- AFTER A STEP the actor plays on
pub playing_after : (commands : List Command) (k : ℕ) (P : List Step) (mind : Knows)
    (me : Option Inc) (answer : StepAnswer) (s : Step)
    → Playing commands k P mind me → is_end_event (asked_by commands mind me).event ≡ false
    → IsMadeFor P k (asked_by commands mind me) answer s
    → Playing commands k (s ∷ P) (told commands (handed commands mind me) answer)
    (endpoint_after me answer)
playing_after commands k P mind me answer s playing goes_on made =
    let ask : Ask = asked_by commands mind me in
    let mine = by_itself s.by k made.maker in
    let after = is_told commands (handed commands mind me) answer (is_waits s.head)
    (ap is_not_yet made.answered ∙ sym (waits_by_answer P s.head s.effects)) in
    record {
      follows = follows_more commands k P mind me answer s playing made;
      known = knows_more commands k P mind me answer s playing made;
      mine = sym (rw mine (ap (λ m. last_opened m s.effects) (sym playing.mine) ∙ made.opened me));
      waits = rw mine (after.waiting ∙ sym (waits_by_filter s.head));
      home = after.home (λ w.
          let quiet : is_sending (asked_by commands mind me).event ≡ false =
          waits_unsent P k ask answer s made w in
          rw quiet playing.home);
      within = after.within
          (let less = some_left commands mind.place mind me goes_on in
          omega (arith, less, handed_place commands mind me));
      running = rw (mine, ends_by_ask P k ask answer s made ∙ goes_on) playing.running;
    }

-- or it has ended, and has followed its commands to their end
pub whole_after : (commands : List Command) (k : ℕ) (P : List Step) (mind : Knows)
    (me : Option Inc) (answer : StepAnswer) (s : Step)
    → Playing commands k P mind me → is_end_event (asked_by commands mind me).event ≡ true
    → IsMadeFor P k (asked_by commands mind me) answer s → FollowsWhole commands k (s ∷ P)
whole_after commands k P mind me answer s playing over made = (
  follows_more commands k P mind me answer s playing made,
  rw (
    by_itself s.by k made.maker,
    ends_by_ask P k (asked_by commands mind me) answer s made ∙ over,
  ) refl,
)

-- A receive that has said that it waits, and finds nothing yet, changes nothing
pub still_waiting : (commands : List Command) (mind : Knows) (me : Option Inc)
    → is_sending (asked_by commands mind me).event ≡ false → mind.waiting ≡ true
    → told commands (handed commands mind me) NotYet ≡ mind
still_waiting commands mind me quiet waits =
    rw quiet (let e : record mind { waiting = true } ≡ mind = rw waits refl in e)

-- A STEP ON A LINK, which the actor makes while it settles that link, changes nothing
pub playing_pumped : (commands : List Command) (k : ℕ) (P : List Step) (mind : Knows)
    (me : Option Inc) (s : Step)
    → Playing commands k P mind me → s.by ≡ Actor k → is_pumped s.head ≡ true
    → ((m : Option Inc) → last_opened m s.effects ≡ m) → mind.waiting ≡ false
    → Playing commands k (s ∷ P) mind me
playing_pumped commands k P mind me s playing by pumped opens idle =
    let mine = by_itself s.by k by in
    let off : is_own s k ≡ false = rw (mine, pumped) refl in
    record {
      follows = (playing.follows, λ own. cc);
      known = rw off playing.known;
      mine = rw (mine, opens (last_endpoint P k)) playing.mine;
      waits = rw mine
          (idle ∙ sym (waits_by_filter s.head ∙ pumped_waits s.head pumped));
      home = playing.home;
      within = playing.within;
      running = rw (mine, pumped_end s.head pumped) playing.running;
    }

-- BEFORE THE FIRST STEP
pub playing_first : (commands : List Command) (k : ℕ)
    → Playing commands k [] (knows_nothing commands) None
playing_first commands k = record {
  follows = tt;
  known = refl;
  mine = refl;
  waits = refl;
  home = refl;
  within = omega arith;
  running = refl;
}

turned_by_step : (commands : List Command) (k : ℕ) (P : List Step) (mind : Knows)
    (me : Option Inc) (answer : StepAnswer) (s : Step) (over : Bool)
    → Playing commands k P mind me → is_end_event (asked_by commands mind me).event ≡ over
    → IsMadeFor P k (asked_by commands mind me) answer s
    → IsTurned commands k (s ∷ P) (told commands (handed commands mind me) answer)
    (endpoint_after me answer) over
turned_by_step commands k P mind me answer s true playing e made =
    whole_after commands k P mind me answer s playing e made
turned_by_step commands k P mind me answer s false playing e made =
    playing_after commands k P mind me answer s playing e made

-- A TURN, whatever it makes
pub turned : (commands : List Command) (k : ℕ) (P new : List Step) (mind : Knows)
    (me : Option Inc) (answer : StepAnswer) (over : Bool)
    → Playing commands k P mind me → is_end_event (asked_by commands mind me).event ≡ over
    → MakesAsked P k (asked_by commands mind me) answer new
    → IsTurned commands k new (told commands (handed commands mind me) answer)
    (endpoint_after me answer) over
turned commands k P new mind me answer over playing e (inl made) =
    rw made.1 (turned_by_step commands k P mind me answer made.0 over playing e made.2)
turned commands k P new mind me answer over playing e (inr still) =
    let goes_on : over ≡ false = sym e ∙ still.goes_on in
    let same = still_waiting commands mind me still.keeps (playing.waits ∙ still.waits) in
    rw (still.same, goes_on, still.answered, same) playing

-- A STOP, with the hand that comes back, changes nothing
pub stopped_same : (commands : List Command) (k : ℕ) (P : List Step) (mind : Knows)
    (me : Option Inc) → Playing commands k P mind me
    → stopped_with (handed commands mind me) (asked_by commands mind me).hand ≡ mind
stopped_same commands k P mind me playing = handed_back commands mind me playing.home
