-- ROUNDS ARE THE FIXED ORDER: between two makers that come next in a circle nobody is ready, so that
-- their turns change nothing.
use Rattle.std.proofs.Common.{◌≡◌, ℕ, zero, suc, ◌<◌, ◌≤◌, true, false, [], refl, sym}
use Rattle.std.proofs.Common.{◌∙◌, ap, subst, inl, inr, arith}
use Rattle.std.proofs.lemmas.Bool.{cases_order}
use Rattle.script_lang.specs.Parts.{ScriptParts}
use Rattle.fabric.specs.Run.{Layout}
use Rattle.stage.specs.Plays.{AllFollow, IsSoFar}
use Rattle.stage.specs.Turns.{AreRounds, AreTurns, IsStoppedOf, IsStoppedRun, IsTurnOf, IsWhole}
use Rattle.stage.specs.Turns.{first_layout, is_over, makers}
use Rattle.stage.proofs.Rounds.WhoIsReady.{over-unready, unready-stays}
use Rattle.run_orders.proofs.Turns.{stopped-grows}
use Rattle.order_rules.specs.Orders.{Named, Order, named}
use Rattle.order_rules.specs.Rules.{next_round}
use Rattle.order_rules.specs.declared.rule.Rule.TheVariants as rules
use Rattle.orders.specs.Laws.{rounds}
use Rattle.orders.specs.Makers.{IsReadyMaker, ready}
use Rattle.orders.specs.Runs.{AreNextTurns, IsInOrder, IsNextTurn, IsStoppedInOrder, Standing}
use Rattle.orders.specs.Runs.{first_standing, next_in}
use Rattle.orders.proofs.Circle.{IsNextRound, NoneReady, begins, goes_on, next-round}
use Rattle.orders.proofs.Following.{before-turn, grows-follows}
use Rattle.orders.proofs.Stopped.{stop-of}

module _ (script : ScriptParts) where
  -- ---- within a round

  -- so many turns of one were made, after so many whole ones
  record IsInRound (last : ℕ) (f : Layout) : Type 0 where
    pub rounds : ℕ
    pub before : Layout
    pub made : AreRounds script rounds (first_layout script) before
    pub running : is_over before ≡ false
    pub turns : AreTurns script last before f

  module _ (f : Layout) (follows : AllFollow script f.log.steps) where
    -- the turns of those that aren't ready
    passed : (last n : ℕ) (before : Layout) → last ≤ n → AreTurns script last before f
        → NoneReady script f last (suc n) → AreTurns script n before f
    passed last zero before within turns none =
        let same : last ≡ 0 = omega (arith, within) in
        subst (λ (x : ℕ). AreTurns script x before f) same turns
    passed last (suc n) before within turns none =
        elim (cases_order last (suc n)) [
          | inl same ↦ subst (λ (x : ℕ). AreTurns script x before f) same turns
          | inr (inl less) ↦ (
            f,
            (
              passed last n before (omega (arith, less)) turns
                  (λ k above below. none k above (omega (arith, below))),
              unready-stays script f follows (suc n) (omega arith)
                  (none (suc n) less (omega arith)),
            ),
          )
          | inr (inr more) ↦ absurd (omega (arith, more, within))
        ]

    -- so a round comes to its end
    round-ends : (last : ℕ) → last ≤ makers script → (in_round : IsInRound last f)
        → NoneReady script f last (suc (makers script))
        → AreRounds script (suc in_round.rounds) (first_layout script) f
    round-ends last within in_round none = (
      in_round.before,
      (
        in_round.made,
        (in_round.running, passed last (makers script) in_round.before within in_round.turns none),
      ),
    )

    -- the round goes on as far as before this maker
    turns-before : (last next : ℕ) → last < suc next → (in_round : IsInRound last f)
        → NoneReady script f last (suc next) → AreTurns script next in_round.before f
    turns-before last next less in_round none =
        passed last next in_round.before (omega (arith, less)) in_round.turns none

    -- and a new round begins
    new-round : (last : ℕ) → last ≤ makers script → is_over f ≡ false → IsInRound last f
        → NoneReady script f last (suc (makers script)) → IsInRound 0 f
    new-round last within running in_round none = record {
      rounds = suc in_round.rounds;
      before = f;
      made = round-ends last within in_round none;
      running = running;
      turns = refl;
    }

    -- the round in which a maker comes next
    record HasPlace (next : ℕ) : Type 0 where
      pub last : ℕ
      pub less : last < next
      pub in_round : IsInRound last f
      pub none : NoneReady script f last next

    has-place : (last next : ℕ) → last ≤ makers script → is_over f ≡ false → 0 < next
        → IsInRound last f → IsNextRound script f last next → HasPlace next
    has-place last next within running above in_round (goes_on less none) =
        record { last = last; less = less; in_round = in_round; none = none }
    has-place last next within running above in_round (begins none first) = record {
      last = 0;
      less = above;
      in_round = new-round last within running in_round none;
      none = first;
    }

  -- ---- turn by turn

  abbrev circle : ℕ → Order
  circle last = record { left = []; rule = rules.Rounds last }

  -- where a run in rounds stands
  record IsAtRound (now : Standing) : Type 0 where
    pub last : ℕ
    pub within : last ≤ makers script
    pub order : now.order ≡ circle last
    pub in_round : IsInRound last now.run

  named-circle : (s : Standing) (last : ℕ) → s.order ≡ circle last
      → next_in script s
      ≡ record {
        maker = next_round last (ready script s.run);
        order = circle (next_round last (ready script s.run));
      }
  named-circle s last is = ap (λ (o : Order). named o.left o.rule (ready script s.run)) is

  -- the maker that comes next has its place
  next-place : (old : Standing) (follows : AllFollow script old.run.log.steps)
      → is_over old.run ≡ false → IsAtRound old
      → IsReadyMaker script old.run (next_in script old).maker
      → HasPlace old.run follows (next_in script old).maker
  next-place old follows running at it =
      let is = named-circle old at.last at.order in
      let next : ℕ = next_round at.last (ready script old.run) in
      let mine : IsReadyMaker script old.run next =
      subst (λ (n : Named). IsReadyMaker script old.run n.maker) is it in
      subst (λ (n : Named). HasPlace old.run follows n.maker) (sym is)
      (has-place old.run follows at.last next at.within running mine.above at.in_round
      (next-round script old.run at.last mine))

  turned : (old new : Layout) (follows : AllFollow script old.log.steps) (next : ℕ)
      → HasPlace old follows next → IsTurnOf script next old new → IsInRound next new
  turned old new follows zero place made =
      let less : place.last < 0 = place.less in
      absurd (omega (arith, less))
  turned old new follows (suc next) place made = record {
    rounds = place.in_round.rounds;
    before = place.in_round.before;
    made = place.in_round.made;
    running = place.in_round.running;
    turns = (
      old,
      (turns-before old follows place.last next place.less place.in_round place.none, made),
    );
  }

  next-at : (old new : Standing) → AllFollow script old.run.log.steps → IsAtRound old
      → IsNextTurn script old new → IsAtRound new
  next-at old new follows at turn =
      let is = named-circle old at.last at.order in
      record {
        last = (next_in script old).maker;
        within = turn.ready.within;
        order = turn.order ∙ orders-same old at.last is;
        in_round = turned old.run new.run follows (next_in script old).maker
            (next-place old follows turn.running at turn.ready) turn.turn;
      }
    where
      orders-same : (old : Standing) (last : ℕ)
          → next_in script old
          ≡ record {
            maker = next_round last (ready script old.run);
            order = circle (next_round last (ready script old.run));
          }
          → (next_in script old).order ≡ circle (next_in script old).maker
      orders-same old last is =
          ap (λ (n : Named). n.order) is ∙ sym (ap (λ (n : Named). circle n.maker) is)

  at-round : (n : ℕ) (now : Standing) → AreNextTurns script n (first_standing script rounds) now
      → is_over now.run ≡ false → AllFollow script now.run.log.steps → IsAtRound now
  at-round zero now made running follows =
      let same : now.run ≡ first_layout script = ap (λ (s : Standing). s.run) made in
      record {
        last = 0;
        within = omega arith;
        order = ap (λ (s : Standing). s.order) made;
        in_round = record {
          rounds = 0;
          before = first_layout script;
          made = refl;
          running = subst (λ (f : Layout). is_over f ≡ false) same running;
          turns = same;
        };
      }
  at-round (suc n) now made running follows =
      let before : AllFollow script made.0.run.log.steps =
      before-turn script made.0 now follows made.1.1 in
      next-at made.0 now before
      (at-round n made.0 made.1.0 made.1.1.running before) made.1.1

  -- ---- whole runs, and those that stopped

  whole-by : (n : ℕ) (last : Order) (run : Layout) → IsSoFar script run
      → AreNextTurns script n (first_standing script rounds) (record { order = last; run = run })
      → is_over run ≡ true → IsWhole script run
  whole-by zero last run so_far made over =
      record { rounds = 0; made = ap (λ (s : Standing). s.run) made; over = over }
  whole-by (suc n) last run so_far made over =
      let now : Standing = record { order = last; run = run } in
      let before : AllFollow script made.0.run.log.steps =
      before-turn script made.0 now so_far.follows made.1.1 in
      let at : IsAtRound now =
      next-at made.0 now before
      (at-round n made.0 made.1.0 made.1.1.running before) made.1.1 in
      record {
        rounds = suc at.in_round.rounds;
        made = round-ends run so_far.follows at.last at.within at.in_round
            (λ k above below.
            over-unready script run so_far.shape k (omega (arith, above)) (omega (arith, below))
            over);
        over = over;
      }

  stopped-at : (old new : Layout) (follows : AllFollow script old.log.steps) (next : ℕ)
      → next ≤ makers script → HasPlace old follows next → IsStoppedOf script next old new
      → IsStoppedRun script (first_layout script) new
  stopped-at old new follows zero within place stopped =
      let less : place.last < 0 = place.less in
      absurd (omega (arith, less))
  stopped-at old new follows (suc next) within place stopped = record {
    rounds = place.in_round.rounds;
    before = place.in_round.before;
    made = place.in_round.made;
    running = place.in_round.running;
    turns = next;
    few = omega (arith, within);
    stopped = (
      old,
      (turns-before old follows place.last next place.less place.in_round place.none, stopped),
    );
  }

pub fixed : (script : ScriptParts) (run : Layout) → IsSoFar script run
    → IsInOrder script rounds run → IsWhole script run
fixed script run so_far whole =
    whole-by script whole.turns whole.last run so_far whole.made whole.over

pub stopped_fixed : (script : ScriptParts) (run : Layout) → IsSoFar script run
    → IsStoppedInOrder script rounds run → IsStoppedRun script (first_layout script) run
stopped_fixed script run so_far stopped =
    let old : Standing = stopped.before in
    let at = stopped.stopped in
    let half : IsStoppedOf script (next_in script old).maker old.run run =
    stop-of script old run at in
    let follows : AllFollow script old.run.log.steps =
    grows-follows script old.run run
    (stopped-grows script old.run run (next_in script old).maker half) so_far.follows in
    stopped-at script old.run run follows (next_in script old).maker at.ready.within
    (next-place script old follows at.running
    (at-round script stopped.turns old stopped.made at.running follows) at.ready) half
