use Rattle.std.proofs.Common.{◌≡◌, ℕ, ◌<◌, ◌+◌, ◌*◌, ◌/◌, length, length-set, refl, ap, ◌∙◌, subst}
use Rattle.std.proofs.Common.{sym, arith, List}
use Rattle.deadlines.specs.Tournament.{leader_at, sooner, AreLed}
use Rattle.deadlines.proofs.Playing.{above_one, all_played, here, played_up, stays, AreLedBut}
use Rattle.deadlines.proofs.Leading.{to_play}
use Rattle.deadlines.proofs.Stopping.{shown, stopped}
use Rattle.deadlines.proofs.tournament.play_up.Goals as goal

pub loop-node-init : goal.loop-node-init
loop-node-init c =
    let tree = c.args.tree.now.items in
    let count : c.len.result ≡ length tree = omega (arith, c.len.ensures) in
    let at : (c.len.result + c.args.slot) / 2 ≡ (length tree + c.args.slot) / 2 =
    ap (λ n. (n + c.args.slot) / 2) count in
    record {
      inside = omega (arith, c.len.ensures, c.requires.inside);
      long = refl;
      leaves = c.requires.leaves;
      above = record { steps = 1; is = sym at };
      same = λ i high. refl;
      led = subst (AreLedBut c.args.slots.now.slots tree) (sym at)
          (to_play c.args.slots.now.slots tree c.args.slot c.requires.stale);
    }

-- who led stays, and isn't the slot
pub returns-then-index-before-clause-led : goal.returns-then-index-before-clause-led
returns-then-index-before-clause-led c =
    let slots = c.args.slots.now.slots in
    let first = c.args.tree.now.items in
    let tree = c.loop-node.tree.items in
    let node = c.loop-node.node in
    let best = sooner slots (leader_at tree (2 * node)) (leader_at tree (2 * node + 1)) in
    let inside : node < length tree = c.loop-node.invariant.inside in
    let positive : 0 < node = omega (arith, c.loop-node-test.true) in
    let long : length c.play.new.tree.items ≡ length tree =
    ap length c.play.ensures ∙ length-set tree node best in
    let before : leader_at tree node ≡ c.index-before.result.now =
    shown tree node c.index-before.result.now inside c.index-before.ensures in
    let after : leader_at c.play.new.tree.items node ≡ c.index.result.now =
    shown c.play.new.tree.items node c.index.result.now (omega (arith, inside, long))
    c.index.ensures in
    let kept : best ≡ leader_at tree node =
    sym (here slots tree node best refl positive inside)
    ∙ ap (λ (t : List ℕ). leader_at t node) (sym c.play.ensures) ∙ after
    ∙ c.if-index-before.true ∙ sym before in
    subst (AreLed slots) (sym c.play.ensures)
    (stopped slots first c.args.slot c.requires.stale tree node c.loop-node.invariant.long
    c.loop-node.invariant.above positive inside c.loop-node.invariant.same
    (λ e. c.if-before-slot.true (sym before ∙ e)) best refl kept c.loop-node.invariant.led)

pub loop-node-preserved : goal.loop-node-preserved
loop-node-preserved c =
    let slots = c.args.slots.now.slots in
    let first = c.args.tree.now.items in
    let tree = c.loop-node.tree.items in
    let node = c.loop-node.node in
    let best = sooner slots (leader_at tree (2 * node)) (leader_at tree (2 * node + 1)) in
    let inside : node < length tree = c.loop-node.invariant.inside in
    let positive : 0 < node = omega (arith, c.loop-node-test.true) in
    let long : length c.play.new.tree.items ≡ length tree =
    ap length c.play.ensures ∙ length-set tree node best in
    record {
      inside = omega (arith, inside, long);
      long = long ∙ c.loop-node.invariant.long;
      leaves = let leaves = c.loop-node.invariant.leaves in omega (arith, leaves, long);
      above = above_one node (length first + c.args.slot) c.loop-node.invariant.above;
      same = λ i high.
          ap (λ (t : List ℕ). leader_at t i) c.play.ensures
          ∙ stays slots tree node best refl positive inside i (omega (arith, high))
          ∙ c.loop-node.invariant.same i (omega (arith, high));
      led = subst (λ (t : List ℕ). AreLedBut slots t (node / 2)) (sym c.play.ensures)
          (played_up slots tree node best refl positive inside c.loop-node.invariant.led);
    }

pub returns-clause-led : goal.returns-clause-led
returns-clause-led c =
    all_played c.args.slots.now.slots c.loop-node.tree.items c.loop-node.node
    (omega (arith, c.loop-node-test.false)) c.loop-node.invariant.led
