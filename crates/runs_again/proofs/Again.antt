-- A whole run comes again by its script with the lines of its turns.
use Rattle.std.proofs.Common.{◌∙◌}
use Rattle.order_lines.specs.Fronts.{OrderedParts}
use Rattle.order_rules.specs.declared.rule.Rule.TheVariants.{Rounds}
use Rattle.orders.specs.Laws.{IsPlayedAgain, OrderDecides}
use Rattle.orders.specs.Turns.{turns_of}
use Rattle.runs_again.specs.Again.{order_in}
use Rattle.runs_again.specs.Laws.{RunsComeAgain}
use Rattle.runs_again.proofs.Spelled.{turns_are_spelled}

-- A RUN COMES AGAIN by the lines of its journal
pub runs_come_again : OrderDecides → RunsComeAgain
runs_come_again decides bytes script run alone so_far over short =
    let ordered : OrderedParts =
    record { script = script; front = turns_of script run.log.steps } in
    let played : IsPlayedAgain script (order_in ordered) run =
    decides.replayed script run so_far over (Rounds 0) in
    record {
      ordered = ordered;
      spelled = turns_are_spelled bytes script run alone so_far short;
      played = played;
      only = λ other whole.
          decides.one script so_far.declared (order_in ordered) other played.again whole
          played.in_order
          ∙ played.log;
      unfilled = λ other filled.
          decides.apart script (order_in ordered) played.again other played.so_far
          played.in_order filled;
    }
