-- That journals are decided, by the law of the runs behind them.
use Rattle.std.proofs.Common.{◌≡◌, ◌∙◌, ◌≤◌, ℕ, List, [], ◌∷◌, ap, arith, length, sym, subst}
use Rattle.std.proofs.Common.{true, false}
use Rattle.std.proofs.lemmas.List.{length-map}
use Rattle.journal.specs.Logs.{Log, is_full}
use Rattle.journal_text.specs.Text.{text_of}
use Rattle.journal_text.proofs.Spelling.{ArePlain}
use Rattle.link_laws.specs.Laws.{IsLegal}
use Rattle.script_lang.specs.declared.actor_script.ActorScript.{ActorScript}
use Rattle.script_lang.specs.Parts.{ScriptParts}
use Rattle.fabric.specs.Run.{Layout}
use Rattle.order_lines.specs.Fronts.{OrderedParts}
use Rattle.stage.specs.Plays.{IsSoFar}
use Rattle.stage.specs.Turns.{is_over, shape_of}
use Rattle.run_orders.specs.Laws.{IsFilled, makers_of}
use Rattle.run_orders.proofs.Orders.{orders_decide}
use Rattle.linx_commands.specs.Decided.{IsRunOrFront, JournalsAreDecided}
use Rattle.linx_commands.specs.Runs.{IsRunInOrder, IsStoppedBehind, IsStoppedFull, IsWholeBehind}
use Rattle.linx_commands.specs.Runs.{rounds_behind, seeded_order}
use Rattle.linx_commands.proofs.Shown.{text-makers}
use Rattle.orders.specs.Laws.{IsFilledInOrder, OrderDecides}
use Rattle.command_words.specs.declared.request.Asked.{Asked}
use Rattle.command_words.specs.declared.request.Asked.TheVariants.{InOrder}
use Rattle.command_words.specs.declared.request.TurnOrder.{TurnOrder}
use Rattle.command_words.specs.declared.request.TurnOrder.TheVariants.{Fixed, Seed}

-- ---- in the fixed order

-- two whole runs in the fixed order, behind the same makers, have one log
one-behind : OrderDecides → (front : List ℕ) (script : ScriptParts) (first second : Layout)
    → IsSoFar script first → IsSoFar script second → IsWholeBehind front script first
    → IsWholeBehind front script second → first.log ≡ second.log
one-behind law [] script first second so_far too whole other =
    orders_decide.ended script first second (record { so_far = so_far; whole = whole })
    (record { so_far = too; whole = other })
one-behind law (maker ∷ front) script first second so_far too whole other =
    law.one script so_far.declared (rounds_behind (maker ∷ front)) first second whole other

-- a run that a full journal stopped in the fixed order, behind these makers
record IsFilledBehind (front : List ℕ) (script : ScriptParts) (run : Layout) : Type 0 where
  so_far : IsSoFar script run
  stopped : IsStoppedBehind front script run
  full : is_full run.log.steps ≡ true
  due : is_over run ≡ false

-- where none comes first
filled : (script : ScriptParts) (run : Layout) → IsFilledBehind [] script run → IsFilled script run
filled script run is =
    record { so_far = is.so_far; stopped = is.stopped; full = is.full; due = is.due }

-- where some do
filled-behind : (maker : ℕ) (front : List ℕ) (script : ScriptParts) (run : Layout)
    → IsFilledBehind (maker ∷ front) script run
    → IsFilledInOrder script (rounds_behind (maker ∷ front)) run
filled-behind maker front script run is =
    record { so_far = is.so_far; stopped = is.stopped; full = is.full; due = is.due }

-- and two of these have one log
full-behind : OrderDecides → (front : List ℕ) (script : ScriptParts) (first second : Layout)
    → IsFilledBehind front script first → IsFilledBehind front script second
    → first.log ≡ second.log
full-behind law [] script first second is other =
    orders_decide.filled script first second (filled script first is) (filled script second other)
full-behind law (maker ∷ front) script first second is other =
    law.filled script (rounds_behind (maker ∷ front)) first second
    (filled-behind maker front script first is) (filled-behind maker front script second other)

-- and none is beside a whole one
apart-behind : OrderDecides → (front : List ℕ) (script : ScriptParts) (first second : Layout)
    → IsSoFar script first → IsWholeBehind front script first
    → IsFilledBehind front script second → ⊥
apart-behind law [] script first second so_far whole is =
    orders_decide.apart script first second (record { so_far = so_far; whole = whole })
    (filled script second is)
apart-behind law (maker ∷ front) script first second so_far whole is =
    law.apart script (rounds_behind (maker ∷ front)) first second so_far whole
    (filled-behind maker front script second is)

-- a run that a full journal stopped has so many steps
is-full : (asked : Asked) (ordered : OrderedParts) (log : Log) (is : IsStoppedFull asked ordered log)
    → is_full is.run.log.steps ≡ true
is-full asked ordered log is =
    subst (λ (l : Log). is_full l.steps ≡ true) (sym is.so_far.logged) is.full

fixed-filled : (ordered : OrderedParts) (log : Log)
    (is : IsStoppedFull (InOrder Fixed) ordered log)
    → IsFilledBehind ordered.front ordered.script is.run
fixed-filled ordered log is = record {
  so_far = is.so_far.so_far;
  stopped = is.order;
  full = is-full (InOrder Fixed) ordered log is;
  due = is.turn;
}

-- ---- in the order of a number

seed-filled : (n : ℕ) (ordered : OrderedParts) (log : Log)
    (is : IsStoppedFull (InOrder (Seed n)) ordered log)
    → IsFilledInOrder ordered.script (seeded_order ordered n) is.run
seed-filled n ordered log is = record {
  so_far = is.so_far.so_far;
  stopped = is.order;
  full = is-full (InOrder (Seed n)) ordered log is;
  due = is.turn;
}

-- ---- in either

-- the runs of two journals that are whole in one order have one log
one-whole : OrderDecides → (order : TurnOrder) (ordered : OrderedParts) (one two : Log)
    (first : IsRunInOrder order ordered one) (second : IsRunInOrder order ordered two)
    → first.run.log ≡ second.run.log
one-whole law Fixed ordered one two first second =
    one-behind law ordered.front ordered.script first.run second.run first.is.so_far.so_far
    second.is.so_far.so_far first.whole second.whole
one-whole law (Seed n) ordered one two first second =
    law.one ordered.script first.is.so_far.so_far.declared (seeded_order ordered n) first.run
    second.run first.whole second.whole

-- and so have those of two that were full before the end
one-full : OrderDecides → (order : TurnOrder) (ordered : OrderedParts) (one two : Log)
    (first : IsStoppedFull (InOrder order) ordered one)
    (second : IsStoppedFull (InOrder order) ordered two)
    → first.run.log ≡ second.run.log
one-full law Fixed ordered one two first second =
    full-behind law ordered.front ordered.script first.run second.run
    (fixed-filled ordered one first) (fixed-filled ordered two second)
one-full law (Seed n) ordered one two first second =
    law.filled ordered.script (seeded_order ordered n) first.run second.run
    (seed-filled n ordered one first) (seed-filled n ordered two second)

-- and no order has one of each kind
apart-in : OrderDecides → (order : TurnOrder) (ordered : OrderedParts) (one two : Log)
    → IsRunInOrder order ordered one → IsStoppedFull (InOrder order) ordered two → ⊥
apart-in law Fixed ordered one two first second =
    apart-behind law ordered.front ordered.script first.run second.run first.is.so_far.so_far
    first.whole (fixed-filled ordered two second)
apart-in law (Seed n) ordered one two first second =
    law.apart ordered.script (seeded_order ordered n) first.run second.run
    first.is.so_far.so_far first.whole (seed-filled n ordered two second)

of_run : (script : ScriptParts) (one two : Log) → IsRunOrFront script one
    → IsRunOrFront script two → makers_of one.steps ≡ makers_of two.steps → one ≡ two
of_run script one two first second makers =
    sym first.1.logged
    ∙ orders_decide.runs script first.0 second.0 first.1.so_far second.1.so_far
    (ap (λ (l : Log). makers_of l.steps) first.1.logged ∙ makers
    ∙ sym (ap (λ (l : Log). makers_of l.steps) second.1.logged))
    ∙ second.1.logged

-- the journal of a run so far is legal, its actors and links are few, and its names are names
record IsShown (script : ScriptParts) (log : Log) : Type 0 where
  names : log.names ≡ script.names
  plain : ArePlain log.names
  legal : IsLegal (shape_of script) log.steps
  actors : length (shape_of script).actors ≤ 64
  links : length (shape_of script).links ≤ 32

shown : (script : ScriptParts) (log : Log) → IsRunOrFront script log → IsShown script log
shown script log is =
    let so_far = is.1.so_far in
    let declared = so_far.declared in
    let names : log.names ≡ script.names =
    ap (λ (l : Log). l.names) (sym is.1.logged) ∙ so_far.names in
    let actors : length (shape_of script).actors ≡ length script.actors =
    length-map script.actors (λ (a : ActorScript). a.node) in
    let few : length script.actors ≤ 64 = declared.actors in
    let links : length script.names.links ≤ 32 = declared.links in
    let each : length script.links ≡ length script.names.links = declared.each_name in
    record {
      names = names;
      plain = subst ArePlain (sym names)
          (record { nodes = declared.named_nodes; links = declared.named_links });
      legal = subst (λ (l : Log). IsLegal (shape_of script) l.steps) is.1.logged so_far.legal;
      actors = omega (arith, actors, few);
      links = omega (arith, links, each);
    }

of_text : (script : ScriptParts) (one two : Log) → IsRunOrFront script one
    → IsRunOrFront script two → text_of one ≡ text_of two → one ≡ two
of_text script one two first second same =
    let left = shown script one first in
    let right = shown script two second in
    of_run script one two first second
    (text-makers (shape_of script) left.actors left.links one two
    (left.names ∙ sym right.names) left.plain left.legal right.legal same)

-- by the law of whoever chooses whose turn is next
pub journals_are_decided : OrderDecides → JournalsAreDecided
journals_are_decided law = record {
  run = of_run;
  text = of_text;
  in_order = λ order ordered one two first second. sym first.is.so_far.logged
      ∙ one-whole law order ordered one two first second ∙ second.is.so_far.logged;
  full = λ order ordered one two first second. sym first.so_far.logged
      ∙ one-full law order ordered one two first second ∙ second.so_far.logged;
  apart = apart-in law;
}
