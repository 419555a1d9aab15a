-- While a link isn't cut a step of its settling can be made: a packet in flight may come, and a
-- side may tick; and a run goes on by such a step.
use Rattle.std.proofs.Common.{◌≡◌, ◌<◌, ℕ, Bool, true, false, List, ◌∷◌, length, refl, arith}
use Rattle.std.proofs.Common.{nat_le, ◌==◌, ◌||◌, eq-eqb}
use Rattle.linx_base.specs.Sides.{other_of}
use Rattle.linx_base.specs.declared.frame.Verdict.TheVariants.{Deliver}
use Rattle.linx_base.specs.declared.identity.LinkNo.{LinkNo}
use Rattle.linx_base.specs.declared.identity.Side.{Side}
use Rattle.journal.specs.Logs.{is_full, signal_bytes_of, step_limit, byte_limit}
use Rattle.journal.specs.Shapes.{Shape}
use Rattle.journal.specs.declared.by.By.TheVariants.{Pump}
use Rattle.journal.specs.declared.effect.Effect.{Effect}
use Rattle.journal.specs.declared.effect.Step.{Step}
use Rattle.journal.specs.declared.head.Head.{Head}
use Rattle.journal.specs.declared.head.Head.TheVariants.{Tick, Wire}
use Rattle.link_laws.specs.Ends.{IsLinkOf, node_at}
use Rattle.link_laws.specs.Sessions.{is_cut}
use Rattle.carrier.specs.Events.{flight_from, handed_by, link_told_by}
use Rattle.carrier.specs.declared.handed.Handed.{Handed}
use Rattle.carrier.specs.declared.handed.Handed.TheVariants as handed
use Rattle.rlnh_end.specs.declared.heard.Heard.{Heard}
use Rattle.rlnh_end.specs.declared.heard.Heard.TheVariants.{Garbage}
use Rattle.trunk.specs.Events.{IsReading, TrunkState, delivered, ticked_at, told_by}
use Rattle.trunk.specs.Keeping.{KeepsTrunk}
use Rattle.trunk.specs.Tells.{up_of_tick}
use Rattle.trunk.proofs.EachEvent.Trunks.{understood}
use Rattle.trunk_moves.specs.Packets.{answered, told_at}
use Rattle.trunk_moves.specs.Steps.{IsBoundedTrunkRun}
use Rattle.trunk_moves.specs.Trunks.{RunTrunks, with_trunk}
use Rattle.trunk_moves.proofs.Runs.{trunk_runs_are_runs}
use Rattle.run_settling.specs.Laws.{RunGoesOn}
use Rattle.run_settling.specs.Resting.{IsMadeAs}

-- a step of this head can be made
pub record CanMake (shape : Shape) (P : List Step) (before : RunTrunks) (head : Head) : Type 0 where
  pub step : Step
  pub after : RunTrunks
  pub made : IsMadeAs shape P before step after head

-- ---- what is handed up has a reading

pub reading : (from : Side) (t : TrunkState) → KeepsTrunk t → (told : Handed)
    → handed_by from 0 t.link ≡ told → (heard : Heard) × IsReading told heard
reading from t kt handed.Nothing is = (Garbage, tt)
reading from t kt (handed.WentUp session peer) is = (Garbage, tt)
reading from t kt (handed.WentDown session) is = (Garbage, tt)
reading from t kt (handed.Got m) is =
    let known = understood from 0 m t kt is in (known.heard, known.read)

module _ (shape : Shape) (P : List Step) (before : RunTrunks)
    (whole : IsBoundedTrunkRun shape P before) (room : is_full P ≡ false) (l : LinkNo)
    (of_shape : IsLinkOf shape l) where
  abbrev step_of : Head → List Effect → Step
  step_of head es = record { by = Pump l; head = head; effects = es }

  itself : (l.0 == l.0) ≡ true
  itself = eq-eqb l.0 l.0 refl

  pub can_come : (from : Side) → is_cut P l.0 ≡ false
      → 0 < length (flight_from from (before l.0).link) → CanMake shape P before (Wire l from Deliver)
  can_come from uncut flies =
      let t : TrunkState = before l.0 in
      let kept = (trunk_runs_are_runs shape P before whole).kept l of_shape in
      let read = reading from t kept (handed_by from 0 t.link) refl in
      let n : ℕ = node_at shape l (other_of from) in
      let es : List Effect = told_at P n l (other_of from) t (told_by from 0 read.0 t) in
      let u : TrunkState =
      answered P n l (other_of from) (told_by from 0 read.0 t) (delivered from 0 false read.0 t) in
      record {
        step = step_of (Wire l from Deliver) es;
        after = with_trunk before l.0 u;
        made =
            record {
              room = room;
              step =
                  record {
                    laws =
                        record {
                          makers = record { maker = of_shape; may = itself };
                          endpoints =
                              record {
                                opens = λ no. absurd (grind arith);
                                needs = λ no. absurd (grind arith);
                              };
                          bounds = tt;
                          effects = tt;
                          sends = tt;
                          receives = tt;
                          links = of_shape;
                        };
                    makes =
                        record {
                          of_shape = of_shape;
                          flies = flies;
                          cuts = λ cut. absurd (grind arith);
                          trunk = u;
                          meets =
                              record {
                                heard = read.0;
                                reading = read.1;
                                effects = refl;
                                makes = refl;
                              };
                          makes = λ m there. refl;
                        };
                  };
              is = refl;
            };
      }

  pub can_tick : (side : Side) → CanMake shape P before (Tick l side)
  can_tick side =
      let t : TrunkState = before l.0 in
      let n : ℕ = node_at shape l side in
      let es : List Effect = told_at P n l side t (up_of_tick (link_told_by side t.link)) in
      record {
        step = step_of (Tick l side) es;
        after = with_trunk before l.0 (ticked_at side t);
        made =
            record {
              room = room;
              step =
                  record {
                    laws =
                        record {
                          makers = record { maker = of_shape; may = itself };
                          endpoints =
                              record {
                                opens = λ no. absurd (grind arith);
                                needs = λ no. absurd (grind arith);
                              };
                          bounds = tt;
                          effects = tt;
                          sends = tt;
                          receives = tt;
                          links = of_shape;
                        };
                    makes =
                        record {
                          of_shape = of_shape;
                          trunk = ticked_at side t;
                          beat = record { effects = refl; makes = refl };
                          makes = λ m there. refl;
                        };
                  };
              is = refl;
            };
      }

-- ---- a run goes on

has_room : (P : List Step) → is_full P ≡ false → length P < step_limit
has_room P room = by_bytes (nat_le byte_limit (signal_bytes_of P)) room
  where
    by_bytes : (full : Bool) → (nat_le step_limit (length P) || full) ≡ false
        → length P < step_limit
    by_bytes full free = grind arith

module _ (shape : Shape) (P : List Step) (before : RunTrunks) (s : Step) (after : RunTrunks)
    (head : Head) (whole : IsBoundedTrunkRun shape P before)
    (made : IsMadeAs shape P before s after head) where
  pub goes_on : RunGoesOn shape P before s after
  goes_on = record { run = whole; room = has_room P made.room; step = made.step }

  pub still_bounded : IsBoundedTrunkRun shape (s ∷ P) after
  still_bounded =
      let less = has_room P made.room in
      record {
        two_ends = whole.two_ends;
        nodes = whole.nodes;
        fits = omega arith;
        run = (before, (whole.run, made.step));
      }
