-- A step from some trunks to others is one between trunks that are the same.
use Rattle.std.proofs.Common.{◌≡◌, ◌<◌, ℕ, Bool, true, false, cond, List, Option, Some, None, refl, sym}
use Rattle.std.proofs.Common.{◌∙◌, ap, subst, ◌==◌, ◌+◌, length}
use Rattle.linx_base.specs.Sides.{other_of}
use Rattle.linx_base.specs.declared.frame.Verdict.{Verdict}
use Rattle.linx_base.specs.declared.identity.Inc.{Inc}
use Rattle.linx_base.specs.declared.identity.LinkNo.{LinkNo}
use Rattle.linx_base.specs.declared.identity.Peer.{Peer}
use Rattle.linx_base.specs.declared.identity.Peer.TheVariants.{Here, There}
use Rattle.linx_base.specs.declared.identity.Side.{Side}
use Rattle.linx_base.specs.declared.name.Path.{Path}
use Rattle.linx_base.specs.declared.name.Path.TheVariants.{Local, Over}
use Rattle.linx_base.specs.SigNotes.{SigNote}
use Rattle.carrier.specs.Events.{flight_from}
use Rattle.journal.specs.History.{endpoint_by, name_of, next_inc, opened_on}
use Rattle.journal.specs.Living.{find}
use Rattle.journal.specs.Shapes.{Shape, node_by}
use Rattle.journal.specs.declared.effect.Effect.{Effect}
use Rattle.journal.specs.declared.effect.Step.{Step}
use Rattle.journal.specs.declared.head.Head.{Head}
use Rattle.journal.specs.declared.head.Head.TheVariants.{Close, Ended, Hunt, Open, Restart, Send}
use Rattle.journal.specs.declared.head.Head.TheVariants.{TakeNone, Tick, Wire}
use Rattle.journal.specs.declared.head.SentTo.{SentTo}
use Rattle.journal.specs.declared.head.SentTo.TheVariants.{Dead, Link, Queued}
use Rattle.link_laws.specs.Ends.{node_at}
use Rattle.link_laws.specs.Sessions.{boots}
use Rattle.trunk.specs.Events.{TrunkState, asked_at, closed_at, opened_at, restarted_at, sent_at}
use Rattle.trunk_moves.specs.Packets.{IsBeat, Meets}
use Rattle.trunk_moves.specs.Steps.{HuntMakes, IsTrunkStep, Makes, NoneMakes, PacketMakes, Rests}
use Rattle.trunk_moves.specs.Steps.{SendMakes, TickMakes, trunks_ending}
use Rattle.trunk_moves.specs.Trunks.{Become, RunTrunks, all_do, does, side_on, with_trunk}

module _ (shape : Shape) (P : List Step) (old before new after : RunTrunks)
    (was : Become shape before old) (is : Become shape after new) where
  stays : Become shape new old → Become shape after before
  stays made l of_shape = is l of_shape ∙ made l of_shape ∙ sym (was l of_shape)

  all_does : (n : ℕ) (act : Side → TrunkState → TrunkState)
      → Become shape new (all_do shape n act old) → Become shape after (all_do shape n act before)
  all_does n act made l of_shape =
      is l of_shape ∙ made l of_shape ∙ ap (does (side_on shape n l) act) (sym (was l of_shape))

  one_is : (l : LinkNo) (t u : TrunkState) → t ≡ u → Become shape new (with_trunk old l.0 t)
      → Become shape after (with_trunk before l.0 u)
  one_is l t u same made h of_shape = is h of_shape ∙ made h of_shape ∙ both (h.0 == l.0)
    where
      both : (b : Bool) → cond b t (old h.0) ≡ cond b u (before h.0)
      both true = same
      both false = sym (was h of_shape)

  ending : (n : ℕ) (me : Option Inc) → Become shape new (trunks_ending shape n me old)
      → Become shape after (trunks_ending shape n me before)
  ending n None made = stays made
  ending n (Some j) made = all_does n (λ side. closed_at side j) made

  sends : (n : ℕ) (me : Option Inc) (q : Peer) (note : SigNote) (answer : SentTo)
      → SendMakes shape P old new n me q note answer
      → SendMakes shape P before after n me q note answer
  sends n None q note answer made = stays made
  sends n (Some j) (Here i) note answer made = stays made
  sends n (Some j) (There l x b) note Queued made = stays made
  sends n (Some j) (There l x b) note Dead made = stays made
  sends n (Some j) (There l x b) note Link made = record {
    at = made.at;
    of_shape = made.of_shape;
    node = made.node;
    is_signal = made.is_signal;
    makes = one_is l (sent_at made.at j (name_of P j) b note (old l.0))
        (sent_at made.at j (name_of P j) b note (before l.0))
        (ap (sent_at made.at j (name_of P j) b note) (sym (was l made.of_shape))) made.makes;
  }

  hunts : (n : ℕ) (path : Path) (found : Option Peer) → HuntMakes shape old new n path found
      → HuntMakes shape before after n path found
  hunts n (Local v) found made = stays made
  hunts n (Over l v) (Some q) made = stays made
  hunts n (Over l v) None made = record {
    at = made.at;
    of_shape = made.of_shape;
    node = made.node;
    makes = one_is l (asked_at made.at v (old l.0)) (asked_at made.at v (before l.0))
        (ap (asked_at made.at v) (sym (was l made.of_shape))) made.makes;
  }

  passes : (l : LinkNo) (from : Side) (verdict : Verdict) (es : List Effect)
      → PacketMakes shape P old new l from verdict es
      → PacketMakes shape P before after l from verdict es
  passes l from verdict es made =
      let same : old l.0 ≡ before l.0 = sym (was l made.of_shape) in
      record {
        of_shape = made.of_shape;
        flies = subst (λ (t : TrunkState). 0 < length (flight_from from t.link)) same made.flies;
        cuts = made.cuts;
        trunk = made.trunk;
        meets = subst (λ (t : TrunkState).
            Meets P (node_at shape l (other_of from)) l from verdict es t made.trunk) same
            made.meets;
        makes = one_is l made.trunk made.trunk refl made.makes;
      }

  ticks : (l : LinkNo) (side : Side) (es : List Effect) → TickMakes shape P old new l side es
      → TickMakes shape P before after l side es
  ticks l side es made =
      let same : old l.0 ≡ before l.0 = sym (was l made.of_shape) in
      record {
        of_shape = made.of_shape;
        trunk = made.trunk;
        beat = subst (λ (t : TrunkState). IsBeat P (node_at shape l side) l side es t made.trunk)
            same made.beat;
        makes = one_is l made.trunk made.trunk refl made.makes;
      }

  rests : NoneMakes shape P old new → NoneMakes shape P before after
  rests made = record {
    resting = λ l of_shape. subst (Rests P l) (sym (was l of_shape)) (made.resting l of_shape);
    makes = stays made.makes;
  }

  makes_as : (n : ℕ) (me : Option Inc) (head : Head) (es : List Effect)
      → Makes shape P old new n me head es → Makes shape P before after n me head es
  makes_as n me (Open name) es made =
      all_does n (λ side. opened_at side (next_inc n (opened_on P n)) name) made
  makes_as n me Close es made = ending n me made
  makes_as n me (Send q note answer) es made = sends n me q note answer made
  makes_as n me (TakeNone filter) es made = rests made
  makes_as n me (Hunt path note) es made = hunts n path (find P n path) made
  makes_as n me (Restart k) es made =
      all_does k.0 (λ side. restarted_at side (2 + boots P k.0)) made
  makes_as n me (Wire l from verdict) es made = passes l from verdict es made
  makes_as n me (Tick l side) es made = ticks l side es made
  makes_as n me Ended es made = ending n me made
  makes_as n me head es made = stays made

  -- A STEP BETWEEN TRUNKS THAT ARE THE SAME
  pub step_as : (s : Step) → IsTrunkStep shape P old s new → IsTrunkStep shape P before s after
  step_as s step = record {
    laws = step.laws;
    makes = makes_as (node_by shape s.by) (endpoint_by P s.by) s.head s.effects step.makes;
  }
