-- A step makes the same of the same trunks, whatever it is.
use Rattle.std.proofs.Common.{◌≡◌, ℕ, Bool, true, false, cond, List, Option, Some, None, refl, sym}
use Rattle.std.proofs.Common.{◌∙◌, ap, subst, ◌==◌, ◌+◌, eq-eqb, true≢false}
use Rattle.linx_base.specs.Sides.{other_of}
use Rattle.linx_base.specs.declared.frame.Verdict.{Verdict}
use Rattle.linx_base.specs.declared.frame.Verdict.TheVariants.{Deliver, Lose, Repeat, Swap}
use Rattle.linx_base.specs.declared.identity.Inc.{Inc}
use Rattle.linx_base.specs.declared.identity.LinkNo.{LinkNo}
use Rattle.linx_base.specs.declared.identity.Peer.{Peer}
use Rattle.linx_base.specs.declared.identity.Peer.TheVariants.{There}
use Rattle.linx_base.specs.declared.identity.Side.{Side}
use Rattle.linx_base.specs.declared.identity.Side.TheVariants.{First, Second}
use Rattle.linx_base.specs.declared.name.Path.{Path}
use Rattle.linx_base.specs.declared.name.Path.TheVariants.{Local, Over}
use Rattle.linx_base.specs.SigNotes.{SigNote}
use Rattle.carrier.specs.Events.{handed_by}
use Rattle.carrier.specs.Events as links
use Rattle.carrier.specs.declared.handed.Handed.{Handed}
use Rattle.carrier.specs.declared.handed.Handed.TheVariants as handed
use Rattle.rlnh_end.specs.Hearing.{hears}
use Rattle.rlnh_end.specs.States.{RlnhTables}
use Rattle.rlnh_end.specs.declared.heard.Heard.{Heard}
use Rattle.journal.specs.History.{name_of, next_inc, opened_on}
use Rattle.journal.specs.Living.{find}
use Rattle.journal.specs.Shapes.{Shape}
use Rattle.journal.specs.declared.effect.Effect.{Effect}
use Rattle.journal.specs.declared.effect.Step.{Step}
use Rattle.journal.specs.declared.head.Head.{Head}
use Rattle.journal.specs.declared.head.Head.TheVariants.{Close, Ended, Hunt, Open, Restart, Send}
use Rattle.journal.specs.declared.head.Head.TheVariants.{TakeNone, Tick, Wire}
use Rattle.journal.specs.declared.head.SentTo.{SentTo}
use Rattle.journal.specs.declared.head.SentTo.TheVariants.{Link}
use Rattle.link_laws.specs.Ends.{HasTwoEnds, IsLinkOf, node_at}
use Rattle.link_laws.specs.Sessions.{boots}
use Rattle.trunk.specs.Events.{IsReading, TrunkState, asked_at, closed_at, delivered, near_heard}
use Rattle.trunk.specs.Events.{near_took, opened_at, restarted_at, sent_at, tables_of, ticked_at}
use Rattle.trunk.specs.Events.{told_by, told_of, told_up, turned, with_link}
use Rattle.trunk.specs.declared.up.TrunkUp.{TrunkUp}
use Rattle.trunk.proofs.Messages.Reading.{reads_once}
use Rattle.trunk_moves.specs.Packets.{Comes, Meets, answered}
use Rattle.trunk_moves.specs.Steps.{HuntMakes, Makes, PacketMakes, SendMakes, TickMakes}
use Rattle.trunk_moves.specs.Steps.{trunks_ending}
use Rattle.trunk_moves.specs.Trunks.{Become, RunTrunks, all_do, does, side_on, with_trunk}

-- ---- a packet has one reading

pub told_once : (t : RlnhTables) (h g : Heard) (x : Handed) → IsReading x h → IsReading x g
    → told_of t h x ≡ told_of t g x
told_once t h g handed.Nothing r q = refl
told_once t h g (handed.WentUp session peer) r q = refl
told_once t h g (handed.WentDown session) r q = refl
told_once t h g (handed.Got m) r q =
    ap (λ (k : Heard). told_up (hears t k).up) (reads_once m h g r q)

took_once : (t : TrunkState) (h g : Heard) (x : Handed) → IsReading x h → IsReading x g
    → near_took t h x ≡ near_took t g x
took_once t h g handed.Nothing r q = refl
took_once t h g (handed.WentUp session peer) r q = refl
took_once t h g (handed.WentDown session) r q = refl
took_once t h g (handed.Got m) r q = ap (near_heard t) (reads_once m h g r q)

module _ (keep : Bool) (h g : Heard) (t : TrunkState) where
  delivered_once : (from : Side) → IsReading (handed_by from 0 t.link) h
      → IsReading (handed_by from 0 t.link) g
      → delivered from 0 keep h t ≡ delivered from 0 keep g t
  delivered_once First r q =
      ap turned (took_once (with_link (turned t) (links.near_delivered (turned t).link 0 keep)) h g
      (handed_by First 0 t.link) r q)
  delivered_once Second r q =
      took_once (with_link t (links.near_delivered t.link 0 keep)) h g (handed_by Second 0 t.link)
      r q

-- ---- what a verdict makes of a trunk

module _ (P : List Step) (n : ℕ) (l : LinkNo) (from : Side) (es : List Effect) where
  abbrev to : Side
  to = other_of from

  comes_once : (keep : Bool) (t u v : TrunkState) → Comes P n l from keep es t u
      → Comes P n l from keep es t v → u ≡ v
  comes_once keep t u v one two =
      one.makes
      ∙ ap (λ (up : TrunkUp). answered P n l to up (delivered from 0 keep one.heard t))
      (told_once (tables_of to t) one.heard two.heard (handed_by from 0 t.link) one.reading
      two.reading)
      ∙ ap (answered P n l to (told_by from 0 two.heard t))
      (delivered_once keep one.heard two.heard t from one.reading two.reading)
      ∙ sym two.makes

  pub meets_once : (verdict : Verdict) (t u v : TrunkState) → Meets P n l from verdict es t u
      → Meets P n l from verdict es t v → u ≡ v
  meets_once Deliver t u v one two = comes_once false t u v one two
  meets_once Repeat t u v one two = comes_once true t u v one two
  meets_once Lose t u v one two = one.makes ∙ sym two.makes
  meets_once (Swap k) t u v one two = one.makes ∙ sym two.makes

-- ---- the same of the same trunks

-- a node has at most one side of a link
one_side : (shape : Shape) → HasTwoEnds shape → (l : LinkNo) → IsLinkOf shape l → (a b : Side)
    → node_at shape l a ≡ node_at shape l b → a ≡ b
one_side shape ends l of_shape First First is = refl
one_side shape ends l of_shape First Second is =
    absurd (true≢false (sym (eq-eqb (node_at shape l First) (node_at shape l Second) is)
    ∙ ends l of_shape First))
one_side shape ends l of_shape Second First is =
    absurd (true≢false (sym (eq-eqb (node_at shape l Second) (node_at shape l First) is)
    ∙ ends l of_shape Second))
one_side shape ends l of_shape Second Second is = refl

module _ (shape : Shape) (ends : HasTwoEnds shape) (P : List Step)
    (before_one before_two after_one after_two : RunTrunks)
    (same : Become shape before_one before_two) where
  stays_same : Become shape after_one before_one → Become shape after_two before_two
      → Become shape after_one after_two
  stays_same one two l of_shape = one l of_shape ∙ same l of_shape ∙ sym (two l of_shape)

  all_same : (n : ℕ) (act : Side → TrunkState → TrunkState)
      → Become shape after_one (all_do shape n act before_one)
      → Become shape after_two (all_do shape n act before_two) → Become shape after_one after_two
  all_same n act one two l of_shape =
      one l of_shape ∙ ap (does (side_on shape n l) act) (same l of_shape) ∙ sym (two l of_shape)

  one_same : (l : LinkNo) (t u : TrunkState) → t ≡ u
      → Become shape after_one (with_trunk before_one l.0 t)
      → Become shape after_two (with_trunk before_two l.0 u) → Become shape after_one after_two
  one_same l t u is one two h of_shape = one h of_shape ∙ both (h.0 == l.0) ∙ sym (two h of_shape)
    where
      both : (b : Bool) → cond b t (before_one h.0) ≡ cond b u (before_two h.0)
      both true = is
      both false = same h of_shape

  ending_same : (n : ℕ) (me : Option Inc)
      → Become shape after_one (trunks_ending shape n me before_one)
      → Become shape after_two (trunks_ending shape n me before_two)
      → Become shape after_one after_two
  ending_same n None one two = stays_same one two
  ending_same n (Some j) one two = all_same n (λ side. closed_at side j) one two

  sends_same : (n : ℕ) (me : Option Inc) (q : Peer) (note : SigNote) (answer : SentTo)
      → SendMakes shape P before_one after_one n me q note answer
      → SendMakes shape P before_two after_two n me q note answer → Become shape after_one after_two
  sends_same n (Some j) (There l x b) note Link one two =
      let at = one_side shape ends l one.of_shape one.at two.at (one.node ∙ sym two.node) in
      one_same l _ _
      (ap (λ (side : Side). sent_at side j (name_of P j) b note (before_one l.0)) at
      ∙ ap (sent_at two.at j (name_of P j) b note) (same l one.of_shape)) one.makes two.makes
  sends_same n _ _ note _ one two = stays_same one two

  hunts_same : (n : ℕ) (path : Path) (found : Option Peer)
      → HuntMakes shape before_one after_one n path found
      → HuntMakes shape before_two after_two n path found → Become shape after_one after_two
  hunts_same n (Local v) found one two = stays_same one two
  hunts_same n (Over l v) (Some q) one two = stays_same one two
  hunts_same n (Over l v) None one two =
      let at = one_side shape ends l one.of_shape one.at two.at (one.node ∙ sym two.node) in
      one_same l _ _
      (ap (λ (side : Side). asked_at side v (before_one l.0)) at
      ∙ ap (asked_at two.at v) (same l one.of_shape)) one.makes two.makes

  passes_same : (l : LinkNo) (from : Side) (verdict : Verdict) (es : List Effect)
      → PacketMakes shape P before_one after_one l from verdict es
      → PacketMakes shape P before_two after_two l from verdict es → Become shape after_one after_two
  passes_same l from verdict es one two =
      let n : ℕ = node_at shape l (other_of from) in
      one_same l one.trunk two.trunk
      (meets_once P n l from es verdict (before_one l.0) one.trunk two.trunk one.meets
      (subst (λ (t : TrunkState). Meets P n l from verdict es t two.trunk)
      (sym (same l one.of_shape)) two.meets)) one.makes two.makes

  ticks_same : (l : LinkNo) (side : Side) (es : List Effect)
      → TickMakes shape P before_one after_one l side es
      → TickMakes shape P before_two after_two l side es → Become shape after_one after_two
  ticks_same l side es one two =
      one_same l one.trunk two.trunk
      (one.beat.makes ∙ ap (ticked_at side) (same l one.of_shape) ∙ sym two.beat.makes)
      one.makes two.makes

  pub makes_same : (n : ℕ) (me : Option Inc) (head : Head) (es : List Effect)
      → Makes shape P before_one after_one n me head es
      → Makes shape P before_two after_two n me head es → Become shape after_one after_two
  makes_same n me (Open name) es one two =
      all_same n (λ side. opened_at side (next_inc n (opened_on P n)) name) one two
  makes_same n me Close es one two = ending_same n me one two
  makes_same n me (Send q note answer) es one two = sends_same n me q note answer one two
  makes_same n me (TakeNone filter) es one two = stays_same one.makes two.makes
  makes_same n me (Hunt path note) es one two = hunts_same n path (find P n path) one two
  makes_same n me (Restart k) es one two =
      all_same k.0 (λ side. restarted_at side (2 + boots P k.0)) one two
  makes_same n me (Wire l from verdict) es one two = passes_same l from verdict es one two
  makes_same n me (Tick l side) es one two = ticks_same l side es one two
  makes_same n me Ended es one two = ending_same n me one two
  makes_same n me head es one two = stays_same one two
