-- A RUN TAKES FEW NUMBERS: each of its steps offers two messages at most at a side, but where a side
-- goes up, which had offered nothing: there it asks for as many names as hunts are pending.
use Rattle.std.proofs.Common.{◌≡◌, ◌≤◌, ◌<◌, ◌+◌, ◌*◌, ℕ, suc, Bool, true, false, List, []}
use Rattle.std.proofs.Common.{◌∷◌, Option, Some, None, length, arith, refl, sym, ◌∙◌, ap, subst}
use Rattle.linx_base.specs.Numbers.{boot_of, count_of}
use Rattle.linx_base.specs.Sides.{other_of}
use Rattle.linx_base.specs.declared.frame.Verdict.{Verdict}
use Rattle.linx_base.specs.declared.frame.Verdict.TheVariants.{Deliver, Lose, Repeat, Swap}
use Rattle.linx_base.specs.declared.identity.Inc.{Inc}
use Rattle.linx_base.specs.declared.identity.LinkNo.{LinkNo}
use Rattle.linx_base.specs.declared.identity.Peer.{Peer}
use Rattle.linx_base.specs.declared.identity.Peer.TheVariants.{There}
use Rattle.linx_base.specs.declared.identity.Session.{Session}
use Rattle.linx_base.specs.declared.identity.Side.{Side}
use Rattle.linx_base.specs.declared.identity.Side.TheVariants.{First, Second}
use Rattle.linx_base.specs.declared.name.Path.{Path}
use Rattle.linx_base.specs.declared.name.Path.TheVariants.{Local, Over}
use Rattle.linx_base.specs.SigNotes.{SigNote}
use Rattle.rlnh_end.specs.declared.heard.Heard.{Heard}
use Rattle.rlnh_end.specs.Calls.{query_of}
use Rattle.carrier.specs.Events.{flight_from, half_of, handed_by}
use Rattle.journal.specs.History.{endpoint_by, name_of, next_inc, opened_on}
use Rattle.journal.specs.Living.{find, holder_of}
use Rattle.journal.specs.Logs.{step_limit}
use Rattle.journal.specs.Shapes.{Shape, node_by}
use Rattle.journal.specs.declared.effect.Effect.{Effect}
use Rattle.journal.specs.declared.effect.Step.{Step}
use Rattle.journal.specs.declared.head.Head.{Head}
use Rattle.journal.specs.declared.head.Head.TheVariants.{Close, Ended, Hunt, Open, Restart, Send}
use Rattle.journal.specs.declared.head.Head.TheVariants.{TakeNone, Tick, Wire}
use Rattle.journal.specs.declared.head.SentTo.{SentTo}
use Rattle.journal.specs.declared.head.SentTo.TheVariants.{Link}
use Rattle.link_laws.proofs.Moves.Restarts.{few-boots, few-downs}
use Rattle.link_laws.specs.Ends.{HasTwoEnds, IsLinkOf, node_at}
use Rattle.link_laws.specs.Sessions.{boots, own_session}
use Rattle.trunk.specs.declared.up.TrunkUp.{TrunkUp}
use Rattle.trunk.specs.declared.up.TrunkUp.TheVariants.{WentUp}
use Rattle.trunk.specs.declared.up.TrunkUp.TheVariants.{Asked}
use Rattle.trunk.specs.Events.{HasNumbersLeft, IsReading, TrunkState, asked_at, closed_at}
use Rattle.trunk.specs.Events.{delivered, new_trunk, opened_at, restarted_at, sent_at, told_by}
use Rattle.trunk.specs.Keeping.{KeepsTrunk}
use Rattle.trunk.proofs.EachEvent.BothSides.{events_keep}
use Rattle.trunk.proofs.EachEvent.Trunks.{agree}
use Rattle.trunk_moves.specs.Grants.{AreNames}
use Rattle.trunk_moves.specs.Packets.{Comes, Meets, answered, asks_for, names_hunted}
use Rattle.trunk_moves.specs.Packets.{place_of, publishes_if}
use Rattle.trunk_moves.specs.Steps.{HuntMakes, IsBoundedTrunkRun, IsTrunkRun, Makes, SendMakes}
use Rattle.trunk_moves.specs.Steps.{trunks_ending}
use Rattle.trunk_moves.specs.Trunks.{AllKept, Become, RunTrunks, all_do, with_trunk}
use Rattle.trunk_moves.proofs.Facts.{own_boot}
use Rattle.trunk_moves.proofs.Runs.{trunk_runs_are_runs, trunk_runs_grant, trunk_runs_keep_all}
use Rattle.trunk_moves.proofs.Sides.{each_trunk, one_trunk, trunks_stay}
use Rattle.run_numbers.specs.Laws.{GrantsNumbers, GrantsNumbersThen, RunsHaveNumbers, RunsTakeFew}
use Rattle.run_numbers.specs.Laws.{HasNumbersToAsk}
use Rattle.run_numbers.proofs.Frames.{frames_are_numbered}
use Rattle.run_numbers.proofs.Hunts.{few_names}
use Rattle.run_numbers.proofs.Offers.{HasSaidAll, OffersUpTo, asked_offers, by_sides, closed_offers}
use Rattle.run_numbers.proofs.Offers.{offers, opened_offers, published_offers, said_offers}
use Rattle.run_numbers.proofs.Offers.{sent_offers}
use Rattle.run_numbers.proofs.Packets.{asks_few, asks_stay, delivered_few}
use Rattle.run_numbers.proofs.Packets.{delivered_stays, lost_offers, restarted_offers}
use Rattle.run_numbers.proofs.Packets.{swapped_offers, ticked_offers, up_offers}

-- every side of every link has offered no more than so many messages in its session
abbrev AllOffer : Shape → ℕ → RunTrunks → Type 0
AllOffer shape n trunks = (l : LinkNo) → IsLinkOf shape l → OffersUpTo n (trunks l.0)

-- ---- a packet that comes, with what its node does then

module _ (P : List Step) (n : ℕ) (l : LinkNo) (from : Side) (keep : Bool) (reading : Heard)
    (t : TrunkState) (kept : KeepsTrunk t) (read : IsReading (handed_by from 0 t.link) reading)
    (was : OffersUpTo (2 * length P) t) where
  abbrev to : Side
  to = other_of from

  abbrev v : TrunkState
  v = delivered from 0 keep reading t

  v_kept : KeepsTrunk v
  v_kept = events_keep.delivered from 0 keep reading t read kept

  pub v_said : HasSaidAll to v
  v_said = (agree to v v_kept).out

  pub v_few : (k : ℕ) → offers to t ≤ k → offers to v ≤ k + 1
  v_few k few = delivered_few from 0 keep reading t k (agree to t kept).out few

  -- on both sides
  v_both : OffersUpTo (2 * length P + 1) v
  v_both = by_sides from (λ side. offers side v ≤ 2 * length P + 1)
      (omega (arith, was from, delivered_stays from 0 keep reading t))
      (v_few (2 * length P) (was to))

  more_both : OffersUpTo (2 * suc (length P)) v
  more_both side = omega (arith, v_both side)

  asked_both : offers to t ≤ 0
      → OffersUpTo (2 * suc (length P)) (asks_for to (names_hunted P n l) v)
  asked_both none =
      by_sides to (λ side. offers side (asks_for to (names_hunted P n l) v) ≤ 2 * suc (length P))
      (omega (
        arith,
        asks_few to (names_hunted P n l) v 1 v_said (v_few 0 none),
        few_names P n l,
      ))
      (omega (arith, asks_stay to (names_hunted P n l) v, v_both (other_of to)))

  published_both : (name : List ℕ) (holder : Option Inc)
      → OffersUpTo (2 * suc (length P)) (publishes_if to name holder v)
  published_both name None side = more_both side
  published_both name (Some i) side =
      omega (arith, published_offers to v (2 * length P + 1) v_said v_both i name side)

  answered_both : (up : TrunkUp) → ((x y : Session) → up ≡ WentUp x y → offers to t ≤ 0)
      → OffersUpTo (2 * suc (length P)) (answered P n l to up v)
  answered_both (WentUp session peer) none = asked_both (none session peer refl)
  answered_both (Asked name) none = published_both name (holder_of P n name)
  answered_both _ none = more_both

  pub comes_few : OffersUpTo (2 * suc (length P)) (answered P n l to (told_by from 0 reading t) v)
  comes_few = answered_both (told_by from 0 reading t) (up_offers from keep reading t kept read)

-- ---- a step

module _ (shape : Shape) (two : HasTwoEnds shape) (P : List Step) (before after : RunTrunks)
    (kept : AllKept shape before) (was : AllOffer shape (2 * length P) before) where
  abbrev More : LinkNo → TrunkState → Type 0
  More l t = OffersUpTo (2 * suc (length P)) t

  none_said : (l : LinkNo) → IsLinkOf shape l → (at : Side) → HasSaidAll at (before l.0)
  none_said l of_shape at = (agree at (before l.0) (kept l of_shape)).out

  more : (l : LinkNo) → IsLinkOf shape l → More l (before l.0)
  more l of_shape side = omega (arith, was l of_shape side)

  stays : Become shape after before → AllOffer shape (2 * suc (length P)) after
  stays made = trunks_stay shape before after made More more

  all : (n : ℕ) (act : Side → TrunkState → TrunkState)
      → Become shape after (all_do shape n act before)
      → ((l : LinkNo) → IsLinkOf shape l → (at : Side) → More l (act at (before l.0)))
      → AllOffer shape (2 * suc (length P)) after
  all n act made doing =
      each_trunk shape two n act before after made More (λ l of_shape at on. doing l of_shape at)
      more

  one : (l : LinkNo) → IsLinkOf shape l → (t : TrunkState)
      → Become shape after (with_trunk before l.0 t) → More l t
      → AllOffer shape (2 * suc (length P)) after
  one l of_shape t made is = one_trunk shape before after l of_shape t made More is more

  ending : (n : ℕ) (me : Option Inc) → Become shape after (trunks_ending shape n me before)
      → AllOffer shape (2 * suc (length P)) after
  ending n None made = stays made
  ending n (Some j) made =
      all n (λ side. closed_at side j) made (λ l of_shape at side. omega (
        arith,
        closed_offers at (before l.0) (2 * length P) (none_said l of_shape at) (was l of_shape) j
            side,
      ))

  sending : (n : ℕ) (me : Option Inc) (q : Peer) (note : SigNote) (answer : SentTo)
      → SendMakes shape P before after n me q note answer
      → AllOffer shape (2 * suc (length P)) after
  sending n (Some j) (There l x b) note Link made =
      one l made.of_shape (sent_at made.at j (name_of P j) b note (before l.0)) made.makes
      (λ side. omega (
        arith,
        sent_offers made.at (before l.0) (2 * length P) (none_said l made.of_shape made.at)
            (was l made.of_shape) j (name_of P j) b note side,
      ))
  sending n _ _ note _ made = stays made

  asking : (n : ℕ) (path : Path) (found : Option Peer) → HuntMakes shape before after n path found
      → AllOffer shape (2 * suc (length P)) after
  asking n (Local v) found made = stays made
  asking n (Over l v) (Some q) made = stays made
  asking n (Over l v) None made =
      one l made.of_shape (asked_at made.at v (before l.0)) made.makes
      (λ side. omega (
        arith,
        asked_offers made.at (before l.0) (2 * length P) (none_said l made.of_shape made.at)
            (was l made.of_shape) v side,
      ))

  comes : (l : LinkNo) → IsLinkOf shape l → (from : Side) (keep : Bool) (es : List Effect)
      (trunk : TrunkState)
      → Comes P (node_at shape l (other_of from)) l from keep es (before l.0) trunk
      → More l trunk
  comes l of_shape from keep es trunk meets =
      subst (More l) (sym meets.makes)
      (comes_few P (node_at shape l (other_of from)) l from keep meets.heard (before l.0)
      (kept l of_shape) meets.reading (was l of_shape))

  meeting : (l : LinkNo) → IsLinkOf shape l → (from : Side) (verdict : Verdict) (es : List Effect)
      (trunk : TrunkState)
      → Meets P (node_at shape l (other_of from)) l from verdict es (before l.0) trunk
      → More l trunk
  meeting l of_shape from Deliver es trunk meets = comes l of_shape from false es trunk meets
  meeting l of_shape from Repeat es trunk meets = comes l of_shape from true es trunk meets
  meeting l of_shape from Lose es trunk meets =
      subst (More l) (sym meets.makes)
      (λ side. omega (arith, was l of_shape side, lost_offers from side 0 (before l.0)))
  meeting l of_shape from (Swap k) es trunk meets =
      let place : ℕ = place_of k (length (flight_from from (before l.0).link)) in
      subst (More l) (sym meets.makes)
      (λ side. omega (arith, was l of_shape side, swapped_offers from side 0 place (before l.0)))

  by_head : (n : ℕ) (me : Option Inc) (head : Head) (es : List Effect)
      → Makes shape P before after n me head es → AllOffer shape (2 * suc (length P)) after
  by_head n me (Open name) es made =
      let i : Inc = next_inc n (opened_on P n) in
      all n (λ side. opened_at side i name) made (λ l of_shape at side. omega (
        arith,
        opened_offers at (before l.0) (2 * length P) (none_said l of_shape at) (was l of_shape)
            (next_inc n (opened_on P n)) name side,
      ))
  by_head n me Close es made = ending n me made
  by_head n me (Send q note answer) es made = sending n me q note answer made
  by_head n me (TakeNone filter) es made = stays made.makes
  by_head n me (Hunt path note) es made = asking n path (find P n path) made
  by_head n me (Restart k) es made =
      all k.0 (λ side. restarted_at side (2 + boots P k.0)) made (λ l of_shape at.
      restarted_offers at (2 + boots P k.0) (before l.0) (2 * suc (length P)) (more l of_shape))
  by_head n me (Wire l from verdict) es made =
      one l made.of_shape made.trunk made.makes
      (meeting l made.of_shape from verdict es made.trunk made.meets)
  by_head n me (Tick l side) es made =
      one l made.of_shape made.trunk made.makes
      (subst (More l) (sym made.beat.makes)
      (ticked_offers side (before l.0) (2 * suc (length P)) (more l made.of_shape)))
  by_head n me Ended es made = ending n me made
  by_head n me head es made = stays made

-- ---- a run

new_offers : (window piece : ℕ) → OffersUpTo 0 (new_trunk window piece)
new_offers window piece First = omega arith
new_offers window piece Second = omega arith

-- what is left of a run without its last step
front : (shape : Shape) (s : Step) (P : List Step) (after : RunTrunks)
    → IsBoundedTrunkRun shape (s ∷ P) after
    → (before : RunTrunks) → IsTrunkRun shape P before → IsBoundedTrunkRun shape P before
front shape s P after whole before run =
    let fits = whole.fits in
    record { two_ends = whole.two_ends; nodes = whole.nodes; fits = omega arith; run = run }

pub few_offers : (shape : Shape) (P : List Step) (trunks : RunTrunks)
    → IsBoundedTrunkRun shape P trunks → AllOffer shape (2 * length P) trunks
few_offers shape [] trunks whole l of_shape =
    let is = whole.run l of_shape in
    subst (OffersUpTo 0) (sym is.made) (new_offers is.window is.piece)
few_offers shape (s ∷ P) after whole l of_shape =
    let run = whole.run in
    let was = front shape s P after whole run.0 run.1.0 in
    by_head shape whole.two_ends P run.0 after (trunk_runs_are_runs shape P run.0 was).kept
    (few_offers shape P run.0 was) (node_by shape s.by) (endpoint_by P s.by) s.head s.effects
    run.1.1.makes l of_shape

-- ---- sessions and boots

module _ (P : List Step) (n l : ℕ) (fits : length P ≤ step_limit) where
  own_count : count_of (own_session P n l) ≤ 1 + length P
  own_count = let few = few-downs P n l in omega arith

-- ---- what a run takes

pub runs_take_few : RunsTakeFew
runs_take_few shape P trunks whole l of_shape side =
    let n : ℕ = node_at shape l side in
    let kept = (trunk_runs_are_runs shape P trunks whole).kept l of_shape in
    let linked = (trunk_runs_keep_all shape P trunks whole).sound.linked.linked l of_shape side in
    let mine : (half_of side (trunks l.0).link).end.talk.mine ≡ own_session P n l.0 =
    (agree side (trunks l.0) kept).session ∙ sym linked.own in
    let numbered = frames_are_numbered side (trunks l.0).link kept.link in
    let few = few_offers shape P trunks whole l of_shape side in
    record {
      messages = few;
      numbers = omega (arith, numbered.each, numbered.few, few);
      sessions = omega (arith, ap count_of mine, own_count P n l.0 whole.fits);
      boots = omega (arith, ap boot_of mine, own_boot P n l.0 whole.fits, few-boots P n);
    }

-- ---- what the next step finds

-- a side that has offered no more than three messages a step, and one
left_enough : (side : Side) (t : TrunkState) → KeepsTrunk t → offers side t ≤ 600001
    → HasNumbersLeft side t
left_enough side t kept few =
    let numbered = frames_are_numbered side t.link kept.link in
    omega (arith, few, numbered.each, numbered.few)

left_to_ask : (side : Side) (names : List (List ℕ)) (t : TrunkState) → KeepsTrunk t
    → AreNames names → offers side t + length names ≤ 600001 → HasNumbersToAsk side names t
left_to_ask side [] t kept named few = left_enough side t kept (omega (arith, few))
left_to_ask side (v ∷ names) t kept named few = (
  left_enough side t kept (omega (arith, few)),
  left_to_ask side names (asked_at side v t) (events_keep.asked side v t named.0 kept) named.1
      (omega (
        arith,
        few,
        said_offers side (λ s. query_of s v) t (offers side t) 1 (agree side t kept).out
            (omega arith) (omega arith),
      )),
)

module _ (shape : Shape) (P : List Step) (trunks : RunTrunks)
    (whole : IsBoundedTrunkRun shape P trunks) (room : length P < step_limit) (l : LinkNo)
    (of_shape : IsLinkOf shape l) where
  has_numbers : (side : Side) → GrantsNumbers side (trunks l.0)
  has_numbers side =
      let takes = runs_take_few shape P trunks whole l of_shape side in
      record { frames = omega (arith, takes.numbers); sessions = omega (arith, takes.sessions) }

  has_then : (from : Side)
      → GrantsNumbersThen P (node_at shape l (other_of from)) l from (trunks l.0)
  has_then from keep reading read =
      let n : ℕ = node_at shape l (other_of from) in
      let t : TrunkState = trunks l.0 in
      let kept = (trunk_runs_are_runs shape P trunks whole).kept l of_shape in
      let was = few_offers shape P trunks whole l of_shape in
      left_to_ask (other_of from) (names_hunted P n l) (delivered from 0 keep reading t)
      (events_keep.delivered from 0 keep reading t read kept)
      (trunk_runs_grant shape P trunks whole room l of_shape (other_of from)).0.asks
      (omega (
        arith,
        room,
        v_few P n l from keep reading t kept read was (2 * length P) (was (other_of from)),
        few_names P n l,
      ))

pub runs_have_numbers : RunsHaveNumbers
runs_have_numbers shape P trunks whole room l of_shape from = (
  has_numbers shape P trunks whole room l of_shape from,
  has_then shape P trunks whole room l of_shape from,
)
