-- The ticks of a side that a tick takes down: none are left.
use Rattle.std.proofs.Common.{◌≡◌, ◌+◌, Bool, true, false, cond, refl, ◌∙◌, ap, nat_lt}
use Rattle.linx_base.specs.declared.identity.Session.{Session}
use Rattle.linx_base.specs.declared.identity.Side.{Side}
use Rattle.linx_base.specs.declared.identity.Side.TheVariants.{First, Second}
use Rattle.ethcm_session.specs.declared.standing.Standing.{Standing}
use Rattle.ethcm_session.specs.declared.standing.Standing.TheVariants as standings
use Rattle.ethcm_end.specs.declared.answers.Ticked.{Ticked}
use Rattle.ethcm_end.specs.declared.answers.Ticked.TheVariants as answers
use Rattle.ethcm_end.specs.States.{EndState, gives}
use Rattle.ethcm_end.specs.Rules.{beat, lost, tick_in, tick_of}
use Rattle.carrier.specs.Events.{LinkState, drained, link_told_by, recorded_tick, ticked_as}
use Rattle.carrier.specs.Events as links
use Rattle.carrier.specs.declared.handed.TickedSide.{TickedSide}
use Rattle.carrier.specs.declared.handed.TickedSide.TheVariants as ticked
use Rattle.trunk.specs.Events.{TrunkState, near_beat, near_ticked, ticked_at, turned, with_link}
use Rattle.trunk.specs.Tells.{silent_of}

end_lost : (s : EndState) → (tick_of s).answer ≡ answers.WentDown → (tick_of s).state.ticks ≡ 0
unfolding tick_of
end_lost s down = by_standing s.talk.standing down
  where
    by_test : (b : Bool) (peer : Session)
        → (cond b (gives (beat s peer) answers.Stays) (gives (lost s peer) answers.WentDown)).answer
        ≡ answers.WentDown
        → (cond b (gives (beat s peer) answers.Stays)
        (gives (lost s peer) answers.WentDown)).state.ticks ≡ 0
    by_test true peer e = absurd cc
    by_test false peer e = refl

    by_standing : (standing : Standing) → (tick_in s standing).answer ≡ answers.WentDown
        → (tick_in s standing).state.ticks ≡ 0
    by_standing standings.Connecting e = absurd cc
    by_standing (standings.Up peer confirmed) e = by_test (nat_lt (s.ticks + 1) 3) peer e

link_lost : (v : LinkState) (session : Session)
    → ticked_as v.first.end.talk.mine (tick_of v.first.end).answer ≡ ticked.WentDown session
    → (links.near_ticked v).first.end.ticks ≡ 0
link_lost v session is = by_answer (tick_of v.first.end).answer refl is
  where
    by_answer : (answer : Ticked) → (tick_of v.first.end).answer ≡ answer
        → ticked_as v.first.end.talk.mine answer ≡ ticked.WentDown session
        → (links.near_ticked v).first.end.ticks ≡ 0
    by_answer answers.Stays at e = absurd cc
    by_answer answers.WentDown at e =
        ap (λ (a : Ticked).
        (recorded_tick v.first (drained (tick_of v.first.end).state) a).end.ticks)
        at
        ∙ end_lost v.first.end at

near_lost : (t : TrunkState) (session : Session)
    → ticked_as t.link.first.end.talk.mine (tick_of t.link.first.end).answer
    ≡ ticked.WentDown session → (near_ticked t).link.first.end.ticks ≡ 0
near_lost t session is =
    ap (λ (told : TickedSide). (near_beat (with_link t (links.near_ticked t.link))
    told).link.first.end.ticks) is
    ∙ link_lost t.link session is

pub lost_silent : (at : Side) (t : TrunkState) (session : Session)
    → link_told_by at t.link ≡ ticked.WentDown session → silent_of at (ticked_at at t) ≡ 0
lost_silent First t session is = near_lost t session is
lost_silent Second t session is = near_lost (turned t) session is
