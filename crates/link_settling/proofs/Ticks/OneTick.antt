-- What a tick begins while nothing is in flight: side a ticks, and side b is next.
use Rattle.std.proofs.Common.{◌≡◌, ◌≢◌, ◌⊎◌, ◌<◌, ◌≤◌, true, Option, Some, None, List, [], ◌∷◌}
use Rattle.std.proofs.Common.{All, map, refl, sym, ap, subst, ◌∙◌, arith, inl, inr}
use Rattle.std.proofs.lemmas.List.Elements.{All-cons, All-nil}
use Rattle.std.proofs.lemmas.Option.{same_Some}
use Rattle.linx_base.specs.declared.frame.ConnKind.TheVariants as kinds
use Rattle.linx_base.specs.declared.frame.SentFrame.{SentFrame}
use Rattle.linx_base.specs.declared.identity.Session.{Session}
use Rattle.ethcm_headers.specs.declared.packets.Packet.{Packet}
use Rattle.ethcm_headers.specs.declared.packets.Part.TheVariants.{Conn}
use Rattle.ethcm_session.specs.declared.standing.TalkState.{TalkState}
use Rattle.ethcm_session.specs.Table.{is_confirmed_in, standing_peer}
use Rattle.ethcm_window.specs.Sending.{sent_end, unacknowledged}
use Rattle.ethcm_end.specs.declared.answers.Ticked.{Ticked}
use Rattle.ethcm_end.specs.States.{EndState, Reaction, peer_of}
use Rattle.ethcm_end.specs.Rules.{gone_down, kind_in, piece_packet, tick_of, ticked}
use Rattle.ethcm_end.specs.Windows.{IsSent, peer_or_unknown}
use Rattle.ethcm_end.proofs.ByRule.{by_tick_rules}
use Rattle.carrier.specs.Records.{HalfState, mine_of}
use Rattle.carrier.specs.Events.{drained}
use Rattle.carrier.proofs.Ends.{beat}
use Rattle.link_settling.specs.Measure.{nacks}
use Rattle.link_settling.proofs.Sides.Apart.{Apart, Ending, Ends, IsHushed, IsStrange, Stale}
use Rattle.link_settling.proofs.Sides.Apart.{StaysOrDown, all_sent_hushed, peer_upto}
use Rattle.link_settling.proofs.Sides.Apart.{strange_receiver, strange_sender}
use Rattle.link_settling.proofs.Sides.OneConnecting.{Calling}
use Rattle.link_settling.proofs.Flights.Flows.{flows_again, flows_idle, flows_told, pieces_tell}
use Rattle.link_settling.proofs.Sides.HalfOpen.{AreFrom, HalfOpen, Together, none_from, one_from}
use Rattle.link_settling.proofs.Sides.HalfOpen.{pieces_from}
use Rattle.link_settling.proofs.Sides.Hearing.{Begun, Calm, HasHeard, IsSpeech}
use Rattle.link_settling.proofs.Sides.Joining.{Joining, Opening}
use Rattle.link_settling.proofs.Flights.InOrder.{InOrder, one_asks_none, pieces_ask_none}
use Rattle.link_settling.proofs.Flights.AllSent.{by_drained_tick_rules, by_tick_rule}
use Rattle.link_settling.proofs.Flights.Steps.{Has, Holds, after_tick, beaten, beaten_end}
use Rattle.link_settling.proofs.Flights.Steps.{beaten_out, has_more, sent_all}

-- ---- up with each other

-- what a tick that isn't the last makes of both directions
pub record TickKeeps (a b : HalfState) (r : Reaction Ticked) : Type 0 where
  -- the own direction is in order from then on
  pub begins : InOrder (after_tick a r) b r.state.out []
  -- the other one stays so
  pub keeps : InOrder b a [] [] → InOrder b (after_tick a r) [] r.state.out
  pub speech : Has (IsSpeech (mine_of b)) r.state.out
  pub confirmed :
      is_confirmed_in a.end.talk.standing ≡ true
      → is_confirmed_in (after_tick a r).end.talk.standing ≡ true

piece_speech : (s : EndState) (to : Session) (sent : List SentFrame) → sent ≢ []
    → Has (IsSpeech to.0) (map (piece_packet s to) sent)
piece_speech s to [] some = absurd (some refl)
piece_speech s to (f ∷ sent) some = inl (refl, inr tt)

module _ (a b : HalfState) (k : Holds a b [] []) (t : Together a b) (few : a.end.ticks < 2) where
  base : a.end.tx.base ≤ b.end.rx.expected
  base = k.near.bound.base_taken b.end.talk.mine t.near refl

  given : b.end.rx.expected ≤ sent_end a.end.tx
  given = (k.far.bound.was_sent a.end.talk.mine t.far refl).taken

  peer_number : (peer : Session) → peer_of a.end ≡ Some peer → peer.0 ≡ mine_of b
  peer_number peer e =
      ap (λ (x : Session). x.0) (same_Some peer b.end.talk.mine (sym e ∙ t.near))

  pub tick_keeps : TickKeeps a b (tick_of a.end)
  tick_keeps =
      let x : Session = a.end.talk.mine in
      let sent : List SentFrame = unacknowledged a.end.tx in
      let mid : EndState = ticked (drained a.end) in
      by_drained_tick_rules (TickKeeps a b) a.end k.near.out (record {
        connecting = λ e. absurd (let is = t.near in grind arith);
        lost = λ peer e l. absurd (omega arith);
        again = λ peer e l some.
            record {
              begins = record {
                together = record { near = t.near; far = t.far };
                from_there = pieces_from mid peer sent;
                from_back = none_from b.end.talk.mine;
                none_asks = All-nil (λ p. nacks p.part ≡ 0);
                flows = flows_again mid peer a.end.tx b.end.rx.expected base given some;
              };
              keeps = λ o.
                  record {
                    together = record { near = o.together.near; far = o.together.far };
                    from_there = none_from b.end.talk.mine;
                    from_back = pieces_from mid peer sent;
                    none_asks = pieces_ask_none mid peer sent;
                    flows = flows_told b.end.tx a.end.rx.expected [] []
                        (map (piece_packet mid peer) sent) (pieces_tell mid peer sent) o.flows;
                  };
              speech = subst (λ n. Has (IsSpeech n) (map (piece_packet mid peer) sent))
                  (peer_number peer e) (piece_speech mid peer sent some);
              confirmed = λ c. c;
            };
        idle = λ peer e l none.
            record {
              begins = record {
                together = record { near = t.near; far = t.far };
                from_there = one_from x peer.0 (Conn kinds.Ack);
                from_back = none_from b.end.talk.mine;
                none_asks = All-nil (λ p. nacks p.part ≡ 0);
                flows = flows_idle a.end.tx b.end.rx.expected _ base given none (tt, refl);
              };
              keeps = λ o.
                  record {
                    together = record { near = o.together.near; far = o.together.far };
                    from_there = none_from b.end.talk.mine;
                    from_back = one_from x peer.0 (Conn kinds.Ack);
                    none_asks = one_asks_none _ refl;
                    flows = flows_told b.end.tx a.end.rx.expected [] [] _ (refl, tt) o.flows;
                  };
              speech = inl (peer_number peer e, inl refl);
              confirmed = λ c. c;
            };
      })

  pub ticks_begun : Begun b (beaten a) [] (beaten_out a)
  ticks_begun = record { order = tick_keeps.begins; hearing = inr tick_keeps.speech }

-- the other direction is in order already, and side a heard
pub ticks_calm : (a b : HalfState) → Holds a b [] [] → Begun a b [] []
    → Calm b (beaten a) [] (beaten_out a)
ticks_calm a b k h =
    let t : Together a b =
    record { near = h.order.together.far; far = h.order.together.near } in
    let did : HasHeard a.end = elim h.hearing [ inl did ↦ did | inr has ↦ absurd has ] in
    let none = did.ticks in
    let keeps = tick_keeps a b k t (omega arith) in
    record {
      begun = ticks_begun a b k t (omega arith);
      order = keeps.keeps h.order;
      confirmed = keeps.confirmed did.confirmed;
    }

-- ---- connecting

module _ (a b : HalfState) (out : a.end.out ≡ []) (none : peer_of a.end ≡ None) where
  abbrev connect : Packet
  connect = record { src = a.end.talk.mine; dst = 0; part = Conn kinds.Connect }

  -- and so is side b
  pub ticks_asked : peer_of b.end ≡ None → Joining b (beaten a) [] (beaten_out a)
  ticks_asked far =
      subst (λ r. Joining b (after_tick a r) [] r.state.out)
      (sym ((by_tick_rule a.end out).connecting none)) (Joining.asked (record {
        near = far;
        far = none;
        ask = connect;
        back_is = refl;
        part = refl;
        src = refl;
        there_is = refl;
      }))

  -- side b is up with the present session
  pub ticks_lifts : peer_of b.end ≡ Some a.end.talk.mine
      → Joining b (beaten a) [] (beaten_out a)
  ticks_lifts up =
      subst (λ r. Joining b (after_tick a r) [] r.state.out)
      (sym ((by_tick_rule a.end out).connecting none)) (Joining.lifts_far (record {
        half = record {
          is_up = up;
          asks = none;
          from_up = none_from b.end.talk.mine;
          from_down = one_from a.end.talk.mine 0 (Conn kinds.Connect);
        };
        lifts = inl (
          record { ask = connect; rest = []; is = refl; part = refl },
          All-nil (λ p. kind_in p.part ≡ None),
        );
      }))

  -- side b is up with an earlier session
  pub ticks_calls : (y : Session) → peer_of b.end ≡ Some y → y.0 < mine_of a
      → Calling b (beaten a) [] (beaten_out a)
  ticks_calls y up less =
      subst (λ r. Calling b (after_tick a r) [] r.state.out)
      (sym ((by_tick_rule a.end out).connecting none)) (Calling.calls (record {
        far_down = none;
        peer = y;
        near_up = up;
        strange = λ z e.
            let same = ap (λ (x : Session). x.0) (same_Some y z (sym up ∙ e)) in
            inl (omega arith);
        hushed_there = All-nil (IsHushed a.end.talk);
        ask = connect;
        back_is = refl;
        part = refl;
        later = less;
      }))

-- ---- side a is up, and side b is connecting

module _ (a b : HalfState) (k : Holds a b [] []) (up : peer_of a.end ≡ Some b.end.talk.mine)
    (none : peer_of b.end ≡ None) where
  half_peer : (peer : Session) → peer_of a.end ≡ Some peer → peer ≡ b.end.talk.mine
  half_peer peer e = same_Some peer b.end.talk.mine (sym e ∙ up)

  ticks_half : a.end.ticks < 2 → HalfOpen (beaten a) b (beaten_out a) []
  ticks_half few =
      let half : (c : HalfState) (out : List Packet) → c.end.talk ≡ a.end.talk
      → AreFrom a.end.talk.mine out → HalfOpen c b out [] =
      λ c out talk from. record {
        is_up = ap (λ (t : TalkState). standing_peer t.standing) talk ∙ up;
        asks = none;
        from_up = subst (λ (t : TalkState). AreFrom t.mine out) (sym talk) from;
        from_down = none_from b.end.talk.mine;
      } in
      by_drained_tick_rules (λ r. HalfOpen (after_tick a r) b r.state.out []) a.end k.near.out
      (record {
        connecting = λ e. absurd (grind arith);
        lost = λ peer e l. absurd (omega arith);
        again = λ peer e l some.
            half _ _ refl (pieces_from (ticked (drained a.end)) peer (unacknowledged a.end.tx));
        idle = λ peer e l q.
            half _ _ refl (one_from a.end.talk.mine peer.0 (Conn kinds.Ack));
      })

  pub ticks_opens : a.end.ticks < 2 → Opening b (beaten a) [] (beaten_out a)
  ticks_opens few = Opening.opens (ticks_half few)

-- ---- side a is lost

-- the last tick of a side that is up with the present session of side b
module _ (a b : HalfState) (out : a.end.out ≡ []) (up : peer_of a.end ≡ Some b.end.talk.mine)
    (last : 2 ≤ a.end.ticks) where
  abbrev reset : Packet
  reset = record { src = a.end.talk.mine; dst = mine_of b; part = Conn kinds.Reset }

  -- the RESET does nothing at side b, or takes it down
  reset_hushed : (peer_of b.end ≡ Some a.end.talk.mine) ⊎ (peer_of b.end ≡ None)
      → IsHushed b.end.talk reset
  reset_hushed h =
      record {
        not_connect = λ q. grind arith;
        mute = elim h [
          | inl far ↦ inr (inl (record {
            peer = a.end.talk.mine;
            up = far;
            by = inr (refl, refl, refl);
          }))
          | inr none ↦ inr (inr (none, refl))
        ];
      }

  pub ticks_silent : (peer_of b.end ≡ Some a.end.talk.mine) ⊎ (peer_of b.end ≡ None)
      → Calling b (beaten a) [] (beaten_out a)
  ticks_silent h =
      subst (λ r. Calling b (after_tick a r) [] r.state.out)
      (sym ((by_tick_rule a.end out).lost b.end.talk.mine up (omega arith)))
      (Calling.silent (record {
        ending = record {
          apart = record {
            near_strange = λ y e.
                elim h [
                  | inl far ↦
                      let same = ap (λ (x : Session). x.0)
                      (same_Some a.end.talk.mine y (sym far ∙ e)) in
                      inl (omega arith)
                  | inr none ↦ absurd (grind arith)
                ];
            far_strange = λ y e. absurd (grind arith);
            near_hushed = All-nil (IsHushed (gone_down a.end).talk);
            far_hushed = All-cons (IsHushed b.end.talk) reset [] (reset_hushed h)
                (All-nil (IsHushed b.end.talk));
          };
          ending = elim h [
            | inl far ↦ inr (inl (record {
              peer = a.end.talk.mine;
              up = far;
              by = inr (refl, refl, refl);
            }))
            | inr none ↦ inl none
          ];
        };
        far_down = refl;
      }))

-- ---- the two sides are apart

tick_talk : (s : EndState) → StaysOrDown s.talk (tick_of s).state.talk
tick_talk s =
    by_tick_rules (λ r. StaysOrDown s.talk r.state.talk) s (record {
      connecting = λ e. inl refl;
      lost = λ peer e l. inr (record { connecting = refl; later = omega arith });
      again = λ peer e l some. inl refl;
      idle = λ peer e l none. inl refl;
    })

-- each tick sends something of its session
some_piece : (s : EndState) (to : Session) (sent : List SentFrame) → sent ≢ []
    → Has (λ p. p.src ≡ s.talk.mine) (map (piece_packet s to) sent)
some_piece s to [] some = absurd (some refl)
some_piece s to (f ∷ sent) some = inl refl

tick_says : (s : EndState) → s.out ≡ []
    → Has (λ p. p.src ≡ s.talk.mine) (tick_of s).state.out
tick_says s out =
    by_drained_tick_rules (λ r. Has (λ p. p.src ≡ s.talk.mine) r.state.out) s out (record {
      connecting = λ e. inl refl;
      lost = λ peer e l. inl refl;
      again = λ peer e l some.
          some_piece (ticked (drained s)) peer (unacknowledged s.tx) some;
      idle = λ peer e l none. inl refl;
    })

module _ (a b : HalfState) (k : Holds a b [] []) (y : Session) (up : peer_of a.end ≡ Some y)
    (near : IsStrange a.end.talk b.end.talk) (far : IsStrange b.end.talk a.end.talk) where
  goes : StaysOrDown a.end.talk (beaten a).end.talk
  goes =
      subst (λ s. StaysOrDown a.end.talk s.talk) (sym (beaten_end a)) (tick_talk a.end)

  sent_hushed : All (IsHushed b.end.talk) (beaten_out a)
  sent_hushed =
      let to : Option Session → Type 0 =
      λ q. All (IsSent a.end.tx a.end (tick_of a.end).state (peer_or_unknown q)) (beaten_out a) in
      all_sent_hushed a.end b.end.talk near a.end.tx (tick_of a.end).state y up (beaten_out a)
      (subst to up (sent_all a.end.tx a.end (tick_of a.end).state (peer_or_unknown (peer_of a.end))
      k.near.out (beat a.end).sends))

  ticks_apart : Apart b (beaten a) [] (beaten_out a)
  ticks_apart =
      record {
        near_strange = strange_receiver b.end.talk a.end.talk (beaten a).end.talk
            (peer_upto k.piece b a [] [] k.far k.near) goes far;
        far_strange = strange_sender a.end.talk b.end.talk (beaten a).end.talk goes near;
        near_hushed = All-nil (IsHushed (beaten a).end.talk);
        far_hushed = sent_hushed;
      }

  -- side b is down
  pub ticks_ending_down : peer_of b.end ≡ None → Ending b (beaten a) [] (beaten_out a)
  ticks_ending_down none = record { apart = ticks_apart; ending = inl none }

  -- side b is up with an earlier session, and goes down by what side a sends
  pub ticks_ending : (z : Session) → peer_of b.end ≡ Some z → z.0 < mine_of a
      → Ending b (beaten a) [] (beaten_out a)
  ticks_ending z e less =
      record {
        apart = ticks_apart;
        ending = inr (has_more (λ p. p.src ≡ a.end.talk.mine) (Ends b.end.talk) (λ p src.
            let n = ap (λ (x : Session). x.0) src in
            record { peer = z; up = e; by = inl (omega arith) })
            (beaten_out a) (tick_says a.end k.near.out));
      }

  -- side a is up with an earlier session of side b
  pub ticks_stale : y.0 < mine_of b → Stale b (beaten a) [] (beaten_out a)
  ticks_stale less =
      record {
        apart = ticks_apart;
        earlier = λ z e.
            elim goes [
              | inl same ↦
                  let is : peer_of a.end ≡ Some z =
                  sym (ap (λ (t : TalkState). standing_peer t.standing) same) ∙ e in
                  let n = ap (λ (x : Session). x.0) (same_Some y z (sym up ∙ is)) in
                  omega arith
              | inr down ↦ absurd (let none = down.connecting in grind arith)
            ];
      }
