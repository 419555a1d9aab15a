-- Two sides that are about to be up with each other. Side a is the one whose tick is next.
use Rattle.std.proofs.Common.{◌≡◌, ◌⊎◌, ◌<◌, ◌≤◌, Some, None, List}
use Rattle.std.proofs.Common.{[], ◌∷◌, ◌++◌, refl, sym, ap, subst, ◌∙◌, arith, inl, inr}
use Rattle.std.proofs.lemmas.List.Elements.{All-append, All-head, All-tail}
use Rattle.std.proofs.lemmas.Option.{same_Some}
use Rattle.linx_base.specs.declared.frame.ConnKind.TheVariants as kinds
use Rattle.linx_base.specs.declared.frame.Message.{Message}
use Rattle.linx_base.specs.declared.identity.Session.{Session}
use Rattle.ethcm_headers.specs.declared.packets.Packet.{Packet}
use Rattle.ethcm_headers.specs.declared.packets.Part.TheVariants.{Conn}
use Rattle.ethcm_end.specs.States.{EndState, peer_of}
use Rattle.ethcm_end.specs.Rules.{input_of, kind_in}
use Rattle.ethcm_end.proofs.ByRule.{by_rules}
use Rattle.carrier.specs.Records.{HalfState, mine_of}
use Rattle.link_settling.proofs.Sides.HalfOpen.{AreData, AreFrom, HalfOpen, IsAckTo, Together}
use Rattle.link_settling.proofs.Sides.HalfOpen.{down_hears, half_offered, none_from, number_of}
use Rattle.link_settling.proofs.Sides.HalfOpen.{offered_so, one_from, together_came}
use Rattle.link_settling.proofs.Sides.HalfOpen.{together_offered, turned_together, up_hears}
use Rattle.link_settling.proofs.Flights.AllSent.{by_rule}
use Rattle.link_settling.proofs.Flights.Steps.{Has, Holds, Lasts, after, came, came_end, came_out}
use Rattle.link_settling.proofs.Flights.Steps.{has_behind, has_front, offered, offered_out}
use Rattle.link_settling.proofs.Flights.Steps.{turned_holds}

-- ---- the ticks since the peer was heard

-- no packet makes them more
pub ticks_upto : (s : EndState) (p : Packet) → (input_of s p).state.ticks ≤ s.ticks
ticks_upto s p =
    by_rules (λ r. r.state.ticks ≤ s.ticks) s p (record {
      connecting_connect = λ e k. omega arith;
      connecting_connect_ack = λ e k d. omega arith;
      connecting_ack = λ e k d. omega arith;
      connecting_other = λ e x y z. omega arith;
      up_lower = λ peer e l. omega arith;
      up_greater = λ peer e l. omega arith;
      up_connect = λ e k. omega arith;
      up_not_mine = λ e k d. omega arith;
      up_reset = λ between k. omega arith;
      up_connect_ack = λ between k. omega arith;
      up_ack = λ between k. omega arith;
      frames_acked = λ next between k. omega arith;
      frames_missed = λ next count between k. omega arith;
      old = λ next seq frame between k l. omega arith;
      early_again = λ next seq frame between k l q. omega arith;
      early = λ next seq frame between k l q. omega arith;
      taken = λ next frame between k m. omega arith;
      taken_whole = λ next frame m between k w. omega arith;
      taken_broken = λ next frame between k w. omega arith;
    })

pub came_ticks : (a : HalfState) (p : Packet) → (came a p).end.ticks ≤ a.end.ticks
came_ticks a p =
    let upto = ticks_upto a.end p in
    let same : (came a p).end.ticks ≡ (input_of a.end p).state.ticks =
    ap (λ (s : EndState). s.ticks) (came_end a p) in
    omega arith

-- ---- up with each other, and side a has heard since its last tick

pub record Joined (a b : HalfState) (there back : List Packet) : Type 0 where
  pub together : Together a b
  pub ticks : a.end.ticks ≡ 0

pub joined_lasts : Lasts Joined
joined_lasts =
    record {
      near_came = λ a b there left p k now h.
          record {
            together = together_came a b there left p k h.together;
            ticks =
                let upto = came_ticks a p in
                let few = h.ticks in
                omega arith;
          };
      far_came = λ a b left back p k now h.
          record {
            together = turned_together _ _ (together_came b a back left p
                (turned_holds a b (p ∷ left) back k) (turned_together a b h.together));
            ticks = h.ticks;
          };
      near_offered = λ a b there back m peer e k now h.
          record {
            together = together_offered a b m peer k.near.out e h.together;
            ticks =
                let same = (offered_so a m peer k.near.out e).ticks in
                let few = h.ticks in
                omega arith;
          };
      far_offered = λ a b there back m peer e k now h.
          record {
            together = turned_together _ _ (together_offered b a m peer k.far.out e
                (turned_together a b h.together));
            ticks = h.ticks;
          };
    }

-- ---- the three packets of a connection

-- both are connecting, and side b has asked
pub record Asked (a b : HalfState) (there back : List Packet) : Type 0 where
  pub near : peer_of a.end ≡ None
  pub far : peer_of b.end ≡ None
  pub ask : Packet
  pub back_is : back ≡ ask ∷ []
  pub part : ask.part ≡ Conn kinds.Connect
  pub src : ask.src ≡ b.end.talk.mine
  pub there_is : there ≡ []

-- and side a has answered
pub record Answered (a b : HalfState) (there back : List Packet) : Type 0 where
  pub near : peer_of a.end ≡ None
  pub far : peer_of b.end ≡ None
  pub answer : Packet
  pub there_is : there ≡ answer ∷ []
  pub part : answer.part ≡ Conn kinds.ConnectAck
  pub src : answer.src ≡ a.end.talk.mine
  pub dst : answer.dst ≡ mine_of b
  pub back_is : back ≡ []

-- side b is up, and its ACK is in flight
pub record LiftsNear (a b : HalfState) (there back : List Packet) : Type 0 where
  pub half : HalfOpen b a back there
  pub ack : Has (IsAckTo (mine_of a)) back

-- the packet that comes first asks
pub record IsAsking (back : List Packet) : Type 0 where
  pub ask : Packet
  pub rest : List Packet
  pub is : back ≡ ask ∷ rest
  pub part : ask.part ≡ Conn kinds.Connect

-- side a is up, and side b asks it, or its ACK is in flight
pub record LiftsFar (a b : HalfState) (there back : List Packet) : Type 0 where
  pub half : HalfOpen a b there back
  pub lifts :
      (IsAsking back × AreData there)
      ⊎ (Has (IsAckTo (mine_of b)) there × (a.end.ticks ≡ 0))

pub data Joining (a b : HalfState) (there back : List Packet) : Type 0 where
  asked : Asked a b there back → Joining a b there back
  answered : Answered a b there back → Joining a b there back
  lifts_near : LiftsNear a b there back → Joining a b there back
  lifts_far : LiftsFar a b there back → Joining a b there back
  joined : Joined a b there back → Joining a b there back

-- a list of one
pub only : (p q : Packet) (ps : List Packet) → p ∷ ps ≡ q ∷ [] → (p ≡ q) × (ps ≡ [])
only p q ps e = (grind arith, grind arith)

some_first : (p : Packet) (ps : List Packet) → p ∷ ps ≡ [] → ⊥
some_first p ps e = grind arith

-- the side is in the session in which the other is up with it
same_mine : (u c d : HalfState) → peer_of u.end ≡ Some c.end.talk.mine
    → peer_of u.end ≡ Some d.end.talk.mine → mine_of d ≡ mine_of c
same_mine u c d e q = number_of _ _ (same_Some _ _ (sym q ∙ e))

-- ---- a packet comes to side a

module _ (a b : HalfState) (there left : List Packet) (p : Packet)
    (k : Holds a b there (p ∷ left)) where
  no_ticks : (input_of a.end p).state.ticks ≡ 0 → (came a p).end.ticks ≡ 0
  no_ticks e = ap (λ (s : EndState). s.ticks) (came_end a p) ∙ e

  few_ticks : (input_of a.end p).state.ticks ≡ 0 → (came a p).end.ticks < 2
  few_ticks e = let none = no_ticks e in omega arith

  asked_came : Asked a b there (p ∷ left) → Answered (came a p) b (there ++ came_out a p) left
  asked_came h =
      let one = only p h.ask left h.back_is in
      let part : p.part ≡ Conn kinds.Connect = ap (λ (q : Packet). q.part) one.0 ∙ h.part in
      let src : p.src ≡ b.end.talk.mine = ap (λ (q : Packet). q.src) one.0 ∙ h.src in
      let is = (by_rule a.end p k.near.out).connecting_connect h.near part in
      let reply : Packet =
      record { src = a.end.talk.mine; dst = p.src.0; part = Conn kinds.ConnectAck } in
      subst (λ r. Answered (after a r) b (there ++ r.state.out) left) (sym is) (record {
        near = h.near;
        far = h.far;
        answer = reply;
        there_is = ap (λ l. l ++ reply ∷ []) h.there_is;
        part = refl;
        src = refl;
        dst = number_of p.src b.end.talk.mine src;
        back_is = one.1;
      })

  lifts_near_came : LiftsNear a b there (p ∷ left)
      → Joining (came a p) b (there ++ came_out a p) left
  lifts_near_came h =
      let hears = down_hears b a left there p k.near.out h.half in
      let up : Together b (came a p) × ((input_of a.end p).state.ticks ≡ 0)
      → Joining (came a p) b (there ++ came_out a p) left =
      λ t. joined (record {
        together = turned_together b (came a p) t.0;
        ticks = no_ticks t.1;
      }) in
      elim h.ack [
        | inl here ↦ up (hears.acked here)
        | inr later ↦ elim hears.goes [
          | inr t ↦ up t
          | inl half ↦ lifts_near (record {
            half = half;
            ack = subst (λ n. Has (IsAckTo n) left)
                (sym (same_mine b a (came a p) h.half.is_up half.is_up)) later;
          })
        ]
      ]

  lifts_far_came : LiftsFar a b there (p ∷ left)
      → LiftsFar (came a p) b (there ++ came_out a p) left
  lifts_far_came h =
      let hears = up_hears a b there left p k h.half in
      record {
        half = hears.half;
        lifts = inr (elim h.lifts [
          | inl asks ↦
              let same : p ≡ asks.0.ask = (let e = asks.0.is in grind arith) in
              let says = hears.answers (ap (λ (q : Packet). q.part) same ∙ asks.0.part) in
              (has_behind (IsAckTo (mine_of b)) there (came_out a p) says.1, no_ticks says.0)
          | inr ack ↦ (
            has_front (IsAckTo (mine_of b)) there (came_out a p) ack.0,
            (let upto = came_ticks a p in
                let none = ack.1 in
                omega arith),
          )
        ]);
      }

  pub joining_near_came : Holds (came a p) b (there ++ came_out a p) left
      → Joining a b there (p ∷ left) → Joining (came a p) b (there ++ came_out a p) left
  joining_near_came now (asked h) = answered (asked_came h)
  joining_near_came now (answered h) = absurd (some_first p left h.back_is)
  joining_near_came now (lifts_near h) = lifts_near_came h
  joining_near_came now (lifts_far h) = lifts_far (lifts_far_came h)
  joining_near_came now (joined h) = joined (joined_lasts.near_came a b there left p k now h)

-- ---- a packet comes to side b

module _ (a b : HalfState) (left back : List Packet) (p : Packet)
    (k : Holds a b (p ∷ left) back) where
  answered_came : Answered a b (p ∷ left) back → LiftsNear a (came b p) left (back ++ came_out b p)
  answered_came h =
      let one = only p h.answer left h.there_is in
      let part : p.part ≡ Conn kinds.ConnectAck =
      ap (λ (q : Packet). q.part) one.0 ∙ h.part in
      let src : p.src ≡ a.end.talk.mine = ap (λ (q : Packet). q.src) one.0 ∙ h.src in
      let dst : p.dst ≡ mine_of b = ap (λ (q : Packet). q.dst) one.0 ∙ h.dst in
      let is = (by_rule b.end p k.far.out).connecting_connect_ack h.far part dst in
      let reply : Packet =
      record { src = b.end.talk.mine; dst = p.src.0; part = Conn kinds.Ack } in
      subst (λ r. LiftsNear a (after b r) left (back ++ r.state.out)) (sym is) (record {
        half = record {
          is_up = ap (λ x. Some x) src;
          asks = h.near;
          from_up = subst (λ l. AreFrom b.end.talk.mine (l ++ reply ∷ [])) (sym h.back_is)
              (one_from b.end.talk.mine p.src.0 (Conn kinds.Ack));
          from_down = subst (λ l. AreFrom a.end.talk.mine l) (sym one.1)
              (none_from a.end.talk.mine);
        };
        ack = has_behind (IsAckTo (mine_of a)) back (reply ∷ [])
            (inl (refl, number_of p.src a.end.talk.mine src));
      })

  lifts_near_far : LiftsNear a b (p ∷ left) back
      → LiftsNear a (came b p) left (back ++ came_out b p)
  lifts_near_far h =
      record {
        half = (up_hears b a back left p (turned_holds a b (p ∷ left) back k) h.half).half;
        ack = has_front (IsAckTo (mine_of a)) back (came_out b p) h.ack;
      }

  lifts_far_far : LiftsFar a b (p ∷ left) back
      → Joining a (came b p) left (back ++ came_out b p)
  lifts_far_far h =
      let hears = down_hears a b left back p k.far.out h.half in
      elim h.lifts [
        | inl asks ↦ lifts_far (record {
          half = hears.data_ignored (All-head (λ q. kind_in q.part ≡ None) p left asks.1);
          lifts = inl (
            record {
              ask = asks.0.ask;
              rest = asks.0.rest ++ came_out b p;
              is = ap (λ l. l ++ came_out b p) asks.0.is;
              part = asks.0.part;
            },
            All-tail (λ q. kind_in q.part ≡ None) p left asks.1,
          );
        })
        | inr ack ↦
            let none = ack.1 in
            let up : Together a (came b p) × ((input_of b.end p).state.ticks ≡ 0)
            → Joining a (came b p) left (back ++ came_out b p) =
            λ t. joined (record { together = t.0; ticks = omega arith }) in
            elim ack.0 [
              | inl here ↦ up (hears.acked here)
              | inr later ↦ elim hears.goes [
                | inr t ↦ up t
                | inl half ↦ lifts_far (record {
                  half = half;
                  lifts = inr (
                    subst (λ n. Has (IsAckTo n) left)
                        (sym (same_mine a b (came b p) h.half.is_up half.is_up)) later,
                    ack.1,
                  );
                })
              ]
            ]
      ]

  pub joining_far_came : Holds a (came b p) left (back ++ came_out b p)
      → Joining a b (p ∷ left) back → Joining a (came b p) left (back ++ came_out b p)
  joining_far_came now (asked h) = absurd (some_first p left h.there_is)
  joining_far_came now (answered h) = lifts_near (answered_came h)
  joining_far_came now (lifts_near h) = lifts_near (lifts_near_far h)
  joining_far_came now (lifts_far h) = lifts_far_far h
  joining_far_came now (joined h) = joined (joined_lasts.far_came a b left back p k now h)

-- ---- an offer

module _ (a b : HalfState) (there back : List Packet) (m : Message) (peer : Session)
    (k : Holds a b there back) where
  lifts_far_offered : peer_of a.end ≡ Some peer → LiftsFar a b there back
      → LiftsFar (offered a m) b (there ++ offered_out a m) back
  lifts_far_offered e h =
      let so = offered_so a m peer k.near.out e in
      record {
        half = half_offered a b there back m peer k.near.out e h.half;
        lifts = elim h.lifts [
          | inl asks ↦ inl (
            asks.0,
            All-append (λ q. kind_in q.part ≡ None) there (offered_out a m) asks.1
                so.data_alone,
          )
          | inr ack ↦ inr (
            has_front (IsAckTo (mine_of b)) there (offered_out a m) ack.0,
            so.ticks ∙ ack.1,
          )
        ];
      }

  pub joining_near_offered : peer_of a.end ≡ Some peer
      → Holds (offered a m) b (there ++ offered_out a m) back → Joining a b there back
      → Joining (offered a m) b (there ++ offered_out a m) back
  joining_near_offered e now (asked h) = absurd (let none = h.near in grind arith)
  joining_near_offered e now (answered h) = absurd (let none = h.near in grind arith)
  joining_near_offered e now (lifts_near h) = absurd (let none = h.half.asks in grind arith)
  joining_near_offered e now (lifts_far h) = lifts_far (lifts_far_offered e h)
  joining_near_offered e now (joined h) =
      joined (joined_lasts.near_offered a b there back m peer e k now h)

  lifts_near_offered : peer_of b.end ≡ Some peer → LiftsNear a b there back
      → LiftsNear a (offered b m) there (back ++ offered_out b m)
  lifts_near_offered e h =
      record {
        half = half_offered b a back there m peer k.far.out e h.half;
        ack = has_front (IsAckTo (mine_of a)) back (offered_out b m) h.ack;
      }

  pub joining_far_offered : peer_of b.end ≡ Some peer
      → Holds a (offered b m) there (back ++ offered_out b m) → Joining a b there back
      → Joining a (offered b m) there (back ++ offered_out b m)
  joining_far_offered e now (asked h) = absurd (let none = h.far in grind arith)
  joining_far_offered e now (answered h) = absurd (let none = h.far in grind arith)
  joining_far_offered e now (lifts_near h) = lifts_near (lifts_near_offered e h)
  joining_far_offered e now (lifts_far h) = absurd (let none = h.half.asks in grind arith)
  joining_far_offered e now (joined h) =
      joined (joined_lasts.far_offered a b there back m peer e k now h)

pub joining_lasts : Lasts Joining
joining_lasts =
    record {
      near_came = λ a b there left p k now h. joining_near_came a b there left p k now h;
      far_came = λ a b left back p k now h. joining_far_came a b left back p k now h;
      near_offered = λ a b there back m peer e k now h.
          joining_near_offered a b there back m peer k e now h;
      far_offered = λ a b there back m peer e k now h.
          joining_far_offered a b there back m peer k e now h;
    }

-- where nothing is in flight, they are up with each other
pub joining_over : (a b : HalfState) → Joining a b [] [] → Joined a b [] []
joining_over a b (asked h) = absurd (let e = h.back_is in grind arith)
joining_over a b (answered h) = absurd (let e = h.there_is in grind arith)
joining_over a b (lifts_near h) = absurd h.ack
joining_over a b (lifts_far h) =
    absurd (elim h.lifts [
      | inl asks ↦ (let e = asks.0.is in grind arith)
      | inr ack ↦ ack.0
    ])
joining_over a b (joined h) = h

-- ---- side b is up, and side a goes on connecting or goes up

pub data Opening (a b : HalfState) (there back : List Packet) : Type 0 where
  opens : HalfOpen b a back there → Opening a b there back
  opened : Joined a b there back → Opening a b there back

opening_near_came : (a b : HalfState) (there left : List Packet) (p : Packet)
    → Holds a b there (p ∷ left) → Holds (came a p) b (there ++ came_out a p) left
    → Opening a b there (p ∷ left) → Opening (came a p) b (there ++ came_out a p) left
opening_near_came a b there left p k now (opens h) =
    elim ((down_hears b a left there p k.near.out h).goes) [
      | inl half ↦ opens half
      | inr t ↦ opened (record {
        together = turned_together b (came a p) t.0;
        ticks = no_ticks a b there left p k t.1;
      })
    ]
opening_near_came a b there left p k now (opened h) =
    opened (joined_lasts.near_came a b there left p k now h)

opening_far_came : (a b : HalfState) (left back : List Packet) (p : Packet)
    → Holds a b (p ∷ left) back → Holds a (came b p) left (back ++ came_out b p)
    → Opening a b (p ∷ left) back → Opening a (came b p) left (back ++ came_out b p)
opening_far_came a b left back p k now (opens h) =
    opens (up_hears b a back left p (turned_holds a b (p ∷ left) back k) h).half
opening_far_came a b left back p k now (opened h) =
    opened (joined_lasts.far_came a b left back p k now h)

opening_near_offered : (a b : HalfState) (there back : List Packet) (m : Message)
    (peer : Session) → peer_of a.end ≡ Some peer → Holds a b there back
    → Holds (offered a m) b (there ++ offered_out a m) back → Opening a b there back
    → Opening (offered a m) b (there ++ offered_out a m) back
opening_near_offered a b there back m peer e k now (opens h) =
    absurd (let none = h.asks in grind arith)
opening_near_offered a b there back m peer e k now (opened h) =
    opened (joined_lasts.near_offered a b there back m peer e k now h)

opening_far_offered : (a b : HalfState) (there back : List Packet) (m : Message)
    (peer : Session) → peer_of b.end ≡ Some peer → Holds a b there back
    → Holds a (offered b m) there (back ++ offered_out b m) → Opening a b there back
    → Opening a (offered b m) there (back ++ offered_out b m)
opening_far_offered a b there back m peer e k now (opens h) =
    opens (half_offered b a back there m peer k.far.out e h)
opening_far_offered a b there back m peer e k now (opened h) =
    opened (joined_lasts.far_offered a b there back m peer e k now h)

pub opening_lasts : Lasts Opening
opening_lasts =
    record {
      near_came = opening_near_came;
      far_came = opening_far_came;
      near_offered = opening_near_offered;
      far_offered = opening_far_offered;
    }
