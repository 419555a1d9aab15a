-- Sides that aren't up with each other and can't become so: what one sends does nothing at the
-- other, or takes it down.
use Rattle.std.proofs.Common.{◌≡◌, ◌≢◌, ◌⊎◌, ◌<◌, ◌≤◌, ℕ, Option, Some, None, List, [], ◌∷◌}
use Rattle.std.proofs.Common.{◌++◌, All, refl, sym, ap, subst, ◌∙◌, arith, inl, inr}
use Rattle.std.proofs.lemmas.List.Elements.{All-append, All-cons, All-head, All-nil, All-same}
use Rattle.std.proofs.lemmas.List.Elements.{All-tail, All-weaker}
use Rattle.std.proofs.lemmas.Option.{same_Some}
use Rattle.linx_base.specs.declared.frame.ConnKind.TheVariants as kinds
use Rattle.linx_base.specs.declared.frame.Message.{Message}
use Rattle.linx_base.specs.declared.identity.Session.{Session}
use Rattle.ethcm_headers.specs.declared.packets.Packet.{Packet}
use Rattle.ethcm_headers.specs.declared.packets.Part.TheVariants.{Conn}
use Rattle.ethcm_session.specs.declared.standing.TalkState.{TalkState}
use Rattle.ethcm_session.specs.Table.{standing_peer}
use Rattle.ethcm_window.specs.Sending.{Sender}
use Rattle.ethcm_end.specs.declared.answers.Input.{Input}
use Rattle.ethcm_end.specs.declared.answers.Input.TheVariants as inputs
use Rattle.ethcm_end.specs.States.{EndState, Reaction, peer_of}
use Rattle.ethcm_end.specs.Rules.{input_of, offer_of}
use Rattle.ethcm_end.specs.Rows.{IsBetween}
use Rattle.ethcm_end.specs.Windows.{IsSent, PartSays, peer_or_unknown}
use Rattle.carrier.specs.Records.{HalfState, mine_of}
use Rattle.carrier.specs.Events.{drained}
use Rattle.carrier.specs.Keeping.{IsFlying, KeepsHalf}
use Rattle.carrier.proofs.Ends.{offered as offered_end}
use Rattle.carrier.proofs.Lookups.{session_upto}
use Rattle.link_settling.proofs.Flights.AllSent.{by_drained_rules}
use Rattle.link_settling.proofs.Flights.Steps.{Has, Holds, Lasts, came, came_end, came_out}
use Rattle.link_settling.proofs.Flights.Steps.{has_front, offered, offered_out, sent_all}
use Rattle.link_settling.proofs.Flights.Steps.{turned_holds}

-- ---- packets

-- the packet takes down an end that stands so: it is of a later session than the peer, or a RESET
pub record Ends (t : TalkState) (p : Packet) : Type 0 where
  pub peer : Session
  pub up : standing_peer t.standing ≡ Some peer
  pub by : (peer.0 < p.src.0)
      ⊎ ((p.src ≡ peer) × (p.dst ≡ t.mine.0) × (p.part ≡ Conn kinds.Reset))

-- it does nothing, or takes it down
pub record IsHushed (t : TalkState) (p : Packet) : Type 0 where
  pub not_connect : p.part ≢ Conn kinds.Connect
  pub mute : (p.dst < t.mine.0)
      ⊎ (Ends t p ⊎ ((standing_peer t.standing ≡ None) × (p.part ≡ Conn kinds.Reset)))

-- the session is over, and the next one is connecting
pub record Down (old new : TalkState) : Type 0 where
  pub connecting : standing_peer new.standing ≡ None
  pub later : old.mine.0 < new.mine.0

abbrev pub StaysOrDown : TalkState → TalkState → Type 0
StaysOrDown old new = (new ≡ old) ⊎ Down old new

-- what such a packet makes of an end
pub record Hushed (t : TalkState) (p : Packet) (r : Reaction Input) : Type 0 where
  pub silent : r.state.out ≡ []
  pub goes : StaysOrDown t r.state.talk
  pub ended : Ends t p → peer_of r.state ≡ None

-- a packet between the sessions that is no RESET isn't such a one
heard : (s : EndState) (p : Packet) → IsHushed s.talk p → IsBetween (drained s) p
    → p.part ≢ Conn kinds.Reset → ⊥
heard s p h between other =
    let to = between.to in
    elim h.mute [
      | inl before ↦ omega arith
      | inr more ↦ elim more [
        | inr none ↦ other none.1
        | inl ends ↦
            let same : ends.peer ≡ p.src = same_Some _ _ (sym ends.up ∙ between.from) in
            let number : ends.peer.0 ≡ p.src.0 = ap (λ (x : Session). x.0) same in
            elim ends.by [ inl less ↦ omega arith | inr reset ↦ other reset.2 ]
      ]
    ]

-- one that is ignored doesn't take down an end that stands so
not_ended : (s : EndState) (p : Packet) → Ends s.talk p → peer_of s ≡ None → ⊥
not_ended s p ends none = let up = ends.up in grind arith

pub hushed : (s : EndState) (p : Packet) → s.out ≡ [] → IsHushed s.talk p
    → Hushed s.talk p (input_of s p)
hushed s p out h =
    let stays : ((Ends s.talk p) → peer_of s ≡ None)
    → Hushed s.talk p (record { state = drained s; answer = inputs.Nothing }) =
    λ none. record { silent = refl; goes = inl refl; ended = none } in
    let never : IsBetween (drained s) p → p.part ≢ Conn kinds.Reset → ⊥ =
    λ between other. heard s p h between other in
    by_drained_rules (Hushed s.talk p) s p out (record {
      connecting_connect = λ e k. absurd (h.not_connect k);
      connecting_connect_ack = λ e k d. absurd (elim h.mute [
        | inl before ↦ omega arith
        | inr more ↦ elim more [
          | inl ends ↦ not_ended s p ends e
          | inr reset ↦ let q = reset.1 in grind arith
        ]
      ]);
      connecting_ack = λ e k d. absurd (elim h.mute [
        | inl before ↦ omega arith
        | inr more ↦ elim more [
          | inl ends ↦ not_ended s p ends e
          | inr reset ↦ let q = reset.1 in grind arith
        ]
      ]);
      connecting_other = λ e x y z. stays (λ ends. e);
      up_lower = λ peer e l. stays (λ ends.
          let same : ends.peer ≡ peer = same_Some _ _ (sym ends.up ∙ e) in
          let number : ends.peer.0 ≡ peer.0 = ap (λ (x : Session). x.0) same in
          absurd (elim ends.by [
            | inl less ↦ omega arith
            | inr reset ↦
                let src : p.src.0 ≡ ends.peer.0 = ap (λ (x : Session). x.0) reset.0 in
                omega arith
          ]));
      up_greater = λ peer e l.
          record {
            silent = refl;
            goes = inr (record { connecting = refl; later = omega arith });
            ended = λ ends. refl;
          };
      up_connect = λ e k. absurd (h.not_connect k);
      up_not_mine = λ e k d. stays (λ ends.
          let same : ends.peer ≡ p.src = same_Some _ _ (sym ends.up ∙ e) in
          let number : ends.peer.0 ≡ p.src.0 = ap (λ (x : Session). x.0) same in
          absurd (elim ends.by [ inl less ↦ omega arith | inr reset ↦ d reset.1 ]));
      up_reset = λ between k.
          record {
            silent = refl;
            goes = inr (record { connecting = refl; later = omega arith });
            ended = λ ends. refl;
          };
      up_connect_ack = λ between k. absurd (never between (λ q. grind arith));
      up_ack = λ between k. absurd (never between (λ q. grind arith));
      frames_acked = λ next between k. absurd (never between (λ q. grind arith));
      frames_missed = λ next count between k. absurd (never between (λ q. grind arith));
      old = λ next seq frame between k l. absurd (never between (λ q. grind arith));
      early_again = λ next seq frame between k l q. absurd (never between (λ q. grind arith));
      early = λ next seq frame between k l q. absurd (never between (λ q. grind arith));
      taken = λ next frame between k m. absurd (never between (λ q. grind arith));
      taken_whole = λ next frame m between k w. absurd (never between (λ q. grind arith));
      taken_broken = λ next frame between k w. absurd (never between (λ q. grind arith));
    })

-- ---- a side that stays or goes down

down_later : (t u v : TalkState) → StaysOrDown t u → StaysOrDown u v → StaysOrDown t v
down_later t u v (inl e) (inl q) = inl (q ∙ e)
down_later t u v (inl e) (inr down) =
    inr (record {
      connecting = down.connecting;
      later = subst (λ x. x.mine.0 < v.mine.0) e down.later;
    })
down_later t u v (inr down) (inl q) =
    inr (record {
      connecting = ap (λ (x : TalkState). standing_peer x.standing) q ∙ down.connecting;
      later = subst (λ x. t.mine.0 < x.mine.0) (sym q) down.later;
    })
down_later t u v (inr down) (inr again) =
    let a = down.later in
    let b = again.later in
    inr (record { connecting = again.connecting; later = omega arith })

-- a packet that is to no later session than its receiver's stays such a one
still_hushed : (t u : TalkState) (p : Packet) → StaysOrDown t u → p.dst ≤ t.mine.0 → IsHushed t p
    → IsHushed u p
still_hushed t u p (inl e) to h = subst (λ x. IsHushed x p) (sym e) h
still_hushed t u p (inr down) to h =
    let later = down.later in
    record { not_connect = h.not_connect; mute = inl (omega arith) }

pub all_hushed : (piece : ℕ) (near other : HalfState) (u : TalkState) (ps : List Packet)
    → StaysOrDown other.end.talk u → All (IsFlying piece near other) ps
    → All (IsHushed other.end.talk) ps → All (IsHushed u) ps
all_hushed piece near other u [] goes fly all = All-nil (IsHushed u)
all_hushed piece near other u (p ∷ ps) goes fly all =
    let f = All-head (IsFlying piece near other) p ps fly in
    All-cons (IsHushed u) p ps
    (still_hushed other.end.talk u p goes f.to (All-head (IsHushed other.end.talk) p ps all))
    (all_hushed piece near other u ps goes (All-tail (IsFlying piece near other) p ps fly)
    (All-tail (IsHushed other.end.talk) p ps all))

-- it is down, or what takes it down is in flight to it
abbrev pub IsEnding : TalkState → List Packet → Type 0
IsEnding t ps = (standing_peer t.standing ≡ None) ⊎ Has (Ends t) ps

ending_on : (t u : TalkState) (ps : List Packet) → StaysOrDown t u → IsEnding t ps
    → IsEnding u ps
ending_on t u ps (inl e) h = subst (λ x. IsEnding x ps) (sym e) h
ending_on t u ps (inr down) h = inl down.connecting

-- ---- what is sent

-- what the first end sends as it stands is hushed at the second
abbrev pub IsStrange : TalkState → TalkState → Type 0
IsStrange s t =
    (y : Session) → standing_peer s.standing ≡ Some y
    → (y.0 < t.mine.0) ⊎ ((z : Session) × (standing_peer t.standing ≡ Some z) × (z.0 < s.mine.0))

module _ (s : EndState) (t : TalkState) (strange : IsStrange s.talk t) where
  sent_hushed : (tx : Sender) (new : EndState) (y : Session) → peer_of s ≡ Some y
      → (p : Packet) → IsSent tx s new y p → IsHushed t p
  sent_hushed tx new y e p sent =
      let dst = sent.dst in
      let src : p.src.0 ≡ s.talk.mine.0 = ap (λ (x : Session). x.0) sent.src in
      record {
        not_connect = λ k.
            let says : PartSays tx s new y (Conn kinds.Connect) =
            subst (λ part. PartSays tx s new y part) k sent.says in
            let none = says.0 in
            grind arith;
        mute = elim (strange y e) [
          | inl before ↦ inl (omega arith)
          | inr ahead ↦
              let less = ahead.2 in
              inr (inl (record { peer = ahead.0; up = ahead.1; by = inl (omega arith) }))
        ];
      }

  pub all_sent_hushed : (tx : Sender) (new : EndState) (y : Session) → peer_of s ≡ Some y
      → (ps : List Packet) → All (IsSent tx s new y) ps → All (IsHushed t) ps
  all_sent_hushed tx new y e ps all =
      All-weaker (IsSent tx s new y) (IsHushed t) (sent_hushed tx new y e) ps all

-- as one of them goes down
pub strange_sender : (s t u : TalkState) → StaysOrDown s u → IsStrange s t → IsStrange u t
strange_sender s t u (inl e) h = subst (λ x. IsStrange x t) (sym e) h
strange_sender s t u (inr down) h = λ y e. let none = down.connecting in absurd (grind arith)

pub strange_receiver : (s t u : TalkState) → ((y : Session) → standing_peer s.standing ≡ Some y
    → y.0 ≤ t.mine.0) → StaysOrDown t u → IsStrange s t → IsStrange s u
strange_receiver s t u upto (inl e) h = subst (λ x. IsStrange s x) (sym e) h
strange_receiver s t u upto (inr down) h =
    λ y e.
    let before = upto y e in
    let later = down.later in
    inl (omega arith)

-- a peer is no later than the other side's session
pub peer_upto : (piece : ℕ) (a b : HalfState) (there back : List Packet)
    → KeepsHalf piece a b there → KeepsHalf piece b a back → (y : Session) → peer_of a.end ≡ Some y
    → y.0 ≤ mine_of b
peer_upto piece a b there back near far y e =
    session_upto y.0 b far.book.falls (near.book.peer_held y e)

-- ---- both sides

pub record Apart (a b : HalfState) (there back : List Packet) : Type 0 where
  pub near_strange : IsStrange a.end.talk b.end.talk
  pub far_strange : IsStrange b.end.talk a.end.talk
  pub near_hushed : All (IsHushed b.end.talk) there
  pub far_hushed : All (IsHushed a.end.talk) back

pub turned_apart : (a b : HalfState) (there back : List Packet) → Apart a b there back
    → Apart b a back there
turned_apart a b there back h =
    record {
      near_strange = h.far_strange;
      far_strange = h.near_strange;
      near_hushed = h.far_hushed;
      far_hushed = h.near_hushed;
    }

-- ---- they stay apart

module _ (a b : HalfState) (there left : List Packet) (p : Packet)
    (k : Holds a b there (p ∷ left)) (h : Apart a b there (p ∷ left)) where
  came_hushed : Hushed a.end.talk p (input_of a.end p)
  came_hushed =
      hushed a.end p k.near.out (All-head (IsHushed a.end.talk) p left h.far_hushed)

  came_talk : (came a p).end.talk ≡ (input_of a.end p).state.talk
  came_talk = ap (λ (s : EndState). s.talk) (came_end a p)

  came_goes : StaysOrDown a.end.talk (came a p).end.talk
  came_goes = subst (λ t. StaysOrDown a.end.talk t) (sym came_talk) came_hushed.goes

  apart_came : Apart (came a p) b (there ++ came_out a p) left
  apart_came =
      record {
        near_strange =
            strange_sender a.end.talk b.end.talk (came a p).end.talk came_goes h.near_strange;
        far_strange =
            strange_receiver b.end.talk a.end.talk (came a p).end.talk
            (peer_upto k.piece b a (p ∷ left) there k.far k.near) came_goes h.far_strange;
        near_hushed =
            All-append (IsHushed b.end.talk) there (came_out a p) h.near_hushed
            (All-same (IsHushed b.end.talk) (came_out a p) [] came_hushed.silent
            (All-nil (IsHushed b.end.talk)));
        far_hushed =
            all_hushed k.piece b a (came a p).end.talk left came_goes
            (All-tail (IsFlying k.piece b a) p left k.far.packets)
            (All-tail (IsHushed a.end.talk) p left h.far_hushed);
      }

  ending_came : IsEnding a.end.talk (p ∷ left) → IsEnding (came a p).end.talk left
  ending_came (inl none) = ending_on a.end.talk _ left came_goes (inl none)
  ending_came (inr (inl ends)) =
      inl (ap (λ (t : TalkState). standing_peer t.standing) came_talk ∙ came_hushed.ended ends)
  ending_came (inr (inr later)) = ending_on a.end.talk _ left came_goes (inr later)

module _ (a b : HalfState) (there back : List Packet) (m : Message) (peer : Session)
    (e : peer_of a.end ≡ Some peer) (k : Holds a b there back) where
  pub offered_talk : (offered a m).end.talk ≡ a.end.talk
  offered_talk = (offered_end a.end m peer e).talk

  pub all_offered_hushed : IsStrange a.end.talk b.end.talk
      → All (IsHushed b.end.talk) (offered_out a m)
  all_offered_hushed strange =
      let is = offered_end a.end m peer e in
      let to : EndState → Option Session → Type 0 =
      λ new q. All (IsSent new.tx a.end new (peer_or_unknown q)) new.out in
      all_sent_hushed a.end b.end.talk strange (offer_of a.end m).tx (offer_of a.end m) peer e
      (offered_out a m) (subst (to (offer_of a.end m)) e
      (sent_all (offer_of a.end m).tx a.end (offer_of a.end m) (peer_or_unknown (peer_of a.end))
      k.near.out is.sends))

  apart_offered : Apart a b there back → Apart (offered a m) b (there ++ offered_out a m) back
  apart_offered h =
      record {
        near_strange = subst (λ t. IsStrange t b.end.talk) (sym offered_talk) h.near_strange;
        far_strange = subst (λ t. IsStrange b.end.talk t) (sym offered_talk) h.far_strange;
        near_hushed =
            All-append (IsHushed b.end.talk) there (offered_out a m) h.near_hushed
            (all_offered_hushed h.near_strange);
        far_hushed = subst (λ t. All (IsHushed t) back) (sym offered_talk) h.far_hushed;
      }

pub apart_lasts : Lasts Apart
apart_lasts =
    record {
      near_came = λ a b there left p k now h. apart_came a b there left p k h;
      far_came = λ a b left back p k now h.
          turned_apart _ _ _ _ (apart_came b a back left p
          (turned_holds a b (p ∷ left) back k) (turned_apart a b (p ∷ left) back h));
      near_offered = λ a b there back m peer e k now h.
          apart_offered a b there back m peer e k h;
      far_offered = λ a b there back m peer e k now h.
          turned_apart _ _ _ _ (apart_offered b a back there m peer e
          (turned_holds a b there back k) (turned_apart a b there back h));
    }

-- a side stays, or goes down
module _ (a b : HalfState) (left back : List Packet) (p : Packet)
    (k : Holds a b (p ∷ left) back) (h : Apart a b (p ∷ left) back) where
  far_goes : StaysOrDown b.end.talk (came b p).end.talk
  far_goes =
      came_goes b a back left p (turned_holds a b (p ∷ left) back k)
      (turned_apart a b (p ∷ left) back h)

-- ---- side a is down, or what takes it down is in flight to it

pub record Ending (a b : HalfState) (there back : List Packet) : Type 0 where
  pub apart : Apart a b there back
  pub ending : IsEnding a.end.talk back

-- more is in flight to it
ending_more : (t : TalkState) (ps more : List Packet) → IsEnding t ps → IsEnding t (ps ++ more)
ending_more t ps more (inl none) = inl none
ending_more t ps more (inr has) = inr (has_front (Ends t) ps more has)

pub ending_lasts : Lasts Ending
ending_lasts =
    record {
      near_came = λ a b there left p k now h.
          record {
            apart = apart_lasts.near_came a b there left p k now h.apart;
            ending = ending_came a b there left p k h.apart h.ending;
          };
      far_came = λ a b left back p k now h.
          record {
            apart = apart_lasts.far_came a b left back p k now h.apart;
            ending = ending_more a.end.talk back (came_out b p) h.ending;
          };
      near_offered = λ a b there back m peer e k now h.
          record {
            apart = apart_lasts.near_offered a b there back m peer e k now h.apart;
            ending = subst (λ t. IsEnding t back)
                (sym (offered_talk a b there back m peer e k)) h.ending;
          };
      far_offered = λ a b there back m peer e k now h.
          record {
            apart = apart_lasts.far_offered a b there back m peer e k now h.apart;
            ending = ending_more a.end.talk back (offered_out b m) h.ending;
          };
    }

-- ---- both sides are down, or side a will be

pub record Silent (a b : HalfState) (there back : List Packet) : Type 0 where
  pub ending : Ending a b there back
  pub far_down : peer_of b.end ≡ None

pub silent_lasts : Lasts Silent
silent_lasts =
    record {
      near_came = λ a b there left p k now h.
          record {
            ending = ending_lasts.near_came a b there left p k now h.ending;
            far_down = h.far_down;
          };
      far_came = λ a b left back p k now h.
          record {
            ending = ending_lasts.far_came a b left back p k now h.ending;
            far_down = elim (far_goes a b left back p k h.ending.apart) [
              | inl same ↦ ap (λ (t : TalkState). standing_peer t.standing) same ∙ h.far_down
              | inr down ↦ down.connecting
            ];
          };
      near_offered = λ a b there back m peer e k now h.
          record {
            ending = ending_lasts.near_offered a b there back m peer e k now h.ending;
            far_down = h.far_down;
          };
      far_offered = λ a b there back m peer e k now h.
          absurd (let none = h.far_down in grind arith);
    }

-- ---- side b is down, or up with a session of side a before its present one

pub record Stale (a b : HalfState) (there back : List Packet) : Type 0 where
  pub apart : Apart a b there back
  pub earlier : (y : Session) → peer_of b.end ≡ Some y → y.0 < mine_of a

pub stale_lasts : Lasts Stale
stale_lasts =
    record {
      near_came = λ a b there left p k now h.
          record {
            apart = apart_lasts.near_came a b there left p k now h.apart;
            earlier = λ y e.
                let before = h.earlier y e in
                elim (came_goes a b there left p k h.apart) [
                  | inl same ↦
                      let n : mine_of (came a p) ≡ mine_of a =
                      ap (λ (t : TalkState). t.mine.0) same in
                      omega arith
                  | inr down ↦ let later = down.later in omega arith
                ];
          };
      far_came = λ a b left back p k now h.
          record {
            apart = apart_lasts.far_came a b left back p k now h.apart;
            earlier = λ y e.
                elim (far_goes a b left back p k h.apart) [
                  | inl same ↦
                      h.earlier y (sym (ap (λ (t : TalkState). standing_peer t.standing) same) ∙ e)
                  | inr down ↦ absurd (let none = down.connecting in grind arith)
                ];
          };
      near_offered = λ a b there back m peer e k now h.
          record {
            apart = apart_lasts.near_offered a b there back m peer e k now h.apart;
            earlier = λ y q.
                let before = h.earlier y q in
                let n : mine_of (offered a m) ≡ mine_of a =
                ap (λ (t : TalkState). t.mine.0) (offered_talk a b there back m peer e k) in
                omega arith;
          };
      far_offered = λ a b there back m peer e k now h.
          record {
            apart = apart_lasts.far_offered a b there back m peer e k now h.apart;
            earlier = λ y q.
                h.earlier y (sym (ap (λ (t : TalkState). standing_peer t.standing)
                (offered_talk b a back there m peer e (turned_holds a b there back k))) ∙ q);
          };
    }
