-- What holds of every row of the table of sessions.
use Rattle.std.proofs.Common.{◌≡◌, ◌≢◌, ℕ, ◌<◌, ◌≤◌, ◌↔◌, Bool, true, false, Option, None, Some}
use Rattle.std.proofs.Common.{eqb, ltb, refl, sym, ap, subst, ◌⊎◌, inl, inr, arith, ltb-true}
use Rattle.std.proofs.Common.{ltb-false}
use Rattle.std.proofs.lemmas.Bool.Decides.{eqb_tells}
use Rattle.linx_base.specs.declared.identity.Session.{Session}
use Rattle.linx_base.specs.declared.frame.ConnKind.{ConnKind}
use Rattle.linx_base.specs.declared.frame.ConnKind.TheVariants.{Connect, ConnectAck, Ack, Reset}
use Rattle.linx_base.specs.Numbers.{next_session, IsNumbered}
use Rattle.ethcm_session.specs.declared.standing.Standing.{Standing}
use Rattle.ethcm_session.specs.declared.standing.Standing.TheVariants.{Connecting, Up}
use Rattle.ethcm_session.specs.declared.standing.TalkState.{TalkState}
use Rattle.ethcm_session.specs.declared.standing.Change.{Change}
use Rattle.ethcm_session.specs.declared.standing.Change.TheVariants.{WentDown}
use Rattle.ethcm_session.specs.Table.{Outcome, SessionRules, HasNext, gives, while_connecting}
use Rattle.ethcm_session.specs.Table.{from_peer, while_up, outcome_in, outcome_of}

-- ---- what holds of each row holds of what a packet gives

-- whether a packet to dst is to this session
record TellsMine (old : TalkState) (dst : ℕ) (to_me : Bool) : Type 0 where
  pub is : to_me ≡ true → dst ≡ old.mine.0
  pub isnt : to_me ≡ false → dst ≢ old.mine.0

tells_mine : (old : TalkState) (dst : ℕ) → TellsMine old dst (eqb dst old.mine.0)
tells_mine old dst =
    elim (eqb_tells dst old.mine.0) [
      | inl w ↦ record { is = λ e. w.1; isnt = λ e. absurd cc }
      | inr w ↦ record { is = λ e. absurd cc; isnt = λ e. w.1 }
    ]

module _ (P : Outcome → Type 0) (old : TalkState) (src : Session) (dst : ℕ) where
  of_connecting : (kind : Option ConnKind) (to_me : Bool) → TellsMine old dst to_me
      → old.standing ≡ Connecting → SessionRules P old src dst kind
      → P (while_connecting old src kind to_me)
  of_connecting (Some Connect) to_me tells e rows = rows.connecting_connect e refl
  of_connecting (Some ConnectAck) true tells e rows =
      rows.connecting_connect_ack e refl (tells.is refl)
  of_connecting (Some ConnectAck) false tells e rows =
      rows.connecting_other e (λ q. cc) (λ q. tells.isnt refl) (λ q. absurd cc)
  of_connecting (Some Ack) true tells e rows = rows.connecting_ack e refl (tells.is refl)
  of_connecting (Some Ack) false tells e rows =
      rows.connecting_other e (λ q. cc) (λ q. absurd cc) (λ q. tells.isnt refl)
  of_connecting (Some Reset) to_me tells e rows =
      rows.connecting_other e (λ q. cc) (λ q. absurd cc) (λ q. absurd cc)
  of_connecting None to_me tells e rows =
      rows.connecting_other e (λ q. cc) (λ q. absurd cc) (λ q. absurd cc)

  of_peer : (kind : Option ConnKind) (to_me confirmed : Bool) → TellsMine old dst to_me
      → old.standing ≡ Up src confirmed → SessionRules P old src dst kind
      → P (from_peer old src kind to_me)
  of_peer (Some Connect) to_me confirmed tells e rows = rows.up_connect confirmed e refl
  of_peer (Some ConnectAck) true confirmed tells e rows =
      rows.up_connect_ack confirmed e (tells.is refl) refl
  of_peer (Some Ack) true confirmed tells e rows = rows.up_ack confirmed e (tells.is refl) refl
  of_peer (Some Reset) true confirmed tells e rows = rows.up_reset confirmed e (tells.is refl) refl
  of_peer None true confirmed tells e rows = rows.up_data confirmed e (tells.is refl) refl
  of_peer _ false confirmed tells e rows =
      rows.up_not_mine confirmed e (λ q. cc) (tells.isnt refl)

  of_up : (kind : Option ConnKind) (peer : Session) (confirmed lower greater : Bool)
      → ltb src.0 peer.0 ≡ lower → ltb peer.0 src.0 ≡ greater
      → old.standing ≡ Up peer confirmed → SessionRules P old src dst kind
      → P (while_up old peer src kind (eqb dst old.mine.0))
  of_up kind peer confirmed true greater l g e rows =
      rw l (rows.up_lower peer confirmed e (ltb-true _ _ l))
  of_up kind peer confirmed false true l g e rows =
      rw (l, g) (rows.up_greater peer confirmed e (ltb-true _ _ g))
  of_up kind peer confirmed false false l g e rows =
      let from : peer.0 ≤ src.0 = ltb-false _ _ l in
      let to : src.0 ≤ peer.0 = ltb-false _ _ g in
      let number : peer.0 ≡ src.0 = omega arith in
      let same : peer ≡ src = ap (λ (n : ℕ). record { 0 = n }) number in
      rw (l, g, same) (of_peer kind (eqb dst old.mine.0) confirmed (tells_mine old dst)
      (subst (λ (s : Session). old.standing ≡ Up s confirmed) same e) rows)

  of_standing : (kind : Option ConnKind) (standing : Standing) → old.standing ≡ standing
      → SessionRules P old src dst kind → P (outcome_in standing old src dst kind)
  of_standing kind Connecting e rows =
      of_connecting kind (eqb dst old.mine.0) (tells_mine old dst) e rows
  of_standing kind (Up peer confirmed) e rows =
      of_up kind peer confirmed (ltb src.0 peer.0) (ltb peer.0 src.0) refl refl e rows

  pub by_rows : (kind : Option ConnKind) → SessionRules P old src dst kind
      → P (outcome_of old src dst kind)
  by_rows kind rows = of_standing kind old.standing refl rows

-- ---- the session number

-- the end goes down to its next session, or keeps its session
abbrev pub NumbersSession : TalkState → Outcome → Type 0
NumbersSession old outcome =
    ((outcome.change ≡ WentDown) × (outcome.state.mine ≡ next_session old.mine))
    ⊎ ((outcome.change ≢ WentDown) × (outcome.state.mine ≡ old.mine))

pub numbers_of : (old : TalkState) (src : Session) (dst : ℕ) (kind : Option ConnKind)
    → NumbersSession old (outcome_of old src dst kind)
numbers_of old src dst kind =
    by_rows (NumbersSession old) old src dst kind (record {
      connecting_connect = λ e k. inr (λ q. cc, refl);
      connecting_connect_ack = λ e k d. inr (λ q. cc, refl);
      connecting_ack = λ e k d. inr (λ q. cc, refl);
      connecting_other = λ e k a b. inr (λ q. cc, refl);
      up_lower = λ p c e l. inr (λ q. cc, refl);
      up_greater = λ p c e l. inl (refl, refl);
      up_connect = λ c e k. inr (λ q. cc, refl);
      up_not_mine = λ c e k d. inr (λ q. cc, refl);
      up_reset = λ c e d k. inl (refl, refl);
      up_connect_ack = λ c e d k. inr (λ q. cc, refl);
      up_ack = λ c e d k. inr (λ q. cc, refl);
      up_data = λ c e d k. inr (λ q. cc, refl);
    })

-- the next session has a boot number and a count from 1 again
pub next_numbered : (session : Session) → IsNumbered session → HasNext session
    → IsNumbered (next_session session)
next_numbered session h k = let high = h.0 in let low = h.1 in (omega arith, omega arith)

-- what the outcome of a packet says of the session number
module _ (old : TalkState) (src : Session) (dst : ℕ) (kind : Option ConnKind)
    (change : Change) (new : TalkState)
    (outcome : gives change new ≡ outcome_of old src dst kind) where
  numbers : NumbersSession old (gives change new)
  numbers = subst (NumbersSession old) (sym outcome) (numbers_of old src dst kind)

  -- it rises exactly where the end goes down
  pub session_rises : (change ≡ WentDown) ↔ (old.mine.0 < new.mine.0)
  session_rises =
      elim numbers [
        | inl w ↦
            let n = ap (λ (s : Session). s.0) w.1 in
            (λ q. omega arith, λ h. w.0)
        | inr w ↦
            let n = ap (λ (s : Session). s.0) w.1 in
            (λ q. absurd (w.0 q), λ h. absurd (omega arith))
      ]

  -- it never falls
  pub session_never_falls : old.mine.0 ≤ new.mine.0
  session_never_falls =
      elim numbers [
        | inl w ↦ let n = ap (λ (s : Session). s.0) w.1 in omega arith
        | inr w ↦ let n = ap (λ (s : Session). s.0) w.1 in omega arith
      ]

  pub session_numbered : IsNumbered old.mine → HasNext old.mine → IsNumbered new.mine
  session_numbered h k =
      elim numbers [
        | inl w ↦ subst IsNumbered (sym w.1) (next_numbered old.mine h k)
        | inr w ↦ subst IsNumbered (sym w.1) h
      ]
