-- How many messages a side has offered in its session: a call offers at most two more.
use Rattle.std.proofs.Common.{◌≡◌, ◌≤◌, ◌+◌, ℕ, true, false, cond, List, [], ◌∷◌, ◌++◌}
use Rattle.std.proofs.Common.{length, arith, refl, ap, is_some, length-append}
use Rattle.linx_base.specs.Sides.{other_of}
use Rattle.linx_base.specs.declared.frame.Message.{Message}
use Rattle.linx_base.specs.declared.identity.Inc.{Inc}
use Rattle.linx_base.specs.declared.identity.Side.{Side}
use Rattle.linx_base.specs.declared.identity.Side.TheVariants.{First, Second}
use Rattle.linx_base.specs.SigNotes.{SigNote}
use Rattle.ethcm_end.specs.States.{peer_of}
use Rattle.carrier.specs.Records.{HalfState}
use Rattle.carrier.specs.Events.{LinkState, half_of, near_offered}
use Rattle.rlnh_end.specs.Calls.{Saying, close_of, opened_of}
use Rattle.rlnh_end.specs.Calls.{publish_of, query_of, send_of, with_words}
use Rattle.rlnh_end.specs.States.{RlnhTables}
use Rattle.rlnh_end.specs.Words.{Word, message_of}
use Rattle.trunk.proofs.EachEvent.Calls.{close_few, opened_few, publish_few, send_few}
use Rattle.trunk.proofs.Sessions.Silence.{offers_second}
use Rattle.trunk.specs.Events.{TrunkState, asked_at, closed_at, near_offers, near_said, near_says}
use Rattle.trunk.specs.Events.{opened_at, published_at, said_at, sent_at, side_of, tables_of}
use Rattle.trunk.specs.Events.{turned}

-- ---- what is said is offered

pub words_few : (out : List Message) (ws : List Word)
    → length (with_words out ws) ≡ length out + length ws
words_few out [] = omega arith
words_few out (w ∷ ws) =
    omega (
      arith,
      words_few (out ++ message_of w ∷ []) ws,
      length-append out (message_of w ∷ []),
    )

pub near_count : (v : LinkState) (ms : List Message)
    → length (near_offers v ms).first.offered ≡ length v.first.offered + length ms
near_count v [] = omega arith
near_count v (m ∷ ms) =
    omega (arith, near_count (near_offered v m) ms, length-append v.first.offered (m ∷ []))

-- ---- a side

-- all that an RLNH end had to say went out
abbrev pub HasSaidAll : Side → TrunkState → Type 0
HasSaidAll at t = (side_of at t).end.out ≡ []

-- the messages that a side has offered in its session
abbrev pub offers : Side → TrunkState → ℕ
offers at t = length (half_of at t.link).offered

module _ (t : TrunkState) (made : Saying) where
  near_offers_few : (n k : ℕ) → t.first.end.out ≡ [] → length t.link.first.offered ≤ n
      → length made.says ≤ k → length (near_said t made).link.first.offered ≤ n + k
  near_offers_few n k none was few =
      elim (is_some (peer_of t.link.first.end))
      as (λ b. length (cond b (near_says t made) t).link.first.offered ≤ n + k) [
        | true ↦
            omega (
              arith,
              near_count t.link (with_words t.first.end.out made.says),
              words_few t.first.end.out made.says,
              ap (λ (ms : List Message). length ms) none,
              was,
              few,
            )
        | false ↦ omega (arith, was)
      ]

  near_offers_other : (near_said t made).link.second ≡ t.link.second
  near_offers_other =
      elim (is_some (peer_of t.link.first.end))
      as (λ b. (cond b (near_says t made) t).link.second ≡ t.link.second)
      [ true ↦ offers_second t.link (with_words t.first.end.out made.says) | false ↦ refl ]

  near_out : t.first.end.out ≡ [] → (near_said t made).first.end.out ≡ []
  near_out none =
      elim (is_some (peer_of t.link.first.end))
      as (λ b. (cond b (near_says t made) t).first.end.out ≡ [])
      [ true ↦ refl | false ↦ none ]

-- a call at a side offers no more there than it says
pub said_offers : (at : Side) (call : RlnhTables → Saying) (t : TrunkState) (n k : ℕ)
    → HasSaidAll at t → offers at t ≤ n → length (call (tables_of at t)).says ≤ k
    → offers at (said_at at call t) ≤ n + k
said_offers First call t n k none was few =
    near_offers_few t (call (tables_of First t)) n k none was few
said_offers Second call t n k none was few =
    near_offers_few (turned t) (call (tables_of Second t)) n k none was few

-- and the other side stays
pub said_stays : (at : Side) (call : RlnhTables → Saying) (t : TrunkState)
    → offers (other_of at) (said_at at call t) ≡ offers (other_of at) t
said_stays First call t =
    ap (λ (h : HalfState). length h.offered) (near_offers_other t (call (tables_of First t)))
said_stays Second call t =
    ap (λ (h : HalfState). length h.offered)
    (near_offers_other (turned t) (call (tables_of Second t)))

pub said_all : (at : Side) (call : RlnhTables → Saying) (t : TrunkState) → HasSaidAll at t
    → HasSaidAll at (said_at at call t)
said_all First call t none = near_out t (call (tables_of First t)) none
said_all Second call t none = near_out (turned t) (call (tables_of Second t)) none

-- ---- both sides

-- neither side has offered more than so many messages in its session
abbrev pub OffersUpTo : ℕ → TrunkState → Type 0
OffersUpTo n t = (side : Side) → offers side t ≤ n

-- what holds of a side and of the other one holds of both
pub by_sides : (at : Side) (T : Side → Type 0) → T at → T (other_of at) → (side : Side) → T side
by_sides First T here there First = here
by_sides First T here there Second = there
by_sides Second T here there First = there
by_sides Second T here there Second = here

module _ (at : Side) (t : TrunkState) (n : ℕ) (none : HasSaidAll at t) (was : OffersUpTo n t) where
  both_offer : (call : RlnhTables → Saying) (k : ℕ) → length (call (tables_of at t)).says ≤ k
      → OffersUpTo (n + k) (said_at at call t)
  both_offer call k few =
      by_sides at (λ side. offers side (said_at at call t) ≤ n + k)
      (said_offers at call t n k none (was at) few)
      (omega (arith, was (other_of at), said_stays at call t))

  pub published_offers : (i : Inc) (name : List ℕ) → OffersUpTo (n + 1) (published_at at i name t)
  published_offers i name =
      both_offer (λ s. publish_of s i name) 1 (publish_few (tables_of at t) i name)

  pub opened_offers : (i : Inc) (name : List ℕ) → OffersUpTo (n + 1) (opened_at at i name t)
  opened_offers i name =
      both_offer (λ s. opened_of s i name) 1 (opened_few (tables_of at t) i name)

  pub closed_offers : (i : Inc) → OffersUpTo (n + 1) (closed_at at i t)
  closed_offers i = both_offer (λ s. close_of s i) 1 (close_few (tables_of at t) i)

  pub asked_offers : (name : List ℕ) → OffersUpTo (n + 1) (asked_at at name t)
  asked_offers name = both_offer (λ s. query_of s name) 1 (omega arith)

  pub sent_offers : (i : Inc) (name : List ℕ) (b : Inc) (note : SigNote)
      → OffersUpTo (n + 2) (sent_at at i name b note t)
  sent_offers i name b note =
      both_offer (λ s. send_of s i name b note) 2 (send_few (tables_of at t) i name b note)
