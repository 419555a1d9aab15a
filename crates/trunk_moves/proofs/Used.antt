-- How many addresses a side has in use: a call takes at most one more, and nothing else takes any.
use Rattle.std.proofs.Common.{◌≡◌, ◌≤◌, ◌+◌, ℕ, zero, suc, Bool, true, false, cond, List, [], ◌∷◌}
use Rattle.std.proofs.Common.{Option, Some, None, ap, arith, ◌||◌, is_some, slice_get, slice_set}
use Rattle.std.proofs.Common.{◌-◌}
use Rattle.std.proofs.lemmas.List.Sums.{sum_by-cons}
use Rattle.linx_base.specs.declared.identity.Inc.{Inc}
use Rattle.linx_base.specs.declared.identity.Side.{Side}
use Rattle.linx_base.specs.declared.identity.Side.TheVariants.{First, Second}
use Rattle.linx_base.specs.SigNotes.{SigNote}
use Rattle.link_addresses.specs.declared.meaning.Meaning.{Meaning}
use Rattle.link_addresses.specs.declared.meaning.Meaning.TheVariants.{Free, Live, Closing}
use Rattle.link_addresses.specs.Meanings.{address_of, is_used, meaning_of, used_in, with_lowest}
use Rattle.rlnh_messages.specs.declared.rlnh.Rlnh.TheVariants.{Publish, Unpublish, UnpublishAck}
use Rattle.rlnh_end.specs.declared.heard.Heard.{Heard}
use Rattle.rlnh_end.specs.declared.heard.Heard.TheVariants.{Control, Signal}
use Rattle.rlnh_end.specs.Calls.{Saying, announced, close_of, closed, publish_sender_of, opened_of}
use Rattle.rlnh_end.specs.Calls.{end_saying, publish_of, query_of, send_of}
use Rattle.rlnh_end.specs.declared.up.Up.TheVariants.{Bad, Met}
use Rattle.rlnh_end.specs.Hearing.{heard_ack, heard_signal, heard_unpublish, hears, only}
use Rattle.rlnh_end.specs.States.{RlnhTables, addr_met, inc_met, is_noted, with_met, without_note}
use Rattle.ethcm_end.specs.States.{peer_of}
use Rattle.ethcm_end.specs.Rules.{tick_of}
use Rattle.carrier.specs.declared.handed.Handed.{Handed}
use Rattle.carrier.specs.declared.handed.Handed.TheVariants as handed
use Rattle.carrier.specs.declared.handed.TickedSide.{TickedSide}
use Rattle.carrier.specs.declared.handed.TickedSide.TheVariants as ticked
use Rattle.carrier.specs.Events.{LinkState, near_handed, ticked_as}
use Rattle.carrier.specs.Events as links
use Rattle.trunk.specs.Events.{TrunkSide, TrunkState, asked_at, closed_at, delivered, near_beat}
use Rattle.trunk.specs.Events.{near_said}
use Rattle.trunk.specs.Events.{near_says, near_took, opened_at, published_at, restarted_at, said_at}
use Rattle.trunk.specs.Events.{sent_at, side_of, tables_of, ticked_at, turned, with_link}
use Rattle.trunk.proofs.EachEvent.Trunks.{events_tell}
use Rattle.trunk_moves.specs.Trunks.{UsesUpTo}

-- ---- addresses

abbrev counted : Meaning → ℕ
counted m = cond (is_used m) 1 0

more : (m : Meaning) (ms : List Meaning) → used_in (m ∷ ms) ≡ counted m + used_in ms
more m ms = sum_by-cons (λ k. cond (is_used k) 1 0) m ms

one_at_most : (m : Meaning) → counted m ≤ 1
one_at_most Free = omega arith
one_at_most (Live i) = omega arith
one_at_most (Closing i) = omega arith

lowest_used : (ms : List Meaning) (m : Meaning) → used_in (with_lowest ms m) ≤ used_in ms + 1
unfolding with_lowest
lowest_used [] m = omega (arith, more m [], one_at_most m)
lowest_used (Free ∷ ms) m = omega (arith, more m ms, more Free ms, one_at_most m)
lowest_used (Live j ∷ ms) m =
    omega (arith, more (Live j) ms, more (Live j) (with_lowest ms m), lowest_used ms m)
lowest_used (Closing j ∷ ms) m =
    omega (arith, more (Closing j) ms, more (Closing j) (with_lowest ms m), lowest_used ms m)

set_used : (ms : List Meaning) (k : ℕ) (m : Meaning)
    → used_in (slice_set ms k m) ≤ used_in ms + counted m
set_used [] k m = omega arith
set_used (x ∷ ms) zero m = omega (arith, more x ms, more m ms)
set_used (x ∷ ms) (suc k) m =
    omega (arith, more x ms, more x (slice_set ms k m), set_used ms k m)

-- ---- calls

announced_used : (t : RlnhTables) (i : Inc) (name : List ℕ) (at : Option ℕ)
    → used_in (announced t i name at).tables.own ≤ used_in t.own + 1
announced_used t i name None = lowest_used t.own (Live i)
announced_used t i name (Some addr) = omega arith

publish_used : (t : RlnhTables) (i : Inc) (name : List ℕ)
    → used_in (publish_of t i name).tables.own ≤ used_in t.own + 1
publish_used t i name =
    announced_used (record t { noted = without_note t.noted name }) i name (address_of t.own i)

opened_used : (t : RlnhTables) (i : Inc) (name : List ℕ)
    → used_in (opened_of t i name).tables.own ≤ used_in t.own + 1
opened_used t i name = by_noted (is_noted t.noted name)
  where
    by_noted : (b : Bool)
        → used_in (cond b (publish_of t i name) (end_saying t [])).tables.own ≤ used_in t.own + 1
    by_noted true = publish_used t i name
    by_noted false = omega arith

close_used : (t : RlnhTables) (i : Inc) → used_in (close_of t i).tables.own ≤ used_in t.own + 1
close_used t i = by_address (address_of t.own i)
  where
    by_address : (at : Option ℕ) → used_in (closed t i at).tables.own ≤ used_in t.own + 1
    by_address None = omega arith
    by_address (Some addr) = set_used t.own (addr - 1) (Closing i)

send_used : (t : RlnhTables) (i : Inc) (name : List ℕ) (b : Inc) (note : SigNote)
    → used_in (send_of t i name b note).tables.own ≤ used_in t.own + 1
send_used t i name b note = by_address (address_of t.own i)
  where
    by_address : (at : Option ℕ)
        → used_in (publish_sender_of t i name at).tables.own ≤ used_in t.own + 1
    by_address None = publish_used t i name
    by_address (Some addr) = omega arith

-- ---- what is heard

heard_used : (t : RlnhTables) (reading : Heard)
    → used_in (hears t reading).made.tables.own ≤ used_in t.own
unfolding hears
heard_used t (Control (Publish addr i name)) =
    by_met (is_some (inc_met t.met addr) || is_some (addr_met t.met i))
  where
    by_met : (b : Bool) → used_in (cond b (only t Bad)
        (only (record t { met = with_met t.met addr i }) (Met i name))).made.tables.own
        ≤ used_in t.own
    by_met true = omega arith
    by_met false = omega arith
heard_used t (Control (Unpublish addr)) = by_met (inc_met t.met addr)
  where
    by_met : (o : Option Inc) → used_in (heard_unpublish t addr o).made.tables.own ≤ used_in t.own
    by_met None = omega arith
    by_met (Some i) = omega arith
heard_used t (Control (UnpublishAck addr)) = by_meaning (meaning_of t.own addr)
  where
    by_meaning : (m : Meaning) → used_in (heard_ack t addr m).made.tables.own ≤ used_in t.own
    by_meaning Free = omega arith
    by_meaning (Live i) = omega arith
    by_meaning (Closing i) = omega (arith, set_used t.own (addr - 1) Free)
heard_used t (Signal from to note) = by_parts (inc_met t.met from) (meaning_of t.own to)
  where
    by_parts : (o : Option Inc) (m : Meaning)
        → used_in (heard_signal t note o m).made.tables.own ≤ used_in t.own
    by_parts None m = omega arith
    by_parts (Some i) Free = omega arith
    by_parts (Some i) (Live k) = omega arith
    by_parts (Some i) (Closing k) = omega arith
heard_used t _ = omega arith

-- ---- a trunk

abbrev pub uses : Side → TrunkState → ℕ
uses at t = used_in (tables_of at t).own

pub uses_same : (at : Side) (t u : TrunkState) → side_of at u ≡ side_of at t → uses at u ≡ uses at t
uses_same at t u same = ap (λ (s : TrunkSide). used_in s.end.tables.own) same

near_uses : (t : TrunkState) (made : Saying) (n : ℕ) → used_in t.first.end.tables.own ≤ n
    → used_in made.tables.own ≤ n → used_in (near_said t made).first.end.tables.own ≤ n
near_uses t made n was is =
    elim (is_some (peer_of t.link.first.end))
    as (λ b. used_in (cond b (near_says t made) t).first.end.tables.own ≤ n)
    [ true ↦ is | false ↦ was ]

-- a call at a side uses no more than its saying does
pub said_uses : (at : Side) (call : RlnhTables → Saying) (t : TrunkState) (n : ℕ) → UsesUpTo n t
    → used_in (call (tables_of at t)).tables.own ≤ n → UsesUpTo n (said_at at call t)
said_uses First call t n was is First =
    near_uses t (call (tables_of First t)) n (was First) is
said_uses First call t n was is Second =
    omega (
      arith,
      was Second,
      uses_same Second t (said_at First call t) (events_tell.calls.other First call t),
    )
said_uses Second call t n was is First =
    omega (
      arith,
      was First,
      uses_same First t (said_at Second call t) (events_tell.calls.other Second call t),
    )
said_uses Second call t n was is Second =
    near_uses (turned t) (call (tables_of Second t)) n (was Second) is

pub up_to_more : (n : ℕ) (t : TrunkState) → UsesUpTo n t → UsesUpTo (suc n) t
up_to_more n t was side = omega (arith, was side)

pub published_uses : (at : Side) (i : Inc) (name : List ℕ) (t : TrunkState) (n : ℕ)
    → UsesUpTo n t → UsesUpTo (suc n) (published_at at i name t)
published_uses at i name t n was =
    said_uses at (λ s. publish_of s i name) t (suc n) (up_to_more n t was)
    (omega (arith, was at, publish_used (tables_of at t) i name))

pub opened_uses : (at : Side) (i : Inc) (name : List ℕ) (t : TrunkState) (n : ℕ)
    → UsesUpTo n t → UsesUpTo (suc n) (opened_at at i name t)
opened_uses at i name t n was =
    said_uses at (λ s. opened_of s i name) t (suc n) (up_to_more n t was)
    (omega (arith, was at, opened_used (tables_of at t) i name))

pub closed_uses : (at : Side) (i : Inc) (t : TrunkState) (n : ℕ)
    → UsesUpTo n t → UsesUpTo (suc n) (closed_at at i t)
closed_uses at i t n was =
    said_uses at (λ s. close_of s i) t (suc n) (up_to_more n t was)
    (omega (arith, was at, close_used (tables_of at t) i))

pub asked_uses : (at : Side) (name : List ℕ) (t : TrunkState) (n : ℕ)
    → UsesUpTo n t → UsesUpTo n (asked_at at name t)
asked_uses at name t n was = said_uses at (λ s. query_of s name) t n was (was at)

pub sent_uses : (at : Side) (i : Inc) (name : List ℕ) (b : Inc) (note : SigNote) (t : TrunkState)
    (n : ℕ) → UsesUpTo n t → UsesUpTo (suc n) (sent_at at i name b note t)
sent_uses at i name b note t n was =
    said_uses at (λ s. send_of s i name b note) t (suc n) (up_to_more n t was)
    (omega (arith, was at, send_used (tables_of at t) i name b note))

-- a packet
took_uses : (t : TrunkState) (v : LinkState) (reading : Heard) (h : Handed)
    → used_in (near_took (with_link t v) reading h).first.end.tables.own
    ≤ used_in t.first.end.tables.own
took_uses t v reading handed.Nothing = omega arith
took_uses t v reading (handed.WentUp session peer) = omega arith
took_uses t v reading (handed.WentDown session) = omega arith
took_uses t v reading (handed.Got m) = heard_used t.first.end.tables reading

pub delivered_uses : (from : Side) (k : ℕ) (keep : Bool) (reading : Heard) (t : TrunkState) (n : ℕ)
    → UsesUpTo n t → UsesUpTo n (delivered from k keep reading t)
delivered_uses First k keep reading t n was First =
    omega (
      arith,
      was First,
      uses_same First t (delivered First k keep reading t)
          (events_tell.packets.sender First k keep reading t),
    )
delivered_uses First k keep reading t n was Second =
    omega (
      arith,
      was Second,
      took_uses (turned t)
          (links.near_delivered (turned t).link k keep) reading
          (near_handed (turned t).link (slice_get (turned t).link.back k)),
    )
delivered_uses Second k keep reading t n was First =
    omega (
      arith,
      was First,
      took_uses t (links.near_delivered t.link k keep) reading
          (near_handed t.link (slice_get t.link.back k)),
    )
delivered_uses Second k keep reading t n was Second =
    omega (
      arith,
      was Second,
      uses_same Second t (delivered Second k keep reading t)
          (events_tell.packets.sender Second k keep reading t),
    )

-- a tick
beat_uses : (t : TrunkState) (told : TickedSide)
    → used_in (near_beat t told).first.end.tables.own ≤ used_in t.first.end.tables.own
beat_uses t ticked.Stays = omega arith
beat_uses t (ticked.WentDown session) = omega arith

pub ticked_uses : (at : Side) (t : TrunkState) (n : ℕ) → UsesUpTo n t → UsesUpTo n (ticked_at at t)
ticked_uses First t n was First =
    omega (
      arith,
      was First,
      beat_uses (with_link t (links.near_ticked t.link))
          (ticked_as t.link.first.end.talk.mine (tick_of t.link.first.end).answer),
    )
ticked_uses First t n was Second =
    omega (
      arith,
      was Second,
      uses_same Second t (ticked_at First t) (events_tell.turns.tick_other First t),
    )
ticked_uses Second t n was First =
    omega (
      arith,
      was First,
      uses_same First t (ticked_at Second t) (events_tell.turns.tick_other Second t),
    )
ticked_uses Second t n was Second =
    omega (
      arith,
      was Second,
      beat_uses (with_link (turned t) (links.near_ticked (turned t).link))
          (ticked_as (turned t).link.first.end.talk.mine
          (tick_of (turned t).link.first.end).answer),
    )

-- a restart
pub restarted_uses : (at : Side) (boot : ℕ) (t : TrunkState) (n : ℕ) → UsesUpTo n t
    → UsesUpTo n (restarted_at at boot t)
restarted_uses First boot t n was First = omega arith
restarted_uses First boot t n was Second =
    omega (
      arith,
      was Second,
      uses_same Second t (restarted_at First boot t) (events_tell.turns.restart_other First boot t),
    )
restarted_uses Second boot t n was First =
    omega (
      arith,
      was First,
      uses_same First t (restarted_at Second boot t)
          (events_tell.turns.restart_other Second boot t),
    )
restarted_uses Second boot t n was Second = omega arith
