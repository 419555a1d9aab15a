-- What a call at a side of a trunk, and a restart of it, makes of the sides that a run of moves
-- sees.
use Rattle.std.proofs.Common.{◌≡◌, ◌≢◌, ◌≤◌, ℕ, Bool, true, false, cond, ◌&&◌, ◌||◌, List, [], ◌∷◌}
use Rattle.std.proofs.Common.{Option, Some, None, map, refl, sym, ◌∙◌, ap, subst, arith, ◌==◌}
use Rattle.std.proofs.Common.{is_some, bytes_eq}
use Rattle.std.specs.List.{list_any}
use Rattle.linx_base.specs.FirstMatch.{without_match}
use Rattle.linx_base.specs.Numbers.{first_session}
use Rattle.linx_base.specs.Sides.{other_of}
use Rattle.linx_base.specs.declared.identity.Inc.{Inc}
use Rattle.linx_base.specs.declared.identity.Session.{Session}
use Rattle.linx_base.specs.declared.identity.Side.{Side}
use Rattle.linx_base.specs.declared.identity.Side.TheVariants.{First, Second}
use Rattle.linx_base.specs.SigNotes.{SigNote}
use Rattle.rlnh_end.specs.Calls.{Saying, close_of, opened_of, query_of, send_of}
use Rattle.rlnh_end.specs.States.{RlnhTables, is_noted, without_note}
use Rattle.trunk_record.specs.Changes.{saying, says_sending}
use Rattle.trunk_record.specs.Records.{SideRecord}
use Rattle.trunk_record.specs.Sayings.{asked, heard_as, is_live, published, unpublished}
use Rattle.trunk_record.specs.Trunks.{IsHalf}
use Rattle.link_laws.specs.Moves.{Begins, ClosesAt, IsLeft, KeepsNotes, PublishesOpened, is_up}
use Rattle.link_laws.proofs.Endpoints.Names.{bytes_eq-is, bytes_eq-itself}
use Rattle.trunk.specs.Events.{TrunkSide, TrunkState, asked_at, closed_at, kept_of, opened_at}
use Rattle.trunk.specs.Events.{restarted_at, said_at, sent_at, side_of}
use Rattle.trunk.specs.Keeping.{KeepsTrunk}
use Rattle.trunk.specs.Tells.{noted_of, silent_of}
use Rattle.trunk.proofs.EachEvent.Trunks.{events_tell, trunk_record}
use Rattle.trunk_moves.specs.Trunks.{state_of}

-- ---- lists of names

-- another name stays where a name is taken out
pub others_stay : (v w : List ℕ) (names : List (List ℕ)) → bytes_eq w v ≡ false
    → list_any (bytes_eq w) names ≡ true → list_any (bytes_eq w) (without_match (bytes_eq v) names)
    ≡ true
others_stay v w [] apart is = is
others_stay v w (x ∷ names) apart is =
    by_first (bytes_eq v x) refl (bytes_eq w x) refl is (others_stay v w names apart)
  where
    by_first : (t : Bool) → bytes_eq v x ≡ t → (u : Bool) → bytes_eq w x ≡ u
        → list_any (bytes_eq w) (x ∷ names) ≡ true
        → (list_any (bytes_eq w) names ≡ true
        → list_any (bytes_eq w) (without_match (bytes_eq v) names) ≡ true)
        → list_any (bytes_eq w) (cond t names (x ∷ without_match (bytes_eq v) names)) ≡ true
    by_first true here true same among rest =
        let one : w ≡ v = bytes_eq-is w x same ∙ sym (bytes_eq-is v x here) in
        let itself : bytes_eq w v ≡ true =
        subst (λ y. bytes_eq w y ≡ true) one (bytes_eq-itself w) in
        absurd cc
    by_first true here false other among rest =
        sym (ap (λ b. b || list_any (bytes_eq w) names) other) ∙ among
    by_first false elsewhere true same among rest =
        ap (λ b. b || list_any (bytes_eq w) (without_match (bytes_eq v) names)) same
    by_first false elsewhere false other among rest =
        ap (λ b. b || list_any (bytes_eq w) (without_match (bytes_eq v) names)) other
        ∙ rest (sym (ap (λ b. b || list_any (bytes_eq w) names) other) ∙ among)

-- ---- what stays

-- a side that stays, with what it heard, is left
pub left_of : (at : Side) (t u : TrunkState) → side_of at u ≡ side_of at t
    → silent_of at u ≤ silent_of at t → IsLeft (state_of at t) (state_of at u)
left_of at t u same silent = record {
  side = ap (λ (s : TrunkSide). s.kept) same;
  noted = ap (λ (s : TrunkSide). s.end.tables.noted) same;
  silent = silent;
}

pub left_itself : (at : Side) (t : TrunkState) → IsLeft (state_of at t) (state_of at t)
left_itself at t = left_of at t t refl (omega arith)

-- a call leaves the other side
pub other_left : (at : Side) (call : RlnhTables → Saying) (t : TrunkState)
    → IsLeft (state_of (other_of at) t) (state_of (other_of at) (said_at at call t))
other_left at call t =
    left_of (other_of at) t (said_at at call t) (events_tell.calls.other at call t)
    (omega (arith, events_tell.silence.call at (other_of at) call t))

-- what a trunk keeps of a side
pub half_at : (at : Side) (t : TrunkState) → KeepsTrunk t
    → IsHalf (kept_of at t) (kept_of (other_of at) t)
half_at First t kept = (trunk_record t kept).near
half_at Second t kept = (trunk_record t kept).far

pub is_some-not_none : (p : Option Session) → is_some p ≡ true → p ≢ None
is_some-not_none None is none = absurd cc
is_some-not_none (Some y) is none = absurd cc

module _ (at : Side) (t : TrunkState) (kept : KeepsTrunk t) where
  abbrev A : SideRecord
  A = kept_of at t

  abbrev noted : List (List ℕ)
  noted = noted_of at t

  -- a call says nothing where its side isn't up, and leaves what it heard
  same_silent : (call : RlnhTables → Saying) → silent_of at (said_at at call t) ≤ silent_of at t
  same_silent call = omega (arith, events_tell.silence.call at at call t)

  -- ---- an opening

  module _ (i : Inc) (name : List ℕ) (new : is_live i A.now.said ≡ false) where
    abbrev opened : TrunkState
    opened = opened_at at i name t

    opened_notes : (b : Bool) → noted_of at opened ≡ cond b (without_note noted name) noted
        → KeepsNotes name (state_of at t) (state_of at opened)
    opened_notes true is w apart was =
        ap (list_any (bytes_eq w)) is ∙ others_stay name w noted apart was
    opened_notes false is w apart was = ap (list_any (bytes_eq w)) is ∙ was

    opened_up : (y : Session) → A.now.peer ≡ Some y
        → PublishesOpened i name (state_of at t) (state_of at opened)
    opened_up y up =
        let says = events_tell.calls.opened at i name t kept (λ none. absurd cc) in
        record {
          side = says.kept
              ∙ ap (λ live. saying (cond (is_noted noted name)
              (cond live [] (published i name ∷ []))
              []) A) new
              ∙ ap (λ p. saying (cond (is_some p && is_noted noted name) (published i name ∷ []) [])
              A) (sym up);
          noted = opened_notes (is_noted noted name) says.notes;
          silent = same_silent (λ s. opened_of s i name);
        }

    opened_down : A.now.peer ≡ None → PublishesOpened i name (state_of at t) (state_of at opened)
    opened_down none = record {
      side = ap (kept_of at) (events_tell.calls.down at (λ s. opened_of s i name) t kept none)
          ∙ ap (λ p. saying (cond (is_some p && is_noted noted name) (published i name ∷ []) []) A)
          (sym none);
      noted = opened_notes false
          (ap (noted_of at) (events_tell.calls.down at (λ s. opened_of s i name) t kept none));
      silent = same_silent (λ s. opened_of s i name);
    }

    pub side_opened : PublishesOpened i name (state_of at t) (state_of at opened)
    side_opened = by_peer A.now.peer refl
      where
        by_peer : (p : Option Session) → A.now.peer ≡ p
            → PublishesOpened i name (state_of at t) (state_of at opened)
        by_peer None none = opened_down none
        by_peer (Some y) up = opened_up y up

  -- ---- a close

  module _ (j : Inc) where
    abbrev closed : TrunkState
    closed = closed_at at j t

    closing_same : (b live : Bool) → b ≡ true
        → saying (cond live (unpublished j ∷ []) []) A
        ≡ cond (b && live) (saying (unpublished j ∷ []) A) A
    closing_same b true here =
        ap (λ c. cond (c && true) (saying (unpublished j ∷ []) A) A) (sym here)
    closing_same b false here =
        ap (λ c. cond (c && false) (saying (unpublished j ∷ []) A) A) (sym here)

    closing_none : (b live : Bool) → live ≡ false
        → A ≡ cond (b && live) (saying (unpublished j ∷ []) A) A
    closing_none true live dead = ap (λ c. cond c (saying (unpublished j ∷ []) A) A) (sym dead)
    closing_none false live dead = refl

    pub side_closed : (n k : ℕ) → (k == n) ≡ true
        → ClosesAt n k j (state_of at t) (state_of at closed)
    side_closed n k here = by_peer A.now.peer refl
      where
        by_peer : (p : Option Session) → A.now.peer ≡ p
            → ClosesAt n k j (state_of at t) (state_of at closed)
        by_peer None none =
            let same = events_tell.calls.down at (λ s. close_of s j) t kept none in
            record {
              side = ap (kept_of at) same ∙ closing_none (k == n) (is_live j A.now.said)
                  (ap (is_live j) ((half_at at t kept).empty.0 none).0);
              noted = ap (noted_of at) same;
              silent = same_silent (λ s. close_of s j);
            }
        by_peer (Some y) up =
            let says = events_tell.calls.closed at j t kept (λ none. absurd cc) in
            record {
              side = says.kept ∙ closing_same (k == n) (is_live j A.now.said) here;
              noted = says.notes;
              silent = same_silent (λ s. close_of s j);
            }

  -- ---- a question

  -- what it makes of a side
  pub record AsksAt (v : List ℕ) : Type 0 where
    pub side : kept_of at (asked_at at v t) ≡ saying (cond (is_up A) (asked v ∷ []) []) A
    pub notes : noted_of at (asked_at at v t) ≡ noted
    pub silent : silent_of at (asked_at at v t) ≤ silent_of at t

  pub side_asked : (v : List ℕ) → AsksAt v
  side_asked v = by_peer A.now.peer refl
    where
      by_peer : (p : Option Session) → A.now.peer ≡ p → AsksAt v
      by_peer None none =
          let same = events_tell.calls.down at (λ s. query_of s v) t kept none in
          record {
            side = ap (kept_of at) same
                ∙ ap (λ p. saying (cond (is_some p) (asked v ∷ []) []) A) (sym none);
            notes = ap (noted_of at) same;
            silent = same_silent (λ s. query_of s v);
          }
      by_peer (Some y) up =
          let says = events_tell.calls.asked at v t kept (λ none. absurd cc) in
          record {
            side = says.kept ∙ ap (λ p. saying (cond (is_some p) (asked v ∷ []) []) A) (sym up);
            notes = says.notes;
            silent = same_silent (λ s. query_of s v);
          }

  -- ---- a send to a peer that lives

  module _ (j : Inc) (name : List ℕ) (b : Inc) (note : SigNote) (up : A.now.peer ≢ None)
      (lives : is_live b (map heard_as A.now.given) ≡ true) where
    abbrev sent : TrunkState
    sent = sent_at at j name b note t

    pub sent_says : kept_of at sent ≡ saying (says_sending j name b note A) A
    sent_says = (events_tell.calls.sent at j name b note t kept up lives).kept

    pub sent_notes : KeepsNotes name (state_of at t) (state_of at sent)
    sent_notes w apart was =
        by_life (is_live j A.now.said)
        (events_tell.calls.sent at j name b note t kept up lives).notes
      where
        by_life : (live : Bool) → noted_of at sent ≡ cond live noted (without_note noted name)
            → list_any (bytes_eq w) (noted_of at sent) ≡ true
        by_life true is = ap (list_any (bytes_eq w)) is ∙ was
        by_life false is = ap (list_any (bytes_eq w)) is ∙ others_stay name w noted apart was

    pub sent_silent : silent_of at sent ≤ silent_of at t
    sent_silent = same_silent (λ s. send_of s j name b note)

-- ---- a restart

pub side_restarted : (at : Side) (boot : ℕ) (t : TrunkState)
    → Begins (first_session boot) (state_of at t) (state_of at (restarted_at at boot t))
side_restarted at boot t = record {
  side = events_tell.turns.restart at boot t;
  silent = omega (arith, events_tell.silence.restart at boot t);
}

pub restarted_left : (at : Side) (boot : ℕ) (t : TrunkState)
    → IsLeft (state_of (other_of at) t) (state_of (other_of at) (restarted_at at boot t))
restarted_left at boot t =
    left_of (other_of at) t (restarted_at at boot t) (events_tell.turns.restart_other at boot t)
    (omega (arith, events_tell.silence.restart_other at boot t))
