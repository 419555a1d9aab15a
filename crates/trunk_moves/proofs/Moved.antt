-- Calls and restarts at the sides of a node are moves, and keep every trunk.
use Rattle.std.proofs.Common.{◌≡◌, ◌≤◌, ℕ, suc, Bool, true, false, cond, ◌&&◌, List, [], ◌∷◌}
use Rattle.std.proofs.Common.{Option, Some, None, length, refl, sym, ◌∙◌, ap, subst, ◌==◌, ◌+◌}
use Rattle.std.proofs.Common.{IsTrue, bytes_eq, eq-eqb}
use Rattle.std.specs.List.{list_any}
use Rattle.linx_base.specs.NameText.{is_name}
use Rattle.linx_base.specs.Numbers.{first_session}
use Rattle.linx_base.specs.Sides.{other_of}
use Rattle.linx_base.specs.declared.identity.Inc.{Inc}
use Rattle.linx_base.specs.declared.identity.LinkNo.{LinkNo}
use Rattle.linx_base.specs.declared.identity.Peer.{Peer}
use Rattle.linx_base.specs.declared.identity.Peer.TheVariants.{Here, There}
use Rattle.linx_base.specs.declared.identity.Session.{Session}
use Rattle.linx_base.specs.declared.identity.Side.{Side}
use Rattle.linx_base.specs.declared.name.Path.{Path}
use Rattle.linx_base.specs.declared.name.Path.TheVariants.{Local, Over}
use Rattle.linx_base.specs.SigNotes.{SigNote}
use Rattle.rlnh_end.specs.Calls.{close_of, opened_of, query_of, send_of}
use Rattle.trunk_record.specs.Changes.{saying}
use Rattle.trunk_record.specs.Sayings.{is_live, unpublished}
use Rattle.journal.specs.History.{endpoint_by, name_of}
use Rattle.journal.specs.Laws.{IsBounded, KeepsSends, name_of_path}
use Rattle.journal.specs.Living.{find, is_alive}
use Rattle.journal.specs.Shapes.{Shape, node_by}
use Rattle.journal.specs.declared.by.By.{By}
use Rattle.journal.specs.declared.effect.Effect.{Effect}
use Rattle.journal.specs.declared.effect.Step.{Step}
use Rattle.journal.specs.declared.head.Head.{Head}
use Rattle.journal.specs.declared.head.Head.TheVariants.{Close, Ended, Hunt, Open, Send}
use Rattle.journal.specs.declared.head.SentTo.{SentTo}
use Rattle.journal.specs.declared.head.SentTo.TheVariants.{Dead, Link, Queued}
use Rattle.journal.proofs.Openings.{next_on}
use Rattle.link_laws.specs.Ends.{IsLinkOf, node_at}
use Rattle.link_laws.specs.Sides.{SideState}
use Rattle.link_laws.specs.Fits.{CanSend}
use Rattle.link_laws.specs.Moves.{AsksOver, Closes, ClosesAt, IsLeft, Opens, OpensAt}
use Rattle.link_laws.specs.Moves.{Restarts, RestartsAt, SendsOver}
use Rattle.link_laws.specs.Moves as moves
use Rattle.link_laws.specs.Sessions.{boots}
use Rattle.link_laws.proofs.Endpoints.Makers.{maker-open}
use Rattle.trunk.specs.Events.{TrunkState, asked_at, closed_at, kept_of, opened_at, restarted_at}
use Rattle.trunk.specs.Events.{sent_at}
use Rattle.trunk.specs.Keeping.{KeepsTrunk}
use Rattle.trunk.specs.Tells.{noted_of, silent_of}
use Rattle.trunk.proofs.EachEvent.BothSides.{events_keep}
use Rattle.trunk_moves.specs.Steps.{AsksThere, HuntMakes, SendMakes, SendsThere, trunks_ending}
use Rattle.trunk_moves.specs.Steps.{trunks_opening, trunks_restarting}
use Rattle.trunk_moves.specs.Trunks.{AllKept, AllUseUpTo, Become, RunTrunks, UsesUpTo, links_of}
use Rattle.trunk_moves.specs.Trunks.{state_of}
use Rattle.trunk_moves.proofs.Calls.{left_itself, other_left, restarted_left, sent_notes, sent_says}
use Rattle.trunk_moves.proofs.Calls.{sent_silent, side_asked, side_closed, side_opened}
use Rattle.trunk_moves.proofs.Calls.{side_restarted}
use Rattle.trunk_moves.proofs.Facts.{IsKnown, boots_later, new_may, new_not_live, open_may}
use Rattle.trunk_moves.proofs.Facts.{peer_sent, sent_lives, short}
use Rattle.trunk_moves.proofs.Sides.{all_left, each_side, each_trunk, is_trunk, one_trunk}
use Rattle.trunk_moves.proofs.Sides.{others_left, trunks_stay}
use Rattle.trunk_moves.proofs.Used.{asked_uses, closed_uses, opened_uses, restarted_uses, sent_uses}
use Rattle.trunk_moves.proofs.Used.{up_to_more}

-- what is shown of a step of this head: it is a move, every trunk is kept, and no side has more
-- addresses in use than the run has steps then
pub record IsMoved (shape : Shape) (P : List Step) (before after : RunTrunks) (n : ℕ)
    (me : Option Inc) (head : Head) (es : List Effect) : Type 0 where
  pub moves : moves.Moves shape P (links_of before) (links_of after) n me head es
  pub kept : AllKept shape after
  pub used : AllUseUpTo shape (suc (length P)) after

abbrev pub KeepsAt : LinkNo → TrunkState → Type 0
KeepsAt l t = KeepsTrunk t

abbrev pub Uses : List Step → LinkNo → TrunkState → Type 0
Uses P l t = UsesUpTo (suc (length P)) t

module _ (shape : Shape) (P : List Step) (before after : RunTrunks) (known : IsKnown shape P before)
  where
    -- trunks that stay are kept
    pub stay_kept : Become shape after before → AllKept shape after
    stay_kept made = trunks_stay shape before after made KeepsAt known.kept

    pub uses_before : (l : LinkNo) → IsLinkOf shape l → UsesUpTo (suc (length P)) (before l.0)
    uses_before l of_shape = up_to_more (length P) (before l.0) (known.used l of_shape)

    pub stay_used : Become shape after before → AllUseUpTo shape (suc (length P)) after
    stay_used made = trunks_stay shape before after made (Uses P) uses_before

    -- ---- an opening

    module _ (n : ℕ) (name : List ℕ) (bounded : IsBounded (Open name))
        (made : Become shape after (trunks_opening shape n (next_on P n) name before)) where
      abbrev i : Inc
      i = next_on P n

      abbrev open_act : Side → TrunkState → TrunkState
      open_act side = opened_at side (next_on P n) name

      opens : Opens shape (links_of before) (links_of after) n i name
      opens = each_side shape known.two n open_act before after made
          (λ l side b B C. OpensAt b (next_on P n) name B C)
          (λ l of_shape at on.
          side_opened at (before l.0) (known.kept l of_shape) i name
          (new_not_live shape P before known l of_shape at n on))
          (λ l of_shape at on off. other_left at (λ s. opened_of s i name) (before l.0))
          (λ l of_shape at off. left_itself at (before l.0))

      pub opening_moved : (me : Option Inc) (es : List Effect)
          → IsMoved shape P before after n me (Open name) es
      opening_moved me es = record {
        moves = opens;
        kept = each_trunk shape known.two n open_act before after made KeepsAt
            (λ l of_shape at on.
            events_keep.opened at i name (before l.0)
            (new_may shape P before known l of_shape at n on name bounded)
            (known.kept l of_shape)) known.kept;
        used = each_trunk shape known.two n open_act before after made (Uses P)
            (λ l of_shape at on.
            opened_uses at i name (before l.0) (length P) (known.used l of_shape)) uses_before;
      }

    -- ---- a close

    closes_away : (n k : ℕ) (j : Inc) (B C : SideState) → IsLeft B C → (k == n) ≡ false
        → ClosesAt n k j B C
    closes_away n k j B C left off = record {
      side = left.side
          ∙ ap (λ (b : Bool). cond (b && is_live j B.side.now.said)
          (saying (unpublished j ∷ []) B.side) B.side) (sym off);
      noted = left.noted;
      silent = left.silent;
    }

    module _ (n : ℕ) (j : Inc)
        (made : Become shape after (trunks_ending shape n (Some j) before)) where
      abbrev close_act : Side → TrunkState → TrunkState
      close_act side = closed_at side j

      pub closes : Closes shape (links_of before) (links_of after) n j
      closes l of_shape side = each_side shape known.two n close_act before after made
          (λ h at b B C. (node_at shape h at == n) ≡ b → ClosesAt n (node_at shape h at) j B C)
          (λ h of_h at on same. side_closed at (before h.0) (known.kept h of_h) j n
          (node_at shape h at) on)
          (λ h of_h at on off same. closes_away n (node_at shape h (other_of at)) j
          (state_of (other_of at) (before h.0))
          (state_of (other_of at) (closed_at at j (before h.0)))
          (other_left at (λ s. close_of s j) (before h.0)) off)
          (λ h of_h at off same. closes_away n (node_at shape h at) j (state_of at (before h.0))
          (state_of at (before h.0)) (left_itself at (before h.0)) off)
          l of_shape side refl

      pub closed_kept : AllKept shape after
      closed_kept = each_trunk shape known.two n close_act before after made KeepsAt
          (λ l of_shape at on. events_keep.closed at j (before l.0) (known.kept l of_shape))
          known.kept

      pub closed_used : AllUseUpTo shape (suc (length P)) after
      closed_used = each_trunk shape known.two n close_act before after made (Uses P)
          (λ l of_shape at on. closed_uses at j (before l.0) (length P) (known.used l of_shape))
          uses_before

    pub close_moved : (n : ℕ) (me : Option Inc)
        → Become shape after (trunks_ending shape n me before)
        → (es : List Effect) → IsMoved shape P before after n me Close es
    close_moved n None made es = record {
      moves = all_left shape before after made;
      kept = stay_kept made;
      used = stay_used made;
    }
    close_moved n (Some j) made es = record {
      moves = closes n j made;
      kept = closed_kept n j made;
      used = closed_used n j made;
    }

    pub ended_moved : (n : ℕ) (me : Option Inc)
        → Become shape after (trunks_ending shape n me before)
        → (es : List Effect) → IsMoved shape P before after n me Ended es
    ended_moved n me made es =
        let close = close_moved n me made es in
        record { moves = close.moves; kept = close.kept; used = close.used }

    -- ---- a restart

    module _ (n : ℕ) (made : Become shape after (trunks_restarting shape P n before)) where
      abbrev boot : ℕ
      boot = 2 + boots P n

      abbrev restart_act : Side → TrunkState → TrunkState
      restart_act side = restarted_at side (2 + boots P n)

      pub restarts_all : Restarts shape P (links_of before) (links_of after) n
      restarts_all = each_side shape known.two n restart_act before after made
          (λ l side b B C. RestartsAt b (first_session (2 + boots P n)) B C)
          (λ l of_shape at on. side_restarted at boot (before l.0))
          (λ l of_shape at on off. restarted_left at boot (before l.0))
          (λ l of_shape at off. left_itself at (before l.0))

      pub restarted_kept : AllKept shape after
      restarted_kept = each_trunk shape known.two n restart_act before after made KeepsAt
          (λ l of_shape at on.
          events_keep.restarted at boot (before l.0)
          (boots_later shape P before known l of_shape at n on) (known.kept l of_shape)) known.kept

      pub restarted_used : AllUseUpTo shape (suc (length P)) after
      restarted_used = each_trunk shape known.two n restart_act before after made (Uses P)
          (λ l of_shape at on.
          up_to_more (length P) (restarted_at at boot (before l.0))
          (restarted_uses at boot (before l.0) (length P) (known.used l of_shape))) uses_before

    -- ---- a send

    module _ (by : By) (j : Inc) (mine : endpoint_by P by ≡ Some j) (l : LinkNo) (x : Session)
        (b : Inc) (note : SigNote) (lives : is_alive P (node_by shape by) (There l x b) ≡ true)
        (sends : SendsThere shape P before after (node_by shape by) j l b note) where
      abbrev n : ℕ
      n = node_by shape by

      abbrev at : Side
      at = sends.at

      abbrev t : TrunkState
      t = before l.0

      abbrev u : TrunkState
      u = sent_at sends.at j (name_of P j) b note (before l.0)

      on : (node_at shape l at == n) ≡ true
      on = eq-eqb (node_at shape l at) n sends.node

      is_u : after l.0 ≡ u
      is_u = is_trunk shape before after l sends.of_shape u sends.makes

      kept : KeepsTrunk t
      kept = known.kept l sends.of_shape

      can : CanSend (kept_of at t) x b
      can = peer_sent shape P before known l sends.of_shape at n on x b lives

      pub sends_over : SendsOver shape P (links_of before) (links_of after) n j l b note
      sends_over = record {
        at = at;
        of_shape = sends.of_shape;
        node = sends.node;
        side = ap (kept_of at) is_u ∙ sent_says at t kept j (name_of P j) b note can.up can.known;
        noted = λ w apart was. ap (λ v. list_any (bytes_eq w) (noted_of at v)) is_u
            ∙ sent_notes at t kept j (name_of P j) b note can.up can.known w apart was;
        silent = subst (λ v. silent_of at v ≤ silent_of at t) (sym is_u)
            (sent_silent at t kept j (name_of P j) b note can.up can.known);
        others = others_left shape before after l sends.of_shape u sends.makes at
            (other_left at (λ s. send_of s j (name_of P j) b note) t);
      }

      u_kept : KeepsTrunk u
      u_kept = events_keep.sent at j (name_of P j) b note t (record {
        sender = open_may shape P before known l sends.of_shape at n on j
            (maker-open shape P known.sound.legal
            (short shape P before known l sends.of_shape at n on)
            by j mine);
        receiver = can.known;
        is_signal = sends.is_signal;
      }) kept

      pub sent_kept : AllKept shape after
      sent_kept = one_trunk shape before after l sends.of_shape u sends.makes KeepsAt u_kept
          known.kept

      pub sent_used : AllUseUpTo shape (suc (length P)) after
      sent_used = one_trunk shape before after l sends.of_shape u sends.makes (Uses P)
          (sent_uses at j (name_of P j) b note t (length P) (known.used l sends.of_shape))
          uses_before

    sending : (by : By) (me : Option Inc) → endpoint_by P by ≡ me → (q : Peer) (note : SigNote)
        (answer : SentTo) → KeepsSends P (node_by shape by) (Send q note answer)
        → SendMakes shape P before after (node_by shape by) me q note answer → (es : List Effect)
        → IsMoved shape P before after (node_by shape by) me (Send q note answer) es
    sending by None mine q note answer law made es = record {
      moves = all_left shape before after made;
      kept = stay_kept made;
      used = stay_used made;
    }
    sending by (Some j) mine (Here i) note answer law made es = record {
      moves = all_left shape before after made;
      kept = stay_kept made;
      used = stay_used made;
    }
    sending by (Some j) mine (There l x b) note Queued law made es = record {
      moves = all_left shape before after made;
      kept = stay_kept made;
      used = stay_used made;
    }
    sending by (Some j) mine (There l x b) note Dead law made es = record {
      moves = all_left shape before after made;
      kept = stay_kept made;
      used = stay_used made;
    }
    sending by (Some j) mine (There l x b) note Link law made es =
        let lives = sent_lives (is_alive P (node_by shape by) (There l x b)) (There l x b) law in
        record {
          moves = sends_over by j mine l x b note lives made;
          kept = sent_kept by j mine l x b note lives made;
          used = sent_used by j mine l x b note lives made;
        }

    pub sending_moved : (by : By) (q : Peer) (note : SigNote) (answer : SentTo)
        → KeepsSends P (node_by shape by) (Send q note answer)
        → SendMakes shape P before after (node_by shape by) (endpoint_by P by) q note answer
        → (es : List Effect)
        → IsMoved shape P before after (node_by shape by) (endpoint_by P by) (Send q note answer) es
    sending_moved by q note answer law made es =
        sending by (endpoint_by P by) refl q note answer law made es

    -- ---- a hunt

    module _ (n : ℕ) (l : LinkNo) (v : List ℕ) (named : IsTrue (is_name v))
        (asks : AsksThere shape before after n l v) where
      abbrev asked : TrunkState
      asked = asked_at asks.at v (before l.0)

      is_asked : after l.0 ≡ asked
      is_asked = is_trunk shape before after l asks.of_shape asked asks.makes

      pub asks_over : AsksOver shape (links_of before) (links_of after) n l v
      asks_over =
          let is = side_asked asks.at (before l.0) (known.kept l asks.of_shape) v in
          record {
            at = asks.at;
            of_shape = asks.of_shape;
            node = asks.node;
            side = ap (kept_of asks.at) is_asked ∙ is.side;
            noted = ap (noted_of asks.at) is_asked ∙ is.notes;
            silent = subst (λ w. silent_of asks.at w ≤ silent_of asks.at (before l.0))
                (sym is_asked)
                is.silent;
            others = others_left shape before after l asks.of_shape asked asks.makes asks.at
                (other_left asks.at (λ s. query_of s v) (before l.0));
          }

      pub asked_kept : AllKept shape after
      asked_kept = one_trunk shape before after l asks.of_shape asked asks.makes KeepsAt
          (events_keep.asked asks.at v (before l.0) named (known.kept l asks.of_shape)) known.kept

      pub asked_used : AllUseUpTo shape (suc (length P)) after
      asked_used = one_trunk shape before after l asks.of_shape asked asks.makes (Uses P)
          (up_to_more (length P) asked
          (asked_uses asks.at v (before l.0) (length P) (known.used l asks.of_shape))) uses_before

    -- what is shown of a hunt that finds this
    record IsHunted (n : ℕ) (path : Path) (found : Option Peer) : Type 0 where
      moves : moves.Hunts shape (links_of before) (links_of after) n path found
      kept : AllKept shape after
      used : AllUseUpTo shape (suc (length P)) after

    hunting : (n : ℕ) (path : Path) → IsTrue (is_name (name_of_path path))
        → (found : Option Peer) → HuntMakes shape before after n path found → IsHunted n path found
    hunting n (Local v) named found made = record {
      moves = all_left shape before after made;
      kept = stay_kept made;
      used = stay_used made;
    }
    hunting n (Over l v) named (Some q) made = record {
      moves = all_left shape before after made;
      kept = stay_kept made;
      used = stay_used made;
    }
    hunting n (Over l v) named None made = record {
      moves = asks_over n l v named made;
      kept = asked_kept n l v named made;
      used = asked_used n l v named made;
    }

    pub hunting_moved : (n : ℕ) (me : Option Inc) (path : Path) (note : SigNote)
        → IsBounded (Hunt path note) → HuntMakes shape before after n path (find P n path)
        → (es : List Effect) → IsMoved shape P before after n me (Hunt path note) es
    hunting_moved n me path note bounded made es =
        let it = hunting n path bounded.0 (find P n path) made in
        record { moves = it.moves; kept = it.kept; used = it.used }
