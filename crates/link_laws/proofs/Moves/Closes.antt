-- A close, by itself or as the end of an actor.
use Rattle.std.proofs.Common.{◌≡◌, ℕ, suc, Bool, true, false, cond, ◌&&◌, inl, inr, List, [], ◌∷◌}
use Rattle.std.proofs.Common.{length, Option, Some, None, refl, sym, ◌∙◌, ap, ◌==◌, filter_map}
use Rattle.std.proofs.Common.{true≢false}
use Rattle.std.specs.List.{list_any, AllByRecursion}
use Rattle.linx_base.specs.Peers.{same_peer}
use Rattle.linx_base.specs.Pending.{is_for}
use Rattle.linx_base.specs.Sides.{other_of}
use Rattle.linx_base.specs.declared.name.Path.TheVariants.{Over}
use Rattle.linx_base.specs.declared.identity.Inc.{Inc}
use Rattle.linx_base.specs.declared.identity.LinkNo.{LinkNo}
use Rattle.linx_base.specs.declared.identity.Peer.TheVariants.{Here}
use Rattle.linx_base.specs.declared.identity.Session.{Session}
use Rattle.linx_base.specs.declared.identity.Side.{Side}
use Rattle.linx_base.specs.declared.signal.Reason.TheVariants as reasons
use Rattle.trunk_record.specs.Changes.{saying}
use Rattle.trunk_record.specs.Records.{SideRecord}
use Rattle.trunk_record.specs.Sayings.{Said, is_live, unpublished}
use Rattle.trunk_record.specs.Trunks.{IsHalf}
use Rattle.journal.specs.Effects.{closing, ending, held_elsewhere, notices}
use Rattle.journal.specs.History.{endpoint_by, opened_in}
use Rattle.journal.specs.Pending.{hunt_in, owed}
use Rattle.journal.specs.Shapes.{Shape, node_by}
use Rattle.journal.specs.declared.by.By.{By}
use Rattle.journal.specs.declared.effect.Effect.{Effect}
use Rattle.journal.specs.declared.effect.Effect.TheVariants.{Closed}
use Rattle.journal.specs.declared.effect.Step.{Step}
use Rattle.journal.specs.declared.head.Head.{Head}
use Rattle.journal.specs.declared.head.Head.TheVariants.{Close, Ended}
use Rattle.link_laws.specs.Came.{signal_over}
use Rattle.link_laws.specs.Ends.{IsLinkOf, node_at}
use Rattle.link_laws.specs.Sides.{Links, records_of}
use Rattle.link_laws.specs.Laws.{KeepsNodeLaws}
use Rattle.link_laws.specs.Moves.{AllLeft, Closes, Ends}
use Rattle.link_laws.specs.Promises.{PromisesOf}
use Rattle.link_laws.specs.Sessions.{restarts}
use Rattle.link_laws.proofs.AllLinks.SameSides.{linked-alike}
use Rattle.link_laws.proofs.Sides.WordsAfterStep.{IsDone, opened-items}
use Rattle.link_laws.proofs.Moves.Shown.{IsGood, IsKnown, left_kept, short, step_of}
use Rattle.link_laws.proofs.Hunts.EachStep.{IsCalm, calm_here}
use Rattle.link_laws.proofs.Hunts.ManySides.{hunted_sayings}
use Rattle.link_laws.proofs.Legal.{is_plain_head, legal_plain}
use Rattle.link_laws.proofs.Moves.OneSideSays.{SaysWell}
use Rattle.link_laws.proofs.Moves.ManySidesSay.{opened-say, trunks-say}
use Rattle.link_laws.proofs.AllLinks.OneSideKept.{raises-none, silence-side, tells-none}
use Rattle.link_laws.proofs.Endpoints.OpenAfterStep.{both_true}
use Rattle.link_laws.proofs.AllLinks.Acts.{closed_on, whole_close}
use Rattle.link_laws.proofs.Promises.FromRecords.{IsOpenNow}
use Rattle.link_laws.proofs.AllLinks.OthersStay.{no_signal, notices-items}
use Rattle.link_laws.proofs.Hunts.UnfoundPeers.{maker-home}

-- the head closes its maker's endpoint
pub record IsCloseHead (shape : Shape) (P : List Step) (head : Head) : Type 0 where
  pub plain : is_plain_head head ≡ true
  pub stays : (n : ℕ) → restarts n head ≡ false
  pub says : (n h : ℕ) (x : Session) (me : Option Inc) → signal_over n h x me head ≡ []
  pub hunts : (n k : ℕ) (me : Option Inc) → hunt_in n k me head ≡ []
  pub promised : (es : List Effect) → PromisesOf shape P head es

pub close_head : (shape : Shape) (P : List Step) → IsCloseHead shape P Close
close_head shape P = record {
  plain = refl;
  stays = λ n. refl;
  says = λ n h x me. no_signal n h x me Close (λ j. refl);
  hunts = λ n k me. refl;
  promised = λ es. tt;
}

pub ended_head : (shape : Shape) (P : List Step) → IsCloseHead shape P Ended
ended_head shape P = record {
  plain = refl;
  stays = λ n. refl;
  says = λ n h x me. no_signal n h x me Ended (λ j. refl);
  hunts = λ n k me. refl;
  promised = λ es. tt;
}

closing-says : (t : Bool) (w : Said) (A : SideRecord) → cond t (saying (w ∷ []) A) A
    ≡ saying (cond t (w ∷ []) []) A
closing-says true w A = refl
closing-says false w A = refl

module _ (shape : Shape) (P : List Step) (before after : Links) (known : IsKnown shape P before)
    (by : By) (head : Head) (closes_it : IsCloseHead shape P head) (es : List Effect)
    (laws : KeepsNodeLaws shape P (step_of by head es)) where
  abbrev n : ℕ
  n = node_by shape by

  abbrev s : Step
  s = step_of by head es

  -- OF AN ENDPOINT
  module _ (j : Inc) (mine : endpoint_by P by ≡ Some j) (effects : es ≡ closing j (owed P n))
      (closes : Closes shape before after n j) where
    abbrev items : List Effect
    items = notices reasons.Closed (same_peer (Here j)) (held_elsewhere j (owed P n))

    done : IsDone s (Closed j ∷ []) items
    done = record {
      effects = effects;
      items_only = notices-items reasons.Closed (same_peer (Here j))
          (held_elsewhere j (owed P n));
    }

    -- what a side says
    abbrev is_told : LinkNo → Side → Bool
    is_told l side = node_at shape l side == n && is_live j (before l.0 side).side.now.said

    abbrev ws : LinkNo → Side → List Said
    ws l side = cond (is_told l side) (unpublished j ∷ []) []

    said : (l : LinkNo) → IsLinkOf shape l → (side : Side)
        → (after l.0 side).side ≡ saying (ws l side) (before l.0 side).side
    said l of_shape side = (closes l of_shape side).side
        ∙ closing-says (is_told l side) (unpublished j) (before l.0 side).side

    well : (l : LinkNo) → IsLinkOf shape l → (side : Side)
        → SaysWell (before l.0 side).side (ws l side)
    well l of_shape side = by_life (is_told l side) refl
      where
        half : IsHalf (before l.0 side).side (before l.0 (other_of side)).side
        half = known.kept.trunks l of_shape side

        by_life : (t : Bool) → is_told l side ≡ t
            → SaysWell (before l.0 side).side (cond t (unpublished j ∷ []) [])
        by_life false e = inl refl
        by_life true e =
            let live : is_live j (before l.0 side).side.now.said ≡ true =
            (both_true (node_at shape l side == n) (is_live j (before l.0 side).side.now.said) e).1
            in
            inr (
              (λ down. true≢false (sym live ∙ ap (is_live j) (half.empty.0 down).0)),
              (live, half.proper.0),
            )

    open_now : (t : Bool) → AllByRecursion (IsOpenNow (s ∷ P)) (cond t (unpublished j ∷ []) [])
    open_now true = (tt, tt)
    open_now false = tt

    calm : IsCalm P s
    calm = record {
      begins_none = λ k l w. ap (list_any (is_for (Over l w)))
          (closes_it.hunts k (suc (length P)) (endpoint_by P by));
      opens_none = ap (filter_map opened_in) effects ∙ opened-items items done.items_only;
    }

    close_good : IsGood shape P s after
    close_good = record {
      legal = legal_plain shape P by head es closes_it.plain laws;
      kept = record {
        trunks = trunks-say shape (records_of before) (records_of after) ws said well
            known.kept.trunks;
        linked = linked-alike shape (s ∷ P) (closed_on shape (records_of before) n j)
            (records_of after) (λ l of_shape side. (closes l of_shape side).side)
            (whole_close shape P (records_of before) s n j known.kept.linked (owed P n) effects
            closes_it.stays (λ k h x. closes_it.says k h x (endpoint_by P by))
            (maker-home shape P known.legal (short shape P before known) by j mine));
        opened = opened-say shape (records_of before) (records_of after) ws said P s
            (raises-none s (Closed j ∷ []) items done (λ k h x. refl))
            (λ l of_shape side. open_now (is_told l side)) known.kept.opened;
        hunted = hunted_sayings shape P before after s known.kept.trunks known.kept.hunted calm ws
            said (λ l of_shape side. (closes l of_shape side).noted);
        silent = λ l of_shape side.
            silence-side P s (node_at shape l side) l.0 side (before l.0 side).silent
            (after l.0 side).silent (known.kept.silent l of_shape side)
            (closes l of_shape side).silent
            (tells-none s (Closed j ∷ []) items done (node_at shape l side) l.0 refl);
      };
      promised = closes_it.promised es;
    }

  -- OF NO ENDPOINT
  none_good : es ≡ [] → AllLeft shape before after → IsGood shape P s after
  none_good none left = record {
    legal = legal_plain shape P by head es closes_it.plain laws;
    kept = left_kept shape P s before after (record {
      es = [];
      items = [];
      done = record { effects = none; items_only = tt };
      touches_none = λ k h. refl;
      opens_none = refl;
      closes_none = λ i. refl;
      stays = closes_it.stays;
      says_none = λ k h x. closes_it.says k h x (endpoint_by P by);
    }) (λ k m l. calm_here P s (record {
      begins_none = λ i h w. ap (list_any (is_for (Over h w)))
          (closes_it.hunts i (suc (length P)) (endpoint_by P by));
      opens_none = ap (filter_map opened_in) none;
    }) k m l) left known.kept;
    promised = closes_it.promised es;
  }

  pub ending_good : es ≡ ending (endpoint_by P by) (owed P n)
      → Ends shape before after n (endpoint_by P by) → IsGood shape P s after
  ending_good effects ends = by_me (endpoint_by P by) refl effects ends
    where
      by_me : (me : Option Inc) → endpoint_by P by ≡ me → es ≡ ending me (owed P n)
          → Ends shape before after n me → IsGood shape P s after
      by_me None mine has left = none_good has left
      by_me (Some j) mine has closes = close_good j mine has closes
