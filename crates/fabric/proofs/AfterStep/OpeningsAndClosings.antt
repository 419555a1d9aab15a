-- What a step leaves of its node is what the kernel's call for it leaves: openings, closings and
-- restarts.
use Rattle.std.proofs.Common.{◌≡◌, ℕ, ◌+◌, ◌<◌, Bool, true, false, not, ◌||◌, ◌&&◌, List, [], ◌∷◌}
use Rattle.std.proofs.Common.{◌++◌, length, map, filter, Option, Some, None, refl, sym, ◌∙◌, ap}
use Rattle.std.proofs.Common.{subst, arith, fold, filter_map, append-nil}
use Rattle.std.specs.List.{list_any, AllByRecursion}
use Rattle.std.proofs.Math.Bool.{or-false}
use Rattle.std.proofs.lemmas.Bool.{or_left, or_right}
use Rattle.std.proofs.lemmas.List.{map-append}
use Rattle.linx_base.specs.FirstMatch.{without_match}
use Rattle.linx_base.specs.Numbers.{is_on}
use Rattle.linx_base.specs.Peers.{same_inc, same_path, same_peer}
use Rattle.linx_base.specs.declared.identity.Inc.{Inc}
use Rattle.linx_base.specs.declared.identity.NodeNo.{NodeNo}
use Rattle.linx_base.specs.declared.identity.Peer.TheVariants.{Here}
use Rattle.linx_base.specs.declared.name.Path.TheVariants.{Local}
use Rattle.linx_base.specs.declared.pending.MetPeer.{MetPeer}
use Rattle.linx_base.specs.declared.pending.PendingAttach.{PendingAttach}
use Rattle.linx_base.specs.declared.pending.PendingHunt.{PendingHunt}
use Rattle.linx_base.specs.declared.signal.Reason.TheVariants as reasons
use Rattle.journal.specs.declared.effect.Effect.{Effect}
use Rattle.journal.specs.declared.head.Head.{Head}
use Rattle.journal.specs.declared.head.Head.TheVariants.{Open, Restart}
use Rattle.journal.specs.Effects.{closing, closings, founds, held_elsewhere, notice, notices}
use Rattle.journal.specs.Effects.{opening}
use Rattle.journal.specs.History.{closes, opened_by, opened_in, opens}
use Rattle.journal.specs.Living.{living_after}
use Rattle.journal.specs.Pending.{answers_hunt, attach_in, detaches, ends_hunt, hunt_in, hunts_past}
use Rattle.journal.specs.Pending.{notifies, owed_past, ends_attach}
use Rattle.journal.specs.Queues.{items_in}
use Rattle.journal.specs.Traffic.{is_endpoint}
use Rattle.journal.proofs.Lists.{all-impl, filter-every, filter-filter}
use Rattle.journal.proofs.Openings.{Rising, same_inc-refl, same_inc-true}
use Rattle.node_kernel.specs.Nodes.{NodeState, OpenEndpoint, is_at, next_of, put_all, put_into}
use Rattle.node_kernel.specs.Nodes.{without_endpoint}
use Rattle.node_kernel.specs.Calls.{after_close, after_open, after_restart, apart_from}
use Rattle.fabric.proofs.AfterStep.Effects.{OnlyItems, founds-notify_none, notices-answer_none}
use Rattle.fabric.proofs.AfterStep.Effects.{only-founds, only-notices}
use Rattle.fabric.proofs.AfterStep.Tables.{after_step, endpoint_past, endpoints_past, new_endpoint}
use Rattle.fabric.proofs.AfterStep.Tables.{stays}
use Rattle.fabric.proofs.AfterStep.Pendings.{Rises, answered-each, filter-agree, notified-each}
use Rattle.fabric.proofs.AfterStep.EndpointsStay.{TakesNone, left_by-none, state_by_parts}
use Rattle.fabric.proofs.AfterStep.Takings.{same_inc-above, same_inc-sym}

all-each : {X : Type 0} (P : X → Type 0) → ((x : X) → P x) → (xs : List X) → AllByRecursion P xs
all-each P h [] = tt
all-each P h (x ∷ xs) = (h x, all-each P h xs)

map-all : {X Y : Type 0} (f g : X → Y) (xs : List X) → AllByRecursion (λ x. f x ≡ g x) xs
    → map f xs ≡ map g xs
map-all f g [] all = refl
map-all f g (x ∷ xs) all = rw (all.0, map-all f g xs all.1) refl

-- AN OPENING of an incarnation above those that are open
module _ (k : ℕ) (name : List ℕ) (old : NodeState)
    (mine : is_on old.node.0 (next_of old) ≡ true)
    (below : AllByRecursion (λ e. e.inc.0 < (next_of old).0) old.endpoints)
    (rises : Rises (λ h. h.number) old.hunts) where
  abbrev new : Inc
  new = next_of old

  abbrev es : List Effect
  es = opening new name old.hunts

  abbrev founds_then : List Effect
  founds_then = founds (Local name) (Here new) old.hunts

  only : OnlyItems founds_then
  only = only-founds (Here new) _

  opens_other : (i : Inc) → same_inc i new ≡ false → list_any (opens i) es ≡ false
  opens_other i other = rw (other, only.opens_none i) refl

  closes_none : (i : Inc) → list_any (closes i) es ≡ false
  closes_none i = only.closes_none i

  -- an endpoint that was open before
  module _ (head : Head) (takes : TakesNone head) where
    past-other : (e : OpenEndpoint) → e.inc.0 < new.0
        → endpoint_past k None head es e ≡ put_into k es e
    past-other e low =
        let other : same_inc e.inc new ≡ false = same_inc-above e.inc new low in
        rw (opens_other e.inc other) refl

  opened_one : opened_by old.node.0 es ≡ new ∷ []
  opened_one = ap (λ l. filter (is_on old.node.0) (new ∷ l)) only.opened ∙ rw mine refl

  endpoints_opened : endpoints_past old.node.0 k None (Open name) es old.endpoints
      ≡ put_all k es (old.endpoints ++ record { inc = new; name = name; items = [] } ∷ [])
  endpoints_opened =
      let before : List OpenEndpoint = map (endpoint_past k None (Open name) es) old.endpoints in
      let added : OpenEndpoint = record { inc = new; name = name; items = [] } in
      ap (λ l. filter (stays es) (before ++ map (new_endpoint k None (Open name) es) l)) opened_one
      ∙ filter-every (stays es) (λ e. ap not (closes_none e.inc)) (before ++ new_endpoint k None
      (Open name) es new ∷ [])
      ∙ ap (λ l. l ++ put_into k es added ∷ [])
      (map-all (endpoint_past k None (Open name) es) (put_into k es) old.endpoints
      (all-impl (λ e. e.inc.0 < new.0) (λ e. endpoint_past k None (Open name) es e
      ≡ put_into k es e)
      (past-other (Open name) (λ x. refl)) old.endpoints below))
      ∙ sym (map-append (put_into k es) old.endpoints (added ∷ []))

  ends : (h : PendingHunt) (b : Bool) → list_any (answers_hunt h) founds_then ≡ b
      → not (ends_hunt es h) ≡ not b
  ends h b is = rw (is, closes_none h.at, or-false b) refl

  hunts_answered : hunts_past old.node.0 k None (Open name) es old.hunts
      ≡ filter (λ h. not (same_path (Local name) h.path)) old.hunts
  hunts_answered =
      ap (filter (λ h. not (ends_hunt es h))) (append-nil old.hunts)
      ∙ filter-agree (λ h. not (ends_hunt es h)) (λ h. not (same_path
      (Local name) h.path)) old.hunts
      (all-impl (λ h. list_any (answers_hunt h) founds_then ≡ same_path (Local name) h.path)
      (λ h. not (ends_hunt es h) ≡ not (same_path (Local name) h.path))
      (λ h is. ends h (same_path (Local name) h.path) is) old.hunts
      (answered-each (Here new) (λ h. same_path (Local name) h.path) old.hunts rises))

  owed_same : owed_past old.node.0 k None (Open name) es old.attaches ≡ old.attaches
  owed_same =
      ap (filter (λ a. not (ends_attach None (Open name) es a))) (append-nil old.attaches)
      ∙ filter-every (λ a. not (ends_attach None (Open name) es a))
      (λ a. rw (founds-notify_none (Here new) _ a, closes_none a.at) refl) old.attaches

  pub open-left : after_step k None (Open name) es old ≡ after_open old name k
  open-left =
      state_by_parts old.node _ _ _ _ _ _ _ _ _ _
      (ap (λ l. old.openings + length l) opened_one)
      endpoints_opened
      hunts_answered
      owed_same
      (only.meets_none old.node.0 old.met)

-- A CLOSING, by a head that takes nothing out and begins nothing
module _ (k : ℕ) (j : Inc) (head : Head) (old : NodeState) (F : Inc
    → OpenEndpoint) (incs : List Inc)
    (named : (i : Inc) → (F i).inc ≡ i)
    (rising : Rising incs) (left : old.endpoints ≡ map F incs)
    (rises : Rises (λ a. a.reference.0) old.attaches)
    (takes : TakesNone head) (hunts : hunt_in old.node.0 k (Some j) head ≡ [])
    (cancels : (a : PendingAttach) → detaches (Some j) head a ≡ false)
    (attaches : attach_in old.node.0 k (Some j) head ≡ []) where
  abbrev cs : List Effect
  cs = closing j old.attaches

  abbrev told : List Effect
  told = notices reasons.Closed (same_peer (Here j)) (held_elsewhere j old.attaches)

  only_told : OnlyItems told
  only_told = only-notices reasons.Closed _

  closes_it : (i : Inc) → list_any (closes i) cs ≡ same_inc i j
  closes_it i = rw (only_told.closes_none i) (or-false (same_inc i j))

  past-put : (e : OpenEndpoint) → endpoint_past k (Some j) head cs e ≡ put_into k cs e
  past-put e =
      rw (only_told.opens_none e.inc)
      (ap (λ l. (let x : OpenEndpoint = record e { items = l ++ items_in e.inc k 1 cs } in x))
      (left_by-none (is_endpoint e.inc (Some j)) head e.items takes))

  -- of endpoints with rising incarnations one is taken out
  others_stay : (incs : List Inc) → AllByRecursion (λ i. j.0 < i.0) incs
      → filter (stays cs) (map (endpoint_past k (Some j) head cs) (map F incs))
      ≡ put_all k cs (map F incs)
  others_stay [] all = refl
  others_stay (i ∷ incs) all =
      let apart : same_inc i j ≡ false = same_inc-sym i j ∙ same_inc-above j i all.0 in
      let stay : list_any (closes (endpoint_past k (Some j) head cs (F i)).inc) cs ≡ false
      = ap (λ (e : OpenEndpoint). list_any (closes e.inc) cs) (past-put (F i))
      ∙ ap (λ (x : Inc). list_any (closes x) cs) (named i) ∙ closes_it i ∙ apart in
      rw (stay, past-put (F i), others_stay incs all.1) refl

  one_closed : (incs : List Inc) → Rising incs
      → filter (stays cs) (map (endpoint_past k (Some j) head cs) (map F incs))
      ≡ put_all k cs (without_match (is_at j) (map F incs))
  one_closed [] up = refl
  one_closed (i ∷ incs) up =
      let inc_is : (endpoint_past k (Some j) head cs (F i)).inc ≡ i =
      ap (λ (e : OpenEndpoint). e.inc) (past-put (F i)) ∙ named i in
      let goes : list_any (closes (endpoint_past k (Some j) head cs (F i)).inc) cs ≡ same_inc j i
      = ap (λ (x : Inc). list_any (closes x) cs) inc_is ∙ closes_it i ∙ same_inc-sym i j in
      let at : is_at j (F i) ≡ same_inc j i = ap (same_inc j) (named i) in
      let go : (b : Bool) → same_inc j i ≡ b
      → filter (stays cs) (map (endpoint_past k (Some j) head cs) (map F (i ∷ incs)))
      ≡ put_all k cs (without_match (is_at j) (map F (i ∷ incs))) = λ b.
      elim b as (λ c. same_inc j i ≡ c
      → filter (stays cs) (map (endpoint_past k (Some j) head cs) (map F (i ∷ incs)))
      ≡ put_all k cs (without_match (is_at j) (map F (i ∷ incs)))) [
        | true ↦ λ same.
            let e : j ≡ i = same_inc-true j i same in
            let above : AllByRecursion (λ x. j.0 < x.0) incs =
            subst (λ (y : Inc). AllByRecursion (λ x. y.0 < x.0) incs) (sym e) up.0 in
            rw (goes ∙ same, at ∙ same) (others_stay incs above)
        | false ↦ λ other.
            rw (goes ∙ other, at ∙ other, past-put (F i), one_closed incs up.1) refl
      ]
      in
      go (same_inc j i) refl

  endpoints_closed : endpoints_past old.node.0 k (Some j) head cs old.endpoints
      ≡ put_all k cs (without_endpoint old.endpoints j)
  endpoints_closed =
      let none : opened_by old.node.0 cs ≡ [] = ap (filter (is_on old.node.0)) only_told.opened in
      ap (λ l. filter (stays cs) (map (endpoint_past k (Some j) head cs) old.endpoints ++ map
      (new_endpoint k (Some j) head cs) l)) none
      ∙ ap (filter (stays cs)) (append-nil (map (endpoint_past k (Some j) head cs) old.endpoints))
      ∙ rw left (one_closed incs rising)

  hunts_gone : hunts_past old.node.0 k (Some j) head cs old.hunts
      ≡ filter (λ h. not (same_inc j h.at)) old.hunts
  hunts_gone =
      ap (λ l. filter (λ h. not (ends_hunt cs h)) (old.hunts ++ l)) hunts
      ∙ ap (filter (λ h. not (ends_hunt cs h))) (append-nil old.hunts)
      ∙ filter-agree (λ h. not (ends_hunt cs h)) (λ h. not (same_inc j h.at)) old.hunts
      (all-each (λ h. not (ends_hunt cs h) ≡ not (same_inc j h.at))
      (λ h. rw (
        notices-answer_none reasons.Closed _ h,
        only_told.closes_none h.at,
        or-false
            (same_inc h.at j),
        same_inc-sym h.at j,
      ) refl) old.hunts)

  kept_apart : (x y : Bool) → not (((not x && y) || false) || x) ≡ (not x && not y)
  kept_apart true true = refl
  kept_apart true false = refl
  kept_apart false true = refl
  kept_apart false false = refl

  told_all : told ≡ map (notice reasons.Closed) (filter (λ a. not (same_inc j a.at) && same_peer
      (Here j) a.peer) old.attaches)
  told_all =
      ap (map (notice reasons.Closed))
      (filter-filter (λ a. same_peer (Here j) a.peer) (λ a. not (same_inc j a.at)) old.attaches)

  settled : (a : PendingAttach)
      → list_any (notifies a) told ≡ (not (same_inc j a.at) && same_peer (Here j) a.peer)
      → not (ends_attach (Some j) head cs a) ≡ (not (same_inc j a.at) && not (same_peer
      (Here j) a.peer))
  settled a is =
      rw (
        is,
        cancels a,
        only_told.closes_none a.at,
        or-false
            (same_inc a.at j),
        same_inc-sym a.at j,
      )
      (kept_apart (same_inc j a.at) (same_peer (Here j) a.peer))

  owed_settled : owed_past old.node.0 k (Some j) head cs old.attaches ≡ apart_from j old.attaches
  owed_settled =
      let p : PendingAttach → Bool = λ a. not (same_inc j a.at) && same_peer (Here j) a.peer in
      let q : PendingAttach → Bool = λ a. not (same_inc j a.at) && not (same_peer
      (Here j) a.peer) in
      ap (λ l. filter (λ a. not (ends_attach (Some j) head cs a)) (old.attaches ++ l)) attaches
      ∙ ap (filter (λ a. not (ends_attach (Some j) head cs a))) (append-nil old.attaches)
      ∙ filter-agree (λ a. not (ends_attach (Some j) head cs a)) q old.attaches
      (all-impl (λ a. list_any (notifies a) (map (notice reasons.Closed)
      (filter p old.attaches)) ≡ p a)
      (λ a. not (ends_attach (Some j) head cs a) ≡ q a)
      (λ a is. settled a (ap (list_any (notifies a)) told_all ∙ is)) old.attaches
      (notified-each reasons.Closed p old.attaches rises))
      ∙ sym (filter-filter (λ a. not (same_peer (Here j) a.peer)) (λ a. not
      (same_inc j a.at)) old.attaches)

  pub close-left : after_step k (Some j) head cs old ≡ after_close old j k
  close-left =
      state_by_parts old.node _ _ _ _ _ _ _ _ _ _
      (rw (ap (filter (is_on old.node.0)) only_told.opened) (omega arith))
      endpoints_closed
      hunts_gone
      owed_settled
      (only_told.meets_none old.node.0 old.met)

-- A RESTART of the node, by any maker: the effects open none, and close all of these
pub record ClosesAll (incs : List Inc) (es : List Effect) : Type 0 where
  pub opened : filter_map opened_in es ≡ []
  pub opens_none : (i : Inc) → list_any (opens i) es ≡ false
  pub closes_all : (i : Inc) → list_any (same_inc i) incs ≡ true → list_any (closes i) es ≡ true

closings-open_none : (i : Inc) (incs : List Inc) → list_any (opens i) (closings incs) ≡ false
closings-open_none i [] = refl
closings-open_none i (j ∷ incs) = closings-open_none i incs

closings-opened : (incs : List Inc) → filter_map opened_in (closings incs) ≡ []
closings-opened [] = refl
closings-opened (j ∷ incs) = closings-opened incs

pub closings-meet_none : (node : ℕ) (met : List MetPeer) (incs : List Inc)
    → fold (living_after node) met (closings incs) ≡ met
closings-meet_none node met [] = refl
closings-meet_none node met (j ∷ incs) = closings-meet_none node met incs

-- they close just these
pub closes-closings : (i : Inc) (incs : List Inc)
    → list_any (closes i) (closings incs) ≡ list_any (same_inc i) incs
closes-closings i [] = refl
closes-closings i (j ∷ incs) = ap (λ b. same_inc i j || b) (closes-closings i incs)

pub closings-all : (incs : List Inc) → ClosesAll incs (closings incs)
closings-all incs = record {
  opened = closings-opened incs;
  opens_none = λ i. closings-open_none i incs;
  closes_all = λ i among. closes-closings i incs ∙ among;
}

itself-among : (i : Inc) (incs : List Inc) → list_any (same_inc i) (i ∷ incs) ≡ true
itself-among i incs = or_left (same_inc i i) (list_any (same_inc i) incs) (same_inc-refl i)

pub filter-no : {X : Type 0} (p : X → Bool) (xs : List X) → AllByRecursion (λ x. p x ≡ false) xs
    → filter p xs ≡ []
filter-no p [] all = refl
filter-no p (x ∷ xs) all = rw all.0 (filter-no p xs all.1)

among-more : (i : Inc) (incs more : List Inc) → AllByRecursion (λ x. list_any (same_inc x) incs
    ≡ true) more
    → AllByRecursion (λ x. list_any (same_inc x) (i ∷ incs) ≡ true) more
among-more i incs [] all = tt
among-more i incs (x ∷ more) all =
    (or_right (same_inc x i) (list_any (same_inc x) incs) all.0, among-more i incs more all.1)

all-among : (incs : List Inc) → AllByRecursion (λ i. list_any (same_inc i) incs ≡ true) incs
all-among [] = tt
all-among (i ∷ incs) = (itself-among i incs, among-more i incs incs (all-among incs))

module _ (k : ℕ) (me : Option Inc) (n : NodeNo) (old : NodeState) (F : Inc
    → OpenEndpoint) (incs : List Inc)
    (named : (i : Inc) → (F i).inc ≡ i) (left : old.endpoints ≡ map F incs)
    (hunters : AllByRecursion (λ h. list_any (same_inc h.at) incs ≡ true) old.hunts)
    (holders : AllByRecursion (λ a. list_any (same_inc a.at) incs ≡ true) old.attaches)
    (rs : List Effect) (all : ClosesAll incs rs)
    (lost : fold (living_after old.node.0) old.met rs ≡ []) where
  gone : (i : Inc) → list_any (same_inc i) incs ≡ true
      → stays rs (endpoint_past k me (Restart n) rs (F i)) ≡ false
  gone i among =
      let same : (endpoint_past k me (Restart n) rs (F i)).inc ≡ i =
      rw (all.opens_none (F i).inc) (named i) in
      ap (λ (x : Inc). not (list_any (closes x) rs)) same ∙ ap not (all.closes_all i among)

  all_gone : (is : List Inc) → AllByRecursion (λ i. list_any (same_inc i) incs ≡ true) is
      → AllByRecursion (λ e. stays rs e ≡ false) (map (endpoint_past k me (Restart n) rs)
      (map F is))
  all_gone [] among = tt
  all_gone (i ∷ is) among = (gone i among.0, all_gone is among.1)

  pub restart-left : after_step k me (Restart n) rs old ≡ after_restart old
  restart-left =
      let none : opened_by old.node.0 rs ≡ [] = ap (filter (is_on old.node.0)) all.opened in
      state_by_parts old.node _ _ _ _ _ _ _ _ _ _
      (rw none (omega arith))
      (ap (λ l. filter (stays rs) (map (endpoint_past k me (Restart n) rs) old.endpoints ++ map
      (new_endpoint k me (Restart n) rs) l)) none
      ∙ ap (filter (stays rs)) (append-nil (map (endpoint_past k me (Restart n) rs) old.endpoints))
      ∙ rw left (filter-no (stays rs) (map (endpoint_past k me (Restart n) rs) (map F incs))
      (all_gone incs (all-among incs))))
      (ap (filter (λ h. not (ends_hunt rs h))) (append-nil old.hunts)
      ∙ filter-no (λ h. not (ends_hunt rs h)) old.hunts
      (all-impl (λ h. list_any (same_inc h.at) incs ≡ true) (λ h. not (ends_hunt rs h) ≡ false)
      (λ h among. ap not (or_right (list_any (answers_hunt h) rs) (list_any (closes h.at) rs)
      (all.closes_all h.at among))) old.hunts hunters))
      (ap (filter (λ a. not (ends_attach me (Restart n) rs a))) (append-nil old.attaches)
      ∙ filter-no (λ a. not (ends_attach me (Restart n) rs a)) old.attaches
      (all-impl (λ a. list_any (same_inc a.at) incs
      ≡ true) (λ a. not (ends_attach me (Restart n) rs a) ≡ false)
      (λ a among. ap not (or_right (list_any (notifies a) rs || detaches me (Restart n) a)
      (list_any (closes a.at) rs) (all.closes_all a.at among))) old.attaches holders))
      lost
