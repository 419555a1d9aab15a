-- A hunt: it is answered at once, or stays pending on its node, or over a link, where its name is
-- asked for.
use Rattle.std.proofs.Common.{◌≡◌, ℕ, suc, Bool, true, false, cond, not, ◌||◌, ◌&&◌, ◌⊎◌, inl, inr}
use Rattle.std.proofs.Common.{List, [], ◌∷◌, ◌++◌, length, Option, Some, None, refl, sym, ◌∙◌, ap}
use Rattle.std.proofs.Common.{subst, append-nil, ◌==◌, is_some, filter, bytes_eq, eq-eqb, eqb-true}
use Rattle.std.proofs.Common.{true≢false}
use Rattle.std.specs.List.{list_any, AllByRecursion}
use Rattle.std.proofs.Math.Bool.{or-false}
use Rattle.std.proofs.lemmas.Bool.{or_cases, or_left}
use Rattle.std.proofs.lemmas.List.Elements.{filter-append}
use Rattle.std.proofs.lemmas.List.Folds.{list_any-append}
use Rattle.linx_base.specs.Numbers.{is_on, node_of}
use Rattle.linx_base.specs.Peers.{same_inc}
use Rattle.linx_base.specs.Pending.{is_for}
use Rattle.linx_base.specs.declared.identity.Inc.{Inc}
use Rattle.linx_base.specs.declared.identity.LinkNo.{LinkNo}
use Rattle.linx_base.specs.declared.identity.Peer.{Peer}
use Rattle.linx_base.specs.declared.identity.Session.{Session}
use Rattle.linx_base.specs.declared.name.Path.{Path}
use Rattle.linx_base.specs.declared.name.Path.TheVariants.{Local, Over}
use Rattle.linx_base.specs.declared.pending.PendingHunt.{PendingHunt}
use Rattle.linx_base.specs.SigNotes.{SigNote}
use Rattle.trunk_record.specs.Records.{SideRecord}
use Rattle.trunk_record.specs.Sayings.{Said, asked, is_live, is_signal}
use Rattle.journal.specs.Effects.{found, hunted}
use Rattle.journal.specs.History.{endpoint_by, opened_by}
use Rattle.journal.specs.Laws.{hunting_by}
use Rattle.journal.specs.Living.{find}
use Rattle.journal.specs.Pending.{answers_hunt, ends_hunt, hunt_at, hunt_in, hunting}
use Rattle.journal.specs.Shapes.{Shape, node_by}
use Rattle.journal.specs.declared.by.By.{By}
use Rattle.journal.specs.declared.effect.Effect.{Effect}
use Rattle.journal.specs.declared.effect.Step.{Step}
use Rattle.journal.specs.declared.head.Head.TheVariants.{Hunt}
use Rattle.journal.proofs.Lists.{list_any-filter}
use Rattle.link_laws.specs.Ends.{node_at}
use Rattle.link_laws.specs.Sides.{Links}
use Rattle.link_laws.specs.Linked.{IsTrueOf, is_hunted}
use Rattle.link_laws.specs.Laws.{KeepsNodeLaws}
use Rattle.link_laws.specs.Moves.{AllLeft, AsksOver, Hunts, is_up}
use Rattle.link_laws.proofs.Sides.WordsAfterStep.{AreItems, IsDone, opened-items}
use Rattle.link_laws.proofs.Moves.Shown.{IsGood, IsKnown, TouchesNone, left_kept, opens-nothing}
use Rattle.link_laws.proofs.Moves.Shown.{short, step_of}
use Rattle.link_laws.proofs.Hunts.EachStep.{BeginsNone, calm_here, names_were}
use Rattle.link_laws.proofs.Hunts.Questions.{IsSameHere}
use Rattle.link_laws.proofs.Hunts.ManySides.{BeginsOne, hunted_asking, none-some}
use Rattle.link_laws.proofs.Legal.{legal_plain}
use Rattle.link_laws.proofs.Moves.OneSideSays.{SaysWell, linked_says, said_kept}
use Rattle.link_laws.proofs.AllLinks.OneSideKept.{raises-none, tells-none}
use Rattle.link_laws.proofs.Endpoints.OpenAfterStep.{both_true, open-more}
use Rattle.link_laws.proofs.Promises.FromRecords.{IsOpenNow}
use Rattle.link_laws.proofs.AllLinks.OthersStay.{no_signal}
use Rattle.link_laws.proofs.Hunts.UnfoundPeers.{maker-home}
use Rattle.trunk_record.proofs.Sayings.{same_inc-itself}

hunted-items : (q : Option Peer) (h : PendingHunt) → AreItems (hunted q h)
hunted-items None h = tt
hunted-items (Some q) h = (refl, tt)

hunting-items : (P : List Step) (node : ℕ) (me : Option Inc) (path : Path) (note : SigNote)
    → AreItems (hunting_by P node me path note)
hunting-items P node None path note = tt
hunting-items P node (Some j) path note = hunted-items (find P node path)
    (record { at = j; path = path; signal = note; number = suc (length P) })

-- what a filter drops at the end was not kept
dropped : (p q : PendingHunt → Bool) (xs ys : List PendingHunt) → filter q ys ≡ []
    → list_any p (filter q (xs ++ ys)) ≡ true → list_any p xs ≡ true
dropped p q xs ys none is = list_any-filter p q xs (sym (ap (list_any p) (append-nil (filter q xs)))
    ∙ sym (ap (λ (zs : List PendingHunt). list_any p (filter q xs ++ zs)) none)
    ∙ sym (ap (list_any p) (filter-append q xs ys)) ∙ is)

-- a hunt on the own node is none over a link
local-none : (n k : ℕ) (me : Option Inc) (v : List ℕ) (note : SigNote) (l : LinkNo) (w : List ℕ)
    → list_any (is_for (Over l w)) (hunt_at n k me (Local v) note) ≡ false
local-none n k None v note l w = refl
local-none n k (Some j) v note l w = by_node (is_on n j)
  where
    by_node : (t : Bool) → list_any (is_for (Over l w))
        (cond t ((record { at = j; path = Local v; signal = note; number = k }) ∷ []) []) ≡ false
    by_node true = refl
    by_node false = refl

module _ (shape : Shape) (P : List Step) (before after : Links) (known : IsKnown shape P before)
    (by : By) (path : Path) (note : SigNote) (es : List Effect)
    (laws : KeepsNodeLaws shape P (step_of by (Hunt path note) es)) where
  abbrev node : ℕ
  node = node_by shape by

  abbrev s : Step
  s = step_of by (Hunt path note) es

  hunt-items : AreItems es
  hunt-items = subst AreItems (sym laws.effects) (hunting-items P node (endpoint_by P by) path note)

  untouched : TouchesNone P s
  untouched = record {
    es = [];
    items = es;
    done = record { effects = refl; items_only = hunt-items };
    touches_none = λ n l. refl;
    opens_none = refl;
    closes_none = λ i. refl;
    stays = λ n. refl;
    says_none = λ n h x. no_signal n h x (endpoint_by P by) (Hunt path note) (λ j. refl);
  }

  opened_none : (m : ℕ) → opened_by m s.effects ≡ []
  opened_none m = ap (filter (is_on m)) (opened-items es hunt-items)

  good_left : ((n m : ℕ) (l : LinkNo) → IsSameHere P (s ∷ P) n m l) → AllLeft shape before after
      → IsGood shape P s after
  good_left same left = record {
    legal = legal_plain shape P by (Hunt path note) es refl laws;
    kept = left_kept shape P s before after untouched same left known.kept;
    promised = tt;
  }

  -- A HUNT THAT FINDS A PEER is answered, so none is new
  module _ (j : Inc) (mine : endpoint_by P by ≡ Some j) (q : Peer)
      (finds : find P node path ≡ Some q) where
    abbrev h : PendingHunt
    h = record { at = j; path = path; signal = note; number = suc (length P) }

    answered : ends_hunt es h ≡ true
    answered =
        let is_found : es ≡ found q h ∷ [] =
        laws.effects ∙ ap (λ (m : Option Inc). hunting_by P node m path note) mine
        ∙ ap (λ (p : Option Peer). hunted p h) finds in
        or_left (list_any (answers_hunt h) es) _ (ap (list_any (answers_hunt h)) is_found
        ∙ or_left (answers_hunt h (found q h)) false
        (ap (λ t. t && same_inc j j) (eq-eqb h.number h.number refl) ∙ same_inc-itself j))

    gone : (n : ℕ) → filter (λ k. not (ends_hunt es k))
        (hunt_in n (suc (length P)) (endpoint_by P by) (Hunt path note)) ≡ []
    gone n =
        ap (λ (m : Option Inc). filter (λ k. not (ends_hunt es k))
        (hunt_at n (suc (length P)) m path note)) mine ∙ by_node (is_on n j)
      where
        by_node : (t : Bool) → filter (λ k. not (ends_hunt es k)) (cond t (h ∷ []) []) ≡ []
        by_node true = ap (λ t. cond (not t) (h ∷ []) []) answered
        by_node false = refl

    found_same : (n m : ℕ) (l : LinkNo) → IsSameHere P (s ∷ P) n m l
    found_same n m l = record {
      hunts = λ w is. dropped (is_for (Over l w)) (λ k. not (ends_hunt es k)) (hunting P n)
          (hunt_in n (suc (length P)) (endpoint_by P by) (Hunt path note)) (gone n) is;
      none = names_were P s m (opened_none m);
    }

    pub found_good : AllLeft shape before after → IsGood shape P s after
    found_good left = good_left found_same left

-- A HUNT OVER A LINK THAT FINDS NOTHING is new there, and nowhere else
module _ (shape : Shape) (P : List Step) (before after : Links) (known : IsKnown shape P before)
    (by : By) (l : LinkNo) (v : List ℕ) (note : SigNote) (es : List Effect)
    (laws : KeepsNodeLaws shape P (step_of by (Hunt (Over l v) note) es)) (j : Inc)
    (mine : endpoint_by P by ≡ Some j) (finds_none : find P (node_by shape by) (Over l v) ≡ None)
    (asks : AsksOver shape before after (node_by shape by) l v) where
  abbrev k : ℕ
  k = node_by shape by

  abbrev step : Step
  step = step_of by (Hunt (Over l v) note) es

  abbrev hunt : PendingHunt
  hunt = record { at = j; path = Over l v; signal = note; number = suc (length P) }

  abbrev A : SideRecord
  A = (before l.0 asks.at).side

  abbrev ws : List Said
  ws = cond (is_up A) (asked v ∷ []) []

  on : is_on k j ≡ true
  on = maker-home shape P known.legal (short shape P before known) by j mine

  quiet : TouchesNone P step
  quiet = untouched shape P before after known by (Over l v) note es laws

  done : IsDone step [] es
  done = record {
    effects = refl;
    items_only = hunt-items shape P before after known by (Over l v) note es laws;
  }

  begins : (n : ℕ) → hunt_in n (suc (length P)) (endpoint_by P by) (Hunt (Over l v) note)
      ≡ cond (is_on n j) (hunt ∷ []) []
  begins n = ap (λ (m : Option Inc). hunt_at n (suc (length P)) m (Over l v) note) mine

  elsewhere : (n : ℕ) (h : LinkNo) → ((n == k) && (h.0 == l.0)) ≡ false → BeginsNone P step n h
  elsewhere n h apart w = ap (list_any (is_for (Over h w))) (begins n) ∙ by_node (is_on n j) refl
    where
      by_node : (t : Bool) → is_on n j ≡ t
          → list_any (is_for (Over h w)) (cond t (hunt ∷ []) []) ≡ false
      by_node false e = refl
      by_node true e =
          let here : (n == k) ≡ true = eq-eqb n k (sym (eqb-true (node_of j) n e)
          ∙ eqb-true (node_of j) k on) in
          let off : (h.0 == l.0) ≡ false = sym (ap (λ t. t && (h.0 == l.0)) here) ∙ apart in
          ap (λ t. (t && bytes_eq w v) || false) off

  new : (w : List ℕ) → is_hunted (step ∷ P) k l w ≡ true
      → (bytes_eq w v ≡ true) ⊎ (is_hunted P k l w ≡ true)
  new w is =
      elim (or_cases (is_hunted P k l w) (list_any (is_for (Over l w)) begun)
      (sym (list_any-append (is_for (Over l w)) (hunting P k) begun)
      ∙ list_any-filter (is_for (Over l w)) (λ h. not (ends_hunt es h)) (hunting P k ++ begun)
      is)) [
        | inl was ↦ inr was
        | inr it ↦ inl (named it)
      ]
    where
      begun : List PendingHunt
      begun = hunt_in k (suc (length P)) (endpoint_by P by) (Hunt (Over l v) note)

      named : list_any (is_for (Over l w))
          (hunt_in k (suc (length P)) (endpoint_by P by) (Hunt (Over l v) note)) ≡ true
          → bytes_eq w v ≡ true
      named it =
          let one : ((l.0 == l.0 && bytes_eq w v) || false) ≡ true =
          sym (ap (λ t. list_any (is_for (Over l w)) (cond t (hunt ∷ []) [])) on)
          ∙ sym (ap (list_any (is_for (Over l w))) (begins k)) ∙ it in
          (both_true (l.0 == l.0) (bytes_eq w v)
          (sym (or-false (l.0 == l.0 && bytes_eq w v)) ∙ one)).1

  begins_one : BeginsOne P step k l v
  begins_one = record {
    elsewhere = elsewhere;
    new = new;
    opens_none = opened-items es done.items_only;
  }

  well : (p : Option Session) → A.now.peer ≡ p → SaysWell A (cond (is_some p) (asked v ∷ []) [])
  well None down = inl refl
  well (Some y) up = inr (
    (λ down. none-some (sym down ∙ up)),
    (known.kept.trunks l asks.of_shape asks.at).proper.0,
  )

  no_signals : (t : Bool) → filter is_signal (cond t (asked v ∷ []) []) ≡ []
  no_signals true = refl
  no_signals false = refl

  truly : (t : Bool) → AllByRecursion (IsTrueOf (step ∷ P) (node_at shape l asks.at))
      (cond t (asked v ∷ []) [])
  truly true = (tt, tt)
  truly false = tt

  open_now : (t : Bool) → AllByRecursion (IsOpenNow (step ∷ P)) (cond t (asked v ∷ []) [])
  open_now true = (tt, tt)
  open_now false = tt

  live : (t : Bool) (i : Inc) → is_live i (cond t (asked v ∷ []) [] ++ A.now.said) ≡ true
      → is_live i A.now.said ≡ true
  live true i is = is
  live false i is = is

  pub asking_good : IsGood shape P step after
  asking_good = record {
    legal = legal_plain shape P by (Hunt (Over l v) note) es refl laws;
    kept = said_kept shape P step before after l asks.at known.two asks.of_shape asks.others
        known.kept ws (record {
          made = asks.side;
          well = well A.now.peer refl;
          linked = linked_says shape P step before after l asks.at known.two asks.of_shape
              asks.others known.kept ws quiet (no_signals (is_up A)) (truly (is_up A))
              (λ i is. open-more P step [] es done (node_at shape l asks.at)
              (opens-nothing P [] refl) i
              ((known.kept.linked l asks.of_shape asks.at).live i (live (is_up A) i is)) refl);
          raises_none = raises-none step [] es done (λ n h x. refl);
          open_now = open_now (is_up A);
          hunted = hunted_asking shape P before after step known.kept.trunks known.kept.hunted
              known.two k l v begins_one asks;
          silent = asks.silent;
          quiet = λ n h. tells-none step [] es done n h refl;
        });
    promised = tt;
  }

-- ANY HUNT
module _ (shape : Shape) (P : List Step) (before after : Links) (known : IsKnown shape P before)
    (by : By) (note : SigNote) (es : List Effect) where
  by_path : (j : Inc) → endpoint_by P by ≡ Some j → (path : Path)
      → KeepsNodeLaws shape P (step_of by (Hunt path note) es)
      → Hunts shape before after (node_by shape by) path (find P (node_by shape by) path)
      → IsGood shape P (step_of by (Hunt path note) es) after
  by_path j mine (Local v) laws left =
      good_left shape P before after known by (Local v) note es laws (λ n m l. calm_here P
      (step_of by (Hunt (Local v) note) es) (record {
        begins_none = λ n l w. local-none n (suc (length P)) (endpoint_by P by) v note l w;
        opens_none = opened-items es (hunt-items shape P before after known by (Local v) note es
            laws);
      }) n m l) left
  by_path j mine (Over l v) laws moves = by_found (find P (node_by shape by) (Over l v)) refl moves
    where
      by_found : (q : Option Peer) → find P (node_by shape by) (Over l v) ≡ q
          → Hunts shape before after (node_by shape by) (Over l v) q
          → IsGood shape P (step_of by (Hunt (Over l v) note) es) after
      by_found None finds asks = asking_good shape P before after known by l v note es laws j mine
          finds asks
      by_found (Some q) finds left = found_good shape P before after known by (Over l v) note es
          laws j mine q finds left

  pub hunting_good : (path : Path) → KeepsNodeLaws shape P (step_of by (Hunt path note) es)
      → Hunts shape before after (node_by shape by) path (find P (node_by shape by) path)
      → IsGood shape P (step_of by (Hunt path note) es) after
  hunting_good path laws moves = by_me (endpoint_by P by) refl
    where
      by_me : (me : Option Inc) → endpoint_by P by ≡ me
          → IsGood shape P (step_of by (Hunt path note) es) after
      by_me None none = absurd (true≢false (sym (laws.endpoints.needs refl)
          ∙ ap (λ (m : Option Inc). is_some m) none))
      by_me (Some j) mine = by_path j mine path laws moves
