-- A send: to an endpoint of the own node, to a dead peer, or over a link, where the side says it.
use Rattle.std.proofs.Common.{◌≡◌, ℕ, Bool, true, false, cond, ◌||◌, ◌&&◌, inr, List, [], ◌∷◌}
use Rattle.std.proofs.Common.{Option, Some, None, refl, sym, ◌∙◌, ap, append-nil, ◌==◌, is_some}
use Rattle.std.proofs.Common.{filter_map, eqb-true, true≢false}
use Rattle.std.specs.List.{list_any, AllByRecursion}
use Rattle.linx_base.specs.Numbers.{is_on, node_of}
use Rattle.linx_base.specs.declared.identity.Inc.{Inc}
use Rattle.linx_base.specs.declared.identity.LinkNo.{LinkNo}
use Rattle.linx_base.specs.declared.identity.Peer.{Peer}
use Rattle.linx_base.specs.declared.identity.Peer.TheVariants.{Here, There}
use Rattle.linx_base.specs.declared.identity.Session.{Session}
use Rattle.linx_base.specs.SigNotes.{SigNote}
use Rattle.trunk_record.specs.Changes.{saying, says_sending}
use Rattle.trunk_record.specs.Records.{SideRecord}
use Rattle.trunk_record.specs.Sayings.{Said, is_live, published, signaled}
use Rattle.trunk_record.proofs.Changes.{proper_sending}
use Rattle.journal.specs.Effects.{arrivals_of, send_answer}
use Rattle.journal.specs.History.{closes, endpoint_by, is_closed, name_of, opened_in}
use Rattle.journal.specs.Laws.{sending}
use Rattle.journal.specs.Living.{is_alive}
use Rattle.journal.specs.Shapes.{Shape, node_by}
use Rattle.journal.specs.declared.by.By.{By}
use Rattle.journal.specs.declared.effect.Effect.{Effect}
use Rattle.journal.specs.declared.effect.Effect.TheVariants.{Arrived}
use Rattle.journal.specs.declared.effect.Step.{Step}
use Rattle.journal.specs.declared.head.Head.TheVariants.{Send}
use Rattle.journal.specs.declared.head.SentTo.{SentTo}
use Rattle.journal.specs.declared.head.SentTo.TheVariants.{Dead, Link, Queued}
use Rattle.link_laws.specs.Came.{signal_over}
use Rattle.link_laws.specs.Ends.{node_at}
use Rattle.link_laws.specs.Sides.{AllLinked, Links, records_of}
use Rattle.link_laws.specs.Fits.{CanSend}
use Rattle.link_laws.specs.Laws.{IsLegalStep, KeepsNodeLaws}
use Rattle.link_laws.specs.Linked.{IsLinked}
use Rattle.link_laws.specs.Moves.{AllLeft, Sends, SendsOver}
use Rattle.link_laws.proofs.Sides.Acts.{keeps_quiet, keeps_send}
use Rattle.link_laws.proofs.Sides.Untouched.{touches}
use Rattle.link_laws.proofs.Endpoints.Closings.{open-unclosed}
use Rattle.link_laws.proofs.Sides.WordsAfterStep.{IsDone}
use Rattle.link_laws.proofs.Moves.Shown.{IsGood, IsKnown, left_kept, short, opens-nothing}
use Rattle.link_laws.proofs.Moves.Shown.{short_after, step_of}
use Rattle.link_laws.proofs.Hunts.EachStep.{IsCalm, calm_here}
use Rattle.link_laws.proofs.Hunts.ManySides.{back_half}
use Rattle.link_laws.proofs.Hunts.OneSide.{hunted_sending}
use Rattle.link_laws.proofs.Legal.{legal_plain}
use Rattle.link_laws.proofs.Peers.Living.{alive-known, open-not_unpublished}
use Rattle.link_laws.proofs.Endpoints.Makers.{maker-open}
use Rattle.link_laws.proofs.Moves.OneSideSays.{said_kept}
use Rattle.link_laws.proofs.AllLinks.OneSideKept.{one_hunted, raises-none, tells-none}
use Rattle.link_laws.proofs.Endpoints.OpenAfterStep.{open-more, open-on}
use Rattle.link_laws.proofs.Promises.FromRecords.{IsOpenNow}
use Rattle.link_laws.proofs.AllLinks.OthersStay.{one_side, with_side}

-- what a send on the own node brings touches, opens and closes nothing
arrivals-test : (p : Effect → Bool) (j i : Inc) (note : SigNote)
    → p (Arrived i (Here j) note) ≡ false → (t : Bool)
    → list_any p (arrivals_of j note t (Here i)) ≡ false
arrivals-test p j i note none true = ap (λ t. t || false) none
arrivals-test p j i note none false = refl

arrivals-open : (j i : Inc) (note : SigNote) (t : Bool)
    → filter_map opened_in (arrivals_of j note t (Here i)) ≡ []
arrivals-open j i note true = refl
arrivals-open j i note false = refl

arrivals-over : (j : Inc) (note : SigNote) (l : LinkNo) (x : Session) (b : Inc) (t : Bool)
    → arrivals_of j note t (There l x b) ≡ []
arrivals-over j note l x b true = refl
arrivals-over j note l x b false = refl

-- over a link a send is answered link or dead
over-queued : (l : LinkNo) (x : Session) (b : Inc) (t : Bool)
    → Queued ≡ send_answer t (There l x b) → ⊥
over-queued l x b true same = cc
over-queued l x b false same = cc

over-alive : (l : LinkNo) (x : Session) (b : Inc) (t : Bool)
    → Link ≡ send_answer t (There l x b) → t ≡ true
over-alive l x b true same = refl
over-alive l x b false same = absurd cc

-- what is sent over a link is said at that side alone
says-elsewhere : (n k h : ℕ) (l : LinkNo) (x z : Session) (j b : Inc) (note : SigNote)
    → is_on n j ≡ true → ((n == k) && (l.0 == h)) ≡ false
    → signal_over k h z (Some j) (Send (There l x b) note Link) ≡ []
says-elsewhere n k h l x z j b note here apart =
    ap (λ t. cond ((t && l.0 == h) && x.0 == z.0) (signaled j b note ∷ []) [])
    (ap (λ m. m == k) (eqb-true (node_of j) n here))
    ∙ ap (λ t. cond (t && x.0 == z.0) (signaled j b note ∷ []) []) apart

module _ (shape : Shape) (P : List Step) (before after : Links) (known : IsKnown shape P before)
    (by : By) (note : SigNote) (es : List Effect) (j : Inc) (mine : endpoint_by P by ≡ Some j) where
  abbrev node : ℕ
  node = node_by shape by

  abbrev sent : Peer → SentTo → Step
  sent q answer = step_of by (Send q note answer) es

  has : (q : Peer) (answer : SentTo) → KeepsNodeLaws shape P (sent q answer)
      → es ≡ arrivals_of j note (is_alive P node q) q
  has q answer laws = laws.effects ∙ ap (λ (m : Option Inc). sending P node m q note) mine

  -- A SEND THAT LEAVES ALL SIDES
  left_good : (q : Peer) (answer : SentTo) → KeepsNodeLaws shape P (sent q answer)
      → ((n l : ℕ) → list_any (touches n l) es ≡ false) → filter_map opened_in es ≡ []
      → ((i : Inc) → list_any (closes i) es ≡ false)
      → ((n h : ℕ) (x : Session) → signal_over n h x (Some j) (Send q note answer) ≡ [])
      → AllLeft shape before after → IsGood shape P (sent q answer) after
  left_good q answer laws touches_none opens_none closes_none says_none left = record {
    legal = legal_plain shape P by (Send q note answer) es refl laws;
    kept = left_kept shape P (sent q answer) before after (record {
      es = es;
      items = [];
      done = record { effects = sym (append-nil es); items_only = tt };
      touches_none = touches_none;
      opens_none = opens_none;
      closes_none = closes_none;
      stays = λ n. refl;
      says_none = λ n h x. ap (λ (m : Option Inc). signal_over n h x m (Send q note answer)) mine
          ∙ says_none n h x;
    }) (λ n m l. calm_here P (sent q answer)
        (record { begins_none = λ k h w. refl; opens_none = opens_none }) n m l) left known.kept;
    promised = tt;
  }

  here_good : (i : Inc) (answer : SentTo) → KeepsNodeLaws shape P (sent (Here i) answer)
      → AllLeft shape before after → IsGood shape P (sent (Here i) answer) after
  here_good i answer laws left =
      let t : Bool = is_alive P node (Here i) in
      left_good (Here i) answer laws
      (λ n l. ap (list_any (touches n l)) (has (Here i) answer laws)
      ∙ arrivals-test (touches n l) j i note refl t)
      (ap (filter_map opened_in) (has (Here i) answer laws) ∙ arrivals-open j i note t)
      (λ k. ap (list_any (closes k)) (has (Here i) answer laws)
      ∙ arrivals-test (closes k) j i note refl t)
      (λ n h x. refl) left

  none_over : (l : LinkNo) (x : Session) (b : Inc) (answer : SentTo)
      → KeepsNodeLaws shape P (sent (There l x b) answer) → es ≡ []
  none_over l x b answer laws = has (There l x b) answer laws
      ∙ arrivals-over j note l x b (is_alive P node (There l x b))

  dead_good : (l : LinkNo) (x : Session) (b : Inc)
      → KeepsNodeLaws shape P (sent (There l x b) Dead) → AllLeft shape before after
      → IsGood shape P (sent (There l x b) Dead) after
  dead_good l x b laws left =
      let none : es ≡ [] = none_over l x b Dead laws in
      left_good (There l x b) Dead laws (λ n h. ap (list_any (touches n h)) none)
      (ap (filter_map opened_in) none) (λ i. ap (list_any (closes i)) none) (λ n h z. refl) left

  -- A SEND OVER A LINK
  module _ (l : LinkNo) (x : Session) (b : Inc)
      (laws : KeepsNodeLaws shape P (sent (There l x b) Link))
      (over : SendsOver shape P before after node j l b note) where
    abbrev s : Step
    s = sent (There l x b) Link

    abbrev n : ℕ
    n = node_at shape l over.at

    abbrev A : SideRecord
    A = (before l.0 over.at).side

    abbrev ws : List Said
    ws = says_sending j (name_of P j) b note A

    none : es ≡ []
    none = none_over l x b Link laws

    done : IsDone s [] []
    done = record { effects = none; items_only = tt }

    near : IsLinked P n l A
    near = known.kept.linked l over.of_shape over.at

    open_ : is_alive P n (Here j) ≡ true
    open_ = ap (λ (k : ℕ). is_alive P k (Here j)) over.node
        ∙ maker-open shape P known.legal (short shape P before known) by j mine

    on : is_on n j ≡ true
    on = open-on P n j open_

    -- the peer is alive, so it can be sent to
    can : CanSend A x b
    can = alive-known P n l A near x b (ap (λ (k : ℕ). is_alive P k (There l x b)) over.node
        ∙ over-alive l x b (is_alive P node (There l x b)) laws.sends)

    over_legal : IsLegalStep shape P s
    over_legal = legal_plain shape P by (Send (There l x b) note Link) es refl laws

    over_linked : AllLinked shape (s ∷ P) (with_side (records_of before) l.0 over.at (saying ws A))
    over_linked =
        one_side shape (s ∷ P) (records_of before) l over.at (saying ws A) known.two over.of_shape
        (keeps_send P s j b note n l A none
        (ap (λ (z : Session). Send (There l z b) note Link) can.own) mine open_ near)
        (λ h side of_h apart.
        keeps_quiet P s [] [] done (node_at shape h side) h (records_of before h.0 side)
        (known.kept.linked h of_h side) refl refl (opens-nothing P [] refl)
        (λ z. ap (λ (m : Option Inc). signal_over (node_at shape h side) h.0 z m
        (Send (There l x b) note Link)) mine
        ∙ says-elsewhere n (node_at shape h side) h.0 l x z j b note on apart) (λ i live. refl))

    still_open : is_closed (s ∷ P) j ≡ false
    still_open = open-unclosed shape (s ∷ P) (known.legal, over_legal)
        (short_after shape P before s known) n j
        (open-more P s [] [] done n (opens-nothing P [] refl) j open_ refl)

    open_now : (t : Bool) → AllByRecursion (IsOpenNow (s ∷ P))
        (cond t [] (published j (name_of P j) ∷ []))
    open_now true = tt
    open_now false = (still_open, tt)

    calm : IsCalm P s
    calm = record { begins_none = λ k h w. refl; opens_none = ap (filter_map opened_in) none }

    over_good : IsGood shape P s after
    over_good = record {
      legal = over_legal;
      kept = said_kept shape P s before after l over.at known.two over.of_shape over.others
          known.kept ws (record {
            made = over.side;
            well = inr (
              can.up,
              proper_sending A j b (name_of P j) note
                  (known.kept.trunks l over.of_shape over.at).proper.0
                  (open-not_unpublished P n l A near j open_),
            );
            linked = over_linked;
            raises_none = raises-none s [] [] done (λ k h z. refl);
            open_now = (tt, open_now (is_live j A.now.said));
            hunted = one_hunted shape P s before after l over.at known.two over.of_shape
                over.others known.kept
                (hunted_sending shape P before s calm known.kept.hunted l over.at over.of_shape
                (after l.0 over.at) ws j open_ (known.kept.trunks l over.of_shape over.at)
                (back_half shape (records_of before) known.kept.trunks l over.of_shape over.at)
                over.side over.noted);
            silent = over.silent;
            quiet = λ k h. tells-none s [] [] done k h refl;
          });
      promised = tt;
    }

  by_peer : (q : Peer) (answer : SentTo) → KeepsNodeLaws shape P (sent q answer)
      → Sends shape P before after node (Some j) q note answer
      → IsGood shape P (sent q answer) after
  by_peer (Here i) answer laws left = here_good i answer laws left
  by_peer (There l x b) Link laws moves = over_good l x b laws moves
  by_peer (There l x b) Dead laws left = dead_good l x b laws left
  by_peer (There l x b) Queued laws left =
      absurd (over-queued l x b (is_alive P node (There l x b)) laws.sends)

-- ANY SEND
pub sending_good : (shape : Shape) (P : List Step) (before after : Links)
    → IsKnown shape P before → (by : By) (q : Peer) (note : SigNote) (answer : SentTo)
    (es : List Effect) → KeepsNodeLaws shape P (step_of by (Send q note answer) es)
    → Sends shape P before after (node_by shape by) (endpoint_by P by) q note answer
    → IsGood shape P (step_of by (Send q note answer) es) after
sending_good shape P before after known by q note answer es laws moves =
    by_me (endpoint_by P by) refl moves
  where
    by_me : (me : Option Inc) → endpoint_by P by ≡ me
        → Sends shape P before after (node_by shape by) me q note answer
        → IsGood shape P (step_of by (Send q note answer) es) after
    by_me None none left = absurd (true≢false (sym (laws.endpoints.needs refl)
        ∙ ap (λ (m : Option Inc). is_some m) none))
    by_me (Some j) mine it =
        by_peer shape P before after known by note es j mine q answer laws it
