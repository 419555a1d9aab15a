-- A LINK IS STILL BUT FOR WHAT WAS STIRRED since a receive that found none: so it is still where all
-- of that is settled.
use Rattle.std.proofs.Common.{◌≡◌, ℕ, suc, ◌<◌, Bool, true, false, not, ◌||◌, ◌==◌, List}
use Rattle.std.proofs.Common.{[], ◌∷◌, ◌++◌, length, Option, Some, None, inl, inr, ◌⊎◌, refl}
use Rattle.std.proofs.Common.{sym, ◌∙◌, ap, subst, append-nil, true≢false, if◌then◌else◌, arith}
use Rattle.std.specs.List.{list_any, filter_map, AllByRecursion}
use Rattle.std.specs.Option.{option_to_list}
use Rattle.std.proofs.lemmas.Bool.{or_left, or_right, false_from_ne_true}
use Rattle.std.proofs.lemmas.List.Elements.{filter_map-append}
use Rattle.std.proofs.lemmas.List.Folds.{list_any-append}
use Rattle.linx_base.specs.Fronts.{IsFront}
use Rattle.linx_base.specs.Numbers.{is_on}
use Rattle.linx_base.specs.Pending.{is_for}
use Rattle.linx_base.specs.SigNotes.{SigNote}
use Rattle.linx_base.specs.declared.frame.LinkDecl.{LinkDecl}
use Rattle.linx_base.specs.declared.identity.Inc.{Inc}
use Rattle.linx_base.specs.declared.identity.LinkNo.{LinkNo}
use Rattle.linx_base.specs.declared.identity.Peer.{Peer}
use Rattle.linx_base.specs.declared.identity.Peer.TheVariants.{Here, There}
use Rattle.linx_base.specs.declared.identity.Session.{Session}
use Rattle.linx_base.specs.declared.identity.Side.TheVariants.{First, Second}
use Rattle.linx_base.specs.declared.name.Path.TheVariants.{Over}
use Rattle.linx_base.specs.declared.pending.PendingHunt.{PendingHunt}
use Rattle.journal.specs.declared.effect.Step.{Step}
use Rattle.journal.specs.declared.head.Head.{Head}
use Rattle.journal.specs.declared.head.Head.TheVariants as heads
use Rattle.journal.specs.History.{effects_of, endpoint_by, name_of, open_endpoints, opens}
use Rattle.journal.specs.Living.{is_alive, is_met, living}
use Rattle.journal.specs.Pending.{ends_hunt, hunt_in, hunting}
use Rattle.journal.specs.Sessions.{up_session}
use Rattle.journal.specs.Shapes.{Shape}
use Rattle.journal.specs.Traffic.{arrival_in, arrived_from, is_endpoint, sent_by, sent_to}
use Rattle.link_laws.specs.Ends.{IsLinkOf, end_or_0, link_at, node_at}
use Rattle.link_laws.specs.Laws.{IsLegal, KeepsRest}
use Rattle.link_laws.specs.Sessions.{is_cut, paired_session}
use Rattle.link_laws.specs.Still.{IsStill, IsStillHalf}
use Rattle.link_laws.specs.Still.{cut, is_open_there, whole}
use Rattle.link_check.specs.Orderly.{IsOrderly}
use Rattle.link_check.specs.Rest.{changes, finds_none, is_at_end, is_rough, moves, stir_by, stir_in}
use Rattle.link_check.specs.Rest.{HasGot, IsAnswered, IsSettledHalf, stirred_left, stirs_of}
use Rattle.link_check.specs.Rest.{with_more}
use Rattle.link_check.specs.declared.rest.Stir.{Stir}
use Rattle.link_check.specs.declared.rest.Stir.TheVariants.{Sent, Doubted, Hunted, Offered}
use Rattle.link_check.proofs.Fresh.{unsent}
use Rattle.link_check.proofs.Legal.{legal-orderly}
use Rattle.link_check.proofs.Ones.{any-kept}
use Rattle.link_check.proofs.Sendings.{among, each-all}
use Rattle.link_check.proofs.Stillness.{each-met, met-past, open-among}
use Rattle.link_check.proofs.Tests.{link-is}
use Rattle.link_check.proofs.Stirs.{In, hunt-stirs, in-front, in-more, met-stirs, none-first}
use Rattle.link_check.proofs.Stirs.{none-rest, of-all, open-after, open-before, same-cut, same-name}
use Rattle.link_check.proofs.Stirs.{same-pair, same-session, sent-stirs}

module _ (P : List Step) (n m : ℕ) (l : LinkNo) (x y : Session) where
  -- ONE DIRECTION IS STILL BUT FOR SOME that were stirred
  pub record IsHalfBut (stirs : List Stir) : Type 0 where
    pub up : up_session P n l.0 ≡ Some x
    pub pair : paired_session P n l.0 x ≡ Some y
    pub got : (a b : Inc) → is_alive P m (Here a) ≡ true → is_alive P n (Here b) ≡ true
        → HasGot P l x y a b ⊎ In (Sent a b) stirs
    pub peers : (z : Session) (i : Inc) → is_met (living P n) (There l z i) ≡ true
        → (is_alive P m (Here i) ≡ true) ⊎ In (Doubted i) stirs
    pub hunts : (i : Inc) → is_alive P m (Here i) ≡ true
        → IsAnswered P n l i ⊎ (In (Hunted (name_of P i)) stirs ⊎ In (Offered i) stirs)

  -- where it is still, it is so but for none
  pub half-but : IsStillHalf P n m l x y → IsHalfBut []
  half-but half = record {
    up = half.up;
    pair = half.pair;
    got = λ a b sender receiver. inl (among (HasGot P l x y a) b (open_endpoints P n)
        (among (λ (i : Inc). AllByRecursion (HasGot P l x y i) (open_endpoints P n)) a (open_endpoints P m)
        half.all_got sender) receiver);
    peers = λ z i lives. inl (open-among P m l z i (living P n) half.peers_open lives);
    hunts = λ i open_. inl (among (IsAnswered P n l) i (open_endpoints P m) half.hunts_answered open_);
  }

  -- and where those that were stirred are settled, it is still
  module _ (stirs : List Stir) (but : IsHalfBut stirs) (all : AllByRecursion (IsSettledHalf P n m l x y) stirs)
    where
      got-all : (a b : Inc) → is_alive P m (Here a) ≡ true → is_alive P n (Here b) ≡ true → HasGot P l x y a b
      got-all a b sender receiver =
          elim (but.got a b sender receiver) [
            | inl got ↦ got
            | inr stirred ↦ of-all (IsSettledHalf P n m l x y) (Sent a b) stirs all stirred sender receiver
          ]

      open-all : (q : Peer) → is_met (living P n) q ≡ true → is_open_there P m l q ≡ true
      open-all (Here i) lives = refl
      open-all (There k z i) lives = go (k.0 == l.0) refl
        where
          this : is_met (living P n) (There l z i) ≡ true → is_alive P m (Here i) ≡ true
          this met =
              elim (but.peers z i met) [
                | inl open_ ↦ open_
                | inr stirred ↦ of-all (IsSettledHalf P n m l x y) (Doubted i) stirs all stirred z met
              ]

          go : (b : Bool) → (k.0 == l.0) ≡ b → (not (k.0 == l.0) || is_alive P m (Here i)) ≡ true
          go true same =
              or_right (not (k.0 == l.0)) (is_alive P m (Here i))
              (this (subst (λ (h : LinkNo). is_met (living P n) (There h z i) ≡ true)
              (link-is k l same) lives))
          go false same = or_left (not (k.0 == l.0)) (is_alive P m (Here i)) (ap not same)

      answered-all : (i : Inc) → is_alive P m (Here i) ≡ true → IsAnswered P n l i
      answered-all i open_ =
          elim (but.hunts i open_) [
            | inl answered ↦ answered
            | inr stirred ↦ elim stirred [
              | inl hunted ↦ of-all (IsSettledHalf P n m l x y) (Hunted (name_of P i)) stirs all hunted
                  i open_ refl
              | inr offered ↦ of-all (IsSettledHalf P n m l x y) (Offered i) stirs all offered open_
            ]
          ]

      pub half-settled : IsStillHalf P n m l x y
      half-settled = record {
        up = but.up;
        pair = but.pair;
        all_got = each-all (λ (a : Inc). AllByRecursion (HasGot P l x y a) (open_endpoints P n))
            (open_endpoints P m) (λ a sender. each-all (HasGot P l x y a) (open_endpoints P n)
            (λ b receiver. got-all a b sender receiver));
        peers_open = each-met (λ (q : Peer). is_open_there P m l q ≡ true) (living P n) open-all;
        hunts_answered = each-all (IsAnswered P n l) (open_endpoints P m) answered-all;
      }

-- what is longer than itself by some is so by none
none-longer : {X : Type 0} (xs more later : List X) → xs ≡ (xs ++ more) ++ later → more ≡ []
none-longer [] [] later is = refl
none-longer [] (x ∷ more) later is = cc is
none-longer (x ∷ xs) more later is =
    let rest : xs ≡ (xs ++ more) ++ later = cc in
    none-longer xs more later rest

-- A STEP THAT ISN'T ROUGH leaves one direction still but for what it stirs
module _ (s : Step) (P : List Step) (l : LinkNo) (ends : LinkDecl)
    (calm : list_any (changes l.0) s.effects ≡ false) (n m : ℕ)
    (near : (i : Inc) → is_on n i ≡ true → is_at_end ends i ≡ true)
    (far : (i : Inc) → is_on m i ≡ true → is_at_end ends i ≡ true)
    (orderly : IsOrderly (s ∷ P) n l) (fresh : (a b : Inc) (z : Session)
    → (list_any (opens a) s.effects ≡ true) ⊎ (list_any (opens b) s.effects ≡ true)
    → sent_to P a (There l z b) ≡ []) (x y : Session) (stirs : List Stir)
    (but : IsHalfBut P n m l x y stirs) where
  abbrev me : Option Inc
  me = endpoint_by P s.by

  abbrev first : List Stir
  first = option_to_list (stir_by l.0 me s.head)

  abbrev rest : List Stir
  rest = filter_map (stir_in l.0 ends) s.effects

  abbrev all : List Stir
  all = stirs ++ stirs_of l.0 ends me s

  old : (v : Stir) → In v stirs → In v all
  old v is = in-front v stirs (stirs_of l.0 ends me s) is

  of-head : (v : Stir) → In v first → In v all
  of-head v is = in-more v stirs (stirs_of l.0 ends me s) (in-front v first rest is)

  of-effects : (v : Stir) → In v rest → In v all
  of-effects v is = in-more v stirs (stirs_of l.0 ends me s) (in-more v first rest is)

  up-stays : up_session (s ∷ P) n l.0 ≡ Some x
  up-stays = same-session l ends n s.effects calm (up_session P n l.0) ∙ but.up

  pair-stays : paired_session (s ∷ P) n l.0 x ≡ Some y
  pair-stays = same-pair l ends n x s.effects calm (paired_session P n l.0 x) ∙ but.pair

  -- SIGNALS: where no more was sent, no more came
  module _ (a b : Inc) (receiver : is_alive (s ∷ P) n (Here b) ≡ true) where
    abbrev came : List SigNote
    came = filter_map (arrival_in b (There l x a)) s.effects

    arrived-is : arrived_from (s ∷ P) b (There l x a) ≡ arrived_from P b (There l x a) ++ came
    arrived-is = filter_map-append (arrival_in b (There l x a)) (effects_of P) s.effects

    abbrev sent_now : List SigNote
    sent_now = if is_endpoint a me then sent_by (There l y b) s.head else []

    front : IsFront (arrived_from (s ∷ P) b (There l x a)) (sent_to (s ∷ P) a (There l y b))
    front = orderly.fronts x y up-stays pair-stays a b receiver

    sent-is : sent_now ≡ [] → sent_to (s ∷ P) a (There l y b) ≡ sent_to P a (There l y b)
    sent-is none =
        ap (λ (notes : List SigNote). sent_to P a (There l y b) ++ notes) none
        ∙ append-nil (sent_to P a (There l y b))

    got-stays : HasGot P l x y a b → sent_now ≡ [] → HasGot (s ∷ P) l x y a b
    got-stays got none =
        let longer : arrived_from P b (There l x a)
        ≡ (arrived_from P b (There l x a) ++ came) ++ front.0 =
        got ∙ sym (sent-is none) ∙ front.1
        ∙ ap (λ (notes : List SigNote). notes ++ front.0) arrived-is in
        let no_more : came ≡ [] =
        none-longer (arrived_from P b (There l x a)) came front.0 longer in
        arrived-is
        ∙ ap (λ (notes : List SigNote). arrived_from P b (There l x a) ++ notes) no_more
        ∙ append-nil (arrived_from P b (There l x a)) ∙ got ∙ sym (sent-is none)

    -- and where nothing was sent, nothing came
    got-new : sent_to P a (There l y b) ≡ [] → sent_now ≡ [] → HasGot (s ∷ P) l x y a b
    got-new nothing none =
        let empty : sent_to (s ∷ P) a (There l y b) ≡ [] = sent-is none ∙ nothing in
        none-longer [] (arrived_from (s ∷ P) b (There l x a)) front.0 (sym empty ∙ front.1)
        ∙ sym empty

    got-or : HasGot P l x y a b ⊎ (sent_to P a (There l y b) ≡ [])
        → HasGot (s ∷ P) l x y a b ⊎ In (Sent a b) all
    got-or either =
        elim (sent-stirs l a b y me s.head) [
          | inl none ↦ inl (elim either [
            | inl got ↦ got-stays got none
            | inr nothing ↦ got-new nothing none
          ])
          | inr stirred ↦ inr (of-head (Sent a b) stirred)
        ]

  got-after : (a b : Inc) → is_alive (s ∷ P) m (Here a) ≡ true → is_alive (s ∷ P) n (Here b) ≡ true
      → HasGot (s ∷ P) l x y a b ⊎ In (Sent a b) all
  got-after a b sender receiver =
      elim (open-before l ends m far s P a sender) [
        | inl one ↦ elim (open-before l ends n near s P b receiver) [
          | inl two ↦ elim (but.got a b one.1 two.1) [
            | inl got ↦ got-or a b receiver (inl got)
            | inr stirred ↦ inr (old (Sent a b) stirred)
          ]
          | inr new ↦ got-or a b receiver (inr (fresh a b y (inr new.0)))
        ]
        | inr new ↦ got-or a b receiver (inr (fresh a b y (inl new.0)))
      ]

  -- PEERS
  peers-after : (z : Session) (i : Inc) → is_met (living (s ∷ P) n) (There l z i) ≡ true
      → (is_alive (s ∷ P) m (Here i) ≡ true) ⊎ In (Doubted i) all
  peers-after z i lives =
      elim (met-past n (There l z i) s.effects (living P n) lives) [
        | inl was ↦ elim (but.peers z i was) [
          | inl open_ ↦ elim (open-after l ends m far s P i open_) [
            | inl stays ↦ inl stays
            | inr stirred ↦ inr (of-effects (Doubted i) stirred)
          ]
          | inr stirred ↦ inr (old (Doubted i) stirred)
        ]
        | inr met ↦ inr (of-effects (Doubted i) (met-stirs l ends n z i s.effects met))
      ]

  -- HUNTS
  module _ (name : List ℕ) where
    abbrev is_sought : List PendingHunt → Bool
    is_sought hunts = list_any (is_for (Over l name)) hunts

    abbrev more : List PendingHunt
    more = hunt_in n (suc (length P)) me s.head

    answer-stays : is_sought (hunting P n) ≡ false
        → (is_sought (hunting (s ∷ P) n) ≡ false) ⊎ In (Hunted name) all
    answer-stays none = go (is_sought more) refl
      where
        go : (b : Bool) → is_sought more ≡ b
            → (is_sought (hunting (s ∷ P) n) ≡ false) ⊎ In (Hunted name) all
        go true is =
            inr (of-head (Hunted name) (hunt-stirs l n (suc (length P)) name me s.head is))
        go false is =
            inl (false_from_ne_true (is_sought (hunting (s ∷ P) n)) (λ any.
            true≢false (sym (any-kept (is_for (Over l name)) (λ h. not (ends_hunt s.effects h))
            (hunting P n ++ more) any)
            ∙ list_any-append (is_for (Over l name)) (hunting P n) more
            ∙ ap (λ (b : Bool). b || is_sought more) none ∙ is)))

  hunts-before : (i : Inc) → list_any (opens i) s.effects ≡ false → is_alive P m (Here i) ≡ true
      → IsAnswered (s ∷ P) n l i ⊎ (In (Hunted (name_of (s ∷ P) i)) all ⊎ In (Offered i) all)
  hunts-before i none was =
      subst (λ (name : List ℕ). (list_any (is_for (Over l name)) (hunting (s ∷ P) n) ≡ false)
      ⊎ (In (Hunted name) all ⊎ In (Offered i) all)) (sym (same-name s P i none))
      (elim (but.hunts i was) [
        | inl answered ↦ elim (answer-stays (name_of P i) answered) [
          | inl stays ↦ inl stays
          | inr stirred ↦ inr (inl stirred)
        ]
        | inr stirred ↦ elim stirred [
          | inl hunted ↦ inr (inl (old (Hunted (name_of P i)) hunted))
          | inr offered ↦ inr (inr (old (Offered i) offered))
        ]
      ])

  hunts-after : (i : Inc) → is_alive (s ∷ P) m (Here i) ≡ true
      → IsAnswered (s ∷ P) n l i ⊎ (In (Hunted (name_of (s ∷ P) i)) all ⊎ In (Offered i) all)
  hunts-after i open_ =
      elim (open-before l ends m far s P i open_) [
        | inl was ↦ hunts-before i was.0 was.1
        | inr new ↦ inr (inr (of-effects (Offered i) new.1))
      ]

  pub half-after : IsHalfBut (s ∷ P) n m l x y all
  half-after = record {
    up = up-stays;
    pair = pair-stays;
    got = got-after;
    peers = peers-after;
    hunts = hunts-after;
  }

-- AND THE LINK
module _ (shape : Shape) (l : LinkNo) where
  abbrev one : ℕ
  one = node_at shape l First

  abbrev two : ℕ
  two = node_at shape l Second

  pub data IsStillBut (P : List Step) (stirs : List Stir) : Type 0 where
    cut_but : is_cut P l.0 ≡ true → up_session P one l.0 ≡ None → up_session P two l.0 ≡ None
        → IsStillBut P stirs
    whole_but : is_cut P l.0 ≡ false → (x y : Session) → IsHalfBut P one two l x y stirs
        → IsHalfBut P two one l y x stirs → IsStillBut P stirs

  still-but : (P : List Step) → IsStill shape P l → IsStillBut P []
  still-but P (cut is down other_down) = cut_but is down other_down
  still-but P (whole is x y all) =
      whole_but is x y (half-but P one two l x y all.there) (half-but P two one l y x all.back)

  found-none : IsLinkOf shape l → (P : List Step) (head : Head) → finds_none head ≡ true
      → KeepsRest shape P head → IsStill shape P l
  found-none of_shape P (heads.TakeNone selected) is keeps = keeps l of_shape
  found-none of_shape P _ is keeps = absurd (true≢false (sym is))

  module _ (ends : LinkDecl) (linked : link_at shape l.0 ≡ Some ends) where
    first-is : one ≡ ends.first.0
    first-is = ap (λ (o : Option LinkDecl). end_or_0 o First) linked

    second-is : two ≡ ends.second.0
    second-is = ap (λ (o : Option LinkDecl). end_or_0 o Second) linked

    at-first : (i : Inc) → is_on one i ≡ true → is_at_end ends i ≡ true
    at-first i on =
        or_left (is_on ends.first.0 i) (is_on ends.second.0 i)
        (subst (λ (n : ℕ). is_on n i ≡ true) first-is on)

    at-second : (i : Inc) → is_on two i ≡ true → is_at_end ends i ≡ true
    at-second i on =
        or_right (is_on ends.first.0 i) (is_on ends.second.0 i)
        (subst (λ (n : ℕ). is_on n i ≡ true) second-is on)

    but-after : (s : Step) (P : List Step) → IsLegal shape (s ∷ P)
        → length (s ∷ P) < 4294967295 → is_rough l.0 s ≡ false → (stirs : List Stir)
        → IsStillBut P stirs → IsStillBut (s ∷ P) (stirs ++ stirs_of l.0 ends (endpoint_by P s.by) s)
    but-after s P legal short smooth stirs but = by_state but
      where
        stays : moves l.0 s.head ≡ false
        stays = none-first (moves l.0 s.head) (list_any (changes l.0) s.effects) smooth

        calm : list_any (changes l.0) s.effects ≡ false
        calm = none-rest (moves l.0 s.head) (list_any (changes l.0) s.effects) smooth

        down-stays : (n : ℕ) → up_session P n l.0 ≡ None → up_session (s ∷ P) n l.0 ≡ None
        down-stays n down = same-session l ends n s.effects calm (up_session P n l.0) ∙ down

        orderly : (n : ℕ) → IsOrderly (s ∷ P) n l
        orderly n = legal-orderly shape (s ∷ P) legal short n l

        fresh : (a b : Inc) (z : Session)
            → (list_any (opens a) s.effects ≡ true) ⊎ (list_any (opens b) s.effects ≡ true)
            → sent_to P a (There l z b) ≡ []
        fresh a b z new = unsent shape s P legal (omega (arith, short)) l a b z new

        by_state : IsStillBut P stirs
            → IsStillBut (s ∷ P) (stirs ++ stirs_of l.0 ends (endpoint_by P s.by) s)
        by_state (cut_but is down other_down) =
            cut_but (same-cut l ends (is_cut P l.0) s.head stays ∙ is) (down-stays one down)
            (down-stays two other_down)
        by_state (whole_but is x y there back) =
            whole_but (same-cut l ends (is_cut P l.0) s.head stays ∙ is) x y
            (half-after s P l ends calm one two at-first at-second (orderly one) fresh x y stirs there)
            (half-after s P l ends calm two one at-second at-first (orderly two) fresh y x stirs back)

    abbrev stirs_by : List Step → Step → List Stir
    stirs_by P s = stirs_of l.0 ends (endpoint_by P s.by) s

    -- after a legal history a link is still but for what was stirred, where that is known
    pub stirred-but : IsLinkOf shape l → (P : List Step) → IsLegal shape P
        → length P < 4294967295 → (stirs : List Stir) → stirred_left P l.0 ends ≡ Some stirs
        → IsStillBut P stirs
    stirred-but of_shape [] legal short stirs is = cc is
    stirred-but of_shape (s ∷ P) legal short stirs is =
        by_rough (λ before known. stirred-but of_shape P legal.0 (omega (arith, short)) before known)
        (is_rough l.0 s) refl is
      where
        from : is_rough l.0 s ≡ false → (before : List Stir) → IsStillBut P before
            → (let o : Option (List Stir) = Some (before ++ stirs_by P s) in o) ≡ Some stirs
            → IsStillBut (s ∷ P) stirs
        from smooth before but same =
            let all : before ++ stirs_by P s ≡ stirs = cc in
            subst (λ (vs : List Stir). IsStillBut (s ∷ P) vs) all
            (but-after s P legal short smooth before but)

        by_before : ((before : List Stir) → stirred_left P l.0 ends ≡ Some before
            → IsStillBut P before) → is_rough l.0 s ≡ false → (o : Option (List Stir))
            → stirred_left P l.0 ends ≡ o → with_more o (stirs_by P s) ≡ Some stirs
            → IsStillBut (s ∷ P) stirs
        by_before earlier smooth None known same = cc same
        by_before earlier smooth (Some before) known same =
            from smooth before (earlier before known) same

        by_none : ((before : List Stir) → stirred_left P l.0 ends ≡ Some before
            → IsStillBut P before) → is_rough l.0 s ≡ false → (b : Bool)
            → finds_none s.head ≡ b
            → with_more (if b then Some [] else stirred_left P l.0 ends) (stirs_by P s) ≡ Some stirs
            → IsStillBut (s ∷ P) stirs
        by_none earlier smooth true none same =
            from smooth [] (still-but P (found-none of_shape P s.head none legal.1.rest)) same
        by_none earlier smooth false none same =
            by_before earlier smooth (stirred_left P l.0 ends) refl same

        by_rough : ((before : List Stir) → stirred_left P l.0 ends ≡ Some before
            → IsStillBut P before) → (b : Bool) → is_rough l.0 s ≡ b
            → (if b then None else with_more (if finds_none s.head then Some []
            else stirred_left P l.0 ends) (stirs_by P s)) ≡ Some stirs → IsStillBut (s ∷ P) stirs
        by_rough earlier true rough same = cc same
        by_rough earlier false smooth same = by_none earlier smooth (finds_none s.head) refl same
