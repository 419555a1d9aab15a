-- WHAT A STEP STIRS: whatever of a link it changes, where it isn't rough, stands among its stirs.
use Rattle.std.proofs.Common.{◌≡◌, ℕ, Bool, true, false, ◌&&◌, ◌||◌, ◌==◌, List, []}
use Rattle.std.proofs.Common.{◌∷◌, ◌++◌, fold, Option, Some, None, inl, inr, ◌⊎◌, refl}
use Rattle.std.proofs.Common.{sym, ◌∙◌, ap, subst, append-nil, append_assoc, true≢false, if◌then◌else◌, eq-eqb}
use Rattle.std.proofs.Common.{eqb-true, bytes_eq}
use Rattle.std.specs.List.{cons_option, list_any, filter_map, AllByRecursion}
use Rattle.std.specs.Option.{option_to_list}
use Rattle.std.proofs.lemmas.Bool.{and_parts, or_cases}
use Rattle.linx_base.specs.Numbers.{is_on}
use Rattle.linx_base.specs.Peers.{same_inc, same_path, same_peer}
use Rattle.linx_base.specs.Pending.{is_for}
use Rattle.linx_base.specs.SigNotes.{SigNote}
use Rattle.linx_base.specs.declared.frame.LinkDecl.{LinkDecl}
use Rattle.linx_base.specs.declared.identity.Inc.{Inc}
use Rattle.linx_base.specs.declared.identity.LinkNo.{LinkNo}
use Rattle.linx_base.specs.declared.identity.Peer.TheVariants.{Here, There}
use Rattle.linx_base.specs.declared.identity.Session.{Session}
use Rattle.linx_base.specs.declared.name.Path.TheVariants.{Local, Over}
use Rattle.journal.specs.declared.effect.Effect.{Effect}
use Rattle.journal.specs.declared.effect.Effect.TheVariants as effects
use Rattle.journal.specs.declared.effect.Step.{Step}
use Rattle.journal.specs.declared.head.Head.{Head}
use Rattle.journal.specs.declared.head.Head.TheVariants as heads
use Rattle.journal.specs.History.{closes, name_of, name_in, name_or_none}
use Rattle.journal.specs.History.{opening_name, opens}
use Rattle.journal.specs.History.{opened_in}
use Rattle.journal.specs.Living.{is_alive}
use Rattle.journal.specs.Pending.{hunt_in}
use Rattle.journal.specs.Sessions.{session_past}
use Rattle.journal.specs.Traffic.{is_endpoint, sent_by, was_sent}
use Rattle.link_laws.specs.Brought.{meets_peer}
use Rattle.link_laws.specs.Sessions.{cut_after, paired_after}
use Rattle.journal.proofs.Lists.{list_any-filter}
use Rattle.journal.proofs.Openings as openings
use Rattle.link_laws.proofs.Endpoints.OpenAfterStep.{open-on, opened-any, was_open_or_opened}
use Rattle.link_check.specs.Rest.{across, changes, is_at_end, moves, send_over, stir_by}
use Rattle.link_check.specs.Rest.{stir_in}
use Rattle.link_check.specs.declared.rest.Stir.{Stir}
use Rattle.link_check.specs.declared.rest.Stir.TheVariants.{Sent, Doubted, Hunted, Offered}
use Rattle.link_check.proofs.Off.{and-false}
use Rattle.link_check.proofs.Tests.{bytes-is, inc-is}

-- TESTS
pub none-first : (a b : Bool) → (a || b) ≡ false → a ≡ false
none-first true b is = absurd (true≢false is)
none-first false b is = refl

pub none-rest : (a b : Bool) → (a || b) ≡ false → b ≡ false
none-rest true b is = absurd (true≢false is)
none-rest false b is = is

pub never : (b : Bool) → (b && false) ≡ false
never true = refl
never false = refl

pub no-notes : (b : Bool) → (let none : List SigNote = [] in if b then none else none) ≡ []
no-notes true = refl
no-notes false = refl

-- what holds of all holds of all where it makes another hold
pub map-all : {X : Type 0} (Q R : X → Type 0) (xs : List X) → ((x : X) → Q x → R x)
    → AllByRecursion Q xs → AllByRecursion R xs
map-all Q R [] each all = tt
map-all Q R (x ∷ xs) each all = (each x all.0, map-all Q R xs each all.1)

-- A STIR IS ONE OF SOME
abbrev pub In : Stir → List Stir → Type 0
In v [] = ⊥
In v (w ∷ stirs) = (v ≡ w) ⊎ In v stirs

pub in-front : (v : Stir) (stirs more : List Stir) → In v stirs → In v (stirs ++ more)
in-front v [] more is = absurd is
in-front v (w ∷ stirs) more (inl same) = inl same
in-front v (w ∷ stirs) more (inr is) = inr (in-front v stirs more is)

pub in-more : (v : Stir) (stirs more : List Stir) → In v more → In v (stirs ++ more)
in-more v [] more is = is
in-more v (w ∷ stirs) more is = inr (in-more v stirs more is)

pub of-all : (Q : Stir → Type 0) (v : Stir) (stirs : List Stir) → AllByRecursion Q stirs
    → In v stirs → Q v
of-all Q v [] all is = absurd is
of-all Q v (w ∷ stirs) all (inl same) = subst Q (sym same) all.0
of-all Q v (w ∷ stirs) all (inr is) = of-all Q v stirs all.1 is

in-later : (v : Stir) (o : Option Stir) (stirs : List Stir) → In v stirs
    → In v (cons_option o stirs)
in-later v None stirs is = is
in-later v (Some w) stirs is = inr is

-- ONE EFFECT MORE: what it stirs, and then what the rest does
pub one_stirred : (stirs : List Stir) (l : ℕ) (ends : LinkDecl) (e : Effect) (es : List Effect)
    → (stirs ++ option_to_list (stir_in l ends e)) ++ filter_map (stir_in l ends) es
    ≡ stirs ++ filter_map (stir_in l ends) (e ∷ es)
one_stirred stirs l ends e es = go (stir_in l ends e)
  where
    go : (o : Option Stir) → (stirs ++ option_to_list o) ++ filter_map (stir_in l ends) es
        ≡ stirs ++ cons_option o (filter_map (stir_in l ends) es)
    go None =
        ap (λ (vs : List Stir). vs ++ filter_map (stir_in l ends) es) (append-nil stirs)
    go (Some v) = append_assoc stirs (v ∷ []) (filter_map (stir_in l ends) es)

-- A STEP THAT ISN'T ROUGH, at a link between these nodes
module _ (l : LinkNo) (ends : LinkDecl) where
  -- leaves its sessions and pairs
  pub same-session : (n : ℕ) (es : List Effect) → list_any (changes l.0) es ≡ false
      → (up : Option Session) → session_past n l.0 up es ≡ up
  same-session n [] calm up = refl
  same-session n (effects.Up k h x y ∷ es) calm up =
      rw (and-false l.0 (k.0 == n) (h.0 == l.0) (none-first (h.0 == l.0) _ calm))
      (same-session n es (none-rest (h.0 == l.0) _ calm) up)
  same-session n (effects.Down k h x ∷ es) calm up =
      rw (and-false l.0 (k.0 == n) (h.0 == l.0) (none-first (h.0 == l.0) _ calm))
      (same-session n es (none-rest (h.0 == l.0) _ calm) up)
  same-session n (e ∷ es) calm up = same-session n es (none-rest (changes l.0 e) _ calm) up

  pub same-pair : (n : ℕ) (x : Session) (es : List Effect) → list_any (changes l.0) es ≡ false
      → (pair : Option Session) → fold (paired_after n l.0 x) pair es ≡ pair
  same-pair n x [] calm pair = refl
  same-pair n x (effects.Up k h z y ∷ es) calm pair =
      rw (and-false l.0 (k.0 == n) (h.0 == l.0) (none-first (h.0 == l.0) _ calm))
      (same-pair n x es (none-rest (h.0 == l.0) _ calm) pair)
  same-pair n x (e ∷ es) calm pair = same-pair n x es (none-rest (changes l.0 e) _ calm) pair

  -- and whether it is cut
  pub same-cut : (before : Bool) (head : Head) → moves l.0 head ≡ false
      → cut_after l.0 before head ≡ before
  same-cut before (heads.Cut k) calm = rw calm refl
  same-cut before (heads.Mend k) calm = rw calm refl
  same-cut before _ calm = refl

  -- ENDPOINTS. One that closes at an end is doubted
  pub closed-stirs : (i : Inc) → is_at_end ends i ≡ true → (es : List Effect)
      → list_any (closes i) es ≡ true → In (Doubted i) (filter_map (stir_in l.0 ends) es)
  closed-stirs i at [] is = absurd (true≢false (sym is))
  closed-stirs i at (effects.Closed j ∷ es) is =
      elim (or_cases (same_inc i j) (list_any (closes i) es) is) [
        | inl same ↦ this (inc-is i j same)
        | inr more ↦ in-later (Doubted i) (stir_in l.0 ends (effects.Closed j))
            (filter_map (stir_in l.0 ends) es) (closed-stirs i at es more)
      ]
    where
      this : i ≡ j → In (Doubted i) (filter_map (stir_in l.0 ends) (effects.Closed j ∷ es))
      this same = rw (subst (λ (k : Inc). is_at_end ends k ≡ true) same at) (inl (ap Doubted same))
  closed-stirs i at (e ∷ es) is =
      in-later (Doubted i) (stir_in l.0 ends e) (filter_map (stir_in l.0 ends) es)
      (closed-stirs i at es is)

  -- and one that is met
  pub met-stirs : (n : ℕ) (z : Session) (i : Inc) (es : List Effect)
      → list_any (meets_peer n (There l z i)) es ≡ true
      → In (Doubted i) (filter_map (stir_in l.0 ends) es)
  met-stirs n z i [] is = absurd (true≢false (sym is))
  met-stirs n z i (effects.Met k (There h y j) name ∷ es) is =
      elim (or_cases (k.0 == n && same_peer (There l z i) (There h y j))
      (list_any (meets_peer n (There l z i)) es) is) [
        | inl met ↦ this (and_parts (k.0 == n) (same_peer (There l z i) (There h y j)) met).1
        | inr more ↦ in-later (Doubted i) (stir_in l.0 ends (effects.Met k (There h y j) name))
            (filter_map (stir_in l.0 ends) es) (met-stirs n z i es more)
      ]
    where
      this : same_peer (There l z i) (There h y j) ≡ true
          → In (Doubted i) (filter_map (stir_in l.0 ends) (effects.Met k (There h y j) name ∷ es))
      this same =
          let parts = and_parts (l.0 == h.0 && z.0 == y.0) (same_inc i j) same in
          let over = and_parts (l.0 == h.0) (z.0 == y.0) parts.0 in
          let flip : (h.0 == l.0) ≡ true = eq-eqb h.0 l.0 (sym (eqb-true l.0 h.0 over.0)) in
          rw flip (inl (ap Doubted (inc-is i j parts.1)))
  met-stirs n z i (effects.Met k (Here j) name ∷ es) is =
      met-stirs n z i es (none-here (k.0 == n) is)
    where
      none-here : (b : Bool) → ((b && false) || list_any (meets_peer n (There l z i)) es) ≡ true
          → list_any (meets_peer n (There l z i)) es ≡ true
      none-here true more = more
      none-here false more = more
  met-stirs n z i (e ∷ es) is =
      in-later (Doubted i) (stir_in l.0 ends e) (filter_map (stir_in l.0 ends) es)
      (met-stirs n z i es is)

  -- one that opens at an end is offered
  opened-stirs : (i : Inc) → is_at_end ends i ≡ true → (es : List Effect)
      → list_any (opens i) es ≡ true → In (Offered i) (filter_map (stir_in l.0 ends) es)
  opened-stirs i at [] is = absurd (true≢false (sym is))
  opened-stirs i at (effects.Opened j ∷ es) is =
      elim (or_cases (same_inc i j) (list_any (opens i) es) is) [
        | inl same ↦ this (inc-is i j same)
        | inr more ↦ in-later (Offered i) (stir_in l.0 ends (effects.Opened j))
            (filter_map (stir_in l.0 ends) es) (opened-stirs i at es more)
      ]
    where
      this : i ≡ j → In (Offered i) (filter_map (stir_in l.0 ends) (effects.Opened j ∷ es))
      this same = rw (subst (λ (k : Inc). is_at_end ends k ≡ true) same at) (inl (ap Offered same))
  opened-stirs i at (e ∷ es) is =
      in-later (Offered i) (stir_in l.0 ends e) (filter_map (stir_in l.0 ends) es)
      (opened-stirs i at es is)

  module _ (n : ℕ) (at : (i : Inc) → is_on n i ≡ true → is_at_end ends i ≡ true) (s : Step)
      (P : List Step) where
    -- an endpoint that is open was so before, or is offered
    pub open-before : (i : Inc) → is_alive (s ∷ P) n (Here i) ≡ true
        → ((list_any (opens i) s.effects ≡ false) × (is_alive P n (Here i) ≡ true))
        ⊎ ((list_any (opens i) s.effects ≡ true)
        × In (Offered i) (filter_map (stir_in l.0 ends) s.effects))
    open-before i is = go (list_any (opens i) s.effects) refl
      where
        was : list_any (opens i) s.effects ≡ false → is_alive P n (Here i) ≡ true
        was none =
            elim (was_open_or_opened P s n i is) [
              | inl before ↦ before
              | inr new ↦ absurd (true≢false (sym (list_any-filter (same_inc i) (is_on n)
                  (filter_map opened_in s.effects) new) ∙ opened-any i s.effects ∙ none))
            ]

        go : (b : Bool) → list_any (opens i) s.effects ≡ b
            → ((list_any (opens i) s.effects ≡ false) × (is_alive P n (Here i) ≡ true))
            ⊎ ((list_any (opens i) s.effects ≡ true)
            × In (Offered i) (filter_map (stir_in l.0 ends) s.effects))
        go true new = inr (new, opened-stirs i (at i (open-on (s ∷ P) n i is)) s.effects new)
        go false none = inl (none, was none)

    -- and one that was open is so, or closes
    pub open-after : (i : Inc) → is_alive P n (Here i) ≡ true
        → (is_alive (s ∷ P) n (Here i) ≡ true)
        ⊎ In (Doubted i) (filter_map (stir_in l.0 ends) s.effects)
    open-after i was = go (list_any (closes i) s.effects) refl
      where
        go : (b : Bool) → list_any (closes i) s.effects ≡ b
            → (is_alive (s ∷ P) n (Here i) ≡ true)
            ⊎ In (Doubted i) (filter_map (stir_in l.0 ends) s.effects)
        go true closed = inr (closed-stirs i (at i (open-on P n i was)) s.effects closed)
        go false stays = inl (openings.open-after P s n i stays (inl was))

-- a step leaves the name of what it doesn't open
pub same-name : (s : Step) (P : List Step) (i : Inc) → list_any (opens i) s.effects ≡ false
    → name_of (s ∷ P) i ≡ name_of P i
same-name s P i none =
    ap (λ (b : Bool). name_or_none (if b then name_in s.head else opening_name P i)) none

-- SIGNALS. What an endpoint sends to a peer over the link stirs it
module _ (l : LinkNo) (a b : Inc) (y : Session) where
  pub sent-stirs : (me : Option Inc) (head : Head)
      → ((if is_endpoint a me then sent_by (There l y b) head else []) ≡ [])
      ⊎ In (Sent a b) (option_to_list (stir_by l.0 me head))
  sent-stirs None head = inl refl
  sent-stirs (Some j) (heads.Send (There h z i) note answer) =
      go (same_inc a j) (was_sent answer && same_peer (There h z i) (There l y b)) refl refl
    where
      go : (t u : Bool) → same_inc a j ≡ t
          → (was_sent answer && same_peer (There h z i) (There l y b)) ≡ u
          → ((if t then (if u then note ∷ [] else []) else []) ≡ [])
          ⊎ In (Sent a b) (option_to_list (send_over (Some j) (across l.0 (There h z i))))
      go false u mine over = inl refl
      go true false mine over = inl refl
      go true true mine over =
          let one = and_parts (was_sent answer) (same_peer (There h z i) (There l y b)) over in
          let two = and_parts (h.0 == l.0 && z.0 == y.0) (same_inc i b) one.1 in
          let three = and_parts (h.0 == l.0) (z.0 == y.0) two.0 in
          let from : a ≡ j = inc-is a j mine in
          let to : i ≡ b = inc-is i b two.1 in
          inr (rw three.0 (inl (λ t. Sent (from t) (sym to t))))
  sent-stirs (Some j) (heads.Send (Here i) note answer) =
      inl (rw (never (was_sent answer)) (no-notes (same_inc a j)))
  sent-stirs (Some j) _ = inl (no-notes (same_inc a j))

-- HUNTS. One over the link stirs it
module _ (l : LinkNo) (n k : ℕ) (name : List ℕ) where
  pub hunt-stirs : (me : Option Inc) (head : Head)
      → list_any (is_for (Over l name)) (hunt_in n k me head) ≡ true
      → In (Hunted name) (option_to_list (stir_by l.0 me head))
  hunt-stirs None (heads.Hunt path note) is = absurd (true≢false (sym is))
  hunt-stirs (Some j) (heads.Hunt (Local v) note) is = absurd (by_test (is_on n j) is)
    where
      by_test : (b : Bool) → list_any (is_for (Over l name)) (if b then (record {
        at = j;
        path = Local v;
        signal = note;
        number = k;
      }) ∷ [] else []) ≡ true → ⊥
      by_test true any = true≢false (sym any)
      by_test false any = true≢false (sym any)
  hunt-stirs (Some j) (heads.Hunt (Over h v) note) is = by_test (is_on n j) is
    where
      this : (same_path (Over l name) (Over h v) || false) ≡ true
          → In (Hunted name) (option_to_list (stir_by l.0 (Some j) (heads.Hunt (Over h v) note)))
      this any =
          elim (or_cases (same_path (Over l name) (Over h v)) false any) [
            | inl same ↦
                let parts = and_parts (l.0 == h.0) (bytes_eq name v) same in
                let flip : (h.0 == l.0) ≡ true =
                eq-eqb h.0 l.0 (sym (eqb-true l.0 h.0 parts.0)) in
                rw flip (inl (ap Hunted (bytes-is name v parts.1)))
            | inr none ↦ absurd (true≢false (sym none))
          ]

      by_test : (b : Bool) → list_any (is_for (Over l name)) (if b then (record {
        at = j;
        path = Over h v;
        signal = note;
        number = k;
      }) ∷ [] else []) ≡ true
          → In (Hunted name) (option_to_list (stir_by l.0 (Some j) (heads.Hunt (Over h v) note)))
      by_test true any = this any
      by_test false any = absurd (true≢false (sym any))
  hunt-stirs me _ is = absurd (true≢false (sym is))
