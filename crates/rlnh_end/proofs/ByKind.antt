-- The peers and the names among facts, as facts come and go.
use Rattle.std.proofs.Common.{◌≡◌, ℕ, Bool, true, false, cond, ◌||◌, List, [], ◌∷◌, ◌++◌, refl, ap}
use Rattle.std.proofs.Common.{Bor, sym, ◌∙◌, Option, Some, None, is_some, option_map, option_copied}
use Rattle.std.proofs.Common.{bytes_eq}
use Rattle.std.specs.List.{list_any}
use Rattle.linx_base.specs.declared.identity.Inc.{Inc as AnInc}
use Rattle.linx_base.specs.FirstMatch.{first_match, without_match}
use Rattle.rlnh_end.specs.declared.met_at.MetAt.{MetAt}
use Rattle.rlnh_end.specs.declared.fact.Fact.{Fact}
use Rattle.rlnh_end.specs.declared.fact.Fact.TheVariants.{Met, Noted}
use Rattle.rlnh_end.specs.declared.fact.Sought.TheVariants.{Address, Inc, Name}
use Rattle.rlnh_end.specs.States.{is_at, is_peer, inc_met, addr_met, is_noted, without_met}
use Rattle.rlnh_end.specs.States.{without_note}
use Rattle.rlnh_end.specs.Facts.{peers_in, names_in, is_sought}

-- ---- a fact comes

pub peers_met : (facts : List Fact) (m : MetAt)
    → peers_in (facts ++ Met m ∷ []) ≡ peers_in facts ++ m ∷ []
peers_met [] m = refl
peers_met (Met x ∷ facts) m = ap (λ l. x ∷ l) (peers_met facts m)
peers_met (Noted x ∷ facts) m = peers_met facts m

pub names_met : (facts : List Fact) (m : MetAt) → names_in (facts ++ Met m ∷ []) ≡ names_in facts
names_met [] m = refl
names_met (Met x ∷ facts) m = names_met facts m
names_met (Noted x ∷ facts) m = ap (λ l. x ∷ l) (names_met facts m)

pub peers_noted : (facts : List Fact) (name : List ℕ)
    → peers_in (facts ++ Noted name ∷ []) ≡ peers_in facts
peers_noted [] name = refl
peers_noted (Met x ∷ facts) name = ap (λ l. x ∷ l) (peers_noted facts name)
peers_noted (Noted x ∷ facts) name = peers_noted facts name

pub names_noted : (facts : List Fact) (name : List ℕ)
    → names_in (facts ++ Noted name ∷ []) ≡ names_in facts ++ name ∷ []
names_noted [] name = refl
names_noted (Met x ∷ facts) name = names_noted facts name
names_noted (Noted x ∷ facts) name = ap (λ l. x ∷ l) (names_noted facts name)

-- ---- a peer is looked for

module _ (q : Fact → Bool) (p : MetAt → Bool) (met : (m : MetAt) → q (Met m) ≡ p m)
    (noted : (name : List ℕ) → q (Noted name) ≡ false) where
  pub peer_first : (facts : List Fact)
      → first_match q facts ≡ option_map Met (first_match p (peers_in facts))
  peer_first [] = refl
  peer_first (Noted name ∷ facts) = rw (noted name) (peer_first facts)
  peer_first (Met m ∷ facts) = rw (met m) (by (p m) (peer_first facts))
    where
      by : (b : Bool) → first_match q facts ≡ option_map Met (first_match p (peers_in facts))
          → cond b (Some (Met m)) (first_match q facts)
          ≡ option_map Met (cond b (Some m) (first_match p (peers_in facts)))
      by true rest = refl
      by false rest = rest

  pub peers_without : (facts : List Fact)
      → peers_in (without_match q facts) ≡ without_match p (peers_in facts)
  peers_without [] = refl
  peers_without (Noted name ∷ facts) = rw (noted name) (peers_without facts)
  peers_without (Met m ∷ facts) = rw (met m) (by (p m) (peers_without facts))
    where
      by : (b : Bool) → peers_in (without_match q facts) ≡ without_match p (peers_in facts)
          → peers_in (cond b facts (Met m ∷ without_match q facts))
          ≡ cond b (peers_in facts) (m ∷ without_match p (peers_in facts))
      by true rest = refl
      by false rest = ap (λ l. m ∷ l) rest

  pub names_kept : (facts : List Fact) → names_in (without_match q facts) ≡ names_in facts
  names_kept [] = refl
  names_kept (Noted name ∷ facts) = rw (noted name) (ap (λ l. name ∷ l) (names_kept facts))
  names_kept (Met m ∷ facts) = by (q (Met m)) (names_kept facts)
    where
      by : (b : Bool) → names_in (without_match q facts) ≡ names_in facts
          → names_in (cond b facts (Met m ∷ without_match q facts)) ≡ names_in facts
      by true rest = refl
      by false rest = rest

-- ---- a name is looked for

module _ (q : Fact → Bool) (p : List ℕ → Bool) (met : (m : MetAt) → q (Met m) ≡ false)
    (noted : (name : List ℕ) → q (Noted name) ≡ p name) where
  pub name_first : (facts : List Fact)
      → is_some (first_match q facts) ≡ list_any p (names_in facts)
  name_first [] = refl
  name_first (Met m ∷ facts) = rw (met m) (name_first facts)
  name_first (Noted name ∷ facts) = rw (noted name) (by (p name) (name_first facts))
    where
      by : (b : Bool) → is_some (first_match q facts) ≡ list_any p (names_in facts)
          → is_some (cond b (Some (Noted name)) (first_match q facts))
          ≡ (b || list_any p (names_in facts))
      by true rest = refl
      by false rest = rest

  pub names_without : (facts : List Fact)
      → names_in (without_match q facts) ≡ without_match p (names_in facts)
  names_without [] = refl
  names_without (Met m ∷ facts) = rw (met m) (names_without facts)
  names_without (Noted name ∷ facts) = rw (noted name) (by (p name) (names_without facts))
    where
      by : (b : Bool) → names_in (without_match q facts) ≡ without_match p (names_in facts)
          → names_in (cond b facts (Noted name ∷ without_match q facts))
          ≡ cond b (names_in facts) (name ∷ without_match p (names_in facts))
      by true rest = refl
      by false rest = ap (λ l. name ∷ l) rest

  pub peers_kept : (facts : List Fact) → peers_in (without_match q facts) ≡ peers_in facts
  peers_kept [] = refl
  peers_kept (Met m ∷ facts) = rw (met m) (ap (λ l. m ∷ l) (peers_kept facts))
  peers_kept (Noted name ∷ facts) = by (q (Noted name)) (peers_kept facts)
    where
      by : (b : Bool) → peers_in (without_match q facts) ≡ peers_in facts
          → peers_in (cond b facts (Noted name ∷ without_match q facts)) ≡ peers_in facts
      by true rest = refl
      by false rest = rest

-- ---- what is found

pub peer_found : (found : Option MetAt) (m : MetAt) → Some (Met m) ≡ option_map Met found
    → found ≡ Some m
peer_found (Some x) m is = cc
peer_found None m is = cc

pub no_peer : (found : Option MetAt) → None ≡ option_map Met found → found ≡ None
no_peer (Some x) is = cc
no_peer None is = refl

pub no_name : (found : Option MetAt) (name : List ℕ) → Some (Noted name) ≡ option_map Met found
    → ⊥
no_name (Some x) name is = absurd cc
no_name None name is = absurd cc

-- ---- by an address

module _ (addr : ℕ) (facts : List Fact) where
  at_address : first_match (is_sought (Address addr)) facts
      ≡ option_map Met (first_match (is_at addr) (peers_in facts))
  at_address = peer_first (is_sought (Address addr)) (is_at addr) (λ m. refl) (λ name. refl) facts

  pub inc_found : (m : MetAt) → Some (Met m) ≡ first_match (is_sought (Address addr)) facts
      → Some m.inc ≡ inc_met (peers_in facts) addr
  inc_found m is = sym (ap (option_map (λ x. x.inc)) (peer_found (first_match (is_at addr)
      (peers_in facts)) m (is ∙ at_address)))

  pub inc_missing : None ≡ first_match (is_sought (Address addr)) facts
      → None ≡ inc_met (peers_in facts) addr
  inc_missing is = sym (ap (option_map (λ x. x.inc)) (no_peer (first_match (is_at addr)
      (peers_in facts)) (is ∙ at_address)))

  pub no_name_at : (name : List ℕ)
      → Some (Noted name) ≡ first_match (is_sought (Address addr)) facts → ⊥
  no_name_at name is = no_name (first_match (is_at addr) (peers_in facts)) name (is ∙ at_address)

  pub peers_parted : peers_in (without_match (is_sought (Address addr)) facts)
      ≡ without_met (peers_in facts) addr
  peers_parted =
      peers_without (is_sought (Address addr)) (is_at addr) (λ m. refl) (λ name. refl) facts

  pub names_parted : names_in (without_match (is_sought (Address addr)) facts) ≡ names_in facts
  names_parted =
      names_kept (is_sought (Address addr)) (is_at addr) (λ m. refl) (λ name. refl) facts

-- ---- by an incarnation

module _ (inc : AnInc) (facts : List Fact) where
  of_inc : first_match (is_sought (Inc inc)) facts
      ≡ option_map Met (first_match (is_peer inc) (peers_in facts))
  of_inc = peer_first (is_sought (Inc inc)) (is_peer inc) (λ m. refl) (λ name. refl) facts

  pub addr_found : (m : MetAt) → Some (Met m) ≡ first_match (is_sought (Inc inc)) facts
      → Some m.addr ≡ addr_met (peers_in facts) inc
  addr_found m is = sym (ap (option_map (λ x. x.addr)) (peer_found (first_match (is_peer inc)
      (peers_in facts)) m (is ∙ of_inc)))

  pub addr_missing : None ≡ first_match (is_sought (Inc inc)) facts
      → None ≡ addr_met (peers_in facts) inc
  addr_missing is = sym (ap (option_map (λ x. x.addr)) (no_peer (first_match (is_peer inc)
      (peers_in facts)) (is ∙ of_inc)))

  pub no_name_of : (name : List ℕ) → Some (Noted name) ≡ first_match (is_sought (Inc inc)) facts
      → ⊥
  no_name_of name is = no_name (first_match (is_peer inc) (peers_in facts)) name (is ∙ of_inc)

-- ---- by a name

pub some_copied : {X : Type 0} (found : Option (Bor X))
    → is_some (option_copied found) ≡ is_some found
some_copied (Some x) = refl
some_copied None = refl

module _ (name : Bor (List ℕ)) (facts : List Fact) where
  pub noted_first : is_some (first_match (is_sought (Name name)) facts)
      ≡ is_noted (names_in facts) name.now
  noted_first =
      name_first (is_sought (Name name)) (bytes_eq name.now) (λ m. refl) (λ other. refl) facts

  pub names_taken : names_in (without_match (is_sought (Name name)) facts)
      ≡ without_note (names_in facts) name.now
  names_taken =
      names_without (is_sought (Name name)) (bytes_eq name.now) (λ m. refl) (λ other. refl) facts

  pub peers_taken : peers_in (without_match (is_sought (Name name)) facts) ≡ peers_in facts
  peers_taken =
      peers_kept (is_sought (Name name)) (bytes_eq name.now) (λ m. refl) (λ other. refl) facts
