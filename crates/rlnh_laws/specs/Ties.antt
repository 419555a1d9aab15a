-- What ties the tables of two ends to the words under way between them. Each link address goes
-- round: unused, announced, known, answered.
use Rattle.std.specs.Prelude.{ℕ, ◌≡◌, true, ◌==◌, List, [], ◌∷◌, ◌++◌, map, Option}
use Rattle.std.specs.Prelude.{Some, None, if◌then◌else◌}
use Rattle.std.specs.List.{list_any}
use Rattle.rlnh_end.specs.declared.met_at.MetAt.{MetAt}
use Rattle.linx_base.specs.declared.identity.Inc.{Inc}
use Rattle.linx_base.specs.declared.identity.Session.{Session}
use Rattle.link_addresses.specs.declared.meaning.Meaning.{Meaning}
use Rattle.link_addresses.specs.declared.meaning.Meaning.TheVariants.{Free, Live, Closing}
use Rattle.link_addresses.specs.Meanings.{meaning_of, IsLive}
use Rattle.rlnh_end.specs.States.{RlnhTables, addr_met, inc_met}
use Rattle.rlnh_end.specs.Words.{Word, announce, tell, withdraw, confirm}
use Rattle.trunk_record.specs.Sayings.{Said, Given, heard_as, frees, is_live, was_unpublished}
use Rattle.trunk_record.specs.Sayings.{IsProper}
use Rattle.rlnh_laws.specs.Meanings.{saids}

-- each peer was met at one address, and at an address one peer
abbrev pub AreApart : List MetAt → Type 0
AreApart [] = Unit {0}
AreApart (m ∷ ms) = (inc_met ms m.addr ≡ None) × (addr_met ms m.inc ≡ None) × AreApart ms

-- what the owner of an address says of the address
pub data About : Type 0 where
  announcing : Inc → About
  signaling : Inc → About
  withdrawing : Inc → About

-- what the other side says to an address
pub data Toward : Type 0 where
  signal_to : Inc → Toward
  confirming : Toward

-- what a word of an address's owner says of the address, if anything
abbrev pub about_by : ℕ → Word → List About
about_by a (announce b i v) = if b == a then announcing i ∷ [] else []
about_by a (tell b i c j note) = if b == a then signaling i ∷ [] else []
about_by a (withdraw b i) = if b == a then withdrawing i ∷ [] else []
about_by a _ = []

-- what a word of the other side says to an address, if anything
abbrev pub toward_by : ℕ → Word → List Toward
toward_by a (tell b i c j note) = if c == a then signal_to j ∷ [] else []
toward_by a (confirm b) = if b == a then confirming ∷ [] else []
toward_by a _ = []

-- what the words of an address's owner say of the address, in order
abbrev pub about : ℕ → List Word → List About
about a [] = []
about a (w ∷ ws) = about_by a w ++ about a ws

-- what the words of the other side say to an address, in order
abbrev pub toward : ℕ → List Word → List Toward
toward a [] = []
toward a (w ∷ ws) = toward_by a w ++ toward a ws

-- to one who knows the address as this incarnation's, the words tell its signals, and last its
-- end, to what the owner has it as
abbrev pub Tells : Inc → Meaning → List About → Type 0
Tells i m [] = m ≡ Live i
Tells i m (announcing j ∷ r) = ⊥
Tells i m (signaling j ∷ r) = (j ≡ i) × Tells i m r
Tells i m (withdrawing j ∷ r) = (j ≡ i) × (r ≡ []) × (m ≡ Closing i)

-- all are signals to this incarnation
abbrev pub Aims : Inc → List Toward → Type 0
Aims i [] = Unit {0}
Aims i (signal_to j ∷ r) = (j ≡ i) × Aims i r
Aims i (confirming ∷ r) = ⊥

-- signals to this incarnation, and last the acknowledgement of its end
abbrev pub Acks : Inc → List Toward → Type 0
Acks i [] = ⊥
Acks i (signal_to j ∷ r) = (j ≡ i) × Acks i r
Acks i (confirming ∷ r) = r ≡ []

-- where an address stands: what it means to its owner, who was met at it on the other side, and the
-- words under way about it and to it
pub data Stands (own : Meaning) (met : Option Inc) (about : List About)
    (toward : List Toward) : Type 0 where
  unused : own ≡ Free → met ≡ None → about ≡ [] → toward ≡ [] → Stands own met about toward
  announced : (i : Inc) (r : List About) → met ≡ None → about ≡ announcing i ∷ r → Tells i own r
      → toward ≡ [] → Stands own met about toward
  known : (i : Inc) → met ≡ Some i → Tells i own about → Aims i toward → Stands own met about toward
  answered : (i : Inc) → own ≡ Closing i → met ≡ None → about ≡ [] → Acks i toward
      → Stands own met about toward

-- one end's own addresses, who the other end met, and the words under way from it and back to it
abbrev pub Ties : List Meaning → List MetAt → List Word → List Word → Type 0
Ties own met there back = (a : ℕ) → Stands (meaning_of own a) (inc_met met a) (about a there)
    (toward a back)

-- whose an address is
abbrev pub bearer : Meaning → Option Inc
bearer Free = None
bearer (Live i) = Some i
bearer (Closing i) = Some i

-- one end's own addresses and what it has said
pub record Speaks (own : List Meaning) (said : List Said) : Type 0 where
  pub live : (a : ℕ) (i : Inc) → meaning_of own a ≡ Live i → is_live i said ≡ true
  pub closing : (a : ℕ) (i : Inc) → meaning_of own a ≡ Closing i → was_unpublished i said ≡ true
  pub said_live : (i : Inc) → is_live i said ≡ true → IsLive own i
  pub proper : IsProper said
  -- no two addresses are one incarnation's
  pub apart : (a b : ℕ) (i : Inc) → bearer (meaning_of own a) ≡ Some i
      → bearer (meaning_of own b) ≡ Some i → a ≡ b

-- one session of a side: its number, its peer, the words that it said and heard (the oldest first),
-- what it was given (the newest first), and its end, which stays as it was when the session ended
pub record Talk : Type 0 where
  pub number : Session
  pub peer : Option Session
  pub words : List Word
  pub heard : List Word
  pub given : List Given
  pub end : RlnhTables

-- what holds of a session alone
pub record Alone (e : Talk) : Type 0 where
  pub speaks : Speaks e.end.own (saids e.words)
  pub apart : AreApart e.end.met
  pub given : map heard_as e.given ≡ saids e.heard
  pub frees_closed : (j : Inc) → list_any (frees j) e.given ≡ true
      → was_unpublished j (saids e.words) ≡ true

-- what holds of two sessions that are each other's peer, or of one and nothing
pub record Pair (e f : Talk) : Type 0 where
  pub there : List Word
  pub back : List Word
  pub there_is : e.words ≡ f.heard ++ there
  pub back_is : f.words ≡ e.heard ++ back
  pub near : Ties e.end.own f.end.met there back
  pub far : Ties f.end.own e.end.met back there
