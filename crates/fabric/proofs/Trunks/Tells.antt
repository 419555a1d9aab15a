-- What a side is told of the names that are hunted for over its link, and what it needs for a send.
use Rattle.std.proofs.Common.{ℕ, ◌≡◌, ◌-◌, Bool, true, false, cond, List, [], ◌∷◌, drop, filter}
use Rattle.std.proofs.Common.{Option, Some, None, is_some, refl, sym, ◌∙◌, ap, subst, slice_get}
use Rattle.std.proofs.Common.{true≢false}
use Rattle.std.specs.List.{cons_option}
use Rattle.std.proofs.lemmas.List.{set-get_or}
use Rattle.linx_base.specs.Pending.{name_over, names_over}
use Rattle.linx_base.specs.declared.identity.Inc.{Inc}
use Rattle.linx_base.specs.declared.identity.LinkNo.{LinkNo}
use Rattle.linx_base.specs.declared.identity.NodeNo.{NodeNo}
use Rattle.linx_base.specs.declared.identity.Peer.{Peer}
use Rattle.linx_base.specs.declared.identity.Peer.TheVariants.{There}
use Rattle.linx_base.specs.declared.identity.Session.{Session}
use Rattle.linx_base.specs.declared.identity.Side.{Side}
use Rattle.linx_base.specs.declared.name.Path.{Path}
use Rattle.linx_base.specs.declared.name.Path.TheVariants.{Over}
use Rattle.linx_base.specs.declared.pending.PendingHunt.{PendingHunt}
use Rattle.linx_base.specs.SigNotes.{SigNote}
use Rattle.rlnh_messages.specs.Signals.{IsSignal}
use Rattle.journal.specs.History.{name_or_none}
use Rattle.node_kernel.specs.Nodes.{NodeState, OpenEndpoint, is_at, is_living, is_open, name_at}
use Rattle.run_trunks.specs.Changes.{at_link}
use Rattle.run_trunks.specs.States.{TrunksState, no_trunk, over, trunks_of}
use Rattle.run_trunks.proofs.Rested.{changes-again}
use Rattle.trunk.specs.Events.{HasNumbersLeft, TrunkState, asked_at, side_of}
use Rattle.trunk.specs.Laws.{MaySend}
use Rattle.trunk_moves.specs.Packets.{asks_for}
use Rattle.trunk_moves.specs.Trunks.{side_on}
use Rattle.fabric.specs.Bringings.{HasNumbersOver}
use Rattle.fabric.specs.Tellings.{MaySendTo, MayTellHunt, MayTellSend}

-- THE HUNTS OVER A LINK have the names that are hunted for over it
pub names-all : (l : LinkNo) (hs : List PendingHunt)
    → names_over l (filter (λ (h : PendingHunt). is_some (name_over l h.path)) hs)
    ≡ names_over l hs
names-all l [] = refl
names-all l (h ∷ hs) = go (name_over l h.path) refl (names-all l hs)
  where
    fs : List PendingHunt
    fs = filter (λ (g : PendingHunt). is_some (name_over l g.path)) hs

    go : (o : Option (List ℕ)) → name_over l h.path ≡ o → names_over l fs ≡ names_over l hs
        → names_over l (cond (is_some (name_over l h.path)) (h ∷ fs) fs)
        ≡ cons_option (name_over l h.path) (names_over l hs)
    go None is rest =
        ap (λ (b : Bool). names_over l (cond b (h ∷ fs) fs)) (ap is_some is) ∙ rest
        ∙ ap (λ (o : Option (List ℕ)). cons_option o (names_over l hs)) (sym is)
    go (Some v) is rest =
        ap (λ (b : Bool). names_over l (cond b (h ∷ fs) fs)) (ap is_some is)
        ∙ ap (cons_option (name_over l h.path)) rest

-- hunt by hunt: the name of the next one, if it has one, and those of what is left then
module _ (l : LinkNo) (left rest : List PendingHunt) (h : PendingHunt)
    (is : Some h ≡ slice_get left 0) (next : rest ≡ drop 1 left) where
  names-split : names_over l left ≡ cons_option (name_over l h.path) (names_over l rest)
  names-split = split left is next
    where
      split : (hs : List PendingHunt) → Some h ≡ slice_get hs 0 → rest ≡ drop 1 hs
          → names_over l hs ≡ cons_option (name_over l h.path) (names_over l rest)
      split [] first then = cc
      split (g ∷ hs) first then =
          let same : g ≡ h = cc in
          ap (λ (k : PendingHunt). cons_option (name_over l k.path) (names_over l hs)) same
          ∙ ap (λ (gs : List PendingHunt). cons_option (name_over l h.path) (names_over l gs))
          (sym then)

  names-by : (o : Option (List ℕ)) → o ≡ name_over l h.path
      → names_over l left ≡ cons_option o (names_over l rest)
  names-by o name =
      names-split ∙ ap (λ (p : Option (List ℕ)). cons_option p (names_over l rest)) (sym name)

-- a side asks for their names: what is left to ask for makes the same of the trunks
module _ (l : LinkNo) (side : Side) (all : List TrunkState) where
  abbrev AreLeft : List PendingHunt → List TrunkState → Type 0
  AreLeft hunts now = at_link l (asks_for side (names_over l hunts)) now ≡ all

  pub asks-next : (left rest : List PendingHunt) (h : PendingHunt) (v : List ℕ)
      (now after : List TrunkState) → Some h ≡ slice_get left 0 → rest ≡ drop 1 left
      → Some v ≡ name_over l h.path → after ≡ at_link l (asked_at side v) now
      → AreLeft left now → AreLeft rest after
  asks-next left rest h v now after is next name asked left_so =
      ap (at_link l (asks_for side (names_over l rest))) asked
      ∙ changes-again l (asked_at side v) (asks_for side (names_over l rest)) now
      ∙ ap (λ (names : List (List ℕ)). at_link l (asks_for side names) now)
      (sym (names-by l left rest h is next (Some v) name))
      ∙ left_so

  pub asks-none : (left rest : List PendingHunt) (h : PendingHunt) (now : List TrunkState)
      → Some h ≡ slice_get left 0 → rest ≡ drop 1 left → None ≡ name_over l h.path
      → AreLeft left now → AreLeft rest now
  asks-none left rest h now is next name left_so =
      ap (λ (names : List (List ℕ)). at_link l (asks_for side names) now)
      (sym (names-by l left rest h is next None name))
      ∙ left_so

  pub asks-done : (left : List PendingHunt) (now : List TrunkState) → None ≡ slice_get left 0
      → AreLeft left now → now ≡ all
  asks-done [] now none left_so = sym (set-get_or now (l.0 - 1) no_trunk) ∙ left_so
  asks-done (g ∷ left) now none left_so = cc none

-- and what is left to ask for has numbers
module _ (l : LinkNo) (side : Side) where
  pub numbers-next : (left rest : List PendingHunt) (h : PendingHunt) (v : List ℕ)
      (now after : List TrunkState) → Some h ≡ slice_get left 0 → rest ≡ drop 1 left
      → Some v ≡ name_over l h.path → after ≡ at_link l (asked_at side v) now
      → HasNumbersOver l side (names_over l left) now
      → HasNumbersOver l side (names_over l rest) after
  numbers-next left rest h v now after is next name asked has =
      let here : HasNumbersOver l side (v ∷ names_over l rest) now =
      subst (λ (names : List (List ℕ)). HasNumbersOver l side names now)
      (names-by l left rest h is next (Some v) name) has in
      subst (HasNumbersOver l side (names_over l rest)) (sym asked) here.1

  pub numbers-none : (left rest : List PendingHunt) (h : PendingHunt) (now : List TrunkState)
      → Some h ≡ slice_get left 0 → rest ≡ drop 1 left → None ≡ name_over l h.path
      → HasNumbersOver l side (names_over l left) now
      → HasNumbersOver l side (names_over l rest) now
  numbers-none left rest h now is next name has =
      subst (λ (names : List (List ℕ)). HasNumbersOver l side names now)
      (names-by l left rest h is next None name) has

  pub numbers-now : (names : List (List ℕ)) (now : List TrunkState)
      → HasNumbersOver l side names now → HasNumbersLeft side (trunks_of now l.0)
  numbers-now [] now has = has
  numbers-now (v ∷ names) now has = has.0

-- AN OPEN ENDPOINT has a name
pub open-named : (es : List OpenEndpoint) (j : Inc) → is_open es j ≡ true
    → name_at es j ≡ None → ⊥
open-named [] j opened none = true≢false (sym opened)
open-named (e ∷ es) j opened none = go (is_at j e) refl (open-named es j)
  where
    go : (b : Bool) → is_at j e ≡ b → (is_open es j ≡ true → name_at es j ≡ None → ⊥) → ⊥
    go true is rest =
        let named : name_at (e ∷ es) j ≡ Some e.name = rw is refl in
        let never : Some e.name ≡ None = sym named ∙ none in cc
    go false is rest = rest (rw is at opened) (rw is at none)

-- A SIGNAL to a living peer over a link may be sent, from an endpoint of this name
module _ (s : TrunksState) (k : NodeState) (j : Inc) (to : Peer) (l : LinkNo) (x : Session)
    (b : Inc) (n : NodeNo) (side : Side) (name : List ℕ) (living : is_living k to ≡ true)
    (is : to ≡ There l x b) (may : MayTellSend s k j (is_living k to) to) (node : n ≡ k.node)
    (on : Some side ≡ side_on (over s.links) n.0 l) (named : Some name ≡ name_at k.endpoints j)
  where
    sends-to : MaySendTo (trunks_of s.is l.0) side j name b
    sends-to =
        let there : MayTellSend s k j true (There l x b) =
        subst (λ (q : Peer). MayTellSend s k j true q) is
        (subst (λ (v : Bool). MayTellSend s k j v to) living may) in
        let at : side_on (over s.links) k.node.0 l ≡ Some side =
        ap (λ (m : NodeNo). side_on (over s.links) m.0 l) (sym node) ∙ sym on in
        let called : name_or_none (name_at k.endpoints j) ≡ name = ap name_or_none (sym named) in
        subst (λ (v : List ℕ). MaySendTo (trunks_of s.is l.0) side j v b) called (there.1 side at)

    pub may-send : (signal : SigNote) → IsSignal signal
        → MaySend (side_of side (trunks_of s.is l.0)) j name b signal
    may-send signal is_signal =
        record { sender = sends-to.sender; receiver = sends-to.receiver; is_signal = is_signal }

    pub send-numbers : HasNumbersLeft side (trunks_of s.is l.0)
    send-numbers = sends-to.numbers

-- and a hunt over a link has numbers
pub hunt-numbers : (s : TrunksState) (k : NodeState) (path : Path) (l : LinkNo) (v : List ℕ)
    (n : NodeNo) (side : Side) → path ≡ Over l v → MayTellHunt s k path → n ≡ k.node
    → Some side ≡ side_on (over s.links) n.0 l → HasNumbersLeft side (trunks_of s.is l.0)
hunt-numbers s k path l v n side is may node on =
    let there : MayTellHunt s k (Over l v) =
    subst (λ (p : Path). MayTellHunt s k p) is may in
    there.1 side (ap (λ (m : NodeNo). side_on (over s.links) m.0 l) (sym node) ∙ sym on)
