-- What is promised of each packet, from the records.
use Rattle.std.proofs.Common.{ℕ, List, [], ◌∷◌, sym, true≢false}
use Rattle.std.specs.List.{AllByRecursion}
use Rattle.linx_base.specs.Peers.{same_peer}
use Rattle.linx_base.specs.declared.identity.LinkNo.{LinkNo}
use Rattle.linx_base.specs.declared.identity.Peer.TheVariants.{There}
use Rattle.linx_base.specs.declared.identity.Session.{Session}
use Rattle.linx_base.specs.declared.name.Path.TheVariants.{Over}
use Rattle.trunk_record.specs.Changes.{giving}
use Rattle.trunk_record.specs.Records.{SideRecord, all}
use Rattle.trunk_record.specs.Sayings.{Given, arrived, asked_for, freed, gone, met}
use Rattle.trunk_record.specs.Trunks.{IsHalf}
use Rattle.linx_base.specs.Pending.{is_of_session}
use Rattle.journal.specs.Pending.{hunting, owed}
use Rattle.journal.specs.declared.effect.Effect.{Effect}
use Rattle.journal.specs.declared.effect.Effect.TheVariants.{Found, Notified}
use Rattle.journal.specs.declared.effect.Step.{Step}
use Rattle.link_laws.specs.Brought.{brought_at, goes_down, goes_up}
use Rattle.link_laws.specs.Linked.{IsLinked}
use Rattle.link_laws.specs.Moves.{IsAfter, brought_of}
use Rattle.link_laws.specs.Promises.{ArePublishedOpen, IsPromised}
use Rattle.link_laws.proofs.Sides.WordsAfterStep.{AreItems}
use Rattle.link_laws.proofs.Promises.FromRecords.{goes_forward, has_pair, is_met_open}
use Rattle.link_laws.proofs.AllLinks.OthersStay.{founds-items, notices-items}
use Rattle.linx_base.specs.declared.signal.Reason.TheVariants as reasons

-- of found hunts and notifications nothing is promised
items-promised : (P : List Step) (n m : ℕ) (l : LinkNo) (items : List Effect) → AreItems items
    → AllByRecursion (IsPromised P n m l) items
items-promised P n m l [] are = tt
items-promised P n m l (Found i q note number ∷ items) are =
    (tt, items-promised P n m l items are.1)
items-promised P n m l (Notified i q note reference reason ∷ items) are =
    (tt, items-promised P n m l items are.1)
items-promised P n m l (_ ∷ items) are = absurd (true≢false (sym are.0))

module _ (P : List Step) (n m : ℕ) (l : LinkNo) (A B : SideRecord) (near : IsLinked P n l A)
    (far : IsLinked P m l B) where
  -- of what a side is given
  pub promised_giving : (g : Given) → IsHalf (giving g A) B → ArePublishedOpen P m l B
      → AllByRecursion (IsPromised P n m l) (brought_at P n l (brought_of A g))
  promised_giving (met a name) there kept = (
    is_met_open P n m l A B a name near far there kept,
    items-promised P n m l _
        (founds-items (Over l name) (There l A.now.session a) (hunting P n)),
  )
  promised_giving (asked_for name) there kept = tt
  promised_giving (arrived a b note) there kept =
      (has_pair P n m l A B (arrived a b note) near far there, tt)
  promised_giving (freed a b note) there kept = tt
  promised_giving (gone a) there kept = (
    has_pair P n m l A B (gone a) near far there,
    items-promised P n m l _
        (notices-items reasons.Closed (same_peer (There l A.now.session a)) (owed P n)),
  )

  -- of a side that goes up with no lower a session than before
  pub promised_up : (y : Session) → AllByRecursion (IsAfter y) (all A)
      → AllByRecursion (IsPromised P n m l) (brought_at P n l (goes_up A.now.session y))
  promised_up y after = (goes_forward P n l A y near after, tt)

  -- and of one that goes down
  pub promised_down : (x : Session)
      → AllByRecursion (IsPromised P n m l) (brought_at P n l (goes_down x))
  promised_down x =
      (tt, items-promised P n m l _ (notices-items reasons.Lost (is_of_session l x) (owed P n)))
