-- The keeps that come next.
use Rattle.std.proofs.Common.{◌≡◌, ℕ, zero, suc, ◌+◌, ◌≤◌, false, ◌&&◌, List, [], ◌∷◌, length, drop}
use Rattle.std.proofs.Common.{Option, Some, None, refl, sym, ◌∙◌, ap, arith, slice_get, is_some}
use Rattle.linx_base.specs.declared.identity.Peer.{Peer}
use Rattle.script_words.specs.declared.command.Command.{Command}
use Rattle.script_words.specs.declared.command.Command.TheVariants.{Keep}
use Rattle.actor_run.specs.Bindings.{remember}
use Rattle.actor_run.specs.Knowing.{Knows, past_keeps, passed}
use Rattle.actor_run.specs.Asking.{is_keep}

-- nothing is passed where no item was taken, or no keep comes next
none_passed : (left : List Command) (sender : Option Peer) (k : Knows)
    → (is_some sender && is_keep (slice_get left 0)) ≡ false → past_keeps left sender k ≡ k
none_passed (Keep name ∷ left) (Some peer) k h = cc
none_passed _ _ k h = refl

pub none_taken : (commands : List Command) (k : Knows) → k.last ≡ None → passed commands k ≡ k
none_taken commands k none =
    ap (λ last. past_keeps (drop k.place commands) last k) none
    ∙ none_passed (drop k.place commands) None k refl

-- the next command is the first of those that are left
first_left : (commands : List Command) (i : ℕ)
    → slice_get (drop i commands) 0 ≡ slice_get commands i
first_left [] zero = refl
first_left [] (suc i) = refl
first_left (command ∷ commands) zero = refl
first_left (command ∷ commands) (suc i) = first_left commands i

pub keep_off : (commands : List Command) (i : ℕ) (peer : Peer) (k : Knows)
    → is_keep (slice_get commands i) ≡ false
    → past_keeps (drop i commands) (Some peer) k ≡ k
keep_off commands i peer k h =
    none_passed (drop i commands) (Some peer) k (ap is_keep (first_left commands i) ∙ h)

-- a keep that comes next is passed
keep_on : (commands : List Command) (i : ℕ) (name : List ℕ) (peer : Peer) (k : Knows)
    → slice_get commands i ≡ Some (Keep name)
    → past_keeps (drop i commands) (Some peer) k
    ≡ past_keeps (drop (suc i) commands) (Some peer)
    (record k { place = k.place + 1; kept = remember k.kept name peer })
keep_on [] i name peer k h = cc
keep_on (command ∷ commands) zero name peer k h =
    let is : command ≡ Keep name = inner h in rw is refl
  where
    inner : Some command ≡ Some (Keep name) → command ≡ Keep name
    inner e = cc
keep_on (command ∷ commands) (suc i) name peer k h = keep_on commands i name peer k h

pub keep_next : (commands : List Command) (i j : ℕ) (name : List ℕ) (peer : Peer) (k : Knows)
    → j ≡ suc i → slice_get commands i ≡ Some (Keep name)
    → past_keeps (drop j commands) (Some peer)
    (record k { place = k.place + 1; kept = remember k.kept name peer })
    ≡ past_keeps (drop i commands) (Some peer) k
keep_next commands i j name peer k next h = rw next (sym (keep_on commands i name peer k h))

-- WHAT KEEPS LEAVE: they say nothing of waiting or of the buffer, and lead no further than the
-- commands that are left
pub record IsPast (left : List Command) (k new : Knows) : Type 0 where
  pub waiting : new.waiting ≡ k.waiting
  pub lent : new.lent ≡ k.lent
  pub within : new.place ≤ k.place + length left

nowhere : (left : List Command) (k new : Knows) → new ≡ k → IsPast left k new
nowhere left k new same = rw same (record { waiting = refl; lent = refl; within = omega arith })

pub past : (left : List Command) (sender : Option Peer) (k : Knows)
    → IsPast left k (past_keeps left sender k)
past (Keep name ∷ left) (Some peer) k =
    let rest = past left (Some peer)
    (record k { place = k.place + 1; kept = remember k.kept name peer }) in
    let within = rest.within in
    record { waiting = rest.waiting; lent = rest.lent; within = omega arith }
past left sender k = nowhere left k k refl
