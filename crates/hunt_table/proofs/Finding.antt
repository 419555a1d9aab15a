-- What stands under the keys of a hunt.
use Rattle.std.proofs.Common.{◌≡◌, ℕ, Bool, true, false, cond, List, refl, Some, None, is_some}
use Rattle.linx_base.specs.declared.identity.LinkNo.{LinkNo}
use Rattle.linx_base.specs.declared.name.Path.TheVariants.{Local, Over}
use Rattle.linx_base.specs.declared.pending.PendingHunt.{PendingHunt}

-- what holds of hunts on both kinds of paths holds of every hunt
pub by_path : (p q : PendingHunt → Bool) → ((h : PendingHunt) (name : List ℕ)
    → p (record h { path = Local name }) ≡ q (record h { path = Local name }))
    → ((h : PendingHunt) (link : LinkNo) (name : List ℕ)
    → p (record h { path = Over link name }) ≡ q (record h { path = Over link name }))
    → (h : PendingHunt) → p h ≡ q h
by_path p q local over h =
    elim h.path as (λ path. p (record h { path = path }) ≡ q (record h { path = path })) [
      | Local name ↦ local h name
      | Over link name ↦ over h link name
    ]

-- a path has a name over a link exactly where it goes over it
pub has_name : (b : Bool) (name : List ℕ) → b ≡ is_some (cond b (Some name) None)
has_name true name = refl
has_name false name = refl
