-- How one address goes round.
use Rattle.std.proofs.Common.{◌≡◌, List, [], ◌∷◌, ◌++◌, Option, Some}
use Rattle.std.proofs.Common.{None, arith, refl, sym, ◌∙◌, ap, subst}
use Rattle.std.proofs.lemmas.Option.{none-some, same_Some}
use Rattle.linx_base.specs.declared.identity.Inc.{Inc}
use Rattle.link_addresses.specs.declared.meaning.Meaning.{Meaning}
use Rattle.link_addresses.specs.declared.meaning.Meaning.TheVariants.{Free, Live, Closing}
use Rattle.rlnh_laws.specs.Ties.{About, announcing, signaling, withdrawing, Toward, signal_to}
use Rattle.rlnh_laws.specs.Ties.{confirming, Tells, Aims}
use Rattle.rlnh_laws.specs.Ties.{Acks, Stands, unused, announced, known, answered, bearer}

-- what is told comes to whose the address is
pub tells_bearer : (i : Inc) (m : Meaning) (r : List About) → Tells i m r → bearer m ≡ Some i
tells_bearer i m [] t = ap bearer t
tells_bearer i m (announcing j ∷ r) t = absurd t
tells_bearer i m (signaling j ∷ r) t = tells_bearer i m r t.1
tells_bearer i m (withdrawing j ∷ r) t = ap bearer t.2

pub tells_signal : (i j : Inc) (r : List About) → Tells i (Live j) r
    → Tells i (Live j) (r ++ signaling j ∷ [])
tells_signal i j [] t = (same_Some j i (ap bearer t), t)
tells_signal i j (announcing k ∷ r) t = absurd t
tells_signal i j (signaling k ∷ r) t = (t.0, tells_signal i j r t.1)
tells_signal i j (withdrawing k ∷ r) t = absurd (live_closing j i t.2)
  where
    live_closing : (j i : Inc) → Live j ≡ Closing i → ⊥
    live_closing j i e = absurd (grind arith)

pub tells_close : (i j : Inc) (r : List About) → Tells i (Live j) r
    → Tells i (Closing j) (r ++ withdrawing j ∷ [])
tells_close i j [] t = let e : j ≡ i = same_Some j i (ap bearer t) in (e, refl, ap Closing e)
tells_close i j (announcing k ∷ r) t = absurd t
tells_close i j (signaling k ∷ r) t = (t.0, tells_close i j r t.1)
tells_close i j (withdrawing k ∷ r) t = absurd (live_closing j i t.2)
  where
    live_closing : (j i : Inc) → Live j ≡ Closing i → ⊥
    live_closing j i e = absurd (grind arith)

pub aims_signal : (i : Inc) (r : List Toward) → Aims i r → Aims i (r ++ signal_to i ∷ [])
aims_signal i [] t = (refl, tt)
aims_signal i (signal_to j ∷ r) t = (t.0, aims_signal i r t.1)
aims_signal i (confirming ∷ r) t = absurd t

pub aims_ack : (i : Inc) (r : List Toward) → Aims i r → Acks i (r ++ confirming ∷ [])
aims_ack i [] t = refl
aims_ack i (signal_to j ∷ r) t = (t.0, aims_ack i r t.1)
aims_ack i (confirming ∷ r) t = absurd t

-- ---- the owner says
pub stand_publish : (i : Inc) (met : Option Inc) (ab : List About) (to : List Toward)
    → Stands Free met ab to → Stands (Live i) met (ab ++ announcing i ∷ []) to
stand_publish i met ab to (unused o m e t) =
    announced i [] m (ap (λ x. x ++ announcing i ∷ []) e) refl t
stand_publish i met ab to (announced j r m e t q) = absurd (none-some j (tells_bearer j Free r t))
stand_publish i met ab to (known j m t q) = absurd (none-some j (tells_bearer j Free ab t))
stand_publish i met ab to (answered j o m e q) = absurd (none-some j (ap bearer o))

pub stand_signal : (i : Inc) (met : Option Inc) (ab : List About) (to : List Toward)
    → Stands (Live i) met ab to → Stands (Live i) met (ab ++ signaling i ∷ []) to
stand_signal i met ab to (unused o m e t) = absurd (none-some i (sym (ap bearer o)))
stand_signal i met ab to (announced j r m e t q) =
    announced j (r ++ signaling i ∷ []) m (ap (λ x. x ++ signaling i ∷ []) e)
    (tells_signal j i r t) q
stand_signal i met ab to (known j m t q) = known j m (tells_signal j i ab t) q
stand_signal i met ab to (answered j o m e q) = absurd (grind arith)

pub stand_close : (i : Inc) (met : Option Inc) (ab : List About) (to : List Toward)
    → Stands (Live i) met ab to → Stands (Closing i) met (ab ++ withdrawing i ∷ []) to
stand_close i met ab to (unused o m e t) = absurd (none-some i (sym (ap bearer o)))
stand_close i met ab to (announced j r m e t q) =
    announced j (r ++ withdrawing i ∷ []) m (ap (λ x. x ++ withdrawing i ∷ []) e)
    (tells_close j i r t) q
stand_close i met ab to (known j m t q) = known j m (tells_close j i ab t) q
stand_close i met ab to (answered j o m e q) = absurd (grind arith)

-- ---- the other side says
pub stand_aimed : (own : Meaning) (i : Inc) (ab : List About) (to : List Toward)
    → Stands own (Some i) ab to → Stands own (Some i) ab (to ++ signal_to i ∷ [])
stand_aimed own i ab to (unused o m e t) = absurd (none-some i (sym m))
stand_aimed own i ab to (announced j r m e t q) = absurd (none-some i (sym m))
stand_aimed own i ab to (known j m t q) = known i refl
    (subst (λ k. Tells k own ab) (sym (same_Some i j m)) t)
    (aims_signal i to (subst (λ k. Aims k to) (sym (same_Some i j m)) q))
stand_aimed own i ab to (answered j o m e q) = absurd (none-some i (sym m))

-- ---- the other side hears
pub stand_heard_publish : (own : Meaning) (i : Inc) (met : Option Inc) (ab : List About)
    (to : List Toward) → Stands own met (announcing i ∷ ab) to
    → (met ≡ None) × (bearer own ≡ Some i) × Stands own (Some i) ab to
stand_heard_publish own i met ab to (unused o m e t) = absurd (grind arith)
stand_heard_publish own i met ab to (announced j r m e t q) =
    let same : i ≡ j = grind arith in
    let rest : ab ≡ r = grind arith in
    let told : Tells i own ab = subst (λ x. Tells i own x) (sym rest)
    (subst (λ k. Tells k own r) (sym same) t) in
    (m, tells_bearer i own ab told, known i refl told (subst (λ x. Aims i x) (sym q) tt))
stand_heard_publish own i met ab to (known j m t q) = absurd t
stand_heard_publish own i met ab to (answered j o m e q) = absurd (grind arith)

pub stand_heard_signal : (own : Meaning) (i : Inc) (met : Option Inc) (ab : List About)
    (to : List Toward) → Stands own met (signaling i ∷ ab) to
    → (met ≡ Some i) × Stands own met ab to
stand_heard_signal own i met ab to (unused o m e t) = absurd (grind arith)
stand_heard_signal own i met ab to (announced j r m e t q) = absurd (grind arith)
stand_heard_signal own i met ab to (known j m t q) = (m ∙ ap Some (sym t.0), known j m t.1 q)
stand_heard_signal own i met ab to (answered j o m e q) = absurd (grind arith)

pub stand_heard_close : (own : Meaning) (i : Inc) (met : Option Inc) (ab : List About)
    (to : List Toward) → Stands own met (withdrawing i ∷ ab) to → (met ≡ Some i)
    × Stands own None ab (to ++ confirming ∷ [])
stand_heard_close own i met ab to (unused o m e t) = absurd (grind arith)
stand_heard_close own i met ab to (announced j r m e t q) = absurd (grind arith)
stand_heard_close own i met ab to (known j m t q) =
    (m ∙ ap Some (sym t.0), answered j t.2 refl t.1 (aims_ack j to q))
stand_heard_close own i met ab to (answered j o m e q) = absurd (grind arith)

-- ---- the owner hears
pub stand_heard_ack : (own : Meaning) (met : Option Inc) (ab : List About) (to : List Toward)
    → Stands own met ab (confirming ∷ to) → (i : Inc) × (own ≡ Closing i) × Stands Free met ab to
stand_heard_ack own met ab to (unused o m e t) = absurd (grind arith)
stand_heard_ack own met ab to (announced j r m e t q) = absurd (grind arith)
stand_heard_ack own met ab to (known j m t q) = absurd q
stand_heard_ack own met ab to (answered j o m e q) = (j, o, unused refl m e q)

pub stand_heard_aimed : (own : Meaning) (j : Inc) (met : Option Inc) (ab : List About)
    (to : List Toward) → Stands own met ab (signal_to j ∷ to) → (bearer own ≡ Some j)
    × Stands own met ab to
stand_heard_aimed own j met ab to (unused o m e t) = absurd (grind arith)
stand_heard_aimed own j met ab to (announced i r m e t q) = absurd (grind arith)
stand_heard_aimed own j met ab to (known i m t q) =
    (tells_bearer i own ab t ∙ ap Some (sym q.0), known i m t q.1)
stand_heard_aimed own j met ab to (answered i o m e q) =
    (ap bearer o ∙ ap Some (sym q.0), answered i o m e q.1)
