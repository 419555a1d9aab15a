use Rattle.std.proofs.Common.{◌≡◌, ℕ, suc, zero, ◌+◌, ◌<◌, ◌≤◌, true, Option, None, Some, List, []}
use Rattle.std.proofs.Common.{◌∷◌, ◌++◌, length, take, drop, refl, sym, ap, ◌∙◌, subst, arith}
use Rattle.std.proofs.Common.{append_assoc, length-append, if◌then◌else◌, eq-eqb, lt-ltb}
use Rattle.std.proofs.Common.{append-nil, length-take}
use Rattle.linx_base.specs.declared.frame.Message.{Message}
use Rattle.linx_base.specs.declared.frame.Frame.{Frame}
use Rattle.linx_base.specs.declared.frame.Frame.TheVariants.{First, Next}
use Rattle.fragmenter.specs.declared.joiner.Joined.TheVariants.{More, Whole}
use Rattle.fragmenter.specs.Pieces.{is_more, cut, followers, framed, pieces_of}
use Rattle.fragmenter.specs.Joining.{Begun, joiner_answer, held_after, answers_to, held_after_all}
use Rattle.fragmenter.specs.Joining.{whole_at_the_last}
use Rattle.fragmenter.specs.Holding.{joined}
use Rattle.fragmenter.proofs.Cuts.{cut_first, joined-cut}

-- from this state on the frames make the message whole at the last, and leave the joiner outside
abbrev pub JoinsTo : Option Begun → Message → List Frame → Type 0
JoinsTo begun m frames =
    (answers_to begun frames ≡ whole_at_the_last m frames) × (held_after_all begun frames ≡ None)

-- no payload is empty
AllFilled : List (List ℕ) → Type 0
AllFilled [] = Unit {0}
AllFilled (payload ∷ ps) = (0 < length payload) × AllFilled ps

filled_cut : (n p : ℕ) (xs : List ℕ) → 1 ≤ p → AllFilled (cut n p xs)
unfolding cut AllFilled
filled_cut zero p xs h = tt
filled_cut (suc n) p [] h = tt
filled_cut (suc n) p (x ∷ xs) h =
    (omega (arith, length-take p (x ∷ xs)), filled_cut n p (drop p (x ∷ xs)) h)

-- payloads that are some carry some bytes
some_bytes : (payload : List ℕ) (ps : List (List ℕ)) → AllFilled (payload ∷ ps)
    → 0 < length (joined (payload ∷ ps))
unfolding AllFilled
some_bytes payload ps f = let some = f.0 in omega (arith, length-append payload (joined ps))

-- the message so far with more bytes
abbrev more_bytes : Begun → List ℕ → Begun
more_bytes b bytes = record b { bytes = b.bytes ++ bytes }

-- the message so far with all its bytes
abbrev whole_of : Begun → List ℕ → Message
whole_of b bytes = record { from = b.from; to = b.to; body = b.bytes ++ bytes }

-- the frames that carry the rest of a message make it whole at the last
joins : (b : Begun) (payload : List ℕ) (ps : List (List ℕ)) → AllFilled (payload ∷ ps)
    → b.size ≡ length b.bytes + length (joined (payload ∷ ps))
    → JoinsTo (Some b) (whole_of b (joined (payload ∷ ps))) (followers (payload ∷ ps))
unfolding answers_to held_after_all whole_at_the_last followers AllFilled
joins b payload [] f e =
    let n = append-nil payload in
    let fits : length (b.bytes ++ payload) ≡ b.size =
    omega (arith, length-append b.bytes payload, ap length n) in
    (rw (eq-eqb (length (b.bytes ++ payload)) b.size fits, n) refl, refl)
joins b payload (next ∷ ps) f e =
    let some = some_bytes next ps f.1 in
    let size : b.size ≡ length (b.bytes ++ payload) + length (joined (next ∷ ps)) =
    omega (arith, length-append b.bytes payload, length-append payload (joined (next ∷ ps))) in
    let short = lt-ltb (length (b.bytes ++ payload)) b.size (omega arith) in
    let later = joins (more_bytes b payload) next ps f.1 size in
    let same : whole_of (more_bytes b payload) (joined (next ∷ ps))
    ≡ whole_of b (joined (payload ∷ next ∷ ps)) =
    ap (λ body. record { from = b.from; to = b.to; body = body })
    (append_assoc b.bytes payload (joined (next ∷ ps))) in
    let held : held_after (Some b) (Next true payload) ≡ Some (more_bytes b payload) =
    rw short refl in (
      rw short (ap (λ answers. More ∷ answers)
          (later.0 ∙ ap (λ m. whole_at_the_last m (followers (next ∷ ps))) same)),
      ap (λ begun. held_after_all begun (followers (next ∷ ps))) held ∙ later.1,
    )

-- the frames of a message make it whole at the last
joins_framed : (m : Message) (payload : List ℕ) (ps : List (List ℕ)) → AllFilled (payload ∷ ps)
    → joined (payload ∷ ps) ≡ m.body → JoinsTo None m (framed m (payload ∷ ps))
unfolding answers_to held_after_all whole_at_the_last framed followers AllFilled
joins_framed m payload [] f e =
    let n = append-nil payload in
    let whole : payload ≡ m.body = sym n ∙ e in
    (rw (eq-eqb (length payload) (length m.body) (ap length whole), whole) refl, refl)
joins_framed m payload (next ∷ ps) f e =
    let some = some_bytes next ps f.1 in
    let size : length m.body ≡ length payload + length (joined (next ∷ ps)) =
    sym (ap length e) ∙ length-append payload (joined (next ∷ ps)) in
    let short = lt-ltb (length payload) (length m.body) (omega arith) in
    let b : Begun = record { from = m.from; to = m.to; size = length m.body; bytes = payload } in
    let later = joins b next ps f.1 size in
    let same : whole_of b (joined (next ∷ ps)) ≡ m =
    ap (λ body. record { from = m.from; to = m.to; body = body }) e in
    let held : held_after None (First true m.from m.to (length m.body) payload) ≡ Some b =
    rw short refl in (
      rw short (ap (λ answers. More ∷ answers)
          (later.0 ∙ ap (λ w. whole_at_the_last w (followers (next ∷ ps))) same)),
      ap (λ begun. held_after_all begun (followers (next ∷ ps))) held ∙ later.1,
    )

-- the pieces of a message, joined from outside a message, answer more at each but the last and the
-- whole message at the last, and leave the joiner outside
pub pieces-join : (m : Message) (p : ℕ) → 1 ≤ p → 0 < length m.body → JoinsTo None m (pieces_of m p)
unfolding pieces_of
pieces-join m p h k =
    let payloads : List (List ℕ) = take p m.body ∷ cut (length (drop p m.body)) p (drop p m.body) in
    let first : cut (length m.body) p m.body ≡ payloads = cut_first p m.body h k in
    let body : joined payloads ≡ m.body =
    ap joined (sym first) ∙ joined-cut (length m.body) p m.body h (omega arith) in
    let filled : AllFilled payloads =
    subst AllFilled first (filled_cut (length m.body) p m.body h) in
    rw first (joins_framed m (take p m.body) (cut (length (drop p m.body)) p (drop p m.body)) filled
    body)

-- the answer at one of these frames
pub answer-at : (m : Message) (begun : Option Begun) (before : List Frame) (f : Frame)
    (after : List Frame) → answers_to begun (before ++ f ∷ after)
    ≡ whole_at_the_last m (before ++ f ∷ after)
    → joiner_answer (held_after_all begun before) f ≡ (if is_more after then More else Whole m)
unfolding answers_to held_after_all whole_at_the_last
answer-at m begun [] f [] e = cc
answer-at m begun [] f (g ∷ gs) e = cc
answer-at m begun (x ∷ []) f after e = answer-at m (held_after begun x) [] f after (cc)
answer-at m begun (x ∷ y ∷ before) f after e =
    answer-at m (held_after begun x) (y ∷ before) f after (cc)

-- the frames of a message before one of them, joined, and then that one, give more, or at the last
-- the whole message
pub pieces-answer : (m : Message) (p : ℕ) → 1 ≤ p → 0 < length m.body
    → (before : List Frame) (f : Frame) (after : List Frame) → pieces_of m p ≡ before ++ f ∷ after
    → joiner_answer (held_after_all None before) f ≡ (if is_more after then More else Whole m)
pieces-answer m p h k before f after e =
    answer-at m None before f after
    (subst (λ fs. answers_to None fs ≡ whole_at_the_last m fs) e (pieces-join m p h k).0)

-- what a joiner holds after frames, and then further ones
pub held_after_all-append : (begun : Option Begun) (xs ys : List Frame)
    → held_after_all begun (xs ++ ys) ≡ held_after_all (held_after_all begun xs) ys
unfolding held_after_all
held_after_all-append begun [] ys = refl
held_after_all-append begun (x ∷ xs) ys = held_after_all-append (held_after begun x) xs ys

-- the answers to frames, and then to further ones
pub answers_to-append : (begun : Option Begun) (xs ys : List Frame)
    → answers_to begun (xs ++ ys) ≡ answers_to begun xs ++ answers_to (held_after_all begun xs) ys
unfolding answers_to held_after_all
answers_to-append begun [] ys = refl
answers_to-append begun (x ∷ xs) ys =
    ap (λ answers. joiner_answer begun x ∷ answers) (answers_to-append (held_after begun x) xs ys)
