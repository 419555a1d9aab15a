-- Messages that are cut one after the other join to themselves, wherever one stops.
use Rattle.std.proofs.Common.{◌≡◌, ◌≢◌, ℕ, ◌<◌, ◌≤◌, ltb, Bool, true, false, Option, None, Some}
use Rattle.std.proofs.Common.{List, [], ◌∷◌, ◌++◌, length, take, map, refl, sym, ap, ◌∙◌, subst}
use Rattle.std.proofs.Common.{All, ◌⊎◌, inl, inr, append_assoc, if◌then◌else◌, ◌==◌, nat_lt}
use Rattle.std.proofs.Common.{flat_map, append-nil}
use Rattle.std.proofs.lemmas.List.Elements.{All-nil, All-cons, All-head, All-tail, All-append}
use Rattle.linx_base.specs.declared.frame.Message.{Message}
use Rattle.linx_base.specs.declared.frame.Frame.{Frame}
use Rattle.linx_base.specs.declared.frame.Frame.TheVariants.{First, Next}
use Rattle.linx_base.specs.Frames.{IsMessage, payload_of, has_more}
use Rattle.fragmenter.specs.declared.joiner.Joined.{Joined}
use Rattle.fragmenter.specs.declared.joiner.Joined.TheVariants.{More, Whole, Broken}
use Rattle.fragmenter.specs.Pieces.{pieces_of}
use Rattle.fragmenter.specs.Joining.{Begun, extended, judged, staying, joiner_answer, held_after}
use Rattle.fragmenter.specs.Joining.{answers_to, held_after_all, whole_at_the_last}
use Rattle.fragmenter.specs.Streams.{frames_of, wholes, begun_by, JoinsInOrder, AllJoinInOrder}
use Rattle.fragmenter.proofs.Cuts.{pieces_of_first}
use Rattle.fragmenter.proofs.Joins.{pieces-join, held_after_all-append, answers_to-append}

-- of two fronts of a list the one goes on with the other, or is a strict front of it
Fronts : {X : Type 0} → List X → List X → List X → List X → Type 0
Fronts {X} xs ys us vs =
    ((ws : List X) × (us ≡ xs ++ ws) × (ys ≡ ws ++ vs))
    ⊎ ((w : X) × (ws : List X) × (xs ≡ us ++ w ∷ ws))

fronts : {X : Type 0} (xs ys us vs : List X) → xs ++ ys ≡ us ++ vs → Fronts xs ys us vs
unfolding Fronts
fronts [] ys us vs e = inl (us, refl, e)
fronts (x ∷ xs) ys [] vs e = inr (x, xs, refl)
fronts (x ∷ xs) ys (u ∷ us) vs e =
    let head : x ≡ u = cc in
    let tail : xs ++ ys ≡ us ++ vs = cc in
    elim (fronts xs ys us vs tail) [
      | inl w ↦ inl (w.0, rw (head, w.1) refl, w.2)
      | inr w ↦ inr (w.0, w.1, rw (head, w.2) refl)
    ]

abbrev mores : List Frame → List Joined
mores frames = map (λ (_ : Frame). More) frames

-- what is held after a frame that is answered More
stays_if : (v : Bool) (b : Begun) → (if v then More else Broken) ≡ More
    → (if v then Some b else None) ≡ Some b
stays_if true b e = refl
stays_if false b e = absurd cc

never_more : (v : Bool) (m : Message) → (if v then Whole m else Broken) ≢ More
never_more true m e = absurd cc
never_more false m e = absurd cc

stays_where_more : (begun : Option Begun) (more : Bool) → judged begun more ≡ More
    → staying begun more ≡ begun
stays_where_more None more e = absurd cc
stays_where_more (Some b) true e = stays_if (nat_lt (length b.bytes) b.size) b e
stays_where_more (Some b) false e = absurd (never_more (length b.bytes == b.size) _ e)

held_where_more : (begun : Option Begun) (frame : Frame) → joiner_answer begun frame ≡ More
    → held_after begun frame ≡ extended begun frame
held_where_more begun frame e = stays_where_more (extended begun frame) (has_more frame) e

-- the frames that carry further payloads, each answered More, add them
held_more : (b : Begun) (frames : List Frame) → answers_to (Some b) frames ≡ mores frames
    → held_after_all (Some b) frames
    ≡ Some (record b { bytes = b.bytes ++ flat_map payload_of frames })
unfolding answers_to held_after_all
held_more b [] e = ap (λ bytes. Some (record b { bytes = bytes })) (sym (append-nil b.bytes))
held_more b (First more from to size payload ∷ frames) e = absurd cc
held_more b (Next more payload ∷ frames) e =
    let one : held_after (Some b) (Next more payload)
    ≡ Some (record b { bytes = b.bytes ++ payload }) =
    held_where_more (Some b) (Next more payload) cc in
    let rest : answers_to (held_after (Some b) (Next more payload)) frames ≡ mores frames = cc in
    ap (λ begun. held_after_all begun frames) one
    ∙ held_more (record b { bytes = b.bytes ++ payload }) frames (rw (← one) rest)
    ∙ ap (λ bytes. Some (record b { bytes = bytes }))
    (append_assoc b.bytes payload (flat_map payload_of frames))

-- the pieces before one of a message's are answered More
answers_before : (m : Message) (begun : Option Begun) (before : List Frame) (f : Frame)
    (after : List Frame) → answers_to begun (before ++ f ∷ after)
    ≡ whole_at_the_last m (before ++ f ∷ after) → answers_to begun before ≡ mores before
unfolding answers_to held_after_all whole_at_the_last
answers_before m begun [] f after e = refl
answers_before m begun (x ∷ []) f after e = cc
answers_before m begun (x ∷ y ∷ before) f after e =
    let head : joiner_answer begun x ≡ More = cc in
    let rest : answers_to (held_after begun x) (y ∷ before) ≡ mores (y ∷ before) =
    answers_before m (held_after begun x) (y ∷ before) f after cc in
    rw (head, rest) refl

-- no message is whole, and nothing broken, where each answer is More
wholes-mores : (frames : List Frame) → wholes (mores frames) ≡ []
wholes-mores [] = refl
wholes-mores (f ∷ frames) = wholes-mores frames

unbroken-mores : (frames : List Frame) → All (λ answer. answer ≢ Broken) (mores frames)
unbroken-mores [] = All-nil (λ answer. answer ≢ Broken)
unbroken-mores (f ∷ frames) =
    All-cons (λ answer. answer ≢ Broken) More (mores frames) (λ e. absurd cc)
    (unbroken-mores frames)

pub wholes-append : (xs ys : List Joined) → wholes (xs ++ ys) ≡ wholes xs ++ wholes ys
wholes-append [] ys = refl
wholes-append (Whole m ∷ xs) ys = ap (λ ms. m ∷ ms) (wholes-append xs ys)
wholes-append (More ∷ xs) ys = wholes-append xs ys
wholes-append (Broken ∷ xs) ys = wholes-append xs ys

-- of all the pieces of a message that message alone is made
wholes_at_the_last : (m : Message) (f : Frame) (frames : List Frame)
    → wholes (whole_at_the_last m (f ∷ frames)) ≡ m ∷ []
unfolding whole_at_the_last
wholes_at_the_last m f [] = refl
wholes_at_the_last m f (g ∷ frames) = wholes_at_the_last m g frames

unbroken_at_the_last : (m : Message) (frames : List Frame)
    → All (λ answer. answer ≢ Broken) (whole_at_the_last m frames)
unfolding whole_at_the_last
unbroken_at_the_last m [] = All-nil (λ answer. answer ≢ Broken)
unbroken_at_the_last m (f ∷ []) =
    All-cons (λ answer. answer ≢ Broken) (Whole m) [] (λ e. absurd cc)
    (All-nil (λ answer. answer ≢ Broken))
unbroken_at_the_last m (f ∷ g ∷ frames) =
    All-cons (λ answer. answer ≢ Broken) More (whole_at_the_last m (g ∷ frames)) (λ e. absurd cc)
    (unbroken_at_the_last m (g ∷ frames))

module _ (p : ℕ) (m : Message) (ms : List Message) (h : 1 ≤ p) (k : 0 < length m.body) where
  -- what they leave begun
  held_before : (before : List Frame) (f : Frame) (after : List Frame)
      → pieces_of m p ≡ before ++ f ∷ after → answers_to None before ≡ mores before
      → held_after_all None before ≡ begun_by (m ∷ ms) before
  unfolding answers_to held_after_all
  held_before [] f after e a = refl
  held_before (x ∷ before) f after e a =
      let first : Frame =
      First (ltb p (length m.body)) m.from m.to (length m.body) (take p m.body) in
      let same : x ≡ first = (let q = sym (pieces_of_first m p h k) ∙ e in cc) in
      let b : Begun =
      record { from = m.from; to = m.to; size = length m.body; bytes = take p m.body } in
      let one : held_after None first ≡ Some b =
      held_where_more None first (subst (λ g. joiner_answer None g ≡ More) same cc) in
      let rest : answers_to (Some b) before ≡ mores before =
      subst (λ begun. answers_to begun before ≡ mores before) (ap (held_after None) same ∙ one)
      cc in
      rw same (ap (λ begun. held_after_all begun before) one ∙ held_more b before rest)

  -- some pieces of the first message, not all
  joins_part : (taken : List Frame) (f : Frame) (after : List Frame)
      → pieces_of m p ≡ taken ++ f ∷ after → JoinsInOrder p (m ∷ ms) taken
  joins_part taken f after e =
      let answers : answers_to None taken ≡ mores taken =
      answers_before m None taken f after (rw (← e) (pieces-join m p h k).0) in
      record {
        whole = [];
        later = m ∷ ms;
        part = taken;
        in_order = refl;
        frames = refl;
        begins_next = (f, after, e);
        answered = ap wholes answers ∙ wholes-mores taken;
        unbroken = rw answers (unbroken-mores taken);
        holds = held_before taken f after e answers;
      }

  -- all pieces of the first message, and then some of the others'
  joins_whole : (taken rest : List Frame) → taken ≡ pieces_of m p ++ rest → JoinsInOrder p ms rest
      → JoinsInOrder p (m ∷ ms) taken
  joins_whole taken rest e r =
      let joins = pieces-join m p h k in
      let outside : held_after_all None (pieces_of m p) ≡ None = joins.1 in
      let answers : answers_to None taken
      ≡ whole_at_the_last m (pieces_of m p) ++ answers_to None rest =
      ap (answers_to None) e ∙ answers_to-append None (pieces_of m p) rest
      ∙ rw (joins.0, outside) refl
      in
      let one : wholes (whole_at_the_last m (pieces_of m p)) ≡ m ∷ [] =
      rw (pieces_of_first m p h k) (wholes_at_the_last m _ _) in
      record {
        whole = m ∷ r.whole;
        later = r.later;
        part = r.part;
        in_order = ap (λ l. m ∷ l) r.in_order;
        frames = e ∙ ap (λ l. pieces_of m p ++ l) r.frames
            ∙ sym (append_assoc (pieces_of m p) (frames_of p r.whole) r.part);
        begins_next = r.begins_next;
        answered =
            ap wholes answers ∙ wholes-append (whole_at_the_last m (pieces_of m p))
            (answers_to None rest) ∙ rw (one, r.answered) refl;
        unbroken =
            rw answers (All-append (λ answer. answer ≢ Broken) (whole_at_the_last m (pieces_of m p))
            (answers_to None rest) (unbroken_at_the_last m (pieces_of m p)) r.unbroken);
        holds = ap (held_after_all None) e ∙ held_after_all-append None (pieces_of m p) rest
            ∙ ap (λ begun. held_after_all begun rest) outside ∙ r.holds;
      }

joins_none : (p : ℕ) (taken rest : List Frame) → [] ≡ taken ++ rest → JoinsInOrder p [] taken
unfolding answers_to held_after_all
joins_none p [] rest e = record {
  whole = [];
  later = [];
  part = [];
  in_order = refl;
  frames = refl;
  begins_next = refl;
  answered = refl;
  unbroken = All-nil (λ answer. answer ≢ Broken);
  holds = refl;
}
joins_none p (f ∷ taken) rest e = absurd cc

-- whichever front of the frames was taken
pub join_in_order : (p : ℕ) (messages : List Message) → 1 ≤ p → All IsMessage messages
    → AllJoinInOrder p messages
unfolding Fronts
join_in_order p [] h all = λ taken rest e. joins_none p taken rest e
join_in_order p (m ∷ ms) h all = λ taken rest e.
    let is : IsMessage m = All-head IsMessage m ms all in
    elim (fronts (pieces_of m p) (frames_of p ms) taken rest e) [
      | inl w ↦
          joins_whole p m ms h is.0 taken w.0 w.1
          (join_in_order p ms h (All-tail IsMessage m ms all) w.0 rest w.2)
      | inr w ↦ joins_part p m ms h is.0 taken w.0 w.1 w.2
    ]
