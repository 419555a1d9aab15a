-- THE BOOK FOLLOWS THE HISTORY: past a legal step it is the one that the longer history leaves.
use Rattle.std.proofs.Common.{◌≡◌, ◌≢◌, ℕ, zero, suc, ◌+◌, ◌<◌, ◌≤◌, Bool, true, false, List, []}
use Rattle.std.proofs.Common.{◌∷◌, ◌++◌, length, replicate, slice_get, slice_set, Option, Some, get_or}
use Rattle.std.proofs.Common.{refl, sym, ◌∙◌, ap, subst, arith, ◌==◌, eq-eqb, eqb-true, true≢false}
use Rattle.std.proofs.Common.{OnOk, Result}
use Rattle.linx_base.specs.declared.frame.LinkDecl.{LinkDecl}
use Rattle.linx_base.specs.declared.identity.Inc.{Inc}
use Rattle.linx_base.specs.declared.identity.Side.TheVariants.{First, Second}
use Rattle.journal.specs.History.{endpoint_by}
use Rattle.journal.specs.Shapes.{Shape}
use Rattle.journal.specs.declared.effect.Step.{Step}
use Rattle.link_laws.specs.Laws.{IsLegalStep}
use Rattle.link_tables.specs.Arrivals.{count_in, counts_past}
use Rattle.link_tables.specs.Marks.{marks_in}
use Rattle.link_tables.specs.Sent.{sent_past}
use Rattle.link_tables.specs.Sides.{HasRoom}
use Rattle.link_tables.specs.declared.marks.Mark.{Mark}
use Rattle.link_tables.specs.declared.sent.SentOver.{SentOver}
use Rattle.link_tables.proofs.Room.{room-left}
use Rattle.link_check.specs.Books.{BookSoFar, HaveRoom, IsBookLeft, IsFresh, IsPast, TakesStep}
use Rattle.link_check.specs.Lines.{AreLinesLeft, LineSoFar, fresh_line, line_left, line_after}
use Rattle.link_check.proofs.Off.{line-follows}

-- LISTS read at a place
pub within : {X : Type 0} (xs : List X) (k : ℕ) (x : X) → slice_get xs k ≡ Some x → k < length xs
within [] k x is = cc is
within (y ∷ xs) zero x is = omega arith
within (y ∷ xs) (suc k) x is = let less : k < length xs = within xs k x is in omega arith

there : {X : Type 0} (xs : List X) (k : ℕ) → k < length xs
    → (x : X) × (slice_get xs k ≡ Some x)
there [] k less = absurd (omega arith)
there (x ∷ xs) zero less = (x, refl)
there (x ∷ xs) (suc k) less = there xs k (omega arith)

of-replicate : {X : Type 0} (n : ℕ) (x : X) (k : ℕ) → k < n → slice_get (replicate n x) k ≡ Some x
of-replicate zero x k less = absurd (omega arith)
of-replicate (suc n) x zero less = refl
of-replicate (suc n) x (suc k) less = of-replicate n x k (omega arith)

length-replicate : {X : Type 0} (n : ℕ) (x : X) → length (replicate n x) ≡ n
length-replicate zero x = refl
length-replicate (suc n) x = ap suc (length-replicate n x)

-- THE FIRST BOOK
pub fresh-left : (links : List LinkDecl) (book : BookSoFar) → IsFresh links book
    → IsBookLeft [] links book
fresh-left links book fresh = record {
  links = fresh.links;
  lines = record {
    counted = ap (λ (xs : List LineSoFar). length xs) fresh.lines
        ∙ length-replicate (length links) fresh_line;
    each = λ k ends is.
        ap (λ (xs : List LineSoFar). slice_get xs k) fresh.lines
        ∙ of-replicate (length links) fresh_line k (within links k ends is);
  };
  marks = fresh.marks;
  sent = fresh.sent;
  arrived = ap count_in fresh.arrived;
}

-- AND THE NEXT ONE
module _ (shape : Shape) (s : Step) (P : List Step) (legal : IsLegalStep shape P s)
    (old new : BookSoFar) (left : IsBookLeft P shape.links old)
    (past : IsPast (endpoint_by P s.by) s old new) where
  same-links : old.links ≡ shape.links
  same-links = left.links

  pub next-left : IsBookLeft (s ∷ P) shape.links new
  next-left = record {
    links = past.links ∙ left.links;
    lines = record {
      counted = past.lines.counted ∙ left.lines.counted;
      each = λ k ends is.
          past.lines.each k (line_left P (suc k) ends) ends (left.lines.each k ends is)
          (ap (λ (xs : List LinkDecl). slice_get xs k) same-links ∙ is)
          ∙ ap (λ (line : LineSoFar). Some line) (sym (line-follows (suc k) shape s P legal ends));
    };
    marks = past.marks
        ∙ ap (λ (marks : List Mark). marks ++ marks_in s.head s.effects) left.marks;
    sent = past.sent
        ∙ ap (λ (sent : List SentOver). sent_past (endpoint_by P s.by) s.head sent) left.sent;
    arrived = past.arrived ∙ ap (counts_past s.effects) left.arrived;
  }

pub pass-left : (shape : Shape) (s : Step) (P : List Step) → IsLegalStep shape P s
    → (old new : BookSoFar) → IsBookLeft P shape.links old → (me : Option Inc)
    → me ≡ endpoint_by P s.by → IsPast me s old new → IsBookLeft (s ∷ P) shape.links new
pass-left shape s P legal old new left me mine past =
    next-left shape s P legal old new left
    (subst (λ (m : Option Inc). IsPast m s old new) mine past)

-- what follows of a value follows where there is one
pub on-ok : {A E : Type 0} (r : Result A E) (P Q : Type 0) → (P → Q) → OnOk r P → OnOk r Q
on-ok (Result.Ok a) P Q follows is = follows is
on-ok (Result.Err e) P Q follows is = tt

-- one more step fits
pub have-room : (P : List Step) (links : List LinkDecl) (lines : List LineSoFar)
    → AreLinesLeft P links lines → length P < 4294967295 → HaveRoom lines
have-room P links lines left short k line is =
    let less : k < length links = omega (arith, within lines k line is, left.counted) in
    let ends = there links k less in
    let same : (let o : Option LineSoFar = Some line in o) ≡ Some (line_left P (suc k) ends.0) =
    sym is ∙ left.each k ends.0 ends.1 in
    let one : line ≡ line_left P (suc k) ends.0 = cc in
    subst (λ (x : LineSoFar). HasRoom x.first × HasRoom x.second) (sym one) (
      room-left P ends.0.first.0 (suc k) First short,
      room-left P ends.0.second.0 (suc k) Second short,
    )

-- so the book takes it
pub takes-step : (P : List Step) (links : List LinkDecl) (book : BookSoFar)
    → IsBookLeft P links book → length links < 4294967295 → length P < 4294967295
    → TakesStep book
takes-step P links book left few short = record {
  counted = left.lines.counted
      ∙ ap (λ (xs : List LinkDecl). length xs) (sym left.links);
  few = subst (λ (k : ℕ). k < 4294967295) (sym left.lines.counted) few;
  room = have-room P links book.lines left.lines short;
}

-- LISTS with one place changed
get-set : {X : Type 0} (xs : List X) (i : ℕ) (x : X) → i < length xs
    → slice_get (slice_set xs i x) i ≡ Some x
get-set [] i x less = absurd (omega arith)
get-set (y ∷ xs) zero x less = refl
get-set (y ∷ xs) (suc i) x less = get-set xs i x (omega arith)

get-other : {X : Type 0} (xs : List X) (i j : ℕ) (x : X) → i ≢ j
    → slice_get (slice_set xs i x) j ≡ slice_get xs j
get-other [] i j x other = refl
get-other (y ∷ xs) zero zero x other = absurd (other refl)
get-other (y ∷ xs) zero (suc j) x other = refl
get-other (y ∷ xs) (suc i) zero x other = refl
get-other (y ∷ xs) (suc i) (suc j) x other = get-other xs i j x (λ same. other (ap suc same))

pub length-set : {X : Type 0} (xs : List X) (i : ℕ) (x : X) → length (slice_set xs i x) ≡ length xs
length-set [] i x = refl
length-set (y ∷ xs) zero x = refl
length-set (y ∷ xs) (suc i) x = ap suc (length-set xs i x)

pub is-get : {X : Type 0} (xs : List X) (k : ℕ) (v : X) → k < length xs → v ≡ get_or xs k v
    → slice_get xs k ≡ Some v
is-get [] k v less is = absurd (omega arith)
is-get (x ∷ xs) zero v less is = ap (λ (z : _). Some z) (sym is)
is-get (x ∷ xs) (suc k) v less is = is-get xs k v (omega arith) is

-- EACH OF A LIST, changed place by place
module _ (old now : List LineSoFar) (links : List LinkDecl) (me : Option Inc) (s : Step) (place : ℕ)
    (new was : LineSoFar) (mine : LinkDecl) (less : place < length now)
    (done : (k : ℕ) (x : LineSoFar) (ends : LinkDecl) → k < place → slice_get old k ≡ Some x
    → slice_get links k ≡ Some ends → slice_get now k ≡ Some (line_after (suc k) ends me s x))
    (rest : (k : ℕ) → place ≤ k → slice_get now k ≡ slice_get old k)
    (was_is : slice_get now place ≡ Some was) (mine_is : slice_get links place ≡ Some mine)
    (is : new ≡ line_after (suc place) mine me s was) where
  pub pass-more : (k : ℕ) (x : LineSoFar) (ends : LinkDecl) → k < place + 1
      → slice_get old k ≡ Some x → slice_get links k ≡ Some ends
      → slice_get (slice_set now place new) k ≡ Some (line_after (suc k) ends me s x)
  pass-more k x ends under read link = go (place == k) refl
    where
      go : (b : Bool) → (place == k) ≡ b
          → slice_get (slice_set now place new) k ≡ Some (line_after (suc k) ends me s x)
      go true e =
          let same : place ≡ k = eqb-true place k e in
          let one : (let o : Option LineSoFar = Some was in o) ≡ Some x =
          sym was_is ∙ rest place (omega arith) ∙ ap (slice_get old) same ∙ read in
          let was_x : was ≡ x = cc in
          let two : (let o : Option LinkDecl = Some mine in o) ≡ Some ends =
          sym mine_is ∙ ap (slice_get links) same ∙ link in
          let mine_ends : mine ≡ ends = cc in
          subst (λ (j : ℕ). slice_get (slice_set now place new) j
          ≡ Some (line_after (suc j) ends me s x)) same
          (get-set now place new less
          ∙ ap (λ (y : LineSoFar). Some y)
          (is ∙ (λ i. line_after (suc place) (mine_ends i) me s (was_x i))))
      go false e =
          let other : place ≢ k = λ same. true≢false (sym (eq-eqb place k same) ∙ e) in
          get-other now place k new other ∙ done k x ends (omega (arith, under, other)) read link

  pub pass-rest : (k : ℕ) → place + 1 ≤ k → slice_get (slice_set now place new) k ≡ slice_get old k
  pass-rest k above =
      let other : place ≢ k = λ same. (let h : place ≡ k = same in absurd (omega arith)) in
      get-other now place k new other ∙ rest k (omega arith)
