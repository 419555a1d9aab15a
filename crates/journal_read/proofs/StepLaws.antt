-- Steps are read from the lines that spell them, and from no others.
use Rattle.std.proofs.Common.{subst, ◌≡◌, ℕ, suc, true, List, [], ◌∷◌, ◌++◌, length}
use Rattle.std.proofs.Common.{map, refl, sym, ap, ◌∙◌, Option, Some, None, ◌==◌, eqb-true}
use Rattle.std.proofs.Common.{eq-eqb, append_assoc, append-nil}
use Rattle.std.proofs.lemmas.Bool.{cond-true}
use Rattle.std.proofs.lemmas.List.{map-append}
use Rattle.linx_base.specs.declared.name.Names.{Names}
use Rattle.journal.specs.declared.by.By.{By}
use Rattle.journal.specs.declared.head.Head.{Head}
use Rattle.journal.specs.declared.effect.Effect.{Effect}
use Rattle.journal.specs.declared.effect.Step.{Step}
use Rattle.journal_words.specs.declared.lines.Line.{Line}
use Rattle.journal_words.specs.declared.lines.Line.TheVariants.{Made, Happened}
use Rattle.text_words.specs.Gives.{◌>>=◌}
use Rattle.journal_words.specs.Lines.{line_in}
use Rattle.reading_laws.specs.Forms.{AreNames, IsLine}
use Rattle.reading_laws.proofs.Tools.{bind_some, if_some_yes}
use Rattle.reading_laws.proofs.LineLaws.{line_again, line_found}
use Rattle.journal_read.specs.Reading.{put_line, put_bytes, steps_in}
use Rattle.journal_read.specs.Spelled.{step_lines, lines_of_steps, bytes_of, AreLines, SpellSteps}

-- ---- what is read is spelled so

pub lines-append : (names : Names) (xs ys : List Line) → AreLines names xs → AreLines names ys
    → AreLines names (xs ++ ys)
lines-append names [] ys first last = last
lines-append names (x ∷ xs) ys first last = (first.0, lines-append names xs ys first.1 last)

-- a line that was put stands behind those before it
behind : (P : List Step) (line : Line) (Q : List Step) → put_line P line ≡ Some Q
    → lines_of_steps Q ≡ lines_of_steps P ++ line ∷ []
behind P (Made position by head) Q h =
    let s : Step = record { by = by; head = head; effects = [] } in
    let chosen = if_some_yes (position == suc (length P)) (Some (s ∷ P)) Q h in
    let at : position ≡ suc (length P) = eqb-true position (suc (length P)) chosen.0 in
    let same : s ∷ P ≡ Q = cc in
    subst
    (λ (R : List Step). lines_of_steps R ≡ lines_of_steps P ++ Made position by head ∷ []) same
    (ap (λ (k : ℕ). lines_of_steps P ++ Made k by head ∷ []) (sym at))
behind [] (Happened effect) Q h = cc
behind (s ∷ P) (Happened effect) Q h =
    let t : Step = record s { effects = s.effects ++ effect ∷ [] } in
    let same : t ∷ P ≡ Q = cc in
    let front = lines_of_steps P in
    let first = Made (suc (length P)) s.by s.head in
    subst
    (λ (R : List Step). lines_of_steps R ≡ lines_of_steps (s ∷ P) ++ Happened effect ∷ []) same
    (ap (λ (es : List Line). front ++ first ∷ es) (map-append Happened s.effects (effect ∷ []))
    ∙ sym (append_assoc front (first ∷ map Happened s.effects) (Happened effect ∷ [])))

-- what was put, and the line that it was
record IsPut (names : Names) (P : List Step) (bytes : List ℕ) (Q : List Step) : Type 0 where
  line : Line
  is : IsLine names line
  spelled : bytes ≡ bytes_of names line
  lines : lines_of_steps Q ≡ lines_of_steps P ++ line ∷ []

put_found : (names : Names) (P : List Step) (bytes : List ℕ) (Q : List Step)
    → put_bytes names P bytes ≡ Some Q → IsPut names P bytes Q
unfolding put_bytes
put_found names P bytes Q h =
    let line = bind_some (line_in names bytes) (put_line P) Q h in
    let is = line_found names bytes line.0 line.1 in
    record {
      line = line.0;
      is = is.1;
      spelled = is.0;
      lines = behind P line.0 Q line.2;
    }

-- the steps R are those of the lines of P and of these
record IsRead (names : Names) (P : List Step) (lines : List (List ℕ)) (R : List Step) : Type 0
  where
    whole : AreLines names (lines_of_steps R)
    spelled : map (bytes_of names) (lines_of_steps R)
        ≡ map (bytes_of names) (lines_of_steps P) ++ lines

steps_found : (names : Names) (lines : List (List ℕ)) (P R : List Step)
    → AreLines names (lines_of_steps P) → steps_in names P lines ≡ Some R
    → IsRead names P lines R
steps_found names [] P R whole h =
    let same : P ≡ R = cc in
    subst (λ (S : List Step). IsRead names P [] S) same (record {
      whole = whole;
      spelled = sym (append-nil (map (bytes_of names) (lines_of_steps P)));
    })
steps_found names (bytes ∷ lines) P R whole h =
    let put = bind_some (put_bytes names P bytes) _ R h in
    let is = put_found names P bytes put.0 put.1 in
    let all : AreLines names (lines_of_steps put.0) =
    subst (AreLines names) (sym is.lines)
    (lines-append names (lines_of_steps P) (is.line ∷ []) whole (is.is, tt))
    in
    let rest = steps_found names lines put.0 R all put.2 in
    let front = map (bytes_of names) (lines_of_steps P) in
    let more : map (bytes_of names) (lines_of_steps put.0) ≡ front ++ bytes ∷ [] =
    ap (map (bytes_of names)) is.lines
    ∙ map-append (bytes_of names) (lines_of_steps P) (is.line ∷ [])
    ∙ ap (λ (b : List ℕ). front ++ b ∷ []) (sym is.spelled)
    in
    record {
      whole = rest.whole;
      spelled =
          rest.spelled ∙ ap (λ (xs : List (List ℕ)). xs ++ lines) more
          ∙ append_assoc front (bytes ∷ []) lines;
    }

-- ---- what is spelled is read

put_again : (names : Names) (P : List Step) (line : Line) → AreNames names → IsLine names line
    → put_bytes names P (bytes_of names line) ≡ put_line P line
unfolding put_bytes
put_again names P line are is =
    ap (λ (o : Option Line). o >>= put_line P) (line_again names line are is)

-- the first of several lines was put, or not
after_put : (names : Names) (xs ys : List (List ℕ)) (first : Option (List Step))
    → ((Q : List Step) → steps_in names Q (xs ++ ys)
    ≡ (steps_in names Q xs >>= λ R. steps_in names R ys))
    → (first >>= λ Q. steps_in names Q (xs ++ ys))
    ≡ ((first >>= λ Q. steps_in names Q xs) >>= λ R. steps_in names R ys)
after_put names xs ys None each = refl
after_put names xs ys (Some Q) each = each Q

-- lines behind others are put on what these make
pub steps_in-append : (names : Names) (xs ys : List (List ℕ)) (P : List Step)
    → steps_in names P (xs ++ ys) ≡ (steps_in names P xs >>= λ Q. steps_in names Q ys)
steps_in-append names [] ys P = refl
steps_in-append names (x ∷ xs) ys P =
    after_put names xs ys (put_bytes names P x) (λ Q. steps_in-append names xs ys Q)

effects_again : (names : Names) (P : List Step) (by : By) (head : Head) (effects done : List Effect)
    → AreNames names → AreLines names (map Happened effects)
    → steps_in names (record { by = by; head = head; effects = done } ∷ P)
    (map (bytes_of names) (map Happened effects))
    ≡ Some (record { by = by; head = head; effects = done ++ effects } ∷ P)
effects_again names P by head [] done are whole =
    ap (λ (es : List Effect). Some (record { by = by; head = head; effects = es } ∷ P))
    (sym (append-nil done))
effects_again names P by head (e ∷ effects) done are whole =
    let s : Step = record { by = by; head = head; effects = done } in
    let put = put_again names (s ∷ P) (Happened e) are whole.0 in
    let rest = map (bytes_of names) (map Happened effects) in
    let others = effects_again names P by head effects (done ++ e ∷ []) are whole.1 in
    ap (λ (o : Option (List Step)). o >>= λ Q. steps_in names Q rest) put ∙ others
    ∙ ap (λ (es : List Effect). Some (record { by = by; head = head; effects = es } ∷ P))
    (append_assoc done (e ∷ []) effects)

step_again : (names : Names) (P : List Step) (s : Step) → AreNames names
    → AreLines names (step_lines (suc (length P)) s)
    → steps_in names P (map (bytes_of names) (step_lines (suc (length P)) s)) ≡ Some (s ∷ P)
step_again names P s are whole =
    let line = Made (suc (length P)) s.by s.head in
    let begun : Step = record { by = s.by; head = s.head; effects = [] } in
    let next : (suc (length P) == suc (length P)) ≡ true = eq-eqb _ _ refl in
    let put =
    put_again names P line are whole.0 ∙ cond-true _ (Some (begun ∷ P)) None next
    in
    let rest = map (bytes_of names) (map Happened s.effects) in
    ap (λ (o : Option (List Step)). o >>= λ Q. steps_in names Q rest) put
    ∙ effects_again names P s.by s.head s.effects [] are whole.1

front_lines : (names : Names) (xs ys : List Line) → AreLines names (xs ++ ys) → AreLines names xs
front_lines names [] ys whole = tt
front_lines names (x ∷ xs) ys whole = (whole.0, front_lines names xs ys whole.1)

pub back_lines : (names : Names) (xs ys : List Line) → AreLines names (xs ++ ys) → AreLines names ys
back_lines names [] ys whole = whole
back_lines names (x ∷ xs) ys whole = back_lines names xs ys whole.1

pub steps_again : (names : Names) (P : List Step) → AreNames names
    → AreLines names (lines_of_steps P)
    → steps_in names [] (map (bytes_of names) (lines_of_steps P)) ≡ Some P
steps_again names [] are whole = refl
steps_again names (s ∷ P) are whole =
    let front = lines_of_steps P in
    let last = step_lines (suc (length P)) s in
    let before = map (bytes_of names) front in
    let behind_it = map (bytes_of names) last in
    ap (steps_in names []) (map-append (bytes_of names) front last)
    ∙ steps_in-append names before behind_it []
    ∙ ap (λ (o : Option (List Step)). o >>= λ Q. steps_in names Q behind_it)
    (steps_again names P are (front_lines names front last whole))
    ∙ step_again names P s are (back_lines names front last whole)

pub steps_exact_again : (names : Names) (P : List Step) (lines : List (List ℕ)) → AreNames names
    → SpellSteps names P lines → steps_in names [] lines ≡ Some P
steps_exact_again names P lines are s =
    ap (steps_in names []) s.spelled ∙ steps_again names P are s.whole

pub steps_exact_found : (names : Names) (P : List Step) (lines : List (List ℕ))
    → steps_in names [] lines ≡ Some P → SpellSteps names P lines
steps_exact_found names P lines h =
    let is = steps_found names lines [] P tt h in
    record { whole = is.whole; spelled = sym is.spelled }
