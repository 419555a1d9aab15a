-- A text of a run is read with the names that it spells.
use Rattle.std.proofs.Common.{◌≡◌, ℕ, ◌≤◌, true, cond, List, [], ◌∷◌, ◌++◌, length}
use Rattle.std.proofs.Common.{map, refl, sym, ap, ◌∙◌, subst, Option, Some, None, Result, arith}
use Rattle.std.proofs.Common.{IsSomeAnd, append_assoc, is_some, option_map, decimal}
use Rattle.std.specs.List.{list_all}
use Rattle.std.specs.Result.{result_ok}
use Rattle.std.proofs.lemmas.List.{length-map}
use Rattle.linx_base.specs.NameText.{is_name}
use Rattle.linx_base.specs.declared.name.Names.{Names}
use Rattle.journal.specs.declared.effect.Step.{Step}
use Rattle.journal_text.specs.Text.{text_of}
use Rattle.journal_text.specs.Values.{link_text, node_text}
use Rattle.journal_words.specs.declared.lines.Line.{Line}
use Rattle.text_words.specs.Words.{parts_at}
use Rattle.text_words.specs.Gives.{◌>>=◌}
use Rattle.text_names.specs.declared.told_names.Numbered.{Numbered}
use Rattle.text_names.specs.declared.told_names.Told.{Told}
use Rattle.text_names.specs.FirstWords.{Words, first_words}
use Rattle.text_names.specs.Naming.{link_named, node_named}
use Rattle.text_names.specs.Numbering.{names_in, numbered_names, step_lines}
use Rattle.text_names.specs.OtherNames.{no_names, other_front, other_line, other_lines}
use Rattle.text_names.specs.OtherNames.{with_if_named}
use Rattle.text_names.specs.ToldNames.{nothing_told, told_lines}
use Rattle.reading_laws.specs.Forms.{AreNames}
use Rattle.reading_laws.proofs.NameLaws.{link_is_name, node_is_name}
use Rattle.journal_read.specs.Printed.{PrintedIsRead, read_step}
use Rattle.journal_read.specs.Reading.{read_in}
use Rattle.journal_read.specs.Spelled.{AreLines, AreLogLines, SpellsLines, SpellsText, TextsAreRead}
use Rattle.journal_read.specs.Spelled.{bytes_of, heading_line, lines_of_steps, text_of_lines}
use Rattle.journal_read.proofs.TextLaws.{after_again, spelled_parts}
use Rattle.text_alone.specs.Laws.{AreFew, RunsAreReadAlone}
use Rattle.text_alone.proofs.Differing.{among_are_names, are_fewer}
use Rattle.text_alone.proofs.FirstWordLaws.{IsLinkOf, IsNodeOf, line_tells, link_in_line, link_of}
use Rattle.text_alone.proofs.FirstWordLaws.{node_in_line, node_of}
use Rattle.text_alone.proofs.NumberingLaws.{IsNamed, are_all_names, are_not_many, covered_there}
use Rattle.text_alone.proofs.NumberingLaws.{has_named, is_named}
use Rattle.text_alone.proofs.OtherLaws.{AllAmong, AllCovered, AreOthers, IsAmong, IsCovered}
use Rattle.text_alone.proofs.OtherLaws.{all_covered, grown, others_grown}
use Rattle.text_alone.proofs.Renaming.{HasLink, HasNode, HaveAll, step_as, steps_are, steps_same}
use Rattle.text_alone.proofs.ToldLaws.{AreTold, links_told, nodes_told}

-- ---- the others of lines, kind by kind

nodes_grown : (told : Told) (others : Names) (lines : List (List ℕ))
    → (other_lines told others lines).nodes
    ≡ grown told.nodes others.nodes (map node_in_line lines)
nodes_grown told others [] = refl
nodes_grown told others (line ∷ lines) =
    nodes_grown told (other_line told others line) lines
    ∙ ap (λ (ns : List (List ℕ)). grown told.nodes ns (map node_in_line lines))
    (go (first_words line))
  where
    go : (ws : Option Words)
        → (other_front told others ws).nodes
        ≡ with_if_named told.nodes others.nodes (ws >>= node_named)
    go None = refl
    go (Some ws) = refl

links_grown : (told : Told) (others : Names) (lines : List (List ℕ))
    → (other_lines told others lines).links
    ≡ grown told.links others.links (map link_in_line lines)
links_grown told others [] = refl
links_grown told others (line ∷ lines) =
    links_grown told (other_line told others line) lines
    ∙ ap (λ (ns : List (List ℕ)). grown told.links ns (map link_in_line lines))
    (go (first_words line))
  where
    go : (ws : Option Words)
        → (other_front told others ws).links
        ≡ with_if_named told.links others.links (ws >>= link_named)
    go None = refl
    go (Some ws) = refl

-- ---- one kind of names

-- a name of a line, if it has one, is named among these
abbrev IsIn : List (List ℕ) → Option (List ℕ) → Type 0
IsIn found None = Unit {0}
IsIn found (Some w) = IsNamed found w

abbrev AreIn : List (List ℕ) → List (Option (List ℕ)) → Type 0
AreIn found [] = Unit {0}
AreIn found (o ∷ os) = IsIn found o × AreIn found os

-- the names that were found: they are names, and those of all lines are among them
record Finds (found : List (List ℕ)) (os : List (Option (List ℕ))) : Type 0 where
  all : list_all is_name found ≡ true
  are_in : AreIn found os

module _ (told : List Numbered) (names : List (List ℕ)) (os : List (Option (List ℕ)))
    (are : AreTold told) (few : length names ≤ 64) (named : list_all is_name names ≡ true)
    (among : AllAmong names os) where
  abbrev others : List (List ℕ)
  others = grown told [] os

  are_others : AreOthers names others
  are_others = others_grown told names [] os (record { differ = tt; among = tt }) among

  few_others : length others ≤ 64
  few_others =
      let fewer = are_fewer others names are_others.differ are_others.among in
      omega (arith, fewer, few)

  one_in : (o : Option (List ℕ)) → IsCovered told others o → IsIn (numbered_names told others) o
  one_in None covered = tt
  one_in (Some w) covered =
      let few_found = are_not_many told others are few_others in
      is_named (numbered_names told others) w (covered_there told others are w covered) few_found

  all_in : (some : List (Option (List ℕ))) → AllCovered told others some
      → AreIn (numbered_names told others) some
  all_in [] covered = tt
  all_in (o ∷ some) covered = (one_in o covered.0, all_in some covered.1)

  finds : Finds (numbered_names told others) os
  finds = record {
    all =
        are_all_names told others are
        (among_are_names others names are_others.among named);
    are_in =
        all_in os (all_covered told names [] os (record { differ = tt; among = tt }) few among);
  }

-- ---- both kinds

-- what the lines of a text name
record FindsAll (names found : Names) (lines : List (List ℕ)) : Type 0 where
  are : AreNames found
  nodes : AreIn found.nodes (map node_in_line lines)
  links : AreIn found.links (map link_in_line lines)

found_in : (names : Names) (text : List ℕ) (lines : List (List ℕ)) → AreNames names
    → AreFew names → step_lines (parts_at 10 text) ≡ lines
    → AllAmong names.nodes (map node_in_line lines)
    → AllAmong names.links (map link_in_line lines) → FindsAll names (names_in text) lines
unfolding names_in
found_in names text lines are few same nodes links =
    let told = told_lines nothing_told (parts_at 10 text) in
    let node_finds =
    finds told.nodes names.nodes (map node_in_line lines) (nodes_told (parts_at 10 text))
    few.nodes are.0 nodes
    in
    let link_finds =
    finds told.links names.links (map link_in_line lines) (links_told (parts_at 10 text))
    few.links are.1 links
    in
    let node_names : (names_in text).nodes
    ≡ numbered_names told.nodes (grown told.nodes [] (map node_in_line lines)) =
    ap (numbered_names told.nodes)
    (ap (λ (ls : List (List ℕ)). (other_lines told no_names ls).nodes) same
    ∙ nodes_grown told no_names lines)
    in
    let link_names : (names_in text).links
    ≡ numbered_names told.links (grown told.links [] (map link_in_line lines)) =
    ap (numbered_names told.links)
    (ap (λ (ls : List (List ℕ)). (other_lines told no_names ls).links) same
    ∙ links_grown told no_names lines)
    in
    record {
      are = (
        ap (list_all is_name) node_names ∙ node_finds.all,
        ap (list_all is_name) link_names ∙ link_finds.all,
      );
      nodes =
          subst (λ (ns : List (List ℕ)). AreIn ns (map node_in_line lines)) (sym node_names)
          node_finds.are_in;
      links =
          subst (λ (ns : List (List ℕ)). AreIn ns (map link_in_line lines)) (sym link_names)
          link_finds.are_in;
    }

-- ---- the lines of steps

-- a line without a byte has no word
no_words : first_words [] ≡ None
unfolding first_words
no_words = refl

module _ (names : Names) (are : AreNames names) where
  node_among : (n : Option ℕ) → IsNodeOf names n
      → IsAmong names.nodes (option_map (node_text names) n)
  node_among None is = tt
  node_among (Some n) is =
      (has_named names.nodes (node_text names n) n is, node_is_name names n are is)

  link_among : (l : Option ℕ) → IsLinkOf names l
      → IsAmong names.links (option_map (link_text names) l)
  link_among None is = tt
  link_among (Some l) is =
      (has_named names.links (link_text names l) l is, link_is_name names l are is)

  -- the lines of steps, and an empty one behind them
  abbrev behind : List Line → List (List ℕ)
  behind lines = map (bytes_of names) lines ++ [] ∷ []

  nodes_among : (lines : List Line) → AreLines names lines
      → AllAmong names.nodes (map node_in_line (behind lines))
  nodes_among [] is = (
    subst (IsAmong names.nodes) (sym (ap (λ (o : Option Words). o >>= node_named) no_words)) tt,
    tt,
  )
  nodes_among (line ∷ lines) is =
      let tells = line_tells names are line is.0 in (
        subst (IsAmong names.nodes) (sym tells.node) (node_among (node_of line) tells.is_node),
        nodes_among lines is.1,
      )

  links_among : (lines : List Line) → AreLines names lines
      → AllAmong names.links (map link_in_line (behind lines))
  links_among [] is = (
    subst (IsAmong names.links) (sym (ap (λ (o : Option Words). o >>= link_named) no_words)) tt,
    tt,
  )
  links_among (line ∷ lines) is =
      let tells = line_tells names are line is.0 in (
        subst (IsAmong names.links) (sym tells.link) (link_among (link_of line) tells.is_link),
        links_among lines is.1,
      )

  has_node : (found : Names) (n : Option ℕ) → IsIn found.nodes (option_map (node_text names) n)
      → HasNode names found n
  has_node found None is = tt
  has_node found (Some n) is = is

  has_link : (found : Names) (l : Option ℕ) → IsIn found.links (option_map (link_text names) l)
      → HasLink names found l
  has_link found None is = tt
  has_link found (Some l) is = is

  have_all : (found : Names) (lines : List Line) → AreLines names lines
      → AreIn found.nodes (map node_in_line (behind lines))
      → AreIn found.links (map link_in_line (behind lines)) → HaveAll names found lines
  have_all found [] is nodes links = tt
  have_all found (line ∷ lines) is nodes links =
      let tells = line_tells names are line is.0 in (
        (
          has_node found (node_of line) (subst (IsIn found.nodes) tells.node nodes.0),
          has_link found (link_of line) (subst (IsIn found.links) tells.link links.0),
        ),
        have_all found lines is.1 nodes.1 links.1,
      )

-- what stands behind the line that announces steps
behind_logs : (logs rest : List (List ℕ)) (count : ℕ) → AreLogLines logs
    → step_lines (logs ++ heading_line count ∷ rest) ≡ rest
behind_logs [] rest count are =
    ap (λ (o : Option (List ℕ)). cond (is_some o) rest (step_lines rest))
    (after_again (decimal count))
behind_logs (line ∷ logs) rest count are =
    ap (λ (o : Option (List ℕ)).
    cond (is_some o) (logs ++ heading_line count ∷ rest)
    (step_lines (logs ++ heading_line count ∷ rest))) are.0.no_heading
    ∙ behind_logs logs rest count are.1

-- ---- the text of a run

-- the steps that are read, if they are read
abbrev ReadsSame : Names → Names → List Step → List ℕ → Type 0
ReadsSame names found P text =
    IsSomeAnd (result_ok (read_in found text)) (λ Q.
    map (bytes_of found) (lines_of_steps Q) ≡ map (bytes_of names) (lines_of_steps P))

reads_same : (names found : Names) (P Q : List Step) (text : List ℕ)
    → result_ok (read_in found text) ≡ Some Q
    → map (bytes_of found) (lines_of_steps Q) ≡ map (bytes_of names) (lines_of_steps P)
    → ReadsSame names found P text
reads_same names found P Q text read same =
    subst (λ (o : Option (List Step)). IsSomeAnd o (λ R.
    map (bytes_of found) (lines_of_steps R) ≡ map (bytes_of names) (lines_of_steps P)))
    (sym read) same

module _ (texts : TextsAreRead) (names : Names) (are : AreNames names) (few : AreFew names) where
  no_steps_alone : (text : List ℕ) → text ≡ [] → ReadsSame names (names_in text) [] text
  no_steps_alone text none =
      let lines : step_lines (parts_at 10 text) ≡ [] =
      ap (λ (t : List ℕ). step_lines (parts_at 10 t)) none
      in
      let found = found_in names text [] are few lines tt tt in
      reads_same names (names_in text) [] [] text
      ((texts (names_in text) found.are).again [] text none) refl

  steps_alone : (s : Step) (P : List Step) (text : List ℕ) → SpellsLines names (s ∷ P) text
      → ReadsSame names (names_in text) (s ∷ P) text
  steps_alone s P text spells =
      let lines = lines_of_steps (s ∷ P) in
      let steps = map (bytes_of names) lines in
      let count = length (s ∷ P) in
      let all : step_lines (parts_at 10 text) ≡ behind names are lines =
      ap step_lines
      (spelled_parts names s P text are spells
      ∙ append_assoc spells.logs (heading_line count ∷ steps) ([] ∷ []))
      ∙ behind_logs spells.logs (behind names are lines) count spells.are_logs
      in
      let found =
      found_in names text (behind names are lines) are few all
      (nodes_among names are lines spells.whole) (links_among names are lines spells.whole)
      in
      let M = names_in text in
      let have = have_all names are M lines spells.whole found.nodes found.links in
      let Q = map (step_as names M) (s ∷ P) in
      let same = steps_same names M (s ∷ P) have in
      let size : length (s ∷ P) ≡ length Q = sym (length-map (s ∷ P) (step_as names M)) in
      let spelled : text ≡ text_of_lines
      (spells.logs ++ heading_line (length Q) ∷ map (bytes_of M) (lines_of_steps Q)) =
      spells.spelled
      ∙ ap (λ (n : ℕ). text_of_lines (spells.logs ++ heading_line n ∷ steps)) size
      ∙ ap (λ (ls : List (List ℕ)). text_of_lines (spells.logs ++ heading_line (length Q) ∷ ls))
      (sym same)
      in
      reads_same names M (s ∷ P) Q text
      ((texts M found.are).again Q text (record {
        logs = spells.logs;
        are_logs = spells.are_logs;
        whole = steps_are names M (s ∷ P) spells.whole have;
        spelled = spelled;
      })) same

  alone : (P : List Step) (text : List ℕ) → SpellsText names P text
      → ReadsSame names (names_in text) P text
  alone [] text spells = no_steps_alone text spells
  alone (s ∷ P) text spells = steps_alone s P text spells

pub runs_are_read_alone : PrintedIsRead → TextsAreRead → RunsAreReadAlone
runs_are_read_alone printed texts log are few fit =
    let P = map read_step log.steps in
    let text = text_of log in
    let read = ap (λ (r : Result (List Step) ℕ). result_ok r) (printed log are fit) in
    alone texts log.names are few P text ((texts log.names are).found P text read)
