-- Steps with the numbers that nodes and links have among other names.
use Rattle.std.proofs.Common.{◌≡◌, ℕ, suc, List, [], ◌∷◌, ◌++◌, length, map, refl, sym, ap, ◌∙◌}
use Rattle.std.proofs.Common.{subst, Option, Some, None, codes, decimal}
use Rattle.std.proofs.lemmas.List.{length-map, map-append}
use Rattle.linx_base.specs.declared.identity.Peer.{Peer}
use Rattle.linx_base.specs.declared.identity.Peer.TheVariants.{Here, There}
use Rattle.linx_base.specs.declared.name.Names.{Names}
use Rattle.linx_base.specs.declared.name.Path.{Path}
use Rattle.linx_base.specs.declared.name.Path.TheVariants.{Local, Over}
use Rattle.journal.specs.declared.effect.Effect.{Effect}
use Rattle.journal.specs.declared.effect.Effect.TheVariants as effects
use Rattle.journal.specs.declared.effect.Step.{Step}
use Rattle.journal.specs.declared.head.Head.{Head}
use Rattle.journal.specs.declared.head.Head.TheVariants as heads
use Rattle.journal_text.specs.Values.{data_text}
use Rattle.journal_text.specs.Values.{halves_text, link_text, maker_text, node_text, path_text}
use Rattle.journal_text.specs.Values.{peer_text, reason_text, reference_text, sent_text, side_text}
use Rattle.journal_text.specs.Values.{verdict_text}
use Rattle.journal_words.specs.declared.lines.Line.{Line}
use Rattle.journal_words.specs.declared.lines.Line.TheVariants.{Made, Happened}
use Rattle.reading_laws.specs.Forms.{IsEffect, IsHead, IsLine, IsLink, IsNode, IsPath, IsPeer, printed}
use Rattle.reading_laws.specs.Spelled.{effect_words, head_words, line_of}
use Rattle.reading_laws.specs.Spelled.{signal_words}
use Rattle.reading_laws.proofs.NameLaws.{link_found, node_found}
use Rattle.journal_read.specs.Spelled.{AreLines, bytes_of, lines_of_steps, step_lines}
use Rattle.text_alone.proofs.FirstWordLaws.{link_of, link_of_effect, link_of_head, link_of_path}
use Rattle.text_alone.proofs.FirstWordLaws.{link_of_peer, node_of, node_of_effect, node_of_head}
use Rattle.text_alone.proofs.NumberingLaws.{IsNamed, number_of}

-- names, and others that have the same among them
module _ (names others : Names) where
  -- the numbers there
  abbrev pub node_as : ℕ → ℕ
  node_as n = number_of others.nodes (node_text names n)

  abbrev pub link_as : ℕ → ℕ
  link_as l = number_of others.links (link_text names l)

  -- a node or a link that is named there, if there is one
  abbrev pub HasNode : Option ℕ → Type 0
  HasNode None = Unit {0}
  HasNode (Some n) = IsNamed others.nodes (node_text names n)

  abbrev pub HasLink : Option ℕ → Type 0
  HasLink None = Unit {0}
  HasLink (Some l) = IsNamed others.links (link_text names l)

  node_same : (n : ℕ) → HasNode (Some n) → node_text others (node_as n) ≡ node_text names n
  node_same n has = sym (node_found others (node_text names n) (node_as n) has).0

  node_is : (n : ℕ) → HasNode (Some n) → IsNode others (node_as n)
  node_is n has = (node_found others (node_text names n) (node_as n) has).1

  link_same : (l : ℕ) → HasLink (Some l) → link_text others (link_as l) ≡ link_text names l
  link_same l has = sym (link_found others (link_text names l) (link_as l) has).0

  link_is : (l : ℕ) → HasLink (Some l) → IsLink others (link_as l)
  link_is l has = (link_found others (link_text names l) (link_as l) has).1

  -- ---- peers and paths

  abbrev peer_as : Peer → Peer
  peer_as (Here inc) = Here inc
  peer_as (There link session inc) = There (record { 0 = link_as link.0 }) session inc

  peer_same : (peer : Peer) → HasLink (link_of_peer peer)
      → peer_text others (peer_as peer) ≡ peer_text names peer
  unfolding peer_text
  peer_same (Here inc) has = refl
  peer_same (There link session inc) has =
      ap (λ (name : List ℕ). name ++ codes ":" ++ halves_text session.0 ++ codes ":"
      ++ halves_text inc.0) (link_same link.0 has)

  peer_is : (peer : Peer) → IsPeer names peer → HasLink (link_of_peer peer)
      → IsPeer others (peer_as peer)
  peer_is (Here inc) is has = is
  peer_is (There link session inc) is has = (link_is link.0 has, is.1, is.2)

  abbrev path_as : Path → Path
  path_as (Local name) = Local name
  path_as (Over link name) = Over (record { 0 = link_as link.0 }) name

  path_same : (path : Path) → HasLink (link_of_path path)
      → path_text others (path_as path) ≡ path_text names path
  unfolding path_text
  path_same (Local name) has = refl
  path_same (Over link name) has =
      ap (λ (front : List ℕ). front ++ codes "/" ++ name) (link_same link.0 has)

  path_is : (path : Path) → IsPath names path → HasLink (link_of_path path)
      → IsPath others (path_as path)
  path_is (Local name) is has = is
  path_is (Over link name) is has = (link_is link.0 has, is.1)

  -- ---- heads

  abbrev head_as : Head → Head
  head_as (heads.Send peer note answer) = heads.Send (peer_as peer) note answer
  head_as (heads.Hunt path note) = heads.Hunt (path_as path) note
  head_as (heads.Attach peer note) = heads.Attach (peer_as peer) note
  head_as (heads.Cut link) = heads.Cut (record { 0 = link_as link.0 })
  head_as (heads.Mend link) = heads.Mend (record { 0 = link_as link.0 })
  head_as (heads.Settle link) = heads.Settle (record { 0 = link_as link.0 })
  head_as (heads.Restart node) = heads.Restart (record { 0 = node_as node.0 })
  head_as (heads.Wire link side verdict) =
      heads.Wire (record { 0 = link_as link.0 }) side verdict
  head_as (heads.Tick link side) = heads.Tick (record { 0 = link_as link.0 }) side
  head_as head = head

  head_same : (head : Head) → HasNode (node_of_head head) → HasLink (link_of_head head)
      → head_words printed others (head_as head) ≡ head_words printed names head
  unfolding head_words
  head_same (heads.Open name) node link = refl
  head_same heads.Close node link = refl
  head_same (heads.Send peer note answer) node link =
      ap (λ (w : List ℕ). codes "send" ∷ w ∷ decimal note.number
      ∷ data_text printed note.bytes ∷ sent_text answer ∷ []) (peer_same peer link)
  head_same (heads.Take filter at) node link = refl
  head_same (heads.TakeNone filter) node link = refl
  head_same (heads.Waits filter) node link = refl
  head_same (heads.Hunt path note) node link =
      ap (λ (w : List ℕ). codes "hunt" ∷ w ∷ signal_words printed note) (path_same path link)
  head_same (heads.Attach peer note) node link =
      ap (λ (w : List ℕ). codes "attach" ∷ w ∷ signal_words printed note) (peer_same peer link)
  head_same (heads.Detach reference answer) node link = refl
  head_same (heads.Cut l) node link = ap (λ (w : List ℕ). codes "cut" ∷ w ∷ []) (link_same l.0 link)
  head_same (heads.Mend l) node link =
      ap (λ (w : List ℕ). codes "mend" ∷ w ∷ []) (link_same l.0 link)
  head_same (heads.Settle l) node link =
      ap (λ (w : List ℕ). codes "settle" ∷ w ∷ []) (link_same l.0 link)
  head_same (heads.Restart n) node link =
      ap (λ (w : List ℕ). codes "restart" ∷ w ∷ []) (node_same n.0 node)
  head_same (heads.Wire l side verdict) node link =
      ap (λ (w : List ℕ). codes "wire" ∷ w ∷ side_text side ∷ verdict_text verdict ∷ [])
      (link_same l.0 link)
  head_same (heads.Tick l side) node link =
      ap (λ (w : List ℕ). codes "tick" ∷ w ∷ side_text side ∷ []) (link_same l.0 link)
  head_same (heads.Refused reason) node link = refl
  head_same heads.Ended node link = refl

  head_is : (head : Head) → IsHead names head → HasNode (node_of_head head)
      → HasLink (link_of_head head) → IsHead others (head_as head)
  head_is (heads.Open name) is node link = is
  head_is heads.Close is node link = tt
  head_is (heads.Send peer note answer) is node link = (peer_is peer is.0 link, is.1)
  head_is (heads.Take filter at) is node link = is
  head_is (heads.TakeNone filter) is node link = is
  head_is (heads.Waits filter) is node link = is
  head_is (heads.Hunt path note) is node link = (path_is path is.0 link, is.1)
  head_is (heads.Attach peer note) is node link = (peer_is peer is.0 link, is.1)
  head_is (heads.Detach reference answer) is node link = is
  head_is (heads.Cut l) is node link = link_is l.0 link
  head_is (heads.Mend l) is node link = link_is l.0 link
  head_is (heads.Settle l) is node link = link_is l.0 link
  head_is (heads.Restart n) is node link = node_is n.0 node
  head_is (heads.Wire l side verdict) is node link = (link_is l.0 link, is.1)
  head_is (heads.Tick l side) is node link = link_is l.0 link
  head_is (heads.Refused reason) is node link = is
  head_is heads.Ended is node link = tt

  -- ---- effects

  abbrev effect_as : Effect → Effect
  effect_as (effects.Opened inc) = effects.Opened inc
  effect_as (effects.Closed inc) = effects.Closed inc
  effect_as (effects.Arrived inc peer note) = effects.Arrived inc (peer_as peer) note
  effect_as (effects.Found inc peer note hunt) = effects.Found inc (peer_as peer) note hunt
  effect_as (effects.Notified inc peer note reference reason) =
      effects.Notified inc (peer_as peer) note reference reason
  effect_as (effects.Met n peer name) =
      effects.Met (record { 0 = node_as n.0 }) (peer_as peer) name
  effect_as (effects.Gone n peer) = effects.Gone (record { 0 = node_as n.0 }) (peer_as peer)
  effect_as (effects.Up n l session other) =
      effects.Up (record { 0 = node_as n.0 }) (record { 0 = link_as l.0 }) session other
  effect_as (effects.Down n l session) =
      effects.Down (record { 0 = node_as n.0 }) (record { 0 = link_as l.0 }) session

  effect_same : (effect : Effect) → HasNode (node_of_effect effect)
      → HasLink (link_of_effect effect)
      → effect_words printed others (effect_as effect) ≡ effect_words printed names effect
  unfolding effect_words
  effect_same (effects.Opened inc) node link = refl
  effect_same (effects.Closed inc) node link = refl
  effect_same (effects.Arrived inc peer note) node link =
      ap (λ (w : List ℕ). codes "arrived" ∷ halves_text inc.0 ∷ w ∷ signal_words printed note)
      (peer_same peer link)
  effect_same (effects.Found inc peer note hunt) node link =
      ap (λ (w : List ℕ). codes "found" ∷ halves_text inc.0 ∷ w ∷ decimal note.number
      ∷ data_text printed note.bytes ∷ reference_text hunt ∷ []) (peer_same peer link)
  effect_same (effects.Notified inc peer note reference reason) node link =
      ap (λ (w : List ℕ). codes "notified" ∷ halves_text inc.0 ∷ w ∷ decimal note.number
      ∷ data_text printed note.bytes ∷ reference_text reference.0 ∷ reason_text reason ∷ [])
      (peer_same peer link)
  effect_same (effects.Met n peer name) node link =
      ap (λ (v : List ℕ). codes "met" ∷ v ∷ peer_text others (peer_as peer) ∷ name ∷ [])
      (node_same n.0 node)
      ∙ ap (λ (w : List ℕ). codes "met" ∷ node_text names n.0 ∷ w ∷ name ∷ []) (peer_same peer link)
  effect_same (effects.Gone n peer) node link =
      ap (λ (v : List ℕ). codes "gone" ∷ v ∷ peer_text others (peer_as peer) ∷ [])
      (node_same n.0 node)
      ∙ ap (λ (w : List ℕ). codes "gone" ∷ node_text names n.0 ∷ w ∷ []) (peer_same peer link)
  effect_same (effects.Up n l session other) node link =
      ap (λ (v : List ℕ). codes "up" ∷ v ∷ link_text others (link_as l.0)
      ∷ halves_text session.0 ∷ halves_text other.0 ∷ []) (node_same n.0 node)
      ∙ ap (λ (w : List ℕ). codes "up" ∷ node_text names n.0 ∷ w ∷ halves_text session.0
      ∷ halves_text other.0 ∷ []) (link_same l.0 link)
  effect_same (effects.Down n l session) node link =
      ap (λ (v : List ℕ). codes "down" ∷ v ∷ link_text others (link_as l.0)
      ∷ halves_text session.0 ∷ []) (node_same n.0 node)
      ∙ ap (λ (w : List ℕ). codes "down" ∷ node_text names n.0 ∷ w ∷ halves_text session.0 ∷ [])
      (link_same l.0 link)

  effect_is : (effect : Effect) → IsEffect names effect → HasNode (node_of_effect effect)
      → HasLink (link_of_effect effect) → IsEffect others (effect_as effect)
  effect_is (effects.Opened inc) is node link = is
  effect_is (effects.Closed inc) is node link = is
  effect_is (effects.Arrived inc peer note) is node link = (is.0, peer_is peer is.1 link, is.2)
  effect_is (effects.Found inc peer note hunt) is node link =
      (is.0, peer_is peer is.1 link, is.2, is.3)
  effect_is (effects.Notified inc peer note reference reason) is node link =
      (is.0, peer_is peer is.1 link, is.2, is.3)
  effect_is (effects.Met n peer name) is node link =
      (node_is n.0 node, peer_is peer is.1 link, is.2)
  effect_is (effects.Gone n peer) is node link = (node_is n.0 node, peer_is peer is.1 link)
  effect_is (effects.Up n l session other) is node link =
      (node_is n.0 node, link_is l.0 link, is.2, is.3)
  effect_is (effects.Down n l session) is node link = (node_is n.0 node, link_is l.0 link, is.2)

  -- ---- lines and steps

  abbrev line_as : Line → Line
  line_as (Made position by head) = Made position by (head_as head)
  line_as (Happened effect) = Happened (effect_as effect)

  line_same : (line : Line) → HasNode (node_of line) → HasLink (link_of line)
      → bytes_of others (line_as line) ≡ bytes_of names line
  line_same (Made position by head) node link =
      ap (λ (ws : List (List ℕ)). line_of (decimal position ∷ maker_text by ∷ ws))
      (head_same head node link)
  line_same (Happened effect) node link =
      ap (λ (ws : List (List ℕ)). line_of (codes "+" ∷ ws)) (effect_same effect node link)

  line_is : (line : Line) → IsLine names line → HasNode (node_of line) → HasLink (link_of line)
      → IsLine others (line_as line)
  line_is (Made position by head) is node link = (is.0, is.1, head_is head is.2 node link)
  line_is (Happened effect) is node link = effect_is effect is node link

  -- all that lines name is named there
  abbrev pub HaveAll : List Line → Type 0
  HaveAll [] = Unit {0}
  HaveAll (line ∷ lines) = (HasNode (node_of line) × HasLink (link_of line)) × HaveAll lines

  lines_same : (lines : List Line) → HaveAll lines
      → map (bytes_of others) (map line_as lines) ≡ map (bytes_of names) lines
  lines_same [] have = refl
  lines_same (line ∷ lines) have =
      ap (λ (b : List ℕ). b ∷ map (bytes_of others) (map line_as lines))
      (line_same line have.0.0 have.0.1)
      ∙ ap (λ (bs : List (List ℕ)). bytes_of names line ∷ bs) (lines_same lines have.1)

  lines_are : (lines : List Line) → AreLines names lines → HaveAll lines
      → AreLines others (map line_as lines)
  lines_are [] are have = tt
  lines_are (line ∷ lines) are have =
      (line_is line are.0 have.0.0 have.0.1, lines_are lines are.1 have.1)

  abbrev pub step_as : Step → Step
  step_as s = record { by = s.by; head = head_as s.head; effects = map effect_as s.effects }

  effects_as : (es : List Effect)
      → map Happened (map effect_as es) ≡ map line_as (map Happened es)
  effects_as [] = refl
  effects_as (e ∷ es) = ap (λ (ls : List Line). Happened (effect_as e) ∷ ls) (effects_as es)

  pub steps_as : (P : List Step)
      → lines_of_steps (map step_as P) ≡ map line_as (lines_of_steps P)
  steps_as [] = refl
  steps_as (s ∷ P) =
      let front = lines_of_steps P in
      let position = suc (length P) in
      ap (λ (n : ℕ). lines_of_steps (map step_as P) ++ step_lines (suc n) (step_as s))
      (length-map P step_as)
      ∙ ap (λ (ls : List Line). ls ++ step_lines position (step_as s)) (steps_as P)
      ∙ ap (λ (ls : List Line). map line_as front ++ Made position s.by (head_as s.head) ∷ ls)
      (effects_as s.effects)
      ∙ sym (map-append line_as front (step_lines position s))

  pub steps_same : (P : List Step) → HaveAll (lines_of_steps P)
      → map (bytes_of others) (lines_of_steps (map step_as P))
      ≡ map (bytes_of names) (lines_of_steps P)
  steps_same P have =
      ap (map (bytes_of others)) (steps_as P) ∙ lines_same (lines_of_steps P) have

  pub steps_are : (P : List Step) → AreLines names (lines_of_steps P)
      → HaveAll (lines_of_steps P) → AreLines others (lines_of_steps (map step_as P))
  steps_are P are have =
      subst (AreLines others) (sym (steps_as P)) (lines_are (lines_of_steps P) are have)
