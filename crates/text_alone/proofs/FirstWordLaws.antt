-- The node and the link that the line of a step names.
use Rattle.std.proofs.Common.{◌≡◌, ℕ, ◌≤◌, true, false, cond, List, [], ◌∷◌, ◌++◌, refl, ap}
use Rattle.std.proofs.Common.{◌∙◌, Option, Some, None, codes, decimal, option_map, bytes_eq}
use Rattle.std.proofs.lemmas.Bool.{cond-false}
use Rattle.linx_base.specs.NameText.{is_name_byte}
use Rattle.linx_base.specs.declared.identity.Peer.{Peer}
use Rattle.linx_base.specs.declared.identity.Peer.TheVariants.{Here, There}
use Rattle.linx_base.specs.declared.name.Names.{Names}
use Rattle.linx_base.specs.declared.name.Path.{Path}
use Rattle.linx_base.specs.declared.name.Path.TheVariants.{Local, Over}
use Rattle.journal.specs.declared.by.By.{By}
use Rattle.journal.specs.declared.effect.Effect.{Effect}
use Rattle.journal.specs.declared.effect.Effect.TheVariants as effects
use Rattle.journal.specs.declared.head.Head.{Head}
use Rattle.journal.specs.declared.head.Head.TheVariants as heads
use Rattle.journal_text.specs.Values.{data_text}
use Rattle.journal_text.specs.Values.{detached_text, filter_text, halves_text, link_text, maker_text}
use Rattle.journal_text.specs.Values.{node_text, path_text, peer_text, position_text, reason_text}
use Rattle.journal_text.specs.Values.{reference_text, refusal_text, sent_text, side_text}
use Rattle.journal_text.specs.Values.{verdict_text}
use Rattle.journal_words.specs.declared.lines.Line.{Line}
use Rattle.journal_words.specs.declared.lines.Line.TheVariants.{Made, Happened}
use Rattle.text_words.specs.Gives.{◌>>=◌}
use Rattle.text_words.specs.Numbers.{whole_limit}
use Rattle.text_words.specs.Words.{cut_at}
use Rattle.text_names.specs.FirstWords.{Words, first_word, first_words, front_of}
use Rattle.text_names.specs.Naming.{is_link_effect, is_link_head, is_node_effect, is_peer_effect}
use Rattle.text_names.specs.Naming.{is_peer_head, link_at, link_before, link_by, link_named}
use Rattle.text_names.specs.Naming.{node_named}
use Rattle.reading_laws.specs.Forms.{AreNames, IsLine, IsLink, IsNode, IsPath, IsPeer, printed}
use Rattle.reading_laws.specs.Spelled.{effect_words, head_words, line_of, line_words}
use Rattle.reading_laws.proofs.Cuts.{cut_again, cut_nowhere, lacks, lacks-seam}
use Rattle.reading_laws.proofs.LineLaws.{no_plus, words_spaces}
use Rattle.reading_laws.proofs.NameLaws.{bytes_lack, bytes_of_name, halves_lack, link_is_name}
use Rattle.reading_laws.proofs.PeerLaws.{here_spelled, local_spelled, over_spelled, there_spelled}
use Rattle.reading_laws.proofs.Spaces.{HaveNoSpace, lacks_space}

-- ---- the first words of words

last_word : (d : List ℕ) (words : List (List ℕ)) → HaveNoSpace (d ∷ words)
    → first_word (line_of (d ∷ words)) ≡ d
last_word d [] none = ap (front_of d) (cut_nowhere 32 d (lacks_space d none.0))
last_word d (e ∷ words) none =
    let rest = line_of (e ∷ words) in
    ap (front_of (d ++ 32 ∷ rest)) (cut_again 32 d rest (lacks_space d none.0))

four_words : (a b c d : List ℕ) (words : List (List ℕ)) → HaveNoSpace (a ∷ b ∷ c ∷ d ∷ words)
    → first_words (line_of (a ∷ b ∷ c ∷ d ∷ words))
    ≡ Some (record { first = a; second = b; third = c; fourth = d })
unfolding first_words
four_words a b c d words none =
    let third = line_of (d ∷ words) in
    let second = line_of (c ∷ d ∷ words) in
    let first = line_of (b ∷ c ∷ d ∷ words) in
    let made : List ℕ → Option Words = λ (w : List ℕ).
    Some (record { first = a; second = b; third = c; fourth = w }) in
    ap (λ (o : Option (List ℕ × List ℕ)). o >>= λ x. cut_at 32 x.1 >>= λ y. cut_at 32 y.1 >>= λ z.
    Some (record { first = x.0; second = y.0; third = z.0; fourth = first_word z.1 }))
    (cut_again 32 a first (lacks_space a none.0))
    ∙ ap (λ (o : Option (List ℕ × List ℕ)). o >>= λ y. cut_at 32 y.1 >>= λ z.
    Some (record { first = a; second = y.0; third = z.0; fourth = first_word z.1 }))
    (cut_again 32 b second (lacks_space b none.1.0))
    ∙ ap (λ (o : Option (List ℕ × List ℕ)). o >>= λ z.
    Some (record { first = a; second = b; third = z.0; fourth = first_word z.1 }))
    (cut_again 32 c third (lacks_space c none.1.1.0))
    ∙ ap made (last_word d words none.1.1.1)

three_words : (a b c : List ℕ) → HaveNoSpace (a ∷ b ∷ c ∷ [])
    → first_words (line_of (a ∷ b ∷ c ∷ [])) ≡ None
unfolding first_words
three_words a b c none =
    ap (λ (o : Option (List ℕ × List ℕ)). o >>= λ x. cut_at 32 x.1 >>= λ y. cut_at 32 y.1 >>= λ z.
    Some (record { first = x.0; second = y.0; third = z.0; fourth = first_word z.1 }))
    (cut_again 32 a (line_of (b ∷ c ∷ [])) (lacks_space a none.0))
    ∙ ap (λ (o : Option (List ℕ × List ℕ)). o >>= λ y. cut_at 32 y.1 >>= λ z.
    Some (record { first = a; second = y.0; third = z.0; fourth = first_word z.1 }))
    (cut_again 32 b c (lacks_space b none.1.0))
    ∙ ap (λ (o : Option (List ℕ × List ℕ)). o >>= λ z.
    Some (record { first = a; second = b; third = z.0; fourth = first_word z.1 }))
    (cut_nowhere 32 c (lacks_space c none.1.1.0))

-- ---- the link before a peer or a name

-- the link of a peer over one
abbrev pub link_of_peer : Peer → Option ℕ
link_of_peer (Here inc) = None
link_of_peer (There link session inc) = Some link.0

-- the link of a path over one
abbrev pub link_of_path : Path → Option ℕ
link_of_path (Local name) = None
link_of_path (Over link name) = Some link.0

-- the node that a head names
abbrev pub node_of_head : Head → Option ℕ
node_of_head (heads.Restart node) = Some node.0
node_of_head _ = None

-- the link that a head names
abbrev pub link_of_head : Head → Option ℕ
link_of_head (heads.Send peer note answer) = link_of_peer peer
link_of_head (heads.Hunt path note) = link_of_path path
link_of_head (heads.Attach peer note) = link_of_peer peer
link_of_head (heads.Cut link) = Some link.0
link_of_head (heads.Mend link) = Some link.0
link_of_head (heads.Settle link) = Some link.0
link_of_head (heads.Wire link side verdict) = Some link.0
link_of_head (heads.Tick link side) = Some link.0
link_of_head _ = None

-- the node that an effect names
abbrev pub node_of_effect : Effect → Option ℕ
node_of_effect (effects.Met node peer name) = Some node.0
node_of_effect (effects.Gone node peer) = Some node.0
node_of_effect (effects.Up node link session other) = Some node.0
node_of_effect (effects.Down node link session) = Some node.0
node_of_effect _ = None

-- the link that an effect names
abbrev pub link_of_effect : Effect → Option ℕ
link_of_effect (effects.Arrived inc peer note) = link_of_peer peer
link_of_effect (effects.Found inc peer note hunt) = link_of_peer peer
link_of_effect (effects.Notified inc peer note reference reason) = link_of_peer peer
link_of_effect (effects.Met node peer name) = link_of_peer peer
link_of_effect (effects.Gone node peer) = link_of_peer peer
link_of_effect (effects.Up node link session other) = Some link.0
link_of_effect (effects.Down node link session) = Some link.0
link_of_effect _ = None

-- the node and the link that a line names
abbrev pub node_of : Line → Option ℕ
node_of (Made position by head) = node_of_head head
node_of (Happened effect) = node_of_effect effect

abbrev pub link_of : Line → Option ℕ
link_of (Made position by head) = link_of_head head
link_of (Happened effect) = link_of_effect effect

-- the words that name them in bytes
abbrev pub node_in_line : List ℕ → Option (List ℕ)
node_in_line line = first_words line >>= node_named

abbrev pub link_in_line : List ℕ → Option (List ℕ)
link_in_line line = first_words line >>= link_named

-- they have names
abbrev pub IsNodeOf : Names → Option ℕ → Type 0
IsNodeOf names None = Unit {0}
IsNodeOf names (Some n) = IsNode names n

abbrev pub IsLinkOf : Names → Option ℕ → Type 0
IsLinkOf names None = Unit {0}
IsLinkOf names (Some l) = IsLink names l

-- the bytes name this node and this link by their names
pub record Tells (names : Names) (bytes : List ℕ) (n l : Option ℕ) : Type 0 where
  pub node : node_in_line bytes ≡ option_map (node_text names) n
  pub link : link_in_line bytes ≡ option_map (link_text names) l
  pub is_node : IsNodeOf names n
  pub is_link : IsLinkOf names l

module _ (names : Names) (are : AreNames names) where
  link_lacks : (byte link : ℕ) → is_name_byte byte ≡ false → IsLink names link
      → lacks byte (link_text names link) ≡ true
  link_lacks byte link none is =
      bytes_lack byte (link_text names link) none
      (bytes_of_name (link_text names link) (link_is_name names link are is))

  before_peer : (peer : Peer) → IsPeer names peer
      → link_before (peer_text names peer) ≡ option_map (link_text names) (link_of_peer peer)
  before_peer (Here inc) is =
      let word = halves_text inc.0 in
      ap link_before (here_spelled names inc)
      ∙ ap (link_by word) (cut_nowhere 58 word (halves_lack 58 inc.0 refl is))
      ∙ ap (option_map (λ (parts : List ℕ × List ℕ). parts.0)) (cut_nowhere 47 word (halves_lack 47 inc.0 refl is))
  before_peer (There link session inc) is =
      let name = link_text names link.0 in
      let own = halves_text session.0 in
      let last = halves_text inc.0 in
      let word = name ++ 58 ∷ (own ++ 58 ∷ last) in
      ap link_before (there_spelled names link session inc)
      ∙ ap (link_by word) (cut_again 58 name (own ++ 58 ∷ last) (link_lacks 58 link.0 refl is.0))
      ∙ ap (option_map (λ (behind : List ℕ × List ℕ). name)) (cut_again 58 own last (halves_lack 58 session.0 refl is.1))

  before_path : (path : Path) → IsPath names path
      → link_before (path_text names path) ≡ option_map (link_text names) (link_of_path path)
  before_path (Local name) is =
      ap link_before (local_spelled names name)
      ∙ ap (link_by name) (cut_nowhere 58 name (bytes_lack 58 name refl (bytes_of_name name is)))
      ∙ ap (option_map (λ (parts : List ℕ × List ℕ). parts.0))
      (cut_nowhere 47 name (bytes_lack 47 name refl (bytes_of_name name is)))
  before_path (Over link name) is =
      let front = link_text names link.0 in
      let word = front ++ 47 ∷ name in
      let colon = link_lacks 58 link.0 refl is.0 in
      let slash = link_lacks 47 link.0 refl is.0 in
      let behind = bytes_lack 58 name refl (bytes_of_name name is.1) in
      ap link_before (over_spelled names link name)
      ∙ ap (link_by word) (cut_nowhere 58 word (lacks-seam 58 front name 47 colon refl behind))
      ∙ ap (option_map (λ (parts : List ℕ × List ℕ). parts.0)) (cut_again 47 front name slash)

  peer_is : (peer : Peer) → IsPeer names peer → IsLinkOf names (link_of_peer peer)
  peer_is (Here inc) is = tt
  peer_is (There link session inc) is = is.0

  path_is : (path : Path) → IsPath names path → IsLinkOf names (link_of_path path)
  path_is (Local name) is = tt
  path_is (Over link name) is = is.0

  -- ---- lines of heads

  made_node : (p : ℕ) (maker head arg : List ℕ) → p ≤ whole_limit
      → node_named (record { first = decimal p; second = maker; third = head; fourth = arg })
      ≡ cond (bytes_eq head (codes "restart")) (Some arg) None
  unfolding node_named
  made_node p maker head arg limit = cond-false _ _ _ (no_plus p limit)

  made_link : (p : ℕ) (maker head arg : List ℕ) → p ≤ whole_limit
      → link_named (record { first = decimal p; second = maker; third = head; fourth = arg })
      ≡ link_at arg (is_link_head head) (is_peer_head head)
  unfolding link_named
  made_link p maker head arg limit = cond-false _ _ _ (no_plus p limit)

  -- a line of a head with a word behind it
  with_word : (p : ℕ) (maker head arg : List ℕ) (words : List (List ℕ)) (n l : Option ℕ)
      → p ≤ whole_limit → HaveNoSpace (decimal p ∷ maker ∷ head ∷ arg ∷ words)
      → cond (bytes_eq head (codes "restart")) (Some arg) None ≡ option_map (node_text names) n
      → link_at arg (is_link_head head) (is_peer_head head) ≡ option_map (link_text names) l
      → IsNodeOf names n → IsLinkOf names l
      → Tells names (line_of (decimal p ∷ maker ∷ head ∷ arg ∷ words)) n l
  with_word p maker head arg words n l limit none node_told link_told is_node is_link =
      let first = four_words (decimal p) maker head arg words none in
      record {
        node =
            ap (λ (o : Option Words). o >>= node_named) first
            ∙ made_node p maker head arg limit ∙ node_told;
        link =
            ap (λ (o : Option Words). o >>= link_named) first
            ∙ made_link p maker head arg limit ∙ link_told;
        is_node = is_node;
        is_link = is_link;
      }

  -- one of a head alone
  without_word : (a b c : List ℕ) → HaveNoSpace (a ∷ b ∷ c ∷ [])
      → Tells names (line_of (a ∷ b ∷ c ∷ [])) None None
  without_word a b c none =
      let first = three_words a b c none in
      record {
        node = ap (λ (o : Option Words). o >>= node_named) first;
        link = ap (λ (o : Option Words). o >>= link_named) first;
        is_node = tt;
        is_link = tt;
      }

  head_tells : (p : ℕ) (by : By) (head : Head) → IsLine names (Made p by head)
      → Tells names (line_of (line_words printed names (Made p by head))) (node_of_head head)
      (link_of_head head)
  unfolding head_words
  head_tells p by (heads.Open name) is =
      with_word p (maker_text by) (codes "open") name []
      None None is.0
      (words_spaces names (Made p by (heads.Open name)) are is)
      refl refl tt tt
  head_tells p by heads.Close is =
      without_word (decimal p) (maker_text by) (codes "close")
      (words_spaces names (Made p by heads.Close) are is)
  head_tells p by (heads.Send peer note answer) is =
      with_word p (maker_text by) (codes "send") (peer_text names peer)
      (decimal note.number ∷ data_text printed note.bytes ∷ sent_text answer ∷ [])
      None (link_of_peer peer) is.0
      (words_spaces names (Made p by (heads.Send peer note answer)) are is)
      refl (before_peer peer is.2.0) tt (peer_is peer is.2.0)
  head_tells p by (heads.Take filter at) is =
      with_word p (maker_text by) (codes "take") (filter_text filter) (position_text at ∷ [])
      None None is.0
      (words_spaces names (Made p by (heads.Take filter at)) are is)
      refl refl tt tt
  head_tells p by (heads.TakeNone filter) is =
      with_word p (maker_text by) (codes "none") (filter_text filter) []
      None None is.0
      (words_spaces names (Made p by (heads.TakeNone filter)) are is)
      refl refl tt tt
  head_tells p by (heads.Waits filter) is =
      with_word p (maker_text by) (codes "waits") (filter_text filter) []
      None None is.0
      (words_spaces names (Made p by (heads.Waits filter)) are is)
      refl refl tt tt
  head_tells p by (heads.Hunt path note) is =
      with_word p (maker_text by) (codes "hunt") (path_text names path)
      (decimal note.number ∷ data_text printed note.bytes ∷ [])
      None (link_of_path path) is.0
      (words_spaces names (Made p by (heads.Hunt path note)) are is)
      refl (before_path path is.2.0) tt (path_is path is.2.0)
  head_tells p by (heads.Attach peer note) is =
      with_word p (maker_text by) (codes "attach") (peer_text names peer)
      (decimal note.number ∷ data_text printed note.bytes ∷ [])
      None (link_of_peer peer) is.0
      (words_spaces names (Made p by (heads.Attach peer note)) are is)
      refl (before_peer peer is.2.0) tt (peer_is peer is.2.0)
  head_tells p by (heads.Detach reference answer) is =
      with_word p (maker_text by) (codes "detach") (reference_text reference.0)
      (detached_text answer ∷ [])
      None None is.0
      (words_spaces names (Made p by (heads.Detach reference answer)) are is)
      refl refl tt tt
  head_tells p by (heads.Cut link) is =
      with_word p (maker_text by) (codes "cut") (link_text names link.0) []
      None (Some link.0) is.0
      (words_spaces names (Made p by (heads.Cut link)) are is)
      refl refl tt is.2
  head_tells p by (heads.Mend link) is =
      with_word p (maker_text by) (codes "mend") (link_text names link.0) []
      None (Some link.0) is.0
      (words_spaces names (Made p by (heads.Mend link)) are is)
      refl refl tt is.2
  head_tells p by (heads.Settle link) is =
      with_word p (maker_text by) (codes "settle") (link_text names link.0) []
      None (Some link.0) is.0
      (words_spaces names (Made p by (heads.Settle link)) are is)
      refl refl tt is.2
  head_tells p by (heads.Restart node) is =
      with_word p (maker_text by) (codes "restart") (node_text names node.0) []
      (Some node.0) None is.0
      (words_spaces names (Made p by (heads.Restart node)) are is)
      refl refl is.2 tt
  head_tells p by (heads.Wire link side verdict) is =
      with_word p (maker_text by) (codes "wire") (link_text names link.0)
      (side_text side ∷ verdict_text verdict ∷ [])
      None (Some link.0) is.0
      (words_spaces names (Made p by (heads.Wire link side verdict)) are is)
      refl refl tt is.2.0
  head_tells p by (heads.Tick link side) is =
      with_word p (maker_text by) (codes "tick") (link_text names link.0) (side_text side ∷ [])
      None (Some link.0) is.0
      (words_spaces names (Made p by (heads.Tick link side)) are is)
      refl refl tt is.2
  head_tells p by (heads.Refused reason) is =
      with_word p (maker_text by) (codes "refused") (refusal_text reason) []
      None None is.0
      (words_spaces names (Made p by (heads.Refused reason)) are is)
      refl refl tt tt
  head_tells p by heads.Ended is =
      without_word (decimal p) (maker_text by) (codes "ended")
      (words_spaces names (Made p by heads.Ended) are is)

  -- ---- lines of effects

  -- a line of an effect with two words behind it
  with_words : (word c d : List ℕ) (words : List (List ℕ)) (n l : Option ℕ)
      → HaveNoSpace (codes "+" ∷ word ∷ c ∷ d ∷ words)
      → cond (is_node_effect word) (Some c) None ≡ option_map (node_text names) n
      → link_at d (is_link_effect word) (is_peer_effect word) ≡ option_map (link_text names) l
      → IsNodeOf names n → IsLinkOf names l
      → Tells names (line_of (codes "+" ∷ word ∷ c ∷ d ∷ words)) n l
  unfolding node_named link_named
  with_words word c d words n l none node_told link_told is_node is_link =
      let first = four_words (codes "+") word c d words none in
      record {
        node = ap (λ (o : Option Words). o >>= node_named) first ∙ node_told;
        link = ap (λ (o : Option Words). o >>= link_named) first ∙ link_told;
        is_node = is_node;
        is_link = is_link;
      }

  effect_tells : (effect : Effect) → IsLine names (Happened effect)
      → Tells names (line_of (line_words printed names (Happened effect))) (node_of_effect effect)
      (link_of_effect effect)
  unfolding effect_words
  effect_tells (effects.Opened inc) is =
      without_word (codes "+") (codes "opened") (halves_text inc.0)
      (words_spaces names (Happened (effects.Opened inc)) are is)
  effect_tells (effects.Closed inc) is =
      without_word (codes "+") (codes "closed") (halves_text inc.0)
      (words_spaces names (Happened (effects.Closed inc)) are is)
  effect_tells (effects.Arrived inc peer note) is =
      with_words (codes "arrived") (halves_text inc.0) (peer_text names peer)
      (decimal note.number ∷ data_text printed note.bytes ∷ [])
      None (link_of_peer peer) (words_spaces names (Happened (effects.Arrived inc peer note)) are is)
      refl (before_peer peer is.1) tt (peer_is peer is.1)
  effect_tells (effects.Found inc peer note hunt) is =
      with_words (codes "found") (halves_text inc.0) (peer_text names peer)
      (decimal note.number ∷ data_text printed note.bytes ∷ reference_text hunt ∷ [])
      None (link_of_peer peer) (words_spaces names (Happened (effects.Found inc peer note hunt)) are is)
      refl (before_peer peer is.1) tt (peer_is peer is.1)
  effect_tells (effects.Notified inc peer note reference reason) is =
      with_words (codes "notified") (halves_text inc.0) (peer_text names peer)
      (
      decimal note.number ∷ data_text printed note.bytes ∷ reference_text reference.0
      ∷ reason_text reason ∷ []
      )
      None (link_of_peer peer) (words_spaces names (Happened (effects.Notified inc peer note reference reason)) are is)
      refl (before_peer peer is.1) tt (peer_is peer is.1)
  effect_tells (effects.Met node peer name) is =
      with_words (codes "met") (node_text names node.0) (peer_text names peer)
      (name ∷ [])
      (Some node.0) (link_of_peer peer) (words_spaces names (Happened (effects.Met node peer name)) are is)
      refl (before_peer peer is.1) is.0 (peer_is peer is.1)
  effect_tells (effects.Gone node peer) is =
      with_words (codes "gone") (node_text names node.0) (peer_text names peer)
      []
      (Some node.0) (link_of_peer peer) (words_spaces names (Happened (effects.Gone node peer)) are is)
      refl (before_peer peer is.1) is.0 (peer_is peer is.1)
  effect_tells (effects.Up node link session other) is =
      with_words (codes "up") (node_text names node.0) (link_text names link.0)
      (halves_text session.0 ∷ halves_text other.0 ∷ [])
      (Some node.0) (Some link.0) (words_spaces names (Happened (effects.Up node link session other)) are is)
      refl refl is.0 is.1
  effect_tells (effects.Down node link session) is =
      with_words (codes "down") (node_text names node.0) (link_text names link.0)
      (halves_text session.0 ∷ [])
      (Some node.0) (Some link.0) (words_spaces names (Happened (effects.Down node link session)) are is)
      refl refl is.0 is.1

  pub line_tells : (line : Line) → IsLine names line
      → Tells names (line_of (line_words printed names line)) (node_of line) (link_of line)
  line_tells (Made p by head) is = head_tells p by head is
  line_tells (Happened effect) is = effect_tells effect is
