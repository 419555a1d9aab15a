-- An effect is read from its words alone.
use Rattle.std.proofs.Common.{subst, ◌≡◌, ◌≤◌, ℕ, Bool, true, false, cond, List, [], ◌∷◌, refl, sym}
use Rattle.std.proofs.Common.{ap, ◌∙◌, Option, Some, None, codes, decimal, bytes_eq}
use Rattle.linx_base.specs.declared.identity.Session.{Session}
use Rattle.linx_base.specs.declared.name.Names.{Names}
use Rattle.journal_text.specs.Values.{halves_text, node_text, link_text}
use Rattle.journal.specs.declared.effect.Effect.{Effect}
use Rattle.journal.specs.declared.effect.Effect.TheVariants.{Opened, Closed, Arrived, Found}
use Rattle.journal.specs.declared.effect.Effect.TheVariants.{Notified, Met, Gone, Up, Down}
use Rattle.text_words.specs.Gives.{◌>>=◌, made}
use Rattle.text_words.specs.Words.{only}
use Rattle.text_words.specs.Numbers.{halves_in, whole_limit}
use Rattle.journal_words.specs.Names.{name_in, named_in}
use Rattle.journal_words.specs.Data.{note_in}
use Rattle.journal_words.specs.Peers.{peer_in, reference_in}
use Rattle.journal_words.specs.Answers.{reason_in}
use Rattle.journal_words.specs.Effects.{arrived_in, found_in, notified_in, met_in, gone_in, up_in}
use Rattle.journal_words.specs.Effects.{sessions_in, down_in, node_effect_in, effect_in}
use Rattle.reading_laws.specs.Spelled.{effect_words}
use Rattle.reading_laws.specs.Forms.{printed, AreNames, IsEffect}
use Rattle.journal_words.specs.Lines.{effect_at}
use Rattle.reading_laws.proofs.Tools.{bind_some, made_some, choice, same_text}
use Rattle.reading_laws.proofs.NumberLaws.{halves_again, halves_found}
use Rattle.reading_laws.proofs.NameLaws.{name_again, name_found, node_found, link_found}
use Rattle.reading_laws.proofs.DataLaws.{note_again, note_found}
use Rattle.reading_laws.proofs.PeerLaws.{peer_again, peer_found, reference_again, reference_found}
use Rattle.reading_laws.proofs.AnswerLaws.{reason_again, reason_found}

pub effect_again : (names : Names) (effect : Effect) → AreNames names → IsEffect names effect
    → effect_at names (effect_words printed names effect) ≡ Some effect
unfolding effect_words effect_in node_effect_in arrived_in found_in notified_in met_in gone_in up_in
    sessions_in down_in
effect_again names (Opened inc) are is =
    ap (made (λ n. Opened (record { 0 = n }))) (halves_again inc.0 is)
effect_again names (Closed inc) are is =
    ap (made (λ n. Closed (record { 0 = n }))) (halves_again inc.0 is)
effect_again names (Arrived inc peer note) are is =
    rw (halves_again inc.0 is.0, peer_again names peer are is.1, note_again note is.2) refl
effect_again names (Found inc peer note hunt) are is =
    rw (
      halves_again inc.0 is.0,
      peer_again names peer are is.1,
      note_again note is.2,
      reference_again hunt is.3,
    ) refl
effect_again names (Notified inc peer note reference reason) are is =
    rw (
      halves_again inc.0 is.0,
      peer_again names peer are is.1,
      note_again note is.2,
      reference_again reference.0 is.3,
      reason_again reason,
    ) refl
effect_again names (Met node peer name) are is =
    rw (is.0, peer_again names peer are is.1, name_again name is.2) refl
effect_again names (Gone node peer) are is = rw (is.0, peer_again names peer are is.1) refl
effect_again names (Up node link session other) are is =
    rw (is.0, is.1, halves_again session.0 is.2, halves_again other.0 is.3) refl
effect_again names (Down node link session) are is =
    rw (is.0, is.1, halves_again session.0 is.2) refl

-- words that spell an effect
pub record IsOfEffect (names : Names) (words : List (List ℕ)) (effect : Effect) : Type 0 where
  pub spelled : words ≡ effect_words printed names effect
  pub is : IsEffect names effect

arrived_found : (names : Names) (words : List (List ℕ)) (x : Effect)
    → arrived_in names words ≡ Some x → IsOfEffect names (codes "arrived" ∷ words) x
unfolding arrived_in effect_words
arrived_found names (i_word ∷ q_word ∷ number ∷ shown ∷ []) x h =
    let i = bind_some (halves_in i_word) _ x h in
    let q = bind_some (peer_in names q_word) _ x i.2 in
    let note = bind_some (note_in number shown) _ x q.2 in
    let i_is = halves_found i.0 i_word i.1 in
    let q_is = peer_found names q_word q.0 q.1 in
    let note_is = note_found number shown note.0 note.1 in
    let same : Arrived (record { 0 = i.0 }) q.0 note.0 ≡ x = cc in
    subst (λ (y : Effect). IsOfEffect names (codes "arrived" ∷ i_word ∷ q_word ∷ number ∷ shown ∷ []) y) same
    (record { spelled = cc; is = (i_is.1, q_is.is, note_is.is) })
arrived_found names _ x h = cc

found_found : (names : Names) (words : List (List ℕ)) (x : Effect)
    → found_in names words ≡ Some x → IsOfEffect names (codes "found" ∷ words) x
unfolding found_in effect_words
found_found names (i_word ∷ q_word ∷ number ∷ shown ∷ r_word ∷ []) x h =
    let i = bind_some (halves_in i_word) _ x h in
    let q = bind_some (peer_in names q_word) _ x i.2 in
    let note = bind_some (note_in number shown) _ x q.2 in
    let r = bind_some (reference_in r_word) _ x note.2 in
    let i_is = halves_found i.0 i_word i.1 in
    let q_is = peer_found names q_word q.0 q.1 in
    let note_is = note_found number shown note.0 note.1 in
    let r_is = reference_found r_word r.0 r.1 in
    let same : Found (record { 0 = i.0 }) q.0 note.0 r.0 ≡ x = cc in
    subst (λ (y : Effect). IsOfEffect names (codes "found" ∷ i_word ∷ q_word ∷ number ∷ shown ∷ r_word ∷ []) y) same
    (record { spelled = cc; is = (i_is.1, q_is.is, note_is.is, r_is.1) })
found_found names _ x h = cc

notified_found : (names : Names) (words : List (List ℕ)) (x : Effect)
    → notified_in names words ≡ Some x → IsOfEffect names (codes "notified" ∷ words) x
unfolding notified_in effect_words
notified_found names (i_word ∷ q_word ∷ number ∷ shown ∷ r_word ∷ why_word ∷ []) x h =
    let i = bind_some (halves_in i_word) _ x h in
    let q = bind_some (peer_in names q_word) _ x i.2 in
    let note = bind_some (note_in number shown) _ x q.2 in
    let r = bind_some (reference_in r_word) _ x note.2 in
    let why = bind_some (reason_in why_word) _ x r.2 in
    let i_is = halves_found i.0 i_word i.1 in
    let q_is = peer_found names q_word q.0 q.1 in
    let note_is = note_found number shown note.0 note.1 in
    let r_is = reference_found r_word r.0 r.1 in
    let why_is = reason_found why_word why.0 why.1 in
    let same : Notified (record { 0 = i.0 }) q.0 note.0 (record { 0 = r.0 }) why.0 ≡ x = cc in
    subst (λ (y : Effect). IsOfEffect names (codes "notified" ∷ i_word ∷ q_word ∷ number ∷ shown ∷ r_word ∷ why_word ∷ []) y) same
    (record { spelled = cc; is = (i_is.1, q_is.is, note_is.is, r_is.1) })
notified_found names _ x h = cc

met_found : (names : Names) (words : List (List ℕ)) (x : Effect)
    → met_in names words ≡ Some x → IsOfEffect names (codes "met" ∷ words) x
unfolding met_in effect_words
met_found names (n_word ∷ q_word ∷ called_word ∷ []) x h =
    let n = bind_some (named_in names.nodes n_word) _ x h in
    let q = bind_some (peer_in names q_word) _ x n.2 in
    let called = bind_some (name_in called_word) _ x q.2 in
    let n_is = node_found names n_word n.0 n.1 in
    let q_is = peer_found names q_word q.0 q.1 in
    let called_is = name_found called_word called.0 called.1 in
    let same : Met (record { 0 = n.0 }) q.0 called.0 ≡ x = cc in
    subst (λ (y : Effect). IsOfEffect names (codes "met" ∷ n_word ∷ q_word ∷ called_word ∷ []) y) same
    (record { spelled = cc; is = (n_is.1, q_is.is, called_is.1) })
met_found names _ x h = cc

gone_found : (names : Names) (words : List (List ℕ)) (x : Effect)
    → gone_in names words ≡ Some x → IsOfEffect names (codes "gone" ∷ words) x
unfolding gone_in effect_words
gone_found names [] x h = cc
gone_found names (w1 ∷ []) x h = cc
gone_found names (w1 ∷ w2 ∷ w3 ∷ more) x h = cc
gone_found names (n_word ∷ q_word ∷ []) x h =
    let n = bind_some (named_in names.nodes n_word) _ x h in
    let q = bind_some (peer_in names q_word) _ x n.2 in
    let n_is = node_found names n_word n.0 n.1 in
    let q_is = peer_found names q_word q.0 q.1 in
    let same : Gone (record { 0 = n.0 }) q.0 ≡ x = cc in
    subst (λ (y : Effect). IsOfEffect names (codes "gone" ∷ n_word ∷ q_word ∷ []) y) same
    (record { spelled = cc; is = (n_is.1, q_is.is) })

-- words that spell two sessions
record AreOfSessions (words : List (List ℕ)) (both : Session × Session) : Type 0 where
  spelled : words ≡ halves_text both.0.0 ∷ halves_text both.1.0 ∷ []
  own_fits : both.0.0 ≤ whole_limit
  other_fits : both.1.0 ≤ whole_limit

sessions_found : (words : List (List ℕ)) (both : Session × Session)
    → sessions_in words ≡ Some both → AreOfSessions words both
unfolding sessions_in
sessions_found [] both h = cc
sessions_found (own ∷ []) both h = cc
sessions_found (own ∷ other ∷ more ∷ words) both h = cc
sessions_found (own ∷ other ∷ []) both h =
    let first = bind_some (halves_in own) _ both h in
    let second = bind_some (halves_in other) _ both first.2 in
    let own_is = halves_found first.0 own first.1 in
    let other_is = halves_found second.0 other second.1 in
    let same : (record { 0 = first.0 }, record { 0 = second.0 }) ≡ both = cc in
    subst (λ (p : Session × Session). AreOfSessions (own ∷ other ∷ []) p) same (record {
      spelled = cc;
      own_fits = own_is.1;
      other_fits = other_is.1;
    })

up_spelled : (names : Names) (node link : List ℕ) (words : List (List ℕ)) (n l : ℕ)
    (both : Session × Session)
    → node ≡ node_text names n → link ≡ link_text names l → AreOfSessions words both
    → codes "up" ∷ node ∷ link ∷ words
    ≡ effect_words printed names (Up (record { 0 = n }) (record { 0 = l }) both.0 both.1)
unfolding effect_words
up_spelled names node link words n l both node_is link_is are =
    let sessions = are.spelled in
    cc

up_found : (names : Names) (words : List (List ℕ)) (x : Effect)
    → up_in names words ≡ Some x → IsOfEffect names (codes "up" ∷ words) x
unfolding up_in effect_words
up_found names [] x h = cc
up_found names (node ∷ []) x h = cc
up_found names (node ∷ link ∷ words) x h =
    let n = bind_some (named_in names.nodes node) _ x h in
    let l = bind_some (named_in names.links link) _ x n.2 in
    let both = bind_some (sessions_in words) _ x l.2 in
    let n_is = node_found names node n.0 n.1 in
    let l_is = link_found names link l.0 l.1 in
    let is = sessions_found words both.0 both.1 in
    let same : Up (record { 0 = n.0 }) (record { 0 = l.0 }) both.0.0 both.0.1 ≡ x = cc in
    subst (λ (y : Effect). IsOfEffect names (codes "up" ∷ node ∷ link ∷ words) y) same (record {
      spelled = up_spelled names node link words n.0 l.0 both.0 n_is.0 l_is.0 is;
      is = (n_is.1, l_is.1, is.own_fits, is.other_fits);
    })

down_found : (names : Names) (words : List (List ℕ)) (x : Effect)
    → down_in names words ≡ Some x → IsOfEffect names (codes "down" ∷ words) x
unfolding down_in effect_words
down_found names (n_word ∷ l_word ∷ own_word ∷ []) x h =
    let n = bind_some (named_in names.nodes n_word) _ x h in
    let l = bind_some (named_in names.links l_word) _ x n.2 in
    let own = bind_some (halves_in own_word) _ x l.2 in
    let n_is = node_found names n_word n.0 n.1 in
    let l_is = link_found names l_word l.0 l.1 in
    let own_is = halves_found own.0 own_word own.1 in
    let same : Down (record { 0 = n.0 }) (record { 0 = l.0 }) (record { 0 = own.0 }) ≡ x = cc in
    subst (λ (y : Effect). IsOfEffect names (codes "down" ∷ n_word ∷ l_word ∷ own_word ∷ []) y) same
    (record { spelled = cc; is = (n_is.1, l_is.1, own_is.1) })
down_found names _ x h = cc

opened_found : (names : Names) (words : List (List ℕ)) (x : Effect)
    → made (λ n. Opened (record { 0 = n })) (only words >>= halves_in) ≡ Some x → IsOfEffect names (codes "opened" ∷ words) x
unfolding effect_words
opened_found names [] x h = cc
opened_found names (w ∷ more ∷ words) x h = cc
opened_found names (w ∷ []) x h =
    let v = made_some (λ n. Opened (record { 0 = n })) (halves_in w) x h in
    let is = halves_found v.0 w v.1 in
    subst (λ (y : Effect). IsOfEffect names (codes "opened" ∷ w ∷ []) y) (sym v.2)
    (record { spelled = cc; is = is.1 })

closed_found : (names : Names) (words : List (List ℕ)) (x : Effect)
    → made (λ n. Closed (record { 0 = n })) (only words >>= halves_in) ≡ Some x → IsOfEffect names (codes "closed" ∷ words) x
unfolding effect_words
closed_found names [] x h = cc
closed_found names (w ∷ more ∷ words) x h = cc
closed_found names (w ∷ []) x h =
    let v = made_some (λ n. Closed (record { 0 = n })) (halves_in w) x h in
    let is = halves_found v.0 w v.1 in
    subst (λ (y : Effect). IsOfEffect names (codes "closed" ∷ w ∷ []) y) (sym v.2)
    (record { spelled = cc; is = is.1 })

-- the words of an effect that begin with this keyword
of_keyword : (names : Names) (first text : List ℕ) (words : List (List ℕ)) (effect : Effect)
    → bytes_eq first text ≡ true → IsOfEffect names (text ∷ words) effect
    → IsOfEffect names (first ∷ words) effect
of_keyword names first text words effect holds is =
    subst (λ (w : List ℕ). IsOfEffect names (w ∷ words) effect) (sym (same_text first text holds)) is

node_effect_found : (names : Names) (first : List ℕ) (words : List (List ℕ)) (effect : Effect)
    → node_effect_in names first words ≡ Some effect → IsOfEffect names (first ∷ words) effect
unfolding node_effect_in
node_effect_found names first words effect h0 =
    choice (bytes_eq first (codes "met")) _ _ effect h0
    (λ holds h. of_keyword names first (codes "met") words effect holds (met_found names words effect h))
    (λ no0 h1.
    choice (bytes_eq first (codes "gone")) _ _ effect h1
    (λ holds h. of_keyword names first (codes "gone") words effect holds (gone_found names words effect h))
    (λ no1 h2.
    choice (bytes_eq first (codes "up")) _ _ effect h2
    (λ holds h. of_keyword names first (codes "up") words effect holds (up_found names words effect h))
    (λ no2 h3.
    choice (bytes_eq first (codes "down")) _ _ effect h3
    (λ holds h. of_keyword names first (codes "down") words effect holds (down_found names words effect h))
    (λ no3 h4.
    cc))))

pub effect_found : (names : Names) (first : List ℕ) (words : List (List ℕ)) (effect : Effect)
    → effect_in names first words ≡ Some effect → IsOfEffect names (first ∷ words) effect
unfolding effect_in
effect_found names first words effect h0 =
    choice (bytes_eq first (codes "arrived")) _ _ effect h0
    (λ holds h. of_keyword names first (codes "arrived") words effect holds (arrived_found names words effect h))
    (λ no0 h1.
    choice (bytes_eq first (codes "found")) _ _ effect h1
    (λ holds h. of_keyword names first (codes "found") words effect holds (found_found names words effect h))
    (λ no1 h2.
    choice (bytes_eq first (codes "notified")) _ _ effect h2
    (λ holds h. of_keyword names first (codes "notified") words effect holds (notified_found names words effect h))
    (λ no2 h3.
    choice (bytes_eq first (codes "opened")) _ _ effect h3
    (λ holds h. of_keyword names first (codes "opened") words effect holds (opened_found names words effect h))
    (λ no3 h4.
    choice (bytes_eq first (codes "closed")) _ _ effect h4
    (λ holds h. of_keyword names first (codes "closed") words effect holds (closed_found names words effect h))
    (λ no4 h5.
    node_effect_found names first words effect h5)))))
