-- A head is read from its words alone.
use Rattle.std.proofs.Common.{subst, ◌≡◌, ℕ, Bool, true, false, cond, List, [], ◌∷◌, refl, sym, ap}
use Rattle.std.proofs.Common.{◌∙◌, Option, Some, None, codes, decimal, bytes_eq}
use Rattle.linx_base.specs.declared.name.Names.{Names}
use Rattle.journal.specs.declared.head.Head.{Head}
use Rattle.journal.specs.declared.head.Head.TheVariants.{Open, Close, Send, Take, TakeNone, Waits}
use Rattle.journal.specs.declared.head.Head.TheVariants.{Hunt, Attach, Detach, Cut, Mend, Settle}
use Rattle.journal.specs.declared.head.Head.TheVariants.{Restart, Wire, Tick, Refused, Ended}
use Rattle.text_words.specs.Gives.{◌>>=◌, made}
use Rattle.text_words.specs.Words.{only, alone}
use Rattle.journal_words.specs.Names.{name_in, named_in}
use Rattle.journal_words.specs.Data.{note_in}
use Rattle.journal_words.specs.Peers.{peer_in, path_in, position_in, reference_in}
use Rattle.journal_words.specs.Filter.{filter_in}
use Rattle.journal_words.specs.Answers.{side_in, verdict_in, sent_in, detached_in, refusal_in}
use Rattle.journal_words.specs.Heads.{send_in, attach_in, hunt_in, take_in, detach_in, wire_in}
use Rattle.journal_words.specs.Heads.{tick_in, outer_head_in, inner_head_in, head_in}
use Rattle.reading_laws.specs.Spelled.{head_words}
use Rattle.reading_laws.specs.Forms.{printed, AreNames, IsHead}
use Rattle.journal_words.specs.Lines.{head_at}
use Rattle.reading_laws.proofs.Tools.{bind_some, made_some, choice, same_text}
use Rattle.reading_laws.proofs.NameLaws.{name_again, name_found, node_found, link_found}
use Rattle.reading_laws.proofs.DataLaws.{note_again, note_found}
use Rattle.reading_laws.proofs.PeerLaws.{peer_again, peer_found, path_again, path_found}
use Rattle.reading_laws.proofs.PeerLaws.{position_again, position_found, reference_again}
use Rattle.reading_laws.proofs.PeerLaws.{reference_found}
use Rattle.reading_laws.proofs.FilterLaws.{filter_again, filter_found}
use Rattle.reading_laws.proofs.AnswerLaws.{side_again, side_found, sent_again, sent_found}
use Rattle.reading_laws.proofs.AnswerLaws.{detached_again, detached_found, verdict_again}
use Rattle.reading_laws.proofs.AnswerLaws.{verdict_found, refusal_again, refusal_found}

pub head_again : (names : Names) (head : Head) → AreNames names → IsHead names head
    → head_at names (head_words printed names head) ≡ Some head
unfolding head_words head_in inner_head_in outer_head_in send_in attach_in hunt_in take_in detach_in
    wire_in tick_in
head_again names (Open name) are is = ap (made Open) (name_again name is)
head_again names Close are is = refl
head_again names (Send peer note answer) are is =
    rw (peer_again names peer are is.0, note_again note is.1, sent_again answer) refl
head_again names (Take filter at) are is =
    rw (filter_again filter is.0, position_again at is.1) refl
head_again names (TakeNone filter) are is = ap (made TakeNone) (filter_again filter is)
head_again names (Waits filter) are is = ap (made Waits) (filter_again filter is)
head_again names (Hunt path note) are is =
    rw (path_again names path are is.0, note_again note is.1) refl
head_again names (Attach peer note) are is =
    rw (peer_again names peer are is.0, note_again note is.1) refl
head_again names (Detach reference answer) are is =
    rw (reference_again reference.0 is, detached_again answer) refl
head_again names (Cut link) are is = ap (made (λ n. Cut (record { 0 = n }))) is
head_again names (Mend link) are is = ap (made (λ n. Mend (record { 0 = n }))) is
head_again names (Settle link) are is = ap (made (λ n. Settle (record { 0 = n }))) is
head_again names (Restart node) are is = ap (made (λ n. Restart (record { 0 = n }))) is
head_again names (Wire link side verdict) are is =
    rw (is.0, side_again side, verdict_again verdict is.1) refl
head_again names (Tick link side) are is = rw (is, side_again side) refl
head_again names (Refused reason) are is = ap (made Refused) (refusal_again reason is)
head_again names Ended are is = refl

-- words that spell a head
pub record IsOfHead (names : Names) (words : List (List ℕ)) (head : Head) : Type 0 where
  pub spelled : words ≡ head_words printed names head
  pub is : IsHead names head

send_found : (names : Names) (words : List (List ℕ)) (x : Head)
    → send_in names words ≡ Some x → IsOfHead names (codes "send" ∷ words) x
unfolding send_in head_words
send_found names (q_word ∷ number ∷ shown ∷ sent_word ∷ []) x h =
    let q = bind_some (peer_in names q_word) _ x h in
    let note = bind_some (note_in number shown) _ x q.2 in
    let sent = bind_some (sent_in sent_word) _ x note.2 in
    let q_is = peer_found names q_word q.0 q.1 in
    let note_is = note_found number shown note.0 note.1 in
    let sent_is = sent_found sent_word sent.0 sent.1 in
    let same : Send q.0 note.0 sent.0 ≡ x = cc in
    subst (λ (y : Head). IsOfHead names (codes "send" ∷ q_word ∷ number ∷ shown ∷ sent_word ∷ []) y) same
    (record { spelled = cc; is = (q_is.is, note_is.is) })
send_found names _ x h = cc

attach_found : (names : Names) (words : List (List ℕ)) (x : Head)
    → attach_in names words ≡ Some x → IsOfHead names (codes "attach" ∷ words) x
unfolding attach_in head_words
attach_found names (q_word ∷ number ∷ shown ∷ []) x h =
    let q = bind_some (peer_in names q_word) _ x h in
    let note = bind_some (note_in number shown) _ x q.2 in
    let q_is = peer_found names q_word q.0 q.1 in
    let note_is = note_found number shown note.0 note.1 in
    let same : Attach q.0 note.0 ≡ x = cc in
    subst (λ (y : Head). IsOfHead names (codes "attach" ∷ q_word ∷ number ∷ shown ∷ []) y) same
    (record { spelled = cc; is = (q_is.is, note_is.is) })
attach_found names _ x h = cc

hunt_found : (names : Names) (words : List (List ℕ)) (x : Head)
    → hunt_in names words ≡ Some x → IsOfHead names (codes "hunt" ∷ words) x
unfolding hunt_in head_words
hunt_found names (p_word ∷ number ∷ shown ∷ []) x h =
    let p = bind_some (path_in names p_word) _ x h in
    let note = bind_some (note_in number shown) _ x p.2 in
    let p_is = path_found names p_word p.0 p.1 in
    let note_is = note_found number shown note.0 note.1 in
    let same : Hunt p.0 note.0 ≡ x = cc in
    subst (λ (y : Head). IsOfHead names (codes "hunt" ∷ p_word ∷ number ∷ shown ∷ []) y) same
    (record { spelled = cc; is = (p_is.is, note_is.is) })
hunt_found names _ x h = cc

take_found : (names : Names) (words : List (List ℕ)) (x : Head)
    → take_in words ≡ Some x → IsOfHead names (codes "take" ∷ words) x
unfolding take_in head_words
take_found names [] x h = cc
take_found names (w1 ∷ []) x h = cc
take_found names (w1 ∷ w2 ∷ w3 ∷ more) x h = cc
take_found names (f_word ∷ at_word ∷ []) x h =
    let f = bind_some (filter_in f_word) _ x h in
    let at = bind_some (position_in at_word) _ x f.2 in
    let f_is = filter_found f_word f.0 f.1 in
    let at_is = position_found at_word at.0 at.1 in
    let same : Take f.0 at.0 ≡ x = cc in
    subst (λ (y : Head). IsOfHead names (codes "take" ∷ f_word ∷ at_word ∷ []) y) same
    (record { spelled = cc; is = (f_is.is, at_is.is) })

detach_found : (names : Names) (words : List (List ℕ)) (x : Head)
    → detach_in words ≡ Some x → IsOfHead names (codes "detach" ∷ words) x
unfolding detach_in head_words
detach_found names [] x h = cc
detach_found names (w1 ∷ []) x h = cc
detach_found names (w1 ∷ w2 ∷ w3 ∷ more) x h = cc
detach_found names (r_word ∷ d_word ∷ []) x h =
    let r = bind_some (reference_in r_word) _ x h in
    let d = bind_some (detached_in d_word) _ x r.2 in
    let r_is = reference_found r_word r.0 r.1 in
    let d_is = detached_found d_word d.0 d.1 in
    let same : Detach (record { 0 = r.0 }) d.0 ≡ x = cc in
    subst (λ (y : Head). IsOfHead names (codes "detach" ∷ r_word ∷ d_word ∷ []) y) same
    (record { spelled = cc; is = r_is.1 })

wire_found : (names : Names) (words : List (List ℕ)) (x : Head)
    → wire_in names words ≡ Some x → IsOfHead names (codes "wire" ∷ words) x
unfolding wire_in head_words
wire_found names (l_word ∷ side_word ∷ v_word ∷ []) x h =
    let l = bind_some (named_in names.links l_word) _ x h in
    let side = bind_some (side_in side_word) _ x l.2 in
    let v = bind_some (verdict_in v_word) _ x side.2 in
    let l_is = link_found names l_word l.0 l.1 in
    let side_is = side_found side_word side.0 side.1 in
    let v_is = verdict_found v_word v.0 v.1 in
    let same : Wire (record { 0 = l.0 }) side.0 v.0 ≡ x = cc in
    subst (λ (y : Head). IsOfHead names (codes "wire" ∷ l_word ∷ side_word ∷ v_word ∷ []) y) same
    (record { spelled = cc; is = (l_is.1, v_is.fits) })
wire_found names _ x h = cc

tick_found : (names : Names) (words : List (List ℕ)) (x : Head)
    → tick_in names words ≡ Some x → IsOfHead names (codes "tick" ∷ words) x
unfolding tick_in head_words
tick_found names [] x h = cc
tick_found names (w1 ∷ []) x h = cc
tick_found names (w1 ∷ w2 ∷ w3 ∷ more) x h = cc
tick_found names (l_word ∷ side_word ∷ []) x h =
    let l = bind_some (named_in names.links l_word) _ x h in
    let side = bind_some (side_in side_word) _ x l.2 in
    let l_is = link_found names l_word l.0 l.1 in
    let side_is = side_found side_word side.0 side.1 in
    let same : Tick (record { 0 = l.0 }) side.0 ≡ x = cc in
    subst (λ (y : Head). IsOfHead names (codes "tick" ∷ l_word ∷ side_word ∷ []) y) same
    (record { spelled = cc; is = l_is.1 })

none_found : (names : Names) (words : List (List ℕ)) (x : Head)
    → made TakeNone (only words >>= filter_in) ≡ Some x → IsOfHead names (codes "none" ∷ words) x
unfolding head_words
none_found names [] x h = cc
none_found names (w ∷ more ∷ words) x h = cc
none_found names (w ∷ []) x h =
    let v = made_some TakeNone (filter_in w) x h in
    let is = filter_found w v.0 v.1 in
    subst (λ (y : Head). IsOfHead names (codes "none" ∷ w ∷ []) y) (sym v.2)
    (record { spelled = cc; is = is.is })

waits_found : (names : Names) (words : List (List ℕ)) (x : Head)
    → made Waits (only words >>= filter_in) ≡ Some x → IsOfHead names (codes "waits" ∷ words) x
unfolding head_words
waits_found names [] x h = cc
waits_found names (w ∷ more ∷ words) x h = cc
waits_found names (w ∷ []) x h =
    let v = made_some Waits (filter_in w) x h in
    let is = filter_found w v.0 v.1 in
    subst (λ (y : Head). IsOfHead names (codes "waits" ∷ w ∷ []) y) (sym v.2)
    (record { spelled = cc; is = is.is })

open_found : (names : Names) (words : List (List ℕ)) (x : Head)
    → made Open (only words >>= name_in) ≡ Some x → IsOfHead names (codes "open" ∷ words) x
unfolding head_words
open_found names [] x h = cc
open_found names (w ∷ more ∷ words) x h = cc
open_found names (w ∷ []) x h =
    let v = made_some Open (name_in w) x h in
    let is = name_found w v.0 v.1 in
    subst (λ (y : Head). IsOfHead names (codes "open" ∷ w ∷ []) y) (sym v.2)
    (record { spelled = cc; is = is.1 })

cut_found : (names : Names) (words : List (List ℕ)) (x : Head)
    → made (λ n. Cut (record { 0 = n })) (only words >>= named_in names.links) ≡ Some x → IsOfHead names (codes "cut" ∷ words) x
unfolding head_words
cut_found names [] x h = cc
cut_found names (w ∷ more ∷ words) x h = cc
cut_found names (w ∷ []) x h =
    let v = made_some (λ n. Cut (record { 0 = n })) (named_in names.links w) x h in
    let is = link_found names w v.0 v.1 in
    subst (λ (y : Head). IsOfHead names (codes "cut" ∷ w ∷ []) y) (sym v.2)
    (record { spelled = cc; is = is.1 })

mend_found : (names : Names) (words : List (List ℕ)) (x : Head)
    → made (λ n. Mend (record { 0 = n })) (only words >>= named_in names.links) ≡ Some x → IsOfHead names (codes "mend" ∷ words) x
unfolding head_words
mend_found names [] x h = cc
mend_found names (w ∷ more ∷ words) x h = cc
mend_found names (w ∷ []) x h =
    let v = made_some (λ n. Mend (record { 0 = n })) (named_in names.links w) x h in
    let is = link_found names w v.0 v.1 in
    subst (λ (y : Head). IsOfHead names (codes "mend" ∷ w ∷ []) y) (sym v.2)
    (record { spelled = cc; is = is.1 })

settle_found : (names : Names) (words : List (List ℕ)) (x : Head)
    → made (λ n. Settle (record { 0 = n })) (only words >>= named_in names.links) ≡ Some x → IsOfHead names (codes "settle" ∷ words) x
unfolding head_words
settle_found names [] x h = cc
settle_found names (w ∷ more ∷ words) x h = cc
settle_found names (w ∷ []) x h =
    let v = made_some (λ n. Settle (record { 0 = n })) (named_in names.links w) x h in
    let is = link_found names w v.0 v.1 in
    subst (λ (y : Head). IsOfHead names (codes "settle" ∷ w ∷ []) y) (sym v.2)
    (record { spelled = cc; is = is.1 })

restart_found : (names : Names) (words : List (List ℕ)) (x : Head)
    → made (λ n. Restart (record { 0 = n })) (only words >>= named_in names.nodes) ≡ Some x → IsOfHead names (codes "restart" ∷ words) x
unfolding head_words
restart_found names [] x h = cc
restart_found names (w ∷ more ∷ words) x h = cc
restart_found names (w ∷ []) x h =
    let v = made_some (λ n. Restart (record { 0 = n })) (named_in names.nodes w) x h in
    let is = node_found names w v.0 v.1 in
    subst (λ (y : Head). IsOfHead names (codes "restart" ∷ w ∷ []) y) (sym v.2)
    (record { spelled = cc; is = is.1 })

refused_found : (names : Names) (words : List (List ℕ)) (x : Head)
    → made Refused (only words >>= refusal_in) ≡ Some x → IsOfHead names (codes "refused" ∷ words) x
unfolding head_words
refused_found names [] x h = cc
refused_found names (w ∷ more ∷ words) x h = cc
refused_found names (w ∷ []) x h =
    let v = made_some Refused (refusal_in w) x h in
    let is = refusal_found w v.0 v.1 in
    subst (λ (y : Head). IsOfHead names (codes "refused" ∷ w ∷ []) y) (sym v.2)
    (record { spelled = cc; is = is.is })

close_found : (names : Names) (words : List (List ℕ)) (x : Head)
    → alone words Close ≡ Some x → IsOfHead names (codes "close" ∷ words) x
unfolding head_words
close_found names (w ∷ words) x h = cc
close_found names [] x h =
    let same : Close ≡ x = cc in
    subst (λ (y : Head). IsOfHead names (codes "close" ∷ []) y) same (record { spelled = refl; is = tt })

ended_found : (names : Names) (words : List (List ℕ)) (x : Head)
    → alone words Ended ≡ Some x → IsOfHead names (codes "ended" ∷ words) x
unfolding head_words
ended_found names (w ∷ words) x h = cc
ended_found names [] x h =
    let same : Ended ≡ x = cc in
    subst (λ (y : Head). IsOfHead names (codes "ended" ∷ []) y) same (record { spelled = refl; is = tt })

-- the words of a head that begin with this keyword
of_keyword : (names : Names) (first text : List ℕ) (words : List (List ℕ)) (head : Head)
    → bytes_eq first text ≡ true → IsOfHead names (text ∷ words) head
    → IsOfHead names (first ∷ words) head
of_keyword names first text words head holds is =
    subst (λ (w : List ℕ). IsOfHead names (w ∷ words) head) (sym (same_text first text holds)) is

outer_head_found : (names : Names) (first : List ℕ) (words : List (List ℕ)) (head : Head)
    → outer_head_in names first words ≡ Some head → IsOfHead names (first ∷ words) head
unfolding outer_head_in
outer_head_found names first words head h0 =
    choice (bytes_eq first (codes "wire")) _ _ head h0
    (λ holds h. of_keyword names first (codes "wire") words head holds (wire_found names words head h))
    (λ no0 h1.
    choice (bytes_eq first (codes "tick")) _ _ head h1
    (λ holds h. of_keyword names first (codes "tick") words head holds (tick_found names words head h))
    (λ no1 h2.
    choice (bytes_eq first (codes "cut")) _ _ head h2
    (λ holds h. of_keyword names first (codes "cut") words head holds (cut_found names words head h))
    (λ no2 h3.
    choice (bytes_eq first (codes "mend")) _ _ head h3
    (λ holds h. of_keyword names first (codes "mend") words head holds (mend_found names words head h))
    (λ no3 h4.
    choice (bytes_eq first (codes "settle")) _ _ head h4
    (λ holds h. of_keyword names first (codes "settle") words head holds (settle_found names words head h))
    (λ no4 h5.
    choice (bytes_eq first (codes "restart")) _ _ head h5
    (λ holds h. of_keyword names first (codes "restart") words head holds (restart_found names words head h))
    (λ no5 h6.
    choice (bytes_eq first (codes "refused")) _ _ head h6
    (λ holds h. of_keyword names first (codes "refused") words head holds (refused_found names words head h))
    (λ no6 h7.
    choice (bytes_eq first (codes "ended")) _ _ head h7
    (λ holds h. of_keyword names first (codes "ended") words head holds (ended_found names words head h))
    (λ no7 h8.
    cc))))))))

inner_head_found : (names : Names) (first : List ℕ) (words : List (List ℕ)) (head : Head)
    → inner_head_in names first words ≡ Some head → IsOfHead names (first ∷ words) head
unfolding inner_head_in
inner_head_found names first words head h0 =
    choice (bytes_eq first (codes "take")) _ _ head h0
    (λ holds h. of_keyword names first (codes "take") words head holds (take_found names words head h))
    (λ no0 h1.
    choice (bytes_eq first (codes "none")) _ _ head h1
    (λ holds h. of_keyword names first (codes "none") words head holds (none_found names words head h))
    (λ no1 h2.
    choice (bytes_eq first (codes "waits")) _ _ head h2
    (λ holds h. of_keyword names first (codes "waits") words head holds (waits_found names words head h))
    (λ no2 h3.
    choice (bytes_eq first (codes "open")) _ _ head h3
    (λ holds h. of_keyword names first (codes "open") words head holds (open_found names words head h))
    (λ no3 h4.
    choice (bytes_eq first (codes "close")) _ _ head h4
    (λ holds h. of_keyword names first (codes "close") words head holds (close_found names words head h))
    (λ no4 h5.
    outer_head_found names first words head h5)))))

pub head_found : (names : Names) (first : List ℕ) (words : List (List ℕ)) (head : Head)
    → head_in names first words ≡ Some head → IsOfHead names (first ∷ words) head
unfolding head_in
head_found names first words head h0 =
    choice (bytes_eq first (codes "send")) _ _ head h0
    (λ holds h. of_keyword names first (codes "send") words head holds (send_found names words head h))
    (λ no0 h1.
    choice (bytes_eq first (codes "hunt")) _ _ head h1
    (λ holds h. of_keyword names first (codes "hunt") words head holds (hunt_found names words head h))
    (λ no1 h2.
    choice (bytes_eq first (codes "attach")) _ _ head h2
    (λ holds h. of_keyword names first (codes "attach") words head holds (attach_found names words head h))
    (λ no2 h3.
    choice (bytes_eq first (codes "detach")) _ _ head h3
    (λ holds h. of_keyword names first (codes "detach") words head holds (detach_found names words head h))
    (λ no3 h4.
    inner_head_found names first words head h4))))
