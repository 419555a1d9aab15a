-- Peers, paths, makers, positions and references are read from their spelling alone.
use Rattle.std.proofs.Common.{subst, inl, inr, ◌≡◌, ℕ, ◌≤◌, Bool, true, false, cond, List, [], ◌∷◌}
use Rattle.std.proofs.Common.{◌++◌, refl, sym, ap, ◌∙◌, Option, Some, None, arith, ◌==◌, decimal}
use Rattle.std.proofs.Common.{codes, eqb-true, eq-eqb}
use Rattle.std.specs.Char.{is_ascii_digit}
use Rattle.std.proofs.lemmas.Bool.{cond-true, cond-false, cases_Bool}
use Rattle.linx_base.specs.NameText.{is_name}
use Rattle.linx_base.specs.declared.identity.ItemAt.{ItemAt}
use Rattle.linx_base.specs.declared.identity.Inc.{Inc}
use Rattle.linx_base.specs.declared.identity.LinkNo.{LinkNo}
use Rattle.linx_base.specs.declared.identity.Session.{Session}
use Rattle.linx_base.specs.declared.identity.Peer.{Peer}
use Rattle.linx_base.specs.declared.identity.Peer.TheVariants.{Here, There}
use Rattle.linx_base.specs.declared.name.Names.{Names}
use Rattle.linx_base.specs.declared.name.Path.{Path}
use Rattle.linx_base.specs.declared.name.Path.TheVariants.{Local, Over}
use Rattle.journal.specs.declared.by.By.{By}
use Rattle.journal.specs.declared.by.By.TheVariants.{Actor, Pump}
use Rattle.journal_text.specs.Values.{halves_text, link_text, peer_text, path_text, maker_text}
use Rattle.journal_text.specs.Values.{position_text, reference_text}
use Rattle.text_words.specs.Gives.{◌>>=◌, made}
use Rattle.journal_words.specs.Names.{named_in, name_in}
use Rattle.text_words.specs.Numbers.{half_limit, whole_limit, u32_in, u64_in, halves_in}
use Rattle.journal_words.specs.Peers.{there_by, peer_by, peer_in, path_by, path_in, maker_in}
use Rattle.journal_words.specs.Peers.{position_by, position_in, reference_in}
use Rattle.text_words.specs.Words.{cut_at}
use Rattle.reading_laws.specs.Forms.{AreNames, IsLink, IsPeer, IsPath, IsMaker, IsPosition}
use Rattle.reading_laws.proofs.Tools.{bind_some, made_some, if_some_yes}
use Rattle.reading_laws.proofs.Cuts.{seam, seams, class_lacks, cut_again, cut_found, cut_nowhere}
use Rattle.reading_laws.proofs.NumberLaws.{digits_all, number_again, number_found, halves_again}
use Rattle.reading_laws.proofs.NumberLaws.{halves_found}
use Rattle.reading_laws.proofs.NameLaws.{name_again, name_found, link_found, link_is_name}
use Rattle.reading_laws.proofs.NameLaws.{bytes_lack, bytes_of_name, halves_lack}

pub u32_again : (n : ℕ) → n ≤ half_limit → u32_in (decimal n) ≡ Some n
u32_again n fits = number_again half_limit n fits (omega arith)

pub u32_found : (n : ℕ) (word : List ℕ) → u32_in word ≡ Some n
    → (word ≡ decimal n) × (n ≤ half_limit)
u32_found n word h = number_found half_limit n word (omega arith) h

pub u64_again : (n : ℕ) → n ≤ whole_limit → u64_in (decimal n) ≡ Some n
u64_again n fits = number_again whole_limit n fits (omega arith)

pub u64_found : (n : ℕ) (word : List ℕ) → u64_in word ≡ Some n
    → (word ≡ decimal n) × (n ≤ whole_limit)
u64_found n word h = number_found whole_limit n word (omega arith) h

-- ---- peers

pub here_spelled : (names : Names) (inc : Inc) → peer_text names (Here inc) ≡ halves_text inc.0
unfolding peer_text
here_spelled names inc = refl

pub there_spelled : (names : Names) (link : LinkNo) (session : Session) (inc : Inc)
    → peer_text names (There link session inc)
    ≡ link_text names link.0 ++ 58 ∷ (halves_text session.0 ++ 58 ∷ halves_text inc.0)
unfolding peer_text
there_spelled names link session inc =
    seams (link_text names link.0) (halves_text session.0) (halves_text inc.0) 58

there_read : (names : Names) (link : LinkNo) (session : Session) (inc : Inc)
    → IsLink names link.0 → session.0 ≤ whole_limit → inc.0 ≤ whole_limit
    → there_by names (link_text names link.0) (halves_text session.0, halves_text inc.0)
    ≡ Some (There link session inc)
there_read names link session inc l s i = rw (l, halves_again session.0 s, halves_again inc.0 i) refl

pub peer_again : (names : Names) (peer : Peer) → AreNames names → IsPeer names peer
    → peer_in names (peer_text names peer) ≡ Some peer
unfolding peer_in
peer_again names (Here inc) are is =
    ap (peer_in names) (here_spelled names inc) ∙ ap (peer_by names (halves_text inc.0)) (cut_nowhere 58 (halves_text inc.0) (halves_lack 58 inc.0 refl is))
    ∙ ap (made (λ n. Here (record { 0 = n }))) (halves_again inc.0 is)
peer_again names (There link session inc) are is =
    let name = link_text names link.0 in
    let behind = halves_text session.0 ++ 58 ∷ halves_text inc.0 in
    let none = bytes_lack 58 name refl (bytes_of_name name (link_is_name names link.0 are is.0)) in
    let first = cut_again 58 name behind none in
    let second =
    cut_again 58 (halves_text session.0) (halves_text inc.0) (halves_lack 58 session.0 refl is.1)
    in
    ap (peer_in names) (there_spelled names link session inc)
    ∙ ap (peer_by names (name ++ 58 ∷ behind)) first
    ∙ ap (λ (o : Option (List ℕ × List ℕ)). o >>= there_by names name) second
    ∙ there_read names link session inc is.0 is.1 is.2

-- a word that spells a peer
pub record IsOfPeer (names : Names) (word : List ℕ) (peer : Peer) : Type 0 where
  pub spelled : word ≡ peer_text names peer
  pub is : IsPeer names peer

here_found : (names : Names) (word : List ℕ) (n : ℕ) → halves_in word ≡ Some n
    → IsOfPeer names word (Here (record { 0 = n }))
here_found names word n h =
    let found = halves_found n word h in
    record { spelled = found.0 ∙ sym (here_spelled names (record { 0 = n })); is = found.1 }

-- the parts of a word that spell one over a link
there_joined : (names : Names) (word : List ℕ) (first second : List ℕ × List ℕ) (l s i : ℕ)
    → word ≡ first.0 ++ 58 ∷ first.1 → first.1 ≡ second.0 ++ 58 ∷ second.1
    → first.0 ≡ link_text names l → second.0 ≡ halves_text s → second.1 ≡ halves_text i
    → word ≡ peer_text names (There (record { 0 = l }) (record { 0 = s }) (record { 0 = i }))
there_joined names word first second l s i front back link session inc =
    front ∙ rw (back, link, session, inc)
    (sym (there_spelled names (record { 0 = l }) (record { 0 = s }) (record { 0 = i })))

there_found : (names : Names) (word : List ℕ) (peer : Peer) (first second : List ℕ × List ℕ)
    → word ≡ first.0 ++ 58 ∷ first.1 → first.1 ≡ second.0 ++ 58 ∷ second.1
    → there_by names first.0 second ≡ Some peer → IsOfPeer names word peer
there_found names word peer first second front back h =
    let l = bind_some (named_in names.links first.0) _ peer h in
    let s = bind_some (halves_in second.0) _ peer l.2 in
    let i = bind_some (halves_in second.1) _ peer s.2 in
    let link = link_found names first.0 l.0 l.1 in
    let session = halves_found s.0 second.0 s.1 in
    let inc = halves_found i.0 second.1 i.1 in
    let same : There (record { 0 = l.0 }) (record { 0 = s.0 }) (record { 0 = i.0 }) ≡ peer = cc in
    subst (λ (p : Peer). IsOfPeer names word p) same (record {
      spelled =
          there_joined names word first second l.0 s.0 i.0 front back link.0 session.0 inc.0;
      is = (link.1, session.1, inc.1);
    })

peer_cut : (names : Names) (word : List ℕ) (peer : Peer) (parts : Option (List ℕ × List ℕ))
    → cut_at 58 word ≡ parts → peer_by names word parts ≡ Some peer → IsOfPeer names word peer
peer_cut names word peer None at h =
    let n = made_some _ (halves_in word) peer h in
    subst (λ (p : Peer). IsOfPeer names word p) (sym n.2) (here_found names word n.0 n.1)
peer_cut names word peer (Some parts) at h =
    let second = bind_some (cut_at 58 parts.1) (there_by names parts.0) peer h in
    there_found names word peer parts second.0 (cut_found 58 word parts at)
    (cut_found 58 parts.1 second.0 second.1) second.2

pub peer_found : (names : Names) (word : List ℕ) (peer : Peer) → peer_in names word ≡ Some peer
    → IsOfPeer names word peer
unfolding peer_in
peer_found names word peer h = peer_cut names word peer (cut_at 58 word) refl h

-- ---- paths

pub local_spelled : (names : Names) (name : List ℕ) → path_text names (Local name) ≡ name
unfolding path_text
local_spelled names name = refl

pub over_spelled : (names : Names) (link : LinkNo) (name : List ℕ)
    → path_text names (Over link name) ≡ link_text names link.0 ++ 47 ∷ name
unfolding path_text
over_spelled names link name = seam (link_text names link.0) name 47

over_read : (names : Names) (link : LinkNo) (name : List ℕ) → IsLink names link.0
    → is_name name ≡ true → path_by names [] (Some (link_text names link.0, name))
    ≡ Some (Over link name)
over_read names link name l is = rw (l, name_again name is) refl

-- the parts of a word that spell a path over a link
over_joined : (names : Names) (word : List ℕ) (parts : List ℕ × List ℕ) (l : ℕ) (name : List ℕ)
    → word ≡ parts.0 ++ 47 ∷ parts.1 → parts.0 ≡ link_text names l → parts.1 ≡ name
    → word ≡ path_text names (Over (record { 0 = l }) name)
over_joined names word parts l name cut link is =
    cut ∙ rw (link, is) (sym (over_spelled names (record { 0 = l }) name))

pub path_again : (names : Names) (path : Path) → AreNames names → IsPath names path
    → path_in names (path_text names path) ≡ Some path
unfolding path_in
path_again names (Local name) are is =
    ap (path_in names) (local_spelled names name) ∙ ap (path_by names name) (cut_nowhere 47 name (bytes_lack 47 name refl (bytes_of_name name is)))
    ∙ ap (made Local) (name_again name is)
path_again names (Over link name) are is =
    let first = link_text names link.0 in
    let none = bytes_lack 47 first refl (bytes_of_name first (link_is_name names link.0 are is.0)) in
    ap (path_in names) (over_spelled names link name)
    ∙ ap (path_by names (first ++ 47 ∷ name)) (cut_again 47 first name none)
    ∙ over_read names link name is.0 is.1

pub record IsOfPath (names : Names) (word : List ℕ) (path : Path) : Type 0 where
  pub spelled : word ≡ path_text names path
  pub is : IsPath names path

local_found : (names : Names) (word name : List ℕ) → name_in word ≡ Some name
    → IsOfPath names word (Local name)
local_found names word name h =
    let found = name_found word name h in
    record { spelled = found.0 ∙ sym (local_spelled names name); is = found.1 }

over_found : (names : Names) (word : List ℕ) (path : Path) (parts : List ℕ × List ℕ)
    → word ≡ parts.0 ++ 47 ∷ parts.1 → path_by names word (Some parts) ≡ Some path
    → IsOfPath names word path
over_found names word path parts cut h =
    let l = bind_some (named_in names.links parts.0) _ path h in
    let n = bind_some (name_in parts.1) _ path l.2 in
    let link = link_found names parts.0 l.0 l.1 in
    let name = name_found parts.1 n.0 n.1 in
    let same : Over (record { 0 = l.0 }) n.0 ≡ path = cc in
    subst (λ (p : Path). IsOfPath names word p) same (record {
      spelled = over_joined names word parts l.0 n.0 cut link.0 name.0;
      is = (link.1, name.1);
    })

path_cut : (names : Names) (word : List ℕ) (path : Path) (parts : Option (List ℕ × List ℕ))
    → cut_at 47 word ≡ parts → path_by names word parts ≡ Some path → IsOfPath names word path
path_cut names word path None at h =
    let n = made_some Local (name_in word) path h in
    subst (λ (p : Path). IsOfPath names word p) (sym n.2) (local_found names word n.0 n.1)
path_cut names word path (Some parts) at h =
    over_found names word path parts (cut_found 47 word parts at) h

pub path_found : (names : Names) (word : List ℕ) (path : Path) → path_in names word ≡ Some path
    → IsOfPath names word path
unfolding path_in
path_found names word path h = path_cut names word path (cut_at 47 word) refl h

-- ---- makers

pub maker_again : (by : By) → IsMaker by → maker_in (maker_text by) ≡ Some by
unfolding maker_in maker_text
maker_again (Actor k) is = ap (made Actor) (u32_again k is)
maker_again (Pump link) is = ap (made (λ n. Pump (record { 0 = n }))) (u32_again link.0 is)

pub record IsOfMaker (word : List ℕ) (by : By) : Type 0 where
  pub spelled : word ≡ maker_text by
  pub is : IsMaker by

actor_found : (b : ℕ) (digits : List ℕ) (k : ℕ) → b ≡ 65 → u32_in digits ≡ Some k
    → IsOfMaker (b ∷ digits) (Actor k)
unfolding maker_text
actor_found b digits k first h =
    let found = u32_found k digits h in
    record { spelled = cc; is = found.1 }

pump_found : (b : ℕ) (digits : List ℕ) (k : ℕ) → b ≡ 80 → u32_in digits ≡ Some k
    → IsOfMaker (b ∷ digits) (Pump (record { 0 = k }))
unfolding maker_text
pump_found b digits k first h =
    let found = u32_found k digits h in
    record { spelled = cc; is = found.1 }

pub maker_found : (word : List ℕ) (by : By) → maker_in word ≡ Some by → IsOfMaker word by
unfolding maker_in
maker_found [] by h = cc
maker_found (b ∷ digits) by h =
    elim (cases_Bool (b == 65)) [
      | inl holds ↦
          let k = made_some Actor (u32_in digits) by (sym (cond-true _ _ _ holds) ∙ h) in
          subst (λ (x : By). IsOfMaker (b ∷ digits) x) (sym k.2)
          (actor_found b digits k.0 (eqb-true b 65 holds) k.1)
      | inr fails ↦
          let link = made (λ n. Pump (record { 0 = n })) (u32_in digits) in
          let chosen = if_some_yes (b == 80) link by (sym (cond-false _ _ _ fails) ∙ h) in
          let k = made_some (λ n. Pump (record { 0 = n })) (u32_in digits) by chosen.1 in
          subst (λ (x : By). IsOfMaker (b ∷ digits) x) (sym k.2)
          (pump_found b digits k.0 (eqb-true b 80 chosen.0) k.1)
    ]

-- ---- positions and references

pub position_spelled : (at : ItemAt) → position_text at ≡ decimal at.step ++ 46 ∷ decimal at.place
unfolding position_text
position_spelled at = seam (decimal at.step) (decimal at.place) 46

position_read : (at : ItemAt) → at.step ≤ whole_limit → at.place ≤ whole_limit
    → position_by (decimal at.step, decimal at.place) ≡ Some at
position_read at s p = rw (u64_again at.step s, u64_again at.place p) refl

position_joined : (word : List ℕ) (parts : List ℕ × List ℕ) (s p : ℕ)
    → word ≡ parts.0 ++ 46 ∷ parts.1 → parts.0 ≡ decimal s → parts.1 ≡ decimal p
    → word ≡ position_text (record { step = s; place = p })
position_joined word parts s p cut step place =
    cut ∙ rw (step, place) (sym (position_spelled (record { step = s; place = p })))

pub position_again : (at : ItemAt) → IsPosition at → position_in (position_text at) ≡ Some at
unfolding position_in
position_again at is =
    let none = class_lacks is_ascii_digit 46 (decimal at.step) refl (digits_all at.step is.0) in
    ap position_in (position_spelled at)
    ∙ ap (λ (o : Option (List ℕ × List ℕ)). o >>= position_by)
    (cut_again 46 (decimal at.step) (decimal at.place) none)
    ∙ position_read at is.0 is.1

pub record IsOfPosition (word : List ℕ) (at : ItemAt) : Type 0 where
  pub spelled : word ≡ position_text at
  pub is : IsPosition at

pub position_found : (word : List ℕ) (at : ItemAt) → position_in word ≡ Some at
    → IsOfPosition word at
unfolding position_in
position_found word at h =
    let parts = bind_some (cut_at 46 word) position_by at h in
    let cut = cut_found 46 word parts.0 parts.1 in
    let s = bind_some (u64_in parts.0.0) _ at parts.2 in
    let p = bind_some (u64_in parts.0.1) _ at s.2 in
    let step = u64_found s.0 parts.0.0 s.1 in
    let place = u64_found p.0 parts.0.1 p.1 in
    let same : record { step = s.0; place = p.0 } ≡ at = cc in
    subst (λ (x : ItemAt). IsOfPosition word x) same (record {
      spelled = position_joined word parts.0 s.0 p.0 cut step.0 place.0;
      is = (step.1, place.1);
    })

pub reference_again : (step : ℕ) → step ≤ whole_limit
    → reference_in (reference_text step) ≡ Some step
unfolding reference_in reference_text
reference_again step fits = u64_again step fits

pub reference_found : (word : List ℕ) (step : ℕ) → reference_in word ≡ Some step
    → (word ≡ reference_text step) × (step ≤ whole_limit)
unfolding reference_in reference_text
reference_found [] step h = cc
reference_found (b ∷ digits) step h =
    let chosen = if_some_yes (b == 64) (u64_in digits) step h in
    let first : b ≡ 64 = eqb-true b 64 chosen.0 in
    let found = u64_found step digits chosen.1 in
    (cc, found.1)
