-- What holds of a trunk holds after each event at its first side.
use Rattle.std.proofs.Common.{◌≡◌, ◌≢◌, ◌<◌, Bool, true, false, List, [], ◌∷◌, ◌++◌, Option, Some}
use Rattle.std.proofs.Common.{None, map, arith, refl, sym, ◌∙◌, ap, subst, IsSome, if◌then◌else◌}
use Rattle.std.proofs.Common.{is_some}
use Rattle.std.specs.List.{AllByRecursion}
use Rattle.linx_base.specs.Fronts.{IsFront}
use Rattle.linx_base.specs.Numbers.{next_session}
use Rattle.linx_base.specs.declared.frame.Message.{Message}
use Rattle.linx_base.specs.declared.identity.Session.{Session}
use Rattle.ethcm_end.specs.States.{peer_of}
use Rattle.carrier.specs.Records.{HalfState, entries, mine_of, source}
use Rattle.carrier.specs.Events.{LinkState}
use Rattle.carrier.specs.Keeping.{KeepsLink}
use Rattle.carrier.specs.Laws.{GoesDownFrom, GoesUpWith, HandsUp, RecordsNothing, StaysBound}
use Rattle.carrier.specs.Laws.{TellsRightly}
use Rattle.carrier.specs.declared.handed.Handed.{Handed}
use Rattle.carrier.specs.declared.handed.Handed.TheVariants.{Nothing, WentUp, WentDown, Got}
use Rattle.carrier.proofs.Promising.{promises}
use Rattle.trunk_record.specs.Records.{SideRecord}
use Rattle.trunk_record.specs.Sayings.{Given, Said}
use Rattle.trunk_record.specs.Changes.{beginning, going_up}
use Rattle.trunk_record.specs.Changes as changes
use Rattle.rlnh_end.specs.declared.heard.Heard.{Heard}
use Rattle.rlnh_end.specs.States.{RlnhState, RlnhTables}
use Rattle.rlnh_end.specs.Words.{Word, hello, message_of}
use Rattle.rlnh_end.specs.Calls.{Saying, after, begin_of}
use Rattle.rlnh_end.specs.Hearing.{IsRead, hears}
use Rattle.rlnh_laws.specs.Meanings.{given_for, heard_of, saids}
use Rattle.rlnh_laws.specs.Ties.{Talk}
use Rattle.rlnh_laws.specs.Talks.{Grows, Right, heard_word, said_more}
use Rattle.rlnh_laws.proofs.Speaking.{saids-append}
use Rattle.trunk.specs.Events.{IsReading, TrunkSide, TrunkState, given_for_heard, giving_all}
use Rattle.trunk.specs.Events.{near_down, near_heard, near_offers, near_pumped, near_said}
use Rattle.trunk.specs.Events.{near_says, near_took, near_up, with_link}
use Rattle.trunk.specs.Keeping.{AllMirror, KeepsSide, KeepsTrunk, messages_of}
use Rattle.trunk.specs.Talks.{FitsWord, KeepsTalks, IsSoundSession, MeetsLive, Talks}
use Rattle.trunk.specs.Talks.{all_talks, is_peer, partner, record_of, side_record}
use Rattle.trunk.proofs.Sessions.Growing.{KeepBothTalks, both_hears, both_says, next_right}
use Rattle.trunk.proofs.Sessions.Growing.{with_now}
use Rattle.trunk.proofs.Sessions.MetPeers.{meets_none}
use Rattle.trunk.proofs.Sessions.Messages.{got_word, messages-append}
use Rattle.trunk.proofs.Messages.Offers.{Offered, offers, out_words}
use Rattle.trunk.proofs.Messages.Reading.{given_word, messages_fit, read_word, reply_silent}
use Rattle.trunk.proofs.Sessions.OneSession.{SaysSoundly, all_words, fits_none, fresh_sound}
use Rattle.trunk.proofs.Sessions.OneSession.{heard_sound, hears_word, said_sound}
use Rattle.trunk.proofs.Sessions.Turns.{both_begin, both_next, next_talks, up_with}

-- ---- the words of a trunk

pub both_of : (t : TrunkState) (k : KeepsTrunk t) → KeepBothTalks k.near k.far
both_of t k = record { near = k.first.half; far = k.second.half }

-- the other side keeps what it keeps where this one's words go on
far_side : (s : TrunkSide) (h : HalfState) (A B C : Talks) → KeepsSide s h B A → KeepsTalks B C
    → KeepsSide s h B C
far_side s h A B C k half =
    record {
      half = half;
      sound = k.sound;
      mirrors = k.mirrors;
      tables = k.tables;
      out = k.out;
      kept = k.kept;
    }

-- ---- the first side comes to another talk, and offers words

-- a half of a link to which the words are still to be offered, and the talk that it comes to
pub record ComesTo (c : HalfState) (A B : Talks) (g : Talk) (says : List Word) : Type 0 where
  pub both : KeepBothTalks (with_now A g) B
  pub sound : IsSoundSession g
  pub fits : AllByRecursion FitsWord says
  pub number : c.end.talk.mine ≡ g.number
  pub peer : peer_of c.end ≡ g.peer
  pub offered : c.offered ++ messages_of says ≡ messages_of g.words
  pub handed : c.handed ≡ messages_of g.heard
  pub past : AllMirror c.past A.earlier

-- an RLNH end that has these words to say
pub record HasToSay (s : RlnhState) (g : Talk) (says : List Word) : Type 0 where
  pub tables : s.tables ≡ g.end
  pub out : s.out ≡ messages_of says

pub pumped_keeps : (t : TrunkState) (k : KeepsTrunk t) (v : LinkState) (s : RlnhState)
    (kept : SideRecord) (g : Talk) (says : List Word) → KeepsLink v
    → v.second ≡ t.link.second → IsSome (peer_of v.first.end)
    → ComesTo v.first k.near k.far g says → HasToSay s g says
    → kept ≡ side_record (with_now k.near g) → KeepsTrunk (near_pumped (with_link t v) s kept)
pumped_keeps t k v s kept g says kv same up c has is =
    let o : Offered v (near_offers v s.out) (messages_of says) =
    subst (λ ms. Offered v (near_offers v ms) (messages_of says))
    (sym has.out) (offers v (messages_of says) up (messages_fit says c.fits) kv) in
    record {
      link = o.keeps;
      near = with_now k.near g;
      far = k.far;
      first =
          record {
            half = c.both.near;
            sound = (c.sound, k.first.sound.1);
            mirrors = (
              record {
                number = o.near.session ∙ c.number;
                peer = o.near.peer ∙ c.peer;
                offered = o.near.offered ∙ c.offered;
                handed = o.near.handed ∙ c.handed;
              },
              subst (λ es. AllMirror es k.near.earlier) (sym o.near.past) c.past,
            );
            tables = has.tables;
            out = refl;
            kept = is;
          };
      second = subst (λ h. KeepsSide t.second h k.far (with_now k.near g))
          (sym (o.far ∙ same))
          (far_side t.second t.link.second k.near k.far (with_now k.near g) k.second c.both.far);
    }

-- ---- it says something of its own accord

-- the record of a side, whose present session has this peer and this said and given
abbrev with_present : Talks → Option Session → List Said → List Given → SideRecord
with_present A peer said given =
    record {
      now =
          record {
            session = A.now.number;
            peer = peer;
            said = said;
            given = given;
          };
      earlier = map record_of A.earlier;
    }

some_peer : (o p : Option Session) → o ≡ p → IsSome o → p ≢ None
some_peer o p same up none =
    let is : IsSome {T = Session} None = subst (λ q. IsSome q) (same ∙ none) up in absurd cc

pub says_keeps : (t : TrunkState) (k : KeepsTrunk t) (made : Saying)
    → IsSome (peer_of t.link.first.end) → Grows k.near.now (said_more k.near.now made)
    → SaysSoundly k.near.now.end made → KeepsTrunk (near_says t made)
says_keeps t k made up grows sound =
    let A = k.near in
    let m = k.first.mirrors.0 in
    pumped_keeps t k t.link (after t.first.end made)
    (changes.saying (saids made.says) t.first.kept) (said_more A.now made) made.says k.link refl up
    (record {
      both = both_says A k.far (said_more A.now made) (both_of t k) grows
          (some_peer (peer_of t.link.first.end) A.now.peer m.peer up);
      sound = said_sound A.now made k.first.sound.0 sound;
      fits = sound.says;
      number = m.number;
      peer = m.peer;
      offered = ap (λ ms. ms ++ messages_of made.says) m.offered
          ∙ sym (messages-append A.now.words made.says);
      handed = m.handed;
      past = k.first.mirrors.1;
    })
    (record {
      tables = refl;
      out = out_words t.first.end.out made.says
          ∙ ap (λ ms. ms ++ messages_of made.says) k.first.out;
    })
    (ap (λ r. changes.saying (saids made.says) r) k.first.kept
    ∙ ap (λ s. with_present A A.now.peer s A.now.given) (sym (saids-append A.now.words made.says)))

-- a side that isn't up says nothing
pub said_keeps : (t : TrunkState) (made : Saying) → KeepsTrunk t
    → (IsSome (peer_of t.link.first.end) → KeepsTrunk (near_says t made))
    → KeepsTrunk (near_said t made)
said_keeps t made k says = by_peer (is_some (peer_of t.link.first.end)) refl
  where
    by_peer : (b : Bool) → is_some (peer_of t.link.first.end) ≡ b
        → KeepsTrunk (if b then near_says t made else t)
    by_peer true up = says up
    by_peer false down = k

-- ---- it goes up

pub up_keeps : (t : TrunkState) (k : KeepsTrunk t) (v : LinkState) (session peer : Session)
    → KeepsLink v → v.second ≡ t.link.second
    → GoesUpWith t.link.first v.first session peer → KeepsTrunk (near_up (with_link t v) peer)
up_keeps t k v session peer kv same goes =
    let A = k.near in
    let m = k.first.mirrors.0 in
    let down : A.now.peer ≡ None = sym m.peer ∙ goes.was_connecting in
    let blank = k.first.half.holds.0.blank down in
    let g : Talk = said_more (up_with A.now peer) begin_of in
    pumped_keeps t k v (after t.first.end begin_of) (going_up peer t.first.kept) g (hello ∷ [])
    kv same (subst (λ p. IsSome p) (sym goes.up) refl)
    (record {
      both = both_begin A k.far peer (both_of t k) down;
      sound =
          record {
            words = all_words A.now.words (hello ∷ []) k.first.sound.0.words
                (record { has_address = tt; fits_fields = tt }, tt);
            tables = fits_none;
            meets = subst (λ ws. MeetsLive [] (saids ws))
                (sym blank.heard) meets_none;
            in_turn = k.first.sound.0.in_turn;
          };
      fits = (record { has_address = tt; fits_fields = tt }, tt);
      number = goes.stays ∙ m.number;
      peer = goes.up;
      offered = ap (λ ms. ms ++ messages_of (hello ∷ [])) (goes.records.offered ∙ m.offered)
          ∙ sym (messages-append A.now.words (hello ∷ []));
      handed = goes.records.handed ∙ m.handed;
      past = subst (λ es. AllMirror es A.earlier) (sym goes.records.past) k.first.mirrors.1;
    })
    (record {
      tables = refl;
      out = out_words t.first.end.out (hello ∷ [])
          ∙ ap (λ ms. ms ++ messages_of (hello ∷ [])) k.first.out;
    })
    (ap (λ r. going_up peer r) k.first.kept
    ∙ ap (λ s. with_present A (Some peer) s A.now.given)
    (sym (saids-append A.now.words (hello ∷ []))))

-- ---- its session ends, and the next one begins

pub down_keeps : (t : TrunkState) (k : KeepsTrunk t) (v : LinkState) (x : Session)
    → KeepsLink v → v.second ≡ t.link.second → mine_of t.link.first < x.0
    → v.first.end.talk.mine ≡ x → peer_of v.first.end ≡ None → v.first.offered ≡ []
    → v.first.handed ≡ [] → v.first.past ≡ entries t.link.first
    → KeepsTrunk (near_down (with_link t v) x)
down_keeps t k v x kv same above mine down offered handed past =
    let A = k.near in
    let both = both_next A k.far x (both_of t k)
    (subst (λ s. s.0 < x.0) k.first.mirrors.0.number above) in
    record {
      link = kv;
      near = next_talks A x;
      far = k.far;
      first =
          record {
            half = both.near;
            sound = (fresh_sound x, k.first.sound);
            mirrors = (
              record { number = mine; peer = down; offered = offered; handed = handed },
              subst (λ es. AllMirror es (all_talks A)) (sym past) k.first.mirrors,
            );
            tables = refl;
            out = k.first.out;
            kept = ap (λ r. beginning x r) k.first.kept;
          };
      second = subst (λ h. KeepsSide t.second h k.far (next_talks A x)) (sym same)
          (far_side t.second t.link.second A k.far (next_talks A x) k.second both.far);
    }

-- ---- a message comes to it

-- a word that the other side said fits
said_fits : (xs ys zs : List Word) (w : Word) → zs ≡ xs ++ w ∷ ys → AllByRecursion FitsWord zs
    → FitsWord w
said_fits [] ys zs w e fits = (subst (AllByRecursion FitsWord) e fits).0
said_fits (x ∷ xs) ys [] w e fits = absurd cc
said_fits (x ∷ xs) ys (z ∷ zs) w e fits =
    said_fits xs ys zs w (let t : zs ≡ xs ++ w ∷ ys = cc in t) fits.1

partner_fits : (e : Talk) (fs : List Talk) → AllByRecursion IsSoundSession fs
    → AllByRecursion FitsWord (partner e fs).words
partner_fits e [] sound = tt
partner_fits e (f ∷ fs) sound =
    elim (is_peer e f)
    as (λ b. AllByRecursion FitsWord (if b then f else partner e fs).words)
    [ true ↦ sound.0.words | false ↦ partner_fits e fs sound.1 ]

-- what is known of a message that came to the first side of a trunk
pub record Comes (t : TrunkState) (k : KeepsTrunk t) (m : Message) : Type 0 where
  pub word : Word
  pub later : List Word
  pub message : message_of word ≡ m
  pub next : (partner k.near.now (all_talks k.far)).words ≡ k.near.now.heard ++ word ∷ later
  pub fits : FitsWord word
  pub read : (heard : Heard) → IsRead m heard → heard ≡ heard_of word
  pub right : Right (partner k.near.now (all_talks k.far)) k.near.now word
      (hears k.near.now.end (heard_of word))
  pub given : given_for word
      (hears k.near.now.end (heard_of word)).up ≡ given_for_heard k.near.now.end (heard_of word)

-- the front of what its peer offered
front_now : (t : TrunkState) (v : LinkState) (m : Message) → KeepsLink v
    → v.second ≡ t.link.second → HandsUp t.link.first v.first t.link.second m
    → IsFront (t.link.first.handed ++ m ∷ [])
    (source (entries t.link.second) (mine_of t.link.first) (peer_of t.link.first.end))
front_now t v m kv same h =
    let front = (promises v kv).first.fronts.0 in
    subst (λ ms. IsFront ms
    (source (entries t.link.second) (mine_of t.link.first) (peer_of t.link.first.end))) h.handed
    (subst (λ (s : Session). IsFront v.first.handed
    (source (entries t.link.second) s.0 (peer_of t.link.first.end))) h.stays.session
    (subst (λ p. IsFront v.first.handed (source (entries t.link.second) (mine_of v.first) p))
    h.stays.peer
    (subst (λ b. IsFront v.first.handed
    (source (entries b) (mine_of v.first) (peer_of v.first.end))) same front)))

pub comes : (t : TrunkState) (k : KeepsTrunk t) (v : LinkState) (m : Message) → KeepsLink v
    → v.second ≡ t.link.second → HandsUp t.link.first v.first t.link.second m → Comes t k m
comes t k v m kv same h =
    let A = k.near in
    let B = k.far in
    let both = both_of t k in
    let found = got_word t.link.first t.link.second A B m k.first.mirrors k.second.mirrors both
    (front_now t v m kv same h) in
    let w = found.word in
    let right = next_right A B w found.later both found.next in
    let fits = said_fits A.now.heard found.later (partner A.now (all_talks B)).words w found.next
    (partner_fits A.now (all_talks B) k.second.sound) in
    record {
      word = w;
      later = found.later;
      message = found.message;
      next = found.next;
      fits = fits;
      read = λ heard read. read_word w m heard fits found.message read;
      right = right;
      given = given_word w (hears A.now.end (heard_of w)).up right.understands;
    }

pub heard_keeps : (t : TrunkState) (k : KeepsTrunk t) (v : LinkState) (m : Message)
    (heard : Heard) → KeepsLink v → v.second ≡ t.link.second
    → HandsUp t.link.first v.first t.link.second m → IsRead m heard
    → KeepsTrunk (near_heard (with_link t v) heard)
heard_keeps t k v m heard kv same h read =
    let A = k.near in
    let mirror = k.first.mirrors.0 in
    let c = comes t k v m kv same h in
    let w = c.word in
    let r = hears A.now.end (heard_of w) in
    let sound = k.first.sound.0 in
    let replies = hears_word A.now.end (saids A.now.heard) w sound.tables sound.meets
    k.first.half.holds.0.alone.apart c.fits c.right.understands in
    let up : IsSome (peer_of t.link.first.end) =
    subst (λ p. IsSome p) (sym h.paired.1) refl in
    let silent : saids (A.now.words ++ r.made.says) ≡ saids A.now.words =
    saids-append A.now.words r.made.says
    ∙ ap (λ s. s ++ saids A.now.words) (reply_silent A.now.end (heard_of w)) in
    let goes : KeepsTrunk (near_pumped (with_link t v) (after t.first.end r.made)
    (giving_all (given_for_heard A.now.end (heard_of w)) t.first.kept)) =
    pumped_keeps t k v (after t.first.end r.made)
    (giving_all (given_for_heard A.now.end (heard_of w)) t.first.kept) (heard_word A.now w)
    r.made.says kv same (subst (λ p. IsSome p) (sym h.stays.peer) up)
    (record {
      both = both_hears A k.far w c.later (both_of t k)
          (some_peer (peer_of t.link.first.end) A.now.peer mirror.peer up) c.next;
      sound = heard_sound (partner A.now (all_talks k.far)) A.now w sound
          k.first.half.holds.0.alone c.fits c.right;
      fits = replies.says;
      number = h.stays.session ∙ mirror.number;
      peer = h.stays.peer ∙ mirror.peer;
      offered = ap (λ ms. ms ++ messages_of r.made.says) (h.offered ∙ mirror.offered)
          ∙ sym (messages-append A.now.words r.made.says);
      handed = h.handed ∙ ap (λ ms. ms ++ m ∷ []) mirror.handed
          ∙ ap (λ x. messages_of A.now.heard ++ x ∷ []) (sym c.message)
          ∙ sym (messages-append A.now.heard (w ∷ []));
      past = subst (λ es. AllMirror es A.earlier) (sym h.past) k.first.mirrors.1;
    })
    (record {
      tables = refl;
      out = out_words t.first.end.out r.made.says
          ∙ ap (λ ms. ms ++ messages_of r.made.says) k.first.out;
    })
    (ap (λ x. giving_all (given_for_heard A.now.end (heard_of w)) x) k.first.kept
    ∙ ap (λ s. with_present A A.now.peer s
    (given_for_heard A.now.end (heard_of w) ++ A.now.given)) (sym silent)
    ∙ ap (λ g. with_present A A.now.peer (saids (A.now.words ++ r.made.says)) (g ++ A.now.given))
    (sym c.given))
    in
    subst (λ (x : RlnhTables). KeepsTrunk (near_pumped (with_link t v)
    (after t.first.end (hears x heard).made) (giving_all (given_for_heard x heard) t.first.kept)))
    (sym k.first.tables)
    (subst (λ x. KeepsTrunk (near_pumped (with_link t v)
    (after t.first.end (hears A.now.end x).made)
    (giving_all (given_for_heard A.now.end x) t.first.kept)))
    (sym (c.read heard read)) goes)

-- ---- it stays in its session

pub stays_keeps : (t : TrunkState) → KeepsTrunk t → (v : LinkState) → KeepsLink v
    → v.second ≡ t.link.second → StaysBound t.link.first v.first
    → RecordsNothing t.link.first v.first → KeepsTrunk (with_link t v)
stays_keeps t k v kv same stays none =
    let m = k.first.mirrors.0 in
    record {
      link = kv;
      near = k.near;
      far = k.far;
      first =
          record {
            half = k.first.half;
            sound = k.first.sound;
            mirrors = (
              record {
                number = stays.session ∙ m.number;
                peer = stays.peer ∙ m.peer;
                offered = none.offered ∙ m.offered;
                handed = none.handed ∙ m.handed;
              },
              subst (λ es. AllMirror es k.near.earlier) (sym none.past) k.first.mirrors.1,
            );
            tables = k.first.tables;
            out = k.first.out;
            kept = k.first.kept;
          };
      second = subst (λ h. KeepsSide t.second h k.far k.near) (sym same) k.second;
    }

-- ---- what was handed up

pub fell_keeps : (t : TrunkState) → KeepsTrunk t → (v : LinkState) (session : Session)
    → KeepsLink v → v.second ≡ t.link.second → GoesDownFrom t.link.first v.first session
    → KeepsTrunk (near_down (with_link t v) (next_session session))
fell_keeps t k v session kv same down =
    let next : v.first.end.talk.mine ≡ next_session session =
    down.next ∙ ap next_session (sym down.same) in
    let above : mine_of t.link.first < (next_session session).0 =
    subst (λ (s : Session). mine_of t.link.first < (next_session s).0) (sym down.same)
    (omega arith) in
    down_keeps t k v (next_session session) kv same above next down.connecting down.offered
    down.handed down.past

pub took_keeps : (t : TrunkState) → KeepsTrunk t → (v : LinkState) → KeepsLink v
    → v.second ≡ t.link.second → (handed : Handed)
    → TellsRightly t.link.first v.first t.link.second handed → (heard : Heard)
    → IsReading handed heard → KeepsTrunk (near_took (with_link t v) heard handed)
took_keeps t k v kv same Nothing tells heard read = stays_keeps t k v kv same tells.0 tells.1
took_keeps t k v kv same (WentUp session peer) tells heard read =
    up_keeps t k v session peer kv same tells.0
took_keeps t k v kv same (WentDown session) tells heard read =
    fell_keeps t k v session kv same tells
took_keeps t k v kv same (Got m) tells heard read =
    heard_keeps t k v m heard kv same tells read
