-- What is in flight in one direction where nothing was lost since a tick: the frames from some
-- number on, in order, and what the receiver told last.
use Rattle.std.proofs.Common.{◌≡◌, ◌≢◌, ◌⊎◌, ◌+◌, ◌-◌, ◌<◌, ◌≤◌, min, ℕ, suc, leb, true, List, []}
use Rattle.std.proofs.Common.{◌∷◌, ◌++◌, length, take, drop, map, refl, sym, ap, subst, ◌∙◌, arith}
use Rattle.std.proofs.Common.{inl, inr, length-append, length-drop, length-take}
use Rattle.std.proofs.lemmas.Bool.{cases_lt}
use Rattle.std.proofs.lemmas.Bool.Decides.{eqb_tells, nat_tests}
use Rattle.linx_base.specs.declared.frame.Frame.{Frame}
use Rattle.linx_base.specs.declared.frame.SentFrame.{SentFrame}
use Rattle.linx_base.specs.declared.identity.Session.{Session}
use Rattle.ethcm_headers.specs.declared.packets.Packet.{Packet}
use Rattle.ethcm_headers.specs.declared.packets.Part.{Part}
use Rattle.ethcm_headers.specs.declared.packets.Part.TheVariants.{Conn, Ack, Nack, Piece}
use Rattle.ethcm_window.specs.Sending.{Sender, after_ack, coming_in, numbered_from, sent_end}
use Rattle.ethcm_window.specs.Sending.{sent_of, unacknowledged, with_frames}
use Rattle.ethcm_window.proofs.Numbering.{no_frames, offered_answer, unchanged_coming}
use Rattle.ethcm_end.specs.States.{EndState}
use Rattle.ethcm_end.specs.Rules.{piece_packet}
use Rattle.ethcm_end.proofs.Rising.{by_ack}
use Rattle.link_settling.proofs.Flights.Counting.{coming_acked, entering, no_length}

-- ---- pieces in order

-- a piece has number k
abbrev pub FitsAt : ℕ → Part → Type 0
FitsAt k (Conn kind) = Unit {0}
FitsAt k (Ack next) = Unit {0}
FitsAt k (Nack next count) = Unit {0}
FitsAt k (Piece next seq frame) = seq ≡ k

abbrev pub number_after : ℕ → Part → ℕ
number_after k (Conn kind) = k
number_after k (Ack next) = k
number_after k (Nack next count) = k
number_after k (Piece next seq frame) = suc k

-- the pieces among these packets have the numbers from k up to n, in order
abbrev pub RunsFrom : ℕ → ℕ → List Packet → Type 0
RunsFrom k n [] = k ≡ n
RunsFrom k n (p ∷ ps) = FitsAt k p.part × RunsFrom (number_after k p.part) n ps

pub runs_append : (k n m : ℕ) (xs ys : List Packet) → RunsFrom k n xs → RunsFrom n m ys
    → RunsFrom k m (xs ++ ys)
runs_append k n m [] ys h g = subst (λ z. RunsFrom z m ys) (sym h) g
runs_append k n m (x ∷ xs) ys h g = (
  h.0,
  runs_append (number_after k x.part) n m xs ys h.1 g,
)

after_upto : (k : ℕ) (part : Part) → k ≤ number_after k part
after_upto k (Conn kind) = omega arith
after_upto k (Ack next) = omega arith
after_upto k (Nack next count) = omega arith
after_upto k (Piece next seq frame) = omega arith

pub runs_upto : (k n : ℕ) (ps : List Packet) → RunsFrom k n ps → k ≤ n
runs_upto k n [] h = omega arith
runs_upto k n (p ∷ ps) h =
    let rest = runs_upto (number_after k p.part) n ps h.1 in
    let up = after_upto k p.part in
    omega arith

-- frames with their numbers, each as a piece
pub runs_numbered : (s : EndState) (to : Session) (k n : ℕ) (frames : List Frame)
    → n ≡ k + length frames → RunsFrom k n (map (piece_packet s to) (numbered_from k frames))
unfolding numbered_from
runs_numbered s to k n [] e = omega arith
runs_numbered s to k n (f ∷ frames) e = (refl, runs_numbered s to (suc k) n frames (omega arith))

-- ---- what is acknowledged

-- the number below which a part acknowledges; where it acknowledges nothing, that before
abbrev pub next_in : ℕ → Part → ℕ
next_in b (Conn kind) = b
next_in b (Ack next) = next
next_in b (Nack next count) = next
next_in b (Piece next seq frame) = next

-- that of the last of these packets
abbrev pub last_next : ℕ → List Packet → ℕ
last_next b [] = b
last_next b (p ∷ ps) = last_next (next_in b p.part) ps

pub last_append : (b : ℕ) (xs ys : List Packet)
    → last_next b (xs ++ ys) ≡ last_next (last_next b xs) ys
last_append b [] ys = refl
last_append b (x ∷ xs) ys = last_append (next_in b x.part) xs ys

-- all of them that acknowledge do it below this number
abbrev pub Tells : ℕ → List Packet → Type 0
Tells e [] = Unit {0}
Tells e (p ∷ ps) = (next_in e p.part ≡ e) × Tells e ps

pub last_tells : (e : ℕ) (ps : List Packet) → Tells e ps → last_next e ps ≡ e
last_tells e [] h = refl
last_tells e (p ∷ ps) h = ap (λ b. last_next b ps) h.0 ∙ last_tells e ps h.1

pub tells_append : (e : ℕ) (xs ys : List Packet) → Tells e xs → Tells e ys → Tells e (xs ++ ys)
tells_append e [] ys h k = k
tells_append e (x ∷ xs) ys h k = (h.0, tells_append e xs ys h.1 k)

pub pieces_tell : (s : EndState) (to : Session) (sent : List SentFrame)
    → Tells s.rx.expected (map (piece_packet s to) sent)
pieces_tell s to [] = tt
pieces_tell s to (f ∷ sent) = (refl, pieces_tell s to sent)

-- either none of them acknowledges, or the last that does decides
pub last_either : (ps : List Packet)
    → ((b : ℕ) → last_next b ps ≡ b) ⊎ ((b c : ℕ) → last_next b ps ≡ last_next c ps)
last_either [] = inl (λ b. refl)
last_either (p ∷ ps) =
    elim (last_either ps) [
      | inr decided ↦ inr (λ b c. decided (next_in b p.part) (next_in c p.part))
      | inl none ↦ elim p.part as (λ q. ((b : ℕ) → last_next (next_in b q) ps ≡ b)
          ⊎ ((b c : ℕ) → last_next (next_in b q) ps ≡ last_next (next_in c q) ps)) [
            | Conn kind ↦ inl (λ b. none b)
            | Ack next ↦ inr (λ b c. refl)
            | Nack next count ↦ inr (λ b c. refl)
            | Piece next seq frame ↦ inr (λ b c. refl)
          ]
    ]

-- ---- a direction

-- the frames that the receiver still expects are all on their way, in order; or all were taken, and
-- what it told last says so
pub record Flows (tx : Sender) (expected : ℕ) (there back : List Packet) : Type 0 where
  pub first : ℕ
  pub from : first ≤ expected
  pub run : RunsFrom first (sent_end tx) there
  pub told :
      (first < sent_end tx)
      ⊎ ((expected ≡ sent_end tx) × (last_next tx.base back ≡ expected))

-- where nothing is in flight, all was acknowledged
pub flows_over : (tx : Sender) (expected : ℕ) → 1 ≤ tx.window → Flows tx expected [] []
    → length tx.frames ≡ 0
flows_over tx expected w f =
    let run : f.first ≡ sent_end tx = f.run in
    let from = f.from in
    elim f.told [
      | inl less ↦ absurd (omega arith)
      | inr told ↦
          let all = told.0 in
          let last : tx.base ≡ expected = told.1 in
          omega arith
    ]

-- the receiver took the first piece or had taken it, and told what it expects now
pub flows_take : (tx : Sender) (expected now : ℕ) (p : Packet) (left back out : List Packet)
    (next seq : ℕ) (frame : Frame) → Flows tx expected (p ∷ left) back
    → p.part ≡ Piece next seq frame → expected ≤ now → (seq ≡ expected → expected < now)
    → now ≤ sent_end tx → ((b : ℕ) → last_next b out ≡ now) → Flows tx now left (back ++ out)
flows_take tx expected now p left back out next seq frame f is up took upto tells =
    let here : seq ≡ f.first = subst (λ q. FitsAt f.first q) is f.run.0 in
    let rest : RunsFrom (suc f.first) (sent_end tx) left =
    subst (λ q. RunsFrom (number_after f.first q) (sent_end tx) left) is f.run.1 in
    let from = f.from in
    let above : suc f.first ≤ now =
    elim (eqb_tells seq expected) [
      | inl same ↦
          let e = same.1 in
          let more = took same.1 in
          omega arith
      | inr other ↦ let apart = other.1 in omega arith
    ] in
    record {
      first = suc f.first;
      from = above;
      run = rest;
      told = elim (cases_lt (suc f.first) (sent_end tx)) [
        | inl less ↦ inl less
        | inr last ↦ inr (
          (omega arith),
          last_append tx.base back out ∙ tells (last_next tx.base back),
        )
      ];
    }

-- the receiver got another packet, and told nothing new
pub flows_other : (tx : Sender) (expected : ℕ) (p : Packet) (left back out : List Packet)
    → ((k : ℕ) → number_after k p.part ≡ k) → Tells expected out
    → Flows tx expected (p ∷ left) back → Flows tx expected left (back ++ out)
flows_other tx expected p left back out is tells f =
    record {
      first = f.first;
      from = f.from;
      run = subst (λ k. RunsFrom k (sent_end tx) left) (is f.first) f.run.1;
      told = elim f.told [
        | inl less ↦ inl less
        | inr told ↦ inr (
          told.0,
          last_append tx.base back out ∙ ap (λ b. last_next b out) told.1
              ∙ last_tells expected out tells,
        )
      ];
    }

-- the receiver told nothing new
pub flows_told : (tx : Sender) (expected : ℕ) (there back out : List Packet)
    → Tells expected out → Flows tx expected there back → Flows tx expected there (back ++ out)
flows_told tx expected there back out tells f =
    record {
      first = f.first;
      from = f.from;
      run = f.run;
      told = elim f.told [
        | inl less ↦ inl less
        | inr told ↦ inr (
          told.0,
          last_append tx.base back out ∙ ap (λ b. last_next b out) told.1
              ∙ last_tells expected out tells,
        )
      ];
    }

-- packets that are no pieces were sent
pub flows_put : (tx : Sender) (expected : ℕ) (there back extra : List Packet)
    → RunsFrom (sent_end tx) (sent_end tx) extra → Flows tx expected there back
    → Flows tx expected (there ++ extra) back
flows_put tx expected there back extra none f =
    record {
      first = f.first;
      from = f.from;
      run = runs_append f.first (sent_end tx) (sent_end tx) there extra f.run none;
      told = f.told;
    }

-- the sender got a packet that acknowledges nothing
pub flows_pass : (tx : Sender) (expected : ℕ) (there left : List Packet) (p : Packet)
    → next_in tx.base p.part ≡ tx.base → Flows tx expected there (p ∷ left)
    → Flows tx expected there left
flows_pass tx expected there left p pass f =
    record {
      first = f.first;
      from = f.from;
      run = f.run;
      told = elim f.told [
        | inl less ↦ inl less
        | inr told ↦ inr (told.0, sym (ap (λ b. last_next b left) pass) ∙ told.1)
      ];
    }

-- ---- an acknowledgement

-- what it does to a window
pub record AckedTo (s : EndState) (to : Session) (tx : Sender) (next : ℕ) (new : Sender)
    : Type 0 where
  pub upto : sent_end tx ≤ sent_end new
  pub run : RunsFrom (sent_end tx) (sent_end new) (map (piece_packet s to) (coming_in tx new))
  pub within : tx.base ≤ next → next ≤ sent_end tx → new.base ≡ next

no_numbers : (n : ℕ) (frames : List Frame) → length frames ≡ 0 → numbered_from n frames ≡ []
no_numbers n frames e = no_frames n frames (no_length frames e)

no_pieces : (s : EndState) (to : Session) (n : ℕ) (sent : List SentFrame) → sent ≡ []
    → RunsFrom n n (map (piece_packet s to) sent)
no_pieces s to n [] e = refl
no_pieces s to n (f ∷ sent) e = absurd (grind arith)

-- it is of frames that were sent
acked_is : (tx : Sender) (next : ℕ) → tx.base ≤ next → next ≤ sent_end tx
    → after_ack tx next
    ≡ record tx { base = next; frames = drop (next - tx.base) tx.frames }
acked_is tx next from to =
    let a : leb tx.base next ≡ true = grind (arith, nat_tests) in
    let b : leb next (sent_end tx) ≡ true = grind (arith, nat_tests) in
    rw (a, b) refl

module _ (s : EndState) (to : Session) (tx : Sender) (next : ℕ) where
  acked_none : (tx.base ≤ next → next ≤ sent_end tx → ⊥) → AckedTo s to tx next tx
  acked_none never =
      record {
        upto = omega arith;
        run = no_pieces s to (sent_end tx) (coming_in tx tx)
            (sym (unchanged_coming tx (sent_of tx) refl));
        within = λ from upto. absurd (never from upto);
      }

  acked_some : tx.base ≤ next → next ≤ sent_end tx
      → AckedTo s to tx next
      (record tx { base = next; frames = drop (next - tx.base) tx.frames })
  acked_some from upto =
      let new : Sender =
      record tx { base = next; frames = drop (next - tx.base) tx.frames } in
      let l = length-drop (next - tx.base) tx.frames in
      let n : ℕ = entering tx next in
      let comes = coming_acked tx next from (omega arith) in
      let count : length (take (entering tx next) (drop (sent_of tx) tx.frames))
      ≡ entering tx next =
      omega (
        arith,
        length-take (entering tx next) (drop (sent_of tx) tx.frames),
        length-drop (sent_of tx) tx.frames,
      ) in
      let end : sent_end (record tx { base = next; frames = drop (next - tx.base) tx.frames })
      ≡ sent_end tx + entering tx next = rw l (omega arith) in
      record {
        upto = omega arith;
        run = subst (λ sent. RunsFrom (sent_end tx) (sent_end new)
            (map (piece_packet s to) sent)) (sym comes)
            (runs_numbered s to (sent_end tx) (sent_end new)
            (take (entering tx next) (drop (sent_of tx) tx.frames)) (omega arith));
        within = λ a b. refl;
      }

  pub acked_to : AckedTo s to tx next (after_ack tx next)
  acked_to =
      elim (cases_lt next tx.base) [
        | inl below ↦ by_ack (λ new. AckedTo s to tx next new) tx next
            (acked_none (λ from upto. omega arith)) (λ from upto. absurd (omega arith))
        | inr from ↦ elim (cases_lt (sent_end tx) next) [
          | inl above ↦ by_ack (λ new. AckedTo s to tx next new) tx next
              (acked_none (λ low upto. omega arith)) (λ low upto. absurd (omega arith))
          | inr upto ↦ subst (λ new. AckedTo s to tx next new)
              (sym (acked_is tx next from upto)) (acked_some from upto)
        ]
      ]

-- the sender got a packet that acknowledges, and sent what came into its window
pub flows_acked : (s : EndState) (to : Session) (tx : Sender) (expected next : ℕ) (p : Packet)
    (there left : List Packet) → ((b : ℕ) → next_in b p.part ≡ next) → tx.base ≤ expected
    → Flows tx expected there (p ∷ left)
    → Flows (after_ack tx next) expected
    (there ++ map (piece_packet s to) (coming_in tx (after_ack tx next))) left
flows_acked s to tx expected next p there left tells base f =
    let new : Sender = after_ack tx next in
    let a = acked_to s to tx next in
    let upto = a.upto in
    let from = f.from in
    record {
      first = f.first;
      from = f.from;
      run = runs_append f.first (sent_end tx) (sent_end new) there
          (map (piece_packet s to) (coming_in tx (after_ack tx next))) f.run a.run;
      told = elim f.told [
        | inl less ↦ inl (omega arith)
        | inr told ↦
            let all = told.0 in
            let last : last_next next left ≡ expected =
            ap (λ b. last_next b left) (sym (tells tx.base)) ∙ told.1 in
            elim (cases_lt f.first (sent_end (after_ack tx next))) [
              | inl more ↦ inl more
              | inr none ↦ inr (
                (omega arith),
                elim (last_either left) [
                  | inr decided ↦ decided (after_ack tx next).base next ∙ last
                  | inl passes ↦
                      let same : next ≡ expected = sym (passes next) ∙ last in
                      passes (after_ack tx next).base ∙ a.within (omega arith) (omega arith)
                      ∙ same
                ],
              )
            ]
      ];
    }

-- ---- a tick, and an offer

length-numbered : (n : ℕ) (frames : List Frame)
    → length (numbered_from n frames) ≡ length frames
unfolding numbered_from
length-numbered n [] = refl
length-numbered n (f ∷ frames) = ap suc (length-numbered (suc n) frames)

-- at a tick all frames in the window are sent again, while nothing is in flight; where there is
-- none, what is sent has no piece
pub flows_again : (s : EndState) (to : Session) (tx : Sender) (expected : ℕ) → tx.base ≤ expected
    → expected ≤ sent_end tx → unacknowledged tx ≢ []
    → Flows tx expected (map (piece_packet s to) (unacknowledged tx)) []
flows_again s to tx expected base given some =
    let n : length (unacknowledged tx) ≡ sent_of tx =
    omega (
      arith,
      length-numbered tx.base (take tx.window tx.frames),
      length-take tx.window tx.frames,
    ) in
    record {
      first = tx.base;
      from = base;
      run = runs_numbered s to tx.base (sent_end tx) (take tx.window tx.frames)
          (omega (arith, length-take tx.window tx.frames));
      told = elim (cases_lt 0 (sent_of tx)) [
        | inl more ↦ inl (omega arith)
        | inr none ↦ absurd (some (no_length (unacknowledged tx) (omega arith)))
      ];
    }

pub flows_idle : (tx : Sender) (expected : ℕ) (out : List Packet) → tx.base ≤ expected
    → expected ≤ sent_end tx → unacknowledged tx ≡ []
    → RunsFrom (sent_end tx) (sent_end tx) out → Flows tx expected out []
flows_idle tx expected out base given none run =
    let n : length (unacknowledged tx) ≡ sent_of tx =
    omega (
      arith,
      length-numbered tx.base (take tx.window tx.frames),
      length-take tx.window tx.frames,
    ) in
    let zero_long : length (unacknowledged tx) ≡ 0 = ap length none in
    record {
      first = sent_end tx;
      from = omega arith;
      run = run;
      told = inr (omega arith, omega arith);
    }

-- what an offer brings into the window is a run behind what was sent
pub offer_run : (s : EndState) (to : Session) (tx : Sender) (more : List Frame)
    → (sent_end tx ≤ sent_end (with_frames tx more))
    × RunsFrom (sent_end tx) (sent_end (with_frames tx more))
    (map (piece_packet s to) (coming_in tx (with_frames tx more)))
offer_run s to tx more =
    let new : Sender = with_frames tx more in
    let l = length-append tx.frames more in
    let coming : ℕ = min (tx.window - sent_of tx) (length more) in
    let comes = sym (offered_answer tx (sent_of tx) refl (tx.base + length tx.frames)
    (min (tx.window - sent_of tx) (length more)) more (tx.frames ++ more)
    (numbered_from (tx.base + length tx.frames)
    (take (min (tx.window - sent_of tx) (length more)) more)) refl refl refl refl) in
    let count : length (take (min (tx.window - sent_of tx) (length more)) more)
    ≡ min (tx.window - sent_of tx) (length more) =
    omega (arith, length-take (min (tx.window - sent_of tx) (length more)) more) in
    let end : sent_end (with_frames tx more) ≡ sent_end tx + coming = rw l (omega arith) in (
      omega arith,
      subst (λ sent. RunsFrom (sent_end tx) (sent_end new) (map (piece_packet s to) sent))
          (sym comes) (elim (cases_lt 0 (min (tx.window - sent_of tx) (length more))) [
            | inl some ↦
                let here : tx.base + length tx.frames ≡ sent_end tx = omega arith in
                rw here (runs_numbered s to (sent_end tx) (sent_end new)
                (take (min (tx.window - sent_of tx) (length more)) more) (omega arith))
            | inr none ↦
                let zero_count : min (tx.window - sent_of tx) (length more) ≡ 0 = omega arith in
                subst (λ m. RunsFrom (sent_end tx) m (map (piece_packet s to)
                (numbered_from (tx.base + length tx.frames)
                (take (min (tx.window - sent_of tx) (length more)) more)))) (omega arith)
                (no_pieces s to (sent_end tx) _ (no_numbers (tx.base + length tx.frames)
                (take (min (tx.window - sent_of tx) (length more)) more) (omega arith)))
          ]),
    )

-- the sender offered a message
pub flows_offered : (s : EndState) (to : Session) (tx : Sender) (more : List Frame)
    (expected : ℕ) (there back : List Packet) → Flows tx expected there back
    → Flows (with_frames tx more) expected
    (there ++ map (piece_packet s to) (coming_in tx (with_frames tx more))) back
flows_offered s to tx more expected there back f =
    let new : Sender = with_frames tx more in
    let run = offer_run s to tx more in
    let upto = run.0 in
    let from = f.from in
    record {
      first = f.first;
      from = f.from;
      run = runs_append f.first (sent_end tx) (sent_end new) there
          (map (piece_packet s to) (coming_in tx (with_frames tx more))) f.run run.1;
      told = elim f.told [
        | inl less ↦ inl (omega arith)
        | inr told ↦
            let all = told.0 in
            elim (cases_lt f.first (sent_end (with_frames tx more))) [
              | inl some ↦ inl some
              | inr none ↦ inr (omega arith, told.1)
            ]
      ];
    }
