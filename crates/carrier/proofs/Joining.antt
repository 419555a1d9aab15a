-- What is taken and joined of the frames that are offered to a session.
use Rattle.std.proofs.Common.{◌≡◌, ◌≢◌, ◌+◌, ◌<◌, ◌≤◌, ℕ, Option, Some, None, List, [], ◌∷◌, ◌++◌}
use Rattle.std.proofs.Common.{All, length, take, drop, refl, sym, ap, ◌∙◌, subst, arith, slice_get}
use Rattle.std.proofs.Common.{length-append, length-drop, take-append-drop}
use Rattle.std.proofs.lemmas.List.Elements.{All-nil, All-weaker, All-head, All-tail, All-same}
use Rattle.linx_base.specs.declared.frame.Frame.{Frame}
use Rattle.linx_base.specs.declared.frame.Message.{Message}
use Rattle.linx_base.specs.declared.frame.SentFrame.{SentFrame}
use Rattle.linx_base.specs.Frames.{IsMessage}
use Rattle.ethcm_window.specs.Receiving.{Receiver, after_taking, empty_receiver, kept_early}
use Rattle.fragmenter.specs.declared.joiner.Joined.{Joined}
use Rattle.fragmenter.specs.declared.joiner.Joined.TheVariants.{More, Broken}
use Rattle.fragmenter.specs.Joining.{Begun, answers_to, held_after_all}
use Rattle.fragmenter.specs.Streams.{JoinsInOrder, frames_of, wholes}
use Rattle.fragmenter.proofs.Joins.{answers_to-append, held_after_all-append}
use Rattle.fragmenter.proofs.Streams.{join_in_order, wholes-append}
use Rattle.ethcm_end.specs.Rules.{Taken, take_behind}
use Rattle.ethcm_end.specs.Taking.{made_at_the_last}
use Rattle.ethcm_end.proofs.Naming.{early_named, taken_in_order}
use Rattle.ethcm_end.proofs.Taking.{takes_in_turn}
use Rattle.linx_base.specs.Fronts.{IsFront}
use Rattle.carrier.specs.Keeping.{KeptBelow, Receives}
use Rattle.carrier.proofs.Fronts.{found_in_front, front_frames, front_length, take_front, take_more}

-- ---- at the beginning, and where nothing is offered

pub receives_anew : (piece : ℕ) (source : List Message)
    → Receives piece source [] empty_receiver None
unfolding answers_to held_after_all
receives_anew piece source =
    record {
      within = omega arith;
      handed_up = refl;
      holds = refl;
      kept = All-nil (λ s. slice_get (frames_of piece source) s.number ≡ Some s.frame);
    }

-- nothing was taken of nothing
pub record TookNothing (handed : List Message) (rx : Receiver) : Type 0 where
  pub handed_up : handed ≡ []
  pub expected : rx.expected ≡ 0
  pub kept : (n : ℕ) → KeptBelow n rx.kept

pub takes_nothing : (piece : ℕ) (source handed : List Message) (rx : Receiver)
    (held : Option Begun) → source ≡ [] → Receives piece source handed rx held
    → TookNothing handed rx
unfolding answers_to
takes_nothing piece source handed rx held none r =
    let frames : frames_of piece source ≡ [] = ap (frames_of piece) none in
    let within = r.within in
    let expected : rx.expected ≡ 0 = omega (arith, ap length frames) in
    let first : take rx.expected (frames_of piece source) ≡ [] =
    ap (λ n. take n (frames_of piece source)) expected in
    record {
      handed_up = r.handed_up ∙ ap (λ l. wholes (answers_to None l)) first;
      expected = expected;
      kept = λ n.
          All-weaker (λ s. slice_get (frames_of piece source) s.number ≡ Some s.frame)
          (λ s. s.number < n)
          (λ s e.
          let q : slice_get [] s.number ≡ Some s.frame =
          subst (λ l. slice_get l s.number ≡ Some s.frame) frames e in
          absurd (grind arith))
          rx.kept r.kept;
    }

-- ---- more is offered

pub receives_grow : (piece : ℕ) (source later handed : List Message) (rx : Receiver)
    (held : Option Begun) → IsFront source later → Receives piece source handed rx held
    → Receives piece later handed rx held
receives_grow piece source later handed rx held front r =
    let frames = front_frames piece source later front in
    let longer = front_length (frames_of piece source) (frames_of piece later) frames in
    let within = r.within in
    let same : take rx.expected (frames_of piece source)
    ≡ take rx.expected (frames_of piece later) =
    sym (take_front (frames_of piece source) (frames_of piece later) rx.expected frames within) in
    record {
      within = omega arith;
      handed_up = r.handed_up ∙ ap (λ l. wholes (answers_to None l)) same;
      holds = r.holds ∙ ap (held_after_all None) same;
      kept =
          All-weaker (λ s. slice_get (frames_of piece source) s.number ≡ Some s.frame)
          (λ s. slice_get (frames_of piece later) s.number ≡ Some s.frame)
          (λ s e. found_in_front _ _ s.number s.frame frames e) rx.kept r.kept;
    }

-- ---- an early frame

pub receives_early : (piece : ℕ) (source handed : List Message) (rx : Receiver)
    (held : Option Begun) (s : SentFrame) → Receives piece source handed rx held
    → slice_get (frames_of piece source) s.number ≡ Some s.frame
    → Receives piece source handed (record rx { kept = kept_early rx.expected rx.kept s }) held
receives_early piece source handed rx held s r here =
    record {
      within = r.within;
      handed_up = r.handed_up;
      holds = r.holds;
      kept = early_named (slice_get (frames_of piece source)) rx.expected rx.kept s r.kept here;
    }

-- ---- frames are taken

-- the message that the last frame made whole
abbrev pub made_whole : Joined → List Message
made_whole made = wholes (made ∷ [])

last_whole : (made : Joined) (frame : Frame) (behind : List Frame)
    → wholes (made_at_the_last made (frame ∷ behind)) ≡ made_whole made
unfolding made_at_the_last
last_whole made frame [] = refl
last_whole made frame (f ∷ behind) = last_whole made f behind

-- the last answer is among them
last_among : (P : Joined → Type 0) (made : Joined) (frame : Frame) (behind : List Frame)
    → All P (made_at_the_last made (frame ∷ behind)) → P made
unfolding made_at_the_last
last_among P made frame [] all = All-head P made [] all
last_among P made frame (f ∷ behind) all =
    last_among P made f behind (All-tail P More _ all)

all_behind : {X : Type 0} (P : X → Type 0) (xs ys : List X) → All P (xs ++ ys) → All P ys
all_behind P [] ys all = all
all_behind P (x ∷ xs) ys all = all_behind P xs ys (All-tail P x (xs ++ ys) all)

-- what was taken then: nothing is broken, and what was made whole is handed up
pub record Took (piece : ℕ) (source handed : List Message) (taken : Taken) : Type 0 where
  pub unbroken : taken.made ≢ Broken
  pub receives :
      Receives piece source (handed ++ made_whole taken.made) taken.rx taken.held

module _ (piece : ℕ) (source handed : List Message) (rx : Receiver) (held : Option Begun)
    (frame : Frame) (sized : 1 ≤ piece) (messages : All IsMessage source)
    (r : Receives piece source handed rx held)
    (here : slice_get (frames_of piece source) rx.expected ≡ Some frame) where
  taken : Taken
  taken = take_behind (after_taking rx) held frame

  pub takes_frames : Took piece source handed (take_behind (after_taking rx) held frame)
  takes_frames =
      let all : List Frame = frames_of piece source in
      let turn = takes_in_turn rx held frame in
      let frames : List Frame = frame ∷ (takes_in_turn rx held frame).behind in
      let before : List Frame = take rx.expected (frames_of piece source) in
      let expected = turn.expected in
      let order = taken_in_order rx held frame all r.kept here in
      let within = r.within in
      let first : take (rx.expected + length frames) all ≡ before ++ frames =
      take_more all frames
      (drop (take_behind (after_taking rx) held frame).rx.expected all) rx.expected within order in
      let number : (take_behind (after_taking rx) held frame).rx.expected
      ≡ rx.expected + length frames = omega arith in
      let now : take (take_behind (after_taking rx) held frame).rx.expected all
      ≡ before ++ frames = ap (λ n. take n all) number ∙ first in
      let count : length (drop rx.expected all)
      ≡ length frames + length (drop (take_behind (after_taking rx) held frame).rx.expected all) =
      ap length order ∙ length-append frames
      (drop (take_behind (after_taking rx) held frame).rx.expected all) in
      let split : all ≡ (before ++ frames)
      ++ drop (take_behind (after_taking rx) held frame).rx.expected all =
      sym (take-append-drop (take_behind (after_taking rx) held frame).rx.expected all)
      ∙ ap (λ l. l ++ drop (take_behind (after_taking rx) held frame).rx.expected all) now in
      let joins : JoinsInOrder piece source (before ++ frames) =
      join_in_order piece source sized messages (before ++ frames)
      (drop (take_behind (after_taking rx) held frame).rx.expected all) split in
      let answers : answers_to None (before ++ frames)
      ≡ answers_to None before
      ++ made_at_the_last (take_behind (after_taking rx) held frame).made frames =
      answers_to-append None before frames
      ∙ ap (λ l. answers_to None before ++ l)
      (ap (λ h. answers_to h frames) (sym r.holds) ∙ turn.answers) in
      record {
        unbroken =
            last_among (λ answer. answer ≢ Broken)
            (take_behind (after_taking rx) held frame).made frame
            (takes_in_turn rx held frame).behind
            (all_behind (λ answer. answer ≢ Broken) (answers_to None before) _
            (All-same (λ answer. answer ≢ Broken) _ _ (sym answers) joins.unbroken));
        receives = record {
          within = omega (arith, length-drop rx.expected all);
          handed_up =
              ap (λ l. l ++ made_whole (take_behind (after_taking rx) held frame).made) r.handed_up
              ∙ sym (ap (λ l. wholes (answers_to None l)) now ∙ ap wholes answers
              ∙ wholes-append (answers_to None before) _
              ∙ ap (λ l. wholes (answers_to None before) ++ l)
              (last_whole (take_behind (after_taking rx) held frame).made frame
              (takes_in_turn rx held frame).behind));
          holds =
              turn.joined ∙ ap (λ h. held_after_all h frames) r.holds
              ∙ sym (held_after_all-append None before frames)
              ∙ sym (ap (held_after_all None) now);
          kept = (turn.named (slice_get all) r.kept here).1;
        };
      }

-- ---- what was handed up

-- what was taken is joined in order
pub joins_taken : (piece : ℕ) (source handed : List Message) (rx : Receiver) (held : Option Begun)
    → 1 ≤ piece → All IsMessage source → Receives piece source handed rx held
    → JoinsInOrder piece source (take rx.expected (frames_of piece source))
joins_taken piece source handed rx held sized messages r =
    join_in_order piece source sized messages (take rx.expected (frames_of piece source))
    (drop rx.expected (frames_of piece source))
    (sym (take-append-drop rx.expected (frames_of piece source)))

-- it is a front of what was offered
pub handed_front : (piece : ℕ) (source handed : List Message) (rx : Receiver)
    (held : Option Begun) → 1 ≤ piece → All IsMessage source
    → Receives piece source handed rx held → IsFront handed source
handed_front piece source handed rx held sized messages r =
    let joins = joins_taken piece source handed rx held sized messages r in
    let whole : handed ≡ joins.whole = r.handed_up ∙ joins.answered in
    (joins.later, joins.in_order ∙ ap (λ l. l ++ joins.later) (sym whole))
