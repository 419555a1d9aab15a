-- What the echo makes of a frame is one thing.
use Rattle.std.proofs.Common.{◌≡◌, ℕ, Bool, List, [], length, sym, ap, ◌∙◌, subst, arith}
use Rattle.linx_base.specs.declared.frame.Message.{Message}
use Rattle.rlnh_messages.proofs.Bodies.{one_signal}
use Rattle.rlnh_messages.proofs.Types.{unique}
use Rattle.rlnh_end.specs.BadList.{IsBad, no_meaning}
use Rattle.rlnh_end.specs.Hearing.{IsRead, hears}
use Rattle.rlnh_end.specs.States.{RlnhTables}
use Rattle.rlnh_end.specs.declared.heard.Heard.{Heard}
use Rattle.rlnh_end.specs.declared.heard.Heard.TheVariants.{Control, Signal, Garbage}
use Rattle.request_stream.specs.Answers.{IsDecided}
use Rattle.tcpcm_frames.specs.declared.frame.StreamFrame.{StreamFrame}
use Rattle.tcpcm_frames.specs.Frames.{IsSpelled}
use Rattle.tcpcm_frames.proofs.Alone.{none_goes_on, one_frame}
use Rattle.tcpcm_framing.proofs.Agreeing.{length_least}
use Rattle.tcpcm_end.specs.Table.{input_of, is_up_after}
use Rattle.tcpcm_end.specs.declared.stream_end.StreamIn.{StreamIn}
use Rattle.tcpcm_end.specs.declared.stream_end.StreamIn.TheVariants.{Reply, WentUp, Got, Nothing}
use Rattle.tcpcm_end.specs.declared.stream_end.StreamIn.TheVariants.{Broken}
use Rattle.stream_echo.specs.Echoing.{answered, said_in}
use Rattle.stream_echo.specs.Replying.{EchoState, Echoes, IsRefused, Refuses, Says}

-- ---- a message that isn't bad is read as one thing

one_heard : (t : RlnhTables) (m : Message) (a b : Heard) → ¬ IsBad t m → IsRead m a → IsRead m b
    → a ≡ b
one_heard t m (Control a) (Control b) good read also =
    ap Control (unique a b m.body read.spelled also.spelled)
one_heard t m (Signal from to a) (Signal sender receiver b) good read also =
    let from_is : from ≡ sender = sym read.from_is ∙ also.from_is in
    let to_is : to ≡ receiver = sym read.to_is ∙ also.to_is in
    let note : a ≡ b = one_signal a b m.body read.spelled also.spelled in
    cc
one_heard t m (Control a) (Signal from to b) good read also =
    absurd (omega (arith, read.from, also.addressed.from))
one_heard t m (Signal from to a) (Control b) good read also =
    absurd (omega (arith, also.from, read.addressed.from))
one_heard t m Garbage b good read also = absurd (good (no_meaning read))
one_heard t m (Control a) Garbage good read also = absurd (good (no_meaning also))
one_heard t m (Signal from to a) Garbage good read also = absurd (good (no_meaning also))

-- ---- and answered so

record IsSame (one two : RlnhTables) (a b : List ℕ) : Type 0 where
  tables : one ≡ two
  reply : a ≡ b

says_one : (t : RlnhTables) (means : StreamIn) (one two : RlnhTables) (a b : List ℕ)
    → Says t means one a → Says t means two b → IsSame one two a b
says_one t (Reply frame) one two a b h k =
    record { tables = h.0 ∙ sym k.0; reply = h.1 ∙ sym k.1 }
says_one t WentUp one two a b h k =
    record { tables = h.0 ∙ sym k.0; reply = h.1 ∙ sym k.1 }
says_one t (Got m) one two a b h k =
    let heard : h.heard ≡ k.heard = one_heard t m h.heard k.heard h.not_bad h.is_read k.is_read in
    record {
      tables = h.tables ∙ ap (λ (x : Heard). (answered (hears t x)).tables) heard ∙ sym k.tables;
      reply = h.said ∙ ap (λ (x : Heard). said_in (answered (hears t x))) heard ∙ sym k.said;
    }
says_one t Nothing one two a b h k =
    record { tables = h.0 ∙ sym k.0; reply = h.1 ∙ sym k.1 }
says_one t Broken one two a b h k = absurd h

-- what is answered isn't refused
not_both : (t : RlnhTables) (means : StreamIn) (new : RlnhTables) (reply : List ℕ)
    → Says t means new reply → IsRefused t means → ⊥
not_both t (Reply frame) new reply h k = k
not_both t WentUp new reply h k = k
not_both t (Got m) new reply h k = h.not_bad k
not_both t Nothing new reply h k = k
not_both t Broken new reply h k = h

-- ---- of a frame's bytes

echo_one : (s t u : EchoState) (request a b : List ℕ) → Echoes s request t a → Echoes s request u b
    → IsSame t.tables u.tables a b
echo_one s t u request a b h k =
    let frame : k.frame ≡ h.frame = one_frame k.frame h.frame request k.spells h.spells in
    says_one s.tables (input_of s.up h.frame) t.tables u.tables a b h.says
    (subst (λ (f : StreamFrame). Says s.tables (input_of s.up f) u.tables b) frame k.says)

one_state : (s t u : EchoState) (request a b : List ℕ) → Echoes s request t a → Echoes s request u b
    → t ≡ u
one_state s t u request a b h k =
    let frame : k.frame ≡ h.frame = one_frame k.frame h.frame request k.spells h.spells in
    let up : t.up ≡ u.up = h.up ∙ ap (λ (f : StreamFrame). is_up_after s.up f) (sym frame) ∙ sym k.up in
    let tables : t.tables ≡ u.tables = (echo_one s t u request a b h k).tables in
    let with_up : Bool → EchoState = λ x. record { up = x; tables = t.tables } in
    let with_tables : RlnhTables → EchoState = λ x. record { up = u.up; tables = x } in
    ap with_up up ∙ ap with_tables tables

echo_apart : (s t : EchoState) (request reply : List ℕ) → Echoes s request t reply
    → Refuses s request → ⊥
echo_apart s t request reply h k =
    let frame : k.frame ≡ h.frame = one_frame k.frame h.frame request k.spells h.spells in
    not_both s.tables (input_of s.up h.frame) t.tables reply h.says
    (subst (λ (f : StreamFrame). IsRefused s.tables (input_of s.up f)) frame k.refused)

none_empty : IsSpelled [] → ⊥
none_empty s = omega (arith, ap length s.1.spelled, length_least s.0)

pub echo_decided : IsDecided (λ (s : EchoState) (bytes : List ℕ). IsSpelled bytes) Echoes Refuses
echo_decided =
    record {
      some = λ s. none_empty;
      alone = λ s a b h k. none_goes_on a b h k;
      one_server = λ s t u request a b h k. one_state s t u request a b h k;
      one_reply = λ s t u request a b h k. (echo_one s t u request a b h k).reply;
      apart = λ s t request reply h k. echo_apart s t request reply h k;
    }
