-- What a session is after its end said or heard something, and what that keeps.
use Rattle.std.specs.Prelude.{◌≡◌, true, false, List, [], ◌∷◌, ◌++◌, Some, None}
use Rattle.linx_base.specs.declared.identity.Inc.{Inc}
use Rattle.linx_base.specs.SigNotes.{SigNote}
use Rattle.link_addresses.specs.declared.meaning.Meaning.TheVariants.{Free, Live, Closing}
use Rattle.link_addresses.specs.Meanings.{meaning_of, with_meaning, address_of, ChangesMeaning}
use Rattle.rlnh_end.specs.States.{RlnhTables, inc_met}
use Rattle.rlnh_end.specs.Words.{Word, hello, hello_back, question, announce, tell, withdraw}
use Rattle.rlnh_end.specs.Words.{confirm}
use Rattle.rlnh_end.specs.Hearing.{Hearing, hears}
use Rattle.rlnh_end.specs.Calls.{Saying}
use Rattle.rlnh_laws.specs.Meanings.{heard_of, saids, given_for, Understands}
use Rattle.rlnh_end.specs.declared.up.Up.TheVariants.{Arrived}
use Rattle.trunk_record.specs.Sayings.{Said, is_live, was_unpublished}
use Rattle.rlnh_laws.specs.Ties.{Talk, Alone, Pair}

-- a session whose end said these words
abbrev pub said_more : Talk → Saying → Talk
said_more e s = record e { words = e.words ++ s.says; end = s.tables }

-- a session whose end heard this word, and replied
abbrev pub heard_with : Talk → Word → Hearing → Talk
heard_with f w r = record f {
  words = f.words ++ r.made.says;
  heard = f.heard ++ w ∷ [];
  given = given_for w r.up ++ f.given;
  end = r.made.tables;
}

-- a session whose end heard this word, and replied as its tables say
abbrev pub heard_word : Talk → Word → Talk
heard_word f w = heard_with f w (hears f.end (heard_of w))

-- what an end that is in state s and said this may say of its own accord, and what it is then
abbrev pub Utters : RlnhTables → List Said → RlnhTables → Word → Type 0
Utters s said t hello = (t.own ≡ s.own) × (t.met ≡ s.met)
Utters s said t hello_back = ⊥
Utters s said t (question v) = (t.own ≡ s.own) × (t.met ≡ s.met)
Utters s said t (announce a i v) = (meaning_of s.own a ≡ Free)
    × ChangesMeaning s.own t.own a (Live i) × (address_of s.own i ≡ None)
    × (was_unpublished i said ≡ false) × (t.met ≡ s.met)
Utters s said t (tell a i c j note) = (t.own ≡ s.own) × (t.met ≡ s.met)
    × (meaning_of s.own a ≡ Live i) × (inc_met s.met c ≡ Some j)
Utters s said t (withdraw a i) = (meaning_of s.own a ≡ Live i)
    × (t.own ≡ with_meaning s.own a (Closing i)) × (t.met ≡ s.met)
Utters s said t (confirm a) = ⊥

-- a session said more of its own accord: what held of it alone and with another session still holds
pub record Grows (e g : Talk) : Type 0 where
  pub alone : Alone g
  pub pair : (f : Talk) → Pair e f → Pair g f
  pub more : List Word
  pub words : g.words ≡ e.words ++ more
  pub number : g.number ≡ e.number
  pub peer : g.peer ≡ e.peer
  pub heard : g.heard ≡ e.heard
  pub given : g.given ≡ e.given

-- a word was heard rightly: it was understood, and what held still holds
pub record Right (e f : Talk) (w : Word) (r : Hearing) : Type 0 where
  pub understands : Understands w r.up
  -- who a signal arrives at is live
  pub lives : (x y : Inc) (note : SigNote) → r.up ≡ Arrived x y note
      → is_live y (saids f.words) ≡ true
  pub alone : Alone (heard_with f w r)
  pub pair : Pair e (heard_with f w r)
