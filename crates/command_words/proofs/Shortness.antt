-- How long the names of the words are.
use Rattle.std.proofs.Common.{◌≡◌, ◌≤◌, ℕ, List, length, sym, subst, arith}
use Rattle.command_words.specs.Words.{said_of}
use Rattle.command_words.specs.declared.word.Word.{Word}
use Rattle.command_words.specs.declared.word.Word.TheVariants.{Run}

-- a name is short
pub name_short : (word : Word) (name : List ℕ) → name ≡ (said_of word).name → length name ≤ 15
unfolding said_of
name_short Run name is = subst (λ (n : List ℕ). length n ≤ 15) (sym is) (omega arith)
name_short _ name is = subst (λ (n : List ℕ). length n ≤ 15) (sym is) (omega arith)

-- and so is its use
pub usage_short : (word : Word) (usage : List ℕ) → usage ≡ (said_of word).usage
    → length usage ≤ 50
unfolding said_of
usage_short Run usage is = subst (λ (u : List ℕ). length u ≤ 50) (sym is) (omega arith)
usage_short _ usage is = subst (λ (u : List ℕ). length u ≤ 50) (sym is) (omega arith)
