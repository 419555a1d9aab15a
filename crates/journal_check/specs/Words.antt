-- The laws of a step as they are printed.
use Rattle.std.specs.Prelude.{ℕ, List, codes}
use Rattle.journal_check.specs.declared.law.Law.{Law}
use Rattle.journal_check.specs.declared.law.Law.TheVariants as laws

-- the word of a law
abbrev pub word_of : Law → List ℕ
word_of laws.Makers = codes "makers"
word_of laws.Endpoints = codes "endpoints"
word_of laws.Bounds = codes "bounds"
word_of laws.Effects = codes "effects"
word_of laws.Sends = codes "sends"
word_of laws.Receives = codes "receives"
word_of laws.Links = codes "links"
word_of laws.Rest = codes "rest"
word_of laws.Packets = codes "packets"
word_of laws.Cuts = codes "cuts"
word_of laws.Ticks = codes "ticks"

-- what a law asks, in a sentence
abbrev pub rule_of : Law → List ℕ
rule_of laws.Makers =
    codes "an actor makes steps until it ends, and a pump those of its own link"
rule_of laws.Endpoints =
    codes "who opens an endpoint has none, and the steps of an endpoint need one"
rule_of laws.Bounds = codes "a signal has at most 65532 data bytes, and that of an attach one fewer"
rule_of laws.Effects = codes "the effects are exactly those that the step has, in order"
rule_of laws.Sends = codes "a signal is answered dead exactly where its peer is not alive"
rule_of laws.Receives =
    codes "a receive takes the earliest item that its filter selects, or finds none at rest"
rule_of laws.Links = codes "the link is one that there is"
rule_of laws.Rest = codes "a receive finds none only where every link is still"
rule_of laws.Packets =
    codes "a packet brings one thing, with exactly its effects, and only what may come"
rule_of laws.Cuts = codes "while a link is cut, its packets are lost"
rule_of laws.Ticks =
    codes "a tick does nothing, or ends a session whose side heard nothing for two ticks"
