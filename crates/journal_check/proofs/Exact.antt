-- A FAULT REFUTES that a journal is legal: so the answer is exact both ways.
use Rattle.std.proofs.Common.{◌≡◌, ◌↔◌, ℕ, zero, suc, List, [], ◌∷◌, drop, length, Option, Some}
use Rattle.std.proofs.Common.{None, ◌-◌, refl, subst}
use Rattle.journal.specs.declared.effect.Step.{Step}
use Rattle.journal.specs.Histories.{first_steps}
use Rattle.journal.specs.Shapes.{Shape}
use Rattle.link_laws.specs.Laws.{IsLegal, IsLegalStep}
use Rattle.journal_check.specs.Faults.{IsAnswer, IsFault, Keeps}
use Rattle.journal_check.specs.declared.law.Fault.{Fault}
use Rattle.journal_check.specs.declared.law.Law.{Law}
use Rattle.journal_check.specs.declared.law.Law.TheVariants as laws

-- a legal step keeps each law
kept : (shape : Shape) (P : List Step) (s : Step) → IsLegalStep shape P s → (law : Law)
    → Keeps shape P s law
kept shape P s legal laws.Makers = legal.nodes.makers
kept shape P s legal laws.Endpoints = legal.nodes.endpoints
kept shape P s legal laws.Bounds = legal.nodes.bounds
kept shape P s legal laws.Effects = legal.nodes.effects
kept shape P s legal laws.Sends = legal.nodes.sends
kept shape P s legal laws.Receives = legal.nodes.receives
kept shape P s legal laws.Links = legal.nodes.links
kept shape P s legal laws.Rest = legal.rest
kept shape P s legal laws.Packets = legal.packets
kept shape P s legal laws.Cuts = legal.cuts
kept shape P s legal laws.Ticks = legal.ticks

-- what a legal journal goes on from is legal
legal-drop : (shape : Shape) (n : ℕ) (xs : List Step) → IsLegal shape xs → IsLegal shape (drop n xs)
legal-drop shape zero xs legal = legal
legal-drop shape (suc n) [] legal = tt
legal-drop shape (suc n) (x ∷ xs) legal = legal-drop shape n xs legal.0

pub fault-refutes : (shape : Shape) (steps : List Step) (fault : Fault)
    → IsFault shape steps fault → IsLegal shape steps → ⊥
fault-refutes shape steps fault is legal =
    let front : IsLegal shape (is.step ∷ first_steps (fault.step - 1) steps) =
    subst (IsLegal shape) is.there
    (legal-drop shape (length steps - fault.step) steps legal) in
    is.breaks.broken (kept shape (first_steps (fault.step - 1) steps)
    is.step front.1 fault.law)

-- THE ANSWER IS NOTHING exactly where the journal is legal
pub answer-exact : (shape : Shape) (steps : List Step) (found : Option Fault)
    → IsAnswer shape steps found → (found ≡ None) ↔ IsLegal shape steps
answer-exact shape steps None legal = (λ is. legal, λ is. refl)
answer-exact shape steps (Some fault) is =
    (λ none. cc, λ legal. absurd (fault-refutes shape steps fault is legal))
