-- EVERY LEGAL HISTORY is orderly at each side of each link.
use Rattle.std.proofs.Common.{ℕ, ◌<◌, List, length}
use Rattle.linx_base.specs.declared.identity.LinkNo.{LinkNo}
use Rattle.journal.specs.declared.effect.Step.{Step}
use Rattle.journal.specs.Shapes.{Shape}
use Rattle.link_laws.specs.Laws.{IsLegal}
use Rattle.link_laws.proofs.Endpoints.OpenAfterStep.{open-on}
use Rattle.link_check.specs.Orderly.{IsOrderly}
use Rattle.link_check.proofs.Carried.{fronts-carried}
use Rattle.link_check.proofs.Living.{lives-up}

pub legal-orderly : (shape : Shape) (P : List Step) → IsLegal shape P → length P < 4294967295
    → (n : ℕ) (l : LinkNo) → IsOrderly P n l
legal-orderly shape P legal short n l = record {
  living = λ x a alive. lives-up n l shape P legal x a alive;
  fronts = λ x y up paired a b receiver.
      fronts-carried shape n l P legal short x y paired a b (open-on P n b receiver);
}
