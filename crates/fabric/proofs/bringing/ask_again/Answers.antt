use Rattle.std.proofs.Common.{ℕ, List, refl, sym, ◌∙◌, ap, subst}
use Rattle.linx_base.specs.Pending.{names_over}
use Rattle.linx_base.specs.declared.pending.PendingHunt.{PendingHunt}
use Rattle.node_kernel.proofs.Gathering.{falls}
use Rattle.run_trunks.specs.Changes.{at_link}
use Rattle.trunk_moves.specs.Packets.{asks_for}
use Rattle.fabric.proofs.Trunks.Tells.{asks-done, asks-next, asks-none, names-all, numbers-next}
use Rattle.fabric.proofs.Trunks.Tells.{numbers-none, numbers-now}
use Rattle.fabric.specs.Bringings.{HasNumbersOver}
use Rattle.fabric.proofs.bringing.ask_again.Goals as goal

pub loop-hunt-init : goal.loop-hunt-init
loop-hunt-init c = record {
  is = ap (λ (hs : List PendingHunt). at_link c.args.link
      (asks_for c.args.side (names_over c.args.link hs)) c.args.trunks.now.is)
      c.hunts_over-hunts.ensures
      ∙ ap (λ (names : List (List ℕ)). at_link c.args.link (asks_for c.args.side names)
      c.args.trunks.now.is) (names-all c.args.link c.args.kernel.now.hunts);
  numbers = subst (λ (names : List (List ℕ)).
      HasNumbersOver c.args.link c.args.side names c.args.trunks.now.is)
      (sym (ap (λ (hs : List PendingHunt). names_over c.args.link hs) c.hunts_over-hunts.ensures
      ∙ names-all c.args.link c.args.kernel.now.hunts)) c.requires.numbers;
  was = refl;
  links = refl;
}

pub loop-hunt-smaller-in-Continue-1 : goal.loop-hunt-smaller-in-Continue-1
loop-hunt-smaller-in-Continue-1 c =
    falls c.loop-hunt.hunts _ c.in-Some.hunt.now c.in-Some.ensures.entry c.next_entry.ensures.rest

pub loop-hunt-smaller : goal.loop-hunt-smaller
loop-hunt-smaller c =
    falls c.loop-hunt.hunts _ c.in-Some.hunt.now c.in-Some.ensures.entry c.next_entry.ensures.rest

pub loop-hunt-preserved-in-Continue-1 : goal.loop-hunt-preserved-in-Continue-1
loop-hunt-preserved-in-Continue-1 c = record {
  is = asks-next c.args.link c.args.side _ c.loop-hunt.hunts _ c.in-Some.hunt.now
      c.in-Some-name_over.name.now c.loop-hunt.trunks.is c.asked.new.self.is
      c.in-Some.ensures.entry c.next_entry.ensures.rest c.in-Some-name_over.ensures
      c.in_ok-asked.ensures.is c.loop-hunt.invariant.is;
  numbers = numbers-next c.args.link c.args.side c.loop-hunt.hunts _ c.in-Some.hunt.now
      c.in-Some-name_over.name.now c.loop-hunt.trunks.is c.asked.new.self.is
      c.in-Some.ensures.entry c.next_entry.ensures.rest c.in-Some-name_over.ensures
      c.in_ok-asked.ensures.is c.loop-hunt.invariant.numbers;
  was = c.in_ok-asked.ensures.was ∙ c.loop-hunt.invariant.was;
  links = c.in_ok-asked.ensures.links ∙ c.loop-hunt.invariant.links;
}

pub loop-hunt-preserved : goal.loop-hunt-preserved
loop-hunt-preserved c = record {
  is = asks-none c.args.link c.args.side _ c.loop-hunt.hunts _ c.in-Some.hunt.now
      c.loop-hunt.trunks.is c.in-Some.ensures.entry c.next_entry.ensures.rest
      c.in_default-name_over.ensures c.loop-hunt.invariant.is;
  numbers = numbers-none c.args.link c.args.side c.loop-hunt.hunts _ c.in-Some.hunt.now
      c.loop-hunt.trunks.is c.in-Some.ensures.entry c.next_entry.ensures.rest
      c.in_default-name_over.ensures c.loop-hunt.invariant.numbers;
  was = c.loop-hunt.invariant.was;
  links = c.loop-hunt.invariant.links;
}

pub returns-clause-is : goal.returns-clause-is
returns-clause-is c =
    asks-done c.args.link c.args.side _ c.loop-hunt.hunts _ c.in_default.ensures.entry
    c.loop-hunt.invariant.is

pub asked-requires-clause-numbers : goal.asked-requires-clause-numbers
asked-requires-clause-numbers c =
    numbers-now c.args.link c.args.side (names_over c.args.link c.loop-hunt.hunts)
    c.loop-hunt.trunks.is c.loop-hunt.invariant.numbers
