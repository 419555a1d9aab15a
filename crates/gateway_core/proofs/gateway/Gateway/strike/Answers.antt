use Rattle.std.proofs.Common.{◌≡◌, length, add-one, sym, subst, ap, ◌∙◌, refl, arith, None}
use Rattle.linx_base.specs.FirstMatch.{first_match}
use Rattle.linx_timers.specs.Times.{is_next}
use Rattle.keyed_list.proofs.Entries.{without_none_first}
use Rattle.timer_laws.proofs.Sending.{once}
use Rattle.gateway_core.specs.Handling.{GateState, IsGateway, Fires, FiresOne}
use Rattle.gateway_core.proofs.Keeping.{with_timers, with_clock, owners_without, due_is_owners}
use Rattle.gateway_core.proofs.Keeping.{fewer_then, fired_one, none_told}
use Rattle.gateway_core.proofs.gateway.Gateway.strike.Goals as goal

pub invariant_of-self : goal.invariant_of-self
invariant_of-self c =
    subst (λ ts. IsGateway (record {
      layout = c.self.inside.fabric;
      timers = ts;
      clock = c.self.inside.clock;
      requested = c.self.inside.requested;
    })) (sym c.next_due.ensures.others)
    (with_timers _ _ c.self.invariant (owners_without _ _ c.self.inside.timers
    c.self.invariant.owners)
    (once.numbered.sending c.args.moment _ c.self.invariant.numbered))

pub invariant_of-self-in-Some : goal.invariant_of-self-in-Some
invariant_of-self-in-Some c =
    subst (λ ts. IsGateway (record {
      layout = c.self.inside.fabric;
      timers = ts;
      clock = c.self.inside.clock;
      requested = c.self.inside.requested;
    })) (sym c.next_due.ensures.others)
    (with_timers _ _ c.self.invariant (owners_without _ _ c.self.inside.timers
    c.self.invariant.owners)
    (once.numbered.sending c.args.moment _ c.self.invariant.numbered))

pub invariant_of-self-in_default : goal.invariant_of-self-in_default
invariant_of-self-in_default c =
    subst (λ ts. IsGateway (record {
      layout = c.self.inside.fabric;
      timers = ts;
      clock = c.self.inside.clock;
      requested = c.self.inside.requested;
    })) (sym c.next_due.ensures.others)
    (with_timers _ _ c.self.invariant (owners_without _ _ c.self.inside.timers
    c.self.invariant.owners)
    (once.numbered.sending c.args.moment _ c.self.invariant.numbered))

pub fire-requires : goal.fire-requires
fire-requires c =
    due_is_owners _ c.self.invariant c.args.moment c.in-Some.due c.in-Some.ensures.due

pub loop-due-smaller : goal.loop-due-smaller
loop-due-smaller c =
    let less = fewer_then _ c.self.invariant c.args.moment c.in-Some.due c.in-Some.ensures.due in
    let now = ap (λ (g : GateState). length g.timers) c.in_ok-fire.ensures.rest
    ∙ ap length c.next_due.ensures.others in
    let before = ap (λ (g : GateState). length g.timers) c.self.view_is in
    omega (arith, less, now, before)

pub loop-due-preserved : goal.loop-due-preserved
loop-due-preserved c =
    let one : FiresOne c.args.moment c.loop-due.self c.fire.new.self =
    subst (λ (g : GateState). FiresOne c.args.moment g c.fire.new.self) c.self.view_is
    (fired_one _ c.self.invariant c.args.moment c.in-Some.due c.in-Some.ensures.due c.fire.new.self
    c.in_ok-fire.ensures.ok
    (c.in_ok-fire.ensures.rest ∙ ap (λ ts. record {
      layout = c.fire.new.self.layout;
      timers = ts;
      clock = c.self.inside.clock;
      requested = c.self.inside.requested;
    }) c.next_due.ensures.others)) in
    record {
      fires = subst (λ n. Fires c.args.moment n c.args.self.now c.fire.new.self)
          (sym (c.in-Some-checked_add.ensures.1 ∙ add-one c.loop-due.count))
          (c.loop-due.self, (c.loop-due.invariant.fires, one));
      clients = c.fire.ensures.clients ∙ ap (λ (g : GateState). g.layout.shape) c.self.view_is
          ∙ c.loop-due.invariant.clients;
    }

pub invariant_of-self-2 : goal.invariant_of-self-2
invariant_of-self-2 c = with_clock _ c.args.moment c.self-2.invariant c.requires.within

pub returns-clause-ok : goal.returns-clause-ok
returns-clause-ok c =
    let none : first_match (is_next c.args.moment c.self.inside.timers) c.self.inside.timers ≡ None =
    none_told _ c.in_default.ensures.due in
    let same = c.in_default.ensures.others ∙ without_none_first _ _ none in
    record {
      count = c.loop-due.count;
      struck = record {
        layout = c.self.inside.fabric;
        timers = c.self.inside.timers;
        clock = c.self.inside.clock;
        requested = c.self.inside.requested;
      };
      fires = subst (λ (g : GateState). Fires c.args.moment c.loop-due.count c.args.self.now g)
          (sym c.self.view_is) c.loop-due.invariant.fires;
      none_left = none;
      replied = refl;
      is = ap (λ (g : GateState). record g { clock = c.args.moment })
          (c.self-2.view_is ∙ ap (λ ts. record {
            layout = c.self.inside.fabric;
            timers = ts;
            clock = c.self.inside.clock;
            requested = c.self.inside.requested;
          }) same);
    }
