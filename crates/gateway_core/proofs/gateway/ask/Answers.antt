use Rattle.std.proofs.Common.{◌≡◌, Bool, true, false, refl, sym, ◌∙◌, Result, Ok, Err}
use Rattle.gateway_core.proofs.gateway.ask.Goals as goal

pub step-requires : goal.step-requires
step-requires c = record {
  asked = record {
    maker = c.requires.maker;
    may = refl;
    handed = c.requires.handed;
    fits = c.requires.fits;
  };
}

ok_is_no_err : {T E : Type 0} (x : T) (e : E) → Ok x ≡ Err e → ⊥
ok_is_no_err x e is = cc

-- what a full journal stops wasn't full where it is done
not_full : {T E : Type 0} (full : Bool) (r : Result T E) (x : T) (e : E)
    → (full ≡ true → r ≡ Err e) → r ≡ Ok x → full ≡ false
not_full false r x e stops is = refl
not_full true r x e stops is = absurd (ok_is_no_err x e (sym is ∙ stops refl))

pub returns-in-Ok-clause-ok : goal.returns-in-Ok-clause-ok
returns-in-Ok-clause-ok c = record {
  room = not_full _ c.step.result c.in-Ok.answer _ c.step.ensures.full c.in-Ok.is;
  answer = c.in-Ok.answer;
  stepped = c.in-Ok.ensures.ok;
  replied = c.reply_to.ensures;
}
