-- Messages that are offered to the first side of a link, one after the other.
use Rattle.std.proofs.Common.{◌≡◌, List, [], ◌∷◌, ◌++◌, refl, sym, ◌∙◌, ap, subst, IsSome}
use Rattle.std.proofs.Common.{append_assoc, append-nil}
use Rattle.std.specs.List.{AllByRecursion}
use Rattle.linx_base.specs.Frames.{IsMessage}
use Rattle.linx_base.specs.declared.frame.Message.{Message}
use Rattle.linx_base.specs.declared.identity.Side.TheVariants.{First}
use Rattle.ethcm_end.specs.States.{peer_of}
use Rattle.carrier.specs.Records.{HalfState}
use Rattle.carrier.specs.Events.{LinkState, near_offered}
use Rattle.carrier.specs.Keeping.{KeepsLink}
use Rattle.carrier.proofs.Delivering.{events_tell}
use Rattle.carrier.proofs.Links.{events_keep}
use Rattle.rlnh_end.specs.Words.{Word, message_of}
use Rattle.rlnh_end.specs.Calls.{with_words}
use Rattle.trunk.specs.Events.{near_offers}
use Rattle.trunk.specs.Keeping.{messages_of}

-- a half of a link to which these messages were offered
pub record OffersAll (old new : HalfState) (ms : List Message) : Type 0 where
  pub session : new.end.talk.mine ≡ old.end.talk.mine
  pub peer : peer_of new.end ≡ peer_of old.end
  pub offered : new.offered ≡ old.offered ++ ms
  pub handed : new.handed ≡ old.handed
  pub past : new.past ≡ old.past

-- a link to whose first side these messages were offered
pub record Offered (old new : LinkState) (ms : List Message) : Type 0 where
  pub keeps : KeepsLink new
  pub near : OffersAll old.first new.first ms
  pub far : new.second ≡ old.second

pub offers : (v : LinkState) (ms : List Message) → IsSome (peer_of v.first.end)
    → AllByRecursion IsMessage ms → KeepsLink v → Offered v (near_offers v ms) ms
offers v [] up all k =
    record {
      keeps = k;
      near =
          record {
            session = refl;
            peer = refl;
            offered = sym (append-nil v.first.offered);
            handed = refl;
            past = refl;
          };
      far = refl;
    }
offers v (m ∷ ms) up all k =
    let w = near_offered v m in
    let o = events_tell.offer First m v up all.0 k in
    let rest = offers w ms (subst (λ p. IsSome p) (sym o.stays.peer) up) all.1
    (events_keep.offered First m v up all.0 k) in
    record {
      keeps = rest.keeps;
      near =
          record {
            session = rest.near.session ∙ o.stays.session;
            peer = rest.near.peer ∙ o.stays.peer;
            offered =
                rest.near.offered ∙ ap (λ k. k ++ ms) o.offered
                ∙ append_assoc v.first.offered (m ∷ []) ms;
            handed = rest.near.handed ∙ o.handed;
            past = rest.near.past ∙ o.past;
          };
      far = rest.far ∙ events_tell.offer_other First m v;
    }

-- what an end that had nothing to say has to say then
pub out_words : (out : List Message) (ws : List Word) → with_words out ws ≡ out ++ messages_of ws
out_words out [] = sym (append-nil out)
out_words out (w ∷ ws) =
    out_words (out ++ message_of w ∷ []) ws ∙ append_assoc out (message_of w ∷ []) (messages_of ws)
