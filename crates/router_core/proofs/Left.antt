-- What is known of a node before what goes toward its hops is kept as said.
use Rattle.std.specs.Prelude.{◌≡◌, ℕ, Option, Some, None, refl}
use Rattle.std.specs.Option.{option_map}
use Rattle.std.proofs.Common.{sym, ap, ◌∙◌}
use Rattle.path_state.specs.Paths.{path_keys}
use Rattle.path_state.specs.declared.fact.PathFact.{PathFact}
use Rattle.rsvp_base.specs.Sets.{Set}
use Rattle.rsvp_base.specs.Table.{get, has}
use Rattle.rsvp_base.proofs.Tables.{get-changed, then_do}
use Rattle.style_rules.specs.Lines.{next_hops}
use Rattle.style_rules.specs.Toward.{or_else}
use Rattle.router_rules.specs.Facts.{SenderKey}
use Rattle.router_rules.specs.Offers.{Offer, own_offer, path_offer}
use Rattle.router_state.specs.State.{IsSaid, Said, State, facts_at, facts_of, path_at}
use Rattle.laws_sends.specs.Before.{IsBefore}
use Rattle.laws_sends.specs.Changed.{IsChangedFor}
use Rattle.laws_sends.specs.SendsHere.{hops_in}
use Rattle.laws_sends.specs.Told.{offered}
use Rattle.router_arrivals.proofs.Before.{is_before}

-- what is offered of a sender is the same at each clock
offers_at : (n : State) (k : SenderKey) (c : ℕ) → offered (facts_of 0 n) k ≡ offered (facts_of c n) k
offers_at n k c =
    ap (λ w. or_else (option_map (own_offer (has n.advertised k)) (get n.senders k)) w)
    (ap (option_map path_offer) (get-changed path_keys (path_at 0) n.paths k) ∙ by (get n.paths k) ∙ sym (ap (option_map path_offer) (get-changed path_keys (path_at c) n.paths k)))
  where
    by : (w : Option (PathFact × ℕ)) → option_map path_offer (then_do w (path_at 0 k)) ≡ option_map path_offer (then_do w (path_at c k))
    by None = refl
    by (Some e) = refl

pub left_before : (k : SenderKey) (n w : State) → IsChangedFor k n w → w.said ≡ n.said → IsSaid n.said n → (near : Set next_hops) → ((c : ℕ) → near ≡ hops_in (facts_of c n) k.0)
    → (z : State) × (o : Option Offer) × IsBefore k z w o near
left_before k n w ch same told near hops = (n, offered (facts_of 0 n) k, is_before k n w ch same told (offered (facts_of 0 n) k) (offers_at n k) near hops)

-- facts do not depend on what was said
pub said_apart : (c : ℕ) (n : State) (said : Said) → facts_at c (record n { said = said }) ≡ facts_at c n
unfolding facts_at
said_apart c n said = refl
