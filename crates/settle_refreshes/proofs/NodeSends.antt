-- What a node sends for an input by which nothing changes of what it offers and asks for: refreshes, errors and confirmations.
use Rattle.std.proofs.Common.{◌≡◌, ◌⊎◌, ℕ, Bool, true, false, cond, Option, None, inl, inr, ⊎_elim, sym, refl, ap, ◌∙◌}
use Rattle.std.specs.Prelude.{is_some, not}
use Rattle.rsvp_base.specs.declared.part.Part.{Part}
use Rattle.rsvp_base.specs.Members.{In}
use Rattle.rsvp_base.specs.Orders.{Names, senders}
use Rattle.rsvp_base.specs.Sets.{is_none}
use Rattle.rsvp_base.specs.Table.{has}
use Rattle.rsvp_base.proofs.SetLaws.{and_both, has-cut}
use Rattle.rsvp_messages.specs.declared.message.Message.{Message}
use Rattle.rsvp_messages.specs.declared.message.Message.TheVariants as message
use Rattle.rsvp_messages.specs.declared.message.PathMsg.{PathMsg}
use Rattle.rsvp_messages.specs.declared.message.ResvMsg.{ResvMsg}
use Rattle.style_rules.specs.Merge.{PartTable}
use Rattle.router_rules.specs.Act.{act}
use Rattle.router_rules.specs.Facts.{Facts}
use Rattle.router_rules.specs.Inputs.{Change, Input, Send}
use Rattle.router_rules.specs.Known.{Lane, lanes, names_via}
use Rattle.router_rules.specs.NodeConfig.{NodeConfig}
use Rattle.router_rules.specs.Offers.{OfferKey, offers}
use Rattle.router_rules.specs.Requests.{toward}
use Rattle.router_rules.specs.Rule.{settled}
use Rattle.router_rules.specs.Sends.{confirm_for, gone_names, is_changed, torn_names}
use Rattle.router_rules.specs.Steps.{sent_then}
use Rattle.laws_bounds.specs.SendLaws.{IsConf, IsError, IsPath, IsPathTear, IsResv, IsResvTear}
use Rattle.laws_bounds.proofs.Asks.{gone_told}
use Rattle.laws_bounds.proofs.Lists.{one_name}
use Rattle.laws_bounds.proofs.Stepping.{send_told}
use Rattle.laws_bounds.proofs.Tests.{parts_tested}

-- a Path, or a Resv that asks for no confirmation
abbrev pub IsRefreshing : Message → Type 0
IsRefreshing n = ((m : PathMsg) × (n ≡ message.Path m)) ⊎ ((m : ResvMsg) × (n ≡ message.Resv m) × (m.confirm ≡ None))

module _ (p : NodeConfig) (c : ℕ) (i : Input) (f : Facts) where
  abbrev pub change : Change
  change = act p c i f

  -- before marks are used
  abbrev pub after : Facts
  after = settled p c f change.facts

  -- the node offers what it offered, and what goes toward each hop is what went
  pub record IsUnmoved : Type 0 where
    pub offered : (k : OfferKey) → has (offers p f) k ≡ true → has (offers p after) k ≡ true
    pub went : (l : Lane) → has (lanes f) l ≡ true → toward p f l ≡ toward p after l
    pub goes : (l : Lane) → has (lanes after) l ≡ true → toward p f l ≡ toward p after l

  module _ (same : IsUnmoved) where
    none_torn : (l : Lane) → has (lanes f) l ≡ true → is_none (torn_names p p f after l) ≡ true
    none_torn l there = by (is_none (torn_names p p f after l)) refl
      where
        by : (b : Bool) → is_none (torn_names p p f after l) ≡ b → is_none (torn_names p p f after l) ≡ true
        by true e = e
        by false e =
            let x = one_name (torn_names p p f after l) e in
            let gone : Names = gone_names (toward p f l) (toward p after l) in
            let g = (and_both _ _ (sym (has-cut senders gone (names_via after l) x.0) ∙ x.1)).0 in
            let z = gone_told (toward p f l) (toward p after l) x.0 g in
            let yes : has (toward p after l) z.unit ≡ true = ap (λ (t : PartTable). has t z.unit) (sym (same.went l there)) ∙ ap (λ (o : Option Part). is_some o) z.was in
            let bad : true ≡ false = sym yes ∙ z.gone in
            absurd (cc)

    unchanged_lane : (l : Lane) → has (lanes after) l ≡ true → is_changed p p f after l ≡ false
    unchanged_lane l there = ap not (parts_tested (toward p f l) (toward p after l) (same.goes l there))

    pub sends_are : (s : Send) → In s (sent_then p p c i f) → IsRefreshing s.message ⊎ (IsError p p f after change s ⊎ IsConf p p f after change s)
    sends_are s j =
        ⊎_elim (λ (r : IsPathTear p p f after change s). let bad : true ≡ false = sym (same.offered r.key r.was) ∙ r.gone in absurd (cc))
        (λ k.
        ⊎_elim (λ (r : IsResvTear p p f after change s). let bad : true ≡ false = sym (none_torn r.lane r.was) ∙ r.some in absurd (cc))
        (λ k.
        ⊎_elim (λ (r : IsError p p f after change s). inr (inl r))
        (λ k.
        ⊎_elim (λ (r : IsConf p p f after change s). inr (inr r))
        (λ k.
        ⊎_elim (λ (r : IsPath p p f after change s). inl (inl (_, ap (λ (z : Send). z.message) r.is)))
        (λ (r : IsResv p p f after change s).
        inl (inr (_, ap (λ (z : Send). z.message) r.is, ap (λ (b : Bool). cond b (confirm_for p after r.lane change.asked) None) (unchanged_lane r.lane r.there)))) k) k) k) k)
        (send_told p p c i f s j)
