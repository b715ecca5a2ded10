-- A ResvTear that takes every name of a reservation: nothing is left of it.
use Rattle.std.proofs.Common.{◌≡◌, ℕ, true, false, Bool, None, Some, sym, refl, ap, ◌∙◌}
use Rattle.std.specs.Prelude.{◌&&◌, not}
use Rattle.std.specs.List.{list_any}
use Rattle.std.specs.Ordering.{eq_by_cmp}
use Rattle.rsvp_base.specs.declared.session.Sender.{Sender}
use Rattle.rsvp_base.specs.declared.style.StyleKind.{StyleKind}
use Rattle.rsvp_base.specs.Orders.{senders, sessions}
use Rattle.rsvp_base.specs.Table.{get, has, keys}
use Rattle.rsvp_base.proofs.Counts.{found_in}
use Rattle.rsvp_base.proofs.Fronts.{to_keys}
use Rattle.rsvp_base.proofs.Members.{any_in}
use Rattle.rsvp_base.proofs.SetLaws.{and_made}
use Rattle.rsvp_base.proofs.Tables.{tied_self}
use Rattle.rsvp_messages.specs.declared.message.Message.TheVariants as message
use Rattle.rsvp_messages.specs.declared.message.ResvTearMsg.{ResvTearMsg}
use Rattle.rsvp_messages.specs.Units.{tear_names, tear_style}
use Rattle.style_rules.specs.Lines.{LineKey, is_of_hop, line_keys, next_hops}
use Rattle.style_rules.specs.Parts.{has_name}
use Rattle.style_rules.proofs.StyleLaws.{unit_name}
use Rattle.laws_bounds.proofs.Leaving.{forgetting_by_names, left_by_names}
use Rattle.laws_bounds.proofs.Receiving.{resv_tears_by_names}
use Rattle.laws_bounds.proofs.Ruling.{rule_in_parts}
use Rattle.laws_bounds.proofs.Tests.{addr_tested}
use Rattle.router_rules.specs.Act.{act, act_spelt}
use Rattle.router_rules.specs.Asking.{act_resv_tear, names_one, stays}
use Rattle.router_rules.specs.Facts.{Facts, ResvState, ResvTables, resvs_of, table_of}
use Rattle.router_rules.specs.Inputs.{Came, Input, Spelt}
use Rattle.router_rules.specs.NodeConfig.{NodeConfig, own}
use Rattle.router_rules.specs.Steps.{facts_then}

module _ (p : NodeConfig) (c e : ℕ) (m : ResvTearMsg) (f : Facts) (k : LineKey) (session : m.session ≡ k.0) (iface : e ≡ k.1.0.0) (next : m.hop.addr ≡ k.1.0.1)
    (named : (r : ResvState) → get (resvs_of (tear_style m.tear) f) k ≡ Some r → has_name r.part ≡ true)
    (all : (r : ResvState) → get (resvs_of (tear_style m.tear) f) k ≡ Some r → (x : Sender) → has r.part.senders x ≡ true → stays (tear_names m.tear) x ≡ false) where
  abbrev st : StyleKind
  st = tear_style m.tear

  abbrev input : Input
  input = Came e (own p e) (Spelt (message.ResvTear m))

  of_hop : is_of_hop m.session (e, m.hop.addr) k ≡ true
  of_hop = (λ j. eq_by_cmp sessions.cmp (session j) k.0 && eq_by_cmp next_hops.cmp (iface j, next j) k.1.0) ∙ and_made _ _ (tied_self sessions k.0) (tied_self next_hops k.1.0)

  found : (r : ResvState) → get (resvs_of st f) k ≡ Some r → names_one m.session (e, m.hop.addr) (tear_names m.tear) (resvs_of st f) ≡ true
  found r there =
      let x = unit_name st r.part (named r there) in
      let goes : not (stays (tear_names m.tear) x.name) ≡ true = ap not (all r there x.name x.there) in
      let one : list_any (λ (z : Sender). not (stays (tear_names m.tear) z)) (keys r.part.senders) ≡ true =
      any_in (λ (z : Sender). not (stays (tear_names m.tear) z)) x.name (keys r.part.senders) (to_keys senders r.part.senders x.name x.there) goes in
      any_in (λ (z : LineKey × ResvState). is_of_hop m.session (e, m.hop.addr) z.0 && list_any (λ (y : Sender). not (stays (tear_names m.tear) y)) (keys z.1.part.senders)) (k, r) (resvs_of st f).rows
      (found_in line_keys (resvs_of st f) k r there) (and_made _ _ of_hop one)

  taken : (b : Bool) → b ≡ true → (x : ResvState) → get (resvs_of st (act_spelt p c e (message.ResvTear m) b f).facts) k ≡ Some x → get (resvs_of st (act_resv_tear e m f).facts) k ≡ Some x
  taken true is x h = h
  taken false is x h = cc

  pub nothing_left : (x : ResvState) → get (resvs_of st (facts_then p p c input f)) k ≡ Some x → ⊥
  nothing_left x h =
      let y = forgetting_by_names.at f (act p c input f).facts st k x (ap (λ (z : ResvTables). get (table_of st z) k) (sym (rule_in_parts.resvs p p c input f)) ∙ h) in
      let torn = taken _ (addr_tested (own p e) (own p e) refl) y.0 y.1 in
      let r = resv_tears_by_names.source e m f k y.0 torn in
      let gone : get (resvs_of st (act_resv_tear e m f).facts) k ≡ None =
      resv_tears_by_names.own e m f k r.0 (found r.0 r.1) of_hop r.1 ∙ left_by_names.nobody (stays (tear_names m.tear)) r.0 (all r.0 r.1) in
      let bad : None ≡ Some y.0 = sym gone ∙ torn in
      cc
