-- A Resv changes the reservations of its session alone, and what follows is its rule.
use Rattle.std.specs.Prelude.{◌≡◌, ℕ, Bool, true, false, [], Option, Some, None, refl}
use Rattle.std.specs.Ordering.{eq_by_cmp}
use Rattle.std.proofs.Common.{sym, ap, ◌∙◌, ⊎_elim}
use Rattle.rsvp_base.specs.Members.{In}
use Rattle.rsvp_base.specs.Orders.{sessions}
use Rattle.rsvp_base.specs.Sets.{is_none}
use Rattle.rsvp_base.specs.Table.{get}
use Rattle.rsvp_base.specs.declared.style.StyleKind.{StyleKind}
use Rattle.rsvp_base.proofs.Tables.{tied_self}
use Rattle.rsvp_messages.specs.Units.{AskedUnit, ask_style, asked_units}
use Rattle.rsvp_messages.specs.declared.message.Message.TheVariants as message
use Rattle.rsvp_messages.specs.declared.message.ResvMsg.{ResvMsg}
use Rattle.style_rules.specs.Lines.{LineKey}
use Rattle.style_rules.specs.Parts.{has_name}
use Rattle.router_rules.specs.Act.{act, act_spelt}
use Rattle.router_rules.specs.Asking.{Asker, act_resv, asker_of, key_at, matched, nothing_taken, style_conflict, taking, taking_of}
use Rattle.router_rules.specs.Facts.{Facts, ResvState, resvs_of}
use Rattle.router_rules.specs.Known.{known}
use Rattle.router_rules.specs.NodeConfig.{NodeConfig, own}
use Rattle.laws_bounds.specs.AskLaws.{IsOfUnit}
use Rattle.laws_bounds.proofs.Taking.{units_other, units_source}
use Rattle.laws_bounds.proofs.Tests.{addr_tested}
use Rattle.router_state.specs.State.{AreNamed}
use Rattle.router_arrivals.specs.Arriving.{to_node}
use Rattle.router_arrivals.proofs.TornDown.{with_away, with_named}

module _ (p : NodeConfig) (c e : ℕ) (m : ResvMsg) (f : Facts) where
  abbrev o : Asker
  o = asker_of p c e m

  -- ---- other sessions
  table_away : (none : Bool) (other : Option StyleKind) (q : LineKey) → eq_by_cmp sessions.cmp m.session q.0 ≡ false
      → get (taking_of p o (asked_units m.ask) f none other).table q ≡ get (resvs_of (ask_style m.ask) f) q
  table_away true other q off = refl
  table_away false (Some st) q off = refl
  table_away false None q off = units_other p o f (matched p f o) (asked_units m.ask) (nothing_taken (resvs_of o.style f) []) q no
    where
      no : (u : AskedUnit) → In u (asked_units m.ask) → q ≡ key_at o u.unit → ⊥
      no u i is = let z : true ≡ false = sym (tied_self sessions m.session) ∙ ap (λ (k : LineKey). eq_by_cmp sessions.cmp m.session k.0) (sym is) ∙ off in cc

  pub take_away : (st : StyleKind) (q : LineKey) → eq_by_cmp sessions.cmp m.session q.0 ≡ false → get (resvs_of st f) q ≡ get (resvs_of st (act_resv p c e m f).facts) q
  take_away st q off = sym (with_away (ask_style m.ask) st (taking p c e m f).table f q (table_away (is_none (known f m.session)) (style_conflict f m.session (ask_style m.ask)) q off))

  -- ---- each reservation names someone
  table_named : AreNamed f → (none : Bool) (other : Option StyleKind) (k : LineKey) (r : ResvState) → get (taking_of p o (asked_units m.ask) f none other).table k ≡ Some r → has_name r.part ≡ true
  table_named named true other k r h = named (ask_style m.ask) k r h
  table_named named false (Some st) k r h = named (ask_style m.ask) k r h
  table_named named false None k r h =
      ⊎_elim (λ (old : get (resvs_of o.style f) k ≡ Some r). named (ask_style m.ask) k r old) (λ (new : IsOfUnit o (matched p f o) (asked_units m.ask) k r). new.named)
      (units_source p o f (matched p f o) (asked_units m.ask) (nothing_taken (resvs_of o.style f) []) k r h)

  pub take_named : AreNamed f → AreNamed (act_resv p c e m f).facts
  take_named named = with_named f named (ask_style m.ask) (taking p c e m f).table (table_named named (is_none (known f m.session)) (style_conflict f m.session (ask_style m.ask)))

  -- ---- a Resv that comes to the node
  pub takes : act p c (to_node p e (message.Resv m)) f ≡ act_resv p c e m f
  takes = ap (λ b. act_spelt p c e (message.Resv m) b f) (addr_tested (own p e) (own p e) refl)
