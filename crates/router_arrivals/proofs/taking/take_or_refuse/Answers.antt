use Rattle.std.proofs.Common.{◌≡◌, true, false, Some, refl, sym, ap, subst, ◌∙◌, arith}
use Rattle.rsvp_base.specs.Sets.{is_none}
use Rattle.rsvp_base.specs.Styles.{name_of}
use Rattle.rsvp_base.specs.Table.{has, kept}
use Rattle.rsvp_base.specs.Orders.{Names}
use Rattle.rsvp_base.specs.declared.style.StyleKind.{StyleKind}
use Rattle.rsvp_messages.specs.Units.{ask_style, asked_units}
use Rattle.router_rules.specs.Asking.{Taking, asker_of, refuse_all, style_conflict, Asker as AskerOf}
use Rattle.router_rules.specs.Facts.{Facts, resvs_of, with_resvs}
use Rattle.router_rules.specs.Known.{known}
use Rattle.router_rules.specs.NodeConfig.{goes_out}
use Rattle.router_state.specs.State.{facts_of}
use Rattle.router_state.specs.Whole.{state_of}
use Rattle.router_arrivals.specs.Taken.{IsDone}
use Rattle.router_arrivals.proofs.Outward.{own_named}
use Rattle.router_arrivals.proofs.Wholes.{in_conflict, none_known, nothing_put, refused_is, same_taking, whole_done}
use Rattle.router_arrivals.proofs.taking.take_or_refuse.Goals as goal

pub take_by_style-requires-clause-exists : goal.take_by_style-requires-clause-exists
take_by_style-requires-clause-exists c = omega (arith, ap (λ (o : AskerOf). o.iface) (c.asker_of-asker.ensures.who 0), c.requires.exists)

pub take_by_style-requires-clause-listed : goal.take_by_style-requires-clause-listed
take_by_style-requires-clause-listed c = λ x h.
    ap (λ (z : StyleKind). name_of z x) (sym c.style_of-style.ensures)
    ∙ own_named c.style_of-style.result (kept (goes_out c.args.tables.now.config c.args.message.now.session c.args.iface) c.of-known.result) x
    (ap (λ (m : Names). has m x) (sym c.matching-all.ensures) ∙ h)

pub returns-then-is_empty-clause-done : goal.returns-then-is_empty-clause-done
returns-then-is_empty-clause-done c = λ clock said.
    let t = c.args.tables.now in
    let m = c.args.message.now in
    let f : Facts = facts_of clock (state_of t said) in
    let o : AskerOf = asker_of t.config clock c.args.iface m in
    let none : is_none (known f m.session) ≡ true = ap is_none (sym (c.of-known.ensures.known clock (state_of t said) refl refl)) ∙ sym c.is_empty.ensures ∙ c.if-is_empty.true in
    subst (λ (z : Taking). IsDone t.config o c.refuse_units.new.done z) (sym (none_known t.config clock c.args.iface m f none))
    (refused_is t.config o 3 0 (asked_units m.ask) (resvs_of (ask_style m.ask) f) c.refuse_units.new.done
    (c.refuse_units.ensures.errors t.config o) c.refuse_units.ensures.left_out c.refuse_units.ensures.parts)

pub returns-then-is_empty-clause-facts : goal.returns-then-is_empty-clause-facts
returns-then-is_empty-clause-facts c = λ clock said.
    let t = c.args.tables.now in
    let m = c.args.message.now in
    let f : Facts = facts_of clock (state_of t said) in
    let none : is_none (known f m.session) ≡ true = ap is_none (sym (c.of-known.ensures.known clock (state_of t said) refl refl)) ∙ sym c.is_empty.ensures ∙ c.if-is_empty.true in
    nothing_put (ask_style m.ask) f ∙ ap (λ (z : Taking). with_resvs (ask_style m.ask) z.table f) (sym (none_known t.config clock c.args.iface m f none))

pub returns-in-Some-clause-done : goal.returns-in-Some-clause-done
returns-in-Some-clause-done c = λ clock said.
    let t = c.args.tables.now in
    let m = c.args.message.now in
    let f : Facts = facts_of clock (state_of t said) in
    let o : AskerOf = asker_of t.config clock c.args.iface m in
    let some : is_none (known f m.session) ≡ false = ap is_none (sym (c.of-known.ensures.known clock (state_of t said) refl refl)) ∙ sym c.is_empty.ensures ∙ c.if-is_empty.false in
    let against : style_conflict f m.session (ask_style m.ask) ≡ Some c.in-Some.other = ap (style_conflict f m.session) (sym c.style_of-style.ensures) ∙ sym (c.style_conflict.ensures clock said)
    ∙ c.in-Some.is in
    subst (λ (z : Taking). IsDone t.config o c.refuse_units-in-Some.new.done z)
    (ap (λ v. refuse_all t.config o 5 v (asked_units m.ask) (resvs_of (ask_style m.ask) f)) c.style_value.ensures ∙ sym (in_conflict t.config clock c.args.iface m f c.in-Some.other some against))
    (refused_is t.config o 5 c.style_value.result (asked_units m.ask) (resvs_of (ask_style m.ask) f) c.refuse_units-in-Some.new.done
    (c.refuse_units-in-Some.ensures.errors t.config o) c.refuse_units-in-Some.ensures.left_out c.refuse_units-in-Some.ensures.parts)

pub returns-in-Some-clause-facts : goal.returns-in-Some-clause-facts
returns-in-Some-clause-facts c = λ clock said.
    let t = c.args.tables.now in
    let m = c.args.message.now in
    let f : Facts = facts_of clock (state_of t said) in
    let some : is_none (known f m.session) ≡ false = ap is_none (sym (c.of-known.ensures.known clock (state_of t said) refl refl)) ∙ sym c.is_empty.ensures ∙ c.if-is_empty.false in
    let against : style_conflict f m.session (ask_style m.ask) ≡ Some c.in-Some.other = ap (style_conflict f m.session) (sym c.style_of-style.ensures) ∙ sym (c.style_conflict.ensures clock said)
    ∙ c.in-Some.is in
    nothing_put (ask_style m.ask) f ∙ ap (λ (z : Taking). with_resvs (ask_style m.ask) z.table f) (sym (in_conflict t.config clock c.args.iface m f c.in-Some.other some against))

pub returns-clause-done : goal.returns-clause-done
returns-clause-done c = λ clock said.
    let t = c.args.tables.now in
    let m = c.args.message.now in
    let f : Facts = facts_of clock (state_of t said) in
    whole_done t.config clock c.args.iface m f c.asker_of-asker.result c.matching-all.result c.style_of-style.result c.of-known.result c.style_of-style.ensures (c.asker_of-asker.ensures.who clock)
    (c.of-known.ensures.known clock (state_of t said) refl refl) c.matching-all.ensures (sym c.is_empty.ensures ∙ c.if-is_empty.false)
    (sym (c.style_conflict.ensures clock said) ∙ c.in_default.is) c.take_by_style.new.done (c.take_by_style.ensures.done clock said)

pub returns-clause-facts : goal.returns-clause-facts
returns-clause-facts c = λ clock said.
    let t = c.args.tables.now in
    let m = c.args.message.now in
    let f : Facts = facts_of clock (state_of t said) in
    c.take_by_style.ensures.facts clock said
    ∙ ap (λ (z : Taking). with_resvs (ask_style m.ask) z.table f)
    (same_taking t.config clock c.args.iface m f c.asker_of-asker.result c.matching-all.result c.style_of-style.result c.of-known.result c.style_of-style.ensures (c.asker_of-asker.ensures.who clock)
    (c.of-known.ensures.known clock (state_of t said) refl refl) c.matching-all.ensures (sym c.is_empty.ensures ∙ c.if-is_empty.false) (sym (c.style_conflict.ensures clock said) ∙ c.in_default.is))
