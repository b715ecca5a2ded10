-- Facts and inputs that meet the premises of the laws.
use Rattle.std.specs.Prelude.{◌≡◌, ℕ, zero, suc, ◌≤◌, Bool, true, false, cond, List, [], ◌∷◌, slice_get, Option, Some, None, refl}
use Rattle.std.specs.List.{range_with_len}
use Rattle.std.specs.Ordering.{eq_by_cmp}
use Rattle.std.proofs.Common.{sym, ap, subst, inl, inr, ⊎_elim, arith}
use Rattle.rsvp_base.specs.declared.iface.Iface.{Iface}
use Rattle.rsvp_base.specs.declared.part.Part.{Part}
use Rattle.rsvp_base.specs.declared.session.Session.{Session}
use Rattle.rsvp_base.specs.declared.style.StyleKind.{StyleKind}
use Rattle.rsvp_base.specs.declared.style.StyleKind.TheVariants.{Wild, Fixed, Shared}
use Rattle.rsvp_base.specs.declared.style.Unit.TheVariants.{One}
use Rattle.rsvp_base.specs.declared.session.Sender.{Sender}
use Rattle.rsvp_base.specs.Members.{In}
use Rattle.rsvp_base.specs.Table.{get, has}
use Rattle.rsvp_base.specs.TokenBucket.{IsSound}
use Rattle.rsvp_messages.specs.Units.{AskedUnit, asked_units}
use Rattle.style_rules.specs.Lines.{LineKey, book_of_end, held}
use Rattle.rsvp_base.specs.Orders.{entry_keys}
use Rattle.rsvp_base.specs.declared.entry_key.EntryKey.{EntryKey}
use Rattle.style_rules.specs.Limits.{IsWithinLimits}
use Rattle.style_rules.specs.PartLaws.{part_at_most_itself}
use Rattle.style_rules.proofs.Room.{within_told}
use Rattle.laws_bounds.specs.RouterRules.Asking.{asker_of}
use Rattle.laws_bounds.specs.RouterRules.Bounds.{IsWithinBounds}
use Rattle.laws_bounds.specs.RouterRules.Facts.{Facts, ResvState, no_facts, resvs_of}
use Rattle.laws_bounds.specs.RouterRules.Inputs.{Wait}
use Rattle.router_examples.specs.ThreeRouters.{first, iface, r2, s1, scope, session, usual}
use Rattle.laws_bounds.specs.RouterRules.Act.{act}
use Rattle.laws_bounds.proofs.RouterRules.Bounding.{no_facts_are_within_bounds}
use Rattle.laws_bounds.proofs.Leaving.{waiting_leaves_the_living}
use Rattle.laws_bounds.proofs.Lists.{some_same}
use Rattle.laws_bounds.specs.RouterRules.Steps.{AreFewer, IsFit, IsSameNode, facts_then}
use Rattle.laws_bounds.proofs.Folding.{only_one}
use Rattle.laws_bounds.proofs.Reserving.{forgotten_fewer}
use Rattle.laws_bounds.proofs.Bounded.{a_step_keeps_a_node_within_bounds}
use Rattle.laws_steps.specs.AcceptingLaws.{CanBeHeld, IsPlaced, line_at}
use Rattle.laws_steps.specs.Examples.{AcceptanceHasExamples, BoundLawsHaveExamples, CountdownLawHasExamples, ErrorLawsHaveExamples, FrameLawsHaveExamples, PathLawsHaveExamples}
use Rattle.laws_steps.specs.Examples.{SendLawsHaveExamples, half_later, of_port, of_t, one_path, one_resv, path_in, r, reserved, resv_in, resv_msg, the_lines, with_paths_of}

-- ---- fit inputs, and facts within bounds
same : IsSameNode r r
same = record { quarter = refl; ifaces = refl; some = omega arith }

sound : IsSound usual
sound = record { rate = omega arith; depth = omega arith; low = omega arith; most = omega arith }

path_fit : (port : ℕ) → IsFit r (path_in (of_port port))
path_fit port = (omega arith, (sound, tt))

resv_fit : IsFit r resv_in
resv_fit = (omega arith, record { scope_is = λ s e. port_0 s e; flow_is = sound })
  where
    port_0 : (s : Sender) → has scope s ≡ true → s.port ≡ 0
    port_0 s e = ap (λ (x : Sender). x.port) (only_one (record { addr = s1; port = 0 }) s e)

wait_fit : IsFit r (Wait 15000 0)
wait_fit = omega arith

none_within : IsWithinBounds r 0 no_facts
none_within = no_facts_are_within_bounds r 0

paths_within : (ports : List ℕ) (f : Facts) → IsWithinBounds r 0 f → IsWithinBounds r 0 (with_paths_of ports f)
paths_within [] f w = w
paths_within (port ∷ ports) f w = paths_within ports (facts_then r r 0 (path_in (of_port port)) f) (a_step_keeps_a_node_within_bounds r r 0 (path_in (of_port port)) f same (path_fit port) w)

one_within : IsWithinBounds r 0 one_path
one_within = a_step_keeps_a_node_within_bounds r r 0 (path_in first) no_facts same (path_fit 5004) none_within

resv_within : IsWithinBounds r 0 one_resv
resv_within = a_step_keeps_a_node_within_bounds r r 0 resv_in one_path same resv_fit one_within

half_within : IsWithinBounds r 15000 half_later
half_within = a_step_keeps_a_node_within_bounds r r 0 (Wait 15000 0) one_resv same wait_fit resv_within

pub path_laws_have_examples : PathLawsHaveExamples
path_laws_have_examples =
    record {
      within = none_within;
      came = record { at = 0; path = _; tspec = usual; came = refl; session = refl; sender = refl; tree = refl };
      room = one_within.limits.paths;
      comes = refl;
      within_full = paths_within (range_with_len 1 16) no_facts none_within;
      came_full = record { at = 0; path = _; tspec = usual; came = refl; session = refl; sender = refl; tree = refl };
      full = λ w. let most = w.one session in omega (arith, most);
      within_one = one_within;
      there = refl;
      dies = record { ms = 1; word = 0; waited = refl; dies = omega arith };
      torn = record { at = 0; tear = _; came = refl; session = refl; sender = refl; hop = refl };
    }

pub frame_laws_have_examples : FrameLawsHaveExamples
frame_laws_have_examples = record { within = resv_within; none = (refl, refl, refl, refl, refl); calm = (refl, refl) }

pub countdown_law_has_examples : CountdownLawHasExamples
countdown_law_has_examples = record { within = half_within; due = refl; moved = refl; fired = refl; not_yet = refl; new = refl; started = refl }

pub send_laws_have_examples : SendLawsHaveExamples
send_laws_have_examples =
    record {
      path_sent = inl refl;
      tear_sent = inl refl;
      within = half_within;
      fired = refl;
      asked = refl;
      path_again = inl refl;
      resv_again = inr (inl refl);
    }

-- after a wait no reservation is larger
later_fewer : AreFewer one_resv half_later
later_fewer st k x e =
    let left = forgotten_fewer one_resv (act r 15000 (Wait 15000 0) one_resv).facts st k x e in
    let was = (waiting_leaves_the_living.of_resvs r 15000 0 one_resv st k left.0).0 left.1 in (left.0, was.0, left.2)

pub bound_laws_have_examples : BoundLawsHaveExamples
bound_laws_have_examples =
    record {
      same = same;
      path_fit = path_fit 5004;
      resv_fit = resv_fit;
      wait_fit = wait_fit;
      within = resv_within;
      fewer = later_fewer;
      path_left = (record { later = omega arith; soon = omega arith }, record { iface = omega arith; tspec = sound; adspec = tt });
      resv_left = (resv_within.alive.resvs Wild of_t reserved refl, resv_within.shapes.resvs Wild of_t reserved refl);
      wall_left = (record { later = omega arith; soon = omega arith }, record { iface = omega arith; flow = sound });
    }

-- ---- the line of the Resv
abbrev capacity_of : Option Iface → ℕ
capacity_of None = 0
capacity_of (Some on) = on.capacity

abbrev mtu_of : Option Iface → ℕ
mtu_of None = 0
mtu_of (Some on) = on.mtu

capacity : (i : ℕ) (on : Iface) → slice_get r.ifaces i ≡ Some on → held (book_of_end i the_lines) ≤ on.capacity
capacity zero on e = let is : ◌≡◌ {A = ℕ} 10000 on.capacity = ap capacity_of e in omega (arith, is)
capacity (suc zero) on e = let is : ◌≡◌ {A = ℕ} 10000 on.capacity = ap capacity_of e in omega (arith, is)
capacity (suc (suc i)) on e = absurd (cc)

-- the one entry of the book
abbrev the_part : Part
the_part = record { senders = scope; flow = usual }

one_entry : (k : EntryKey) (part : Part) → get (book_of_end 1 the_lines) k ≡ Some part → the_part ≡ part
one_entry k part g = by (eq_by_cmp entry_keys.cmp k (record { session = session; style = Wild; unit = One })) g
  where
    by : (b : Bool) → cond b (Some the_part) None ≡ Some part → the_part ≡ part
    by true e = some_same the_part part e
    by false e = absurd (cc)

mtu : (i : ℕ) (on : Iface) (k : EntryKey) (part : Part) → slice_get r.ifaces i ≡ Some on → get (book_of_end i the_lines) k ≡ Some part → part.flow.most ≤ on.mtu
mtu zero on k part e g = absurd (cc)
mtu (suc zero) on k part e g =
    let is : ◌≡◌ {A = ℕ} 1500 on.mtu = ap mtu_of e in let most : ◌≡◌ {A = ℕ} 1500 part.flow.most = ap (λ (x : Part). x.flow.most) (one_entry k part g) in omega (arith, is, most)
mtu (suc (suc i)) on k part e g = absurd (cc)

limits : (st : StyleKind) → IsWithinLimits st the_lines
limits Wild = within_told Wild the_lines refl
limits Fixed = within_told Fixed the_lines refl
limits Shared = within_told Shared the_lines refl

can_be_held : (s : Session) (i : ℕ) → CanBeHeld r s i the_lines
can_be_held s i = record { limits = limits; capacity = capacity i; mtu = λ on k part e of g. mtu i on k part e g }

no_line : {A : Type 0} (st : StyleKind) (k : LineKey) (x : ResvState) → get (resvs_of st one_path) k ≡ Some x → A
no_line Wild k x e = absurd (cc)
no_line Fixed k x e = absurd (cc)
no_line Shared k x e = absurd (cc)

the_unit : (u : AskedUnit) → In u (asked_units resv_msg.ask) → IsPlaced r (asker_of r 0 1 resv_msg) one_path the_lines u
the_unit u i =
    ⊎_elim
    (λ (is : u ≡ record { unit = One; names = Some scope; flow = usual }).
    subst (λ (z : AskedUnit). IsPlaced r (asker_of r 0 1 resv_msg) one_path the_lines z) (sym is)
    (record {
      names = scope;
      listed = refl;
      some = refl;
      match = λ x e. e;
      place = (line_at (asker_of r 0 1 resv_msg) One the_part, inl refl, record { style = refl; key = refl; part = part_at_most_itself the_part });
    }))
    (λ (n : ⊥). absurd n)
    i

pub acceptance_has_examples : AcceptanceHasExamples
acceptance_has_examples =
    record {
      within = one_within;
      can_be_held = can_be_held;
      can_be_taken =
          record {
            proper = resv_fit.1;
            lines_held = can_be_held resv_msg.session 1;
            there = λ l i. absurd i;
            units = the_unit;
            resv_style = λ st k x e is. no_line st k x e;
            want_style = λ u w e. absurd (cc);
          };
      too_much = λ s h. let most = h.capacity (iface r2 10000) refl in omega (arith, most);
    }

-- ---- an error
pub error_laws_have_examples : ErrorLawsHaveExamples
error_laws_have_examples = record { within = resv_within; fit = (omega arith, (resv_fit.1.scope_is, sound)); before = refl; after = refl; goes_on = refl; told = inl refl }
