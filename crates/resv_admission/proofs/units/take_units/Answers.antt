use Rattle.std.proofs.Common.{◌≡◌, ◌≤◌, ◌<◌, ◌+◌, List, [], length, take, slice_get, Some, refl, sym, ap, subst, ◌∙◌, arith}
use Rattle.std.specs.Option.{option_map}
use Rattle.std.proofs.lemmas.List.{take_all}
use Rattle.resv_state.specs.declared.fact.ResvFact.{ResvFact}
use Rattle.rsvp_base.specs.Styles.{name_of}
use Rattle.rsvp_base.specs.Table.{Table, empty, size}
use Rattle.rsvp_base.specs.declared.iface.Iface.{Iface}
use Rattle.rsvp_base.specs.declared.style.StyleKind.{StyleKind}
use Rattle.rsvp_base.proofs.Fronts.{front_more, got_in}
use Rattle.rsvp_messages.specs.Units.{AskedUnit, asked_units}
use Rattle.style_rules.specs.Lines.{line_keys}
use Rattle.style_rules.specs.Merge.{PartTable}
use Rattle.router_rules.specs.Asking.{nothing_taken, take_units}
use Rattle.router_rules.specs.Facts.{resvs_of}
use Rattle.resv_admission.specs.declared.unit.Taken.{Taken}
use Rattle.resv_admission.specs.Units.{IsFit, IsSoFar, asked_unit, asker_at}
use Rattle.resv_admission.proofs.Fits.{ask_fits}
use Rattle.resv_admission.proofs.Steps.{not_past, start_so, units_more}
use Rattle.resv_admission.proofs.units.take_units.Goals as goal

pub loop-k-init : goal.loop-k-init
loop-k-init g c =
    let errors : c.clear.new.self.errors ≡ [] = ap (λ (z : Taken). z.errors) c.clear.ensures in
    let parts : c.clear.new.self.parts ≡ empty = ap (λ (z : Taken). z.parts) c.clear.ensures in
    let none : length c.clear.new.self.errors ≡ 0 = ap length errors in
    let few : size c.clear.new.self.parts ≡ 0 = ap (λ (t : PartTable). size t) parts in
    record {
      so_far = λ p b f same is booked. start_so p b g.S.Style.kind_is c.args.asker.now f c.args.table.now.facts c.args.book.now.entries c.clear.new.self is booked errors
          (ap (λ (z : Taken). z.left_out) c.clear.ensures) parts;
      kept = c.requires.kept;
      dead = refl;
      ifaces = refl;
      few_errors = omega (arith, none);
      few_parts = omega (arith, few);
      quiet = λ none. refl;
    }

pub unreachable-requires : goal.unreachable-requires
unreachable-requires g c =
    let within : c.loop-k.k < length (asked_units c.args.ask.now) = omega (arith, c.loop-k-test.true, c.count_of-k-end.ensures.count) in
    not_past (asked_units c.args.ask.now) c.loop-k.k within (sym c.unit_at.ensures ∙ ap (option_map asked_unit) c.in_default.is)

pub take_unit-requires : goal.take_unit-requires
take_unit-requires g c =
    let us = asked_units c.args.ask.now in
    let w = c.in-Some.wanted in
    let got : slice_get us c.loop-k.k ≡ Some (asked_unit w) = sym c.unit_at.ensures ∙ ap (option_map asked_unit) c.in-Some.is in
    record {
      some = c.requires.some;
      pulled = ap (λ (t : Table line_keys ResvFact). t.rows) c.loop-k.invariant.dead ∙ c.requires.pulled;
      exists = subst (λ (xs : List Iface). c.args.asker.now.iface < length xs) (sym c.loop-k.invariant.ifaces) c.requires.exists;
      kept = c.loop-k.invariant.kept;
      fit = subst (λ (z : StyleKind). IsFit z c.args.all.now w) c.requires.style (ask_fits c.args.ask.now c.args.all.now
          (λ x h. ap (λ (z : StyleKind). name_of z x) c.requires.style ∙ c.requires.listed x h) (asked_unit w) (got_in us c.loop-k.k (asked_unit w) got));
      few_errors = omega (arith, c.loop-k.invariant.few_errors, c.loop-k-test.true, c.count_of-k-end.ensures.few);
      few_parts = omega (arith, c.loop-k.invariant.few_parts, c.loop-k-test.true, c.count_of-k-end.ensures.few);
    }

pub loop-k-preserved : goal.loop-k-preserved
loop-k-preserved g c =
    let st = g.S.Style.kind_is in
    let us = asked_units c.args.ask.now in
    let w = c.in-Some.wanted in
    let got : slice_get us c.loop-k.k ≡ Some (asked_unit w) = sym c.unit_at.ensures ∙ ap (option_map asked_unit) c.in-Some.is in
    record {
      so_far = λ p b f same is booked.
          let o = asker_at b st c.args.asker.now in
          let start = nothing_taken (resvs_of st f) [] in
          let more : take_units p o f c.args.all.now start (take (c.loop-k.k + 1) us) ≡ _ = ap (take_units p o f c.args.all.now start) (front_more us c.loop-k.k (asked_unit w) got)
          ∙ units_more p o f c.args.all.now (take c.loop-k.k us) (asked_unit w) start in
          subst (λ z. IsSoFar p b st c.args.asker.now f c.take_unit.new.table.facts c.take_unit.new.book.entries c.take_unit.new.done z) (sym more)
          (c.take_unit.ensures.step p b f (take_units p o f c.args.all.now start (take c.loop-k.k us)) (same ∙ sym c.loop-k.invariant.ifaces) (c.loop-k.invariant.so_far p b f same is booked));
      kept = c.take_unit.ensures.kept;
      dead = c.take_unit.ensures.dead ∙ c.loop-k.invariant.dead;
      ifaces = c.take_unit.ensures.ifaces ∙ c.loop-k.invariant.ifaces;
      few_errors = omega (arith, c.take_unit.ensures.few_errors, c.loop-k.invariant.few_errors);
      few_parts = omega (arith, c.take_unit.ensures.few_parts, c.loop-k.invariant.few_parts);
      quiet = λ none. let step = c.take_unit.ensures.quiet none in step.1 ∙ c.loop-k.invariant.quiet step.0;
    }

pub returns-clause-taken : goal.returns-clause-taken
returns-clause-taken g c p b f same is booked =
    let st = g.S.Style.kind_is in
    let us = asked_units c.args.ask.now in
    let far : length us ≤ c.loop-k.k = omega (arith, c.loop-k-test.false, c.count_of-k-end.ensures.count) in
    subst (λ (zs : List AskedUnit). IsSoFar p b st c.args.asker.now f c.loop-k.table.facts c.loop-k.book.entries c.loop-k.done
    (take_units p (asker_at b st c.args.asker.now) f c.args.all.now (nothing_taken (resvs_of st f) []) zs))
    (take_all c.loop-k.k us far) (c.loop-k.invariant.so_far p b f same is booked)

pub returns-clause-quiet : goal.returns-clause-quiet
returns-clause-quiet g c = c.loop-k.invariant.quiet
