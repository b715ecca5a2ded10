use Rattle.std.proofs.Common.{◌≡◌, Option, Some, None, false, true, ◌++◌, map, refl, sym, ap, subst, ◌∙◌}
use Rattle.rsvp_base.specs.Orders.{Names}
use Rattle.rsvp_base.specs.Sets.{is_none}
use Rattle.rsvp_base.specs.Table.{size}
use Rattle.rsvp_base.specs.declared.part.Part.{Part}
use Rattle.rsvp_base.specs.declared.style.StyleKind.{StyleKind}
use Rattle.router_rules.specs.Asking.{Blamed, losses, lost, names_that_match, put_unit, tell_lost}
use Rattle.style_rules.specs.CutLaws.{part_of_some}
use Rattle.style_rules.specs.Parts.{part_of}
use Rattle.resv_admission.specs.Units.{IsSoFar, asker_at, refusal_of}
use Rattle.resv_admission.specs.declared.unit.Taken.{Taken}
use Rattle.resv_admission.proofs.Steps.{left_out_so, lost_so, many_is, none_is, some_names}
use Rattle.resv_admission.proofs.unit.take_unit.Goals as goal

pub returns-in_default-clause-step : goal.returns-in_default-clause-step
returns-in_default-clause-step g c p b f t same so =
    let st = g.S.Style.kind_is in
    let a = c.args.asker.now in
    let all = c.args.all.now in
    let w = c.args.wanted in
    let m = c.args.table.now.facts in
    let es = c.args.book.now.entries in
    let done : Taken = record c.args.done.now { errors = c.tell_lost.new.errors } in
    let blame = c.lost_of.ensures ∙ ap (λ (z : StyleKind). lost z w.names all) c.kind.ensures in
    let told = lost_so p b st a f m es c.args.done.now t so done (lost st w.names all) w.flow
    (c.tell_lost.ensures.told p (asker_at b st a) ∙ ap (λ (l : Blamed). map (refusal_of p (asker_at b st a)) c.args.done.now.errors ++ losses p (asker_at b st a) w.flow l) blame) refl refl in
    let t2 = tell_lost p (asker_at b st a) w.flow (lost st w.names all) t in
    subst (λ z. IsSoFar p b st a f m es (record done { left_out = true }) z) (sym (many_is p (asker_at b st a) f w.unit t2 (names_that_match w.names all) w.flow (c.in_default.ensures.many.0 refl)))
    (left_out_so p b st a f t2 w.unit (record { senders = names_that_match w.names all; flow = w.flow }) None m es done told (record done { left_out = true }) refl)

pub returns-then-is_empty-clause-step : goal.returns-then-is_empty-clause-step
returns-then-is_empty-clause-step g c p b f t same so =
    let st = g.S.Style.kind_is in
    let a = c.args.asker.now in
    let all = c.args.all.now in
    let w = c.args.wanted in
    let m = c.args.table.now.facts in
    let es = c.args.book.now.entries in
    let done : Taken = record c.args.done.now { errors = c.tell_lost.new.errors } in
    let blame = c.lost_of.ensures ∙ ap (λ (z : StyleKind). lost z w.names all) c.kind.ensures in
    let told = lost_so p b st a f m es c.args.done.now t so done (lost st w.names all) w.flow
    (c.tell_lost.ensures.told p (asker_at b st a) ∙ ap (λ (l : Blamed). map (refusal_of p (asker_at b st a)) c.args.done.now.errors ++ losses p (asker_at b st a) w.flow l) blame) refl refl in
    let t2 = tell_lost p (asker_at b st a) w.flow (lost st w.names all) t in
    let none : size (names_that_match w.names all) ≡ 0 = ap (λ (s : Names). size s) (sym c.in-Some.ensures.those) ∙ c.is_empty.ensures.0 c.if-is_empty.true in
    subst (λ z. IsSoFar p b st a f m es done z) (sym (none_is p (asker_at b st a) f w.unit t2 (names_that_match w.names all) w.flow none)) told

pub put_unit-requires-clause-style : goal.put_unit-requires-clause-style
put_unit-requires-clause-style g c =
    let none : is_none (names_that_match c.args.wanted.names c.args.all.now) ≡ false = ap is_none (sym c.in-Some.ensures.those)
    ∙ sym (some_names c.in-Some.senders c.is_empty.result c.is_empty.ensures.0 c.is_empty.ensures.1) ∙ c.if-is_empty.false in
    let is : part_of (names_that_match c.args.wanted.names c.args.all.now) c.args.wanted.flow ≡ Some (record { senders = c.in-Some.senders; flow = c.args.wanted.flow }) =
    part_of_some (names_that_match c.args.wanted.names c.args.all.now) c.args.wanted.flow none ∙ (λ i. Some (record { senders = sym c.in-Some.ensures.those i; flow = c.args.wanted.flow })) in
    (c.requires.fit (record { senders = c.in-Some.senders; flow = c.args.wanted.flow }) is).0

pub put_unit-requires-clause-unit : goal.put_unit-requires-clause-unit
put_unit-requires-clause-unit g c =
    let none : is_none (names_that_match c.args.wanted.names c.args.all.now) ≡ false = ap is_none (sym c.in-Some.ensures.those)
    ∙ sym (some_names c.in-Some.senders c.is_empty.result c.is_empty.ensures.0 c.is_empty.ensures.1) ∙ c.if-is_empty.false in
    let is : part_of (names_that_match c.args.wanted.names c.args.all.now) c.args.wanted.flow ≡ Some (record { senders = c.in-Some.senders; flow = c.args.wanted.flow }) =
    part_of_some (names_that_match c.args.wanted.names c.args.all.now) c.args.wanted.flow none ∙ (λ i. Some (record { senders = sym c.in-Some.ensures.those i; flow = c.args.wanted.flow })) in
    (c.requires.fit (record { senders = c.in-Some.senders; flow = c.args.wanted.flow }) is).1

pub returns-clause-step : goal.returns-clause-step
returns-clause-step g c p b f t same so =
    let st = g.S.Style.kind_is in
    let a = c.args.asker.now in
    let all = c.args.all.now in
    let w = c.args.wanted in
    let m = c.args.table.now.facts in
    let es = c.args.book.now.entries in
    let done : Taken = record c.args.done.now { errors = c.tell_lost.new.errors } in
    let blame = c.lost_of.ensures ∙ ap (λ (z : StyleKind). lost z w.names all) c.kind.ensures in
    let told = lost_so p b st a f m es c.args.done.now t so done (lost st w.names all) w.flow
    (c.tell_lost.ensures.told p (asker_at b st a) ∙ ap (λ (l : Blamed). map (refusal_of p (asker_at b st a)) c.args.done.now.errors ++ losses p (asker_at b st a) w.flow l) blame) refl refl in
    let t2 = tell_lost p (asker_at b st a) w.flow (lost st w.names all) t in
    let none : is_none (names_that_match c.args.wanted.names c.args.all.now) ≡ false = ap is_none (sym c.in-Some.ensures.those)
    ∙ sym (some_names c.in-Some.senders c.is_empty.result c.is_empty.ensures.0 c.is_empty.ensures.1) ∙ c.if-is_empty.false in
    let is : part_of (names_that_match c.args.wanted.names c.args.all.now) c.args.wanted.flow ≡ Some (record { senders = c.in-Some.senders; flow = c.args.wanted.flow }) =
    part_of_some (names_that_match c.args.wanted.names c.args.all.now) c.args.wanted.flow none ∙ (λ i. Some (record { senders = sym c.in-Some.ensures.those i; flow = c.args.wanted.flow })) in
    subst (λ (x : Option Part). IsSoFar p b st a f c.put_unit.new.table.facts c.put_unit.new.book.entries c.put_unit.new.done (put_unit p (asker_at b st a) f w.unit x t2)) (sym is)
    (c.put_unit.ensures.step p b f t2 same told)
