use Rattle.std.specs.Prelude.{option_and_then}
use Rattle.std.specs.Option.{option_map}
use Rattle.std.proofs.Common.{◌≡◌, ℕ, sym, ap, subst, ◌∙◌}
use Rattle.resv_state.specs.Resvs.{ResvFacts, ResvMap, asked_in, resv_key, wish_kept}
use Rattle.resv_state.specs.declared.fact.ResvFact.{ResvFact}
use Rattle.rsvp_base.specs.Styles.{part_unit}
use Rattle.rsvp_base.specs.Table.{changed, get, put_in}
use Rattle.router_state.specs.State.{resv_at}
use Rattle.resv_admission.specs.Kept.{MovesWith}
use Rattle.resv_admission.specs.Placing.{placed_in}
use Rattle.resv_admission.specs.Standing.{Stands, parts_in}
use Rattle.resv_admission.specs.Units.{asked_fact}
use Rattle.resv_admission.proofs.Standing.{moves_on, renewed, stands_as, stands_on}
use Rattle.resv_admission.proofs.unit_renewal.place_or_renew.Goals as goal
use Rattle.resv_admission.proofs.unit_renewal.place_or_renew.Goals.{Then-renew}

-- the reservation that is asked for, which stands
abbrev asked : (g : _) → Then-renew g → ResvFact
asked g c = asked_in g.S.Style.kind_is c.args.table.now.facts (asked_fact c.args.asker.now c.args.part.now)

there : (g : _) (c : Then-renew g) → Stands c.args.table.now.facts (resv_key g.S.Style.kind_is (asked g c)) (asked g c).part
there g c = stands_as (get c.args.table.now.facts (resv_key g.S.Style.kind_is (asked g c))) (asked g c) (c.renew.ensures.stands.0 c.if-renew.true)

after : (g : _) (c : Then-renew g) → c.renew.new.self.facts ≡ put_in c.args.table.now.facts (resv_key g.S.Style.kind_is (asked g c)) (asked g c, c.args.asker.now.left)
after g c = ap (λ (t : ResvMap). t.facts) (c.renew.ensures.renewed c.if-renew.true)

pub returns-then-renew-clause-result : goal.returns-then-renew-clause-result
returns-then-renew-clause-result g c =
    renewed g.S.Style.kind_is c.args.table.now.facts (asked g c) c.args.asker.now.left (there g c) c.limits.ensures.style c.requires.style c.limits.ensures.within c.args.book.now c.look.ensures

pub returns-then-renew-clause-book : goal.returns-then-renew-clause-book
returns-then-renew-clause-book g c =
    let m = c.args.table.now.facts in
    let es = c.args.book.now.entries in
    subst (λ (z : ResvFacts). MovesWith g.S.Style.kind_is m z es es) (sym (after g c)) (moves_on g.S.Style.kind_is m (asked g c) c.args.asker.now.left (there g c) es)

pub returns-then-renew-clause-quiet : goal.returns-then-renew-clause-quiet
returns-then-renew-clause-quiet g c none = (none, ap parts_in (after g c) ∙ stands_on g.S.Style.kind_is c.args.table.now.facts (asked g c) c.args.asker.now.left (there g c))

pub returns-clause-result : goal.returns-clause-result
returns-clause-result g c = λ p b f same is booked.
    let st = g.S.Style.kind_is in
    let a = c.args.asker.now in
    let m = c.args.table.now.facts in
    let still : c.renew.new.self ≡ c.args.table.now = c.renew.ensures.unchanged c.if-renew.false in
    let unit = c.unit-unit.ensures ∙ ap (λ k. part_unit k c.args.part.now) c.kind.ensures in
    let was : c.find-old.result ≡ option_map (λ (e : ResvFact × ℕ). e.0) (get m (a.session, ((a.iface, a.next), part_unit st c.args.part.now))) = c.find-old.ensures.fact
    ∙ (λ i. option_map (λ (e : ResvFact × ℕ). e.0) (get (still i).facts (a.session, ((a.iface, a.next), unit i)))) in
    let wish = c.confirm_of.ensures ∙ ap (λ w. wish_kept a.confirm (option_and_then (λ (x : ResvFact). x.confirm) w)) was in
    c.place-placed.ensures.result p b f same (is ∙ ap (λ (t : ResvMap). changed (resv_at b) t.facts) (sym still)) booked
    ∙ (λ i. placed_in p st b (record { session = a.session; iface = a.iface; next = a.next; part = c.copy.ensures i; confirm = wish i }) a.left f)
