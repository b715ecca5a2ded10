use Rattle.std.proofs.Common.{◌≡◌, ℕ, [], ◌∷◌, ◌++◌, Some, is_some, refl, sym, ap, subst, ◌∙◌, arith, ◌≤◌, ◌+◌}
use Rattle.admission_book.specs.Book.{Bookings}
use Rattle.resv_state.specs.Resvs.{ResvMap, asked_in, resv_key}
use Rattle.resv_state.specs.declared.fact.ResvFact.{ResvFact}
use Rattle.rsvp_base.specs.Styles.{part_unit}
use Rattle.rsvp_base.specs.Table.{changed, get, put_in, size}
use Rattle.rsvp_base.specs.declared.entry_key.EntryKey.{EntryKey}
use Rattle.rsvp_base.specs.declared.style.StyleKind.{StyleKind}
use Rattle.style_rules.specs.Merge.{PartTable}
use Rattle.router_rules.specs.Asking.{confirm_kept, or_kept, put_unit}
use Rattle.router_rules.specs.Facts.{Facts, resvs_of}
use Rattle.router_state.specs.State.{resv_at}
use Rattle.resv_admission.specs.Kept.{IsBookOf}
use Rattle.resv_admission.specs.Placing.{chosen, placed_in}
use Rattle.resv_admission.specs.declared.placing.Placed.TheVariants as placed
use Rattle.resv_admission.specs.Units.{IsSoFar, asked_fact, asker_at}
use Rattle.resv_admission.specs.declared.unit.Taken.{Taken}
use Rattle.resv_admission.proofs.Steps.{among_after, done_by, grows, so_with, step_so, wish_asked}
use Rattle.resv_admission.proofs.unit.put_unit.Goals as goal

pub returns-in-LeftOut-clause-step : goal.returns-in-LeftOut-clause-step
returns-in-LeftOut-clause-step g c p b f t same so =
    let st = g.S.Style.kind_is in
    let a = c.args.asker.now in
    let m = c.args.table.now.facts in
    let es = c.args.book.now.entries in
    let key : ℕ × EntryKey = (a.iface, record { session = a.session; style = st; unit = c.args.unit }) in
    let it : ResvFact = asked_in st m (asked_fact a c.args.part) in
    let done : Taken = record c.args.done.now { news = c.place_or_renew.new.news } in
    let so_far = so_with p b st a f m es c.args.done.now t so c.place_or_renew.new.news in
    let wish = wish_asked b m a.confirm (a.session, ((a.iface, a.next), part_unit st c.args.part))
    ∙ ap (λ u. or_kept a.confirm (confirm_kept (get (changed (resv_at b) m) (a.session, ((a.iface, a.next), u))))) c.requires.unit in
    let result : (h : Facts) → resvs_of st h ≡ changed (resv_at b) m → IsBookOf h es → c.place_or_renew.result ≡ placed_in p st b it a.left h =
    λ h is booked. c.place_or_renew.ensures.result p b h same is booked in
    let table : c.place_or_renew.new.table.facts ≡ chosen c.place_or_renew.result (put_in m (resv_key st it) (it, a.left)) m = ap (λ (z : ResvMap). z.facts) c.place_or_renew.ensures.table in
    let all = step_so p b st a f t c.args.unit c.args.part it.confirm m es done so_far c.place_or_renew.ensures.style c.requires.style c.requires.unit wish
    (rw (sym c.len.ensures.size) c.len.ensures.few)
    (is_some (get es key)) refl c.place_or_renew.new.table.facts c.place_or_renew.new.book.entries c.place_or_renew.result result table c.place_or_renew.ensures.book
    (λ x. ap (λ (z : Bookings). z.entries) (c.place_or_renew.ensures.unchanged x)) in
    let by = done_by (is_some (get es key)) c.args.unit c.args.part done in
    subst (λ (d : Taken). IsSoFar p b st a f c.place_or_renew.new.table.facts c.place_or_renew.new.book.entries d (put_unit p (asker_at b st a) f c.args.unit (Some c.args.part) t))
    (ap by c.in-LeftOut.is) all

pub returns-in-LeftOut-clause-kept : goal.returns-in-LeftOut-clause-kept
returns-in-LeftOut-clause-kept g c =
    among_after g.S.Style.kind_is c.args.table.now.facts c.place_or_renew.new.table.facts c.args.book.now.entries c.place_or_renew.new.book.entries c.requires.kept c.place_or_renew.ensures.book

pub returns-in-Refused-clause-step : goal.returns-in-Refused-clause-step
returns-in-Refused-clause-step g c p b f t same so =
    let st = g.S.Style.kind_is in
    let a = c.args.asker.now in
    let m = c.args.table.now.facts in
    let es = c.args.book.now.entries in
    let key : ℕ × EntryKey = (a.iface, record { session = a.session; style = st; unit = c.args.unit }) in
    let it : ResvFact = asked_in st m (asked_fact a c.args.part) in
    let done : Taken = record c.args.done.now { news = c.place_or_renew.new.news } in
    let so_far = so_with p b st a f m es c.args.done.now t so c.place_or_renew.new.news in
    let wish = wish_asked b m a.confirm (a.session, ((a.iface, a.next), part_unit st c.args.part))
    ∙ ap (λ u. or_kept a.confirm (confirm_kept (get (changed (resv_at b) m) (a.session, ((a.iface, a.next), u))))) c.requires.unit in
    let result : (h : Facts) → resvs_of st h ≡ changed (resv_at b) m → IsBookOf h es → c.place_or_renew.result ≡ placed_in p st b it a.left h =
    λ h is booked. c.place_or_renew.ensures.result p b h same is booked in
    let table : c.place_or_renew.new.table.facts ≡ chosen c.place_or_renew.result (put_in m (resv_key st it) (it, a.left)) m = ap (λ (z : ResvMap). z.facts) c.place_or_renew.ensures.table in
    let all = step_so p b st a f t c.args.unit c.args.part it.confirm m es done so_far c.place_or_renew.ensures.style c.requires.style c.requires.unit wish
    (rw (sym c.len.ensures.size) c.len.ensures.few)
    (is_some (get es key)) refl c.place_or_renew.new.table.facts c.place_or_renew.new.book.entries c.place_or_renew.result result table c.place_or_renew.ensures.book
    (λ x. ap (λ (z : Bookings). z.entries) (c.place_or_renew.ensures.unchanged x)) in
    let by = done_by (is_some (get es key)) c.args.unit c.args.part done in
    let not_taken : c.place_or_renew.result ≡ placed.Taken → ⊥ = λ x. let z : placed.Refused c.in-Refused.why ≡ placed.Taken = sym c.in-Refused.is ∙ x in cc in
    let stood : c.is_some-in_place.result ≡ is_some (get es key) =
    c.is_some-in_place.ensures ∙ ap is_some c.entry.ensures.flow ∙ ap (λ (z : StyleKind). is_some
    (get c.place_or_renew.new.book.entries (a.iface, record { session = a.session; style = z; unit = c.args.unit }))) c.kind-style.ensures
    ∙ ap (λ (z : Bookings). is_some (get z.entries key)) (c.place_or_renew.ensures.unchanged not_taken) in
    subst (λ (d : Taken). IsSoFar p b st a f c.place_or_renew.new.table.facts c.place_or_renew.new.book.entries d (put_unit p (asker_at b st a) f c.args.unit (Some c.args.part) t))
    (ap by c.in-Refused.is ∙ (λ i. record done {
      errors = ((λ j. done.errors ++ record
          { in_place = sym stood j; code = 1; value = sym c.value_of-value.ensures j; names = Some c.args.part.senders; flow = c.args.part.flow } ∷ []) ∙ sym c.push.ensures) i;
    })) all

pub returns-in-Refused-clause-kept : goal.returns-in-Refused-clause-kept
returns-in-Refused-clause-kept g c =
    among_after g.S.Style.kind_is c.args.table.now.facts c.place_or_renew.new.table.facts c.args.book.now.entries c.place_or_renew.new.book.entries c.requires.kept c.place_or_renew.ensures.book

pub returns-in-Ok-clause-step : goal.returns-in-Ok-clause-step
returns-in-Ok-clause-step g c p b f t same so =
    let st = g.S.Style.kind_is in
    let a = c.args.asker.now in
    let m = c.args.table.now.facts in
    let es = c.args.book.now.entries in
    let key : ℕ × EntryKey = (a.iface, record { session = a.session; style = st; unit = c.args.unit }) in
    let it : ResvFact = asked_in st m (asked_fact a c.args.part) in
    let done : Taken = record c.args.done.now { news = c.place_or_renew.new.news } in
    let so_far = so_with p b st a f m es c.args.done.now t so c.place_or_renew.new.news in
    let wish = wish_asked b m a.confirm (a.session, ((a.iface, a.next), part_unit st c.args.part))
    ∙ ap (λ u. or_kept a.confirm (confirm_kept (get (changed (resv_at b) m) (a.session, ((a.iface, a.next), u))))) c.requires.unit in
    let result : (h : Facts) → resvs_of st h ≡ changed (resv_at b) m → IsBookOf h es → c.place_or_renew.result ≡ placed_in p st b it a.left h =
    λ h is booked. c.place_or_renew.ensures.result p b h same is booked in
    let table : c.place_or_renew.new.table.facts ≡ chosen c.place_or_renew.result (put_in m (resv_key st it) (it, a.left)) m = ap (λ (z : ResvMap). z.facts) c.place_or_renew.ensures.table in
    let all = step_so p b st a f t c.args.unit c.args.part it.confirm m es done so_far c.place_or_renew.ensures.style c.requires.style c.requires.unit wish
    (rw (sym c.len.ensures.size) c.len.ensures.few)
    (is_some (get es key)) refl c.place_or_renew.new.table.facts c.place_or_renew.new.book.entries c.place_or_renew.result result table c.place_or_renew.ensures.book
    (λ x. ap (λ (z : Bookings). z.entries) (c.place_or_renew.ensures.unchanged x)) in
    let by = done_by (is_some (get es key)) c.args.unit c.args.part done in
    subst (λ (d : Taken). IsSoFar p b st a f c.place_or_renew.new.table.facts c.place_or_renew.new.book.entries d (put_unit p (asker_at b st a) f c.args.unit (Some c.args.part) t))
    (ap by c.in-Taken.is ∙ (λ i. record done { parts = sym c.in-Ok.ensures.ok i })) all

pub returns-in-Ok-clause-kept : goal.returns-in-Ok-clause-kept
returns-in-Ok-clause-kept g c =
    among_after g.S.Style.kind_is c.args.table.now.facts c.place_or_renew.new.table.facts c.args.book.now.entries c.place_or_renew.new.book.entries c.requires.kept c.place_or_renew.ensures.book

pub returns-in-Ok-clause-few_parts : goal.returns-in-Ok-clause-few_parts
returns-in-Ok-clause-few_parts g c = subst (λ (ps : PartTable). size ps ≤ size c.args.done.now.parts + 1) (sym c.in-Ok.ensures.ok) (grows c.args.done.now.parts c.args.unit c.args.part)

pub unreachable-requires : goal.unreachable-requires
unreachable-requires g c =
    let many = c.in_default.ensures.full.0 refl in
    let few = grows c.args.done.now.parts c.args.unit c.args.part in
    absurd (omega (arith, many, few, c.requires.few_parts))
