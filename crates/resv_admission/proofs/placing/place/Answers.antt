use Rattle.std.proofs.Common.{◌≡◌, true, false, Some, None, refl, sym, ap, subst, ◌∙◌}
use Rattle.std.proofs.lemmas.Bool.{false≢true}
use Rattle.admission_book.specs.Book.{Bookings, changed_at}
use Rattle.admission_book.specs.Charges.{refusal}
use Rattle.resv_state.specs.Resvs.{ResvFacts, ResvMap, resv_key}
use Rattle.rsvp_base.specs.Styles.{part_unit}
use Rattle.rsvp_base.specs.Table.{has, put_in}
use Rattle.rsvp_base.specs.declared.entry_key.EntryKey.{EntryKey}
use Rattle.rsvp_base.specs.declared.style.StyleKind.{StyleKind}
use Rattle.router_rules.specs.Books.{book}
use Rattle.resv_admission.specs.Kept.{IsBookOf, facts_with}
use Rattle.resv_admission.specs.Placing.{entry_key_of}
use Rattle.resv_admission.proofs.Moves.{moves_not}
use Rattle.resv_admission.proofs.Stands.{place_moves, place_refused, place_room, placed_is}
use Rattle.resv_admission.proofs.placing.place.Goals as goal

pub returns-then-not-fits-clause-result : goal.returns-then-not-fits-clause-result
returns-then-not-fits-clause-result g c p b f same is booked =
    placed_is g.S.Style.kind_is c.args.table.now.facts c.look.ensures.style c.args.fact c.requires.style c.args.left p b f is false _ (sym c.if-not-fits.true ∙ c.fits.ensures c.args.left) refl

pub try_change-requires-clause-room : goal.try_change-requires-clause-room
try_change-requires-clause-room g c _ none =
    let st = g.S.Style.kind_is in
    let d = c.args.fact in
    let unit = c.unit.ensures ∙ ap (λ (z : StyleKind). part_unit z d.part) c.kind-style.ensures in
    let own : ◌≡◌ {A = EntryKey} (record { session = d.session; style = c.kind-style.result; unit = c.unit.result }) (entry_key_of st d) =
    λ i. record { session = d.session; style = c.kind-style.ensures i; unit = unit i } in
    place_room st c.args.table.now.facts c.look.ensures.style d c.requires.style c.args.left c.entry_with-entry.result (c.entry_with-entry.ensures c.args.left) c.args.book.now.entries c.requires.kept
    (sym (c.fits.ensures c.args.left) ∙ c.if-not-fits.false)
    (ap (λ (k : EntryKey). has c.args.book.now.entries (d.iface, k)) (sym own) ∙ none)

pub returns-in-Err-clause-result : goal.returns-in-Err-clause-result
returns-in-Err-clause-result g c p b f same is booked =
    let st = g.S.Style.kind_is in
    let d = c.args.fact in
    let m = c.args.table.now.facts in
    let unit = c.unit.ensures ∙ ap (λ (z : StyleKind). part_unit z d.part) c.kind-style.ensures in
    let own : ◌≡◌ {A = EntryKey} (record { session = d.session; style = c.kind-style.result; unit = c.unit.result }) (entry_key_of st d) =
    λ i. record { session = d.session; style = c.kind-style.ensures i; unit = unit i } in
    let cause : refusal c.args.book.now d.iface (entry_key_of st d) (Some c.entry_with-entry.result) ≡ Some c.in-Err.why =
    ap (λ (k : EntryKey). refusal c.args.book.now d.iface k (Some c.entry_with-entry.result)) (sym own) ∙ c.in-Err.ensures.cause in
    placed_is st m c.look.ensures.style d c.requires.style c.args.left p b f is true (Some c.in-Err.why) (sym c.if-not-fits.false ∙ c.fits.ensures c.args.left)
    (sym cause ∙ place_refused st m c.look.ensures.style d c.requires.style c.args.left c.entry_with-entry.result (c.entry_with-entry.ensures c.args.left) c.args.book.now p b f same is booked)

pub returns-in-Err-clause-book : goal.returns-in-Err-clause-book
returns-in-Err-clause-book g c b f is booked =
    subst (λ (z : Bookings). IsBookOf (facts_with g.S.Style.kind_is b c.args.table.now.facts f) z.entries) (sym c.in-Err.ensures.err)
    (moves_not g.S.Style.kind_is c.args.table.now.facts c.args.book.now.entries b f is booked)

pub unreachable-requires : goal.unreachable-requires
unreachable-requires g c = absurd (false≢true (sym (c.in_default-put.ensures.full.0 refl) ∙ sym (c.fits.ensures c.args.left) ∙ c.if-not-fits.false))

pub returns-clause-result : goal.returns-clause-result
returns-clause-result g c p b f same is booked =
    let st = g.S.Style.kind_is in
    let d = c.args.fact in
    let m = c.args.table.now.facts in
    let unit = c.unit.ensures ∙ ap (λ (z : StyleKind). part_unit z d.part) c.kind-style.ensures in
    let own : ◌≡◌ {A = EntryKey} (record { session = d.session; style = c.kind-style.result; unit = c.unit.result }) (entry_key_of st d) =
    λ i. record { session = d.session; style = c.kind-style.ensures i; unit = unit i } in
    let cause : refusal c.args.book.now d.iface (entry_key_of st d) (Some c.entry_with-entry.result) ≡ None =
    ap (λ (k : EntryKey). refusal c.args.book.now d.iface k (Some c.entry_with-entry.result)) (sym own) ∙ c.in_default.ensures.cause in
    placed_is st m c.look.ensures.style d c.requires.style c.args.left p b f is true (None) (sym c.if-not-fits.false ∙ c.fits.ensures c.args.left)
    (sym cause ∙ place_refused st m c.look.ensures.style d c.requires.style c.args.left c.entry_with-entry.result (c.entry_with-entry.ensures c.args.left) c.args.book.now p b f same is booked)

pub returns-clause-book : goal.returns-clause-book
returns-clause-book g c b f is booked =
    let st = g.S.Style.kind_is in
    let d = c.args.fact in
    let m = c.args.table.now.facts in
    let unit = c.unit.ensures ∙ ap (λ (z : StyleKind). part_unit z d.part) c.kind-style.ensures in
    let own : ◌≡◌ {A = EntryKey} (record { session = d.session; style = c.kind-style.result; unit = c.unit.result }) (entry_key_of st d) =
    λ i. record { session = d.session; style = c.kind-style.ensures i; unit = unit i } in
    let entries : c.try_change.new.self.entries ≡ changed_at c.args.book.now.entries d.iface (entry_key_of st d) (Some c.entry_with-entry.result) =
    ap (λ (z : Bookings). z.entries) c.in_default.ensures.ok ∙ ap (λ (k : EntryKey). changed_at c.args.book.now.entries d.iface k (Some c.entry_with-entry.result)) own in
    let facts : c.put.new.self.facts ≡ put_in m (resv_key st d) (d, c.args.left) = ap (λ (t : ResvMap). t.facts) c.in-Ok.ensures.ok in
    let moved = place_moves st m c.look.ensures.style d c.requires.style c.args.left c.entry_with-entry.result (c.entry_with-entry.ensures c.args.left) c.args.book.now.entries b f is booked in
    subst (λ z. IsBookOf (facts_with st b c.put.new.self.facts f) z) (sym entries) (subst
    (λ (z : ResvFacts). IsBookOf (facts_with st b z f) (changed_at c.args.book.now.entries d.iface (entry_key_of st d) (Some c.entry_with-entry.result))) (sym facts) moved)
