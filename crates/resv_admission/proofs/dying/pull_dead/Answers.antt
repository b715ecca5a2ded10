use Rattle.std.proofs.Common.{◌≡◌, refl, sym, ap, subst, ◌∙◌}
use Rattle.rsvp_base.specs.Orders.{sessions}
use Rattle.rsvp_base.specs.Styles.{part_unit}
use Rattle.rsvp_base.specs.Table.{get}
use Rattle.rsvp_base.specs.Under.{under}
use Rattle.rsvp_base.specs.declared.entry_key.EntryKey.{EntryKey}
use Rattle.rsvp_base.specs.declared.style.StyleKind.{StyleKind}
use Rattle.resv_state.specs.Merging.{parts_on}
use Rattle.resv_state.specs.Resvs.{ResvMap}
use Rattle.resv_state.specs.Walks.{rests}
use Rattle.style_rules.specs.Merge.{merge}
use Rattle.resv_admission.specs.Dying.{IsBookBut}
use Rattle.resv_admission.specs.Kept.{flow_in}
use Rattle.resv_admission.specs.Placing.{entry_key_of}
use Rattle.resv_admission.specs.Renewed.{AreRenewed, IsNoMore, entry_in, is_place}
use Rattle.resv_admission.proofs.Deaths.{none_waits, pulls, pulls_less}
use Rattle.resv_admission.proofs.dying.pull_dead.Goals as goal

pub returns-in_default-clause-whole : goal.returns-in_default-clause-whole
returns-in_default-clause-whole g c _ f but = none_waits g.S.Style.kind_is c.args.table.now.dead (c.in_default.ensures.none refl) f c.args.book.now.entries but

pub renew-requires : goal.renew-requires
renew-requires g c =
    let st = g.S.Style.kind_is in
    let d = c.in-Some.gone in
    let m = c.args.table.now.facts in
    let unit = c.unit.ensures ∙ ap (λ (z : StyleKind). part_unit z d.part) c.kind-style.ensures in
    let same : ◌≡◌ {A = EntryKey} (record { session = d.session; style = c.kind-style.result; unit = c.unit.result }) (entry_key_of st d) =
    λ i. record { session = d.session; style = c.kind-style.ensures i; unit = unit i } in
    let now : c.flow_at-now.result ≡ entry_in st m d.iface (entry_key_of st d) =
    c.flow_at-now.ensures ∙ ap (λ u. flow_in (get (merge st (parts_on d.iface (under sessions rests c.pull_dead.new.self.facts d.session).rows)) u)) unit
    ∙ ap (λ (t : ResvMap). flow_in (get (merge st (parts_on d.iface (under sessions rests t.facts d.session).rows)) (part_unit st d.part))) c.in-Some.ensures.pulled in
    subst (λ (k : EntryKey). IsNoMore c.flow_at-now.result (get c.args.book.now.entries (d.iface, k))) (sym same)
    (subst (λ w. IsNoMore w (get c.args.book.now.entries (d.iface, entry_key_of st d))) (sym now)
    (pulls_less st c.args.table.now.facts c.look.ensures.style c.args.table.now.dead d c.args.book.now.entries c.requires.kept))

pub returns-clause-book : goal.returns-clause-book
returns-clause-book g c b f is but =
    let st = g.S.Style.kind_is in
    let d = c.in-Some.gone in
    let m = c.args.table.now.facts in
    let unit = c.unit.ensures ∙ ap (λ (z : StyleKind). part_unit z d.part) c.kind-style.ensures in
    let same : ◌≡◌ {A = EntryKey} (record { session = d.session; style = c.kind-style.result; unit = c.unit.result }) (entry_key_of st d) =
    λ i. record { session = d.session; style = c.kind-style.ensures i; unit = unit i } in
    let now : c.flow_at-now.result ≡ entry_in st m d.iface (entry_key_of st d) =
    c.flow_at-now.ensures ∙ ap (λ u. flow_in (get (merge st (parts_on d.iface (under sessions rests c.pull_dead.new.self.facts d.session).rows)) u)) unit
    ∙ ap (λ (t : ResvMap). flow_in (get (merge st (parts_on d.iface (under sessions rests t.facts d.session).rows)) (part_unit st d.part))) c.in-Some.ensures.pulled in
    let renewed : AreRenewed (is_place d.iface (entry_key_of st d)) (λ i k. entry_in st m d.iface (entry_key_of st d)) c.args.book.now.entries c.renew.new.book.entries =
    subst (λ w. AreRenewed (is_place d.iface (entry_key_of st d)) (λ i k. w) c.args.book.now.entries c.renew.new.book.entries) now
    (subst (λ (k : EntryKey). AreRenewed (is_place d.iface k) (λ i q. c.flow_at-now.result) c.args.book.now.entries c.renew.new.book.entries) same c.renew.ensures.entries) in
    subst (λ (t : ResvMap). IsBookBut st t.dead f c.renew.new.book.entries) (sym c.in-Some.ensures.pulled)
    (pulls st m c.look.ensures.style c.args.table.now.dead d b f c.args.book.now.entries c.renew.new.book.entries is renewed but)
