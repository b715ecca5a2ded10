use Rattle.std.proofs.Common.{◌≡◌, sym, ap, subst, ◌∙◌}
use Rattle.rsvp_base.specs.Table.{get}
use Rattle.rsvp_base.specs.declared.entry_key.EntryKey.{EntryKey}
use Rattle.resv_state.specs.Resvs.{ResvMap}
use Rattle.resv_admission.specs.Renewed.{AreRenewed, IsNoMore, entry_in, is_key, name_key}
use Rattle.resv_admission.proofs.Moves.{forget_moves, forget_no_more}
use Rattle.resv_admission.proofs.leaving.forget_name.Goals as goal

pub renew_everywhere-requires-clause-less : goal.renew_everywhere-requires-clause-less
renew_everywhere-requires-clause-less g c i =
    let st = g.S.Style.kind_is in
    let new = c.forget_sender.new.self.facts in
    let unit = c.unit_of.ensures ∙ g.met.S.Style.unit_by_kind c.args.name in
    let same : ◌≡◌ {A = EntryKey} (record { session = c.args.session; style = c.kind.result; unit = c.unit_of.result }) (name_key st c.args.session c.args.name) =
    λ j. record { session = c.args.session; style = c.kind.ensures j; unit = unit j } in
    subst (λ (k : EntryKey). IsNoMore (entry_in st new i k) (get c.args.book.now.entries (i, k))) (sym same)
    (forget_no_more st c.args.table.now.facts c.look.ensures.style c.args.session c.args.name new
    (ap (λ (t : ResvMap). t.facts) c.forget_sender.ensures) c.look-2.ensures.style c.args.book.now.entries c.requires.kept i)

pub returns-clause-book : goal.returns-clause-book
returns-clause-book g c =
    let st = g.S.Style.kind_is in
    let new = c.forget_sender.new.self.facts in
    let unit = c.unit_of.ensures ∙ g.met.S.Style.unit_by_kind c.args.name in
    let same : ◌≡◌ {A = EntryKey} (record { session = c.args.session; style = c.kind.result; unit = c.unit_of.result }) (name_key st c.args.session c.args.name) =
    λ i. record { session = c.args.session; style = c.kind.ensures i; unit = unit i } in
    forget_moves st c.args.table.now.facts c.look.ensures.style c.args.session c.args.name new
    (ap (λ (t : ResvMap). t.facts) c.forget_sender.ensures) c.look-2.ensures.style c.args.book.now.entries c.renew_everywhere.new.book.entries
    (subst (λ (k : EntryKey). AreRenewed (is_key k) (entry_in st new) c.args.book.now.entries c.renew_everywhere.new.book.entries) same c.renew_everywhere.ensures.entries)
