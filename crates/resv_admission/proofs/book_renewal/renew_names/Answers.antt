use Rattle.std.proofs.Common.{◌≡◌, ℕ, true, sym, ap, subst, ◌∙◌, take, get_or}
use Rattle.std.proofs.lemmas.List.{take_more}
use Rattle.std.proofs.lemmas.Option.{slice_get-get_or}
use Rattle.rsvp_base.specs.Members.{In}
use Rattle.rsvp_base.specs.Table.{get, keys}
use Rattle.rsvp_base.specs.declared.entry_key.EntryKey.{EntryKey}
use Rattle.rsvp_base.specs.declared.session.Sender.{Sender}
use Rattle.rsvp_base.proofs.Fronts.{got_in}
use Rattle.resv_admission.specs.Kept.{flow_in}
use Rattle.resv_admission.specs.Renewed.{AreRenewed, IsNoMore, is_named, name_key}
use Rattle.resv_admission.proofs.Renewals.{name_among, name_more, on_the_way}
use Rattle.resv_admission.proofs.book_renewal.renew_names.Goals as goal

abbrev blank : Sender
blank = record { addr = record { 0 = 0 }; port = 0 }

pub renew-requires : goal.renew-requires
renew-requires g c =
    let st = g.S.Style.kind_is in
    let s = c.args.session in
    let xs = c.as_slice-name-items.result.now in
    let x = get_or xs c.loop-name.name-index blank in
    let now = λ (i : ℕ) (k : EntryKey). flow_in (get c.args.parts.now k.unit) in
    let unit = c.unit_of-unit.ensures ∙ g.met.S.Style.unit_by_kind x in
    let own : ◌≡◌ {A = EntryKey} (record { session = s; style = c.kind-style.result; unit = c.unit_of-unit.result }) (name_key st s x) =
    λ i. record { session = s; style = c.kind-style.ensures i; unit = unit i } in
    let key : EntryKey = record { session = s; style = c.kind-style.result; unit = c.unit_of-unit.result } in
    let among : In x (keys c.args.names.now) = subst (λ zs. In x zs) c.as_slice-name-items.ensures.senders
    (got_in xs c.loop-name.name-index x (slice_get-get_or xs c.loop-name.name-index blank c.loop-name-test.true)) in
    let named : is_named st s c.args.iface (keys c.args.names.now) c.args.iface key ≡ true = ap (λ (k : EntryKey). is_named st s c.args.iface (keys c.args.names.now) c.args.iface k) own
    ∙ name_among st s c.args.iface (keys c.args.names.now) x among in
    subst (λ w. IsNoMore w (get c.loop-name.book.entries (c.args.iface, key))) (sym c.flow_of.ensures)
    (on_the_way st s c.args.iface now (take c.loop-name.name-index xs) c.args.book.now.entries c.loop-name.book.entries key c.loop-name.invariant.done (c.requires.less key named))

pub loop-name-preserved : goal.loop-name-preserved
loop-name-preserved g c =
    let st = g.S.Style.kind_is in
    let s = c.args.session in
    let xs = c.as_slice-name-items.result.now in
    let x = get_or xs c.loop-name.name-index blank in
    let now = λ (i : ℕ) (k : EntryKey). flow_in (get c.args.parts.now k.unit) in
    let unit = c.unit_of-unit.ensures ∙ g.met.S.Style.unit_by_kind x in
    let own : ◌≡◌ {A = EntryKey} (record { session = s; style = c.kind-style.result; unit = c.unit_of-unit.result }) (name_key st s x) =
    λ i. record { session = s; style = c.kind-style.ensures i; unit = unit i } in
    record {
      done = subst (λ zs. AreRenewed (is_named st s c.args.iface zs) now c.args.book.now.entries c.renew.new.book.entries) (sym (take_more xs c.loop-name.name-index blank c.loop-name-test.true))
          (name_more st s c.args.iface now (take c.loop-name.name-index xs) x c.args.book.now.entries c.loop-name.book.entries c.renew.new.book.entries
          (record { session = s; style = c.kind-style.result; unit = c.unit_of-unit.result }) c.flow_of.result own c.flow_of.ensures c.loop-name.invariant.done c.renew.ensures.entries);
      ifaces = c.renew.ensures.ifaces ∙ c.loop-name.invariant.ifaces;
    }
