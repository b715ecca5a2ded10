use Rattle.std.proofs.Common.{Some, refl, sym, ap, ◌∙◌}
use Rattle.rsvp_base.specs.Table.{get}
use Rattle.router_state.specs.Whole.{state_of}
use Rattle.style_rules.specs.Merge.{PartTable}
use Rattle.traffic_control.specs.Policing.{police_seen}
use Rattle.traffic_control.proofs.Few.{entries_few}
use Rattle.traffic_control.proofs.Entering.{no_entry, no_part, one_entry}
use Rattle.traffic_control.proofs.entries.entry_at.Goals as goal

pub returns-in_default-clause-entry : goal.returns-in_default-clause-entry
returns-in_default-clause-entry c = λ clock said of.
    no_entry clock (state_of c.args.tables.now said) c.args.iface c.args.tables.now.book.entries of c.args.k c.in_default.ensures.entry

pub returns-in_default-get-clause-entry : goal.returns-in_default-get-clause-entry
returns-in_default-get-clause-entry c = λ clock said of.
    let key = c.in-Some.key in
    no_part clock (state_of c.args.tables.now said) c.args.iface c.args.tables.now.book.entries of c.args.k key _ c.in-Some.ensures.entry (c.parts_of-parts.ensures.styled said)
    (c.in_default-get.ensures ∙ ap (λ (t : PartTable). get t key.unit) (c.parts_of-parts.ensures.parts said))

pub returns-clause-entry : goal.returns-clause-entry
returns-clause-entry c = λ clock said of.
    let key = c.in-Some.key in
    let n = state_of c.args.tables.now said in
    one_entry clock n c.args.iface c.args.tables.now.book.entries of c.args.k key _ c.in-Some.ensures.entry (c.parts_of-parts.ensures.styled said) c.copy.result c.police_at-police.result
    (ap Some c.copy.ensures ∙ c.in-Some-get.ensures ∙ ap (λ (t : PartTable). get t key.unit) (c.parts_of-parts.ensures.parts said))
    (c.police_at-police.ensures clock said ∙ ap (police_seen clock n c.args.iface key) (sym c.copy.ensures))

pub returns-in_default-clause-few : goal.returns-in_default-clause-few
returns-in_default-clause-few c = λ clock said.
    let n = state_of c.args.tables.now said in
    entries_few clock n c.args.iface n.place n.wild n.fixed n.shared refl refl refl c.limits-wild.ensures.within c.limits-fixed.ensures.within c.limits-shared.ensures.within

pub returns-in_default-get-clause-few : goal.returns-in_default-get-clause-few
returns-in_default-get-clause-few c = λ clock said.
    let n = state_of c.args.tables.now said in
    entries_few clock n c.args.iface n.place n.wild n.fixed n.shared refl refl refl c.limits-wild.ensures.within c.limits-fixed.ensures.within c.limits-shared.ensures.within

pub returns-clause-few : goal.returns-clause-few
returns-clause-few c = λ clock said.
    let n = state_of c.args.tables.now said in
    entries_few clock n c.args.iface n.place n.wild n.fixed n.shared refl refl refl c.limits-wild.ensures.within c.limits-fixed.ensures.within c.limits-shared.ensures.within
