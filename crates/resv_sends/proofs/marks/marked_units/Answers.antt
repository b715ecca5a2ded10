use Rattle.std.proofs.Common.{refl, sym, ap, ◌∙◌}
use Rattle.rsvp_base.specs.Table.{keys}
use Rattle.router_state.specs.Whole.{state_of}
use Rattle.resv_sends.specs.Units.{UnitSet}
use Rattle.resv_sends.proofs.Marked.{marked_is, unmarked_is}
use Rattle.resv_sends.proofs.Named.{own_is}
use Rattle.resv_sends.proofs.marks.marked_units.Goals as goal

pub returns-then-not-has_mark : goal.returns-then-not-has_mark
returns-then-not-has_mark c = λ clock said. ap (λ (us : UnitSet). keys us) c.new.ensures ∙ unmarked_is clock c.args.tables.now said c.args.session c.args.hop c.args.style
    (sym c.has_mark.ensures ∙ c.if-not-has_mark.true)

pub returns : goal.returns
returns c = λ clock said.
    let n = state_of c.args.tables.now said in
    c.marked_among.ensures
    ∙ marked_is clock c.args.tables.now said c.args.session c.args.hop c.args.style c.upstream-up.result c.own-own.result (c.upstream-up.ensures clock n refl refl refl)
    (own_is clock n c.args.session c.args.style c.args.hop c.names_via-names.result c.own-own.result (c.names_via-names.ensures clock said) c.own-own.ensures)
