use Rattle.std.proofs.Common.{◌≡◌, refl, sym}
use Rattle.rsvp_base.specs.Table.{empty, get}
use Rattle.rsvp_base.specs.declared.style.StyleKind.{StyleKind}
use Rattle.rsvp_base.specs.declared.style.StyleKind.TheVariants.{Wild, Fixed, Shared}
use Rattle.router_rules.specs.Facts.{Facts}
use Rattle.router_state.specs.State.{facts_of, table_in}
use Rattle.router_state.specs.Whole.{state_of}
use Rattle.router_state.specs.declared.tables.Tables.{Tables}
use Rattle.router_arrivals.proofs.Standing.{among_in, book_at, each_style, stood_away, stood_facts, stood_refused}
use Rattle.router_arrivals.proofs.stale_facts.leave_resv.Goals as goal

pub stand-requires-clause-kept : goal.stand-requires-clause-kept
stand-requires-clause-kept c = among_in Wild c.args.tables.now c.requires.booked c.look.ensures

pub stand-requires-in-Fixed-clause-kept : goal.stand-requires-in-Fixed-clause-kept
stand-requires-in-Fixed-clause-kept c = among_in Fixed c.args.tables.now c.requires.booked c.look.ensures

pub stand-requires-in-Shared-clause-kept : goal.stand-requires-in-Shared-clause-kept
stand-requires-in-Shared-clause-kept c = among_in Shared c.args.tables.now c.requires.booked c.look.ensures

pub returns-in-Wild-clause-refused : goal.returns-in-Wild-clause-refused
returns-in-Wild-clause-refused c = λ clock said.
    let t = c.args.tables.now in
    let f : Facts = facts_of clock (state_of t said) in
    stood_refused c.args.style Wild c.in-Wild.is c.args.fact c.args.left t.wild c.stand.new.table c.stand.result t.config clock f
    (c.stand.ensures.cause t.config clock f (sym c.requires.place) refl (record { at = c.requires.booked clock }))

pub returns-in-Wild-clause-facts : goal.returns-in-Wild-clause-facts
returns-in-Wild-clause-facts c = λ clock said.
    let t = c.args.tables.now in
    let f : Facts = facts_of clock (state_of t said) in
    stood_facts c.args.style Wild c.in-Wild.is c.args.fact c.args.left t.wild c.stand.new.table c.stand.result t.config clock f refl
    (c.stand.ensures.cause t.config clock f (sym c.requires.place) refl (record { at = c.requires.booked clock })) c.stand.ensures.ok c.stand.ensures.err_table

pub returns-in-Wild-clause-others : goal.returns-in-Wild-clause-others
returns-in-Wild-clause-others c = λ st q off.
    let t = c.args.tables.now in
    let new : Tables = record t { wild = c.stand.new.table; book = c.stand.new.book } in
    let a = stood_away c.args.style Wild c.in-Wild.is c.args.fact c.args.left t.wild c.stand.new.table c.stand.result c.stand.ensures.ok c.stand.ensures.err_table q off in
    each_style (λ (z : StyleKind). get (table_in z (state_of t empty)) q ≡ get (table_in z (state_of new empty)) q) a refl refl st

pub returns-in-Wild-clause-booked : goal.returns-in-Wild-clause-booked
returns-in-Wild-clause-booked c = λ clock i k. (c.stand.ensures.book clock (facts_of clock (state_of c.args.tables.now empty)) refl (book_at c.args.tables.now c.requires.booked clock)).at i k

pub returns-in-Fixed-clause-refused : goal.returns-in-Fixed-clause-refused
returns-in-Fixed-clause-refused c = λ clock said.
    let t = c.args.tables.now in
    let f : Facts = facts_of clock (state_of t said) in
    stood_refused c.args.style Fixed c.in-Fixed.is c.args.fact c.args.left t.fixed c.stand-in-Fixed.new.table c.stand-in-Fixed.result t.config clock f
    (c.stand-in-Fixed.ensures.cause t.config clock f (sym c.requires.place) refl (record { at = c.requires.booked clock }))

pub returns-in-Fixed-clause-facts : goal.returns-in-Fixed-clause-facts
returns-in-Fixed-clause-facts c = λ clock said.
    let t = c.args.tables.now in
    let f : Facts = facts_of clock (state_of t said) in
    stood_facts c.args.style Fixed c.in-Fixed.is c.args.fact c.args.left t.fixed c.stand-in-Fixed.new.table c.stand-in-Fixed.result t.config clock f refl
    (c.stand-in-Fixed.ensures.cause t.config clock f (sym c.requires.place) refl (record { at = c.requires.booked clock })) c.stand-in-Fixed.ensures.ok c.stand-in-Fixed.ensures.err_table

pub returns-in-Fixed-clause-others : goal.returns-in-Fixed-clause-others
returns-in-Fixed-clause-others c = λ st q off.
    let t = c.args.tables.now in
    let new : Tables = record t { fixed = c.stand-in-Fixed.new.table; book = c.stand-in-Fixed.new.book } in
    let a = stood_away c.args.style Fixed c.in-Fixed.is c.args.fact c.args.left t.fixed c.stand-in-Fixed.new.table c.stand-in-Fixed.result c.stand-in-Fixed.ensures.ok
    c.stand-in-Fixed.ensures.err_table q off in
    each_style (λ (z : StyleKind). get (table_in z (state_of t empty)) q ≡ get (table_in z (state_of new empty)) q) refl a refl st

pub returns-in-Fixed-clause-booked : goal.returns-in-Fixed-clause-booked
returns-in-Fixed-clause-booked c = λ clock i k. (c.stand-in-Fixed.ensures.book clock (facts_of clock (state_of c.args.tables.now empty)) refl
    (book_at c.args.tables.now c.requires.booked clock)).at i k

pub returns-in-Shared-clause-refused : goal.returns-in-Shared-clause-refused
returns-in-Shared-clause-refused c = λ clock said.
    let t = c.args.tables.now in
    let f : Facts = facts_of clock (state_of t said) in
    stood_refused c.args.style Shared c.in-Shared.is c.args.fact c.args.left t.shared c.stand-in-Shared.new.table c.stand-in-Shared.result t.config clock f
    (c.stand-in-Shared.ensures.cause t.config clock f (sym c.requires.place) refl (record { at = c.requires.booked clock }))

pub returns-in-Shared-clause-facts : goal.returns-in-Shared-clause-facts
returns-in-Shared-clause-facts c = λ clock said.
    let t = c.args.tables.now in
    let f : Facts = facts_of clock (state_of t said) in
    stood_facts c.args.style Shared c.in-Shared.is c.args.fact c.args.left t.shared c.stand-in-Shared.new.table c.stand-in-Shared.result t.config clock f refl
    (c.stand-in-Shared.ensures.cause t.config clock f (sym c.requires.place) refl (record { at = c.requires.booked clock })) c.stand-in-Shared.ensures.ok c.stand-in-Shared.ensures.err_table

pub returns-in-Shared-clause-others : goal.returns-in-Shared-clause-others
returns-in-Shared-clause-others c = λ st q off.
    let t = c.args.tables.now in
    let new : Tables = record t { shared = c.stand-in-Shared.new.table; book = c.stand-in-Shared.new.book } in
    let a = stood_away c.args.style Shared c.in-Shared.is c.args.fact c.args.left t.shared c.stand-in-Shared.new.table c.stand-in-Shared.result c.stand-in-Shared.ensures.ok
    c.stand-in-Shared.ensures.err_table q off in
    each_style (λ (z : StyleKind). get (table_in z (state_of t empty)) q ≡ get (table_in z (state_of new empty)) q) refl refl a st

pub returns-in-Shared-clause-booked : goal.returns-in-Shared-clause-booked
returns-in-Shared-clause-booked c = λ clock i k. (c.stand-in-Shared.ensures.book clock (facts_of clock (state_of c.args.tables.now empty)) refl
    (book_at c.args.tables.now c.requires.booked clock)).at i k
