use Rattle.std.proofs.Common.{refl, sym, ap}
use Rattle.rsvp_base.specs.Table.{empty}
use Rattle.rsvp_base.specs.declared.style.StyleKind.TheVariants.{Wild, Fixed, Shared}
use Rattle.rsvp_messages.specs.Units.{ask_style}
use Rattle.router_rules.specs.Facts.{Facts}
use Rattle.router_state.specs.State.{facts_of}
use Rattle.router_state.specs.Whole.{state_of}
use Rattle.router_arrivals.proofs.Booked.{among_in, book_at}
use Rattle.router_arrivals.proofs.Wholes.{book_is}
use Rattle.router_arrivals.proofs.taking.take_by_style.Goals as goal

pub take_units-requires-clause-kept : goal.take_units-requires-clause-kept
take_units-requires-clause-kept c = among_in Wild c.args.tables.now c.requires.booked c.look.ensures

pub take_units-requires-in-Fixed-clause-kept : goal.take_units-requires-in-Fixed-clause-kept
take_units-requires-in-Fixed-clause-kept c = among_in Fixed c.args.tables.now c.requires.booked c.look.ensures

pub take_units-requires-in-Shared-clause-kept : goal.take_units-requires-in-Shared-clause-kept
take_units-requires-in-Shared-clause-kept c = among_in Shared c.args.tables.now c.requires.booked c.look.ensures

pub returns-in-Wild-clause-booked : goal.returns-in-Wild-clause-booked
returns-in-Wild-clause-booked c = λ clock i k.
    let t = c.args.tables.now in
    let f : Facts = facts_of clock (state_of t empty) in
    (book_is t.config clock c.args.asker.now f c.args.all.now c.args.ask.now c.take_units.new.table.facts c.take_units.new.book.entries c.take_units.new.done Wild (ap ask_style c.in-Wild.is)
    (c.take_units.ensures.taken t.config clock f (sym c.requires.place) refl (book_at t c.requires.booked clock))).at i k

pub returns-in-Fixed-clause-booked : goal.returns-in-Fixed-clause-booked
returns-in-Fixed-clause-booked c = λ clock i k.
    let t = c.args.tables.now in
    let f : Facts = facts_of clock (state_of t empty) in
    (book_is t.config clock c.args.asker.now f c.args.all.now c.args.ask.now c.take_units-in-Fixed.new.table.facts c.take_units-in-Fixed.new.book.entries c.take_units-in-Fixed.new.done Fixed
    (ap ask_style c.in-Fixed.is)
    (c.take_units-in-Fixed.ensures.taken t.config clock f (sym c.requires.place) refl (book_at t c.requires.booked clock))).at i k

pub returns-in-Shared-clause-booked : goal.returns-in-Shared-clause-booked
returns-in-Shared-clause-booked c = λ clock i k.
    let t = c.args.tables.now in
    let f : Facts = facts_of clock (state_of t empty) in
    (book_is t.config clock c.args.asker.now f c.args.all.now c.args.ask.now c.take_units-in-Shared.new.table.facts c.take_units-in-Shared.new.book.entries c.take_units-in-Shared.new.done Shared
    (ap ask_style c.in-Shared.is)
    (c.take_units-in-Shared.ensures.taken t.config clock f (sym c.requires.place) refl (book_at t c.requires.booked clock))).at i k
