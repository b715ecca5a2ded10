use Rattle.std.proofs.Common.{refl}
use Rattle.rsvp_base.specs.Table.{empty}
use Rattle.rsvp_base.specs.declared.style.StyleKind.TheVariants.{Wild, Fixed, Shared}
use Rattle.router_state.specs.State.{facts_of}
use Rattle.router_state.specs.Whole.{state_of}
use Rattle.router_arrivals.proofs.Booked.{book_at, kept_in}
use Rattle.router_arrivals.proofs.tearing.tear_by_style.Goals as goal

pub tear_names-requires : goal.tear_names-requires
tear_names-requires c = record { kept = kept_in Wild c.args.tables.now c.requires }

pub tear_all-requires : goal.tear_all-requires
tear_all-requires c = record { kept = kept_in Wild c.args.tables.now c.requires }

pub tear_names-requires-in-Fixed : goal.tear_names-requires-in-Fixed
tear_names-requires-in-Fixed c = record { kept = kept_in Fixed c.args.tables.now c.requires }

pub tear_names-requires-in-Shared : goal.tear_names-requires-in-Shared
tear_names-requires-in-Shared c = record { kept = kept_in Shared c.args.tables.now c.requires }

pub returns-in-Wild-Some-clause-booked : goal.returns-in-Wild-Some-clause-booked
returns-in-Wild-Some-clause-booked c = λ clock i k. (c.tear_names.ensures.book clock (facts_of clock (state_of c.args.tables.now empty)) refl (book_at c.args.tables.now c.requires clock)).at i k

pub returns-in-Wild-None-clause-booked : goal.returns-in-Wild-None-clause-booked
returns-in-Wild-None-clause-booked c = λ clock i k. (c.tear_all.ensures.book clock (facts_of clock (state_of c.args.tables.now empty)) refl (book_at c.args.tables.now c.requires clock)).at i k

pub returns-in-Fixed-clause-booked : goal.returns-in-Fixed-clause-booked
returns-in-Fixed-clause-booked c = λ clock i k. (c.tear_names-in-Fixed.ensures.book clock (facts_of clock (state_of c.args.tables.now empty)) refl (book_at c.args.tables.now c.requires clock)).at i k

pub returns-in-Shared-clause-booked : goal.returns-in-Shared-clause-booked
returns-in-Shared-clause-booked c = λ clock i k. (c.tear_names-in-Shared.ensures.book clock (facts_of clock (state_of c.args.tables.now empty)) refl
    (book_at c.args.tables.now c.requires clock)).at i k
