use Rattle.std.proofs.Common.{◌≡◌, sym, ap, ◌∙◌, map as each}
use Rattle.rsvp_base.specs.Orders.{sessions, senders}
use Rattle.rsvp_base.specs.Sets.{with_keys}
use Rattle.rsvp_base.specs.Table.{keys}
use Rattle.rsvp_base.specs.Under.{under}
use Rattle.rsvp_base.proofs.Filters.{each_each}
use Rattle.local_state.specs.Rows.{tspec_row}
use Rattle.local_state.specs.declared.senders.LocalSender.{LocalSender}
use Rattle.router_aging.specs.Telling.{known_names}
use Rattle.router_aging.proofs.Offers.{known_is}
use Rattle.router_aging.proofs.known.KnownSenders.of.Goals as goal
use Rattle.router_aging.proofs.known.KnownSenders.of.Goals.{After-add_paths}

names : (c : After-add_paths) → c.add_paths.new.found ≡ known_names c.args.senders.now.tspecs c.args.paths.now.facts c.args.session
names c =
    let own : each (λ (r : LocalSender). r.sender) c.of.result.now ≡ keys (under sessions senders c.args.senders.now.tspecs c.args.session) = sym (each_each tspec_row (λ e. e.0) c.of.result.now)
    ∙ ap (each (λ e. e.0)) c.of.ensures.rows in
    c.add_paths.ensures
    ∙ (λ i. with_keys ((c.add_own.ensures.senders ∙ (λ j. with_keys (c.new-found.ensures j) (own j))) i) (keys (under sessions senders c.args.paths.now.facts c.args.session)))

pub returns-clause-names : goal.returns-clause-names
returns-clause-names c = names ((goal.at.returns-clause-names c).After-add_paths)

pub returns-clause-known : goal.returns-clause-known
returns-clause-known c = λ clock n own paths. names ((goal.at.returns-clause-known c).After-add_paths) ∙ (λ i. known_names (sym own i) (sym paths i) c.args.session) ∙ known_is clock n c.args.session
