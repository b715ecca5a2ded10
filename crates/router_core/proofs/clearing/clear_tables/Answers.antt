use Rattle.std.proofs.Common.{◌≡◌, ap, arith, length, sym, ◌∙◌}
use Rattle.std.specs.Option.{option_map}
use Rattle.path_state.specs.Paths.{PathMap}
use Rattle.resv_state.specs.Resvs.{ResvMap}
use Rattle.rsvp_base.specs.Table.{empty, get}
use Rattle.rsvp_base.specs.declared.part.Part.{Part}
use Rattle.router_rules.specs.Books.{book}
use Rattle.router_state.specs.State.{State, facts_of}
use Rattle.router_aging.specs.Clearing.{cleared}
use Rattle.router_aging.specs.Passing.{all_begun}
use Rattle.router_state.specs.Whole.{state_of}
use Rattle.router_core.proofs.Emptying.{clear_booked}
use Rattle.router_core.proofs.clearing.clear_tables.Goals as goal

pub returns-clause-state : goal.returns-clause-state
returns-clause-state c = λ i.
    record (state_of c.args.tables.now empty) {
      paths = (c.clear.ensures i).facts;
      wild = (c.clear-2.ensures i).facts;
      fixed = (c.clear-3.ensures i).facts;
      shared = (c.clear-4.ensures i).facts;
      walls = c.clear-5.ensures i;
      due = (c.begin_all.ensures ∙ ap (λ p. all_begun p c.args.tables.now.senders.tspecs) c.period-period.ensures) i;
    }

pub returns-clause-sound : goal.returns-clause-sound
returns-clause-sound c = record {
  pulled = record {
    paths = ap (λ (m : PathMap). m.dead.rows) c.clear.ensures;
    wild = ap (λ (m : ResvMap). m.dead.rows) c.clear-2.ensures;
    fixed = ap (λ (m : ResvMap). m.dead.rows) c.clear-3.ensures;
    shared = ap (λ (m : ResvMap). m.dead.rows) c.clear-4.ensures;
  };
  booked = λ clock i k.
      let n = state_of c.args.tables.now empty in
      let due = c.begin_all.ensures ∙ ap (λ p. all_begun p c.args.tables.now.senders.tspecs) c.period-period.ensures in
      let state : _ ≡ cleared n = λ i.
      record n {
        paths = (c.clear.ensures i).facts;
        wild = (c.clear-2.ensures i).facts;
        fixed = (c.clear-3.ensures i).facts;
        shared = (c.clear-4.ensures i).facts;
        walls = c.clear-5.ensures i;
        due =
            due i;
      } in
      c.clear_book.ensures.none i k ∙ clear_booked n clock i k ∙ ap (λ (z : State). option_map (λ (part : Part). part.flow) (get (book (facts_of clock z) i) k)) (sym state);
  few = omega (arith, ap length c.clear_book.ensures.ifaces, c.requires.few);
}
