use Rattle.std.proofs.Common.{◌≡◌, ap, refl, ◌∙◌}
use Rattle.path_state.specs.Paths.{PathMap, path_keys}
use Rattle.rsvp_base.specs.Table.{empty}
use Rattle.router_rules.specs.Facts.{SenderKey}
use Rattle.router_state.specs.Changes.{paths_without}
use Rattle.router_state.specs.State.{State}
use Rattle.router_state.specs.Whole.{state_of}
use Rattle.router_aging.specs.Steps.{names_gone}
use Rattle.router_arrivals.specs.Coming.{stopped}
use Rattle.router_arrivals.proofs.Keeping.{without_less}
use Rattle.router_arrivals.proofs.Going.{stopped_is}
use Rattle.router_arrivals.proofs.withdrawal.drop_path.Goals as goal

pub let_go-requires : goal.let_go-requires
let_go-requires c =
    let s = c.requires.sound in
    record {
      pulled = record {
        paths = ap (λ (m : PathMap). m.dead.rows) c.tear-was.ensures.gone
            ∙ s.pulled.paths;
        wild = s.pulled.wild;
        fixed = s.pulled.fixed;
        shared = s.pulled.shared;
      };
      booked = s.booked;
      few = s.few;
    }

pub returns-clause-state : goal.returns-clause-state
returns-clause-state c =
    let n = state_of c.args.tables.now empty in
    let k : SenderKey = (c.args.session, c.args.sender) in
    let torn : state_of (record c.args.tables.now { paths = c.tear-was.new.self }) empty ≡ paths_without n k = λ i. record n { paths = (c.tear-was.ensures.gone i).facts } in
    c.let_go.ensures.state ∙ ap (λ (z : State). stopped (names_gone k z) k.0) torn
    ∙ stopped_is n (names_gone k (paths_without n k)) k.0 c.requires.settled refl (λ j h. h) (without_less path_keys n.paths k)
