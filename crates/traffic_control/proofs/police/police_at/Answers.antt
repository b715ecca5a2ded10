use Rattle.std.proofs.Common.{◌&&◌, nat_lt, not, refl, ap, ◌∙◌}
use Rattle.rsvp_base.specs.declared.style.StyleKind.TheVariants.{Fixed}
use Rattle.router_rules.specs.Requests.{is_style}
use Rattle.router_state.specs.State.{table_in}
use Rattle.router_state.specs.Whole.{state_of}
use Rattle.error_sends.proofs.Confs.{table_seen}
use Rattle.traffic_control.proofs.Counting.{flags_are}
use Rattle.traffic_control.proofs.police.police_at.Goals as goal

pub returns : goal.returns
returns c = λ clock said.
    let k = c.args.key.now in
    let st = k.style in
    let n = state_of c.args.tables.now said in
    c.flags.ensures
    ∙ flags_are clock n c.args.iface k c.args.part.now n.paths (table_in st n) refl (table_seen clock n st) (nat_lt 0 c.count-marked.result)
    (not (is_style st Fixed) && nat_lt 1 c.count-matching.result) c.passed_by-passed.result (ap (nat_lt 0) c.count-marked.ensures)
    (ap (λ m. not (is_style st Fixed) && nat_lt 1 m) c.count-matching.ensures) (c.passed_by-passed.ensures said)
