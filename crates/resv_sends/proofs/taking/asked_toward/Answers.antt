use Rattle.std.proofs.Common.{sym, ap, ◌∙◌}
use Rattle.router_rules.specs.Asking.{first_of}
use Rattle.resv_sends.proofs.Cut.{asks_none, asks_some, held_left, keys_left, left}
use Rattle.resv_sends.proofs.taking.asked_toward.Goals as goal

pub returns-in-Some : goal.returns-in-Some
returns-in-Some c =
    let up = c.args.up.now in
    let part = c.args.part.now in
    asks_some c.args.style up part.flow (left up c.args.iface part) c.in-Some.first (sym c.in-Some.is ∙ c.first_by.ensures ∙ ap first_of (keys_left up c.args.iface part)) _ c.unit_of.ensures _
    (c.is_blockaded.ensures ∙ held_left up c.args.iface part)

pub returns-in-None : goal.returns-in-None
returns-in-None c =
    let up = c.args.up.now in
    let part = c.args.part.now in
    asks_none c.args.style up part.flow (left up c.args.iface part) (sym c.in-None.is ∙ c.first_by.ensures ∙ ap first_of (keys_left up c.args.iface part))
