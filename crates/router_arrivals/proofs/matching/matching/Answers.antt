use Rattle.std.proofs.Common.{◌-◌, length, drop, ap, ◌∙◌, arith}
use Rattle.std.proofs.lemmas.List.{length-drop, take_all}
use Rattle.rsvp_base.specs.Sets.{union}
use Rattle.router_rules.specs.NodeConfig.{goes_out}
use Rattle.router_arrivals.proofs.Outward.{out_in_two, out_of}
use Rattle.router_arrivals.proofs.matching.matching.Goals as goal

pub returns : goal.returns
returns c =
    let xs = c.as_slice-list.result.now in
    let half = c.min-half.result in
    let test = goes_out c.args.config.now c.args.session c.args.iface in
    let rest = c.names_out-2.ensures ∙ ap (out_of c.args.style test) (take_all (length xs - half) (drop half xs) (omega (arith, length-drop half xs))) in
    (λ i. union (c.names_out.ensures i) (rest i)) ∙ out_in_two c.args.style test c.args.known.now xs half c.as_slice-list.ensures.senders
