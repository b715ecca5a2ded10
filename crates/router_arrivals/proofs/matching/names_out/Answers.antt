use Rattle.std.proofs.Common.{cond, ap, ◌∙◌, arith}
use Rattle.rsvp_base.specs.Sets.{with_key}
use Rattle.rsvp_base.specs.Table.{size}
use Rattle.router_rules.specs.NodeConfig.{goes_out}
use Rattle.router_aging.proofs.Adding.{size_next}
use Rattle.router_arrivals.proofs.Outward.{few_next, out_more}
use Rattle.router_arrivals.proofs.matching.names_out.Goals as goal

pub add_if-requires : goal.add_if-requires
add_if-requires c = omega (arith, size_next c.loop-i.names c.name_of.result, c.loop-i.invariant.few, c.loop-i-test.true, c.requires)

pub loop-i-preserved : goal.loop-i-preserved
loop-i-preserved c =
    let names = c.loop-i.names in
    record {
      names = c.add_if.ensures ∙ (λ i. cond (c.goes_out.ensures i) (with_key names (c.name_of.ensures i)) names)
          ∙ out_more c.args.style (goes_out c.args.config.now c.args.session c.args.iface) c.args.list.now c.loop-i.i _ c.loop-i-test.true names c.loop-i.invariant.names;
      few = omega (arith, ap size c.add_if.ensures, few_next c.goes_out.result names c.name_of.result, c.loop-i.invariant.few);
    }
