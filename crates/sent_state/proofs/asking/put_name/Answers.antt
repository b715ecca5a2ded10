use Rattle.std.proofs.Common.{◌≡◌, ◌≤◌, Option, Some, sym, ap, subst, ◌∙◌, arith}
use Rattle.std.specs.Option.{option_copied, option_map}
use Rattle.rsvp_base.specs.Table.{size}
use Rattle.rsvp_base.specs.TokenBucket.{TokenBucket}
use Rattle.rsvp_base.specs.declared.part.Part.{Part}
use Rattle.style_rules.specs.Merge.{put_some}
use Rattle.router_rules.specs.Asking.{flow_at}
use Rattle.sent_state.specs.Listed.{flows_in}
use Rattle.sent_state.proofs.Listing.{flows_few, flows_more}
use Rattle.sent_state.proofs.asking.put_name.Goals as goal

pub put_flow-requires : goal.put_flow-requires
put_flow-requires c =
    let ps = c.args.parts.now in
    let x = c.args.name.now in
    let t = flows_in c.args.list.now in
    let at : flow_at ps x ≡ Some c.in-Some.part.now.flow = ap (option_map (λ (part : Part). part.flow)) (sym c.get.ensures ∙ ap option_copied c.in-Some.is) in
    let few : size (put_some x (flow_at ps x) t) ≤ 16 = omega (arith, flows_few ps (put_some x (flow_at ps x) t) (flows_more ps x t c.requires), c.len.ensures.size, c.len.ensures.few) in
    subst (λ (w : Option TokenBucket). size (put_some x w t) ≤ 16) at few

pub returns-in-Some : goal.returns-in-Some
returns-in-Some c =
    let x = c.args.name.now in
    let t = flows_in c.args.list.now in
    let at : flow_at c.args.parts.now x ≡ Some c.in-Some.part.now.flow = ap (option_map (λ (part : Part). part.flow)) (sym c.get.ensures ∙ ap option_copied c.in-Some.is) in
    c.put_flow.ensures ∙ ap (λ (w : Option TokenBucket). put_some x w t) (sym at)

pub returns-in-None : goal.returns-in-None
returns-in-None c = ap (λ (w : Option TokenBucket). put_some c.args.name.now w (flows_in c.args.list.now))
    (sym (ap (option_map (λ (part : Part). part.flow)) (sym c.get.ensures ∙ ap option_copied c.in-None.is)))
