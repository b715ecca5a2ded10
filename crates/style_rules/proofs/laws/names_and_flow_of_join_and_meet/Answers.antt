use Rattle.std.proofs.Common.{sym, subst}
use Rattle.flow_merge.specs.FlowOrder.{IsAtMost}
use Rattle.flow_merge.proofs.Lattice.{meet_below_left, meet_below_right}
use Rattle.style_rules.proofs.laws.names_and_flow_of_join_and_meet.Goals as goal

pub returns : goal.returns
returns g c =
    let style = g.met.S.Style in
    record {
      names_of_join = style.senders_of_join;
      names_of_meet = style.senders_of_meet;
      flow_of_join = style.flow_of_join;
      flow_of_meet = style.flow_of_meet;
      meet_below_join = style.meet_below_join;
      meet_flow_left = λ a b. subst (λ f. IsAtMost f a.flow) (sym (style.flow_of_meet a b)) (meet_below_left a.flow b.flow);
      meet_flow_right = λ a b. subst (λ f. IsAtMost f b.flow) (sym (style.flow_of_meet a b)) (meet_below_right a.flow b.flow);
    }
