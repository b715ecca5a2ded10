-- Each Resv that is sent asks for what goes toward its previous hop by the facts that its node then has.
use Rattle.std.proofs.Common.{◌≡◌, ℕ, ◌+◌, Bool, Option, Some, None, sym, ap, subst, ◌∙◌}
use Rattle.std.specs.Prelude.{slice_get}
use Rattle.rsvp_base.specs.Members.{In}
use Rattle.rsvp_messages.specs.declared.message.Message.TheVariants as message
use Rattle.rsvp_messages.specs.declared.message.ResvMsg.{ResvMsg}
use Rattle.laws_steps.specs.ReservationLaws.{IsOfLane}
use Rattle.laws_steps.proofs.Hopward.{what_a_resv_sent_says}
use Rattle.router_rules.specs.Facts.{Facts}
use Rattle.router_rules.specs.Inputs.{Input, Send, Spelt}
use Rattle.router_rules.specs.Steps.{node_step}
use Rattle.tree_model.specs.Networks.{end_at}
use Rattle.network_model.specs.Bounds.{AreBounds}
use Rattle.network_model.specs.Links.{copy_to, goes_to}
use Rattle.network_model.specs.Steps.{Step, input_at, ms_of, net_after, outcome, outcome_of}
use Rattle.network_model.specs.Worlds.{Item, World, config_of}
use Rattle.network_model.proofs.Changing.{what_is_sent_is_copied}
use Rattle.network_model.proofs.Stepping.{facts_after_made}
use Rattle.laws_safety.specs.Blockades.{EachResvSaysWhatGoesToward}

module _ (q : ℕ) (s : Step) (w : World) (bounds : AreBounds q w) where
  -- a Resv among what a node sends
  says : (n : ℕ) (f : Facts) (send : Send) (m : ResvMsg) → slice_get w.nodes n ≡ Some f → In send (outcome q s w n f).sent → send.message ≡ message.Resv m
      → IsOfLane (config_of q (net_after s w) w.trees n) (outcome q s w n f).facts send m
  says n f send m there i is = by (input_at s w n) i
    where
      by : (o : Option Input) → In send (outcome_of q o s w n f).sent → IsOfLane (config_of q (net_after s w) w.trees n) (outcome_of q o s w n f).facts send m
      by None j = absurd j
      by (Some x) j = what_a_resv_sent_says.says (node_step (config_of q w.net w.trees n) (config_of q (net_after s w) w.trees n) w.clock (w.clock + ms_of s) x f) (bounds.facts n f there) send m j is

  pub each_resv : EachResvSaysWhatGoesToward q s w
  each_resv y mark m i spelt =
      let c = (what_is_sent_is_copied q s w (y, mark)).0 i in
      let copied : Spelt c.send.message ≡ Spelt (message.Resv m) = sym (ap (λ (z : Item × Bool). z.0.arrival) c.is) ∙ spelt in
      let is : c.send.message ≡ message.Resv m = cc in
      let end : c.end ≡ y.end = sym (ap (λ (z : Item × Bool). z.0.end) c.is) in
      record {
        node = c.node;
        after = (outcome q s w c.node c.facts).facts;
        there = facts_after_made q s w c.node c.facts c.there;
        send = c.send;
        is = c.is ∙ ap (copy_to w.made c.send) end;
        goes = subst (λ (z : ℕ). In z (goes_to w.net (end_at w.net.ends c.node c.send.iface) c.send.dst)) end c.goes;
        says = says c.node c.facts c.send m c.there c.sent is;
      }
