-- A step in which something comes to one node.
use Rattle.std.proofs.Common.{◌≡◌, ℕ, ◌+◌, ◌<◌, ◌≤◌, List, [], Bool, Option, None, Some, length, sym, ap, subst, ◌∙◌, arith}
use Rattle.std.specs.Prelude.{slice_get, slice_set, map as each, fold}
use Rattle.router_rules.specs.Inputs.{Input, Send}
use Rattle.router_rules.specs.NodeConfig.{NodeConfig}
use Rattle.router_rules.specs.Rule.{Outcome, rule, facts_after, sent_after}
use Rattle.router_rules.proofs.Fronting.{fronts_are_the_rule}
use Rattle.tree_model.specs.Networks.{Net}
use Rattle.network_flight.specs.Links.{all_copies}
use Rattle.network_flight.specs.Steps.{Step, ms_of, net_after, at_node, input_at, outcome_of, outcome, sent, step}
use Rattle.network_flight.specs.Worlds.{Item, World, config_of}
use Rattle.network_replay.specs.Agreeing.{IsNode, AreNodes}
use Rattle.network_replay.specs.Following.{Seen, AreSpelt}
use Rattle.network_replay.specs.Mailing.{items_sent, ArePut}
use Rattle.network_replay.specs.Posting.{Post, with_post}
use Rattle.network_replay.proofs.Mailed.{nothing_put, posted_put}
use Rattle.network_replay.proofs.Making.{none_sends, one_sends, at_other, at_same}
use Rattle.network_replay.proofs.Nodes.{nodes_still, nodes_one}

module _ {R : Type 0} (see : Seen R) (q : ℕ) (w : World) (s : Step) (m : ℕ) (i : Input) (stays : net_after s w ≡ w.net) (none : ms_of s ≡ 0) (comes : (n : ℕ) → input_at s w n ≡ at_node m i n) where
  to_no_other : (n : ℕ) → (n ≡ m → ⊥) → input_at s w n ≡ None
  to_no_other n ne = comes n ∙ at_other m n i ne

  -- where there is no such node
  module _ (past : length w.nodes ≤ m) where
    absent : (n : ℕ) → n < length w.nodes → input_at s w n ≡ None
    absent n lt = to_no_other n (λ e. omega arith)

    pub absent_nodes : (rs : List R) → AreNodes see q w rs → AreNodes see q (step q s w) rs
    absent_nodes rs are = nodes_still see q s w stays rs none (λ n lt. absent n (omega (arith, are.many, lt))) are

    pub absent_sent : sent q s w ≡ []
    absent_sent = none_sends q s w absent

    pub absent_put : (a b : Post) → length a.flight ≤ 8192 → b ≡ a → ArePut a b (each (λ x. x.0) (sent q s w))
    absent_put a b le is = subst (λ (xs : List (Item × Bool)). ArePut a b (each (λ x. x.0) xs)) (sym (none_sends q s w absent)) (nothing_put a b le is)

  -- the node follows its rule
  module _ (old new : R) (is : IsNode see q w m old) where
    pub same_rule : rule (see.place old) (see.place old) (w.clock + ms_of s) i (see.facts old (w.clock + ms_of s)) ≡ outcome q s w m (see.facts old w.clock)
    same_rule =
        let here = config_of q w.net w.trees m in
        let c = w.clock + ms_of s in
        let now : c ≡ w.clock = omega (arith, none) in
        ap (λ t. rule (see.place old) (see.place old) c i (see.facts old t)) now
        ∙ ap (λ (p : NodeConfig). rule p p c i (see.facts old w.clock)) is.place
        ∙ ap (λ (n : Net). rule here (config_of q n w.trees m) c i (see.facts old w.clock)) (sym stays)
        ∙ sym (ap (λ (o : Option Input). outcome_of q o s w m (see.facts old w.clock)) (comes m ∙ at_same m i))

    pub called_nodes : (rs : List R) → slice_get rs m ≡ Some old → see.place new ≡ see.place old → ((c : ℕ) → see.facts new c ≡ facts_after (see.place old) (see.place old) c i (see.facts old c))
        → AreNodes see q w rs → AreNodes see q (step q s w) (slice_set rs m new)
    called_nodes rs here place follows are =
        let c = w.clock + ms_of s in
        nodes_one see q s w stays rs m old new none to_no_other are here place
        (follows c ∙ fronts_are_the_rule.facts (see.place old) (see.place old) c i (see.facts old c) ∙ ap (λ (o : Outcome). o.facts) same_rule)

    pub called_put : (mail new_mail : Post) → mail.net ≡ w.net → length mail.flight ≤ 8192
        → ((c : ℕ) → new_mail ≡ fold with_post (record mail { from = m }) (sent_after (see.place old) (see.place old) c i (see.facts old c)))
        → ((c : ℕ) → AreSpelt (sent_after (see.place old) (see.place old) c i (see.facts old c)))
        → ArePut mail new_mail (each (λ x. x.0) (sent q s w))
    called_put mail new_mail wires le posts fit =
        let c = w.clock + ms_of s in
        let ss = sent_after (see.place old) (see.place old) c i (see.facts old c) in
        let one : ArePut mail new_mail (items_sent mail.net w.made m ss) = posted_put mail new_mail m w.made ss le (posts c) (fit c) in
        let is_sent : ss ≡ (outcome q s w m (see.facts old w.clock)).sent = fronts_are_the_rule.sent (see.place old) (see.place old) c i (see.facts old c) ∙ ap (λ (o : Outcome). o.sent) same_rule in
        let two = subst (λ (n : Net). ArePut mail new_mail (items_sent n w.made m (outcome q s w m (see.facts old w.clock)).sent)) wires
        (subst (λ (xs : List Send). ArePut mail new_mail (items_sent mail.net w.made m xs)) is_sent one) in
        subst (λ (xs : List (Item × Bool)). ArePut mail new_mail (each (λ x. x.0) xs)) (sym (one_sends q s w m (see.facts old w.clock) is.facts to_no_other)) two

    pub called_silent : ((c : ℕ) → sent_after (see.place old) (see.place old) c i (see.facts old c) ≡ []) → sent q s w ≡ []
    called_silent silent =
        let c = w.clock + ms_of s in
        let none_sent : (outcome q s w m (see.facts old w.clock)).sent ≡ [] = sym (fronts_are_the_rule.sent (see.place old) (see.place old) c i (see.facts old c)
        ∙ ap (λ (o : Outcome). o.sent) same_rule) ∙ silent c in
        one_sends q s w m (see.facts old w.clock) is.facts to_no_other ∙ ap (λ (ss : List Send). all_copies w.net w.made m ss) none_sent
