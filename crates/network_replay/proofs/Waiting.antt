-- A piece of a wait, node by node.
use Rattle.std.proofs.Common.{◌≡◌, ℕ, zero, suc, ◌+◌, ◌≤◌, List, [], ◌++◌, length, refl, ap, subst, ◌∙◌}
use Rattle.std.specs.Prelude.{map as each, fold}
use Rattle.router_rules.specs.Inputs.{Wait, Send}
use Rattle.router_rules.specs.NodeConfig.{NodeConfig}
use Rattle.router_rules.specs.Rule.{Outcome, rule, facts_after, sent_after}
use Rattle.router_rules.proofs.Fronting.{fronts_are_the_rule}
use Rattle.tree_model.specs.Networks.{Net}
use Rattle.network_flight.specs.Steps.{Piece, next_state, state_after, word_for, outcome, step}
use Rattle.network_flight.specs.Worlds.{Item, World, config_of}
use Rattle.network_replay.specs.Agreeing.{IsNode}
use Rattle.network_replay.specs.Posting.{Post, with_post}
use Rattle.network_replay.specs.Following.{Seen, AreSpelt}
use Rattle.network_replay.specs.Mailing.{items_sent, ArePut}
use Rattle.network_replay.proofs.Making.{copies_at}
use Rattle.network_replay.proofs.Nodes.{node_after}
use Rattle.network_replay.proofs.Mailed.{posted_put}
use Rattle.network_replay.proofs.Turns.{sent_on, none_on, one_on}

-- one word more
pub state_more : (n x : ℕ) → state_after (suc n) x ≡ next_state (state_after n x)
state_more zero x = refl
state_more (suc n) x = state_more n (next_state x)

module _ (q : ℕ) (w : World) (ms : ℕ) where
  -- what nodes from a number on send
  abbrev pub sent_behind : ℕ → List Item
  sent_behind n = sent_on q w (Piece ms) n

  pub all_waited : (n : ℕ) → length w.nodes ≤ n → sent_behind n ≡ []
  all_waited n le = none_on q w (Piece ms) n le

  module _ {R : Type 0} (see : Seen R) (n word : ℕ) (old : R) (is : IsNode see q w n old) (drawn : word ≡ word_for w.words n) where
    same_wait : rule (see.place old) (see.place old) (w.clock + ms) (Wait ms word) (see.facts old w.clock) ≡ outcome q (Piece ms) w n (see.facts old w.clock)
    same_wait =
        let f = see.facts old w.clock in
        let here = config_of q w.net w.trees n in
        ap (λ (p : NodeConfig). rule p p (w.clock + ms) (Wait ms word) f) is.place ∙ ap (λ x. rule here here (w.clock + ms) (Wait ms x) f) drawn

    pub waited_node : (new : R) → see.place new ≡ see.place old → ((c : ℕ) → see.facts new (c + ms) ≡ facts_after (see.place old) (see.place old) (c + ms) (Wait ms word) (see.facts old c))
        → IsNode see q (step q (Piece ms) w) n new
    waited_node new place follows =
        node_after see q (Piece ms) w refl n old new is place
        (follows w.clock ∙ fronts_are_the_rule.facts (see.place old) (see.place old) (w.clock + ms) (Wait ms word) (see.facts old w.clock) ∙ ap (λ (o : Outcome). o.facts) same_wait)

    -- what it posts is the first of what is left
    pub waited_put : (m new_mail : Post) → m.net ≡ w.net → length m.flight ≤ 8192
        → ((c : ℕ) → new_mail ≡ fold with_post (record m { from = n }) (sent_after (see.place old) (see.place old) (c + ms) (Wait ms word) (see.facts old c)))
        → ((c : ℕ) → AreSpelt (sent_after (see.place old) (see.place old) (c + ms) (Wait ms word) (see.facts old c)))
        → ArePut m new_mail (each (λ x. x.0) (copies_at q (Piece ms) w n (see.facts old w.clock)))
    waited_put m new_mail wires le posts fit =
        let ss = sent_after (see.place old) (see.place old) (w.clock + ms) (Wait ms word) (see.facts old w.clock) in
        let one : ArePut m new_mail (items_sent m.net w.made n ss) = posted_put m new_mail n w.made ss le (posts w.clock) (fit w.clock) in
        let is_sent : ss ≡ (outcome q (Piece ms) w n (see.facts old w.clock)).sent = fronts_are_the_rule.sent (see.place old) (see.place old) (w.clock + ms) (Wait ms word) (see.facts old w.clock)
        ∙ ap (λ (o : Outcome). o.sent) same_wait in
        subst (λ (k : Net). ArePut m new_mail (items_sent k w.made n (outcome q (Piece ms) w n (see.facts old w.clock)).sent)) wires
        (subst (λ (xs : List Send). ArePut m new_mail (items_sent m.net w.made n xs)) is_sent one)

    -- from here on
    pub from_here_on : sent_behind n ≡ each (λ x. x.0) (copies_at q (Piece ms) w n (see.facts old w.clock)) ++ sent_behind (n + 1)
    from_here_on = one_on q w (Piece ms) n (see.facts old w.clock) is.facts
