-- A datagram is delivered.
use Rattle.std.proofs.Common.{◌≡◌, ℕ, ◌+◌, ◌<◌, ◌≤◌, List, Bool, Option, None, Some, length, refl, sym, ap, subst, ◌∙◌, arith}
use Rattle.std.specs.Prelude.{slice_get, slice_set, map as each, fold}
use Rattle.rsvp_base.specs.declared.addr.Addr.{Addr}
use Rattle.router_rules.specs.Facts.{Facts}
use Rattle.router_rules.specs.Inputs.{Arrival, Came}
use Rattle.router_rules.specs.Rule.{Outcome, facts_after, heard_after, sent_after}
use Rattle.router_rules.proofs.Fronting.{fronts_are_the_rule}
use Rattle.tree_model.specs.declared.hops.End.{End}
use Rattle.tree_model.specs.Networks.{Net, ends_of, iface_of, node_of, node_of_end}
use Rattle.tree_model.proofs.Ifaces.{interfaces_are_ends}
use Rattle.router_rules.specs.declared.answers.Heard.{Heard}
use Rattle.std.proofs.lemmas.Option.{slice_get_past}
use Rattle.network_flight.specs.Runs.{node_facts}
use Rattle.network_flight.specs.Steps.{Deliver, at_node, input_at, sent, step}
use Rattle.network_flight.specs.Worlds.{Item, World}
use Rattle.network_replay.specs.Agreeing.{IsNode, AreNodes}
use Rattle.network_replay.specs.Posting.{Post, with_post}
use Rattle.network_replay.specs.Due.{IsDue, heard_at, heard_of}
use Rattle.network_replay.specs.Following.{Seen, IsArrival, AreSpelt}
use Rattle.network_replay.specs.Mailing.{ArePut}
use Rattle.network_replay.proofs.Making.{none_sends, comes_nowhere, comes_to_no_other, comes_by}
use Rattle.network_replay.proofs.OneNode.{same_rule, called_nodes, called_put}
use Rattle.network_replay.proofs.Nodes.{nodes_still, within}
use Rattle.network_replay.proofs.Mailed.{nothing_put}

module _ {R : Type 0} (see : Seen R) (q : ℕ) (w : World) (k : ℕ) (net : Net) (end : ℕ) (dst : Addr) (bytes : List ℕ) (due : IsDue net end dst bytes w k) where
  -- the end of the model's item
  same_end : (o : Option End) → slice_get net.ends end ≡ o → slice_get w.net.ends due.item.end ≡ o
  same_end o e = ap (λ (n : Net). slice_get n.ends due.item.end) due.wired ∙ ap (λ i. slice_get net.ends i) (sym due.is.end) ∙ e

  -- where nothing comes to a node that is there
  module _ (quiet : (n : ℕ) → n < length w.nodes → input_at (Deliver k) w n ≡ None) where
    pub still_nodes : (rs : List R) → AreNodes see q w rs → AreNodes see q (step q (Deliver k) w) rs
    still_nodes rs are = nodes_still see q (Deliver k) w refl rs refl (λ n lt. quiet n (omega (arith, are.many, lt))) are

    pub still_put : (a b : Post) → length a.flight ≤ 8192 → b ≡ a → ArePut a b (each (λ x. x.0) (sent q (Deliver k) w))
    still_put a b le is = subst (λ (xs : List (Item × Bool)). ArePut a b (each (λ x. x.0) xs)) (sym (none_sends q (Deliver k) w quiet)) (nothing_put a b le is)

  pub no_end : slice_get net.ends end ≡ None → (n : ℕ) → n < length w.nodes → input_at (Deliver k) w n ≡ None
  no_end e n lt = comes_nowhere w k due.item due.there n (same_end None e)

  pub no_node : (e : End) → slice_get net.ends end ≡ Some e → length w.nodes ≤ e.node → (n : ℕ) → n < length w.nodes → input_at (Deliver k) w n ≡ None
  no_node e at past n lt = comes_to_no_other w k due.item due.there e (same_end (Some e) at) n (λ same. omega arith)

  pub heard_nowhere : slice_get net.ends end ≡ None → None ≡ heard_of q w k due.item
  heard_nowhere e = sym (ap (λ (o : Option End). heard_at q w k due.item o (node_facts w o)) (same_end None e))

  pub heard_by_none : (e : End) → slice_get net.ends end ≡ Some e → length w.nodes ≤ e.node → None ≡ heard_of q w k due.item
  heard_by_none e at past = sym (ap (λ (o : Option End). heard_at q w k due.item o (node_facts w o)) (same_end (Some e) at)
      ∙ ap (λ (f : Option Facts). heard_at q w k due.item (Some e) f) (slice_get_past w.nodes e.node past))

  -- to the node of its end
  module _ (e : End) (there : slice_get net.ends end ≡ Some e) (iface : ℕ) (by : iface ≡ iface_of net.ends end) (old new : R) (is : IsNode see q w e.node old) where
    same_iface : iface ≡ iface_of w.net.ends due.item.end
    same_iface = by ∙ ap (λ i. iface_of net.ends i) due.is.end ∙ ap (λ (n : Net). iface_of n.ends due.item.end) (sym due.wired)

    -- what comes to it
    comes : (n : ℕ) → input_at (Deliver k) w n ≡ at_node e.node (Came iface dst due.item.arrival) n
    comes n =
        comes_by w k due.item due.there e (same_end (Some e) there) n
        ∙ ap (λ i. at_node e.node (Came i due.item.dst due.item.arrival) n) (sym same_iface) ∙ ap (λ (d : Addr). at_node e.node (Came iface d due.item.arrival) n) (sym due.is.dst)

    pub handed_nodes : (at : ℕ) (rs : List R) → at ≡ e.node → slice_get rs at ≡ Some old → see.place new ≡ see.place old
        → ((c : ℕ) (a : Arrival) → IsArrival bytes a → see.facts new c ≡ facts_after (see.place old) (see.place old) c (Came iface dst a) (see.facts old c))
        → AreNodes see q w rs → AreNodes see q (step q (Deliver k) w) (slice_set rs at new)
    handed_nodes at rs same here place follows are =
        subst (λ n. AreNodes see q (step q (Deliver k) w) (slice_set rs n new)) (sym same)
        (called_nodes see q w (Deliver k) e.node (Came iface dst due.item.arrival) refl refl comes old new is rs (subst (λ n. slice_get rs n ≡ Some old) same here) place
        (λ c. follows c due.item.arrival due.is.arrival) are)

    pub handed_put : (at : ℕ) (m new_mail : Post) → at ≡ e.node → m.net ≡ net → length m.flight ≤ 8192
        → ((c : ℕ) (a : Arrival) → IsArrival bytes a → new_mail ≡ fold with_post (record m { from = at }) (sent_after (see.place old) (see.place old) c (Came iface dst a) (see.facts old c)))
        → ((c : ℕ) (a : Arrival) → IsArrival bytes a → AreSpelt (sent_after (see.place old) (see.place old) c (Came iface dst a) (see.facts old c)))
        → ArePut m new_mail (each (λ y. y.0) (sent q (Deliver k) w))
    handed_put at m new_mail same wires le posts fit =
        called_put see q w (Deliver k) e.node (Came iface dst due.item.arrival) refl refl comes old new is m new_mail (wires ∙ sym due.wired) le
        (λ c. posts c due.item.arrival due.is.arrival ∙ ap (λ n. fold with_post (record m { from = n })
        (sent_after (see.place old) (see.place old) c (Came iface dst due.item.arrival) (see.facts old c))) same)
        (λ c. fit c due.item.arrival due.is.arrival)

    pub heard_here : (h : Heard) → ((c : ℕ) (a : Arrival) → IsArrival bytes a → h ≡ heard_after (see.place old) c iface dst a (see.facts old c)) → Some h ≡ heard_of q w k due.item
    heard_here h heard =
        ap (λ (x : Heard). Some x) (heard (w.clock + 0) due.item.arrival due.is.arrival ∙ fronts_are_the_rule.heard (see.place old) (see.place old) (w.clock + 0) iface dst due.item.arrival
        (see.facts old (w.clock + 0)))
        ∙ ap (λ (o : Outcome). Some o.heard) (same_rule see q w (Deliver k) e.node (Came iface dst due.item.arrival) refl refl comes old new is)
        ∙ sym (ap (λ (o : Option End). heard_at q w k due.item o (node_facts w o)) (same_end (Some e) there) ∙ ap (λ (f : Option Facts). heard_at q w k due.item (Some e) f) is.facts)

-- ---- the interface that an end is
pub iface_inside : (net : Net) (end : ℕ) (e : End) → slice_get net.ends end ≡ Some e → iface_of net.ends end < length (ends_of net.ends e.node)
iface_inside net end e at =
    let lt = within net.ends end e at in
    let of : node_of net.ends end ≡ e.node = ap node_of_end at in
    let found : slice_get (ends_of net.ends (node_of net.ends end)) (iface_of net.ends end) ≡ Some end = (interfaces_are_ends net).end_of_iface end lt in
    within (ends_of net.ends e.node) (iface_of net.ends end) end (subst (λ n. slice_get (ends_of net.ends n) (iface_of net.ends end) ≡ Some end) of found)
