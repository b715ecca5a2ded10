-- The refresh overhead is a number of who sends and what is wanted, in whatever order; so that of the world behind the lines of a script
-- is that of the lines.
use Rattle.std.proofs.Common.{◌≡◌, ℕ, ◌+◌, List, ◌∷◌, [], ap, ◌∙◌}
use Rattle.std.specs.Prelude.{map as each, nat_lt, sum_by}
use Rattle.std.specs.List.{filter, flat_map, range_with_len}
use Rattle.rsvp_base.specs.declared.style.StyleKind.TheVariants.{Wild, Fixed, Shared}
use Rattle.rsvp_base.specs.Members.{In}
use Rattle.rsvp_base.specs.Sets.{set_of}
use Rattle.rsvp_base.specs.Table.{size}
use Rattle.rsvp_base.proofs.Members.{in_flat_map, to_flat_map}
use Rattle.router_rules.specs.Known.{Lane, lane_keys}
use Rattle.tree_model.specs.Chains.{NoRepeats}
use Rattle.tree_model.specs.Networks.{Net}
use Rattle.tree_model.specs.Trees.{goes_into, tree}
use Rattle.tree_model.specs.Wants.{Locals}
use Rattle.tree_model.specs.declared.locals.LocalSender.{LocalSender}
use Rattle.network_model.specs.Locals.{locals_of}
use Rattle.network_demand.specs.Overhead.{asked_lanes, lane_back, lanes_of_sender, node_overhead, overhead, path_overhead}
use Rattle.script_grammar.specs.Draft.{routing}
use Rattle.script_theorem.specs.Standing.{AskTheSame, world_behind}
use Rattle.script_theorem.proofs.Same.{one_set, same_want}
use Rattle.script_theorem.proofs.WorldDemands.{scripts_stand}
use Rattle.script_words.specs.Lines.{text_lines}
use Rattle.script_overhead.specs.Roomy.{OverheadsStand}
use Rattle.script_overhead.proofs.Onces.{once_at_nodes, once_behind, sum_of_same}

among_lanes : (f : LocalSender → List Lane) (xs ys : List LocalSender) → ((x : LocalSender) → In x xs → In x ys) → (k : Lane) → In k (flat_map f xs) → In k (flat_map f ys)
among_lanes f xs ys to k i = let x = in_flat_map f k xs i in to_flat_map f x.0 k ys (to x.0 x.1) x.2

module _ (net : Net) (a b : Locals) (h : AskTheSame a b) (once : NoRepeats a.senders) (once_too : NoRepeats b.senders) where
  same_of_sender : (n : ℕ) (x : LocalSender) → lanes_of_sender net a n x ≡ lanes_of_sender net b n x
  same_of_sender n x = λ i. flat_map
      (λ k. each (lane_back net x.session k) (filter (λ st. nat_lt 0 (size (same_want net a b h st x.session k i))) (Wild ∷ Fixed ∷ Shared ∷ [])))
      (filter (goes_into net.ends n) (tree net.hops x.session.group x.sender.addr))

  same_lanes : (n : ℕ) → asked_lanes net a n ≡ asked_lanes net b n
  same_lanes n =
      (λ i. set_of {o = lane_keys} (flat_map (λ x. same_of_sender n x i) a.senders))
      ∙ one_set lane_keys (flat_map (lanes_of_sender net b n) a.senders) (flat_map (lanes_of_sender net b n) b.senders)
      (among_lanes (lanes_of_sender net b n) a.senders b.senders (λ x i. (h.senders x).0 i)) (among_lanes (lanes_of_sender net b n) b.senders a.senders (λ x i. (h.senders x).1 i))

  same_at : (n : ℕ) → node_overhead net a n ≡ node_overhead net b n
  same_at n =
      let paths = sum_of_same (path_overhead net n) a.senders b.senders once once_too (λ x i. (h.senders x).0 i) (λ x i. (h.senders x).1 i) in
      λ i. paths i + size (same_lanes n i)

  same_overhead : overhead net a ≡ overhead net b
  same_overhead = λ i. sum_by (λ n. same_at n i) (range_with_len 0 net.nodes)

pub overheads_stand : OverheadsStand
overheads_stand bytes d leads =
    let h = scripts_stand bytes d leads in
    ap (λ (net : Net). overhead net (locals_of (world_behind d))) h.net
    ∙ same_overhead (routing d) (locals_of (world_behind d)) d.locals h.locals (once_at_nodes 0 (world_behind d).nodes) (once_behind (text_lines bytes) d leads)
