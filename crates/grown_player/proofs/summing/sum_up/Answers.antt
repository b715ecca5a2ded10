use Rattle.std.proofs.Common.{◌≡◌, ℕ, List, ◌++◌, true, refl, sym, ap, ◌∙◌}
use Rattle.std.specs.Prelude.{bytes_eq}
use Rattle.network_model.specs.DemandTexts.{last_line}
use Rattle.tree_model.specs.Networks.{Net}
use Rattle.network_model.specs.Runs.{last_world}
use Rattle.grown_network.specs.Grown.{grown_plan}
use Rattle.grown_network.proofs.Senders.{all_hops}
use Rattle.grown_network.specs.Booked.{booked}
use Rattle.grown_network.specs.Summaries.{demanded}
use Rattle.grown_network.specs.Texts.{summary_text}
use Rattle.grown_network.specs.declared.summary.Summary.{Summary}
use Rattle.grown_player.proofs.Summed.{summed}
use Rattle.grown_player.proofs.summing.sum_up.Goals as goal

pub returns : goal.returns
returns g c =
    let seed = c.args.seed in
    let x = c.args.expected.now in
    let known = c.requires.expected in
    let played = c.requires.played in
    let w = last_world (grown_plan seed) in
    let s : Summary = record {
      seed = seed;
      nodes = c.nodes.result;
      hops = 756;
      longest = x.longest;
      rounds = x.rounds;
      delivered = c.delivered.result;
      booked = c.count.result;
      equal =
          c.in_ok-equal.equal;
    } in
    summed seed s c.put_summary.new.out.items
    (record {
      seed_is = refl;
      nodes_is = c.nodes.ensures.nodes ∙ ap (λ (n : Net). n.nodes) (c.routing.ensures.net ∙ known.wires);
      hops_is = sym (all_hops seed);
      longest_is = known.longest_is;
      rounds_is = known.rounds;
      delivered_is = c.delivered.ensures ∙ played.stands.agrees.delivered;
      booked_is = c.count.ensures (grown_plan seed).quarter w played.stands.agrees ∙ ap (λ (n : Net). booked n w) known.wires;
      equal_is =
          c.in_ok-equal.ensures (demanded seed) (c.as_slice.ensures.value ∙ known.demand ∙ ap (λ n. demanded seed ++ last_line n true) (sym known.longest_is))
          ∙ ap (λ (t : List ℕ). bytes_eq t (demanded seed)) played.text_is;
    }) (c.in_ok-put_summary.ensures ∙ ap (λ (t : List ℕ). t ++ summary_text s) c.new-text.ensures.items)
