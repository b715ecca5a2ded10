-- A summary whose parts are those of a seed is that of the seed.
use Rattle.std.proofs.Common.{◌≡◌, ℕ, List, Bool, length, refl, sym, ap, ◌∙◌}
use Rattle.tree_model.specs.Networks.{Net}
use Rattle.tree_model.specs.Ranks.{longest}
use Rattle.network_model.specs.Runs.{last_world}
use Rattle.grown_network.specs.Grown.{grown_net, grown_plan, rounds_of}
use Rattle.grown_network.specs.Booked.{booked}
use Rattle.grown_network.specs.Summaries.{delivered, is_as_demanded, summary, summary_of}
use Rattle.grown_network.specs.Texts.{summary_text}
use Rattle.grown_network.specs.declared.summary.Booked.{Booked}
use Rattle.grown_network.specs.declared.summary.Summary.{Summary}

pub record IsSummaryOf (seed : ℕ) (s : Summary) : Type 0 where
  pub seed_is : s.seed ≡ seed
  pub nodes_is : s.nodes ≡ (grown_net seed).nodes
  pub hops_is : s.hops ≡ length (grown_net seed).hops
  pub longest_is : s.longest ≡ longest (grown_net seed)
  pub rounds_is : s.rounds ≡ rounds_of seed
  pub delivered_is : s.delivered ≡ delivered seed
  pub booked_is : s.booked ≡ booked (grown_net seed) (last_world (grown_plan seed))
  pub equal_is : s.equal ≡ is_as_demanded seed

pub summed : (seed : ℕ) (s : Summary) (text : List ℕ) → IsSummaryOf seed s → text ≡ summary_text s → text ≡ summary seed
unfolding summary
summed seed s text is said =
    said
    ∙ ap summary_text
    (λ i. record {
      seed = is.seed_is i;
      nodes = is.nodes_is i;
      hops = is.hops_is i;
      longest = is.longest_is i;
      rounds = is.rounds_is i;
      delivered = is.delivered_is i;
      booked = is.booked_is i;
      equal = is.equal_is i;
    })
