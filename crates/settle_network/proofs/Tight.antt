-- The path of the node alone lives for 21 quarters, and three rounds may take 18.
use Rattle.std.proofs.Common.{◌≡◌, ℕ, zero, suc, ◌<◌, ◌≤◌, List, [], ◌∷◌, length, Bool, true, false, Some, inl, inr, ⊎_elim, arith, sym, refl, ap, subst}
use Rattle.std.specs.Prelude.{slice_get, ◌==◌, if◌then◌else◌}
use Rattle.std.specs.Option.{unwrap_or}
use Rattle.rsvp_base.specs.Members.{In}
use Rattle.calm_rounds.specs.Machine.{run}
use Rattle.calm_rounds.specs.Rounds.{Calm, run_rounds}
use Rattle.router_rules.specs.Facts.{Facts, no_facts}
use Rattle.router_rules.specs.Inputs.{Stale, StalePath}
use Rattle.router_rules.specs.Rule.{facts_with}
use Rattle.router_rules.specs.Steps.{IsFitStale}
use Rattle.router_examples.specs.ThreeRouters.{first, s1, session}
use Rattle.tree_model.specs.declared.hops.End.{End}
use Rattle.tree_model.specs.Trees.{trees_of}
use Rattle.tree_model.specs.Valid.{IsValid}
use Rattle.network_model.specs.Bounds.{AreBounds}
use Rattle.network_model.specs.Links.{is_group, NoEndIsAGroup}
use Rattle.network_model.specs.Rows.{end_of}
use Rattle.network_model.specs.Sound.{ArePathsSound}
use Rattle.network_model.specs.Steps.{machine}
use Rattle.network_model.specs.Worlds.{World, config_of}
use Rattle.laws_network.proofs.Beginning.{the_first_world_is_within_bounds}
use Rattle.laws_network.proofs.Known.{of_some}
use Rattle.settle_resvs.specs.Example.{stale_path}
use Rattle.settle_network.specs.Tight.{lone_net, lone_plan, lone_world, short_round, three_rounds, ThreeRoundsAreTooFew}

abbrev zero_only : List ℕ
zero_only = 0 ∷ []

few : (b : Bool) → length (if b then zero_only else []) ≤ 16
few true = omega arith
few false = omega arith

placed : (e : End) → In e lone_net.ends → e.node < 1
placed e (inl same) = let n = ap (λ (z : End). z.node) same in omega arith
placed e (inr never) = absurd never

one_address : (i j : ℕ) (d e : End) → slice_get lone_net.ends i ≡ Some d → slice_get lone_net.ends j ≡ Some e → d.iface.addr ≡ e.iface.addr → i ≡ j
one_address zero zero d e a b same = refl
one_address zero (suc j) d e a b same = absurd (cc)
one_address (suc i) j d e a b same = absurd (cc)

lone_hosts : NoEndIsAGroup lone_net
lone_hosts zero x a = let same : end_of 0 s1 ≡ x = of_some _ x a in ap (λ (z : End). is_group z.iface.addr) (sym same)
lone_hosts (suc e) x a = absurd (cc)

lone_valid : IsValid lone_net
lone_valid = record {
  few_nodes = omega arith;
  few_ends = λ n. few (0 == n);
  few_links = omega arith;
  few_hops = omega arith;
  placed = placed;
  one_address = one_address;
  linked = λ l i. absurd i;
  nodes_apart = λ l a b i j k same. absurd i;
  ends_of_links = λ l e i j. absurd i;
  rising = λ l i. absurd i;
  apart = λ i j l m e a b x y. absurd (cc);
  one_link = λ a b on. absurd (cc);
  grown = λ g s. tt;
  loop_free = λ g h c closed. closed.1;
}

fit_path : IsFitStale (config_of 7500 lone_net (trees_of lone_net.hops) 0) 0 (StalePath (session, first) stale_path)
fit_path = (
  record { later = omega arith; soon = omega arith },
  record { iface = omega arith; tspec = record { rate = omega arith; depth = omega arith; low = omega arith; most = omega arith }; adspec = tt },
)

bounds : AreBounds 7500 lone_world
bounds =
    the_first_world_is_within_bounds lone_plan
    (record {
      period = omega arith;
      net = lone_valid;
      hosts = lone_hosts;
      stale = λ n i lt j.
          ⊎_elim
          (λ (same : (n, i) ≡ (0, StalePath (session, first) stale_path)). subst (λ (z : ℕ × Stale). IsFitStale (config_of 7500 lone_net (trees_of lone_net.hops) z.0) 0 z.1) (sym same) fit_path)
          (λ (no : ⊥). absurd no) j;
    })

-- nothing is sent in any of the rounds
abbrev after_one : World
after_one = run (machine 7500) short_round lone_world

abbrev after_two : World
after_two = run (machine 7500) short_round after_one

abbrev at_end : World
at_end = run_rounds (machine 7500) three_rounds lone_world

first_round : Calm (machine 7500) short_round lone_world
unfolding facts_with
first_round = record { silent = (refl, (refl, (refl, tt))); long = omega arith; short = omega arith; flushed = λ x i. absurd i; crossed = λ x t i. absurd i }

second_round : Calm (machine 7500) short_round after_one
unfolding facts_with
second_round = record { silent = (refl, (refl, (refl, tt))); long = omega arith; short = omega arith; flushed = λ x i. absurd i; crossed = λ x t i. absurd i }

third_round : Calm (machine 7500) short_round after_two
unfolding facts_with
third_round = record { silent = (refl, (refl, (refl, tt))); long = omega arith; short = omega arith; flushed = λ x i. absurd i; crossed = λ x t i. absurd i }

abbrev facts_0 : World → Facts
facts_0 u = unwrap_or (slice_get u.nodes 0) no_facts

still : ArePathsSound at_end → ⊥
unfolding facts_with
still sound = (sound.facts 0 (facts_0 at_end) (session, first) stale_path refl refl).sound.there

pub three_rounds_are_too_few : ThreeRoundsAreTooFew
three_rounds_are_too_few = record { bounds = bounds; no_hop = refl; rounds = (first_round, (second_round, (third_round, tt))); still = still }
