-- A host advertises in the pair of nodes: the premises of the laws, and what they promise does not hold yet.
use Rattle.std.proofs.Common.{◌≡◌, ℕ, zero, suc, None, Some, true, refl, ap, ◌∙◌}
use Rattle.std.specs.Prelude.{slice_get}
use Rattle.std.specs.Option.{unwrap_or}
use Rattle.std.specs.Int.Count.{count_leading_zeros}
use Rattle.adspec_path.specs.Composing.{pass_on, start}
use Rattle.adspec_path.specs.RateBelow.{rate_below}
use Rattle.rsvp_base.specs.Table.{get}
use Rattle.router_rules.specs.Facts.{Facts, PathState, SenderKey, no_facts}
use Rattle.network_model.specs.RouterRules.Rule.{facts_with}
use Rattle.network_model.specs.ThreeRouters.{first, s1, session, usual}
use Rattle.laws_network.specs.Example.{quiet_world, sending_world}
use Rattle.laws_network.proofs.Known.{of_some}
use Rattle.settle_adverts.specs.Adverts.{AreAdvertsExact, advert_at}
use Rattle.settle_adverts.specs.Worked.{advertised_world, one_hop}
use Rattle.settle_adverts.proofs.Worked.{a_sender_is_advertised}
use Rattle.settle_passes.specs.Worked.{heard_world}
use Rattle.settle_passes.proofs.Worked.{a_pair_is_set_up}
use Rattle.settle_senders.specs.Adverts.{AreAdvertising, HasItsAdverts}
use Rattle.settle_senders.specs.AdvertsWorked.{AHostAdvertises, AStrayPathIsTaken, NoPassIsSparedAnAdvert, told_world}
use Rattle.settle_senders.specs.Worked.{waiting_world}
use Rattle.settle_senders.proofs.Worked.{a_receiver_waits}
use Rattle.settle_senders.proofs.AdvertCalls.{a_new_sender_is_said}
use Rattle.settle_senders.proofs.AdvertsThere.{adverts_are_set_up, adverts_that_are_there_are_said, adverts_that_are_there_have_settled}

-- ---- nothing is kept at first
no_one : (n : ℕ) (f : Facts) → slice_get quiet_world.nodes n ≡ Some f → no_facts ≡ f
no_one zero f a = of_some no_facts f a
no_one (suc zero) f a = of_some no_facts f a
no_one (suc (suc n)) f a = absurd (cc)

no_path : (n : ℕ) (f : Facts) (k : SenderKey) (x : PathState) → slice_get quiet_world.nodes n ≡ Some f → get f.paths k ≡ Some x → ⊥
no_path n f k x a h = let none : get no_facts.paths k ≡ Some x = ap (λ (z : Facts). get z.paths k) (no_one n f a) ∙ h in cc

nothing_kept : HasItsAdverts 7500 quiet_world
nothing_kept = record {
  paths = a_pair_is_set_up.start;
  exact = record { kept = λ n f k x a h. absurd (no_path n f k x a h); carried = λ y m x t i. absurd i };
  no_path = λ y m i. absurd i;
}

-- ---- a host begins to send
begun : AreAdvertising 7500 sending_world
begun = a_new_sender_is_said 7500 0 (session, first) usual quiet_world (adverts_that_are_there_are_said 7500 quiet_world nothing_kept) a_pair_is_set_up.fit a_pair_is_set_up.new a_pair_is_set_up.hosts

heard : HasItsAdverts 7500 heard_world
heard = adverts_are_set_up 7500 sending_world begun

-- ---- and advertises when its path is there, which keeps none yet
abbrev kept_path : PathState
kept_path = record { iface = 0; hop = record { addr = s1; handle = 0 }; tspec = usual; police = true; adspec = None; dies = 157500 }

composed : advert_at told_world (session, first) 1 ≡ Some one_hop
unfolding start rate_below count_leading_zeros
composed = refl

not_yet : AreAdvertsExact told_world → ⊥
not_yet exact =
    let keeps_none : None ≡ advert_at told_world (session, first) 1 = exact.kept 1 (unwrap_or (slice_get told_world.nodes 1) no_facts) (session, first) kept_path refl refl in
    let bad : None ≡ Some one_hop = keeps_none ∙ composed in
    cc

-- ---- where a receiver waits nothing is kept either
no_path_yet : (n : ℕ) (f : Facts) (k : SenderKey) (x : PathState) → slice_get waiting_world.nodes n ≡ Some f → get f.paths k ≡ Some x → ⊥
no_path_yet zero f k x a h = let none : None ≡ Some x = ap (λ (z : Facts). get z.paths k) (of_some (unwrap_or (slice_get waiting_world.nodes 0) no_facts) f a) ∙ h in cc
no_path_yet (suc zero) f k x a h = let none : None ≡ Some x = ap (λ (z : Facts). get z.paths k) (of_some (unwrap_or (slice_get waiting_world.nodes 1) no_facts) f a) ∙ h in cc
no_path_yet (suc (suc n)) f k x a h = absurd (cc)

nothing_kept_yet : HasItsAdverts 7500 waiting_world
nothing_kept_yet = record {
  paths = (a_receiver_waits.reserving session).paths;
  exact = record { kept = λ n f k x a h. absurd (no_path_yet n f k x a h); carried = λ y m x t i. absurd i };
  no_path = λ y m i. absurd i;
}

pub a_host_advertises : AHostAdvertises
a_host_advertises = record {
  start = nothing_kept;
  fit = a_pair_is_set_up.fit;
  new = a_pair_is_set_up.new;
  hosts = a_pair_is_set_up.hosts;
  advertising = begun;
  not_at_once = λ h. a_sender_is_advertised.not_yet (adverts_that_are_there_have_settled 7500 advertised_world h).there;
  settled = adverts_that_are_there_have_settled 7500 heard_world heard;
  hosts_then = heard.paths.hosts;
  quiet = refl;
  later = heard;
  not_yet = not_yet;
  waiting = nothing_kept_yet;
}

-- ---- by computing
pub no_pass_is_spared_an_advert : NoPassIsSparedAnAdvert
unfolding start pass_on rate_below count_leading_zeros facts_with
no_pass_is_spared_an_advert = record { long = refl; too_soon = refl; in_time = refl }

pub a_stray_path_is_taken : AStrayPathIsTaken
unfolding start pass_on rate_below count_leading_zeros facts_with
a_stray_path_is_taken = record { first_one = refl; second_one = refl }
