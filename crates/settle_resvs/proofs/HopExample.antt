-- The small network says its reservation: a test of worlds, computed in each that is visited.
use Rattle.std.proofs.Common.{◌≡◌, ℕ, ◌+◌, Bool, true, false, Option, None, Some, inl, arith, sym, refl, ap, subst, ◌∙◌}
use Rattle.std.specs.Prelude.{slice_get, ◌==◌, ◌&&◌}
use Rattle.std.specs.List.{list_all}
use Rattle.rsvp_base.specs.declared.part.Part.{Part}
use Rattle.rsvp_base.specs.declared.style.StyleKind.TheVariants.{Wild}
use Rattle.rsvp_base.specs.declared.style.Unit.TheVariants.{One}
use Rattle.rsvp_base.specs.Members.{In}
use Rattle.rsvp_base.specs.Orders.{Names}
use Rattle.rsvp_base.specs.Table.{get, empty}
use Rattle.rsvp_base.specs.TokenBucket.{TokenBucket}
use Rattle.rsvp_base.proofs.Members.{all_in}
use Rattle.rsvp_base.proofs.SetLaws.{and_both}
use Rattle.rsvp_messages.specs.declared.ask.Ask.{Ask}
use Rattle.rsvp_messages.specs.declared.ask.Ask.TheVariants as ask
use Rattle.rsvp_messages.specs.declared.message.Message.{Message}
use Rattle.rsvp_messages.specs.declared.message.Message.TheVariants as message
use Rattle.rsvp_messages.specs.declared.message.ResvMsg.{ResvMsg}
use Rattle.rsvp_messages.specs.Units.{AskedUnit, ask_style, asked_units}
use Rattle.style_rules.specs.Parts.{part_le}
use Rattle.style_rules.specs.PartLaws.{part_at_most_told, part_at_most_both_ways}
use Rattle.calm_rounds.proofs.Holding.{hold_map}
use Rattle.router_rules.specs.Steps.{facts_then}
use Rattle.router_rules.specs.Asking.{ask_of}
use Rattle.router_rules.specs.Facts.{Facts, ResvState, resvs_of}
use Rattle.router_rules.specs.Inputs.{Arrival, Came, Spelt, Unspelt, WantAs}
use Rattle.router_rules.specs.Known.{known, named_as}
use Rattle.network_model.specs.ThreeRouters.{s1, r1, session, usual}
use Rattle.router_rules.specs.NodeConfig.{is_addr, is_session, lifetime}
use Rattle.router_rules.specs.Requests.{toward}
use Rattle.laws_bounds.proofs.Tests.{addr_told, session_told}
use Rattle.tree_model.proofs.Following.{same_number}
use Rattle.network_model.specs.Bounds.{AreBounds}
use Rattle.network_model.specs.Laws.{config_in}
use Rattle.network_model.specs.Steps.{At, Deliver as Delivers, step, machine}
use Rattle.network_model.specs.Worlds.{Item, World}
use Rattle.laws_network.specs.Example.{pair_net, sending_world}
use Rattle.laws_network.specs.Rounds.{rounds_of}
use Rattle.laws_network.proofs.Calming.{calm_rounds}
use Rattle.laws_network.proofs.Example.{a_pair_stays_within_bounds}
use Rattle.laws_network.proofs.Keeping.{each_step_keeps_a_world_within_bounds}
use Rattle.settle_resvs.specs.HopExample.{asking_world, back, asked, SaysAReservation}
use Rattle.settle_resvs.specs.SoftResvs.{SaysResv, line_key_of}
use Rattle.settle_resvs.specs.Said.{IsSaid, lane_of, resv_key}
use Rattle.laws_network.proofs.Computed.{Passes, through}

-- ---- tests
abbrev is_asked : Part → Bool
is_asked x = part_le x asked && part_le asked x

abbrev is_ask : Ask → Bool
is_ask (ask.Wild (Some names) flow) = is_asked (record { senders = names; flow = flow })
is_ask _ = false

abbrev does_say : Item → ResvMsg → Bool
does_say y m = (y.end == 0) && (is_addr y.dst s1 && (is_session m.session session && (is_addr m.hop.addr r1 && is_ask m.ask)))

abbrev is_kept : ℕ → Option ResvState → Bool
is_kept d None = false
is_kept d (Some r) = is_asked r.part && (r.dies == d)

abbrev then_kept : World → Item → ResvMsg → Facts → Option ResvState
then_kept u y m f = get (resvs_of Wild (facts_then (config_in 7500 u 0) (config_in 7500 u 0) u.clock (Came 0 y.dst (Spelt (message.Resv m))) f)) (line_key_of pair_net (resv_key pair_net back))

abbrev does_take : World → Item → ResvMsg → Option Facts → Bool
does_take u y m None = true
does_take u y m (Some f) = is_kept (u.clock + lifetime (config_in 7500 u 0) m.period) (then_kept u y m f)

abbrev is_fine_message : World → Item → Message → Bool
is_fine_message u y (message.Resv m) = does_say y m && does_take u y m (slice_get u.nodes 0)
is_fine_message u y (message.ResvTear m) = false
is_fine_message u y _ = true

abbrev is_fine_arrival : World → Item → Arrival → Bool
is_fine_arrival u y (Spelt m) = is_fine_message u y m
is_fine_arrival u y (Unspelt e) = true

abbrev is_fine : World → Item → Bool
is_fine u y = is_fine_arrival u y y.arrival

abbrev has_ask : Option Ask → Bool
has_ask None = false
has_ask (Some a) = true

abbrev does_ask : World → Option Facts → Bool
does_ask u None = true
does_ask u (Some f) = has_ask (ask_of Wild (toward (config_in 7500 u 1) f (lane_of pair_net back)))

abbrev does_know : Option Facts → Bool
does_know None = true
does_know (Some f) = part_le asked (record { senders = named_as Wild (known f session); flow = usual })

abbrev is_said : World → Bool
is_said u = list_all (is_fine u) u.flight && (does_ask u (slice_get u.nodes 1) && does_know (slice_get u.nodes 0))

-- ---- what they tell
asked_told : (x : Part) → is_asked x ≡ true → x ≡ asked
asked_told x t = let r = and_both (part_le x asked) (part_le asked x) t in part_at_most_both_ways x asked (part_at_most_told x asked r.0) (part_at_most_told asked x r.1)

ask_told : (a : Ask) → is_ask a ≡ true → (names : Names) × (flow : TokenBucket) × (a ≡ ask.Wild (Some names) flow) × (◌≡◌ {A = Part} (record { senders = names; flow = flow }) asked)
ask_told (ask.Wild (Some names) flow) t = (names, flow, refl, asked_told (record { senders = names; flow = flow }) t)
ask_told (ask.Wild None flow) t = absurd (cc)
ask_told (ask.Fixed list) t = absurd (cc)
ask_told (ask.Shared part) t = absurd (cc)

say_told : (y : Item) (m : ResvMsg) → y.arrival ≡ Spelt (message.Resv m) → does_say y m ≡ true → SaysResv pair_net (resv_key pair_net back) y asked
say_told y m spelt t =
    let a = and_both (y.end == 0) _ t in
    let b = and_both (is_addr y.dst s1) _ a.1 in
    let c = and_both (is_session m.session session) _ b.1 in
    let d = and_both (is_addr m.hop.addr r1) (is_ask m.ask) c.1 in
    let r = ask_told m.ask d.1 in
    let unit : AskedUnit = record { unit = One; names = Some r.0; flow = r.1 } in
    record {
      end = same_number y.end 0 a.0;
      dst = addr_told y.dst s1 b.0;
      resv = m;
      spelt = spelt;
      session = session_told m.session session c.0;
      style = ap ask_style r.2;
      hop = addr_told m.hop.addr r1 d.0;
      unit = unit;
      asks = subst (λ (z : Ask). In unit (asked_units z)) (sym r.2) (inl refl);
      at = refl;
      names = ap (λ (z : Part). z.senders) (sym r.3);
      flow = ap (λ (z : Part). z.flow) (sym r.3);
    }

kept_told : (d : ℕ) (o : Option ResvState) → is_kept d o ≡ true → (r : ResvState) × (o ≡ Some r) × (r.part ≡ asked) × (r.dies ≡ d)
kept_told d None t = absurd (cc)
kept_told d (Some r) t = let both = and_both (is_asked r.part) (r.dies == d) t in (r, refl, asked_told r.part both.0, same_number r.dies d both.1)

some_ask : (o : Option Ask) → has_ask o ≡ true → (a : Ask) × (o ≡ Some a)
some_ask None t = absurd (cc)
some_ask (Some a) t = (a, refl)

said_told : (b : ℕ) (u : World) → is_said u ≡ true → IsSaid 7500 pair_net back asked b u
said_told b u t =
    let one = and_both (list_all (is_fine u) u.flight) (does_ask u (slice_get u.nodes 1) && does_know (slice_get u.nodes 0)) t in
    let two = and_both (does_ask u (slice_get u.nodes 1)) (does_know (slice_get u.nodes 0)) one.1 in
    let fine : (y : Item) (m : Message) → In y u.flight → y.arrival ≡ Spelt m → is_fine_message u y m ≡ true =
    (λ y m i spelt. ap (is_fine_arrival u y) (sym spelt) ∙ all_in (is_fine u) u.flight one.0 y i) in
    record {
      carried = λ y m i born spelt over. say_told y m spelt (and_both (does_say y m) (does_take u y m (slice_get u.nodes 0)) (fine y (message.Resv m) i spelt)).0;
      spared = λ y m i born spelt over t. let no : false ≡ true = fine y (message.ResvTear m) i spelt in absurd (cc);
      taken = λ y i born says f there.
          let both = and_both (does_say y says.resv) (does_take u y says.resv (slice_get u.nodes 0)) (fine y (message.Resv says.resv) i says.spelt) in
          kept_told (u.clock + lifetime (config_in 7500 u 0) says.resv.period) (then_kept u y says.resv f) (ap (does_take u y says.resv) (sym there) ∙ both.1);
      asks = λ f there. some_ask (ask_of Wild (toward (config_in 7500 u 1) f (lane_of pair_net back))) (ap (does_ask u) (sym there) ∙ two.0);
      known = λ f there x h. (part_at_most_told asked (record { senders = named_as Wild (known f session); flow = usual }) (ap does_know (sym there) ∙ two.1)).names x h;
    }

-- ---- all together
bounds : AreBounds 7500 asking_world
bounds =
    each_step_keeps_a_world_within_bounds 7500 (step 7500 (Delivers 0) sending_world) (At 1 (WantAs session Wild empty usual false))
    (tt, record { rate = omega arith; depth = omega arith; low = omega arith; most = omega arith })
    (each_step_keeps_a_world_within_bounds 7500 sending_world (Delivers 0) tt a_pair_stays_within_bounds.bounds)

pub a_pair_says_a_reservation : SaysAReservation
a_pair_says_a_reservation = record {
  bounds = bounds;
  there = inl refl;
  rounds = calm_rounds 7500 2 asking_world;
  said = hold_map (machine 7500) (Passes 7500 is_said) (IsSaid 7500 pair_net back asked asking_world.made) (said_told asking_world.made) 0 (rounds_of 7500 2 asking_world) asking_world
      (through 7500 is_said (rounds_of 7500 2 asking_world) asking_world refl);
  not_yet = λ s. let none : None ≡ Some (asked, s.0) = s.1 in absurd (cc);
}
