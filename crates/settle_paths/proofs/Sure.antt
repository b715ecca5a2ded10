-- The small network is sure of its paths: a test of worlds, computed in each that is visited.
use Rattle.std.proofs.Common.{◌≡◌, ◌≤◌, ℕ, zero, suc, List, Bool, true, false, Option, None, Some, inl, arith, sym, refl, ap, subst, ◌∙◌}
use Rattle.std.specs.Prelude.{slice_get, ◌==◌, ◌&&◌}
use Rattle.std.specs.List.{list_all}
use Rattle.std.specs.Ordering.{eq_by_cmp}
use Rattle.std.proofs.lemmas.Option.{slice_get_within}
use Rattle.rsvp_base.specs.declared.addr.Addr.{Addr}
use Rattle.rsvp_base.specs.declared.session.Sender.{Sender}
use Rattle.rsvp_base.specs.Members.{In}
use Rattle.rsvp_base.specs.Table.{get}
use Rattle.rsvp_base.specs.TokenBucket.{TokenBucket}
use Rattle.rsvp_base.proofs.Counts.{found_in}
use Rattle.rsvp_base.proofs.Members.{all_in}
use Rattle.rsvp_base.proofs.SetLaws.{and_both}
use Rattle.rsvp_base.proofs.Tables.{tied_same}
use Rattle.rsvp_messages.specs.declared.message.Message.{Message}
use Rattle.rsvp_messages.specs.declared.message.Message.TheVariants as message
use Rattle.rsvp_messages.specs.declared.message.PathMsg.{PathMsg}
use Rattle.calm_rounds.specs.Hold.{Hold}
use Rattle.calm_rounds.specs.Rounds.{Rounds}
use Rattle.calm_rounds.proofs.Holding.{hold_both, hold_map}
use Rattle.router_rules.specs.Facts.{Facts, SenderKey, PathState, sender_keys}
use Rattle.router_rules.specs.Inputs.{Arrival, Spelt, Unspelt}
use Rattle.network_model.specs.ThreeRouters.{s1, group, session, first, usual}
use Rattle.router_rules.specs.NodeConfig.{is_addr}
use Rattle.router_rules.specs.Sends.{same_flow}
use Rattle.laws_bounds.proofs.Tests.{addr_told, flow_told}
use Rattle.tree_model.specs.Networks.{Net, node_of, end_at}
use Rattle.tree_model.specs.Trees.{depth}
use Rattle.tree_model.proofs.Depths.{depth_and_rank_within_longest}
use Rattle.tree_model.proofs.Following.{same_number}
use Rattle.network_model.specs.Sound.{IsSoundAt, IsSoundPath, ArePathsSound}
use Rattle.network_model.specs.Steps.{Step, machine}
use Rattle.network_model.specs.Worlds.{Item, World}
use Rattle.laws_network.specs.Example.{pair_net, sending_world}
use Rattle.laws_network.specs.Known.{IsKnown}
use Rattle.laws_network.specs.Rounds.{rounds_of}
use Rattle.settle_paths.specs.Telling.{IsSure}
use Rattle.laws_network.proofs.Calming.{calm_rounds}
use Rattle.settle_paths.proofs.Example.{a_pair_meets_the_premises}
use Rattle.laws_network.proofs.Keeping.{calm_rounds_keep_bounds}
use Rattle.laws_network.proofs.Known.{known_hold}
use Rattle.settle_paths.proofs.CompletePaths.{said_hold}
use Rattle.settle_paths.proofs.SoundPaths.{sound_again}
use Rattle.settle_paths.specs.Sure.{forth, IsSureOfPaths}
use Rattle.laws_network.proofs.Computed.{Passes, in_rounds, through}

abbrev key : SenderKey
key = (session, first)

-- ---- tests
abbrev is_right : SenderKey → Addr → TokenBucket → Bool
is_right k a t = eq_by_cmp sender_keys.cmp k key && (is_addr a s1 && same_flow t usual)

abbrev is_right_path : SenderKey × PathState → Bool
is_right_path e = (e.1.iface == 0) && is_right e.0 e.1.hop.addr e.1.tspec

-- the sender's node has no path, and the other one that of the sender alone
abbrev are_right_paths : ℕ → Option Facts → Bool
are_right_paths n None = true
are_right_paths zero (Some f) = list_all (λ (e : SenderKey × PathState). false) f.paths.rows
are_right_paths (suc n) (Some f) = list_all is_right_path f.paths.rows

abbrev is_right_sender : PathMsg → Option (Sender × TokenBucket) → Bool
is_right_sender m None = false
is_right_sender m (Some x) = is_right (m.session, x.0) m.hop.addr x.1

abbrev is_right_message : ℕ → Message → Bool
is_right_message e (message.Path m) = (e == 1) && is_right_sender m m.sender
is_right_message e _ = true

abbrev is_right_arrival : ℕ → Arrival → Bool
is_right_arrival e (Spelt m) = is_right_message e m
is_right_arrival e (Unspelt x) = true

abbrev is_right_item : Item → Bool
is_right_item y = is_right_arrival y.end y.arrival

abbrev is_sure : World → Bool
is_sure u = list_all is_right_item u.flight && (are_right_paths 0 (slice_get u.nodes 0) && are_right_paths 1 (slice_get u.nodes 1))

-- ---- what they tell
right_told : (k : SenderKey) (a : Addr) (t : TokenBucket) → is_right k a t ≡ true → IsSoundAt sending_world k 1 (a, t)
right_told k a t h =
    let x = and_both (eq_by_cmp sender_keys.cmp k key) (is_addr a s1 && same_flow t usual) h in
    let y = and_both (is_addr a s1) (same_flow t usual) x.1 in
    let same : k ≡ key = tied_same sender_keys k key x.0 in
    let flow : t ≡ usual = flow_told t usual y.1 in
    let sound : IsSoundAt sending_world key 1 (s1, usual) = record { hop = forth; there = inl refl; to = refl; from = refl; live = a_pair_meets_the_premises.live } in
    let addr : a ≡ s1 = addr_told a s1 y.0 in
    subst (λ (z : SenderKey × (Addr × TokenBucket)). IsSoundAt sending_world z.0 1 z.1) (λ i. (sym same i, (sym addr i, sym flow i))) sound

module _ (u : World) (a : IsKnown 7500 sending_world u) (items : list_all is_right_item u.flight ≡ true) (at_0 : are_right_paths 0 (slice_get u.nodes 0) ≡ true)
    (at_1 : are_right_paths 1 (slice_get u.nodes 1) ≡ true) where
  item_told : (y : Item) (m : PathMsg) → In y u.flight → y.arrival ≡ Spelt (message.Path m) → (y.end ≡ 1) × (is_right_sender m m.sender ≡ true)
  item_told y m i spelt =
      let both = and_both (y.end == 1) (is_right_sender m m.sender) (ap (is_right_arrival y.end) (sym spelt) ∙ all_in is_right_item u.flight items y i) in
      (same_number y.end 1 both.0, both.1)

  no_more : (n : ℕ) (f : Facts) → slice_get u.nodes (suc (suc n)) ≡ Some f → ⊥
  no_more n f there =
      let lt = slice_get_within u.nodes (suc (suc n)) f there in
      let many = a.bounds.nodes in
      let same : u.net.nodes ≡ 2 = ap (λ (z : Net). z.nodes) a.same.net in
      omega arith

  fact_told : (n : ℕ) (f : Facts) (k : SenderKey) (x : PathState) → slice_get u.nodes n ≡ Some f → get f.paths k ≡ Some x → IsSoundPath u n k x
  fact_told zero f k x there h =
      let no : false ≡ true = all_in (λ (e : SenderKey × PathState). false) f.paths.rows (ap (are_right_paths 0) (sym there) ∙ at_0) (k, x) (found_in sender_keys f.paths k x h) in
      absurd (cc)
  fact_told (suc zero) f k x there h =
      let right = all_in is_right_path f.paths.rows (ap (are_right_paths 1) (sym there) ∙ at_1) (k, x) (found_in sender_keys f.paths k x h) in
      let both = and_both (x.iface == 0) (is_right k x.hop.addr x.tspec) right in
      record {
        end = 1;
        at = ap (end_at u.net.ends 1) (same_number x.iface 0 both.0) ∙ ap (λ (z : Net). end_at z.ends 1 0) a.same.net;
        sound = sound_again sending_world u k 1 (x.hop.addr, x.tspec) a.same (right_told k x.hop.addr x.tspec both.1);
      }
  fact_told (suc (suc n)) f k x there h = absurd (no_more n f there)

  sound_told : ArePathsSound u
  sound_told = record {
    facts = fact_told;
    items = λ y m x t i spelt sender way.
        let r = item_told y m i spelt in
        subst (λ (z : ℕ). IsSoundAt u (m.session, x) z (m.hop.addr, t)) (sym r.0)
        (sound_again sending_world u (m.session, x) 1 (m.hop.addr, t) a.same (right_told (m.session, x) m.hop.addr t (ap (is_right_sender m) (sym sender) ∙ r.1)));
    named = λ y m i spelt none. let no : false ≡ true = ap (is_right_sender m) (sym none) ∙ (item_told y m i spelt).1 in absurd (cc);
  }

sure_told : (u : World) → IsKnown 7500 sending_world u → is_sure u ≡ true → IsSure 7500 sending_world 0 u
sure_told u a t =
    let x = and_both (list_all is_right_item u.flight) (are_right_paths 0 (slice_get u.nodes 0) && are_right_paths 1 (slice_get u.nodes 1)) t in
    let y = and_both (are_right_paths 0 (slice_get u.nodes 0)) (are_right_paths 1 (slice_get u.nodes 1)) x.1 in
    record {
      known = a;
      sound = sound_told u a x.0 y.0 y.1;
      -- no hop goes to a root
      complete = λ k t h live there le. let along = (depth_and_rank_within_longest pair_net a_pair_meets_the_premises.bounds.net).along k.0.group k.1.addr h there in absurd (omega arith);
    }

-- ---- all together
sure_all : (rs : List (List Step)) → Rounds (machine 7500) rs sending_world → in_rounds 7500 is_sure rs sending_world ≡ true → Hold (machine 7500) 0 rs sending_world (IsSure 7500 sending_world 0)
sure_all rs calm t =
    hold_map (machine 7500) (λ u. IsKnown 7500 sending_world u × (is_sure u ≡ true)) (IsSure 7500 sending_world 0) (λ u g. sure_told u g.0 g.1) 0 rs sending_world
    (hold_both (machine 7500) (IsKnown 7500 sending_world) (Passes 7500 is_sure) 0 rs sending_world
    (known_hold 7500 sending_world rs calm (calm_rounds_keep_bounds 7500 sending_world rs calm a_pair_meets_the_premises.bounds)) (through 7500 is_sure rs sending_world t))

sure : Hold (machine 7500) 0 (rounds_of 7500 2 sending_world) sending_world (IsSure 7500 sending_world 0)
sure = sure_all (rounds_of 7500 2 sending_world) (calm_rounds 7500 2 sending_world) refl

deep : depth pair_net group s1 (node_of pair_net.ends 1) ≤ 1
deep = let d : depth pair_net group s1 (node_of pair_net.ends 1) ≡ 1 = refl in omega arith

pub a_pair_is_sure : IsSureOfPaths
a_pair_is_sure = record {
  locals = a_pair_meets_the_premises.locals;
  live = a_pair_meets_the_premises.live;
  there = inl refl;
  deep = deep;
  rounds = calm_rounds 7500 2 sending_world;
  sure = sure;
  said = said_hold 7500 sending_world a_pair_meets_the_premises.bounds.net a_pair_meets_the_premises.locals 0 key usual forth a_pair_meets_the_premises.live (inl refl) deep
      (rounds_of 7500 2 sending_world) sending_world (calm_rounds 7500 2 sending_world) sure;
  not_yet = λ s. let none : None ≡ Some ((s1, usual), s.0) = s.1 in absurd (cc);
}
