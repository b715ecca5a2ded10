-- The path that is left over where the tree begins: a test of rounds, computed through eight of them.
use Rattle.std.proofs.Common.{◌≡◌, ℕ, List, [], ◌∷◌, length, Bool, true, false, Option, None, Some, ⊎_elim, arith, sym, refl, ap, subst, ◌∙◌}
use Rattle.std.specs.Prelude.{◌==◌, ◌&&◌, ◌||◌, is_some, nat_le, not, slice_get}
use Rattle.std.specs.List.{list_all, list_any}
use Rattle.std.specs.Option.{option_map}
use Rattle.std.specs.Ordering.{eq_by_cmp}
use Rattle.std.proofs.lemmas.Bool.{leb-true}
use Rattle.rsvp_base.specs.declared.session.Sender.{Sender}
use Rattle.rsvp_base.specs.Members.{In}
use Rattle.rsvp_base.specs.Orders.{senders}
use Rattle.rsvp_base.specs.Table.{Table, get}
use Rattle.rsvp_base.specs.TokenBucket.{TokenBucket}
use Rattle.rsvp_base.proofs.Counts.{found_in}
use Rattle.rsvp_base.proofs.Fronts.{got_in}
use Rattle.rsvp_base.proofs.Members.{all_in, in_any}
use Rattle.rsvp_base.proofs.SetLaws.{and_both}
use Rattle.rsvp_base.proofs.Tables.{tied_same}
use Rattle.rsvp_messages.specs.declared.message.Message.{Message}
use Rattle.rsvp_messages.specs.declared.message.Message.TheVariants as message
use Rattle.rsvp_messages.specs.declared.message.PathMsg.{PathMsg}
use Rattle.calm_rounds.specs.Machine.{all_arrived, all_sent, run, waits}
use Rattle.calm_rounds.specs.Rounds.{AreQuiet, Calm, Rounds, run_rounds}
use Rattle.router_rules.specs.Facts.{Facts, PathState, SenderKey, sender_keys}
use Rattle.router_rules.specs.Inputs.{Arrival, Spelt, Unspelt, Stale, StalePath}
use Rattle.router_rules.specs.NodeConfig.{is_addr, is_session}
use Rattle.router_rules.specs.Rule.{facts_with}
use Rattle.router_rules.specs.Sends.{same_flow}
use Rattle.router_rules.specs.Steps.{IsFitStale}
use Rattle.laws_bounds.proofs.Tests.{addr_told, flow_told, session_told}
use Rattle.router_examples.specs.ThreeRouters.{first, session}
use Rattle.tree_model.specs.Trees.{trees_of}
use Rattle.tree_model.proofs.Following.{same_number}
use Rattle.network_model.specs.Bounds.{AreBounds}
use Rattle.network_model.specs.Locals.{IsLive}
use Rattle.network_model.specs.Sound.{ArePathsSound}
use Rattle.network_model.specs.Steps.{Step, is_calm, machine}
use Rattle.network_model.specs.Worlds.{Item, World, config_of}
use Rattle.laws_network.specs.Example.{pair_net}
use Rattle.laws_network.proofs.Beginning.{the_first_world_is_within_bounds}
use Rattle.laws_network.proofs.Computed.{in_steps}
use Rattle.laws_network.proofs.Example.{hosts, valid}
use Rattle.laws_network.proofs.Known.{has_some, of_some}
use Rattle.network_examples.specs.TightPaths.{EightRoundsAreTooFew, eight_rounds, root_path, root_plan, root_world}

abbrev is_none : {A : Type 0} → List A → Bool
is_none [] = true
is_none (x ∷ xs) = false

none_in : {A : Type 0} (xs : List A) (x : A) → is_none xs ≡ true → In x xs → ⊥
none_in [] x t i = i
none_in (y ∷ ys) x t i = cc

-- ---- equal Paths
abbrev same_flag : Bool → Bool → Bool
same_flag true b = b
same_flag false b = not b

flag_told : (a b : Bool) → same_flag a b ≡ true → a ≡ b
flag_told true b t = sym t
flag_told false false t = refl
flag_told false true t = absurd (cc)

abbrev said_as : Sender × TokenBucket → Option (Sender × TokenBucket) → Bool
said_as x None = false
said_as x (Some y) = eq_by_cmp senders.cmp x.0 y.0 && same_flow x.1 y.1

abbrev same_said : Option (Sender × TokenBucket) → Option (Sender × TokenBucket) → Bool
same_said None o = false
same_said (Some x) o = said_as x o

said_told : (a b : Option (Sender × TokenBucket)) → same_said a b ≡ true → a ≡ b
said_told None b t = absurd (cc)
said_told (Some x) None t = absurd (cc)
said_told (Some x) (Some y) t =
    let both = and_both (eq_by_cmp senders.cmp x.0 y.0) (same_flow x.1 y.1) t in
    let who = tied_same senders x.0 y.0 both.0 in
    let flow = flow_told x.1 y.1 both.1 in
    λ i. Some (who i, flow i)

-- a value is there on neither side
abbrev are_none : {A : Type 0} → Option A → Option A → Bool
are_none None None = true
are_none _ _ = false

none_told : {A : Type 0} (a b : Option A) → are_none a b ≡ true → a ≡ b
none_told None None t = refl
none_told None (Some y) t = absurd (cc)
none_told (Some x) None t = absurd (cc)
none_told (Some x) (Some y) t = absurd (cc)

abbrev same_path : PathMsg → PathMsg → Bool
same_path m n = is_session m.session n.session && (same_flag m.police n.police && (is_addr m.hop.addr n.hop.addr
    && ((m.hop.handle == n.hop.handle) && ((m.period == n.period) && (same_said m.sender n.sender && are_none m.adspec n.adspec)))))

path_told : (m n : PathMsg) → same_path m n ≡ true → m ≡ n
path_told m n t =
    let a = and_both (is_session m.session n.session) _ t in
    let b = and_both (same_flag m.police n.police) _ a.1 in
    let c = and_both (is_addr m.hop.addr n.hop.addr) _ b.1 in
    let d = and_both (m.hop.handle == n.hop.handle) _ c.1 in
    let e = and_both (m.period == n.period) _ d.1 in
    let f = and_both (same_said m.sender n.sender) (are_none m.adspec n.adspec) e.1 in
    let of_session = session_told m.session n.session a.0 in
    let flag = flag_told m.police n.police b.0 in
    let addr = addr_told m.hop.addr n.hop.addr c.0 in
    let handle = same_number m.hop.handle n.hop.handle d.0 in
    let period = same_number m.period n.period e.0 in
    let said = said_told m.sender n.sender f.0 in
    let advert = none_told m.adspec n.adspec f.1 in
    λ i. record { session = of_session i; police = flag i; hop = record { addr = addr i; handle = handle i }; period = period i; sender = said i; adspec = advert i }

abbrev path_as : PathMsg → Message → Bool
path_as m (message.Path n) = same_path m n
path_as m _ = false

abbrev same_message : Message → Message → Bool
same_message (message.Path m) b = path_as m b
same_message _ b = false

message_told : (a b : Message) → same_message a b ≡ true → a ≡ b
message_told (message.Path m) (message.Path n) t = ap message.Path (path_told m n t)
message_told (message.Path m) (message.Resv n) t = absurd (cc)
message_told (message.Path m) (message.PathErr n) t = absurd (cc)
message_told (message.Path m) (message.ResvErr n) t = absurd (cc)
message_told (message.Path m) (message.PathTear n) t = absurd (cc)
message_told (message.Path m) (message.ResvTear n) t = absurd (cc)
message_told (message.Path m) (message.ResvConf n) t = absurd (cc)
message_told (message.Resv m) b t = absurd (cc)
message_told (message.PathErr m) b t = absurd (cc)
message_told (message.ResvErr m) b t = absurd (cc)
message_told (message.PathTear m) b t = absurd (cc)
message_told (message.ResvTear m) b t = absurd (cc)
message_told (message.ResvConf m) b t = absurd (cc)

abbrev message_as : Message → Arrival → Bool
message_as m (Spelt n) = same_message m n
message_as m (Unspelt e) = false

abbrev same_arrival : Arrival → Arrival → Bool
same_arrival (Spelt m) a = message_as m a
same_arrival (Unspelt e) a = false

arrival_told : (a b : Arrival) → same_arrival a b ≡ true → a ≡ b
arrival_told (Spelt m) (Spelt n) t = ap Spelt (message_told m n t)
arrival_told (Spelt m) (Unspelt e) t = absurd (cc)
arrival_told (Unspelt e) b t = absurd (cc)

abbrev same_item : Item → Item → Bool
same_item x y = (x.end == y.end) && (is_addr x.dst y.dst && ((x.born == y.born) && same_arrival x.arrival y.arrival))

item_told : (x y : Item) → same_item x y ≡ true → x ≡ y
item_told x y t =
    let a = and_both (x.end == y.end) _ t in
    let b = and_both (is_addr x.dst y.dst) _ a.1 in
    let c = and_both (x.born == y.born) (same_arrival x.arrival y.arrival) b.1 in
    let end = same_number x.end y.end a.0 in
    let dst = addr_told x.dst y.dst b.0 in
    let born = same_number x.born y.born c.0 in
    let arrival = arrival_told x.arrival y.arrival c.1 in
    λ i. record { end = end i; dst = dst i; arrival = arrival i; born = born i }

-- ---- rounds that are calm: each refresh that is sent is one of what arrives, and what is left in flight was sent in the round
abbrev crosses : List Item → Item × Bool → Bool
crosses arrived y = not y.1 || list_any (same_item y.0) arrived

abbrev is_calm_round : List Step → World → Bool
is_calm_round ss w =
    list_all (is_calm 7500) ss
    && (nat_le 45000 (waits (machine 7500) ss)
    && (nat_le (waits (machine 7500) ss) 75000
    && (list_all (λ (y : Item). nat_le w.made y.born) (run (machine 7500) ss w).flight
    && list_all (crosses (all_arrived (machine 7500) ss w)) (all_sent (machine 7500) ss w))))

quiet_told : (ss : List Step) → list_all (is_calm 7500) ss ≡ true → AreQuiet (machine 7500) ss
quiet_told [] t = tt
quiet_told (s ∷ ss) t = let both = and_both (is_calm 7500 s) (list_all (is_calm 7500) ss) t in (both.0, quiet_told ss both.1)

crossed_told : (sent : List (Item × Bool)) (arrived : List Item) → list_all (crosses arrived) sent ≡ true → (x : Item) → In (x, true) sent → In x arrived
crossed_told sent arrived t x i =
    let y = in_any (same_item x) arrived (all_in (crosses arrived) sent t (x, true) i) in
    subst (λ (z : Item). In z arrived) (sym (item_told x y.0 y.2)) y.1

calm_told : (ss : List Step) (w : World) → is_calm_round ss w ≡ true → Calm (machine 7500) ss w
calm_told ss w t =
    let a = and_both (list_all (is_calm 7500) ss) _ t in
    let b = and_both (nat_le 45000 (waits (machine 7500) ss)) _ a.1 in
    let c = and_both (nat_le (waits (machine 7500) ss) 75000) _ b.1 in
    let d = and_both (list_all (λ (y : Item). nat_le w.made y.born) (run (machine 7500) ss w).flight) (list_all (crosses (all_arrived (machine 7500) ss w)) (all_sent (machine 7500) ss w)) c.1 in
    let long = leb-true 45000 (waits (machine 7500) ss) b.0 in
    let short = leb-true (waits (machine 7500) ss) 75000 c.0 in
    record {
      silent = quiet_told ss a.0;
      long = omega arith;
      short = omega arith;
      flushed = λ x i. leb-true w.made x.born (all_in (λ (y : Item). nat_le w.made y.born) (run (machine 7500) ss w).flight d.0 x i);
      crossed = λ x k i e on. (x, i, refl, crossed_told (all_sent (machine 7500) ss w) (all_arrived (machine 7500) ss w) d.1 x i);
    }

-- ---- the start
fit_path : IsFitStale (config_of 7500 pair_net (trees_of pair_net.hops) 0) 0 (StalePath (session, first) root_path)
fit_path = (
  record { later = omega arith; soon = omega arith },
  record { iface = omega arith; tspec = record { rate = omega arith; depth = omega arith; low = omega arith; most = omega arith }; adspec = tt },
)

bounds : AreBounds 7500 root_world
bounds =
    the_first_world_is_within_bounds root_plan
    (record {
      period = omega arith;
      net = valid;
      hosts = hosts;
      stale = λ n i lt j.
          ⊎_elim
          (λ (same : (n, i) ≡ (0, StalePath (session, first) root_path)). subst (λ (z : ℕ × Stale). IsFitStale (config_of 7500 pair_net (trees_of pair_net.hops) z.0) 0 z.1) (sym same) fit_path)
          (λ (no : ⊥). absurd no) j;
    })

-- ---- what is computed: in each world the facts and what is in flight, so that none is computed twice; then the round
abbrev is_known_path : SenderKey × PathState → Bool
is_known_path e = nat_le e.1.dies 1000000

abbrev is_known_node : Facts → Bool
is_known_node f = list_all is_known_path f.paths.rows && nat_le (length f.due.rows) 1000

abbrev is_known_item : Item → Bool
is_known_item y = nat_le y.born 1000

abbrev is_known : World → Bool
is_known u = list_all is_known_node u.nodes && list_all is_known_item u.flight

-- ---- at the end the second node has the path, and nobody sends
abbrev has_no_sender : Facts → Bool
has_no_sender f = is_none f.senders.rows

sender_of : (o : Option Facts) (m : Table sender_keys TokenBucket) → option_map (λ (f : Facts). f.senders) o ≡ Some m → (f : Facts) × (o ≡ Some f) × (f.senders ≡ m)
sender_of None m e = absurd (cc)
sender_of (Some f) m e = (f, refl, of_some f.senders m e)

nobody : (u : World) → list_all has_no_sender u.nodes ≡ true → (k : SenderKey) (t : TokenBucket) → IsLive u k t → ⊥
nobody u none k t l =
    let f = sender_of (slice_get u.nodes l.node) l.senders l.at in
    let empty = all_in has_no_sender u.nodes none f.0 (got_in u.nodes l.node f.0 f.1) in
    none_in f.0.senders.rows (k, t) empty (found_in sender_keys f.0.senders k t (ap (λ (z : Table sender_keys TokenBucket). get z k) f.2 ∙ l.sends))

abbrev has_path : Option Facts → Bool
has_path None = false
has_path (Some f) = is_some (get f.paths (session, first))

path_of : (o : Option Facts) → has_path o ≡ true → (f : Facts) × (o ≡ Some f) × (x : PathState) × (get f.paths (session, first) ≡ Some x)
path_of None t = absurd (cc)
path_of (Some f) t = let x = has_some (get f.paths (session, first)) t in (f, refl, x.0, x.1)

unsound : (u : World) → list_all has_no_sender u.nodes ≡ true → has_path (slice_get u.nodes 1) ≡ true → ArePathsSound u → ⊥
unsound u none there sound =
    let r = path_of (slice_get u.nodes 1) there in
    nobody u none (session, first) r.2.tspec (sound.facts 1 r.0 (session, first) r.2 r.1 r.3).sound.live

abbrev is_left : World → Bool
is_left u = list_all has_no_sender u.nodes && has_path (slice_get u.nodes 1)

abbrev are_calm : List (List Step) → World → Bool
are_calm [] w = is_left w
are_calm (r ∷ rs) w = in_steps 7500 is_known r w && (is_calm_round r w && are_calm rs (run (machine 7500) r w))

rounds_told : (rs : List (List Step)) (w : World) → are_calm rs w ≡ true → Rounds (machine 7500) rs w × (is_left (run_rounds (machine 7500) rs w) ≡ true)
rounds_told [] w t = (tt, t)
rounds_told (r ∷ rs) w t =
    let a = and_both (in_steps 7500 is_known r w) _ t in
    let b = and_both (is_calm_round r w) (are_calm rs (run (machine 7500) r w)) a.1 in
    let rest = rounds_told rs (run (machine 7500) r w) b.1 in
    ((calm_told r w b.0, rest.0), rest.1)

computed : are_calm eight_rounds root_world ≡ true
unfolding facts_with
computed = refl

abbrev at_end : World
at_end = run_rounds (machine 7500) eight_rounds root_world

pub eight_rounds_are_too_few : EightRoundsAreTooFew
eight_rounds_are_too_few =
    let told = rounds_told eight_rounds root_world computed in
    let both = and_both (list_all has_no_sender at_end.nodes) (has_path (slice_get at_end.nodes 1)) told.1 in
    record { bounds = bounds; one_hop = refl; rounds = told.0; number = refl; still = unsound at_end both.0 both.1 }
