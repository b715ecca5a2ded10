-- A fact that is to be left over: what the tests of a table say of the limits and of admission.
use Rattle.std.specs.Prelude.{◌≡◌, ℕ, ◌+◌, ◌-◌, List, ◌≤◌, ◌<◌, nat_lt, Bool, true, false, cond, is_some, not, Option, None, Some, slice_get, option_and_then, refl}
use Rattle.std.specs.Option.{option_map}
use Rattle.std.specs.Ordering.{eq_by_cmp}
use Rattle.std.proofs.Common.{sym, ap, subst, ◌∙◌, arith}
use Rattle.std.proofs.lemmas.Bool.{false≢true}
use Rattle.std.proofs.lemmas.Bool.Decides.{nat_tests}
use Rattle.admission_book.specs.Charges.{refusal_beside}
use Rattle.admission_book.specs.declared.refused.Refused.{Refused}
use Rattle.admission_book.specs.declared.refused.Refused.TheVariants.{Mtu, Rate}
use Rattle.rsvp_base.specs.declared.entry_key.EntryKey.{EntryKey}
use Rattle.rsvp_base.specs.declared.iface.Iface.{Iface}
use Rattle.rsvp_base.specs.declared.part.Part.{Part}
use Rattle.rsvp_base.specs.declared.style.StyleKind.{StyleKind}
use Rattle.rsvp_base.specs.declared.style.StyleKind.TheVariants.{Wild, Fixed, Shared}
use Rattle.rsvp_base.specs.Orders.{entry_keys, senders}
use Rattle.rsvp_base.specs.SessionLimits.{IsWithinSessionLimits, has_room_at}
use Rattle.rsvp_base.specs.Table.{changed, get, put_in, size, without}
use Rattle.rsvp_base.proofs.Changed.{changed_put, has_changed}
use Rattle.rsvp_base.proofs.SessionRoom.{put_room}
use Rattle.rsvp_base.proofs.Sizes.{size_same}
use Rattle.rsvp_base.proofs.Sums.{number_of, sum-without}
use Rattle.rsvp_base.proofs.Counts.{sum_below}
use Rattle.rsvp_base.proofs.Tables.{get-without, tied_self}
use Rattle.style_rules.specs.Limits.{IsWithinLimits}
use Rattle.style_rules.specs.Lines.{BookTable, LineKey, held}
use Rattle.style_rules.specs.PartLaws.{charge_below}
use Rattle.style_rules.specs.Parts.{part_charge}
use Rattle.style_rules.specs.Targets.{wall_keys}
use Rattle.style_rules.specs.declared.target.Target.{Target}
use Rattle.style_rules.specs.declared.wall.Wall.{Wall}
use Rattle.style_rules.proofs.Room.{within_tested}
use Rattle.path_state.specs.Paths.{PathMap, path_keys}
use Rattle.path_state.specs.declared.fact.PathFact.{PathFact}
use Rattle.blockade_state.specs.Blockades.{WallMap}
use Rattle.rsvp_base.specs.declared.session.Session.{Session}
use Rattle.resv_admission.specs.RouterState.State.{path_at, wall_at}
use Rattle.resv_admission.proofs.RouterState.Room.{room_same}
use Rattle.router_rules.specs.Books.{book, fits, lines_of, refused}
use Rattle.router_rules.specs.Bounds.{AreBooked, AreWithinLimits}
use Rattle.router_rules.specs.Calls.{entry_of, needs, stale_refusal, with_left}
use Rattle.router_rules.specs.Facts.{Facts, PathState, Paths, ResvState, ResvTables, Resvs, Walls, resvs_of, table_of, with_resvs, with_table}
use Rattle.router_rules.specs.Inputs.{StaleResv}
use Rattle.router_rules.specs.NodeConfig.{NodeConfig}
use Rattle.router_rules.specs.declared.answers.StaleErr.TheVariants as stale
use Rattle.laws_bounds.proofs.Putting.{other_entries, put_booked, put_limits}
use Rattle.resv_admission.proofs.Leaving.{table_put}
use Rattle.stale_state.specs.Kept.{stale_of}
use Rattle.stale_state.specs.Standing.{Stands, excess_of}
use Rattle.stale_state.specs.Tables.{learnt, paths_of, walls_of}
use Rattle.stale_state.specs.declared.fact.Left.TheVariants as left_as
use Rattle.network_model.specs.Excesses.{excess_on}
use Rattle.network_model.specs.declared.excess.Excess.{Excess}
use Rattle.network_model.specs.declared.excess.Excess.TheVariants as excess

pub zero_more : (n : ℕ) → 0 + n ≡ n
zero_more n = omega arith

-- ---- paths
module _ (t : PathMap) (r : ResvTables) (w : Walls) (fact : PathFact) (left : ℕ) where
  abbrev before_path : Facts
  before_path = learnt (paths_of (Some t)) r w

  abbrev more_paths : PathMap
  more_paths = record t { facts = put_in t.facts (fact.session, fact.sender) (fact, left) }

  abbrev state : PathState
  state = record { iface = fact.iface; hop = fact.hop; tspec = fact.tspec; police = fact.police; adspec = fact.adspec; dies = left }

  path_put : paths_of (Some more_paths) ≡ put_in (paths_of (Some t)) (fact.session, fact.sender) state
  path_put = changed_put path_keys (path_at 0) t.facts (fact.session, fact.sender) (fact, left) state (ap (λ (n : ℕ). Some (record state { dies = n })) (zero_more left))

  same_room : has_room_at senders (put_in (paths_of (Some t)) (fact.session, fact.sender) state) fact.session ≡ has_room_at senders more_paths.facts fact.session
  same_room =
      ap (λ (p : Paths). has_room_at senders p fact.session) (sym path_put)
      ∙ room_same senders (changed (path_at 0) more_paths.facts) more_paths.facts (has_changed path_keys (path_at 0) (λ k v. refl) more_paths.facts) fact.session

  pub path_stands : AreWithinLimits before_path → has_room_at senders more_paths.facts fact.session ≡ true → (is : List Iface)
      → Stands is (stale_of (left_as.Path fact) left) before_path (learnt (paths_of (Some more_paths)) r w)
  path_stands limits room is = record {
    facts = ap (λ (p : Paths). learnt p r w) path_put;
    limits = record {
      senders = limits.senders;
      wants = limits.wants;
      paths = subst (λ (p : Paths). IsWithinSessionLimits senders p) (sym path_put) ((put_room senders (paths_of (Some t)) (fact.session, fact.sender) state limits.paths).0 (same_room ∙ room));
      resvs = limits.resvs;
      walls = limits.walls;
    };
    admitted = tt;
  }

  pub path_full : AreWithinLimits before_path → has_room_at senders more_paths.facts fact.session ≡ false → AreWithinLimits (with_left (stale_of (left_as.Path fact) left) before_path) → ⊥
  path_full limits full more =
      let room = (put_room senders (paths_of (Some t)) (fact.session, fact.sender) state limits.paths).1 more.paths in
      false≢true (sym (same_room ∙ full) ∙ room)

-- ---- blockades
module _ (p : Paths) (r : ResvTables) (t : WallMap) (s : Session) (at : Target) (wall : Wall) (left : ℕ) where
  abbrev before_wall : Facts
  before_wall = learnt p r (walls_of (Some t))

  abbrev more_walls : WallMap
  more_walls = put_in t (s, at) (wall, left)

  wall_put : walls_of (Some more_walls) ≡ put_in (walls_of (Some t)) (s, at) (record { wall = wall; dies = left })
  wall_put = changed_put wall_keys (wall_at 0) t (s, at) (wall, left) (record { wall = wall; dies = left }) (ap (λ (n : ℕ). Some (record { wall = wall; dies = n })) (zero_more left))

  as_many : size (walls_of (Some more_walls)) ≡ size more_walls
  as_many = size_same wall_keys (changed (wall_at 0) more_walls) more_walls (has_changed wall_keys (wall_at 0) (λ k v. refl) more_walls)

  pub wall_stands : AreWithinLimits before_wall → size more_walls ≤ 512 → (is : List Iface) → Stands is (stale_of (left_as.Wall s at wall) left) before_wall (learnt p r (walls_of (Some more_walls)))
  wall_stands limits few is = record {
    facts = ap (λ (x : Walls). learnt p r x) wall_put;
    limits = record { senders = limits.senders; wants = limits.wants; paths = limits.paths; resvs = limits.resvs; walls = omega (arith, as_many, few) };
    admitted = tt;
  }

  pub wall_full : 512 < size more_walls → AreWithinLimits (with_left (stale_of (left_as.Wall s at wall) left) before_wall) → ⊥
  wall_full many more = let few = more.walls in let same = ap size wall_put in omega (arith, as_many, many, few, same)

-- ---- reservations
-- an interface that has what all of its entries ask for refuses none
module _ (p : NodeConfig) (f : Facts) (i : ℕ) (k : EntryKey) (booked : AreBooked p f) where
  abbrev at : BookTable
  at = book f i

  none_refused : (on : Iface) → slice_get p.ifaces i ≡ Some on → (v : Option Part) → get at k ≡ v → refusal_beside on (held (without at k)) (option_map (λ (part : Part). part.flow) v) ≡ None
  none_refused on there None e = refl
  none_refused on there (Some y) e =
      let sums : held at ≡ held (without at k) + y.flow.r = sum-without entry_keys (λ (z : EntryKey × Part). part_charge z.1) at k
      ∙ ap (λ v. held (without at k) + number_of (λ (z : EntryKey × Part). part_charge z.1) k v) e in
      let all = booked.capacity i on there in
      let size = booked.mtu i on k y there e in
      let small : nat_lt on.mtu y.flow.most ≡ false = grind (arith, nat_tests, size) in
      let slow : nat_lt (on.capacity - held (without at k)) y.flow.r ≡ false = grind (arith, nat_tests, sums, all) in
      ap (λ (b : Bool). cond b (Some (Mtu y.flow.most on.mtu)) (cond (nat_lt (on.capacity - held (without at k)) y.flow.r) (Some (Rate y.flow.r (on.capacity - held (without at k)))) None)) small
      ∙ ap (λ (b : Bool). cond b (Some (Rate y.flow.r (on.capacity - held (without at k)))) None) slow

  pub not_refused : refused p i k (book f i) ≡ None
  not_refused = by (slice_get p.ifaces i) refl
    where
      by : (o : Option Iface) → slice_get p.ifaces i ≡ o → option_and_then (λ (on : Iface). refusal_beside on (held (without at k)) (option_map (λ (part : Part). part.flow) (get at k))) o ≡ None
      by None e = refl
      by (Some on) e = none_refused on e (get at k) refl

table_back : (st : StyleKind) (ts : ResvTables) → with_table st (table_of st ts) ts ≡ ts
table_back Wild ts = refl
table_back Fixed ts = refl
table_back Shared ts = refl

-- what the tests of the rule say
met : {E : Type 0} (test : Bool) (e : E) (later : Option E) → needs test e later ≡ None → (test ≡ true) × (later ≡ None)
met true e later open_to = (refl, open_to)
met false e later open_to = absurd (cc)

none_of : (v : Option Refused) → not (is_some v) ≡ true → v ≡ None
none_of None open_to = refl
none_of (Some why) open_to = absurd (cc)

not_full : (b : Bool) (v : Option Refused) → b ≡ true → needs b stale.Full (needs (not (is_some v)) stale.Over None) ≡ Some stale.Full → ⊥
not_full false v room why = cc
not_full true None room why = cc
not_full true (Some w) room why = cc

over_has_room : (b : Bool) (v : Option Refused) → needs b stale.Full (needs (not (is_some v)) stale.Over None) ≡ Some stale.Over → b ≡ true
over_has_room true v why = refl
over_has_room false v why = absurd (cc)

over_is_refused : (b : Bool) (v : Option Refused) → v ≡ None → needs b stale.Full (needs (not (is_some v)) stale.Over None) ≡ Some stale.Over → ⊥
over_is_refused true None none why = cc
over_is_refused false None none why = cc
over_is_refused b (Some w) none why = cc

module _ (p : NodeConfig) (st : StyleKind) (k : LineKey) (x : ResvState) (f : Facts) where
  abbrev with_it : Facts
  with_it = with_left (StaleResv st k x) f

  same_before : with_resvs st (resvs_of st f) f ≡ f
  same_before = ap (λ (ts : ResvTables). record f { resvs = ts }) (table_back st f.resvs)

  limits_with : AreWithinLimits f → fits st (put_in (resvs_of st f) k x) ≡ true → AreWithinLimits with_it
  limits_with limits room = record {
    senders = limits.senders;
    wants = limits.wants;
    paths = limits.paths;
    resvs = put_limits p st k x f (resvs_of st f) (subst (λ (g : Facts). (s : StyleKind) → IsWithinLimits s (lines_of s (resvs_of s g))) (sym same_before) limits.resvs) room;
    walls = limits.walls;
  }

  pub resv_taken : stale_refusal p (StaleResv st k x) f ≡ None → AreWithinLimits f → AreBooked p f → AreWithinLimits with_it × AreBooked p with_it
  resv_taken open_to limits booked =
      let tests = met (fits st (put_in (resvs_of st f) k x)) stale.Full _ open_to in
      let free = none_of (refused p k.1.0.0 (entry_of st k) (book with_it k.1.0.0)) (met (not (is_some (refused p k.1.0.0 (entry_of st k) (book with_it k.1.0.0)))) stale.Over None tests.1).0 in (
        limits_with limits tests.0,
        put_booked p st k x f (resvs_of st f) (subst (AreBooked p) (sym same_before) booked) free,
      )

  pub resv_full : stale_refusal p (StaleResv st k x) f ≡ Some stale.Full → AreWithinLimits with_it → ⊥
  resv_full why limits =
      let put : resvs_of st with_it ≡ put_in (resvs_of st f) k x = table_put st (put_in (resvs_of st f) k x) f.resvs in
      let room = within_tested st (lines_of st (put_in (resvs_of st f) k x)) (subst (λ (t : Resvs). IsWithinLimits st (lines_of st t)) put (limits.resvs st)) in
      not_full (fits st (put_in (resvs_of st f) k x)) (refused p k.1.0.0 (entry_of st k) (book with_it k.1.0.0)) room why

  pub resv_over : stale_refusal p (StaleResv st k x) f ≡ Some stale.Over → AreWithinLimits f → AreWithinLimits with_it × (AreBooked p with_it → ⊥)
  resv_over why limits = (
    limits_with limits (over_has_room (fits st (put_in (resvs_of st f) k x)) (refused p k.1.0.0 (entry_of st k) (book with_it k.1.0.0)) why),
    λ booked. over_is_refused (fits st (put_in (resvs_of st f) k x)) (refused p k.1.0.0 (entry_of st k) (book with_it k.1.0.0)) (not_refused p with_it k.1.0.0 (entry_of st k) booked) why,
  )

-- ---- what is refused is what the interface has too little of
same_why : (v w : Refused) → Some v ≡ Some w → v ≡ w
same_why v w e = cc

-- of an entry with this size and rate, where the others hold so much and all together so much
module _ (on : Iface) (others all size rate : ℕ) (sums : all ≡ others + rate) (less : others ≤ on.capacity) where
  abbrev refusal_by : Bool → Bool → Option Refused
  refusal_by large fast = cond large (Some (Mtu size on.mtu)) (cond fast (Some (Rate rate (on.capacity - others))) None)

  abbrev excess_by : Bool → Bool → Option Excess
  excess_by large much = cond large (Some (excess.Packet size on.mtu)) (cond much (Some (excess.Rate all on.capacity)) None)

  as_fast : nat_lt (on.capacity - others) rate ≡ nat_lt on.capacity all
  as_fast = grind (arith, nat_tests, sums, less)

  sum_is : on.capacity - (on.capacity - others) + rate ≡ all
  sum_is = omega (arith, sums, less)

  excess_is : (large fast : Bool) (why : Refused) → refusal_by large fast ≡ Some why → excess_by large fast ≡ Some (excess_of on why)
  excess_is true fast why e = ap (λ (v : Refused). Some (excess_of on v)) (same_why (Mtu size on.mtu) why e)
  excess_is false true why e = ap (λ (n : ℕ). Some (excess.Rate n on.capacity)) (sym sum_is) ∙ ap (λ (v : Refused). Some (excess_of on v)) (same_why (Rate rate (on.capacity - others)) why e)
  excess_is false false why e = absurd (cc)

  pub entry_excess : (why : Refused) → refusal_by (nat_lt on.mtu size) (nat_lt (on.capacity - others) rate) ≡ Some why
      → excess_by (nat_lt on.mtu size) (nat_lt on.capacity all) ≡ Some (excess_of on why)
  entry_excess why e = ap (excess_by (nat_lt on.mtu size)) (sym as_fast) ∙ excess_is (nat_lt on.mtu size) (nat_lt (on.capacity - others) rate) why e

module _ (p : NodeConfig) (st : StyleKind) (k : LineKey) (x : ResvState) (f : Facts) where
  abbrev more : Facts
  more = with_left (StaleResv st k x) f

  abbrev place : ℕ
  place = k.1.0.0

  abbrev own : EntryKey
  own = entry_of st k

  abbrev rest : ℕ
  rest = held (without (book more place) own)

  -- the other entries hold what they held
  rest_held : rest ≤ held (book f place)
  rest_held = sum_below entry_keys (λ e. part_charge e.1) (λ e. part_charge e.1) (without (book more place) own) (book f place) each_one
    where
      each_one : (q : EntryKey) (y : Part) → get (without (book more place) own) q ≡ Some y → (z : Part) × (get (book f place) q ≡ Some z) × (part_charge y ≤ part_charge z)
      each_one q y e = by (eq_by_cmp entry_keys.cmp own q) refl (sym (get-without entry_keys (book more place) own q) ∙ e)
        where
          by : (b : Bool) → eq_by_cmp entry_keys.cmp own q ≡ b → cond (not b) (get (book more place) q) None ≡ Some y → (z : Part) × (get (book f place) q ≡ Some z) × (part_charge y ≤ part_charge z)
          by true tie e = absurd (cc)
          by false apart e =
              let other : q ≡ own → ⊥ = λ same. let z : true ≡ false = sym (ap (eq_by_cmp entry_keys.cmp own) same ∙ tied_self entry_keys own) ∙ apart in cc in
              let z = other_entries p st k x f (resvs_of st f) place q y other e in
              (z.0, subst (λ (g : Facts). get (book g place) q ≡ Some z.0) (ap (λ (ts : ResvTables). record f { resvs = ts }) (table_back st f.resvs)) z.1, charge_below y z.0 z.2)

  -- what the book refuses is the excess of the interface
  module _ (on : Iface) (there : slice_get p.ifaces place ≡ Some on) (booked : AreBooked p f) (why : Refused) where
    by_entry : (v : Option Part) → get (book more place) own ≡ v → refusal_beside on rest (option_map (λ (part : Part). part.flow) v) ≡ Some why
        → excess_on on (held (book more place)) v ≡ Some (excess_of on why)
    by_entry None e told = absurd (cc)
    by_entry (Some y) e told =
        let sums : held (book more place) ≡ rest + y.flow.r = sum-without entry_keys (λ (z : EntryKey × Part). part_charge z.1) (book more place) own
        ∙ ap (λ v. rest + number_of (λ (z : EntryKey × Part). part_charge z.1) own v) e in
        let before = rest_held in
        let all = booked.capacity place on there in
        let less : rest ≤ on.capacity = omega (arith, before, all) in
        entry_excess on rest (held (book more place)) y.flow.most y.flow.r sums less why told

    pub resv_excess : refused p place own (book more place) ≡ Some why → option_and_then (λ (i : Iface). excess_on i (held (book more place)) (get (book more place) own)) (slice_get p.ifaces place)
        ≡ Some (excess_of on why)
    resv_excess told =
        let here = sym (ap (λ (o : Option Iface). option_and_then (λ (i : Iface). refusal_beside i rest (option_map (λ (part : Part). part.flow) (get (book more place) own))) o) there) ∙ told in
        ap (λ (o : Option Iface). option_and_then (λ (i : Iface). excess_on i (held (book more place)) (get (book more place) own)) o) there ∙ by_entry (get (book more place) own) refl here

-- other facts ask an interface for nothing
pub booked_alike : (p : NodeConfig) (f g : Facts) → f.resvs ≡ g.resvs → AreBooked p f → AreBooked p g
booked_alike p f g same booked = record {
  capacity = λ i on there. subst (λ (ts : ResvTables). held (book (record f { resvs = ts }) i) ≤ on.capacity) same (booked.capacity i on there);
  mtu = λ i on q part there at. booked.mtu i on q part there (subst (λ (ts : ResvTables). get (book (record f { resvs = ts }) i) q ≡ Some part) (sym same) at);
}
