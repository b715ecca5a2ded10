-- What dies in a wait.
use Rattle.std.specs.Prelude.{◌≡◌, ℕ, ◌-◌, ◌≤◌, nat_le, Bool, true, false, cond, is_some, List, ◌++◌, Option, Some, None, refl}
use Rattle.std.specs.Option.{option_map}
use Rattle.std.proofs.Common.{ap, ◌∙◌}
use Rattle.std.proofs.lemmas.Bool.{le-leb}
use Rattle.path_state.specs.Paths.{path_keys, later as later_path}
use Rattle.path_state.specs.declared.fact.PathFact.{PathFact}
use Rattle.resv_state.specs.Resvs.{ResvFacts, dead_after}
use Rattle.resv_state.specs.declared.fact.ResvFact.{ResvFact}
use Rattle.blockade_state.specs.Touched.{dying, dead_after as wall_dead}
use Rattle.rsvp_base.specs.Members.{In}
use Rattle.rsvp_base.specs.Table.{changed, get, has, keys}
use Rattle.rsvp_base.specs.TokenBucket.{TokenBucket}
use Rattle.rsvp_base.specs.declared.session.Session.{Session}
use Rattle.rsvp_base.specs.declared.style.StyleKind.{StyleKind}
use Rattle.rsvp_base.specs.declared.style.StyleKind.TheVariants.{Wild, Fixed, Shared}
use Rattle.rsvp_base.proofs.Counts.{found_in}
use Rattle.rsvp_base.proofs.Members.{in_left, in_right, to_each}
use Rattle.rsvp_base.proofs.Tables.{get-changed, got_changed, then_do}
use Rattle.style_rules.specs.Lines.{LineKey, line_keys}
use Rattle.style_rules.specs.Targets.{WallKey, wall_keys}
use Rattle.style_rules.specs.Toward.{or_else}
use Rattle.style_rules.specs.declared.wall.Wall.{Wall}
use Rattle.laws_bounds.proofs.Lists.{some_is}
use Rattle.router_rules.specs.Facts.{PathState, SenderKey}
use Rattle.router_rules.specs.Offers.{Offer, own_offer, path_offer}
use Rattle.router_state.specs.State.{Said, State, facts_of, path_at, table_in}
use Rattle.laws_sends.specs.Told.{offered}
use Rattle.router_aging.specs.Passing.{dies_in, dying_paths, sessions_at}
use Rattle.router_aging.specs.Passed.{dying_in}
use Rattle.router_state.specs.Whole.{state_of}
use Rattle.router_state.specs.declared.tables.Tables.{Tables}
use Rattle.router_aging.specs.Steps.{all_dying}
use Rattle.router_rounds.specs.Passing.{AllDyingAreThere, DeadAreGone, passed}

module _ (ms : ℕ) (n : State) (k : SenderKey) (dies : has (dying_paths ms n.paths) k ≡ true) where
  was : (e : PathFact × ℕ) × (get n.paths k ≡ Some e) × (nat_le e.1 ms ≡ true)
  was =
      let v = some_is (get (dying_paths ms n.paths) k) dies in
      let g = got_changed path_keys (dies_in ms) n.paths k v.0 v.1 in
      (g.0, g.1, by (nat_le g.0.1 ms) v.0 g.2)
    where
      by : (b : Bool) (u : Unit {0}) → cond b (Some tt) None ≡ Some u → b ≡ true
      by true u e = refl
      by false u e = cc

  offered_then : (c : ℕ) → is_some (offered (facts_of c n) k) ≡ true
  offered_then c = by (get n.senders k) (get (facts_of c n).paths k) (ap is_some there)
    where
      there : get (facts_of c n).paths k ≡ then_do (Some was.0) (path_at c k)
      there = get-changed path_keys (path_at c) n.paths k ∙ ap (λ w. then_do w (path_at c k)) was.1

      by : (v : Option TokenBucket) (w : Option PathState) → is_some w ≡ true
          → is_some (or_else {X = Offer} (option_map (own_offer (has n.advertised k)) v) (option_map path_offer w)) ≡ true
      by (Some t) w e = refl
      by None (Some x) e = refl
      by None None e = cc

  gone_now : (word c : ℕ) → get (facts_of c (passed ms word n)).paths k ≡ None
  gone_now word c =
      let e = was.0 in
      let later : get (passed ms word n).paths k ≡ None = get-changed path_keys (later_path ms) n.paths k ∙ ap (λ w. then_do w (later_path ms k)) was.1
      ∙ ap (λ b. cond b None (Some (e.0, e.1 - ms))) was.2 in
      get-changed path_keys (path_at c) (passed ms word n).paths k ∙ ap (λ w. then_do w (path_at c k)) later

pub dead_are_gone : DeadAreGone
dead_are_gone = record { were = λ ms n c k dies. offered_then ms n k dies c; gone = λ ms word n c k dies. gone_now ms n k dies word c }

-- ---- sessions of which something dies
module _ (ms : ℕ) where
  of_resvs : (m : ResvFacts) (k : LineKey) (e : ResvFact × ℕ) → get m k ≡ Some e → e.1 ≤ ms → In k.0 (dying_in ms m)
  of_resvs m k e there le =
      to_each (λ (r : LineKey × ResvFact). r.0.0) (k, e.0) (changed (dead_after ms) m).rows
      (found_in line_keys (changed (dead_after ms) m) k e.0 (get-changed line_keys (dead_after ms) m k ∙ ap (λ w. then_do w (dead_after ms k)) there
      ∙ ap (λ b. cond b (Some e.0) None) (le-leb e.1 ms le)))

  module _ (t : Tables) (said : Said) where
    abbrev rest : List Session
    rest = dying_in ms t.wild.facts ++ (dying_in ms t.fixed.facts ++ (dying_in ms t.shared.facts ++ sessions_at (dying_paths ms t.paths.facts)))

    of_walls : (k : WallKey) (e : Wall × ℕ) → get t.walls k ≡ Some e → e.1 ≤ ms → In k.0 (all_dying ms t)
    of_walls k e there le =
        let m = changed {o = wall_keys} (wall_dead ms) t.walls in
        let row = found_in wall_keys m k e.0 (get-changed wall_keys (wall_dead ms) t.walls k ∙ ap (λ w. then_do w (wall_dead ms k)) there ∙ ap (λ b. cond b (Some e.0) None) (le-leb e.1 ms le)) in
        in_left k.0 (dying ms t.walls) rest (to_each (λ (q : WallKey). q.0) k (keys m) (to_each (λ (r : WallKey × Wall). r.0) (k, e.0) m.rows row))

    of_paths : (k : SenderKey) (e : PathFact × ℕ) → get t.paths.facts k ≡ Some e → e.1 ≤ ms → In k.0 (all_dying ms t)
    of_paths k e there le =
        let m = dying_paths ms t.paths.facts in
        let row = found_in path_keys m k tt (get-changed path_keys (dies_in ms) t.paths.facts k ∙ ap (λ w. then_do w (dies_in ms k)) there ∙ ap (λ b. cond b (Some tt) None) (le-leb e.1 ms le)) in
        in_right k.0 (dying ms t.walls) rest
        (in_right k.0 (dying_in ms t.wild.facts) (dying_in ms t.fixed.facts ++ (dying_in ms t.shared.facts ++ sessions_at m))
        (in_right k.0 (dying_in ms t.fixed.facts) (dying_in ms t.shared.facts ++ sessions_at m)
        (in_right k.0 (dying_in ms t.shared.facts) (sessions_at m) (to_each (λ (r : SenderKey × Unit {0}). r.0.0) (k, tt) m.rows row))))

    of_style : (st : StyleKind) (k : LineKey) (e : ResvFact × ℕ) → get (table_in st (state_of t said)) k ≡ Some e → e.1 ≤ ms → In k.0 (all_dying ms t)
    of_style Wild k e there le = in_right k.0 (dying ms t.walls) rest (in_left k.0 (dying_in ms t.wild.facts) _ (of_resvs t.wild.facts k e there le))
    of_style Fixed k e there le =
        in_right k.0 (dying ms t.walls) rest (in_right k.0 (dying_in ms t.wild.facts) _ (in_left k.0 (dying_in ms t.fixed.facts) _ (of_resvs t.fixed.facts k e there le)))
    of_style Shared k e there le =
        in_right k.0 (dying ms t.walls) rest
        (in_right k.0 (dying_in ms t.wild.facts) _ (in_right k.0 (dying_in ms t.fixed.facts) _ (in_left k.0 (dying_in ms t.shared.facts) _ (of_resvs t.shared.facts k e there le))))

pub all_dying_are_there : AllDyingAreThere
all_dying_are_there ms t said = record { paths = of_paths ms t said; resvs = of_style ms t said; walls = of_walls ms t said }
