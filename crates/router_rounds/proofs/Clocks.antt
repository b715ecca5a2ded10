-- Toward a hop goes the same at each clock.
use Rattle.std.specs.Prelude.{◌≡◌, ℕ, ◌+◌, true, Option, Some, None, refl}
use Rattle.std.specs.Option.{option_map}
use Rattle.std.proofs.Common.{sym, ap, ◌∙◌}
use Rattle.std.proofs.lemmas.Option.{same_Some}
use Rattle.path_state.specs.Paths.{path_keys}
use Rattle.path_state.specs.declared.fact.PathFact.{PathFact}
use Rattle.rsvp_base.specs.Orders.{senders}
use Rattle.rsvp_base.specs.Table.{changed, get, has}
use Rattle.rsvp_base.specs.declared.session.Sender.{Sender}
use Rattle.rsvp_base.specs.declared.session.Session.{Session}
use Rattle.rsvp_base.specs.declared.style.StyleKind.{StyleKind}
use Rattle.rsvp_base.specs.declared.style.StyleKind.TheVariants.{Wild, Fixed, Shared}
use Rattle.rsvp_base.proofs.Filters.{same_test}
use Rattle.rsvp_base.proofs.SetLaws.{same_set}
use Rattle.rsvp_base.proofs.Tables.{get-changed, got_changed, then_do}
use Rattle.style_rules.specs.Lines.{NextHop}
use Rattle.style_rules.specs.Targets.{WallKey, wall_keys}
use Rattle.style_rules.specs.declared.target.Target.TheVariants as target
use Rattle.style_rules.specs.declared.wall.Wall.{Wall}
use Rattle.laws_bounds.proofs.Knowing.{lanes_made, lanes_told, via_made, via_told}
use Rattle.router_rules.specs.Facts.{Blockade, PathState, wants_in}
use Rattle.router_rules.specs.Known.{Lane, came_by, lanes, named_as, names_via, via}
use Rattle.router_rules.specs.NodeConfig.{tree}
use Rattle.router_rules.specs.Requests.{toward, wall_at as wall_of}
use Rattle.router_state.specs.State.{State, facts_of, path_at, wall_at}
use Rattle.laws_sends.specs.Seen.{own_at, toward_at, up_at}
use Rattle.laws_sends.specs.Upward.{own_want, wall_for}
use Rattle.laws_sends.specs.Routes.{ways_out}
use Rattle.laws_sends.proofs.Seeing.{merged_is}

module _ (n : State) where
  via_at : (c d : ℕ) (s : Session) (hop : NextHop) (x : Sender) → has (via (facts_of c n) s hop) x ≡ true → has (via (facts_of d n) s hop) x ≡ true
  via_at c d s hop x h =
      let t = via_told (facts_of c n) s hop x h in
      let g = got_changed path_keys (path_at c) n.paths (s, x) t.path t.there in
      let e : PathFact × ℕ = g.0 in
      let path : PathState = record { iface = e.0.iface; hop = e.0.hop; tspec = e.0.tspec; police = e.0.police; adspec = e.0.adspec; dies = d + e.1 } in
      let there : get (facts_of d n).paths (s, x) ≡ Some path = get-changed path_keys (path_at d) n.paths (s, x) ∙ ap (λ w. then_do w (path_at d (s, x))) g.1 in
      via_made (facts_of d n) s hop x (record { path = path; there = there; by = ap (λ (z : PathState). came_by hop z) (same_Some _ _ g.2) ∙ t.by })

  pub via_clock : (c d : ℕ) (s : Session) (hop : NextHop) → via (facts_of c n) s hop ≡ via (facts_of d n) s hop
  via_clock c d s hop = same_set senders _ _ (λ x. same_test _ _ (via_at c d s hop x) (via_at d c s hop x))

  -- a lane that is there at a clock is there at each
  pub lane_clock : (c d : ℕ) (l : Lane) → has (lanes (facts_of c n)) l ≡ true → has (lanes (facts_of d n)) l ≡ true
  lane_clock c d l h =
      let t = lanes_told (facts_of c n) l h in
      lanes_made (facts_of d n) l t.0 (via_told (facts_of d n) l.session l.hop t.0 (via_at c d l.session l.hop t.0 (via_made (facts_of c n) l.session l.hop t.0 t.1)))

  wall_told : (c : ℕ) (k : WallKey) → wall_of (facts_of c n).walls k ≡ option_map (λ (e : Wall × ℕ). e.0) (get n.walls k)
  wall_told c k = ap (λ w. option_map (λ (b : Blockade). b.wall) w) (get-changed wall_keys (wall_at c) n.walls k) ∙ by (get n.walls k)
    where
      by : (w : Option (Wall × ℕ)) → option_map (λ (b : Blockade). b.wall) (then_do w (wall_at c k)) ≡ option_map (λ (e : Wall × ℕ). e.0) w
      by None = refl
      by (Some e) = refl

  wall_clock : (c d : ℕ) (k : WallKey) → wall_of (facts_of c n).walls k ≡ wall_of (facts_of d n).walls k
  wall_clock c d k = wall_told c k ∙ sym (wall_told d k)

  wall_same : (c d : ℕ) (st : StyleKind) (l : Lane) (x : Sender) → wall_for st (facts_of c n).walls l x ≡ wall_for st (facts_of d n).walls l x
  wall_same c d Wild l x = wall_clock c d (l.session, target.Hop l.hop.0 l.hop.1)
  wall_same c d Fixed l x = wall_clock c d (l.session, target.Sender x)
  wall_same c d Shared l x = wall_clock c d (l.session, target.Sender x)

  pub toward_clock : (c d : ℕ) (l : Lane) → toward n.place (facts_of c n) l ≡ toward n.place (facts_of d n) l
  unfolding up_at own_at toward_at
  toward_clock c d l =
      let names : names_via (facts_of c n) l ≡ names_via (facts_of d n) l = ap (named_as l.style) (via_clock c d l.session l.hop) in
      let up : up_at c n l.session l.style l.hop ≡ up_at d n l.session l.style l.hop = λ i. changed
      (λ x _. Some (record { outward = ways_out (tree n.place l.session x); wall = wall_same c d l.style l x i })) (names i) in
      let own : own_at c n l.session l.style l.hop ≡ own_at d n l.session l.style l.hop = λ i. changed (own_want l.style (names i)) (wants_in (facts_of c n) l.session) in
      sym (merged_is c n l.session l.hop (up_at c n l.session l.style l.hop) (own_at c n l.session l.style l.hop) l.style refl refl)
      ∙ merged_is d n l.session l.hop (up_at c n l.session l.style l.hop) (own_at c n l.session l.style l.hop) l.style up own
