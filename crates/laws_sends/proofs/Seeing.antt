-- What the table of a style merges is what goes toward the hop.
use Rattle.std.specs.Prelude.{◌≡◌, ℕ, refl, Option, Some, None}
use Rattle.std.proofs.Common.{◌∙◌, sym, ap}
use Rattle.rsvp_base.specs.Orders.{sessions}
use Rattle.rsvp_base.specs.Under.{under}
use Rattle.rsvp_base.specs.declared.session.Session.{Session}
use Rattle.rsvp_base.specs.declared.style.StyleKind.{StyleKind}
use Rattle.rsvp_base.specs.declared.style.StyleKind.TheVariants.{Wild, Fixed, Shared}
use Rattle.router_state.specs.ResvState.Merging.{requests_toward}
use Rattle.router_state.specs.ResvState.Resvs.{ResvFacts}
use Rattle.router_state.specs.ResvState.Walks.{rests}
use Rattle.router_state.specs.StyleRules.Lines.{NextHop}
use Rattle.router_state.specs.StyleRules.Merge.{PartTable}
use Rattle.router_state.specs.StyleRules.Toward.{toward}
use Rattle.router_state.specs.StyleRules.Ways.{WayTable}
use Rattle.router_state.specs.State.{State, facts_of, table_in, wall_at as wall_then}
use Rattle.std.specs.Option.{option_map}
use Rattle.rsvp_base.specs.Table.{get}
use Rattle.rsvp_base.specs.declared.session.Sender.{Sender}
use Rattle.rsvp_base.proofs.Tables.{get-changed, then_do}
use Rattle.router_state.specs.StyleRules.declared.wall.Wall.{Wall}
use Rattle.router_state.specs.StyleRules.declared.target.Target.TheVariants as target
use Rattle.router_state.specs.StyleRules.Targets.{WallKey, wall_keys}
use Rattle.router_state.specs.RouterRules.Facts.{Blockade}
use Rattle.router_state.specs.RouterRules.Requests.{wall_at}
use Rattle.laws_sends.specs.Seen.{wall_seen, lane_of, own_at, toward_at, up_at}
use Rattle.laws_sends.proofs.Towards.{toward_is}

module _ (c : ℕ) (n : State) (s : Session) (hop : NextHop) (up : WayTable) (own : PartTable) where
  pub merged_is : (st : StyleKind) → up ≡ up_at c n s st hop → own ≡ own_at c n s st hop → toward st (requests_toward up (under sessions rests (table_in st n) s).rows own) ≡ toward_at c n s st hop
  unfolding up_at own_at toward_at
  merged_is Wild a b = (λ i. toward Wild (requests_toward (a i) (under sessions rests n.wild s).rows (b i))) ∙ toward_is n.place (facts_of c n) (lane_of s Wild hop) c n.wild refl
  merged_is Fixed a b = (λ i. toward Fixed (requests_toward (a i) (under sessions rests n.fixed s).rows (b i))) ∙ toward_is n.place (facts_of c n) (lane_of s Fixed hop) c n.fixed refl
  merged_is Shared a b = (λ i. toward Shared (requests_toward (a i) (under sessions rests n.shared s).rows (b i))) ∙ toward_is n.place (facts_of c n) (lane_of s Shared hop) c n.shared refl

-- ---- the blockade of a name
wall_told : (c : ℕ) (n : State) (k : WallKey) → option_map (λ (e : Wall × ℕ). e.0) (get n.walls k) ≡ wall_at (facts_of c n).walls k
wall_told c n k = by (get n.walls k) ∙ ap (λ w. option_map (λ (b : Blockade). b.wall) w) (sym (get-changed wall_keys (wall_then c) n.walls k))
  where
    by : (w : Option (Wall × ℕ)) → option_map (λ (e : Wall × ℕ). e.0) w ≡ option_map (λ (b : Blockade). b.wall) (then_do w (wall_then c k))
    by None = refl
    by (Some e) = refl

module _ (c : ℕ) (n : State) (s : Session) (hop : NextHop) (x : Sender) where
  pub wild_wall : option_map (λ (e : Wall × ℕ). e.0) (get n.walls (s, target.Hop hop.0 hop.1)) ≡ wall_seen c n s Wild hop x
  unfolding wall_seen
  wild_wall = wall_told c n (s, target.Hop hop.0 hop.1)

  pub fixed_wall : option_map (λ (e : Wall × ℕ). e.0) (get n.walls (s, target.Sender x)) ≡ wall_seen c n s Fixed hop x
  unfolding wall_seen
  fixed_wall = wall_told c n (s, target.Sender x)

  pub shared_wall : option_map (λ (e : Wall × ℕ). e.0) (get n.walls (s, target.Sender x)) ≡ wall_seen c n s Shared hop x
  unfolding wall_seen
  shared_wall = wall_told c n (s, target.Sender x)
