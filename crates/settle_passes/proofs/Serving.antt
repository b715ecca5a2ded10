-- A settled network has settled again H passes after a receiver asks.
use Rattle.std.proofs.Common.{◌≡◌, ℕ, List, [], ◌∷◌, length, Bool, None, Some, Option, inl, arith, sym, refl, ap, subst, ◌∙◌}
use Rattle.rsvp_base.specs.declared.part.Part.{Part}
use Rattle.rsvp_base.specs.declared.session.Session.{Session}
use Rattle.rsvp_base.specs.declared.style.StyleKind.{StyleKind}
use Rattle.rsvp_base.specs.declared.style.Unit.{Unit as UnitOf}
use Rattle.rsvp_base.specs.Members.{In}
use Rattle.rsvp_base.specs.Orders.{Names, entry_keys}
use Rattle.rsvp_base.specs.Table.{get, size}
use Rattle.rsvp_base.specs.TokenBucket.{IsSound, TokenBucket}
use Rattle.rsvp_base.proofs.Counts.{found_in, in_found}
use Rattle.rsvp_base.proofs.Tables.{same_table}
use Rattle.style_rules.specs.Targets.{WallKey, wall_keys}
use Rattle.router_rules.specs.Books.{book}
use Rattle.router_rules.specs.Facts.{Blockade, Walls}
use Rattle.router_rules.specs.Steps.{IsFitList}
use Rattle.tree_model.specs.declared.hops.LinkHop.{LinkHop}
use Rattle.tree_model.specs.Goals.{DemandsFit, addr_of, demand_of}
use Rattle.tree_model.specs.Networks.{iface_of}
use Rattle.tree_model.specs.Ranks.{longest}
use Rattle.tree_model.specs.Trees.{hops_of}
use Rattle.tree_model.specs.Wants.{want}
use Rattle.network_model.specs.Bounds.{AreBounds, AreHosts, IsStart}
use Rattle.network_model.specs.Locals.{locals_of}
use Rattle.network_model.specs.Sound.{IsSoundPart}
use Rattle.network_model.specs.Worlds.{Item, World}
use Rattle.settle_resvs.specs.Sessions.{AreExactOf}
use Rattle.settle_resvs.proofs.Accepting.{takes_all}
use Rattle.settle_resvs.proofs.GoalByIface.{each_fits}
use Rattle.settle_resvs.proofs.SoundResvs.{part_again}
use Rattle.settle_resvs.proofs.WantStyles.{want_parts}
use Rattle.settle_network.specs.Settled.{HasSettled}
use Rattle.settle_network.proofs.Reports.{entries_are_the_demand}
use Rattle.settle_passes.specs.Calls.{HasItsPaths}
use Rattle.settle_passes.specs.Passes.{after_passes}
use Rattle.settle_passes.specs.Reserving.{AsksNoLess, IsReserving, after_want}
use Rattle.settle_passes.proofs.Fitting.{as_before, demands_below, want_is_sound}
use Rattle.settle_passes.proofs.Reserving.{ready}
use Rattle.settle_passes.proofs.Rising.{reservations_are_set_up, reservations_rise_one_hop_a_pass}
use Rattle.settle_passes.proofs.Wanting.{a_receiver_is_set_up, a_settled_session_is_reserved, more, sound_on}

-- ---- no blockade, of all sessions and of each
no_rows : (walls : Walls) → ((k : WallKey) → get walls k ≡ None) → size walls ≡ 0
no_rows walls none = by walls.rows refl
  where
    by : (rows : List (WallKey × Blockade)) → walls.rows ≡ rows → length walls.rows ≡ 0
    by [] e = ap length e
    by (x ∷ xs) e =
        let found = in_found wall_keys walls x.0 x.1 (subst (λ (z : List (WallKey × Blockade)). In x z) (sym e) (inl refl)) in let no : None ≡ Some x.1 = sym (none x.0) ∙ found in absurd (cc)

no_wall : (walls : Walls) → size walls ≡ 0 → (k : WallKey) → get walls k ≡ None
no_wall walls none k = by (get walls k) refl
  where
    by_rows : (rows : List (WallKey × Blockade)) → length rows ≡ 0 → (x : WallKey × Blockade) → In x rows → ⊥
    by_rows [] e x i = i
    by_rows (y ∷ ys) e x i = omega (arith, e)

    by : (o : Option Blockade) → get walls k ≡ o → get walls k ≡ None
    by None e = e
    by (Some b) e = absurd (by_rows walls.rows none (k, b) (found_in wall_keys walls k b e))

-- ---- where each session is reserved and exact, the network has settled
pub settled_again : (q : ℕ) (s : Session) (u : World) → ((c : Session) → IsReserving q c u) → ((c : Session) → AreExactOf c u) → HasSettled q u
settled_again q s u r exact = record {
  paths_sound = (r s).paths.sound;
  paths_complete = (r s).paths.complete;
  resvs_sound = (r s).sound;
  resvs_exact = λ st c h there. exact c st h there;
  books = λ e f lt at. same_table entry_keys (book f (iface_of u.net.ends e)) (demand_of u.net (locals_of u) e)
      (λ k. entries_are_the_demand q k.session u (r s).paths.bounds (r s).sound (exact k.session) e lt f at k refl);
  takes_all = λ t quiet y m f x arr spelt at asked.
      takes_all q m.session t u quiet (ready q m.session u (r m.session)) (λ z v i said. (r s).addressed z v i said) y m f x arr spelt refl at asked;
  no_flow_error = λ y m i spelt. (r m.session).no_error y m i spelt refl;
  no_blockade = record { walls = λ n f at. no_rows f.walls (λ k. (r k.0).free n f at k.1) };
}

some_session : Session
some_session = record { group = record { 0 = 0 }; proto = 0; port = 0 }

pub a_reserving_network_settles : (q : ℕ) (w : World) → ((s : Session) → IsReserving q s w) → HasSettled q (after_passes q (longest w.net) w)
a_reserving_network_settles q w r =
    settled_again q some_session (after_passes q (longest w.net) w) (λ c. (reservations_rise_one_hop_a_pass q c (longest w.net) w (r c)).0) (λ c. (reservations_are_set_up q c w (r c)).exact)

-- ---- a settled network in which nothing is in flight
has_paths : (q : ℕ) (w : World) → AreBounds q w → AreHosts w → HasSettled q w → w.flight ≡ [] → HasItsPaths q w
has_paths q w bounds hosts settled quiet = record {
  bounds = bounds;
  hosts = hosts;
  sound = settled.paths_sound;
  complete = settled.paths_complete;
  no_tear = λ y m i. absurd (subst (λ (z : List Item). In y z) quiet i);
}

pub settled_is_reserved : (q : ℕ) (w : World) → IsStart q w → HasSettled q w → w.flight ≡ [] → (s : Session) → IsReserving q s w
settled_is_reserved q w start settled quiet s =
    a_settled_session_is_reserved q s w (has_paths q w start.bounds start.locals settled quiet) settled.resvs_sound (each_fits w.net (locals_of w) start.fit s)
    (λ n f at t. no_wall f.walls (settled.no_blockade.walls n f at) (s, t)) (λ st h there. settled.resvs_exact st s h there) quiet

-- ---- a receiver asks there for no less: what fits then fitted before
module _ (q n : ℕ) (s : Session) (st : StyleKind) (names : Names) (flow : TokenBucket) (confirm : Bool) (w : World) (bounds : AreBounds q w) (hosts : AreHosts w) (settled : HasSettled q w)
    (quiet : w.flight ≡ []) (list : IsFitList st names) (sound : IsSound flow) (no_less : AsksNoLess w n s st names flow confirm)
    (fit : DemandsFit w.net (locals_of (after_want q n s st names flow confirm w))) where
  abbrev asked : World
  asked = after_want q n s st names flow confirm w

  paths : HasItsPaths q w
  paths = has_paths q w bounds hosts settled quiet

  wanted_then : (k : StyleKind) (c : Session) (h : LinkHop) → In h (hops_of w.net.hops c.group) → (u : UnitOf) (p : Part) → get (want k w.net (locals_of w) c h) u ≡ Some p
      → IsSoundPart k (as_before asked.nodes w) c h.from (addr_of w.net h.to) u p
  wanted_then k c h there u p got =
      part_again k asked (as_before asked.nodes w) c h.from (addr_of w.net h.to) u p refl refl
      (sound_on q n s st names flow confirm w paths (list, sound) no_less k c h.from (addr_of w.net h.to) u p (want_is_sound w (want_parts q w bounds) k c h there u p got))

  pub begins : IsStart q w
  begins = record { bounds = bounds; locals = hosts; fit = demands_below asked.nodes w wanted_then (more q n s st names flow confirm w paths (list, sound) no_less) fit }

  pub a_settled_network_serves_a_receiver : HasSettled q (after_passes q (longest w.net) asked)
  a_settled_network_serves_a_receiver =
      a_reserving_network_settles q asked
      (λ c. (a_receiver_is_set_up q n c s st names flow confirm w (settled_is_reserved q w begins settled quiet c) list sound no_less (each_fits w.net (locals_of asked) fit c)).0)
