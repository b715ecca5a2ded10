-- The names via a hop, and its handle, as the tables give them.
use Rattle.std.specs.Prelude.{◌≡◌, ℕ, List, map as each, Option, Some, None, slice_get, [], ◌∷◌, refl}
use Rattle.std.specs.Option.{option_map}
use Rattle.std.proofs.Common.{sym, ap, ◌∙◌}
use Rattle.path_state.specs.Paths.{AreByKey, path_keys, via as kept_via}
use Rattle.path_state.specs.declared.fact.PathFact.{PathFact}
use Rattle.rsvp_base.specs.Orders.{Names, senders, sessions, units}
use Rattle.rsvp_base.specs.Sets.{set_of}
use Rattle.rsvp_base.specs.Styles.{name_of}
use Rattle.rsvp_base.specs.Table.{changed, get, keys}
use Rattle.rsvp_base.specs.Under.{under}
use Rattle.rsvp_base.specs.declared.hop.Hop.{Hop}
use Rattle.rsvp_base.specs.declared.session.Sender.{Sender}
use Rattle.rsvp_base.specs.declared.session.Session.{Session}
use Rattle.rsvp_base.specs.declared.style.StyleKind.{StyleKind}
use Rattle.rsvp_base.specs.declared.style.StyleKind.TheVariants.{Wild, Fixed, Shared}
use Rattle.rsvp_base.specs.declared.style.Unit.{Unit as UnitOf}
use Rattle.rsvp_base.proofs.Tables.{get-changed, then_do}
use Rattle.style_rules.specs.Lines.{NextHop}
use Rattle.style_rules.specs.Merge.{PartTable}
use Rattle.router_rules.specs.Asking.{first_of}
use Rattle.router_rules.specs.Facts.{Want}
use Rattle.router_rules.specs.NodeConfig.{own}
use Rattle.router_rules.specs.Sends.{handle_for, handle_of}
use Rattle.local_state.specs.Wants.{own_want as kept_want}
use Rattle.laws_sends.specs.State.{State, facts_of, path_at}
use Rattle.laws_sends.proofs.Passing.{changed_same}
use Rattle.laws_sends.specs.Seen.{hop_seen, lane_of, names_seen, own_at}
use Rattle.laws_sends.specs.Upward.{own_want}
use Rattle.laws_sends.proofs.Via.{via_same}
use Rattle.resv_sends.specs.Handles.{handle_in}

module _ (c : ℕ) (n : State) (s : Session) where
  module _ (st : StyleKind) (hop : NextHop) where
    pub names_all : (xs : List Sender) (names : Names) → xs ≡ keys names → AreByKey n.paths → names ≡ kept_via n.paths s hop.0 hop.1
        → set_of {o = senders} (each (name_of st) xs) ≡ names_seen c n s st hop
    unfolding names_seen
    names_all xs names all keyed is = ap (λ ks. set_of {o = senders} (each (name_of st) ks)) (all ∙ ap keys (is ∙ via_same c n s hop keyed))

    -- the wants of a style, as the table of wants has them
    pub own_is : (names : Names) (own : PartTable) → names ≡ names_seen c n s st hop → own ≡ changed (kept_want st names) (under sessions units n.wants s) → own ≡ own_at c n s st hop
    unfolding names_seen own_at
    own_is names own all is =
        is ∙ (λ i. changed (kept_want st (all i)) (under sessions units n.wants s)) ∙ changed_same units _ _ (same st) (under sessions units n.wants s)
      where
        same : (st : StyleKind) (u : UnitOf) (w : Want) → kept_want st (names_seen c n s st hop) u w ≡ own_want st (names_seen c n s st hop) u w
        same Wild u w = refl
        same Fixed u w = refl
        same Shared u w = refl

  -- ---- the handle of the least sender
  pub handle_is : (st : StyleKind) (hop : NextHop) (x : Sender) (w : Option PathFact) → w ≡ option_map (λ e. e.0) (get n.paths (s, x))
      → handle_in w ≡ handle_for (facts_of c n) (lane_of s st hop) (Some x)
  handle_is st hop x w is = ap handle_in is ∙ by (get n.paths (s, x)) ∙ ap handle_of (sym (get-changed path_keys (path_at c) n.paths (s, x)))
    where
      by : (v : Option (PathFact × ℕ)) → handle_in (option_map (λ (e : PathFact × ℕ). e.0) v) ≡ handle_of (then_do v (path_at c (s, x)))
      by None = refl
      by (Some e) = refl

  pub hop_is : (hop : NextHop) (names : Names) → AreByKey n.paths → names ≡ kept_via n.paths s hop.0 hop.1 → (h : ℕ) → h ≡ handle_for (facts_of c n) (lane_of s Wild hop) (first_of (keys names))
      → ◌≡◌ {A = Hop} (record { addr = own n.place hop.0; handle = h }) (hop_seen c n s hop)
  unfolding hop_seen
  hop_is hop names keyed is h handle = let all = handle ∙ ap (λ (ns : Names). handle_for (facts_of c n) (lane_of s Wild hop) (first_of (keys ns))) (is ∙ via_same c n s hop keyed) in
      λ i. record { addr = own n.place hop.0; handle = all i }

pub first_is : (xs : List Sender) (w : Option Sender) → w ≡ slice_get xs 0 → w ≡ first_of xs
first_is [] w e = e
first_is (x ∷ xs) w e = e
