-- What goes toward a hop is its want.
use Rattle.std.specs.Prelude.{◌≡◌, ℕ, Some, slice_get}
use Rattle.rsvp_base.specs.Members.{In}
use Rattle.router_rules.specs.Facts.{Facts}
use Rattle.router_rules.specs.Known.{Lane}
use Rattle.router_rules.specs.Requests.{toward}
use Rattle.tree_model.specs.declared.hops.LinkHop.{LinkHop}
use Rattle.tree_model.specs.Ranks.{Follows, followers, rank}
use Rattle.tree_model.specs.Wants.{want}
use Rattle.network_model.specs.Locals.{locals_of}
use Rattle.network_model.specs.Sound.{IsExact}
use Rattle.network_model.specs.Worlds.{World, config_of}
use Rattle.settle_paths.specs.PreviousHops.{IsPrevious}
use Rattle.settle_resvs.specs.Below.{AreSoundBelow}
use Rattle.settle_resvs.specs.Sessions.{HasNoBlockade}

-- from a node without blockades of the session toward a previous hop, whose hop this is, where the reservations over the hops that follow are
-- sound and exact
abbrev pub TowardIsTheWant : ℕ → World → Type 0
TowardIsTheWant q w =
    (n : ℕ) (f : Facts) (l : Lane) (h : LinkHop) → slice_get w.nodes n ≡ Some f → HasNoBlockade l.session f.walls → IsPrevious w.net n l.session l.hop h
    → AreSoundBelow l.style w n f l.session (rank w.net l.session.group h)
    → ((h' : LinkHop) → Follows w.net l.session.group h h' → In h' (followers w.net l.session.group h) → IsExact l.style w l.session h')
    → toward (config_of q w.net w.trees n) f l ≡ want l.style w.net (locals_of w) l.session h
