-- What the paths of a node offer, by the interface by which they came (RFC 2210, 3.3).
use Rattle.std.specs.Prelude.{ℕ, ◌==◌, cond, List, Option, Some, None}
use Rattle.std.specs.List.{filter_map}
use Rattle.std.specs.Option.{option_map}
use Rattle.rsvp_messages.specs.RsvpObjects.declared.adspec.Adspec.{Adspec}
use Rattle.router_rules.specs.Facts.{Facts, PathState, SenderKey}

-- of a path that came by this interface, the ADSPEC that it keeps
abbrev pub advert_row : ℕ → SenderKey × PathState → Option (SenderKey × Adspec)
advert_row i e = cond (e.1.iface == i) (option_map (λ a. (e.0, a)) e.1.adspec) None

-- by session and sender
abbrev pub adverts_at : Facts → ℕ → List (SenderKey × Adspec)
adverts_at f i = filter_map (advert_row i) f.paths.rows

-- the front that contracts cite
unfoldable pub adverts_of : Facts → ℕ → List (SenderKey × Adspec)
adverts_of f i = adverts_at f i
