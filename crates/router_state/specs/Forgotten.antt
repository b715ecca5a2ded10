-- Names that leave reservations one after another.
use Rattle.std.specs.Prelude.{Bool, ◌&&◌, List, [], ◌∷◌}
use Rattle.std.specs.Ordering.{eq_by_cmp}
use Rattle.resv_state.specs.Leaving.{forgotten}
use Rattle.resv_state.specs.Resvs.{ResvFacts}
use Rattle.rsvp_base.specs.Orders.{sessions, senders}
use Rattle.rsvp_base.specs.Table.{changed}
use Rattle.rsvp_base.specs.declared.session.Sender.{Sender}
use Rattle.rsvp_base.specs.declared.session.Session.{Session}

abbrev pub is_gone : Session → Sender → Session × Sender → Bool
is_gone s x g = eq_by_cmp sessions.cmp g.0 s && eq_by_cmp senders.cmp x g.1

abbrev pub forgotten_all : List (Session × Sender) → ResvFacts → ResvFacts
forgotten_all [] t = t
forgotten_all (g ∷ gs) t = forgotten_all gs (changed (forgotten g.0 g.1) t)
