-- What a local receiver asks for, beside the wants that are there.
use Rattle.std.specs.Prelude.{Bool, not, List, Option, None}
use Rattle.std.specs.List.{list_any}
use Rattle.std.specs.Ordering.{eq_by_cmp}
use Rattle.rsvp_base.specs.Orders.{Names, sessions, units}
use Rattle.rsvp_base.specs.SessionLimits.{has_room_at}
use Rattle.rsvp_base.specs.Table.{values, with_rows}
use Rattle.rsvp_base.specs.TokenBucket.{TokenBucket}
use Rattle.rsvp_base.specs.Under.{under}
use Rattle.rsvp_base.specs.declared.session.Sender.{Sender}
use Rattle.rsvp_base.specs.declared.session.Session.{Session}
use Rattle.rsvp_base.specs.declared.style.StyleKind.{StyleKind}
use Rattle.rsvp_base.specs.declared.style.StyleKind.TheVariants.{Fixed}
use Rattle.rsvp_base.specs.declared.style.Unit.TheVariants.{Of}
use Rattle.rsvp_messages.specs.Units.{only}
use Rattle.router_rules.specs.Calls.{needs, wanted}
use Rattle.router_rules.specs.Facts.{Want, WantKey, Wants}
use Rattle.router_rules.specs.Requests.{is_style}
use Rattle.router_rules.specs.declared.answers.LocalErr.{LocalErr}
use Rattle.router_rules.specs.declared.answers.LocalErr.TheVariants as local
use Rattle.local_state.specs.declared.wants.LocalWant.{LocalWant}

-- why wants are refused beside these
abbrev pub want_refusal : Wants → Session → StyleKind → Names → TokenBucket → Bool → Option LocalErr
want_refusal ws s st names flow mark =
    needs (not (list_any (λ w. not (is_style w.style st)) (values (under sessions units ws s)))) local.Style
    (needs (has_room_at units (with_rows ws (wanted s st names flow mark)) s) local.Full None)

-- what a fixed filter asks for of one sender
abbrev pub fixed_want : TokenBucket → Bool → Sender → Want
fixed_want flow mark x = record { style = Fixed; part = record { senders = only x; flow = flow }; confirm = mark }

abbrev pub fixed_row : Session → TokenBucket → Bool → Sender → WantKey × Want
fixed_row s flow mark x = ((s, Of x), fixed_want flow mark x)

-- whether a sender has no unit among these
abbrev pub is_new : List LocalWant → Sender → Bool
is_new ws x = not (list_any (λ w. eq_by_cmp units.cmp (Of x) w.unit) ws)
