-- What local receivers ask for.
use Rattle.std.specs.Prelude.{◌≡◌, ℕ, Bool, not, ◌&&◌, cond, Option, Some, None, refl}
use Rattle.std.specs.Coded.{Coded, code_by, coded×, coded_bool}
use Rattle.std.specs.Ordering.{eq_by_cmp}
use Rattle.rsvp_base.specs.Codes.{part_code, unit_code}
use Rattle.rsvp_base.specs.Orders.{Names, units}
use Rattle.rsvp_base.specs.SessionLimits.{sessions_in}
use Rattle.rsvp_base.specs.Table.{size, table_code}
use Rattle.rsvp_base.specs.contracts.session.Session as session
use Rattle.rsvp_base.specs.contracts.style.StyleKind as style
use Rattle.rsvp_base.specs.declared.part.Part.{Part}
use Rattle.rsvp_base.specs.declared.style.StyleKind.{StyleKind}
use Rattle.rsvp_base.specs.declared.style.StyleKind.TheVariants.{Wild, Fixed, Shared}
use Rattle.rsvp_base.specs.declared.style.Unit.{Unit as UnitOf}
use Rattle.router_rules.specs.Facts.{Want, WantKey, Wants, want_keys}
use Rattle.router_rules.specs.Requests.{is_style}
use Rattle.local_state.specs.declared.wants.LocalWant.{LocalWant}

-- ---- rows
abbrev pub want_of : LocalWant → Want
want_of r = record { style = r.style; part = r.part; confirm = r.confirm }

abbrev pub want_row : LocalWant → WantKey × Want
want_row r = ((r.session, r.unit), want_of r)

-- of one session, by unit
abbrev pub asked_row : LocalWant → UnitOf × Want
asked_row r = (r.unit, want_of r)

abbrev pub want_code : Coded Want
want_code = code_by (StyleKind × (Part × Bool)) (coded× (style.the_row).coded (coded× part_code coded_bool)) (λ w. (w.style, (w.part, w.confirm)))
    (λ t. record { style = t.0; part = t.1.0; confirm = t.1.1 }) (λ _. refl)

abbrev pub wants_code : Coded Wants
wants_code = table_code want_keys (coded× (session.the_row).coded unit_code) want_code

-- so many sessions have some
abbrev pub IsHeld : ℕ → Wants → Type 0
IsHeld n m = n ≡ size (sessions_in units m)

-- ---- what a style's wants ask for toward a previous hop: a wildcard one for all names via the hop
abbrev pub own_part : StyleKind → Names → Part → Part
own_part Wild names w = record { senders = names; flow = w.flow }
own_part Fixed names w = w
own_part Shared names w = w

abbrev pub own_want : StyleKind → Names → UnitOf → Want → Option Part
own_want st names u w = cond (is_style w.style st) (Some (own_part st names w.part)) None

-- ---- a mark that is used
abbrev pub unmarked_at : WantKey → WantKey → Want → Option Want
unmarked_at at k w = Some (record w { confirm = w.confirm && not (eq_by_cmp want_keys.cmp k at) })
