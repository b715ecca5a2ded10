-- What the rules say of one reservation: how an error and a confirmation go on to it, and the flags of an entry.
use Rattle.std.specs.Prelude.{ℕ, ◌==◌, nat_lt, Bool, not, ◌&&◌, ◌||◌, cond, is_some, Option, Some, None}
use Rattle.std.specs.List.{list_any}
use Rattle.std.specs.Option.{option_map}
use Rattle.flow_merge.specs.FlowOrder.{flow_le}
use Rattle.rsvp_base.specs.Orders.{Names}
use Rattle.rsvp_base.specs.TokenBucket.{TokenBucket}
use Rattle.rsvp_base.specs.declared.addr.Addr.{Addr}
use Rattle.rsvp_base.specs.declared.err_spec.ErrSpec.{ErrSpec}
use Rattle.rsvp_base.specs.declared.part.Part.{Part}
use Rattle.rsvp_base.specs.declared.style.StyleKind.{StyleKind}
use Rattle.rsvp_base.specs.declared.style.StyleKind.TheVariants.{Fixed}
use Rattle.rsvp_messages.specs.declared.ask.Ask.{Ask}
use Rattle.rsvp_messages.specs.declared.ask.Blame.{Blame}
use Rattle.rsvp_messages.specs.Units.{ask_style}
use Rattle.style_rules.specs.Merge.{PartTable}
use Rattle.router_rules.specs.declared.entry.Police.{Police}
use Rattle.router_rules.specs.Confirming.{is_wish, speaks_of}
use Rattle.router_rules.specs.Asking.{Blamed, Nobody, Everyone, These}
use Rattle.router_rules.specs.Errors.{blamed}
use Rattle.router_rules.specs.Requests.{is_style}

-- ---- errors
-- where a smaller reservation stands, only those are told that asked for too much
abbrev pub is_only_for_blockaded : ErrSpec → Blame → Bool
is_only_for_blockaded err blame = err.in_place && ((err.code == 1) && is_some blame.flow)

-- the list of senders with which an error goes on, where it does
abbrev pub listing : Blamed → Option (Option Names)
listing Nobody = None
listing Everyone = Some None
listing (These names) = Some (Some names)

abbrev pub passed_on : ErrSpec → Blame → StyleKind → Part → Bool → Option Blame
passed_on err blame st part blockaded =
    cond (not (is_only_for_blockaded err blame) || blockaded) (option_map (λ names. record blame { senders = names }) (listing (blamed st blame.senders part.senders))) None

-- ---- confirmations
abbrev pub is_confirmed : Part → Option Addr → StyleKind → Addr → Ask → Bool
is_confirmed part kept st confirm ask = is_style (ask_style ask) st && (is_wish kept confirm && speaks_of ask part.senders)

-- ---- flags
abbrev pub policed : StyleKind → ℕ → Bool → TokenBucket → PartTable → Police
policed st matching marked flow others = record {
  e = marked;
  m = not (is_style st Fixed) && nat_lt 1 matching;
  b = list_any (λ e. not (flow_le e.1.flow flow)) others.rows;
}
