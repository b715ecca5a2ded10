-- Local calls (RFC 2205, 3.11.1: SENDER, RESERVE, RELEASE), left-over facts, and a node that is cleared. A refused call
-- changes nothing.
use Rattle.std.specs.Prelude.{nat_le, nat_lt, Bool, true, false, not, List, [], ◌∷◌, map as each, is_some, Option, Some, None}
use Rattle.std.specs.List.{list_any}
use Rattle.rsvp_base.specs.declared.session.Session.{Session}
use Rattle.rsvp_base.specs.declared.style.StyleKind.{StyleKind}
use Rattle.rsvp_base.specs.declared.style.StyleKind.TheVariants.{Wild, Fixed, Shared}
use Rattle.rsvp_base.specs.declared.style.Unit.TheVariants.{One, Of}
use Rattle.rsvp_base.specs.Orders.{Names, senders, units}
use Rattle.rsvp_base.specs.SessionLimits.{has_room_at}
use Rattle.rsvp_base.specs.Sets.{Set, with_key}
use Rattle.rsvp_base.specs.Table.{Table, empty, has, keys, kept, put_in, without, size, values, with_rows}
use Rattle.rsvp_base.specs.TokenBucket.{TokenBucket}
use Rattle.rsvp_messages.specs.Units.{only}
use Rattle.style_rules.specs.Lines.{LineKey}
use Rattle.rsvp_base.specs.declared.entry_key.EntryKey.{EntryKey}
use Rattle.router_rules.specs.declared.answers.Heard.TheVariants as heard
use Rattle.router_rules.specs.declared.answers.LocalErr.{LocalErr}
use Rattle.router_rules.specs.declared.answers.LocalErr.TheVariants as local
use Rattle.router_rules.specs.declared.answers.StaleErr.{StaleErr}
use Rattle.router_rules.specs.declared.answers.StaleErr.TheVariants as stale
use Rattle.router_rules.specs.Books.{fits, book, refused}
use Rattle.router_rules.specs.Facts.{Facts, Paths, ResvTables, Walls, Want, WantKey, Wants, sender_keys, no_resvs, resvs_of, table_of, with_table, with_resvs, wants_in}
use Rattle.router_rules.specs.Inputs.{Change, only_heard, Local, SendAs, DropAs, AdvertAs, WantAs, QuitAll, Stale, StalePath, StaleResv, StaleWall}
use Rattle.router_rules.specs.NodeConfig.{NodeConfig, is_own, is_session}
use Rattle.router_rules.specs.Requests.{is_style}

-- what there is before, where a call is refused, and else what there is with it
abbrev pub unless : {E X : Type 0} → Option E → X → X → X
unless None new old = new
unless (Some e) new old = old

-- a refusal where a test fails, and else a later one
abbrev pub needs : {E : Type 0} → Bool → E → Option E → Option E
needs false e later = Some e
needs true e later = later

-- ---- local calls
abbrev pub SendersOf : Type 0
SendersOf = Table sender_keys TokenBucket

-- the wants that a call makes: a wildcard one of nobody, a fixed one for each sender
abbrev pub wanted : Session → StyleKind → Names → TokenBucket → Bool → List (WantKey × Want)
wanted s Wild names flow mark = ((s, One), record { style = Wild; part = record { senders = empty; flow = flow }; confirm = mark }) ∷ []
wanted s Fixed names flow mark = each (λ x. ((s, Of x), record { style = Fixed; part = record { senders = only x; flow = flow }; confirm = mark })) (keys names)
wanted s Shared names flow mark = ((s, One), record { style = Shared; part = record { senders = names; flow = flow }; confirm = mark }) ∷ []

abbrev pub senders_with : Local → SendersOf → SendersOf
senders_with (SendAs s x tspec) t = put_in t (s, x) tspec
senders_with (DropAs s x) t = without t (s, x)
senders_with (AdvertAs s x) t = t
senders_with (WantAs s st names flow mark) t = t
senders_with (QuitAll s) t = t

-- a sender is advertised until it is dropped
abbrev pub advertised_with : Local → Set sender_keys → Set sender_keys
advertised_with (SendAs s x tspec) t = t
advertised_with (DropAs s x) t = without t (s, x)
advertised_with (AdvertAs s x) t = with_key t (s, x)
advertised_with (WantAs s st names flow mark) t = t
advertised_with (QuitAll s) t = t

abbrev pub wants_with : Local → Wants → Wants
wants_with (SendAs s x tspec) t = t
wants_with (DropAs s x) t = t
wants_with (AdvertAs s x) t = t
wants_with (WantAs s st names flow mark) t = with_rows t (wanted s st names flow mark)
wants_with (QuitAll s) t = kept (λ k. not (is_session k.0 s)) t

-- why a call is refused
abbrev pub call_refusal : NodeConfig → Local → Facts → Option LocalErr
call_refusal p (SendAs s x tspec) f = needs (is_own p x.addr) local.NotMine (needs (has_room_at senders (put_in f.senders (s, x) tspec) s) local.Full None)
call_refusal p (DropAs s x) f = needs (has f.senders (s, x)) local.Absent None
call_refusal p (AdvertAs s x) f = needs (has f.senders (s, x)) local.Absent None
call_refusal p (WantAs s st names flow mark) f =
    needs (not (list_any (λ w. not (is_style w.style st)) (values (wants_in f s)))) local.Style
    (needs (has_room_at units (with_rows f.wants (wanted s st names flow mark)) s) local.Full None)
call_refusal p (QuitAll s) f = needs (nat_lt 0 (size (wants_in f s))) local.Absent None

abbrev pub act_call : NodeConfig → Local → Facts → Change
act_call p l f =
    only_heard heard.Taken
    (record f {
      senders = unless (call_refusal p l f) (senders_with l f.senders) f.senders;
      advertised = unless (call_refusal p l f) (advertised_with l f.advertised) f.advertised;
      wants = unless (call_refusal p l f) (wants_with l f.wants) f.wants;
    })

-- ---- left-over facts
abbrev pub paths_left : Stale → Paths → Paths
paths_left (StalePath k x) t = put_in t k x
paths_left (StaleResv st k r) t = t
paths_left (StaleWall k b) t = t

abbrev pub resvs_left : Stale → ResvTables → ResvTables
resvs_left (StalePath k x) ts = ts
resvs_left (StaleResv st k r) ts = with_table st (put_in (table_of st ts) k r) ts
resvs_left (StaleWall k b) ts = ts

abbrev pub walls_left : Stale → Walls → Walls
walls_left (StalePath k x) t = t
walls_left (StaleResv st k r) t = t
walls_left (StaleWall k b) t = put_in t k b

abbrev pub with_left : Stale → Facts → Facts
with_left i f = record f { paths = paths_left i f.paths; resvs = resvs_left i f.resvs; walls = walls_left i f.walls }

abbrev pub entry_of : StyleKind → LineKey → EntryKey
entry_of st k = record { session = k.0; style = st; unit = k.1.1 }

-- why a left-over fact is refused
abbrev pub stale_refusal : NodeConfig → Stale → Facts → Option StaleErr
stale_refusal p (StalePath k x) f = needs (has_room_at senders (put_in f.paths k x) k.0) stale.Full None
stale_refusal p (StaleResv st k r) f =
    needs (fits st (put_in (resvs_of st f) k r)) stale.Full
    (needs (not (is_some (refused p k.1.0.0 (entry_of st k) (book (with_resvs st (put_in (resvs_of st f) k r) f) k.1.0.0)))) stale.Over None)
stale_refusal p (StaleWall k b) f = needs (nat_le (size (put_in f.walls k b)) 512) stale.Full None

abbrev pub act_stale : NodeConfig → Stale → Facts → Facts
act_stale p i f = unless (stale_refusal p i f) (with_left i f) f

-- ---- clear: local senders and wants stay
abbrev pub act_clear : Facts → Facts
act_clear f = record f { paths = empty; resvs = no_resvs; walls = empty; due = empty }
