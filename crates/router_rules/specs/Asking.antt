-- A Resv is taken or refused unit by unit, and torn down (RFC 2205, 3.5 and appendix B; RFC 2209, 2: RESV MESSAGE ARRIVES,
-- RESV TEAR MESSAGE ARRIVES; UPDATE TRAFFIC CONTROL where the book is asked for the change of an RSB).
use Rattle.std.specs.Prelude.{ℕ, ◌+◌, nat_le, nat_lt, Bool, true, false, cond, not, ◌&&◌, ◌||◌, List, [], ◌∷◌, ◌++◌, map as each, Option, Some, None}
use Rattle.std.specs.List.{flat_map, list_any}
use Rattle.std.specs.Option.{option_map}
use Rattle.admission_book.specs.declared.refused.Refused.{Refused}
use Rattle.admission_book.specs.declared.refused.Refused.TheVariants as refused
use Rattle.rsvp_base.specs.declared.addr.Addr.{Addr}
use Rattle.rsvp_base.specs.declared.part.Part.{Part}
use Rattle.rsvp_base.specs.declared.session.Sender.{Sender}
use Rattle.rsvp_base.specs.declared.session.Session.{Session}
use Rattle.rsvp_base.specs.declared.style.StyleKind.{StyleKind}
use Rattle.rsvp_base.specs.declared.style.StyleKind.TheVariants.{Wild, Fixed, Shared}
use Rattle.rsvp_base.specs.declared.style.Unit.{Unit as UnitOf}
use Rattle.rsvp_base.specs.declared.style.Unit.TheVariants.{One, Of}
use Rattle.rsvp_base.specs.Keys.{pairs, options, Keys}
use Rattle.rsvp_base.specs.Orders.{Names, senders}
use Rattle.rsvp_base.specs.Sets.{cut, is_none}
use Rattle.rsvp_base.specs.Table.{empty, get, has, keys, kept, changed, put_in, size, values}
use Rattle.rsvp_base.specs.TokenBucket.{TokenBucket}
use Rattle.rsvp_messages.specs.declared.ask.Ask.{Ask}
use Rattle.rsvp_messages.specs.declared.ask.Ask.TheVariants as ask
use Rattle.rsvp_messages.specs.declared.message.ResvMsg.{ResvMsg}
use Rattle.rsvp_messages.specs.declared.message.ResvTearMsg.{ResvTearMsg}
use Rattle.rsvp_messages.specs.FlowTable.{FlowTable}
use Rattle.rsvp_messages.specs.Units.{AskedUnit, asked_units, ask_style, tear_style, tear_names}
use Rattle.style_rules.specs.Lines.{NextHop, next_hops, LineKey, is_of_hop}
use Rattle.rsvp_base.specs.declared.entry_key.EntryKey.{EntryKey}
use Rattle.style_rules.specs.Merge.{table_at, PartTable}
use Rattle.style_rules.specs.Parts.{part_kept, part_of}
use Rattle.router_rules.specs.declared.answers.Heard.{Heard}
use Rattle.router_rules.specs.declared.answers.Heard.TheVariants as heard
use Rattle.router_rules.specs.declared.answers.Why.TheVariants as why
use Rattle.router_rules.specs.Books.{fits, book, refused as refused_entry}
use Rattle.router_rules.specs.Facts.{Facts, ResvState, Resvs, resvs_of, with_resvs, resvs_in, wants_in}
use Rattle.router_rules.specs.Inputs.{Change, only_heard, Asked, ErrMsg, ErrSend, OfPath, OfResv, in_order}
use Rattle.router_rules.specs.Known.{known, named_as}
use Rattle.router_rules.specs.NodeConfig.{NodeConfig, goes_out, lifetime, own}
use Rattle.router_rules.specs.Requests.{is_style}

-- ---- who asks
-- what the units of a Resv have in common: the interface by which it came, its next hop, when what is taken dies
pub record Asker : Type 0 where
  pub iface : ℕ
  pub session : Session
  pub next : Addr
  pub style : StyleKind
  pub confirm : Option Addr
  pub dies : ℕ

abbrev pub asker_of : NodeConfig → ℕ → ℕ → ResvMsg → Asker
asker_of p c e m = record { iface = e; session = m.session; next = m.hop.addr; style = ask_style m.ask; confirm = m.confirm; dies = c + lifetime p m.period }

abbrev pub key_at : Asker → UnitOf → LineKey
key_at o u = (o.session, ((o.iface, o.next), u))

abbrev pub entry_at : Asker → UnitOf → EntryKey
entry_at o u = record { session = o.session; style = o.style; unit = u }

-- a refusal goes back to the next hop, with the style and the flow that were asked for
abbrev pub refusal : NodeConfig → Asker → Bool → ℕ → ℕ → Option Names → TokenBucket → ErrSend
refusal p o in_place code value names flow = record {
  iface = o.iface;
  dst = o.next;
  error = OfResv (record {
    session = o.session;
    hop = record { addr = own p o.iface; handle = 0 };
    err = record { node = own p o.iface; in_place = in_place; not_guilty = false; code = code; value = value };
    blame = record { style = o.style; senders = names; flow = Some flow };
  });
}

-- whom an error blames: nobody, so that it is not sent; everyone, so that it lists no senders; or these
pub data Blamed : Type 0 where
  Nobody : Blamed
  Everyone : Blamed
  These : Names → Blamed

-- those whom an error lists
abbrev pub as_listed : Option Names → Blamed
as_listed None = Everyone
as_listed (Some names) = These names

-- ---- what was done with the units so far: the reservations, refusals, whether one was left out, and what was taken
pub record Taking : Type 0 where
  pub table : Resvs
  pub errors : List ErrSend
  pub left_out : Bool
  pub taken : PartTable

abbrev pub nothing_taken : Resvs → List ErrSend → Taking
nothing_taken t errors = record { table = t; errors = errors; left_out = false; taken = empty }

-- ---- senders that match: known, and their tree goes out here; by the style's names
abbrev pub matched : NodeConfig → Facts → Asker → Names
matched p f o = named_as o.style (kept (goes_out p o.session o.iface) (known f o.session))

-- without a list, all that match
abbrev pub names_that_match : Option Names → Names → Names
names_that_match None all = all
names_that_match (Some names) all = cut names all

-- the names that do not match, where there are some
abbrev pub unmatched : Option Names → Names → Blamed
unmatched None all = Nobody
unmatched (Some names) all = cond (is_none (kept (λ x. not (has all x)) names)) Nobody (These (kept (λ x. not (has all x)) names))

-- the names that are refused for want of a sender: a wildcard filter only where nobody is left, and then with its SCOPE as
-- it came
abbrev pub lost : StyleKind → Option Names → Names → Blamed
lost Wild names all = cond (is_none (names_that_match names all)) (as_listed names) Nobody
lost Fixed names all = unmatched names all
lost Shared names all = unmatched names all

-- no sender information: error 4
abbrev pub losses : NodeConfig → Asker → TokenBucket → Blamed → List ErrSend
losses p o flow Nobody = []
losses p o flow Everyone = refusal p o false 4 0 None flow ∷ []
losses p o flow (These names) = refusal p o false 4 0 (Some names) flow ∷ []

-- ---- a unit in its place
abbrev pub confirm_kept : Option ResvState → Option Addr
confirm_kept None = None
confirm_kept (Some r) = r.confirm

-- a Resv that wants no confirmation leaves the wish of an earlier one
abbrev pub or_kept : Option Addr → Option Addr → Option Addr
or_kept None old = old
or_kept (Some a) old = Some a

abbrev pub resv_state : Asker → Part → Option ResvState → ResvState
resv_state o part old = record { part = part; confirm = or_kept o.confirm (confirm_kept old); dies = o.dies }

abbrev pub table_with : Asker → UnitOf → Part → Resvs → Resvs
table_with o u part t = put_in t (key_at o u) (resv_state o part (get t (key_at o u)))

-- admission control failure: error 1, and 2 for the rate or 3 for the packet size
abbrev pub value_of : Refused → ℕ
value_of (refused.Mtu most mtu) = 3
value_of (refused.Rate want free) = 2

-- the interface has an entry of the unit, as the units before it left them
abbrev pub has_entry : Asker → Facts → UnitOf → Resvs → Bool
has_entry o f u t = has (book (with_resvs o.style t f) o.iface) (entry_at o u)

-- no more names than a list of senders has room for, and the table within its limits
abbrev pub has_room : Asker → UnitOf → Part → Resvs → Bool
has_room o u part t = nat_le (size part.senders) 16 && fits o.style (table_with o u part t)

-- ---- units one after another
abbrev pub tell_lost : NodeConfig → Asker → TokenBucket → Blamed → Taking → Taking
tell_lost p o flow names t = record t { errors = t.errors ++ losses p o flow names }

module _ (p : NodeConfig) (o : Asker) (f : Facts) where
  -- the book with the unit in place of what its next hop had
  abbrev pub book_refuses : UnitOf → Part → Resvs → Option Refused
  book_refuses u part t = refused_entry p o.iface (entry_at o u) (book (with_resvs o.style (table_with o u part t) f) o.iface)

  -- a unit without room is left out; one that the book refuses is told, and changes nothing; else it takes its place
  abbrev pub put_tested : UnitOf → Part → Bool → Option Refused → Taking → Taking
  put_tested u part false why t = record t { left_out = true }
  put_tested u part true (Some why) t = record t { errors = t.errors ++ refusal p o (has_entry o f u t.table) 1 (value_of why) (Some part.senders) part.flow ∷ [] }
  put_tested u part true None t = record t { table = table_with o u part t.table; taken = put_in t.taken u part }

  abbrev pub put_unit : UnitOf → Option Part → Taking → Taking
  put_unit u None t = t
  put_unit u (Some part) t = put_tested u part (has_room o u part t.table) (book_refuses u part t.table) t

  abbrev pub take_unit : Names → Taking → AskedUnit → Taking
  take_unit all t u = put_unit u.unit (part_of (names_that_match u.names all) u.flow) (tell_lost p o u.flow (lost o.style u.names all) t)

  -- each is tested against what the ones before it left
  abbrev pub take_units : Names → Taking → List AskedUnit → Taking
  take_units all t [] = t
  take_units all t (u ∷ us) = take_units all (take_unit all t u) us

-- ---- the Resv as a whole
-- each unit refused alike
abbrev pub refuse_all : NodeConfig → Asker → ℕ → ℕ → List AskedUnit → Resvs → Taking
refuse_all p o code value us t = nothing_taken t (each (λ u. refusal p o false code value u.names u.flow) us)

-- a reservation or a local want of the session has the style
abbrev pub has_style : Facts → Session → StyleKind → Bool
has_style f s st = nat_lt 0 (size (resvs_in st f s)) || list_any (λ w. is_style w.style st) (values (wants_in f s))

-- the low 16 bits of the option vector of a style (RFC 2205, A.7)
abbrev pub style_value : StyleKind → ℕ
style_value Wild = 17
style_value Fixed = 10
style_value Shared = 18

-- the first of these styles that the session has and that is another one
abbrev pub other_style : Facts → Session → StyleKind → List StyleKind → Option StyleKind
other_style f s st [] = None
other_style f s st (x ∷ xs) = cond (not (is_style x st) && has_style f s x) (Some x) (other_style f s st xs)

abbrev pub style_conflict : Facts → Session → StyleKind → Option StyleKind
style_conflict f s st = other_style f s st (Wild ∷ Fixed ∷ Shared ∷ [])

-- no path information: error 3; conflicting style: error 5; else unit by unit
abbrev pub taking_of : NodeConfig → Asker → List AskedUnit → Facts → Bool → Option StyleKind → Taking
taking_of p o us f true other = refuse_all p o 3 0 us (resvs_of o.style f)
taking_of p o us f false (Some other) = refuse_all p o 5 (style_value other) us (resvs_of o.style f)
taking_of p o us f false None = take_units p o f (matched p f o) (nothing_taken (resvs_of o.style f) []) us

abbrev pub taking : NodeConfig → ℕ → ℕ → ResvMsg → Facts → Taking
taking p c e m f = taking_of p (asker_of p c e m) (asked_units m.ask) f (is_none (known f m.session)) (style_conflict f m.session (ask_style m.ask))

-- ---- parts by unit, written as what they ask for; nothing of none
abbrev pub ask_of_part : (Part → Ask) → Option Part → Option Ask
ask_of_part make None = None
ask_of_part make (Some part) = Some (make part)

-- the flow of a sender is that of its unit
abbrev pub flow_at : PartTable → Sender → Option TokenBucket
flow_at ps x = option_map (λ part. part.flow) (get ps (Of x))

abbrev pub flows_by_sender : PartTable → FlowTable
flows_by_sender ps = table_at (flow_at ps) (flat_map (λ part. keys part.senders) (values ps))

abbrev pub fixed_ask : FlowTable → Option Ask
fixed_ask list = cond (nat_lt 0 (size list)) (Some (ask.Fixed list)) None

-- a wildcard filter with its SCOPE
abbrev pub ask_of : StyleKind → PartTable → Option Ask
ask_of Wild ps = ask_of_part (λ part. ask.Wild (Some part.senders) part.flow) (get ps One)
ask_of Fixed ps = fixed_ask (flows_by_sender ps)
ask_of Shared ps = ask_of_part ask.Shared (get ps One)

-- ---- what was heard
-- errors by interface, next hop and first sender, those without senders first
abbrev pub first_of : List Sender → Option Sender
first_of [] = None
first_of (s ∷ ss) = Some s

abbrev pub first_named : Option Names → Option Sender
first_named None = None
first_named (Some names) = first_of (keys names)

abbrev pub first_sender : ErrMsg → Option Sender
first_sender (OfPath m) = m.sender
first_sender (OfResv m) = first_named m.blame.senders

abbrev pub ErrPlace : Type 0
ErrPlace = NextHop × Option Sender

abbrev pub err_places : Keys ErrPlace
err_places = pairs next_hops (options senders)

abbrev pub err_place : ErrSend → ErrPlace
err_place s = ((s.iface, s.dst), first_sender s.error)

abbrev pub errors_in_order : List ErrSend → List ErrSend
errors_in_order ss = in_order err_places err_place ss

abbrev pub answered : ErrMsg → Heard
answered (OfPath m) = heard.Answered m.err.code m.err.value
answered (OfResv m) = heard.Answered m.err.code m.err.value

-- that of the first error; else whether a unit was left out
abbrev pub heard_of : List ErrSend → Bool → Heard
heard_of [] left_out = cond left_out (heard.Dropped why.Full) heard.Taken
heard_of (s ∷ ss) left_out = answered s.error

abbrev pub asked_of : Asker → Option Ask → Option Addr → Option Asked
asked_of o taken None = None
asked_of o taken (Some a) = Some (record { session = o.session; confirm = a; iface = o.iface; hop = o.next; taken = taken })

abbrev pub end_taking : Asker → Facts → Taking → Change
end_taking o f t = record {
  facts = with_resvs o.style t.table f;
  errors = t.errors;
  confs = [];
  fired = empty;
  asked = asked_of o (ask_of o.style t.taken) o.confirm;
  heard = heard_of (errors_in_order t.errors) t.left_out;
}

abbrev pub act_resv : NodeConfig → ℕ → ℕ → ResvMsg → Facts → Change
act_resv p c e m f = end_taking (asker_of p c e m) f (taking p c e m f)

-- ---- what is left of a reservation when names leave it, if a name is left
abbrev pub with_part : ResvState → Part → ResvState
with_part r part = record r { part = part }

abbrev pub left_of : (Sender → Bool) → ResvState → Option ResvState
left_of stays r = option_map (with_part r) (part_kept stays r.part)

-- ---- ResvTear
-- without a list nobody stays
abbrev pub stays : Option Names → Sender → Bool
stays None x = false
stays (Some names) x = not (has names x)

abbrev pub torn_resv : Session → NextHop → Option Names → LineKey → ResvState → Option ResvState
torn_resv s hop names k r = cond (is_of_hop s hop k) (left_of (stays names) r) (Some r)

-- a reservation of the hop has one of the names
abbrev pub names_one : Session → NextHop → Option Names → Resvs → Bool
names_one s hop names t = list_any (λ e. is_of_hop s hop e.0 && list_any (λ x. not (stays names x)) (keys e.1.part.senders)) t.rows

abbrev pub torn_resvs : Bool → Session → NextHop → Option Names → Resvs → Resvs
torn_resvs false s hop names t = t
torn_resvs true s hop names t = changed (torn_resv s hop names) t

abbrev pub act_resv_tear : ℕ → ResvTearMsg → Facts → Change
act_resv_tear e m f =
    let st = tear_style m.tear in
    let found : Bool = names_one m.session (e, m.hop.addr) (tear_names m.tear) (resvs_of st f) in
    only_heard (cond found heard.Taken (heard.Dropped why.NoState)) (with_resvs st (torn_resvs found m.session (e, m.hop.addr) (tear_names m.tear) (resvs_of st f)) f)
