-- What a node sends after an input (RFC 2205, 2.3, 3.3 and 3.7; RFC 2209, 2: PATH REFRESH and RESV REFRESH, at once where
-- Path_Refresh_Needed and Resv_Refresh_Needed are on): what changed between before and after, the
-- errors and confirmations, and the refreshes of the sessions that came due; in a fixed order.
use Rattle.std.specs.Prelude.{ℕ, nat_lt, Bool, true, false, cond, not, ◌&&◌, ◌||◌, List, [], ◌∷◌, ◌++◌, map as each, Option, Some, None, slice_get}
use Rattle.std.specs.List.{filter, flat_map, list_all, list_any, filter_map}
use Rattle.adspec_path.specs.Same.{same_told}
use Rattle.rsvp_base.specs.declared.addr.Addr.{Addr}
use Rattle.rsvp_base.specs.declared.hop.Hop.{Hop}
use Rattle.rsvp_base.specs.declared.part.Part.{Part}
use Rattle.rsvp_base.specs.declared.session.Sender.{Sender}
use Rattle.rsvp_base.specs.declared.style.StyleKind.{StyleKind}
use Rattle.rsvp_base.specs.declared.style.StyleKind.TheVariants.{Wild, Fixed, Shared}
use Rattle.rsvp_base.specs.declared.style.Unit.{Unit as UnitOf}
use Rattle.rsvp_base.specs.Orders.{Names, sessions}
use Rattle.rsvp_base.specs.Sets.{Set, set_of, cut, is_none}
use Rattle.rsvp_base.specs.Table.{get, has, keys, size, empty}
use Rattle.rsvp_base.specs.TokenBucket.{TokenBucket}
use Rattle.rsvp_messages.specs.declared.ask.Ask.{Ask}
use Rattle.rsvp_messages.specs.declared.ask.Ask.TheVariants as ask
use Rattle.rsvp_messages.specs.declared.ask.Tear.{Tear}
use Rattle.rsvp_messages.specs.declared.ask.Tear.TheVariants as tear
use Rattle.rsvp_messages.specs.declared.message.Message.{Message}
use Rattle.rsvp_messages.specs.declared.message.Message.TheVariants as message
use Rattle.rsvp_messages.specs.RsvpObjects.declared.adspec.Adspec.{Adspec}
use Rattle.style_rules.specs.FlowOrder.{flow_le}
use Rattle.style_rules.specs.Lines.{next_hops}
use Rattle.style_rules.specs.Merge.{PartTable}
use Rattle.style_rules.specs.Parts.{part_le}
use Rattle.style_rules.specs.Toward.{Request, open_of, requests_at, request_unit}
use Rattle.router_rules.specs.Asking.{ask_of, errors_in_order, first_of}
use Rattle.router_rules.specs.Facts.{Facts, PathState, Want, WantKey, want_keys, wants_in}
use Rattle.router_rules.specs.Inputs.{Asked, Change, ErrMsg, ErrSend, OfPath, OfResv, ConfSend, Send, in_order}
use Rattle.router_rules.specs.Known.{Lane, lanes, via, names_via}
use Rattle.router_rules.specs.Offers.{Offer, OfferKey, Offers, advert_by, offers}
use Rattle.router_rules.specs.NodeConfig.{NodeConfig, own, period, is_session}
use Rattle.router_rules.specs.Requests.{requests, toward, want_request}

abbrev pub once : ℕ → Addr → Message → Send
once i dst m = record { iface = i; dst = dst; message = m; refresh = false }

-- ---- 1: PathTear for each offer that is gone, by session, sender and interface
module _ (p : NodeConfig) where
  abbrev pub path_tear : OfferKey → Send
  path_tear k = once k.iface k.session.group (message.PathTear (record { session = k.session; hop = record { addr = own p k.iface; handle = 0 }; sender = Some k.sender }))

  abbrev pub path_tears : Offers → Offers → List Send
  path_tears before after = each path_tear (filter (λ k. not (has after k)) (keys before))

-- ---- 2: ResvTear for the units that went toward a hop and do no more, by session, style and hop
-- the names of the parts whose units are gone
abbrev pub gone_names : PartTable → PartTable → Names
gone_names before after = set_of (flat_map (λ e. keys e.1.senders) (filter (λ e. not (has after e.0)) before.rows))

abbrev pub handle_of : Option PathState → ℕ
handle_of None = 0
handle_of (Some x) = x.hop.handle

-- the handle that the hop gave for its least sender
abbrev pub handle_for : Facts → Lane → Option Sender → ℕ
handle_for f l None = 0
handle_for f l (Some x) = handle_of (get f.paths (l.session, x))

abbrev pub tear_of : StyleKind → Names → Tear
tear_of Wild names = tear.Wild (Some names)
tear_of Fixed names = tear.Fixed names
tear_of Shared names = tear.Shared names

module _ (p : NodeConfig) (f : Facts) (l : Lane) where
  abbrev pub hop_to : Hop
  hop_to = record { addr = own p l.hop.0; handle = handle_for f l (first_of (keys (via f l.session l.hop))) }

  abbrev pub resv_tear_send : Names → Send
  resv_tear_send names = once l.hop.0 l.hop.1 (message.ResvTear (record { session = l.session; hop = hop_to; tear = tear_of l.style names }))

module _ (old p : NodeConfig) (before after : Facts) where
  -- of the names that are gone the ones that are still via the hop
  abbrev pub torn_names : Lane → Names
  torn_names l = cut (gone_names (toward old before l) (toward p after l)) (names_via after l)

  abbrev pub resv_tear : Lane → List Send
  resv_tear l = cond (is_none (torn_names l)) [] (resv_tear_send p after l (torn_names l) ∷ [])

  abbrev pub resv_tears : List Send
  resv_tears = flat_map resv_tear (keys (lanes before))

-- ---- 3: errors, by interface, next hop and first sender
abbrev pub error_message : ErrMsg → Message
error_message (OfPath m) = message.PathErr m
error_message (OfResv m) = message.ResvErr m

abbrev pub error_send : ErrSend → Send
error_send s = once s.iface s.dst (error_message s.error)

abbrev pub error_sends : List ErrSend → List Send
error_sends ss = each error_send (errors_in_order ss)

-- ---- 5: Path for each offer that is new at its interface, and for all of a session that came due
abbrev pub same_flow : TokenBucket → TokenBucket → Bool
same_flow a b = flow_le a b && flow_le b a

-- what is told of an offer by an interface
abbrev pub told_at : NodeConfig → ℕ → Offer → Option Adspec
told_at p i o = advert_by (slice_get p.ifaces i) o.advert

-- whether an interface sends the same of two offers
abbrev pub same_offer : NodeConfig → ℕ → Offer → Offer → Bool
same_offer p i a b = same_flow a.tspec b.tspec && same_told (told_at p i a) (told_at p i b)

abbrev pub is_new_offer : NodeConfig → ℕ → Offer → Option Offer → Bool
is_new_offer p i o None = true
is_new_offer p i o (Some old) = not (same_offer p i o old)

-- a local sender asks for policing where its flow enters the network
abbrev pub path_send : NodeConfig → Bool → OfferKey × Offer → Send
path_send p refresh e = record {
  iface = e.0.iface;
  dst = e.0.session.group;
  message = message.Path (record {
    session = e.0.session;
    police = e.1.local;
    hop = record { addr = own p e.0.iface; handle = 0 };
    period = period p;
    sender = Some (e.0.sender, e.1.tspec);
    adspec = told_at p e.0.iface e.1;
  });
  refresh = refresh;
}

abbrev pub path_send_of : NodeConfig → Offers → Set sessions → OfferKey × Offer → Option Send
path_send_of p before fired e = cond (has fired e.0.session || is_new_offer p e.0.iface e.1 (get before e.0)) (Some (path_send p (has fired e.0.session) e)) None

abbrev pub path_sends : NodeConfig → Offers → Offers → Set sessions → List Send
path_sends p before after fired = filter_map (path_send_of p before fired) after.rows

-- ---- 6: Resv toward each hop where it changed, or whose session came due; whole
-- each part of the one has its unit in the other, with a part that can stand for it
abbrev pub stands_for : Part → Option Part → Bool
stands_for part None = false
stands_for part (Some other) = part_le part other

abbrev pub is_part_in : PartTable → UnitOf × Part → Bool
is_part_in t e = stands_for e.1 (get t e.0)

abbrev pub parts_le : PartTable → PartTable → Bool
parts_le s t = list_all (is_part_in t) s.rows

abbrev pub same_parts : PartTable → PartTable → Bool
same_parts s t = parts_le s t && parts_le t s

module _ (old p : NodeConfig) (before after : Facts) where
  abbrev pub is_changed : Lane → Bool
  is_changed l = not (same_parts (toward old before l) (toward p after l))

  -- the lanes to which a Resv is sent for a change
  abbrev pub is_sent_new : Lane → Bool
  is_sent_new l = nat_lt 0 (size (toward p after l)) && is_changed l

-- a request takes part in what is sent where it is open, or none of its unit is
abbrev pub is_empty : {X : Type 0} → List X → Bool
is_empty [] = true
is_empty (x ∷ xs) = false

abbrev pub takes_part : StyleKind → List Request → Option Request → Bool
takes_part st all None = false
takes_part st all (Some r) = not r.blockaded || is_empty (open_of (requests_at st (request_unit st r) all))

-- whom a Resv that is sent for a change asks to confirm: as the message that made it says, else the node where a marked
-- want takes part
abbrev pub own_wish : NodeConfig → Lane → List UnitOf → Option Addr
own_wish p l [] = None
own_wish p l (u ∷ us) = Some (own p l.hop.0)

module _ (p : NodeConfig) (f : Facts) (l : Lane) where
  -- the local wants that are to be confirmed and take part
  abbrev pub is_marked : UnitOf × Want → Bool
  is_marked e = e.1.confirm && takes_part l.style (requests p f l) (want_request f l e)

  abbrev pub marked_units : List UnitOf
  marked_units = each (λ e. e.0) (filter is_marked (wants_in f l.session).rows)

  abbrev pub confirm_for : Option Asked → Option Addr
  confirm_for None = own_wish p l marked_units
  confirm_for (Some a) = Some a.confirm

  abbrev pub resv_send : Option Addr → Bool → Ask → Send
  resv_send confirm refresh ask = record {
    iface = l.hop.0;
    dst = l.hop.1;
    message = message.Resv (record { session = l.session; hop = hop_to p f l; period = period p; confirm = confirm; ask = ask });
    refresh = refresh;
  }

  -- changed, and due
  abbrev pub resv_send_of : Bool → Bool → Option Asked → Option Ask → Option Send
  resv_send_of new due asked None = None
  resv_send_of true due asked (Some ask) = Some (resv_send (confirm_for asked) due ask)
  resv_send_of false true asked (Some ask) = Some (resv_send None true ask)
  resv_send_of false false asked (Some ask) = None

module _ (old p : NodeConfig) (before after : Facts) (fired : Set sessions) (asked : Option Asked) where
  abbrev pub resv_send_to : Lane → Option Send
  resv_send_to l = resv_send_of p after l (is_changed old p before after l) (has fired l.session) asked (ask_of l.style (toward p after l))

  abbrev pub resv_sends : List Send
  resv_sends = filter_map resv_send_to (keys (lanes after))

-- ---- 4: confirmations, by interface and next hop
abbrev pub without_scope : Ask → Ask
without_scope (ask.Wild scope flow) = ask.Wild None flow
without_scope (ask.Fixed list) = ask.Fixed list
without_scope (ask.Shared part) = ask.Shared part

abbrev pub conf_for : NodeConfig → Asked → Option Ask → List ConfSend
conf_for p a None = []
conf_for p a (Some taken) =
    (record {
      iface = a.iface;
      dst = a.hop;
      conf = record { session = a.session; err = record { node = own p a.iface; in_place = false; not_guilty = false; code = 0; value = 0 }; confirm = a.confirm; ask = without_scope taken };
    }) ∷ []

abbrev pub conf_send : ConfSend → Send
conf_send s = once s.iface s.dst (message.ResvConf s.conf)

abbrev pub conf_sends : List ConfSend → List Send
conf_sends ss = each conf_send (in_order next_hops (λ s. (s.iface, s.dst)) ss)

module _ (old p : NodeConfig) (before after : Facts) where
  -- what was taken stands here where nothing new goes on for it
  abbrev pub goes_on : Asked → Bool
  goes_on a = list_any (λ l. is_session l.session a.session && is_sent_new old p before after l) (keys (lanes after))

  abbrev pub confirmed : Option Asked → List ConfSend
  confirmed None = []
  confirmed (Some a) = cond (goes_on a) [] (conf_for p a a.taken)

  -- ---- all, in order
  abbrev pub sends : Change → List Send
  sends k =
      path_tears p (offers old before) (offers p after)
      ++ (resv_tears old p before after
      ++ (error_sends k.errors
      ++ (conf_sends (k.confs ++ confirmed k.asked)
      ++ (path_sends p (offers old before) (offers p after) k.fired
      ++ resv_sends old p before after k.fired k.asked))))

  -- ---- marks that were used: those of the wants that took part in what was sent for a change. Where a message has an
  -- address of its own the marks wait
  abbrev pub used_marks : Option Asked → Set want_keys
  used_marks (Some a) = empty
  used_marks None = set_of (flat_map (λ l. each (λ u. (l.session, u)) (marked_units p after l)) (filter (is_sent_new old p before after) (keys (lanes after))))

abbrev pub unmarked : Set want_keys → WantKey → Want → Option Want
unmarked used k w = Some (record w { confirm = w.confirm && not (has used k) })
