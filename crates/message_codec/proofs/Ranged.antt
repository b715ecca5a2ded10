-- What the types of code know of a message and what makes it proper are together what makes it writable.
use Rattle.std.proofs.Common.{◌≡◌, List, [], ◌∷◌, ◌++◌, Option, Some, None, refl, ◌∙◌, inl, inr}
use Rattle.std.specs.List.{AllByRecursion}
use Rattle.rsvp_base.specs.declared.addr.Addr.{Addr}
use Rattle.rsvp_base.specs.declared.session.Sender.{Sender}
use Rattle.rsvp_base.specs.declared.style.StyleKind.{StyleKind}
use Rattle.rsvp_base.specs.declared.style.StyleKind.TheVariants.{Wild, Fixed, Shared}
use Rattle.rsvp_base.specs.Members.{In}
use Rattle.rsvp_base.specs.Orders.{Names, senders}
use Rattle.rsvp_base.specs.Table.{keys}
use Rattle.rsvp_base.specs.TokenBucket.{TokenBucket}
use Rattle.rsvp_base.proofs.Lists.{has_keys}
use Rattle.rsvp_base.proofs.Members.{tied_in}
use Rattle.rsvp_objects.specs.declared.adspec.Adspec.{Adspec}
use Rattle.rsvp_objects.specs.declared.object.Object.{Object}
use Rattle.rsvp_objects.specs.declared.object.Object.TheVariants as object
use Rattle.rsvp_objects.specs.Proper.{IsSender, IsSource, IsProper as IsProperObject}
use Rattle.rsvp_messages.specs.declared.ask.Ask.{Ask}
use Rattle.rsvp_messages.specs.declared.ask.Ask.TheVariants as ask
use Rattle.rsvp_messages.specs.declared.ask.Tear.{Tear}
use Rattle.rsvp_messages.specs.declared.ask.Tear.TheVariants as tear
use Rattle.rsvp_messages.specs.declared.message.Message.{Message}
use Rattle.rsvp_messages.specs.declared.message.Message.TheVariants as message
use Rattle.rsvp_messages.specs.Proper.{IsScope, WhereThere, IsProperAsk, IsProperTear, IsProperBlameOf, IsProper}
use Rattle.message_codec.proofs.ProperRead.{all_join}
use Rattle.message_codec.specs.Encoding.{IsFew, IsWritable}
use Rattle.message_codec.specs.Objects.{where_there, sender_objects, pair_objects, filter_objects, ask_objects, tear_objects, named_objects, blame_by_style, objects_of}
use Rattle.message_codec.specs.Ranges.{IsInRange, AreInRange}

-- ---- room

pub room_join : (xs ys : List Object) → AllByRecursion IsInRange xs → AllByRecursion IsInRange ys → AllByRecursion IsInRange (xs ++ ys)
room_join xs ys p q = all_join IsInRange xs ys p q

pub filters_room : (ss : List Sender) → AllByRecursion IsSender ss → AllByRecursion IsInRange (filter_objects ss)
filters_room [] h = tt
filters_room (s ∷ ss) h = (h.0, filters_room ss h.1)

-- ---- no ports in a SCOPE

abbrev HasNoPorts : Object → Type 0
HasNoPorts (object.Scope names) = IsScope names
HasNoPorts _ = Unit {0}

scope_ports : (scope : Option Names) → WhereThere IsScope scope → AllByRecursion HasNoPorts (where_there object.Scope scope)
scope_ports None h = tt
scope_ports (Some names) h = (h, tt)

flow_ports : (f : Option TokenBucket) → AllByRecursion HasNoPorts (where_there object.FlowOf f)
flow_ports None = tt
flow_ports (Some f) = (tt, tt)

confirm_ports : (a : Option Addr) → AllByRecursion HasNoPorts (where_there object.Confirm a)
confirm_ports None = tt
confirm_ports (Some a) = (tt, tt)

advert_ports : (a : Option Adspec) → AllByRecursion HasNoPorts (where_there object.Advert a)
advert_ports None = tt
advert_ports (Some a) = (tt, tt)

template_ports : (s : Option Sender) → AllByRecursion HasNoPorts (where_there object.Template s)
template_ports None = tt
template_ports (Some s) = (tt, tt)

offer_ports : (e : Option (Sender × TokenBucket)) → AllByRecursion HasNoPorts (sender_objects e)
offer_ports None = tt
offer_ports (Some e) = (tt, (tt, tt))

pairs_ports : (es : List (Sender × TokenBucket)) → AllByRecursion HasNoPorts (pair_objects es)
pairs_ports [] = tt
pairs_ports (e ∷ es) = (tt, (tt, pairs_ports es))

filters_ports : (ss : List Sender) → AllByRecursion HasNoPorts (filter_objects ss)
filters_ports [] = tt
filters_ports (s ∷ ss) = (tt, filters_ports ss)

named_ports : (names : Option Names) → AllByRecursion HasNoPorts (named_objects names)
named_ports None = tt
named_ports (Some names) = filters_ports (keys names)

ask_ports : (a : Ask) → IsProperAsk a → AllByRecursion HasNoPorts (ask_objects a)
ask_ports (ask.Wild scope f) h = all_join HasNoPorts (where_there object.Scope scope) (object.StyleOf Wild ∷ object.FlowOf f ∷ []) (scope_ports scope h.scope_is) (tt, (tt, tt))
ask_ports (ask.Fixed list) h = (tt, pairs_ports list.rows)
ask_ports (ask.Shared part) h = (tt, (tt, filters_ports (keys part.senders)))

tear_ports : (t : Tear) → IsProperTear t → AllByRecursion HasNoPorts (tear_objects t)
tear_ports (tear.Wild scope) h = all_join HasNoPorts (where_there object.Scope scope) (object.StyleOf Wild ∷ []) (scope_ports scope h) (tt, tt)
tear_ports (tear.Fixed names) h = (tt, filters_ports (keys names))
tear_ports (tear.Shared names) h = (tt, filters_ports (keys names))

blame_ports : (k : StyleKind) (names : Option Names) (f : Option TokenBucket) → IsProperBlameOf k names f → AllByRecursion HasNoPorts (blame_by_style k names f)
blame_ports Wild names f h = all_join HasNoPorts (where_there object.Scope names) (object.StyleOf Wild ∷ where_there object.FlowOf f) (scope_ports names h.0) (tt, flow_ports f)
blame_ports Fixed names f h = (tt, all_join HasNoPorts (where_there object.FlowOf f) (named_objects names) (flow_ports f) (named_ports names))
blame_ports Shared names f h = (tt, all_join HasNoPorts (where_there object.FlowOf f) (named_objects names) (flow_ports f) (named_ports names))

ports_of : (v : Message) → IsProper v → AllByRecursion HasNoPorts (objects_of v)
ports_of (message.Path v) h = (tt, (tt, (tt, all_join HasNoPorts (sender_objects v.sender) (where_there object.Advert v.adspec) (offer_ports v.sender) (advert_ports v.adspec))))
ports_of (message.Resv v) h = (tt, (tt, (tt, all_join HasNoPorts (where_there object.Confirm v.confirm) (ask_objects v.ask) (confirm_ports v.confirm) (ask_ports v.ask h))))
ports_of (message.PathErr v) h = (tt, (tt, template_ports v.sender))
ports_of (message.ResvErr v) h = (tt, (tt, (tt, blame_ports v.blame.style v.blame.senders v.blame.flow h)))
ports_of (message.PathTear v) h = (tt, (tt, template_ports v.sender))
ports_of (message.ResvTear v) h = (tt, (tt, tear_ports v.tear h))
ports_of (message.ResvConf v) h = (tt, (tt, (tt, ask_ports v.ask h.0)))

-- ---- together

sources : (ss : List Sender) → ((s : Sender) → In s ss → s.port ≡ 0) → AllByRecursion IsSender ss → AllByRecursion IsSource ss
sources [] p h = tt
sources (s ∷ ss) p h = (record { addr = h.0.addr; port = p s (inl refl) }, sources ss (λ t i. p t (inr i)) h.1)

proper_object : (x : Object) → IsInRange x → HasNoPorts x → IsProperObject x
proper_object (object.Session s police) h p = h
proper_object (object.HopOf x) h p = h
proper_object (object.Time n) h p = h
proper_object (object.Error e) h p = h
proper_object (object.Scope names) h p = record { few = h.0; sources = sources (keys names) (λ s i. p s (has_keys names s ∙ tied_in senders s (keys names) i)) h.1 }
proper_object (object.StyleOf k) h p = h
proper_object (object.FlowOf f) h p = h
proper_object (object.Filter s) h p = h
proper_object (object.Template s) h p = h
proper_object (object.Tspec f) h p = h
proper_object (object.Advert a) h p = h
proper_object (object.Confirm a) h p = h
proper_object (object.Skipped n) h p = h

proper_objects : (xs : List Object) → AllByRecursion IsInRange xs → AllByRecursion HasNoPorts xs → AllByRecursion IsProperObject xs
proper_objects [] h p = tt
proper_objects (x ∷ xs) h p = (proper_object x h.0 p.0, proper_objects xs h.1 p.1)

pub writable : (v : Message) → IsProper v → AreInRange v → IsFew v → IsWritable v
writable v proper range few = record { proper = proper; fields = proper_objects (objects_of v) range (ports_of v proper); few = few }
