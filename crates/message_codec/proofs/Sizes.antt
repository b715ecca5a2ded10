-- A message is written as at most 1,016 bytes behind its header.
use Rattle.std.proofs.Common.{◌≡◌, ◌+◌, ◌*◌, ◌≤◌, List, [], ◌∷◌, ◌++◌, length, length-append, Option, Some, None, refl, ap, ◌∙◌, arith}
use Rattle.std.proofs.lemmas.List.{length-map}
use Rattle.rsvp_base.specs.declared.addr.Addr.{Addr}
use Rattle.rsvp_base.specs.declared.session.Sender.{Sender}
use Rattle.rsvp_base.specs.declared.style.StyleKind.{StyleKind}
use Rattle.rsvp_base.specs.declared.style.StyleKind.TheVariants.{Wild, Fixed, Shared}
use Rattle.rsvp_base.specs.Orders.{Names}
use Rattle.rsvp_base.specs.Table.{keys, size}
use Rattle.rsvp_base.specs.TokenBucket.{TokenBucket}
use Rattle.rsvp_objects.specs.declared.adspec.Adspec.{Adspec}
use Rattle.rsvp_objects.proofs.AdspecAgain.{few_words}
use Rattle.rsvp_objects.proofs.Bytes.{body_size}
use Rattle.rsvp_objects.specs.declared.object.Object.{Object}
use Rattle.rsvp_objects.specs.declared.object.Object.TheVariants as object
use Rattle.rsvp_objects.specs.Spelling.{spelling}
use Rattle.rsvp_objects.proofs.Sources.{fours}
use Rattle.rsvp_messages.specs.declared.ask.Ask.{Ask}
use Rattle.rsvp_messages.specs.declared.ask.Ask.TheVariants as ask
use Rattle.rsvp_messages.specs.declared.ask.Tear.{Tear}
use Rattle.rsvp_messages.specs.declared.ask.Tear.TheVariants as tear
use Rattle.rsvp_messages.specs.declared.message.Message.{Message}
use Rattle.rsvp_messages.specs.declared.message.Message.TheVariants as message
use Rattle.message_codec.specs.Encoding.{spellings, body_of, IsAdvertFew, AreFew, IsAskFew, IsTearFew, IsFew}
use Rattle.message_codec.specs.Objects.{where_there, sender_objects, pair_objects, filter_objects, ask_objects, tear_objects, named_objects, blame_by_style}

-- ---- of any objects

pub spellings_join : (xs ys : List Object) → length (spellings (xs ++ ys)) ≡ length (spellings xs) + length (spellings ys)
spellings_join [] ys = omega arith
spellings_join (x ∷ xs) ys =
    let e = spellings_join xs ys in
    let a = length-append (spelling x) (spellings (xs ++ ys)) in
    let b = length-append (spelling x) (spellings xs) in
    omega arith

-- ---- of lists

pairs_long : (es : List (Sender × TokenBucket)) → length (spellings (pair_objects es)) ≡ 48 * length es
unfolding spelling
pairs_long [] = refl
pairs_long (e ∷ es) = omega (arith, pairs_long es)

filters_long : (ss : List Sender) → length (spellings (filter_objects ss)) ≡ 12 * length ss
unfolding spelling
filters_long [] = refl
filters_long (s ∷ ss) = omega (arith, filters_long ss)

named_long : (names : Names) → length (spellings (filter_objects (keys names))) ≡ 12 * size names
named_long names = filters_long (keys names) ∙ ap (λ n. 12 * n) (length-map names.rows (λ e. e.0))

scope_long : (scope : Option Names) → AreFew scope → length (spellings (where_there object.Scope scope)) ≤ 72
unfolding spelling
scope_long None few = omega arith
scope_long (Some names) few =
    let bytes = fours (keys names) in
    let rows = length-map names.rows (λ e. e.0) in
    let e = length-append (spelling (object.Scope names)) [] in
    omega arith

flow_long : (f : Option TokenBucket) → length (spellings (where_there object.FlowOf f)) ≤ 36
unfolding spelling
flow_long None = omega arith
flow_long (Some f) = omega arith

template_long : (s : Option Sender) → length (spellings (where_there object.Template s)) ≤ 12
unfolding spelling
template_long None = omega arith
template_long (Some s) = omega arith

confirm_long : (a : Option Addr) → length (spellings (where_there object.Confirm a)) ≤ 8
unfolding spelling
confirm_long None = omega arith
confirm_long (Some a) = omega arith

advert_long : (a : Option Adspec) → IsAdvertFew a → length (spellings (where_there object.Advert a)) ≤ 144
unfolding spelling
advert_long None few = omega arith
advert_long (Some a) few =
    let size = body_size a in
    let most = few_words a.load a.others few in
    let e = length-append (spelling (object.Advert a)) [] in
    omega arith

sender_long : (e : Option (Sender × TokenBucket)) → length (spellings (sender_objects e)) ≤ 48
unfolding spelling
sender_long None = omega arith
sender_long (Some e) = omega arith

names_long : (names : Option Names) → AreFew names → length (spellings (named_objects names)) ≤ 192
names_long None h = omega arith
names_long (Some names) h = omega (arith, named_long names)

ask_long : (a : Ask) → IsAskFew a → length (spellings (ask_objects a)) ≤ 776
unfolding spelling
ask_long (ask.Wild scope f) few =
    let s = scope_long scope few in
    let e = spellings_join (where_there object.Scope scope) (object.StyleOf Wild ∷ object.FlowOf f ∷ []) in
    omega arith
ask_long (ask.Fixed list) few = omega (arith, pairs_long list.rows)
ask_long (ask.Shared part) few = omega (arith, named_long part.senders)

tear_long : (t : Tear) → IsTearFew t → length (spellings (tear_objects t)) ≤ 204
unfolding spelling
tear_long (tear.Wild scope) few =
    let s = scope_long scope few in
    let e = spellings_join (where_there object.Scope scope) (object.StyleOf Wild ∷ []) in
    omega arith
tear_long (tear.Fixed names) few = omega (arith, named_long names)
tear_long (tear.Shared names) few = omega (arith, named_long names)

blame_long : (k : StyleKind) (names : Option Names) (f : Option TokenBucket) → AreFew names → length (spellings (blame_by_style k names f)) ≤ 240
unfolding spelling
blame_long Wild names f few =
    let s = scope_long names few in
    let e = spellings_join (where_there object.Scope names) (object.StyleOf Wild ∷ where_there object.FlowOf f) in
    let g = flow_long f in
    omega arith
blame_long Fixed names f few =
    let e = spellings_join (where_there object.FlowOf f) (named_objects names) in
    let g = flow_long f in
    let n = names_long names few in
    omega arith
blame_long Shared names f few =
    let e = spellings_join (where_there object.FlowOf f) (named_objects names) in
    let g = flow_long f in
    let n = names_long names few in
    omega arith

-- ---- of messages

pub body_short : (v : Message) → IsFew v → length (body_of v) ≤ 1016
unfolding spelling
body_short (message.Path v) few =
    let e = spellings_join (sender_objects v.sender) (where_there object.Advert v.adspec) in
    let s = sender_long v.sender in
    let a = advert_long v.adspec few in
    omega arith
body_short (message.Resv v) few =
    let e = spellings_join (where_there object.Confirm v.confirm) (ask_objects v.ask) in
    let c = confirm_long v.confirm in
    let a = ask_long v.ask few in
    omega arith
body_short (message.PathErr v) few = omega (arith, template_long v.sender)
body_short (message.ResvErr v) few = omega (arith, blame_long v.blame.style v.blame.senders v.blame.flow few)
body_short (message.PathTear v) few = omega (arith, template_long v.sender)
body_short (message.ResvTear v) few = omega (arith, tear_long v.tear few)
body_short (message.ResvConf v) few = omega (arith, ask_long v.ask few)
