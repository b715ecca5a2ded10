-- What is written for a message is read as that message.
use Rattle.std.proofs.Common.{◌≡◌, ℕ, ◌+◌, ◌/◌, ◌<◌, ◌≤◌, Bool, true, false, List, [], ◌∷◌, ◌++◌, length, Option, Some, None, refl, sym, ap, subst, ◌∙◌, arith}
use Rattle.std.specs.Prelude.{◌||◌, ◌==◌}
use Rattle.std.proofs.lemmas.Bool.{le-ltb, eq-eqb}
use Rattle.std.proofs.lemmas.List.{length-map}
use Rattle.rsvp_base.specs.declared.addr.Addr.{Addr}
use Rattle.rsvp_base.specs.declared.err_spec.ErrSpec.{ErrSpec}
use Rattle.rsvp_base.specs.declared.hop.Hop.{Hop}
use Rattle.rsvp_base.specs.declared.session.Sender.{Sender}
use Rattle.rsvp_base.specs.declared.session.Session.{Session}
use Rattle.rsvp_base.specs.declared.style.StyleKind.{StyleKind}
use Rattle.rsvp_base.specs.declared.style.StyleKind.TheVariants.{Wild, Fixed, Shared}
use Rattle.rsvp_base.specs.Orders.{Names, names_from}
use Rattle.rsvp_base.specs.Table.{empty, keys, size, with_rows}
use Rattle.rsvp_base.specs.TokenBucket.{TokenBucket}
use Rattle.rsvp_objects.specs.declared.adspec.Adspec.{Adspec}
use Rattle.rsvp_objects.specs.declared.object.Object.{Object}
use Rattle.rsvp_objects.specs.declared.object.Object.TheVariants as object
use Rattle.rsvp_objects.specs.Fields.{AreBytes, byte_at, half_at}
use Rattle.rsvp_messages.specs.declared.ask.Ask.{Ask}
use Rattle.rsvp_messages.specs.declared.ask.Ask.TheVariants as ask
use Rattle.rsvp_messages.specs.declared.ask.Blame.{Blame}
use Rattle.rsvp_messages.specs.declared.ask.Tear.{Tear}
use Rattle.rsvp_messages.specs.declared.ask.Tear.TheVariants as tear
use Rattle.rsvp_messages.specs.declared.message.Kind.{Kind}
use Rattle.rsvp_messages.specs.declared.message.Kind.TheVariants as kind
use Rattle.rsvp_messages.specs.declared.message.Message.{Message}
use Rattle.rsvp_messages.specs.declared.message.Message.TheVariants as message
use Rattle.rsvp_messages.specs.FlowTable.{FlowTable}
use Rattle.rsvp_messages.specs.Kinds.{kind_of}
use Rattle.rsvp_messages.specs.Proper.{IsProperAsk, HasNoScope, IsProperTear, IsProperBlameOf}
use Rattle.message_codec.specs.declared.seen.Seen.{Seen}
use Rattle.message_codec.specs.Messages.{named, first_named, names_in, pairs_in, table_of_pairs, ask_of, tear_of, blame_of, message_of, path_of, resv_of, path_err_of, resv_err_of}
use Rattle.message_codec.specs.Messages.{path_tear_of, resv_tear_of, resv_conf_of}
use Rattle.message_codec.specs.Places.{has_place, is_repeated, stood}
use Rattle.message_codec.specs.Said.{last_said, filters_after, with_object}
use Rattle.message_codec.specs.Spells.{kind_with, header_of, Spells}
use Rattle.message_codec.specs.Sum.{ones_sum, is_right}
use Rattle.message_codec.specs.Table.{role_of}
use Rattle.message_codec.proofs.Spelling.{spells_of}
use Rattle.message_codec.proofs.Standing.{good}
use Rattle.message_codec.specs.Encoding.{kind_number, header, checksum, sealed, body_of, encoding, AreFew, IsAskFew, IsTearFew, IsWritable}
use Rattle.message_codec.specs.Objects.{where_there, sender_objects, pair_objects, filter_objects, ask_objects, tear_objects, blame_by_style, objects_of}
use Rattle.message_codec.proofs.Fitting.{fits, Fit, with_objects, start, says}
use Rattle.message_codec.proofs.Listed.{IsAt, Takes, filters_fit, filters_end, IsEven, TakesPairs, pairs_fit, pairs_end, pairs_flow}
use Rattle.message_codec.proofs.Own.{Filter, names_again, table_again, above_none, paired, pairs_again, with_flow, senders_again}
use Rattle.message_codec.proofs.Sizes.{body_short}

at_start : (n : ℕ) → n ≤ 16 → 0 + n ≤ 16
at_start n h = omega arith

-- ---- where lists may stand

resv_shared : (f : TokenBucket) → Takes kind.Resv (Some Shared) (Some f)
unfolding has_place is_repeated role_of
resv_shared f = record { place = λ t e g. rw (e, g) refl; once = λ t. refl; read = refl }

conf_shared : (f : TokenBucket) → Takes kind.ResvConf (Some Shared) (Some f)
unfolding has_place is_repeated role_of
conf_shared f = record { place = λ t e g. rw (e, g) refl; once = λ t. refl; read = refl }

err_shared : (f : TokenBucket) → Takes kind.ResvErr (Some Shared) (Some f)
unfolding has_place is_repeated role_of
err_shared f = record { place = λ t e g. rw (e, g) refl; once = λ t. refl; read = refl }

tear_fixed : Takes kind.ResvTear (Some Fixed) None
unfolding has_place is_repeated role_of
tear_fixed = record { place = λ t e g. rw e refl; once = λ t. refl; read = refl }

tear_shared : Takes kind.ResvTear (Some Shared) None
unfolding has_place is_repeated role_of
tear_shared = record { place = λ t e g. rw e refl; once = λ t. refl; read = refl }

resv_pairs : TakesPairs kind.Resv
unfolding has_place is_repeated role_of
resv_pairs = record { flow_place = λ t e d. rw (e, d) refl; flow_once = λ t. refl; flow_read = refl; filter = λ f. record { place = λ t e g. rw (e, g) refl; once = λ t. refl; read = refl } }

conf_pairs : TakesPairs kind.ResvConf
unfolding has_place is_repeated role_of
conf_pairs = record { flow_place = λ t e d. rw (e, d) refl; flow_once = λ t. refl; flow_read = refl; filter = λ f. record { place = λ t e g. rw (e, g) refl; once = λ t. refl; read = refl } }

-- ---- what lists make

some_named : (es : List Filter) → 0 < length es → named es ≡ Some (names_in es)
some_named [] h = absurd (omega arith)
some_named (e ∷ es) h = refl

named_again : (f : Option TokenBucket) (names : Names) (es : List Filter) → es ≡ with_flow f (keys names) → 0 < size names → named es ≡ Some names
named_again f names es is some =
    let long : 0 < length (with_flow f (keys names)) = omega (arith, length-map {B = Filter} (keys names) (λ (s : Sender). (s, f)), length-map names.rows (λ e. e.0)) in
    let all : names_in (with_flow f (keys names)) ≡ names = ap names_from (senders_again f (keys names)) ∙ names_again names in
    ap named is ∙ some_named (with_flow f (keys names)) long ∙ ap (λ (n : Names). Some n) all

some_pairs : (es : List (Sender × TokenBucket)) → 0 < length es → table_of_pairs es ≡ Some (with_rows empty es)
some_pairs [] h = absurd (omega arith)
some_pairs (e ∷ es) h = refl

table_read : (t : FlowTable) (es : List Filter) → es ≡ paired t.rows → 0 < size t → table_of_pairs (pairs_in es) ≡ Some t
table_read t es is some = ap (λ (fs : List Filter). table_of_pairs (pairs_in fs)) is ∙ ap table_of_pairs (pairs_again t.rows) ∙ some_pairs t.rows some ∙ ap (λ (u : FlowTable). Some u) (table_again t)

ask_fixed : (scope : Option Names) (due : Bool) (es : List Filter) (f : TokenBucket) (t : FlowTable) → due ≡ false → es ≡ paired t.rows → 0 < size t → ask_of scope due es f Fixed ≡ good (ask.Fixed t)
ask_fixed scope due es f t even is some = rw (even, table_read t es is some) refl

ask_shared : (scope : Option Names) (due : Bool) (es : List Filter) (f : TokenBucket) (g : Option TokenBucket) (names : Names) → es ≡ with_flow g (keys names) → 0 < size names
    → ask_of scope due es f Shared ≡ good (ask.Shared (record { senders = names; flow = f }))
ask_shared scope due es f g names is some = rw (named_again g names es is some) refl

-- ---- what all objects make

resv_made : (s : Seen) (x : Session × Bool) (h : Hop) (t : ℕ) (k : StyleKind) (f : TokenBucket) (a : Ask) → s.session ≡ Some x → s.hop ≡ Some h → s.period ≡ Some t → s.style ≡ Some k
    → s.flow ≡ Some f → ask_of s.scope s.due s.filters f k ≡ good a
    → message_of kind.Resv s ≡ good (message.Resv (record { session = x.0; hop = h; period = t; confirm = s.confirm; ask = a }))
unfolding message_of resv_of
resv_made s x h t k f a e1 e2 e3 e4 e5 e6 = rw (e1, e2, e3, e4, e5, e6) refl

conf_made : (s : Seen) (x : Session × Bool) (e : ErrSpec) (k : StyleKind) (f : TokenBucket) (a : Ask) (c : Addr) → s.session ≡ Some x → s.error ≡ Some e → s.style ≡ Some k → s.flow ≡ Some f
    → ask_of None s.due s.filters f k ≡ good a → s.confirm ≡ Some c
    → message_of kind.ResvConf s ≡ good (message.ResvConf (record { session = x.0; err = e; confirm = c; ask = a }))
unfolding message_of resv_conf_of
conf_made s x e k f a c e1 e2 e3 e4 e5 e6 = rw (e1, e2, e3, e4, e5, e6) refl

tear_made : (s : Seen) (x : Session × Bool) (h : Hop) (k : StyleKind) (t : Tear) → s.session ≡ Some x → s.hop ≡ Some h → s.style ≡ Some k → tear_of s.scope s.filters k ≡ good t
    → message_of kind.ResvTear s ≡ good (message.ResvTear (record { session = x.0; hop = h; tear = t }))
unfolding message_of resv_tear_of
tear_made s x h k t e1 e2 e3 e4 = rw (e1, e2, e3, e4) refl

err_made : (s : Seen) (x : Session × Bool) (h : Hop) (e : ErrSpec) (k : StyleKind) (b : Blame) → s.session ≡ Some x → s.hop ≡ Some h → s.error ≡ Some e → s.style ≡ Some k
    → blame_of s.scope s.filters s.flow k ≡ good b
    → message_of kind.ResvErr s ≡ good (message.ResvErr (record { session = x.0; hop = h; err = e; blame = b }))
unfolding message_of resv_err_of
err_made s x h e k b e1 e2 e3 e4 e5 = rw (e1, e2, e3, e4, e5) refl

-- ---- each kind

abbrev path_front : Session → Bool → Hop → ℕ → Option (Sender × TokenBucket) → Option Adspec → List Object
path_front s p h t e a = object.Session s p ∷ object.HopOf h ∷ object.Time t ∷ sender_objects e ++ where_there object.Advert a

path_fit : (s : Session) (p : Bool) (h : Hop) (t : ℕ) (e : Option (Sender × TokenBucket)) (a : Option Adspec) → Fit kind.Path start (path_front s p h t e a)
unfolding has_place is_repeated role_of stood last_said filters_after with_object
path_fit s p h t None None = (fits _ _ _ refl refl refl (λ at. refl), (fits _ _ _ refl refl refl (λ at. refl), (fits _ _ _ refl refl refl (λ at. refl), tt)))
path_fit s p h t None (Some a) = (
  fits _ _ _ refl refl refl (λ at. refl),
  (
    fits _ _ _ refl refl refl (λ at. refl),
    (fits _ _ _ refl refl refl (λ at. refl), (fits _ _ _ refl refl refl (λ at. refl), tt)),
  ),
)
path_fit s p h t (Some e) None = (
  fits _ _ _ refl refl refl (λ at. refl),
  (
    fits _ _ _ refl refl refl (λ at. refl),
    (fits _ _ _ refl refl refl (λ at. refl), (fits _ _ _ refl refl refl (λ at. refl), (fits _ _ _ refl refl refl (λ at. refl), tt))),
  ),
)
path_fit s p h t (Some e) (Some a) = (
  fits _ _ _ refl refl refl (λ at. refl),
  (
    fits _ _ _ refl refl refl (λ at. refl),
    (
      fits _ _ _ refl refl refl (λ at. refl),
      (fits _ _ _ refl refl refl (λ at. refl), (fits _ _ _ refl refl refl (λ at. refl), (fits _ _ _ refl refl refl (λ at. refl), tt))),
    ),
  ),
)

path_message : (s : Session) (p : Bool) (h : Hop) (t : ℕ) (e : Option (Sender × TokenBucket)) (a : Option Adspec)
    → message_of kind.Path (with_objects start (path_front s p h t e a)) ≡ good (message.Path (record { session = s; police = p; hop = h; period = t; sender = e; adspec = a }))
unfolding message_of path_of last_said filters_after with_object
path_message s p h t None None = refl
path_message s p h t None (Some a) = refl
path_message s p h t (Some e) None = refl
path_message s p h t (Some e) (Some a) = refl

path_err_fit : (s : Session) (e : ErrSpec) (o : Option Sender) → Fit kind.PathErr start (object.Session s false ∷ object.Error e ∷ where_there object.Template o)
unfolding has_place is_repeated role_of stood last_said filters_after with_object
path_err_fit s e None = (fits _ _ _ refl refl refl (λ at. refl), (fits _ _ _ refl refl refl (λ at. refl), tt))
path_err_fit s e (Some x) = (fits _ _ _ refl refl refl (λ at. refl), (fits _ _ _ refl refl refl (λ at. refl), (fits _ _ _ refl refl refl (λ at. refl), tt)))

path_err_message : (s : Session) (e : ErrSpec) (o : Option Sender)
    → message_of kind.PathErr (with_objects start (object.Session s false ∷ object.Error e ∷ where_there object.Template o)) ≡ good (message.PathErr (record { session = s; err = e; sender = o }))
unfolding message_of path_err_of last_said filters_after with_object
path_err_message s e None = refl
path_err_message s e (Some x) = refl

path_tear_fit : (s : Session) (h : Hop) (o : Option Sender) → Fit kind.PathTear start (object.Session s false ∷ object.HopOf h ∷ where_there object.Template o)
unfolding has_place is_repeated role_of stood last_said filters_after with_object
path_tear_fit s h None = (fits _ _ _ refl refl refl (λ at. refl), (fits _ _ _ refl refl refl (λ at. refl), tt))
path_tear_fit s h (Some x) = (fits _ _ _ refl refl refl (λ at. refl), (fits _ _ _ refl refl refl (λ at. refl), (fits _ _ _ refl refl refl (λ at. refl), tt)))

path_tear_message : (s : Session) (h : Hop) (o : Option Sender)
    → message_of kind.PathTear (with_objects start (object.Session s false ∷ object.HopOf h ∷ where_there object.Template o)) ≡ good (message.PathTear (record { session = s; hop = h; sender = o }))
unfolding message_of path_tear_of last_said filters_after with_object
path_tear_message s h None = refl
path_tear_message s h (Some x) = refl

abbrev resv_front : Session → Hop → ℕ → Option Addr → Ask → List Object
resv_front s h t c a = object.Session s false ∷ object.HopOf h ∷ object.Time t ∷ where_there object.Confirm c ++ ask_objects a

resv_fit : (s : Session) (h : Hop) (t : ℕ) (c : Option Addr) (a : Ask) → IsAskFew a → Fit kind.Resv start (resv_front s h t c a)
unfolding has_place is_repeated role_of stood last_said filters_after with_object
resv_fit s h t None (ask.Wild None f) few = (
  fits _ _ _ refl refl refl (λ at. refl),
  (
    fits _ _ _ refl refl refl (λ at. refl),
    (fits _ _ _ refl refl refl (λ at. refl), (fits _ _ _ refl refl refl (λ at. refl), (fits _ _ _ refl refl refl (λ at. refl), tt))),
  ),
)
resv_fit s h t None (ask.Wild (Some y) f) few = (
  fits _ _ _ refl refl refl (λ at. refl),
  (
    fits _ _ _ refl refl refl (λ at. refl),
    (
      fits _ _ _ refl refl refl (λ at. refl),
      (fits _ _ _ refl refl refl (λ at. refl), (fits _ _ _ refl refl refl (λ at. refl), (fits _ _ _ refl refl refl (λ at. refl), tt))),
    ),
  ),
)
resv_fit s h t (Some z) (ask.Wild None f) few = (
  fits _ _ _ refl refl refl (λ at. refl),
  (
    fits _ _ _ refl refl refl (λ at. refl),
    (
      fits _ _ _ refl refl refl (λ at. refl),
      (fits _ _ _ refl refl refl (λ at. refl), (fits _ _ _ refl refl refl (λ at. refl), (fits _ _ _ refl refl refl (λ at. refl), tt))),
    ),
  ),
)
resv_fit s h t (Some z) (ask.Wild (Some y) f) few = (
  fits _ _ _ refl refl refl (λ at. refl),
  (
    fits _ _ _ refl refl refl (λ at. refl),
    (
      fits _ _ _ refl refl refl (λ at. refl),
      (fits _ _ _ refl refl refl (λ at. refl), (fits _ _ _ refl refl refl (λ at. refl), (fits _ _ _ refl refl refl (λ at. refl), (fits _ _ _ refl refl refl (λ at. refl), tt)))),
    ),
  ),
)
resv_fit s h t None (ask.Fixed l) few = (
  fits _ _ _ refl refl refl (λ at. refl),
  (
    fits _ _ _ refl refl refl (λ at. refl),
    (
      fits _ _ _ refl refl refl (λ at. refl),
      (
        fits _ _ _ refl refl refl (λ at. refl),
        pairs_fit kind.Resv resv_pairs l.rows [] _ (record { style = refl; due = refl; filters = refl }) l.sorted (above_none l.rows)
            (at_start (length l.rows) few),
      ),
    ),
  ),
)
resv_fit s h t (Some z) (ask.Fixed l) few = (
  fits _ _ _ refl refl refl (λ at. refl),
  (
    fits _ _ _ refl refl refl (λ at. refl),
    (
      fits _ _ _ refl refl refl (λ at. refl),
      (
        fits _ _ _ refl refl refl (λ at. refl),
        (
          fits _ _ _ refl refl refl (λ at. refl),
          pairs_fit kind.Resv resv_pairs l.rows [] _ (record { style = refl; due = refl; filters = refl }) l.sorted (above_none l.rows) (at_start (length l.rows) few),
        ),
      ),
    ),
  ),
)
resv_fit s h t None (ask.Shared p) few = (
  fits _ _ _ refl refl refl (λ at. refl),
  (
    fits _ _ _ refl refl refl (λ at. refl),
    (
      fits _ _ _ refl refl refl (λ at. refl),
      (
        fits _ _ _ refl refl refl (λ at. refl),
        (
          fits _ _ _ refl refl refl (λ at. refl),
          filters_fit kind.Resv (Some Shared) (Some p.flow) (resv_shared p.flow) p.senders.rows [] _ (record { style = refl; flow = refl; filters = refl }) p.senders.sorted (above_none p.senders.rows)
              (at_start (length p.senders.rows) few),
        ),
      ),
    ),
  ),
)
resv_fit s h t (Some z) (ask.Shared p) few = (
  fits _ _ _ refl refl refl (λ at. refl),
  (
    fits _ _ _ refl refl refl (λ at. refl),
    (
      fits _ _ _ refl refl refl (λ at. refl),
      (
        fits _ _ _ refl refl refl (λ at. refl),
        (
          fits _ _ _ refl refl refl (λ at. refl),
          (
            fits _ _ _ refl refl refl (λ at. refl),
            filters_fit kind.Resv (Some Shared) (Some p.flow) (resv_shared p.flow) p.senders.rows [] _
                (record { style = refl; flow = refl; filters = refl }) p.senders.sorted (above_none p.senders.rows) (at_start (length p.senders.rows) few),
          ),
        ),
      ),
    ),
  ),
)

-- behind the STYLE of FF, and behind the FLOWSPEC of SE
resv_fixed : (z : Seen) (x : Session × Bool) (h : Hop) (t : ℕ) (l : FlowTable) → 0 < size l → IsEven z [] → z.session ≡ Some x → z.hop ≡ Some h → z.period ≡ Some t
    → message_of kind.Resv (with_objects z (pair_objects l.rows)) ≡ good (message.Resv (record { session = x.0; hop = h; period = t; confirm = z.confirm; ask = ask.Fixed l }))
resv_fixed z x h t l some at e1 e2 e3 =
    let end = with_objects z (pair_objects l.rows) in
    let r = pairs_end l.rows [] z at in
    let f = pairs_flow l.rows z some in
    resv_made end x h t Fixed f.0 (ask.Fixed l) (r.1.session ∙ e1) (r.1.hop ∙ e2) (r.1.period ∙ e3) r.0.style f.1 (ask_fixed end.scope end.due end.filters f.0 l r.0.due r.0.filters some)
    ∙ ap (λ (c : Option Addr). good (message.Resv (record { session = x.0; hop = h; period = t; confirm = c; ask = ask.Fixed l }))) r.1.confirm

resv_listed : (z : Seen) (x : Session × Bool) (h : Hop) (t : ℕ) (names : Names) (g : TokenBucket) → 0 < size names → IsAt z (Some Shared) (Some g) [] → z.session ≡ Some x → z.hop ≡ Some h
    → z.period ≡ Some t
    → message_of kind.Resv (with_objects z (filter_objects (keys names))) ≡ good (message.Resv
    (record { session = x.0; hop = h; period = t; confirm = z.confirm; ask = ask.Shared (record { senders = names; flow = g }) }))
resv_listed z x h t names g some at e1 e2 e3 =
    let end = with_objects z (filter_objects (keys names)) in
    let r = filters_end (Some Shared) (Some g) (keys names) [] z at in
    resv_made end x h t Shared g (ask.Shared (record { senders = names; flow = g })) (r.1.session ∙ e1) (r.1.hop ∙ e2) (r.1.period ∙ e3) r.0.style r.0.flow
    (ask_shared end.scope end.due end.filters g (Some g) names r.0.filters some)
    ∙ ap (λ (c : Option Addr). good (message.Resv (record { session = x.0; hop = h; period = t; confirm = c; ask = ask.Shared (record { senders = names; flow = g }) }))) r.1.confirm

resv_message : (s : Session) (h : Hop) (t : ℕ) (c : Option Addr) (a : Ask) → IsProperAsk a
    → message_of kind.Resv (with_objects start (resv_front s h t c a)) ≡ good (message.Resv (record { session = s; hop = h; period = t; confirm = c; ask = a }))
unfolding message_of resv_of last_said filters_after with_object
resv_message s h t None (ask.Wild None f) k = refl
resv_message s h t None (ask.Wild (Some y) f) k = refl
resv_message s h t (Some z) (ask.Wild None f) k = refl
resv_message s h t (Some z) (ask.Wild (Some y) f) k = refl
resv_message s h t None (ask.Fixed l) k = resv_fixed _ (s, false) h t l k.some (record { style = refl; due = refl; filters = refl }) refl refl refl
resv_message s h t (Some z) (ask.Fixed l) k = resv_fixed _ (s, false) h t l k.some (record { style = refl; due = refl; filters = refl }) refl refl refl
resv_message s h t None (ask.Shared p) k = resv_listed _ (s, false) h t p.senders p.flow k.some (record { style = refl; flow = refl; filters = refl }) refl refl refl
resv_message s h t (Some z) (ask.Shared p) k = resv_listed _ (s, false) h t p.senders p.flow k.some (record { style = refl; flow = refl; filters = refl }) refl refl refl

-- ---- ResvConf

abbrev conf_front : Session → ErrSpec → Addr → Ask → List Object
conf_front s e c a = object.Session s false ∷ object.Error e ∷ object.Confirm c ∷ ask_objects a

conf_fit : (s : Session) (e : ErrSpec) (c : Addr) (a : Ask) → HasNoScope a → IsAskFew a → Fit kind.ResvConf start (conf_front s e c a)
unfolding has_place is_repeated role_of stood last_said filters_after with_object
conf_fit s e c (ask.Wild None f) none few = (
  fits _ _ _ refl refl refl (λ at. refl),
  (
    fits _ _ _ refl refl refl (λ at. refl),
    (fits _ _ _ refl refl refl (λ at. refl), (fits _ _ _ refl refl refl (λ at. refl), (fits _ _ _ refl refl refl (λ at. refl), tt))),
  ),
)
conf_fit s e c (ask.Wild (Some y) f) none few = absurd (let z = none in cc)
conf_fit s e c (ask.Fixed l) none few = (
  fits _ _ _ refl refl refl (λ at. refl),
  (
    fits _ _ _ refl refl refl (λ at. refl),
    (
      fits _ _ _ refl refl refl (λ at. refl),
      (
        fits _ _ _ refl refl refl (λ at. refl),
        pairs_fit kind.ResvConf conf_pairs l.rows [] _ (record { style = refl; due = refl; filters = refl }) l.sorted (above_none l.rows)
            (at_start (length l.rows) few),
      ),
    ),
  ),
)
conf_fit s e c (ask.Shared p) none few = (
  fits _ _ _ refl refl refl (λ at. refl),
  (
    fits _ _ _ refl refl refl (λ at. refl),
    (
      fits _ _ _ refl refl refl (λ at. refl),
      (
        fits _ _ _ refl refl refl (λ at. refl),
        (
          fits _ _ _ refl refl refl (λ at. refl),
          filters_fit kind.ResvConf (Some Shared) (Some p.flow) (conf_shared p.flow) p.senders.rows [] _ (record { style = refl; flow = refl; filters = refl }) p.senders.sorted
              (above_none p.senders.rows) (at_start (length p.senders.rows) few),
        ),
      ),
    ),
  ),
)

conf_fixed : (z : Seen) (x : Session × Bool) (e : ErrSpec) (c : Addr) (l : FlowTable) → 0 < size l → IsEven z [] → z.session ≡ Some x → z.error ≡ Some e → z.confirm ≡ Some c
    → message_of kind.ResvConf (with_objects z (pair_objects l.rows)) ≡ good (message.ResvConf (record { session = x.0; err = e; confirm = c; ask = ask.Fixed l }))
conf_fixed z x e c l some at e1 e2 e3 =
    let end = with_objects z (pair_objects l.rows) in
    let r = pairs_end l.rows [] z at in
    let f = pairs_flow l.rows z some in
    conf_made end x e Fixed f.0 (ask.Fixed l) c (r.1.session ∙ e1) (r.1.error ∙ e2) r.0.style f.1 (ask_fixed None end.due end.filters f.0 l r.0.due r.0.filters some) (r.1.confirm ∙ e3)

conf_listed : (z : Seen) (x : Session × Bool) (e : ErrSpec) (c : Addr) (names : Names) (g : TokenBucket) → 0 < size names → IsAt z (Some Shared) (Some g) [] → z.session ≡ Some x → z.error ≡ Some e
    → z.confirm ≡ Some c
    → message_of kind.ResvConf (with_objects z (filter_objects (keys names))) ≡ good (message.ResvConf
    (record { session = x.0; err = e; confirm = c; ask = ask.Shared (record { senders = names; flow = g }) }))
conf_listed z x e c names g some at e1 e2 e3 =
    let end = with_objects z (filter_objects (keys names)) in
    let r = filters_end (Some Shared) (Some g) (keys names) [] z at in
    conf_made end x e Shared g (ask.Shared (record { senders = names; flow = g })) c (r.1.session ∙ e1) (r.1.error ∙ e2) r.0.style r.0.flow
    (ask_shared None end.due end.filters g (Some g) names r.0.filters some) (r.1.confirm ∙ e3)

conf_message : (s : Session) (e : ErrSpec) (c : Addr) (a : Ask) → IsProperAsk a → HasNoScope a
    → message_of kind.ResvConf (with_objects start (conf_front s e c a)) ≡ good (message.ResvConf (record { session = s; err = e; confirm = c; ask = a }))
unfolding message_of resv_conf_of last_said filters_after with_object
conf_message s e c (ask.Wild None f) k none = refl
conf_message s e c (ask.Wild (Some y) f) k none = absurd (let z = none in cc)
conf_message s e c (ask.Fixed l) k none = conf_fixed _ (s, false) e c l k.some (record { style = refl; due = refl; filters = refl }) refl refl refl
conf_message s e c (ask.Shared p) k none = conf_listed _ (s, false) e c p.senders p.flow k.some (record { style = refl; flow = refl; filters = refl }) refl refl refl

-- ---- ResvTear

abbrev tear_front : Session → Hop → Tear → List Object
tear_front s h t = object.Session s false ∷ object.HopOf h ∷ tear_objects t

tear_fit : (s : Session) (h : Hop) (t : Tear) → IsTearFew t → Fit kind.ResvTear start (tear_front s h t)
unfolding has_place is_repeated role_of stood last_said filters_after with_object
tear_fit s h (tear.Wild None) few = (fits _ _ _ refl refl refl (λ at. refl), (fits _ _ _ refl refl refl (λ at. refl), (fits _ _ _ refl refl refl (λ at. refl), tt)))
tear_fit s h (tear.Wild (Some y)) few = (
  fits _ _ _ refl refl refl (λ at. refl),
  (
    fits _ _ _ refl refl refl (λ at. refl),
    (fits _ _ _ refl refl refl (λ at. refl), (fits _ _ _ refl refl refl (λ at. refl), tt)),
  ),
)
tear_fit s h (tear.Fixed n) few = (
  fits _ _ _ refl refl refl (λ at. refl),
  (
    fits _ _ _ refl refl refl (λ at. refl),
    (
      fits _ _ _ refl refl refl (λ at. refl),
      filters_fit kind.ResvTear (Some Fixed) None tear_fixed n.rows [] _ (record { style = refl; flow = refl; filters = refl }) n.sorted (above_none n.rows)
          (at_start (length n.rows) few),
    ),
  ),
)
tear_fit s h (tear.Shared n) few = (
  fits _ _ _ refl refl refl (λ at. refl),
  (
    fits _ _ _ refl refl refl (λ at. refl),
    (
      fits _ _ _ refl refl refl (λ at. refl),
      filters_fit kind.ResvTear (Some Shared) None tear_shared n.rows [] _ (record { style = refl; flow = refl; filters = refl }) n.sorted (above_none n.rows)
          (at_start (length n.rows) few),
    ),
  ),
)

torn : (scope : Option Names) (es : List Filter) (names : Names) → named es ≡ Some names → (tear_of scope es Fixed ≡ good (tear.Fixed names)) × (tear_of scope es Shared ≡ good (tear.Shared names))
torn scope es names e = (rw e refl, rw e refl)

tear_listed : (z : Seen) (x : Session × Bool) (h : Hop) (k : StyleKind) (t : Tear) (names : Names) → 0 < size names → IsAt z (Some k) None [] → z.session ≡ Some x → z.hop ≡ Some h
    → ((scope : Option Names) (es : List Filter) → named es ≡ Some names → tear_of scope es k ≡ good t)
    → message_of kind.ResvTear (with_objects z (filter_objects (keys names))) ≡ good (message.ResvTear (record { session = x.0; hop = h; tear = t }))
tear_listed z x h k t names some at e1 e2 made =
    let end = with_objects z (filter_objects (keys names)) in
    let r = filters_end (Some k) None (keys names) [] z at in
    tear_made end x h k t (r.1.session ∙ e1) (r.1.hop ∙ e2) r.0.style (made end.scope end.filters (named_again None names end.filters r.0.filters some))

tear_message : (s : Session) (h : Hop) (t : Tear) → IsProperTear t → message_of kind.ResvTear (with_objects start (tear_front s h t))
    ≡ good (message.ResvTear (record { session = s; hop = h; tear = t }))
unfolding message_of resv_tear_of last_said filters_after with_object
tear_message s h (tear.Wild None) k = refl
tear_message s h (tear.Wild (Some y)) k = refl
tear_message s h (tear.Fixed n) k = tear_listed _ (s, false) h Fixed (tear.Fixed n) n k (record { style = refl; flow = refl; filters = refl }) refl refl (λ scope es e. (torn scope es n e).0)
tear_message s h (tear.Shared n) k = tear_listed _ (s, false) h Shared (tear.Shared n) n k (record { style = refl; flow = refl; filters = refl }) refl refl (λ scope es e. (torn scope es n e).1)

-- ---- ResvErr

-- one FILTER_SPEC behind the FLOWSPEC of FF
one_fit : (s : Seen) (f : TokenBucket) → s.style ≡ Some Fixed → s.flow ≡ Some f → s.filters ≡ [] → (ss : List Sender) → length ss ≡ 1 → Fit kind.ResvErr s (filter_objects ss)
unfolding has_place is_repeated role_of
one_fit s f e1 e2 e3 [] h = tt
one_fit s f e1 e2 e3 (x ∷ []) h = (fits _ _ _ (rw (e1, e2, e3) refl) refl refl (λ at. rw e3 refl), tt)
one_fit s f e1 e2 e3 (x ∷ y ∷ ss) h = absurd (omega arith)

first_again : (f : Option TokenBucket) (names : Names) (es : List Filter) → es ≡ with_flow f (keys names) → size names ≡ 1 → first_named es ≡ Some names
first_again f names es is one = ap first_named is ∙ by_keys (keys names) refl (length-map names.rows (λ e. e.0) ∙ one)
  where
    by_keys : (ss : List Sender) → ss ≡ keys names → length ss ≡ 1 → first_named (with_flow f ss) ≡ Some names
    by_keys [] e h = absurd (omega arith)
    by_keys (x ∷ []) e h = ap (λ (n : Names). Some n) (ap names_from e ∙ names_again names)
    by_keys (x ∷ y ∷ ss) e h = absurd (omega arith)

abbrev err_front : Session → Hop → ErrSpec → StyleKind → Option Names → Option TokenBucket → List Object
err_front s h e k names f = object.Session s false ∷ object.HopOf h ∷ object.Error e ∷ blame_by_style k names f

err_fit : (s : Session) (h : Hop) (e : ErrSpec) (k : StyleKind) (names : Option Names) (f : Option TokenBucket) → IsProperBlameOf k names f → AreFew names
    → Fit kind.ResvErr start (err_front s h e k names f)
unfolding has_place is_repeated role_of stood last_said filters_after with_object
err_fit s h e Wild None None p few = (
  fits _ _ _ refl refl refl (λ at. refl),
  (
    fits _ _ _ refl refl refl (λ at. refl),
    (fits _ _ _ refl refl refl (λ at. refl), (fits _ _ _ refl refl refl (λ at. refl), tt)),
  ),
)
err_fit s h e Wild None (Some f) p few = (
  fits _ _ _ refl refl refl (λ at. refl),
  (
    fits _ _ _ refl refl refl (λ at. refl),
    (fits _ _ _ refl refl refl (λ at. refl), (fits _ _ _ refl refl refl (λ at. refl), (fits _ _ _ refl refl refl (λ at. refl), tt))),
  ),
)
err_fit s h e Wild (Some n) None p few = (
  fits _ _ _ refl refl refl (λ at. refl),
  (
    fits _ _ _ refl refl refl (λ at. refl),
    (fits _ _ _ refl refl refl (λ at. refl), (fits _ _ _ refl refl refl (λ at. refl), (fits _ _ _ refl refl refl (λ at. refl), tt))),
  ),
)
err_fit s h e Wild (Some n) (Some f) p few = (
  fits _ _ _ refl refl refl (λ at. refl),
  (
    fits _ _ _ refl refl refl (λ at. refl),
    (
      fits _ _ _ refl refl refl (λ at. refl),
      (fits _ _ _ refl refl refl (λ at. refl), (fits _ _ _ refl refl refl (λ at. refl), (fits _ _ _ refl refl refl (λ at. refl), tt))),
    ),
  ),
)
err_fit s h e Fixed None None p few = (
  fits _ _ _ refl refl refl (λ at. refl),
  (
    fits _ _ _ refl refl refl (λ at. refl),
    (fits _ _ _ refl refl refl (λ at. refl), (fits _ _ _ refl refl refl (λ at. refl), tt)),
  ),
)
err_fit s h e Fixed None (Some f) p few = absurd p
err_fit s h e Fixed (Some n) None p few = absurd p
err_fit s h e Fixed (Some n) (Some f) p few = (
  fits _ _ _ refl refl refl (λ at. refl),
  (
    fits _ _ _ refl refl refl (λ at. refl),
    (
      fits _ _ _ refl refl refl (λ at. refl),
      (fits _ _ _ refl refl refl (λ at. refl), (fits _ _ _ refl refl refl (λ at. refl), one_fit _ f refl refl refl (keys n) (length-map n.rows (λ r. r.0) ∙ p.0))),
    ),
  ),
)
err_fit s h e Shared None None p few = (
  fits _ _ _ refl refl refl (λ at. refl),
  (
    fits _ _ _ refl refl refl (λ at. refl),
    (fits _ _ _ refl refl refl (λ at. refl), (fits _ _ _ refl refl refl (λ at. refl), tt)),
  ),
)
err_fit s h e Shared None (Some f) p few = absurd p
err_fit s h e Shared (Some n) None p few = absurd p
err_fit s h e Shared (Some n) (Some f) p few = (
  fits _ _ _ refl refl refl (λ at. refl),
  (
    fits _ _ _ refl refl refl (λ at. refl),
    (
      fits _ _ _ refl refl refl (λ at. refl),
      (
        fits _ _ _ refl refl refl (λ at. refl),
        (
          fits _ _ _ refl refl refl (λ at. refl),
          filters_fit kind.ResvErr (Some Shared) (Some f) (err_shared f) n.rows [] _ (record { style = refl; flow = refl; filters = refl }) n.sorted (above_none n.rows)
              (at_start (length n.rows) few),
        ),
      ),
    ),
  ),
)

err_listed : (z : Seen) (x : Session × Bool) (h : Hop) (e : ErrSpec) (k : StyleKind) (names : Names) (f : TokenBucket) → IsAt z (Some k) (Some f) [] → z.session ≡ Some x → z.hop ≡ Some h
    → z.error ≡ Some e
    → ((scope : Option Names) (es : List Filter) → es ≡ with_flow (Some f) (keys names) → blame_of scope es (Some f) k ≡ good (record { style = k; senders = Some names; flow = Some f }))
    → message_of kind.ResvErr (with_objects z (filter_objects (keys names))) ≡ good (message.ResvErr
    (record { session = x.0; hop = h; err = e; blame = record { style = k; senders = Some names; flow = Some f } }))
err_listed z x h e k names f at e1 e2 e3 made =
    let end = with_objects z (filter_objects (keys names)) in
    let r = filters_end (Some k) (Some f) (keys names) [] z at in
    let blamed : blame_of end.scope end.filters end.flow k ≡ good (record { style = k; senders = Some names; flow = Some f }) =
    ap (λ (o : Option TokenBucket). blame_of end.scope end.filters o k) r.0.flow ∙ made end.scope end.filters r.0.filters in
    err_made end x h e k _ (r.1.session ∙ e1) (r.1.hop ∙ e2) (r.1.error ∙ e3) r.0.style blamed

blamed_one : (scope : Option Names) (es : List Filter) (f : TokenBucket) (names : Names) → first_named es ≡ Some names
    → blame_of scope es (Some f) Fixed ≡ good (record { style = Fixed; senders = Some names; flow = Some f })
blamed_one scope es f names e = rw e refl

blamed_some : (scope : Option Names) (es : List Filter) (f : TokenBucket) (names : Names) → named es ≡ Some names
    → blame_of scope es (Some f) Shared ≡ good (record { style = Shared; senders = Some names; flow = Some f })
blamed_some scope es f names e = rw e refl

err_message : (s : Session) (h : Hop) (e : ErrSpec) (k : StyleKind) (names : Option Names) (f : Option TokenBucket) → IsProperBlameOf k names f
    → message_of kind.ResvErr (with_objects start (err_front s h e k names f)) ≡ good (message.ResvErr
    (record { session = s; hop = h; err = e; blame = record { style = k; senders = names; flow = f } }))
unfolding message_of resv_err_of last_said filters_after with_object
err_message s h e Wild None None p = refl
err_message s h e Wild None (Some f) p = refl
err_message s h e Wild (Some n) None p = refl
err_message s h e Wild (Some n) (Some f) p = refl
err_message s h e Fixed None None p = refl
err_message s h e Fixed None (Some f) p = absurd p
err_message s h e Fixed (Some n) None p = absurd p
err_message s h e Fixed (Some n) (Some f) p = err_listed _ (s, false) h e Fixed n f (record { style = refl; flow = refl; filters = refl }) refl refl refl
    (λ scope es is. blamed_one scope es f n (first_again (Some f) n es is p.0))
err_message s h e Shared None None p = refl
err_message s h e Shared None (Some f) p = absurd p
err_message s h e Shared (Some n) None p = absurd p
err_message s h e Shared (Some n) (Some f) p = err_listed _ (s, false) h e Shared n f (record { style = refl; flow = refl; filters = refl }) refl refl refl
    (λ scope es is. blamed_some scope es f n (named_again (Some f) n es is p.0))

-- ---- the whole

fit_of : (v : Message) → IsWritable v → Fit (kind_of v) start (objects_of v)
fit_of (message.Path v) h = path_fit v.session v.police v.hop v.period v.sender v.adspec
fit_of (message.Resv v) h = resv_fit v.session v.hop v.period v.confirm v.ask h.few
fit_of (message.PathErr v) h = path_err_fit v.session v.err v.sender
fit_of (message.ResvErr v) h = err_fit v.session v.hop v.err v.blame.style v.blame.senders v.blame.flow h.proper h.few
fit_of (message.PathTear v) h = path_tear_fit v.session v.hop v.sender
fit_of (message.ResvTear v) h = tear_fit v.session v.hop v.tear h.few
fit_of (message.ResvConf v) h = conf_fit v.session v.err v.confirm v.ask h.proper.1 h.few

made_of : (v : Message) → IsWritable v → message_of (kind_of v) (with_objects start (objects_of v)) ≡ good v
made_of (message.Path v) h = path_message v.session v.police v.hop v.period v.sender v.adspec
made_of (message.Resv v) h = resv_message v.session v.hop v.period v.confirm v.ask h.proper
made_of (message.PathErr v) h = path_err_message v.session v.err v.sender
made_of (message.ResvErr v) h = err_message v.session v.hop v.err v.blame.style v.blame.senders v.blame.flow h.proper
made_of (message.PathTear v) h = path_tear_message v.session v.hop v.sender
made_of (message.ResvTear v) h = tear_message v.session v.hop v.tear h.proper
made_of (message.ResvConf v) h = conf_message v.session v.err v.confirm v.ask h.proper.0 h.proper.1

header_from : (b : List ℕ) → length b ≤ 4096 → 8 ≤ length b → byte_at 0 b / 16 ≡ 1 → half_at 6 b ≡ length b → is_right b ≡ true → header_of b ≡ kind_with (byte_at 1 b)
unfolding header_of
header_from b short long version n right = rw (le-ltb 4096 (length b) short, le-ltb (length b) 8 long, version, n, eq-eqb (length b) (length b) refl, right) refl

or_true : (x : Bool) → (x || true) ≡ true
or_true true = refl
or_true false = refl

right_from : (b : List ℕ) → ones_sum b ≡ 65535 → is_right b ≡ true
right_from b e = ap (λ (t : Bool). (half_at 2 b == 0) || t) (eq-eqb (ones_sum b) 65535 e) ∙ or_true (half_at 2 b == 0)

kind_again : (k : Kind) → kind_with (kind_number k) ≡ good k
kind_again kind.Path = refl
kind_again kind.Resv = refl
kind_again kind.PathErr = refl
kind_again kind.ResvErr = refl
kind_again kind.PathTear = refl
kind_again kind.ResvTear = refl
kind_again kind.ResvConf = refl

header_again : (k : Kind) (body : List ℕ) → length body ≤ 1016 → ones_sum (sealed k body) ≡ 65535 → header_of (sealed k body) ≡ good k
unfolding sealed
header_again k body short right =
    let b = header k (checksum k body) (8 + length body) ++ body in
    header_from b (omega arith) (omega arith) refl (omega arith) (right_from b right) ∙ kind_again k

pub read_again : (v : Message) → IsWritable v → AreBytes (encoding v) → ones_sum (encoding v) ≡ 65535 → Spells (encoding v) v
unfolding encoding sealed
read_again v h bytes right =
    let body = body_of v in
    let k = kind_of v in
    let b = header k (checksum k body) (8 + length body) ++ body in
    spells_of k b v bytes (header_again k body (body_short v h.few) right) (says k b (header k (checksum k body) (8 + length body)) (objects_of v) v refl refl h.fields (fit_of v h) (made_of v h))

pub again_by_text : (v : Message) (b : List ℕ) → b ≡ encoding v → AreBytes b → ones_sum b ≡ 65535 → IsWritable v → Spells b v
again_by_text v b e bytes right h = subst (λ (t : List ℕ). Spells t v) (sym e) (read_again v h (subst AreBytes e bytes) (subst (λ (t : List ℕ). ones_sum t ≡ 65535) e right))
