-- The grammar of messages over the objects behind the common header (RFC 2205, 3.1.3 to 3.1.9), and what they say. The rows of
-- Table.antt say which classes a message of each kind has once, may have once, and may have any number of times unread:
--
--     <Path>     ::= <SESSION> <RSVP_HOP> <TIME_VALUES> [ <POLICY_DATA> .. ] [ <SENDER_TEMPLATE> <SENDER_TSPEC> ] [ <ADSPEC> ]
--     <Resv>     ::= <SESSION> <RSVP_HOP> <TIME_VALUES> [ <RESV_CONFIRM> ] [ <SCOPE> ] [ <POLICY_DATA> .. ] <STYLE> <list>
--     <PathErr>  ::= <SESSION> <ERROR_SPEC> [ <POLICY_DATA> .. ] [ <SENDER_TEMPLATE> ]
--     <ResvErr>  ::= <SESSION> <RSVP_HOP> <ERROR_SPEC> [ <SCOPE> ] [ <POLICY_DATA> .. ] <STYLE> [ <error list> ]
--     <PathTear> ::= <SESSION> <RSVP_HOP> [ <SENDER_TEMPLATE> ]
--     <ResvTear> ::= <SESSION> <RSVP_HOP> [ <SCOPE> ] [ <POLICY_DATA> .. ] <STYLE> [ <FILTER_SPEC> .. ]
--     <ResvConf> ::= <SESSION> <ERROR_SPEC> <RESV_CONFIRM> [ <POLICY_DATA> .. ] <STYLE> <list>
--
--     <list> of WF ::= <FLOWSPEC>
--     <list> of FF ::= <FLOWSPEC> <FILTER_SPEC> | <list> [ <FLOWSPEC> ] <FILTER_SPEC>
--     <list> of SE ::= <FLOWSPEC> <FILTER_SPEC> | <list> <FILTER_SPEC>
--
-- Each kind may have an INTEGRITY first. Before a STYLE, or where there is none, objects stand in any order. NULL and the
-- unknown classes from 128 on, whose top bits are 10 or 11, stand anywhere.
use Rattle.std.specs.Prelude.{◌≡◌, ℕ, ◌≤◌, Bool, true, false, not, ◌||◌, ◌&&◌, ◌==◌, List, [], ◌∷◌, ◌++◌, length, drop, Option, Some, None, is_some, is_none, Ok}
use Rattle.std.specs.List.{filter, list_any}
use Rattle.rsvp_base.specs.declared.session.Sender.{Sender}
use Rattle.rsvp_base.specs.declared.session.Session.{Session}
use Rattle.rsvp_base.specs.declared.style.StyleKind.{StyleKind}
use Rattle.rsvp_base.specs.declared.style.StyleKind.TheVariants.{Wild, Fixed, Shared}
use Rattle.rsvp_base.specs.Orders.{Names}
use Rattle.rsvp_base.specs.TokenBucket.{TokenBucket}
use Rattle.rsvp_objects.specs.declared.head.Head.{Head}
use Rattle.rsvp_objects.specs.declared.object.Object.{Object}
use Rattle.rsvp_objects.specs.declared.object.Object.TheVariants as object
use Rattle.rsvp_objects.specs.Classes.{integrity, flowspec, filter_spec}
use Rattle.rsvp_objects.specs.Proper.{class_of}
use Rattle.rsvp_objects.specs.Reading.{head_of, contents_at}
use Rattle.rsvp_messages.specs.declared.ask.Ask.{Ask}
use Rattle.rsvp_messages.specs.declared.message.Kind.{Kind}
use Rattle.rsvp_messages.specs.declared.message.Kind.TheVariants as kind
use Rattle.rsvp_messages.specs.declared.message.Message.{Message}
use Rattle.rsvp_messages.specs.declared.message.Message.TheVariants as message
use Rattle.rsvp_messages.specs.declared.message.PathErrMsg.{PathErrMsg}
use Rattle.rsvp_messages.specs.declared.message.PathMsg.{PathMsg}
use Rattle.rsvp_messages.specs.declared.message.PathTearMsg.{PathTearMsg}
use Rattle.rsvp_messages.specs.declared.message.ResvConfMsg.{ResvConfMsg}
use Rattle.rsvp_messages.specs.declared.message.ResvErrMsg.{ResvErrMsg}
use Rattle.rsvp_messages.specs.declared.message.ResvMsg.{ResvMsg}
use Rattle.rsvp_messages.specs.declared.message.ResvTearMsg.{ResvTearMsg}
use Rattle.rsvp_messages.specs.Kinds.{kind_of}
use Rattle.message_codec.specs.Messages.{sender_of, ask_of, tear_of, blame_of}
use Rattle.message_codec.specs.Places.{is_named, read_in}
use Rattle.message_codec.specs.Said.{session_said, hop_said, period_said, error_said, scope_said, style_said, template_said, tspec_said, advert_said, confirm_said, flow_said}
use Rattle.message_codec.specs.Said.{ends_with_flow, last_said, is_on, filters_after, is_object}
use Rattle.message_codec.specs.Table.{role_of, may_stand, stands_once, is_anywhere}

-- ---- which objects stand in bytes

-- one behind the other from a place to an end stand these objects, each as its head and its contents say; what a kind skips
-- is not read
abbrev pub Reads : Kind → List ℕ → ℕ → List Object → ℕ → Type 0
Reads kind b at [] end = at ≡ end
Reads kind b at (x ∷ xs) end = (h : Head) × (head_of at (drop at b) ≡ Ok h) × (read_in kind at h.class.0 h.ctype (contents_at at h b) ≡ Ok x) × Reads kind b h.end xs end

-- ---- in which order

abbrev pub how_many : ℕ → List Object → ℕ
how_many n xs = length (filter (λ x. class_of x == n) xs)

-- a FLOWSPEC stands among these, none does, and one with no FILTER_SPEC behind it
abbrev pub has_flow : List Object → Bool
has_flow xs = is_some (last_said flow_said xs)

abbrev pub has_no_flow : List Object → Bool
has_no_flow xs = is_none (last_said flow_said xs)

abbrev pub ends_with_its_flow : List Object → Bool
ends_with_its_flow xs = is_on (last_said ends_with_flow xs)

abbrev pub has_no_names : List Object → Bool
has_no_names xs = length (filters_after None xs) == 0

-- what may follow in a list (RFC 2205, 3.1.4)
abbrev pub list_goes_on : StyleKind → List Object → ℕ → Bool
list_goes_on Wild xs n = n == flowspec && has_no_flow xs
list_goes_on Fixed xs n = (n == flowspec && not (ends_with_its_flow xs)) || (n == filter_spec && has_flow xs)
list_goes_on Shared xs n = (n == flowspec && has_no_flow xs) || (n == filter_spec && has_flow xs)

-- in an error list (RFC 2205, 3.1.8): that of FF has one FILTER_SPEC
abbrev pub error_list_goes_on : StyleKind → List Object → ℕ → Bool
error_list_goes_on Wild xs n = n == flowspec && has_no_flow xs
error_list_goes_on Fixed xs n = (n == flowspec && has_no_flow xs) || (n == filter_spec && has_flow xs && has_no_names xs)
error_list_goes_on Shared xs n = (n == flowspec && has_no_flow xs) || (n == filter_spec && has_flow xs)

-- among the filters of a ResvTear (RFC 2205, 3.1.6), where FLOWSPECs are skipped
abbrev pub filters_go_on : StyleKind → ℕ → Bool
filters_go_on Wild n = n == flowspec
filters_go_on Fixed n = n == flowspec || n == filter_spec
filters_go_on Shared n = n == flowspec || n == filter_spec

abbrev pub goes_on : Kind → StyleKind → List Object → ℕ → Bool
goes_on kind.Resv k xs n = list_goes_on k xs n
goes_on kind.ResvErr k xs n = error_list_goes_on k xs n
goes_on kind.ResvTear k xs n = filters_go_on k n
goes_on kind.ResvConf k xs n = list_goes_on k xs n
goes_on _ k xs n = false

-- a class that stands once is there at most once, INTEGRITY has nothing but NULL before it, before a STYLE stand the classes
-- of the table, behind it its list goes on, and a list names nobody twice and at most 16
pub record IsInGrammar (kind : Kind) (xs : List Object) : Type 0 where
  pub once : (n : ℕ) → stands_once (role_of kind n) ≡ true → how_many n xs ≤ 1
  pub first : (before after : List Object) (x : Object) → xs ≡ before ++ x ∷ after → class_of x ≡ integrity → list_any is_object before ≡ false
  pub front : (before after : List Object) (x : Object) → xs ≡ before ++ x ∷ after → last_said style_said before ≡ None
      → (is_anywhere (class_of x) || (class_of x == integrity || may_stand (role_of kind (class_of x)))) ≡ true
  pub list : (before after : List Object) (x : Object) (k : StyleKind) → xs ≡ before ++ x ∷ after → last_said style_said before ≡ Some k
      → (is_anywhere (class_of x) || (class_of x == integrity || goes_on kind k before (class_of x))) ≡ true
  pub names : (before after : List Object) (s : Sender) → xs ≡ before ++ object.Filter s ∷ after → (is_named s (filters_after None before) ≡ false) × (length (filters_after None before) ≤ 15)

-- ---- what they say: each needed class is there, and the list is whole

-- the one object of a sort says this
abbrev pub SaysOf : {A : Type 0} → (Object → Option A) → List Object → A → Type 0
SaysOf f xs a = last_said f xs ≡ Some a

-- the SESSION, whatever its flag
abbrev pub IsOf : List Object → Session → Type 0
IsOf xs s = (police : Bool) × SaysOf session_said xs (s, police)

pub record IsPath (xs : List Object) (m : PathMsg) : Type 0 where
  pub session : SaysOf session_said xs (m.session, m.police)
  pub hop : SaysOf hop_said xs m.hop
  pub period : SaysOf period_said xs m.period
  pub sender : sender_of (last_said template_said xs) (last_said tspec_said xs) ≡ Ok m.sender
  pub adspec : last_said advert_said xs ≡ m.adspec

-- what a list of a style asks for
abbrev pub Asks : List Object → Option Names → Ask → Type 0
Asks xs scope a =
    (k : StyleKind) × SaysOf style_said xs k × (f : TokenBucket) × SaysOf flow_said xs f × (ask_of scope (ends_with_its_flow xs) (filters_after None xs) f k ≡ Ok a)

pub record IsResv (xs : List Object) (m : ResvMsg) : Type 0 where
  pub session : IsOf xs m.session
  pub hop : SaysOf hop_said xs m.hop
  pub period : SaysOf period_said xs m.period
  pub confirm : last_said confirm_said xs ≡ m.confirm
  pub asks : Asks xs (last_said scope_said xs) m.ask

pub record IsPathErr (xs : List Object) (m : PathErrMsg) : Type 0 where
  pub session : IsOf xs m.session
  pub error : SaysOf error_said xs m.err
  pub sender : last_said template_said xs ≡ m.sender

pub record IsResvErr (xs : List Object) (m : ResvErrMsg) : Type 0 where
  pub session : IsOf xs m.session
  pub hop : SaysOf hop_said xs m.hop
  pub error : SaysOf error_said xs m.err
  pub blames : (k : StyleKind) × SaysOf style_said xs k × (blame_of (last_said scope_said xs) (filters_after None xs) (last_said flow_said xs) k ≡ Ok m.blame)

pub record IsPathTear (xs : List Object) (m : PathTearMsg) : Type 0 where
  pub session : IsOf xs m.session
  pub hop : SaysOf hop_said xs m.hop
  pub sender : last_said template_said xs ≡ m.sender

pub record IsResvTear (xs : List Object) (m : ResvTearMsg) : Type 0 where
  pub session : IsOf xs m.session
  pub hop : SaysOf hop_said xs m.hop
  pub tears : (k : StyleKind) × SaysOf style_said xs k × (tear_of (last_said scope_said xs) (filters_after None xs) k ≡ Ok m.tear)

pub record IsResvConf (xs : List Object) (m : ResvConfMsg) : Type 0 where
  pub session : IsOf xs m.session
  pub error : SaysOf error_said xs m.err
  pub confirm : SaysOf confirm_said xs m.confirm
  pub asks : Asks xs None m.ask

abbrev pub Means : List Object → Message → Type 0
Means xs (message.Path m) = IsPath xs m
Means xs (message.Resv m) = IsResv xs m
Means xs (message.PathErr m) = IsPathErr xs m
Means xs (message.ResvErr m) = IsResvErr xs m
Means xs (message.PathTear m) = IsPathTear xs m
Means xs (message.ResvTear m) = IsResvTear xs m
Means xs (message.ResvConf m) = IsResvConf xs m

-- ---- the whole

-- behind the common header stand objects to the end, in the grammar of the kind, that mean the message
abbrev pub IsMessage : List ℕ → Message → Type 0
IsMessage b v = (xs : List Object) × Reads (kind_of v) b 8 xs (length b) × IsInGrammar (kind_of v) xs × Means xs v
