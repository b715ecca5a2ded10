-- What the objects of a list say: functions of the whole list.
use Rattle.std.specs.Prelude.{ℕ, Bool, true, false, not, ◌||◌, ◌==◌, List, [], ◌∷◌, ◌++◌, Option, Some, None}
use Rattle.std.specs.List.{list_any}
use Rattle.rsvp_base.specs.declared.addr.Addr.{Addr}
use Rattle.rsvp_base.specs.declared.err_spec.ErrSpec.{ErrSpec}
use Rattle.rsvp_base.specs.declared.hop.Hop.{Hop}
use Rattle.rsvp_base.specs.declared.session.Sender.{Sender}
use Rattle.rsvp_base.specs.declared.session.Session.{Session}
use Rattle.rsvp_base.specs.declared.style.StyleKind.{StyleKind}
use Rattle.rsvp_base.specs.Orders.{Names}
use Rattle.rsvp_base.specs.TokenBucket.{TokenBucket}
use Rattle.rsvp_objects.specs.declared.adspec.Adspec.{Adspec}
use Rattle.rsvp_objects.specs.declared.object.Object.{Object}
use Rattle.rsvp_objects.specs.declared.object.Object.TheVariants as object
use Rattle.rsvp_objects.specs.Classes.{null, adspec}
use Rattle.rsvp_objects.specs.Proper.{class_of}
use Rattle.message_codec.specs.declared.seen.Seen.{Seen}

-- ---- what one object says, where it is of a sort

abbrev pub session_said : Object → Option (Session × Bool)
session_said (object.Session s police) = Some (s, police)
session_said _ = None

abbrev pub hop_said : Object → Option Hop
hop_said (object.HopOf h) = Some h
hop_said _ = None

abbrev pub period_said : Object → Option ℕ
period_said (object.Time n) = Some n
period_said _ = None

abbrev pub error_said : Object → Option ErrSpec
error_said (object.Error e) = Some e
error_said _ = None

abbrev pub scope_said : Object → Option Names
scope_said (object.Scope names) = Some names
scope_said _ = None

abbrev pub style_said : Object → Option StyleKind
style_said (object.StyleOf k) = Some k
style_said _ = None

abbrev pub template_said : Object → Option Sender
template_said (object.Template s) = Some s
template_said _ = None

abbrev pub tspec_said : Object → Option TokenBucket
tspec_said (object.Tspec f) = Some f
tspec_said _ = None

abbrev pub advert_said : Object → Option Adspec
advert_said (object.Advert a) = Some a
advert_said _ = None

abbrev pub confirm_said : Object → Option Addr
confirm_said (object.Confirm a) = Some a
confirm_said _ = None

abbrev pub flow_said : Object → Option TokenBucket
flow_said (object.FlowOf f) = Some f
flow_said _ = None

-- of a FLOWSPEC and a FILTER_SPEC, whether it is the FLOWSPEC
abbrev pub ends_with_flow : Object → Option Bool
ends_with_flow (object.FlowOf f) = Some true
ends_with_flow (object.Filter s) = Some false
ends_with_flow _ = None

-- ---- what a list says

abbrev pub or_else : {A : Type 0} → Option A → Option A → Option A
or_else (Some x) y = Some x
or_else None y = y

-- what the last object of a sort says; where the sort stands once, what it says
unfoldable pub last_said : {A : Type 0} → (Object → Option A) → List Object → Option A
last_said f [] = None
last_said f (x ∷ xs) = or_else (last_said f xs) (f x)

abbrev pub is_on : Option Bool → Bool
is_on (Some b) = b
is_on None = false

-- a FILTER_SPEC, with the FLOWSPEC that stands before it where there is one
abbrev pub filter_with : Option TokenBucket → Object → List (Sender × Option TokenBucket)
filter_with f (object.Filter s) = (s, f) ∷ []
filter_with f _ = []

unfoldable pub filters_after : Option TokenBucket → List Object → List (Sender × Option TokenBucket)
filters_after f [] = []
filters_after f (x ∷ xs) = filter_with f x ++ filters_after (or_else (flow_said x) f) xs

-- other than NULL
abbrev pub is_object : Object → Bool
is_object x = not (class_of x == null)

abbrev pub is_adspec : Object → Bool
is_adspec x = class_of x == adspec

abbrev pub seen_of : List Object → Seen
seen_of xs =
    record {
      begun = list_any is_object xs;
      session = last_said session_said xs;
      hop = last_said hop_said xs;
      period = last_said period_said xs;
      error = last_said error_said xs;
      scope = last_said scope_said xs;
      style = last_said style_said xs;
      template = last_said template_said xs;
      tspec = last_said tspec_said xs;
      adspec = list_any is_adspec xs;
      advert = last_said advert_said xs;
      confirm = last_said confirm_said xs;
      flow = last_said flow_said xs;
      due = is_on (last_said ends_with_flow xs);
      filters = filters_after None xs;
    }

-- the same with one object more
unfoldable pub with_object : Seen → Object → Seen
with_object s x =
    record {
      begun = s.begun || is_object x;
      session = or_else (session_said x) s.session;
      hop = or_else (hop_said x) s.hop;
      period = or_else (period_said x) s.period;
      error = or_else (error_said x) s.error;
      scope = or_else (scope_said x) s.scope;
      style = or_else (style_said x) s.style;
      template = or_else (template_said x) s.template;
      tspec = or_else (tspec_said x) s.tspec;
      adspec = s.adspec || is_adspec x;
      advert = or_else (advert_said x) s.advert;
      confirm = or_else (confirm_said x) s.confirm;
      flow = or_else (flow_said x) s.flow;
      due = is_on (or_else (ends_with_flow x) (Some s.due));
      filters = s.filters ++ filter_with s.flow x;
    }
