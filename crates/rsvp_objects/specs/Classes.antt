-- The table of objects (RFC 2205, appendix A; RFC 2210, 3): the Class-Num of each class, and of each that is read the C-Type, and
-- the size of its contents where that is fixed.
use Rattle.std.specs.Prelude.{ℕ, Bool, true, ◌||◌, ◌==◌, nat_le, List, length, Option, Some, None, if◌then◌else◌}
use Rattle.rsvp_objects.specs.AdspecSpelling.{adspec_class}
use Rattle.rsvp_objects.specs.declared.read_class.ReadClass.{ReadClass}
use Rattle.rsvp_objects.specs.declared.read_class.ReadClass.TheVariants as class

-- ---- Class-Num

abbrev pub null : ℕ
null = 0

abbrev pub session : ℕ
session = 1

abbrev pub rsvp_hop : ℕ
rsvp_hop = 3

abbrev pub integrity : ℕ
integrity = 4

abbrev pub time_values : ℕ
time_values = 5

abbrev pub error_spec : ℕ
error_spec = 6

abbrev pub scope : ℕ
scope = 7

abbrev pub style : ℕ
style = 8

abbrev pub flowspec : ℕ
flowspec = 9

abbrev pub filter_spec : ℕ
filter_spec = 10

abbrev pub sender_template : ℕ
sender_template = 11

abbrev pub sender_tspec : ℕ
sender_tspec = 12

abbrev pub adspec : ℕ
adspec = adspec_class

abbrev pub policy_data : ℕ
policy_data = 14

abbrev pub resv_confirm : ℕ
resv_confirm = 15

-- the unknown classes that a receiver may skip (RFC 2205, 3.10)
abbrev pub has_high_bit : ℕ → Bool
has_high_bit n = nat_le 128 n

-- ---- the classes that are read

abbrev pub class_number : ReadClass → ℕ
class_number class.Session = session
class_number class.RsvpHop = rsvp_hop
class_number class.TimeValues = time_values
class_number class.ErrorSpec = error_spec
class_number class.Scope = scope
class_number class.Style = style
class_number class.FlowSpec = flowspec
class_number class.FilterSpec = filter_spec
class_number class.SenderTemplate = sender_template
class_number class.SenderTspec = sender_tspec
class_number class.ResvConfirm = resv_confirm

abbrev pub ctype_of : ReadClass → ℕ
ctype_of class.FlowSpec = 2
ctype_of class.SenderTspec = 2
ctype_of _ = 1

abbrev pub size_of : ReadClass → Option ℕ
size_of class.Session = Some 8
size_of class.RsvpHop = Some 8
size_of class.TimeValues = Some 4
size_of class.ErrorSpec = Some 8
size_of class.Scope = None
size_of class.Style = Some 4
size_of class.FlowSpec = None
size_of class.FilterSpec = Some 8
size_of class.SenderTemplate = Some 8
size_of class.SenderTspec = None
size_of class.ResvConfirm = Some 4

-- the class with a number
unfoldable pub class_with : ℕ → Option ReadClass
class_with n =
    if n == session then Some class.Session else
    if n == rsvp_hop then Some class.RsvpHop else
    if n == time_values then Some class.TimeValues else
    if n == error_spec then Some class.ErrorSpec else
    if n == scope then Some class.Scope else
    if n == style then Some class.Style else
    if n == flowspec then Some class.FlowSpec else
    if n == filter_spec then Some class.FilterSpec else
    if n == sender_template then Some class.SenderTemplate else
    if n == sender_tspec then Some class.SenderTspec else
    if n == resv_confirm then Some class.ResvConfirm else None

-- skipped unread: NULL, INTEGRITY, POLICY_DATA, and unknown classes from 128 on (RFC 2205, 3.10); and an ADSPEC, but where its
-- contents are of their form
abbrev pub is_skipped : ℕ → Bool
is_skipped n = n == null || n == integrity || n == adspec || n == policy_data || has_high_bit n

abbrev pub has_size : Option ℕ → List ℕ → Bool
has_size (Some n) body = length body == n
has_size None body = true
