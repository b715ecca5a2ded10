-- The object at a place, or the first fault there: the faults in their order, once for all classes.
use Rattle.std.specs.Prelude.{ℕ, ◌+◌, ◌-◌, ◌%◌, Bool, not, ◌&&◌, ◌==◌, nat_lt, nat_le, List, length, drop, take, Option, Some, None, IsTrue, Result, Ok, Err, if◌then◌else◌}
use Rattle.rsvp_base.specs.declared.session.Session.{Session}
use Rattle.rsvp_base.specs.Table.{size}
use Rattle.rsvp_objects.specs.declared.adspec.Adspec.{Adspec}
use Rattle.rsvp_objects.specs.Form.{adspec_in}
use Rattle.rsvp_objects.specs.declared.read_class.ReadClass.{ReadClass}
use Rattle.rsvp_objects.specs.declared.read_class.ReadClass.TheVariants as class
use Rattle.rsvp_objects.specs.declared.object.Object.{Object}
use Rattle.rsvp_objects.specs.declared.object.Object.TheVariants as object
use Rattle.rsvp_objects.specs.declared.obj_err.ObjErr.{ObjErr}
use Rattle.rsvp_objects.specs.declared.obj_err.ObjErr.TheVariants as fault
use Rattle.rsvp_objects.specs.declared.head.Head.{Head}
use Rattle.rsvp_objects.specs.Fields.{byte_at, half_at}
use Rattle.rsvp_objects.specs.Classes.{adspec, is_skipped, class_with, ctype_of, size_of, has_size}
use Rattle.rsvp_objects.specs.Contents.{session_in, police_in, hop_in, period_in, error_in, scope_in, style_in, sender_in, confirm_in}
use Rattle.rsvp_objects.specs.FlowWords.{controlled_load, general, flow_in}

-- ---- 1 and 2: fewer than four bytes; a length below four, no multiple of four, or past the end
--
--     +-------------+-------------+-------------+-------------+
--     |       Length (bytes)      |  Class-Num  |   C-Type    |
--     +-------------+-------------+-------------+-------------+
--     //                  (Object contents)                   //
--     +-------------+-------------+-------------+-------------+
--
-- (RFC 2205, 3.1.2)

abbrev pub is_length : ℕ → ℕ → Bool
is_length n left = nat_le 4 n && n % 4 == 0 && nat_le n left

-- the head of the object that stands at a place, where these bytes are left
unfoldable pub head_of : ℕ → List ℕ → Result Head ObjErr
head_of at left =
    if nat_lt (length left) 4 then Err (fault.Short at) else
    if not (is_length (half_at 0 left) (length left)) then Err (fault.Length at) else
    Ok (record { class = record { 0 = byte_at 2 left }; ctype = byte_at 3 left; end = at + half_at 0 left })

-- ---- 5 and 6: contents that their figure does not have; a seventeenth address

abbrev pub or_fault : {A : Type 0} → ObjErr → (A → Object) → Option A → Result Object ObjErr
or_fault f says (Some x) = Ok (says x)
or_fault f says None = Err f

-- a service that can be seen is not controlled load
abbrev pub is_other_service : List ℕ → Bool
is_other_service body = nat_le 8 (length body) && not (byte_at 4 body == controlled_load)

-- what contents of the right size say
unfoldable pub contents_of : ℕ → ReadClass → List ℕ → Result Object ObjErr
contents_of at class.Session body = Ok (object.Session (session_in body) (police_in body))
contents_of at class.RsvpHop body = Ok (object.HopOf (hop_in body))
contents_of at class.TimeValues body = Ok (object.Time (period_in body))
contents_of at class.ErrorSpec body = Ok (object.Error (error_in body))
contents_of at class.Scope body = if nat_lt 16 (size (scope_in body)) then Err (fault.Crowd at) else Ok (object.Scope (scope_in body))
contents_of at class.Style body = or_fault (fault.Style at) object.StyleOf (style_in body)
contents_of at class.FlowSpec body = if is_other_service body then Err (fault.Service at) else or_fault (fault.Flow at) object.FlowOf (flow_in controlled_load body)
contents_of at class.FilterSpec body = Ok (object.Filter (sender_in body))
contents_of at class.SenderTemplate body = Ok (object.Template (sender_in body))
contents_of at class.SenderTspec body = or_fault (fault.Tspec at) object.Tspec (flow_in general body)
contents_of at class.ResvConfirm body = Ok (object.Confirm (confirm_in body))

-- ---- 3 and 4: an unknown class; a C-Type that is not its own

abbrev pub by_class : ℕ → ℕ → ℕ → List ℕ → Option ReadClass → Result Object ObjErr
by_class at n ctype body None = Err (fault.Class at n ctype)
by_class at n ctype body (Some c) =
    if not (ctype == ctype_of c) then Err (fault.CType at n ctype) else
    if not (has_size (size_of c) body) then Err (fault.Contents at) else
    contents_of at c body

-- the ADSPEC that contents are: of C-Type 2, and of the form (RFC 2210, 3.3)
unfoldable pub advert_in : ℕ → ℕ → List ℕ → Option Adspec
advert_in n ctype body = if n == adspec && ctype == 2 then adspec_in body else None

-- it is read, and any other object of a class that is skipped stays unread
abbrev pub passed_over : ℕ → Option Adspec → Object
passed_over n (Some a) = object.Advert a
passed_over n None = object.Skipped n

unfoldable pub body_of : ℕ → ℕ → ℕ → List ℕ → Result Object ObjErr
body_of at n ctype body = if is_skipped n then Ok (passed_over n (advert_in n ctype body)) else by_class at n ctype body (class_with n)

-- ---- what is read of an object whose class is known, as an object

abbrev pub as_object : {A : Type 0} → (A → Object) → Result A ObjErr → Result Object ObjErr
as_object says (Ok x) = Ok (says x)
as_object says (Err f) = Err f

abbrev pub as_session : Result (Session × Bool) ObjErr → Result Object ObjErr
as_session r = as_object (λ s. object.Session s.0 s.1) r

-- ---- the whole

-- the contents behind a head
abbrev pub contents_at : ℕ → Head → List ℕ → List ℕ
contents_at at head bytes = take (head.end - (at + 4)) (drop (at + 4) bytes)

abbrev pub with_end : ℕ → Result Object ObjErr → Result (Object × ℕ) ObjErr
with_end end (Ok x) = Ok (x, end)
with_end end (Err f) = Err f

abbrev pub by_head : ℕ → List ℕ → Result Head ObjErr → Result (Object × ℕ) ObjErr
by_head at bytes (Err f) = Err f
by_head at bytes (Ok head) = with_end head.end (body_of at head.class.0 head.ctype (contents_at at head bytes))

-- the object at a place and the place after it, or the first fault
unfoldable pub object_at : ℕ → List ℕ → Result (Object × ℕ) ObjErr
object_at at bytes = by_head at bytes (head_of at (drop at bytes))

-- contents have the size of their class
abbrev pub IsSized : ReadClass → List ℕ → Type 0
IsSized c body = IsTrue (has_size (size_of c) body)
