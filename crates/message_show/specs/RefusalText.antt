-- The line of bytes that are no message: the name of their first fault, its place, and what more it tells.
use Rattle.std.specs.Prelude.{ℕ, List, ◌++◌, codes}
use Rattle.std.specs.Fmt.{decimal}
use Rattle.rsvp_messages.specs.declared.fault.Fault.{Fault}
use Rattle.rsvp_messages.specs.declared.fault.Fault.TheVariants as fault
use Rattle.rsvp_objects.specs.declared.obj_err.ObjErr.{ObjErr}
use Rattle.rsvp_objects.specs.declared.obj_err.ObjErr.TheVariants as object

-- NAME PLACE
unfoldable pub placed_text : List ℕ → ℕ → List ℕ
placed_text name place = name ++ codes " " ++ decimal place

-- NAME PLACE CLASS/CTYPE
unfoldable pub typed_text : List ℕ → ℕ → ℕ → ℕ → List ℕ
typed_text name place class ctype = placed_text name place ++ codes " " ++ decimal class ++ codes "/" ++ decimal ctype

-- the fault of an object
abbrev pub object_fault_text : ObjErr → List ℕ
object_fault_text (object.Short place) = placed_text (codes "Short") place
object_fault_text (object.Length place) = placed_text (codes "Length") place
object_fault_text (object.Class place class ctype) = typed_text (codes "Class") place class ctype
object_fault_text (object.CType place class ctype) = typed_text (codes "CType") place class ctype
object_fault_text (object.Contents place) = placed_text (codes "Contents") place
object_fault_text (object.Style place) = placed_text (codes "Style") place
object_fault_text (object.Service place) = placed_text (codes "Service") place
object_fault_text (object.Flow place) = placed_text (codes "Flow") place
object_fault_text (object.Tspec place) = placed_text (codes "Tspec") place
object_fault_text (object.Crowd place) = placed_text (codes "Crowd") place

-- the fault of bytes; of a missing object its class
abbrev pub fault_text : Fault → List ℕ
fault_text fault.TooLong = codes "TooLong"
fault_text fault.Short = codes "Short"
fault_text fault.Version = codes "Version"
fault_text fault.Length = codes "Length"
fault_text fault.Checksum = codes "Checksum"
fault_text fault.Kind = codes "Kind"
fault_text (fault.Object e) = object_fault_text e
fault_text (fault.Order place) = placed_text (codes "Order") place
fault_text (fault.Repeated place) = placed_text (codes "Repeated") place
fault_text (fault.Missing class) = placed_text (codes "Missing") class

-- refused FAULT
unfoldable pub refusal_text : Fault → List ℕ
refusal_text f = codes "refused " ++ fault_text f ++ codes "\n"
