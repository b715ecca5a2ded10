-- How each object is spelt: its head (RFC 2205, 3.1.2), and the contents of its figure.
use Rattle.std.specs.Prelude.{List, [], ℕ}
use Rattle.rsvp_objects.specs.AdspecSpelling.{object_bytes}
use Rattle.rsvp_objects.specs.declared.read_class.ReadClass.{ReadClass}
use Rattle.rsvp_objects.specs.declared.read_class.ReadClass.TheVariants as class
use Rattle.rsvp_objects.specs.declared.object.Object.{Object}
use Rattle.rsvp_objects.specs.declared.object.Object.TheVariants as object
use Rattle.rsvp_objects.specs.Fields.{spelt}
use Rattle.rsvp_objects.specs.Classes.{class_number, ctype_of}
use Rattle.rsvp_objects.specs.Contents.{session_bytes, hop_bytes, period_bytes, error_bytes, scope_bytes, style_bytes, sender_bytes, confirm_bytes}
use Rattle.rsvp_objects.specs.FlowWords.{controlled_load, general, flow_bytes}

abbrev pub spelt_as : ReadClass → List ℕ → List ℕ
spelt_as c body = spelt (class_number c) (ctype_of c) body

-- a skipped object is written without contents
unfoldable pub spelling : Object → List ℕ
spelling (object.Session s police) = spelt_as class.Session (session_bytes s police)
spelling (object.HopOf h) = spelt_as class.RsvpHop (hop_bytes h)
spelling (object.Time period) = spelt_as class.TimeValues (period_bytes period)
spelling (object.Error e) = spelt_as class.ErrorSpec (error_bytes e)
spelling (object.Scope names) = spelt_as class.Scope (scope_bytes names)
spelling (object.StyleOf kind) = spelt_as class.Style (style_bytes kind)
spelling (object.FlowOf f) = spelt_as class.FlowSpec (flow_bytes controlled_load f)
spelling (object.Filter s) = spelt_as class.FilterSpec (sender_bytes s)
spelling (object.Template s) = spelt_as class.SenderTemplate (sender_bytes s)
spelling (object.Tspec f) = spelt_as class.SenderTspec (flow_bytes general f)
spelling (object.Advert a) = object_bytes a
spelling (object.Confirm a) = spelt_as class.ResvConfirm (confirm_bytes a)
spelling (object.Skipped n) = spelt n 0 []
