-- The texts of values, in the form in which scripts write them.
use Rattle.std.specs.Prelude.{ℕ, ◌/◌, ◌%◌, List, ◌++◌, codes}
use Rattle.std.specs.Fmt.{decimal}
use Rattle.std.specs.List.{join_by}
use Rattle.rsvp_base.specs.TokenBucket.{TokenBucket}
use Rattle.rsvp_base.specs.declared.addr.Addr.{Addr}
use Rattle.rsvp_base.specs.declared.flow.Peak.{Peak}
use Rattle.rsvp_base.specs.declared.flow.Peak.TheVariants.{Finite, Infinite}
use Rattle.rsvp_base.specs.declared.session.Session.{Session}
use Rattle.rsvp_base.specs.declared.session.Sender.{Sender}
use Rattle.rsvp_base.specs.declared.style.StyleKind.{StyleKind}
use Rattle.rsvp_base.specs.declared.style.StyleKind.TheVariants.{Wild, Fixed, Shared}

-- A.B.C.D
unfoldable pub addr_text : Addr → List ℕ
addr_text a = decimal (a.0 / 16777216) ++ codes "." ++ decimal (a.0 / 65536 % 256) ++ codes "." ++ decimal (a.0 / 256 % 256) ++ codes "." ++ decimal (a.0 % 256)

-- GROUP/PROTO/PORT
unfoldable pub session_text : Session → List ℕ
session_text s = addr_text s.group ++ codes "/" ++ decimal s.proto ++ codes "/" ++ decimal s.port

abbrev pub style_text : StyleKind → List ℕ
style_text Wild = codes "WF"
style_text Fixed = codes "FF"
style_text Shared = codes "SE"

-- ADDR:PORT, and for a wildcard reservation ADDR
unfoldable pub sender_text : Sender → List ℕ
sender_text s = addr_text s.addr ++ codes ":" ++ decimal s.port

abbrev pub name_text : StyleKind → Sender → List ℕ
name_text Wild s = addr_text s.addr
name_text Fixed s = sender_text s
name_text Shared s = sender_text s

-- joined by commas
abbrev pub names_text : StyleKind → List Sender → List ℕ
names_text style names = join_by (name_text style) (codes ",") names

abbrev pub peak_text : Peak → List ℕ
peak_text Infinite = codes "inf"
peak_text (Finite n) = decimal n

-- r/b/p/m/M
unfoldable pub flow_text : TokenBucket → List ℕ
flow_text f = decimal f.r ++ codes "/" ++ decimal f.b ++ codes "/" ++ peak_text f.p ++ codes "/" ++ decimal f.low ++ codes "/" ++ decimal f.most
