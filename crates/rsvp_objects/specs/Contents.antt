-- The contents of each class of objects, behind the head of four bytes: one figure a class (RFC 2205, appendix A), what
-- contents say, and how they are written. What a figure does not name is not looked at, and written as 0. All numbers
-- stand in network byte order; a line of a figure is four bytes.
use Rattle.std.specs.Prelude.{ℕ, ◌+◌, ◌%◌, Bool, ◌==◌, List, [], ◌∷◌, ◌++◌, Option, Some, None, if◌then◌else◌}
use Rattle.std.specs.List.{flat_map}
use Rattle.rsvp_base.specs.declared.addr.Addr.{Addr}
use Rattle.rsvp_base.specs.declared.err_spec.ErrSpec.{ErrSpec}
use Rattle.rsvp_base.specs.declared.hop.Hop.{Hop}
use Rattle.rsvp_base.specs.declared.session.Sender.{Sender}
use Rattle.rsvp_base.specs.declared.session.Session.{Session}
use Rattle.rsvp_base.specs.declared.style.StyleKind.{StyleKind}
use Rattle.rsvp_base.specs.declared.style.StyleKind.TheVariants.{Wild, Fixed, Shared}
use Rattle.rsvp_base.specs.Orders.{Names, names_from}
use Rattle.rsvp_base.specs.Table.{keys}
use Rattle.rsvp_objects.specs.Fields.{byte_at, half_at, word_at, addr_at, half, word, has_flag, flag_if}

-- ---- SESSION (A.1)
--
--     +-------------+-------------+-------------+-------------+
--     |                   IPv4 DestAddress                    |
--     +-------------+-------------+-------------+-------------+
--     | Protocol Id |    Flags    |          DstPort          |
--     +-------------+-------------+-------------+-------------+
--
-- Flags: 0x01 E_Police.

abbrev pub e_police : ℕ
e_police = 1

abbrev pub session_in : List ℕ → Session
session_in body = record { group = addr_at 0 body; proto = byte_at 4 body; port = half_at 6 body }

abbrev pub police_in : List ℕ → Bool
police_in body = has_flag e_police (byte_at 5 body)

abbrev pub session_bytes : Session → Bool → List ℕ
session_bytes s police = word s.group.0 ++ s.proto ∷ flag_if police e_police ∷ half s.port

-- ---- RSVP_HOP (A.2)
--
--     +-------------+-------------+-------------+-------------+
--     |             IPv4 Next/Previous Hop Address            |
--     +-------------+-------------+-------------+-------------+
--     |                 Logical Interface Handle              |
--     +-------------+-------------+-------------+-------------+

abbrev pub hop_in : List ℕ → Hop
hop_in body = record { addr = addr_at 0 body; handle = word_at 4 body }

abbrev pub hop_bytes : Hop → List ℕ
hop_bytes h = word h.addr.0 ++ word h.handle

-- ---- TIME_VALUES (A.4)
--
--     +-------------+-------------+-------------+-------------+
--     |                   Refresh Period R                    |
--     +-------------+-------------+-------------+-------------+

abbrev pub period_in : List ℕ → ℕ
period_in body = word_at 0 body

abbrev pub period_bytes : ℕ → List ℕ
period_bytes period = word period

-- ---- ERROR_SPEC (A.5)
--
--     +-------------+-------------+-------------+-------------+
--     |               IPv4 Error Node Address                 |
--     +-------------+-------------+-------------+-------------+
--     |    Flags    |  Error Code |        Error Value        |
--     +-------------+-------------+-------------+-------------+
--
-- Flags: 0x01 InPlace, 0x02 NotGuilty.

abbrev pub in_place : ℕ
in_place = 1

abbrev pub not_guilty : ℕ
not_guilty = 2

abbrev pub error_in : List ℕ → ErrSpec
error_in body =
    record {
      node = addr_at 0 body;
      in_place = has_flag in_place (byte_at 4 body);
      not_guilty = has_flag not_guilty (byte_at 4 body);
      code = byte_at 5 body;
      value = half_at 6 body;
    }

abbrev pub error_bytes : ErrSpec → List ℕ
error_bytes e = word e.node.0 ++ (flag_if e.in_place in_place + flag_if e.not_guilty not_guilty) ∷ e.code ∷ half e.value

-- ---- SCOPE (A.6)
--
--     +-------------+-------------+-------------+-------------+
--     |                IPv4 Src Address (1)                   |
--     +-------------+-------------+-------------+-------------+
--     //                                                      //
--     +-------------+-------------+-------------+-------------+
--     |                IPv4 Src Address (n)                   |
--     +-------------+-------------+-------------+-------------+
--
-- A scope is the set of these addresses, each as a sender with port 0.

abbrev pub source : ℕ → Sender
source addr = record { addr = record { 0 = addr }; port = 0 }

abbrev pub sources_in : List ℕ → List Sender
sources_in (a ∷ b ∷ c ∷ d ∷ rest) = source (word_at 0 (a ∷ b ∷ c ∷ d ∷ [])) ∷ sources_in rest
sources_in _ = []

abbrev pub scope_in : List ℕ → Names
scope_in body = names_from (sources_in body)

abbrev pub source_bytes : Sender → List ℕ
source_bytes s = word s.addr.0

abbrev pub scope_bytes : Names → List ℕ
scope_bytes names = flat_map source_bytes (keys names)

-- ---- STYLE (A.7)
--
--     +-------------+-------------+-------------+-------------+
--     |   Flags     |              Option Vector              |
--     +-------------+-------------+-------------+-------------+
--
-- The last five bits of the option vector: 10001 wildcard, 01010 fixed, 10010 shared explicit.

abbrev pub style_number : StyleKind → ℕ
style_number Wild = 17
style_number Fixed = 10
style_number Shared = 18

abbrev pub style_with : ℕ → Option StyleKind
style_with n = if n == 17 then Some Wild else if n == 10 then Some Fixed else if n == 18 then Some Shared else None

abbrev pub style_in : List ℕ → Option StyleKind
style_in body = style_with (byte_at 3 body % 32)

abbrev pub style_bytes : StyleKind → List ℕ
style_bytes kind = 0 ∷ 0 ∷ 0 ∷ style_number kind ∷ []

-- ---- FILTER_SPEC (A.9) and SENDER_TEMPLATE (A.10)
--
--     +-------------+-------------+-------------+-------------+
--     |                   IPv4 SrcAddress                     |
--     +-------------+-------------+-------------+-------------+
--     |    //////   |    //////   |          SrcPort          |
--     +-------------+-------------+-------------+-------------+

abbrev pub sender_in : List ℕ → Sender
sender_in body = record { addr = addr_at 0 body; port = half_at 6 body }

abbrev pub sender_bytes : Sender → List ℕ
sender_bytes s = word s.addr.0 ++ 0 ∷ 0 ∷ half s.port

-- ---- RESV_CONFIRM (A.14)
--
--     +-------------+-------------+-------------+-------------+
--     |                IPv4 Receiver Address                  |
--     +-------------+-------------+-------------+-------------+

abbrev pub confirm_in : List ℕ → Addr
confirm_in body = addr_at 0 body

abbrev pub confirm_bytes : Addr → List ℕ
confirm_bytes a = word a.0
