-- The frames of a stream, by their bytes: a kind in one byte, the length of the contents in two, and as many bytes; numbers in
-- network byte order.
--
--   kind 1   where the router stands: period 4; number of interfaces 1, each address 4, capacity 8, MTU 4; number of routes 2, each
--            group 4, source 4, inward 1 (255: none), outward 2
--   kind 2   a datagram comes: interface 1, destination 4, the datagram
--   kind 3   time passes: milliseconds 4, word 4
--   kind 4   the router is cleared: nothing
use Rattle.std.specs.Prelude.{◌≡◌, ◌≤◌, ℕ, ◌+◌, ◌*◌, ◌==◌, nat_le, Bool, ◌&&◌, List, ◌∷◌, ◌++◌, length, drop, Option, None, Some, if◌then◌else◌}
use Rattle.byteorder.specs.Endian.{big_number}
use Rattle.rsvp_objects.specs.Fields.{addr_at, byte_at, half, half_at, word_at}
use Rattle.rsvp_base.specs.declared.addr.Addr.{Addr}
use Rattle.rsvp_base.specs.declared.iface.Iface.{Iface}
use Rattle.router_rules.specs.declared.route.Route.{Route}
use Rattle.node_stream.specs.declared.frame.Frame.{Frame}
use Rattle.node_stream.specs.declared.frame.Frame.TheVariants.{Opens, Comes, Waits, Clears}

-- the 64-bit number at a place
abbrev pub long_at : ℕ → List ℕ → ℕ
long_at place bytes = big_number 8 (drop place bytes)

-- ---- a frame
abbrev pub framed : ℕ → List ℕ → List ℕ
framed kind contents = kind ∷ half (length contents) ++ contents

-- how many bytes of contents stand behind a head of three bytes
abbrev pub length_at : List ℕ → ℕ
length_at head = half_at 1 head

-- ---- kind 1
abbrev pub period_in : List ℕ → ℕ
period_in contents = word_at 0 contents

abbrev pub iface_count : List ℕ → ℕ
iface_count contents = byte_at 4 contents

-- interface k, from 0
abbrev pub iface_at : List ℕ → ℕ → Iface
iface_at contents k =
    record { addr = addr_at (5 + 16 * k) contents; capacity = long_at (9 + 16 * k) contents; mtu = word_at (17 + 16 * k) contents; latency = 0 }

-- where the routes begin: how many there are, behind n interfaces
abbrev pub routes_place : ℕ → ℕ
routes_place n = 5 + 16 * n

abbrev pub route_count : List ℕ → ℕ
route_count contents = half_at (routes_place (iface_count contents)) contents

-- an interface, or none
abbrev pub iface_of : ℕ → Option ℕ
iface_of byte = if byte == 255 then None else Some byte

-- the route whose bytes begin there
abbrev pub route_from : ℕ → List ℕ → Route
route_from place contents =
    record { group = addr_at place contents; source = addr_at (4 + place) contents; inward = iface_of (byte_at (8 + place) contents); outward = half_at (9 + place) contents }

-- route k, from 0
abbrev pub route_at : List ℕ → ℕ → Route
route_at contents k = route_from (7 + 16 * iface_count contents + 11 * k) contents

-- the number of interfaces and that of routes are there, and the length is theirs
unfoldable pub is_opening : List ℕ → Bool
is_opening contents =
    nat_le 5 (length contents)
    && (nat_le (7 + 16 * iface_count contents) (length contents)
    && (length contents == 7 + 16 * iface_count contents + 11 * route_count contents))

-- the same as a record of facts
pub record HasForm (contents : List ℕ) : Type 0 where
  pub head : 5 ≤ length contents
  pub counts : 7 + 16 * iface_count contents ≤ length contents
  pub all : length contents ≡ 7 + 16 * iface_count contents + 11 * route_count contents

-- ---- each kind
abbrev pub opens_in : List ℕ → Option Frame
opens_in contents = if is_opening contents then Some Opens else None

abbrev pub comes_in : List ℕ → Option Frame
comes_in contents = if nat_le 5 (length contents) then Some (Comes (byte_at 0 contents) (addr_at 1 contents)) else None

abbrev pub datagram_in : List ℕ → List ℕ
datagram_in contents = drop 5 contents

abbrev pub waits_in : List ℕ → Option Frame
waits_in contents = if length contents == 8 then Some (Waits (word_at 0 contents) (word_at 4 contents)) else None

abbrev pub clears_in : List ℕ → Option Frame
clears_in contents = if length contents == 0 then Some Clears else None

-- what a frame of a kind and with these contents says; nothing, where there is no such kind, or the length does not fit it
abbrev pub frame_of : ℕ → List ℕ → Option Frame
frame_of kind contents =
    if kind == 1 then opens_in contents else (
    if kind == 2 then comes_in contents else (
    if kind == 3 then waits_in contents else (
    if kind == 4 then clears_in contents else None)))
