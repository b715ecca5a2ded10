-- No text of what is wanted of a frame is longer than there is room for.
use Rattle.std.proofs.Common.{ℕ, ◌+◌, ◌<◌, ◌≤◌, ◌^◌, ◌==◌, List, ◌++◌, Bool, true, false, length, arith, length-append}
use Rattle.std.proofs.lemmas.Fmt.{length-decimal-le}
use Rattle.std.specs.Prelude.{codes, if◌then◌else◌}
use Rattle.std.specs.Fmt.{decimal}
use Rattle.line_advice.specs.Blamed.{most_wanted}
use Rattle.node_stream.specs.Advice.{cut_text, length_form, one_text, two_text, wanted_text, way_text}
use Rattle.node_stream.specs.declared.blame.Blame.{Blame}
use Rattle.node_stream.specs.declared.blame.Blame.TheVariants.{Head, Cut, Kind, Length, Early, Again, Period, ManyIfaces, Capacity, Mtu, SameAddr, Inward, Outward, SameTree, NoIface, Wait}

pub number_short : (n : ℕ) → n < 2 ^ 64 → length (decimal n) ≤ 20
number_short n small = length-decimal-le 20 n (omega arith) (omega (arith, small)) small

abbrev IsShort : ℕ → Type 0
IsShort n = length (decimal n) ≤ 20

abbrev HasShortNumbers : Blame → Type 0
HasShortNumbers Head = Unit {0}
HasShortNumbers (Cut kind wanted got) = IsShort kind × IsShort wanted × IsShort got
HasShortNumbers (Kind kind) = IsShort kind
HasShortNumbers (Length kind size) = IsShort kind × IsShort size
HasShortNumbers (Early kind) = IsShort kind
HasShortNumbers Again = Unit {0}
HasShortNumbers (Period ms) = IsShort ms
HasShortNumbers (ManyIfaces count) = IsShort count
HasShortNumbers (Capacity iface bytes) = IsShort iface × IsShort bytes
HasShortNumbers (Mtu iface bytes) = IsShort iface × IsShort bytes
HasShortNumbers (SameAddr iface) = IsShort iface
HasShortNumbers (Inward route iface count) = IsShort route × IsShort iface × IsShort count
HasShortNumbers (Outward route ways count) = IsShort route × IsShort ways × IsShort count
HasShortNumbers (SameTree route) = IsShort route
HasShortNumbers (NoIface iface count) = IsShort iface × IsShort count
HasShortNumbers (Wait ms most) = IsShort ms × IsShort most

one_short : (before : List ℕ) (n : ℕ) (after : List ℕ) → IsShort n → length before + length after ≤ 300 → length (one_text before n after) ≤ 320
unfolding one_text
one_short before n after h few = omega (arith, length-append before (decimal n), length-append (before ++ decimal n) after, h, few)

two_short : (before : List ℕ) (n : ℕ) (between : List ℕ) (m : ℕ) (after : List ℕ) → IsShort n → IsShort m → length before + length between + length after ≤ 300
    → length (two_text before n between m after) ≤ 340
unfolding two_text
two_short before n between m after h k few =
    omega (
      arith,
      length-append before (decimal n),
      length-append (before ++ decimal n) between,
      length-append (before ++ decimal n ++ between) (decimal m),
      length-append (before ++ decimal n ++ between ++ decimal m) after,
      h,
      k,
      few,
    )

cut_short : (kind wanted got : ℕ) → IsShort kind → IsShort wanted → IsShort got → length (cut_text kind wanted got) ≤ 400
unfolding cut_text
cut_short kind wanted got h k j =
    omega (
      arith,
      length-append (two_text (codes "kind ") kind (codes ", length ") wanted (codes ": the input ends behind ")) (decimal got),
      length-append (two_text (codes "kind ") kind (codes ", length ") wanted (codes ": the input ends behind ") ++ decimal got) (codes " of these bytes"),
      two_short (codes "kind ") kind (codes ", length ") wanted (codes ": the input ends behind ") h k (omega arith),
      j,
    )

way_short : (route : ℕ) (way : List ℕ) (number count : ℕ) → IsShort route → IsShort number → IsShort count → length way ≤ 40 → length (way_text route way number count) ≤ 400
unfolding way_text
way_short route way number count h k j few =
    omega (
      arith,
      length-append (two_text (codes "kind 1, route ") route way number (codes ": the router has ")) (decimal count),
      length-append (two_text (codes "kind 1, route ") route way number (codes ": the router has ") ++ decimal count) (codes " interfaces, numbered from 0"),
      two_short (codes "kind 1, route ") route way number (codes ": the router has ") h k (omega (arith, few)),
      j,
    )

if_short : (b : Bool) (x y : List ℕ) → length x ≤ 90 → length y ≤ 90 → length (if b then x else y) ≤ 90
if_short true x y h g = h
if_short false x y h g = g

form_short : (kind : ℕ) → length (length_form kind) ≤ 90
form_short kind =
    let other : List ℕ = codes ": it has no contents" in
    let wait : List ℕ = if kind == 3 then codes ": the contents are 8 bytes" else other in
    let datagram : List ℕ = if kind == 2 then codes ": the contents are 5 bytes and the datagram" else wait in
    let wait_short : length wait ≤ 90 = if_short (kind == 3) (codes ": the contents are 8 bytes") other (omega arith) (omega arith) in
    let datagram_short : length datagram ≤ 90 = if_short (kind == 2) (codes ": the contents are 5 bytes and the datagram") wait (omega arith) wait_short in
    if_short (kind == 1) (codes ": the contents are 7 bytes, and 16 for each interface and 11 for each route") datagram (omega arith) datagram_short

pub wanted_short : (blame : Blame) → HasShortNumbers blame → length (wanted_text blame) ≤ most_wanted
wanted_short Head h = omega arith
wanted_short (Cut kind wanted got) h = omega (arith, cut_short kind wanted got h.0 h.1 h.2)
wanted_short (Kind kind) h = omega (arith, one_short (codes "kind ") kind (codes ": a frame that comes is of kind 1 to 4") h (omega arith))
wanted_short (Length kind size) h = omega (arith, two_short (codes "kind ") kind (codes ", length ") size (length_form kind) h.0 h.1 (omega (arith, form_short kind)))
wanted_short (Early kind) h = omega (arith, one_short (codes "kind ") kind (codes ": the first frame is of kind 1, which says where the router stands") h (omega arith))
wanted_short Again h = omega arith
wanted_short (Period ms) h = omega (arith, one_short (codes "kind 1, period ") ms (codes ": a period is 1000 to 60000 milliseconds, and a multiple of 4") h (omega arith))
wanted_short (ManyIfaces count) h = omega (arith, one_short (codes "kind 1, number of interfaces ") count (codes ": a router has at most 16") h (omega arith))
wanted_short (Capacity iface bytes) h =
    omega (arith, two_short (codes "kind 1, interface ") iface (codes ", capacity ") bytes (codes ": a capacity is below 70368744177664 bytes per second") h.0 h.1 (omega arith))
wanted_short (Mtu iface bytes) h = omega (arith, two_short (codes "kind 1, interface ") iface (codes ", MTU ") bytes (codes ": an MTU is 1 to 65535 bytes") h.0 h.1 (omega arith))
wanted_short (SameAddr iface) h = omega (arith, one_short (codes "kind 1, interface ") iface (codes ", address: an interface before has it") h (omega arith))
wanted_short (Inward route iface count) h = omega (arith, way_short route (codes ", inward ") iface count h.0 h.1 h.2 (omega arith))
wanted_short (Outward route ways count) h = omega (arith, way_short route (codes ", outward ") ways count h.0 h.1 h.2 (omega arith))
wanted_short (SameTree route) h = omega (arith, one_short (codes "kind 1, route ") route (codes ", group and source: a route before has them") h (omega arith))
wanted_short (NoIface iface count) h =
    omega (arith, two_short (codes "kind 2, interface ") iface (codes ": the router has ") count (codes " interfaces, numbered from 0") h.0 h.1 (omega arith))
wanted_short (Wait ms most) h = omega (arith, two_short (codes "kind 3, milliseconds ") ms (codes ": a wait is 1 to ") most (codes ", half of the period") h.0 h.1 (omega arith))
