-- The line of text that says what is wrong with a frame: its kind, the field and its number, and what is wanted.
use Rattle.std.specs.Prelude.{◌≡◌, ℕ, ◌==◌, List, [], ◌++◌, None, codes, if◌then◌else◌}
use Rattle.std.specs.Fmt.{decimal}
use Rattle.line_advice.specs.Blamed.{blamed_line}
use Rattle.node_stream.specs.declared.blame.Blame.{Blame}
use Rattle.node_stream.specs.declared.blame.Blame.TheVariants.{Head, Cut, Kind, Length, Early, Again, Period, ManyIfaces, Capacity, Mtu, SameAddr, Inward, Outward, SameTree, NoIface, Wait}

-- numbers between texts
unfoldable pub one_text : List ℕ → ℕ → List ℕ → List ℕ
one_text before n after = before ++ decimal n ++ after

unfoldable pub two_text : List ℕ → ℕ → List ℕ → ℕ → List ℕ → List ℕ
two_text before n between m after = before ++ decimal n ++ between ++ decimal m ++ after

unfoldable pub cut_text : ℕ → ℕ → ℕ → List ℕ
cut_text kind wanted got = two_text (codes "kind ") kind (codes ", length ") wanted (codes ": the input ends behind ") ++ decimal got ++ codes " of these bytes"

unfoldable pub way_text : ℕ → List ℕ → ℕ → ℕ → List ℕ
way_text route way number count = two_text (codes "kind 1, route ") route way number (codes ": the router has ") ++ decimal count ++ codes " interfaces, numbered from 0"

-- the length of a frame of this kind
abbrev pub length_form : ℕ → List ℕ
length_form kind =
    if kind == 1 then codes ": the contents are 7 bytes, and 16 for each interface and 11 for each route" else (
    if kind == 2 then codes ": the contents are 5 bytes and the datagram" else (
    if kind == 3 then codes ": the contents are 8 bytes" else codes ": it has no contents"))

abbrev pub wanted_text : Blame → List ℕ
wanted_text Head = codes "the input ends inside the three bytes with which a frame begins"
wanted_text (Cut kind wanted got) = cut_text kind wanted got
wanted_text (Kind kind) = one_text (codes "kind ") kind (codes ": a frame that comes is of kind 1 to 4")
wanted_text (Length kind size) = two_text (codes "kind ") kind (codes ", length ") size (length_form kind)
wanted_text (Early kind) = one_text (codes "kind ") kind (codes ": the first frame is of kind 1, which says where the router stands")
wanted_text Again = codes "kind 1: the router is open, and only the first frame is of kind 1"
wanted_text (Period ms) = one_text (codes "kind 1, period ") ms (codes ": a period is 1000 to 60000 milliseconds, and a multiple of 4")
wanted_text (ManyIfaces count) = one_text (codes "kind 1, number of interfaces ") count (codes ": a router has at most 16")
wanted_text (Capacity iface bytes) = two_text (codes "kind 1, interface ") iface (codes ", capacity ") bytes (codes ": a capacity is below 70368744177664 bytes per second")
wanted_text (Mtu iface bytes) = two_text (codes "kind 1, interface ") iface (codes ", MTU ") bytes (codes ": an MTU is 1 to 65535 bytes")
wanted_text (SameAddr iface) = one_text (codes "kind 1, interface ") iface (codes ", address: an interface before has it")
wanted_text (Inward route iface count) = way_text route (codes ", inward ") iface count
wanted_text (Outward route ways count) = way_text route (codes ", outward ") ways count
wanted_text (SameTree route) = one_text (codes "kind 1, route ") route (codes ", group and source: a route before has them")
wanted_text (NoIface iface count) = two_text (codes "kind 2, interface ") iface (codes ": the router has ") count (codes " interfaces, numbered from 0")
wanted_text (Wait ms most) = two_text (codes "kind 3, milliseconds ") ms (codes ": a wait is 1 to ") most (codes ", half of the period")

abbrev pub advice_text : Blame → List ℕ
advice_text blame = blamed_line [] None (wanted_text blame)

-- the text says what is wrong
abbrev pub IsAdvice : Blame → List ℕ → Type 0
IsAdvice blame text = text ≡ advice_text blame
