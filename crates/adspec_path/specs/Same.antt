-- Whether two ADSPECs are the same, number by number.
use Rattle.std.specs.Prelude.{◌≡◌, ◌↔◌, ◌==◌, ◌&&◌, Bool, true, false, IsTrue, Option, Some, None}
use Rattle.std.specs.Bool.{beq}
use Rattle.std.specs.Str.{bytes_eq}
use Rattle.rsvp_base.specs.declared.flow.Peak.{Peak}
use Rattle.rsvp_base.specs.declared.flow.Peak.TheVariants.{Finite, Infinite}
use Rattle.rsvp_objects.specs.declared.adspec.Adspec.{Adspec}

abbrev pub same_rate : Peak → Peak → Bool
same_rate Infinite Infinite = true
same_rate Infinite (Finite s) = false
same_rate (Finite r) Infinite = false
same_rate (Finite r) (Finite s) = r == s

abbrev pub same_load : Option Bool → Option Bool → Bool
same_load None None = true
same_load None (Some c) = false
same_load (Some b) None = false
same_load (Some b) (Some c) = beq b c

abbrev pub same_adspec : Adspec → Adspec → Bool
same_adspec a b =
    beq a.broken b.broken
    && ((a.hops == b.hops) && (same_rate a.rate b.rate && ((a.latency == b.latency) && ((a.mtu == b.mtu) && (same_load a.load b.load && bytes_eq a.others b.others)))))

-- of what may be missing
abbrev pub same_told : Option Adspec → Option Adspec → Bool
same_told None None = true
same_told None (Some b) = false
same_told (Some a) None = false
same_told (Some a) (Some b) = same_adspec a b

abbrev pub SameIsEqual : Type 0
SameIsEqual = (a b : Option Adspec) → IsTrue (same_told a b) ↔ (a ≡ b)
