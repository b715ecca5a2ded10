-- The words of an ADSPEC: `hops N rate R latency L mtu M`, then `broken` where its general part is, then `cl ok` or `cl broken` where it
-- has controlled load. They begin with the space before the first.
use Rattle.std.specs.Prelude.{ℕ, Bool, true, false, List, [], ◌++◌, Option, Some, None, codes}
use Rattle.std.specs.Fmt.{decimal}
use Rattle.rsvp_objects.specs.declared.adspec.Adspec.{Adspec}
use Rattle.value_texts.specs.Texts.{peak_text}

abbrev pub load_text : Option Bool → List ℕ
load_text None = []
load_text (Some true) = codes " cl broken"
load_text (Some false) = codes " cl ok"

abbrev pub broken_text : Bool → List ℕ
broken_text true = codes " broken"
broken_text false = []

unfoldable pub rate_text : Adspec → List ℕ
rate_text a = codes " hops " ++ decimal a.hops ++ codes " rate " ++ peak_text a.rate

unfoldable pub packet_text : Adspec → List ℕ
packet_text a = codes " latency " ++ decimal a.latency ++ codes " mtu " ++ decimal a.mtu

unfoldable pub adspec_words : Adspec → List ℕ
adspec_words a = rate_text a ++ packet_text a ++ broken_text a.broken ++ load_text a.load
