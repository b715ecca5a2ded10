-- Who is advertised behind some lines, computed.
use Rattle.std.proofs.Common.{refl}
use Rattle.script_theorem.specs.AdvertRows.{ADropEndsTheAdvert}

pub a_drop_ends_the_advert : ADropEndsTheAdvert
a_drop_ends_the_advert = record { advertised = refl; dropped = refl; again = refl }
