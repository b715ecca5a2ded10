-- The laws of ADSPECs and their spellings.
use Rattle.std.specs.Prelude.{◌≡◌, ◌<◌, ◌^◌, ℕ, List, Some}
use Rattle.std.specs.List.{AllByRecursion}
use Rattle.rsvp_objects.specs.Fields.{AreBytes}
use Rattle.rsvp_objects.specs.RateLaws.{IsPeak}
use Rattle.rsvp_objects.specs.declared.adspec.Adspec.{Adspec}
use Rattle.rsvp_objects.specs.Fragment.{IsFragments}
use Rattle.rsvp_objects.specs.Form.{adspec_in}
use Rattle.rsvp_objects.specs.AdspecSpelling.{adspec_bytes}

-- the numbers fit their fields, and the other fragments are such
pub record IsAdspec (a : Adspec) : Type 0 where
  pub hops : a.hops < 2 ^ 32
  pub rate : IsPeak a.rate
  pub latency : a.latency < 2 ^ 32
  pub mtu : a.mtu < 2 ^ 32
  pub others : IsFragments a.others
  pub words : AllByRecursion (λ w. w < 2 ^ 32) a.others

abbrev pub WhatWasWrittenIsReadAgain : Type 0
WhatWasWrittenIsReadAgain = (a : Adspec) → IsAdspec a → adspec_in (adspec_bytes a) ≡ Some a

abbrev pub WhatIsReadCanBeWritten : Type 0
WhatIsReadCanBeWritten = (body : List ℕ) (a : Adspec) → AreBytes body → adspec_in body ≡ Some a → IsAdspec a
