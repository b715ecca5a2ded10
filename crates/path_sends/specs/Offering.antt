-- Offers as the code has them.
use Rattle.std.specs.Prelude.{◌&&◌, Bool, true, false, Option, None, Some}
use Rattle.adspec_path.specs.Same.{same_adspec}
use Rattle.rsvp_objects.specs.declared.adspec.Adspec.{Adspec}
use Rattle.path_state.specs.declared.fact.PathFact.{PathFact}
use Rattle.rsvp_base.specs.TokenBucket.{TokenBucket}
use Rattle.router_rules.specs.declared.advert.Advert.{Advert}
use Rattle.router_rules.specs.declared.advert.Advert.TheVariants.{Begins, Passes, Silent}
use Rattle.router_rules.specs.Offers.{Offer, advert_of}
use Rattle.router_rules.specs.Sends.{same_flow}
use Rattle.path_sends.specs.declared.offered.Offered.{Offered}

abbrev pub as_offer : Offered → Offer
as_offer o = record { tspec = o.tspec; local = o.local; advert = o.advert }

-- by a path
abbrev pub passed_offer : TokenBucket → Option Adspec → Offer
passed_offer tspec kept = record { tspec = tspec; local = false; advert = advert_of kept }

-- as the table of paths has it
abbrev pub fact_offer : PathFact → Offer
fact_offer fact = passed_offer fact.tspec fact.adspec

-- what is told of two offers comes from the same: from nothing, from here, or from the same ADSPEC
abbrev pub same_source : Advert → Advert → Bool
same_source Silent Silent = true
same_source Silent Begins = false
same_source Silent (Passes b) = false
same_source Begins Silent = false
same_source Begins Begins = true
same_source Begins (Passes b) = false
same_source (Passes a) Silent = false
same_source (Passes a) Begins = false
same_source (Passes a) (Passes b) = same_adspec a b

-- an offer is that of before: of the same flow, and told from the same
abbrev pub is_offered_again : Offer → Option Offer → Bool
is_offered_again o None = false
is_offered_again o (Some old) = same_flow o.tspec old.tspec && same_source o.advert old.advert
