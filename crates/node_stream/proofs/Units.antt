-- A message in range lists few.
use Rattle.std.proofs.Common.{◌≡◌, ◌≤◌, true, length, arith}
use Rattle.std.proofs.lemmas.List.{length-map}
use Rattle.laws_bounds.specs.CountLaws.{HasFewUnits}
use Rattle.message_codec.proofs.Testing.{range_is_known}
use Rattle.message_codec.specs.Encoding.{IsAskFew, IsFew}
use Rattle.message_codec.specs.Written.{is_in_range}
use Rattle.rsvp_messages.specs.Units.{asked_units, fixed_unit}
use Rattle.rsvp_messages.specs.declared.ask.Ask.{Ask}
use Rattle.rsvp_messages.specs.declared.ask.Ask.TheVariants as ask
use Rattle.rsvp_messages.specs.declared.message.Message.{Message}
use Rattle.rsvp_messages.specs.declared.message.Message.TheVariants as message

units_few : (a : Ask) → IsAskFew a → length (asked_units a) ≤ 16
units_few (ask.Wild scope flow) few = omega arith
units_few (ask.Fixed list) few = omega (arith, few, length-map list.rows fixed_unit)
units_few (ask.Shared part) few = omega arith

few_listed : (m : Message) → IsFew m → HasFewUnits m
few_listed (message.Path m) few = tt
few_listed (message.Resv m) few = units_few m.ask few
few_listed (message.PathErr m) few = tt
few_listed (message.ResvErr m) few = tt
few_listed (message.PathTear m) few = tt
few_listed (message.ResvTear m) few = tt
few_listed (message.ResvConf m) few = tt

pub few_units : (m : Message) → is_in_range m ≡ true → HasFewUnits m
few_units m range = few_listed m ((range_is_known m).0 range).lists
