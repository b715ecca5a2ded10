-- What is wanted of a field, in words.
use Rattle.std.specs.Prelude.{ℕ, List, ◌++◌, codes}
use Rattle.std.specs.Fmt.{decimal}
use Rattle.script_grammar.specs.Draft.{lifetime_of_period, wall_lifetime_of_period}
use Rattle.script_grammar.specs.declared.field.Field.{Field}
use Rattle.script_grammar.specs.declared.field.Field.TheVariants.{Period, Seed, Name, Host, Capacity, Mtu, Latency, Group, Address, Session, Sender, Senders, Addresses, Anyone, Style, Flow, Left}
use Rattle.script_grammar.specs.declared.field.Field.TheVariants.{WallLeft, Sub, Target, Switch, Digits, Confirm, Wait, Passes, Rounds, Place}

-- its form
abbrev pub form_text : Field → List ℕ
form_text Period = codes "milliseconds, without a unit: a number is 0, or 1 to 20 digits of which the first is not 0"
form_text Seed = codes "a number is 0, or 1 to 20 digits of which the first is not 0"
form_text Name = codes "a name is 1 to 16 lower-case letters, digits and _, beginning with a letter"
form_text Host = codes "an address is four numbers up to 255 joined by dots"
form_text Capacity = codes "bytes per second, without a unit or a letter for thousands: a number is 0, or 1 to 20 digits of which the first is not 0"
form_text Mtu = codes "bytes, without a unit: a number is 0, or 1 to 20 digits of which the first is not 0"
form_text Latency = codes "microseconds, without a unit: a number is 0, or 1 to 20 digits of which the first is not 0"
form_text Group = codes "an address is four numbers up to 255 joined by dots"
form_text Address = codes "an address is four numbers up to 255 joined by dots"
form_text Session = codes "a session is GROUP/PROTO/PORT, as 239.1.1.1/17/5004"
form_text Sender = codes "a sender is ADDR:PORT, as 10.0.1.1:5004"
form_text Senders = codes "senders are ADDR:PORT, joined by commas without spaces"
form_text Addresses = codes "the senders of WF are addresses joined by commas without spaces"
form_text Anyone = codes "a wish of the style WF names no sender: * stands here"
form_text Style = codes "a style is WF, FF or SE"
form_text Flow = codes "a flow is r/b/p/m/M: five numbers, of which p may be inf"
form_text Left = codes "milliseconds, without a unit: a number is 0, or 1 to 20 digits of which the first is not 0"
form_text WallLeft = codes "milliseconds, without a unit: a number is 0, or 1 to 20 digits of which the first is not 0"
form_text Sub = codes "a number is 0, or 1 to 20 digits of which the first is not 0"
form_text Target = codes "a blockade is of a hop or of a sender: hop or sender stands here"
form_text Switch = codes "a trace is on or off"
form_text Digits = codes "bytes are an even number of hexadecimal digits, at least two"
form_text Confirm = codes "behind the flow of a wish only confirm may stand"
form_text Wait = codes "milliseconds, without a unit: a number is 0, or 1 to 20 digits of which the first is not 0"
form_text Passes = codes "a number is 0, or 1 to 20 digits of which the first is not 0"
form_text Rounds = codes "a number is 0, or 1 to 20 digits of which the first is not 0"
form_text Place = codes "a number is 0, or 1 to 20 digits of which the first is not 0"

-- its range, where the refresh period is this; a field that has none has its form alone
abbrev pub range_text : ℕ → Field → List ℕ
range_text period Period = codes "a number of milliseconds, from 1000 to 60000, that 4 divides"
range_text period Seed = codes "a number up to 18446744073709551615"
range_text period Host = codes "each part of an address is at most 255, and an end has neither 0.0.0.0 nor a group, 224.0.0.0 to 239.255.255.255"
range_text period Capacity = codes "a number of bytes per second, up to 70368744177663"
range_text period Mtu = codes "a number of bytes, from 1 to 65535"
range_text period Latency = codes "a number of microseconds, up to 4294967295"
range_text period Group = codes "a group is an address from 224.0.0.0 to 239.255.255.255"
range_text period Address = codes "each part of an address is at most 255"
range_text period Session = codes "a group is from 224.0.0.0 to 239.255.255.255, a protocol from 1 to 255, a port at most 65535"
range_text period Sender = codes "each part of an address is at most 255, and a port at most 65535"
range_text period Senders = codes "each part of an address is at most 255, and a port at most 65535"
range_text period Addresses = codes "each part of an address is at most 255"
range_text period Sub = codes "2 for the rate, 3 for the packet size"
range_text period Wait = codes "a number of milliseconds, from 1 to 3600000"
range_text period Passes = codes "a number from 1 to 1000"
range_text period Rounds = codes "a number from 1 to 10000"
range_text period Place = codes "a number from 1 to 8192"
range_text period Left = codes "a number of milliseconds, from 1 to " ++ decimal (lifetime_of_period period)
range_text period WallLeft = codes "a number of milliseconds, from 1 to " ++ decimal (wall_lifetime_of_period period)
range_text period field = form_text field
