-- The fields of lines: which words have the form of a field, and which are in its range.
use Rattle.std.specs.Prelude.{ℕ, ◌^◌, ◌<◌, ◌||◌, List, Bool, IfSome, is_some, codes}
use Rattle.std.specs.List.{All}
use Rattle.std.specs.Str.{bytes_eq}
use Rattle.script_words.specs.Addresses.{IsAddr, IsGroup, IsHost, addr_value, quad_of, quads_of}
use Rattle.script_words.specs.Flows.{IsFlow, flow_of}
use Rattle.rsvp_base.specs.EndNames.{is_name}
use Rattle.script_words.specs.Numbers.{number_of}
use Rattle.script_words.specs.Sessions.{IsSender, IsSession, sender_of, senders_of, session_of}
use Rattle.script_words.specs.Styles.{style_of}
use Rattle.script_words.specs.declared.raw.DottedQuad.{DottedQuad}
use Rattle.script_grammar.specs.Draft.{lifetime_of_period, wall_lifetime_of_period}
use Rattle.script_grammar.specs.LineKinds.{bytes_of}
use Rattle.script_grammar.specs.Values.{IsFrom1To, IsPeriod, IsSub, most_passes, most_places, most_rounds, most_wait}
use Rattle.script_grammar.specs.declared.field.Field.{Field}
use Rattle.script_grammar.specs.declared.field.Field.TheVariants.{Period, Seed, Name, Host, Capacity, Mtu, Latency, Group, Address, Session, Sender, Senders, Addresses, Anyone, Style, Flow, Left}
use Rattle.script_grammar.specs.declared.field.Field.TheVariants.{WallLeft, Sub, Target, Switch, Digits, Confirm, Wait, Passes, Rounds, Place}

-- the word has the form of the field, as the grammar reads it
abbrev pub has_form : Field → List ℕ → Bool
has_form Period word = is_some (number_of word)
has_form Seed word = is_some (number_of word)
has_form Name word = is_name word
has_form Host word = is_some (quad_of word)
has_form Capacity word = is_some (number_of word)
has_form Mtu word = is_some (number_of word)
has_form Latency word = is_some (number_of word)
has_form Group word = is_some (quad_of word)
has_form Address word = is_some (quad_of word)
has_form Session word = is_some (session_of word)
has_form Sender word = is_some (sender_of word)
has_form Senders word = is_some (senders_of word)
has_form Addresses word = is_some (quads_of word)
has_form Anyone word = bytes_eq word (codes "*")
has_form Style word = is_some (style_of word)
has_form Flow word = is_some (flow_of word)
has_form Left word = is_some (number_of word)
has_form WallLeft word = is_some (number_of word)
has_form Sub word = is_some (number_of word)
has_form Target word = bytes_eq word (codes "hop") || bytes_eq word (codes "sender")
has_form Switch word = bytes_eq word (codes "on") || bytes_eq word (codes "off")
has_form Digits word = is_some (bytes_of word)
has_form Confirm word = bytes_eq word (codes "confirm")
has_form Wait word = is_some (number_of word)
has_form Passes word = is_some (number_of word)
has_form Rounds word = is_some (number_of word)
has_form Place word = is_some (number_of word)

-- a group of a tree
pub record IsGroupWord (q : DottedQuad) : Type 0 where
  pub addr : IsAddr q
  pub group : IsGroup (addr_value q)

-- an address of an end
pub record IsHostWord (q : DottedQuad) : Type 0 where
  pub addr : IsAddr q
  pub host : IsHost (addr_value q)

-- what the word of a field says is in its range, where the refresh period is this; fields that are not listed have none
abbrev pub IsInRange : ℕ → Field → List ℕ → Type 0
IsInRange period Period word = IfSome (number_of word) IsPeriod
IsInRange period Seed word = IfSome (number_of word) (λ n. n < 2 ^ 64)
IsInRange period Host word = IfSome (quad_of word) IsHostWord
IsInRange period Capacity word = IfSome (number_of word) (λ n. n < 2 ^ 46)
IsInRange period Mtu word = IfSome (number_of word) (IsFrom1To 65535)
IsInRange period Latency word = IfSome (number_of word) (λ n. n < 2 ^ 32)
IsInRange period Group word = IfSome (quad_of word) IsGroupWord
IsInRange period Address word = IfSome (quad_of word) IsAddr
IsInRange period Session word = IfSome (session_of word) IsSession
IsInRange period Sender word = IfSome (sender_of word) IsSender
IsInRange period Senders word = IfSome (senders_of word) (All IsSender)
IsInRange period Addresses word = IfSome (quads_of word) (All IsAddr)
IsInRange period Flow word = IfSome (flow_of word) IsFlow
IsInRange period Left word = IfSome (number_of word) (IsFrom1To (lifetime_of_period period))
IsInRange period WallLeft word = IfSome (number_of word) (IsFrom1To (wall_lifetime_of_period period))
IsInRange period Sub word = IfSome (number_of word) IsSub
IsInRange period Wait word = IfSome (number_of word) (IsFrom1To most_wait)
IsInRange period Passes word = IfSome (number_of word) (IsFrom1To most_passes)
IsInRange period Rounds word = IfSome (number_of word) (IsFrom1To most_rounds)
IsInRange period Place word = IfSome (number_of word) (IsFrom1To most_places)
IsInRange period _ word = Unit {0}
