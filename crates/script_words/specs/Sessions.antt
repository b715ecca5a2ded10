-- Sessions and senders in words.
use Rattle.std.specs.Prelude.{ℕ, ◌≤◌, List, Option, Some}
use Rattle.std.specs.Str.{byte}
use Rattle.rsvp_base.specs.declared.session.Session.{Session}
use Rattle.rsvp_base.specs.declared.session.Sender.{Sender}
use Rattle.script_words.specs.Steps.{◌>>=◌, each_of}
use Rattle.script_words.specs.Parts.{parts_of, two, three}
use Rattle.script_words.specs.Numbers.{number_of}
use Rattle.script_words.specs.Addresses.{quad_of, IsAddr, addr_value, IsGroup}
use Rattle.script_words.specs.declared.raw.SessionWord.{SessionWord}
use Rattle.script_words.specs.declared.raw.SenderWord.{SenderWord}

-- GROUP/PROTO/PORT
unfoldable pub session_of : List ℕ → Option SessionWord
session_of word = do
  p ← three (parts_of (byte "/") word)
  group ← quad_of p.0
  proto ← number_of p.1
  port ← number_of p.2
  Some (record { group = group; proto = proto; port = port })

-- ADDR:PORT
unfoldable pub sender_of : List ℕ → Option SenderWord
sender_of word = do
  p ← two (parts_of (byte ":") word)
  addr ← quad_of p.0
  port ← number_of p.1
  Some (record { addr = addr; port = port })

-- senders joined by commas
abbrev pub senders_of : List ℕ → Option (List SenderWord)
senders_of word = each_of sender_of (parts_of (byte ",") word)

-- the numbers of a session are in range
pub record IsSession (w : SessionWord) : Type 0 where
  pub addr : IsAddr w.group
  pub group : IsGroup (addr_value w.group)
  pub some_proto : 1 ≤ w.proto
  pub proto : w.proto ≤ 255
  pub port : w.port ≤ 65535

abbrev pub session_value : SessionWord → Session
session_value w = record { group = addr_value w.group; proto = w.proto; port = w.port }

-- the numbers of a sender are in range
pub record IsSender (w : SenderWord) : Type 0 where
  pub addr : IsAddr w.addr
  pub port : w.port ≤ 65535

abbrev pub sender_value : SenderWord → Sender
sender_value w = record { addr = addr_value w.addr; port = w.port }
