-- Addresses in words.
use Rattle.std.specs.Prelude.{◌≢◌, ℕ, ◌+◌, ◌*◌, ◌≤◌, List, Option, Some}
use Rattle.std.specs.Str.{byte}
use Rattle.rsvp_base.specs.declared.addr.Addr.{Addr}
use Rattle.script_words.specs.Steps.{◌>>=◌, each_of}
use Rattle.script_words.specs.Parts.{parts_of, four}
use Rattle.script_words.specs.Numbers.{number_of}
use Rattle.script_words.specs.declared.raw.DottedQuad.{DottedQuad}

-- four numbers joined by dots
unfoldable pub quad_of : List ℕ → Option DottedQuad
quad_of word = do
  p ← four (parts_of (byte ".") word)
  a ← number_of p.0
  b ← number_of p.1
  c ← number_of p.2
  d ← number_of p.3
  Some (record { a = a; b = b; c = c; d = d })

-- addresses joined by commas
abbrev pub quads_of : List ℕ → Option (List DottedQuad)
quads_of word = each_of quad_of (parts_of (byte ",") word)

-- each part is a byte
pub record IsAddr (q : DottedQuad) : Type 0 where
  pub a : q.a ≤ 255
  pub b : q.b ≤ 255
  pub c : q.c ≤ 255
  pub d : q.d ≤ 255

-- the address with these four bytes, in network byte order
abbrev pub of_bytes : ℕ → ℕ → ℕ → ℕ → Addr
of_bytes a b c d = record { 0 = ((a * 256 + b) * 256 + c) * 256 + d }

abbrev pub addr_value : DottedQuad → Addr
addr_value q = of_bytes q.a q.b q.c q.d

-- a multicast group: 224.0.0.0 to 239.255.255.255 (RFC 1112, 4)
pub record IsGroup (addr : Addr) : Type 0 where
  pub from : (of_bytes 224 0 0 0).0 ≤ addr.0
  pub to : addr.0 ≤ (of_bytes 239 255 255 255).0

-- an address that an end may have: neither a multicast group nor 0.0.0.0
pub record IsHost (addr : Addr) : Type 0 where
  pub no_group : IsGroup addr → ⊥
  pub some : addr.0 ≢ 0
