-- The orders of addresses, sessions, senders, styles, units and entries of a book.
use Rattle.std.specs.Prelude.{◌≡◌, ℕ, List, Option, Some, None, refl}
use Rattle.std.proofs.Common.{ap, arith}
use Rattle.std.specs.Coded.{Coded, code_by, coded×, coded_ℕ}
use Rattle.rsvp_base.specs.Keys.{Keys, numbers, by, pairs, options}
use Rattle.rsvp_base.specs.Sets.{Set, set_of, set_code}
use Rattle.rsvp_base.specs.declared.addr.Addr.{Addr}
use Rattle.rsvp_base.specs.declared.entry_key.EntryKey.{EntryKey}
use Rattle.rsvp_base.specs.declared.session.Session.{Session}
use Rattle.rsvp_base.specs.declared.session.Sender.{Sender}
use Rattle.rsvp_base.specs.declared.style.StyleKind.{StyleKind}
use Rattle.rsvp_base.specs.declared.style.StyleKind.TheVariants.{Wild, Fixed, Shared}
use Rattle.rsvp_base.specs.declared.style.Unit.{Unit as UnitOf}
use Rattle.rsvp_base.specs.declared.style.Unit.TheVariants.{One, Of}

-- addresses by number
pub addr_apart : (a b : Addr) → a.0 ≡ b.0 → a ≡ b
addr_apart a b e = λ i. record { 0 = e i }

abbrev pub addrs : Keys Addr
addrs = by (λ (a : Addr). a.0) addr_apart numbers

-- sessions by group, protocol and port
pub session_apart : (a b : Session) → ◌≡◌ {A = Addr × (ℕ × ℕ)} (a.group, (a.proto, a.port)) (b.group, (b.proto, b.port)) → a ≡ b
session_apart a b e = λ i. record { group = (e i).0; proto = (e i).1.0; port = (e i).1.1 }

abbrev pub sessions : Keys Session
sessions = by (λ (s : Session). (s.group, (s.proto, s.port))) session_apart (pairs addrs (pairs numbers numbers))

-- senders by address and port
pub sender_apart : (a b : Sender) → ◌≡◌ {A = Addr × ℕ} (a.addr, a.port) (b.addr, b.port) → a ≡ b
sender_apart a b e = λ i. record { addr = (e i).0; port = (e i).1 }

abbrev pub senders : Keys Sender
senders = by (λ (s : Sender). (s.addr, s.port)) sender_apart (pairs addrs numbers)

-- the styles as a report lists them
abbrev pub style_place : StyleKind → ℕ
style_place Wild = 0
style_place Fixed = 1
style_place Shared = 2

pub style_apart : (a b : StyleKind) → style_place a ≡ style_place b → a ≡ b
style_apart Wild Wild e = refl
style_apart Wild Fixed e = absurd (omega arith)
style_apart Wild Shared e = absurd (omega arith)
style_apart Fixed Wild e = absurd (omega arith)
style_apart Fixed Fixed e = refl
style_apart Fixed Shared e = absurd (omega arith)
style_apart Shared Wild e = absurd (omega arith)
style_apart Shared Fixed e = absurd (omega arith)
style_apart Shared Shared e = refl

abbrev pub styles : Keys StyleKind
styles = by style_place style_apart numbers

-- the sender that a unit of a fixed filter is of
abbrev pub unit_sender : UnitOf → Option Sender
unit_sender One = None
unit_sender (Of s) = Some s

pub unit_apart : (a b : UnitOf) → unit_sender a ≡ unit_sender b → a ≡ b
unit_apart One One e = refl
unit_apart One (Of t) e = cc
unit_apart (Of s) One e = cc
unit_apart (Of s) (Of t) e = let same : s ≡ t = cc in ap Of same

-- the one unit before each sender's, and these by sender
abbrev pub units : Keys UnitOf
units = by unit_sender unit_apart (options senders)

-- entries of a book by session, style and unit
pub entry_apart : (a b : EntryKey) → ◌≡◌ {A = Session × (StyleKind × UnitOf)} (a.session, (a.style, a.unit)) (b.session, (b.style, b.unit)) → a ≡ b
entry_apart a b e = λ i. record { session = (e i).0; style = (e i).1.0; unit = (e i).1.1 }

abbrev pub entry_keys : Keys EntryKey
entry_keys = by (λ (k : EntryKey). (k.session, (k.style, k.unit))) entry_apart (pairs sessions (pairs styles units))

-- ---- sets of senders
abbrev pub Names : Type 0
Names = Set senders

-- the senders of a list, each once
abbrev pub names_from : List Sender → Names
names_from xs = set_of xs

abbrev pub addr_code : Coded Addr
addr_code = code_by ℕ coded_ℕ (λ a. a.0) (λ n. record { 0 = n }) (λ _. refl)

abbrev pub sender_code : Coded Sender
sender_code = code_by (ℕ × ℕ) (coded× coded_ℕ coded_ℕ) (λ s. (s.addr.0, s.port)) (λ p. record { addr = record { 0 = p.0 }; port = p.1 }) (λ _. refl)

abbrev pub names_code : Coded Names
names_code = set_code senders sender_code
