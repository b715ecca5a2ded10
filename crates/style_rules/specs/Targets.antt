-- The order of what a blockade stands for: previous hops by interface and address, and then senders by theirs.
use Rattle.std.specs.Prelude.{◌≡◌, Option, Some, None}
use Rattle.std.proofs.Common.{ap}
use Rattle.rsvp_base.specs.declared.session.Sender.{Sender}
use Rattle.rsvp_base.specs.Keys.{Keys, by, pairs, options}
use Rattle.rsvp_base.specs.Orders.{senders, sessions}
use Rattle.rsvp_base.specs.declared.session.Session.{Session}
use Rattle.style_rules.specs.Lines.{NextHop, next_hops}
use Rattle.style_rules.specs.declared.target.Target.{Target}
use Rattle.style_rules.specs.declared.target.Target.TheVariants as target

abbrev pub target_place : Target → Option Sender × NextHop
target_place (target.Hop i a) = (None, (i, a))
target_place (target.Sender s) = (Some s, (0, record { 0 = 0 }))

pub target_apart : (a b : Target) → target_place a ≡ target_place b → a ≡ b
target_apart (target.Hop i a) (target.Hop j b) e = λ k. target.Hop (e k).1.0 (e k).1.1
target_apart (target.Hop i a) (target.Sender t) e = let first : ◌≡◌ {A = Option Sender} None (Some t) = λ k. (e k).0 in absurd (cc)
target_apart (target.Sender s) (target.Hop j b) e = let first : ◌≡◌ {A = Option Sender} (Some s) None = λ k. (e k).0 in absurd (cc)
target_apart (target.Sender s) (target.Sender t) e = let first : ◌≡◌ {A = Option Sender} (Some s) (Some t) = λ k. (e k).0 in let same : s ≡ t = cc in ap target.Sender same

abbrev pub targets : Keys Target
targets = by target_place target_apart (pairs (options senders) next_hops)

-- a blockade of a session toward a target
abbrev pub WallKey : Type 0
WallKey = Session × Target

abbrev pub wall_keys : Keys WallKey
wall_keys = pairs sessions targets
