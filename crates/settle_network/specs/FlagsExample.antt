-- Flags of small networks: those that are demanded, and those of a network that has not settled, which differ though the same is asked of
-- the same network.
use Rattle.std.specs.Prelude.{◌≡◌, ℕ, ◌++◌, false, true, List, [], ◌∷◌, codes, map as each, slice_get}
use Rattle.std.specs.Option.{unwrap_or}
use Rattle.rsvp_base.specs.declared.addr.Addr.{Addr}
use Rattle.rsvp_base.specs.declared.session.Sender.{Sender}
use Rattle.rsvp_base.specs.declared.style.StyleKind.TheVariants.{Shared}
use Rattle.rsvp_base.specs.Sets.{set_of}
use Rattle.calm_rounds.specs.Machine.{run}
use Rattle.router_rules.specs.declared.entry.Entry.{Entry}
use Rattle.router_rules.specs.declared.entry.Police.{Police}
use Rattle.router_rules.specs.Facts.{no_facts}
use Rattle.router_rules.specs.Flags.{entries_at}
use Rattle.router_rules.specs.Inputs.{Spelt}
use Rattle.router_examples.specs.ThreeRouters.{first, flow, group, ip, path, s1, session, usual}
use Rattle.tree_model.specs.declared.hops.TreeHop.{TreeHop}
use Rattle.tree_model.specs.declared.locals.LocalWant.{LocalWant}
use Rattle.tree_model.specs.Networks.{Net}
use Rattle.tree_model.specs.Wants.{Locals}
use Rattle.network_model.specs.Events.{Event, Injects, Pass}
use Rattle.network_model.specs.Locals.{locals_of}
use Rattle.network_model.specs.Rows.{booked, end_of, line}
use Rattle.network_model.specs.Runs.{first_world, steps_of_run}
use Rattle.network_model.specs.Steps.{machine}
use Rattle.network_model.specs.Worlds.{World, config_of}
use Rattle.settle_network.specs.DemandedFlags.{demanded_entries, demanded_flags}
use Rattle.settle_network.specs.Flags.{AreAlike}

-- ---- where all has settled
-- two senders at a and b, behind r; two receivers at x and y, behind q. Both receivers want both senders, in shared style, and y the larger
-- flow
abbrev pub b1 : Addr
b1 = ip 10 0 2 1

abbrev pub hop_over : Addr → ℕ → ℕ → TreeHop
hop_over source a b = record { group = group; source = source; hop = record { from = a; to = b } }

abbrev pub tree_over : Addr → ℕ → ℕ → List TreeHop
tree_over source a b = hop_over source a b ∷ hop_over source 4 5 ∷ hop_over source 6 7 ∷ hop_over source 8 9 ∷ []

abbrev pub two_of_each : Net
two_of_each = record {
  nodes = 6;
  ends = end_of 0 s1 ∷ end_of 2 (ip 10 0 1 2) ∷ end_of 1 b1 ∷ end_of 2 (ip 10 0 2 2) ∷ end_of 2 (ip 10 0 3 1) ∷ end_of 3 (ip 10 0 3 2)
      ∷ end_of 3 (ip 10 0 4 1) ∷ end_of 4 (ip 10 0 4 2) ∷ end_of 3 (ip 10 0 5 1) ∷ end_of 5 (ip 10 0 5 2) ∷ [];
  links = (0 ∷ 1 ∷ []) ∷ (2 ∷ 3 ∷ []) ∷ (4 ∷ 5 ∷ []) ∷ (6 ∷ 7 ∷ []) ∷ (8 ∷ 9 ∷ []) ∷ [];
  hops = tree_over s1 0 1 ++ tree_over b1 2 3;
}

abbrev pub end_names : List (List ℕ)
end_names = codes "a1" ∷ codes "r1" ∷ codes "b1" ∷ codes "r2" ∷ codes "r3" ∷ codes "q1" ∷ codes "q2" ∷ codes "x1" ∷ codes "q3" ∷ codes "y1" ∷ []

abbrev pub other : Sender
other = record { addr = b1; port = 5004 }

abbrev pub want_both : ℕ → ℕ → LocalWant
want_both n r = record { node = n; session = session; style = Shared; part = record { senders = set_of (first ∷ other ∷ []); flow = flow r r 64 1500 } }

abbrev pub both_asked : Locals
both_asked = record {
  senders = (record { node = 0; session = session; sender = first }) ∷ (record { node = 1; session = session; sender = other }) ∷ [];
  wants = want_both 4 300 ∷ want_both 5 500 ∷ [];
}

-- data is policed at r, where both come straight from their sources and are merged; what q2 has cannot stand for what q3 has; and the
-- sources themselves hold no flag
pub record FlagsAreSo : Type 0 where
  pub text : demanded_flags end_names two_of_each both_asked
      ≡ codes "end a1 held 500 of 10000\n239.1.1.1/17/5004 SE 10.0.1.1:5004 500/500/inf/64/1500 ---\nend r1 held 0 of 10000\n"
      ++ codes "end b1 held 500 of 10000\n239.1.1.1/17/5004 SE 10.0.2.1:5004 500/500/inf/64/1500 ---\nend r2 held 0 of 10000\n"
      ++ codes "end r3 held 500 of 10000\n239.1.1.1/17/5004 SE 10.0.1.1:5004,10.0.2.1:5004 500/500/inf/64/1500 em-\nend q1 held 0 of 10000\n"
      ++ codes "end q2 held 300 of 10000\n239.1.1.1/17/5004 SE 10.0.1.1:5004,10.0.2.1:5004 300/300/inf/64/1500 -mb\nend x1 held 0 of 10000\n"
      ++ codes "end q3 held 500 of 10000\n239.1.1.1/17/5004 SE 10.0.1.1:5004,10.0.2.1:5004 500/500/inf/64/1500 -m-\nend y1 held 0 of 10000\n"

-- ---- where it has not
-- three nodes in a line, behind what happens there
abbrev pub behind : List Event → World
behind events = run (machine 7500) (steps_of_run (line 10000 events)) (first_world (line 10000 events))

-- the flags of the middle one toward the receiver
abbrev pub middle_flags : World → List Police
middle_flags w = each (λ (e : Entry). e.police) (entries_at (config_of 7500 w.net w.trees 1) (unwrap_or (slice_get w.nodes 1) no_facts) 1)

-- the receiver has what it asks for
abbrev pub as_said : World
as_said = behind booked

-- and then a Path of the sender without E_Police was injected
abbrev pub as_injected : World
as_injected = behind (booked ++ Injects 1 group (Spelt (path false s1 first usual)) ∷ Pass 1 ∷ [])

-- what is demanded of the middle one
abbrev pub middle_demanded : World → List Police
middle_demanded w = each (λ (e : Entry). e.police) (demanded_entries w.net (locals_of w) 2)

pub record FlagsCanDiffer : Type 0 where
  pub alike : AreAlike as_said as_injected
  pub demanded : middle_demanded as_injected ≡ (record { e = true; m = false; b = false }) ∷ []
  pub said : middle_flags as_said ≡ (record { e = true; m = false; b = false }) ∷ []
  pub injected : middle_flags as_injected ≡ (record { e = false; m = false; b = false }) ∷ []
