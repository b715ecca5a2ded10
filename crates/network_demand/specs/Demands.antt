-- The demands of all ends, and the lines that make them up.
use Rattle.std.specs.Prelude.{◌≡◌, ℕ, ◌<◌, ◌≤◌, List, map as each, length}
use Rattle.std.specs.List.{filter, flat_map}
use Rattle.rsvp_base.specs.Members.{In}
use Rattle.rsvp_base.specs.Orders.{sessions}
use Rattle.rsvp_base.specs.Sets.{IsWithin, set_of}
use Rattle.rsvp_base.specs.Table.{size}
use Rattle.rsvp_base.specs.declared.session.Session.{Session}
use Rattle.rsvp_base.specs.declared.style.StyleKind.{StyleKind}
use Rattle.style_rules.specs.Lines.{Line, BookTable}
use Rattle.tree_model.specs.Networks.{Net}
use Rattle.tree_routing.specs.declared.group_hop.GroupHop.{GroupHop}
use Rattle.tree_model.specs.declared.locals.LocalSender.{LocalSender}
use Rattle.tree_model.specs.declared.locals.LocalWant.{LocalWant}
use Rattle.tree_model.specs.Wants.{Locals, of_session, live}
use Rattle.tree_model.specs.Goals.{demand_of}
use Rattle.network_demand.specs.Books.{book_at, HaveLines, wants_lines}
use Rattle.network_demand.specs.Steps.{all_names, hop_wants}

-- what may be asked of a network: wants are at its nodes, of at most 32 sessions, and a session has at most 16 senders
pub record AreLocals (net : Net) (l : Locals) : Type 0 where
  pub nodes : (w : LocalWant) → In w l.wants → w.node < net.nodes
  pub few_sessions : size (set_of {o = sessions} (each (λ (w : LocalWant). w.session) l.wants)) ≤ 32
  pub few_senders : (s : Session) → length (live l s) ≤ 16

-- each end, by number, has its demand
pub record AreDemands (net : Net) (l : Locals) (books : List BookTable) : Type 0 where
  pub all : length books ≡ length net.ends
  pub each : (e : ℕ) → e < length net.ends → book_at books e ≡ demand_of net l e

-- the lines of a style in these sessions
abbrev pub style_lines : StyleKind → Net → Locals → List GroupHop → List Session → List Line
style_lines st net l order ss = flat_map (λ s. wants_lines st s net (hop_wants st net l s order)) ss

-- each line names senders of its session
abbrev pub AreProper : Locals → List Line → Type 0
AreProper l ls = (x : Line) → In x ls → IsWithin x.part.senders (all_names x.style l x.session)

-- the books have lines that are proper
pub record AreFed (l : Locals) (books : List BookTable) : Type 0 where
  pub lines : List Line
  pub have : HaveLines lines books
  pub proper : AreProper l lines

-- the session of this sender has at most 16
abbrev pub few_of : List LocalSender → LocalSender → Type 0
few_of xs x = length (filter (of_session x.session) xs) ≤ 16
