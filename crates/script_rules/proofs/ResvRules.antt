-- A reservation that is to be left over: what its node answers, as the rules of its line.
use Rattle.std.specs.Prelude.{◌≡◌, ℕ, ◌≤◌, [], Result, Ok, Err, IfErr, OnOk}
use Rattle.std.proofs.Common.{subst}
use Rattle.rsvp_base.specs.Table.{size}
use Rattle.rsvp_base.specs.declared.session.Session.{Session}
use Rattle.router_rules.specs.Bounds.{AreBooked}
use Rattle.router_rules.specs.Facts.{Facts}
use Rattle.router_rules.specs.Inputs.{Stale}
use Rattle.tree_model.specs.Networks.{Net}
use Rattle.network_model.specs.Worlds.{config_of}
use Rattle.stale_state.specs.AtNodes.{ifaces_at_node}
use Rattle.stale_state.specs.Tables.{AreAdmitted}
use Rattle.script_words.specs.Sessions.{session_value}
use Rattle.script_grammar.specs.Adds.{Adds, with_stale}
use Rattle.script_grammar.specs.Draft.{Draft, period_of}
use Rattle.script_grammar.specs.Rules.{IsEnd, IsListOfStyle, IsNewResv, Keeps, KeepsAll, sender_list, stale_node}
use Rattle.script_grammar.specs.Values.{IsStaleResvInRange, senders_value, stale_resv_value}
use Rattle.script_grammar.specs.declared.fault.Fault.TheVariants as fault
use Rattle.script_grammar.specs.declared.line.ScriptLine.TheVariants as line
use Rattle.script_grammar.specs.declared.line.StaleResvLine.{StaleResvLine}
use Rattle.script_rules.specs.LeftRefusals.{IsLeft, IsNotLeft}
use Rattle.script_rules.specs.Refusals.{Refuses}
use Rattle.script_grammar.specs.declared.stop.Stop.{Stop}
use Rattle.script_grammar.specs.declared.stop.Stop.TheVariants.{Bad, Crowded, NoMemory}

-- only the interfaces of a place count
admitted_at : (q : ℕ) (net : Net) (n : ℕ) (f : Facts) → AreAdmitted (ifaces_at_node net.ends n) f → AreBooked (config_of q net [] n) f
admitted_at q net n f h = record { capacity = h.capacity; mtu = h.mtu }

admitted_in : (q : ℕ) (net : Net) (n : ℕ) (f : Facts) → AreBooked (config_of q net [] n) f → AreAdmitted (ifaces_at_node net.ends n) f
admitted_in q net n f h = record { capacity = h.capacity; mtu = h.mtu }

-- the rules that are looked at before the node is asked
pub record IsAsked (d : Draft) (l : StaleResvLine) : Type 0 where
  pub in_time : d.events ≡ []
  pub in_range : IsStaleResvInRange (period_of d) l
  pub known : IsEnd d l.end
  pub new : IsNewResv d l
  pub few : size (senders_value l.senders) ≤ 16
  pub one : IsListOfStyle l.style (sender_list l.senders)

module _ (d : Draft) (l : StaleResvLine) (asked : IsAsked d l) where
  kept : (new : Draft) → IsLeft d (stale_node d l) (session_value l.session) (stale_resv_value d l) → new ≡ with_stale d (stale_node d l) (session_value l.session) (stale_resv_value d l)
      → KeepsAll (Keeps d (line.StaleResv l)) × Adds d (line.StaleResv l) new
  kept new left adds = (
    record {
      in_time = asked.in_time;
      in_range = asked.in_range;
      known = asked.known;
      new = asked.new;
      of_style = tt;
      within_limits = record { few_senders = asked.few; one_sender = asked.one; session = left.session; tables = left.tables };
      of_tree = tt;
      within_capacity = admitted_at _ d.net (stale_node d l) _ left.admitted;
      loop_free = tt;
    },
    adds,
  )

  refused : (x : Stop) → IsNotLeft d (stale_node d l) (session_value l.session) (stale_resv_value d l) x → Refuses d (line.StaleResv l) x
  refused (Bad fault.Limit) out = (asked.in_time, asked.in_range, asked.known, asked.new, tt, λ room. out (room.session, room.tables))
  refused (Bad (fault.Over much)) out = (
    asked.in_time,
    asked.in_range,
    asked.known,
    asked.new,
    tt,
    record { few_senders = asked.few; one_sender = asked.one; session = out.0; tables = out.1 },
    tt,
    λ admitted. out.2 (admitted_in _ d.net (stale_node d l) _ admitted),
    out.3,
  )
  refused Crowded out = absurd out
  refused NoMemory out = tt
  refused (Bad why) out = absurd out

  module _ (n : ℕ) (s : Session) (f : Stale) (at : n ≡ stale_node d l) (of : s ≡ session_value l.session) (is : f ≡ stale_resv_value d l) where
    pub resv_kept : (r : Result (Unit {0}) Stop) (new : Draft) → OnOk r (IsLeft d n s f) → OnOk r (new ≡ with_stale d n s f)
        → OnOk r (KeepsAll (Keeps d (line.StaleResv l)) × Adds d (line.StaleResv l) new)
    resv_kept (Ok u) new left adds =
        let z : (n, (s, f)) ≡ (stale_node d l, (session_value l.session, stale_resv_value d l)) = λ i. (at i, (of i, is i)) in
        kept new (subst (λ (y : ℕ × (Session × Stale)). IsLeft d y.0 y.1.0 y.1.1) z left) (subst (λ (y : ℕ × (Session × Stale)). new ≡ with_stale d y.0 y.1.0 y.1.1) z adds)
    resv_kept (Err x) new left adds = tt

    pub resv_refused : (r : Result (Unit {0}) Stop) → IfErr r (IsNotLeft d n s f) → IfErr r (Refuses d (line.StaleResv l))
    resv_refused (Ok u) out = tt
    resv_refused (Err x) out =
        let z : (n, (s, f)) ≡ (stale_node d l, (session_value l.session, stale_resv_value d l)) = λ i. (at i, (of i, is i)) in
        refused x (subst (λ (y : ℕ × (Session × Stale)). IsNotLeft d y.0 y.1.0 y.1.1 x) z out)
