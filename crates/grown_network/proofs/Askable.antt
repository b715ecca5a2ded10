-- A grown network can be asked for what its hosts ask.
use Rattle.std.proofs.Common.{◌≡◌, ℕ, ◌≤◌, ◌<◌, length, false, sym, ap, subst, arith}
use Rattle.std.specs.Prelude.{map as each}
use Rattle.std.specs.List.{filter}
use Rattle.std.specs.Ordering.{eq_by_cmp}
use Rattle.std.proofs.lemmas.List.{length-map}
use Rattle.rsvp_base.specs.Members.{In}
use Rattle.rsvp_base.specs.Orders.{sessions}
use Rattle.rsvp_base.specs.declared.session.Session.{Session}
use Rattle.rsvp_base.proofs.Counts.{set_below, size-set_of}
use Rattle.rsvp_base.proofs.Members.{in_each, in_flat_map}
use Rattle.router_rules.specs.Calls.{wanted}
use Rattle.tree_model.specs.declared.locals.LocalSender.{LocalSender}
use Rattle.tree_model.specs.declared.locals.LocalWant.{LocalWant}
use Rattle.network_model.specs.Locals.{want_at}
use Rattle.network_demand.specs.Demands.{AreLocals}
use Rattle.grown_network.specs.Grown.{asked, grown_net, local_wants}
use Rattle.grown_network.specs.Hosts.{session_of, wants}
use Rattle.grown_network.proofs.WantsAsked.{is_wanted}
use Rattle.grown_network.proofs.Fitting.{modest}
use Rattle.grown_network.proofs.Modest.{shorter}

within : (seed : ℕ) (w : LocalWant) → In w (asked seed).wants → w.node < 64
within seed w i =
    let x = in_flat_map local_wants w (wants seed) i in
    let e = in_each (want_at x.0.node) w (wanted (session_of x.0.style) x.0.style x.0.senders x.0.flow false) x.2 in
    let node : w.node ≡ x.0.node = ap (λ (z : LocalWant). z.node) e.2 in
    let low = (is_wanted seed x.0 x.1).1 in
    omega (arith, node, low)

few : (seed : ℕ) (s : Session) → length (each (λ (x : LocalSender). x.sender) (filter (λ (x : LocalSender). eq_by_cmp sessions.cmp s x.session) (asked seed).senders)) ≤ 16
few seed s =
    let a = length-map (filter (λ (x : LocalSender). eq_by_cmp sessions.cmp s x.session) (asked seed).senders) (λ (x : LocalSender). x.sender) in
    let b = shorter (λ (x : LocalSender). eq_by_cmp sessions.cmp s x.session) (asked seed).senders in
    let c = (modest seed).few_senders in
    omega (arith, a, b, c)

pub can_be_asked : (seed : ℕ) → AreLocals (grown_net seed) (asked seed)
can_be_asked seed =
    let m = modest seed in
    let all = each (λ (w : LocalWant). w.session) (asked seed).wants in
    let below = set_below sessions all m.sessions (λ s i. let e = in_each (λ (w : LocalWant). w.session) s (asked seed).wants i in
    subst (λ (k : Session). In k m.sessions) (sym e.2) (m.of_them e.0 e.1)) in
    let small = size-set_of sessions m.sessions in
    let three = m.few_sessions in
    record { nodes = within seed; few_sessions = omega (arith, below, small, three); few_senders = few seed }
