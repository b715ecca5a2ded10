-- What is left over is fit at its node.
use Rattle.std.specs.Prelude.{◌≡◌, ℕ, ◌*◌, ◌+◌, ◌/◌, ◌<◌, ◌≤◌, length, max, min}
use Rattle.std.proofs.Common.{arith, refl, sym, subst}
use Rattle.path_state.specs.declared.fact.PathFact.{PathFact}
use Rattle.resv_state.specs.declared.fact.ResvFact.{ResvFact}
use Rattle.rsvp_base.specs.declared.addr.Addr.{Addr}
use Rattle.rsvp_base.specs.declared.session.Sender.{Sender}
use Rattle.rsvp_base.specs.declared.session.Session.{Session}
use Rattle.rsvp_base.specs.declared.style.StyleKind.{StyleKind}
use Rattle.rsvp_base.specs.Table.{size}
use Rattle.rsvp_base.specs.TokenBucket.{IsSound}
use Rattle.rsvp_messages.specs.Proper.{WhereThere}
use Rattle.rsvp_messages.specs.RsvpObjects.AdspecLaws.{IsAdspec}
use Rattle.style_rules.specs.declared.target.Target.TheVariants as target
use Rattle.style_rules.specs.declared.wall.Wall.{Wall}
use Rattle.style_rules.specs.Parts.{IsOfStyle}
use Rattle.router_rules.specs.Bounds.{LivesUpTo}
use Rattle.router_rules.specs.Steps.{IsFitStale}
use Rattle.script_words.specs.declared.raw.FlowWord.{FlowWord}
use Rattle.script_words.specs.Flows.{IsFlow, flow_value}
use Rattle.tree_model.specs.Networks.{Net, iface_of, node_of}
use Rattle.stale_state.specs.AtNodes.{ifaces_at_node}
use Rattle.stale_state.specs.Fit.{place_of}
use Rattle.stale_state.specs.Kept.{stale_of}
use Rattle.stale_state.specs.Standing.{CanStand}
use Rattle.stale_state.specs.declared.fact.Left.{Left}
use Rattle.stale_state.specs.declared.fact.Left.TheVariants as left_as
use Rattle.stale_state.proofs.Interfaces.{iface_there}

-- ---- flows and times
pub sound : (w : FlowWord) → IsFlow w → IsSound (flow_value w)
sound w h = let some = h.some_low in let most = h.low in record { rate = h.some_rate; depth = h.some_depth; low = h.some_low; most = omega (arith, some, most) }

lives : (q left : ℕ) → 1 ≤ q → 1 ≤ left → left ≤ 21 * q → LivesUpTo 0 ((21 * max 1 (min (4 * q) (4 * q)) + 3) / 4) left
lives q left some later soon = record { later = omega (arith, later); soon = omega (arith, some, soon) }

walls : (q period left : ℕ) → 4 * q ≡ period → 1 ≤ left → left ≤ 4 * period → LivesUpTo 0 (4 * (4 * q)) left
walls q period left all later soon = record { later = omega (arith, later); soon = omega (arith, soon, all) }

-- ---- ends and their interfaces
module _ (q : ℕ) (net : Net) (n e : ℕ) (there : e < length net.ends) (of : node_of net.ends e ≡ n) where
  inside : (i : ℕ) → i ≡ iface_of net.ends e → i < length (ifaces_at_node net.ends n)
  inside i is =
      let at : iface_of net.ends e < length (ifaces_at_node net.ends n) = subst (λ (m : ℕ). iface_of net.ends e < length (ifaces_at_node net.ends m)) of (iface_there net e there) in
      subst (λ (j : ℕ). j < length (ifaces_at_node net.ends n)) (sym is) at

  pub fit_path : (f : PathFact) (left : ℕ) → f.iface ≡ iface_of net.ends e → IsSound f.tspec → WhereThere IsAdspec f.adspec → 1 ≤ q → 1 ≤ left → left ≤ 21 * q
      → IsFitStale (place_of q net n) 0 (stale_of (left_as.Path f) left)
  fit_path f left is flow advert some later soon = (lives q left some later soon, record { iface = inside f.iface is; tspec = flow; adspec = advert })

  pub fit_resv : (st : StyleKind) (f : ResvFact) (left : ℕ) → f.iface ≡ iface_of net.ends e → IsOfStyle st f.part → size f.part.senders ≤ 16 → IsSound f.part.flow → 1 ≤ q → 1 ≤ left → left ≤ 21 * q
      → IsFitStale (place_of q net n) 0 (stale_of (left_as.Resv st f) left)
  fit_resv st f left is style few flow some later soon = (lives q left some later soon, record { iface = inside f.iface is; style = style; unit = refl; names = few; flow = flow })

  pub fit_hop_wall : (s : Session) (i : ℕ) (a : Addr) (w : Wall) (left period : ℕ) → i ≡ iface_of net.ends e → IsSound w.flow → 4 * q ≡ period → 1 ≤ left → left ≤ 4 * period
      → IsFitStale (place_of q net n) 0 (stale_of (left_as.Wall s (target.Hop i a) w) left)
  fit_hop_wall s i a w left period is flow all later soon = (walls q period left all later soon, record { iface = inside i is; flow = flow })

pub fit_sender_wall : (q : ℕ) (net : Net) (n : ℕ) (s : Session) (x : Sender) (w : Wall) (left period : ℕ) → IsSound w.flow → 4 * q ≡ period → 1 ≤ left → left ≤ 4 * period
    → IsFitStale (place_of q net n) 0 (stale_of (left_as.Wall s (target.Sender x) w) left)
fit_sender_wall q net n s x w left period flow all later soon = (walls q period left all later soon, record { iface = tt; flow = flow })

-- ---- a fit fact can stand, and lives
pub can_stand : (q : ℕ) (net : Net) (n : ℕ) (l : Left) (left : ℕ) → IsFitStale (place_of q net n) 0 (stale_of l left) → CanStand (ifaces_at_node net.ends n) l
can_stand q net n (left_as.Path f) left fit = tt
can_stand q net n (left_as.Resv st f) left fit = (fit.1.style, fit.1.iface)
can_stand q net n (left_as.Wall s t w) left fit = tt

pub still_lives : (q : ℕ) (net : Net) (n : ℕ) (l : Left) (left : ℕ) → IsFitStale (place_of q net n) 0 (stale_of l left) → 1 ≤ left
still_lives q net n (left_as.Path f) left fit = let later = fit.0.later in omega (arith, later)
still_lives q net n (left_as.Resv st f) left fit = let later = fit.0.later in omega (arith, later)
still_lives q net n (left_as.Wall s t w) left fit = let later = fit.0.later in omega (arith, later)
