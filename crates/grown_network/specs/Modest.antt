-- Networks of which little is asked: so their demands fit.
use Rattle.std.specs.Prelude.{◌≡◌, ℕ, ◌≤◌, List, length, Some, slice_get}
use Rattle.std.specs.List.{filter}
use Rattle.rsvp_base.specs.Members.{In}
use Rattle.rsvp_base.specs.Table.{size}
use Rattle.rsvp_base.specs.TokenBucket.{TokenBucket}
use Rattle.rsvp_base.specs.declared.addr.Addr.{Addr}
use Rattle.rsvp_base.specs.declared.session.Session.{Session}
use Rattle.rsvp_base.specs.declared.style.StyleKind.TheVariants.{Fixed}
use Rattle.tree_model.specs.Goals.{hops_in_order}
use Rattle.tree_model.specs.Networks.{Net}
use Rattle.tree_model.specs.Trees.{goes_out_of, hops_of}
use Rattle.tree_model.specs.Wants.{Locals}
use Rattle.tree_model.specs.declared.hops.End.{End}
use Rattle.tree_model.specs.declared.locals.LocalWant.{LocalWant}

-- at most 16,000 bytes per second, in packets of at most 1,500 bytes
pub record IsSmallFlow (f : TokenBucket) : Type 0 where
  pub rate : f.r ≤ 16000
  pub most : f.most ≤ 1500

pub record IsModest (net : Net) (l : Locals) : Type 0 where
  -- wants are of these sessions, each of one style
  pub sessions : List Session
  pub few_sessions : length sessions ≤ 3
  pub of_them : (w : LocalWant) → In w l.wants → In w.session sessions
  pub one_style : (v w : LocalWant) → In v l.wants → In w l.wants → v.session ≡ w.session → v.style ≡ w.style
  -- and of small flows, those of fixed filters of one sender each
  pub small : (w : LocalWant) → In w l.wants → IsSmallFlow w.part.flow
  pub one_sender : (w : LocalWant) → In w l.wants → w.style ≡ Fixed → size w.part.senders ≡ 1
  pub few_senders : length l.senders ≤ 12
  -- at most three hops of a group go out of a node, and each end takes a thousand times as much as a want
  pub few_hops : (n : ℕ) (g : Addr) → length (filter (goes_out_of net.ends n) (hops_in_order (hops_of net.hops g))) ≤ 3
  pub wide : (e : ℕ) (x : End) → slice_get net.ends e ≡ Some x → 16000000 ≤ x.iface.capacity
  pub mtu : (e : ℕ) (x : End) → slice_get net.ends e ≡ Some x → 1500 ≤ x.iface.mtu
