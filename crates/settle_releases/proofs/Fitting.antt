-- Where no more is wanted than before, each session fits that did.
use Rattle.std.proofs.Common.{◌≡◌, List, Some, sym, refl}
use Rattle.rsvp_base.specs.declared.part.Part.{Part}
use Rattle.rsvp_base.specs.declared.session.Session.{Session}
use Rattle.rsvp_base.specs.declared.style.StyleKind.{StyleKind}
use Rattle.rsvp_base.specs.declared.style.Unit.{Unit as UnitOf}
use Rattle.rsvp_base.specs.Members.{In}
use Rattle.rsvp_base.specs.Table.{get}
use Rattle.router_rules.specs.Facts.{Facts}
use Rattle.tree_model.specs.declared.hops.LinkHop.{LinkHop}
use Rattle.tree_model.specs.Goals.{addr_of}
use Rattle.tree_model.specs.Trees.{hops_of}
use Rattle.tree_model.specs.Wants.{want}
use Rattle.network_model.specs.Locals.{locals_of}
use Rattle.network_model.specs.Sound.{IsSoundPart}
use Rattle.network_model.specs.Worlds.{World}
use Rattle.settle_resvs.specs.Laws.{AreWantParts}
use Rattle.settle_resvs.specs.Sessions.{SessionFits}
use Rattle.settle_passes.proofs.Fitting.{as_before, session_below, want_is_sound}
use Rattle.settle_passes.proofs.Growing.{sound_grows}
use Rattle.settle_releases.proofs.Within.{WantedMore}
use Rattle.tree_model.specs.Valid.{IsValid}

-- ---- where the same hosts sent, and wanted no less
module _ (before : List Facts) (w : World) (valid : IsValid w.net) (parts : AreWantParts (locals_of w)) (more : WantedMore before w) where
  more_wanted : (st : StyleKind) (s : Session) (h : LinkHop) → In h (hops_of w.net.hops s.group) → (u : UnitOf) (p : Part) → get (want st w.net (locals_of w) s h) u ≡ Some p
      → IsSoundPart st (as_before before w) s h.from (addr_of w.net h.to) u p
  more_wanted st s h there u p got =
      sound_grows st w (as_before before w) refl valid.loop_free parts more.parts (sym more.senders) more.wants s h.from (addr_of w.net h.to) u p (want_is_sound w parts st s h there u p got)

  pub less_fits : (s : Session) → SessionFits w.net (locals_of (as_before before w)) s → SessionFits w.net (locals_of w) s
  less_fits s fit = session_below before w more_wanted more.wants s fit
