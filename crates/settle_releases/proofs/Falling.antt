-- Reservations that recede sink, pass by pass: what is left over is torn down.
use Rattle.std.proofs.Common.{◌≡◌, ℕ, List, [], ◌∷◌, Some, inl, ⊎_elim, sym, refl, ap, subst, ◌∙◌, None, false, inr, Option}
use Rattle.std.specs.Prelude.{slice_get, not}
use Rattle.rsvp_base.specs.declared.session.Session.{Session}
use Rattle.rsvp_base.specs.declared.style.StyleKind.{StyleKind}
use Rattle.rsvp_base.specs.Members.{In}
use Rattle.rsvp_base.specs.Table.{get, has}
use Rattle.rsvp_base.proofs.Members.{in_right}
use Rattle.rsvp_messages.specs.Units.{tear_names}
use Rattle.router_rules.specs.Facts.{Facts, ResvState, resvs_of}
use Rattle.tree_model.specs.Networks.{node_of}
use Rattle.tree_model.specs.Ranks.{longest}
use Rattle.network_model.specs.Steps.{Deliver, step}
use Rattle.network_model.specs.Worlds.{Item, World}
use Rattle.laws_network.specs.Known.{IsSameNet}
use Rattle.settle_resvs.specs.Said.{HopKey, resv_key}
use Rattle.settle_resvs.specs.SoftResvs.{line_key_of}
use Rattle.settle_resvs.proofs.SoftResvs.{resv_made}
use Rattle.settle_passes.specs.Passes.{after_passes}
use Rattle.settle_passes.specs.Reserving.{HasReserved}
use Rattle.settle_releases.proofs.Within.{same_names}
use Rattle.settle_releases.proofs.TakenBack.{IsForgotten, IsTornLater}
use Rattle.settle_releases.proofs.Receding.{IsReceding, receding_next, turns}
use Rattle.settle_releases.proofs.Sinking.{IsSinking, IsStillOver, reservations_sink, sink, sound_when_sunk}
use Rattle.settle_resvs.specs.Sessions.{AreExactOf}
use Rattle.rsvp_base.specs.Orders.{Names}
use Rattle.network_model.specs.Sound.{IsSoundResv}
use Rattle.router_rules.specs.Asking.{stays}
use Rattle.style_rules.specs.Lines.{LineKey}

module _ (q : ℕ) (s : Session) (before : List Facts) where
  receding_sinks : (u : World) → IsReceding q s before u → IsSinking q s before u
  receding_sinks u r = record {
    paths = r.paths;
    within = r.within;
    free = r.free;
    asked = r.asked;
    turns = turns q s before u r;
    named = λ st n f k x h z at e i was. ap (λ (ns : Names). has ns z) (sym (same_names before u r.more st k.0 (h ∷ []))) ∙ was;
    left_over = λ st h un f g x there at e node none wanted.
        let k : HopKey = record { session = s; style = st; unit = un; from = h.to; to = h.from } in
        ⊎_elim
        (λ (gone : IsForgotten u k).
        let bad : None ≡ Some x = sym gone.none ∙ resv_made u (node_of u.net.ends h.from) st (line_key_of u.net (resv_key u.net k)) f at ∙ e in absurd (cc))
        (λ (later : IsTornLater u k).
        let flies : In later.item u.flight = subst (λ (ys : List Item). In later.item ys) (sym later.is) (in_right later.item later.front (later.item ∷ later.back) (inl refl)) in
        let goes_away : stays (tear_names later.tears.tear.tear) later.tears.some.0 ≡ false =
        ap (λ (o : Option Names). stays o later.tears.some.0) later.tears.lists ∙ ap not later.tears.some.1 in (
          later.item,
          flies,
          record { senders = later.names; flow = x.part.flow },
          inr (later.tears.tear, later.tears.spelt, later.tears.over, record { name = later.tears.some.0; was = later.tears.some.1; goes = goes_away }),
        ))
        (r.torn k g refl there node none);
  }

  go_on : (u : World) → IsReceding q s before u → IsReceding q s before (step q (Deliver 0) u)
  go_on u r = receding_next q s before u r

  pub fall : (n : ℕ) (w : World) → IsReceding q s before w
      → IsReceding q s before (after_passes q n w) × ((y : Item) → In y (after_passes q n w).flight → IsStillOver s (after_passes q n w).net n y) × IsSameNet w (after_passes q n w)
  fall n w r = sink q s before (IsReceding q s before) receding_sinks go_on n w r

  -- ---- so H passes on they are exactly what is wanted, and no Resv of the session is in flight
  pub reservations_recede : (w : World) → IsReceding q s before w
      → IsReceding q s before (after_passes q (longest w.net) w) × HasReserved s (after_passes q (longest w.net) w) × IsSameNet w (after_passes q (longest w.net) w)
  reservations_recede w r = reservations_sink q s before (IsReceding q s before) receding_sinks go_on w r

  -- ---- and sound
  pub sound_where_reserved : (u : World) → IsReceding q s before u → AreExactOf s u → (st : StyleKind) (n : ℕ) (f : Facts) (k : LineKey) (r : ResvState) → slice_get u.nodes n ≡ Some f
      → get (resvs_of st f) k ≡ Some r → k.0 ≡ s → IsSoundResv st u n k r
  sound_where_reserved u r exact st n f k x at e of = sound_when_sunk q s before (IsReceding q s before) receding_sinks go_on u r exact st n f k x at e of
