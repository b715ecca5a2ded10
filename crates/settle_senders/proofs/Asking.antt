-- Where paths are those of the live senders they stay so, and what is sent asks for live senders alone: so does all that is in flight a pass
-- later.
use Rattle.std.proofs.Common.{◌≡◌, ℕ, zero, suc, List, [], ◌∷◌, ◌++◌, length, Bool, true, Some, ⊎_elim, sym, refl, ap, subst, ◌∙◌, append_assoc}
use Rattle.std.specs.Prelude.{map as each}
use Rattle.std.specs.List.{remove}
use Rattle.rsvp_base.specs.declared.session.Sender.{Sender}
use Rattle.rsvp_base.specs.declared.session.Session.{Session}
use Rattle.rsvp_base.specs.declared.style.StyleKind.{StyleKind}
use Rattle.rsvp_base.specs.Members.{In}
use Rattle.rsvp_base.specs.Orders.{Names}
use Rattle.rsvp_base.specs.Styles.{name_of}
use Rattle.rsvp_base.specs.Table.{has}
use Rattle.rsvp_base.proofs.Members.{in_append, in_each}
use Rattle.rsvp_messages.specs.declared.message.Message.TheVariants as message
use Rattle.rsvp_messages.specs.declared.message.ResvMsg.{ResvMsg}
use Rattle.rsvp_messages.specs.Units.{AskedUnit, ask_style, asked_units}
use Rattle.laws_bounds.specs.SendLaws.{IsAskedOf}
use Rattle.laws_bounds.proofs.Asks.{units_told}
use Rattle.laws_bounds.proofs.Knowing.{known_and_via}
use Rattle.router_rules.specs.Inputs.{Spelt}
use Rattle.router_rules.specs.Known.{names_via}
use Rattle.router_rules.specs.NodeConfig.{NodeConfig}
use Rattle.router_rules.specs.Requests.{toward}
use Rattle.network_model.specs.Events.{pass, passes}
use Rattle.network_model.specs.Locals.{IsLive}
use Rattle.network_model.specs.Steps.{Deliver, sent, step}
use Rattle.network_model.specs.Worlds.{Item, World, config_of}
use Rattle.network_model.proofs.Machines.{in_rest}
use Rattle.laws_network.proofs.Known.{of_some}
use Rattle.settle_resvs.proofs.ResvSends.{resv_sent}
use Rattle.settle_resvs.proofs.TowardNames.{parts_of_style, toward_names}
use Rattle.settle_passes.specs.Calls.{HasItsPaths}
use Rattle.settle_passes.specs.Passes.{after_passes}
use Rattle.settle_passes.proofs.Deliveries.{bounds_next, hosts_next, live_back, live_next, no_tear_next, path_at_next, sound_next}
use Rattle.settle_passes.proofs.Spreading.{after_deliveries, run_then}
use Rattle.settle_senders.specs.Ending.{AreAsksOfLive, IsNameOfLive}

append_nothing : {A : Type 0} (xs : List A) → xs ++ [] ≡ xs
append_nothing [] = refl
append_nothing {A} (x ∷ xs) = ap (λ (ys : List A). x ∷ ys) (append_nothing xs)

-- each item of a list asks for live senders alone
abbrev pub AllOfLive : World → List Item → Type 0
AllOfLive w ys =
    (y : Item) (m : ResvMsg) (v : AskedUnit) (names : Names) (x : Sender) → In y ys → y.arrival ≡ Spelt (message.Resv m) → In v (asked_units m.ask) → v.names ≡ Some names
    → has names x ≡ true → IsNameOfLive w m.session (ask_style m.ask) x

-- ---- one delivery
module _ (q : ℕ) (u : World) (has_them : HasItsPaths q u) where
  abbrev next : World
  next = step q (Deliver 0) u

  pub paths_next : HasItsPaths q next
  paths_next =
      let sound = sound_next q 0 u has_them.bounds has_them.sound in
      record {
        bounds = bounds_next q 0 u has_them.bounds;
        hosts = hosts_next q 0 u has_them.bounds has_them.hosts;
        sound = sound;
        complete = λ k t h live there.
            let before : IsLive u k t = live_back q 0 u has_them.bounds k t live in
            path_at_next q 0 u has_them.bounds has_them.hosts has_them.no_tear sound k t h before there (has_them.complete k t h before there);
        no_tear = no_tear_next q 0 u has_them.bounds has_them.no_tear;
      }

  abbrev pub new : List Item
  new = each (λ (z : Item × Bool). z.0) (sent q (Deliver 0) u)

  -- those that are sent are of senders whose paths come from where they go
  sent_of_live : AllOfLive next new
  sent_of_live y m v names x i spelt asks named there =
      let r = in_each (λ (z : Item × Bool). z.0) y (sent q (Deliver 0) u) i in
      let p = resv_sent q (Deliver 0) u refl has_them.bounds y r.0.1 m (subst (λ (z : Item). In (z, r.0.1) (sent q (Deliver 0) u)) (sym r.2) r.1) spelt in
      let here : NodeConfig = config_of q u.net u.trees p.node in
      let within = paths_next.bounds.facts p.node p.facts p.after in
      let asked : IsAskedOf (toward here p.facts p.lane) v =
      (units_told p.lane.style (toward here p.facts p.lane) m.ask v (parts_of_style here next.clock p.facts within p.lane) p.asks).0 asks in
      let same : names ≡ asked.part.senders = of_some names asked.part.senders (sym named ∙ asked.names) in
      let via : has (names_via p.facts p.lane) x ≡ true =
      (toward_names here next.clock p.facts within p.lane v.unit asked.part asked.there).1 x (ap (λ (z : Names). has z x) (sym same) ∙ there) in
      let a = (known_and_via.all_by p.facts p.lane x).0 via in
      let comes = (known_and_via.via_by p.facts p.lane.session p.lane.hop a.sender).0 a.among in
      let live = (paths_next.sound.facts p.node p.facts (p.lane.session, a.sender) comes.path p.after comes.there).sound.live in
      record {
        sender = a.sender;
        flow = comes.path.tspec;
        live = subst (λ (z : Session). IsLive next (z, a.sender) comes.path.tspec) (sym p.session) live;
        name = a.name ∙ ap (λ (z : StyleKind). name_of z a.sender) (sym p.style);
      }

  pub live_on : (ys : List Item) → AllOfLive u ys → AllOfLive next (ys ++ new)
  live_on ys all y m v names x i spelt asks named there =
      ⊎_elim
      (λ (old : In y ys).
      let z = all y m v names x old spelt asks named there in record { sender = z.sender; flow = z.flow; live = live_next q 0 u has_them.bounds (m.session, z.sender) z.flow z.live; name = z.name })
      (λ (now : In y new). sent_of_live y m v names x now spelt asks named there) (in_append y ys new i)

-- so it goes on where all that is in flight does
pub asks_next : (q : ℕ) (u : World) → HasItsPaths q u → AreAsksOfLive u → AreAsksOfLive (step q (Deliver 0) u)
asks_next q u h asks = live_on q u h (remove u.flight 0) (λ y m v names x i. asks y m v names x (in_rest (Deliver 0) u y refl i))

-- ---- passes
module _ (q : ℕ) where
  pub paths_after : (m : ℕ) (u : World) → HasItsPaths q u → HasItsPaths q (after_deliveries q m u)
  paths_after zero u h = h
  paths_after (suc m) u h = paths_after m (step q (Deliver 0) u) (paths_next q u h)

  pub paths_stay : (m : ℕ) (u : World) → HasItsPaths q u → HasItsPaths q (after_passes q m u)
  paths_stay zero u h = h
  paths_stay (suc m) u h =
      let v : World = after_deliveries q (length u.flight) u in
      subst (λ (z : World). HasItsPaths q z) (sym (run_then q (pass q u) (passes q m v) u)) (paths_stay m v (paths_after (length u.flight) u h))

  -- once those that were in flight are delivered, all that are have been sent since
  sent_since : (front back : List Item) (u : World) (h : HasItsPaths q u) → u.flight ≡ front ++ back → AllOfLive u back → AreAsksOfLive (after_deliveries q (length front) u)
  sent_since [] back u h flight all = λ y m v names x i. all y m v names x (subst (λ (ys : List Item). In y ys) flight i)
  sent_since (z ∷ zs) back u h flight all =
      let later : World = step q (Deliver 0) u in
      let rest : remove u.flight 0 ≡ zs ++ back = ap (λ (ys : List Item). remove ys 0) flight in
      let flight' : later.flight ≡ zs ++ (back ++ new q u h) = ap (λ (ys : List Item). ys ++ new q u h) rest ∙ append_assoc zs back (new q u h) in
      sent_since zs (back ++ new q u h) later (paths_next q u h) flight' (live_on q u h back all)

  -- so a pass later
  pub asks_of_live : (u : World) → HasItsPaths q u → AreAsksOfLive (after_passes q 1 u)
  asks_of_live u h =
      let v : World = after_deliveries q (length u.flight) u in
      let none : u.flight ≡ u.flight ++ [] = sym (append_nothing u.flight) in
      subst AreAsksOfLive (sym (run_then q (pass q u) (passes q 0 v) u)) (sent_since u.flight [] u h none (λ y m w names x i. absurd i))
