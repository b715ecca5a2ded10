-- A node knows whom its reservations name: each step keeps that, since names of senders that are known no more leave them.
use Rattle.std.proofs.Common.{◌≡◌, ℕ, ◌+◌, true, false, None, Some, ⊎_elim, sym, refl, ap, subst, ◌∙◌}
use Rattle.std.specs.Prelude.{slice_get, not}
use Rattle.rsvp_base.specs.declared.session.Sender.{Sender}
use Rattle.rsvp_base.specs.declared.session.Session.{Session}
use Rattle.rsvp_base.specs.declared.style.StyleKind.{StyleKind}
use Rattle.rsvp_base.specs.Orders.{Names, senders}
use Rattle.rsvp_base.specs.Styles.{name_of}
use Rattle.rsvp_base.specs.Table.{get, has, kept}
use Rattle.rsvp_base.proofs.SetLaws.{and_both, has-kept}
use Rattle.rsvp_base.proofs.Tables.{either}
use Rattle.rsvp_messages.specs.Units.{ask_style}
use Rattle.style_rules.specs.Lines.{LineKey}
use Rattle.laws_bounds.proofs.Knowing.{known_and_via}
use Rattle.laws_bounds.proofs.Leaving.{forgetting_by_names, left_by_names}
use Rattle.laws_steps.specs.ReservationLaws.{IsAskedFor}
use Rattle.laws_steps.proofs.Asking.{where_a_reservation_fact_comes_from}
use Rattle.router_rules.specs.Act.{act}
use Rattle.router_rules.specs.Bounds.{IsWithinBounds}
use Rattle.router_rules.specs.Facts.{Facts, ResvState, resvs_of}
use Rattle.router_rules.specs.Forgetting.{is_lost}
use Rattle.router_rules.specs.Inputs.{Call, Input, Local}
use Rattle.router_rules.specs.Known.{known, named_as}
use Rattle.router_rules.specs.NodeConfig.{NodeConfig, goes_out}
use Rattle.router_rules.specs.Rule.{Outcome}
use Rattle.router_rules.specs.Steps.{IsLeftOf, facts_then, node_step}
use Rattle.network_model.specs.Bounds.{AreBounds}
use Rattle.network_model.specs.Steps.{At, Deliver, input_at, ms_of, outcome, step, still}
use Rattle.network_model.specs.Worlds.{World, config_of}
use Rattle.network_model.proofs.Quiet.{FollowsRule, outcome_quiet}
use Rattle.network_model.proofs.Stepping.{facts_after_found}
use Rattle.settle_passes.proofs.Called.{IsCalled, called}

-- each name of a reservation is one of a sender that the node knows
abbrev pub KnowsNames : Facts → Type 0
KnowsNames f = (st : StyleKind) (k : LineKey) (r : ResvState) (x : Sender) → get (resvs_of st f) k ≡ Some r → has r.part.senders x ≡ true → has (named_as st (known f k.0)) x ≡ true

-- ---- a step of a node
module _ (old p : NodeConfig) (b c : ℕ) (i : Input) (f : Facts) (within : IsWithinBounds old b f) (knows : KnowsNames f) where
  abbrev acted : Facts
  acted = (act p c i f).facts

  -- a name that there is after the step was known before it
  known_before : (st : StyleKind) (k : LineKey) (y : ResvState) (x : Sender) → get (resvs_of st (facts_then old p c i f)) k ≡ Some y → has y.part.senders x ≡ true
      → has (named_as st (known f k.0)) x ≡ true
  known_before st k y x e named =
      ⊎_elim (λ (o : (r : ResvState) × (get (resvs_of st f) k ≡ Some r) × IsLeftOf r y). knows st k o.0 x o.1 (o.2.names x named))
      (λ (a : IsAskedFor p c i f st k y).
      let s : Session = a.by.resv.session in
      let z = (known_and_via.named_by (ask_style a.by.resv.ask) (kept (goes_out p s k.1.0.0) (known f s)) x).0 (a.match x named) in
      let among = (and_both _ _ (sym (has-kept senders (goes_out p s k.1.0.0) (known f s) z.sender) ∙ z.among)).0 in
      (known_and_via.named_by st (known f k.0) x).1
      (record {
        sender = z.sender;
        among = ap (λ (w : Session). has (known f w) z.sender) (sym a.by.session) ∙ among;
        passes = refl;
        name = z.name ∙ ap (λ (w : StyleKind). name_of w z.sender) a.by.style;
      }))
      (where_a_reservation_fact_comes_from (node_step old p b c i f) within st k y e)

  -- and is after it, or else it would have left
  pub knows_then : KnowsNames (facts_then old p c i f)
  knows_then st k y x e named =
      either (has (named_as st (known acted k.0)) x) (λ yes. yes)
      (λ no.
      let g = forgetting_by_names.at f acted st k y e in
      let left = left_by_names.told (λ z. not (is_lost st f acted k.0 z)) g.0 y g.2 in
      let there : has (kept (λ z. not (is_lost st f acted k.0 z)) g.0.part.senders) x ≡ true = ap (λ (ns : Names). has ns x) (sym left.senders) ∙ named in
      let stays : not (is_lost st f acted k.0 x) ≡ true = (and_both _ _ (sym (has-kept senders (λ z. not (is_lost st f acted k.0 z)) g.0.part.senders x) ∙ there)).1 in
      let lost : is_lost st f acted k.0 x ≡ true = (forgetting_by_names.lost st f acted k.0 x).1 (known_before st k y x e named, no) in
      let bad : true ≡ false = sym stays ∙ ap not lost in
      absurd (cc))

-- ---- a network
abbrev pub KnowWhomTheyName : World → Type 0
KnowWhomTheyName w = (n : ℕ) (f : Facts) → slice_get w.nodes n ≡ Some f → KnowsNames f

pub names_next : (q j : ℕ) (u : World) → AreBounds q u → KnowWhomTheyName u → KnowWhomTheyName (step q (Deliver j) u)
names_next q j u bounds knows n g at =
    let f = facts_after_found q (Deliver j) u n g at in
    let p : NodeConfig = config_of q u.net u.trees n in
    let c : ℕ = u.clock + ms_of (Deliver j) in
    subst KnowsNames (sym f.2)
    (⊎_elim
    (λ (z : (input_at (Deliver j) u n ≡ None) × (outcome q (Deliver j) u n f.0 ≡ still f.0)). subst KnowsNames (sym (ap (λ (o : Outcome). o.facts) z.1)) (knows n f.0 f.1))
    (λ (h : FollowsRule q (Deliver j) u n f.0 (outcome q (Deliver j) u n f.0)).
    subst KnowsNames (sym (ap (λ (o : Outcome). o.facts) h.is)) (knows_then p p u.clock c h.input f.0 (bounds.facts n f.0 f.1) (knows n f.0 f.1)))
    (outcome_quiet q (Deliver j) u n f.0 refl))

pub names_called : (q n : ℕ) (l : Local) (w : World) → AreBounds q w → KnowWhomTheyName w → KnowWhomTheyName (step q (At n l) w)
names_called q n l w bounds knows m g at =
    let f = facts_after_found q (At n l) w m g at in
    let p : NodeConfig = config_of q w.net w.trees m in
    let c : ℕ = w.clock + ms_of (At n l) in
    subst KnowsNames (sym f.2)
    (⊎_elim (λ (z : outcome q (At n l) w m f.0 ≡ still f.0). subst KnowsNames (sym (ap (λ (o : Outcome). o.facts) z)) (knows m f.0 f.1))
    (λ (h : IsCalled q w n l m f.0).
    subst KnowsNames (sym (ap (λ (o : Outcome). o.facts) h.is)) (knows_then p p w.clock c (Call l) f.0 (bounds.facts m f.0 f.1) (knows m f.0 f.1)))
    (called q w n l m f.0))
