-- A refused call changes nothing of a world within bounds.
use Rattle.std.proofs.Common.{◌≡◌, ℕ, suc, ◌+◌, List, [], ◌∷◌, Bool, true, false, cond, Some, None, arith, refl, sym, ap, subst, ◌∙◌}
use Rattle.std.specs.Prelude.{slice_get, map as each, length, ◌++◌, ◌==◌}
use Rattle.std.proofs.lemmas.List.{append-nil}
use Rattle.laws_bounds.proofs.Calling.{calls_leave}
use Rattle.router_rules.specs.declared.answers.Heard.TheVariants as heard
use Rattle.router_rules.specs.declared.answers.LocalErr.{LocalErr}
use Rattle.router_rules.specs.Calls.{call_refusal}
use Rattle.router_rules.specs.Facts.{Facts}
use Rattle.router_rules.specs.Inputs.{Call, Local}
use Rattle.router_rules.specs.NodeConfig.{NodeConfig}
use Rattle.router_rules.specs.Rule.{Outcome, rule}
use Rattle.tree_model.proofs.Following.{number_same, same_number}
use Rattle.network_model.specs.Bounds.{AreBounds}
use Rattle.network_model.specs.Laws.{config_in}
use Rattle.network_model.specs.Links.{all_copies}
use Rattle.network_model.specs.Steps.{At, Step, facts_from, outcome, outcome_of, sent, sent_from, step}
use Rattle.network_model.specs.Worlds.{Item, World, config_of}
use Rattle.laws_network.proofs.Known.{of_some}
use Rattle.laws_safety.specs.Refusals.{ARefusedCallChangesNothing}

-- a node that stays as it is and sends nothing
abbrev IsQuiet : Outcome → Facts → Type 0
IsQuiet o g = (o.facts ≡ g) × (o.sent ≡ [])

module _ (q : ℕ) (s : Step) (w : World) where
  all_quiet : (j : ℕ) (gs : List Facts) → ((i : ℕ) (g : Facts) → slice_get gs i ≡ Some g → IsQuiet (outcome q s w (j + i) g) g) → (facts_from q s w j gs ≡ gs) × (sent_from q s w j gs ≡ [])
  all_quiet j [] h = (refl, refl)
  all_quiet j (g ∷ gs) h =
      let first : j + 0 ≡ j = omega arith in
      let here : IsQuiet (outcome q s w j g) g = subst (λ (z : ℕ). IsQuiet (outcome q s w z g) g) first (h 0 g refl) in
      let rest = all_quiet (suc j) gs (λ i x e. let next : j + suc i ≡ suc j + i = omega arith in subst (λ (z : ℕ). IsQuiet (outcome q s w z x) x) next (h (suc i) x e)) in
      (λ k. here.0 k ∷ rest.0 k, ap (λ ss. all_copies w.net w.made j ss ++ sent_from q s w (suc j) gs) here.1 ∙ rest.1)

module _ (q : ℕ) (w : World) (bounds : AreBounds q w) (n : ℕ) (l : Local) (f : Facts) (why : LocalErr) (there : slice_get w.nodes n ≡ Some f)
    (refused : call_refusal (config_in q w n) l f ≡ Some why) where
  abbrev p : NodeConfig
  p = config_of q w.net w.trees n

  clock : w.clock + 0 ≡ w.clock
  clock = omega arith

  here : outcome q (At n l) w n f ≡ record { facts = f; sent = []; heard = heard.Taken }
  here =
      ap (λ (b : Bool). outcome_of q (cond b (Some (Call l)) None) (At n l) w n f) (number_same n n refl)
      ∙ ap (λ (c : ℕ). rule p p c (Call l) f) clock ∙ calls_leave.quiet p w.clock l f why (bounds.facts n f there) refused

  called : (g : Facts) → slice_get w.nodes n ≡ Some g → IsQuiet (outcome q (At n l) w n g) g
  called g at = subst (λ (z : Facts). IsQuiet (outcome q (At n l) w n z) z) (of_some f g (sym there ∙ at)) (ap (λ (o : Outcome). o.facts) here, ap (λ (o : Outcome). o.sent) here)

  at_each : (m : ℕ) (g : Facts) → slice_get w.nodes m ≡ Some g → IsQuiet (outcome q (At n l) w m g) g
  at_each m g at = by (n == m) refl
    where
      by : (b : Bool) → (n == m) ≡ b → IsQuiet (outcome q (At n l) w m g) g
      by true t = subst (λ (z : ℕ). (x : Facts) → slice_get w.nodes z ≡ Some x → IsQuiet (outcome q (At n l) w z x) x) (same_number n m t) called g at
      by false t =
          let o = ap (λ (b : Bool). outcome_of q (cond b (Some (Call l)) None) (At n l) w m g) t in
          (ap (λ (z : Outcome). z.facts) o, ap (λ (z : Outcome). z.sent) o)

  quiet : (facts_from q (At n l) w 0 w.nodes ≡ w.nodes) × (sent q (At n l) w ≡ [])
  quiet = all_quiet q (At n l) w 0 w.nodes (λ i g e. let same : i ≡ 0 + i = omega arith in subst (λ (z : ℕ). IsQuiet (outcome q (At n l) w z g) g) same (at_each i g e))

  flight : w.flight ++ each (λ (x : Item × Bool). x.0) (sent q (At n l) w) ≡ w.flight
  flight = ap (λ (xs : List (Item × Bool)). w.flight ++ each (λ (x : Item × Bool). x.0) xs) quiet.1 ∙ append-nil w.flight

  delivered : w.delivered + length {A = Item} [] ≡ w.delivered
  delivered = omega arith

  as_it_was : step q (At n l) w ≡ record w { made = suc w.made }
  as_it_was = λ k. record {
    net = w.net;
    trees = w.trees;
    clock = clock k;
    nodes = quiet.0 k;
    words = w.words;
    trace = w.trace;
    delivered = delivered k;
    made = suc w.made;
    flight = flight k;
  }

pub a_refused_call : (q : ℕ) (s : Step) (w : World) → AreBounds q w → ARefusedCallChangesNothing q s w
a_refused_call q s w bounds n l f why is there refused = ap (λ (z : Step). step q z w) is ∙ as_it_was q w bounds n l f why there refused
