-- Quiet steps: what comes to a node by one, and what the node does.
use Rattle.std.proofs.Common.{◌≡◌, ℕ, ◌+◌, Bool, true, false, cond, Option, None, Some, ◌⊎◌, inl, inr, refl, sym, ap, ◌∙◌}
use Rattle.std.specs.Prelude.{slice_get, ◌==◌}
use Rattle.tree_model.proofs.Following.{same_number, number_same}
use Rattle.router_examples.specs.RouterRules.Facts.{Facts}
use Rattle.router_examples.specs.RouterRules.Inputs.{Input, Wait, Came}
use Rattle.router_examples.specs.RouterRules.Rule.{Outcome, rule}
use Rattle.tree_model.specs.declared.hops.End.{End}
use Rattle.tree_model.specs.Networks.{Net, iface_of}
use Rattle.network_model.specs.Steps.{Step, Piece, Deliver, Lose, Copy, At, ClearAt, Trace, Report, Flags, Adverts, Inject, Reroute, is_quiet, ms_of, arrived, net_after, at_node, came_by_end, came}
use Rattle.network_model.specs.Steps.{input_at, word_for, still, outcome_of, outcome}
use Rattle.network_model.specs.Worlds.{Item, World, config_of}

pub net_quiet : (s : Step) (w : World) → is_quiet s ≡ true → net_after s w ≡ w.net
net_quiet (Piece ms) w q = refl
net_quiet (Deliver k) w q = refl
net_quiet (Lose k) w q = refl
net_quiet (Copy k) w q = refl
net_quiet (At n l) w q = refl
net_quiet (ClearAt n) w q = refl
net_quiet (Trace on) w q = refl
net_quiet (Report e) w q = refl
net_quiet Flags w q = refl
net_quiet Adverts w q = refl
net_quiet (Inject e dst a) w q = refl
net_quiet (Reroute g s hops) w q = absurd (cc)

-- time passes
pub record IsWaited (s : Step) (w : World) (n : ℕ) (i : Input) : Type 0 where
  pub ms : ℕ
  pub step : s ≡ Piece ms
  pub is : i ≡ Wait ms (word_for w.words n)

-- an item arrives at an end of the node
pub record IsCame (s : Step) (w : World) (n : ℕ) (i : Input) : Type 0 where
  pub item : Item
  pub arrives : arrived s w ≡ Some item
  pub end : End
  pub there : slice_get w.net.ends item.end ≡ Some end
  pub node : end.node ≡ n
  pub is : i ≡ Came (iface_of w.net.ends item.end) item.dst item.arrival

pub at_node_found : (m n : ℕ) (i j : Input) → at_node m i n ≡ Some j → (m ≡ n) × (j ≡ i)
at_node_found m n i j e = by (m == n) refl e
  where
    by : (b : Bool) → (m == n) ≡ b → cond b (Some i) None ≡ Some j → (m ≡ n) × (j ≡ i)
    by true t h = let same : i ≡ j = cc in (same_number m n t, sym same)
    by false t h = absurd (cc)

pub input_found : (s : Step) (w : World) (n : ℕ) (i : Input) → is_quiet s ≡ true → input_at s w n ≡ Some i → IsWaited s w n i ⊎ IsCame s w n i
input_found (Piece ms) w n i q e = let same : Wait ms (word_for w.words n) ≡ i = cc in inl (record { ms = ms; step = refl; is = sym same })
input_found (Deliver k) w n i q e = by_item (slice_get w.flight k) refl e
  where
    by_item : (o : Option Item) → slice_get w.flight k ≡ o → came w o n ≡ Some i → IsWaited (Deliver k) w n i ⊎ IsCame (Deliver k) w n i
    by_item None t h = absurd (cc)
    by_item (Some x) t h = by_end (slice_get w.net.ends x.end) refl h
      where
        by_end : (o : Option End) → slice_get w.net.ends x.end ≡ o → came_by_end x (iface_of w.net.ends x.end) o n ≡ Some i → IsWaited (Deliver k) w n i ⊎ IsCame (Deliver k) w n i
        by_end None u g = absurd (cc)
        by_end (Some d) u g = let r = at_node_found d.node n (Came (iface_of w.net.ends x.end) x.dst x.arrival) i g in inr (record { item = x; arrives = t; end = d; there = u; node = r.0; is = r.1 })
input_found (Lose k) w n i q e = absurd (cc)
input_found (Copy k) w n i q e = absurd (cc)
input_found (At m l) w n i q e = absurd (cc)
input_found (ClearAt m) w n i q e = absurd (cc)
input_found (Trace on) w n i q e = absurd (cc)
input_found (Report r) w n i q e = absurd (cc)
input_found Flags w n i q e = absurd (cc)
input_found Adverts w n i q e = absurd (cc)
input_found (Inject t dst a) w n i q e = absurd (cc)
input_found (Reroute g s hops) w n i q e = absurd (cc)

-- what arrives by a step is delivered by it
pub arrival_is : (s : Step) (w : World) (x : Item) → arrived s w ≡ Some x → (k : ℕ) × (s ≡ Deliver k) × (slice_get w.flight k ≡ Some x)
arrival_is (Deliver k) w x e = (k, refl, e)
arrival_is (Piece ms) w x e = absurd (cc)
arrival_is (Lose k) w x e = absurd (cc)
arrival_is (Copy k) w x e = absurd (cc)
arrival_is (At n l) w x e = absurd (cc)
arrival_is (ClearAt n) w x e = absurd (cc)
arrival_is (Trace on) w x e = absurd (cc)
arrival_is (Report r) w x e = absurd (cc)
arrival_is Flags w x e = absurd (cc)
arrival_is Adverts w x e = absurd (cc)
arrival_is (Inject t dst a) w x e = absurd (cc)
arrival_is (Reroute g s hops) w x e = absurd (cc)

-- it takes no time, and comes to the node of its end
pub arrival_takes_no_time : (s : Step) (w : World) (x : Item) → arrived s w ≡ Some x → ms_of s ≡ 0
arrival_takes_no_time s w x a = ap ms_of (arrival_is s w x a).1

pub input_came : (s : Step) (w : World) (x : Item) (e : End) → arrived s w ≡ Some x → slice_get w.net.ends x.end ≡ Some e
    → input_at s w e.node ≡ Some (Came (iface_of w.net.ends x.end) x.dst x.arrival)
input_came s w x e a t =
    let d = arrival_is s w x a in
    ap (λ (z : Step). input_at z w e.node) d.1
    ∙ ap (λ (o : Option Item). came w o e.node) d.2
    ∙ ap (λ (o : Option End). came_by_end x (iface_of w.net.ends x.end) o e.node) t
    ∙ ap (λ (b : Bool). cond b (Some (Came (iface_of w.net.ends x.end) x.dst x.arrival)) None) (number_same e.node e.node refl)

-- a node stays as it is, or follows its rule where it stands
pub record FollowsRule (q : ℕ) (s : Step) (w : World) (n : ℕ) (f : Facts) (o : Outcome) : Type 0 where
  pub input : Input
  pub came : input_at s w n ≡ Some input
  pub is : o ≡ rule (config_of q w.net w.trees n) (config_of q w.net w.trees n) (w.clock + ms_of s) input f

pub outcome_by : (q : ℕ) (s : Step) (w : World) (n : ℕ) (f : Facts) (i : Input) → is_quiet s ≡ true → input_at s w n ≡ Some i
    → outcome q s w n f ≡ rule (config_of q w.net w.trees n) (config_of q w.net w.trees n) (w.clock + ms_of s) i f
outcome_by q s w n f i quiet e =
    ap (λ (o : Option Input). outcome_of q o s w n f) e ∙ ap (λ (net : Net). rule (config_of q w.net w.trees n) (config_of q net w.trees n) (w.clock + ms_of s) i f) (net_quiet s w quiet)

pub outcome_quiet : (q : ℕ) (s : Step) (w : World) (n : ℕ) (f : Facts) → is_quiet s ≡ true → ((input_at s w n ≡ None) × (outcome q s w n f ≡ still f)) ⊎ FollowsRule q s w n f (outcome q s w n f)
outcome_quiet q s w n f quiet = by (input_at s w n) refl
  where
    by : (o : Option Input) → input_at s w n ≡ o → ((input_at s w n ≡ None) × (outcome q s w n f ≡ still f)) ⊎ FollowsRule q s w n f (outcome q s w n f)
    by None e = inl (e, ap (λ (o : Option Input). outcome_of q o s w n f) e)
    by (Some i) e = inr (record { input = i; came = e; is = outcome_by q s w n f i quiet e })
