-- Ends and the nodes that they are of.
use Rattle.std.specs.Prelude.{◌≡◌, ℕ, ◌<◌, ◌≤◌, List, [], ◌∷◌, length, Result, Ok, Err, OnErr, OnOk}
use Rattle.std.proofs.Common.{zero, suc, ap, arith, sym, subst, ◌∙◌}
use Rattle.std.proofs.lemmas.List.Elements.{All-cons, All-head, All-nil, All-push, All-tail, All-weaker}
use Rattle.router_rules.specs.Steps.{IsFitStale}
use Rattle.tree_model.specs.declared.hops.End.{End}
use Rattle.tree_model.specs.Networks.{Net}
use Rattle.tree_routing.specs.Answers.{ends_with_latency, with_end, with_latency}
use Rattle.tree_routing.proofs.Latencies.{latency_length}
use Rattle.stale_state.specs.AtNodes.{list_of}
use Rattle.stale_state.specs.Fit.{AreFitAll, place_of}
use Rattle.stale_state.specs.Kept.{stale_of}
use Rattle.stale_state.specs.declared.fact.LeftOver.{LeftOver}
use Rattle.stale_state.proofs.Listing.{list_none}
use Rattle.script_rules.specs.Fitness.{ArePlaced}

-- ---- what is declared before anything is left over
pub none_fit : (q : ℕ) (net : Net) (ls : List LeftOver) → list_of ls ≡ [] → AreFitAll q net ls
none_fit q net ls none = subst (AreFitAll q net) (sym (list_none ls none)) (All-nil (λ (l : LeftOver). IsFitStale (place_of q net l.node) 0 (stale_of l.fact l.left)))

pub placed_more : (n m : ℕ) (es : List End) → n ≤ m → ArePlaced n es → ArePlaced m es
placed_more n m es more all = All-weaker (λ (e : End). e.node < n) (λ (e : End). e.node < m) (λ e lt. omega (arith, more, lt)) es all

pub placed_end : {A E : Type 0} (r : Result A E) (old new : Net) (e : End) (n : ℕ) → OnOk r (new ≡ with_end old e) → OnErr r (new ≡ old) → ArePlaced n old.ends → e.node < n → ArePlaced n new.ends
placed_end (Ok a) old new e n ok err all lt = subst (λ (net : Net). ArePlaced n net.ends) (sym ok) (All-push (λ (z : End). z.node < n) old.ends e all lt)
placed_end (Err x) old new e n ok err all lt = subst (λ (net : Net). ArePlaced n net.ends) (sym err) all

-- with another latency of one
pub placed_timed : (n : ℕ) (es : List End) (e latency : ℕ) → ArePlaced n es → ArePlaced n (ends_with_latency es e latency)
placed_timed n [] e latency all = all
placed_timed n (x ∷ xs) zero latency all =
    All-cons (λ (z : End). z.node < n) _ xs (All-head (λ (z : End). z.node < n) x xs all) (All-tail (λ (z : End). z.node < n) x xs all)
placed_timed n (x ∷ xs) (suc e) latency all =
    All-cons (λ (z : End). z.node < n) x (ends_with_latency xs e latency) (All-head (λ (z : End). z.node < n) x xs all)
    (placed_timed n xs e latency (All-tail (λ (z : End). z.node < n) x xs all))

pub placed_latency : (old new : Net) (e latency n : ℕ) → new ≡ with_latency old e latency → ArePlaced n old.ends → ArePlaced n new.ends
placed_latency old new e latency n is all = subst (λ (net : Net). ArePlaced n net.ends) (sym is) (placed_timed n old.ends e latency all)

-- as many ends are there
pub there_latency : (old new : Net) (e latency k : ℕ) → new ≡ with_latency old e latency → k ≡ length old.ends → k ≡ length new.ends
there_latency old new e latency k is there = there ∙ sym (ap (λ (net : Net). length net.ends) is ∙ latency_length old.ends e latency)
