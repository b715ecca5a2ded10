-- Lists of hops, one more at the end.
use Rattle.std.proofs.Common.{◌≡◌, ℕ, ◌+◌, ◌<◌, zero, suc, Bool, true, false, cond, List, [], ◌∷◌, ◌++◌, length, get_or, take, drop, Err, refl, sym, ap, subst, ◌∙◌, inl, inr, arith, append_assoc}
use Rattle.std.specs.Prelude.{map as each, not}
use Rattle.std.specs.List.{filter, range_with_len}
use Rattle.rsvp_base.specs.Members.{In}
use Rattle.tree_model.specs.declared.hops.LinkHop.{LinkHop}
use Rattle.tree_model.specs.Networks.{Net, among}
use Rattle.rsvp_base.specs.declared.addr.Addr.{Addr}
use Rattle.tree_model.specs.declared.locals.LocalSender.{LocalSender}
use Rattle.tree_model.specs.Ranks.{IsLoopFreeIn}
use Rattle.tree_routing.specs.Answers.{Fits, HopAnswer, with_hop}
use Rattle.tree_routing.specs.declared.hop_err.HopErr.{HopErr}
use Rattle.tree_routing.specs.declared.hop_err.HopErr.TheVariants.{Loop, NotTree}
use Rattle.network_model.specs.Steps.{tree_hop}
use Rattle.grown_network.specs.Grown.{net_with}
use Rattle.grown_network.specs.Growing.{IsAtHome, TakesTree}
use Rattle.grown_network.specs.Hops.{hop_down, hops_away, hops_down}
use Rattle.grown_network.proofs.Planting.{each_append, filter_append, fits, free, room}
use Rattle.grown_network.proofs.Ranges.{range_more}

pub in_at : {A : Type 0} (xs : List A) (i : ℕ) (d : A) → i < length xs → In (get_or xs i d) xs
in_at [] i d lt = absurd (omega arith)
in_at (x ∷ xs) zero d lt = inl refl
in_at (x ∷ xs) (suc i) d lt = inr (in_at xs i d (omega arith))

append_none : {A : Type 0} (xs : List A) → xs ++ [] ≡ xs
append_none [] = refl
append_none {A} (x ∷ xs) = ap (λ (ys : List A). x ∷ ys) (append_none xs)

pub down_none : (hs : List LinkHop) (way : List ℕ) → hs ≡ hs ++ hops_down way 0
unfolding hops_down
down_none hs way = sym (append_none hs)

pub down_at : (before hs : List LinkHop) (way : List ℕ) (n m : ℕ) → n ≡ m → hs ≡ before ++ hops_down way n → hs ≡ before ++ hops_down way m
down_at before hs way n m e is = is ∙ ap (λ k. before ++ hops_down way k) e

one_down : (way : List ℕ) (n : ℕ) → hops_down way (n + 1) ≡ hops_down way n ++ each hop_down (filter (λ k. not (among k way)) ((1 + n) ∷ []))
unfolding hops_down
one_down way n =
    ap (λ (ks : List ℕ). each hop_down (filter (λ k. not (among k way)) ks)) (range_more 1 n) ∙ ap (each hop_down) (filter_append (λ k. not (among k way)) (range_with_len 1 n) ((1 + n) ∷ []))
    ∙ each_append hop_down (filter (λ k. not (among k way)) (range_with_len 1 n)) (filter (λ k. not (among k way)) ((1 + n) ∷ []))

-- a node of the way adds nothing
pub down_past : (before hs next : List LinkHop) (way : List ℕ) (n k : ℕ) → k ≡ n + 1 → among k way ≡ true → next ≡ hs → hs ≡ before ++ hops_down way n → next ≡ before ++ hops_down way k
down_past before hs next way n k e on same is =
    let swap : 1 + n ≡ k = omega arith in
    let at : among (1 + n) way ≡ true = ap (λ m. among m way) swap ∙ on in
    same ∙ is ∙ ap (λ (ys : List LinkHop). before ++ ys) (sym (ap (hops_down way) e ∙ one_down way n ∙ ap (λ (b : Bool). hops_down way n ++ each hop_down (cond (not b) ((1 + n) ∷ []) [])) at
    ∙ append_none (hops_down way n)))

pub down_pushed : (before hs next : List LinkHop) (way : List ℕ) (n k : ℕ) → k ≡ n + 1 → among k way ≡ false → next ≡ hs ++ hop_down k ∷ [] → hs ≡ before ++ hops_down way n
    → next ≡ before ++ hops_down way k
down_pushed before hs next way n k e off pushed is =
    let swap : 1 + n ≡ k = omega arith in
    let at : among (1 + n) way ≡ false = ap (λ m. among m way) swap ∙ off in
    pushed ∙ ap (λ (ys : List LinkHop). ys ++ hop_down k ∷ []) is ∙ append_assoc before (hops_down way n) (hop_down k ∷ [])
    ∙ ap (λ (ys : List LinkHop). before ++ ys) (sym (ap (hops_down way) e ∙ one_down way n ∙ ap (λ (b : Bool). hops_down way n ++ each hop_down (cond (not b) ((1 + n) ∷ []) [])) at
    ∙ ap (λ (m : ℕ). hops_down way n ++ hop_down m ∷ []) swap))

pub split_at : {A : Type 0} (xs : List A) (i : ℕ) (d : A) → i < length xs → xs ≡ take i xs ++ get_or xs i d ∷ drop (suc i) xs
split_at [] i d lt = absurd (omega arith)
split_at (x ∷ xs) zero d lt = refl
split_at {A} (x ∷ xs) (suc i) d lt = ap (λ (ys : List A). x ∷ ys) (split_at xs i d (omega arith))

-- ---- the hops of a tree are taken one by one
module _ (net : Net) (x : LocalSender) (at : IsAtHome x) (takes : TakesTree net x) (hops : List LinkHop) (all : hops ≡ hops_away x.node) (i : ℕ) (d : LinkHop) (lt : i < length hops) (top : Net)
    (is : top ≡ net_with (net.hops ++ each (tree_hop x.session.group x.sender.addr) (take i (hops_away x.node)))) where
  parts : hops_away x.node ≡ take i (hops_away x.node) ++ get_or hops i d ∷ drop (suc i) (hops_away x.node)
  parts =
      let inside : i < length (hops_away x.node) = subst (λ (hs : List LinkHop). i < length hs) all lt in
      split_at (hops_away x.node) i d inside ∙ ap (λ (hs : List LinkHop). take i (hops_away x.node) ++ get_or hs i d ∷ drop (suc i) (hops_away x.node)) (sym all)

  pub has_room : length top.hops < 8192
  has_room = subst (λ (n : Net). length n.hops < 8192) (sym is) (room net x at takes (take i (hops_away x.node)) (get_or hops i d) (drop (suc i) (hops_away x.node)) parts)

  pub always_of_tree : (why : HopErr) → why ≡ NotTree → HopAnswer top (tree_hop x.session.group x.sender.addr (get_or hops i d)) (Err why) → ⊥
  always_of_tree why e answer =
      let never : Fits top (tree_hop x.session.group x.sender.addr (get_or hops i d)) → ⊥ =
      subst (λ (w : HopErr). HopAnswer top (tree_hop x.session.group x.sender.addr (get_or hops i d)) (Err w)) e answer in
      never (subst (λ (n : Net). Fits n (tree_hop x.session.group x.sender.addr (get_or hops i d))) (sym is)
      (fits net x at takes (take i (hops_away x.node)) (get_or hops i d) (drop (suc i) (hops_away x.node)) parts))

  pub never_a_loop : (why : HopErr) (g : Addr) (from to : ℕ) → why ≡ Loop g from to → HopAnswer top (tree_hop x.session.group x.sender.addr (get_or hops i d)) (Err why) → ⊥
  never_a_loop why g from to e answer =
      let told = subst (λ (w : HopErr). HopAnswer top (tree_hop x.session.group x.sender.addr (get_or hops i d)) (Err w)) e answer in
      let on = told.2.on in
      let none = subst (λ (n : Net). IsLoopFreeIn (with_hop n (tree_hop x.session.group x.sender.addr (get_or hops i d))) x.session.group) (sym is)
      (free net x at takes (take i (hops_away x.node)) (get_or hops i d) (drop (suc i) (hops_away x.node)) parts) in
      none on.head on.rest on.closed
