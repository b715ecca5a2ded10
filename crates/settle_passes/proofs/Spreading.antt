-- Paths spread by passes, one hop each.
use Rattle.std.proofs.Common.{◌≡◌, ℕ, zero, suc, ◌+◌, ◌≤◌, List, [], ◌∷◌, ◌++◌, length, Bool, true, Option, Some, inl, inr, ⊎_elim, arith, sym, refl, ap, subst, ◌∙◌, take}
use Rattle.std.specs.Prelude.{slice_get, is_some, ◌||◌, map as each}
use Rattle.std.specs.List.{remove, repeat}
use Rattle.std.proofs.lemmas.List.{take_all}
use Rattle.rsvp_base.specs.Members.{In}
use Rattle.rsvp_base.specs.Table.{Table, get, has}
use Rattle.rsvp_base.specs.TokenBucket.{TokenBucket}
use Rattle.rsvp_base.proofs.Fronts.{in_front}
use Rattle.calm_rounds.specs.Machine.{run}
use Rattle.laws_bounds.proofs.Knowing.{has-known}
use Rattle.router_rules.specs.Facts.{SenderKey, PathState, sender_keys}
use Rattle.tree_model.specs.declared.hops.LinkHop.{LinkHop}
use Rattle.tree_model.specs.Networks.{Net, node_of, owner}
use Rattle.tree_model.specs.Ranks.{longest}
use Rattle.tree_model.specs.Trees.{depth, inward, outward, tree}
use Rattle.tree_model.proofs.Depths.{depth_and_rank_within_longest}
use Rattle.tree_model.proofs.TreeLaws.{out_tested, the_root_has_no_inward, way_in_told}
use Rattle.network_model.specs.Events.{pass, passes}
use Rattle.network_model.specs.Locals.{IsLive}
use Rattle.network_model.specs.Sound.{ArePathsComplete, ArePathsSound, IsPathAt}
use Rattle.network_model.specs.Steps.{Deliver, Step, machine, sent, step}
use Rattle.network_model.specs.Worlds.{Item, World}
use Rattle.laws_network.specs.Known.{IsSameNet}
use Rattle.laws_network.proofs.Known.{of_some, or_true}
use Rattle.settle_paths.proofs.LiveSenders.{senders_found}
use Rattle.settle_passes.specs.Passes.{AreCompleteTo, AreSpreading, IsPathOver, Knows, after_passes}
use Rattle.settle_passes.proofs.Deliveries.{known_self, learnt, live_next, path_at_next, same_next, sound_next, spreading_next}
use Rattle.settle_passes.specs.Calls.{HasItsPaths}

pub run_then : (q : ℕ) (ss ts : List Step) (w : World) → run (machine q) (ss ++ ts) w ≡ run (machine q) ts (run (machine q) ss w)
run_then q [] ts w = refl
run_then q (s ∷ ss) ts w = run_then q ss ts (step q s w)

pub in_take : {A : Type 0} (x : A) (n : ℕ) (xs ys : List A) → In x (take n xs) → In x (take n (xs ++ ys))
in_take x zero xs ys i = i
in_take x (suc n) [] ys i = absurd i
in_take x (suc n) (z ∷ xs) ys i = ⊎_elim (λ (e : x ≡ z). inl e) (λ (j : In x (take n xs)). inr (in_take x n xs ys j)) i

module _ (q : ℕ) where
  -- so many deliveries, each of what has been in flight longest
  abbrev pub deliveries : ℕ → List Step
  deliveries n = repeat n (Deliver 0 ∷ [])

  abbrev pub after_deliveries : ℕ → World → World
  after_deliveries n u = run (machine q) (deliveries n) u

  go_on : (u : World) → AreSpreading q u → AreSpreading q (step q (Deliver 0) u)
  go_on u s = spreading_next q 0 u s.bounds s.hosts s.sound s.no_tear s.offered

  pub spreading_on : (n : ℕ) (u : World) → AreSpreading q u → AreSpreading q (after_deliveries n u)
  spreading_on zero u s = s
  spreading_on (suc n) u s = spreading_on n (step q (Deliver 0) u) (go_on u s)

  pub same_on : (n : ℕ) (o u : World) → IsSameNet o u → AreSpreading q u → IsSameNet o (after_deliveries n u)
  same_on zero o u same s = same
  same_on (suc n) o u same s = same_on n o (step q (Deliver 0) u) (same_next q 0 u s.bounds o same) (go_on u s)

  -- a path that stands goes on to stand
  stands_on : (n : ℕ) (u : World) → AreSpreading q u → (k : SenderKey) (t : TokenBucket) (h : LinkHop) → IsLive u k t → In h (tree u.net.hops k.0.group k.1.addr) → IsPathAt u k t h
      → IsPathAt (after_deliveries n u) k t h
  stands_on zero u s k t h live there at = at
  stands_on (suc n) u s k t h live there at =
      stands_on n (step q (Deliver 0) u) (go_on u s) k t h (live_next q 0 u s.bounds k t live) there
      (path_at_next q 0 u s.bounds s.hosts s.no_tear (sound_next q 0 u s.bounds s.sound) k t h live there at)

  -- a Path that is among the first so many in flight is learnt
  delivered : (n : ℕ) (u : World) → AreSpreading q u → (k : SenderKey) (t : TokenBucket) (h : LinkHop) → IsLive u k t → In h (tree u.net.hops k.0.group k.1.addr) → (y : IsPathOver u k t h)
      → In y.item (take n u.flight) → IsPathAt (after_deliveries n u) k t h
  delivered zero u s k t h live there y i = absurd i
  delivered (suc n) u s k t h live there y i =
      by u.flight refl i (λ z j. delivered n (step q (Deliver 0) u) (go_on u s) k t h (live_next q 0 u s.bounds k t live) there z j)
    where
      by : (ys : List Item) → u.flight ≡ ys → In y.item (take (suc n) ys)
          → ((z : IsPathOver (step q (Deliver 0) u) k t h) → In z.item (take n (step q (Deliver 0) u).flight) → IsPathAt (after_deliveries n (step q (Deliver 0) u)) k t h)
          → IsPathAt (after_deliveries (suc n) u) k t h
      by [] e i more = absurd i
      by (z ∷ ys) e i more =
          ⊎_elim
          (λ (now : y.item ≡ z).
          let at : slice_get u.flight 0 ≡ Some y.item = ap (λ (zs : List Item). slice_get zs 0) e ∙ ap Some (sym now) in
          stands_on n (step q (Deliver 0) u) (go_on u s) k t h (live_next q 0 u s.bounds k t live) there (learnt q 0 u s.bounds s.hosts s.sound k t h live there y at))
          (λ (later : In y.item (take n ys)).
          let new : List Item = each (λ (x : Item × Bool). x.0) (sent q (Deliver 0) u) in
          let flight : ys ++ new ≡ (step q (Deliver 0) u).flight = ap (λ (zs : List Item). remove zs 0 ++ new) (sym e) in
          let front : In y.item (take n (step q (Deliver 0) u).flight) = subst (λ (zs : List Item). In y.item (take n zs)) flight (in_take y.item n ys new later) in
          more
          (record {
            item = y.item;
            flight = in_front y.item n (step q (Deliver 0) u).flight front;
            end = y.end;
            dst = y.dst;
            path = y.path;
            spelt = y.spelt;
            session = y.session;
            sender = y.sender;
          })
          front) i

  -- ---- the node before a hop knows the sender, where paths are complete as far as that node
  knows_before : (d : ℕ) (u : World) → AreSpreading q u → AreCompleteTo d u → (k : SenderKey) (t : TokenBucket) (h : LinkHop) → IsLive u k t → In h (tree u.net.hops k.0.group k.1.addr)
      → depth u.net k.0.group k.1.addr (node_of u.net.ends h.to) ≤ suc d → Knows u (node_of u.net.ends h.from) k
  knows_before d u s full k t h live there deep =
      let at_from : ℕ = node_of u.net.ends h.from in
      let leaves : In h.from (outward u.net at_from k.0.group k.1.addr) = out_tested u.net at_from h.from k.0.group k.1.addr (h, there, refl, refl) in
      ⊎_elim
      (λ (root : owner u.net.ends k.1.addr ≡ Some at_from).
      let g = senders_found u live.node live.senders live.at in
      let sends : get g.0.senders k ≡ Some t = ap (λ (z : Table sender_keys TokenBucket). get z k) g.2 ∙ live.sends in
      let own = s.hosts.placed live.node g.0 k t g.1 sends in
      let node : live.node ≡ at_from = of_some live.node at_from (sym own ∙ root) in
      let some : has g.0.senders k ≡ true = ap (λ (z : Option TokenBucket). is_some z) sends in
      record {
        facts = g.0;
        there = ap (λ (z : ℕ). slice_get u.nodes z) (sym node) ∙ g.1;
        known_one = has-known g.0 k.0 k.1 ∙ ap (λ (b : Bool). b || has g.0.paths k) some;
      })
      (λ (way : (i : ℕ) × (inward u.net at_from k.0.group k.1.addr ≡ Some i)).
      let w = way_in_told u.net s.bounds.net at_from way.0 k.0.group k.1.addr way.1 in
      let node : node_of u.net.ends w.0.to ≡ at_from = ap (node_of u.net.ends) w.2 ∙ w.3 in
      let along = (depth_and_rank_within_longest u.net s.bounds.net).along k.0.group k.1.addr h there in
      let low : depth u.net k.0.group k.1.addr at_from ≤ d = omega arith in
      let at = full k t w.0 live w.1 (subst (λ (z : ℕ). depth u.net k.0.group k.1.addr z ≤ d) (sym node) low) in
      let some : has at.facts.paths k ≡ true = ap (λ (z : Option PathState). is_some z) at.there in
      record {
        facts = at.facts;
        there = ap (λ (z : ℕ). slice_get u.nodes z) (sym node) ∙ at.node;
        known_one = has-known at.facts k.0 k.1 ∙ ap (λ (b : Bool). has at.facts.senders k || b) some ∙ or_true (has at.facts.senders k);
      })
      ((the_root_has_no_inward u.net s.bounds.net).entered at_from h.from k.0.group k.1.addr leaves)

  -- ---- one pass, one hop
  complete_up : (d : ℕ) (u : World) → AreSpreading q u → AreCompleteTo d u → AreCompleteTo (suc d) (after_deliveries (length u.flight) u)
  complete_up d u s full k t h live' there' deep' =
      let same = same_on (length u.flight) u u (known_self q u s.bounds).same s in
      let live : IsLive u k t = record { node = live'.node; senders = live'.senders; at = sym (same.senders live'.node) ∙ live'.at; sends = live'.sends } in
      let there : In h (tree u.net.hops k.0.group k.1.addr) = subst (λ (z : Net). In h (tree z.hops k.0.group k.1.addr)) same.net there' in
      let deep : depth u.net k.0.group k.1.addr (node_of u.net.ends h.to) ≤ suc d = subst (λ (z : Net). depth z k.0.group k.1.addr (node_of z.ends h.to) ≤ suc d) same.net deep' in
      ⊎_elim
      (λ (at : IsPathAt u k t h). stands_on (length u.flight) u s k t h live there at)
      (λ (over : IsPathOver u k t h).
      delivered (length u.flight) u s k t h live there over (subst (λ (zs : List Item). In over.item zs) (sym (take_all (length u.flight) u.flight (omega arith))) over.flight))
      (s.offered k t h live there (knows_before d u s full k t h live there deep))

  -- to no hop of a tree the root is as far as 0
  complete_0 : (u : World) → AreSpreading q u → AreCompleteTo 0 u
  complete_0 u s k t h live there deep = let along = (depth_and_rank_within_longest u.net s.bounds.net).along k.0.group k.1.addr h there in absurd (omega arith)

  -- ---- passes, one after the other
  passes_on : (n d : ℕ) (u : World) → AreSpreading q u → AreCompleteTo d u → AreSpreading q (after_passes q n u) × AreCompleteTo (d + n) (after_passes q n u)
  passes_on zero d u s full = let same : d ≡ d + zero = omega arith in (s, subst (λ (z : ℕ). AreCompleteTo z u) same full)
  passes_on (suc n) d u s full =
      let v : World = after_deliveries (length u.flight) u in
      let r = passes_on n (suc d) v (spreading_on (length u.flight) u s) (complete_up d u s full) in
      let same : after_passes q (suc n) u ≡ after_passes q n v = run_then q (pass q u) (passes q n v) u in
      let sum : suc d + n ≡ d + suc n = omega arith in
      (subst (AreSpreading q) (sym same) r.0, subst (λ (z : ℕ). AreCompleteTo z (after_passes q (suc n) u)) sum (subst (AreCompleteTo (suc d + n)) (sym same) r.1))

pub paths_spread_one_hop_a_pass : (q n : ℕ) (w : World) → AreSpreading q w → AreSpreading q (after_passes q n w) × AreCompleteTo n (after_passes q n w)
paths_spread_one_hop_a_pass q n w s =
    let r = passes_on q n 0 w s (complete_0 q w s) in
    let sum : 0 + n ≡ n = omega arith in
    (r.0, subst (λ (z : ℕ). AreCompleteTo z (after_passes q n w)) sum r.1)

-- paths that are there spread
pub there_spread : (q : ℕ) (w : World) → HasItsPaths q w → AreSpreading q w
there_spread q w s =
    record { bounds = s.bounds; hosts = s.hosts; sound = s.sound; no_tear = s.no_tear; offered = λ k t h live there knows. inl (s.complete k t h live there) }

-- the network stays
same_net : (q n : ℕ) (w : World) → AreSpreading q w → (after_passes q n w).net ≡ w.net
same_net q zero w s = refl
same_net q (suc n) w s =
    let v : World = after_deliveries q (length w.flight) w in
    ap (λ (z : World). z.net) (run_then q (pass q w) (passes q n v) w) ∙ same_net q n v (spreading_on q (length w.flight) w s) ∙ (same_on q (length w.flight) w w (known_self q w s.bounds).same s).net

pub paths_are_set_up : (q : ℕ) (w : World) → AreSpreading q w → ArePathsSound (after_passes q (longest w.net) w) × ArePathsComplete (after_passes q (longest w.net) w)
paths_are_set_up q w s =
    let u : World = after_passes q (longest w.net) w in
    let r = paths_spread_one_hop_a_pass q (longest w.net) w s in (
      r.0.sound,
      λ k t h live there.
          let deep = (depth_and_rank_within_longest u.net r.0.bounds.net).every k.0.group k.1.addr (node_of u.net.ends h.to) in
          let long : longest u.net ≡ longest w.net = ap longest (same_net q (longest w.net) w s) in
          r.1 k t h live there (omega arith),
    )
