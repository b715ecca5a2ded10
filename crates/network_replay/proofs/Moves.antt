-- The trees of a network move, node by node.
use Rattle.std.proofs.Common.{◌≡◌, ℕ, zero, suc, ◌+◌, ◌<◌, ◌≤◌, List, [], ◌∷◌, ◌++◌, None, Some, ◌^◌, length, take, drop, length-append, refl, sym, ap, subst, ◌∙◌, arith, inl, inr, ⊎_elim}
use Rattle.std.specs.Prelude.{slice_get, slice_set, map as each, fold, ◌↔◌}
use Rattle.std.specs.Int.{bit_at}
use Rattle.std.specs.List.{All}
use Rattle.std.proofs.lemmas.Bool.{cases_eq}
use Rattle.std.proofs.lemmas.List.{length-map, map-append}
use Rattle.std.proofs.lemmas.List.Elements.{All-nil, All-cons, All-head, All-tail}
use Rattle.std.proofs.lemmas.Nat.Bits.{bit_at_or, bit_at-zero, bit_at-pow_same, bit_at-pow_other, bit_at-lt, same_from_bits}
use Rattle.rsvp_base.specs.declared.addr.Addr.{Addr}
use Rattle.rsvp_base.specs.Members.{In}
use Rattle.router_rules.specs.declared.route.Route.{Route}
use Rattle.router_rules.specs.Inputs.{Moved, Send}
use Rattle.router_rules.specs.NodeConfig.{NodeConfig}
use Rattle.router_rules.specs.Rule.{Outcome, rule, facts_after, sent_after}
use Rattle.router_rules.specs.Facts.{Facts}
use Rattle.router_rules.proofs.Fronting.{fronts_are_the_rule}
use Rattle.tree_model.specs.declared.hops.LinkHop.{LinkHop}
use Rattle.tree_model.specs.declared.hops.End.{End}
use Rattle.tree_model.specs.Networks.{Net, ends_of, iface_of}
use Rattle.tree_model.specs.Trees.{outward}
use Rattle.tree_routing.specs.Routes.{LeavesBy}
use Rattle.network_flight.specs.Steps.{Reroute, rerouted, outcome, step}
use Rattle.network_flight.specs.Worlds.{World, bits_of, config_of, route_of}
use Rattle.network_flight.proofs.Stepping.{facts_after_made}
use Rattle.network_replay.specs.Agreeing.{IsNode, IsSteady}
use Rattle.network_replay.specs.Following.{Seen, AreSpelt}
use Rattle.network_replay.specs.Mailing.{items_sent, ArePut}
use Rattle.network_replay.specs.Routed.{AreRouted, bare, tree_of, trees_in}
use Rattle.network_replay.specs.Posting.{Post, with_post}
use Rattle.network_replay.proofs.Mailed.{posted_put}
use Rattle.network_replay.proofs.Making.{copies_at}
use Rattle.network_replay.proofs.Nodes.{within}

-- ---- routes
-- the trees of routes are those that they were made of
pub trees_back : (net : Net) (n : ℕ) (ts : List (Addr × Addr)) → trees_in (each (route_of net n) ts) ≡ ts
trees_back net n [] = refl
trees_back net n (t ∷ ts) = ap (λ xs. t ∷ xs) (trees_back net n ts)

-- the first so many were made anew
abbrev pub mixed : (Addr × Addr → Route) → List Route → ℕ → List Route
mixed f rs k = each f (trees_in (take k rs)) ++ drop k rs

pub mixed_get : (f : Addr × Addr → Route) (rs : List Route) (k : ℕ) → slice_get (mixed f rs k) k ≡ slice_get rs k
mixed_get f [] zero = refl
mixed_get f [] (suc k) = refl
mixed_get f (r ∷ rs) zero = refl
mixed_get f (r ∷ rs) (suc k) = mixed_get f rs k

pub mixed_step : (f : Addr × Addr → Route) (rs : List Route) (k : ℕ) (x : Route) → slice_get rs k ≡ Some x → slice_set (mixed f rs k) k (f (tree_of x)) ≡ mixed f rs (suc k)
mixed_step f [] k x e = absurd (cc)
mixed_step f (r ∷ rs) zero x e = let same : r ≡ x = (let h : Some r ≡ Some x = e in cc) in ap (λ (y : Route). f (tree_of y) ∷ rs) (sym same)
mixed_step f (r ∷ rs) (suc k) x e = ap (λ (l : List Route). f (tree_of r) ∷ l) (mixed_step f rs k x e)

pub mixed_all : (f : Addr × Addr → Route) (rs : List Route) (k : ℕ) → length rs ≤ k → mixed f rs k ≡ each f (trees_in rs)
mixed_all f [] zero le = refl
mixed_all f [] (suc k) le = refl
mixed_all f (r ∷ rs) zero le = absurd (omega arith)
mixed_all f (r ∷ rs) (suc k) le = ap (λ (l : List Route). f (tree_of r) ∷ l) (mixed_all f rs k (omega arith))

take_one : {A : Type 0} (ts : List A) (k : ℕ) (x : A) → slice_get ts k ≡ Some x → take (suc k) ts ≡ take k ts ++ x ∷ []
take_one [] k x e = absurd (cc)
take_one (t ∷ ts) zero x e = let same : t ≡ x = (let h : Some t ≡ Some x = e in cc) in ap (λ y. y ∷ []) same
take_one (t ∷ ts) (suc k) x e = ap (λ ys. t ∷ ys) (take_one ts k x e)

pub past_end : {A : Type 0} (ts : List A) (k : ℕ) → slice_get ts k ≡ None → length ts ≤ k
past_end [] k e = omega arith
past_end (t ∷ ts) zero e = absurd (let h : Some t ≡ None = e in cc)
past_end (t ∷ ts) (suc k) e = let h = past_end ts k e in omega (arith, h)

pub one_route : (rs new : List Route) (r : Route) (ts : List (Addr × Addr)) → trees_in rs ≡ take (length rs) ts → slice_get ts (length rs) ≡ Some (tree_of r) → new ≡ rs ++ r ∷ []
    → (trees_in new ≡ take (length new) ts) × (length new ≤ length ts)
one_route rs new r ts is at e =
    let k = length rs in
    let many : length new ≡ suc k = omega (arith, ap (λ (l : List Route). length l) e, length-append rs (r ∷ [])) in
    let inside = within ts k (tree_of r) at in (
      ap trees_in e ∙ map-append tree_of rs (r ∷ []) ∙ ap (λ (l : List (Addr × Addr)). l ++ tree_of r ∷ []) is ∙ sym (take_one ts k (tree_of r) at) ∙ ap (λ n. take n ts) (sym many),
      omega (arith, many, inside),
    )

-- numbers as bits
bits_told : (is : List ℕ) (i : ℕ) → bit_at (bits_of is) i ≡ 1 → In i is
bits_told [] i e = let z = bit_at-zero i in absurd (omega arith)
bits_told (k ∷ is) i e =
    elim (cases_eq i k) [
      | inl same ↦ inl same
      | inr ne ↦
          let or = bit_at_or (bits_of is) (2 ^ k) i in
          let other = bit_at-pow_other k i ne in
          inr (bits_told is i (omega arith))
    ]

bits_made : (is : List ℕ) (i : ℕ) → In i is → bit_at (bits_of is) i ≡ 1
bits_made [] i j = absurd j
bits_made (k ∷ is) i j =
    let or = bit_at_or (bits_of is) (2 ^ k) i in
    let a = bit_at-lt (bits_of is) i in
    let b = bit_at-lt (2 ^ k) i in
    ⊎_elim
    (λ (same : i ≡ k). let set : bit_at (2 ^ k) i ≡ 1 = subst (λ (z : ℕ). bit_at (2 ^ k) z ≡ 1) (sym same) (bit_at-pow_same k) in omega arith)
    (λ (old : In i is). let set = bits_made is i old in omega arith) j

in_each : (f : ℕ → ℕ) (xs : List ℕ) (i : ℕ) → In i (each f xs) → (e : ℕ) × In e xs × (f e ≡ i)
in_each f [] i h = absurd h
in_each f (x ∷ xs) i h = ⊎_elim (λ (e : i ≡ f x). (x, inl refl, sym e)) (λ (j : In i (each f xs)). let r = in_each f xs i j in (r.0, inr r.1, r.2)) h

to_each : (f : ℕ → ℕ) (xs : List ℕ) (e : ℕ) → In e xs → In (f e) (each f xs)
to_each f [] e h = absurd h
to_each f (x ∷ xs) e h = ⊎_elim (λ (s : e ≡ x). inl (ap f s)) (λ (j : In e xs). inr (to_each f xs e j)) h

-- the interfaces by which a tree leaves a node, as the model has them
pub ways_are : (net : Net) (n : ℕ) (g s : Addr) (b : ℕ) → ((i : ℕ) → (bit_at b i ≡ 1) ↔ LeavesBy net n g s i) → b ≡ bits_of (each (iface_of net.ends) (outward net n g s))
ways_are net n g s b leaves =
    same_from_bits b (bits_of is) (λ i. by i (bit_at-lt b i) (bit_at-lt (bits_of is) i))
  where
    is : List ℕ
    is = each (iface_of net.ends) (outward net n g s)

    there : (i : ℕ) → bit_at b i ≡ 1 → bit_at (bits_of is) i ≡ 1
    there i e = let l = (leaves i).0 e in bits_made is i (subst (λ k. In k is) l.2 (to_each (iface_of net.ends) (outward net n g s) l.0 l.1))

    back : (i : ℕ) → bit_at (bits_of is) i ≡ 1 → bit_at b i ≡ 1
    back i e = (leaves i).1 (in_each (iface_of net.ends) (outward net n g s) i (bits_told is i e))

    by : (i : ℕ) → bit_at b i < 2 → bit_at (bits_of is) i < 2 → bit_at b i ≡ bit_at (bits_of is) i
    by i x y =
        elim (cases_eq (bit_at b i) 1) [
          | inl one ↦ let o = there i one in omega arith
          | inr ne ↦
              elim (cases_eq (bit_at (bits_of is) i) 1) [
                | inl one ↦ absurd (ne (back i one))
                | inr none ↦ omega arith
              ]
        ]

-- ---- places
pub each_twice : {A B C : Type 0} (f : A → B) (g : B → C) (xs : List A) → each g (each f xs) ≡ each (λ x. g (f x)) xs
each_twice f g [] = refl
each_twice f g (x ∷ xs) = ap (λ ys. g (f x) ∷ ys) (each_twice f g xs)

pub each_all : {A B : Type 0} (f : A → B) (P : B → Type 0) (xs : List A) → All (λ x. P (f x)) xs → All P (each f xs)
each_all f P [] all = All-nil P
each_all f P (x ∷ xs) all = All-cons P (f x) (each f xs) (All-head (λ y. P (f y)) x xs all) (each_all f P xs (All-tail (λ y. P (f y)) x xs all))

-- ---- a node
module _ {R : Type 0} (see : Seen R) (q : ℕ) (w : World) (g s : Addr) (hops : List LinkHop) (n : ℕ) (old new : R) (is : IsNode see q w n old) (routes : List Route)
    (routes_are : routes ≡ each (route_of (rerouted w.net g s hops) n) w.trees)
    (place : see.place new ≡ record (see.place old) { routes = routes }) where
  abbrev net_then : Net
  net_then = rerouted w.net g s hops

  new_place : see.place new ≡ config_of q net_then w.trees n
  new_place = place ∙ ap (λ (p : NodeConfig). record p { routes = routes }) is.place ∙ ap (λ (rs : List Route). record (config_of q w.net w.trees n) { routes = rs }) routes_are

  same_move : rule (see.place old) (see.place new) (w.clock + 0) Moved (see.facts old (w.clock + 0)) ≡ outcome q (Reroute g s hops) w n (see.facts old w.clock)
  same_move =
      let c = w.clock + 0 in
      let now : c ≡ w.clock = omega arith in
      ap (λ t. rule (see.place old) (see.place new) c Moved (see.facts old t)) now
      ∙ ap (λ (p : NodeConfig). rule p (see.place new) c Moved (see.facts old w.clock)) is.place
      ∙ ap (λ (p : NodeConfig). rule (config_of q w.net w.trees n) p c Moved (see.facts old w.clock)) new_place

  pub moved_node : ((c : ℕ) → see.facts new c ≡ facts_after (see.place old) (see.place new) c Moved (see.facts old c)) → IsNode see q (step q (Reroute g s hops) w) n new
  moved_node follows =
      let c = w.clock + 0 in
      let f = see.facts old c in
      record {
        place = new_place;
        facts = facts_after_made q (Reroute g s hops) w n (see.facts old w.clock) is.facts
            ∙ ap (λ (x : Facts). Some x) (sym (follows c ∙ fronts_are_the_rule.facts (see.place old) (see.place new) c Moved f ∙ ap (λ (o : Outcome). o.facts) same_move));
      }

  pub moved_put : (m new_mail : Post) → m.net ≡ net_then → length m.flight ≤ 8192
      → ((c : ℕ) → new_mail ≡ fold with_post (record m { from = n }) (sent_after (see.place old) (see.place new) c Moved (see.facts old c)))
      → ((c : ℕ) → AreSpelt (sent_after (see.place old) (see.place new) c Moved (see.facts old c)))
      → ArePut m new_mail (each (λ x. x.0) (copies_at q (Reroute g s hops) w n (see.facts old w.clock)))
  moved_put m new_mail wires le posts fit =
      let c = w.clock + 0 in
      let ss = sent_after (see.place old) (see.place new) c Moved (see.facts old c) in
      let one : ArePut m new_mail (items_sent m.net w.made n ss) = posted_put m new_mail n w.made ss le (posts c) (fit c) in
      let is_sent : ss ≡ (outcome q (Reroute g s hops) w n (see.facts old w.clock)).sent = fronts_are_the_rule.sent (see.place old) (see.place new) c Moved (see.facts old c)
      ∙ ap (λ (o : Outcome). o.sent) same_move in
      subst (λ (k : Net). ArePut m new_mail (items_sent k w.made n (outcome q (Reroute g s hops) w n (see.facts old w.clock)).sent)) wires
      (subst (λ (xs : List Send). ArePut m new_mail (items_sent m.net w.made n xs)) is_sent one)

-- ---- what holds of the fields of every network
same_length : {A B C : Type 0} (f : A → C) (h : B → C) (xs : List A) (ys : List B) → each f xs ≡ each h ys → length xs ≡ length ys
same_length f h xs ys e = sym (length-map xs f) ∙ ap (λ (zs : List _). length zs) e ∙ length-map ys h

bare_at : (ps rs : List NodeConfig) (n : ℕ) (p : NodeConfig) → each bare ps ≡ each bare rs → slice_get ps n ≡ Some p → (r : NodeConfig) × (slice_get rs n ≡ Some r) × (bare p ≡ bare r)
bare_at [] rs n p e at = absurd (cc)
bare_at (a ∷ ps) [] n p e at = let no : bare a ∷ each bare ps ≡ [] = e in absurd (cc)
bare_at (a ∷ ps) (b ∷ rs) zero p e at =
    let heads : bare a ∷ each bare ps ≡ bare b ∷ each bare rs = e in
    let one : bare a ≡ bare b = cc in
    let same : a ≡ p = (let h : Some a ≡ Some p = at in cc) in
    (b, refl, subst (λ (x : NodeConfig). bare x ≡ bare b) same one)
bare_at (a ∷ ps) (b ∷ rs) (suc n) p e at =
    let heads : bare a ∷ each bare ps ≡ bare b ∷ each bare rs = e in
    let rest : each bare ps ≡ each bare rs = cc in
    bare_at ps rs n p rest at

bare_timed : (q : ℕ) (ps rs : List NodeConfig) → each bare ps ≡ each bare rs → All (λ (p : NodeConfig). p.quarter ≡ q) rs → All (λ (p : NodeConfig). p.quarter ≡ q) ps
bare_timed q [] rs e all = All-nil (λ (p : NodeConfig). p.quarter ≡ q)
bare_timed q (a ∷ ps) [] e all = let no : bare a ∷ each bare ps ≡ [] = e in absurd (cc)
bare_timed q (a ∷ ps) (b ∷ rs) e all =
    let heads : bare a ∷ each bare ps ≡ bare b ∷ each bare rs = e in
    let one : bare a ≡ bare b = cc in
    let rest : each bare ps ≡ each bare rs = cc in
    All-cons (λ (p : NodeConfig). p.quarter ≡ q) a ps (ap (λ (x : NodeConfig). x.quarter) one ∙ All-head (λ (p : NodeConfig). p.quarter ≡ q) b rs all)
    (bare_timed q ps rs rest (All-tail (λ (p : NodeConfig). p.quarter ≡ q) b rs all))

pub still_steady : (q : ℕ) (net then : Net) (trees now : List (Addr × Addr)) (old new : List NodeConfig) → IsSteady q net trees old → then.ends ≡ net.ends → each bare new ≡ each bare old
    → now ≡ trees → AreRouted trees new → IsSteady q then now new
still_steady q net then trees now old new is ends same kept routed = record {
  few = (let e = same_length bare bare new old same in omega (arith, e, is.few));
  long = is.long;
  short = is.short;
  timed = bare_timed q new old same is.timed;
  wired = λ n p at.
      let b = bare_at new old n p same at in
      ap (λ (x : NodeConfig). length x.ifaces) b.2 ∙ is.wired n b.0 b.1 ∙ ap (λ (es : List End). length (ends_of es n)) (sym ends);
  routed = subst (λ (ts : List (Addr × Addr)). AreRouted ts new) (sym kept) routed;
}
