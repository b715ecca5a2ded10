-- The routes of a node, tree by tree.
use Rattle.std.specs.Prelude.{◌≡◌, ℕ, Option, ◌<◌, ◌≤◌, ◌&&◌, true, false, Bool, List, [], ◌∷◌, ◌++◌, None, Some, IsTrue, map as each, length, slice_get, refl}
use Rattle.std.specs.FinMap.Entries.{below_all, is_sorted}
use Rattle.std.specs.Ordering.{is_lt}
use Rattle.std.proofs.Common.{T, zero, suc, take, ap, subst, sym, ◌∙◌, arith, length-append}
use Rattle.std.proofs.lemmas.List.{map-append}
use Rattle.rsvp_base.specs.declared.addr.Addr.{Addr}
use Rattle.rsvp_base.specs.Table.{keys}
use Rattle.rsvp_base.specs.Sets.{Set, set_of}
use Rattle.rsvp_base.specs.declared.iface.Iface.{Iface}
use Rattle.tree_model.specs.declared.hops.End.{End}
use Rattle.tree_model.specs.Networks.{Net, ends_of}
use Rattle.tree_model.specs.Trees.{key_of, tree_keys, trees_of}
use Rattle.router_rules.specs.declared.route.Route.{Route}
use Rattle.network_model.specs.Worlds.{ifaces_at, route_of, with_iface}
use Rattle.router_state.specs.Routes.{AreRoutes, route_keys, route_row}

abbrev Tree : Type 0
Tree = Addr × Addr

take_one : {A : Type 0} (ts : List A) (k : ℕ) (x : A) → slice_get ts k ≡ Some x → take (suc k) ts ≡ take k ts ++ x ∷ []
take_one [] k x e = absurd (cc)
take_one (t ∷ ts) zero x e = let same : t ≡ x = (let h : Some t ≡ Some x = e in cc) in ap (λ y. y ∷ []) same
take_one (t ∷ ts) (suc k) x e = ap (λ ys. t ∷ ys) (take_one ts k x e)

within : {A : Type 0} (ts : List A) (k : ℕ) (x : A) → slice_get ts k ≡ Some x → k < length ts
within [] k x e = absurd (cc)
within (t ∷ ts) zero x e = omega arith
within (t ∷ ts) (suc k) x e = let h = within ts k x e in omega (arith, h)

-- one more tree
pub one_more : (f : Tree → Route) (rs new : List Route) (ts : List Tree) (t : Tree) (r : Route) → rs ≡ each f (take (length rs) ts) → slice_get ts (length rs) ≡ Some t → r ≡ f t → new ≡ rs ++ r ∷ []
    → (new ≡ each f (take (length new) ts)) × (length new ≤ length ts)
one_more f rs new ts t r is at same e =
    let k = length rs in
    let many : length new ≡ suc k = omega (arith, ap (λ (l : List Route). length l) e, length-append rs (r ∷ [])) in
    let inside = within ts k t at in (
      e ∙ ap (λ (l : List Route). l ++ r ∷ []) is ∙ ap (λ (x : Route). each f (take k ts) ++ x ∷ []) same ∙ sym (map-append f (take k ts) (t ∷ [])) ∙ ap (each f) (sym (take_one ts k t at))
          ∙ ap (λ n. each f (take n ts)) (sym many),
      omega (arith, many, inside),
    )

-- ---- in the order of their trees
below_is : (net : Net) (n : ℕ) (t : Tree) (es : List (Tree × Unit {0})) → below_all route_keys.cmp t (each route_row (each (route_of net n) (each (λ e. e.0) es))) ≡ below_all tree_keys.cmp t es
below_is net n t [] = refl
below_is net n t (e ∷ es) = ap (λ b. is_lt (tree_keys.cmp t e.0) && b) (below_is net n t es)

sorted_is : (net : Net) (n : ℕ) (es : List (Tree × Unit {0})) → is_sorted route_keys.cmp (each route_row (each (route_of net n) (each (λ e. e.0) es))) ≡ is_sorted tree_keys.cmp es
sorted_is net n [] = refl
sorted_is net n (e ∷ es) = λ i. below_is net n e.0 es i && sorted_is net n es i

told : (b : Bool) → T b → IsTrue b
told true h = refl
told false h = absurd h

of_set : (net : Net) (n : ℕ) (s : Set tree_keys) → AreRoutes (each (route_of net n) (keys s))
of_set net n s = subst (λ (b : Bool). IsTrue b) (sym (sorted_is net n s.rows)) (told _ s.sorted)

pub are_routes : (net : Net) (n : ℕ) (rs : List Route) → rs ≡ each (route_of net n) (trees_of net.hops) → AreRoutes rs
are_routes net n rs e = subst (λ (l : List Route). AreRoutes l) (sym e) (of_set net n (set_of {o = tree_keys} (each key_of net.hops)))

-- ---- no more interfaces than ends
few_at : (ends : List End) (es : List ℕ) → length (ifaces_at ends es) ≤ length es
few_at ends [] = omega arith
few_at ends (e ∷ es) = by (slice_get ends e) (few_at ends es)
  where
    by : (o : Option End) → length (ifaces_at ends es) ≤ length es → length (with_iface o (ifaces_at ends es)) ≤ suc (length es)
    by None le = omega (arith, le)
    by (Some x) le = omega (arith, le)

pub few_ifaces : (ends : List End) (n : ℕ) (is : List Iface) → is ≡ ifaces_at ends (ends_of ends n) → length (ends_of ends n) ≤ 16 → length is ≤ 16
few_ifaces ends n is e few = let le = few_at ends (ends_of ends n) in let same : length is ≡ length (ifaces_at ends (ends_of ends n)) = ap length e in omega (arith, le, same, few)
