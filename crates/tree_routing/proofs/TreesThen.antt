-- The trees that have a hop, with a tree in the place of another.
use Rattle.std.specs.Prelude.{◌≡◌, ℕ, Bool, true, false, not, ◌&&◌, ◌==◌, List, [], ◌∷◌, ◌++◌, length, map as each, refl}
use Rattle.std.specs.List.{filter}
use Rattle.std.specs.Ordering.{eq_by_cmp}
use Rattle.std.proofs.Common.{sym, ap, subst, ◌∙◌, inl, ⊎_elim, arith}
use Rattle.rsvp_base.specs.Members.{In}
use Rattle.rsvp_base.specs.Rows.{AreRows, table_of, LacksRowAt}
use Rattle.rsvp_base.specs.Sets.{Set, with_key}
use Rattle.rsvp_base.specs.Table.{has, without}
use Rattle.rsvp_base.specs.declared.addr.Addr.{Addr}
use Rattle.rsvp_base.proofs.Counts.{in_set_of, set_of_in}
use Rattle.rsvp_base.proofs.Members.{in_left, in_right, in_append, in_each, to_each, in_filter, to_filter}
use Rattle.rsvp_base.proofs.Rows.{are_rows, table_is}
use Rattle.rsvp_base.proofs.SetLaws.{and_both, and_made, or_either, or_left, or_right, has-with_key, has-kept, same_set}
use Rattle.rsvp_base.proofs.Tables.{either, tied_same, tied_self, without_absent}
use Rattle.tree_model.specs.declared.hops.LinkHop.{LinkHop}
use Rattle.tree_model.specs.declared.hops.TreeHop.{TreeHop}
use Rattle.tree_model.specs.Trees.{key_of, of_group, of_tree, tree_keys, trees_of}
use Rattle.tree_model.proofs.Following.{addr_itself, addr_same, number_same, same_number}
use Rattle.tree_routing.specs.Reroutes.{moved, tree_hop}
use Rattle.tree_routing.specs.Routes.{as_row, IsWithoutTree, IsTreePut}
use Rattle.tree_routing.proofs.HopLaws.{alike}
use Rattle.tree_routing.proofs.KeyLaws.{set_at, trees_are}

-- ---- a tree that is not there
pub not_there : (xs : List (Addr × Addr)) (t : Addr × Addr) (i : ℕ) → LacksRowAt tree_keys as_row xs t i → IsWithoutTree xs t xs
not_there xs t i l up = sym (ap (λ (m : Set tree_keys). m.rows) (without_absent tree_keys (table_of tree_keys as_row xs up) t l.absent))

-- ---- the list of a set of trees
as_rows : (es : List ((Addr × Addr) × Unit {0})) → each as_row (each (λ e. e.0) es) ≡ es
as_rows [] = refl
as_rows (e ∷ es) = ap (λ (rows : List ((Addr × Addr) × Unit {0})). e ∷ rows) (as_rows es)

rows_told : (xs : List (Addr × Addr)) (rs : List TreeHop) → xs ≡ trees_of rs → each as_row xs ≡ (set_at rs).rows
rows_told xs rs e = ap (each as_row) e ∙ as_rows (set_at rs).rows

pub trees_up : (xs ys : List (Addr × Addr)) (rs : List TreeHop) → ys ≡ xs → xs ≡ trees_of rs → AreRows tree_keys as_row ys
trees_up xs ys rs is e = are_rows tree_keys as_row ys (set_at rs) (rows_told ys rs (is ∙ e))

-- whether there is one
abbrev has_some : List LinkHop → Bool
has_some [] = false
has_some (h ∷ hs) = true

some_is : (hs : List LinkHop) → not (length hs == 0) ≡ has_some hs
some_is [] = ap not (number_same 0 0 refl)
some_is (h ∷ hs) = either (length (h ∷ hs) == 0) (λ t. let z = same_number (length (h ∷ hs)) 0 t in absurd (omega arith)) (λ f. ap not f)

module _ (g s : Addr) (rs : List TreeHop) where
  abbrev tree : Addr × Addr
  tree = (g, s)

  abbrev others : List TreeHop
  others = filter (λ r. not (of_tree g s r)) rs

  its_key : (r : TreeHop) → of_tree g s r ≡ true → key_of r ≡ tree
  its_key r e =
      let both = and_both (of_group g r) _ e in
      λ i. (addr_same r.group g both.0 i, addr_same r.source s both.1 i)

  key_told : (r : TreeHop) → key_of r ≡ tree → of_tree g s r ≡ true
  key_told r e =
      subst (λ (k : Addr × Addr). ((k.0.0 == g.0) && (k.1.0 == s.0)) ≡ true) (sym e) (and_made (g.0 == g.0) (s.0 == s.0) (addr_itself g) (addr_itself s))

  -- with hops
  with_some : (h : LinkHop) (hs : List LinkHop) → with_key (set_at rs) tree ≡ set_at (moved g s (h ∷ hs) rs)
  with_some h hs = same_set tree_keys (with_key (set_at rs) tree) (set_at (moved g s (h ∷ hs) rs)) (λ q. alike _ _ (λ e. to q e) (λ e. back q e))
    where
      here : (q : Addr × Addr) → q ≡ tree → has (set_at (moved g s (h ∷ hs) rs)) q ≡ true
      here q e =
          in_set_of tree_keys (each key_of (moved g s (h ∷ hs) rs)) q
          (subst (λ (k : Addr × Addr). In k (each key_of (moved g s (h ∷ hs) rs))) (sym e) (to_each key_of (tree_hop g s h) (moved g s (h ∷ hs) rs) (in_right (tree_hop g s h) others (each (tree_hop g s) (h ∷ hs)) (inl refl))))

      old : (q : Addr × Addr) → has (set_at rs) q ≡ true → has (set_at (moved g s (h ∷ hs) rs)) q ≡ true
      old q e =
          let r = in_each key_of q rs (set_of_in tree_keys (each key_of rs) q e) in
          either (of_tree g s r.0) (λ t. here q (r.2 ∙ its_key r.0 t))
          (λ f. in_set_of tree_keys (each key_of (moved g s (h ∷ hs) rs)) q
          (subst (λ (k : Addr × Addr). In k (each key_of (moved g s (h ∷ hs) rs))) (sym r.2)
          (to_each key_of r.0 (moved g s (h ∷ hs) rs) (in_left r.0 others (each (tree_hop g s) (h ∷ hs)) (to_filter (λ (r : TreeHop). not (of_tree g s r)) r.0 rs r.1 (ap not f))))))

      to : (q : Addr × Addr) → has (with_key (set_at rs) tree) q ≡ true → has (set_at (moved g s (h ∷ hs) rs)) q ≡ true
      to q e =
          ⊎_elim (λ (t : eq_by_cmp tree_keys.cmp q tree ≡ true). here q (tied_same tree_keys q tree t)) (λ (t : has (set_at rs) q ≡ true). old q t)
          (or_either (eq_by_cmp tree_keys.cmp q tree) (has (set_at rs) q) (sym (has-with_key tree_keys (set_at rs) tree q) ∙ e))

      back : (q : Addr × Addr) → has (set_at (moved g s (h ∷ hs) rs)) q ≡ true → has (with_key (set_at rs) tree) q ≡ true
      back q e =
          let r = in_each key_of q (moved g s (h ∷ hs) rs) (set_of_in tree_keys (each key_of (moved g s (h ∷ hs) rs)) q e) in
          has-with_key tree_keys (set_at rs) tree q
          ∙ ⊎_elim (λ (j : In r.0 others).
          or_right (eq_by_cmp tree_keys.cmp q tree) (has (set_at rs) q) (in_set_of tree_keys (each key_of rs) q
          (subst (λ (k : Addr × Addr). In k (each key_of rs)) (sym r.2) (to_each key_of r.0 rs (in_filter (λ (r : TreeHop). not (of_tree g s r)) r.0 rs j).0))))
          (λ (j : In r.0 (each (tree_hop g s) (h ∷ hs))).
          let x = in_each (tree_hop g s) r.0 (h ∷ hs) j in
          or_left (eq_by_cmp tree_keys.cmp q tree) (has (set_at rs) q)
          (subst (λ (k : Addr × Addr). eq_by_cmp tree_keys.cmp k tree ≡ true) (sym (r.2 ∙ ap key_of x.2)) (tied_self tree_keys tree)))
          (in_append r.0 others (each (tree_hop g s) (h ∷ hs)) r.1)

  -- without any
  none_append : (xs : List TreeHop) → xs ++ [] ≡ xs
  none_append [] = refl
  none_append (x ∷ xs) = ap (λ (ys : List TreeHop). x ∷ ys) (none_append xs)

  with_none : without (set_at rs) tree ≡ set_at (moved g s [] rs)
  with_none = same_set tree_keys (without (set_at rs) tree) (set_at others) (λ q. alike _ _ (λ e. to q e) (λ e. back q e)) ∙ ap set_at (sym (none_append others))
    where
      untied : (b : Bool) → not b ≡ true → b ≡ true → ⊥
      untied true e f = cc
      untied false e f = cc

      off : (b : Bool) → (b ≡ true → ⊥) → not b ≡ true
      off true ne = absurd (ne refl)
      off false ne = refl

      to : (q : Addr × Addr) → has (without (set_at rs) tree) q ≡ true → has (set_at others) q ≡ true
      to q e =
          let both = and_both (has (set_at rs) q) (not (eq_by_cmp tree_keys.cmp tree q)) (sym (has-kept tree_keys (λ x. not (eq_by_cmp tree_keys.cmp tree x)) (set_at rs) q) ∙ e) in
          let r = in_each key_of q rs (set_of_in tree_keys (each key_of rs) q both.0) in
          let apart : not (of_tree g s r.0) ≡ true =
          off (of_tree g s r.0) (λ t. untied (eq_by_cmp tree_keys.cmp tree q) both.1
          (subst (λ (k : Addr × Addr). eq_by_cmp tree_keys.cmp tree k ≡ true) (sym (r.2 ∙ its_key r.0 t)) (tied_self tree_keys tree))) in
          in_set_of tree_keys (each key_of others) q
          (subst (λ (k : Addr × Addr). In k (each key_of others)) (sym r.2) (to_each key_of r.0 others (to_filter (λ (r : TreeHop). not (of_tree g s r)) r.0 rs r.1 apart)))

      back : (q : Addr × Addr) → has (set_at others) q ≡ true → has (without (set_at rs) tree) q ≡ true
      back q e =
          let r = in_each key_of q others (set_of_in tree_keys (each key_of others) q e) in
          let f = in_filter (λ (r : TreeHop). not (of_tree g s r)) r.0 rs r.1 in
          has-kept tree_keys (λ x. not (eq_by_cmp tree_keys.cmp tree x)) (set_at rs) q
          ∙ and_made (has (set_at rs) q) (not (eq_by_cmp tree_keys.cmp tree q))
          (in_set_of tree_keys (each key_of rs) q (subst (λ (k : Addr × Addr). In k (each key_of rs)) (sym r.2) (to_each key_of r.0 rs f.0)))
          (off (eq_by_cmp tree_keys.cmp tree q) (λ t. untied (of_tree g s r.0) f.1 (key_told r.0 (sym r.2 ∙ sym (tied_same tree_keys tree q t)))))

  pub put_trees : (hs : List LinkHop) (xs ys : List (Addr × Addr)) (some : Bool) → xs ≡ trees_of rs → some ≡ not (length hs == 0) → IsTreePut xs tree some ys → ys ≡ trees_of (moved g s hs rs)
  put_trees hs xs ys some e is put = by hs (subst (λ (b : Bool). IsTreePut xs tree b ys) (is ∙ some_is hs) put)
    where
      rows : each as_row xs ≡ (set_at rs).rows
      rows = rows_told xs rs e

      up : AreRows tree_keys as_row xs
      up = are_rows tree_keys as_row xs (set_at rs) rows

      table : table_of tree_keys as_row xs up ≡ set_at rs
      table = table_is tree_keys as_row xs up (set_at rs) rows

      by : (hs : List LinkHop) → IsTreePut xs tree (has_some hs) ys → ys ≡ trees_of (moved g s hs rs)
      by [] p = trees_are ys (moved g s [] rs) (p up ∙ ap (λ (m : Set tree_keys). (without m tree).rows) table ∙ ap (λ (m : Set tree_keys). m.rows) with_none)
      by (h ∷ hs) p = trees_are ys (moved g s (h ∷ hs) rs) (p up ∙ ap (λ (m : Set tree_keys). (with_key m tree).rows) table ∙ ap (λ (m : Set tree_keys). m.rows) (with_some h hs))
