-- A table of what a function gives at each key, and the merge: look-up, least above its named parts, and below other merges.
use Rattle.std.specs.Prelude.{◌≡◌, ℕ, ◌≤◌, Bool, true, false, cond, ◌&&◌, ◌||◌, Option, Some, None, List, [], ◌∷◌, map as each, sum_by, refl}
use Rattle.std.proofs.Common.{sym, ap, subst, ◌∙◌}
use Rattle.std.specs.List.{list_any}
use Rattle.std.specs.Ordering.{eq_by_cmp}
use Rattle.rsvp_base.specs.declared.part.Part.{Part}
use Rattle.rsvp_base.specs.Keys.{Keys}
use Rattle.rsvp_base.specs.Members.{In}
use Rattle.rsvp_base.specs.Table.{Table, get}
use Rattle.rsvp_base.proofs.Tables.{either, tied_same, tied_self, get-put_in_same, get-put_in_other, same_table}
use Rattle.rsvp_base.proofs.Members.{in_each, to_each, in_filter, to_filter}
use Rattle.rsvp_base.proofs.SetLaws.{and_both, and_made}
use Rattle.rsvp_base.proofs.Counts.{sum_below}
use Rattle.style_rules.specs.Parts.{has_name, part_join, IsPartAtMost}
use Rattle.style_rules.specs.Merge.{put_some, table_at, all_by, those_at, merge_at, merge_of}
use Rattle.style_rules.specs.PartLaws.{part_at_most_itself, part_at_most_along, part_at_most_both_ways, part_join_above_left, part_join_above_right, part_join_least}
use Rattle.style_rules.specs.CutLaws.{named_above}
use Rattle.style_rules.proofs.Folds.{all_keeps, all_above, all_some, some_all}

-- ---- a function at the keys of a list
module _ {K X : Type 0} (o : Keys K) where
  get-put_some : (k : K) (w : Option X) (m : Table o X) (q : K) → eq_by_cmp o.cmp q k ≡ false → get (put_some k w m) q ≡ get m q
  get-put_some k None m q apart = refl
  get-put_some k (Some x) m q apart = get-put_in_other o m k x q apart

  put_some_here : (k : K) (w : Option X) (m : Table o X) → (w ≡ None → get m k ≡ None) → get (put_some k w m) k ≡ w
  put_some_here k None m h = h refl
  put_some_here k (Some x) m h = get-put_in_same o m k x

  if_none : (b : Bool) (w : Option X) → w ≡ None → cond b w None ≡ None
  if_none true w e = e
  if_none false w e = refl

  pub get-table_at : (f : K → Option X) (ks : List K) (q : K) → get (table_at {o = o} f ks) q ≡ cond (list_any (eq_by_cmp o.cmp q) ks) (f q) None
  get-table_at f [] q = refl
  get-table_at f (k ∷ ks) q =
      either (eq_by_cmp o.cmp q k)
      (λ t.
      let here : get (put_some k (f k) (table_at {o = o} f ks)) k ≡ f k = put_some_here k (f k) (table_at {o = o} f ks)
      (λ n. get-table_at f ks k ∙ if_none (list_any (eq_by_cmp o.cmp k) ks) (f k) n) in
      subst (λ (z : K). get (put_some z (f z) (table_at {o = o} f ks)) q ≡ f q) (tied_same o q k t)
      (subst (λ (z : K). get (put_some z (f z) (table_at {o = o} f ks)) z ≡ f z) (sym (tied_same o q k t)) here)
      ∙ sym (ap (λ b. cond (b || list_any (eq_by_cmp o.cmp q) ks) (f q) None) t))
      (λ t. get-put_some k (f k) (table_at {o = o} f ks) q t ∙ get-table_at f ks q ∙ sym (ap (λ b. cond (b || list_any (eq_by_cmp o.cmp q) ks) (f q) None) t))

  -- where f gives nothing at other keys, the table is f
  pub get-table_at_all : (f : K → Option X) (ks : List K) (q : K) → (list_any (eq_by_cmp o.cmp q) ks ≡ false → f q ≡ None) → get (table_at {o = o} f ks) q ≡ f q
  get-table_at_all f ks q none =
      get-table_at f ks q
      ∙ either (list_any (eq_by_cmp o.cmp q) ks) (λ t. ap (λ b. cond b (f q) None) t) (λ t. ap (λ b. cond b (f q) None) t ∙ sym (none t))

-- ---- those of a key
module _ {L K : Type 0} (o : Keys K) (key : L → K) (part : L → Part) where
  pub in_those : (k : K) (l : L) (ls : List L) → In l (those_at o key part k ls) → In l ls × (has_name (part l) ≡ true) × (k ≡ key l)
  in_those k l ls i =
      let r = in_filter (λ z. has_name (part z) && eq_by_cmp o.cmp k (key z)) l ls i in
      let tests = and_both (has_name (part l)) (eq_by_cmp o.cmp k (key l)) r.1 in
      (r.0, tests.0, tied_same o k (key l) tests.1)

  pub to_those : (k : K) (l : L) (ls : List L) → In l ls → has_name (part l) ≡ true → k ≡ key l → In l (those_at o key part k ls)
  to_those k l ls i named e =
      to_filter (λ z. has_name (part z) && eq_by_cmp o.cmp k (key z)) l ls i
      (and_made (has_name (part l)) (eq_by_cmp o.cmp k (key l)) named (ap (λ z. eq_by_cmp o.cmp z (key l)) e ∙ tied_self o (key l)))

  -- none of a key that is the key of none
  pub none_those : (k : K) (ls : List L) → list_any (eq_by_cmp o.cmp k) (each key ls) ≡ false → those_at o key part k ls ≡ []
  none_those k [] h = refl
  none_those k (l ∷ ls) h =
      let parts = or_false (eq_by_cmp o.cmp k (key l)) (list_any (eq_by_cmp o.cmp k) (each key ls)) h in
      ap (λ b. cond (has_name (part l) && b) (l ∷ those_at o key part k ls) (those_at o key part k ls)) parts.0 ∙ dropped (has_name (part l)) ∙ none_those k ls parts.1
    where
      or_false : (a b : Bool) → (a || b) ≡ false → (a ≡ false) × (b ≡ false)
      or_false true b e = absurd (cc)
      or_false false b e = (refl, e)

      dropped : (b : Bool) → cond (b && false) (l ∷ those_at o key part k ls) (those_at o key part k ls) ≡ those_at o key part k ls
      dropped true = refl
      dropped false = refl

  -- ---- the merge
  pub get-merge_of : (ls : List L) (k : K) → get (merge_of o key part ls) k ≡ merge_at o key part k ls
  get-merge_of ls k = get-table_at_all o (λ q. merge_at o key part q ls) (each key ls) k (λ h. ap (λ zs. all_by part_join (each part zs)) (none_those k ls h))

  -- a merged part comes from one that names someone
  pub merge_source : (ls : List L) (k : K) (m : Part) → get (merge_of o key part ls) k ≡ Some m → (l : L) × In l ls × (has_name (part l) ≡ true) × (k ≡ key l)
  merge_source ls k m e =
      let r = some_all part_join (each part (those_at o key part k ls)) m (sym (get-merge_of ls k) ∙ e) in
      let s = in_each part r.0 (those_at o key part k ls) r.1 in
      let t = in_those k s.0 ls s.1 in
      (s.0, t.0, t.1, t.2)

  -- it stands above each of its key that names someone
  pub merge_above : (ls : List L) (l : L) → In l ls → has_name (part l) ≡ true → (m : Part) × (get (merge_of o key part ls) (key l) ≡ Some m) × IsPartAtMost (part l) m
  merge_above ls l i named =
      let there = to_each part l (those_at o key part (key l) ls) (to_those (key l) l ls i named refl) in
      let r = all_some part_join (each part (those_at o key part (key l) ls)) (part l) there in (
        r.0,
        get-merge_of ls (key l) ∙ r.1,
        all_above part_join IsPartAtMost part_at_most_itself part_at_most_along part_join_above_left part_join_above_right
            (each part (those_at o key part (key l) ls)) r.0 r.1 (part l) there,
      )

  -- what two parts together keep, the merge has of its key's
  pub merge_keeps : (P : Part → Type 0) → ((a b : Part) → P a → P b → P (part_join a b)) → (ls : List L) (k : K) (m : Part) → get (merge_of o key part ls) k ≡ Some m
      → ((l : L) → In l ls → has_name (part l) ≡ true → k ≡ key l → P (part l)) → P m
  merge_keeps P step ls k m e every =
      all_keeps part_join P step (each part (those_at o key part k ls)) m (sym (get-merge_of ls k) ∙ e)
      (λ p i. let s = in_each part p (those_at o key part k ls) i in let t = in_those k s.0 ls s.1 in subst P (sym s.2) (every s.0 t.0 t.1 t.2))

  -- and is the least
  pub merge_least : (ls : List L) (k : K) (m c : Part) → get (merge_of o key part ls) k ≡ Some m → ((l : L) → In l ls → has_name (part l) ≡ true → k ≡ key l → IsPartAtMost (part l) c)
      → IsPartAtMost m c
  merge_least ls k m c e every = merge_keeps (λ p. IsPartAtMost p c) (λ a b h g. part_join_least a b c h g) ls k m e every

  pub merge_named : (ls : List L) (k : K) (m : Part) → get (merge_of o key part ls) k ≡ Some m → has_name m ≡ true
  merge_named ls k m e =
      let s = merge_source ls k m e in
      let a = merge_above ls s.0 s.1 s.2 in
      let same : Some a.0 ≡ Some m = sym a.1 ∙ ap (get (merge_of o key part ls)) (sym s.3) ∙ e in
      let is : a.0 ≡ m = cc in
      named_above (part s.0) m (subst (IsPartAtMost (part s.0)) is a.2) s.2

  -- a table that has these three of a list is its merge
  pub merge_alone : (ls : List L) (t : Table o Part)
      → ((k : K) (m : Part) → get t k ≡ Some m → (l : L) × In l ls × (has_name (part l) ≡ true) × (k ≡ key l))
      → ((l : L) → In l ls → has_name (part l) ≡ true → (m : Part) × (get t (key l) ≡ Some m) × IsPartAtMost (part l) m)
      → ((k : K) (m c : Part) → get t k ≡ Some m → ((l : L) → In l ls → has_name (part l) ≡ true → k ≡ key l → IsPartAtMost (part l) c) → IsPartAtMost m c)
      → t ≡ merge_of o key part ls
  merge_alone ls t source above least = same_table o t (merge_of o key part ls) (λ k. by k (get t k) refl (get (merge_of o key part ls) k) refl)
    where
      found_above : (k : K) (l : L) → In l ls → has_name (part l) ≡ true → k ≡ key l → (m : Part) × (get t k ≡ Some m) × IsPartAtMost (part l) m
      found_above k l i named e = let r = above l i named in (r.0, ap (get t) e ∙ r.1, r.2)

      merged_above : (k : K) (l : L) → In l ls → has_name (part l) ≡ true → k ≡ key l → (m : Part) × (get (merge_of o key part ls) k ≡ Some m) × IsPartAtMost (part l) m
      merged_above k l i named e = let r = merge_above ls l i named in (r.0, ap (get (merge_of o key part ls)) e ∙ r.1, r.2)

      is_it : (p : Part) (w : Option Part) (x y : Part) → w ≡ Some x → w ≡ Some y → IsPartAtMost p x → IsPartAtMost p y
      is_it p w x y e f h = let is : x ≡ y = cc in subst (IsPartAtMost p) is h

      by : (k : K) (v : Option Part) → get t k ≡ v → (w : Option Part) → get (merge_of o key part ls) k ≡ w → get t k ≡ get (merge_of o key part ls) k
      by k None e None f = e ∙ sym f
      by k None e (Some y) f = let s = merge_source ls k y f in let r = found_above k s.0 s.1 s.2 s.3 in let z : None ≡ Some r.0 = sym e ∙ r.1 in absurd (cc)
      by k (Some x) e None f = let s = source k x e in let r = merged_above k s.0 s.1 s.2 s.3 in let z : None ≡ Some r.0 = sym f ∙ r.1 in absurd (cc)
      by k (Some x) e (Some y) f =
          let below : IsPartAtMost x y = least k x y e (λ l i named at. let r = merged_above k l i named at in is_it (part l) (get (merge_of o key part ls) k) r.0 y r.1 f r.2) in
          let over : IsPartAtMost y x = merge_least ls k y x f (λ l i named at. let r = found_above k l i named at in is_it (part l) (get t k) r.0 x r.1 e r.2) in
          e ∙ ap Some (part_at_most_both_ways x y below over) ∙ sym f

-- ---- of what f gives of each
module _ {A L K : Type 0} (o : Keys K) (key : L → K) (part : L → Part) (f : A → L) where
  pub those_at-each : (k : K) (xs : List A) → those_at o key part k (each f xs) ≡ each f (those_at o (λ x. key (f x)) (λ x. part (f x)) k xs)
  those_at-each k [] = refl
  those_at-each k (x ∷ xs) =
      elim (has_name (part (f x)) && eq_by_cmp o.cmp k (key (f x)))
      as (λ b. cond b (f x ∷ those_at o key part k (each f xs)) (those_at o key part k (each f xs))
      ≡ each f (cond b (x ∷ those_at o (λ z. key (f z)) (λ z. part (f z)) k xs) (those_at o (λ z. key (f z)) (λ z. part (f z)) k xs)))
      [ true ↦ ap (λ zs. f x ∷ zs) (those_at-each k xs) | false ↦ those_at-each k xs ]

  each-each : {B : Type 0} (g : L → B) (xs : List A) → each g (each f xs) ≡ each (λ x. g (f x)) xs
  each-each g [] = refl
  each-each g (x ∷ xs) = ap (λ zs. g (f x) ∷ zs) (each-each g xs)

  pub merge_of-each : (xs : List A) → merge_of o key part (each f xs) ≡ merge_of o (λ x. key (f x)) (λ x. part (f x)) xs
  merge_of-each xs =
      same_table o _ _ (λ k. get-merge_of o key part (each f xs) k ∙ ap (λ zs. all_by part_join (each part zs)) (those_at-each k xs)
      ∙ ap (all_by part_join) (each-each part (those_at o (λ x. key (f x)) (λ x. part (f x)) k xs)) ∙ sym (get-merge_of o (λ x. key (f x)) (λ x. part (f x)) xs k))

-- ---- one merge below another
module _ {L G K : Type 0} (o : Keys K) (key : L → K) (part : L → Part) (key' : G → K) (part' : G → Part) where
  -- each of the one that names someone stands under one of the other
  abbrev pub EachUnder : List L → List G → Type 0
  EachUnder ls gs = (l : L) → In l ls → has_name (part l) ≡ true → (g : G) × In g gs × (key l ≡ key' g) × IsPartAtMost (part l) (part' g)

  -- fewer and smaller parts have a smaller merge
  pub merge_below : (ls : List L) (gs : List G) → EachUnder ls gs → (k : K) (x : Part) → get (merge_of o key part ls) k ≡ Some x
      → (y : Part) × (get (merge_of o key' part' gs) k ≡ Some y) × IsPartAtMost x y
  merge_below ls gs under k x e =
      let s = merge_source o key part ls k x e in
      let first = above k s.0 s.1 s.2 s.3 in
      (first.0, first.1, merge_least o key part ls k x first.0 e (λ l i named at. is_it (part l) (above k l i named at) first.0 first.1))
    where
      above : (k : K) (l : L) → In l ls → has_name (part l) ≡ true → k ≡ key l → (y : Part) × (get (merge_of o key' part' gs) k ≡ Some y) × IsPartAtMost (part l) y
      above k l i named at =
          let g = under l i named in
          let r = merge_above o key' part' gs g.0 g.1 (named_above (part l) (part' g.0) g.3 named) in
          (r.0, ap (get (merge_of o key' part' gs)) (at ∙ g.2) ∙ r.1, part_at_most_along (part l) (part' g.0) r.0 g.3 r.2)

      is_it : (p : Part) → ((y : Part) × (get (merge_of o key' part' gs) k ≡ Some y) × IsPartAtMost p y) → (z : Part) → get (merge_of o key' part' gs) k ≡ Some z → IsPartAtMost p z
      is_it p r z f = let same : Some r.0 ≡ Some z = sym r.1 ∙ f in let is : r.0 ≡ z = cc in subst (IsPartAtMost p) is r.2

  -- and no larger a sum of what follows the order
  pub sums_below : (v : Part → ℕ) → ((a b : Part) → IsPartAtMost a b → v a ≤ v b) → (ls : List L) (gs : List G) → EachUnder ls gs
      → sum_by (λ e. v e.1) (merge_of o key part ls).rows ≤ sum_by (λ e. v e.1) (merge_of o key' part' gs).rows
  sums_below v follows ls gs under =
      sum_below o (λ e. v e.1) (λ e. v e.1) (merge_of o key part ls) (merge_of o key' part' gs)
      (λ k x e. let r = merge_below ls gs under k x e in (r.0, r.1, follows x r.0 r.2))

-- two lists of which each lies under the other have one merge
pub merges_same : {L G K : Type 0} (o : Keys K) (key : L → K) (part : L → Part) (key' : G → K) (part' : G → Part) (ls : List L) (gs : List G)
    → EachUnder o key part key' part' ls gs → EachUnder o key' part' key part gs ls → merge_of o key part ls ≡ merge_of o key' part' gs
merges_same {L} {G} {K} o key part key' part' ls gs under over = same_table o (merge_of o key part ls) (merge_of o key' part' gs)
    (λ k. by k (get (merge_of o key part ls) k) refl (get (merge_of o key' part' gs) k) refl)
  where
    by : (k : K) (v : Option Part) → get (merge_of o key part ls) k ≡ v → (w : Option Part) → get (merge_of o key' part' gs) k ≡ w → get (merge_of o key part ls) k ≡ get (merge_of o key' part' gs) k
    by k None e None f = e ∙ sym f
    by k None e (Some y) f = let r = merge_below o key' part' key part gs ls over k y f in let z : None ≡ Some r.0 = sym e ∙ r.1 in absurd (cc)
    by k (Some x) e None f = let r = merge_below o key part key' part' ls gs under k x e in let z : None ≡ Some r.0 = sym f ∙ r.1 in absurd (cc)
    by k (Some x) e (Some y) f =
        let r = merge_below o key part key' part' ls gs under k x e in
        let s = merge_below o key' part' key part gs ls over k y f in
        let at_y : r.0 ≡ y = cc (r.1, f) in
        let at_x : s.0 ≡ x = cc (s.1, e) in
        e ∙ ap Some (part_at_most_both_ways x y (subst (IsPartAtMost x) at_y r.2) (subst (IsPartAtMost y) at_x s.2)) ∙ sym f
