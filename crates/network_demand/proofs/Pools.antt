-- What is asked at nodes grows with each local want and with the want of each hop.
use Rattle.std.specs.Prelude.{◌≡◌, ◌↔◌, ℕ, ◌+◌, ◌-◌, ◌<◌, ◌≤◌, Bool, true, false, cond, ◌&&◌, ◌==◌, List, [], ◌∷◌, ◌++◌, map as each, length, replicate, Result, Ok, Err, OnOk, IsErr, refl}
use Rattle.std.specs.Prelude.{slice_set, slice_index_or, if◌then◌else◌}
use Rattle.std.specs.List.{filter, flat_map}
use Rattle.std.specs.Ordering.{eq_by_cmp}
use Rattle.std.proofs.Common.{zero, suc, sym, ap, subst, ◌∙◌, take, drop, arith, append_assoc}
use Rattle.std.proofs.lemmas.List.{map-append}
use Rattle.rsvp_base.specs.Members.{In}
use Rattle.rsvp_base.specs.declared.addr.Addr.{Addr}
use Rattle.rsvp_base.specs.declared.part.Part.{Part}
use Rattle.rsvp_base.specs.declared.session.Sender.{Sender}
use Rattle.rsvp_base.specs.declared.session.Session.{Session}
use Rattle.rsvp_base.specs.declared.style.StyleKind.{StyleKind}
use Rattle.rsvp_base.specs.Orders.{sessions, styles, senders, Names}
use Rattle.rsvp_base.specs.Sets.{with_key, with_keys}
use Rattle.rsvp_base.specs.Table.{size, has, values}
use Rattle.rsvp_base.proofs.SetLaws.{and_made, size-with_key}
use Rattle.rsvp_base.proofs.Tables.{either}
use Rattle.style_rules.specs.Merge.{merge, PartTable}
use Rattle.tree_model.specs.declared.hops.LinkHop.{LinkHop}
use Rattle.tree_model.specs.Networks.{Net, node_of}
use Rattle.tree_model.specs.Trees.{goes_out_of}
use Rattle.tree_model.specs.Ranks.{followers, IsLoopFree}
use Rattle.tree_model.proofs.Following.{same_number, number_same, addr_same}
use Rattle.tree_routing.specs.declared.group_hop.GroupHop.{GroupHop}
use Rattle.tree_routing.specs.Order.{AreByRank}
use Rattle.tree_model.specs.declared.locals.LocalWant.{LocalWant}
use Rattle.tree_model.specs.Wants.{Locals, names, is_wanted_at, want}
use Rattle.network_demand.specs.declared.hop_want.HopWant.{HopWant}
use Rattle.network_demand.specs.Steps.{widened, local_parts, local_at, wants_at, asked_at, cuts, hops_in, at_node, hop_wants}
use Rattle.network_demand.proofs.WantSteps.{want_step, followers_before}

-- ---- lists
pub on_ok : {T E : Type 0} {A B : Type 0} (r : Result T E) → (A → B) → OnOk r A → OnOk r B
on_ok (Ok t) f a = f a
on_ok (Err e) f a = tt

pub append_none : {X : Type 0} (xs : List X) → xs ++ [] ≡ xs
append_none [] = refl
append_none (x ∷ xs) = ap (λ zs. x ∷ zs) (append_none xs)

take_suc : {X : Type 0} (xs : List X) (i : ℕ) (d x : X) → i < length xs → x ≡ slice_index_or xs i d → take (suc i) xs ≡ take i xs ++ x ∷ []
take_suc [] i d x lt is = absurd (omega arith)
take_suc (y ∷ ys) zero d x lt is = ap (λ z. z ∷ []) (sym is)
take_suc (y ∷ ys) (suc i) d x lt is = ap (λ zs. y ∷ zs) (take_suc ys i d x (omega arith) is)

pub take_more : {X : Type 0} (xs : List X) (i : ℕ) (d x : X) → i < length xs → x ≡ slice_index_or xs i d → take (i + 1) xs ≡ take i xs ++ x ∷ []
take_more xs i d x lt is = let e : i + 1 ≡ suc i = omega arith in ap (λ k. take k xs) e ∙ take_suc xs i d x lt is

drop_suc : {X : Type 0} (xs : List X) (i : ℕ) (d x : X) → i < length xs → x ≡ slice_index_or xs i d → drop i xs ≡ x ∷ drop (suc i) xs
drop_suc [] i d x lt is = absurd (omega arith)
drop_suc (y ∷ ys) zero d x lt is = ap (λ z. z ∷ ys) (sym is)
drop_suc (y ∷ ys) (suc i) d x lt is = drop_suc ys i d x (omega arith) is

pub drop_one : {X : Type 0} (xs : List X) (i : ℕ) (d x : X) → i < length xs → x ≡ slice_index_or xs i d → drop i xs ≡ x ∷ drop (i + 1) xs
drop_one xs i d x lt is = let e : suc i ≡ i + 1 = omega arith in drop_suc xs i d x lt is ∙ ap (λ k. x ∷ drop k xs) e

pub filter_append : {X : Type 0} (p : X → Bool) (xs ys : List X) → filter p (xs ++ ys) ≡ filter p xs ++ filter p ys
filter_append p [] ys = refl
filter_append {X} p (x ∷ xs) ys = by (p x) (filter_append p xs ys)
  where
    by : (b : Bool) → filter p (xs ++ ys) ≡ filter p xs ++ filter p ys → (if b then x ∷ filter p (xs ++ ys) else filter p (xs ++ ys)) ≡ (if b then x ∷ filter p xs else filter p xs) ++ filter p ys
    by true rest = ap (λ zs. x ∷ zs) rest
    by false rest = rest

pub flat_append : {X Y : Type 0} (f : X → List Y) (xs ys : List X) → flat_map f (xs ++ ys) ≡ flat_map f xs ++ flat_map f ys
flat_append f [] ys = refl
flat_append f (x ∷ xs) ys = ap (λ zs. f x ++ zs) (flat_append f xs ys) ∙ sym (append_assoc (f x) (flat_map f xs) (flat_map f ys))

-- ---- what stands for each node
set_there : {X : Type 0} (all : List (List X)) (m : ℕ) (v : List X) → m < length all → at_node (slice_set all m v) m ≡ v
set_there [] m v lt = absurd (omega arith)
set_there (x ∷ xs) zero v lt = refl
set_there (x ∷ xs) (suc m) v lt = set_there xs m v (omega arith)

set_elsewhere : {X : Type 0} (all : List (List X)) (m n : ℕ) (v : List X) → (m ≡ n → ⊥) → at_node (slice_set all m v) n ≡ at_node all n
set_elsewhere [] m n v ne = refl
set_elsewhere (x ∷ xs) zero zero v ne = absurd (ne refl)
set_elsewhere (x ∷ xs) zero (suc n) v ne = refl
set_elsewhere (x ∷ xs) (suc m) zero v ne = refl
set_elsewhere (x ∷ xs) (suc m) (suc n) v ne = set_elsewhere xs m n v (λ e. ne (ap suc e))

pub length_set : {X : Type 0} (xs : List X) (m : ℕ) (v : X) → length (slice_set xs m v) ≡ length xs
length_set [] m v = refl
length_set (x ∷ xs) zero v = refl
length_set (x ∷ xs) (suc m) v = ap suc (length_set xs m v)

different : (a b : ℕ) → (a == b) ≡ false → a ≡ b → ⊥
different a b f e = let t = number_same a b e in let z : true ≡ false = sym t ∙ f in cc

-- a node has more, the others what they had
added : {X : Type 0} (all : List (List X)) (m : ℕ) (v : List X) (n : ℕ) → m < length all → at_node (slice_set all m (at_node all m ++ v)) n ≡ at_node all n ++ (if m == n then v else [])
added {X} all m v n lt = by (m == n) refl
  where
    by : (b : Bool) → (m == n) ≡ b → at_node (slice_set all m (at_node all m ++ v)) n ≡ at_node all n ++ (if b then v else [])
    by true e = let s = same_number m n e in subst (λ k. at_node (slice_set all m (at_node all m ++ v)) k ≡ at_node all k ++ v) s (set_there all m (at_node all m ++ v) lt)
    by false e = set_elsewhere all m n (at_node all m ++ v) (different m n e) ∙ sym (append_none (at_node all n))

pub rest_more : {X : Type 0} (x : X) (n k : ℕ) → k < n → replicate (n - k) x ≡ x ∷ replicate (n - (k + 1)) x
rest_more x n k lt = let e : n - k ≡ suc (n - (k + 1)) = omega arith in ap (λ m. replicate m x) e

pub none_at : {X : Type 0} (k n : ℕ) → at_node {X = X} (replicate k []) n ≡ []
none_at zero n = refl
none_at (suc k) zero = refl
none_at {X = X} (suc k) (suc n) = none_at {X = X} k n

pub length_replicate : {X : Type 0} (n : ℕ) (x : X) → length (replicate n x) ≡ n
length_replicate zero x = refl
length_replicate (suc n) x = ap suc (length_replicate n x)

-- ---- local wants
module _ (st : StyleKind) (s : Session) (all : Names) (w : LocalWant) where
  wanted_more : (n : ℕ) (rest : List LocalWant) (b : Bool) → is_wanted_at st s n w ≡ b → local_parts st s all n (w ∷ rest)
      ≡ (if b then widened st all w.part ∷ [] else []) ++ local_parts st s all n rest
  wanted_more n rest b e =
      ap (λ (t : Bool). each (λ (x : LocalWant). widened st all x.part) (if t then w ∷ filter (is_wanted_at st s n) rest else filter (is_wanted_at st s n) rest)) e ∙ by b
    where
      by : (b : Bool) → each (λ (x : LocalWant). widened st all x.part) (if b then w ∷ filter (is_wanted_at st s n) rest else filter (is_wanted_at st s n) rest)
          ≡ (if b then widened st all w.part ∷ [] else []) ++ local_parts st s all n rest
      by true = refl
      by false = refl

  pub asked_more : (old new : List (List Part)) (p : Part) → w.node < length old → p ≡ widened st all w.part → eq_by_cmp sessions.cmp s w.session ≡ true → eq_by_cmp styles.cmp st w.style ≡ true
      → new ≡ slice_set old w.node (at_node old w.node ++ p ∷ [])
      → (n : ℕ) (rest : List LocalWant) → at_node new n ++ local_parts st s all n rest ≡ at_node old n ++ local_parts st s all n (w ∷ rest)
  asked_more old new p lt is a b e n rest =
      ap (λ xs. at_node xs n ++ local_parts st s all n rest) (e ∙ ap (λ q. slice_set old w.node (at_node old w.node ++ q ∷ [])) is)
      ∙ ap (λ xs. xs ++ local_parts st s all n rest) (added old w.node (widened st all w.part ∷ []) n lt)
      ∙ append_assoc (at_node old n) (if w.node == n then widened st all w.part ∷ [] else []) (local_parts st s all n rest)
      ∙ ap (λ xs. at_node old n ++ xs) (sym (wanted_more n rest (w.node == n) wanted))
    where
      wanted : is_wanted_at st s n w ≡ (w.node == n)
      wanted = by (w.node == n)
        where
          by : (t : Bool) → (t && (eq_by_cmp sessions.cmp s w.session && eq_by_cmp styles.cmp st w.style)) ≡ t
          by true = and_made _ _ a b
          by false = refl

  pub asked_same : (xs : List Part) → (eq_by_cmp sessions.cmp s w.session && eq_by_cmp styles.cmp st w.style) ≡ false → (n : ℕ) (rest : List LocalWant)
      → xs ++ local_parts st s all n rest ≡ xs ++ local_parts st s all n (w ∷ rest)
  asked_same xs f n rest = ap (λ ys. xs ++ ys) (sym (wanted_more n rest false unwanted))
    where
      unwanted : is_wanted_at st s n w ≡ false
      unwanted = by (w.node == n)
        where
          by : (t : Bool) → (t && (eq_by_cmp sessions.cmp s w.session && eq_by_cmp styles.cmp st w.style)) ≡ false
          by true = f
          by false = refl

-- ---- names that are collected
module _ (f : Sender → Sender) (p : Sender → Bool) where
  pub names_with : (m : Names) (x : Sender) (xs : List Sender) → p x ≡ true → with_keys (with_key m (f x)) (each f (filter p xs)) ≡ with_keys m (each f (filter p (x ∷ xs)))
  names_with m x xs t = sym (ap (λ (b : Bool). with_keys m (each f (if b then x ∷ filter p xs else filter p xs))) t)

  pub names_without : (m : Names) (x : Sender) (xs : List Sender) → p x ≡ false → with_keys m (each f (filter p xs)) ≡ with_keys m (each f (filter p (x ∷ xs)))
  names_without m x xs t = sym (ap (λ (b : Bool). with_keys m (each f (if b then x ∷ filter p xs else filter p xs))) t)

pub one_name : (f : Sender → Sender) (m : Names) (xs : List Sender) (i : ℕ) (d x : Sender) → i < length xs → x ≡ slice_index_or xs i d
    → with_keys (with_key m (f x)) (each f (drop (i + 1) xs)) ≡ with_keys m (each f (drop i xs))
one_name f m xs i d x lt is = sym (ap (λ ys. with_keys m (each f ys)) (drop_one xs i d x lt is))

size_more : (m : Names) (x : Sender) → size (with_key m x) ≤ size m + 1
size_more m x =
    let grown = size-with_key senders m x in
    either (has m x) (λ t. let e = grown ∙ ap (λ b. cond b (size m) (size m + 1)) t in omega arith) (λ t. let e = grown ∙ ap (λ b. cond b (size m) (size m + 1)) t in omega arith)

-- there is room for one name more than there were senders
pub insert_more : {T E : Type 0} (r : Result T E) (old new : Names) (x : Sender) (i : ℕ) → OnOk r (new ≡ with_key old x) → IsErr r ↔ (16 < size (with_key old x)) → size old ≤ i → i < 16
    → (new ≡ with_key old x) × (size new ≤ i + 1)
insert_more (Ok t) old new x i ok full few lt = let a = size_more old x in let b = ap size ok in (ok, omega arith)
insert_more (Err e) old new x i ok full few lt = let a = size_more old x in absurd (let z = full.0 refl in omega arith)

-- ---- hops
module _ (st : StyleKind) (net : Net) (l : Locals) (s : Session) where
  wants_more : (hs : List LinkHop) (h : LinkHop) (n : ℕ) → wants_at st net l s (hs ++ h ∷ []) n ≡ wants_at st net l s hs n ++ (if node_of net.ends h.from == n then values (want st net l s h) else [])
  wants_more hs h n =
      ap (flat_map (λ h. values (want st net l s h))) (filter_append (goes_out_of net.ends n) hs (h ∷ []))
      ∙ flat_append (λ h. values (want st net l s h)) (filter (goes_out_of net.ends n) hs) (filter (goes_out_of net.ends n) (h ∷ []))
      ∙ ap (λ ys. wants_at st net l s hs n ++ ys) (by (node_of net.ends h.from == n))
    where
      by : (b : Bool) → flat_map (λ h. values (want st net l s h)) (if b then h ∷ [] else []) ≡ (if b then values (want st net l s h) else [])
      by true = append_none (values (want st net l s h))
      by false = refl

  module _ (order : List GroupHop) (i : ℕ) (d x : GroupHop) (lt : i < length order) (is : x ≡ slice_index_or order i d) where
    hops_split : hops_in s.group (take (i + 1) order) ≡ hops_in s.group (take i order) ++ hops_in s.group (x ∷ [])
    hops_split =
        ap (hops_in s.group) (take_more order i d x lt is) ∙ ap (each (λ (y : GroupHop). y.hop)) (filter_append (λ (y : GroupHop). y.group.0 == s.group.0) (take i order) (x ∷ []))
        ∙ map-append (λ (y : GroupHop). y.hop) (filter (λ (y : GroupHop). y.group.0 == s.group.0) (take i order)) (filter (λ (y : GroupHop). y.group.0 == s.group.0) (x ∷ []))

    one_hop : (b : Bool) → (x.group.0 == s.group.0) ≡ b → hops_in s.group (x ∷ []) ≡ (if b then x.hop ∷ [] else [])
    one_hop b e = ap (λ (t : Bool). each (λ (y : GroupHop). y.hop) (if t then x ∷ [] else [])) e ∙ by b
      where
        by : (b : Bool) → each (λ (y : GroupHop). y.hop) (if b then x ∷ [] else []) ≡ (if b then x.hop ∷ [] else [])
        by true = refl
        by false = refl

    pub hops_more : (x.group.0 == s.group.0) ≡ true → hops_in s.group (take (i + 1) order) ≡ hops_in s.group (take i order) ++ x.hop ∷ []
    hops_more t = hops_split ∙ ap (λ ys. hops_in s.group (take i order) ++ ys) (one_hop true t)

    pub hops_same : (x.group.0 == s.group.0) ≡ false → hops_in s.group (take (i + 1) order) ≡ hops_in s.group (take i order)
    hops_same t = hops_split ∙ ap (λ ys. hops_in s.group (take i order) ++ ys) (one_hop false t) ∙ append_none (hops_in s.group (take i order))

    pub wants_then : (x.group.0 == s.group.0) ≡ true → (all more : List HopWant) (p : PartTable) → all ≡ hop_wants st net l s (take i order) → p ≡ want st net l s x.hop
        → more ≡ all ++ record { hop = x.hop; parts = p } ∷ [] → more ≡ hop_wants st net l s (take (i + 1) order)
    wants_then t all more p e f g =
        g ∙ (λ j. e j ++ record { hop = x.hop; parts = f j } ∷ [])
        ∙ sym (ap (each (λ (h : LinkHop). record { hop = h; parts = want st net l s h })) (hops_more t)
        ∙ map-append (λ (h : LinkHop). record { hop = h; parts = want st net l s h }) (hops_in s.group (take i order)) (x.hop ∷ []))

    module _ (free : IsLoopFree net) (by : AreByRank net order) (t : (x.group.0 == s.group.0) ≡ true) (asked : List (List Part))
        (sofar : (n : ℕ) → at_node asked n ≡ asked_at st net l s (hops_in s.group (take i order)) n) where
      before : (y : LinkHop) → In y (followers net s.group x.hop) → In y (hops_in s.group (take i order))
      before y j =
          let g = addr_same x.group s.group t in
          subst (λ (a : Addr). In y (hops_in a (take i order))) g (followers_before net order i x d free by lt is y (subst (λ (a : Addr). In y (followers net a x.hop)) (sym g) j))

      pub parts_then : (p : PartTable) → p ≡ merge st (cuts (names st net l s (x.hop ∷ [])) (at_node asked (node_of net.ends x.hop.to))) → p ≡ want st net l s x.hop
      parts_then p e =
          e ∙ ap (λ ps. merge st (cuts (names st net l s (x.hop ∷ [])) ps)) (sofar (node_of net.ends x.hop.to)) ∙ want_step st net l s x.hop (hops_in s.group (take i order)) before free

      pub asked_then : (new : List (List Part)) (p : PartTable) → node_of net.ends x.hop.from < length asked → p ≡ want st net l s x.hop
          → new ≡ slice_set asked (node_of net.ends x.hop.from) (at_node asked (node_of net.ends x.hop.from) ++ values p) → (n : ℕ)
          → at_node new n ≡ asked_at st net l s (hops_in s.group (take (i + 1) order)) n
      asked_then new p inside f e n =
          ap (λ xs. at_node xs n) (e ∙ ap (λ q. slice_set asked (node_of net.ends x.hop.from) (at_node asked (node_of net.ends x.hop.from) ++ values q)) f)
          ∙ added asked (node_of net.ends x.hop.from) (values (want st net l s x.hop)) n inside
          ∙ ap (λ ys. ys ++ (if node_of net.ends x.hop.from == n then values (want st net l s x.hop) else [])) (sofar n)
          ∙ append_assoc (local_at st l s n) (wants_at st net l s (hops_in s.group (take i order)) n) (if node_of net.ends x.hop.from == n then values (want st net l s x.hop) else [])
          ∙ ap (λ ys. local_at st l s n ++ ys) (sym (wants_more (hops_in s.group (take i order)) x.hop n) ∙ ap (λ hs. wants_at st net l s hs n) (sym (hops_more t)))

-- before the first hop
pub asked_first : (st : StyleKind) (net : Net) (l : Locals) (s : Session) (xs : List Part) (n : ℕ) → xs ≡ local_at st l s n → xs ≡ asked_at st net l s [] n
asked_first st net l s xs n e = e ∙ sym (append_none (local_at st l s n))
