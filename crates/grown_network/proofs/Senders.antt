-- The senders of a seed are twelve, each at its node, and no two of a session at one node: the tree of each can be added to those
-- of the ones before.
use Rattle.std.proofs.Common.{◌≡◌, ℕ, ◌+◌, ◌*◌, ◌<◌, ◌≤◌, zero, suc, List, [], ◌∷◌, ◌++◌, length, refl, sym, ap, subst, ◌∙◌, inl, inr, ⊎_elim, arith, length-append}
use Rattle.std.specs.Prelude.{map as each}
use Rattle.std.specs.List.{flat_map, range_with_len}
use Rattle.std.proofs.lemmas.List.{length-map}
use Rattle.rsvp_base.specs.Orders.{style_place}
use Rattle.rsvp_base.specs.declared.addr.Addr.{Addr}
use Rattle.rsvp_base.specs.declared.style.StyleKind.{StyleKind}
use Rattle.rsvp_base.specs.declared.style.StyleKind.TheVariants.{Wild, Fixed, Shared}
use Rattle.rsvp_base.specs.Members.{In}
use Rattle.rsvp_base.proofs.Members.{in_append, in_each, in_flat_map, in_left, in_right, to_each}
use Rattle.tree_model.specs.Chains.{NoRepeats}
use Rattle.tree_model.specs.declared.hops.LinkHop.{LinkHop}
use Rattle.tree_model.specs.declared.hops.TreeHop.{TreeHop}
use Rattle.tree_model.specs.declared.locals.LocalSender.{LocalSender}
use Rattle.tree_model.specs.Trees.{tree}
use Rattle.tree_model.proofs.Counts.{once_append}
use Rattle.tree_model.proofs.Following.{in_tree}
use Rattle.network_model.specs.Steps.{tree_hop}
use Rattle.script_words.specs.Addresses.{of_bytes}
use Rattle.grown_network.specs.Grown.{grown_net, net_with, tree_of}
use Rattle.grown_network.specs.Growing.{AreApart, AreAway, IsAtHome, TakesTree, tree_key}
use Rattle.grown_network.specs.Hops.{hops_away}
use Rattle.grown_network.specs.Hosts.{local_sender, sender_node, senders, senders_of, session_word, styles}
use Rattle.grown_network.specs.Nodes.{home}
use Rattle.grown_network.proofs.Links.{one_home}
use Rattle.grown_network.proofs.Planting.{few_away, number_away}
use Rattle.grown_network.proofs.Ranges.{in_range}

-- ---- lists without repeats
pub once_each : {A B : Type 0} (f : A → B) (xs : List A) → ((x y : A) → In x xs → In y xs → f x ≡ f y → x ≡ y) → NoRepeats xs → NoRepeats (each f xs)
once_each f [] one once = tt
once_each {A} f (x ∷ xs) one once = (
  λ i. let y = in_each f (f x) xs i in once.0 (subst (λ (z : A). In z xs) (sym (one x y.0 (inl refl) (inr y.1) y.2)) y.1),
  once_each f xs (λ a b i j e. one a b (inr i) (inr j) e) once.1,
)

pub once_range : (a n : ℕ) → NoRepeats (range_with_len a n)
once_range a zero = tt
once_range a (suc n) = (λ i. let within = in_range (a + 1) n a i in let lo = within.0 in omega (arith, lo), once_range (a + 1) n)

once_before : {A : Type 0} (xs : List A) (x : A) (ys : List A) → NoRepeats (xs ++ x ∷ ys) → In x xs → ⊥
once_before [] x ys once i = i
once_before {A} (y ∷ xs) x ys once i =
    ⊎_elim (λ (e : x ≡ y). once.0 (subst (λ (z : A). In z (xs ++ x ∷ ys)) e (in_right x xs (x ∷ ys) (inl refl)))) (λ (j : In x xs). once_before xs x ys once.1 j) i

pub each_append : {A B : Type 0} (f : A → B) (xs ys : List A) → each f (xs ++ ys) ≡ each f xs ++ each f ys
each_append f [] ys = refl
each_append {A} {B} f (x ∷ xs) ys = ap (λ (zs : List B). f x ∷ zs) (each_append f xs ys)

-- ---- senders whose trees can be added one after another
tree_none : (ts : List TreeHop) (g s : Addr) → ((t : TreeHop) → In t ts → t.group ≡ g → t.source ≡ s → ⊥) → tree ts g s ≡ []
tree_none ts g s never = none (tree ts g s) (λ h i. let t = in_tree ts g s h i in never t.0 t.1 t.2 t.3)
  where
    none : (hs : List LinkHop) → ((h : LinkHop) → In h hs → ⊥) → hs ≡ []
    none [] all = refl
    none (h ∷ hs) all = absurd (all h (inl refl))

pub few_hops : (xs : List LocalSender) → ((x : LocalSender) → In x xs → IsAtHome x) → length (flat_map tree_of xs) ≤ 63 * length xs
few_hops [] at = omega arith
few_hops (x ∷ xs) at =
    let rest = few_hops xs (λ y i. at y (inr i)) in
    let here = few_away x.node (at x (inl refl)).within in
    let size = length-append (tree_of x) (flat_map tree_of xs) in
    let own = length-map (hops_away x.node) (tree_hop x.session.group x.sender.addr) in
    omega (arith, rest, here, size, own)

-- a hop of their trees
pub own_hop : (xs : List LocalSender) (t : TreeHop) → In t (flat_map tree_of xs) → (x : LocalSender) × In x xs × (t.group ≡ x.session.group) × (t.source ≡ x.sender.addr) × In t.hop (hops_away x.node)
own_hop xs t i =
    let x = in_flat_map tree_of t xs i in
    let h = in_each (tree_hop x.0.session.group x.0.sender.addr) t (hops_away x.0.node) x.2 in
    (x.0, x.1, ap (λ (q : TreeHop). q.group) h.2, ap (λ (q : TreeHop). q.source) h.2, subst (λ (y : LinkHop). In y (hops_away x.0.node)) (sym (ap (λ (q : TreeHop). q.hop) h.2)) h.1)

pub takes_next : (xs : List LocalSender) (x : LocalSender) (ys : List LocalSender) → AreApart (xs ++ x ∷ ys) → TakesTree (net_with (flat_map tree_of xs)) x
takes_next xs x ys apart =
    record {
      hung = refl;
      away = λ t i.
          let y = own_hop xs t i in
          let at = apart.home_at y.0 (in_left y.0 xs (x ∷ ys) y.1) in
          record { node = y.0.node; within = at.within; source = y.3 ∙ at.home_is; hop = y.4 };
      new =
          tree_none (flat_map tree_of xs) x.session.group x.sender.addr
          (λ t i g s.
          let y = own_hop xs t i in
          let same : tree_key y.0 ≡ tree_key x = pair (sym y.2 ∙ g) (sym y.3 ∙ s) in
          once_before (each tree_key xs) (tree_key x) (each tree_key ys) (subst NoRepeats (each_append tree_key xs (x ∷ ys)) apart.once)
          (subst (λ (k : Addr × Addr). In k (each tree_key xs)) same (to_each tree_key y.0 xs y.1)));
      room =
          let few = few_hops xs (λ y i. apart.home_at y (in_left y xs (x ∷ ys) i)) in
          let size = length-append xs (x ∷ ys) in
          let most = apart.few in
          omega (arith, few, size, most);
    }
  where
    pair : {a b c d : Addr} → a ≡ b → c ≡ d → ◌≡◌ {A = Addr × Addr} (a, c) (b, d)
    pair p q = λ i. (p i, q i)

-- ---- the senders of a seed
pub node_within : (word i : ℕ) → sender_node word i < 64
node_within word i = omega arith

pub nodes_apart : (word i j : ℕ) → i < 4 → j < 4 → sender_node word i ≡ sender_node word j → i ≡ j
nodes_apart word i j a b e = omega arith

once_of_style : (st : StyleKind) (word : ℕ) → NoRepeats (each tree_key (senders_of st word))
once_of_style st word =
    once_each tree_key (senders_of st word)
    (λ x y i j e.
    let k = in_each (local_sender st word) x (range_with_len 0 4) i in
    let m = in_each (local_sender st word) y (range_with_len 0 4) j in
    let at : home (sender_node word k.0) ≡ home (sender_node word m.0) = ap (λ (z : LocalSender). z.sender.addr) (sym k.2) ∙ ap (λ (p : Addr × Addr). p.1) e
    ∙ ap (λ (z : LocalSender). z.sender.addr) m.2 in
    let same : k.0 ≡ m.0 = nodes_apart word k.0 m.0 (in_range 0 4 k.0 k.1).1 (in_range 0 4 m.0 m.1).1
    (one_home (sender_node word k.0) (sender_node word m.0) (node_within word k.0) (node_within word m.0) at) in
    k.2 ∙ ap (local_sender st word) same ∙ sym m.2)
    (once_each (local_sender st word) (range_with_len 0 4) (λ a b i j e. nodes_apart word a b (in_range 0 4 a i).1 (in_range 0 4 b j).1 (ap (λ (z : LocalSender). z.node) e)) (once_range 0 4))

-- the group of a tree of a style
group_of : (st : StyleKind) (word : ℕ) (k : Addr × Addr) → In k (each tree_key (senders_of st word)) → k.0.0 ≡ (of_bytes 239 3 0 (style_place st + 1)).0
group_of st word k i =
    let x = in_each tree_key k (senders_of st word) i in
    let j = in_each (local_sender st word) x.0 (range_with_len 0 4) x.1 in
    ap (λ (p : Addr × Addr). p.0.0) x.2 ∙ ap (λ (z : LocalSender). z.session.group.0) j.2

keys_apart : (a b c : ℕ) → NoRepeats (each tree_key (senders_of Wild a) ++ (each tree_key (senders_of Fixed b) ++ each tree_key (senders_of Shared c)))
keys_apart a b c =
    once_append (each tree_key (senders_of Wild a)) (each tree_key (senders_of Fixed b) ++ each tree_key (senders_of Shared c)) (once_of_style Wild a)
    (once_append (each tree_key (senders_of Fixed b)) (each tree_key (senders_of Shared c)) (once_of_style Fixed b) (once_of_style Shared c)
    (λ k i j. let f = group_of Fixed b k i in let s = group_of Shared c k j in omega (arith, f, s)))
    (λ k i j.
    let w = group_of Wild a k i in
    ⊎_elim (λ (f : In k (each tree_key (senders_of Fixed b))). let g = group_of Fixed b k f in omega (arith, w, g))
    (λ (s : In k (each tree_key (senders_of Shared c))). let g = group_of Shared c k s in omega (arith, w, g))
    (in_append k (each tree_key (senders_of Fixed b)) (each tree_key (senders_of Shared c)) j))

pub apart : (seed : ℕ) → AreApart (senders seed)
unfolding senders
apart seed = record {
  home_at = λ x i.
      let st = in_flat_map (λ st. senders_of st (session_word seed st)) x styles i in
      let k = in_each (local_sender st.0 (session_word seed st.0)) x (range_with_len 0 4) st.2 in
      subst IsAtHome (sym k.2) (record { within = node_within (session_word seed st.0) k.0; home_is = refl });
  once = keys_apart (session_word seed Wild) (session_word seed Fixed) (session_word seed Shared);
  few = omega arith;
}

-- ---- 756 hops
all_of : (xs : List LocalSender) → ((x : LocalSender) → In x xs → IsAtHome x) → length (flat_map tree_of xs) ≡ 63 * length xs
all_of [] at = refl
all_of (x ∷ xs) at =
    let rest = all_of xs (λ y i. at y (inr i)) in
    let here = number_away x.node (at x (inl refl)).within in
    let size = length-append (tree_of x) (flat_map tree_of xs) in
    let own = length-map (hops_away x.node) (tree_hop x.session.group x.sender.addr) in
    omega (arith, rest, here, size, own)

pub twelve : (seed : ℕ) → length (senders seed) ≡ 12
unfolding senders
twelve seed = refl

pub all_hops : (seed : ℕ) → length (grown_net seed).hops ≡ 756
all_hops seed = all_of (senders seed) (apart seed).home_at ∙ ap (λ n. 63 * n) (twelve seed)

-- each of them leads away from the node of its source
pub away_grown : (seed : ℕ) → AreAway (grown_net seed).hops
away_grown seed t i =
    let x = own_hop (senders seed) t i in
    let at = (apart seed).home_at x.0 x.1 in
    record { node = x.0.node; within = at.within; source = x.3 ∙ at.home_is; hop = x.4 }
