-- Sizes of tables with the same keys, and of the sets of two lists together and of an image.
use Rattle.std.specs.Prelude.{◌≡◌, ◌⊎◌, ◌+◌, ◌≤◌, List, ◌++◌, map as each}
use Rattle.std.proofs.Common.{sym, subst, inl, inr, ◌∙◌, arith}
use Rattle.std.proofs.lemmas.List.{length-append, length-map}
use Rattle.rsvp_base.specs.Keys.{Keys}
use Rattle.rsvp_base.specs.Members.{In}
use Rattle.rsvp_base.specs.Sets.{set_of}
use Rattle.rsvp_base.specs.Table.{Table, has, keys, size}
use Rattle.rsvp_base.proofs.Counts.{in_set_of, set_below, set_of_in, size-set_of, size_below}
use Rattle.rsvp_base.proofs.Fronts.{to_keys}
use Rattle.rsvp_base.proofs.Members.{in_append, in_each, in_left, in_right, to_each}

pub size_same : {K X Y : Type 0} (o : Keys K) (s : Table o X) (t : Table o Y) → ((k : K) → has s k ≡ has t k) → size s ≡ size t
size_same o s t e =
    let a : size s ≤ size t = size_below o s t (λ k h. sym (e k) ∙ h) in
    let b : size t ≤ size s = size_below o t s (λ k h. e k ∙ h) in
    omega (arith, a, b)

-- of two lists together, no more than of the one and of the other
pub size_append : {K : Type 0} (o : Keys K) (xs ys : List K) → size (set_of {o = o} (xs ++ ys)) ≤ size (set_of {o = o} xs) + size (set_of {o = o} ys)
size_append {K} o xs ys =
    let a = set_of {o = o} xs in
    let b = set_of {o = o} ys in
    let zs = keys a ++ keys b in
    let below = size_below o (set_of {o = o} (xs ++ ys)) (set_of {o = o} zs) (λ k h. in_set_of o zs k (by k (in_append k xs ys (set_of_in o (xs ++ ys) k h)))) in
    let few = size-set_of o zs in
    let l = length-append (keys a) (keys b) in
    let la = length-map a.rows (λ e. e.0) in
    let lb = length-map b.rows (λ e. e.0) in
    omega (arith, below, few, l, la, lb)
  where
    by : (k : K) → (In k xs ⊎ In k ys) → In k (keys (set_of {o = o} xs) ++ keys (set_of {o = o} ys))
    by k (inl x) = in_left k _ _ (to_keys o (set_of {o = o} xs) k (in_set_of o xs k x))
    by k (inr y) = in_right k (keys (set_of {o = o} xs)) _ (to_keys o (set_of {o = o} ys) k (in_set_of o ys k y))

-- the image of a set is no larger
pub image_size : {K L : Type 0} (o : Keys K) (p : Keys L) (g : K → L) (xs : List K) → size (set_of {o = p} (each g xs)) ≤ size (set_of {o = o} xs)
image_size {K} {L} o p g xs =
    let few = set_below p (each g xs) (each g (keys (set_of {o = o} xs))) (λ k i. let x = in_each g k xs i in
    subst (λ (z : L). In z (each g (keys (set_of {o = o} xs)))) (sym x.2) (to_each g x.0 (keys (set_of {o = o} xs)) (listed x.0 x.1))) in
    let all = size-set_of p (each g (keys (set_of {o = o} xs))) in
    let a = length-map (keys (set_of {o = o} xs)) g in
    let b = length-map (set_of {o = o} xs).rows (λ (e : K × Unit {0}). e.0) in
    omega arith
  where
    listed : (x : K) → In x xs → In x (keys (set_of {o = o} xs))
    listed x i = to_keys o (set_of {o = o} xs) x (in_set_of o xs x i)
