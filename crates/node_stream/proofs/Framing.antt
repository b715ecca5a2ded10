-- Bytes are cut into frames in one way.
use Rattle.std.proofs.Common.{◌≡◌, ℕ, ◌+◌, ◌<◌, ◌≤◌, List, [], ◌∷◌, ◌++◌, length, drop, take, refl, sym, ap, ◌∙◌, arith, length-append}
use Rattle.std.proofs.Math.Seq.{drop-append_seam, take-append_seam}
use Rattle.node_stream.specs.Layout.{length_at}
use Rattle.node_stream.specs.Frames.{IsFrame, IsPart}

-- what stands behind the head says nothing about the length
pub length_kept : (f x : List ℕ) → 3 ≤ length f → length_at (f ++ x) ≡ length_at f
length_kept [] x le = absurd (omega (arith, le))
length_kept (a ∷ []) x le = absurd (omega (arith, le))
length_kept (a ∷ b ∷ []) x le = absurd (omega (arith, le))
length_kept (a ∷ b ∷ c ∷ f) x le = refl

-- two frames that begin the same bytes
module _ (f x g y : List ℕ) (is : IsFrame f) (other : IsFrame g) (same : f ++ x ≡ g ++ y) where
  as_long : length f ≡ length g
  as_long =
      let at : length_at f ≡ length_at g = sym (length_kept f x is.head) ∙ ap (λ (bs : List ℕ). length_at bs) same ∙ length_kept g y other.head in
      omega (arith, is.whole, other.whole, at)

  pub frame_same : f ≡ g
  frame_same = sym (take-append_seam f x) ∙ ap (λ (n : ℕ). take n (f ++ x)) as_long ∙ ap (λ (bs : List ℕ). take (length g) bs) same ∙ take-append_seam g y

  pub rest_same : x ≡ y
  rest_same = sym (drop-append_seam f x) ∙ ap (λ (n : ℕ). drop n (f ++ x)) as_long ∙ ap (λ (bs : List ℕ). drop (length g) bs) same ∙ drop-append_seam g y

-- what is not whole does not begin with a frame
pub part_is_no_frame : (part g y : List ℕ) → IsPart part → IsFrame g → part ≡ g ++ y → ⊥
part_is_no_frame part g y short is same =
    let long : length part ≡ length g + length y = ap (λ (bs : List ℕ). length bs) same ∙ length-append g y in
    let at : length_at part ≡ length_at g = ap (λ (bs : List ℕ). length_at bs) same ∙ length_kept g y is.head in
    let head : 3 ≤ length part = omega (arith, long, is.head) in
    omega (arith, long, at, is.whole, short head)

-- nothing begins with something
pub nothing_is_none : (x y : List ℕ) → 0 < length x → [] ≡ x ++ y → ⊥
nothing_is_none [] y some e = omega (arith, some)
nothing_is_none (a ∷ x) y some e = cc
