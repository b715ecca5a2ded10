-- What is posted for one input has room.
use Rattle.std.proofs.Common.{◌≡◌, ℕ, ◌+◌, ◌<◌, ◌≤◌, Bool, true, false, List, [], ◌∷◌, ◌++◌, length, refl, sym, ap, ap₂, subst, ◌∙◌, append-nil, append_assoc, arith}
use Rattle.std.specs.Prelude.{cond, fold, nat_lt}
use Rattle.std.proofs.lemmas.Bool.{lt-ltb, ltb-true}
use Rattle.laws_bounds.specs.CountLaws.{most_sends}
use Rattle.router_rules.specs.Inputs.{Send}
use Rattle.node_stream.specs.Posting.{Posted, nothing_posted, with_post}
use Rattle.node_stream.specs.Serving.{frame_with, frames_with}

abbrev posted : List ℕ → ℕ → Posted
posted bytes n = record { bytes = bytes; count = n }

one_posted : (bytes : List ℕ) (n : ℕ) (s : Send) → n < most_sends → with_post (posted bytes n) s ≡ posted (bytes ++ frame_with s) (n + 1)
one_posted bytes n s lt = ap (λ (b : Bool). cond b (posted (bytes ++ frame_with s) (n + 1)) (posted bytes n)) (lt-ltb n most_sends lt)

all_posted : (bytes : List ℕ) (n : ℕ) (ss : List Send) → n + length ss ≤ most_sends → fold with_post (posted bytes n) ss ≡ posted (bytes ++ frames_with ss) (n + length ss)
all_posted bytes n [] few =
    let none : n ≡ n + 0 = omega arith in
    ap₂ posted (sym (append-nil bytes)) none
all_posted bytes n (s ∷ ss) few =
    let here : n < most_sends = omega (arith, few) in
    let count : (n + 1) + length ss ≡ n + length (s ∷ ss) = omega arith in
    ap (λ (b : Posted). fold with_post b ss) (one_posted bytes n s here) ∙ all_posted (bytes ++ frame_with s) (n + 1) ss (omega (arith, few))
    ∙ ap₂ posted (append_assoc bytes (frame_with s) (frames_with ss)) count

-- into an empty outbox
pub first_posted : (old new : Posted) (ss : List Send) → old ≡ nothing_posted → new ≡ fold with_post old ss → length ss ≤ most_sends → new.bytes ≡ frames_with ss
first_posted old new ss empty is few = ap (λ (b : Posted). b.bytes) (is ∙ ap (λ (b : Posted). fold with_post b ss) empty ∙ all_posted [] 0 ss (omega (arith, few)))

-- no more than there is room for
one_few : (box : Posted) (s : Send) → box.count ≤ most_sends → (with_post box s).count ≤ most_sends
one_few box s few = by (nat_lt box.count most_sends) refl
  where
    by : (b : Bool) → nat_lt box.count most_sends ≡ b → (cond b (posted (box.bytes ++ frame_with s) (box.count + 1)) box).count ≤ most_sends
    by true e = omega (arith, ltb-true box.count most_sends e)
    by false e = few

all_few : (box : Posted) (ss : List Send) → box.count ≤ most_sends → (fold with_post box ss).count ≤ most_sends
all_few box [] few = few
all_few box (s ∷ ss) few = all_few (with_post box s) ss (one_few box s few)

pub few_posted : (old new : Posted) (ss : List Send) → old ≡ nothing_posted → new ≡ fold with_post old ss → new.count ≤ most_sends
few_posted old new ss empty is = subst (λ (b : Posted). b.count ≤ most_sends) (sym is) (all_few old ss (subst (λ (b : Posted). b.count ≤ most_sends) (sym empty) (omega arith)))
