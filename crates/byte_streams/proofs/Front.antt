-- Giving the front of a list from a place on, as a source in memory does.
use Rattle.std.proofs.Common.{◌≡◌, ℕ, ◌+◌, ◌-◌, ◌<◌, ◌++◌, List, [], length, take, drop, min, sym, ap, ◌∙◌, arith}
use Rattle.std.proofs.lemmas.List.{take-append-drop, take_rest, drop-drop, length-drop, nil_from_length}

-- what was left is what was given, and then what is left
pub left_is_given_and_rest : (items given : List ℕ) (at n : ℕ) → given ≡ take n (take (length items - at) (drop at items)) → drop at items ≡ given ++ drop (at + n) items
left_is_given_and_rest items given at n is_front =
    let front : given ≡ take n (drop at items) = rw take_rest at is_front in
    sym (take-append-drop n (drop at items)) ∙ ap (λ xs. xs ++ drop n (drop at items)) (sym front) ∙ ap (λ xs. given ++ xs) (drop-drop n at items)

-- where there was room, nothing was given only where nothing is left
pub none_left : (items : List ℕ) (at n room most : ℕ) → n ≡ min (min room (length (take (length items - at) (drop at items)))) most → 0 < most → n ≡ 0 → 0 < room → drop (at + n) items ≡ []
none_left items at n room most count some zero has_room =
    let all : n ≡ min (min room (length (drop at items))) most = rw take_rest at count in
    nil_from_length _ (omega (arith, length-drop at items, length-drop (at + n) items))
