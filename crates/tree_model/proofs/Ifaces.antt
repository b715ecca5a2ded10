-- Interfaces of nodes and numbers of ends.
use Rattle.std.specs.Prelude.{◌≡◌, ℕ, ◌+◌, ◌<◌, Bool, true, false, ◌==◌, List, [], ◌∷◌, length, take, Some, slice_get, refl, if◌then◌else◌}
use Rattle.std.proofs.Common.{zero, suc, ap, ◌∙◌, arith}
use Rattle.tree_model.specs.declared.hops.End.{End}
use Rattle.tree_model.specs.Networks.{Net, node_of, ends_from}
use Rattle.tree_model.specs.Laws.{InterfacesAreEnds}
use Rattle.tree_model.proofs.Following.{same_number, number_same}

end_there : (number : ℕ) (ends : List End) (k n : ℕ) → k < length ends → node_of ends k ≡ n → slice_get (ends_from number ends n) (length (ends_from number (take k ends) n)) ≡ Some (number + k)
end_there number [] k n lt at = absurd (omega arith)
end_there number (e ∷ es) zero n lt at =
    ap (λ (b : Bool). slice_get (if b then number ∷ ends_from (number + 1) es n else ends_from (number + 1) es n) 0) (number_same e.node n at)
    ∙ ap Some (let z : number ≡ number + 0 = omega arith in z)
end_there number (e ∷ es) (suc k) n lt at =
    by (e.node == n) (end_there (number + 1) es k n (omega arith) at ∙ ap Some (let z : number + 1 + k ≡ number + suc k = omega arith in z))
  where
    by : (b : Bool) → slice_get (ends_from (number + 1) es n) (length (ends_from (number + 1) (take k es) n)) ≡ Some (number + suc k)
        → slice_get (if b then number ∷ ends_from (number + 1) es n else ends_from (number + 1) es n)
        (length (if b then number ∷ ends_from (number + 1) (take k es) n else ends_from (number + 1) (take k es) n)) ≡ Some (number + suc k)
    by true h = h
    by false h = h

record Found (number : ℕ) (ends : List End) (n i e : ℕ) : Type 0 where
  place : ℕ
  number_is : e ≡ number + place
  inside : place < length ends
  at : node_of ends place ≡ n
  before : length (ends_from number (take place ends) n) ≡ i

found : (number : ℕ) (ends : List End) (n i e : ℕ) → slice_get (ends_from number ends n) i ≡ Some e → Found number ends n i e
found number [] n i e is = cc
found number (x ∷ xs) n i e is = by (x.node == n) refl i is (found (number + 1) xs n)
  where
    -- one place further on
    behind : (i j : ℕ) → (f : Found (number + 1) xs n j e) → length (ends_from number (x ∷ take f.place xs) n) ≡ i → Found number (x ∷ xs) n i e
    behind i j f before =
        record {
          place = suc f.place;
          number_is = let z = f.number_is in omega arith;
          inside = let z = f.inside in omega arith;
          at = f.at;
          before = before;
        }

    -- how many stand before it, by whether the first is of the node
    counted : (b : Bool) → (x.node == n) ≡ b → (k : ℕ) → length (ends_from number (x ∷ take k xs) n)
        ≡ length (if b then number ∷ ends_from (number + 1) (take k xs) n else ends_from (number + 1) (take k xs) n)
    counted b t k = ap (λ (b : Bool). length (if b then number ∷ ends_from (number + 1) (take k xs) n else ends_from (number + 1) (take k xs) n)) t

    by : (b : Bool) → (x.node == n) ≡ b → (i : ℕ) → slice_get (if b then number ∷ ends_from (number + 1) xs n else ends_from (number + 1) xs n) i ≡ Some e
        → ((j e' : ℕ) → slice_get (ends_from (number + 1) xs n) j ≡ Some e' → Found (number + 1) xs n j e') → Found number (x ∷ xs) n i e
    by true t zero is rest =
        let here : number ≡ e = cc in
        record { place = 0; number_is = omega arith; inside = omega arith; at = same_number x.node n t; before = refl }
    by true t (suc j) is rest = let f = rest j e is in behind (suc j) j f (counted true t f.place ∙ ap suc f.before)
    by false t i is rest = let f = rest i e is in behind i i f (counted false t f.place ∙ f.before)

pub interfaces_are_ends : (net : Net) → InterfacesAreEnds net
interfaces_are_ends net =
    record {
      end_of_iface = λ e lt. end_there 0 net.ends e (node_of net.ends e) lt refl ∙ ap Some (let z : 0 + e ≡ e = omega arith in z);
      iface_of_end = λ n i e is.
          let f = found 0 net.ends n i e is in
          let same : e ≡ f.place = let z = f.number_is in omega arith in
          let at : node_of net.ends e ≡ n = ap (node_of net.ends) same ∙ f.at in (
            let z = f.inside in omega arith,
            at,
            ap (λ (m : ℕ). length (ends_from 0 (take e net.ends) m)) at ∙ ap (λ (k : ℕ). length (ends_from 0 (take k net.ends) n)) same ∙ f.before,
          );
    }
