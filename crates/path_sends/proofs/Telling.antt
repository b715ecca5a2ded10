-- Paths told interface by interface.
use Rattle.std.specs.Prelude.{◌≡◌, ◌<◌, ◌+◌, ◌-◌, ◌^◌, ◌==◌, ◌&&◌, ℕ, zero, suc, Bool, true, false, not, cond, Option, Some, None, List, [], ◌∷◌, ◌++◌, length, slice_get, slice_index_or}
use Rattle.std.specs.Prelude.{map as each, fold, refl}
use Rattle.std.specs.Int.{bit_at, bit_not, w16}
use Rattle.std.specs.Int.RustNames.{bit_and}
use Rattle.std.specs.List.{filter, range_with_len}
use Rattle.std.proofs.Common.{min, sym, ap, ◌∙◌, arith, inl, inr}
use Rattle.std.proofs.lemmas.Bool.{cases_lt}
use Rattle.std.proofs.lemmas.List.Sums.{fold_push}
use Rattle.std.proofs.lemmas.List.Elements.{filter-append}
use Rattle.std.proofs.lemmas.List.{map-append}
use Rattle.std.proofs.lemmas.List.FromFn.{map-range_with_len_more}
use Rattle.adspec_path.proofs.Same.{adspec_told, itself as told_itself}
use Rattle.adspec_path.specs.Same.{same_told}
use Rattle.rsvp_base.proofs.Rows.{each_itself}
use Rattle.rsvp_base.proofs.SetLaws.{and_made}
use Rattle.rsvp_base.specs.declared.iface.Iface.{Iface}
use Rattle.router_rules.specs.declared.advert.Advert.{Advert}
use Rattle.router_rules.specs.declared.advert.Advert.TheVariants.{Begins, Passes, Silent}
use Rattle.router_rules.specs.Inputs.{Send}
use Rattle.router_rules.specs.NodeConfig.{NodeConfig, addr_of, is_out, outward, tree}
use Rattle.router_rules.specs.Offers.{Offer, advert_by}
use Rattle.router_rules.specs.Sends.{is_new_offer, same_flow, told_at}
use Rattle.router_rules.specs.declared.route.Route.{Route}
use Rattle.rsvp_base.specs.declared.session.Session.{Session}
use Rattle.rsvp_base.specs.declared.session.Sender.{Sender}
use Rattle.laws_sends.specs.Routes.{ways_out}
use Rattle.std.proofs.lemmas.Nat.Bits.{bit_at-zero, bit_at-lt, bit_at_above, bit_at_and, bit_at_not}
use Rattle.path_sends.specs.Offering.{same_source}
use Rattle.path_sends.specs.Ways.{ways_but, ways_in}

pub range_more : (n : ℕ) → range_with_len 0 (n + 1) ≡ range_with_len 0 n ++ n ∷ []
range_more n = sym (each_itself (range_with_len 0 (n + 1))) ∙ map-range_with_len_more (λ (x : ℕ). x) 0 n n (omega arith) ∙ ap (λ xs. xs ++ n ∷ []) (each_itself (range_with_len 0 n))

module _ {B : Type 0} (posted : B → Send → B) (say : ℕ → Send) (on : ℕ → Bool) (start : B) where
  abbrev ones : ℕ → List ℕ
  ones n = filter on (range_with_len 0 n)

  abbrev pub said : ℕ → B
  said n = fold posted start (each say (ones n))

  ones_more : (n : ℕ) → ones (n + 1) ≡ ones n ++ cond (on n) (n ∷ []) []
  ones_more n = ap (filter on) (range_more n) ∙ filter-append on (range_with_len 0 n) (n ∷ [])

  pub said_one : (n : ℕ) (out : B) → on n ≡ true → out ≡ said n → posted out (say n) ≡ said (n + 1)
  said_one n out is_on is =
      ap (λ b. posted b (say n)) is ∙ sym (fold_push posted start (each say (ones n)) (say n)) ∙ ap (fold posted start) (sym (map-append say (ones n) (n ∷ [])))
      ∙ sym (ap (λ ns. fold posted start (each say ns)) (ones_more n ∙ ap (λ b. ones n ++ cond b (n ∷ []) []) is_on))

  pub said_none : (n : ℕ) (out : B) → on n ≡ false → out ≡ said n → out ≡ said (n + 1)
  said_none n out off is = is ∙ sym (ap (λ ns. fold posted start (each say ns)) (ones_more n ∙ ap (λ b. ones n ++ cond b (n ∷ []) []) off ∙ append_none (ones n)))
    where
      append_none : (xs : List ℕ) → xs ++ [] ≡ xs
      append_none [] = refl
      append_none (x ∷ xs) = ap (λ ys. x ∷ ys) (append_none xs)

pub there : (xs : List Iface) (i : ℕ) (d : Iface) → i < length xs → slice_get xs i ≡ Some (slice_index_or xs i d)
there [] i d h = absurd (omega (arith, h))
there (x ∷ xs) zero d h = refl
there (x ∷ xs) (suc i) d h = there xs i d (omega (arith, h))

pub own_read : (xs : List Iface) (i : ℕ) (d : Iface) → i < length xs → addr_of (slice_get xs i) ≡ (slice_index_or xs i d).addr
own_read xs i d h = ap addr_of (there xs i d h)

-- the interfaces of a route that are there
pub out_same : (r : Option Route) (i : ℕ) → (bit_at (ways_out r) i == 1) ≡ is_out r i
out_same None i = ap (λ n. n == 1) (bit_at-zero i)
out_same (Some r) i = refl

filter_same : (f g : ℕ → Bool) (xs : List ℕ) → ((x : ℕ) → f x ≡ g x) → filter f xs ≡ filter g xs
filter_same f g xs e = λ i. filter (λ x. e x i) xs

pub all_said : (p : NodeConfig) (s : Session) (x : Sender) → filter (λ i. bit_at (ways_out (tree p s x)) i == 1) (range_with_len 0 (length p.ifaces)) ≡ outward p s x
all_said p s x = filter_same _ _ (range_with_len 0 (length p.ifaces)) (λ i. out_same (tree p s x) i)

-- what comes from the same source is the same
pub source_told : (a b : Advert) → same_source a b ≡ true → a ≡ b
source_told Silent Silent e = refl
source_told Silent Begins e = absurd (cc)
source_told Silent (Passes b) e = absurd (cc)
source_told Begins Silent e = absurd (cc)
source_told Begins Begins e = refl
source_told Begins (Passes b) e = absurd (cc)
source_told (Passes a) Silent e = absurd (cc)
source_told (Passes a) Begins e = absurd (cc)
source_told (Passes a) (Passes b) e = ap Passes (adspec_told a b e)

-- an offer of the same flow that is told the same way is new at no interface
pub not_new_again : (p : NodeConfig) (i : ℕ) (o old : Offer) → same_flow o.tspec old.tspec ≡ true → o.advert ≡ old.advert → is_new_offer p i o (Some old) ≡ false
not_new_again p i o old flow advert =
    ap not (and_made _ _ flow (ap (λ a. same_told (told_at p i o) (advert_by (slice_get p.ifaces i) a)) (sym advert) ∙ told_itself (told_at p i o)))

-- those that pass both tests
pub filter_both : (f g : ℕ → Bool) (xs : List ℕ) → filter (λ i. f i && g i) xs ≡ filter g (filter f xs)
filter_both f g [] = refl
filter_both f g (x ∷ xs) = by (f x) (g x) refl (filter_both f g xs)
  where
    by : (a b : Bool) → g x ≡ b → filter (λ i. f i && g i) xs ≡ filter g (filter f xs)
        → cond (a && b) (x ∷ filter (λ i. f i && g i) xs) (filter (λ i. f i && g i) xs) ≡ filter g (cond a (x ∷ filter f xs) (filter f xs))
    by true true h e = ap (λ ys. x ∷ ys) e ∙ sym (ap (λ b. cond b (x ∷ filter g (filter f xs)) (filter g (filter f xs))) h)
    by true false h e = e ∙ sym (ap (λ b. cond b (x ∷ filter g (filter f xs)) (filter g (filter f xs))) h)
    by false b h e = e

-- ---- interfaces of one set that are not in another
masked : (m n : ℕ) → m < 2 → n < 2 → (min m (1 - n) == 1) ≡ ((m == 1) && not (n == 1))
masked zero n lt lt_n = let none : min 0 (1 - n) ≡ 0 = omega arith in ap (λ k. k == 1) none
masked (suc zero) zero lt lt_n = refl
masked (suc zero) (suc zero) lt lt_n = refl
masked (suc zero) (suc (suc n)) lt lt_n = absurd (omega (arith, lt_n))
masked (suc (suc m)) n lt lt_n = absurd (omega (arith, lt))

pub only_bits : (these those i : ℕ) → these < 2 ^ 16 → those < 2 ^ 16
    → (bit_at (bit_and these (bit_not w16 those)) i == 1) ≡ ((bit_at these i == 1) && not (bit_at those i == 1))
only_bits these those i low low_those =
    elim (cases_lt i 16) [
      | inl lt ↦
          let bit = bit_at_and these (bit_not w16 those) i ∙ ap (min (bit_at these i)) (bit_at_not w16 those i low_those lt) in
          ap (λ n. n == 1) bit ∙ masked (bit_at these i) (bit_at those i) (bit_at-lt these i) (bit_at-lt those i)
      | inr le ↦
          let none = bit_at_above these 16 i low le in
          let nor_here : bit_at (bit_and these (bit_not w16 those)) i ≡ 0 = omega (arith, bit_at_and these (bit_not w16 those) i, none) in
          ap (λ n. n == 1) nor_here ∙ sym (ap (λ n. (n == 1) && not (bit_at those i == 1)) none)
    ]

pub only_these : (p : NodeConfig) (ways these those : ℕ)
    → ((i : ℕ) → (bit_at ways i == 1) ≡ ((bit_at these i == 1) && not (bit_at those i == 1))) → ways_in p ways ≡ ways_but p these those
only_these p ways these those same = filter_same _ _ (range_with_len 0 (length p.ifaces)) same
