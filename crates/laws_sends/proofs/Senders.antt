-- Paths and PathTears, sender after sender.
use Rattle.std.specs.Prelude.{◌≡◌, ℕ, Bool, true, false, cond, not, ◌&&◌, ◌||◌, List, [], ◌∷◌, ◌++◌, map as each, is_some, Option, Some, None, refl}
use Rattle.std.specs.List.{cons_option, filter, filter_map, flat_map}
use Rattle.std.proofs.Common.{sym, ap, inl, inr, ◌∙◌}
use Rattle.std.proofs.lemmas.List.{map-append}
use Rattle.std.proofs.lemmas.List.Concat.{flat_map-append}
use Rattle.std.proofs.lemmas.List.Elements.{filter-append, filter_map-append}
use Rattle.rsvp_base.specs.Keys.{Keys}
use Rattle.rsvp_base.specs.Members.{In}
use Rattle.rsvp_base.specs.Orders.{sessions}
use Rattle.rsvp_base.specs.Sets.{Set}
use Rattle.rsvp_base.specs.Table.{Table, changed, changed_rows, get, has, keys, kept}
use Rattle.rsvp_base.specs.declared.session.Sender.{Sender}
use Rattle.rsvp_base.specs.declared.session.Session.{Session}
use Rattle.rsvp_base.proofs.Counts.{in_found}
use Rattle.rsvp_base.proofs.Filters.{each_each, filter_each, filter_same, flat_each, flat_map_only}
use Rattle.rsvp_base.proofs.Fronts.{in_keys}
use Rattle.rsvp_base.proofs.SetLaws.{has-kept, same_set}
use Rattle.rsvp_base.proofs.Tables.{get-changed, then_do}
use Rattle.router_rules.specs.Facts.{Facts, SenderKey, sender_keys}
use Rattle.router_rules.specs.Inputs.{Send}
use Rattle.router_rules.specs.Offers.{Offer, OfferKey, offers}
use Rattle.router_rules.specs.NodeConfig.{NodeConfig, outward}
use Rattle.router_rules.specs.Sends.{is_new_offer, path_send, path_send_of, path_sends, path_tear, path_tears}
use Rattle.router_state.proofs.Offering.{offers_by_way}
use Rattle.router_state.proofs.Lists.{none_is, some_is}
use Rattle.router_state.proofs.Tests.{not_new}
use Rattle.laws_sends.specs.Told.{offer_key, offered, paths_told, told_gone}
use Rattle.laws_sends.proofs.Lanes.{filter_keys_kept}
use Rattle.laws_sends.specs.Several.{gone_told, is_among, known_offers, offer_of, offers_for, offers_in, paths_of, refreshed, tears_of}
use Rattle.laws_sends.specs.SeveralLaws.{SendersAreTold}
use Rattle.laws_sends.proofs.Grouping.{among_keys, keys_are_sessions}
use Rattle.laws_sends.proofs.Ordered.{offers_grouped}
use Rattle.laws_sends.proofs.Blocks.{all_offers, block, known_at, way_of}

flat_among : {A B : Type 0} (g h : A → List B) (xs : List A) → ((x : A) → In x xs → g x ≡ h x) → flat_map g xs ≡ flat_map h xs
flat_among g h [] same = refl
flat_among g h (x ∷ xs) same = λ i. same x (inl refl) i ++ flat_among g h xs (λ y j. same y (inr j)) i

-- ---- PathTears
module _ (old p : NodeConfig) (f g : Facts) where
  abbrev over : OfferKey → Bool
  over q = not (has (offers p g) q)

  torn_blocks : (es : List (SenderKey × Offer)) → each (path_tear p) (filter over (each (λ e. e.0) (flat_map (block old) es))) ≡ flat_map (λ e. tears_of old p f g e.0) es
  torn_blocks [] = refl
  torn_blocks (e ∷ es) =
      let is = outward old e.0.0 e.0.1 in
      let mine : each (path_tear p) (filter over (each (λ (e : OfferKey × Offer). e.0) (block old e))) ≡ tears_of old p f g e.0 =
      ap (λ ks. each (path_tear p) (filter over ks)) (each_each (λ i. (offer_key e.0 i, e.1)) (λ (e : OfferKey × Offer). e.0) is) ∙ ap (each (path_tear p)) (filter_each over (offer_key e.0) is)
      ∙ each_each (offer_key e.0) (path_tear p) (filter (λ i. over (offer_key e.0 i)) is) in
      ap (λ ks. each (path_tear p) (filter over ks)) (map-append (λ (e : OfferKey × Offer). e.0) (block old e) (flat_map (block old) es))
      ∙ ap (each (path_tear p)) (filter-append over (each (λ e. e.0) (block old e)) (each (λ e. e.0) (flat_map (block old) es)))
      ∙ map-append (path_tear p) (filter over (each (λ e. e.0) (block old e))) (filter over (each (λ e. e.0) (flat_map (block old) es))) ∙ (λ i. mine i ++ torn_blocks es i)

  pub all_tears : path_tears p (offers old f) (offers p g) ≡ flat_map (tears_of old p f g) (keys (known_offers f))
  all_tears = ap (λ es. each (path_tear p) (filter over (each (λ (e : OfferKey × Offer). e.0) es))) (all_offers old f) ∙ torn_blocks (known_offers f).rows
      ∙ sym (flat_each (λ (e : SenderKey × Offer). e.0) (tears_of old p f g) (known_offers f).rows)

  -- ---- Paths
  module _ (fired : Set sessions) where
    abbrev send_of : OfferKey × Offer → Option Send
    send_of e = path_send_of p (offers old f) fired e

    one_block : (e : SenderKey × Offer) (is : List ℕ) (b : Bool) → has fired e.0.0 ≡ b → filter_map send_of (each (λ i. (offer_key e.0 i, e.1)) is)
        ≡ cond b (each (λ i. path_send p true (offer_key e.0 i, e.1)) is) (each (λ i. path_send p false (offer_key e.0 i, e.1))
        (filter (λ i. is_new_offer p i e.1 (get (offers old f) (offer_key e.0 i))) is))
    one_block e [] true h = refl
    one_block e [] false h = refl
    one_block e (i ∷ is) true h =
        (λ j. cons_option (cond (h j || is_new_offer p i e.1 (get (offers old f) (offer_key e.0 i))) (Some (path_send p (h j) (offer_key e.0 i, e.1))) None)
        (filter_map send_of (each (λ i. (offer_key e.0 i, e.1)) is)))
        ∙ ap (λ ss. path_send p true (offer_key e.0 i, e.1) ∷ ss) (one_block e is true h)
    one_block e (i ∷ is) false h =
        (λ j. cons_option (cond (h j || is_new_offer p i e.1 (get (offers old f) (offer_key e.0 i))) (Some (path_send p (h j) (offer_key e.0 i, e.1))) None)
        (filter_map send_of (each (λ i. (offer_key e.0 i, e.1)) is)))
        ∙ by (is_new_offer p i e.1 (get (offers old f) (offer_key e.0 i))) (one_block e is false h)
      where
        by : (b : Bool) → filter_map send_of (each (λ i. (offer_key e.0 i, e.1)) is) ≡ each (λ i. path_send p false (offer_key e.0 i, e.1))
            (filter (λ i. is_new_offer p i e.1 (get (offers old f) (offer_key e.0 i))) is)
            → cons_option (cond b (Some (path_send p false (offer_key e.0 i, e.1))) None) (filter_map send_of (each (λ i. (offer_key e.0 i, e.1)) is))
            ≡ each (λ i. path_send p false (offer_key e.0 i, e.1)) (cond b (i ∷ filter (λ i. is_new_offer p i e.1 (get (offers old f) (offer_key e.0 i))) is)
            (filter (λ i. is_new_offer p i e.1 (get (offers old f) (offer_key e.0 i))) is))
        by true rest = ap (λ ss. path_send p false (offer_key e.0 i, e.1) ∷ ss) rest
        by false rest = rest

    sent_blocks : (es : List (SenderKey × Offer)) → filter_map send_of (flat_map (block p) es) ≡ flat_map (paths_of old p f g fired) es
    sent_blocks [] = refl
    sent_blocks (e ∷ es) = filter_map-append send_of (block p e) (flat_map (block p) es) ∙ (λ i. one_block e (outward p e.0.0 e.0.1) (has fired e.0.0) refl i ++ sent_blocks es i)

    pub all_paths : path_sends p (offers old f) (offers p g) fired ≡ flat_map (paths_of old p f g fired) (known_offers g).rows
    all_paths = ap (filter_map send_of) (all_offers p g) ∙ sent_blocks (known_offers g).rows

-- ---- tables that have the same keys have them in the same order
module _ {K X : Type 0} (o : Keys K) where
  abbrev there : K → X → Option (Unit {0})
  there k x = Some tt

  abbrev as_set : Table o X → Set o
  as_set m = changed there m

  keys_set : (es : List (K × X)) → each (λ e. e.0) (changed_rows there es) ≡ each (λ e. e.0) es
  keys_set [] = refl
  keys_set (e ∷ es) = ap (λ ks. e.0 ∷ ks) (keys_set es)

  has_set : (m : Table o X) (k : K) → has (as_set m) k ≡ has m k
  has_set m k = ap is_some (get-changed o there m k) ∙ by (get m k)
    where
      by : (w : Option X) → is_some (then_do w (there k)) ≡ is_some w
      by None = refl
      by (Some x) = refl

  -- what is told of the keys of a set only, where the table has them, and of those of the table only, where the set has them
  pub told_by_set : {B : Type 0} (m : Table o X) (s : Set o) (h : K → List B) → ((k : K) → has m k ≡ true → has s k ≡ false → h k ≡ []) → ((k : K) → has m k ≡ false → h k ≡ [])
      → flat_map h (keys m) ≡ flat_map h (keys s)
  told_by_set m s h out in_ =
      let both : kept (has s) (as_set m) ≡ kept (has m) s = same_set o _ _ (λ q. has-kept o (has s) (as_set m) q ∙ (λ i. has_set m q i && has s q) ∙ and_turned (has m q) (has s q)
      ∙ sym (has-kept o (has m) s q)) in
      ap (flat_map h) (sym (keys_set m.rows))
      ∙ among (has s) (keys (as_set m)) (λ k i off. out k (sym (has_set m k) ∙ in_keys o (as_set m) k i) off)
      ∙ ap (flat_map h) (filter_keys_kept o (has s) (as_set m).rows ∙ ap (λ (t : Set o). keys t) both ∙ sym (filter_keys_kept o (has m) s.rows))
      ∙ sym (among (has m) (keys s) (λ k i off. in_ k off))
    where
      and_turned : (a b : Bool) → (a && b) ≡ (b && a)
      and_turned true true = refl
      and_turned true false = refl
      and_turned false true = refl
      and_turned false false = refl

      among : (t : K → Bool) (ks : List K) → ((k : K) → In k ks → t k ≡ false → h k ≡ []) → flat_map h ks ≡ flat_map h (filter t ks)
      among t [] none = refl
      among t (k ∷ ks) none =
          elim (t k) as (λ b. t k ≡ b → (h k ++ flat_map h ks) ≡ flat_map h (cond b (k ∷ filter t ks) (filter t ks))) [
            | true ↦ λ e. ap (λ ys. h k ++ ys) (among t ks (λ q i. none q (inr i)))
            | false ↦ λ e. ap (λ ys. ys ++ flat_map h ks) (none k (inl refl) e) ∙ among t ks (λ q i. none q (inr i))
          ] refl

-- ---- the senders that are gone
module _ (p : NodeConfig) (f g : Facts) where
  abbrev tell : SenderKey → List Send
  tell k = told_gone p k (offered f k) (offered g k)

  abbrev due_in : Set sessions → SenderKey × Offer → List Send
  due_in fired e = cond (has fired e.0.0) (paths_told p true e.0 e.1) []

  -- where the routes are as they were, the ways by which a sender is no more offered are all or none
  tears_at : (k : SenderKey) → tears_of p p f g k ≡ each (λ i. path_tear p (offer_key k i)) (filter (λ i. not (is_some (offered g k))) (outward p k.0 k.1))
  tears_at k =
      ap (each (λ i. path_tear p (offer_key k i)))
      (filter_same (λ i. not (has (offers p g) (offer_key k i))) (λ i. not (is_some (offered g k))) (outward p k.0 k.1)
      (λ i there. ap not (ap is_some (offers_by_way p g (offer_key k i) ∙ ap (λ b. cond b (offered g k) None) (way_of p k i there)))))

  pub tears_gone : (k : SenderKey) (o : Offer) → offered f k ≡ Some o → tears_of p p f g k ≡ told_gone p k (offered f k) (offered g k)
  tears_gone k o was = tears_at k ∙ by (offered g k) ∙ ap (λ w. told_gone p k w (offered g k)) (sym was)
    where
      all : (xs : List ℕ) → filter (λ i. true) xs ≡ xs
      all [] = refl
      all (x ∷ xs) = ap (λ ys. x ∷ ys) (all xs)

      none : (xs : List ℕ) → filter (λ i. false) xs ≡ []
      none [] = refl
      none (x ∷ xs) = none xs

      by : (w : Option Offer) → each (λ i. path_tear p (offer_key k i)) (filter (λ i. not (is_some w)) (outward p k.0 k.1)) ≡ told_gone p k (Some o) w
      by None = ap (each (λ i. path_tear p (offer_key k i))) (all (outward p k.0 k.1))
      by (Some n) = ap (each (λ i. path_tear p (offer_key k i))) (none (outward p k.0 k.1))

  offered_in : (k : SenderKey) → In k (keys (known_offers f)) → (o : Offer) × (offered f k ≡ Some o)
  offered_in k i = let v = some_is (get (known_offers f) k) (in_keys sender_keys (known_offers f) k i) in (v.0, sym (known_at f k) ∙ v.1)

  pub all_gone : (dead : Set sender_keys) → ((k : SenderKey) (o : Offer) → offered f k ≡ Some o → offered g k ≡ None → has dead k ≡ true)
      → path_tears p (offers p f) (offers p g) ≡ gone_told p f g (keys dead)
  all_gone dead within =
      all_tears p p f g ∙ flat_among (tears_of p p f g) tell (keys (known_offers f)) (λ k i. let v = offered_in k i in tears_gone k v.0 v.1)
      ∙ told_by_set sender_keys (known_offers f) dead tell (λ k there off. out k (offered f k) (offered g k) refl refl off)
      (λ k off. ap (λ w. told_gone p k w (offered g k)) (sym (known_at f k) ∙ none_is (get (known_offers f) k) off))
    where
      out : (k : SenderKey) (w v : Option Offer) → offered f k ≡ w → offered g k ≡ v → has dead k ≡ false → told_gone p k w v ≡ []
      out k None v a b off = refl
      out k (Some o) (Some n) a b off = refl
      out k (Some o) None a b off = let z : true ≡ false = sym (within k o a b) ∙ off in absurd (cc)

  -- ---- where nothing new is offered, those of the sessions that came due
  pub paths_again : (fired : Set sessions) → ((k : SenderKey) (o : Offer) → offered g k ≡ Some o → offered f k ≡ Some o) → (e : SenderKey × Offer) → offered g e.0 ≡ Some e.1
      → paths_of p p f g fired e ≡ cond (has fired e.0.0) (paths_told p true e.0 e.1) []
  paths_again fired known e there = ap (λ ss. cond (has fired e.0.0) (paths_told p true e.0 e.1) ss)
      (ap (each (λ i. path_send p false (offer_key e.0 i, e.1))) (none (outward p e.0.0 e.0.1) (λ i h. old i h)))
    where
      old : (i : ℕ) → In i (outward p e.0.0 e.0.1) → is_new_offer p i e.1 (get (offers p f) (offer_key e.0 i)) ≡ false
      old i h =
          ap (is_new_offer p i e.1) (offers_by_way p f (offer_key e.0 i) ∙ ap (λ b. cond b (offered f e.0) None) (way_of p e.0 i h) ∙ known e.0 e.1 there) ∙ not_new p i e.1

      none : (is : List ℕ) → ((i : ℕ) → In i is → is_new_offer p i e.1 (get (offers p f) (offer_key e.0 i)) ≡ false)
          → filter (λ i. is_new_offer p i e.1 (get (offers p f) (offer_key e.0 i))) is ≡ []
      none [] h = refl
      none (i ∷ is) h =
          ap (λ b. cond b (i ∷ filter (λ i. is_new_offer p i e.1 (get (offers p f) (offer_key e.0 i))) is)
          (filter (λ i. is_new_offer p i e.1 (get (offers p f) (offer_key e.0 i))) is)) (h i (inl refl))
          ∙ none is (λ j t. h j (inr t))

  pub all_again : (fired : Set sessions) → ((k : SenderKey) (o : Offer) → offered g k ≡ Some o → offered f k ≡ Some o)
      → path_sends p (offers p f) (offers p g) fired ≡ flat_map (refreshed p g) (keys fired)
  all_again fired known =
      all_paths p p f g fired
      ∙ flat_among (paths_of p p f g fired) (due_in fired) (known_offers g).rows (λ e i. paths_again fired known e (sym (known_at g e.0) ∙ in_found sender_keys (known_offers g) e.0 e.1 i))
      ∙ flat_map_only (λ e. has fired e.0.0) (due_in fired) (λ e off. ap (λ b. cond b (paths_told p true e.0 e.1) []) off) (known_offers g).rows
      ∙ ap (flat_map (due_in fired)) (filter_same (λ e. has fired e.0.0) (λ e. is_among (keys fired) e.0.0) (known_offers g).rows (λ e i. sym (among_keys fired e.0.0))
      ∙ offers_grouped (keys fired) (keys_are_sessions fired) g)
      ∙ by_sessions (keys fired) (λ s i. in_keys sessions fired s i)
    where
      of_one : (s : Session) → has fired s ≡ true → (es : List (Sender × Offer)) → flat_map (due_in fired) (each (offer_of s) es) ≡ flat_map (λ e. paths_told p true (s, e.0) e.1) es
      of_one s t [] = refl
      of_one s t (e ∷ es) = λ i. cond (t i) (paths_told p true (s, e.0) e.1) [] ++ of_one s t es i

      by_sessions : (ss : List Session) → ((s : Session) → In s ss → has fired s ≡ true) → flat_map (due_in fired) (offers_for ss g) ≡ flat_map (refreshed p g) ss
      by_sessions [] h = refl
      by_sessions (s ∷ ss) h =
          flat_map-append (due_in fired) (each (offer_of s) (offers_in g s).rows) (offers_for ss g) ∙ (λ i. of_one s (h s (inl refl)) (offers_in g s).rows i ++ by_sessions ss (λ q j. h q (inr j)) i)

pub senders_are_told : SendersAreTold
senders_are_told = record { tears = all_tears; paths = all_paths; gone = all_gone; refreshed = all_again }
