-- What pays for the sends of a node: those for its Paths and its Resvs, since nobody pays for anything else; and where it offers what it offered,
-- no Path is sent.
use Rattle.std.proofs.Common.{◌≡◌, ℕ, ◌+◌, List, [], ◌∷◌, ◌++◌, length, Bool, true, false, cond, Some, arith, sym, refl, ap, ◌∙◌}
use Rattle.std.specs.Prelude.{map as each, not, ◌||◌}
use Rattle.std.specs.List.{filter, flat_map}
use Rattle.std.proofs.lemmas.List.{length-append}
use Rattle.rsvp_base.specs.Orders.{sessions}
use Rattle.rsvp_base.specs.Sets.{Set, is_none}
use Rattle.rsvp_base.specs.Table.{empty, get, has, keys}
use Rattle.rsvp_base.proofs.Counts.{in_found}
use Rattle.rsvp_base.proofs.Fronts.{in_filter_map}
use Rattle.rsvp_base.proofs.SetLaws.{and_made}
use Rattle.laws_bounds.proofs.Lists.{none_in, passed}
use Rattle.laws_bounds.proofs.Tests.{flow_tested}
use Rattle.router_rules.specs.Facts.{Facts}
use Rattle.router_rules.specs.Inputs.{Change, ErrMsg, ErrSend, OfPath, OfResv, Send}
use Rattle.router_rules.specs.Known.{Lane, lanes}
use Rattle.router_rules.specs.NodeConfig.{NodeConfig}
use Rattle.router_rules.specs.Offers.{Offer, Offers, offer_keys, offers}
use Rattle.router_rules.specs.Sends.{conf_send, conf_sends, confirmed, error_message, error_send, error_sends, is_new_offer, path_send, path_send_of, path_sends, path_tear, path_tears, resv_sends, resv_tear, resv_tear_send, resv_tears, sends, told_at, torn_names}
use Rattle.router_rules.proofs.AdspecPath.Same.{same_is_equal}
use Rattle.network_model.specs.Links.{all_copies, copies_of, copy_to, goes_to}
use Rattle.network_model.specs.Locals.{locals_of}
use Rattle.network_model.specs.Worlds.{World}
use Rattle.tree_model.specs.Networks.{end_at}
use Rattle.settle_openings.specs.Waves.{payers_of}
use Rattle.settle_openings.proofs.WaveCounts.{flat_append}
use Rattle.settle_openings.proofs.WaveResvs.{pay}

module _ (u : World) (n : ℕ) where
  -- who pays for what the node sends, all together
  abbrev pub paid : List Send → ℕ
  paid ss = length (flat_map (pay u) (all_copies u.net u.made n ss))

  pub paid_append : (xs ys : List Send) → paid (xs ++ ys) ≡ paid xs + paid ys
  paid_append xs ys =
      let a = ap (λ z. length (flat_map (pay u) z)) (flat_append (copies_of u.net u.made n) xs ys) in
      let b = ap length (flat_append (pay u) (all_copies u.net u.made n xs) (all_copies u.net u.made n ys)) in
      let c = length-append (flat_map (pay u) (all_copies u.net u.made n xs)) (flat_map (pay u) (all_copies u.net u.made n ys)) in
      omega (arith, a, b, c)

  -- nobody pays for the send
  abbrev IsFree : Send → Type 0
  IsFree s = (e : ℕ) → payers_of u.net (locals_of u) e s.message ≡ []

  free_copies : (s : Send) → IsFree s → (es : List ℕ) → flat_map (pay u) (each (copy_to u.made s) es) ≡ []
  free_copies s free [] = refl
  free_copies s free (e ∷ es) = (λ i. free e i ++ flat_map (pay u) (each (copy_to u.made s) es)) ∙ free_copies s free es

  paid_one : (s : Send) → IsFree s → paid (s ∷ []) ≡ 0
  paid_one s free =
      let a = ap length (flat_append (pay u) (copies_of u.net u.made n s) []) in
      let b = length-append (flat_map (pay u) (copies_of u.net u.made n s)) [] in
      let c = ap length (free_copies s free (goes_to u.net (end_at u.net.ends n s.iface) s.dst)) in
      omega (arith, a, b, c)

  paid_each : {A : Type 0} (f : A → Send) (xs : List A) → ((x : A) → IsFree (f x)) → paid (each f xs) ≡ 0
  paid_each f [] free = refl
  paid_each f (x ∷ xs) free =
      let a = paid_append (f x ∷ []) (each f xs) in
      let b = paid_one (f x) (free x) in
      let c = paid_each f xs free in
      omega (arith, a, b, c)

  paid_flat : {A : Type 0} (g : A → List Send) (xs : List A) → ((x : A) → paid (g x) ≡ 0) → paid (flat_map g xs) ≡ 0
  paid_flat g [] free = refl
  paid_flat g (x ∷ xs) free =
      let a = paid_append (g x) (flat_map g xs) in
      let b = free x in
      let c = paid_flat g xs free in
      omega (arith, a, b, c)

  free_error : (x : ErrSend) → IsFree (error_send x)
  free_error x e = by x.error
    where
      by : (m : ErrMsg) → payers_of u.net (locals_of u) e (error_message m) ≡ []
      by (OfPath m) = refl
      by (OfResv m) = refl

  -- ---- all that it sends
  pub paid_sends : (old p : NodeConfig) (f g : Facts) (k : Change) → paid (sends old p f g k) ≡ paid (path_sends p (offers old f) (offers p g) k.fired) + paid (resv_sends old p f g k.fired k.asked)
  paid_sends old p f g k =
      let a = path_tears p (offers old f) (offers p g) in
      let b = resv_tears old p f g in
      let c = error_sends k.errors in
      let d = conf_sends (k.confs ++ confirmed old p f g k.asked) in
      let x = path_sends p (offers old f) (offers p g) k.fired in
      let y = resv_sends old p f g k.fired k.asked in
      let na : paid a ≡ 0 = paid_each (path_tear p) (filter (λ i. not (has (offers p g) i)) (keys (offers old f))) (λ i e. refl) in
      let nb : paid b ≡ 0 = paid_flat (resv_tear old p f g) (keys (lanes f)) (λ l. torn l (is_none (torn_names old p f g l))) in
      let nc : paid c ≡ 0 = paid_each error_send _ free_error in
      let nd : paid d ≡ 0 = paid_each conf_send _ (λ z e. refl) in
      let s1 = paid_append a (b ++ (c ++ (d ++ (x ++ y)))) in
      let s2 = paid_append b (c ++ (d ++ (x ++ y))) in
      let s3 = paid_append c (d ++ (x ++ y)) in
      let s4 = paid_append d (x ++ y) in
      let s5 = paid_append x y in
      omega (arith, na, nb, nc, nd, s1, s2, s3, s4, s5)
    where
      torn : (l : Lane) (t : Bool) → paid (cond t [] (resv_tear_send p g l (torn_names old p f g l) ∷ [])) ≡ 0
      torn l true = refl
      torn l false = paid_one (resv_tear_send p g l (torn_names old p f g l)) (λ e. refl)

-- ---- where it offers what it offered, and no session is due, no Path is sent
pub same_itself : (p : NodeConfig) (i : ℕ) (o : Offer) → is_new_offer p i o (Some o) ≡ false
same_itself p i o = ap not (and_made _ _ (flow_tested o.tspec o.tspec refl) ((same_is_equal (told_at p i o) (told_at p i o)).1 refl))

pub no_paths : (p : NodeConfig) (t : Offers) → path_sends p t t empty ≡ []
no_paths p t =
    none_in (path_sends p t t empty)
    (λ s j.
    let due : Set sessions = empty in
    let r = in_filter_map (path_send_of p t empty) s t.rows j in
    let there = in_found offer_keys t r.0.0 r.0.1 r.1 in
    let w = passed (has due r.0.0.session || is_new_offer p r.0.0.iface r.0.1 (get t r.0.0)) (Some (path_send p (has due r.0.0.session) r.0)) s r.2 in
    let bad : true ≡ false = sym w.0 ∙ ap (is_new_offer p r.0.0.iface r.0.1) there ∙ same_itself p r.0.0.iface r.0.1 in
    cc)

pub offers_alike : (p : NodeConfig) (f g : Facts) → g.senders ≡ f.senders → g.advertised ≡ f.advertised → g.paths ≡ f.paths → offers p g ≡ offers p f
offers_alike p f g a b c = λ i. offers p (record f { senders = a i; advertised = b i; paths = c i })
