-- All senders leave the wildcard reservation of a next hop.
use Rattle.std.specs.Prelude.{◌≡◌, ℕ, Bool, true, false, cond, not, ◌&&◌, ◌||◌, List, [], ◌∷◌, Option, Some, None, refl}
use Rattle.std.specs.List.{list_any}
use Rattle.std.specs.Option.{option_map}
use Rattle.std.specs.Ordering.{eq_by_cmp}
use Rattle.std.proofs.Common.{sym, ap, ◌∙◌, inl, inr}
use Rattle.std.proofs.lemmas.Option.{same_Some}
use Rattle.rsvp_base.specs.Members.{In}
use Rattle.rsvp_base.specs.Orders.{Names, senders, sessions}
use Rattle.rsvp_base.specs.Sets.{is_none}
use Rattle.rsvp_base.specs.Table.{changed, get, has, keys}
use Rattle.rsvp_base.specs.declared.part.Part.{Part}
use Rattle.rsvp_base.specs.declared.session.Session.{Session}
use Rattle.rsvp_base.specs.declared.style.StyleKind.TheVariants.{Wild}
use Rattle.rsvp_base.specs.declared.style.Unit.TheVariants.{One}
use Rattle.rsvp_base.proofs.Counts.{in_found}
use Rattle.rsvp_base.proofs.Fronts.{in_keys}
use Rattle.rsvp_base.proofs.SetLaws.{and_both}
use Rattle.rsvp_base.proofs.Tables.{either, get-changed, got_changed, same_table, then_do, tied_same}
use Rattle.resv_state.specs.Resvs.{AreOfStyle, ResvFacts}
use Rattle.resv_state.specs.declared.fact.ResvFact.{ResvFact}
use Rattle.style_rules.specs.Lines.{LineKey, NextHop, is_of_hop, line_keys, next_hops}
use Rattle.style_rules.proofs.StyleLaws.{a_name, unit_of_names}
use Rattle.router_rules.specs.Asking.{left_of, names_one, stays, torn_resv, torn_resvs}
use Rattle.router_rules.specs.Facts.{ResvState, Resvs}
use Rattle.laws_bounds.proofs.Leaving.{left_nobody}
use Rattle.router_state.specs.State.{resv_at}

-- tests that agree on the members of a list agree on whether one passes
any_same : {A : Type 0} (p q : A → Bool) (xs : List A) → ((x : A) → In x xs → p x ≡ q x) → list_any p xs ≡ list_any q xs
any_same p q [] h = refl
any_same p q (x ∷ xs) h = let here = h x (inl refl) in let rest = any_same p q xs (λ y i. h y (inr i)) in λ j. here j || rest j

any_none : {A : Type 0} (xs : List A) → list_any (λ x. false) xs ≡ false
any_none [] = refl
any_none (x ∷ xs) = any_none xs

-- tables changed alike where there is something
changed_there : (g h : LineKey → ResvState → Option ResvState) (t : Resvs) → ((k : LineKey) (r : ResvState) → get t k ≡ Some r → g k r ≡ h k r) → changed g t ≡ changed h t
changed_there g h t e = same_table line_keys _ _ (λ q. get-changed line_keys g t q ∙ by q (get t q) refl ∙ sym (get-changed line_keys h t q))
  where
    by : (q : LineKey) (w : Option ResvState) → get t q ≡ w → then_do w (g q) ≡ then_do w (h q)
    by q None is = refl
    by q (Some x) is = e q x is

module _ (m : ResvFacts) (styled : AreOfStyle Wild m) (s : Session) (hop : NextHop) (c : ℕ) where
  abbrev key : LineKey
  key = (s, (hop, One))

  abbrev now : Resvs
  now = changed (resv_at c) m

  -- the hop has no other reservation
  only_key : (k : LineKey) (r : ResvState) → get now k ≡ Some r → is_of_hop s hop k ≡ true → k ≡ key
  only_key k r got t =
      let e = got_changed line_keys (resv_at c) m k r got in
      let own = styled.style k e.0 e.1 in
      let x = a_name e.0.0.part.senders (no_not (is_none e.0.0.part.senders) own.named) in
      let unit : k.1.1 ≡ One = (λ j. (sym (styled.key k e.0 e.1) j).1.1) ∙ unit_of_names Wild e.0.0.part x.0 own x.1 in
      let two = and_both (eq_by_cmp sessions.cmp s k.0) (eq_by_cmp next_hops.cmp hop k.1.0) t in
      let session = tied_same sessions s k.0 two.0 in
      let next = tied_same next_hops hop k.1.0 two.1 in
      λ j. (sym session j, (sym next j, unit j))
    where
      no_not : (b : Bool) → not b ≡ true → b ≡ false
      no_not true e = cc
      no_not false e = refl

  -- where it has none
  pub none_of_hop : get m key ≡ None → false ≡ names_one s hop None now
  none_of_hop none = sym (any_same (λ (e : LineKey × ResvState). is_of_hop s hop e.0 && list_any (λ x. not (stays None x)) (keys e.1.part.senders)) (λ e. false) now.rows
      (λ e i. either (is_of_hop s hop e.0) (λ t. absurd (nothing e i t)) (λ f. ap (λ b. b && list_any (λ x. not (stays None x)) (keys e.1.part.senders)) f)) ∙ any_none now.rows)
    where
      nothing : (e : LineKey × ResvState) → In e now.rows → is_of_hop s hop e.0 ≡ true → ⊥
      nothing e i t =
          let got = in_found line_keys now e.0 e.1 i in
          let d = got_changed line_keys (resv_at c) m e.0 e.1 got in
          let z : Some d.0 ≡ None = sym d.1 ∙ ap (get m) (only_key e.0 e.1 got t) ∙ none in
          cc

  module _ (e : ResvFact × ℕ) (there : get m key ≡ Some e) where
    abbrev names : Names
    names = e.0.part.senders

    -- it is this one
    is_this : (k : LineKey) (r : ResvState) → get now k ≡ Some r → is_of_hop s hop k ≡ true → r.part ≡ e.0.part
    is_this k r got t =
        let d = got_changed line_keys (resv_at c) m k r got in
        let same : Some d.0 ≡ Some e = sym d.1 ∙ ap (get m) (only_key k r got t) ∙ there in
        sym (ap (λ (z : ResvState). z.part) (same_Some _ r d.2)) ∙ ap (λ (z : ResvFact × ℕ). z.0.part) (same_Some d.0 e same)

    pub all_names : (b : Bool) → torn_resvs b s hop (Some names) now ≡ torn_resvs b s hop None now
    all_names false = refl
    all_names true = changed_there (torn_resv s hop (Some names)) (torn_resv s hop None) now (λ k r got. either (is_of_hop s hop k)
        (λ t.
        let part = is_this k r got t in
        let all : left_of (stays (Some names)) r ≡ None = left_nobody (stays (Some names)) r (λ x h. ap not (ap (λ (p : Part). has p.senders x) (sym part) ∙ h)) in
        let none : left_of (stays None) r ≡ None = left_nobody (stays None) r (λ x h. refl) in
        ap (λ b. cond b (left_of (stays (Some names)) r) (Some r)) t ∙ all ∙ sym none ∙ sym (ap (λ b. cond b (left_of (stays None) r) (Some r)) t))
        (λ f. ap (λ b. cond b (left_of (stays (Some names)) r) (Some r)) f ∙ sym (ap (λ b. cond b (left_of (stays None) r) (Some r)) f)))

    pub one_name_of_all : names_one s hop (Some names) now ≡ names_one s hop None now
    one_name_of_all = any_same (λ (e : LineKey × ResvState). is_of_hop s hop e.0 && list_any (λ x. not (stays (Some names) x)) (keys e.1.part.senders))
        (λ (e : LineKey × ResvState). is_of_hop s hop e.0 && list_any (λ x. not (stays None x)) (keys e.1.part.senders)) now.rows
        (λ d i. either (is_of_hop s hop d.0)
        (λ t. ap (λ b. is_of_hop s hop d.0 && b) (any_same (λ x. not (stays (Some names) x)) (λ x. not (stays None x)) (keys d.1.part.senders)
        (λ x h. ap (λ b. not (not b)) (ap (λ (p : Part). has p.senders x) (sym (is_this d.0 d.1 (in_found line_keys now d.0 d.1 i) t)) ∙ in_keys senders d.1.part.senders x h))))
        (λ f. ap (λ b. b && list_any (λ x. not (stays (Some names) x)) (keys d.1.part.senders)) f ∙ sym (ap (λ b. b && list_any (λ x. not (stays None x)) (keys d.1.part.senders)) f)))

-- what a search found
pub found_fact : (w : Option (ResvFact × ℕ)) (f : ResvFact) → Some f ≡ option_map (λ e. e.0) w → (e : ResvFact × ℕ) × (w ≡ Some e) × (e.0 ≡ f)
found_fact None f e = absurd (cc)
found_fact (Some d) f e = (d, refl, sym (same_Some f d.0 e))

pub no_fact : (w : Option (ResvFact × ℕ)) → None ≡ option_map (λ e. e.0) w → w ≡ None
no_fact None e = refl
no_fact (Some d) e = absurd (cc)
