-- What a call asks for, put among the wants, and all wants of a session taken out.
use Rattle.std.specs.Prelude.{◌≡◌, ℕ, suc, ◌+◌, ◌-◌, ◌≤◌, ◌||◌, nat_le, nat_lt, Bool, true, false, cond, not, is_some, List, [], ◌∷◌, map as each, length, Option, Some, None, refl}
use Rattle.std.proofs.Common.{T, sym, ap, ◌∙◌, inl, inr, arith}
use Rattle.std.proofs.lemmas.Bool.{both_ways}
use Rattle.std.proofs.lemmas.Bool.Decides.{nat_tests}
use Rattle.std.proofs.lemmas.List.{length-map}
use Rattle.std.specs.FinMap.Entries.{below_all, find, is_some-find, is_sorted}
use Rattle.std.specs.List.{filter, list_any}
use Rattle.std.specs.Ordering.{eq_by_cmp, is_lt}
use Rattle.rsvp_base.specs.Members.{In}
use Rattle.rsvp_base.specs.Orders.{Names, senders, sessions, units}
use Rattle.rsvp_base.specs.Table.{first, get, has, kept, keys, put_in, second, size, with_rows}
use Rattle.rsvp_base.specs.TokenBucket.{TokenBucket}
use Rattle.rsvp_base.specs.Under.{under}
use Rattle.rsvp_base.specs.declared.session.Sender.{Sender}
use Rattle.rsvp_base.specs.declared.session.Session.{Session}
use Rattle.rsvp_base.specs.declared.style.StyleKind.{StyleKind}
use Rattle.rsvp_base.specs.declared.style.StyleKind.TheVariants.{Wild, Fixed, Shared}
use Rattle.rsvp_base.specs.declared.style.Unit.{Unit as UnitOf}
use Rattle.rsvp_base.specs.declared.style.Unit.TheVariants.{One, Of}
use Rattle.rsvp_base.proofs.Filters.{filter_same}
use Rattle.rsvp_base.proofs.Members.{in_each}
use Rattle.rsvp_base.proofs.SessionCounts.{size_under}
use Rattle.rsvp_base.proofs.Tables.{either, get-kept, get-put_in_other, holds, same_table, tied_same}
use Rattle.rsvp_base.proofs.UnderLaws.{get-under}
use Rattle.router_rules.specs.Calls.{unless, wanted}
use Rattle.router_rules.specs.Facts.{Want, WantKey, Wants, want_keys}
use Rattle.router_rules.specs.NodeConfig.{is_session}
use Rattle.laws_bounds.proofs.Once.{not_below_itself}
use Rattle.local_state.specs.Wants.{asked_row}
use Rattle.local_state.specs.declared.wants.LocalWant.{LocalWant}
use Rattle.router_arrivals.specs.Asked.{fixed_want, is_new}
use Rattle.router_arrivals.proofs.Putting.{away, put_all, turned}

-- at most 16, by how many there are and how many are new
few_by : (all new n : ℕ) → all ≡ n + new → n ≤ 16 → nat_le new (16 - n) ≡ nat_le all 16
few_by all new n is few = grind (arith, nat_tests)

-- ---- how many units there are with those of some senders
any_unit : (u : UnitOf) (ws : List LocalWant) → list_any (λ w. eq_by_cmp units.cmp u w.unit) ws ≡ list_any (eq_by_cmp units.cmp u) (each (λ e. e.0) (each asked_row ws))
any_unit u [] = refl
any_unit u (w ∷ ws) = ap (λ b. eq_by_cmp units.cmp u w.unit || b) (any_unit u ws)

module _ (s : Session) (h : Sender → Want) where
  abbrev lacks : Wants → Sender → Bool
  lacks m x = not (has m (s, Of x))

  new_is : (m : Wants) (ws : List LocalWant) → each asked_row ws ≡ (under sessions units m s).rows → (x : Sender) → is_new ws x ≡ lacks m x
  new_is m ws rows x =
      ap not
      (any_unit (Of x) ws ∙ ap (λ es. list_any (eq_by_cmp units.cmp (Of x)) (each (λ e. e.0) es)) rows
      ∙ sym (is_some-find units.cmp (Of x) (under sessions units m s).rows) ∙ ap is_some (get-under sessions units m s (Of x)))

  apart : (x y : Sender) → (x ≡ y → ⊥) → eq_by_cmp want_keys.cmp (s, Of x) (s, Of y) ≡ false
  apart x y ne =
      either (eq_by_cmp want_keys.cmp (s, Of x) (s, Of y))
      (λ t.
      let same = tied_same want_keys (s, Of x) (s, Of y) t in
      let unit : ◌≡◌ {A = UnitOf} (Of x) (Of y) = λ k. (same k).1 in
      absurd (ne (cc)))
      (λ t. t)

  above : (x : Sender) (y : Sender × Unit {0}) (es : List (Sender × Unit {0})) → T (below_all senders.cmp x es) → In y es → is_lt (senders.cmp x y.0) ≡ true
  above x y [] b i = absurd i
  above x y (e ∷ es) b i = elim i [ inl is ↦ ap (λ (z : Sender × Unit {0}). is_lt (senders.cmp x z.0)) is ∙ holds _ (first _ _ b) | inr j ↦ above x y es (second _ _ b) j ]

  counted : (es : List (Sender × Unit {0})) (m : Wants) → T (is_sorted senders.cmp es)
      → size (under sessions units (put_all units s Of h m (each (λ e. e.0) es)) s) ≡ size (under sessions units m s) + length (filter (lacks m) (each (λ e. e.0) es))
  counted [] m up = omega arith
  counted (e ∷ es) m up =
      let n : Wants = put_in m (s, Of e.0) (h e.0) in
      let same : filter (lacks n) (each (λ e. e.0) es) ≡ filter (lacks m) (each (λ e. e.0) es) =
      filter_same (lacks n) (lacks m) (each (λ e. e.0) es)
      (λ x i.
      let r = in_each (λ (e : Sender × Unit {0}). e.0) x es i in
      let lt = above e.0 r.0 es (first _ _ up) r.1 in
      let ne : x ≡ e.0 → ⊥ = λ is. let z : true ≡ false = sym lt ∙ ap (λ y. is_lt (senders.cmp e.0 y)) (sym r.2 ∙ is) ∙ not_below_itself senders e.0 in cc in
      ap (λ (v : Option Want). not (is_some v)) (get-put_in_other want_keys m (s, Of e.0) (h e.0) (s, Of x) (apart x e.0 ne))) in
      let rest = counted es n (second _ _ up) ∙ ap (λ xs. size (under sessions units n s) + length xs) same in
      rest ∙ ap (λ k. k + length (filter (lacks m) (each (λ e. e.0) es))) (size_under units m s (Of e.0) (h e.0)) ∙ by (has m (s, Of e.0)) (filter (lacks m) (each (λ e. e.0) es))
    where
      by : (b : Bool) (xs : List Sender) → cond b (size (under sessions units m s)) (size (under sessions units m s) + 1) + length xs
          ≡ size (under sessions units m s) + length (cond (not b) (e.0 ∷ xs) xs)
      by true xs = refl
      by false xs = omega arith

  count_is : (names : Names) (m : Wants) (ws : List LocalWant) → each asked_row ws ≡ (under sessions units m s).rows
      → size (under sessions units (put_all units s Of h m (keys names)) s) ≡ size (under sessions units m s) + length (filter (is_new ws) (keys names))
  count_is names m ws rows =
      counted names.rows m names.sorted ∙ ap (λ xs. size (under sessions units m s) + length xs) (filter_same (lacks m) (is_new ws) (keys names) (λ x i. sym (new_is m ws rows x)))

  -- so whether there are at most 16 is told by those that are there and those that are new
  pub room_is : (names : Names) (m : Wants) (ws : List LocalWant) (list : List Sender) (new : ℕ) → each asked_row ws ≡ (under sessions units m s).rows → list ≡ keys names
      → new ≡ length (filter (is_new ws) list) → length ws ≤ 16
      → nat_le new (16 - length ws) ≡ nat_le (size (under sessions units (put_all units s Of h m (keys names)) s)) 16
  room_is names m ws list new rows is count few =
      let there : size (under sessions units m s) ≡ length ws = sym (sym (length-map ws asked_row) ∙ ap length rows) in
      let fresh : length (filter (is_new ws) (keys names)) ≡ new = sym (count ∙ ap (λ xs. length (filter (is_new ws) xs)) is) in
      few_by _ new (length ws) (count_is names m ws rows ∙ (λ i. there i + fresh i)) few

-- ---- of other sessions nothing changes
pub wanted_away : (s : Session) (st : StyleKind) (names : Names) (flow : TokenBucket) (mark : Bool) (m : Wants) (j : WantKey) → eq_by_cmp sessions.cmp s j.0 ≡ false
    → get m j ≡ get (with_rows m (wanted s st names flow mark)) j
wanted_away s Wild names flow mark m j off = away units s (λ (x : Unit {0}). One) (λ x. wanted_one) (tt ∷ []) m j off
  where
    wanted_one : Want
    wanted_one = record { style = Wild; part = record { senders = record { rows = []; sorted = tt }; flow = flow }; confirm = mark }
wanted_away s Fixed names flow mark m j off = away units s Of (fixed_want flow mark) (keys names) m j off
wanted_away s Shared names flow mark m j off = away units s (λ (x : Unit {0}). One) (λ x. wanted_one) (tt ∷ []) m j off
  where
    wanted_one : Want
    wanted_one = record { style = Shared; part = record { senders = names; flow = flow }; confirm = mark }

-- what is refused changes nothing, and what is not is as it was where nothing is to change
pub unless_same : {E X : Type 0} (o : Option E) (x : X) → x ≡ unless o x x
unless_same None x = refl
unless_same (Some e) x = refl

pub asked_away : {E : Type 0} (o : Option E) (s : Session) (st : StyleKind) (names : Names) (flow : TokenBucket) (mark : Bool) (m new : Wants)
    → new ≡ unless o (with_rows m (wanted s st names flow mark)) m
    → (j : WantKey) → eq_by_cmp sessions.cmp s j.0 ≡ false → get m j ≡ get new j
asked_away None s st names flow mark m new is j off = wanted_away s st names flow mark m j off ∙ ap (λ (t : Wants). get t j) (sym is)
asked_away (Some e) s st names flow mark m new is j off = ap (λ (t : Wants). get t j) (sym is)

-- ---- all wants of a session taken out
module _ (m : Wants) (s : Session) where
  abbrev pub left : Wants
  left = kept (λ k. not (is_session k.0 s)) m

  pub left_away : (j : WantKey) → eq_by_cmp sessions.cmp s j.0 ≡ false → get m j ≡ get left j
  left_away j off = sym (get-kept want_keys (λ k. not (is_session k.0 s)) m j ∙ ap (λ b. cond (not b) (get m j) None) (turned s j.0 off))

  nothing : (b : UnitOf) (es : List (UnitOf × Want)) → nat_lt 0 (length es) ≡ false → find units.cmp b es ≡ None
  nothing b [] none = refl
  nothing b (e ∷ es) none = absurd (both_ways _ none (some (length es)))
    where
      some : (n : ℕ) → nat_lt 0 (suc n) ≡ true
      some n = grind (arith, nat_tests)

  -- where there are none
  pub none_left : nat_lt 0 (size (under sessions units m s)) ≡ false → left ≡ m
  none_left none =
      same_table want_keys _ _ (λ q. get-kept want_keys (λ k. not (is_session k.0 s)) m q ∙ either (is_session q.0 s)
      (λ t.
      ap (λ b. cond (not b) (get m q) None) t
      ∙ sym (sym (get-under sessions units m q.0 q.1) ∙ ap (λ z. get (under sessions units m z) q.1) (tied_same sessions q.0 s t) ∙ nothing q.1 (under sessions units m s).rows none))
      (λ f. ap (λ b. cond (not b) (get m q) None) f))
