-- Names that leave a table one after another are what forgetting drops at once.
use Rattle.std.specs.Prelude.{◌≡◌, ℕ, ◌+◌, Bool, true, false, cond, not, ◌&&◌, ◌||◌, ◌==◌, suc, length, List, [], ◌∷◌, Option, Some, None, refl}
use Rattle.std.specs.List.{list_any}
use Rattle.std.specs.FinMap.Entries.{where_key}
use Rattle.std.specs.Option.{option_map}
use Rattle.std.specs.Ordering.{eq_by_cmp}
use Rattle.std.proofs.Common.{sym, ap, ◌∙◌, arith}
use Rattle.std.proofs.lemmas.Bool.{eqb-true}
use Rattle.std.proofs.lemmas.Option.{same_Some}
use Rattle.rsvp_base.specs.Orders.{Names, sessions, senders}
use Rattle.rsvp_base.specs.Sets.{is_none, set_of}
use Rattle.rsvp_base.specs.Keys.{Keys}
use Rattle.rsvp_base.specs.Table.{Table, changed, get, has, kept}
use Rattle.rsvp_base.specs.declared.part.Part.{Part}
use Rattle.rsvp_base.specs.declared.session.Sender.{Sender}
use Rattle.rsvp_base.specs.declared.session.Session.{Session}
use Rattle.rsvp_base.specs.declared.style.StyleKind.{StyleKind}
use Rattle.rsvp_base.proofs.Counts.{has-set_of}
use Rattle.rsvp_base.proofs.SetLaws.{has-kept, same_set}
use Rattle.rsvp_base.proofs.Tables.{get-changed, got_changed, same_table, then_do}
use Rattle.resv_state.specs.Leaving.{forgotten, left_of, stays, with_part}
use Rattle.resv_state.specs.Resvs.{ResvFacts}
use Rattle.resv_state.specs.declared.fact.ResvFact.{ResvFact}
use Rattle.resv_state.specs.StyleRules.CutLaws.{made_named, part_of_itself}
use Rattle.resv_state.specs.StyleRules.Lines.{LineKey, line_keys}
use Rattle.resv_state.specs.StyleRules.Parts.{has_name, part_kept, part_of}
use Rattle.laws_bounds.specs.RouterRules.Asking.{left_of as state_left}
use Rattle.laws_bounds.specs.RouterRules.Facts.{Facts}
use Rattle.laws_bounds.specs.RouterRules.Forgetting.{is_lost, remembered}
use Rattle.router_state.specs.Forgotten.{forgotten_all, is_gone}
use Rattle.router_state.specs.State.{resv_at}
use Rattle.router_state.proofs.Passing.{changed_same, changed_twice}
use Rattle.router_state.proofs.Settling.{unchanged}

abbrev pub Named : ResvFacts → Type 0
Named t = (k : LineKey) (e : ResvFact × ℕ) → get t k ≡ Some e → has_name e.0.part ≡ true

-- what is left of a reservation whose names pass a test
abbrev pub left_by : (Sender → Bool) → ResvFact × ℕ → Option (ResvFact × ℕ)
left_by test e = option_map (with_part e) (part_kept test e.0.part)

-- ---- names
kept_all : (s : Names) → kept (λ x. true) s ≡ s
kept_all s = same_set senders _ _ (λ x. has-kept senders (λ y. true) s x ∙ and_true (has s x))
  where
    and_true : (b : Bool) → (b && true) ≡ b
    and_true true = refl
    and_true false = refl

kept_twice : (p q : Sender → Bool) (s : Names) → kept q (kept p s) ≡ kept (λ x. p x && q x) s
kept_twice p q s = same_set senders _ _ (λ x. has-kept senders q (kept p s) x ∙ ap (λ b. b && q x) (has-kept senders p s x) ∙ assoc (has s x) (p x) (q x)
    ∙ sym (has-kept senders (λ y. p y && q y) s x))
  where
    assoc : (a b c : Bool) → ((a && b) && c) ≡ (a && (b && c))
    assoc true b c = refl
    assoc false b c = refl

none_kept : (q : Sender → Bool) (s : Names) → is_none s ≡ true → is_none (kept q s) ≡ true
none_kept q s e = rows_none s.rows e
  where
    rows_none : (es : List (Sender × Unit {0})) → (length es == 0) ≡ true → (length (where_key senders.cmp q es) == 0) ≡ true
    rows_none [] h = refl
    rows_none (x ∷ es) h = let n : suc (length es) ≡ 0 = eqb-true (suc (length es)) 0 h in absurd (omega (arith, n))

-- ---- one name after another
left_twice : (p q : Sender → Bool) (e : ResvFact × ℕ) → then_do (left_by p e) (left_by q) ≡ left_by (λ x. p x && q x) e
left_twice p q e = by (is_none (kept p e.0.part.senders)) refl
  where
    by : (b : Bool) → is_none (kept p e.0.part.senders) ≡ b
        → then_do (option_map (with_part e) (cond b None (Some (record { senders = kept p e.0.part.senders; flow = e.0.part.flow })))) (left_by q) ≡ left_by (λ x. p x && q x) e
    by true n = sym (ap (λ (s : Names). option_map (with_part e) (part_of s e.0.part.flow)) (sym (kept_twice p q e.0.part.senders))
        ∙ ap (λ b. option_map (with_part e) (cond b None (Some (record { senders = kept q (kept p e.0.part.senders); flow = e.0.part.flow })))) (none_kept q (kept p e.0.part.senders) n))
    by false n = ap (λ (s : Names). option_map (with_part e) (part_of s e.0.part.flow)) (kept_twice p q e.0.part.senders)

abbrev pub remains : List (Session × Sender) → Session → Sender → Bool
remains gone s x = not (list_any (is_gone s x) gone)

one_name : (name x : Sender) → stays (set_of (name ∷ [])) x ≡ not (eq_by_cmp senders.cmp x name)
one_name name x = ap not (has-set_of senders (name ∷ []) x ∙ or_none (eq_by_cmp senders.cmp x name))
  where
    or_none : (b : Bool) → (b || false) ≡ b
    or_none true = refl
    or_none false = refl

-- a call of the table, as a test
as_test : (s : Session) (name : Sender) (k : LineKey) (e : ResvFact × ℕ) → has_name e.0.part ≡ true
    → forgotten s name k e ≡ left_by (λ x. not (eq_by_cmp sessions.cmp s k.0 && eq_by_cmp senders.cmp x name)) e
as_test s name k e named = by (eq_by_cmp sessions.cmp s k.0)
  where
    by : (b : Bool) → cond b (left_of (set_of (name ∷ [])) e) (Some e) ≡ left_by (λ x. not (b && eq_by_cmp senders.cmp x name)) e
    by true = λ i. left_by (λ x. one_name name x i) e
    by false = sym (ap (λ (s : Names). option_map (with_part e) (part_of s e.0.part.flow)) (kept_all e.0.part.senders) ∙ ap (option_map (with_part e)) (part_of_itself e.0.part named))

-- tables changed alike where there is something
changed_there : {K X Y : Type 0} (o : Keys K) (g h : K → X → Option Y) (m : Table o X) → ((k : K) (x : X) → get m k ≡ Some x → g k x ≡ h k x) → changed g m ≡ changed h m
changed_there o g h m e = same_table o _ _ (λ q. get-changed o g m q ∙ by q (get m q) refl ∙ sym (get-changed o h m q))
  where
    by : (q : _) (w : Option _) → get m q ≡ w → then_do w (g q) ≡ then_do w (h q)
    by q None is = refl
    by q (Some x) is = e q x is

left_named : (test : Sender → Bool) (e d : ResvFact × ℕ) → left_by test e ≡ Some d → has_name d.0.part ≡ true
left_named test e d h = by (part_kept test e.0.part) refl h
  where
    by : (w : Option Part) → part_kept test e.0.part ≡ w → option_map (with_part e) w ≡ Some d → has_name d.0.part ≡ true
    by None is h = cc
    by (Some q) is h =
        let same : with_part e q ≡ d = same_Some (with_part e q) d h in
        ap (λ (z : ResvFact × ℕ). has_name z.0.part) (sym same) ∙ made_named (kept test e.0.part.senders) e.0.part.flow q is

still_named : (s : Session) (name : Sender) (t : ResvFacts) → Named t → Named (changed (forgotten s name) t)
still_named s name t named k e h =
    let g = got_changed line_keys (forgotten s name) t k e h in
    left_named _ g.0 e (sym (as_test s name k g.0 (named k g.0 g.1)) ∙ g.2)

left_itself : (e : ResvFact × ℕ) → has_name e.0.part ≡ true → left_by (λ x. true) e ≡ Some e
left_itself e named = ap (λ (s : Names). option_map (with_part e) (part_of s e.0.part.flow)) (kept_all e.0.part.senders) ∙ ap (option_map (with_part e)) (part_of_itself e.0.part named)

-- name after name is all at once
pub left_all : (gs : List (Session × Sender)) (t : ResvFacts) → Named t → forgotten_all gs t ≡ changed (λ k e. left_by (remains gs k.0) e) t
left_all [] t named = sym (unchanged line_keys (λ k e. left_by (remains [] k.0) e) t (λ k e h. left_itself e (named k e h)))
left_all (g ∷ gs) t named =
    left_all gs (changed (forgotten g.0 g.1) t) (still_named g.0 g.1 t named) ∙ changed_twice line_keys (forgotten g.0 g.1) (λ k e. left_by (remains gs k.0) e) t
    ∙ changed_there line_keys _ _ t (λ k e h. ap (λ w. then_do w (left_by (remains gs k.0))) (as_test g.0 g.1 k e (named k e h)) ∙ left_twice _ (remains gs k.0) e
    ∙ (λ i. left_by (λ x. de_morgan (is_gone k.0 x g) (list_any (is_gone k.0 x) gs) i) e))
  where
    de_morgan : (a b : Bool) → (not a && not b) ≡ not (a || b)
    de_morgan true b = refl
    de_morgan false b = refl

-- and is what the rule forgets, where the names are those that are lost
pub forgets : (st : StyleKind) (before after : Facts) (c : ℕ) (gs : List (Session × Sender)) (t : ResvFacts) → Named t
    → ((s : Session) (x : Sender) → list_any (is_gone s x) gs ≡ is_lost st before after s x)
    → changed (resv_at c) (forgotten_all gs t) ≡ changed (remembered st before after) (changed (resv_at c) t)
forgets st before after c gs t named lost =
    ap (changed (resv_at c)) (left_all gs t named) ∙ changed_twice line_keys (λ k e. left_by (remains gs k.0) e) (resv_at c) t ∙ changed_same line_keys _ _ row t
    ∙ sym (changed_twice line_keys (resv_at c) (remembered st before after) t)
  where
    row : (k : LineKey) (e : ResvFact × ℕ) → then_do (left_by (remains gs k.0) e) (resv_at c k)
        ≡ state_left (λ x. not (is_lost st before after k.0 x)) (record { part = e.0.part; confirm = e.0.confirm; dies = c + e.1 })
    row k e = by (part_kept (remains gs k.0) e.0.part) ∙ (λ i. state_left (λ x. not (lost k.0 x i)) (record { part = e.0.part; confirm = e.0.confirm; dies = c + e.1 }))
      where
        by : (w : Option Part) → then_do (option_map (with_part e) w) (resv_at c k) ≡ option_map (λ p. record { part = p; confirm = e.0.confirm; dies = c + e.1 }) w
        by None = refl
        by (Some p) = refl
