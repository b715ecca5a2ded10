-- What is left of reservations when names leave them.
use Rattle.std.proofs.Common.{◌≡◌, ℕ, Bool, true, false, cond, not, ◌&&◌, is_some, List, [], ◌∷◌, Option, Some, None, refl, sym, ap, subst, ◌∙◌}
use Rattle.std.specs.FinMap.Entries.{find}
use Rattle.std.specs.Option.{option_map}
use Rattle.std.specs.Ordering.{eq_by_cmp}
use Rattle.rsvp_base.specs.Members.{In}
use Rattle.rsvp_base.specs.Orders.{Names, senders}
use Rattle.rsvp_base.specs.Rows.{AreRows, table_of}
use Rattle.rsvp_base.specs.Sets.{cut, is_none, IsWithin}
use Rattle.rsvp_base.specs.Table.{Table, get, has, kept, without, put_in, changed, changed_rows}
use Rattle.rsvp_base.specs.declared.part.Part.{Part}
use Rattle.rsvp_base.specs.declared.session.Sender.{Sender}
use Rattle.rsvp_base.specs.declared.style.StyleKind.{StyleKind}
use Rattle.rsvp_base.proofs.Counts.{found_in}
use Rattle.rsvp_base.proofs.Members.{in_each}
use Rattle.rsvp_base.proofs.SetLaws.{has-kept, has-cut, same_set, and_both}
use Rattle.rsvp_base.proofs.Tables.{either, tied_same, tied_self, then_do, same_table, get-put_in_same, get-put_in_other, get-without, get-changed, got_changed}
use Rattle.style_rules.specs.CutLaws.{made_of, part_of_itself, some_within}
use Rattle.style_rules.specs.Limits.{IsWithinLimits}
use Rattle.style_rules.specs.Lines.{LineKey, line_keys}
use Rattle.style_rules.specs.PartLaws.{part_at_most_itself}
use Rattle.style_rules.specs.Parts.{IsOfStyle, IsPartAtMost, has_name, part_of, part_kept}
use Rattle.style_rules.proofs.StyleLaws.{a_name, within_style, within_unit}
use Rattle.flow_merge.specs.FlowOrder.{IsAtMost}
use Rattle.soft_table.specs.Facts.{facts_by}
use Rattle.soft_table.proofs.Valued.{valued-changed}
use Rattle.resv_state.specs.declared.fact.Held.{Held}
use Rattle.resv_state.specs.declared.fact.ResvFact.{ResvFact}
use Rattle.resv_state.specs.Resvs.{ResvFacts, AreOfStyle, resv_key, resv_lines, held_key, held_row, fact_of}
use Rattle.resv_state.specs.Leaving.{stays, with_part, left_of, has_one, lessened, key_has_one, held_with, held_left, held_lessened, held_has_one}
use Rattle.resv_state.proofs.Facts.{said, limits_below}

-- ---- parts
abbrev alone : Sender → Names
alone q = record { rows = (q, tt) ∷ []; sorted = tt }

abbrev tested : Bool → Option (Unit {0})
tested b = cond b (Some tt) None

one_within : (s : Names) (q : Sender) → has s q ≡ true → IsWithin (alone q) s
one_within s q h k is =
    either (eq_by_cmp senders.cmp k q)
    (λ tie. ap (has s) (tied_same senders k q tie) ∙ h)
    (λ no. let z : false ≡ true = sym (ap (λ b. is_some (tested b)) no) ∙ is in absurd (cc))

none_there : (s : Names) (q : Sender) → is_none s ≡ true → has s q ≡ false
none_there s q e =
    either (has s q)
    (λ h. let some = some_within (alone q) s (one_within s q h) refl in let z : true ≡ false = sym e ∙ some in absurd (cc))
    (λ h. h)

pub stay_all : (gone s : Names) → is_none (cut s gone) ≡ true → kept (stays gone) s ≡ s
stay_all gone s none = same_set senders _ s (λ q. has-kept senders (stays gone) s q ∙ by (has s q) (has gone q) (sym (has-cut senders s gone q) ∙ none_there (cut s gone) q none))
  where
    by : (a b : Bool) → (a && b) ≡ false → (a && not b) ≡ a
    by true true e = cc
    by true false e = refl
    by false b e = refl

no_not : (b : Bool) → not b ≡ false → b ≡ true
no_not true e = refl
no_not false e = cc

yes_not : (b : Bool) → not b ≡ true → b ≡ false
yes_not true e = cc
yes_not false e = refl

-- a part that has none of the names stays as it is
pub whole : (gone : Names) (p : Part) → has_one gone p ≡ false → has_name p ≡ true → part_kept (stays gone) p ≡ Some p
whole gone p none named = ap (λ s. part_of s p.flow) (stay_all gone p.senders (no_not _ none)) ∙ part_of_itself p named

-- what is left is less, and of the style
pub left_within : (gone : Names) (p x : Part) → part_kept (stays gone) p ≡ Some x → IsWithin x.senders p.senders
left_within gone p x is q h =
    let m = made_of (kept (stays gone) p.senders) p.flow x is in
    (and_both (has p.senders q) (stays gone q) (sym (has-kept senders (stays gone) p.senders q) ∙ ap (λ s. has s q) (sym m.senders) ∙ h)).0

pub left_named : (gone : Names) (p x : Part) → part_kept (stays gone) p ≡ Some x → has_name x ≡ true
left_named gone p x is = let m = made_of (kept (stays gone) p.senders) p.flow x is in ap (λ s. not (is_none s)) m.senders ∙ ap not m.some

pub left_below : (gone : Names) (p x : Part) → part_kept (stays gone) p ≡ Some x → IsPartAtMost x p
left_below gone p x is =
    let m = made_of (kept (stays gone) p.senders) p.flow x is in
    record { names = left_within gone p x is; flow = subst (λ f. IsAtMost f p.flow) (sym m.flow) (part_at_most_itself p).flow }

pub left_style : (st : StyleKind) (gone : Names) (p x : Part) → IsOfStyle st p → part_kept (stays gone) p ≡ Some x → IsOfStyle st x
left_style st gone p x own is = within_style st p x own (left_named gone p x is) (left_within gone p x is)

-- what is left has none of the names
pub none_left : (gone : Names) (p x : Part) → part_kept (stays gone) p ≡ Some x → has_one gone x ≡ false
none_left gone p x is =
    let m = made_of (kept (stays gone) p.senders) p.flow x is in
    either (is_none (cut x.senders gone))
    (λ none. ap not none)
    (λ some.
    let q = a_name (cut x.senders gone) some in
    let two = and_both (has x.senders q.0) (has gone q.0) (sym (has-cut senders x.senders gone q.0) ∙ q.1) in
    let own = and_both (has p.senders q.0) (stays gone q.0) (sym (has-kept senders (stays gone) p.senders q.0) ∙ ap (λ s. has s q.0) (sym m.senders) ∙ two.0) in
    let z : true ≡ false = sym two.1 ∙ yes_not (has gone q.0) own.1 in
    absurd (cc))

-- ---- a row of a table
pub same_left : (h was : Held) (a b : ℕ) → ◌≡◌ {A = Option (Held × ℕ)} (Some (h, a)) (Some (was, b)) → a ≡ b
same_left h was a b e = let two : ◌≡◌ {A = Held × ℕ} (h, a) (was, b) = cc in ap (λ (z : Held × ℕ). z.1) two

pub then_same : {X : Type 0} (w : Option X) → then_do w (λ x. Some x) ≡ w
then_same None = refl
then_same (Some x) = refl

pub own_key : (k : LineKey) (fs : List (Held × ℕ)) (e : Held × ℕ) → In (k, e) (facts_by held_key fs) → held_key e.0 ≡ k
own_key k fs e i = let x = in_each held_row (k, e) fs i in ap (λ (z : LineKey × (Held × ℕ)). held_key z.1.0) x.2 ∙ sym (ap (λ (z : LineKey × (Held × ℕ)). z.0) x.2)

module _ (fs : List (Held × ℕ)) (up : AreRows line_keys held_row fs) (k : LineKey) (gone : Names) where
  abbrev t : Table line_keys (Held × ℕ)
  t = table_of line_keys held_row fs up

  -- a table of other rows alike, and what is left of this one
  made : (n : Table line_keys (Held × ℕ)) → ((q : LineKey) → eq_by_cmp line_keys.cmp q k ≡ false → get n q ≡ get t q)
      → get n k ≡ then_do (get t k) (λ e. option_map (λ h. (h, e.1)) (held_left gone e.0)) → n ≡ changed (held_lessened k gone) t
  made n others here =
      same_table line_keys n _ (λ q. either (eq_by_cmp line_keys.cmp q k)
      (λ tie.
      let is = tied_same line_keys q k tie in
      ap (get n) is ∙ here ∙ ap (λ z. then_do (get t z) (λ e. option_map (λ h. (h, e.1)) (held_left gone e.0))) (sym is)
      ∙ sym (get-changed line_keys (held_lessened k gone) t q ∙ ap (λ b. then_do (get t q) (λ (e : Held × ℕ). cond b (option_map (λ h. (h, e.1)) (held_left gone e.0)) (Some e))) tie))
      (λ no. others q no ∙ sym (get-changed line_keys (held_lessened k gone) t q ∙ ap (λ b. then_do (get t q) (λ (e : Held × ℕ). cond b (option_map (λ h. (h, e.1)) (held_left gone e.0)) (Some e))) no
      ∙ then_same (get t q))))

  rows_made : (n : Table line_keys (Held × ℕ)) → n ≡ changed (held_lessened k gone) t → n.rows ≡ changed_rows (held_lessened k gone) (facts_by held_key fs)
  rows_made n is = ap (λ (z : Table line_keys (Held × ℕ)). z.rows) is

  -- no row
  pub nothing_there : (r : Option Held) → r ≡ None → r ≡ option_map (λ e. e.0) (find line_keys.cmp k (facts_by held_key fs)) → get t k ≡ None
  nothing_there r e is = by (get t k) (sym e ∙ is)
    where
      by : (w : Option (Held × ℕ)) → None ≡ option_map (λ e. e.0) w → w ≡ None
      by None e = refl
      by (Some x) e = cc

  pub no_row : get t k ≡ None → facts_by held_key fs ≡ changed_rows (held_lessened k gone) (facts_by held_key fs)
  no_row none = rows_made t (made t (λ q e. refl) (none ∙ ap (λ w. then_do w (λ e. option_map (λ h. (h, e.1)) (held_left gone e.0))) (sym none)))

  -- a row
  pub some_there_is : (h : Held) → Some h ≡ option_map (λ e. e.0) (find line_keys.cmp k (facts_by held_key fs)) → (left : ℕ) × (get t k ≡ Some (h, left))
  some_there_is h is = by (get t k) is
    where
      by : (w : Option (Held × ℕ)) → Some h ≡ option_map (λ e. e.0) w → (left : ℕ) × (w ≡ Some (h, left))
      by None e = cc
      by (Some x) e = let same : h ≡ x.0 = cc in (x.1, λ i. Some (sym same i, x.1))

  -- that has none of the names
  pub row_stays : (h : Held) (left : ℕ) → get t k ≡ Some (h, left) → has_one gone h.fact.part ≡ false → has_name h.fact.part ≡ true
      → facts_by held_key fs ≡ changed_rows (held_lessened k gone) (facts_by held_key fs)
  row_stays h left at none named =
      rows_made t (made t (λ q e. refl) (at ∙ sym (ap (λ w. then_do w (λ e. option_map (λ h. (h, e.1)) (held_left gone e.0))) at
      ∙ ap (λ w. option_map (λ z. (z, left)) (option_map (held_with h) w)) (whole gone h.fact.part none named))))

  -- of which something is left
  pub row_less : (h x : Held) (left : ℕ) → get t k ≡ Some (h, left) → held_left gone h ≡ Some x → (rows : List (LineKey × (Held × ℕ))) → rows ≡ (put_in t (held_key x) (x, left)).rows → held_key x ≡ k
      → rows ≡ changed_rows (held_lessened k gone) (facts_by held_key fs)
  row_less h x left at is rows are own =
      are ∙ ap (λ z. (put_in t z (x, left)).rows) own
      ∙ rows_made (put_in t k (x, left)) (made (put_in t k (x, left)) (λ q e. get-put_in_other line_keys t k (x, left) q e)
      (get-put_in_same line_keys t k (x, left) ∙ sym (ap (λ w. then_do w (λ e. option_map (λ h. (h, e.1)) (held_left gone e.0))) at ∙ ap (option_map (λ z. (z, left))) is)))

  -- of which nothing is left
  pub row_gone : (h : Held) (left : ℕ) → get t k ≡ Some (h, left) → held_left gone h ≡ None → (without t k).rows ≡ changed_rows (held_lessened k gone) (facts_by held_key fs)
  row_gone h left at is =
      rows_made (without t k) (made (without t k) (λ q e. get-without line_keys t k q ∙ ap (λ b. cond (not b) (get t q) None) (turned q e))
      (get-without line_keys t k k ∙ ap (λ b. cond (not b) (get t k) None) (tied_self line_keys k)
      ∙ sym (ap (λ w. then_do w (λ e. option_map (λ h. (h, e.1)) (held_left gone e.0))) at ∙ ap (option_map (λ z. (z, left))) is)))
    where
      turned : (q : LineKey) → eq_by_cmp line_keys.cmp q k ≡ false → eq_by_cmp line_keys.cmp k q ≡ false
      turned q e =
          either (eq_by_cmp line_keys.cmp k q)
          (λ tie. let z : false ≡ true = sym e ∙ ap (λ w. eq_by_cmp line_keys.cmp w k) (sym (tied_same line_keys k q tie)) ∙ tied_self line_keys k in absurd (cc))
          (λ f. f)

  pub left_key : (h x : Held) (left : ℕ) → get t k ≡ Some (h, left) → held_left gone h ≡ Some x → held_key x ≡ k
  left_key h x left at is = same (part_kept (stays gone) h.fact.part) is ∙ own_key k fs (h, left) (found_in line_keys t k (h, left) at)
    where
      same : (w : Option Part) → option_map (held_with h) w ≡ Some x → held_key x ≡ held_key h
      same None e = cc
      same (Some p) e = let here : held_with h p ≡ x = cc in ap held_key (sym here)

-- ---- the map of reservations
pub less_said : (k : LineKey) (gone : Names) (t : Table line_keys (Held × ℕ)) → changed fact_of (changed (held_lessened k gone) t) ≡ changed (lessened k gone) (changed fact_of t)
less_said k gone t = valued-changed line_keys said said (held_lessened k gone) (lessened k gone) (λ q e. by (eq_by_cmp line_keys.cmp q k) e (part_kept (stays gone) e.0.fact.part)) t
  where
    by : (b : Bool) (e : Held × ℕ) (w : Option Part) → option_map said (cond b (option_map (λ h. (h, e.1)) (option_map (held_with e.0) w)) (Some e))
        ≡ cond b (option_map (with_part (said e)) w) (Some (said e))
    by true e None = refl
    by true e (Some p) = refl
    by false e w = refl

pub record Lessened (gone : Names) (e d : ResvFact × ℕ) : Type 0 where
  pub below : IsPartAtMost e.0.part d.0.part
  pub style : (st : StyleKind) → IsOfStyle st d.0.part → IsOfStyle st e.0.part
  pub key : (st : StyleKind) → IsOfStyle st d.0.part → resv_key st e.0 ≡ resv_key st d.0

less_is : (gone : Names) (b : Bool) (e d : ResvFact × ℕ) → cond b (left_of gone d) (Some d) ≡ Some e → Lessened gone e d
less_is gone false e d is = let same : d ≡ e = cc in subst (λ z. Lessened gone z d) same (record { below = part_at_most_itself d.0.part; style = λ st h. h; key = λ st h. refl })
less_is gone true e d is = by (part_kept (stays gone) d.0.part) refl is
  where
    by : (w : Option Part) → part_kept (stays gone) d.0.part ≡ w → option_map (with_part d) w ≡ Some e → Lessened gone e d
    by None from got = cc
    by (Some p) from got =
        let same : with_part d p ≡ e = cc in
        subst (λ z. Lessened gone z d) same
        (record {
          below = left_below gone d.0.part p from;
          style = λ st h. left_style st gone d.0.part p h from;
          key = λ st h. ap (λ u. (d.0.session, ((d.0.iface, d.0.next), u))) (within_unit st d.0.part p h (left_named gone d.0.part p from) (left_within gone d.0.part p from));
        })

module _ (st : StyleKind) (k : LineKey) (gone : Names) (m : ResvFacts) where
  less_got : (q : LineKey) (e : ResvFact × ℕ) → get (changed (lessened k gone) m) q ≡ Some e → (d : ResvFact × ℕ) × (get m q ≡ Some d) × Lessened gone e d
  less_got q e got = let d = got_changed line_keys (lessened k gone) m q e got in (d.0, d.1, less_is gone (eq_by_cmp line_keys.cmp q k) e d.0 d.2)

  pub less_style : AreOfStyle st m → AreOfStyle st (changed (lessened k gone) m)
  less_style h =
      record {
        style = λ q e got. let d = less_got q e got in d.2.style st (h.style q d.0 d.1);
        key = λ q e got. let d = less_got q e got in d.2.key st (h.style q d.0 d.1) ∙ h.key q d.0 d.1;
      }

  pub less_limits : IsWithinLimits st (resv_lines st m) → IsWithinLimits st (resv_lines st (changed (lessened k gone) m))
  less_limits within = limits_below st (changed (lessened k gone) m) m (λ q e got. let d = less_got q e got in (d.0, d.1, d.2.below)) within

pub key_had : (gone : Names) (w : Option (Held × ℕ)) → held_has_one gone w ≡ key_has_one gone (option_map said w)
key_had gone None = refl
key_had gone (Some e) = refl
