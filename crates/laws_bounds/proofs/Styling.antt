-- Styles in conflict, and names that do not match.
use Rattle.std.specs.Prelude.{◌≡◌, ◌⊎◌, ◌↔◌, nat_lt, ◌==◌, Bool, true, false, cond, not, is_some, ◌&&◌, List, [], ◌∷◌, length, Option, Some, None, refl}
use Rattle.std.proofs.Common.{arith, sym, ap, subst, ◌∙◌, inl, inr, ⊎_elim}
use Rattle.std.proofs.lemmas.Bool.{lt-ltb}
use Rattle.std.specs.List.{list_any}
use Rattle.std.specs.Ordering.{is_lt}
use Rattle.rsvp_base.specs.declared.session.Sender.{Sender}
use Rattle.rsvp_base.specs.declared.session.Session.{Session}
use Rattle.rsvp_base.specs.declared.style.StyleKind.{StyleKind}
use Rattle.rsvp_base.specs.declared.style.StyleKind.TheVariants.{Wild, Fixed, Shared}
use Rattle.rsvp_base.specs.Keys.{Keys, pairs}
use Rattle.rsvp_base.specs.Members.{In}
use Rattle.rsvp_base.specs.Orders.{Names, senders, sessions, styles, units}
use Rattle.rsvp_base.specs.Sets.{is_none}
use Rattle.rsvp_base.specs.Table.{Table, get, has, kept, size, values}
use Rattle.rsvp_base.proofs.Counts.{found_in, in_found}
use Rattle.rsvp_base.proofs.Members.{any_in, in_any}
use Rattle.rsvp_base.proofs.SetLaws.{and_both, and_made, has-kept, or_either, or_left, or_right}
use Rattle.rsvp_base.proofs.Tables.{either}
use Rattle.rsvp_base.proofs.UnderLaws.{get-under}
use Rattle.router_rules.specs.Lines.{next_hops}
use Rattle.router_rules.specs.Asking.{Asker, has_style, lost, matched, style_conflict, Nobody, These}
use Rattle.router_rules.specs.Facts.{Facts, Want, resvs_in, resvs_of, wants_in}
use Rattle.router_rules.specs.Known.{known}
use Rattle.router_rules.specs.NodeConfig.{NodeConfig, goes_out}
use Rattle.router_rules.specs.Requests.{is_style}
use Rattle.laws_bounds.specs.FactLaws.{IsNamed}
use Rattle.laws_bounds.proofs.Knowing.{named_told, named_made}
use Rattle.laws_bounds.proofs.Lists.{has_some, in_values, some_same, to_values}
use Rattle.laws_bounds.proofs.Sending.{not_told}
use Rattle.laws_bounds.proofs.Tests.{style_told, ties}
use Rattle.laws_bounds.specs.AskLaws.{IsConflict, IsResvIn, IsWantIn, LossesByNames, StylesInConflict}

-- ---- tables that have a row
pub some_row : {K X : Type 0} (o : Keys K) (m : Table o X) → nat_lt 0 (size m) ≡ true → (k : K) × (x : X) × (get m k ≡ Some x)
some_row {K} {X} o m e = by m.rows refl
  where
    by : (es : List (K × X)) → m.rows ≡ es → (k : K) × (x : X) × (get m k ≡ Some x)
    by [] is = let z : true ≡ false = sym e ∙ ap (λ es. nat_lt 0 (length es)) is in absurd (cc)
    by (r ∷ es) is = (r.0, r.1, in_found o m r.0 r.1 (subst (λ es. In (r.0, r.1) es) (sym is) (inl refl)))

pub row_counts : {K X : Type 0} (o : Keys K) (m : Table o X) (k : K) (x : X) → get m k ≡ Some x → nat_lt 0 (size m) ≡ true
row_counts {K} {X} o m k x g = by m.rows (found_in o m k x g)
  where
    by : (es : List (K × X)) → In (k, x) es → nat_lt 0 (length es) ≡ true
    by [] i = absurd i
    by (r ∷ es) i = lt-ltb 0 (length (r ∷ es)) (omega arith)

-- ---- styles
module _ (f : Facts) (s : Session) where
  had_told : (st : StyleKind) → has_style f s st ≡ true → IsResvIn f s st ⊎ IsWantIn f s st
  had_told st e =
      ⊎_elim
      (λ (a : nat_lt 0 (size (resvs_in st f s)) ≡ true).
      let r = some_row (pairs next_hops units) (resvs_in st f s) a in inl (record { key = r.0; resv = r.1; there = sym (get-under sessions (pairs next_hops units) (resvs_of st f) s r.0) ∙ r.2 }))
      (λ (a : list_any (λ (w : Want). is_style w.style st) (values (wants_in f s)) ≡ true).
      let r = in_any (λ (w : Want). is_style w.style st) (values (wants_in f s)) a in
      let v = in_values units (wants_in f s) r.0 r.1 in
      inr (record { unit = v.0; want = r.0; there = sym (get-under sessions units f.wants s v.0) ∙ v.1; style = style_told r.0.style st r.2 }))
      (or_either (nat_lt 0 (size (resvs_in st f s))) (list_any (λ (w : Want). is_style w.style st) (values (wants_in f s))) e)

  had_made : (st : StyleKind) → IsResvIn f s st ⊎ IsWantIn f s st → has_style f s st ≡ true
  had_made st q =
      ⊎_elim
      (λ (a : IsResvIn f s st).
      or_left (nat_lt 0 (size (resvs_in st f s))) _ (row_counts (pairs next_hops units) (resvs_in st f s) a.key a.resv (get-under sessions (pairs next_hops units) (resvs_of st f) s a.key ∙ a.there)))
      (λ (a : IsWantIn f s st).
      or_right (nat_lt 0 (size (resvs_in st f s))) _
      (any_in (λ (w : Want). is_style w.style st) a.want (values (wants_in f s)) (to_values units (wants_in f s) a.unit a.want (get-under sessions units f.wants s a.unit ∙ a.there))
      (ties styles a.want.style st a.style)))
      q

  -- the test of a style
  abbrev is_other : StyleKind → StyleKind → Bool
  is_other st x = not (is_style x st) && has_style f s x

  other_told : (st x : StyleKind) → is_other st x ≡ true → (x ≡ st → ⊥) × (has_style f s x ≡ true)
  other_told st x e = let r = and_both (not (is_style x st)) (has_style f s x) e in (λ same. let z : true ≡ false = sym (ties styles x st same) ∙ not_told (is_style x st) r.0 in absurd (cc), r.1)

  other_made : (st x : StyleKind) → (x ≡ st → ⊥) → has_style f s x ≡ true → is_other st x ≡ true
  other_made st x apart e = and_made (not (is_style x st)) (has_style f s x) (ap not (either (is_style x st) (λ same. absurd (apart (style_told x st same))) (λ b. b))) e

  not_other : (st x : StyleKind) → is_other st x ≡ false → has_style f s x ≡ true → x ≡ st
  not_other st x e h = either (is_style x st) (λ same. style_told x st same) (λ apart. let z : true ≡ false = sym (and_made (not (is_style x st)) (has_style f s x) (ap not apart) h) ∙ e in
      absurd (cc))

  -- the first of three, by their tests
  abbrev first_of_three : Bool → Bool → Bool → Option StyleKind
  first_of_three a b d = cond a (Some Wild) (cond b (Some Fixed) (cond d (Some Shared) None))

  -- what the three tests say together
  some_told : (st other : StyleKind) (a b d : Bool) → is_other st Wild ≡ a → is_other st Fixed ≡ b → is_other st Shared ≡ d → first_of_three a b d ≡ Some other → IsConflict f s st other
  some_told st other true b d p q r e =
      let is : Wild ≡ other = some_same _ _ e in
      let t = other_told st Wild p in
      subst (λ z. IsConflict f s st z) is (record { had = t.1; apart = t.0; first = λ x h n. none_below_wild x })
    where
      none_below_wild : (x : StyleKind) → is_lt (styles.cmp x Wild) ≡ false
      none_below_wild Wild = refl
      none_below_wild Fixed = refl
      none_below_wild Shared = refl
  some_told st other false true d p q r e =
      let is : Fixed ≡ other = some_same _ _ e in
      let t = other_told st Fixed q in
      subst (λ z. IsConflict f s st z) is (record { had = t.1; apart = t.0; first = below })
    where
      below : (x : StyleKind) → has_style f s x ≡ true → (x ≡ st → ⊥) → is_lt (styles.cmp x Fixed) ≡ false
      below Wild h n = absurd (n (not_other st Wild p h))
      below Fixed h n = refl
      below Shared h n = refl
  some_told st other false false true p q r e =
      let is : Shared ≡ other = some_same _ _ e in
      let t = other_told st Shared r in
      subst (λ z. IsConflict f s st z) is (record { had = t.1; apart = t.0; first = below })
    where
      below : (x : StyleKind) → has_style f s x ≡ true → (x ≡ st → ⊥) → is_lt (styles.cmp x Shared) ≡ false
      below Wild h n = absurd (n (not_other st Wild p h))
      below Fixed h n = absurd (n (not_other st Fixed q h))
      below Shared h n = refl
  some_told st other false false false p q r e = absurd (cc)

  none_told : (st : StyleKind) (a b d : Bool) → is_other st Wild ≡ a → is_other st Fixed ≡ b → is_other st Shared ≡ d → first_of_three a b d ≡ None → (x : StyleKind) → has_style f s x ≡ true → x ≡ st
  none_told st false false false p q r e Wild h = not_other st Wild p h
  none_told st false false false p q r e Fixed h = not_other st Fixed q h
  none_told st false false false p q r e Shared h = not_other st Shared r h
  none_told st true b d p q r e x h = absurd (cc)
  none_told st false true d p q r e x h = absurd (cc)
  none_told st false false true p q r e x h = absurd (cc)

  some_by : (st other : StyleKind) → style_conflict f s st ≡ Some other → IsConflict f s st other
  some_by st other e = some_told st other (is_other st Wild) (is_other st Fixed) (is_other st Shared) refl refl refl e

  none_by : (st : StyleKind) → style_conflict f s st ≡ None → (x : StyleKind) → has_style f s x ≡ true → x ≡ st
  none_by st e = none_told st (is_other st Wild) (is_other st Fixed) (is_other st Shared) refl refl refl e

  -- the first is one alone
  first_alone : (st x y : StyleKind) → IsConflict f s st x → IsConflict f s st y → x ≡ y
  first_alone st x y a b = by x y (a.first y b.had b.apart) (b.first x a.had a.apart)
    where
      by : (x y : StyleKind) → is_lt (styles.cmp y x) ≡ false → is_lt (styles.cmp x y) ≡ false → x ≡ y
      by Wild Wild e h = refl
      by Fixed Fixed e h = refl
      by Shared Shared e h = refl
      by Wild Fixed e h = absurd (cc)
      by Wild Shared e h = absurd (cc)
      by Fixed Wild e h = absurd (cc)
      by Fixed Shared e h = absurd (cc)
      by Shared Wild e h = absurd (cc)
      by Shared Fixed e h = absurd (cc)

  some_made : (st other : StyleKind) → IsConflict f s st other → style_conflict f s st ≡ Some other
  some_made st other q = by (style_conflict f s st) refl
    where
      by : (w : Option StyleKind) → style_conflict f s st ≡ w → w ≡ Some other
      by None e = absurd (q.apart (none_by st e other q.had))
      by (Some x) e = ap Some (first_alone st x other (some_by st x e) q)

  none_made : (st : StyleKind) → ((x : StyleKind) → has_style f s x ≡ true → x ≡ st) → style_conflict f s st ≡ None
  none_made st same = by (style_conflict f s st) refl
    where
      by : (w : Option StyleKind) → style_conflict f s st ≡ w → w ≡ None
      by None e = refl
      by (Some x) e = let q = some_by st x e in absurd (q.apart (same x q.had))

pub styles_in_conflict : StylesInConflict
styles_in_conflict =
    record {
      had = λ f s st. (had_told f s st, had_made f s st);
      some = λ f s st other. (some_by f s st other, some_made f s st other);
      none = λ f s st. (none_by f s st, none_made f s st);
    }

-- ---- names that do not match
matched_told : (p : NodeConfig) (f : Facts) (o : Asker) (x : Sender) → has (matched p f o) x ≡ true → IsNamed o.style (known f o.session) (goes_out p o.session o.iface) x
matched_told p f o x e =
    let n = named_told o.style (kept (goes_out p o.session o.iface) (known f o.session)) x e in
    let r = and_both _ _ (sym (has-kept senders (goes_out p o.session o.iface) (known f o.session) n.sender) ∙ n.among) in
    record { sender = n.sender; among = r.0; passes = r.1; name = n.name }

matched_made : (p : NodeConfig) (f : Facts) (o : Asker) (x : Sender) → IsNamed o.style (known f o.session) (goes_out p o.session o.iface) x → has (matched p f o) x ≡ true
matched_made p f o x n =
    named_made o.style (kept (goes_out p o.session o.iface) (known f o.session)) x
    (record { sender = n.sender; among = has-kept senders (goes_out p o.session o.iface) (known f o.session) n.sender ∙ and_made _ _ n.among n.passes; passes = refl; name = n.name })

lost_as : (st : StyleKind) (names all : Names) → (st ≡ Wild → ⊥) → lost st (Some names) all ≡ cond (is_none (kept (λ x. not (has all x)) names)) Nobody (These (kept (λ x. not (has all x)) names))
lost_as Wild names all n = absurd (n refl)
lost_as Fixed names all n = refl
lost_as Shared names all n = refl

lost_some : (st : StyleKind) (names all : Names) (x : Sender) → (st ≡ Wild → ⊥) → has names x ≡ true → has all x ≡ false
    → (rest : Names) × (lost st (Some names) all ≡ These rest) × ((y : Sender) → (has rest y ≡ true) ↔ ((has names y ≡ true) × (has all y ≡ false)))
lost_some st names all x n e h =
    let rest : Names = kept (λ x. not (has all x)) names in
    let there : has rest x ≡ true = has-kept senders (λ x. not (has all x)) names x ∙ and_made _ _ e (ap not h) in (
      rest,
      lost_as st names all n ∙ ap (λ b. cond b Nobody (These rest)) (has_some rest x there),
      λ y. (
        λ i. let r = and_both _ _ (sym (has-kept senders (λ x. not (has all x)) names y) ∙ i) in
            (r.0, not_told _ r.1),
        λ r. has-kept senders (λ x. not (has all x)) names y ∙ and_made _ _ r.0 (ap not r.1),
      ),
    )

lost_none : (st : StyleKind) (names all : Names) → (st ≡ Wild → ⊥) → ((x : Sender) → has names x ≡ true → has all x ≡ true) → lost st (Some names) all ≡ Nobody
lost_none st names all n same = lost_as st names all n ∙ ap (λ b. cond b Nobody (These rest)) (none_left rest.rows (λ x i. i))
  where
    rest : Names
    rest = kept (λ x. not (has all x)) names

    none_left : (es : List (Sender × Unit {0})) → ((r : Sender × Unit {0}) → In r es → In r rest.rows) → (length es == 0) ≡ true
    none_left [] i = refl
    none_left (r ∷ es) i =
        let there : has rest r.0 ≡ true = ap is_some (in_found senders rest r.0 r.1 (i r (inl refl))) in
        let q = and_both _ _ (sym (has-kept senders (λ x. not (has all x)) names r.0) ∙ there) in
        let z : true ≡ false = sym (same r.0 q.0) ∙ not_told _ q.1 in
        absurd (cc)

pub losses_by_names : LossesByNames
losses_by_names = record { matches = λ p f o x. (matched_told p f o x, matched_made p f o x); wild = λ names all. refl; some = lost_some; none = lost_none }
