-- What parts by unit ask for, and which are gone.
use Rattle.std.specs.Prelude.{◌≡◌, ◌↔◌, ◌==◌, nat_lt, Bool, true, false, cond, not, List, [], ◌∷◌, map as each, length, Option, Some, None, refl}
use Rattle.std.proofs.Common.{sym, ap, subst, ◌∙◌, arith, inl, ⊎_elim}
use Rattle.std.proofs.lemmas.Bool.{lt-ltb}
use Rattle.std.proofs.lemmas.List.{length-map}
use Rattle.std.specs.List.{filter, flat_map, list_any}
use Rattle.std.specs.Option.{option_map}
use Rattle.std.specs.Ordering.{eq_by_cmp}
use Rattle.router_rules.specs.RsvpBase.declared.part.Part.{Part}
use Rattle.router_rules.specs.RsvpBase.declared.session.Sender.{Sender}
use Rattle.router_rules.specs.RsvpBase.declared.style.StyleKind.{StyleKind}
use Rattle.router_rules.specs.RsvpBase.declared.style.StyleKind.TheVariants.{Wild, Fixed, Shared}
use Rattle.router_rules.specs.RsvpBase.declared.style.Unit.{Unit as UnitOf}
use Rattle.router_rules.specs.RsvpBase.declared.style.Unit.TheVariants.{One, Of}
use Rattle.router_rules.specs.RsvpBase.Members.{In}
use Rattle.router_rules.specs.RsvpBase.Orders.{senders, units}
use Rattle.router_rules.specs.RsvpBase.Table.{empty, get, has, keys, size, values}
use Rattle.router_rules.specs.RsvpBase.TokenBucket.{TokenBucket}
use Rattle.router_rules.proofs.RsvpBase.Counts.{found_in, in_found, in_set_of, set_of_in}
use Rattle.router_rules.proofs.RsvpBase.Members.{in_each, in_filter, in_flat_map, tied_in, to_each, to_filter, to_flat_map}
use Rattle.router_rules.proofs.RsvpBase.SetLaws.{same_set}
use Rattle.router_rules.proofs.RsvpBase.Tables.{same_table}
use Rattle.router_rules.specs.RsvpMessages.declared.ask.Ask.{Ask}
use Rattle.router_rules.specs.RsvpMessages.declared.ask.Ask.TheVariants as ask
use Rattle.router_rules.specs.RsvpMessages.Units.{AskedUnit, ask_style, asked_units, fixed_unit, only}
use Rattle.router_rules.specs.Merge.{PartTable}
use Rattle.router_rules.specs.Parts.{IsOfStyle, has_name}
use Rattle.router_rules.specs.RsvpBase.Styles.{part_unit, unit_of_first}
use Rattle.router_rules.proofs.Merges.{get-table_at_all}
use Rattle.router_rules.specs.Asking.{ask_of, ask_of_part, flow_at, flows_by_sender}
use Rattle.router_rules.specs.Sends.{gone_names}
use Rattle.laws_bounds.specs.SendLaws.{ArePartsOf, AsksOfParts, GoneByUnits, IsAskedOf, IsGone}
use Rattle.router_rules.proofs.RsvpBase.Fronts.{in_keys, to_keys}
use Rattle.laws_bounds.proofs.Lists.{to_values}
use Rattle.laws_bounds.proofs.Sending.{not_told}

-- ---- one unit for all
one_of_wild : (part : Part) → part_unit Wild part ≡ One
one_of_wild part = by (keys part.senders)
  where
    by : (ss : List Sender) → unit_of_first Wild ss ≡ One
    by [] = refl
    by (s ∷ ss) = refl

one_of_shared : (part : Part) → part_unit Shared part ≡ One
one_of_shared part = by (keys part.senders)
  where
    by : (ss : List Sender) → unit_of_first Shared ss ≡ One
    by [] = refl
    by (s ∷ ss) = refl

-- ---- a fixed part has its unit's sender alone
of_same : (s t : Sender) → ◌≡◌ {A = UnitOf} (Of s) (Of t) → s ≡ t
of_same s t e = cc

first_of_fixed : (ss : List Sender) (s : Sender) → unit_of_first Fixed ss ≡ Of s → In s ss
first_of_fixed [] s e = absurd (cc)
first_of_fixed (t ∷ ss) s e = inl (sym (of_same t s e))

fixed_names : (part : Part) (s : Sender) → IsOfStyle Fixed part → part_unit Fixed part ≡ Of s → part.senders ≡ only s
fixed_names part s is unit =
    same_set senders part.senders (only s) (λ x. by x (has part.senders x) (has (only s) x) refl refl)
  where
    there : has part.senders s ≡ true
    there = in_keys senders part.senders s (first_of_fixed (keys part.senders) s unit)

    by : (x : Sender) (a b : Bool) → has part.senders x ≡ a → has (only s) x ≡ b → a ≡ b
    by x true true e f = refl
    by x false false e f = refl
    by x true false e f =
        let same = of_same x s (is.one_unit x s e there) in
        let z : true ≡ false = sym (in_set_of senders (s ∷ []) x (inl same)) ∙ f in absurd (cc)
    by x false true e f =
        ⊎_elim (λ (same : x ≡ s). let z : true ≡ false = sym (ap (has part.senders) same ∙ there) ∙ e in absurd (cc)) (λ (n : ⊥). absurd n) (set_of_in senders (s ∷ []) x f)

-- ---- flows by sender
abbrev all_names : PartTable → List Sender
all_names ps = flat_map (λ part. keys part.senders) (values ps)

pub get-flows : (ps : PartTable) → ArePartsOf Fixed ps → (s : Sender) → get (flows_by_sender ps) s ≡ flow_at ps s
get-flows ps are s =
    get-table_at_all senders (flow_at ps) (all_names ps) s (λ none. by none (get ps (Of s)) refl)
  where
    by : list_any (eq_by_cmp senders.cmp s) (all_names ps) ≡ false → (w : Option Part) → get ps (Of s) ≡ w → option_map (λ part. part.flow) w ≡ None
    by none None g = refl
    by none (Some part) g =
        let named = first_of_fixed (keys part.senders) s (are (Of s) part g).1 in
        let z : true ≡ false = sym (tied_in senders s (all_names ps) (to_flat_map (λ part. keys part.senders) part s (values ps) (to_values units ps (Of s) part g) named)) ∙ none in absurd (cc)

-- ---- styles
pub style_told : (st : StyleKind) (ps : PartTable) (a : Ask) → ask_of st ps ≡ Some a → ask_style a ≡ st
style_told Wild ps a e = by (get ps One) e
  where
    by : (w : Option Part) → ask_of_part (λ part. ask.Wild (Some part.senders) part.flow) w ≡ Some a → ask_style a ≡ Wild
    by None e = absurd (cc)
    by (Some part) e = let is : ◌≡◌ {A = Ask} (ask.Wild (Some part.senders) part.flow) a = cc in sym (ap ask_style is)
style_told Fixed ps a e = by (nat_lt 0 (size (flows_by_sender ps))) e
  where
    by : (b : Bool) → cond b (Some (ask.Fixed (flows_by_sender ps))) None ≡ Some a → ask_style a ≡ Fixed
    by true e = let is : ◌≡◌ {A = Ask} (ask.Fixed (flows_by_sender ps)) a = cc in sym (ap ask_style is)
    by false e = absurd (cc)
style_told Shared ps a e = by (get ps One) e
  where
    by : (w : Option Part) → ask_of_part ask.Shared w ≡ Some a → ask_style a ≡ Shared
    by None e = absurd (cc)
    by (Some part) e = let is : ◌≡◌ {A = Ask} (ask.Shared part) a = cc in sym (ap ask_style is)

-- ---- units
abbrev asked : UnitOf → Part → AskedUnit
asked u part = record { unit = u; names = Some part.senders; flow = part.flow }

asked_is : (ps : PartTable) (u : AskedUnit) (v : UnitOf) (part : Part) → get ps v ≡ Some part → u ≡ asked v part → IsAskedOf ps u
asked_is ps u v part g is =
    record { part = part; there = ap (λ (z : AskedUnit). get ps z.unit) is ∙ g; names = ap (λ (z : AskedUnit). z.names) is; flow = ap (λ (z : AskedUnit). z.flow) is }

is_asked : (u : AskedUnit) (v : UnitOf) (part : Part) → u.unit ≡ v → u.names ≡ Some part.senders → u.flow ≡ part.flow → u ≡ asked v part
is_asked u v part a b c = λ i. record { unit = a i; names = b i; flow = c i }

-- the one unit
one_told : (ps : PartTable) (u : AskedUnit) (part : Part) → get ps One ≡ Some part → In u (asked One part ∷ []) → IsAskedOf ps u
one_told ps u part g i = ⊎_elim (λ (is : u ≡ asked One part). asked_is ps u One part g is) (λ (n : ⊥). absurd n) i

one_made : (ps : PartTable) (u : AskedUnit) (part : Part) → get ps One ≡ Some part → u.unit ≡ One → IsAskedOf ps u → In u (asked One part ∷ [])
one_made ps u part g at q =
    let both : Some q.part ≡ Some part = sym q.there ∙ (ap (get ps) at ∙ g) in
    let same : q.part ≡ part = cc in
    inl (is_asked u One part at (q.names ∙ ap (λ (z : Part). Some z.senders) same) (q.flow ∙ ap (λ (z : Part). z.flow) same))

-- units of a fixed filter
fixed_told : (ps : PartTable) → ArePartsOf Fixed ps → (u : AskedUnit) → In u (each fixed_unit (flows_by_sender ps).rows) → IsAskedOf ps u
fixed_told ps are u i =
    let r = in_each fixed_unit u (flows_by_sender ps).rows i in
    by r.0.0 r.0.1 r.2 (get ps (Of r.0.0)) refl (sym (get-flows ps are r.0.0) ∙ in_found senders (flows_by_sender ps) r.0.0 r.0.1 r.1)
  where
    by : (s : Sender) (flow : TokenBucket) → u ≡ fixed_unit (s, flow) → (w : Option Part) → get ps (Of s) ≡ w → option_map (λ (part : Part). part.flow) w ≡ Some flow → IsAskedOf ps u
    by s flow is None g e = absurd (cc)
    by s flow is (Some part) g e =
        let same : part.flow ≡ flow = cc in
        let a = are (Of s) part g in
        record {
          part = part;
          there = ap (λ (z : AskedUnit). get ps z.unit) is ∙ g;
          names = ap (λ (z : AskedUnit). z.names) is ∙ ap Some (sym (fixed_names part s a.0 a.1));
          flow = ap (λ (z : AskedUnit). z.flow) is ∙ sym same;
        }

-- a fixed part stands under a sender's unit
sender_of_fixed : (part : Part) → IsOfStyle Fixed part → (s : Sender) × (part_unit Fixed part ≡ Of s)
sender_of_fixed part is = by (keys part.senders) refl
  where
    by : (ss : List Sender) → keys part.senders ≡ ss → (s : Sender) × (unit_of_first Fixed (keys part.senders) ≡ Of s)
    by [] e =
        let none : size part.senders ≡ 0 = sym (length-map part.senders.rows (λ e. e.0)) ∙ ap length e in
        let z : has_name part ≡ false = ap (λ n. not (n == 0)) none in
        let w : true ≡ false = sym is.named ∙ z in absurd (cc)
    by (s ∷ ss) e = (s, ap (unit_of_first Fixed) e)

fixed_made : (ps : PartTable) → ArePartsOf Fixed ps → (u : AskedUnit) → IsAskedOf ps u → In u (each fixed_unit (flows_by_sender ps).rows)
fixed_made ps are u q =
    let a = are u.unit q.part q.there in
    let s = sender_of_fixed q.part a.0 in
    let at : u.unit ≡ Of s.0 = sym a.1 ∙ s.1 in
    let found : get (flows_by_sender ps) s.0 ≡ Some q.part.flow = get-flows ps are s.0 ∙ ap (option_map (λ (part : Part). part.flow)) (ap (get ps) (sym at) ∙ q.there) in
    let is : u ≡ fixed_unit (s.0, q.part.flow) = λ i. record { unit = at i; names = (q.names ∙ ap Some (fixed_names q.part s.0 a.0 s.1)) i; flow = q.flow i } in
    subst (λ (z : AskedUnit). In z (each fixed_unit (flows_by_sender ps).rows)) (sym is) (to_each fixed_unit (s.0, q.part.flow) (flows_by_sender ps).rows
    (found_in senders (flows_by_sender ps) s.0 q.part.flow found))

pub units_told : (st : StyleKind) (ps : PartTable) (a : Ask) (u : AskedUnit) → ArePartsOf st ps → ask_of st ps ≡ Some a → In u (asked_units a) ↔ IsAskedOf ps u
units_told Wild ps a u are e = by (get ps One) refl e
  where
    by : (w : Option Part) → get ps One ≡ w → ask_of_part (λ part. ask.Wild (Some part.senders) part.flow) w ≡ Some a → In u (asked_units a) ↔ IsAskedOf ps u
    by None g e = absurd (cc)
    by (Some part) g e =
        let is : ◌≡◌ {A = Ask} (ask.Wild (Some part.senders) part.flow) a = cc in
        subst (λ (z : Ask). In u (asked_units z) ↔ IsAskedOf ps u) is
        (one_told ps u part g, λ q. one_made ps u part g (sym (are u.unit q.part q.there).1 ∙ one_of_wild q.part) q)
units_told Fixed ps a u are e = by (nat_lt 0 (size (flows_by_sender ps))) e
  where
    by : (b : Bool) → cond b (Some (ask.Fixed (flows_by_sender ps))) None ≡ Some a → In u (asked_units a) ↔ IsAskedOf ps u
    by true e = let is : ◌≡◌ {A = Ask} (ask.Fixed (flows_by_sender ps)) a = cc in subst (λ (z : Ask). In u (asked_units z) ↔ IsAskedOf ps u) is (fixed_told ps are u, fixed_made ps are u)
    by false e = absurd (cc)
units_told Shared ps a u are e = by (get ps One) refl e
  where
    by : (w : Option Part) → get ps One ≡ w → ask_of_part ask.Shared w ≡ Some a → In u (asked_units a) ↔ IsAskedOf ps u
    by None g e = absurd (cc)
    by (Some part) g e =
        let is : ◌≡◌ {A = Ask} (ask.Shared part) a = cc in
        subst (λ (z : Ask). In u (asked_units z) ↔ IsAskedOf ps u) is
        (one_told ps u part g, λ q. one_made ps u part g (sym (are u.unit q.part q.there).1 ∙ one_of_shared q.part) q)

-- ---- nothing is asked of nothing
some_row : {A X : Type 0} (x : X) (es : List A) (row : A) → In row es → cond (nat_lt 0 (length es)) (Some x) None ≡ None → ⊥
some_row x [] row i e = i
some_row {A} {X} x (z ∷ zs) row i e =
    let t = lt-ltb 0 (length (z ∷ zs)) (omega arith) in
    let w : ◌≡◌ {A = Option X} (Some x) None = sym (ap (λ b. cond b (Some x) None) t) ∙ e in
    absurd (cc)

all_absent : (ps : PartTable) → ((u : UnitOf) (part : Part) → get ps u ≡ Some part → ⊥) → ps ≡ empty
all_absent ps none = same_table units ps empty (λ u. by u (get ps u) refl)
  where
    by : (u : UnitOf) (w : Option Part) → get ps u ≡ w → w ≡ None
    by u None g = refl
    by u (Some part) g = absurd (none u part g)

pub nothing_asked : (st : StyleKind) (ps : PartTable) → ArePartsOf st ps → ask_of st ps ≡ None → ps ≡ empty
nothing_asked Wild ps are e = by (get ps One) refl e
  where
    by : (w : Option Part) → get ps One ≡ w → ask_of_part (λ part. ask.Wild (Some part.senders) part.flow) w ≡ None → ps ≡ empty
    by None g e = all_absent ps (λ u part h. let z : Some part ≡ None = sym h ∙ ap (get ps) (sym (are u part h).1 ∙ one_of_wild part) ∙ g in cc)
    by (Some part) g e = absurd (cc)
nothing_asked Fixed ps are e =
    all_absent ps
    (λ u part h.
    let a = are u part h in
    let s = sender_of_fixed part a.0 in
    let found : get (flows_by_sender ps) s.0 ≡ Some part.flow = get-flows ps are s.0 ∙ ap (option_map (λ (part : Part). part.flow)) (ap (get ps) (sym (sym a.1 ∙ s.1)) ∙ h) in
    some_row (ask.Fixed (flows_by_sender ps)) (flows_by_sender ps).rows (s.0, part.flow) (found_in senders (flows_by_sender ps) s.0 part.flow found) e)
nothing_asked Shared ps are e = by (get ps One) refl e
  where
    by : (w : Option Part) → get ps One ≡ w → ask_of_part ask.Shared w ≡ None → ps ≡ empty
    by None g e = all_absent ps (λ u part h. let z : Some part ≡ None = sym h ∙ ap (get ps) (sym (are u part h).1 ∙ one_of_shared part) ∙ g in cc)
    by (Some part) g e = absurd (cc)

pub asks_of_parts : AsksOfParts
asks_of_parts = record { style = style_told; units = units_told; nothing = nothing_asked }

-- ---- units that are gone
abbrev gone_rows : PartTable → PartTable → List (UnitOf × Part)
gone_rows before after = filter (λ e. not (has after e.0)) before.rows

pub gone_told : (before after : PartTable) (x : Sender) → has (gone_names before after) x ≡ true → IsGone before after x
gone_told before after x h =
    let r = in_flat_map (λ (e : UnitOf × Part). keys e.1.senders) x (gone_rows before after) (set_of_in senders (flat_map (λ e. keys e.1.senders) (gone_rows before after)) x h) in
    let t = in_filter (λ (e : UnitOf × Part). not (has after e.0)) r.0 before.rows r.1 in
    record { unit = r.0.0; part = r.0.1; was = in_found units before r.0.0 r.0.1 t.0; gone = not_told _ t.1; named = in_keys senders r.0.1.senders x r.2 }

gone_made : (before after : PartTable) (x : Sender) → IsGone before after x → has (gone_names before after) x ≡ true
gone_made before after x q =
    in_set_of senders (flat_map (λ e. keys e.1.senders) (gone_rows before after)) x
    (to_flat_map (λ (e : UnitOf × Part). keys e.1.senders) (q.unit, q.part) x (gone_rows before after)
    (to_filter (λ (e : UnitOf × Part). not (has after e.0)) (q.unit, q.part) before.rows (found_in units before q.unit q.part q.was) (ap not q.gone)) (to_keys senders q.part.senders x q.named))

pub gone_by_units : GoneByUnits
gone_by_units = record { each = λ before after x. (gone_told before after x, gone_made before after x) }
