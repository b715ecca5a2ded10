-- A unit of a Resv in its place: what the code did is what the rule says.
use Rattle.std.specs.Prelude.{◌≡◌, ℕ, ◌+◌, ◌≤◌, ◌<◌, nat_le, option_and_then, Bool, true, false, cond, zero, suc, ◌&&◌, List, [], ◌∷◌, ◌++◌, map as each, length, slice_get, take, is_some}
use Rattle.std.specs.Prelude.{Option, Some, None, refl}
use Rattle.std.proofs.Common.{sym, ap, subst, ◌∙◌, arith}
use Rattle.std.specs.Option.{option_map}
use Rattle.std.proofs.lemmas.Bool.{le-leb}
use Rattle.std.proofs.lemmas.Bool.Decides.{nat_tests}
use Rattle.std.proofs.lemmas.List.{map-append}
use Rattle.admission_book.specs.Book.{Entries}
use Rattle.admission_book.specs.declared.refused.Refused.{Refused}
use Rattle.resv_state.specs.Resvs.{AreOfStyle, ResvFacts, resv_key, wish_kept}
use Rattle.resv_state.specs.declared.fact.ResvFact.{ResvFact}
use Rattle.rsvp_base.specs.Styles.{part_unit}
use Rattle.rsvp_base.specs.Table.{changed, empty, get, has, put_in, size}
use Rattle.rsvp_base.specs.TokenBucket.{TokenBucket}
use Rattle.rsvp_base.specs.declared.addr.Addr.{Addr}
use Rattle.rsvp_base.specs.declared.part.Part.{Part}
use Rattle.rsvp_base.specs.declared.style.StyleKind.{StyleKind}
use Rattle.rsvp_base.specs.declared.style.StyleKind.TheVariants.{Wild, Fixed, Shared}
use Rattle.rsvp_base.specs.declared.style.Unit.{Unit as UnitOf}
use Rattle.rsvp_base.specs.Orders.{Names, senders, units}
use Rattle.rsvp_base.specs.Sets.{cut, is_none}
use Rattle.rsvp_base.proofs.Fronts.{front_more}
use Rattle.rsvp_base.proofs.SetLaws.{cut_within, size_within}
use Rattle.style_rules.specs.Merge.{PartTable}
use Rattle.rsvp_base.proofs.Tables.{get-changed, size-put_in, then_do}
use Rattle.rsvp_messages.specs.Units.{AskedUnit}
use Rattle.style_rules.specs.CutLaws.{part_of_none, part_of_some}
use Rattle.style_rules.specs.Lines.{LineKey, line_keys}
use Rattle.style_rules.specs.Parts.{IsOfStyle, part_of}
use Rattle.router_rules.specs.Asking.{Blamed, Taking, book_refuses, confirm_kept, entry_at, has_entry, has_room, key_at, losses, nothing_taken, or_kept, put_tested, put_unit, refusal}
use Rattle.router_rules.specs.Asking.{resv_state, table_with, take_unit, take_units, tell_lost, value_of, Asker as AskerOf}
use Rattle.router_rules.specs.Books.{book, fits, refused}
use Rattle.router_rules.specs.Facts.{Facts, Resvs, resvs_of, with_resvs}
use Rattle.router_rules.specs.NodeConfig.{NodeConfig}
use Rattle.laws_bounds.proofs.Leaving.{as_it_was, table_put}
use Rattle.router_state.specs.State.{resv_at}
use Rattle.resv_admission.specs.Kept.{IsBookOf, MovesWith, facts_with, flow_in}
use Rattle.resv_admission.specs.Placing.{IsBookAmong, chosen, entry_key_of, outcome, placed_in, stands, stood}
use Rattle.resv_admission.specs.declared.placing.Placed.{Placed}
use Rattle.resv_admission.specs.declared.placing.Placed.TheVariants as placed
use Rattle.resv_admission.proofs.Moves.{put_away, put_here}
use Rattle.resv_admission.proofs.Stands.{stood_is}
use Rattle.resv_admission.specs.Units.{IsSoFar, asker_at, refusal_of}
use Rattle.resv_admission.specs.declared.refusals.Refusal.{Refusal}
use Rattle.resv_admission.specs.declared.unit.Asker.{Asker}
use Rattle.resv_admission.specs.declared.unit.Taken.{Taken}

pub with_twice : (st : StyleKind) (s t : Resvs) (f : Facts) → with_resvs st s (with_resvs st t f) ≡ with_resvs st s f
with_twice Wild s t f = refl
with_twice Fixed s t f = refl
with_twice Shared s t f = refl

module _ (p : NodeConfig) (c : ℕ) (st : StyleKind) (a : Asker) (f : Facts) (t : Taking) (u : UnitOf) (part : Part) (confirm : Option Addr) where
  abbrev o : AskerOf
  o = asker_at c st a

  abbrev fact : ResvFact
  fact = record { session = a.session; iface = a.iface; next = a.next; part = part; confirm = confirm }

  abbrev now : Facts
  now = with_resvs st t.table f

  module _ (unit : part_unit st part ≡ u) (wish : confirm ≡ or_kept a.confirm (confirm_kept (get t.table (key_at o u)))) where
    stood_here : stood st c fact a.left now ≡ table_with o u part t.table
    stood_here =
        let says : stands c fact a.left ≡ resv_state o part (get t.table (key_at o u)) = λ i. record { part = part; confirm = wish i; dies = c + a.left } in
        λ i. put_in (table_put st t.table f.resvs i) (a.session, ((a.iface, a.next), unit i)) (says i)

    key_here : entry_key_of st fact ≡ entry_at o u
    key_here = λ i. record { session = a.session; style = st; unit = unit i }

    -- what the rule makes of it, by what became of it
    abbrev pub told : Placed → Taking
    told placed.LeftOut = record t { left_out = true }
    told (placed.Refused why) = record t { errors = t.errors ++ refusal p o (has_entry o f u t.table) 1 (value_of why) (Some part.senders) part.flow ∷ [] }
    told placed.Taken = record t { table = table_with o u part t.table; taken = put_in t.taken u part }

    tested : (r : Placed) (b : Bool) (w : Option Refused) → r ≡ outcome b w → put_tested p o f u part b w t ≡ told r
    tested r b w e = subst (λ z. put_tested p o f u part b w t ≡ told z) (sym e) (by b w)
      where
        by : (b : Bool) (w : Option Refused) → put_tested p o f u part b w t ≡ told (outcome b w)
        by false w = refl
        by true (Some why) = refl
        by true None = refl

    pub rule_is : (r : Placed) → size part.senders ≤ 16 → r ≡ placed_in p st c fact a.left now → put_unit p o f u (Some part) t ≡ told r
    rule_is r few e =
        tested r (has_room o u part t.table) (book_refuses p o f u part t.table)
        (e ∙ (λ i. outcome (fits st (stood_here i)) (refused p a.iface (key_here i) (book (with_resvs st (stood_here i) now) a.iface)))
        ∙ ap (λ (z : Facts). outcome (fits st (table_with o u part t.table)) (refused p a.iface (entry_at o u) (book z a.iface))) (with_twice st (table_with o u part t.table) t.table f)
        ∙ ap (λ b. outcome (b && fits st (table_with o u part t.table)) (book_refuses p o f u part t.table)) (sym (le-leb (size part.senders) 16 few)))

  -- ---- what was told so far stays what the rule says
  module _ (m : ResvFacts) (es : Entries) (done : Taken) (so : IsSoFar p c st a f m es done t) where
    pub left_out_so : (new : Taken) → new ≡ record done { left_out = true } → IsSoFar p c st a f m es new (record t { left_out = true })
    left_out_so new is = record {
      table = so.table;
      book = so.book;
      errors = so.errors ∙ ap (λ (d : Taken). each (refusal_of p o) d.errors) (sym is);
      left_out = ap (λ (d : Taken). d.left_out) (sym is);
      taken = so.taken ∙ ap (λ (d : Taken). d.parts) (sym is);
    }

    is_some_flow : (w : Option Part) → is_some (flow_in w) ≡ is_some w
    is_some_flow None = refl
    is_some_flow (Some x) = refl

    pub refused_so : (new : Taken) (why : Refused) (in_place : Bool) (value : ℕ) → in_place ≡ is_some (get es (a.iface, entry_at o u)) → value ≡ value_of why
        → new ≡ record done { errors = done.errors ++ record { in_place = in_place; code = 1; value = value; names = Some part.senders; flow = part.flow } ∷ [] }
        → IsSoFar p c st a f m es new (record t { errors = t.errors ++ refusal p o (has_entry o f u t.table) 1 (value_of why) (Some part.senders) part.flow ∷ [] })
    refused_so new why in_place value stood_there worth is =
        let there : in_place ≡ has_entry o f u t.table = stood_there ∙ ap is_some (so.book.at a.iface (entry_at o u)) ∙ is_some_flow (get (book (with_resvs st t.table f) a.iface) (entry_at o u)) in
        let last : Refusal = record { in_place = in_place; code = 1; value = value; names = Some part.senders; flow = part.flow } in
        record {
          table = so.table;
          book = so.book;
          errors =
              (λ i. so.errors i ++ refusal p o (sym there i) 1 (sym worth i) (Some part.senders) part.flow ∷ [])
              ∙ sym (map-append (refusal_of p o) done.errors (last ∷ [])) ∙ ap (λ (d : Taken). each (refusal_of p o) d.errors) (sym is);
          left_out = so.left_out ∙ ap (λ (d : Taken). d.left_out) (sym is);
          taken = so.taken ∙ ap (λ (d : Taken). d.parts) (sym is);
        }

    pub taken_so : (styled : AreOfStyle st m) (own : IsOfStyle st part) (unit : part_unit st part ≡ u) (wish : confirm ≡ or_kept a.confirm (confirm_kept (get t.table (key_at o u)))) (new : Taken)
        (after : Entries)
        → MovesWith st m (put_in m (resv_key st fact) (fact, a.left)) es after → new ≡ record done { parts = put_in done.parts u part }
        → IsSoFar p c st a f (put_in m (resv_key st fact) (fact, a.left)) after new (record t { table = table_with o u part t.table; taken = put_in t.taken u part })
    taken_so styled own unit wish new after moves is =
        let here : resvs_of st now ≡ changed (resv_at c) m = table_put st t.table f.resvs ∙ so.table in
        let table : table_with o u part t.table ≡ changed (resv_at c) (put_in m (resv_key st fact) (fact, a.left)) = sym (stood_here unit wish) ∙ stood_is st m styled fact own a.left c now here in
        record {
          table = table;
          book = subst (λ (z : Facts). IsBookOf z after) ((λ i. with_resvs st (sym table i) now) ∙ with_twice st (table_with o u part t.table) t.table f) (moves c now here so.book);
          errors = so.errors ∙ ap (λ (d : Taken). each (refusal_of p o) d.errors) (sym is);
          left_out = so.left_out ∙ ap (λ (d : Taken). d.left_out) (sym is);
          taken = ap (λ ps. put_in ps u part) so.taken ∙ ap (λ (d : Taken). d.parts) (sym is);
        }

-- what is news does not matter to the rule
pub so_with : (p : NodeConfig) (c : ℕ) (st : StyleKind) (a : Asker) (f : Facts) (m : ResvFacts) (es : Entries) (done : Taken) (t : Taking) → IsSoFar p c st a f m es done t → (news : Bool)
    → IsSoFar p c st a f m es (record done { news = news }) t
so_with p c st a f m es done t so news = record { table = so.table; book = so.book; errors = so.errors; left_out = so.left_out; taken = so.taken }

-- ---- what was told, by what became of the unit
abbrev pub done_by : Bool → UnitOf → Part → Taken → Placed → Taken
done_by in_place u part done placed.LeftOut = record done { left_out = true }
done_by in_place u part done (placed.Refused why) =
    record done { errors = done.errors ++ record { in_place = in_place; code = 1; value = value_of why; names = Some part.senders; flow = part.flow } ∷ [] }
done_by in_place u part done placed.Taken = record done { parts = put_in done.parts u part }

module _ (p : NodeConfig) (c : ℕ) (st : StyleKind) (a : Asker) (f : Facts) (t : Taking) (u : UnitOf) (part : Part) (confirm : Option Addr) (m : ResvFacts) (es : Entries) (done : Taken)
    (so : IsSoFar p c st a f m es done t) (styled : AreOfStyle st m) (own : IsOfStyle st part) (unit : part_unit st part ≡ u)
    (wish : confirm ≡ or_kept a.confirm (confirm_kept (get (changed (resv_at c) m) (a.session, ((a.iface, a.next), u))))) (few : size part.senders ≤ 16) (in_place : Bool)
    (stood_there : in_place ≡ is_some (get es (a.iface, entry_at (asker_at c st a) u))) (m2 : ResvFacts) (es2 : Entries) where
  abbrev it : ResvFact
  it = record { session = a.session; iface = a.iface; next = a.next; part = part; confirm = confirm }

  wished : confirm ≡ or_kept a.confirm (confirm_kept (get t.table (a.session, ((a.iface, a.next), u))))
  wished = wish ∙ ap (λ (z : Resvs). or_kept a.confirm (confirm_kept (get z (a.session, ((a.iface, a.next), u))))) (sym so.table)

  pub step_so : (r : Placed) → ((g : Facts) → resvs_of st g ≡ changed (resv_at c) m → IsBookOf g es → r ≡ placed_in p st c it a.left g) → m2 ≡ chosen r (put_in m (resv_key st it) (it, a.left)) m
      → MovesWith st m m2 es es2 → ((r ≡ placed.Taken → ⊥) → es2 ≡ es)
      → IsSoFar p c st a f m2 es2 (done_by in_place u part done r) (put_unit p (asker_at c st a) f u (Some part) t)
  step_so r result table moves same = by r (rule_is p c st a f t u part confirm unit wished r few (result (with_resvs st t.table f) (table_put st t.table f.resvs ∙ so.table) so.book)) table same
    where
      by : (r : Placed) → put_unit p (asker_at c st a) f u (Some part) t ≡ told p c st a f t u part confirm unit wished r → m2 ≡ chosen r (put_in m (resv_key st it) (it, a.left)) m
          → ((r ≡ placed.Taken → ⊥) → es2 ≡ es)
          → IsSoFar p c st a f m2 es2 (done_by in_place u part done r) (put_unit p (asker_at c st a) f u (Some part) t)
      by placed.LeftOut e table same =
          subst (λ z. IsSoFar p c st a f m2 es2 (record done { left_out = true }) z) (sym e)
          (subst (λ (z : ResvFacts). IsSoFar p c st a f z es2 (record done { left_out = true }) (record t { left_out = true })) (sym table)
          (subst (λ (z : Entries). IsSoFar p c st a f m z (record done { left_out = true }) (record t { left_out = true })) (sym (same (λ x. cc)))
          (left_out_so p c st a f t u part confirm m es done so (record done { left_out = true }) refl)))
      by (placed.Refused why) e table same =
          let after = refused_so p c st a f t u part confirm m es done so (done_by in_place u part done (placed.Refused why)) why in_place (value_of why) stood_there refl refl in
          subst (λ z. IsSoFar p c st a f m2 es2 (done_by in_place u part done (placed.Refused why)) z) (sym e)
          (subst (λ (z : ResvFacts). IsSoFar p c st a f z es2 (done_by in_place u part done (placed.Refused why)) (told p c st a f t u part confirm unit wished (placed.Refused why))) (sym table)
          (subst (λ (z : Entries). IsSoFar p c st a f m z (done_by in_place u part done (placed.Refused why)) (told p c st a f t u part confirm unit wished (placed.Refused why)))
          (sym (same (λ x. cc))) after))
      by placed.Taken e table same =
          let moved : MovesWith st m (put_in m (resv_key st it) (it, a.left)) es es2 = subst (λ (z : ResvFacts). MovesWith st m z es es2) table moves in
          let after = taken_so p c st a f t u part confirm m es done so styled own unit wished (record done { parts = put_in done.parts u part }) es2 moved refl in
          subst (λ z. IsSoFar p c st a f m2 es2 (record done { parts = put_in done.parts u part }) z) (sym e)
          (subst (λ (z : ResvFacts). IsSoFar p c st a f z es2 (record done { parts = put_in done.parts u part }) (told p c st a f t u part confirm unit wished placed.Taken)) (sym table) after)

-- ---- what comes before a unit takes its place
append_none : {A : Type 0} (xs : List A) → xs ≡ xs ++ []
append_none [] = refl
append_none (x ∷ xs) = ap (λ ys. x ∷ ys) (append_none xs)

pub told_none : (p : NodeConfig) (o : AskerOf) (xs : List Refusal) → each (refusal_of p o) xs ≡ each (refusal_of p o) xs ++ []
told_none p o xs = append_none (each (refusal_of p o) xs)

pub told_one : (p : NodeConfig) (o : AskerOf) (xs ys : List Refusal) (r : Refusal) → ys ≡ xs ++ r ∷ [] → each (refusal_of p o) ys ≡ each (refusal_of p o) xs ++ refusal_of p o r ∷ []
told_one p o xs ys r e = ap (each (refusal_of p o)) e ∙ map-append (refusal_of p o) xs (r ∷ [])

-- one more unit that is refused like the others
pub refused_more : (p : NodeConfig) (o : AskerOf) (code value : ℕ) (us : List AskedUnit) (k : ℕ) (u : AskedUnit) → slice_get us k ≡ Some u → (xs ys : List Refusal)
    → ys ≡ xs ++ record { in_place = false; code = code; value = value; names = u.names; flow = u.flow } ∷ []
    → each (refusal_of p o) xs ≡ each (λ (v : AskedUnit). refusal p o false code value v.names v.flow) (take k us)
    → each (refusal_of p o) ys ≡ each (λ (v : AskedUnit). refusal p o false code value v.names v.flow) (take (k + 1) us)
refused_more p o code value us k u got xs ys is so_far =
    let say = λ (v : AskedUnit). refusal p o false code value v.names v.flow in
    told_one p o xs ys (record { in_place = false; code = code; value = value; names = u.names; flow = u.flow }) is ∙ ap (λ zs. zs ++ say u ∷ []) so_far ∙ sym (map-append say (take k us) (u ∷ []))
    ∙ ap (each say) (sym (front_more us k u got))

-- who wants to hear of an earlier one
wish_is : (c : ℕ) (m : ResvFacts) (k : LineKey) (w : Option ResvFact) → w ≡ option_map (λ e. e.0) (get m k)
    → option_and_then (λ (f : ResvFact). f.confirm) w ≡ confirm_kept (get (changed (resv_at c) m) k)
wish_is c m k w e = ap (option_and_then (λ (f : ResvFact). f.confirm)) e ∙ by (get m k) ∙ ap confirm_kept (sym (get-changed line_keys (resv_at c) m k))
  where
    by : (v : Option (ResvFact × ℕ)) → option_and_then (λ (f : ResvFact). f.confirm) (option_map (λ e. e.0) v) ≡ confirm_kept (then_do v (resv_at c k))
    by None = refl
    by (Some e) = refl

pub wish_asked : (c : ℕ) (m : ResvFacts) (confirm : Option Addr) (k : LineKey) → wish_kept confirm (option_and_then (λ (f : ResvFact). f.confirm) (option_map (λ (e : ResvFact × ℕ). e.0) (get m k)))
    ≡ or_kept confirm (confirm_kept (get (changed (resv_at c) m) k))
wish_asked c m (Some a) k = refl
wish_asked c m None k = wish_is c m k (option_map (λ (e : ResvFact × ℕ). e.0) (get m k)) refl

module _ (p : NodeConfig) (c : ℕ) (st : StyleKind) (a : Asker) (f : Facts) (m : ResvFacts) (es : Entries) (done : Taken) (t : Taking) (so : IsSoFar p c st a f m es done t) where
  pub lost_so : (new : Taken) (l : Blamed) (flow : TokenBucket) → each (refusal_of p (asker_at c st a)) new.errors
      ≡ each (refusal_of p (asker_at c st a)) done.errors ++ losses p (asker_at c st a) flow l → new.left_out ≡ done.left_out → new.parts ≡ done.parts
      → IsSoFar p c st a f m es new (tell_lost p (asker_at c st a) flow l t)
  lost_so new l flow errors left_out parts = record {
    table = so.table;
    book = so.book;
    errors = ap (λ xs. xs ++ losses p (asker_at c st a) flow l) so.errors ∙ sym errors;
    left_out = so.left_out ∙ sym left_out;
    taken = so.taken ∙ sym parts;
  }

module _ (p : NodeConfig) (o : AskerOf) (f : Facts) (u : UnitOf) (t : Taking) (names : Names) (flow : TokenBucket) where
  -- more names than a list has room for
  pub many_is : 16 < size names → put_unit p o f u (part_of names flow) t ≡ record t { left_out = true }
  many_is many =
      let part : Part = record { senders = names; flow = flow } in
      ap (λ w. put_unit p o f u w t) (part_of_some names flow (some many)) ∙ ap (λ b. put_tested p o f u part (b && fits o.style (table_with o u part t.table)) (book_refuses p o f u part t.table) t)
      (over many)
    where
      some : 16 < size names → is_none names ≡ false
      some h = grind (arith, nat_tests)

      over : 16 < size names → nat_le (size names) 16 ≡ false
      over h = grind (arith, nat_tests)

  pub none_is : size names ≡ 0 → put_unit p o f u (part_of names flow) t ≡ t
  none_is e = ap (λ w. put_unit p o f u w t) (part_of_none names flow (none e))
    where
      none : size names ≡ 0 → is_none names ≡ true
      none h = grind (arith, nat_tests)

-- the book of some facts moves with the table
pub among_after : (st : StyleKind) (m new : ResvFacts) (es after : Entries) → IsBookAmong st m es → MovesWith st m new es after → IsBookAmong st new after
among_after st m new es after among moves = record {
  clock = among.clock;
  facts = facts_with st among.clock new among.facts;
  resvs = put_here st new among.clock among.facts;
  book = moves among.clock among.facts among.resvs among.book;
  others = λ s away. subst (λ (z : Resvs). size z ≤ 1024) (sym (put_away st new among.clock among.facts s away)) (among.others s away);
}

-- ---- units one after another
pub units_more : (p : NodeConfig) (o : AskerOf) (f : Facts) (all : Names) (us : List AskedUnit) (u : AskedUnit) (t : Taking)
    → take_units p o f all t (us ++ u ∷ []) ≡ take_unit p o f all (take_units p o f all t us) u
units_more p o f all [] u t = refl
units_more p o f all (v ∷ us) u t = units_more p o f all us u (take_unit p o f all t v)

-- nothing is taken yet
pub start_so : (p : NodeConfig) (c : ℕ) (st : StyleKind) (a : Asker) (f : Facts) (m : ResvFacts) (es : Entries) (done : Taken) → resvs_of st f ≡ changed (resv_at c) m → IsBookOf f es
    → done.errors ≡ [] → done.left_out ≡ false → done.parts ≡ empty
    → IsSoFar p c st a f m es done (nothing_taken (resvs_of st f) [])
start_so p c st a f m es done is booked errors left_out parts = record {
  table = is;
  book = subst (λ (z : Facts). IsBookOf z es) (λ i. record f { resvs = sym (as_it_was st f.resvs) i }) booked;
  errors = ap (each (refusal_of p (asker_at c st a))) (sym errors);
  left_out = sym left_out;
  taken = sym parts;
}

-- ---- lists with room
pub grows : (t : PartTable) (u : UnitOf) (x : Part) → size (put_in t u x) ≤ size t + 1
grows t u x = by (has t u) (size-put_in units t u x)
  where
    by : (b : Bool) → size (put_in t u x) ≡ cond b (size t) (size t + 1) → size (put_in t u x) ≤ size t + 1
    by true e = omega (arith, e)
    by false e = omega (arith, e)

pub cut_few : (s t : Names) → size s ≤ 16 → 16 < size (cut s t) → ⊥
cut_few s t few many = omega (arith, few, many, size_within senders (cut s t) s (cut_within senders s t))

pub some_names : (names : Names) (b : Bool) → (b ≡ true → size names ≡ 0) → (size names ≡ 0 → b ≡ true) → b ≡ is_none names
some_names names true h g = sym (none (h refl))
  where
    none : size names ≡ 0 → is_none names ≡ true
    none e = grind (arith, nat_tests)
some_names names false h g = sym (none (λ e. let z : false ≡ true = g e in cc))
  where
    none : (size names ≡ 0 → ⊥) → is_none names ≡ false
    none other = grind (arith, nat_tests)

pub many_some : (names : Names) → 16 < size names → false ≡ is_none names
many_some names h = grind (arith, nat_tests)

pub not_past : (us : List AskedUnit) (k : ℕ) → k < length us → slice_get us k ≡ None → ⊥
not_past [] k lt e = omega (arith, lt)
not_past (u ∷ us) zero lt e = cc
not_past (u ∷ us) (suc k) lt e = not_past us k (omega (arith, lt)) e
