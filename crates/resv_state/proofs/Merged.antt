-- Requests as they are added to a merger, and the room for them.
use Rattle.std.proofs.Common.{◌≡◌, ◌≤◌, ◌<◌, ◌+◌, ℕ, Bool, true, false, cond, ◌==◌, ◌/◌, ◌^◌, is_some, List, [], ◌∷◌, ◌++◌, length, take, drop, get_or, Option, Some, None, refl, sym, ap}
use Rattle.std.proofs.Common.{subst, ◌∙◌, arith, ⊎_elim}
use Rattle.std.specs.Prelude.{slice_get, nat_lt}
use Rattle.std.specs.Int.{bit_at}
use Rattle.std.specs.Int.Bits.{bit_and}
use Rattle.std.proofs.lemmas.Bool.Decides.{nat_tests}
use Rattle.std.proofs.lemmas.Nat.Bits.{shr_and_one, bit_at_above}
use Rattle.std.specs.List.{filter_map, cons_option}
use Rattle.std.specs.Option.{option_map}
use Rattle.std.proofs.lemmas.List.Elements.{filter_map-append}
use Rattle.std.proofs.lemmas.Option.{slice_get-get_or}
use Rattle.rsvp_base.specs.Members.{In}
use Rattle.rsvp_base.specs.Orders.{Names, senders, sessions}
use Rattle.rsvp_base.specs.Rows.{AreRows, table_of}
use Rattle.rsvp_base.specs.Under.{under}
use Rattle.rsvp_base.specs.Sets.{union, cut, IsWithin}
use Rattle.rsvp_base.specs.Table.{Table, get, has, keys, size, changed, changed_rows}
use Rattle.rsvp_base.specs.TokenBucket.{TokenBucket}
use Rattle.rsvp_base.specs.declared.part.Part.{Part}
use Rattle.rsvp_base.specs.declared.session.Sender.{Sender}
use Rattle.rsvp_base.specs.declared.session.Session.{Session}
use Rattle.rsvp_base.specs.declared.style.StyleKind.{StyleKind}
use Rattle.rsvp_base.specs.declared.style.Unit.{Unit as UnitOf}
use Rattle.rsvp_base.proofs.Counts.{in_set_of, set_of_in, in_found, size_below}
use Rattle.rsvp_base.proofs.Fronts.{front_all, front_more, in_front, got_in, in_filter_map, in_keys, to_keys}
use Rattle.rsvp_base.proofs.Members.{in_append, in_flat_map, to_flat_map}
use Rattle.rsvp_base.proofs.SetLaws.{has-cut, and_both, size_within, within_union_left, within_union_right}
use Rattle.rsvp_base.proofs.Tables.{then_do, get-changed}
use Rattle.rsvp_base.proofs.UnderLaws.{get-under}
use Rattle.style_rules.specs.declared.wall.UpLine.{UpLine}
use Rattle.style_rules.specs.Limits.{IsWithinLimits, names_of, of_session}
use Rattle.style_rules.specs.Lines.{line_keys}
use Rattle.style_rules.specs.CutLaws.{cut_senders}
use Rattle.style_rules.specs.PartLaws.{union_least}
use Rattle.style_rules.specs.Parts.{part_cut}
use Rattle.style_rules.specs.Tally.{tally_of, names_of_tally, names_of_requests}
use Rattle.style_rules.specs.Toward.{Request, is_walled, parts_of}
use Rattle.style_rules.specs.Ways.{Way, WayTable, up_line_of}
use Rattle.style_rules.proofs.TallyRoom.{merger_has_room}
use Rattle.soft_table.proofs.Steps.{Step, first_dropped}
use Rattle.soft_table.proofs.Valued.{size-valued, get-valued}
use Rattle.resv_state.specs.declared.fact.Held.{Held}
use Rattle.resv_state.specs.Resvs.{held_key, held_row, fact_of, resv_lines}
use Rattle.resv_state.specs.Walks.{Rest, rests, held_under}
use Rattle.resv_state.specs.Merging.{SessionRow, parts_on, names_via, names_out, is_out, is_way_walled, is_blockaded, request_of, want_request, names_by, is_by, one_of, open_on, held_said}
use Rattle.resv_state.specs.Merging.{held_on, held_toward, held_names}
use Rattle.resv_state.proofs.Facts.{said}
use Rattle.soft_table.proofs.Told.{under-valued}
use Rattle.resv_state.proofs.Limits.{one_style, names_made, few_of_session}

-- ---- lists
single : {B : Type 0} (w : Option B) → cons_option w [] ≡ one_of w
single None = refl
single (Some x) = refl

pub filter_one : {A B : Type 0} (h : A → Option B) (es : List A) (k : ℕ) (x : A) → slice_get es k ≡ Some x → filter_map h (take (k + 1) es) ≡ filter_map h (take k es) ++ one_of (h x)
filter_one h es k x at = ap (filter_map h) (front_more es k x at) ∙ filter_map-append h (take k es) (x ∷ []) ∙ ap (λ ys. filter_map h (take k es) ++ ys) (single (h x))

-- where none is left, all are taken
pub all_taken : {A : Type 0} (es : List A) (k : ℕ) → drop k es ≡ [] → take k es ≡ es
all_taken es k gone = front_all es k (sym (first_dropped es k) ∙ ap (λ zs. slice_get zs 0) gone)

-- ---- which names come from the hop
abbrev any_way : Sender → Way → Option (Unit {0})
any_way x way = Some tt

abbrev if_so : Bool → Option (Unit {0})
if_so b = cond b (Some tt) None

is_if : (b : Bool) → is_some (if_so b) ≡ b
is_if true = refl
is_if false = refl

pub has-by : (iface : Option ℕ) (up : WayTable) (q : Sender) → has (names_by iface up) q ≡ is_by iface (get up q)
has-by None up q = ap is_some (get-changed senders any_way up q) ∙ by (get up q)
  where
    by : (w : Option Way) → is_some (then_do w (any_way q)) ≡ is_by None w
    by None = refl
    by (Some way) = refl
has-by (Some i) up q = ap is_some (get-changed senders (λ x way. if_so (is_out i way)) up q) ∙ by (get up q)
  where
    by : (w : Option Way) → is_some (then_do w (λ way. if_so (is_out i way))) ≡ is_by (Some i) w
    by None = refl
    by (Some way) = is_if (is_out i way)

by_any : (iface : Option ℕ) (w : Option Way) → is_by iface w ≡ true → is_by None w ≡ true
by_any iface None e = cc
by_any iface (Some way) e = refl

by_within : (iface : Option ℕ) (up : WayTable) → IsWithin (names_by iface up) (names_via up)
by_within iface up q h = has-by None up q ∙ by_any iface (get up q) (sym (has-by iface up q) ∙ h)

-- ---- room
abbrev pub AreWithin : Names → List Request → Type 0
AreWithin all rs = (r : Request) → In r rs → IsWithin r.part.senders all

named_within : (all : Names) (rs : List Request) → AreWithin all rs → IsWithin (names_of_requests rs) all
named_within all rs h q is =
    let r = in_flat_map (λ (r : Request). keys r.part.senders) q rs (set_of_in senders _ q is) in
    h r.0 r.1 q (in_keys senders r.0.part.senders q r.2)

pub room : (st : StyleKind) (all : Names) (rs : List Request) (p : Part) → size all ≤ 16 → AreWithin all rs → IsWithin p.senders all → size (union (names_of_tally (tally_of st rs)) p.senders) ≤ 16
room st all rs p few h own =
    merger_has_room st rs p (let less = size_within senders (union (names_of_requests rs) p.senders) all (union_least (names_of_requests rs) p.senders all (named_within all rs h) own) in
    omega (arith, less, few))

pub room_via : (st : StyleKind) (up : WayTable) (rs : List Request) (f : TokenBucket) → size up ≤ 16 → AreWithin (names_via up) rs → size (union (names_of_tally (tally_of st rs)) (names_via up)) ≤ 16
room_via st up rs f few h = room st (names_via up) rs (record { senders = names_via up; flow = f }) (let is = size-valued senders (λ (w : Way). tt {0}) up in omega (arith, is, few)) h (λ q is. is)

pub append_within : (all : Names) (xs ys : List Request) → AreWithin all xs → AreWithin all ys → AreWithin all (xs ++ ys)
append_within all xs ys f g r i = ⊎_elim (λ (j : In r xs). f r j) (λ (j : In r ys). g r j) (in_append r xs ys i)

-- a cut to the names is within them
cut_within : (up : WayTable) (iface : Option ℕ) (p : Part) (r : Request) → request_of up (part_cut p (names_by iface up)) ≡ Some r → IsWithin r.part.senders (names_via up)
cut_within up iface p r is = by (part_cut p (names_by iface up)) refl is
  where
    by : (w : Option Part) → part_cut p (names_by iface up) ≡ w → request_of up w ≡ Some r → IsWithin r.part.senders (names_via up)
    by None from e = absurd (let z : None ≡ Some r = e in cc)
    by (Some x) from e = λ q h.
        let same : record { part = x; blockaded = is_blockaded up x } ≡ r = cc in
        let part : x ≡ r.part = ap (λ (z : Request). z.part) same in
        let own : has (cut p.senders (names_by iface up)) q ≡ true = ap (λ s. has s q) (sym (cut_senders p x (names_by iface up) from)) ∙ ap (λ (z : Part). has z.senders q) part ∙ h in
        by_within iface up q (and_both (has p.senders q) (has (names_by iface up) q) (sym (has-cut senders p.senders (names_by iface up) q) ∙ own)).1

pub left_within_names : (up : WayTable) (iface : Option ℕ) (p x : Part) → part_cut p (names_by iface up) ≡ Some x → IsWithin x.senders (names_via up)
left_within_names up iface p x is = cut_within up iface p (record { part = x; blockaded = is_blockaded up x }) (ap (request_of up) is)

pub toward_within : (up : WayTable) (es : List (Rest × (Held × ℕ))) → AreWithin (names_via up) (filter_map (held_toward up) es)
toward_within up es r i = let e = in_filter_map (held_toward up) r es i in cut_within up (Some e.0.0.0.0) e.0.1.0.fact.part r e.2

pub wants_within : (up : WayTable) (ws : List (UnitOf × Part)) → AreWithin (names_via up) (filter_map (want_request up) ws)
wants_within up ws r i = let e = in_filter_map (want_request up) r ws i in cut_within up None e.0.1 r e.2

-- ---- a walk on an interface
on_is : (iface at : ℕ) (p : Part) (r : Request) → open_on iface at p ≡ Some r → (r.part ≡ p) × (r.blockaded ≡ false)
on_is iface at p r is = by (at == iface) is
  where
    by : (b : Bool) → cond b (Some (record { part = p; blockaded = false })) None ≡ Some r → (r.part ≡ p) × (r.blockaded ≡ false)
    by true e = let same : record { part = p; blockaded = false } ≡ r = cc in (ap (λ (z : Request). z.part) (sym same), ap (λ (z : Request). z.blockaded) (sym same))
    by false e = absurd (let z : None ≡ Some r = e in cc)

row_named : (us : List (Rest × (Held × ℕ))) (e : Rest × (Held × ℕ)) → In e us → IsWithin e.1.0.fact.part.senders (held_names us)
row_named us e i q h = in_set_of senders _ q (to_flat_map (λ (z : Rest × (Held × ℕ)). keys z.1.0.fact.part.senders) e q us i (to_keys senders e.1.0.fact.part.senders q h))

on_within : (iface : ℕ) (us : List (Rest × (Held × ℕ))) (k : ℕ) → AreWithin (held_names us) (filter_map (held_on iface) (take k us))
on_within iface us k r i =
    let e = in_filter_map (held_on iface) r (take k us) i in
    let p = on_is iface e.0.0.0.0 e.0.1.0.fact.part r e.2 in
    subst (λ (z : Part). IsWithin z.senders (held_names us)) (sym p.0) (row_named us e.0 (in_front e.0 k us e.1))

pub all_open : (iface : ℕ) (es : List (Rest × (Held × ℕ))) (r : Request) → In r (filter_map (held_on iface) es) → r.blockaded ≡ false
all_open iface es r i = let e = in_filter_map (held_on iface) r es i in (on_is iface e.0.0.0.0 e.0.1.0.fact.part r e.2).1

module _ (s : Session) (fs : List (Held × ℕ)) (k : ℕ) (f : Held) (st : Step rests held_key s fs k f) where
  abbrev us : List (Rest × (Held × ℕ))
  us = held_under s fs

  pub room_on : (kind : StyleKind) (iface : ℕ) → size (held_names us) ≤ 16 → size (union (names_of_tally (tally_of kind (filter_map (held_on iface) (take k us)))) f.fact.part.senders) ≤ 16
  room_on kind iface few =
      room kind (held_names us) (filter_map (held_on iface) (take k us)) f.fact.part few (on_within iface us k)
      (subst (λ (h : Held). IsWithin h.fact.part.senders (held_names us)) st.fact (row_named us st.row (got_in us k st.row st.at)))

  pub on_more : (iface : ℕ) → filter_map (held_on iface) (take (k + 1) us) ≡ filter_map (held_on iface) (take k us) ++ one_of (open_on iface f.fact.iface f.fact.part)
  on_more iface =
      filter_one (held_on iface) us k st.row st.at
      ∙ ap (λ (r : Rest). filter_map (held_on iface) (take k us) ++ one_of (open_on iface r.0.0 st.row.1.0.fact.part)) st.rest
      ∙ ap (λ (h : Held). filter_map (held_on iface) (take k us) ++ one_of (open_on iface f.fact.iface h.fact.part)) st.fact

  pub toward_more : (up : WayTable) → filter_map (held_toward up) (take (k + 1) us) ≡ filter_map (held_toward up) (take k us) ++ one_of
      (request_of up (part_cut f.fact.part (names_out up f.fact.iface)))
  toward_more up =
      filter_one (held_toward up) us k st.row st.at
      ∙ ap (λ (r : Rest). filter_map (held_toward up) (take k us) ++ one_of (request_of up (part_cut st.row.1.0.fact.part (names_out up r.0.0)))) st.rest
      ∙ ap (λ (h : Held). filter_map (held_toward up) (take k us) ++ one_of (request_of up (part_cut h.fact.part (names_out up f.fact.iface)))) st.fact

-- ---- as the map says
pub said_rows : {B : Type 0} (h : SessionRow → Option B) (es : List (Rest × (Held × ℕ))) → filter_map (λ e. h (held_said e)) es ≡ filter_map h (changed_rows (λ k e. Some (said e)) es)
said_rows h [] = refl
said_rows h (e ∷ es) = ap (cons_option (h (held_said e))) (said_rows h es)

pub said_parts : (iface : ℕ) (es : List (Rest × (Held × ℕ))) → parts_of (filter_map (held_on iface) es) ≡ parts_on iface (changed_rows (λ k e. Some (said e)) es)
said_parts iface [] = refl
said_parts iface (e ∷ es) = by (e.0.0.0 == iface) (said_parts iface es)
  where
    by : (b : Bool) → parts_of (filter_map (held_on iface) es) ≡ parts_on iface (changed_rows (λ k e. Some (said e)) es)
        → parts_of (cons_option (cond b (Some (record { part = e.1.0.fact.part; blockaded = false })) None) (filter_map (held_on iface) es))
        ≡ cons_option (cond b (Some e.1.0.fact.part) None) (parts_on iface (changed_rows (λ k e. Some (said e)) es))
    by true ih = ap (λ ps. e.1.0.fact.part ∷ ps) ih
    by false ih = ih

-- ---- few rows, few names
module _ (st : StyleKind) (fs : List (Held × ℕ)) (up : AreRows line_keys held_row fs) (s : Session) where
  abbrev below : Table line_keys (Held × ℕ)
  below = table_of line_keys held_row fs up

  pub held_few : IsWithinLimits st (resv_lines st (changed fact_of below)) → length (held_under s fs) ≤ 1024
  held_few w =
      let is : size (under sessions rests (changed fact_of below) s) ≡ size (under sessions rests below s) = ap size (under-valued said sessions rests below s)
      ∙ size-valued rests said (under sessions rests below s) in
      let few = few_of_session st (changed fact_of below) s w in
      omega (arith, is, few)

  pub held_named : IsWithinLimits st (resv_lines st (changed fact_of below)) → size (held_names (held_under s fs)) ≤ 16
  held_named w =
      let m = changed fact_of below in
      let less = size_below senders (held_names (held_under s fs)) (names_of (of_session s (resv_lines st m))) (λ q is.
      let e = in_flat_map (λ (z : Rest × (Held × ℕ)). keys z.1.0.fact.part.senders) q (held_under s fs) (set_of_in senders _ q is) in
      names_made st m s q (record {
        rest = e.0.0;
        row = said e.0.1;
        at = get-valued line_keys said below (s, e.0.0) ∙ ap (option_map said) (sym (get-under sessions rests below s e.0.0) ∙ in_found rests (under sessions rests below s) e.0.0 e.0.1 e.1);
        named = in_keys senders e.0.1.0.fact.part.senders q e.2;
      })) in
      let same = ap (λ ls. size (names_of (of_session s ls))) (one_style st m) in
      omega (arith, less, same, w.names s)

-- ---- what a look-up of a line says
pub wall_got : (asked : TokenBucket) (q : Sender) (line : UpLine) (w : Option Way) → Some line ≡ option_map (λ way. up_line_of (q, way)) w → is_walled asked line.wall ≡ is_way_walled asked w
wall_got asked q line None e = cc
wall_got asked q line (Some way) e = let same : line ≡ up_line_of (q, way) = cc in ap (λ (l : UpLine). is_walled asked l.wall) same

pub wall_none : (asked : TokenBucket) (q : Sender) (w : Option Way) → None ≡ option_map (λ way. up_line_of (q, way)) w → false ≡ is_way_walled asked w
wall_none asked q None e = refl
wall_none asked q (Some way) e = cc

pub out_got : (i : ℕ) (q : Sender) (line : UpLine) (w : Option Way) → Some line ≡ option_map (λ way. up_line_of (q, way)) w → (bit_at line.outward i == 1) ≡ is_by (Some i) w
out_got i q line None e = cc
out_got i q line (Some way) e = let same : line ≡ up_line_of (q, way) = cc in ap (λ (l : UpLine). bit_at l.outward i == 1) same

pub any_got : (q : Sender) (line : UpLine) (w : Option Way) → Some line ≡ option_map (λ way. up_line_of (q, way)) w → true ≡ is_by None w
any_got q line None e = cc
any_got q line (Some way) e = refl

pub by_none : (iface : Option ℕ) (q : Sender) (w : Option Way) → None ≡ option_map (λ way. up_line_of (q, way)) w → false ≡ is_by iface w
by_none iface q None e = refl
by_none iface q (Some way) e = cc

-- ---- bits
pub out_bit : (outward i : ℕ) → (bit_and (outward / 2 ^ i) 1 == 1) ≡ (bit_at outward i == 1)
out_bit outward i = ap (λ n. n == 1) (shr_and_one outward i)

pub no_bit : (outward i : ℕ) → outward < 2 ^ 16 → 16 ≤ i → false ≡ (bit_at outward i == 1)
no_bit outward i small far = ap (λ n. n == 1) (sym (bit_at_above outward 16 i small far))

pub not_below : (n m : ℕ) → m ≤ n → nat_lt n m ≡ false
not_below n m far = grind (arith, nat_tests)

-- ---- a cut needs no more room
pub cut_room : (t names left : Names) → IsWithin left names → size (union t names) ≤ 16 → size (union t left) ≤ 16
cut_room t names left h few =
    let less = size_within senders (union t left) (union t names) (union_least t left (union t names) (within_union_left senders t names) (λ q is. within_union_right senders t names q (h q is))) in
    omega (arith, less, few)

pub filter_got : {A B : Type 0} (h : A → Option B) (es : List A) (i : ℕ) (d : A) → i < length es → filter_map h (take (i + 1) es) ≡ filter_map h (take i es) ++ one_of (h (get_or es i d))
filter_got h es i d lt = filter_one h es i (get_or es i d) (slice_get-get_or es i d lt)
