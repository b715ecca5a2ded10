-- The map of lanes: what it answers, and how many there are.
use Rattle.std.proofs.Common.{◌≡◌, ◌<◌, ◌≤◌, ◌+◌, ℕ, true, false, cond, List, [], ◌∷◌, length, map as each, is_some, Option, Some, None, refl, sym, ap, ◌∙◌, arith}
use Rattle.std.specs.Prelude.{nat_lt, not, Result, Ok, Err, OnOk, OnErr}
use Rattle.std.specs.Option.{option_map}
use Rattle.std.specs.Ordering.{eq_by_cmp}
use Rattle.std.proofs.lemmas.Bool.Decides.{nat_tests}
use Rattle.std.proofs.lemmas.List.{length-map}
use Rattle.rsvp_base.specs.Rows.{AreRows, table_of}
use Rattle.rsvp_base.specs.Table.{Table, empty, get, size, put_in, without, changed, same_rows}
use Rattle.std.specs.FinMap.Entries.{find}
use Rattle.rsvp_base.proofs.Tables.{get-put_in, get-without, same_table, size-put_in}
use Rattle.style_rules.specs.Merge.{PartTable}
use Rattle.soft_table.proofs.Keyed.{where_no_more}
use Rattle.soft_table.proofs.Valued.{get-valued, size-valued, valued-put_in, valued-without}
use Rattle.router_rules.specs.Known.{Lane, lane_keys}
use Rattle.sent_state.specs.declared.lane.Sent.{Sent}
use Rattle.sent_state.specs.Lanes.{LaneMap, LanePlace, PlaceMap, lane_at, lane_places, lane_row, lanes_in, parts_of, place_of, sent_row, told}

abbrev pub said : Sent × ℕ → PartTable
said e = e.0.parts

-- parts of which there are none are the empty table
pub none_is_empty : (ps : PartTable) → size ps ≡ 0 → empty ≡ ps
none_is_empty ps none = same_rows empty ps (sym (nil ps.rows none))
  where
    nil : {A : Type 0} (xs : List A) → length xs ≡ 0 → xs ≡ []
    nil [] e = refl
    nil (x ∷ xs) e = absurd (omega arith)

-- with parts, or with none
pub told_none : (m : LaneMap) (k : Lane) (ps : PartTable) → size ps ≡ 0 → told m k ps ≡ without m k
told_none m k ps none = ap (λ n. cond (nat_lt 0 n) (put_in m k ps) (without m k)) none

pub told_some : (m : LaneMap) (k : Lane) (ps : PartTable) → (size ps ≡ 0 → ⊥) → told m k ps ≡ put_in m k ps
told_some m k ps some = ap (λ b. cond b (put_in m k ps) (without m k)) (many (size ps) some)
  where
    many : (n : ℕ) → (n ≡ 0 → ⊥) → nat_lt 0 n ≡ true
    many n some = grind (arith, nat_tests)

-- what a look-up found
pub found_parts : (r : Option Sent) (w : Option (Sent × ℕ)) → r ≡ option_map (λ e. e.0) w → option_map (λ (f : Sent). f.parts) r ≡ option_map said w
found_parts None None e = refl
found_parts None (Some x) e = cc
found_parts (Some f) None e = cc
found_parts (Some f) (Some x) e = let is : f ≡ x.0 = cc in ap (λ (z : Sent). Some z.parts) is

pub none_found : (w : Option (Sent × ℕ)) → w ≡ None → is_some (option_map said w) ≡ false
none_found w e = ap (λ z. is_some (option_map said z)) e

pub on_err : {A E P Q : Type 0} (r : Result A E) → (P → Q) → OnErr r P → OnErr r Q
on_err (Ok x) f p = p
on_err (Err e) f p = f p

-- ---- lanes at their places
module _ {X : Type 0} where
  find_lane : (es : List (LanePlace × X)) (l : Lane) → find lane_keys.cmp l (each lane_row es) ≡ find lane_places.cmp (place_of l) es
  find_lane [] l = refl
  find_lane (e ∷ es) l = ap (λ w. cond (eq_by_cmp lane_places.cmp (place_of l) e.0) (Some e.1) w) (find_lane es l)

pub get_lane : (m : PlaceMap) (l : Lane) → get (lanes_in m) l ≡ get m (place_of l)
get_lane m l = find_lane m.rows l

pub size_lanes : (m : PlaceMap) → size (lanes_in m) ≡ size m
size_lanes m = length-map m.rows lane_row

pub put_lane : (m : PlaceMap) (k : LanePlace) (v : PartTable) → lanes_in (put_in m k v) ≡ put_in (lanes_in m) (lane_at k) v
put_lane m k v =
    same_table lane_keys _ _ (λ q.
    get_lane (put_in m k v) q ∙ get-put_in lane_places m k v (place_of q) ∙ ap (λ w. cond (eq_by_cmp lane_places.cmp (place_of q) k) (Some v) w) (sym (get_lane m q))
    ∙ sym (get-put_in lane_keys (lanes_in m) (lane_at k) v q))

pub without_lane : (m : PlaceMap) (k : LanePlace) → lanes_in (without m k) ≡ without (lanes_in m) (lane_at k)
without_lane m k =
    same_table lane_keys _ _ (λ q.
    get_lane (without m k) q ∙ get-without lane_places m k (place_of q) ∙ ap (λ w. cond (not (eq_by_cmp lane_places.cmp k (place_of q))) w None) (sym (get_lane m q))
    ∙ sym (get-without lane_keys (lanes_in m) (lane_at k) q))

module _ (fs : List (Sent × ℕ)) (up : AreRows lane_places sent_row fs) where
  abbrev pub facts : Table lane_places (Sent × ℕ)
  facts = table_of lane_places sent_row fs up

  pub many : size (lanes_in (changed parts_of facts)) ≡ length fs
  many = size_lanes (changed parts_of facts) ∙ size-valued lane_places said facts ∙ length-map fs sent_row

  pub got : (k : LanePlace) → get (lanes_in (changed parts_of facts)) (lane_at k) ≡ option_map said (get facts k)
  got k = get_lane (changed parts_of facts) (lane_at k) ∙ get-valued lane_places said facts k

  pub more : (k : LanePlace) (e : Sent × ℕ) → lanes_in (changed parts_of (put_in facts k e)) ≡ put_in (lanes_in (changed parts_of facts)) (lane_at k) (said e)
  more k e = ap lanes_in (valued-put_in lane_places said facts k e) ∙ put_lane (changed parts_of facts) k (said e)

  pub fewer : (k : LanePlace) → lanes_in (changed parts_of (without facts k)) ≡ without (lanes_in (changed parts_of facts)) (lane_at k)
  fewer k = ap lanes_in (valued-without lane_places said facts k) ∙ without_lane (changed parts_of facts) k

  -- there are at most 1,536
  pub few_less : (k : LanePlace) (new : List (Sent × ℕ)) → each sent_row new ≡ (without facts k).rows → length fs ≤ 1536 → length new ≤ 1536
  few_less k new is few =
      let less = where_no_more lane_places (λ x. not (eq_by_cmp lane_places.cmp k x)) facts.rows in
      omega (arith, ap length is, length-map new sent_row, length-map fs sent_row, less, few)

  pub few_put : {A E : Type 0} (r : Result A E) (k : LanePlace) (e : Sent × ℕ) (new : List (Sent × ℕ)) → length fs ≤ 1536 → (get facts k ≡ None → length fs < 1536)
      → OnOk r (each sent_row new ≡ (put_in facts k e).rows) → OnErr r (new ≡ fs) → length new ≤ 1536
  few_put (Err x) k e new few room ok err = omega (arith, ap length err, few)
  few_put (Ok x) k e new few room ok err =
      let n = sym (length-map new sent_row) ∙ ap length ok ∙ size-put_in lane_places facts k e in
      let m = length-map fs sent_row in
      by (get facts k) refl n m
    where
      by : (w : Option (Sent × ℕ)) → get facts k ≡ w → length new ≡ cond (is_some (get facts k)) (size facts) (size facts + 1) → size facts ≡ length fs → length new ≤ 1536
      by None at n m = let one : length new ≡ size facts + 1 = n ∙ ap (λ z. cond (is_some z) (size facts) (size facts + 1)) at in let lt = room at in omega (arith, one, m, lt)
      by (Some z) at n m = let one : length new ≡ size facts = n ∙ ap (λ z. cond (is_some z) (size facts) (size facts + 1)) at in omega (arith, one, m, few)
