-- What a table answers to a fact is what the rules say of it.
use Rattle.std.specs.Prelude.{◌≡◌, ℕ, ◌≤◌, ◌<◌, Bool, true, false, Option, Some, None, List, [], Result, Ok, Err, IfErr, OnErr, OnOk, slice_get, refl}
use Rattle.std.proofs.Common.{sym, ap, subst, ◌∙◌}
use Rattle.rsvp_base.specs.Orders.{senders}
use Rattle.rsvp_base.specs.SessionLimits.{has_room_at}
use Rattle.rsvp_base.specs.Table.{Table, put_in, size}
use Rattle.rsvp_base.specs.declared.iface.Iface.{Iface}
use Rattle.rsvp_base.specs.declared.session.Session.{Session}
use Rattle.rsvp_base.specs.declared.style.StyleKind.{StyleKind}
use Rattle.style_rules.specs.declared.target.Target.{Target}
use Rattle.style_rules.specs.declared.wall.Wall.{Wall}
use Rattle.path_state.specs.Paths.{PathMap, path_keys}
use Rattle.path_state.specs.declared.fact.PathFact.{PathFact}
use Rattle.blockade_state.specs.Blockades.{WallMap}
use Rattle.resv_state.specs.Resvs.{resv_key}
use Rattle.resv_state.specs.declared.fact.ResvFact.{ResvFact}
use Rattle.router_rules.specs.Bounds.{AreBooked, AreWithinLimits}
use Rattle.router_rules.specs.Calls.{stale_refusal, with_left}
use Rattle.router_rules.specs.Books.{book, refused}
use Rattle.router_rules.specs.Facts.{Facts, Paths, ResvState, ResvTables, Walls, resvs_of, table_of, with_resvs, with_table}
use Rattle.router_rules.specs.Inputs.{StaleResv}
use Rattle.admission_book.specs.declared.refused.Refused.{Refused}
use Rattle.resv_admission.specs.Placing.{chosen, entry_key_of, outcome, placed_in, stands}
use Rattle.resv_admission.specs.declared.placing.Placed.{Placed}
use Rattle.resv_admission.specs.declared.placing.Placed.TheVariants as placed
use Rattle.resv_admission.proofs.Stands.{as_stale, stale_is}
use Rattle.stale_state.specs.Kept.{stale_of}
use Rattle.stale_state.specs.Standing.{IsLeftOut, Stands, answer_of}
use Rattle.stale_state.specs.Tables.{AreAdmitted, learnt, only_resvs, paths_of, place_with, walls_of}
use Rattle.stale_state.specs.declared.fact.Left.TheVariants as left_as
use Rattle.stale_state.specs.declared.refused.LeftErr.{LeftErr}
use Rattle.stale_state.specs.declared.refused.LeftErr.TheVariants.{Full}
use Rattle.stale_state.proofs.Admission.{booked_alike, path_full, path_stands, resv_excess, resv_full, resv_over, resv_taken, wall_full, wall_stands, zero_more}

pub dead_learnt : (r : Result (Unit {0}) LeftErr) (old new : PathMap) (fs : Table path_keys (PathFact × ℕ)) → OnOk r (new ≡ record old { facts = fs }) → OnErr r (new ≡ old)
    → new.dead.rows ≡ old.dead.rows
dead_learnt (Ok u) old new fs ok err = ap (λ (m : PathMap). m.dead.rows) ok
dead_learnt (Err e) old new fs ok err = ap (λ (m : PathMap). m.dead.rows) err

-- a path
module _ (t new : PathMap) (r : ResvTables) (w : Walls) (fact : PathFact) (left : ℕ) where
  abbrev room : Bool
  room = has_room_at senders (put_in t.facts (fact.session, fact.sender) (fact, left)) fact.session

  pub record PathAnswer (res : Result (Unit {0}) LeftErr) : Type 0 where
    pub ok : (is : List Iface) → OnOk res (Stands is (stale_of (left_as.Path fact) left) (learnt (paths_of (Some t)) r w) (learnt (paths_of (Some new)) r w))
    pub refused : (is : List Iface) → IfErr res (IsLeftOut is (stale_of (left_as.Path fact) left) (learnt (paths_of (Some t)) r w))
    pub err : OnErr res (learnt (paths_of (Some new)) r w ≡ learnt (paths_of (Some t)) r w)
    pub limits : AreWithinLimits (learnt (paths_of (Some new)) r w)

  pub path_answer : (res : Result (Unit {0}) LeftErr) → OnOk res (new ≡ record t { facts = put_in t.facts (fact.session, fact.sender) (fact, left) }) → OnOk res (room ≡ true)
      → OnErr res (room ≡ false) → IfErr res (λ e. e ≡ Full) → OnErr res (new ≡ t)
      → AreWithinLimits (learnt (paths_of (Some t)) r w) → PathAnswer res
  path_answer (Ok u) is free full why same limits =
      let now : learnt (paths_of (Some (record t { facts = put_in t.facts (fact.session, fact.sender) (fact, left) }))) r w ≡ learnt (paths_of (Some new)) r w =
      ap (λ (m : PathMap). learnt (paths_of (Some m)) r w) (sym is) in
      let stand : (ifs : List Iface) → Stands ifs (stale_of (left_as.Path fact) left) (learnt (paths_of (Some t)) r w) (learnt (paths_of (Some new)) r w) =
      λ ifs. subst (λ (f : Facts). Stands ifs (stale_of (left_as.Path fact) left) (learnt (paths_of (Some t)) r w) f) now (path_stands t r w fact left limits free ifs) in
      record { ok = stand; refused = λ ifs. tt; err = tt; limits = (stand []).limits }
  path_answer (Err e) is free full why same limits = record {
    ok = λ ifs. tt;
    refused = λ ifs. subst (IsLeftOut ifs (stale_of (left_as.Path fact) left) (learnt (paths_of (Some t)) r w)) (sym why) (path_full t r w fact left limits full);
    err = ap (λ (m : PathMap). learnt (paths_of (Some m)) r w) same;
    limits = subst (λ (m : PathMap). AreWithinLimits (learnt (paths_of (Some m)) r w)) (sym same) limits;
  }

-- a blockade
module _ (p : Paths) (r : ResvTables) (t new : WallMap) (s : Session) (at : Target) (wall : Wall) (left : ℕ) where
  pub record WallAnswer (res : Result (Unit {0}) LeftErr) : Type 0 where
    pub ok : (is : List Iface) → OnOk res (Stands is (stale_of (left_as.Wall s at wall) left) (learnt p r (walls_of (Some t))) (learnt p r (walls_of (Some new))))
    pub refused : (is : List Iface) → IfErr res (IsLeftOut is (stale_of (left_as.Wall s at wall) left) (learnt p r (walls_of (Some t))))
    pub err : OnErr res (learnt p r (walls_of (Some new)) ≡ learnt p r (walls_of (Some t)))
    pub limits : AreWithinLimits (learnt p r (walls_of (Some new)))

  pub wall_answer : (res : Result (Unit {0}) LeftErr) → OnOk res (new ≡ put_in t (s, at) (wall, left)) → OnOk res (size (put_in t (s, at) (wall, left)) ≤ 512)
      → OnErr res (512 < size (put_in t (s, at) (wall, left))) → IfErr res (λ e. e ≡ Full) → OnErr res (new ≡ t)
      → AreWithinLimits (learnt p r (walls_of (Some t))) → WallAnswer res
  wall_answer (Ok u) is few many why same limits =
      let now : learnt p r (walls_of (Some (put_in t (s, at) (wall, left)))) ≡ learnt p r (walls_of (Some new)) = ap (λ (m : WallMap). learnt p r (walls_of (Some m))) (sym is) in
      let stand : (ifs : List Iface) → Stands ifs (stale_of (left_as.Wall s at wall) left) (learnt p r (walls_of (Some t))) (learnt p r (walls_of (Some new))) =
      λ ifs. subst (λ (f : Facts). Stands ifs (stale_of (left_as.Wall s at wall) left) (learnt p r (walls_of (Some t))) f) now (wall_stands p r t s at wall left limits few ifs) in
      record { ok = stand; refused = λ ifs. tt; err = tt; limits = (stand []).limits }
  wall_answer (Err e) is few many why same limits = record {
    ok = λ ifs. tt;
    refused = λ ifs. subst (IsLeftOut ifs (stale_of (left_as.Wall s at wall) left) (learnt p r (walls_of (Some t)))) (sym why) (wall_full p r t s at wall left many);
    err = ap (λ (m : WallMap). learnt p r (walls_of (Some m))) same;
    limits = subst (λ (m : WallMap). AreWithinLimits (learnt p r (walls_of (Some m)))) (sym same) limits;
  }

-- ---- a reservation
-- what the book refused
outcome_why : (b : Bool) (w : Option Refused) (why : Refused) → outcome b w ≡ placed.Refused why → w ≡ Some why
outcome_why true (Some w) why e = cc
outcome_why true None why e = absurd (cc)
outcome_why false w why e = absurd (cc)

module _ (ifaces : List Iface) (p : Paths) (w : Walls) (ts new : ResvTables) (st : StyleKind) (fact : ResvFact) (left : ℕ) where
  abbrev x : ResvState
  x = record { part = fact.part; confirm = fact.confirm; dies = left }

  it : stands 0 fact left ≡ x
  it = ap (λ (n : ℕ). record x { dies = n }) (zero_more left)

  abbrev before : Facts
  before = learnt p ts w

  pub record ResvAnswer (res : Result (Unit {0}) LeftErr) : Type 0 where
    pub ok : OnOk res (Stands ifaces (stale_of (left_as.Resv st fact) left) (learnt p ts w) (learnt p new w))
    pub refused : IfErr res (IsLeftOut ifaces (stale_of (left_as.Resv st fact) left) (learnt p ts w))
    pub err : OnErr res (learnt p new w ≡ learnt p ts w)
    pub limits : AreWithinLimits (learnt p new w)

  pub resv_answer : (on : Iface) → slice_get ifaces fact.iface ≡ Some on → (r : Placed) → r ≡ placed_in (place_with ifaces) st 0 fact left (only_resvs ts)
      → new ≡ chosen r (with_table st (put_in (table_of st ts) (resv_key st fact) (stands 0 fact left)) ts) ts → AreWithinLimits before → AreAdmitted ifaces (only_resvs ts)
      → ResvAnswer (answer_of on r)
  resv_answer on there r cause tables limits admitted =
      by r cause (ap as_stale cause ∙ stale_is (place_with ifaces) st 0 fact left before ∙ ap
      (λ (z : ResvState). stale_refusal (place_with ifaces) (StaleResv st (resv_key st fact) z) before) it) tables
    where
      booked : AreBooked (place_with ifaces) before
      booked = booked_alike (place_with ifaces) (only_resvs ts) before refl admitted

      by : (q : Placed) → q ≡ placed_in (place_with ifaces) st 0 fact left before → as_stale q ≡ stale_refusal (place_with ifaces) (StaleResv st (resv_key st fact) x) before
          → new ≡ chosen q (with_table st (put_in (table_of st ts) (resv_key st fact) (stands 0 fact left)) ts) ts → ResvAnswer (answer_of on q)
      by placed.Taken which c is =
          let t = resv_taken (place_with ifaces) st (resv_key st fact) x before (sym c) limits booked in
          let now : learnt p new w ≡ with_left (StaleResv st (resv_key st fact) x) before =
          ap (λ (z : ResvTables). learnt p z w) (is ∙ ap (λ (z : ResvState). with_table st (put_in (table_of st ts) (resv_key st fact) z) ts) it) in
          record {
            ok = record { facts = now; limits = subst AreWithinLimits (sym now) t.0; admitted = subst (AreBooked (place_with ifaces)) (sym now) t.1 };
            refused = tt;
            err = tt;
            limits = subst AreWithinLimits (sym now) t.0;
          }
      by placed.LeftOut which c same = record {
        ok = tt;
        refused = resv_full (place_with ifaces) st (resv_key st fact) x before (sym c);
        err = ap (λ (z : ResvTables). learnt p z w) same;
        limits = subst (λ (z : ResvTables). AreWithinLimits (learnt p z w)) (sym same) limits;
      }
      by (placed.Refused why) which c same =
          let over = resv_over (place_with ifaces) st (resv_key st fact) x before (sym c) limits in
          let told : refused (place_with ifaces) fact.iface (entry_key_of st fact) (book (with_left (StaleResv st (resv_key st fact) x) before) fact.iface) ≡ Some why =
          ap (λ (z : ResvState). refused (place_with ifaces) fact.iface (entry_key_of st fact) (book (with_left (StaleResv st (resv_key st fact) z) before) fact.iface)) (sym it)
          ∙ outcome_why _ (refused (place_with ifaces) fact.iface (entry_key_of st fact) (book
          (with_resvs st (put_in (resvs_of st before) (resv_key st fact) (stands 0 fact left)) before) fact.iface)) why (sym which) in
          record {
            ok = tt;
            refused = (over.0, over.1, resv_excess (place_with ifaces) st (resv_key st fact) x before on there booked why told);
            err = ap (λ (z : ResvTables). learnt p z w) same;
            limits = subst (λ (z : ResvTables). AreWithinLimits (learnt p z w)) (sym same) limits;
          }
