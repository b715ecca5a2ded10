-- What a node makes of where a message came, of messages that are not spelt, and of errors.
use Rattle.std.specs.Prelude.{◌⊎◌, ◌≡◌, ℕ, ◌<◌, ◌≤◌, nat_le, Bool, true, false, cond, not, ◌&&◌, ◌||◌, is_some, List, [], ◌∷◌, map as each, Option, Some, None, refl}
use Rattle.std.proofs.Common.{sym, ap, subst, ◌∙◌, inl, inr, ⊎_elim}
use Rattle.std.proofs.lemmas.Bool.{le-leb, lt-leb}
use Rattle.std.proofs.lemmas.Cmp.{tied_itself}
use Rattle.std.specs.List.{filter_map, list_any}
use Rattle.std.specs.Ordering.{eq_by_cmp, is_lt, ordering_then}
use Rattle.rsvp_base.specs.declared.session.Sender.{Sender}
use Rattle.rsvp_base.specs.declared.style.Unit.{Unit as UnitOf}
use Rattle.rsvp_base.specs.Keys.{pairs}
use Rattle.rsvp_base.specs.Members.{In}
use Rattle.rsvp_base.specs.Orders.{Names, senders, sessions, units}
use Rattle.rsvp_base.specs.Table.{empty, get, has, put_in, size, values, with_rows}
use Rattle.rsvp_base.specs.TokenBucket.{TokenBucket}
use Rattle.rsvp_base.proofs.Counts.{found_in, in_found}
use Rattle.rsvp_base.proofs.Members.{any_in, in_any}
use Rattle.rsvp_base.proofs.Tables.{either, get-put_in_other, tied_same}
use Rattle.rsvp_base.proofs.UnderLaws.{get-under}
use Rattle.rsvp_base.proofs.SetLaws.{or_right}
use Rattle.router_rules.specs.RsvpMessages.declared.message.PathErrMsg.{PathErrMsg}
use Rattle.router_rules.specs.RsvpMessages.declared.message.ResvErrMsg.{ResvErrMsg}
use Rattle.router_rules.specs.Lines.{NextHop, next_hops}
use Rattle.router_rules.specs.declared.answers.Heard.TheVariants as heard
use Rattle.router_rules.specs.declared.answers.Why.TheVariants as why
use Rattle.router_rules.specs.Errors.{act_path_err, act_resv_err, blamed, blockade_of, error_on, error_to, errors_on, is_admission, is_told, lane_of, path_err, path_err_on, sets_walls}
use Rattle.router_rules.specs.Errors.{walled_by, walls_after, walls_heard, walls_with, with_errors, error_listing}
use Rattle.router_rules.specs.Facts.{Facts, PathState, ResvState, Walls, paths_in, resvs_in, resvs_of}
use Rattle.router_rules.specs.Targets.{WallKey, wall_keys}
use Rattle.router_rules.specs.Inputs.{Change, ErrSend, only_heard}
use Rattle.router_rules.specs.Known.{Lane, came_by}
use Rattle.router_rules.specs.NodeConfig.{NodeConfig, goes_out}
use Rattle.laws_bounds.specs.FactLaws.{ComesBy}
use Rattle.laws_bounds.proofs.Lists.{in_values, passed, some_same, to_values}
use Rattle.laws_bounds.proofs.Once.{LastGives, given_rise, last_made, last_stands, last_told, someone_last, stands_last}
use Rattle.laws_bounds.specs.ErrorLaws.{ErrorsOnceEach, IsErrorTo, IsSpokenOf, PathErrsByTests, ResvErrsByTests, errors_with, walls_set}
use Rattle.laws_bounds.proofs.Telling.{same_hop}
use Rattle.laws_bounds.proofs.Blame.{sent_listing}
use Rattle.router_rules.specs.Asking.{as_listed}

-- ---- PathErr
path_err_by : (p : NodeConfig) (e : ℕ) (m : PathErrMsg) (f : Facts) (x : Sender) (out : Bool) → m.sender ≡ Some x → goes_out p m.session e x ≡ out
    → act_path_err p e m f ≡ with_errors f (cond out (path_err_on m (has f.senders (m.session, x)) (get f.paths (m.session, x))) ([], heard.Dropped why.NotOutward))
path_err_by p e m f x out s o =
    ap (λ w. with_errors f (path_err p e m w f)) s ∙ ap (λ b. with_errors f (cond b (path_err_on m (has f.senders (m.session, x)) (get f.paths (m.session, x))) ([], heard.Dropped why.NotOutward))) o

path_err_at : (p : NodeConfig) (e : ℕ) (m : PathErrMsg) (f : Facts) (x : Sender) (local : Bool) (w : Option PathState) → m.sender ≡ Some x → goes_out p m.session e x ≡ true
    → has f.senders (m.session, x) ≡ local → get f.paths (m.session, x) ≡ w
    → act_path_err p e m f ≡ with_errors f (path_err_on m local w)
path_err_at p e m f x local w s o h g =
    path_err_by p e m f x true s o ∙ ap (λ b. with_errors f (path_err_on m b (get f.paths (m.session, x)))) h ∙ ap (λ v. with_errors f (path_err_on m local v)) g

pub path_errs_by_tests : PathErrsByTests
path_errs_by_tests =
    record {
      no_sender = λ p e m f s. ap (λ w. with_errors f (path_err p e m w f)) s;
      not_outward = λ p e m f x s o. path_err_by p e m f x false s o;
      local = λ p e m f x s o h. path_err_at p e m f x true (get f.paths (m.session, x)) s o h refl;
      no_state = λ p e m f x s o h g. path_err_at p e m f x false None s o h g;
      on = λ p e m f x path s o h g. path_err_at p e m f x false (Some path) s o h g;
    }

-- ---- ResvErr
-- what it leaves, by whether a previous hop sent it and whether there is room
abbrev err_by : NodeConfig → ℕ → ℕ → ResvErrMsg → Facts → Bool → Bool → Change
err_by p c e m f from room =
    let after : Facts = record f { walls = walls_after from room (walls_set p c e m f) f.walls } in
    record (only_heard (walls_heard from room) after) { errors = cond (from && room) (errors_on p after (lane_of e m) m) [] }

abbrev is_from : ℕ → ResvErrMsg → Facts → Bool
is_from e m f = list_any (came_by (e, m.hop.addr)) (values (paths_in f m.session))

abbrev has_place : NodeConfig → ℕ → ℕ → ResvErrMsg → Facts → Bool
has_place p c e m f = not (sets_walls m) || nat_le (size (walls_set p c e m f)) 512

err_is : (p : NodeConfig) (c e : ℕ) (m : ResvErrMsg) (f : Facts) (from room : Bool) → is_from e m f ≡ from → has_place p c e m f ≡ room → act_resv_err p c e m f ≡ err_by p c e m f from room
err_is p c e m f from room s r = ap (λ b. err_by p c e m f b (has_place p c e m f)) s ∙ ap (λ b. err_by p c e m f from b) r

err_elsewhere : (p : NodeConfig) (c e : ℕ) (m : ResvErrMsg) (f : Facts) (room : Bool) → has_place p c e m f ≡ room → is_from e m f ≡ false
    → act_resv_err p c e m f ≡ only_heard (heard.Dropped why.NoState) f
err_elsewhere p c e m f true r s = err_is p c e m f false true s r
err_elsewhere p c e m f false r s = err_is p c e m f false false s r

-- a previous hop sent it where one of the session's paths comes from there
from_hop : (e : ℕ) (m : ResvErrMsg) (f : Facts) (x : Sender) → ComesBy f m.session (e, m.hop.addr) x → is_from e m f ≡ true
from_hop e m f x q =
    any_in (came_by (e, m.hop.addr)) q.path (values (paths_in f m.session)) (to_values senders (paths_in f m.session) x q.path (get-under sessions senders f.paths m.session x ∙ q.there)) q.by

hop_found : (e : ℕ) (m : ResvErrMsg) (f : Facts) → is_from e m f ≡ true → (x : Sender) × ComesBy f m.session (e, m.hop.addr) x
hop_found e m f s =
    let r = in_any (came_by (e, m.hop.addr)) (values (paths_in f m.session)) s in
    let v = in_values senders (paths_in f m.session) r.0 r.1 in
    (v.0, record { path = r.0; there = sym (get-under sessions senders f.paths m.session v.0) ∙ v.1; by = r.2 })

from_nowhere : (e : ℕ) (m : ResvErrMsg) (f : Facts) → ((x : Sender) → ComesBy f m.session (e, m.hop.addr) x → ⊥) → (b : Bool) → is_from e m f ≡ b → b ≡ false
from_nowhere e m f none false s = refl
from_nowhere e m f none true s = let r = hop_found e m f s in absurd (none r.0 r.1)

sets_none : (p : NodeConfig) (c e : ℕ) (m : ResvErrMsg) (w : Walls) (said : Option TokenBucket) → m.blame.flow ≡ said → (is_admission m.err && is_some said) ≡ false → walls_with p c e m said w ≡ w
sets_none p c e m w None s h = refl
sets_none p c e m w (Some flow) s h = by (is_admission m.err) h
  where
    by : (b : Bool) → (b && true) ≡ false → cond b (with_rows w (each (λ k. (k, blockade_of p c m flow)) (walled_by e m m.blame.style))) w ≡ w
    by true h = absurd (cc)
    by false h = refl

sets_none_of : (p : NodeConfig) (c e : ℕ) (m : ResvErrMsg) (f : Facts) → sets_walls m ≡ false → walls_set p c e m f ≡ f.walls
sets_none_of p c e m f h = sets_none p c e m f.walls m.blame.flow refl h

room_is : (p : NodeConfig) (c e : ℕ) (m : ResvErrMsg) (f : Facts) → size (walls_set p c e m f) ≤ 512 → has_place p c e m f ≡ true
room_is p c e m f few = or_right (not (sets_walls m)) (nat_le (size (walls_set p c e m f)) 512) (le-leb (size (walls_set p c e m f)) 512 few)

no_room : (p : NodeConfig) (c e : ℕ) (m : ResvErrMsg) (f : Facts) → sets_walls m ≡ true → 512 < size (walls_set p c e m f) → has_place p c e m f ≡ false
no_room p c e m f s many = ap (λ b. not b || nat_le (size (walls_set p c e m f)) 512) s ∙ lt-leb (size (walls_set p c e m f)) 512 many

no_test : (p : NodeConfig) (c e : ℕ) (m : ResvErrMsg) (f : Facts) → sets_walls m ≡ false → has_place p c e m f ≡ true
no_test p c e m f s = ap (λ b. not b || nat_le (size (walls_set p c e m f)) 512) s

-- a blockade of something else stays
beside_put : (p : NodeConfig) (c : ℕ) (m : ResvErrMsg) (flow : TokenBucket) (ks : List WallKey) (w : Walls) (k : WallKey) → (In k ks → ⊥)
    → get (with_rows w (each (λ q. (q, blockade_of p c m flow)) ks)) k ≡ get w k
beside_put p c m flow [] w k none = refl
beside_put p c m flow (q ∷ qs) w k none =
    beside_put p c m flow qs (put_in w q (blockade_of p c m flow)) k (λ i. none (inr i))
    ∙ get-put_in_other wall_keys w q (blockade_of p c m flow) k (either (eq_by_cmp wall_keys.cmp k q) (λ tie. absurd (none (inl (tied_same wall_keys k q tie)))) (λ apart. apart))

wall_beside : (p : NodeConfig) (c e : ℕ) (m : ResvErrMsg) (w : Walls) (k : WallKey) → (In k (walled_by e m m.blame.style) → ⊥) → (said : Option TokenBucket)
    → get (walls_with p c e m said w) k ≡ get w k
wall_beside p c e m w k none None = refl
wall_beside p c e m w k none (Some flow) = by (is_admission m.err)
  where
    by : (b : Bool) → get (cond b (with_rows w (each (λ q. (q, blockade_of p c m flow)) (walled_by e m m.blame.style))) w) k ≡ get w k
    by true = beside_put p c m flow (walled_by e m m.blame.style) w k none
    by false = refl

taken_with : (p : NodeConfig) (c e : ℕ) (m : ResvErrMsg) (f : Facts) (w : Walls) → walls_set p c e m f ≡ w → is_from e m f ≡ true → has_place p c e m f ≡ true
    → act_resv_err p c e m f ≡ record (only_heard heard.Taken (record f { walls = w })) { errors = errors_on p (record f { walls = w }) (lane_of e m) m }
taken_with p c e m f w is s r =
    err_is p c e m f true true s r ∙ ap (λ (v : Walls). record (only_heard heard.Taken (record f { walls = v })) { errors = errors_on p (record f { walls = v }) (lane_of e m) m }) is

one_of_three : (p : NodeConfig) (c e : ℕ) (m : ResvErrMsg) (f : Facts) (from room : Bool) → is_from e m f ≡ from → has_place p c e m f ≡ room
    → (act_resv_err p c e m f ≡ only_heard (heard.Dropped why.NoState) f) ⊎ (((x : Sender) × ComesBy f m.session (e, m.hop.addr) x)
    × ((act_resv_err p c e m f ≡ only_heard (heard.Dropped why.Full) f) ⊎ (act_resv_err p c e m f ≡ errors_with p c e m f)))
one_of_three p c e m f false room s r = inl (err_elsewhere p c e m f room r s)
one_of_three p c e m f true false s r = inr (hop_found e m f s, inl (err_is p c e m f true false s r))
one_of_three p c e m f true true s r = inr (hop_found e m f s, inr (taken_with p c e m f (walls_set p c e m f) refl s r))

pub resv_errs_by_tests : ResvErrsByTests
resv_errs_by_tests =
    record {
      no_state = λ p c e m f none. err_elsewhere p c e m f (has_place p c e m f) refl (from_nowhere e m f none (is_from e m f) refl);
      full = λ p c e m f x q s many. err_is p c e m f true false (from_hop e m f x q) (no_room p c e m f s many);
      taken = λ p c e m f x q few. taken_with p c e m f (walls_set p c e m f) refl (from_hop e m f x q) (room_is p c e m f few);
      one = λ p c e m f. one_of_three p c e m f (is_from e m f) (has_place p c e m f) refl refl;
      sets_none = sets_none_of;
      taken_too = λ p c e m f x q s. taken_with p c e m f f.walls (sets_none_of p c e m f s) (from_hop e m f x q) (no_test p c e m f s);
      beside = λ p c e m f k none. wall_beside p c e m f.walls k none m.blame.flow;
    }

-- ---- errors that go on
module _ (p : NodeConfig) (f : Facts) (l : Lane) (m : ResvErrMsg) where
  abbrev pub rows_of : List ((NextHop × UnitOf) × ResvState)
  rows_of = (resvs_in l.style f l.session).rows

  -- a row that gives an error is of a reservation that is spoken of
  pub record GivenBy (y : (NextHop × UnitOf) × ResvState) (hop : NextHop) (e : ErrSend) : Type 0 where
    pub at : y.0.0 ≡ hop
    pub names : Option Names
    pub spoken : IsSpokenOf p f l m hop y.0.1 names
    pub is : error_to p m hop (as_listed names) ≡ Some (hop, e)

  given_told : (y : (NextHop × UnitOf) × ResvState) (hop : NextHop) (e : ErrSend) → In y rows_of → error_on p f l m y ≡ Some (hop, e) → GivenBy y hop e
  given_told y hop e i h =
      let q = passed (is_told p f l m y) (error_to p m y.0.0 (blamed l.style m.blame.senders y.1.part.senders)) (hop, e) h in
      let s = same_hop p m y.0.0 (blamed l.style m.blame.senders y.1.part.senders) hop e q.1 in
      let at : y.0.0 ≡ hop = ap (λ (z : NextHop × ErrSend). z.0) (some_same _ _ (sym (sent_listing p m y.0.0 s.0) ∙ sym (ap (error_to p m y.0.0) s.1) ∙ q.1)) in
      record {
        at = at;
        names = s.0;
        spoken = subst (λ (z : NextHop). IsSpokenOf p f l m z y.0.1 s.0) at (record {
          resv = y.1;
          there = sym (get-under sessions (pairs next_hops units) (resvs_of l.style f) l.session y.0)
              ∙ in_found (pairs next_hops units) (resvs_in l.style f l.session) y.0 y.1 i;
          told = q.0;
          blames = s.1;
        });
        is = sym (ap (λ z. error_to p m z (as_listed s.0)) at) ∙ sym (ap (error_to p m y.0.0) s.1) ∙ q.1;
      }

  -- and such a reservation gives one
  row_in : (hop : NextHop) (unit : UnitOf) (names : Option Names) (q : IsSpokenOf p f l m hop unit names) → In ((hop, unit), q.resv) rows_of
  row_in hop unit names q = found_in (pairs next_hops units) (resvs_in l.style f l.session) (hop, unit) q.resv
      (get-under sessions (pairs next_hops units) (resvs_of l.style f) l.session (hop, unit) ∙ q.there)

  row_gives : (hop : NextHop) (unit : UnitOf) (names : Option Names) (q : IsSpokenOf p f l m hop unit names) → error_on p f l m ((hop, unit), q.resv) ≡ Some (error_listing p m hop names)
  row_gives hop unit names q = ap (λ b. cond b (error_to p m hop (blamed l.style m.blame.senders q.resv.part.senders)) None) q.told ∙ ap (error_to p m hop) q.blames ∙ sent_listing p m hop names

  -- units of one hop are in the order of units
  beside : (hop : NextHop) (u v : UnitOf) → is_lt ((pairs next_hops units).cmp (hop, u) (hop, v)) ≡ is_lt (units.cmp u v)
  beside hop u v = ap (λ r. is_lt (ordering_then r (units.cmp u v))) (tied_itself next_hops.total hop)

  pub to_told : (e : ErrSend) (hop : NextHop) → get (with_rows (empty {o = next_hops}) (filter_map (error_on p f l m) rows_of)) hop ≡ Some e → IsErrorTo p f l m e
  to_told e hop g =
      ⊎_elim (λ (none : (get (empty {o = next_hops}) hop ≡ Some e) × _). let z = none.0 in absurd (cc))
      (λ (q : LastGives next_hops (error_on p f l m) rows_of hop e).
      let r = last_told next_hops (pairs next_hops units) (error_on p f l m) rows_of hop e (resvs_in l.style f l.session).sorted q in
      let b = given_told r.giver hop e r.among r.gives in
      record {
        hop = hop;
        unit = r.giver.0.1;
        names = b.names;
        spoken = b.spoken;
        last = λ v others s.
            sym (beside hop r.giver.0.1 v) ∙ ap (λ z. is_lt ((pairs next_hops units).cmp (z, r.giver.0.1) (hop, v))) (sym b.at)
            ∙ r.last ((hop, v), s.resv) _ (row_in hop v others s) (row_gives hop v others s);
        is = b.is;
      })
      (stands_last next_hops (error_on p f l m) rows_of (empty {o = next_hops}) hop e g)

  pub to_made : (e : ErrSend) → IsErrorTo p f l m e → In e (errors_on p f l m)
  to_made e q =
      to_values next_hops (with_rows (empty {o = next_hops}) (filter_map (error_on p f l m) rows_of)) q.hop e
      (last_stands next_hops (error_on p f l m) rows_of (empty {o = next_hops}) q.hop e
      (last_made next_hops (pairs next_hops units) (error_on p f l m) rows_of q.hop e (resvs_in l.style f l.session).sorted
      (record {
        giver = ((q.hop, q.unit), q.spoken.resv);
        among = row_in q.hop q.unit q.names q.spoken;
        gives = row_gives q.hop q.unit q.names q.spoken ∙ sym (sent_listing p m q.hop q.names) ∙ q.is;
        last = λ y w i h.
            let b = given_told y q.hop w i h in ap (λ z. is_lt ((pairs next_hops units).cmp (q.hop, q.unit) (z, y.0.1))) b.at ∙ beside q.hop q.unit y.0.1 ∙ q.last y.0.1 b.names b.spoken;
      })))

  -- the error to a hop is addressed to it
  addressed : (hop : NextHop) (names : Option Names) (k : NextHop) (e : ErrSend) → error_to p m hop (as_listed names) ≡ Some (k, e) → ((e.iface, e.dst) ≡ hop) × (hop ≡ k)
  addressed hop names k e h =
      let same = some_same _ _ (sym (sent_listing p m hop names) ∙ h) in (
        λ i. ((ap (λ (z : NextHop × ErrSend). z.1.iface) (sym same)) i, (ap (λ (z : NextHop × ErrSend). z.1.dst) (sym same)) i),
        ap (λ (z : NextHop × ErrSend). z.0) same,
      )

  pub hop_told : (hop : NextHop) (unit : UnitOf) (names : Option Names) → IsSpokenOf p f l m hop unit names → (e : ErrSend) × In e (errors_on p f l m) × (e.iface ≡ hop.0) × (e.dst ≡ hop.1)
  hop_told hop unit names q =
      let r = someone_last next_hops (error_on p f l m) rows_of hop ((hop, unit), q.resv) _ (row_in hop unit names q) (row_gives hop unit names q) in
      let g = last_stands next_hops (error_on p f l m) rows_of (empty {o = next_hops}) hop r.0 r.1 in
      let t = to_told r.0 hop g in
      let a = addressed t.hop t.names t.hop r.0 t.is in
      let b = last_told next_hops (pairs next_hops units) (error_on p f l m) rows_of hop r.0 (resvs_in l.style f l.session).sorted r.1 in
      let c = given_told b.giver hop r.0 b.among b.gives in
      let d = addressed hop c.names hop r.0 c.is in
      (r.0, to_values next_hops (with_rows (empty {o = next_hops}) (filter_map (error_on p f l m) rows_of)) hop r.0 g, ap (λ (z : NextHop). z.0) d.0, ap (λ (z : NextHop). z.1) d.0)

  key_of_given : (y : (NextHop × UnitOf) × ResvState) (k : NextHop) (e : ErrSend) → error_on p f l m y ≡ Some (k, e) → ((e.iface, e.dst) ≡ k)
  key_of_given y k e h =
      let q = passed (is_told p f l m y) (error_to p m y.0.0 (blamed l.style m.blame.senders y.1.part.senders)) (k, e) h in
      let s = same_hop p m y.0.0 (blamed l.style m.blame.senders y.1.part.senders) k e q.1 in
      let a = addressed y.0.0 s.0 k e (sym (ap (error_to p m y.0.0) s.1) ∙ q.1) in
      a.0 ∙ a.1

pub errors_once_each : ErrorsOnceEach
errors_once_each =
    record {
      exactly = λ p f l m e. (
        λ i. let v = in_values next_hops (with_rows (empty {o = next_hops}) (filter_map (error_on p f l m) (resvs_in l.style f l.session).rows)) e i in
            to_told p f l m e v.0 v.1,
        to_made p f l m e,
      );
      told = hop_told;
      once = λ p f l m. given_rise next_hops (error_on p f l m) (λ (e : ErrSend). (e.iface, e.dst)) (resvs_in l.style f l.session).rows (key_of_given p f l m);
    }
