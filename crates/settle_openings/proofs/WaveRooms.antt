-- A network that opens has room: in each world of rounds from an untouched one on no more is in flight than what pays for what was in flight then,
-- and for each hop of each sender's tree.
use Rattle.std.proofs.Common.{◌≡◌, ℕ, zero, suc, ◌+◌, ◌*◌, ◌≤◌, List, [], ◌∷◌, length, Bool, true, false, cond, inl, inr, arith, sym, refl, ap, subst, ◌∙◌}
use Rattle.std.specs.Prelude.{map as each, sum_by}
use Rattle.std.specs.List.{filter, repeat}
use Rattle.std.specs.Option.{option_map}
use Rattle.std.proofs.lemmas.List.{length-map}
use Rattle.std.proofs.lemmas.List.Sums.{sum_by-cons}
use Rattle.rsvp_base.specs.Members.{In}
use Rattle.calm_rounds.specs.Hold.{Visited}
use Rattle.calm_rounds.specs.Machine.{run}
use Rattle.router_rules.specs.Facts.{Facts}
use Rattle.tree_model.specs.declared.hops.LinkHop.{LinkHop}
use Rattle.tree_model.specs.Wants.{live}
use Rattle.network_model.specs.Bounds.{AreBounds}
use Rattle.network_model.specs.Events.{half, rounds}
use Rattle.network_model.specs.Locals.{IsLive, locals_of}
use Rattle.network_model.specs.Steps.{Deliver, Piece, Step, is_quiet, machine, sent, step}
use Rattle.network_model.specs.Worlds.{Item, World}
use Rattle.laws_network.specs.Known.{IsSameNet}
use Rattle.laws_network.proofs.Known.{same_kept}
use Rattle.settle_refreshes.proofs.Counting.{sum_at_most}
use Rattle.settle_paths.proofs.PreviousHops.{live_among}
use Rattle.settle_passes.proofs.Deliveries.{known_self}
use Rattle.settle_openings.specs.Opening.{IsFirstPath, IsGoingOn, IsOpening, IsRested, IsUntouched}
use Rattle.settle_openings.proofs.Going.{some_session}
use Rattle.settle_openings.proofs.Halves.{a_half_rests_an_opening, an_untouched_network_opens}
use Rattle.settle_openings.specs.Waves.{AreNested, AreWired, HasNoAdverts, paid_for, payers, payers_by, room_of, sender_room}
use Rattle.settle_openings.proofs.WaveFew.{few_refreshes, refreshes_of}
use Rattle.settle_openings.proofs.WaveLedger.{Ledger, paid_rounds, total, zeros}
use Rattle.settle_openings.proofs.WaveLeft.{is_untold, left_in, left_of, many, tree_of}
use Rattle.settle_openings.proofs.WaveMute.{mute_then}
use Rattle.settle_openings.proofs.WavePays.{Pays, covers_many, covers_paid, delivered}
use Rattle.settle_openings.proofs.WaveWaits.{left_waits, news, nothings, nothings_many, nothings_total, waited}

module _ (q : ℕ) (w : World) (wired : AreWired w.net) (nested : AreNested w.net) where
  -- ---- worlds on the way
  record IsOn (u : World) : Type 0 where
    opening : IsOpening q u
    mute : HasNoAdverts u
    net : u.net ≡ w.net
    locals : locals_of u ≡ locals_of w

  record IsResting (u : World) : Type 0 where
    opening : IsRested q u
    mute : HasNoAdverts u
    net : u.net ≡ w.net
    locals : locals_of u ≡ locals_of w

  bounds_of : (u : World) → IsGoingOn q u → AreBounds q u
  bounds_of u on = (on.follows some_session).paths.bounds

  same_then : (s : Step) (u : World) → is_quiet s ≡ true → AreBounds q u → IsSameNet u (step q s u)
  same_then s u quiet bounds = same_kept q s u quiet bounds u (known_self q u bounds).same

  -- what is quiet
  abbrev AreQuiet : List Step → Type 0
  AreQuiet [] = Unit {0}
  AreQuiet (s ∷ ss) = (is_quiet s ≡ true) × AreQuiet ss

  record IsMute (u : World) : Type 0 where
    mute : HasNoAdverts u
    net : u.net ≡ w.net
    locals : locals_of u ≡ locals_of w

  mute_next : (s : Step) (u : World) → is_quiet s ≡ true → AreBounds q u → IsMute u → IsMute (step q s u)
  mute_next s u quiet bounds m =
      let same = same_then s u quiet bounds in
      record { mute = mute_then q s u quiet bounds m.mute; net = same.net ∙ m.net; locals = same.locals ∙ m.locals }

  visited_on : (ss : List Step) (u : World) → AreQuiet ss → IsMute u → Visited (machine q) (IsOpening q) ss u → Visited (machine q) IsOn ss u × IsMute (run (machine q) ss u)
  visited_on [] u quiet m v = (record { opening = v; mute = m.mute; net = m.net; locals = m.locals }, m)
  visited_on (s ∷ ss) u quiet m v =
      let r = visited_on ss (step q s u) quiet.1 (mute_next s u quiet.0 (bounds_of u v.0.on) m) v.1 in
      ((record { opening = v.0; mute = m.mute; net = m.net; locals = m.locals }, r.0), r.1)

  quiet_pass : (n : ℕ) → AreQuiet (repeat n (Deliver 0 ∷ []))
  quiet_pass zero = tt
  quiet_pass (suc n) = (refl, quiet_pass n)

  half_rests : (u : World) → IsResting u → Visited (machine q) IsOn (half q u) u × IsResting (run (machine q) (half q u) u)
  half_rests u r =
      let a = a_half_rests_an_opening q u r.opening in
      let b = visited_on (half q u) u (refl, quiet_pass (length (step q (Piece (2 * q)) u).flight)) (record { mute = r.mute; net = r.net; locals = r.locals }) a.0 in
      (b.0, record { opening = a.1; mute = b.1.mute; net = b.1.net; locals = b.1.locals })

  -- ---- the ledger
  wired_in : (u : World) → u.net ≡ w.net → AreWired u.net
  wired_in u same = subst AreWired (sym same) wired

  nested_in : (u : World) → u.net ≡ w.net → AreNested u.net
  nested_in u same = subst AreNested (sym same) nested

  abbrev most : ℕ
  most = refreshes_of w.net (locals_of w)

  the_ledger : Ledger q most IsOn IsResting Pays left_in
  the_ledger = record {
    many = λ u cs i p. covers_many u [] u.flight cs p;
    delivered = λ u c cs i j p. delivered q u i.opening.on (wired_in u i.net) (nested_in u i.net) i.mute c cs p;
    waited = λ u cs i p.
        let bounds = bounds_of u i.opening.on in
        let few = few_refreshes q u i.opening.on i.opening.lasting (wired_in u i.net) in
        let same : refreshes_of u.net (locals_of u) ≡ most = (λ j. refreshes_of (i.net j) (i.locals j)) in
        let size = nothings_many (news q u i.opening.on i.opening.lasting) in
        let copies = length-map (sent q (Piece (2 * q)) u) (λ (z : Item × Bool). z.0) in (
          nothings (news q u i.opening.on i.opening.lasting),
          waited q u i.opening.on i.opening.lasting cs p,
          nothings_total (news q u i.opening.on i.opening.lasting),
          omega (arith, few, same, size, copies),
          left_waits q u i.opening.on i.opening.lasting,
        );
  }

-- ---- the start
some_payer : (q : ℕ) (w : World) (y : Item) → IsFirstPath q w y → 1 ≤ length (payers w.net (locals_of w) y)
some_payer q w y x =
    let one : IsLive w (x.path.session, x.sender) x.tspec = record { node = x.node; senders = x.facts.senders; at = ap (option_map (λ (f : Facts). f.senders)) x.there; sends = x.sends } in
    let among = live_among w x.path.session x.sender x.tspec one in
    let who : length (payers w.net (locals_of w) y) ≡ length (live (locals_of w) x.path.session) = ap (λ z. length (payers_by w.net (locals_of w) y.end z)) x.spelt in
    let some = some_length x.sender (live (locals_of w) x.path.session) among in
    omega (arith, who, some)
  where
    some_length : {A : Type 0} (z : A) (xs : List A) → In z xs → 1 ≤ length xs
    some_length z [] i = absurd i
    some_length z (a ∷ xs) i = omega arith

none_zero : {A : Type 0} (v : A → ℕ) (xs : List A) → ((x : A) → In x xs → 1 ≤ v x) → zeros (each v xs) ≡ 0
none_zero v [] some = refl
none_zero {A} v (x ∷ xs) some = by (v x) refl (none_zero v xs (λ y i. some y (inr i)))
  where
    by : (n : ℕ) → v x ≡ n → zeros (each v xs) ≡ 0 → zeros (n ∷ each v xs) ≡ 0
    by zero is rest = let one = some x (inl refl) in absurd (omega (arith, one, is))
    by (suc n) is rest = rest

total_sum : {A : Type 0} (v : A → ℕ) (xs : List A) → total (each v xs) ≡ sum_by v xs
total_sum v [] = refl
total_sum v (x ∷ xs) = let rest = total_sum v xs in omega (arith, rest, sum_by-cons v x xs)

fewer_left : {A : Type 0} (c : ℕ) (t : A → Bool) (xs : List A) → sum_by (λ (x : A). c) (filter t xs) ≤ sum_by (λ (x : A). c) xs
fewer_left c t [] = omega arith
fewer_left {A} c t (x ∷ xs) = by (t x) (fewer_left c t xs)
  where
    by : (b : Bool) → sum_by (λ (z : A). c) (filter t xs) ≤ sum_by (λ (z : A). c) xs → sum_by (λ (z : A). c) (cond b (x ∷ filter t xs) (filter t xs)) ≤ sum_by (λ (z : A). c) (x ∷ xs)
    by true rest = omega (arith, rest, sum_by-cons (λ (z : A). c) x (filter t xs), sum_by-cons (λ (z : A). c) x xs)
    by false rest = omega (arith, rest, sum_by-cons (λ (z : A). c) x xs)

add_four : {A : Type 0} (c : ℕ) (xs : List A) → sum_by (λ (x : A). c) xs + sum_by (λ (x : A). 4) xs ≡ sum_by (λ (x : A). c + 4) xs
add_four c [] = omega arith
add_four {A} c (x ∷ xs) = let rest = add_four c xs in omega (arith, rest, sum_by-cons (λ (z : A). c) x xs, sum_by-cons (λ (z : A). 4) x xs, sum_by-cons (λ (z : A). c + 4) x xs)

add_rooms : {A : Type 0} (v w z : A → ℕ) (xs : List A) → ((x : A) → v x + w x ≡ z x) → sum_by v xs + sum_by w xs ≡ sum_by z xs
add_rooms v w z [] same = omega arith
add_rooms v w z (x ∷ xs) same = let rest = add_rooms v w z xs same in let here = same x in omega (arith, rest, here, sum_by-cons v x xs, sum_by-cons w x xs, sum_by-cons z x xs)

-- ---- the law
pub an_opening_has_room : (q n : ℕ) (w : World) → IsUntouched q w → HasNoAdverts w → AreWired w.net → AreNested w.net
    → Visited (machine q) (λ v. length v.flight ≤ paid_for w.net (locals_of w) w.flight + room_of w.net (locals_of w)) (rounds q n w) w
an_opening_has_room q n w start mute wired nested =
    let rested = (an_untouched_network_opens q w start).0 in
    let cs : List ℕ = each (λ z. length (payers w.net (locals_of w) z)) w.flight in
    let changes : ℕ = sum_by (λ x. sum_by (λ (h : LinkHop). many w x.session) (tree_of w x)) (locals_of w).senders in
    let top : ℕ = paid_for w.net (locals_of w) w.flight + changes in
    let below : total cs + left_in w ≤ top =
    (let a = total_sum (λ z. length (payers w.net (locals_of w) z)) w.flight in
    let b = sum_at_most (left_of w) (λ x. sum_by (λ (h : LinkHop). many w x.session) (tree_of w x)) (locals_of w).senders (λ x i. fewer_left (many w x.session) (is_untold w x) (tree_of w x)) in
    omega (arith, a, b)) in
    let none : zeros cs ≡ 0 = none_zero (λ z. length (payers w.net (locals_of w) z)) w.flight (λ y i. some_payer q w y (start.sent y i)) in
    let room : changes + refreshes_of w.net (locals_of w) ≡ room_of w.net (locals_of w) =
    add_rooms (λ x. sum_by (λ (h : LinkHop). many w x.session) (tree_of w x)) (λ x. sum_by (λ (h : LinkHop). 4) (tree_of w x)) (sender_room w.net (locals_of w)) (locals_of w).senders
    (λ x. add_four (many w x.session) (tree_of w x)) in
    let all = paid_rounds q (refreshes_of w.net (locals_of w)) top (IsOn q w wired nested) (IsResting q w wired nested) Pays left_in (the_ledger q w wired nested) (half_rests q w wired nested) n w
    (record { opening = rested; mute = mute; net = refl; locals = refl })
    (record { cs = cs; pays = covers_paid w [] w.flight; none = none; below = below }) in
    let bound : top + refreshes_of w.net (locals_of w) ≡ paid_for w.net (locals_of w) w.flight + room_of w.net (locals_of w) = omega (arith, room) in
    subst (λ (b : ℕ). Visited (machine q) (λ v. length v.flight ≤ b) (rounds q n w) w) bound all
