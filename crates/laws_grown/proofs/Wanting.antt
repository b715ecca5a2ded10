-- What is wanted in a grown network is asked for, one after another, by node and session: no call is refused, and its wants stand
-- behind those of the node.
use Rattle.std.proofs.Common.{◌≡◌, ℕ, ◌+◌, ◌*◌, ◌-◌, ◌<◌, ◌≤◌, Bool, true, false, cond, List, [], ◌∷◌, ◌++◌, length, None, refl, sym, ap, subst, ◌∙◌, inl, inr, ⊎_elim, arith, length-append, T}
use Rattle.std.specs.Prelude.{map as each, not, ◌==◌}
use Rattle.std.specs.FinMap.Entries.{below_all, is_sorted}
use Rattle.std.specs.List.{list_any}
use Rattle.std.specs.Ordering.{eq_by_cmp}
use Rattle.std.specs.declared.cmp.Ordering.TheVariants.{Less}
use Rattle.std.proofs.lemmas.List.{length-map}
use Rattle.rsvp_base.specs.Members.{In}
use Rattle.rsvp_base.specs.Orders.{Names, senders, sessions, style_place, units}
use Rattle.rsvp_base.specs.SessionLimits.{has_room_at}
use Rattle.rsvp_base.specs.Table.{both, first, keys, second, size, with_rows}
use Rattle.rsvp_base.specs.Under.{rows_under}
use Rattle.rsvp_base.specs.TokenBucket.{TokenBucket}
use Rattle.rsvp_base.specs.declared.session.Sender.{Sender}
use Rattle.rsvp_base.specs.declared.session.Session.{Session}
use Rattle.rsvp_base.specs.declared.style.StyleKind.{StyleKind}
use Rattle.rsvp_base.specs.declared.style.StyleKind.TheVariants.{Wild, Fixed, Shared}
use Rattle.rsvp_base.specs.declared.style.Unit.{Unit as UnitOf}
use Rattle.rsvp_base.specs.declared.style.Unit.TheVariants.{Of}
use Rattle.rsvp_base.proofs.Members.{in_append}
use Rattle.rsvp_base.proofs.Tables.{tied_same}
use Rattle.rsvp_messages.specs.Units.{only}
use Rattle.router_rules.specs.declared.answers.LocalErr.TheVariants as local
use Rattle.router_rules.specs.Calls.{SendersOf, call_refusal, needs, wanted}
use Rattle.router_rules.specs.Facts.{Facts, Want, WantKey, want_keys}
use Rattle.router_rules.specs.Inputs.{WantAs}
use Rattle.router_rules.specs.Requests.{is_style}
use Rattle.calm_rounds.specs.Machine.{run}
use Rattle.tree_model.specs.declared.hops.TreeHop.{TreeHop}
use Rattle.tree_model.proofs.Following.{same_number}
use Rattle.network_model.specs.Steps.{At, Step, machine, step}
use Rattle.network_model.specs.Worlds.{World, config_of}
use Rattle.grown_network.specs.declared.hosts.Wanted.{Wanted}
use Rattle.grown_network.specs.Grown.{net_with}
use Rattle.grown_network.specs.Hosts.{session_of}
use Rattle.grown_network.proofs.WantsAsked.{style_of, wanted_row}
use Rattle.laws_grown.proofs.Calls.{Have, called}
use Rattle.laws_grown.proofs.Rows.{none_under, rows_end, small_has_room}

-- ---- the rows of a call for a want
abbrev pub rows_of : Wanted → List (WantKey × Want)
rows_of w = wanted (session_of w.style) w.style w.senders w.flow false

-- in order: those of a fixed filter by sender
module _ (flow : TokenBucket) where
  abbrev fixed_row : Sender → WantKey × Want
  fixed_row x = ((session_of Fixed, Of x), record { style = Fixed; part = record { senders = only x; flow = flow }; confirm = false })

  below_fixed : (x : Sender) (es : List (Sender × Unit {0})) → T (below_all senders.cmp x es)
      → T (below_all want_keys.cmp (session_of Fixed, Of x) (each fixed_row (each (λ (e : Sender × Unit {0}). e.0) es)))
  below_fixed x [] h = tt
  below_fixed x (e ∷ es) h = both _ _ (first _ _ h) (below_fixed x es (second _ _ h))

  sorted_fixed : (es : List (Sender × Unit {0})) → T (is_sorted senders.cmp es) → T (is_sorted want_keys.cmp (each fixed_row (each (λ (e : Sender × Unit {0}). e.0) es)))
  sorted_fixed [] h = tt
  sorted_fixed (e ∷ es) h = both _ _ (below_fixed e.0 es (first _ _ h)) (sorted_fixed es (second _ _ h))

sorted_rows : (st : StyleKind) (names : Names) (flow : TokenBucket) → T (is_sorted want_keys.cmp (wanted (session_of st) st names flow false))
sorted_rows Wild names flow = tt
sorted_rows Fixed names flow = sorted_fixed flow names.rows names.sorted
sorted_rows Shared names flow = tt

few_rows : (st : StyleKind) (s : Session) (names : Names) (flow : TokenBucket) → size names ≤ 4 → length (wanted s st names flow false) ≤ 4
few_rows Wild s names flow few = omega arith
few_rows Fixed s names flow few =
    let a = length-map {B = WantKey × Want} (keys names) (λ x. ((s, Of x), record { style = Fixed; part = record { senders = only x; flow = flow }; confirm = false })) in
    let b = length-map names.rows (λ (e : Sender × Unit {0}). e.0) in
    omega (arith, a, b, few)
few_rows Shared s names flow few = omega arith

-- ---- sessions in the order of their styles
key_less : (a b : StyleKind) (u v : UnitOf) → style_place a < style_place b → want_keys.cmp (session_of a, u) (session_of b, v) ≡ Less
key_less Wild Wild u v lt = absurd (omega arith)
key_less Wild Fixed u v lt = refl
key_less Wild Shared u v lt = refl
key_less Fixed Wild u v lt = absurd (omega arith)
key_less Fixed Fixed u v lt = absurd (omega arith)
key_less Fixed Shared u v lt = refl
key_less Shared Wild u v lt = absurd (omega arith)
key_less Shared Fixed u v lt = absurd (omega arith)
key_less Shared Shared u v lt = absurd (omega arith)

other_session : (a b : StyleKind) → style_place a < style_place b → eq_by_cmp sessions.cmp (session_of b) (session_of a) ≡ false
other_session a b lt = by (eq_by_cmp sessions.cmp (session_of b) (session_of a)) refl
  where
    by : (t : Bool) → eq_by_cmp sessions.cmp (session_of b) (session_of a) ≡ t → eq_by_cmp sessions.cmp (session_of b) (session_of a) ≡ false
    by true e = let same = ap style_place (style_of b a (tied_same sessions (session_of b) (session_of a) e)) in absurd (omega (arith, same, lt))
    by false e = e

-- ---- places: by node, then by session
abbrev pub place : Wanted → ℕ
place w = 3 * w.node + style_place w.style

-- they rise from the one number to the other
abbrev pub RisesTo : ℕ → ℕ → List Wanted → Type 0
RisesTo k l [] = k ≤ l
RisesTo k l (w ∷ ws) = (k ≤ place w) × RisesTo (place w + 1) l ws

-- what the nodes have before the call of this place
pub record AreRows (k : ℕ) (R : ℕ → List (WantKey × Want)) : Type 0 where
  pub short : (n : ℕ) → length (R n) ≤ 4 * (k - 3 * n)
  pub below : (n : ℕ) (e : WantKey × Want) → In e (R n) → (st : StyleKind) × (e.0.0 ≡ session_of st) × (3 * n + style_place st < k)
  pub clear : (n : ℕ) (e : WantKey × Want) → In e (R n) → e.1.confirm ≡ false

abbrev pub want_step : Wanted → Step
want_step w = At w.node (WantAs (session_of w.style) w.style w.senders w.flow false)

abbrev pub with_want : (ℕ → List (WantKey × Want)) → Wanted → ℕ → List (WantKey × Want)
with_want R w n = cond (w.node == n) (R n ++ rows_of w) (R n)

unfoldable pub after_wants : List Wanted → (ℕ → List (WantKey × Want)) → ℕ → List (WantKey × Want)
after_wants [] R = R
after_wants (w ∷ ws) R = after_wants ws (with_want R w)

low : (st : StyleKind) → style_place st < 3
low Wild = omega arith
low Fixed = omega arith
low Shared = omega arith

-- a call more
rows_more : (k : ℕ) (R : ℕ → List (WantKey × Want)) (w : Wanted) → k ≤ place w → size w.senders ≤ 4 → AreRows k R → AreRows (place w + 1) (with_want R w)
rows_more k R w le few are = record {
  short = λ n. short n (w.node == n) refl;
  below = λ n e i. below n e (w.node == n) refl i;
  clear = λ n e i. clear n e (w.node == n) i;
}
  where
    short : (n : ℕ) (b : Bool) → (w.node == n) ≡ b → length (cond b (R n ++ rows_of w) (R n)) ≤ 4 * (place w + 1 - 3 * n)
    short n true t =
        let node = same_number w.node n t in
        let old = are.short n in
        let new = few_rows w.style (session_of w.style) w.senders w.flow few in
        let size = length-append (R n) (rows_of w) in
        omega (arith, node, old, new, size, le)
    short n false t = let old = are.short n in omega (arith, old, le)

    grown : (n : ℕ) (e : WantKey × Want) → In e (R n) → (st : StyleKind) × (e.0.0 ≡ session_of st) × (3 * n + style_place st < place w + 1)
    grown n e i = let old = are.below n e i in let lt = old.2 in (old.0, old.1, omega (arith, lt, le))

    below : (n : ℕ) (e : WantKey × Want) (b : Bool) → (w.node == n) ≡ b → In e (cond b (R n ++ rows_of w) (R n)) → (st : StyleKind) × (e.0.0 ≡ session_of st) × (3 * n + style_place st < place w + 1)
    below n e true t i =
        ⊎_elim (λ (j : In e (R n)). grown n e j)
        (λ (j : In e (rows_of w)). let node = same_number w.node n t in (w.style, (wanted_row (session_of w.style) w.style w.senders w.flow e j).session, omega (arith, node)))
        (in_append e (R n) (rows_of w) i)
    below n e false t i = grown n e i

    clear : (n : ℕ) (e : WantKey × Want) (b : Bool) → In e (cond b (R n ++ rows_of w) (R n)) → e.1.confirm ≡ false
    clear n e true i =
        ⊎_elim (λ (j : In e (R n)). are.clear n e j) (λ (j : In e (rows_of w)). (wanted_row (session_of w.style) w.style w.senders w.flow e j).unmarked) (in_append e (R n) (rows_of w) i)
    clear n e false i = are.clear n e i

module _ (q : ℕ) (trees : List TreeHop) (S : ℕ → SendersOf) where
  module _ (k : ℕ) (R : ℕ → List (WantKey × Want)) (w : World) (have : Have (net_with trees) S R w) (are : AreRows k R) (x : Wanted) (le : k ≤ place x) (few : size x.senders ≤ 4) where
    -- the rows of the node are of sessions before this one
    earlier : (n : ℕ) → (x.node == n) ≡ true → (e : WantKey × Want) → In e (R n) → (st : StyleKind) × (e.0.0 ≡ session_of st) × (style_place st < style_place x.style)
    earlier n on e i = let node = same_number x.node n on in let old = are.below n e i in let lt = old.2 in (old.0, old.1, omega (arith, node, lt, le))

    rows_behind : (n : ℕ) (f : Facts) → (x.node == n) ≡ true → f.wants.rows ≡ R n → (with_rows f.wants (rows_of x)).rows ≡ R n ++ rows_of x
    rows_behind n f on is =
        rows_end want_keys (rows_of x) f.wants (sorted_rows x.style x.senders x.flow)
        (λ e i y j.
        let old = earlier n on y (subst (λ (es : List (WantKey × Want)). In y es) is j) in
        let new = (wanted_row (session_of x.style) x.style x.senders x.flow e i).session in
        ap (λ (s : Session). want_keys.cmp (s, y.0.1) e.0) old.1 ∙ ap (λ (s : Session). want_keys.cmp (session_of old.0, y.0.1) (s, e.0.1)) new ∙ key_less old.0 x.style y.0.1 e.0.1 old.2)
        ∙ ap (λ (es : List (WantKey × Want)). es ++ rows_of x) is

    not_refused : (n : ℕ) (f : Facts) → (x.node == n) ≡ true → f.wants.rows ≡ R n → call_refusal (config_of q (net_with trees) w.trees n)
        (WantAs (session_of x.style) x.style x.senders x.flow false) f ≡ None
    not_refused n f on is =
        let none : rows_under sessions units (session_of x.style) f.wants.rows ≡ [] =
        ap (rows_under sessions units (session_of x.style)) is
        ∙ none_under units (session_of x.style) (R n) (λ e i. let old = earlier n on e i in ap (eq_by_cmp sessions.cmp (session_of x.style)) old.1 ∙ other_session old.0 x.style old.2) in
        let behind = ap length (rows_behind n f on is) ∙ length-append (R n) (rows_of x) in
        let node = same_number x.node n on in
        let short = are.short n in
        let new = few_rows x.style (session_of x.style) x.senders x.flow few in
        let place_low = low x.style in
        let room = small_has_room units (with_rows f.wants (rows_of x)) (session_of x.style) (omega (arith, behind, node, short, new, place_low, le)) in
        ap (λ (es : List (UnitOf × Want)). needs (not (list_any (λ w. not (is_style w.style x.style)) (each (λ (e : UnitOf × Want). e.1) es))) local.Style
        (needs (has_room_at units (with_rows f.wants (rows_of x)) (session_of x.style)) local.Full None)) none
        ∙ ap (λ b. needs b local.Full None) room

    pub asked_one : Have (net_with trees) S (with_want R x) (step q (want_step x) w)
    asked_one =
        called q (net_with trees) S R w have x.node (WantAs (session_of x.style) x.style x.senders x.flow false) S (with_want R x)
        (record {
          other_senders = λ n off. refl;
          other_wants = λ n off. ap (λ b. cond b (R n ++ rows_of x) (R n)) off;
          taken = λ n f on is rows. not_refused n f on rows;
          own_senders = λ n f on is. is;
          own_wants = λ n f on rows. rows_behind n f on rows ∙ sym (ap (λ b. cond b (R n ++ rows_of x) (R n)) on);
          clear = (rows_more k R x le few are).clear;
        })

  pub all_asked : (ws : List Wanted) (k l : ℕ) (R : ℕ → List (WantKey × Want)) (w : World) → Have (net_with trees) S R w → AreRows k R → RisesTo k l ws → ((x : Wanted) → In x ws → size x.senders ≤ 4)
      → Have (net_with trees) S (after_wants ws R) (run (machine q) (each want_step ws) w)
  unfolding after_wants
  all_asked [] k l R w have are rises few = have
  all_asked (x ∷ ws) k l R w have are rises few =
      all_asked ws (place x + 1) l (with_want R x) (step q (want_step x) w) (asked_one k R w have are x rises.0 (few x (inl refl))) (rows_more k R x rises.0 (few x (inl refl)) are) rises.1
      (λ y i. few y (inr i))
