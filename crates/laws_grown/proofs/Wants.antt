-- What is wanted behind the calls for it: at each node what was asked for there, in that order.
use Rattle.std.proofs.Common.{◌≡◌, ℕ, ◌+◌, ◌*◌, ◌<◌, ◌≤◌, zero, suc, Bool, true, false, cond, List, [], ◌∷◌, ◌++◌, refl, sym, ap, subst, ◌∙◌, ⊎_elim, arith, append_assoc}
use Rattle.std.specs.Prelude.{map as each, ◌==◌, ◌%◌, ◌/◌, if◌then◌else◌}
use Rattle.std.specs.List.{filter, flat_map, range_with_len}
use Rattle.std.proofs.lemmas.Bool.{cases_lt}
use Rattle.std.proofs.lemmas.List.{append-nil}
use Rattle.std.proofs.lemmas.List.Elements.{filter-append}
use Rattle.rsvp_base.specs.Orders.{style_place}
use Rattle.rsvp_base.specs.declared.style.StyleKind.{StyleKind}
use Rattle.rsvp_base.specs.declared.style.StyleKind.TheVariants.{Wild, Fixed, Shared}
use Rattle.rsvp_base.proofs.Members.{in_flat_map}
use Rattle.router_rules.specs.Facts.{Want, WantKey}
use Rattle.tree_model.specs.declared.locals.LocalWant.{LocalWant}
use Rattle.tree_model.proofs.Following.{number_same}
use Rattle.network_model.specs.Locals.{want_at}
use Rattle.grown_network.specs.declared.hosts.Wanted.{Wanted}
use Rattle.grown_network.specs.Grown.{asked, local_wants}
use Rattle.grown_network.specs.Hosts.{flow_of, names_of, rate_of, session_word, wanted_at, wanted_by, want_word, wants, wants_up_to}
use Rattle.grown_network.proofs.Links.{number_other}
use Rattle.grown_network.proofs.Ranges.{in_range}
use Rattle.grown_network.proofs.WantsAsked.{wanted_at_node}
use Rattle.laws_grown.proofs.Lists.{all_kept, each_flat, flat_flat, flat_same, none_kept}
use Rattle.laws_grown.proofs.Wanting.{AreRows, RisesTo, after_wants, place, rows_of, with_want}

-- ---- they are asked for by node and session
rises_later : (j k l : ℕ) (ws : List Wanted) → j ≤ k → RisesTo k l ws → RisesTo j l ws
rises_later j k l [] le rises = omega (arith, le, rises)
rises_later j k l (w ∷ ws) le rises = let first = rises.0 in (omega (arith, le, first), rises.1)

rises_then : (k l m : ℕ) (ws xs : List Wanted) → RisesTo k l ws → RisesTo l m xs → RisesTo k m (ws ++ xs)
rises_then k l m [] xs a b = rises_later k l m xs a b
rises_then k l m (w ∷ ws) xs a b = (a.0, rises_then (place w + 1) l m ws xs a.1 b)

wanted_rises : (st : StyleKind) (session n word k l : ℕ) → k ≤ 3 * n + style_place st → 3 * n + style_place st + 1 ≤ l → RisesTo k l (wanted_by st session n word)
wanted_rises st session n word k l lo hi = by (word % 4 == 0)
  where
    by : (b : Bool) → RisesTo k l (if b then [] else record { node = n; style = st; senders = names_of st session (word / 16 % 16); flow = flow_of (rate_of word) } ∷ [])
    by true = omega (arith, lo, hi)
    by false = (lo, hi)

node_rises : (seed n : ℕ) → RisesTo (3 * n) (3 * (n + 1)) (wanted_at seed n)
node_rises seed n =
    let wild = wanted_rises Wild (session_word seed Wild) n (want_word seed n Wild) (3 * n) (3 * n + 1) (omega arith) (omega arith) in
    let fixed = wanted_rises Fixed (session_word seed Fixed) n (want_word seed n Fixed) (3 * n + 1) (3 * n + 2) (omega arith) (omega arith) in
    let shared = wanted_rises Shared (session_word seed Shared) n (want_word seed n Shared) (3 * n + 2) (3 * n + 3) (omega arith) (omega arith) in
    let none : RisesTo (3 * n + 3) (3 * (n + 1)) [] = omega arith in
    rises_then (3 * n) (3 * n + 1) (3 * (n + 1)) (wanted_by Wild (session_word seed Wild) n (want_word seed n Wild)) _ wild
    (rises_then (3 * n + 1) (3 * n + 2) (3 * (n + 1)) (wanted_by Fixed (session_word seed Fixed) n (want_word seed n Fixed)) _ fixed
    (rises_then (3 * n + 2) (3 * n + 3) (3 * (n + 1)) (wanted_by Shared (session_word seed Shared) n (want_word seed n Shared)) [] shared none))

all_rise : (seed a n : ℕ) → RisesTo (3 * a) (3 * (a + n)) (flat_map (wanted_at seed) (range_with_len a n))
all_rise seed a zero = omega arith
all_rise seed a (suc n) =
    let last : 3 * ((a + 1) + n) ≡ 3 * (a + suc n) = omega arith in
    let rest : List Wanted = flat_map (wanted_at seed) (range_with_len (a + 1) n) in
    rises_then (3 * a) (3 * (a + 1)) (3 * (a + suc n)) (wanted_at seed a) rest (node_rises seed a) (subst (λ (m : ℕ). RisesTo (3 * (a + 1)) m rest) last (all_rise seed (a + 1) n))

pub wants_rise : (seed : ℕ) → RisesTo 0 192 (wants seed)
unfolding wants_up_to
wants_rise seed = all_rise seed 0 64

pub no_rows : AreRows 0 (λ n. [])
no_rows = record { short = λ n. omega arith; below = λ n e i. absurd i; clear = λ n e i. absurd i }

-- ---- the rows of a node
abbrev is_at : ℕ → Wanted → Bool
is_at n w = w.node == n

rows_added : (ws : List Wanted) (R : ℕ → List (WantKey × Want)) (n : ℕ) → after_wants ws R n ≡ R n ++ flat_map rows_of (filter (is_at n) ws)
unfolding after_wants
rows_added [] R n = sym (append-nil (R n))
rows_added (w ∷ ws) R n = rows_added ws (with_want R w) n ∙ by (w.node == n)
  where
    by : (b : Bool) → cond b (R n ++ rows_of w) (R n) ++ flat_map rows_of (filter (is_at n) ws) ≡ R n ++ flat_map rows_of (cond b (w ∷ filter (is_at n) ws) (filter (is_at n) ws))
    by true = append_assoc (R n) (rows_of w) (flat_map rows_of (filter (is_at n) ws))
    by false = refl

module _ (seed : ℕ) where
  own : (n : ℕ) → filter (is_at n) (wanted_at seed n) ≡ wanted_at seed n
  own n = all_kept (is_at n) (wanted_at seed n) (λ w i. number_same w.node n (wanted_at_node seed n w i).1)

  others : (n m : ℕ) → (m ≡ n → ⊥) → filter (is_at n) (wanted_at seed m) ≡ []
  others n m apart = none_kept (is_at n) (wanted_at seed m) (λ w i. number_other w.node n (λ same. apart (sym (wanted_at_node seed m w i).1 ∙ same)))

  later : (a k n : ℕ) → n < a → filter (is_at n) (flat_map (wanted_at seed) (range_with_len a k)) ≡ []
  later a k n lt =
      none_kept (is_at n) (flat_map (wanted_at seed) (range_with_len a k))
      (λ w i.
      let m = in_flat_map (wanted_at seed) w (range_with_len a k) i in
      let node = (wanted_at_node seed m.0 w m.2).1 in
      let lo = (in_range a k m.0 m.1).0 in
      number_other w.node n (λ same. omega (arith, node, lo, lt, same)))

  at_node : (a k n : ℕ) → a ≤ n → n < a + k → filter (is_at n) (flat_map (wanted_at seed) (range_with_len a k)) ≡ wanted_at seed n
  at_node a zero n lo hi = absurd (omega (arith, lo, hi))
  at_node a (suc k) n lo hi =
      let rest : List Wanted = flat_map (wanted_at seed) (range_with_len (a + 1) k) in
      filter-append (is_at n) (wanted_at seed a) rest
      ∙ ⊎_elim
      (λ (lt : a < n).
      let apart : a ≡ n → ⊥ = λ same. omega (arith, lt, same) in
      let none = others n a apart in
      let more = at_node (a + 1) k n (omega (arith, lt)) (omega (arith, hi)) in
      λ i. none i ++ more i)
      (λ (le : n ≤ a).
      let same : a ≡ n = omega (arith, le, lo) in
      let none = later (a + 1) k n (omega (arith, le)) in
      ap (λ (m : ℕ). filter (is_at n) (wanted_at seed m) ++ filter (is_at n) rest) same ∙ (λ i. own n i ++ none i) ∙ append-nil (wanted_at seed n)) (cases_lt a n)

  abbrev wanted_rows : ℕ → List LocalWant
  wanted_rows n = each (want_at n) (after_wants (wants seed) (λ m. []) n)

  node_wants : (n : ℕ) → n < 64 → wanted_rows n ≡ flat_map local_wants (wanted_at seed n)
  unfolding wants_up_to
  node_wants n lt =
      let here = at_node 0 64 n (omega arith) (omega (arith, lt)) in
      ap (each (want_at n)) (rows_added (wants seed) (λ m. []) n)
      ∙ ap (λ (ws : List Wanted). each (want_at n) (flat_map rows_of ws)) here
      ∙ each_flat rows_of (want_at n) (wanted_at seed n)
      ∙ flat_same (λ w. each (want_at n) (rows_of w)) local_wants (wanted_at seed n) (λ w i. ap (λ (m : ℕ). each (want_at m) (rows_of w)) (sym (wanted_at_node seed n w i).1))

  pub all_wants : flat_map wanted_rows (range_with_len 0 64) ≡ (asked seed).wants
  unfolding wants_up_to
  all_wants =
      flat_same wanted_rows (λ n. flat_map local_wants (wanted_at seed n)) (range_with_len 0 64) (λ n i. node_wants n (let r = (in_range 0 64 n i).1 in omega (arith, r)))
      ∙ sym (flat_flat (wanted_at seed) local_wants (range_with_len 0 64))
