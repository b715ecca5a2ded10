-- Steps that only write behind the last round of a settled moment: the moment stays one.
use Rattle.std.proofs.Common.{le-leb, ◌≡◌, ℕ, suc, ◌+◌, ◌*◌, ◌≤◌, List, [], ◌∷◌, Bool, true, arith, refl, sym, ap, subst, ◌∙◌}
use Rattle.std.specs.Prelude.{◌++◌, length, map as each}
use Rattle.std.proofs.lemmas.List.{append-nil}
use Rattle.rsvp_base.specs.Members.{In}
use Rattle.calm_rounds.specs.Machine.{all_arrived, all_sent, items_of, run, waits}
use Rattle.calm_rounds.specs.Rounds.{AreQuiet, Calm, Rounds}
use Rattle.tree_model.specs.Ranks.{longest}
use Rattle.network_model.specs.Bounds.{all_of}
use Rattle.network_model.specs.Steps.{Piece, Deliver, Lose, Copy, At, ClearAt, Trace, Report, Flags, Adverts, Inject, Reroute, Step, arrived, is_calm, machine, ms_of, sent, step}
use Rattle.network_model.specs.Worlds.{Item, World}
use Rattle.network_model.proofs.Changing.{the_rest_change_no_node}
use Rattle.script_theorem.specs.Writing.{AMomentStaysCalm, OnlyWrite, only_writes}

-- ---- one step
-- what a step that only writes is: still, quiet, without time, and nothing arrives or leaves by it
pub record IsIdle (q : ℕ) (s : Step) (u : World) : Type 0 where
  pub calm : is_calm q s ≡ true
  pub no_time : ms_of s ≡ 0
  pub none_sent : sent q s u ≡ []
  pub nodes : (step q s u).nodes ≡ u.nodes
  pub none_arrives : items_of (arrived s u) ≡ []
  pub flight : (step q s u).flight ≡ u.flight
  pub net : (step q s u).net ≡ u.net
  pub words : (step q s u).words ≡ u.words

pub idle : (q : ℕ) (s : Step) (u : World) → only_writes s ≡ true → IsIdle q s u
idle q (Trace on) u e = let r = the_rest_change_no_node q u (Trace on) refl in record {
  calm = le-leb 0 (2 * q)
      (omega arith);
  no_time = refl;
  none_sent = r.sends;
  nodes = r.nodes;
  none_arrives = refl;
  flight = ap (λ (z : List (Item × Bool)). u.flight ++ each (λ (x : Item × Bool). x.0) z) r.sends
      ∙ append-nil u.flight;
  net = refl;
  words = refl;
}
idle q (Report x) u e = let r = the_rest_change_no_node q u (Report x) refl in record {
  calm = le-leb 0 (2 * q)
      (omega arith);
  no_time = refl;
  none_sent = r.sends;
  nodes = r.nodes;
  none_arrives = refl;
  flight = ap (λ (z : List (Item × Bool)). u.flight ++ each (λ (x : Item × Bool). x.0) z) r.sends
      ∙ append-nil u.flight;
  net = refl;
  words = refl;
}
idle q Flags u e = let r = the_rest_change_no_node q u Flags refl in record {
  calm = le-leb 0 (2 * q)
      (omega arith);
  no_time = refl;
  none_sent = r.sends;
  nodes = r.nodes;
  none_arrives = refl;
  flight = ap (λ (z : List (Item × Bool)). u.flight ++ each (λ (x : Item × Bool). x.0) z) r.sends
      ∙ append-nil u.flight;
  net = refl;
  words = refl;
}
idle q Adverts u e = let r = the_rest_change_no_node q u Adverts refl in record {
  calm = le-leb 0 (2 * q)
      (omega arith);
  no_time = refl;
  none_sent = r.sends;
  nodes = r.nodes;
  none_arrives = refl;
  flight = ap (λ (z : List (Item × Bool)). u.flight ++ each (λ (x : Item × Bool). x.0) z) r.sends
      ∙ append-nil u.flight;
  net = refl;
  words = refl;
}
idle q (Piece ms) u e = absurd (cc)
idle q (Deliver k) u e = absurd (cc)
idle q (Lose k) u e = absurd (cc)
idle q (Copy k) u e = absurd (cc)
idle q (At n l) u e = absurd (cc)
idle q (ClearAt n) u e = absurd (cc)
idle q (Inject t dst a) u e = absurd (cc)
idle q (Reroute g x hops) u e = absurd (cc)

-- ---- several
module _ (q : ℕ) where
  pub run_then : (ss ts : List Step) (w : World) → run (machine q) (ss ++ ts) w ≡ run (machine q) ts (run (machine q) ss w)
  run_then [] ts w = refl
  run_then (s ∷ ss) ts w = run_then ss ts (step q s w)

  no_sends : (ts : List Step) (u : World) → OnlyWrite ts → all_sent (machine q) ts u ≡ []
  no_sends [] u h = refl
  no_sends (t ∷ ts) u h = ap (λ (z : List (Item × Bool)). z ++ all_sent (machine q) ts (step q t u)) (idle q t u h.0).none_sent ∙ no_sends ts (step q t u) h.1

  no_arrivals : (ts : List Step) (u : World) → OnlyWrite ts → all_arrived (machine q) ts u ≡ []
  no_arrivals [] u h = refl
  no_arrivals (t ∷ ts) u h = ap (λ (z : List Item). z ++ all_arrived (machine q) ts (step q t u)) (idle q t u h.0).none_arrives ∙ no_arrivals ts (step q t u) h.1

  pub same_flight : (ts : List Step) (u : World) → OnlyWrite ts → (run (machine q) ts u).flight ≡ u.flight
  same_flight [] u h = refl
  same_flight (t ∷ ts) u h = same_flight ts (step q t u) h.1 ∙ (idle q t u h.0).flight

  pub same_net : (ts : List Step) (u : World) → OnlyWrite ts → (run (machine q) ts u).net ≡ u.net
  same_net [] u h = refl
  same_net (t ∷ ts) u h = same_net ts (step q t u) h.1 ∙ (idle q t u h.0).net

  pub same_nodes : (ts : List Step) (u : World) → OnlyWrite ts → (run (machine q) ts u).nodes ≡ u.nodes
  same_nodes [] u h = refl
  same_nodes (t ∷ ts) u h = same_nodes ts (step q t u) h.1 ∙ (idle q t u h.0).nodes

  no_waits : (ts : List Step) (u : World) → OnlyWrite ts → waits (machine q) ts ≡ 0
  no_waits [] u h = refl
  no_waits (t ∷ ts) u h = let first = (idle q t u h.0).no_time in let later = no_waits ts (step q t u) h.1 in omega (arith, first, later)

  all_quiet : (ss ts : List Step) (w : World) → OnlyWrite ts → AreQuiet (machine q) ss → AreQuiet (machine q) (ss ++ ts)
  all_quiet [] [] w h g = tt
  all_quiet [] (t ∷ ts) w h g = ((idle q t w h.0).calm, all_quiet [] ts (step q t w) h.1 tt)
  all_quiet (s ∷ ss) ts w h g = (g.0, all_quiet ss ts (step q s w) h g.1)

  -- ---- behind other steps
  sent_same : (ss ts : List Step) (w : World) → OnlyWrite ts → all_sent (machine q) (ss ++ ts) w ≡ all_sent (machine q) ss w
  sent_same [] ts w h = no_sends ts w h
  sent_same (s ∷ ss) ts w h = ap (λ (z : List (Item × Bool)). sent q s w ++ z) (sent_same ss ts (step q s w) h)

  arrived_same : (ss ts : List Step) (w : World) → OnlyWrite ts → all_arrived (machine q) (ss ++ ts) w ≡ all_arrived (machine q) ss w
  arrived_same [] ts w h = no_arrivals ts w h
  arrived_same (s ∷ ss) ts w h = ap (λ (z : List Item). items_of (arrived s w) ++ z) (arrived_same ss ts (step q s w) h)

  waits_same : (ss ts : List Step) (w : World) → OnlyWrite ts → waits (machine q) (ss ++ ts) ≡ waits (machine q) ss
  waits_same [] ts w h = no_waits ts w h
  waits_same (s ∷ ss) ts w h = ap (λ (z : ℕ). ms_of s + z) (waits_same ss ts (step q s w) h)

  calm_then : (ss ts : List Step) (w : World) → OnlyWrite ts → Calm (machine q) ss w → Calm (machine q) (ss ++ ts) w
  calm_then ss ts w h c =
      let time = waits_same ss ts w h in
      let long = c.long in
      let short = c.short in
      let flight : (run (machine q) (ss ++ ts) w).flight ≡ (run (machine q) ss w).flight = ap (λ (u : World). u.flight) (run_then ss ts w) ∙ same_flight ts (run (machine q) ss w) h in
      record {
        silent = all_quiet ss ts w h c.silent;
        long = subst (λ (z : ℕ). 6 * q ≤ z) (sym time) c.long;
        short = subst (λ (z : ℕ). z ≤ 10 * q) (sym time) c.short;
        flushed = λ x i. c.flushed x (subst (λ (xs : List Item). In x xs) flight i);
        crossed = λ x k i e on.
            let r = c.crossed x k (subst (λ (z : List (Item × Bool)). In (x, true) z) (sent_same ss ts w h) i) e on in
            (r.0, subst (λ (z : List (Item × Bool)). In (r.0, true) z) (sym (sent_same ss ts w h)) r.1, r.2, subst (λ (z : List Item). In r.0 z) (sym (arrived_same ss ts w h)) r.3);
      }

  -- ---- at the end of the last round
  pub in_last : List Step → List (List Step) → List (List Step)
  in_last ts [] = []
  in_last ts (r ∷ []) = (r ++ ts) ∷ []
  in_last ts (r ∷ x ∷ rs) = r ∷ in_last ts (x ∷ rs)

  pub joined : (xs ys zs : List Step) → (xs ++ ys) ++ zs ≡ xs ++ (ys ++ zs)
  joined [] ys zs = refl
  joined (x ∷ xs) ys zs = λ i. x ∷ joined xs ys zs i

  parts_then : (ts : List Step) (r : List Step) (rs : List (List Step)) → all_of (r ∷ rs) ++ ts ≡ all_of (in_last ts (r ∷ rs))
  unfolding in_last
  parts_then ts r [] = joined r [] ts ∙ sym (append-nil (r ++ ts))
  parts_then ts r (x ∷ rs) = joined r (all_of (x ∷ rs)) ts ∙ ap (λ (z : List Step). r ++ z) (parts_then ts x rs)

  pub length_last : (ts : List Step) (rs : List (List Step)) → length (in_last ts rs) ≡ length rs
  unfolding in_last
  length_last ts [] = refl
  length_last ts (r ∷ []) = refl
  length_last ts (r ∷ x ∷ rs) = ap suc (length_last ts (x ∷ rs))

  pub calm_last : (ts : List Step) (rs : List (List Step)) (w : World) → OnlyWrite ts → Rounds (machine q) rs w → Rounds (machine q) (in_last ts rs) w
  unfolding in_last
  calm_last ts [] w h c = tt
  calm_last ts (r ∷ []) w h c = (calm_then r ts w h c.0, tt)
  calm_last ts (r ∷ x ∷ rs) w h c = (c.0, calm_last ts (x ∷ rs) (run (machine q) r w) h c.1)

  pub all_parts : (ts : List Step) (rs : List (List Step)) → 1 ≤ length rs → all_of rs ++ ts ≡ all_of (in_last ts rs)
  all_parts ts [] le = absurd (omega (arith, le))
  all_parts ts (r ∷ rs) le = parts_then ts r rs

pub a_moment_stays_calm : AMomentStaysCalm
a_moment_stays_calm wanted least q w ss still h is =
    let enough = is.enough in
    let one = least (longest (run (machine q) is.before w).net) in
    let some : 1 ≤ length is.rounds = omega (arith, enough, one) in
    record {
      before = is.before;
      rounds = in_last q still is.rounds;
      parts = ap (λ (z : List Step). z ++ still) is.parts ∙ joined q is.before (all_of is.rounds) still ∙ ap (λ (z : List Step). is.before ++ z) (all_parts q still is.rounds some);
      calm = calm_last q still is.rounds (run (machine q) is.before w) h is.calm;
      enough = let same = length_last q still is.rounds in omega (arith, enough, same);
    }
