-- Behind the sends and the calls for what is wanted, each node has what is asked of it; and so it has when rounds have passed.
use Rattle.std.proofs.Common.{◌≡◌, ◌↔◌, ℕ, ◌+◌, suc, List, [], ◌∷◌, ◌++◌, length, Some, refl, sym, ap, subst, ◌∙◌, arith}
use Rattle.std.specs.Prelude.{map as each, slice_get}
use Rattle.std.specs.List.{flat_map, range_with_len}
use Rattle.std.proofs.lemmas.List.FromFn.{length-map-range_with_len}
use Rattle.rsvp_base.specs.Members.{In}
use Rattle.rsvp_base.specs.Table.{empty, keys}
use Rattle.calm_rounds.specs.Machine.{run}
use Rattle.router_rules.specs.Calls.{SendersOf}
use Rattle.router_rules.specs.Facts.{Facts, Want, WantKey, no_facts}
use Rattle.router_rules.specs.Inputs.{Stale}
use Rattle.tree_model.specs.declared.locals.LocalSender.{LocalSender}
use Rattle.tree_model.specs.declared.locals.LocalWant.{LocalWant}
use Rattle.tree_model.specs.Trees.{trees_of}
use Rattle.network_model.specs.Locals.{locals_of, sender_at, senders_from, want_at, wants_from}
use Rattle.network_model.specs.Runs.{Plan, first_facts, first_world, left_over}
use Rattle.network_model.specs.Steps.{Step, machine}
use Rattle.network_model.specs.Worlds.{World, config_of}
use Rattle.laws_network.proofs.Beginning.{each_found}
use Rattle.laws_network.proofs.Calming.{run_append}
use Rattle.grown_network.specs.Grown.{asked, grown_net, grown_plan}
use Rattle.grown_network.specs.Hosts.{senders, wants}
use Rattle.grown_network.proofs.Senders.{apart, twelve}
use Rattle.laws_grown.specs.Runs.{IsAsAsked}
use Rattle.grown_network.proofs.WantsAsked.{is_wanted}
use Rattle.laws_grown.proofs.Calls.{Have}
use Rattle.laws_grown.proofs.Senders.{just_those}
use Rattle.laws_grown.proofs.Sending.{after_sends, all_sent, send_step}
use Rattle.laws_grown.proofs.Wanting.{after_wants, all_asked, want_step}
use Rattle.laws_grown.proofs.Wants.{all_wants, no_rows, wants_rise}

-- ---- at first nodes have nothing
module _ (p : Plan) (none : p.stale ≡ []) (many : p.net.nodes ≡ 64) where
  none_left : (n : ℕ) → first_facts p n ≡ no_facts
  none_left n = ap (λ (ss : List (ℕ × Stale)). left_over (config_of p.quarter p.net (trees_of p.net.hops) n) n ss no_facts) none

  first_have : Have p.net (λ n. empty) (λ n. []) (first_world p)
  first_have = record {
    many = length-map-range_with_len (first_facts p) 0 p.net.nodes ∙ many;
    net_is = refl;
    quiet = refl;
    senders = λ n f at. ap (λ (z : Facts). z.senders) (sym (each_found (first_facts p) 0 p.net.nodes n f at) ∙ none_left (0 + n));
    wants = λ n f at. ap (λ (z : Facts). z.wants.rows) (sym (each_found (first_facts p) 0 p.net.nodes n f at) ∙ none_left (0 + n));
  }

-- ---- then what is asked
abbrev pub calls : ℕ → List Step
calls seed = each send_step (senders seed) ++ each want_step (wants seed)

abbrev senders_then : ℕ → ℕ → SendersOf
senders_then seed = after_sends (senders seed) (λ n. empty)

abbrev rows_then : ℕ → ℕ → List (WantKey × Want)
rows_then seed = after_wants (wants seed) (λ n. [])

pub calls_have : (q seed : ℕ) → Have (grown_net seed) (senders_then seed) (rows_then seed) (run (machine q) (calls seed) (first_world (grown_plan seed)))
unfolding grown_plan
calls_have q seed =
    let e = twelve seed in
    let sent = all_sent q (grown_net seed).hops (senders seed) (λ n. empty) (λ n. []) (first_world (grown_plan seed)) (first_have (grown_plan seed) refl refl) (λ n r i. absurd i) (apart seed).home_at
    (λ n. omega (arith, e)) in
    subst (Have (grown_net seed) (senders_then seed) (rows_then seed)) (sym (run_append (machine q) (each send_step (senders seed)) (each want_step (wants seed)) (first_world (grown_plan seed))))
    (all_asked q (grown_net seed).hops (senders_then seed) (wants seed) 0 192 (λ n. []) (run (machine q) (each send_step (senders seed)) (first_world (grown_plan seed))) sent no_rows
    (wants_rise seed) (λ w i. (is_wanted seed w i).0.few))

-- ---- as lists
senders_listed : (S : ℕ → SendersOf) (a : ℕ) (fs : List Facts) → ((n : ℕ) (f : Facts) → slice_get fs n ≡ Some f → f.senders ≡ S (a + n))
    → senders_from a fs ≡ flat_map (λ n. each (sender_at n) (keys (S n))) (range_with_len a (length fs))
senders_listed S a [] h = refl
senders_listed S a (f ∷ fs) h =
    let at : a + 0 ≡ a = omega arith in
    let next : suc a ≡ a + 1 = omega arith in
    let here : f.senders ≡ S a = h 0 f refl ∙ ap S at in
    let rest = ap (λ (b : ℕ). senders_from b fs) next ∙ senders_listed S (a + 1) fs (λ n g there. let same : a + suc n ≡ (a + 1) + n = omega arith in h (suc n) g there ∙ ap S same) in
    λ i. each (sender_at a) (keys (here i)) ++ rest i

wants_listed : (R : ℕ → List (WantKey × Want)) (a : ℕ) (fs : List Facts) → ((n : ℕ) (f : Facts) → slice_get fs n ≡ Some f → f.wants.rows ≡ R (a + n))
    → wants_from a fs ≡ flat_map (λ n. each (want_at n) (R n)) (range_with_len a (length fs))
wants_listed R a [] h = refl
wants_listed R a (f ∷ fs) h =
    let at : a + 0 ≡ a = omega arith in
    let next : suc a ≡ a + 1 = omega arith in
    let here : f.wants.rows ≡ R a = h 0 f refl ∙ ap R at in
    let rest = ap (λ (b : ℕ). wants_from b fs) next ∙ wants_listed R (a + 1) fs (λ n g there. let same : a + suc n ≡ (a + 1) + n = omega arith in h (suc n) g there ∙ ap R same) in
    λ i. each (want_at a) (here i) ++ rest i

pub as_asked : (seed : ℕ) (w : World) → Have (grown_net seed) (senders_then seed) (rows_then seed) w → IsAsAsked seed w
as_asked seed w have = record {
  net = have.net_is;
  locals = record {
    senders = λ x. subst (λ (ls : List LocalSender). In x ls ↔ In x (senders seed)) (sym all_senders) (just_those (senders seed) (λ y i. ((apart seed).home_at y i).within) x);
    wants = λ v. (subst (λ (ws : List LocalWant). In v ws) wants_are, subst (λ (ws : List LocalWant). In v ws) (sym wants_are));
  };
}
  where
    all_senders : (locals_of w).senders ≡ flat_map (λ n. each (sender_at n) (keys (senders_then seed n))) (range_with_len 0 64)
    all_senders =
        senders_listed (senders_then seed) 0 w.nodes (λ n f at. let same : n ≡ 0 + n = omega arith in have.senders n f at ∙ ap (senders_then seed) same)
        ∙ ap (λ (m : ℕ). flat_map (λ n. each (sender_at n) (keys (senders_then seed n))) (range_with_len 0 m)) have.many

    wants_are : (locals_of w).wants ≡ (asked seed).wants
    wants_are =
        wants_listed (rows_then seed) 0 w.nodes (λ n f at. let same : n ≡ 0 + n = omega arith in have.wants n f at ∙ ap (rows_then seed) same)
        ∙ ap (λ (m : ℕ). flat_map (λ n. each (want_at n) (rows_then seed n)) (range_with_len 0 m)) have.many
        ∙ all_wants seed
