-- The run of a seed is fit: its network is valid, its calls are sound, and few send at each moment.
use Rattle.std.proofs.Common.{◌≡◌, ℕ, ◌+◌, ◌≤◌, Bool, true, false, List, [], ◌∷◌, ◌++◌, length, None, refl, ap, ◌∙◌, inl, inr, ⊎_elim, arith}
use Rattle.std.specs.Prelude.{map as each, not}
use Rattle.std.specs.List.{filter, list_all, range_with_len}
use Rattle.std.proofs.lemmas.List.{length-map}
use Rattle.rsvp_base.specs.declared.addr.Addr.{Addr}
use Rattle.rsvp_base.specs.declared.style.StyleKind.{StyleKind}
use Rattle.rsvp_base.specs.declared.style.StyleKind.TheVariants.{Wild, Fixed, Shared}
use Rattle.rsvp_base.specs.Members.{In}
use Rattle.rsvp_base.specs.Orders.{senders as by_sender, sessions as by_session}
use Rattle.rsvp_base.proofs.Counts.{size-set_of}
use Rattle.rsvp_base.proofs.Fronts.{got_in}
use Rattle.rsvp_base.proofs.Members.{all_in, in_each, in_flat_map}
use Rattle.router_rules.specs.Steps.{IsFitCall}
use Rattle.router_rules.specs.Inputs.{WantAs}
use Rattle.tree_model.specs.declared.hops.End.{End}
use Rattle.tree_model.specs.declared.locals.LocalSender.{LocalSender}
use Rattle.tree_model.specs.Networks.{Net}
use Rattle.tree_model.specs.Wants.{live, of_session}
use Rattle.network_model.specs.Events.{Event, Reports, Rounds}
use Rattle.network_model.specs.Links.{NoEndIsAGroup, is_group}
use Rattle.laws_network.specs.Beginning.{IsFitPlan}
use Rattle.laws_network.specs.Runs.{AreFew, AreFewSenders, AreFitEvents, AreFitSenders, IsFitRun}
use Rattle.grown_network.specs.declared.hosts.Wanted.{Wanted}
use Rattle.grown_network.specs.Grown.{grown_net, grown_plan, rounds_of, send_event, want_event}
use Rattle.grown_network.specs.Hosts.{local_sender, senders, senders_of, session_of, session_word, styles, wants}
use Rattle.grown_network.specs.Nodes.{ends_up_to}
use Rattle.grown_network.proofs.Senders.{twelve}
use Rattle.grown_network.proofs.Valid.{valid_grown}
use Rattle.laws_grown.specs.Runs.{GrownRunsAreFit}
use Rattle.grown_network.proofs.WantsAsked.{is_wanted}
use Rattle.grown_network.proofs.Modest.{shorter}

-- ---- no end has the address of a group
hosts_tested : list_all (λ (x : End). not (is_group x.iface.addr)) (ends_up_to 63) ≡ true
unfolding ends_up_to
hosts_tested = refl

negated : (b : Bool) → not b ≡ true → b ≡ false
negated true e = absurd (cc)
negated false e = refl

hosts : (seed : ℕ) → NoEndIsAGroup (grown_net seed)
hosts seed e x at = negated (is_group x.iface.addr) (all_in (λ (y : End). not (is_group y.iface.addr)) (ends_up_to 63) hosts_tested x (got_in (ends_up_to 63) e x at))

fit_plan : (seed : ℕ) → IsFitPlan (grown_plan seed)
unfolding grown_plan
fit_plan seed = record { period = omega arith; net = valid_grown seed; hosts = hosts seed; stale = λ n i lt there. absurd there }

-- ---- calls
module _ (trees : List (Addr × Addr)) (net : Net) where
  sends_fit : (xs : List LocalSender) (es : List Event) → AreFitEvents trees net es → AreFitEvents trees net (each send_event xs ++ es)
  sends_fit [] es fit = fit
  sends_fit (x ∷ xs) es fit = (record { rate = omega arith; depth = omega arith; low = omega arith; most = omega arith }, sends_fit xs es fit)

  wants_fit : (ws : List Wanted) (es : List Event) → ((w : Wanted) → In w ws → IsFitCall (WantAs (session_of w.style) w.style w.senders w.flow false)) → AreFitEvents trees net es
      → AreFitEvents trees net (each want_event ws ++ es)
  wants_fit [] es all fit = fit
  wants_fit (w ∷ ws) es all fit = (all w (inl refl), wants_fit ws es (λ x i. all x (inr i)) fit)

fit_run : (seed : ℕ) → IsFitRun (grown_plan seed)
unfolding grown_plan
fit_run seed = record {
  plan = fit_plan seed;
  events = sends_fit _ _ (senders seed) _ (wants_fit _ _ (wants seed) (Rounds (rounds_of seed) ∷ Reports None ∷ [])
      (λ w i. let own = (is_wanted seed w i).0 in (own.fit, own.some)) (tt, (tt, tt)));
}

-- ---- who sends
abbrev ToGroups : List LocalSender → Type 0
ToGroups xs = (x : LocalSender) → In x xs → is_group x.session.group ≡ true

few : (ls : List LocalSender) → ToGroups ls → length ls ≤ 16 → AreFew ls
few ls groups le = record {
  groups = groups;
  few_senders = λ s.
      let a = size-set_of by_sender (live (record { senders = ls; wants = [] }) s) in
      let b = length-map (filter (of_session s) ls) (λ (x : LocalSender). x.sender) in
      let c = shorter (of_session s) ls in
      omega (arith, a, b, c, le);
  few_sessions = let a = size-set_of by_session (each (λ (x : LocalSender). x.session) ls) in let b = length-map ls (λ (x : LocalSender). x.session) in omega (arith, a, b, le);
}

wants_few : (ws : List Wanted) (es : List Event) (ls : List LocalSender) → AreFew ls → AreFewSenders ls es → AreFewSenders ls (each want_event ws ++ es)
wants_few [] es ls are rest = rest
wants_few (w ∷ ws) es ls are rest = (are, wants_few ws es ls are rest)

-- each is one more, and behind the last the others follow
sends_few : (xs : List LocalSender) (es : List Event) (ls : List LocalSender) → ToGroups ls → ToGroups xs → length ls + length xs ≤ 16 → ((all : List LocalSender) → AreFew all → AreFewSenders all es)
    → AreFewSenders ls (each send_event xs ++ es)
sends_few [] es ls old new le rest = rest ls (few ls old (omega (arith, le)))
sends_few (x ∷ xs) es ls old new le rest = (
  few ls old (omega (arith, le)),
  sends_few xs es (x ∷ ls) (λ y i. ⊎_elim (λ (same : y ≡ x). ap (λ (z : LocalSender). is_group z.session.group) same ∙ new x (inl refl)) (λ (j : In y ls). old y j) i) (λ y i. new y (inr i))
      (omega (arith, le)) rest,
)

group_of : (st : StyleKind) → is_group (session_of st).group ≡ true
group_of Wild = refl
group_of Fixed = refl
group_of Shared = refl

to_groups : (seed : ℕ) → ToGroups (senders seed)
unfolding senders
to_groups seed x i =
    let st = in_flat_map (λ st. senders_of st (session_word seed st)) x styles i in
    let k = in_each (local_sender st.0 (session_word seed st.0)) x (range_with_len 0 4) st.2 in
    ap (λ (z : LocalSender). is_group z.session.group) k.2 ∙ group_of st.0

fit_senders : (seed : ℕ) → AreFitSenders (grown_plan seed)
unfolding grown_plan
fit_senders seed =
    let e = twelve seed in
    sends_few (senders seed) _ [] (λ x i. absurd i) (to_groups seed) (omega (arith, e)) (λ all are. wants_few (wants seed) (Rounds (rounds_of seed) ∷ Reports None ∷ []) all are (are, (are, are)))

pub grown_runs_are_fit : GrownRunsAreFit
grown_runs_are_fit seed = record { run = fit_run seed; senders = fit_senders seed }
