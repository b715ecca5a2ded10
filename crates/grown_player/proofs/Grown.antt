-- A network that a seed grew, before its run and behind it.
use Rattle.std.proofs.Common.{◌≡◌, ℕ, List, [], ◌∷◌, ◌++◌, true, false, Some, None, get_or, length, refl, sym, ap, subst, ◌∙◌, arith, length-append}
use Rattle.std.specs.Prelude.{map as each, Result, Ok, Err, IfOk}
use Rattle.rsvp_base.specs.declared.room.NoMemory.{NoMemory}
use Rattle.std.specs.List.{All, flat_map}
use Rattle.rsvp_base.specs.Members.{In}
use Rattle.router_rules.specs.Inputs.{WantAs}
use Rattle.router_rules.specs.Steps.{IsFitCall}
use Rattle.tree_model.specs.Goals.{DemandsFit}
use Rattle.tree_model.specs.Networks.{Net}
use Rattle.tree_model.specs.Ranks.{longest}
use Rattle.tree_model.specs.Wants.{Locals}
use Rattle.tree_model.specs.declared.locals.LocalSender.{LocalSender}
use Rattle.network_model.specs.Events.{Event, Reports, Rounds}
use Rattle.network_model.specs.Runs.{Plan, first_world, is_crowded_run}
use Rattle.network_demand.specs.Demands.{AreLocals}
use Rattle.network_model.specs.DemandTexts.{IsDemandText, demand_text, last_line}
use Rattle.network_replay.specs.Agreeing.{Agrees, NetworkState}
use Rattle.network_replay.specs.Following.{Seen}
use Rattle.network_replay.specs.Opening.{AreFirst, IsOpenedBy}
use Rattle.network_replay.specs.declared.world_err.WorldErr.{WorldErr}
use Rattle.network_replay.specs.declared.world_err.WorldErr.TheVariants.{Crowded, NoMemory as NoRoom}
use Rattle.script_run.specs.Standing.{IsNetworkOf, StandsBehind}
use Rattle.script_run.proofs.Ran.{opened_behind}
use Rattle.grown_network.specs.Grown.{asked, grown_net, grown_plan, local_wants, rounds_of, send_event, want_event}
use Rattle.grown_network.specs.Hosts.{senders, session_of, wants}
use Rattle.grown_network.specs.Nodes.{names_up_to}
use Rattle.grown_network.specs.declared.hosts.Wanted.{Wanted}
use Rattle.grown_network.proofs.HopLists.{in_at}
use Rattle.grown_network.proofs.WantsAsked.{is_wanted}
use Rattle.grown_network.proofs.Fitting.{grown_demands_fit}
use Rattle.grown_network.specs.Summaries.{demanded}
use Rattle.grown_network.proofs.Askable.{can_be_asked}
use Rattle.grown_player.specs.Growing.{first_plan}
use Rattle.grown_player.specs.Playing.{EndsPlaying, IsPlayed, with_events}

-- ---- what is asked
abbrev pub asked_by : List LocalSender → List Wanted → Locals
asked_by xs ws = record { senders = xs; wants = flat_map local_wants ws }

pub askable : (seed : ℕ) (net : Net) (l : Locals) (xs : List LocalSender) (ws : List Wanted) → net ≡ grown_net seed → l ≡ asked_by xs ws → xs ≡ senders seed → ws ≡ wants seed → AreLocals net l
askable seed net l xs ws grown is sent wanted =
    let whole : l ≡ asked seed = is ∙ (λ i. asked_by (sent i) (wanted i)) in
    subst (λ (n : Net). AreLocals n l) (sym grown) (subst (AreLocals (grown_net seed)) (sym whole) (can_be_asked seed))

-- the demand fits, and so its last line says
pub expected : (seed : ℕ) (names : List (List ℕ)) (net : Net) (l : Locals) (xs : List LocalSender) (ws : List Wanted) (text : List ℕ) → names ≡ names_up_to 63 → net ≡ grown_net seed
    → l ≡ asked_by xs ws → xs ≡ senders seed → ws ≡ wants seed → IsDemandText names net l text
    → text ≡ demanded seed ++ last_line (longest (grown_net seed)) true
expected seed names net l xs ws text named grown is sent wanted demand =
    let whole : l ≡ asked seed = is ∙ (λ i. asked_by (sent i) (wanted i)) in
    let met : DemandsFit net l = subst (λ (n : Net). DemandsFit n l) (sym grown) (subst (DemandsFit (grown_net seed)) (sym whole) (grown_demands_fit seed)) in
    let yes : demand.fits ≡ true = demand.told.1 met in
    demand.text_is ∙ (λ i. demand_text (named i) (grown i) (whole i) None ++ last_line (longest (grown i)) (yes i))

-- ---- what is wanted may be asked for
abbrev pub MayBeAskedFor : Wanted → Type 0
MayBeAskedFor w = IsFitCall (WantAs (session_of w.style) w.style w.senders w.flow false)

pub all_fit : (seed : ℕ) (ws : List Wanted) → ws ≡ wants seed → All MayBeAskedFor ws
all_fit seed ws is = λ k d lt. let told = (is_wanted seed (get_or ws k d) (subst (λ (vs : List Wanted). In (get_or ws k d) vs) is (in_at ws k d lt))).0 in (told.fit, told.some)

-- ---- before the run
module _ {R : Type 0} (see : Seen R) where
  pub opened : (seed : ℕ) (v : NetworkState R) (net : Net) (names : List (List ℕ)) (rs : List R) → net ≡ grown_net seed → names ≡ names_up_to 63 → v.names ≡ names
      → ((p : Plan) → IsOpenedBy p 7500 seed net names → AreFirst see p rs → Agrees see 7500 v (first_world p)) → ((p : Plan) → p.quarter ≡ 7500 → p.net ≡ net → p.stale ≡ [] → AreFirst see p rs)
      → StandsBehind see v (first_plan seed)
  unfolding grown_plan
  opened seed v net names rs grown named is agrees first =
      opened_behind see v (first_plan seed) 7500 names refl refl (sym named) is
      (agrees (first_plan seed) (record { quarter_is = refl; seed_is = refl; net_is = sym grown; names_is = sym named }) (first (first_plan seed) refl (sym grown) refl))

  pub opened_ok : (seed : ℕ) (r : Result (NetworkState R) NoMemory) (s : NetworkState R) (net : Net) (names : List (List ℕ)) (rs : List R) → net ≡ grown_net seed → names ≡ names_up_to 63
      → s.names ≡ names → IfOk r (λ v. v ≡ s)
      → IfOk r (λ v. (p : Plan) → IsOpenedBy p 7500 seed net names → AreFirst see p rs → Agrees see 7500 v (first_world p))
      → ((p : Plan) → p.quarter ≡ 7500 → p.net ≡ net → p.stale ≡ [] → AreFirst see p rs) → IfOk r (λ v. StandsBehind see v (first_plan seed))
  opened_ok seed (Ok v) s net names rs grown named same is agrees first = opened seed v net names rs grown named (ap (λ (x : NetworkState R). x.names) is ∙ same) agrees first
  opened_ok seed (Err e) s net names rs grown named same is agrees first = tt

  pub nothing_played : (seed : ℕ) (v : NetworkState R) (out : List ℕ) → out ≡ [] → StandsBehind see v (first_plan seed) → IsPlayed see (first_plan seed) v out
  unfolding grown_plan
  nothing_played seed v out none stands = record { roomy = refl; stands = stands; text_is = none }

-- ---- behind it
abbrev pub events_of : List LocalSender → List Wanted → ℕ → List Event
events_of xs ws n = each send_event xs ++ (each want_event ws ++ Rounds n ∷ Reports None ∷ [])

pub whole_plan : (seed : ℕ) (xs : List LocalSender) (ws : List Wanted) (n : ℕ) → xs ≡ senders seed → ws ≡ wants seed → n ≡ rounds_of seed
    → with_events (first_plan seed) (events_of xs ws n) ≡ grown_plan seed
unfolding grown_plan
whole_plan seed xs ws n sent wanted many = λ i. record (first_plan seed) { events = events_of (sent i) (wanted i) (many i) }

some_events : (seed : ℕ) → (grown_plan seed).events ≡ [] → ⊥
unfolding grown_plan
some_events seed none =
    let last : List Event = Rounds (rounds_of seed) ∷ Reports None ∷ [] in
    let size = ap (λ (es : List Event). length es) none in
    let a = length-append (each send_event (senders seed)) (each want_event (wants seed) ++ last) in
    let b = length-append (each want_event (wants seed)) last in
    omega (arith, size, a, b)

module _ {R : Type 0} (see : Seen R) (seed : ℕ) (xs : List LocalSender) (ws : List Wanted) (n : ℕ) (sent : xs ≡ senders seed) (wanted : ws ≡ wants seed) (many : n ≡ rounds_of seed)
    (old v : NetworkState R) (before out : List ℕ) (none : before ≡ [])
    (stands : StandsBehind see old (first_plan seed)) where
  pub played_all : ((p : Plan) → IsPlayed see p old before → IsPlayed see (with_events p (events_of xs ws n)) v out) → IsPlayed see (grown_plan seed) v out
  played_all play = subst (λ (p : Plan). IsPlayed see p v out) (whole_plan seed xs ws n sent wanted many) (play (first_plan seed) (nothing_played see seed old before none stands))

  pub crowded_by : (x : WorldErr) → ((p : Plan) → IsPlayed see p old before → EndsPlaying see (with_events p (events_of xs ws n)) (Err x) v out) → x ≡ Crowded → is_crowded_run (grown_plan seed) ≡ true
  crowded_by Crowded play is = ap is_crowded_run (sym (whole_plan seed xs ws n sent wanted many)) ∙ play (first_plan seed) (nothing_played see seed old before none stands)
  crowded_by NoRoom play is = absurd (cc is)

-- a network in which the run has ended
pub network_of : {R : Type 0} (see : Seen R) (seed : ℕ) (v : NetworkState R) → StandsBehind see v (grown_plan seed) → IsNetworkOf see (Some v) (grown_plan seed)
network_of see seed v stands = (some_events seed, stands)
