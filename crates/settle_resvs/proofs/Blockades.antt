-- Blockades of a session are gone three rounds after its last error with a flow: none is set, and each dies within 16 quarters.
use Rattle.std.proofs.Common.{◌≡◌, ℕ, ◌+◌, ◌*◌, ◌≤◌, List, Option, None, Some, ⊎_elim, arith, sym, refl, ap, ◌∙◌, true}
use Rattle.std.specs.Prelude.{slice_get}
use Rattle.rsvp_base.specs.Members.{In}
use Rattle.rsvp_base.specs.Table.{get}
use Rattle.rsvp_base.specs.declared.session.Sender.{Sender}
use Rattle.rsvp_base.specs.declared.session.Session.{Session}
use Rattle.rsvp_base.specs.declared.style.StyleKind.{StyleKind}
use Rattle.rsvp_base.specs.declared.style.StyleKind.TheVariants.{Wild, Fixed, Shared}
use Rattle.rsvp_base.proofs.Members.{in_each}
use Rattle.rsvp_messages.specs.declared.message.Message.TheVariants as message
use Rattle.rsvp_messages.specs.declared.message.ResvErrMsg.{ResvErrMsg}
use Rattle.calm_rounds.specs.Hold.{Hold}
use Rattle.calm_rounds.specs.Rounds.{Rounds}
use Rattle.calm_rounds.proofs.Holding.{hold_map, hold_both, hold_later, hold_start, hold_keep, hold_clock}
use Rattle.router_rules.specs.Errors.{blamed_senders, walled_by}
use Rattle.router_rules.specs.Facts.{Facts, Blockade}
use Rattle.router_rules.specs.Inputs.{Input, Came, Spelt, Wait}
use Rattle.router_rules.specs.NodeConfig.{NodeConfig, own}
use Rattle.router_rules.specs.Rule.{Outcome}
use Rattle.laws_steps.specs.ErrorLaws.{IsBlockadeSet}
use Rattle.laws_steps.proofs.Erring.{where_a_blockade_comes_from}
use Rattle.tree_model.specs.Networks.{iface_of}
use Rattle.network_model.specs.Bounds.{AreBounds}
use Rattle.network_model.specs.Steps.{Step, is_quiet, ms_of, input_at, outcome, still, word_for, step, machine}
use Rattle.network_model.specs.Worlds.{World, config_of}
use Rattle.network_model.proofs.Machines.{quiet_of, time_passes, in_arrived}
use Rattle.network_model.proofs.Quiet.{IsWaited, IsCame, FollowsRule, input_found, outcome_quiet}
use Rattle.network_model.proofs.Stepping.{facts_after_found}
use Rattle.router_rules.specs.Steps.{node_step}
use Rattle.style_rules.specs.declared.target.Target.{Target}
use Rattle.style_rules.specs.declared.target.Target.TheVariants as target
use Rattle.style_rules.specs.Targets.{WallKey}
use Rattle.settle_resvs.specs.Sessions.{HasNoFlowErrorOf, IsFreeOfBlockadesOf}

-- ---- an error sets blockades of its session
walled_session : (e : ℕ) (m : ResvErrMsg) (st : StyleKind) (k : WallKey) → In k (walled_by e m st) → k.0 ≡ m.session
walled_session e m Wild k i = ⊎_elim (λ (is : k ≡ (m.session, target.Hop e m.hop.addr)). ap (λ (z : WallKey). z.0) is) (λ (n : ⊥). absurd n) i
walled_session e m Fixed k i = let x = in_each (λ (z : Sender). (m.session, target.Sender z)) k (blamed_senders m.blame.senders) i in ap (λ (z : WallKey). z.0) x.2
walled_session e m Shared k i = let x = in_each (λ (z : Sender). (m.session, target.Sender z)) k (blamed_senders m.blame.senders) i in ap (λ (z : WallKey). z.0) x.2

-- ---- each blockade of the session dies by a moment
abbrev pub DiesBy : Session → ℕ → World → Type 0
DiesBy which c u = (n : ℕ) (f : Facts) (t : Target) (b : Blockade) → slice_get u.nodes n ≡ Some f → get f.walls (which, t) ≡ Some b → b.dies ≤ c

module _ (q : ℕ) (which : Session) (s : Step) (u : World) (quiet : is_quiet s ≡ true) (bounds : AreBounds q u) (none : HasNoFlowErrorOf which u) where
  -- no error sets one
  not_set : (n : ℕ) (i : Input) (c : ℕ) (f : Facts) (t : Target) (b : Blockade) → input_at s u n ≡ Some i → IsBlockadeSet (config_of q u.net u.trees n) c i f (which, t) b → ⊥
  not_set n i c f to b came set =
      let p : NodeConfig = config_of q u.net u.trees n in
      ⊎_elim
      (λ (t : IsWaited s u n i). let no : Wait t.ms (word_for u.words n) ≡ Came set.at (own p set.at) (Spelt (message.ResvErr set.error)) = sym t.is ∙ set.came in absurd (cc))
      (λ (t : IsCame s u n i).
      let same : Came (iface_of u.net.ends t.item.end) t.item.dst t.item.arrival ≡ Came set.at (own p set.at) (Spelt (message.ResvErr set.error)) = sym t.is ∙ set.came in
      let spelt : t.item.arrival ≡ Spelt (message.ResvErr set.error) = cc in
      let no : None ≡ Some set.flow = sym (none t.item set.error (in_arrived s u t.item t.arrives) spelt (sym (walled_session set.at set.error set.error.blame.style (which, to) set.target))) ∙ set.says in
      absurd (cc))
      (input_found s u n i quiet came)

  pub walls_step : (c : ℕ) → DiesBy which c u → DiesBy which c (step q s u)
  walls_step c dies n g t b a h =
      let k : WallKey = (which, t) in
      let p : NodeConfig = config_of q u.net u.trees n in
      let f = facts_after_found q s u n g a in
      let now : get (outcome q s u n f.0).facts.walls k ≡ Some b = ap (λ (z : Facts). get z.walls k) (sym f.2) ∙ h in
      ⊎_elim
      (λ (z : (input_at s u n ≡ None) × (outcome q s u n f.0 ≡ still f.0)). dies n f.0 t b f.1 (sym (ap (λ (o : Outcome). get o.facts.walls k) z.1) ∙ now))
      (λ (r : FollowsRule q s u n f.0 (outcome q s u n f.0)).
      ⊎_elim
      (λ (old : get f.0.walls k ≡ Some b). dies n f.0 t b f.1 old)
      (λ (new : IsBlockadeSet p (u.clock + ms_of s) r.input f.0 k b). absurd (not_set n r.input (u.clock + ms_of s) f.0 t b r.came new))
      (where_a_blockade_comes_from (node_step p p u.clock (u.clock + ms_of s) r.input f.0) (bounds.facts n f.0 f.1) k b (sym (ap (λ (o : Outcome). get o.facts.walls k) r.is) ∙ now)))
      (outcome_quiet q s u n f.0 quiet)

-- ---- after 18 quarters none lives
pub free : (q : ℕ) (which : Session) (w u : World) → AreBounds q u → DiesBy which (w.clock + 16 * q) u → w.clock + 6 * q * 3 ≤ u.clock → IsFreeOfBlockadesOf which u
free q which w u bounds dies late n f a t = by (get f.walls (which, t)) refl
  where
    by : (v : Option Blockade) → get f.walls (which, t) ≡ v → get f.walls (which, t) ≡ None
    by None e = e
    by (Some b) e =
        let lives = ((bounds.facts n f a).alive.walls (which, t) b e).later in
        let dead = dies n f t b a e in
        absurd (omega (arith, lives, dead, late))

pub blockades_are_gone : (q : ℕ) (which : Session) (w : World) (rs : List (List Step)) → Rounds (machine q) rs w → Hold (machine q) 0 rs w (AreBounds q) → Hold (machine q) 0 rs w (HasNoFlowErrorOf which)
    → Hold (machine q) 3 rs w (IsFreeOfBlockadesOf which)
blockades_are_gone q which w rs calm bounds none =
    let first : AreBounds q w = hold_start (machine q) (AreBounds q) rs w bounds in
    let both : Hold (machine q) 0 rs w (λ u. AreBounds q u × HasNoFlowErrorOf which u) = hold_both (machine q) (AreBounds q) (HasNoFlowErrorOf which) 0 rs w bounds none in
    let dies : Hold (machine q) 0 rs w (DiesBy which (w.clock + 16 * q)) =
    hold_keep (machine q) (λ u. AreBounds q u × HasNoFlowErrorOf which u) (DiesBy which (w.clock + 16 * q))
    (λ s u quiet a a' j. walls_step q which s u (quiet_of q s quiet) a.0 a.1 (w.clock + 16 * q) j) rs w calm both
    (λ n f t b a h. let soon = ((first.facts n f a).alive.walls (which, t) b h).soon in omega (arith, soon)) in
    hold_map (machine q) (λ u. (AreBounds q u × DiesBy which (w.clock + 16 * q) u) × (w.clock + 6 * q * 3 ≤ u.clock)) (IsFreeOfBlockadesOf which) (λ u g. free q which w u g.0.0 g.0.1 g.1) 3 rs w
    (hold_both (machine q) (λ u. AreBounds q u × DiesBy which (w.clock + 16 * q) u) (λ u. w.clock + 6 * q * 3 ≤ u.clock) 3 rs w
    (hold_later (machine q) (λ u. AreBounds q u × DiesBy which (w.clock + 16 * q) u) 0 3 rs w (omega arith) (hold_both (machine q) (AreBounds q) (DiesBy which (w.clock + 16 * q)) 0 rs w bounds dies))
    (hold_clock (machine q) (time_passes q) 3 rs w calm))
