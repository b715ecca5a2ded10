-- A session that fits settles, and a network where all fit: the rows of the plan, one after the other.
use Rattle.std.specs.Prelude.{◌++◌}
use Rattle.std.proofs.Common.{◌≡◌, ℕ, suc, true, ◌+◌, ◌*◌, List, length, None, Some, inl, arith, sym, subst, [], ◌∷◌, ap, refl, ◌∙◌}
use Rattle.rsvp_base.specs.declared.session.Session.{Session}
use Rattle.rsvp_base.specs.Members.{In}
use Rattle.rsvp_base.specs.Orders.{entry_keys}
use Rattle.rsvp_base.specs.Table.{get, size}
use Rattle.rsvp_base.proofs.Counts.{in_found}
use Rattle.rsvp_base.proofs.Tables.{same_table}
use Rattle.style_rules.specs.Targets.{WallKey, wall_keys}
use Rattle.calm_rounds.specs.Hold.{Hold}
use Rattle.calm_rounds.specs.Machine.{run}
use Rattle.calm_rounds.specs.Rounds.{Rounds, run_rounds}
use Rattle.calm_rounds.proofs.Holding.{hold_all, hold_map, hold_both, hold_later, hold_start, hold_end, hold_stack}
use Rattle.router_rules.specs.Books.{book}
use Rattle.router_rules.specs.Facts.{Blockade, Walls}
use Rattle.tree_model.specs.Goals.{demand_of}
use Rattle.tree_model.specs.Networks.{Net, iface_of}
use Rattle.tree_model.specs.Ranks.{longest}
use Rattle.network_model.specs.Bounds.{AreBounds, AreHosts, IsSettled, IsStart, all_of}
use Rattle.network_model.specs.Locals.{locals_of}
use Rattle.network_model.specs.Sound.{ArePathsComplete, ArePathsSound, AreResvsSound, HasNoFlowError, TakesAll}
use Rattle.network_model.specs.Steps.{Step, is_quiet, machine, step}
use Rattle.network_model.specs.Worlds.{World}
use Rattle.laws_network.specs.Known.{IsKnown}
use Rattle.laws_network.proofs.Keeping.{calm_rounds_keep_bounds}
use Rattle.laws_network.proofs.Known.{known_hold}
use Rattle.settle_resvs.proofs.CompletePaths.{paths_settle}
use Rattle.settle_resvs.proofs.SoundPaths.{paths_are_sound}
use Rattle.settle_resvs.proofs.SoundResvs.{IsFirm}
use Rattle.settle_resvs.proofs.SoundUnits.{IsAddressed, addressed, reservations_become_sound}
use Rattle.settle_resvs.specs.Sessions.{AreExactOf, HasNoFlowErrorOf, IsFreeOfBlockadesOf, SessionFits, TakesAllOf}
use Rattle.settle_network.specs.Sessions.{HasSettledFor}
use Rattle.settle_network.specs.Settled.{HasSettled}
use Rattle.settle_resvs.proofs.Accepting.{IsReady, IsSettledSoFar, fits_again, locals_again, takes_all}
use Rattle.settle_resvs.proofs.Blockades.{blockades_are_gone}
use Rattle.settle_resvs.proofs.Errors.{IsCalmed, errors_are_gone}
use Rattle.settle_resvs.proofs.GoalByIface.{each_fits}
use Rattle.settle_network.proofs.Reports.{entries_are_the_demand}
use Rattle.settle_resvs.proofs.ExactResvs.{IsSteady, reservations_are_exact}

-- the length of the longest chain, and the rounds until paths, reservations, errors and blockades are as they should be
module _ (w : World) where
  abbrev long : ℕ
  long = longest w.net

  abbrev to_paths : ℕ
  to_paths = 4 + 5 * long

  abbrev to_resvs : ℕ
  to_resvs = to_paths + (5 + 5 * long)

  abbrev to_errors : ℕ
  to_errors = to_resvs + suc long

  abbrev to_walls : ℕ
  to_walls = to_errors + 3

-- ---- a session of a steady world, with exact reservations and no error with a flow, has settled
pub settled_for : (q : ℕ) (s : Session) (u : World) → IsSteady q s u → AreExactOf s u → HasNoFlowErrorOf s u → HasSettledFor q s u
settled_for q s u g exact no_error = record {
  exact = exact;
  entries = λ e f lt at. entries_are_the_demand q s u g.ready.bounds g.ready.resvs exact e lt f at;
  takes_all = λ t quiet. takes_all q s t u quiet g.ready (λ y m i spelt. g.addressed y m i (omega arith) spelt);
  no_flow_error = no_error;
  no_blockade = g.free;
}

-- ---- whatever is asked for: paths are sound and complete, reservations sound, and what is sent goes to its end
module _ (q : ℕ) (w : World) (rs : List (List Step)) (calm : Rounds (machine q) rs w) (start : AreBounds q w) (hosts : AreHosts w) where
  pub record IsSound (u : World) : Type 0 where
    pub known : IsKnown q w u
    pub so_far : IsSettledSoFar u
    pub addressed : IsAddressed 0 u

  bounds : Hold (machine q) 0 rs w (AreBounds q)
  bounds = calm_rounds_keep_bounds q w rs calm start

  known : Hold (machine q) 0 rs w (IsKnown q w)
  known = known_hold q w rs calm bounds

  gone_on : Hold (machine q) (to_paths w + 1) rs w (IsAddressed 0)
  gone_on =
      hold_stack (machine q) (IsFirm q w) (IsAddressed 0) 1 (λ us u c h. addressed q w start.net us u c h) (to_paths w) rs w calm
      (hold_map (machine q) (λ u. IsKnown q w u × ArePathsSound u) (IsFirm q w) (λ u h. record { known = h.0; paths = h.1 }) (to_paths w) rs w
      (hold_both (machine q) (IsKnown q w) ArePathsSound (to_paths w) rs w (hold_later (machine q) (IsKnown q w) 0 (to_paths w) rs w (omega arith) known) (paths_are_sound q w rs calm bounds)))

  pub all_sound : Hold (machine q) (to_resvs w) rs w IsSound
  all_sound =
      hold_map (machine q) (λ u. (IsKnown q w u × (ArePathsSound u × ArePathsComplete u)) × (AreResvsSound u × IsAddressed 0 u)) IsSound
      (λ u h. record { known = h.0.0; so_far = (h.0.1.0, (h.0.1.1, h.1.0)); addressed = h.1.1 }) (to_resvs w) rs w
      (hold_both (machine q) (λ u. IsKnown q w u × (ArePathsSound u × ArePathsComplete u)) (λ u. AreResvsSound u × IsAddressed 0 u) (to_resvs w) rs w
      (hold_both (machine q) (IsKnown q w) (λ u. ArePathsSound u × ArePathsComplete u) (to_resvs w) rs w
      (hold_later (machine q) (IsKnown q w) 0 (to_resvs w) rs w (omega arith) known)
      (hold_later (machine q) (λ u. ArePathsSound u × ArePathsComplete u) (to_paths w + 2 * long w) (to_resvs w) rs w (omega arith) (paths_settle q w rs calm hosts bounds)))
      (hold_both (machine q) AreResvsSound (IsAddressed 0) (to_resvs w) rs w (reservations_become_sound q w rs calm bounds)
      (hold_later (machine q) (IsAddressed 0) (to_paths w + 1) (to_resvs w) rs w (omega arith) gone_on)))

  -- ---- a session that fits
  module _ (s : Session) (fit : SessionFits w.net (locals_of w) s) where
    -- a known world, ready for the session
    record IsReadied (u : World) : Type 0 where
      known : IsKnown q w u
      ready : IsReady q s u
      addressed : IsAddressed 0 u

    readied : Hold (machine q) (to_resvs w) rs w IsReadied
    readied =
        hold_map (machine q) IsSound IsReadied
        (λ u h. record {
          known = h.known;
          ready = record {
            bounds = h.known.bounds;
            locals = locals_again w u h.known.same hosts;
            fit = fits_again s w u h.known.same fit;
            sound = h.so_far.0;
            complete = h.so_far.1.0;
            resvs = h.so_far.1.1;
          };
          addressed = h.addressed;
        }) (to_resvs w) rs w all_sound

    -- ---- no error with a flow is left, then no blockade
    pub no_errors : Hold (machine q) (to_errors w) rs w (HasNoFlowErrorOf s)
    no_errors =
        hold_stack (machine q) (IsCalmed q s w) (HasNoFlowErrorOf s) (suc (long w)) (λ us u c h. errors_are_gone q s w us u c h) (to_resvs w) rs w calm
        (hold_map (machine q) IsReadied (IsCalmed q s w) (λ u h. record { known = h.known; ready = h.ready }) (to_resvs w) rs w readied)

    takes_it : (u : World) → IsReadied u → (t : Step) → is_quiet t ≡ true → TakesAllOf s q t u
    takes_it u h t quiet = takes_all q s t u quiet h.ready (λ y m i spelt. h.addressed y m i (omega arith) spelt)

    pub nothing_of_it_is_refused : Hold (machine q) (to_errors w) rs w (λ u. ((t : Step) → is_quiet t ≡ true → TakesAllOf s q t u) × HasNoFlowErrorOf s u)
    nothing_of_it_is_refused =
        hold_map (machine q) (λ u. IsReadied u × HasNoFlowErrorOf s u) (λ u. ((t : Step) → is_quiet t ≡ true → TakesAllOf s q t u) × HasNoFlowErrorOf s u)
        (λ u h. (λ t quiet. takes_it u h.0 t quiet, h.1)) (to_errors w) rs w
        (hold_both (machine q) IsReadied (HasNoFlowErrorOf s) (to_errors w) rs w (hold_later (machine q) IsReadied (to_resvs w) (to_errors w) rs w (omega arith) readied) no_errors)

    no_walls : Hold (machine q) (to_walls w) rs w (IsFreeOfBlockadesOf s)
    no_walls =
        hold_stack (machine q) (λ u. AreBounds q u × HasNoFlowErrorOf s u) (IsFreeOfBlockadesOf s) 3
        (λ us u c h. blockades_are_gone q s u us c (hold_map (machine q) (λ x. AreBounds q x × HasNoFlowErrorOf s x) (AreBounds q) (λ x g. g.0) 0 us u h)
        (hold_map (machine q) (λ x. AreBounds q x × HasNoFlowErrorOf s x) (HasNoFlowErrorOf s) (λ x g. g.1) 0 us u h))
        (to_errors w) rs w calm
        (hold_both (machine q) (AreBounds q) (HasNoFlowErrorOf s) (to_errors w) rs w (hold_later (machine q) (AreBounds q) 0 (to_errors w) rs w (omega arith) bounds) no_errors)

    -- ---- reservations are the wants
    abbrev Steadied : World → Type 0
    Steadied u = IsKnown q w u × IsSteady q s u

    steady : Hold (machine q) (to_walls w) rs w Steadied
    steady =
        hold_map (machine q) (λ u. IsReadied u × IsFreeOfBlockadesOf s u) Steadied
        (λ u h. (h.0.known, record { ready = h.0.ready; free = h.1; addressed = h.0.addressed })) (to_walls w) rs w
        (hold_both (machine q) IsReadied (IsFreeOfBlockadesOf s) (to_walls w) rs w (hold_later (machine q) IsReadied (to_resvs w) (to_walls w) rs w (omega arith) readied) no_walls)

    exact : Hold (machine q) (to_walls w + 2 * long w) rs w (AreExactOf s)
    exact =
        hold_stack (machine q) Steadied (AreExactOf s) (2 * long w)
        (λ us u c h.
        let net = (hold_start (machine q) Steadied us u h).0.same.net in
        subst (λ (z : Net). Hold (machine q) (2 * longest z) us u (AreExactOf s)) net
        (reservations_are_exact q s us u c (hold_map (machine q) Steadied (IsSteady q s) (λ x g. g.1) 0 us u h)))
        (to_walls w) rs w calm steady

    -- ---- all together
    pub a_session_settles : Hold (machine q) (13 * long w + 13) rs w (HasSettledFor q s)
    a_session_settles =
        let k : ℕ = to_walls w + 2 * long w in
        let e : k ≡ 13 * long w + 13 = omega arith in
        subst (λ (z : ℕ). Hold (machine q) z rs w (HasSettledFor q s)) e
        (hold_map (machine q) (λ u. (Steadied u × AreExactOf s u) × HasNoFlowErrorOf s u) (HasSettledFor q s)
        (λ u h. settled_for q s u h.0.0.1 h.0.1 h.1) k rs w
        (hold_both (machine q) (λ u. Steadied u × AreExactOf s u) (HasNoFlowErrorOf s) k rs w
        (hold_both (machine q) Steadied (AreExactOf s) k rs w (hold_later (machine q) Steadied (to_walls w) k rs w (omega arith) steady) exact)
        (hold_later (machine q) (HasNoFlowErrorOf s) (to_errors w) k rs w (omega arith) no_errors)))

-- ---- where the demands fit, each session does
no_rows : (walls : Walls) → ((k : WallKey) → get walls k ≡ None) → size walls ≡ 0
no_rows walls none = by walls.rows refl
  where
    by : (rows : List (WallKey × Blockade)) → walls.rows ≡ rows → length walls.rows ≡ 0
    by [] e = ap length e
    by (x ∷ xs) e =
        let found = in_found wall_keys walls x.0 x.1 (subst (λ (z : List (WallKey × Blockade)). In x z) (sym e) (inl refl)) in let no : None ≡ Some x.1 = sym (none x.0) ∙ found in absurd (cc)

-- ---- a network in which each session has settled has settled
pub all_settled : (q : ℕ) (u : World) → IsSettledSoFar u → ((s : Session) → HasSettledFor q s u) → HasSettled q u
all_settled q u so_far each = record {
  paths_sound = so_far.0;
  paths_complete = so_far.1.0;
  resvs_sound = so_far.1.1;
  resvs_exact = λ st s h there. (each s).exact st h there;
  books = λ e f lt at. same_table entry_keys (book f (iface_of u.net.ends e)) (demand_of u.net (locals_of u) e) (λ k. (each k.session).entries e f lt at k refl);
  takes_all = λ t quiet y m f x arr spelt at asked. (each m.session).takes_all t quiet y m f x arr spelt refl at asked;
  no_flow_error = λ y m i spelt. (each m.session).no_flow_error y m i spelt refl;
  no_blockade = record { walls = λ n f at. no_rows f.walls (λ k. (each k.0).no_blockade n f at k.1) };
}

module _ (q : ℕ) (w : World) (rs : List (List Step)) (calm : Rounds (machine q) rs w) (start : IsStart q w) where
  fits : (s : Session) → SessionFits w.net (locals_of w) s
  fits = each_fits w.net (locals_of w) start.fit

  pub nothing_is_refused : Hold (machine q) (to_errors w) rs w (λ u. ((t : Step) → is_quiet t ≡ true → TakesAll q t u) × HasNoFlowError u)
  nothing_is_refused =
      hold_map (machine q) (λ u. (s : Session) → ((t : Step) → is_quiet t ≡ true → TakesAllOf s q t u) × HasNoFlowErrorOf s u) (λ u. ((t : Step) → is_quiet t ≡ true → TakesAll q t u) × HasNoFlowError u)
      (λ u h. (λ t quiet y m f x arr spelt at asked. (h m.session).0 t quiet y m f x arr spelt refl at asked, λ y m i spelt. (h m.session).1 y m i spelt refl)) (to_errors w) rs w
      (hold_all (machine q) (λ (s : Session) u. ((t : Step) → is_quiet t ≡ true → TakesAllOf s q t u) × HasNoFlowErrorOf s u) (to_errors w) rs w
      (λ s. nothing_of_it_is_refused q w rs calm start.bounds start.locals s (fits s)))

  pub a_network_settles : Hold (machine q) (13 * long w + 13) rs w (HasSettled q)
  a_network_settles =
      let k : ℕ = 13 * long w + 13 in
      hold_map (machine q) (λ u. IsSound q w rs calm start.bounds start.locals u × ((s : Session) → HasSettledFor q s u)) (HasSettled q) (λ u h. all_settled q u h.0.so_far h.1) k rs w
      (hold_both (machine q) (IsSound q w rs calm start.bounds start.locals) (λ u. (s : Session) → HasSettledFor q s u) k rs w
      (hold_later (machine q) (IsSound q w rs calm start.bounds start.locals) (to_resvs w) k rs w (omega arith) (all_sound q w rs calm start.bounds start.locals))
      (hold_all (machine q) (λ (s : Session) u. HasSettledFor q s u) k rs w (λ s. a_session_settles q w rs calm start.bounds start.locals s (fits s))))

-- ---- at a settled moment
pub run_then : (q : ℕ) (ss ts : List Step) (w : World) → run (machine q) (ss ++ ts) w ≡ run (machine q) ts (run (machine q) ss w)
run_then q [] ts w = refl
run_then q (s ∷ ss) ts w = run_then q ss ts (step q s w)

pub run_all : (q : ℕ) (rs : List (List Step)) (w : World) → run (machine q) (all_of rs) w ≡ run_rounds (machine q) rs w
run_all q [] w = refl
run_all q (r ∷ rs) w = run_then q r (all_of rs) w ∙ run_all q rs (run (machine q) r w)

-- what holds so many calm rounds on holds at a moment behind as many
pub at_the_end : (q : ℕ) (P : World → Type 0) (w : World) (ss : List Step) (is : IsSettled q w ss)
    → Hold (machine q) (13 * longest (run (machine q) is.before w).net + 13) is.rounds (run (machine q) is.before w) P → P (run (machine q) ss w)
at_the_end q P w ss is holds =
    let o : World = run (machine q) is.before w in
    let enough = is.enough in
    subst P (sym (ap (λ (z : List Step). run (machine q) z w) is.parts ∙ run_then q is.before (all_of is.rounds) w ∙ run_all q is.rounds o))
    (hold_end (machine q) P (13 * longest o.net + 13) is.rounds o (omega (arith, enough)) holds)

pub a_settled_moment : (q : ℕ) (w : World) (ss : List Step) (is : IsSettled q w ss) → IsStart q (run (machine q) is.before w) → HasSettled q (run (machine q) ss w)
a_settled_moment q w ss is start = at_the_end q (HasSettled q) w ss is (a_network_settles q (run (machine q) is.before w) is.rounds is.calm start)

pub a_settled_moment_of : (q : ℕ) (s : Session) (w : World) (ss : List Step) (is : IsSettled q w ss) → AreBounds q (run (machine q) is.before w) → AreHosts (run (machine q) is.before w)
    → SessionFits (run (machine q) is.before w).net (locals_of (run (machine q) is.before w)) s → HasSettledFor q s (run (machine q) ss w)
a_settled_moment_of q s w ss is bounds hosts fit = at_the_end q (HasSettledFor q s) w ss is (a_session_settles q (run (machine q) is.before w) is.rounds is.calm bounds hosts s fit)
