-- What is in flight behind so many calm rounds, all together.
use Rattle.std.proofs.Common.{◌≡◌, ◌⊎◌, ℕ, suc, ◌+◌, ◌*◌, ◌≤◌, List, length, Bool, Option, None, Some, inl, inr, ⊎_elim, arith, sym, refl, ap, subst, ◌∙◌}
use Rattle.std.specs.Prelude.{is_some}
use Rattle.rsvp_base.specs.declared.session.Session.{Session}
use Rattle.rsvp_base.specs.declared.style.StyleKind.{StyleKind}
use Rattle.rsvp_base.specs.declared.style.StyleKind.TheVariants.{Wild, Fixed, Shared}
use Rattle.rsvp_base.specs.Members.{In}
use Rattle.rsvp_base.specs.Orders.{Names}
use Rattle.rsvp_messages.specs.declared.message.Message.{Message}
use Rattle.rsvp_messages.specs.declared.message.Message.TheVariants as message
use Rattle.rsvp_messages.specs.declared.message.PathErrMsg.{PathErrMsg}
use Rattle.rsvp_messages.specs.declared.message.PathMsg.{PathMsg}
use Rattle.rsvp_messages.specs.declared.message.ResvConfMsg.{ResvConfMsg}
use Rattle.rsvp_messages.specs.declared.message.ResvErrMsg.{ResvErrMsg}
use Rattle.rsvp_messages.specs.declared.message.ResvMsg.{ResvMsg}
use Rattle.calm_rounds.specs.Hold.{Hold}
use Rattle.calm_rounds.specs.Rounds.{Rounds, run_rounds}
use Rattle.calm_rounds.proofs.Holding.{hold_all, hold_both, hold_end, hold_keep, hold_later, hold_map, hold_stack}
use Rattle.router_rules.specs.Inputs.{Spelt}
use Rattle.tree_model.specs.Ranks.{longest}
use Rattle.network_model.specs.Bounds.{AreBounds, IsStart}
use Rattle.network_model.specs.Locals.{locals_of}
use Rattle.network_model.specs.Steps.{Step, machine}
use Rattle.network_model.specs.Worlds.{Item, World}
use Rattle.network_model.proofs.Changing.{what_is_sent_is_copied}
use Rattle.network_model.proofs.Machines.{quiet_of}
use Rattle.settle_paths.proofs.Keeping.{calm_rounds_keep_bounds}
use Rattle.settle_resvs.proofs.Accepting.{fits_again, locals_again}
use Rattle.settle_resvs.proofs.GoalByIface.{each_fits}
use Rattle.settle_network.proofs.Settled.{IsSound, all_sound}
use Rattle.settle_refreshes.specs.Refreshes.{HasNoErrorForAll, HasNothingElse, HasOneSender, HasOnlyRefreshes, IsConfirmation, IsErrorForAll, IsRefresh, MayGoRound, NobodyWaits, NothingGoesRound}
use Rattle.settle_refreshes.proofs.Fading.{all_in_a_round}
use Rattle.settle_refreshes.proofs.Going.{AreSpelt, IsAllReady}
use Rattle.settle_refreshes.proofs.OneSender.{HasNoneOf, IsCalm, answers_of_one_go}
use Rattle.settle_refreshes.proofs.PathErrors.{HasNoPathErr, path_errors_go}
use Rattle.settle_refreshes.proofs.ResvErrors.{HasNoNamedErr, IsNamed, named_errors_go}
use Rattle.settle_refreshes.proofs.Resting.{IsAnswer, IsAtRest, at_rest, calm_sends, ready}
use Rattle.settle_refreshes.proofs.Waiting.{no_conf_sent, no_error_for_all_then, nobody_waits_then}

-- what names nobody, and is not of a wildcard filter, is for all
named_or_for_all : (m : ResvErrMsg) → IsNamed m ⊎ ((m.blame.senders ≡ None) × (m.blame.style ≡ Wild → ⊥))
named_or_for_all m = by m.blame.senders refl m.blame.style refl
  where
    by : (listed : Option Names) → m.blame.senders ≡ listed → (st : StyleKind) → m.blame.style ≡ st → IsNamed m ⊎ ((m.blame.senders ≡ None) × (m.blame.style ≡ Wild → ⊥))
    by (Some names) e st d = inl (inl (ap (λ (z : Option Names). is_some z) e))
    by None e Wild d = inl (inr d)
    by None e Fixed d = inr (e, λ wild. let no : Fixed ≡ Wild = sym d ∙ wild in cc)
    by None e Shared d = inr (e, λ wild. let no : Shared ≡ Wild = sym d ∙ wild in cc)

-- a refresh is a message of its own
no_conf : (y : Item) (m : ResvConfMsg) → IsRefresh y → y.arrival ≡ Spelt (message.ResvConf m) → ⊥
no_conf y m x e =
    ⊎_elim (λ (z : (p : PathMsg) × (y.arrival ≡ Spelt (message.Path p))). let no : Spelt (message.Path z.0) ≡ Spelt (message.ResvConf m) = sym z.1 ∙ e in cc)
    (λ (z : (r : ResvMsg) × (y.arrival ≡ Spelt (message.Resv r)) × (r.confirm ≡ None)). let no : Spelt (message.Resv z.0) ≡ Spelt (message.ResvConf m) = sym z.1 ∙ e in cc) x

asks_not : (y : Item) (m : ResvMsg) → IsRefresh y → y.arrival ≡ Spelt (message.Resv m) → m.confirm ≡ None
asks_not y m x e =
    ⊎_elim (λ (z : (p : PathMsg) × (y.arrival ≡ Spelt (message.Path p))). let no : Spelt (message.Path z.0) ≡ Spelt (message.Resv m) = sym z.1 ∙ e in absurd (cc))
    (λ (z : (r : ResvMsg) × (y.arrival ≡ Spelt (message.Resv r)) × (r.confirm ≡ None)).
    let is : Spelt (message.Resv z.0) ≡ Spelt (message.Resv m) = sym z.1 ∙ e in
    let same : z.0 ≡ m = cc in
    ap (λ (v : ResvMsg). v.confirm) (sym same) ∙ z.2) x

no_answer_asks : (y : Item) (m : ResvMsg) → IsAnswer y → y.arrival ≡ Spelt (message.Resv m) → ⊥
no_answer_asks y m x e =
    ⊎_elim (λ (z : (p : PathErrMsg) × (y.arrival ≡ Spelt (message.PathErr p))). let no : Spelt (message.PathErr z.0) ≡ Spelt (message.Resv m) = sym z.1 ∙ e in cc)
    (λ k.
    ⊎_elim (λ (z : (p : ResvErrMsg) × (y.arrival ≡ Spelt (message.ResvErr p))). let no : Spelt (message.ResvErr z.0) ≡ Spelt (message.Resv m) = sym z.1 ∙ e in cc)
    (λ (z : (p : ResvConfMsg) × (y.arrival ≡ Spelt (message.ResvConf p))). let no : Spelt (message.ResvConf z.0) ≡ Spelt (message.Resv m) = sym z.1 ∙ e in cc) k) x

module _ (q : ℕ) (w : World) (rs : List (List Step)) (calm : Rounds (machine q) rs w) (start : IsStart q w) where
  abbrev long : ℕ
  long = longest w.net

  abbrev to_ready : ℕ
  to_ready = (4 + 5 * long) + (5 + 5 * long)

  abbrev to_rest : ℕ
  to_rest = 13 * long + 13

  bounds : Hold (machine q) 0 rs w (AreBounds q)
  bounds = calm_rounds_keep_bounds q w rs calm start.bounds

  -- what spells no message is gone in a round
  spelt : Hold (machine q) 1 rs w AreSpelt
  spelt =
      all_in_a_round q (AreBounds q) (λ y. (m : Message) × (y.arrival ≡ Spelt m)) (λ u h. h)
      (λ s u quiet a a' y b i. let copied = (what_is_sent_is_copied q s u (y, b)).0 i in (copied.send.message, ap (λ (z : Item × Bool). z.0.arrival) copied.is)) rs w calm bounds

  all_ready : Hold (machine q) to_ready rs w (IsAllReady q w)
  all_ready =
      let fits = each_fits w.net (locals_of w) start.fit in
      hold_map (machine q) (λ u. IsSound q w rs calm start.bounds start.locals u × AreSpelt u) (IsAllReady q w)
      (λ u h. record {
        known = h.0.known;
        ready = λ s.
            record {
              bounds = h.0.known.bounds;
              locals = locals_again w u h.0.known.same start.locals;
              fit = fits_again s w u h.0.known.same (fits s);
              sound = h.0.so_far.0;
              complete = h.0.so_far.1.0;
              resvs = h.0.so_far.1.1;
            };
        spelt = h.1;
      }) to_ready rs w
      (hold_both (machine q) (IsSound q w rs calm start.bounds start.locals) AreSpelt to_ready rs w (all_sound q w rs calm start.bounds start.locals)
      (hold_later (machine q) AreSpelt 1 to_ready rs w (omega arith) spelt))

  no_path_err : Hold (machine q) (to_ready + suc long) rs w HasNoPathErr
  no_path_err = hold_stack (machine q) (IsAllReady q w) HasNoPathErr (suc long) (λ us u c h. path_errors_go q w u us c h) to_ready rs w calm all_ready

  no_named_err : Hold (machine q) (to_ready + suc long) rs w HasNoNamedErr
  no_named_err = hold_stack (machine q) (IsAllReady q w) HasNoNamedErr (suc long) (λ us u c h. named_errors_go q w u us c h) to_ready rs w calm all_ready

  -- and one round behind a settled moment there are refreshes and answers alone
  abbrev AreAnswers : World → Type 0
  AreAnswers u = (y : Item) → In y u.flight → IsRefresh y ⊎ IsAnswer y

  answers : Hold (machine q) (to_rest + 1) rs w AreAnswers
  answers =
      hold_stack (machine q) (IsAtRest q w) AreAnswers 1
      (λ us u c h. all_in_a_round q (IsAtRest q w) (λ y. IsRefresh y ⊎ IsAnswer y) (λ v a. (ready q w v a).bounds) (λ s v quiet a a' y b i. calm_sends q w v s quiet a a' y b i) us u c h)
      to_rest rs w calm (at_rest q w rs calm start)

  else_gone : (u : World) → AreAnswers u → HasNoPathErr u → HasNoNamedErr u → HasNothingElse u
  else_gone u all no_path no_named y i =
      ⊎_elim (λ (x : IsRefresh y). inl x)
      (λ (x : IsAnswer y).
      ⊎_elim (λ (z : (m : PathErrMsg) × (y.arrival ≡ Spelt (message.PathErr m))). absurd (no_path y z.0 i z.1))
      (λ k.
      ⊎_elim
      (λ (z : (m : ResvErrMsg) × (y.arrival ≡ Spelt (message.ResvErr m))).
      ⊎_elim (λ (named : IsNamed z.0). absurd (no_named y z.0 i z.1 named))
      (λ (all : (z.0.blame.senders ≡ None) × (z.0.blame.style ≡ Wild → ⊥)). inr (z.0.session, inl (z.0, z.1, refl, all)))
      (named_or_for_all z.0))
      (λ (z : (m : ResvConfMsg) × (y.arrival ≡ Spelt (message.ResvConf m))). inr (z.0.session, inr (z.0, z.1, refl))) k) x)
      (all y i)

  pub nothing_else : Hold (machine q) (13 * longest w.net + 14) rs w HasNothingElse
  nothing_else =
      let k : ℕ = 13 * long + 14 in
      let here : to_rest + 1 ≡ k = omega arith in
      hold_map (machine q) (λ u. AreAnswers u × (HasNoPathErr u × HasNoNamedErr u)) HasNothingElse (λ u h. else_gone u h.0 h.1.0 h.1.1) k rs w
      (hold_both (machine q) AreAnswers (λ u. HasNoPathErr u × HasNoNamedErr u) k rs w (subst (λ (z : ℕ). Hold (machine q) z rs w AreAnswers) here answers)
      (hold_both (machine q) HasNoPathErr HasNoNamedErr k rs w (hold_later (machine q) HasNoPathErr (to_ready + suc long) k rs w (omega arith) no_path_err)
      (hold_later (machine q) HasNoNamedErr (to_ready + suc long) k rs w (omega arith) no_named_err)))

  -- ---- where nothing goes round
  abbrev to_end : ℕ
  to_end = 14 * long + 15

  -- nothing asks to be confirmed any more
  calmed : Hold (machine q) (to_rest + 1) rs w (IsCalm q w)
  calmed =
      hold_map (machine q) (λ u. IsAllReady q w u × AreAnswers u) (IsCalm q w)
      (λ u h. record {
        all = h.0;
        asks = λ y m i e. ⊎_elim (λ (x : IsRefresh y). asks_not y m x e) (λ (x : IsAnswer y). absurd (no_answer_asks y m x e)) (h.1 y i);
      }) (to_rest + 1) rs w
      (hold_both (machine q) (IsAllReady q w) AreAnswers (to_rest + 1) rs w (hold_later (machine q) (IsAllReady q w) to_ready (to_rest + 1) rs w (omega arith) all_ready) answers)

  none_of_one : (s : Session) → HasOneSender w s → Hold (machine q) to_end rs w (HasNoneOf s)
  none_of_one s one =
      let here : to_rest + 1 + suc long ≡ to_end = omega arith in
      subst (λ (z : ℕ). Hold (machine q) z rs w (HasNoneOf s)) here
      (hold_stack (machine q) (IsCalm q w) (HasNoneOf s) (suc long) (λ us u c h. answers_of_one_go q w s one u us c h) (to_rest + 1) rs w calm calmed)

  abbrev NoErrorOf : Session → World → Type 0
  NoErrorOf s u = (y : Item) → In y u.flight → IsErrorForAll s y → ⊥

  abbrev NoConfOf : Session → World → Type 0
  NoConfOf s u = (y : Item) → In y u.flight → IsConfirmation s y → ⊥

  no_error_for_all : (s : Session) → HasNoErrorForAll w s → Hold (machine q) 0 rs w (λ u. HasNoErrorForAll u s)
  no_error_for_all s none =
      hold_keep (machine q) (AreBounds q) (λ u. HasNoErrorForAll u s) (λ t u quiet a a' j. no_error_for_all_then q s t u (quiet_of q t quiet) j a') rs w calm bounds none

  errors_of : (s : Session) → HasOneSender w s ⊎ HasNoErrorForAll w s → Hold (machine q) to_end rs w (NoErrorOf s)
  errors_of s h =
      ⊎_elim
      (λ (one : HasOneSender w s). hold_map (machine q) (HasNoneOf s) (NoErrorOf s) (λ u g y i e. g y i (inl (e.0, e.1, e.2))) to_end rs w (none_of_one s one))
      (λ (none : HasNoErrorForAll w s).
      hold_map (machine q) (λ u. HasNoErrorForAll u s) (NoErrorOf s) (λ u g y i e. (g y i).0 e) to_end rs w
      (hold_later (machine q) (λ u. HasNoErrorForAll u s) 0 to_end rs w (omega arith) (no_error_for_all s none))) h

  nobody_waits : NobodyWaits w → Hold (machine q) 0 rs w NobodyWaits
  nobody_waits none = hold_keep (machine q) (AreBounds q) NobodyWaits (λ t u quiet a a' j. nobody_waits_then q t u (quiet_of q t quiet) j) rs w calm bounds none

  abbrev NoConf : World → Type 0
  NoConf u = (y : Item) → In y u.flight → (m : ResvConfMsg) → y.arrival ≡ Spelt (message.ResvConf m) → ⊥

  none_confirmed : NobodyWaits w → Hold (machine q) 1 rs w NoConf
  none_confirmed none =
      all_in_a_round q (λ u. AreBounds q u × NobodyWaits u) (λ y. (m : ResvConfMsg) → y.arrival ≡ Spelt (message.ResvConf m) → ⊥) (λ u h. h.0)
      (λ t u quiet a a' y b i m e. no_conf_sent q t u quiet a.1 y b m i e) rs w calm (hold_both (machine q) (AreBounds q) NobodyWaits 0 rs w bounds (nobody_waits none))

  confs_of : (s : Session) → ((t : Session) → HasOneSender w t) ⊎ NobodyWaits w → Hold (machine q) to_end rs w (NoConfOf s)
  confs_of s h =
      ⊎_elim
      (λ (one : (t : Session) → HasOneSender w t). hold_map (machine q) (HasNoneOf s) (NoConfOf s) (λ u g y i e. g y i (inr e)) to_end rs w (none_of_one s (one s)))
      (λ (none : NobodyWaits w).
      hold_map (machine q) NoConf (NoConfOf s) (λ u g y i e. g y i e.0 e.1) to_end rs w (hold_later (machine q) NoConf 1 to_end rs w (omega arith) (none_confirmed none))) h

  module _ (none : NothingGoesRound w) where
    pub only_refreshes : Hold (machine q) (14 * longest w.net + 15) rs w HasOnlyRefreshes
    only_refreshes =
        hold_map (machine q) (λ u. HasNothingElse u × ((s : Session) → NoErrorOf s u × NoConfOf s u)) HasOnlyRefreshes
        (λ u h y i.
        ⊎_elim (λ (x : IsRefresh y). x)
        (λ (x : MayGoRound y). absurd (⊎_elim (λ (e : IsErrorForAll x.0 y). (h.1 x.0).0 y i e) (λ (e : IsConfirmation x.0 y). (h.1 x.0).1 y i e) x.1)) (h.0 y i)) to_end rs w
        (hold_both (machine q) HasNothingElse (λ u. (s : Session) → NoErrorOf s u × NoConfOf s u) to_end rs w
        (hold_later (machine q) HasNothingElse (13 * longest w.net + 14) to_end rs w (omega arith) nothing_else)
        (hold_all (machine q) (λ (s : Session) u. NoErrorOf s u × NoConfOf s u) to_end rs w
        (λ s. hold_both (machine q) (NoErrorOf s) (NoConfOf s) to_end rs w (errors_of s (none.errors s)) (confs_of s none.confirmations))))

    pub ends_in_refreshes : 14 * longest w.net + 15 ≤ length rs → HasOnlyRefreshes (run_rounds (machine q) rs w)
    ends_in_refreshes enough = hold_end (machine q) HasOnlyRefreshes (14 * longest w.net + 15) rs w enough only_refreshes
