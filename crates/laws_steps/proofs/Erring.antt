-- Where blockades come from, and what an error leaves as it is.
use Rattle.std.specs.Prelude.{◌≡◌, ℕ, ◌+◌, ◌⊎◌, Bool, true, false, cond, ◌&&◌, is_some, Option, Some, None, refl}
use Rattle.std.proofs.Common.{sym, ap, ◌∙◌, inl, inr, ⊎_elim}
use Rattle.std.specs.List.{list_any}
use Rattle.std.specs.Option.{unwrap_or}
use Rattle.rsvp_base.specs.declared.addr.Addr.{Addr}
use Rattle.rsvp_base.specs.declared.session.Sender.{Sender}
use Rattle.rsvp_base.specs.declared.session.Session.{Session}
use Rattle.rsvp_base.specs.Members.{In}
use Rattle.rsvp_base.specs.Orders.{senders, sessions}
use Rattle.rsvp_base.specs.Table.{get, has, values}
use Rattle.rsvp_base.specs.TokenBucket.{TokenBucket}
use Rattle.rsvp_base.proofs.Members.{in_any}
use Rattle.rsvp_base.proofs.Tables.{same_table}
use Rattle.rsvp_base.proofs.UnderLaws.{get-under}
use Rattle.rsvp_messages.specs.declared.message.Message.{Message}
use Rattle.rsvp_messages.specs.declared.message.Message.TheVariants as message
use Rattle.rsvp_messages.specs.declared.message.ResvErrMsg.{ResvErrMsg}
use Rattle.laws_bounds.specs.RouterRules.Act.{act_spelt, is_mine}
use Rattle.laws_bounds.specs.RouterRules.Bounds.{IsWithinBounds}
use Rattle.laws_bounds.specs.RouterRules.Errors.{blockade_of, is_admission, walled_by, walls_after, walls_with}
use Rattle.laws_bounds.specs.RouterRules.Facts.{Blockade, Facts, paths_in}
use Rattle.style_rules.specs.Targets.{WallKey}
use Rattle.laws_bounds.specs.RouterRules.Forgetting.{counted}
use Rattle.laws_bounds.specs.RouterRules.Inputs.{Input, Call, Came, Clear, Moved, Spelt, Unspelt, Wait}
use Rattle.laws_bounds.specs.RouterRules.Known.{came_by}
use Rattle.laws_bounds.specs.RouterRules.NodeConfig.{NodeConfig, own, period}
use Rattle.laws_bounds.specs.FactLaws.{ComesBy}
use Rattle.laws_bounds.proofs.Leaving.{waiting_leaves_the_living}
use Rattle.laws_bounds.proofs.Lists.{in_values}
use Rattle.laws_bounds.proofs.Tests.{addr_told}
use Rattle.laws_bounds.proofs.Telling.{errors_and_walls}
use Rattle.laws_bounds.specs.Frames.{on_paths, on_resvs}
use Rattle.laws_bounds.specs.RouterRules.Steps.{facts_then, node_step}
use Rattle.laws_steps.proofs.Counting.{due_then}
use Rattle.laws_steps.proofs.Framing.{left_as_it_was}
use Rattle.laws_bounds.proofs.Keeping.{unset}
use Rattle.laws_steps.specs.ErrorLaws.{AnErrorChangesNoFact, IsBlockadeSet, WhereABlockadeComesFrom, only_goes_on}

-- ---- blockades
-- the error came from a hop, and set this one
record IsSetFrom (p : NodeConfig) (c e : ℕ) (m : ResvErrMsg) (f : Facts) (k : WallKey) (x : Blockade) : Type 0 where
  flow : TokenBucket
  from : (s : Sender) × ComesBy f m.session (e, m.hop.addr) s
  says : m.blame.flow ≡ Some flow
  admission : is_admission m.err ≡ true
  target : In k (walled_by e m m.blame.style)
  is : x ≡ blockade_of p c m flow

hop_of : (f : Facts) (e : ℕ) (m : ResvErrMsg) → list_any (came_by (e, m.hop.addr)) (values (paths_in f m.session)) ≡ true → (s : Sender) × ComesBy f m.session (e, m.hop.addr) s
hop_of f e m h =
    let one = in_any (came_by (e, m.hop.addr)) (values (paths_in f m.session)) h in
    let at = in_values senders (paths_in f m.session) one.0 one.1 in
    (at.0, record { path = one.0; there = sym (get-under sessions senders f.paths m.session at.0) ∙ at.1; by = one.2 })

set_by : (p : NodeConfig) (c e : ℕ) (m : ResvErrMsg) (f : Facts) (k : WallKey) (x : Blockade) (hop room : Bool) → list_any (came_by (e, m.hop.addr)) (values (paths_in f m.session)) ≡ hop
    → get (walls_after hop room (walls_with p c e m m.blame.flow f.walls) f.walls) k ≡ Some x → (get f.walls k ≡ Some x) ⊎ IsSetFrom p c e m f k x
set_by p c e m f k x false room is h = inl h
set_by p c e m f k x true false is h = inl h
set_by p c e m f k x true true is h =
    ⊎_elim (λ (old : get f.walls k ≡ Some x). inl old)
    (λ (new : (flow : TokenBucket) × (m.blame.flow ≡ Some flow) × (is_admission m.err ≡ true) × In k (walled_by e m m.blame.style) × (x ≡ blockade_of p c m flow)).
    inr (record { flow = new.0; from = hop_of f e m is; says = new.1; admission = new.2; target = new.3; is = new.4 }))
    (errors_and_walls.source p c e m f.walls k x h)

spelt_set : (p : NodeConfig) (c e : ℕ) (dst : Addr) (m : Message) (b : Bool) (f : Facts) (k : WallKey) (x : Blockade) → is_mine p e dst m ≡ b → get (act_spelt p c e m b f).facts.walls k ≡ Some x
    → (get f.walls k ≡ Some x) ⊎ IsBlockadeSet p c (Came e dst (Spelt m)) f k x
spelt_set p c e dst m false f k x is h = inl h
spelt_set p c e dst (message.ResvErr m) true f k x is h =
    ⊎_elim (λ (old : get f.walls k ≡ Some x). inl old)
    (λ (new : IsSetFrom p c e m f k x).
    let to : dst ≡ own p e = addr_told dst (own p e) is in
    inr (record {
      at = e;
      error = m;
      flow = new.flow;
      came = λ i. Came e (to i) (Spelt (message.ResvErr m));
      from = new.from;
      says = new.says;
      admission = new.admission;
      target = new.target;
      is = new.is;
    }))
    (set_by p c e m f k x _ _ refl h)
spelt_set p c e dst (message.Path m) true f k x is h = inl h
spelt_set p c e dst (message.Resv m) true f k x is h = inl h
spelt_set p c e dst (message.PathErr m) true f k x is h = inl h
spelt_set p c e dst (message.PathTear m) true f k x is h = inl h
spelt_set p c e dst (message.ResvTear m) true f k x is h = inl h
spelt_set p c e dst (message.ResvConf m) true f k x is h = inl h

blockade_source : (old p : NodeConfig) (c : ℕ) (i : Input) (f : Facts) (k : WallKey) (x : Blockade) → get (facts_then old p c i f).walls k ≡ Some x
    → (get f.walls k ≡ Some x) ⊎ IsBlockadeSet p c i f k x
blockade_source old p c (Call l) f k x h = inl h
blockade_source old p c (Wait ms word) f k x h = inl ((waiting_leaves_the_living.of_walls p c word f k x).0 h).0
blockade_source old p c Clear f k x h = absurd (cc)
blockade_source old p c Moved f k x h = inl h
blockade_source old p c (Came e dst (Unspelt m)) f k x h = inl h
blockade_source old p c (Came e dst (Spelt m)) f k x h = spelt_set p c e dst m (is_mine p e dst m) f k x refl h

pub where_a_blockade_comes_from : WhereABlockadeComesFrom
where_a_blockade_comes_from step within k x h = blockade_source step.old step.now step.after step.input step.facts k x h

-- ---- what an error leaves
-- it may change none of the other tables by itself
none_of : (e : ℕ) (dst : Addr) (m : Message) → only_goes_on m ≡ true → (on_paths (Came e dst (Spelt m)) ≡ false) × (on_resvs (Came e dst (Spelt m)) ≡ false)
none_of e dst (message.Path m) q = absurd (cc)
none_of e dst (message.Resv m) q = absurd (cc)
none_of e dst (message.PathErr m) q = (refl, refl)
none_of e dst (message.ResvErr m) q = (refl, refl)
none_of e dst (message.PathTear m) q = absurd (cc)
none_of e dst (message.ResvTear m) q = absurd (cc)
none_of e dst (message.ResvConf m) q = (refl, refl)

-- what a countdown of the session becomes
abbrev counts_to : ℕ → Facts → Session → Option ℕ
counts_to from f s = cond (has (counted f) s) (Some (unwrap_or (get f.due s) from)) None

acted : (p : NodeConfig) (c e : ℕ) (m : Message) (z : Bool) (f : Facts) (s : Session) → only_goes_on m ≡ true → counts_to (c + period p) (act_spelt p c e m z f).facts s ≡ counts_to (c + period p) f s
acted p c e m false f s q = refl
acted p c e (message.Path m) true f s q = absurd (cc)
acted p c e (message.Resv m) true f s q = absurd (cc)
acted p c e (message.PathErr m) true f s q = refl
acted p c e (message.ResvErr m) true f s q = refl
acted p c e (message.PathTear m) true f s q = absurd (cc)
acted p c e (message.ResvTear m) true f s q = absurd (cc)
acted p c e (message.ResvConf m) true f s q = refl

-- countdowns stand where they did: the same senders are known
error_due : (old p : NodeConfig) (b c e : ℕ) (dst : Addr) (m : Message) (f : Facts) → IsWithinBounds old b f → only_goes_on m ≡ true → (facts_then old p c (Came e dst (Spelt m)) f).due ≡ f.due
error_due old p b c e dst m f within q =
    same_table sessions _ _ (λ s. due_then old p c (Came e dst (Spelt m)) f s ∙ acted p c e m (is_mine p e dst m) f s q ∙ by s (has (counted f) s) (get f.due s) (within.due.counted s))
  where
    by : (s : Session) (z : Bool) (w : Option ℕ) → is_some w ≡ z → cond z (Some (unwrap_or w (c + period p))) None ≡ w
    by s true None e = absurd (cc)
    by s true (Some t) e = refl
    by s false None e = refl
    by s false (Some t) e = absurd (cc)

-- an error that sets no blockade
sets_none : (m : ResvErrMsg) → (m.blame.flow ≡ None) ⊎ (is_admission m.err ≡ false) → (is_admission m.err && is_some m.blame.flow) ≡ false
sets_none m h = ⊎_elim (λ (n : m.blame.flow ≡ None). ap (λ (w : Option TokenBucket). is_admission m.err && is_some w) n ∙ off (is_admission m.err))
    (λ (n : is_admission m.err ≡ false). ap (λ b. b && is_some m.blame.flow) n) h
  where
    off : (b : Bool) → (b && false) ≡ false
    off true = refl
    off false = refl

error_walls : (p : NodeConfig) (c e : ℕ) (m : ResvErrMsg) (f : Facts) (b : Bool) → (m.blame.flow ≡ None) ⊎ (is_admission m.err ≡ false)
    → (act_spelt p c e (message.ResvErr m) b f).facts.walls ≡ f.walls
error_walls p c e m f false h = refl
error_walls p c e m f true h = by _ _
  where
    by : (hop room : Bool) → walls_after hop room (walls_with p c e m m.blame.flow f.walls) f.walls ≡ f.walls
    by true true = unset p c e m m.blame.flow f.walls (sets_none m h)
    by true false = refl
    by false room = refl

pub an_error_changes_no_fact : AnErrorChangesNoFact
an_error_changes_no_fact =
    record {
      senders = λ old p b c e dst m f within q. left_as_it_was.senders (node_step old p c c (Came e dst (Spelt m)) f) refl;
      paths = λ old p b c e dst m f within q. left_as_it_was.paths (node_step old p c c (Came e dst (Spelt m)) f) (none_of e dst m q).0;
      resvs = λ old p b c e dst m f within q. left_as_it_was.resvs_whole (node_step old p b c (Came e dst (Spelt m)) f) within (none_of e dst m q).1 refl (none_of e dst m q).0;
      wants = λ old p b c e dst m f within q. left_as_it_was.wants (node_step old p c c (Came e dst (Spelt m)) f) refl;
      due = λ old p b c e dst m f within q. error_due old p b c e dst m f within q;
      walls = λ old p b c e dst m f within h. error_walls p c e m f (is_mine p e dst (message.ResvErr m)) h;
      path_err = λ old p b c e dst m f within. left_as_it_was.walls (node_step old p c c (Came e dst (Spelt (message.PathErr m))) f) refl;
    }
