-- A step keeps a node within bounds.
use Rattle.std.specs.Prelude.{◌≡◌, ℕ, ◌+◌, ◌*◌, ◌%◌, ◌≤◌, ◌<◌, ◌⊎◌, nat_le, Bool, true, false, cond, not, ◌&&◌, ◌||◌, map as each, length, is_some, Option, Some, None, refl}
use Rattle.std.proofs.Common.{sym, ap, subst, ◌∙◌, inl, inr, ⊎_elim, arith}
use Rattle.std.proofs.lemmas.Bool.{leb-true, leb-false}
use Rattle.std.proofs.lemmas.Nat.{mod_below}
use Rattle.std.specs.Option.{unwrap_or}
use Rattle.rsvp_base.specs.declared.session.Sender.{Sender}
use Rattle.rsvp_base.specs.declared.session.Session.{Session}
use Rattle.rsvp_base.specs.declared.style.StyleKind.{StyleKind}
use Rattle.rsvp_base.specs.declared.style.StyleKind.TheVariants.{Wild, Fixed, Shared}
use Rattle.rsvp_base.specs.Keys.{Keys, pairs}
use Rattle.rsvp_base.specs.Members.{In}
use Rattle.rsvp_base.specs.Orders.{Names, senders, sessions}
use Rattle.rsvp_base.specs.SessionLimits.{IsWithinSessionLimits, has_room_at}
use Rattle.rsvp_base.specs.Table.{Table, empty, get, has, put_in, size, with_rows, without}
use Rattle.rsvp_base.specs.TokenBucket.{TokenBucket, IsSound}
use Rattle.rsvp_base.proofs.Counts.{size_below}
use Rattle.rsvp_base.proofs.Members.{in_each}
use Rattle.rsvp_base.proofs.SessionRoom.{fewer_within, put_room}
use Rattle.rsvp_base.proofs.Tables.{get-changed, then_do, got_without}
use Rattle.rsvp_messages.specs.declared.message.Message.{Message}
use Rattle.rsvp_messages.specs.declared.message.Message.TheVariants as message
use Rattle.rsvp_messages.specs.declared.message.PathMsg.{PathMsg}
use Rattle.rsvp_messages.specs.declared.message.PathTearMsg.{PathTearMsg}
use Rattle.rsvp_messages.specs.declared.message.ResvErrMsg.{ResvErrMsg}
use Rattle.rsvp_messages.specs.Proper.{AreBothOrNeither, IsProper, IsProperBlameOf, WhereThere}
use Rattle.rsvp_messages.specs.RsvpObjects.AdspecLaws.{IsAdspec}
use Rattle.style_rules.specs.declared.target.Target.TheVariants as target
use Rattle.router_rules.specs.Act.{act, act_spelt, is_mine}
use Rattle.router_rules.specs.Bounds.{AreDue, IsTarget, LivesUpTo}
use Rattle.router_rules.specs.Errors.{blamed_senders, blockade_of, is_admission, walled_by, walls_after, walls_with}
use Rattle.router_rules.specs.Facts.{Blockade, Facts, PathState, Paths, SenderKey, Walls, sender_keys}
use Rattle.style_rules.specs.Targets.{WallKey, wall_keys}
use Rattle.router_rules.specs.Forgetting.{counted, settle}
use Rattle.router_rules.specs.Inputs.{Input, Call, Wait, Clear, Came, Moved, Spelt, Unspelt}
use Rattle.router_rules.specs.Paths.{is_path_by, learn, learn_inward, learnt, path_state, tear_path, torn_path}
use Rattle.router_rules.specs.NodeConfig.{NodeConfig, comes_in, period, wall_lifetime}
use Rattle.router_rules.specs.Waiting.{next_due}
use Rattle.laws_bounds.proofs.Leaving.{countdowns_settle, waiting_leaves_the_living}
use Rattle.laws_bounds.proofs.Lists.{some_is, some_same}
use Rattle.laws_bounds.proofs.Telling.{errors_and_walls}
use Rattle.laws_bounds.specs.Sources.{CameOnTree}
use Rattle.router_rules.specs.Steps.{IsFit, clock_after, facts_then}
use Rattle.laws_bounds.proofs.Stepping.{quiet_due, stands_settled}

-- ---- paths
-- what stands after an input lives longer than its clock
pub paths_outlive : (p : NodeConfig) (b : ℕ) (i : Input) (f : Facts) (k : SenderKey) (x : PathState) → get (act p (clock_after b i) i f).facts.paths k ≡ Some x → b < x.dies → clock_after b i < x.dies
paths_outlive p b (Call l) f k x e lives = lives
paths_outlive p b (Wait ms word) f k x e lives = ((waiting_leaves_the_living.of_paths p (b + ms) word f k x).0 e).1
paths_outlive p b Clear f k x e lives = lives
paths_outlive p b (Came at dst a) f k x e lives = lives
paths_outlive p b Moved f k x e lives = lives

pub walls_outlive : (p : NodeConfig) (b : ℕ) (i : Input) (f : Facts) (k : WallKey) (x : Blockade) → get (act p (clock_after b i) i f).facts.walls k ≡ Some x → b < x.dies → clock_after b i < x.dies
walls_outlive p b (Call l) f k x e lives = lives
walls_outlive p b (Wait ms word) f k x e lives = ((waiting_leaves_the_living.of_walls p (b + ms) word f k x).0 e).1
walls_outlive p b Clear f k x e lives = lives
walls_outlive p b (Came at dst a) f k x e lives = lives
walls_outlive p b Moved f k x e lives = lives

pub time_passes : (b : ℕ) (i : Input) → b ≤ clock_after b i
time_passes b (Call l) = omega arith
time_passes b (Wait ms word) = omega arith
time_passes b Clear = omega arith
time_passes b (Came at dst a) = omega arith
time_passes b Moved = omega arith

-- what was there lives on up to its bound
pub lives_on : (b c life dies : ℕ) → b ≤ c → LivesUpTo b life dies → c < dies → LivesUpTo c life dies
lives_on b c life dies later l h = let soon = l.soon in record { later = h; soon = omega (arith, later, soon) }

-- a Path that came
pub path_fits : (p : NodeConfig) (i : Input) (k : SenderKey) (by : CameOnTree p i k) → IsFit p i → (by.at < length p.ifaces) × (IsSound by.tspec × WhereThere IsAdspec by.path.adspec)
path_fits p i k by fit =
    let came : IsFit p (Came by.at k.0.group (Spelt (message.Path by.path))) = subst (IsFit p) by.came fit in
    (came.0, (subst (WhereThere (λ (e : Sender × TokenBucket). IsSound e.1)) by.sender came.1.0, came.1.1))

-- the table of paths within its limits
learnt_within : (t new : Paths) (s : Session) (b : Bool) → has_room_at senders new s ≡ b → (has_room_at senders new s ≡ true → IsWithinSessionLimits senders new) → IsWithinSessionLimits senders t
    → IsWithinSessionLimits senders (learnt b new t).0
learnt_within t new s true r room w = room r
learnt_within t new s false r room w = w

learn_within : (p : NodeConfig) (c e : ℕ) (m : PathMsg) (o : Option (Sender × TokenBucket)) (t : Paths) → IsWithinSessionLimits senders t → IsWithinSessionLimits senders (learn p c e m o t).0
learn_within p c e m None t w = w
learn_within p c e m (Some s) t w = by (comes_in p m.session e s.0)
  where
    by : (b : Bool) → IsWithinSessionLimits senders (learn_inward p c e m s.0 s.1 b t).0
    by false = w
    by true =
        learnt_within t (put_in t (m.session, s.0) (path_state p c e m s.1)) m.session (has_room_at senders (put_in t (m.session, s.0) (path_state p c e m s.1)) m.session) refl
        ((put_room senders t (m.session, s.0) (path_state p c e m s.1) w).0) w

-- fewer rows, by look-up
pub fewer_rows : {B X : Type 0} (o : Keys B) (m n : Table (pairs sessions o) X) → ((k : Session × B) (x : X) → get n k ≡ Some x → get m k ≡ Some x) → IsWithinSessionLimits o m
    → IsWithinSessionLimits o n
fewer_rows o m n less w = fewer_within o m n (λ k h. let x = some_is (get n k) h in ap is_some (less k x.0 x.1)) w

tear_within : (e : ℕ) (m : PathTearMsg) (o : Option Sender) (t : Paths) → IsWithinSessionLimits senders t → IsWithinSessionLimits senders (tear_path e m o t).0
tear_within e m None t w = w
tear_within e m (Some s) t w = by (is_path_by (e, m.hop.addr) (get t (m.session, s)))
  where
    by : (b : Bool) → IsWithinSessionLimits senders (torn_path b (m.session, s) t).0
    by false = w
    by true = fewer_rows senders t (without t (m.session, s)) (λ k x h. got_without sender_keys t (m.session, s) k x h) w

spelt_paths_within : (p : NodeConfig) (c e : ℕ) (m : Message) (b : Bool) (f : Facts) → IsWithinSessionLimits senders f.paths → IsWithinSessionLimits senders (act_spelt p c e m b f).facts.paths
spelt_paths_within p c e m false f w = w
spelt_paths_within p c e (message.Path m) true f w = learn_within p c e m m.sender f.paths w
spelt_paths_within p c e (message.PathTear m) true f w = tear_within e m m.sender f.paths w
spelt_paths_within p c e (message.Resv m) true f w = w
spelt_paths_within p c e (message.PathErr m) true f w = w
spelt_paths_within p c e (message.ResvErr m) true f w = w
spelt_paths_within p c e (message.ResvTear m) true f w = w
spelt_paths_within p c e (message.ResvConf m) true f w = w

pub paths_within : (p : NodeConfig) (c : ℕ) (i : Input) (f : Facts) → IsWithinSessionLimits senders f.paths → IsWithinSessionLimits senders (act p c i f).facts.paths
paths_within p c (Call l) f w = w
paths_within p c (Wait ms word) f w = fewer_rows senders f.paths (act p c (Wait ms word) f).facts.paths (λ k x h. ((waiting_leaves_the_living.of_paths p c word f k x).0 h).0) w
paths_within p c Clear f w = fewer_rows senders f.paths empty (λ k x h. absurd (cc)) w
paths_within p c Moved f w = w
paths_within p c (Came e dst (Unspelt m)) f w = w
paths_within p c (Came e dst (Spelt m)) f w = spelt_paths_within p c e m (is_mine p e dst m) f w

-- ---- blockades
pub record IsSet (p : NodeConfig) (c : ℕ) (k : WallKey) (x : Blockade) : Type 0 where
  pub target : IsTarget p k.1
  pub flow : IsSound x.wall.flow
  pub dies : x.dies ≡ c + wall_lifetime p

-- a target that an error blockades is behind the interface by which it came, or a sender
walled_target : (p : NodeConfig) (e : ℕ) (m : ResvErrMsg) (st : StyleKind) (k : WallKey) → e < length p.ifaces → In k (walled_by e m st) → IsTarget p k.1
walled_target p e m Wild k inside i = ⊎_elim (λ (is : k ≡ (m.session, target.Hop e m.hop.addr)). subst (λ (z : WallKey). IsTarget p z.1) (sym is) inside) (λ (n : ⊥). absurd n) i
walled_target p e m Fixed k inside i = let r = in_each (λ (x : Sender). (m.session, target.Sender x)) k (blamed_senders m.blame.senders) i in subst (λ (z : WallKey). IsTarget p z.1) (sym r.2) tt
walled_target p e m Shared k inside i = let r = in_each (λ (x : Sender). (m.session, target.Sender x)) k (blamed_senders m.blame.senders) i in subst (λ (z : WallKey). IsTarget p z.1) (sym r.2) tt

both_sound : (P : Names → Type 0) (names : Option Names) (flow : TokenBucket) → AreBothOrNeither P names (Some flow) → IsSound flow
both_sound P None flow h = absurd h
both_sound P (Some names) flow h = h.1

blame_sound : (st : StyleKind) (names : Option Names) (flow : TokenBucket) → IsProperBlameOf st names (Some flow) → IsSound flow
blame_sound Wild names flow h = h.1
blame_sound Fixed names flow h = both_sound _ names flow h
blame_sound Shared names flow h = both_sound _ names flow h

walls_set : (p : NodeConfig) (c e : ℕ) (m : ResvErrMsg) (w : Walls) (k : WallKey) (x : Blockade) → e < length p.ifaces → IsProper (message.ResvErr m)
    → get (walls_with p c e m m.blame.flow w) k ≡ Some x → (get w k ≡ Some x) ⊎ IsSet p c k x
walls_set p c e m w k x inside proper h =
    ⊎_elim (λ (old : get w k ≡ Some x). inl old)
    (λ (new : (flow : TokenBucket) × (m.blame.flow ≡ Some flow) × (is_admission m.err ≡ true) × In k (walled_by e m m.blame.style) × (x ≡ blockade_of p c m flow)).
    inr (record {
      target = walled_target p e m m.blame.style k inside new.3;
      flow = subst IsSound (ap (λ (z : Blockade). z.wall.flow) (sym new.4)) (blame_sound m.blame.style m.blame.senders new.0 (subst (IsProperBlameOf m.blame.style m.blame.senders) new.1 proper));
      dies = ap (λ (z : Blockade). z.dies) new.4;
    }))
    (errors_and_walls.source p c e m w k x h)

after_walls : (hop room : Bool) (new old : Walls) (k : WallKey) (x : Blockade) → get (walls_after hop room new old) k ≡ Some x → (get new k ≡ Some x) ⊎ (get old k ≡ Some x)
after_walls true true new old k x h = inl h
after_walls true false new old k x h = inr h
after_walls false room new old k x h = inr h

spelt_walls_set : (p : NodeConfig) (c e : ℕ) (m : Message) (b : Bool) (f : Facts) (k : WallKey) (x : Blockade) → e < length p.ifaces → IsProper m → get (act_spelt p c e m b f).facts.walls k ≡ Some x
    → (get f.walls k ≡ Some x) ⊎ IsSet p c k x
spelt_walls_set p c e m false f k x inside proper h = inl h
spelt_walls_set p c e (message.ResvErr m) true f k x inside proper h =
    ⊎_elim (λ (new : get (walls_with p c e m m.blame.flow f.walls) k ≡ Some x). walls_set p c e m f.walls k x inside proper new) (λ (old : get f.walls k ≡ Some x). inl old)
    (after_walls _ _ (walls_with p c e m m.blame.flow f.walls) f.walls k x h)
spelt_walls_set p c e (message.Path m) true f k x inside proper h = inl h
spelt_walls_set p c e (message.Resv m) true f k x inside proper h = inl h
spelt_walls_set p c e (message.PathErr m) true f k x inside proper h = inl h
spelt_walls_set p c e (message.PathTear m) true f k x inside proper h = inl h
spelt_walls_set p c e (message.ResvTear m) true f k x inside proper h = inl h
spelt_walls_set p c e (message.ResvConf m) true f k x inside proper h = inl h

pub walls_source : (p : NodeConfig) (c : ℕ) (i : Input) (f : Facts) (k : WallKey) (x : Blockade) → IsFit p i → get (act p c i f).facts.walls k ≡ Some x → (get f.walls k ≡ Some x) ⊎ IsSet p c k x
walls_source p c (Call l) f k x fit h = inl h
walls_source p c (Wait ms word) f k x fit h = inl ((waiting_leaves_the_living.of_walls p c word f k x).0 h).0
walls_source p c Clear f k x fit h = absurd (cc)
walls_source p c Moved f k x fit h = inl h
walls_source p c (Came e dst (Unspelt m)) f k x fit h = inl h
walls_source p c (Came e dst (Spelt m)) f k x fit h = spelt_walls_set p c e m (is_mine p e dst m) f k x fit.0 fit.1 h

-- where an error sets none, the blockades are as they were
pub unset : (p : NodeConfig) (c e : ℕ) (m : ResvErrMsg) (flow : Option TokenBucket) (w : Walls) → (is_admission m.err && is_some flow) ≡ false → walls_with p c e m flow w ≡ w
unset p c e m None w n = refl
unset p c e m (Some flow) w n = by (is_admission m.err) n
  where
    by : (b : Bool) → (b && true) ≡ false → cond b (with_rows w (each (λ k. (k, blockade_of p c m flow)) (walled_by e m m.blame.style))) w ≡ w
    by true n = absurd (cc)
    by false n = refl

walls_few : (p : NodeConfig) (c e : ℕ) (m : ResvErrMsg) (w : Walls) (hop sets fits : Bool) → (is_admission m.err && is_some m.blame.flow) ≡ sets
    → nat_le (size (walls_with p c e m m.blame.flow w)) 512 ≡ fits → size w ≤ 512
    → size (walls_after hop (not sets || fits) (walls_with p c e m m.blame.flow w) w) ≤ 512
walls_few p c e m w false sets fits s t few = few
walls_few p c e m w true true true s t few = leb-true (size (walls_with p c e m m.blame.flow w)) 512 t
walls_few p c e m w true true false s t few = few
walls_few p c e m w true false fits s t few = subst (λ (z : Walls). size z ≤ 512) (sym (unset p c e m m.blame.flow w s)) few

spelt_walls_few : (p : NodeConfig) (c e : ℕ) (m : Message) (b : Bool) (f : Facts) → size f.walls ≤ 512 → size (act_spelt p c e m b f).facts.walls ≤ 512
spelt_walls_few p c e m false f few = few
spelt_walls_few p c e (message.ResvErr m) true f few = walls_few p c e m f.walls _ _ _ refl refl few
spelt_walls_few p c e (message.Path m) true f few = few
spelt_walls_few p c e (message.Resv m) true f few = few
spelt_walls_few p c e (message.PathErr m) true f few = few
spelt_walls_few p c e (message.PathTear m) true f few = few
spelt_walls_few p c e (message.ResvTear m) true f few = few
spelt_walls_few p c e (message.ResvConf m) true f few = few

pub few_walls : (p : NodeConfig) (c : ℕ) (i : Input) (f : Facts) → size f.walls ≤ 512 → size (act p c i f).facts.walls ≤ 512
few_walls p c (Call l) f few = few
few_walls p c (Wait ms word) f few =
    let less = size_below wall_keys (act p c (Wait ms word) f).facts.walls f.walls (λ k h. let x = some_is (get (act p c (Wait ms word) f).facts.walls k) h in
    ap is_some ((waiting_leaves_the_living.of_walls p c word f k x.0).0 x.1).0) in omega (arith, less, few)
few_walls p c Clear f few = omega arith
few_walls p c Moved f few = few
few_walls p c (Came e dst (Unspelt m)) f few = few
few_walls p c (Came e dst (Spelt m)) f few = spelt_walls_few p c e m (is_mine p e dst m) f few

-- ---- countdowns
-- a moment that waiting leaves
next_lives : (p : NodeConfig) (b ms word t : ℕ) → ms ≤ 2 * p.quarter → 1 ≤ p.quarter → LivesUpTo b (6 * p.quarter) t → LivesUpTo (b + ms) (6 * p.quarter) (next_due p (b + ms) word t)
next_lives p b ms word t short some l = by (nat_le t (b + ms)) refl
  where
    part : ℕ
    part = word % (period p + 1)

    by : (z : Bool) → nat_le t (b + ms) ≡ z → LivesUpTo (b + ms) (6 * p.quarter) (cond z (t + 2 * p.quarter + word % (period p + 1)) t)
    by true is =
        let reached = leb-true t (b + ms) is in
        let later = l.later in
        let below : word % (4 * p.quarter + 1) < 4 * p.quarter + 1 = mod_below word (4 * p.quarter + 1) (omega arith) in
        record { later = omega (arith, later, short); soon = omega (arith, reached, below) }
    by false is = let ahead = leb-false t (b + ms) is in let soon = l.soon in record { later = omega (arith, ahead); soon = omega (arith, soon) }

due_left : (p : NodeConfig) (b : ℕ) (i : Input) (f : Facts) (s : Session) (t : ℕ) → IsFit p i → 1 ≤ p.quarter → ((t : ℕ) → get f.due s ≡ Some t → LivesUpTo b (6 * p.quarter) t)
    → get (act p (clock_after b i) i f).facts.due s ≡ Some t
    → LivesUpTo (clock_after b i) (6 * p.quarter) t
due_left p b (Call l) f s t fit some w e = w t e
due_left p b (Wait ms word) f s t fit some w e = by (get f.due s) refl
  where
    by : (v : Option ℕ) → get f.due s ≡ v → LivesUpTo (b + ms) (6 * p.quarter) t
    by None is = let none : get (act p (b + ms) (Wait ms word) f).facts.due s ≡ None = get-changed sessions (λ s t. Some (next_due p (b + ms) word t)) f.due s ∙ ap (λ w. then_do w (λ t. Some (next_due p (b + ms) word t))) is in let no = sym none ∙ e in absurd (cc)
    by (Some u) is = subst (LivesUpTo (b + ms) (6 * p.quarter)) (some_same _ t (sym (waiting_leaves_the_living.of_due p (b + ms) word f s u is) ∙ e)) (next_lives p b ms word u fit some (w u is))
due_left p b Clear f s t fit some w e = absurd (cc)
due_left p b Moved f s t fit some w e = w t e
due_left p b (Came at dst a) f s t fit some w e = w t (ap (λ d. get d s) (sym (quiet_due p b at dst a f).0) ∙ e)

-- countdowns that live, once settled
pub due_settled : (p : NodeConfig) (c : ℕ) (f : Facts) → 1 ≤ p.quarter → ((s : Session) (t : ℕ) → get f.due s ≡ Some t → LivesUpTo c (6 * p.quarter) t) → AreDue p c (settle p c f)
due_settled p c f some lives = record { counted = λ s. stands_settled p c f s; moment = λ s t e. at s t (has (counted f) s) (get f.due s) refl (sym (countdowns_settle p c f s) ∙ e) }
  where
    at : (s : Session) (t : ℕ) (z : Bool) (v : Option ℕ) → get f.due s ≡ v → cond z (Some (unwrap_or v (c + period p))) None ≡ Some t → LivesUpTo c (6 * p.quarter) t
    at s t false v is e = absurd (cc)
    at s t true None is e = let same : c + period p ≡ t = some_same _ t e in record { later = omega (arith, same, some); soon = omega (arith, same) }
    at s t true (Some u) is e = subst (LivesUpTo c (6 * p.quarter)) (some_same u t e) (lives s u is)

pub due_within : (old p : NodeConfig) (b : ℕ) (i : Input) (f : Facts) → IsFit p i → 1 ≤ p.quarter → AreDue p b f → AreDue p (clock_after b i) (facts_then old p (clock_after b i) i f)
due_within old p b i f fit some w =
    let due = due_settled p (clock_after b i) (act p (clock_after b i) i f).facts some (λ s t e. due_left p b i f s t fit some (w.moment s) e) in
    record { counted = λ s. due.counted s; moment = λ s t e. due.moment s t e }
