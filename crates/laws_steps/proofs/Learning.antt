-- Where path state comes from, and how it goes.
use Rattle.std.specs.Prelude.{◌≡◌, ℕ, ◌≤◌, nat_lt, ◌⊎◌, Bool, true, false, cond, not, Option, Some, None, refl}
use Rattle.std.proofs.Common.{sym, ap, subst, ◌∙◌, inl, inr, ⊎_elim, arith}
use Rattle.std.proofs.lemmas.Bool.{ltb-false}
use Rattle.std.specs.Ordering.{eq_by_cmp}
use Rattle.rsvp_base.specs.declared.addr.Addr.{Addr}
use Rattle.rsvp_base.specs.declared.session.Sender.{Sender}
use Rattle.rsvp_base.specs.declared.session.Session.{Session}
use Rattle.rsvp_base.specs.Orders.{senders}
use Rattle.rsvp_base.specs.SessionLimits.{has_room_at}
use Rattle.rsvp_base.specs.Table.{get, put_in}
use Rattle.rsvp_base.specs.TokenBucket.{TokenBucket}
use Rattle.rsvp_base.proofs.SessionRoom.{put_room}
use Rattle.rsvp_base.proofs.Tables.{either, get-changed, get-put_in, get-without, tied_same, then_do}
use Rattle.rsvp_messages.specs.declared.message.Message.{Message}
use Rattle.rsvp_messages.specs.declared.message.Message.TheVariants as message
use Rattle.rsvp_messages.specs.declared.message.PathMsg.{PathMsg}
use Rattle.rsvp_messages.specs.declared.message.PathTearMsg.{PathTearMsg}
use Rattle.laws_bounds.specs.RouterRules.declared.answers.Heard.TheVariants as heard
use Rattle.laws_bounds.specs.RouterRules.declared.answers.Why.TheVariants as why
use Rattle.laws_bounds.specs.RouterRules.Act.{act_spelt, is_mine}
use Rattle.laws_bounds.specs.RouterRules.Facts.{Facts, PathState, Paths, SenderKey, sender_keys}
use Rattle.laws_bounds.specs.RouterRules.Inputs.{Input, Call, Wait, Clear, Came, Change, Moved, Spelt, Unspelt}
use Rattle.laws_bounds.specs.RouterRules.Known.{came_by}
use Rattle.laws_bounds.specs.RouterRules.Paths.{is_path_by, learn, learn_inward, learnt, path_state, tear_path, torn_path}
use Rattle.laws_bounds.specs.RouterRules.NodeConfig.{NodeConfig, comes_in, is_addr}
use Rattle.laws_bounds.specs.RouterRules.Rule.{rule}
use Rattle.laws_bounds.specs.RouterRules.Waiting.{living}
use Rattle.laws_bounds.proofs.Tests.{addr_told, addr_tested}
use Rattle.laws_bounds.proofs.Receiving.{paths_by_tests}
use Rattle.laws_steps.specs.PathLaws.{APathOnTheTreeIsLearnt, HowAPathFactGoes, IsReplaced, PathGoes, WhereAPathFactComesFrom}
use Rattle.laws_bounds.specs.Sources.{IsLearnt, said_by}
use Rattle.laws_bounds.specs.RouterRules.Steps.{facts_then, left_by}
use Rattle.laws_bounds.proofs.Stepping.{came_from}

pub where_a_path_fact_comes_from : WhereAPathFactComesFrom
where_a_path_fact_comes_from step within k x h = came_from step.old step.now step.after step.input step.facts k x h

-- ---- it is learnt
module _ (old p : NodeConfig) (c : ℕ) (f : Facts) (e : ℕ) (m : PathMsg) (x : Sender) (tspec : TokenBucket) where
  abbrev table_with : Session → Paths
  table_with s = put_in f.paths (s, x) (path_state p c e m tspec)

  -- what it does where it comes to its group
  abbrev comes_to : Session → Input
  comes_to s = Came e s.group (Spelt (message.Path m))

  mine : is_addr m.session.group m.session.group ≡ true
  mine = addr_tested m.session.group m.session.group refl

  taken_here : m.sender ≡ Some (x, tspec) → comes_in p m.session e x ≡ true → has_room_at senders (table_with m.session) m.session ≡ true
      → ((facts_then old p c (comes_to m.session) f).paths ≡ table_with m.session) × ((rule old p c (comes_to m.session) f).heard ≡ heard.Taken)
  taken_here s t r =
      let is = ap (λ b. act_spelt p c e (message.Path m) b f) mine ∙ paths_by_tests.learnt p c e m f x tspec s t r in
      (ap (λ (k : Change). k.facts.paths) is, ap (λ (k : Change). k.heard) is)

  full_here : m.sender ≡ Some (x, tspec) → comes_in p m.session e x ≡ true → has_room_at senders (table_with m.session) m.session ≡ false
      → ((facts_then old p c (comes_to m.session) f).paths ≡ f.paths) × ((rule old p c (comes_to m.session) f).heard ≡ heard.Dropped why.Full)
  full_here s t r =
      let is = ap (λ b. act_spelt p c e (message.Path m) b f) mine ∙ paths_by_tests.full p c e m f x tspec s t r in
      (ap (λ (k : Change). k.facts.paths) is, ap (λ (k : Change). k.heard) is)

  taken_at : (s : Session) → m.session ≡ s → m.sender ≡ Some (x, tspec) → comes_in p s e x ≡ true → has_room_at senders (table_with s) s ≡ true
      → ((facts_then old p c (comes_to s) f).paths ≡ table_with s) × ((rule old p c (comes_to s) f).heard ≡ heard.Taken)
  taken_at s is said =
      subst
      (λ (s : Session). comes_in p s e x ≡ true → has_room_at senders (table_with s) s ≡ true
      → ((facts_then old p c (comes_to s) f).paths ≡ table_with s) × ((rule old p c (comes_to s) f).heard ≡ heard.Taken))
      is
      (taken_here said)

  full_at : (s : Session) → m.session ≡ s → m.sender ≡ Some (x, tspec) → comes_in p s e x ≡ true → has_room_at senders (table_with s) s ≡ false
      → ((facts_then old p c (comes_to s) f).paths ≡ f.paths) × ((rule old p c (comes_to s) f).heard ≡ heard.Dropped why.Full)
  full_at s is said =
      subst
      (λ (s : Session). comes_in p s e x ≡ true → has_room_at senders (table_with s) s ≡ false
      → ((facts_then old p c (comes_to s) f).paths ≡ f.paths) × ((rule old p c (comes_to s) f).heard ≡ heard.Dropped why.Full))
      is
      (full_here said)

pub a_path_on_the_tree_is_learnt : APathOnTheTreeIsLearnt
a_path_on_the_tree_is_learnt =
    record {
      learnt = λ step within k by room.
          let r = taken_at step.old step.now step.after step.facts by.at by.path k.1 by.tspec k.0 by.session by.sender by.tree
          ((put_room senders step.facts.paths k (said_by step.now step.after step.input k by) within.limits.paths).1 room) in
          (ap (λ z. (facts_then step.old step.now step.after z step.facts).paths) by.came ∙ r.0, ap (λ z. (rule step.old step.now step.after z step.facts).heard) by.came ∙ r.1);
      full = λ step within k by none.
          let no : has_room_at senders (put_in step.facts.paths k (said_by step.now step.after step.input k by)) k.0 ≡ false =
          either (has_room_at senders (put_in step.facts.paths k (said_by step.now step.after step.input k by)) k.0)
          (λ yes. absurd (none ((put_room senders step.facts.paths k (said_by step.now step.after step.input k by) within.limits.paths).0 yes))) (λ no. no) in
          let r = full_at step.old step.now step.after step.facts by.at by.path k.1 by.tspec k.0 by.session by.sender by.tree no in
          (ap (λ z. (facts_then step.old step.now step.after z step.facts).paths) by.came ∙ r.0, ap (λ z. (rule step.old step.now step.after z step.facts).heard) by.came ∙ r.1);
    }

-- ---- how it goes
-- a Path takes nothing away
put_keeps : (t : Paths) (q k : SenderKey) (v x : PathState) → get t k ≡ Some x → get (put_in t q v) k ≡ None → ⊥
put_keeps t q k v x h n = by (eq_by_cmp sender_keys.cmp k q) (sym (get-put_in sender_keys t q v k) ∙ n)
  where
    by : (b : Bool) → cond b (Some v) (get t k) ≡ None → ⊥
    by true e = cc
    by false e = cc

learn_keeps : (p : NodeConfig) (c e : ℕ) (m : PathMsg) (o : Option (Sender × TokenBucket)) (t : Paths) (k : SenderKey) (x : PathState) → get t k ≡ Some x → get (learn p c e m o t).0 k ≡ None → ⊥
learn_keeps p c e m None t k x h n = cc
learn_keeps p c e m (Some s) t k x h n = by_tree (comes_in p m.session e s.0) n
  where
    by_room : (b : Bool) → get (learnt b (put_in t (m.session, s.0) (path_state p c e m s.1)) t).0 k ≡ None → ⊥
    by_room true n = put_keeps t (m.session, s.0) k (path_state p c e m s.1) x h n
    by_room false n = cc

    by_tree : (b : Bool) → get (learn_inward p c e m s.0 s.1 b t).0 k ≡ None → ⊥
    by_tree true n = by_room _ n
    by_tree false n = cc

-- a PathTear takes its own away, from its hop
record Tears (e : ℕ) (m : PathTearMsg) (o : Option Sender) (k : SenderKey) (x : PathState) : Type 0 where
  session : m.session ≡ k.0
  sender : o ≡ Some k.1
  hop : came_by (e, m.hop.addr) x ≡ true

tear_gone : (e : ℕ) (m : PathTearMsg) (o : Option Sender) (t : Paths) (k : SenderKey) (x : PathState) → get t k ≡ Some x → get (tear_path e m o t).0 k ≡ None → Tears e m o k x
tear_gone e m None t k x h n = absurd (cc)
tear_gone e m (Some s) t k x h n = by_hop (is_path_by (e, m.hop.addr) (get t (m.session, s))) refl n
  where
    by_key : is_path_by (e, m.hop.addr) (get t (m.session, s)) ≡ true → (b : Bool) → eq_by_cmp sender_keys.cmp (m.session, s) k ≡ b → cond (not b) (get t k) None ≡ None → Tears e m (Some s) k x
    by_key is false tie n = absurd (cc)
    by_key is true tie n =
        let same : (m.session, s) ≡ k = tied_same sender_keys (m.session, s) k tie in
        let session : m.session ≡ k.0 = ap (λ (z : SenderKey). z.0) same in
        let sender : s ≡ k.1 = ap (λ (z : SenderKey). z.1) same in
        let hop : came_by (e, m.hop.addr) x ≡ true = sym (ap (is_path_by (e, m.hop.addr)) h) ∙ ap (λ (z : SenderKey). is_path_by (e, m.hop.addr) (get t z)) (sym same) ∙ is in
        record { session = session; sender = ap (λ z. Some z) sender; hop = hop }

    by_hop : (b : Bool) → is_path_by (e, m.hop.addr) (get t (m.session, s)) ≡ b → get (torn_path b (m.session, s) t).0 k ≡ None → Tears e m (Some s) k x
    by_hop false is n = absurd (cc)
    by_hop true is n = by_key is (eq_by_cmp sender_keys.cmp (m.session, s) k) refl (sym (get-without sender_keys t (m.session, s) k) ∙ n)

spelt_gone : (p : NodeConfig) (c e : ℕ) (dst : Addr) (f : Facts) (k : SenderKey) (x : PathState) (m : Message) (b : Bool) → is_mine p e dst m ≡ b → get f.paths k ≡ Some x
    → get (act_spelt p c e m b f).facts.paths k ≡ None
    → PathGoes c (Came e dst (Spelt m)) k x
spelt_gone p c e dst f k x m false is h n = absurd (cc)
spelt_gone p c e dst f k x (message.Path m) true is h n = absurd (learn_keeps p c e m m.sender f.paths k x h n)
spelt_gone p c e dst f k x (message.PathTear m) true is h n =
    let t = tear_gone e m m.sender f.paths k x h n in
    let to : dst ≡ k.0.group = addr_told _ _ is ∙ ap (λ (z : Session). z.group) t.session in
    inr (inl (record { at = e; tear = m; came = λ i. Came e (to i) (Spelt (message.PathTear m)); session = t.session; sender = t.sender; hop = t.hop }))
spelt_gone p c e dst f k x (message.Resv m) true is h n = absurd (cc)
spelt_gone p c e dst f k x (message.PathErr m) true is h n = absurd (cc)
spelt_gone p c e dst f k x (message.ResvErr m) true is h n = absurd (cc)
spelt_gone p c e dst f k x (message.ResvTear m) true is h n = absurd (cc)
spelt_gone p c e dst f k x (message.ResvConf m) true is h n = absurd (cc)

-- what is no more at c dies by it
pub died : {X : Type 0} (c : ℕ) (dies : X → ℕ) (x : X) → living c dies x ≡ None → dies x ≤ c
died c dies x n = by (nat_lt c (dies x)) refl n
  where
    by : (b : Bool) → nat_lt c (dies x) ≡ b → cond b (Some x) None ≡ None → dies x ≤ c
    by true t n = absurd (cc)
    by false t n = let no = ltb-false c (dies x) t in omega (arith, no)

why_gone : (old p : NodeConfig) (c : ℕ) (i : Input) (f : Facts) (k : SenderKey) (x : PathState) → get f.paths k ≡ Some x → get (facts_then old p c i f).paths k ≡ None → PathGoes c i k x
why_gone old p c (Call l) f k x h n = absurd (cc)
why_gone old p c (Wait ms word) f k x h n =
    let d : living c (λ (y : PathState). y.dies) x ≡ None =
    sym (get-changed sender_keys (λ q. living c (λ (y : PathState). y.dies)) f.paths k ∙ ap (λ w. then_do w (living c (λ (y : PathState). y.dies))) h) ∙ n in
    inl (record { ms = ms; word = word; waited = refl; dies = died c (λ (y : PathState). y.dies) x d })
why_gone old p c Clear f k x h n = inr (inr refl)
why_gone old p c Moved f k x h n = absurd (cc)
why_gone old p c (Came e dst (Unspelt m)) f k x h n = absurd (cc)
why_gone old p c (Came e dst (Spelt m)) f k x h n = spelt_gone p c e dst f k x m (is_mine p e dst m) refl h n

pub how_a_path_fact_goes : HowAPathFactGoes
how_a_path_fact_goes step within k x h = by (get (left_by step).paths k) refl
  where
    by : (w : Option PathState) → get (left_by step).paths k ≡ w
        → (get (left_by step).paths k ≡ Some x) ⊎ (IsReplaced step.now step.after step.input (left_by step) k ⊎ ((get (left_by step).paths k ≡ None) × PathGoes step.after step.input k x))
    by None is = inr (inr (is, why_gone step.old step.now step.after step.input step.facts k x h is))
    by (Some y) is =
        ⊎_elim (λ (was : get step.facts.paths k ≡ Some y). inl (is ∙ sym was ∙ h)) (λ (new : IsLearnt step.now step.after step.input k y). inr (inl (record { new = y; there = is; learnt = new })))
        (came_from step.old step.now step.after step.input step.facts k y is)
