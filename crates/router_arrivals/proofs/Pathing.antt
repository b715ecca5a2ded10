-- What a Path and a PathTear do, by what the code tests.
use Rattle.std.specs.Prelude.{◌≡◌, ℕ, Bool, true, false, cond, not, Option, Some, None, refl}
use Rattle.std.specs.Ordering.{eq_by_cmp}
use Rattle.std.proofs.Common.{sym, ap, ◌∙◌}
use Rattle.path_state.specs.Paths.{path_keys}
use Rattle.path_state.specs.declared.fact.PathFact.{PathFact}
use Rattle.rsvp_base.specs.Orders.{senders}
use Rattle.rsvp_base.specs.SessionLimits.{has_room_at}
use Rattle.rsvp_base.specs.Table.{changed, get, put_in, without}
use Rattle.rsvp_base.specs.TokenBucket.{TokenBucket}
use Rattle.rsvp_base.specs.declared.session.Sender.{Sender}
use Rattle.rsvp_base.proofs.Tables.{get-changed, get-without, same_table, then_do}
use Rattle.rsvp_messages.specs.declared.message.Message.TheVariants as message
use Rattle.rsvp_messages.specs.declared.message.PathMsg.{PathMsg}
use Rattle.rsvp_messages.specs.declared.message.PathTearMsg.{PathTearMsg}
use Rattle.router_rules.specs.Act.{act, act_spelt}
use Rattle.router_rules.specs.Facts.{SenderKey}
use Rattle.router_rules.specs.Inputs.{only_heard}
use Rattle.router_rules.specs.Paths.{act_path, act_path_tear, is_path_by, learn, learn_inward, learnt, path_state, tear_path, torn_path, with_paths}
use Rattle.router_rules.specs.NodeConfig.{comes_in, lifetime}
use Rattle.router_rules.specs.declared.answers.Heard.TheVariants as heard
use Rattle.router_rules.specs.declared.answers.Why.TheVariants as why
use Rattle.laws_bounds.proofs.Tests.{addr_tested}
use Rattle.router_state.specs.Changes.{path_came, tear_came, paths_put, paths_without}
use Rattle.router_state.specs.State.{State, facts_of, path_at}
use Rattle.router_state.proofs.Room.{room_same}
use Rattle.router_state.proofs.Settling.{changed_put, has_changed}

-- ---- a Path
module _ (n : State) (c e : ℕ) (m : PathMsg) where
  path_act : act n.place c (path_came e m) (facts_of c n) ≡ act_path n.place c e m (facts_of c n)
  path_act = ap (λ b. act_spelt n.place c e (message.Path m) b (facts_of c n)) (addr_tested m.session.group m.session.group refl)

  pub no_sender : m.sender ≡ None → act n.place c (path_came e m) (facts_of c n) ≡ only_heard (heard.Dropped why.NoSender) (facts_of c n)
  no_sender is = path_act ∙ ap (λ o. with_paths (facts_of c n) (learn n.place c e m o (facts_of c n).paths)) is

  module _ (x : Sender) (tspec : TokenBucket) (is : m.sender ≡ Some (x, tspec)) where
    abbrev pub fact : PathFact
    fact = record { session = m.session; sender = x; iface = e; hop = m.hop; tspec = tspec; police = m.police; adspec = m.adspec }

    abbrev pub left : ℕ
    left = lifetime n.place m.period

    by_inward : act n.place c (path_came e m) (facts_of c n) ≡ with_paths (facts_of c n) (learn_inward n.place c e m x tspec (comes_in n.place m.session e x) (facts_of c n).paths)
    by_inward = path_act ∙ ap (λ o. with_paths (facts_of c n) (learn n.place c e m o (facts_of c n).paths)) is

    pub not_inward : comes_in n.place m.session e x ≡ false → act n.place c (path_came e m) (facts_of c n) ≡ only_heard (heard.Dropped why.NotInward) (facts_of c n)
    not_inward off = by_inward ∙ ap (λ b. with_paths (facts_of c n) (learn_inward n.place c e m x tspec b (facts_of c n).paths)) off

    put_at : put_in (facts_of c n).paths (m.session, x) (path_state n.place c e m tspec) ≡ changed (path_at c) (put_in n.paths (m.session, x) (fact, left))
    put_at = sym (changed_put path_keys (path_at c) n.paths (m.session, x) (fact, left) (path_state n.place c e m tspec) refl)

    same_room : has_room_at senders (put_in (facts_of c n).paths (m.session, x) (path_state n.place c e m tspec)) m.session ≡ has_room_at senders (put_in n.paths (m.session, x) (fact, left)) m.session
    same_room =
        ap (λ t. has_room_at senders t m.session) put_at
        ∙ room_same senders (changed (path_at c) (put_in n.paths (m.session, x) (fact, left))) (put_in n.paths (m.session, x) (fact, left))
        (has_changed path_keys (path_at c) (λ k v. refl) (put_in n.paths (m.session, x) (fact, left))) m.session

    by_room : comes_in n.place m.session e x ≡ true → act n.place c (path_came e m) (facts_of c n)
        ≡ with_paths (facts_of c n) (learnt (has_room_at senders (put_in n.paths (m.session, x) (fact, left)) m.session) (put_in (facts_of c n).paths (m.session, x) (path_state n.place c e m tspec))
        (facts_of c n).paths)
    by_room on =
        by_inward ∙ ap (λ b. with_paths (facts_of c n) (learn_inward n.place c e m x tspec b (facts_of c n).paths)) on
        ∙ ap (λ b. with_paths (facts_of c n) (learnt b (put_in (facts_of c n).paths (m.session, x) (path_state n.place c e m tspec)) (facts_of c n).paths)) same_room

    pub is_full : comes_in n.place m.session e x ≡ true → has_room_at senders (put_in n.paths (m.session, x) (fact, left)) m.session ≡ false
        → act n.place c (path_came e m) (facts_of c n) ≡ only_heard (heard.Dropped why.Full) (facts_of c n)
    is_full on off = by_room on ∙ ap (λ b. with_paths (facts_of c n) (learnt b (put_in (facts_of c n).paths (m.session, x) (path_state n.place c e m tspec)) (facts_of c n).paths)) off

    pub is_learnt : comes_in n.place m.session e x ≡ true → has_room_at senders (put_in n.paths (m.session, x) (fact, left)) m.session ≡ true
        → act n.place c (path_came e m) (facts_of c n) ≡ only_heard heard.Taken (facts_of c (paths_put n (m.session, x) fact left))
    is_learnt on room =
        by_room on ∙ ap (λ b. with_paths (facts_of c n) (learnt b (put_in (facts_of c n).paths (m.session, x) (path_state n.place c e m tspec)) (facts_of c n).paths)) room
        ∙ (λ i. only_heard heard.Taken (record (facts_of c n) { paths = put_at i }))

-- ---- a PathTear
module _ (n : State) (c e : ℕ) (m : PathTearMsg) where
  tear_act : act n.place c (tear_came e m) (facts_of c n) ≡ act_path_tear e m (facts_of c n)
  tear_act = ap (λ b. act_spelt n.place c e (message.PathTear m) b (facts_of c n)) (addr_tested m.session.group m.session.group refl)

  pub nobody : m.sender ≡ None → act n.place c (tear_came e m) (facts_of c n) ≡ only_heard (heard.Dropped why.NoSender) (facts_of c n)
  nobody is = tear_act ∙ ap (λ o. with_paths (facts_of c n) (tear_path e m o (facts_of c n).paths)) is

  module _ (x : Sender) (is : m.sender ≡ Some x) where
    by_hop : act n.place c (tear_came e m) (facts_of c n) ≡ with_paths (facts_of c n) (torn_path (is_path_by (e, m.hop.addr) (get (facts_of c n).paths (m.session, x))) (m.session, x)
        (facts_of c n).paths)
    by_hop = tear_act ∙ ap (λ o. with_paths (facts_of c n) (tear_path e m o (facts_of c n).paths)) is

    pub no_state : is_path_by (e, m.hop.addr) (get (facts_of c n).paths (m.session, x)) ≡ false → act n.place c (tear_came e m) (facts_of c n) ≡ only_heard (heard.Dropped why.NoState) (facts_of c n)
    no_state off = by_hop ∙ ap (λ b. with_paths (facts_of c n) (torn_path b (m.session, x) (facts_of c n).paths)) off

    without_at : without (facts_of c n).paths (m.session, x) ≡ changed (path_at c) (without n.paths (m.session, x))
    without_at =
        same_table path_keys _ _ (λ q.
        get-without path_keys (facts_of c n).paths (m.session, x) q ∙ ap (λ w. cond (not (eq_by_cmp path_keys.cmp (m.session, x) q)) w None) (get-changed path_keys (path_at c) n.paths q)
        ∙ by q (not (eq_by_cmp path_keys.cmp (m.session, x) q)) (get n.paths q)
        ∙ sym (get-changed path_keys (path_at c) (without n.paths (m.session, x)) q ∙ ap (λ w. then_do w (path_at c q)) (get-without path_keys n.paths (m.session, x) q)))
      where
        by : (q : SenderKey) (b : Bool) (w : Option (PathFact × ℕ)) → cond b (then_do w (path_at c q)) None ≡ then_do (cond b w None) (path_at c q)
        by q true w = refl
        by q false w = refl

    pub is_torn : is_path_by (e, m.hop.addr) (get (facts_of c n).paths (m.session, x)) ≡ true
        → act n.place c (tear_came e m) (facts_of c n) ≡ only_heard heard.Taken (facts_of c (paths_without n (m.session, x)))
    is_torn on = by_hop ∙ ap (λ b. with_paths (facts_of c n) (torn_path b (m.session, x) (facts_of c n).paths)) on ∙ (λ i. only_heard heard.Taken (record (facts_of c n) { paths = without_at i }))
