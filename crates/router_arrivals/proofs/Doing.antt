-- A path or a local sender that comes or goes is what the rule does.
use Rattle.std.specs.Prelude.{◌≡◌, ◌||◌, ℕ, true, None, Some, refl}
use Rattle.std.proofs.Common.{sym, ap, subst, ◌∙◌}
use Rattle.path_state.specs.Paths.{path_keys}
use Rattle.path_state.specs.declared.fact.PathFact.{PathFact}
use Rattle.rsvp_base.specs.Orders.{senders}
use Rattle.rsvp_base.specs.SessionLimits.{has_room_at}
use Rattle.rsvp_base.specs.Table.{get, has, put_in}
use Rattle.rsvp_base.specs.TokenBucket.{TokenBucket}
use Rattle.rsvp_base.specs.declared.session.Sender.{Sender}
use Rattle.rsvp_base.proofs.SetLaws.{or_left, or_right}
use Rattle.rsvp_messages.specs.declared.message.PathMsg.{PathMsg}
use Rattle.rsvp_messages.specs.declared.message.PathTearMsg.{PathTearMsg}
use Rattle.router_rules.specs.Calls.{call_refusal}
use Rattle.router_rules.specs.Facts.{SenderKey, sender_keys}
use Rattle.router_rules.specs.Forgetting.{counted, forget}
use Rattle.router_rules.specs.Inputs.{AdvertAs, Call, DropAs, SendAs, only_heard}
use Rattle.router_rules.specs.NodeConfig.{comes_in, is_own, lifetime}
use Rattle.router_rules.specs.Paths.{is_path_by}
use Rattle.router_rules.specs.declared.answers.Heard.TheVariants as heard
use Rattle.router_state.specs.Changes.{advertised_put, path_came, paths_put, paths_without, senders_put, senders_without, tear_came}
use Rattle.router_state.specs.State.{AreNamed, IsSettled, Said, State, facts_of}
use Rattle.laws_sends.specs.Changed.{IsChangedFor}
use Rattle.laws_sends.proofs.Apart.{path_out, path_put, sender_advertised, sender_out, sender_put}
use Rattle.router_arrivals.specs.Coming.{fact_of, with_path, with_sender, without_path, without_sender}
use Rattle.router_arrivals.proofs.Before.{change_with, is_plain}
use Rattle.router_arrivals.proofs.Calling.{advertises_now, drops_now, may_advertise, may_drop, may_send, sends_now}
use Rattle.router_arrivals.proofs.Going.{leaves}
use Rattle.router_arrivals.proofs.Here.{here_plain}
use Rattle.router_arrivals.proofs.Keeping.{counts_by, put_more, put_there}
use Rattle.router_arrivals.proofs.Offering.{came_there}
use Rattle.router_arrivals.proofs.Pathing.{is_learnt, is_torn}
use Rattle.router_arrivals.proofs.Ruled.{IsPlain, all_remembered}

-- n is what there was
module _ (n : State) (kept : IsSettled n) where
  -- ---- a Path that is taken
  module _ (e : ℕ) (p : PathMsg) (x : Sender) (tspec : TokenBucket) (is : p.sender ≡ Some (x, tspec)) (on : comes_in n.place p.session e x ≡ true) where
    abbrev path_key : SenderKey
    path_key = (p.session, x)

    abbrev fact : PathFact
    fact = fact_of e p x tspec

    abbrev left : ℕ
    left = lifetime n.place p.period

    abbrev put : State
    put = paths_put n path_key fact left

    path_here : (c : ℕ) → true ≡ has (counted (facts_of c put)) p.session
    path_here = counts_by put path_key (or_right (has n.senders path_key) _ (put_there path_keys n.paths path_key (fact, left)))

    path_stays : (c : ℕ) → facts_of c put ≡ forget (facts_of c n) (facts_of c put)
    path_stays = all_remembered n put (λ k h. h) (put_more path_keys n.paths path_key (fact, left)) kept.named

    pub path_comes : has_room_at senders (put_in n.paths path_key (fact, left)) p.session ≡ true → (w : State) (any : Said) → w ≡ record (with_path n path_key fact left) { said = any }
        → IsPlain path_key n (path_came e p) heard.Taken w
    path_comes room w any now =
        is_plain n kept (path_came e p) path_key put (path_put n path_key fact left) refl true path_here kept.named (λ c. facts_of c put) path_stays w any now heard.Taken
        (λ c. is_learnt n c e p x tspec is on room)

  -- ---- a PathTear that is taken
  module _ (e : ℕ) (p : PathTearMsg) (x : Sender) (is : p.sender ≡ Some x) (by : (c : ℕ) → is_path_by (e, p.hop.addr) (get (facts_of c n).paths (p.session, x)) ≡ true) where
    abbrev tear_key : SenderKey
    tear_key = (p.session, x)

    path_was : (has n.senders tear_key || has n.paths tear_key) ≡ true
    path_was = or_right (has n.senders tear_key) (has n.paths tear_key) (came_there 0 n tear_key (e, p.hop.addr) (by 0))

    pub path_goes : (w : State) (any : Said) → w ≡ record (without_path n tear_key) { said = any } → IsPlain tear_key n (tear_came e p) heard.Taken w
    path_goes w any now = leaves n kept tear_key (paths_without n tear_key) (path_out n tear_key) refl kept.named path_was (tear_came e p) (λ c. is_torn n c e p x is (by c)) w any now

  -- ---- local senders
  module _ (k : SenderKey) (tspec : TokenBucket) (on : is_own n.place k.1.addr ≡ true) (room : has_room_at senders (put_in n.senders k tspec) k.0 ≡ true) where
    abbrev added : State
    added = senders_put n k tspec

    sender_here : (c : ℕ) → true ≡ has (counted (facts_of c added)) k.0
    sender_here = counts_by added k (or_left _ (has n.paths k) (put_there sender_keys n.senders k tspec))

    sender_stays : (c : ℕ) → facts_of c added ≡ forget (facts_of c n) (facts_of c added)
    sender_stays = all_remembered n added (put_more sender_keys n.senders k tspec) (λ j h. h) kept.named

    pub sender_free : (c : ℕ) → call_refusal n.place (SendAs k.0 k.1 tspec) (facts_of c n) ≡ None
    sender_free c = may_send n c k tspec on room

    pub sender_comes : (w : State) (any : Said) → w ≡ record (with_sender n k tspec) { said = any } → IsPlain k n (Call (SendAs k.0 k.1 tspec)) heard.Taken w
    sender_comes w any now =
        is_plain n kept (Call (SendAs k.0 k.1 tspec)) k added (sender_put n k tspec) refl true sender_here kept.named (λ c. facts_of c added) sender_stays w any now heard.Taken
        (λ c. sends_now n c k tspec (sender_free c))

  module _ (k : SenderKey) (there : has n.senders k ≡ true) where
    pub drop_free : (c : ℕ) → call_refusal n.place (DropAs k.0 k.1) (facts_of c n) ≡ None
    drop_free c = may_drop n c k there

    pub sender_goes : (w : State) (any : Said) → w ≡ record (without_sender n k) { said = any } → IsPlain k n (Call (DropAs k.0 k.1)) heard.Taken w
    sender_goes w any now =
        leaves n kept k (senders_without n k) (sender_out n k) refl kept.named (or_left _ (has n.paths k) there) (Call (DropAs k.0 k.1)) (λ c. drops_now n c k (drop_free c)) w any now

    -- what it announces stays, and so does all else but that it is advertised
    pub advert_free : (c : ℕ) → call_refusal n.place (AdvertAs k.0 k.1) (facts_of c n) ≡ None
    advert_free c = may_advertise n c k there

    pub sender_told : (w : State) (any : Said) → w ≡ record (advertised_put n k) { said = any } → IsPlain k n (Call (AdvertAs k.0 k.1)) heard.Taken w
    sender_told w any now =
        here_plain k n w kept (subst (IsChangedFor k n) (sym now) (change_with k n (advertised_put n k) any (sender_advertised n k))) (ap (λ (z : State). z.senders) now)
        (ap (λ (z : State). z.paths) now) (ap (λ (z : State). z.due) now) (λ c. subst (λ (z : State). AreNamed (facts_of c z)) (sym now) (kept.named c)) (Call (AdvertAs k.0 k.1)) heard.Taken
        (λ c. advertises_now n c k (advert_free c) ∙ ap (λ (z : State). only_heard heard.Taken (facts_of c z)) (sym now))
