-- Names that go when paths die.
use Rattle.std.specs.Prelude.{◌≡◌, ℕ, Bool, true, false, cond, not, ◌||◌, ◌⊎◌, is_some, Option, Some, None, refl}
use Rattle.std.specs.List.{list_any}
use Rattle.std.specs.Ordering.{eq_by_cmp}
use Rattle.std.proofs.Common.{sym, ap, inl, inr, ◌∙◌}
use Rattle.rsvp_base.specs.Orders.{Names, sessions, senders}
use Rattle.rsvp_base.specs.Sets.{Set}
use Rattle.rsvp_base.specs.Styles.{name_of}
use Rattle.rsvp_base.specs.Table.{get, has, keys}
use Rattle.rsvp_base.specs.Under.{under}
use Rattle.rsvp_base.specs.declared.session.Sender.{Sender}
use Rattle.rsvp_base.specs.declared.session.Session.{Session}
use Rattle.rsvp_base.specs.declared.style.StyleKind.{StyleKind}
use Rattle.rsvp_base.specs.declared.style.StyleKind.TheVariants.{Wild, Fixed, Shared}
use Rattle.rsvp_base.proofs.Filters.{same_test}
use Rattle.rsvp_base.proofs.Fronts.{in_filter_map, in_keys, to_filter_map, to_keys}
use Rattle.rsvp_base.proofs.Members.{any_in, in_any}
use Rattle.rsvp_base.proofs.SetLaws.{and_both, and_made, or_either, or_left, or_right}
use Rattle.rsvp_base.proofs.Tables.{either, get-changed, then_do, tied_same, tied_self}
use Rattle.rsvp_base.proofs.UnderLaws.{get-under}
use Rattle.path_state.specs.Paths.{is_from, path_keys}
use Rattle.path_state.specs.declared.fact.PathFact.{PathFact}
use Rattle.router_rules.specs.Facts.{Facts, SenderKey, sender_keys}
use Rattle.router_rules.specs.Forgetting.{is_lost}
use Rattle.router_rules.specs.Known.{known, named_as}
use Rattle.router_rules.specs.NodeConfig.{is_addr}
use Rattle.laws_bounds.proofs.Knowing.{has-known, named_made, named_told}
use Rattle.laws_bounds.proofs.Lists.{some_same}
use Rattle.laws_bounds.proofs.Tests.{addr_tested, addr_told}
use Rattle.path_sends.specs.RouterState.Forgotten.{is_gone}
use Rattle.path_sends.specs.RouterState.State.{State, facts_of, path_at}
use Rattle.router_aging.specs.Losing.{NamesOfTheDead, lost_at, lost_names}

-- ---- who is known, by the tables
pub known_by : (c : ℕ) (n : State) (s : Session) (x : Sender) → has (known (facts_of c n) s) x ≡ (has n.senders (s, x) || has n.paths (s, x))
known_by c n s x = has-known (facts_of c n) s x ∙ ap (λ b. has n.senders (s, x) || b) (ap is_some (get-changed path_keys (path_at c) n.paths (s, x)) ∙ by (get n.paths (s, x)))
  where
    by : (w : Option (PathFact × ℕ)) → is_some (then_do w (path_at c (s, x))) ≡ is_some w
    by None = refl
    by (Some e) = refl

-- a name that a style keeps as it is
own_name : (names : Names) (x : Sender) → has (named_as Fixed names) x ≡ has names x
own_name names x =
    same_test _ _ (λ h. let r = named_told Fixed names x h in ap (λ z. has names z) r.name ∙ r.among)
    (λ h. named_made Fixed names x (record { sender = x; among = h; passes = refl; name = refl }))

shared_name : (names : Names) (x : Sender) → has (named_as Shared names) x ≡ has names x
shared_name names x =
    same_test _ _ (λ h. let r = named_told Shared names x h in ap (λ z. has names z) r.name ∙ r.among)
    (λ h. named_made Shared names x (record { sender = x; among = h; passes = refl; name = refl }))

pub known_fixed : (c : ℕ) (n : State) (s : Session) (x : Sender) → (has n.senders (s, x) || has n.paths (s, x)) ≡ has (named_as Fixed (known (facts_of c n) s)) x
known_fixed c n s x = sym (known_by c n s x) ∙ sym (own_name (known (facts_of c n) s) x)

pub known_shared : (c : ℕ) (n : State) (s : Session) (x : Sender) → (has n.senders (s, x) || has n.paths (s, x)) ≡ has (named_as Shared (known (facts_of c n) s)) x
known_shared c n s x = sym (known_by c n s x) ∙ sym (shared_name (known (facts_of c n) s) x)

-- by the address alone
pub known_wild : (c : ℕ) (n : State) (s : Session) (x : Sender)
    → (list_any (λ (y : Sender). is_addr y.addr x.addr) (keys (under sessions senders n.senders s)) || list_any (is_from x.addr) (keys (under sessions senders n.paths s)))
    ≡ has (named_as Wild (known (facts_of c n) s)) (name_of Wild x)
known_wild c n s x = same_test _ _ to from
  where
    made : (y : Sender) → (has n.senders (s, y) || has n.paths (s, y)) ≡ true → is_addr y.addr x.addr ≡ true → has (named_as Wild (known (facts_of c n) s)) (name_of Wild x) ≡ true
    made y h same = named_made Wild (known (facts_of c n) s) (name_of Wild x) (record {
      sender = y;
      among = known_by c n s y
          ∙ h;
      passes = refl;
      name = λ i. record { addr = sym (addr_told y.addr x.addr same) i; port = 0 };
    })

    two : (list_any (λ (y : Sender). is_addr y.addr x.addr) (keys (under sessions senders n.senders s)) ≡ true) ⊎ (list_any (is_from x.addr) (keys (under sessions senders n.paths s)) ≡ true)
        → has (named_as Wild (known (facts_of c n) s)) (name_of Wild x) ≡ true
    two (inl h) =
        let r = in_any (λ (y : Sender). is_addr y.addr x.addr) (keys (under sessions senders n.senders s)) h in
        let there = ap is_some (sym (get-under sessions senders n.senders s r.0)) ∙ in_keys senders (under sessions senders n.senders s) r.0 r.1 in
        made r.0 (or_left (has n.senders (s, r.0)) (has n.paths (s, r.0)) there) r.2
    two (inr h) =
        let r = in_any (is_from x.addr) (keys (under sessions senders n.paths s)) h in
        let there = ap is_some (sym (get-under sessions senders n.paths s r.0)) ∙ in_keys senders (under sessions senders n.paths s) r.0 r.1 in
        made r.0 (or_right (has n.senders (s, r.0)) (has n.paths (s, r.0)) there) r.2

    to : (list_any (λ (y : Sender). is_addr y.addr x.addr) (keys (under sessions senders n.senders s)) || list_any (is_from x.addr) (keys (under sessions senders n.paths s))) ≡ true
        → has (named_as Wild (known (facts_of c n) s)) (name_of Wild x) ≡ true
    to h = two (or_either _ _ h)

    back : (y : Sender) → is_addr y.addr x.addr ≡ true → (has n.senders (s, y) ≡ true) ⊎ (has n.paths (s, y) ≡ true)
        → (list_any (λ (y : Sender). is_addr y.addr x.addr) (keys (under sessions senders n.senders s)) || list_any (is_from x.addr) (keys (under sessions senders n.paths s))) ≡ true
    back y same (inl h) =
        or_left _ _ (any_in (λ (y : Sender). is_addr y.addr x.addr) y (keys (under sessions senders n.senders s))
        (to_keys senders (under sessions senders n.senders s) y (ap is_some (get-under sessions senders n.senders s y) ∙ h)) same)
    back y same (inr h) =
        or_right _ _ (any_in (is_from x.addr) y (keys (under sessions senders n.paths s))
        (to_keys senders (under sessions senders n.paths s) y (ap is_some (get-under sessions senders n.paths s y) ∙ h)) same)

    from : has (named_as Wild (known (facts_of c n) s)) (name_of Wild x) ≡ true
        → (list_any (λ (y : Sender). is_addr y.addr x.addr) (keys (under sessions senders n.senders s)) || list_any (is_from x.addr) (keys (under sessions senders n.paths s))) ≡ true
    from h =
        let r = named_told Wild (known (facts_of c n) s) (name_of Wild x) h in
        back r.sender (addr_tested r.sender.addr x.addr (λ i. (sym r.name i).addr)) (or_either _ _ (sym (known_by c n s r.sender) ∙ r.among))

-- ---- the names of the dead are those that are lost
module _ (st : StyleKind) (f g : Facts) (dead : Set sender_keys) (were : (k : SenderKey) → has dead k ≡ true → has (known f k.0) k.1 ≡ true)
    (all : (k : SenderKey) → has (known f k.0) k.1 ≡ true → has (known g k.0) k.1 ≡ false → has dead k ≡ true)
  where
    lost_told : (k : SenderKey) (q : Session × Sender) → lost_at st g k ≡ Some q → (has (named_as st (known g k.0)) (name_of st k.1) ≡ false) × ((k.0, name_of st k.1) ≡ q)
    lost_told k q h = by (has (named_as st (known g k.0)) (name_of st k.1)) refl h
      where
        by : (b : Bool) → has (named_as st (known g k.0)) (name_of st k.1) ≡ b → cond b None (Some (k.0, name_of st k.1)) ≡ Some q
            → (has (named_as st (known g k.0)) (name_of st k.1) ≡ false) × ((k.0, name_of st k.1) ≡ q)
        by true e h = absurd (cc)
        by false e h = (e, some_same (k.0, name_of st k.1) q h)

    to_lost : (s : Session) (x : Sender) → list_any (is_gone s x) (lost_names st g (keys dead)) ≡ true → is_lost st f g s x ≡ true
    to_lost s x h =
        let r = in_any (is_gone s x) (lost_names st g (keys dead)) h in
        let d = in_filter_map (lost_at st g) r.0 (keys dead) r.1 in
        let k = d.0 in
        let t = lost_told k r.0 d.2 in
        let both = and_both _ _ r.2 in
        let session : k.0 ≡ s = ap (λ (q : Session × Sender). q.0) t.1 ∙ tied_same sessions r.0.0 s both.0 in
        let name : name_of st k.1 ≡ x = ap (λ (q : Session × Sender). q.1) t.1 ∙ sym (tied_same senders x r.0.1 both.1) in
        let was = named_made st (known f k.0) (name_of st k.1) (record { sender = k.1; among = were k (in_keys sender_keys dead k d.1); passes = refl; name = refl }) in
        and_made _ _ ((λ i. has (named_as st (known f (sym session i))) (sym name i)) ∙ was) (ap not ((λ i. has (named_as st (known g (sym session i))) (sym name i)) ∙ t.0))

    from_lost : (s : Session) (x : Sender) → is_lost st f g s x ≡ true → list_any (is_gone s x) (lost_names st g (keys dead)) ≡ true
    from_lost s x h =
        let both = and_both _ _ h in
        let gone : has (named_as st (known g s)) x ≡ false = off (has (named_as st (known g s)) x) both.1 in
        let n = named_told st (known f s) x both.0 in
        let y = n.sender in
        let missing : has (known g s) y ≡ false =
        either (has (known g s) y)
        (λ t.
        let z : true ≡ false = sym (ap (λ q. has (named_as st (known g s)) q) n.name ∙ named_made st (known g s) (name_of st y) (record { sender = y; among = t; passes = refl; name = refl }))
        ∙ gone in
        absurd (cc))
        (λ e. e) in
        let there = to_keys sender_keys dead (s, y) (all (s, y) n.among missing) in
        let lost : lost_at st g (s, y) ≡ Some (s, name_of st y) = ap (λ b. cond b None (Some (s, name_of st y))) (ap (λ q. has (named_as st (known g s)) q) (sym n.name) ∙ gone) in
        any_in (is_gone s x) (s, name_of st y) (lost_names st g (keys dead)) (to_filter_map (lost_at st g) (s, name_of st y) (s, y) (keys dead) there lost)
        (and_made _ _ (tied_self sessions s) (ap (λ q. eq_by_cmp senders.cmp x q) (sym n.name) ∙ tied_self senders x))
      where
        off : (b : Bool) → not b ≡ true → b ≡ false
        off true e = cc
        off false e = refl

pub names_of_the_dead : NamesOfTheDead
names_of_the_dead st f g dead were all s x = same_test _ _ (to_lost st f g dead were all s x) (from_lost st f g dead were all s x)
