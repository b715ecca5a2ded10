-- A line that lets a sender send, or drops one: its call is not refused, and its node has what the line says.
use Rattle.std.proofs.Common.{le-leb, ◌≡◌, ◌⊎◌, ℕ, ◌<◌, ◌≤◌, suc, Bool, true, false, cond, List, [], ◌∷◌, ◌++◌, length, Some, None, refl, sym, ap, subst, ◌∙◌, inl, inr, ⊎_elim, arith}
use Rattle.std.specs.Prelude.{map as each, not, slice_get, is_some, ◌==◌, if◌then◌else◌}
use Rattle.std.specs.Ordering.{eq_by_cmp}
use Rattle.std.proofs.lemmas.Option.{slice_get_within}
use Rattle.rsvp_base.specs.declared.addr.Addr.{Addr}
use Rattle.rsvp_base.specs.declared.iface.Iface.{Iface}
use Rattle.rsvp_base.specs.declared.session.Sender.{Sender}
use Rattle.rsvp_base.specs.declared.session.Session.{Session}
use Rattle.rsvp_base.specs.Members.{In}
use Rattle.rsvp_base.specs.Orders.{senders as by_sender, sessions as by_session}
use Rattle.rsvp_base.specs.SessionLimits.{has_room_at, sessions_in}
use Rattle.rsvp_base.specs.Sets.{set_of}
use Rattle.rsvp_base.specs.Table.{get, has, keys, put_in, size, without}
use Rattle.rsvp_base.specs.Under.{under}
use Rattle.rsvp_base.specs.TokenBucket.{TokenBucket}
use Rattle.rsvp_base.proofs.Counts.{in_found, in_set_of, set_below, size-set_of, size_below}
use Rattle.rsvp_base.proofs.Fronts.{got_in}
use Rattle.rsvp_base.proofs.Members.{any_in, in_any, in_append, in_each, in_filter, in_left, in_right, to_each, to_filter}
use Rattle.rsvp_base.proofs.SetLaws.{and_both, and_made}
use Rattle.rsvp_base.proofs.Tables.{either, get-put_in, get-put_in_other, get-put_in_same, get-without, got_put_in, got_without, tied_same, tied_self}
use Rattle.rsvp_base.proofs.UnderLaws.{get-under}
use Rattle.router_rules.specs.declared.answers.LocalErr.TheVariants as local
use Rattle.router_rules.specs.Calls.{SendersOf, needs}
use Rattle.router_rules.specs.Facts.{Facts, SenderKey, sender_keys}
use Rattle.router_rules.specs.Inputs.{DropAs, AdvertAs, SendAs}
use Rattle.router_rules.specs.NodeConfig.{is_addr, is_own}
use Rattle.tree_model.specs.declared.hops.End.{End}
use Rattle.tree_model.specs.declared.locals.LocalSender.{LocalSender}
use Rattle.tree_model.specs.declared.locals.LocalWant.{LocalWant}
use Rattle.tree_model.specs.Networks.{Net, end_at, iface_of, node_of, node_of_end, owner}
use Rattle.tree_model.specs.Valid.{IsValid}
use Rattle.tree_model.specs.Wants.{Locals, live, of_session}
use Rattle.tree_model.proofs.Following.{addr_same, number_same}
use Rattle.tree_model.proofs.Ifaces.{interfaces_are_ends}
use Rattle.network_model.specs.Locals.{sender_at, want_at}
use Rattle.network_model.specs.Worlds.{World, config_of}
use Rattle.laws_network.proofs.Known.{has_some, of_some}
use Rattle.laws_network.proofs.Standing.{own_iface}
use Rattle.script_grammar.specs.Adds.{is_sender, sends, with_sender, without_sender}
use Rattle.script_grammar.specs.Draft.{same_session}
use Rattle.laws_scripts.proofs.Wants.{wants_same}
use Rattle.script_theorem.proofs.Calling.{Makes}
use Rattle.script_theorem.proofs.Keeping.{Stands}

-- ---- the node that has an address
pub record IsEndOf (ends : List End) (a : Addr) (n : ℕ) : Type 0 where
  pub end : ℕ
  pub is : End
  pub at : slice_get ends end ≡ Some is
  pub node : is.node ≡ n
  pub addr : is.iface.addr ≡ a

pub owned : (ends : List End) (a : Addr) (n : ℕ) → owner ends a ≡ Some n → IsEndOf ends a n
owned [] a n e = absurd (cc)
owned (x ∷ es) a n e = by (x.iface.addr.0 == a.0) refl e (owned es a n)
  where
    by : (b : Bool) → (x.iface.addr.0 == a.0) ≡ b → (if b then Some x.node else owner es a) ≡ Some n → (owner es a ≡ Some n → IsEndOf es a n) → IsEndOf (x ∷ es) a n
    by true t h rest = record { end = 0; is = x; at = refl; node = of_some x.node n h; addr = addr_same x.iface.addr a t }
    by false t h rest = let r = rest h in record { end = suc r.end; is = r.is; at = r.at; node = r.node; addr = r.addr }

pub has_own : (q : ℕ) (net : Net) (trees : List (Addr × Addr)) (n : ℕ) (a : Addr) → owner net.ends a ≡ Some n → is_own (config_of q net trees n) a ≡ true
has_own q net trees n a e =
    let r = owned net.ends a n e in
    let node : node_of net.ends r.end ≡ n = ap node_of_end r.at ∙ r.node in
    let place : end_at net.ends n (iface_of net.ends r.end) ≡ Some r.end = ap (λ (z : ℕ). end_at net.ends z (iface_of net.ends r.end)) (sym node)
    ∙ (interfaces_are_ends net).end_of_iface r.end (slice_get_within net.ends r.end r.is r.at) in
    let x = own_iface q net trees n (iface_of net.ends r.end) r.end place in
    let same : x.0 ≡ r.is = of_some x.0 r.is (sym x.1 ∙ r.at) in
    let addr : is_addr x.0.iface.addr a ≡ true = number_same x.0.iface.addr.0 a.0 (ap (λ (z : End). z.iface.addr.0) same ∙ ap (λ (z : Addr). z.0) r.addr) in
    any_in (λ (i : Iface). is_addr i.addr a) x.0.iface (config_of q net trees n).ifaces (got_in (config_of q net trees n).ifaces (iface_of net.ends r.end) x.0.iface x.2) addr

-- its node is there
pub owner_inside : (net : Net) → IsValid net → (a : Addr) (n : ℕ) → owner net.ends a ≡ Some n → n < net.nodes
owner_inside net valid a n e = let r = owned net.ends a n e in subst (λ (z : ℕ). z < net.nodes) r.node (valid.placed r.is (got_in net.ends r.end r.is r.at))

-- ---- room for a sender among few
pub sender_room : (T : SendersOf) (s : Session) (m : ℕ) (l : Locals) (named : List Session) → ((k : SenderKey) (t : TokenBucket) → get T k ≡ Some t → In (sender_at m k) l.senders)
    → ((x : LocalSender) → In x l.senders → In x.session named) → length named ≤ 32
    → length (live l s) ≤ 16 → has_room_at by_sender T s ≡ true
sender_room T s m l named told sessions few all = and_made _ _ (le-leb (size (sessions_in by_sender T)) 32 in_all) (le-leb (size (under by_session by_sender T s)) 16 in_one)
  where
    in_all : size (sessions_in by_sender T) ≤ 32
    in_all =
        let below = set_below by_session (each (λ (k : SenderKey). k.0) (keys T)) named
        (λ z i.
        let k = in_each (λ (k : SenderKey). k.0) z (keys T) i in
        let e = in_each (λ (r : SenderKey × TokenBucket). r.0) k.0 T.rows k.1 in
        let there = told e.0.0 e.0.1 (in_found sender_keys T e.0.0 e.0.1 e.1) in
        subst (λ (y : Session). In y named) (sym (k.2 ∙ ap (λ (y : SenderKey). y.0) e.2)) (sessions (sender_at m e.0.0) there)) in
        let most = size-set_of by_session named in
        omega (arith, below, most, few)

    in_one : size (under by_session by_sender T s) ≤ 16
    in_one =
        let below = size_below by_sender (under by_session by_sender T s) (set_of {o = by_sender} (live l s))
        (λ x t.
        let v = has_some (get (under by_session by_sender T s) x) t in
        let there = told (s, x) v.0 (sym (get-under by_session by_sender T s x) ∙ v.1) in
        in_set_of by_sender (live l s) x (to_each (λ (y : LocalSender). y.sender) (sender_at m (s, x)) _ (to_filter (of_session s) (sender_at m (s, x)) l.senders there (tied_self by_session s)))) in
        let most = size-set_of by_sender (live l s) in
        omega (arith, below, most, all)

-- ---- a sender more
module _ (ends : List End) (l : Locals) (n : ℕ) (s : Session) (x : Sender) (placed : (y : LocalSender) → In y l.senders → owner ends y.sender.addr ≡ Some y.node)
    (own : owner ends x.addr ≡ Some n) where
  abbrev new : LocalSender
  new = record { node = n; session = s; sender = x }

  sender_is : (y : LocalSender) → is_sender s x y ≡ true → (y.session ≡ s) × (y.sender ≡ x)
  sender_is y e = let r = and_both (same_session s y.session) (eq_by_cmp by_sender.cmp x y.sender) e in (sym (tied_same by_session s y.session r.0), sym (tied_same by_sender x y.sender r.1))

  is_sender_of : (y : LocalSender) → y.session ≡ s → y.sender ≡ x → is_sender s x y ≡ true
  is_sender_of y a b = and_made (same_session s y.session) (eq_by_cmp by_sender.cmp x y.sender) (ap (eq_by_cmp by_session.cmp s) a ∙ tied_self by_session s)
      (ap (eq_by_cmp by_sender.cmp x) b ∙ tied_self by_sender x)

  -- a sender of this name is at the node
  same_node : (y : LocalSender) → In y l.senders → y.sender ≡ x → y.node ≡ n
  same_node y i e = of_some y.node n (sym (placed y i) ∙ ap (λ (z : Sender). owner ends z.addr) e ∙ own)

  new_in : In new (with_sender l n s x).senders
  new_in = by (sends l.senders s x) refl
    where
      by : (b : Bool) → sends l.senders s x ≡ b → In new (if b then l else record l { senders = l.senders ++ new ∷ [] }).senders
      by true e =
          let r = in_any (is_sender s x) l.senders e in
          let t = sender_is r.0 r.2 in
          let node = same_node r.0 r.1 t.1 in
          let same : r.0 ≡ new = (λ i. record { node = node i; session = t.0 i; sender = t.1 i }) in
          subst (λ (z : LocalSender). In z l.senders) same r.1
      by false e = in_right new l.senders (new ∷ []) (inl refl)

  old_in : (y : LocalSender) → In y l.senders → In y (with_sender l n s x).senders
  old_in y i = by (sends l.senders s x)
    where
      by : (b : Bool) → In y (if b then l else record l { senders = l.senders ++ new ∷ [] }).senders
      by true = i
      by false = in_left y l.senders (new ∷ []) i

  source : (y : LocalSender) → In y (with_sender l n s x).senders → In y l.senders ⊎ (y ≡ new)
  source y i = by (sends l.senders s x) i
    where
      by : (b : Bool) → In y (if b then l else record l { senders = l.senders ++ new ∷ [] }).senders → In y l.senders ⊎ (y ≡ new)
      by true j = inl j
      by false j = ⊎_elim (λ (k : In y l.senders). inl k) (λ (k : In y (new ∷ [])). ⊎_elim (λ (e : y ≡ new). inr e) (λ (e : ⊥). absurd e) k) (in_append y l.senders (new ∷ []) j)

  -- ---- the call
  module _ (q : ℕ) (u : World) (t : TokenBucket) (h : Stands l u) (ends_are : u.net.ends ≡ ends) (inside : (f : Facts) × (slice_get u.nodes n ≡ Some f)) (named : List Session)
      (sessions : (y : LocalSender) → In y (with_sender l n s x).senders → In y.session named) (few : length named ≤ 32)
      (all : length (live (with_sender l n s x) s) ≤ 16) where
    abbrev l' : Locals
    l' = with_sender l n s x

    key : SenderKey
    key = (s, x)

    put_told : (f : Facts) (k : SenderKey) (v : TokenBucket) → slice_get u.nodes n ≡ Some f → get (put_in f.senders (s, x) t) k ≡ Some v → In (sender_at n k) l'.senders
    put_told f k v at e =
        ⊎_elim (λ (r : (k ≡ (s, x)) × (v ≡ t)). subst (λ (z : SenderKey). In (sender_at n z) l'.senders) (sym r.0) new_in)
        (λ (old : get f.senders k ≡ Some v). old_in (sender_at n k) (h.sender_told n f k v at old))
        (got_put_in sender_keys f.senders (s, x) t k v e)

    put_stays : (T : SendersOf) (k : SenderKey) (v : TokenBucket) → get T k ≡ Some v → (w : TokenBucket) × (get (put_in T (s, x) t) k ≡ Some w)
    put_stays T k v e =
        either (eq_by_cmp sender_keys.cmp k (s, x)) (λ tie. (t, get-put_in sender_keys T (s, x) t k ∙ ap (λ (b : Bool). cond b (Some t) (get T k)) tie))
        (λ apart. (v, get-put_in_other sender_keys T (s, x) t k apart ∙ e))

    pub send_makes : Makes q u n (SendAs s x t) l l'
    send_makes = record {
      taken = λ f at.
          let mine : is_own (config_of q u.net u.trees n) x.addr ≡ true = has_own q u.net u.trees n x.addr (ap (λ (z : List End). owner z x.addr) ends_are ∙ own) in
          let room = sender_room (put_in f.senders (s, x) t) s n l' named (λ k v e. put_told f k v at e) sessions few all in
          ap (λ (b : Bool). needs b local.NotMine (needs (has_room_at by_sender (put_in f.senders (s, x) t) s) local.Full None)) mine
          ∙ ap (λ (b : Bool). needs b local.Full None) room;
      senders_stay = λ y i away. old_in y i;
      senders_were = λ y i away. ⊎_elim (λ (j : In y l.senders). j) (λ (e : y ≡ new). absurd (away (ap (λ (z : LocalSender). z.node) e))) (source y i);
      sends = λ f k v at e. put_told f k v at e;
      sent = λ y i node.
          ⊎_elim
          (λ (j : In y l.senders).
          let r = h.sender_made y j in
          let more = put_stays r.0.senders (y.session, y.sender) r.1 r.3 in
          (r.0, more.0, ap (slice_get u.nodes) (sym node) ∙ r.2, more.1))
          (λ (e : y ≡ new).
          let is : (y.session, y.sender) ≡ (s, x) = (λ i. ((e i).session, (e i).sender)) in
          (inside.0, t, inside.1, ap (get (put_in inside.0.senders (s, x) t)) is ∙ get-put_in_same sender_keys inside.0.senders (s, x) t)) (source y i);
      wants_stay = λ w i away. subst (λ (z : List LocalWant). In w z) (sym (wants_same l n s x)) i;
      wants_were = λ w i away. subst (λ (z : List LocalWant). In w z) (wants_same l n s x) i;
      wants = λ f k v at e. subst (λ (z : List LocalWant). In (want_at n (k, v)) z) (sym (wants_same l n s x)) (h.want_told n f k v at e);
      wanted = λ w i node.
          let r = h.want_made w (subst (λ (z : List LocalWant). In w z) (wants_same l n s x) i) in
          (r.0, r.1, r.2, ap (slice_get u.nodes) (sym node) ∙ r.3, r.4, r.5);
    }

  -- ---- a sender that is advertised: nothing else is asked for
  module _ (q : ℕ) (u : World) (h : Stands l u) (there : (y : LocalSender) × In y l.senders × (y.node ≡ n) × (y.session ≡ s) × (y.sender ≡ x)) where
    pub advert_makes : Makes q u n (AdvertAs s x) l l
    advert_makes = record {
      taken = λ f at.
          let r = h.sender_made there.0 there.1 in
          let same : r.0 ≡ f = of_some r.0 f (sym (ap (slice_get u.nodes) (sym there.2) ∙ r.2) ∙ at) in
          let key : (there.0.session, there.0.sender) ≡ (s, x) = (λ i. (there.3 i, there.4 i)) in
          let found : get f.senders (s, x) ≡ Some r.1 = ap (λ (z : Facts). get z.senders (s, x)) (sym same) ∙ ap (get r.0.senders) (sym key) ∙ r.3 in
          let has_it : has f.senders (s, x) ≡ true = ap is_some found in
          ap (λ (b : Bool). needs b local.Absent None) has_it;
      senders_stay = λ y i away. i;
      senders_were = λ y i away. i;
      sends = λ f k v at e. h.sender_told n f k v at e;
      sent = λ y i node. let r = h.sender_made y i in (r.0, r.1, ap (slice_get u.nodes) (sym node) ∙ r.2, r.3);
      wants_stay = λ w i away. i;
      wants_were = λ w i away. i;
      wants = λ f k v at e. h.want_told n f k v at e;
      wanted = λ w i node. let r = h.want_made w i in (r.0, r.1, r.2, ap (slice_get u.nodes) (sym node) ∙ r.3, r.4, r.5);
    }

  -- ---- a sender that goes
  module _ (q : ℕ) (u : World) (h : Stands l u) (there : (y : LocalSender) × In y l.senders × (y.node ≡ n) × (y.session ≡ s) × (y.sender ≡ x)) where
    abbrev gone : Locals
    gone = without_sender l s x

    stays : (y : LocalSender) → In y l.senders → (is_sender s x y ≡ true → ⊥) → In y gone.senders
    stays y i never = to_filter (λ e. not (is_sender s x e)) y l.senders i (by (is_sender s x y) refl)
      where
        by : (b : Bool) → is_sender s x y ≡ b → not b ≡ true
        by true t = absurd (never t)
        by false t = refl

    was : (y : LocalSender) → In y gone.senders → In y l.senders × (is_sender s x y ≡ true → ⊥)
    was y i =
        let r = in_filter (λ e. not (is_sender s x e)) y l.senders i in
        (r.0, λ t. let no : false ≡ true = ap not (sym t) ∙ r.1 in absurd (cc))

    pub drop_makes : Makes q u n (DropAs s x) l gone
    drop_makes = record {
      taken = λ f at.
          let r = h.sender_made there.0 there.1 in
          let same : r.0 ≡ f = of_some r.0 f (sym (ap (slice_get u.nodes) (sym there.2) ∙ r.2) ∙ at) in
          let key : (there.0.session, there.0.sender) ≡ (s, x) = (λ i. (there.3 i, there.4 i)) in
          let found : get f.senders (s, x) ≡ Some r.1 = ap (λ (z : Facts). get z.senders (s, x)) (sym same) ∙ ap (get r.0.senders) (sym key) ∙ r.3 in
          let has_it : has f.senders (s, x) ≡ true = ap is_some found in
          ap (λ (b : Bool). needs b local.Absent None) has_it;
      senders_stay = λ y i away. stays y i (λ t. away (same_node y i (sender_is y t).1));
      senders_were = λ y i away. (was y i).0;
      sends = λ f k v at e.
          let old = got_without sender_keys f.senders (s, x) k v e in
          stays (sender_at n k) (h.sender_told n f k v at old)
          (λ t.
          let is = sender_is (sender_at n k) t in
          let key : k ≡ (s, x) = (λ i. (is.0 i, is.1 i)) in
          let none : get (without f.senders (s, x)) k ≡ None =
          ap (get (without f.senders (s, x))) key ∙ get-without sender_keys f.senders (s, x) (s, x) ∙ ap (λ (b : Bool). cond (not b) (get f.senders (s, x)) None) (tied_self sender_keys (s, x)) in
          let no : Some v ≡ None = sym e ∙ none in absurd (cc));
      sent = λ y i node.
          let w = was y i in
          let r = h.sender_made y w.0 in
          let apart : eq_by_cmp sender_keys.cmp (s, x) (y.session, y.sender) ≡ false =
          either (eq_by_cmp sender_keys.cmp (s, x) (y.session, y.sender))
          (λ tie. let key = tied_same sender_keys (s, x) (y.session, y.sender) tie in absurd (w.1 (is_sender_of y (ap (λ (z : SenderKey). z.0) (sym key)) (ap (λ (z : SenderKey). z.1) (sym key)))))
          (λ off. off) in (
            r.0,
            r.1,
            ap (slice_get u.nodes) (sym node) ∙ r.2,
            get-without sender_keys r.0.senders (s, x) (y.session, y.sender)
                ∙ ap (λ (b : Bool). cond (not b) (get r.0.senders (y.session, y.sender)) None) apart ∙ r.3,
          );
      wants_stay = λ w i away. i;
      wants_were = λ w i away. i;
      wants = λ f k v at e. h.want_told n f k v at e;
      wanted = λ w i node. let r = h.want_made w i in (r.0, r.1, r.2, ap (slice_get u.nodes) (sym node) ∙ r.3, r.4, r.5);
    }
