-- What may still be called up: for each sender a Path over each hop of its tree before which its node does not know it yet. A Path that brings a path
-- is paid for by itself and by what falls of this.
use Rattle.std.proofs.Common.{◌≡◌, ℕ, ◌+◌, ◌≤◌, List, [], ◌∷◌, length, Bool, true, false, cond, Option, None, Some, ◌⊎◌, inl, inr, ⊎_elim, arith, sym, refl, ap, subst, ◌∙◌}
use Rattle.std.specs.Prelude.{is_some, not, slice_get, sum_by, ◌||◌}
use Rattle.std.specs.List.{filter, flat_map}
use Rattle.rsvp_base.specs.declared.session.Sender.{Sender}
use Rattle.rsvp_base.specs.declared.session.Session.{Session}
use Rattle.rsvp_base.specs.Members.{In}
use Rattle.rsvp_base.specs.Orders.{sessions}
use Rattle.rsvp_base.specs.Table.{get, has}
use Rattle.rsvp_base.specs.TokenBucket.{TokenBucket}
use Rattle.rsvp_base.proofs.Members.{in_each, in_filter}
use Rattle.rsvp_base.proofs.Tables.{either, get-put_in_same, tied_same}
use Rattle.rsvp_messages.specs.declared.message.Message.TheVariants as message
use Rattle.rsvp_messages.specs.declared.message.PathMsg.{PathMsg}
use Rattle.router_rules.specs.Facts.{Facts, PathState, Paths, SenderKey, sender_keys}
use Rattle.router_rules.specs.Inputs.{Spelt}
use Rattle.router_rules.specs.Known.{known}
use Rattle.router_rules.specs.Rule.{Outcome}
use Rattle.tree_model.specs.declared.hops.LinkHop.{LinkHop}
use Rattle.tree_model.specs.Networks.{iface_of, node_of}
use Rattle.tree_model.specs.Trees.{goes_out_of, inward, tree}
use Rattle.tree_model.specs.Wants.{live}
use Rattle.network_model.specs.Bounds.{AreBounds}
use Rattle.network_model.specs.Locals.{locals_of}
use Rattle.network_model.specs.Sound.{IsSoundAt}
use Rattle.network_model.specs.Steps.{Deliver, outcome, sent, step}
use Rattle.network_model.specs.Worlds.{Item, World}
use Rattle.network_model.proofs.Machines.{in_arrived}
use Rattle.network_model.proofs.Quiet.{outcome_by}
use Rattle.network_model.proofs.Stepping.{facts_after_made}
use Rattle.laws_network.proofs.Known.{node_there, of_some}
use Rattle.laws_network.proofs.Standing.{comes_in_told, same_end, inward_there}
use Rattle.settle_passes.proofs.Deliveries.{known_self, same_next}
use Rattle.settle_openings.specs.Opening.{IsGoingOn}
use Rattle.settle_openings.proofs.Kept.{known_on}
use Rattle.settle_openings.proofs.WavePaid.{paid}
use Rattle.settle_refreshes.proofs.Counting.{sum_at_most}
use Rattle.settle_paths.proofs.PreviousHops.{live_among}
use Rattle.std.proofs.lemmas.List.Sums.{sum_by-cons}
use Rattle.tree_model.proofs.Following.{same_number}
use Rattle.settle_openings.specs.Waves.{HasNoAdverts, AreWired}
use Rattle.settle_openings.proofs.Going.{some_session}
use Rattle.settle_openings.proofs.WavePath.{AreAlike, BringsNew, IsPut, after, change, g, input, lane_same, n, none_to, offer_alike, p, paid_both, via_alike}
use Rattle.settle_openings.proofs.WavePath as at_path
use Rattle.settle_openings.proofs.WaveResvs.{pay}
use Rattle.laws_bounds.proofs.Knowing.{has-known}
use Rattle.tree_model.proofs.TreeLaws.{the_root_has_no_inward}
use Rattle.tree_model.specs.declared.locals.LocalSender.{LocalSender}
use Rattle.tree_model.specs.Wants.{Locals, of_session}
use Rattle.settle_senders.proofs.Knowing.{path_known}
use Rattle.settle_openings.proofs.WaveNews.{path_pays}
use Rattle.settle_openings.proofs.WavePath.{new_or_not}
use Rattle.settle_openings.proofs.WaveTaken.{elsewhere, sent_paid}

-- ---- what is left
abbrev pub known_in : Option Facts → SenderKey → Bool
known_in None k = false
known_in (Some f) k = has (known f k.0) k.1

-- the node before the hop does not know the sender yet
abbrev pub is_untold : World → LocalSender → LinkHop → Bool
is_untold w x h = not (known_in (slice_get w.nodes (node_of w.net.ends h.from)) (x.session, x.sender))

abbrev pub tree_of : World → LocalSender → List LinkHop
tree_of w x = tree w.net.hops x.session.group x.sender.addr

abbrev pub many : World → Session → ℕ
many w s = length (live (locals_of w) s)

abbrev pub left_of : World → LocalSender → ℕ
left_of w x = sum_by (λ h. many w x.session) (filter (is_untold w x) (tree_of w x))

abbrev pub left_in : World → ℕ
left_in w = sum_by (left_of w) (locals_of w).senders

-- ---- sums
pub fewer : {A : Type 0} (c : ℕ) (a b : A → Bool) (xs : List A) → ((x : A) → In x xs → a x ≡ true → b x ≡ true) → sum_by (λ (x : A). c) (filter a xs) ≤ sum_by (λ (x : A). c) (filter b xs)
fewer c a b [] more = omega arith
fewer {A} c a b (x ∷ xs) more = by (a x) (b x) refl refl (fewer c a b xs (λ y i. more y (inr i)))
  where
    w : A → ℕ
    w z = c

    by : (d e : Bool) → a x ≡ d → b x ≡ e → sum_by (λ (z : A). c) (filter a xs) ≤ sum_by (λ (z : A). c) (filter b xs)
        → sum_by (λ (z : A). c) (cond d (x ∷ filter a xs) (filter a xs)) ≤ sum_by (λ (z : A). c) (cond e (x ∷ filter b xs) (filter b xs))
    by true true f g rest = omega (arith, rest, sum_by-cons (λ (z : A). c) x (filter a xs), sum_by-cons (λ (z : A). c) x (filter b xs))
    by true false f g rest = let bad : true ≡ false = sym (more x (inl refl) f) ∙ g in absurd (cc)
    by false true f g rest = omega (arith, rest, sum_by-cons (λ (z : A). c) x (filter b xs))
    by false false f g rest = rest

-- those that pass one of two tests, of which none passes both
pub parted : {A : Type 0} (c : ℕ) (a t b : A → Bool) (xs : List A) → ((x : A) → In x xs → a x ≡ true → b x ≡ true) → ((x : A) → In x xs → t x ≡ true → (b x ≡ true) × (a x ≡ false))
    → sum_by (λ (x : A). c) (filter a xs) + sum_by (λ (x : A). c) (filter t xs) ≤ sum_by (λ (x : A). c) (filter b xs)
parted c a t b [] more apart = omega arith
parted {A} c a t b (x ∷ xs) more apart = by (a x) (t x) (b x) refl refl refl (parted c a t b xs (λ y i. more y (inr i)) (λ y i. apart y (inr i)))
  where
    by : (d e g : Bool) → a x ≡ d → t x ≡ e → b x ≡ g
        → sum_by (λ (z : A). c) (filter a xs) + sum_by (λ (z : A). c) (filter t xs) ≤ sum_by (λ (z : A). c) (filter b xs)
        → sum_by (λ (z : A). c) (cond d (x ∷ filter a xs) (filter a xs)) + sum_by (λ (z : A). c) (cond e (x ∷ filter t xs) (filter t xs)) ≤ sum_by (λ (z : A). c) (cond g (x ∷ filter b xs) (filter b xs))
    by true true g p r s rest = let bad : true ≡ false = sym p ∙ (apart x (inl refl) r).1 in absurd (cc)
    by true false true p r s rest = omega (arith, rest, sum_by-cons (λ (z : A). c) x (filter a xs), sum_by-cons (λ (z : A). c) x (filter b xs))
    by true false false p r s rest = let bad : true ≡ false = sym (more x (inl refl) p) ∙ s in absurd (cc)
    by false true true p r s rest = omega (arith, rest, sum_by-cons (λ (z : A). c) x (filter t xs), sum_by-cons (λ (z : A). c) x (filter b xs))
    by false true false p r s rest = let bad : true ≡ false = sym (apart x (inl refl) r).0 ∙ s in absurd (cc)
    by false false true p r s rest = omega (arith, rest, sum_by-cons (λ (z : A). c) x (filter b xs))
    by false false false p r s rest = rest

-- where each falls, and one by this much
one_falls : {A : Type 0} (v w : A → ℕ) (d : ℕ) (xs : List A) → ((x : A) → In x xs → v x ≤ w x) → (x : A) → In x xs → v x + d ≤ w x → sum_by v xs + d ≤ sum_by w xs
one_falls v w d [] all x i less = absurd i
one_falls {A} v w d (z ∷ zs) all x i less =
    ⊎_elim
    (λ (same : x ≡ z).
    let here : v z + d ≤ w z = subst (λ (y : A). v y + d ≤ w y) same less in
    let rest = sum_at_most v w zs (λ y j. all y (inr j)) in
    omega (arith, here, rest, sum_by-cons v z zs, sum_by-cons w z zs))
    (λ (j : In x zs).
    let here = all z (inl refl) in
    let rest = one_falls v w d zs (λ y k. all y (inr k)) x j less in
    omega (arith, here, rest, sum_by-cons v z zs, sum_by-cons w z zs)) i

-- a live sender is one of the senders
pub of_live : (l : Locals) (s : Session) (x : Sender) → In x (live l s) → (z : LocalSender) × In z l.senders × (z.session ≡ s) × (z.sender ≡ x)
of_live l s x i =
    let r = in_each (λ (z : LocalSender). z.sender) x (filter (of_session s) l.senders) i in
    let t = in_filter (of_session s) r.0 l.senders r.1 in
    (r.0, t.0, sym (tied_same sessions s r.0.session t.1), sym r.2)

-- ---- a delivery
module _ (q : ℕ) (u : World) (r : IsGoingOn q u) where
  abbrev next : World
  next = step q (Deliver 0) u

  bounds : AreBounds q u
  bounds = (r.follows some_session).paths.bounds

  same_locals : locals_of next ≡ locals_of u
  same_locals = (same_next q 0 u bounds u (known_self q u bounds).same).locals

  -- who is known stays known
  known_still : (n : ℕ) (k : SenderKey) → known_in (slice_get u.nodes n) k ≡ true → known_in (slice_get next.nodes n) k ≡ true
  known_still n k e = by (slice_get u.nodes n) refl e
    where
      by : (o : Option Facts) → slice_get u.nodes n ≡ o → known_in o k ≡ true → known_in (slice_get next.nodes n) k ≡ true
      by None at h = absurd (cc)
      by (Some f) at h = ap (λ (o : Option Facts). known_in o k) (facts_after_made q (Deliver 0) u n f at) ∙ known_on q u r some_session n f k.0 k.1 at h

  untold_before : (x : LocalSender) (h : LinkHop) → is_untold next x h ≡ true → is_untold u x h ≡ true
  untold_before x h e =
      either (known_in (slice_get u.nodes (node_of u.net.ends h.from)) (x.session, x.sender))
      (λ yes. let bad : not true ≡ true = ap not (sym (known_still (node_of u.net.ends h.from) (x.session, x.sender) yes)) ∙ e in absurd (cc))
      (λ unknown. ap not unknown)

  same_many : (s : Session) → many next s ≡ many u s
  same_many s = ap (λ (l : Locals). length (live l s)) same_locals

  left_as : (x : LocalSender) → left_of next x ≡ sum_by (λ h. many u x.session) (filter (is_untold next x) (tree_of u x))
  left_as x = ap (λ (c : ℕ). sum_by (λ h. c) (filter (is_untold next x) (tree_of u x))) (same_many x.session)

  left_falls : (x : LocalSender) → left_of next x ≤ left_of u x
  left_falls x =
      let a = left_as x in
      let b = fewer (many u x.session) (is_untold next x) (is_untold u x) (tree_of u x) (λ h i e. untold_before x h e) in
      omega (arith, a, b)

  same_senders : sum_by (left_of next) (locals_of next).senders ≡ sum_by (left_of next) (locals_of u).senders
  same_senders = ap (λ (l : Locals). sum_by (left_of next) l.senders) same_locals

  pub left_below : left_in next ≤ left_in u
  left_below =
      let a = same_senders in
      let b = sum_at_most (left_of next) (left_of u) (locals_of u).senders (λ x i. left_falls x) in
      omega (arith, a, b)

  module _ (mute : HasNoAdverts u) (y : Item) (m : PathMsg) (arr : slice_get u.flight 0 ≡ Some y) (spelt : y.arrival ≡ Spelt (message.Path m))
      (f : Facts) (at : slice_get u.nodes (node_of u.net.ends y.end) ≡ Some f) (news : BringsNew q u r mute y m arr spelt f at) where
    abbrev node : ℕ
    node = node_of u.net.ends y.end

    abbrev key : SenderKey
    key = (m.session, news.put.sender)

    here : (inward u.net node m.session.group news.put.sender.addr ≡ Some y.end) × IsSoundAt u key y.end (m.hop.addr, news.put.tspec)
    here =
        let way = comes_in_told q u.net u.trees node m.session (iface_of u.net.ends y.end) news.put.sender news.put.tree in
        let inside = inward_there u.net bounds.net node way.0 m.session.group news.put.sender.addr way.1 in
        let lt = (bounds.flight y (in_arrived (Deliver 0) u y arr)).end in
        let end : way.0 ≡ y.end = same_end u.net way.0 y.end inside.0 lt inside.1 way.2 in
        let at_end = way.1 ∙ ap Some end in
        (at_end, (r.follows some_session).paths.sound.items y m news.put.sender news.put.tspec (in_arrived (Deliver 0) u y arr) spelt news.put.of at_end)

    -- the node did not know the sender
    not_known : has (known f m.session) news.put.sender ≡ false
    not_known = by (get f.senders key) (get f.paths key) refl refl
      where
        by : (o : Option TokenBucket) (v : Option PathState) → get f.senders key ≡ o → get f.paths key ≡ v → has (known f m.session) news.put.sender ≡ false
        by (Some t) v a b =
            let root = (the_root_has_no_inward u.net bounds.net).root node m.session.group news.put.sender.addr ((r.follows some_session).paths.hosts.placed node f key t at a) in
            let bad : None ≡ Some y.end = sym root ∙ here.0 in absurd (cc)
        by None (Some x) a b = let bad : None ≡ Some x = sym news.new ∙ b in absurd (cc)
        by None None a b = has-known f m.session news.put.sender ∙ (λ i. is_some (a i) || is_some (b i))

    -- and knows it then
    known_then : known_in (slice_get next.nodes node) key ≡ true
    known_then =
        let g_is : get (g q u r mute y m arr spelt f at).paths key ≡ Some _ = ap (λ (z : Paths). get z key) news.put.is ∙ get-put_in_same sender_keys f.paths key _ in
        let then : get (after q u r mute y m arr spelt f at).paths key ≡ Some _ =
        ap (λ (o : Outcome). get o.facts.paths key) (outcome_by q (Deliver 0) u node f (input q u r mute y m arr spelt) refl (at_path.came q u r mute y m arr spelt)) ∙ g_is in
        ap (λ (o : Option Facts). known_in o key) (facts_after_made q (Deliver 0) u node f at) ∙ path_known (after q u r mute y m arr spelt f at) m.session news.put.sender _ then

    pub new_left : left_in next + sum_by (λ h. many u m.session) (filter (goes_out_of u.net.ends node) (tree u.net.hops m.session.group news.put.sender.addr)) ≤ left_in u
    new_left =
        let l = here.1.live in
        let z = of_live (locals_of u) m.session news.put.sender (live_among u m.session news.put.sender news.put.tspec l) in
        let key_is : ◌≡◌ {A = SenderKey} (z.0.session, z.0.sender) key = (λ j. (z.2 j, z.3 j)) in
        let falls : left_of next z.0 + sum_by (λ h. many u m.session) (filter (goes_out_of u.net.ends node) (tree u.net.hops m.session.group news.put.sender.addr)) ≤ left_of u z.0 =
        (let a = left_as z.0 in
        let b = parted (many u z.0.session) (is_untold next z.0) (goes_out_of u.net.ends node) (is_untold u z.0) (tree_of u z.0) (λ h i e. untold_before z.0 h e)
        (λ h i e.
        let n_is : node_of u.net.ends h.from ≡ node = same_number _ _ e in (
          ap (λ (w : ℕ × SenderKey). not (known_in (slice_get u.nodes w.0) w.1)) (λ j. (n_is j, key_is j)) ∙ ap (λ (o : Option Facts). not (known_in o key)) at ∙ ap not not_known,
          ap (λ (w : ℕ × SenderKey). not (known_in (slice_get next.nodes w.0) w.1)) (λ j. (n_is j, key_is j)) ∙ ap not known_then,
        )) in
        let c : sum_by (λ h. many u z.0.session) (filter (goes_out_of u.net.ends node) (tree_of u z.0))
        ≡ sum_by (λ h. many u m.session) (filter (goes_out_of u.net.ends node) (tree u.net.hops m.session.group news.put.sender.addr)) =
        (λ j. sum_by (λ h. many u (z.2 j)) (filter (goes_out_of u.net.ends node) (tree u.net.hops (z.2 j).group (z.3 j).addr))) in
        omega (arith, a, b, c)) in
        let sum = one_falls (left_of next) (left_of u) (sum_by (λ h. many u m.session) (filter (goes_out_of u.net.ends node) (tree u.net.hops m.session.group news.put.sender.addr)))
        (locals_of u).senders (λ x i. left_falls x) z.0 z.1 falls in
        let same = same_senders in
        omega (arith, sum, same)

  -- ---- so a Path pays, with what falls
  module _ (wired : AreWired u.net) (mute : HasNoAdverts u) (y : Item) (m : PathMsg) (arr : slice_get u.flight 0 ≡ Some y) (spelt : y.arrival ≡ Spelt (message.Path m)) where
    abbrev spot : ℕ
    spot = node_of u.net.ends y.end

    pub facts_there : (f : Facts) × (slice_get u.nodes spot ≡ Some f)
    facts_there = node_there q u bounds.net u y.end (known_self q u bounds) (bounds.flight y (in_arrived (Deliver 0) u y arr)).end

    alone : (most : ℕ) → paid u spot (outcome q (Deliver 0) u spot facts_there.0).sent ≤ most → length (flat_map (pay u) (sent q (Deliver 0) u)) ≤ most
    alone most few =
        sent_paid q (Deliver 0) u spot most
        (λ j f at. (
          λ same.
              let f_is : facts_there.0 ≡ f = of_some facts_there.0 f (sym facts_there.1 ∙ ap (slice_get u.nodes) (sym same) ∙ at) in
              subst (λ (z : ℕ × Facts). paid u z.0 (outcome q (Deliver 0) u z.0 z.1).sent ≤ most) (λ k. (sym same k, f_is k)) few,
          λ apart. ap (λ (o : Outcome). paid u j o.sent) (elsewhere q u bounds y arr j f apart),
        ))

    -- it brings nothing new, or is paid for
    pub path_left : (length (flat_map (pay u) (sent q (Deliver 0) u)) ≤ 0) ⊎ (BringsNew q u r mute y m arr spelt facts_there.0 facts_there.1 × (length (flat_map (pay u) (sent q (Deliver 0) u)) + left_in next ≤ many u m.session + left_in u))
    path_left =
        ⊎_elim
        (λ (news : BringsNew q u r mute y m arr spelt facts_there.0 facts_there.1).
        let out = sum_by (λ h. many u m.session) (filter (goes_out_of u.net.ends spot) (tree u.net.hops m.session.group news.put.sender.addr)) in
        let a = alone (many u m.session + out) (path_pays q u r wired mute y m arr spelt facts_there.0 facts_there.1 news) in
        let b = new_left mute y m arr spelt facts_there.0 facts_there.1 news in
        inr (news, omega (arith, a, b)))
        (λ (none : paid u spot (outcome q (Deliver 0) u spot facts_there.0).sent ≡ 0). inl (alone 0 (omega (arith, none))))
        (new_or_not q u r mute y m arr spelt facts_there.0 facts_there.1)
