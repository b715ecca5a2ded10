-- Each session of a seed has four senders, and there are twelve together.
use Rattle.std.proofs.Common.{◌≡◌, ℕ, suc, ◌+◌, ◌≤◌, List, [], ◌∷◌, ◌++◌, length, Bool, true, false, cond, Some, inl, inr, ⊎_elim, arith, sym, refl, ap, subst, ◌∙◌}
use Rattle.std.specs.Prelude.{map as each, slice_get}
use Rattle.std.specs.List.{filter, range_with_len}
use Rattle.std.specs.Ordering.{eq_by_cmp}
use Rattle.std.proofs.lemmas.List.{length-map}
use Rattle.rsvp_base.specs.declared.session.Sender.{Sender}
use Rattle.rsvp_base.specs.declared.session.Session.{Session}
use Rattle.rsvp_base.specs.declared.style.StyleKind.{StyleKind}
use Rattle.rsvp_base.specs.declared.style.StyleKind.TheVariants.{Wild, Fixed, Shared}
use Rattle.rsvp_base.specs.Members.{In}
use Rattle.rsvp_base.specs.Orders.{sessions}
use Rattle.rsvp_base.specs.Table.{get, keys}
use Rattle.rsvp_base.specs.TokenBucket.{TokenBucket}
use Rattle.rsvp_base.proofs.Counts.{in_found}
use Rattle.rsvp_base.proofs.Members.{in_append, in_each, in_filter, in_flat_map, to_each, to_filter}
use Rattle.rsvp_base.proofs.Tables.{tied_same, tied_self}
use Rattle.router_rules.specs.Facts.{Facts, SenderKey, sender_keys}
use Rattle.tree_model.specs.Chains.{NoRepeats}
use Rattle.tree_model.specs.declared.hops.End.{End}
use Rattle.tree_model.specs.declared.locals.LocalSender.{LocalSender}
use Rattle.tree_model.specs.Networks.{owner}
use Rattle.tree_model.specs.Wants.{live, of_session}
use Rattle.tree_model.proofs.Counts.{not_longer}
use Rattle.network_model.specs.Bounds.{AreHosts}
use Rattle.network_model.specs.Locals.{locals_of, sender_at, senders_from}
use Rattle.network_model.specs.Worlds.{World}
use Rattle.network_model.proofs.NodeLocals.{sender_told}
use Rattle.laws_network.proofs.Hosts.{once_keys}
use Rattle.laws_network.proofs.Known.{of_some}
use Rattle.grown_network.specs.Hosts.{local_sender, senders, senders_of, session_of, session_word, styles}

module _ (s : Session) where
  abbrev sending : List LocalSender → List Sender
  sending xs = each (λ (x : LocalSender). x.sender) (filter (of_session s) xs)

  sending_told : (x : Sender) (xs : List LocalSender) → In x (sending xs) → (y : LocalSender) × In y xs × (y.session ≡ s) × (y.sender ≡ x)
  sending_told x xs i =
      let e = in_each (λ (x : LocalSender). x.sender) x (filter (of_session s) xs) i in
      let f = in_filter (of_session s) e.0 xs e.1 in
      (e.0, f.0, sym (tied_same sessions s e.0.session f.1), sym e.2)

  -- senders of one node before those of others
  once_more : (j : ℕ) (ks : List SenderKey) (rest : List LocalSender) → NoRepeats ks → NoRepeats (sending rest) → ((k : SenderKey) → In k ks → In k.1 (sending rest) → k.0 ≡ s → ⊥)
      → NoRepeats (sending (each (sender_at j) ks ++ rest))
  once_more j [] rest once later apart = later
  once_more j (k ∷ ks) rest once later apart = by (of_session s (sender_at j k)) refl (once_more j ks rest once.1 later (λ x i. apart x (inr i)))
    where
      new : of_session s (sender_at j k) ≡ true → In k.1 (sending (each (sender_at j) ks ++ rest)) → ⊥
      new t i =
          let mine : s ≡ k.0 = tied_same sessions s k.0 t in
          let y = sending_told k.1 (each (sender_at j) ks ++ rest) i in
          ⊎_elim
          (λ (here : In y.0 (each (sender_at j) ks)).
          let z = in_each (sender_at j) y.0 ks here in
          let same : z.0 ≡ k = (λ i. ((sym (ap (λ (x : LocalSender). x.session) z.2) ∙ y.2 ∙ mine) i, (sym (ap (λ (x : LocalSender). x.sender) z.2) ∙ y.3) i)) in
          once.0 (subst (λ (x : SenderKey). In x ks) same z.1))
          (λ (there : In y.0 rest).
          apart k (inl refl)
          (subst (λ (x : Sender). In x (sending rest)) y.3
          (to_each (λ (x : LocalSender). x.sender) y.0 (filter (of_session s) rest) (to_filter (of_session s) y.0 rest there
          (subst (λ (x : Session). eq_by_cmp sessions.cmp s x ≡ true) (sym y.2) (tied_self sessions s)))))
          (sym mine))
          (in_append y.0 (each (sender_at j) ks) rest y.1)

      by : (b : Bool) → of_session s (sender_at j k) ≡ b → NoRepeats (sending (each (sender_at j) ks ++ rest))
          → NoRepeats (each (λ (x : LocalSender). x.sender) (cond b (sender_at j k ∷ filter (of_session s) (each (sender_at j) ks ++ rest)) (filter (of_session s) (each (sender_at j) ks ++ rest))))
      by true t r = (new t, r)
      by false t r = r

  -- a sender is at one node
  once_from : (ends : List End) (j : ℕ) (fs : List Facts) → ((n : ℕ) (f : Facts) (k : SenderKey) (t : TokenBucket) → slice_get fs n ≡ Some f → get f.senders k ≡ Some t
      → owner ends k.1.addr ≡ Some (j + n)) → NoRepeats (sending (senders_from j fs))
  once_from ends j [] placed = tt
  once_from ends j (f ∷ fs) placed =
      once_more j (keys f.senders) (senders_from (suc j) fs) (once_keys sender_keys f.senders.rows f.senders.sorted)
      (once_from ends (suc j) fs (λ n g k t a h. let e : j + suc n ≡ suc j + n = omega arith in placed (suc n) g k t a h ∙ ap Some e))
      (λ k i there same.
      let row = in_each (λ (e : SenderKey × TokenBucket). e.0) k f.senders.rows i in
      let here : owner ends k.1.addr ≡ Some (j + 0) = ap (λ (z : SenderKey). owner ends z.1.addr) row.2 ∙ placed 0 f row.0.0 row.0.1 refl (in_found sender_keys f.senders row.0.0 row.0.1 row.1) in
      let y = sending_told k.1 (senders_from (suc j) fs) there in
      let r = sender_told (suc j) fs y.0 y.1 in
      let addr : r.key.1 ≡ k.1 = sym (ap (λ (x : LocalSender). x.sender) r.is) ∙ y.3 in
      let far : owner ends k.1.addr ≡ Some (j + suc r.place) = ap (λ (z : Sender). owner ends z.addr) (sym addr) ∙ placed (suc r.place) r.facts r.key r.tspec r.at r.there in
      let z : Some (j + 0) ≡ Some (j + suc r.place) = sym here ∙ far in
      let bad : j + 0 ≡ j + suc r.place = of_some _ _ z in
      absurd (omega arith))

-- ---- styles have sessions of their own
same_style : (a b : StyleKind) → session_of a ≡ session_of b → a ≡ b
same_style Wild Wild e = refl
same_style Wild Fixed e = let g = ap (λ (s : Session). s.group.0) e in absurd (omega (arith, g))
same_style Wild Shared e = let g = ap (λ (s : Session). s.group.0) e in absurd (omega (arith, g))
same_style Fixed Wild e = let g = ap (λ (s : Session). s.group.0) e in absurd (omega (arith, g))
same_style Fixed Fixed e = refl
same_style Fixed Shared e = let g = ap (λ (s : Session). s.group.0) e in absurd (omega (arith, g))
same_style Shared Wild e = let g = ap (λ (s : Session). s.group.0) e in absurd (omega (arith, g))
same_style Shared Fixed e = let g = ap (λ (s : Session). s.group.0) e in absurd (omega (arith, g))
same_style Shared Shared e = refl

-- a sender of a seed is one of its style
pub of_style : (seed : ℕ) (x : LocalSender) → In x (senders seed) → (st : StyleKind) × (x.session ≡ session_of st) × In x (senders_of st (session_word seed st))
unfolding senders
of_style seed x i =
    let st = in_flat_map (λ st. senders_of st (session_word seed st)) x styles i in
    let k = in_each (local_sender st.0 (session_word seed st.0)) x (range_with_len 0 4) st.2 in
    (st.0, ap (λ (z : LocalSender). z.session) k.2, st.2)

module _ (seed : ℕ) (o : World) (hosts : AreHosts o) (asked : (x : LocalSender) → In x (locals_of o).senders → In x (senders seed)) where
  pub live_few : (st : StyleKind) → length (live (locals_of o) (session_of st)) ≤ 4
  live_few st =
      let s : Session = session_of st in
      let once = once_from s o.net.ends 0 o.nodes (λ n f k t a h. let e : n ≡ 0 + n = omega arith in hosts.placed n f k t a h ∙ ap Some e) in
      let four : List Sender = each (λ (x : LocalSender). x.sender) (senders_of st (session_word seed st)) in
      let within = not_longer (live (locals_of o) s) four once
      (λ x i.
      let y = sending_told s x (locals_of o).senders i in
      let z = of_style seed y.0 (asked y.0 y.1) in
      let same : z.0 ≡ st = same_style z.0 st (sym z.1 ∙ y.2) in
      subst (λ (w : Sender). In w four) y.3
      (to_each (λ (w : LocalSender). w.sender) y.0 (senders_of st (session_word seed st)) (subst (λ (d : StyleKind). In y.0 (senders_of d (session_word seed d))) same z.2))) in
      let size : length four ≡ 4 = refl in
      omega (arith, within, size)

  -- each is of one of three sessions
  by_style : (xs : List LocalSender) → ((x : LocalSender) → In x xs → In x (senders seed))
      → length xs ≤ length (filter (of_session (session_of Wild)) xs) + (length (filter (of_session (session_of Fixed)) xs) + length (filter (of_session (session_of Shared)) xs))
  by_style [] all = omega arith
  by_style (x ∷ xs) all =
      let rest = by_style xs (λ y i. all y (inr i)) in
      let a = longer (session_of Wild) in
      let b = longer (session_of Fixed) in
      let c = longer (session_of Shared) in
      let z = of_style seed x (all x (inl refl)) in
      by z.0 z.1 rest a b c
    where
      longer : (s : Session) → length (filter (of_session s) xs) ≤ length (filter (of_session s) (x ∷ xs))
      longer s = go (of_session s x)
        where
          go : (b : Bool) → length (filter (of_session s) xs) ≤ length (cond b (x ∷ filter (of_session s) xs) (filter (of_session s) xs))
          go true = omega arith
          go false = omega arith

      more : (s : Session) → x.session ≡ s → length (filter (of_session s) (x ∷ xs)) ≡ suc (length (filter (of_session s) xs))
      more s e = ap (λ (b : Bool). length (cond b (x ∷ filter (of_session s) xs) (filter (of_session s) xs))) (ap (eq_by_cmp sessions.cmp s) e ∙ tied_self sessions s)

      by : (st : StyleKind) → x.session ≡ session_of st
          → length xs ≤ length (filter (of_session (session_of Wild)) xs) + (length (filter (of_session (session_of Fixed)) xs) + length (filter (of_session (session_of Shared)) xs))
          → length (filter (of_session (session_of Wild)) xs) ≤ length (filter (of_session (session_of Wild)) (x ∷ xs))
          → length (filter (of_session (session_of Fixed)) xs) ≤ length (filter (of_session (session_of Fixed)) (x ∷ xs))
          → length (filter (of_session (session_of Shared)) xs) ≤ length (filter (of_session (session_of Shared)) (x ∷ xs))
          → length (x ∷ xs)
          ≤ length (filter (of_session (session_of Wild)) (x ∷ xs)) + (length (filter (of_session (session_of Fixed)) (x ∷ xs)) + length (filter (of_session (session_of Shared)) (x ∷ xs)))
      by Wild e rest a b c = let m = more (session_of Wild) e in omega (arith, rest, a, b, c, m)
      by Fixed e rest a b c = let m = more (session_of Fixed) e in omega (arith, rest, a, b, c, m)
      by Shared e rest a b c = let m = more (session_of Shared) e in omega (arith, rest, a, b, c, m)

  pub twelve_senders : length (locals_of o).senders ≤ 12
  twelve_senders =
      let all = by_style (locals_of o).senders asked in
      let a = live_few Wild in
      let b = live_few Fixed in
      let c = live_few Shared in
      let la = length-map (filter (of_session (session_of Wild)) (locals_of o).senders) (λ (x : LocalSender). x.sender) in
      let lb = length-map (filter (of_session (session_of Fixed)) (locals_of o).senders) (λ (x : LocalSender). x.sender) in
      let lc = length-map (filter (of_session (session_of Shared)) (locals_of o).senders) (λ (x : LocalSender). x.sender) in
      omega (arith, all, a, b, c, la, lb, lc)
