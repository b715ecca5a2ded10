-- Which nodes a step changes, and where a send goes.
use Rattle.std.proofs.Common.{◌≡◌, ℕ, suc, ◌+◌, List, [], ◌∷◌, ◌++◌, Bool, true, false, Option, None, Some, inl, ⊎_elim, arith, refl, sym, ap, subst, ◌∙◌}
use Rattle.std.specs.Prelude.{slice_get, ◌==◌, not}
use Rattle.std.specs.List.{filter}
use Rattle.rsvp_base.specs.declared.addr.Addr.{Addr}
use Rattle.rsvp_base.specs.Members.{In}
use Rattle.rsvp_base.proofs.Members.{in_filter, to_filter}
use Rattle.tree_model.specs.Goals.{addr_of}
use Rattle.router_examples.specs.RouterRules.Facts.{Facts}
use Rattle.router_examples.specs.RouterRules.Inputs.{Input, Came}
use Rattle.router_examples.specs.RouterRules.NodeConfig.{is_addr}
use Rattle.router_examples.specs.RouterRules.Rule.{Outcome, rule}
use Rattle.tree_model.specs.declared.hops.End.{End}
use Rattle.tree_model.specs.Networks.{Net, iface_of, peers}
use Rattle.tree_model.proofs.Following.{addr_same, addr_itself}
use Rattle.network_model.specs.Laws.{ADeliveryChangesOneNode, APieceChangesEveryNode, is_still, TheRestChangeNoNode, WhereASendGoes, WhatIsSentIsCopied}
use Rattle.network_model.specs.Links.{is_group, or_all, ends_toward, goes_to, all_copies}
use Rattle.network_model.specs.Steps.{Step, Piece, Deliver, Lose, Copy, At, ClearAt, Trace, Report, Flags, Adverts, Inject, Reroute, input_at, still, outcome_of, outcome, facts_from, sent_from, step}
use Rattle.network_model.specs.Worlds.{Item, World, config_of}
use Rattle.network_model.proofs.Quiet.{IsWaited, IsCame, input_found, input_came}
use Rattle.network_model.proofs.Stepping.{copies_found, copies_made, facts_after_found, facts_after_made, sent_found, sent_made}

pub a_piece_changes_every_node : (q : ℕ) (w : World) (ms : ℕ) → APieceChangesEveryNode q w ms
a_piece_changes_every_node q w ms n f a = facts_after_made q (Piece ms) w n f a

-- a node to which nothing comes stays
pub unchanged : (q : ℕ) (s : Step) (w : World) (n : ℕ) → input_at s w n ≡ None → slice_get (step q s w).nodes n ≡ slice_get w.nodes n
unchanged q s w n e = by (slice_get w.nodes n) refl
  where
    none : (o : Option Facts) → slice_get (step q s w).nodes n ≡ o → slice_get w.nodes n ≡ None → o ≡ None
    none None t a = refl
    none (Some g) t a = let r = facts_after_found q s w n g t in let no : Some r.0 ≡ None = sym r.1 ∙ a in absurd (cc)

    by : (o : Option Facts) → slice_get w.nodes n ≡ o → slice_get (step q s w).nodes n ≡ o
    by None a = none (slice_get (step q s w).nodes n) refl a
    by (Some f) a = facts_after_made q s w n f a ∙ ap (λ (i : Option Input). Some (outcome_of q i s w n f).facts) e

module _ (q : ℕ) (w : World) (k : ℕ) (x : Item) (e : End) (there : slice_get w.flight k ≡ Some x) (end : slice_get w.net.ends x.end ≡ Some e) where
  delivered_to : (n : ℕ) → (n ≡ e.node → ⊥) → input_at (Deliver k) w n ≡ None
  delivered_to n other = by (input_at (Deliver k) w n) refl
    where
      by : (o : Option Input) → input_at (Deliver k) w n ≡ o → o ≡ None
      by None t = refl
      by (Some i) t =
          ⊎_elim
          (λ (h : IsWaited (Deliver k) w n i). let no : Deliver k ≡ Piece h.ms = h.step in absurd (cc))
          (λ (h : IsCame (Deliver k) w n i).
          let same : h.item ≡ x = (let z : Some h.item ≡ Some x = sym h.arrives ∙ there in cc) in
          let ends : h.end ≡ e = (let z : Some h.end ≡ Some e = sym h.there ∙ ap (λ (y : Item). slice_get w.net.ends y.end) same ∙ end in cc) in
          absurd (other (sym h.node ∙ ap (λ (y : End). y.node) ends)))
          (input_found (Deliver k) w n i refl t)

  pub a_delivery_changes_one_node : ADeliveryChangesOneNode q w k x e
  a_delivery_changes_one_node = record {
    node = λ f a.
        let here : w.clock + 0 ≡ w.clock = omega arith in
        subst (λ (c : ℕ). slice_get (step q (Deliver k) w).nodes e.node ≡ Some (rule (config_of q w.net w.trees e.node) (config_of q w.net w.trees e.node) c
        (Came (iface_of w.net.ends x.end) x.dst x.arrival) f).facts) here
        (facts_after_made q (Deliver k) w e.node f a ∙ ap (λ (i : Option Input). Some (outcome_of q i (Deliver k) w e.node f).facts) (input_came (Deliver k) w x e there end));
    others = λ n other. unchanged q (Deliver k) w n (delivered_to n other);
    flight = refl;
  }

-- ---- steps that change no node
nothing_comes : (s : Step) (w : World) (n : ℕ) → is_still s ≡ true → input_at s w n ≡ None
nothing_comes (Piece ms) w n e = absurd (cc)
nothing_comes (Deliver k) w n e = absurd (cc)
nothing_comes (Lose k) w n e = refl
nothing_comes (Copy k) w n e = refl
nothing_comes (At m l) w n e = absurd (cc)
nothing_comes (ClearAt m) w n e = absurd (cc)
nothing_comes (Trace on) w n e = refl
nothing_comes (Report r) w n e = refl
nothing_comes Flags w n e = refl
nothing_comes Adverts w n e = refl
nothing_comes (Inject t dst a) w n e = refl
nothing_comes (Reroute g s hops) w n e = absurd (cc)

module _ (q : ℕ) (s : Step) (w : World) (none : (n : ℕ) → input_at s w n ≡ None) where
  stays : (n : ℕ) (f : Facts) → outcome q s w n f ≡ still f
  stays n f = ap (λ (i : Option Input). outcome_of q i s w n f) (none n)

  all_stay : (n : ℕ) (fs : List Facts) → facts_from q s w n fs ≡ fs
  all_stay n [] = refl
  all_stay n (f ∷ fs) = λ i. (stays n f i).facts ∷ all_stay (suc n) fs i

  none_send : (n : ℕ) (fs : List Facts) → sent_from q s w n fs ≡ []
  none_send n [] = refl
  none_send n (f ∷ fs) = ap (λ (o : Outcome). all_copies w.net w.made n o.sent ++ sent_from q s w (suc n) fs) (stays n f) ∙ none_send (suc n) fs

pub the_rest_change_no_node : (q : ℕ) (w : World) (s : Step) → is_still s ≡ true → TheRestChangeNoNode q w s
the_rest_change_no_node q w s e = record { nodes = all_stay q s w (λ n. nothing_comes s w n e) 0 w.nodes; sends = none_send q s w (λ n. nothing_comes s w n e) 0 w.nodes }

-- ---- where a send goes
module _ (net : Net) (a : ℕ) (dst : Addr) where
  abbrev has_addr : ℕ → Bool
  has_addr e = is_addr (addr_of net e) dst

  addressed_one : (e : ℕ) (es all : List ℕ) → In e es → (x : ℕ) → (In x (or_all es all) → In x es) × (In x es → In x (or_all es all))
  addressed_one e [] all i x = absurd i
  addressed_one e (y ∷ es) all i x = ((λ j. j), (λ j. j))

  none_addressed : (es : List ℕ) (all : List ℕ) → ((e : ℕ) → In e es → ⊥) → or_all es all ≡ all
  none_addressed [] all none = refl
  none_addressed (e ∷ es) all none = absurd (none e (inl refl))

  by_address : is_group dst ≡ false → goes_to net (Some a) dst ≡ or_all (filter has_addr (peers net.links a)) (peers net.links a)
  by_address e = ap (λ (b : Bool). ends_toward net b dst (peers net.links a)) e

  pub where_a_send_goes : WhereASendGoes net a dst
  where_a_send_goes = record {
    group = λ e. ap (λ (b : Bool). ends_toward net b dst (peers net.links a)) e;
    one = λ e d i at x.
        let both = addressed_one d (filter has_addr (peers net.links a)) (peers net.links a)
        (to_filter has_addr d (peers net.links a) i (subst (λ (z : Addr). is_addr z dst ≡ true) (sym at) (addr_itself dst))) x in (
          λ j. let f = in_filter has_addr x (peers net.links a) (both.0 (subst (λ (es : List ℕ). In x es) (by_address e) j)) in (f.0, addr_same (addr_of net x) dst f.1),
          λ j. subst (λ (es : List ℕ). In x es) (sym (by_address e)) (both.1 (to_filter has_addr x (peers net.links a) j.0 (subst (λ (z : Addr). is_addr z dst ≡ true) (sym j.1) (addr_itself dst)))),
        );
    none = λ e no.
        by_address e ∙ none_addressed (filter has_addr (peers net.links a)) (peers net.links a)
        (λ x i. let f = in_filter has_addr x (peers net.links a) i in no x f.0 (addr_same (addr_of net x) dst f.1));
    nowhere = λ e.
        ap (λ (l : List ℕ). ends_toward net (is_group dst) dst (filter (λ x. not (x == a)) l)) e ∙ empty (is_group dst);
  }
    where
      empty : (b : Bool) → ends_toward net b dst [] ≡ []
      empty true = refl
      empty false = refl

pub what_is_sent_is_copied : (q : ℕ) (s : Step) (w : World) → WhatIsSentIsCopied q s w
what_is_sent_is_copied q s w x = (
  λ i. let n = sent_found q s w x i in
      let c = copies_found w.net w.made n.0 (outcome q s w n.0 n.1).sent x n.3 in
      record { node = n.0; facts = n.1; there = n.2; send = c.0; sent = c.2; end = c.1; goes = c.3; is = c.4 },
  λ c. sent_made q s w c.node c.facts x c.there
      (subst (λ (z : Item × Bool). In z (all_copies w.net w.made c.node (outcome q s w c.node c.facts).sent)) (sym c.is)
      (copies_made w.net w.made c.node (outcome q s w c.node c.facts).sent c.send c.end c.sent c.goes)),
)
