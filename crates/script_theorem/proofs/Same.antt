-- Demands depend on who sends and what is wanted, not on the order in which they are listed.
use Rattle.std.proofs.Common.{◌≡◌, ℕ, ◌≤◌, zero, suc, Bool, List, [], ◌∷◌, ◌++◌, length, Option, Some, None, refl, sym, ap, subst, ◌∙◌, ⊎_elim}
use Rattle.std.specs.Prelude.{map as each, slice_get}
use Rattle.std.specs.List.{filter, flat_map, range_with_len}
use Rattle.rsvp_base.specs.declared.part.Part.{Part}
use Rattle.rsvp_base.specs.declared.session.Sender.{Sender}
use Rattle.rsvp_base.specs.declared.session.Session.{Session}
use Rattle.rsvp_base.specs.declared.style.StyleKind.{StyleKind}
use Rattle.rsvp_base.specs.declared.style.StyleKind.TheVariants.{Wild, Fixed, Shared}
use Rattle.rsvp_base.specs.Keys.{Keys}
use Rattle.rsvp_base.specs.Members.{In}
use Rattle.rsvp_base.specs.Orders.{senders as by_sender, sessions as by_session, units as by_unit}
use Rattle.rsvp_base.specs.Sets.{set_of}
use Rattle.rsvp_base.specs.Styles.{name_of, part_unit}
use Rattle.rsvp_base.specs.Table.{empty, get, has, keys, values}
use Rattle.rsvp_base.proofs.Counts.{in_set_of, set_of_in}
use Rattle.rsvp_base.proofs.Filters.{same_test}
use Rattle.rsvp_base.proofs.Members.{in_append, in_each, in_filter, in_flat_map, in_left, in_right, to_each, to_filter, to_flat_map}
use Rattle.rsvp_base.proofs.SetLaws.{same_set}
use Rattle.value_texts.specs.Reports.{book_text}
use Rattle.style_rules.specs.Limits.{IsWithinLimits}
use Rattle.style_rules.specs.Lines.{BookTable, Line, book_of_end, held}
use Rattle.style_rules.specs.Merge.{PartTable, merge}
use Rattle.style_rules.specs.Parts.{part_cut}
use Rattle.style_rules.proofs.Merges.{merges_same}
use Rattle.style_rules.specs.PartLaws.{part_at_most_itself}
use Rattle.tree_model.specs.declared.hops.LinkHop.{LinkHop}
use Rattle.tree_model.specs.declared.locals.LocalSender.{LocalSender}
use Rattle.tree_model.specs.declared.locals.LocalWant.{LocalWant}
use Rattle.tree_model.specs.Fuel.{by_fuel}
use Rattle.tree_model.specs.Goals.{DemandsFit, addr_of, demand_of, goal, hops_in_order}
use Rattle.tree_model.specs.Networks.{Net, node_of}
use Rattle.tree_model.specs.Ranks.{followers, rank}
use Rattle.tree_model.specs.Trees.{goes_out_of, hops_of}
use Rattle.tree_model.specs.Wants.{Locals, as_list, brought, goes_over, is_wanted_at, live, names, of_session, want, want_from, wanted_of}
use Rattle.network_model.specs.DemandTexts.{demand_text, of_end}
use Rattle.script_theorem.specs.Standing.{AskTheSame, TheSameIsDemanded}

-- sets of the same members
pub one_set : {K : Type 0} (o : Keys K) (xs ys : List K) → ((k : K) → In k xs → In k ys) → ((k : K) → In k ys → In k xs) → set_of {o = o} xs ≡ set_of {o = o} ys
one_set o xs ys to from =
    same_set o (set_of {o = o} xs) (set_of {o = o} ys)
    (λ q. same_test (has (set_of {o = o} xs) q) (has (set_of {o = o} ys) q) (λ t. in_set_of o ys q (to q (set_of_in o xs q t))) (λ t. in_set_of o xs q (from q (set_of_in o ys q t))))

module _ (net : Net) (st : StyleKind) (s : Session) (hs : List LinkHop) where
  abbrev named : List Sender → List Sender
  named xs = each (name_of st) (filter (goes_over net s hs) xs)

  carried : (a b : Locals) → ((x : LocalSender) → In x a.senders → In x b.senders) → (q : Sender) → In q (named (live a s)) → In q (named (live b s))
  carried a b to q i =
      let x = in_each (name_of st) q (filter (goes_over net s hs) (live a s)) i in
      let y = in_filter (goes_over net s hs) x.0 (live a s) x.1 in
      let l = in_each (λ (z : LocalSender). z.sender) x.0 (filter (of_session s) a.senders) y.0 in
      let m = in_filter (of_session s) l.0 a.senders l.1 in
      let there = to_each (λ (z : LocalSender). z.sender) l.0 (filter (of_session s) b.senders) (to_filter (of_session s) l.0 b.senders (to l.0 m.0) m.1) in
      let lives : In x.0 (live b s) = subst (λ (z : Sender). In z (live b s)) (sym l.2) there in
      subst (λ (z : Sender). In z (named (live b s))) (sym x.2) (to_each (name_of st) x.0 (filter (goes_over net s hs) (live b s)) (to_filter (goes_over net s hs) x.0 (live b s) lives y.1))

-- parts in one list and in another have one merge
same_merge : (st : StyleKind) (ps qs : List Part) → ((p : Part) → In p ps → In p qs) → ((p : Part) → In p qs → In p ps) → merge st ps ≡ merge st qs
same_merge st ps qs to from = merges_same by_unit (part_unit st) (λ (p : Part). p) (part_unit st) (λ (p : Part). p) ps qs (λ p i named. (p, to p i, refl, part_at_most_itself p))
    (λ p i named. (p, from p i, refl, part_at_most_itself p))

-- what a list of wants makes of each
abbrev AreAmong : {A : Type 0} → List A → List A → Type 0
AreAmong {A} xs ys = (x : A) → In x xs → In x ys

among_then : {A : Type 0} (xs ys zs : List A) → AreAmong xs ys → AreAmong (xs ++ zs) (ys ++ zs)
among_then xs ys zs to x i = ⊎_elim (λ (j : In x xs). in_left x ys zs (to x j)) (λ (j : In x zs). in_right x ys zs j) (in_append x xs zs i)

among_made : {A B : Type 0} (p : A → Bool) (f : A → List B) (xs ys : List A) → AreAmong xs ys → AreAmong (flat_map f (filter p xs)) (flat_map f (filter p ys))
among_made p f xs ys to y i =
    let x = in_flat_map f y (filter p xs) i in
    let k = in_filter p x.0 xs x.1 in
    to_flat_map f x.0 y (filter p ys) (to_filter p x.0 ys (to x.0 k.0) k.1) x.2

module _ (net : Net) (a b : Locals) (h : AskTheSame a b) where
  same_names : (st : StyleKind) (s : Session) (hs : List LinkHop) → names st net a s hs ≡ names st net b s hs
  same_names st s hs = one_set by_sender (named net st s hs (live a s)) (named net st s hs (live b s)) (carried net st s hs a b (λ x i. (h.senders x).0 i))
      (carried net st s hs b a (λ x i. (h.senders x).1 i))

  module _ (st : StyleKind) (s : Session) where
    -- one hop, from those that follow it
    same_step : (k : LinkHop) (more : LinkHop → PartTable) → want_from st net a s k more ≡ want_from st net b s k more
    same_step k more =
        let rest : List Part = flat_map (brought st net b s k more) (followers net s.group k) in
        let of : LocalWant → List Part = λ (w : LocalWant). as_list (wanted_of st (names st net b s (k ∷ [])) w.part) in
        let at : LocalWant → Bool = is_wanted_at st s (node_of net.ends k.to) in
        (λ i. merge st
        (flat_map (λ (w : LocalWant). as_list (wanted_of st (same_names st s (k ∷ []) i) w.part)) (filter (is_wanted_at st s (node_of net.ends k.to)) a.wants)
        ++ flat_map (λ (j : LinkHop). flat_map (λ (p : Part). as_list (part_cut p (same_names st s (k ∷ j ∷ []) i))) (values (more j))) (followers net s.group k)))
        ∙ same_merge st (flat_map of (filter at a.wants) ++ rest) (flat_map of (filter at b.wants) ++ rest) (among_then _ _ rest (among_made at of a.wants b.wants (λ w i. (h.wants w).0 i)))
        (among_then _ _ rest (among_made at of b.wants a.wants (λ w i. (h.wants w).1 i)))

    same_by_fuel : (n : ℕ) (k : LinkHop) → by_fuel (want_from st net a s) empty n k ≡ by_fuel (want_from st net b s) empty n k
    same_by_fuel zero k = refl
    same_by_fuel (suc n) k = (λ i. want_from st net a s k (λ j. same_by_fuel n j i)) ∙ same_step k (λ j. by_fuel (want_from st net b s) empty n j)

    pub same_want : (k : LinkHop) → want st net a s k ≡ want st net b s k
    unfolding want
    same_want k = same_by_fuel (rank net s.group k) k

  same_sessions : set_of {o = by_session} (flat_map (λ (w : LocalWant). w.session ∷ []) a.wants) ≡ set_of {o = by_session} (flat_map (λ (w : LocalWant). w.session ∷ []) b.wants)
  same_sessions = one_set by_session (flat_map of a.wants) (flat_map of b.wants) (to a.wants b.wants (λ w i. (h.wants w).0 i)) (to b.wants a.wants (λ w i. (h.wants w).1 i))
    where
      of : LocalWant → List Session
      of w = w.session ∷ []

      to : (xs ys : List LocalWant) → AreAmong xs ys → AreAmong (flat_map (λ (w : LocalWant). w.session ∷ []) xs) (flat_map (λ (w : LocalWant). w.session ∷ []) ys)
      to xs ys all s i = let w = in_flat_map (λ (w : LocalWant). w.session ∷ []) s xs i in to_flat_map (λ (w : LocalWant). w.session ∷ []) w.0 s ys (all w.0 w.1) w.2

  same_goal : (n : ℕ) → goal net a n ≡ goal net b n
  same_goal n = λ i. flat_map
      (λ st. flat_map
      (λ s. flat_map (λ k. each (λ e. record { style = st; session = s; end = k.from; next = addr_of net k.to; unit = e.0; part = e.1 }) (same_want st s k i).rows)
      (filter (goes_out_of net.ends n) (hops_in_order (hops_of net.hops s.group))))
      (keys (same_sessions i))) (Wild ∷ Fixed ∷ Shared ∷ [])

  same_demand : (e : ℕ) → demand_of net a e ≡ demand_of net b e
  same_demand e = ap (book_of_end e) (same_goal (node_of net.ends e))

  pub same_text : (texts : List (List ℕ)) (e : Option ℕ) → demand_text texts net a e ≡ demand_text texts net b e
  same_text texts None = λ i. flat_map (λ e. of_end (λ name x. book_text name x.iface.capacity (same_demand e i).rows) (slice_get texts e) (slice_get net.ends e)) (range_with_len 0 (length net.ends))
  same_text texts (Some e) = λ i. of_end (λ name x. book_text name x.iface.capacity (same_demand e i).rows) (slice_get texts e) (slice_get net.ends e)

  pub same_fit : DemandsFit net b → DemandsFit net a
  same_fit fit = record {
    capacity = λ e x at. subst (λ (d : BookTable). held d ≤ x.iface.capacity) (sym (same_demand e)) (fit.capacity e x at);
    mtu = λ e x k p at found. fit.mtu e x k p at (subst (λ (d : BookTable). get d k ≡ Some p) (same_demand e) found);
    one_style = λ v w i j e. fit.one_style v w ((h.wants v).0 i) ((h.wants w).0 j) e;
    limits = λ n st. subst (λ (ls : List Line). IsWithinLimits st ls) (sym (same_goal n)) (fit.limits n st);
  }

pub turned : (a b : Locals) → AskTheSame a b → AskTheSame b a
turned a b h = record { senders = λ x. ((h.senders x).1, (h.senders x).0); wants = λ w. ((h.wants w).1, (h.wants w).0) }

pub the_same_is_demanded : TheSameIsDemanded
the_same_is_demanded net a b h = record { text = same_text net a b h; fits = (same_fit net b a (turned a b h), same_fit net a b h) }
