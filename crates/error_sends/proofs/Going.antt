-- What goes on to the next hops of a table's reservations is what the rule sends.
use Rattle.std.specs.Prelude.{◌≡◌, ℕ, ◌==◌, Bool, true, false, cond, not, ◌&&◌, ◌||◌, is_some, List, [], ◌∷◌, map as each, length, Option, Some, None, refl}
use Rattle.std.proofs.Common.{T, Ordering, sym, ap, subst, ◌∙◌, inl, ⊎_elim, arith}
use Rattle.std.proofs.lemmas.Bool.{ne_eqb}
use Rattle.std.specs.FinMap.Entries.{below_all, is_sorted}
use Rattle.std.specs.List.{cons_option, filter, filter_map, list_any}
use Rattle.std.specs.Option.{option_map}
use Rattle.std.specs.Ordering.{is_lt, ordering_reverse, ordering_then}
use Rattle.std.specs.declared.cmp.Ordering.TheVariants.{Less, Equal, Greater}
use Rattle.rsvp_base.specs.Keys.{Keys, options, pairs}
use Rattle.rsvp_base.specs.Members.{In}
use Rattle.rsvp_base.specs.Orders.{Names, sessions, senders, units}
use Rattle.rsvp_base.specs.Sets.{cut, is_none, listed}
use Rattle.rsvp_base.specs.Table.{Table, changed, changed_rows, empty, first, get, has, keys, passes, put_in, second, values, with_rows}
use Rattle.rsvp_base.specs.TokenBucket.{TokenBucket}
use Rattle.rsvp_base.specs.Under.{under}
use Rattle.rsvp_base.specs.declared.part.Part.{Part}
use Rattle.rsvp_base.specs.declared.session.Sender.{Sender}
use Rattle.rsvp_base.specs.declared.style.StyleKind.{StyleKind}
use Rattle.rsvp_base.specs.declared.style.StyleKind.TheVariants.{Wild, Fixed, Shared}
use Rattle.rsvp_base.proofs.Changed.{changed_put, under_changed}
use Rattle.rsvp_base.proofs.SetLaws.{and_both, has-cut}
use Rattle.rsvp_base.proofs.Tables.{get-changed, holds, then_do}
use Rattle.rsvp_messages.specs.declared.message.ResvConfMsg.{ResvConfMsg}
use Rattle.rsvp_messages.specs.declared.message.ResvErrMsg.{ResvErrMsg}
use Rattle.rsvp_messages.specs.Units.{ask_style}
use Rattle.style_rules.specs.CutLaws.{cut_flow, cut_named, cut_none, cut_senders}
use Rattle.style_rules.specs.Lines.{NextHop, line_keys, next_hops}
use Rattle.style_rules.specs.Parts.{part_cut}
use Rattle.style_rules.specs.Toward.{is_walled}
use Rattle.style_rules.specs.Ways.{Way, WayTable}
use Rattle.resv_state.specs.Merging.{SessionRow, is_out, is_way_walled, names_out}
use Rattle.resv_state.specs.Resvs.{ResvFacts}
use Rattle.resv_state.specs.Walks.{rests}
use Rattle.router_rules.specs.Asking.{Blamed, Nobody, Everyone, These, err_place, err_places, errors_in_order, first_sender}
use Rattle.router_rules.specs.Confirming.{conf_on, confs_on, is_wish, speaks_of}
use Rattle.router_rules.specs.Errors.{blamed, error_listing, error_on, error_to, errors_on, is_for_blockaded, is_part_blockaded, is_told}
use Rattle.router_rules.specs.Facts.{Facts, ResvState, resvs_in, resvs_of}
use Rattle.router_rules.specs.Inputs.{ConfSend, ErrSend, Send, in_order, put_in_order}
use Rattle.router_rules.specs.Known.{Lane, names_via, names_via_where, via}
use Rattle.router_rules.specs.NodeConfig.{NodeConfig, goes_out}
use Rattle.router_rules.specs.Requests.{is_style}
use Rattle.router_rules.specs.Sends.{conf_send, conf_sends, error_send, error_sends}
use Rattle.laws_bounds.specs.OrderLaws.{IsInOrder, conf_place}
use Rattle.laws_bounds.proofs.Knowing.{named_made, names_told}
use Rattle.laws_bounds.proofs.Once.{given_rise}
use Rattle.laws_sends.specs.State.{resv_at}
use Rattle.laws_sends.specs.Upward.{up_for}
use Rattle.laws_sends.proofs.Towards.{blockaded_same, names_out_are, then_filtered}
use Rattle.error_sends.specs.Going.{are_some, as_send, conf_row, confs_told, error_row, errors_told, is_held_back, is_way_held}

-- ---- rows put into a table, each changed
module _ {K X Y : Type 0} (o : Keys K) (f : X → Y) where
  abbrev onward : K × X → K × Y
  onward e = (e.0, f e.1)

  pub changed_with : (es : List (K × X)) (m : Table o X) → changed (λ k x. Some (f x)) (with_rows m es) ≡ with_rows (changed (λ k x. Some (f x)) m) (each onward es)
  changed_with [] m = refl
  changed_with (e ∷ es) m = changed_with es (put_in m e.0 e.1) ∙ ap (λ (t : Table o Y). with_rows t (each onward es)) (changed_put o (λ k x. Some (f x)) m e.0 e.1 (f e.1) refl)

  values_changed : (es : List (K × X)) → each (λ (e : K × Y). e.1) (changed_rows (λ k x. Some (f x)) es) ≡ each f (each (λ (e : K × X). e.1) es)
  values_changed [] = refl
  values_changed (e ∷ es) = ap (λ ys. f e.1 ∷ ys) (values_changed es)

  -- what stands, each changed
  pub each_standing : (es : List (K × X)) → each f (values (with_rows (empty {o = o}) es)) ≡ values (with_rows (empty {o = o}) (each onward es))
  each_standing es = sym (values_changed (with_rows (empty {o = o}) es).rows) ∙ ap (λ (t : Table o Y). values t) (changed_with es (empty {o = o}))

filter_map_then : {A B C : Type 0} (g : A → Option B) (h : B → C) (xs : List A) → each h (filter_map g xs) ≡ filter_map (λ x. option_map h (g x)) xs
filter_map_then g h [] = refl
filter_map_then g h (x ∷ xs) = by (g x) ∙ ap (cons_option (option_map h (g x))) (filter_map_then g h xs)
  where
    by : (w : Option _) → each h (cons_option w (filter_map g xs)) ≡ cons_option (option_map h w) (each h (filter_map g xs))
    by None = refl
    by (Some y) = refl

-- ---- lists that are in order already
module _ {X K : Type 0} (o : Keys K) (key : X → K) where
  first_put : (x : X) (ys : List X) → ((y : X) → In y ys → is_lt (o.cmp (key y) (key x)) ≡ false) → put_in_order o key x ys ≡ x ∷ ys
  first_put x [] h = refl
  first_put x (y ∷ ys) h = ap (λ b. cond b (y ∷ put_in_order o key x ys) (x ∷ y ∷ ys)) (h y (inl refl))

  pub already : (xs : List X) → IsInOrder o key xs → in_order o key xs ≡ xs
  already [] h = refl
  already (x ∷ xs) h = ap (put_in_order o key x) (already xs h.1) ∙ first_put x xs h.0

  -- by next hops that rise, if the order goes by next hops first
  module _ (hop : X → NextHop) (by : (x y : X) → is_lt (next_hops.cmp (hop x) (hop y)) ≡ true → is_lt (o.cmp (key y) (key x)) ≡ false) where
    above_each : (k : NextHop) (y : X) (ys : List X) → T (below_all next_hops.cmp k (listed (each hop ys))) → In y ys → is_lt (next_hops.cmp k (hop y)) ≡ true
    above_each k y [] h i = absurd i
    above_each k y (z ∷ zs) h i = ⊎_elim (λ (s : y ≡ z). ap (λ w. is_lt (next_hops.cmp k (hop w))) s ∙ holds _ (first _ _ h)) (λ (j : In y zs). above_each k y zs (second _ _ h) j) i

    pub rising : (xs : List X) → T (is_sorted next_hops.cmp (listed (each hop xs))) → IsInOrder o key xs
    rising [] h = tt
    rising (x ∷ xs) h = (λ y i. by x y (above_each (hop x) y xs (first _ _ h) i), rising xs (second _ _ h))

reversed : (r : Ordering) → is_lt r ≡ true → is_lt (ordering_reverse r) ≡ false
reversed Less e = refl
reversed Equal e = absurd (cc)
reversed Greater e = absurd (cc)

reversed_then : (r q : Ordering) → is_lt r ≡ true → is_lt (ordering_then (ordering_reverse r) q) ≡ false
reversed_then Less q e = refl
reversed_then Equal q e = absurd (cc)
reversed_then Greater q e = absurd (cc)

abbrev err_hop : ErrSend → NextHop
err_hop s = (s.iface, s.dst)

err_by : (x y : ErrSend) → is_lt (next_hops.cmp (err_hop x) (err_hop y)) ≡ true → is_lt (err_places.cmp (err_place y) (err_place x)) ≡ false
err_by x y lt =
    let next : Ordering = (options senders).cmp (first_sender y.error) (first_sender x.error) in
    ap (λ (r : Ordering). is_lt (ordering_then r next)) (next_hops.total.antisymm (err_hop y) (err_hop x)) ∙ reversed_then (next_hops.cmp (err_hop x) (err_hop y)) next lt

conf_by : (x y : ConfSend) → is_lt (next_hops.cmp (conf_place x) (conf_place y)) ≡ true → is_lt (next_hops.cmp (conf_place y) (conf_place x)) ≡ false
conf_by x y lt = ap is_lt (next_hops.total.antisymm (conf_place y) (conf_place x)) ∙ reversed (next_hops.cmp (conf_place x) (conf_place y)) lt

-- ---- the reservations of a session, as a table has them
rows_are : (c : ℕ) (st : StyleKind) (f : Facts) (m : ResvFacts) (s : _) → resvs_of st f ≡ changed (resv_at c) m
    → (resvs_in st f s).rows ≡ changed_rows (λ k e. resv_at c (s, k) e) (under sessions rests m s).rows
rows_are c st f m s is = ap (λ (t : Table line_keys ResvState). (under sessions (pairs next_hops units) t s).rows) is
    ∙ ap (λ (t : Table rests ResvState). t.rows) (under_changed sessions rests (resv_at c) m s)

-- ---- errors
error_hop : (p : NodeConfig) (m : ResvErrMsg) (hop : NextHop) (b : Bool) (w : Blamed) (k : NextHop) (x : ErrSend) → cond b (error_to p m hop w) None ≡ Some (k, x) → err_hop x ≡ k
error_hop p m hop false w k x e = absurd (cc)
error_hop p m hop true Nobody k x e = absurd (cc)
error_hop p m hop true Everyone k x e = same (error_listing p m hop None) e refl
  where
    same : (y : NextHop × ErrSend) → Some y ≡ Some (k, x) → err_hop y.1 ≡ y.0 → err_hop x ≡ k
    same y e h = let is : y ≡ (k, x) = cc in subst (λ (z : NextHop × ErrSend). err_hop z.1 ≡ z.0) is h
error_hop p m hop true (These names) k x e = same (error_listing p m hop (Some names)) e refl
  where
    same : (y : NextHop × ErrSend) → Some y ≡ Some (k, x) → err_hop y.1 ≡ y.0 → err_hop x ≡ k
    same y e h = let is : y ≡ (k, x) = cc in subst (λ (z : NextHop × ErrSend). err_hop z.1 ≡ z.0) is h

pub errors_rise : (p : NodeConfig) (f : Facts) (l : Lane) (m : ResvErrMsg) → errors_in_order (errors_on p f l m) ≡ errors_on p f l m
errors_rise p f l m =
    already err_places err_place (errors_on p f l m)
    (rising err_places err_place err_hop err_by (errors_on p f l m)
    (passes _
    (given_rise next_hops (error_on p f l m) err_hop (resvs_in l.style f l.session).rows
    (λ r k x e. error_hop p m r.0.0 (is_told p f l m r) (blamed l.style m.blame.senders r.1.part.senders) k x e))))

-- a test of the members of a set that is cut
any_kept : (t g : Sender → Bool) (es : List (Sender × Unit {0})) → list_any g (each (λ (e : Sender × Unit {0}). e.0) (filter (λ (e : Sender × Unit {0}). t e.0) es))
    ≡ list_any (λ x. t x && g x) (each (λ (e : Sender × Unit {0}). e.0) es)
any_kept t g [] = refl
any_kept t g (e ∷ es) = by (t e.0) ∙ ap (λ b. (t e.0 && g e.0) || b) (any_kept t g es)
  where
    by : (b : Bool) → list_any g (each (λ (e : Sender × Unit {0}). e.0) (cond b (e ∷ filter (λ (e : Sender × Unit {0}). t e.0) es) (filter (λ (e : Sender × Unit {0}). t e.0) es)))
        ≡ ((b && g e.0) || list_any g (each (λ (e : Sender × Unit {0}). e.0) (filter (λ (e : Sender × Unit {0}). t e.0) es)))
    by true = refl
    by false = refl

none_of : (g : Sender → Bool) (s : Names) → is_none s ≡ true → list_any g (keys s) ≡ false
none_of g s none = by s.rows none
  where
    by : (es : List (Sender × Unit {0})) → (length es == 0) ≡ true → list_any g (each (λ (e : Sender × Unit {0}). e.0) es) ≡ false
    by [] e = refl
    by (e ∷ es) h = let z : true ≡ false = sym h ∙ ne_eqb (length (e ∷ es)) 0 (λ n. omega (arith, n)) in cc

any_both : (f g : Sender → Bool) (xs : List Sender) → ((x : Sender) → f x ≡ g x) → list_any f xs ≡ list_any g xs
any_both f g xs e = λ i. list_any (λ x. e x i) xs

module _ (p : NodeConfig) (f : Facts) (l : Lane) where
  abbrev up : WayTable
  up = up_for p f l

  held_test : (iface : ℕ) (flow : TokenBucket) (x : Sender) → (has (names_out up iface) x && is_way_walled flow (get up x)) ≡ is_way_held iface flow (get up x)
  held_test iface flow x = ap (λ (w : Option (Unit {0})). is_some w && is_way_walled flow (get up x))
      (get-changed senders (λ y (w : Way). cond {A = Option (Unit {0})} (is_out iface w) (Some tt) None) up x) ∙ by (get up x)
    where
      or_not : (b : Bool) → is_some (cond {A = Option (Unit {0})} b (Some tt) None) ≡ b
      or_not true = refl
      or_not false = refl

      by : (w : Option Way) → (is_some (then_do w (λ (v : Way). cond {A = Option (Unit {0})} (is_out iface v) (Some tt) None)) && is_way_walled flow w) ≡ is_way_held iface flow w
      by None = refl
      by (Some w) = ap (λ b. b && is_walled flow w.wall) (or_not (is_out iface w))

  -- what is left of a part toward the hop is blockaded as the table of names says
  pub held_is : (iface : ℕ) (part : Part) → is_part_blockaded f.walls l (part_cut part (names_via_where f l (goes_out p l.session iface))) ≡ is_held_back up iface part
  held_is iface part = by (part_cut part some) refl ∙ any_kept (has some) (λ x. is_way_walled part.flow (get up x)) part.senders.rows
      ∙ any_both _ _ (keys part.senders) (λ x. ap (λ (z : Names). has z x && is_way_walled part.flow (get up x)) (sym (names_out_are p f l iface)) ∙ held_test iface part.flow x)
    where
      some : Names
      some = names_via_where f l (goes_out p l.session iface)

      within : (q : Part) → part_cut part some ≡ Some q → (x : Sender) → has q.senders x ≡ true → has (names_via f l) x ≡ true
      within q is x h =
          let both = and_both (has part.senders x) (has some x) (sym (has-cut senders part.senders some x) ∙ ap (λ (z : Names). has z x) (sym (cut_senders part q some is)) ∙ h) in
          let n = names_told f l (goes_out p l.session iface) x both.1 in
          named_made l.style (via f l.session l.hop) x (record { sender = n.sender; among = n.among; passes = refl; name = n.name })

      by : (w : Option Part) → part_cut part some ≡ w → is_part_blockaded f.walls l w ≡ list_any (λ x. is_way_walled part.flow (get up x)) (keys (cut part.senders some))
      by None is = sym (none_of (λ x. is_way_walled part.flow (get up x)) (cut part.senders some) ((cut_none part some).0 is))
      by (Some q) is =
          sym (blockaded_same p f l q (cut_named part q some is) (within q is))
          ∙ (λ i. list_any (λ x. is_way_walled (cut_flow part q some is i) (get up x)) (keys (cut_senders part q some is i)))

  -- what the rule sends
  module _ (m : ResvErrMsg) (c : ℕ) (t : ResvFacts) (table : resvs_of l.style f ≡ changed (resv_at c) t) where
    row_is : (e : SessionRow) → then_do (resv_at c (l.session, e.0) e.1) (λ y. option_map as_send (error_on p f l m (e.0, y))) ≡ error_row p up m l.style e.0.0 e.1.0.part
    row_is e = ap (λ b. option_map as_send (cond (not (is_for_blockaded m) || b) (error_to p m e.0.0 (blamed l.style m.blame.senders e.1.0.part.senders)) None)) (held_is e.0.0.0 e.1.0.part)

    pub errors_are : error_sends (errors_on p f l m) ≡ errors_told p up m l.style (under sessions rests t l.session).rows
    errors_are =
        let rows = (under sessions rests t l.session).rows in
        let told = filter_map_then (error_on p f l m) as_send (resvs_in l.style f l.session).rows
        ∙ ap (filter_map (λ r. option_map as_send (error_on p f l m r))) (rows_are c l.style f t l.session table)
        ∙ then_filtered (λ k e. resv_at c (l.session, k) e) (λ r. option_map as_send (error_on p f l m r)) rows
        ∙ (λ i. filter_map (λ e. row_is e i) rows) in
        ap (each error_send) (errors_rise p f l m) ∙ each_standing next_hops error_send (filter_map (error_on p f l m) (resvs_in l.style f l.session).rows)
        ∙ ap (λ es. values (with_rows (empty {o = next_hops}) es)) told

-- ---- confirmations
own_style : (st : StyleKind) → is_style st st ≡ true
own_style Wild = refl
own_style Fixed = refl
own_style Shared = refl

abbrev conf_to : ResvConfMsg → NextHop → Bool → Option (NextHop × ConfSend)
conf_to m hop b = cond b (Some (hop, record { iface = hop.0; dst = hop.1; conf = m })) None

abbrev conf_sent : NextHop × ConfSend → NextHop × Send
conf_sent e = (e.0, conf_send e.1)

conf_hop : (m : ResvConfMsg) (hop : NextHop) (b : Bool) (k : NextHop) (x : ConfSend) → conf_to m hop b ≡ Some (k, x) → conf_place x ≡ k
conf_hop m hop false k x e = absurd (cc)
conf_hop m hop true k x e = same (hop, record { iface = hop.0; dst = hop.1; conf = m }) e refl
  where
    same : (y : NextHop × ConfSend) → Some y ≡ Some (k, x) → conf_place y.1 ≡ y.0 → conf_place x ≡ k
    same y e h = let is : y ≡ (k, x) = cc in subst (λ (z : NextHop × ConfSend). conf_place z.1 ≡ z.0) is h

module _ (f : Facts) (m : ResvConfMsg) where
  confs_rise : in_order next_hops conf_place (confs_on m f) ≡ confs_on m f
  confs_rise =
      already next_hops conf_place (confs_on m f)
      (rising next_hops conf_place conf_place conf_by (confs_on m f)
      (passes _
      (given_rise next_hops (conf_on m) conf_place (resvs_in (ask_style m.ask) f m.session).rows
      (λ r k x e. conf_hop m r.0.0 (is_wish r.1.confirm m.confirm && speaks_of m.ask r.1.part.senders) k x e))))

  module _ (c : ℕ) (t : ResvFacts) (table : resvs_of (ask_style m.ask) f ≡ changed (resv_at c) t) where
    conf_is : (e : SessionRow) → then_do (resv_at c (m.session, e.0) e.1) (λ y. option_map conf_sent (conf_on m (e.0, y))) ≡ conf_row m (ask_style m.ask) e.0.0 e.1.0.part e.1.0.confirm
    conf_is e = by (is_style (ask_style m.ask) (ask_style m.ask)) (is_wish e.1.0.confirm m.confirm && speaks_of m.ask e.1.0.part.senders) (own_style (ask_style m.ask))
      where
        by : (a b : Bool) → a ≡ true → option_map conf_sent (conf_to m e.0.0 b)
            ≡ cond {A = Option (NextHop × Send)} (a && b) (Some (e.0.0, conf_send (record { iface = e.0.0.0; dst = e.0.0.1; conf = m }))) None
        by true true h = refl
        by true false h = refl
        by false b h = absurd (cc)

    pub confs_are : conf_sends (confs_on m f) ≡ confs_told m (ask_style m.ask) (under sessions rests t m.session).rows
    confs_are =
        let rows = (under sessions rests t m.session).rows in
        let told = filter_map_then (conf_on m) conf_sent (resvs_in (ask_style m.ask) f m.session).rows
        ∙ ap (filter_map (λ r. option_map conf_sent (conf_on m r))) (rows_are c (ask_style m.ask) f t m.session table)
        ∙ then_filtered (λ k e. resv_at c (m.session, k) e) (λ r. option_map conf_sent (conf_on m r)) rows
        ∙ (λ i. filter_map (λ e. conf_is e i) rows) in
        ap (each conf_send) confs_rise ∙ each_standing next_hops conf_send (filter_map (conf_on m) (resvs_in (ask_style m.ask) f m.session).rows)
        ∙ ap (λ es. values (with_rows (empty {o = next_hops}) es)) told

  -- there are some exactly where there are some in the rule
  some_same : {X Y : Type 0} (g : X → Y) (xs : List X) → are_some (each g xs) ≡ are_some xs
  some_same g [] = refl
  some_same g (x ∷ xs) = refl

  pub some_are : are_some (conf_sends (confs_on m f)) ≡ are_some (confs_on m f)
  some_are = some_same conf_send (in_order next_hops conf_place (confs_on m f)) ∙ ap are_some confs_rise
