-- What a table of reservations merges toward a hop is what the rule sends there.
use Rattle.std.specs.Prelude.{◌≡◌, ℕ, ◌==◌, Bool, true, false, cond, not, ◌&&◌, ◌||◌, is_some, List, [], ◌∷◌, ◌++◌, map as each, length, Option, Some, None, refl}
use Rattle.std.specs.Int.{bit_at}
use Rattle.std.specs.List.{cons_option, filter_map, list_any}
use Rattle.std.proofs.Common.{sym, ap, inl, inr, ◌∙◌}
use Rattle.std.proofs.lemmas.Nat.Bits.{bit_at-zero}
use Rattle.rsvp_base.specs.Keys.{Keys, pairs}
use Rattle.rsvp_base.specs.Members.{In}
use Rattle.rsvp_base.specs.Orders.{Names, sessions, senders, units}
use Rattle.rsvp_base.specs.Sets.{cut, is_none}
use Rattle.rsvp_base.specs.Table.{Table, changed, changed_rows, kept_row, get, has, keys}
use Rattle.rsvp_base.specs.TokenBucket.{TokenBucket}
use Rattle.rsvp_base.specs.Under.{under}
use Rattle.rsvp_base.specs.declared.part.Part.{Part}
use Rattle.rsvp_base.specs.declared.session.Sender.{Sender}
use Rattle.rsvp_base.specs.declared.session.Session.{Session}
use Rattle.rsvp_base.specs.declared.style.StyleKind.{StyleKind}
use Rattle.rsvp_base.specs.declared.style.StyleKind.TheVariants.{Wild, Fixed, Shared}
use Rattle.rsvp_base.specs.declared.style.Unit.{Unit as UnitOf}
use Rattle.rsvp_base.proofs.Fronts.{in_keys}
use Rattle.rsvp_base.proofs.SetLaws.{and_both, has-cut, same_set}
use Rattle.rsvp_base.proofs.Tables.{get-changed, same_table, then_do}
use Rattle.rsvp_base.proofs.UnderLaws.{get-under}
use Rattle.router_state.specs.ResvState.Resvs.{ResvFacts}
use Rattle.router_state.specs.ResvState.declared.fact.ResvFact.{ResvFact}
use Rattle.router_state.specs.ResvState.Merging.{names_via as up_names, names_out, is_way_walled, is_blockaded as is_up_blockaded, request_of as up_request_of}
use Rattle.router_state.specs.ResvState.Merging.{resv_request as up_resv_request, want_request as up_want_request, requests_toward}
use Rattle.router_state.specs.ResvState.Walks.{rests}
use Rattle.router_state.specs.StyleRules.CutLaws.{cut_named, cut_senders}
use Rattle.router_state.specs.StyleRules.Lines.{NextHop, line_keys, next_hops}
use Rattle.router_state.specs.StyleRules.Parts.{has_name, part_cut, part_of}
use Rattle.rsvp_base.specs.Styles.{name_of}
use Rattle.router_state.specs.StyleRules.Toward.{is_walled, toward as merged_toward}
use Rattle.router_state.specs.StyleRules.Ways.{Way, WayTable}
use Rattle.router_state.specs.RouterRules.Facts.{Facts, ResvState, Want, resvs_in, wants_in, resvs_of}
use Rattle.router_state.specs.RouterRules.Known.{Lane, names_via, names_via_where, via}
use Rattle.router_state.specs.RouterRules.NodeConfig.{NodeConfig, goes_out, is_out, tree}
use Rattle.router_state.specs.RouterRules.Requests.{is_blockaded, is_style, request_of, requests, resv_request, toward, want_part, want_request}
use Rattle.router_state.specs.RouterRules.declared.route.Route.{Route}
use Rattle.router_state.proofs.Knowing.{named_made, named_told, names_made, names_told}
use Rattle.router_state.specs.State.{resv_at}
use Rattle.laws_sends.specs.Upward.{own_for, own_part, own_want, up_for, wall_for, way_for}
use Rattle.router_state.specs.Routes.{ways_out}
use Rattle.router_state.proofs.Routed.{same_test}
use Rattle.router_state.proofs.Settling.{has_changed}

-- ---- rows that are changed, and gone through
pub then_filtered : {K X Y Z : Type 0} (g : K → X → Option Y) (h : K × Y → Option Z) (es : List (K × X)) → filter_map h (changed_rows g es) ≡ filter_map (λ e. then_do (g e.0 e.1) (λ y. h (e.0, y))) es
then_filtered g h [] = refl
then_filtered g h (e ∷ es) = by (g e.0 e.1) ∙ ap (cons_option (then_do (g e.0 e.1) (λ y. h (e.0, y)))) (then_filtered g h es)
  where
    by : (w : Option _) → filter_map h (kept_row e.0 w (changed_rows g es)) ≡ cons_option (then_do w (λ y. h (e.0, y))) (filter_map h (changed_rows g es))
    by None = refl
    by (Some y) = refl

pub under_changed : {A B X Y : Type 0} (o : Keys A) (q : Keys B) (f : A × B → X → Option Y) (m : Table (pairs o q) X) (a : A) → under o q (changed f m) a ≡ changed (λ b. f (a, b)) (under o q m a)
under_changed o q f m a =
    same_table q _ _ (λ b. get-under o q (changed f m) a b ∙ get-changed (pairs o q) f m (a, b)
    ∙ sym (get-changed q (λ z. f (a, z)) (under o q m a) b ∙ ap (λ w. then_do w (f (a, b))) (get-under o q m a b)))

-- ---- any of a list
any_same : {A : Type 0} (f g : A → Bool) (xs : List A) → ((x : A) → In x xs → f x ≡ g x) → list_any f xs ≡ list_any g xs
any_same f g [] e = refl
any_same f g (x ∷ xs) e = λ i. e x (inl refl) i || any_same f g xs (λ y j. e y (inr j)) i

any_of_all : {A : Type 0} (b : Bool) (x : A) (xs : List A) → list_any (λ _. b) (x ∷ xs) ≡ b
any_of_all true x xs = refl
any_of_all false x [] = refl
any_of_all false x (y ∷ xs) = any_of_all false y xs

any_of_rows : (b : Bool) (es : List (Sender × Unit {0})) → (length es == 0) ≡ false → list_any (λ (_ : Sender). b) (each (λ e. e.0) es) ≡ b
any_of_rows b [] some = cc
any_of_rows b (e ∷ es) some = any_of_all b e.0 (each (λ e. e.0) es)

not_none : (b : Bool) → not b ≡ true → b ≡ false
not_none true e = cc
not_none false e = refl

any_of_some : (b : Bool) (s : Names) → not (is_none s) ≡ true → list_any (λ (_ : Sender). b) (keys s) ≡ b
any_of_some b s some = any_of_rows b s.rows (not_none _ some)

cut_itself : (s : Names) → cut s s ≡ s
cut_itself s = same_set senders _ _ (λ x. has-cut senders s s x ∙ twice (has s x))
  where
    twice : (b : Bool) → (b && b) ≡ b
    twice true = refl
    twice false = refl

-- ---- ways
out_same : (r : Option Route) (i : ℕ) → (bit_at (ways_out r) i == 1) ≡ is_out r i
out_same None i = ap (λ n. n == 1) (bit_at-zero i)
out_same (Some r) i = refl

tree_same : (p : NodeConfig) (s : Session) (st : StyleKind) (x : Sender) → tree p s (name_of st x) ≡ tree p s x
tree_same p s Wild x = refl
tree_same p s Fixed x = refl
tree_same p s Shared x = refl

abbrev out_only : ℕ → Way → Option (Unit {0})
out_only i w = cond (bit_at w.outward i == 1) (Some tt) None

module _ (p : NodeConfig) (f : Facts) (l : Lane) where
  abbrev up : WayTable
  up = up_for p f l

  pub up_names_are : up_names up ≡ names_via f l
  up_names_are = same_set senders _ _ (λ x. has_changed senders (λ y (w : Way). Some tt) (λ y w. refl) up x
      ∙ has_changed senders (λ y (u : Unit {0}). Some (way_for p f l y)) (λ y u. refl) (names_via f l) x)

  pub way_at : (x : Sender) → has (names_via f l) x ≡ true → get up x ≡ Some (way_for p f l x)
  way_at x h = get-changed senders (λ y (u : Unit {0}). Some (way_for p f l y)) (names_via f l) x ∙ by (get (names_via f l) x) h
    where
      by : (w : Option (Unit {0})) → is_some w ≡ true → then_do w (λ u. Some (way_for p f l x)) ≡ Some (way_for p f l x)
      by None e = cc
      by (Some u) e = refl

  has_out : (i : ℕ) (x : Sender) → has (names_out up i) x ≡ (has (names_via f l) x && is_out (tree p l.session x) i)
  has_out i x =
      ap is_some (get-changed senders (λ y (w : Way). out_only i w) up x ∙ ap (λ w. then_do w (λ (v : Way). out_only i v))
      (get-changed senders (λ y (u : Unit {0}). Some (way_for p f l y)) (names_via f l) x))
      ∙ by (get (names_via f l) x) ∙ ap (λ b. has (names_via f l) x && b) (out_same (tree p l.session x) i)
    where
      or_not : (b : Bool) → is_some (cond {A = Option (Unit {0})} b (Some tt) None) ≡ b
      or_not true = refl
      or_not false = refl

      by : (w : Option (Unit {0})) → is_some (then_do (then_do w (λ u. Some (way_for p f l x))) (λ (v : Way). out_only i v)) ≡ (is_some w && (bit_at (ways_out (tree p l.session x)) i == 1))
      by None = refl
      by (Some u) = or_not (bit_at (ways_out (tree p l.session x)) i == 1)

  pub names_out_are : (i : ℕ) → names_out up i ≡ names_via_where f l (goes_out p l.session i)
  names_out_are i = same_set senders _ _ (λ x. same_test _ _ (to x) (from x))
    where
      to : (x : Sender) → has (names_out up i) x ≡ true → has (names_via_where f l (goes_out p l.session i)) x ≡ true
      to x h =
          let r = and_both _ _ (sym (has_out i x) ∙ h) in
          let n = named_told l.style (via f l.session l.hop) x r.0 in
          names_made f l (goes_out p l.session i) x (record {
            sender = n.sender;
            among = n.among;
            passes = ap (λ t. is_out t i)
                (sym (tree_same p l.session l.style n.sender) ∙ ap (tree p l.session) (sym n.name)) ∙ r.1;
            name = n.name;
          })

      from : (x : Sender) → has (names_via_where f l (goes_out p l.session i)) x ≡ true → has (names_out up i) x ≡ true
      from x h =
          let n = names_told f l (goes_out p l.session i) x h in
          let there = named_made l.style (via f l.session l.hop) x (record { sender = n.sender; among = n.among; passes = refl; name = n.name }) in
          has_out i x ∙ (λ j. there j && is_out (tree p l.session x) i) ∙ ap (λ t. is_out t i) (ap (tree p l.session) n.name ∙ tree_same p l.session l.style n.sender) ∙ n.passes

  -- ---- blockades
  walled_same : (x : Sender) (flow : TokenBucket) → has (names_via f l) x ≡ true → is_way_walled flow (get up x) ≡ is_walled flow (wall_for l.style f.walls l x)
  walled_same x flow h = ap (is_way_walled flow) (way_at x h)

  by_style : (st : StyleKind) (q : Part) → has_name q ≡ true → list_any (λ x. is_walled q.flow (wall_for st f.walls l x)) (keys q.senders) ≡ is_blockaded st f.walls l q
  by_style Wild q named = any_of_some (is_walled q.flow (wall_for Wild f.walls l (record { addr = record { 0 = 0 }; port = 0 }))) q.senders named
  by_style Fixed q named = refl
  by_style Shared q named = refl

  pub blockaded_same : (q : Part) → has_name q ≡ true → ((x : Sender) → has q.senders x ≡ true → has (names_via f l) x ≡ true) → is_up_blockaded up q ≡ is_blockaded l.style f.walls l q
  blockaded_same q named within = any_same _ _ (keys q.senders) (λ x i. walled_same x q.flow (within x (in_keys senders q.senders x i))) ∙ by_style l.style q named

  request_same : (o : Option Part) → ((q : Part) → o ≡ Some q → is_up_blockaded up q ≡ is_blockaded l.style f.walls l q) → up_request_of up o ≡ request_of f.walls l o
  request_same None e = refl
  request_same (Some q) e = λ i. Some (record { part = q; blockaded = e q refl i })

  -- a part that is cut to some of the names
  cut_same : (part : Part) (names some : Names) → ((x : Sender) → has some x ≡ true → has (names_via f l) x ≡ true) → names ≡ some
      → up_request_of up (part_cut part names) ≡ request_of f.walls l (part_cut part some)
  cut_same part names some within same =
      ap (λ (z : Names). up_request_of up (part_cut part z)) same
      ∙ request_same (part_cut part some) (λ q e. blockaded_same q (cut_named part q some e)
      (λ x h. within x (and_both _ _ (sym (has-cut senders part.senders some x) ∙ ap (λ (z : Names). has z x) (sym (cut_senders part q some e)) ∙ h)).1))

  resv_same : (c : ℕ) (e : (NextHop × UnitOf) × (ResvFact × ℕ)) → then_do (resv_at c (l.session, e.0) e.1) (λ y. resv_request p f l (e.0, y)) ≡ up_resv_request up e
  resv_same c e = sym (cut_same e.1.0.part (names_out up e.0.0.0) (names_via_where f l (goes_out p l.session e.0.0.0)) within (names_out_are e.0.0.0))
    where
      within : (x : Sender) → has (names_via_where f l (goes_out p l.session e.0.0.0)) x ≡ true → has (names_via f l) x ≡ true
      within x h = let n = names_told f l (goes_out p l.session e.0.0.0) x h in named_made l.style (via f l.session l.hop) x
          (record { sender = n.sender; among = n.among; passes = refl; name = n.name })

  own_same : (st : StyleKind) → l.style ≡ st → (part : Part) → up_request_of up (part_cut (own_part st (names_via f l) part) (up_names up)) ≡ request_of f.walls l (want_part st (names_via f l) part)
  own_same Wild t part =
      cut_same (own_part Wild (names_via f l) part) (up_names up) (names_via f l) (λ x h. h) up_names_are ∙ ap (λ (z : Names). request_of f.walls l (part_of z part.flow)) (cut_itself (names_via f l))
  own_same Fixed t part = cut_same part (up_names up) (names_via f l) (λ x h. h) up_names_are
  own_same Shared t part = cut_same part (up_names up) (names_via f l) (λ x h. h) up_names_are

  pub want_same : (e : UnitOf × Want) → then_do (own_want l.style (names_via f l) e.0 e.1) (λ y. up_want_request up (e.0, y)) ≡ want_request f l e
  want_same e = by (is_style e.1.style l.style)
    where
      by : (b : Bool) → then_do (cond b (Some (own_part l.style (names_via f l) e.1.part)) None) (λ y. up_want_request up (e.0, y))
          ≡ cond b (request_of f.walls l (want_part l.style (names_via f l) e.1.part)) None
      by false = refl
      by true = own_same l.style refl e.1.part

  -- the requests that the table merges are those of the rule
  pub requests_are : (c : ℕ) (m : ResvFacts) → resvs_of l.style f ≡ changed (resv_at c) m → requests_toward up (under sessions rests m l.session).rows (own_for f l) ≡ requests p f l
  requests_are c m is =
      let rows : (resvs_in l.style f l.session).rows ≡ changed_rows (λ k e. resv_at c (l.session, k) e) (under sessions rests m l.session).rows =
      ap (λ (t : Table line_keys ResvState). (under sessions (pairs next_hops units) t l.session).rows) is
      ∙ ap (λ (t : Table rests ResvState). t.rows) (under_changed sessions rests (resv_at c) m l.session) in
      let resvs : filter_map (resv_request p f l) (resvs_in l.style f l.session).rows ≡ filter_map (up_resv_request up) (under sessions rests m l.session).rows =
      ap (filter_map (resv_request p f l)) rows ∙ then_filtered (λ k e. resv_at c (l.session, k) e) (resv_request p f l) (under sessions rests m l.session).rows
      ∙ (λ i. filter_map (λ e. resv_same c e i) (under sessions rests m l.session).rows) in
      let wants : filter_map (up_want_request up) (own_for f l).rows ≡ filter_map (want_request f l) (wants_in f l.session).rows =
      then_filtered (own_want l.style (names_via f l)) (up_want_request up) (wants_in f l.session).rows ∙ (λ i. filter_map (λ e. want_same e i) (wants_in f l.session).rows) in
      let back = sym resvs in
      λ i. back i ++ wants i

  -- so what the table gives is what the rule sends
  pub toward_is : (c : ℕ) (m : ResvFacts) → resvs_of l.style f ≡ changed (resv_at c) m → merged_toward l.style (requests_toward up (under sessions rests m l.session).rows (own_for f l)) ≡ toward p f l
  toward_is c m is = ap (merged_toward l.style) (requests_are c m is)
