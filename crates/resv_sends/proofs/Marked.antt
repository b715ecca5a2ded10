-- Wants that are to be confirmed and take part, as the tables have them and as the rule says.
use Rattle.std.specs.Prelude.{◌≡◌, ◌<◌, ◌+◌, ℕ, Bool, true, false, cond, ◌&&◌, ◌||◌, List, [], ◌∷◌, ◌++◌, map as each, length, take, slice_index_or, Option, Some, None, is_some, refl}
use Rattle.std.specs.List.{filter, list_any}
use Rattle.std.proofs.Common.{sym, ap, inl, inr, ◌∙◌, arith}
use Rattle.std.proofs.lemmas.List.{length-map, map-append}
use Rattle.std.proofs.lemmas.List.Elements.{filter-append}
use Rattle.rsvp_base.specs.Members.{In}
use Rattle.rsvp_base.specs.Orders.{sessions, units}
use Rattle.rsvp_base.specs.Sets.{set_of, with_key}
use Rattle.rsvp_base.specs.Table.{get, has, keys, size}
use Rattle.rsvp_base.specs.Under.{under}
use Rattle.rsvp_base.specs.declared.addr.Addr.{Addr}
use Rattle.rsvp_base.specs.declared.part.Part.{Part}
use Rattle.rsvp_base.specs.declared.session.Session.{Session}
use Rattle.rsvp_base.specs.declared.style.StyleKind.{StyleKind}
use Rattle.rsvp_base.specs.declared.style.StyleKind.TheVariants.{Wild, Fixed, Shared}
use Rattle.rsvp_base.specs.declared.style.Unit.{Unit as UnitOf}
use Rattle.rsvp_base.proofs.Counts.{in_found}
use Rattle.rsvp_base.proofs.Members.{in_each, in_filter}
use Rattle.rsvp_base.proofs.Tables.{get-changed, then_do}
use Rattle.style_rules.specs.Lines.{NextHop}
use Rattle.style_rules.specs.Merge.{PartTable}
use Rattle.style_rules.specs.Toward.{Request}
use Rattle.style_rules.specs.Ways.{WayTable}
use Rattle.resv_state.specs.Merging.{want_request as up_want_request}
use Rattle.router_rules.specs.Facts.{Facts, Want, wants_in}
use Rattle.router_rules.specs.Known.{Lane, names_via}
use Rattle.router_rules.specs.NodeConfig.{own as own_of}
use Rattle.router_rules.specs.Requests.{requests, want_request}
use Rattle.router_rules.specs.Sends.{is_marked, own_wish, takes_part}
use Rattle.local_state.specs.Wants.{asked_row}
use Rattle.local_state.specs.declared.wants.LocalWant.{LocalWant}
use Rattle.laws_sends.specs.State.{Said, State, facts_of}
use Rattle.laws_sends.specs.Seen.{lane_of, own_at, up_at}
use Rattle.laws_sends.specs.Upward.{own_for, own_want, up_for}
use Rattle.laws_sends.proofs.Towards.{requests_are, want_same}
use Rattle.laws_sends.proofs.Via.{set_of_more, take_one}
use Rattle.router_state.specs.Whole.{state_of}
use Rattle.router_state.specs.declared.tables.Tables.{Tables}
use Rattle.resv_sends.specs.Taking.{is_marked_in, marked_in, requests_of, takes_as}
use Rattle.resv_sends.specs.Units.{UnitSet}
use Rattle.resv_sends.specs.Wishes.{marked_seen, wish_seen}

-- ---- lists
filter_same : {A : Type 0} (f g : A → Bool) (xs : List A) → ((x : A) → In x xs → f x ≡ g x) → filter f xs ≡ filter g xs
filter_same f g [] same = refl
filter_same f g (x ∷ xs) same = (λ i. cond (same x (inl refl) i) (x ∷ filter f xs) (filter f xs))
    ∙ (λ i. cond (g x) (x ∷ filter_same f g xs (λ y j. same y (inr j)) i) (filter_same f g xs (λ y j. same y (inr j)) i))

-- ---- one want after another
module _ (test : UnitOf × Want → Bool) where
  abbrev pub so_far : List (UnitOf × Want) → UnitSet
  so_far es = set_of (each (λ e. e.0) (filter test es))

  one_more : (es : List (UnitOf × Want)) (e : UnitOf × Want) → each (λ (z : UnitOf × Want). z.0) (filter test (es ++ e ∷ []))
      ≡ each (λ (z : UnitOf × Want). z.0) (filter test es) ++ each (λ (z : UnitOf × Want). z.0) (filter test (e ∷ []))
  one_more es e = ap (each (λ (z : UnitOf × Want). z.0)) (filter-append test es (e ∷ [])) ∙ map-append (λ (z : UnitOf × Want). z.0) (filter test es) (filter test (e ∷ []))

  pub marks_more : (es : List (UnitOf × Want)) (e : UnitOf × Want) → test e ≡ true → with_key (so_far es) e.0 ≡ so_far (es ++ e ∷ [])
  marks_more es e t =
      sym (set_of_more units (each (λ z. z.0) (filter test es)) e.0) ∙ ap (λ (ks : List UnitOf). set_of {o = units} ks)
      (ap (λ b. each (λ (z : UnitOf × Want). z.0) (filter test es) ++ each (λ (z : UnitOf × Want). z.0) (cond b (e ∷ []) [])) (sym t) ∙ sym (one_more es e))

  pub marks_same : (es : List (UnitOf × Want)) (e : UnitOf × Want) → test e ≡ false → so_far es ≡ so_far (es ++ e ∷ [])
  marks_same es e t = ap (λ (ks : List UnitOf). set_of {o = units} ks) (sym (nothing (each (λ z. z.0) (filter test es)))
      ∙ ap (λ b. each (λ (z : UnitOf × Want). z.0) (filter test es) ++ each (λ (z : UnitOf × Want). z.0) (cond b (e ∷ []) [])) (sym t) ∙ sym (one_more es e))
    where
      nothing : (ks : List UnitOf) → ks ++ [] ≡ ks
      nothing [] = refl
      nothing (k ∷ ks) = ap (λ js. k ∷ js) (nothing ks)

-- ---- the rows of the table of wants
pub asked_more : (ws : List LocalWant) (i : ℕ) (x : LocalWant) → i < length ws → x ≡ slice_index_or ws i x → each asked_row (take (i + 1) ws) ≡ each asked_row (take i ws) ++ asked_row x ∷ []
asked_more ws i x h is = ap (each asked_row) (take_one ws i x h ∙ ap (λ z. take i ws ++ z ∷ []) (sym is)) ∙ map-append asked_row (take i ws) (x ∷ [])

pub any_asked : (ws : List LocalWant) → list_any (λ w. w.confirm) ws ≡ list_any (λ e. e.1.confirm) (each asked_row ws)
any_asked [] = refl
any_asked (w ∷ ws) = ap (λ b. w.confirm || b) (any_asked ws)

-- ---- what the tables have is what the rule says
module _ (c : ℕ) (t : Tables) (said : Said) (s : Session) (hop : NextHop) where
  abbrev n : State
  n = state_of t said

  abbrev f : Facts
  f = facts_of c n

  module _ (st : StyleKind) where
    abbrev l : Lane
    l = lane_of s st hop

    abbrev up : WayTable
    up = up_for t.config f l

    abbrev own : PartTable
    own = own_for f l

  all_requests : (st : StyleKind) → requests_of st t s (up st) (own st) ≡ requests t.config f (l st)
  all_requests Wild = requests_are t.config f (lane_of s Wild hop) c t.wild.facts refl
  all_requests Fixed = requests_are t.config f (lane_of s Fixed hop) c t.fixed.facts refl
  all_requests Shared = requests_are t.config f (lane_of s Shared hop) c t.shared.facts refl

  module _ (st : StyleKind) where
    takes_same : (all : List Request) (u : UnitOf) (o : Option Part) → takes_as st all (up st) o ≡ takes_part st all (then_do o (λ y. up_want_request (up st) (u, y)))
    takes_same all u None = refl
    takes_same all u (Some y) = refl

    own_got : (e : UnitOf × Want) → In e (wants_in f s).rows → get (own st) e.0 ≡ own_want st (names_via f (l st)) e.0 e.1
    own_got e i = get-changed units (own_want st (names_via f (l st))) (wants_in f s) e.0 ∙ ap (λ w. then_do w (own_want st (names_via f (l st)) e.0)) (in_found units (wants_in f s) e.0 e.1 i)

    mark_same : (e : UnitOf × Want) → In e (wants_in f s).rows → is_marked_in st (requests_of st t s (up st) (own st)) (up st) (own st) e ≡ is_marked t.config f (l st) e
    mark_same e i =
        ap (λ b. e.1.confirm && b)
        (takes_same (requests_of st t s (up st) (own st)) e.0 (get (own st) e.0) ∙ ap (λ o. takes_part st (requests_of st t s (up st) (own st)) (then_do o (λ y. up_want_request (up st) (e.0, y))))
        (own_got e i)
        ∙ ap (takes_part st (requests_of st t s (up st) (own st))) (want_same t.config f (l st) e) ∙ ap (λ all. takes_part st all (want_request f (l st) e)) (all_requests st))

    pub marked_is : (ways : WayTable) (ours : PartTable) → ways ≡ up_at c n s st hop → ours ≡ own_at c n s st hop
        → marked_in st (requests_of st t s ways ours) ways ours (under sessions units t.wants s).rows ≡ marked_seen c n (l st)
    unfolding marked_seen up_at own_at
    marked_is ways ours a b =
        (λ i. marked_in st (requests_of st t s (a i) (b i)) (a i) (b i) (under sessions units t.wants s).rows) ∙ ap (each (λ e. e.0)) (filter_same _ _ (wants_in f s).rows mark_same)

    -- ---- where no want is to be confirmed
    none_marked : (es : List (UnitOf × Want)) → list_any (λ e. e.1.confirm) es ≡ false → filter (is_marked t.config f (l st)) es ≡ []
    none_marked [] off = refl
    none_marked (e ∷ es) off = by e.1.confirm off (none_marked es)
      where
        by : (b : Bool) → (b || list_any (λ z. z.1.confirm) es) ≡ false → (list_any (λ z. z.1.confirm) es ≡ false → filter (is_marked t.config f (l st)) es ≡ [])
            → cond (b && takes_part st (requests t.config f (l st)) (want_request f (l st) e)) (e ∷ filter (is_marked t.config f (l st)) es) (filter (is_marked t.config f (l st)) es) ≡ []
        by true h ih = cc
        by false h ih = ih h

    pub unmarked_is : list_any (λ e. e.1.confirm) (under sessions units t.wants s).rows ≡ false → [] ≡ marked_seen c n (l st)
    unfolding marked_seen
    unmarked_is off = sym (ap (each (λ e. e.0)) (none_marked (under sessions units t.wants s).rows off))

    -- ---- the marks are those of wants
    pub marks_wanted : (u : UnitOf) → In u (marked_seen c n (l st)) → has (under sessions units t.wants s) u ≡ true
    unfolding marked_seen
    marks_wanted u i =
        let e = in_each (λ (z : UnitOf × Want). z.0) u (filter (is_marked t.config f (l st)) (wants_in f s).rows) i in
        let r = in_filter (is_marked t.config f (l st)) e.0 (wants_in f s).rows e.1 in
        ap (has (under sessions units t.wants s)) e.2 ∙ ap is_some (in_found units (wants_in f s) e.0.0 e.0.1 r.0)

    -- ---- whom a Resv asks to confirm
    pub wish_none : [] ≡ marked_seen c n (l st) → None ≡ wish_seen c n (l st)
    unfolding marked_seen wish_seen
    wish_none e = ap (own_wish t.config (l st)) e

    pub wish_some : (us : List UnitOf) → us ≡ marked_seen c n (l st) → (length us ≡ 0 → ⊥) → (a : Addr) → a ≡ own_of t.config hop.0 → Some a ≡ wish_seen c n (l st)
    unfolding marked_seen wish_seen
    wish_some us e some a is = by us some ∙ ap (own_wish t.config (l st)) e
      where
        by : (ks : List UnitOf) → (length ks ≡ 0 → ⊥) → Some a ≡ own_wish t.config (l st) ks
        by [] h = absurd (h refl)
        by (k ∷ ks) h = ap (λ z. Some z) is

-- ---- sets without units
pub no_keys : (us : UnitSet) → size us ≡ 0 → keys us ≡ []
no_keys us none = by us.rows none
  where
    by : (es : List (UnitOf × Unit {0})) → length es ≡ 0 → each (λ e. e.0) es ≡ []
    by [] h = refl
    by (e ∷ es) h = absurd (omega (arith, h))

pub few_keys : (us : UnitSet) → length (keys us) ≡ 0 → size us ≡ 0
few_keys us none = sym (length-map us.rows (λ e. e.0)) ∙ none
