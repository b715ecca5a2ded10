-- Toward which previous hops another is asked for when a Resv comes: those of which a sender's tree goes out where it came.
use Rattle.std.proofs.Common.{◌≡◌, ℕ, suc, ◌<◌, List, [], ◌∷◌, ◌++◌, length, true, false, cond, Option, None, Some, ◌⊎◌, inl, inr, ⊎_elim, arith, sym, refl, ap, subst, ◌∙◌}
use Rattle.std.specs.Prelude.{map as each, not, is_some, ◌==◌}
use Rattle.std.specs.List.{filter_map, cons_option}
use Rattle.std.specs.Option.{option_map}
use Rattle.std.specs.Ordering.{eq_by_cmp}
use Rattle.std.specs.FinMap.Entries.{find}
use Rattle.rsvp_base.specs.declared.part.Part.{Part}
use Rattle.rsvp_base.specs.declared.session.Sender.{Sender}
use Rattle.rsvp_base.specs.declared.style.StyleKind.{StyleKind}
use Rattle.rsvp_base.specs.declared.style.Unit.{Unit as UnitOf}
use Rattle.rsvp_base.specs.Keys.{Keys, pairs}
use Rattle.rsvp_base.specs.Orders.{Names, senders, sessions, styles, units}
use Rattle.rsvp_base.specs.Sets.{cut, is_none}
use Rattle.rsvp_base.specs.Table.{Table, changed, changed_rows, get, has, kept, kept_row}
use Rattle.rsvp_base.specs.Under.{under}
use Rattle.rsvp_base.proofs.SetLaws.{and_both, has-cut}
use Rattle.rsvp_base.proofs.Tables.{either, get-changed, same_table, then_do, tied_same, tied_self}
use Rattle.rsvp_base.proofs.UnderLaws.{get-under}
use Rattle.rsvp_messages.specs.declared.message.Message.TheVariants as message
use Rattle.rsvp_messages.specs.declared.message.ResvMsg.{ResvMsg}
use Rattle.rsvp_messages.specs.Units.{ask_style}
use Rattle.style_rules.specs.CutLaws.{cut_of}
use Rattle.style_rules.specs.Lines.{LineKey, NextHop, next_hops}
use Rattle.style_rules.specs.Parts.{part_cut}
use Rattle.style_rules.specs.Toward.{Request, toward as merged_toward}
use Rattle.laws_bounds.specs.FactLaws.{ComesBy}
use Rattle.laws_bounds.proofs.Knowing.{known_and_via}
use Rattle.laws_bounds.proofs.Lists.{one_name}
use Rattle.laws_bounds.proofs.Tests.{parts_tested}
use Rattle.laws_steps.specs.ReservationLaws.{IsAskedFor, SpeaksOf}
use Rattle.laws_steps.proofs.Asking.{what_keeps_a_reservation_fact, where_a_reservation_fact_comes_from}
use Rattle.router_rules.specs.Act.{act}
use Rattle.router_rules.specs.Facts.{Facts, Paths, ResvState, Want, resvs_in, resvs_of, wants_in}
use Rattle.router_rules.specs.Inputs.{Came, Input, Spelt}
use Rattle.router_rules.specs.Known.{Lane, came_by, keys_where, known, named_as, names_via_where, via}
use Rattle.router_rules.specs.NodeConfig.{NodeConfig, goes_out, own}
use Rattle.router_rules.specs.Requests.{request_of, resv_request, toward, want_part, want_request, is_style}
use Rattle.router_rules.specs.Rule.{settled}
use Rattle.router_rules.specs.Sends.{is_changed}
use Rattle.router_rules.specs.Steps.{Begins, NodeStep, left_by, node_step}
use Rattle.tree_model.proofs.Following.{same_number, number_same}

-- ---- what is picked of the rows of a table depends on what stands under its keys
values_picked : {K X B : Type 0} (f : K → X → Option B) (es : List (K × X)) → filter_map (λ (e : K × X). f e.0 e.1) es ≡ each (λ (e : K × B). e.1) (changed_rows f es)
values_picked f [] = refl
values_picked {K} {X} {B} f (e ∷ es) = by (f e.0 e.1) (values_picked f es)
  where
    by : (o : Option B) → filter_map (λ (e : K × X). f e.0 e.1) es ≡ each (λ (e : K × B). e.1) (changed_rows f es)
        → cons_option o (filter_map (λ (e : K × X). f e.0 e.1) es) ≡ each (λ (e : K × B). e.1) (kept_row e.0 o (changed_rows f es))
    by None rest = rest
    by (Some y) rest = ap (λ (zs : List B). y ∷ zs) rest

pub same_picked : {K X Y B : Type 0} (o : Keys K) (h : K → X → Option B) (g : K → Y → Option B) (m : Table o X) (n : Table o Y) → ((k : K) → then_do (get m k) (h k) ≡ then_do (get n k) (g k))
    → filter_map (λ (e : K × X). h e.0 e.1) m.rows ≡ filter_map (λ (e : K × Y). g e.0 e.1) n.rows
same_picked {K} {X} {Y} {B} o h g m n same =
    values_picked h m.rows
    ∙ ap (λ (t : Table o B). each (λ (e : K × B). e.1) t.rows) (same_table o (changed h m) (changed g n) (λ k. get-changed o h m k ∙ same k ∙ sym (get-changed o g n k)))
    ∙ sym (values_picked g n.rows)

-- ---- what goes toward a hop, where paths, wants and blockades are the same
module _ (p : NodeConfig) (f g : Facts) (l : Lane) (vias : via g l.session l.hop ≡ via f l.session l.hop) (wants : g.wants ≡ f.wants) (walls : g.walls ≡ f.walls) where
  abbrev pub named_there : ℕ → Names
  named_there e = names_via_where f l (goes_out p l.session e)

  abbrev asked_in : Facts → NextHop × UnitOf → Option Part
  asked_in h k = option_map (λ (r : ResvState). r.part) (get (resvs_of l.style h) (l.session, k))

  -- a reservation whose part is the same, or of which nobody is behind the hop
  abbrev pub IsAlike : NextHop × UnitOf → Type 0
  IsAlike k = (asked_in f k ≡ asked_in g k) ⊎ ((x : Sender) → has (named_there k.0.0) x ≡ true → ⊥)

  abbrev asks : NextHop × UnitOf → Part → Option Request
  asks k v = request_of f.walls l (part_cut v (named_there k.0.0))

  resv_asks : (k : NextHop × UnitOf) (r : ResvState) → resv_request p g l (k, r) ≡ asks k r.part
  resv_asks k r = λ i. request_of (walls i) l (part_cut r.part (named_as l.style (kept (goes_out p l.session k.0.0) (vias i))))

  want_asks : (e : UnitOf × Want) → want_request g l e ≡ want_request f l e
  want_asks e = λ i. cond (is_style e.1.style l.style) (request_of (walls i) l (want_part l.style (named_as l.style (vias i)) e.1.part)) None

  then_parts : (k : NextHop × UnitOf) (o : Option ResvState) → then_do o (λ (r : ResvState). asks k r.part) ≡ then_do (option_map (λ (r : ResvState). r.part) o) (asks k)
  then_parts k None = refl
  then_parts k (Some r) = refl

  asks_nothing : (k : NextHop × UnitOf) → ((x : Sender) → has (named_there k.0.0) x ≡ true → ⊥) → (v : Part) → asks k v ≡ None
  asks_nothing k none v = by (part_cut v (named_there k.0.0)) refl
    where
      by : (o : Option Part) → part_cut v (named_there k.0.0) ≡ o → request_of f.walls l o ≡ None
      by None e = refl
      by (Some x) e =
          let r = one_name (cut v.senders (named_there k.0.0)) (cut_of v x (named_there k.0.0) e).some in
          absurd (none r.0 (and_both _ _ (sym (has-cut senders v.senders (named_there k.0.0) r.0) ∙ r.1)).1)

  then_nothing : (k : NextHop × UnitOf) → ((v : Part) → asks k v ≡ None) → (o : Option Part) → then_do o (asks k) ≡ None
  then_nothing k none None = refl
  then_nothing k none (Some v) = none v

  pub toward_alike : ((k : NextHop × UnitOf) → IsAlike k) → toward p f l ≡ toward p g l
  toward_alike alike =
      let at : (k : NextHop × UnitOf) → then_do (get (resvs_in l.style f l.session) k) (λ (r : ResvState). resv_request p f l (k, r)) ≡ then_do (get (resvs_in l.style g l.session) k) (λ (r : ResvState). resv_request p g l (k, r)) =
      (λ k.
      let uf = get-under sessions (pairs next_hops units) (resvs_of l.style f) l.session k in
      let ug = get-under sessions (pairs next_hops units) (resvs_of l.style g) l.session k in
      let a : then_do (get (resvs_in l.style f l.session) k) (λ (r : ResvState). resv_request p f l (k, r)) ≡ then_do (asked_in f k) (asks k) =
      ap (λ (o : Option ResvState). then_do o (λ (r : ResvState). asks k r.part)) uf ∙ then_parts k (get (resvs_of l.style f) (l.session, k)) in
      let b : then_do (get (resvs_in l.style g l.session) k) (λ (r : ResvState). resv_request p g l (k, r)) ≡ then_do (asked_in g k) (asks k) =
      (λ i. then_do (get (resvs_in l.style g l.session) k) (λ (r : ResvState). resv_asks k r i)) ∙ ap (λ (o : Option ResvState). then_do o (λ (r : ResvState). asks k r.part)) ug
      ∙ then_parts k (get (resvs_of l.style g) (l.session, k)) in
      a ∙ ⊎_elim (λ (same : asked_in f k ≡ asked_in g k). ap (λ (o : Option Part). then_do o (asks k)) same)
      (λ (none : (x : Sender) → has (named_there k.0.0) x ≡ true → ⊥). then_nothing k (asks_nothing k none) (asked_in f k) ∙ sym (then_nothing k (asks_nothing k none) (asked_in g k)))
      (alike k) ∙ sym b) in
      let resvs : filter_map (resv_request p f l) (resvs_in l.style f l.session).rows ≡ filter_map (resv_request p g l) (resvs_in l.style g l.session).rows =
      same_picked (pairs next_hops units) (λ k r. resv_request p f l (k, r)) (λ k r. resv_request p g l (k, r)) (resvs_in l.style f l.session) (resvs_in l.style g l.session) at in
      let own : filter_map (want_request f l) (wants_in f l.session).rows ≡ filter_map (want_request g l) (wants_in g l.session).rows =
      sym (λ i. filter_map (λ (e : UnitOf × Want). want_asks e i) (under sessions units (wants i) l.session).rows) in
      ap (merged_toward l.style) (λ i. resvs i ++ own i)

-- ---- a set with nobody
none_has : (names : Names) → is_none names ≡ true → (x : Sender) → has names x ≡ true → ⊥
none_has names none x h = by names.rows none h
  where
    by : (es : List (Sender × Unit {0})) → (length es == 0) ≡ true → is_some (find senders.cmp x es) ≡ true → ⊥
    by [] n f = let z : false ≡ true = f in cc
    by (y ∷ ys) n f = let z : suc (length ys) ≡ 0 = same_number (suc (length ys)) 0 n in absurd (omega (arith, z))

-- ---- a Resv comes to a node of which no reservation dies and no name is forgotten
module _ (p : NodeConfig) (b c e : ℕ) (m : ResvMsg) (f : Facts) where
  abbrev pub came : Input
  came = Came e (own p e) (Spelt (message.Resv m))

  abbrev pub at : NodeStep
  at = node_step p p b c came f

  -- what it leaves, but for marks that are used
  abbrev pub then_left : Facts
  then_left = settled p c f (act p c came f).facts

  pub record StaysKept : Type 0 where
    pub begins : Begins at
    pub lives : (st : StyleKind) (k : LineKey) (r : ResvState) → get (resvs_of st f) k ≡ Some r → c < r.dies
    pub named : (st : StyleKind) (k : LineKey) (r : ResvState) → get (resvs_of st f) k ≡ Some r → (x : Sender) → has r.part.senders x ≡ true → has (named_as st (known (left_by at) k.0)) x ≡ true
    pub paths : then_left.paths ≡ f.paths
    pub wants : then_left.wants ≡ f.wants
    pub walls : then_left.walls ≡ f.walls

  module _ (stays : StaysKept) where
    -- a reservation of which the Resv does not speak stays as it is, and no other comes
    resv_same : (st : StyleKind) (k : LineKey) → (SpeaksOf m.session e m.hop.addr (ask_style m.ask) st k → ⊥) → get (resvs_of st f) k ≡ get (resvs_of st then_left) k
    resv_same st k apart = by (get (resvs_of st f) k) (get (resvs_of st then_left) k) refl refl
      where
        on : (r : ResvState) → get (resvs_of st f) k ≡ Some r → get (resvs_of st then_left) k ≡ Some r
        on r is = what_keeps_a_reservation_fact.whole at stays.begins st k r is (stays.lives st k r is) apart (stays.named st k r is)

        by : (o v : Option ResvState) → get (resvs_of st f) k ≡ o → get (resvs_of st then_left) k ≡ v → get (resvs_of st f) k ≡ get (resvs_of st then_left) k
        by (Some r) v is then = is ∙ sym (on r is)
        by None None is then = is ∙ sym then
        by None (Some x) is then =
            ⊎_elim (λ old. let no : None ≡ Some old.0 = sym is ∙ old.1 in absurd (cc))
            (λ (new : IsAskedFor p c came f st k x).
            let same : came ≡ Came k.1.0.0 (own p k.1.0.0) (Spelt (message.Resv new.by.resv)) = new.by.came in
            let iface : e ≡ k.1.0.0 = cc in
            let msg : m ≡ new.by.resv = cc in
            absurd (apart (ap (λ (z : ResvMsg). z.session) msg ∙ new.by.session, iface, ap (λ (z : ResvMsg). z.hop.addr) msg ∙ new.by.next, ap (λ (z : ResvMsg). ask_style z.ask) msg ∙ new.by.style)))
            (where_a_reservation_fact_comes_from at stays.begins st k x then)

    pub vias_of : (l : Lane) → via then_left l.session l.hop ≡ via f l.session l.hop
    vias_of l = ap (λ (t : Paths). keys_where (λ x path. came_by l.hop path) (under sessions senders t l.session)) stays.paths

    -- where nobody's tree that comes from the hop goes out where it came, or it is of another session or style, what goes toward the hop is
    -- what went
    module _ (l : Lane) where
      pub same_apart : (((m.session ≡ l.session) × (ask_style m.ask ≡ l.style) → ⊥) ⊎ ((x : Sender) → has (names_via_where f l (goes_out p l.session e)) x ≡ true → ⊥)) → toward p f l ≡ toward p then_left l
      same_apart (inl other) =
          toward_alike p f then_left l (vias_of l) stays.wants stays.walls
          (λ k. inl (ap (option_map (λ (r : ResvState). r.part)) (resv_same l.style (l.session, k) (λ s. other (s.0, s.3)))))
      same_apart (inr none) =
          toward_alike p f then_left l (vias_of l) stays.wants stays.walls
          (λ k. either (e == k.0.0) (λ yes. inr (subst (λ (z : ℕ). (x : Sender) → has (names_via_where f l (goes_out p l.session z)) x ≡ true → ⊥) (same_number e k.0.0 yes) none))
          (λ no. inl (ap (option_map (λ (r : ResvState). r.part)) (resv_same l.style (l.session, k) (λ s. let bad : true ≡ false = sym (number_same e k.0.0 s.1) ∙ no in cc)))))

      -- so where it is another, a sender's tree comes from the hop and goes out where the Resv came
      pub record IsFollowed : Type 0 where
        pub session : m.session ≡ l.session
        pub style : ask_style m.ask ≡ l.style
        pub sender : Sender
        pub comes : ComesBy f l.session l.hop sender
        pub leaves : goes_out p l.session e sender ≡ true

      pub why_changed : is_changed p p f then_left l ≡ true → IsFollowed
      why_changed changed_is =
          either (eq_by_cmp sessions.cmp m.session l.session)
          (λ s. either (eq_by_cmp styles.cmp (ask_style m.ask) l.style)
          (λ t. either (is_none (names_via_where f l (goes_out p l.session e)))
          (λ none. still (inr (λ x is. nobody none x is)))
          (λ some.
          let x = one_name (names_via_where f l (goes_out p l.session e)) some in
          let n = (known_and_via.names_by f l (goes_out p l.session e) x.0).0 x.1 in
          record {
            session = tied_same sessions m.session l.session s;
            style = tied_same styles (ask_style m.ask) l.style t;
            sender = n.sender;
            comes = (known_and_via.via_by f l.session l.hop n.sender).0 n.among;
            leaves = n.passes;
          }))
          (λ no. still (inl (λ z. let bad : true ≡ false = sym (tied_to styles (ask_style m.ask) l.style z.1) ∙ no in cc))))
          (λ no. still (inl (λ z. let bad : true ≡ false = sym (tied_to sessions m.session l.session z.0) ∙ no in cc)))
        where
          still : (((m.session ≡ l.session) × (ask_style m.ask ≡ l.style) → ⊥) ⊎ ((x : Sender) → has (names_via_where f l (goes_out p l.session e)) x ≡ true → ⊥)) → IsFollowed
          still z = let bad : false ≡ true = sym (ap not (parts_tested (toward p f l) (toward p then_left l) (same_apart z))) ∙ changed_is in absurd (cc)

          tied_to : {K : Type 0} (o : Keys K) (x y : K) → x ≡ y → eq_by_cmp o.cmp x y ≡ true
          tied_to o x y s = ap (λ z. eq_by_cmp o.cmp x z) (sym s) ∙ tied_self o x

          nobody : is_none (names_via_where f l (goes_out p l.session e)) ≡ true → (x : Sender) → has (names_via_where f l (goes_out p l.session e)) x ≡ true → ⊥
          nobody none x is = none_has (names_via_where f l (goes_out p l.session e)) none x is
