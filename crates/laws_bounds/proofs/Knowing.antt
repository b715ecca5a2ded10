-- Known senders, previous hops, names and lanes, by look-up.
use Rattle.std.specs.Prelude.{◌≡◌, ◌⊎◌, Bool, true, false, cond, ◌||◌, List, [], ◌∷◌, ◌++◌, map as each, is_some, Option, Some, None, refl}
use Rattle.std.proofs.Common.{sym, ap, subst, ◌∙◌, inl, inr, ⊎_elim}
use Rattle.std.specs.List.{flat_map}
use Rattle.router_rules.specs.RsvpBase.declared.session.Sender.{Sender}
use Rattle.router_rules.specs.RsvpBase.declared.session.Session.{Session}
use Rattle.router_rules.specs.RsvpBase.declared.style.StyleKind.{StyleKind}
use Rattle.router_rules.specs.RsvpBase.declared.style.StyleKind.TheVariants.{Wild, Fixed, Shared}
use Rattle.router_rules.specs.RsvpBase.Keys.{Keys, pairs}
use Rattle.router_rules.specs.RsvpBase.Members.{In}
use Rattle.router_rules.specs.RsvpBase.Orders.{sessions, senders, Names}
use Rattle.router_rules.specs.RsvpBase.Table.{Table, get, has, keys, kept}
use Rattle.router_rules.proofs.RsvpBase.Counts.{in_found, found_in, in_set_of, set_of_in}
use Rattle.router_rules.proofs.RsvpBase.Members.{in_each, to_each, in_flat_map, to_flat_map, in_append, in_left, in_right}
use Rattle.router_rules.proofs.RsvpBase.SetLaws.{and_both, and_made, has-union, has-kept}
use Rattle.router_rules.proofs.RsvpBase.Tables.{get-changed, got_changed, then_do}
use Rattle.router_rules.proofs.RsvpBase.UnderLaws.{get-under}
use Rattle.router_rules.specs.Lines.{NextHop}
use Rattle.router_rules.specs.RsvpBase.Styles.{name_of}
use Rattle.router_rules.specs.Facts.{Facts, PathState, SenderKey, paths_in, senders_in}
use Rattle.router_rules.specs.Forgetting.{counted}
use Rattle.router_rules.specs.Known.{Lane, came_by, keys_where, known, lane_keys, lanes, lanes_of, named_as, names_via, names_via_where, via}
use Rattle.laws_bounds.specs.FactLaws.{ComesBy, IsNamed, KnownAndVia}
use Rattle.router_rules.proofs.RsvpBase.Fronts.{in_keys, to_keys}
use Rattle.laws_bounds.proofs.Lists.{some_is, passed}
use Rattle.laws_bounds.proofs.Tests.{came_told, came_tested}

-- ---- keys that pass a test
module _ {K X : Type 0} (o : Keys K) (test : K → X → Bool) where
  pub keys_where_told : (m : Table o X) (k : K) → has (keys_where test m) k ≡ true → (x : X) × (get m k ≡ Some x) × (test k x ≡ true)
  keys_where_told m k e =
      let u = some_is (get (keys_where test m) k) e in
      let r = got_changed o (λ k x. cond (test k x) (Some tt) None) m k u.0 u.1 in
      (r.0, r.1, (passed (test k r.0) (Some tt) u.0 r.2).0)

  pub keys_where_made : (m : Table o X) (k : K) (x : X) → get m k ≡ Some x → test k x ≡ true → has (keys_where test m) k ≡ true
  keys_where_made m k x g t =
      ap is_some (get-changed o (λ k x. cond (test k x) (Some tt) None) m k ∙ ap (λ w. then_do w (λ x. cond (test k x) (Some tt) None)) g ∙ ap (λ b. cond b (Some tt) None) t)

-- all keys
abbrev something : {X : Type 0} → X → Option (Unit {0})
something x = Some tt

same_some : {X : Type 0} (w : Option X) → is_some (then_do w something) ≡ is_some w
same_some None = refl
same_some (Some x) = refl

all_keys : {K X : Type 0} (o : Keys K) (m : Table o X) (k : K) → has (keys_where (λ k x. true) m) k ≡ has m k
all_keys o m k = ap is_some (get-changed o (λ k x. something x) m k) ∙ same_some (get m k)

-- ---- known, and via a hop
pub has-known : (f : Facts) (s : Session) (x : Sender) → has (known f s) x ≡ (has f.senders (s, x) || has f.paths (s, x))
has-known f s x =
    has-union senders (keys_where (λ x tspec. true) (senders_in f s)) (keys_where (λ x path. true) (paths_in f s)) x
    ∙ ap (λ b. b || has (keys_where (λ x path. true) (paths_in f s)) x) (all_keys senders (senders_in f s) x ∙ ap is_some (get-under sessions senders f.senders s x))
    ∙ ap (λ b. has f.senders (s, x) || b) (all_keys senders (paths_in f s) x ∙ ap is_some (get-under sessions senders f.paths s x))

pub via_told : (f : Facts) (s : Session) (hop : NextHop) (x : Sender) → has (via f s hop) x ≡ true → ComesBy f s hop x
via_told f s hop x e =
    let r = keys_where_told senders (λ x path. came_by hop path) (paths_in f s) x e in
    record { path = r.0; there = sym (get-under sessions senders f.paths s x) ∙ r.1; by = r.2 }

pub via_made : (f : Facts) (s : Session) (hop : NextHop) (x : Sender) → ComesBy f s hop x → has (via f s hop) x ≡ true
via_made f s hop x c = keys_where_made senders (λ x path. came_by hop path) (paths_in f s) x c.path (get-under sessions senders f.paths s x ∙ c.there) c.by

-- ---- names
pub named_told : (st : StyleKind) (names : Names) (x : Sender) → has (named_as st names) x ≡ true → IsNamed st names (λ y. true) x
named_told st names x e =
    let r = in_each (name_of st) x (keys names) (set_of_in senders (each (name_of st) (keys names)) x e) in
    record { sender = r.0; among = in_keys senders names r.0 r.1; passes = refl; name = r.2 }

pub named_made : (st : StyleKind) (names : Names) (x : Sender) → IsNamed st names (λ y. true) x → has (named_as st names) x ≡ true
named_made st names x n =
    in_set_of senders (each (name_of st) (keys names)) x (subst (λ z. In z (each (name_of st) (keys names))) (sym n.name)
    (to_each (name_of st) n.sender (keys names) (to_keys senders names n.sender n.among)))

pub names_told : (f : Facts) (l : Lane) (test : Sender → Bool) (x : Sender) → has (names_via_where f l test) x ≡ true → IsNamed l.style (via f l.session l.hop) test x
names_told f l test x e =
    let n = named_told l.style (kept test (via f l.session l.hop)) x e in
    let r = and_both _ _ (sym (has-kept senders test (via f l.session l.hop) n.sender) ∙ n.among) in
    record { sender = n.sender; among = r.0; passes = r.1; name = n.name }

pub names_made : (f : Facts) (l : Lane) (test : Sender → Bool) (x : Sender) → IsNamed l.style (via f l.session l.hop) test x → has (names_via_where f l test) x ≡ true
names_made f l test x n =
    named_made l.style (kept test (via f l.session l.hop)) x
    (record { sender = n.sender; among = has-kept senders test (via f l.session l.hop) n.sender ∙ and_made _ _ n.among n.passes; passes = refl; name = n.name })

-- ---- lanes
in_styles : (st : StyleKind) → In st (Wild ∷ Fixed ∷ Shared ∷ [])
in_styles Wild = inl refl
in_styles Fixed = inr (inl refl)
in_styles Shared = inr (inr (inl refl))

abbrev lane_by : SenderKey × PathState → StyleKind → Lane
lane_by e st = record { session = e.0.0; style = st; hop = (e.1.iface, e.1.hop.addr) }

pub lanes_told : (f : Facts) (l : Lane) → has (lanes f) l ≡ true → (x : Sender) × ComesBy f l.session l.hop x
lanes_told f l e =
    let r = in_flat_map lanes_of l f.paths.rows (set_of_in lane_keys (flat_map lanes_of f.paths.rows) l e) in
    let t = in_each (lane_by r.0) l (Wild ∷ Fixed ∷ Shared ∷ []) r.2 in
    let at : l.session ≡ r.0.0.0 = ap (λ (z : Lane). z.session) t.2 in
    let hop : l.hop ≡ (r.0.1.iface, r.0.1.hop.addr) = ap (λ (z : Lane). z.hop) t.2 in (
      r.0.0.1,
      record {
        path = r.0.1;
        there = ap (λ s. get f.paths (s, r.0.0.1)) at ∙ in_found (pairs sessions senders) f.paths r.0.0 r.0.1 r.1;
        by = came_tested l.hop r.0.1 (sym (ap (λ (h : NextHop). h.0) hop), sym (ap (λ (h : NextHop). h.1) hop));
      },
    )

pub lanes_made : (f : Facts) (l : Lane) (x : Sender) → ComesBy f l.session l.hop x → has (lanes f) l ≡ true
lanes_made f l x c =
    let from = came_told l.hop c.path c.by in
    let is : l ≡ lane_by ((l.session, x), c.path) l.style = λ i. record { session = l.session; style = l.style; hop = (sym from.0 i, sym from.1 i) } in
    in_set_of lane_keys (flat_map lanes_of f.paths.rows) l
    (to_flat_map lanes_of ((l.session, x), c.path) l f.paths.rows (found_in (pairs sessions senders) f.paths (l.session, x) c.path c.there)
    (subst (λ z. In z (lanes_of ((l.session, x), c.path))) (sym is) (to_each (lane_by ((l.session, x), c.path)) l.style (Wild ∷ Fixed ∷ Shared ∷ []) (in_styles l.style))))

-- ---- countdowns
either_true : (a b : Bool) → (a || b) ≡ true → (a ≡ true) ⊎ (b ≡ true)
either_true true b e = inl refl
either_true false b e = inr e

left_true : (a b : Bool) → a ≡ true → (a || b) ≡ true
left_true a b e = ap (λ c. c || b) e

right_true : (a b : Bool) → b ≡ true → (a || b) ≡ true
right_true true b e = refl
right_true false b e = e

-- a session of a table's keys has one of them
in_firsts : {B X : Type 0} (o : Keys B) (m : Table (pairs sessions o) X) (s : Session) → In s (each (λ k. k.0) (keys m)) → (b : B) × (has m (s, b) ≡ true)
in_firsts {B} o m s i =
    let r = in_each (λ (k : Session × B). k.0) s (keys m) i in
    (r.0.1, subst (λ (z : Session). has m (z, r.0.1) ≡ true) (sym r.2) (in_keys (pairs sessions o) m r.0 r.1))

to_firsts : {B X : Type 0} (o : Keys B) (m : Table (pairs sessions o) X) (s : Session) (b : B) → has m (s, b) ≡ true → In s (each (λ k. k.0) (keys m))
to_firsts {B} o m s b e = to_each (λ (k : Session × B). k.0) (s, b) (keys m) (to_keys (pairs sessions o) m (s, b) e)

abbrev firsts : Facts → List Session
firsts f = each (λ k. k.0) (keys f.senders) ++ each (λ k. k.0) (keys f.paths)

pub counted_told : (f : Facts) (s : Session) → has (counted f) s ≡ true → (x : Sender) × (has (known f s) x ≡ true)
counted_told f s e =
    ⊎_elim
    (λ (i : In s (each (λ k. k.0) (keys f.senders))). let r = in_firsts senders f.senders s i in (r.0, has-known f s r.0 ∙ left_true _ _ r.1))
    (λ (i : In s (each (λ k. k.0) (keys f.paths))). let r = in_firsts senders f.paths s i in (r.0, has-known f s r.0 ∙ right_true _ _ r.1))
    (in_append s _ _ (set_of_in sessions (firsts f) s e))

pub counted_made : (f : Facts) (s : Session) (x : Sender) → has (known f s) x ≡ true → has (counted f) s ≡ true
counted_made f s x e =
    in_set_of sessions (firsts f) s
    (⊎_elim (λ (h : has f.senders (s, x) ≡ true). in_left s _ _ (to_firsts senders f.senders s x h))
    (λ (h : has f.paths (s, x) ≡ true). in_right s (each (λ k. k.0) (keys f.senders)) _ (to_firsts senders f.paths s x h))
    (either_true _ _ (sym (has-known f s x) ∙ e)))

-- ---- a name that passes a test that all pass
with_all : (f : Facts) (l : Lane) (x : Sender) → IsNamed l.style (via f l.session l.hop) (λ y. true) x → has (names_via f l) x ≡ true
with_all f l x n = named_made l.style (via f l.session l.hop) x n

pub known_and_via : KnownAndVia
known_and_via =
    record {
      known_by = has-known;
      via_by = λ f s hop x. (via_told f s hop x, via_made f s hop x);
      named_by = λ st names x. (named_told st names x, named_made st names x);
      names_by = λ f l test x. (names_told f l test x, names_made f l test x);
      all_by = λ f l x. (named_told l.style (via f l.session l.hop) x, with_all f l x);
      lanes_by = λ f l. (lanes_told f l, λ r. lanes_made f l r.0 r.1);
      counted_by = λ f s. (counted_told f s, λ r. counted_made f s r.0 r.1);
    }
