-- What waiting, forgetting and settling leave.
use Rattle.std.specs.Prelude.{◌≡◌, ℕ, ◌+◌, ◌<◌, ◌≤◌, nat_le, nat_lt, Bool, true, false, cond, not, ◌&&◌, is_some, Option, Some, None, refl}
use Rattle.std.proofs.Common.{sym, ap, subst, ◌∙◌}
use Rattle.std.proofs.lemmas.Bool.{ltb-true, lt-ltb, leb-true, le-leb}
use Rattle.std.specs.Option.{option_map, unwrap_or}
use Rattle.router_rules.specs.RsvpBase.declared.part.Part.{Part}
use Rattle.router_rules.specs.RsvpBase.declared.session.Sender.{Sender}
use Rattle.router_rules.specs.RsvpBase.declared.session.Session.{Session}
use Rattle.router_rules.specs.RsvpBase.declared.style.StyleKind.{StyleKind}
use Rattle.router_rules.specs.RsvpBase.declared.style.StyleKind.TheVariants.{Wild, Fixed, Shared}
use Rattle.router_rules.specs.RsvpBase.Keys.{Keys}
use Rattle.router_rules.specs.RsvpBase.Orders.{sessions, senders, Names}
use Rattle.router_rules.specs.RsvpBase.Sets.{is_none}
use Rattle.router_rules.specs.RsvpBase.Table.{Table, changed, get, has, kept}
use Rattle.router_rules.proofs.RsvpBase.SetLaws.{and_both, and_made, has-kept, same_set}
use Rattle.router_rules.proofs.RsvpBase.Tables.{get-changed, got_changed, then_do}
use Rattle.router_rules.specs.CutLaws.{made_of, part_of_none, part_of_some}
use Rattle.router_rules.specs.Lines.{LineKey, line_keys}
use Rattle.router_rules.specs.Parts.{has_name, part_of}
use Rattle.router_rules.specs.Asking.{left_of, with_part}
use Rattle.router_rules.specs.Facts.{Blockade, Facts, PathState, Resvs, ResvState, ResvTables, each_table, resvs_of, sender_keys, table_of, with_table}
use Rattle.router_rules.specs.Targets.{wall_keys}
use Rattle.router_rules.specs.Forgetting.{counted, forget, is_lost, remembered}
use Rattle.router_rules.specs.Known.{known, named_as}
use Rattle.router_rules.specs.NodeConfig.{NodeConfig, period}
use Rattle.router_rules.specs.Waiting.{act_wait, living, next_due}
use Rattle.laws_bounds.specs.RuleLaws.{CountdownsSettle, ForgettingByNames, IsLeft, LeftByNames, TablesByStyle, WaitingLeavesTheLiving}
use Rattle.laws_bounds.proofs.Lists.{has_some, one_name, passed, some_is}

-- ---- one table for each style
pub table_of_each : (st : StyleKind) (g : StyleKind → Resvs → Resvs) (ts : ResvTables) → table_of st (each_table g ts) ≡ g st (table_of st ts)
table_of_each Wild g ts = refl
table_of_each Fixed g ts = refl
table_of_each Shared g ts = refl

pub table_put : (st : StyleKind) (t : Resvs) (ts : ResvTables) → table_of st (with_table st t ts) ≡ t
table_put Wild t ts = refl
table_put Fixed t ts = refl
table_put Shared t ts = refl

pub table_other : (st other : StyleKind) (t : Resvs) (ts : ResvTables) → (st ≡ other → ⊥) → table_of st (with_table other t ts) ≡ table_of st ts
table_other Wild Wild t ts h = absurd (h refl)
table_other Wild Fixed t ts h = refl
table_other Wild Shared t ts h = refl
table_other Fixed Wild t ts h = refl
table_other Fixed Fixed t ts h = absurd (h refl)
table_other Fixed Shared t ts h = refl
table_other Shared Wild t ts h = refl
table_other Shared Fixed t ts h = refl
table_other Shared Shared t ts h = absurd (h refl)

-- a table put where it stood
pub as_it_was : (st : StyleKind) (ts : ResvTables) → with_table st (table_of st ts) ts ≡ ts
as_it_was Wild ts = refl
as_it_was Fixed ts = refl
as_it_was Shared ts = refl

pub tables_by_style : TablesByStyle
tables_by_style = record { each = table_of_each; put = λ st t f. table_put st t f.resvs; other = λ st other t f h. table_other st other t f.resvs h }

-- ---- waiting
module _ {K X : Type 0} (o : Keys K) (dies : X → ℕ) (c : ℕ) where
  lives_told : (m : Table o X) (k : K) (x : X) → get (changed (λ k. living c dies) m) k ≡ Some x → (get m k ≡ Some x) × (c < dies x)
  lives_told m k x e =
      let r = got_changed o (λ k. living c dies) m k x e in
      let t = passed (nat_lt c (dies r.0)) (Some r.0) x r.2 in
      let same : r.0 ≡ x = cc in
      (r.1 ∙ t.1, subst (λ (y : X). c < dies y) same (ltb-true c (dies r.0) t.0))

  lives_made : (m : Table o X) (k : K) (x : X) → (get m k ≡ Some x) × (c < dies x) → get (changed (λ k. living c dies) m) k ≡ Some x
  lives_made m k x r = get-changed o (λ k. living c dies) m k ∙ ap (λ w. then_do w (living c dies)) r.0 ∙ ap (λ b. cond b (Some x) None) (lt-ltb c (dies x) r.1)

abbrev tick : ℕ → ℕ → Option (Unit {0})
tick c t = cond (nat_le t c) (Some tt) None

fired_told : (p : NodeConfig) (c word : ℕ) (f : Facts) (s : Session) → has (act_wait p c word f).fired s ≡ true → (t : ℕ) × (get f.due s ≡ Some t) × (t ≤ c)
fired_told p c word f s e =
    let u = some_is (get (act_wait p c word f).fired s) e in
    let r = got_changed sessions (λ s t. tick c t) f.due s u.0 u.1 in
    let t = passed (nat_le r.0 c) (Some tt) u.0 r.2 in
    (r.0, r.1, at_most r.0 c t.0)
  where
    at_most : (a b : ℕ) → nat_le a b ≡ true → a ≤ b
    at_most a b h = leb-true a b h

fired_made : (p : NodeConfig) (c word : ℕ) (f : Facts) (s : Session) (t : ℕ) → get f.due s ≡ Some t → t ≤ c → has (act_wait p c word f).fired s ≡ true
fired_made p c word f s t g h = ap is_some (get-changed sessions (λ s t. tick c t) f.due s ∙ ap (λ w. then_do w (tick c)) g ∙ ap (λ b. cond b (Some tt) None) (le-leb t c h))

pub waiting_leaves_the_living : WaitingLeavesTheLiving
waiting_leaves_the_living =
    record {
      of_paths = λ p c word f k x. (lives_told sender_keys (λ (y : PathState). y.dies) c f.paths k x, lives_made sender_keys (λ (y : PathState). y.dies) c f.paths k x);
      of_resvs = λ p c word f st k r. (
        (λ e. lives_told line_keys (λ (y : ResvState). y.dies) c (resvs_of st f) k r (ap (λ t. get t k) (sym (living_table c f st)) ∙ e)),
        (λ h. ap (λ t. get t k) (living_table c f st) ∙ lives_made line_keys (λ (y : ResvState). y.dies) c (resvs_of st f) k r h),
      );
      of_walls = λ p c word f k b. (lives_told wall_keys (λ (y : Blockade). y.dies) c f.walls k b, lives_made wall_keys (λ (y : Blockade). y.dies) c f.walls k b);
      of_due = λ p c word f s t e. get-changed sessions (λ s t. Some (next_due p c word t)) f.due s ∙ ap (λ w. then_do w (λ t. Some (next_due p c word t))) e;
      of_fired = λ p c word f s. (fired_told p c word f s, λ r. fired_made p c word f s r.0 r.1 r.2);
    }
  where
    living_table : (c : ℕ) (f : Facts) (st : StyleKind) → table_of st (each_table (λ st t. changed (λ k. living c (λ (r : ResvState). r.dies)) t) f.resvs)
        ≡ changed (λ k. living c (λ (r : ResvState). r.dies)) (resvs_of st f)
    living_table c f st = table_of_each st (λ st t. changed (λ k. living c (λ (r : ResvState). r.dies)) t) f.resvs

-- ---- what is left of a reservation
pub left_told : (stays : Sender → Bool) (r x : ResvState) → left_of stays r ≡ Some x → IsLeft stays r x
left_told stays r x e = by (part_of (kept stays r.part.senders) r.part.flow) refl e
  where
    by : (w : Option Part) → part_of (kept stays r.part.senders) r.part.flow ≡ w → option_map (with_part r) w ≡ Some x → IsLeft stays r x
    by None is e = absurd (cc)
    by (Some part) is e =
        let same : ◌≡◌ {A = ResvState} (record r { part = part }) x = cc in
        let m = made_of (kept stays r.part.senders) r.part.flow part is in
        record {
          senders = ap (λ (z : ResvState). z.part.senders) (sym same) ∙ m.senders;
          flow = ap (λ (z : ResvState). z.part.flow) (sym same) ∙ m.flow;
          confirm = ap (λ (z : ResvState). z.confirm) (sym same);
          dies = ap (λ (z : ResvState). z.dies) (sym same);
          named = ap (λ (z : ResvState). has_name z.part) (sym same) ∙ ap not (ap is_none m.senders ∙ m.some);
        }

some_none : (s : Names) → not (is_none s) ≡ true → is_none s ≡ false
some_none s e = by (is_none s) e
  where
    by : (b : Bool) → not b ≡ true → b ≡ false
    by true e = cc
    by false e = refl

-- names of which all stay
kept_all : (stays : Sender → Bool) (s : Names) → ((x : Sender) → has s x ≡ true → stays x ≡ true) → kept stays s ≡ s
kept_all stays s all = same_set senders (kept stays s) s (λ x. has-kept senders stays s x ∙ by (has s x) (stays x) (all x))
  where
    by : (a b : Bool) → (a ≡ true → b ≡ true) → (a && b) ≡ a
    by true b h = h refl
    by false b h = refl

pub left_whole : (stays : Sender → Bool) (r : ResvState) → has_name r.part ≡ true → ((s : Sender) → has r.part.senders s ≡ true → stays s ≡ true) → left_of stays r ≡ Some r
left_whole stays r named all =
    ap (λ names. option_map (with_part r) (part_of names r.part.flow)) (kept_all stays r.part.senders all)
    ∙ ap (option_map (with_part r)) (part_of_some r.part.senders r.part.flow (some_none r.part.senders named))

pub left_nobody : (stays : Sender → Bool) (r : ResvState) → ((s : Sender) → has r.part.senders s ≡ true → stays s ≡ false) → left_of stays r ≡ None
left_nobody stays r none = ap (option_map (with_part r)) (part_of_none (kept stays r.part.senders) r.part.flow (nobody (is_none (kept stays r.part.senders)) refl))
  where
    drop : (a b : Bool) → (a ≡ true → b ≡ false) → (a && b) ≡ true → ⊥
    drop true b h e = let z : true ≡ false = sym e ∙ h refl in cc
    drop false b h e = cc

    nobody : (b : Bool) → is_none (kept stays r.part.senders) ≡ b → is_none (kept stays r.part.senders) ≡ true
    nobody true e = e
    nobody false e =
        let one = one_name (kept stays r.part.senders) e in
        absurd (drop (has r.part.senders one.0) (stays one.0) (none one.0) (sym (has-kept senders stays r.part.senders one.0) ∙ one.1))

pub left_some : (stays : Sender → Bool) (r : ResvState) (s : Sender) → has r.part.senders s ≡ true → stays s ≡ true → (x : ResvState) × (left_of stays r ≡ Some x)
left_some stays r s there keeps =
    let member : has (kept stays r.part.senders) s ≡ true = has-kept senders stays r.part.senders s ∙ and_made _ _ there keeps in
    let some : is_none (kept stays r.part.senders) ≡ false = has_some (kept stays r.part.senders) s member in
    let part : Part = record { senders = kept stays r.part.senders; flow = r.part.flow } in
    (record r { part = part }, ap (λ b. option_map (with_part r) (cond b None (Some part))) some)

pub left_by_names : LeftByNames
left_by_names = record { told = left_told; some = left_some; whole = left_whole; nobody = left_nobody }

-- ---- forgetting
abbrev forgotten : Facts → Facts → StyleKind → Resvs → Resvs
forgotten before after st t = changed (remembered st before after) t

pub got_forget : (before after : Facts) (st : StyleKind) (k : LineKey) (x : ResvState) → get (resvs_of st (forget before after)) k ≡ Some x
    → (r : ResvState) × (get (resvs_of st after) k ≡ Some r) × (remembered st before after k r ≡ Some x)
got_forget before after st k x e = got_changed line_keys (remembered st before after) (resvs_of st after) k x (ap (λ t. get t k) (sym (table_of_each st (forgotten before after) after.resvs)) ∙ e)

get-forget : (before after : Facts) (st : StyleKind) (k : LineKey) (r : ResvState) → get (resvs_of st after) k ≡ Some r → get (resvs_of st (forget before after)) k ≡ remembered st before after k r
get-forget before after st k r e =
    ap (λ t. get t k) (table_of_each st (forgotten before after) after.resvs)
    ∙ get-changed line_keys (remembered st before after) (resvs_of st after) k ∙ ap (λ w. then_do w (remembered st before after k)) e

lost_told : (st : StyleKind) (before after : Facts) (s : Session) (x : Sender) → is_lost st before after s x ≡ true
    → (has (named_as st (known before s)) x ≡ true) × (has (named_as st (known after s)) x ≡ false)
lost_told st before after s x e = let r = and_both _ _ e in (r.0, off _ r.1)
  where
    off : (b : Bool) → not b ≡ true → b ≡ false
    off true e = cc
    off false e = refl

pub forgetting_by_names : ForgettingByNames
forgetting_by_names =
    record {
      at = got_forget;
      lost = λ st before after s x. (lost_told st before after s x, λ r. and_made _ _ r.0 (ap not r.1));
      stays = λ before after st k r e named all. get-forget before after st k r e ∙ left_whole (λ x. not (is_lost st before after k.0 x)) r named (λ x h. ap not (all x h));
      some = λ before after st k r s e there keeps.
          let left = left_some (λ y. not (is_lost st before after k.0 y)) r s there (ap not keeps) in
          (left.0, get-forget before after st k r e ∙ left.1, left_told (λ y. not (is_lost st before after k.0 y)) r left.0 left.1);
      goes = λ before after st k r e all. get-forget before after st k r e ∙ left_nobody (λ x. not (is_lost st before after k.0 x)) r (λ x h. ap not (all x h));
    }

-- ---- countdowns
pub countdowns_settle : CountdownsSettle
countdowns_settle p c f s = get-changed sessions (λ s u. Some (unwrap_or (get f.due s) (c + period p))) (counted f) s ∙ by (get (counted f) s)
  where
    by : (w : Option (Unit {0})) → then_do w (λ u. Some (unwrap_or (get f.due s) (c + period p))) ≡ cond (is_some w) (Some (unwrap_or (get f.due s) (c + period p))) None
    by None = refl
    by (Some u) = refl
