-- What forgetting and settling leave as it was.
use Rattle.std.specs.Prelude.{◌≡◌, true, false, cond, not, ◌&&◌, is_some, Option, Some, None, refl}
use Rattle.std.proofs.Common.{sym, ap, ◌∙◌}
use Rattle.rsvp_base.specs.declared.session.Sender.{Sender}
use Rattle.rsvp_base.specs.declared.session.Session.{Session}
use Rattle.rsvp_base.specs.declared.style.StyleKind.{StyleKind}
use Rattle.rsvp_base.specs.declared.style.StyleKind.TheVariants.{Wild, Fixed, Shared}
use Rattle.rsvp_base.specs.Keys.{Keys}
use Rattle.rsvp_base.specs.Table.{Table, changed, get, has, put_in}
use Rattle.rsvp_base.proofs.Tables.{either, get-changed, get-put_in, same_table, then_do, tied_same}
use Rattle.std.specs.Ordering.{eq_by_cmp}
use Rattle.resv_state.specs.StyleRules.Lines.{LineKey, line_keys}
use Rattle.resv_state.specs.StyleRules.Parts.{has_name}
use Rattle.laws_bounds.specs.RouterRules.Facts.{Facts, ResvState, resvs_of}
use Rattle.laws_bounds.specs.RouterRules.Forgetting.{forget, is_lost, remembered}
use Rattle.laws_bounds.specs.RouterRules.Known.{known, named_as}
use Rattle.laws_bounds.proofs.Knowing.{named_made, named_told}
use Rattle.laws_bounds.proofs.Leaving.{left_whole}
use Rattle.router_state.specs.State.{AreNamed}

-- ---- tables of which each row is changed
module _ {K X Y : Type 0} (o : Keys K) (f : K → X → Option Y) where
  -- a row that was put, and changed, is a changed row that was put
  pub changed_put : (m : Table o X) (k : K) (v : X) (w : Y) → f k v ≡ Some w → changed f (put_in m k v) ≡ put_in (changed f m) k w
  changed_put m k v w e =
      same_table o _ _ (λ q.
      get-changed o f (put_in m k v) q ∙ ap (λ z. then_do z (f q)) (get-put_in o m k v q)
      ∙ either (eq_by_cmp o.cmp q k)
      (λ t. ap (λ b. then_do (cond b (Some v) (get m q)) (f q)) t ∙ ap (λ z. f z v) (tied_same o q k t) ∙ e
      ∙ sym (get-put_in o (changed f m) k w q ∙ ap (λ b. cond b (Some w) (get (changed f m) q)) t))
      (λ t. ap (λ b. then_do (cond b (Some v) (get m q)) (f q)) t ∙ sym (get-changed o f m q) ∙ sym (get-put_in o (changed f m) k w q ∙ ap (λ b. cond b (Some w) (get (changed f m) q)) t)))

  -- where each row stays, with whatever
  pub has_changed : ((k : K) (x : X) → is_some (f k x) ≡ true) → (m : Table o X) (q : K) → has (changed f m) q ≡ has m q
  has_changed all m q = ap is_some (get-changed o f m q) ∙ by (get m q)
    where
      by : (w : Option X) → is_some (then_do w (f q)) ≡ is_some w
      by None = refl
      by (Some x) = all q x

module _ {K X : Type 0} (o : Keys K) (f : K → X → Option X) where
  pub unchanged : (m : Table o X) → ((k : K) (x : X) → get m k ≡ Some x → f k x ≡ Some x) → changed f m ≡ m
  unchanged m same = same_table o _ _ (λ q. get-changed o f m q ∙ by q (get m q) refl)
    where
      by : (q : K) (w : Option X) → get m q ≡ w → then_do w (f q) ≡ w
      by q None e = refl
      by q (Some x) e = same q x e

-- ---- forgetting
-- a node that knows all that it knew loses no name
pub none_lost : (before after : Facts) → ((s : Session) (x : Sender) → has (known before s) x ≡ true → has (known after s) x ≡ true) → (st : StyleKind) (s : Session) (x : Sender)
    → is_lost st before after s x ≡ false
none_lost before after more st s x =
    either (has (named_as st (known before s)) x)
    (λ t.
    let n = named_told st (known before s) x t in
    let h = named_made st (known after s) x (record { sender = n.sender; among = more s n.sender n.among; passes = n.passes; name = n.name }) in
    ap (λ b. b && not (has (named_as st (known after s)) x)) t ∙ ap not h)
    (λ f. ap (λ b. b && not (has (named_as st (known after s)) x)) f)

-- where no name is lost, nothing is forgotten
pub forget_none : (before after : Facts) → ((st : StyleKind) (s : Session) (x : Sender) → is_lost st before after s x ≡ false) → AreNamed after → forget before after ≡ after
forget_none before after none named =
    let w = same Wild in let x = same Fixed in let s = same Shared in
    λ i. record after { resvs = record { wild = w i; fixed = x i; shared = s i } }
  where
    same : (st : StyleKind) → changed (remembered st before after) (resvs_of st after) ≡ resvs_of st after
    same st = unchanged line_keys (remembered st before after) (resvs_of st after) (λ k r e. left_whole (λ x. not (is_lost st before after k.0 x)) r (named st k r e) (λ x h. ap not (none st k.0 x)))
