-- What errors blockade, and to whom one goes.
use Rattle.std.specs.Prelude.{◌≡◌, ℕ, ◌⊎◌, Bool, true, false, cond, List, [], ◌∷◌, map as each, Option, Some, None, refl}
use Rattle.std.proofs.Common.{sym, ap, subst, ◌∙◌, inl, inr, ⊎_elim}
use Rattle.std.specs.Ordering.{eq_by_cmp}
use Rattle.rsvp_base.specs.Keys.{Keys}
use Rattle.rsvp_base.specs.Members.{In}
use Rattle.rsvp_base.specs.Orders.{Names}
use Rattle.rsvp_base.specs.Table.{Table, get, put_in, with_rows}
use Rattle.rsvp_base.specs.TokenBucket.{TokenBucket}
use Rattle.rsvp_base.proofs.Members.{in_each}
use Rattle.rsvp_base.proofs.Tables.{either, get-put_in_other, get-put_in_same, tied_same}
use Rattle.router_rules.specs.RsvpMessages.declared.message.ResvErrMsg.{ResvErrMsg}
use Rattle.router_rules.specs.Lines.{NextHop}
use Rattle.router_rules.specs.Errors.{blockade_of, error_to, is_admission, walled_by, walls_with}
use Rattle.router_rules.specs.Facts.{Blockade, Walls}
use Rattle.router_rules.specs.Targets.{WallKey, wall_keys}
use Rattle.router_rules.specs.Inputs.{ErrSend}
use Rattle.router_rules.specs.NodeConfig.{NodeConfig}
use Rattle.laws_bounds.proofs.Lists.{got_with_rows, some_same}
use Rattle.laws_bounds.specs.ErrorLaws.{ErrorsAndWalls}
use Rattle.router_rules.specs.Asking.{Blamed, Nobody, Everyone, These, as_listed}

-- ---- errors that go on
pub same_hop : (p : NodeConfig) (m : ResvErrMsg) (hop : NextHop) (w : Blamed) (k : NextHop) (e : ErrSend) → error_to p m hop w ≡ Some (k, e)
    → (names : Option Names) × (w ≡ as_listed names) × (error_to p m hop (as_listed names) ≡ Some (hop, e))
same_hop p m hop Nobody k e h = absurd (cc)
same_hop p m hop Everyone k e h =
    let at : hop ≡ k = ap (λ (z : NextHop × ErrSend). z.0) (some_same _ _ h) in
    (None, refl, subst (λ (z : NextHop). error_to p m hop Everyone ≡ Some (z, e)) (sym at) h)
same_hop p m hop (These names) k e h =
    let at : hop ≡ k = ap (λ (z : NextHop × ErrSend). z.0) (some_same _ _ h) in
    (Some names, refl, subst (λ (z : NextHop). error_to p m hop (These names) ≡ Some (z, e)) (sym at) h)

-- ---- blockades
-- rows that all have one value
module _ {K X : Type 0} (o : Keys K) (x : X) where
  same_stays : (ks : List K) (m : Table o X) (k : K) → get m k ≡ Some x → get (with_rows m (each (λ q. (q, x)) ks)) k ≡ Some x
  same_stays [] m k h = h
  same_stays (q ∷ qs) m k h =
      same_stays qs (put_in m q x) k
      (either (eq_by_cmp o.cmp k q) (λ tie. ap (λ z. get (put_in m q x) z) (tied_same o k q tie) ∙ get-put_in_same o m q x) (λ apart. get-put_in_other o m q x k apart ∙ h))

  pub all_put : (ks : List K) (m : Table o X) (k : K) → In k ks → get (with_rows m (each (λ q. (q, x)) ks)) k ≡ Some x
  all_put [] m k i = absurd i
  all_put (q ∷ qs) m k i =
      ⊎_elim (λ (e : k ≡ q). same_stays qs (put_in m q x) k (ap (λ z. get (put_in m q x) z) e ∙ get-put_in_same o m q x)) (λ (j : In k qs). all_put qs (put_in m q x) k j) i

abbrev row_of : NodeConfig → ℕ → ResvErrMsg → TokenBucket → WallKey → WallKey × Blockade
row_of p c m flow k = (k, blockade_of p c m flow)

walls_source : (p : NodeConfig) (c e : ℕ) (m : ResvErrMsg) (w : Walls) (k : WallKey) (b : Blockade) (said : Option TokenBucket) → m.blame.flow ≡ said → get (walls_with p c e m said w) k ≡ Some b
    → (get w k ≡ Some b) ⊎ ((flow : TokenBucket) × (m.blame.flow ≡ Some flow) × (is_admission m.err ≡ true) × In k (walled_by e m m.blame.style) × (b ≡ blockade_of p c m flow))
walls_source p c e m w k b None is h = inl h
walls_source p c e m w k b (Some flow) is h = by (is_admission m.err) refl h
  where
    by : (t : Bool) → is_admission m.err ≡ t → get (cond t (with_rows w (each (row_of p c m flow) (walled_by e m m.blame.style))) w) k ≡ Some b
        → (get w k ≡ Some b) ⊎ ((flow : TokenBucket) × (m.blame.flow ≡ Some flow) × (is_admission m.err ≡ true) × In k (walled_by e m m.blame.style) × (b ≡ blockade_of p c m flow))
    by false t h = inl h
    by true t h =
        ⊎_elim (λ (old : get w k ≡ Some b). inl old)
        (λ (new : In (k, b) (each (row_of p c m flow) (walled_by e m m.blame.style))).
        let r = in_each (row_of p c m flow) (k, b) (walled_by e m m.blame.style) new in
        inr (flow, is, t, subst (λ (z : WallKey). In z (walled_by e m m.blame.style)) (sym (ap (λ (z : WallKey × Blockade). z.0) r.2)) r.1, ap (λ (z : WallKey × Blockade). z.1) r.2))
        (got_with_rows wall_keys (each (row_of p c m flow) (walled_by e m m.blame.style)) w k b h)

walls_set : (p : NodeConfig) (c e : ℕ) (m : ResvErrMsg) (w : Walls) (k : WallKey) (flow : TokenBucket) → is_admission m.err ≡ true → In k (walled_by e m m.blame.style)
    → get (walls_with p c e m (Some flow) w) k ≡ Some (blockade_of p c m flow)
walls_set p c e m w k flow t i =
    ap (λ b. get (cond b (with_rows w (each (row_of p c m flow) (walled_by e m m.blame.style))) w) k) t ∙ all_put wall_keys (blockade_of p c m flow) (walled_by e m m.blame.style) w k i

pub errors_and_walls : ErrorsAndWalls
errors_and_walls = record { source = λ p c e m w k b h. walls_source p c e m w k b m.blame.flow refl h; set = walls_set }
