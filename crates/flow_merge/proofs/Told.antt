-- What the tests of order and blockade tell, and how blockade follows the order.
use Rattle.std.specs.Prelude.{◌≡◌, ℕ, ◌≤◌, Bool, true, false, cond, ◌&&◌, ◌==◌, nat_le, refl}
use Rattle.std.proofs.Common.{inl, inr, ⊎_elim, ap, ◌∙◌, arith}
use Rattle.std.proofs.lemmas.Bool.{leb-true, le-leb, eqb-true}
use Rattle.rsvp_base.specs.TokenBucket.{TokenBucket}
use Rattle.rsvp_base.proofs.SetLaws.{and_both, and_made}
use Rattle.flow_merge.specs.FlowOrder.{IsAtMost, flow_le, peak_le}
use Rattle.flow_merge.specs.Blockade.{Blockades, does_blockade}
use Rattle.flow_merge.specs.Laws.{TestsTell, BlockadeFollowsTheOrder}
use Rattle.flow_merge.proofs.Peaks.{peak_told, peak_tested}

pub at_most_told : (a b : TokenBucket) → flow_le a b ≡ true → IsAtMost a b
at_most_told a b e =
    let rate = and_both (nat_le a.r b.r) _ e in
    let depth = and_both (nat_le a.b b.b) _ rate.1 in
    let peak = and_both (peak_le a.p b.p) _ depth.1 in
    let sizes = and_both (nat_le b.low a.low) (nat_le a.most b.most) peak.1 in
    record {
      rate = leb-true a.r b.r rate.0;
      depth = leb-true a.b b.b depth.0;
      peak = peak_told a.p b.p peak.0;
      low = leb-true b.low a.low sizes.0;
      most = leb-true a.most b.most sizes.1;
    }

pub at_most_tested : (a b : TokenBucket) → IsAtMost a b → flow_le a b ≡ true
at_most_tested a b h =
    and_made _ _ (le-leb a.r b.r h.rate)
    (and_made _ _ (le-leb a.b b.b h.depth)
    (and_made _ _ (peak_tested a.p b.p h.peak)
    (and_made _ _ (le-leb b.low a.low h.low) (le-leb a.most b.most h.most))))

-- ---- blockade
pub blockade_told : (refused : TokenBucket) (sub : ℕ) (request : TokenBucket) → does_blockade refused sub request ≡ true → Blockades refused sub request
blockade_told refused sub request e = by (sub == 2) refl e
  where
    by : (b : Bool) → (sub == 2) ≡ b → cond b (nat_le refused.r request.r) ((sub == 3) && nat_le refused.most request.most) ≡ true → Blockades refused sub request
    by true t e = inl (eqb-true sub 2 t, leb-true refused.r request.r e)
    by false t e = let parts = and_both (sub == 3) _ e in inr (eqb-true sub 3 parts.0, leb-true refused.most request.most parts.1)

pub blockade_tested : (refused : TokenBucket) (sub : ℕ) (request : TokenBucket) → Blockades refused sub request → does_blockade refused sub request ≡ true
blockade_tested refused sub request h =
    ⊎_elim
    (λ (w : (sub ≡ 2) × (refused.r ≤ request.r)). ap (λ n. does_blockade refused n request) w.0 ∙ le-leb refused.r request.r w.1)
    (λ (w : (sub ≡ 3) × (refused.most ≤ request.most)). ap (λ n. does_blockade refused n request) w.0 ∙ le-leb refused.most request.most w.1) h

pub tests_tell : TestsTell
tests_tell =
    record {
      order = λ a b. (at_most_told a b, at_most_tested a b);
      blockade = λ refused sub request. (blockade_told refused sub request, blockade_tested refused sub request);
    }

-- ---- blockade and the order
pub larger_blockaded : (refused : TokenBucket) (sub : ℕ) (a b : TokenBucket) → IsAtMost a b → Blockades refused sub a → Blockades refused sub b
larger_blockaded refused sub a b h =
    ⊎_elim (λ (w : (sub ≡ 2) × (refused.r ≤ a.r)). inl (w.0, omega (arith, w.1, h.rate))) (λ (w : (sub ≡ 3) × (refused.most ≤ a.most)). inr (w.0, omega (arith, w.1, h.most)))

pub smaller_blockades : (a b : TokenBucket) (sub : ℕ) (request : TokenBucket) → IsAtMost a b → Blockades b sub request → Blockades a sub request
smaller_blockades a b sub request h =
    ⊎_elim (λ (w : (sub ≡ 2) × (b.r ≤ request.r)). inl (w.0, omega (arith, w.1, h.rate))) (λ (w : (sub ≡ 3) × (b.most ≤ request.most)). inr (w.0, omega (arith, w.1, h.most)))

pub blockade_laws : BlockadeFollowsTheOrder
blockade_laws =
    record {
      larger_request = larger_blockaded;
      smaller_refused = smaller_blockades;
      itself_by_rate = λ f. inl (refl, omega arith);
      itself_by_size = λ f. inr (refl, omega arith);
    }
