-- A router that was just opened.
use Rattle.std.proofs.Common.{◌≡◌, ℕ, ◌/◌, ◌≤◌, false, true, List, Option, None, Some, length, refl, sym, ap, subst, ◌∙◌, arith}
use Rattle.std.specs.Prelude.{IfOk, Result, Ok, Err}
use Rattle.std.proofs.lemmas.List.FromFn.{length-map-range_with_len}
use Rattle.network_replay.specs.Following.{Seen}
use Rattle.node_stream.specs.Layout.{frame_of, iface_at, iface_count, period_in}
use Rattle.node_stream.specs.Placing.{IsBadPlace, place_of}
use Rattle.node_stream.specs.Rules.{AreNumbersInRange, IsInRange, IsInTurn, IsPlace, place_in}
use Rattle.node_stream.specs.declared.frame.Frame.{Frame}
use Rattle.node_stream.specs.declared.frame.Frame.TheVariants.{Opens, Comes, Waits, Clears}
use Rattle.node_stream.specs.declared.placing.Place.{Place}
use Rattle.node_stream.specs.declared.placing.PlaceErr.{PlaceErr}
use Rattle.node_stream.specs.declared.placing.PlaceErr.TheVariants as err
use Rattle.router_rules.proofs.Bounding.{no_facts_are_within_bounds}
use Rattle.router_rules.specs.Bounds.{IsWithinBounds}
use Rattle.router_rules.specs.Facts.{Facts, no_facts}
use Rattle.router_rules.specs.NodeConfig.{NodeConfig}
use Rattle.node_stream.specs.Frames.{IsFrame, contents_in, kind_in}
use Rattle.node_stream.specs.Posting.{Posted, nothing_posted}
use Rattle.node_stream.specs.States.{AreLimits, HasAnswered, IsServedAs, IsServedBy, stands_at}
use Rattle.node_stream.specs.Stops.{IsUnopened, stop_of}
use Rattle.node_stream.specs.declared.state.Limits.{Limits}
use Rattle.node_stream.specs.declared.state.Stop.{Stop}
use Rattle.node_stream.specs.declared.state.Stop.TheVariants.{NoMemory}

-- the first frame opens it
pub opens_first : (f : Frame) → IsInTurn false f → f ≡ Opens
opens_first Opens t = refl
opens_first (Comes iface dst) t = absurd t
opens_first (Waits ms word) t = absurd t
opens_first Clears t = absurd t

-- there is no place: something is to blame, or memory ran out with the numbers in range
pub unopened : (contents : List ℕ) (e : PlaceErr) (s : Stop) → s ≡ stop_of e → IsBadPlace contents e → (e ≡ err.NoMemory → AreNumbersInRange contents) → IsUnopened contents s
unopened contents (err.Bad b) s is bad asked = subst (IsUnopened contents) (sym is) bad
unopened contents err.NoMemory s is bad asked = subst (IsUnopened contents) (sym is) (asked refl)

-- there is a place, and no memory for a router there
pub unopened_there : (contents : List ℕ) (s : Stop) → s ≡ NoMemory → IsPlace contents → IsUnopened contents s
unopened_there contents s is p =
    subst (IsUnopened contents) (sym is) (record { period = p.period; few = p.few; ifaces = p.ifaces; apart = p.apart; routes = p.routes })

module _ (q : Place) (contents : List ℕ) (is : place_of q ≡ place_in contents) (range : IsPlace contents) where
  pub few_ifaces : length q.ifaces.items ≤ 16
  few_ifaces =
      omega (arith, range.few, ap (λ (p : NodeConfig). length p.ifaces) is, length-map-range_with_len (iface_at contents) 0 (iface_count contents))

  quarter_is : q.quarter ≡ period_in contents / 4
  quarter_is = ap (λ (p : NodeConfig). p.quarter) is

  pub limits_of : (p : NodeConfig) (n w : ℕ) → p ≡ place_of q → n ≡ length q.ifaces.items → w ≡ q.quarter → AreLimits p (record { ifaces = n; quarter = w })
  limits_of p n w e many short = record {
    ifaces = ap (λ (z : NodeConfig). length z.ifaces) e ∙ sym many;
    few = omega (arith, many, few_ifaces);
    quarter = ap (λ (z : NodeConfig). z.quarter) e ∙ sym short;
    some = omega (arith, short, quarter_is, range.period.least);
    quick = omega (arith, short, quarter_is, range.period.most);
  }

-- a frame opened it
module _ {R : Type 0} (see : Seen R) (r : R) (limits : Limits) (kind : ℕ) (contents : List ℕ) (reads : frame_of kind contents ≡ Some Opens) (range : IsPlace contents) (place : see.place r ≡ place_in contents)
    (first : (c : ℕ) → see.facts r c ≡ no_facts) (its : AreLimits (see.place r) limits) where
  pub served_first : (c : ℕ) → IsServedAs see None (Some r) limits c kind contents nothing_posted
  served_first c = record {
    clock = 0;
    said = Opens;
    reads = reads;
    in_turn = tt;
    in_range = range;
    acts = (λ i. Some (record { place = place i; clock = 0; facts = first 0 i }), refl);
    sound = (its, subst (λ (f : Facts). IsWithinBounds (see.place r) 0 f) (sym (first 0)) (no_facts_are_within_bounds (see.place r) 0));
  }

-- ---- a frame by its kind and contents
module _ {R : Type 0} (see : Seen R) (old new : Option R) (limits : Limits) (c : ℕ) (out : Posted) (frame : List ℕ) (whole : IsFrame frame) where
  framed_so : IsServedAs see old new limits c (kind_in frame) (contents_in frame) out → IsServedBy see old new limits c frame out
  framed_so a = record {
    clock = a.clock;
    follows = record { whole = whole; said = a.said; reads = a.reads; in_turn = a.in_turn; in_range = a.in_range; acts = a.acts };
    sound = a.sound;
  }

  pub served_by : (kind : ℕ) (contents : List ℕ) → kind ≡ kind_in frame → contents ≡ contents_in frame → IsServedAs see old new limits c kind contents out → IsServedBy see old new limits c frame out
  served_by kind contents k cs a =
      framed_so (subst (λ (n : ℕ). IsServedAs see old new limits c n (contents_in frame) out) k (subst (λ (xs : List ℕ). IsServedAs see old new limits c kind xs out) cs a))

-- ---- by an open router
module _ {R : Type 0} (see : Seen R) (old new : R) (limits : Limits) (kind : ℕ) (contents : List ℕ) (out : Posted) (said : Frame) (reads : frame_of kind contents ≡ Some said) (turn : IsInTurn true said)
    (range : IsInRange (Some (see.place old)) contents said) (place : see.place new ≡ see.place old) (its : AreLimits (see.place old) limits) where
  pub served_open : (c : ℕ) → HasAnswered see old new c contents said out → IsServedAs see (Some old) (Some new) limits c kind contents out
  served_open c a = record {
    clock = a.clock;
    said = said;
    reads = reads;
    in_turn = turn;
    in_range = range;
    acts = (stands_at see new a.clock, refl, a.answered);
    sound = (subst (λ (p : NodeConfig). AreLimits p limits) (sym place) its, a.within);
  }

module _ {R : Type 0} (see : Seen R) (kind : ℕ) (contents : List ℕ) (reads : frame_of kind contents ≡ Some Opens) (c : ℕ) where
  pub opened_by : (r : Result (R × Limits) Stop) → IfOk r (λ p. IsPlace contents) → IfOk r (λ p. see.place p.0 ≡ place_in contents) → IfOk r (λ p. (t : ℕ) → see.facts p.0 t ≡ no_facts)
      → IfOk r (λ p. AreLimits (see.place p.0) p.1) → IfOk r (λ p. IsServedAs see None (Some p.0) p.1 c kind contents nothing_posted)
  opened_by (Ok p) range place first its = served_first see p.0 p.1 kind contents reads range place first its c
  opened_by (Err e) range place first its = tt
