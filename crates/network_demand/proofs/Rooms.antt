-- Room at nodes: what is left of it after some sessions, and when it is not enough.
use Rattle.std.specs.Prelude.{◌≡◌, ◌⊎◌, ℕ, ◌+◌, ◌<◌, ◌≤◌, true, false, List, [], ◌∷◌, length, replicate, slice_index_or, refl}
use Rattle.std.proofs.Common.{zero, suc, sym, ap, subst, ◌∙◌, ⊎_elim, take, arith}
use Rattle.std.proofs.lemmas.List.Sums.{sum_by_more, sum_by-take-le}
use Rattle.rsvp_base.specs.Members.{In}
use Rattle.rsvp_base.specs.declared.session.Session.{Session}
use Rattle.rsvp_base.specs.declared.style.StyleKind.{StyleKind}
use Rattle.rsvp_base.proofs.Members.{in_append}
use Rattle.tree_model.specs.Networks.{Net}
use Rattle.tree_routing.specs.declared.group_hop.GroupHop.{GroupHop}
use Rattle.tree_model.specs.Wants.{Locals}
use Rattle.network_demand.specs.Fits.{taken_at, room_at, all_taken, FindRoom}
use Rattle.network_demand.specs.Steps.{hop_wants}
use Rattle.network_demand.proofs.Pools.{take_more}

pub room_full : (full k n : ℕ) → room_at full (replicate k full) n ≡ full
room_full full zero n = refl
room_full full (suc k) zero = refl
room_full full (suc k) (suc n) = room_full full k n

-- the sessions so far found room, and so many lines are left
pub record AreLeft (st : StyleKind) (net : Net) (l : Locals) (order : List GroupHop) (ss : List Session) (rooms : List ℕ) : Type 0 where
  pub lines : (n : ℕ) → room_at 1024 rooms n + all_taken st net l order n ss ≡ 1024
  pub next_hops : (s : Session) (n : ℕ) → In s ss → taken_at true net n (hop_wants st net l s order) ≤ 64

pub left_first : (st : StyleKind) (net : Net) (l : Locals) (order : List GroupHop) (k : ℕ) (lines : List ℕ) → lines ≡ replicate k 1024 → AreLeft st net l order [] lines
left_first st net l order k lines e = record { lines = λ n. let z = ap (λ (xs : List ℕ). room_at 1024 xs n) e ∙ room_full 1024 k n in omega (arith, z); next_hops = λ s n i. absurd i }

pub left_found : (st : StyleKind) (net : Net) (l : Locals) (order : List GroupHop) (ss : List Session) (lines : List ℕ) → AreLeft st net l order ss lines → FindRoom st net l order ss
left_found st net l order ss lines left = record { lines = λ n. let z = left.lines n in omega (arith, z); next_hops = left.next_hops }

module _ (st : StyleKind) (net : Net) (l : Locals) (order : List GroupHop) (ss : List Session) (i : ℕ) (d s : Session) (lines : List ℕ) (lt : i < length ss) (is : s ≡ slice_index_or ss i d)
    (left : AreLeft st net l order (take i ss) lines) where
  abbrev takes : ℕ → Session → ℕ
  takes n s = taken_at false net n (hop_wants st net l s order)

  pub left_more : (new : List ℕ) → ((n : ℕ) → taken_at true net n (hop_wants st net l s order) ≤ 64)
      → ((full n : ℕ) → room_at full new n + taken_at false net n (hop_wants st net l s order) ≡ room_at full lines n) → AreLeft st net l order (take (i + 1) ss) new
  left_more new few took =
      record {
        lines = λ n. let a = left.lines n in let b = took 1024 n in let c = sum_by_more (takes n) ss i d lt in let e = ap (takes n) is in omega (arith, a, b, c, e);
        next_hops = λ t n j.
            ⊎_elim (λ (k : In t (take i ss)). left.next_hops t n k)
            (λ (k : In t (s ∷ [])). ⊎_elim (λ (e : t ≡ s). subst (λ (x : Session). taken_at true net n (hop_wants st net l x order) ≤ 64) (sym e) (few n)) (λ (z : ⊥). absurd z) k)
            (in_append t (take i ss) (s ∷ []) (subst (λ (xs : List Session). In t xs) (take_more ss i d s lt is) j));
      }

  pub left_lack : In s ss → (n : ℕ) × ((64 < taken_at true net n (hop_wants st net l s order)) ⊎ ((full : ℕ) → room_at full lines n < taken_at false net n (hop_wants st net l s order)))
      → FindRoom st net l order ss → ⊥
  left_lack there lack found =
      ⊎_elim (λ (more : 64 < taken_at true net lack.0 (hop_wants st net l s order)). let le = found.next_hops s lack.0 there in let z : ⊥ = omega arith in z)
      (λ (less : (full : ℕ) → room_at full lines lack.0 < taken_at false net lack.0 (hop_wants st net l s order)).
      let a = left.lines lack.0 in
      let b = less 1024 in
      let c = sum_by_more (takes lack.0) ss i d lt in
      let t = sum_by-take-le (takes lack.0) ss (i + 1) in
      let e = ap (takes lack.0) is in
      let f = found.lines lack.0 in
      let z : ⊥ = omega (arith, a, b, c, t, e, f) in z) lack.1
