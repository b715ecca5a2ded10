-- The loop check, over the graph of a topology.
use Rattle.std.specs.Prelude.{◌≡◌, ◌⊎◌, ℕ, List, Result, Ok, Err, Some}
use Rattle.rsvp_base.specs.Members.{In}
use Rattle.tree_model.specs.declared.hops.LinkHop.{LinkHop}
use Rattle.tree_routing.specs.declared.known.Known.{Known}
use Rattle.tree_routing.specs.declared.hop_err.HopErr.{HopErr}
use Rattle.tree_routing.specs.declared.hop_err.HopErr.TheVariants.{NotTree, Loop, NoMemory}
use Rattle.tree_routing.specs.Walks.{Leads}
use Rattle.tree_routing.specs.Answers.{IsUpTo}

-- edges lead from the one vertex to the other by way of this one
abbrev pub IsBetween : List Known → ℕ → ℕ → ℕ → Type 0
IsBetween ks from to x = Leads ks from x × Leads ks x to

-- edges lead from the new hop to the hop before it, so that the edge between them closes a chain
pub record Closes (ks : List Known) (new : Known) : Type 0 where
  pub before : ℕ
  pub is : new.before ≡ Some before
  pub leads : Leads ks new.vertex before

-- a hop of the group by way of which edges lead from the new hop to the hop before it, and which is less than this one
abbrev pub IsBetter : List Known → Known → ℕ → Known → LinkHop → Type 0
IsBetter ks new before k least = (k.hop.group ≡ new.hop.group) × (IsUpTo least k.hop.hop → ⊥) × IsBetween ks new.vertex before k.vertex

abbrev pub IsLesser : List Known → Known → ℕ → Known → LinkHop → LinkHop → Type 0
IsLesser ks new before k least h = (IsBetter ks new before k least × (h ≡ k.hop.hop)) ⊎ ((IsBetter ks new before k least → ⊥) × (h ≡ least))

-- the least of the new hop and those of these hops of its group by way of which edges lead from it to the hop before it
pub record IsLeastAmong (ks some : List Known) (new : Known) (before : ℕ) (h : LinkHop) : Type 0 where
  pub there : (h ≡ new.hop.hop) ⊎ ((k : Known) × In k some × (k.hop.group ≡ new.hop.group) × (h ≡ k.hop.hop) × IsBetween ks new.vertex before k.vertex)
  pub first : IsUpTo h new.hop.hop
  pub least : (k : Known) → In k some → k.hop.group ≡ new.hop.group → IsBetween ks new.vertex before k.vertex → IsUpTo h k.hop.hop

abbrev pub IsLeastBetween : List Known → Known → ℕ → LinkHop → Type 0
IsLeastBetween ks new before h = IsLeastAmong ks ks new before h

abbrev pub LoopAnswer : List Known → Known → Result (Unit {0}) HopErr → Type 0
LoopAnswer ks new (Ok u) = Closes ks new → ⊥
LoopAnswer ks new (Err NotTree) = ⊥
LoopAnswer ks new (Err (Loop group from to)) = (c : Closes ks new) × (group ≡ new.hop.group) × IsLeastBetween ks new c.before (record { from = from; to = to })
LoopAnswer ks new (Err NoMemory) = Unit {0}
