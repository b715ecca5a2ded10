-- The claims of the public laws, of a style by its order, join and meet.
use Rattle.std.specs.Prelude.{◌≡◌, ◌↔◌, ℕ, ◌≤◌, true, false, Some, None, List, IsTrue, IsSomeAnd}
use Rattle.rsvp_base.specs.declared.part.Part.{Part}
use Rattle.rsvp_base.specs.declared.session.Sender.{Sender}
use Rattle.rsvp_base.specs.declared.style.StyleKind.{StyleKind}
use Rattle.rsvp_base.specs.declared.style.StyleKind.TheVariants.{Wild, Fixed, Shared}
use Rattle.rsvp_base.specs.declared.style.Unit.{Unit as UnitOf}
use Rattle.rsvp_base.specs.Members.{In}
use Rattle.rsvp_base.specs.Orders.{Names, entry_keys}
use Rattle.rsvp_base.specs.Sets.{union, cut, IsWithin}
use Rattle.rsvp_base.specs.Table.{get, has, size}
use Rattle.flow_merge.specs.FlowOrder.{IsAtMost, flow_join, flow_meet}
use Rattle.style_rules.specs.Parts.{has_name, part_join, IsPartAtMost, part_le, part_cut, part_charge, IsOfStyle}
use Rattle.rsvp_base.specs.Styles.{part_unit}
use Rattle.style_rules.specs.Merge.{merge, merge_at, all_by, PartTable, IsPartOf, IsMergeOf}
use Rattle.style_rules.specs.Toward.{Request, parts_of, open_of, requests_at, toward_at, toward, IsRequestOf, IsOpenRequestOf, meet_at}
use Rattle.style_rules.specs.Tally.{tally_of, names_of_requests, names_of_tally}
use Rattle.style_rules.specs.Lines.{Line, entry_key, merged_book, book_of_end, held, AreUnder}
use Rattle.rsvp_base.specs.declared.entry_key.EntryKey.{EntryKey}
use Rattle.style_rules.specs.Limits.{within_limits, IsWithinLimits}

-- ---- the order
pub record AtMostIsAnOrder (at_most : Part → Part → Type 0) : Type 0 where
  pub reflexive : (a : Part) → at_most a a
  pub transitive : (a b c : Part) → at_most a b → at_most b c → at_most a c
  pub antisymmetric : (a b : Part) → at_most a b → at_most b a → a ≡ b

abbrev pub AtMostByNamesAndFlow : (Part → Part → Type 0) → Type 0
AtMostByNamesAndFlow at_most = (a b : Part) → at_most a b ↔ (IsWithin a.senders b.senders × IsAtMost a.flow b.flow)

-- ---- join and meet
pub record JoinIsTheLeastAbove (at_most : Part → Part → Type 0) (join : Part → Part → Part) : Type 0 where
  pub above_left : (a b : Part) → at_most a (join a b)
  pub above_right : (a b : Part) → at_most b (join a b)
  pub least : (a b c : Part) → at_most a c → at_most b c → at_most (join a b) c

pub record NamesAndFlowOfJoinAndMeet (at_most : Part → Part → Type 0) (join meet : Part → Part → Part) : Type 0 where
  pub names_of_join : (a b : Part) → (join a b).senders ≡ union a.senders b.senders
  pub names_of_meet : (a b : Part) → (meet a b).senders ≡ union a.senders b.senders
  pub flow_of_join : (a b : Part) → (join a b).flow ≡ flow_join a.flow b.flow
  pub flow_of_meet : (a b : Part) → (meet a b).flow ≡ flow_meet a.flow b.flow
  pub meet_below_join : (a b : Part) → at_most (meet a b) (join a b)
  pub meet_flow_left : (a b : Part) → IsAtMost (meet a b).flow a.flow
  pub meet_flow_right : (a b : Part) → IsAtMost (meet a b).flow b.flow

-- ---- cuts
pub record CutByNames : Type 0 where
  -- nothing is left exactly where there is no common name
  pub none : (p : Part) (names : Names) → (part_cut p names ≡ None) ↔ ((s : Sender) → has p.senders s ≡ true → has names s ≡ true → ⊥)
  pub senders : (p x : Part) (names : Names) → part_cut p names ≡ Some x → x.senders ≡ cut p.senders names
  pub flow : (p x : Part) (names : Names) → part_cut p names ≡ Some x → x.flow ≡ p.flow

pub record CutIsBelowAndMonotone (at_most : Part → Part → Type 0) : Type 0 where
  pub below : (p x : Part) (names : Names) → part_cut p names ≡ Some x → at_most x p
  pub monotone : (a b x : Part) (names : Names) → at_most a b → part_cut a names ≡ Some x → IsSomeAnd (part_cut b names) (at_most x)

pub record CutOfACut (st : StyleKind) : Type 0 where
  pub both : (p x : Part) (first second : Names) → part_cut p first ≡ Some x → part_cut x second ≡ part_cut p (cut first second)
  pub nothing : (p : Part) (first second : Names) → part_cut p first ≡ None → part_cut p (cut first second) ≡ None
  -- a cut keeps the style and the unit
  pub style : (p x : Part) (names : Names) → IsOfStyle st p → part_cut p names ≡ Some x → IsOfStyle st x
  pub unit : (p x : Part) (names : Names) → IsOfStyle st p → part_cut p names ≡ Some x → part_unit st x ≡ part_unit st p

pub record ChargeAndMostAreMonotone (at_most : Part → Part → Type 0) : Type 0 where
  pub charge : (a b : Part) → at_most a b → part_charge a ≤ part_charge b
  pub most : (a b : Part) → at_most a b → a.flow.most ≤ b.flow.most

-- ---- the merge
pub record MergeIsTheLeastAboveItsNamedParts (st : StyleKind) (at_most : Part → Part → Type 0) : Type 0 where
  -- the merge of a list of parts, and no other table, has for each unit the least part above those that name someone
  pub is : (ps : List Part) → IsMergeOf st at_most ps (merge st ps)
  pub alone : (ps : List Part) (t : PartTable) → IsMergeOf st at_most ps t → t ≡ merge st ps
  -- so a unit is there exactly where a part of it names someone
  pub there : (ps : List Part) (u : UnitOf) → (has (merge st ps) u ≡ true) ↔ ((p : Part) × IsPartOf st ps u p)
  -- and lists of which each lies under the other have one merge
  pub same : (ps qs : List Part) → ((u : UnitOf) (p : Part) → IsPartOf st ps u p → (q : Part) × IsPartOf st qs u q × at_most p q)
      → ((u : UnitOf) (q : Part) → IsPartOf st qs u q → (p : Part) × IsPartOf st ps u p × at_most q p) → merge st ps ≡ merge st qs

pub record MergeKeepsTheStyle (st : StyleKind) : Type 0 where
  pub merge : (ps : List Part) (u : UnitOf) (m : Part) → ((p : Part) → IsPartOf st ps u p → IsOfStyle st p) → get (merge st ps) u ≡ Some m → IsOfStyle st m × (part_unit st m ≡ u)
  pub toward : (rs : List Request) (u : UnitOf) (m : Part) → ((r : Request) → IsRequestOf st rs u r → IsOfStyle st r.part) → get (toward st rs) u ≡ Some m → IsOfStyle st m × (part_unit st m ≡ u)

-- ---- toward a hop
pub record TowardIsAtMostTheMerge (st : StyleKind) (at_most : Part → Part → Type 0) : Type 0 where
  pub looked_up : (rs : List Request) (u : UnitOf) → get (toward st rs) u ≡ toward_at st rs u
  -- blockade drops no unit
  pub units : (rs : List Request) (u : UnitOf) → has (toward st rs) u ≡ has (merge st (parts_of rs)) u
  pub there : (rs : List Request) (u : UnitOf) → (has (toward st rs) u ≡ true) ↔ ((r : Request) × IsRequestOf st rs u r)
  pub below : (rs : List Request) (u : UnitOf) (t m : Part) → get (toward st rs) u ≡ Some t → get (merge st (parts_of rs)) u ≡ Some m → at_most t m
  pub equal : (rs : List Request) (u : UnitOf) → ((r : Request) → IsRequestOf st rs u r → r.blockaded ≡ false) → get (toward st rs) u ≡ get (merge st (parts_of rs)) u
  pub whole : (rs : List Request) → ((r : Request) → In r rs → r.blockaded ≡ false) → toward st rs ≡ merge st (parts_of rs)

-- the flow that goes toward the hop is at least the meet of the flows of all requests
abbrev pub TowardIsAtLeastTheMeet : StyleKind → Type 0
TowardIsAtLeastTheMeet st = (rs : List Request) (u : UnitOf) (t : Part) → get (toward st rs) u ≡ Some t → IsSomeAnd (meet_at st rs u) (λ f. IsAtMost f t.flow)

-- where a request of the unit is open
pub record TowardIsTheJoinOfTheOpen (st : StyleKind) (at_most : Part → Part → Type 0) : Type 0 where
  pub join : (rs : List Request) (u : UnitOf) (r : Request) → IsOpenRequestOf st rs u r → get (toward st rs) u ≡ all_by part_join (parts_of (open_of (requests_at st u rs)))
  pub above : (rs : List Request) (u : UnitOf) (r : Request) (t : Part) → IsOpenRequestOf st rs u r → get (toward st rs) u ≡ Some t → at_most r.part t
  -- its charge and its packet size are the largest among the open ones
  pub charge : (rs : List Request) (u : UnitOf) (r : Request) (t : Part) → IsOpenRequestOf st rs u r → get (toward st rs) u ≡ Some t → (q : Request)
      × IsOpenRequestOf st rs u q × (part_charge q.part ≡ part_charge t)
  pub most : (rs : List Request) (u : UnitOf) (r : Request) (t : Part) → IsOpenRequestOf st rs u r → get (toward st rs) u ≡ Some t → (q : Request)
      × IsOpenRequestOf st rs u q × (q.part.flow.most ≡ t.flow.most)

-- where the requests added so far and a part name at most 16 senders, the merger has room for the part
abbrev pub MergerHasRoom : StyleKind → Type 0
MergerHasRoom st = (rs : List Request) (p : Part) → size (union (names_of_requests rs) p.senders) ≤ 16 → size (union (names_of_tally (tally_of st rs)) p.senders) ≤ 16

-- ---- parts of each style
pub record PartsOfAStyle : Type 0 where
  pub wild : (p : Part) → IsOfStyle Wild p ↔ ((has_name p ≡ true) × ((s : Sender) → has p.senders s ≡ true → s.port ≡ 0))
  pub fixed : (p : Part) → IsOfStyle Fixed p ↔ (size p.senders ≡ 1)
  pub shared : (p : Part) → IsOfStyle Shared p ↔ (has_name p ≡ true)

-- ---- fewer and smaller lines
pub record MergeBelow : Type 0 where
  pub looked_up : (ls : List Line) (k : EntryKey) → get (merged_book ls) k ≡ merge_at entry_keys entry_key (λ l. l.part) k ls
  pub book : (ls gs : List Line) (k : EntryKey) (x : Part) → AreUnder ls gs → get (merged_book ls) k ≡ Some x → IsSomeAnd (get (merged_book gs) k) (IsPartAtMost x)
  pub book_of_end : (e : ℕ) (ls gs : List Line) (k : EntryKey) (x : Part) → AreUnder ls gs → get (book_of_end e ls) k ≡ Some x → IsSomeAnd (get (book_of_end e gs) k) (IsPartAtMost x)

pub record SumsBelow : Type 0 where
  pub book : (ls gs : List Line) → AreUnder ls gs → held (merged_book ls) ≤ held (merged_book gs)
  pub end : (e : ℕ) (ls gs : List Line) → AreUnder ls gs → held (book_of_end e ls) ≤ held (book_of_end e gs)

abbrev pub WithinBelow : Type 0
WithinBelow = (st : StyleKind) (ls gs : List Line) → AreUnder ls gs → IsWithinLimits st gs → IsWithinLimits st ls

-- ---- tests
pub record TestsTell : Type 0 where
  pub order : (a b : Part) → IsTrue (part_le a b) ↔ IsPartAtMost a b
  pub limits : (st : StyleKind) (ls : List Line) → IsTrue (within_limits st ls) ↔ IsWithinLimits st ls
