-- What a pool keeps of its slots at a moment of its clock, and the list of each slot.
use Rattle.std.specs.Prelude.{◌≡◌, ◌<◌, ◌≤◌, ◌+◌, ◌-◌, ◌/◌, ◌%◌, ◌^◌, ℕ, Bool, false, cond, Option, Some, None, List, length, map, replicate, ◌++◌, nat_le, slice_get}
use Rattle.soft_table.specs.declared.cell.Cell.{Cell}
use Rattle.soft_table.specs.declared.cell.Cell.TheVariants.{Free, Live, Due}
use Rattle.soft_table.specs.declared.entry.Entry.{Entry}

abbrev pub cell_of : {T : Type 0} → ℕ → Option T → ℕ → Cell T
cell_of clock None moment = Free
cell_of clock (Some v) moment = cond (nat_le moment clock) (Due v) (Live v (moment - clock))

-- what is in a slot
abbrev pub shown : {T : Type 0} → ℕ → Entry T → Cell T
shown clock e = cell_of clock e.value e.moment

-- the list of the wheel for a moment
abbrev pub wheel_list : ℕ → ℕ
wheel_list moment = 3 + moment / 1024 % 256

abbrev pub list_of : {T : Type 0} → ℕ → Option T → ℕ → ℕ
list_of clock None moment = 0
list_of clock (Some v) moment = cond (nat_le moment clock) 1 (wheel_list moment)

-- the list that a slot is put into: that of the free, that of the due, or the one of the wheel for its moment
abbrev pub list_at : {T : Type 0} → ℕ → Entry T → ℕ
list_at clock e = list_of clock e.value e.moment

-- time passes the list no sooner than the soonest time and no later than the moment: it is that of a time from the one to the other
abbrev pub IsPassedBy : ℕ → ℕ → ℕ → Type 0
IsPassedBy soonest moment home = (time : ℕ) × (soonest ≤ time) × (time ≤ moment) × (home ≡ wheel_list time)

abbrev pub MayStand : {T : Type 0} → ℕ → ℕ → Option T → ℕ → ℕ → Type 0
MayStand clock soonest None moment home = home ≡ 0
MayStand clock soonest (Some v) moment home = (moment ≤ clock → home ≡ 1) × (clock < moment → IsPassedBy soonest moment home)

-- a slot may stand in this list: a free one in that of the free, a due one in that of the due, a live one in any that time passes no sooner than the soonest time and no later than the slot's moment
abbrev pub IsFiled : {T : Type 0} → ℕ → ℕ → Entry T → ℕ → Type 0
IsFiled clock soonest e home = MayStand clock soonest e.value e.moment home

-- each slot that was made stands in a list that it may stand in
abbrev pub AreFiled : {T : Type 0} → ℕ → ℕ → List (Entry T) → List ℕ → Type 0
AreFiled {T} clock soonest entries homes = (length homes ≡ length entries) × ((i : ℕ) (e : Entry T) (h : ℕ) → slice_get entries i ≡ Some e → slice_get homes i ≡ Some h → IsFiled clock soonest e h)

-- no slot stands in this list
abbrev pub IsEmpty : ℕ → List ℕ → Type 0
IsEmpty list homes = (i : ℕ) → slice_get homes i ≡ Some list → ⊥

-- where no due value may wait, no slot stands in the list of the due
abbrev pub NoneMayWait : Bool → List ℕ → Type 0
NoneMayWait may homes = may ≡ false → IsEmpty 1 homes

-- with the clock set back by so much
abbrev pub set_back : {T : Type 0} → ℕ → Entry T → Entry T
set_back by e = record { value = e.value; moment = e.moment - by }

-- what is in the slots of a pool with so much room: those that were not made yet are free
abbrev pub cells : {T : Type 0} → ℕ → ℕ → List (Entry T) → List (Cell T)
cells clock room entries = map (shown clock) entries ++ replicate (room - length entries) Free

-- a pool's memory: few enough slots, each in a list that it may stand in, a soonest time that has not passed, and a clock that is not near its end
pub record IsPool {T : Type 0} (entries : List (Entry T)) (homes : List ℕ) (room clock soonest : ℕ) : Type 0 where
  pub few : length entries ≤ room
  pub most : room ≤ 65536
  pub filed : AreFiled clock soonest entries homes
  pub ahead : clock ≤ soonest
  pub early : clock < 2 ^ 63
