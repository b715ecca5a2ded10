-- Time that passes: each slot whose moment comes stands in one of the lists that are gone through.
use Rattle.std.proofs.Common.{◌≡◌, ◌<◌, ◌≤◌, ◌+◌, ◌-◌, ◌/◌, ◌%◌, ◌*◌, ◌⊎◌, min, ℕ, cond, List, length, Option, Some, None, refl, sym, ap, subst, ◌∙◌, arith, inl, inr}
use Rattle.std.specs.Prelude.{slice_get}
use Rattle.std.proofs.lemmas.Bool.{cases_eq, cases_lt, le-leb, lt-leb}
use Rattle.soft_table.specs.declared.entry.Entry.{Entry}
use Rattle.soft_table.specs.Wheel.{AreFiled, IsFiled, IsPassedBy, MayStand, list_of, list_at, wheel_list}
use Rattle.soft_table.proofs.PoolSlots.{within, something}

-- ---- the list of a slot
pub due_list : {T : Type 0} (clock : ℕ) (v : T) (m : ℕ) → m ≤ clock → list_of clock (Some v) m ≡ 1
due_list clock v m le = ap (λ b. cond b 1 (wheel_list m)) (le-leb m clock le)

pub live_list : {T : Type 0} (clock : ℕ) (v : T) (m : ℕ) → clock < m → list_of clock (Some v) m ≡ wheel_list m
live_list clock v m lt = ap (λ b. cond b 1 (wheel_list m)) (lt-leb m clock lt)

-- the list of its moment is one that time passes by its moment
pub by_moment : (soonest m : ℕ) → soonest ≤ m → IsPassedBy soonest m (wheel_list m)
by_moment soonest m le = (m, le, omega arith, refl)

-- the list that a slot is put into is one that it may stand in
may_stand : {T : Type 0} (clock soonest : ℕ) (o : Option T) (m : ℕ) → soonest ≤ m → MayStand clock soonest o m (list_of clock o m)
may_stand clock soonest None m sooner = refl
may_stand clock soonest (Some v) m sooner = (λ le. due_list clock v m le, λ lt. subst (IsPassedBy soonest m) (sym (live_list clock v m lt)) (by_moment soonest m sooner))

pub filed_at : {T : Type 0} (clock soonest : ℕ) (e : Entry T) → soonest ≤ e.moment → IsFiled clock soonest e (list_at clock e)
filed_at clock soonest e sooner = may_stand clock soonest e.value e.moment sooner

pub due_filed : {T : Type 0} (clock soonest : ℕ) (v : T) (m : ℕ) → m ≤ clock → MayStand clock soonest (Some v) m 1
due_filed clock soonest v m le = (λ _. refl, λ lt. absurd (omega (arith, le, lt)))

pub live_filed : {T : Type 0} (clock soonest : ℕ) (v : T) (m home : ℕ) → clock < m → IsPassedBy soonest m home → MayStand clock soonest (Some v) m home
live_filed clock soonest v m home lt passed = (λ le. absurd (omega (arith, le, lt)), λ _. passed)

-- a live slot may stand in the list of its moment
pub live_put : {T : Type 0} (clock soonest home m : ℕ) (e : Entry T) (v : T) → e.value ≡ Some v → e.moment ≡ m → clock < m → soonest ≤ m → home ≡ wheel_list m → IsFiled clock soonest e home
live_put clock soonest home m e v has at lt sooner home_is = subst (λ o. MayStand clock soonest o e.moment home) (sym has)
    (live_filed clock soonest v e.moment home (omega (arith, lt, at)) (m, sooner, omega (arith, at), home_is))

-- and may stay in its list where its moment comes no earlier than before
pub live_stays : {T : Type 0} (clock soonest home : ℕ) (e f : Entry T) (v w : T) → e.value ≡ Some v → f.value ≡ Some w → clock < e.moment → e.moment ≤ f.moment → IsFiled clock soonest e home
    → IsFiled clock soonest f home
live_stays clock soonest home e f v w has has_f lt le stands =
    let passed = (subst (λ o. MayStand clock soonest o e.moment home) has stands).1 lt in
    subst (λ o. MayStand clock soonest o f.moment home) (sym has_f) (live_filed clock soonest w f.moment home (omega (arith, lt, le)) (passed.0, passed.1, omega (arith, passed.2, le), passed.3))

-- a slot in a list of the wheel has a value
pub in_wheel : {T : Type 0} (clock soonest : ℕ) (o : Option T) (m home : ℕ) → MayStand clock soonest o m home → 3 ≤ home → (v : T) × (o ≡ Some v)
in_wheel clock soonest None m home stands le = absurd (omega (arith, stands, le))
in_wheel clock soonest (Some v) m home stands le = (v, refl)

pub not_aside : {T : Type 0} (clock soonest : ℕ) (o : Option T) (m : ℕ) → MayStand clock soonest o m 2 → ⊥
not_aside clock soonest None m stands = omega (arith, stands)
not_aside clock soonest (Some v) m stands =
    elim (cases_lt clock m) [
      | inl lt ↦ let passed = stands.1 lt in omega (arith, passed.3)
      | inr past ↦ omega (arith, stands.0 past)
    ]

-- the list of a time that passes is one of those gone through
pub in_reach : (clock now first more time : ℕ) → first ≡ clock / 1024 → more ≡ min (now / 1024 - first) 255 → clock ≤ time → time / 1024 ≤ now / 1024
    → (j : ℕ) × (j < more + 1) × (time / 1024 % 256 ≡ (first + j) % 256)
in_reach clock now first more time first_is more_is after high =
    let j : ℕ = (time / 1024 - first) % 256 in
    let low : first ≤ time / 1024 = omega (arith, first_is, after) in
    (j, omega (arith, more_is, low, high), omega (arith, low))

module _ {T : Type 0} (es : List (Entry T)) (clock now first : ℕ) where
  -- after some lists: each slot may stand in its list now, or it might before and its list was not gone through yet
  pub record IsPassing (step : ℕ) (lists : List ℕ) : Type 0 where
    pub size : length lists ≡ length es
    pub stands : (i : ℕ) (e : Entry T) (h : ℕ) → slice_get es i ≡ Some e → slice_get lists i ≡ Some h
        → IsFiled now now e h ⊎ (IsFiled clock clock e h × ((j : ℕ) → j < step → h ≡ 3 + (first + j) % 256 → ⊥))

  pub passing : (lists : List ℕ) → AreFiled clock clock es lists → IsPassing 0 lists
  passing lists filed = record { size = filed.0; stands = λ i e h is at. inr (filed.1 i e h is at, λ j lt. absurd (omega (arith, lt))) }

  pub none_aside : (step : ℕ) (lists : List ℕ) → IsPassing step lists → (i : ℕ) → slice_get lists i ≡ Some 2 → ⊥
  none_aside step lists o i at =
      let e = something es i (omega (arith, within lists i 2 at, o.size)) in
      elim (o.stands i e.0 2 e.1 at) [
        | inl new ↦ not_aside now now e.0.value e.0.moment new
        | inr old ↦ not_aside clock clock e.0.value e.0.moment old.0
      ]

  -- a slot that was in the list gone through may stand where it is now
  looked_at : (e : Entry T) (v : T) (o : Option ℕ) (h : ℕ) → e.value ≡ Some v → o ≡ Some h → (e.moment ≤ now → o ≡ Some 1) → (now < e.moment → o ≡ Some (wheel_list e.moment)) → IsFiled now now e h
  looked_at e v o h has at due later =
      subst (λ value. MayStand now now value e.moment h) (sym has) (elim (cases_lt now e.moment) [
        | inl lt ↦
            let both : Some (wheel_list e.moment) ≡ Some h = sym (later lt) ∙ at in
            let eq : wheel_list e.moment ≡ h = cc in
            live_filed now now v e.moment h lt (subst (IsPassedBy now e.moment) eq (by_moment now e.moment (omega (arith, lt))))
        | inr le ↦
            let both : Some 1 ≡ Some h = sym (due le) ∙ at in
            let eq : 1 ≡ h = cc in
            subst (MayStand now now (Some v) e.moment) eq (due_filed now now v e.moment le)
      ])

  -- one more list gone through
  pub passed_more : (step list : ℕ) (lists new : List ℕ) → list ≡ 3 + (first + step) % 256 → IsPassing step lists → length new ≡ length lists
      → ((i h : ℕ) → slice_get lists i ≡ Some h → (h ≡ list → ⊥) → slice_get new i ≡ Some h)
      → ((i : ℕ) (e : Entry T) → slice_get es i ≡ Some e → slice_get lists i ≡ Some list → e.moment ≤ now → slice_get new i ≡ Some 1)
      → ((i : ℕ) (e : Entry T) → slice_get es i ≡ Some e → slice_get lists i ≡ Some list → now < e.moment → slice_get new i ≡ Some (wheel_list e.moment))
      → IsPassing (step + 1) new
  passed_more step list lists new list_is o size others due later =
      record {
        size = size ∙ o.size;
        stands = λ i e h is at.
            let was = something lists i (omega (arith, within new i h at, size)) in
            elim (cases_eq was.0 list) [
              | inl same ↦
                  let was_at : slice_get lists i ≡ Some list = was.1 ∙ ap Some same in
                  let wheel : 3 ≤ was.0 = omega (arith, same, list_is) in
                  let value : (v : T) × (e.value ≡ Some v) = elim (o.stands i e was.0 is was.1) [
                    | inl new ↦ in_wheel now now e.value e.moment was.0 new wheel
                    | inr old ↦ in_wheel clock clock e.value e.moment was.0 old.0 wheel
                  ] in
                  inl (looked_at e value.0 (slice_get new i) h value.1 at (due i e is was_at) (later i e is was_at))
              | inr ne ↦
                  let both : Some was.0 ≡ Some h = sym (others i was.0 was.1 ne) ∙ at in
                  let eq : was.0 ≡ h = cc in
                  elim (o.stands i e h is (was.1 ∙ ap Some eq)) [
                    | inl new ↦ inl new
                    | inr old ↦ inr (
                      old.0,
                      λ j lt is_j. elim (cases_eq j step) [
                        | inl e_j ↦ ne (eq ∙ is_j ∙ ap (λ j. 3 + (first + j) % 256) e_j ∙ sym list_is)
                        | inr ne_j ↦ old.1 j (omega (arith, lt, ne_j)) is_j
                      ],
                    )
                  ]
            ];
      }

  -- a slot whose list was not gone through may stand in it now
  stays : (more : ℕ) → first ≡ clock / 1024 → more ≡ min (now / 1024 - first) 255 → clock ≤ now → (o : Option T) (m h : ℕ) → MayStand clock clock o m h
      → ((j : ℕ) → j < more + 1 → h ≡ 3 + (first + j) % 256 → ⊥) → MayStand now now o m h
  stays more first_is more_is order None m h stood out = stood
  stays more first_is more_is order (Some v) m h stood out =
      elim (cases_lt clock m) [
        | inl after ↦
            let passed = stood.1 after in
            let time = passed.0 in
            elim (cases_lt (now / 1024) (time / 1024)) [
              | inl ahead ↦ live_filed now now v m h (omega (arith, ahead, passed.2)) (time, omega (arith, ahead), passed.2, passed.3)
              | inr reached ↦ let r = in_reach clock now first more time first_is more_is passed.1 reached in absurd (out r.0 r.1 (passed.3 ∙ ap (λ n. 3 + n) r.2))
            ]
        | inr le ↦ (λ _. stood.0 le, λ lt. absurd (omega (arith, le, lt, order)))
      ]

  pub all_passed : (more : ℕ) (lists : List ℕ) → first ≡ clock / 1024 → more ≡ min (now / 1024 - first) 255 → clock ≤ now → IsPassing (more + 1) lists → AreFiled now now es lists
  all_passed more lists first_is more_is order o = (
    o.size,
    λ i e h is at. elim (o.stands i e h is at) [
      | inl new ↦ new
      | inr old ↦ stays more first_is more_is order e.value e.moment h old.0 old.1
    ],
  )

-- ---- the soonest time
module _ {T : Type 0} (clock soonest : ℕ) where
  stands_sooner : (less : ℕ) (o : Option T) (m h : ℕ) → less ≤ soonest → MayStand clock soonest o m h → MayStand clock less o m h
  stands_sooner less None m h le stands = stands
  stands_sooner less (Some v) m h le stands = (stands.0, λ lt. let passed = stands.1 lt in (passed.0, omega (arith, le, passed.1), passed.2, passed.3))

  -- it may be taken earlier
  pub filed_sooner : (less : ℕ) (es : List (Entry T)) (homes : List ℕ) → less ≤ soonest → AreFiled clock soonest es homes → AreFiled clock less es homes
  filed_sooner less es homes le filed = (filed.0, λ i e h is at. stands_sooner less e.value e.moment h le (filed.1 i e h is at))

  stands_while : (now : ℕ) (o : Option T) (m h : ℕ) → clock ≤ now → now < soonest → MayStand clock soonest o m h → MayStand now soonest o m h
  stands_while now None m h order wait stands = stands
  stands_while now (Some v) m h order wait stands =
      elim (cases_lt clock m) [
        | inl after ↦ let passed = stands.1 after in live_filed now soonest v m h (omega (arith, wait, passed.1, passed.2)) passed
        | inr le ↦ (λ _. stands.0 le, λ lt. absurd (omega (arith, le, lt, order)))
      ]

  -- while it has not come, each slot may stay where it is
  pub filed_while : (now : ℕ) (es : List (Entry T)) (homes : List ℕ) → clock ≤ now → now < soonest → AreFiled clock soonest es homes → AreFiled now soonest es homes
  filed_while now es homes order wait filed = (filed.0, λ i e h is at. stands_while now e.value e.moment h order wait (filed.1 i e h is at))

  stands_later : (more : ℕ) (o : Option T) (m h : ℕ) → ((time : ℕ) → h ≡ wheel_list time → soonest ≤ time → more ≤ time) → MayStand clock soonest o m h → MayStand clock more o m h
  stands_later more None m h later stands = stands
  stands_later more (Some v) m h later stands = (stands.0, λ lt. let passed = stands.1 lt in (passed.0, later passed.0 passed.3 passed.1, passed.2, passed.3))

  -- it may be taken later where no slot stands in a list of a time before
  pub filed_later : (more : ℕ) (es : List (Entry T)) (homes : List ℕ) → ((i time : ℕ) → slice_get homes i ≡ Some (wheel_list time) → soonest ≤ time → more ≤ time) → AreFiled clock soonest es homes
      → AreFiled clock more es homes
  filed_later more es homes later filed = (filed.0, λ i e h is at. stands_later more e.value e.moment h (λ time home_is. later i time (at ∙ ap Some home_is)) (filed.1 i e h is at))

-- no slot stands in one of so many lists of the wheel
abbrev pub AreEmpty : List ℕ → ℕ → ℕ → Type 0
AreEmpty homes first step = (j i : ℕ) → j < step → slice_get homes i ≡ Some (3 + (first + j) % 256) → ⊥

module _ (homes : List ℕ) (now : ℕ) where
  pub empty_more : (step : ℕ) → AreEmpty homes (now / 1024) step → ((i : ℕ) → slice_get homes i ≡ Some (3 + (now / 1024 + step) % 256) → ⊥) → AreEmpty homes (now / 1024) (step + 1)
  empty_more step empty none j i lt at =
      elim (cases_eq j step) [
        | inl same ↦ none i (at ∙ ap (λ j. Some (3 + (now / 1024 + j) % 256)) same)
        | inr ne ↦ empty j i (omega (arith, lt, ne)) at
      ]

  -- a slot stands in a list of no time before the first that is not empty
  pub not_before : (step : ℕ) → AreEmpty homes (now / 1024) step → (i time : ℕ) → slice_get homes i ≡ Some (wheel_list time) → now ≤ time → (now / 1024 + step) * 1024 ≤ time
  not_before step empty i time at le =
      elim (cases_lt (time / 1024) (now / 1024 + step)) [
        | inl lt ↦
            let same : wheel_list time ≡ 3 + (now / 1024 + (time / 1024 - now / 1024)) % 256 = omega (arith, le) in
            absurd (empty (time / 1024 - now / 1024) i (omega (arith, lt, le)) (at ∙ ap Some same))
        | inr reached ↦ omega (arith, reached)
      ]

  -- nor in any where all are empty
  pub in_none : AreEmpty homes (now / 1024) 256 → (i time : ℕ) → slice_get homes i ≡ Some (wheel_list time) → now ≤ time → ⊥
  in_none empty i time at le =
      let same : wheel_list time ≡ 3 + (now / 1024 + (time / 1024 - now / 1024) % 256) % 256 = omega (arith, le) in
      empty ((time / 1024 - now / 1024) % 256) i (omega arith) (at ∙ ap Some same)
