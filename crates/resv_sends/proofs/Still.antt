-- A session to whose lanes was said what goes there.
use Rattle.std.specs.Prelude.{◌≡◌, ℕ, nat_lt, ◌&&◌, Bool, true, false, cond, not, is_some, List, [], ◌∷◌, ◌++◌, Option, Some, None, refl}
use Rattle.std.specs.List.{flat_map}
use Rattle.std.proofs.Common.{sym, ap, ◌∙◌}
use Rattle.rsvp_base.specs.Orders.{senders, units}
use Rattle.rsvp_base.specs.Sets.{cut, is_none, set_of}
use Rattle.rsvp_base.specs.Table.{empty, has, size}
use Rattle.rsvp_base.specs.declared.session.Session.{Session}
use Rattle.rsvp_base.proofs.SetLaws.{same_set}
use Rattle.rsvp_base.proofs.Tables.{either}
use Rattle.laws_bounds.proofs.Asks.{gone_told}
use Rattle.laws_bounds.proofs.Tests.{parts_tested}
use Rattle.rsvp_messages.specs.declared.ask.Ask.{Ask}
use Rattle.style_rules.specs.Merge.{PartTable}
use Rattle.router_rules.specs.Asking.{ask_of}
use Rattle.router_rules.specs.Known.{Lane, names_via}
use Rattle.router_rules.specs.Requests.{toward}
use Rattle.router_rules.specs.Sends.{gone_names, marked_units, resv_tear_send, same_parts}
use Rattle.laws_sends.specs.State.{Said, State, facts_of, said_at}
use Rattle.laws_sends.specs.Marks.{used_at, used_in}
use Rattle.laws_sends.specs.Saying.{SessionLane, ask_seen, lane_by, told_ask, told_seen, torn_of, torn_seen}
use Rattle.resv_sends.specs.Rounds.{IsStill, renewed_by, renewed_seen, told_by, torn_by}

-- nothing goes away that is there before and after
gone_none : (t : PartTable) → gone_names t t ≡ empty
gone_none t = same_set senders _ empty (λ x. either (has (gone_names t t) x) (λ h. let g = gone_told t t x h in let a : true ≡ false = sym (ap is_some g.was) ∙ g.gone in absurd (cc)) (λ h. h))

none_each : {A B : Type 0} (g : A → List B) (xs : List A) → ((x : A) → g x ≡ []) → flat_map g xs ≡ []
none_each g [] none = refl
none_each g (x ∷ xs) none = λ i. none x i ++ none_each g xs none i

-- ---- a lane
module _ (c : ℕ) (n : State) (l : Lane) (was : PartTable) (is : was ≡ toward n.place (facts_of c n) l) where
  same : same_parts was (toward n.place (facts_of c n) l) ≡ true
  same = parts_tested was (toward n.place (facts_of c n) l) is

  lane_told : told_seen c n l None true was ≡ renewed_seen c n l was
  unfolding told_seen ask_seen
  lane_told = (λ i. told_ask n.place (facts_of c n) l None (not (same i)) true (ask_of l.style (sym is i))) ∙ by (ask_of l.style was)
    where
      by : (a : Option Ask) → told_ask n.place (facts_of c n) l None false true a ≡ ask_seen c n l None true a
      by None = refl
      by (Some ask) = refl

  lane_torn : torn_seen c n l was ≡ []
  unfolding torn_seen
  lane_torn =
      let now = toward n.place (facts_of c n) l in
      let none : torn_of was now (names_via (facts_of c n) l) ≡ empty = ap (λ (v : PartTable). cut (gone_names v now) (names_via (facts_of c n) l)) is
      ∙ ap (λ z. cut z (names_via (facts_of c n) l)) (gone_none now) in
      ap (λ z. cond (is_none z) [] (resv_tear_send n.place (facts_of c n) l z ∷ [])) none

-- ---- its lanes
module _ (n : State) (s : Session) (said : Said) (still : IsStill n s said) (c : ℕ) where
  one_told : (e : SessionLane) → told_by c n None true said s e ≡ renewed_by c n said s e
  one_told e = lane_told c n (lane_by s e) (said_at said (lane_by s e)) (still c e)

  -- told again, they are told what they were told last
  pub still_told : (es : List SessionLane) → flat_map (renewed_by c n said s) es ≡ flat_map (told_by c n None true said s) es
  still_told [] = refl
  still_told (e ∷ es) = λ i. sym (one_told e) i ++ still_told es i

  -- no ResvTear goes there
  pub still_torn : (es : List SessionLane) → flat_map (torn_by c n said s) es ≡ []
  still_torn es = none_each (torn_by c n said s) es (λ e. lane_torn c n (lane_by s e) (said_at said (lane_by s e)) (still c e))

  -- and no mark is used
  pub still_marked : (es : List SessionLane) → used_in n.place (facts_of c n) s said es ≡ empty
  still_marked es = ap (λ us. set_of {o = units} us) (none_each (used_at n.place (facts_of c n) s said) es none)
    where
      off : (b : Bool) → (b && false) ≡ false
      off true = refl
      off false = refl

      none : (e : SessionLane) → used_at n.place (facts_of c n) s said e ≡ []
      none e =
          let now = toward n.place (facts_of c n) (lane_by s e) in
          let old : not (same_parts (said_at said (lane_by s e)) now) ≡ false = ap not (same c n (lane_by s e) (said_at said (lane_by s e)) (still c e)) in
          (λ i. cond (nat_lt 0 (size now) && old i) (marked_units n.place (facts_of c n) (lane_by s e)) [])
          ∙ ap (λ b. cond b (marked_units n.place (facts_of c n) (lane_by s e)) []) (off (nat_lt 0 (size now)))
