-- A step of the walk along a session's reservations: whether what one asks for is open.
use Rattle.std.specs.Prelude.{◌≡◌, ◌+◌, ◌||◌, ℕ, Bool, true, false, Option, drop}
use Rattle.std.specs.List.{list_any}
use Rattle.std.proofs.Common.{ap, sym, ◌∙◌}
use Rattle.rsvp_base.specs.declared.session.Session.{Session}
use Rattle.rsvp_base.specs.declared.style.StyleKind.{StyleKind}
use Rattle.rsvp_base.specs.declared.style.Unit.{Unit as UnitOf}
use Rattle.style_rules.specs.Parts.{part_cut}
use Rattle.style_rules.specs.Ways.{WayTable}
use Rattle.resv_state.specs.Merging.{names_out, request_of}
use Rattle.resv_state.specs.Resvs.{ResvFacts}
use Rattle.resv_state.specs.declared.fact.ResvFact.{ResvFact}
use Rattle.resv_sends.specs.Taking.{asks_for, is_open, is_resv_open}
use Rattle.resv_sends.specs.declared.taking.Asking.{Asking}
use Rattle.resv_sends.proofs.Walking.{Met, rows_in}

module _ (st : StyleKind) (up : WayTable) (u : UnitOf) (m : ResvFacts) (s : Session) (k : ℕ) (f : ResvFact) (w : Met m s k f) where
  abbrev asked : StyleKind → Option Asking
  asked kind = asks_for kind (request_of up (part_cut f.part (names_out up f.iface)))

  -- what the code asks of the fact is asked of its row
  row_is : (r : Bool) (kind : StyleKind) (ask : Option Asking) → kind ≡ st → ask ≡ asked kind → r ≡ is_open u ask → r ≡ is_resv_open st up u w.row
  row_is r kind ask same is shown =
      let fact = sym w.fact in
      let hop = sym w.hop in
      shown ∙ ap (is_open u) (is ∙ ap asked same) ∙ (λ i. is_open u (asks_for st (request_of up (part_cut (fact i).part (names_out up (hop i).0)))))

  module _ (r : Bool) (kind : StyleKind) (ask : Option Asking) (same : kind ≡ st) (is : ask ≡ asked kind) (shown : r ≡ is_open u ask) where
    ahead : (r || list_any (is_resv_open st up u) (drop (k + 1) (rows_in m s))) ≡ list_any (is_resv_open st up u) (drop k (rows_in m s))
    ahead = ap (λ b. b || list_any (is_resv_open st up u) (drop (k + 1) (rows_in m s))) (row_is r kind ask same is shown) ∙ ap (list_any (is_resv_open st up u)) (sym w.here)

    pub goes_on : r ≡ false → list_any (is_resv_open st up u) (drop (k + 1) (rows_in m s)) ≡ list_any (is_resv_open st up u) (drop k (rows_in m s))
    goes_on off = ap (λ b. b || list_any (is_resv_open st up u) (drop (k + 1) (rows_in m s))) (sym off) ∙ ahead

    pub ends_here : r ≡ true → true ≡ list_any (is_resv_open st up u) (drop k (rows_in m s))
    ends_here on = ap (λ b. b || list_any (is_resv_open st up u) (drop (k + 1) (rows_in m s))) (sym on) ∙ ahead
