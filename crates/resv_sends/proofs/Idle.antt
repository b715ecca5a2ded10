-- Where nothing asks for data in a session and style, nothing goes toward a hop.
use Rattle.std.specs.Prelude.{◌≡◌, ◌||◌, ℕ, Bool, true, false, cond, not, is_some, List, [], ◌∷◌, ◌++◌, map as each, Option, Some, None, slice_get, refl}
use Rattle.std.specs.List.{filter_map, list_any}
use Rattle.std.specs.Option.{option_copied, option_map}
use Rattle.std.proofs.Common.{Bor, sym, ap, ◌∙◌}
use Rattle.rsvp_base.specs.Orders.{Names, sessions, units}
use Rattle.rsvp_base.specs.Table.{changed, changed_rows, empty, kept_row}
use Rattle.rsvp_base.specs.Under.{under}
use Rattle.rsvp_base.specs.declared.session.Session.{Session}
use Rattle.rsvp_base.specs.declared.style.StyleKind.{StyleKind}
use Rattle.rsvp_base.specs.declared.style.StyleKind.TheVariants.{Wild, Fixed, Shared}
use Rattle.style_rules.specs.Lines.{NextHop}
use Rattle.style_rules.specs.Merge.{PartTable}
use Rattle.style_rules.specs.Toward.{toward}
use Rattle.resv_state.specs.Merging.{SessionRow, resv_request, want_request}
use Rattle.resv_state.specs.Walks.{rests}
use Rattle.resv_state.specs.declared.fact.ResvFact.{ResvFact}
use Rattle.router_rules.specs.Requests.{is_style}
use Rattle.local_state.specs.Wants.{asked_row, own_part, own_want}
use Rattle.local_state.specs.declared.wants.LocalWant.{LocalWant}
use Rattle.laws_sends.specs.State.{Said, State, table_in}
use Rattle.laws_sends.specs.Seen.{names_seen, toward_at, up_at}
use Rattle.laws_sends.proofs.Seeing.{merged_is}
use Rattle.router_state.specs.Whole.{state_of}
use Rattle.router_state.specs.declared.tables.Tables.{Tables}
use Rattle.resv_sends.specs.Taking.{rows_of}
use Rattle.resv_sends.proofs.Named.{own_is}

-- of a list without a first row
pub no_first : (r : Option (Bor ResvFact)) (b : Bool) → is_some r ≡ not b → b ≡ true → (es : List SessionRow) → option_copied r ≡ option_map (λ e. e.1.0) (slice_get es 0) → es ≡ []
no_first r b some on [] is = refl
no_first None b some on (e ∷ es) is = cc
no_first (Some x) b some on (e ∷ es) is = let z : true ≡ false = some ∙ ap not on in absurd (cc)

-- wants of other styles ask for nothing
others_ask : (st : StyleKind) (names : Names) (ws : List LocalWant) → list_any (λ w. is_style w.style st) ws ≡ false → changed_rows (own_want st names) (each asked_row ws) ≡ []
others_ask st names [] h = refl
others_ask st names (w ∷ ws) h = by (is_style w.style st) refl (λ k. others_ask st names ws k)
  where
    more : Bool
    more = list_any (λ w. is_style w.style st) ws

    by : (b : Bool) → is_style w.style st ≡ b → (more ≡ false → changed_rows (own_want st names) (each asked_row ws) ≡ []) → changed_rows (own_want st names) (each asked_row (w ∷ ws)) ≡ []
    by true e rest = let z : true ≡ false = sym (ap (λ b. b || more) e) ∙ h in absurd (cc)
    by false e rest =
        ap (λ b. kept_row w.unit (cond b (Some (own_part st names w.part)) None) (changed_rows (own_want st names) (each asked_row ws))) e ∙ rest (sym (ap (λ b. b || more) e) ∙ h)

module _ (c : ℕ) (t : Tables) (said : Said) (s : Session) (hop : NextHop) (ws : List LocalWant) where
  abbrev n : State
  n = state_of t said

  goes_nowhere : (st : StyleKind) → each asked_row ws ≡ (under sessions units t.wants s).rows → list_any (λ w. is_style w.style st) ws ≡ false → (under sessions rests (table_in st n) s).rows ≡ []
      → empty ≡ toward_at c n s st hop
  goes_nowhere st rows other none =
      let names = names_seen c n s st hop in
      let own : PartTable = changed (own_want st names) (under sessions units t.wants s) in
      let nothing : own.rows ≡ [] = ap (changed_rows (own_want st names)) (sym rows) ∙ others_ask st names ws other in
      let up = up_at c n s st hop in
      sym (λ i. toward st (filter_map (resv_request up) (none i) ++ filter_map (want_request up) (nothing i)))
      ∙ merged_is c n s hop up own st refl (own_is c n s st hop names own refl refl)

  pub nothing_goes : (st : StyleKind) → each asked_row ws ≡ (under sessions units t.wants s).rows → list_any (λ w. is_style w.style st) ws ≡ false → rows_of st t s ≡ []
      → empty ≡ toward_at c n s st hop
  nothing_goes Wild rows other none = goes_nowhere Wild rows other none
  nothing_goes Fixed rows other none = goes_nowhere Fixed rows other none
  nothing_goes Shared rows other none = goes_nowhere Shared rows other none
