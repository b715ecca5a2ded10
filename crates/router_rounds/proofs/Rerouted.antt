-- What a move of routes leaves and sends, by the steps of the code.
use Rattle.std.specs.Prelude.{◌≡◌, ℕ, ◌++◌, false, List, [], ◌∷◌, map as each, refl}
use Rattle.std.specs.List.{flat_map}
use Rattle.std.proofs.Common.{sym, ap, subst, ◌∙◌}
use Rattle.path_state.specs.Paths.{HopSet}
use Rattle.rsvp_base.specs.Orders.{sessions}
use Rattle.rsvp_base.specs.Table.{changed, changed_rows, keys}
use Rattle.rsvp_base.specs.declared.session.Session.{Session}
use Rattle.rsvp_base.proofs.Changed.{has_changed}
use Rattle.rsvp_base.proofs.Fronts.{to_keys}
use Rattle.router_rules.specs.Inputs.{Moved}
use Rattle.router_rules.specs.NodeConfig.{NodeConfig}
use Rattle.router_rules.specs.Rule.{facts_after, sent_after}
use Rattle.router_state.specs.State.{IsSaid, IsSettled, Said, State, facts_of}
use Rattle.laws_sends.specs.Saying.{IsRoomy}
use Rattle.laws_sends.proofs.Grouping.{among_in}
use Rattle.router_state.specs.Whole.{state_of}
use Rattle.router_state.specs.declared.tables.Tables.{Tables}
use Rattle.router_aging.specs.Steps.{AreSound}
use Rattle.resv_sends.proofs.Sent.{hops_are}
use Rattle.router_rounds.specs.RouteRounds.{IsMovedOver, new_ways, rerouted, torn_ways}
use Rattle.router_rounds.specs.Rounds.{AreTold, told_round, torn_near, wants_told, with_hops}
use Rattle.router_rounds.proofs.RouteRounds.{move_is_rounds}
use Rattle.router_rounds.proofs.RoundClaims.{cleared_is_roomy, rounds_are_said}
use Rattle.router_rounds.specs.Nears.{NearTable, hops_then}
use Rattle.router_rounds.proofs.Near.{near_sessions}

-- ---- t are the tables before, first what was said, and p the new place
module _ (t : Tables) (first : Said) (p : NodeConfig) (settled : IsSettled (state_of t first)) (said : IsSaid first (state_of t first)) where
  abbrev n : State
  n = state_of t first

  abbrev pub noted : NearTable
  noted = changed (hops_then t.paths.facts) t.due

  abbrev pub ss : List Session
  ss = keys noted

  abbrev m : State
  m = rerouted p n

  abbrev pub late : Tables
  late = record t { config = p }

  noted_rows : (c : ℕ) → noted.rows ≡ each (with_hops (facts_of c n)) ss
  noted_rows c = by t.due.rows
    where
      by : (es : List (Session × ℕ)) → changed_rows (hops_then t.paths.facts) es ≡ each (with_hops (facts_of c n)) (each (λ (e : Session × HopSet). e.0) (changed_rows (hops_then t.paths.facts) es))
      by [] = refl
      by (e ∷ es) = λ i. (e.0, hops_are c n e.0 i) ∷ by es i

  moved_over : IsMovedOver ss n
  moved_over = record {
    sessions = near_sessions noted;
    settled = settled;
    said = said;
    all = λ s there. among_in ss s (to_keys sessions noted s (has_changed sessions (hops_then t.paths.facts) (λ k x. refl) t.due s ∙ there));
  }

  pub roomy_first : IsRoomy m first
  roomy_first = cleared_is_roomy ss n m (move_is_rounds.rounds ss p n moved_over) 0 first (move_is_rounds.cleared ss p n moved_over 0)

  -- what is sent, in four parts
  pub moved_sent : (c : ℕ) → flat_map (torn_ways t.config c m) ss ++ (flat_map (torn_near c m first) noted.rows ++
      (flat_map (new_ways t.config c m) ss ++ flat_map (λ s. told_round c m false first s) ss)) ≡ sent_after t.config p c Moved (facts_of c n)
  moved_sent c =
      ap (λ rows. flat_map (torn_ways t.config c m) ss ++ (flat_map (torn_near c m first) rows ++ (flat_map (new_ways t.config c m) ss ++ flat_map (λ s. told_round c m false first s) ss)))
      (noted_rows c)
      ∙ move_is_rounds.sent ss p n moved_over c

  -- last are the tables without the marks
  module _ (last : Tables) (marks : (c : ℕ) → last ≡ record late { wants = wants_told c m first ss }) (any : Said) where
    pub moved_facts : (c : ℕ) → facts_of c (state_of last any) ≡ facts_after t.config p c Moved (facts_of c n)
    moved_facts c = ap (λ (z : Tables). facts_of c (state_of z any)) (marks c) ∙ move_is_rounds.facts ss p n moved_over c

    pub moved_settled : IsSettled (state_of last any)
    moved_settled = subst (λ (z : Tables). IsSettled (state_of z any)) (sym (marks 0)) (record { counted = settled.counted; named = settled.named })

    pub moved_sound : AreSound t → AreSound last
    moved_sound sound =
        subst AreSound (sym (marks 0))
        (record { pulled = record { paths = sound.pulled.paths; wild = sound.pulled.wild; fixed = sound.pulled.fixed; shared = sound.pulled.shared }; booked = sound.booked; few = sound.few })

    pub moved_said : (final : Said) → AreTold m ss final → IsRoomy m final → IsSaid final (state_of last final)
    moved_said final told room =
        let all = rounds_are_said.said ss n m (move_is_rounds.rounds ss p n moved_over) 0 first (move_is_rounds.cleared ss p n moved_over 0) final told room in
        let without = rounds_are_said.unmarked m 0 first ss final all in
        subst (λ (z : Tables). IsSaid final (state_of z final)) (sym (marks 0)) (record { at = without.at; some = without.some })
