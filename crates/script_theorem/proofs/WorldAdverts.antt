-- An `adverts` line behind enough calm rounds, behind which the script only writes, writes what its lines say of the routing and of who
-- is advertised.
use Rattle.std.proofs.Common.{◌≡◌, ℕ, ◌≤◌, List, [], ◌∷◌, ◌++◌, refl, sym, ap, subst, ◌∙◌, arith}
use Rattle.calm_rounds.specs.Machine.{run}
use Rattle.rsvp_base.specs.Sets.{Set}
use Rattle.rsvp_base.specs.Table.{empty}
use Rattle.router_rules.specs.Facts.{Facts, sender_keys}
use Rattle.tree_model.specs.Networks.{Net}
use Rattle.tree_model.specs.Ranks.{longest}
use Rattle.network_model.specs.Events.{ReportsAdverts, steps_of}
use Rattle.network_model.specs.Runs.{first_world, steps_of_run, text_of}
use Rattle.network_model.specs.Steps.{Adverts, Step, machine, step}
use Rattle.network_model.specs.Worlds.{World}
use Rattle.settle_adverts.specs.Demanded.{advertised_senders, demanded_adverts}
use Rattle.script_grammar.specs.Draft.{Draft, nothing, plan_of, routing}
use Rattle.script_grammar.specs.Grammar.{IsScript, Leads}
use Rattle.script_words.specs.Lines.{text_lines}
use Rattle.laws_scripts.proofs.EventLines.{each_script_is_a_fit_run}
use Rattle.laws_scripts.proofs.SenderLines.{each_script_lets_few_send}
use Rattle.script_theorem.specs.AdvertReports.{to_advertise}
use Rattle.script_theorem.specs.Demands.{moment}
use Rattle.script_theorem.specs.RoundsAmong.{rounds_among}
use Rattle.script_theorem.specs.Standing.{RoundsBringTheAdverts, TheLastAdvertsAreDemanded, advertised_behind, asked_adverts, events_text}
use Rattle.script_theorem.specs.Writing.{OnlyWrite}
use Rattle.script_theorem.proofs.AdvertReports.{a_settled_adverts_line_is_demanded}
use Rattle.script_theorem.proofs.LastRounds.{calm_there, only_writes_behind, steps, steps_before, steps_behind, to_last_round, written_behind}
use Rattle.script_theorem.proofs.RoundsAmong.{none_of_them_waits}
use Rattle.script_theorem.proofs.WorldDemands.{ends_there, net_there, scripts_stand}
use Rattle.script_theorem.proofs.Writing.{same_net, same_nodes}

-- who is advertised is read off the network and its nodes
same_senders : (a b : World) → a.net ≡ b.net → a.nodes ≡ b.nodes → advertised_senders a ≡ advertised_senders b
same_senders a b net nodes =
    ap (λ (z : Net). advertised_senders (record a { net = z })) net ∙ ap (λ (z : List Facts). advertised_senders (record b { nodes = z })) nodes

module _ (bytes : List ℕ) (d : Draft) (leads : Leads nothing (text_lines bytes) d) (before behind : List Step) (only : OnlyWrite behind)
    (parts : steps_of_run (plan_of d) ≡ before ++ behind) where
  abbrev q : ℕ
  q = (plan_of d).quarter

  abbrev u : World
  u = moment (plan_of d) before

  advertised_there : advertised_senders u ≡ advertised_behind d.events empty
  advertised_there =
      sym (ap advertised_senders (ends_there bytes d leads before behind only parts) ∙ same_senders (run (machine q) behind u) u (same_net q behind u only) (same_nodes q behind u only))
      ∙ (scripts_stand bytes d leads).advertised

  asked_there : demanded_adverts d.names u.net (advertised_senders u) ≡ asked_adverts d
  asked_there =
      ap (λ (net : Net). demanded_adverts d.names net (advertised_senders u)) (net_there bytes d leads before behind only parts)
      ∙ ap (λ (ks : Set sender_keys). demanded_adverts d.names (routing d) ks) advertised_there

pub the_last_adverts_are_demanded : TheLastAdvertsAreDemanded
the_last_adverts_are_demanded bytes d leads free ss still later parts settled writes only =
    let is : IsScript bytes (plan_of d) = record { lines = d; leads = leads; says = refl } in
    let text : List ℕ = text_of (plan_of d).quarter d.names (ss ++ still) (first_world (plan_of d)) in
    let behind : List ℕ = text_of (plan_of d).quarter d.names later (step (plan_of d).quarter Adverts (moment (plan_of d) (ss ++ still))) in
    a_settled_adverts_line_is_demanded (plan_of d) (each_script_is_a_fit_run bytes (plan_of d) is) (each_script_lets_few_send bytes (plan_of d) is) free ss still later parts settled writes
    ∙ ap (λ (zs : List ℕ). text ++ (zs ++ behind)) (asked_there bytes d leads (ss ++ still) (Adverts ∷ later) (refl, only) parts)

pub rounds_bring_the_adverts : RoundsBringTheAdverts
rounds_bring_the_adverts bytes d leads free es fs gs events rounds enough writing none =
    let p = plan_of d in
    let is : IsScript bytes p = record { lines = d; leads = leads; says = refl } in
    let single : (w : World) → steps_of p.quarter ReportsAdverts w ≡ Adverts ∷ [] = λ w. refl in
    let ss = to_last_round p es fs gs ReportsAdverts Adverts single events rounds in
    let still = written_behind p es fs gs ReportsAdverts Adverts single events rounds in
    let later = steps_behind p es fs gs ReportsAdverts Adverts single events rounds in
    let parts = steps p es fs gs ReportsAdverts Adverts single events rounds in
    let only : OnlyWrite later = none_of_them_waits p.quarter gs (step p.quarter Adverts (moment p (ss ++ still))) writing none in
    let many : to_advertise (longest (moment p (ss ++ still)).net) ≤ rounds_among fs =
    subst (λ (net : Net). to_advertise (longest net) ≤ rounds_among fs) (sym (net_there bytes d leads (ss ++ still) (Adverts ∷ later) (refl, only) parts)) (omega (arith, enough)) in
    let calm = calm_there p es fs gs ReportsAdverts Adverts single events rounds to_advertise (each_script_is_a_fit_run bytes p is) many in
    the_last_adverts_are_demanded bytes d leads free ss still later parts calm (only_writes_behind p es fs gs ReportsAdverts Adverts single events rounds) only
    ∙ ap (λ (z : List Step). text_of p.quarter d.names z (first_world p) ++ (asked_adverts d ++ events_text d gs (step p.quarter Adverts (moment p z))))
    (sym (steps_before p es fs gs ReportsAdverts Adverts single events rounds))
