-- The world behind the lines of a script has what they ask, so a report behind enough calm rounds, behind which the script only writes, is
-- the demand of the script.
use Rattle.std.proofs.Common.{◌≡◌, ℕ, ◌+◌, zero, suc, true, List, [], ◌∷◌, ◌++◌, ◌≤◌, Option, Some, None, refl, sym, ap, subst, ◌∙◌, arith}
use Rattle.std.specs.Prelude.{map as each, slice_get}
use Rattle.std.specs.List.{filter}
use Rattle.std.specs.Option.{option_and_then, option_map}
use Rattle.rsvp_base.specs.Members.{In}
use Rattle.rsvp_base.specs.Sets.{Set}
use Rattle.rsvp_base.specs.Table.{get, has, keys}
use Rattle.rsvp_base.specs.TokenBucket.{TokenBucket}
use Rattle.rsvp_base.proofs.Counts.{found_in, in_set_of, set_of_in}
use Rattle.rsvp_base.proofs.Filters.{same_test}
use Rattle.rsvp_base.proofs.Members.{in_filter, in_left, in_right, to_each, to_filter}
use Rattle.rsvp_base.proofs.SetLaws.{same_set}
use Rattle.router_rules.specs.Facts.{Facts, SenderKey, sender_keys}
use Rattle.tree_model.specs.declared.locals.LocalSender.{LocalSender}
use Rattle.tree_model.specs.declared.locals.LocalWant.{LocalWant}
use Rattle.tree_model.specs.Goals.{DemandsFit}
use Rattle.tree_model.specs.Networks.{Net, owner}
use Rattle.tree_model.specs.Ranks.{longest}
use Rattle.tree_model.specs.Wants.{Locals}
use Rattle.calm_rounds.specs.Machine.{run}
use Rattle.network_model.specs.Bounds.{to_settle}
use Rattle.network_model.specs.Events.{Reports, steps_of}
use Rattle.network_model.specs.Locals.{locals_of, sender_at, senders_from, wants_from}
use Rattle.network_model.specs.Runs.{first_world, steps_of_run, text_of}
use Rattle.network_model.specs.Steps.{Report, Step, machine, step}
use Rattle.network_model.specs.Worlds.{World}
use Rattle.network_model.proofs.NodeLocals.{node_wants, sender_of_node, want_of_node}
use Rattle.laws_network.specs.Known.{advertised_at}
use Rattle.laws_network.proofs.Known.{has_some}
use Rattle.laws_network.proofs.Runs.{each_world_of_a_run_is_within_bounds}
use Rattle.network_model.specs.DemandTexts.{demand_text}
use Rattle.script_grammar.specs.Draft.{Draft, nothing, plan_of, routing}
use Rattle.script_grammar.specs.Grammar.{IsScript, Leads}
use Rattle.laws_scripts.proofs.EventLines.{each_script_is_a_fit_run}
use Rattle.laws_scripts.proofs.SenderLines.{each_script_lets_few_send, sending_behind}
use Rattle.script_words.specs.Lines.{text_lines}
use Rattle.settle_adverts.specs.Adverts.{is_advertised, is_among}
use Rattle.settle_adverts.specs.Demanded.{advertised_senders}
use Rattle.script_theorem.specs.Demands.{moment}
use Rattle.script_theorem.proofs.Demands.{a_settled_report_is_the_demand}
use Rattle.laws_network.proofs.Calming.{run_append}
use Rattle.script_theorem.specs.RoundsAmong.{rounds_among}
use Rattle.script_theorem.specs.Standing.{AskTheSame, RoundsBringTheDemand, ScriptsStand, TheLastReportIsTheDemand, events_text, world_behind}
use Rattle.script_theorem.specs.Writing.{OnlyWrite}
use Rattle.script_theorem.proofs.LastRounds.{calm_there, only_writes_behind, steps, steps_before, steps_behind, to_last_round, written_behind}
use Rattle.script_theorem.proofs.RoundsAmong.{none_of_them_waits}
use Rattle.script_theorem.proofs.Writing.{same_net, same_nodes}
use Rattle.script_theorem.proofs.Advertising.{AreAdvertised}
use Rattle.script_theorem.proofs.Keeping.{Stands}
use Rattle.script_theorem.proofs.Lines.{standing_behind}
use Rattle.script_theorem.proofs.Same.{same_fit, same_text}

-- ---- what nodes have, as what the network is asked
sender_in : (j n : ℕ) (fs : List Facts) (f : Facts) (k : SenderKey) (t : TokenBucket) → slice_get fs n ≡ Some f → get f.senders k ≡ Some t → In (sender_at (j + n) k) (senders_from j fs)
sender_in j n [] f k t at there = absurd (cc)
sender_in j zero (g ∷ fs) f k t at there =
    let same : f ≡ g = cc in
    let row = to_each (λ (e : SenderKey × TokenBucket). e.0) (k, t) g.senders.rows (found_in sender_keys g.senders k t (subst (λ (z : Facts). get z.senders k ≡ Some t) same there)) in
    let e : j ≡ j + 0 = omega arith in
    subst (λ (z : ℕ). In (sender_at z k) (senders_from j (g ∷ fs))) e (in_left (sender_at j k) (each (sender_at j) (keys g.senders)) (senders_from (suc j) fs)
    (to_each (sender_at j) k (keys g.senders) row))
sender_in j (suc n) (g ∷ fs) f k t at there =
    let e : suc j + n ≡ j + suc n = omega arith in
    subst (λ (z : ℕ). In (sender_at z k) (senders_from j (g ∷ fs))) e
    (in_right (sender_at (suc j + n) k) (each (sender_at j) (keys g.senders)) (senders_from (suc j) fs) (sender_in (suc j) n fs f k t at there))

asks : (l : Locals) (u : World) → Stands l u → AskTheSame (locals_of u) l
asks l u h = record {
  senders = λ x. (
    λ i. let r = sender_of_node u x i in subst (λ (z : LocalSender). In z l.senders) (sym r.5) (h.sender_told x.node r.0 r.1 r.2 r.3 r.4),
    λ i. let r = h.sender_made x i in let e : 0 + x.node ≡ x.node = omega arith in subst (λ (z : ℕ). In (sender_at z (x.session, x.sender)) (senders_from 0 u.nodes)) e
        (sender_in 0 x.node u.nodes r.0 (x.session, x.sender) r.1 r.2 r.3),
  );
  wants = λ w. (
    λ i. let r = want_of_node u w i in subst (λ (z : LocalWant). In z l.wants) (sym r.5) (h.want_told w.node r.0 r.1 r.2 r.3 r.4),
    λ i. let r = h.want_made w i in subst (λ (z : LocalWant). In z (locals_of u).wants) (sym r.5) (node_wants u w.node r.0 r.1 r.2 r.3 r.4),
  );
}

-- ---- who is advertised at the nodes, as the network tells it
module _ (u : World) (l : Locals) (ks : Set sender_keys) (h : Stands l u) (a : AreAdvertised ks u) (placed : (x : LocalSender) → In x l.senders → owner u.net.ends x.sender.addr ≡ Some x.node) where
  abbrev live_keys : List SenderKey
  live_keys = each (λ x. (x.session, x.sender)) (locals_of u).senders

  told_at : (k : SenderKey) (n : ℕ) (o : Option Facts) → slice_get u.nodes n ≡ o → is_among (option_map (λ f. f.advertised) o) k ≡ true → has ks k ≡ true
  told_at k n None at e = absurd (cc)
  told_at k n (Some f) at e = (a.told n f k at e).1

  told_by : (k : SenderKey) (o : Option ℕ) → is_among (option_and_then (advertised_at u) o) k ≡ true → has ks k ≡ true
  told_by k None e = absurd (cc)
  told_by k (Some n) e = told_at k n (slice_get u.nodes n) refl e

  forth : (k : SenderKey) → has (advertised_senders u) k ≡ true → has ks k ≡ true
  forth k e =
      let i = set_of_in sender_keys (filter (is_advertised u) live_keys) k e in
      told_by k (owner u.net.ends k.1.addr) (in_filter (is_advertised u) k live_keys i).1

  back : (k : SenderKey) → has ks k ≡ true → has (advertised_senders u) k ≡ true
  back k e =
      let r = a.made k e in
      let t = has_some (get r.1.senders k) (a.told r.0 r.1 k r.2 r.3).0 in
      let own : owner u.net.ends k.1.addr ≡ Some r.0 = placed (sender_at r.0 k) (h.sender_told r.0 r.1 k t.0 r.2 t.1) in
      let there : In (sender_at r.0 k) (locals_of u).senders =
      (let z : 0 + r.0 ≡ r.0 = omega arith in subst (λ (n : ℕ). In (sender_at n k) (senders_from 0 u.nodes)) z (sender_in 0 r.0 u.nodes r.1 k t.0 r.2 t.1)) in
      let is : is_advertised u k ≡ true =
      ap (λ (o : Option ℕ). is_among (option_and_then (advertised_at u) o) k) own ∙ ap (λ (o : Option Facts). is_among (option_map (λ f. f.advertised) o) k) r.2 ∙ r.3 in
      in_set_of sender_keys (filter (is_advertised u) live_keys) k
      (to_filter (is_advertised u) k live_keys (to_each (λ (x : LocalSender). (x.session, x.sender)) (sender_at r.0 k) (locals_of u).senders there) is)

  advertised_are : advertised_senders u ≡ ks
  advertised_are = same_set sender_keys (advertised_senders u) ks (λ k. same_test (has (advertised_senders u) k) (has ks k) (forth k) (back k))

pub scripts_stand : ScriptsStand
scripts_stand bytes d leads =
    let h = standing_behind (text_lines bytes) d leads in
    let within = each_world_of_a_run_is_within_bounds (plan_of d) (each_script_is_a_fit_run bytes (plan_of d) (record { lines = d; leads = leads; says = refl })) in
    let sending = sending_behind (text_lines bytes) d leads in
    record {
      net = h.net within;
      locals = asks d.locals (world_behind d) (h.stands within);
      advertised = advertised_are (world_behind d) d.locals _ (h.stands within) (h.advertised within)
          (λ x i. ap (λ (net : Net). owner net.ends x.sender.addr) (h.net within) ∙ sending.placed x i);
    }

-- ---- where only writing is left
module _ (bytes : List ℕ) (d : Draft) (leads : Leads nothing (text_lines bytes) d) (before behind : List Step) (only : OnlyWrite behind)
    (parts : steps_of_run (plan_of d) ≡ before ++ behind) where
  abbrev q : ℕ
  q = (plan_of d).quarter

  abbrev u : World
  u = moment (plan_of d) before

  pub ends_there : world_behind d ≡ run (machine q) behind u
  ends_there = ap (moment (plan_of d)) parts ∙ run_append (machine q) before behind (first_world (plan_of d))

  pub net_there : u.net ≡ routing d
  net_there = sym (ap (λ (w : World). w.net) ends_there ∙ same_net q behind u only) ∙ (scripts_stand bytes d leads).net

  same_locals : locals_of (world_behind d) ≡ locals_of u
  same_locals = ap locals_of ends_there ∙ ap (λ (fs : List Facts). record { senders = senders_from 0 fs; wants = wants_from 0 fs }) (same_nodes q behind u only)

  asked : AskTheSame (locals_of u) d.locals
  asked = subst (λ (l : Locals). AskTheSame l d.locals) same_locals (scripts_stand bytes d leads).locals

  fit_there : DemandsFit (routing d) d.locals → DemandsFit u.net (locals_of u)
  fit_there fit = subst (λ (net : Net). DemandsFit net (locals_of u)) (sym net_there) (same_fit (routing d) (locals_of u) d.locals asked fit)

  text_there : (e : Option ℕ) → demand_text d.names u.net (locals_of u) e ≡ demand_text d.names (routing d) d.locals e
  text_there e = ap (λ (net : Net). demand_text d.names net (locals_of u) e) net_there ∙ same_text (routing d) (locals_of u) d.locals asked d.names e

-- ---- the last report
pub the_last_report_is_the_demand : TheLastReportIsTheDemand
the_last_report_is_the_demand bytes d leads free ss still later e parts settled writes only fit =
    let is : IsScript bytes (plan_of d) = record { lines = d; leads = leads; says = refl } in
    let text : List ℕ = text_of (plan_of d).quarter d.names (ss ++ still) (first_world (plan_of d)) in
    let behind : List ℕ = text_of (plan_of d).quarter d.names later (step (plan_of d).quarter (Report e) (moment (plan_of d) (ss ++ still))) in
    a_settled_report_is_the_demand (plan_of d) (each_script_is_a_fit_run bytes (plan_of d) is) (each_script_lets_few_send bytes (plan_of d) is) free ss still e later parts settled writes
    (fit_there bytes d leads (ss ++ still) (Report e ∷ later) (refl, only) parts fit)
    ∙ ap (λ (zs : List ℕ). text ++ (zs ++ behind)) (text_there bytes d leads (ss ++ still) (Report e ∷ later) (refl, only) parts e)

pub rounds_bring_the_demand : RoundsBringTheDemand
rounds_bring_the_demand bytes d leads free es fs gs e events rounds enough writing none fit =
    let p = plan_of d in
    let is : IsScript bytes p = record { lines = d; leads = leads; says = refl } in
    let single : (w : World) → steps_of p.quarter (Reports e) w ≡ Report e ∷ [] = λ w. refl in
    let ss = to_last_round p es fs gs (Reports e) (Report e) single events rounds in
    let still = written_behind p es fs gs (Reports e) (Report e) single events rounds in
    let later = steps_behind p es fs gs (Reports e) (Report e) single events rounds in
    let parts = steps p es fs gs (Reports e) (Report e) single events rounds in
    let only : OnlyWrite later = none_of_them_waits p.quarter gs (step p.quarter (Report e) (moment p (ss ++ still))) writing none in
    let many : to_settle (longest (moment p (ss ++ still)).net) ≤ rounds_among fs =
    subst (λ (net : Net). to_settle (longest net) ≤ rounds_among fs) (sym (net_there bytes d leads (ss ++ still) (Report e ∷ later) (refl, only) parts)) (omega (arith, enough)) in
    let calm = calm_there p es fs gs (Reports e) (Report e) single events rounds to_settle (each_script_is_a_fit_run bytes p is) many in
    the_last_report_is_the_demand bytes d leads free ss still later e parts calm (only_writes_behind p es fs gs (Reports e) (Report e) single events rounds) only fit
    ∙ ap (λ (z : List Step). text_of p.quarter d.names z (first_world p) ++ (demand_text d.names (routing d) d.locals e ++ events_text d gs (step p.quarter (Report e) (moment p z))))
    (sym (steps_before p es fs gs (Reports e) (Report e) single events rounds))
