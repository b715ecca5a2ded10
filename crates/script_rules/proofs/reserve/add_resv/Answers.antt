use Rattle.std.proofs.Common.{rules, ◌≡◌, ◌<◌, ◌≤◌, ℕ, List, None, IfErr, OnOk, length, refl, sym, ap, subst, ◌∙◌, arith}
use Rattle.std.specs.Prelude.{◌/◌}
use Rattle.rsvp_base.specs.Orders.{Names, names_from}
use Rattle.rsvp_base.specs.Table.{keys, size}
use Rattle.rsvp_base.specs.TokenBucket.{IsSound}
use Rattle.rsvp_base.specs.declared.session.Sender.{Sender}
use Rattle.resv_state.specs.declared.fact.ResvFact.{ResvFact}
use Rattle.router_rules.specs.Inputs.{Stale, StaleResv}
use Rattle.rsvp_base.specs.Styles.{unit_of_first}
use Rattle.tree_model.specs.Networks.{iface_of, node_of}
use Rattle.style_rules.specs.Parts.{IsOfStyle}
use Rattle.std.specs.List.{All}
use Rattle.script_words.specs.Sessions.{IsSender}
use Rattle.script_words.specs.declared.raw.SenderWord.{SenderWord}
use Rattle.script_grammar.specs.Draft.{end_number, lifetime_of_period, period_of}
use Rattle.script_grammar.specs.Rules.{IsEnd, IsListOfStyle, sender_list, stale_node}
use Rattle.script_grammar.specs.Values.{iface_at, senders_value}
use Rattle.script_rules.specs.Said.{draft_of}
use Rattle.script_rules.specs.LeftRefusals.{IsLeft, IsNotLeft}
use Rattle.script_grammar.specs.Adds.{with_stale}
use Rattle.script_rules.proofs.FitFacts.{fit_resv, sound}
use Rattle.script_rules.proofs.ResvForms.{of_style}
use Rattle.script_rules.proofs.ResvRules.{IsAsked, resv_kept, resv_refused}
use Rattle.script_rules.proofs.reserve.add_resv.Goals as goal

pub senders_of-requires : goal.senders_of-requires
senders_of-requires c = subst (λ (ws : List SenderWord). All IsSender ws) (sym c.as_slice.ensures) (c.in-Some.ensures.some.0 refl).senders

pub leave-requires-clause-fit : goal.leave-requires-clause-fit
leave-requires-clause-fit c =
    let d = draft_of c.args.state.now in
    let l = c.args.line in
    let all : c.as_slice-3.result.now ≡ sender_list l.senders = search rules in
    let told = c.in-Some-names_of.ensures.some.0 refl in
    let names : c.in-Some-names_of.senders ≡ senders_value l.senders = c.in-Some-names_of.ensures.value ∙ ap names_from all in
    let few : size (senders_value l.senders) ≤ 16 = subst (λ (xs : List Sender). size (names_from xs) ≤ 16) all told.0 in
    let one : IsListOfStyle l.style (sender_list l.senders) = subst (IsListOfStyle l.style) all told.1 in
    let range = c.in-Some.ensures.some.0 refl in
    let v = c.in-Some.ensures.value in
    let flow = c.in-Some.flow in
    let f : ResvFact = record {
      session = c.in-Some.session;
      iface = c.iface_of.result;
      next = c.in-Some.next;
      part = record
          { senders = c.in-Some-names_of.senders; flow = flow };
      confirm = None;
    } in
    let style : IsOfStyle l.style f.part = subst (λ (ns : Names). IsOfStyle l.style (record { senders = ns; flow = flow })) (sym names) (of_style l.style l.senders flow c.requires one) in
    let within = c.in-Some-find.ensures.within in
    let ends = c.args.state.now.ends_there in
    let there : c.in-Some-find.end < length d.net.ends = omega (arith, within, ends) in
    let fit = fit_resv (period_of d / 4) d.net c.node_of-node.result c.in-Some-find.end there (sym c.node_of-node.ensures.node) l.style f c.in-Some.left c.iface_of.ensures style
    (subst (λ (ns : Names). size ns ≤ 16) (sym names) few)
    (subst IsSound (sym v.2) (sound l.flow range.flow)) c.args.state.now.long (subst (λ (m : ℕ). 1 ≤ m) (sym v.3) range.left.some)
    (subst (λ (m : ℕ). m ≤ lifetime_of_period (period_of d)) (sym v.3) range.left.few) in
    search (rules, fit)

pub returns-clause-ok : goal.returns-clause-ok
returns-clause-ok c =
    let d = draft_of c.args.state.now in
    let l = c.args.line in
    let all : c.as_slice-3.result.now ≡ sender_list l.senders = search rules in
    let told = c.in-Some-names_of.ensures.some.0 refl in
    let names : c.in-Some-names_of.senders ≡ senders_value l.senders = c.in-Some-names_of.ensures.value ∙ ap names_from all in
    let few : size (senders_value l.senders) ≤ 16 = subst (λ (xs : List Sender). size (names_from xs) ≤ 16) all told.0 in
    let one : IsListOfStyle l.style (sender_list l.senders) = subst (IsListOfStyle l.style) all told.1 in
    let range = c.in-Some.ensures.some.0 refl in
    let v = c.in-Some.ensures.value in
    let end : c.in-Some-find.end ≡ end_number d l.end = search rules in
    let at : c.node_of-node.result ≡ stale_node d l = c.node_of-node.ensures.node ∙ ap (node_of d.net.ends) end in
    let iface : c.iface_of.result ≡ iface_at d l.end = c.iface_of.ensures ∙ ap (iface_of d.net.ends) end in
    let known : IsEnd d l.end = search rules in
    let asked : IsAsked d l = record {
      in_time = c.is_before_events.ensures.0 c.if-not-is_before_events.false;
      in_range = range;
      known = known;
      new = c.is_new.ensures.0 c.if-not-is_new.false;
      few = few;
      one = one;
    } in
    let given = c.in-Some in
    let s : Stale = StaleResv l.style (given.session, ((c.iface_of.result, given.next), unit_of_first l.style (keys c.in-Some-names_of.senders)))
    (record { part = record { senders = c.in-Some-names_of.senders; flow = given.flow }; confirm = None; dies = given.left }) in
    let left : OnOk c.leave.result (IsLeft d c.node_of-node.result given.session s) = search rules in
    let kept : OnOk c.leave.result (draft_of c.leave.new.state ≡ with_stale d c.node_of-node.result given.session s) = search rules in
    resv_kept d l asked c.node_of-node.result given.session s at v.0 (λ i. StaleResv l.style (v.0 i, ((iface i, v.1 i), unit_of_first l.style (keys (names i))))
    (record { part = record { senders = names i; flow = v.2 i }; confirm = None; dies = v.3 i }))
    c.leave.result (draft_of c.leave.new.state) left kept

pub returns-clause-refused : goal.returns-clause-refused
returns-clause-refused c =
    let d = draft_of c.args.state.now in
    let l = c.args.line in
    let all : c.as_slice-3.result.now ≡ sender_list l.senders = search rules in
    let told = c.in-Some-names_of.ensures.some.0 refl in
    let names : c.in-Some-names_of.senders ≡ senders_value l.senders = c.in-Some-names_of.ensures.value ∙ ap names_from all in
    let few : size (senders_value l.senders) ≤ 16 = subst (λ (xs : List Sender). size (names_from xs) ≤ 16) all told.0 in
    let one : IsListOfStyle l.style (sender_list l.senders) = subst (IsListOfStyle l.style) all told.1 in
    let range = c.in-Some.ensures.some.0 refl in
    let v = c.in-Some.ensures.value in
    let end : c.in-Some-find.end ≡ end_number d l.end = search rules in
    let at : c.node_of-node.result ≡ stale_node d l = c.node_of-node.ensures.node ∙ ap (node_of d.net.ends) end in
    let iface : c.iface_of.result ≡ iface_at d l.end = c.iface_of.ensures ∙ ap (iface_of d.net.ends) end in
    let known : IsEnd d l.end = search rules in
    let asked : IsAsked d l = record {
      in_time = c.is_before_events.ensures.0 c.if-not-is_before_events.false;
      in_range = range;
      known = known;
      new = c.is_new.ensures.0 c.if-not-is_new.false;
      few = few;
      one = one;
    } in
    let given = c.in-Some in
    let s : Stale = StaleResv l.style (given.session, ((c.iface_of.result, given.next), unit_of_first l.style (keys c.in-Some-names_of.senders)))
    (record { part = record { senders = c.in-Some-names_of.senders; flow = given.flow }; confirm = None; dies = given.left }) in
    let out : IfErr c.leave.result (IsNotLeft d c.node_of-node.result given.session s) = search rules in
    resv_refused d l asked c.node_of-node.result given.session s at v.0 (λ i. StaleResv l.style (v.0 i, ((iface i, v.1 i), unit_of_first l.style (keys (names i))))
    (record { part = record { senders = names i; flow = v.2 i }; confirm = None; dies = v.3 i }))
    c.leave.result out
