use Rattle.std.proofs.Common.{fold, sym, ap, ◌∙◌, refl}
use Rattle.rsvp_messages.specs.declared.message.Message.TheVariants as message
use Rattle.router_rules.specs.Inputs.{Came, Spelt}
use Rattle.router_rules.specs.NodeConfig.{own}
use Rattle.router_rules.specs.Rule.{facts_after, heard_after, sent_after}
use Rattle.router_rules.specs.declared.answers.Heard.TheVariants as heard
use Rattle.router_rules.specs.declared.answers.Why.TheVariants as why
use Rattle.router_state.specs.State.{State, facts_at, facts_of}
use Rattle.router_state.specs.Whole.{state_of}
use Rattle.router_arrivals.proofs.Ruled.{heard_is, refused_facts, refused_sent}
use Rattle.router_core.proofs.Mine.{at_own, at_path, at_tear, not_mine}
use Rattle.router_core.proofs.node.Node.arrive.Goals as goal

pub returns-then-not-is_mine-clause-facts : goal.returns-then-not-is_mine-clause-facts
returns-then-not-is_mine-clause-facts g c = λ clock.
    let n = state_of c.self.inside.tables c.self.inside.said in
    ap (facts_at clock) (sym c.self.view_is) ∙ refused_facts n c.args.self.now c.self.view_is (λ z. Came c.args.iface c.args.dst (Spelt c.args.message.now)) refl
    (heard.Dropped why.NotMine) clock c.self.inside.settled (not_mine n clock c.args.iface c.args.dst c.args.message.now (sym c.is_mine.ensures ∙ c.if-not-is_mine.true))

pub returns-then-not-is_mine-clause-heard : goal.returns-then-not-is_mine-clause-heard
returns-then-not-is_mine-clause-heard g c = λ clock.
    let n = state_of c.self.inside.tables c.self.inside.said in
    heard_is n clock c.args.iface c.args.dst (Spelt c.args.message.now) (facts_of clock n) (heard.Dropped why.NotMine)
    (not_mine n clock c.args.iface c.args.dst c.args.message.now (sym c.is_mine.ensures ∙ c.if-not-is_mine.true))
    ∙ ap (λ (z : State). heard_after z.place clock c.args.iface c.args.dst (Spelt c.args.message.now) (facts_at clock z)) c.self.view_is

pub returns-then-not-is_mine-clause-sent : goal.returns-then-not-is_mine-clause-sent
returns-then-not-is_mine-clause-sent g c = λ clock.
    let n = state_of c.self.inside.tables c.self.inside.said in
    refused_sent n c.args.self.now c.self.view_is (λ z. Came c.args.iface c.args.dst (Spelt c.args.message.now)) refl (heard.Dropped why.NotMine) clock c.self.inside.settled
    (not_mine n clock c.args.iface c.args.dst c.args.message.now (sym c.is_mine.ensures ∙ c.if-not-is_mine.true)) g.O.Outbox.posted c.args.out.now

pub resv-requires : goal.resv-requires
resv-requires g c =
    c.requires

pub returns-in-Path-clause-facts : goal.returns-in-Path-clause-facts
returns-in-Path-clause-facts g c = λ clock.
    let n = state_of c.self.inside.tables c.self.inside.said in
    let s = c.args.self.now in
    let mine = sym c.is_mine.ensures ∙ c.if-not-is_mine.false in
    let is = c.in-Path.is in
    let d = at_path n.place c.args.iface c.args.dst c.args.message.now mine c.in-Path.path is in
    c.path.ensures.facts clock ∙ sym (λ i. facts_after s.place s.place clock (Came c.args.iface (d i) (Spelt (is i))) (facts_at clock s))

pub returns-in-Path-clause-heard : goal.returns-in-Path-clause-heard
returns-in-Path-clause-heard g c = λ clock.
    let n = state_of c.self.inside.tables c.self.inside.said in
    let s = c.args.self.now in
    let mine = sym c.is_mine.ensures ∙ c.if-not-is_mine.false in
    let is = c.in-Path.is in
    let d = at_path n.place c.args.iface c.args.dst c.args.message.now mine c.in-Path.path is in
    c.path.ensures.heard clock ∙ sym (λ i. heard_after s.place clock c.args.iface (d i) (Spelt (is i)) (facts_at clock s))

pub returns-in-Path-clause-sent : goal.returns-in-Path-clause-sent
returns-in-Path-clause-sent g c = λ clock.
    let n = state_of c.self.inside.tables c.self.inside.said in
    let s = c.args.self.now in
    let mine = sym c.is_mine.ensures ∙ c.if-not-is_mine.false in
    let is = c.in-Path.is in
    let d = at_path n.place c.args.iface c.args.dst c.args.message.now mine c.in-Path.path is in
    c.path.ensures.sent clock ∙ sym (λ i. fold g.O.Outbox.posted c.args.out.now (sent_after s.place s.place clock (Came c.args.iface (d i) (Spelt (is i))) (facts_at clock s)))

pub returns-in-Resv-clause-facts : goal.returns-in-Resv-clause-facts
returns-in-Resv-clause-facts g c = λ clock.
    let n = state_of c.self.inside.tables c.self.inside.said in
    let s = c.args.self.now in
    let mine = sym c.is_mine.ensures ∙ c.if-not-is_mine.false in
    let is = c.in-Resv.is in
    let d = at_own n.place c.args.iface c.args.dst c.args.message.now mine (message.Resv c.in-Resv.resv) is refl ∙ ap (λ (z : State). own z.place c.args.iface) c.self.view_is in
    c.resv.ensures.facts clock ∙ sym (λ i. facts_after s.place s.place clock (Came c.args.iface (d i) (Spelt (is i))) (facts_at clock s))

pub returns-in-Resv-clause-heard : goal.returns-in-Resv-clause-heard
returns-in-Resv-clause-heard g c = λ clock.
    let n = state_of c.self.inside.tables c.self.inside.said in
    let s = c.args.self.now in
    let mine = sym c.is_mine.ensures ∙ c.if-not-is_mine.false in
    let is = c.in-Resv.is in
    let d = at_own n.place c.args.iface c.args.dst c.args.message.now mine (message.Resv c.in-Resv.resv) is refl ∙ ap (λ (z : State). own z.place c.args.iface) c.self.view_is in
    c.resv.ensures.heard clock ∙ sym (λ i. heard_after s.place clock c.args.iface (d i) (Spelt (is i)) (facts_at clock s))

pub returns-in-Resv-clause-sent : goal.returns-in-Resv-clause-sent
returns-in-Resv-clause-sent g c = λ clock.
    let n = state_of c.self.inside.tables c.self.inside.said in
    let s = c.args.self.now in
    let mine = sym c.is_mine.ensures ∙ c.if-not-is_mine.false in
    let is = c.in-Resv.is in
    let d = at_own n.place c.args.iface c.args.dst c.args.message.now mine (message.Resv c.in-Resv.resv) is refl ∙ ap (λ (z : State). own z.place c.args.iface) c.self.view_is in
    c.resv.ensures.sent clock ∙ sym (λ i. fold g.O.Outbox.posted c.args.out.now (sent_after s.place s.place clock (Came c.args.iface (d i) (Spelt (is i))) (facts_at clock s)))

pub returns-in-PathErr-clause-facts : goal.returns-in-PathErr-clause-facts
returns-in-PathErr-clause-facts g c = λ clock.
    let n = state_of c.self.inside.tables c.self.inside.said in
    let s = c.args.self.now in
    let mine = sym c.is_mine.ensures ∙ c.if-not-is_mine.false in
    let is = c.in-PathErr.is in
    let d = at_own n.place c.args.iface c.args.dst c.args.message.now mine (message.PathErr c.in-PathErr.error) is refl ∙ ap (λ (z : State). own z.place c.args.iface) c.self.view_is in
    c.path_err.ensures.facts clock ∙ sym (λ i. facts_after s.place s.place clock (Came c.args.iface (d i) (Spelt (is i))) (facts_at clock s))

pub returns-in-PathErr-clause-heard : goal.returns-in-PathErr-clause-heard
returns-in-PathErr-clause-heard g c = λ clock.
    let n = state_of c.self.inside.tables c.self.inside.said in
    let s = c.args.self.now in
    let mine = sym c.is_mine.ensures ∙ c.if-not-is_mine.false in
    let is = c.in-PathErr.is in
    let d = at_own n.place c.args.iface c.args.dst c.args.message.now mine (message.PathErr c.in-PathErr.error) is refl ∙ ap (λ (z : State). own z.place c.args.iface) c.self.view_is in
    c.path_err.ensures.heard clock ∙ sym (λ i. heard_after s.place clock c.args.iface (d i) (Spelt (is i)) (facts_at clock s))

pub returns-in-PathErr-clause-sent : goal.returns-in-PathErr-clause-sent
returns-in-PathErr-clause-sent g c = λ clock.
    let n = state_of c.self.inside.tables c.self.inside.said in
    let s = c.args.self.now in
    let mine = sym c.is_mine.ensures ∙ c.if-not-is_mine.false in
    let is = c.in-PathErr.is in
    let d = at_own n.place c.args.iface c.args.dst c.args.message.now mine (message.PathErr c.in-PathErr.error) is refl ∙ ap (λ (z : State). own z.place c.args.iface) c.self.view_is in
    c.path_err.ensures.sent clock ∙ sym (λ i. fold g.O.Outbox.posted c.args.out.now (sent_after s.place s.place clock (Came c.args.iface (d i) (Spelt (is i))) (facts_at clock s)))

pub returns-in-ResvErr-clause-facts : goal.returns-in-ResvErr-clause-facts
returns-in-ResvErr-clause-facts g c = λ clock.
    let n = state_of c.self.inside.tables c.self.inside.said in
    let s = c.args.self.now in
    let mine = sym c.is_mine.ensures ∙ c.if-not-is_mine.false in
    let is = c.in-ResvErr.is in
    let d = at_own n.place c.args.iface c.args.dst c.args.message.now mine (message.ResvErr c.in-ResvErr.error) is refl ∙ ap (λ (z : State). own z.place c.args.iface) c.self.view_is in
    c.resv_err.ensures.facts clock ∙ sym (λ i. facts_after s.place s.place clock (Came c.args.iface (d i) (Spelt (is i))) (facts_at clock s))

pub returns-in-ResvErr-clause-heard : goal.returns-in-ResvErr-clause-heard
returns-in-ResvErr-clause-heard g c = λ clock.
    let n = state_of c.self.inside.tables c.self.inside.said in
    let s = c.args.self.now in
    let mine = sym c.is_mine.ensures ∙ c.if-not-is_mine.false in
    let is = c.in-ResvErr.is in
    let d = at_own n.place c.args.iface c.args.dst c.args.message.now mine (message.ResvErr c.in-ResvErr.error) is refl ∙ ap (λ (z : State). own z.place c.args.iface) c.self.view_is in
    c.resv_err.ensures.heard clock ∙ sym (λ i. heard_after s.place clock c.args.iface (d i) (Spelt (is i)) (facts_at clock s))

pub returns-in-ResvErr-clause-sent : goal.returns-in-ResvErr-clause-sent
returns-in-ResvErr-clause-sent g c = λ clock.
    let n = state_of c.self.inside.tables c.self.inside.said in
    let s = c.args.self.now in
    let mine = sym c.is_mine.ensures ∙ c.if-not-is_mine.false in
    let is = c.in-ResvErr.is in
    let d = at_own n.place c.args.iface c.args.dst c.args.message.now mine (message.ResvErr c.in-ResvErr.error) is refl ∙ ap (λ (z : State). own z.place c.args.iface) c.self.view_is in
    c.resv_err.ensures.sent clock ∙ sym (λ i. fold g.O.Outbox.posted c.args.out.now (sent_after s.place s.place clock (Came c.args.iface (d i) (Spelt (is i))) (facts_at clock s)))

pub returns-in-PathTear-clause-facts : goal.returns-in-PathTear-clause-facts
returns-in-PathTear-clause-facts g c = λ clock.
    let n = state_of c.self.inside.tables c.self.inside.said in
    let s = c.args.self.now in
    let mine = sym c.is_mine.ensures ∙ c.if-not-is_mine.false in
    let is = c.in-PathTear.is in
    let d = at_tear n.place c.args.iface c.args.dst c.args.message.now mine c.in-PathTear.tear is in
    c.path_tear.ensures.facts clock ∙ sym (λ i. facts_after s.place s.place clock (Came c.args.iface (d i) (Spelt (is i))) (facts_at clock s))

pub returns-in-PathTear-clause-heard : goal.returns-in-PathTear-clause-heard
returns-in-PathTear-clause-heard g c = λ clock.
    let n = state_of c.self.inside.tables c.self.inside.said in
    let s = c.args.self.now in
    let mine = sym c.is_mine.ensures ∙ c.if-not-is_mine.false in
    let is = c.in-PathTear.is in
    let d = at_tear n.place c.args.iface c.args.dst c.args.message.now mine c.in-PathTear.tear is in
    c.path_tear.ensures.heard clock ∙ sym (λ i. heard_after s.place clock c.args.iface (d i) (Spelt (is i)) (facts_at clock s))

pub returns-in-PathTear-clause-sent : goal.returns-in-PathTear-clause-sent
returns-in-PathTear-clause-sent g c = λ clock.
    let n = state_of c.self.inside.tables c.self.inside.said in
    let s = c.args.self.now in
    let mine = sym c.is_mine.ensures ∙ c.if-not-is_mine.false in
    let is = c.in-PathTear.is in
    let d = at_tear n.place c.args.iface c.args.dst c.args.message.now mine c.in-PathTear.tear is in
    c.path_tear.ensures.sent clock ∙ sym (λ i. fold g.O.Outbox.posted c.args.out.now (sent_after s.place s.place clock (Came c.args.iface (d i) (Spelt (is i))) (facts_at clock s)))

pub returns-in-ResvTear-clause-facts : goal.returns-in-ResvTear-clause-facts
returns-in-ResvTear-clause-facts g c = λ clock.
    let n = state_of c.self.inside.tables c.self.inside.said in
    let s = c.args.self.now in
    let mine = sym c.is_mine.ensures ∙ c.if-not-is_mine.false in
    let is = c.in-ResvTear.is in
    let d = at_own n.place c.args.iface c.args.dst c.args.message.now mine (message.ResvTear c.in-ResvTear.tear) is refl ∙ ap (λ (z : State). own z.place c.args.iface) c.self.view_is in
    c.resv_tear.ensures.facts clock ∙ sym (λ i. facts_after s.place s.place clock (Came c.args.iface (d i) (Spelt (is i))) (facts_at clock s))

pub returns-in-ResvTear-clause-heard : goal.returns-in-ResvTear-clause-heard
returns-in-ResvTear-clause-heard g c = λ clock.
    let n = state_of c.self.inside.tables c.self.inside.said in
    let s = c.args.self.now in
    let mine = sym c.is_mine.ensures ∙ c.if-not-is_mine.false in
    let is = c.in-ResvTear.is in
    let d = at_own n.place c.args.iface c.args.dst c.args.message.now mine (message.ResvTear c.in-ResvTear.tear) is refl ∙ ap (λ (z : State). own z.place c.args.iface) c.self.view_is in
    c.resv_tear.ensures.heard clock ∙ sym (λ i. heard_after s.place clock c.args.iface (d i) (Spelt (is i)) (facts_at clock s))

pub returns-in-ResvTear-clause-sent : goal.returns-in-ResvTear-clause-sent
returns-in-ResvTear-clause-sent g c = λ clock.
    let n = state_of c.self.inside.tables c.self.inside.said in
    let s = c.args.self.now in
    let mine = sym c.is_mine.ensures ∙ c.if-not-is_mine.false in
    let is = c.in-ResvTear.is in
    let d = at_own n.place c.args.iface c.args.dst c.args.message.now mine (message.ResvTear c.in-ResvTear.tear) is refl ∙ ap (λ (z : State). own z.place c.args.iface) c.self.view_is in
    c.resv_tear.ensures.sent clock ∙ sym (λ i. fold g.O.Outbox.posted c.args.out.now (sent_after s.place s.place clock (Came c.args.iface (d i) (Spelt (is i))) (facts_at clock s)))

pub returns-in-ResvConf-clause-facts : goal.returns-in-ResvConf-clause-facts
returns-in-ResvConf-clause-facts g c = λ clock.
    let n = state_of c.self.inside.tables c.self.inside.said in
    let s = c.args.self.now in
    let mine = sym c.is_mine.ensures ∙ c.if-not-is_mine.false in
    let is = c.in-ResvConf.is in
    let d = at_own n.place c.args.iface c.args.dst c.args.message.now mine (message.ResvConf c.in-ResvConf.conf) is refl ∙ ap (λ (z : State). own z.place c.args.iface) c.self.view_is in
    c.resv_conf.ensures.facts clock ∙ sym (λ i. facts_after s.place s.place clock (Came c.args.iface (d i) (Spelt (is i))) (facts_at clock s))

pub returns-in-ResvConf-clause-heard : goal.returns-in-ResvConf-clause-heard
returns-in-ResvConf-clause-heard g c = λ clock.
    let n = state_of c.self.inside.tables c.self.inside.said in
    let s = c.args.self.now in
    let mine = sym c.is_mine.ensures ∙ c.if-not-is_mine.false in
    let is = c.in-ResvConf.is in
    let d = at_own n.place c.args.iface c.args.dst c.args.message.now mine (message.ResvConf c.in-ResvConf.conf) is refl ∙ ap (λ (z : State). own z.place c.args.iface) c.self.view_is in
    c.resv_conf.ensures.heard clock ∙ sym (λ i. heard_after s.place clock c.args.iface (d i) (Spelt (is i)) (facts_at clock s))

pub returns-in-ResvConf-clause-sent : goal.returns-in-ResvConf-clause-sent
returns-in-ResvConf-clause-sent g c = λ clock.
    let n = state_of c.self.inside.tables c.self.inside.said in
    let s = c.args.self.now in
    let mine = sym c.is_mine.ensures ∙ c.if-not-is_mine.false in
    let is = c.in-ResvConf.is in
    let d = at_own n.place c.args.iface c.args.dst c.args.message.now mine (message.ResvConf c.in-ResvConf.conf) is refl ∙ ap (λ (z : State). own z.place c.args.iface) c.self.view_is in
    c.resv_conf.ensures.sent clock ∙ sym (λ i. fold g.O.Outbox.posted c.args.out.now (sent_after s.place s.place clock (Came c.args.iface (d i) (Spelt (is i))) (facts_at clock s)))
