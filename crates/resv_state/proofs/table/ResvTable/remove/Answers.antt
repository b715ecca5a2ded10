use Rattle.std.proofs.Common.{◌≡◌, true, false, take, get_or, sym, ap, subst, ◌∙◌, arith}
use Rattle.rsvp_base.specs.Table.{get, changed}
use Rattle.rsvp_base.specs.declared.session.Sender.{Sender}
use Rattle.rsvp_base.specs.Styles.{unit_of}
use Rattle.resv_state.specs.Leaving.{lessened, key_has_one}
use Rattle.std.proofs.lemmas.List.{take_more}
use Rattle.resv_state.specs.Resvs.{ResvMap, AreOfStyle}
use Rattle.resv_state.proofs.Tears.{Torn, torn_more, torn_end}
use Rattle.resv_state.proofs.table.ResvTable.remove.Goals as goal
use Rattle.resv_state.proofs.table.ResvTable.remove.Goals.{then-leave, else-leave}

abbrev blank : Sender
blank = record { addr = record { 0 = 0 }; port = 0 }

pub loop-name-preserved : goal.loop-name-preserved
loop-name-preserved g c =
    let st = g.S.Style.kind_is in
    let xs = c.as_slice-name-items.result.now in
    let x = get_or xs c.loop-name.name-index blank in
    let now = c.loop-name.self in
    let unit : c.unit_of.result ≡ unit_of st x = c.unit_of.ensures ∙ g.met.S.Style.unit_by_kind x in
    let so : c.leave.result ≡ true → c.if-leave.had ≡ true = λ e. elim c.if-leave.branch [
      | then-leave w ↦ w.had-is
      | else-leave w ↦ let z : true ≡ false = sym e ∙ w.if-leave.false in absurd (cc)
    ] in
    let not_so : c.leave.result ≡ false → c.if-leave.had ≡ c.loop-name.had = λ e. elim c.if-leave.branch [
      | then-leave w ↦ let z : true ≡ false = sym w.if-leave.true ∙ e in absurd (cc)
      | else-leave w ↦ w.had-is
    ] in
    subst (λ zs. Torn st c.args.session (c.args.iface, c.args.next) c.args.gone.now c.args.self.now c.leave.new.self c.if-leave.had zs)
    (sym (take_more xs c.loop-name.name-index blank c.loop-name-test.true))
    (torn_more st c.args.session (c.args.iface, c.args.next) c.args.gone.now c.args.self.now now c.leave.new.self c.loop-name.had c.leave.result c.if-leave.had
    (take c.loop-name.name-index xs) x c.loop-name.invariant
    (c.leave.ensures.facts ∙ ap (λ u. record now { facts = changed (lessened (c.args.session, ((c.args.iface, c.args.next), u)) c.args.gone.now) now.facts }) unit)
    (c.leave.ensures.had ∙ ap (λ u. key_has_one c.args.gone.now (get now.facts (c.args.session, ((c.args.iface, c.args.next), u)))) unit)
    c.leave.ensures.unchanged so not_so)

pub returns-clause-facts : goal.returns-clause-facts
returns-clause-facts g c =
    (torn_end g.S.Style.kind_is c.args.session (c.args.iface, c.args.next) c.args.gone.now c.args.self.now c.loop-name.self c.loop-name.had c.loop-name.name-index c.as_slice-name-items.result.now
    (subst (λ (m : ResvMap). AreOfStyle g.S.Style.kind_is m.facts) c.self.view_is c.self.inside.style) (omega arith) c.as_slice-name-items.ensures.senders c.loop-name.invariant).0

pub returns-clause-had : goal.returns-clause-had
returns-clause-had g c =
    (torn_end g.S.Style.kind_is c.args.session (c.args.iface, c.args.next) c.args.gone.now c.args.self.now c.loop-name.self c.loop-name.had c.loop-name.name-index c.as_slice-name-items.result.now
    (subst (λ (m : ResvMap). AreOfStyle g.S.Style.kind_is m.facts) c.self.view_is c.self.inside.style) (omega arith) c.as_slice-name-items.ensures.senders c.loop-name.invariant).1
