use Rattle.std.proofs.Common.{◌≡◌, cond, sym, ap, refl, ◌∙◌}
use Rattle.local_state.specs.Rows.{Announced}
use Rattle.rsvp_base.specs.Table.{empty, without}
use Rattle.router_rules.specs.Facts.{SenderKey, sender_keys}
use Rattle.router_state.specs.Changes.{senders_without}
use Rattle.router_state.specs.State.{State}
use Rattle.router_state.specs.Whole.{state_of}
use Rattle.router_aging.specs.Steps.{names_gone}
use Rattle.router_arrivals.specs.Coming.{stopped}
use Rattle.router_arrivals.proofs.Keeping.{without_less}
use Rattle.router_arrivals.proofs.Going.{stopped_is}
use Rattle.router_arrivals.proofs.withdrawal.drop_sender.Goals as goal

abbrev gone : Announced → SenderKey → Announced
gone s k = record { tspecs = without s.tspecs k; advertised = without s.advertised k }

pub returns-then-not-remove-clause-there : goal.returns-then-not-remove-clause-there
returns-then-not-remove-clause-there c = sym c.if-not-remove.true ∙ c.remove.ensures.was

pub returns-then-not-remove-clause-state : goal.returns-then-not-remove-clause-state
returns-then-not-remove-clause-state c =
    let s = c.args.tables.now.senders in
    let same = c.remove.ensures.gone ∙ ap (λ b. cond b (gone s (c.args.session, c.args.sender)) s) c.if-not-remove.true in
    λ i. record (state_of c.args.tables.now empty) { senders = (same i).tspecs; advertised = (same i).advertised }

pub returns-then-not-remove-clause-sound : goal.returns-then-not-remove-clause-sound
returns-then-not-remove-clause-sound c =
    let s = c.requires.sound in
    record { pulled = record { paths = s.pulled.paths; wild = s.pulled.wild; fixed = s.pulled.fixed; shared = s.pulled.shared }; booked = s.booked; few = s.few }

pub let_go-requires : goal.let_go-requires
let_go-requires c =
    let s = c.requires.sound in
    record { pulled = record { paths = s.pulled.paths; wild = s.pulled.wild; fixed = s.pulled.fixed; shared = s.pulled.shared }; booked = s.booked; few = s.few }

pub returns-clause-there : goal.returns-clause-there
returns-clause-there c = sym c.if-not-remove.false ∙ c.remove.ensures.was

pub returns-clause-state : goal.returns-clause-state
returns-clause-state c =
    let n = state_of c.args.tables.now empty in
    let k : SenderKey = (c.args.session, c.args.sender) in
    let s = c.args.tables.now.senders in
    let went = c.remove.ensures.gone ∙ ap (λ b. cond b (gone s k) s) c.if-not-remove.false in
    let torn : state_of (record c.args.tables.now { senders = c.remove.new.self }) empty ≡ senders_without n k = λ i. record n { senders = (went i).tspecs; advertised = (went i).advertised } in
    c.let_go.ensures.state ∙ ap (λ (z : State). stopped (names_gone k z) k.0) torn
    ∙ stopped_is n (names_gone k (senders_without n k)) k.0 c.requires.settled refl (without_less sender_keys n.senders k) (λ j h. h)
