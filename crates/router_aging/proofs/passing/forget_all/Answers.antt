use Rattle.std.proofs.Common.{length, refl, ap, ◌∙◌, arith}
use Rattle.rsvp_base.specs.Table.{empty}
use Rattle.rsvp_base.specs.declared.style.StyleKind.TheVariants.{Wild, Fixed}
use Rattle.resv_state.specs.Resvs.{ResvMap}
use Rattle.router_rules.specs.Facts.{Facts}
use Rattle.router_state.specs.State.{facts_of}
use Rattle.router_state.specs.Whole.{state_of}
use Rattle.resv_admission.specs.Kept.{facts_with}
use Rattle.router_aging.proofs.Booked.{book_at}
use Rattle.router_aging.proofs.passing.forget_all.Goals as goal

pub forget_dead-requires-clause-kept : goal.forget_dead-requires-clause-kept
forget_dead-requires-clause-kept c = record { clock = 0; facts = facts_of 0 (state_of c.args.tables.now empty); resvs = refl; book = book_at c.args.tables.now c.requires.sound.booked 0 }

pub forget_dead-requires-2-clause-kept : goal.forget_dead-requires-2-clause-kept
forget_dead-requires-2-clause-kept c =
    let f : Facts = facts_of 0 (state_of c.args.tables.now empty) in
    record {
      clock = 0;
      facts = facts_with Wild 0 c.forget_dead.new.table.facts f;
      resvs = refl;
      book = c.forget_dead.ensures.book 0 f refl (book_at c.args.tables.now c.requires.sound.booked 0);
    }

pub forget_dead-requires-3-clause-kept : goal.forget_dead-requires-3-clause-kept
forget_dead-requires-3-clause-kept c =
    let f : Facts = facts_of 0 (state_of c.args.tables.now empty) in
    let g : Facts = facts_with Wild 0 c.forget_dead.new.table.facts f in
    record {
      clock = 0;
      facts = facts_with Fixed 0 c.forget_dead-2.new.table.facts g;
      resvs = refl;
      book = c.forget_dead-2.ensures.book 0 g refl (c.forget_dead.ensures.book 0 f refl (book_at c.args.tables.now c.requires.sound.booked 0));
    }

pub returns-clause-state : goal.returns-clause-state
returns-clause-state c = λ said.
    let n = state_of c.args.tables.now said in
    let wild = c.forget_dead.ensures.table 0 n refl refl in
    let fixed = c.forget_dead-2.ensures.table 0 n refl refl in
    let shared = c.forget_dead-3.ensures.table 0 n refl refl in
    λ i. record (state_of c.args.tables.now said) { wild = (wild i).facts; fixed = (fixed i).facts; shared = (shared i).facts; due = c.stop_uncounted.ensures i }

pub returns-clause-sound : goal.returns-clause-sound
returns-clause-sound c =
    let n = state_of c.args.tables.now empty in
    record {
      pulled = record {
        paths = c.requires.sound.pulled.paths;
        wild = ap (λ (t : ResvMap). t.dead.rows) (c.forget_dead.ensures.table 0 n refl refl) ∙ c.requires.sound.pulled.wild;
        fixed = ap (λ (t : ResvMap). t.dead.rows) (c.forget_dead-2.ensures.table 0 n refl refl) ∙ c.requires.sound.pulled.fixed;
        shared = ap (λ (t : ResvMap). t.dead.rows) (c.forget_dead-3.ensures.table 0 n refl refl) ∙ c.requires.sound.pulled.shared;
      };
      booked = λ clock i k.
          let f : Facts = facts_of clock (state_of c.args.tables.now empty) in
          let g : Facts = facts_with Wild clock c.forget_dead.new.table.facts f in
          let h : Facts = facts_with Fixed clock c.forget_dead-2.new.table.facts g in
          let one = c.forget_dead.ensures.book clock f refl (book_at c.args.tables.now c.requires.sound.booked clock) in
          let two = c.forget_dead-2.ensures.book clock g refl one in
          let three = c.forget_dead-3.ensures.book clock h refl two in
          three.at i k;
      few = omega (arith, ap length (c.forget_dead-3.ensures.ifaces ∙ c.forget_dead-2.ensures.ifaces ∙ c.forget_dead.ensures.ifaces), c.requires.sound.few);
    }
