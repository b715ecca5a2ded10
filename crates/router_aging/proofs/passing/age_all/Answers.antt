use Rattle.std.proofs.Common.{length, refl, ap, ◌∙◌, ◌++◌, arith}
use Rattle.rsvp_base.specs.Table.{empty}
use Rattle.rsvp_base.specs.declared.style.StyleKind.TheVariants.{Wild, Fixed}
use Rattle.path_state.specs.Paths.{PathMap}
use Rattle.resv_state.specs.Resvs.{ResvMap}
use Rattle.router_rules.specs.Facts.{Facts}
use Rattle.router_state.specs.State.{facts_of}
use Rattle.router_state.specs.Whole.{state_of}
use Rattle.router_aging.specs.Passing.{dying_paths, sessions_at}
use Rattle.blockade_state.specs.Touched.{dying, touched_by}
use Rattle.resv_admission.specs.Kept.{facts_with}
use Rattle.router_aging.specs.Passed.{dying_in}
use Rattle.router_aging.proofs.Booked.{book_at, touched_both}
use Rattle.router_aging.proofs.passing.age_all.Goals as goal

pub age_resvs-requires-clause-kept : goal.age_resvs-requires-clause-kept
age_resvs-requires-clause-kept c = record { clock = 0; facts = facts_of 0 (state_of c.args.tables.now empty); resvs = refl; book = book_at c.args.tables.now c.requires.sound.booked 0 }

pub age_resvs-requires-2-clause-kept : goal.age_resvs-requires-2-clause-kept
age_resvs-requires-2-clause-kept c =
    let f : Facts = facts_of 0 (state_of c.args.tables.now empty) in
    record {
      clock = 0;
      facts = facts_with Wild 0 c.age_resvs.new.table.facts f;
      resvs = refl;
      book = c.age_resvs.ensures.book 0 0 f refl (book_at c.args.tables.now c.requires.sound.booked 0);
    }

pub age_resvs-requires-3-clause-kept : goal.age_resvs-requires-3-clause-kept
age_resvs-requires-3-clause-kept c =
    let f : Facts = facts_of 0 (state_of c.args.tables.now empty) in
    let g : Facts = facts_with Wild 0 c.age_resvs.new.table.facts f in
    record {
      clock = 0;
      facts = facts_with Fixed 0 c.age_resvs-2.new.table.facts g;
      resvs = refl;
      book = c.age_resvs-2.ensures.book 0 0 g refl (c.age_resvs.ensures.book 0 0 f refl (book_at c.args.tables.now c.requires.sound.booked 0));
    }

pub returns-clause-sound : goal.returns-clause-sound
returns-clause-sound c =
    record {
      pulled = record {
        paths = ap (λ (t : PathMap). t.dead.rows) c.age_paths.ensures.paths;
        wild = ap (λ (t : ResvMap). t.dead.rows) c.age_resvs.ensures.table;
        fixed = ap (λ (t : ResvMap). t.dead.rows) c.age_resvs-2.ensures.table;
        shared = ap (λ (t : ResvMap). t.dead.rows) c.age_resvs-3.ensures.table;
      };
      booked = λ clock i k.
          let f : Facts = facts_of clock (state_of c.args.tables.now empty) in
          let g : Facts = facts_with Wild clock c.age_resvs.new.table.facts f in
          let h : Facts = facts_with Fixed clock c.age_resvs-2.new.table.facts g in
          let one = c.age_resvs.ensures.book clock clock f refl (book_at c.args.tables.now c.requires.sound.booked clock) in
          let two = c.age_resvs-2.ensures.book clock clock g refl one in
          let three = c.age_resvs-3.ensures.book clock clock h refl two in
          three.at i k;
      few = omega (arith, ap length (c.age_resvs-3.ensures.ifaces ∙ c.age_resvs-2.ensures.ifaces ∙ c.age_resvs.ensures.ifaces), c.requires.sound.few);
    }

pub returns-clause-touched : goal.returns-clause-touched
returns-clause-touched c =
    let t = c.args.tables.now in
    let ms = c.args.ms in
    let walls = dying ms t.walls in
    let wild = dying_in ms t.wild.facts in
    let fixed = dying_in ms t.fixed.facts in
    let shared = dying_in ms t.shared.facts in
    let paths = sessions_at (dying_paths ms t.paths.facts) in
    c.age_paths.ensures.touched ∙ ap (λ d. touched_by (sessions_at d) c.age_resvs-3.new.touched) c.age_paths.ensures.dead ∙ ap (touched_by paths) c.age_resvs-3.ensures.touched
    ∙ touched_both shared paths c.age_resvs-2.new.touched ∙ ap (touched_by (shared ++ paths)) c.age_resvs-2.ensures.touched
    ∙ touched_both fixed (shared ++ paths) c.age_resvs.new.touched ∙ ap (touched_by (fixed ++ (shared ++ paths))) c.age_resvs.ensures.touched
    ∙ touched_both wild (fixed ++ (shared ++ paths)) c.age.new.touched ∙ ap (touched_by (wild ++ (fixed ++ (shared ++ paths)))) c.age.ensures.touched
    ∙ touched_both walls (wild ++ (fixed ++ (shared ++ paths))) c.args.touched.now
