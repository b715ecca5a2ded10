use Rattle.std.proofs.Common.{cond, sym, ap, ◌∙◌}
use Rattle.rsvp_base.specs.Table.{get}
use Rattle.blockade_state.specs.Blockades.{WallMap}
use Rattle.laws_sends.specs.State.{facts_of}
use Rattle.error_sends.specs.ResvErrs.{have_room, walls_set}
use Rattle.error_sends.proofs.Blockading.{set_apart}
use Rattle.error_sends.proofs.Errs.{elsewhere_facts, elsewhere_heard, full_facts, full_heard, set_told, taken_facts, taken_heard}
use Rattle.error_sends.proofs.resv_err.set_blockades.Goals as goal

pub returns-then-not-is_previous_hop-clause-heard : goal.returns-then-not-is_previous_hop-clause-heard
returns-then-not-is_previous_hop-clause-heard c = λ clock n place paths walls. elsewhere_heard clock n c.args.iface c.args.message.now
    (sym (c.is_previous_hop.ensures clock n paths) ∙ c.if-not-is_previous_hop.true)

pub returns-then-not-is_previous_hop-clause-facts : goal.returns-then-not-is_previous_hop-clause-facts
returns-then-not-is_previous_hop-clause-facts c = λ clock n place paths walls.
    let same = sym walls in
    (λ i. facts_of clock (record n { walls = same i })) ∙ elsewhere_facts clock n c.args.iface c.args.message.now (sym (c.is_previous_hop.ensures clock n paths) ∙ c.if-not-is_previous_hop.true)

pub returns-then-not-set_walls-clause-heard : goal.returns-then-not-set_walls-clause-heard
returns-then-not-set_walls-clause-heard c = λ clock n place paths walls.
    full_heard clock n c.args.iface c.args.message.now (sym (c.is_previous_hop.ensures clock n paths) ∙ c.if-not-is_previous_hop.false)
    ((λ i. have_room (place i) c.args.iface c.args.message.now (walls i)) ∙ sym c.set_walls.ensures.room ∙ c.if-not-set_walls.true)

pub returns-then-not-set_walls-clause-facts : goal.returns-then-not-set_walls-clause-facts
returns-then-not-set_walls-clause-facts c = λ clock n place paths walls.
    let m = c.args.message.now in
    let same = c.set_walls.ensures.walls ∙ ap (λ b. cond b (walls_set c.args.config.now c.args.iface m m.blame.flow c.args.walls.now) c.args.walls.now) c.if-not-set_walls.true ∙ sym walls in
    (λ i. facts_of clock (record n { walls = same i }))
    ∙ full_facts clock n c.args.iface m (sym (c.is_previous_hop.ensures clock n paths) ∙ c.if-not-is_previous_hop.false)
    ((λ i. have_room (place i) c.args.iface m (walls i)) ∙ sym c.set_walls.ensures.room ∙ c.if-not-set_walls.true)

pub returns-then-not-set_walls-clause-others : goal.returns-then-not-set_walls-clause-others
returns-then-not-set_walls-clause-others c = λ j off.
    let m = c.args.message.now in
    let same = c.set_walls.ensures.walls ∙ ap (λ b. cond b (walls_set c.args.config.now c.args.iface m m.blame.flow c.args.walls.now) c.args.walls.now) c.if-not-set_walls.true in
    ap (λ (w : WallMap). get w j) (sym same)

pub returns-clause-heard : goal.returns-clause-heard
returns-clause-heard c = λ clock n place paths walls.
    let m = c.args.message.now in
    let set = c.set_walls.ensures.walls ∙ ap (λ b. cond b (walls_set c.args.config.now c.args.iface m m.blame.flow c.args.walls.now) c.args.walls.now) c.if-not-set_walls.false
    ∙ sym (λ i. walls_set (place i) c.args.iface m m.blame.flow (walls i)) in
    taken_heard clock n c.args.iface m (sym (c.is_previous_hop.ensures clock n paths) ∙ c.if-not-is_previous_hop.false)
    ((λ i. have_room (place i) c.args.iface m (walls i)) ∙ sym c.set_walls.ensures.room ∙ c.if-not-set_walls.false) c.set_walls.new.walls
    (set_told clock n c.args.iface m c.set_walls.new.walls set)

pub returns-clause-facts : goal.returns-clause-facts
returns-clause-facts c = λ clock n place paths walls.
    let m = c.args.message.now in
    let set = c.set_walls.ensures.walls ∙ ap (λ b. cond b (walls_set c.args.config.now c.args.iface m m.blame.flow c.args.walls.now) c.args.walls.now) c.if-not-set_walls.false
    ∙ sym (λ i. walls_set (place i) c.args.iface m m.blame.flow (walls i)) in
    taken_facts clock n c.args.iface m (sym (c.is_previous_hop.ensures clock n paths) ∙ c.if-not-is_previous_hop.false)
    ((λ i. have_room (place i) c.args.iface m (walls i)) ∙ sym c.set_walls.ensures.room ∙ c.if-not-set_walls.false) c.set_walls.new.walls
    (set_told clock n c.args.iface m c.set_walls.new.walls set)

pub returns-clause-others : goal.returns-clause-others
returns-clause-others c = λ j off.
    let m = c.args.message.now in
    let set = c.set_walls.ensures.walls ∙ ap (λ b. cond b (walls_set c.args.config.now c.args.iface m m.blame.flow c.args.walls.now) c.args.walls.now) c.if-not-set_walls.false in
    set_apart c.args.config.now c.args.iface m m.blame.flow c.args.walls.now j off ∙ ap (λ (w : WallMap). get w j) (sym set)
