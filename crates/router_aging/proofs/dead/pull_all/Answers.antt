use Rattle.std.proofs.Common.{◌≡◌, ◌||◌, ℕ, Option, Some, None, refl, sym, ap, ◌∙◌, arith}
use Rattle.std.specs.Option.{option_map}
use Rattle.rsvp_base.specs.Table.{Table, empty, get, has, put_in, same_rows, size, without}
use Rattle.rsvp_base.specs.declared.addr.Addr.{Addr}
use Rattle.rsvp_base.proofs.SetLaws.{or_false}
use Rattle.path_state.specs.Paths.{PathMap}
use Rattle.path_state.specs.declared.fact.PathFact.{PathFact}
use Rattle.style_rules.specs.Toward.{or_else}
use Rattle.router_rules.specs.Facts.{SenderKey, sender_keys}
use Rattle.blockade_state.specs.Touched.{touched_by}
use Rattle.blockade_state.proofs.Touching.{touched_nobody, touched_pulled}
use Rattle.router_aging.specs.Lost.{LostTable, came_from}
use Rattle.router_aging.specs.Passing.{DeadSet, sessions_at}
use Rattle.router_aging.proofs.Dying.{has_place, one_fewer, still_many, still_within}
use Rattle.router_aging.proofs.Losses.{all_lost, has_room, lost_at, still_few, still_lost}
use Rattle.router_aging.proofs.Sets.{same_keys}
use Rattle.router_aging.proofs.dead.pull_all.Goals as goal
use Rattle.router_aging.proofs.dead.pull_all.Goals.{In-Some}

none_yet : (w : Option PathFact) → or_else (option_map came_from w) None ≡ option_map came_from w
none_yet None = refl
none_yet (Some f) = refl

pub loop-fact-init : goal.loop-fact-init
loop-fact-init c =
    record {
      facts = refl;
      within = λ q. ap (λ (d : DeadSet). has d q || has c.args.paths.now.dead q) c.clear.ensures;
      lost = λ q. ap (λ (t : LostTable). lost_at t c.args.paths.now.dead q) c.clear-2.ensures ∙ none_yet (get c.args.paths.now.dead q);
      room = omega (arith, ap size c.clear-2.ensures, c.requires);
      many = omega (arith, ap size c.clear.ensures, c.requires);
      touched = refl;
    }

abbrev key : In-Some → SenderKey
key c = (c.in-Some.fact.session, c.in-Some.fact.sender)

now : (c : In-Some) → c.pull_dead.new.self ≡ record c.loop-fact.paths { dead = without c.loop-fact.paths.dead (key c) }
now c = c.in-Some.ensures.pulled

pub add-requires : goal.add-requires
add-requires c =
    let d = (goal.at.add-requires c).In-Some in
    has_place c.loop-fact.dead c.loop-fact.paths.dead (key d) c.in-Some.fact c.in-Some.ensures.dead c.loop-fact.invariant.many

pub add-requires-in-Some : goal.add-requires-in-Some
add-requires-in-Some c =
    let d = (goal.at.add-requires-in-Some c).In-Some in
    let room = has_room c.loop-fact.lost c.loop-fact.paths.dead (key d) c.in-Some.fact c.in-Some.ensures.dead c.loop-fact.invariant.room in
    let same = ap (λ (e : SenderKey × (ℕ × Addr)). size (put_in c.loop-fact.lost e.0 e.1)) c.lost_of.ensures in
    omega (arith, room, same)

pub loop-fact-preserved : goal.loop-fact-preserved
loop-fact-preserved c =
    let d = (goal.at.loop-fact-preserved c).In-Some in
    let m = c.loop-fact.paths.dead in
    let is = now d in
    let noted : c.add-in-Some.new.self ≡ put_in c.loop-fact.lost (key d) (came_from c.in-Some.fact) = c.add-in-Some.ensures
    ∙ ap (λ (e : SenderKey × (ℕ × Addr)). put_in c.loop-fact.lost e.0 e.1) c.lost_of.ensures in
    record {
      facts = ap (λ (t : PathMap). t.facts) is ∙ c.loop-fact.invariant.facts;
      within = λ q. (λ i. has (c.add.ensures i) q || has (is i).dead q) ∙ still_within c.loop-fact.dead m (key d) c.in-Some.fact c.in-Some.ensures.dead q ∙ c.loop-fact.invariant.within q;
      lost = λ q. (λ i. lost_at (noted i) (is i).dead q) ∙ still_lost c.loop-fact.lost m (key d) c.in-Some.fact c.in-Some.ensures.dead q ∙ c.loop-fact.invariant.lost q;
      room = omega (arith, ap size noted, ap (λ (t : PathMap). size t.dead) is, still_few c.loop-fact.lost m (key d) c.in-Some.fact c.in-Some.ensures.dead c.loop-fact.invariant.room);
      many = omega (arith, ap size c.add.ensures, ap (λ (t : PathMap). size t.dead) is, still_many c.loop-fact.dead m (key d) c.in-Some.fact c.in-Some.ensures.dead c.loop-fact.invariant.many);
      touched =
          (λ i. touched_by (sessions_at (is i).dead) (c.touch.ensures i)) ∙ touched_pulled sender_keys (λ (k : SenderKey). k.0) c.loop-fact.touched (key d) c.in-Some.fact m.rows c.in-Some.ensures.dead
          ∙ c.loop-fact.invariant.touched;
    }

pub loop-fact-smaller : goal.loop-fact-smaller
loop-fact-smaller c =
    let d = (goal.at.loop-fact-smaller c).In-Some in
    let less = one_fewer c.loop-fact.dead c.loop-fact.paths.dead (key d) c.in-Some.fact c.in-Some.ensures.dead in
    let same = ap (λ (t : PathMap). size t.dead) (now d) in
    omega (arith, less, same)

pub returns-clause-paths : goal.returns-clause-paths
returns-clause-paths c =
    let none : c.loop-fact.paths.dead ≡ empty = same_rows _ empty (c.in_default.ensures.none refl) in
    c.in_default.ensures.unchanged refl ∙ (λ i. record { facts = c.loop-fact.invariant.facts i; dead = none i })

pub returns-clause-dead : goal.returns-clause-dead
returns-clause-dead c =
    let none : c.loop-fact.paths.dead ≡ empty = same_rows _ empty (c.in_default.ensures.none refl) in
    same_keys sender_keys c.loop-fact.dead c.args.paths.now.dead
    (λ q. sym (or_false (has c.loop-fact.dead q)) ∙ ap (λ (m : Table sender_keys PathFact). has c.loop-fact.dead q || has m q) (sym none) ∙ c.loop-fact.invariant.within q)

pub returns-clause-lost : goal.returns-clause-lost
returns-clause-lost c = all_lost c.loop-fact.lost c.loop-fact.paths.dead c.args.paths.now.dead (c.in_default.ensures.none refl) c.loop-fact.invariant.lost

pub returns-clause-touched : goal.returns-clause-touched
returns-clause-touched c =
    let none : c.loop-fact.paths.dead ≡ empty = same_rows _ empty (c.in_default.ensures.none refl) in
    sym (touched_nobody c.loop-fact.touched) ∙ ap (λ (m : Table sender_keys PathFact). touched_by (sessions_at m) c.loop-fact.touched) (sym none) ∙ c.loop-fact.invariant.touched
