use Rattle.std.proofs.Common.{◌≡◌, ℕ, ◌+◌, true, fold, refl, sym, ap, subst, ◌∙◌}
use Rattle.std.specs.List.{flat_map, list_any}
use Rattle.std.specs.Ordering.{eq_by_cmp}
use Rattle.rsvp_base.specs.Sets.{Set}
use Rattle.rsvp_base.specs.Orders.{sessions}
use Rattle.rsvp_base.specs.Table.{changed, empty, get, has, keys}
use Rattle.blockade_state.specs.Touched.{touched_by}
use Rattle.router_rules.specs.Facts.{SenderKey}
use Rattle.router_state.specs.State.{State, facts_of}
use Rattle.router_state.specs.Waited.{is_fired}
use Rattle.laws_sends.specs.Several.{gone_told, is_among, refreshed}
use Rattle.router_aging.specs.AfterWait.{after_wait}
use Rattle.router_aging.specs.Passing.{DeadSet, counts, dying_paths, sessions_at, unmarked}
use Rattle.router_aging.proofs.Counted.{counted_still}
use Rattle.router_state.specs.Whole.{state_of}
use Rattle.router_state.specs.declared.tables.Tables.{Tables}
use Rattle.router_aging.specs.Steps.{all_dying}
use Rattle.router_rounds.specs.Passing.{passed}
use Rattle.router_rounds.specs.Rounds.{AreCleared, AreTold, told_round, torn_near, wants_told}
use Rattle.router_rounds.proofs.Dying.{dead_are_gone}
use Rattle.router_rounds.specs.Nears.{AreNear, NearTable}
use Rattle.router_rounds.proofs.Before.{hops_few}
use Rattle.router_rounds.proofs.Passed.{facts_last, four_sent, near_still, noted_is, place_last, roomy, said_after, sent_all, settled_last, sound_last, still_cleared, still_first, near as near_in}
use Rattle.router_rounds.proofs.passing.pass_time.Goals as goal

pub forget_all-requires-clause-counted : goal.forget_all-requires-clause-counted
forget_all-requires-clause-counted g c = λ s runs calm.
    let n = state_of c.args.tables.now c.args.said.now in
    let is = c.age_all-fired.ensures.state c.args.said.now in
    ap (λ (z : State). counts z.senders z.paths s) is
    ∙ counted_still n c.args.ms c.args.word c.requires.settled.counted s (sym (ap (λ (z : State). has z.due s) is) ∙ runs)
    (ap (λ (d : DeadSet). list_any (eq_by_cmp sessions.cmp s) (sessions_at d)) (sym c.age_all-fired.ensures.dead) ∙ calm)

pub note_touched-requires : goal.note_touched-requires
note_touched-requires g c =
    hops_few c.args.ms c.args.tables.now.paths.facts c.age_all-fired.new.tables.paths.facts c.age_all-fired.new.lost
    (ap (λ (z : State). z.paths) (c.age_all-fired.ensures.state empty)) c.age_all-fired.ensures.lost c.limits.ensures.within

pub tear_all-requires : goal.tear_all-requires
tear_all-requires g c =
    let now : state_of c.forget_all.new.tables c.args.said.now ≡ passed c.args.ms c.args.word (state_of c.args.tables.now c.args.said.now) = c.forget_all.ensures.state c.args.said.now
    ∙ (λ i. after_wait (c.age_all-fired.ensures.dead i) (c.age_all-fired.ensures.state c.args.said.now i)) in
    let touched : c.age_all-fired.new.touched ≡ touched_by (all_dying c.args.ms c.args.tables.now) (changed unmarked c.args.tables.now.due) = c.age_all-fired.ensures.touched
    ∙ ap (touched_by (all_dying c.args.ms c.args.tables.now)) c.watch_all-touched.ensures in
    let due = c.as_slice-due.ensures.sessions ∙ ap (λ (z : Set sessions). keys z) c.age_all-fired.ensures.fired in
    still_first c.args.tables.now c.args.said.now c.args.ms c.args.word c.requires.settled c.requires.said c.requires.short c.forget_all.new.tables now c.as_slice-due.result.now
    c.age_all-fired.new.touched due touched

pub clear_all-requires-clause-full : goal.clear_all-requires-clause-full
clear_all-requires-clause-full g c = c.requires.said.some

pub clear_all-requires-clause-still : goal.clear_all-requires-clause-still
clear_all-requires-clause-still g c =
    let now : state_of c.forget_all.new.tables c.args.said.now ≡ passed c.args.ms c.args.word (state_of c.args.tables.now c.args.said.now) = c.forget_all.ensures.state c.args.said.now
    ∙ (λ i. after_wait (c.age_all-fired.ensures.dead i) (c.age_all-fired.ensures.state c.args.said.now i)) in
    let touched : c.age_all-fired.new.touched ≡ touched_by (all_dying c.args.ms c.args.tables.now) (changed unmarked c.args.tables.now.due) = c.age_all-fired.ensures.touched
    ∙ ap (touched_by (all_dying c.args.ms c.args.tables.now)) c.watch_all-touched.ensures in
    let due = c.as_slice-due.ensures.sessions ∙ ap (λ (z : Set sessions). keys z) c.age_all-fired.ensures.fired in
    still_first c.args.tables.now c.args.said.now c.args.ms c.args.word c.requires.settled c.requires.said c.requires.short c.forget_all.new.tables now c.as_slice-due.result.now
    c.age_all-fired.new.touched due touched

pub tell_all-requires-clause-roomy : goal.tell_all-requires-clause-roomy
tell_all-requires-clause-roomy g c =
    let now : state_of c.forget_all.new.tables c.args.said.now ≡ passed c.args.ms c.args.word (state_of c.args.tables.now c.args.said.now) = c.forget_all.ensures.state c.args.said.now
    ∙ (λ i. after_wait (c.age_all-fired.ensures.dead i) (c.age_all-fired.ensures.state c.args.said.now i)) in
    let touched : c.age_all-fired.new.touched ≡ touched_by (all_dying c.args.ms c.args.tables.now) (changed unmarked c.args.tables.now.due) = c.age_all-fired.ensures.touched
    ∙ ap (touched_by (all_dying c.args.ms c.args.tables.now)) c.watch_all-touched.ensures in
    let near : c.note_touched.new.self ≡ near_in c.args.tables.now c.args.said.now c.args.ms c.args.word c.requires.settled c.requires.said c.requires.short =
    c.note_touched.ensures
    ∙ noted_is c.args.tables.now c.args.said.now c.args.ms c.args.word c.requires.settled c.requires.said c.requires.short c.age_all-fired.new.tables.paths.facts c.age_all-fired.new.lost
    c.age_all-fired.new.touched c.age_all-fired.result
    (ap (λ (z : State). z.paths) (c.age_all-fired.ensures.state empty)) c.age_all-fired.ensures.lost touched c.age_all-fired.ensures.fired in
    let cleared = subst (λ (z : NearTable). AreCleared (state_of c.forget_all.new.tables c.args.said.now) z.rows c.clear_all.new.said) near c.clear_all.ensures in
    let r = roomy c.args.tables.now c.args.said.now c.args.ms c.args.word c.requires.settled c.requires.said c.requires.short c.forget_all.new.tables now c.clear_all.new.said cleared in
    record { some = r.some; within = r.within }

pub tell_all-requires-clause-still : goal.tell_all-requires-clause-still
tell_all-requires-clause-still g c =
    let now : state_of c.forget_all.new.tables c.args.said.now ≡ passed c.args.ms c.args.word (state_of c.args.tables.now c.args.said.now) = c.forget_all.ensures.state c.args.said.now
    ∙ (λ i. after_wait (c.age_all-fired.ensures.dead i) (c.age_all-fired.ensures.state c.args.said.now i)) in
    let touched : c.age_all-fired.new.touched ≡ touched_by (all_dying c.args.ms c.args.tables.now) (changed unmarked c.args.tables.now.due) = c.age_all-fired.ensures.touched
    ∙ ap (touched_by (all_dying c.args.ms c.args.tables.now)) c.watch_all-touched.ensures in
    let near : c.note_touched.new.self ≡ near_in c.args.tables.now c.args.said.now c.args.ms c.args.word c.requires.settled c.requires.said c.requires.short =
    c.note_touched.ensures
    ∙ noted_is c.args.tables.now c.args.said.now c.args.ms c.args.word c.requires.settled c.requires.said c.requires.short c.age_all-fired.new.tables.paths.facts c.age_all-fired.new.lost
    c.age_all-fired.new.touched c.age_all-fired.result
    (ap (λ (z : State). z.paths) (c.age_all-fired.ensures.state empty)) c.age_all-fired.ensures.lost touched c.age_all-fired.ensures.fired in
    let cleared = subst (λ (z : NearTable). AreCleared (state_of c.forget_all.new.tables c.args.said.now) z.rows c.clear_all.new.said) near c.clear_all.ensures in
    let due = c.as_slice-due.ensures.sessions ∙ ap (λ (z : Set sessions). keys z) c.age_all-fired.ensures.fired in
    still_cleared c.args.tables.now c.args.said.now c.args.ms c.args.word c.requires.settled c.requires.said c.requires.short c.forget_all.new.tables now c.as_slice-due.result.now
    c.age_all-fired.new.touched due touched c.clear_all.new.said cleared

pub tell_all-requires-clause-near : goal.tell_all-requires-clause-near
tell_all-requires-clause-near g c =
    let now : state_of c.forget_all.new.tables c.args.said.now ≡ passed c.args.ms c.args.word (state_of c.args.tables.now c.args.said.now) = c.forget_all.ensures.state c.args.said.now
    ∙ (λ i. after_wait (c.age_all-fired.ensures.dead i) (c.age_all-fired.ensures.state c.args.said.now i)) in
    let touched : c.age_all-fired.new.touched ≡ touched_by (all_dying c.args.ms c.args.tables.now) (changed unmarked c.args.tables.now.due) = c.age_all-fired.ensures.touched
    ∙ ap (touched_by (all_dying c.args.ms c.args.tables.now)) c.watch_all-touched.ensures in
    let near : c.note_touched.new.self ≡ near_in c.args.tables.now c.args.said.now c.args.ms c.args.word c.requires.settled c.requires.said c.requires.short =
    c.note_touched.ensures
    ∙ noted_is c.args.tables.now c.args.said.now c.args.ms c.args.word c.requires.settled c.requires.said c.requires.short c.age_all-fired.new.tables.paths.facts c.age_all-fired.new.lost
    c.age_all-fired.new.touched c.age_all-fired.result
    (ap (λ (z : State). z.paths) (c.age_all-fired.ensures.state empty)) c.age_all-fired.ensures.lost touched c.age_all-fired.ensures.fired in
    let due = c.as_slice-due.ensures.sessions ∙ ap (λ (z : Set sessions). keys z) c.age_all-fired.ensures.fired in
    subst (λ (z : NearTable). AreNear c.forget_all.new.tables.paths.facts z c.as_slice-due.result.now c.age_all-fired.new.touched) (sym near)
    (near_still c.args.tables.now c.args.said.now c.args.ms c.args.word c.requires.settled c.requires.said c.requires.short c.forget_all.new.tables now c.as_slice-due.result.now
    c.age_all-fired.new.touched due touched)

pub returns-clause-facts : goal.returns-clause-facts
returns-clause-facts g c = λ clock.
    let now : state_of c.forget_all.new.tables c.args.said.now ≡ passed c.args.ms c.args.word (state_of c.args.tables.now c.args.said.now) = c.forget_all.ensures.state c.args.said.now
    ∙ (λ i. after_wait (c.age_all-fired.ensures.dead i) (c.age_all-fired.ensures.state c.args.said.now i)) in
    let touched : c.age_all-fired.new.touched ≡ touched_by (all_dying c.args.ms c.args.tables.now) (changed unmarked c.args.tables.now.due) = c.age_all-fired.ensures.touched
    ∙ ap (touched_by (all_dying c.args.ms c.args.tables.now)) c.watch_all-touched.ensures in
    let near : c.note_touched.new.self ≡ near_in c.args.tables.now c.args.said.now c.args.ms c.args.word c.requires.settled c.requires.said c.requires.short =
    c.note_touched.ensures
    ∙ noted_is c.args.tables.now c.args.said.now c.args.ms c.args.word c.requires.settled c.requires.said c.requires.short c.age_all-fired.new.tables.paths.facts c.age_all-fired.new.lost
    c.age_all-fired.new.touched c.age_all-fired.result
    (ap (λ (z : State). z.paths) (c.age_all-fired.ensures.state empty)) c.age_all-fired.ensures.lost touched c.age_all-fired.ensures.fired in
    let cleared = subst (λ (z : NearTable). AreCleared (state_of c.forget_all.new.tables c.args.said.now) z.rows c.clear_all.new.said) near c.clear_all.ensures in
    let marks = λ (d : ℕ). c.tell_all.ensures.marks d ∙ ap (λ (z : NearTable). record c.forget_all.new.tables {
      wants = wants_told d
          (state_of c.forget_all.new.tables c.clear_all.new.said) c.clear_all.new.said (keys z);
    }) near in
    facts_last c.args.tables.now c.args.said.now c.args.ms c.args.word c.requires.settled c.requires.said c.requires.short c.forget_all.new.tables now c.clear_all.new.said cleared
    c.tell_all.new.tables marks c.tell_all.new.said clock

pub returns-clause-sent : goal.returns-clause-sent
returns-clause-sent g c = λ clock.
    let now : state_of c.forget_all.new.tables c.args.said.now ≡ passed c.args.ms c.args.word (state_of c.args.tables.now c.args.said.now) = c.forget_all.ensures.state c.args.said.now
    ∙ (λ i. after_wait (c.age_all-fired.ensures.dead i) (c.age_all-fired.ensures.state c.args.said.now i)) in
    let touched : c.age_all-fired.new.touched ≡ touched_by (all_dying c.args.ms c.args.tables.now) (changed unmarked c.args.tables.now.due) = c.age_all-fired.ensures.touched
    ∙ ap (touched_by (all_dying c.args.ms c.args.tables.now)) c.watch_all-touched.ensures in
    let near : c.note_touched.new.self ≡ near_in c.args.tables.now c.args.said.now c.args.ms c.args.word c.requires.settled c.requires.said c.requires.short =
    c.note_touched.ensures
    ∙ noted_is c.args.tables.now c.args.said.now c.args.ms c.args.word c.requires.settled c.requires.said c.requires.short c.age_all-fired.new.tables.paths.facts c.age_all-fired.new.lost
    c.age_all-fired.new.touched c.age_all-fired.result
    (ap (λ (z : State). z.paths) (c.age_all-fired.ensures.state empty)) c.age_all-fired.ensures.lost touched c.age_all-fired.ensures.fired in
    let cleared = subst (λ (z : NearTable). AreCleared (state_of c.forget_all.new.tables c.args.said.now) z.rows c.clear_all.new.said) near c.clear_all.ensures in
    let n = state_of c.args.tables.now c.args.said.now in
    let m = state_of c.forget_all.new.tables c.args.said.now in
    let place : c.forget_all.new.tables.config ≡ c.args.tables.now.config = ap (λ (z : State). z.place) now in
    let dead = c.age_all-fired.ensures.dead in
    let were = λ (k : SenderKey) (h : has c.age_all-fired.new.dead k ≡ true). dead_are_gone.were c.args.ms n clock k (ap (λ (d : DeadSet). has d k) (sym dead) ∙ h) in
    let gone = λ (k : SenderKey) (h : has c.age_all-fired.new.dead k ≡ true). ap (λ (z : State). get (facts_of (clock + c.args.ms) z).paths k) now
    ∙ dead_are_gone.gone c.args.ms c.args.word n (clock + c.args.ms) k (ap (λ (d : DeadSet). has d k) (sym dead) ∙ h) in
    let one = c.tell_dead.ensures (facts_of clock n) (facts_of (clock + c.args.ms) m) refl were gone
    ∙ (λ i. fold g.O.Outbox.posted c.args.out.now (gone_told (place i) (facts_of clock n) (facts_of (clock + c.args.ms) m) (keys (dead i)))) in
    let two = c.tear_all.ensures (clock + c.args.ms) ∙ ap (λ (z : NearTable). fold g.O.Outbox.posted c.tell_dead.new.out (flat_map (torn_near (clock + c.args.ms) m c.args.said.now) z.rows)) near in
    let three =
    c.tell_fired.ensures (clock + c.args.ms) m refl refl refl ∙ (λ i. fold g.O.Outbox.posted c.tear_all.new.out
    (flat_map (refreshed (place i) (facts_of (clock + c.args.ms) m)) (keys (c.age_all-fired.ensures.fired i)))) in
    let fired : Set sessions = changed (is_fired c.args.ms) c.args.tables.now.due in
    let due = c.as_slice-due.ensures.sessions ∙ ap (λ (z : Set sessions). keys z) c.age_all-fired.ensures.fired in
    let four =
    c.tell_all.ensures.sent (clock + c.args.ms) ∙ (λ i. fold g.O.Outbox.posted c.tell_fired.new.out
    (flat_map (λ s. told_round (clock + c.args.ms) (state_of c.forget_all.new.tables c.clear_all.new.said) (is_among (due i) s) c.clear_all.new.said s) (keys (near i)))) in
    four_sent g.O.Outbox.posted c.args.out.now c.tell_dead.new.out c.tear_all.new.out c.tell_fired.new.out c.tell_all.new.out
    (gone_told c.args.tables.now.config (facts_of clock n) (facts_of (clock + c.args.ms) m) (keys (dying_paths c.args.ms c.args.tables.now.paths.facts)))
    (flat_map (torn_near (clock + c.args.ms) m c.args.said.now) (near_in c.args.tables.now c.args.said.now c.args.ms c.args.word c.requires.settled c.requires.said c.requires.short).rows)
    (flat_map (refreshed c.args.tables.now.config (facts_of (clock + c.args.ms) m)) (keys fired))
    (flat_map (λ s. told_round (clock + c.args.ms) (state_of c.forget_all.new.tables c.clear_all.new.said) (is_among (keys fired) s) c.clear_all.new.said s)
    (keys (near_in c.args.tables.now c.args.said.now c.args.ms c.args.word c.requires.settled c.requires.said c.requires.short)))
    one two three four
    ∙ ap (fold g.O.Outbox.posted c.args.out.now)
    (sent_all c.args.tables.now c.args.said.now c.args.ms c.args.word c.requires.settled c.requires.said c.requires.short c.forget_all.new.tables now c.clear_all.new.said cleared clock)

pub returns-clause-said : goal.returns-clause-said
returns-clause-said g c =
    let now : state_of c.forget_all.new.tables c.args.said.now ≡ passed c.args.ms c.args.word (state_of c.args.tables.now c.args.said.now) = c.forget_all.ensures.state c.args.said.now
    ∙ (λ i. after_wait (c.age_all-fired.ensures.dead i) (c.age_all-fired.ensures.state c.args.said.now i)) in
    let touched : c.age_all-fired.new.touched ≡ touched_by (all_dying c.args.ms c.args.tables.now) (changed unmarked c.args.tables.now.due) = c.age_all-fired.ensures.touched
    ∙ ap (touched_by (all_dying c.args.ms c.args.tables.now)) c.watch_all-touched.ensures in
    let near : c.note_touched.new.self ≡ near_in c.args.tables.now c.args.said.now c.args.ms c.args.word c.requires.settled c.requires.said c.requires.short =
    c.note_touched.ensures
    ∙ noted_is c.args.tables.now c.args.said.now c.args.ms c.args.word c.requires.settled c.requires.said c.requires.short c.age_all-fired.new.tables.paths.facts c.age_all-fired.new.lost
    c.age_all-fired.new.touched c.age_all-fired.result
    (ap (λ (z : State). z.paths) (c.age_all-fired.ensures.state empty)) c.age_all-fired.ensures.lost touched c.age_all-fired.ensures.fired in
    let cleared = subst (λ (z : NearTable). AreCleared (state_of c.forget_all.new.tables c.args.said.now) z.rows c.clear_all.new.said) near c.clear_all.ensures in
    let marks = λ (d : ℕ). c.tell_all.ensures.marks d ∙ ap (λ (z : NearTable). record c.forget_all.new.tables {
      wants = wants_told d
          (state_of c.forget_all.new.tables c.clear_all.new.said) c.clear_all.new.said (keys z);
    }) near in
    said_after c.args.tables.now c.args.said.now c.args.ms c.args.word c.requires.settled c.requires.said c.requires.short c.forget_all.new.tables now c.clear_all.new.said cleared
    c.tell_all.new.tables marks c.tell_all.new.said c.tell_all.new.said (subst (λ (z : NearTable). AreTold (state_of c.forget_all.new.tables c.clear_all.new.said)
    (keys z) c.tell_all.new.said) near c.tell_all.ensures.told) c.tell_all.ensures.roomy

pub returns-clause-settled : goal.returns-clause-settled
returns-clause-settled g c =
    let now : state_of c.forget_all.new.tables c.args.said.now ≡ passed c.args.ms c.args.word (state_of c.args.tables.now c.args.said.now) = c.forget_all.ensures.state c.args.said.now
    ∙ (λ i. after_wait (c.age_all-fired.ensures.dead i) (c.age_all-fired.ensures.state c.args.said.now i)) in
    let touched : c.age_all-fired.new.touched ≡ touched_by (all_dying c.args.ms c.args.tables.now) (changed unmarked c.args.tables.now.due) = c.age_all-fired.ensures.touched
    ∙ ap (touched_by (all_dying c.args.ms c.args.tables.now)) c.watch_all-touched.ensures in
    let near : c.note_touched.new.self ≡ near_in c.args.tables.now c.args.said.now c.args.ms c.args.word c.requires.settled c.requires.said c.requires.short =
    c.note_touched.ensures
    ∙ noted_is c.args.tables.now c.args.said.now c.args.ms c.args.word c.requires.settled c.requires.said c.requires.short c.age_all-fired.new.tables.paths.facts c.age_all-fired.new.lost
    c.age_all-fired.new.touched c.age_all-fired.result
    (ap (λ (z : State). z.paths) (c.age_all-fired.ensures.state empty)) c.age_all-fired.ensures.lost touched c.age_all-fired.ensures.fired in
    let cleared = subst (λ (z : NearTable). AreCleared (state_of c.forget_all.new.tables c.args.said.now) z.rows c.clear_all.new.said) near c.clear_all.ensures in
    let marks = λ (d : ℕ). c.tell_all.ensures.marks d ∙ ap (λ (z : NearTable). record c.forget_all.new.tables {
      wants = wants_told d
          (state_of c.forget_all.new.tables c.clear_all.new.said) c.clear_all.new.said (keys z);
    }) near in
    settled_last c.args.tables.now c.args.said.now c.args.ms c.args.word c.requires.settled c.requires.said c.requires.short c.forget_all.new.tables now c.clear_all.new.said cleared
    c.tell_all.new.tables marks c.tell_all.new.said

pub returns-clause-sound : goal.returns-clause-sound
returns-clause-sound g c =
    let now : state_of c.forget_all.new.tables c.args.said.now ≡ passed c.args.ms c.args.word (state_of c.args.tables.now c.args.said.now) = c.forget_all.ensures.state c.args.said.now
    ∙ (λ i. after_wait (c.age_all-fired.ensures.dead i) (c.age_all-fired.ensures.state c.args.said.now i)) in
    let touched : c.age_all-fired.new.touched ≡ touched_by (all_dying c.args.ms c.args.tables.now) (changed unmarked c.args.tables.now.due) = c.age_all-fired.ensures.touched
    ∙ ap (touched_by (all_dying c.args.ms c.args.tables.now)) c.watch_all-touched.ensures in
    let near : c.note_touched.new.self ≡ near_in c.args.tables.now c.args.said.now c.args.ms c.args.word c.requires.settled c.requires.said c.requires.short =
    c.note_touched.ensures
    ∙ noted_is c.args.tables.now c.args.said.now c.args.ms c.args.word c.requires.settled c.requires.said c.requires.short c.age_all-fired.new.tables.paths.facts c.age_all-fired.new.lost
    c.age_all-fired.new.touched c.age_all-fired.result
    (ap (λ (z : State). z.paths) (c.age_all-fired.ensures.state empty)) c.age_all-fired.ensures.lost touched c.age_all-fired.ensures.fired in
    let cleared = subst (λ (z : NearTable). AreCleared (state_of c.forget_all.new.tables c.args.said.now) z.rows c.clear_all.new.said) near c.clear_all.ensures in
    let marks = λ (d : ℕ). c.tell_all.ensures.marks d ∙ ap (λ (z : NearTable). record c.forget_all.new.tables {
      wants = wants_told d
          (state_of c.forget_all.new.tables c.clear_all.new.said) c.clear_all.new.said (keys z);
    }) near in
    sound_last c.args.tables.now c.args.said.now c.args.ms c.args.word c.requires.settled c.requires.said c.requires.short c.forget_all.new.tables now c.clear_all.new.said cleared
    c.tell_all.new.tables marks c.tell_all.new.said c.forget_all.ensures.sound

pub returns-clause-place : goal.returns-clause-place
returns-clause-place g c =
    let now : state_of c.forget_all.new.tables c.args.said.now ≡ passed c.args.ms c.args.word (state_of c.args.tables.now c.args.said.now) = c.forget_all.ensures.state c.args.said.now
    ∙ (λ i. after_wait (c.age_all-fired.ensures.dead i) (c.age_all-fired.ensures.state c.args.said.now i)) in
    let touched : c.age_all-fired.new.touched ≡ touched_by (all_dying c.args.ms c.args.tables.now) (changed unmarked c.args.tables.now.due) = c.age_all-fired.ensures.touched
    ∙ ap (touched_by (all_dying c.args.ms c.args.tables.now)) c.watch_all-touched.ensures in
    let near : c.note_touched.new.self ≡ near_in c.args.tables.now c.args.said.now c.args.ms c.args.word c.requires.settled c.requires.said c.requires.short =
    c.note_touched.ensures
    ∙ noted_is c.args.tables.now c.args.said.now c.args.ms c.args.word c.requires.settled c.requires.said c.requires.short c.age_all-fired.new.tables.paths.facts c.age_all-fired.new.lost
    c.age_all-fired.new.touched c.age_all-fired.result
    (ap (λ (z : State). z.paths) (c.age_all-fired.ensures.state empty)) c.age_all-fired.ensures.lost touched c.age_all-fired.ensures.fired in
    let cleared = subst (λ (z : NearTable). AreCleared (state_of c.forget_all.new.tables c.args.said.now) z.rows c.clear_all.new.said) near c.clear_all.ensures in
    let marks = λ (d : ℕ). c.tell_all.ensures.marks d ∙ ap (λ (z : NearTable). record c.forget_all.new.tables {
      wants = wants_told d
          (state_of c.forget_all.new.tables c.clear_all.new.said) c.clear_all.new.said (keys z);
    }) near in
    place_last c.args.tables.now c.args.said.now c.args.ms c.args.word c.requires.settled c.requires.said c.requires.short c.forget_all.new.tables now c.clear_all.new.said cleared
    c.tell_all.new.tables marks c.tell_all.new.said

pub returns-clause-ifaces : goal.returns-clause-ifaces
returns-clause-ifaces g c = ap (λ (z : Tables). z.book.ifaces) (c.tell_all.ensures.marks 0) ∙ c.forget_all.ensures.ifaces ∙ c.age_all-fired.ensures.ifaces
