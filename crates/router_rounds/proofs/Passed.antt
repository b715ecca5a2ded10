-- What a wait leaves and sends, by the steps of the code.
use Rattle.std.specs.Prelude.{◌≡◌, ℕ, ◌+◌, ◌*◌, ◌≤◌, ◌||◌, ◌++◌, Bool, true, false, cond, is_some, List, map as each, fold, Some, None, refl}
use Rattle.std.specs.List.{flat_map, list_any}
use Rattle.std.specs.Option.{unwrap_or}
use Rattle.std.specs.Ordering.{eq_by_cmp}
use Rattle.std.proofs.Common.{sym, ap, subst, ◌∙◌, ⊎_elim}
use Rattle.std.proofs.lemmas.Bool.{le-leb}
use Rattle.std.proofs.lemmas.List.Sums.{fold-append}
use Rattle.rsvp_base.specs.Members.{In}
use Rattle.rsvp_base.specs.Orders.{senders, sessions}
use Rattle.rsvp_base.specs.Sets.{Set}
use Rattle.rsvp_base.specs.Table.{Table, changed, empty, get, has, kept, keys}
use Rattle.rsvp_base.specs.Under.{under}
use Rattle.rsvp_base.specs.declared.session.Session.{Session}
use Rattle.rsvp_base.proofs.Changed.{has_changed}
use Rattle.rsvp_base.proofs.Fronts.{to_keys}
use Rattle.rsvp_base.proofs.Members.{tied_in}
use Rattle.rsvp_base.proofs.SetLaws.{or_left, or_right}
use Rattle.rsvp_base.proofs.Tables.{get-changed, get-kept, got_changed, then_do}
use Rattle.path_state.specs.Paths.{HopSet, hops_by, later, path_keys}
use Rattle.path_state.specs.declared.fact.PathFact.{PathFact}
use Rattle.blockade_state.specs.Touched.{Marks, is_touched, touched_at, touched_by}
use Rattle.laws_bounds.proofs.Lists.{some_is}
use Rattle.laws_bounds.proofs.Requesting.{nowhere}
use Rattle.router_rules.specs.Facts.{SenderKey}
use Rattle.router_rules.specs.Inputs.{Send, Wait}
use Rattle.router_rules.specs.Known.{lanes}
use Rattle.router_rules.specs.Requests.{toward}
use Rattle.router_rules.specs.Rule.{facts_after, sent_after}
use Rattle.router_state.specs.State.{IsSaid, IsSettled, Said, State, facts_of, said_at}
use Rattle.router_state.specs.Waited.{is_fired}
use Rattle.laws_sends.specs.Saying.{IsRoomy, lane_by}
use Rattle.laws_sends.specs.SendsHere.{hops_in}
use Rattle.laws_sends.specs.Told.{offered}
use Rattle.laws_sends.specs.Several.{gone_told, is_among, refreshed}
use Rattle.laws_sends.specs.Waits.{IsWatched}
use Rattle.laws_sends.proofs.Grouping.{among_in, among_keys}
use Rattle.router_aging.specs.Lost.{LostTable, lost_hops}
use Rattle.router_aging.specs.Passing.{dying_paths, unmarked}
use Rattle.router_aging.proofs.Watching.{dying_are_watched}
use Rattle.router_state.specs.Whole.{state_of}
use Rattle.router_state.specs.declared.tables.Tables.{Tables}
use Rattle.router_aging.specs.Steps.{AreSound, all_dying}
use Rattle.router_rounds.specs.Passing.{IsPassedOver, passed}
use Rattle.router_rounds.specs.Rounds.{AreCleared, AreRounds, AreTold, SessionHops, told_round, torn_near, wants_told, with_hops}
use Rattle.resv_sends.specs.Rounds.{IsStill}
use Rattle.resv_sends.proofs.Sent.{hops_are}
use Rattle.router_rounds.proofs.Clocks.{toward_clock}
use Rattle.router_rounds.proofs.Dying.{all_dying_are_there, dead_are_gone}
use Rattle.router_rounds.proofs.WaitRounds.{wait_is_rounds}
use Rattle.router_rounds.proofs.RoundClaims.{cleared_is_roomy, rounds_are_said}
use Rattle.router_rounds.proofs.Telling.{told_any, wants_any}
use Rattle.router_rounds.specs.Nears.{AreNear, AreStill, NearTable, hops_then, noted_before}
use Rattle.router_rounds.proofs.Before.{noted_then}
use Rattle.router_rounds.proofs.Near.{hops_had, near_rows, near_sessions}
use Rattle.router_rounds.proofs.Untouched.{hops_stay, toward_stays}

-- ---- t are the tables before, and first what was said
module _ (t : Tables) (first : Said) (ms word : ℕ) (settled : IsSettled (state_of t first)) (said : IsSaid first (state_of t first)) (short : ms ≤ 2 * t.config.quarter) where
  abbrev n : State
  n = state_of t first

  abbrev watched : Marks
  watched = touched_by (all_dying ms t) (changed unmarked t.due)

  abbrev fired : Set sessions
  fired = changed (is_fired ms) t.due

  abbrev pub test : Session → Bool
  test s = is_touched watched s || has fired s

  abbrev pub near : NearTable
  near = kept test (changed (hops_then t.paths.facts) t.due)

  abbrev pub ss : List Session
  ss = keys near

  -- as the code notes them behind it
  pub noted_is : (paths : Table path_keys (PathFact × ℕ)) (lost : LostTable) (touched : Marks) (came : Set sessions) → paths ≡ changed (later ms) t.paths.facts → lost ≡ lost_hops ms t.paths.facts
      → touched ≡ watched → came ≡ fired
      → kept (λ s. is_touched touched s || has came s) (changed (noted_before paths lost) touched) ≡ near
  noted_is paths lost touched came p l w f =
      (λ i. kept (λ s. is_touched (w i) s || has (f i) s) (changed (noted_before (p i) (l i)) (w i))) ∙ ap (kept test) (noted_then ms t.paths.facts (all_dying ms t) t.due)

  -- the sessions that are gone through
  near_has : (s : Session) → has t.due s ≡ true → test s ≡ true → is_among ss s ≡ true
  near_has s there h =
      let has_hops = has_changed sessions (hops_then t.paths.facts) (λ k x. refl) t.due s ∙ there in
      let here : has near s ≡ true = ap is_some (get-kept sessions test (changed (hops_then t.paths.facts) t.due) s ∙ ap (λ b. cond b (get (changed (hops_then t.paths.facts) t.due) s) None) h)
      ∙ has_hops in
      among_in ss s (to_keys sessions near s here)

  touched_so : (s : Session) → has t.due s ≡ true → list_any (eq_by_cmp sessions.cmp s) (all_dying ms t) ≡ true → is_touched watched s ≡ true
  touched_so s there h =
      let v = some_is (get t.due s) there in
      ap (λ w. unwrap_or w false)
      (get-changed sessions (touched_at (all_dying ms t)) (changed unmarked t.due) s
      ∙ ap (λ w. then_do w (touched_at (all_dying ms t) s)) (get-changed sessions unmarked t.due s ∙ ap (λ w. then_do w (unmarked s)) v.1)
      ∙ ap Some h)

  fired_so : (s : Session) (left : ℕ) → get t.due s ≡ Some left → left ≤ ms → has fired s ≡ true
  fired_so s left there le = ap is_some (get-changed sessions (is_fired ms) t.due s ∙ ap (λ w. then_do w (is_fired ms s)) there ∙ ap (λ b. cond b (Some tt) None) (le-leb left ms le))

  watched_so : (c : ℕ) → IsWatched ss (dying_paths ms n.paths) n.place (c + ms) word (facts_of c n)
  watched_so c =
      dying_are_watched n c ms word (all_dying ms t) settled.counted (all_dying_are_there ms t first) ss (near_sessions near)
      (λ s there h. near_has s there (or_left (is_touched watched s) (has fired s) (touched_so s there h)))
      (λ s left there le. near_has s (ap is_some there) (or_right (is_touched watched s) (has fired s) (fired_so s left there le)))

  pub passed_over : IsPassedOver ss ms word n
  passed_over = record { settled = settled; said = said; short = short; watched = watched_so }

  pub dead_were : (c : ℕ) (k : SenderKey) → has (dying_paths ms t.paths.facts) k ≡ true → is_some (offered (facts_of c n) k) ≡ true
  dead_were c k h = dead_are_gone.were ms n c k h

  -- ---- late are the tables after it
  module _ (late : Tables) (now : state_of late first ≡ passed ms word n) where
    abbrev m : State
    m = state_of late first

    pub rounds : AreRounds ss n m
    rounds = subst (AreRounds ss n) (sym now) (wait_is_rounds.rounds ss ms word n passed_over)

    pub settled_late : IsSettled m
    settled_late = subst IsSettled (sym now) (wait_is_rounds.settled ss ms word n passed_over)

    -- a session that came due, and of which nothing died: what was said to its lanes is what goes there
    module _ (s : Session) (came : has fired s ≡ true) (calm : is_touched watched s ≡ false) where
      runs : has t.due s ≡ true
      runs =
          let v = some_is (get fired s) came in
          let g = got_changed sessions (is_fired ms) t.due s v.0 v.1 in
          ap is_some g.1

      none_dies : In s (all_dying ms t) → ⊥
      none_dies i = let z : true ≡ false = sym (touched_so s runs (tied_in sessions s (all_dying ms t) i)) ∙ calm in absurd (cc)

      hops_are_there : (hops : HopSet) → In (s, hops) near.rows → hops ≡ hops_by (under sessions senders late.paths.facts s).rows
      hops_are_there hops i =
          hops_had n 0 test (s, hops) i
          ∙ hops_stay t first ms word settled short s none_dies 0
          ∙ ap (λ (z : State). hops_in (facts_of (0 + ms) z) s) (sym now)
          ∙ sym (hops_are (0 + ms) m s)

      was_there : IsStill m s first
      was_there d e =
          said.at 0 (lane_by s e) ∙ toward_stays t first ms word settled short s none_dies 0 e
          ∙ ap (λ (z : State). toward z.place (facts_of (0 + ms) z) (lane_by s e)) (sym now) ∙ toward_clock m (0 + ms) d (lane_by s e)

    -- as the code tests it
    module _ (due : List Session) (touched : Marks) (due_is : due ≡ keys fired) (touched_is : touched ≡ watched) where
      came_so : (s : Session) → is_among due s ≡ true → has fired s ≡ true
      came_so s h = sym (among_keys fired s) ∙ ap (λ xs. is_among xs s) (sym due_is) ∙ h

      calm_so : (s : Session) → is_touched touched s ≡ false → is_touched watched s ≡ false
      calm_so s h = ap (λ (z : Marks). is_touched z s) (sym touched_is) ∙ h

      pub still_first : AreStill m first due touched
      still_first s h calm = was_there s (came_so s h) (calm_so s calm)

      pub near_still : AreNear late.paths.facts near due touched
      near_still s hops i h calm = hops_are_there s (came_so s h) (calm_so s calm) hops i

      -- and after lanes were cleared
      pub still_cleared : (clear : Said) → AreCleared m near.rows clear → AreStill (state_of late clear) clear due touched
      still_cleared clear cleared s h calm d e =
          ⊎_elim
          (λ (a : said_at clear (lane_by s e) ≡ said_at first (lane_by s e)). a ∙ still_first s h calm d e)
          (λ (b : (said_at clear (lane_by s e) ≡ empty) × (has (lanes (facts_of d m)) (lane_by s e) ≡ false)). b.0 ∙ sym (nowhere m.place (facts_of d m) (lane_by s e) b.1))
          (cleared.at d (lane_by s e))

    module _ (clear : Said) (cleared : AreCleared m near.rows clear) where
      cleared_at : (c : ℕ) → AreCleared m (each (with_hops (facts_of c n)) ss) clear
      cleared_at c = subst (λ (es : List SessionHops). AreCleared m es clear) (near_rows n c test) cleared

      pub roomy : IsRoomy m clear
      roomy = cleared_is_roomy ss n m rounds 0 clear (cleared_at 0)

      passed_cleared : (c : ℕ) → AreCleared (passed ms word n) (each (with_hops (facts_of c n)) ss) clear
      passed_cleared c = subst (λ (z : State). AreCleared z (each (with_hops (facts_of c n)) ss) clear) now (cleared_at c)

      -- last are the tables without the marks
      module _ (last : Tables) (marks : (c : ℕ) → last ≡ record late { wants = wants_told c (state_of late clear) clear ss }) (any : Said) where
        pub facts_last : (c : ℕ) → facts_of (c + ms) (state_of last any) ≡ facts_after n.place n.place (c + ms) (Wait ms word) (facts_of c n)
        facts_last c =
            ap (λ (z : Tables). facts_of (c + ms) (state_of z any)) (marks (c + ms))
            ∙ ap (λ ws. facts_of (c + ms) (record m { wants = ws })) (wants_any m clear (c + ms) clear ss)
            ∙ ap (λ (z : State). facts_of (c + ms) (record z { wants = wants_told (c + ms) z clear ss })) now
            ∙ wait_is_rounds.facts ss ms word n passed_over c clear (passed_cleared c)

        pub settled_last : IsSettled (state_of last any)
        settled_last = subst (λ (z : Tables). IsSettled (state_of z any)) (sym (marks 0)) (record { counted = settled_late.counted; named = settled_late.named })

        pub place_last : last.config ≡ t.config
        place_last = ap (λ (z : Tables). z.config) (marks 0) ∙ ap (λ (z : State). z.place) now

        pub sound_last : AreSound late → AreSound last
        sound_last sound =
            subst AreSound (sym (marks 0))
            (record { pulled = record { paths = sound.pulled.paths; wild = sound.pulled.wild; fixed = sound.pulled.fixed; shared = sound.pulled.shared }; booked = sound.booked; few = sound.few })

        pub said_after : (final : Said) → AreTold (state_of late clear) ss final → IsRoomy (state_of late clear) final → IsSaid final (state_of last final)
        said_after final told room =
            let all = rounds_are_said.said ss n m rounds 0 clear (cleared_at 0) final told (record { some = room.some; within = room.within }) in
            let without = rounds_are_said.unmarked m 0 clear ss final all in
            let same = marks 0 ∙ ap (λ ws. record late { wants = ws }) (wants_any m clear 0 clear ss) in
            subst (λ (z : Tables). IsSaid final (state_of z final)) (sym same) (record { at = without.at; some = without.some })

      -- what is sent, in four parts
      pub sent_all : (c : ℕ)
          → gone_told n.place (facts_of c n) (facts_of (c + ms) m) (keys (dying_paths ms t.paths.facts))
          ++ (flat_map (torn_near (c + ms) m first) near.rows
          ++ (flat_map (refreshed n.place (facts_of (c + ms) m)) (keys fired)
          ++ flat_map (λ s. told_round (c + ms) (state_of late clear) (is_among (keys fired) s) clear s) ss))
          ≡ sent_after n.place n.place (c + ms) (Wait ms word) (facts_of c n)
      sent_all c =
          let dead = keys (dying_paths ms t.paths.facts) in
          let rows = near_rows n c test in
          let told : flat_map (λ s. told_round (c + ms) (state_of late clear) (is_among (keys fired) s) clear s) ss ≡ flat_map (λ s. told_round (c + ms) m (has fired s) clear s) ss =
          λ i. flat_map (λ s. (ap (λ b. told_round (c + ms) (state_of late clear) b clear s) (among_keys fired s) ∙ told_any m clear (c + ms) (has fired s) clear s) i) ss in
          (λ i. gone_told n.place (facts_of c n) (facts_of (c + ms) m) dead ++ (flat_map (torn_near (c + ms) m first) (rows i) ++
          (flat_map (refreshed n.place (facts_of (c + ms) m)) (keys fired) ++ told i)))
          ∙ ap (λ (z : State). gone_told n.place (facts_of c n) (facts_of (c + ms) z) dead ++
          (flat_map (torn_near (c + ms) z first) (each (with_hops (facts_of c n)) ss) ++
          (flat_map (refreshed n.place (facts_of (c + ms) z)) (keys fired) ++ flat_map (λ s. told_round (c + ms) z (has fired s) clear s) ss))) now
          ∙ wait_is_rounds.sent ss ms word n passed_over c clear (passed_cleared c)

-- ---- four lists of sends, one after another
pub four_sent : {B : Type 0} (posted : B → Send → B) (start one two three four : B) (p q r s : List Send) → one ≡ fold posted start p → two ≡ fold posted one q → three ≡ fold posted two r
    → four ≡ fold posted three s
    → four ≡ fold posted start (p ++ (q ++ (r ++ s)))
four_sent posted start one two three four p q r s a b c d =
    d ∙ ap (λ o. fold posted o s) c ∙ sym (fold-append posted two r s) ∙ ap (λ o. fold posted o (r ++ s)) b ∙ sym (fold-append posted one q (r ++ s)) ∙ ap (λ o. fold posted o (q ++ (r ++ s))) a
    ∙ sym (fold-append posted start p (q ++ (r ++ s)))
