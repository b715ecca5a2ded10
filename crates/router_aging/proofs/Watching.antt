-- What is to be looked at after a wait, by the tables.
use Rattle.std.specs.Prelude.{◌≡◌, ℕ, ◌+◌, ◌≤◌, ◌<◌, true, false, cond, nat_le, is_some, List, Some, None}
use Rattle.std.specs.List.{list_any}
use Rattle.std.specs.Ordering.{eq_by_cmp}
use Rattle.std.proofs.Common.{sym, ap, ◌∙◌, arith}
use Rattle.std.proofs.lemmas.Bool.{le-leb, leb-false, leb-true}
use Rattle.rsvp_base.specs.Members.{In}
use Rattle.rsvp_base.specs.Orders.{sessions}
use Rattle.rsvp_base.specs.Table.{get, has}
use Rattle.rsvp_base.specs.declared.session.Session.{Session}
use Rattle.rsvp_base.specs.declared.style.StyleKind.{StyleKind}
use Rattle.rsvp_base.specs.declared.style.StyleKind.TheVariants.{Wild, Fixed, Shared}
use Rattle.rsvp_base.proofs.Members.{tied_in}
use Rattle.rsvp_base.proofs.SetLaws.{or_right}
use Rattle.rsvp_base.proofs.Tables.{either, get-changed, got_changed, then_do}
use Rattle.path_state.specs.Paths.{path_keys}
use Rattle.resv_state.specs.declared.fact.ResvFact.{ResvFact}
use Rattle.style_rules.specs.Lines.{LineKey, line_keys}
use Rattle.style_rules.specs.Targets.{wall_keys}
use Rattle.router_rules.specs.Facts.{Blockade, PathState, ResvState, SenderKey, resvs_of}
use Rattle.router_rules.specs.Known.{Lane, lanes}
use Rattle.router_rules.specs.Waiting.{act_wait}
use Rattle.laws_bounds.proofs.Knowing.{counted_made, has-known, lanes_told}
use Rattle.laws_bounds.proofs.Leaving.{waiting_leaves_the_living}
use Rattle.laws_bounds.proofs.Lists.{some_same}
use Rattle.path_sends.specs.RouterState.State.{IsCounted, State, due_at, facts_of, path_at, resv_at, table_in, wall_at}
use Rattle.laws_sends.specs.Several.{is_among}
use Rattle.laws_sends.specs.Waits.{IsUnharmed}
use Rattle.router_aging.specs.Passing.{dies_in, dying_paths}
use Rattle.router_aging.specs.Watching.{DyingAreWatched, HasAllDying}

-- what is later than now and some time has more left
later : (c ms left : ℕ) → (left ≤ ms → ⊥) → c + ms < c + left
later c ms left never = either (nat_le left ms) (λ t. absurd (never (leb-true left ms t))) (λ t. let more = leb-false left ms t in omega (arith, more))

module _ (n : State) (c ms word : ℕ) (all : List Session) (counted : IsCounted n) (dying : HasAllDying ms n all) (ss : List Session)
    (died : (s : Session) → has n.due s ≡ true → list_any (eq_by_cmp sessions.cmp s) all ≡ true → is_among ss s ≡ true)
    (due : (s : Session) (left : ℕ) → get n.due s ≡ Some left → left ≤ ms → is_among ss s ≡ true)
  where
    -- a session with a previous hop has a countdown
    runs : (l : Lane) → has (lanes (facts_of c n)) l ≡ true → has n.due l.session ≡ true
    runs l h =
        let r = lanes_told (facts_of c n) l h in
        let known = has-known (facts_of c n) l.session r.0 ∙ or_right (has n.senders (l.session, r.0)) (has (facts_of c n).paths (l.session, r.0)) (ap is_some r.1.there) in
        counted c l.session ∙ counted_made (facts_of c n) l.session r.0 known

    none_here : (l : Lane) → is_among ss l.session ≡ false → has (lanes (facts_of c n)) l ≡ true → In l.session all → ⊥
    none_here l off there i =
        let z : true ≡ false = sym (died l.session (runs l there) (tied_in sessions l.session all i)) ∙ off in
        absurd (cc)

    resv_was : (st : StyleKind) (k : LineKey) (r : ResvState) → get (resvs_of st (facts_of c n)) k ≡ Some r → (e : ResvFact × ℕ) × (get (table_in st n) k ≡ Some e) × (r.dies ≡ c + e.1)
    resv_was Wild k r h = let g = got_changed line_keys (resv_at c) n.wild k r h in (g.0, g.1, ap (λ (x : ResvState). x.dies) (sym (some_same _ r g.2)))
    resv_was Fixed k r h = let g = got_changed line_keys (resv_at c) n.fixed k r h in (g.0, g.1, ap (λ (x : ResvState). x.dies) (sym (some_same _ r g.2)))
    resv_was Shared k r h = let g = got_changed line_keys (resv_at c) n.shared k r h in (g.0, g.1, ap (λ (x : ResvState). x.dies) (sym (some_same _ r g.2)))

    unharmed : (l : Lane) → is_among ss l.session ≡ false → has (lanes (facts_of c n)) l ≡ true → IsUnharmed (c + ms) (facts_of c n) l.session
    unharmed l off there =
        let never = none_here l off there in
        record {
          paths = λ x v h.
              let g = got_changed path_keys (path_at c) n.paths (l.session, x) v h in
              let dies = ap (λ (y : PathState). y.dies) (sym (some_same _ v g.2)) in
              let more = later c ms g.0.1 (λ le. never (dying.paths (l.session, x) g.0 g.1 le)) in
              omega (arith, dies, more);
          resvs = λ st k r h.
              let g = resv_was st (l.session, k) r h in
              let dies = g.2 in
              let more = later c ms g.0.1 (λ le. never (dying.resvs st (l.session, k) g.0 g.1 le)) in
              omega (arith, dies, more);
          walls = λ t b h.
              let g = got_changed wall_keys (wall_at c) n.walls (l.session, t) b h in
              let dies = ap (λ (y : Blockade). y.dies) (sym (some_same _ b g.2)) in
              let more = later c ms g.0.1 (λ le. never (dying.walls (l.session, t) g.0 g.1 le)) in
              omega (arith, dies, more);
        }

    unfired : (s : Session) → is_among ss s ≡ false → has (act_wait n.place (c + ms) word (facts_of c n)).fired s ≡ false
    unfired s off =
        either (has (act_wait n.place (c + ms) word (facts_of c n)).fired s)
        (λ t.
        let r = (waiting_leaves_the_living.of_fired n.place (c + ms) word (facts_of c n) s).0 t in
        let g = got_changed sessions (due_at c) n.due s r.0 r.1 in
        let is : c + g.0 ≡ r.0 = some_same _ r.0 g.2 in
        let le : g.0 ≤ ms = omega (arith, is, r.2) in
        let z : true ≡ false = sym (due s g.0 g.1 le) ∙ off in
        absurd (cc))
        (λ e. e)

    dies_so : (k : SenderKey) (v : PathState) → get (facts_of c n).paths k ≡ Some v → v.dies ≤ c + ms → has (dying_paths ms n.paths) k ≡ true
    dies_so k v h le =
        let g = got_changed path_keys (path_at c) n.paths k v h in
        let dies = ap (λ (y : PathState). y.dies) (sym (some_same _ v g.2)) in
        let short : g.0.1 ≤ ms = omega (arith, dies, le) in
        ap is_some (get-changed path_keys (dies_in ms) n.paths k ∙ ap (λ w. then_do w (dies_in ms k)) g.1 ∙ ap (λ b. cond b (Some tt) None) (le-leb g.0.1 ms short))

pub dying_are_watched : DyingAreWatched
dying_are_watched n c ms word all counted dying ss up died due =
    record {
      sessions = up;
      others = unharmed n c ms word all counted dying ss died due;
      fired = unfired n c ms word all counted dying ss died due;
      dying = dies_so n c ms word all counted dying ss died due;
    }
