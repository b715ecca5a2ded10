-- What a ResvErr does, case by case.
use Rattle.std.specs.Prelude.{◌≡◌, ℕ, nat_le, Bool, true, false, cond, not, ◌&&◌, ◌||◌, List, [], ◌∷◌, map as each, length, ◌==◌, Option, Some, None, IsTrue, ◌↔◌, refl}
use Rattle.std.proofs.Common.{eq-eqb, sym, ap, ◌∙◌, arith}
use Rattle.std.proofs.lemmas.Bool.{ne_eqb}
use Rattle.std.specs.List.{list_any}
use Rattle.path_state.specs.Paths.{AreByKey, via as kept_via}
use Rattle.blockade_state.specs.Blockades.{WallMap}
use Rattle.resv_state.specs.Resvs.{ResvFacts}
use Rattle.resv_state.specs.Walks.{rests}
use Rattle.rsvp_base.specs.Orders.{Names, sessions}
use Rattle.rsvp_base.specs.Sets.{is_none}
use Rattle.rsvp_base.specs.Table.{changed, changed_rows, kept_row, size, values}
use Rattle.rsvp_base.specs.Under.{under}
use Rattle.rsvp_base.specs.declared.session.Sender.{Sender}
use Rattle.rsvp_base.specs.declared.session.Session.{Session}
use Rattle.rsvp_base.specs.declared.style.StyleKind.{StyleKind}
use Rattle.rsvp_messages.specs.declared.message.ResvErrMsg.{ResvErrMsg}
use Rattle.style_rules.specs.Lines.{NextHop}
use Rattle.style_rules.specs.Ways.{WayTable}
use Rattle.router_rules.specs.declared.answers.Heard.TheVariants as heard
use Rattle.router_rules.specs.declared.answers.Why.TheVariants as why
use Rattle.router_rules.specs.Errors.{errors_on, lane_of as err_lane, sets_walls, walls_after, walls_heard, walls_with}
use Rattle.router_rules.specs.Facts.{Facts, PathState, Walls, paths_in, resvs_of}
use Rattle.router_rules.specs.Known.{came_by}
use Rattle.router_rules.specs.Sends.{error_sends}
use Rattle.laws_sends.specs.State.{State, facts_of, resv_at, wall_at}
use Rattle.laws_sends.specs.Seen.{lane_of, up_at}
use Rattle.laws_sends.proofs.Via.{via_same}
use Rattle.error_sends.specs.Going.{errors_told}
use Rattle.error_sends.specs.ResvErrs.{have_room, resv_err_facts, resv_err_heard, resv_err_sent, walls_set}
use Rattle.error_sends.proofs.Going.{errors_are}
use Rattle.error_sends.proofs.Blockading.{room_told, walls_told}

-- ---- previous hops
tested : (b : Bool) (k : Sender) (es : List (Sender × Unit {0})) (rest : Bool) → (length es == 0) ≡ not rest
    → (length (kept_row k (cond {A = Option (Unit {0})} b (Some tt) None) es) == 0) ≡ not (b || rest)
tested true k es rest h = ne_eqb (length ((k, tt) ∷ es)) 0 (λ n. omega (arith, n))
tested false k es rest h = h

someone : (hop : NextHop) (es : List (Sender × PathState)) → (length (changed_rows (λ k x. cond {A = Option (Unit {0})} (came_by hop x) (Some tt) None) es) == 0)
    ≡ not (list_any (came_by hop) (each (λ e. e.1) es))
someone hop [] = refl
someone hop (e ∷ es) = tested (came_by hop e.1) e.0 (changed_rows (λ k x. cond {A = Option (Unit {0})} (came_by hop x) (Some tt) None) es) (list_any (came_by hop) (each (λ e. e.1) es))
    (someone hop es)

pub empty_is : (s : Names) (b : Bool) → IsTrue b ↔ (size s ≡ 0) → b ≡ is_none s
empty_is s b tells = by b (size s) tells
  where
    by : (b : Bool) (k : ℕ) → IsTrue b ↔ (k ≡ 0) → b ≡ (k == 0)
    by true k t = sym (eq-eqb k 0 (t.0 refl))
    by false k t = sym (ne_eqb k 0 (λ e. let z : false ≡ true = t.1 e in cc))

twice : (b : Bool) → not (not b) ≡ b
twice true = refl
twice false = refl

pub some_via : (c : ℕ) (n : State) (s : Session) (hop : NextHop) → AreByKey n.paths → not (is_none (kept_via n.paths s hop.0 hop.1)) ≡ list_any (came_by hop) (values (paths_in (facts_of c n) s))
some_via c n s hop keyed = ap (λ (z : Names). not (is_none z)) (via_same c n s hop keyed) ∙ ap not (someone hop (paths_in (facts_of c n) s).rows)
    ∙ twice (list_any (came_by hop) (values (paths_in (facts_of c n) s)))

-- ---- the cases
module _ (c : ℕ) (n : State) (e : ℕ) (m : ResvErrMsg) where
  abbrev f : Facts
  f = facts_of c n

  abbrev new : Walls
  new = walls_with n.place c e m m.blame.flow f.walls

  abbrev pub from : Bool
  from = list_any (came_by (e, m.hop.addr)) (values (paths_in f m.session))

  abbrev room : Bool
  room = not (sets_walls m) || nat_le (size new) 512

  abbrev pub has_room : Bool
  has_room = have_room n.place e m n.walls

  room_is : has_room ≡ room
  room_is = room_told n.place e m n.walls c

  module _ (a b : Bool) (is_from : from ≡ a) (is_room : has_room ≡ b) where
    fits : room ≡ b
    fits = sym room_is ∙ is_room

    pub heard_is : walls_heard a b ≡ resv_err_heard c n e m
    unfolding resv_err_heard
    heard_is = sym (λ i. walls_heard (is_from i) (fits i))

    facts_with : (w : WallMap) → changed (wall_at c) w ≡ walls_after a b new f.walls → facts_of c (record n { walls = w }) ≡ resv_err_facts c n e m
    unfolding resv_err_facts
    facts_with w is = (λ i. record f { walls = is i }) ∙ sym (λ i. record f { walls = walls_after (is_from i) (fits i) new f.walls })

    sent_as : cond (a && b) (errors_on n.place (record f { walls = walls_after a b new f.walls }) (err_lane e m) m) []
        ≡ cond (from && room) (errors_on n.place (record f { walls = walls_after from room new f.walls }) (err_lane e m) m) []
    sent_as = sym (λ i. cond (is_from i && fits i) (errors_on n.place (record f { walls = walls_after (is_from i) (fits i) new f.walls }) (err_lane e m) m) [])

    pub nothing_sent : (a && b) ≡ false → [] ≡ resv_err_sent c n e m
    unfolding resv_err_sent
    nothing_sent off = ap error_sends (sym (ap (λ t. cond t (errors_on n.place (record f { walls = walls_after a b new f.walls }) (err_lane e m) m) []) off) ∙ sent_as)

  -- it came from elsewhere
  module _ (off : from ≡ false) where
    pub elsewhere_heard : heard.Dropped why.NoState ≡ resv_err_heard c n e m
    elsewhere_heard = heard_is false has_room off refl

    pub elsewhere_facts : facts_of c n ≡ resv_err_facts c n e m
    elsewhere_facts = facts_with false has_room off refl n.walls refl

    pub elsewhere_sent : [] ≡ resv_err_sent c n e m
    elsewhere_sent = nothing_sent false has_room off refl refl

  -- the blockades have not all room
  module _ (on : from ≡ true) (off : has_room ≡ false) where
    pub full_heard : heard.Dropped why.Full ≡ resv_err_heard c n e m
    full_heard = heard_is true false on off

    pub full_facts : facts_of c n ≡ resv_err_facts c n e m
    full_facts = facts_with true false on off n.walls refl

    pub full_sent : [] ≡ resv_err_sent c n e m
    full_sent = nothing_sent true false on off refl

  -- the blockades of the rule, with what is left of them
  pub set_told : (w : WallMap) → w ≡ walls_set n.place e m m.blame.flow n.walls → changed (wall_at c) w ≡ new
  set_told w is = ap (changed (wall_at c)) is ∙ walls_told n.place e m n.walls c m.blame.flow

  -- they have
  module _ (on : from ≡ true) (some : has_room ≡ true) (w : WallMap) (told : changed (wall_at c) w ≡ new) where
    pub taken_heard : heard.Taken ≡ resv_err_heard c n e m
    taken_heard = heard_is true true on some

    pub taken_facts : facts_of c (record n { walls = w }) ≡ resv_err_facts c n e m
    taken_facts = facts_with true true on some w told

    abbrev after : State
    after = record n { walls = w }

    pub taken_sent : (st : StyleKind) → m.blame.style ≡ st → (t : ResvFacts) → resvs_of m.blame.style f ≡ changed (resv_at c) t → (up : WayTable)
        → up ≡ up_at c after m.session m.blame.style (e, m.hop.addr)
        → errors_told n.place up m st (under sessions rests t m.session).rows ≡ resv_err_sent c n e m
    unfolding up_at resv_err_sent
    taken_sent st style t table up up_is =
        (λ i. errors_told n.place (up_is i) m (sym style i) (under sessions rests t m.session).rows)
        ∙ sym (errors_are n.place (facts_of c after) (lane_of m.session m.blame.style (e, m.hop.addr)) m c t table)
        ∙ ap error_sends ((λ i. errors_on n.place (record f { walls = told i }) (err_lane e m) m) ∙ sent_as true true on some)

  -- ---- one that was heard goes on where it was taken
  both : (a b : Bool) → heard.Taken ≡ walls_heard a b → (a ≡ true) × (b ≡ true)
  both true true h = (refl, refl)
  both true false h = cc
  both false b h = cc

  neither : (a b : Bool) → (heard.Taken ≡ walls_heard a b → ⊥) → (a && b) ≡ false
  neither true true off = absurd (off refl)
  neither true false off = refl
  neither false b off = refl

  module _ (w : WallMap) (is : facts_of c (record n { walls = w }) ≡ resv_err_facts c n e m) where
    pub was_taken : heard.Taken ≡ resv_err_heard c n e m → (from ≡ true) × (has_room ≡ true) × (changed (wall_at c) w ≡ new)
    unfolding resv_err_heard resv_err_facts
    was_taken h =
        let b = both from room h in
        (b.0, room_is ∙ b.1, ap (λ (z : Facts). z.walls) is ∙ (λ i. walls_after (b.0 i) (b.1 i) new f.walls))

  pub not_taken : (heard.Taken ≡ resv_err_heard c n e m → ⊥) → [] ≡ resv_err_sent c n e m
  unfolding resv_err_heard
  not_taken off = nothing_sent from has_room refl refl (ap (λ b. from && b) room_is ∙ neither from room off)
