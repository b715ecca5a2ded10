-- The lanes of one session after another are told, and its marks taken away.
use Rattle.std.specs.Prelude.{◌≡◌, ℕ, Bool, true, false, not, ◌&&◌, ◌||◌, List, [], ◌∷◌, ◌++◌, Option, Some, None, refl}
use Rattle.std.specs.Ordering.{eq_by_cmp}
use Rattle.std.proofs.Common.{sym, ap, subst, ◌∙◌}
use Rattle.std.proofs.lemmas.List.Folds.{list_any-append}
use Rattle.rsvp_base.specs.Members.{In}
use Rattle.rsvp_base.specs.Orders.{sessions, units}
use Rattle.rsvp_base.specs.Sets.{Set}
use Rattle.rsvp_base.specs.Table.{changed, has, keys}
use Rattle.rsvp_base.specs.Under.{under}
use Rattle.rsvp_base.specs.declared.session.Session.{Session}
use Rattle.rsvp_base.proofs.Changed.{changed_same, changed_twice, unchanged, under_changed}
use Rattle.rsvp_base.proofs.SetLaws.{or_false}
use Rattle.rsvp_base.proofs.Tables.{either, tied_same, tied_self}
use Rattle.style_rules.specs.Lines.{next_hops}
use Rattle.router_rules.specs.Facts.{Want, WantKey, want_keys, wants_in}
use Rattle.router_rules.specs.Known.{Lane}
use Rattle.router_rules.specs.Requests.{toward}
use Rattle.router_state.specs.State.{Said, State, facts_of, said_at}
use Rattle.laws_sends.specs.Before.{lanes_by}
use Rattle.laws_sends.specs.Marks.{unmarked_in, used_in}
use Rattle.laws_sends.specs.Saying.{IsTold, SessionLane, lane_by, told_lane, told_seen}
use Rattle.laws_sends.specs.SendsHere.{hops_in}
use Rattle.laws_sends.proofs.Marks.{marks_do_not_matter}
use Rattle.laws_sends.proofs.Telling.{are_lanes}
use Rattle.laws_sends.specs.Several.{is_among}
use Rattle.router_rounds.specs.Rounds.{AreTold, told_round, unmarked_among, used_of, wants_once, wants_told}
use Rattle.router_rounds.proofs.Alike.{flat_among, told_so, used_so}

pub among_more : (xs : List Session) (s q : Session) → is_among (xs ++ s ∷ []) q ≡ (is_among xs q || eq_by_cmp sessions.cmp s q)
among_more xs s q = list_any-append (λ z. eq_by_cmp sessions.cmp z q) xs (s ∷ []) ∙ ap (λ b. is_among xs q || b) (or_false (eq_by_cmp sessions.cmp s q))

-- ---- what is told does not depend on what the node has as said
module _ (m : State) (any : Said) (c : ℕ) where
  pub told_any : (due : Bool) (said : Said) (s : Session) → told_round c (record m { said = any }) due said s ≡ told_round c m due said s
  unfolding told_round told_seen
  told_any due said s = refl

  pub once_any : (said : Said) (s : Session) → wants_once c (record m { said = any }) said s ≡ wants_once c m said s
  unfolding wants_once
  once_any said s = refl

  pub wants_any : (said : Said) (ss : List Session) → wants_told c (record m { said = any }) said ss ≡ wants_told c m said ss
  unfolding wants_told
  wants_any said ss = refl

-- m is the node, and `first` what was said when the first of the sessions was told
module _ (m : State) (first : Said) where
  abbrev start : State
  start = record m { said = first }

  -- with the marks of these sessions taken away
  abbrev pub later : ℕ → List Session → State
  later c xs = record m { wants = wants_told c m first xs }

  pub toward_kept : (c : ℕ) (xs : List Session) (d : ℕ) (l : Lane) → toward m.place (facts_of d (later c xs)) l ≡ toward m.place (facts_of d m) l
  unfolding wants_told
  toward_kept c xs d l = marks_do_not_matter (λ k w. w.confirm && not (is_among xs k.0 && has (used_of m.place (facts_of c m) first k.0) k.1)) m.place (facts_of d m) l

  -- the wants of another session have their marks
  wants_same : (c : ℕ) (xs : List Session) (d : ℕ) (s : Session) → is_among xs s ≡ false → wants_in (facts_of d (later c xs)) s ≡ wants_in (facts_of d m) s
  unfolding wants_told
  wants_same c xs d s off =
      under_changed sessions units (unmarked_among m.place (facts_of c m) first xs) m.wants s
      ∙ unchanged {X = Want} units (λ u. unmarked_among m.place (facts_of c m) first xs (s, u)) (under sessions units m.wants s)
      (λ u w there. ap (λ b. Some (record w { confirm = w.confirm && not (b && has (used_of m.place (facts_of c m) first s) u) })) off ∙ ap (λ b. Some (record w { confirm = b })) (and_true w.confirm))
    where
      and_true : (b : Bool) → (b && true) ≡ b
      and_true true = refl
      and_true false = refl

  pub told_nothing : AreTold start [] first
  told_nothing = record { here = λ c l t on. let z : false ≡ true = t in absurd (cc); rest = λ l off. refl }

  -- ---- without its marks
  pub wants_more : (c : ℕ) (xs : List Session) (s : Session) (used : Set units) → used ≡ used_of m.place (facts_of c m) first s
      → changed (unmarked_in s used) (wants_told c m first xs) ≡ wants_told c m first (xs ++ s ∷ [])
  unfolding wants_told
  wants_more c xs s used is =
      changed_twice want_keys (unmarked_among m.place (facts_of c m) first xs) (unmarked_in s used) m.wants
      ∙ changed_same {X = Want} {Y = Want} want_keys both (unmarked_among m.place (facts_of c m) first (xs ++ s ∷ [])) (λ k w. λ i. Some (record w { confirm = one k w i })) m.wants
    where
      own : Session → Set units
      own q = used_of m.place (facts_of c m) first q

      both : WantKey → Want → Option Want
      both k w = Some (record w { confirm = (w.confirm && not (is_among xs k.0 && has (own k.0) k.1)) && not (eq_by_cmp sessions.cmp s k.0 && has used k.1) })

      mine : (k : WantKey) (b : Bool) → eq_by_cmp sessions.cmp s k.0 ≡ b → (b && has used k.1) ≡ (b && has (own k.0) k.1)
      mine k true t = ap (λ (z : Set units). has z k.1) is ∙ ap (λ q. has (used_of m.place (facts_of c m) first q) k.1) (tied_same sessions s k.0 t)
      mine k false t = refl

      bools : (a b t h : Bool) → ((a && not (b && h)) && not (t && h)) ≡ (a && not ((b || t) && h))
      bools false b t h = refl
      bools true true t true = refl
      bools true true true false = refl
      bools true true false false = refl
      bools true false t h = refl

      one : (k : WantKey) (w : Want) → ((w.confirm && not (is_among xs k.0 && has (own k.0) k.1)) && not (eq_by_cmp sessions.cmp s k.0 && has used k.1))
          ≡ (w.confirm && not (is_among (xs ++ s ∷ []) k.0 && has (own k.0) k.1))
      one k w =
          ap (λ z. (w.confirm && not (is_among xs k.0 && has (own k.0) k.1)) && not z) (mine k (eq_by_cmp sessions.cmp s k.0) refl)
          ∙ bools w.confirm (is_among xs k.0) (eq_by_cmp sessions.cmp s k.0) (has (own k.0) k.1)
          ∙ ap (λ z. w.confirm && not (z && has (own k.0) k.1)) (sym (among_more xs s k.0))

  module _ (xs : List Session) (said : Said) (done : AreTold start xs said) (s : Session) (c : ℕ) where
    -- ---- what is said of its lanes, and of those that were told
    module _ (hops : Set next_hops) (near : (d : ℕ) → hops ≡ hops_in (facts_of d m) s) (new : Said)
        (next : IsTold (record m { wants = wants_told c m first xs; said = said }) s (lanes_by (keys hops)) new) where
      elsewhere : (l : Lane) → eq_by_cmp sessions.cmp s l.session ≡ false → said_at new l ≡ said_at said l
      elsewhere l off = next.rest l (λ e i is. let z : true ≡ false = sym (tied_self sessions s) ∙ ap (λ (q : Lane). eq_by_cmp sessions.cmp s q.session) (sym is) ∙ off in cc)

      pub told_more : AreTold start (xs ++ s ∷ []) new
      told_more = record {
        here = λ d l among on.
            either (eq_by_cmp sessions.cmp s l.session)
            (λ t.
            let g = (are_lanes s (facts_of d m)).all l on (sym (tied_same sessions s l.session t)) in
            ap (said_at new) g.2
            ∙ next.here d g.0 (subst (λ (hs : Set next_hops). In g.0 (lanes_by (keys hs))) (sym (near d)) g.1)
            ∙ toward_kept c xs d (lane_by s g.0) ∙ ap (toward m.place (facts_of d m)) (sym g.2))
            (λ off. elsewhere l off ∙ done.here d l (sym (or_false (is_among xs l.session)) ∙ ap (λ b. is_among xs l.session || b) (sym off) ∙ sym (among_more xs s l.session) ∙ among) on);
        rest = λ l off. let r = or_none (is_among xs l.session) (eq_by_cmp sessions.cmp s l.session) (sym (among_more xs s l.session) ∙ off) in elsewhere l r.1 ∙ done.rest l r.0;
      }
        where
          or_none : (a b : Bool) → (a || b) ≡ false → (a ≡ false) × (b ≡ false)
          or_none true b h = absurd (cc)
          or_none false b h = (refl, h)

    -- ---- what it is told, and the marks that it uses, as if it were the first
    module _ (off : is_among xs s ≡ false) where
      pub told_same : (d : ℕ) (due : Bool) → told_round d (later c xs) due said s ≡ told_round d m due first s
      unfolding told_round told_seen
      told_same d due =
          flat_among (λ e. told_lane m.place (facts_of d (later c xs)) (lane_by s e) None due (said_at said (lane_by s e)))
          (λ e. told_lane m.place (facts_of d m) (lane_by s e) None due (said_at first (lane_by s e)))
          (lanes_by (keys (hops_in (facts_of d m) s)))
          (λ e i.
          told_so m.place (facts_of d m) (wants_told c m first xs) s (wants_same c xs d s off) e due (said_at said (lane_by s e))
          ∙ ap (told_lane m.place (facts_of d m) (lane_by s e) None due) (done.rest (lane_by s e) off))

      pub used_same : (d : ℕ) (es : List SessionLane) → used_in m.place (facts_of d (later c xs)) s said es ≡ used_in m.place (facts_of d m) s first es
      used_same d es = used_so m.place (facts_of d m) (wants_told c m first xs) s (wants_same c xs d s off) said first es (λ e i. done.rest (lane_by s e) off)

      pub once_more : wants_once c (later c xs) said s ≡ wants_told c m first (xs ++ s ∷ [])
      unfolding wants_once
      once_more = wants_more c xs s (used_of m.place (facts_of c (later c xs)) said s) (used_same c (lanes_by (keys (hops_in (facts_of c m) s))))
