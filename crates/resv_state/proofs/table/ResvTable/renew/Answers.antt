use Rattle.std.proofs.Common.{◌≡◌, ℕ, rules, true, false, Some, map as each, refl, sym, ap, subst, ◌∙◌}
use Rattle.std.specs.FinMap.Entries.{find}
use Rattle.std.specs.Option.{option_map}
use Rattle.rsvp_base.specs.Rows.{table_of}
use Rattle.rsvp_base.specs.Table.{Table, changed, changed_rows, get, put_in, same_rows}
use Rattle.rsvp_base.proofs.Tables.{either}
use Rattle.soft_table.specs.Facts.{Kept, facts_by}
use Rattle.style_rules.specs.Limits.{IsWithinLimits}
use Rattle.style_rules.specs.Lines.{LineKey, line_keys}
use Rattle.resv_state.specs.declared.fact.Held.{Held}
use Rattle.resv_state.specs.declared.fact.ResvFact.{ResvFact}
use Rattle.resv_state.specs.Resvs.{AreOfStyle, AreUnderTheirKeys, ResvFacts, ResvMap, asked_in, dead_of, dead_row, fact_of, held_key, held_row, resv_key, resv_lines, wish_kept}
use Rattle.resv_state.proofs.Facts.{no_dead, same_map}
use Rattle.resv_state.proofs.Asked.{as_asked, asked_is, held_said, renew_said, renew_style, renew_within, stood_said}
use Rattle.resv_state.proofs.Refresh.{held_by}
use Rattle.resv_state.proofs.table.ResvTable.renew.Goals as goal
use Rattle.resv_state.proofs.table.ResvTable.renew.Goals.{After-renew_if}

pub renew_if-requires-clause-pulled : goal.renew_if-requires-clause-pulled
renew_if-requires-clause-pulled g c = no_dead c.self.inside.table.dead (ap (λ (m : ResvMap). m.dead.rows) c.self.view_is ∙ c.requires.pulled)

-- what is asked for, and the key where it stands below
abbrev ask : (g : _) → After-renew_if g → ResvFact
ask g c = record { session = c.args.session; iface = c.args.iface; next = c.args.next; part = c.args.part.now; confirm = c.args.confirm }

abbrev at : (g : _) → After-renew_if g → LineKey
at g c = (c.args.session, ((c.args.iface, c.args.next), c.unit_of.result))

own : (g : _) (c : After-renew_if g) → at g c ≡ resv_key g.S.Style.kind_is (ask g c)
own g c = ap (λ u. (c.args.session, ((c.args.iface, c.args.next), u))) c.unit_of.ensures

abbrev was : (g : _) → After-renew_if g → ResvFacts
was g c = changed fact_of (table_of line_keys held_row c.self.inside.table.facts c.self.inside.facts)

-- the test that it passed, or did not
passed : (g : _) (c : After-renew_if g) (e : c.renew_if.result ≡ true) → ((c.renew_if.ensures.renewed e).0.fact.part ≡ c.args.part.now)
    × ((c.renew_if.ensures.renewed e).0.fact.confirm ≡ wish_kept c.args.confirm (c.renew_if.ensures.renewed e).0.fact.confirm)
passed g c e = let r = c.renew_if.ensures.renewed e in let post = r.3 in search rules

not_passed : (g : _) (c : After-renew_if g) (e : c.renew_if.result ≡ false) (h : Held) (left : ℕ) → find line_keys.cmp (at g c) (facts_by held_key c.self.inside.table.facts) ≡ Some (h, left)
    → h.fact.part ≡ c.args.part.now → h.fact.confirm ≡ wish_kept c.args.confirm h.fact.confirm → ⊥
not_passed g c e h left is part wish = let post = c.renew_if.ensures.other e h left is in search rules

-- the map after it
after : (g : _) (c : After-renew_if g) (e : c.renew_if.result ≡ true) (n : ResvFacts) → n.rows ≡ changed_rows fact_of (each held_row c.renew_if.new.self.facts)
    → n ≡ put_in (was g c) (at g c) ((c.renew_if.ensures.renewed e).0.fact, c.args.left)
after g c e n is = let r = c.renew_if.ensures.renewed e in renew_said c.self.inside.table.facts c.self.inside.facts (at g c) r.0 r.1 r.2 c.args.left n (is ∙ ap (changed_rows fact_of) r.4)

after_no : (g : _) (c : After-renew_if g) (e : c.renew_if.result ≡ false) (n : ResvFacts) → n.rows ≡ changed_rows fact_of (each held_row c.renew_if.new.self.facts) → n ≡ was g c
after_no g c e n is = same_rows n (was g c) (is ∙ ap (λ (t : Kept Held). changed_rows fact_of (each held_row t.facts)) (c.renew_if.ensures.unchanged e))

-- the reservation that stood
stood : (g : _) (c : After-renew_if g) (e : c.renew_if.result ≡ true) → let r = c.renew_if.ensures.renewed e in get (was g c) (at g c) ≡ Some (r.0.fact, r.1)
stood g c e = let r = c.renew_if.ensures.renewed e in stood_said c.self.inside.table.facts c.self.inside.facts (at g c) r.0 r.1 r.2

pub invariant_of-self-inside : goal.invariant_of-self-inside
invariant_of-self-inside g c =
    let st = g.S.Style.kind_is in
    let n : ResvFacts = changed fact_of (table_of line_keys held_row c.renew_if.new.self.facts c.renew_if.ensures.order.0) in
    let d : Table line_keys ResvFact = changed dead_of (table_of line_keys dead_row c.renew_if.new.self.dead c.renew_if.ensures.order.1) in
    let gone : d ≡ changed dead_of (table_of line_keys dead_row c.self.inside.table.dead c.self.inside.dead) =
    same_rows d (changed dead_of (table_of line_keys dead_row c.self.inside.table.dead c.self.inside.dead)) (ap (λ hs. changed_rows dead_of (each dead_row hs)) c.renew_if.ensures.dead) in
    let style : AreOfStyle st n =
    either c.renew_if.result
    (λ yes. let r = c.renew_if.ensures.renewed yes in subst (λ (x : ResvFacts). AreOfStyle st x) (sym (after g c yes n refl))
    (renew_style st (was g c) (at g c) r.0.fact r.1 c.args.left (stood g c yes) c.self.inside.style))
    (λ no. subst (λ (x : ResvFacts). AreOfStyle st x) (sym (after_no g c no n refl)) c.self.inside.style) in
    let within : IsWithinLimits st (resv_lines st n) =
    either c.renew_if.result
    (λ yes.
    let r = c.renew_if.ensures.renewed yes in subst (λ (x : ResvFacts). IsWithinLimits st (resv_lines st x)) (sym (after g c yes n refl))
    (renew_within st (was g c) (at g c) r.0.fact r.1 c.args.left (stood g c yes) c.self.inside.within))
    (λ no. subst (λ (x : ResvFacts). IsWithinLimits st (resv_lines st x)) (sym (after_no g c no n refl)) c.self.inside.within) in (
      c.renew_if.ensures.order.0,
      (
        c.renew_if.ensures.order.1,
        (
          c.renew_if.ensures.room ∙ c.self.inside.room,
          (style, (subst (λ (x : Table line_keys ResvFact). AreUnderTheirKeys st x) (sym gone) c.self.inside.gone, (within, tt))),
        ),
      ),
    )

-- the map and the reservation that is asked for, as callers know them
now : (g : _) (c : After-renew_if g) → was g c ≡ c.args.self.now.facts
now g c = ap (λ (z : ResvMap). z.facts) c.self.view_is

stood_now : (g : _) (c : After-renew_if g) (e : c.renew_if.result ≡ true) → let r = c.renew_if.ensures.renewed e in
    get c.args.self.now.facts (resv_key g.S.Style.kind_is (ask g c)) ≡ Some (r.0.fact, r.1)
stood_now g c e = (λ i. get (sym (now g c) i) (sym (own g c) i)) ∙ stood g c e

is_asked : (g : _) (c : After-renew_if g) (e : c.renew_if.result ≡ true) → (c.renew_if.ensures.renewed e).0.fact ≡ asked_in g.S.Style.kind_is c.args.self.now.facts (ask g c)
is_asked g c e =
    let st = g.S.Style.kind_is in
    let r = c.renew_if.ensures.renewed e in
    let two = passed g c e in
    as_asked st c.args.self.now.facts (ask g c) (subst (λ (m : ResvFacts). AreOfStyle st m) (now g c) c.self.inside.style) r.0.fact r.1 (stood_now g c e) two.0 two.1

no_other : (g : _) (c : After-renew_if g) → c.renew_if.result ≡ false → option_map (λ (e : ResvFact × ℕ). e.0) (get c.args.self.now.facts (resv_key g.S.Style.kind_is (ask g c)))
    ≡ Some (asked_in g.S.Style.kind_is c.args.self.now.facts (ask g c)) → ⊥
no_other g c f is =
    let st = g.S.Style.kind_is in
    let m = c.args.self.now.facts in
    let e = held_by (get m (resv_key st (ask g c))) (asked_in st m (ask g c)) is in
    let x = held_said c.self.inside.table.facts c.self.inside.facts (at g c) e.0 ((λ i. get (now g c i) (own g c i)) ∙ e.1) in
    let same : x.0.0.fact ≡ e.0.0 = ap (λ (z : ResvFact × ℕ). z.0) x.2 in
    let two = asked_is st m (ask g c) e.0.0 e.0.1 e.1 e.2 in
    not_passed g c f x.0.0 x.0.1 x.1 (subst (λ (d : ResvFact). d.part ≡ c.args.part.now) (sym same) two.0) (subst (λ (d : ResvFact). d.confirm ≡ wish_kept c.args.confirm d.confirm) (sym same) two.1)

pub returns-clause-stands : goal.returns-clause-stands
returns-clause-stands g c = (
  λ yes. ap (option_map (λ (e : ResvFact × ℕ). e.0)) (stood_now g c.before yes) ∙ ap Some (is_asked g c.before yes),
  λ is. either c.renew_if.result (λ yes. yes) (λ other. absurd (no_other g c.before other is)),
)

pub returns-clause-renewed : goal.returns-clause-renewed
returns-clause-renewed g c = λ e.
    same_map _ _
    (after g c.before e _ refl ∙ (λ i. put_in (now g c.before i) (own g c.before i) (is_asked g c.before e i, c.args.left)))
    (same_rows _ (changed dead_of (table_of line_keys dead_row c.self.inside.table.dead c.self.inside.dead)) (ap (λ hs. changed_rows dead_of (each dead_row hs)) c.renew_if.ensures.dead)
    ∙ ap (λ (z : ResvMap). z.dead) c.self.view_is)

pub returns-clause-unchanged : goal.returns-clause-unchanged
returns-clause-unchanged g c = λ e.
    same_map _ _
    (after_no g c.before e _ refl ∙ now g c.before)
    (same_rows _ (changed dead_of (table_of line_keys dead_row c.self.inside.table.dead c.self.inside.dead)) (ap (λ hs. changed_rows dead_of (each dead_row hs)) c.renew_if.ensures.dead)
    ∙ ap (λ (z : ResvMap). z.dead) c.self.view_is)
