use Rattle.std.proofs.Common.{◌≡◌, ◌+◌, ◌&&◌, Bool, true, false, Some, cond, is_some, length, sym, ap, ◌∙◌}
use Rattle.std.specs.Option.{option_map}
use Rattle.std.specs.Prelude.{nat_le}
use Rattle.std.specs.FinMap.Entries.{find}
use Rattle.rsvp_base.specs.Rows.{table_of}
use Rattle.rsvp_base.specs.Table.{changed, get, size, put_in}
use Rattle.style_rules.specs.Limits.{within_limits}
use Rattle.style_rules.specs.Lines.{line_keys}
use Rattle.style_rules.proofs.Room.{within_tested}
use Rattle.soft_table.proofs.Valued.{get-valued}
use Rattle.soft_table.specs.Facts.{facts_by}
use Rattle.resv_state.specs.Resvs.{ResvMap, resv_key, resv_lines, held_key, held_row, fact_of}
use Rattle.resv_state.specs.Walks.{Rest, held_under, with_names}
use Rattle.resv_state.proofs.Facts.{no_dead, said}
use Rattle.resv_state.proofs.Refresh.{still_within}
use Rattle.resv_state.proofs.Limits.{fits_is, one_fact, one_session, few_facts, few_sessions}
use Rattle.resv_state.proofs.Merged.{held_few}
use Rattle.resv_state.proofs.table.ResvTable.fits.Goals as goal

pub fits_fact-requires-clause-pulled : goal.fits_fact-requires-clause-pulled
fits_fact-requires-clause-pulled g c = no_dead c.self.inside.table.dead (ap (λ (m : ResvMap). m.dead.rows) c.self.view_is ∙ c.requires.pulled)

pub fits_fact-requires-clause-few : goal.fits_fact-requires-clause-few
fits_fact-requires-clause-few g c = few_facts g.S.Style.kind_is c.self.inside.table.facts c.self.inside.facts c.args.fact.now.session (resv_key g.S.Style.kind_is c.args.fact.now).1
    (c.args.fact.now, 0) c.self.inside.within

pub fits_session-requires : goal.fits_session-requires
fits_session-requires g c = few_sessions g.S.Style.kind_is c.self.inside.table.facts c.self.inside.facts c.args.fact.now.session (resv_key g.S.Style.kind_is c.args.fact.now).1
    (c.args.fact.now, 0) c.self.inside.within

pub fits_hop-requires-clause-few : goal.fits_hop-requires-clause-few
fits_hop-requires-clause-few g c = held_few g.S.Style.kind_is c.self.inside.table.facts c.self.inside.facts c.args.fact.now.session c.self.inside.within

-- of conditions that all hold or not, the first
none_first : (x a rest w : Bool) → x ≡ false → x ≡ a → (a && rest) ≡ w → false ≡ w
none_first x true rest w is e all = absurd (let z : true ≡ false = sym e ∙ is in cc)
none_first x false rest w is e all = all

on_first : (x a rest w : Bool) → x ≡ true → x ≡ a → (a && rest) ≡ w → rest ≡ w
on_first x true rest w is e all = all
on_first x false rest w is e all = absurd (let z : false ≡ true = sym e ∙ is in cc)

pub returns-then-not-fits_fact : goal.returns-then-not-fits_fact
returns-then-not-fits_fact g c = λ left.
    let st = g.S.Style.kind_is in
    let s = c.args.fact.now.session in
    let r : Rest = (resv_key st c.args.fact.now).1 in
    let fs = c.self.inside.table.facts in
    let own : ◌≡◌ {A = Rest} ((c.args.fact.now.iface, c.args.fact.now.next), c.unit_of.result) r = ap (λ u. ((c.args.fact.now.iface, c.args.fact.now.next), u)) c.unit_of.ensures in
    let all = fits_is st fs c.self.inside.facts s r (c.args.fact.now, left) c.self.inside.within
    ∙ ap (λ (m : ResvMap). within_limits st (resv_lines st (put_in m.facts (resv_key st c.args.fact.now) (c.args.fact.now, left)))) c.self.view_is in
    let a = c.fits_fact.ensures ∙ ap (λ (q : Rest). nat_le (cond (is_some (find line_keys.cmp (s, q) (facts_by held_key fs))) (length fs) (length fs + 1)) 1024) own
    ∙ one_fact st fs c.self.inside.facts s r (c.args.fact.now, left) in
    none_first _ _ _ _ c.if-not-fits_fact.true a all

pub returns-then-not-fits_session : goal.returns-then-not-fits_session
returns-then-not-fits_session g c = λ left.
    let st = g.S.Style.kind_is in
    let s = c.args.fact.now.session in
    let r : Rest = (resv_key st c.args.fact.now).1 in
    let fs = c.self.inside.table.facts in
    let own : ◌≡◌ {A = Rest} ((c.args.fact.now.iface, c.args.fact.now.next), c.unit_of.result) r = ap (λ u. ((c.args.fact.now.iface, c.args.fact.now.next), u)) c.unit_of.ensures in
    let all = fits_is st fs c.self.inside.facts s r (c.args.fact.now, left) c.self.inside.within
    ∙ ap (λ (m : ResvMap). within_limits st (resv_lines st (put_in m.facts (resv_key st c.args.fact.now) (c.args.fact.now, left)))) c.self.view_is in
    let a = c.fits_fact.ensures ∙ ap (λ (q : Rest). nat_le (cond (is_some (find line_keys.cmp (s, q) (facts_by held_key fs))) (length fs) (length fs + 1)) 1024) own
    ∙ one_fact st fs c.self.inside.facts s r (c.args.fact.now, left) in
    let b = c.fits_session.ensures ∙ one_session st fs c.self.inside.facts s r (c.args.fact.now, left) in
    none_first _ _ _ _ c.if-not-fits_session.true b (on_first _ _ _ _ (c.if-not-fits_fact.false) a all)

pub returns-then-not-fits_hop : goal.returns-then-not-fits_hop
returns-then-not-fits_hop g c = λ left.
    let st = g.S.Style.kind_is in
    let s = c.args.fact.now.session in
    let r : Rest = (resv_key st c.args.fact.now).1 in
    let fs = c.self.inside.table.facts in
    let own : ◌≡◌ {A = Rest} ((c.args.fact.now.iface, c.args.fact.now.next), c.unit_of.result) r = ap (λ u. ((c.args.fact.now.iface, c.args.fact.now.next), u)) c.unit_of.ensures in
    let all = fits_is st fs c.self.inside.facts s r (c.args.fact.now, left) c.self.inside.within
    ∙ ap (λ (m : ResvMap). within_limits st (resv_lines st (put_in m.facts (resv_key st c.args.fact.now) (c.args.fact.now, left)))) c.self.view_is in
    let a = c.fits_fact.ensures ∙ ap (λ (q : Rest). nat_le (cond (is_some (find line_keys.cmp (s, q) (facts_by held_key fs))) (length fs) (length fs + 1)) 1024) own
    ∙ one_fact st fs c.self.inside.facts s r (c.args.fact.now, left) in
    let b = c.fits_session.ensures ∙ one_session st fs c.self.inside.facts s r (c.args.fact.now, left) in
    none_first _ _ _ _ c.if-not-fits_hop.true c.fits_hop.ensures (on_first _ _ _ _ (c.if-not-fits_session.false) b (on_first _ _ _ _ (c.if-not-fits_fact.false) a all))

pub returns : goal.returns
returns g c = λ left.
    let st = g.S.Style.kind_is in
    let s = c.args.fact.now.session in
    let r : Rest = (resv_key st c.args.fact.now).1 in
    let fs = c.self.inside.table.facts in
    let own : ◌≡◌ {A = Rest} ((c.args.fact.now.iface, c.args.fact.now.next), c.unit_of.result) r = ap (λ u. ((c.args.fact.now.iface, c.args.fact.now.next), u)) c.unit_of.ensures in
    let all = fits_is st fs c.self.inside.facts s r (c.args.fact.now, left) c.self.inside.within
    ∙ ap (λ (m : ResvMap). within_limits st (resv_lines st (put_in m.facts (resv_key st c.args.fact.now) (c.args.fact.now, left)))) c.self.view_is in
    let a = c.fits_fact.ensures ∙ ap (λ (q : Rest). nat_le (cond (is_some (find line_keys.cmp (s, q) (facts_by held_key fs))) (length fs) (length fs + 1)) 1024) own
    ∙ one_fact st fs c.self.inside.facts s r (c.args.fact.now, left) in
    let b = c.fits_session.ensures ∙ one_session st fs c.self.inside.facts s r (c.args.fact.now, left) in
    let d = c.fits_names.ensures ∙ ap (λ (q : Rest). nat_le (size (with_names q c.args.fact.now.part.senders (held_under s fs))) 16) own in
    d ∙ on_first _ _ _ _ (c.if-not-fits_hop.false) c.fits_hop.ensures (on_first _ _ _ _ (c.if-not-fits_session.false) b (on_first _ _ _ _ (c.if-not-fits_fact.false) a all))

pub returns-then-is_refresh : goal.returns-then-is_refresh
returns-then-is_refresh g c = λ left.
    let st = g.S.Style.kind_is in
    let s = c.args.fact.now.session in
    let r : Rest = (resv_key st c.args.fact.now).1 in
    let t = table_of line_keys held_row c.self.inside.table.facts c.self.inside.facts in
    let own : ◌≡◌ {A = Rest} ((c.args.fact.now.iface, c.args.fact.now.next), c.unit_of.result) r = ap (λ u. ((c.args.fact.now.iface, c.args.fact.now.next), u)) c.unit_of.ensures in
    let e = c.is_refresh.ensures c.if-is_refresh.true in
    let stood : get (changed fact_of t) (s, r) ≡ Some (said e.0) = get-valued line_keys said t (s, r) ∙ ap (λ (q : Rest). option_map said (get t (s, q))) (sym own) ∙ ap (option_map said) e.1 in
    sym (within_tested st _ (still_within st (changed fact_of t) (s, r) (c.args.fact.now, left) (said e.0) stood e.2 c.self.inside.within))
    ∙ ap (λ (m : ResvMap). within_limits st (resv_lines st (put_in m.facts (resv_key st c.args.fact.now) (c.args.fact.now, left)))) c.self.view_is
