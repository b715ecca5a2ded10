-- What follows where no fact changes: nothing but the errors and confirmations that were made.
use Rattle.std.specs.Prelude.{◌≡◌, ℕ, ◌+◌, nat_lt, Bool, true, false, cond, not, is_some, ◌&&◌, ◌||◌, List, [], ◌∷◌, ◌++◌, map as each, Option, Some, None, refl}
use Rattle.std.proofs.Common.{sym, ap, ◌∙◌}
use Rattle.std.specs.List.{filter, flat_map}
use Rattle.std.specs.Option.{unwrap_or}
use Rattle.rsvp_base.specs.declared.session.Sender.{Sender}
use Rattle.rsvp_base.specs.declared.session.Session.{Session}
use Rattle.rsvp_base.specs.declared.style.StyleKind.{StyleKind}
use Rattle.rsvp_base.specs.declared.style.StyleKind.TheVariants.{Wild, Fixed, Shared}
use Rattle.rsvp_base.specs.Orders.{senders, sessions}
use Rattle.rsvp_base.specs.Sets.{Set, set_of}
use Rattle.rsvp_base.specs.Table.{Table, changed, empty, get, has, keys, size}
use Rattle.rsvp_base.proofs.Members.{in_filter}
use Rattle.rsvp_base.proofs.SetLaws.{and_both, has-cut}
use Rattle.rsvp_base.proofs.Tables.{get-changed, same_table, then_do}
use Rattle.router_rules.specs.Lines.{LineKey, line_keys}
use Rattle.router_rules.specs.declared.answers.Heard.{Heard}
use Rattle.router_rules.specs.Act.{act}
use Rattle.router_rules.specs.Bounds.{IsWithinBounds}
use Rattle.router_rules.specs.Facts.{Facts, ResvState, Resvs, ResvTables, Want, WantKey, Wants, each_table, resvs_of, want_keys}
use Rattle.router_rules.specs.Forgetting.{counted, is_lost, remembered, settle}
use Rattle.router_rules.specs.Inputs.{Change, ConfSend, ErrSend, Input, only_heard}
use Rattle.router_rules.specs.Known.{Lane, known, lanes, named_as, names_via}
use Rattle.router_rules.specs.Offers.{offers}
use Rattle.router_rules.specs.NodeConfig.{NodeConfig, period}
use Rattle.router_rules.specs.Requests.{toward}
use Rattle.router_rules.specs.Rule.{is_silent, rule, settled, spoken}
use Rattle.router_rules.specs.Sends.{conf_sends, error_sends, gone_names, is_changed, is_new_offer, is_sent_new, marked_units, path_sends, path_tears, resv_sends, resv_tears, sends}
use Rattle.router_rules.specs.Sends.{torn_names, unmarked, used_marks}
use Rattle.laws_bounds.proofs.Asks.{gone_told}
use Rattle.laws_bounds.proofs.Leaving.{countdowns_settle, left_whole}
use Rattle.laws_bounds.proofs.Sending.{path_tear_told, path_told, resv_tear_told, resv_told}
use Rattle.laws_bounds.proofs.Tests.{not_new, parts_tested}
use Rattle.laws_bounds.proofs.Lists.{none_in, one_name}
use Rattle.laws_bounds.specs.CallLaws.{StepsWithoutChange}

-- ---- facts
both_not : (b : Bool) → (b && not b) ≡ false
both_not true = refl
both_not false = refl

none_lost : (st : StyleKind) (f : Facts) (s : Session) (x : Sender) → is_lost st f f s x ≡ false
none_lost st f s x = both_not (has (named_as st (known f s)) x)

module _ (p : NodeConfig) (c : ℕ) (f : Facts) (ok : IsWithinBounds p c f) where
  resvs_same : (st : StyleKind) (t : Resvs) → resvs_of st f ≡ t → changed (remembered st f f) t ≡ t
  resvs_same st t is = same_table line_keys (changed (remembered st f f) t) t (λ k. get-changed line_keys (remembered st f f) t k ∙ by k (get t k) refl)
    where
      by : (k : LineKey) (w : Option ResvState) → get t k ≡ w → then_do w (remembered st f f k) ≡ w
      by k None g = refl
      by k (Some r) g =
          left_whole (λ x. not (is_lost st f f k.0 x)) r (ok.shapes.resvs st k r (ap (λ (z : Resvs). get z k) is ∙ g)).style.named (λ x n. ap not (none_lost st f k.0 x))

  tables_same : each_table (λ st t. changed (remembered st f f) t) f.resvs ≡ f.resvs
  tables_same = λ i. record { wild = resvs_same Wild f.resvs.wild refl i; fixed = resvs_same Fixed f.resvs.fixed refl i; shared = resvs_same Shared f.resvs.shared refl i }

  due_same : (settle p c f).due ≡ f.due
  due_same = same_table sessions (settle p c f).due f.due (λ s. countdowns_settle p c f s ∙ by s (get f.due s) refl)
    where
      by : (s : Session) (w : Option ℕ) → get f.due s ≡ w → cond (has (counted f) s) (Some (unwrap_or (get f.due s) (c + period p))) None ≡ get f.due s
      by s None g = ap (λ b. cond b (Some (unwrap_or (get f.due s) (c + period p))) None) (sym (ok.due.counted s) ∙ ap is_some g) ∙ sym g
      by s (Some t) g = ap (λ b. cond b (Some (unwrap_or (get f.due s) (c + period p))) None) (sym (ok.due.counted s) ∙ ap is_some g) ∙ ap (λ w. Some (unwrap_or w (c + period p))) g ∙ sym g

  pub settled_same : settled p c f f ≡ f
  settled_same = ap (λ (ts : ResvTables). settle p c (record f { resvs = ts })) tables_same ∙ ap (λ (t : Table sessions ℕ). record f { due = t }) due_same

-- ---- sends
same_toward : (p : NodeConfig) (f : Facts) (l : Lane) → is_changed p p f f l ≡ false
same_toward p f l = ap not (parts_tested (toward p f l) (toward p f l) refl)

module _ (p : NodeConfig) (f : Facts) (k : Change) where
  no_path_tears : path_tears p (offers p f) (offers p f) ≡ []
  no_path_tears = none_in (path_tears p (offers p f) (offers p f)) (λ s i. let q = path_tear_told p p f f k s i in let z : true ≡ false = sym q.was ∙ q.gone in cc)

  no_resv_tears : resv_tears p p f f ≡ []
  no_resv_tears =
      none_in (resv_tears p p f f)
      (λ s i.
      let q = resv_tear_told p p f f k s i in
      let x = one_name (torn_names p p f f q.lane) q.some in
      let a = and_both _ _ (sym (has-cut senders (gone_names (toward p f q.lane) (toward p f q.lane)) (names_via f q.lane) x.0) ∙ x.1) in
      let g = gone_told (toward p f q.lane) (toward p f q.lane) x.0 a.0 in
      let z : true ≡ false = sym (ap is_some g.was) ∙ g.gone in
      cc)

  no_paths : k.fired ≡ empty → path_sends p (offers p f) (offers p f) k.fired ≡ []
  no_paths e =
      none_in (path_sends p (offers p f) (offers p f) k.fired)
      (λ s i.
      let q = path_told p p f f k s i in
      let quiet : (has k.fired q.key.session || is_new_offer p q.key.iface q.offer (get (offers p f) q.key)) ≡ false =
      ap (λ (z : Set sessions). has z q.key.session || is_new_offer p q.key.iface q.offer (get (offers p f) q.key)) e ∙ ap (is_new_offer p q.key.iface q.offer) q.offered
      ∙ not_new p q.key.iface q.offer in
      let z : true ≡ false = sym q.why ∙ quiet in
      cc)

  no_resvs : k.fired ≡ empty → resv_sends p p f f k.fired k.asked ≡ []
  no_resvs e =
      none_in (resv_sends p p f f k.fired k.asked)
      (λ s i.
      let q = resv_told p p f f k s i in
      let quiet : (has k.fired q.lane.session || is_changed p p f f q.lane) ≡ false = ap (λ (z : Set sessions). has z q.lane.session || is_changed p p f f q.lane) e ∙ same_toward p f q.lane in
      let z : true ≡ false = sym q.why ∙ quiet in
      cc)

-- ---- marks
and_false : (b : Bool) → (b && false) ≡ false
and_false true = refl
and_false false = refl

no_marks : (p : NodeConfig) (f : Facts) → used_marks p p f f None ≡ empty
no_marks p f =
    ap (λ ls. set_of {o = want_keys} (flat_map (λ l. each (λ u. (l.session, u)) (marked_units p f l)) ls))
    (none_in (filter (is_sent_new p p f f) (keys (lanes f)))
    (λ l i. let r = in_filter (is_sent_new p p f f) l (keys (lanes f)) i in let z : true ≡ false = sym (and_both (nat_lt 0 (size (toward p f l))) (is_changed p p f f l) r.1).1 ∙ same_toward p f l in
    cc))

and_true : (b : Bool) → (b && true) ≡ b
and_true true = refl
and_true false = refl

unmarked_same : (t : Wants) → changed (unmarked empty) t ≡ t
unmarked_same t = same_table want_keys (changed (unmarked empty) t) t (λ k. get-changed want_keys (unmarked empty) t k ∙ by k (get t k))
  where
    by : (k : WantKey) (w : Option Want) → then_do w (unmarked empty k) ≡ w
    by k None = refl
    by k (Some w) = ap (λ b. Some (record w { confirm = b })) (and_true w.confirm)

-- ---- the whole
right_nil : {A : Type 0} (xs : List A) → xs ++ [] ≡ xs
right_nil [] = refl
right_nil (x ∷ xs) = λ i. x ∷ right_nil xs i

module _ (p : NodeConfig) (c : ℕ) (f : Facts) (h : Heard) (es : List ErrSend) (cs : List ConfSend) where
  abbrev made : Change
  made = record (only_heard h f) { errors = es; confs = cs }

  sends_made : sends p p f f made ≡ error_sends es ++ conf_sends cs
  sends_made =
      ap (λ xs. xs ++ (resv_tears p p f f ++ (error_sends es ++ (conf_sends (cs ++ []) ++ (path_sends p (offers p f) (offers p f) empty ++ resv_sends p p f f empty None))))) (no_path_tears p f made)
      ∙ ap (λ xs. xs ++ (error_sends es ++ (conf_sends (cs ++ []) ++ (path_sends p (offers p f) (offers p f) empty ++ resv_sends p p f f empty None)))) (no_resv_tears p f made)
      ∙ ap (λ xs. error_sends es ++ (conf_sends xs ++ (path_sends p (offers p f) (offers p f) empty ++ resv_sends p p f f empty None))) (right_nil cs)
      ∙ ap (λ xs. error_sends es ++ (conf_sends cs ++ (xs ++ resv_sends p p f f empty None))) (no_paths p f made refl)
      ∙ ap (λ xs. error_sends es ++ (conf_sends cs ++ xs)) (no_resvs p f made refl)
      ∙ ap (λ xs. error_sends es ++ xs) (right_nil (conf_sends cs))

  spoken_made : (b : Bool) → b ≡ false → spoken b p p f f made ≡ record { facts = f; sent = error_sends es ++ conf_sends cs; heard = h }
  spoken_made true e = absurd (cc)
  spoken_made false e = λ i. record { facts = record f { wants = (ap (λ (u : Set want_keys). changed (unmarked u) f.wants) (no_marks p f) ∙ unmarked_same f.wants) i }; sent = sends_made i; heard = h }

  pub step_made : (i : Input) → IsWithinBounds p c f → is_silent i ≡ false → act p c i f ≡ made → rule p p c i f ≡ record { facts = f; sent = error_sends es ++ conf_sends cs; heard = h }
  step_made i ok loud is =
      ap (λ (k : Change). spoken (is_silent i) p p f (settled p c f k.facts) k) is ∙ ap (λ (z : Facts). spoken (is_silent i) p p f z made) (settled_same p c f ok) ∙ spoken_made (is_silent i) loud

pub steps_without_change : StepsWithoutChange
steps_without_change = record { settled_same = settled_same; whole = λ p c i f h es cs ok loud is. step_made p c f h es cs i ok loud is }
