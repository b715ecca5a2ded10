-- Where the same goes toward each hop as before, no lane is told anything, no mark is used, and nothing goes on.
use Rattle.std.specs.Prelude.{◌≡◌, nat_lt, Bool, true, false, cond, ◌&&◌, ◌||◌, List, [], ◌∷◌, ◌++◌, map as each, Option, Some, None, refl}
use Rattle.std.specs.List.{cons_option, filter, filter_map, flat_map, list_any}
use Rattle.std.proofs.Common.{sym, ap, ◌∙◌}
use Rattle.rsvp_base.specs.Sets.{set_of}
use Rattle.rsvp_base.specs.Table.{changed, empty, keys, size}
use Rattle.router_rules.specs.Facts.{Facts, SenderKey, Wants, want_keys}
use Rattle.router_rules.specs.Inputs.{Asked, Change}
use Rattle.router_rules.specs.Known.{Lane, lanes}
use Rattle.router_rules.specs.NodeConfig.{NodeConfig, is_session}
use Rattle.router_rules.specs.Offers.{Offer}
use Rattle.router_rules.specs.Requests.{toward}
use Rattle.router_rules.specs.Sends.{conf_for, conf_sends, confirmed, error_sends, goes_on, is_sent_new, marked_units, resv_send_to, sends, unmarked, used_marks}
use Rattle.router_state.proofs.Settling.{unchanged}
use Rattle.laws_sends.specs.SendsHere.{IsChangedAt, hops_in, lanes_at}
use Rattle.laws_sends.specs.Told.{offered, told_gone, told_new}
use Rattle.laws_sends.proofs.Changing.{one_session_is_told}
use Rattle.laws_sends.proofs.Elsewhere.{no_send, not_changed}
use Rattle.laws_sends.proofs.Onward.{told_same}
use Rattle.laws_sends.proofs.Quiet.{no_tears}
use Rattle.router_arrivals.proofs.Ruled.{without_marks}
use Rattle.router_core.specs.Confirming.{confirmed_here}

none_behind : {A : Type 0} (xs : List A) → xs ++ [] ≡ xs
none_behind [] = refl
none_behind (x ∷ xs) = ap (λ ys. x ∷ ys) (none_behind xs)

module _ (p : NodeConfig) (f g : Facts) (same : (l : Lane) → toward p f l ≡ toward p g l) where
  no_resvs : (asked : Option Asked) (ls : List Lane) → filter_map (resv_send_to p p f g empty asked) ls ≡ []
  no_resvs asked [] = refl
  no_resvs asked (l ∷ ls) = ap (λ w. cons_option w (filter_map (resv_send_to p p f g empty asked) ls)) (no_send p f g l (same l) empty asked refl) ∙ no_resvs asked ls

  -- ---- no Resv is sent for a change
  not_new : (l : Lane) → is_sent_new p p f g l ≡ false
  not_new l = ap (λ b. nat_lt 0 (size (toward p g l)) && b) (not_changed p f g l (same l)) ∙ off (nat_lt 0 (size (toward p g l)))
    where
      off : (b : Bool) → (b && false) ≡ false
      off true = refl
      off false = refl

  nothing_on : (a : Asked) → goes_on p p f g a ≡ false
  nothing_on a = none (keys (lanes g))
    where
      off : (b c : Bool) → c ≡ false → (b && c) ≡ false
      off true c e = e
      off false c e = refl

      none : (ls : List Lane) → list_any (λ l. is_session l.session a.session && is_sent_new p p f g l) ls ≡ false
      none [] = refl
      none (l ∷ ls) = (λ i. off (is_session l.session a.session) _ (not_new l) i || list_any (λ l. is_session l.session a.session && is_sent_new p p f g l) ls) ∙ none ls

  stands : (asked : Option Asked) → confirmed p p f g asked ≡ confirmed_here p asked
  stands None = refl
  stands (Some a) = ap (λ b. cond b [] (conf_for p a a.taken)) (nothing_on a)

  -- ---- marks wait
  unmarked_none : (ws : Wants) → changed (unmarked empty) ws ≡ ws
  unmarked_none ws = unchanged want_keys (unmarked empty) ws (λ k w e. λ i. Some (record w { confirm = by w.confirm i }))
    where
      by : (b : Bool) → (b && true) ≡ b
      by true = refl
      by false = refl

  none_used : (asked : Option Asked) → used_marks p p f g asked ≡ empty
  none_used (Some a) = refl
  none_used None = ap (λ ls. set_of (flat_map (λ l. each (λ u. (l.session, u)) (marked_units p g l)) ls)) (none (keys (lanes g)))
    where
      none : (ls : List Lane) → filter (is_sent_new p p f g) ls ≡ []
      none [] = refl
      none (l ∷ ls) = ap (λ b. cond b (l ∷ filter (is_sent_new p p f g) ls) (filter (is_sent_new p p f g) ls)) (not_new l) ∙ none ls

  pub marks_wait : (asked : Option Asked) → without_marks p f g asked ≡ g
  marks_wait asked =
      (λ i. record g { wants = changed (unmarked (none_used asked i)) g.wants }) ∙ (λ i. record g { wants = unmarked_none g.wants i })

  -- ---- so what is sent are errors, confirmations, and the Paths of the sender that changed, which is offered still
  pub quiet_sends : (k : SenderKey) → IsChangedAt p k f g → told_gone p k (offered f k) (offered g k) ≡ [] → (c : Change) → c.fired ≡ empty
      → sends p p f g c ≡ error_sends c.errors ++ (conf_sends (c.confs ++ confirmed_here p c.asked) ++ told_new p k (offered f k) (offered g k))
  quiet_sends k at gone c none =
      one_session_is_told p k f g c at none
      ∙ (λ i. gone i ++ (no_tears p f g same (lanes_at k.0 (keys (hops_in f k.0))) i ++ (error_sends c.errors ++
      (conf_sends (c.confs ++ stands c.asked i) ++ (told_new p k (offered f k) (offered g k) ++ no_resvs c.asked (lanes_at k.0 (keys (hops_in g k.0))) i)))))
      ∙ ap (λ ss. error_sends c.errors ++ (conf_sends (c.confs ++ confirmed_here p c.asked) ++ ss)) (none_behind (told_new p k (offered f k) (offered g k)))

  -- and where that sender is offered as before, errors and confirmations alone
  pub quiet_answer : (k : SenderKey) → IsChangedAt p k f g → offered f k ≡ offered g k → (c : Change) → c.fired ≡ empty → c.confs ≡ []
      → sends p p f g c ≡ error_sends c.errors ++ conf_sends (confirmed_here p c.asked)
  quiet_answer k at alike c none confs =
      quiet_sends k at (ap (told_gone p k (offered f k)) (sym alike) ∙ gone_same (offered f k)) c none
      ∙ (λ i. error_sends c.errors ++ (conf_sends (confs i ++ confirmed_here p c.asked) ++ (ap (told_new p k (offered f k)) (sym alike) ∙ told_same p k (offered f k)) i))
      ∙ ap (λ ss. error_sends c.errors ++ ss) (none_behind (conf_sends (confirmed_here p c.asked)))
    where
      gone_same : (w : Option Offer) → told_gone p k w w ≡ []
      gone_same None = refl
      gone_same (Some o) = refl
