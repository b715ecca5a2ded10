-- One session changed, and neither local senders nor paths: no name is forgotten, and countdowns are as they should be.
use Rattle.std.specs.Prelude.{◌≡◌, ℕ, ◌+◌, Bool, true, false, Option, Some, None, refl}
use Rattle.std.specs.Ordering.{eq_by_cmp}
use Rattle.std.proofs.Common.{sym, ap, subst, ◌∙◌, ⊎_elim, arith}
use Rattle.std.proofs.lemmas.Option.{same_Some}
use Rattle.path_state.specs.Paths.{path_keys}
use Rattle.path_state.specs.declared.fact.PathFact.{PathFact}
use Rattle.blockade_state.specs.Blockades.{WallMap}
use Rattle.resv_state.specs.Resvs.{AreOfStyle, ResvFacts, resv_key}
use Rattle.resv_state.specs.declared.fact.ResvFact.{ResvFact}
use Rattle.rsvp_base.specs.Orders.{sessions}
use Rattle.rsvp_base.specs.Sets.{Set}
use Rattle.rsvp_base.specs.Table.{Table, changed, get, has, put_in}
use Rattle.rsvp_base.specs.TokenBucket.{TokenBucket}
use Rattle.rsvp_base.specs.declared.session.Session.{Session}
use Rattle.rsvp_base.specs.declared.style.StyleKind.{StyleKind}
use Rattle.rsvp_base.specs.declared.style.StyleKind.TheVariants.{Wild, Fixed, Shared}
use Rattle.rsvp_base.proofs.Tables.{get-changed, got_put_in, then_do}
use Rattle.style_rules.specs.Lines.{LineKey, line_keys}
use Rattle.style_rules.specs.Parts.{has_name}
use Rattle.router_rules.specs.Act.{act}
use Rattle.router_rules.specs.Facts.{Facts, ResvState, SenderKey, Wants, resvs_of, sender_keys}
use Rattle.router_rules.specs.Forgetting.{counted, forget}
use Rattle.router_rules.specs.Inputs.{Change, Input, Stale, StaleResv, only_heard}
use Rattle.router_rules.specs.Calls.{act_stale, stale_refusal, unless, with_left}
use Rattle.router_rules.specs.NodeConfig.{NodeConfig, period}
use Rattle.router_rules.specs.Rule.{facts_with, refusal_of_stale, settled}
use Rattle.router_rules.specs.declared.answers.StaleErr.{StaleErr}
use Rattle.router_rules.specs.declared.answers.Heard.{Heard}
use Rattle.router_state.specs.Changes.{counts_in, due_after, recounted}
use Rattle.router_state.specs.State.{AreNamed, IsSettled, State, facts_at, facts_of, resv_at, table_in}
use Rattle.router_state.proofs.Counted.{same_settles}
use Rattle.laws_sends.specs.Changed.{IsChangedFor}
use Rattle.laws_sends.proofs.Apart.{resvs_at}
use Rattle.router_arrivals.specs.Styled.{AreOfStyles}
use Rattle.router_arrivals.proofs.Keeping.{counts_at, goes_on, without_none}
use Rattle.router_arrivals.proofs.Ruled.{IsPlain, IsRuled, all_remembered}
use Rattle.router_arrivals.proofs.TornDown.{with_named}
use Rattle.router_arrivals.proofs.Settles.{after_settled, change_settled}

-- ---- where neither senders nor paths changed, countdowns are as they should be
recounted_same : (n m : State) (s : Session) → IsSettled n → m.senders ≡ n.senders → m.paths ≡ n.paths → m.due ≡ n.due → recounted m s (counts_in m s) ≡ m
recounted_same n m s kept own paths due = λ i. record m { due = by (counts_in m s) refl i }
  where
    same_counted : has (counted (facts_of 0 n)) s ≡ counts_in m s
    same_counted = λ i. has (counted (facts_of 0 (record n { senders = sym own i; paths = sym paths i }))) s

    by : (b : Bool) → counts_in m s ≡ b → due_after b s (period m.place) m.due ≡ m.due
    by true e =
        subst (λ (d : Table sessions ℕ). due_after true s (period m.place) d ≡ d) (sym due)
        (sym (goes_on n kept m s (λ k h. sym (ap (λ (t : Table sender_keys TokenBucket). has t k) own) ∙ h) (λ k h. sym (ap (λ (t : Table path_keys (PathFact × ℕ)). has t k) paths) ∙ h)
        (period m.place) e))
    by false e = without_none sessions m.due s (ap (λ (d : Table sessions ℕ). has d s) due ∙ kept.counted 0 s ∙ same_counted ∙ e)

-- n is what there was, m what the tables have then
module _ (k : SenderKey) (n m : State) (kept : IsSettled n) (ch : IsChangedFor k n m) (own : m.senders ≡ n.senders) (paths : m.paths ≡ n.paths) (due : m.due ≡ n.due)
    (named : (c : ℕ) → AreNamed (facts_of c m)) where
  same : recounted m k.0 (counts_in m k.0) ≡ m
  same = recounted_same n m k.0 kept own paths due

  forgot : (c : ℕ) → facts_of c m ≡ forget (facts_of c n) (facts_of c m)
  forgot = all_remembered n m (λ j h. ap (λ (t : Table sender_keys TokenBucket). has t j) own ∙ h) (λ j h. ap (λ (t : Table path_keys (PathFact × ℕ)). has t j) paths ∙ h) named

  pub here_settles : (c : ℕ) → facts_of c m ≡ settled n.place c (facts_of c n) (facts_of c m)
  here_settles c =
      ap (facts_of c) (sym same) ∙ change_settled k n m ch kept due (counts_in m k.0) (counts_at m k.0) c (facts_of c m) (forgot c)
      ∙ ap (λ p. settled p c (facts_of c n) (facts_of c m)) (sym ch.place)

  pub here_kept : IsSettled m
  here_kept = subst IsSettled same (after_settled k n m ch kept due (counts_in m k.0) (counts_at m k.0) (λ c. facts_of c m) forgot named)

  pub here_ruled : (i : Input) → ((c : ℕ) → facts_of c m ≡ (act n.place c i (facts_of c n)).facts) → IsRuled k n i m
  here_ruled i does = record { change = ch; kept = here_kept; facts = λ c. here_settles c ∙ ap (settled n.place c (facts_of c n)) (does c) }

  pub here_plain : (i : Input) (h : Heard) → ((c : ℕ) → act n.place c i (facts_of c n) ≡ only_heard h (facts_of c m)) → IsPlain k n i h m
  here_plain i h does = record {
    ruled = here_ruled i (λ c. sym (ap (λ (x : Change). x.facts) (does c)));
    does = λ c. does c ∙ ap (λ (x : Change). only_heard h x.facts) (sym (does c));
  }

  -- of a fact that is left over
  pub here_left : (c : ℕ) (i : Stale) → facts_of c m ≡ act_stale n.place i (facts_of c n) → facts_at c m ≡ facts_with n.place c i (facts_at c n)
  unfolding facts_at facts_with
  here_left c i e = here_settles c ∙ ap (settled n.place c (facts_of c n)) e

-- ---- left-over facts
pub left_refusal : (n : State) (c : ℕ) (i : Stale) (r : Option StaleErr) → stale_refusal n.place i (facts_of c n) ≡ r → refusal_of_stale n.place i (facts_at c n) ≡ r
unfolding facts_at refusal_of_stale
left_refusal n c i r e = e

pub not_left : (n : State) → IsSettled n → (c : ℕ) (i : Stale) (e : StaleErr) → stale_refusal n.place i (facts_of c n) ≡ Some e → facts_at c n ≡ facts_with n.place c i (facts_at c n)
unfolding facts_at facts_with
not_left n kept c i e refused = sym (ap (λ r. settled n.place c (facts_of c n) (unless r (with_left i (facts_of c n)) (facts_of c n))) refused ∙ same_settles n.place c n kept)

-- a reservation that is left over names someone, as those that are there
pub left_named : (p : NodeConfig) (st : StyleKind) (k : LineKey) (r : ResvState) → has_name r.part ≡ true → (f : Facts) → AreNamed f → stale_refusal p (StaleResv st k r) f ≡ None
    → AreNamed (act_stale p (StaleResv st k r) f)
left_named p st k r name f named free =
    subst AreNamed (sym (ap (λ o. unless o (with_left (StaleResv st k r) f) f) free))
    (with_named f named st (put_in (resvs_of st f) k r)
    (λ q x h.
    ⊎_elim (λ (new : (q ≡ k) × (x ≡ r)). ap (λ (y : ResvState). has_name y.part) new.1 ∙ name) (λ (old : get (resvs_of st f) q ≡ Some x). named st q x old)
    (got_put_in line_keys (resvs_of st f) k r q x h)))

-- ---- reservations that stand under their keys are those that their facts say
raw_same : (st : StyleKind) (t u : ResvFacts) → AreOfStyle st t → AreOfStyle st u → (q : LineKey) → get (changed (resv_at 0) t) q ≡ get (changed (resv_at 0) u) q → get t q ≡ get u q
raw_same st t u a b q e = by (get t q) (get u q) refl refl (sym (get-changed line_keys (resv_at 0) t q) ∙ e ∙ get-changed line_keys (resv_at 0) u q)
  where
    seen : ResvFact × ℕ → ResvState
    seen d = record { part = d.0.part; confirm = d.0.confirm; dies = 0 + d.1 }

    by : (v w : Option (ResvFact × ℕ)) → get t q ≡ v → get u q ≡ w → then_do v (resv_at 0 q) ≡ then_do w (resv_at 0 q) → get t q ≡ get u q
    by None None x y h = x ∙ sym y
    by None (Some d) x y h = let z : ◌≡◌ {A = Option ResvState} None (Some (seen d)) = h in absurd (cc)
    by (Some d) None x y h = let z : ◌≡◌ {A = Option ResvState} (Some (seen d)) None = h in absurd (cc)
    by (Some d) (Some f) x y h =
        let r : seen d ≡ seen f = same_Some (seen d) (seen f) h in
        let k : resv_key st d.0 ≡ resv_key st f.0 = a.key q d x ∙ sym (b.key q f y) in
        let l : 0 + d.1 ≡ 0 + f.1 = ap (λ (z : ResvState). z.dies) r in
        let left : d.1 ≡ f.1 = omega (arith, l) in
        let same : ◌≡◌ {A = ResvFact × ℕ} d f = λ i. (record { session = (k i).0; iface = (k i).1.0.0; next = (k i).1.0.1; part = (r i).part; confirm = (r i).confirm }, left i) in
        x ∙ ap (λ z. Some z) same ∙ sym y

pub all_styles : (n : State) → AreOfStyle Wild n.wild → AreOfStyle Fixed n.fixed → AreOfStyle Shared n.shared → AreOfStyles n
all_styles n a b c Wild = a
all_styles n a b c Fixed = b
all_styles n a b c Shared = c

-- ---- where the rest is as it was and the facts of other sessions' reservations too, only the session changed
pub resvs_changed : (k : SenderKey) (n m : State) → ((st : StyleKind) (q : LineKey) → eq_by_cmp sessions.cmp k.0 q.0 ≡ false → get (resvs_of st (facts_of 0 n)) q ≡ get (resvs_of st (facts_of 0 m)) q)
    → n.place ≡ m.place → n.senders ≡ m.senders → n.advertised ≡ m.advertised
    → n.paths ≡ m.paths → n.wants ≡ m.wants → n.walls ≡ m.walls → AreOfStyles n → AreOfStyles m → IsChangedFor k n m
resvs_changed k n m away place senders advertised paths wants walls a b = record {
  place = place;
  senders = λ j off. ap (λ (t : Table sender_keys TokenBucket). get t j) senders;
  advertised = λ j off. ap (λ (t : Set sender_keys). has t j) advertised;
  paths = λ j off. ap (λ (t : Table path_keys (PathFact × ℕ)). get t j) paths;
  wants = λ j off. ap (λ (t : Wants). get t j) wants;
  walls = λ j off. ap (λ (t : WallMap). get t j) walls;
  resvs = λ st q off. raw_same st (table_in st n) (table_in st m) (a st) (b st) q (sym (ap (λ t. get t q) (resvs_at st 0 n)) ∙ away st q off ∙ ap (λ t. get t q) (resvs_at st 0 m));
}
