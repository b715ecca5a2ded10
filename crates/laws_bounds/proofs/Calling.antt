-- Local calls, left-over facts, and a clear.
use Rattle.std.specs.Prelude.{◌≡◌, ◌↔◌, ℕ, ◌<◌, ◌≤◌, nat_le, nat_lt, Bool, true, false, cond, not, is_some, List, [], ◌∷◌, Option, Some, None, refl}
use Rattle.std.proofs.Common.{sym, ap, ◌∙◌, inl, inr, ⊎_elim}
use Rattle.std.proofs.lemmas.Bool.{le-leb, leb-false, leb-true, lt-leb}
use Rattle.std.specs.List.{list_any}
use Rattle.std.specs.Ordering.{eq_by_cmp}
use Rattle.admission_book.specs.declared.refused.Refused.{Refused}
use Rattle.rsvp_base.specs.declared.session.Sender.{Sender}
use Rattle.rsvp_base.specs.declared.session.Session.{Session}
use Rattle.rsvp_base.specs.declared.style.StyleKind.{StyleKind}
use Rattle.rsvp_base.specs.declared.style.StyleKind.TheVariants.{Wild, Fixed, Shared}
use Rattle.rsvp_base.specs.declared.style.Unit.{Unit as UnitOf}
use Rattle.rsvp_base.specs.declared.style.Unit.TheVariants.{Of}
use Rattle.rsvp_base.specs.Keys.{Keys}
use Rattle.rsvp_base.specs.Members.{In}
use Rattle.rsvp_base.specs.Orders.{Names, senders, sessions, styles, units}
use Rattle.rsvp_base.specs.SessionLimits.{has_room_at}
use Rattle.rsvp_base.specs.Table.{Table, get, has, keys, put_in, size, values, with_rows}
use Rattle.rsvp_base.specs.TokenBucket.{TokenBucket}
use Rattle.rsvp_base.proofs.Members.{any_in, in_any, in_each}
use Rattle.rsvp_base.proofs.Tables.{either, get-kept, get-put_in_other, get-put_in_same, tied_same}
use Rattle.rsvp_base.proofs.UnderLaws.{get-under}
use Rattle.router_rules.specs.RsvpMessages.Units.{only}
use Rattle.router_rules.specs.Lines.{LineKey}
use Rattle.router_rules.specs.declared.answers.Heard.TheVariants as heard
use Rattle.router_rules.specs.declared.answers.LocalErr.{LocalErr}
use Rattle.router_rules.specs.declared.answers.LocalErr.TheVariants as local
use Rattle.router_rules.specs.declared.answers.StaleErr.{StaleErr}
use Rattle.router_rules.specs.declared.answers.StaleErr.TheVariants as stale
use Rattle.router_rules.specs.Books.{book, fits, refused as refused_entry}
use Rattle.router_rules.specs.Calls.{act_call, act_stale, advertised_with, call_refusal, entry_of, needs, senders_with, stale_refusal, unless, wanted, wants_with, with_left}
use Rattle.router_rules.specs.Facts.{Facts, ResvState, Want, WantKey, Wants, resvs_of, want_keys, wants_in, with_resvs}
use Rattle.router_rules.specs.Inputs.{Call, Local, QuitAll, Stale, only_heard}
use Rattle.router_rules.specs.NodeConfig.{NodeConfig, is_own, is_session}
use Rattle.router_rules.specs.Requests.{is_style}
use Rattle.router_rules.specs.Rule.{settled}
use Rattle.laws_bounds.proofs.Lists.{got_with_rows, in_values, some_is, to_values}
use Rattle.laws_bounds.proofs.Sending.{not_told}
use Rattle.laws_bounds.proofs.Tests.{session_told, style_told, ties}
use Rattle.laws_bounds.specs.CallLaws.{CallRefusals, CallsLeave, ClearLeaves, HasOtherStyle, StaleLeaves, StaleRefusals, room_for, room_for_wants}
use Rattle.laws_bounds.proofs.Quiet.{settled_same, step_made}
use Rattle.laws_bounds.proofs.Styling.{row_counts, some_row}

-- ---- one test, and two
module _ {E : Type 0} (e : E) where
  one_some : (b : Bool) → (needs b e None ≡ Some e) ↔ (b ≡ false)
  one_some true = (λ h. absurd (cc), λ h. absurd (cc))
  one_some false = (λ h. refl, λ h. refl)

  one_none : (b : Bool) → (needs b e None ≡ None) ↔ (b ≡ true)
  one_none true = (λ h. refl, λ h. refl)
  one_none false = (λ h. absurd (cc), λ h. absurd (cc))

module _ {E : Type 0} (e d : E) (apart : e ≡ d → ⊥) where
  two_first : (a b : Bool) → (needs a e (needs b d None) ≡ Some e) ↔ (a ≡ false)
  two_first false b = (λ h. refl, λ h. refl)
  two_first true true = (λ h. absurd (cc), λ h. absurd (cc))
  two_first true false = (λ h. let same : d ≡ e = cc in absurd (apart (sym same)), λ h. absurd (cc))

  two_second : (a b : Bool) → (needs a e (needs b d None) ≡ Some d) ↔ ((a ≡ true) × (b ≡ false))
  two_second false b = (λ h. let same : e ≡ d = cc in absurd (apart same), λ h. let z : false ≡ true = h.0 in absurd (cc))
  two_second true true = (λ h. absurd (cc), λ h. let z : true ≡ false = h.1 in absurd (cc))
  two_second true false = (λ h. (refl, refl), λ h. refl)

  two_none : (a b : Bool) → (needs a e (needs b d None) ≡ None) ↔ ((a ≡ true) × (b ≡ true))
  two_none false b = (λ h. absurd (cc), λ h. let z : false ≡ true = h.0 in absurd (cc))
  two_none true true = (λ h. (refl, refl), λ h. refl)
  two_none true false = (λ h. absurd (cc), λ h. let z : false ≡ true = h.1 in absurd (cc))

-- ---- tests that are told by what they find
same_as : (b : Bool) {P : Type 0} → (b ≡ true → P) → (P → b ≡ true) → ((not b ≡ false) ↔ P) × ((not b ≡ true) ↔ (P → ⊥))
same_as true to from = ((λ h. to refl, λ q. refl), (λ h q. let z : false ≡ true = h in cc, λ n. absurd (n (to refl))))
same_as false to from = ((λ h. absurd (cc), λ q. let z : false ≡ true = from q in absurd (cc)), (λ h q. let z : false ≡ true = from q in cc, λ n. refl))

abbrev finds_other : Facts → Session → StyleKind → Bool
finds_other f s st = list_any (λ (w : Want). not (is_style w.style st)) (values (wants_in f s))

other_told : (f : Facts) (s : Session) (st : StyleKind) → finds_other f s st ≡ true → HasOtherStyle f s st
other_told f s st e =
    let r = in_any (λ (w : Want). not (is_style w.style st)) (values (wants_in f s)) e in
    let v = in_values units (wants_in f s) r.0 r.1 in
    record { unit = v.0; want = r.0; there = sym (get-under sessions units f.wants s v.0) ∙ v.1; other = λ same. let z : true ≡ false = sym (ties styles r.0.style st same) ∙ not_told _ r.2 in cc }

other_made : (f : Facts) (s : Session) (st : StyleKind) → HasOtherStyle f s st → finds_other f s st ≡ true
other_made f s st q =
    any_in (λ (w : Want). not (is_style w.style st)) q.want (values (wants_in f s)) (to_values units (wants_in f s) q.unit q.want (get-under sessions units f.wants s q.unit ∙ q.there))
    (either (is_style q.want.style st) (λ same. absurd (q.other (style_told q.want.style st same))) (λ apart. ap not apart))

other_tells : (f : Facts) (s : Session) (st : StyleKind) → ((not (finds_other f s st) ≡ false) ↔ HasOtherStyle f s st) × ((not (finds_other f s st) ≡ true) ↔ (HasOtherStyle f s st → ⊥))
other_tells f s st = same_as (finds_other f s st) (other_told f s st) (other_made f s st)

-- one after another
then_told : {P Q R : Type 0} → (P ↔ Q) → (Q ↔ R) → (P ↔ R)
then_told a b = (λ p. b.0 (a.0 p), λ r. a.1 (b.1 r))

beside_told : {P Q R : Type 0} → (P ↔ Q) → ((P × R) ↔ (Q × R))
beside_told a = (λ r. (a.0 r.0, r.1), λ r. (a.1 r.0, r.1))

wants_told : (f : Facts) (s : Session) → nat_lt 0 (size (wants_in f s)) ≡ true → (u : UnitOf) × (has f.wants (s, u) ≡ true)
wants_told f s e = let r = some_row units (wants_in f s) e in (r.0, ap is_some (sym (get-under sessions units f.wants s r.0) ∙ r.2))

wants_made : (f : Facts) (s : Session) (u : UnitOf) → has f.wants (s, u) ≡ true → nat_lt 0 (size (wants_in f s)) ≡ true
wants_made f s u e = let r = some_is (get f.wants (s, u)) e in row_counts units (wants_in f s) u r.0 (get-under sessions units f.wants s u ∙ r.1)

no_wants : (f : Facts) (s : Session) → (nat_lt 0 (size (wants_in f s)) ≡ false) ↔ ((u : UnitOf) → has f.wants (s, u) ≡ false)
no_wants f s = (
  λ e u. either (has f.wants (s, u)) (λ h. let z : true ≡ false = sym (wants_made f s u h) ∙ e in absurd (cc)) (λ h. h),
  λ none. either (nat_lt 0 (size (wants_in f s))) (λ h. let r = wants_told f s h in let z : true ≡ false = sym r.1 ∙ none r.0 in absurd (cc)) (λ h. h),
)

not_mine_full : ◌≡◌ {A = LocalErr} local.NotMine local.Full → ⊥
not_mine_full e = cc

style_full : ◌≡◌ {A = LocalErr} local.Style local.Full → ⊥
style_full e = cc

full_over : ◌≡◌ {A = StaleErr} stale.Full stale.Over → ⊥
full_over e = cc

pub call_refusals : CallRefusals
call_refusals =
    record {
      not_mine = λ p f s x tspec. two_first local.NotMine local.Full not_mine_full (is_own p x.addr) (room_for f (s, x) tspec);
      send_full = λ p f s x tspec. two_second local.NotMine local.Full not_mine_full (is_own p x.addr) (room_for f (s, x) tspec);
      sends = λ p f s x tspec. two_none local.NotMine local.Full not_mine_full (is_own p x.addr) (room_for f (s, x) tspec);
      no_sender = λ p f s x. one_some local.Absent (has f.senders (s, x));
      drops = λ p f s x. one_none local.Absent (has f.senders (s, x));
      nothing_to_advertise = λ p f s x. one_some local.Absent (has f.senders (s, x));
      advertises = λ p f s x. one_none local.Absent (has f.senders (s, x));
      style = λ p f s st names flow mark. then_told (two_first local.Style local.Full style_full (not (finds_other f s st)) (room_for_wants f s st names flow mark)) (other_tells f s st).0;
      want_full = λ p f s st names flow mark. then_told (two_second local.Style local.Full style_full (not (finds_other f s st)) (room_for_wants f s st names flow mark))
          (beside_told (other_tells f s st).1);
      wants = λ p f s st names flow mark. then_told (two_none local.Style local.Full style_full (not (finds_other f s st)) (room_for_wants f s st names flow mark))
          (beside_told (other_tells f s st).1);
      no_want = λ p f s. then_told (one_some local.Absent (nat_lt 0 (size (wants_in f s)))) (no_wants f s);
      quits = λ p f s. then_told (one_none local.Absent (nat_lt 0 (size (wants_in f s)))) (wants_told f s, λ r. wants_made f s r.0 r.1);
    }

-- ---- rows whose values go by their keys
module _ {K X : Type 0} (o : Keys K) where
  agreed_stays : (es : List (K × X)) (m : Table o X) (k : K) (x : X) → ((y : X) → In (k, y) es → y ≡ x) → get m k ≡ Some x → get (with_rows m es) k ≡ Some x
  agreed_stays [] m k x same g = g
  agreed_stays (e ∷ es) m k x same g =
      agreed_stays es (put_in m e.0 e.1) k x (λ y i. same y (inr i))
      (either (eq_by_cmp o.cmp k e.0)
      (λ tie. let at = tied_same o k e.0 tie in ap (get (put_in m e.0 e.1)) at ∙ get-put_in_same o m e.0 e.1 ∙ ap Some (same e.1 (inl (λ i. (at i, e.1)))))
      (λ apart. get-put_in_other o m e.0 e.1 k apart ∙ g))

  -- a row of the list stands, where all of its key agree
  pub agreed_put : (es : List (K × X)) (m : Table o X) (k : K) (x : X) → ((y : X) → In (k, y) es → y ≡ x) → In (k, x) es → get (with_rows m es) k ≡ Some x
  agreed_put [] m k x same i = absurd i
  agreed_put (e ∷ es) m k x same i =
      ⊎_elim
      (λ (is : (k, x) ≡ e).
      agreed_stays es (put_in m e.0 e.1) k x (λ y j. same y (inr j)) (ap (λ (z : K × X). get (put_in m z.0 z.1) k) (sym is) ∙ get-put_in_same o m k x))
      (λ (j : In (k, x) es). agreed_put es (put_in m e.0 e.1) k x (λ y l. same y (inr l)) j) i

  -- and what no row names stays
  pub unnamed_stays : (es : List (K × X)) (m : Table o X) (k : K) → ((y : X) → In (k, y) es → ⊥) → get (with_rows m es) k ≡ get m k
  unnamed_stays [] m k none = refl
  unnamed_stays (e ∷ es) m k none =
      unnamed_stays es (put_in m e.0 e.1) k (λ y i. none y (inr i))
      ∙ get-put_in_other o m e.0 e.1 k (either (eq_by_cmp o.cmp k e.0) (λ tie. absurd (none e.1 (inl (λ i. (tied_same o k e.0 tie i, e.1))))) (λ apart. apart))

-- the wants of a call have one value for a key
abbrev fixed_row : Session → TokenBucket → Bool → Sender → WantKey × Want
fixed_row s flow mark x = ((s, Of x), record { style = Fixed; part = record { senders = only x; flow = flow }; confirm = mark })

one_row : (k : WantKey) (v w : Want) (row : WantKey × Want) → In (k, v) (row ∷ []) → In (k, w) (row ∷ []) → v ≡ w
one_row k v w row i j =
    ⊎_elim (λ (a : (k, v) ≡ row). ⊎_elim (λ (b : (k, w) ≡ row). ap (λ (z : WantKey × Want). z.1) a ∙ sym (ap (λ (z : WantKey × Want). z.1) b)) (λ (n : ⊥). absurd n) j) (λ (n : ⊥). absurd n) i

wanted_agree : (s : Session) (st : StyleKind) (names : Names) (flow : TokenBucket) (mark : Bool) (k : WantKey) (v w : Want) → In (k, v) (wanted s st names flow mark)
    → In (k, w) (wanted s st names flow mark) → v ≡ w
wanted_agree s Wild names flow mark k v w i j = one_row k v w _ i j
wanted_agree s Shared names flow mark k v w i j = one_row k v w _ i j
wanted_agree s Fixed names flow mark k v w i j =
    let a = in_each (fixed_row s flow mark) (k, v) (keys names) i in
    let b = in_each (fixed_row s flow mark) (k, w) (keys names) j in
    let of_a : k ≡ (s, Of a.0) = ap (λ (z : WantKey × Want). z.0) a.2 in
    let of_b : k ≡ (s, Of b.0) = ap (λ (z : WantKey × Want). z.0) b.2 in
    let both : ◌≡◌ {A = UnitOf} (Of a.0) (Of b.0) = ap (λ (z : WantKey). z.1) (sym of_a ∙ of_b) in
    let same : a.0 ≡ b.0 = cc in
    ap (λ (z : WantKey × Want). z.1) (a.2 ∙ ap (fixed_row s flow mark) same ∙ sym b.2)

-- ---- what calls leave
abbrev called : Local → Facts → Option LocalErr → Facts
called l f w =
    record f {
      senders = unless w (senders_with l f.senders) f.senders;
      advertised = unless w (advertised_with l f.advertised) f.advertised;
      wants = unless w (wants_with l f.wants) f.wants;
    }

call_by : (p : NodeConfig) (l : Local) (f : Facts) (w : Option LocalErr) → call_refusal p l f ≡ w
    → act_call p l f ≡ only_heard heard.Taken (called l f w)
call_by p l f w e = ap (λ v. only_heard heard.Taken (called l f v)) e

quit_at : (s : Session) (t : Wants) (k : WantKey) (b : Bool) → is_session k.0 s ≡ b → get (wants_with (QuitAll s) t) k ≡ cond (not b) (get t k) None
quit_at s t k b e = get-kept want_keys (λ k. not (is_session k.0 s)) t k ∙ ap (λ b. cond (not b) (get t k) None) e

pub calls_leave : CallsLeave
calls_leave =
    record {
      made = λ p l f e. call_by p l f None e;
      refused = λ p l f why e. call_by p l f (Some why) e;
      quiet = λ p c l f why ok e. step_made p c f heard.Taken [] [] (Call l) ok refl (call_by p l f (Some why) e);
      wanted_there = λ s st names flow mark t k w i. agreed_put want_keys (wanted s st names flow mark) t k w (λ v j. wanted_agree s st names flow mark k v w j i) i;
      wanted_source = λ s st names flow mark t k w g. got_with_rows want_keys (wanted s st names flow mark) t k w g;
      wanted_beside = λ s st names flow mark t k none. unnamed_stays want_keys (wanted s st names flow mark) t k none;
      quit = λ s t u. quit_at s t (s, u) true (ties sessions s s refl);
      quit_beside = λ s t k apart. quit_at s t k false (either (is_session k.0 s) (λ same. absurd (apart (session_told k.0 s same))) (λ b. b));
    }

-- ---- left-over facts
some_tells : {X : Type 0} (w : Option X) → ((not (is_some w) ≡ false) ↔ ((x : X) × (w ≡ Some x))) × ((not (is_some w) ≡ true) ↔ (((x : X) × (w ≡ Some x)) → ⊥))
some_tells w = same_as (is_some w) (some_is w) (λ r. ap is_some r.1)

after_first : {A P Q : Type 0} → (P ↔ Q) → ((A × P) ↔ (A × Q))
after_first a = (λ r. (r.0, a.0 r.1), λ r. (r.0, a.1 r.1))

abbrev says : NodeConfig → Facts → StyleKind → LineKey → ResvState → Option Refused
says p f st k r = refused_entry p k.1.0.0 (entry_of st k) (book (with_resvs st (put_in (resvs_of st f) k r) f) k.1.0.0)

few_false : (n : ℕ) → (nat_le n 512 ≡ false) ↔ (512 < n)
few_false n = (λ e. leb-false n 512 e, λ h. lt-leb n 512 h)

few_true : (n : ℕ) → (nat_le n 512 ≡ true) ↔ (n ≤ 512)
few_true n = (λ e. leb-true n 512 e, λ h. le-leb n 512 h)

pub stale_refusals : StaleRefusals
stale_refusals =
    record {
      path_full = λ p f k x. one_some stale.Full (has_room_at senders (put_in f.paths k x) k.0);
      path = λ p f k x. one_none stale.Full (has_room_at senders (put_in f.paths k x) k.0);
      resv_full = λ p f st k r. two_first stale.Full stale.Over full_over (fits st (put_in (resvs_of st f) k r)) (not (is_some (says p f st k r)));
      over = λ p f st k r. then_told (two_second stale.Full stale.Over full_over (fits st (put_in (resvs_of st f) k r)) (not (is_some (says p f st k r))))
          (after_first (some_tells (says p f st k r)).0);
      resv = λ p f st k r. then_told (two_none stale.Full stale.Over full_over (fits st (put_in (resvs_of st f) k r)) (not (is_some (says p f st k r)))) (after_first (some_tells (says p f st k r)).1);
      wall_full = λ p f k b. then_told (one_some stale.Full (nat_le (size (put_in f.walls k b)) 512)) (few_false (size (put_in f.walls k b)));
      wall = λ p f k b. then_told (one_none stale.Full (nat_le (size (put_in f.walls k b)) 512)) (few_true (size (put_in f.walls k b)));
    }

stale_refused : (p : NodeConfig) (i : Stale) (f : Facts) (why : StaleErr) → stale_refusal p i f ≡ Some why → act_stale p i f ≡ f
stale_refused p i f why e = ap (λ w. unless w (with_left i f) f) e

pub stale_leaves : StaleLeaves
stale_leaves =
    record {
      made = λ p i f e. ap (λ w. unless w (with_left i f) f) e;
      refused = stale_refused;
      quiet = λ p c i f why ok e. ap (λ (z : Facts). settled p c f z) (stale_refused p i f why e) ∙ settled_same p c f ok;
    }

pub clear_leaves : ClearLeaves
clear_leaves old p c f = refl
