-- What is wanted in a grown network: of three sessions, each in its style, by small flows.
use Rattle.std.proofs.Common.{◌≡◌, ℕ, ◌/◌, ◌%◌, ◌<◌, ◌≤◌, Bool, true, false, [], ◌∷◌, refl, sym, ap, subst, ◌∙◌, inl, inr, arith}
use Rattle.std.specs.Prelude.{map as each, ◌==◌, if◌then◌else◌}
use Rattle.std.specs.List.{filter, list_all, list_any, range_with_len}
use Rattle.std.proofs.lemmas.List.{length-map}
use Rattle.rsvp_base.specs.Members.{In}
use Rattle.rsvp_base.specs.Orders.{Names, senders, style_apart}
use Rattle.rsvp_base.specs.Table.{keys, size}
use Rattle.rsvp_base.specs.TokenBucket.{IsSound, TokenBucket}
use Rattle.rsvp_base.specs.declared.session.Sender.{Sender}
use Rattle.rsvp_base.specs.declared.session.Session.{Session}
use Rattle.rsvp_base.specs.declared.style.StyleKind.{StyleKind}
use Rattle.rsvp_base.specs.declared.style.StyleKind.TheVariants.{Wild, Fixed, Shared}
use Rattle.rsvp_base.specs.declared.style.Unit.TheVariants.{Of}
use Rattle.rsvp_base.proofs.Counts.{in_set_of, size-set_of}
use Rattle.rsvp_base.proofs.Members.{in_any, in_each, in_flat_map, to_each, to_filter}
use Rattle.rsvp_base.proofs.SessionCounts.{some_rows}
use Rattle.rsvp_messages.specs.Units.{only}
use Rattle.router_rules.specs.Calls.{wanted}
use Rattle.router_rules.specs.Facts.{Want, WantKey}
use Rattle.router_rules.specs.Steps.{IsFitList}
use Rattle.tree_model.specs.declared.locals.LocalWant.{LocalWant}
use Rattle.network_model.specs.Locals.{want_at}
use Rattle.grown_network.specs.declared.hosts.Wanted.{Wanted}
use Rattle.grown_network.specs.Grown.{asked, local_wants}
use Rattle.grown_network.specs.Hosts.{flow_of, is_named, named, names_of, rate_of, sender_of, session_of, session_word, styles, wanted_at, wanted_by, wants, wants_up_to, want_word}
use Rattle.grown_network.proofs.Ranges.{at_each, in_range}
use Rattle.grown_network.specs.Modest.{IsSmallFlow}
use Rattle.grown_network.proofs.Modest.{shorter}

-- ---- the rows of a call for a want
pub record IsWantedRow (s : Session) (st : StyleKind) (flow : TokenBucket) (e : WantKey × Want) : Type 0 where
  pub session : e.0.0 ≡ s
  pub style : e.1.style ≡ st
  pub flow_is : e.1.part.flow ≡ flow
  pub unmarked : e.1.confirm ≡ false
  pub one_sender : st ≡ Fixed → size e.1.part.senders ≡ 1

pub wanted_row : (s : Session) (st : StyleKind) (names : Names) (flow : TokenBucket) (e : WantKey × Want) → In e (wanted s st names flow false) → IsWantedRow s st flow e
wanted_row s Wild names flow e (inl is) = record {
  session = ap (λ (r : WantKey × Want). r.0.0) is;
  style = ap (λ (r : WantKey × Want). r.1.style) is;
  flow_is = ap (λ (r : WantKey × Want). r.1.part.flow) is;
  unmarked = ap (λ (r : WantKey × Want). r.1.confirm) is;
  one_sender = λ same. absurd (cc);
}
wanted_row s Wild names flow e (inr none) = absurd none
wanted_row s Fixed names flow e i =
    let x = in_each (λ (x : Sender). ((s, Of x), record { style = Fixed; part = record { senders = only x; flow = flow }; confirm = false })) e (keys names) i in
    record {
      session = ap (λ (r : WantKey × Want). r.0.0) x.2;
      style = ap (λ (r : WantKey × Want). r.1.style) x.2;
      flow_is = ap (λ (r : WantKey × Want). r.1.part.flow) x.2;
      unmarked = ap (λ (r : WantKey × Want). r.1.confirm) x.2;
      one_sender = λ same. ap (λ (r : WantKey × Want). size r.1.part.senders) x.2;
    }
wanted_row s Shared names flow e (inl is) = record {
  session = ap (λ (r : WantKey × Want). r.0.0) is;
  style = ap (λ (r : WantKey × Want). r.1.style) is;
  flow_is = ap (λ (r : WantKey × Want). r.1.part.flow) is;
  unmarked = ap (λ (r : WantKey × Want). r.1.confirm) is;
  one_sender = λ same. absurd (cc);
}
wanted_row s Shared names flow e (inr none) = absurd none

-- ---- what a seed wants
pub record IsWanted (w : Wanted) : Type 0 where
  pub small : IsSmallFlow w.flow
  pub some : IsSound w.flow
  pub listed : In w.style styles
  pub few : size w.senders ≤ 4
  pub fit : IsFitList w.style w.senders

-- four names at most
few_named : (word digit : ℕ) → size (named word digit) ≤ 4
few_named word digit =
    let a = size-set_of senders (each (sender_of word) (filter (is_named digit) (range_with_len 0 4))) in
    let b = length-map (filter (is_named digit) (range_with_len 0 4)) (sender_of word) in
    let c = shorter (is_named digit) (range_with_len 0 4) in
    omega (arith, a, b, c)

-- and one at least: a digit has a set bit or is 0
names_tested : list_all (λ digit. list_any (is_named digit) (range_with_len 0 4)) (range_with_len 0 16) ≡ true
names_tested = refl

some_named : (word digit : ℕ) → digit < 16 → 0 < size (named word digit)
some_named word digit lt =
    let i = in_any (is_named digit) (range_with_len 0 4) (at_each (λ d. list_any (is_named d) (range_with_len 0 4)) 0 16 digit names_tested (omega arith) (omega arith)) in
    let there = in_set_of senders (each (sender_of word) (filter (is_named digit) (range_with_len 0 4))) (sender_of word i.0)
    (to_each (sender_of word) i.0 (filter (is_named digit) (range_with_len 0 4)) (to_filter (is_named digit) i.0 (range_with_len 0 4) i.1 i.2)) in
    some_rows senders (sender_of word i.0) (named word digit).rows there

few_names : (st : StyleKind) (session digit : ℕ) → size (names_of st session digit) ≤ 4
few_names Wild session digit = omega arith
few_names Fixed session digit = few_named session digit
few_names Shared session digit = few_named session digit

fit_names : (st : StyleKind) (session digit : ℕ) → digit < 16 → IsFitList st (names_of st session digit)
fit_names Wild session digit lt = tt
fit_names Fixed session digit lt = tt
fit_names Shared session digit lt = let few = few_named session digit in (some_named session digit lt, omega (arith, few))

wanted_told : (st : StyleKind) (session n word : ℕ) (w : Wanted) → In st styles → In w (wanted_by st session n word) → IsWanted w × (w.style ≡ st) × (w.node ≡ n)
wanted_told st session n word w i j = by (word % 4 == 0) j
  where
    by : (b : Bool) → In w (if b then [] else record { node = n; style = st; senders = names_of st session (word / 16 % 16); flow = flow_of (rate_of word) } ∷ [])
        → IsWanted w × (w.style ≡ st) × (w.node ≡ n)
    by true j = absurd j
    by false (inl is) = (
      subst IsWanted (sym is)
          (record {
            small = record { rate = omega arith; most = omega arith };
            some = record { rate = omega arith; depth = omega arith; low = omega arith; most = omega arith };
            listed = i;
            few = few_names st session (word / 16 % 16);
            fit = fit_names st session (word / 16 % 16) (omega arith);
          }),
      ap (λ (x : Wanted). x.style) is,
      ap (λ (x : Wanted). x.node) is,
    )
    by false (inr none) = absurd none

pub wanted_at_node : (seed n : ℕ) (w : Wanted) → In w (wanted_at seed n) → IsWanted w × (w.node ≡ n)
wanted_at_node seed n w i =
    let st = in_flat_map (λ st. wanted_by st (session_word seed st) n (want_word seed n st)) w styles i in
    let told = wanted_told st.0 (session_word seed st.0) n (want_word seed n st.0) w st.1 st.2 in
    (told.0, told.2)

pub is_wanted : (seed : ℕ) (w : Wanted) → In w (wants seed) → IsWanted w × (w.node < 64)
unfolding wants_up_to
is_wanted seed w i =
    let n = in_flat_map (wanted_at seed) w (range_with_len 0 64) i in
    let told = wanted_at_node seed n.0 w n.2 in
    let within = (in_range 0 64 n.0 n.1).1 in
    let at = told.1 in
    (told.0, omega (arith, within, at))

-- ---- local wants
pub record IsAsked (w : LocalWant) : Type 0 where
  pub session : w.session ≡ session_of w.style
  pub listed : In w.style styles
  pub small : IsSmallFlow w.part.flow
  pub one_sender : w.style ≡ Fixed → size w.part.senders ≡ 1

pub is_asked : (seed : ℕ) (w : LocalWant) → In w (asked seed).wants → IsAsked w
is_asked seed w i =
    let x = in_flat_map local_wants w (wants seed) i in
    let e = in_each (want_at x.0.node) w (wanted (session_of x.0.style) x.0.style x.0.senders x.0.flow false) x.2 in
    let row = wanted_row (session_of x.0.style) x.0.style x.0.senders x.0.flow e.0 e.1 in
    let own = (is_wanted seed x.0 x.1).0 in
    let style : w.style ≡ x.0.style = ap (λ (z : LocalWant). z.style) e.2 ∙ row.style in
    record {
      session = ap (λ (z : LocalWant). z.session) e.2 ∙ row.session ∙ ap session_of (sym style);
      listed = subst (λ (k : StyleKind). In k styles) (sym style) own.listed;
      small = subst IsSmallFlow (sym (ap (λ (z : LocalWant). z.part.flow) e.2 ∙ row.flow_is)) own.small;
      one_sender = λ fixed. ap (λ (z : LocalWant). size z.part.senders) e.2 ∙ row.one_sender (sym style ∙ fixed);
    }

-- a session is of one style
pub style_of : (a b : StyleKind) → session_of a ≡ session_of b → a ≡ b
style_of a b e = let same : (session_of a).group.0 ≡ (session_of b).group.0 = ap (λ (s : Session). s.group.0) e in style_apart a b (omega (arith, same))

pub one_style : (seed : ℕ) (v w : LocalWant) → In v (asked seed).wants → In w (asked seed).wants → v.session ≡ w.session → v.style ≡ w.style
one_style seed v w i j e = style_of v.style w.style (sym (is_asked seed v i).session ∙ e ∙ (is_asked seed w j).session)
