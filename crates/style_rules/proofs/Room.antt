-- Limits of tables: what the test tells, and fewer lines within them.
use Rattle.std.specs.Prelude.{◌≡◌, ℕ, ◌≤◌, nat_le, Bool, true, false, cond, ◌&&◌, ◌||◌, List, [], ◌∷◌, map as each, refl}
use Rattle.std.proofs.Common.{sym, ap, subst, ◌∙◌, arith, inl, inr}
use Rattle.std.proofs.lemmas.Bool.{leb-true, le-leb}
use Rattle.std.specs.List.{flat_map, list_all, list_any}
use Rattle.std.specs.Ordering.{eq_by_cmp}
use Rattle.rsvp_base.specs.declared.session.Sender.{Sender}
use Rattle.rsvp_base.specs.declared.session.Session.{Session}
use Rattle.rsvp_base.specs.declared.style.StyleKind.{StyleKind}
use Rattle.rsvp_base.specs.Members.{In}
use Rattle.rsvp_base.specs.Orders.{sessions, styles, senders}
use Rattle.rsvp_base.specs.Table.{size, keys}
use Rattle.rsvp_base.proofs.Tables.{either, tied_self}
use Rattle.rsvp_base.proofs.Members.{in_filter, to_filter, in_each, to_each, in_flat_map, to_flat_map, all_in, in_all, in_tied}
use Rattle.rsvp_base.proofs.SetLaws.{and_both, and_made}
use Rattle.rsvp_base.proofs.Counts.{set_below}
use Rattle.style_rules.specs.Lines.{Line, next_hops, LineKey, line_keys, line_key, AreUnder}
use Rattle.style_rules.specs.Limits.{of_style, of_session, line_keys_of, sessions_of, next_hops_of, names_of, IsWithinLimits, session_within, within_limits}
use Rattle.style_rules.proofs.StyleLaws.{named_in, in_named}

-- ---- what the test tells
no_line : (s : Session) (ls : List Line) → list_any (eq_by_cmp sessions.cmp s) (each (λ (l : Line). l.session) ls) ≡ false → of_session s ls ≡ []
no_line s [] h = refl
no_line s (l ∷ ls) h =
    let parts = or_false (eq_by_cmp sessions.cmp s l.session) (list_any (eq_by_cmp sessions.cmp s) (each (λ (z : Line). z.session) ls)) h in
    ap (λ b. cond b (l ∷ of_session s ls) (of_session s ls)) parts.0 ∙ no_line s ls parts.1
  where
    or_false : (a b : Bool) → (a || b) ≡ false → (a ≡ false) × (b ≡ false)
    or_false true b e = absurd (cc)
    or_false false b e = (refl, e)

each_session : (ls : List Line) → list_all (session_within ls) (each (λ (l : Line). l.session) ls) ≡ true → (s : Session) → session_within ls s ≡ true
each_session ls h s =
    either (list_any (eq_by_cmp sessions.cmp s) (each (λ (l : Line). l.session) ls))
    (λ t. all_in (session_within ls) (each (λ (l : Line). l.session) ls) h s (in_tied sessions s (each (λ (l : Line). l.session) ls) t))
    (λ t. ap (λ zs. nat_le (size (next_hops_of zs)) 64 && nat_le (size (names_of zs)) 16) (no_line s ls t))

pub within_told : (st : StyleKind) (ls : List Line) → within_limits st ls ≡ true → IsWithinLimits st ls
within_told st ls h =
    let a = and_both (nat_le (size (line_keys_of (of_style st ls))) 1024) _ h in
    let b = and_both (nat_le (size (sessions_of (of_style st ls))) 32) _ a.1 in
    let one : (s : Session) → (nat_le (size (next_hops_of (of_session s (of_style st ls)))) 64 ≡ true) × (nat_le (size (names_of (of_session s (of_style st ls)))) 16 ≡ true) =
    λ s. and_both _ _ (each_session (of_style st ls) b.1 s) in
    record {
      lines = leb-true _ 1024 a.0;
      sessions = leb-true _ 32 b.0;
      next_hops = λ s. leb-true _ 64 (one s).0;
      names = λ s. leb-true _ 16 (one s).1;
    }

pub within_tested : (st : StyleKind) (ls : List Line) → IsWithinLimits st ls → within_limits st ls ≡ true
within_tested st ls h =
    and_made _ _ (le-leb _ 1024 h.lines)
    (and_made _ _ (le-leb _ 32 h.sessions)
    (in_all (session_within (of_style st ls)) (each (λ (l : Line). l.session) (of_style st ls)) (λ s i. and_made _ _ (le-leb _ 64 (h.next_hops s)) (le-leb _ 16 (h.names s)))))

-- lines of one style alone
pub of_style_all : (st : StyleKind) (ls : List Line) → ((l : Line) → In l ls → l.style ≡ st) → of_style st ls ≡ ls
of_style_all st [] h = refl
of_style_all st (l ∷ ls) h =
    ap (λ b. cond b (l ∷ of_style st ls) (of_style st ls)) (ap (eq_by_cmp styles.cmp st) (h l (inl refl)) ∙ tied_self styles st)
    ∙ ap (λ zs. l ∷ zs) (of_style_all st ls (λ z i. h z (inr i)))

-- ---- fewer lines
under_of_style : (st : StyleKind) (ls gs : List Line) → AreUnder ls gs → AreUnder (of_style st ls) (of_style st gs)
under_of_style st ls gs h l i =
    let s = in_filter (λ (z : Line). eq_by_cmp styles.cmp st z.style) l ls i in
    let g = h l s.0 in
    (g.0, to_filter (λ (z : Line). eq_by_cmp styles.cmp st z.style) g.0 gs g.1 (ap (eq_by_cmp styles.cmp st) (sym g.2.style) ∙ s.1), g.2)

under_of_session : (t : Session) (ls gs : List Line) → AreUnder ls gs → AreUnder (of_session t ls) (of_session t gs)
under_of_session t ls gs h l i =
    let s = in_filter (λ (z : Line). eq_by_cmp sessions.cmp t z.session) l ls i in
    let g = h l s.0 in
    (g.0, to_filter (λ (z : Line). eq_by_cmp sessions.cmp t z.session) g.0 gs g.1 (ap (λ (k : LineKey). eq_by_cmp sessions.cmp t k.0) (sym g.2.key) ∙ s.1), g.2)

-- what is read off the key of each line
by_key : {K : Type 0} (f : LineKey → K) (ls gs : List Line) → AreUnder ls gs → (k : K) → In k (each (λ (l : Line). f (line_key l)) ls) → In k (each (λ (l : Line). f (line_key l)) gs)
by_key f ls gs h k i =
    let s = in_each (λ (l : Line). f (line_key l)) k ls i in
    let g = h s.0 s.1 in
    subst (λ z. In z (each (λ (l : Line). f (line_key l)) gs)) (sym (s.2 ∙ ap f g.2.key)) (to_each (λ (l : Line). f (line_key l)) g.0 gs g.1)

names_among : (ls gs : List Line) → AreUnder ls gs → (s : Sender) → In s (flat_map (λ (l : Line). keys l.part.senders) ls) → In s (flat_map (λ (l : Line). keys l.part.senders) gs)
names_among ls gs h s i =
    let r = in_flat_map (λ (l : Line). keys l.part.senders) s ls i in
    let g = h r.0 r.1 in
    to_flat_map (λ (l : Line). keys l.part.senders) g.0 s gs g.1 (named_in g.0.part s (g.2.part.names s (in_named r.0.part s r.2)))

below : (a b n : ℕ) → a ≤ b → b ≤ n → a ≤ n
below a b n h g = omega arith

pub within_below : (st : StyleKind) (ls gs : List Line) → AreUnder ls gs → IsWithinLimits st gs → IsWithinLimits st ls
within_below st ls gs h w =
    let u = under_of_style st ls gs h in
    record {
      lines = below _ _ 1024 (set_below line_keys _ _ (by_key (λ k. k) (of_style st ls) (of_style st gs) u)) w.lines;
      sessions = below _ _ 32 (set_below sessions _ _ (by_key (λ k. k.0) (of_style st ls) (of_style st gs) u)) w.sessions;
      next_hops = λ s. below _ _ 64 (set_below next_hops _ _ (by_key (λ k. k.1.0) (of_session s (of_style st ls)) (of_session s (of_style st gs))
          (under_of_session s (of_style st ls) (of_style st gs) u))) (w.next_hops s);
      names = λ s. below _ _ 16 (set_below senders _ _ (names_among (of_session s (of_style st ls)) (of_session s (of_style st gs)) (under_of_session s (of_style st ls) (of_style st gs) u)))
          (w.names s);
    }
