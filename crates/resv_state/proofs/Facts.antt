-- What a table below says, as the map of reservations: the facts by key, and what changes of them keep.
use Rattle.std.proofs.Common.{◌≡◌, ◌-◌, ℕ, Bool, true, false, cond, not, List, [], ◌∷◌, map as each, Option, Some, None, refl, sym, ap, subst, ◌∙◌, arith, inl, inr}
use Rattle.std.specs.Prelude.{nat_le, IfSome, IsNone}
use Rattle.std.specs.Ordering.{eq_by_cmp}
use Rattle.rsvp_base.specs.Orders.{sessions}
use Rattle.rsvp_base.specs.Rows.{AreRows, table_of}
use Rattle.rsvp_base.specs.Table.{Table, empty, get, put_in, without, changed, changed_rows, same_rows}
use Rattle.rsvp_base.specs.Under.{under}
use Rattle.rsvp_base.specs.declared.session.Session.{Session}
use Rattle.rsvp_base.specs.declared.style.StyleKind.{StyleKind}
use Rattle.rsvp_base.specs.declared.style.Unit.{Unit as UnitOf}
use Rattle.rsvp_base.proofs.Counts.{in_found, found_in}
use Rattle.rsvp_base.proofs.Members.{in_each, to_each}
use Rattle.rsvp_base.proofs.Tables.{got_changed, got_without, got_put_in}
use Rattle.style_rules.specs.Lines.{Line, LineKey, line_keys, AreUnder}
use Rattle.style_rules.specs.Limits.{IsWithinLimits}
use Rattle.style_rules.specs.Parts.{IsOfStyle, IsPartAtMost}
use Rattle.rsvp_base.specs.Styles.{part_unit}
use Rattle.style_rules.specs.PartLaws.{part_at_most_itself}
use Rattle.style_rules.proofs.Room.{within_below}
use Rattle.std.specs.FinMap.Entries.{put, where_key}
use Rattle.soft_table.specs.Facts.{Kept, dead_by}
use Rattle.soft_table.proofs.Told.{under-valued}
use Rattle.soft_table.proofs.Valued.{valued-put_in, valued-without}
use Rattle.resv_state.specs.declared.fact.Held.{Held}
use Rattle.resv_state.specs.Walks.{held_under, rests}
use Rattle.resv_state.specs.declared.fact.ResvFact.{ResvFact}
use Rattle.resv_state.specs.Resvs.{ResvFacts, ResvMap, AreOfStyle, AreUnderTheirKeys, resv_key, soft_resv, resv_lines, held_key, held_row, dead_row, fact_of, dead_of, later, dead_after}

abbrev pub said : Held × ℕ → ResvFact × ℕ
said e = (e.0.fact, e.1)

abbrev pub told : Held → ResvFact
told h = h.fact

pub same_map : (m n : ResvMap) → m.facts ≡ n.facts → m.dead ≡ n.dead → m ≡ n
same_map m n f d = λ i. record { facts = f i; dead = d i }

-- ---- fewer and smaller reservations
-- each reservation of the one has one of the other above it, under the same key
abbrev pub AreBelow : ResvFacts → ResvFacts → Type 0
AreBelow m n = (k : LineKey) (e : ResvFact × ℕ) → get m k ≡ Some e → (d : ResvFact × ℕ) × (get n k ≡ Some d) × IsPartAtMost e.0.part d.0.part

module _ (st : StyleKind) where
  pub lines_below : (m n : ResvFacts) → AreBelow m n → AreUnder (resv_lines st m) (resv_lines st n)
  lines_below m n h l i =
      let r = in_each (soft_resv st) l m.rows i in
      let d = h r.0.0 r.0.1 (in_found line_keys m r.0.0 r.0.1 r.1) in (
        soft_resv st (r.0.0, d.0),
        to_each (soft_resv st) (r.0.0, d.0) n.rows (found_in line_keys n r.0.0 d.0 d.1),
        record {
          style = ap (λ (z : Line). z.style) r.2;
          key = ap (λ (z : Line). (z.session, ((z.end, z.next), z.unit))) r.2;
          part = subst (λ (z : Line). IsPartAtMost z.part d.0.0.part)
              (sym r.2) d.2;
        },
      )

  pub limits_below : (m n : ResvFacts) → AreBelow m n → IsWithinLimits st (resv_lines st n) → IsWithinLimits st (resv_lines st m)
  limits_below m n h within = within_below st (resv_lines st m) (resv_lines st n) (lines_below m n h) within

  -- after some time
  lived : (ms : ℕ) (e : ResvFact × ℕ) (d : ResvFact × ℕ) (b : Bool) → cond b None (Some (d.0, d.1 - ms)) ≡ Some e → d.0 ≡ e.0
  lived ms e d true is = cc
  lived ms e d false is = let same : ◌≡◌ {A = ResvFact × ℕ} (d.0, d.1 - ms) e = cc in ap (λ (z : ResvFact × ℕ). z.0) same

  pub later_is : (ms : ℕ) (m : ResvFacts) (k : LineKey) (e : ResvFact × ℕ) → get (changed (later ms) m) k ≡ Some e → (d : ResvFact × ℕ) × (get m k ≡ Some d) × (d.0 ≡ e.0)
  later_is ms m k e got = let d = got_changed line_keys (later ms) m k e got in (d.0, d.1, lived ms e d.0 (nat_le d.0.1 ms) d.2)

  pub later_below : (ms : ℕ) (m : ResvFacts) → AreBelow (changed (later ms) m) m
  later_below ms m k e got = let d = later_is ms m k e got in (d.0, d.1, subst (λ (f : ResvFact). IsPartAtMost f.part d.0.0.part) d.2 (part_at_most_itself d.0.0.part))

  pub later_style : (ms : ℕ) (m : ResvFacts) → AreOfStyle st m → AreOfStyle st (changed (later ms) m)
  later_style ms m h =
      record {
        style = λ k e got. let d = later_is ms m k e got in subst (λ (f : ResvFact). IsOfStyle st f.part) d.2 (h.style k d.0 d.1);
        key = λ k e got. let d = later_is ms m k e got in ap (resv_key st) (sym d.2) ∙ h.key k d.0 d.1;
      }

  gone_is : (f : ResvFact) (d : ResvFact × ℕ) (b : Bool) → cond b (Some d.0) None ≡ Some f → d.0 ≡ f
  gone_is f d true is = cc
  gone_is f d false is = cc

  pub dead_keys : (ms : ℕ) (m : ResvFacts) → AreOfStyle st m → AreUnderTheirKeys st (changed (dead_after ms) m)
  dead_keys ms m h k f got =
      let d = got_changed line_keys (dead_after ms) m k f got in
      ap (resv_key st) (sym (gone_is f d.0 (nat_le d.0.1 ms) d.2)) ∙ h.key k d.0 d.1

  -- no reservation
  pub no_style : (m : ResvFacts) → m ≡ empty → AreOfStyle st m
  no_style m is =
      subst (λ (z : ResvFacts). AreOfStyle st z) (sym is) (record { style = λ k e got. absurd (none e got); key = λ k e got. absurd (none e got) })
    where
      none : (e : ResvFact × ℕ) → None ≡ Some e → ⊥
      none e got = cc

  pub no_keys : (m : Table line_keys ResvFact) → m ≡ empty → AreUnderTheirKeys st m
  no_keys m is = subst (λ (z : Table line_keys ResvFact). AreUnderTheirKeys st z) (sym is) (λ k e got. absurd (none e got))
    where
      none : (e : ResvFact) → None ≡ Some e → ⊥
      none e got = cc

  pub no_lines : (m : ResvFacts) → m ≡ empty → IsWithinLimits st (resv_lines st m)
  no_lines m is = subst (λ (z : ResvFacts). IsWithinLimits st (resv_lines st z)) (sym is)
      (record { lines = omega arith; sessions = omega arith; next_hops = λ s. omega arith; names = λ s. omega arith })

-- no dead one waits where the map has none
pub no_dead : (hs : List Held) → changed_rows dead_of (each dead_row hs) ≡ [] → hs ≡ []
no_dead [] e = refl
no_dead (h ∷ hs) e = cc

-- ---- one dead one fewer
pub pulled_keys : (st : StyleKind) (r : Option Held) (old new : Kept Held) (up : AreRows line_keys dead_row old.dead) (up2 : AreRows line_keys dead_row new.dead)
    → IfSome r (λ h. dead_by held_key new.dead ≡ where_key line_keys.cmp (λ k. not (eq_by_cmp line_keys.cmp (held_key h) k)) (dead_by held_key old.dead)) → (IsNone r → new ≡ old)
    → AreUnderTheirKeys st (changed dead_of (table_of line_keys dead_row old.dead up)) → AreUnderTheirKeys st (changed dead_of (table_of line_keys dead_row new.dead up2))
pulled_keys st None old new up up2 pulled same h =
    let is : changed dead_of (table_of line_keys dead_row new.dead up2) ≡ changed dead_of (table_of line_keys dead_row old.dead up) =
    same_rows _ _ (ap (λ (t : Kept Held). changed_rows dead_of (each dead_row t.dead)) (same refl)) in
    subst (λ (z : Table line_keys ResvFact). AreUnderTheirKeys st z) (sym is) h
pulled_keys st (Some d) old new up up2 pulled same h =
    let t : Table line_keys Held = table_of line_keys dead_row old.dead up in
    let is : changed dead_of (table_of line_keys dead_row new.dead up2) ≡ without (changed dead_of t) (held_key d) =
    same_rows _ (changed dead_of (without t (held_key d))) (ap (changed_rows dead_of) pulled) ∙ valued-without line_keys told t (held_key d) in
    subst (λ (z : Table line_keys ResvFact). AreUnderTheirKeys st z) (sym is) (λ k f got. h k f (got_without line_keys (changed dead_of t) (held_key d) k f got))

-- ---- one more
pub put_style : (st : StyleKind) (m : ResvFacts) (f : ResvFact) (left : ℕ) → IsOfStyle st f.part → AreOfStyle st m → AreOfStyle st (put_in m (resv_key st f) (f, left))
put_style st m f left own h =
    record {
      style = λ k e got. elim (got_put_in line_keys m (resv_key st f) (f, left) k e got) [
        | inl p ↦ subst (λ (z : ResvFact × ℕ). IsOfStyle st z.0.part) (sym p.1) own
        | inr p ↦ h.style k e p
      ];
      key = λ k e got. elim (got_put_in line_keys m (resv_key st f) (f, left) k e got) [
        | inl p ↦ ap (λ (z : ResvFact × ℕ). resv_key st z.0) p.1 ∙ sym p.0
        | inr p ↦ h.key k e p
      ];
    }

-- the key of a fact with its unit below
pub own_unit : (st : StyleKind) (f : ResvFact) (u : UnitOf) → u ≡ part_unit st f.part → held_key (record { unit = u; fact = f }) ≡ resv_key st f
own_unit st f u is = ap (λ (v : UnitOf). (f.session, ((f.iface, f.next), v))) is

module _ (fs : List (Held × ℕ)) (up : AreRows line_keys held_row fs) where
  abbrev t : Table line_keys (Held × ℕ)
  t = table_of line_keys held_row fs up

  -- the map after a fact was put in below
  pub put_said : (st : StyleKind) (f : ResvFact) (left : ℕ) (u : UnitOf) → u ≡ part_unit st f.part → (m : ResvFacts)
      → m.rows ≡ changed_rows fact_of (put line_keys.cmp (held_key (record { unit = u; fact = f })) (record { unit = u; fact = f }, left) (each held_row fs))
      → m ≡ put_in (changed fact_of t) (resv_key st f) (f, left)
  put_said st f left u unit m is =
      let h : Held = record { unit = u; fact = f } in
      same_rows m (changed fact_of (put_in t (held_key h) (h, left))) is ∙ valued-put_in line_keys said t (held_key h) (h, left)
      ∙ ap (λ z. put_in (changed fact_of t) z (f, left)) (own_unit st f u unit)

  -- the rows of a session
  pub rows_said : (now : ResvFacts) → changed fact_of t ≡ now → (s : Session) → changed_rows (λ k e. Some (said e)) (held_under s fs) ≡ (under sessions rests now s).rows
  rows_said now is s = ap (λ (u : Table rests (ResvFact × ℕ)). u.rows) (sym (under-valued said sessions rests t s)) ∙ ap (λ (m : ResvFacts). (under sessions rests m s).rows) is
