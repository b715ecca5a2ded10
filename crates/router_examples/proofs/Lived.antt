-- A router with something in each table is within bounds.
use Rattle.std.specs.Prelude.{◌≡◌, ℕ, zero, suc, ◌≤◌, Bool, true, false, cond, is_some, [], ◌∷◌, slice_get, Some, None, refl}
use Rattle.std.proofs.Common.{arith, sym, ap, subst, ◌∙◌, ⊎_elim}
use Rattle.std.specs.Ordering.{eq_by_cmp}
use Rattle.rsvp_base.specs.declared.iface.Iface.{Iface}
use Rattle.rsvp_base.specs.declared.part.Part.{Part}
use Rattle.rsvp_base.specs.declared.session.Sender.{Sender}
use Rattle.rsvp_base.specs.declared.session.Session.{Session}
use Rattle.rsvp_base.specs.declared.style.StyleKind.{StyleKind}
use Rattle.rsvp_base.specs.declared.style.StyleKind.TheVariants.{Wild, Fixed, Shared}
use Rattle.rsvp_base.specs.declared.style.Unit.TheVariants.{One}
use Rattle.rsvp_base.specs.Keys.{Keys}
use Rattle.rsvp_base.specs.Members.{In}
use Rattle.rsvp_base.specs.Orders.{senders, sessions, units, entry_keys}
use Rattle.rsvp_base.specs.Table.{Table, get, has, empty}
use Rattle.rsvp_base.specs.TokenBucket.{IsSound}
use Rattle.rsvp_base.proofs.Counts.{found_in, set_of_in}
use Rattle.rsvp_base.proofs.SessionRoom.{put_room}
use Rattle.router_rules.specs.StyleRules.Limits.{IsWithinLimits}
use Rattle.router_rules.specs.StyleRules.Lines.{LineKey, held, line_keys}
use Rattle.rsvp_base.specs.declared.entry_key.EntryKey.{EntryKey}
use Rattle.router_rules.specs.StyleRules.Parts.{IsOfStyle}
use Rattle.rsvp_base.specs.Styles.{name_of}
use Rattle.router_rules.proofs.StyleRules.Room.{within_told}
use Rattle.router_rules.specs.StyleRules.declared.target.Target.TheVariants as target
use Rattle.router_examples.specs.BoundRows.{LivedIsWithinBounds, lived, own_sender}
use Rattle.router_rules.specs.Books.{book, lines_of}
use Rattle.router_rules.specs.Bounds.{IsPathShaped, IsShaped, IsWallShaped, IsWantShaped, LivesUpTo}
use Rattle.router_rules.specs.Facts.{Blockade, PathState, ResvState, Want, WantKey, resvs_of, sender_keys, want_keys}
use Rattle.router_rules.specs.StyleRules.Targets.{WallKey, wall_keys}
use Rattle.router_rules.specs.Forgetting.{counted}
use Rattle.router_examples.specs.ThreeRouters.{flow, iface, first, node_r, r2, s1, scope, session, t1, usual}

-- a table of one row has that row alone
only_row : {K X : Type 0} (o : Keys K) (m : Table o X) (r : K × X) → m.rows ≡ r ∷ [] → (k : K) (x : X) → get m k ≡ Some x → (k ≡ r.0) × (x ≡ r.1)
only_row {K} {X} o m r is k x g =
    ⊎_elim (λ (same : (k, x) ≡ r). (ap (λ (z : K × X). z.0) same, ap (λ (z : K × X). z.1) same)) (λ (n : ⊥). absurd n) (subst (λ es. In (k, x) es) is (found_in o m k x g))

-- what stands
abbrev a_path : PathState
a_path = record { iface = 0; hop = record { addr = s1; handle = 0 }; tspec = usual; police = true; adspec = None; dies = 157500 }

abbrev a_resv : ResvState
a_resv = record { part = record { senders = scope; flow = usual }; confirm = None; dies = 157500 }

abbrev a_want : Want
a_want = record { style = Wild; part = record { senders = empty; flow = flow 500 2000 64 1500 }; confirm = false }

abbrev a_wall : Blockade
a_wall = record { wall = record { flow = usual; sub = 2 }; dies = 120000 }

one_resv : (st : StyleKind) (k : LineKey) (r : ResvState) → get (resvs_of st lived) k ≡ Some r → (st ≡ Wild) × ((k ≡ (session, ((1, t1), One))) × (r ≡ a_resv))
one_resv Wild k r g = (refl, only_row line_keys lived.resvs.wild ((session, ((1, t1), One)), a_resv) refl k r g)
one_resv Fixed k r g = absurd (cc)
one_resv Shared k r g = absurd (cc)

sound : IsSound usual
sound = record { rate = omega arith; depth = omega arith; low = omega arith; most = omega arith }

-- the reservation is of its style
of_scope : (s : Sender) → has scope s ≡ true → s ≡ record { addr = s1; port = 0 }
of_scope s h = ⊎_elim (λ (e : s ≡ record { addr = s1; port = 0 }). e) (λ (n : ⊥). absurd n) (set_of_in senders ((record { addr = s1; port = 0 }) ∷ []) s h)

wild_shape : IsOfStyle Wild a_resv.part
wild_shape = record { named = refl; listed = λ s h. ap (name_of Wild) (of_scope s h) ∙ sym (of_scope s h); one_unit = λ s t h g. refl }

resv_shaped : (st : StyleKind) (k : LineKey) (r : ResvState) → st ≡ Wild → k ≡ (session, ((1, t1), One)) → r ≡ a_resv → IsShaped (node_r 10000) st k r
resv_shaped st k r a b c =
    subst (λ z. IsShaped (node_r 10000) z k r) (sym a)
    (subst (λ z. IsShaped (node_r 10000) Wild z r) (sym b)
    (subst (λ z. IsShaped (node_r 10000) Wild (session, ((1, t1), One)) z) (sym c) (record { iface = omega arith; style = wild_shape; unit = refl; names = omega arith; flow = sound })))

want_shaped : (k : WantKey) (w : Want) → k ≡ (session, One) → w ≡ a_want → IsWantShaped k w
want_shaped k w a b =
    subst (λ z. IsWantShaped z w) (sym a)
    (subst (λ z. IsWantShaped (session, One) z) (sym b)
    (record { shape = (refl, refl); names = omega arith; flow = record { rate = omega arith; depth = omega arith; low = omega arith; most = omega arith } }))

wall_shaped : (k : WallKey) (b : Blockade) → k ≡ (session, target.Hop 0 s1) → b ≡ a_wall → IsWallShaped (node_r 10000) k b
wall_shaped k b a c =
    subst (λ z. IsWallShaped (node_r 10000) z b) (sym a) (subst (λ z. IsWallShaped (node_r 10000) (session, target.Hop 0 s1) z) (sym c) (record { iface = omega arith; flow = sound }))

fits_all : (st : StyleKind) → IsWithinLimits st (lines_of st (resvs_of st lived))
fits_all Wild = within_told Wild (lines_of Wild lived.resvs.wild) refl
fits_all Fixed = within_told Fixed (lines_of Fixed lived.resvs.fixed) refl
fits_all Shared = within_told Shared (lines_of Shared lived.resvs.shared) refl

-- countdowns
one_session : (s : Session) → has lived.due s ≡ has (counted lived) s
one_session s = by (eq_by_cmp sessions.cmp s session)
  where
    by : (b : Bool) → is_some {T = ℕ} (cond b (Some 30000) None) ≡ is_some {T = Unit {0}} (cond b (Some tt) None)
    by true = refl
    by false = refl

-- the interfaces
booked : (i : ℕ) (on : Iface) → slice_get (node_r 10000).ifaces i ≡ Some on → held (book lived i) ≤ on.capacity
booked zero on e = omega arith
booked (suc zero) on e = let is : iface r2 10000 ≡ on = cc in subst (λ (z : Iface). held (book lived 1) ≤ z.capacity) is (omega arith)
booked (suc (suc i)) on e = absurd (cc)

fits_mtu : (i : ℕ) (on : Iface) (k : EntryKey) (part : Part) → slice_get (node_r 10000).ifaces i ≡ Some on → get (book lived i) k ≡ Some part → part.flow.most ≤ on.mtu
fits_mtu zero on k part e g = absurd (cc)
fits_mtu (suc zero) on k part e g =
    let is : iface r2 10000 ≡ on = cc in
    let row = only_row entry_keys (book lived 1) (record { session = session; style = Wild; unit = One }, a_resv.part) refl k part g in
    subst (λ (z : Iface). part.flow.most ≤ z.mtu) is (subst (λ (z : Part). z.flow.most ≤ 1500) (sym row.1) (omega arith))
fits_mtu (suc (suc i)) on k part e g = absurd (cc)

pub lived_is_within_bounds : LivedIsWithinBounds
lived_is_within_bounds =
    record {
      bounds =
          record {
            alive =
                record {
                  paths = λ k x g. subst (λ (z : PathState). LivesUpTo 0 157500 z.dies) (sym (only_row sender_keys lived.paths ((session, first), a_path) refl k x g).1)
                      (record { later = omega arith; soon = omega arith });
                  resvs = λ st k r g. subst (λ (z : ResvState). LivesUpTo 0 157500 z.dies) (sym (one_resv st k r g).1.1) (record { later = omega arith; soon = omega arith });
                  walls = λ k b g. subst (λ (z : Blockade). LivesUpTo 0 120000 z.dies) (sym (only_row wall_keys lived.walls ((session, target.Hop 0 s1), a_wall) refl k b g).1)
                      (record { later = omega arith; soon = omega arith });
                };
            due = record {
              counted = one_session;
              moment = λ s t g. subst (LivesUpTo 0 45000) (sym (only_row sessions lived.due (session, 30000) refl s t g).1)
                  (record { later = omega arith; soon = omega arith });
            };
            shapes =
                record {
                  senders = λ k tspec g. subst IsSound (sym (only_row sender_keys lived.senders ((session, own_sender), usual) refl k tspec g).1) sound;
                  paths = λ k x g. subst (IsPathShaped (node_r 10000)) (sym (only_row sender_keys lived.paths ((session, first), a_path) refl k x g).1) (record { iface = omega arith; tspec = sound; adspec = tt });
                  resvs = λ st k r g. let q = one_resv st k r g in resv_shaped st k r q.0 q.1.0 q.1.1;
                  wants = λ k w g. let q = only_row want_keys lived.wants ((session, One), a_want) refl k w g in want_shaped k w q.0 q.1;
                  walls = λ k b g. let q = only_row wall_keys lived.walls ((session, target.Hop 0 s1), a_wall) refl k b g in wall_shaped k b q.0 q.1;
                  one_style = λ s u v a b g h. ap (λ (z : Want). z.style) ((only_row want_keys lived.wants ((session, One), a_want) refl (s, u) a g).1
                      ∙ sym (only_row want_keys lived.wants ((session, One), a_want) refl (s, v) b h).1);
                };
            limits =
                record {
                  senders = (put_room senders (empty {o = sender_keys}) (session, own_sender) usual (record { all = omega arith; one = λ s. omega arith })).0 refl;
                  wants = (put_room units (empty {o = want_keys}) (session, One) a_want (record { all = omega arith; one = λ s. omega arith })).0 refl;
                  paths = (put_room senders (empty {o = sender_keys}) (session, first) a_path (record { all = omega arith; one = λ s. omega arith })).0 refl;
                  resvs = fits_all;
                  walls = omega arith;
                };
            booked = record { capacity = booked; mtu = fits_mtu };
          };
      senders = refl;
      wants = refl;
      paths = refl;
      resvs = refl;
      walls = refl;
      due = refl;
    }
