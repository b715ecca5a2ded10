use Rattle.std.proofs.Common.{◌≡◌, sym, ap, subst, ◌∙◌, refl}
use Rattle.rsvp_base.specs.Table.{put_in}
use Rattle.rsvp_base.specs.declared.style.StyleKind.{StyleKind}
use Rattle.rsvp_base.specs.declared.style.StyleKind.TheVariants.{Wild, Fixed, Shared}
use Rattle.resv_state.specs.Resvs.{ResvMap, resv_key}
use Rattle.router_rules.specs.Facts.{table_of, with_table}
use Rattle.resv_admission.specs.Placing.{chosen, placed_in, stands}
use Rattle.stale_state.specs.Tables.{AreAdmitted, only_resvs, place_with, tables_of}
use Rattle.stale_state.proofs.Booking.{among, dead_same, fixed_placed, shared_placed, still, wild_placed}
use Rattle.stale_state.proofs.resvs.ResvsLeft.stand.Goals as goal

pub place-requires-clause-kept : goal.place-requires-clause-kept
place-requires-clause-kept c = (among c.args.self.now.wild.facts c.args.self.now.fixed.facts c.args.self.now.shared.facts c.args.self.now.book.entries c.args.self.now.booked c.args.self.now.within).0

pub invariant_of-self : goal.invariant_of-self
invariant_of-self c =
    let cause : c.place.result ≡ placed_in (place_with c.args.self.now.book.ifaces) Wild 0 c.args.fact c.args.left
    (only_resvs (tables_of c.args.self.now.wild.facts c.args.self.now.fixed.facts c.args.self.now.shared.facts)) =
    c.place.ensures.result (place_with c.args.self.now.book.ifaces) 0
    (only_resvs (tables_of c.args.self.now.wild.facts c.args.self.now.fixed.facts c.args.self.now.shared.facts)) refl refl c.args.self.now.booked in
    let is : tables_of c.place.new.table.facts c.args.self.now.fixed.facts c.args.self.now.shared.facts
    ≡ chosen c.place.result (with_table Wild (put_in (table_of Wild (tables_of c.args.self.now.wild.facts c.args.self.now.fixed.facts c.args.self.now.shared.facts))
    (resv_key Wild c.args.fact) (stands 0 c.args.fact c.args.left)) (tables_of c.args.self.now.wild.facts c.args.self.now.fixed.facts c.args.self.now.shared.facts))
    (tables_of c.args.self.now.wild.facts c.args.self.now.fixed.facts c.args.self.now.shared.facts) =
    ap (λ (t : ResvMap). tables_of t.facts c.args.self.now.fixed.facts c.args.self.now.shared.facts) c.place.ensures.table
    ∙ wild_placed c.args.self.now.wild.facts c.args.self.now.fixed.facts c.args.self.now.shared.facts c.args.fact c.args.left c.place.result in
    let all = still Wild (tables_of c.args.self.now.wild.facts c.args.self.now.fixed.facts c.args.self.now.shared.facts)
    (tables_of c.place.new.table.facts c.args.self.now.fixed.facts c.args.self.now.shared.facts) c.args.fact c.args.left c.args.self.now.book.ifaces c.place.result cause is
    c.args.self.now.within c.args.self.now.admitted in
    record {
      no_wild_waits = dead_same c.args.self.now.wild c.place.new.table _ c.place.ensures.table ∙ c.args.self.now.no_wild_waits;
      no_fixed_waits = c.args.self.now.no_fixed_waits;
      no_shared_waits = c.args.self.now.no_shared_waits;
      booked = c.place.ensures.book 0 (only_resvs (tables_of c.args.self.now.wild.facts c.args.self.now.fixed.facts c.args.self.now.shared.facts)) refl c.args.self.now.booked;
      within = all.0;
      admitted = subst (λ is. AreAdmitted is (only_resvs (tables_of c.place.new.table.facts c.args.self.now.fixed.facts c.args.self.now.shared.facts))) (sym c.place.ensures.ifaces) all.1;
    }

pub returns-in-Wild-clause-cause : goal.returns-in-Wild-clause-cause
returns-in-Wild-clause-cause c =
    let cause : c.place.result ≡ placed_in (place_with c.args.self.now.book.ifaces) Wild 0 c.args.fact c.args.left
    (only_resvs (tables_of c.args.self.now.wild.facts c.args.self.now.fixed.facts c.args.self.now.shared.facts)) =
    c.place.ensures.result (place_with c.args.self.now.book.ifaces) 0
    (only_resvs (tables_of c.args.self.now.wild.facts c.args.self.now.fixed.facts c.args.self.now.shared.facts)) refl refl c.args.self.now.booked in
    subst (λ (s : StyleKind). c.place.result ≡ placed_in (place_with c.args.self.now.book.ifaces) s 0 c.args.fact c.args.left
    (only_resvs (tables_of c.args.self.now.wild.facts c.args.self.now.fixed.facts c.args.self.now.shared.facts))) (sym c.in-Wild.is) cause

pub returns-in-Wild-clause-tables : goal.returns-in-Wild-clause-tables
returns-in-Wild-clause-tables c =
    let is : tables_of c.place.new.table.facts c.args.self.now.fixed.facts c.args.self.now.shared.facts
    ≡ chosen c.place.result (with_table Wild (put_in (table_of Wild (tables_of c.args.self.now.wild.facts c.args.self.now.fixed.facts c.args.self.now.shared.facts))
    (resv_key Wild c.args.fact) (stands 0 c.args.fact c.args.left)) (tables_of c.args.self.now.wild.facts c.args.self.now.fixed.facts c.args.self.now.shared.facts))
    (tables_of c.args.self.now.wild.facts c.args.self.now.fixed.facts c.args.self.now.shared.facts) =
    ap (λ (t : ResvMap). tables_of t.facts c.args.self.now.fixed.facts c.args.self.now.shared.facts) c.place.ensures.table
    ∙ wild_placed c.args.self.now.wild.facts c.args.self.now.fixed.facts c.args.self.now.shared.facts c.args.fact c.args.left c.place.result in
    subst (λ (s : StyleKind). tables_of c.place.new.table.facts c.args.self.now.fixed.facts c.args.self.now.shared.facts
    ≡ chosen c.place.result (with_table s (put_in (table_of s (tables_of c.args.self.now.wild.facts c.args.self.now.fixed.facts c.args.self.now.shared.facts)) (resv_key s c.args.fact)
    (stands 0 c.args.fact c.args.left)) (tables_of c.args.self.now.wild.facts c.args.self.now.fixed.facts c.args.self.now.shared.facts))
    (tables_of c.args.self.now.wild.facts c.args.self.now.fixed.facts c.args.self.now.shared.facts)) (sym c.in-Wild.is) is

pub place-requires-in-Fixed-clause-kept : goal.place-requires-in-Fixed-clause-kept
place-requires-in-Fixed-clause-kept c =
    (among c.args.self.now.wild.facts c.args.self.now.fixed.facts c.args.self.now.shared.facts c.args.self.now.book.entries c.args.self.now.booked c.args.self.now.within).1

pub invariant_of-self-in-Fixed : goal.invariant_of-self-in-Fixed
invariant_of-self-in-Fixed c =
    let cause : c.place-in-Fixed.result ≡ placed_in (place_with c.args.self.now.book.ifaces) Fixed 0 c.args.fact c.args.left
    (only_resvs (tables_of c.args.self.now.wild.facts c.args.self.now.fixed.facts c.args.self.now.shared.facts)) =
    c.place-in-Fixed.ensures.result (place_with c.args.self.now.book.ifaces) 0 (only_resvs
    (tables_of c.args.self.now.wild.facts c.args.self.now.fixed.facts c.args.self.now.shared.facts)) refl refl c.args.self.now.booked in
    let is : tables_of c.args.self.now.wild.facts c.place-in-Fixed.new.table.facts c.args.self.now.shared.facts
    ≡ chosen c.place-in-Fixed.result (with_table Fixed (put_in (table_of Fixed (tables_of c.args.self.now.wild.facts c.args.self.now.fixed.facts c.args.self.now.shared.facts))
    (resv_key Fixed c.args.fact) (stands 0 c.args.fact c.args.left)) (tables_of c.args.self.now.wild.facts c.args.self.now.fixed.facts c.args.self.now.shared.facts))
    (tables_of c.args.self.now.wild.facts c.args.self.now.fixed.facts c.args.self.now.shared.facts) =
    ap (λ (t : ResvMap). tables_of c.args.self.now.wild.facts t.facts c.args.self.now.shared.facts) c.place-in-Fixed.ensures.table
    ∙ fixed_placed c.args.self.now.wild.facts c.args.self.now.fixed.facts c.args.self.now.shared.facts c.args.fact c.args.left c.place-in-Fixed.result in
    let all = still Fixed (tables_of c.args.self.now.wild.facts c.args.self.now.fixed.facts c.args.self.now.shared.facts)
    (tables_of c.args.self.now.wild.facts c.place-in-Fixed.new.table.facts c.args.self.now.shared.facts) c.args.fact c.args.left c.args.self.now.book.ifaces c.place-in-Fixed.result cause is
    c.args.self.now.within c.args.self.now.admitted in
    record {
      no_wild_waits = c.args.self.now.no_wild_waits;
      no_fixed_waits = dead_same c.args.self.now.fixed c.place-in-Fixed.new.table _ c.place-in-Fixed.ensures.table ∙ c.args.self.now.no_fixed_waits;
      no_shared_waits = c.args.self.now.no_shared_waits;
      booked = c.place-in-Fixed.ensures.book 0 (only_resvs (tables_of c.args.self.now.wild.facts c.args.self.now.fixed.facts c.args.self.now.shared.facts)) refl c.args.self.now.booked;
      within = all.0;
      admitted = subst (λ is. AreAdmitted is (only_resvs (tables_of c.args.self.now.wild.facts c.place-in-Fixed.new.table.facts c.args.self.now.shared.facts)))
          (sym c.place-in-Fixed.ensures.ifaces) all.1;
    }

pub returns-in-Fixed-clause-cause : goal.returns-in-Fixed-clause-cause
returns-in-Fixed-clause-cause c =
    let cause : c.place-in-Fixed.result ≡ placed_in (place_with c.args.self.now.book.ifaces) Fixed 0 c.args.fact c.args.left
    (only_resvs (tables_of c.args.self.now.wild.facts c.args.self.now.fixed.facts c.args.self.now.shared.facts)) =
    c.place-in-Fixed.ensures.result (place_with c.args.self.now.book.ifaces) 0 (only_resvs
    (tables_of c.args.self.now.wild.facts c.args.self.now.fixed.facts c.args.self.now.shared.facts)) refl refl c.args.self.now.booked in
    subst (λ (s : StyleKind). c.place-in-Fixed.result ≡ placed_in (place_with c.args.self.now.book.ifaces) s 0 c.args.fact c.args.left
    (only_resvs (tables_of c.args.self.now.wild.facts c.args.self.now.fixed.facts c.args.self.now.shared.facts))) (sym c.in-Fixed.is) cause

pub returns-in-Fixed-clause-tables : goal.returns-in-Fixed-clause-tables
returns-in-Fixed-clause-tables c =
    let is : tables_of c.args.self.now.wild.facts c.place-in-Fixed.new.table.facts c.args.self.now.shared.facts
    ≡ chosen c.place-in-Fixed.result (with_table Fixed (put_in (table_of Fixed (tables_of c.args.self.now.wild.facts c.args.self.now.fixed.facts c.args.self.now.shared.facts))
    (resv_key Fixed c.args.fact) (stands 0 c.args.fact c.args.left)) (tables_of c.args.self.now.wild.facts c.args.self.now.fixed.facts c.args.self.now.shared.facts))
    (tables_of c.args.self.now.wild.facts c.args.self.now.fixed.facts c.args.self.now.shared.facts) =
    ap (λ (t : ResvMap). tables_of c.args.self.now.wild.facts t.facts c.args.self.now.shared.facts) c.place-in-Fixed.ensures.table
    ∙ fixed_placed c.args.self.now.wild.facts c.args.self.now.fixed.facts c.args.self.now.shared.facts c.args.fact c.args.left c.place-in-Fixed.result in
    subst (λ (s : StyleKind). tables_of c.args.self.now.wild.facts c.place-in-Fixed.new.table.facts c.args.self.now.shared.facts
    ≡ chosen c.place-in-Fixed.result (with_table s (put_in (table_of s (tables_of c.args.self.now.wild.facts c.args.self.now.fixed.facts c.args.self.now.shared.facts)) (resv_key s c.args.fact)
    (stands 0 c.args.fact c.args.left)) (tables_of c.args.self.now.wild.facts c.args.self.now.fixed.facts c.args.self.now.shared.facts))
    (tables_of c.args.self.now.wild.facts c.args.self.now.fixed.facts c.args.self.now.shared.facts)) (sym c.in-Fixed.is) is

pub place-requires-in-Shared-clause-kept : goal.place-requires-in-Shared-clause-kept
place-requires-in-Shared-clause-kept c =
    (among c.args.self.now.wild.facts c.args.self.now.fixed.facts c.args.self.now.shared.facts c.args.self.now.book.entries c.args.self.now.booked c.args.self.now.within).2

pub invariant_of-self-in-Shared : goal.invariant_of-self-in-Shared
invariant_of-self-in-Shared c =
    let cause : c.place-in-Shared.result ≡ placed_in (place_with c.args.self.now.book.ifaces) Shared 0 c.args.fact c.args.left
    (only_resvs (tables_of c.args.self.now.wild.facts c.args.self.now.fixed.facts c.args.self.now.shared.facts)) =
    c.place-in-Shared.ensures.result (place_with c.args.self.now.book.ifaces) 0 (only_resvs
    (tables_of c.args.self.now.wild.facts c.args.self.now.fixed.facts c.args.self.now.shared.facts)) refl refl c.args.self.now.booked in
    let is : tables_of c.args.self.now.wild.facts c.args.self.now.fixed.facts c.place-in-Shared.new.table.facts
    ≡ chosen c.place-in-Shared.result (with_table Shared (put_in (table_of Shared (tables_of c.args.self.now.wild.facts c.args.self.now.fixed.facts c.args.self.now.shared.facts))
    (resv_key Shared c.args.fact) (stands 0 c.args.fact c.args.left)) (tables_of c.args.self.now.wild.facts c.args.self.now.fixed.facts c.args.self.now.shared.facts))
    (tables_of c.args.self.now.wild.facts c.args.self.now.fixed.facts c.args.self.now.shared.facts) =
    ap (λ (t : ResvMap). tables_of c.args.self.now.wild.facts c.args.self.now.fixed.facts t.facts) c.place-in-Shared.ensures.table
    ∙ shared_placed c.args.self.now.wild.facts c.args.self.now.fixed.facts c.args.self.now.shared.facts c.args.fact c.args.left c.place-in-Shared.result in
    let all = still Shared (tables_of c.args.self.now.wild.facts c.args.self.now.fixed.facts c.args.self.now.shared.facts)
    (tables_of c.args.self.now.wild.facts c.args.self.now.fixed.facts c.place-in-Shared.new.table.facts) c.args.fact c.args.left c.args.self.now.book.ifaces c.place-in-Shared.result cause is
    c.args.self.now.within c.args.self.now.admitted in
    record {
      no_wild_waits = c.args.self.now.no_wild_waits;
      no_fixed_waits = c.args.self.now.no_fixed_waits;
      no_shared_waits = dead_same c.args.self.now.shared c.place-in-Shared.new.table _ c.place-in-Shared.ensures.table ∙ c.args.self.now.no_shared_waits;
      booked = c.place-in-Shared.ensures.book 0 (only_resvs (tables_of c.args.self.now.wild.facts c.args.self.now.fixed.facts c.args.self.now.shared.facts)) refl c.args.self.now.booked;
      within = all.0;
      admitted = subst (λ is. AreAdmitted is (only_resvs (tables_of c.args.self.now.wild.facts c.args.self.now.fixed.facts c.place-in-Shared.new.table.facts)))
          (sym c.place-in-Shared.ensures.ifaces) all.1;
    }

pub returns-in-Shared-clause-cause : goal.returns-in-Shared-clause-cause
returns-in-Shared-clause-cause c =
    let cause : c.place-in-Shared.result ≡ placed_in (place_with c.args.self.now.book.ifaces) Shared 0 c.args.fact c.args.left
    (only_resvs (tables_of c.args.self.now.wild.facts c.args.self.now.fixed.facts c.args.self.now.shared.facts)) =
    c.place-in-Shared.ensures.result (place_with c.args.self.now.book.ifaces) 0 (only_resvs
    (tables_of c.args.self.now.wild.facts c.args.self.now.fixed.facts c.args.self.now.shared.facts)) refl refl c.args.self.now.booked in
    subst (λ (s : StyleKind). c.place-in-Shared.result ≡ placed_in (place_with c.args.self.now.book.ifaces) s 0 c.args.fact c.args.left
    (only_resvs (tables_of c.args.self.now.wild.facts c.args.self.now.fixed.facts c.args.self.now.shared.facts))) (sym c.in-Shared.is) cause

pub returns-in-Shared-clause-tables : goal.returns-in-Shared-clause-tables
returns-in-Shared-clause-tables c =
    let is : tables_of c.args.self.now.wild.facts c.args.self.now.fixed.facts c.place-in-Shared.new.table.facts
    ≡ chosen c.place-in-Shared.result (with_table Shared (put_in (table_of Shared (tables_of c.args.self.now.wild.facts c.args.self.now.fixed.facts c.args.self.now.shared.facts))
    (resv_key Shared c.args.fact) (stands 0 c.args.fact c.args.left)) (tables_of c.args.self.now.wild.facts c.args.self.now.fixed.facts c.args.self.now.shared.facts))
    (tables_of c.args.self.now.wild.facts c.args.self.now.fixed.facts c.args.self.now.shared.facts) =
    ap (λ (t : ResvMap). tables_of c.args.self.now.wild.facts c.args.self.now.fixed.facts t.facts) c.place-in-Shared.ensures.table
    ∙ shared_placed c.args.self.now.wild.facts c.args.self.now.fixed.facts c.args.self.now.shared.facts c.args.fact c.args.left c.place-in-Shared.result in
    subst (λ (s : StyleKind). tables_of c.args.self.now.wild.facts c.args.self.now.fixed.facts c.place-in-Shared.new.table.facts
    ≡ chosen c.place-in-Shared.result (with_table s (put_in (table_of s (tables_of c.args.self.now.wild.facts c.args.self.now.fixed.facts c.args.self.now.shared.facts)) (resv_key s c.args.fact)
    (stands 0 c.args.fact c.args.left)) (tables_of c.args.self.now.wild.facts c.args.self.now.fixed.facts c.args.self.now.shared.facts))
    (tables_of c.args.self.now.wild.facts c.args.self.now.fixed.facts c.args.self.now.shared.facts)) (sym c.in-Shared.is) is
