-- Parts are a lattice in two columns: sets of senders and flows.
use Rattle.std.specs.Prelude.{◌≡◌, ◌≤◌, true, ◌↔◌}
use Rattle.std.proofs.Common.{sym, ap, ◌∙◌}
use Rattle.std.specs.List.{list_all}
use Rattle.rsvp_base.specs.declared.part.Part.{Part}
use Rattle.rsvp_base.specs.Orders.{Names, senders}
use Rattle.rsvp_base.specs.Sets.{union, IsWithin}
use Rattle.rsvp_base.specs.Table.{has, keys}
use Rattle.rsvp_base.proofs.SetLaws.{union_comm, union_assoc, union_idem, within_union_left, within_union_right, union_of_within, within_of_union, and_both, and_made}
use Rattle.rsvp_base.proofs.Lists.{within_if_all, all_if_within}
use Rattle.flow_merge.specs.FlowOrder.{IsAtMost, flow_le}
use Rattle.flow_merge.proofs.Lattice.{at_most_itself, at_most_along, same_flow, join_above_left, join_above_right, join_least, meet_below_join, flow_join_comm, flow_join_assoc}
use Rattle.flow_merge.proofs.Lattice.{flow_join_idem, join_of_at_most, at_most_of_join}
use Rattle.flow_merge.proofs.Told.{at_most_told, at_most_tested}
use Rattle.style_rules.specs.Parts.{part_join, part_meet, IsPartAtMost, part_le, part_charge}

-- ---- sets within one another
within_along : (s t u : Names) → IsWithin s t → IsWithin t u → IsWithin s u
within_along s t u h g q e = g q (h q e)

pub same_names : (s t : Names) → IsWithin s t → IsWithin t s → s ≡ t
same_names s t h g = sym (union_of_within senders t s g) ∙ (union_comm senders t s ∙ union_of_within senders s t h)

pub union_least : (s t u : Names) → IsWithin s u → IsWithin t u → IsWithin (union s t) u
union_least s t u h g = within_of_union senders (union s t) u (union_assoc senders s t u ∙ ap (union s) (union_of_within senders t u g) ∙ union_of_within senders s u h)

-- ---- the order
pub same_part : (a b : Part) → a.senders ≡ b.senders → a.flow ≡ b.flow → a ≡ b
same_part a b s f = λ i. record { senders = s i; flow = f i }

pub part_at_most_itself : (a : Part) → IsPartAtMost a a
part_at_most_itself a = record { names = λ q h. h; flow = at_most_itself a.flow }

pub part_at_most_along : (a b c : Part) → IsPartAtMost a b → IsPartAtMost b c → IsPartAtMost a c
part_at_most_along a b c h g =
    record { names = within_along a.senders b.senders c.senders h.names g.names; flow = at_most_along a.flow b.flow c.flow h.flow g.flow }

pub part_at_most_both_ways : (a b : Part) → IsPartAtMost a b → IsPartAtMost b a → a ≡ b
part_at_most_both_ways a b h g = same_part a b (same_names a.senders b.senders h.names g.names) (same_flow a.flow b.flow h.flow g.flow)

pub part_at_most_apart : (a b : Part) → IsPartAtMost a b ↔ (IsWithin a.senders b.senders × IsAtMost a.flow b.flow)
part_at_most_apart a b = (λ h. (h.names, h.flow), λ h. record { names = h.0; flow = h.1 })

-- ---- join
pub part_join_above_left : (a b : Part) → IsPartAtMost a (part_join a b)
part_join_above_left a b = record { names = within_union_left senders a.senders b.senders; flow = join_above_left a.flow b.flow }

pub part_join_above_right : (a b : Part) → IsPartAtMost b (part_join a b)
part_join_above_right a b = record { names = within_union_right senders a.senders b.senders; flow = join_above_right a.flow b.flow }

pub part_join_least : (a b c : Part) → IsPartAtMost a c → IsPartAtMost b c → IsPartAtMost (part_join a b) c
part_join_least a b c h g =
    record { names = union_least a.senders b.senders c.senders h.names g.names; flow = join_least a.flow b.flow c.flow h.flow g.flow }

pub part_join_comm : (a b : Part) → part_join a b ≡ part_join b a
part_join_comm a b = same_part _ _ (union_comm senders a.senders b.senders) (flow_join_comm a.flow b.flow)

pub part_join_assoc : (a b c : Part) → part_join (part_join a b) c ≡ part_join a (part_join b c)
part_join_assoc a b c = same_part _ _ (union_assoc senders a.senders b.senders c.senders) (flow_join_assoc a.flow b.flow c.flow)

pub part_join_idem : (a : Part) → part_join a a ≡ a
part_join_idem a = same_part _ _ (union_idem senders a.senders) (flow_join_idem a.flow)

pub part_join_of_at_most : (a b : Part) → IsPartAtMost a b → part_join a b ≡ b
part_join_of_at_most a b h = same_part _ _ (union_of_within senders a.senders b.senders h.names) (join_of_at_most a.flow b.flow h.flow)

pub part_at_most_of_join : (a b : Part) → part_join a b ≡ b → IsPartAtMost a b
part_at_most_of_join a b e =
    record { names = within_of_union senders a.senders b.senders (ap (λ (p : Part). p.senders) e); flow = at_most_of_join a.flow b.flow (ap (λ (p : Part). p.flow) e) }

pub part_at_most_is_join : (a b : Part) → IsPartAtMost a b ↔ (part_join a b ≡ b)
part_at_most_is_join a b = (part_join_of_at_most a b, part_at_most_of_join a b)

-- ---- meet
pub part_meet_below_join : (a b : Part) → IsPartAtMost (part_meet a b) (part_join a b)
part_meet_below_join a b = record { names = λ q h. h; flow = meet_below_join a.flow b.flow }

-- ---- numbers that follow the order
pub charge_below : (a b : Part) → IsPartAtMost a b → part_charge a ≤ part_charge b
charge_below a b h = h.flow.rate

pub most_below : (a b : Part) → IsPartAtMost a b → a.flow.most ≤ b.flow.most
most_below a b h = h.flow.most

-- ---- the test
pub part_at_most_told : (a b : Part) → part_le a b ≡ true → IsPartAtMost a b
part_at_most_told a b e =
    let parts = and_both (list_all (has b.senders) (keys a.senders)) (flow_le a.flow b.flow) e in
    record { names = within_if_all a.senders b.senders parts.0; flow = at_most_told a.flow b.flow parts.1 }

pub part_at_most_tested : (a b : Part) → IsPartAtMost a b → part_le a b ≡ true
part_at_most_tested a b h = and_made _ _ (all_if_within a.senders b.senders h.names) (at_most_tested a.flow b.flow h.flow)
