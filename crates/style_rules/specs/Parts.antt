-- Parts of reservations: order, join, meet, cut and charge, and the shape that a style gives them.
use Rattle.std.specs.Prelude.{◌≡◌, ℕ, Bool, true, cond, not, ◌&&◌, Option, Some, None}
use Rattle.std.specs.List.{list_all}
use Rattle.rsvp_base.specs.declared.part.Part.{Part}
use Rattle.rsvp_base.specs.declared.session.Sender.{Sender}
use Rattle.rsvp_base.specs.declared.style.StyleKind.{StyleKind}
use Rattle.rsvp_base.specs.Orders.{Names}
use Rattle.rsvp_base.specs.Sets.{union, cut, IsWithin, is_none}
use Rattle.rsvp_base.specs.Table.{has, keys, kept}
use Rattle.rsvp_base.specs.TokenBucket.{TokenBucket}
use Rattle.flow_merge.specs.FlowOrder.{IsAtMost, flow_le, flow_join, flow_meet}
use Rattle.rsvp_base.specs.Styles.{name_of, unit_of}

-- the part names someone
abbrev pub has_name : Part → Bool
has_name p = not (is_none p.senders)

-- the union of the senders and the join of the flows
abbrev pub part_join : Part → Part → Part
part_join a b = record { senders = union a.senders b.senders; flow = flow_join a.flow b.flow }

-- the union of the senders and the meet of the flows
abbrev pub part_meet : Part → Part → Part
part_meet a b = record { senders = union a.senders b.senders; flow = flow_meet a.flow b.flow }

-- b can stand for a: a's senders are among b's, and b's flow can stand for a's
pub record IsPartAtMost (a b : Part) : Type 0 where
  pub names : IsWithin a.senders b.senders
  pub flow : IsAtMost a.flow b.flow

-- the same as a test
abbrev pub part_le : Part → Part → Bool
part_le a b = list_all (has b.senders) (keys a.senders) && flow_le a.flow b.flow

-- these names with this flow, if there is a name
abbrev pub part_of : Names → TokenBucket → Option Part
part_of s f = cond (is_none s) None (Some (record { senders = s; flow = f }))

-- the part with the senders that are among these names, if one is
abbrev pub part_cut : Part → Names → Option Part
part_cut p names = part_of (cut p.senders names) p.flow

-- what is left of a part with the names that stay, if one is
abbrev pub part_kept : (Sender → Bool) → Part → Option Part
part_kept stays p = part_of (kept stays p.senders) p.flow

-- what a part takes of a link's capacity
abbrev pub part_charge : Part → ℕ
part_charge p = p.flow.r

-- a part as the style has them: it names someone, by names that the style lists, and all of them have one unit
pub record IsOfStyle (st : StyleKind) (p : Part) : Type 0 where
  pub named : has_name p ≡ true
  pub listed : (s : Sender) → has p.senders s ≡ true → name_of st s ≡ s
  pub one_unit : (s t : Sender) → has p.senders s ≡ true → has p.senders t ≡ true → unit_of st s ≡ unit_of st t
