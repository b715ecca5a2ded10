-- What is sound, part by part: its cuts are, and it is named and sound below every rank.
use Rattle.flow_merge.specs.FlowOrder.{IsAtMost}
use Rattle.network_model.specs.Locals.{locals_of}
use Rattle.network_model.specs.Sound.{IsSoundPart, IsSoundResv}
use Rattle.network_model.specs.Worlds.{World}
use Rattle.router_rules.specs.Facts.{Facts, ResvState, resvs_of}
use Rattle.rsvp_base.specs.Sets.{is_none}
use Rattle.rsvp_base.specs.Table.{get}
use Rattle.rsvp_base.specs.TokenBucket.{TokenBucket}
use Rattle.rsvp_base.specs.declared.addr.Addr.{Addr}
use Rattle.rsvp_base.specs.declared.part.Part.{Part}
use Rattle.rsvp_base.specs.declared.session.Session.{Session}
use Rattle.rsvp_base.specs.declared.style.StyleKind.{StyleKind}
use Rattle.rsvp_base.specs.declared.style.Unit.{Unit as UnitOf}
use Rattle.settle_resvs.specs.Below.{AreSoundBelow}
use Rattle.settle_resvs.specs.SoftResvs.{IsCut}
use Rattle.std.proofs.Common.{◌≡◌, ℕ, Bool, true, false, Some, sym, refl, ap, subst, ◌∙◌}
use Rattle.std.specs.Prelude.{not, slice_get}
use Rattle.style_rules.specs.CutLaws.{name_some, some_name}
use Rattle.style_rules.specs.Lines.{LineKey}
use Rattle.style_rules.specs.PartLaws.{part_at_most_tested, part_at_most_told}
use Rattle.tree_model.proofs.Ifaces.{interfaces_are_ends}
use Rattle.tree_model.proofs.WantLaws.{want_names}
use Rattle.tree_model.specs.Networks.{iface_of, node_of}

not_false : (b : Bool) → not b ≡ true → b ≡ false
not_false true e = cc
not_false false e = refl

pub sound_cut : (st : StyleKind) (w : World) (s : Session) (e : ℕ) (next : Addr) (u : UnitOf) (x p : Part) → IsCut x p → IsSoundPart st w s e next u p → IsSoundPart st w s e next u x
sound_cut st w s e next u x p c g =
    let up = part_at_most_told p g.wanted g.below in
    record {
      some = some_name x.senders (not_false (is_none x.senders) c.named);
      hop = g.hop;
      there = g.there;
      from = g.from;
      to = g.to;
      wanted = g.wanted;
      is = g.is;
      below = part_at_most_tested x g.wanted (record { names = λ y h. up.names y (c.names y h); flow = subst (λ (z : TokenBucket). IsAtMost z g.wanted.flow) (sym c.flow) up.flow });
    }

-- what is sound is named and sound below every rank
pub named_below : (w : World) → ((st : StyleKind) (n : ℕ) (f : Facts) (k : LineKey) (r : ResvState) → slice_get w.nodes n ≡ Some f → get (resvs_of st f) k ≡ Some r → IsSoundResv st w n k r)
    → (st : StyleKind) (n : ℕ) (f : Facts) (s : Session) (top : ℕ) → slice_get w.nodes n ≡ Some f → AreSoundBelow st w n f s top
named_below w sound st n f s top at = record {
  named = λ k r h same.
      let x = sound st n f k r at h in
      let of = (interfaces_are_ends w.net).iface_of_end n k.1.0.0 x.end x.at in
      let up = part_at_most_told r.part x.sound.wanted x.sound.below in
      record {
        some = ap not (name_some r.part.senders x.sound.some);
        hop = x.sound.hop;
        there = x.sound.there;
        node = ap (node_of w.net.ends) x.sound.from ∙ of.1;
        iface = ap (iface_of w.net.ends) x.sound.from ∙ of.2;
        to = x.sound.to;
        names = λ z e. want_names st w.net (locals_of w) k.0 x.sound.hop k.1.1 x.sound.wanted x.sound.is z (up.names z e);
      };
  sound = λ k r named h same low. sound st n f k r at h;
}
