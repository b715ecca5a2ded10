-- A path that is said again, and one that is kept anew.
use Rattle.std.specs.Prelude.{◌≡◌, ◌==◌, ℕ, Bool, true, false, Option, Some, None, refl}
use Rattle.std.specs.Bool.{beq}
use Rattle.std.specs.Option.{option_map}
use Rattle.std.proofs.Common.{sym, ap, ◌∙◌}
use Rattle.std.proofs.lemmas.Bool.{eq-eqb, eqb-true}
use Rattle.adspec_path.specs.Same.{same_told}
use Rattle.adspec_path.proofs.Same.{same_is_equal}
use Rattle.path_state.specs.declared.fact.PathFact.{PathFact}
use Rattle.rsvp_base.specs.Table.{has, put_in}
use Rattle.rsvp_base.specs.TokenBucket.{TokenBucket}
use Rattle.rsvp_base.specs.declared.session.Sender.{Sender}
use Rattle.rsvp_base.proofs.SetLaws.{and_both, and_made, or_right}
use Rattle.rsvp_messages.specs.declared.message.PathMsg.{PathMsg}
use Rattle.router_rules.specs.Facts.{SenderKey}
use Rattle.router_rules.specs.NodeConfig.{is_addr, period}
use Rattle.router_rules.specs.Sends.{same_flow}
use Rattle.laws_bounds.proofs.Tests.{addr_tested, addr_told, flow_tested, flow_told}
use Rattle.router_state.specs.Changes.{started}
use Rattle.router_state.specs.State.{IsSettled, State}
use Rattle.router_arrivals.specs.Coming.{fact_of, is_said_again, with_path}
use Rattle.router_arrivals.proofs.Keeping.{counts_by}

bit_told : (b c : Bool) → beq b c ≡ true → b ≡ c
bit_told true true e = refl
bit_told true false e = absurd (cc)
bit_told false true e = absurd (cc)
bit_told false false e = refl

bit_itself : (b : Bool) → beq b b ≡ true
bit_itself true = refl
bit_itself false = refl

-- the test holds exactly of the path that the Path says
module _ (e : ℕ) (m : PathMsg) (tspec : TokenBucket) (f : PathFact) where
  pub again_told : is_said_again e m tspec f ≡ true → f.session ≡ m.session → f ≡ fact_of e m f.sender tspec
  again_told t session =
      let iface = and_both (f.iface == e) _ t in
      let addr = and_both (is_addr f.hop.addr m.hop.addr) _ iface.1 in
      let handle = and_both (f.hop.handle == m.hop.handle) _ addr.1 in
      let flow = and_both (same_flow f.tspec tspec) _ handle.1 in
      let police = and_both (beq f.police m.police) (same_told f.adspec m.adspec) flow.1 in
      let iface_is = eqb-true f.iface e iface.0 in
      let addr_is = addr_told f.hop.addr m.hop.addr addr.0 in
      let handle_is = eqb-true f.hop.handle m.hop.handle handle.0 in
      let flow_is = flow_told f.tspec tspec flow.0 in
      let police_is = bit_told f.police m.police police.0 in
      let adspec_is = (same_is_equal f.adspec m.adspec).0 police.1 in
      λ i. record f { session = session i; iface = iface_is i; hop = record { addr = addr_is i; handle = handle_is i }; tspec = flow_is i; police = police_is i; adspec = adspec_is i }

  pub again_tested : (x : Sender) → f ≡ fact_of e m x tspec → is_said_again e m tspec f ≡ true
  again_tested x is =
      ap (is_said_again e m tspec) is
      ∙ and_made _ _ (eq-eqb e e refl)
      (and_made _ _ (addr_tested m.hop.addr m.hop.addr refl)
      (and_made _ _ (eq-eqb m.hop.handle m.hop.handle refl)
      (and_made _ _ (flow_tested tspec tspec refl) (and_made _ _ (bit_itself m.police) ((same_is_equal m.adspec m.adspec).1 refl)))))

-- the path that stands, with what was left of it
pub with_left : (w : Option (PathFact × ℕ)) (f : PathFact) → option_map (λ (e : PathFact × ℕ). e.0) w ≡ Some f → (was : ℕ) × (w ≡ Some (f, was))
with_left None f is = cc
with_left (Some x) f is = let same : x.0 ≡ f = cc in (x.1, λ i. Some (same i, x.1))

-- one that takes the place of another starts no countdown
pub kept_anew : (n : State) → IsSettled n → (k : SenderKey) → has n.paths k ≡ true → (fact : PathFact) (left : ℕ) → ◌≡◌ {A = State} (record n { paths = put_in n.paths k (fact, left) }) (with_path n k fact left)
kept_anew n settled k there fact left =
    let due : has n.due k.0 ≡ true = settled.counted 0 k.0 ∙ sym (counts_by n k (or_right (has n.senders k) _ there) 0) in
    λ i. record n { paths = put_in n.paths k (fact, left); due = started (sym due i) k.0 (period n.place) n.due }
