-- A message that is for the node is what its own call says.
use Rattle.std.specs.Prelude.{◌≡◌, ℕ, true, false}
use Rattle.std.proofs.Common.{sym, ap, ◌∙◌}
use Rattle.rsvp_base.specs.declared.addr.Addr.{Addr}
use Rattle.rsvp_messages.specs.declared.message.Message.{Message}
use Rattle.rsvp_messages.specs.declared.message.Message.TheVariants as message
use Rattle.rsvp_messages.specs.declared.message.PathMsg.{PathMsg}
use Rattle.rsvp_messages.specs.declared.message.PathTearMsg.{PathTearMsg}
use Rattle.router_rules.specs.Act.{act, act_spelt, is_mine}
use Rattle.router_rules.specs.Inputs.{Came, Spelt, only_heard}
use Rattle.router_rules.specs.NodeConfig.{NodeConfig, is_addr, own}
use Rattle.router_rules.specs.declared.answers.Heard.TheVariants as heard
use Rattle.router_rules.specs.declared.answers.Why.TheVariants as why
use Rattle.laws_bounds.proofs.Tests.{addr_told}
use Rattle.router_state.specs.State.{State, facts_of}

-- one that is not for the node
pub not_mine : (n : State) (c e : ℕ) (dst : Addr) (m : Message) → is_mine n.place e dst m ≡ false
    → act n.place c (Came e dst (Spelt m)) (facts_of c n) ≡ only_heard (heard.Dropped why.NotMine) (facts_of c n)
not_mine n c e dst m off = ap (λ b. act_spelt n.place c e m b (facts_of c n)) off

-- where it was to come to
module _ (p : NodeConfig) (e : ℕ) (dst : Addr) (m : Message) (mine : is_mine p e dst m ≡ true) where
  pub at_path : (x : PathMsg) → m ≡ message.Path x → dst ≡ x.session.group
  at_path x is = addr_told dst x.session.group (sym (ap (is_mine p e dst) is) ∙ mine)

  pub at_tear : (x : PathTearMsg) → m ≡ message.PathTear x → dst ≡ x.session.group
  at_tear x is = addr_told dst x.session.group (sym (ap (is_mine p e dst) is) ∙ mine)

  pub at_own : (w : Message) → m ≡ w → is_mine p e dst w ≡ is_addr dst (own p e) → dst ≡ own p e
  at_own w is own_test = addr_told dst (own p e) (sym own_test ∙ sym (ap (is_mine p e dst) is) ∙ mine)
