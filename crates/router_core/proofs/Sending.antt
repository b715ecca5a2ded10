-- What is sent in the middle of what changed.
use Rattle.std.specs.Prelude.{◌≡◌, ℕ, Option, Some, None, refl}
use Rattle.std.proofs.Common.{sym, ap, ◌∙◌}
use Rattle.rsvp_base.specs.declared.addr.Addr.{Addr}
use Rattle.rsvp_messages.specs.declared.ask.Ask.{Ask}
use Rattle.rsvp_messages.specs.declared.message.Message.TheVariants as message
use Rattle.rsvp_messages.specs.declared.message.ResvErrMsg.{ResvErrMsg}
use Rattle.router_rules.specs.Act.{act, act_spelt}
use Rattle.router_rules.specs.Asking.{Asker, asked_of}
use Rattle.router_rules.specs.Errors.{act_resv_err}
use Rattle.router_rules.specs.Facts.{Facts}
use Rattle.router_rules.specs.Inputs.{Change}
use Rattle.router_rules.specs.NodeConfig.{own}
use Rattle.router_rules.specs.Sends.{error_sends}
use Rattle.router_rules.specs.declared.answers.Heard.{Heard}
use Rattle.laws_bounds.proofs.Tests.{addr_tested}
use Rattle.router_state.specs.State.{State, facts_of}
use Rattle.error_sends.specs.ResvErrs.{resv_err_facts, resv_err_heard, resv_err_sent}
use Rattle.resv_sends.specs.Halves.{address_of}
use Rattle.router_arrivals.specs.Arriving.{to_node}

-- whom a Resv names is whom its wish names
pub address_is : (o : Asker) (taken : Option Ask) (wish : Option Addr) → address_of (asked_of o taken wish) ≡ wish
address_is o taken None = refl
address_is o taken (Some a) = refl

-- ---- a ResvErr that comes to the node
module _ (c : ℕ) (n : State) (e : ℕ) (m : ResvErrMsg) where
  pub err_sent : resv_err_sent c n e m ≡ error_sends (act_resv_err n.place c e m (facts_of c n)).errors
  unfolding resv_err_sent
  err_sent = refl

  pub err_acts : act n.place c (to_node n.place e (message.ResvErr m)) (facts_of c n) ≡ act_resv_err n.place c e m (facts_of c n)
  err_acts = ap (λ b. act_spelt n.place c e (message.ResvErr m) b (facts_of c n)) (addr_tested (own n.place e) (own n.place e) refl)

  pub err_facts : (g : Facts) → g ≡ resv_err_facts c n e m → g ≡ (act n.place c (to_node n.place e (message.ResvErr m)) (facts_of c n)).facts
  unfolding resv_err_facts
  err_facts g is = is ∙ ap (λ (k : Change). k.facts) (sym err_acts)

  pub err_heard : (h : Heard) → h ≡ resv_err_heard c n e m → (act n.place c (to_node n.place e (message.ResvErr m)) (facts_of c n)).heard ≡ h
  unfolding resv_err_heard
  err_heard h is = ap (λ (k : Change). k.heard) err_acts ∙ sym is
