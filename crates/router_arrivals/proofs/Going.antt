-- What a call does that takes a path or a local sender out is its rule.
use Rattle.std.specs.Prelude.{◌≡◌, ℕ, Bool, true, false, cond, ◌||◌, refl}
use Rattle.std.proofs.Common.{sym, subst, ◌∙◌}
use Rattle.rsvp_base.specs.Table.{Table, has, without}
use Rattle.rsvp_base.specs.Orders.{sessions}
use Rattle.rsvp_base.specs.declared.session.Session.{Session}
use Rattle.router_rules.specs.Act.{act}
use Rattle.router_rules.specs.Facts.{SenderKey}
use Rattle.router_rules.specs.Inputs.{Input, only_heard}
use Rattle.router_rules.specs.NodeConfig.{period}
use Rattle.router_rules.specs.declared.answers.Heard.TheVariants as heard
use Rattle.router_state.specs.Changes.{counts_in, due_after, recounted}
use Rattle.router_state.specs.State.{AreNamed, IsSettled, Said, State, facts_of}
use Rattle.laws_sends.specs.Changed.{IsChangedFor}
use Rattle.router_aging.proofs.Counted.{counts_are}
use Rattle.router_aging.specs.Steps.{names_gone}
use Rattle.router_aging.proofs.Gone.{gone_apart, gone_is_forgotten, gone_named}
use Rattle.router_arrivals.specs.Coming.{stopped}
use Rattle.router_arrivals.proofs.Before.{is_plain}
use Rattle.router_arrivals.proofs.Keeping.{counts_at, goes_on}
use Rattle.router_arrivals.proofs.Ruled.{IsPlain}

-- a countdown that stops where nothing counts is as it should be
pub stopped_is : (n m : State) (s : Session) → IsSettled n → m.due ≡ n.due → ((k : SenderKey) → has m.senders k ≡ true → has n.senders k ≡ true)
    → ((k : SenderKey) → has m.paths k ≡ true → has n.paths k ≡ true) → stopped m s ≡ recounted m s (counts_in m s)
stopped_is n m s kept same own paths = (λ i. record m { due = cond (counts_are 0 m s i) m.due (without m.due s) }) ∙ (λ i. record m { due = by (counts_in m s) refl i })
  where
    by : (b : Bool) → counts_in m s ≡ b → cond b m.due (without m.due s) ≡ due_after b s (period m.place) m.due
    by true e = subst (λ (d : Table sessions ℕ). d ≡ due_after true s (period m.place) d) (sym same) (goes_on n kept m s own paths (period m.place) e)
    by false e = refl

-- n is what there was, m without the sender, whose names are to go
module _ (n : State) (kept : IsSettled n) (k : SenderKey) (m : State) (ch : IsChangedFor k n m) (due : m.due ≡ n.due) (named : (c : ℕ) → AreNamed (facts_of c m))
    (was : (has n.senders k || has n.paths k) ≡ true) (i : Input)
    (does : (c : ℕ) → act n.place c i (facts_of c n) ≡ only_heard heard.Taken (facts_of c m))
  where
    pub leaves : (w : State) (any : Said) → w ≡ record (recounted (names_gone k m) k.0 (counts_in m k.0)) { said = any } → IsPlain k n i heard.Taken w
    leaves w any now =
        is_plain n kept i k (names_gone k m) (gone_apart n m k ch) due (counts_in m k.0) (counts_at m k.0) (gone_named n m k named was ch) (λ c. facts_of c m)
        (λ c. gone_is_forgotten n m k named was ch c) w any now heard.Taken does
