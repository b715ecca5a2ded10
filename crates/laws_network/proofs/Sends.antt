-- Where what is sent out of an end goes, and who sends a message.
use Rattle.std.proofs.Common.{refl, ◌≡◌, ℕ, ◌+◌, List, [], ◌∷◌, Bool, true, false, Option, None, Some, ⊎_elim, sym, ap, subst, ◌∙◌}
use Rattle.std.specs.Prelude.{slice_get}
use Rattle.std.specs.List.{filter}
use Rattle.rsvp_base.specs.declared.addr.Addr.{Addr}
use Rattle.rsvp_base.specs.Members.{In}
use Rattle.rsvp_base.proofs.Members.{in_filter}
use Rattle.rsvp_messages.specs.declared.message.Message.{Message}
use Rattle.tree_model.specs.Goals.{addr_of}
use Rattle.network_model.specs.RouterRules.Facts.{Facts}
use Rattle.network_model.specs.RouterRules.Inputs.{Send, Spelt}
use Rattle.network_model.specs.RouterRules.NodeConfig.{is_addr}
use Rattle.network_model.specs.RouterRules.Rule.{Outcome, rule}
use Rattle.tree_model.specs.Networks.{Net, end_at, peers}
use Rattle.network_model.specs.Links.{is_group, or_all, ends_toward, goes_to}
use Rattle.network_model.specs.Steps.{Step, is_quiet, ms_of, input_at, outcome, still, sent}
use Rattle.network_model.specs.Worlds.{Item, World, config_of}
use Rattle.network_model.proofs.Changing.{what_is_sent_is_copied}
use Rattle.network_model.proofs.Quiet.{FollowsRule, outcome_quiet}

-- ---- what goes out of an end goes to others of its link
pub in_toward : (net : Net) (b : Bool) (dst : Addr) (es : List ℕ) (e : ℕ) → In e (ends_toward net b dst es) → In e es
in_toward net true dst es e i = i
in_toward net false dst es e i = by (filter (λ x. is_addr (addr_of net x) dst) es) (λ j. (in_filter (λ x. is_addr (addr_of net x) dst) e es j).0) i
  where
    by : (xs : List ℕ) → (In e xs → In e es) → In e (or_all xs es) → In e es
    by [] f i = i
    by (x ∷ xs) f i = f i

pub goes_to_peers : (net : Net) (o : Option ℕ) (a : ℕ) (dst : Addr) (e : ℕ) → o ≡ Some a → In e (goes_to net o dst) → In e (peers net.links a)
goes_to_peers net o a dst e is i = in_toward net (is_group dst) dst (peers net.links a) e (subst (λ (z : Option ℕ). In e (goes_to net z dst)) is i)

pub goes_to_end : (net : Net) (o : Option ℕ) (dst : Addr) (e : ℕ) → In e (goes_to net o dst) → (a : ℕ) × (o ≡ Some a)
goes_to_end net None dst e i = absurd i
goes_to_end net (Some a) dst e i = (a, refl)

-- ---- a message that a quiet step sends is sent by a node that follows its rule
pub record IsSentByRule (q : ℕ) (s : Step) (u : World) (y : Item) (m : Message) : Type 0 where
  pub node : ℕ
  pub facts : Facts
  pub there : slice_get u.nodes node ≡ Some facts
  pub by : FollowsRule q s u node facts (outcome q s u node facts)
  pub send : Send
  pub sent : In send (rule (config_of q u.net u.trees node) (config_of q u.net u.trees node) (u.clock + ms_of s) by.input facts).sent
  pub says : send.message ≡ m
  pub dst : y.dst ≡ send.dst
  pub to : In y.end (goes_to u.net (end_at u.net.ends node send.iface) send.dst)

pub sent_by_rule : (q : ℕ) (s : Step) (u : World) (y : Item) (b : Bool) (m : Message) → is_quiet s ≡ true → In (y, b) (sent q s u) → y.arrival ≡ Spelt m → IsSentByRule q s u y m
sent_by_rule q s u y b m quiet i spelt =
    let c = (what_is_sent_is_copied q s u (y, b)).0 i in
    let copied : Spelt c.send.message ≡ Spelt m = sym (ap (λ (z : Item × Bool). z.0.arrival) c.is) ∙ spelt in
    let says : c.send.message ≡ m = cc in
    ⊎_elim
    (λ (h : (input_at s u c.node ≡ None) × (outcome q s u c.node c.facts ≡ still c.facts)).
    let none : (outcome q s u c.node c.facts).sent ≡ [] = ap (λ (z : Outcome). z.sent) h.1 in
    absurd (subst (λ (z : List Send). In c.send z) none c.sent))
    (λ (h : FollowsRule q s u c.node c.facts (outcome q s u c.node c.facts)).
    record {
      node = c.node;
      facts = c.facts;
      there = c.there;
      by = h;
      send = c.send;
      sent = subst (λ (z : Outcome). In c.send z.sent) h.is c.sent;
      says = says;
      dst = ap (λ (z : Item × Bool). z.0.dst) c.is;
      to = subst (λ (z : ℕ). In z (goes_to u.net (end_at u.net.ends c.node c.send.iface) c.send.dst)) (sym (ap (λ (z : Item × Bool). z.0.end) c.is)) c.goes;
    })
    (outcome_quiet q s u c.node c.facts quiet)
