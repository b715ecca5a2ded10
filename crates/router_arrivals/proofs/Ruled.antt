-- What an input does to one session of a node is its rule: the facts after, and what is sent.
use Rattle.std.specs.Prelude.{◌≡◌, ℕ, Bool, true, false, cond, nat_lt, ◌&&◌, ◌||◌, ◌⊎◌, List, [], ◌∷◌, map as each, Option, Some, None, fold, refl}
use Rattle.std.specs.List.{filter, flat_map}
use Rattle.std.proofs.Common.{sym, ap, inl, inr, ◌∙◌}
use Rattle.rsvp_base.specs.Sets.{set_of}
use Rattle.rsvp_base.specs.Table.{changed, empty, has, keys, size}
use Rattle.rsvp_base.proofs.SetLaws.{or_either, or_left, or_right}
use Rattle.rsvp_base.specs.declared.addr.Addr.{Addr}
use Rattle.rsvp_base.specs.declared.session.Session.{Session}
use Rattle.rsvp_base.specs.declared.session.Sender.{Sender}
use Rattle.router_rules.specs.Act.{act}
use Rattle.router_rules.specs.Facts.{Facts, SenderKey, Wants, want_keys}
use Rattle.router_rules.specs.Forgetting.{forget}
use Rattle.router_rules.specs.Inputs.{Arrival, Asked, Came, Change, Input, Send, only_heard}
use Rattle.router_rules.specs.Known.{Lane, known, lanes}
use Rattle.router_rules.specs.NodeConfig.{NodeConfig}
use Rattle.router_rules.specs.Requests.{toward}
use Rattle.router_rules.specs.Rule.{facts_after, heard_after, is_silent, sent_after, settled, unless_silent}
use Rattle.router_rules.specs.Sends.{is_sent_new, marked_units, sends, unmarked, used_marks}
use Rattle.router_rules.specs.declared.answers.Heard.{Heard}
use Rattle.router_state.specs.State.{AreNamed, IsSettled, State, facts_at, facts_of}
use Rattle.router_state.proofs.Counted.{same_settles}
use Rattle.router_state.proofs.Settling.{forget_none, none_lost, unchanged}
use Rattle.laws_sends.specs.Changed.{IsChangedFor}
use Rattle.laws_sends.proofs.Elsewhere.{not_changed}
use Rattle.laws_sends.proofs.Quiet.{nothing_sent}
use Rattle.router_arrivals.proofs.Keeping.{known_is}

-- where all that was known is known still, nothing is forgotten
pub all_remembered : (n m : State) → ((k : SenderKey) → has n.senders k ≡ true → has m.senders k ≡ true) → ((k : SenderKey) → has n.paths k ≡ true → has m.paths k ≡ true)
    → ((c : ℕ) → AreNamed (facts_of c m))
    → (c : ℕ) → facts_of c m ≡ forget (facts_of c n) (facts_of c m)
all_remembered n m own paths named c = sym (forget_none (facts_of c n) (facts_of c m) (none_lost (facts_of c n) (facts_of c m) more) (named c))
  where
    by : (s : Session) (x : Sender) → ((has n.senders (s, x) ≡ true) ⊎ (has n.paths (s, x) ≡ true)) → (has m.senders (s, x) || has m.paths (s, x)) ≡ true
    by s x (inl a) = or_left _ _ (own (s, x) a)
    by s x (inr b) = or_right (has m.senders (s, x)) _ (paths (s, x) b)

    more : (s : Session) (x : Sender) → has (known (facts_of c n) s) x ≡ true → has (known (facts_of c m) s) x ≡ true
    more s x h = known_is c m s x ∙ by s x (or_either _ _ (sym (known_is c n s x) ∙ h))

-- ---- marks: where nothing changed none is used
abbrev pub without_marks : NodeConfig → Facts → Facts → Option Asked → Facts
without_marks p f g asked = record g { wants = changed (unmarked (used_marks p p f g asked)) g.wants }

unmarked_none : (ws : Wants) → changed (unmarked empty) ws ≡ ws
unmarked_none ws = unchanged want_keys (unmarked empty) ws (λ k w e. λ i. Some (record w { confirm = by w.confirm i }))
  where
    by : (b : Bool) → (b && true) ≡ b
    by true = refl
    by false = refl

none_used : (p : NodeConfig) (f : Facts) → used_marks p p f f None ≡ empty
none_used p f = ap (λ ls. set_of (flat_map (λ l. each (λ u. (l.session, u)) (marked_units p f l)) ls)) (none (keys (lanes f)))
  where
    off : (a b : Bool) → b ≡ false → (a && b) ≡ false
    off true b e = e
    off false b e = refl

    old : (l : Lane) → is_sent_new p p f f l ≡ false
    old l = off (nat_lt 0 (size (toward p f l))) _ (not_changed p f f l refl)

    none : (ls : List Lane) → filter (is_sent_new p p f f) ls ≡ []
    none [] = refl
    none (l ∷ ls) = ap (λ b. cond b (l ∷ filter (is_sent_new p p f f) ls) (filter (is_sent_new p p f f) ls)) (old l) ∙ none ls

pub marks_stay : (p : NodeConfig) (f : Facts) → without_marks p f f None ≡ f
marks_stay p f =
    (λ i. record f { wants = changed (unmarked (none_used p f i)) f.wants }) ∙ (λ i. record f { wants = unmarked_none f.wants i })

-- ---- n is what there was, w what the tables have before the neighbours are told
pub record IsRuled (k : SenderKey) (n : State) (i : Input) (w : State) : Type 0 where
  pub change : IsChangedFor k n w
  pub kept : IsSettled w
  pub facts : (c : ℕ) → facts_of c w ≡ settled n.place c (facts_of c n) (act n.place c i (facts_of c n)).facts

-- nothing is to be told but what changed
pub record IsPlain (k : SenderKey) (n : State) (i : Input) (h : Heard) (w : State) : Type 0 where
  pub ruled : IsRuled k n i w
  pub does : (c : ℕ) → act n.place c i (facts_of c n) ≡ only_heard h (act n.place c i (facts_of c n)).facts

-- what the rule leaves and sends, once its facts are settled
module _ (n : State) (c : ℕ) (i : Input) (loud : is_silent i ≡ false) (w : State) (facts : facts_of c w ≡ settled n.place c (facts_of c n) (act n.place c i (facts_of c n)).facts) where
  pub all_left : (asked : Option Asked) → (act n.place c i (facts_of c n)).asked ≡ asked → without_marks n.place (facts_of c n) (facts_of c w) asked ≡ facts_after n.place n.place c i (facts_at c n)
  unfolding facts_at facts_after
  all_left asked is =
      let f = facts_of c n in
      let after = settled n.place c f (act n.place c i f).facts in
      (λ j. without_marks n.place f (facts j) (sym is j))
      ∙ (λ j. record after { wants = unless_silent (sym loud j) after.wants (changed (unmarked (used_marks n.place n.place f after (act n.place c i f).asked)) after.wants) })

  pub all_sent : sends n.place n.place (facts_of c n) (facts_of c w) (act n.place c i (facts_of c n)) ≡ sent_after n.place n.place c i (facts_at c n)
  unfolding facts_at sent_after
  all_sent =
      let f = facts_of c n in
      let after = settled n.place c f (act n.place c i f).facts in
      ap (λ g. sends n.place n.place f g (act n.place c i f)) facts ∙ (λ j. unless_silent (sym loud j) [] (sends n.place n.place f after (act n.place c i f)))

-- ---- once they are told
module _ (k : SenderKey) (n : State) (i : Input) (loud : is_silent i ≡ false) (w : State) where
  pub ruled_facts : IsRuled k n i w → (c : ℕ) (asked : Option Asked) → (act n.place c i (facts_of c n)).asked ≡ asked → (z : State)
      → facts_of c z ≡ without_marks n.place (facts_of c n) (facts_of c w) asked
      → facts_at c z ≡ facts_after n.place n.place c i (facts_at c n)
  unfolding facts_at
  ruled_facts r c asked is z told = told ∙ all_left n c i loud w (r.facts c) asked is

-- ---- an input that changes no fact
module _ (n : State) (kept : IsSettled n) (c : ℕ) (i : Input) (loud : is_silent i ≡ false) (ch : Change) (does : act n.place c i (facts_of c n) ≡ ch) (none : ch.facts ≡ facts_of c n)
    (asked : ch.asked ≡ None) where
  same_facts : facts_of c n ≡ settled n.place c (facts_of c n) (act n.place c i (facts_of c n)).facts
  same_facts = sym (ap (settled n.place c (facts_of c n)) (ap (λ (x : Change). x.facts) does ∙ none) ∙ same_settles n.place c n kept)

  pub facts_stay : facts_at c n ≡ facts_after n.place n.place c i (facts_at c n)
  unfolding facts_at
  facts_stay = sym (marks_stay n.place (facts_of c n)) ∙ all_left n c i loud n same_facts None (ap (λ (x : Change). x.asked) does ∙ asked)

  pub told_alone : sends n.place n.place (facts_of c n) (facts_of c n) ch ≡ sent_after n.place n.place c i (facts_at c n)
  told_alone = ap (sends n.place n.place (facts_of c n) (facts_of c n)) (sym does) ∙ all_sent n c i loud n same_facts

-- ---- n is what there was, seen as m; the input is one of the place
module _ (n m : State) (same : n ≡ m) (i : NodeConfig → Input) (loud : is_silent (i n.place) ≡ false) (h : Heard) (c : ℕ) where
  facts_seen : facts_after n.place n.place c (i n.place) (facts_at c n) ≡ facts_after m.place m.place c (i m.place) (facts_at c m)
  facts_seen = ap (λ (z : State). facts_after z.place z.place c (i z.place) (facts_at c z)) same

  sent_seen : sent_after n.place n.place c (i n.place) (facts_at c n) ≡ sent_after m.place m.place c (i m.place) (facts_at c m)
  sent_seen = ap (λ (z : State). sent_after z.place z.place c (i z.place) (facts_at c z)) same

  -- one that is refused
  module _ (kept : IsSettled n) (does : act n.place c (i n.place) (facts_of c n) ≡ only_heard h (facts_of c n)) where
    pub refused_facts : facts_at c n ≡ facts_after m.place m.place c (i m.place) (facts_at c m)
    refused_facts = facts_stay n kept c (i n.place) loud (only_heard h (facts_of c n)) does refl refl ∙ facts_seen

    pub refused_sent : {B : Type 0} (posted : B → Send → B) (out : B) → out ≡ fold posted out (sent_after m.place m.place c (i m.place) (facts_at c m))
    refused_sent posted out =
        ap (fold posted out) (sym (nothing_sent n.place (facts_of c n) h) ∙ told_alone n kept c (i n.place) loud (only_heard h (facts_of c n)) does refl refl ∙ sent_seen)

  -- one that changes a session, of which the neighbours are told
  module _ (k : SenderKey) (w : State) where
    pub told_facts : IsRuled k n (i n.place) w → (asked : Option Asked) → (act n.place c (i n.place) (facts_of c n)).asked ≡ asked → (z : State)
        → facts_of c z ≡ without_marks n.place (facts_of c n) (facts_of c w) asked
        → facts_at c z ≡ facts_after m.place m.place c (i m.place) (facts_at c m)
    told_facts r asked is z told = ruled_facts k n (i n.place) loud w r c asked is z told ∙ facts_seen

    pub told_sent : IsRuled k n (i n.place) w → {B : Type 0} (posted : B → Send → B) (last out : B)
        → last ≡ fold posted out (sends n.place n.place (facts_of c n) (facts_of c w) (act n.place c (i n.place) (facts_of c n)))
        → last ≡ fold posted out (sent_after m.place m.place c (i m.place) (facts_at c m))
    told_sent r posted last out told = told ∙ ap (fold posted out) (all_sent n c (i n.place) loud w (r.facts c) ∙ sent_seen)

    module _ (p : IsPlain k n (i n.place) h w) where
      pub plain_facts : (z : State) → facts_of c z ≡ without_marks n.place (facts_of c n) (facts_of c w) None → facts_at c z ≡ facts_after m.place m.place c (i m.place) (facts_at c m)
      plain_facts z told = told_facts p.ruled None (ap (λ (ch : Change). ch.asked) (p.does c)) z told

      pub plain_sent : {B : Type 0} (posted : B → Send → B) (last out : B) → last ≡ fold posted out (sends n.place n.place (facts_of c n) (facts_of c w) (only_heard h (facts_of c w)))
          → last ≡ fold posted out (sent_after m.place m.place c (i m.place) (facts_at c m))
      plain_sent posted last out told = told_sent p.ruled posted last out (told ∙ ap (λ ch. fold posted out (sends n.place n.place (facts_of c n) (facts_of c w) ch)) (sym (p.does c)))

-- ---- what is heard
pub heard_by : (n : State) (c e : ℕ) (dst : Addr) (a : Arrival) (h : Heard) → (act n.place c (Came e dst a) (facts_of c n)).heard ≡ h → h ≡ heard_after n.place c e dst a (facts_at c n)
unfolding facts_at heard_after
heard_by n c e dst a h is = sym is

pub heard_is : (n : State) (c e : ℕ) (dst : Addr) (a : Arrival) (g : Facts) (h : Heard) → act n.place c (Came e dst a) (facts_of c n) ≡ only_heard h g
    → h ≡ heard_after n.place c e dst a (facts_at c n)
unfolding facts_at heard_after
heard_is n c e dst a g h does = sym (ap (λ (k : Change). k.heard) does)
