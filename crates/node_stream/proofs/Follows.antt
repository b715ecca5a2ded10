-- A frame has one consequence, or a fault.
use Rattle.std.proofs.Common.{◌≡◌, ℕ, List, ◌++◌, Option, None, Some, is_some, refl, sym, ap, subst, ◌∙◌}
use Rattle.std.proofs.lemmas.Option.{same_Some}
use Rattle.message_codec.proofs.OneAnswer.{a_message_is_one, no_fault_where_spelt, the_first_fault_is_one}
use Rattle.network_replay.specs.Following.{IsArrival}
use Rattle.node_stream.specs.Answers.{heard_frame}
use Rattle.node_stream.specs.Layout.{datagram_in}
use Rattle.node_stream.specs.Rules.{HasFault, IsInRange, IsInTurn, IsOutOfRange, IsOutOfTurn}
use Rattle.node_stream.specs.declared.frame.Frame.{Frame}
use Rattle.node_stream.specs.declared.frame.Frame.TheVariants.{Opens, Comes, Waits, Clears}
use Rattle.router_rules.specs.Inputs.{Arrival, Came, Input, Spelt, Unspelt}
use Rattle.router_rules.specs.NodeConfig.{NodeConfig}
use Rattle.router_rules.specs.Rule.{heard_after}
use Rattle.rsvp_base.specs.declared.addr.Addr.{Addr}
use Rattle.script_words.specs.declared.fault.LineWhy.{LineWhy}
use Rattle.script_words.specs.declared.fault.LineWhy.TheVariants as why
use Rattle.node_stream.specs.Frames.{contents_in, kind_in}
use Rattle.node_stream.specs.Serving.{Acts, Follows, IsAnswered, IsDone, IsHeard, Standing, behind, frames_with, place_if, sends_for}

-- bytes are one message, or no message for one reason
arrival_one : (bytes : List ℕ) (a b : Arrival) → IsArrival bytes a → IsArrival bytes b → a ≡ b
arrival_one bytes (Spelt m) (Spelt n) x y = ap Spelt (a_message_is_one bytes m n x y)
arrival_one bytes (Spelt m) (Unspelt e) x y = absurd (no_fault_where_spelt bytes m e x y)
arrival_one bytes (Unspelt e) (Spelt n) x y = absurd (no_fault_where_spelt bytes n e y x)
arrival_one bytes (Unspelt e) (Unspelt f) x y = ap Unspelt (the_first_fault_is_one bytes e f x y)

module _ (st : Standing) where
  heard_one : (iface : ℕ) (dst : Addr) (bytes : List ℕ) (n m : Standing) (x y : List ℕ) → IsHeard st iface dst bytes n x → IsHeard st iface dst bytes m y → (n ≡ m) × (x ≡ y)
  heard_one iface dst bytes n m x y a b =
      let same = arrival_one bytes a.arrival b.arrival a.reads b.reads in (
        a.stands ∙ ap (λ (r : Arrival). behind st (Came iface dst r)) same ∙ sym b.stands,
        a.text_is ∙ ap (λ (r : Arrival). frames_with (sends_for st (Came iface dst r)) ++ heard_frame (heard_after st.place st.clock iface dst r st.facts)) same ∙ sym b.text_is,
      )

  done_one : (i : Input) (n m : Standing) (x y : List ℕ) → IsDone st i n x → IsDone st i m y → (n ≡ m) × (x ≡ y)
  done_one i n m x y a b = (a.stands ∙ sym b.stands, a.text_is ∙ sym b.text_is)

  answered_one : (contents : List ℕ) (said : Frame) (n m : Standing) (x y : List ℕ) → IsAnswered st contents said n x → IsAnswered st contents said m y → (n ≡ m) × (x ≡ y)
  answered_one contents Opens n m x y a b = absurd a
  answered_one contents (Comes iface dst) n m x y a b = heard_one iface dst (datagram_in contents) n m x y a b
  answered_one contents (Waits ms word) n m x y a b = done_one _ n m x y a b
  answered_one contents Clears n m x y a b = done_one _ n m x y a b

acts_one : (st : Option Standing) (contents : List ℕ) (said : Frame) (n m : Option Standing) (x y : List ℕ) → Acts st contents said n x → Acts st contents said m y → (n ≡ m) × (x ≡ y)
acts_one None contents Opens n m x y a b = (a.0 ∙ sym b.0, a.1 ∙ sym b.1)
acts_one None contents (Comes iface dst) n m x y a b = absurd a
acts_one None contents (Waits ms word) n m x y a b = absurd a
acts_one None contents Clears n m x y a b = absurd a
acts_one (Some st) contents said n m x y a b =
    let same = answered_one st contents said a.0 b.0 x y a.2 b.2 in
    (a.1 ∙ ap Some same.0 ∙ sym b.1, same.1)

pub follows_one : (st : Option Standing) (f : List ℕ) (n m : Option Standing) (x y : List ℕ) → Follows st f n x → Follows st f m y → (n ≡ m) × (x ≡ y)
follows_one st f n m x y a b =
    let said : a.said ≡ b.said = same_Some a.said b.said (sym a.reads ∙ b.reads) in
    acts_one st (contents_in f) b.said n m x y (subst (λ (s : Frame). Acts st (contents_in f) s n x) said a.acts) b.acts

-- the router is open behind a frame
pub opens_or_is_open : (st : Option Standing) (f : List ℕ) (n : Option Standing) (x : List ℕ) → Follows st f n x → n ≡ None → ⊥
opens_or_is_open st f n x a e = by st a.said a.acts
  where
    by : (o : Option Standing) (said : Frame) → Acts o (contents_in f) said n x → ⊥
    by None Opens z = let no : None ≡ Some _ = sym e ∙ z.0 in cc
    by None (Comes iface dst) z = z
    by None (Waits ms word) z = z
    by None Clears z = z
    by (Some s) said z = let no : None ≡ Some z.0 = sym e ∙ z.1 in cc

turn_of : (st : Option Standing) (said : Frame) → IsInTurn (is_some st) said → IsInTurn (is_some (place_if st)) said
turn_of None said t = t
turn_of (Some st) said t = t

-- ---- a frame that follows has no fault
pub fault_or_follows : (st : Option Standing) (f : List ℕ) (n : Option Standing) (x : List ℕ) (y : LineWhy) → HasFault (place_if st) (kind_in f) (contents_in f) y → Follows st f n x → ⊥
fault_or_follows st f n x why.Word e a = let no : None ≡ Some a.said = sym e ∙ a.reads in cc
fault_or_follows st f n x why.Late e a =
    let said : e.said ≡ a.said = same_Some e.said a.said (sym e.reads ∙ a.reads) in
    e.out (subst (λ (s : Frame). IsInTurn (is_some (place_if st)) s) (sym said) (turn_of st a.said a.in_turn))
fault_or_follows st f n x why.Range e a =
    let said : e.said ≡ a.said = same_Some e.said a.said (sym e.reads ∙ a.reads) in
    e.out (subst (λ (s : Frame). IsInRange (place_if st) (contents_in f) s) (sym said) a.in_range)
fault_or_follows st f n x why.Name e a = e
fault_or_follows st f n x why.Twice e a = e
fault_or_follows st f n x why.Limit e a = e
fault_or_follows st f n x why.Over e a = e

-- ---- and a bad one has one fault
module _ (p : Option NodeConfig) (kind : ℕ) (contents : List ℕ) where
  late_or_range : IsOutOfTurn p kind contents → IsOutOfRange p kind contents → ⊥
  late_or_range a b =
      let said : a.said ≡ b.said = same_Some a.said b.said (sym a.reads ∙ b.reads) in
      a.out (subst (λ (s : Frame). IsInTurn (is_some p) s) (sym said) b.in_turn)

  pub fault_one : (v w : LineWhy) → HasFault p kind contents v → HasFault p kind contents w → v ≡ w
  fault_one why.Word why.Word a b = refl
  fault_one why.Word why.Late a b = let no : None ≡ Some b.said = sym a ∙ b.reads in absurd (cc)
  fault_one why.Word why.Range a b = let no : None ≡ Some b.said = sym a ∙ b.reads in absurd (cc)
  fault_one why.Late why.Word a b = let no : None ≡ Some a.said = sym b ∙ a.reads in absurd (cc)
  fault_one why.Late why.Late a b = refl
  fault_one why.Late why.Range a b = absurd (late_or_range a b)
  fault_one why.Range why.Word a b = let no : None ≡ Some a.said = sym b ∙ a.reads in absurd (cc)
  fault_one why.Range why.Late a b = absurd (late_or_range b a)
  fault_one why.Range why.Range a b = refl
  fault_one why.Word why.Name a b = absurd b
  fault_one why.Word why.Twice a b = absurd b
  fault_one why.Word why.Limit a b = absurd b
  fault_one why.Word why.Over a b = absurd b
  fault_one why.Late why.Name a b = absurd b
  fault_one why.Late why.Twice a b = absurd b
  fault_one why.Late why.Limit a b = absurd b
  fault_one why.Late why.Over a b = absurd b
  fault_one why.Range why.Name a b = absurd b
  fault_one why.Range why.Twice a b = absurd b
  fault_one why.Range why.Limit a b = absurd b
  fault_one why.Range why.Over a b = absurd b
  fault_one why.Name w a b = absurd a
  fault_one why.Twice w a b = absurd a
  fault_one why.Limit w a b = absurd a
  fault_one why.Over w a b = absurd a
