-- What serving frames does: where the router stands behind them, and what is written.
use Rattle.std.specs.Prelude.{◌≡◌, ℕ, List, [], ◌∷◌, ◌++◌, Option, None, Some, is_some}
use Rattle.std.specs.List.{flat_map}
use Rattle.message_codec.specs.Encoding.{encoding}
use Rattle.network_replay.specs.Following.{IsArrival}
use Rattle.node_stream.specs.Answers.{heard_frame, sent_frame}
use Rattle.node_stream.specs.Layout.{datagram_in, frame_of}
use Rattle.node_stream.specs.Rules.{IsInRange, IsInTurn, place_in}
use Rattle.node_stream.specs.declared.frame.Frame.{Frame}
use Rattle.node_stream.specs.declared.frame.Frame.TheVariants.{Opens, Comes, Waits, Clears}
use Rattle.router_rules.specs.Facts.{Facts, no_facts}
use Rattle.router_rules.specs.Inputs.{Arrival, Came, Clear, Input, Send, Wait}
use Rattle.router_rules.specs.NodeConfig.{NodeConfig}
use Rattle.router_rules.specs.Rule.{facts_after, heard_after, sent_after}
use Rattle.router_rules.specs.Steps.{clock_after}
use Rattle.rsvp_base.specs.declared.addr.Addr.{Addr}
use Rattle.node_stream.specs.Frames.{IsFrame, contents_in, kind_in}

-- a router between two frames: its place, the milliseconds that passed since it was opened, and its facts
pub record Standing : Type 0 where
  pub place : NodeConfig
  pub clock : ℕ
  pub facts : Facts

abbrev pub place_if : Option Standing → Option NodeConfig
place_if None = None
place_if (Some st) = Some st.place

-- ---- one input, by the rule of a router
abbrev pub behind : Standing → Input → Standing
behind st i = record { place = st.place; clock = clock_after st.clock i; facts = facts_after st.place st.place (clock_after st.clock i) i st.facts }

abbrev pub sends_for : Standing → Input → List Send
sends_for st i = sent_after st.place st.place (clock_after st.clock i) i st.facts

-- a frame for each message that is sent, in order
abbrev pub frame_with : Send → List ℕ
frame_with s = sent_frame s.iface s.dst (encoding s.message)

abbrev pub frames_with : List Send → List ℕ
frames_with sends = flat_map frame_with sends

-- ---- one frame
-- a datagram: what is sent for it, and then what was made of it
pub record IsHeard (st : Standing) (iface : ℕ) (dst : Addr) (datagram : List ℕ) (new : Standing) (text : List ℕ) : Type 0 where
  pub arrival : Arrival
  pub reads : IsArrival datagram arrival
  pub stands : new ≡ behind st (Came iface dst arrival)
  pub text_is : text ≡ frames_with (sends_for st (Came iface dst arrival)) ++ heard_frame (heard_after st.place st.clock iface dst arrival st.facts)

-- another input: what is sent for it
pub record IsDone (st : Standing) (i : Input) (new : Standing) (text : List ℕ) : Type 0 where
  pub stands : new ≡ behind st i
  pub text_is : text ≡ frames_with (sends_for st i)

abbrev pub IsAnswered : Standing → List ℕ → Frame → Standing → List ℕ → Type 0
IsAnswered st contents Opens new text = ⊥
IsAnswered st contents (Comes iface dst) new text = IsHeard st iface dst (datagram_in contents) new text
IsAnswered st contents (Waits ms word) new text = IsDone st (Wait ms word) new text
IsAnswered st contents Clears new text = IsDone st Clear new text

-- a router that was just opened
abbrev pub opened : List ℕ → Standing
opened contents = record { place = place_in contents; clock = 0; facts = no_facts }

abbrev pub Acts : Option Standing → List ℕ → Frame → Option Standing → List ℕ → Type 0
Acts None contents Opens new text = (new ≡ Some (opened contents)) × (text ≡ [])
Acts None contents _ new text = ⊥
Acts (Some st) contents said new text = (then : Standing) × (new ≡ Some then) × IsAnswered st contents said then text

-- a frame that may stand there, and what is written for it
pub record Follows (st : Option Standing) (frame : List ℕ) (new : Option Standing) (text : List ℕ) : Type 0 where
  pub whole : IsFrame frame
  pub said : Frame
  pub reads : frame_of (kind_in frame) (contents_in frame) ≡ Some said
  pub in_turn : IsInTurn (is_some st) said
  pub in_range : IsInRange (place_if st) (contents_in frame) said
  pub acts : Acts st (contents_in frame) said new text

-- ---- frames, one after the other
abbrev pub HasServed : Option Standing → List (List ℕ) → Option Standing → List ℕ → Type 0
HasServed st [] new text = (new ≡ st) × (text ≡ [])
HasServed st (frame ∷ frames) new text =
    (mid : Option Standing) × (own : List ℕ) × (rest : List ℕ) × Follows st frame mid own × HasServed mid frames new rest × (text ≡ own ++ rest)

-- from the start of the stream
pub record HasRun (frames : List (List ℕ)) (text : List ℕ) : Type 0 where
  pub standing : Option Standing
  pub served : HasServed None frames standing text
