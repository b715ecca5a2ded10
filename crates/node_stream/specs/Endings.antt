-- How the service of a stream ended: what it took of its source, and what it wrote.
use Rattle.std.specs.Prelude.{◌≡◌, ◌⊎◌, ℕ, ◌+◌, ◌<◌, ◌≤◌, List, [], ◌∷◌, ◌++◌, length, take, Option, Some}
use Rattle.std.specs.List.{concat}
use Rattle.byte_streams.specs.Runs.{IsRun}
use Rattle.script_words.specs.Lines.{line_number}
use Rattle.script_words.specs.declared.fault.LineWhy.{LineWhy}
use Rattle.script_words.specs.declared.fault.LineWhy.TheVariants as why
use Rattle.node_stream.specs.Advice.{IsAdvice}
use Rattle.node_stream.specs.Blames.{IsBlamed, why_of}
use Rattle.node_stream.specs.Layout.{frame_of, length_at}
use Rattle.node_stream.specs.Rules.{AreNumbersInRange, HasFault}
use Rattle.node_stream.specs.declared.blame.Blame.{Blame}
use Rattle.node_stream.specs.declared.blame.Blame.TheVariants.{Head, Cut}
use Rattle.node_stream.specs.declared.frame.Frame.TheVariants.{Opens}
use Rattle.node_stream.specs.Frames.{IsFrame, IsFront, IsPart, contents_in, kind_in}
use Rattle.node_stream.specs.Serving.{HasRun, Standing, place_if}
use Rattle.node_stream.specs.declared.ending.Ending.{Ending}
use Rattle.node_stream.specs.declared.ending.Ending.TheVariants.{Done, BadFrame, ReadFault, WriteFault, NoMemory, TooLong}

-- the most bytes of a stream
abbrev pub most_bytes : ℕ
most_bytes = 4294967296

-- the most that are asked for at a time
abbrev pub most_at_once : ℕ
most_at_once = 4096

-- ---- the whole
-- these bytes are frames, and this is what is written for them
pub record IsWhole (bytes text : List ℕ) : Type 0 where
  pub frames : List (List ℕ)
  pub parts : bytes ≡ concat frames
  pub ran : HasRun frames text

-- ---- a bad frame
-- the input ends inside it
pub record IsCut (last after : List ℕ) (y : LineWhy) : Type 0 where
  pub some : 0 < length last
  pub part : IsPart last
  pub ends : after ≡ []
  pub why_is : y ≡ why.Word

-- or it is whole, and has this fault, where the router stands there or is not open
pub record IsFaulty (st : Option Standing) (last : List ℕ) (y : LineWhy) : Type 0 where
  pub whole : IsFrame last
  pub fault : HasFault (place_if st) (kind_in last) (contents_in last) y

-- the frame of this number is the first bad one, for this reason, and this is what is written for those before it
pub record IsFirstBad (number : ℕ) (y : LineWhy) (bytes text : List ℕ) : Type 0 where
  pub before : List (List ℕ)
  pub last : List ℕ
  pub after : List ℕ
  pub parts : bytes ≡ concat before ++ (last ++ after)
  pub ran : HasRun before text
  pub bad : IsCut last after y ⊎ IsFaulty ran.standing last y
  pub counted : number ≡ line_number (length before)

-- ---- advice on it
-- what is to blame where the input ends inside a frame of which this came
abbrev pub IsCutBlame : List ℕ → Blame → Type 0
IsCutBlame last Head = length last < 3
IsCutBlame last (Cut kind wanted got) = (kind ≡ kind_in last) × (wanted ≡ length_at last) × (length last ≡ 3 + got) × (got < wanted)
IsCutBlame last _ = ⊥

abbrev pub IsBlameOf : Option Standing → List ℕ → Blame → Type 0
IsBlameOf st last blame = IsCutBlame last blame ⊎ IsBlamed (place_if st) (kind_in last) (contents_in last) blame

pub record IsAdviceOn (st : Option Standing) (last : List ℕ) (y : LineWhy) (advice : List ℕ) : Type 0 where
  pub blame : Blame
  pub blamed : IsBlameOf st last blame
  pub why_is : why_of blame ≡ y
  pub advised : IsAdvice blame advice

pub record IsAdvisedFrame (number : ℕ) (y : LineWhy) (bytes advice : List ℕ) : Type 0 where
  pub text : List ℕ
  pub first : IsFirstBad number y bytes text
  pub on : IsAdviceOn first.ran.standing first.last y advice

-- the text says what is wrong with the bad frame; where no frame is bad, it is empty
abbrev pub IsAdvised : Ending → List ℕ → List ℕ → Type 0
IsAdvised (BadFrame number y) bytes advice = IsAdvisedFrame number y bytes advice
IsAdvised _ bytes advice = advice ≡ []

-- ---- each ending
-- these frames were served, and no more was taken than of the one behind them
pub record EndedInside (C : List ℕ → Type 0) (taken text : List ℕ) : Type 0 where
  pub before : List (List ℕ)
  pub last : List ℕ
  pub taken_is : taken ≡ concat before ++ last
  pub holds : C last
  pub ran : HasRun before text

-- the frame that was taken last was served, and a prefix of what is written for it was written
pub record EndedWriting (taken text : List ℕ) : Type 0 where
  pub before : List (List ℕ)
  pub last : List ℕ
  pub taken_is : taken ≡ concat before ++ last
  pub said : List ℕ
  pub own : List ℕ
  pub ran : HasRun before said
  pub ran_with : HasRun (before ++ last ∷ []) (said ++ own)
  pub count : ℕ
  pub front : count ≤ length own
  pub text_is : text ≡ said ++ take count own

-- the frame that opens the router, whose numbers are in range
pub record IsOpening (frame : List ℕ) : Type 0 where
  pub whole : IsFrame frame
  pub reads : frame_of (kind_in frame) (contents_in frame) ≡ Some Opens
  pub in_range : AreNumbersInRange (contents_in frame)

-- Service over these bytes, which took these first ones and wrote this text, may end so. No byte past the frame at which it ended
-- was taken.
abbrev pub EndedSo : Ending → List ℕ → List ℕ → List ℕ → Type 0
EndedSo Done bytes taken text = (taken ≡ bytes) × IsWhole bytes text
EndedSo (BadFrame number y) bytes taken text = (first : IsFirstBad number y bytes text) × (taken ≡ concat first.before ++ first.last)
EndedSo ReadFault bytes taken text = EndedInside IsPart taken text
EndedSo WriteFault bytes taken text = EndedWriting taken text
EndedSo NoMemory bytes taken text = ((taken ≡ []) ⊎ IsOpening taken) × (text ≡ [])
EndedSo TooLong bytes taken text = EndedInside IsFront taken text

-- so many bytes were taken: more than a stream may have exactly where that is how it ended, and then it ended at once
abbrev pub CanTake : Ending → ℕ → Type 0
CanTake TooLong n = (most_bytes < n) × (n ≤ most_bytes + most_at_once)
CanTake _ n = n ≤ most_bytes

-- bytes were taken of a source and a text was written to a sink, and service ended so
abbrev pub IsServed : Ending → Option (List ℕ) → Option (List ℕ) → Option (List ℕ) → Option (List ℕ) → Type 0
IsServed ending old new before after = IsRun CanTake EndedSo ending old new before after

-- ---- What serving these bytes comes to, and what it writes, unless a fault of a device ends it before, or memory runs out.
abbrev pub ComesTo : Ending → List ℕ → List ℕ → Type 0
ComesTo Done bytes text = IsWhole bytes text
ComesTo (BadFrame number y) bytes text = IsFirstBad number y bytes text
ComesTo _ bytes text = ⊥

-- it ended in this way, or memory ran out
abbrev pub IsOrNoMemory : Ending → Ending → Type 0
IsOrNoMemory wanted got = (got ≡ wanted) ⊎ (got ≡ NoMemory)
