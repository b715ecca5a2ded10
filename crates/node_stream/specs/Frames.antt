-- Bytes as frames, one after the other.
use Rattle.std.specs.Prelude.{◌≡◌, ℕ, ◌+◌, ◌<◌, ◌≤◌, List, length, drop}
use Rattle.rsvp_objects.specs.Fields.{byte_at}
use Rattle.node_stream.specs.Layout.{length_at}

-- a head of three bytes, and as many behind it as it says
pub record IsFrame (frame : List ℕ) : Type 0 where
  pub head : 3 ≤ length frame
  pub whole : length frame ≡ 3 + length_at frame

-- nothing, or the front of a frame that is not whole
abbrev pub IsPart : List ℕ → Type 0
IsPart front = 3 ≤ length front → length front < 3 + length_at front

-- no more than a frame
abbrev pub IsFront : List ℕ → Type 0
IsFront front = 3 ≤ length front → length front ≤ 3 + length_at front

abbrev pub kind_in : List ℕ → ℕ
kind_in frame = byte_at 0 frame

abbrev pub contents_in : List ℕ → List ℕ
contents_in frame = drop 3 frame
